-- The item that is read is in the grammar, and no other consists of the same tokens.
use Rattle.std.proofs.Common.{◌≡◌, ℕ, suc, List, [], ◌++◌, Some, None, Ok, Err, refl, sym, ap, subst, ◌∙◌}
use Rattle.snl_lex.specs.declared.kind.Kind.{Kind}
use Rattle.snl_grammar.specs.declared.tree.item.Item.{Item}
use Rattle.snl_grammar.specs.Tokens.{NumberedKind, ahead}
use Rattle.snl_grammar.specs.Steps.{Outcome}
use Rattle.snl_grammar.specs.Grammar.Items.{IsItemWithin, IsItem}
use Rattle.snl_grammar.specs.Reading.Items.{item, ended, whole_item, levels, tree_of, item_of}
use Rattle.snl_grammar.proofs.Local.{bind_ok}
use Rattle.snl_grammar.proofs.Again.{ReadsBack, read, late}
use Rattle.snl_grammar.proofs.ItemViable.{item_completable}
use Rattle.snl_grammar.proofs.ItemAgain.{whole_item_reads_back}
use Rattle.snl_grammar.proofs.ItemEnds.{ended_is, whole_ends}

-- what is read of an item and the end is in the grammar, whichever tokens are free
module _ (free extra depth : ℕ) where
  takes_all : (k : List NumberedKind) (t x : Item) (m : List NumberedKind) → item (suc (suc depth)) k ≡ Ok (x, m) → ended x m ≡ Ok (t, []) → IsItemWithin free extra depth t k []
  takes_all k t x m e1 e2 =
      let u = (item_completable free extra depth).viable.takes k x m e1 in
      let v = ended_is x m t [] e2 in
      let all : u.0 ++ [] ≡ k = ap (λ (l : List NumberedKind). u.0 ++ l) (sym v.1) ∙ sym u.1 in
      subst (λ y. IsItemWithin free extra depth y k []) v.0 (subst (λ l. IsItemWithin free extra depth x l []) all (u.2 []))

  pub whole_takes : (k : List NumberedKind) (t : Item) → whole_item (suc (suc depth)) k ≡ Ok (t, []) → IsItemWithin free extra depth t k []
  unfolding whole_item
  whole_takes k t e = bind_ok (item (suc (suc depth)) k) ended (t, []) e (takes_all k t)

tree_read : (o : Outcome Item) (t : Item) → tree_of o ≡ Some t → ((x : Item) (m : List NumberedKind) → o ≡ Ok (x, m) → m ≡ []) → o ≡ Ok (t, [])
tree_read (Ok p) t e ends =
    let same : p.0 ≡ t = cc in
    ap (λ x. Ok (x, p.1)) same ∙ ap (λ m. Ok (t, m)) (ends p.0 p.1 refl)
tree_read (Err j) t e ends = absurd cc

pub reads_all : (kinds : List Kind) (t : Item) → item_of kinds ≡ Some t → whole_item levels (ahead kinds 0) ≡ Ok (t, [])
unfolding item_of
reads_all kinds t e = tree_read (whole_item levels (ahead kinds 0)) t e (whole_ends levels (ahead kinds 0))

pub item_found : (kinds : List Kind) (t : Item) → item_of kinds ≡ Some t → IsItem t kinds
item_found kinds t e = whole_takes 0 0 99 (ahead kinds 0) t (reads_all kinds t e)

reads_back_some : (o : Outcome Item) (t : Item) → ReadsBack 0 o t [] → tree_of o ≡ Some t
reads_back_some o t (read e) = ap tree_of e
reads_back_some o t (late j e h) = absurd h

pub item_read : (kinds : List Kind) (t : Item) → IsItem t kinds → item_of kinds ≡ Some t
unfolding item_of
item_read kinds t is = reads_back_some (whole_item levels (ahead kinds 0)) t (whole_item_reads_back 0 0 99 t (ahead kinds 0) is)

pub one_item : (kinds : List Kind) (t u : Item) → IsItem t kinds → IsItem u kinds → t ≡ u
one_item kinds t u it iu = let same : Some t ≡ Some u = sym (item_read kinds t it) ∙ item_read kinds u iu in cc

pub no_item : (kinds : List Kind) (u : Item) → item_of kinds ≡ None → IsItem u kinds → ⊥
no_item kinds u none is = let some = item_read kinds u is in absurd cc
