-- One token more than the one in question tells whether this one may come, whichever it is.
use Rattle.std.proofs.Common.{◌≡◌, ℕ, suc, ◌<◌, ◌≤◌, Bool, List, [], ◌∷◌, ◌++◌, length, take, nat_lt, Option, Some, None, refl, sym, ap, subst, inl, inr, arith}
use Rattle.std.proofs.lemmas.Bool.{cases_lt, lt-ltb, le-ltb}
use Rattle.snl_lex.specs.declared.kind.Kind.{Kind}
use Rattle.snl_grammar.specs.declared.tree.item.Item.{Item}
use Rattle.snl_grammar.specs.Tokens.{ahead}
use Rattle.snl_grammar.specs.Grammar.Items.{IsItem, IsItemWithin}
use Rattle.snl_grammar.specs.Reading.Items.{fault_of, item_of}
use Rattle.snl_grammar.specs.Viability.{IsViable, IsFaultAt}
use Rattle.snl_syntax.specs.Recognized.{recognized}
use Rattle.snl_expected.specs.Expected.{IsWhether, MayCome, asked, comes, goes_past}

-- Only the first n tokens count.
pub viable_by : (a b : List Kind) (n : ℕ) → take n a ≡ take n b → IsViable a n → IsViable b n
viable_by a b n e v =
    record { to_come = v.to_come; tree = v.tree; free = v.free; extra = v.extra; held = v.held; item = subst (λ (l : List Kind). IsItemWithin v.free v.extra 99 v.tree (ahead (l ++ v.to_come) 0) []) e v.item }

length_asked : (ks : List Kind) (k : Kind) → length (asked ks k) ≡ suc (suc (length ks))
length_asked [] k = refl
length_asked (x ∷ ks) k = ap suc (length_asked ks k)

take_asked : (ks : List Kind) (k : Kind) → take (suc (length ks)) (asked ks k) ≡ take (suc (length ks)) (ks ++ k ∷ [])
take_asked [] k = refl
take_asked (x ∷ ks) k = ap (λ (l : List Kind). x ∷ l) (take_asked ks k)

module _ (whole : (kinds : List Kind) (t : Item) → IsItem t kinds → IsViable kinds (length kinds))
    (shorter : (kinds : List Kind) (n m : ℕ) → m ≤ n → IsViable kinds n → IsViable kinds m)
    (told : (kinds : List Kind) (t : Item) → item_of kinds ≡ Some t → IsItem t kinds)
    (blamed : (kinds : List Kind) → 0 < length kinds → item_of kinds ≡ None → IsFaultAt kinds (fault_of kinds))
    (before : List Kind) (next : Kind) where
  abbrev all : List Kind
  all = asked before next

  back : IsViable all (suc (length before)) → MayCome before next
  back v = viable_by all (before ++ next ∷ []) (suc (length before)) (take_asked before next) v

  forth : MayCome before next → IsViable all (suc (length before))
  forth v = viable_by (before ++ next ∷ []) all (suc (length before)) (sym (take_asked before next)) v

  in_item : (t : Item) → IsItem t all → MayCome before next
  in_item t is =
      let long = length_asked before next in
      back (shorter all (length all) (suc (length before)) (omega (arith, long)) (whole all t is))

  later : (at : ℕ) → IsFaultAt all at → length before < at → MayCome before next
  later at f lt = back (f.before (suc (length before)) lt)

  never : (at : ℕ) → IsFaultAt all at → at ≤ length before → MayCome before next → ⊥
  never at f le v = elim f.here [
    | inl none ↦ none (shorter all (suc (length before)) (suc at) (omega (arith, le)) (forth v))
    | inr short ↦ let last = short.last in let long = length_asked before next in absurd (omega (arith, last, long, le))
  ]

  whether : (at : ℕ) → IsFaultAt all at → IsWhether (nat_lt (length before) at) (MayCome before next)
  whether at f = elim (cases_lt (length before) at) [
    | inl lt ↦ subst (λ (b : Bool). IsWhether b (MayCome before next)) (sym (lt-ltb (length before) at lt)) (later at f lt)
    | inr le ↦ subst (λ (b : Bool). IsWhether b (MayCome before next)) (sym (le-ltb (length before) at le)) (never at f le)
  ]

  by_reader : (o : Option Item) → item_of all ≡ o → IsWhether (goes_past (length before) (recognized all o)) (MayCome before next)
  by_reader (Some t) e = in_item t (told all t e)
  by_reader None e = let long = length_asked before next in whether (fault_of all) (blamed all (omega (arith, long)) e)

  pub what_comes : IsWhether (comes before next) (MayCome before next)
  what_comes = by_reader (item_of all) refl
