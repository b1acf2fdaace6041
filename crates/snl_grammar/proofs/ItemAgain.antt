-- Items of the grammar are read again. After a header no `(` may follow.
use Rattle.std.proofs.Common.{◌≡◌, ℕ, suc, ◌-◌, true, false, List, [], ◌∷◌, Option, Some, None, Ok, refl, sym, ap, subst}
use Rattle.snl_lex.specs.declared.kind.Kind.{Kind}
use Rattle.snl_lex.specs.declared.kind.Kind.TheVariants as kind
use Rattle.snl_grammar.specs.declared.tree.state.StateMember.{StateMember}
use Rattle.snl_grammar.specs.declared.tree.item.Item.{Item}
use Rattle.snl_grammar.specs.declared.tree.item.Item.TheVariants as items
use Rattle.snl_grammar.specs.Tokens.{NumberedKind, same}
use Rattle.snl_grammar.specs.Steps.{Reader, and_then, pure, kind_at, expect}
use Rattle.snl_grammar.specs.Grammar.Base.{First, Perhaps}
use Rattle.snl_grammar.specs.Grammar.Expressions.{IsExpr}
use Rattle.snl_grammar.specs.Grammar.Declarations.{IsDeclaration}
use Rattle.snl_grammar.specs.Grammar.Statements.{IsBlockWithin}
use Rattle.snl_grammar.specs.Grammar.Functions.{IsParameter}
use Rattle.snl_grammar.specs.Grammar.States.{IsState}
use Rattle.snl_grammar.specs.Grammar.Items.{AreBracketed, IsHeader, IsSetBegin, IsItemWithin, header as is_header, set_begin as is_set_begin, set_end as is_set_end, empty as is_empty, c_block as is_c_block, foreign as is_foreign, clause as is_clause, option_line as is_option, entry as is_entry, exit as is_exit, state as is_state, typed as is_typed}
use Rattle.snl_grammar.specs.Reading.Types.{begins_type}
use Rattle.snl_grammar.specs.Reading.Expressions.{texts}
use Rattle.snl_grammar.specs.Reading.Clauses.{foreign, option_line, clause, begins_clause}
use Rattle.snl_grammar.specs.Reading.Statements.{block}
use Rattle.snl_grammar.specs.Reading.Functions.{typed_item}
use Rattle.snl_grammar.specs.Reading.States.{entry_block, exit_block, state_members}
use Rattle.snl_grammar.specs.Reading.Items.{some_texts, texts_by, texts_part, header, set_begin, c_block, foreign_item, clause_item, option_item, entry_item, exit_item, state_item, item_by, item, ended, whole_item}
use Rattle.snl_grammar.proofs.Depths.{one_less}
use Rattle.snl_grammar.proofs.Again.{ReadsBack, read, reads_back_at, reads_back_as, reads_back_from, bind_reads_back, pure_reads_back, expect_reads_back, first_reads_back, kind_first, Lacks, first_lacks}
use Rattle.snl_grammar.proofs.TypeLaws.{word_reads_back}
use Rattle.snl_grammar.proofs.ExpressionAgain.{texts_reads_back}
use Rattle.snl_grammar.proofs.ClauseAgain.{foreign_reads_back, option_line_reads_back, clause_reads_back}
use Rattle.snl_grammar.proofs.TypedAgain.{typed_item_again, typed_item_begins}
use Rattle.snl_grammar.proofs.StateAgain.{entry_block_reads_back, exit_block_reads_back, clause_first, state_members_reads_back}

-- ---- headers and state sets

no_texts_by : (d : Kind) (k : List NumberedKind) → same d kind.OpenParen ≡ false → texts_by (Some d) k ≡ Ok (None, k)
no_texts_by kind.OpenParen k e = absurd cc
no_texts_by _ k e = refl

module _ (free : ℕ) where
  no_texts : (k : List NumberedKind) → Lacks kind.OpenParen k → ReadsBack free (texts_part k) None k
  unfolding texts_part kind_at
  no_texts [] h = read refl
  no_texts (s ∷ k) h = read (no_texts_by s.0 (s ∷ k) h)

  some_texts_reads_back : (ns : List ℕ) (k rest : List NumberedKind) → AreBracketed ns k rest → ReadsBack free (some_texts k) (Some ns) rest
  unfolding some_texts
  some_texts_reads_back ns k rest is =
      bind_reads_back free (expect kind.OpenParen k) _ is.opening.0 is.m1 (Some ns) rest (first_reads_back free kind.OpenParen k is.m1 is.opening)
      (bind_reads_back free (texts is.m1) _ ns is.m2 (Some ns) rest (texts_reads_back free ns is.m1 is.m2 is.strings (first_lacks kind.CloseParen kind.Text is.m2 rest refl is.closing))
      (bind_reads_back free (expect kind.CloseParen is.m2) _ is.closing.0 rest (Some ns) rest (first_reads_back free kind.CloseParen is.m2 rest is.closing) (pure_reads_back free (Some ns) rest)))

  texts_part_reads_back : (ns : Option (List ℕ)) (k rest : List NumberedKind) → Perhaps AreBracketed ns k rest → Lacks kind.OpenParen rest → ReadsBack free (texts_part k) ns rest
  unfolding texts_part
  texts_part_reads_back None k rest is h = reads_back_from free texts_part k rest None rest is (no_texts rest h)
  texts_part_reads_back (Some ns) k rest is h = reads_back_at free (texts_part k) (some_texts k) (Some ns) rest (ap (λ o. texts_by o k) (kind_first kind.OpenParen k is.m1 is.opening)) (some_texts_reads_back ns k rest is)

  header_reads_back : (n : ℕ) (ns : Option (List ℕ)) (k rest : List NumberedKind) → IsHeader n ns k rest → Lacks kind.OpenParen rest → ReadsBack free (header k) (items.Header n ns) rest
  unfolding header
  header_reads_back n ns k rest is h =
      bind_reads_back free (expect kind.Program k) _ is.word.0 is.m1 (items.Header n ns) rest (first_reads_back free kind.Program k is.m1 is.word)
      (bind_reads_back free (expect kind.Name is.m1) _ n is.m2 (items.Header n ns) rest (expect_reads_back free kind.Name n is.m1 is.m2 is.name)
      (bind_reads_back free (texts_part is.m2) _ ns rest (items.Header n ns) rest (texts_part_reads_back ns is.m2 rest is.parameters h) (pure_reads_back free (items.Header n ns) rest)))

  set_begin_reads_back : (n : ℕ) (k rest : List NumberedKind) → IsSetBegin n k rest → ReadsBack free (set_begin k) (items.SsBegin n) rest
  unfolding set_begin
  set_begin_reads_back n k rest is =
      bind_reads_back free (expect kind.Ss k) _ is.word.0 is.m1 (items.SsBegin n) rest (first_reads_back free kind.Ss k is.m1 is.word)
      (bind_reads_back free (expect kind.Name is.m1) _ n is.m2 (items.SsBegin n) rest (expect_reads_back free kind.Name n is.m1 is.m2 is.name)
      (bind_reads_back free (expect kind.OpenBrace is.m2) _ is.opening.0 rest (items.SsBegin n) rest (first_reads_back free kind.OpenBrace is.m2 rest is.opening) (pure_reads_back free (items.SsBegin n) rest)))

-- ---- by the first token

clause_by : (depth : ℕ) (o : Option Kind) → begins_clause o ≡ true → item_by depth o ≡ clause_item
clause_by depth (Some kind.Assign) e = refl
clause_by depth (Some kind.Monitor) e = refl
clause_by depth (Some kind.Sync) e = refl
clause_by depth (Some kind.Syncq) e = refl
clause_by depth (Some kind.SyncqCapital) e = refl
clause_by depth _ e = absurd cc

typed_by : (depth : ℕ) (o : Option Kind) → begins_type o ≡ true → item_by depth o ≡ typed_item depth (block depth)
typed_by depth (Some kind.Program) e = absurd cc
typed_by depth (Some kind.Ss) e = absurd cc
typed_by depth (Some kind.CloseBrace) e = absurd cc
typed_by depth (Some kind.Semicolon) e = absurd cc
typed_by depth (Some kind.CCode) e = absurd cc
typed_by depth (Some kind.Foreign) e = absurd cc
typed_by depth (Some kind.Option) e = absurd cc
typed_by depth (Some kind.Assign) e = absurd cc
typed_by depth (Some kind.Monitor) e = absurd cc
typed_by depth (Some kind.Sync) e = absurd cc
typed_by depth (Some kind.Syncq) e = absurd cc
typed_by depth (Some kind.SyncqCapital) e = absurd cc
typed_by depth (Some kind.Entry) e = absurd cc
typed_by depth (Some kind.Exit) e = absurd cc
typed_by depth (Some kind.State) e = absurd cc
typed_by depth _ e = refl

module _ (free extra depth : ℕ) where
  abbrev I : Item → List NumberedKind → List NumberedKind → Type 0
  I = IsItemWithin free extra depth

  by_first : (x : Kind) (k m : List NumberedKind) → First x k m → item (suc (suc depth)) k ≡ item_by (suc (suc depth)) (Some x) k
  unfolding item
  by_first x k m f = ap (λ o. item_by (suc (suc depth)) o k) (kind_first x k m f)

  by_clause : (k : List NumberedKind) → begins_clause (kind_at k) ≡ true → item (suc (suc depth)) k ≡ clause_item k
  unfolding item
  by_clause k e = ap (λ (p : Reader Item). p k) (clause_by (suc (suc depth)) (kind_at k) e)

  by_type : (k : List NumberedKind) → begins_type (kind_at k) ≡ true → item (suc (suc depth)) k ≡ typed_item (suc (suc depth)) (block (suc (suc depth))) k
  unfolding item
  by_type k e = ap (λ (p : Reader Item). p k) (typed_by (suc (suc depth)) (kind_at k) e)

  -- an item whose first token says how it is read
  known : (x : Kind) (made y : Item) (k mid rest : List NumberedKind) → y ≡ made → First x k mid → ReadsBack free (item_by (suc (suc depth)) (Some x) k) made rest → ReadsBack free (item (suc (suc depth)) k) y rest
  known x made y k mid rest is f c = reads_back_at free (item (suc (suc depth)) k) (item_by (suc (suc depth)) (Some x) k) y rest (by_first x k mid f) (reads_back_as free _ made y rest (sym is) c)

  -- an item that another reader reads
  made_reads_back : {A : Type 0} (p : Reader A) (make : A → Item) (x : A) (y : Item) (k rest : List NumberedKind) → y ≡ make x → ReadsBack free (p k) x rest → item (suc (suc depth)) k ≡ and_then (p k) (λ z. pure (make z)) → ReadsBack free (item (suc (suc depth)) k) y rest
  made_reads_back p make x y k rest is c at =
      reads_back_at free (item (suc (suc depth)) k) _ y rest at
      (reads_back_as free _ (make x) y rest (sym is) (bind_reads_back free (p k) _ x rest (make x) rest c (pure_reads_back free (make x) rest)))

  members_reads_back : (ms : List StateMember) (n : ℕ) (k rest : List NumberedKind) (is : IsState (IsExpr free extra depth) (IsDeclaration free extra (suc depth)) (IsBlockWithin free extra (suc depth)) n ms k rest) → ReadsBack free (state_members (suc (suc depth) - 1) is.m2) ms rest
  members_reads_back ms n k rest is = subst (λ i. ReadsBack free (state_members i is.m2) ms rest) (sym (one_less (suc depth))) (state_members_reads_back free extra depth ms is.m2 is.m3 is.m4 rest is.opening is.members is.closing)

  state_reads_back : (n : ℕ) (ms : List StateMember) (k rest : List NumberedKind) → IsState (IsExpr free extra depth) (IsDeclaration free extra (suc depth)) (IsBlockWithin free extra (suc depth)) n ms k rest → ReadsBack free (state_item (suc (suc depth)) k) (items.StateBlock n ms) rest
  unfolding state_item
  state_reads_back n ms k rest is =
      bind_reads_back free (expect kind.State k) _ is.word.0 is.m1 (items.StateBlock n ms) rest (first_reads_back free kind.State k is.m1 is.word)
      (bind_reads_back free (expect kind.Name is.m1) _ n is.m2 (items.StateBlock n ms) rest (expect_reads_back free kind.Name n is.m1 is.m2 is.name)
      (bind_reads_back free (state_members (suc (suc depth) - 1) is.m2) _ ms rest (items.StateBlock n ms) rest (members_reads_back ms n k rest is) (pure_reads_back free (items.StateBlock n ms) rest)))

  pub item_reads_back : (y : Item) (k rest : List NumberedKind) → I y k rest → Lacks kind.OpenParen rest → ReadsBack free (item (suc (suc depth)) k) y rest
  unfolding c_block foreign_item option_item clause_item entry_item exit_item
  item_reads_back y k rest (is_header n ns e is) h = known kind.Program (items.Header n ns) y k is.m1 rest e is.word (header_reads_back free n ns k rest is h)
  item_reads_back y k rest (is_set_begin n e is) h = known kind.Ss (items.SsBegin n) y k is.m1 rest e is.word (set_begin_reads_back free n k rest is)
  item_reads_back y k rest (is_set_end e f) h = known kind.CloseBrace items.SsEnd y k rest rest e f (word_reads_back free kind.CloseBrace items.SsEnd k rest f)
  item_reads_back y k rest (is_empty e f) h = known kind.Semicolon items.Empty y k rest rest e f (word_reads_back free kind.Semicolon items.Empty k rest f)
  item_reads_back y k rest (is_c_block n e leaf) h = made_reads_back (expect kind.CCode) items.CBlock n y k rest e (expect_reads_back free kind.CCode n k rest leaf) (by_first kind.CCode k rest (n, leaf))
  item_reads_back y k rest (is_foreign ns e is) h = made_reads_back foreign items.Foreign ns y k rest e (foreign_reads_back free ns k rest is) (by_first kind.Foreign k is.m1 is.word)
  item_reads_back y k rest (is_clause c e is) h = made_reads_back clause items.Clause c y k rest e (clause_reads_back free c k rest is) (by_clause k (clause_first c k rest is))
  item_reads_back y k rest (is_option o e is) h = made_reads_back option_line items.OptionLine o y k rest e (option_line_reads_back free o k rest is) (by_first kind.Option k is.m1 is.word)
  item_reads_back y k rest (is_entry b e is) h = made_reads_back (entry_block (block (suc (suc depth)))) items.Entry b y k rest e (entry_block_reads_back free extra (suc (suc depth)) b k rest is) (by_first kind.Entry k is.mid is.first)
  item_reads_back y k rest (is_exit b e is) h = made_reads_back (exit_block (block (suc (suc depth)))) items.Exit b y k rest e (exit_block_reads_back free extra (suc (suc depth)) b k rest is) (by_first kind.Exit k is.mid is.first)
  item_reads_back y k rest (is_state n ms e is) h = known kind.State (items.StateBlock n ms) y k is.m1 rest e is.word (state_reads_back n ms k rest is)
  item_reads_back y k rest (is_typed is) h = reads_back_at free (item (suc (suc depth)) k) _ y rest (by_type k (typed_item_begins free extra (suc (suc depth)) (IsDeclaration free extra (suc depth)) (IsParameter free extra (suc depth)) (IsBlockWithin free extra (suc (suc depth))) y k rest is)) (typed_item_again free extra (suc depth) y k rest is)

  -- an item after which the tokens end
  pub whole_item_reads_back : (y : Item) (k : List NumberedKind) → I y k [] → ReadsBack free (whole_item (suc (suc depth)) k) y []
  unfolding whole_item ended kind_at
  whole_item_reads_back y k is = bind_reads_back free (item (suc (suc depth)) k) ended y [] y [] (item_reads_back y k [] is tt) (pure_reads_back free y [])
