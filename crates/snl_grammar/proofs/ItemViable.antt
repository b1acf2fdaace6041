-- What readers of items took is in the grammar, and where they fail, the tokens before can be
-- completed.
use Rattle.std.proofs.Common.{ℕ, suc, ◌-◌, List, [], ◌∷◌, ◌++◌, Option, Some, refl, sym, subst}
use Rattle.snl_lex.specs.declared.kind.Kind.{Kind}
use Rattle.snl_lex.specs.declared.kind.Kind.TheVariants as kind
use Rattle.snl_grammar.specs.declared.tree.statement.Member.{Member}
use Rattle.snl_grammar.specs.declared.tree.state.StateMember.{StateMember}
use Rattle.snl_grammar.specs.declared.tree.item.Item.{Item}
use Rattle.snl_grammar.specs.declared.tree.item.Item.TheVariants as items
use Rattle.snl_grammar.specs.Tokens.{NumberedKind}
use Rattle.snl_grammar.specs.Steps.{Reader, and_then, pure, expect, word}
use Rattle.snl_grammar.specs.Grammar.Base.{First, Leaf, Perhaps}
use Rattle.snl_grammar.specs.Grammar.Expressions.{AreTexts, IsAssignx}
use Rattle.snl_grammar.specs.Grammar.Declarations.{IsInit, IsDeclarationOf, IsDeclaration}
use Rattle.snl_grammar.specs.Grammar.Clauses.{AreForeign, IsOptionLine, IsClause}
use Rattle.snl_grammar.specs.Grammar.Statements.{IsBlockWithin}
use Rattle.snl_grammar.specs.Grammar.Functions.{IsParameter, IsTypedItem}
use Rattle.snl_grammar.specs.Grammar.States.{IsBlockAfter}
use Rattle.snl_grammar.specs.Grammar.Items.{AreBracketed, IsItemWithin, header as is_header, set_begin as is_set_begin, set_end as is_set_end, empty as is_empty, c_block as is_c_block, foreign as is_foreign, clause as is_clause, option_line as is_option, entry as is_entry, exit as is_exit, state as is_state, typed as is_typed}
use Rattle.snl_grammar.specs.Reading.Expressions.{texts}
use Rattle.snl_grammar.specs.Reading.Clauses.{foreign, option_line, clause}
use Rattle.snl_grammar.specs.Reading.Statements.{block}
use Rattle.snl_grammar.specs.Reading.Functions.{typed_item}
use Rattle.snl_grammar.specs.Reading.States.{entry_block, exit_block, state_members}
use Rattle.snl_grammar.specs.Reading.Items.{some_texts, texts_by, texts_part, header, set_begin, c_block, foreign_item, clause_item, option_item, entry_item, exit_item, state_item, item_by, item}
use Rattle.snl_grammar.proofs.Depths.{one_less}
use Rattle.snl_grammar.proofs.Viable.{Viable, Completable, Exists, Both, both, IsNothing, bind_completable, into_completable, choice_viable, expect_completable, pure_completable}
use Rattle.snl_grammar.proofs.TypeLaws.{word_completable, first_then}
use Rattle.snl_grammar.proofs.CommasViable.{texts_completable}
use Rattle.snl_grammar.proofs.Braced.{none_perhaps, perhaps_completable}
use Rattle.snl_grammar.proofs.ClauseViable.{foreign_completable, option_line_completable, clause_completable}
use Rattle.snl_grammar.proofs.StatementViable.{block_within_completable}
use Rattle.snl_grammar.proofs.FunctionViable.{typed_item_completable}
use Rattle.snl_grammar.proofs.StateViable.{AreStateMembers, entry_block_completable, exit_block_completable, state_members_completable}

abbrev Braces : List Kind
Braces = kind.OpenBrace ∷ kind.CloseBrace ∷ []

module _ (free extra depth : ℕ) where
  abbrev I : Item → List NumberedKind → List NumberedKind → Type 0
  I = IsItemWithin free extra depth

  abbrev Block : List Member → List NumberedKind → List NumberedKind → Type 0
  Block = IsBlockWithin free extra (suc (suc depth))

  -- ---- headers and state sets

  into_some_texts : (y : Option (List ℕ)) (k rest : List NumberedKind) → Both (Leaf kind.OpenParen) (λ _. Both AreTexts (λ ts. Both (Leaf kind.CloseParen) (λ _. IsNothing (Some ts)))) y k rest → Perhaps AreBracketed y k rest
  into_some_texts y k rest (both i m1 w1 (both ts m2 w2 (both j m3 w3 h))) = subst (λ z. Perhaps AreBracketed z k rest) h.0 (record { m1 = m1; m2 = m2; opening = (i, w1); strings = w2; closing = first_then kind.CloseParen j m2 m3 rest w3 h.1 })

  some_texts_viable : Viable free extra some_texts (Perhaps AreBracketed) (Exists (Perhaps AreBracketed))
  unfolding some_texts
  some_texts_viable =
      (into_completable free extra some_texts _ (Perhaps AreBracketed) (kind.OpenParen ∷ kind.Text ∷ kind.CloseParen ∷ []) into_some_texts
      (bind_completable free extra (expect kind.OpenParen) _ (Leaf kind.OpenParen) (λ _. Both AreTexts (λ ts. Both (Leaf kind.CloseParen) (λ _. IsNothing (Some ts)))) (kind.OpenParen ∷ []) (kind.Text ∷ kind.CloseParen ∷ []) (expect_completable free extra kind.OpenParen) (λ _.
      bind_completable free extra texts _ AreTexts (λ ts. Both (Leaf kind.CloseParen) (λ _. IsNothing (Some ts))) (kind.Text ∷ []) (kind.CloseParen ∷ []) (texts_completable free extra) (λ ts.
      bind_completable free extra (expect kind.CloseParen) _ (Leaf kind.CloseParen) (λ _. IsNothing (Some ts)) (kind.CloseParen ∷ []) [] (expect_completable free extra kind.CloseParen) (λ _. pure_completable free extra (Some ts)))))).viable

  texts_by_viable : (o : Option Kind) → Viable free extra (texts_by o) (Perhaps AreBracketed) (Exists (Perhaps AreBracketed))
  texts_by_viable (Some kind.OpenParen) = some_texts_viable
  texts_by_viable _ = none_perhaps free extra AreBracketed

  texts_part_completable : Completable free extra texts_part (Perhaps AreBracketed) []
  unfolding texts_part
  texts_part_completable = perhaps_completable free extra AreBracketed texts_by texts_by_viable

  into_header : (y : Item) (k rest : List NumberedKind) → Both (Leaf kind.Program) (λ _. Both (Leaf kind.Name) (λ n. Both (Perhaps AreBracketed) (λ ts. IsNothing (items.Header n ts)))) y k rest → I y k rest
  into_header y k rest (both i m1 w1 (both n m2 w2 (both ts m3 w3 h))) = subst (λ z. I z k rest) h.0 (is_header n ts refl (record { m1 = m1; m2 = m2; word = (i, w1); name = w2; parameters = subst (λ l. Perhaps AreBracketed ts m2 l) h.1 w3 }))

  header_viable : Viable free extra header I (Exists I)
  unfolding header
  header_viable =
      (into_completable free extra header _ I (kind.Program ∷ kind.Name ∷ []) into_header
      (bind_completable free extra (expect kind.Program) _ (Leaf kind.Program) (λ _. Both (Leaf kind.Name) (λ n. Both (Perhaps AreBracketed) (λ ts. IsNothing (items.Header n ts)))) (kind.Program ∷ []) (kind.Name ∷ []) (expect_completable free extra kind.Program) (λ _.
      bind_completable free extra (expect kind.Name) _ (Leaf kind.Name) (λ n. Both (Perhaps AreBracketed) (λ ts. IsNothing (items.Header n ts))) (kind.Name ∷ []) [] (expect_completable free extra kind.Name) (λ n.
      bind_completable free extra texts_part _ (Perhaps AreBracketed) (λ ts. IsNothing (items.Header n ts)) [] [] texts_part_completable (λ ts. pure_completable free extra (items.Header n ts)))))).viable

  into_set_begin : (y : Item) (k rest : List NumberedKind) → Both (Leaf kind.Ss) (λ _. Both (Leaf kind.Name) (λ n. Both (Leaf kind.OpenBrace) (λ _. IsNothing (items.SsBegin n)))) y k rest → I y k rest
  into_set_begin y k rest (both i m1 w1 (both n m2 w2 (both j m3 w3 h))) = subst (λ z. I z k rest) h.0 (is_set_begin n refl (record { m1 = m1; m2 = m2; word = (i, w1); name = w2; opening = first_then kind.OpenBrace j m2 m3 rest w3 h.1 }))

  set_begin_viable : Viable free extra set_begin I (Exists I)
  unfolding set_begin
  set_begin_viable =
      (into_completable free extra set_begin _ I (kind.Ss ∷ kind.Name ∷ kind.OpenBrace ∷ []) into_set_begin
      (bind_completable free extra (expect kind.Ss) _ (Leaf kind.Ss) (λ _. Both (Leaf kind.Name) (λ n. Both (Leaf kind.OpenBrace) (λ _. IsNothing (items.SsBegin n)))) (kind.Ss ∷ []) (kind.Name ∷ kind.OpenBrace ∷ []) (expect_completable free extra kind.Ss) (λ _.
      bind_completable free extra (expect kind.Name) _ (Leaf kind.Name) (λ n. Both (Leaf kind.OpenBrace) (λ _. IsNothing (items.SsBegin n))) (kind.Name ∷ []) (kind.OpenBrace ∷ []) (expect_completable free extra kind.Name) (λ n.
      bind_completable free extra (expect kind.OpenBrace) _ (Leaf kind.OpenBrace) (λ _. IsNothing (items.SsBegin n)) (kind.OpenBrace ∷ []) [] (expect_completable free extra kind.OpenBrace) (λ _. pure_completable free extra (items.SsBegin n)))))).viable

  -- ---- items that another reader reads

  into_made : {A : Type 0} (make : A → Item) (R : A → List NumberedKind → List NumberedKind → Type 0) → ((x : A) (k rest : List NumberedKind) → R x k rest → I (make x) k rest) → (y : Item) (k rest : List NumberedKind) → Both R (λ x. IsNothing (make x)) y k rest → I y k rest
  into_made make R is y k rest (both x m r h) = subst (λ z. I z k rest) h.0 (is x k rest (subst (λ l. R x k l) h.1 r))

  made_viable : {A : Type 0} (p : Reader A) (make : A → Item) (R : A → List NumberedKind → List NumberedKind → Type 0) (some : List Kind) → Completable free extra p R some → ((x : A) (k rest : List NumberedKind) → R x k rest → I (make x) k rest) → Viable free extra (λ k. and_then (p k) (λ x. pure (make x))) I (Exists I)
  made_viable p make R some full is = (into_completable free extra (λ k. and_then (p k) (λ x. pure (make x))) _ I (some ++ []) (into_made make R is) (bind_completable free extra p _ R (λ x. IsNothing (make x)) some [] full (λ x. pure_completable free extra (make x)))).viable

  clause_viable : Viable free extra clause_item I (Exists I)
  unfolding clause_item
  clause_viable = made_viable clause items.Clause IsClause (kind.Assign ∷ kind.Name ∷ kind.Semicolon ∷ []) (clause_completable free extra) (λ c k rest is. is_clause c refl is)

  entry_viable : Viable free extra (entry_item (suc (suc depth))) I (Exists I)
  unfolding entry_item
  entry_viable = made_viable (entry_block (block (suc (suc depth)))) items.Entry (IsBlockAfter kind.Entry Block) (kind.Entry ∷ Braces) (entry_block_completable free extra Block (block (suc (suc depth))) Braces (block_within_completable free extra (suc (suc depth)))) (λ b k rest is. is_entry b refl is)

  exit_viable : Viable free extra (exit_item (suc (suc depth))) I (Exists I)
  unfolding exit_item
  exit_viable = made_viable (exit_block (block (suc (suc depth)))) items.Exit (IsBlockAfter kind.Exit Block) (kind.Exit ∷ Braces) (exit_block_completable free extra Block (block (suc (suc depth))) Braces (block_within_completable free extra (suc (suc depth)))) (λ b k rest is. is_exit b refl is)

  -- ---- states

  abbrev AreMembers : List StateMember → List NumberedKind → List NumberedKind → Type 0
  AreMembers = AreStateMembers free extra depth

  members_completable : Completable free extra (state_members (suc (suc depth) - 1)) AreMembers Braces
  members_completable = subst (λ i. Completable free extra (state_members i) AreMembers Braces) (sym (one_less (suc depth))) (state_members_completable free extra depth)

  into_state : (y : Item) (k rest : List NumberedKind) → Both (Leaf kind.State) (λ _. Both (Leaf kind.Name) (λ n. Both AreMembers (λ ms. IsNothing (items.StateBlock n ms)))) y k rest → I y k rest
  into_state y k rest (both i m1 w1 (both n m2 w2 (both ms m3 w3 h))) = subst (λ z. I z k rest) h.0 (is_state n ms refl (record { m1 = m1; m2 = m2; m3 = w3.0; m4 = w3.1; word = (i, w1); name = w2; opening = w3.2; members = w3.3; closing = subst (λ l. First kind.CloseBrace w3.1 l) h.1 w3.4 }))

  state_viable : Viable free extra (state_item (suc (suc depth))) I (Exists I)
  unfolding state_item
  state_viable =
      (into_completable free extra (state_item (suc (suc depth))) _ I (kind.State ∷ kind.Name ∷ Braces) into_state
      (bind_completable free extra (expect kind.State) _ (Leaf kind.State) (λ _. Both (Leaf kind.Name) (λ n. Both AreMembers (λ ms. IsNothing (items.StateBlock n ms)))) (kind.State ∷ []) (kind.Name ∷ Braces) (expect_completable free extra kind.State) (λ _.
      bind_completable free extra (expect kind.Name) _ (Leaf kind.Name) (λ n. Both AreMembers (λ ms. IsNothing (items.StateBlock n ms))) (kind.Name ∷ []) Braces (expect_completable free extra kind.Name) (λ n.
      bind_completable free extra (state_members (suc (suc depth) - 1)) _ AreMembers (λ ms. IsNothing (items.StateBlock n ms)) Braces [] members_completable (λ ms. pure_completable free extra (items.StateBlock n ms)))))).viable

  -- ---- items that begin with a type

  abbrev Typed : ℕ → Item → List NumberedKind → List NumberedKind → Type 0
  Typed i = IsTypedItem (IsDeclarationOf (IsAssignx free extra i) (IsInit free extra (suc (suc depth)))) (IsDeclaration free extra i) (IsParameter free extra i) Block

  typed_completable : Completable free extra (typed_item (suc (suc depth)) (block (suc (suc depth)))) (Typed (suc depth)) (kind.Int ∷ kind.Name ∷ kind.Semicolon ∷ [])
  typed_completable = subst (λ i. Completable free extra (typed_item (suc (suc depth)) (block (suc (suc depth)))) (Typed i) (kind.Int ∷ kind.Name ∷ kind.Semicolon ∷ [])) (one_less (suc depth)) (typed_item_completable free extra (suc (suc depth)) Block (block (suc (suc depth))) Braces (block_within_completable free extra (suc (suc depth))))

  typed_viable : Viable free extra (typed_item (suc (suc depth)) (block (suc (suc depth)))) I (Exists I)
  typed_viable = (into_completable free extra (typed_item (suc (suc depth)) (block (suc (suc depth)))) (Typed (suc depth)) I (kind.Int ∷ kind.Name ∷ kind.Semicolon ∷ []) (λ y k rest is. is_typed is) typed_completable).viable

  -- ---- items by their first token

  empty_completable : Completable free extra (word kind.Semicolon items.Empty) I (kind.Semicolon ∷ [])
  empty_completable = word_completable free extra kind.Semicolon items.Empty I (λ k rest f. is_empty refl f)

  item_by_viable : (o : Option Kind) → Viable free extra (item_by (suc (suc depth)) o) I (Exists I)
  unfolding c_block foreign_item option_item
  item_by_viable (Some kind.Program) = header_viable
  item_by_viable (Some kind.Ss) = set_begin_viable
  item_by_viable (Some kind.CloseBrace) = (word_completable free extra kind.CloseBrace items.SsEnd I (λ k rest f. is_set_end refl f)).viable
  item_by_viable (Some kind.Semicolon) = empty_completable.viable
  item_by_viable (Some kind.CCode) = made_viable (expect kind.CCode) items.CBlock (Leaf kind.CCode) (kind.CCode ∷ []) (expect_completable free extra kind.CCode) (λ n k rest e. is_c_block n refl e)
  item_by_viable (Some kind.Foreign) = made_viable foreign items.Foreign AreForeign (kind.Foreign ∷ kind.Name ∷ kind.Semicolon ∷ []) (foreign_completable free extra) (λ ns k rest is. is_foreign ns refl is)
  item_by_viable (Some kind.Option) = made_viable option_line items.OptionLine IsOptionLine (kind.Option ∷ kind.Plus ∷ kind.Name ∷ kind.Semicolon ∷ []) (option_line_completable free extra) (λ o k rest is. is_option o refl is)
  item_by_viable (Some kind.Assign) = clause_viable
  item_by_viable (Some kind.Monitor) = clause_viable
  item_by_viable (Some kind.Sync) = clause_viable
  item_by_viable (Some kind.Syncq) = clause_viable
  item_by_viable (Some kind.SyncqCapital) = clause_viable
  item_by_viable (Some kind.Entry) = entry_viable
  item_by_viable (Some kind.Exit) = exit_viable
  item_by_viable (Some kind.State) = state_viable
  item_by_viable _ = typed_viable

  pub item_completable : Completable free extra (item (suc (suc depth))) I (kind.Semicolon ∷ [])
  unfolding item
  item_completable = record { viable = choice_viable free extra (item_by (suc (suc depth))) I (Exists I) item_by_viable; makes = empty_completable.makes }
