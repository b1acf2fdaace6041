-- The clauses of the items of a text: their trees, and beside each what links say of it.
use Rattle.std.specs.Prelude.{ℕ, Bool, true, false, zero, suc, List, [], ◌∷◌, ◌++◌, map, length, Option, None, Some}
use Rattle.std.specs.List.{flat_map, zip}
use Rattle.snl_grammar.specs.declared.tree.clause.Clause.{Clause}
use Rattle.snl_grammar.specs.declared.tree.item.Item.{Item}
use Rattle.snl_grammar.specs.declared.tree.item.Item.TheVariants as items
use Rattle.snl_grammar.specs.declared.tree.state.StateMember.{StateMember}
use Rattle.snl_grammar.specs.declared.tree.state.StateMember.TheVariants as members
use Rattle.snl_scope.specs.declared.facts.ClauseLink.{ClauseLink}
use Rattle.snl_summary.specs.declared.summary.ItemKind.{ItemKind}
use Rattle.snl_summary.specs.declared.summary.ItemKind.TheVariants as kinds
use Rattle.snl_summary.specs.declared.summary.Outline.{Outline}
use Rattle.snl_summary.specs.declared.summary.VariableClause.{VariableClause}
use Rattle.snl_scope.specs.Clauses.{clause_links}
use Rattle.snl_summary.specs.Summaries.Clauses.{clause_of}
use Rattle.snl_item_check.specs.Items.{ProgramItem, tokens_in, tree_in}

-- The clauses of an item, as trees.
abbrev pub clause_in_member : StateMember → List Clause
clause_in_member (members.Clause clause) = clause ∷ []
clause_in_member _ = []

abbrev pub clauses_in_tree : Item → List Clause
clauses_in_tree (items.Clause clause) = clause ∷ []
clauses_in_tree (items.StateBlock name ms) = flat_map clause_in_member ms
clauses_in_tree _ = []

-- Whether an item of a kind can have clauses.
abbrev pub has_clauses : ItemKind → Bool
has_clauses kinds.Clause = true
has_clauses kinds.State = true
has_clauses _ = false

-- A clause of a text: the number of its item, and its tree.
pub record ItemClause : Type 0 where
  pub item : ℕ
  pub clause : Clause

abbrev pub item_clause : ℕ → Clause → ItemClause
item_clause item clause = record { item = item; clause = clause }

abbrev pub item_clauses_if : ℕ → Option Item → List ItemClause
item_clauses_if item None = []
item_clauses_if item (Some tree) = map (item_clause item) (clauses_in_tree tree)

-- The clauses of the first n items, and of all, in the order of the text.
abbrev pub item_clauses_before : List ProgramItem → ℕ → List ItemClause
item_clauses_before xs zero = []
item_clauses_before xs (suc n) = item_clauses_before xs n ++ item_clauses_if n (tree_in xs n)

abbrev pub item_clauses : List ProgramItem → List ItemClause
item_clauses xs = item_clauses_before xs (length xs)

-- The clauses of a text in its order, each with what links say of it.
abbrev pub resolved_clauses : List ProgramItem → List Outline → List (ItemClause × ClauseLink)
resolved_clauses xs ss = zip (item_clauses xs) (clause_links ss)

-- A clause of a text as the summary of its item has it, with the number of the item.
abbrev pub summarized : List ℕ → List ProgramItem → ItemClause → ℕ × VariableClause
summarized text xs c = (c.item, clause_of text (tokens_in xs c.item) c.clause)
