-- The clauses on variables that an item has, and what each covers.
use Rattle.std.specs.Prelude.{ℕ, List, [], ◌∷◌, length, Option, Some, None, option_map, unwrap_or}
use Rattle.std.specs.List.{flat_map}
use Rattle.snl_lex.specs.declared.piece.Piece.{Piece}
use Rattle.snl_grammar.specs.declared.tree.clause.Channel.{Channel}
use Rattle.snl_grammar.specs.declared.tree.clause.Channel.TheVariants as channels
use Rattle.snl_grammar.specs.declared.tree.clause.Clause.{Clause}
use Rattle.snl_grammar.specs.declared.tree.clause.Clause.TheVariants as clauses
use Rattle.snl_grammar.specs.declared.tree.clause.Flag.{Flag}
use Rattle.snl_grammar.specs.declared.tree.item.Item.{Item}
use Rattle.snl_grammar.specs.declared.tree.item.Item.TheVariants as items
use Rattle.snl_grammar.specs.declared.tree.state.StateMember.{StateMember}
use Rattle.snl_grammar.specs.declared.tree.state.StateMember.TheVariants as members
use Rattle.snl_summary.specs.declared.summary.ClauseKind.{ClauseKind}
use Rattle.snl_summary.specs.declared.summary.ClauseKind.TheVariants as kinds
use Rattle.snl_summary.specs.declared.summary.Coverage.{Coverage}
use Rattle.snl_summary.specs.declared.summary.Coverage.TheVariants as coverage
use Rattle.snl_summary.specs.declared.summary.NameRef.{NameRef}
use Rattle.snl_summary.specs.declared.summary.VariableClause.{VariableClause}
use Rattle.snl_summary.specs.Summaries.Tokens.{name_ref_at}
use Rattle.snl_walk.specs.Tokens.{value_at}

-- The element that a subscript means: the value of its integer, which has one.
abbrev pub element : List ℕ → List Piece → ℕ → Coverage
element text tokens subscript = coverage.Element (unwrap_or (value_at text tokens subscript) 0)

-- A clause covers the element of its subscript, and the whole variable without one.
abbrev pub covered_by_subscript : List ℕ → List Piece → Option ℕ → Coverage
covered_by_subscript text tokens None = coverage.Whole
covered_by_subscript text tokens (Some subscript) = element text tokens subscript

-- A list of k channels covers the elements 0 to k - 1.
abbrev pub covered_by_channel : List ℕ → List Piece → Channel → Coverage
covered_by_channel text tokens channels.Anonymous = coverage.Whole
covered_by_channel text tokens (channels.Whole to pv) = coverage.Whole
covered_by_channel text tokens (channels.Element subscript to pv) = element text tokens subscript
covered_by_channel text tokens (channels.Elements to pvs trailing) = coverage.Front (length pvs)

abbrev pub flag_at : List ℕ → List Piece → Flag → NameRef
flag_at text tokens flag = name_ref_at text tokens flag.name

abbrev pub clause_on : List ℕ → List Piece → ClauseKind → ℕ → Coverage → Option Flag → VariableClause
clause_on text tokens kind number covered flag =
    record { variable = name_ref_at text tokens number; flag = option_map (flag_at text tokens) flag; coverage = covered; kind = kind }

abbrev pub clause_of : List ℕ → List Piece → Clause → VariableClause
clause_of text tokens (clauses.Assign name channel) = clause_on text tokens kinds.Assign name (covered_by_channel text tokens channel) None
clause_of text tokens (clauses.Monitor name subscript) = clause_on text tokens kinds.Monitor name (covered_by_subscript text tokens subscript) None
clause_of text tokens (clauses.Sync name subscript flag) = clause_on text tokens kinds.Sync name (covered_by_subscript text tokens subscript) (Some flag)
clause_of text tokens (clauses.Syncq capital name subscript flag queue) = clause_on text tokens kinds.Syncq name (covered_by_subscript text tokens subscript) flag

abbrev pub clauses_of_member : List ℕ → List Piece → StateMember → List VariableClause
clauses_of_member text tokens (members.Clause clause) = clause_of text tokens clause ∷ []
clauses_of_member text tokens _ = []

abbrev pub clauses_in_tree : List ℕ → List Piece → Item → List VariableClause
clauses_in_tree text tokens (items.Clause clause) = clause_of text tokens clause ∷ []
clauses_in_tree text tokens (items.StateBlock name ms) = flat_map (clauses_of_member text tokens) ms
clauses_in_tree text tokens _ = []

-- A faulty item has no clause.
abbrev pub clauses_in : List ℕ → List Piece → Option Item → List VariableClause
clauses_in text tokens None = []
clauses_in text tokens (Some tree) = clauses_in_tree text tokens tree
