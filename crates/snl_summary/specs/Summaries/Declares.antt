-- The names that an item declares outside its blocks, and what a declaration says of each.
use Rattle.std.specs.Prelude.{ℕ, Bool, true, false, ◌==◌, List, [], ◌∷◌, map, length, slice_get, Option, Some, None}
use Rattle.std.specs.List.{flat_map}
use Rattle.snl_lex.specs.declared.piece.Piece.{Piece}
use Rattle.snl_grammar.specs.declared.tree.declaration.Declaration.{Declaration}
use Rattle.snl_grammar.specs.declared.tree.declaration.Declarator.{Declarator}
use Rattle.snl_grammar.specs.declared.tree.expression.Expr.{Expr}
use Rattle.snl_grammar.specs.declared.tree.expression.Expr.TheOpen.{Expr-F, Suffix-F}
use Rattle.snl_grammar.specs.declared.tree.expression.Expr.TheFolds.{fold-Expr}
use Rattle.snl_grammar.specs.declared.tree.item.Function.{Function}
use Rattle.snl_grammar.specs.declared.tree.item.Item.{Item}
use Rattle.snl_grammar.specs.declared.tree.item.Item.TheVariants as items
use Rattle.snl_grammar.specs.declared.tree.state.StateMember.{StateMember}
use Rattle.snl_grammar.specs.declared.tree.state.StateMember.TheVariants as members
use Rattle.snl_grammar.specs.declared.tree.statement.Member.{Member}
use Rattle.snl_grammar.specs.declared.tree.types.Base.{Base}
use Rattle.snl_grammar.specs.declared.tree.types.Base.TheVariants as bases
use Rattle.snl_summary.specs.declared.summary.Declared.{Declared}
use Rattle.snl_summary.specs.declared.summary.Dims.{Dims}
use Rattle.snl_summary.specs.declared.summary.Dims.TheVariants as dims
use Rattle.snl_summary.specs.declared.summary.SymbolKind.{SymbolKind}
use Rattle.snl_summary.specs.declared.summary.SymbolKind.TheVariants as symbol_kinds
use Rattle.snl_summary.specs.declared.summary.Variable.{Variable}
use Rattle.snl_walk.specs.Tokens.{token_bytes, value_at}

-- The base of a declaration says what its names stand for.
abbrev pub symbol_kind_of : Base → SymbolKind
symbol_kind_of bases.Evflag = symbol_kinds.EventFlag
symbol_kind_of bases.Void = symbol_kinds.Unassignable
symbol_kind_of (bases.Enum n) = symbol_kinds.Unassignable
symbol_kind_of (bases.Struct n) = symbol_kinds.Unassignable
symbol_kind_of (bases.Union n) = symbol_kinds.Unassignable
symbol_kind_of (bases.Typename n) = symbol_kinds.Unassignable
symbol_kind_of _ = symbol_kinds.Assignable

abbrev pub integer_step : Expr-F (Option ℕ) (Option ℕ) → Option ℕ
integer_step (Expr-F.Integer n) = Some n
integer_step _ = None

abbrev pub no_integer : Suffix-F (Option ℕ) (Option ℕ) → Option ℕ
no_integer _ = None

-- The token of an integer, where the expression is that alone.
abbrev pub lone_integer : Expr → Option ℕ
lone_integer = fold-Expr (Option ℕ) (Option ℕ) integer_step no_integer

abbrev pub known_value : Option ℕ → Dims
known_value None = dims.Unknown
known_value (Some value) = dims.Known value

abbrev pub dims_by_integer : List ℕ → List Piece → Option ℕ → Dims
dims_by_integer text tokens None = dims.Unknown
dims_by_integer text tokens (Some number) = known_value (value_at text tokens number)

abbrev pub dims_without_length : Bool → Dims
dims_without_length true = dims.Plain
dims_without_length false = dims.Unknown

-- What the first pair of brackets says, where there is one; it may be empty.
abbrev pub dims_by : List ℕ → List Piece → Bool → Option (Option Expr) → Dims
dims_by text tokens no_pointer None = dims_without_length no_pointer
dims_by text tokens no_pointer (Some None) = dims.Unknown
dims_by text tokens no_pointer (Some (Some e)) = dims_by_integer text tokens (lone_integer e)

-- A declarator with neither `*` nor `[ ]` is plain; its first length is known where the first
-- brackets hold one integer.
abbrev pub dims_of : List ℕ → List Piece → Declarator → Dims
dims_of text tokens d = dims_by text tokens (length d.pointers == 0) (slice_get d.lengths 0)

abbrev pub variable_of : Dims → SymbolKind → Variable
variable_of dims symbol_kind = record { dims = dims; symbol_kind = symbol_kind }

abbrev pub declared_at : List ℕ → List Piece → Variable → ℕ → Declared
declared_at text tokens variable number = record { name = token_bytes text tokens number; token = number; variable = variable }

abbrev pub declared_by_declarator : List ℕ → List Piece → SymbolKind → Declarator → Declared
declared_by_declarator text tokens symbol_kind d = declared_at text tokens (variable_of (dims_of text tokens d) symbol_kind) d.name

abbrev pub declared_by_declaration : List ℕ → List Piece → Declaration → List Declared
declared_by_declaration text tokens d = map (declared_by_declarator text tokens (symbol_kind_of d.of.base)) d.declarators

abbrev pub foreign_name : Variable
foreign_name = variable_of dims.Unknown symbol_kinds.Foreign

abbrev pub declared_by_foreign : List ℕ → List Piece → List ℕ → List Declared
declared_by_foreign text tokens names = map (declared_at text tokens foreign_name) names

abbrev pub function_name : Variable
function_name = variable_of dims.Unknown symbol_kinds.Function

-- A prototype declares nothing.
abbrev pub declared_if_body : Declared → Option (List Member) → List Declared
declared_if_body declared None = []
declared_if_body declared (Some block) = declared ∷ []

abbrev pub declared_by_function : List ℕ → List Piece → Function → List Declared
declared_by_function text tokens f = declared_if_body (declared_at text tokens function_name f.name) f.body

abbrev pub declared_by_member : List ℕ → List Piece → StateMember → List Declared
declared_by_member text tokens (members.Declaration d) = declared_by_declaration text tokens d
declared_by_member text tokens (members.Foreign names) = declared_by_foreign text tokens names
declared_by_member text tokens _ = []

abbrev pub declared_in_tree : List ℕ → List Piece → Item → List Declared
declared_in_tree text tokens (items.Definition d) = declared_by_declaration text tokens d
declared_in_tree text tokens (items.Foreign names) = declared_by_foreign text tokens names
declared_in_tree text tokens (items.Function f) = declared_by_function text tokens f
declared_in_tree text tokens (items.StateBlock name ms) = flat_map (declared_by_member text tokens) ms
declared_in_tree text tokens _ = []

-- A faulty item declares nothing.
abbrev pub declared_in : List ℕ → List Piece → Option Item → List Declared
declared_in text tokens None = []
declared_in text tokens (Some tree) = declared_in_tree text tokens tree
