-- What is found in the statements of an item, in the order of the text. `bytes` says what each
-- token is, and `visible` which names are visible with what declarations.
use Rattle.std.specs.Prelude.{ℕ, Bool, true, false, not, ◌&&◌, ◌||◌, ◌==◌, if◌then◌else◌, List, [], ◌∷◌, ◌++◌, length, map, option_map, Option, Some, None, is_some}
use Rattle.std.specs.List.{flat_map}
use Rattle.snl_grammar.specs.declared.tree.declaration.Declaration.{Declaration}
use Rattle.snl_grammar.specs.declared.tree.declaration.Declarator.{Declarator}
use Rattle.snl_grammar.specs.declared.tree.expression.Expr.{Expr}
use Rattle.snl_grammar.specs.declared.tree.statement.ForHead.{ForHead}
use Rattle.snl_grammar.specs.declared.tree.statement.Member.{Member}
use Rattle.snl_grammar.specs.declared.tree.statement.Member.TheOpen.{Member-F, Stmt-F}
use Rattle.snl_grammar.specs.declared.tree.statement.Member.TheFolds.{fold-Member, fold-Stmt}
use Rattle.snl_grammar.specs.declared.tree.statement.Stmt.{Stmt}
use Rattle.snl_walk.specs.declared.occurrence.Local.{Local}
use Rattle.snl_walk.specs.declared.occurrence.Occurrence.{Occurrence}
use Rattle.snl_walk.specs.declared.occurrence.Context.{Context}
use Rattle.snl_walk.specs.declared.occurrence.What.TheVariants as what
use Rattle.snl_walk.specs.Declares.{declared_in_block, is_event_flag}
use Rattle.snl_walk.specs.Expressions.{names_if, names_in_expr, names_in_value, plain}
use Rattle.snl_walk.specs.Scopes.{Names, resolve, seen, under_names}

-- What is found in a part of an item, by the names that are visible there and its context.
abbrev pub Found : Type 0
Found = Names → Context → List Occurrence

abbrev pub found_in_expr : (ℕ → List ℕ) → Names → Expr → List Occurrence
found_in_expr bytes visible e = map (seen bytes visible false) (names_in_expr plain e)

abbrev pub found_if : (ℕ → List ℕ) → Names → Option Expr → List Occurrence
found_if bytes visible e = map (seen bytes visible false) (names_if e)

abbrev pub found_in_head : (ℕ → List ℕ) → Names → ForHead → List Occurrence
found_in_head bytes visible head = found_if bytes visible head.first ++ found_if bytes visible head.condition ++ found_if bytes visible head.step

-- A declarator with more than a name.
abbrev pub has_more : Declarator → Bool
has_more d = not (length d.pointers == 0) || not (length d.lengths == 0) || is_some d.init

-- An event flag is declared by its name alone, and in no block.
abbrev pub is_wrong_flag : Bool → Bool → Declarator → Bool
is_wrong_flag is_flag in_block d = is_flag && (in_block || has_more d)

-- A name where it is declared.
abbrev pub declaration_at : (ℕ → List ℕ) → Names → Bool → ℕ → Occurrence
declaration_at bytes visible is_wrong n = record { token = n; what = what.Declaration is_wrong; means = resolve bytes visible n }

abbrev pub found_in_declarator : (ℕ → List ℕ) → Names → Bool → Bool → Declarator → List Occurrence
found_in_declarator bytes visible is_flag in_block d =
    declaration_at bytes visible (is_wrong_flag is_flag in_block d) d.name
    ∷ (map (seen bytes visible false) (flat_map names_if d.lengths) ++ map (seen bytes visible false) (names_in_value d.init))

abbrev pub found_in_declaration : (ℕ → List ℕ) → Names → Bool → Declaration → List Occurrence
found_in_declaration bytes visible in_block d = flat_map (found_in_declarator bytes visible (is_event_flag d.of.base) in_block) d.declarators

-- A member of a block: what it declares there, and what is found in it.
pub record Content : Type 0 where
  pub declares : List Local
  pub found : Found

abbrev pub declared_by_contents : List Content → List Local
declared_by_contents [] = []
declared_by_contents (content ∷ contents) = content.declares ++ declared_by_contents contents

abbrev pub found_in_contents : List Content → Names → Context → List Occurrence
found_in_contents [] visible context = []
found_in_contents (content ∷ contents) visible context = content.found visible context ++ found_in_contents contents visible context

-- A block is a scope: in it, what it declares anywhere is before what is visible around it.
abbrev pub found_in_block_of : (ℕ → List ℕ) → List Content → Found
found_in_block_of bytes contents visible context = found_in_contents contents (under_names bytes (declared_by_contents contents) ++ visible) context

-- A choice: its conditions, each before its statement, and the last branch.
abbrev pub found_in_branches : (ℕ → List ℕ) → List (Expr × Found) → Option Found → Found
found_in_branches bytes [] None visible context = []
found_in_branches bytes [] (Some last) visible context = last visible context
found_in_branches bytes (arm ∷ arms) last visible context = found_in_expr bytes visible arm.0 ++ arm.1 visible context ++ found_in_branches bytes arms last visible context

abbrev pub in_loop : Context → Context
in_loop context = record { in_loop = true; in_transition = context.in_transition }

abbrev pub jump : ℕ → Context → Occurrence
jump word context = record { token = word; what = what.Jump context.in_loop; means = None }

-- In the block of a transition the item leads on to the state that the statement names.
abbrev pub change : ℕ → ℕ → Context → List Occurrence
change word name context =
    record { token = word; what = what.Change context.in_transition; means = None }
    ∷ (if context.in_transition then record { token = name; what = what.Target; means = None } ∷ [] else [])

-- One level of a statement, with what is found in each statement in it in its place.
abbrev pub stmt_step : (ℕ → List ℕ) → Stmt-F Content Found → Found
stmt_step bytes (Stmt-F.Expr e) visible context = found_in_expr bytes visible e
stmt_step bytes (Stmt-F.Block contents) visible context = found_in_block_of bytes contents visible context
stmt_step bytes (Stmt-F.If arms last) visible context = found_in_branches bytes arms last visible context
stmt_step bytes (Stmt-F.While e body) visible context = found_in_expr bytes visible e ++ body visible (in_loop context)
stmt_step bytes (Stmt-F.For head body) visible context = found_in_head bytes visible head ++ body visible (in_loop context)
stmt_step bytes (Stmt-F.Break word) visible context = jump word context ∷ []
stmt_step bytes (Stmt-F.Continue word) visible context = jump word context ∷ []
stmt_step bytes (Stmt-F.Return value) visible context = found_if bytes visible value
stmt_step bytes (Stmt-F.State word name) visible context = change word name context
stmt_step bytes _ visible context = []

abbrev pub member_step : (ℕ → List ℕ) → Member-F Content Found → Content
member_step bytes (Member-F.Declaration d) = record { declares = declared_in_block d; found = λ visible context. found_in_declaration bytes visible true d }
member_step bytes (Member-F.Statement s) = record { declares = []; found = s }

abbrev pub found_in_stmt : (ℕ → List ℕ) → Stmt → Found
found_in_stmt bytes = fold-Stmt Content Found (member_step bytes) (stmt_step bytes)

abbrev pub content_of : (ℕ → List ℕ) → Member → Content
content_of bytes = fold-Member Content Found (member_step bytes) (stmt_step bytes)

abbrev pub contents_of : (ℕ → List ℕ) → List Member → List Content
contents_of bytes ms = map (content_of bytes) ms

abbrev pub found_in_block : (ℕ → List ℕ) → List Member → Found
found_in_block bytes ms = found_in_block_of bytes (contents_of bytes ms)

-- The arms and the last branch of a choice, with what is found in their statements.
abbrev pub arms_of : (ℕ → List ℕ) → List (Expr × Stmt) → List (Expr × Found)
arms_of bytes arms = map (λ arm. (arm.0, found_in_stmt bytes arm.1)) arms

abbrev pub last_of : (ℕ → List ℕ) → Option Stmt → Option Found
last_of bytes last = option_map (found_in_stmt bytes) last
