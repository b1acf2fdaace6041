-- The names that are visible in a place of an item, with their declarations: those of the innermost
-- scope first, and those of each scope in the order of the text.
use Rattle.std.specs.Prelude.{ℕ, Bool, List, Option, map}
use Rattle.std.specs.Map.{lookup}
use Rattle.std.specs.Str.{bytes_eq}
use Rattle.snl_walk.specs.declared.occurrence.Local.{Local}
use Rattle.snl_walk.specs.declared.occurrence.Manner.{Manner}
use Rattle.snl_walk.specs.declared.occurrence.ExpressionName.{ExpressionName}
use Rattle.snl_walk.specs.declared.occurrence.Occurrence.{Occurrence}
use Rattle.snl_walk.specs.declared.occurrence.Setting.{Setting}
use Rattle.snl_walk.specs.declared.occurrence.What.TheVariants as what
use Rattle.snl_walk.specs.Calls.{role_in}

-- Names with their declarations, the nearest first.
abbrev pub Names : Type 0
Names = List (List ℕ × Local)

-- Declarations under their names.
abbrev pub under_names : (ℕ → List ℕ) → List Local → Names
under_names bytes ds = map (λ d. (bytes d.token, d)) ds

-- What a name means: its first declaration in the nearest scope that declares it.
abbrev pub look_up : List ℕ → Names → Option Local
look_up name visible = lookup (bytes_eq name) visible

-- What the name at a token means.
abbrev pub resolve : (ℕ → List ℕ) → Names → ℕ → Option Local
resolve bytes visible n = look_up (bytes n) visible

-- How a name occurs, told by what the name that is called before it asks for.
abbrev pub manner_of : (ℕ → List ℕ) → Bool → Setting → Manner
manner_of bytes in_condition s = record { follows = s.follows; role = role_in bytes s.argument_of; in_condition = in_condition }

-- A name in an expression, where these names are visible.
abbrev pub seen : (ℕ → List ℕ) → Names → Bool → ExpressionName → Occurrence
seen bytes visible in_condition n = record { token = n.token; what = what.Name (manner_of bytes in_condition n.setting); means = resolve bytes visible n.token }
