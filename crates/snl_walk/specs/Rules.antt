-- What is found wrong in an item, over its occurrences. `bytes` says what each token is, `outer`
-- what names pass for by their declarations outside the item, and `misses` which states the state
-- set of the item has not.
use Rattle.std.specs.Prelude.{ℕ, Bool, true, false, not, ◌&&◌, ◌==◌, if◌then◌else◌, codes, List, [], ◌∷◌, ◌++◌, map, Option, Some, None}
use Rattle.std.specs.List.{flat_map}
use Rattle.std.specs.Str.{bytes_eq}
use Rattle.snl_codes.specs.declared.code.Code.{Code}
use Rattle.snl_codes.specs.declared.code.Code.TheVariants.{E07, E10, E17, E18, E19, E20, E21, W01, W03}
use Rattle.snl_walk.specs.declared.occurrence.ArgumentRole.{ArgumentRole}
use Rattle.snl_walk.specs.declared.occurrence.ArgumentRole.TheVariants as role
use Rattle.snl_walk.specs.declared.occurrence.Follows.{Follows}
use Rattle.snl_walk.specs.declared.occurrence.Follows.TheVariants as follows
use Rattle.snl_walk.specs.declared.occurrence.Local.{Local}
use Rattle.snl_walk.specs.declared.occurrence.Manner.{Manner}
use Rattle.snl_walk.specs.declared.occurrence.Occurrence.{Occurrence}
use Rattle.snl_walk.specs.declared.occurrence.What.{What}
use Rattle.snl_walk.specs.declared.occurrence.What.TheVariants as what
use Rattle.snl_walk.specs.declared.other_items.Outer.{Outer}
use Rattle.snl_walk.specs.declared.rules.Finding.{Finding}
use Rattle.snl_walk.specs.Passing.{lacks_channel, lacks_flag, passes}
use Rattle.snl_walk.specs.Undeclared.{undeclared}
use Rattle.snl_walk.specs.Uses.{is_call}

abbrev pub when : Bool → Code → List Code
when holds code = if holds then code ∷ [] else []

-- A declaration is in its own scope, so its name resolves to the first declaration there.
abbrev pub is_repeated : ℕ → Option Local → Bool
is_repeated token None = false
is_repeated token (Some first) = not (first.token == token)

abbrev pub is_nothing : Follows → Bool
is_nothing follows.Nothing = true
is_nothing _ = false

abbrev pub wants_flag : ArgumentRole → Bool
wants_flag role.EventFlag = true
wants_flag _ = false

abbrev pub wants_channel : ArgumentRole → Bool
wants_channel role.Channel = true
wants_channel _ = false

-- At a name that is called.
abbrev pub rules_at_call : List ℕ → Manner → List Code
rules_at_call name m = when (not m.in_condition && bytes_eq name (codes "delay")) W03

-- At a name that is used: an event flag has to be a name alone, and a variable with a channel may
-- have subscripts.
abbrev pub rules_at_use : Option Outer → Manner → List Code
rules_at_use passed m =
    when (wants_flag m.role && is_nothing m.follows && lacks_flag passed) E20 ++ when (wants_channel m.role && lacks_channel passed) E21

abbrev pub rules_at_name : List ℕ → Option Outer → Manner → List Code
rules_at_name name passed m = if is_call m.follows then rules_at_call name m else rules_at_use passed m

-- At an occurrence, by what is there.
abbrev pub rules_at : (List ℕ → Option Outer) → (List ℕ → Bool) → List ℕ → Occurrence → What → List Code
rules_at outer misses name o (what.Declaration is_wrong) = when (is_repeated o.token o.means) E07 ++ when is_wrong E17
rules_at outer misses name o (what.Change in_transition) = when (not in_transition) E18
rules_at outer misses name o (what.Jump in_loop) = when (not in_loop) E19
rules_at outer misses name o what.Target = when (misses name) E10
rules_at outer misses name o (what.Name m) = rules_at_name name (passes outer name o.means) m

abbrev pub finding : ℕ → Code → Finding
finding token code = record { token = token; code = code }

abbrev pub found_wrong : (ℕ → List ℕ) → (List ℕ → Option Outer) → (List ℕ → Bool) → Occurrence → List Finding
found_wrong bytes outer misses o = map (finding o.token) (rules_at outer misses (bytes o.token) o o.what)

-- What is wrong at each occurrence by itself, and then the first use of each name that nothing
-- declares.
unfoldable pub findings : (ℕ → List ℕ) → (List ℕ → Option Outer) → (List ℕ → Bool) → List Occurrence → List Finding
findings bytes outer misses found =
    flat_map (found_wrong bytes outer misses) found ++ map (λ n. finding n W01) (undeclared bytes outer found)
