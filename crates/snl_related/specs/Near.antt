-- Names that are near another one: by the distance of optimal string alignment, which counts a byte
-- more, a byte less, another byte, and two neighbours the other way round as one each.
use Rattle.std.specs.Prelude.{ℕ, zero, suc, ◌+◌, ◌-◌, ◌==◌, ◌&&◌, Bool, true, false, List, length, min, nat_le, nat_lt, Option, None, Some, option_and_then, if◌then◌else◌}
use Rattle.std.specs.Option.{option_map_or}
use Rattle.std.specs.Str.{chars, is_utf8}
use Rattle.strsim.specs.Edits.{osa_table}
use Rattle.snl_summary.specs.declared.summary.Outline.{Outline}
use Rattle.snl_scope.specs.declared.facts.Declaration.{Declaration}
use Rattle.snl_scope.specs.Clauses.{is_event_flag, resolve_in}
use Rattle.snl_scope.specs.Linked.{declaration_at}
use Rattle.snl_scope.specs.Names.{entries}
use Rattle.snl_scope.specs.Order.{is_named_state}
use Rattle.snl_scope.specs.Places.{enclosing_set, stands_in}
use Rattle.snl_tables.specs.declared.rows.Span.{Span}
use Rattle.snl_kept.specs.Program.{item_tokens}
use Rattle.snl_questions.specs.Items.{span_at}
use Rattle.snl_questions.specs.Meanings.{span_bytes}
use Rattle.snl_related.specs.declared.nearest.Nearest.{Nearest}
use Rattle.snl_related.specs.declared.nearest.Wanted.{Wanted}
use Rattle.snl_related.specs.declared.nearest.Wanted.TheVariants as wanted

-- ---- how near a name is

-- A name of fewer bytes has no near ones, nor has one of more.
abbrev pub shortest : ℕ
shortest = 3

abbrev pub longest : ℕ
longest = 64

abbrev pub is_measured : List ℕ → Bool
is_measured name = nat_le shortest (length name) && nat_le (length name) longest

-- So far from a name a near one is at most.
abbrev pub reach : List ℕ → ℕ
reach name = if nat_le (length name) 4 then 1 else 2

-- The lengths differ by no more than that.
abbrev pub is_about_as_long : List ℕ → List ℕ → Bool
is_about_as_long name other =
    nat_le (length other - length name) (reach name) && nat_le (length name - length other) (reach name)

abbrev pub distance_of : List ℕ → List ℕ → ℕ
distance_of name other = (osa_table (chars name) (chars other)).last_row (length (chars other))

abbrev pub measured : List ℕ → List ℕ → Option ℕ
measured name other =
    if is_utf8 name && is_utf8 other then Some (distance_of name other) else None

-- No name is near itself.
abbrev pub within : ℕ → ℕ → Option ℕ
within most distance = if nat_lt 0 distance && nat_le distance most then Some distance else None

-- The distance of a name that is near another one.
abbrev pub near_distance : List ℕ → List ℕ → Option ℕ
near_distance name other =
    if is_about_as_long name other
    then option_and_then (within (reach name)) (measured name other)
    else None

-- ---- the nearest of many

-- Of two at one distance the first stays.
abbrev pub nearer : Option Nearest → Span → ℕ → Option Nearest
nearer None span distance = Some (record { span = span; distance = distance })
nearer (Some best) span distance =
    if nat_le best.distance distance then Some best
    else Some (record { span = span; distance = distance })

-- So many are looked at, at most.
abbrev pub most_names : ℕ
most_names = 10000

-- ---- the states of a set

abbrev pub name_offered : List ℕ → List ℕ → Option Nearest → Option Span → Option Nearest
name_offered text name best None = best
name_offered text name best (Some span) =
    option_map_or (nearer best span) (near_distance name (span_bytes text span)) best

abbrev pub state_offered : List ℕ → List Outline → (set : ℕ) → List ℕ → Option Nearest → (j : ℕ) →
    Option Nearest
state_offered text ss set name best j =
    if is_named_state ss j && stands_in ss set j
    then name_offered text name best (span_at (item_tokens text) j 1)
    else best

-- The nearest of the states among the first so many items from a set's first one on.
abbrev pub states_offered : List ℕ → List Outline → (set : ℕ) → List ℕ → ℕ → Option Nearest
states_offered text ss set name zero = None
states_offered text ss set name (suc n) =
    state_offered text ss set name (states_offered text ss set name n) (set + n)

abbrev pub nearest_in_set : List ℕ → List Outline → List ℕ → (set : ℕ) → Option Nearest
nearest_in_set text ss name set =
    states_offered text ss set name (min most_names (length ss - set))

-- The state whose name is nearest, among those of the set in which item i is.
abbrev pub nearest_state : List ℕ → List Outline → (i : ℕ) → List ℕ → Option Nearest
nearest_state text ss i name =
    option_and_then (nearest_in_set text ss name) (enclosing_set ss i)

-- ---- the declared names

abbrev pub is_wanted : Wanted → Declaration → Bool
is_wanted wanted.Any d = true
is_wanted wanted.EventFlag d = is_event_flag d.variable.symbol_kind

abbrev pub is_number : ℕ → Option ℕ → Bool
is_number number None = false
is_number number (Some other) = other == number

-- In item i a name with these bytes means the declaration with the number.
abbrev pub is_visible : List Outline → (i : ℕ) → (number : ℕ) → List ℕ → Bool
is_visible ss i number bytes = is_number number (resolve_in ss i bytes)

abbrev pub visible_distance : List Outline → (i : ℕ) → (number : ℕ) → List ℕ → List ℕ → Option ℕ
visible_distance ss i number name bytes = option_and_then
    (λ d. if is_visible ss i number bytes then Some d else None) (near_distance name bytes)

abbrev pub visible_offered : List ℕ → List Outline → (i : ℕ) → List ℕ → Option Nearest →
    (number : ℕ) → Option Span → Option Nearest
visible_offered text ss i name best number None = best
visible_offered text ss i name best number (Some span) = option_map_or (nearer best span)
    (visible_distance ss i number name (span_bytes text span)) best

abbrev pub declared_offered : List ℕ → List Outline → (i : ℕ) → Wanted → List ℕ → Option Nearest →
    (number : ℕ) → Option Declaration → Option Nearest
declared_offered text ss i wanted name best number None = best
declared_offered text ss i wanted name best number (Some d) =
    if is_wanted wanted d
    then visible_offered text ss i name best number (span_at (item_tokens text) d.item d.token)
    else best

-- The nearest of the first so many declarations.
abbrev pub declarations_offered : List ℕ → List Outline → (i : ℕ) → Wanted → List ℕ → ℕ →
    Option Nearest
declarations_offered text ss i wanted name zero = None
declarations_offered text ss i wanted name (suc n) =
    declared_offered text ss i wanted name (declarations_offered text ss i wanted name n) n
    (declaration_at ss n)

-- The declaration whose name is nearest, among those that item i can name outside its blocks.
abbrev pub nearest_declaration : List ℕ → List Outline → (i : ℕ) → Wanted → List ℕ → Option Nearest
nearest_declaration text ss i wanted name =
    declarations_offered text ss i wanted name (min most_names (length (entries ss)))
