-- The event flags of a text and their numbers.
use Rattle.std.specs.Prelude.{ℕ, suc, Bool, false, ◌&&◌, List, length, slice_get, nat_eq, Option, option_map, position}
use Rattle.std.specs.Option.{option_map_or}
use Rattle.snl_summary.specs.declared.summary.Outline.{Outline}
use Rattle.snl_summary.specs.declared.summary.Variable.{Variable}
use Rattle.snl_scope.specs.Below.{all_below}
use Rattle.snl_scope.specs.Clauses.{is_event_flag}
use Rattle.snl_scope.specs.Names.{Entry, entries, number_in}

-- What a declaration says of a name makes it an event flag; what is no declaration declares none.
abbrev pub declares_flag : Option Variable → Bool
declares_flag variable = option_map_or (λ v. is_event_flag v.symbol_kind) variable false

-- The entry is the first of its name in its scope.
abbrev pub is_first : List Entry → ℕ → Entry → Bool
is_first es number e = option_map_or (nat_eq number) (number_in es e.namespace e.name) false

-- The entry with a number is the first of its name in its scope.
abbrev pub is_first_at : List Entry → ℕ → Bool
is_first_at es number = option_map_or (is_first es number) (slice_get es number) false

-- The entry with a number is the first of its name in its scope, and it declares an event flag.
abbrev pub is_flag : List Entry → ℕ → Bool
is_flag es number = option_map_or (λ e. declares_flag e.variable && is_first es number e) (slice_get es number) false

-- The event flags of a text, by the numbers of their entries, in the order of the text.
abbrev pub flags_of : List Outline → List ℕ
flags_of ss = all_below (is_flag (entries ss)) (length (entries ss))

-- Event flags are numbered from 1.
abbrev pub flag_number : List Outline → ℕ → Option ℕ
flag_number ss number = option_map suc (position (nat_eq number) (flags_of ss))
