-- The order of findings: by offset, and then by code, as text. (So that no two of them tie, what is
-- quoted comes last.)
use Rattle.std.specs.Prelude.{Bool, if◌then◌else◌, List, [], ◌∷◌}
use Rattle.std.specs.Cmp.Lexicographic.{slice_cmp}
use Rattle.std.specs.Ordering.{is_lt, nat_cmp, ordering_then}
use Rattle.std.specs.declared.cmp.Ordering.{Ordering}
use Rattle.snl_codes.specs.Codes.{name_of}
use Rattle.snl_kept.specs.declared.found.findings.Finding.{Finding}

abbrev pub order_by_code : Finding → Finding → Ordering
order_by_code x y = ordering_then (slice_cmp nat_cmp (name_of x.code) (name_of y.code)) (nat_cmp x.subject y.subject)

abbrev pub order_of : Finding → Finding → Ordering
order_of x y = ordering_then (nat_cmp x.offset y.offset) (order_by_code x y)

abbrev pub goes_before : Finding → Finding → Bool
goes_before x y = is_lt (order_of x y)

-- The finding, in its place among findings that are in order.
abbrev pub put_in_order : Finding → List Finding → List Finding
put_in_order x [] = x ∷ []
put_in_order x (y ∷ ys) = if goes_before y x then y ∷ put_in_order x ys else x ∷ y ∷ ys

-- The findings in order.
abbrev pub in_order : List Finding → List Finding
in_order [] = []
in_order (x ∷ xs) = put_in_order x (in_order xs)
