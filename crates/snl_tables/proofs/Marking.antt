-- The first marked number, and the list of marked numbers.
use Rattle.std.proofs.Common.{◌≡◌, ◌≢◌, ℕ, zero, suc, ◌+◌, ◌-◌, ◌<◌, ◌≤◌, List, [], ◌∷◌, Bool, true, false, length, take, drop, get_or, filter, Option, Some, None, refl, sym, ap, ◌∙◌, arith, length-drop, position, set, length-set}
use Rattle.std.proofs.Common.{inl, inr, ◌==◌, MatchOption, is_none}
use Rattle.std.proofs.lemmas.Bool.{cases_eq}
use Rattle.std.proofs.lemmas.Bool.Decides.{nat_tests}
use Rattle.std.proofs.lemmas.List.{get_or-drop, get_or-set_other, get_or-set_same, get_or-take, length-take}
use Rattle.std.proofs.lemmas.List.Sums.{fails_before_first, passes_at_first}
use Rattle.std.specs.List.{position_or_len, range_with_len}
use Rattle.snl_facts.specs.Positions.{place_found, place_missed}
use Rattle.snl_tables.specs.Marks.{AreKept, IsFirstMarked, NoneMarked, is_marked, marked}

-- ---- the first mark of a part of the marks

abbrev pub first_place : List Bool → ℕ
first_place marks = position_or_len (λ mark. mark) marks

-- a mark of a part
part_mark : (marks : List Bool) (from to n : ℕ) → from ≤ n → n < to → get_or (take (to - from) (drop from marks)) (n - from) false ≡ is_marked marks n
part_mark marks from to n h k = get_or-take (to - from) (drop from marks) (n - from) false (omega arith) ∙ get_or-drop from marks (n - from) false ∙ ap (λ (m : ℕ). get_or marks m false) (omega arith)

pub no_first : (marks : List Bool) (from to : ℕ) → to ≤ length marks → position (λ (mark : Bool). mark) (take (to - from) (drop from marks)) ≡ None → NoneMarked marks from to
no_first marks from to inside h n from_on below =
    let part : List Bool = take (to - from) (drop from marks) in
    let size : length part ≤ first_place part = place_missed (first_place part) (length part) h in
    sym (part_mark marks from to n from_on below) ∙ fails_before_first (λ mark. mark) part (n - from) false (omega (arith, size, length-take (to - from) (drop from marks), length-drop from marks))

pub is_first : (marks : List Bool) (from to place : ℕ) → from ≤ to → to ≤ length marks → position (λ (mark : Bool). mark) (take (to - from) (drop from marks)) ≡ Some place → IsFirstMarked marks from (from + place)
is_first marks from to place ordered inside h =
    let part : List Bool = take (to - from) (drop from marks) in
    let at = place_found (first_place part) (length part) place h in
    let here : first_place part ≡ place = at.0 in
    let short : place < to - from = omega (arith, at.1, length-take (to - from) (drop from marks)) in
    let inner : first_place part < length part = omega (arith, at.0, at.1) in
    record {
      from_on = omega arith;
      within = omega arith;
      is = sym (part_mark marks from to (from + place) (omega arith) (omega arith)) ∙ ap (λ (m : ℕ). get_or part m false) (omega arith) ∙ passes_at_first (λ mark. mark) part false inner;
      none_before = λ n from_on below. sym (part_mark marks from to n from_on (omega arith)) ∙ fails_before_first (λ mark. mark) part (n - from) false (omega arith);
    }

-- ---- the list of the marked numbers

-- two tests that agree pass the same
pub filter_same : (p q : ℕ → Bool) (from count : ℕ) → ((k : ℕ) → from ≤ k → k < from + count → p k ≡ q k) → filter p (range_with_len from count) ≡ filter q (range_with_len from count)
filter_same p q from zero same = refl
filter_same p q from (suc count) same =
    let rest : filter p (range_with_len (from + 1) count) ≡ filter q (range_with_len (from + 1) count) = filter_same p q (from + 1) count (λ k a b. same k (omega arith) (omega arith)) in
    let here : p from ≡ q from = same from (omega arith) (omega arith) in
    rw (here, rest) refl

pub filter_none : (p : ℕ → Bool) (from count : ℕ) → ((k : ℕ) → from ≤ k → k < from + count → p k ≡ false) → filter p (range_with_len from count) ≡ []
filter_none p from zero none = refl
filter_none p from (suc count) none =
    let here : p from ≡ false = none from (omega arith) (omega arith) in
    rw here (filter_none p (from + 1) count (λ k a b. none k (omega arith) (omega arith)))

-- the first that passes, and those that pass where it does not
pub filter_first : (p q : ℕ → Bool) (from count n : ℕ) → from ≤ n → n < from + count → p n ≡ true → ((k : ℕ) → from ≤ k → k < n → p k ≡ false) → q n ≡ false → ((k : ℕ) → k ≢ n → q k ≡ p k) → filter p (range_with_len from count) ≡ n ∷ filter q (range_with_len from count)
filter_first p q from zero n a b is none gone others = absurd (omega arith)
filter_first p q from (suc count) n a b is none gone others = elim (cases_eq from n) [ inl same ↦ here same | inr other ↦ on other (λ less. filter_first p q (from + 1) count n (omega arith) (omega arith) is (λ k c d. none k (omega arith) d) gone others) ]
  where
    here : from ≡ n → filter p (range_with_len from (suc count)) ≡ n ∷ filter q (range_with_len from (suc count))
    here same =
        let p_is : p from ≡ true = ap p same ∙ is in
        let q_is : q from ≡ false = ap q same ∙ gone in
        let rest : filter p (range_with_len (from + 1) count) ≡ filter q (range_with_len (from + 1) count) = filter_same p q (from + 1) count (λ k c d. sym (others k (omega arith))) in
        rw (p_is, q_is, rest) (ap (λ (m : ℕ). m ∷ filter q (range_with_len (from + 1) count)) same)

    on : from ≢ n → (from < n → filter p (range_with_len (from + 1) count) ≡ n ∷ filter q (range_with_len (from + 1) count)) → filter p (range_with_len from (suc count)) ≡ n ∷ filter q (range_with_len from (suc count))
    on other more =
        let less : from < n = omega arith in
        let p_is : p from ≡ false = none from (omega arith) less in
        let q_is : q from ≡ false = others from other ∙ p_is in
        rw (p_is, q_is) (more less)

pub marked_none : (marks : List Bool) → NoneMarked marks 0 (length marks) → marked marks ≡ []
unfolding marked
marked_none marks none = filter_none (is_marked marks) 0 (length marks) (λ k a b. none k a (omega arith))

pub marked_first : (marks : List Bool) (n : ℕ) → IsFirstMarked marks 0 n → marked marks ≡ n ∷ marked (set marks n false)
unfolding marked
marked_first marks n first =
    let within : n < length marks = first.within in
    filter_first (is_marked marks) (is_marked (set marks n false)) 0 (length marks) n (omega arith) (omega arith) first.is (λ k a b. first.none_before k a b) (get_or-set_same marks n false false within) (λ k other. get_or-set_other marks n k false false other) ∙
    ap (λ (m : ℕ). n ∷ filter (is_marked (set marks n false)) (range_with_len 0 m)) (sym (length-set marks n false))

-- without its first mark, the marks are kept from that one on
pub kept_taken : (marks blocks : List Bool) (from n : ℕ) → AreKept marks blocks from → IsFirstMarked marks 0 n → AreKept (set marks n false) blocks n
kept_taken marks blocks from n kept first = record {
  inside = λ k h. kept.inside k (omega (arith, length-set marks n false));
  noted = λ k h. still k (kept.noted k h);
  after = λ k h. still k (first.none_before k (omega arith) h);
}
  where
    still : (k : ℕ) → is_marked marks k ≡ false → is_marked (set marks n false) k ≡ false
    still k h = elim (cases_eq k n) [ inl same ↦ ap (is_marked (set marks n false)) same ∙ get_or-set_same marks n false false first.within | inr other ↦ get_or-set_other marks n k false false other ∙ h ]

-- there is no marked number just where no first one is found
pub none_found : (marks others : List Bool) (first : Option ℕ) (none : Bool) → marks ≡ others → none ≡ is_none first → MatchOption first (NoneMarked marks 0 (length marks)) (IsFirstMarked marks 0) → none ≡ (length (marked others) == 0)
none_found marks others None none same is h = is ∙ ap (λ (m : List ℕ). length m == 0) (sym (ap marked (sym same) ∙ marked_none marks h))
none_found marks others (Some n) none same is first =
    let size : length (marked others) ≡ suc (length (marked (set marks n false))) = ap (λ (m : List Bool). length (marked m)) (sym same) ∙ ap length (marked_first marks n first) in
    let some : (length (marked others) == 0) ≡ false = grind (arith, nat_tests) in
    is ∙ sym some
