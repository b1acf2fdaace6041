-- Line ends, which rise, and how many of them are before an offset.
use Rattle.std.proofs.Common.{◌≡◌, ◌==◌, ℕ, zero, suc, ◌+◌, ◌-◌, ◌<◌, ◌≤◌, inl, inr}
use Rattle.std.proofs.Common.{Bool, true, false, cond, nat_lt, refl, sym, ap, subst, ◌∙◌, arith}
use Rattle.std.proofs.Common.{List, [], ◌∷◌, ◌++◌, length, take, drop, get_or, count_by}
use Rattle.std.proofs.Math.Seq.{take-add, take-nil}
use Rattle.std.proofs.lemmas.Bool.Decides.{nat_tests}
use Rattle.std.proofs.lemmas.List.{get_or_past}
use Rattle.std.proofs.lemmas.List.Sums.{count_by-le-length}
use Rattle.snl_lex.specs.LineList.{line_begin, line_ends, line_ends_from}
use Rattle.std.proofs.lemmas.Bool.{cases_lt, lt-ltb}
use Rattle.snl_facts.specs.Counts.{count_append, count_cons, count_yes}
use Rattle.snl_place.specs.Lines.{line_stop}
use Rattle.snl_lex.specs.LineLaws.{Climbs, below, ends_climb, climbs_get, ends_under, below_none, below_at, below_after, below_more}

-- ---- counts

-- How many of the bytes are an LF.
abbrev pub feeds : List ℕ → ℕ
feeds bytes = count_by (λ b. b == 10) bytes

-- A test as a count.
abbrev pub bit : Bool → ℕ
bit t = cond t 1 0

-- ---- line ends rise

-- A line ends in the text.
pub ends_in : (text : List ℕ) (i : ℕ) → i < length (line_ends text)
    → get_or (line_ends text) i 0 < length text
ends_in text i lt = omega (arith, ends_under 0 text i 0 lt)

-- ---- how many are before an offset

ends_count : (at offset : ℕ) (bs : List ℕ)
    → below offset (line_ends_from at bs) ≡ feeds (take (offset - at) bs)
ends_count at offset [] = sym (ap feeds (take-nil (offset - at)))
ends_count at offset (b ∷ bs) =
    elim (cases_lt at offset) [
      | inl less ↦
          let next : offset - at ≡ suc (offset - suc at) = omega arith in
          let rest : ℕ = feeds (take (offset - suc at) bs) in
          let l : List ℕ = line_ends_from (suc at) bs in
          let again = ends_count (suc at) offset bs in
          let P : Bool → Type 0 =
          λ (t : Bool). below offset (cond t (at ∷ l) l) ≡ cond t 1 0 + rest in
          let here : below offset (line_ends_from at (b ∷ bs)) ≡ cond (b == 10) 1 0 + rest =
          elim (b == 10) as P [
            | true ↦
                count_yes (λ x. nat_lt x offset) at l (lt-ltb at offset less) ∙ omega (arith, again)
            | false ↦ omega (arith, again)
          ] in
          here ∙ sym (count_cons (λ x. x == 10) b (take (offset - suc at) bs))
          ∙ ap (λ (n : ℕ). feeds (take n (b ∷ bs))) (sym next)
      | inr more ↦
          let none : offset - at ≡ 0 = omega arith in
          below_none at offset (line_ends_from at (b ∷ bs)) (ends_climb at (b ∷ bs)) more
          ∙ ap (λ (n : ℕ). feeds (take n (b ∷ bs))) (sym none)
    ]

-- As many line ends are before an offset as LFs.
pub below_is : (text : List ℕ) (offset : ℕ)
    → below offset (line_ends text) ≡ feeds (take offset text)
below_is text offset =
    ends_count 0 offset text ∙ ap (λ (n : ℕ). feeds (take n text)) (omega arith)

ends_length : (at : ℕ) (bs : List ℕ) → length (line_ends_from at bs) ≡ feeds bs
ends_length at [] = refl
ends_length at (b ∷ bs) =
    let l : List ℕ = line_ends_from (suc at) bs in
    let rest : length l ≡ feeds bs = ends_length (suc at) bs in
    let P : Bool → Type 0 = λ (t : Bool). length (cond t (at ∷ l) l) ≡ cond t 1 0 + feeds bs in
    let here : length (line_ends_from at (b ∷ bs)) ≡ cond (b == 10) 1 0 + feeds bs =
    elim (b == 10) as P [ true ↦ omega (arith, rest) | false ↦ omega (arith, rest) ] in
    here ∙ sym (count_cons (λ x. x == 10) b bs)

-- There are as many line ends as LFs.
pub ends_counted : (text : List ℕ) → length (line_ends text) ≡ feeds text
ends_counted text = ends_length 0 text

-- The bytes up to an offset, in two parts.
pub two_takes : (text : List ℕ) (from to : ℕ) → from ≤ to
    → take to text ≡ take from text ++ take (to - from) (drop from text)
two_takes text from to le =
    let sum : to ≡ from + (to - from) = omega (arith, le) in
    ap (λ (n : ℕ). take n text) sum ∙ take-add from (to - from) text

-- No line ends between two offsets before which as many lines end.
pub no_feeds : (text : List ℕ) (from to : ℕ) → from ≤ to
    → below to (line_ends text) ≤ below from (line_ends text)
    → feeds (take (to - from) (drop from text)) ≡ 0
no_feeds text from to le few =
    let part : List ℕ = take (to - from) (drop from text) in
    let parts : feeds (take to text) ≡ feeds (take from text) + feeds part =
    ap feeds (two_takes text from to le) ∙ count_append (λ b. b == 10) (take from text) part in
    omega (arith, few, below_is text from, below_is text to, parts)

-- ---- where lines begin

-- Where the line begins before which so many lines end, in bytes whose first is at an offset.
abbrev pub begin_from : ℕ → List ℕ → ℕ → ℕ
begin_from at es zero = at
begin_from at es (suc k) = suc (get_or es k 0)

pub begin_is : (es : List ℕ) (count : ℕ) → line_begin es count ≡ begin_from 0 es count
begin_is es zero = refl
begin_is es (suc k) =
    let some : (suc k == 0) ≡ false = grind (arith, nat_tests) in
    let before : suc k - 1 ≡ k = omega arith in
    rw (some, before) (omega arith)

pub begin_under : (text : List ℕ) (line : ℕ) → line ≤ length (line_ends text)
    → begin_from 0 (line_ends text) line ≤ length text
begin_under text zero le = omega arith
begin_under text (suc k) le = omega (arith, ends_under 0 text k 0 (omega (arith, le)))

-- So many lines end before a line's begin.
begin_counts : (es : List ℕ) (count : ℕ) → Climbs 0 es → count ≤ length es
    → below (begin_from 0 es count) es ≡ count
begin_counts es zero h le = below_none 0 0 es h (omega arith)
begin_counts es (suc k) h le = below_after 0 es k h (omega (arith, le))

pub begin_below : (text : List ℕ) (offset : ℕ)
    → below (begin_from 0 (line_ends text) (below offset (line_ends text))) (line_ends text)
    ≡ below offset (line_ends text)
begin_below text offset =
    let es : List ℕ = line_ends text in
    begin_counts es (below offset es) (ends_climb 0 text)
    (count_by-le-length (λ e. nat_lt e offset) es)

-- ---- where lines stop

-- A line begins after the end of the one before it, and ends there or later.
climbs_next : (at : ℕ) (es : List ℕ) (k d e : ℕ) → Climbs at es → suc k < length es
    → suc (get_or es k d) ≤ get_or es (suc k) e
climbs_next at [] k d e h lt = absurd (omega (arith, lt))
climbs_next at (x ∷ es) zero d e h lt = climbs_get (suc x) es 0 e h.1 (omega (arith, lt))
climbs_next at (x ∷ es) (suc k) d e h lt = climbs_next (suc x) es k d e h.1 (omega (arith, lt))

pub begin_before_stop : (text : List ℕ) (line : ℕ) → line ≤ length (line_ends text)
    → line_begin (line_ends text) line ≤ line_stop text (line_ends text) line
begin_before_stop text zero le = omega arith
begin_before_stop text (suc k) le =
    let es : List ℕ = line_ends text in
    let stop : ℕ = line_stop text es (suc k) in
    let after : suc (get_or es k 0) ≤ stop = elim (cases_lt (suc k) (length es)) [
      | inl less ↦ climbs_next 0 es k 0 (length text) (ends_climb 0 text) less
      | inr past ↦
          let at_end : stop ≡ length text = get_or_past es (suc k) (length text) past in
          omega (arith, at_end, ends_under 0 text k 0 (omega (arith, le)))
    ] in
    subst (λ (n : ℕ). n ≤ stop) (sym (begin_is es (suc k))) after

pub stop_inside : (text : List ℕ) (line : ℕ) → line_stop text (line_ends text) line ≤ length text
stop_inside text line =
    let es : List ℕ = line_ends text in
    elim (cases_lt line (length es)) [
      | inl less ↦ omega (arith, ends_under 0 text line (length text) less)
      | inr past ↦ omega (arith, get_or_past es line (length text) past)
    ]

-- ---- a line that has not ended

-- A line ends before an offset.
abbrev pub IsEnded : List ℕ → (line offset : ℕ) → Type 0
IsEnded es line offset = (line < length es) × (get_or es line 0 < offset)

-- Where a line doesn't end before an offset, no more lines end before that.
pub not_ended : (text : List ℕ) (line to : ℕ)
    → (IsEnded (line_ends text) line to → ⊥)
    → below to (line_ends text) ≤ line
not_ended text line to none =
    let es : List ℕ = line_ends text in
    let climb = ends_climb 0 text in
    elim (cases_lt line (length es)) [
      | inl less ↦
          elim (cases_lt (get_or es line 0) to) [
            | inl early ↦ absurd (none (less, early))
            | inr late ↦
                let before = below_more to (get_or es line 0) es late in
                omega (arith, before, below_at 0 es line climb less)
          ]
      | inr more ↦ omega (arith, count_by-le-length (λ e. nat_lt e to) es, more)
    ]
