-- The order of findings, and their lines, after an edit that shifts them.
use Rattle.std.proofs.Common.{◌≡◌, ℕ, ◌+◌, ◌<◌, ◌≤◌, inl, inr, Bool, true, false, if◌then◌else◌, All, List, [], ◌∷◌, length, map, refl, sym, ap, ap₂, ◌∙◌, arith}
use Rattle.std.specs.List.{AllByRecursion}
use Rattle.std.specs.Cmp.Lexicographic.{slice_cmp}
use Rattle.std.specs.Cmp.{nat_cmp_is}
use Rattle.std.specs.Ordering.{MatchOrdering, is_lt, nat_cmp, ordering_then}
use Rattle.std.specs.declared.cmp.Ordering.{Ordering}
use Rattle.std.specs.declared.cmp.Ordering.TheVariants.{Less, Equal, Greater}
use Rattle.std.proofs.lemmas.Cmp.{ranked}
use Rattle.std.proofs.lemmas.List.Elements.{recursion_from_All}
use Rattle.snl_lex.specs.declared.line_shift.LineShift.{LineShift}
use Rattle.snl_lex.specs.declared.shift.Shift.{Shift}
use Rattle.snl_lex.specs.Lines.{line_at}
use Rattle.snl_lex.specs.LineShift.{moved_line}
use Rattle.snl_lex.specs.Shift.{IsOutside, most, shifted_offset}
use Rattle.snl_codes.specs.Codes.{name_of}
use Rattle.snl_kept.specs.declared.found.findings.Diagnostic.{Diagnostic}
use Rattle.snl_kept.specs.declared.found.findings.Finding.{Finding}
use Rattle.snl_kept.specs.Diagnostics.{diagnostic, on_line}
use Rattle.snl_kept.specs.Order.{goes_before, in_order, put_in_order}
use Rattle.snl_kept.specs.Shifted.{shifted_diagnostic, shifted_finding}
use Rattle.snl_lex.specs.ShiftLaws.{early_offset, late_offset}

module _ (old : List ℕ) (s : Shift) (before : s.start ≤ s.old_stop) (after : s.start ≤ s.new_stop) (fits : length old + s.new_stop ≤ most) where
  -- What is outside the edit keeps its order.
  less : (a b : ℕ) → IsOutside old s a → IsOutside old s b → a < b → shifted_offset s a < shifted_offset s b
  less a b (inl h) (inl k) lt = omega (arith, early_offset s a h, early_offset s b k)
  less a b (inl h) (inr k) lt = omega (arith, early_offset s a h, late_offset s b (omega (arith, k.0)) (omega (arith, k.1)), k.0)
  less a b (inr h) (inl k) lt = absurd (omega (arith, h.0))
  less a b (inr h) (inr k) lt = omega (arith, late_offset s a (omega (arith, h.0)) (omega (arith, h.1)), late_offset s b (omega (arith, k.0)) (omega (arith, k.1)), h.0)

  compared : (a b : ℕ) → IsOutside old s a → IsOutside old s b → nat_cmp (shifted_offset s a) (shifted_offset s b) ≡ nat_cmp a b
  compared a b h k = sym (nat_cmp_is (shifted_offset s a) (shifted_offset s b) (nat_cmp a b) (by (nat_cmp a b) (ranked a b (nat_cmp a b) refl)))
    where
      by : (r : Ordering) → MatchOrdering r (a < b) (a ≡ b) (b < a) → MatchOrdering r (shifted_offset s a < shifted_offset s b) (shifted_offset s a ≡ shifted_offset s b) (shifted_offset s b < shifted_offset s a)
      by Less lt = less a b h k lt
      by Equal e = ap (shifted_offset s) e
      by Greater gt = less b a k h gt

  abbrev Out : Finding → Type 0
  Out x = IsOutside old s x.offset

  goes_same : (x y : Finding) → Out x → Out y → goes_before (shifted_finding s x) (shifted_finding s y) ≡ goes_before x y
  goes_same x y h k =
      ap (λ (r : Ordering). is_lt (ordering_then r (ordering_then (slice_cmp nat_cmp (name_of x.code) (name_of y.code)) (nat_cmp x.subject y.subject)))) (compared x.offset y.offset h k)

  put_shifts : (x : Finding) (ys : List Finding) → Out x → AllByRecursion Out ys → put_in_order (shifted_finding s x) (map (shifted_finding s) ys) ≡ map (shifted_finding s) (put_in_order x ys)
  put_shifts x [] h k = refl
  put_shifts x (y ∷ ys) h k =
      ap (λ (b : Bool). if b then shifted_finding s y ∷ put_in_order (shifted_finding s x) (map (shifted_finding s) ys) else shifted_finding s x ∷ shifted_finding s y ∷ map (shifted_finding s) ys) (goes_same y x k.0 h)
      ∙ by (put_shifts x ys h k.1) (goes_before y x)
    where
      by : put_in_order (shifted_finding s x) (map (shifted_finding s) ys) ≡ map (shifted_finding s) (put_in_order x ys)
          → (b : Bool) → (if b then shifted_finding s y ∷ put_in_order (shifted_finding s x) (map (shifted_finding s) ys) else shifted_finding s x ∷ shifted_finding s y ∷ map (shifted_finding s) ys)
          ≡ map (shifted_finding s) (if b then y ∷ put_in_order x ys else x ∷ y ∷ ys)
      by rest true = ap (λ (l : List Finding). shifted_finding s y ∷ l) rest
      by rest false = refl

  -- what holds of findings in order holds of each
  taken_out : (x : Finding) (ys : List Finding) → AllByRecursion Out (put_in_order x ys) → Out x × AllByRecursion Out ys
  taken_out x [] h = (h.0, tt)
  taken_out x (y ∷ ys) h = by (λ k. taken_out x ys k) (goes_before y x) h
    where
      by : (AllByRecursion Out (put_in_order x ys) → Out x × AllByRecursion Out ys) → (b : Bool) → AllByRecursion Out (if b then y ∷ put_in_order x ys else x ∷ y ∷ ys) → Out x × AllByRecursion Out (y ∷ ys)
      by rest true k = let parts = rest k.1 in (parts.0, (k.0, parts.1))
      by rest false k = k

  all_out : (xs : List Finding) → AllByRecursion Out (in_order xs) → AllByRecursion Out xs
  all_out [] h = tt
  all_out (x ∷ xs) h = let parts = taken_out x (in_order xs) h in (parts.0, all_out xs parts.1)

  order_shifts : (xs : List Finding) → AllByRecursion Out (in_order xs) → in_order (map (shifted_finding s) xs) ≡ map (shifted_finding s) (in_order xs)
  order_shifts [] h = refl
  order_shifts (x ∷ xs) h =
      let parts = taken_out x (in_order xs) h in
      ap (put_in_order (shifted_finding s x)) (order_shifts xs parts.1) ∙ put_shifts x (in_order xs) parts.0 parts.1

  -- the lines
  module _ (text : List ℕ) (until : ℕ) (lines : (o : ℕ) → IsOutside old s o → line_at text (shifted_offset s o) ≡ moved_line (record { by = s; until = until }) o (line_at old o)) where
    abbrev t : LineShift
    t = record { by = s; until = until }

    on_lines_shift : (xs : List Finding) → AllByRecursion Out xs → map (diagnostic text) (map (shifted_finding s) xs) ≡ map (shifted_diagnostic t) (map (diagnostic old) xs)
    on_lines_shift [] h = refl
    on_lines_shift (x ∷ xs) h =
        ap₂ (λ (d : Diagnostic) (ds : List Diagnostic). d ∷ ds) (ap (on_line (shifted_finding s x)) (lines x.offset h.0)) (on_lines_shift xs h.1)

    out_from : (xs : List Finding) → AllByRecursion (λ (d : Diagnostic). IsOutside old s d.offset) (map (diagnostic old) xs) → AllByRecursion Out xs
    out_from [] h = tt
    out_from (x ∷ xs) h = (h.0, out_from xs h.1)

    -- Findings that are shifted are the diagnostics shifted.
    pub told_shift : (xs : List Finding) → All (λ (d : Diagnostic). IsOutside old s d.offset) (map (diagnostic old) (in_order xs))
        → map (diagnostic text) (in_order (map (shifted_finding s) xs)) ≡ map (shifted_diagnostic t) (map (diagnostic old) (in_order xs))
    told_shift xs h =
        let out : AllByRecursion Out (in_order xs) = out_from (in_order xs) (recursion_from_All (λ (d : Diagnostic). IsOutside old s d.offset) (map (diagnostic old) (in_order xs)) h) in
        ap (map (diagnostic text)) (order_shifts xs out) ∙ on_lines_shift (in_order xs) out
