-- The lines of items after an edit that isn't between the two first tokens of one, where the line
-- that the next marker numbers isn't either.
use Rattle.std.proofs.Common.{◌≡◌, ℕ, ◌+◌, ◌-◌, ◌<◌, ◌≤◌, inl, inr, Bool, not, ◌||◌, nat_lt, if◌then◌else◌, min, List, [], ◌∷◌, length, sym, ap, ap₂, ◌∙◌, arith}
use Rattle.std.specs.Prelude.{nat_le}
use Rattle.std.specs.List.{AllByRecursion}
use Rattle.std.proofs.lemmas.Bool.{le-ltb, lt-ltb}
use Rattle.std.proofs.lemmas.Bool.Decides.{nat_tests}
use Rattle.snl_lex.specs.declared.lines.Line.{Line}
use Rattle.snl_lex.specs.declared.piece.Piece.{Piece}
use Rattle.snl_lex.specs.declared.line_shift.LineShift.{LineShift}
use Rattle.snl_lex.specs.LineShift.{moved_line, shifted_file}
use Rattle.snl_lex.specs.Lines.{line_at}
use Rattle.snl_lex.specs.Shift.{IsOutside, most, shifted_offset}
use Rattle.snl_moved.specs.Shifted.{shifted_tokens, start_at}
use Rattle.snl_kept.specs.Shifted.{IsOnOneSide}

module _ (old text : List ℕ) (t : LineShift) (order : t.by.start ≤ t.by.old_stop)
    (lines : (o : ℕ) → IsOutside old t.by o → line_at text (shifted_offset t.by o) ≡ moved_line t o (line_at old o)) where
  abbrev pub IsInFront : Piece → Type 0
  IsInFront p = p.start < t.by.start

  abbrev pub IsAfter : Piece → Type 0
  IsAfter p = (t.by.old_stop ≤ p.start) × (p.start ≤ length old)

  -- The line of an item that has these tokens.
  abbrev pub KeepsLine : List Piece → Type 0
  KeepsLine m = 1 < length m → line_at text (start_at (shifted_tokens t.by m) 0) ≡ moved_line t (start_at m 1) (line_at old (start_at m 0))

  -- A line moves as one that is on the same side of the edit, and of the line that a marker
  -- numbers.
  abbrev moved_if : Line → Bool → Bool → Line
  moved_if line early late = record {
    number = if early || late then line.number else min (line.number + t.by.new_lines) most - t.by.old_lines;
    file = shifted_file t.by line.file;
  }

  pub same_side : (line : Line) (a b : ℕ) → nat_lt a t.by.start ≡ nat_lt b t.by.start → nat_le t.until a ≡ nat_le t.until b → moved_line t a line ≡ moved_line t b line
  same_side line a b early late = ap₂ (moved_if line) early late

  pub in_front : (line : Line) (a b : ℕ) → a < t.by.start → b < t.by.start → nat_le t.until a ≡ nat_le t.until b → moved_line t a line ≡ moved_line t b line
  in_front line a b h g late = same_side line a b (lt-ltb a t.by.start h ∙ sym (lt-ltb b t.by.start g)) late

  after : (line : Line) (a b : ℕ) → t.by.start ≤ a → t.by.start ≤ b → nat_le t.until a ≡ nat_le t.until b → moved_line t a line ≡ moved_line t b line
  after line a b h g late = same_side line a b (le-ltb a t.by.start h ∙ sym (le-ltb b t.by.start g)) late

  -- The line of an item that is before the edit, and of one that is after it.
  pub all_in_front : (m : List Piece) → AllByRecursion IsInFront m → IsOnOneSide t.until m → KeepsLine m
  all_in_front [] h side some = absurd (omega arith)
  all_in_front (p ∷ []) h side some = absurd (omega arith)
  all_in_front (p ∷ q ∷ ps) h side some = lines p.start (inl h.0) ∙ in_front (line_at old p.start) p.start q.start h.0 h.1.0 (side some)

  pub all_after : (m : List Piece) → AllByRecursion IsAfter m → IsOnOneSide t.until m → KeepsLine m
  all_after [] h side some = absurd (omega arith)
  all_after (p ∷ []) h side some = absurd (omega arith)
  all_after (p ∷ q ∷ ps) h side some = lines p.start (inr h.0) ∙ after (line_at old p.start) p.start q.start (omega (arith, h.0.0)) (omega (arith, h.1.0.0)) (side some)

  -- The line of an item whose first two tokens the edit leaves on one side of it.
  by_start : (a b : ℕ) → nat_lt a b ≡ not (nat_le b a)
  by_start a b = grind (arith, nat_tests)

  keeps_line : (m : List Piece) → AllByRecursion (λ p. IsOutside old t.by p.start) m → IsOnOneSide t.by.start m → IsOnOneSide t.until m → KeepsLine m
  keeps_line [] left edit numbered some = absurd (omega arith)
  keeps_line (p ∷ []) left edit numbered some = absurd (omega arith)
  keeps_line (p ∷ q ∷ ps) left edit numbered some =
      lines p.start left.0
      ∙ same_side (line_at old p.start) p.start q.start (by_start p.start t.by.start ∙ ap not (edit some) ∙ sym (by_start q.start t.by.start)) (numbered some)

  pub lines_kept : (ms : List (List Piece)) → AllByRecursion (AllByRecursion (λ p. IsOutside old t.by p.start)) ms → AllByRecursion (IsOnOneSide t.by.start) ms → AllByRecursion (IsOnOneSide t.until) ms → AllByRecursion KeepsLine ms
  lines_kept [] left edit numbered = tt
  lines_kept (m ∷ ms) left edit numbered = (keeps_line m left.0 edit.0 numbered.0, lines_kept ms left.1 edit.1 numbered.1)
