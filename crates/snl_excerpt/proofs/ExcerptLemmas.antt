-- The parts of a shown line make the line.
use Rattle.std.proofs.Common.{◌≡◌, ℕ, ◌+◌, ◌-◌, List, ◌++◌, Bool, drop, min, refl}
use Rattle.std.specs.Prelude.{encode_utf8_all}
use Rattle.snl_excerpt.specs.Excerpts.{back_line, dots_if, excerpt, front_line, marked_line, marks_of, stop_column}
use Rattle.snl_excerpt.specs.Glyphs.{text_width}
use Rattle.snl_excerpt.specs.Lines.{shown}
use Rattle.snl_excerpt.specs.Windows.{after_count, front_count, goes_on, inside_of, is_cut}
use Rattle.snl_excerpt.proofs.ShownLemmas.{put_three, put_two, width_two}

pub front_made : (text out mid new bytes : List ℕ) (place before count inside column : ℕ) (cut : Bool) → cut ≡ is_cut before → count ≡ front_count before → bytes ≡ drop (place - count) text → inside ≡ inside_of cut bytes → column ≡ text_width (dots_if cut) → mid ≡ out ++ encode_utf8_all (dots_if cut) → new ≡ mid ++ encode_utf8_all (shown count (record { inside = inside; column = column }) bytes) → new ≡ out ++ encode_utf8_all (front_line text place before)
unfolding front_line
front_made text out mid new bytes place before count inside column cut u k b i c m n = rw (n, m, i, c, b, k, u) (put_two out (dots_if (is_cut before)) _)

pub front_wide : (text bytes : List ℕ) (place before count inside column after : ℕ) (cut : Bool) → cut ≡ is_cut before → count ≡ front_count before → bytes ≡ drop (place - count) text → inside ≡ inside_of cut bytes → column ≡ text_width (dots_if cut) → after ≡ column + text_width (shown count (record { inside = inside; column = column }) bytes) → after ≡ text_width (front_line text place before)
unfolding front_line
front_wide text bytes place before count inside column after cut u k b i c a = rw (a, i, c, b, k, u) (width_two (dots_if (is_cut before)) _)

pub back_made : (bytes out first second new more : List ℕ) (column len count marked stop : ℕ) (on : Bool) → count ≡ after_count bytes → marked ≡ min len count → first ≡ out ++ encode_utf8_all (marked_line column bytes marked) → stop ≡ column + text_width (marked_line column bytes marked) → more ≡ drop marked bytes → second ≡ first ++ encode_utf8_all (marked_line stop more (count - marked)) → on ≡ goes_on bytes count → new ≡ second ++ encode_utf8_all (dots_if on) → new ≡ out ++ encode_utf8_all (back_line column bytes len)
unfolding back_line stop_column
back_made bytes out first second new more column len count marked stop on k m a s d b g n = rw (n, b, a, g, d, s, m, k) (put_three out _ _ _)

pub stop_made : (bytes : List ℕ) (column len count marked stop : ℕ) → count ≡ after_count bytes → marked ≡ min len count → stop ≡ column + text_width (marked_line column bytes marked) → stop ≡ stop_column column bytes len
unfolding stop_column
stop_made bytes column len count marked stop k m s = rw (s, m, k) refl

pub excerpt_made : (text out mid new bytes : List ℕ) (place before len start : ℕ) → start ≡ text_width (front_line text place before) → bytes ≡ drop place text → mid ≡ out ++ encode_utf8_all (front_line text place before) → new ≡ mid ++ encode_utf8_all (back_line start bytes len) → new ≡ out ++ encode_utf8_all (excerpt text place before len)
unfolding excerpt
excerpt_made text out mid new bytes place before len start s b m n = rw (n, m, b, s) (put_two out (front_line text place before) _)

pub marks_made : (text bytes : List ℕ) (place before len start stop : ℕ) → start ≡ text_width (front_line text place before) → bytes ≡ drop place text → stop ≡ stop_column start bytes len → record { start = start; stop = stop } ≡ marks_of text place before len
unfolding marks_of
marks_made text bytes place before len start stop s b p = rw (p, b, s) refl
