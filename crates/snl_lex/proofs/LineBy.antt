-- The line of an offset by the lists of the text's lines.
use Rattle.std.proofs.Common.{◌≡◌, ◌==◌, ℕ, zero, suc, ◌+◌, ◌-◌, Bool, false, ◌&&◌, cond, nat_lt, List, Option, Some, None, get_or, refl, sym, ap, ap₂, ◌∙◌, arith}
use Rattle.std.specs.Prelude.{slice_index, unwrap_or}
use Rattle.std.specs.Option.{option_map}
use Rattle.std.proofs.lemmas.Bool.Decides.{nat_tests}
use Rattle.snl_lex.specs.declared.marker_list.Marker.{Marker}
use Rattle.snl_lex.specs.declared.lines.Line.{Line}
use Rattle.snl_lex.specs.declared.piece.Piece.{Piece}
use Rattle.snl_lex.specs.LineList.{ends_before, last_before, line_begin, line_ends, marker_of, names, naming_markers, number_after, numbers, setting_markers}
use Rattle.snl_lex.specs.Lines.{file_by, has_line_between, last_that, line_at, marker_number, names_file, number_by, sets_line}
use Rattle.snl_lex.specs.Pieces.{bytes_at, piece_end, pieces_of}
use Rattle.snl_lex.proofs.Along.{names_is}
use Rattle.snl_lex.proofs.LineEnds.{any_none, any_some, below_is, between_is}
use Rattle.snl_lex.proofs.MarkerLists.{last_told}
use Rattle.std.proofs.lemmas.Bool.{le-ltb}
use Rattle.snl_lex.specs.LineLaws.{sets_is}

not_zero : (k : ℕ) → (suc k == 0) ≡ false
not_zero k = grind (arith, nat_tests)

begin_some : (es : List ℕ) (k : ℕ) → line_begin es (suc k) ≡ suc (get_or es k 0)
begin_some es k =
    let one : suc k - 1 ≡ k = omega arith in
    let more : slice_index es k + 1 ≡ suc (get_or es k 0) = omega arith in
    ap (λ (t : Bool). cond t 0 (slice_index es (suc k - 1) + 1)) (not_zero k) ∙ ap (λ (n : ℕ). slice_index es n + 1) one ∙ more

-- A line ends at or after a place and before the offset, if the offset's line begins after the
-- place.
pub begin_told : (text : List ℕ) (a offset n : ℕ) → ends_before (line_ends text) offset ≡ n → has_line_between text a offset ≡ nat_lt a (line_begin (line_ends text) n)
begin_told text a offset zero h = any_none text a offset h ∙ sym (le-ltb a 0 (omega arith))
begin_told text a offset (suc k) h = any_some text a offset k h ∙ ap (nat_lt a) (sym (begin_some (line_ends text) k))

-- The file of a marker, if there is one.
abbrev pub file_in : Option Marker → Option (ℕ × ℕ)
file_in None = None
file_in (Some m) = m.file

abbrev pub line_with : ℕ → Option (ℕ × ℕ) → Line
line_with number file = record { number = number; file = file }

module _ (text : List ℕ) (offset : ℕ) where
  abbrev lines : List ℕ
  lines = line_ends text

  abbrev begin : ℕ
  begin = line_begin (line_ends text) (ends_before (line_ends text) offset)

  setter : last_before begin (setting_markers text) ≡ option_map (marker_of text) (last_that (sets_line text offset) (pieces_of text))
  setter =
      last_told (numbers text) (sets_line text offset) (marker_of text) (λ m. nat_lt m.end begin) None (pieces_of text)
      (λ p. sets_is text offset p ∙ ap (λ (b : Bool). numbers text p && b) (begin_told text (piece_end p) offset (ends_before lines offset) refl))

  namer : last_before begin (naming_markers text) ≡ option_map (marker_of text) (last_that (names_file text offset) (pieces_of text))
  namer =
      last_told (names text) (names_file text offset) (marker_of text) (λ m. nat_lt m.end begin) None (pieces_of text)
      (λ p. names_is text offset p ∙ ap (λ (b : Bool). names text p && b) (begin_told text (piece_end p) offset (ends_before lines offset) refl))

  number_told : (o : Option Piece) → number_after lines (ends_before lines offset) (option_map (marker_of text) o) ≡ number_by text offset o
  number_told None = ap (λ (n : ℕ). 1 + n) (below_is text offset)
  number_told (Some p) = ap (λ (n : ℕ). (unwrap_or (marker_number (bytes_at text p)) 0 + n) - 1) (sym (between_is text (piece_end p) offset))

  file_told : (o : Option Piece) → file_in (option_map (marker_of text) o) ≡ file_by text o
  file_told None = refl
  file_told (Some p) = refl

  -- What the lists tell is the line.
  pub line_told : (counted begun after : List ℕ) (ms ns : List Marker) (count from number : ℕ) (last named : Option Marker) → counted ≡ line_ends text → begun ≡ line_ends text → after ≡ line_ends text → ms ≡ setting_markers text → ns ≡ naming_markers text
      → count ≡ ends_before counted offset → from ≡ line_begin begun count → last ≡ last_before from ms → number ≡ number_after after count last → named ≡ last_before from ns
      → line_with number (file_in named) ≡ line_at text offset
  unfolding line_at
  line_told counted begun after ms ns count from number last named e1 e2 e3 em en hc hf hl hn hd =
      let here : count ≡ ends_before lines offset = hc ∙ ap (λ (l : List ℕ). ends_before l offset) e1 in
      let start : from ≡ begin = hf ∙ ap₂ line_begin e2 here in
      let setting : last ≡ option_map (marker_of text) (last_that (sets_line text offset) (pieces_of text)) = hl ∙ ap₂ last_before start em ∙ setter in
      let naming : named ≡ option_map (marker_of text) (last_that (names_file text offset) (pieces_of text)) = hd ∙ ap₂ last_before start en ∙ namer in
      let the_number : number ≡ number_by text offset (last_that (sets_line text offset) (pieces_of text)) =
      hn ∙ ap₂ (λ (l : List ℕ) (n : ℕ). number_after l n last) e3 here ∙ ap (number_after lines (ends_before lines offset)) setting
      ∙ number_told (last_that (sets_line text offset) (pieces_of text)) in
      let the_file : file_in named ≡ file_by text (last_that (names_file text offset) (pieces_of text)) = ap file_in naming ∙ file_told (last_that (names_file text offset) (pieces_of text)) in
      ap₂ line_with the_number the_file
