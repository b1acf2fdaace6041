-- The name of a file that a line marker sets lies in the text.
use Rattle.std.proofs.Common.{◌≡◌, ℕ, ◌+◌, ◌<◌, ◌≤◌, Bool, true, false, ◌&&◌, All, List, [], ◌∷◌, length, drop, filter, Option, None, Some, IfSome, refl, inl, inr, arith}
use Rattle.std.specs.Prelude.{◌==◌, slice_index, if◌then◌else◌}
use Rattle.std.specs.List.{AllByRecursion as Each, enumerate_from}
use Rattle.std.proofs.lemmas.Bool.{and_parts, cases_lt, eqb-true}
use Rattle.std.proofs.lemmas.List.{get_or_past, length-take}
use Rattle.std.proofs.lemmas.List.Elements.{All-from_recursion, recursion_from_All}
use Rattle.snl_lex.specs.declared.piece.Piece.{Piece}
use Rattle.snl_lex.specs.Lines.{file_by, gap_end, last_or, last_that, line_at, marker_file, names_file, number_stop, place_from}
use Rattle.snl_lex.specs.Pieces.{LiesIn, bytes_at, pieces_of, string_joins}
use Rattle.snl_lex.specs.Runs.{run_by}
use Rattle.snl_summary.specs.declared.summary.Outline.{Outline}
use Rattle.snl_scope.specs.Below.{all_below}
use Rattle.snl_scope.specs.Places.{is_set_begin}
use Rattle.snl_item_check.specs.Items.{ProgramItem, outlines_of}
use Rattle.snl_check.specs.ItemSpans.{item_start}
use Rattle.snl_check.specs.Members.{states_in}
use Rattle.snl_check.specs.States.{numbered_row, set_row, state_rows}
use Rattle.snl_kept.specs.Program.{items_of}
use Rattle.snl_kept.specs.Tables.{tables_in}
use Rattle.snl_finding_laws.specs.Places.{FileLiesIn, SetFilesLieIn, StateFileLiesIn}
use Rattle.snl_facts.specs.Each.{each_by, each_map, each_filter}

-- A byte that isn't 0 is one of the list.
byte_there : (bytes : List ℕ) (k : ℕ) → (slice_index bytes k == 34) ≡ true → k < length bytes
byte_there bytes k h =
    elim (cases_lt k (length bytes)) [
      | inl lt ↦ lt
      | inr past ↦ let none : slice_index bytes k ≡ 0 = get_or_past bytes k 0 past in absurd (omega (arith, eqb-true (slice_index bytes k) 34 h, none))
    ]

file_in_marker : (marker : List ℕ) → IfSome (marker_file marker) (λ f. f.0 + f.1 ≤ length marker)
unfolding marker_file
file_in_marker marker =
    let quote : ℕ = gap_end marker (number_stop marker) in
    let count : ℕ = run_by (string_joins 34) [] (drop 1 (drop quote marker)) in
    by quote count (slice_index marker quote == 34 && slice_index marker (quote + 1 + count) == 34) refl
  where
    by : (quote count : ℕ) (b : Bool) → (slice_index marker quote == 34 && slice_index marker (quote + 1 + count) == 34) ≡ b
        → IfSome {T = ℕ × ℕ} (if b then Some (quote + 1, count) else None) (λ f. f.0 + f.1 ≤ length marker)
    by quote count true e =
        let there : quote + 1 + count < length marker =
        byte_there marker (quote + 1 + count) (and_parts (slice_index marker quote == 34) (slice_index marker (quote + 1 + count) == 34) e).1 in
        omega (arith, there)
    by quote count false e = tt

last_among : (P : Piece → Type 0) (o : Option Piece) (ps : List Piece) → IfSome o P → Each P ps → IfSome (last_or o ps) P
last_among P o [] h hs = h
last_among P o (p ∷ ps) h hs = last_among P (Some p) ps hs.0 hs.1

file_at_piece : (text : List ℕ) (o : Option Piece) → IfSome o (LiesIn text) → FileLiesIn text (file_by text o)
file_at_piece text None h = tt
file_at_piece text (Some p) h = by (marker_file (bytes_at text p)) (file_in_marker (bytes_at text p))
  where
    by : (o : Option (ℕ × ℕ)) → IfSome o (λ f. f.0 + f.1 ≤ length (bytes_at text p)) → FileLiesIn text (place_from p.start o)
    by None g = tt
    by (Some f) g = omega (arith, g, h.1, length-take p.len (drop p.start text))

pub file_lies : (text : List ℕ) → All (LiesIn text) (pieces_of text) → (offset : ℕ) → FileLiesIn text (line_at text offset).file
unfolding line_at
file_lies text inside offset =
    file_at_piece text (last_that (names_file text offset) (pieces_of text))
    (last_among (LiesIn text) None (filter (names_file text offset) (pieces_of text)) tt
    (each_filter (LiesIn text) (names_file text offset) (pieces_of text) (recursion_from_All (LiesIn text) (pieces_of text) inside)))

-- ---- the lines of rows

set_files : (text : List ℕ) → All (LiesIn text) (pieces_of text) → (xs : List ProgramItem) (ss : List Outline) (k : ℕ) → SetFilesLieIn text (set_row text xs ss k)
set_files text inside xs ss k = record {
  own = file_lies text inside (item_start xs k);
  states = All-from_recursion (StateFileLiesIn text) (state_rows text xs ss k)
      (each_map (StateFileLiesIn text) (numbered_row text xs ss k) (enumerate_from 0 (states_in ss k))
      (each_by (λ p. StateFileLiesIn text (numbered_row text xs ss k p)) (λ p. file_lies text inside (item_start xs p.1)) (enumerate_from 0 (states_in ss k))));
}

pub files_lie : (text : List ℕ) → All (LiesIn text) (pieces_of text) → All (SetFilesLieIn text) (tables_in text).sets
unfolding tables_in
files_lie text inside =
    let xs : List ProgramItem = items_of text in
    let ss : List Outline = outlines_of text xs in
    All-from_recursion (SetFilesLieIn text) (tables_in text).sets
    (each_map (SetFilesLieIn text) (set_row text xs ss) (all_below (is_set_begin ss) (length ss))
    (each_by (λ k. SetFilesLieIn text (set_row text xs ss k)) (set_files text inside xs ss) (all_below (is_set_begin ss) (length ss))))
