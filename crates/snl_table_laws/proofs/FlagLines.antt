-- The line of a flag in a listing.
use Rattle.std.proofs.Common.{◌≡◌, ℕ, zero, suc, ◌+◌, List, [], ◌∷◌, ◌++◌, slice_get, Some, ap, ◌∙◌, sym, subst, arith}
use Rattle.std.specs.List.{flat_map}
use Rattle.std.proofs.lemmas.List.{append_assoc}
use Rattle.snl_tables.specs.declared.rows.FlagRow.{FlagRow}
use Rattle.snl_tables.specs.declared.rows.Tables.{Tables}
use Rattle.snl_listing.specs.Listing.{channel_line, flag_line, listing_of, numbered, option_line, program_line, set_text}
use Rattle.snl_table_laws.specs.Flags.{HasLine, row_numbered}

-- A line among bytes is among these with others before and after them.
within : (before bytes after line : List ℕ) → HasLine bytes line → HasLine (before ++ (bytes ++ after)) line
within before bytes after line h = record {
  before = before ++ h.before;
  after = h.after ++ after;
  whole = ap (λ (l : List ℕ). before ++ (l ++ after)) h.whole
      ∙ ap (λ (l : List ℕ). before ++ l) (append_assoc h.before (line ++ h.after) after ∙ ap (λ (l : List ℕ). h.before ++ l) (append_assoc line h.after after))
      ∙ sym (append_assoc before h.before (line ++ (h.after ++ after)));
}

-- Numbered from a number on, row k has that number and k more.
row_has_line : {X : Type 0} (line : ℕ → X → List ℕ) (from k : ℕ) (rows : List X) (row : X) → slice_get rows k ≡ Some row → HasLine (numbered line from rows) (line (from + k) row)
row_has_line line from k [] row e = absurd cc
row_has_line line from zero (x ∷ xs) row e =
    let same : x ≡ row = cc in
    let first : from + 0 ≡ from = omega arith in
    record { before = []; after = numbered line (from + 1) xs; whole = ap (λ y. line from y ++ numbered line (from + 1) xs) same ∙ ap (λ n. line n row ++ numbered line (from + 1) xs) (sym first) }
row_has_line line from (suc k) (x ∷ xs) row e =
    let next : from + 1 + k ≡ from + suc k = omega arith in
    let rest = row_has_line line (from + 1) k xs row e in
    record {
      before = line from x ++ rest.before;
      after = rest.after;
      whole = ap (λ (l : List ℕ). line from x ++ l) (rest.whole ∙ ap (λ n. rest.before ++ (line n row ++ rest.after)) next)
          ∙ sym (append_assoc (line from x) rest.before (line (from + suc k) row ++ rest.after));
    }

pub flag_has_line : (text : List ℕ) (tables : Tables) (n : ℕ) (row : FlagRow) → row_numbered tables.flags n ≡ Some row → HasLine (listing_of text tables) (flag_line text n row)
unfolding listing_of
flag_has_line text tables zero row e = absurd cc
flag_has_line text tables (suc k) row e =
    let number : 1 + k ≡ suc k = omega arith in
    let here : HasLine (numbered (flag_line text) 1 tables.flags) (flag_line text (suc k) row) =
    subst (λ n. HasLine (numbered (flag_line text) 1 tables.flags) (flag_line text n row)) number (row_has_line (flag_line text) 1 k tables.flags row e) in
    let rest : List ℕ = numbered (channel_line text) 0 tables.channels ++ (flat_map (set_text text tables) tables.sets ++ []) in
    let whole : HasLine ((program_line text tables.program ++ flat_map (option_line []) tables.options) ++ (numbered (flag_line text) 1 tables.flags ++ rest)) (flag_line text (suc k) row) =
    within (program_line text tables.program ++ flat_map (option_line []) tables.options) (numbered (flag_line text) 1 tables.flags) rest (flag_line text (suc k) row) here in
    subst (λ (l : List ℕ). HasLine l (flag_line text (suc k) row)) (append_assoc (program_line text tables.program) (flat_map (option_line []) tables.options) (numbered (flag_line text) 1 tables.flags ++ rest)) whole
