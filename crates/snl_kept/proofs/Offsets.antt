-- A finding that is in a token of a text is in the text.
use Rattle.std.proofs.Common.{arith, inl, inr, ℕ, zero, suc, ◌+◌, ◌^◌, ◌<◌, ◌≤◌, All, List, [], ◌∷◌, length, drop, get_or}
use Rattle.std.specs.List.{AllByRecursion, slice_get}
use Rattle.std.proofs.lemmas.List.{length-take}
use Rattle.std.proofs.lemmas.List.Elements.{recursion_from_All}
use Rattle.snl_lex.specs.declared.piece.Piece.{Piece}
use Rattle.snl_lex.specs.Pieces.{LiesIn}
use Rattle.snl_codes.specs.declared.code.Code.{Code}
use Rattle.snl_summary.specs.Summaries.Tokens.{token_bytes, bytes_if}
use Rattle.snl_item_check.specs.declared.findings.ItemFault.{ItemFault}
use Rattle.snl_item_check.specs.ItemFaults.{StandsIn}
use Rattle.snl_kept.specs.Checked.{HasOffset, at_own_token}
use Rattle.snl_kept.specs.Linked.{finding_at}

in_text : (text : List ℕ) (tokens : List Piece) (code : Code) (n byte : ℕ) → AllByRecursion (LiesIn text) tokens →
    byte ≤ length (bytes_if text (slice_get tokens n)) → (finding_at code (slice_get tokens n)).offset + byte ≤ length text
in_text text [] code n byte h w = omega arith
in_text text (p ∷ ps) code zero byte h w = omega (arith, length-take p.len (drop p.start text))
in_text text (p ∷ ps) code (suc n) byte h w = in_text text ps code n byte h.1 w

stands : (text : List ℕ) (tokens : List Piece) (fault : ItemFault) → AllByRecursion (LiesIn text) tokens → StandsIn (token_bytes text tokens) fault → (at_own_token tokens fault).offset ≤ length text
unfolding token_bytes
stands text tokens fault h (inl w) = in_text text tokens fault.code fault.token fault.byte h (omega arith)
stands text tokens fault h (inr w) = in_text text tokens fault.code fault.token fault.byte h (omega arith)

pub have_offsets : (text : List ℕ) (tokens : List Piece) (faults : List ItemFault) → length text < 2 ^ 64 → All (LiesIn text) tokens → All (StandsIn (token_bytes text tokens)) faults →
    All (HasOffset tokens) faults
have_offsets text tokens faults small h w = λ k d within.
    let there : (at_own_token tokens (get_or faults k d)).offset ≤ length text = stands text tokens (get_or faults k d) (recursion_from_All (LiesIn text) tokens h) (w k d within) in
    omega arith
