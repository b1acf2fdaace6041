-- In a text in UTF-8 a character begins where a piece begins.
use Rattle.std.proofs.Common.{◌≡◌, ℕ, zero, suc, ◌+◌, ◌<◌, Bool, true, false, All, List, [], ◌∷◌, drop, length, nat_lt, refl, subst, arith}
use Rattle.std.specs.Prelude.{if◌then◌else◌}
use Rattle.std.specs.List.{AllByRecursion as Each}
use Rattle.std.specs.Str.{IsCharBoundary, IsUtf8}
use Rattle.std.proofs.lemmas.Bool.Decides.{nat_tests}
use Rattle.std.proofs.lemmas.List.{length-drop}
use Rattle.std.proofs.lemmas.List.Elements.{All-from_recursion}
use Rattle.std.proofs.lemmas.Str.{IsCharBoundary-after_ascii, IsCharBoundary-before_ascii, IsCharBoundary-end, IsCharBoundary-from_rest, IsCharBoundary-start, IsUtf8-drop}
use Rattle.snl_lex.specs.declared.piece.Piece.{Piece}
use Rattle.snl_lex.specs.Pieces.{piece_at, piece_end, piece_length, pieces_from, pieces_of}
use Rattle.snl_token_laws.proofs.PieceEnds.{Ends, after_ascii, at_end, before_ascii, piece_ends_so}

boundary : (u : List ℕ) (n : ℕ) → IsUtf8 u → Ends u n → IsCharBoundary u n
boundary u _ utf8 (at_end _) = IsCharBoundary-end u
boundary u _ utf8 (after_ascii _ m less ascii) =
    let sum : m + 1 ≡ suc m = omega arith in
    subst (IsCharBoundary u) sum (IsCharBoundary-after_ascii u m utf8 less ascii)
boundary u n utf8 (before_ascii _ _ less ascii) = IsCharBoundary-before_ascii u n less ascii

-- where the first piece ends
first_ends : (u : List ℕ) → 0 < length u → IsUtf8 u → IsCharBoundary u (piece_length u)
first_ends [] some utf8 = absurd (omega (arith, some))
first_ends (x ∷ xs) some utf8 =
    boundary (x ∷ xs) (piece_length (x ∷ xs)) utf8 (piece_ends_so x xs)

abbrev HoldsCharacters : List ℕ → Piece → Type 0
HoldsCharacters text p = IsCharBoundary text p.start × IsCharBoundary text (piece_end p)

from_offset : (text : List ℕ) → IsUtf8 text → (at most : ℕ) → IsCharBoundary text at →
    Each (HoldsCharacters text) (pieces_from text at most)
unfolding piece_at
from_offset text utf8 at zero begins = tt
from_offset text utf8 at (suc most) begins =
    by (nat_lt at (length text)) refl (λ e. from_offset text utf8 next most (ends e))
  where
    next : ℕ
    next = at + piece_length (drop at text)

    ends : nat_lt at (length text) ≡ true → IsCharBoundary text next
    ends e =
        let less : at < length text = grind (arith, nat_tests, e) in
        IsCharBoundary-from_rest text at (piece_length (drop at text)) (omega (arith, less))
        (first_ends (drop at text) (omega (arith, less, length-drop at text))
        (IsUtf8-drop text at utf8 begins))

    by : (b : Bool) → nat_lt at (length text) ≡ b →
        (nat_lt at (length text) ≡ true → Each (HoldsCharacters text) (pieces_from text next most)) →
        Each (HoldsCharacters text) (if b then piece_at text at ∷ pieces_from text next most else [])
    by true e rest = ((begins, ends e), rest e)
    by false e rest = tt

pub characters_held : (text : List ℕ) → IsUtf8 text → All (HoldsCharacters text) (pieces_of text)
unfolding pieces_of
characters_held text utf8 =
    All-from_recursion (HoldsCharacters text) (pieces_from text 0 (length text))
    (from_offset text utf8 0 (length text) (IsCharBoundary-start text utf8))
