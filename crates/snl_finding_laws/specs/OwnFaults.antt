-- What the parser finds at an item: the item's span, and the diagnostics in it that have one of the
-- parser's codes.
use Rattle.std.specs.Prelude.{◌≡◌, ◌⊎◌, ℕ, ◌+◌, ◌&&◌, Bool, true, false, List, [], ◌∷◌, nat_le, nat_lt}
use Rattle.snl_lex.specs.declared.piece.Piece.{Piece}
use Rattle.snl_codes.specs.declared.code.Code.{Code}
use Rattle.snl_codes.specs.declared.code.Code.TheVariants.{E01, E02, E05, E06}
use Rattle.snl_codes.specs.Codes.{Finder, finder_of, parser}
use Rattle.snl_kept.specs.declared.found.findings.Diagnostic.{Diagnostic}
use Rattle.snl_kept.specs.Program.{ProgramItem}

-- Where the first of some tokens begins, and where the last one ends.
abbrev pub first_byte : List Piece → ℕ
first_byte [] = 0
first_byte (p ∷ ps) = p.start

abbrev pub stop_after : ℕ → List Piece → ℕ
stop_after stop [] = stop
stop_after stop (p ∷ ps) = stop_after (p.start + p.len) ps

-- From the item's first token to its last one.
abbrev pub is_in_span : ProgramItem → ℕ → Bool
is_in_span x offset = nat_le (first_byte x.tokens) offset && nat_lt offset (stop_after 0 x.tokens)

abbrev pub is_bad_token : Code → Bool
is_bad_token E01 = true
is_bad_token _ = false

abbrev pub is_syntax_error : Code → Bool
is_syntax_error E02 = true
is_syntax_error _ = false

abbrev pub finds_by_parsing : Finder → Bool
finds_by_parsing parser = true
finds_by_parsing _ = false

abbrev pub is_of_parser : Code → Bool
is_of_parser c = finds_by_parsing (finder_of c)

-- The diagnostic is in the item's span, and its code passes the test.
abbrev pub is_at_item : (Code → Bool) → ProgramItem → Diagnostic → Bool
is_at_item test x d = test d.code && is_in_span x d.offset

-- The parser found it, or the text has no header or no state set at all, which is found at its
-- beginning.
abbrev pub IsAtFaulty : Diagnostic → Type 0
IsAtFaulty d = (is_of_parser d.code ≡ true) ⊎ ((d.offset ≡ 0) × ((d.code ≡ E05) ⊎ (d.code ≡ E06)))
