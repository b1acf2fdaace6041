-- What is found at a faulty item: one finding, and no other rule speaks of the item.
use Rattle.std.specs.Prelude.{ℕ, List, option_map, Option, None}
use Rattle.std.specs.List.{filter_map, slice_get}
use Rattle.snl_lex.specs.declared.piece.Piece.{Piece}
use Rattle.snl_grammar.specs.declared.outcome.Parsed.{Parsed}
use Rattle.snl_grammar.specs.declared.outcome.Parsed.TheVariants as parsed
use Rattle.snl_grammar.specs.Outcome.{parsed_in}
use Rattle.snl_codes.specs.declared.code.Code.{Code}
use Rattle.snl_codes.specs.declared.code.Code.TheVariants.{E01, E02}
use Rattle.snl_kept.specs.declared.found.findings.Finding.{Finding}
use Rattle.snl_kept.specs.Program.{ProgramItem}

-- A finding at a token, which it does not quote.
abbrev pub at_token : Code → Piece → Finding
at_token code token = record { offset = token.start; code = code; subject = 0 }

-- A finding at the token with a number.
abbrev pub at_number : Code → List Piece → ℕ → Option Finding
at_number code tokens n = option_map (at_token code) (slice_get tokens n)

-- At an item that the parser left so: none where it has a tree, E01 at the first faulty token, else
-- E02 at the blamed token.
abbrev pub fault_at : List Piece → Parsed → Option Finding
fault_at tokens (parsed.Sound tree) = None
fault_at tokens (parsed.BadToken at) = at_number E01 tokens at
fault_at tokens (parsed.NoItem at) = at_number E02 tokens at

abbrev pub fault_in : List ℕ → ProgramItem → Option Finding
fault_in text x = fault_at x.tokens (parsed_in text x.tokens)

-- What is found at the faulty ones of the items of a text.
abbrev pub faults_of : List ℕ → List ProgramItem → List Finding
faults_of text xs = filter_map (fault_in text) xs
