-- The empty text has no pieces, and so on.
use Rattle.std.proofs.Common.{◌≡◌, ℕ, List, [], filter, map, refl, ap}
use Rattle.snl_cut.specs.Cut.{ends_of, members}
use Rattle.snl_lex.specs.declared.piece.Piece.{Piece}
use Rattle.snl_lex.specs.Pieces.{is_token, pieces_of, tokens_of}
use Rattle.snl_grammar.specs.Items.{item}
use Rattle.snl_items.specs.Items.{item_ends, mark_in, spellings}
use Rattle.snl_kept.specs.Checks.{checks_from, checks_of, outlines_in}
use Rattle.snl_kept.specs.Entries.{entries_of, entry_by}
use Rattle.snl_kept.specs.Program.{item_tokens, items_of, program_item}

pub no_pieces : [] ≡ pieces_of []
unfolding pieces_of
no_pieces = refl

pub no_tokens : [] ≡ tokens_of []
no_tokens = ap (filter is_token) no_pieces

pub no_ends : [] ≡ item_ends []
no_ends = ap (λ (ts : List Piece). ends_of item (map (mark_in []) ts)) no_tokens

pub no_items : [] ≡ items_of []
unfolding item_tokens
no_items = ap (λ (es : List ℕ). map (program_item []) (members (tokens_of []) 0 es)) no_ends

pub no_entries : [] ≡ entries_of []
no_entries = ap (λ (es : List ℕ). map entry_by (members (spellings []) 0 es)) no_ends

pub no_checks : [] ≡ checks_of []
no_checks = ap (λ (es : List ℕ). checks_from (outlines_in []) 0 (members (spellings []) 0 es)) no_ends
