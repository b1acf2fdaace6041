-- What an edit of a text makes fresh: how many pieces, and which items.
use Rattle.std.specs.Prelude.{ℕ, ◌+◌, ◌-◌, ◌&&◌, Bool, nat_lt, if◌then◌else◌, List, [], length, take, drop, count_by, bytes_eq}
use Rattle.std.specs.Cmp.Lexicographic.{pointwise}
use Rattle.snl_cut.specs.Cut.{fresh_ends, meet_of}
use Rattle.snl_lex.specs.declared.piece.Class.{Class}
use Rattle.snl_lex.specs.contracts.piece.ClassPartialEq.TheImpl as class_eq
use Rattle.snl_lex.specs.Edit.{Edit, splice}
use Rattle.snl_lex.specs.Pieces.{piece_end, piece_length, tokens_of}
use Rattle.snl_grammar.specs.Items.{item}
use Rattle.snl_items.specs.declared.tokens.TokenEdit.{TokenEdit}
use Rattle.snl_items.specs.Items.{marks_of, spellings}

-- How many tokens of a text end before a place, and how many begin before it.
abbrev pub ending_before : List ℕ → ℕ → ℕ
ending_before text place = count_by (λ p. nat_lt (piece_end p) place) (tokens_of text)

abbrev pub beginning_before : List ℕ → ℕ → ℕ
beginning_before text place = count_by (λ p. nat_lt p.start place) (tokens_of text)

-- The edit as one of tokens: those of the old text that end before `start` are kept, and so are
-- those of both texts that begin at the pieces' meeting point or after it.
unfoldable pub token_edit_of : Edit → TokenEdit
token_edit_of e =
    let meet = meet_of piece_length e.old e.text e.old_stop e.new_stop in
    record { start = ending_before e.old e.start; old_stop = beginning_before e.old ((meet - e.new_stop) + e.old_stop); new_stop = beginning_before e.text meet }

-- Two tokens have one class and the same bytes.
abbrev pub same_spelling : Class × List ℕ → Class × List ℕ → Bool
same_spelling s t = class_eq.eq-value.it s.0 t.0 && bytes_eq s.1 t.1

-- As many tokens, spelled alike one by one.
abbrev pub spelled_alike : List (Class × List ℕ) → List (Class × List ℕ) → Bool
spelled_alike = pointwise same_spelling

-- The old tokens that an edit of tokens replaces are spelled as the new ones.
abbrev pub replaced_alike : Edit → TokenEdit → Bool
replaced_alike e tokens =
    spelled_alike (take (tokens.old_stop - tokens.start) (drop tokens.start (spellings e.old))) (take (tokens.new_stop - tokens.start) (drop tokens.start (spellings e.text)))

-- How many pieces of the new text are fresh.
unfoldable pub fresh_pieces_of : Edit → ℕ
fresh_pieces_of e = length (fresh_ends piece_length e.old e.text e.start e.old_stop e.new_stop)

-- The ends of the fresh items of the new text, as numbers of tokens. Where the replaced tokens are
-- spelled as before, there is none.
unfoldable pub fresh_items_of : Edit → List ℕ
fresh_items_of e =
    let tokens = token_edit_of e in
    if replaced_alike e tokens then [] else fresh_ends item (marks_of e.old) (marks_of e.text) tokens.start tokens.old_stop tokens.new_stop

-- The same of an edit of one text, which puts other bytes in the place of those from `start` up to
-- `stop`.
abbrev pub token_edit : (text : List ℕ) (start stop : ℕ) (new : List ℕ) → TokenEdit
token_edit text start stop new = token_edit_of (splice text start stop new)

abbrev pub fresh_pieces : (text : List ℕ) (start stop : ℕ) (new : List ℕ) → ℕ
fresh_pieces text start stop new = fresh_pieces_of (splice text start stop new)

abbrev pub fresh_items : (text : List ℕ) (start stop : ℕ) (new : List ℕ) → List ℕ
fresh_items text start stop new = fresh_items_of (splice text start stop new)
