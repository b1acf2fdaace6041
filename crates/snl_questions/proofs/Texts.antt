-- The tokens of a text and the places where its items end.
use Rattle.std.proofs.Common.{◌≡◌, ◌^◌, ◌<◌, ◌≤◌, ℕ, List, All, length, take, ap₂, arith}
use Rattle.std.proofs.lemmas.List.{length-map}
use Rattle.std.proofs.lemmas.List.Elements.{All-filter, All-weaker}
use Rattle.std.specs.Prelude.{EachIndex, slice_index}
use Rattle.snl_cut.specs.Cut.{Rises, last_end, members}
use Rattle.snl_lex.specs.declared.piece.Piece.{Piece}
use Rattle.snl_lex.specs.Pieces.{LiesIn, is_token, piece_end, pieces_of, tokens_of}
use Rattle.snl_items.specs.Items.{item_ends, mark_in, marks_of}
use Rattle.snl_kept.specs.Program.{item_tokens}
use Rattle.snl_questions.proofs.Members.{begins_below}

-- items end in a row, and among the tokens
pub ends_ordered : (text : List ℕ) → Rises 0 (item_ends text) →
    EachIndex (item_ends text)
    (λ i. last_end 0 (take i (item_ends text)) ≤ slice_index (item_ends text) i)
ends_ordered text rise i within =
    let below = begins_below 0 (item_ends text) i rise within in omega (arith, below)

pub ends_inside : (text : List ℕ) → ((i : ℕ) → i < length (item_ends text) →
    slice_index (item_ends text) i ≤ length (marks_of text)) →
    EachIndex (item_ends text) (λ i. slice_index (item_ends text) i ≤ length (tokens_of text))
ends_inside text within i there =
    let count : length (marks_of text) ≡ length (tokens_of text) =
    length-map (tokens_of text) (mark_in text) in
    omega (arith, within i there, count)

-- no token is too far off
pub tokens_near : (text : List ℕ) → length text < 2 ^ 64 → All (LiesIn text) (pieces_of text) →
    All (λ (p : Piece). piece_end p < 2 ^ 64) (tokens_of text)
tokens_near text small inside =
    All-filter is_token (λ (p : Piece). piece_end p < 2 ^ 64) (pieces_of text)
    (All-weaker (LiesIn text) (λ (p : Piece). piece_end p < 2 ^ 64)
    (λ p lies. omega (arith, lies.1, small)) (pieces_of text) inside)

-- item by item they are those of the text
pub members_are : (text : List ℕ) (tokens : List Piece) (ends : List ℕ) →
    tokens ≡ tokens_of text → ends ≡ item_ends text → members tokens 0 ends ≡ item_tokens text
unfolding item_tokens
members_are text tokens ends all cut =
    ap₂ (λ (ts : List Piece) (es : List ℕ). members ts 0 es) all cut
