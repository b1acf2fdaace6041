-- The tokens of a text of which the pieces have moved, item by item.
use Rattle.std.proofs.Common.{◌≡◌, ℕ, ◌+◌, ◌-◌, ◌≤◌, All, Bool, true, false, cond, List, [], ◌∷◌, drop, filter, map, take, refl, sym, ap, ap₂, subst, ◌∙◌, arith}
use Rattle.std.proofs.lemmas.List.{drop-map, take-map}
use Rattle.std.proofs.lemmas.List.Elements.{All-head, All-tail}
use Rattle.snl_cut.specs.Cut.{members}
use Rattle.snl_lex.specs.declared.piece.Class.{Class}
use Rattle.snl_lex.specs.declared.piece.Piece.{Piece}
use Rattle.snl_lex.specs.PieceList.{listed_pieces, piece_ends, piece_kinds}
use Rattle.snl_lex.specs.Pieces.{LiesIn, is_token, piece_end, pieces_of, tokens_of}
use Rattle.snl_kept.specs.Program.{item_tokens}
use Rattle.snl_items.specs.Items.{item_ends}
use Rattle.snl_alike.specs.Edits.{Edit, moved_stop}
use Rattle.snl_alike.specs.Same.{AreAlike}
use Rattle.snl_alike.specs.Undone.{moved_token}
use Rattle.snl_alike.proofs.Later.{moved_zero}

abbrev moved : (ℕ → ℕ) → Piece → Piece
moved f p = record { kind = p.kind; start = f p.start; len = f (piece_end p) - f p.start }

-- ---- pieces

-- each piece ends after it begins, where the text has it
pieces_moved : (text : List ℕ) (f : ℕ → ℕ) (from : ℕ) (ends : List ℕ) (kinds : List Class) →
    All (LiesIn text) (listed_pieces from ends kinds) →
    listed_pieces (f from) (map f ends) kinds ≡ map (moved f) (listed_pieces from ends kinds)
pieces_moved text f from [] kinds some = refl
pieces_moved text f from (e ∷ ends) [] some = refl
pieces_moved text f from (e ∷ ends) (k ∷ kinds) some =
    let piece : Piece = record { kind = k; start = from; len = e - from } in
    let rest = listed_pieces e ends kinds in
    let here : 1 ≤ e - from = (All-head (LiesIn text) piece rest some).0 in
    let whole : e ≡ from + (e - from) = omega (arith, here) in
    let made : ℕ → Piece = λ n. record { kind = k; start = f from; len = f n - f from } in
    ap₂ (λ (x : Piece) (xs : List Piece). x ∷ xs) (ap made whole)
    (pieces_moved text f e ends kinds (All-tail (LiesIn text) piece rest some))

-- ---- tokens

tokens_moved : (f : ℕ → ℕ) (ps : List Piece) →
    filter is_token (map (moved f) ps) ≡ map (moved f) (filter is_token ps)
tokens_moved f [] = refl
tokens_moved f (p ∷ ps) = step (is_token p) (tokens_moved f ps)
  where
    step : (t : Bool) →
        filter is_token (map (moved f) ps) ≡ map (moved f) (filter is_token ps) →
        cond t (moved f p ∷ filter is_token (map (moved f) ps)) (filter is_token (map (moved f) ps))
        ≡ map (moved f) (cond t (p ∷ filter is_token ps) (filter is_token ps))
    step true rest = ap (λ (l : List Piece). moved f p ∷ l) rest
    step false rest = rest

members_moved : {X Y : Type 0} (g : X → Y) (xs : List X) (from : ℕ) (ends : List ℕ) →
    members (map g xs) from ends ≡ map (map g) (members xs from ends)
members_moved g xs from [] = refl
members_moved {Y = Y} g xs from (e ∷ ends) =
    ap₂ (λ (m : List Y) (ms : List (List Y)). m ∷ ms)
    (ap (take (e - from)) (drop-map g from xs) ∙ take-map g (e - from) (drop from xs))
    (members_moved g xs e ends)

-- ---- the tokens of items

pub items_move : ((t : List ℕ) → listed_pieces 0 (piece_ends t) (piece_kinds t) ≡ pieces_of t) →
    ((t : List ℕ) → All (LiesIn t) (pieces_of t)) →
    (text : List ℕ) (es : List Edit) (new : List ℕ) → AreAlike text es new →
    item_tokens new ≡ map (map (moved_token es)) (item_tokens text)
unfolding item_tokens
items_move listed inside text es new alike =
    let f = moved_stop es in
    let ends = piece_ends text in
    let kinds = piece_kinds text in
    let some : All (LiesIn text) (listed_pieces 0 ends kinds) =
    subst (λ (l : List Piece). All (LiesIn text) l) (sym (listed text)) (inside text) in
    let pieces : pieces_of new ≡ map (moved f) (pieces_of text) =
    sym (listed new)
    ∙ ap₂ (λ (l : List ℕ) (m : List Class). listed_pieces 0 l m) alike.ends alike.kinds
    ∙ ap (λ (n : ℕ). listed_pieces n (map f ends) kinds) (sym (moved_zero es))
    ∙ pieces_moved text f 0 ends kinds some
    ∙ ap (map (moved f)) (listed text) in
    let tokens : tokens_of new ≡ map (moved f) (tokens_of text) =
    ap (filter is_token) pieces ∙ tokens_moved f (pieces_of text) in
    ap₂ (λ (l : List Piece) (m : List ℕ). members l 0 m) tokens alike.items
    ∙ members_moved (moved f) (tokens_of text) 0 (item_ends text)
