-- The tokens among some of the pieces of a text are those between two numbers.
use Rattle.std.proofs.Common.{◌≡◌, ℕ, ◌+◌, ◌-◌, ◌≤◌, List, ◌++◌, length, map, filter, take, drop, count_by, refl, sym, ap, ap₂, ◌∙◌, append_assoc, arith, length-append, length-drop}
use Rattle.std.proofs.lemmas.List.{drop-append-le, drop-drop, drop-take, drop_at, length-take-le, take-append-drop, take-map, take-take, take_at}
use Rattle.std.proofs.Math.Seq.{take-append-add}
use Rattle.std.proofs.lemmas.List.Elements.{filter-append}
use Rattle.snl_lex.specs.declared.piece.Piece.{Piece}
use Rattle.snl_lex.specs.PieceList.{is_token_class, pieces_between}
use Rattle.snl_lex.specs.Pieces.{is_token}
use Rattle.snl_items.specs.OwnTokens.{tokens_before, tokens_between}
use Rattle.snl_items.proofs.Counts.{by_class}

-- how many tokens are among the first pieces, by their classes
pub first_tokens : (ps : List Piece) (n : ℕ) → tokens_before (map (λ p. p.kind) ps) n ≡ length (filter is_token (take n ps))
first_tokens ps n = ap (count_by is_token_class) (take-map (λ p. p.kind) n ps) ∙ by_class (take n ps)

pub all_tokens : (ps : List Piece) → count_by is_token_class (map (λ p. p.kind) ps) ≡ length (filter is_token ps)
all_tokens ps = by_class ps

-- the tokens among the first pieces are the first tokens
pub taken_tokens : (ps : List Piece) (n : ℕ) → take (length (filter is_token (take n ps))) (filter is_token ps) ≡ filter is_token (take n ps)
taken_tokens ps n =
    let first : List Piece = filter is_token (take n ps) in
    ap (λ (l : List Piece). take (length first) (filter is_token l)) (sym (take-append-drop n ps))
    ∙ ap (take (length first)) (filter-append is_token (take n ps) (drop n ps))
    ∙ take_at first (filter is_token (drop n ps)) (length first) refl

pub dropped_tokens : (ps : List Piece) (n : ℕ) → drop (length (filter is_token (take n ps))) (filter is_token ps) ≡ filter is_token (drop n ps)
dropped_tokens ps n =
    let first : List Piece = filter is_token (take n ps) in
    ap (λ (l : List Piece). drop (length first) (filter is_token l)) (sym (take-append-drop n ps))
    ∙ ap (drop (length first)) (filter-append is_token (take n ps) (drop n ps))
    ∙ drop_at first (filter is_token (drop n ps)) (length first) refl

-- pieces up to one number, and from there up to another
up_to : (ps : List Piece) (a b : ℕ) → a ≤ b → take b ps ≡ take a ps ++ pieces_between ps a b
up_to ps a b le =
    let there : a + (b - a) ≡ b = omega arith in
    sym (take-append-drop a (take b ps)) ∙ ap₂ (λ (x y : List Piece). x ++ y) (take-take a b ps le) (ap (λ (n : ℕ). drop a (take n ps)) (sym there) ∙ drop-take a (b - a) ps)

pub tokens_among : (ps : List Piece) (a b first stop : ℕ) → a ≤ b → length (filter is_token (take a ps)) ≡ first → length (filter is_token (take b ps)) ≡ stop
    → filter is_token (pieces_between ps a b) ≡ tokens_between (filter is_token ps) first stop
tokens_among ps a b first stop le starts stops =
    let middle : List Piece = filter is_token (pieces_between ps a b) in
    let rest : List Piece = drop a ps in
    let here : length (filter is_token (take b ps)) ≡ length (filter is_token (take a ps)) + length middle =
    ap (λ (l : List Piece). length (filter is_token l)) (up_to ps a b le) ∙ ap length (filter-append is_token (take a ps) (pieces_between ps a b)) ∙ length-append (filter is_token (take a ps)) middle in
    let count : length middle ≡ stop - first = omega (arith, here, starts, stops) in
    sym (taken_tokens rest (b - a))
    ∙ ap₂ (λ (n : ℕ) (l : List Piece). take n l) count (sym (dropped_tokens ps a) ∙ ap (λ (n : ℕ). drop n (filter is_token ps)) starts)

-- The tokens between two numbers after an edit among them: those in front of the edit, those that
-- it makes, and those after it.
pub own_edited : (was now made own : List Piece) (f : Piece → Piece) (a b c first stop : ℕ) → first ≤ a → a ≤ b → b ≤ stop → stop ≤ length was → c ≡ a + length made
    → now ≡ take a was ++ (made ++ map f (drop b was)) → own ≡ tokens_between was first stop
    → (take (a - first) own ++ made) ++ map f (take ((stop - first) - (b - first)) (drop (b - first) own)) ≡ tokens_between now first ((stop - b) + c)
own_edited was now made own f a b c first stop low mid high fits count now_is own_is =
    let front : List Piece = take (a - first) (drop first was) in
    let rest : List Piece = map f (drop b was) in
    let to : first + (a - first) ≡ a = omega (arith, low) in
    let up : first + (b - first) ≡ b = omega (arith, low, mid) in
    let whole : (b - first) + (stop - b) ≡ stop - first = omega (arith, low, mid, high) in
    let front_own : take (a - first) own ≡ front = ap (take (a - first)) own_is ∙ take-take (a - first) (stop - first) (drop first was) (omega (arith, mid, high)) in
    let back_own : drop (b - first) own ≡ take (stop - b) (drop b was) =
    ap (drop (b - first)) own_is ∙ ap (λ (n : ℕ). drop (b - first) (take n (drop first was))) (sym whole) ∙ drop-take (b - first) (stop - b) (drop first was)
    ∙ ap (take (stop - b)) (drop-drop (b - first) first was ∙ ap (λ (n : ℕ). drop n was) up) in
    let back_taken : map f (take ((stop - first) - (b - first)) (drop (b - first) own)) ≡ take (stop - b) rest =
    ap (λ (l : List Piece). map f (take ((stop - first) - (b - first)) l)) back_own
    ∙ ap (map f) (take-take ((stop - first) - (b - first)) (stop - b) (drop b was) (omega (arith, low, mid, high)))
    ∙ ap (λ (n : ℕ). map f (take n (drop b was))) (omega (arith, low, mid, high))
    ∙ sym (take-map f (stop - b) (drop b was)) in
    let begins : drop first now ≡ front ++ (made ++ rest) =
    ap (drop first) now_is ∙ drop-append-le first (take a was) (made ++ rest) (omega (arith, low, length-take-le a was (omega (arith, mid, high, fits))))
    ∙ ap (λ (l : List Piece). l ++ (made ++ rest)) (ap (λ (n : ℕ). drop first (take n was)) (sym to) ∙ drop-take first (a - first) was) in
    let long : ((stop - b) + c) - first ≡ length (front ++ made) + (stop - b) =
    omega (arith, low, mid, high, count, length-append front made, length-take-le (a - first) (drop first was) (omega (arith, low, mid, high, fits, length-drop first was))) in
    ap₂ (λ (x y : List Piece). (x ++ made) ++ y) front_own back_taken
    ∙ sym (take-append-add (front ++ made) rest (stop - b))
    ∙ ap (take (length (front ++ made) + (stop - b))) (append_assoc front made rest)
    ∙ ap₂ (λ (n : ℕ) (l : List Piece). take n l) (sym long) (sym begins)
