-- The tokens of a text's items are one after another: of two at one offset each is the other.
use Rattle.std.proofs.Common.{◌≡◌, ℕ, ◌+◌, ◌<◌, ◌≤◌, All, List, length, slice_get, Some, inl, inr, sym, ap, ◌∙◌, arith}
use Rattle.std.specs.List.{AllByRecursion as Each}
use Rattle.std.proofs.lemmas.Bool.{cases_lt}
use Rattle.std.proofs.lemmas.List.Elements.{recursion_from_All}
use Rattle.snl_cut.specs.Cut.{members}
use Rattle.snl_lex.specs.declared.piece.Piece.{Piece}
use Rattle.snl_lex.specs.PieceList.{listed_pieces, piece_ends, piece_kinds}
use Rattle.snl_lex.specs.Pieces.{LiesIn, is_token, pieces_of, tokens_of}
use Rattle.snl_grammar.specs.declared.tree.item.Item.{Item}
use Rattle.snl_grammar.specs.Parsing.{kinds_in}
use Rattle.snl_grammar.specs.Reading.Items.{item_of}
use Rattle.snl_items.specs.Items.{item_ends}
use Rattle.snl_kept.specs.Parts.{EndsWithin}
use Rattle.snl_kept.specs.Program.{ProgramItem, item_tokens, items_of, program_item}
use Rattle.snl_kept.proofs.OnceTwo.{two_got}
use Rattle.snl_facts.specs.Each.{each_by, each_got, each_map, each_filter, two_map, EachTwo}
use Rattle.snl_kept.specs.TokenLaws.{Before, AllBefore, tokens_apart, members_apart, InARow, read_tree}

-- Items whose tokens are so, with the trees that are read of them.
pub record AreApart (text : List ℕ) (xs : List ProgramItem) : Type 0 where
  pub items : EachTwo (λ x y. AllBefore x.tokens y.tokens) xs
  pub each : Each (λ x. InARow text x.tokens) xs
  pub read : Each (λ x. (t : Item) → x.tree ≡ Some t → item_of (kinds_in text x.tokens) ≡ Some t) xs

-- ---- items

pub items_apart : (text : List ℕ) → listed_pieces 0 (piece_ends text) (piece_kinds text) ≡ pieces_of text → All (LiesIn text) (pieces_of text)
    → EndsWithin 0 (item_ends text) (length (tokens_of text)) → AreApart text (items_of text)
unfolding item_tokens
items_apart text listed inside ends =
    let ms : List (List Piece) = members (tokens_of text) 0 (item_ends text) in
    let parts = members_apart text (tokens_of text) 0 (item_ends text) ends (tokens_apart text listed inside)
    (each_filter (LiesIn text) is_token (pieces_of text) (recursion_from_All (LiesIn text) (pieces_of text) inside)) in
    record {
      items = two_map (λ x y. AllBefore x.tokens y.tokens) (program_item text) ms parts.0;
      each = each_map (λ x. InARow text x.tokens) (program_item text) ms parts.1;
      read = each_map (λ x. (t : Item) → x.tree ≡ Some t → item_of (kinds_in text x.tokens) ≡ Some t) (program_item text) ms
          (each_by (λ m. (t : Item) → (program_item text m).tree ≡ Some t → item_of (kinds_in text m) ≡ Some t) (λ m t is. read_tree text m t is) ms);
    }

-- ---- where a byte is

-- A byte is in the token with a number of the item with a number.
pub record IsIn (xs : List ProgramItem) (i t o : ℕ) : Type 0 where
  pub x : ProgramItem
  pub p : Piece
  pub item : slice_get xs i ≡ Some x
  pub token : slice_get x.tokens t ≡ Some p
  pub low : p.start ≤ o
  pub high : o < p.start + p.len

module _ (text : List ℕ) (xs : List ProgramItem) (apart : AreApart text xs) where
  not_before : (i j t u o : ℕ) → IsIn xs i t o → IsIn xs j u o → i < j → ⊥
  not_before i j t u o a b l =
      let all = two_got (λ x y. AllBefore x.tokens y.tokens) xs i j a.x b.x apart.items l a.item b.item in
      let first = each_got (λ p. Before p b.p) a.x.tokens t a.p (each_got (λ q. Each (λ p. Before p q) a.x.tokens) b.x.tokens u b.p all b.token) a.token in
      omega (arith, first, a.high, b.low)

  pub one_item : (i j t u o : ℕ) → IsIn xs i t o → IsIn xs j u o → i ≡ j
  one_item i j t u o a b =
      elim (cases_lt i j) [
        | inl l ↦ absurd (not_before i j t u o a b l)
        | inr m ↦ elim (cases_lt j i) [ inl l ↦ absurd (not_before j i u t o b a l) | inr k ↦ omega (arith, m, k) ]
      ]

  pub row_of : (i t o : ℕ) → (a : IsIn xs i t o) → InARow text a.x.tokens
  row_of i t o a = each_got (λ x. InARow text x.tokens) xs i a.x apart.each a.item

  pub same_item : (i j t u o : ℕ) → (a : IsIn xs i t o) → (b : IsIn xs j u o) → a.x ≡ b.x
  same_item i j t u o a b =
      let here : Some a.x ≡ Some b.x = sym a.item ∙ ap (slice_get xs) (one_item i j t u o a b) ∙ b.item in
      cc

  not_earlier : (i j t u o : ℕ) → IsIn xs i t o → IsIn xs j u o → t < u → ⊥
  not_earlier i j t u o a b l =
      let other : slice_get a.x.tokens u ≡ Some b.p = ap (λ (x : ProgramItem). slice_get x.tokens u) (same_item i j t u o a b) ∙ b.token in
      let first = two_got Before a.x.tokens t u a.p b.p (row_of i t o a).apart l a.token other in
      omega (arith, first, a.high, b.low)

  pub one_token : (i j t u o : ℕ) → IsIn xs i t o → IsIn xs j u o → t ≡ u
  one_token i j t u o a b =
      elim (cases_lt t u) [
        | inl l ↦ absurd (not_earlier i j t u o a b l)
        | inr m ↦ elim (cases_lt u t) [ inl l ↦ absurd (not_earlier j i u t o b a l) | inr k ↦ omega (arith, m, k) ]
      ]
