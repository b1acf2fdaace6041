-- The tokens of a text's items are one after another, item by item.
use Rattle.std.proofs.Common.{◌≡◌, ℕ, ◌+◌, ◌-◌, ◌<◌, ◌≤◌, All, List, [], ◌∷◌, length, map, take, drop, zero, suc, Bool, true, false, slice_get, Some, None, sym, ap, subst, ◌∙◌, arith}
use Rattle.std.specs.Prelude.{if◌then◌else◌}
use Rattle.std.specs.List.{AllByRecursion as Each, list_any}
use Rattle.std.proofs.lemmas.List.{drop-drop, length-drop, length-map, length-take-le}
use Rattle.std.proofs.lemmas.List.Elements.{recursion_from_All}
use Rattle.snl_cut.specs.Cut.{Rises, last_end, members}
use Rattle.snl_lex.specs.declared.piece.Class.{Class}
use Rattle.snl_lex.specs.declared.piece.Piece.{Piece}
use Rattle.snl_lex.specs.PieceList.{listed_pieces, piece_ends, piece_kinds}
use Rattle.snl_lex.specs.Pieces.{LiesIn, is_token, piece_end, pieces_of, tokens_of}
use Rattle.snl_grammar.specs.declared.tree.item.Item.{Item}
use Rattle.snl_grammar.specs.Parsing.{is_bad, kinds_in}
use Rattle.snl_grammar.specs.Reading.Items.{item_of}
use Rattle.snl_items.specs.Items.{item_ends, mark_in, marks_of}
use Rattle.snl_item_check.specs.Items.{EndsWithin}
use Rattle.snl_kept.specs.Program.{ProgramItem, item_tokens, items_of, program_item, tree_in}
use Rattle.snl_facts.specs.Each.{each_weaker, each_map, each_take, each_drop, each_filter, two_drop, two_take, two_split, two_filter, EachTwo}
use Rattle.snl_cut.specs.CutLaws.{rises_last}
use Rattle.snl_facts.specs.Lists.{drop_further}
use Rattle.snl_kept.specs.TokenLaws.{Before, AllBefore, tiled, tokens_apart, members_later, members_apart, InARow}

-- ---- pieces

pub tokens_lie : (text : List ℕ) → All (LiesIn text) (pieces_of text) → Each (LiesIn text) (tokens_of text)
tokens_lie text inside = each_filter (LiesIn text) is_token (pieces_of text) (recursion_from_All (LiesIn text) (pieces_of text) inside)

-- ---- where items end

ends_within : (from : ℕ) (es : List ℕ) (to : ℕ) → Rises from es → last_end from es ≤ to → EndsWithin from es to
ends_within from [] to h l = tt
ends_within from (e ∷ es) to h l = let above = rises_last e es h.1 in (h.0, omega (arith, above, l), ends_within e es to h.1 l)

pub items_within : (text : List ℕ) → Rises 0 (item_ends text) → last_end 0 (item_ends text) ≡ length (marks_of text) → EndsWithin 0 (item_ends text) (length (tokens_of text))
items_within text rise last =
    let same : length (marks_of text) ≡ length (tokens_of text) = length-map (tokens_of text) (mark_in text) in
    ends_within 0 (item_ends text) (length (tokens_of text)) rise (omega (arith, last, same))

-- ---- items

pub members_lie : (text : List ℕ) (from : ℕ) (ends : List ℕ) → EndsWithin from ends (length (tokens_of text)) → Each (LiesIn text) (tokens_of text) → Each (Each (LiesIn text)) (members (tokens_of text) from ends)
members_lie text from ends w h = members_later (LiesIn text) (tokens_of text) from ends (length (tokens_of text)) w (each_drop (LiesIn text) from (tokens_of text) h)

-- Items are one after another.
pub record AreInARow (text : List ℕ) (xs : List ProgramItem) : Type 0 where
  pub items : EachTwo (λ x y. AllBefore x.tokens y.tokens) xs
  pub each : Each (λ x. InARow text x.tokens) xs

two_items : (text : List ℕ) (ms : List (List Piece)) → EachTwo AllBefore ms → EachTwo (λ x y. AllBefore x.tokens y.tokens) (map (program_item text) ms)
two_items text [] h = tt
two_items text (m ∷ ms) h = (each_map (λ y. AllBefore m y.tokens) (program_item text) ms h.0, two_items text ms h.1)

pub items_in_a_row : (text : List ℕ) → listed_pieces 0 (piece_ends text) (piece_kinds text) ≡ pieces_of text → All (LiesIn text) (pieces_of text) → EndsWithin 0 (item_ends text) (length (tokens_of text))
    → AreInARow text (items_of text)
unfolding item_tokens
items_in_a_row text listed inside within =
    let all = members_apart text (tokens_of text) 0 (item_ends text) within (tokens_apart text listed inside) (tokens_lie text inside) in
    record {
      items = two_items text (item_tokens text) all.0;
      each = each_map (λ x. InARow text x.tokens) (program_item text) (item_tokens text) all.1;
    }

-- A token below their count is there.
pub missing : (ps : List Piece) (n : ℕ) → n < length ps → slice_get ps n ≡ None → ⊥
missing [] n within e = omega (arith, within)
missing (p ∷ ps) zero within e = cc
missing (p ∷ ps) (suc n) within e = missing ps n (omega (arith, within)) e
