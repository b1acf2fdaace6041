-- The items that ends among the tokens of a text and the trees of its parts give.
use Rattle.std.proofs.Common.{◌≡◌, ℕ, List, [], ◌∷◌, length, map, refl, ap, sym, subst, ◌∙◌}
use Rattle.std.specs.List.{All, zip}
use Rattle.std.proofs.lemmas.List.{length-map}
use Rattle.std.proofs.lemmas.List.Elements.{All-filter}
use Rattle.snl_cut.specs.Cut.{members}
use Rattle.snl_lex.specs.declared.piece.Piece.{Piece}
use Rattle.snl_lex.specs.Pieces.{LiesIn, is_token, pieces_of, tokens_of}
use Rattle.snl_items.specs.Items.{item_ends}
use Rattle.snl_item_check.specs.Items.{ProgramItem, program_items}
use Rattle.snl_kept.specs.declared.found.program.Part.{Part}
use Rattle.snl_kept.specs.Parts.{item_of_part, tree_of_part}
use Rattle.snl_kept.specs.Program.{item_tokens, items_of, program_item, tree_in}
use Rattle.snl_cut.specs.CutLaws.{length_members}

-- the tokens of a text lie in it
pub tokens_lie : (text : List ℕ) (tokens : List Piece) → tokens ≡ tokens_of text → All (LiesIn text) (pieces_of text) → All (LiesIn text) tokens
tokens_lie text tokens all inside = subst (All (LiesIn text)) (sym all) (All-filter is_token (LiesIn text) (pieces_of text) inside)

-- each of these lists of tokens beside its tree
beside : (text : List ℕ) (ms : List (List Piece)) → map (λ p. record { tokens = p.0; tree = p.1 }) (zip ms (map (tree_in text) ms)) ≡ map (program_item text) ms
beside text [] = refl
beside text (m ∷ ms) = ap (λ xs. program_item text m ∷ xs) (beside text ms)

trees_of_parts : (tokens : List Piece) (parts : List Part) → map (λ (x : ProgramItem). x.tree) (map (item_of_part tokens) parts) ≡ map tree_of_part parts
trees_of_parts tokens [] = refl
trees_of_parts tokens (part ∷ parts) = ap (λ ts. tree_of_part part ∷ ts) (trees_of_parts tokens parts)

trees_of_items : (text : List ℕ) (ms : List (List Piece)) → map (λ (x : ProgramItem). x.tree) (map (program_item text) ms) ≡ map (tree_in text) ms
trees_of_items text [] = refl
trees_of_items text (m ∷ ms) = ap (λ ts. tree_in text m ∷ ts) (trees_of_items text ms)

-- parts that are the items along ends
module _ (text : List ℕ) (tokens : List Piece) (ends : List ℕ) (parts : List Part)
    (same : map (item_of_part tokens) parts ≡ map (program_item text) (members tokens 0 ends)) where
  -- there are as many as ends
  pub parts_count : length parts ≡ length ends
  parts_count = sym (length-map parts (item_of_part tokens)) ∙ ap length same ∙ length-map (members tokens 0 ends) (program_item text) ∙ length_members tokens 0 ends

  -- and the ends and their trees give the items
  pub trees_give : program_items tokens ends (map tree_of_part parts) ≡ map (program_item text) (members tokens 0 ends)
  trees_give =
      ap (program_items tokens ends) (sym (trees_of_parts tokens parts) ∙ ap (map (λ (x : ProgramItem). x.tree)) same ∙ trees_of_items text (members tokens 0 ends))
      ∙ beside text (members tokens 0 ends)

-- the items along the ends are those of the text
pub same_items : (text : List ℕ) (tokens : List Piece) (ends : List ℕ) (xs : List ProgramItem) → tokens ≡ tokens_of text → ends ≡ item_ends text
    → xs ≡ map (program_item text) (members tokens 0 ends) → xs ≡ items_of text
unfolding item_tokens
same_items text tokens ends xs all cut is =
    is
    ∙ ap (λ ts. map (program_item text) (members ts 0 ends)) all
    ∙ ap (λ es. map (program_item text) (members (tokens_of text) 0 es)) cut
