-- The items of a text: how many they are, and what is kept of each by its spelling.
use Rattle.std.proofs.Common.{◌≡◌, ℕ, ◌-◌, List, [], ◌∷◌, length, take, drop, map, slice_get, Option, Some, None, option_map, refl, ap, ap₂, ◌∙◌}
use Rattle.std.proofs.lemmas.List.{drop-map, take-map}
use Rattle.std.proofs.lemmas.Option.{slice_get-map}
use Rattle.snl_cut.specs.Cut.{members}
use Rattle.snl_cut.specs.CutLaws.{length_members}
use Rattle.snl_lex.specs.declared.piece.Class.{Class}
use Rattle.snl_lex.specs.declared.piece.Piece.{Piece}
use Rattle.snl_lex.specs.PieceList.{spelled, spelling}
use Rattle.snl_lex.specs.Pieces.{tokens_of}
use Rattle.snl_items.specs.Items.{item_ends, spelled_items}
use Rattle.snl_summary.specs.declared.summary.Outline.{Outline}
use Rattle.snl_summary.specs.Summaries.{outline_in}
use Rattle.snl_item_check.specs.Items.{outline_of_item}
use Rattle.snl_kept.specs.Checks.{outlines_in}
use Rattle.snl_kept.specs.Program.{item_tokens, items_of, program_item, tree_in}

-- there are as many items as places where they end
pub item_count : (text : List ℕ) → length (item_tokens text) ≡ length (item_ends text)
unfolding item_tokens
item_count text = length_members (tokens_of text) 0 (item_ends text)

-- ---- their spelling

spelled_members : (text : List ℕ) (tokens : List Piece) (from : ℕ) (ends : List ℕ) →
    members (spelled text tokens) from ends ≡ map (spelled text) (members tokens from ends)
spelled_members text tokens from [] = refl
spelled_members text tokens from (e ∷ es) =
    ap₂ (λ (m : List (Class × List ℕ)) (ms : List (List (Class × List ℕ))). m ∷ ms)
    (ap (take (e - from)) (drop-map (spelling text) from tokens)
    ∙ take-map (spelling text) (e - from) (drop from tokens))
    (spelled_members text tokens e es)

pub spelled_are : (text : List ℕ) → spelled_items text ≡ map (spelled text) (item_tokens text)
unfolding item_tokens
spelled_are text = spelled_members text (tokens_of text) 0 (item_ends text)

-- ---- their outlines

-- what an item with these tokens says to the others
abbrev pub outline_by : List ℕ → List Piece → Outline
outline_by text own = outline_in text own (tree_in text own)

pub outline_at : (text : List ℕ) (i : ℕ) → slice_get (outlines_in text) i ≡
    option_map (outline_by text) (slice_get (item_tokens text) i)
outline_at text i =
    slice_get-map (outline_of_item text) (items_of text) i
    ∙ ap (option_map (outline_of_item text))
    (slice_get-map (program_item text) (item_tokens text) i)
    ∙ twice (slice_get (item_tokens text) i)
  where
    twice : (o : Option (List Piece)) → option_map (outline_of_item text)
        (option_map (program_item text) o) ≡ option_map (outline_by text) o
    twice None = refl
    twice (Some own) = refl
