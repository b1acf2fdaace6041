-- What is kept of the items of a text is what their tokens say to the others.
use Rattle.std.proofs.Common.{◌≡◌, ℕ, List, [], ◌∷◌, length, map, slice_get, Option, option_map, refl, ap, ap₂, sym, ◌∙◌}
use Rattle.std.proofs.lemmas.List.{length-map}
use Rattle.std.proofs.lemmas.Option.{slice_get-map}
use Rattle.snl_lex.specs.declared.piece.Class.{Class}
use Rattle.snl_lex.specs.declared.piece.Piece.{Piece}
use Rattle.snl_lex.specs.PieceList.{spelled}
use Rattle.snl_grammar.specs.Outcome.{parsed_by, parsed_in, sound_tree}
use Rattle.snl_grammar.specs.declared.tree.item.Item.{Item}
use Rattle.snl_items.specs.Items.{item_ends}
use Rattle.snl_summary.specs.declared.summary.Outline.{Outline}
use Rattle.snl_summary.specs.declared.summary.Summary.{Summary}
use Rattle.snl_summary.specs.SpelledTokens.{summary_by}
use Rattle.snl_summary.specs.Summaries.{outline_in, summary_in}
use Rattle.snl_item_check.specs.Items.{outline_of_item}
use Rattle.snl_kept.specs.declared.entries.Entry.{Entry}
use Rattle.snl_kept.specs.Checks.{outlines_in}
use Rattle.snl_kept.specs.Entries.{entries_of, entry_by}
use Rattle.snl_kept.specs.Program.{item_tokens, items_of, program_item, tree_in}
use Rattle.snl_questions.specs.ItemTokensLaws.{item_count, outline_by, spelled_are}

-- ---- how many outlines there are

-- there are as many as items
pub outline_count : (text : List ℕ) → length (outlines_in text) ≡ length (item_tokens text)
outline_count text =
    length-map (items_of text) (outline_of_item text)
    ∙ length-map (item_tokens text) (program_item text)

-- and as many as places where items end
pub linked_count : (text : List ℕ) → length (outlines_in text) ≡ length (item_ends text)
linked_count text = outline_count text ∙ item_count text

-- ---- the entries

abbrev pub outline_kept : Entry → Outline
outline_kept e = e.summary.outline

-- the outlines that are kept are those of the text
pub outlines_kept : (text : List ℕ) →
    ((own : List Piece) → parsed_in text own ≡ parsed_by (spelled text own)) →
    ((own : List Piece) → sound_tree (parsed_in text own) ≡ tree_in text own) →
    ((own : List Piece) (tree : Option Item) →
    summary_in text own tree ≡ summary_by (spelled text own) tree) →
    map outline_kept (entries_of text) ≡ outlines_in text
outlines_kept text parsed tree summary =
    ap (λ (l : List (List (Class × List ℕ))). map outline_kept (map entry_by l)) (spelled_are text)
    ∙ all (item_tokens text)
  where
    same : (own : List Piece) → outline_kept (entry_by (spelled text own)) ≡ outline_by text own
    same own =
        ap (λ (s : Summary). s.outline)
        (sym (summary own (sound_tree (parsed_by (spelled text own)))))
        ∙ ap (outline_in text own) (ap sound_tree (sym (parsed own)) ∙ tree own)

    all : (xs : List (List Piece)) → map outline_kept (map entry_by (map (spelled text) xs)) ≡
        map (outline_of_item text) (map (program_item text) xs)
    all [] = refl
    all (own ∷ xs) = ap₂ (λ (s : Outline) (ss : List Outline). s ∷ ss) (same own) (all xs)

-- what is made of an element
pub made_at : {X Y : Type 0} (f : X → Y) (xs : List X) (ys : List Y) (i : ℕ) (o : Option X) →
    map f xs ≡ ys → slice_get xs i ≡ o → slice_get ys i ≡ option_map f o
made_at {Y = Y} f xs ys i o all at =
    sym (ap (λ (l : List Y). slice_get l i) all) ∙ slice_get-map f xs i ∙ ap (option_map f) at
