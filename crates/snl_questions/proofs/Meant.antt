-- What is kept of an item says what its tokens say.
use Rattle.std.proofs.Common.{◌≡◌, ℕ, zero, suc, ◌-◌, List, [], ◌∷◌, take, drop, refl, All, slice_get, Option, Some, None, option_map, ap, sym, subst, ◌∙◌}
use Rattle.std.proofs.lemmas.List.Elements.{All-drop, All-filter, All-take}
use Rattle.std.proofs.lemmas.Option.{slice_get-map}
use Rattle.snl_cut.specs.Cut.{members}
use Rattle.snl_lex.specs.declared.piece.Class.{Class}
use Rattle.snl_lex.specs.declared.piece.Piece.{Piece}
use Rattle.snl_lex.specs.PieceList.{spelled}
use Rattle.snl_lex.specs.Pieces.{LiesIn, is_token, pieces_of, tokens_of}
use Rattle.snl_grammar.specs.Outcome.{parsed_by, parsed_in, sound_tree}
use Rattle.snl_grammar.specs.declared.tree.item.Item.{Item}
use Rattle.snl_summary.specs.declared.summary.Summary.{Summary}
use Rattle.snl_summary.specs.SpelledTokens.{summary_by}
use Rattle.snl_summary.specs.Summaries.{outline_in, summary_in}
use Rattle.snl_items.specs.Items.{item_ends, spelled_items}
use Rattle.snl_kept.specs.declared.entries.Entry.{Entry}
use Rattle.snl_kept.specs.Entries.{entries_of, entry_by}
use Rattle.snl_kept.specs.Program.{item_tokens, tree_in}
use Rattle.snl_questions.specs.ItemTokensLaws.{spelled_are}

-- what holds of all units holds of those of a member
all_of_member : {X : Type 0} (P : X → Type 0) (units : List X) (from : ℕ) (ends : List ℕ) (i : ℕ)
    (own : List X) → All P units → slice_get (members units from ends) i ≡ Some own → All P own
all_of_member P units from [] i own all at = absurd cc
all_of_member P units from (e ∷ es) zero own all at =
    let same : take (e - from) (drop from units) ≡ own = cc in
    subst (All P) same
    (All-take P (e - from) (drop from units) (All-drop P from units all))
all_of_member P units from (e ∷ es) (suc i) own all at = all_of_member P units e es i own all at

-- the tokens of an item lie in the text
pub items_lie : (text : List ℕ) (i : ℕ) (own : List Piece) → All (LiesIn text) (pieces_of text) →
    slice_get (item_tokens text) i ≡ Some own → All (LiesIn text) own
unfolding item_tokens
items_lie text i own inside at =
    all_of_member (LiesIn text) (tokens_of text) 0 (item_ends text) i own
    (All-filter is_token (LiesIn text) (pieces_of text) inside) at

-- what is kept of the item with a number
pub entry_at : (text : List ℕ) (i : ℕ) → slice_get (entries_of text) i ≡
    option_map (λ (own : List Piece). entry_by (spelled text own)) (slice_get (item_tokens text) i)
entry_at text i =
    slice_get-map entry_by (spelled_items text) i
    ∙ ap (λ (l : List (List (Class × List ℕ))). option_map entry_by (slice_get l i))
    (spelled_are text)
    ∙ ap (option_map entry_by) (slice_get-map (spelled text) (item_tokens text) i)
    ∙ twice (slice_get (item_tokens text) i)
  where
    twice : (o : Option (List Piece)) → option_map entry_by (option_map (spelled text) o) ≡
        option_map (λ (own : List Piece). entry_by (spelled text own)) o
    twice None = refl
    twice (Some own) = refl

-- what is kept of it
pub entry_is : (text : List ℕ) (i : ℕ) (own : List Piece) (entries : List Entry) (e : Entry) →
    entries ≡ entries_of text → slice_get (item_tokens text) i ≡ Some own →
    slice_get entries i ≡ Some e → e ≡ entry_by (spelled text own)
entry_is text i own entries e all at got =
    let same : Some e ≡ Some (entry_by (spelled text own)) =
    sym got ∙ ap (λ (es : List Entry). slice_get es i) all ∙ entry_at text i
    ∙ ap (option_map (λ (x : List Piece). entry_by (spelled text x))) at in
    cc

module _ (text : List ℕ) (own : List Piece) (e : Entry) (is : e ≡ entry_by (spelled text own))
    (by_spelling : parsed_in text own ≡ parsed_by (spelled text own))
    (law : sound_tree (parsed_in text own) ≡ tree_in text own)
    (summary : (tree : Option Item) → summary_in text own tree ≡ summary_by (spelled text own) tree)
  where
    tree_by : sound_tree (parsed_by (spelled text own)) ≡ tree_in text own
    tree_by = ap sound_tree (sym by_spelling) ∙ law

    pub tree_is : sound_tree e.parsed ≡ tree_in text own
    tree_is = ap (λ (x : Entry). sound_tree x.parsed) is ∙ tree_by

    pub outline_is : e.summary.outline ≡ outline_in text own (tree_in text own)
    outline_is =
        ap (λ (x : Entry). x.summary.outline) is
        ∙ ap (λ (s : Summary). s.outline) (sym (summary (sound_tree (parsed_by (spelled text own)))))
        ∙ ap (outline_in text own) tree_by
