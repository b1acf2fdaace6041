-- The items of a text after an edit that shifts its tokens.
use Rattle.std.proofs.Common.{◌≡◌, ℕ, ◌≤◌, inl, inr, ◌⊎◌, All, List, [], ◌∷◌, ◌++◌, map, take, drop, Option, refl, sym, ap, ap₂, ◌∙◌}
use Rattle.std.specs.List.{AllByRecursion}
use Rattle.std.proofs.lemmas.List.{take-append-drop}
use Rattle.std.proofs.lemmas.List.Elements.{All-append, All-same, All-weaker}
use Rattle.std.proofs.lemmas.Simd.{map-map}
use Rattle.snl_cut.specs.Cut.{members}
use Rattle.snl_lex.specs.declared.piece.Class.{Class}
use Rattle.snl_lex.specs.declared.piece.Piece.{Piece}
use Rattle.snl_lex.specs.declared.shift.Shift.{Shift}
use Rattle.snl_lex.specs.PieceList.{spelled}
use Rattle.snl_lex.specs.Pieces.{piece_end, tokens_of}
use Rattle.snl_lex.specs.Shift.{shifted_piece}
use Rattle.snl_grammar.specs.Outcome.{parsed_by, parsed_in, sound_tree}
use Rattle.snl_grammar.specs.declared.tree.item.Item.{Item}
use Rattle.snl_items.specs.Changes.{AreLeft}
use Rattle.snl_items.specs.Items.{item_ends, spelled_items, spellings}
use Rattle.snl_summary.specs.Summaries.{kind_of, summary_in}
use Rattle.snl_summary.specs.SpelledTokens.{summary_by}
use Rattle.snl_scope.specs.LinkedItems.{LinkedItems}
use Rattle.snl_summary.specs.declared.summary.ItemKind.{ItemKind}
use Rattle.snl_summary.specs.declared.summary.Outline.{Outline}
use Rattle.snl_summary.specs.declared.summary.Summary.{Summary}
use Rattle.snl_moved.specs.Shifted.{shifted_item, shifted_tokens}
use Rattle.snl_kept.specs.Linked.{linked_of, outlines_of}
use Rattle.snl_kept.specs.Program.{ProgramItem, item_tokens, items_of, program_item, tree_in}
use Rattle.snl_kept.proofs.KeptChecks.{agreed}
use Rattle.snl_kept.proofs.MemberParts.{members_map}
use Rattle.snl_kept.proofs.SpelledItems.{spelled_text}

-- What holds of each token that is left, before the edit or after it.
pub each_left : (s : Shift) (ts us : List Piece) (before : ℕ) → AreLeft s ts us before → All (λ p. (piece_end p ≤ s.start) ⊎ (s.old_stop ≤ p.start)) ts
each_left s ts us before left =
    let P : Piece → Type 0 = λ p. (piece_end p ≤ s.start) ⊎ (s.old_stop ≤ p.start) in
    All-same P ts (take before ts ++ drop before ts) (sym (take-append-drop before ts))
    (All-append P (take before ts) (drop before ts)
    (All-weaker (λ p. piece_end p ≤ s.start) P (λ p h. inl h) (take before ts) left.in_front)
    (All-weaker (λ p. s.old_stop ≤ p.start) P (λ p h. inr h) (drop before ts) left.after))

module _ (old text : List ℕ) (s : Shift)
    -- what the laws of the layers below say: an item goes by its spelling alone
    (tree_told : (text : List ℕ) (tokens : List Piece) → sound_tree (parsed_in text tokens) ≡ tree_in text tokens)
    (by_spelling : (text : List ℕ) (tokens : List Piece) → parsed_in text tokens ≡ parsed_by (spelled text tokens))
    (summary_told : (text : List ℕ) (tokens : List Piece) (tree : Option Item) → summary_in text tokens tree ≡ summary_by (spelled text tokens) tree) where
  -- These tokens, shifted, are spelled as they were.
  abbrev pub StaysSpelled : List Piece → Type 0
  StaysSpelled m = spelled text (shifted_tokens s m) ≡ spelled old m

  tree_stays : (m : List Piece) → StaysSpelled m → tree_in text (shifted_tokens s m) ≡ tree_in old m
  tree_stays m same =
      sym (tree_told text (shifted_tokens s m)) ∙ ap sound_tree (by_spelling text (shifted_tokens s m) ∙ ap parsed_by same ∙ sym (by_spelling old m)) ∙ tree_told old m

  one_item : (m : List Piece) → StaysSpelled m → program_item text (shifted_tokens s m) ≡ shifted_item s (program_item old m)
  one_item m same = ap (λ (t : Option Item). let x : ProgramItem = record { tokens = shifted_tokens s m; tree = t } in x) (tree_stays m same)

  pub all_items : (ms : List (List Piece)) → AllByRecursion StaysSpelled ms → map (program_item text) (map (shifted_tokens s) ms) ≡ map (shifted_item s) (map (program_item old) ms)
  all_items [] h = refl
  all_items (m ∷ ms) h = ap₂ (λ (x : ProgramItem) (xs : List ProgramItem). x ∷ xs) (one_item m h.0) (all_items ms h.1)

  summary_stays : (m : List Piece) → StaysSpelled m → (tree : Option Item) → summary_in text (shifted_tokens s m) tree ≡ summary_in old m tree
  summary_stays m same tree =
      summary_told text (shifted_tokens s m) tree ∙ ap (λ (l : List (Class × List ℕ)). summary_by l tree) same ∙ sym (summary_told old m tree)

  pub all_outlines : (ms : List (List Piece)) → AllByRecursion StaysSpelled ms → outlines_of text (map (shifted_item s) (map (program_item old) ms)) ≡ outlines_of old (map (program_item old) ms)
  all_outlines [] h = refl
  all_outlines (m ∷ ms) h =
      ap₂ (λ (x : Outline) (xs : List Outline). x ∷ xs) (ap (λ (y : Summary). y.outline) (summary_stays m h.0 (tree_in old m))) (all_outlines ms h.1)

  pub all_kinds : (xs : List ProgramItem) → map (λ (x : ProgramItem). kind_of x.tree) (map (shifted_item s) xs) ≡ map (λ (x : ProgramItem). kind_of x.tree) xs
  all_kinds xs = map-map (λ (x : ProgramItem). kind_of x.tree) (shifted_item s) xs

module _ (old text : List ℕ) (s : Shift)
    (spelled_same : spellings text ≡ spellings old) (ends_same : item_ends text ≡ item_ends old) (tokens_are : tokens_of text ≡ map (shifted_piece s) (tokens_of old)) where
  -- the tokens of each item are shifted
  pub tokens_shift : item_tokens text ≡ map (shifted_tokens s) (item_tokens old)
  unfolding item_tokens
  tokens_shift =
      ap₂ (λ (ts : List Piece) (es : List ℕ). members ts 0 es) tokens_are ends_same ∙ members_map (shifted_piece s) (tokens_of old) 0 (item_ends old)

  pub spelled_stay : spelled_items text ≡ spelled_items old
  spelled_stay = ap₂ (λ (ts : List (Class × List ℕ)) (es : List ℕ). members ts 0 es) spelled_same ends_same

  -- and spelled as before
  pub each_alike : AllByRecursion (λ m. spelled text (shifted_tokens s m) ≡ spelled old m) (item_tokens old)
  each_alike =
      agreed (λ (m : List Piece). spelled text (shifted_tokens s m)) (spelled old) (item_tokens old)
      (sym (map-map (spelled text) (shifted_tokens s) (item_tokens old)) ∙ ap (map (spelled text)) (sym tokens_shift) ∙ spelled_text text ∙ spelled_stay ∙ sym (spelled_text old))

  -- by what goes by the spelling alone
  module _ (tree_told : (text : List ℕ) (tokens : List Piece) → sound_tree (parsed_in text tokens) ≡ tree_in text tokens)
      (by_spelling : (text : List ℕ) (tokens : List Piece) → parsed_in text tokens ≡ parsed_by (spelled text tokens))
      (summary_told : (text : List ℕ) (tokens : List Piece) (tree : Option Item) → summary_in text tokens tree ≡ summary_by (spelled text tokens) tree) where
    -- The items are shifted.
    pub items_shift : items_of text ≡ map (shifted_item s) (items_of old)
    items_shift = ap (map (program_item text)) tokens_shift ∙ all_items old text s tree_told by_spelling summary_told (item_tokens old) each_alike

    -- They say to each other what they said.
    pub outlines_stay : outlines_of text (items_of text) ≡ outlines_of old (items_of old)
    outlines_stay = ap (outlines_of text) items_shift ∙ all_outlines old text s tree_told by_spelling summary_told (item_tokens old) each_alike

    pub links_stay : linked_of text (items_of text) ≡ linked_of old (items_of old)
    links_stay =
        ap₂ (λ (os : List Outline) (ks : List ItemKind). let l : LinkedItems = record { outlines = os; kinds = ks } in l) outlines_stay
        (ap (map (λ (x : ProgramItem). kind_of x.tree)) items_shift ∙ all_kinds old text s tree_told by_spelling summary_told (items_of old))
