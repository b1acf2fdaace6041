-- What the others see after an edit inside one item that says by other names what it said, where no
-- item uses one of these.
use Rattle.std.proofs.Common.{◌≡◌, ℕ, zero, suc, ◌+◌, ◌<◌, ◌||◌, Bool, false, List, [], ◌∷◌, ◌++◌, length, map, take, drop, slice_get, Option, Some, None, option_map, inl, inr, refl, sym, ap, ap₂, subst, ◌∙◌, arith}
use Rattle.std.specs.List.{list_any, slice_set}
use Rattle.std.proofs.lemmas.Bool.{cases_eq, or_parts}
use Rattle.std.proofs.lemmas.List.{length-map, length-take-le}
use Rattle.std.proofs.lemmas.Option.{slice_get-map, slice_get_within, same_Some}
use Rattle.snl_lex.specs.declared.piece.Class.{Class}
use Rattle.snl_lex.specs.declared.piece.Piece.{Piece}
use Rattle.snl_lex.specs.PieceList.{spelled}
use Rattle.snl_grammar.specs.Outcome.{parsed_by, parsed_in, sound_tree}
use Rattle.snl_grammar.specs.declared.tree.item.Item.{Item}
use Rattle.snl_items.specs.Items.{spelled_items}
use Rattle.snl_scope.specs.declared.renamed.Renaming.{Renaming}
use Rattle.snl_scope.specs.declared.renamed.Renaming.TheVariants as renamings
use Rattle.snl_scope.specs.Renamed.{AreNames, ClausesAlike, DeclaresAnew, IsRenamed, MeanAlike, NamesAnew, state_names}
use Rattle.snl_summary.specs.SpelledTokens.{bytes_by, summary_by}
use Rattle.snl_scope.specs.Spoken.{AreEditedNames, KeepsViews, KeepsViewsBut, is_among, meets, spoken_by, touches}
use Rattle.snl_summary.specs.Summaries.{summary_in}
use Rattle.snl_summary.specs.Summaries.Tokens.{token_bytes}
use Rattle.snl_summary.specs.declared.summary.NameRef.{NameRef}
use Rattle.snl_summary.specs.declared.summary.Outline.{Outline}
use Rattle.snl_summary.specs.declared.summary.Summary.{Summary}
use Rattle.snl_item_check.specs.Items.{summary_of_item}
use Rattle.snl_check.specs.Tables.{tables_by}
use Rattle.snl_kept.specs.declared.entries.Entry.{Entry}
use Rattle.snl_kept.specs.declared.plan.Changes.{Changes}
use Rattle.snl_kept.specs.declared.ways.one_item.replaced.OldItem.{OldItem}
use Rattle.snl_kept.specs.Checks.{outlines_in}
use Rattle.snl_kept.specs.Entries.{entries_of, entry_by}
use Rattle.snl_kept.specs.ItemPlan.{IsOneItem, IsWas, outlines_kept}
use Rattle.snl_kept.specs.Planned.{AreEntriesMade}
use Rattle.snl_kept.specs.Program.{ProgramItem, item_tokens, items_of, program_item, tree_in}
use Rattle.snl_kept.specs.RenamedItem.{AreUntouched}
use Rattle.snl_kept.specs.ReplacedItem.{SeesAlike}
use Rattle.snl_kept.proofs.InsideMade.{kept_outlines}
use Rattle.snl_kept.proofs.InsideTold.{summary_is}
use Rattle.snl_kept.proofs.Members.{one_entry_made}
use Rattle.snl_facts.specs.Lists.{put_back}
use Rattle.snl_kept.proofs.Replaced.{replaced_here, replaced_other, replaced_parts}
use Rattle.snl_kept.proofs.SpelledItems.{spelled_text}

map_set : {X Y : Type 0} (f : X → Y) (xs : List X) (k : ℕ) (x : X) → map f (slice_set xs k x) ≡ slice_set (map f xs) k (f x)
map_set f [] k x = refl
map_set f (y ∷ ys) zero x = refl
map_set {Y = Y} f (y ∷ ys) (suc k) x = ap (λ (l : List Y). f y ∷ l) (map_set f ys k x)

-- What is told of each item, where one is put in the place of one.
pub put_in : {X Y : Type 0} (f : X → Y) (xs ys : List X) (k : ℕ) (x : X) → ys ≡ slice_set xs k x → k < length xs → map f ys ≡ take k (map f xs) ++ (f x ∷ drop (k + 1) (map f xs))
put_in f xs ys k x is there = ap (map f) is ∙ map_set f xs k x ∙ replaced_parts (map f xs) k (f x) (omega (arith, there, length-map xs f))

module _ (tree_told : (text : List ℕ) (tokens : List Piece) → sound_tree (parsed_in text tokens) ≡ tree_in text tokens)
    (by_spelling : (text : List ℕ) (tokens : List Piece) → parsed_in text tokens ≡ parsed_by (spelled text tokens))
    (summary_told : (text : List ℕ) (tokens : List Piece) (tree : Option Item) → summary_in text tokens tree ≡ summary_by (spelled text tokens) tree)
    (bytes_told : (text : List ℕ) (tokens : List Piece) → token_bytes text tokens ≡ bytes_by (spelled text tokens))
    -- the laws of the layers below on an item that declares other names
    (views : (before old new after : List Outline) (names : List (List ℕ)) → AreEditedNames old new names → KeepsViews (before ++ (old ++ after)) (before ++ (new ++ after)) names)
    (anew : (before : List Outline) (old new : Outline) (after : List Outline) → DeclaresAnew old new → MeanAlike (before ++ (old ∷ after)) (before ++ (new ∷ after)) (spoken_by (old ∷ []) ++ spoken_by (new ∷ [])) [])
    (named : (before : List Outline) (old new : Outline) (after : List Outline) → NamesAnew (before ++ (old ∷ after)) (before ++ (new ∷ after)) (length before) old new
    → MeanAlike (before ++ (old ∷ after)) (before ++ (new ∷ after)) [] (state_names old new))
    (named_views : (before : List Outline) (old new : Outline) (after : List Outline) → NamesAnew (before ++ (old ∷ after)) (before ++ (new ∷ after)) (length before) old new
    → KeepsViewsBut (before ++ (old ∷ after)) (before ++ (new ∷ after)) [] (state_names old new))
    (told : (text : List ℕ) (ys : List ProgramItem) (ss ts : List Outline) (used led_to : List (List ℕ)) → MeanAlike ss ts used led_to → ClausesAlike ss ts
    → ((i : ℕ) (y : ProgramItem) → slice_get ys i ≡ Some y → meets used led_to (summary_of_item text y) ≡ false) → tables_by text ys ts ≡ tables_by text ys ss)
    (old text : List ℕ) (c : Changes) (w : OldItem) (e : Entry) (renaming : Renaming) (names : List (List ℕ)) (one : IsOneItem old c) (was : IsWas old c.items.kept_front w)
    (made : AreEntriesMade old text c.items.kept_front (e ∷ []) c.items.kept_back) (renamed : IsRenamed (outlines_in old) (outlines_in text) c.items.kept_front w.entry.now.summary.outline e.summary.outline renaming)
    (edited : AreNames w.entry.now.summary.outline e.summary.outline renaming names) (others : AreUntouched names c.items.kept_front (entries_of old))
    (own : touches names e.summary ≡ false) where
  abbrev k : ℕ
  k = c.items.kept_front

  abbrev outline : Entry → Outline
  outline e = e.summary.outline

  -- ---- what the items say to each other

  abbrev kept : List Outline
  kept = outlines_kept (entries_of old)

  entries_are : entries_of text ≡ slice_set (entries_of old) k e
  entries_are = one_entry_made old text k c.items.kept_back e one.one_gone made

  there : k < length (entries_of old)
  there = slice_get_within (entries_of old) k w.entry.now was.entry

  were : outlines_in old ≡ take k kept ++ (outline w.entry.now ∷ drop (k + 1) kept)
  were =
      sym (kept_outlines tree_told by_spelling summary_told bytes_told old)
      ∙ put_back kept k (outline w.entry.now) (slice_get-map outline (entries_of old) k ∙ ap (option_map outline) was.entry)

  are : outlines_in text ≡ take k kept ++ (outline e ∷ drop (k + 1) kept)
  are =
      sym (kept_outlines tree_told by_spelling summary_told bytes_told text)
      ∙ put_in outline (entries_of old) (entries_of text) k e entries_are there

  -- the place of the item among them
  counted : length (take k kept) ≡ k
  counted = length-take-le k kept (omega (arith, there, length-map (entries_of old) outline))

  abbrev were_parts : List Outline
  were_parts = take k kept ++ (outline w.entry.now ∷ drop (k + 1) kept)

  abbrev are_parts : List Outline
  are_parts = take k kept ++ (outline e ∷ drop (k + 1) kept)

  named_in_parts : NamesAnew (outlines_in old) (outlines_in text) k (outline w.entry.now) (outline e) → NamesAnew were_parts are_parts (length (take k kept)) (outline w.entry.now) (outline e)
  named_in_parts anew_state =
      subst (λ (n : ℕ). NamesAnew were_parts are_parts n (outline w.entry.now) (outline e)) (sym counted)
      (subst (λ (ts : List Outline). NamesAnew were_parts ts k (outline w.entry.now) (outline e)) are
      (subst (λ (ss : List Outline). NamesAnew ss (outlines_in text) k (outline w.entry.now) (outline e)) were anew_state))

  -- the names by which the uses of an item may differ, and those by which what it leads to may
  abbrev used_names : Renaming → List (List ℕ)
  used_names renamings.Declared = names
  used_names renamings.State = []

  abbrev led_names : Renaming → List (List ℕ)
  led_names renamings.Declared = []
  led_names renamings.State = names

  -- an item that touches none of the names meets none of these
  none_met : (r : Renaming) (s : Summary) → touches names s ≡ false → meets (used_names r) (led_names r) s ≡ false
  none_met renamings.Declared s h = ap₂ (λ (x y : Bool). x || y) (or_parts (list_any (is_among names) s.uses) (list_any (λ t. is_among names t.name) s.targets) h).0 (none_passes s.targets)
    where
      none_passes : (ts : List NameRef) → list_any (λ (t : NameRef). is_among [] t.name) ts ≡ false
      none_passes [] = refl
      none_passes (t ∷ ts) = none_passes ts
  none_met renamings.State s h = ap₂ (λ (x y : Bool). x || y) (none_used s.uses) (or_parts (list_any (is_among names) s.uses) (list_any (λ t. is_among names t.name) s.targets) h).1
    where
      none_used : (us : List (List ℕ)) → list_any (is_among []) us ≡ false
      none_used [] = refl
      none_used (u ∷ us) = none_used us

  abbrev IsAlike : Renaming → (ss ts : List Outline) → Type 0
  IsAlike r ss ts = MeanAlike ss ts (used_names r) (led_names r) × KeepsViews ss ts names

  in_parts : (r : Renaming) → IsRenamed (outlines_in old) (outlines_in text) k (outline w.entry.now) (outline e) r → AreNames (outline w.entry.now) (outline e) r names → IsAlike r were_parts are_parts
  in_parts renamings.Declared declares edited = (
    subst (λ (ns : List (List ℕ)). MeanAlike were_parts are_parts ns []) (sym edited.spoken) (anew (take k kept) (outline w.entry.now) (outline e) (drop (k + 1) kept) declares),
    views (take k kept) (outline w.entry.now ∷ []) (outline e ∷ []) (drop (k + 1) kept) names edited,
  )
  in_parts renamings.State anew_state is =
      let here = named_in_parts anew_state in
      let seen : KeepsViewsBut were_parts are_parts [] names =
      subst (λ (ns : List (List ℕ)). KeepsViewsBut were_parts are_parts [] ns) (sym is) (named_views (take k kept) (outline w.entry.now) (outline e) (drop (k + 1) kept) here) in (
        subst (λ (ns : List (List ℕ)). MeanAlike were_parts are_parts [] ns) (sym is) (named (take k kept) (outline w.entry.now) (outline e) (drop (k + 1) kept) here),
        λ i s silent. seen i s (none_met renamings.State s silent),
      )

  alike : IsAlike renaming (outlines_in old) (outlines_in text)
  alike =
      subst (λ (ts : List Outline). IsAlike renaming (outlines_in old) ts) (sym are)
      (subst (λ (ss : List Outline). IsAlike renaming ss are_parts) (sym were) (in_parts renaming renamed edited))

  -- ---- no item uses one of the names

  untouched : (i : ℕ) (x : Entry) → slice_get (entries_of text) i ≡ Some x → touches names x.summary ≡ false
  untouched i x got = elim (cases_eq i k) [
    | inl here ↦
        let same : e ≡ x = same_Some e x (sym (replaced_here (entries_of old) k e there) ∙ ap (λ (n : ℕ). slice_get (slice_set (entries_of old) k e) n) (sym here) ∙ ap (λ (l : List Entry). slice_get l i) (sym entries_are) ∙ got) in
        subst (λ (y : Entry). touches names y.summary ≡ false) same own
    | inr apart ↦ others i x apart (sym (replaced_other (entries_of old) k e i apart) ∙ ap (λ (l : List Entry). slice_get l i) (sym entries_are) ∙ got)
  ]

  unused : (i : ℕ) (y : ProgramItem) → slice_get (items_of text) i ≡ Some y → touches names (summary_of_item text y) ≡ false
  unused i y got = by (slice_get (item_tokens text) i) refl (sym (slice_get-map (program_item text) (item_tokens text) i) ∙ got)
    where
      by : (o : Option (List Piece)) → slice_get (item_tokens text) i ≡ o → option_map (program_item text) o ≡ Some y → touches names (summary_of_item text y) ≡ false
      by None at is = absurd cc
      by (Some m) at is =
          let spelled_so : slice_get (spelled_items text) i ≡ Some (spelled text m) =
          ap (λ (l : List (List (Class × List ℕ))). slice_get l i) (sym (spelled_text text)) ∙ slice_get-map (spelled text) (item_tokens text) i ∙ ap (option_map (spelled text)) at in
          let entry : slice_get (entries_of text) i ≡ Some (entry_by (spelled text m)) = slice_get-map entry_by (spelled_items text) i ∙ ap (option_map entry_by) spelled_so in
          let none : touches names (entry_by (spelled text m)).summary ≡ false = untouched i (entry_by (spelled text m)) entry in
          let summary : (entry_by (spelled text m)).summary ≡ summary_of_item text (program_item text m) = summary_is tree_told by_spelling summary_told bytes_told text m (entry_by (spelled text m)) refl in
          subst (λ (z : ProgramItem). touches names (summary_of_item text z) ≡ false) (same_Some (program_item text m) y is)
          (subst (λ (s : Summary). touches names s ≡ false) summary none)

  pub sees_alike : ClausesAlike (outlines_in old) (outlines_in text) → SeesAlike old text k
  sees_alike clauses = record {
    places = alike.0.places;
    views = λ i x apart got. alike.1 i x.summary (others i x apart got);
    tables = told text (items_of text) (outlines_in old) (outlines_in text) (used_names renaming) (led_names renaming) alike.0 clauses (λ i y got. none_met renaming (summary_of_item text y) (unused i y got));
  }
