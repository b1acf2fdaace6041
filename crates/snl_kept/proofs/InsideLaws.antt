-- What a text says after an edit inside one item, by what changes in the rows.
use Rattle.std.proofs.Common.{◌≡◌, ℕ, ◌++◌, Bool, true, false, List, [], ◌∷◌, length, map, slice_get, Option, Some, is_none, is_some, option_map, refl, sym, ap, subst, ◌∙◌}
use Rattle.std.specs.Option.{option_map_or}
use Rattle.std.proofs.lemmas.List.{length-map}
use Rattle.std.proofs.lemmas.Option.{slice_get-map, same_Some}
use Rattle.snl_lex.specs.declared.line_shift.LineShift.{LineShift}
use Rattle.snl_lex.specs.declared.shift.Shift.{Shift}
use Rattle.snl_lex.specs.LineShift.{moved_line}
use Rattle.snl_summary.specs.declared.summary.Outline.{Outline}
use Rattle.snl_scope.specs.Linked.{faults_of}
use Rattle.snl_scope.specs.Order.{is_named_state, state_name}
use Rattle.snl_summary.specs.Summaries.{kind_of}
use Rattle.snl_tables.specs.declared.rows.Tables.{Tables}
use Rattle.snl_tables.specs.Moved.{moved_tables}
use Rattle.snl_item_check.specs.Items.{outline_of_item, outlines_of}
use Rattle.snl_moved.specs.Shifted.{shifted_item}
use Rattle.snl_moved.specs.ShiftedAround.{IsSoundAsItWas, SaysAlike, SaysAlikeAt, is_plain}
use Rattle.snl_kept.specs.declared.entries.Entry.{Entry}
use Rattle.snl_kept.specs.declared.found.findings.Finding.{Finding}
use Rattle.snl_kept.specs.declared.plan.Changes.{Changes}
use Rattle.snl_kept.specs.declared.plan.RowChange.{RowChange}
use Rattle.snl_lex.specs.Edit.{Edit}
use Rattle.snl_kept.specs.Checks.{links_in}
use Rattle.snl_kept.specs.Diagnostics.{diagnostics_of, shown, shown_if}
use Rattle.snl_kept.specs.ItemPlan.{IsAfterInside, own_item}
use Rattle.snl_kept.specs.Order.{in_order}
use Rattle.snl_kept.specs.OwnFindings.{WalksAround, found_around}
use Rattle.snl_kept.specs.OwnRows.{come_of, gone_of, with_row}
use Rattle.snl_kept.specs.Program.{ProgramItem, items_of}
use Rattle.snl_kept.specs.ReplacedItem.{IsOneReplaced, ReplacesInside, SparesInside, own_head, own_shown}
use Rattle.snl_kept.specs.Shifted.{finding_of}
use Rattle.snl_kept.specs.Tables.{tables_in, walked_in}
use Rattle.snl_kept.specs.Warnings.{shows_warnings, warns_in}
use Rattle.snl_kept.proofs.InsideTables.{walks_around}

-- the item between others
between : {X : Type 0} (front : List X) (x : X) (back : List X) → slice_get (front ++ (x ∷ back)) (length front) ≡ Some x
between [] x back = refl
between (y ∷ front) x back = between front x back

module _ (edit : Edit) (c : Changes) (t : LineShift) (x e : Entry) (one : IsOneReplaced edit c t x e) where
  abbrev old : List ℕ
  old = edit.old

  abbrev text : List ℕ
  text = edit.text

  abbrev s : Shift
  s = t.by

  abbrev j : ℕ
  j = c.items.kept_front

  abbrev was : ProgramItem
  was = own_item old j

  abbrev is : ProgramItem
  is = own_item text j

  -- ---- the item before the edit and after it

  pub got_was : slice_get (items_of old) j ≡ Some was
  got_was =
      ap (λ (l : List ProgramItem). slice_get l j) one.inside.items_were ∙ ap (slice_get (one.front ++ (was ∷ one.back))) (sym one.number) ∙ between one.front was one.back

  pub got_is : slice_get (items_of text) j ≡ Some is
  got_is =
      let shifted : List ProgramItem = map (shifted_item s) one.front in
      let shifted_back : List ProgramItem = map (shifted_item s) one.back in
      ap (λ (l : List ProgramItem). slice_get l j) one.inside.items_are
      ∙ ap (slice_get (shifted ++ (is ∷ shifted_back))) (sym (length-map one.front (shifted_item s) ∙ one.number)) ∙ between shifted is shifted_back

  -- whether it is a state with a name
  pub named_as : (b : Bool) → is_some (state_name x.summary.outline) ≡ b → is_named_state (outlines_of old (items_of old)) j ≡ b
  named_as b named =
      let at : slice_get (outlines_of old (items_of old)) j ≡ Some x.summary.outline =
      slice_get-map (outline_of_item old) (items_of old) j ∙ ap (option_map (outline_of_item old)) got_was ∙ ap Some one.outline_was in
      ap (λ (o : Option Outline). option_map_or (λ (y : Outline). is_some (state_name y)) o false) at ∙ named

  pub sound_as_it_was : is_none is.tree ≡ is_none was.tree → IsSoundAsItWas (items_of old) (items_of text) j
  sound_as_it_was same = λ a b at_a at_b.
      ap (λ (z : ProgramItem). is_none z.tree) (same_Some b is (sym at_b ∙ got_is)) ∙ same ∙ ap (λ (z : ProgramItem). is_none z.tree) (same_Some was a (sym got_was ∙ at_a))

  pub says_alike_at : SaysAlike old text was is → SaysAlikeAt old text (items_of old) (items_of text) j
  says_alike_at alike = λ a b at_a at_b.
      subst (λ (z : ProgramItem). SaysAlike old text z b) (same_Some was a (sym got_was ∙ at_a)) (subst (λ (z : ProgramItem). SaysAlike old text was z) (same_Some is b (sym got_is ∙ at_b)) alike)

  -- ---- what the text says

  module _
      -- what the laws of findings say
      (findings : (old text : List ℕ) (s : Shift) (head : ℕ) (front back : List ProgramItem) (x y : ProgramItem) (gone come : List Finding)
      → ReplacesInside old text s head front x y back → SparesInside head (length front) (faults_of (links_in old)) → is_plain (kind_of x.tree) ≡ true → is_plain (kind_of y.tree) ≡ true
      → faults_of (links_in text) ≡ faults_of (links_in old) → WalksAround s gone come (walked_in (tables_in old)) (walked_in (tables_in text))
      → found_around s (own_shown old (items_of old) (length front) x ++ shown_if (warns_in old) gone) (own_shown text (items_of text) (length front) y ++ shown_if (warns_in text) come) (in_order (shown old))
      ≡ in_order (shown text))
      (warnings : (old text : List ℕ) (s : Shift) (head : ℕ) (front back : List ProgramItem) (x y : ProgramItem)
      → ReplacesInside old text s head front x y back → is_plain (kind_of x.tree) ≡ true → is_plain (kind_of y.tree) ≡ true → shows_warnings text (items_of text) ≡ shows_warnings old (items_of old))
      (told : (text : List ℕ) → map finding_of (diagnostics_of text) ≡ in_order (shown text)) where
    pub after_change : (change : RowChange) → SparesInside (own_head old c) j (faults_of (links_in old)) → faults_of (links_in text) ≡ faults_of (links_in old)
        → tables_in text ≡ with_row (moved_tables s (moved_line t) (tables_in old)) change → IsAfterInside old text t j change
    after_change change spares faults tables =
        let replaced = one.one.replaced was is got_was got_is in
        let head : ℕ = own_head old c in
        let gone : List Finding = gone_of (tables_in old) change in
        let come : List Finding = come_of s (tables_in old) change in
        let walks : WalksAround s gone come (walked_in (tables_in old)) (walked_in (tables_in text)) =
        subst (λ (t : Tables). WalksAround s gone come (walked_in (tables_in old)) (walked_in t)) (sym tables) (walks_around s (moved_line t) (tables_in old) change) in
        let spared : SparesInside head (length one.front) (faults_of (links_in old)) = subst (λ (n : ℕ). SparesInside head n (faults_of (links_in old))) (sym one.number) spares in
        record {
          faults = faults;
          warns = warnings old text s head one.front one.back was is one.inside replaced.was_plain replaced.is_plain_now;
          found = ap (found_around s (own_shown old (items_of old) j was ++ shown_if (warns_in old) gone) (own_shown text (items_of text) j is ++ shown_if (warns_in text) come)) (told old)
              ∙ subst (λ (n : ℕ). found_around s (own_shown old (items_of old) n was ++ shown_if (warns_in old) gone) (own_shown text (items_of text) n is ++ shown_if (warns_in text) come) (in_order (shown old))
              ≡ in_order (shown text)) one.number
              (findings old text s head one.front one.back was is gone come one.inside spared replaced.was_plain replaced.is_plain_now faults walks);
          tables = tables;
        }
