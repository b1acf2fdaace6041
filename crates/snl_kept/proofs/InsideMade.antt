-- What is made of an edit inside one item, from what is kept of the text and what is known by
-- tests.
use Rattle.std.proofs.Common.{◌≡◌, ℕ, zero, suc, ◌+◌, ◌-◌, ◌<◌, Bool, List, [], ◌∷◌, ◌++◌, length, map, take, drop, slice_get, Option, Some, is_none, option_map, refl, sym, ap, ap₂, ◌∙◌, arith, add-one}
use Rattle.std.proofs.lemmas.List.{length-take-le}
use Rattle.std.proofs.lemmas.Option.{slice_get-map, same_Some}
use Rattle.snl_cut.specs.Cut.{IsEdit, last_end, members}
use Rattle.snl_lex.specs.declared.piece.Class.{Class}
use Rattle.snl_lex.specs.declared.piece.Piece.{Piece}
use Rattle.snl_lex.specs.declared.line_shift.LineShift.{LineShift}
use Rattle.snl_lex.specs.PieceList.{spelled}
use Rattle.snl_lex.specs.Edit.{Edit}
use Rattle.snl_lex.specs.Pieces.{tokens_of}
use Rattle.snl_items.specs.Changes.{IsShiftOf}
use Rattle.snl_items.specs.Items.{item_ends, spelled_items}
use Rattle.snl_grammar.specs.Outcome.{parsed_by, parsed_in, sound_tree}
use Rattle.snl_grammar.specs.declared.tree.item.Item.{Item}
use Rattle.snl_scope.specs.Places.{enclosing_set}
use Rattle.snl_summary.specs.SpelledTokens.{bytes_by, summary_by}
use Rattle.snl_scope.specs.View.{view}
use Rattle.snl_summary.specs.Summaries.{kind_of, summary_in}
use Rattle.snl_summary.specs.Summaries.Tokens.{token_bytes}
use Rattle.snl_summary.specs.declared.summary.ItemKind.{ItemKind}
use Rattle.snl_summary.specs.declared.summary.Outline.{Outline}
use Rattle.snl_summary.specs.declared.summary.Summary.{Summary}
use Rattle.snl_tables.specs.declared.rows.Tables.{Tables}
use Rattle.snl_item_check.specs.declared.findings.Checked.{Checked}
use Rattle.snl_item_check.specs.Items.{outlines_of, summary_of_item}
use Rattle.snl_item_check.specs.Told.{wakes_of}
use Rattle.snl_moved.specs.ShiftedAround.{SaysAlike}
use Rattle.snl_check.specs.Tables.{tables_by}
use Rattle.snl_kept.specs.declared.entries.Entry.{Entry}
use Rattle.snl_kept.specs.declared.found.findings.Diagnostic.{Diagnostic}
use Rattle.snl_kept.specs.declared.found.findings.Finding.{Finding}
use Rattle.snl_kept.specs.declared.ways.one_item.replaced.OldItem.{OldItem}
use Rattle.snl_kept.specs.declared.ways.one_item.replaced.OwnTokens.{OwnTokens}
use Rattle.snl_kept.specs.declared.plan.Changes.{Changes}
use Rattle.snl_kept.specs.declared.plan.RowChange.{RowChange}
use Rattle.snl_kept.specs.Checks.{check_by, checks_from, checks_of, links_in, outlines_in}
use Rattle.snl_kept.specs.Diagnostics.{diagnostic, diagnostics_of, shown_if}
use Rattle.snl_kept.specs.Entries.{entries_of, entry_by}
use Rattle.snl_kept.specs.ItemPlan.{AreOwnTokens, IsAfterInside, IsOneItem, IsStateAlike, IsWas, come_by, diagnostics_by, gone_by, kinds_kept, outlines_kept, own_item, wakes_told}
use Rattle.snl_kept.specs.ReplacedItem.{IsInside, SeesAlike, TakesPlace, own_findings, own_head, own_shown, own_tokens}
use Rattle.snl_kept.specs.OwnFindings.{found_around}
use Rattle.snl_kept.specs.OwnRows.{come_of, gone_of}
use Rattle.snl_kept.specs.Planned.{AreEntriesMade, IsChanged}
use Rattle.snl_kept.specs.Program.{ProgramItem, item_tokens, items_of, program_item, tree_in}
use Rattle.snl_kept.specs.Shifted.{ShiftsLines, finding_of}
use Rattle.snl_kept.specs.Tables.{tables_in}
use Rattle.snl_kept.specs.Warnings.{warns_in}
use Rattle.snl_kept.proofs.InsideTold.{same_sound, summary_is, tree_is, wakes_are}
use Rattle.snl_kept.proofs.MemberParts.{element_at, members_parts}
use Rattle.snl_kept.proofs.Members.{one_entry_made}
use Rattle.snl_kept.proofs.Replaced.{replaced_alike}
use Rattle.snl_kept.proofs.SpelledItems.{spelled_text}
use Rattle.snl_cut.specs.CutLaws.{length_members}

-- ---- the item with a number, and what is kept of it

pub own_got : (text : List ℕ) (k : ℕ) → k < length (item_ends text) → slice_get (item_tokens text) k ≡ Some (own_tokens text k)
unfolding item_tokens
own_got text k lt =
    let ends : List ℕ = item_ends text in
    let all : List (List Piece) = members (tokens_of text) 0 ends in
    let first : ℕ = last_end 0 (take k ends) in
    let many : length (take k all) ≡ k = length-take-le k all (omega (arith, lt, length_members (tokens_of text) 0 ends)) in
    ap (λ (l : List (List Piece)). slice_get l k) (members_parts (tokens_of text) 0 k ends lt)
    ∙ element_at (take k all) (take (last_end 0 (take (suc k) ends) - first) (drop first (tokens_of text))) (drop (suc k) all) k many
    ∙ ap (λ (n : ℕ). Some (take (last_end 0 (take n ends) - first) (drop first (tokens_of text)))) (sym (add-one k))

spelled_got : (text : List ℕ) (k : ℕ) → k < length (item_ends text) → slice_get (spelled_items text) k ≡ Some (spelled text (own_tokens text k))
spelled_got text k lt =
    ap (λ (l : List (List (Class × List ℕ))). slice_get l k) (sym (spelled_text text))
    ∙ slice_get-map (spelled text) (item_tokens text) k
    ∙ ap (option_map (spelled text)) (own_got text k lt)

pub entry_got : (text : List ℕ) (k : ℕ) (e : Entry) → k < length (item_ends text) → slice_get (entries_of text) k ≡ Some e → e ≡ entry_by (spelled text (own_tokens text k))
entry_got text k e lt got =
    same_Some e (entry_by (spelled text (own_tokens text k))) (sym got ∙ slice_get-map entry_by (spelled_items text) k ∙ ap (option_map entry_by) (spelled_got text k lt))

check_from : (ss : List Outline) (n k : ℕ) (xs : List (List (Class × List ℕ))) (x : List (Class × List ℕ)) → slice_get xs k ≡ Some x → slice_get (checks_from ss n xs) k ≡ Some (check_by ss (n + k) x)
check_from ss n k [] x got = absurd cc
check_from ss n zero (y ∷ ys) x got = ap₂ (λ (i : ℕ) (z : List (Class × List ℕ)). Some (check_by ss i z)) (omega arith) (same_Some y x got)
check_from ss n (suc k) (y ∷ ys) x got = check_from ss (n + 1) k ys x got ∙ ap (λ (i : ℕ). Some (check_by ss i x)) (omega arith)

pub check_got : (text : List ℕ) (k : ℕ) (c : Option Checked) → k < length (item_ends text) → slice_get (checks_of text) k ≡ Some c → c ≡ check_by (outlines_in text) k (spelled text (own_tokens text k))
check_got text k c lt got =
    same_Some c (check_by (outlines_in text) k (spelled text (own_tokens text k)))
    (sym got
    ∙ check_from (outlines_in text) 0 k (spelled_items text) (spelled text (own_tokens text k)) (spelled_got text k lt)
    ∙ ap (λ (i : ℕ). Some (check_by (outlines_in text) i (spelled text (own_tokens text k)))) (omega arith))

-- ---- an edit inside one item

pub is_inside : (edit : Edit) (c : Changes) (t : LineShift) (w : OldItem) (e : Entry)
    → IsChanged edit c → IsEdit edit.old edit.text edit.start edit.old_stop edit.new_stop → IsShiftOf edit t.by
    → ShiftsLines edit.old edit.text t → IsOneItem edit.old c → IsWas edit.old c.items.kept_front w → AreEntriesMade edit.old edit.text c.items.kept_front (e ∷ []) c.items.kept_back
    → TakesPlace (own_head edit.old c) w.entry.now e → SeesAlike edit.old edit.text c.items.kept_front → IsInside edit c t w.entry.now e
is_inside edit c t w e changed edit_is by lines one was made place seen = record {
  changed = changed;
  edit_is = edit_is;
  by = by;
  lines = lines;
  one_made = one.one_made;
  one_gone = one.one_gone;
  head = one.head;
  was = was.entry;
  made = made;
  place = place;
  seen = seen;
}

-- where all say to each other what they said, they see what they saw
pub sees_the_same : (old text : List ℕ) (k : ℕ) → outlines_in text ≡ outlines_in old → SeesAlike old text k
sees_the_same old text k same = record {
  places = λ i. ap (λ (ss : List Outline). enclosing_set ss i) same;
  views = λ i e apart got. ap (λ (ss : List Outline). view ss i e.summary) (sym same);
  tables = ap (tables_by text (items_of text)) same;
}

pub is_there : (old : List ℕ) (c : Changes) → IsOneItem old c → c.items.kept_front < length (item_ends old)
is_there old c one = omega (arith, one.one_gone)

module _ (tree_told : (text : List ℕ) (tokens : List Piece) → sound_tree (parsed_in text tokens) ≡ tree_in text tokens)
    (by_spelling : (text : List ℕ) (tokens : List Piece) → parsed_in text tokens ≡ parsed_by (spelled text tokens))
    (summary_told : (text : List ℕ) (tokens : List Piece) (tree : Option Item) → summary_in text tokens tree ≡ summary_by (spelled text tokens) tree)
    (bytes_told : (text : List ℕ) (tokens : List Piece) → token_bytes text tokens ≡ bytes_by (spelled text tokens)) where
  -- what the items say to each other, as it is kept
  kept_along : (text : List ℕ) (ms : List (List Piece)) → outlines_kept (map entry_by (map (spelled text) ms)) ≡ outlines_of text (map (program_item text) ms)
  kept_along text [] = refl
  kept_along text (m ∷ ms) =
      ap₂ (λ (x : Outline) (xs : List Outline). x ∷ xs) (ap (λ (y : Summary). y.outline) (summary_is tree_told by_spelling summary_told bytes_told text m (entry_by (spelled text m)) refl)) (kept_along text ms)

  pub kept_outlines : (text : List ℕ) → outlines_kept (entries_of text) ≡ outlines_in text
  kept_outlines text = ap (λ (l : List (List (Class × List ℕ))). outlines_kept (map entry_by l)) (sym (spelled_text text)) ∙ kept_along text (item_tokens text)

  -- one of them is in the place of another, and says what that one said
  pub outlines_stay : (old text : List ℕ) (c : Changes) (w : OldItem) (e : Entry) → IsOneItem old c → IsWas old c.items.kept_front w → AreEntriesMade old text c.items.kept_front (e ∷ []) c.items.kept_back
      → e.summary.outline ≡ w.entry.now.summary.outline → outlines_in text ≡ outlines_in old
  outlines_stay old text c w e one was made same =
      sym (kept_outlines text)
      ∙ ap outlines_kept (one_entry_made old text c.items.kept_front c.items.kept_back e one.one_gone made)
      ∙ replaced_alike (λ (y : Entry). y.summary.outline) (entries_of old) c.items.kept_front w.entry.now e was.entry same
      ∙ kept_outlines old

  kept_kinds_along : (text : List ℕ) (ms : List (List Piece)) → kinds_kept (map entry_by (map (spelled text) ms)) ≡ map (λ x. kind_of x.tree) (map (program_item text) ms)
  kept_kinds_along text [] = refl
  kept_kinds_along text (m ∷ ms) =
      ap₂ (λ (x : ItemKind) (xs : List ItemKind). x ∷ xs) (ap (λ (y : Summary). y.kind) (summary_is tree_told by_spelling summary_told bytes_told text m (entry_by (spelled text m)) refl)) (kept_kinds_along text ms)

  -- the kinds of the items, as they are kept
  pub kept_kinds : (text : List ℕ) → kinds_kept (entries_of text) ≡ (links_in text).kinds
  kept_kinds text = ap (λ (l : List (List (Class × List ℕ))). kinds_kept (map entry_by l)) (sym (spelled_text text)) ∙ kept_kinds_along text (item_tokens text)

  summary_now : (text : List ℕ) (k : ℕ) (own : List Piece) (e : Entry) → e ≡ entry_by (spelled text own) → own ≡ own_tokens text k → e.summary ≡ summary_of_item text (own_item text k)
  summary_now text k own e made own_is =
      summary_is tree_told by_spelling summary_told bytes_told text (own_tokens text k) e (made ∙ ap (λ (ts : List Piece). entry_by (spelled text ts)) own_is)

  -- an item of the kind that it was is sound where that one was
  pub sound_alike : (old text : List ℕ) (k : ℕ) (own : OwnTokens) (w : OldItem) (e : Entry) → k < length (item_ends old) → IsWas old k w → AreOwnTokens old text k own → e ≡ entry_by (spelled text own.is.items)
      → e.summary.kind ≡ w.entry.now.summary.kind → is_none (own_item text k).tree ≡ is_none (own_item old k).tree
  sound_alike old text k own w e there was own_are made kind =
      let summary = summary_now text k own.is.items e made own_are.is in
      let summary_was = summary_is tree_told by_spelling summary_told bytes_told old (own_tokens old k) w.entry.now (entry_got old k w.entry.now there was.entry) in
      same_sound (own_item old k).tree (own_item text k).tree (sym (ap (λ (y : Summary). y.kind) summary) ∙ kind ∙ ap (λ (y : Summary). y.kind) summary_was)

  -- the state says to the others and in its conditions what it said
  pub says_alike : (old text : List ℕ) (k set : ℕ) (own : OwnTokens) (w : OldItem) (e : Entry) → k < length (item_ends old) → IsWas old k w → AreOwnTokens old text k own → e ≡ entry_by (spelled text own.is.items)
      → IsStateAlike old text k own w e set → SaysAlike old text (own_item old k) (own_item text k)
  says_alike old text k set own w e there was own_are made alike =
      let made_is : e ≡ entry_by (spelled text (own_tokens text k)) = made ∙ ap (λ (ts : List Piece). entry_by (spelled text ts)) own_are.is in
      let summary = summary_now text k own.is.items e made own_are.is in
      let summary_was = summary_is tree_told by_spelling summary_told bytes_told old (own_tokens old k) w.entry.now (entry_got old k w.entry.now there was.entry) in
      let tree : sound_tree e.parsed ≡ tree_in text (own_tokens text k) = ap (λ (y : Entry). sound_tree y.parsed) made_is ∙ tree_is tree_told by_spelling summary_told bytes_told text (own_tokens text k) in
      let check : w.check.now ≡ check_by (outlines_in old) k (spelled old (own_tokens old k)) = check_got old k w.check.now there was.check in
      record {
        sound = sound_alike old text k own w e there was own_are made alike.alike.kind;
        targets = ap (λ (y : Summary). map (λ m. m.name) y.targets) (sym summary) ∙ alike.alike.targets ∙ ap (λ (y : Summary). map (λ m. m.name) y.targets) summary_was;
        wakes = ap₂ (λ (ts : List Piece) (t : Option Item). let y : ProgramItem = record { tokens = ts; tree = t } in wakes_of text y) (sym own_are.is) (sym tree)
            ∙ alike.alike.wakes
            ∙ ap₂ (λ (ts : List Piece) (c : Option Checked). wakes_told (token_bytes old ts) c) own_are.was check
            ∙ wakes_are tree_told by_spelling summary_told bytes_told (outlines_in old) k old (own_tokens old k);
      }

-- ---- what the text says after it

-- the diagnostics of the new text
pub diagnostics_after : (old text : List ℕ) (t : LineShift) (k : ℕ) (change : RowChange) (own : OwnTokens) (ss : List Outline) (warns : Bool) (tables : Tables) (found : List Diagnostic)
    → IsAfterInside old text t k change → AreOwnTokens old text k own
    → ss ≡ outlines_in old → warns ≡ warns_in old → tables ≡ tables_in old → found ≡ diagnostics_of old
    → diagnostics_by old text ss (outlines_in text) warns t.by k own tables change (map finding_of found) ≡ diagnostics_of text
unfolding diagnostics_of
diagnostics_after old text t k change own ss warns tables found after own_are ss_is warns_is tables_is found_is =
    let ts : List Outline = outlines_in text in
    let own_come : shown_if warns (own_findings text ts k (program_item text own.is.items)) ≡ own_shown text (items_of text) k (own_item text k) =
    ap₂ (λ (w : Bool) (m : List Piece). shown_if w (own_findings text ts k (program_item text m))) (warns_is ∙ sym after.warns) own_are.is in
    let own_gone : shown_if warns (own_findings old ss k (program_item old own.was.items)) ≡ own_shown old (items_of old) k (own_item old k) =
    ap₂ (λ (w : Bool) (ts : List Piece). shown_if w (own_findings old ss k (program_item old ts))) warns_is own_are.was
    ∙ ap (λ (os : List Outline). shown_if (warns_in old) (own_findings old os k (own_item old k))) ss_is in
    let gone : gone_by old ss warns k own.was.items tables change ≡ own_shown old (items_of old) k (own_item old k) ++ shown_if (warns_in old) (gone_of (tables_in old) change) =
    ap₂ (λ (a b : List Finding). a ++ b) own_gone (ap₂ (λ (w : Bool) (t : Tables). shown_if w (gone_of t change)) warns_is tables_is) in
    let come : come_by text ts warns t.by k own.is.items tables change ≡ own_shown text (items_of text) k (own_item text k) ++ shown_if (warns_in text) (come_of t.by (tables_in old) change) =
    ap₂ (λ (a b : List Finding). a ++ b) own_come (ap₂ (λ (w : Bool) (l : Tables). shown_if w (come_of t.by l change)) (warns_is ∙ sym after.warns) tables_is) in
    ap (map (diagnostic text))
    (ap₂ (λ (g c : List Finding). found_around t.by g c (map finding_of found)) gone come
    ∙ ap (λ (d : List Diagnostic). found_around t.by
    (own_shown old (items_of old) k (own_item old k) ++ shown_if (warns_in old) (gone_of (tables_in old) change))
    (own_shown text (items_of text) k (own_item text k) ++ shown_if (warns_in text) (come_of t.by (tables_in old) change))
    (map finding_of d)) found_is
    ∙ after.found)
