-- What an edit inside one item makes of the links and the rows, from what is kept of the text and
-- what is known by tests.
use Rattle.std.proofs.Common.{◌≡◌, ℕ, ◌<◌, List, [], ◌∷◌, length, slice_get, Option, Some, None, false, true, is_none, is_some, inl, inr, sym, ap, ap₂, subst, ◌∙◌, arith}
use Rattle.std.specs.List.{slice_set}
use Rattle.std.specs.Option.{option_map_or}
use Rattle.snl_lex.specs.declared.piece.Piece.{Piece}
use Rattle.snl_lex.specs.declared.line_shift.LineShift.{LineShift}
use Rattle.snl_lex.specs.PieceList.{spelled}
use Rattle.snl_lex.specs.Edit.{Edit}
use Rattle.snl_grammar.specs.Outcome.{parsed_by, parsed_in, sound_tree}
use Rattle.snl_grammar.specs.declared.tree.item.Item.{Item}
use Rattle.snl_scope.specs.Linked.{faults_of}
use Rattle.snl_scope.specs.LinkedItems.{LinkedItems}
use Rattle.snl_scope.specs.Order.{state_name}
use Rattle.snl_scope.specs.Places.{enclosing_set}
use Rattle.snl_summary.specs.SpelledTokens.{bytes_by, summary_by}
use Rattle.snl_summary.specs.Summaries.{summary_in}
use Rattle.snl_summary.specs.Summaries.Tokens.{token_bytes}
use Rattle.snl_summary.specs.declared.summary.ItemKind.{ItemKind}
use Rattle.snl_summary.specs.declared.summary.Outline.{Outline}
use Rattle.snl_walk.specs.declared.used.WakeUse.{WakeUse}
use Rattle.snl_item_check.specs.declared.findings.Checked.{Checked}
use Rattle.snl_check.specs.Conditions.{uses_in}
use Rattle.snl_item_check.specs.Items.{ProgramItem, tokens_in}
use Rattle.snl_moved.specs.ShiftedAround.{SaysAlike}
use Rattle.snl_moved.specs.Spans.{AreRead}
use Rattle.snl_item_check.specs.Told.{Told, nothing, told_in_item, told_kept}
use Rattle.snl_kept.specs.declared.entries.Entry.{Entry}
use Rattle.snl_kept.specs.declared.lists.Lists.{Lists}
use Rattle.snl_kept.specs.declared.ways.one_item.replaced.OldItem.{OldItem}
use Rattle.snl_kept.specs.declared.ways.one_item.replaced.OwnTokens.{OwnTokens}
use Rattle.snl_kept.specs.declared.plan.Changes.{Changes}
use Rattle.snl_kept.specs.declared.plan.NewLinks.{NewLinks}
use Rattle.snl_kept.specs.declared.ways.one_item.touched_rows.TouchedRows.{TouchedRows}
use Rattle.snl_kept.specs.declared.ways.one_item.touched_rows.TouchedRows.TheVariants as touched
use Rattle.snl_kept.specs.Checks.{check_by, links_in, outlines_in}
use Rattle.snl_kept.specs.Entries.{entries_of}
use Rattle.snl_kept.specs.ItemPlan.{FitsRows, IsAfterInside, IsOneItem, IsStateAlike, own_item}
use Rattle.snl_kept.specs.Kept.{IsListed}
use Rattle.snl_kept.specs.MadeRows.{AreItemsAfter, IsInPlace, IsOwnMade, IsOwnState}
use Rattle.snl_kept.specs.declared.ways.one_item.replaced.OneItem.{OneItem}
use Rattle.snl_kept.specs.OneItem.{item_of, outlines_by}
use Rattle.snl_kept.specs.OwnLinks.{AreOwnLinks}
use Rattle.snl_kept.specs.OwnRows.{change_told}
use Rattle.snl_kept.specs.Planned.{AreEntriesMade}
use Rattle.snl_kept.specs.Program.{items_of, program_item, tree_in}
use Rattle.snl_kept.specs.NewLinks.{AreLinks, links_now}
use Rattle.snl_kept.specs.ReplacedItem.{IsOneReplaced, own_tokens}
use Rattle.snl_kept.proofs.InsideLaws.{got_is}
use Rattle.snl_kept.proofs.InsideTold.{told_is}
use Rattle.snl_kept.proofs.Members.{entries_count, one_entry_made}

-- ---- the links

module _ (edit : Edit) (c : Changes) (t : LineShift) (x e : Entry) (one : IsOneReplaced edit c t x e) (before : LinkedItems) (is : before ≡ links_in edit.old) (links : NewLinks)
    (own : AreOwnLinks before c.items.kept_front e.summary.kind links) (same : outlines_in edit.text ≡ outlines_in edit.old) where
  own_links_are : AreOwnLinks (links_in edit.old) c.items.kept_front e.summary.kind links
  own_links_are = subst (λ (l : LinkedItems). AreOwnLinks l c.items.kept_front e.summary.kind links) is own

  links_are : links_now (links_in edit.old) links ≡ links_in edit.text
  links_are =
      ap₂ (λ (os : List Outline) (ks : List ItemKind). let l : LinkedItems = record { outlines = os; kinds = ks } in l)
      (own_links_are.outlines ∙ sym same)
      (own_links_are.kinds ∙ sym one.kinds)

  pub links_after : AreLinks edit.old edit.text links
  links_after = record { are = links_are; faults = own_links_are.found }

  pub faults_stay : faults_of (links_in edit.text) ≡ faults_of (links_in edit.old)
  faults_stay = ap faults_of (sym links_are) ∙ own_links_are.same

-- ---- what the rows go by

pub items_after : (old text : List ℕ) (c : Changes) (l : Lists) (e : Entry) → IsListed old l → IsOneItem old c → AreEntriesMade old text c.items.kept_front (e ∷ []) c.items.kept_back → outlines_in text ≡ outlines_in old
    → AreItemsAfter old text l c.items.kept_front e
items_after old text c l e listed one made same =
    let k : ℕ = c.items.kept_front in
    let there : k < length (entries_of old) = omega (arith, one.one_gone, entries_count old) in
    let were : l.links.outlines ≡ outlines_in old = ap (λ (z : LinkedItems). z.outlines) listed.links in
    record {
      there = subst (λ (xs : List Entry). k < length xs) (sym listed.entries) there;
      entries = one_entry_made old text k c.items.kept_back e one.one_gone made ∙ ap (λ (xs : List Entry). slice_set xs k e) (sym listed.entries);
      outlines_were = were;
      outlines_are = were ∙ sym same;
    }

pub in_place : (edit : Edit) (c : Changes) (t : LineShift) (x e : Entry) → IsOneReplaced edit c t x e → AreRead edit.old (items_of edit.old) → (own : List Piece)
    → own ≡ own_tokens edit.text c.items.kept_front → IsInPlace edit.old edit.text c.items.kept_front own
in_place edit c t x e one read own is =
    subst (IsInPlace edit.old edit.text c.items.kept_front) (sym is) (record {
      shift = t;
      some_before = one.inside.shift.some_before;
      read = read;
      one = one.one;
      got = got_is edit c t x e one;
    })

-- the state that is made
pub own_state : (o : OneItem) (e : Entry) (c : Option Checked) → IsOwnMade o e c → IsOwnState o e c
own_state o e c made = record {
  within = made.within;
  entry = made.entry;
  check = record { outlines = outlines_by o; number = item_of o; is = made.check };
}

-- its tokens, and the uses in its conditions, among the items
pub tokens_got : (text : List ℕ) (ys : List ProgramItem) (i : ℕ) (own : List Piece) → slice_get ys i ≡ Some (program_item text own) → own ≡ tokens_in ys i
tokens_got text ys i own got = sym (ap (λ (o : Option ProgramItem). option_map_or (λ (x : ProgramItem). x.tokens) o []) got)

module _ (tree_told : (text : List ℕ) (tokens : List Piece) → sound_tree (parsed_in text tokens) ≡ tree_in text tokens)
    (by_spelling : (text : List ℕ) (tokens : List Piece) → parsed_in text tokens ≡ parsed_by (spelled text tokens))
    (summary_told : (text : List ℕ) (tokens : List Piece) (tree : Option Item) → summary_in text tokens tree ≡ summary_by (spelled text tokens) tree)
    (bytes_told : (text : List ℕ) (tokens : List Piece) → token_bytes text tokens ≡ bytes_by (spelled text tokens)) where
  pub uses_got : (text : List ℕ) (ys : List ProgramItem) (ss : List Outline) (i : ℕ) (own : List Piece) (check : Option Checked) (uses : List WakeUse) → slice_get ys i ≡ Some (program_item text own)
      → check ≡ check_by ss i (spelled text own) → uses ≡ (told_kept check).wake_uses → uses ≡ uses_in text ys i
  uses_got text ys ss i own check uses got is uses_are =
      uses_are
      ∙ ap (λ (c : Option Checked). (told_kept c).wake_uses) is
      ∙ ap (λ (t : Told). t.wake_uses) (told_is tree_told by_spelling summary_told bytes_told ss i text own)
      ∙ sym (ap (λ (o : Option ProgramItem). (option_map_or (told_in_item text) o nothing).wake_uses) got)

-- ---- what the text says, whichever rows change

pub after_any : (old text : List ℕ) (t : LineShift) (k : ℕ) (own : OwnTokens) (w : OldItem) (e : Entry) (rows : TouchedRows) → FitsRows old text k own w e rows
    → (e.summary.kind ≡ w.entry.now.summary.kind → is_none (own_item text k).tree ≡ is_none (own_item old k).tree)
    → ((n : ℕ) → IsStateAlike old text k own w e n → SaysAlike old text (own_item old k) (own_item text k))
    → (enclosing_set (outlines_in old) k ≡ None → IsAfterInside old text t k (change_told text (items_of text) (outlines_in old) k (own_item text k) touched.Nothing))
    → (is_some (state_name w.entry.now.summary.outline) ≡ false → is_none (own_item text k).tree ≡ is_none (own_item old k).tree
    → IsAfterInside old text t k (change_told text (items_of text) (outlines_in old) k (own_item text k) touched.Nothing))
    → ((n : ℕ) → is_some (state_name w.entry.now.summary.outline) ≡ true → enclosing_set (outlines_in old) k ≡ Some n → SaysAlike old text (own_item old k) (own_item text k)
    → IsAfterInside old text t k (change_told text (items_of text) (outlines_in old) k (own_item text k) (touched.Body n)))
    → ((n : ℕ) → is_some (state_name w.entry.now.summary.outline) ≡ true → enclosing_set (outlines_in old) k ≡ Some n
    → IsAfterInside old text t k (change_told text (items_of text) (outlines_in old) k (own_item text k) (touched.State n)))
    → ((n : ℕ) → is_some (state_name w.entry.now.summary.outline) ≡ false → enclosing_set (outlines_in old) k ≡ Some n
    → IsAfterInside old text t k (change_told text (items_of text) (outlines_in old) k (own_item text k) (touched.Marks n)))
    → IsAfterInside old text t k (change_told text (items_of text) (outlines_in old) k (own_item text k) rows)
after_any old text t k own w e touched.Nothing (inl nowhere) sound alike outside around inside of_state in_set = outside nowhere
after_any old text t k own w e touched.Nothing (inr unnamed) sound alike outside around inside of_state in_set = around unnamed.unnamed (sound unnamed.kind)
after_any old text t k own w e (touched.Body n) fits sound alike outside around inside of_state in_set = inside n fits.state.named fits.state.placed (alike n fits)
after_any old text t k own w e (touched.State n) fits sound alike outside around inside of_state in_set = of_state n fits.named fits.placed
after_any old text t k own w e (touched.Marks n) fits sound alike outside around inside of_state in_set = in_set n fits.unnamed fits.placed
