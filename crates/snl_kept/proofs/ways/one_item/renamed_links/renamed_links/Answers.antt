use Rattle.std.proofs.Common.{◌≡◌, ℕ, ◌+◌, ◌<◌, ◌∷◌, ◌++◌, List, length, take, drop, slice_get, option_map, ap, sym, ◌∙◌}
use Rattle.std.proofs.lemmas.Option.{IfSome_then, slice_get-map, slice_get_within}
use Rattle.snl_summary.specs.declared.summary.ItemKind.{ItemKind}
use Rattle.snl_summary.specs.declared.summary.Outline.{Outline}
use Rattle.snl_scope.specs.Linked.{faults_of}
use Rattle.snl_scope.specs.LinkedItems.{LinkedItems}
use Rattle.snl_kept.specs.declared.entries.Entry.{Entry}
use Rattle.snl_kept.specs.Checks.{links_in, outlines_in}
use Rattle.snl_kept.specs.Entries.{entries_of}
use Rattle.snl_kept.specs.ItemPlan.{kinds_kept, outlines_kept}
use Rattle.snl_kept.proofs.InsideMade.{kept_kinds, kept_outlines}
use Rattle.snl_kept.proofs.Members.{one_entry_made}
use Rattle.snl_kept.proofs.RenamedItem.{put_in}
use Rattle.snl_kept.proofs.ways.one_item.renamed_links.renamed_links.Goals as goal

pub link_renamed-requires-clause-was : goal.link_renamed-requires-clause-was
link_renamed-requires-clause-was c =
    let editing = c.args.one.now.editing in
    let old = editing.edit.now.old.now in
    let k = editing.changes.now.items.kept_front in
    let outlines : (t : List ℕ) → outlines_kept (entries_of t) ≡ outlines_in t =
    kept_outlines c.outcome_told.ensures.tree c.same_spelling_same_tree.ensures.by_spelling c.same_spelling_same_summary.ensures.summary_by_spelling c.same_spelling_same_summary.ensures.bytes_by_spelling in
    ap (λ (l : LinkedItems). slice_get l.outlines k) c.requires.one.editing.lists.links
    ∙ ap (λ (os : List Outline). slice_get os k) (sym (outlines old))
    ∙ slice_get-map (λ (e : Entry). e.summary.outline) (entries_of old) k
    ∙ ap (option_map (λ (e : Entry). e.summary.outline)) c.requires.was.entry

pub returns-clause-links : goal.returns-clause-links
returns-clause-links c =
    let editing = c.args.one.now.editing in
    let old = editing.edit.now.old.now in
    let text = editing.edit.now.text.now in
    let items = editing.changes.now.items in
    let k = items.kept_front in
    let made = c.args.made.now in
    let links = editing.lists.now.links in
    let before : links ≡ links_in old = c.requires.one.editing.lists.links in
    let tree = c.outcome_told.ensures.tree in
    let spelling = c.same_spelling_same_tree.ensures.by_spelling in
    let summary = c.same_spelling_same_summary.ensures.summary_by_spelling in
    let bytes = c.same_spelling_same_summary.ensures.bytes_by_spelling in
    let outlines : (t : List ℕ) → outlines_kept (entries_of t) ≡ outlines_in t = kept_outlines tree spelling summary bytes in
    let kinds : (t : List ℕ) → kinds_kept (entries_of t) ≡ (links_in t).kinds = kept_kinds tree spelling summary bytes in
    let there : k < length (entries_of old) = slice_get_within (entries_of old) k c.args.was.entry.now c.requires.was.entry in
    let all = one_entry_made old text k items.kept_back made c.requires.one.one.one_gone c.requires.alone in
    let told : take k links.outlines ++ (made.summary.outline ∷ drop (k + 1) links.outlines) ≡ outlines_in text =
    ap (λ (os : List Outline). take k os ++ (made.summary.outline ∷ drop (k + 1) os)) (ap (λ (l : LinkedItems). l.outlines) before ∙ sym (outlines old))
    ∙ sym (put_in (λ (e : Entry). e.summary.outline) (entries_of old) (entries_of text) k made all there) ∙ outlines text in
    let told-2 : take k links.kinds ++ (made.summary.kind ∷ drop (k + 1) links.kinds) ≡ (links_in text).kinds =
    ap (λ (ks : List ItemKind). take k ks ++ (made.summary.kind ∷ drop (k + 1) ks)) (ap (λ (l : LinkedItems). l.kinds) before ∙ sym (kinds old))
    ∙ sym (put_in (λ (e : Entry). e.summary.kind) (entries_of old) (entries_of text) k made all there) ∙ kinds text in
    let new : LinkedItems = record {
      outlines = take k links.outlines ++ (made.summary.outline ∷ drop (k + 1) links.outlines);
      kinds = take k links.kinds ++ (made.summary.kind ∷ drop (k + 1) links.kinds);
    } in
    let same : new ≡ links_in text = λ j. record { outlines = told j; kinds = told-2 j } in
    IfSome_then c.in_ok-links.links c.in_ok-links.ensures.links (λ l e. e ∙ same)

pub returns-clause-faults : goal.returns-clause-faults
returns-clause-faults c =
    IfSome_then c.in_ok-links.links c.in_ok-links.ensures.faults (λ l e. e ∙ ap faults_of c.requires.one.editing.lists.links)
