use Rattle.std.proofs.Common.{◌≡◌, ℕ, ◌-◌, ◌++◌, Bor, List, length, map, take, drop, ap, ap₂, sym, ◌∙◌, arith}
use Rattle.std.proofs.lemmas.List.{length-map}
use Rattle.std.proofs.lemmas.Result.{IfOk-weaker}
use Rattle.std.proofs.lemmas.Simd.{map-map}
use Rattle.snl_summary.specs.declared.summary.Summary.{Summary}
use Rattle.snl_scope.specs.LinkedItems.{LinkedItems}
use Rattle.snl_kept.specs.Checks.{links_in, outlines_in}
use Rattle.snl_kept.specs.Entries.{entries_of}
use Rattle.snl_kept.specs.ItemPlan.{kinds_kept, outlines_kept}
use Rattle.snl_kept.proofs.InsideMade.{kept_kinds, kept_outlines}
use Rattle.snl_kept.proofs.KeptOutlines.{mapped_parts}
use Rattle.snl_kept.proofs.Members.{entries_count}
use Rattle.snl_kept.proofs.ways.whole.relink.relinked.Goals as goal

pub overflow_sub-back : goal.overflow_sub-back
overflow_sub-back c =
    let old = c.args.editing.now.edit.now.old.now in
    omega (arith, c.len.ensures, ap length c.requires.editing.lists.entries, entries_count old, c.requires.editing.changes.items.order)

pub link_after-requires-clause-order : goal.link_after-requires-clause-order
link_after-requires-clause-order c =
    let old = c.args.editing.now.edit.now.old.now in
    omega (arith, c.len.ensures, ap length c.requires.editing.lists.entries, entries_count old, c.requires.editing.changes.items.order)

pub link_after-requires-clause-inside : goal.link_after-requires-clause-inside
link_after-requires-clause-inside c =
    let old = c.args.editing.now.edit.now.old.now in
    let outlines : (t : List ℕ) → outlines_kept (entries_of t) ≡ outlines_in t =
    kept_outlines c.outcome_told.ensures.tree c.same_spelling_same_tree.ensures.by_spelling c.same_spelling_same_summary.ensures.summary_by_spelling c.same_spelling_same_summary.ensures.bytes_by_spelling in
    let many = length-map (entries_of old) (λ e. e.summary.outline) in
    let told = ap length (outlines old) in
    let linked = ap (λ l. length l.outlines) c.requires.editing.lists.links in
    omega (arith, c.len.ensures, ap length c.requires.editing.lists.entries, many, told, linked)

pub returns : goal.returns
returns c =
    let old = c.args.editing.now.edit.now.old.now in
    let text = c.args.editing.now.edit.now.text.now in
    let items = c.args.editing.now.changes.now.items in
    let front = items.kept_front in
    let back = c.len.result - items.kept_back in
    let made = c.args.made.now in
    let links = c.args.editing.now.lists.now.links in
    let before : links ≡ links_in old = c.requires.editing.lists.links in
    let tree = c.outcome_told.ensures.tree in
    let spelling = c.same_spelling_same_tree.ensures.by_spelling in
    let summary = c.same_spelling_same_summary.ensures.summary_by_spelling in
    let bytes = c.same_spelling_same_summary.ensures.bytes_by_spelling in
    let outlines : (t : List ℕ) → outlines_kept (entries_of t) ≡ outlines_in t = kept_outlines tree spelling summary bytes in
    let kinds : (t : List ℕ) → kinds_kept (entries_of t) ≡ (links_in t).kinds = kept_kinds tree spelling summary bytes in
    let values = ap length c.requires.editing.lists.entries in
    let end : length (entries_of old) - items.kept_back ≡ back = ap (λ (n : ℕ). n - items.kept_back) (sym (c.len.ensures ∙ values)) in
    let all : entries_of text ≡ take front (entries_of old) ++ (made ++ drop back (entries_of old)) =
    c.requires.made ∙ ap (λ (n : ℕ). take front (entries_of old) ++ (made ++ drop n (entries_of old))) end in
    let given : map (λ (s : Bor Summary). s.now) c.deref.result.now ≡ map (λ e. e.summary) made = ap (map (λ (s : Bor Summary). s.now)) c.deref.ensures.value ∙ c.in_ok-summaries.ensures in
    let os : map (λ (s : Bor Summary). s.now.outline) c.deref.result.now ≡ outlines_kept made =
    sym (map-map (λ s. s.outline) (λ (s : Bor Summary). s.now) c.deref.result.now) ∙ ap (map (λ s. s.outline)) given ∙ map-map (λ s. s.outline) (λ e. e.summary) made in
    let ks : map (λ (s : Bor Summary). s.now.kind) c.deref.result.now ≡ kinds_kept made =
    sym (map-map (λ s. s.kind) (λ (s : Bor Summary). s.now) c.deref.result.now) ∙ ap (map (λ s. s.kind)) given ∙ map-map (λ s. s.kind) (λ e. e.summary) made in
    let told : take front links.outlines ++ (map (λ (s : Bor Summary). s.now.outline) c.deref.result.now ++ drop back links.outlines) ≡ outlines_in text =
    ap₂ (λ a b. take front a ++ (b ++ drop back a)) (ap (λ l. l.outlines) before ∙ sym (outlines old)) os
    ∙ sym (mapped_parts (λ e. e.summary.outline) front back made (entries_of old)) ∙ sym (ap outlines_kept all) ∙ outlines text in
    let told-2 : take front links.kinds ++ (map (λ (s : Bor Summary). s.now.kind) c.deref.result.now ++ drop back links.kinds) ≡ (links_in text).kinds =
    ap₂ (λ a b. take front a ++ (b ++ drop back a)) (ap (λ l. l.kinds) before ∙ sym (kinds old)) ks
    ∙ sym (mapped_parts (λ e. e.summary.kind) front back made (entries_of old)) ∙ sym (ap kinds_kept all) ∙ kinds text in
    let new : LinkedItems = record {
      outlines = take front links.outlines ++ (map (λ (s : Bor Summary). s.now.outline) c.deref.result.now ++ drop back links.outlines);
      kinds = take front links.kinds ++ (map (λ (s : Bor Summary). s.now.kind) c.deref.result.now ++ drop back links.kinds);
    } in
    let same : new ≡ links_in text = λ j. record { outlines = told j; kinds = told-2 j } in
    IfOk-weaker c.link_after.result (λ l. l ≡ new) (λ l. l ≡ links_in text) (λ l e. e ∙ same) c.link_after.ensures
