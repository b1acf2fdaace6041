use Rattle.std.proofs.Common.{arith, ◌≡◌, ◌<◌, List, length, slice_get, Some, option_map, refl, ap, sym, ◌∙◌}
use Rattle.std.specs.List.{slice_set}
use Rattle.std.proofs.lemmas.List.{length-map, length-set}
use Rattle.std.proofs.lemmas.Option.{slice_get-map, slice_get_within}
use Rattle.snl_summary.specs.declared.summary.ItemKind.{ItemKind}
use Rattle.snl_scope.specs.Linked.{faults_of}
use Rattle.snl_scope.specs.LinkedItems.{LinkedItems}
use Rattle.snl_kept.specs.declared.entries.Entry.{Entry}
use Rattle.snl_kept.specs.Entries.{entries_of}
use Rattle.snl_kept.specs.ItemPlan.{kinds_kept}
use Rattle.snl_kept.proofs.InsideMade.{kept_kinds, kept_outlines}
use Rattle.snl_facts.specs.Lists.{put_back}
use Rattle.snl_kept.proofs.Replaced.{replaced_parts}
use Rattle.snl_kept.proofs.ways.one_item.own_links.own_links.Goals as goal

pub returns-then-is_same_kind : goal.returns-then-is_same_kind
returns-then-is_same_kind c =
    let text = c.args.text.now in
    let i = c.args.item in
    let kept = kept_kinds c.outcome_told.ensures.tree c.same_spelling_same_tree.ensures.by_spelling c.same_spelling_same_summary.ensures.summary_by_spelling c.same_spelling_same_summary.ensures.bytes_by_spelling text in
    let before = c.args.lists.now.links in
    let kinds : before.kinds ≡ kinds_kept (entries_of text) = ap (λ (l : LinkedItems). l.kinds) c.requires.lists.links ∙ sym kept in
    let at : slice_get before.kinds i ≡ Some c.args.made.now.summary.kind =
    ap (λ (ks : List ItemKind). slice_get ks i) kinds
    ∙ slice_get-map (λ (e : Entry). e.summary.kind) (entries_of text) i
    ∙ ap (option_map (λ (e : Entry). e.summary.kind)) c.requires.was.entry
    ∙ ap Some (sym (c.is_same_kind.ensures c.if-is_same_kind.true)) in
    record { outlines = refl; kinds = put_back before.kinds i c.args.made.now.summary.kind at; found = tt; same = refl }

pub kinds_if_same-requires : goal.kinds_if_same-requires
kinds_if_same-requires c =
    let text = c.args.text.now in
    let kept = kept_outlines c.outcome_told.ensures.tree c.same_spelling_same_tree.ensures.by_spelling c.same_spelling_same_summary.ensures.summary_by_spelling c.same_spelling_same_summary.ensures.bytes_by_spelling text in
    let es : List Entry = c.args.lists.now.entries.values in
    ap length c.in_ok-kinds.ensures
    ∙ length-set (kinds_kept es) c.args.item c.args.made.now.summary.kind
    ∙ length-map es (λ (e : Entry). e.summary.kind)
    ∙ ap length c.requires.lists.entries
    ∙ sym (length-map (entries_of text) (λ (e : Entry). e.summary.outline))
    ∙ ap length kept
    ∙ sym (ap (λ (l : LinkedItems). length l.outlines) c.requires.lists.links)

pub returns-in-Some : goal.returns-in-Some
returns-in-Some c =
    let text = c.args.text.now in
    let i = c.args.item in
    let kind : ItemKind = c.args.made.now.summary.kind in
    let kept = kept_kinds c.outcome_told.ensures.tree c.same_spelling_same_tree.ensures.by_spelling c.same_spelling_same_summary.ensures.summary_by_spelling c.same_spelling_same_summary.ensures.bytes_by_spelling text in
    let before = c.args.lists.now.links in
    let es : List Entry = c.args.lists.now.entries.values in
    let kinds_are : kinds_kept es ≡ before.kinds = ap kinds_kept c.requires.lists.entries ∙ kept ∙ sym (ap (λ (l : LinkedItems). l.kinds) c.requires.lists.links) in
    let there = slice_get_within (entries_of text) i c.args.was.entry.now c.requires.was.entry in
    let within : i < length before.kinds = omega (arith, there, ap length c.requires.lists.entries, length-map es (λ (e : Entry). e.summary.kind), ap length kinds_are) in
    let new = c.in-Some.new in
    let kinds = rw c.in-Some.is at c.in_ok-new.ensures.kinds in
    let faults = rw c.in-Some.is at c.in_ok-new.ensures.faults in
    let same = rw c.in-Some.is at c.in_ok-new.ensures.same in
    let found : new.faults.items ≡ (let l : LinkedItems = record { outlines = before.outlines; kinds = new.kinds.items } in faults_of l) =
    faults ∙ ap (λ (ks : List ItemKind). let l : LinkedItems = record { outlines = before.outlines; kinds = ks } in faults_of l) (sym kinds) in
    record {
      outlines = refl;
      kinds = kinds
          ∙ c.in_ok-kinds.ensures
          ∙ ap (λ (ks : List ItemKind). slice_set ks i kind) kinds_are
          ∙ replaced_parts before.kinds i kind within;
      found = found;
      same = sym found ∙ same;
    }
