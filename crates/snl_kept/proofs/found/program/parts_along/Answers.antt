use Rattle.std.proofs.Common.{◌≡◌, ◌+◌, ◌-◌, ◌<◌, ◌++◌, ◌∷◌, [], length, map, take, drop, get_or, ap, sym, subst, ◌∙◌, append_assoc, Bor}
use Rattle.std.specs.List.{All}
use Rattle.std.proofs.lemmas.List.{map-append, drop_more}
use Rattle.std.proofs.lemmas.List.Elements.{All-push}
use Rattle.snl_cut.specs.Cut.{members}
use Rattle.snl_lex.specs.PieceList.{spelled}
use Rattle.snl_kept.specs.declared.entries.Entry.{Entry}
use Rattle.snl_kept.specs.declared.found.program.Part.{Part}
use Rattle.snl_kept.specs.Entries.{entry_by}
use Rattle.snl_kept.specs.Parts.{EndsWithin, IsPart, item_of_part, tokens_between}
use Rattle.snl_kept.specs.Program.{program_item}
use Rattle.snl_kept.proofs.Members.{spelled_between}
use Rattle.snl_kept.proofs.Parts.{is_part, part_item, same_first, some_left}
use Rattle.snl_kept.proofs.found.program.parts_along.Goals as goal
use Rattle.snl_facts.specs.Lists.{drop_here}

pub loop-number-preserved : goal.loop-number-preserved
loop-number-preserved c =
    let text = c.args.text.now in
    let tokens = c.args.tokens.now in
    let ends = c.args.ends.now in
    let entries = c.args.entries.now in
    let i = c.loop-number.number in
    let start = c.loop-number.start in
    let stop = get_or ends i 0 in
    let done = c.loop-number.parts.items in
    let kept = c.index-entries-number.result in
    let entry = c.get-entry.result in
    let spellings = spelled text tokens in
    let own = tokens_between tokens start stop in
    let part : Part = record { start = start; stop = stop; entry = entry } in
    let after = map (program_item text) (members tokens stop (drop (i + 1) ends)) in
    let here : drop i ends ≡ stop ∷ drop (i + 1) ends = drop_more ends i 0 c.loop-number-test.true in
    let left : EndsWithin start (stop ∷ drop (i + 1) ends) (length tokens) = subst (λ l. EndsWithin start l (length tokens)) here c.loop-number.invariant.ends in
    let told : map (λ (e : Bor Entry). e.now) (drop i entries) ≡ entry_by (take (stop - start) (drop start spellings)) ∷ map entry_by (members spellings stop (drop (i + 1) ends)) =
    c.loop-number.invariant.entries ∙ ap (λ l. map entry_by (members spellings start l)) here in
    let within : i < length entries = some_left (λ (e : Bor Entry). e.now) entries i _ _ told in
    let first : drop i entries ≡ kept ∷ drop (i + 1) entries = drop_here entries i kept within c.index-entries-number.is in
    let both = same_first kept.now (entry_by (take (stop - start) (drop start spellings))) (map (λ (e : Bor Entry). e.now) (drop (i + 1) entries)) (map entry_by (members spellings stop (drop (i + 1) ends))) (sym (ap (map (λ (e : Bor Entry). e.now)) first) ∙ told) in
    let is : entry.now ≡ entry_by (spelled text own) = c.get-entry.ensures ∙ both.0 ∙ ap entry_by (spelled_between text tokens start stop) in
    let spelling = c.same_spelling_same_tree.ensures.by_spelling text own in
    let summary = c.same_spelling_same_summary.ensures.summary_by_spelling text own in
    record {
      ends = left.2;
      entries = both.1;
      parts =
          ap (λ l. map (item_of_part tokens) l ++ after) c.in_ok-push.ensures.items
          ∙ ap (λ l. l ++ after) (map-append (item_of_part tokens) done (part ∷ []))
          ∙ append_assoc (map (item_of_part tokens) done) (item_of_part tokens part ∷ []) after
          ∙ ap (λ x. map (item_of_part tokens) done ++ x ∷ after) (part_item text tokens part left.0 left.1 is spelling summary (c.outcome_told.ensures.tree text own))
          ∙ sym (ap (λ l. map (item_of_part tokens) done ++ map (program_item text) (members tokens start l)) here)
          ∙ c.loop-number.invariant.parts;
      inside = subst (All (IsPart text tokens)) (sym c.in_ok-push.ensures.items) (All-push (IsPart text tokens) done part c.loop-number.invariant.inside (is_part text tokens part left.0 left.1 is spelling summary));
    }
