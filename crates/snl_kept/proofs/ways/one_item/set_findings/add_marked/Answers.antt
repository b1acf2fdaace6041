use Rattle.std.proofs.Common.{arith, ◌≡◌, ◌<◌, ◌≤◌, ◌++◌, List, length, slice_get, Some, unwrap_or, refl, ap, ap₂, sym, ◌∙◌, append_assoc}
use Rattle.std.specs.List.{flat_map}
use Rattle.std.proofs.lemmas.Option.{slice_get_read}
use Rattle.snl_tables.specs.declared.rows.Span.{Span}
use Rattle.snl_tables.specs.declared.rows.StateMark.{StateMark}
use Rattle.snl_tables.specs.Shifted.{shifted_state}
use Rattle.snl_kept.specs.declared.found.findings.Finding.{Finding}
use Rattle.snl_kept.specs.OwnRows.{named_at}
use Rattle.snl_kept.specs.Tables.{found_at_name, found_at_state}
use Rattle.snl_kept.proofs.MarkedRows.{all_found, found_more}
use Rattle.snl_kept.proofs.ways.one_item.set_findings.add_marked.Goals as goal

pub loop-number-preserved : goal.loop-number-preserved
loop-number-preserved c =
    let rows = c.args.states.now in
    let marks = c.args.marks.now in
    let s = c.args.shift in
    let own = c.args.own in
    let n = c.loop-number.number in
    let row = c.index-states-number.result in
    let lt : n < length rows = omega (arith, c.loop-number-test.true) in
    let at : slice_get rows n ≡ Some row = slice_get_read rows (length rows) n row refl lt c.index-states-number.is in
    c.in_ok-add_at_name.ensures
    ∙ ap₂ (λ (m : StateMark) (name : Span). c.loop-number.found.items ++ found_at_name m name) c.mark_after.ensures c.name_after-name.ensures
    ∙ ap (λ (l : List Finding). l ++ found_at_name (unwrap_or (slice_get marks n) row.mark) (named_at own n (shifted_state s row)).name) c.loop-number.invariant
    ∙ append_assoc c.args.found.now.items _ _
    ∙ ap (λ (l : List Finding). c.args.found.now.items ++ l) (sym (found_more own marks s rows n row at))

pub returns : goal.returns
returns c =
    let rows = c.args.states.now in
    let all : length rows ≤ c.loop-number.number = omega (arith, c.loop-number-test.false) in
    c.loop-number.invariant ∙ ap (λ l. c.args.found.now.items ++ flat_map found_at_state l) (all_found c.args.own c.args.marks.now c.args.shift rows c.loop-number.number all)
