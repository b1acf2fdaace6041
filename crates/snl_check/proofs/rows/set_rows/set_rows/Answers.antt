use Rattle.std.proofs.Common.{◌≡◌, ℕ, List, [], ◌∷◌, ◌++◌, length, map, sym, ap, ◌∙◌, arith}
use Rattle.snl_scope.specs.Below.{all_below}
use Rattle.snl_scope.specs.Places.{is_set_begin}
use Rattle.snl_tables.specs.declared.rows.SetRow.{SetRow}
use Rattle.snl_check.specs.Collected.{items_in}
use Rattle.snl_check.specs.States.{set_row}
use Rattle.snl_check.proofs.KnownSets.{next_known, no_more, one_more}
use Rattle.snl_check.proofs.Linked.{counted}
use Rattle.snl_check.proofs.rows.set_rows.set_rows.Goals as goal
use Rattle.snl_check.proofs.rows.set_rows.set_rows.Goals.{then-begins_set+in_ok-known_or_made+in_ok-push, else-begins_set}

pub known_or_made-requires-clause-known : goal.known_or_made-requires-clause-known
known_or_made-requires-clause-known c =
    let row_source = c.args.state_source.now.row_source in
    let ss = row_source.links.now.outlines in
    let make : ℕ → SetRow = set_row row_source.program.text.now (items_in row_source.program) ss in
    let count : length row_source.program.trees.now ≡ length ss = counted row_source.program ss c.requires.state_source.linked.row_source.program c.requires.state_source.linked.outlines in
    next_known (is_set_begin ss) make c.args.known.now c.loop-item.item (length ss) c.len.result c.get-known.result
    (omega (arith, c.loop-item-test.true, count)) (sym c.begins_set.ensures ∙ c.if-begins_set.true) c.requires.known
    (omega (arith, c.len.ensures, c.loop-item.rows.ok.0, ap length c.loop-item.invariant)) c.get-known.ensures.lookup.0 c.get-known.ensures.lookup.1

pub loop-item-preserved : goal.loop-item-preserved
loop-item-preserved c =
    let row_source = c.args.state_source.now.row_source in
    let ss = row_source.links.now.outlines in
    let make : ℕ → SetRow = set_row row_source.program.text.now (items_in row_source.program) ss in
    elim c.if-begins_set.branch [
      | then-begins_set+in_ok-known_or_made+in_ok-push w ↦
          ap (λ v. v.items) w.rows-is
          ∙ w.in_ok-push.ensures.items
          ∙ ap (λ (l : List SetRow). l ++ w.in_ok-known_or_made.field-0 ∷ []) c.loop-item.invariant
          ∙ ap (λ (row : SetRow). map make (all_below (is_set_begin ss) c.loop-item.item) ++ row ∷ []) w.in_ok-known_or_made.ensures
          ∙ one_more (is_set_begin ss) make c.loop-item.item (sym c.begins_set.ensures ∙ w.if-begins_set.true)
      | else-begins_set w ↦
          ap (λ v. v.items) w.rows-is ∙ c.loop-item.invariant ∙ no_more (is_set_begin ss) make c.loop-item.item (sym c.begins_set.ensures ∙ w.if-begins_set.false)
    ]

pub returns : goal.returns
returns c =
    let row_source = c.args.state_source.now.row_source in
    let ss = row_source.links.now.outlines in
    let count : length row_source.program.trees.now ≡ length ss = counted row_source.program ss c.requires.state_source.linked.row_source.program c.requires.state_source.linked.outlines in
    let at_end : c.loop-item.item ≡ length ss = omega (arith, c.loop-item-test.false, c.loop-item.auto.item-end, count) in
    c.loop-item.invariant ∙ ap (λ n. map (set_row row_source.program.text.now (items_in row_source.program) ss) (all_below (is_set_begin ss) n)) at_end
