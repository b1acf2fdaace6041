use Rattle.std.proofs.Common.{◌≡◌, ℕ, ◌-◌, List, length, ap, arith, length-drop}
use Rattle.snl_items.specs.Items.{item_ends, marks_of}
use Rattle.snl_items.proofs.EndPlaces.{dropped_within, ends_above}
use Rattle.snl_items.proofs.item_list.change_ends.Goals as goal

pub overflow_cast-tokens : goal.overflow_cast-tokens
overflow_cast-tokens c =
    let edit = c.args.edit.now in
    omega (arith, c.requires.tokens.of_marks.old_inside, c.few_tokens.ensures edit.old.now, edit.short.0)

pub overflow_cast-tokens-2 : goal.overflow_cast-tokens-2
overflow_cast-tokens-2 c =
    let edit = c.args.edit.now in
    omega (arith, c.requires.tokens.of_marks.new_inside, c.few_tokens.ensures edit.text.now, edit.short.1)

pub replace_and_shift-requires-clause-after : goal.replace_and_shift-requires-clause-after
replace_and_shift-requires-clause-after c =
    let old : List ℕ = c.args.edit.now.old.now in
    let ends : List ℕ = item_ends old in
    let many : c.len.result ≡ length ends = omega (arith, c.len.ensures, c.args.ends.now.ok, ap length c.requires.ends) in
    rw (many, c.requires.ends) (λ i lt. omega (arith, c.requires.items.after, ends_above 0 ends (length ends - c.args.items.now.kept_back) i (c.ends_in_order.ensures.rise (marks_of old)) lt))

pub replace_and_shift-requires-clause-fits : goal.replace_and_shift-requires-clause-fits
replace_and_shift-requires-clause-fits c =
    let edit = c.args.edit.now in
    let old : List ℕ = edit.old.now in
    let ends : List ℕ = item_ends old in
    let is = c.requires.tokens.of_marks in
    let many : c.len.result ≡ length ends = omega (arith, c.len.ensures, c.args.ends.now.ok, ap length c.requires.ends) in
    let rest = ap length is.after in
    rw (many, c.requires.ends) (λ i lt.
    omega (
      arith,
      dropped_within ends (length (marks_of old)) (length ends - c.args.items.now.kept_back) i (c.ends_in_order.ensures.within (marks_of old)) lt,
      rest,
      length-drop c.args.tokens.now.edit.old_stop (marks_of old),
      length-drop c.args.tokens.now.edit.new_stop (marks_of edit.text.now),
      is.old_inside,
      is.new_inside,
      c.few_tokens.ensures edit.text.now,
      edit.short.1,
    ))
