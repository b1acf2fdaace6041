use Rattle.std.proofs.Common.{◌≡◌, length, count_by, arith, ap, ◌∙◌}
use Rattle.snl_lex.specs.Lines.{is_marker}
use Rattle.snl_lex.specs.PieceList.{piece_ends}
use Rattle.snl_lex.proofs.Changes.{back_above, back_under, edit_lengths, new_ends, new_kinds}
use Rattle.snl_lex.proofs.piece_list.PieceList.commit.Goals as goal

pub replace_and_shift-requires-clause-after : goal.replace_and_shift-requires-clause-after
replace_and_shift-requires-clause-after c =
    let many : c.len.result ≡ length (piece_ends c.args.edit.now.old.now) = omega (arith, c.len.ensures, c.args.self.now.ends.ok, ap length c.requires.ends) in
    rw (many, c.requires.ends) (back_above _ _ c.requires.change)

pub replace_and_shift-requires-clause-fits : goal.replace_and_shift-requires-clause-fits
replace_and_shift-requires-clause-fits c = λ i lt.
    let e = c.args.edit.now in
    let many : c.len.result ≡ length (piece_ends e.old.now) = omega (arith, c.len.ensures, c.args.self.now.ends.ok, ap length c.requires.ends) in
    let under = back_under _ _ c.requires.change i (rw (many, c.requires.ends) at lt) in
    rw (many, c.requires.ends) (omega (arith, under, edit_lengths e.old.now e.text.now e.start e.old_stop e.new_stop e.edit, e.edit.old_inside, e.edit.new_inside, e.short.0, e.short.1))

pub returns-clause-ends : goal.returns-clause-ends
returns-clause-ends c =
    let many : c.len.result ≡ length (piece_ends c.args.edit.now.old.now) = omega (arith, c.len.ensures, c.args.self.now.ends.ok, ap length c.requires.ends) in
    rw (c.replace_and_shift.ensures, c.deref.ensures.value, many, c.requires.ends) (new_ends _ _ c.requires.change)

pub returns-clause-kinds : goal.returns-clause-kinds
returns-clause-kinds c =
    let many : c.len.result ≡ length (piece_ends c.args.edit.now.old.now) = omega (arith, c.len.ensures, c.args.self.now.ends.ok, ap length c.requires.ends) in
    rw (c.replace_kinds-self.ensures.kinds, c.deref-2.ensures.value, many, c.requires.kinds) (new_kinds _ _ c.requires.change)

pub returns-clause-markers : goal.returns-clause-markers
returns-clause-markers c = c.replace_kinds-self.ensures.markers ∙ ap (count_by is_marker) (returns-clause-kinds c)
