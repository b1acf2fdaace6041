use Rattle.std.proofs.Common.{length, sym, ap}
use Rattle.snl_lex.specs.Edit.{edit_of}
use Rattle.snl_kept.proofs.kept.Kept.edit_by_shift.Goals as goal

pub shift-requires-clause-shifted : goal.shift-requires-clause-shifted
shift-requires-clause-shifted c =
    c.edit_shifts_all.ensures (edit_of c.args.edit.now) c.args.shift c.requires.shift

pub returns-clause-cost : goal.returns-clause-cost
returns-clause-cost c =
    let is = c.requires.shift in
    let shifted = c.edit_shifts_all.ensures (edit_of c.args.edit.now) c.args.shift is in
    record { lexed = c.requires.lexed; parsed = sym (ap length is.tokens.none_fresh); checked = sym shifted.none_stirred }
