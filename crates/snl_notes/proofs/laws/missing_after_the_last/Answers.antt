use Rattle.std.proofs.Common.{take}
use Rattle.snl_notes.proofs.Shortened.{cut_short}
use Rattle.snl_notes.proofs.laws.missing_after_the_last.Goals as goal

pub returns : goal.returns
returns c kinds at fault f is = cut_short kinds at fault is f (c.what_comes_is_viable.ensures (take at kinds) fault)
