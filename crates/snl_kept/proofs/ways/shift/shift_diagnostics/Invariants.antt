use Rattle.std.proofs.Common.{◌≡◌, ◌++◌, drop, map, take}
use Rattle.snl_kept.specs.Shifted.{shifted_diagnostic}
use Rattle.snl_kept.proofs.ways.shift.shift_diagnostics.Given as goal

abbrev pub invariant-loop-diagnostic : goal.invariant-loop-diagnostic
invariant-loop-diagnostic l = l.found ≡ map (shifted_diagnostic l.shift) (take l.diagnostic-index l.fn.found) ++ drop l.diagnostic-index l.fn.found
