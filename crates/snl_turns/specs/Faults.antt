-- The ends of a run.
use Rattle.std.specs.Prelude.{ℕ, Result, Ok, Err}
use Rattle.snl_script.specs.declared.ahead.ReadFault.{ReadFault}
use Rattle.snl_script.specs.declared.ahead.ReadFault.TheVariants as reading
use Rattle.snl_turns.specs.declared.faults.Ending.{Ending}
use Rattle.snl_turns.specs.declared.faults.Ending.TheVariants.{Clean, Abrupt}
use Rattle.snl_turns.specs.declared.faults.Fault.{Fault}
use Rattle.snl_turns.specs.declared.faults.Fault.TheVariants.{Read, Memory, TooManyReads}

-- The fault of a run whose input could not be read on.
abbrev pub fault_of_read : ReadFault → Fault
fault_of_read reading.Read = Read
fault_of_read reading.Memory = Memory
fault_of_read reading.TooManyTurns = TooManyReads

-- The status of the program.
abbrev pub code_of : Result Ending Fault → ℕ
code_of (Ok Clean) = 0
code_of (Ok Abrupt) = 1
code_of (Err fault) = 2
