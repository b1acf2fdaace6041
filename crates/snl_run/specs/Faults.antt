-- The faults of a run.
use Rattle.snl_script.specs.declared.ahead.ReadFault.{ReadFault}
use Rattle.snl_script.specs.declared.ahead.ReadFault.TheVariants as reading
use Rattle.snl_run.specs.declared.faults.RunFault.{RunFault}
use Rattle.snl_run.specs.declared.faults.RunFault.TheVariants.{Read, Memory, TooManyTurns}

-- The fault of a run whose script could not be read on.
abbrev pub fault_of_read : ReadFault → RunFault
fault_of_read reading.Read = Read
fault_of_read reading.Memory = Memory
fault_of_read reading.TooManyTurns = TooManyTurns
