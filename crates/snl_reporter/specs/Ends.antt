-- How a run ends.
use Rattle.std.specs.Prelude.{ℕ, Result, Ok, Err}
use Rattle.snl_report.specs.declared.report.ReportFault.{ReportFault}
use Rattle.snl_report.specs.declared.report.ReportFault.TheVariants as reporting
use Rattle.snl_script.specs.declared.ahead.ReadFault.{ReadFault}
use Rattle.snl_script.specs.declared.ahead.ReadFault.TheVariants as reading
use Rattle.snl_reporter.specs.declared.faults.Fault.{Fault}
use Rattle.snl_reporter.specs.declared.faults.Fault.TheVariants.{Memory, Read, TooManyReads, Write}
use Rattle.snl_reporter.specs.declared.faults.Status.{Status}
use Rattle.snl_reporter.specs.declared.faults.Status.TheVariants.{Clean, Errors}

abbrev pub fault_of_read : ReadFault → Fault
fault_of_read reading.Read = Read
fault_of_read reading.Memory = Memory
fault_of_read reading.TooManyTurns = TooManyReads

abbrev pub fault_of_report : ReportFault → Fault
fault_of_report reporting.Memory = Memory
fault_of_report reporting.Write = Write

-- The status of two texts.
abbrev pub worse : Status → Status → Status
worse Clean second = second
worse Errors second = Errors

-- The status that tells how a run ended.
abbrev pub code_of : Result Status Fault → ℕ
code_of (Ok Clean) = 0
code_of (Ok Errors) = 1
code_of (Err fault) = 2
