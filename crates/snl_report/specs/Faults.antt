-- Why a report broke off.
use Rattle.std.specs.Prelude.{Bool, true, false, Result, Ok, Err}
use Rattle.snl_report.specs.declared.report.ReportFault.{ReportFault}
use Rattle.snl_report.specs.declared.report.ReportFault.TheVariants.{Memory, Write}

-- The writer failed.
abbrev pub is_unwritten : {T : Type 0} → Result T ReportFault → Bool
is_unwritten (Ok x) = false
is_unwritten (Err Memory) = false
is_unwritten (Err Write) = true
