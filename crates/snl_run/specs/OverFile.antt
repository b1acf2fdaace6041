-- A run over the text that a file holds.
use Rattle.std.specs.Prelude.{◌≡◌, ℕ, ◌≤◌, ◌<◌, List, [], length, Bool, false, Option, Some, None, Result, Ok, Err, IfSome, ⊤}
use Rattle.std.specs.Io.KnownBytes.{Keeps}
use Rattle.snl_session.specs.Edit.{limit}
use Rattle.snl_run.specs.declared.faults.RunFault.{RunFault}
use Rattle.snl_run.specs.declared.faults.Status.{Status}
use Rattle.snl_run.specs.declared.faults.Status.TheVariants.{Clean, Errors}
use Rattle.snl_run.specs.declared.over_file.Fault.{Fault}
use Rattle.snl_run.specs.declared.over_file.Fault.TheVariants.{Source, Run}
use Rattle.snl_script.specs.declared.file.SourceFault.{SourceFault}
use Rattle.snl_script.specs.declared.file.SourceFault.TheVariants.{TooLarge}
use Rattle.snl_run.specs.Run.{Ran, is_read_fault, is_write_fault}
use Rattle.snl_run.specs.Version.{first_version}

-- The bytes that a file has left, where they are known; `None` where there is no file.
abbrev pub Held : Type 0
Held = Option (Option (List ℕ))

-- The source is all the bytes of the file; without a file it is the empty text.
abbrev pub IsSource : Held → (source : List ℕ) → Type 0
IsSource None source = source ≡ []
IsSource (Some bytes) source = IfSome bytes (λ all. source ≡ all)

-- A file gives no source: it is too large only where it has more bytes than a text may have.
abbrev pub NoSource : Held → SourceFault → Type 0
NoSource None fault = ⊥
NoSource (Some bytes) TooLarge = IfSome bytes (λ all. limit < length all)
NoSource (Some bytes) _ = ⊤

-- A run that ended so, over the source of the file.
pub record RanFrom (end : Result Status RunFault) (file : Held) (before left old new : Option (List ℕ)) : Type 0 where
  pub source : List ℕ
  pub is_source : IsSource file source
  pub fits : length source ≤ limit
  pub ran : Ran end before left old new (first_version source)

-- What is known by the end: of the run; or why the file gives no source, and that nothing was read
-- or written then.
abbrev pub RanOver : Result Status Fault → Held → (before left old new : Option (List ℕ)) → Type 0
RanOver (Ok status) file before left old new = RanFrom (Ok status) file before left old new
RanOver (Err (Run fault)) file before left old new = RanFrom (Err fault) file before left old new
RanOver (Err (Source fault)) file before left old new = NoSource file fault × Keeps before left × Keeps old new

-- The script can't be read.
abbrev pub is_unread : Result Status Fault → Bool
is_unread (Err (Run fault)) = is_read_fault (Err fault)
is_unread _ = false

-- The answers can't be written.
abbrev pub is_unwritten : Result Status Fault → Bool
is_unwritten (Err (Run fault)) = is_write_fault (Err fault)
is_unwritten _ = false

-- The status of the program: whether the last text has errors, or 2 at a fault.
abbrev pub code_of : {E : Type 0} → Result Status E → ℕ
code_of (Ok Clean) = 0
code_of (Ok Errors) = 1
code_of (Err fault) = 2
