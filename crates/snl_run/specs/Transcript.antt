-- What is written for a script.
use Rattle.std.specs.Prelude.{◌≡◌, ◌≢◌, ℕ, ◌==◌, List, [], ◌∷◌, ◌++◌, length, Bool, Option, Some, None, ⊤, if◌then◌else◌}
use Rattle.std.specs.Bool.{OnTrue}
use Rattle.snl_session.specs.declared.edits.Refused.{Refused}
use Rattle.snl_session.specs.declared.edits.Refused.TheVariants.{Memory}
use Rattle.snl_kept.specs.Diagnostics.{errors_of}
use Rattle.snl_session.specs.Edit.{refusal_of}
use Rattle.snl_run.specs.declared.faults.Status.{Status}
use Rattle.snl_run.specs.declared.faults.Status.TheVariants.{Clean, Errors}
use Rattle.snl_run.specs.Answers.{edit_text, list_text, report_of, work_text}
use Rattle.snl_script.specs.Script.{Request, Checks, Lists, Works, Edits, Then, next_of}
use Rattle.snl_run.specs.Version.{Version, next_version}

-- A command, and whether it was refused for want of memory.
pub record Turn : Type 0 where
  pub request : Request
  pub starved : Bool

-- Another refusal goes before that for want of memory.
abbrev pub or_memory : Option Refused → (starved : Bool) → Option Refused
or_memory None starved = if starved then Some Memory else None
or_memory (Some refused) starved = Some refused

-- What an edit is refused for, if it is.
abbrev pub refused_for : (text : List ℕ) (start stop : ℕ) (new : List ℕ) (starved : Bool) → Option Refused
refused_for text start stop new starved = or_memory (refusal_of text start stop (length new)) starved

-- A refused edit leaves the version as it was.
abbrev pub edited : Option Refused → (old new : Version) → Version
edited None old new = new
edited (Some refused) old new = old

-- The answer to a command.
abbrev pub reply : Version → Request → (starved : Bool) → List ℕ
reply version Checks starved = report_of version.text
reply version Lists starved = list_text version.text starved
reply version Works starved = work_text version.work
reply version (Edits start stop new) starved = edit_text (refused_for version.text start stop new starved)

-- The version after a command: an accepted edit makes another, and nothing else does.
abbrev pub after : Version → Request → (starved : Bool) → Version
after version Checks starved = version
after version Lists starved = version
after version Works starved = version
after version (Edits start stop new) starved = edited (refused_for version.text start stop new starved) version (next_version version.text start stop new)

-- Memory can be wanting for an edit that nothing else refuses and for a listing, and never for
-- `check` and `work`.
abbrev pub MayStarve : (text : List ℕ) → Request → Type 0
MayStarve text Checks = ⊥
MayStarve text Lists = ⊤
MayStarve text Works = ⊥
MayStarve text (Edits start stop new) = refusal_of text start stop (length new) ≡ None

-- The commands that were refused for want of memory are such, and so are answered `refused memory`.
abbrev pub IsFair : Version → List Turn → Type 0
IsFair version [] = ⊤
IsFair version (t ∷ ts) = OnTrue t.starved (MayStarve version.text t.request) × IsFair (after version t.request t.starved) ts

-- The answers to commands, in order.
abbrev pub transcript : Version → List Turn → List ℕ
transcript version [] = []
transcript version (t ∷ ts) = reply version t.request t.starved ++ transcript (after version t.request t.starved) ts

-- The version after commands.
abbrev pub version_after : Version → List Turn → Version
version_after version [] = version
version_after version (t ∷ ts) = version_after (after version t.request t.starved) ts

-- The bytes are these commands, one after another, and then the rest.
abbrev pub Begins : (bytes : List ℕ) → List Turn → (rest : List ℕ) → Type 0
Begins bytes [] rest = rest ≡ bytes
Begins bytes (t ∷ ts) rest = (left : List ℕ) × (next_of bytes ≡ Then t.request left) × Begins left ts rest

-- No well-formed command is whole at the front of the bytes.
abbrev pub HoldsNone : List ℕ → Type 0
HoldsNone bytes = (request : Request) (left : List ℕ) → next_of bytes ≢ Then request left

-- The status of a text.
abbrev pub status_of : List ℕ → Status
status_of text = if errors_of text == 0 then Clean else Errors
