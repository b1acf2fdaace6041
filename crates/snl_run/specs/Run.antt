-- What a run has read and written where it ended.
use Rattle.std.specs.Prelude.{◌≡◌, ℕ, ◌+◌, ◌≤◌, ◌<◌, List, [], length, Bool, true, false, Option, None, Result, Ok, Err, IfSome, ⊤}
use Rattle.std.specs.Bool.{OnTrue}
use Rattle.std.specs.Io.KnownBytes.{Appends, Consumes, IsAtEnd, Keeps, prepend_known}
use Rattle.snl_session.specs.declared.edits.Refused.{Refused}
use Rattle.snl_session.specs.declared.edits.Refused.TheVariants as refused
use Rattle.snl_session.specs.Edit.{limit, refusal_of}
use Rattle.snl_run.specs.declared.faults.RunFault.{RunFault}
use Rattle.snl_run.specs.declared.faults.RunFault.TheVariants.{Read, Write, Script, Memory, TooManyTurns, Source}
use Rattle.snl_run.specs.declared.faults.Status.{Status}
use Rattle.snl_script.specs.Said.{AppendsPart, Written}
use Rattle.snl_script.specs.Script.{Request, Unknown, next_of}
use Rattle.snl_run.specs.Transcript.{Begins, HoldsNone, IsFair, MayStarve, Turn, after, edited, refused_for, reply, status_of, transcript, version_after}
use Rattle.snl_run.specs.Version.{Version, next_version}

-- The rest of what was read is at most a command that is begun and the bytes of one read: so much
-- of a script that goes nowhere is kept.
abbrev pub most_kept : ℕ
most_kept = 80 + 1 + 2097152 + 4096

-- The bytes that were read are some commands and a rest, and the transcript of these commands was
-- written, from this first version on.
pub record Told (before left old new : Option (List ℕ)) (first : Version) (Ends : (read rest : List ℕ) (last : Version) → Type 0) : Type 0 where
  pub read : List ℕ
  pub turns : List Turn
  pub rest : List ℕ
  pub is_read : Consumes before left read
  pub begins : Begins read turns rest
  pub few : length rest ≤ most_kept
  pub fair : IsFair first turns
  pub written : Appends old new (transcript first turns)
  pub ends : Ends read rest (version_after first turns)

-- The bytes that were read are some commands and a rest, and a front of the transcript of these
-- commands was written.
pub record ToldPart (before left old new : Option (List ℕ)) (first : Version) : Type 0 where
  pub read : List ℕ
  pub turns : List Turn
  pub rest : List ℕ
  pub is_read : Consumes before left read
  pub begins : Begins read turns rest
  pub few : length rest ≤ most_kept
  pub fair : IsFair first turns
  pub written : AppendsPart old new (transcript first turns)

-- The script neither ends after these bytes nor has a well-formed command there, whatever is left
-- of it.
abbrev pub IsMalformed : (rest : List ℕ) → (left : Option (List ℕ)) → Type 0
IsMalformed rest left = IfSome (prepend_known rest left) (λ bytes. next_of bytes ≡ Unknown)

-- What is known of a run from a version on, by its end: what is left of the script, and what the
-- writer holds. the script is whole commands and nothing else, and the status is that of the last
-- text; at a fault of the script, of reading, of memory and of too many reads, the commands are all
-- that are whole among the bytes read; at a fault of writing a front of the transcript was written,
-- and where the source is too large, nothing was read or written.
abbrev pub Ran : Result Status RunFault → (before left old new : Option (List ℕ)) → (first : Version) → Type 0
Ran (Ok status) before left old new first = Told before left old new first (λ read rest last. (rest ≡ []) × IsAtEnd left × (status ≡ status_of last.text))
Ran (Err (Script at)) before left old new first = Told before left old new first (λ read rest last. (at + length rest ≡ length read) × HoldsNone rest × IsMalformed rest left)
Ran (Err Read) before left old new first = Told before left old new first (λ read rest last. HoldsNone rest)
Ran (Err Memory) before left old new first = Told before left old new first (λ read rest last. HoldsNone rest)
Ran (Err TooManyTurns) before left old new first = Told before left old new first (λ read rest last. HoldsNone rest × (16777216 ≤ length read))
Ran (Err Write) before left old new first = ToldPart before left old new first
Ran (Err Source) before left old new first = Keeps before left × Keeps old new × (limit < length first.text)

abbrev pub is_read_fault : Result Status RunFault → Bool
is_read_fault (Err Read) = true
is_read_fault _ = false

abbrev pub is_write_fault : Result Status RunFault → Bool
is_write_fault (Err Write) = true
is_write_fault _ = false

-- A command was carried out on a version, and its answer written as far as the writer took it.
pub record Answered {T E : Type 0} (result : Result T E) (version next : Version) (request : Request) (old new : Option (List ℕ)) : Type 0 where
  pub starved : Bool
  pub fair : OnTrue starved (MayStarve version.text request)
  pub next_is : next ≡ after version request starved
  pub written : Written result old new (reply version request starved)

-- An edit was made, or refused and nothing changed.
pub record IsEdited (old new : Version) (start stop : ℕ) (added : List ℕ) (refused : Option Refused) : Type 0 where
  pub starved : Bool
  pub fair : OnTrue starved (refusal_of old.text start stop (length added) ≡ None)
  pub refused_is : refused ≡ refused_for old.text start stop added starved
  pub version_is : new ≡ edited refused old (next_version old.text start stop added)

-- Why a run cannot begin whose source was refused.
abbrev pub start_fault : Refused → RunFault
start_fault refused.Memory = Memory
start_fault _ = Source

-- A session over a source cannot begin for want of memory, or as the source is too large.
abbrev pub NoStart : List ℕ → RunFault → Type 0
NoStart source Source = limit < length source
NoStart source Memory = ⊤
NoStart source Read = ⊥
NoStart source Write = ⊥
NoStart source (Script at) = ⊥
NoStart source TooManyTurns = ⊥
