-- What a run has read and written where it ended.
use Rattle.std.specs.Prelude.{◌≡◌, ◌≢◌, ℕ, ◌+◌, ◌*◌, ◌^◌, ◌≤◌, ◌⊎◌, List, [], length, Bool, true, false, Option, Some, Result, Ok, Err, IfSome}
use Rattle.std.specs.Io.KnownBytes.{Appends, Consumes, IsAtEnd, Keeps, prepend_known}
use Rattle.snl_turns.specs.Turns.{Turn}
use Rattle.snl_frame.specs.Frame.{NoMessage, at_front, longest_body, longest_line, most_lines}
use Rattle.snl_script.specs.Said.{AppendsPart}
use Rattle.snl_turns.specs.declared.faults.Ending.{Ending}
use Rattle.snl_turns.specs.declared.faults.Ending.TheVariants.{Clean, Abrupt}
use Rattle.snl_turns.specs.declared.faults.Fault.{Fault}
use Rattle.snl_turns.specs.declared.faults.Fault.TheVariants.{Read, Write, Header, Cut, Memory, TooManyReads}
use Rattle.snl_turns.specs.Begins.{Begins, HoldsNone}
use Rattle.snl_talk.specs.Talks.{Talk, after, ended_of}
use Rattle.snl_talk.specs.Transcript.{AreHeard, GoesOn, reply, served_after, transcript}

-- What was read and not answered is at most a message that is begun and the bytes of one read.
abbrev pub most_kept : ℕ
most_kept = most_lines * (longest_line + 1) + longest_body + 4096

-- The bytes that were read are some messages and a rest, and the transcript of these messages was
-- written. `Ends` is what else is known, of what is served in the end too.
pub record Told {S : Type 0} (talk : Talk S) (before left old new : Option (List ℕ)) (first : S)
    (Ends : (read rest : List ℕ) (last : S) → Type 0) : Type 0 where
  pub read : List ℕ
  pub turns : List Turn
  pub rest : List ℕ
  pub is_read : Consumes before left read
  pub begins : Begins read turns rest
  pub few : length rest ≤ most_kept
  pub heard : AreHeard talk first turns
  pub written : Appends old new (transcript talk first turns)
  pub ends : Ends read rest (served_after talk first turns)

-- The bytes that were read are some messages and a rest, and a front of the transcript of these
-- messages was written.
pub record ToldPart {S : Type 0} (talk : Talk S) (before left old new : Option (List ℕ))
    (first : S) : Type 0 where
  pub read : List ℕ
  pub turns : List Turn
  pub rest : List ℕ
  pub is_read : Consumes before left read
  pub begins : Begins read turns rest
  pub few : length rest ≤ most_kept
  pub heard : AreHeard talk first turns
  pub written : AppendsPart old new (transcript talk first turns)

-- No message can follow, whatever is left to be read.
abbrev pub IsMalformed : (rest : List ℕ) → (left : Option (List ℕ)) → Type 0
IsMalformed rest left = IfSome (prepend_known rest left) (λ bytes. at_front bytes ≡ NoMessage)

-- How it ended where `exit` came, by whether it came after `shutdown`.
abbrev pub ending_of : (clean : Bool) → Ending
ending_of true = Clean
ending_of false = Abrupt

-- `exit` came with the last message.
pub record HasExited {S : Type 0} (talk : Talk S) (ending : Ending) (last : S) : Type 0 where
  pub clean : Bool
  pub exited : ended_of talk last ≡ Some clean
  pub ending_is : ending ≡ ending_of clean

-- The input ended after whole messages, of which none was `exit`.
pub record HasRunOut {S : Type 0} (talk : Talk S) (ending : Ending) (rest : List ℕ)
    (left : Option (List ℕ))
    (last : S) : Type 0 where
  pub going : GoesOn talk last
  pub nothing : rest ≡ []
  pub at_end : IsAtEnd left
  pub ending_is : ending ≡ Abrupt

-- What is known of a run by its end: what is left of the input, and what the writer holds. `exit`
-- came, or the input ended. At a fault of a header, of the input's end within a message, of reading
-- and of too many reads, the messages are all that are whole among the bytes read. Where memory
-- was wanting, each message was answered whole or not at all. At a fault of writing a front of the
-- transcript was written.
abbrev pub Ran : {S : Type 0} → Talk S → Result Ending Fault →
    (before left old new : Option (List ℕ)) → (first : S) → Type 0
Ran talk (Ok ending) before left old new first =
    Told talk before left old new first
    (λ read rest last. HasExited talk ending last ⊎ HasRunOut talk ending rest left last)
Ran talk (Err Header) before left old new first =
    Told talk before left old new first
    (λ read rest last. GoesOn talk last × HoldsNone rest × IsMalformed rest left)
Ran talk (Err Cut) before left old new first =
    Told talk before left old new first
    (λ read rest last. GoesOn talk last × HoldsNone rest × (rest ≢ []) × IsAtEnd left)
Ran talk (Err Read) before left old new first =
    Told talk before left old new first
    (λ read rest last. GoesOn talk last × HoldsNone rest)
Ran talk (Err TooManyReads) before left old new first =
    Told talk before left old new first
    (λ read rest last. GoesOn talk last × HoldsNone rest × (2 ^ 40 ≤ length read))
Ran talk (Err Memory) before left old new first =
    Told talk before left old new first
    (λ read rest last. GoesOn talk last)
Ran talk (Err Write) before left old new first = ToldPart talk before left old new first

abbrev pub is_read_fault : {T : Type 0} → Result T Fault → Bool
is_read_fault (Err Read) = true
is_read_fault _ = false

abbrev pub is_write_fault : {T : Type 0} → Result T Fault → Bool
is_write_fault (Err Write) = true
is_write_fault _ = false

-- Why a message was not answered: the writer failed and holds a front of the answer, or memory was
-- wanting and nothing was written.
abbrev pub Unanswered : {S : Type 0} → Talk S → Fault → (served : S) → Turn →
    (old new : Option (List ℕ)) → Type 0
Unanswered talk Write served turn old new = AppendsPart old new (reply talk served turn)
Unanswered talk Memory served turn old new = Keeps old new
Unanswered talk _ served turn old new = ⊥

-- A message was answered: what is served is what is so after it, and its answer was written.
abbrev pub Answered : {T S : Type 0} → Talk S → Result T Fault → (served next : S) → Turn →
    (old new : Option (List ℕ)) → Type 0
Answered talk (Ok x) served next turn old new =
    (next ≡ after talk served turn) × Appends old new (reply talk served turn)
Answered talk (Err fault) served next turn old new = Unanswered talk fault served turn old new
