-- Steps of a run.
use Rattle.std.proofs.Common.{◌≡◌, ◌≢◌, ℕ, ◌+◌, ◌-◌, ◌^◌, ◌≤◌, Bool, List, [], ◌∷◌, ◌++◌, length, drop, Option, Some, None, Result, Ok, Err, refl, sym, ap, ◌∙◌, subst, append_assoc, arith, inl, inr, length-append, length-drop}
use Rattle.std.specs.Io.KnownBytes.{Appends, IsAtEnd, Keeps}
use Rattle.std.proofs.KnownBytes.{Appends-nil, Appends-trans, Consumes-nil, Consumes-trans}
use Rattle.std.proofs.lemmas.List.{append-nil}
use Rattle.snl_turns.specs.Turns.{Turn, HeaderAlone, Body}
use Rattle.snl_frame.specs.Frame.{AtFront, NoMessage, Unfinished, at_front}
use Rattle.snl_frame.specs.Front.{grown}
use Rattle.snl_script.specs.declared.ahead.ReadFault.{ReadFault}
use Rattle.snl_script.specs.declared.ahead.ReadFault.TheVariants as reading
use Rattle.snl_script.specs.Ahead.{Gains}
use Rattle.snl_script.specs.Said.{AppendsPart}
use Rattle.snl_script.specs.SaidLaws.{Appends-same, AppendsPart-after, AppendsPart-same}
use Rattle.snl_turns.specs.declared.faults.Ending.{Ending}
use Rattle.snl_turns.specs.declared.faults.Ending.TheVariants.{Abrupt}
use Rattle.snl_turns.specs.declared.faults.Fault.{Fault}
use Rattle.snl_turns.specs.declared.faults.Fault.TheVariants.{Read, Write, Header, Cut, Memory, TooManyReads}
use Rattle.snl_turns.specs.Faults.{fault_of_read}
use Rattle.snl_turns.specs.Front.{IsWhole}
use Rattle.snl_talk.specs.Run.{IsMalformed, Ran, Told, ToldPart, Unanswered, ending_of, most_kept}
use Rattle.snl_turns.specs.Begins.{Begins, HoldsNone, front_with}
use Rattle.snl_talk.specs.Talks.{Talk, after, ended_of}
use Rattle.snl_talk.specs.Transcript.{AreHeard, GoesOn, reply, served_after, transcript}

-- ---- messages, one after another

-- what is told of the front of some bytes stays told, whatever follows: the law of snl_frame
abbrev pub Stays : Type 0
Stays = (bytes more : List ℕ) → at_front bytes ≢ Unfinished → at_front (bytes ++ more) ≡ grown (at_front bytes) more

finished : (turn : Turn) (left : List ℕ) → front_with turn left ≢ Unfinished
finished HeaderAlone left = λ e. cc
finished (Body body) left = λ e. cc

grown_with : (turn : Turn) (left more : List ℕ) → grown (front_with turn left) more ≡ front_with turn (left ++ more)
grown_with HeaderAlone left more = refl
grown_with (Body body) left more = refl

message_stays : Stays → (bytes more left : List ℕ) (turn : Turn) → at_front bytes ≡ front_with turn left → at_front (bytes ++ more) ≡ front_with turn (left ++ more)
message_stays stays bytes more left turn e =
    stays bytes more (λ u. finished turn left (sym e ∙ u)) ∙ ap (λ (f : AtFront). grown f more) e ∙ grown_with turn left more

pub Begins-grows : Stays → (bytes more : List ℕ) (turns : List Turn) (rest : List ℕ) → Begins bytes turns rest → Begins (bytes ++ more) turns (rest ++ more)
Begins-grows stays bytes more [] rest h = ap (λ l. l ++ more) h
Begins-grows stays bytes more (t ∷ ts) rest h = (h.0 ++ more, message_stays stays bytes more h.0 t h.1, Begins-grows stays h.0 more ts rest h.2)

pub Begins-on : (bytes : List ℕ) (turns : List Turn) (rest left : List ℕ) (turn : Turn) → Begins bytes turns rest → at_front rest ≡ front_with turn left → Begins bytes (turns ++ turn ∷ []) left
Begins-on bytes [] rest left turn h e = (left, ap at_front (sym h) ∙ e, refl)
Begins-on bytes (t ∷ ts) rest left turn h e = (h.0, h.1, Begins-on h.0 ts rest left turn h.2 e)

pub transcript-on : {S : Type 0} (talk : Talk S) → (first : S) (turns : List Turn) (turn : Turn) → transcript talk first (turns ++ turn ∷ []) ≡ transcript talk first turns ++ reply talk (served_after talk first turns) turn
transcript-on talk first [] turn = append-nil _
transcript-on talk first (t ∷ ts) turn =
    ap (λ l. reply talk first t ++ l) (transcript-on talk (after talk first t) ts turn) ∙ sym (append_assoc (reply talk first t) (transcript talk (after talk first t) ts) _)

pub served_after-on : {S : Type 0} (talk : Talk S) → (first : S) (turns : List Turn) (turn : Turn) → served_after talk first (turns ++ turn ∷ []) ≡ after talk (served_after talk first turns) turn
served_after-on talk first [] turn = refl
served_after-on talk first (t ∷ ts) turn = served_after-on talk (after talk first t) ts turn

pub AreHeard-on : {S : Type 0} (talk : Talk S) → (first : S) (turns : List Turn) (turn : Turn) → AreHeard talk first turns → GoesOn talk (served_after talk first turns) → AreHeard talk first (turns ++ turn ∷ [])
AreHeard-on talk first [] turn h g = (g, tt)
AreHeard-on talk first (t ∷ ts) turn h g = (h.0, AreHeard-on talk (after talk first t) ts turn h.1 g)

-- ---- how far a run came

-- the rest is what is ahead, what is served in the end is what the documents are, and each read
-- gave a byte at least
abbrev pub At : {S : Type 0} → (ahead : List ℕ) (served : S) (calls : ℕ) → (read rest : List ℕ) (last : S) → Type 0
At ahead served calls read rest last = (rest ≡ ahead) × (last ≡ served) × (calls ≤ length read)

pub Told-start : {S : Type 0} (talk : Talk S) → (input out : Option (List ℕ)) (first : S) (ahead : List ℕ) (calls : ℕ) → ahead ≡ [] → calls ≡ 0 → Told talk input input out out first (At ahead first calls)
Told-start talk input out first ahead calls e none = record {
  read = [];
  turns = [];
  rest = [];
  is_read = Consumes-nil input;
  begins = refl;
  few = omega arith;
  heard = tt;
  written = Appends-nil out;
  ends = (sym e, refl, omega arith);
}

pub Told-ends : {S : Type 0} (talk : Talk S) → (before left old new : Option (List ℕ)) (first : S) (P Q : (read rest : List ℕ) (last : S) → Type 0) → Told talk before left old new first P → ((read rest : List ℕ) (last : S) → P read rest last → Q read rest last) → Told talk before left old new first Q
Told-ends talk before left old new first P Q t f = record {
  read = t.read;
  turns = t.turns;
  rest = t.rest;
  is_read = t.is_read;
  begins = t.begins;
  few = t.few;
  heard = t.heard;
  written = t.written;
  ends = f t.read t.rest (served_after talk first t.turns) t.ends;
}

-- bytes came
pub Told-gains : {S : Type 0} (talk : Talk S) → Stays → (before mid left old new : Option (List ℕ)) (first : S) (ahead next : List ℕ) (served : S) (calls more : ℕ) → Told talk before mid old new first (At ahead served calls) → Gains ahead next mid left → more + length ahead ≤ calls + length next → length next ≤ most_kept → Told talk before left old new first (At next served more)
Told-gains talk stays before mid left old new first ahead next served calls more t g some kept =
    let read_size : length (t.read ++ g.gained) ≡ length t.read + length g.gained = length-append t.read g.gained in
    let rest_size : length (t.rest ++ g.gained) ≡ length t.rest + length g.gained = length-append t.rest g.gained in
    let next_size : length next ≡ length ahead + length g.gained = ap length g.there ∙ length-append ahead g.gained in
    let same : length t.rest ≡ length ahead = ap length t.ends.0 in
    let each = t.ends.2 in
    record {
      read = t.read ++ g.gained;
      turns = t.turns;
      rest = t.rest ++ g.gained;
      is_read = Consumes-trans before mid left t.read g.gained t.is_read g.given;
      begins = Begins-grows stays t.read g.gained t.turns t.rest t.begins;
      few = omega arith;
      heard = t.heard;
      written = t.written;
      ends = (ap (λ l. l ++ g.gained) t.ends.0 ∙ sym g.there, t.ends.1, omega arith);
    }

-- no bytes came
pub Told-still : {S : Type 0} (talk : Talk S) → Stays → (before mid left old new : Option (List ℕ)) (first : S) (ahead next : List ℕ) (served : S) (calls : ℕ) → Told talk before mid old new first (At ahead served calls) → Gains ahead next mid left → next ≡ ahead → Told talk before left old new first (At next served calls)
Told-still talk stays before mid left old new first ahead next served calls t g same =
    let size : length next ≡ length ahead = ap length same in
    let rest_size : length t.rest ≡ length ahead = ap length t.ends.0 in
    Told-gains talk stays before mid left old new first ahead next served calls calls t g (omega arith) (omega (arith, t.few))

-- the message that is whole at the front
whole-front : (bytes : List ℕ) (turn : Turn) (len : ℕ) → IsWhole bytes turn len → at_front bytes ≡ front_with turn (drop len bytes)
whole-front bytes turn len w = ap at_front (sym (append-nil bytes)) ∙ w.next [] ∙ ap (front_with turn) (append-nil (drop len bytes))

-- a message was answered
pub Told-on : {S : Type 0} (talk : Talk S) → (before left old mid new : Option (List ℕ)) (first : S) (ahead next bytes : List ℕ) (served last : S) (calls len : ℕ) (turn : Turn) → Told talk before left old mid first (At ahead served calls) → GoesOn talk served → bytes ≡ ahead → IsWhole bytes turn len → next ≡ drop len ahead → last ≡ after talk served turn → Appends mid new (reply talk served turn) → Told talk before left old new first (At next last calls)
Told-on {S = S} talk before left old mid new first ahead next bytes served last calls len turn t going is whole next_is last_is written =
    let here : at_front t.rest ≡ front_with turn next = ap at_front (t.ends.0 ∙ sym is) ∙ whole-front bytes turn len whole ∙ ap (λ (l : List ℕ). front_with turn l) (ap (drop len) is ∙ sym next_is) in
    let served_is : served_after talk first t.turns ≡ served = t.ends.1 in
    let after_size : length next ≡ length ahead - len = ap length next_is ∙ length-drop len ahead in
    let same : length t.rest ≡ length ahead = ap length t.ends.0 in
    record {
      read = t.read;
      turns = t.turns ++ turn ∷ [];
      rest = next;
      is_read = t.is_read;
      begins = Begins-on t.read t.turns t.rest next turn t.begins here;
      few = omega (arith, t.few);
      heard = AreHeard-on talk first t.turns turn t.heard (subst (GoesOn talk) (sym served_is) going);
      written = Appends-same old new _ _ (ap (λ (x : S). transcript talk first t.turns ++ reply talk x turn) (sym served_is) ∙ sym (transcript-on talk first t.turns turn)) (Appends-trans old mid new _ _ t.written written);
      ends = (refl, served_after-on talk first t.turns turn ∙ ap (λ (x : S). after talk x turn) served_is ∙ sym last_is, t.ends.2);
    }

-- a part of the answer to a message was written
pub ToldPart-on : {S : Type 0} (talk : Talk S) → (before left old mid new : Option (List ℕ)) (first : S) (ahead bytes : List ℕ) (served : S) (calls len : ℕ) (turn : Turn) → Told talk before left old mid first (At ahead served calls) → GoesOn talk served → bytes ≡ ahead → IsWhole bytes turn len → AppendsPart mid new (reply talk served turn) → ToldPart talk before left old new first
ToldPart-on {S = S} talk before left old mid new first ahead bytes served calls len turn t going is whole written =
    let here : at_front t.rest ≡ front_with turn (drop len bytes) = ap at_front (t.ends.0 ∙ sym is) ∙ whole-front bytes turn len whole in
    let served_is : served_after talk first t.turns ≡ served = t.ends.1 in
    let size : length bytes ≡ length t.rest = ap length (is ∙ sym t.ends.0) in
    record {
      read = t.read;
      turns = t.turns ++ turn ∷ [];
      rest = drop len bytes;
      is_read = t.is_read;
      begins = Begins-on t.read t.turns t.rest (drop len bytes) turn t.begins here;
      few = omega (arith, t.few, length-drop len bytes);
      heard = AreHeard-on talk first t.turns turn t.heard (subst (GoesOn talk) (sym served_is) going);
      written = AppendsPart-same old new _ _ (ap (λ (x : S). transcript talk first t.turns ++ reply talk x turn) (sym served_is) ∙ sym (transcript-on talk first t.turns turn)) (AppendsPart-after old mid new _ _ t.written written);
    }

-- nothing more was written
Appends-kept : (old mid new : Option (List ℕ)) (bytes : List ℕ) → Appends old mid bytes → Keeps mid new → Appends old new bytes
Appends-kept None mid new bytes h k = tt
Appends-kept (Some x) None new bytes h k = absurd h
Appends-kept (Some x) (Some y) None bytes h k = absurd k
Appends-kept (Some x) (Some y) (Some z) bytes h k = k ∙ h

Told-kept : {S : Type 0} (talk : Talk S) → (before left old mid new : Option (List ℕ)) (first : S) (P : (read rest : List ℕ) (last : S) → Type 0) → Told talk before left old mid first P → Keeps mid new → Told talk before left old new first P
Told-kept talk before left old mid new first P t kept = record {
  read = t.read;
  turns = t.turns;
  rest = t.rest;
  is_read = t.is_read;
  begins = t.begins;
  few = t.few;
  heard = t.heard;
  written = Appends-kept old mid new (transcript talk first t.turns) t.written kept;
  ends = t.ends;
}

-- ---- the ends of a run

none-malformed : (bytes : List ℕ) → ((more : List ℕ) → at_front (bytes ++ more) ≡ NoMessage) → HoldsNone bytes
none-malformed bytes h = λ turn left e. not_there turn left (ap at_front (sym (append-nil bytes)) ∙ h []) e
  where
    not_there : (turn : Turn) (left : List ℕ) → at_front bytes ≡ NoMessage → at_front bytes ≡ front_with turn left → ⊥
    not_there HeaderAlone left u e = cc
    not_there (Body body) left u e = cc

none-unfinished : (bytes : List ℕ) → at_front bytes ≡ Unfinished → HoldsNone bytes
none-unfinished bytes h = λ turn left e. finished turn left (sym e ∙ h)

malformed-always : (bytes : List ℕ) (left : Option (List ℕ)) → ((more : List ℕ) → at_front (bytes ++ more) ≡ NoMessage) → IsMalformed bytes left
malformed-always bytes None h = tt
malformed-always bytes (Some more) h = h more

-- `exit` came
pub Ran-exit : {S : Type 0} (talk : Talk S) → (ending : Ending) (clean : Bool) (before left old new : Option (List ℕ)) (first : S) (ahead : List ℕ) (served : S) (calls : ℕ) → ending ≡ ending_of clean → ended_of talk served ≡ Some clean → Told talk before left old new first (At ahead served calls) → Ran talk (Ok ending) before left old new first
Ran-exit talk ending clean before left old new first ahead served calls is exited t =
    Told-ends talk before left old new first (At ahead served calls) _ t (λ read rest last a. inl (record { clean = clean; exited = ap (ended_of talk) a.1 ∙ exited; ending_is = is }))

-- a message was not answered, or not all of its answer was written
pub Ran-unanswered : {S : Type 0} (talk : Talk S) → (fault : Fault) (result : Result Ending Fault) (before left old mid new : Option (List ℕ)) (first : S) (ahead bytes : List ℕ) (served : S) (calls len : ℕ) (turn : Turn) → result ≡ Err fault → Told talk before left old mid first (At ahead served calls) → GoesOn talk served → bytes ≡ ahead → IsWhole bytes turn len → Unanswered talk fault served turn mid new → Ran talk result before left old new first
Ran-unanswered talk Write result before left old mid new first ahead bytes served calls len turn is t going same whole a = rw is (ToldPart-on talk before left old mid new first ahead bytes served calls len turn t going same whole a)
Ran-unanswered talk Memory result before left old mid new first ahead bytes served calls len turn is t going same whole a =
    rw is (Told-kept talk before left old mid new first _ (Told-ends talk before left old mid first (At ahead served calls) (λ read rest last. GoesOn talk last) t (λ read rest last b. subst (GoesOn talk) (sym b.1) going)) a)
Ran-unanswered talk Read result before left old mid new first ahead bytes served calls len turn is t going same whole a = absurd a
Ran-unanswered talk Header result before left old mid new first ahead bytes served calls len turn is t going same whole a = absurd a
Ran-unanswered talk Cut result before left old mid new first ahead bytes served calls len turn is t going same whole a = absurd a
Ran-unanswered talk TooManyReads result before left old mid new first ahead bytes served calls len turn is t going same whole a = absurd a

-- no message can be ahead
pub Ran-malformed : {S : Type 0} (talk : Talk S) → (before left old new : Option (List ℕ)) (first : S) (ahead bytes : List ℕ) (served : S) (calls : ℕ) → Told talk before left old new first (At ahead served calls) → GoesOn talk served → bytes ≡ ahead → ((more : List ℕ) → at_front (bytes ++ more) ≡ NoMessage) → Ran talk (Err Header) before left old new first
Ran-malformed talk before left old new first ahead bytes served calls t going is h =
    Told-ends talk before left old new first (At ahead served calls) _ t (λ read rest last a.
    let same : bytes ≡ rest = is ∙ sym a.0 in
    let unknown : (more : List ℕ) → at_front (rest ++ more) ≡ NoMessage = subst (λ (l : List ℕ). (more : List ℕ) → at_front (l ++ more) ≡ NoMessage) same h in
    (subst (GoesOn talk) (sym a.1) going, none-malformed rest unknown, malformed-always rest left unknown))

-- the input has no more bytes
pub Ran-end : {S : Type 0} (talk : Talk S) → (result : Result Ending Fault) (before left old new : Option (List ℕ)) (first : S) (ahead : List ℕ) (served : S) (calls : ℕ) → Told talk before left old new first (At ahead served calls) → GoesOn talk served → IsAtEnd left → at_front ahead ≡ Unfinished → (ahead ≡ [] → result ≡ Ok Abrupt) → (ahead ≢ [] → result ≡ Err Cut) → Ran talk result before left old new first
Ran-end talk result before left old new first [] served calls t going e short ok err =
    rw (ok refl) (Told-ends talk before left old new first (At [] served calls) _ t (λ read rest last a. inr (record { going = subst (GoesOn talk) (sym a.1) going; nothing = a.0; at_end = e; ending_is = refl })))
Ran-end talk result before left old new first (b ∷ bytes) served calls t going e short ok err =
    rw (err (λ x. cc)) (Told-ends talk before left old new first (At (b ∷ bytes) served calls) _ t (λ read rest last a.
    (subst (GoesOn talk) (sym a.1) going, subst HoldsNone (sym a.0) (none-unfinished (b ∷ bytes) short), (λ none. let some : [] ≡ b ∷ bytes = sym none ∙ a.0 in cc), e)))

-- no more bytes can be read
pub Ran-read : {S : Type 0} (talk : Talk S) → (fault : ReadFault) (result : Result Ending Fault) (before left old new : Option (List ℕ)) (first : S) (ahead : List ℕ) (served : S) (calls : ℕ) → result ≡ Err (fault_of_read fault) → Told talk before left old new first (At ahead served calls) → GoesOn talk served → at_front ahead ≡ Unfinished → (fault ≡ reading.TooManyTurns → 2 ^ 40 ≤ calls) → Ran talk result before left old new first
Ran-read talk reading.Read result before left old new first ahead served calls is t going short many = rw is (Told-ends talk before left old new first (At ahead served calls) _ t (λ read rest last a. (subst (GoesOn talk) (sym a.1) going, subst HoldsNone (sym a.0) (none-unfinished ahead short))))
Ran-read talk reading.Memory result before left old new first ahead served calls is t going short many = rw is (Told-ends talk before left old new first (At ahead served calls) _ t (λ read rest last a. subst (GoesOn talk) (sym a.1) going))
Ran-read talk reading.TooManyTurns result before left old new first ahead served calls is t going short many =
    let lots : 2 ^ 40 ≤ calls = many refl in
    rw is (Told-ends talk before left old new first (At ahead served calls) _ t (λ read rest last a. (subst (GoesOn talk) (sym a.1) going, subst HoldsNone (sym a.0) (none-unfinished ahead short), omega (arith, a.2))))
