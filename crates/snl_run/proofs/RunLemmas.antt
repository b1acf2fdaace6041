-- Steps of a run.
use Rattle.std.proofs.Common.{◌≡◌, ◌≢◌, ℕ, ◌+◌, ◌-◌, ◌*◌, ◌≤◌, List, [], ◌∷◌, ◌++◌, length, drop, Bool, Option, Some, None, Result, Ok, Err, refl, sym, ap, ◌∙◌, subst, append_assoc, arith, length-append, length-drop}
use Rattle.std.specs.Bool.{OnTrue}
use Rattle.std.specs.Io.KnownBytes.{Appends, Consumes, IsAtEnd, Keeps}
use Rattle.std.proofs.lemmas.List.{append-nil}
use Rattle.snl_script.specs.declared.ahead.ReadFault.{ReadFault}
use Rattle.snl_script.specs.declared.ahead.ReadFault.TheVariants as reading
use Rattle.snl_run.specs.declared.faults.RunFault.{RunFault}
use Rattle.snl_run.specs.declared.faults.RunFault.TheVariants.{Read, Write, Script, Memory, TooManyTurns, Source}
use Rattle.snl_run.specs.declared.faults.Status.{Status}
use Rattle.snl_script.specs.declared.script.Command.{Command}
use Rattle.snl_script.specs.Ahead.{Gains}
use Rattle.snl_run.specs.Faults.{fault_of_read}
use Rattle.snl_script.specs.Front.{IsWhole, request_of, unfinished}
use Rattle.snl_run.specs.Run.{IsMalformed, NoStart, Ran, Told, ToldPart, most_kept}
use Rattle.snl_script.specs.Said.{AppendsPart}
use Rattle.snl_script.specs.Script.{Request, Unknown, Then, next_of}
use Rattle.snl_run.specs.Transcript.{Begins, HoldsNone, IsFair, MayStarve, Turn, after, reply, status_of, transcript, version_after}
use Rattle.snl_run.specs.Version.{Version, first_version}
use Rattle.snl_script.specs.SaidLaws.{Appends-none, Appends-on, Appends-same, AppendsPart-after, AppendsPart-same}

-- ---- commands, one after another

-- a command that is whole is the first, whatever follows it: the law of snl_script
abbrev pub Stays : Type 0
Stays = (bytes more left : List ℕ) (request : Request) → next_of bytes ≡ Then request left → next_of (bytes ++ more) ≡ Then request (left ++ more)

pub Begins-grows : Stays → (bytes more : List ℕ) (turns : List Turn) (rest : List ℕ) → Begins bytes turns rest → Begins (bytes ++ more) turns (rest ++ more)
Begins-grows stays bytes more [] rest h = ap (λ l. l ++ more) h
Begins-grows stays bytes more (t ∷ ts) rest h = (h.0 ++ more, stays bytes more h.0 t.request h.1, Begins-grows stays h.0 more ts rest h.2)

pub Begins-on : (bytes : List ℕ) (turns : List Turn) (rest left : List ℕ) (turn : Turn) → Begins bytes turns rest → next_of rest ≡ Then turn.request left → Begins bytes (turns ++ turn ∷ []) left
Begins-on bytes [] rest left turn h e = (left, ap next_of (sym h) ∙ e, refl)
Begins-on bytes (t ∷ ts) rest left turn h e = (h.0, h.1, Begins-on h.0 ts rest left turn h.2 e)

pub transcript-on : (first : Version) (turns : List Turn) (turn : Turn) → transcript first (turns ++ turn ∷ []) ≡ transcript first turns ++ reply (version_after first turns) turn.request turn.starved
transcript-on first [] turn = append-nil _
transcript-on first (t ∷ ts) turn =
    ap (λ l. reply first t.request t.starved ++ l) (transcript-on (after first t.request t.starved) ts turn) ∙ sym (append_assoc (reply first t.request t.starved) (transcript (after first t.request t.starved) ts) _)

pub version_after-on : (first : Version) (turns : List Turn) (turn : Turn) → version_after first (turns ++ turn ∷ []) ≡ after (version_after first turns) turn.request turn.starved
version_after-on first [] turn = refl
version_after-on first (t ∷ ts) turn = version_after-on (after first t.request t.starved) ts turn

pub IsFair-on : (first : Version) (turns : List Turn) (turn : Turn) → IsFair first turns → OnTrue turn.starved (MayStarve (version_after first turns).text turn.request) → IsFair first (turns ++ turn ∷ [])
IsFair-on first [] turn h f = (f, tt)
IsFair-on first (t ∷ ts) turn h f = (h.0, IsFair-on (after first t.request t.starved) ts turn h.1 f)

-- ---- reading

Consumes-none : (a : Option (List ℕ)) → Consumes a a []
Consumes-none None = tt
Consumes-none (Some x) = refl

Consumes-on : (a b c : Option (List ℕ)) (xs ys : List ℕ) → Consumes a b xs → Consumes b c ys → Consumes a c (xs ++ ys)
Consumes-on None b c xs ys h k = tt
Consumes-on (Some x) None c xs ys h k = absurd h
Consumes-on (Some x) (Some y) None xs ys h k = absurd k
Consumes-on (Some x) (Some y) (Some z) xs ys h k = h ∙ ap (λ l. xs ++ l) k ∙ sym (append_assoc xs ys z)

Keeps-same : (a : Option (List ℕ)) → Keeps a a
Keeps-same None = tt
Keeps-same (Some x) = refl

-- ---- how far a run came

-- the rest is what is ahead, the last version the document's, and each read gave 1 to 4,096 bytes
abbrev pub At : (ahead : List ℕ) (version : Version) (offset calls : ℕ) → (read rest : List ℕ) (last : Version) → Type 0
At ahead version offset calls read rest last = (rest ≡ ahead) × (last ≡ version) × (offset + length rest ≡ length read) × (length read ≤ 4096 * calls) × (calls ≤ length read)

pub Told-start : (script out : Option (List ℕ)) (first : Version) (ahead : List ℕ) (calls : ℕ) → ahead ≡ [] → calls ≡ 0 → Told script script out out first (At ahead first 0 calls)
Told-start script out first ahead calls e none = record {
  read = [];
  turns = [];
  rest = [];
  is_read = Consumes-none script;
  begins = refl;
  few = omega arith;
  fair = tt;
  written = Appends-none out;
  ends = (sym e, refl, refl, omega arith, omega arith);
}

pub Told-ends : (before left old new : Option (List ℕ)) (first : Version) (P Q : (read rest : List ℕ) (last : Version) → Type 0) → Told before left old new first P → ((read rest : List ℕ) (last : Version) → P read rest last → Q read rest last) → Told before left old new first Q
Told-ends before left old new first P Q t f = record {
  read = t.read;
  turns = t.turns;
  rest = t.rest;
  is_read = t.is_read;
  begins = t.begins;
  few = t.few;
  fair = t.fair;
  written = t.written;
  ends = f t.read t.rest (version_after first t.turns) t.ends;
}

-- bytes came
pub Told-gains : Stays → (before mid left old new : Option (List ℕ)) (first : Version) (ahead next : List ℕ) (version : Version) (offset calls more : ℕ) → Told before mid old new first (At ahead version offset calls) → Gains ahead next mid left → calls ≤ more → length next ≤ length ahead + 4096 * (more - calls) → more + length ahead ≤ calls + length next → length next ≤ most_kept → Told before left old new first (At next version offset more)
Told-gains stays before mid left old new first ahead next version offset calls more t g rises few some kept =
    let read_size : length (t.read ++ g.gained) ≡ length t.read + length g.gained = length-append t.read g.gained in
    let rest_size : length (t.rest ++ g.gained) ≡ length t.rest + length g.gained = length-append t.rest g.gained in
    let next_size : length next ≡ length ahead + length g.gained = ap length g.there ∙ length-append ahead g.gained in
    let same : length t.rest ≡ length ahead = ap length t.ends.0 in
    let place = t.ends.2 in
    let bound = t.ends.3 in
    let each = t.ends.4 in
    record {
      read = t.read ++ g.gained;
      turns = t.turns;
      rest = t.rest ++ g.gained;
      is_read = Consumes-on before mid left t.read g.gained t.is_read g.given;
      begins = Begins-grows stays t.read g.gained t.turns t.rest t.begins;
      few = omega arith;
      fair = t.fair;
      written = t.written;
      ends = (ap (λ l. l ++ g.gained) t.ends.0 ∙ sym g.there, t.ends.1, omega arith, omega arith, omega arith);
    }

-- no bytes came
pub Told-still : Stays → (before mid left old new : Option (List ℕ)) (first : Version) (ahead next : List ℕ) (version : Version) (offset calls : ℕ) → Told before mid old new first (At ahead version offset calls) → Gains ahead next mid left → next ≡ ahead → Told before left old new first (At next version offset calls)
Told-still stays before mid left old new first ahead next version offset calls t g same =
    let size : length next ≡ length ahead = ap length same in
    let rest_size : length t.rest ≡ length ahead = ap length t.ends.0 in
    Told-gains stays before mid left old new first ahead next version offset calls calls t g (omega arith) (omega arith) (omega arith) (omega (arith, t.few))

-- the whole command at the front
whole-next : (bytes : List ℕ) (command : Command) (len : ℕ) → IsWhole bytes command len → next_of bytes ≡ Then (request_of command) (drop len bytes)
whole-next bytes command len w = ap next_of (sym (append-nil bytes)) ∙ w.next [] ∙ ap (Then (request_of command)) (append-nil (drop len bytes))

-- a command was carried out, and its answer written
pub Told-on : (before left old mid new : Option (List ℕ)) (first : Version) (ahead next bytes : List ℕ) (version last : Version) (offset calls len : ℕ) (command : Command) (starved : Bool) → Told before left old mid first (At ahead version offset calls) → bytes ≡ ahead → IsWhole bytes command len → next ≡ drop len ahead → OnTrue starved (MayStarve version.text (request_of command)) → last ≡ after version (request_of command) starved → Appends mid new (reply version (request_of command) starved) → Told before left old new first (At next last (offset + len) calls)
Told-on before left old mid new first ahead next bytes version last offset calls len command starved t is whole next_is fair last_is written =
    let turn : Turn = record { request = request_of command; starved = starved } in
    let here : next_of t.rest ≡ Then (request_of command) next = ap next_of (t.ends.0 ∙ sym is) ∙ whole-next bytes command len whole ∙ ap (λ (l : List ℕ). Then (request_of command) l) (ap (drop len) is ∙ sym next_is) in
    let version_is : version_after first t.turns ≡ version = t.ends.1 in
    let after_size : length next ≡ length ahead - len = ap length next_is ∙ length-drop len ahead in
    let same : length t.rest ≡ length ahead = ap length t.ends.0 in
    let size : length bytes ≡ length ahead = ap length is in
    let inside : len ≤ length bytes = whole.inside in
    let place = t.ends.2 in
    record {
      read = t.read;
      turns = t.turns ++ turn ∷ [];
      rest = next;
      is_read = t.is_read;
      begins = Begins-on t.read t.turns t.rest next turn t.begins here;
      few = omega (arith, t.few);
      fair = IsFair-on first t.turns turn t.fair (subst (λ (x : Version). OnTrue starved (MayStarve x.text (request_of command))) (sym version_is) fair);
      written = Appends-same old new _ _ (ap (λ (x : Version). transcript first t.turns ++ reply x (request_of command) starved) (sym version_is) ∙ sym (transcript-on first t.turns turn)) (Appends-on old mid new _ _ t.written written);
      ends = (refl, version_after-on first t.turns turn ∙ ap (λ (x : Version). after x (request_of command) starved) version_is ∙ sym last_is, omega arith, t.ends.3, t.ends.4);
    }

-- a command was carried out, and a part of its answer written
pub ToldPart-on : (before left old mid new : Option (List ℕ)) (first : Version) (ahead bytes : List ℕ) (version : Version) (offset calls len : ℕ) (command : Command) (starved : Bool) → Told before left old mid first (At ahead version offset calls) → bytes ≡ ahead → IsWhole bytes command len → OnTrue starved (MayStarve version.text (request_of command)) → AppendsPart mid new (reply version (request_of command) starved) → ToldPart before left old new first
ToldPart-on before left old mid new first ahead bytes version offset calls len command starved t is whole fair written =
    let turn : Turn = record { request = request_of command; starved = starved } in
    let here : next_of t.rest ≡ Then (request_of command) (drop len bytes) = ap next_of (t.ends.0 ∙ sym is) ∙ whole-next bytes command len whole in
    let version_is : version_after first t.turns ≡ version = t.ends.1 in
    let size : length bytes ≡ length t.rest = ap length (is ∙ sym t.ends.0) in
    record {
      read = t.read;
      turns = t.turns ++ turn ∷ [];
      rest = drop len bytes;
      is_read = t.is_read;
      begins = Begins-on t.read t.turns t.rest (drop len bytes) turn t.begins here;
      few = omega (arith, t.few, length-drop len bytes);
      fair = IsFair-on first t.turns turn t.fair (subst (λ (x : Version). OnTrue starved (MayStarve x.text (request_of command))) (sym version_is) fair);
      written = AppendsPart-same old new _ _ (ap (λ (x : Version). transcript first t.turns ++ reply x (request_of command) starved) (sym version_is) ∙ sym (transcript-on first t.turns turn)) (AppendsPart-after old mid new _ _ t.written written);
    }

-- ---- the ends of a run

none-malformed : (bytes : List ℕ) → ((more : List ℕ) → next_of (bytes ++ more) ≡ Unknown) → HoldsNone bytes
none-malformed bytes h = λ request left e. let u : next_of bytes ≡ Unknown = ap next_of (sym (append-nil bytes)) ∙ h [] in cc

none-unfinished : (bytes : List ℕ) → next_of bytes ≡ unfinished bytes → HoldsNone bytes
none-unfinished [] h = λ request left e. cc
none-unfinished (b ∷ bytes) h = λ request left e. cc

malformed-always : (bytes : List ℕ) (left : Option (List ℕ)) → ((more : List ℕ) → next_of (bytes ++ more) ≡ Unknown) → IsMalformed bytes left
malformed-always bytes None h = tt
malformed-always bytes (Some more) h = h more

-- no command can be ahead
pub Told-malformed : (before left old new : Option (List ℕ)) (first : Version) (ahead bytes : List ℕ) (version : Version) (offset calls : ℕ) → Told before left old new first (At ahead version offset calls) → bytes ≡ ahead → ((more : List ℕ) → next_of (bytes ++ more) ≡ Unknown) → Ran (Err (Script offset)) before left old new first
Told-malformed before left old new first ahead bytes version offset calls t is h =
    Told-ends before left old new first (At ahead version offset calls) _ t (λ read rest last a.
    let same : bytes ≡ rest = is ∙ sym a.0 in
    let unknown : (more : List ℕ) → next_of (rest ++ more) ≡ Unknown = subst (λ (l : List ℕ). (more : List ℕ) → next_of (l ++ more) ≡ Unknown) same h in
    (a.2, none-malformed rest unknown, malformed-always rest left unknown))

-- the reader has no more bytes, and what is ahead is no command
ends-malformed : (bytes : List ℕ) (left : Option (List ℕ)) → next_of bytes ≡ Unknown → IsAtEnd left → IsMalformed bytes left
ends-malformed bytes None h e = tt
ends-malformed bytes (Some more) h e = ap (λ (l : List ℕ). next_of (bytes ++ l)) e ∙ ap next_of (append-nil bytes) ∙ h

pub Ran-end : (result : Result Status RunFault) (before left old new : Option (List ℕ)) (first : Version) (ahead : List ℕ) (version : Version) (offset calls : ℕ) → Told before left old new first (At ahead version offset calls) → IsAtEnd left → next_of ahead ≡ unfinished ahead → (ahead ≡ [] → result ≡ Ok (status_of version.text)) → (ahead ≢ [] → result ≡ Err (Script offset)) → Ran result before left old new first
Ran-end result before left old new first [] version offset calls t e short ok err = rw (ok refl) (Told-ends before left old new first (At [] version offset calls) _ t (λ read rest last a. (a.0, e, ap (λ (v : Version). status_of v.text) (sym a.1))))
Ran-end result before left old new first (b ∷ bytes) version offset calls t e short ok err =
    rw (err (λ x. cc)) (Told-ends before left old new first (At (b ∷ bytes) version offset calls) _ t (λ read rest last a.
    let unknown : next_of rest ≡ Unknown = ap next_of a.0 ∙ short in
    (a.2, subst HoldsNone (sym a.0) (none-unfinished (b ∷ bytes) short), ends-malformed rest left unknown e)))

-- no more bytes can be read
pub Ran-read : (fault : ReadFault) (result : Result Status RunFault) (before left old new : Option (List ℕ)) (first : Version) (ahead : List ℕ) (version : Version) (offset calls : ℕ) → result ≡ Err (fault_of_read fault) → Told before left old new first (At ahead version offset calls) → next_of ahead ≡ unfinished ahead → (fault ≡ reading.TooManyTurns → 16777216 ≤ calls) → Ran result before left old new first
Ran-read reading.Read result before left old new first ahead version offset calls is t short many = rw is (Told-ends before left old new first (At ahead version offset calls) _ t (λ read rest last a. subst HoldsNone (sym a.0) (none-unfinished ahead short)))
Ran-read reading.Memory result before left old new first ahead version offset calls is t short many = rw is (Told-ends before left old new first (At ahead version offset calls) _ t (λ read rest last a. subst HoldsNone (sym a.0) (none-unfinished ahead short)))
Ran-read reading.TooManyTurns result before left old new first ahead version offset calls is t short many =
    let lots : 16777216 ≤ calls = many refl in
    rw is (Told-ends before left old new first (At ahead version offset calls) _ t (λ read rest last a. (subst HoldsNone (sym a.0) (none-unfinished ahead short), omega (arith, a.4))))

-- no session could begin
pub Ran-nothing : (fault : RunFault) (result : Result Status RunFault) (script out : Option (List ℕ)) (source : List ℕ) → result ≡ Err fault → NoStart source fault → Ran result script script out out (first_version source)
Ran-nothing Source result script out source is h = rw is (Keeps-same script, Keeps-same out, h)
Ran-nothing Memory result script out source is h = rw is (Told-ends script script out out (first_version source) (At [] (first_version source) 0 0) _ (Told-start script out (first_version source) [] 0 refl refl) (λ read rest last a. subst HoldsNone (sym a.0) (none-unfinished [] refl)))
Ran-nothing Read result script out source is h = absurd h
Ran-nothing Write result script out source is h = absurd h
Ran-nothing (Script at) result script out source is h = absurd h
Ran-nothing TooManyTurns result script out source is h = absurd h
