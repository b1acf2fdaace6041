-- Steps of a run, and its ends.
use Rattle.std.proofs.Common.{◌≡◌, ◌≢◌, ℕ, ◌+◌, ◌-◌, ◌^◌, List, [], ◌∷◌, ◌++◌, length, take, drop, min, Option, Some, None, Result, Ok, Err, refl, sym, ap, ◌∙◌, append_assoc, arith, length-append}
use Rattle.std.specs.Io.KnownBytes.{Appends, Consumes, IsAtEnd}
use Rattle.std.proofs.lemmas.List.{append-nil, take-append-drop}
use Rattle.snl_report.specs.declared.form.Style.{Style}
use Rattle.snl_script.specs.declared.ahead.ReadFault.{ReadFault}
use Rattle.snl_script.specs.declared.ahead.ReadFault.TheVariants as reading
use Rattle.snl_script.specs.Ahead.{Gains}
use Rattle.snl_script.specs.Said.{AppendsPart}
use Rattle.snl_script.specs.SaidLaws.{Appends-none, Appends-on, Appends-same, AppendsPart-after, AppendsPart-same}
use Rattle.snl_reporter.specs.declared.faults.Fault.{Fault}
use Rattle.snl_reporter.specs.declared.faults.Fault.TheVariants.{Cut, Heading, Memory, Read, TooManyReads, Usage, Write}
use Rattle.snl_reporter.specs.declared.faults.Status.{Status}
use Rattle.snl_reporter.specs.declared.faults.Status.TheVariants.{Clean}
use Rattle.snl_reporter.specs.declared.front.Front.TheVariants.{Malformed, Short, Whole}
use Rattle.snl_reporter.specs.Ends.{fault_of_read, worse}
use Rattle.snl_reporter.specs.Fronts.{front_of}
use Rattle.snl_reporter.specs.Requests.{Request, replies, reply, request_in, status_of, worst_of}
use Rattle.snl_reporter.specs.Runs.{IsReportFault, Ran, Told, ToldPart, number_after}
use Rattle.snl_reporter.proofs.RequestLemmas.{Begins-grows, Begins-on, replies-on, spelled_front, worst-on}

-- ---- reading

Consumes-none : (a : Option (List ℕ)) → Consumes a a []
Consumes-none None = tt
Consumes-none (Some x) = refl

Consumes-on : (a b c : Option (List ℕ)) (xs ys : List ℕ) → Consumes a b xs → Consumes b c ys → Consumes a c (xs ++ ys)
Consumes-on None b c xs ys h k = tt
Consumes-on (Some x) None c xs ys h k = absurd h
Consumes-on (Some x) (Some y) None xs ys h k = absurd k
Consumes-on (Some x) (Some y) (Some z) xs ys h k = h ∙ ap (λ (l : List ℕ). xs ++ l) k ∙ sym (append_assoc xs ys z)

-- ---- how far a run came

abbrev pub At : (ahead : List ℕ) (worst : Status) (number : ℕ) → (rest : List ℕ) → List Request → Type 0
At ahead worst number rest rs = (rest ≡ ahead) × (worst ≡ worst_of rs) × (number ≡ number_after rs)

pub Told-start : (style : Style) (input out : Option (List ℕ)) (ahead : List ℕ) → ahead ≡ [] → Told style input input out out (At ahead Clean 1)
Told-start style input out ahead e = record {
  read = [];
  requests = [];
  rest = [];
  is_read = Consumes-none input;
  begins = refl;
  written = Appends-none out;
  ends = (sym e, refl, refl);
}

pub Told-ends : (style : Style) (before left old new : Option (List ℕ)) (P Q : (rest : List ℕ) → List Request → Type 0) → Told style before left old new P → ((rest : List ℕ) (rs : List Request) → P rest rs → Q rest rs) → Told style before left old new Q
Told-ends style before left old new P Q t f = record {
  read = t.read;
  requests = t.requests;
  rest = t.rest;
  is_read = t.is_read;
  begins = t.begins;
  written = t.written;
  ends = f t.rest t.requests t.ends;
}

-- bytes came
pub Told-gains : (style : Style) (before mid left old new : Option (List ℕ)) (ahead next : List ℕ) (worst : Status) (number : ℕ) → Told style before mid old new (At ahead worst number) → Gains ahead next mid left → Told style before left old new (At next worst number)
Told-gains style before mid left old new ahead next worst number t g = record {
  read = t.read ++ g.gained;
  requests = t.requests;
  rest = t.rest ++ g.gained;
  is_read = Consumes-on before mid left t.read g.gained t.is_read g.given;
  begins = Begins-grows t.read g.gained t.requests t.rest t.begins;
  written = t.written;
  ends = (ap (λ (l : List ℕ). l ++ g.gained) t.ends.0 ∙ sym g.there, t.ends.1, t.ends.2);
}

-- the rest is the bytes of a request and what is after them
split_rest : (rest ahead bytes next : List ℕ) (count : ℕ) → rest ≡ ahead → bytes ≡ ahead → next ≡ drop count ahead → rest ≡ take count bytes ++ next
split_rest rest ahead bytes next count r b n =
    r ∙ sym (take-append-drop count ahead) ∙ ap (λ (l : List ℕ). take count l ++ drop count ahead) (sym b) ∙ ap (λ (l : List ℕ). take count bytes ++ l) (sym n)

-- a text was answered
pub Told-on : (style : Style) (before left old mid new : Option (List ℕ)) (ahead bytes next : List ℕ) (worst status last : Status) (number after line name text : ℕ) → Told style before left old mid (At ahead worst number) → bytes ≡ ahead → front_of bytes ≡ Whole line name text → next ≡ drop (line + name + text) ahead → Appends mid new (reply style (request_in bytes line name text)) → status ≡ status_of (request_in bytes line name text).text → last ≡ worse worst status → after ≡ min (number + 1) (2 ^ 64 - 1) → Told style before left old new (At next last after)
Told-on style before left old mid new ahead bytes next worst status last number after line name text t is front next_is written status_is last_is after_is =
    let r : Request = request_in bytes line name text in
    let rs : List Request = t.requests in
    let size : length (rs ++ r ∷ []) ≡ length rs + 1 = length-append rs (r ∷ []) in
    let number_is : number ≡ number_after rs = t.ends.2 in
    record {
      read = t.read;
      requests = rs ++ r ∷ [];
      rest = next;
      is_read = t.is_read;
      begins = Begins-on t.read (take (line + name + text) bytes) next t.rest rs r t.begins (split_rest t.rest ahead bytes next (line + name + text) t.ends.0 is next_is) (spelled_front bytes line name text front);
      written = Appends-same old new _ _ (sym (replies-on style rs r)) (Appends-on old mid new _ _ t.written written);
      ends = (
        refl,
        last_is ∙ ap (λ (s : Status). worse s status) t.ends.1 ∙ ap (λ (s : Status). worse (worst_of rs) s) status_is ∙ sym (worst-on Clean rs r),
        omega (arith, size, number_is, after_is),
      );
    }

-- a front of the report of a text was written
pub ToldPart-on : (style : Style) (before left old mid new : Option (List ℕ)) (ahead bytes : List ℕ) (worst : Status) (number line name text : ℕ) → Told style before left old mid (At ahead worst number) → bytes ≡ ahead → front_of bytes ≡ Whole line name text → AppendsPart mid new (reply style (request_in bytes line name text)) → ToldPart style before left old new
ToldPart-on style before left old mid new ahead bytes worst number line name text t is front written =
    let r : Request = request_in bytes line name text in
    let rs : List Request = t.requests in
    record {
      read = t.read;
      requests = rs ++ r ∷ [];
      rest = drop (line + name + text) ahead;
      is_read = t.is_read;
      begins = Begins-on t.read (take (line + name + text) bytes) (drop (line + name + text) ahead) t.rest rs r t.begins (split_rest t.rest ahead bytes _ (line + name + text) t.ends.0 is refl) (spelled_front bytes line name text front);
      written = AppendsPart-same old new _ _ (sym (replies-on style rs r)) (AppendsPart-after old mid new _ _ t.written written);
    }

pub Told-part : (style : Style) (before left old new : Option (List ℕ)) (P : (rest : List ℕ) → List Request → Type 0) → Told style before left old new P → ToldPart style before left old new
Told-part style before left old new P t = record {
  read = t.read;
  requests = t.requests;
  rest = t.rest;
  is_read = t.is_read;
  begins = t.begins;
  written = record { written = replies style t.requests; lost = []; part = append-nil (replies style t.requests); grown = t.written };
}

-- ---- the ends of a run

-- the report of a text broke off
pub Ran-part : (style : Style) (fault : Fault) (result : Result Status Fault) (before left old new : Option (List ℕ)) → result ≡ Err fault → IsReportFault fault → ToldPart style before left old new → Ran style result before left old new
Ran-part style Memory result before left old new is h t = rw is t
Ran-part style Write result before left old new is h t = rw is t
Ran-part style Read result before left old new is h t = absurd h
Ran-part style (Heading n) result before left old new is h t = absurd h
Ran-part style (Cut n) result before left old new is h t = absurd h
Ran-part style TooManyReads result before left old new is h t = absurd h
Ran-part style Usage result before left old new is h t = absurd h

-- no heading is ahead
pub Ran-malformed : (style : Style) (before left old new : Option (List ℕ)) (ahead bytes : List ℕ) (worst : Status) (number : ℕ) → Told style before left old new (At ahead worst number) → bytes ≡ ahead → front_of bytes ≡ Malformed → Ran style (Err (Heading number)) before left old new
Ran-malformed style before left old new ahead bytes worst number t is h =
    Told-ends style before left old new (At ahead worst number) _ t (λ rest rs a. (a.2, ap front_of (a.0 ∙ sym is) ∙ h))

-- the reader has no more bytes
pub Ran-end : (style : Style) (result : Result Status Fault) (before left old new : Option (List ℕ)) (ahead : List ℕ) (worst : Status) (number : ℕ) → Told style before left old new (At ahead worst number) → IsAtEnd left → front_of ahead ≡ Short → (ahead ≡ [] → result ≡ Ok worst) → (ahead ≢ [] → result ≡ Err (Cut number)) → Ran style result before left old new
Ran-end style result before left old new [] worst number t e short ok err = rw (ok refl) (Told-ends style before left old new (At [] worst number) _ t (λ rest rs a. (a.0, e, a.1)))
Ran-end style result before left old new (b ∷ bytes) worst number t e short ok err =
    rw (err (λ x. cc)) (Told-ends style before left old new (At (b ∷ bytes) worst number) _ t (λ rest rs a.
    let some : rest ≢ [] = λ x. let same : b ∷ bytes ≡ [] = sym a.0 ∙ x in cc in
    (a.2, some, ap front_of a.0 ∙ short, e)))

-- no more bytes can be read
pub Ran-read : (style : Style) (fault : ReadFault) (result : Result Status Fault) (before left old new : Option (List ℕ)) (ahead : List ℕ) (worst : Status) (number : ℕ) → result ≡ Err (fault_of_read fault) → Told style before left old new (At ahead worst number) → Ran style result before left old new
Ran-read style reading.Read result before left old new ahead worst number is t = rw is (Told-ends style before left old new (At ahead worst number) _ t (λ rest rs a. tt))
Ran-read style reading.Memory result before left old new ahead worst number is t = rw is (Told-part style before left old new (At ahead worst number) t)
Ran-read style reading.TooManyTurns result before left old new ahead worst number is t = rw is (Told-ends style before left old new (At ahead worst number) _ t (λ rest rs a. tt))
