-- What an edit of a document makes, and why a run cannot begin.
use Rattle.std.proofs.Common.{◌≡◌, ℕ, ◌<◌, ◌≤◌, Bool, true, false, List, [], length, Option, Some, None, Ok, Err, MatchOption, IsErrOf, refl, sym, ap, subst, arith, nat_lt}
use Rattle.std.specs.Prelude.{⊤}
use Rattle.std.proofs.lemmas.Bool.Decides.{nat_tests}
use Rattle.snl_items.specs.Fresh.{fresh_items, fresh_pieces}
use Rattle.snl_session.specs.declared.edits.Refused.{Refused}
use Rattle.snl_session.specs.declared.edits.Refused.TheVariants.{Memory, Range, Size}
use Rattle.snl_kept.specs.declared.work.Work.{Work}
use Rattle.snl_session.specs.Edit.{limit, refusal_of, spliced}
use Rattle.snl_kept.specs.Stirred.{stirred}
use Rattle.snl_run.specs.Run.{IsEdited, NoStart, start_fault}
use Rattle.snl_run.specs.Transcript.{or_memory}
use Rattle.snl_run.specs.Version.{Version, first_version, work_of}

-- ---- what an edit cost

same_work : (work : Work) (l p c : ℕ) → work.lexed ≡ l → work.parsed ≡ p → work.checked ≡ c → work ≡ record { lexed = l; parsed = p; checked = c }
same_work work l p c lexed parsed checked = rw (← lexed, ← parsed, ← checked) refl

pub work_is : (text : List ℕ) (start stop : ℕ) (new : List ℕ) (work : Work) → work.lexed ≡ fresh_pieces text start stop new → work.parsed ≡ length (fresh_items text start stop new) → work.checked ≡ stirred text start stop new → work ≡ work_of text start stop new
unfolding work_of
work_is text start stop new work lexed parsed checked = same_work work _ _ _ lexed parsed checked

-- ---- what an edit makes

-- an edit that was made is refused for nothing
not_refused : (o : Option Refused) (work : Work) → MatchOption o ⊤ (λ e. IsErrOf {T = Work} {E = Refused} (Ok work) e) → None ≡ or_memory o false
not_refused None work h = refl
not_refused (Some r) work h = cc

pub made : (old new : List ℕ) (start stop : ℕ) (added : List ℕ) (before work : Work) → new ≡ spliced old start stop added → work ≡ work_of old start stop added → MatchOption (refusal_of old start stop (length added)) ⊤ (λ e. IsErrOf {T = Work} {E = Refused} (Ok work) e) → IsEdited (record { text = old; work = before }) (record { text = new; work = work }) start stop added None
made old new start stop added before work text cost h = record {
  starved = false;
  fair = tt;
  refused_is = not_refused (refusal_of old start stop (length added)) work h;
  version_is = rw (text, cost) refl;
}

-- an edit was refused, and nothing changed
pub refused : (old new : List ℕ) (start stop : ℕ) (added : List ℕ) (work : Work) (r : Refused) → new ≡ old → MatchOption (refusal_of old start stop (length added)) (r ≡ Memory) (λ e. IsErrOf {T = Work} {E = Refused} (Err r) e) → IsEdited (record { text = old; work = work }) (record { text = new; work = work }) start stop added (Some r)
refused old new start stop added work r same h = by_refusal (refusal_of old start stop (length added)) refl h
  where
    by_refusal : (o : Option Refused) → refusal_of old start stop (length added) ≡ o → MatchOption o (r ≡ Memory) (λ e. IsErrOf {T = Work} {E = Refused} (Err r) e) → IsEdited (record { text = old; work = work }) (record { text = new; work = work }) start stop added (Some r)
    by_refusal None e k = record {
      starved = true;
      fair = e;
      refused_is = subst (λ (o : Option Refused). Some r ≡ or_memory o true) (sym e) (ap Some k);
      version_is = rw same refl;
    }
    by_refusal (Some s) e k = record {
      starved = false;
      fair = tt;
      refused_is = subst (λ (o : Option Refused). Some r ≡ or_memory o false) (sym e) cc;
      version_is = rw same refl;
    }

-- ---- the source, which is the first text

abbrev pub version_with : (text : List ℕ) (work : Work) → Version
version_with text work = record { text = text; work = work }

pub begun : (source text : List ℕ) (work : Work) → text ≡ source → work ≡ work_of [] 0 0 source → version_with text work ≡ first_version source
begun source text work same cost = rw (same, cost) refl

-- the size of the source, which alone can refuse it besides want of memory
by_size : (source : List ℕ) (b : Bool) → nat_lt limit (length source) ≡ b → (limit < length source → ⊥) → length source ≤ limit
by_size source true e never = absurd (never (grind (arith, nat_tests)))
by_size source false e never = grind (arith, nat_tests)

made_is_no_refusal : {T : Type 0} (made : T) → IsErrOf {T = T} {E = Refused} (Ok made) Size → ⊥
made_is_no_refusal made e = cc

pub fits : {T : Type 0} (source : List ℕ) (made : T) → (limit < length source → IsErrOf {T = T} {E = Refused} (Ok made) Size) → length source ≤ limit
fits source made large = by_size source (nat_lt limit (length source)) refl (λ lt. made_is_no_refusal made (large lt))

above_by : (source : List ℕ) (b : Bool) → nat_lt limit (length source) ≡ b → (length source ≤ limit → ⊥) → limit < length source
above_by source true e never = grind (arith, nat_tests)
above_by source false e never = absurd (never (grind (arith, nat_tests)))

above : (source : List ℕ) → (length source ≤ limit → ⊥) → limit < length source
above source never = above_by source (nat_lt limit (length source)) refl never

-- ---- why a run cannot begin

size_is_no_memory : Size ≡ Memory → ⊥
size_is_no_memory e = cc

range_is_no_memory : Range ≡ Memory → ⊥
range_is_no_memory e = cc

pub cannot_open : (source : List ℕ) (r : Refused) → (length source ≤ limit → r ≡ Memory) → NoStart source (start_fault r)
cannot_open source Memory h = tt
cannot_open source Size h = above source (λ le. size_is_no_memory (h le))
cannot_open source Range h = above source (λ le. range_is_no_memory (h le))
