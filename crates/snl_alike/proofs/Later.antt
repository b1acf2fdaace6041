-- Where places come to: later ones no earlier, and those of edits by the edits before them.
use Rattle.std.proofs.Common.{◌≡◌, ℕ, ◌+◌, ◌-◌, ◌<◌, ◌≤◌, Bool, true, false, cond, nat_lt, List, [], ◌∷◌, drop, map, take, refl, sym, ap, ap₂, ◌∙◌, arith}
use Rattle.std.proofs.lemmas.Bool.{lt-ltb}
use Rattle.std.proofs.lemmas.Bool.Decides.{nat_tests}
use Rattle.std.specs.List.{AllByRecursion as Each}
use Rattle.snl_alike.specs.Edits.{Edit, Rise, moved_by, moved_stop, new_stop}
use Rattle.snl_alike.specs.Undone.{HasOldBytes, undone, undone_at, undone_from}

-- what becomes of a place, where the text before `base` has become so many bytes
abbrev stop_from : (base made : ℕ) → List Edit → ℕ → ℕ
stop_from base made es place = moved_by (λ e. nat_lt e.start place) base made es place

not_before : (start place : ℕ) → place ≤ start → nat_lt start place ≡ false
not_before start place le = grind (arith, nat_tests)

past : (base made : ℕ) (e : Edit) (es : List Edit) (place : ℕ) → e.start < place →
    stop_from base made (e ∷ es) place ≡ stop_from e.stop (new_stop base made e) es place
past base made e es place less =
    ap (λ (b : Bool). cond b (stop_from e.stop (new_stop base made e) es place)
    (made + (place - base))) (lt-ltb e.start place less)

short_of : (base made : ℕ) (e : Edit) (es : List Edit) (place : ℕ) → place ≤ e.start →
    stop_from base made (e ∷ es) place ≡ made + (place - base)
short_of base made e es place le =
    ap (λ (b : Bool). cond b (stop_from e.stop (new_stop base made e) es place)
    (made + (place - base))) (not_before e.start place le)

at_base : (base made end : ℕ) (es : List Edit) → Rise base end es →
    stop_from base made es base ≡ made
at_base base made end [] rise = omega arith
at_base base made end (e ∷ es) rise = short_of base made e es base rise.0 ∙ omega arith

pub moved_zero : (es : List Edit) → moved_stop es 0 ≡ 0
unfolding moved_stop
moved_zero [] = refl
moved_zero (e ∷ es) = short_of 0 0 e es 0 (omega arith)

-- ---- the edits that undo

-- two lists of edits that are made alike, one by one
undone_each : (text : List ℕ) (base made end : ℕ) (es : List Edit) (f : ℕ → ℕ) →
    Rise base end es → Each HasOldBytes es →
    ((place : ℕ) → base ≤ place → f place ≡ stop_from base made es place) →
    undone_from text base made es ≡ map (λ e. record {
      start = f e.start;
      stop = f e.stop;
      new = take (e.stop - e.start) (drop e.start text);
    }) es
undone_each text base made end [] f rise some is = refl
undone_each text base made end (e ∷ es) f rise some is =
    let stop = new_stop base made e in
    let start_is : f e.start ≡ made + (e.start - base) =
    is e.start rise.0 ∙ short_of base made e es e.start (omega arith) in
    let stop_is : f e.stop ≡ stop =
    is e.stop (omega (arith, rise.0, rise.1)) ∙ past base made e es e.stop some.0
    ∙ at_base e.stop stop end es rise.2 in
    let edit : ℕ → ℕ → Edit = λ n m. record {
      start = n;
      stop = m;
      new = take (e.stop - e.start) (drop e.start text);
    } in
    ap₂ (λ (x : Edit) (xs : List Edit). x ∷ xs)
    (ap₂ (λ (n m : ℕ). edit n m) (sym start_is) (sym stop_is))
    (undone_each text e.stop stop end es f rise.2 some.1
    (λ place after. is place (omega (arith, rise.0, rise.1, after))
    ∙ past base made e es place (omega (arith, some.0, after))))

pub undone_moves : (text : List ℕ) (end : ℕ) (es : List Edit) → Rise 0 end es →
    Each HasOldBytes es → undone text es ≡ map (undone_at text es) es
unfolding moved_stop undone
undone_moves text end es rise some =
    undone_each text 0 0 end es (stop_from 0 0 es) rise some (λ place after. refl)

-- ---- later places

grows : (base made end : ℕ) (es : List Edit) (place : ℕ) → made ≤ stop_from base made es place
grows base made end [] place = omega arith
grows base made end (e ∷ es) place =
    by (nat_lt e.start place) (grows e.stop (new_stop base made e) end es place)
  where
    by : (b : Bool) →
        new_stop base made e ≤ stop_from e.stop (new_stop base made e) es place →
        made ≤ cond b (stop_from e.stop (new_stop base made e) es place) (made + (place - base))
    by true more = omega (arith, more)
    by false more = omega arith

later : (base made end : ℕ) (es : List Edit) (one other : ℕ) → Rise base end es → one ≤ other →
    stop_from base made es one ≤ stop_from base made es other
later base made end [] one other rise le = omega (arith, le)
later base made end (e ∷ es) one other rise le =
    by (nat_lt e.start one) (nat_lt e.start other) refl refl
    (later e.stop (new_stop base made e) end es one other rise.2 le)
    (grows e.stop (new_stop base made e) end es other)
  where
    by : (b c : Bool) → nat_lt e.start one ≡ b → nat_lt e.start other ≡ c →
        stop_from e.stop (new_stop base made e) es one ≤
        stop_from e.stop (new_stop base made e) es other →
        new_stop base made e ≤ stop_from e.stop (new_stop base made e) es other →
        cond b (stop_from e.stop (new_stop base made e) es one) (made + (one - base)) ≤
        cond c (stop_from e.stop (new_stop base made e) es other) (made + (other - base))
    by true true h k more grown = more
    by true false h k more grown = absurd (crossed h k)
      where
        crossed : nat_lt e.start one ≡ true → nat_lt e.start other ≡ false → ⊥
        crossed h k = grind (arith, nat_tests, le)
    by false true h k more grown =
        let low : one ≤ e.start = grind (arith, nat_tests, h) in
        omega (arith, low, grown, rise.0)
    by false false h k more grown = omega (arith, le)

pub moved_later : (end : ℕ) (es : List Edit) (one other : ℕ) → Rise 0 end es → one ≤ other →
    moved_stop es one ≤ moved_stop es other
unfolding moved_stop
moved_later end es one other rise le = later 0 0 end es one other rise le
