-- What a search comes to: one state, states in turn.
use Rattle.std.proofs.Common.{◌≡◌, ◌⊎◌, ℕ, ◌<◌, ◌≢◌, Bool, true, false, not, cond, List, [], ◌∷◌, ◌++◌, length, get_or, set, slice_get, All, Contains, Some, count_by, inl, inr, refl, sym, ap, subst, ◌∙◌, arith}
use Rattle.std.proofs.lemmas.Bool.{cases_eq}
use Rattle.std.proofs.lemmas.List.{get_or-set_other, get_or-set_same, length-append, length-set}
use Rattle.std.proofs.lemmas.List.Elements.{All-append, All-cons, All-nil, All-weaker, Contains-append_cases, Contains-append_left, Contains-append_right, Contains-push}
use Rattle.std.proofs.lemmas.List.Sums.{sum_by-set}
use Rattle.std.proofs.lemmas.Option.{slice_get-get_or, slice_get_within}
use Rattle.snl_check.specs.declared.reachability.reaching.Search.{Search}
use Rattle.snl_check.specs.Reach.{Enters, HasReached, left_to}

-- what holds of one thing holds of the list with it alone
all-one : {X : Type 0} (P : X → Type 0) (x : X) → P x → All P (x ∷ [])
all-one P x p = All-cons P x [] p (All-nil P)

-- a state that is not reached counts as one
abbrev missing : Bool → ℕ
missing b = cond (not b) 1 0

-- a state that the search has come to before
pub enters-seen : (search : Search) (s : ℕ) → HasReached search s → Enters search search (s ∷ [])
enters-seen search s h = record {
  as_long = refl;
  entered = all-one (HasReached search) s h;
  kept = λ t k. k;
  fresh = λ t k. inl k;
  waits = λ t k. k;
  called = λ t k. inl k;
  work = refl;
}

module _ (old new : Search) (s : ℕ) (within : s < length old.reached.items) (unseen : get_or old.reached.items s false ≡ false)
    (reached : new.reached.items ≡ set old.reached.items s true) (waiting : new.waiting.items ≡ old.waiting.items ++ s ∷ []) where
  as_long : length new.reached.items ≡ length old.reached.items
  as_long = ap length reached ∙ length-set old.reached.items s true

  here : HasReached new s
  here = slice_get-get_or new.reached.items s false (omega (arith, as_long)) ∙ ap (λ l. Some (get_or l s false)) reached ∙ ap Some (get_or-set_same old.reached.items s true false within)

  -- the others stay as they were
  other : (t : ℕ) → t ≢ s → t < length old.reached.items → slice_get new.reached.items t ≡ slice_get old.reached.items t
  other t ne l =
      slice_get-get_or new.reached.items t false (omega (arith, as_long)) ∙ ap (λ l. Some (get_or l t false)) reached
      ∙ ap Some (get_or-set_other old.reached.items s t true false ne) ∙ sym (slice_get-get_or old.reached.items t false l)

  kept : (t : ℕ) → HasReached old t → HasReached new t
  kept t h = elim (cases_eq t s) [ inl e ↦ subst (HasReached new) (sym e) here | inr ne ↦ other t ne (slice_get_within old.reached.items t true h) ∙ h ]

  last_waits : Contains new.waiting.items s
  last_waits = subst (λ l. Contains l s) (sym waiting) (Contains-push old.waiting.items s)

  fresh : (t : ℕ) → HasReached new t → HasReached old t ⊎ (Contains (s ∷ []) t × Contains new.waiting.items t)
  fresh t h =
      elim (cases_eq t s) [
        | inl e ↦ inr (subst (Contains (s ∷ [])) (sym e) (Contains-push [] s), subst (Contains new.waiting.items) (sym e) last_waits)
        | inr ne ↦ inl (sym (other t ne (omega (arith, as_long, slice_get_within new.reached.items t true h))) ∙ h)
      ]

  called : (t : ℕ) → Contains new.waiting.items t → Contains old.waiting.items t ⊎ Contains (s ∷ []) t
  called t h = Contains-append_cases old.waiting.items (s ∷ []) t (subst (λ l. Contains l t) waiting h)

  work : left_to new ≡ left_to old
  work =
      let listed = ap (count_by not) reached in
      let one = sum_by-set missing old.reached.items s true false within in
      let none_yet = ap missing unseen in
      let longer = ap length waiting ∙ length-append old.waiting.items (s ∷ []) in
      omega (arith, listed, one, none_yet, longer)

  -- a state that is new to the search
  pub enters-new : Enters old new (s ∷ [])
  enters-new = record {
    as_long = as_long;
    entered = all-one (HasReached new) s here;
    kept = kept;
    fresh = fresh;
    waits = λ t h. subst (λ l. Contains l t) (sym waiting) (Contains-append_left old.waiting.items (s ∷ []) t h);
    called = called;
    work = work;
  }

-- some states, and then others
pub enters-more : (old mid new : Search) (xs ys : List ℕ) → Enters old mid xs → Enters mid new ys → Enters old new (xs ++ ys)
enters-more old mid new xs ys first then = record {
  as_long = then.as_long ∙ first.as_long;
  entered = All-append (HasReached new) xs ys (All-weaker (HasReached mid) (HasReached new) then.kept xs first.entered) then.entered;
  kept = λ t h. then.kept t (first.kept t h);
  fresh = λ t h. elim (then.fresh t h) [
    | inl k ↦ elim (first.fresh t k) [ inl m ↦ inl m | inr m ↦ inr (Contains-append_left xs ys t m.0, then.waits t m.1) ]
    | inr k ↦ inr (Contains-append_right xs ys t k.0, k.1)
  ];
  waits = λ t h. then.waits t (first.waits t h);
  called = λ t h. elim (then.called t h) [
    | inl k ↦ elim (first.called t k) [ inl m ↦ inl m | inr m ↦ inr (Contains-append_left xs ys t m) ]
    | inr k ↦ inr (Contains-append_right xs ys t k)
  ];
  work = then.work ∙ first.work;
}
