-- What is claimed of variables: a place more, and a claim more.
use Rattle.std.proofs.Common.{◌≡◌, ℕ, inl, inr, Bool, true, false, ◌&&◌, List, [], ◌∷◌, ◌++◌, length, get_or, set, nat_eq, Option, None, Some, refl, sym, ap, ◌∙◌, arith, true≢false, if◌then◌else◌}
use Rattle.std.specs.Prelude.{slice_get}
use Rattle.std.proofs.lemmas.Bool.Decides.{Decides-eqb, nat_tests}
use Rattle.std.specs.Option.{option_and_then, option_map_or}
use Rattle.std.proofs.lemmas.Bool.{cases_Bool}
use Rattle.snl_scope.specs.declared.clauses.clause_index.Claim.{Claim}
use Rattle.snl_scope.specs.declared.clauses.clause_index.Extents.{Extents}
use Rattle.snl_scope.specs.declared.clauses.clause_index.Purpose.{Purpose}
use Rattle.snl_scope.specs.declared.clauses.clause_index.Purpose.TheVariants as purpose
use Rattle.snl_scope.specs.declared.clauses.clause_index.VariableClaims.{VariableClaims}
use Rattle.std.proofs.lemmas.Option.{get_or_from_slice_get}
use Rattle.snl_scope.specs.ByNumber.{IsPutAt, at_number}
use Rattle.snl_scope.specs.Claims.{extents_at, extents_for, extents_on, no_extents, own_place, place_of, same_purpose, with_extent, with_extents}
use Rattle.snl_scope.proofs.Elements.{get_after, get_kept, get_last, set_other, set_there}
use Rattle.snl_scope.proofs.FirstClaims.{purpose_true}

self_eq : (n : ℕ) → nat_eq n n ≡ true
self_eq n = grind (arith, nat_tests)

-- ---- a place more

module _ (claimed : List VariableClaims) (c : VariableClaims) (v : ℕ) (apart : nat_eq c.variable v ≡ false) where
  -- the new place isn't another variable's own
  not_own : (r : ℕ) (o : Option VariableClaims) → slice_get claimed r ≡ o → own_place (claimed ++ c ∷ []) v (Some r) ≡ own_place claimed v (Some r)
  not_own r (Some d) h = ap (option_and_then (λ e. if nat_eq e.variable v then Some r else None)) (get_kept claimed c d r h ∙ sym h)
  not_own r None h =
      elim (get_after claimed c r h) [
        | inl none ↦ ap (option_and_then (λ e. if nat_eq e.variable v then Some r else None)) (none ∙ sym h)
        | inr some ↦
            ap (option_and_then (λ e. if nat_eq e.variable v then Some r else None)) some
            ∙ ap (λ (b : Bool). if b then Some r else None) apart
            ∙ sym (ap (option_and_then (λ e. if nat_eq e.variable v then Some r else None)) h)
      ]

  same_place : (o : Option ℕ) → own_place (claimed ++ c ∷ []) v o ≡ own_place claimed v o
  same_place None = refl
  same_place (Some r) = not_own r (slice_get claimed r) refl

-- what is at a place of its own stays
kept_at : (claimed : List VariableClaims) (c : VariableClaims) (v : ℕ) (p : Purpose) (o : Option ℕ) → extents_at (claimed ++ c ∷ []) p (own_place claimed v o) ≡ extents_at claimed p (own_place claimed v o)
kept_at claimed c v p None = refl
kept_at claimed c v p (Some r) = by (slice_get claimed r) refl
  where
    at : (d : VariableClaims) → slice_get claimed r ≡ Some d → (b : Bool) → extents_at (claimed ++ c ∷ []) p (if b then Some r else None) ≡ extents_at claimed p (if b then Some r else None)
    at d h true = ap (λ q. option_map_or (λ e. extents_for e p) q no_extents) (get_kept claimed c d r h ∙ sym h)
    at d h false = refl

    by : (q : Option VariableClaims) → slice_get claimed r ≡ q
        → extents_at (claimed ++ c ∷ []) p (option_and_then (λ e. if nat_eq e.variable v then Some r else None) q) ≡ extents_at claimed p (option_and_then (λ e. if nat_eq e.variable v then Some r else None) q)
    by None h = refl
    by (Some d) h = at d h (nat_eq d.variable v)

none_yet : (v : ℕ) (p : Purpose) → extents_for (record { variable = v; assign = no_extents; monitor = no_extents; sync = no_extents }) p ≡ no_extents
none_yet v purpose.Assign = refl
none_yet v purpose.Monitor = refl
none_yet v purpose.Sync = refl

module _ (places places' : List (Option ℕ)) (claimed : List VariableClaims) (variable : ℕ) (is : IsPutAt places places' variable (length claimed)) where
  abbrev pub fresh : VariableClaims
  fresh = record { variable = variable; assign = no_extents; monitor = no_extents; sync = no_extents }

  pub own_now : place_of places' (claimed ++ fresh ∷ []) variable ≡ Some (length claimed)
  own_now =
      ap (λ o. own_place (claimed ++ fresh ∷ []) variable (option_and_then (λ p. p) o)) is.own
      ∙ ap (option_and_then (λ e. if nat_eq e.variable variable then Some (length claimed) else None)) (get_last claimed fresh)
      ∙ ap (λ (b : Bool). if b then Some (length claimed) else None) (self_eq variable)

  pub placed_keeps : place_of places claimed variable ≡ None → (v : ℕ) (p : Purpose) → extents_on places' (claimed ++ fresh ∷ []) v p ≡ extents_on places claimed v p
  placed_keeps none v p = elim (cases_Bool (nat_eq variable v)) [
    | inl same ↦
        let e : variable ≡ v = (Decides-eqb variable v).0 same in
        ap (λ (w : ℕ). extents_on places' (claimed ++ fresh ∷ []) w p) (sym e)
        ∙ ap (extents_at (claimed ++ fresh ∷ []) p) own_now
        ∙ ap (λ q. option_map_or (λ d. extents_for d p) q no_extents) (get_last claimed fresh)
        ∙ none_yet variable p
        ∙ sym (ap (extents_at claimed p) none)
        ∙ ap (λ (w : ℕ). extents_on places claimed w p) e
    | inr apart ↦
        ap (extents_at (claimed ++ fresh ∷ []) p) (ap (own_place (claimed ++ fresh ∷ []) v) (is.others v apart) ∙ same_place claimed fresh v apart (at_number places v))
        ∙ kept_at claimed fresh v p (at_number places v)
  ]

-- ---- a claim more

own_at : (claimed : List VariableClaims) (v place : ℕ) (o : Option ℕ) → own_place claimed v o ≡ Some place → (c : VariableClaims) → slice_get claimed place ≡ Some c → nat_eq c.variable v ≡ true
own_at claimed v place None h c at = cc
own_at claimed v place (Some r) h c at = by (slice_get claimed r) refl h
  where
    by : (q : Option VariableClaims) → slice_get claimed r ≡ q → option_and_then (λ e. if nat_eq e.variable v then Some r else None) q ≡ Some place → nat_eq c.variable v ≡ true
    by None g t = cc
    by (Some d) g t = elim (cases_Bool (nat_eq d.variable v)) [
      | inl own ↦
          let s : Some r ≡ Some place = sym (ap (λ (b : Bool). if b then Some r else None) own) ∙ t in
          let e : r ≡ place = cc in
          let two : Some d ≡ Some c = sym g ∙ ap (slice_get claimed) e ∙ at in
          let one : d ≡ c = cc in
          ap (λ (x : VariableClaims). nat_eq x.variable v) (sym one) ∙ own
      | inr apart ↦
          let n : None ≡ Some place = sym (ap (λ (b : Bool). if b then Some r else None) apart) ∙ t in
          cc
    ]

own_there : (claimed : List VariableClaims) (v place : ℕ) (o : Option ℕ) → own_place claimed v o ≡ Some place → (c : VariableClaims) → c ≡ get_or claimed place c → slice_get claimed place ≡ Some c
own_there claimed v place None h c at = cc
own_there claimed v place (Some r) h c at = by (slice_get claimed r) refl h
  where
    by : (q : Option VariableClaims) → slice_get claimed r ≡ q → option_and_then (λ e. if nat_eq e.variable v then Some r else None) q ≡ Some place → slice_get claimed place ≡ Some c
    by None g t = cc
    by (Some d) g t = elim (cases_Bool (nat_eq d.variable v)) [
      | inl own ↦
          let s : Some r ≡ Some place = sym (ap (λ (b : Bool). if b then Some r else None) own) ∙ t in
          let e : r ≡ place = cc in
          let there : slice_get claimed place ≡ Some d = ap (slice_get claimed) (sym e) ∙ g in
          there ∙ ap Some (sym (at ∙ get_or_from_slice_get claimed place d c there))
      | inr apart ↦
          let n : None ≡ Some place = sym (ap (λ (b : Bool). if b then Some r else None) apart) ∙ t in
          cc
    ]

pub claimed_there : (places : List (Option ℕ)) (claimed : List VariableClaims) (v place : ℕ) → place_of places claimed v ≡ Some place → (c : VariableClaims) → c ≡ get_or claimed place c → slice_get claimed place ≡ Some c
claimed_there places claimed v place h c at = own_there claimed v place (at_number places v) h c at

for_purpose : (c : VariableClaims) (p q : Purpose) (e : Extents) → extents_for (with_extents c p e) q ≡ (if same_purpose p q then e else extents_for c q)
for_purpose c purpose.Assign purpose.Assign e = refl
for_purpose c purpose.Assign purpose.Monitor e = refl
for_purpose c purpose.Assign purpose.Sync e = refl
for_purpose c purpose.Monitor purpose.Assign e = refl
for_purpose c purpose.Monitor purpose.Monitor e = refl
for_purpose c purpose.Monitor purpose.Sync e = refl
for_purpose c purpose.Sync purpose.Assign e = refl
for_purpose c purpose.Sync purpose.Monitor e = refl
for_purpose c purpose.Sync purpose.Sync e = refl

same_variable : (c : VariableClaims) (p : Purpose) (e : Extents) → (with_extents c p e).variable ≡ c.variable
same_variable c purpose.Assign e = refl
same_variable c purpose.Monitor e = refl
same_variable c purpose.Sync e = refl

module _ (claimed : List VariableClaims) (place : ℕ) (c d : VariableClaims) (at : slice_get claimed place ≡ Some c) (kept : d.variable ≡ c.variable) where
  -- the places stay the variables' own
  own_stays : (v : ℕ) (o : Option ℕ) → own_place (set claimed place d) v o ≡ own_place claimed v o
  own_stays v None = refl
  own_stays v (Some r) = elim (cases_Bool (nat_eq place r)) [
    | inl same ↦
        let e : place ≡ r = (Decides-eqb place r).0 same in
        let test = λ (q : Option VariableClaims). option_and_then (λ x. if nat_eq x.variable v then Some r else None) q in
        ap (λ (i : ℕ). test (slice_get (set claimed place d) i)) (sym e) ∙ ap test (set_there claimed place d c at)
        ∙ ap (λ (w : ℕ). if nat_eq w v then Some r else None) kept
        ∙ sym (ap test (ap (slice_get claimed) (sym e) ∙ at))
    | inr apart ↦ ap (option_and_then (λ x. if nat_eq x.variable v then Some r else None)) (set_other claimed place r d apart)
  ]

  -- what is at another variable's own place stays
  other_stays : (v : ℕ) (p : Purpose) → nat_eq c.variable v ≡ false → (o : Option ℕ) → extents_at (set claimed place d) p (own_place claimed v o) ≡ extents_at claimed p (own_place claimed v o)
  other_stays v p apart None = refl
  other_stays v p apart (Some r) = by (slice_get claimed r) refl
    where
      elsewhere : (x : VariableClaims) → slice_get claimed r ≡ Some x → nat_eq x.variable v ≡ true → nat_eq place r ≡ false
      elsewhere x h own = elim (cases_Bool (nat_eq place r)) [
        | inl same ↦
            let e : place ≡ r = (Decides-eqb place r).0 same in
            let two : Some c ≡ Some x = sym at ∙ ap (slice_get claimed) e ∙ h in
            let one : c ≡ x = cc in
            absurd (true≢false (sym own ∙ ap (λ (y : VariableClaims). nat_eq y.variable v) (sym one) ∙ apart))
        | inr other ↦ other
      ]

      own : (x : VariableClaims) → slice_get claimed r ≡ Some x → (b : Bool) → nat_eq x.variable v ≡ b → extents_at (set claimed place d) p (if b then Some r else None) ≡ extents_at claimed p (if b then Some r else None)
      own x h true t = ap (λ q. option_map_or (λ e. extents_for e p) q no_extents) (set_other claimed place r d (elsewhere x h t))
      own x h false t = refl

      by : (q : Option VariableClaims) → slice_get claimed r ≡ q
          → extents_at (set claimed place d) p (option_and_then (λ e. if nat_eq e.variable v then Some r else None) q) ≡ extents_at claimed p (option_and_then (λ e. if nat_eq e.variable v then Some r else None) q)
      by None h = refl
      by (Some x) h = own x h (nat_eq x.variable v) refl

module _ (places : List (Option ℕ)) (claimed : List VariableClaims) (one : Claim) (number place : ℕ) (c : VariableClaims)
    (placed : place_of places claimed one.variable ≡ Some place) (at : slice_get claimed place ≡ Some c) where
  abbrev made : VariableClaims
  made = with_extents c one.purpose (with_extent (extents_for c one.purpose) one.extent number)

  kept : made.variable ≡ c.variable
  kept = same_variable c one.purpose (with_extent (extents_for c one.purpose) one.extent number)

  place_stays : (v : ℕ) → place_of places (set claimed place made) v ≡ place_of places claimed v
  place_stays v = own_stays claimed place c made at kept v (at_number places v)

  own : nat_eq c.variable one.variable ≡ true
  own = own_at claimed one.variable place (at_number places one.variable) placed c at

  old_here : (p : Purpose) → extents_on places claimed one.variable p ≡ extents_for c p
  old_here p = ap (extents_at claimed p) placed ∙ ap (λ q. option_map_or (λ e. extents_for e p) q no_extents) at

  new_here : (p : Purpose) → extents_on places (set claimed place made) one.variable p ≡ extents_for made p
  new_here p = ap (extents_at (set claimed place made) p) (place_stays one.variable ∙ placed) ∙ ap (λ q. option_map_or (λ e. extents_for e p) q no_extents) (set_there claimed place made c at)

  same_purposes : (p : Purpose) (b : Bool) → same_purpose one.purpose p ≡ b
      → (if b then with_extent (extents_for c one.purpose) one.extent number else extents_for c p) ≡ (if b && true then with_extent (extents_for c p) one.extent number else extents_for c p)
  same_purposes p true h = ap (λ (q : Purpose). with_extent (extents_for c q) one.extent number) (purpose_true one.purpose p h)
  same_purposes p false h = refl

  abbrev expected : Bool → Bool → ℕ → Purpose → Extents
  expected a b v p = if a && b then with_extent (extents_on places claimed v p) one.extent number else extents_on places claimed v p

  here : (p : Purpose) → extents_on places (set claimed place made) one.variable p ≡ expected (same_purpose one.purpose p) true one.variable p
  here p =
      new_here p ∙ for_purpose c one.purpose p (with_extent (extents_for c one.purpose) one.extent number)
      ∙ same_purposes p (same_purpose one.purpose p) refl
      ∙ sym (ap (λ (e : Extents). if same_purpose one.purpose p && true then with_extent e one.extent number else e) (old_here p))

  no_more : (a : Bool) (v : ℕ) (p : Purpose) → extents_on places claimed v p ≡ expected a false v p
  no_more true v p = refl
  no_more false v p = refl

  pub one_more : (v : ℕ) (p : Purpose) → extents_on places (set claimed place made) v p ≡ expected (same_purpose one.purpose p) (nat_eq one.variable v) v p
  one_more v p = elim (cases_Bool (nat_eq one.variable v)) [
    | inl same ↦
        let e : one.variable ≡ v = (Decides-eqb one.variable v).0 same in
        ap (λ (w : ℕ). extents_on places (set claimed place made) w p) (sym e) ∙ here p
        ∙ ap (λ (w : ℕ). expected (same_purpose one.purpose p) true w p) e
        ∙ sym (ap (λ (b : Bool). expected (same_purpose one.purpose p) b v p) same)
    | inr apart ↦
        let is : c.variable ≡ one.variable = (Decides-eqb c.variable one.variable).0 own in
        let other : nat_eq c.variable v ≡ false = ap (λ (w : ℕ). nat_eq w v) is ∙ apart in
        ap (extents_at (set claimed place made) p) (place_stays v)
        ∙ other_stays claimed place c made at kept v p other (at_number places v)
        ∙ no_more (same_purpose one.purpose p) v p
        ∙ sym (ap (λ (b : Bool). expected (same_purpose one.purpose p) b v p) apart)
  ]
