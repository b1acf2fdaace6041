-- Items in the order of the language have phases that don't fall.
use Rattle.std.proofs.Common.{◌≡◌, ◌⊎◌, inl, inr, ℕ, zero, suc, ◌+◌, ◌-◌, ◌<◌, ◌≤◌, Bool, true, false, not, ◌&&◌, ◌||◌, length, Option, Some, None, refl, ap, ◌∙◌, sym, subst, arith}
use Rattle.std.specs.Prelude.{if◌then◌else◌, is_none, option_and_then, slice_get}
use Rattle.std.specs.Option.{option_map_or}
use Rattle.std.proofs.lemmas.Bool.{and_from, and_left, and_parts, cases_Bool, cases_eq, false_from_ne_true, ltb-true, or_from, or_left, or_right, true≢false}
use Rattle.snl_scope.specs.Below.{any_below}
use Rattle.snl_scope.specs.BelowLaws.{any_below_none}
use Rattle.snl_scope.specs.LinkedItems.{LinkedItems, kind_is}
use Rattle.snl_scope.specs.Order.{exceeds, has_begun, is_barred, is_barred_in_sets, is_late, is_later_program, is_main, is_misplaced, is_state, phase, phase_of}
use Rattle.snl_scope.specs.Places.{enclosing_set}
use Rattle.snl_summary.specs.declared.summary.ItemKind.{ItemKind}
use Rattle.snl_summary.specs.declared.summary.ItemKind.TheVariants.{Faulty, Header, SsBegin, SsEnd, State, Entry, Exit, Declaration, Foreign, Clause, OptionLine, Function, StructDef, CBlock, Empty}
use Rattle.snl_table_laws.specs.Order.{AreRising, IsAtProgramLevel, IsDeclared, IsInOrder, MayBe, Parts}

-- ---- some number below another passes

pub some_below : (p : ℕ → Bool) (n i : ℕ) → i < n → p i ≡ true → any_below p n ≡ true
some_below p zero i lt h = absurd (omega arith)
some_below p (suc n) i lt h =
    elim (cases_eq i n) [
      | inl e ↦ or_left (p n) (any_below p n) (subst (λ (k : ℕ). p k ≡ true) e h)
      | inr other ↦ or_right (p n) (any_below p n) (some_below p n i (omega arith) h)
    ]

pub below_some : (p : ℕ → Bool) (n : ℕ) → any_below p n ≡ true → (i : ℕ) × ((i < n) × (p i ≡ true))
below_some p zero h = absurd cc
below_some p (suc n) h =
    elim (cases_Bool (p n)) [
      | inl is ↦ (n, (omega arith, is))
      | inr is_not ↦
          let before = below_some p n (sym (ap (λ (b : Bool). b || any_below p n) is_not) ∙ h) in
          (before.0, (omega (arith, before.1.0), before.1.1))
    ]

-- ---- the phase of an item at program level

pub phase_outside : (l : LinkedItems) (i : ℕ) → enclosing_set l.outlines i ≡ None → phase l i ≡ option_and_then (phase_of (has_begun l i)) (slice_get l.kinds i)
phase_outside l i out = ap (λ o. if is_none o then option_and_then (phase_of (has_begun l i)) (slice_get l.kinds i) else None) out

-- An item with a phase is at program level, and has a kind.
pub record HasPhase (l : LinkedItems) (i n : ℕ) : Type 0 where
  pub kind : ItemKind
  pub outside : enclosing_set l.outlines i ≡ None
  pub is : slice_get l.kinds i ≡ Some kind
  pub told : phase_of (has_begun l i) kind ≡ Some n

told_by : (l : LinkedItems) (i n : ℕ) (o : Option ItemKind) → enclosing_set l.outlines i ≡ None → slice_get l.kinds i ≡ o → option_and_then (phase_of (has_begun l i)) o ≡ Some n → HasPhase l i n
told_by l i n None out is h = absurd cc
told_by l i n (Some kind) out is h = record { kind = kind; outside = out; is = is; told = h }

outside_by : (l : LinkedItems) (i n : ℕ) (o : Option ℕ) → enclosing_set l.outlines i ≡ o → phase l i ≡ Some n → HasPhase l i n
outside_by l i n None out h = told_by l i n (slice_get l.kinds i) out refl (sym (phase_outside l i out) ∙ h)
outside_by l i n (Some set) out h =
    let none : phase l i ≡ None = ap (λ o. if is_none o then option_and_then (phase_of (has_begun l i)) (slice_get l.kinds i) else None) out in
    absurd cc

pub has_phase : (l : LinkedItems) (i n : ℕ) → phase l i ≡ Some n → HasPhase l i n
has_phase l i n h = outside_by l i n (enclosing_set l.outlines i) refl h

-- After an item of a main part, a part has begun.
pub begun_after : (l : LinkedItems) (i j : ℕ) (kind : ItemKind) → enclosing_set l.outlines j ≡ None → slice_get l.kinds j ≡ Some kind → is_main kind ≡ true → j < i → has_begun l i ≡ true
begun_after l i j kind out is main lt =
    some_below (λ k. kind_is is_main l k && is_none (enclosing_set l.outlines k)) i j lt
    (and_from (kind_is is_main l j) (is_none (enclosing_set l.outlines j)) (ap (λ o. option_map_or is_main o false) is ∙ main) (ap is_none out))

begun_later : (l : LinkedItems) (j i : ℕ) → has_begun l j ≡ true → j < i → has_begun l i ≡ true
begun_later l j i h lt =
    let found = below_some (λ k. kind_is is_main l k && is_none (enclosing_set l.outlines k)) j h in
    some_below (λ k. kind_is is_main l k && is_none (enclosing_set l.outlines k)) i found.0 (omega (arith, found.1.0)) found.1.1

-- ---- places and phases

-- Where a phase begins.
abbrev start : Parts → ℕ → ℕ
start p zero = 0
start p (suc zero) = p.declarations
start p (suc (suc zero)) = p.entries
start p (suc (suc (suc zero))) = p.state_sets
start p (suc (suc (suc (suc zero)))) = p.exits
start p (suc (suc (suc (suc (suc n))))) = p.rest

start_step : (p : Parts) → AreRising p → (n : ℕ) → start p n ≤ start p (suc n)
start_step p r zero = omega arith
start_step p r (suc zero) = r.entries
start_step p r (suc (suc zero)) = r.state_sets
start_step p r (suc (suc (suc zero))) = r.exits
start_step p r (suc (suc (suc (suc zero)))) = r.rest
start_step p r (suc (suc (suc (suc (suc n))))) = omega arith

plus_zero : (m : ℕ) → m + 0 ≡ m
plus_zero m = omega arith

plus_suc : (m k : ℕ) → m + suc k ≡ suc (m + k)
plus_suc m k = omega arith

plus_rest : (m n : ℕ) → m ≤ n → m + (n - m) ≡ n
plus_rest m n le = omega arith

start_rises : (p : Parts) → AreRising p → (m k : ℕ) → start p m ≤ start p (m + k)
start_rises p r m zero = subst (λ (n : ℕ). start p m ≤ start p n) (sym (plus_zero m)) (omega arith)
start_rises p r m (suc k) =
    let before : start p m ≤ start p (m + k) = start_rises p r m k in
    let step : start p (m + k) ≤ start p (suc (m + k)) = start_step p r (m + k) in
    subst (λ (n : ℕ). start p m ≤ start p n) (sym (plus_suc m k)) (omega arith)

start_ordered : (p : Parts) → AreRising p → (m n : ℕ) → m ≤ n → start p m ≤ start p n
start_ordered p r m n le = subst (λ (k : ℕ). start p m ≤ start p k) (plus_rest m n le) (start_rises p r m (n - m))

-- What is known of an item with a phase.
record Stands (l : LinkedItems) (p : Parts) (i n : ℕ) : Type 0 where
  low : start p n ≤ i
  high : (i < start p (suc n)) ⊎ (((n ≡ 1) × (has_begun l i ≡ false)) ⊎ (n ≡ 5))
  most : n ≤ 5
  begins : 2 ≤ n → (j : ℕ) → i < j → has_begun l j ≡ true

none_is : {X : Type 0} (o : Option X) → is_none o ≡ true → o ≡ None
none_is None h = refl
none_is (Some x) h = absurd cc

pub exceeds_parts : (x y : Option ℕ) → exceeds x y ≡ true → (a : ℕ) × (b : ℕ) × (x ≡ Some a) × (y ≡ Some b) × (b < a)
exceeds_parts None y h = absurd cc
exceeds_parts (Some a) None h = absurd cc
exceeds_parts (Some a) (Some b) h = (a, b, refl, refl, ltb-true b a h)

module _ (l : LinkedItems) (o : IsInOrder l) where
  abbrev p : Parts
  p = o.parts

  kind_of : (test : ItemKind → Bool) (j : ℕ) (k : Option ItemKind) → slice_get l.kinds j ≡ k → option_map_or test k false ≡ true → (kind : ItemKind) × ((slice_get l.kinds j ≡ Some kind) × (test kind ≡ true))
  kind_of test j None is h = absurd cc
  kind_of test j (Some kind) is h = (kind, (is, h))

  main_after : (j : ℕ) (kind : ItemKind) → MayBe p j kind → is_main kind ≡ true → p.entries ≤ j
  main_after j Faulty h m = absurd cc
  main_after j Header h m = absurd cc
  main_after j SsBegin h m = omega (arith, h.0, o.rising.state_sets)
  main_after j SsEnd h m = absurd cc
  main_after j State h m = absurd cc
  main_after j Entry h m = h.0
  main_after j Exit h m = omega (arith, h.0, o.rising.state_sets, o.rising.exits)
  main_after j Declaration h m = absurd cc
  main_after j Foreign h m = absurd cc
  main_after j Clause h m = absurd cc
  main_after j OptionLine h m = absurd cc
  main_after j Function h m = absurd cc
  main_after j StructDef h m = absurd cc
  main_after j CBlock h m = absurd cc
  main_after j Empty h m = absurd cc

  -- Where a part has begun, its item is among the entry blocks or after them.
  begun_where : (i : ℕ) → i < length l.outlines → has_begun l i ≡ true → p.entries < i
  begun_where i within h =
      let found = below_some (λ k. kind_is is_main l k && is_none (enclosing_set l.outlines k)) i h in
      let j : ℕ = found.0 in
      let parts = and_parts (kind_is is_main l j) (is_none (enclosing_set l.outlines j)) found.1.1 in
      let kind = kind_of is_main j (slice_get l.kinds j) refl parts.0 in
      let level : IsAtProgramLevel l j = record { within = omega (arith, found.1.0); outside = none_is (enclosing_set l.outlines j) parts.1 } in
      omega (arith, found.1.0, main_after j kind.0 (o.each j kind.0 level kind.1.0) kind.1.1)

  at_phase : (i m n : ℕ) → Some m ≡ Some n → Stands l p i m → Stands l p i n
  at_phase i m n e s = let same : m ≡ n = cc in subst (Stands l p i) same s

  part_at : (i n : ℕ) (b : Bool) → i < length l.outlines → IsDeclared p i → has_begun l i ≡ b → Some (if b then 5 else 1) ≡ Some n → Stands l p i n
  part_at i n true within h begun e =
      let after : p.entries < i = begun_where i within begun in
      at_phase i 5 n e (record {
        low = elim h [ inl early ↦ absurd (omega (arith, early.1)) | inr late ↦ late ];
        high = inr (inr refl);
        most = omega arith;
        begins = λ _ j lt. begun_later l i j begun lt;
      })
  part_at i n false within h begun e =
      let low : p.declarations ≤ i = elim h [ inl early ↦ early.0 | inr late ↦ omega (arith, late, o.rising.entries, o.rising.state_sets, o.rising.exits, o.rising.rest) ] in
      at_phase i 1 n e (record { low = low; high = inr (inl (refl, begun)); most = omega arith; begins = λ big j lt. absurd (omega (arith, big)) })

  part_stands : (i n : ℕ) → i < length l.outlines → IsDeclared p i → Some (if has_begun l i then 5 else 1) ≡ Some n → Stands l p i n
  part_stands i n within h e = part_at i n (has_begun l i) within h refl e

  main_stands : (i m n : ℕ) (kind : ItemKind) → enclosing_set l.outlines i ≡ None → slice_get l.kinds i ≡ Some kind → is_main kind ≡ true → m ≤ 5 → start p m ≤ i → i < start p (suc m) → Some m ≡ Some n → Stands l p i n
  main_stands i m n kind out is main most low high e =
      at_phase i m n e (record { low = low; high = inl high; most = most; begins = λ _ j lt. begun_after l j i kind out is main lt })

  stands_at : (i n : ℕ) (kind : ItemKind) → i < length l.outlines → enclosing_set l.outlines i ≡ None → slice_get l.kinds i ≡ Some kind → MayBe p i kind → phase_of (has_begun l i) kind ≡ Some n → Stands l p i n
  stands_at i n Faulty within out is h e = absurd cc
  stands_at i n Header within out is h e = at_phase i 0 n e (record { low = omega arith; high = inl h; most = omega arith; begins = λ big j lt. absurd (omega (arith, big)) })
  stands_at i n SsBegin within out is h e = main_stands i 3 n SsBegin out is refl (omega arith) h.0 h.1 e
  stands_at i n SsEnd within out is h e = absurd cc
  stands_at i n State within out is h e = elim h [ ]
  stands_at i n Entry within out is h e = main_stands i 2 n Entry out is refl (omega arith) h.0 h.1 e
  stands_at i n Exit within out is h e = main_stands i 4 n Exit out is refl (omega arith) h.0 h.1 e
  stands_at i n Declaration within out is h e = part_stands i n within h e
  stands_at i n Foreign within out is h e = part_stands i n within h e
  stands_at i n Clause within out is h e = part_stands i n within h e
  stands_at i n OptionLine within out is h e = part_stands i n within h e
  stands_at i n Function within out is h e = part_stands i n within h e
  stands_at i n StructDef within out is h e = part_stands i n within h e
  stands_at i n CBlock within out is h e = absurd cc
  stands_at i n Empty within out is h e = absurd cc

  stands : (i n : ℕ) → i < length l.outlines → phase l i ≡ Some n → Stands l p i n
  stands i n within h =
      let has = has_phase l i n h in
      stands_at i n has.kind within has.outside has.is (o.each i has.kind (record { within = within; outside = has.outside }) has.is) has.told

  none_late : (j i a b : ℕ) → Stands l p j a → Stands l p i b → j < i → b < a → ⊥
  none_late j i a b s t lt more =
      elim t.high [
        | inl before ↦ omega (arith, before, s.low, start_ordered p o.rising (suc b) a (omega arith))
        | inr other ↦ elim other [
          | inl part ↦ true≢false (sym (s.begins (omega (arith, part.0)) i lt) ∙ part.1)
          | inr last ↦ omega (arith, last, s.most)
        ]
      ]

  not_late : (i : ℕ) → i < length l.outlines → is_late l i ≡ false
  not_late i within =
      any_below_none (λ j. exceeds (phase l j) (phase l i)) i
      (λ j lt. false_from_ne_true (exceeds (phase l j) (phase l i))
      (λ e. let x = exceeds_parts (phase l j) (phase l i) e in none_late j i x.0 x.1 (stands j x.0 (omega arith) x.2) (stands i x.1 within x.3) lt x.4))

  no_state : (i : ℕ) (kind : ItemKind) → MayBe p i kind → is_state kind ≡ false
  no_state i Faulty h = refl
  no_state i Header h = refl
  no_state i SsBegin h = refl
  no_state i SsEnd h = refl
  no_state i State h = elim h [ ]
  no_state i Entry h = refl
  no_state i Exit h = refl
  no_state i Declaration h = refl
  no_state i Foreign h = refl
  no_state i Clause h = refl
  no_state i OptionLine h = refl
  no_state i Function h = refl
  no_state i StructDef h = refl
  no_state i CBlock h = refl
  no_state i Empty h = refl

  not_state : (i : ℕ) (k : Option ItemKind) → IsAtProgramLevel l i → slice_get l.kinds i ≡ k → option_map_or is_state k false ≡ false
  not_state i None level is = refl
  not_state i (Some kind) level is = no_state i kind (o.each i kind level is)

  not_barred : (i : ℕ) → IsAtProgramLevel l i → is_barred l i ≡ false
  not_barred i level =
      ap (λ b. kind_is (λ k. if b then is_state k else is_barred_in_sets k) l i) (ap is_none level.outside) ∙ not_state i (slice_get l.kinds i) level refl

  pub in_place : (i : ℕ) → IsAtProgramLevel l i → is_misplaced l i ≡ false
  in_place i level =
      and_left (is_late l i || is_barred l i) (not (is_later_program l.outlines i))
      (or_from (is_late l i) (is_barred l i) (not_late i level.within) (not_barred i level))
