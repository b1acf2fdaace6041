use Rattle.std.proofs.Common.{◌≡◌, ℕ, inl, inr, Bool, true, false, ◌&&◌, nat_eq, Option, None, Some, refl, sym, ap, subst, ◌∙◌, if◌then◌else◌}
use Rattle.std.proofs.lemmas.Result.{on_ok_weaker}
use Rattle.std.specs.Map.{lookup}
use Rattle.std.specs.Option.{option_or}
use Rattle.snl_scope.specs.declared.clauses.clause_index.Claim.{Claim}
use Rattle.snl_scope.specs.declared.clauses.clause_index.ClauseIndex.{ClauseIndex}
use Rattle.snl_scope.specs.declared.clauses.clause_index.Extent.{Extent}
use Rattle.snl_scope.specs.declared.clauses.clause_index.Extent.TheVariants as extent
use Rattle.snl_scope.specs.declared.clauses.clause_index.Extents.{Extents}
use Rattle.snl_scope.specs.Claims.{Adds, AddsOn, extent_in, extents_on, same_claim, same_extent, same_purpose, with_extent}
use Rattle.snl_scope.proofs.clauses.clause_index.ClauseIndex.add.Goals as goal

abbrev number_if : Bool → ℕ → Option ℕ
number_if b number = if b then Some number else None

or-nothing : (o : Option ℕ) → o ≡ option_or o None
or-nothing None = refl
or-nothing (Some n) = refl

-- what is told of a claim, after one that is none on an element
abbrev Told : Bool → Bool → Extents → Extent → ℕ → Extent → Option ℕ → Type 0
Told p q e x number y o =
    extent_in (if p && q then with_extent e x number else e) y o ≡ option_or (extent_in e y o) (number_if (p && q && same_extent x y) number)

any-told : (p q : Bool) (e : Extents) (number : ℕ) (y : Extent) (o : Option ℕ) → Told p q e extent.Any number y o
any-told false q e number y o = or-nothing (extent_in e y o)
any-told true false e number y o = or-nothing (extent_in e y o)
any-told true true e number extent.Any o = refl
any-told true true e number extent.Whole o = or-nothing e.whole
any-told true true e number (extent.Element k) o = or-nothing o

whole-told : (p q : Bool) (e : Extents) (number : ℕ) (y : Extent) (o : Option ℕ) → Told p q e extent.Whole number y o
whole-told false q e number y o = or-nothing (extent_in e y o)
whole-told true false e number y o = or-nothing (extent_in e y o)
whole-told true true e number extent.Any o = or-nothing e.any
whole-told true true e number extent.Whole o = refl
whole-told true true e number (extent.Element k) o = or-nothing o

-- the same after one on an element
element-told : (p q : Bool) (e : Extents) (k number : ℕ) (y : Extent) (o o' : Option ℕ)
    → o' ≡ option_or o (number_if (p && q && same_extent (extent.Element k) y) number)
    → extent_in e y o' ≡ option_or (extent_in e y o) (number_if (p && q && same_extent (extent.Element k) y) number)
element-told p q e k number (extent.Element j) o o' h = h
element-told false q e k number extent.Any o o' h = or-nothing e.any
element-told true false e k number extent.Any o o' h = or-nothing e.any
element-told true true e k number extent.Any o o' h = or-nothing e.any
element-told false q e k number extent.Whole o o' h = or-nothing e.whole
element-told true false e k number extent.Whole o o' h = or-nothing e.whole
element-told true true e k number extent.Whole o o' h = or-nothing e.whole

pub returns-in-Any : goal.returns-in-Any
returns-in-Any c =
    let old = c.args.self.now in
    let new = c.add_on.new.self in
    let number = c.args.number in
    let x = c.args.extent in
    let one : Claim = record { purpose = c.args.purpose; variable = c.args.variable; extent = x } in
    let told : (p q : Bool) (e : Extents) (y : Extent) (o : Option ℕ) → Told p q e x number y o = λ p q e y o.
    elim c.in-Any.is [
      | inl any ↦ subst (λ z. Told p q e z number y o) (sym any) (any-told p q e number y o)
      | inr whole ↦ subst (λ z. Told p q e z number y o) (sym whole) (whole-told p q e number y o)
    ] in
    let adds : AddsOn old new one number → Adds old new (same_claim one) number = λ made. record {
      each = λ m.
          ap (λ es. extent_in (extents_on new.places.items new.claimed.items m.variable m.purpose) m.extent (lookup (same_claim m) es)) made.elements
          ∙ ap (λ e. extent_in e m.extent (lookup (same_claim m) old.elements)) (made.extents m.variable m.purpose)
          ∙ told (same_purpose one.purpose m.purpose) (nat_eq one.variable m.variable) (extents_on old.places.items old.claimed.items m.variable m.purpose) m.extent (lookup (same_claim m) old.elements);
    } in
    on_ok_weaker c.add_on.result adds c.add_on.ensures

pub returns-in-Element : goal.returns-in-Element
returns-in-Element c =
    let old = c.args.self.now in
    let after : ClauseIndex = record { places = old.places; claimed = old.claimed; elements = c.add_element.new.elements } in
    let k = c.in-Element.field-0 in
    let number = c.args.number in
    let one : Claim = record { purpose = c.args.purpose; variable = c.args.variable; extent = c.args.extent } in
    let Found : Claim → Type 0 = λ m. lookup (same_claim m) after.elements ≡ option_or (lookup (same_claim m) old.elements) (if same_claim one m then Some number else None) in
    let adds : ((m : Claim) → Found m) → Adds old after (same_claim one) number = λ made. record {
      each = λ m.
          let p = same_purpose one.purpose m.purpose in
          let q = nat_eq one.variable m.variable in
          let o = lookup (same_claim m) old.elements in
          let o' = lookup (same_claim m) after.elements in
          let e = extents_on old.places.items old.claimed.items m.variable m.purpose in
          subst (λ x. o' ≡ option_or o (number_if (p && q && same_extent x m.extent) number)
          → extent_in e m.extent o' ≡ option_or (extent_in e m.extent o) (number_if (p && q && same_extent x m.extent) number))
          (sym c.in-Element.is) (element-told p q e k number m.extent o o') (made m);
    } in
    on_ok_weaker c.add_element.result adds c.add_element.ensures
