-- Lemmas on claims: those of a clause, and that they tell of an overlap.
use Rattle.std.proofs.Common.{◌≡◌, ℕ, zero, suc, Bool, true, false, ◌&&◌, ◌||◌, List, [], ◌∷◌, nat_eq, nat_lt, Option, None, Some, refl, sym, ap, ◌∙◌, true≢false, arith}
use Rattle.std.proofs.Math.Bool.{or_comm, or-false}
use Rattle.std.proofs.lemmas.Bool.Decides.{Decides-eqb, nat_tests}
use Rattle.std.specs.List.{list_any}
use Rattle.snl_scope.specs.BelowLaws.{any_below_same}
use Rattle.snl_scope.specs.declared.clauses.clause_index.Claim.{Claim}
use Rattle.snl_scope.specs.declared.clauses.clause_index.ClauseIndex.{ClauseIndex}
use Rattle.snl_scope.specs.declared.clauses.clause_index.Extent.{Extent}
use Rattle.snl_scope.specs.declared.clauses.clause_index.Extent.TheVariants as extent
use Rattle.snl_scope.specs.declared.clauses.clause_index.Purpose.{Purpose}
use Rattle.snl_summary.specs.declared.summary.ClauseKind.{ClauseKind}
use Rattle.snl_summary.specs.declared.summary.ClauseKind.TheVariants as kind
use Rattle.snl_summary.specs.declared.summary.Coverage.{Coverage}
use Rattle.snl_summary.specs.declared.summary.Coverage.TheVariants as coverage
use Rattle.snl_scope.specs.Below.{any_below}
use Rattle.snl_scope.specs.Claims.{Adds, Claimed, claims, has_claim, makes, overlaps_claims, purpose_of, same_claim, same_extent, same_purpose, sound_among}
use Rattle.snl_scope.specs.Clauses.{LinkedClause, clash, overlaps, same_kind, same_number}
use Rattle.snl_scope.proofs.FirstClaims.{adds-same, adds-then, claimed-told}

list_any-same : {A : Type 0} (p q : A → Bool) (xs : List A) → ((x : A) → p x ≡ q x) → list_any p xs ≡ list_any q xs
list_any-same p q [] h = refl
list_any-same p q (x ∷ xs) h = ap (λ b. b || list_any p xs) (h x) ∙ ap (λ b. q x || b) (list_any-same p q xs h)

-- a number that passes
pub below-found : (p : ℕ → Bool) (n k : ℕ) → nat_lt k n ≡ true → p k ≡ true → any_below p n ≡ true
below-found p zero k h t = absurd (true≢false (sym h ∙ grind (arith, nat_tests)))
below-found p (suc n) k h t = by (p n) refl (λ l. below-found p n k l t)
  where
    smaller : (c : Bool) → nat_eq k n ≡ c → p n ≡ false → nat_lt k n ≡ true
    smaller true g e = absurd (true≢false (sym t ∙ ap p ((Decides-eqb k n).0 g) ∙ e))
    smaller false g e = grind (arith, nat_tests)

    by : (b : Bool) → p n ≡ b → (nat_lt k n ≡ true → any_below p n ≡ true) → (p n || any_below p n) ≡ true
    by true e f = ap (λ c. c || any_below p n) e
    by false e f = ap (λ c. c || any_below p n) e ∙ f (smaller (nat_eq k n) refl e)

-- the elements that a list of channels covers
below-and : (b c : Bool) (p : ℕ → Bool) (n : ℕ) → any_below (λ k. b && c && p k) n ≡ (b && c && any_below p n)
below-and true true p zero = refl
below-and true true p (suc n) = ap (λ d. p n || d) (below-and true true p n)
below-and true false p zero = refl
below-and true false p (suc n) = below-and true false p n
below-and false c p zero = refl
below-and false c p (suc n) = below-and false c p n

below-nothing : (n : ℕ) → any_below (λ k. false) n ≡ false
below-nothing zero = refl
below-nothing (suc n) = below-nothing n

eq-sym : (a b : ℕ) → nat_eq a b ≡ nat_eq b a
eq-sym a b = grind (arith, nat_tests)

below-one : (j n : ℕ) → any_below (λ k. nat_eq k j) n ≡ nat_lt j n
below-one j zero = grind (arith, nat_tests)
below-one j (suc n) = ap (λ b. nat_eq n j || b) (below-one j n) ∙ grind (arith, nat_tests)

-- two lists have a common element, unless one is empty
below-front : (j n : ℕ) → any_below (λ k. nat_lt k j) n ≡ (nat_lt 0 n && nat_lt 0 j)
below-front j zero = grind (arith, nat_tests)
below-front j (suc n) = ap (λ b. nat_lt n j || b) (below-front j n) ∙ grind (arith, nat_tests)

-- what a clause claims
pub and-or : (p n a b : Bool) → ((p && n && a) || (p && n && b)) ≡ (p && n && (a || b))
and-or true true a b = refl
and-or true false a b = refl
and-or false n a b = refl

whole_claims : (e : Extent) → (same_extent extent.Whole e || same_extent extent.Any e) ≡ claims coverage.Whole e
whole_claims extent.Any = refl
whole_claims extent.Whole = refl
whole_claims (extent.Element j) = refl

element_claims : (k : ℕ) (e : Extent) → (same_extent (extent.Element k) e || same_extent extent.Any e) ≡ claims (coverage.Element k) e
element_claims k extent.Any = refl
element_claims k extent.Whole = refl
element_claims k (extent.Element j) = or-false (nat_eq k j)

front_claims : (n : ℕ) (e : Extent) → (any_below (λ k. same_extent (extent.Element k) e) n || same_extent extent.Any e) ≡ claims (coverage.Front n) e
front_claims n extent.Any = or_comm (any_below (λ k. false) n) true
front_claims n extent.Whole = ap (λ b. b || false) (below-nothing n)
front_claims n (extent.Element j) = or-false (any_below (λ k. nat_eq k j) n) ∙ below-one j n

module _ (p : Purpose) (v : ℕ) (before any after : ClauseIndex) (number : ℕ)
    (first : Adds before any (same_claim (record { purpose = p; variable = v; extent = extent.Any })) number) where
  abbrev claims_of : (Extent → Bool) → Claim → Bool
  claims_of test m = same_purpose p m.purpose && nat_eq v m.variable && test m.extent

  together : (test : Extent → Bool) (c : Coverage) → ((e : Extent) → (test e || same_extent extent.Any e) ≡ claims c e)
      → Adds any after (claims_of test) number → Adds before after (claims_of (claims c)) number
  together test c h more =
      adds-same before after (λ m. claims_of test m || claims_of (same_extent extent.Any) m) (claims_of (claims c)) number (λ m.
      and-or (same_purpose p m.purpose) (nat_eq v m.variable) (test m.extent) (same_extent extent.Any m.extent)
      ∙ ap (λ b. same_purpose p m.purpose && nat_eq v m.variable && b) (h m.extent))
      (adds-then before any after (claims_of (same_extent extent.Any)) (claims_of test) number first more)

  pub makes_whole : Adds any after (claims_of (same_extent extent.Whole)) number → Adds before after (claims_of (claims coverage.Whole)) number
  makes_whole more = together (same_extent extent.Whole) coverage.Whole whole_claims more

  pub makes_element : (k : ℕ) → Adds any after (claims_of (same_extent (extent.Element k))) number → Adds before after (claims_of (claims (coverage.Element k))) number
  makes_element k more = together (same_extent (extent.Element k)) (coverage.Element k) (element_claims k) more

  pub makes_front : (n : ℕ) → Adds any after (λ m. any_below (λ k. claims_of (same_extent (extent.Element k)) m) n) number
      → Adds before after (claims_of (claims (coverage.Front n))) number
  makes_front n more =
      together (λ e. any_below (λ k. same_extent (extent.Element k) e) n) (coverage.Front n) (front_claims n)
      (adds-same any after (λ m. any_below (λ k. claims_of (same_extent (extent.Element k)) m) n) (claims_of (λ e. any_below (λ k. same_extent (extent.Element k) e) n)) number
      (λ m. below-and (same_purpose p m.purpose) (nat_eq v m.variable) (λ k. same_extent (extent.Element k) m.extent) n) more)

-- an overlap with a sound clause is told by its claims
kinds : (a b : ClauseKind) → same_purpose (purpose_of b) (purpose_of a) ≡ same_kind a b
kinds kind.Assign kind.Assign = refl
kinds kind.Assign kind.Monitor = refl
kinds kind.Assign kind.Sync = refl
kinds kind.Assign kind.Syncq = refl
kinds kind.Monitor kind.Assign = refl
kinds kind.Monitor kind.Monitor = refl
kinds kind.Monitor kind.Sync = refl
kinds kind.Monitor kind.Syncq = refl
kinds kind.Sync kind.Assign = refl
kinds kind.Sync kind.Monitor = refl
kinds kind.Sync kind.Sync = refl
kinds kind.Sync kind.Syncq = refl
kinds kind.Syncq kind.Assign = refl
kinds kind.Syncq kind.Monitor = refl
kinds kind.Syncq kind.Sync = refl
kinds kind.Syncq kind.Syncq = refl

pub numbers : (a : Option ℕ) (v : ℕ) → same_number a (Some v) ≡ same_number (Some v) a
numbers None v = refl
numbers (Some a) v = eq-sym a v

any_overlaps : (d : Coverage) → claims d extent.Any ≡ overlaps coverage.Whole d
any_overlaps coverage.Whole = refl
any_overlaps (coverage.Element b) = refl
any_overlaps (coverage.Front k) = refl

element_overlaps : (a : ℕ) (d : Coverage) → (claims d extent.Whole || claims d (extent.Element a)) ≡ overlaps (coverage.Element a) d
element_overlaps a coverage.Whole = refl
element_overlaps a (coverage.Element b) = eq-sym b a
element_overlaps a (coverage.Front k) = refl

front_overlaps : (n : ℕ) (d : Coverage) → (claims d extent.Whole || any_below (λ k. claims d (extent.Element k)) n) ≡ overlaps (coverage.Front n) d
front_overlaps n coverage.Whole = refl
front_overlaps n (coverage.Element b) = any_below_same (λ k. nat_eq b k) (λ k. nat_eq k b) n (λ k l. eq-sym b k) ∙ below-one b n
front_overlaps n (coverage.Front j) = below-front j n

or-any : {A : Type 0} (p q : A → Bool) (xs : List A) → (list_any p xs || list_any q xs) ≡ list_any (λ x. p x || q x) xs
or-any p q [] = refl
or-any p q (x ∷ xs) = by (p x) (q x) (list_any p xs) (list_any q xs) ∙ ap (λ b. (p x || q x) || b) (or-any p q xs)
  where
    by : (a b c d : Bool) → ((a || c) || (b || d)) ≡ ((a || b) || (c || d))
    by true b c d = refl
    by false true true d = refl
    by false true false d = refl
    by false false true d = refl
    by false false false d = refl

below-any : {A : Type 0} (p : ℕ → A → Bool) (xs : List A) (n : ℕ) → any_below (λ k. list_any (p k) xs) n ≡ list_any (λ x. any_below (λ k. p k x) n) xs
below-any p xs zero = sym (none xs)
  where
    none : {A : Type 0} (ys : List A) → list_any (λ y. false) ys ≡ false
    none [] = refl
    none (y ∷ ys) = none ys
below-any p xs (suc n) = ap (λ b. list_any (p n) xs || b) (below-any p xs n) ∙ or-any (p n) (λ x. any_below (λ k. p k x) n) xs

module _ (held : ClauseIndex) (judged : List (LinkedClause × Bool)) (c : LinkedClause) (v : ℕ) (f : Claimed held judged) (is : c.variable ≡ Some v) where
  abbrev sound : List LinkedClause
  sound = sound_among judged

  abbrev claim : Extent → Claim
  claim e = record { purpose = purpose_of c.clause.kind; variable = v; extent = e }

  abbrev of_kind : LinkedClause → Bool
  of_kind d = same_purpose (purpose_of d.clause.kind) (purpose_of c.clause.kind)

  abbrev of_variable : LinkedClause → Bool
  of_variable d = same_number d.variable (Some v)

  clashes : (d : LinkedClause) (a : Bool) → a ≡ overlaps c.clause.coverage d.clause.coverage → (of_kind d && of_variable d && a) ≡ clash c d
  clashes d a h =
      ap (λ b. b && of_variable d && a) (kinds c.clause.kind d.clause.kind)
      ∙ ap (λ b. same_kind c.clause.kind d.clause.kind && b && a) (numbers d.variable v ∙ ap (λ o. same_number o d.variable) (sym is))
      ∙ ap (λ b. same_kind c.clause.kind d.clause.kind && same_number c.variable d.variable && b) h

  at_whole : c.clause.coverage ≡ coverage.Whole → has_claim held (purpose_of c.clause.kind) v extent.Any ≡ list_any (clash c) sound
  at_whole h =
      claimed-told held judged f (claim extent.Any)
      ∙ list_any-same (λ d. makes d (claim extent.Any)) (clash c) sound (λ d.
      clashes d (claims d.clause.coverage extent.Any) (any_overlaps d.clause.coverage ∙ ap (λ o. overlaps o d.clause.coverage) (sym h)))

  at_element : (k : ℕ) → c.clause.coverage ≡ coverage.Element k
      → (has_claim held (purpose_of c.clause.kind) v extent.Whole || has_claim held (purpose_of c.clause.kind) v (extent.Element k)) ≡ list_any (clash c) sound
  at_element k h =
      ap (λ b. b || has_claim held (purpose_of c.clause.kind) v (extent.Element k)) (claimed-told held judged f (claim extent.Whole))
      ∙ ap (λ b. list_any (λ d. makes d (claim extent.Whole)) sound || b) (claimed-told held judged f (claim (extent.Element k)))
      ∙ or-any (λ d. makes d (claim extent.Whole)) (λ d. makes d (claim (extent.Element k))) sound
      ∙ list_any-same (λ d. makes d (claim extent.Whole) || makes d (claim (extent.Element k))) (clash c) sound (λ d.
      and-or (of_kind d) (of_variable d) (claims d.clause.coverage extent.Whole) (claims d.clause.coverage (extent.Element k))
      ∙ clashes d (claims d.clause.coverage extent.Whole || claims d.clause.coverage (extent.Element k)) (element_overlaps k d.clause.coverage ∙ ap (λ o. overlaps o d.clause.coverage) (sym h)))

  at_front : (n : ℕ) → c.clause.coverage ≡ coverage.Front n
      → (has_claim held (purpose_of c.clause.kind) v extent.Whole || any_below (λ k. has_claim held (purpose_of c.clause.kind) v (extent.Element k)) n) ≡ list_any (clash c) sound
  at_front n h =
      ap (λ b. b || any_below (λ k. has_claim held (purpose_of c.clause.kind) v (extent.Element k)) n) (claimed-told held judged f (claim extent.Whole))
      ∙ ap (λ b. list_any (λ d. makes d (claim extent.Whole)) sound || b)
      (any_below_same (λ k. has_claim held (purpose_of c.clause.kind) v (extent.Element k)) (λ k. list_any (λ d. makes d (claim (extent.Element k))) sound) n (λ k l. claimed-told held judged f (claim (extent.Element k)))
      ∙ below-any (λ k d. makes d (claim (extent.Element k))) sound n)
      ∙ or-any (λ d. makes d (claim extent.Whole)) (λ d. any_below (λ k. makes d (claim (extent.Element k))) n) sound
      ∙ list_any-same (λ d. makes d (claim extent.Whole) || any_below (λ k. makes d (claim (extent.Element k))) n) (clash c) sound (λ d.
      ap (λ b. makes d (claim extent.Whole) || b) (below-and (of_kind d) (of_variable d) (λ k. claims d.clause.coverage (extent.Element k)) n)
      ∙ and-or (of_kind d) (of_variable d) (claims d.clause.coverage extent.Whole) (any_below (λ k. claims d.clause.coverage (extent.Element k)) n)
      ∙ clashes d (claims d.clause.coverage extent.Whole || any_below (λ k. claims d.clause.coverage (extent.Element k)) n)
      (front_overlaps n d.clause.coverage ∙ ap (λ o. overlaps o d.clause.coverage) (sym h)))

  by_coverage : (o : Coverage) → c.clause.coverage ≡ o → overlaps_claims held (purpose_of c.clause.kind) v o ≡ list_any (clash c) sound
  by_coverage coverage.Whole h = at_whole h
  by_coverage (coverage.Element k) h = at_element k h
  by_coverage (coverage.Front n) h = at_front n h

  pub overlap_clash : overlaps_claims held (purpose_of c.clause.kind) v c.clause.coverage ≡ list_any (clash c) sound
  overlap_clash = by_coverage c.clause.coverage refl
