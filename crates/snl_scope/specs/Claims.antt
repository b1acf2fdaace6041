-- The claims that sound clauses make on variables, by which an overlap with them is told, and what
-- they say of channels.
use Rattle.std.specs.Prelude.{◌≡◌, ℕ, Bool, true, false, ◌&&◌, ◌||◌, if◌then◌else◌, List, filter, map, nat_eq, nat_lt, slice_get, Option, None, Some, is_some, option_and_then, position}
use Rattle.std.specs.Map.{lookup}
use Rattle.std.specs.Option.{option_map_or, option_or}
use Rattle.snl_scope.specs.declared.clauses.clause_index.Claim.{Claim}
use Rattle.snl_scope.specs.declared.clauses.clause_index.ClauseIndex.{ClauseIndex}
use Rattle.snl_scope.specs.declared.clauses.clause_index.Extent.{Extent}
use Rattle.snl_scope.specs.declared.clauses.clause_index.Extent.TheVariants as extent
use Rattle.snl_scope.specs.declared.clauses.clause_index.Extents.{Extents}
use Rattle.snl_scope.specs.declared.clauses.clause_index.Purpose.{Purpose}
use Rattle.snl_scope.specs.declared.clauses.clause_index.Purpose.TheVariants as purpose
use Rattle.snl_scope.specs.declared.clauses.clause_index.VariableClaims.{VariableClaims}
use Rattle.snl_summary.specs.declared.summary.ClauseKind.{ClauseKind}
use Rattle.snl_summary.specs.declared.summary.ClauseKind.TheVariants as kind
use Rattle.snl_summary.specs.declared.summary.Coverage.{Coverage}
use Rattle.snl_summary.specs.declared.summary.Coverage.TheVariants as coverage
use Rattle.snl_scope.specs.Below.{any_below}
use Rattle.snl_scope.specs.ByNumber.{at_number}
use Rattle.snl_scope.specs.Clauses.{LinkedClause, same_number}

-- `sync` and `syncq` have one purpose.
abbrev pub purpose_of : ClauseKind → Purpose
purpose_of kind.Assign = purpose.Assign
purpose_of kind.Monitor = purpose.Monitor
purpose_of kind.Sync = purpose.Sync
purpose_of kind.Syncq = purpose.Sync

abbrev pub same_purpose : Purpose → Purpose → Bool
same_purpose purpose.Assign purpose.Assign = true
same_purpose purpose.Monitor purpose.Monitor = true
same_purpose purpose.Sync purpose.Sync = true
same_purpose _ _ = false

abbrev pub same_extent : Extent → Extent → Bool
same_extent extent.Any extent.Any = true
same_extent extent.Whole extent.Whole = true
same_extent (extent.Element a) (extent.Element b) = nat_eq a b
same_extent _ _ = false

abbrev pub same_claim : Claim → Claim → Bool
same_claim a b = same_purpose a.purpose b.purpose && nat_eq a.variable b.variable && same_extent a.extent b.extent

-- Every clause claims anything at all; one that covers the whole claims that, any other the
-- elements that it covers.
abbrev pub claims : Coverage → Extent → Bool
claims _ extent.Any = true
claims coverage.Whole extent.Whole = true
claims _ extent.Whole = false
claims coverage.Whole (extent.Element k) = false
claims (coverage.Element e) (extent.Element k) = nat_eq e k
claims (coverage.Front n) (extent.Element k) = nat_lt k n

-- The clause makes the claim.
abbrev pub makes : LinkedClause → Claim → Bool
makes c m = same_purpose (purpose_of c.clause.kind) m.purpose && same_number c.variable (Some m.variable) && claims c.clause.coverage m.extent

-- The sound ones among clauses of which it is told whether they are.
abbrev pub sound_among : List (LinkedClause × Bool) → List LinkedClause
sound_among judged = map (λ p. p.0) (filter (λ p. p.1) judged)

abbrev pub no_extents : Extents
no_extents = record { any = None; whole = None }

abbrev pub extents_for : VariableClaims → Purpose → Extents
extents_for c purpose.Assign = c.assign
extents_for c purpose.Monitor = c.monitor
extents_for c purpose.Sync = c.sync

abbrev pub with_extents : VariableClaims → Purpose → Extents → VariableClaims
with_extents c purpose.Assign e = record c { assign = e }
with_extents c purpose.Monitor e = record c { monitor = e }
with_extents c purpose.Sync e = record c { sync = e }

-- With one claim more, which an earlier one of the same stays before.
abbrev pub with_extent : Extents → Extent → ℕ → Extents
with_extent e extent.Any number = record e { any = option_or e.any (Some number) }
with_extent e extent.Whole number = record e { whole = option_or e.whole (Some number) }
with_extent e (extent.Element k) number = e

-- The place among the claimed ones that is a variable's own.
abbrev pub own_place : List VariableClaims → ℕ → Option ℕ → Option ℕ
own_place claimed variable None = None
own_place claimed variable (Some place) = option_and_then (λ c. if nat_eq c.variable variable then Some place else None) (slice_get claimed place)

abbrev pub place_of : List (Option ℕ) → List VariableClaims → ℕ → Option ℕ
place_of places claimed variable = own_place claimed variable (at_number places variable)

abbrev pub extents_at : List VariableClaims → Purpose → Option ℕ → Extents
extents_at claimed p None = no_extents
extents_at claimed p (Some place) = option_map_or (λ c. extents_for c p) (slice_get claimed place) no_extents

abbrev pub extents_on : List (Option ℕ) → List VariableClaims → ℕ → Purpose → Extents
extents_on places claimed variable p = extents_at claimed p (place_of places claimed variable)

abbrev pub extent_in : Extents → Extent → Option ℕ → Option ℕ
extent_in e extent.Any o = e.any
extent_in e extent.Whole o = e.whole
extent_in e (extent.Element k) o = o

-- The number of the first clause that makes a claim.
abbrev pub claim_in : ClauseIndex → Claim → Option ℕ
claim_in c m = extent_in (extents_on c.places.items c.claimed.items m.variable m.purpose) m.extent (lookup (same_claim m) c.elements)

-- What is claimed of variables stays, but for elements.
abbrev pub KeepsExtents : ClauseIndex → ClauseIndex → Type 0
KeepsExtents old new = (v : ℕ) (p : Purpose) → extents_on new.places.items new.claimed.items v p ≡ extents_on old.places.items old.claimed.items v p

-- One claim more on a variable, and none on an element.
pub record AddsOn (old new : ClauseIndex) (one : Claim) (number : ℕ) : Type 0 where
  pub extents : (v : ℕ) (p : Purpose) → extents_on new.places.items new.claimed.items v p
      ≡ (if same_purpose one.purpose p && nat_eq one.variable v then with_extent (extents_on old.places.items old.claimed.items v p) one.extent number else extents_on old.places.items old.claimed.items v p)
  pub elements : new.elements ≡ old.elements

-- The claims are those that the sound ones among these clauses make, each with the number of the
-- first that makes it.
pub record Claimed (held : ClauseIndex) (judged : List (LinkedClause × Bool)) : Type 0 where
  pub each : (m : Claim) → claim_in held m ≡ position (λ p. p.1 && makes p.0 m) judged

-- The clause with this number makes the claims that pass the test; an earlier one that made a claim
-- stays the first.
pub record Adds (before after : ClauseIndex) (made : Claim → Bool) (number : ℕ) : Type 0 where
  pub each : (m : Claim) → claim_in after m ≡ option_or (claim_in before m) (if made m then Some number else None)

-- The number of the first clause that makes the claim.
abbrev pub claim_number : ClauseIndex → Purpose → ℕ → Extent → Option ℕ
claim_number held p variable e = claim_in held (record { purpose = p; variable = variable; extent = e })

abbrev pub has_claim : ClauseIndex → Purpose → ℕ → Extent → Bool
has_claim held p variable e = is_some (claim_number held p variable e)

-- A clause with this coverage overlaps one that made its claims: whatever covers the whole overlaps
-- any, and an element one that covers it or the whole.
abbrev pub overlaps_claims : ClauseIndex → Purpose → ℕ → Coverage → Bool
overlaps_claims held p variable coverage.Whole = has_claim held p variable extent.Any
overlaps_claims held p variable (coverage.Element k) = has_claim held p variable extent.Whole || has_claim held p variable (extent.Element k)
overlaps_claims held p variable (coverage.Front n) = has_claim held p variable extent.Whole || any_below (λ k. has_claim held p variable (extent.Element k)) n

abbrev pub lesser : Option ℕ → Option ℕ → Option ℕ
lesser None b = b
lesser (Some a) None = Some a
lesser (Some a) (Some b) = if nat_lt b a then Some b else Some a

-- The number of the first clause that speaks of a channel: any clause speaks of that of the whole
-- variable, and of that of an element one that covers the whole or the element.
abbrev pub first_clause : ClauseIndex → Purpose → ℕ → Option ℕ → Option ℕ
first_clause held p variable None = claim_number held p variable extent.Any
first_clause held p variable (Some e) = lesser (claim_number held p variable extent.Whole) (claim_number held p variable (extent.Element e))
