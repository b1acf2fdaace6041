-- Lemmas on channels: what claims tell of the first clause that speaks of one.
use Rattle.std.proofs.Common.{◌≡◌, ℕ, Bool, true, false, ◌&&◌, ◌||◌, List, Option, None, Some, is_some, [], refl, sym, ap, ◌∙◌}
use Rattle.std.proofs.Math.Bool.{and_assoc}
use Rattle.std.specs.List.{list_any, position, zip}
use Rattle.snl_scope.specs.declared.clauses.clause_index.Claim.{Claim}
use Rattle.snl_scope.specs.declared.clauses.clause_index.ClauseIndex.{ClauseIndex}
use Rattle.snl_scope.specs.declared.clauses.clause_index.Extent.{Extent}
use Rattle.snl_scope.specs.declared.clauses.clause_index.Extent.TheVariants as extent
use Rattle.snl_scope.specs.declared.clauses.clause_index.Purpose.{Purpose}
use Rattle.snl_scope.specs.declared.clauses.clause_index.Purpose.TheVariants as purpose
use Rattle.snl_summary.specs.declared.summary.ClauseKind.{ClauseKind}
use Rattle.snl_summary.specs.declared.summary.ClauseKind.TheVariants as kind
use Rattle.snl_summary.specs.declared.summary.Coverage.{Coverage}
use Rattle.snl_summary.specs.declared.summary.Coverage.TheVariants as coverage
use Rattle.snl_summary.specs.declared.summary.Outline.{Outline}
use Rattle.snl_scope.specs.Channels.{is_monitor, is_monitored, is_sync, speaks_of, speaks_on, sync_number}
use Rattle.snl_scope.specs.Claims.{Claimed, claim_number, claims, first_clause, lesser, makes, purpose_of, same_purpose, sound_among}
use Rattle.snl_scope.specs.Clauses.{LinkedClause, clauses_of, same_number, soundness}
use Rattle.snl_scope.specs.Names.{entries}
use Rattle.snl_scope.proofs.FirstClaims.{any-among}
use Rattle.snl_scope.proofs.Judging.{sound-judged}
use Rattle.snl_scope.proofs.Numbering.{position-either, position-same}
use Rattle.snl_scope.proofs.Overlaps.{and-or, numbers}

monitors : (k : ClauseKind) → same_purpose (purpose_of k) purpose.Monitor ≡ is_monitor k
monitors kind.Assign = refl
monitors kind.Monitor = refl
monitors kind.Sync = refl
monitors kind.Syncq = refl

syncs : (k : ClauseKind) → same_purpose (purpose_of k) purpose.Sync ≡ is_sync k
syncs kind.Assign = refl
syncs kind.Monitor = refl
syncs kind.Sync = refl
syncs kind.Syncq = refl

any_speaks : (c : Coverage) → claims c extent.Any ≡ speaks_of c None
any_speaks coverage.Whole = refl
any_speaks (coverage.Element k) = refl
any_speaks (coverage.Front n) = refl

element_speaks : (c : Coverage) (e : ℕ) → (claims c extent.Whole || claims c (extent.Element e)) ≡ speaks_of c (Some e)
element_speaks coverage.Whole e = refl
element_speaks (coverage.Element k) e = refl
element_speaks (coverage.Front n) e = refl

module _ (held : ClauseIndex) (judged : List (LinkedClause × Bool)) (f : Claimed held judged) (p : Purpose) (v : ℕ)
    (test : ClauseKind → Bool) (is : (k : ClauseKind) → same_purpose (purpose_of k) p ≡ test k) where
  abbrev claim : Extent → Claim
  claim e = record { purpose = p; variable = v; extent = e }

  abbrev speaks : Option ℕ → LinkedClause → Bool
  speaks element c = test c.clause.kind && speaks_on v element c

  spoken : (c : LinkedClause) (element : Option ℕ) (a : Bool) → a ≡ speaks_of c.clause.coverage element
      → (same_purpose (purpose_of c.clause.kind) p && same_number c.variable (Some v) && a) ≡ speaks element c
  spoken c element a h =
      ap (λ b. b && same_number c.variable (Some v) && a) (is c.clause.kind) ∙ ap (λ b. test c.clause.kind && b && a) (numbers c.variable v)
      ∙ ap (λ b. test c.clause.kind && same_number (Some v) c.variable && b) h
      ∙ and_assoc (test c.clause.kind) (same_number (Some v) c.variable) (speaks_of c.clause.coverage element)

  whole : first_clause held p v None ≡ position (λ r. r.1 && speaks None r.0) judged
  whole =
      f.each (claim extent.Any)
      ∙ position-same (λ r. r.1 && makes r.0 (claim extent.Any)) (λ r. r.1 && speaks None r.0) judged (λ r.
      ap (λ b. r.1 && b) (spoken r.0 None (claims r.0.clause.coverage extent.Any) (any_speaks r.0.clause.coverage)))

  either : (s a b : Bool) → ((s && a) || (s && b)) ≡ (s && (a || b))
  either true a b = refl
  either false a b = refl

  of_element : (e : ℕ) → first_clause held p v (Some e) ≡ position (λ r. r.1 && speaks (Some e) r.0) judged
  of_element e =
      ap (λ o. lesser o (claim_number held p v (extent.Element e))) (f.each (claim extent.Whole))
      ∙ ap (lesser (position (λ r. r.1 && makes r.0 (claim extent.Whole)) judged)) (f.each (claim (extent.Element e)))
      ∙ position-either (λ r. r.1 && makes r.0 (claim extent.Whole)) (λ r. r.1 && makes r.0 (claim (extent.Element e))) judged
      ∙ position-same (λ r. (r.1 && makes r.0 (claim extent.Whole)) || (r.1 && makes r.0 (claim (extent.Element e)))) (λ r. r.1 && speaks (Some e) r.0) judged (λ r.
      either r.1 (makes r.0 (claim extent.Whole)) (makes r.0 (claim (extent.Element e)))
      ∙ ap (λ b. r.1 && b)
      (and-or (same_purpose (purpose_of r.0.clause.kind) p) (same_number r.0.variable (Some v)) (claims r.0.clause.coverage extent.Whole) (claims r.0.clause.coverage (extent.Element e))
      ∙ spoken r.0 (Some e) (claims r.0.clause.coverage extent.Whole || claims r.0.clause.coverage (extent.Element e)) (element_speaks r.0.clause.coverage e)))

  pub channel-first : (element : Option ℕ) → first_clause held p v element ≡ position (λ r. r.1 && speaks element r.0) judged
  channel-first None = whole
  channel-first (Some e) = of_element e

  pub channel-any : (element : Option ℕ) → is_some (first_clause held p v element) ≡ list_any (speaks element) (sound_among judged)
  channel-any element = ap is_some (channel-first element) ∙ any-among (speaks element) judged

-- what the claims of all sound clauses tell
module _ (ss : List Outline) (held : ClauseIndex) (f : Claimed held (zip (clauses_of ss) (soundness ss))) (v : ℕ) (element : Option ℕ) where
  pub monitored-claims : is_some (first_clause held purpose.Monitor v element) ≡ is_monitored ss v element
  monitored-claims =
      channel-any held (zip (clauses_of ss) (soundness ss)) f purpose.Monitor v is_monitor monitors element
      ∙ ap (list_any (λ c. is_monitor c.clause.kind && speaks_on v element c)) (sound-judged (entries ss) (clauses_of ss) [] (clauses_of ss))

  pub sync-claims : first_clause held purpose.Sync v element ≡ sync_number ss v element
  sync-claims =
      channel-first held (zip (clauses_of ss) (soundness ss)) f purpose.Sync v is_sync syncs element
      ∙ position-same (λ p. p.1 && (is_sync p.0.clause.kind && speaks_on v element p.0)) (λ p. p.1 && is_sync p.0.clause.kind && speaks_on v element p.0)
      (zip (clauses_of ss) (soundness ss)) (λ p. sym (and_assoc p.1 (is_sync p.0.clause.kind) (speaks_on v element p.0)))
