use Rattle.std.proofs.Common.{◌≡◌, ◌∙◌, ◌++◌, ◌∷◌, [], ℕ, List, Option, None, Some, length, ap, ap₂, subst, sym}
use Rattle.snl_scope.specs.declared.clauses.clause_index.VariableClaims.{VariableClaims}
use Rattle.snl_scope.specs.ByNumber.{IsPutAt}
use Rattle.snl_scope.specs.Claims.{extents_on, place_of}
use Rattle.snl_scope.proofs.ClaimPlaces.{fresh, own_now, placed_keeps}
use Rattle.snl_scope.proofs.clauses.clause_index.ClauseIndex.claim.Goals as goal

pub returns-clause-same : goal.returns-clause-same
returns-clause-same c = λ v p.
    let old = c.args.self.now in
    let places = c.put_at.new.list.items in
    let variable = c.args.variable in
    let count : c.len-place.result ≡ length old.claimed.items = c.len-place.ensures ∙ old.claimed.ok.0 in
    let is : IsPutAt old.places.items places variable (length old.claimed.items) = subst (IsPutAt old.places.items places variable) count c.in_ok-put_at.ensures in
    let none : place_of old.places.items old.claimed.items variable ≡ None =
    sym (c.place_of.ensures ∙ ap₂ (λ (ps : List (Option ℕ)) (cs : List VariableClaims). place_of ps cs variable) c.deref.ensures.value c.deref-2.ensures.value) ∙ c.in_default.is in
    ap (λ l. extents_on places l v p) (c.push_reserved.ensures.items ∙ ap (λ l. l ++ fresh old.places.items places old.claimed.items variable is ∷ []) c.in_ok-reserve.ensures.items)
    ∙ placed_keeps old.places.items places old.claimed.items variable is none v p

pub returns-clause-place : goal.returns-clause-place
returns-clause-place c =
    let old = c.args.self.now in
    let places = c.put_at.new.list.items in
    let variable = c.args.variable in
    let count : c.len-place.result ≡ length old.claimed.items = c.len-place.ensures ∙ old.claimed.ok.0 in
    let is : IsPutAt old.places.items places variable (length old.claimed.items) = subst (IsPutAt old.places.items places variable) count c.in_ok-put_at.ensures in
    ap (λ l. place_of places l variable) (c.push_reserved.ensures.items ∙ ap (λ l. l ++ fresh old.places.items places old.claimed.items variable is ∷ []) c.in_ok-reserve.ensures.items)
    ∙ own_now old.places.items places old.claimed.items variable is ∙ ap Some (sym count)
