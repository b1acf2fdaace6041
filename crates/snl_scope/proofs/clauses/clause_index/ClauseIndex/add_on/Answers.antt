use Rattle.std.proofs.Common.{◌≡◌, ◌∙◌, ◌&&◌, Some, ap, nat_eq, set, slice_get, if◌then◌else◌}
use Rattle.snl_scope.specs.declared.clauses.clause_index.Claim.{Claim}
use Rattle.snl_scope.specs.Claims.{extents_on, same_purpose, with_extent, with_extents}
use Rattle.snl_scope.proofs.ClaimPlaces.{claimed_there, one_more}
use Rattle.snl_scope.proofs.clauses.clause_index.ClauseIndex.add_on.Goals as goal

pub returns : goal.returns
returns c =
    let between = c.claim.new.self in
    let places = between.places.items in
    let claimed = between.claimed.items in
    let one : Claim = record { purpose = c.args.purpose; variable = c.args.variable; extent = c.args.extent } in
    let number = c.args.number in
    let place = c.in_ok-place.place in
    let claims = c.index-claims.result.now in
    let placed = c.in_ok-place.ensures.place in
    let at : slice_get claimed place ≡ Some claims = claimed_there places claimed one.variable place placed claims c.index-claims.ensures in
    record {
      extents = λ v p.
          ap (λ d. extents_on places (set claimed place d) v p)
          (c.with_extents.ensures ∙ ap (with_extents claims one.purpose) (c.with_extent-extents.ensures ∙ ap (λ e. with_extent e one.extent number) c.extents_for.ensures))
          ∙ one_more places claimed one number place claims placed at v p
          ∙ ap (λ e. if same_purpose one.purpose p && nat_eq one.variable v then with_extent e one.extent number else e) (c.in_ok-place.ensures.same v p);
      elements = c.in_ok-place.ensures.elements;
    }
