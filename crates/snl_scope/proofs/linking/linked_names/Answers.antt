use Rattle.snl_scope.proofs.linking.linked_names.Goals as goal

pub invariant_of-scopes : goal.invariant_of-scopes
invariant_of-scopes c = ((c.in_ok-places.ensures.places, c.in_ok-places.ensures.heads), c.in_ok-tables.ensures.tabled)
