use Rattle.std.proofs.Common.{◌≡◌, true, sym, subst, ◌∙◌}
use Rattle.std.specs.List.{AllPairs}
use Rattle.snl_kept.specs.Diagnostics.{stands_before}
use Rattle.snl_session.proofs.sessions.Session.diagnostics.Goals as goal

pub returns-clause-rising : goal.returns-clause-rising
returns-clause-rising c =
    subst (AllPairs (λ x y. stands_before x y ≡ true)) (sym (c.as_slice.ensures.value ∙ c.self.invariant.kept.found)) (c.found_once.ensures.rising c.self.inside.text.items)
