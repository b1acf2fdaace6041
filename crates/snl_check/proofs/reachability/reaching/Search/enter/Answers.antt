use Rattle.std.proofs.Common.{◌≡◌, get_or, Some, sym, ap, subst, refl, ◌∙◌}
use Rattle.std.proofs.lemmas.Option.{slice_get_read}
use Rattle.snl_check.proofs.Searching.{enters-new, enters-seen}
use Rattle.snl_check.proofs.reachability.reaching.Search.enter.Goals as goal

pub returns-in_ok-push : goal.returns-in_ok-push
returns-in_ok-push c =
    let search = c.args.self.now in
    let unseen = sym (subst (λ b. b ≡ get_or search.reached.items c.args.state b) c.if-not-index.true c.index.ensures) in
    enters-new search _ c.args.state c.requires unseen refl c.in_ok-push.ensures.items

pub returns-else-not-index : goal.returns-else-not-index
returns-else-not-index c =
    let search = c.args.self.now in
    enters-seen search c.args.state (slice_get_read search.reached.items _ c.args.state c.index.result.now refl c.requires c.index.ensures ∙ ap Some c.if-not-index.false)
