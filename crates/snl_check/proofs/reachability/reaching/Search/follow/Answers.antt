use Rattle.std.proofs.Common.{rules, false, replicate, ◌<◌, length, All, refl, sym, ap, subst, ◌∙◌, arith}
use Rattle.std.proofs.lemmas.Bool.{eqb-false, eqb-true}
use Rattle.std.proofs.lemmas.List.{length-map}
use Rattle.snl_check.specs.declared.reachability.reaching.Search.{Search}
use Rattle.snl_check.specs.Reach.{target_lists}
use Rattle.snl_check.proofs.FewSteps.{each_decided}
use Rattle.snl_check.proofs.Walks.{Follows, follows_all, follows_first, follows_more, follows_none, own_states, own_targets, row_within}
use Rattle.snl_check.proofs.reachability.reaching.Search.follow.Goals as goal
use Rattle.snl_check.proofs.reachability.reaching.Search.follow.Goals.{then-not-is_empty+in_ok-enter, else-not-is_empty}

pub loop-state-init : goal.loop-state-init
loop-state-init c =
    let rows = c.args.targets.now in
    let targets = target_lists rows in
    let same = length-map rows (λ row. row.items) in
    let none_yet = c.in_ok-begin.ensures.reached ∙ ap (λ n. replicate n false) (sym same) in
    elim c.if-not-is_empty.branch [
      | then-not-is_empty+in_ok-enter w ↦
          let some = eqb-false (length rows) 0 (sym c.is_empty.ensures ∙ w.if-not-is_empty.true) in
          subst (Follows targets) (sym w.self-is) (follows_first targets c.begin.new.self none_yet c.in_ok-begin.ensures.waiting w.enter.new.self (omega (arith, some, same)) w.in_ok-enter.ensures)
      | else-not-is_empty w ↦
          let none = eqb-true (length rows) 0 (sym c.is_empty.ensures ∙ w.if-not-is_empty.false) in
          subst (Follows targets) (sym w.self-is) (follows_none targets c.begin.new.self none_yet c.in_ok-begin.ensures.waiting (same ∙ none))
    ]

pub bounds-targets-state : goal.bounds-targets-state
bounds-targets-state c = row_within c.args.targets.now c.loop-state.self c.pop.new.self c.in-Some.state c.loop-state.invariant c.in-Some.ensures.items

pub offset_bounds-targets-state : goal.offset_bounds-targets-state
offset_bounds-targets-state c =
    let below = row_within c.args.targets.now c.loop-state.self c.pop.new.self c.in-Some.state c.loop-state.invariant c.in-Some.ensures.items in
    search rules

pub enter_all-requires : goal.enter_all-requires
enter_all-requires c =
    let row = c.index-targets-state.result in
    let below = row_within c.args.targets.now c.loop-state.self c.pop.new.self c.in-Some.state c.loop-state.invariant c.in-Some.ensures.items in
    let states = own_states c.args.targets.now c.in-Some.state row below c.index-targets-state.is c.requires in
    subst (All (λ s. s < length c.loop-state.self.reached.items)) (sym c.deref.ensures.value) (subst (λ n. All (λ s. s < n) row.items) (sym c.loop-state.invariant.as_long) states)

pub loop-state-preserved : goal.loop-state-preserved
loop-state-preserved c =
    let rows = c.args.targets.now in
    let row = c.index-targets-state.result in
    let taken : Search = record { reached = c.loop-state.self.reached; waiting = c.pop.new.self } in
    let below = row_within rows c.loop-state.self c.pop.new.self c.in-Some.state c.loop-state.invariant c.in-Some.ensures.items in
    let own = own_targets rows c.in-Some.state row below c.index-targets-state.is ∙ sym c.deref.ensures.value in
    let states = subst (All (λ t. t < length (target_lists rows))) (sym c.deref.ensures.value) (own_states rows c.in-Some.state row below c.index-targets-state.is c.requires) in
    follows_more (target_lists rows) c.loop-state.self taken c.in-Some.state c.loop-state.invariant refl c.in-Some.ensures.items c.enter_all.new.self c.deref.result.now own states c.in_ok-enter_all.ensures

pub returns-clause-reached : goal.returns-clause-reached
returns-clause-reached c =
    follows_all (target_lists c.args.targets.now) c.loop-state.self c.loop-state.invariant (omega (arith, c.in_default.ensures.cases.0, c.loop-state.self.waiting.ok.0))

pub returns-clause-decided : goal.returns-clause-decided
returns-clause-decided c =
    let rows = c.args.targets.now in
    let search = c.loop-state.self in
    let says = follows_all (target_lists rows) search c.loop-state.invariant (omega (arith, c.in_default.ensures.cases.0, search.waiting.ok.0)) in
    λ s l. each_decided (target_lists rows) c.requires search.reached.items c.loop-state.invariant.as_long says s (omega (arith, l, length-map rows (λ row. row.items)))
