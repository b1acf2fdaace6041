use Rattle.std.proofs.Common.{◌≡◌, ◌||◌, Bool, sym, ap, ◌∙◌}
use Rattle.snl_grammar.specs.Items.{is_plain}
use Rattle.snl_grammar.proofs.Headers.{some_within}
use Rattle.snl_grammar.proofs.PlainItems.{none_read, room_there, turn_is_item, turn_of, turn_read}
use Rattle.snl_grammar.proofs.item_cut.plain_length.Goals as goal
use Rattle.snl_grammar.proofs.item_cut.plain_length.Goals.{then-is_body, else-is_body}

pub loop-is_body-init : goal.loop-is_body-init
loop-is_body-init c = none_read c.args.rest.now (some_within is_plain c.args.rest.now 0 c.requires)

pub balance_after-balance-requires-clause-open : goal.balance_after-balance-requires-clause-open
balance_after-balance-requires-clause-open c =
    room_there c.args.rest.now c.loop-is_body.end c.loop-is_body.balance c.loop-is_body.by_paren c.requires c.loop-is_body.invariant

pub returns-then-ends_between : goal.returns-then-ends_between
returns-then-ends_between c =
    let paren : Bool = c.opened_by_paren-by_paren.result in
    let has : c.if-is_body.ends_between ≡ (c.is_body-is_body.result || paren) =
    elim c.if-is_body.branch [
      | then-is_body w ↦ w.ends_between-is ∙ w.if-is_body.true ∙ ap (λ (b : Bool). b || paren) (sym w.if-is_body.true)
      | else-is_body w ↦ w.ends_between-is ∙ ap (λ (b : Bool). b || paren) (sym w.if-is_body.false)
    ] in
    let turn = turn_of c.is_body-is_body.result c.if-is_body.ends_between c.mark_at.result c.requires c.loop-is_body.invariant c.balance_after-balance.ensures c.opened_by_paren-by_paren.ensures c.is_body-is_body.ensures has c.mark_at.ensures c.ends_between.ensures in
    sym (turn_is_item turn c.if-ends_between.true)

pub loop-is_body-preserved : goal.loop-is_body-preserved
loop-is_body-preserved c =
    let paren : Bool = c.opened_by_paren-by_paren.result in
    let has : c.if-is_body.ends_between ≡ (c.is_body-is_body.result || paren) =
    elim c.if-is_body.branch [
      | then-is_body w ↦ w.ends_between-is ∙ w.if-is_body.true ∙ ap (λ (b : Bool). b || paren) (sym w.if-is_body.true)
      | else-is_body w ↦ w.ends_between-is ∙ ap (λ (b : Bool). b || paren) (sym w.if-is_body.false)
    ] in
    let turn = turn_of c.is_body-is_body.result c.if-is_body.ends_between c.mark_at.result c.requires c.loop-is_body.invariant c.balance_after-balance.ensures c.opened_by_paren-by_paren.ensures c.is_body-is_body.ensures has c.mark_at.ensures c.ends_between.ensures in
    turn_read turn c.if-ends_between.false
