use Rattle.std.proofs.Common.{◌++◌, map, sym, ap, ◌∙◌}
use Rattle.std.specs.List.{filter_map}
use Rattle.std.proofs.lemmas.List.{append-nil, drop_all}
use Rattle.std.proofs.lemmas.Simd.{map-map}
use Rattle.snl_summary.specs.Summaries.Tokens.{name_ref_at}
use Rattle.snl_walk.specs.declared.used.TargetUse.{TargetUse}
use Rattle.snl_check.specs.Collected.{items_in}
use Rattle.snl_item_check.specs.Items.{tokens_in}
use Rattle.snl_check.specs.Members.{target_number}
use Rattle.snl_item_check.specs.Told.{told_in}
use Rattle.snl_check.specs.TargetLaws.{targets_at}
use Rattle.snl_check.specs.ItemTokens.{own_tokens}
use Rattle.snl_check.proofs.reachability.members.target_numbers.Goals as goal

pub returns : goal.returns
returns c =
    let program = c.args.state_source.now.row_source.program in
    let xs = items_in program in
    let ss = c.args.state_source.now.row_source.links.now.outlines in
    let kept = filter_map (target_number ss c.args.states.now c.args.state) in
    let source = c.source-source.result in
    let targets = c.target_uses-targets.result.now in
    let numbers = c.loop-target.numbers.items in
    let uses = (told_in program.text.now xs c.args.state).target_uses in
    sym (append-nil numbers)
    ∙ sym (ap (λ l. numbers ++ kept (map (λ (u : TargetUse). name_ref_at source.text.now (own_tokens source) u.token) l)) (drop_all c.loop-target.target-index targets c.loop-target-test.false))
    ∙ c.loop-target.invariant
    ∙ ap (λ l. kept (map (λ (u : TargetUse). name_ref_at source.text.now (own_tokens source) u.token) l)) c.target_uses-targets.ensures
    ∙ ap (λ t. kept (map (λ (u : TargetUse). name_ref_at t (own_tokens source) u.token) uses)) c.source-source.ensures.text
    ∙ ap (λ ts. kept (map (λ (u : TargetUse). name_ref_at program.text.now ts u.token) uses)) c.source-source.ensures.tokens
    ∙ ap kept (sym (map-map (name_ref_at program.text.now (tokens_in xs c.args.state)) (λ (u : TargetUse). u.token) uses))
    ∙ sym (targets_at program.text.now xs ss c.args.states.now c.args.state)
