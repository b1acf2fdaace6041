use Rattle.std.proofs.Common.{◌≡◌, ◌+◌, ◌++◌, ◌∷◌, ap, append_assoc, arith, drop, sym, ◌∙◌}
use Rattle.std.proofs.lemmas.List.{drop_more}
use Rattle.std.specs.List.{flat_map}
use Rattle.snl_summary.specs.Summaries.Declares.{declared_by_member}
use Rattle.snl_summary.proofs.declarations.add_state.Goals as goal

pub loop-member-preserved : goal.loop-member-preserved
loop-member-preserved c =
    let declared_by = declared_by_member c.args.source.now.text.now c.args.source.now.tokens.now in
    let members = c.args.members.now in
    let i = c.loop-member.member-index in
    let member = c.member-item.result in
    let here = c.loop-member.declared.items in
    let rest = drop (i + 1) members in
    let left : member ∷ rest ≡ drop i members = ap (λ m. m ∷ rest) c.member-item.is ∙ sym (drop_more members i member (omega (arith, c.loop-member-test.true))) in
    ap (λ l. l ++ flat_map declared_by rest) c.in_ok-add_member.ensures ∙ append_assoc here (declared_by member) (flat_map declared_by rest)
    ∙ ap (λ ms. here ++ flat_map declared_by ms) left ∙ c.loop-member.invariant
