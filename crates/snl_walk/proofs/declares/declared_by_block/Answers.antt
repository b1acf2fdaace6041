use Rattle.std.proofs.Common.{List, ◌++◌, ◌∙◌, ap, append-nil, refl, sym}
use Rattle.snl_grammar.specs.declared.tree.statement.Member.{Member}
use Rattle.snl_walk.specs.Statements.{contents_of, declared_by_contents}
use Rattle.snl_walk.specs.Tokens.{token_bytes}
use Rattle.snl_walk.proofs.Branches.{declares, declares-Declaration, declares-Statement}
use Rattle.snl_facts.specs.Lists.{at_end}
use Rattle.snl_walk.proofs.Loops.{one_more}
use Rattle.snl_walk.proofs.declares.declared_by_block.Goals.{in-Declaration+in_ok-add_in_block-in-Declaration, in-Statement}
use Rattle.snl_walk.proofs.declares.declared_by_block.Goals as goal

pub loop-member-preserved : goal.loop-member-preserved
loop-member-preserved c =
    let bytes = (token_bytes c.args.source.now.text.now c.args.source.now.tokens.now) in
    let ys = c.loop-member.declared.items in
    let step = one_more (λ (ms : List Member). declared_by_contents (contents_of bytes ms)) (declares bytes) (λ m ms. refl)
    c.args.members.now c.loop-member.member-index c.member-item.result ys c.match-member.declared.items _ c.loop-member-test.true c.member-item.is c.loop-member.invariant in
    elim c.match-member.branch [
      | in-Declaration+in_ok-add_in_block-in-Declaration w ↦
          let own = ap (declares bytes) w.in-Declaration.is ∙ declares-Declaration bytes w.in-Declaration.declaration in
          step (ap (λ v. v.items) w.declared-is ∙ w.in_ok-add_in_block-in-Declaration.ensures ∙ ap (λ l. ys ++ l) (sym own))
      | in-Statement w ↦
          let own = ap (declares bytes) w.in-Statement.is ∙ declares-Statement bytes w.in-Statement.field-0 in
          step (ap (λ v. v.items) w.declared-is ∙ sym (ap (λ l. ys ++ l) own ∙ append-nil ys))
    ]

pub returns : goal.returns
returns c = at_end (λ (ms : List Member). declared_by_contents (contents_of (token_bytes c.args.source.now.text.now c.args.source.now.tokens.now) ms)) refl c.args.members.now c.loop-member.member-index c.loop-member.declared.items _ c.loop-member-test.false c.loop-member.invariant
