use Rattle.std.proofs.Common.{arith, sym}
use Rattle.snl_questions.proofs.Members.{member_is, no_member}
use Rattle.snl_questions.proofs.tokens.item_tokens.ItemTokens.tokens_of.Goals as goal

pub returns-then-item-self-clause-tokens : goal.returns-then-item-self-clause-tokens
returns-then-item-self-clause-tokens c =
    let cut = c.args.self.now in
    sym (no_member cut.tokens.now 0 cut.ends.now c.args.item c.if-item-self.true)

pub returns-clause-tokens : goal.returns-clause-tokens
returns-clause-tokens c =
    let cut = c.args.self.now in
    let range = c.range_of-start in
    member_is cut.tokens.now cut.ends.now c.args.item range.result.0 range.result.1
    (omega arith) range.ensures.start range.ensures.stop
