use Rattle.std.proofs.Common.{◌≡◌, false, sym, ◌∙◌}
use Rattle.std.proofs.lemmas.Bool.{false≢true}
use Rattle.snl_walk.specs.Tokens.{token_bytes}
use Rattle.snl_item_check.specs.Told.{used_by}
use Rattle.snl_item_check.proofs.SameUses.{same_at}
use Rattle.snl_item_check.proofs.conditions.same_uses.Goals as goal

pub returns-then-not-same_use : goal.returns-then-not-same_use
returns-then-not-same_use c =
    let own = used_by (token_bytes c.args.own.now.text.now c.args.own.now.tokens.now) in
    let other = used_by (token_bytes c.args.other.now.text.now c.args.other.now.tokens.now) in
    let differs : c.same_use.result ≡ false = c.if-not-same_use.true in
    (λ e. absurd (false≢true e), λ same. sym differs ∙ c.same_use.ensures.1 (same_at own other c.args.uses.now c.args.uses_there.now c.loop-number.number _ _ c.loop-number-test.true same))
