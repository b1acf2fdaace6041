use Rattle.std.proofs.Common.{length, ap, arith}
use Rattle.snl_items.proofs.Places.{pieces_counted}
use Rattle.snl_items.proofs.numbered_tokens.NumberedTokens.len.Goals as goal

pub returns : goal.returns
returns c =
    let l = c.self.inside in
    omega (arith, c.len.ensures, l.places.ok, ap length c.self.view_is, pieces_counted l.begin l.ends.now l.kinds.now l.places.items)
