use Rattle.std.proofs.Common.{length, sym, ap, arith}
use Rattle.std.proofs.lemmas.Option.{slice_get_past}
use Rattle.snl_items.proofs.Places.{pieces_counted}
use Rattle.snl_items.proofs.numbered_tokens.NumberedTokens.get.Goals as goal

pub at-requires : goal.at-requires
at-requires c =
    let l = c.self.inside in
    omega (arith, c.if-number-len.true, c.len.ensures, l.places.ok, ap length c.self.view_is, pieces_counted l.begin l.ends.now l.kinds.now l.places.items)

pub returns-else-number-len : goal.returns-else-number-len
returns-else-number-len c =
    let l = c.self.inside in
    sym (slice_get_past c.args.self.now c.args.number (omega (arith, c.if-number-len.false, c.len.ensures, l.places.ok, ap length c.self.view_is, pieces_counted l.begin l.ends.now l.kinds.now l.places.items)))
