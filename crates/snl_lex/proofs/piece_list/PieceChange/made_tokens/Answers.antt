use Rattle.std.proofs.Common.{◌≡◌, length, ◌∙◌, arith}
use Rattle.snl_lex.proofs.Listed.{listed_all}
use Rattle.snl_lex.proofs.piece_list.PieceChange.made_tokens.Goals as goal

pub returns : goal.returns
returns c =
    let l = c.args.self.now.list in
    let all : c.len-made.result ≡ length l.ends.items = omega (arith, c.len-made.ensures, l.ends.ok) in
    rw c.in_ok-tokens.ensures.items at c.with_listed_tokens.ensures.tokens ∙ listed_all c.args.self.now.made_from l.ends.items l.kinds.items c.len-made.result all
