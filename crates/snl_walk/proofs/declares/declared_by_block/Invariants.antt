use Rattle.std.proofs.Common.{◌≡◌, ◌++◌, drop}
use Rattle.snl_walk.specs.Tokens.{token_bytes}
use Rattle.snl_walk.specs.Statements.{declared_by_contents, contents_of}
use Rattle.snl_walk.proofs.declares.declared_by_block.Given as goal

abbrev pub invariant-loop-member : goal.invariant-loop-member
invariant-loop-member l =
    l.declared.items ++ declared_by_contents (contents_of (token_bytes l.source.text.now l.source.tokens.now) (drop l.member-index l.members))
    ≡ declared_by_contents (contents_of (token_bytes l.source.text.now l.source.tokens.now) l.members)
