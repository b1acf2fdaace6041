use Rattle.std.proofs.Common.{arith}
use Rattle.snl_lex.proofs.Changes.{as_many, made_lies}
use Rattle.snl_lex.proofs.line_list.LineList.made.Goals as goal

pub list_made-requires-clause-inside : goal.list_made-requires-clause-inside
list_made-requires-clause-inside c = made_lies _ _ c.requires

pub list_made-requires-clause-kinds : goal.list_made-requires-clause-kinds
list_made-requires-clause-kinds c =
    omega (arith, as_many _ _ c.requires, c.args.change.now.list.ends.ok, c.args.change.now.list.kinds.ok)
