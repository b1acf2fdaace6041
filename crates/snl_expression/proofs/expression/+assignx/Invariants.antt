use Rattle.snl_expression.proofs.expression.+assignx.Given as goal

abbrev pub decreases-assignx : goal.decreases-assignx
decreases-assignx l = l.depth
