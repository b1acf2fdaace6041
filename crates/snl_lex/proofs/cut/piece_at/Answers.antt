use Rattle.std.proofs.Common.{ap, ◌∙◌, arith}
use Rattle.std.proofs.lemmas.List.{take_rest}
use Rattle.snl_lex.specs.Pieces.{first_piece}
use Rattle.snl_lex.proofs.Members.{some_piece}
use Rattle.snl_lex.proofs.cut.piece_at.Goals as goal

pub returns-clause-some : goal.returns-clause-some
returns-clause-some c =
    omega (arith, ap (λ p. p.1) (c.first_piece-kind.ensures ∙ ap first_piece (take_rest c.args.text.now c.args.at)), some_piece c.args.text.now c.args.at c.requires)

pub returns-clause-inside : goal.returns-clause-inside
returns-clause-inside c =
    omega (arith, ap (λ p. p.1) (c.first_piece-kind.ensures ∙ ap first_piece (take_rest c.args.text.now c.args.at)), some_piece c.args.text.now c.args.at c.requires)
