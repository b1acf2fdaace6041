-- What the proofs of the readers of statements open, by the files of src/.
use Rattle.snl_grammar.specs.Steps.{and_then}
use Rattle.snl_grammar.specs.Reading.Statements as spec

unfoldable pub optional : Unit {0}
unfolding and_then spec.some_before spec.before_semicolon spec.before_paren
optional = tt

unfoldable pub simple : Unit {0}
unfolding and_then spec.c_code spec.jump spec.change spec.return_value spec.evaluation
simple = tt

unfoldable pub blocks : Unit {0}
unfolding and_then spec.declared spec.stated spec.some_member spec.next_member spec.block_of
    spec.block_statement spec.body
blocks = tt

unfoldable pub loops : Unit {0}
unfolding and_then spec.condition spec.for_parts spec.for_head spec.while_loop spec.for_loop
loops = tt

unfoldable pub branches : Unit {0}
unfolding and_then spec.last_body spec.after_else spec.arm spec.arm_step spec.choice
branches = tt

unfoldable pub levels : Unit {0}
unfolding and_then spec.stmt_of spec.stmt_by
levels = tt
