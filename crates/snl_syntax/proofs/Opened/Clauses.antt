-- What the proofs of the readers of clauses open, by the files of src/.
use Rattle.snl_grammar.specs.Steps.{and_then}
use Rattle.snl_grammar.specs.Reading.Expressions as exprs
use Rattle.snl_grammar.specs.Reading.Clauses as spec

unfoldable pub foreign_names : Unit {0}
unfolding and_then exprs.next_comma exprs.commas spec.foreign
foreign_names = tt

unfoldable pub options : Unit {0}
unfolding and_then spec.sign spec.option_line
options = tt

unfoldable pub operands : Unit {0}
unfolding and_then spec.subscript spec.subscript_part spec.some_subscript spec.flag spec.some_flag
    spec.flag_part spec.queue_part spec.some_queue
operands = tt

unfoldable pub channels : Unit {0}
unfolding and_then spec.after_comma spec.text_step spec.some_elements spec.elements spec.whole
    spec.channel_to spec.named_channel spec.element spec.channel
channels = tt

unfoldable pub clauses : Unit {0}
unfolding and_then spec.assign spec.monitor spec.sync spec.syncq_rest spec.clause
clauses = tt
