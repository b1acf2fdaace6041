-- What the proofs of the readers of declarations open, by the files of src/.
use Rattle.snl_grammar.specs.Steps.{and_then}
use Rattle.snl_grammar.specs.Reading.Expressions as exprs
use Rattle.snl_grammar.specs.Reading.Declarations as spec

unfoldable pub array_lengths : Unit {0}
unfolding and_then spec.some_length spec.bracketed_length spec.next_length
array_lengths = tt

unfoldable pub initial_values : Unit {0}
unfolding and_then spec.after_comma spec.value_step spec.some_values spec.values spec.plain_value
    spec.init_of spec.some_init spec.init_part
initial_values = tt

unfoldable pub declarations : Unit {0}
unfolding and_then spec.declarator_from spec.declarator exprs.next_comma spec.more_declarators
    spec.declaration_from spec.declaration_of spec.declaration_in
declarations = tt
