-- What the proofs of the readers of states open, by the files of src/.
use Rattle.snl_grammar.specs.Steps.{and_then}
use Rattle.snl_grammar.specs.Reading.States as spec

unfoldable pub states : Unit {0}
unfolding and_then spec.entry_block spec.exit_block spec.next_state spec.target spec.transition
    spec.declared_member spec.entry_member spec.exit_member spec.when_member spec.foreign_member
    spec.clause_member spec.option_member spec.c_member spec.next_member spec.state_members
states = tt
