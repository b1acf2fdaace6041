-- What the proofs of the readers of types open, by the files of src/.
use Rattle.snl_grammar.specs.Steps.{and_then}
use Rattle.snl_grammar.specs.Reading.Types as spec

unfoldable pub types : Unit {0}
unfolding and_then spec.short_integer spec.long_integer spec.integer spec.integer_by
    spec.plain_integer spec.unsigned_rest spec.unsigned spec.named spec.base spec.base_by spec.type_of
    spec.next_pointer spec.type_name
types = tt
