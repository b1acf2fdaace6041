-- What the proofs of the readers of expressions open, by the files of src/.
use Rattle.snl_grammar.specs.Steps.{and_then}
use Rattle.snl_grammar.specs.Reading.Expressions as spec

unfoldable pub leaves : Unit {0}
unfolding and_then spec.next_text spec.texts spec.leaf spec.text spec.atom spec.atom_by
leaves = tt

unfoldable pub commas : Unit {0}
unfolding and_then spec.next_comma spec.commas spec.sequence spec.some_arguments spec.arguments
commas = tt

unfoldable pub suffixes : Unit {0}
unfolding and_then spec.member spec.subscript spec.call spec.next_suffix spec.suffix_by
suffixes = tt

unfoldable pub prefixes : Unit {0}
unfolding and_then spec.signed spec.group spec.sizeof_type spec.cast spec.sizeof_bracket spec.sizeof
    spec.bracket spec.plain spec.prefix_step spec.prefix_by spec.prefix
prefixes = tt

unfoldable pub tiers : Unit {0}
unfolding and_then spec.next_link spec.tiers_from
tiers = tt

unfoldable pub conditional : Unit {0}
unfolding and_then spec.next_arm spec.conditional_from
conditional = tt

unfoldable pub assignment : Unit {0}
unfolding and_then spec.target_step spec.single
assignment = tt
