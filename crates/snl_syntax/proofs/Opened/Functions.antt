-- What the proofs of the readers of functions open, by the files of src/.
use Rattle.snl_grammar.specs.Steps.{and_then}
use Rattle.snl_grammar.specs.Reading.Expressions as exprs
use Rattle.snl_grammar.specs.Reading.Functions as spec

unfoldable pub parameters : Unit {0}
unfolding and_then spec.name_part spec.some_name spec.parameter_in exprs.next_comma exprs.commas
    spec.some_parameters spec.parameters
parameters = tt

unfoldable pub structs : Unit {0}
unfolding and_then spec.c_member spec.declared_member spec.next_member spec.struct_members
structs = tt

unfoldable pub typed_items : Unit {0}
unfolding and_then spec.type_from spec.function_item spec.declaration_item spec.named_item
    spec.item_of spec.struct_definition spec.struct_type spec.struct_from spec.struct_item
    spec.type_item spec.typed_item
typed_items = tt

unfoldable pub functions : Unit {0}
unfolding and_then spec.body spec.some_body spec.function_from
functions = tt
