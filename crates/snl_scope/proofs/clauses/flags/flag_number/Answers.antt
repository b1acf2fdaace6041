use Rattle.std.proofs.Common.{Err, Ok, add-one, ap, option_map, suc, sym, ◌∙◌, Some}
use Rattle.snl_facts.specs.Positions.{position_searched}
use Rattle.snl_scope.proofs.clauses.flags.flag_number.Goals as goal

pub returns-in-Ok : goal.returns-in-Ok
returns-in-Ok c =
    ap Some (add-one c.in-Ok.index)
    ∙ sym (ap (option_map (λ n. suc n)) (position_searched c.args.flags.now c.args.declaration (Ok c.in-Ok.index) c.requires c.in-Ok.ensures.position))

pub returns-in-Err : goal.returns-in-Err
returns-in-Err c = sym (ap (option_map (λ n. suc n)) (position_searched c.args.flags.now c.args.declaration (Err c.in-Err.field-0) c.requires c.in-Err.ensures.position))
