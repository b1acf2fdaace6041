use Rattle.std.proofs.Common.{ap, false, sym, ◌∙◌}
use Rattle.std.specs.Option.{option_map_or}
use Rattle.snl_scope.specs.Flags.{declares_flag}
use Rattle.snl_scope.proofs.Gets.{got, got-none}
use Rattle.snl_scope.proofs.clauses.flags.flag_stands.Goals as goal

pub returns-in-Some : goal.returns-in-Some
returns-in-Some c =
    let found = c.in-Some.ensures.lookup in
    c.declares_flag.ensures ∙ sym (ap (λ o. option_map_or (λ s. declares_flag s.variable) o false) (got c.args.symbols.now c.args.number c.in-Some.symbol.now found.0 found.1))

pub returns-in-None : goal.returns-in-None
returns-in-None c =
    sym (ap (λ o. option_map_or (λ s. declares_flag s.variable) o false) (got-none c.args.symbols.now c.args.number c.in-None.ensures.lookup.0))
