use Rattle.std.proofs.Common.{length, subst, sym}
use Rattle.std.specs.List.Sorted.{IsStrictlyIncreasing}
use Rattle.snl_scope.specs.BelowLaws.{all_below_rises}
use Rattle.snl_scope.specs.Flags.{is_flag}
use Rattle.snl_scope.specs.Names.{entries}
use Rattle.snl_scope.proofs.links.Links.flag_number.Goals as goal

pub flag_number-requires : goal.flag_number-requires
flag_number-requires c =
    let es = entries c.args.self.now.outlines in
    subst IsStrictlyIncreasing (sym c.flags.ensures) (all_below_rises (is_flag es) (length es))
