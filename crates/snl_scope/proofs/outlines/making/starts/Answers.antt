use Rattle.std.proofs.Common.{None, arith}
use Rattle.snl_scope.proofs.ReadOutlines.{counts_at}
use Rattle.snl_scope.proofs.Searches.{index-at}
use Rattle.snl_scope.specs.declared.outlines.flat.FlatOutline.{FlatOutline}
use Rattle.snl_summary.specs.declared.summary.Opening.TheVariants as opening
use Rattle.snl_summary.specs.declared.summary.Role.TheVariants as role
use Rattle.snl_scope.proofs.outlines.making.starts.Goals as goal

-- what a read after the end would give
abbrev none : FlatOutline
none = record { second = None; declares = 0; clauses = 0; role = role.SetBegin; opening = opening.Program }

pub overflow_add-declares : goal.overflow_add-declares
overflow_add-declares c =
    let at = index-at c.args.heads.now c.loop-number.number none (omega (arith, c.loop-number-test.true, c.requires.inside)) in
    let counted = counts_at (λ h. h.declares) at c.loop-number.invariant.declares in
    omega (arith, counted.within, c.requires.few_declares)

pub overflow_add-clauses : goal.overflow_add-clauses
overflow_add-clauses c =
    let at = index-at c.args.heads.now c.loop-number.number none (omega (arith, c.loop-number-test.true, c.requires.inside)) in
    let counted = counts_at (λ h. h.clauses) at c.loop-number.invariant.clauses in
    omega (arith, counted.within, c.requires.few_clauses)

pub loop-number-preserved : goal.loop-number-preserved
loop-number-preserved c =
    let at = index-at c.args.heads.now c.loop-number.number none (omega (arith, c.loop-number-test.true, c.requires.inside)) in
    record {
      declares = (counts_at (λ h. h.declares) at c.loop-number.invariant.declares).after;
      clauses = (counts_at (λ h. h.clauses) at c.loop-number.invariant.clauses).after;
      within = omega (arith, c.loop-number-test.true, c.requires.inside);
    }
