use Rattle.std.proofs.Common.{◌+◌, List, false, length, ap, ◌∙◌}
use Rattle.std.proofs.lemmas.List.{length-replicate}
use Rattle.snl_tables.specs.declared.rows.FlagRow.{FlagRow}
use Rattle.snl_tables.specs.Marks.{marked}
use Rattle.snl_tables.proofs.WakeLemmas.{marked_new}
use Rattle.snl_tables.proofs.wake_sets.WakeMarks.new.Goals as goal

pub returns-clause-fit : goal.returns-clause-fit
returns-clause-fit c = record {
  flags = ap length c.in_ok-new.ensures ∙ length-replicate _ false ∙ ap (λ (rows : List FlagRow). length rows + 1) c.as_slice.ensures;
  channels = ap length c.in_ok-new-2.ensures ∙ length-replicate _ false ∙ c.len.ensures;
  unseen = ap marked c.in_ok-new-3.ensures ∙ marked_new _;
}
