use Rattle.std.proofs.Common.{[], sym, subst}
use Rattle.snl_run.specs.Run.{NoStart}
use Rattle.snl_run.proofs.DocumentLemmas.{begun, cannot_open, fits, work_is}
use Rattle.snl_run.proofs.document.Document.begin.Goals as goal

pub returns-in-Ok : goal.returns-in-Ok
returns-in-Ok c =
    let e = c.in-Ok.ensures in
    let source = c.args.source.items in
    record {
      ok = begun source c.in-Ok.session c.in-Ok.work e.ok (work_is [] 0 0 source c.in-Ok.work e.lexed e.parsed e.checked);
      fits = fits source _ e.large;
      err = tt;
    }

pub returns-in-Err : goal.returns-in-Err
returns-in-Err c = record {
  ok = tt;
  fits = tt;
  err = subst (NoStart c.args.source.items) (sym c.start_fault.ensures) (cannot_open c.args.source.items c.in-Err.refused c.in-Err.ensures.refused);
}
