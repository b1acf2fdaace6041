use Rattle.std.proofs.Common.{None, Some, subst}
use Rattle.snl_run.specs.Run.{IsEdited}
use Rattle.snl_run.specs.Version.{Version}
use Rattle.snl_run.proofs.DocumentLemmas.{made, refused, version_with, work_is}
use Rattle.snl_run.proofs.document.Document.edit.Goals as goal

pub returns-in-Ok : goal.returns-in-Ok
returns-in-Ok c =
    let e = c.in-Ok.ensures in
    let old = c.self.inside.session in
    let new = c.edit.new.self in
    let work = c.in-Ok.work in
    let cost = work_is old c.args.start c.args.stop c.args.new.now work e.lexed e.parsed e.checked in
    subst (λ (v : Version). IsEdited v (version_with new work) c.args.start c.args.stop c.args.new.now None) c.self.view_is
    (made old new c.args.start c.args.stop c.args.new.now c.self.inside.work work e.ok cost e.refused)

pub returns-in-Err : goal.returns-in-Err
returns-in-Err c =
    let e = c.in-Err.ensures in
    let old = c.self.inside.session in
    let new = c.edit.new.self in
    let work = c.self.inside.work in
    subst (λ (v : Version). IsEdited v (version_with new work) c.args.start c.args.stop c.args.new.now (Some c.in-Err.refused)) c.self.view_is
    (refused old new c.args.start c.args.stop c.args.new.now work c.in-Err.refused e.err e.refused)
