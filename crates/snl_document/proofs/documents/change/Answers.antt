use Rattle.std.proofs.Common.{List, ◌++◌, ◌∙◌, ap, map}
use Rattle.std.proofs.lemmas.Result.{on_ok_weaker}
use Rattle.snl_hear.specs.Changes.{changed_of}
use Rattle.snl_document.specs.Documents.{after_changes}
use Rattle.snl_replies.specs.Replies.{Reply, said_of}
use Rattle.snl_replies.specs.ReplyLaws.{said_none}
use Rattle.snl_document.proofs.Named.{told_found, told_missed, updated_found, updated_missed}
use Rattle.snl_document.proofs.documents.change.Goals as goal

pub returns-in-Some-clause-state : goal.returns-in-Some-clause-state
returns-in-Some-clause-state g c =
    on_ok_weaker c.change.result
    (λ h. updated_found c.args.uri.now
    (after_changes c.args.encoding c.args.version (map changed_of c.args.changes.now))
    c.args.documents.now c.find.result c.in-Some.at
    c.index-documents-at.result c.change.new.self c.find.ensures c.in-Some.is h)
    c.change.ensures.state

pub returns-in-Some-clause-said : goal.returns-in-Some-clause-said
returns-in-Some-clause-said g c =
    let told = told_found g.C.CheckedText.says c.args.encoding c.args.uri.now
    (after_changes c.args.encoding c.args.version (map changed_of c.args.changes.now))
    c.args.documents.now c.find.result
    c.in-Some.at c.index-documents-at.result c.find.ensures c.in-Some.is in
    on_ok_weaker c.change.result
    (λ h. h ∙ ap (λ (rs : List Reply). c.args.said.now.items ++ said_of rs) told)
    c.change.ensures.said

pub returns-in-None-clause-state : goal.returns-in-None-clause-state
returns-in-None-clause-state g c =
    updated_missed c.args.uri.now
    (after_changes c.args.encoding c.args.version (map changed_of c.args.changes.now))
    c.args.documents.now c.find.result c.find.ensures c.in-None.is

pub returns-in-None-clause-said : goal.returns-in-None-clause-said
returns-in-None-clause-said g c =
    said_none c.args.said.now.items _
    (told_missed g.C.CheckedText.says c.args.encoding c.args.uri.now
    (after_changes c.args.encoding c.args.version (map changed_of c.args.changes.now))
    c.args.documents.now c.find.result c.find.ensures c.in-None.is)
