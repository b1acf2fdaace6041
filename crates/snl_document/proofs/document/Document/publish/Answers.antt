use Rattle.std.proofs.Common.{◌≡◌, ◌++◌, ◌∙◌, None, Some, ap, map, subst}
use Rattle.std.specs.Prelude.{string_bytes}
use Rattle.snl_say.specs.Publish.{found_of}
use Rattle.snl_document.specs.Documents.{Doc}
use Rattle.snl_replies.specs.Replies.{framed_reply}
use Rattle.snl_document.specs.Told.{published}
use Rattle.snl_document.proofs.Framed.{found_by, publish_is}
use Rattle.snl_document.proofs.document.Document.publish.Goals as goal

pub returns-in_ok-say_found-in-Some-clause-said : goal.returns-in_ok-say_found-in-Some-clause-said
returns-in_ok-say_found-in-Some-clause-said g c =
    let doc : Doc = record {
      uri = string_bytes c.self.inside.uri;
      version = c.self.inside.version;
      text = c.self.inside.text;
    } in
    let text = Some (g.C.CheckedText.text_of c.in-Some.checked.now) in
    let found =
    ap (map (λ s. found_of s)) c.deref-in-Some.ensures.value ∙ c.in_ok-found-in-Some.ensures
    ∙ found_by g.C.CheckedText.says c.args.encoding doc.text text c.in-Some.ensures in
    subst (λ (d : Doc). c.say_found.new.said.items
    ≡ c.args.said.now.items ++ framed_reply (published g.C.CheckedText.says c.args.encoding d))
    c.self.view_is
    (publish_is g.C.CheckedText.says c.args.encoding doc _ _ _ _ c.in_ok-say_found-in-Some.ensures
    (c.deref.ensures.value ∙ c.self.invariant) found)

pub returns-in_ok-say_found-in-None-clause-said : goal.returns-in_ok-say_found-in-None-clause-said
returns-in_ok-say_found-in-None-clause-said g c =
    let doc : Doc = record {
      uri = string_bytes c.self.inside.uri;
      version = c.self.inside.version;
      text = c.self.inside.text;
    } in
    let found = found_by g.C.CheckedText.says c.args.encoding doc.text None c.in-None.ensures in
    subst (λ (d : Doc). c.say_found-in-None.new.said.items
    ≡ c.args.said.now.items ++ framed_reply (published g.C.CheckedText.says c.args.encoding d))
    c.self.view_is
    (publish_is g.C.CheckedText.says c.args.encoding doc _ _ _ _ c.in_ok-say_found-in-None.ensures
    (c.deref-in-None.ensures.value ∙ c.self.invariant) found)
