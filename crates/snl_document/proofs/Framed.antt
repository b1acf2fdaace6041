-- The bytes of what is published.
use Rattle.std.proofs.Common.{◌≡◌, ℕ, List, [], ◌++◌, Option, ap, ◌∙◌}
use Rattle.json.specs.Print.{quoted}
use Rattle.snl_say.specs.Publish.{Found}
use Rattle.std.specs.Option.{option_map_or}
use Rattle.snl_place.specs.declared.places.Encoding.{Encoding}
use Rattle.snl_document.specs.Documents.{Doc}
use Rattle.snl_document.specs.Says.{Says}
use Rattle.snl_document.specs.Texts.{checked}
use Rattle.snl_document.specs.Told.{found_of_text, published}
use Rattle.snl_replies.specs.Replies.{Publish, framed_publish, framed_reply}
use Rattle.snl_replies.specs.ReplyLaws.{publish_framed}

-- What is found in a text that is checked, and nothing where it isn't.
pub found_by : (says : Says) (encoding : Encoding) (text known : Option (List ℕ)) →
    known ≡ checked text →
    option_map_or (says.found_in encoding) known [] ≡ found_of_text says encoding text
found_by says encoding text known is =
    ap (λ (o : Option (List ℕ)). option_map_or (says.found_in encoding) o []) is

-- What is published of a document was written.
pub publish_is : (says : Says) (encoding : Encoding) (doc : Doc) (found : List Found)
    (quoted_uri old new : List ℕ) →
    new ≡ old ++ framed_publish found quoted_uri doc.version → quoted_uri ≡ quoted doc.uri →
    found ≡ found_of_text says encoding doc.text →
    new ≡ old ++ framed_reply (published says encoding doc)
publish_is says encoding doc found quoted_uri old new written is all =
    written ∙ ap (λ (l : List ℕ). old ++ l)
    (publish_framed found doc.uri quoted_uri doc.version is
    ∙ ap (λ (fs : List Found). framed_reply (Publish fs doc.uri doc.version)) all)
