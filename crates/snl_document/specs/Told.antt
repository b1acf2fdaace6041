-- What a client is told of an open document.
use Rattle.std.specs.Prelude.{ℕ, List, [], ◌∷◌, ◌++◌, Bool, true, false, Option, flat_map, if◌then◌else◌}
use Rattle.std.specs.Option.{option_map_or}
use Rattle.snl_place.specs.declared.places.Encoding.{Encoding}
use Rattle.snl_say.specs.declared.severity.Severity.TheVariants.{Error, Warning}
use Rattle.snl_say.specs.Publish.{Found}
use Rattle.snl_document.specs.declared.standing.Standing.{Standing}
use Rattle.snl_document.specs.declared.standing.Standing.TheVariants.{Checked, Large, Lost}
use Rattle.snl_document.specs.Documents.{Doc, document_of, lost}
use Rattle.snl_document.specs.Says.{Says}
use Rattle.snl_document.specs.Notices.{large_notice, lost_notice}
use Rattle.snl_replies.specs.Replies.{Reply, Publish, Notice}
use Rattle.snl_document.specs.Texts.{checked, standing}

-- What is found in its text: nothing, where that isn't checked.
abbrev pub found_of_text : Says → Encoding → Option (List ℕ) → List Found
found_of_text says encoding text = option_map_or (says.found_in encoding) (checked text) []

abbrev pub published : Says → Encoding → Doc → Reply
published says encoding doc = Publish (found_of_text says encoding doc.text) doc.uri doc.version

-- Why nothing is found, where the text isn't checked.
abbrev pub notices : (uri : List ℕ) → Standing → List Reply
notices uri Checked = []
notices uri Large = Notice Warning (uri ++ large_notice) ∷ []
notices uri Lost = Notice Error (uri ++ lost_notice) ∷ []

-- What is told of a document that came to be so.
abbrev pub told : Says → Encoding → Doc → List Reply
told says encoding doc = published says encoding doc ∷ notices doc.uri (standing doc.text)

-- It wasn't checked before, and isn't now, for one reason.
abbrev pub stays : (before now : Standing) → Bool
stays Checked now = false
stays Large Checked = false
stays Large Large = true
stays Large Lost = false
stays Lost Checked = false
stays Lost Large = false
stays Lost Lost = true

-- What is told of a document after a change: why it isn't checked is told once.
abbrev pub told_after : Says → Encoding → (before : Standing) → Doc → List Reply
told_after says encoding before doc =
    if stays before (standing doc.text) then [] else told says encoding doc

-- ---- after a change

-- What is told of the document of this URI after a change, if it is open.
abbrev pub told_of : Says → Encoding → (change : Doc → Doc) → Doc → List Reply
told_of says encoding change doc = told_after says encoding (standing doc.text) (change doc)

abbrev pub told_of_named : Says → Encoding → (uri : List ℕ) → (change : Doc → Doc) → List Doc →
    List Reply
told_of_named says encoding uri change docs =
    option_map_or (told_of says encoding change) (document_of uri docs) []

abbrev pub told_of_all : Says → Encoding → List Doc → List Reply
told_of_all says encoding docs = flat_map (told_of says encoding lost) docs
