-- The documents that are open.
use Rattle.std.specs.Prelude.{ℕ, List, [], ◌∷◌, Bool, not, Option, Some, None, filter, find, if◌then◌else◌}
use Rattle.std.specs.Str.{bytes_eq}
use Rattle.snl_place.specs.declared.places.Encoding.{Encoding}
use Rattle.snl_hear.specs.Changes.{Changed}
use Rattle.snl_document.specs.Texts.{changed_by_all, followed}

-- A document that is open, and the version of its text, where the client gave one. No text: what
-- the client has isn't known any more.
pub record Doc : Type 0 where
  pub uri : List ℕ
  pub version : Option ℕ
  pub text : Option (List ℕ)

abbrev pub is_named : (uri : List ℕ) → Doc → Bool
is_named uri doc = bytes_eq doc.uri uri

-- ---- one document

abbrev pub opened : (uri : List ℕ) → (version : Option ℕ) → (text : List ℕ) → Doc
opened uri version text =
    record { uri = uri; version = version; text = followed (Some text) }

-- After the changes of one message, which counts for the size only as a whole.
abbrev pub after_changes : Encoding → (version : Option ℕ) → List Changed → Doc → Doc
after_changes encoding version changes doc = record {
  uri = doc.uri;
  version = version;
  text = followed (changed_by_all encoding doc.text changes);
}

-- After a message that can't be told. It is of no version that is known.
abbrev pub lost : Doc → Doc
lost doc = record { uri = doc.uri; version = None; text = None }

-- ---- among the documents

-- The document of a URI, if it is open.
abbrev pub document_of : (uri : List ℕ) → List Doc → Option Doc
document_of uri docs = find (is_named uri) docs

-- In the place of that of its URI, or after all others.
abbrev pub put : Doc → List Doc → List Doc
put doc [] = doc ∷ []
put doc (d ∷ docs) = if is_named doc.uri d then doc ∷ docs else d ∷ put doc docs

-- The document of this URI alone is changed.
abbrev pub updated : (uri : List ℕ) → (change : Doc → Doc) → List Doc → List Doc
updated uri change [] = []
updated uri change (d ∷ docs) =
    if is_named uri d then change d ∷ docs else d ∷ updated uri change docs

abbrev pub without : (uri : List ℕ) → List Doc → List Doc
without uri docs = filter (λ d. not (is_named uri d)) docs
