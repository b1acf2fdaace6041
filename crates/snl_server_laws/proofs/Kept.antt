-- The document of a URI, after a message about it.
use Rattle.std.proofs.Common.{◌≡◌, ℕ, List, [], ◌∷◌, None, Some, true, refl, arith}
use Rattle.std.specs.Str.{bytes_eq}
use Rattle.snl_facts.specs.Bytes.{same_bytes}
use Rattle.snl_document.specs.Documents.{Doc, document_of, put, updated, without}

same_as_itself : (u : List ℕ) → bytes_eq u u ≡ true
same_as_itself [] = refl
same_as_itself (b ∷ bytes) = grind (arith, same_as_itself bytes)

pub put_there : (doc : Doc) (docs : List Doc) → document_of doc.uri (put doc docs) ≡ Some doc
put_there doc [] = grind (arith, same_as_itself doc.uri)
put_there doc (d ∷ docs) = grind (arith, same_as_itself doc.uri, put_there doc docs)

pub updated_there : (uri : List ℕ) (change : Doc → Doc) (docs : List Doc) (d : Doc) →
    document_of uri docs ≡ Some d → (change d).uri ≡ d.uri →
    document_of uri (updated uri change docs) ≡ Some (change d)
updated_there uri change [] d is name = grind arith
updated_there uri change (x ∷ xs) d is name =
    grind (arith, same_bytes x.uri uri, updated_there uri change xs d)

pub named_so : (uri : List ℕ) (docs : List Doc) (d : Doc) → document_of uri docs ≡ Some d →
    d.uri ≡ uri
named_so uri [] d is = grind arith
named_so uri (x ∷ xs) d is = grind (arith, same_bytes x.uri uri, named_so uri xs d)

pub not_there : (uri : List ℕ) (docs : List Doc) → document_of uri (without uri docs) ≡ None
not_there uri [] = refl
not_there uri (d ∷ docs) = grind (arith, not_there uri docs)
