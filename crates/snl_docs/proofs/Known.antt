-- Documents by their URIs: that of a changed one, and the others.
use Rattle.std.proofs.Common.{◌≡◌, ℕ, Bool, true, false, List, [], ◌∷◌, map, None, Some, refl, sym, ◌∙◌, arith}
use Rattle.std.specs.Str.{bytes_eq}
use Rattle.snl_facts.specs.Bytes.{same_bytes}
use Rattle.snl_document.specs.Documents.{Doc, document_of, lost, put, updated, without}
use Rattle.snl_docs.specs.Known.{text_of}

same_as_itself : (u : List ℕ) → bytes_eq u u ≡ true
same_as_itself [] = refl
same_as_itself (b ∷ bytes) = grind (arith, same_as_itself bytes)

-- What has one name has no other one.
has_one_name : (name u uri : List ℕ) → bytes_eq name u ≡ true → (u ≡ uri → ⊥) →
    bytes_eq name uri ≡ false
has_one_name name u uri is other = by (bytes_eq name uri) refl
  where
    by : (b : Bool) → bytes_eq name uri ≡ b → bytes_eq name uri ≡ false
    by true e = absurd (other (sym (same_bytes name u is) ∙ same_bytes name uri e))
    by false e = e

-- ---- the document itself

pub put_there : (doc : Doc) (docs : List Doc) → document_of doc.uri (put doc docs) ≡ Some doc
put_there doc [] = grind (arith, same_as_itself doc.uri)
put_there doc (d ∷ docs) = grind (arith, same_as_itself doc.uri, put_there doc docs)

pub updated_there : (uri : List ℕ) (change : Doc → Doc) (docs : List Doc) (d : Doc) →
    document_of uri docs ≡ Some d → (change d).uri ≡ d.uri →
    document_of uri (updated uri change docs) ≡ Some (change d)
updated_there uri change [] d is name = grind arith
updated_there uri change (x ∷ xs) d is name =
    grind (arith, same_bytes x.uri uri, updated_there uri change xs d)

pub named_so : (uri : List ℕ) (docs : List Doc) (d : Doc) → document_of uri docs ≡ Some d →
    d.uri ≡ uri
named_so uri [] d is = grind arith
named_so uri (x ∷ xs) d is = grind (arith, same_bytes x.uri uri, named_so uri xs d)

pub not_there : (uri : List ℕ) (docs : List Doc) → document_of uri (without uri docs) ≡ None
not_there uri [] = refl
not_there uri (d ∷ docs) = grind (arith, not_there uri docs)

pub lost_there : (uri : List ℕ) (docs : List Doc) → text_of uri (map lost docs) ≡ None
lost_there uri [] = refl
lost_there uri (d ∷ docs) = grind (arith, lost_there uri docs)

-- ---- another document

pub put_elsewhere : (doc : Doc) (docs : List Doc) (uri : List ℕ) → (doc.uri ≡ uri → ⊥) →
    document_of uri (put doc docs) ≡ document_of uri docs
put_elsewhere doc [] uri other =
    grind (arith, has_one_name doc.uri doc.uri uri (same_as_itself doc.uri) other)
put_elsewhere doc (d ∷ docs) uri other =
    let new = has_one_name doc.uri doc.uri uri (same_as_itself doc.uri) other in
    let old = λ (e : bytes_eq d.uri doc.uri ≡ true). has_one_name d.uri doc.uri uri e other in
    grind (arith, new, old, put_elsewhere doc docs uri other)

pub updated_elsewhere : (u : List ℕ) (change : Doc → Doc) (docs : List Doc) (uri : List ℕ) →
    (u ≡ uri → ⊥) → ((d : Doc) → (change d).uri ≡ d.uri) →
    document_of uri (updated u change docs) ≡ document_of uri docs
updated_elsewhere u change [] uri other name = refl
updated_elsewhere u change (d ∷ docs) uri other name =
    let old = λ (e : bytes_eq d.uri u ≡ true). has_one_name d.uri u uri e other in
    grind (arith, name d, old, updated_elsewhere u change docs uri other name)

pub gone_elsewhere : (u : List ℕ) (docs : List Doc) (uri : List ℕ) → (u ≡ uri → ⊥) →
    document_of uri (without u docs) ≡ document_of uri docs
gone_elsewhere u [] uri other = refl
gone_elsewhere u (d ∷ docs) uri other =
    let old = λ (e : bytes_eq d.uri u ≡ true). has_one_name d.uri u uri e other in
    grind (arith, old, gone_elsewhere u docs uri other)
