-- The document of a URI, by its number among the documents.
use Rattle.std.proofs.Common.{◌≡◌, ℕ, List, [], ◌∷◌, ◌++◌, get_or, slice_set, Option, None, Some, refl, sym, subst, ap, ◌∙◌, arith}
use Rattle.std.specs.List.{find, position}
use Rattle.snl_facts.specs.Positions.{position_cons}
use Rattle.std.specs.Option.{option_map_or}
use Rattle.snl_place.specs.declared.places.Encoding.{Encoding}
use Rattle.snl_document.specs.Documents.{Doc, is_named, put, updated}
use Rattle.snl_document.specs.Says.{Says}
use Rattle.snl_document.specs.Told.{told_of, told_of_named}

pub updated_at : (uri : List ℕ) (change : Doc → Doc) (docs : List Doc) (i : ℕ) (d : Doc) →
    position (is_named uri) docs ≡ Some i →
    updated uri change docs ≡ slice_set docs i (change (get_or docs i d))
updated_at uri change [] i d h = grind arith
updated_at uri change (x ∷ xs) i d h =
    grind (arith, position_cons (is_named uri) x xs, λ (j : ℕ). updated_at uri change xs j d)

pub updated_nowhere : (uri : List ℕ) (change : Doc → Doc) (docs : List Doc) →
    position (is_named uri) docs ≡ None → updated uri change docs ≡ docs
updated_nowhere uri change [] h = refl
updated_nowhere uri change (x ∷ xs) h =
    grind (arith, position_cons (is_named uri) x xs, updated_nowhere uri change xs)

pub put_at : (doc : Doc) (docs : List Doc) (i : ℕ) → position (is_named doc.uri) docs ≡ Some i →
    put doc docs ≡ slice_set docs i doc
put_at doc [] i h = grind arith
put_at doc (x ∷ xs) i h =
    grind (arith, position_cons (is_named doc.uri) x xs, λ (j : ℕ). put_at doc xs j)

pub put_last : (doc : Doc) (docs : List Doc) → position (is_named doc.uri) docs ≡ None →
    put doc docs ≡ docs ++ doc ∷ []
put_last doc [] h = refl
put_last doc (x ∷ xs) h = grind (arith, position_cons (is_named doc.uri) x xs, put_last doc xs)

pub found_at_number : (uri : List ℕ) (docs : List Doc) (i : ℕ) (d : Doc) →
    position (is_named uri) docs ≡ Some i → find (is_named uri) docs ≡ Some (get_or docs i d)
found_at_number uri [] i d h = grind arith
found_at_number uri (x ∷ xs) i d h =
    grind (arith, position_cons (is_named uri) x xs, λ (j : ℕ). found_at_number uri xs j d)

pub found_nowhere : (uri : List ℕ) (docs : List Doc) → position (is_named uri) docs ≡ None →
    find (is_named uri) docs ≡ None
found_nowhere uri [] h = refl
found_nowhere uri (x ∷ xs) h =
    grind (arith, position_cons (is_named uri) x xs, found_nowhere uri xs)

-- ---- by a search in the same documents

sought : (uri : List ℕ) (docs among : List Doc) (found o : Option ℕ) → among ≡ docs →
    found ≡ position (is_named uri) among → found ≡ o → position (is_named uri) docs ≡ o
sought uri docs among found o same is told =
    subst (λ (ds : List Doc). position (is_named uri) ds ≡ o) same (sym is ∙ told)

pub put_found : (doc : Doc) (uri : List ℕ) (docs among : List Doc) (found : Option ℕ) (i : ℕ) →
    doc.uri ≡ uri → among ≡ docs → found ≡ position (is_named uri) among → found ≡ Some i →
    put doc docs ≡ slice_set docs i doc
put_found doc uri docs among found i named same is told =
    put_at doc docs i (subst (λ (u : List ℕ). position (is_named u) docs ≡ Some i) (sym named)
    (sought uri docs among found (Some i) same is told))

pub put_missed : (doc : Doc) (uri : List ℕ) (docs among : List Doc) (found : Option ℕ) →
    doc.uri ≡ uri → among ≡ docs → found ≡ position (is_named uri) among → found ≡ None →
    put doc docs ≡ docs ++ doc ∷ []
put_missed doc uri docs among found named same is told =
    put_last doc docs (subst (λ (u : List ℕ). position (is_named u) docs ≡ None) (sym named)
    (sought uri docs among found None same is told))

pub updated_found : (uri : List ℕ) (change : Doc → Doc) (docs : List Doc) (found : Option ℕ)
    (i : ℕ) (d new : Doc) → found ≡ position (is_named uri) docs → found ≡ Some i →
    new ≡ change (get_or docs i d) → slice_set docs i new ≡ updated uri change docs
updated_found uri change docs found i d new is told made =
    ap (λ (doc : Doc). slice_set docs i doc) made
    ∙ sym (updated_at uri change docs i d (sym is ∙ told))

pub updated_missed : (uri : List ℕ) (change : Doc → Doc) (docs : List Doc) (found : Option ℕ) →
    found ≡ position (is_named uri) docs → found ≡ None → docs ≡ updated uri change docs
updated_missed uri change docs found is told =
    sym (updated_nowhere uri change docs (sym is ∙ told))

pub told_found : (says : Says) (encoding : Encoding) (uri : List ℕ)
    (change : Doc → Doc) (docs : List Doc)
    (found : Option ℕ) (i : ℕ) (d : Doc) → found ≡ position (is_named uri) docs →
    found ≡ Some i →
    told_of says encoding change (get_or docs i d) ≡ told_of_named says encoding uri change docs
told_found says encoding uri change docs found i d is told =
    ap (λ (o : Option Doc). option_map_or (told_of says encoding change) o [])
    (sym (found_at_number uri docs i d (sym is ∙ told)))

pub told_missed : (says : Says) (encoding : Encoding) (uri : List ℕ)
    (change : Doc → Doc) (docs : List Doc)
    (found : Option ℕ) → found ≡ position (is_named uri) docs → found ≡ None →
    told_of_named says encoding uri change docs ≡ []
told_missed says encoding uri change docs found is told =
    ap (λ (o : Option Doc). option_map_or (told_of says encoding change) o [])
    (found_nowhere uri docs (sym is ∙ told))
