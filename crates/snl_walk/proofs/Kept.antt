-- A set of names: the first few in a list, and those after them in a book.
use Rattle.std.proofs.Common.{◌≡◌, ℕ, Bool, true, false, ◌||◌, cond, List, [], ◌∷◌, ◌++◌, length, map, nat_lt, not, bytes_eq, Bor, refl, sym, ap, ◌∙◌, append_assoc, arith, length-append, lt-ltb, le-ltb}
use Rattle.std.specs.List.{list_any}
use Rattle.std.proofs.lemmas.List.{append-nil, map-append}
use Rattle.std.proofs.lemmas.List.Folds.{list_any-append}
use Rattle.snl_facts.specs.Positions.{any_position}
use Rattle.snl_names.specs.NameBook.{with_name}
use Rattle.snl_walk.specs.Once.{with_new}

abbrev pub names_of : List (Bor (List ℕ)) → List (List ℕ)
names_of = map (λ k. k.now)

-- whether a name of the list is this one
abbrev pub has_name : List ℕ → Bor (List ℕ) → Bool
has_name name k = bytes_eq name k.now

among-names : (name : List ℕ) (few : List (Bor (List ℕ))) →
    list_any (bytes_eq name) (names_of few) ≡ list_any (has_name name) few
among-names name [] = refl
among-names name (k ∷ ks) = ap (λ b. bytes_eq name k.now || b) (among-names name ks)

-- a name is among the names of both, if it is among those of one
among_both : (name : List ℕ) (few : List (Bor (List ℕ))) (more : List (List ℕ)) →
    list_any (bytes_eq name) (names_of few ++ more) ≡
    (list_any (has_name name) few || list_any (bytes_eq name) more)
among_both name few more =
    list_any-append (bytes_eq name) (names_of few) more
    ∙ ap (λ b. b || list_any (bytes_eq name) more) (among-names name few)

pub among_first : (name : List ℕ) (few : List (Bor (List ℕ))) (more : List (List ℕ)) →
    list_any (has_name name) few ≡ true → list_any (bytes_eq name) (names_of few ++ more) ≡ true
among_first name few more h =
    among_both name few more ∙ ap (λ b. b || list_any (bytes_eq name) more) h

pub among_rest : (name : List ℕ) (few : List (Bor (List ℕ))) (more : List (List ℕ)) →
    list_any (has_name name) few ≡ false →
    list_any (bytes_eq name) (names_of few ++ more) ≡ list_any (bytes_eq name) more
among_rest name few more h =
    among_both name few more ∙ ap (λ b. b || list_any (bytes_eq name) more) h

-- a name of the first list isn't taken in again
pub first_again : (few : List (Bor (List ℕ))) (more : List (List ℕ)) (name : List ℕ) →
    list_any (has_name name) few ≡ true →
    names_of few ++ more ≡ with_new (names_of few ++ more) name
first_again few more name h =
    let all = names_of few ++ more in
    sym (ap (λ b. cond b all (all ++ name ∷ [])) (among_first name few more h))

-- a name that is in neither is taken in by the list, where there is nothing in the book
pub first_push : (few : List (Bor (List ℕ))) (more : List (List ℕ)) (key : Bor (List ℕ)) →
    list_any (has_name key.now) few ≡ false → more ≡ [] →
    names_of (few ++ key ∷ []) ++ more ≡ with_new (names_of few ++ more) key.now
first_push few more key h none =
    let all = names_of few ++ more in
    let apart = among_rest key.now few more h ∙ ap (list_any (bytes_eq key.now)) none in
    ap (λ (l : List (List ℕ)). names_of (few ++ key ∷ []) ++ l) none
    ∙ append-nil (names_of (few ++ key ∷ []))
    ∙ map-append (λ k. k.now) few (key ∷ [])
    ∙ ap (λ (l : List (List ℕ)). l ++ key.now ∷ [])
    (sym (append-nil (names_of few)) ∙ ap (λ (l : List (List ℕ)). names_of few ++ l) (sym none))
    ∙ sym (ap (λ b. cond b all (all ++ key.now ∷ [])) apart)

-- the book takes a name in
pub rest_push : (few : List (Bor (List ℕ))) (more : List (List ℕ)) (name : List ℕ) →
    list_any (has_name name) few ≡ false →
    names_of few ++ with_name more name ≡ with_new (names_of few ++ more) name
rest_push few more name h =
    let all = names_of few ++ more in
    ap (λ b. names_of few ++ cond b more (more ++ name ∷ [])) (sym (any_position (bytes_eq name) more))
    ∙ by (list_any (bytes_eq name) more)
    ∙ sym (ap (λ b. cond b all (all ++ name ∷ [])) (among_rest name few more h))
  where
    by : (b : Bool) → names_of few ++ cond b more (more ++ name ∷ []) ≡
        cond b (names_of few ++ more) ((names_of few ++ more) ++ name ∷ [])
    by true = refl
    by false = sym (append_assoc (names_of few) more (name ∷ []))

-- a book has more names after a new one came
pub grows : (name : List ℕ) (more : List (List ℕ)) →
    nat_lt (length more) (length (with_name more name)) ≡ not (list_any (bytes_eq name) more)
grows name more =
    ap (λ b. nat_lt (length more) (length (cond b more (more ++ name ∷ []))))
    (sym (any_position (bytes_eq name) more))
    ∙ by (list_any (bytes_eq name) more)
  where
    by : (b : Bool) → nat_lt (length more) (length (cond b more (more ++ name ∷ []))) ≡ not b
    by true = le-ltb (length more) (length more) (omega arith)
    by false = lt-ltb (length more) (length (more ++ name ∷ [])) (omega (arith, length-append more (name ∷ [])))
