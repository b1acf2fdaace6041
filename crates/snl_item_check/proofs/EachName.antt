-- What holds of each name, and of each different one.
use Rattle.std.proofs.Common.{◌≡◌, ℕ, Bool, true, false, cond, List, [], ◌∷◌, ◌++◌, inl, inr, refl, subst, sym}
use Rattle.std.specs.List.{AllByRecursion, list_any}
use Rattle.std.specs.Str.{bytes_eq}
use Rattle.std.proofs.lemmas.Bool.{or_cases}
use Rattle.std.proofs.lemmas.Slice.Eq.{bytes_eq-Decides}
use Rattle.snl_facts.specs.Each.{each_front, each_rear}
use Rattle.snl_walk.specs.Once.{once, once_after, with_new}

-- what holds of names holds of one that is among them
pub each_among : (P : List ℕ → Type 0) (name : List ℕ) (names : List (List ℕ)) → list_any (bytes_eq name) names ≡ true → AllByRecursion P names → P name
each_among P name [] is h = absurd cc
each_among P name (n ∷ ns) is h =
    elim (or_cases (bytes_eq name n) (list_any (bytes_eq name) ns) is) [ inl e ↦ subst P (sym ((bytes_eq-Decides name n).0 e)) h.0 | inr e ↦ each_among P name ns e h.1 ]

-- where one more name is taken in
taken : (P : List ℕ → Type 0) (name : List ℕ) (names : List (List ℕ)) (b : Bool) → list_any (bytes_eq name) names ≡ b →
    AllByRecursion P (cond b names (names ++ name ∷ [])) → AllByRecursion P names × P name
taken P name names true is h = (h, each_among P name names is h)
taken P name names false is h = (each_front P names (name ∷ []) h, (each_rear P names (name ∷ []) h).0)

each_once_after : (P : List ℕ → Type 0) (found names : List (List ℕ)) → AllByRecursion P (once_after found names) → AllByRecursion P found × AllByRecursion P names
each_once_after P found [] h = (h, tt)
each_once_after P found (n ∷ ns) h =
    let rest = each_once_after P (with_new found n) ns h in
    let here = taken P n found (list_any (bytes_eq n) found) refl rest.0 in
    (here.0, (here.1, rest.1))

-- what holds of each different name holds of each name
pub each_once : (P : List ℕ → Type 0) (names : List (List ℕ)) → AllByRecursion P (once names) → AllByRecursion P names
each_once P names h = (each_once_after P [] names h).1
