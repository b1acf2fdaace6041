-- Names that are kept once: which they are, that no two are the same, and where a further one goes.
use Rattle.std.proofs.Common.{◌≡◌, ◌≢◌, Bool, true, false, ◌||◌, ◌↔◌, cond, ℕ, List, [], ◌∷◌, ◌++◌, refl, ap, sym, ◌∙◌}
use Rattle.std.proofs.lemmas.Cmp.{nat_list_eq_equiv}
use Rattle.std.proofs.Math.Bool.{or_assoc, or-false, or-true}
use Rattle.std.specs.List.{AllPairs, Contains, IsDistinct, list_any}
use Rattle.std.specs.Str.{bytes_eq}
use Rattle.std.proofs.lemmas.List.Folds.{list_any-append}
use Rattle.std.proofs.lemmas.Map.Keys.{IsDistinct-push}
use Rattle.std.proofs.lemmas.Map.Made.{AllPairs-from_IsDistinct}
use Rattle.std.proofs.lemmas.Map.Views.{Contains-from_any, list_any-from_Contains}
use Rattle.std.proofs.lemmas.Slice.Eq.{bytes_eq-Decides}
use Rattle.snl_facts.specs.Bytes.{same_bytes}
use Rattle.snl_walk.specs.Once.{once, once_after, with_new}

-- a further name goes after the others, unless it is among them
pub once_after-push : (found names : List (List ℕ)) (name : List ℕ) → once_after found (names ++ name ∷ []) ≡ with_new (once_after found names) name
once_after-push found [] name = refl
once_after-push found (x ∷ xs) name = once_after-push (with_new found x) xs name

distinct_if : (b : Bool) (found : List (List ℕ)) (name : List ℕ) → list_any (bytes_eq name) found ≡ b → IsDistinct bytes_eq found → IsDistinct bytes_eq (cond b found (found ++ name ∷ []))
distinct_if true found name is d = d
distinct_if false found name is d = IsDistinct-push nat_list_eq_equiv found name d is

distinct_after : (found names : List (List ℕ)) → IsDistinct bytes_eq found → IsDistinct bytes_eq (once_after found names)
distinct_after found [] d = d
distinct_after found (x ∷ xs) d = distinct_after (with_new found x) xs (distinct_if (list_any (bytes_eq x) found) found x refl d)

-- no two names are the same
pub once_apart : (names : List (List ℕ)) → AllPairs (λ a b. a ≢ b) (once names)
unfolding IsDistinct
once_apart names = AllPairs-from_IsDistinct bytes_eq-Decides (once names) (distinct_after [] names tt)

-- what is so wherever the other is
held_too : (a c : Bool) → (c ≡ true → a ≡ true) → a ≡ (a || c)
held_too a true h = h refl ∙ sym (or-true a)
held_too a false h = sym (or-false a)

among_if : (b : Bool) (found : List (List ℕ)) (x name : List ℕ) → list_any (bytes_eq x) found ≡ b → list_any (bytes_eq name) (cond b found (found ++ x ∷ [])) ≡ (list_any (bytes_eq name) found || bytes_eq name x)
among_if false found x name is = list_any-append (bytes_eq name) found (x ∷ []) ∙ ap (λ b. list_any (bytes_eq name) found || b) (or-false (bytes_eq name x))
among_if true found x name is =
    held_too (list_any (bytes_eq name) found) (bytes_eq name x) (λ e.
    ap (λ n. list_any (bytes_eq n) found) ((bytes_eq-Decides name x).0 e) ∙ is)

-- a name is among those that are kept where it is among all
among_after : (found names : List (List ℕ)) (name : List ℕ) → list_any (bytes_eq name) (once_after found names) ≡ (list_any (bytes_eq name) found || list_any (bytes_eq name) names)
among_after found [] name = sym (or-false (list_any (bytes_eq name) found))
among_after found (x ∷ xs) name =
    among_after (with_new found x) xs name
    ∙ ap (λ b. b || list_any (bytes_eq name) xs) (among_if (list_any (bytes_eq x) found) found x name refl)
    ∙ or_assoc (list_any (bytes_eq name) found) (bytes_eq name x) (list_any (bytes_eq name) xs)

pub once_same : (names : List (List ℕ)) (name : List ℕ) → Contains (once names) name ↔ Contains names name
once_same names name =
    let kept : list_any (bytes_eq name) (once names) ≡ list_any (bytes_eq name) names = among_after [] names name in (
      λ h. Contains-from_any same_bytes name names (sym kept ∙ list_any-from_Contains nat_list_eq_equiv name (once names) h),
      λ h. Contains-from_any same_bytes name (once names) (kept ∙ list_any-from_Contains nat_list_eq_equiv name names h),
    )
