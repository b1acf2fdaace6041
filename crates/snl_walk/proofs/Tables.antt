-- A book of names with their meanings beside a stack of declarations: both say the same of each name.
use Rattle.std.proofs.Common.{◌≡◌, ℕ, Bool, true, false, cond, List, [], ◌∷◌, ◌++◌, ◌<◌, ◌≤◌, bytes_eq, slice_set, get_or, length, map, reverse, Option, Some, None, is_some, refl, sym, ap, ◌∙◌, subst, true≢false, arith, length-append, length-set, lt-ltb, le-ltb}
use Rattle.std.specs.List.{position}
use Rattle.std.specs.Option.{option_and_then, option_or}
use Rattle.std.proofs.Math.Seq.{get_or-append_seam}
use Rattle.std.proofs.lemmas.List.{get_or_append_left, get_or-set_other, get_or-set_same, get_or_past, reverse-append}
use Rattle.std.proofs.lemmas.List.Quantifiers.{position-Some}
use Rattle.std.proofs.lemmas.Slice.Eq.{bytes_eq-Decides}
use Rattle.snl_facts.specs.Positions.{position_push}
use Rattle.snl_names.specs.NameBook.{with_name}
use Rattle.snl_walk.specs.declared.occurrence.Local.{Local}
use Rattle.snl_walk.specs.declared.stack.VisibleName.{VisibleName}
use Rattle.snl_walk.specs.Scopes.{look_up}
use Rattle.snl_walk.specs.Stack.{IsStacked, KeepsEarlier, newest_first, put_at, shown, told_in}

-- ---- one name of the book means something else

-- what is told of a name that is at a place, or nowhere
abbrev told_at : List (Option Local) → Option ℕ → Option Local
told_at meanings o = option_and_then (λ n. get_or meanings n None) o

within : (names : List (List ℕ)) (name : List ℕ) (n : ℕ) →
    position (bytes_eq name) names ≡ Some n → n < length names
within names name n at = (position-Some (bytes_eq name) names n [] at).0

-- two names at one place are one name
one_name : (names : List (List ℕ)) (name other : List ℕ) (n : ℕ) →
    position (bytes_eq name) names ≡ Some n → position (bytes_eq other) names ≡ Some n →
    other ≡ name
one_name names name other n at there =
    (bytes_eq-Decides other (get_or names n [])).0
    (position-Some (bytes_eq other) names n [] there).1
    ∙ sym ((bytes_eq-Decides name (get_or names n [])).0
    (position-Some (bytes_eq name) names n [] at).1)

known_other : (names : List (List ℕ)) (meanings : List (Option Local)) (name : List ℕ) (n : ℕ)
    (v : Option Local) → position (bytes_eq name) names ≡ Some n →
    (other : List ℕ) → bytes_eq other name ≡ false →
    (o : Option ℕ) → position (bytes_eq other) names ≡ o →
    told_at (slice_set meanings n v) o ≡ told_at meanings o
known_other names meanings name n v at other is None there = refl
known_other names meanings name n v at other is (Some k) there =
    get_or-set_other meanings n k v None (λ e.
    let same : other ≡ name =
    one_name names name other n at (there ∙ ap (λ (i : ℕ). Some i) e) in
    true≢false (sym ((bytes_eq-Decides other name).1 same) ∙ is))

pub told-known : (names : List (List ℕ)) (meanings : List (Option Local)) (name : List ℕ) (n : ℕ)
    (v : Option Local) → length meanings ≡ length names → position (bytes_eq name) names ≡ Some n →
    (other : List ℕ) → told_in names (slice_set meanings n v) other ≡
    cond (bytes_eq other name) v (told_in names meanings other)
told-known names meanings name n v counted at other =
    elim (bytes_eq other name) as (λ b. bytes_eq other name ≡ b →
    told_in names (slice_set meanings n v) other ≡ cond b v (told_in names meanings other)) [
      | true ↦ λ is.
          ap (told_at (slice_set meanings n v))
          (ap (λ x. position (bytes_eq x) names) ((bytes_eq-Decides other name).0 is) ∙ at)
          ∙ get_or-set_same meanings n v None (omega (arith, within names name n at))
      | false ↦ λ is. known_other names meanings name n v at other is _ refl
    ] refl

-- ---- a name is new

itself : (name : List ℕ) → bytes_eq name name ≡ true
itself name = (bytes_eq-Decides name name).1 refl

last_place : (names : List (List ℕ)) (name : List ℕ) → position (bytes_eq name) names ≡ None →
    position (bytes_eq name) (names ++ name ∷ []) ≡ Some (length names)
last_place names name new =
    position_push (bytes_eq name) names name
    ∙ ap (λ o. option_or o (cond (bytes_eq name name) (Some (length names)) None)) new
    ∙ ap (λ b. cond b (Some (length names)) None) (itself name)

new_other : (names : List (List ℕ)) (meanings : List (Option Local)) (v : Option Local)
    (other : List ℕ) → length meanings ≡ length names →
    (o : Option ℕ) → position (bytes_eq other) names ≡ o →
    told_at (meanings ++ v ∷ []) (option_or o None) ≡ told_at meanings o
new_other names meanings v other counted None there = refl
new_other names meanings v other counted (Some k) there =
    get_or_append_left meanings (v ∷ []) None k (omega (arith, counted, within names other k there))

told-new : (names : List (List ℕ)) (meanings : List (Option Local)) (name : List ℕ)
    (v : Option Local) → length meanings ≡ length names → position (bytes_eq name) names ≡ None →
    (other : List ℕ) → told_in (names ++ name ∷ []) (meanings ++ v ∷ []) other ≡
    cond (bytes_eq other name) v (told_in names meanings other)
told-new names meanings name v counted new other =
    elim (bytes_eq other name) as (λ b. bytes_eq other name ≡ b →
    told_in (names ++ name ∷ []) (meanings ++ v ∷ []) other ≡
    cond b v (told_in names meanings other)) [
      | true ↦ λ is.
          ap (told_at (meanings ++ v ∷ []))
          (ap (λ x. position (bytes_eq x) (names ++ name ∷ [])) ((bytes_eq-Decides other name).0 is)
          ∙ last_place names name new)
          ∙ ap (λ n. get_or (meanings ++ v ∷ []) n None) (sym counted)
          ∙ get_or-append_seam meanings v [] None
      | false ↦ λ is.
          ap (told_at (meanings ++ v ∷ []))
          (position_push (bytes_eq other) names name
          ∙ ap (λ b. option_or (position (bytes_eq other) names)
          (cond b (Some (length names)) None)) is)
          ∙ new_other names meanings v other counted _ refl
    ] refl

-- ---- a name is taken into the book, and means something

put-inside : (n : ℕ) (v : Option Local) (meanings : List (Option Local)) → n < length meanings →
    put_at n v meanings ≡ slice_set meanings n v
put-inside n v meanings h =
    ap (λ b. cond b (slice_set meanings n v) (meanings ++ v ∷ [])) (lt-ltb n (length meanings) h)

put-end : (n : ℕ) (v : Option Local) (meanings : List (Option Local)) → n ≡ length meanings →
    put_at n v meanings ≡ meanings ++ v ∷ []
put-end n v meanings h =
    ap (λ b. cond b (slice_set meanings n v) (meanings ++ v ∷ []))
    (le-ltb n (length meanings) (omega (arith, h)))

pub record IsPut (names all : List (List ℕ)) (meanings : List (Option Local)) (name : List ℕ) (n : ℕ) (v : Option Local) : Type 0 where
  pub told : (other : List ℕ) → told_in all (put_at n v meanings) other ≡ cond (bytes_eq other name) v (told_in names meanings other)
  pub counted : length (put_at n v meanings) ≡ length all
  pub earlier : get_or meanings n None ≡ told_in names meanings name
  pub fits : n ≤ length meanings

pub is_put : (names : List (List ℕ)) (meanings : List (Option Local)) (name : List ℕ) (n : ℕ)
    (v : Option Local) → length meanings ≡ length names →
    position (bytes_eq name) (with_name names name) ≡ Some n →
    IsPut names (with_name names name) meanings name n v
is_put names meanings name n v counted at = by (position (bytes_eq name) names) refl at
  where
    inside : position (bytes_eq name) names ≡ Some n → IsPut names names meanings name n v
    inside here =
        let less : n < length meanings = omega (arith, counted, within names name n here) in
        let put = put-inside n v meanings less in
        record {
          told = λ other. ap (λ ms. told_in names ms other) put
              ∙ told-known names meanings name n v counted here other;
          counted = ap length put ∙ length-set meanings n v ∙ counted;
          earlier = sym (ap (told_at meanings) here);
          fits = omega (arith, less);
        }

    later : position (bytes_eq name) names ≡ None → n ≡ length names →
        IsPut names (names ++ name ∷ []) meanings name n v
    later new last =
        let put = put-end n v meanings (omega (arith, counted, last)) in
        record {
          told = λ other. ap (λ ms. told_in (names ++ name ∷ []) ms other) put
              ∙ told-new names meanings name v counted new other;
          counted = ap length put ∙ omega (arith, length-append meanings (v ∷ []), length-append names (name ∷ []), counted);
          earlier = get_or_past meanings n None (omega (arith, counted, last)) ∙ sym (ap (told_at meanings) new);
          fits = omega (arith, counted, last);
        }

    by : (o : Option ℕ) → position (bytes_eq name) names ≡ o →
        position (bytes_eq name) (cond (is_some o) names (names ++ name ∷ [])) ≡ Some n →
        IsPut names (cond (is_some o) names (names ++ name ∷ [])) meanings name n v
    by (Some k) is here = inside here
    by None is here =
        let last : Some n ≡ Some (length names) = sym here ∙ last_place names name is in
        later is (cc)

-- ---- declarations

-- one more entry is before the others
newest-push : (es : List VisibleName) (e : VisibleName) →
    newest_first (es ++ e ∷ []) ≡ shown e ∷ newest_first es
newest-push es e = ap (λ (l : List VisibleName). map shown l) (reverse-append es (e ∷ []))

kept-push : (es : List VisibleName) (e : VisibleName) → reverse (es ++ e ∷ []) ≡ e ∷ reverse es
kept-push es e = reverse-append es (e ∷ [])

-- a declaration is taken in
pub stack-push : (es : List VisibleName) (names all : List (List ℕ)) (meanings : List (Option Local))
    (n : ℕ) (e : VisibleName) → IsPut names all meanings e.name.now n (Some e.declared) →
    e.earlier ≡ get_or meanings n None → IsStacked es names meanings →
    IsStacked (es ++ e ∷ []) all (put_at n (Some e.declared) meanings)
stack-push es names all meanings n e put before h = record {
  told = λ other. put.told other
      ∙ ap (λ t. cond (bytes_eq other e.name.now) (Some e.declared) t) (h.told other)
      ∙ ap (look_up other) (sym (newest-push es e));
  kept = subst KeepsEarlier (sym (kept-push es e))
      (before ∙ put.earlier ∙ h.told e.name.now, h.kept);
  counted = put.counted;
}

-- the last declaration is let go
pub stack-pop : (es : List VisibleName) (names : List (List ℕ)) (meanings : List (Option Local))
    (n : ℕ) (e : VisibleName) → position (bytes_eq e.name.now) names ≡ Some n →
    IsStacked (es ++ e ∷ []) names meanings →
    IsStacked es names (slice_set meanings n e.earlier)
stack-pop es names meanings n e at h = record {
  told = λ other. told-known names meanings e.name.now n e.earlier h.counted at other
      ∙ by other (bytes_eq other e.name.now) refl;
  kept = kept.1;
  counted = length-set meanings n e.earlier ∙ h.counted;
}
  where
    kept : KeepsEarlier (e ∷ reverse es)
    kept = subst KeepsEarlier (kept-push es e) h.kept

    by : (other : List ℕ) (b : Bool) → bytes_eq other e.name.now ≡ b →
        cond b e.earlier (told_in names meanings other) ≡ look_up other (newest_first es)
    by other true is =
        kept.0 ∙ ap (λ k. look_up k (newest_first es))
        (sym ((bytes_eq-Decides other e.name.now).0 is))
    by other false is =
        h.told other ∙ ap (look_up other) (newest-push es e)
        ∙ ap (λ b. cond b (Some e.declared) (look_up other (newest_first es))) is

-- the name of a declaration is in the book
pub declared_name : (es : List VisibleName) (names : List (List ℕ)) (meanings : List (Option Local))
    (e : VisibleName) → IsStacked (es ++ e ∷ []) names meanings →
    position (bytes_eq e.name.now) names ≡ None → ⊥
declared_name es names meanings e h none =
    let told : None ≡ Some e.declared =
    sym (ap (told_at meanings) none) ∙ h.told e.name.now ∙ ap (look_up e.name.now) (newest-push es e)
    ∙ ap (λ b. cond b (Some e.declared) (look_up e.name.now (newest_first es))) (itself e.name.now) in
    cc
