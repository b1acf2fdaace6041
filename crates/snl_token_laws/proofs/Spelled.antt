-- One of some spellings, and what an integer ends with.
use Rattle.std.proofs.Common.{◌≡◌, ◌⊎◌, inl, inr, ℕ, Bool, true, false, ◌||◌, List, [], ◌∷◌, ◌++◌, refl, sym, ap, ◌∙◌, subst}
use Rattle.std.specs.List.{list_all, list_any}
use Rattle.std.specs.Str.{bytes_eq}
use Rattle.std.proofs.lemmas.Bool.{and_parts, or_left, or_right}
use Rattle.std.proofs.lemmas.Slice.Eq.{bytes_eq-Decides}
use Rattle.snl_lex.specs.Numbers.{int_suffixes, is_int_suffix}
use Rattle.snl_token_laws.specs.Numbers.{EndsInteger, IsOneOf, long_marks, unsigned_marks}
use Rattle.snl_token_laws.specs.Numbers.EndsInteger.{long_first, unsigned_first}

pub or_either : (a b : Bool) → (a || b) ≡ true → (a ≡ true) ⊎ (b ≡ true)
or_either true b h = inl refl
or_either false b h = inr h

pub one_any : (bytes : List ℕ) (ss : List (List ℕ)) → IsOneOf bytes ss → list_any (bytes_eq bytes) ss ≡ true
one_any bytes [] h = elim h [ ]
one_any bytes (s ∷ ss) h =
    elim h [
      | inl e ↦ or_left (bytes_eq bytes s) (list_any (bytes_eq bytes) ss) ((bytes_eq-Decides bytes s).1 e)
      | inr later ↦ or_right (bytes_eq bytes s) (list_any (bytes_eq bytes) ss) (one_any bytes ss later)
    ]

pub any_one : (bytes : List ℕ) (ss : List (List ℕ)) → list_any (bytes_eq bytes) ss ≡ true → IsOneOf bytes ss
any_one bytes [] h = cc
any_one bytes (s ∷ ss) h =
    elim (or_either (bytes_eq bytes s) (list_any (bytes_eq bytes) ss) h) [
      | inl e ↦ inl ((bytes_eq-Decides bytes s).0 e)
      | inr later ↦ inr (any_one bytes ss later)
    ]

-- What holds of each spelling holds of what is one of them.
pub each_one : (p : List ℕ → Bool) (bytes : List ℕ) (ss : List (List ℕ)) → list_all p ss ≡ true → IsOneOf bytes ss → p bytes ≡ true
each_one p bytes [] all h = elim h [ ]
each_one p bytes (s ∷ ss) all h =
    let parts = and_parts (p s) (list_all p ss) all in
    elim h [
      | inl e ↦ ap p e ∙ parts.0
      | inr later ↦ each_one p bytes ss parts.1 later
    ]

pub each_two : (p : List ℕ → List ℕ → Bool) (a b : List ℕ) (ss ts : List (List ℕ)) → list_all (λ s. list_all (p s) ts) ss ≡ true → IsOneOf a ss → IsOneOf b ts → p a b ≡ true
each_two p a b ss ts all ha hb = each_one (p a) b ts (each_one (λ s. list_all (p s) ts) a ss all ha) hb

-- Two spellings side by side.
abbrev Pair : List (List ℕ) → List (List ℕ) → List ℕ → Type 0
Pair ss ts bytes = (a : List ℕ) × (b : List ℕ) × IsOneOf a ss × IsOneOf b ts × (bytes ≡ a ++ b)

second_found : (bytes a : List ℕ) (ts : List (List ℕ)) → list_any (λ t. bytes_eq bytes (a ++ t)) ts ≡ true → (b : List ℕ) × IsOneOf b ts × (bytes ≡ a ++ b)
second_found bytes a [] h = cc
second_found bytes a (t ∷ ts) h =
    elim (or_either (bytes_eq bytes (a ++ t)) (list_any (λ t. bytes_eq bytes (a ++ t)) ts) h) [
      | inl e ↦ (t, inl refl, (bytes_eq-Decides bytes (a ++ t)).0 e)
      | inr later ↦ let found = second_found bytes a ts later in (found.0, inr found.1, found.2)
    ]

pair_found : (bytes : List ℕ) (ss ts : List (List ℕ)) → list_any (λ s. list_any (λ t. bytes_eq bytes (s ++ t)) ts) ss ≡ true → Pair ss ts bytes
pair_found bytes [] ts h = cc
pair_found bytes (s ∷ ss) ts h =
    elim (or_either (list_any (λ t. bytes_eq bytes (s ++ t)) ts) (list_any (λ s. list_any (λ t. bytes_eq bytes (s ++ t)) ts) ss) h) [
      | inl e ↦ let found = second_found bytes s ts e in (s, found.0, inl refl, found.1, found.2)
      | inr later ↦ let found = pair_found bytes ss ts later in (found.0, found.1, inr found.2, found.3, found.4)
    ]

-- The test that the bytes are the two marks of an integer, in either order.
abbrev marked : List ℕ → Bool
marked bytes = list_any (λ s. list_any (λ t. bytes_eq bytes (s ++ t)) long_marks) unsigned_marks || list_any (λ s. list_any (λ t. bytes_eq bytes (s ++ t)) unsigned_marks) long_marks

all_marked : list_all marked int_suffixes ≡ true
all_marked = refl

ends_of_pair : (bytes : List ℕ) → Pair unsigned_marks long_marks bytes ⊎ Pair long_marks unsigned_marks bytes → EndsInteger bytes
ends_of_pair bytes h =
    elim h [
      | inl f ↦ subst EndsInteger (sym f.4) (unsigned_first f.0 f.1 f.2 f.3)
      | inr f ↦ subst EndsInteger (sym f.4) (long_first f.0 f.1 f.2 f.3)
    ]

pub ends_told : (bytes : List ℕ) → is_int_suffix bytes ≡ true → EndsInteger bytes
unfolding is_int_suffix
ends_told bytes h =
    let is : marked bytes ≡ true = each_one marked bytes int_suffixes all_marked (any_one bytes int_suffixes h) in
    let first : Bool = list_any (λ s. list_any (λ t. bytes_eq bytes (s ++ t)) long_marks) unsigned_marks in
    let second : Bool = list_any (λ s. list_any (λ t. bytes_eq bytes (s ++ t)) unsigned_marks) long_marks in
    elim (or_either first second is) [
      | inl e ↦ ends_of_pair bytes (inl (pair_found bytes unsigned_marks long_marks e))
      | inr e ↦ ends_of_pair bytes (inr (pair_found bytes long_marks unsigned_marks e))
    ]

pub ends_test : (bytes : List ℕ) → EndsInteger bytes → is_int_suffix bytes ≡ true
unfolding is_int_suffix
ends_test bytes (unsigned_first u l hu hl) = each_two (λ s t. is_int_suffix (s ++ t)) u l unsigned_marks long_marks refl hu hl
ends_test bytes (long_first l u hl hu) = each_two (λ s t. is_int_suffix (s ++ t)) l u long_marks unsigned_marks refl hl hu
