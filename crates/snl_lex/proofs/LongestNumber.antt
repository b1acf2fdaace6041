-- A number is the longest number run that the text begins with.
use Rattle.std.proofs.Common.{◌≡◌, ◌==◌, ℕ, suc, ◌+◌, ◌-◌, ◌<◌, ◌≤◌, ◌⊎◌, inl, inr, Bool, true, false, cond, ◌&&◌, ◌||◌, List, [], ◌∷◌, ◌++◌, length, take, refl, sym, ap, ap₂, ◌∙◌, subst, arith, append_assoc, length-append}
use Rattle.std.specs.Prelude.{slice_index}
use Rattle.std.specs.List.{list_all}
use Rattle.std.proofs.lemmas.List.{get_or-append-add}
use Rattle.std.proofs.Math.Seq.{get_or-append_seam, take-append_seam}
use Rattle.snl_lex.specs.declared.alphabet.Start.TheVariants.{Digit, Dot}
use Rattle.snl_lex.specs.declared.piece.Class.{Class}
use Rattle.snl_lex.specs.Alphabet.{is_digit, is_letter, is_plain, is_white, is_word_byte, start_of}
use Rattle.snl_lex.specs.Local.{run_by_inside}
use Rattle.snl_lex.specs.Longest.{IsLongestNumber, goes_on}
use Rattle.snl_lex.specs.Numbers.{awaits_sign, is_power, is_sign, number_class, number_joins}
use Rattle.snl_lex.specs.Pieces.{first_piece, punctuator_piece, number_piece}
use Rattle.snl_lex.specs.Runs.{run_by}
use Rattle.std.proofs.lemmas.Bool.{cases_lt, true≢false, cond-true}
use Rattle.snl_lex.specs.PieceLaws.{digit_start}
use Rattle.snl_lex.proofs.Longest.{by_start}

-- The one list is the other from its end.
abbrev Mirrors : List ℕ → List ℕ → Type 0
Mirrors [] front = front ≡ []
Mirrors (b ∷ bs) front = (rest : List ℕ) × ((front ≡ rest ++ b ∷ []) × Mirrors bs rest)

swap : (a b c : Bool) → (a && (b && c)) ≡ (b && (a && c))
swap true true c = refl
swap true false c = refl
swap false true c = refl
swap false false c = refl

all_push : (p : ℕ → Bool) (xs : List ℕ) (x : ℕ) → list_all p (xs ++ x ∷ []) ≡ (p x && list_all p xs)
all_push p [] x = refl
all_push p (y ∷ ys) x = ap (λ (b : Bool). p y && b) (all_push p ys x) ∙ swap (p y) (p x) (list_all p ys)

all_mirrored : (p : ℕ → Bool) (before front : List ℕ) → Mirrors before front → list_all p before ≡ list_all p front
all_mirrored p [] front m = sym (ap (list_all p) m)
all_mirrored p (b ∷ bs) front m =
    ap (λ (t : Bool). p b && t) (all_mirrored p bs m.0 m.1.1) ∙ sym (ap (list_all p) m.1.0 ∙ all_push p m.0 b)

abbrev joins_as : ℕ → ℕ → Bool → Bool
joins_as x b plain = is_word_byte x || x == 46 || (is_sign x && (is_power b && plain))

joins_after : (b : ℕ) (bs : List ℕ) (x : ℕ) → number_joins (b ∷ bs) x ≡ joins_as x b (list_all is_plain bs)
unfolding number_joins awaits_sign
joins_after b bs x = refl

on_at : (rest : List ℕ) (b x : ℕ) (xs : List ℕ) → goes_on (rest ++ b ∷ x ∷ xs) (length rest + 1) ≡ joins_as x b (list_all is_plain rest)
on_at rest b x xs =
    let u : List ℕ = rest ++ b ∷ x ∷ xs in
    let here : slice_index u (length rest + 1) ≡ x = get_or-append-add rest (b ∷ x ∷ xs) 1 0 in
    let back : (length rest + 1) - 1 ≡ length rest = omega arith in
    let last : slice_index u ((length rest + 1) - 1) ≡ b = ap (slice_index u) back ∙ get_or-append_seam rest b (x ∷ xs) 0 in
    let front : take ((length rest + 1) - 1) u ≡ rest = ap (λ (n : ℕ). take n u) back ∙ take-append_seam rest (b ∷ x ∷ xs) in
    let G : ℕ → List ℕ → Bool = λ (y : ℕ) (l : List ℕ). is_word_byte y || y == 46 || (is_sign y && (is_power (slice_index u ((length rest + 1) - 1)) && list_all is_plain l)) in
    ap₂ G here front ∙ ap (λ (y : ℕ). joins_as x y (list_all is_plain rest)) last

joins_on : (b : ℕ) (bs front : List ℕ) (x : ℕ) (xs : List ℕ) → Mirrors (b ∷ bs) front → number_joins (b ∷ bs) x ≡ goes_on (front ++ x ∷ xs) (length front)
joins_on b bs front x xs m =
    let rest : List ℕ = m.0 in
    let whole : front ++ x ∷ xs ≡ rest ++ b ∷ x ∷ xs = ap (λ (l : List ℕ). l ++ x ∷ xs) m.1.0 ∙ append_assoc rest (b ∷ []) (x ∷ xs) in
    let size : length front ≡ length rest + 1 = ap length m.1.0 ∙ length-append rest (b ∷ []) in
    joins_after b bs x ∙ ap (joins_as x b) (all_mirrored is_plain bs rest m.1.1) ∙ sym (ap₂ goes_on whole size ∙ on_at rest b x xs)

-- From a place on, so many bytes go on the run, and the next one doesn't.
pub record Reaches (u : List ℕ) (from : ℕ) (n : ℕ) : Type 0 where
  pub on : (k : ℕ) → from ≤ k → k < from + n → goes_on u k ≡ true
  pub over : (from + n ≡ length u) ⊎ (goes_on u (from + n) ≡ false)

here_or_on : (u : List ℕ) (from m k : ℕ) → goes_on u from ≡ true → Reaches u (suc from) m → from ≤ k → k < from + suc m → goes_on u k ≡ true
here_or_on u from m k h r le lt =
    elim (cases_lt from k) [
      | inl less ↦ r.on k (omega (arith, less)) (omega (arith, lt))
      | inr same ↦ let e : from ≡ k = omega (arith, le, same) in subst (λ (n : ℕ). goes_on u n ≡ true) e h
    ]

reach_step : (u : List ℕ) (from m : ℕ) (c : Bool) → goes_on u from ≡ c → Reaches u (suc from) m → Reaches u from (cond c (suc m) 0)
reach_step u from m true h r =
    let place : suc from + m ≡ from + suc m = omega arith in
    record { on = λ k le lt. here_or_on u from m k h r le lt; over = subst (λ (n : ℕ). (n ≡ length u) ⊎ (goes_on u n ≡ false)) place r.over }
reach_step u from m false h r =
    let place : from ≡ from + 0 = omega arith in
    record { on = λ k le lt. absurd (omega (arith, le, lt)); over = inr (subst (λ (n : ℕ). goes_on u n ≡ false) place h) }

reached : (b : ℕ) (bs front xs : List ℕ) → Mirrors (b ∷ bs) front → Reaches (front ++ xs) (length front) (run_by number_joins (b ∷ bs) xs)
reached b bs front [] m =
    let all : length front + 0 ≡ length (front ++ []) = omega (arith, length-append front []) in
    record { on = λ k le lt. absurd (omega (arith, le, lt)); over = inl all }
reached b bs front (x ∷ xs) m =
    let u : List ℕ = front ++ x ∷ xs in
    let n : ℕ = run_by number_joins (x ∷ b ∷ bs) xs in
    let again : Reaches ((front ++ x ∷ []) ++ xs) (length (front ++ x ∷ [])) n = reached x (b ∷ bs) (front ++ x ∷ []) xs (front, (refl, m)) in
    let whole : (front ++ x ∷ []) ++ xs ≡ u = append_assoc front (x ∷ []) xs in
    let size : length (front ++ x ∷ []) ≡ suc (length front) = omega (arith, length-append front (x ∷ [])) in
    let next : Reaches u (suc (length front)) n = subst (λ (l : List ℕ). Reaches l (suc (length front)) n) whole (subst (λ (k : ℕ). Reaches ((front ++ x ∷ []) ++ xs) k n) size again) in
    reach_step u (length front) n (number_joins (b ∷ bs) x) (sym (joins_on b bs front x xs m)) next

number_longest : (x : ℕ) (xs : List ℕ) → IsLongestNumber (x ∷ xs) (1 + run_by number_joins (x ∷ []) xs)
number_longest x xs =
    let n : ℕ = run_by number_joins (x ∷ []) xs in
    let u : List ℕ = x ∷ xs in
    let r : Reaches u 1 n = reached x [] (x ∷ []) xs ([], (refl, refl)) in
    record {
      inside = omega (arith, run_by_inside number_joins (x ∷ []) xs);
      run = r.on;
      longest = λ m le h.
          elim (cases_lt (1 + n) m) [
            | inl less ↦
                elim r.over [
                  | inl all ↦ absurd (omega (arith, all, le, less))
                  | inr stops ↦ absurd (true≢false (sym (h (1 + n) (omega arith) less) ∙ stops))
                ]
            | inr more ↦ more
          ];
    }

-- ---- what the first bytes say

dot_start : start_of 46 ≡ Dot
unfolding start_of is_white is_letter is_digit
dot_start = refl

abbrev IsNumberPiece : List ℕ → Class × ℕ → Type 0
IsNumberPiece u p = (p.0 ≡ number_class (take p.1 u)) × IsLongestNumber u p.1

number_is : (x : ℕ) (xs : List ℕ) → first_piece (x ∷ xs) ≡ number_piece (x ∷ xs) → IsNumberPiece (x ∷ xs) (first_piece (x ∷ xs))
number_is x xs e = subst (IsNumberPiece (x ∷ xs)) (sym e) (refl, number_longest x xs)

pub number_first : (u : List ℕ) → 0 < length u → (is_digit (slice_index u 0) ≡ true) ⊎ ((slice_index u 0 ≡ 46) × (is_digit (slice_index u 1) ≡ true)) → IsNumberPiece u (first_piece u)
number_first [] some h = absurd (omega arith)
number_first (x ∷ xs) some (inl digit) = number_is x xs (by_start Digit x xs (digit_start x digit))
number_first (x ∷ xs) some (inr dot) =
    let start : start_of x ≡ Dot = ap start_of dot.0 ∙ dot_start in
    number_is x xs (by_start Dot x xs start ∙ cond-true (is_digit (slice_index (x ∷ xs) 1)) (number_piece (x ∷ xs)) (punctuator_piece (x ∷ xs)) dot.1)
