-- A string ends with the first quote that no backslash takes.
use Rattle.std.proofs.Common.{◌≡◌, ◌==◌, ℕ, suc, ◌+◌, ◌<◌, ◌≤◌, ◌⊎◌, inl, inr, Bool, true, false, not, cond, ◌&&◌, ◌||◌, List, [], ◌∷◌, ◌++◌, length, refl, sym, ap, ap₂, ◌∙◌, subst, arith, append_assoc, length-append}
use Rattle.std.specs.Prelude.{slice_index, if◌then◌else◌}
use Rattle.std.proofs.lemmas.Bool.Decides.{nat_tests}
use Rattle.std.proofs.Math.Seq.{get_or-append_seam}
use Rattle.snl_lex.specs.declared.piece.Class.{Class}
use Rattle.snl_lex.specs.declared.piece.Class.TheVariants.{Text, CharLit, Bad}
use Rattle.snl_lex.specs.Alphabet.{is_digit, is_letter, is_white, start_of}
use Rattle.snl_lex.specs.Longest.{IsString, is_taken_at, stops_string}
use Rattle.snl_lex.specs.Pieces.{first_piece, is_taken, string_joins, string_piece}
use Rattle.snl_lex.specs.Runs.{run_by}
use Rattle.std.proofs.lemmas.Bool.{cases_lt}

-- From a place on, so many bytes don't stop a string, and the next one does.
record Goes (quote : ℕ) (u : List ℕ) (from n : ℕ) : Type 0 where
  pub on : (k : ℕ) → from ≤ k → k < from + n → stops_string quote u k ≡ false
  pub over : (from + n ≡ length u) ⊎ (stops_string quote u (from + n) ≡ true)

here_or_on : (quote : ℕ) (u : List ℕ) (from m k : ℕ) → stops_string quote u from ≡ false → Goes quote u (suc from) m → from ≤ k → k < from + suc m → stops_string quote u k ≡ false
here_or_on quote u from m k h r le lt =
    elim (cases_lt from k) [
      | inl less ↦ r.on k (omega (arith, less)) (omega (arith, lt))
      | inr same ↦ let e : from ≡ k = omega (arith, le, same) in subst (λ (n : ℕ). stops_string quote u n ≡ false) e h
    ]

-- One byte more: it joins exactly where it doesn't stop.
step : (quote : ℕ) (u : List ℕ) (from m : ℕ) (c : Bool) → stops_string quote u from ≡ not c → Goes quote u (suc from) m → Goes quote u from (cond c (suc m) 0)
step quote u from m true h r =
    let place : suc from + m ≡ from + suc m = omega arith in
    record { on = λ k le lt. here_or_on quote u from m k h r le lt; over = subst (λ (n : ℕ). (n ≡ length u) ⊎ (stops_string quote u n ≡ true)) place r.over }
step quote u from m false h r =
    let place : from ≡ from + 0 = omega arith in
    record { on = λ k le lt. absurd (omega (arith, le, lt)); over = inr (subst (λ (n : ℕ). stops_string quote u n ≡ true) place h) }

not_or : (a b : Bool) → (not a && b) ≡ not (a || not b)
not_or true true = refl
not_or true false = refl
not_or false true = refl
not_or false false = refl

-- A byte after some that the string has: by the same bytes, it is taken or not, and it stops
-- exactly where it doesn't join.
stops_or_joins : (quote : ℕ) (before front : List ℕ) (x : ℕ) (xs : List ℕ) → is_taken before ≡ is_taken_at (front ++ x ∷ xs) (length front) → stops_string quote (front ++ x ∷ xs) (length front) ≡ not (string_joins quote before x)
stops_or_joins quote before front x xs taken =
    let u : List ℕ = front ++ x ∷ xs in
    let here : slice_index u (length front) ≡ x = get_or-append_seam front x xs 0 in
    ap₂ (λ (t : Bool) (b : ℕ). not t && (b == quote || b == 10)) (sym taken) here ∙ not_or (is_taken before) (x == quote || x == 10)

taken_next : (before front : List ℕ) (x : ℕ) (xs : List ℕ) → is_taken before ≡ is_taken_at (front ++ x ∷ xs) (length front) → is_taken (x ∷ before) ≡ is_taken_at (front ++ x ∷ xs) (suc (length front))
taken_next before front x xs taken =
    let u : List ℕ = front ++ x ∷ xs in
    let here : slice_index u (length front) ≡ x = get_or-append_seam front x xs 0 in
    by (x == 92) ∙ ap₂ (λ (b : ℕ) (t : Bool). b == 92 && not t) (sym here) taken
  where
    by : (c : Bool) → cond c (not (is_taken before)) false ≡ (c && not (is_taken before))
    by true = refl
    by false = refl

reached : (quote : ℕ) (before front xs : List ℕ) → is_taken before ≡ is_taken_at (front ++ xs) (length front) → Goes quote (front ++ xs) (length front) (run_by (string_joins quote) before xs)
reached quote before front [] taken =
    let all : length front + 0 ≡ length (front ++ []) = omega (arith, length-append front []) in
    record { on = λ k le lt. absurd (omega (arith, le, lt)); over = inl all }
reached quote before front (x ∷ xs) taken =
    let u : List ℕ = front ++ x ∷ xs in
    let next : List ℕ = front ++ x ∷ [] in
    let whole : next ++ xs ≡ u = append_assoc front (x ∷ []) xs in
    let size : length next ≡ suc (length front) = omega (arith, length-append front (x ∷ [])) in
    let again : Goes quote (next ++ xs) (length next) (run_by (string_joins quote) (x ∷ before) xs) =
    reached quote (x ∷ before) next xs (taken_next before front x xs taken ∙ sym (ap₂ is_taken_at whole size)) in
    step quote u (length front) (run_by (string_joins quote) (x ∷ before) xs) (string_joins quote before x)
    (stops_or_joins quote before front x xs taken)
    (subst (λ (n : ℕ). Goes quote u n (run_by (string_joins quote) (x ∷ before) xs)) size (subst (λ (l : List ℕ). Goes quote l (length next) (run_by (string_joins quote) (x ∷ before) xs)) whole again))

-- What a string is that stops at a place, with or without a quote there.
abbrev ended : Class → ℕ → Bool → Class × ℕ
ended kind place c = if c then (kind, 1 + place) else (Bad, place)

ends_so : (kind : Class) (quote byte place : ℕ) (c : Bool) → (byte == quote) ≡ c →
    ((byte ≡ quote) × ((ended kind place c).0 ≡ kind) × ((ended kind place c).1 ≡ 1 + place)) ⊎ ((byte ≡ quote → ⊥) × ((ended kind place c).0 ≡ Bad) × ((ended kind place c).1 ≡ place))
ends_so kind quote byte place true e = inl (grind (arith, nat_tests), refl, refl)
ends_so kind quote byte place false e = inr (λ same. grind (arith, nat_tests), refl, refl)

-- The piece that begins with a quote that is no backslash.
string_first : (kind : Class) (quote : ℕ) (xs : List ℕ) → (quote == 92) ≡ false → IsString kind quote (quote ∷ xs) (string_piece kind quote (quote ∷ xs))
string_first kind quote xs plain =
    let u : List ℕ = quote ∷ xs in
    let r : ℕ = run_by (string_joins quote) [] xs in
    let free : is_taken [] ≡ is_taken_at (quote ∷ xs) 1 = sym (ap (λ (b : Bool). b && not false) plain) in
    let goes : Goes quote u 1 r = reached quote [] (quote ∷ []) xs free in
    (1 + r, (record { after = omega arith; first = goes.on; stops = goes.over }, ends_so kind quote (slice_index u (1 + r)) (1 + r) (slice_index u (1 + r) == quote) refl))

begun : (P : List ℕ → Type 0) (a : ℕ) → (a ≡ 0 → ⊥) → ((r : List ℕ) → P (a ∷ r)) → (u : List ℕ) → slice_index u 0 ≡ a → P u
begun P a some all [] h = absurd (some (sym h))
begun P a some all (x ∷ r) h = subst (λ (n : ℕ). P (n ∷ r)) (sym h) (all r)

by_quote : (r : List ℕ) → first_piece (34 ∷ r) ≡ string_piece Text 34 (34 ∷ r)
unfolding first_piece start_of is_white is_letter is_digit
by_quote r = refl

by_apostrophe : (r : List ℕ) → first_piece (39 ∷ r) ≡ string_piece CharLit 39 (39 ∷ r)
unfolding first_piece start_of is_white is_letter is_digit
by_apostrophe r = refl

pub text_first : (u : List ℕ) → slice_index u 0 ≡ 34 → IsString Text 34 u (first_piece u)
text_first u h =
    begun (λ (v : List ℕ). IsString Text 34 v (first_piece v)) 34 (λ e. omega (arith, e))
    (λ r. subst (λ (p : Class × ℕ). IsString Text 34 (34 ∷ r) p) (sym (by_quote r)) (string_first Text 34 r refl)) u h

pub character_first : (u : List ℕ) → slice_index u 0 ≡ 39 → IsString CharLit 39 u (first_piece u)
character_first u h =
    begun (λ (v : List ℕ). IsString CharLit 39 v (first_piece v)) 39 (λ e. omega (arith, e))
    (λ r. subst (λ (p : Class × ℕ). IsString CharLit 39 (39 ∷ r) p) (sym (by_apostrophe r)) (string_first CharLit 39 r refl)) u h
