-- A punctuator is the longest of those that the text begins with.
use Rattle.std.proofs.Common.{◌≡◌, ◌==◌, ℕ, suc, ◌+◌, ◌<◌, ◌≤◌, ◌⊎◌, inl, inr, Bool, true, false, cond, ◌||◌, List, [], ◌∷◌, ◌++◌, length, take, drop, get_or, Option, Some, None, is_some, refl, sym, ap, ◌∙◌, subst, arith}
use Rattle.std.specs.Prelude.{slice_index}
use Rattle.std.specs.List.{list_all, list_any}
use Rattle.std.specs.Str.{bytes_eq}
use Rattle.std.proofs.lemmas.List.{length-take-le}
use Rattle.std.proofs.lemmas.List.Folds.{list_any-append}
use Rattle.snl_lex.specs.declared.alphabet.Start.{Start}
use Rattle.snl_lex.specs.declared.alphabet.Start.TheVariants.{Blank, Letter, Digit, Dot, Hash, Slash, Percent, Quote, Apostrophe, Sign, Stray}
use Rattle.snl_lex.specs.declared.piece.Class.{Class}
use Rattle.snl_lex.specs.declared.piece.Class.TheVariants.{Comment, CCode, Name, Word, Int, Float, Text, CharLit, Punct, Bad}
use Rattle.snl_lex.specs.Alphabet.{is_digit, is_in_line, is_letter, is_punctuator, is_white, is_word_byte, start_of}
use Rattle.snl_lex.specs.Kinds.{has, is_word, punctuators_of_1, punctuators_of_2, punctuators_of_3, spellings}
use Rattle.snl_lex.specs.Local.{piece_front}
use Rattle.snl_lex.specs.Longest.{IsLongestPunctuator}
use Rattle.snl_lex.specs.Numbers.{int_value_of, is_float, number_class, number_joins}
use Rattle.snl_lex.specs.Pieces.{closed_by, closed_piece, first_piece, longest_punctuator, punctuator_piece, piece_by, run_piece, string_joins}
use Rattle.snl_lex.specs.Runs.{close_of, run_by, run_of}
use Rattle.std.proofs.lemmas.Bool.{true≢false, or_cases, or_right, or_left, eqb-true}
use Rattle.snl_facts.specs.Booleans.{and_second, and_first}
use Rattle.snl_lex.specs.PieceLaws.{dot_is, slash_is, percent_is}

same_length : (s m : List ℕ) → bytes_eq s m ≡ true → length s ≡ length m
same_length [] [] h = refl
same_length [] (y ∷ m) h = cc
same_length (x ∷ s) [] h = cc
same_length (x ∷ s) (y ∷ m) h = ap suc (same_length s m (and_second (x == y) (bytes_eq s m) h))

any_length : (k : ℕ) (s : List ℕ) (ms : List (List ℕ)) → list_all (λ m. length m == k) ms ≡ true → list_any (bytes_eq s) ms ≡ true → length s ≡ k
any_length k s [] h e = cc
any_length k s (m ∷ ms) h e =
    elim (or_cases (bytes_eq s m) (list_any (bytes_eq s) ms) e) [
      | inl here ↦ same_length s m here ∙ eqb-true (length m) k (and_first (length m == k) (list_all (λ n. length n == k) ms) h)
      | inr later ↦ any_length k s ms (and_second (length m == k) (list_all (λ n. length n == k) ms) h) later
    ]

punctuator_parts : (s : List ℕ) → is_punctuator s ≡ (has punctuators_of_1 s || (has punctuators_of_2 s || has punctuators_of_3 s))
unfolding is_punctuator
punctuator_parts s =
    list_any-append (bytes_eq s) (spellings punctuators_of_1) (spellings punctuators_of_2 ++ spellings punctuators_of_3)
    ∙ ap (λ (b : Bool). has punctuators_of_1 s || b) (list_any-append (bytes_eq s) (spellings punctuators_of_2) (spellings punctuators_of_3))

-- A punctuator has one byte, or is one of those of two, or of three.
punctuator_sizes : (s : List ℕ) → is_punctuator s ≡ true → (length s ≡ 1) ⊎ (((length s ≡ 2) × (has punctuators_of_2 s ≡ true)) ⊎ ((length s ≡ 3) × (has punctuators_of_3 s ≡ true)))
punctuator_sizes s h =
    let one : Bool = has punctuators_of_1 s in
    let two : Bool = has punctuators_of_2 s in
    let three : Bool = has punctuators_of_3 s in
    elim (or_cases one (two || three) (sym (punctuator_parts s) ∙ h)) [
      | inl a ↦ inl (any_length 1 s (spellings punctuators_of_1) refl a)
      | inr more ↦
          elim (or_cases two three more) [
            | inl b ↦ inr (inl (any_length 2 s (spellings punctuators_of_2) refl b, b))
            | inr c ↦ inr (inr (any_length 3 s (spellings punctuators_of_3) refl c, c))
          ]
    ]

abbrev two : ℕ → ℕ → Bool
two a b = has punctuators_of_2 (a ∷ b ∷ [])

abbrev three : ℕ → ℕ → ℕ → Bool
three a b c = has punctuators_of_3 (a ∷ b ∷ c ∷ [])

abbrev sized : Bool → Bool → ℕ
sized p q = cond p 3 (cond q 2 1)

sized_one : (p q : Bool) → 1 ≤ sized p q
sized_one true q = omega arith
sized_one false true = omega arith
sized_one false false = omega arith

sized_two : (p q : Bool) → q ≡ true → 2 ≤ sized p q
sized_two true q h = omega arith
sized_two false true h = omega arith
sized_two false false h = cc

sized_three : (p q : Bool) → p ≡ true → 3 ≤ sized p q
sized_three true q h = omega arith
sized_three false q h = cc

three_punctuator : (x : ℕ) (xs : List ℕ) → 3 ≤ suc (length xs) → three x (get_or xs 0 0) (get_or xs 1 0) ≡ true → is_punctuator (take 3 (x ∷ xs)) ≡ true
three_punctuator x [] le h = absurd (omega (arith, le))
three_punctuator x (y ∷ []) le h = absurd (omega (arith, le))
three_punctuator x (y ∷ z ∷ r) le h =
    let s : List ℕ = x ∷ y ∷ z ∷ [] in
    punctuator_parts s ∙ or_right (has punctuators_of_1 s) (has punctuators_of_2 s || has punctuators_of_3 s) (or_right (has punctuators_of_2 s) (has punctuators_of_3 s) h)

two_punctuator : (x : ℕ) (xs : List ℕ) → 2 ≤ suc (length xs) → two x (get_or xs 0 0) ≡ true → is_punctuator (take 2 (x ∷ xs)) ≡ true
two_punctuator x [] le h = absurd (omega (arith, le))
two_punctuator x (y ∷ r) le h =
    let s : List ℕ = x ∷ y ∷ [] in
    punctuator_parts s ∙ or_right (has punctuators_of_1 s) (has punctuators_of_2 s || has punctuators_of_3 s) (or_left (has punctuators_of_2 s) (has punctuators_of_3 s) h)

punctuator_there : (x : ℕ) (xs : List ℕ) (p q : Bool) → three x (get_or xs 0 0) (get_or xs 1 0) ≡ p → two x (get_or xs 0 0) ≡ q → is_punctuator (x ∷ []) ≡ true → sized p q ≤ suc (length xs) → is_punctuator (take (sized p q) (x ∷ xs)) ≡ true
punctuator_there x xs true q h k m le = three_punctuator x xs le h
punctuator_there x xs false true h k m le = two_punctuator x xs le k
punctuator_there x xs false false h k m le = m

two_told : (x : ℕ) (xs : List ℕ) (n : ℕ) → n ≡ 2 → n ≤ suc (length xs) → has punctuators_of_2 (take n (x ∷ xs)) ≡ true → two x (get_or xs 0 0) ≡ true
two_told x [] n e le h = absurd (omega (arith, e, le))
two_told x (y ∷ r) n e le h = sym (ap (λ (m : ℕ). has punctuators_of_2 (take m (x ∷ y ∷ r))) e) ∙ h

three_told : (x : ℕ) (xs : List ℕ) (n : ℕ) → n ≡ 3 → n ≤ suc (length xs) → has punctuators_of_3 (take n (x ∷ xs)) ≡ true → three x (get_or xs 0 0) (get_or xs 1 0) ≡ true
three_told x [] n e le h = absurd (omega (arith, e, le))
three_told x (y ∷ []) n e le h = absurd (omega (arith, e, le))
three_told x (y ∷ z ∷ r) n e le h = sym (ap (λ (m : ℕ). has punctuators_of_3 (take m (x ∷ y ∷ z ∷ r))) e) ∙ h

no_longer : (x : ℕ) (xs : List ℕ) (n : ℕ) → n ≤ suc (length xs) → is_punctuator (take n (x ∷ xs)) ≡ true → n ≤ sized (three x (get_or xs 0 0) (get_or xs 1 0)) (two x (get_or xs 0 0))
no_longer x xs n le h =
    let p : Bool = three x (get_or xs 0 0) (get_or xs 1 0) in
    let q : Bool = two x (get_or xs 0 0) in
    let size : length (take n (x ∷ xs)) ≡ n = length-take-le n (x ∷ xs) le in
    elim (punctuator_sizes (take n (x ∷ xs)) h) [
      | inl one ↦ omega (arith, size, one, sized_one p q)
      | inr more ↦
          elim more [
            | inl pair ↦ omega (arith, size, pair.0, sized_two p q (two_told x xs n (sym size ∙ pair.0) le pair.1))
            | inr all ↦ omega (arith, size, all.0, sized_three p q (three_told x xs n (sym size ∙ all.0) le all.1))
          ]
    ]

punctuator_longest : (x : ℕ) (xs : List ℕ) → is_punctuator (x ∷ []) ≡ true → longest_punctuator (x ∷ xs) ≤ suc (length xs) → IsLongestPunctuator (x ∷ xs) (longest_punctuator (x ∷ xs))
unfolding longest_punctuator
punctuator_longest x xs m le =
    record {
      inside = le;
      punctuator = punctuator_there x xs (three x (get_or xs 0 0) (get_or xs 1 0)) (two x (get_or xs 0 0)) refl refl m le;
      longest = no_longer x xs;
    }

-- ---- a piece of the class is a punctuator

abbrev is_punct : Class → Bool
is_punct Punct = true
is_punct _ = false

not_either : (b : Bool) (k l : Class) → is_punct k ≡ false → is_punct l ≡ false → is_punct (cond b k l) ≡ false
not_either true k l h e = h
not_either false k l h e = e

not_number : (s : List ℕ) → is_punct (number_class s) ≡ false
unfolding number_class
not_number s = not_either (is_some (int_value_of s)) Int (cond (is_float s) Float Bad) refl (not_either (is_float s) Float Bad refl refl)

abbrev Punctuators : ℕ → List ℕ → Class × ℕ → Type 0
Punctuators x xs p = is_punct p.0 ≡ true → (p.1 ≡ longest_punctuator (x ∷ xs)) × (is_punctuator (x ∷ []) ≡ true)

not_closed : (x : ℕ) (xs : List ℕ) (kind : Class) (total : ℕ) (o : Option ℕ) → is_punct kind ≡ false → Punctuators x xs (closed_by kind total o)
not_closed x xs kind total None k h = cc
not_closed x xs kind total (Some n) k h = absurd (true≢false (sym h ∙ k))

picks : (x : ℕ) (xs : List ℕ) (b : Bool) (p q : Class × ℕ) → Punctuators x xs p → Punctuators x xs q → Punctuators x xs (cond b p q)
picks x xs true p q h k = h
picks x xs false p q h k = k

not_this : (x : ℕ) (xs : List ℕ) (p : Class × ℕ) → is_punct p.0 ≡ false → Punctuators x xs p
not_this x xs p k h = absurd (true≢false (sym h ∙ k))

-- What the start of a piece says of its and_first byte.
abbrev marked : Start → ℕ → Bool
marked Dot b = is_punctuator (b ∷ [])
marked Slash b = is_punctuator (b ∷ [])
marked Percent b = is_punctuator (b ∷ [])
marked Sign b = is_punctuator (b ∷ [])
marked _ b = true

marked_if : (c : Bool) (s t : Start) (b : ℕ) → (c ≡ true → marked s b ≡ true) → marked t b ≡ true → marked (cond c s t) b ≡ true
marked_if true s t b h k = h refl
marked_if false s t b h k = k

punctuator_at : (b k : ℕ) → is_punctuator (k ∷ []) ≡ true → (b == k) ≡ true → is_punctuator (b ∷ []) ≡ true
punctuator_at b k m h = ap (λ (n : ℕ). is_punctuator (n ∷ [])) (eqb-true b k h) ∙ m

start_marked : (b : ℕ) → marked (start_of b) b ≡ true
unfolding start_of
start_marked b =
    marked_if (is_white b) Blank _ b (λ e. refl)
    (marked_if (is_letter b) Letter _ b (λ e. refl)
    (marked_if (is_digit b) Digit _ b (λ e. refl)
    (marked_if (b == 46) Dot _ b (punctuator_at b 46 dot_is)
    (marked_if (b == 35) Hash _ b (λ e. refl)
    (marked_if (b == 47) Slash _ b (punctuator_at b 47 slash_is)
    (marked_if (b == 37) Percent _ b (punctuator_at b 37 percent_is)
    (marked_if (b == 34) Quote _ b (λ e. refl)
    (marked_if (b == 39) Apostrophe _ b (λ e. refl)
    (marked_if (is_punctuator (b ∷ [])) Sign Stray b (λ e. e) refl)))))))))

punct_by : (s : Start) (x : ℕ) (xs : List ℕ) → marked s x ≡ true → Punctuators x xs (piece_by s (x ∷ xs))
punct_by Blank x xs m = λ h. absurd (true≢false (sym h))
punct_by Letter x xs m = λ h. absurd (true≢false (sym h ∙ not_either (is_word (take (1 + run_of is_word_byte xs) (x ∷ xs))) Word Name refl refl))
punct_by Digit x xs m = λ h. absurd (true≢false (sym h ∙ not_number (take (1 + run_by number_joins (x ∷ []) xs) (x ∷ xs))))
punct_by Dot x xs m =
    picks x xs (is_digit (slice_index (x ∷ xs) 1)) _ (punctuator_piece (x ∷ xs)) (not_this x xs _ (not_number (take (1 + run_by number_joins (x ∷ []) xs) (x ∷ xs)))) (λ h. (refl, m))
punct_by Hash x xs m = λ h. absurd (true≢false (sym h))
punct_by Slash x xs m =
    picks x xs (slice_index (x ∷ xs) 1 == 47) _ _ (not_this x xs (run_piece Comment is_in_line (x ∷ xs)) refl)
    (picks x xs (slice_index (x ∷ xs) 1 == 42) (closed_piece Comment 42 47 (x ∷ xs)) (punctuator_piece (x ∷ xs)) (not_closed x xs Comment (suc (length xs)) (close_of 42 47 (drop 1 xs)) refl) (λ h. (refl, m)))
punct_by Percent x xs m =
    picks x xs (slice_index (x ∷ xs) 1 == 37) _ _ (not_this x xs (run_piece CCode is_in_line (x ∷ xs)) refl)
    (picks x xs (slice_index (x ∷ xs) 1 == 123) (closed_piece CCode 125 37 (x ∷ xs)) (punctuator_piece (x ∷ xs)) (not_closed x xs CCode (suc (length xs)) (close_of 125 37 (drop 1 xs)) refl) (λ h. (refl, m)))
punct_by Quote x xs m =
    let n : ℕ = 1 + run_by (string_joins 34) [] xs in
    picks x xs (slice_index (x ∷ xs) n == 34) (Text, 1 + n) (Bad, n) (not_this x xs (Text, 1 + n) refl) (not_this x xs (Bad, n) refl)
punct_by Apostrophe x xs m =
    let n : ℕ = 1 + run_by (string_joins 39) [] xs in
    picks x xs (slice_index (x ∷ xs) n == 39) (CharLit, 1 + n) (Bad, n) (not_this x xs (CharLit, 1 + n) refl) (not_this x xs (Bad, n) refl)
punct_by Sign x xs m = λ h. (refl, m)
punct_by Stray x xs m = λ h. absurd (true≢false (sym h))

punct_first : (x : ℕ) (xs : List ℕ) → Punctuators x xs (first_piece (x ∷ xs))
unfolding first_piece
punct_first x xs = punct_by (start_of x) x xs (start_marked x)

pub punctuator_first : (u : List ℕ) → 0 < length u → (first_piece u).0 ≡ Punct → IsLongestPunctuator u (first_piece u).1
punctuator_first [] some h = absurd (omega arith)
punctuator_first (x ∷ xs) some h =
    let k = punct_first x xs (ap is_punct h) in
    let le : longest_punctuator (x ∷ xs) ≤ suc (length xs) = omega (arith, k.0, (piece_front (x ∷ xs) some).1) in
    subst (IsLongestPunctuator (x ∷ xs)) (sym k.0) (punctuator_longest x xs k.1 le)
