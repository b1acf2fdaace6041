-- Runs are the longest, a closing pair is the first one, and a punctuator is the longest one.
use Rattle.std.proofs.Common.{◌≡◌, ◌==◌, ℕ, zero, suc, ◌+◌, ◌-◌, ◌<◌, ◌≤◌, inl, inr, Bool, true, false, cond, ◌&&◌, List, [], ◌∷◌, length, take, drop, Option, Some, None, refl, sym, ap, ap₂, ◌∙◌, subst, arith}
use Rattle.std.specs.Prelude.{slice_index, codes, if◌then◌else◌}
use Rattle.std.specs.Option.{option_map}
use Rattle.std.specs.List.{list_all}
use Rattle.std.proofs.lemmas.Bool.{or_left, cases_lt, true≢false, or_parts, not-true, cond-true}
use Rattle.std.proofs.lemmas.Bool.Decides.{nat_tests}
use Rattle.std.proofs.lemmas.List.{drop-drop}
use Rattle.snl_lex.specs.declared.alphabet.Start.{Start}
use Rattle.snl_lex.specs.declared.alphabet.Start.TheVariants.{Blank, Letter, Digit, Dot, Hash, Slash, Percent, Quote, Apostrophe, Sign, Stray}
use Rattle.snl_lex.specs.declared.piece.Class.{Class}
use Rattle.snl_lex.specs.declared.piece.Class.TheVariants.{White, Comment, Marker, CCode, Name, Word, Bad}
use Rattle.snl_lex.specs.Alphabet.{is_digit, is_in_line, is_letter, is_punctuator, is_stray, is_white, is_word_byte, start_of}
use Rattle.snl_lex.specs.Longest.{ClosesFirst, IsLongestRun, IsRunOf}
use Rattle.snl_lex.specs.Pieces.{closed_by, closed_piece, first_piece, piece_by, run_piece}
use Rattle.snl_lex.specs.Runs.{begins, close_of, run_of}
use Rattle.snl_lex.specs.Kinds.{is_word}
use Rattle.snl_facts.specs.Booleans.{and_second}
use Rattle.snl_lex.specs.PieceLaws.{dot_is, slash_is, percent_is, pick_no}

-- ---- runs

more : (p : ℕ → Bool) (x : ℕ) (xs : List ℕ) (r : ℕ) → ((n : ℕ) → n ≤ length xs → list_all p (take n xs) ≡ true → n ≤ r) → (n : ℕ) → n ≤ length (x ∷ xs) → list_all p (take n (x ∷ xs)) ≡ true → n ≤ suc r
more p x xs r again zero le h = omega arith
more p x xs r again (suc n) le h = omega (arith, again n (omega (arith, le)) (and_second (p x) (list_all p (take n xs)) h))

stops : (p : ℕ → Bool) (x : ℕ) (xs : List ℕ) → p x ≡ false → (n : ℕ) → n ≤ length (x ∷ xs) → list_all p (take n (x ∷ xs)) ≡ true → n ≤ 0
stops p x xs out zero le h = omega arith
stops p x xs out (suc n) le h = absurd (true≢false (sym h ∙ ap (λ (b : Bool). b && list_all p (take n xs)) out))

run_step : (p : ℕ → Bool) (x : ℕ) (xs : List ℕ) (c : Bool) → p x ≡ c → IsLongestRun p xs (run_of p xs) → IsLongestRun p (x ∷ xs) (cond c (suc (run_of p xs)) 0)
run_step p x xs true h k =
    record {
      inside = omega (arith, k.inside);
      run = ap (λ (b : Bool). b && list_all p (take (run_of p xs) xs)) h ∙ k.run;
      longest = more p x xs (run_of p xs) k.longest;
    }
run_step p x xs false h k = record { inside = omega arith; run = refl; longest = stops p x xs h }

run_longest : (p : ℕ → Bool) (xs : List ℕ) → IsLongestRun p xs (run_of p xs)
run_longest p [] = record { inside = omega arith; run = refl; longest = λ n le h. le }
run_longest p (x ∷ xs) = run_step p x xs (p x) refl (run_longest p xs)

-- A run whose first byte is in the set.
pub run_whole : (p : ℕ → Bool) (x : ℕ) (xs : List ℕ) → p x ≡ true → IsLongestRun p (x ∷ xs) (1 + run_of p xs)
run_whole p x xs h =
    let one : suc (run_of p xs) ≡ 1 + run_of p xs = omega arith in
    subst (IsLongestRun p (x ∷ xs)) one (run_step p x xs true h (run_longest p xs))

-- ---- closing pairs

none_there : (a b k : ℕ) → take 2 (drop k []) ≡ a ∷ b ∷ [] → ⊥
none_there a b zero h = cc
none_there a b (suc k) h = cc

starts : (a b x : ℕ) (xs : List ℕ) → take 2 (x ∷ xs) ≡ a ∷ b ∷ [] → (x == a && begins b xs) ≡ true
starts a b x [] h = cc
starts a b x (y ∷ ys) h =
    let first : x ≡ a = cc in
    let second : y ≡ b = cc in
    grind (arith, nat_tests)

none_begins : (c : Bool) → (c && false) ≡ true → ⊥
none_begins true h = true≢false (sym h)
none_begins false h = true≢false (sym h)

stands : (a b x : ℕ) (xs : List ℕ) → (x == a && begins b xs) ≡ true → take 2 (x ∷ xs) ≡ a ∷ b ∷ []
stands a b x [] h = absurd (none_begins (x == a) h)
stands a b x (y ∷ ys) h =
    let first : x ≡ a = grind (arith, nat_tests) in
    let second : y ≡ b = grind (arith, nat_tests) in
    ap₂ (λ (m n : ℕ). m ∷ n ∷ []) first second

counted : (o : Option ℕ) (n : ℕ) → option_map suc o ≡ Some n → (m : ℕ) × ((o ≡ Some m) × (n ≡ suc m))
counted None n h = cc
counted (Some m) n h = (m, (refl, cc))

not_counted : (o : Option ℕ) → option_map suc o ≡ None → o ≡ None
not_counted None h = refl
not_counted (Some m) h = cc

pub record Closing (a : ℕ) (b : ℕ) (v : List ℕ) (n : ℕ) : Type 0 where
  pub some : 2 ≤ n
  pub there : take 2 (drop (n - 2) v) ≡ a ∷ b ∷ []
  pub least : (k : ℕ) → take 2 (drop k v) ≡ a ∷ b ∷ [] → n ≤ k + 2

later : (a b x : ℕ) (xs : List ℕ) (n m : ℕ) → (x == a && begins b xs) ≡ false → n ≡ suc m → ((k : ℕ) → take 2 (drop k xs) ≡ a ∷ b ∷ [] → m ≤ k + 2) → (k : ℕ) → take 2 (drop k (x ∷ xs)) ≡ a ∷ b ∷ [] → n ≤ k + 2
later a b x xs n m t s least zero e = absurd (true≢false (sym (starts a b x xs e) ∙ t))
later a b x xs n m t s least (suc k) e = omega (arith, s, least k e)

close_at : (a b x : ℕ) (xs : List ℕ) (n : ℕ) (c : Bool) → (x == a && begins b xs) ≡ c → cond c (Some 2) (option_map suc (close_of a b xs)) ≡ Some n
    → ((m : ℕ) → close_of a b xs ≡ Some m → Closing a b xs m) → Closing a b (x ∷ xs) n
close_at a b x xs n true t h again =
    let two : 2 ≡ n = cc in
    subst (Closing a b (x ∷ xs)) two (record { some = omega arith; there = stands a b x xs t; least = λ k e. omega arith })
close_at a b x xs n false t h again =
    let m = counted (close_of a b xs) n h in
    let k = again m.0 m.1.0 in
    let place : n - 2 ≡ suc (m.0 - 2) = omega (arith, m.1.1, k.some) in
    record {
      some = omega (arith, m.1.1, k.some);
      there = ap (λ (j : ℕ). take 2 (drop j (x ∷ xs))) place ∙ k.there;
      least = later a b x xs n m.0 t m.1.1 k.least;
    }

close_some : (a b : ℕ) (v : List ℕ) (n : ℕ) → close_of a b v ≡ Some n → Closing a b v n
close_some a b [] n h = cc
close_some a b (x ∷ xs) n h = close_at a b x xs n (x == a && begins b xs) refl h (close_some a b xs)

none_at : (a b x : ℕ) (xs : List ℕ) (c : Bool) → (x == a && begins b xs) ≡ c → cond c (Some 2) (option_map suc (close_of a b xs)) ≡ None
    → (close_of a b xs ≡ None → (k : ℕ) → take 2 (drop k xs) ≡ a ∷ b ∷ [] → ⊥) → (k : ℕ) → take 2 (drop k (x ∷ xs)) ≡ a ∷ b ∷ [] → ⊥
none_at a b x xs true t h again k e = cc
none_at a b x xs false t h again zero e = true≢false (sym (starts a b x xs e) ∙ t)
none_at a b x xs false t h again (suc k) e = again (not_counted (close_of a b xs) h) k e

close_none : (a b : ℕ) (v : List ℕ) → close_of a b v ≡ None → (k : ℕ) → take 2 (drop k v) ≡ a ∷ b ∷ [] → ⊥
close_none a b [] h k e = none_there a b k e
close_none a b (x ∷ xs) h k e = none_at a b x xs (x == a && begins b xs) refl h (close_none a b xs) k e

closes_by : (kind : Class) (a b : ℕ) (u : List ℕ) (o : Option ℕ) → close_of a b (drop 2 u) ≡ o → ClosesFirst kind a b u (closed_by kind (length u) o)
closes_by kind a b u None e =
    inr (
      refl,
      refl,
      λ place le h.
          let at : 2 + (place - 2) ≡ place = omega (arith, le) in
          close_none a b (drop 2 u) e (place - 2) (ap (take 2) (drop-drop (place - 2) 2 u ∙ ap (λ (n : ℕ). drop n u) at) ∙ h),
    )
closes_by kind a b u (Some n) e =
    let c = close_some a b (drop 2 u) n e in
    let back : 2 + (n - 2) ≡ (2 + n) - 2 = omega (arith, c.some) in
    inl (
      refl,
      record {
        after = omega (arith, c.some);
        closes = ap (λ (m : ℕ). take 2 (drop m u)) (sym back) ∙ ap (take 2) (sym (drop-drop (n - 2) 2 u)) ∙ c.there;
        first = λ place le h.
            let at : 2 + (place - 2) ≡ place = omega (arith, le) in
            omega (arith, le, c.least (place - 2) (ap (take 2) (drop-drop (place - 2) 2 u ∙ ap (λ (m : ℕ). drop m u) at) ∙ h));
      },
    )

pub closes_first : (kind : Class) (a b : ℕ) (u : List ℕ) → ClosesFirst kind a b u (closed_piece kind a b u)
closes_first kind a b u = closes_by kind a b u (close_of a b (drop 2 u)) refl

-- ---- what the first byte says

letter_not_white : (x : ℕ) → is_letter x ≡ true → is_white x ≡ false
unfolding is_letter is_white
letter_not_white x h = grind (arith, nat_tests)

-- A byte that is no punctuator isn't this one, which is one.
other_punctuator : (x k : ℕ) → is_punctuator (k ∷ []) ≡ true → is_punctuator (x ∷ []) ≡ false → (x == k) ≡ false
other_punctuator x k m h = elim (cases_lt x k) [
  | inl less ↦ grind (arith, nat_tests)
  | inr above ↦ elim (cases_lt k x) [
    | inl more ↦ grind (arith, nat_tests)
    | inr same ↦
        let e : x ≡ k = omega (arith, above, same) in
        absurd (true≢false (sym m ∙ (ap (λ (n : ℕ). is_punctuator (n ∷ [])) (sym e) ∙ h)))
  ]
]

white_start : (x : ℕ) → is_white x ≡ true → start_of x ≡ Blank
unfolding start_of
white_start x h = cond-true (is_white x) Blank _ h

letter_start : (x : ℕ) → is_letter x ≡ true → start_of x ≡ Letter
unfolding start_of
letter_start x h = pick_no (is_white x) Blank _ Letter (letter_not_white x h) (cond-true (is_letter x) Letter _ h)

stray_start : (x : ℕ) → is_stray x ≡ true → start_of x ≡ Stray
unfolding start_of is_stray
stray_start x h =
    let m = or_parts _ (is_punctuator (x ∷ [])) (not-true _ h) in
    let hash = or_parts _ (x == 35) m.0 in
    let apostrophe = or_parts _ (x == 39) hash.0 in
    let quote = or_parts _ (x == 34) apostrophe.0 in
    let digit = or_parts _ (is_digit x) quote.0 in
    let letter = or_parts (is_white x) (is_letter x) digit.0 in
    pick_no (is_white x) Blank _ Stray letter.0
    (pick_no (is_letter x) Letter _ Stray letter.1
    (pick_no (is_digit x) Digit _ Stray digit.1
    (pick_no (x == 46) Dot _ Stray (other_punctuator x 46 dot_is m.1)
    (pick_no (x == 35) Hash _ Stray hash.1
    (pick_no (x == 47) Slash _ Stray (other_punctuator x 47 slash_is m.1)
    (pick_no (x == 37) Percent _ Stray (other_punctuator x 37 percent_is m.1)
    (pick_no (x == 34) Quote _ Stray quote.1
    (pick_no (x == 39) Apostrophe _ Stray apostrophe.1
    (pick_no (is_punctuator (x ∷ [])) Sign Stray Stray m.1 refl)))))))))

-- ---- the first piece of a text

pub by_start : (s : Start) (x : ℕ) (xs : List ℕ) → start_of x ≡ s → first_piece (x ∷ xs) ≡ piece_by s (x ∷ xs)
unfolding first_piece
by_start s x xs h = ap (λ (t : Start). piece_by t (x ∷ xs)) h

run_first : (kind : Class) (p : ℕ → Bool) (x : ℕ) (xs : List ℕ) → p x ≡ true → first_piece (x ∷ xs) ≡ run_piece kind p (x ∷ xs) → IsRunOf kind p (x ∷ xs) (first_piece (x ∷ xs))
run_first kind p x xs h e =
    let R : Class × ℕ → Type 0 = λ (q : Class × ℕ). IsRunOf kind p (x ∷ xs) q in
    subst R (sym e) (refl, run_whole p x xs h)

pub white_first : (u : List ℕ) → 0 < length u → is_white (slice_index u 0) ≡ true → IsRunOf White is_white u (first_piece u)
white_first [] some h = absurd (omega arith)
white_first (x ∷ xs) some h = run_first White is_white x xs h (by_start Blank x xs (white_start x h))

pub stray_first : (u : List ℕ) → 0 < length u → is_stray (slice_index u 0) ≡ true → IsRunOf Bad is_stray u (first_piece u)
stray_first [] some h = absurd (omega arith)
stray_first (x ∷ xs) some h = run_first Bad is_stray x xs h (by_start Stray x xs (stray_start x h))

word_of_letter : (x : ℕ) → is_letter x ≡ true → is_word_byte x ≡ true
unfolding is_word_byte
word_of_letter x h = or_left (is_letter x) (is_digit x) h

pub name_first : (u : List ℕ) → 0 < length u → is_letter (slice_index u 0) ≡ true → ((first_piece u).0 ≡ (if is_word (take (first_piece u).1 u) then Word else Name)) × IsLongestRun is_word_byte u (first_piece u).1
name_first [] some h = absurd (omega arith)
name_first (x ∷ xs) some h =
    let R : Class × ℕ → Type 0 = λ (q : Class × ℕ). (q.0 ≡ (if is_word (take q.1 (x ∷ xs)) then Word else Name)) × IsLongestRun is_word_byte (x ∷ xs) q.1 in
    subst R (sym (by_start Letter x xs (letter_start x h))) (refl, run_whole is_word_byte x xs (word_of_letter x h))

in_line_35 : is_in_line 35 ≡ true
unfolding is_in_line
in_line_35 = refl

in_line_47 : is_in_line 47 ≡ true
unfolding is_in_line
in_line_47 = refl

in_line_37 : is_in_line 37 ≡ true
unfolding is_in_line
in_line_37 = refl

hash_start : start_of 35 ≡ Hash
unfolding start_of is_white is_letter is_digit
hash_start = refl

slash_start : start_of 47 ≡ Slash
unfolding start_of is_white is_letter is_digit
slash_start = refl

percent_start : start_of 37 ≡ Percent
unfolding start_of is_white is_letter is_digit
percent_start = refl

pub marker_first : (u : List ℕ) → slice_index u 0 ≡ 35 → IsRunOf Marker is_in_line u (first_piece u)
marker_first [] h = cc
marker_first (x ∷ xs) h =
    subst (λ (n : ℕ). IsRunOf Marker is_in_line (n ∷ xs) (first_piece (n ∷ xs))) (sym h) (run_first Marker is_in_line 35 xs in_line_35 (by_start Hash 35 xs hash_start))

-- What holds of each text that begins with two bytes.
begun : (P : List ℕ → Type 0) (a b : ℕ) → ((r : List ℕ) → P (a ∷ b ∷ r)) → (u : List ℕ) → take 2 u ≡ a ∷ b ∷ [] → P u
begun P a b all [] h = cc
begun P a b all (x ∷ []) h = cc
begun P a b all (x ∷ y ∷ r) h =
    let one : a ≡ x = cc in
    let two : b ≡ y = cc in
    subst (λ (n : ℕ). P (n ∷ y ∷ r)) one (subst (λ (n : ℕ). P (a ∷ n ∷ r)) two (all r))

pub line_comment_first : (u : List ℕ) → take 2 u ≡ codes "//" → IsRunOf Comment is_in_line u (first_piece u)
line_comment_first u h =
    begun (λ (v : List ℕ). IsRunOf Comment is_in_line v (first_piece v)) 47 47 (λ r. run_first Comment is_in_line 47 (47 ∷ r) in_line_47 (by_start Slash 47 (47 ∷ r) slash_start)) u h

pub line_code_first : (u : List ℕ) → take 2 u ≡ codes "%%" → IsRunOf CCode is_in_line u (first_piece u)
line_code_first u h =
    begun (λ (v : List ℕ). IsRunOf CCode is_in_line v (first_piece v)) 37 37 (λ r. run_first CCode is_in_line 37 (37 ∷ r) in_line_37 (by_start Percent 37 (37 ∷ r) percent_start)) u h

pub comment_first : (u : List ℕ) → take 2 u ≡ codes "/*" → ClosesFirst Comment 42 47 u (first_piece u)
comment_first u h =
    begun (λ (v : List ℕ). ClosesFirst Comment 42 47 v (first_piece v)) 47 42 (λ r. subst (λ (p : Class × ℕ). ClosesFirst Comment 42 47 (47 ∷ 42 ∷ r) p) (sym (by_start Slash 47 (42 ∷ r) slash_start)) (closes_first Comment 42 47 (47 ∷ 42 ∷ r))) u h

pub code_first : (u : List ℕ) → take 2 u ≡ codes "%{" → ClosesFirst CCode 125 37 u (first_piece u)
code_first u h =
    begun (λ (v : List ℕ). ClosesFirst CCode 125 37 v (first_piece v)) 37 123 (λ r. subst (λ (p : Class × ℕ). ClosesFirst CCode 125 37 (37 ∷ 123 ∷ r) p) (sym (by_start Percent 37 (123 ∷ r) percent_start)) (closes_first CCode 125 37 (37 ∷ 123 ∷ r))) u h
