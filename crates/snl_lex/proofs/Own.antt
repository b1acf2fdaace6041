-- The pieces joined are the text, and each has bytes of its class alone.
use Rattle.std.proofs.Common.{◌≡◌, ◌==◌, ℕ, zero, suc, ◌+◌, ◌<◌, Bool, true, false, cond, ◌&&◌, ◌||◌, List, [], ◌∷◌, ◌++◌, length, take, drop, get_or, Option, Some, None, is_some, refl, sym, ap, ◌∙◌, subst, arith, length-drop}
use Rattle.std.specs.Prelude.{slice_index}
use Rattle.std.specs.List.{flat_map, list_all}
use Rattle.std.proofs.lemmas.Bool.{or_left, or_right, and_from}
use Rattle.std.proofs.lemmas.Bool.Decides.{nat_tests}
use Rattle.std.proofs.lemmas.List.{take-append-drop, drop-drop, drop_all}
use Rattle.snl_lex.specs.declared.alphabet.Start.{Start}
use Rattle.snl_lex.specs.declared.alphabet.Start.TheVariants.{Blank, Letter, Digit, Dot, Hash, Slash, Percent, Quote, Apostrophe, Sign, Stray}
use Rattle.snl_lex.specs.declared.piece.Class.{Class}
use Rattle.snl_lex.specs.declared.piece.Class.TheVariants.{White, Comment, Marker, CCode, Name, Word, Int, Float, Text, CharLit, Punct, Bad}
use Rattle.snl_lex.specs.declared.piece.Piece.{Piece}
use Rattle.snl_lex.specs.Alphabet.{is_white, is_letter, is_digit, is_word_byte, is_in_line, is_punctuator, is_stray, start_of}
use Rattle.snl_lex.specs.Runs.{run_of, run_by, close_of}
use Rattle.snl_lex.specs.Kinds.{is_word}
use Rattle.snl_lex.specs.Numbers.{awaits_sign, is_float, is_number_byte, is_sign, int_value_of, number_class, number_joins}
use Rattle.snl_lex.specs.Pieces.{HasOwnBytes, bytes_at, class_byte, closed_by, closed_piece, dot_piece, first_piece, longest_punctuator, punctuator_piece, name_piece, number_piece, percent_piece, piece_at, piece_by, piece_length, run_piece, slash_piece, string_joins, string_piece}
use Rattle.snl_lex.proofs.Members.{Leads}
use Rattle.std.proofs.Math.Numerals.{one-add}

-- The pieces from a place on, joined, are the text from there on.
pub leads_joined : (text : List ℕ) (from : ℕ) (ps : List Piece) → Leads text from ps (length text) → flat_map (bytes_at text) ps ≡ drop from text
unfolding piece_at
leads_joined text from [] h = sym (drop_all from text (omega (arith, h)))
leads_joined text from (p ∷ ps) h =
    let n : ℕ = piece_length (drop from text) in
    let head : bytes_at text p ≡ take n (drop from text) = ap (bytes_at text) h.1 in
    let tail : flat_map (bytes_at text) ps ≡ drop n (drop from text) = leads_joined text (from + n) ps h.2 ∙ sym (drop-drop n from text) in
    ap (λ (l : List ℕ). l ++ flat_map (bytes_at text) ps) head ∙ (ap (λ (l : List ℕ). take n (drop from text) ++ l) tail ∙ take-append-drop n (drop from text))

-- What the start of a piece says of its first byte.
abbrev right : Start → ℕ → Bool
right Blank b = is_white b
right Letter b = is_word_byte b
right Digit b = is_word_byte b
right Dot b = b == 46
right Hash b = is_in_line b
right _ b = true

right_if : (c : Bool) (s t : Start) (b : ℕ) → (c ≡ true → right s b ≡ true) → right t b ≡ true → right (cond c s t) b ≡ true
right_if true s t b h k = h refl
right_if false s t b h k = k

in_line : (b : ℕ) → (b == 35) ≡ true → is_in_line b ≡ true
unfolding is_in_line
in_line b h = grind (arith, nat_tests)

start_right : (b : ℕ) → right (start_of b) b ≡ true
unfolding start_of is_word_byte
start_right b =
    right_if (is_white b) Blank _ b (λ e. e)
    (right_if (is_letter b) Letter _ b (λ e. or_left (is_letter b) (is_digit b) e)
    (right_if (is_digit b) Digit _ b (λ e. or_right (is_letter b) (is_digit b) e)
    (right_if (b == 46) Dot _ b (λ e. e)
    (right_if (b == 35) Hash _ b (λ e. in_line b e)
    (right_if (b == 47) Slash _ b (λ e. refl)
    (right_if (b == 37) Percent _ b (λ e. refl)
    (right_if (b == 34) Quote _ b (λ e. refl)
    (right_if (b == 39) Apostrophe _ b (λ e. refl)
    (right_if (is_punctuator (b ∷ [])) Sign Stray b (λ e. refl) refl)))))))))

run_passes_at : (p : ℕ → Bool) (x : ℕ) (xs : List ℕ) (c : Bool) → p x ≡ c → list_all p (take (run_of p xs) xs) ≡ true → list_all p (take (cond c (suc (run_of p xs)) 0) (x ∷ xs)) ≡ true
run_passes_at p x xs true h again = and_from (p x) (list_all p (take (run_of p xs) xs)) h again
run_passes_at p x xs false h again = refl

run_passes : (p : ℕ → Bool) (xs : List ℕ) → list_all p (take (run_of p xs) xs) ≡ true
run_passes p [] = refl
run_passes p (x ∷ xs) = run_passes_at p x xs (p x) refl (run_passes p xs)

all_more : (p : ℕ → Bool) (x n : ℕ) (xs : List ℕ) → p x ≡ true → list_all p (take n xs) ≡ true → list_all p (take (1 + n) (x ∷ xs)) ≡ true
all_more p x n xs h k = ap (λ (m : ℕ). list_all p (take m (x ∷ xs))) (one-add n) ∙ and_from (p x) (list_all p (take n xs)) h k

number_is_at : (w d s a : Bool) → (w || d || (s && a)) ≡ true → (w || d || s) ≡ true
number_is_at true d s a h = refl
number_is_at false true s a h = refl
number_is_at false false true a h = refl
number_is_at false false false a h = h

number_is : (before : List ℕ) (b : ℕ) → number_joins before b ≡ true → is_number_byte b ≡ true
unfolding number_joins is_number_byte
number_is before b h = number_is_at (is_word_byte b) (b == 46) (is_sign b) (awaits_sign before) h

numbers_pass_at : (before : List ℕ) (x : ℕ) (xs : List ℕ) (c : Bool) → number_joins before x ≡ c → list_all is_number_byte (take (run_by number_joins (x ∷ before) xs) xs) ≡ true
    → list_all is_number_byte (take (cond c (suc (run_by number_joins (x ∷ before) xs)) 0) (x ∷ xs)) ≡ true
numbers_pass_at before x xs true h again = and_from (is_number_byte x) (list_all is_number_byte (take (run_by number_joins (x ∷ before) xs) xs)) (number_is before x h) again
numbers_pass_at before x xs false h again = refl

numbers_pass : (before xs : List ℕ) → list_all is_number_byte (take (run_by number_joins before xs) xs) ≡ true
numbers_pass before [] = refl
numbers_pass before (x ∷ xs) = numbers_pass_at before x xs (number_joins before x) refl (numbers_pass (x ∷ before) xs)

-- Classes that may have any bytes.
abbrev is_free : Class → Bool
is_free White = false
is_free Name = false
is_free Word = false
is_free Int = false
is_free Float = false
is_free Marker = false
is_free _ = true

any_byte : (xs : List ℕ) → list_all (λ b. true) xs ≡ true
any_byte [] = refl
any_byte (x ∷ xs) = any_byte xs

free_all : (k : Class) (xs : List ℕ) → is_free k ≡ true → list_all (class_byte k) xs ≡ true
free_all White xs h = cc
free_all Name xs h = cc
free_all Word xs h = cc
free_all Int xs h = cc
free_all Float xs h = cc
free_all Marker xs h = cc
free_all Comment xs h = any_byte xs
free_all CCode xs h = any_byte xs
free_all Text xs h = any_byte xs
free_all CharLit xs h = any_byte xs
free_all Punct xs h = any_byte xs
free_all Bad xs h = any_byte xs

free_if : (c : Bool) (p q : Class × ℕ) → is_free p.0 ≡ true → is_free q.0 ≡ true → is_free (cond c p q).0 ≡ true
free_if true p q h k = h
free_if false p q h k = k

free_closed : (kind : Class) (total : ℕ) (o : Option ℕ) → is_free kind ≡ true → is_free (closed_by kind total o).0 ≡ true
free_closed kind total None h = refl
free_closed kind total (Some n) h = h

-- The first piece has bytes of its class alone.
abbrev IsOwn : List ℕ → Class × ℕ → Type 0
IsOwn u piece = list_all (class_byte piece.0) (take piece.1 u) ≡ true

number_own_at : (i f : Bool) (bytes : List ℕ) → list_all is_number_byte bytes ≡ true → list_all (class_byte (cond i Int (cond f Float Bad))) bytes ≡ true
number_own_at true f bytes h = h
number_own_at false true bytes h = h
number_own_at false false bytes h = any_byte bytes

number_own : (x : ℕ) (xs : List ℕ) → is_number_byte x ≡ true → IsOwn (x ∷ xs) (number_piece (x ∷ xs))
unfolding number_class
number_own x xs h =
    let n : ℕ = run_by number_joins (x ∷ []) xs in
    let bytes : List ℕ = take (1 + n) (x ∷ xs) in
    let all : list_all is_number_byte bytes ≡ true = all_more is_number_byte x n xs h (numbers_pass (x ∷ []) xs) in
    number_own_at (is_some (int_value_of bytes)) (is_float bytes) bytes all

word_own : (x : ℕ) (xs : List ℕ) → is_word_byte x ≡ true → IsOwn (x ∷ xs) (name_piece (x ∷ xs))
word_own x xs h =
    let n : ℕ = run_of is_word_byte xs in
    let bytes : List ℕ = take (1 + n) (x ∷ xs) in
    let all : list_all is_word_byte bytes ≡ true = all_more is_word_byte x n xs h (run_passes is_word_byte xs) in
    elim (is_word bytes) as (λ b. list_all (class_byte (cond b Word Name)) bytes ≡ true) [ true ↦ all | false ↦ all ]

dot_own : (x : ℕ) (xs : List ℕ) → (x == 46) ≡ true → IsOwn (x ∷ xs) (dot_piece (x ∷ xs))
unfolding is_number_byte
dot_own x xs h =
    let number = number_own x xs (or_left (is_word_byte x || x == 46) (is_sign x) (or_right (is_word_byte x) (x == 46) h)) in
    let punctuator = free_all Punct (take (longest_punctuator (x ∷ xs)) (x ∷ xs)) refl in
    elim (is_digit (slice_index (x ∷ xs) 1)) as (λ b. IsOwn (x ∷ xs) (cond b (number_piece (x ∷ xs)) (punctuator_piece (x ∷ xs)))) [ true ↦ number | false ↦ punctuator ]

by_own : (s : Start) (x : ℕ) (xs : List ℕ) → right s x ≡ true → IsOwn (x ∷ xs) (piece_by s (x ∷ xs))
unfolding is_number_byte
by_own Blank x xs h = all_more is_white x (run_of is_white xs) xs h (run_passes is_white xs)
by_own Letter x xs h = word_own x xs h
by_own Digit x xs h = number_own x xs (or_left (is_word_byte x || x == 46) (is_sign x) (or_left (is_word_byte x) (x == 46) h))
by_own Dot x xs h = dot_own x xs h
by_own Hash x xs h = all_more is_in_line x (run_of is_in_line xs) xs h (run_passes is_in_line xs)
by_own Slash x xs h =
    let u : List ℕ = x ∷ xs in
    let closed = free_closed Comment (length u) (close_of 42 47 (drop 2 u)) refl in
    free_all (slash_piece u).0 (take (slash_piece u).1 u)
    (free_if (slice_index u 1 == 47) (run_piece Comment is_in_line u) _ refl (free_if (slice_index u 1 == 42) (closed_piece Comment 42 47 u) (punctuator_piece u) closed refl))
by_own Percent x xs h =
    let u : List ℕ = x ∷ xs in
    let closed = free_closed CCode (length u) (close_of 125 37 (drop 2 u)) refl in
    free_all (percent_piece u).0 (take (percent_piece u).1 u)
    (free_if (slice_index u 1 == 37) (run_piece CCode is_in_line u) _ refl (free_if (slice_index u 1 == 123) (closed_piece CCode 125 37 u) (punctuator_piece u) closed refl))
by_own Quote x xs h =
    let u : List ℕ = x ∷ xs in
    let count : ℕ = 1 + run_by (string_joins 34) [] xs in
    free_all (string_piece Text 34 u).0 (take (string_piece Text 34 u).1 u) (free_if (slice_index u count == 34) (Text, 1 + count) (Bad, count) refl refl)
by_own Apostrophe x xs h =
    let u : List ℕ = x ∷ xs in
    let count : ℕ = 1 + run_by (string_joins 39) [] xs in
    free_all (string_piece CharLit 39 u).0 (take (string_piece CharLit 39 u).1 u) (free_if (slice_index u count == 39) (CharLit, 1 + count) (Bad, count) refl refl)
by_own Sign x xs h = free_all Punct (take (longest_punctuator (x ∷ xs)) (x ∷ xs)) refl
by_own Stray x xs h = free_all Bad (take (1 + run_of is_stray xs) (x ∷ xs)) refl

first_own : (u : List ℕ) → 0 < length u → IsOwn u (first_piece u)
unfolding first_piece
first_own [] h = absurd (omega arith)
first_own (x ∷ xs) h = by_own (start_of x) x xs (start_right x)

piece_own : (text : List ℕ) (at : ℕ) → at < length text → HasOwnBytes text (piece_at text at)
unfolding piece_at
piece_own text at lt = first_own (drop at text) (omega (arith, length-drop at text))

pub leads_own : (text : List ℕ) (from : ℕ) (ps : List Piece) (to : ℕ) → Leads text from ps to → (k : ℕ) (d : Piece) → k < length ps → HasOwnBytes text (get_or ps k d)
leads_own text from [] to h k d lt = absurd (omega arith)
leads_own text from (p ∷ ps) to h zero d lt = subst (HasOwnBytes text) (sym h.1) (piece_own text from h.0)
leads_own text from (p ∷ ps) to h (suc k) d lt = leads_own text (from + piece_length (drop from text)) ps to h.2 k d (omega arith)
