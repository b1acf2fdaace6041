-- What the class of the first piece tells of the text.
use Rattle.std.proofs.Common.{◌≡◌, ◌==◌, ℕ, ◌+◌, ◌<◌, Bool, true, false, cond, List, [], ◌∷◌, length, take, drop, Option, Some, None, is_some, refl, subst, arith}
use Rattle.std.specs.Prelude.{slice_index}
use Rattle.snl_lex.specs.declared.alphabet.Start.{Start}
use Rattle.snl_lex.specs.declared.alphabet.Start.TheVariants.{Blank, Letter, Digit, Dot, Hash, Slash, Percent, Quote, Apostrophe, Sign, Stray}
use Rattle.snl_lex.specs.declared.piece.Class.{Class}
use Rattle.snl_lex.specs.declared.piece.Class.TheVariants.{Comment, Marker, CCode, Name, Word, Int, Float, Text, CharLit, Punct, Bad}
use Rattle.snl_lex.specs.Alphabet.{is_digit, is_in_line, is_word_byte, start_of}
use Rattle.snl_lex.specs.Kinds.{is_word}
use Rattle.snl_lex.specs.Numbers.{int_value_of, is_float, number_class}
use Rattle.snl_lex.specs.Pieces.{closed_by, closed_piece, first_piece, punctuator_piece, number_piece, piece_by, run_piece, string_joins}
use Rattle.snl_lex.specs.Runs.{close_of, run_by, run_of}
use Rattle.snl_token_laws.specs.Fronts.{IsPunctuatorFront}
use Rattle.snl_token_laws.proofs.PunctuatorBytes.{says, start_says}
use Rattle.snl_token_laws.proofs.PunctuatorFronts.{dot_front, percent_front, sign_front, slash_front}

-- What the class of the first piece tells, which has so many bytes.
abbrev pub Told : List ℕ → ℕ → Class → Type 0
Told u len Int = number_class (take len u) ≡ Int
Told u len Marker = len ≡ 1 + run_of is_in_line (drop 1 u)
Told u len Punct = IsPunctuatorFront u
Told u len _ = Unit {0}

told_if : (u : List ℕ) (b : Bool) (p q : Class × ℕ) → (b ≡ true → Told u p.1 p.0) → (b ≡ false → Told u q.1 q.0) → Told u (cond b p q).1 (cond b p q).0
told_if u true p q h k = h refl
told_if u false p q h k = k refl

told_word : (u : List ℕ) (len : ℕ) (b : Bool) → Told u len (cond b Word Name)
told_word u len true = tt
told_word u len false = tt

told_number_at : (u : List ℕ) (len : ℕ) (i f : Bool) → number_class (take len u) ≡ cond i Int (cond f Float Bad) → Told u len (cond i Int (cond f Float Bad))
told_number_at u len true f e = e
told_number_at u len false true e = tt
told_number_at u len false false e = tt

told_number : (u : List ℕ) → Told u (number_piece u).1 (number_piece u).0
unfolding number_class
told_number u =
    let count : ℕ = (number_piece u).1 in
    told_number_at u count (is_some (int_value_of (take count u))) (is_float (take count u)) refl

told_closed : (u : List ℕ) (kind : Class) (total : ℕ) (o : Option ℕ) → ((n : ℕ) → Told u n kind) → Told u (closed_by kind total o).1 (closed_by kind total o).0
told_closed u kind total None h = tt
told_closed u kind total (Some n) h = h (2 + n)

told_by : (s : Start) (x : ℕ) (xs : List ℕ) → start_of x ≡ s → says s x ≡ true → Told (x ∷ xs) (piece_by s (x ∷ xs)).1 (piece_by s (x ∷ xs)).0
told_by Blank x xs e h = tt
told_by Letter x xs e h = told_word (x ∷ xs) (1 + run_of is_word_byte xs) (is_word (take (1 + run_of is_word_byte xs) (x ∷ xs)))
told_by Digit x xs e h = told_number (x ∷ xs)
told_by Dot x xs e h =
    let u : List ℕ = x ∷ xs in
    told_if u (is_digit (slice_index u 1)) (number_piece u) (punctuator_piece u) (λ _. told_number u) (λ f. dot_front x xs h f)
told_by Hash x xs e h = refl
told_by Slash x xs e h =
    let u : List ℕ = x ∷ xs in
    told_if u (slice_index u 1 == 47) (run_piece Comment is_in_line u) _ (λ _. tt)
    (λ f. told_if u (slice_index u 1 == 42) (closed_piece Comment 42 47 u) (punctuator_piece u) (λ _. told_closed u Comment (length u) (close_of 42 47 (drop 2 u)) (λ _. tt)) (λ g. slash_front x xs h f g))
told_by Percent x xs e h =
    let u : List ℕ = x ∷ xs in
    told_if u (slice_index u 1 == 37) (run_piece CCode is_in_line u) _ (λ _. tt)
    (λ f. told_if u (slice_index u 1 == 123) (closed_piece CCode 125 37 u) (punctuator_piece u) (λ _. told_closed u CCode (length u) (close_of 125 37 (drop 2 u)) (λ _. tt)) (λ g. percent_front x xs h f g))
told_by Quote x xs e h =
    let u : List ℕ = x ∷ xs in
    let n : ℕ = 1 + run_by (string_joins 34) [] xs in
    told_if u (slice_index u n == 34) (Text, 1 + n) (Bad, n) (λ _. tt) (λ _. tt)
told_by Apostrophe x xs e h =
    let u : List ℕ = x ∷ xs in
    let n : ℕ = 1 + run_by (string_joins 39) [] xs in
    told_if u (slice_index u n == 39) (CharLit, 1 + n) (Bad, n) (λ _. tt) (λ _. tt)
told_by Sign x xs e h = sign_front x xs e h
told_by Stray x xs e h = tt

pub first_told : (text : List ℕ) → 0 < length text → Told text (first_piece text).1 (first_piece text).0
unfolding first_piece
first_told [] some = absurd (omega arith)
first_told (x ∷ xs) some = told_by (start_of x) x xs refl (start_says x)

-- What a class that is known tells.
pub told_at : (text : List ℕ) (k : Class) → 0 < length text → (first_piece text).0 ≡ k → Told text (first_piece text).1 k
told_at text k some e = subst (Told text (first_piece text).1) e (first_told text some)
