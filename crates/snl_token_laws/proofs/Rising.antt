-- Lines have one number each, and it rises by one where no marker sets it.
use Rattle.std.proofs.Common.{◌≡◌, ℕ, ◌+◌, ◌<◌, ◌≤◌, Bool, true, false, ◌&&◌, ◌⊎◌, nat_lt, is_some, List, [], ◌∷◌, length, filter, get_or, Option, Some, None, refl, sym, ap, ap₂, ◌∙◌, arith, inl, inr}
use Rattle.std.specs.Prelude.{All, IfSome, slice_index}
use Rattle.std.proofs.lemmas.Bool.{cases_lt, cases_order, and_left, and_parts, and_right}
use Rattle.snl_lex.specs.declared.lines.Line.{Line}
use Rattle.snl_lex.specs.declared.piece.Piece.{Piece}
use Rattle.snl_lex.specs.LineList.{numbers}
use Rattle.snl_lex.specs.Lines.{file_by, file_of, has_line_between, last_of, last_that, line_at, line_number_of, lines_between, marker_file, names_file, number_by, sets_line}
use Rattle.snl_lex.specs.Pieces.{bytes_at, piece_end, pieces_of}
use Rattle.snl_token_laws.specs.Unmarked.{IsPlainEnd}
use Rattle.snl_token_laws.proofs.Counted.{count_none, count_one, counted_if, filter_same, has_counted, has_none, has_some, last_passes, names_is, names_same, ordered_if, sets_same}
use Rattle.snl_lex.specs.LineLaws.{count_split, sets_is}

pub number_is : (text : List ℕ) (o : ℕ) → (line_at text o).number ≡ line_number_of text o
unfolding line_at
number_is text o = refl

pub file_is : (text : List ℕ) (o : ℕ) → (line_at text o).file ≡ file_of text o
unfolding line_at
file_is text o = refl

abbrev line_with : ℕ → Option (ℕ × ℕ) → Line
line_with number file = record { number = number; file = file }

line_is : (text : List ℕ) (o : ℕ) → line_at text o ≡ line_with (line_number_of text o) (file_of text o)
unfolding line_at
line_is text o = refl

-- The last marker that counts for an offset.
abbrev pub setter : List ℕ → ℕ → Option Piece
setter text o = last_that (sets_line text o) (pieces_of text)

abbrev pub namer : List ℕ → ℕ → Option Piece
namer text o = last_that (names_file text o) (pieces_of text)

-- Markers that count for two offsets alike.
abbrev AreAlike : List ℕ → ℕ → ℕ → Type 0
AreAlike text a b = All (λ p. sets_line text a p ≡ sets_line text b p) (pieces_of text)

setter_same : (text : List ℕ) (a b : ℕ) → AreAlike text a b → setter text a ≡ setter text b
setter_same text a b h = ap last_of (filter_same (sets_line text a) (sets_line text b) (pieces_of text) h)

namer_same : (text : List ℕ) (a b : ℕ) → AreAlike text a b → namer text a ≡ namer text b
namer_same text a b h =
    ap last_of (filter_same (names_file text a) (names_file text b) (pieces_of text) (λ k d lt. names_same text a b (get_or (pieces_of text) k d) (h k d lt)))

file_same : (text : List ℕ) (a b : ℕ) → AreAlike text a b → file_of text a ≡ file_of text b
file_same text a b h = ap (file_by text) (namer_same text a b h)

-- The last marker that counts has a line's end after it.
setter_counts : (text : List ℕ) (o : ℕ) → IfSome (setter text o) (λ p. sets_line text o p ≡ true)
setter_counts text o = last_passes (sets_line text o) (pieces_of text) None tt

sets_after : (text : List ℕ) (o : ℕ) (p : Piece) → sets_line text o p ≡ true → 0 < lines_between text (piece_end p) o
sets_after text o p h = counted_if text (piece_end p) o (and_parts (numbers text p) (has_line_between text (piece_end p) o) (sym (sets_is text o p) ∙ h)).1

-- How many more lines end before the second offset: so much greater is its number, by the same
-- marker.
number_more : (text : List ℕ) (a b n : ℕ) (o : Option Piece) → a ≤ b → lines_between text a b ≡ n → IfSome o (λ p. sets_line text a p ≡ true) → number_by text b o ≡ number_by text a o + n
number_more text a b n None le more h = omega (arith, more, count_split text 0 a b (omega arith) le)
number_more text a b n (Some p) le more h =
    let some : 0 < lines_between text (piece_end p) a = sets_after text a p h in
    let before : piece_end p < a = ordered_if text (piece_end p) a some in
    omega (arith, more, some, count_split text (piece_end p) a b (omega arith) le)

more_lines : (text : List ℕ) (a b n : ℕ) → a ≤ b → lines_between text a b ≡ n → AreAlike text a b → line_number_of text b ≡ line_number_of text a + n
more_lines text a b n le more h =
    ap (number_by text b) (sym (setter_same text a b h)) ∙ number_more text a b n (setter text a) le more (setter_counts text a)

-- ---- one line

has_alike : (text : List ℕ) (e a b : ℕ) → lines_between text e b ≡ lines_between text e a → has_line_between text e a ≡ has_line_between text e b
has_alike text e a b h = has_counted text e a ∙ (ap (nat_lt 0) (sym h) ∙ sym (has_counted text e b))

alike_in_line : (text : List ℕ) (a b : ℕ) → a ≤ b → lines_between text a b ≡ 0 → (p : Piece) → sets_line text a p ≡ sets_line text b p
alike_in_line text a b le none p =
    let e : ℕ = piece_end p in
    sets_same text a b p (λ _.
    elim (cases_lt e a) [
      | inl less ↦ has_alike text e a b (omega (arith, none, count_split text e a b (omega arith) le))
      | inr more ↦
          elim (cases_lt e b) [
            | inl inside ↦ has_none text e a (count_none text e a more) ∙ sym (has_none text e b (omega (arith, none, count_split text a e b more (omega arith))))
            | inr after ↦ has_none text e a (count_none text e a more) ∙ sym (has_none text e b (count_none text e b after))
          ]
    ])

pub one_line : (text : List ℕ) (a b : ℕ) → a ≤ b → lines_between text a b ≡ 0 → line_at text b ≡ line_at text a
one_line text a b le none =
    let alike : AreAlike text a b = λ k d lt. alike_in_line text a b le none (get_or (pieces_of text) k d) in
    let number : line_number_of text b ≡ line_number_of text a = omega (arith, more_lines text a b 0 le none alike) in
    line_is text b ∙ (ap₂ line_with number (sym (file_same text a b alike)) ∙ sym (line_is text a))

-- ---- the next line

-- A marker that sets a line ends at a line's end, or with the text.
abbrev pub EndsLine : List ℕ → Piece → Type 0
EndsLine text p = numbers text p ≡ true → (piece_end p ≡ length text) ⊎ (slice_index text (piece_end p) ≡ 10)

line_there : (text : List ℕ) (e place : ℕ) → e < place → place < length text → (e ≡ length text) ⊎ (slice_index text e ≡ 10) → 0 < lines_between text e place
line_there text e place less inside ends =
    elim ends [
      | inl last ↦ absurd (omega arith)
      | inr end ↦ omega (arith, count_split text e (e + 1) place (omega arith) (omega arith), count_one text e (omega arith) end)
    ]

pub alike_after : (text : List ℕ) (place : ℕ) → place < length text → slice_index text place ≡ 10 → (p : Piece) → EndsLine text p → (numbers text p ≡ true → piece_end p ≡ place → ⊥)
    → sets_line text place p ≡ sets_line text (place + 1) p
alike_after text place inside end p ends other =
    let e : ℕ = piece_end p in
    sets_same text place (place + 1) p (λ is.
    elim (cases_order e place) [
      | inl same ↦ absurd (other is same)
      | inr apart ↦
          elim apart [
            | inl less ↦
                let some = line_there text e place less inside (ends is) in
                has_some text e place some ∙ sym (has_some text e (place + 1) (omega (arith, some, count_split text e place (place + 1) (omega arith) (omega arith))))
            | inr more ↦ has_none text e place (count_none text e place (omega arith)) ∙ sym (has_none text e (place + 1) (count_none text e (place + 1) (omega arith)))
          ]
    ])

plain_alike : (text : List ℕ) → All (EndsLine text) (pieces_of text) → (place : ℕ) → IsPlainEnd text place → AreAlike text place (place + 1)
plain_alike text ends place is =
    λ k d lt. alike_after text place is.inside is.line_end (get_or (pieces_of text) k d) (ends k d lt) (is.unmarked k d lt)

pub next_number : (text : List ℕ) → All (EndsLine text) (pieces_of text) → (place : ℕ) → IsPlainEnd text place → (line_at text (place + 1)).number ≡ (line_at text place).number + 1
next_number text ends place is =
    number_is text (place + 1)
    ∙ (more_lines text place (place + 1) 1 (omega arith) (count_one text place is.inside is.line_end) (plain_alike text ends place is) ∙ ap (λ (n : ℕ). n + 1) (sym (number_is text place)))

pub next_file : (text : List ℕ) → All (EndsLine text) (pieces_of text) → (place : ℕ) → IsPlainEnd text place → (line_at text (place + 1)).file ≡ (line_at text place).file
next_file text ends place is = file_is text (place + 1) ∙ (sym (file_same text place (place + 1) (plain_alike text ends place is)) ∙ sym (file_is text place))

-- ---- the first line

none_at_start : (text : List ℕ) (p : Piece) → sets_line text 0 p ≡ false
none_at_start text p =
    sets_is text 0 p ∙ (ap (λ (b : Bool). numbers text p && b) (has_none text (piece_end p) 0 (count_none text (piece_end p) 0 (omega arith))) ∙ and_right (numbers text p) false refl)

none_passes : (ps : List Piece) → filter (λ (p : Piece). false) ps ≡ []
none_passes [] = refl
none_passes (p ∷ ps) = none_passes ps

pub first_number : (text : List ℕ) → (line_at text 0).number ≡ 1
first_number text =
    let none : filter (sets_line text 0) (pieces_of text) ≡ [] = filter_same (sets_line text 0) (λ (p : Piece). false) (pieces_of text) (λ k d lt. none_at_start text (get_or (pieces_of text) k d)) ∙ none_passes (pieces_of text) in
    number_is text 0 ∙ (ap (λ (l : List Piece). number_by text 0 (last_of l)) none ∙ omega (arith, count_none text 0 0 (omega arith)))

none_named : (text : List ℕ) (p : Piece) → names_file text 0 p ≡ false
none_named text p = names_is text 0 p ∙ and_left (sets_line text 0 p) (is_some (marker_file (bytes_at text p))) (none_at_start text p)

pub first_file : (text : List ℕ) → (line_at text 0).file ≡ None
first_file text =
    let none : filter (names_file text 0) (pieces_of text) ≡ [] = filter_same (names_file text 0) (λ (p : Piece). false) (pieces_of text) (λ k d lt. none_named text (get_or (pieces_of text) k d)) ∙ none_passes (pieces_of text) in
    file_is text 0 ∙ ap (λ (l : List Piece). file_by text (last_of l)) none
