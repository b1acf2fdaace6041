-- Words and punctuators are in the table, and names are no words of it.
use Rattle.std.proofs.Common.{◌≡◌, ◌==◌, ℕ, zero, suc, ◌+◌, ◌<◌, Bool, true, false, cond, List, [], ◌∷◌, length, take, drop, get_or, Option, Some, None, is_some, refl, sym, ap, ◌∙◌, subst, arith}
use Rattle.std.proofs.Common.{length-drop}
use Rattle.std.specs.Prelude.{slice_index}
use Rattle.snl_lex.specs.declared.alphabet.Start.{Start}
use Rattle.snl_lex.specs.declared.alphabet.Start.TheVariants.{Blank, Letter, Digit, Dot, Hash, Slash, Percent, Quote, Apostrophe, Sign, Stray}
use Rattle.snl_lex.specs.declared.piece.Class.{Class}
use Rattle.snl_lex.specs.declared.piece.Class.TheVariants.{White, Comment, Marker, CCode, Name, Word, Int, Float, Text, CharLit, Punct, Bad}
use Rattle.snl_lex.specs.declared.piece.Piece.{Piece}
use Rattle.snl_lex.specs.declared.kind.Kind.TheVariants as kind
use Rattle.snl_lex.specs.Alphabet.{is_digit, is_in_line, is_punctuator, is_stray, is_white, start_of}
use Rattle.snl_lex.specs.Kinds.{is_word, kind_of, look_up, punctuators, words}
use Rattle.snl_lex.specs.Numbers.{int_value_of, is_float, number_class}
use Rattle.snl_lex.specs.Pieces.{bytes_at, closed_by, closed_piece, first_piece, is_token, punctuator_piece, number_piece, piece_at, piece_by, piece_length, pieces_of, run_piece, string_joins, string_piece}
use Rattle.snl_lex.specs.Runs.{close_of, run_by}
use Rattle.snl_lex.proofs.LongestPunctuator.{punctuator_first}
use Rattle.snl_lex.proofs.Members.{Leads, pieces_lead}
use Rattle.snl_lex.proofs.Spellings.{missed, not_missed}

abbrev is_named : Class → Bool
is_named Word = true
is_named Name = true
is_named _ = false

-- A piece that is a word or a name is a word exactly where its bytes are one.
abbrev Tells : List ℕ → Class × ℕ → Type 0
Tells u p = is_named p.0 ≡ true → p.0 ≡ cond (is_word (take p.1 u)) Word Name

other : (u : List ℕ) (p : Class × ℕ) → is_named p.0 ≡ false → Tells u p
other u p k h = let e : true ≡ false = sym h ∙ k in cc

either : (u : List ℕ) (b : Bool) (p q : Class × ℕ) → Tells u p → Tells u q → Tells u (cond b p q)
either u true p q h k = h
either u false p q h k = k

neither : (b : Bool) (k l : Class) → is_named k ≡ false → is_named l ≡ false → is_named (cond b k l) ≡ false
neither true k l h e = h
neither false k l h e = e

number_tells : (u : List ℕ) → Tells u (number_piece u)
unfolding number_class
number_tells u =
    let s : List ℕ = take (number_piece u).1 u in
    other u (number_piece u) (neither (is_some (int_value_of s)) Int (cond (is_float s) Float Bad) refl (neither (is_float s) Float Bad refl refl))

closed_tells : (u : List ℕ) (kind : Class) (total : ℕ) (o : Option ℕ) → is_named kind ≡ false → Tells u (closed_by kind total o)
closed_tells u kind total None k = other u (closed_by kind total None) refl
closed_tells u kind total (Some n) k = other u (closed_by kind total (Some n)) k

string_tells : (u : List ℕ) (kind : Class) (quote : ℕ) → is_named kind ≡ false → Tells u (string_piece kind quote u)
string_tells u kind quote k =
    let n : ℕ = 1 + run_by (string_joins quote) [] (drop 1 u) in
    either u (slice_index u n == quote) (kind, 1 + n) (Bad, n) (other u (kind, 1 + n) k) (other u (Bad, n) refl)

by_tells : (s : Start) (u : List ℕ) → Tells u (piece_by s u)
by_tells Blank u = other u (run_piece White is_white u) refl
by_tells Letter u = λ h. refl
by_tells Digit u = number_tells u
by_tells Dot u = either u (is_digit (slice_index u 1)) (number_piece u) (punctuator_piece u) (number_tells u) (other u (punctuator_piece u) refl)
by_tells Hash u = other u (run_piece Marker is_in_line u) refl
by_tells Slash u =
    either u (slice_index u 1 == 47) (run_piece Comment is_in_line u) (cond (slice_index u 1 == 42) (closed_piece Comment 42 47 u) (punctuator_piece u)) (other u (run_piece Comment is_in_line u) refl)
    (either u (slice_index u 1 == 42) (closed_piece Comment 42 47 u) (punctuator_piece u) (closed_tells u Comment (length u) (close_of 42 47 (drop 2 u)) refl) (other u (punctuator_piece u) refl))
by_tells Percent u =
    either u (slice_index u 1 == 37) (run_piece CCode is_in_line u) (cond (slice_index u 1 == 123) (closed_piece CCode 125 37 u) (punctuator_piece u)) (other u (run_piece CCode is_in_line u) refl)
    (either u (slice_index u 1 == 123) (closed_piece CCode 125 37 u) (punctuator_piece u) (closed_tells u CCode (length u) (close_of 125 37 (drop 2 u)) refl) (other u (punctuator_piece u) refl))
by_tells Quote u = string_tells u Text 34 refl
by_tells Apostrophe u = string_tells u CharLit 39 refl
by_tells Sign u = other u (punctuator_piece u) refl
by_tells Stray u = other u (run_piece Bad is_stray u) refl

first_tells : (u : List ℕ) → Tells u (first_piece u)
unfolding first_piece
first_tells u = by_tells (start_of (slice_index u 0)) u

word_told : (b : Bool) → Word ≡ cond b Word Name → b ≡ true
word_told true h = refl
word_told false h = cc

name_told : (b : Bool) → Name ≡ cond b Word Name → b ≡ false
name_told true h = cc
name_told false h = refl

word_in_table : (u : List ℕ) → (first_piece u).0 ≡ Word → look_up words (take (first_piece u).1 u) ≡ kind.Bad → ⊥
unfolding is_word
word_in_table u h =
    not_missed (take (first_piece u).1 u) words refl (word_told (is_word (take (first_piece u).1 u)) (sym h ∙ first_tells u (ap is_named h)))

name_not_in_table : (u : List ℕ) → (first_piece u).0 ≡ Name → look_up words (take (first_piece u).1 u) ≡ kind.Bad
unfolding is_word
name_not_in_table u h =
    missed (take (first_piece u).1 u) words (name_told (is_word (take (first_piece u).1 u)) (sym h ∙ first_tells u (ap is_named h)))

punctuator_in_table : (u : List ℕ) → 0 < length u → (first_piece u).0 ≡ Punct → look_up punctuators (take (first_piece u).1 u) ≡ kind.Bad → ⊥
unfolding is_punctuator
punctuator_in_table u some h = not_missed (take (first_piece u).1 u) punctuators refl (punctuator_first u some h).punctuator

-- ---- all pieces of a text

-- What the table says of a piece that is a word, a punctuator or a name.
pub record IsTold (text : List ℕ) (p : Piece) : Type 0 where
  pub word : p.kind ≡ Word → look_up words (bytes_at text p) ≡ kind.Bad → ⊥
  pub punctuator : p.kind ≡ Punct → look_up punctuators (bytes_at text p) ≡ kind.Bad → ⊥
  pub name : p.kind ≡ Name → look_up words (bytes_at text p) ≡ kind.Bad

piece_told : (text : List ℕ) (at : ℕ) → at < length text → IsTold text (piece_at text at)
unfolding piece_at
piece_told text at lt =
    let u : List ℕ = drop at text in
    record { word = word_in_table u; punctuator = punctuator_in_table u (omega (arith, length-drop at text)); name = name_not_in_table u }

leads_told : (text : List ℕ) (from : ℕ) (ps : List Piece) (to : ℕ) → Leads text from ps to → (k : ℕ) (d : Piece) → k < length ps → IsTold text (get_or ps k d)
leads_told text from [] to h k d lt = absurd (omega arith)
leads_told text from (p ∷ ps) to h zero d lt = subst (IsTold text) (sym h.1) (piece_told text from h.0)
leads_told text from (p ∷ ps) to h (suc k) d lt = leads_told text (from + piece_length (drop from text)) ps to h.2 k d (omega arith)

pub pieces_told : (text : List ℕ) (k : ℕ) (d : Piece) → k < length (pieces_of text) → IsTold text (get_or (pieces_of text) k d)
pieces_told text = leads_told text 0 (pieces_of text) (length text) (pieces_lead text)

-- ---- what a token is to the grammar

told_faulty : (text : List ℕ) (k : Class) (at size : ℕ) → IsTold text (record { kind = k; start = at; len = size }) → is_token (record { kind = k; start = at; len = size }) ≡ true
    → kind_of k (bytes_at text (record { kind = k; start = at; len = size })) ≡ kind.Bad → k ≡ Bad
unfolding kind_of
told_faulty text White at size t h e = cc
told_faulty text Comment at size t h e = cc
told_faulty text Marker at size t h e = cc
told_faulty text CCode at size t h e = cc
told_faulty text Name at size t h e = cc
told_faulty text Word at size t h e = absurd (t.word refl e)
told_faulty text Int at size t h e = cc
told_faulty text Float at size t h e = cc
told_faulty text Text at size t h e = cc
told_faulty text CharLit at size t h e = cc
told_faulty text Punct at size t h e = absurd (t.punctuator refl e)
told_faulty text Bad at size t h e = refl

pub faulty_told : (text : List ℕ) (k : ℕ) (d : Piece) → k < length (pieces_of text)
    → is_token (get_or (pieces_of text) k d) ≡ true → kind_of (get_or (pieces_of text) k d).kind (bytes_at text (get_or (pieces_of text) k d)) ≡ kind.Bad → (get_or (pieces_of text) k d).kind ≡ Bad
faulty_told text k d lt =
    let p : Piece = get_or (pieces_of text) k d in
    told_faulty text p.kind p.start p.len (pieces_told text k d lt)
