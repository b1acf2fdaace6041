-- The line after a marker that sets a line.
use Rattle.std.proofs.Common.{◌≡◌, ◌==◌, ℕ, zero, suc, ◌+◌, ◌-◌, ◌<◌, ◌≤◌, ◌⊎◌, inl, inr, Bool, true, false, cond, nat_lt, List, [], ◌∷◌, length, drop, filter, get_or, Option, Some, None, is_some, refl, sym, ap, ◌∙◌, subst, arith, eqb-true, length-drop}
use Rattle.std.specs.Prelude.{All, slice_index, unwrap_or}
use Rattle.std.proofs.lemmas.Bool.{and_from, and_left, and_parts, and_right, cases_Bool, cases_eq, not-false}
use Rattle.std.proofs.lemmas.List.{get_or-drop, get_or_default}
use Rattle.snl_lex.specs.declared.piece.Class.{Class}
use Rattle.snl_lex.specs.declared.piece.Class.TheVariants.{White, Comment, Marker, CCode, Name, Word, Int, Float, Text, CharLit, Punct, Bad}
use Rattle.snl_lex.specs.declared.piece.Piece.{Piece}
use Rattle.snl_lex.specs.Alphabet.{is_in_line}
use Rattle.snl_lex.specs.Classes.{HasItsClass}
use Rattle.snl_lex.specs.LineList.{numbers}
use Rattle.snl_lex.specs.Lines.{file_by, has_line_between, is_marker, last_of, last_or, line_at, lines_between, marker_file, marker_number, names_file, number_by, place_from, sets_line}
use Rattle.snl_lex.specs.Pieces.{LiesIn, bytes_at, piece_at, piece_end, piece_length, pieces_from, pieces_of}
use Rattle.snl_lex.specs.Runs.{run_of}
use Rattle.snl_token_laws.proofs.Counted.{all_first, all_rest, count_none, count_one, filter_same, has_none, has_some, names_is, names_same}
use Rattle.snl_token_laws.proofs.Rising.{EndsLine, alike_after, file_is, namer, number_is, setter}
use Rattle.snl_token_laws.proofs.Told.{told_at}
use Rattle.snl_lex.specs.LineLaws.{sets_is}

-- ---- where a marker ends

run_stops : (p : ℕ → Bool) (xs : List ℕ) → (run_of p xs ≡ length xs) ⊎ (p (get_or xs (run_of p xs) 0) ≡ false)
run_stops p [] = inl refl
run_stops p (x ∷ xs) =
    let r : ℕ = run_of p xs in
    let G : Bool → Type 0 = λ (b : Bool). (cond b (suc r) 0 ≡ suc (length xs)) ⊎ (p (get_or (x ∷ xs) (cond b (suc r) 0) 0) ≡ false) in
    elim (cases_Bool (p x)) [
      | inl is ↦ subst G (sym is) (elim (run_stops p xs) [ inl whole ↦ inl (ap suc whole) | inr stop ↦ inr stop ])
      | inr is_not ↦ subst G (sym is_not) (inr is_not)
    ]

is_line_end : (b : ℕ) → is_in_line b ≡ false → b ≡ 10
unfolding is_in_line
is_line_end b h = eqb-true b 10 (not-false (b == 10) h)

pub marker_end : (text : List ℕ) (p : Piece) → HasItsClass text p → LiesIn text p → p.kind ≡ Marker → (piece_end p ≡ length text) ⊎ (slice_index text (piece_end p) ≡ 10)
marker_end text p class lies e =
    let u : List ℕ = drop p.start text in
    let r : ℕ = run_of is_in_line (drop 1 u) in
    let some : 0 < length u = omega (arith, lies.0, lies.1, length-drop p.start text) in
    let len : p.len ≡ 1 + r = class.len ∙ told_at u Marker some (sym class.kind ∙ e) in
    let size : length (drop 1 u) ≡ (length text - p.start) - 1 = omega (arith, length-drop 1 u, length-drop p.start text) in
    elim (run_stops is_in_line (drop 1 u)) [
      | inl whole ↦ inl (omega (arith, whole, len, size, lies.0, lies.1))
      | inr stop ↦
          let there : get_or (drop 1 u) r 0 ≡ slice_index text (piece_end p) =
          get_or-drop 1 u r 0 ∙ (get_or-drop p.start text (1 + r) 0 ∙ ap (λ (n : ℕ). slice_index text (p.start + n)) (sym len)) in
          inr (sym there ∙ is_line_end (get_or (drop 1 u) r 0) stop)
    ]

is_told : (kind : Class) → is_marker kind ≡ true → kind ≡ Marker
is_told White h = cc
is_told Comment h = cc
is_told Marker h = refl
is_told CCode h = cc
is_told Name h = cc
is_told Word h = cc
is_told Int h = cc
is_told Float h = cc
is_told Text h = cc
is_told CharLit h = cc
is_told Punct h = cc
is_told Bad h = cc

marker_kind : (text : List ℕ) (p : Piece) → numbers text p ≡ true → p.kind ≡ Marker
marker_kind text p h = is_told p.kind (and_parts (is_marker p.kind) (is_some (marker_number (bytes_at text p))) h).0

pub ends_line : (text : List ℕ) (p : Piece) → HasItsClass text p → LiesIn text p → EndsLine text p
ends_line text p class lies h = marker_end text p class lies (marker_kind text p h)

-- ---- the pieces after a marker

-- The pieces end one after another, and all after a place.
abbrev pub EndAfter : ℕ → List Piece → Type 0
EndAfter from [] = Unit {0}
EndAfter from (p ∷ ps) = (from < piece_end p) × EndAfter (piece_end p) ps

after_if : (text : List ℕ) (at : ℕ) (b : Bool) (p : Piece) (ps : List Piece) → p.start ≡ at → All (LiesIn text) (cond b (p ∷ ps) []) → (All (LiesIn text) ps → EndAfter (piece_end p) ps) → EndAfter at (cond b (p ∷ ps) [])
after_if text at true p ps e h again = let lies = all_first (LiesIn text) p ps h in (omega (arith, lies.0, e), again (all_rest (LiesIn text) p ps h))
after_if text at false p ps e h again = tt

pieces_after : (text : List ℕ) (at most : ℕ) → All (LiesIn text) (pieces_from text at most) → EndAfter at (pieces_from text at most)
unfolding piece_at
pieces_after text at zero h = tt
pieces_after text at (suc most) h =
    let next : ℕ = at + piece_length (drop at text) in
    after_if text at (nat_lt at (length text)) (piece_at text at) (pieces_from text next most) refl h (pieces_after text next most)

pub all_after : (text : List ℕ) → All (LiesIn text) (pieces_of text) → EndAfter 0 (pieces_of text)
unfolding pieces_of
all_after text h = pieces_after text 0 (length text) h

-- A test that only markers pass which count for an offset.
abbrev IsOfSetters : List ℕ → ℕ → (Piece → Bool) → Type 0
IsOfSetters text o passes = (p : Piece) → sets_line text o p ≡ false → passes p ≡ false

none_later : (text : List ℕ) (o : ℕ) (p : Piece) → o ≤ piece_end p → sets_line text o p ≡ false
none_later text o p h =
    sets_is text o p ∙ and_right (numbers text p) (has_line_between text (piece_end p) o) (has_none text (piece_end p) o (count_none text (piece_end p) o h))

quiet : (text : List ℕ) (o : ℕ) (passes : Piece → Bool) → IsOfSetters text o passes → (from : ℕ) (ps : List Piece) → EndAfter from ps → o ≤ from + 1 → filter passes ps ≡ []
quiet text o passes is from [] h le = refl
quiet text o passes is from (p ∷ ps) h le =
    let no_setter : passes p ≡ false = is p (none_later text o p (omega (arith, h.0))) in
    ap (λ (b : Bool). cond b (p ∷ filter passes ps) (filter passes ps)) no_setter ∙ quiet text o passes is (piece_end p) ps h.1 (omega (arith, h.0))

last_at : (text : List ℕ) (o : ℕ) (passes : Piece → Bool) → IsOfSetters text o passes → (from : ℕ) (ps : List Piece) (found : Option Piece) (k : ℕ) (d : Piece) → EndAfter from ps → k < length ps
    → o ≡ piece_end (get_or ps k d) + 1 → passes (get_or ps k d) ≡ true → last_or found (filter passes ps) ≡ Some (get_or ps k d)
last_at text o passes is from [] found k d h lt e t = absurd (omega arith)
last_at text o passes is from (p ∷ ps) found zero d h lt e t =
    ap (λ (b : Bool). last_or found (cond b (p ∷ filter passes ps) (filter passes ps))) t
    ∙ ap (last_or (Some p)) (quiet text o passes is (piece_end p) ps h.1 (omega arith))
last_at text o passes is from (p ∷ ps) found (suc k) d h lt e t =
    let G : Bool → Type 0 = λ (b : Bool). last_or found (cond b (p ∷ filter passes ps) (filter passes ps)) ≡ Some (get_or ps k d) in
    elim (cases_Bool (passes p)) [
      | inl here ↦ subst G (sym here) (last_at text o passes is (piece_end p) ps (Some p) k d h.1 (omega arith) e t)
      | inr other ↦ subst G (sym other) (last_at text o passes is (piece_end p) ps found k d h.1 (omega arith) e t)
    ]

-- Each end is above the ones before it.
pub end_above : (from : ℕ) (ps : List Piece) (k : ℕ) (d : Piece) → EndAfter from ps → k < length ps → from < piece_end (get_or ps k d)
end_above from [] k d h lt = absurd (omega arith)
end_above from (p ∷ ps) zero d h lt = h.0
end_above from (p ∷ ps) (suc k) d h lt = omega (arith, h.0, end_above (piece_end p) ps k d h.1 (omega arith))

-- Pieces that end at one place are one piece.
one_end : (from : ℕ) (ps : List Piece) (i k : ℕ) (d : Piece) → EndAfter from ps → i < length ps → k < length ps → piece_end (get_or ps i d) ≡ piece_end (get_or ps k d) → i ≡ k
one_end from [] i k d h li lk e = absurd (omega arith)
one_end from (p ∷ ps) zero zero d h li lk e = refl
one_end from (p ∷ ps) zero (suc k) d h li lk e = absurd (omega (arith, e, end_above (piece_end p) ps k d h.1 (omega arith)))
one_end from (p ∷ ps) (suc i) zero d h li lk e = absurd (omega (arith, e, end_above (piece_end p) ps i d h.1 (omega arith)))
one_end from (p ∷ ps) (suc i) (suc k) d h li lk e = ap suc (one_end (piece_end p) ps i k d h.1 (omega arith) (omega arith) e)

module _ (text : List ℕ) (lie : All (LiesIn text) (pieces_of text)) (class : All (HasItsClass text) (pieces_of text)) (k : ℕ) (d : Piece) (lt : k < length (pieces_of text)) where
  abbrev p : Piece
  p = get_or (pieces_of text) k d

  abbrev after : ℕ
  after = piece_end (get_or (pieces_of text) k d) + 1

  counts_there : (n : ℕ) → p.kind ≡ Marker → marker_number (bytes_at text p) ≡ Some n → piece_end p < length text → (lines_between text (piece_end p) after ≡ 1) × (sets_line text after p ≡ true)
  counts_there n kind number inside =
      let end : slice_index text (piece_end p) ≡ 10 = elim (marker_end text p (class k d lt) (lie k d lt) kind) [ inl last ↦ absurd (omega arith) | inr line ↦ line ] in
      let one : lines_between text (piece_end p) after ≡ 1 = count_one text (piece_end p) inside end in
      let numbered : numbers text p ≡ true = and_from (is_marker p.kind) (is_some (marker_number (bytes_at text p))) (ap is_marker kind) (ap is_some number) in
      (one, sets_is text after p ∙ and_from (numbers text p) (has_line_between text (piece_end p) after) numbered (has_some text (piece_end p) after (omega arith)))

  pub marked_number : (n : ℕ) → p.kind ≡ Marker → marker_number (bytes_at text p) ≡ Some n → piece_end p < length text → (line_at text after).number ≡ n
  marked_number n kind number inside =
      let there = counts_there n kind number inside in
      let last : setter text after ≡ Some p = last_at text after (sets_line text after) (λ q h. h) 0 (pieces_of text) None k d (all_after text lie) lt refl there.1 in
      let value : unwrap_or (marker_number (bytes_at text p)) 0 ≡ n = ap (λ (o : Option ℕ). unwrap_or o 0) number in
      number_is text after ∙ (ap (number_by text after) last ∙ omega (arith, value, there.0))

  pub marked_file : (n at len : ℕ) → p.kind ≡ Marker → marker_number (bytes_at text p) ≡ Some n → marker_file (bytes_at text p) ≡ Some (at, len) → piece_end p < length text
      → (line_at text after).file ≡ Some (p.start + at, len)
  marked_file n at len kind number file inside =
      let there = counts_there n kind number inside in
      let named : names_file text after p ≡ true = names_is text after p ∙ and_from (sets_line text after p) (is_some (marker_file (bytes_at text p))) there.1 (ap is_some file) in
      let of_setters : IsOfSetters text after (names_file text after) = λ q h. names_is text after q ∙ and_left (sets_line text after q) (is_some (marker_file (bytes_at text q))) h in
      let last : namer text after ≡ Some p = last_at text after (names_file text after) of_setters 0 (pieces_of text) None k d (all_after text lie) lt refl named in
      file_is text after ∙ (ap (file_by text) last ∙ ap (place_from p.start) file)

  piece_same : (i : ℕ) (d2 : Piece) → i < length (pieces_of text) → piece_end (get_or (pieces_of text) i d2) ≡ piece_end p → get_or (pieces_of text) i d2 ≡ p
  piece_same i d2 li same =
      let one_default : get_or (pieces_of text) i d2 ≡ get_or (pieces_of text) i d = get_or_default (pieces_of text) i d2 d li in
      let index : i ≡ k = one_end 0 (pieces_of text) i k d (all_after text lie) li lt (ap piece_end (sym one_default) ∙ same) in
      one_default ∙ ap (λ (n : ℕ). get_or (pieces_of text) n d) index

  unnamed : (o : ℕ) (q : Piece) → marker_file (bytes_at text q) ≡ None → names_file text o q ≡ false
  unnamed o q none = names_is text o q ∙ and_right (sets_line text o q) (is_some (marker_file (bytes_at text q))) (ap is_some none)

  -- A marker that names no file leaves each other marker as it counts.
  named_alike : marker_file (bytes_at text p) ≡ None → piece_end p < length text → slice_index text (piece_end p) ≡ 10 → (i : ℕ) (d2 : Piece) → i < length (pieces_of text)
      → names_file text after (get_or (pieces_of text) i d2) ≡ names_file text (piece_end p) (get_or (pieces_of text) i d2)
  named_alike none inside line i d2 li =
      let q : Piece = get_or (pieces_of text) i d2 in
      elim (cases_eq (piece_end q) (piece_end p)) [
        | inl same ↦
            let e : get_or (pieces_of text) i d2 ≡ get_or (pieces_of text) k d = piece_same i d2 li same in
            let none_too : marker_file (bytes_at text q) ≡ None = ap (λ (r : Piece). marker_file (bytes_at text r)) e ∙ none in
            unnamed after q none_too ∙ sym (unnamed (piece_end p) q none_too)
        | inr other ↦ names_same text after (piece_end p) q (sym (alike_after text (piece_end p) inside line q (ends_line text q (class i d2 li) (lie i d2 li)) (λ _. other)))
      ]

  pub kept_file : p.kind ≡ Marker → marker_file (bytes_at text p) ≡ None → piece_end p < length text → (line_at text after).file ≡ (line_at text (piece_end p)).file
  kept_file kind none inside =
      let line : slice_index text (piece_end p) ≡ 10 = elim (marker_end text p (class k d lt) (lie k d lt) kind) [ inl last ↦ absurd (omega arith) | inr there ↦ there ] in
      let same : namer text after ≡ namer text (piece_end p) = ap last_of (filter_same (names_file text after) (names_file text (piece_end p)) (pieces_of text) (named_alike none inside line)) in
      file_is text after ∙ (ap (file_by text) same ∙ sym (file_is text (piece_end p)))
