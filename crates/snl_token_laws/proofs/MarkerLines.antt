-- The lines after a marker that names a file have that file.
use Rattle.std.proofs.Common.{◌≡◌, inl, inr, ℕ, zero, suc, ◌+◌, ◌-◌, ◌<◌, ◌≤◌, Bool, true, false, ◌&&◌, cond, List, [], ◌∷◌, length, drop, take, get_or, filter, Option, Some, None, is_some, refl, sym, ap, ◌∙◌, subst, arith, length-take}
use Rattle.std.specs.Prelude.{All, slice_index}
use Rattle.std.proofs.lemmas.Bool.{and_from, and_left, and_right, cases_Bool}
use Rattle.std.proofs.lemmas.List.{drop-drop, drop-take, take-take}
use Rattle.snl_lex.specs.declared.alphabet.Start.{Start}
use Rattle.snl_lex.specs.declared.alphabet.Start.TheVariants.{Hash}
use Rattle.snl_lex.specs.declared.piece.Class.TheVariants.{Marker}
use Rattle.snl_lex.specs.declared.piece.Piece.{Piece}
use Rattle.snl_lex.specs.Alphabet.{is_digit, is_letter, is_white, start_of}
use Rattle.snl_lex.specs.Classes.{HasItsClass}
use Rattle.snl_lex.specs.LineLaws.{count_split, sets_is}
use Rattle.snl_lex.specs.LineList.{names, numbers}
use Rattle.snl_lex.specs.Lines.{file_by, has_line_between, is_marker, last_or, line_at, lines_between, marker_file, marker_number, names_file, place_from, sets_line}
use Rattle.snl_lex.specs.Pieces.{LiesIn, bytes_at, first_piece, piece_by, piece_end, pieces_of}
use Rattle.snl_token_laws.specs.Markers.{IsNaming, NoneNames, bytes_of, file_name_at}
use Rattle.snl_token_laws.specs.Markers.IsMarkerHead.{plain, with_word}
use Rattle.snl_token_laws.specs.Markers.IsNaming.{marker}
use Rattle.snl_token_laws.proofs.Counted.{count_none, count_one, has_none, has_some, names_is}
use Rattle.snl_token_laws.proofs.MarkerFiles.{IsRead, read_back}
use Rattle.snl_token_laws.proofs.Marked.{EndAfter, all_after, end_above, marker_end}
use Rattle.snl_token_laws.proofs.Rising.{file_is, namer}

-- ---- what is so written is a marker

hash_start : start_of 35 ≡ Hash
unfolding start_of is_white is_letter is_digit
hash_start = refl

first_taken : (n b : ℕ) (u : List ℕ) → 0 < b → slice_index (take n u) 0 ≡ b → slice_index u 0 ≡ b
first_taken zero b u some h = absurd (omega (arith, h))
first_taken (suc n) b [] some h = h
first_taken (suc n) b (x ∷ xs) some h = h

naming_hash : (bytes : List ℕ) (n : ℕ) (file : List ℕ) → IsNaming n file bytes → slice_index bytes 0 ≡ 35
naming_hash bytes n file (marker head ds gap name rest (plain first all) is few small gaps some quoted) = refl
naming_hash bytes n file (marker head ds gap name rest (with_word first after all all_after some_after) is few small gaps some quoted) = refl

hash_kind : (u : List ℕ) → slice_index u 0 ≡ 35 → (first_piece u).0 ≡ Marker
unfolding first_piece
hash_kind u h = ap (λ (b : ℕ). (piece_by (start_of b) u).0) h ∙ ap (λ (s : Start). (piece_by s u).0) hash_start

naming_kind : (text : List ℕ) (p : Piece) → HasItsClass text p → (n : ℕ) (file : List ℕ) → IsNaming n file (bytes_at text p) → p.kind ≡ Marker
naming_kind text p class n file is =
    class.kind ∙ hash_kind (drop p.start text) (first_taken p.len 35 (drop p.start text) (omega arith) (naming_hash (bytes_at text p) n file is))

-- ---- bytes of a part

part_bytes : (text : List ℕ) (start len at size : ℕ) → at + size ≤ len → take size (drop at (take len (drop start text))) ≡ take size (drop (start + at) text)
part_bytes text start len at size fits =
    let u : List ℕ = drop start text in
    let whole : at + (len - at) ≡ len = omega arith in
    let front : drop at (take len u) ≡ take (len - at) (drop at u) = ap (λ (n : ℕ). drop at (take n u)) (sym whole) ∙ drop-take at (len - at) u in
    ap (take size) front ∙ take-take size (len - at) (drop at u) (omega arith) ∙ ap (take size) (drop-drop at start text)

-- ---- the last that passes

none_pass : (passes : Piece → Bool) (ps : List Piece) (d : Piece) → ((i : ℕ) → i < length ps → passes (get_or ps i d) ≡ false) → filter passes ps ≡ []
none_pass passes [] d h = refl
none_pass passes (p ∷ ps) d h =
    ap (λ (b : Bool). cond b (p ∷ filter passes ps) (filter passes ps)) (h 0 (omega arith)) ∙ none_pass passes ps d (λ i lt. h (suc i) (omega arith))

last_here : (passes : Piece → Bool) (ps : List Piece) (found : Option Piece) (k : ℕ) (d : Piece) → k < length ps → passes (get_or ps k d) ≡ true
    → ((i : ℕ) → k < i → i < length ps → passes (get_or ps i d) ≡ false) → last_or found (filter passes ps) ≡ Some (get_or ps k d)
last_here passes [] found k d lt t later = absurd (omega arith)
last_here passes (p ∷ ps) found zero d lt t later =
    ap (λ (b : Bool). last_or found (cond b (p ∷ filter passes ps) (filter passes ps))) t
    ∙ ap (last_or (Some p)) (none_pass passes ps d (λ i li. later (suc i) (omega arith) (omega arith)))
last_here passes (p ∷ ps) found (suc k) d lt t later =
    let G : Bool → Type 0 = λ (b : Bool). last_or found (cond b (p ∷ filter passes ps) (filter passes ps)) ≡ Some (get_or ps k d) in
    let rest : (i : ℕ) → k < i → i < length ps → passes (get_or ps i d) ≡ false = λ i ki li. later (suc i) (omega arith) (omega arith) in
    elim (cases_Bool (passes p)) [
      | inl here ↦ subst G (sym here) (last_here passes ps (Some p) k d (omega arith) t rest)
      | inr other ↦ subst G (sym other) (last_here passes ps found k d (omega arith) t rest)
    ]

ends_rise : (from : ℕ) (ps : List Piece) (i k : ℕ) (d : Piece) → EndAfter from ps → i < k → k < length ps → piece_end (get_or ps i d) < piece_end (get_or ps k d)
ends_rise from [] i k d h ik lt = absurd (omega arith)
ends_rise from (p ∷ ps) zero zero d h ik lt = absurd (omega arith)
ends_rise from (p ∷ ps) zero (suc k) d h ik lt = end_above (piece_end p) ps k d h.1 (omega arith)
ends_rise from (p ∷ ps) (suc i) zero d h ik lt = absurd (omega arith)
ends_rise from (p ∷ ps) (suc i) (suc k) d h ik lt = ends_rise (piece_end p) ps i k d h.1 (omega arith) (omega arith)

-- ---- the lines after the marker

three : (a b c : Bool) → (a && c) ≡ false → ((a && b) && c) ≡ false
three true true c h = h
three true false c h = refl
three false b c h = refl

unnamed_at : (text : List ℕ) (o : ℕ) (q : Piece) → names text q ≡ false → names_file text o q ≡ false
unnamed_at text o q h =
    names_is text o q ∙ (ap (λ (b : Bool). b && is_some (marker_file (bytes_at text q))) (sets_is text o q)
    ∙ three (numbers text q) (has_line_between text (piece_end q) o) (is_some (marker_file (bytes_at text q))) h)

too_late : (text : List ℕ) (o : ℕ) (q : Piece) → o ≤ piece_end q → names_file text o q ≡ false
too_late text o q h =
    let none : has_line_between text (piece_end q) o ≡ false = has_none text (piece_end q) o (count_none text (piece_end q) o h) in
    names_is text o q ∙ and_left (sets_line text o q) (is_some (marker_file (bytes_at text q))) (sets_is text o q ∙ and_right (numbers text q) (has_line_between text (piece_end q) o) none)

module _ (text : List ℕ) (lie : All (LiesIn text) (pieces_of text)) (class : All (HasItsClass text) (pieces_of text)) (k : ℕ) (d : Piece) (lt : k < length (pieces_of text)) where
  abbrev p : Piece
  p = get_or (pieces_of text) k d

  line_ends : (o : ℕ) → p.kind ≡ Marker → piece_end p < o → o ≤ length text → has_line_between text (piece_end p) o ≡ true
  line_ends o kind after inside =
      let end : slice_index text (piece_end p) ≡ 10 = elim (marker_end text p (class k d lt) (lie k d lt) kind) [ inl last ↦ absurd (omega arith) | inr line ↦ line ] in
      let one : lines_between text (piece_end p) (piece_end p + 1) ≡ 1 = count_one text (piece_end p) (omega arith) end in
      has_some text (piece_end p) o (omega (arith, count_split text (piece_end p) (piece_end p + 1) o (omega arith) (omega arith)))

  names_there : (o n : ℕ) (file : List ℕ) → IsRead (bytes_at text p) n file → p.kind ≡ Marker → piece_end p < o → o ≤ length text → names_file text o p ≡ true
  names_there o n file r kind after inside =
      let numbered : numbers text p ≡ true = and_from (is_marker p.kind) (is_some (marker_number (bytes_at text p))) (ap is_marker kind) (ap is_some r.number) in
      let sets : sets_line text o p ≡ true = sets_is text o p ∙ and_from (numbers text p) (has_line_between text (piece_end p) o) numbered (line_ends o kind after inside) in
      names_is text o p ∙ and_from (sets_line text o p) (is_some (marker_file (bytes_at text p))) sets (ap is_some r.named)

  later_silent : (o : ℕ) → NoneNames text (piece_end p) o → (i : ℕ) → k < i → i < length (pieces_of text) → names_file text o (get_or (pieces_of text) i d) ≡ false
  later_silent o quiet i ki li =
      let q : Piece = get_or (pieces_of text) i d in
      let after : piece_end p < piece_end q = ends_rise 0 (pieces_of text) k i d (all_after text lie) ki li in
      elim (cases_Bool (names text q)) [
        | inl is ↦ too_late text o q (quiet i d li is after)
        | inr is_not ↦ unnamed_at text o q is_not
      ]

  pub file_after : (n : ℕ) (file : List ℕ) (o : ℕ) → IsNaming n file (bytes_at text p) → piece_end p < o → o ≤ length text → NoneNames text (piece_end p) o → file_name_at text o ≡ Some file
  file_after n file o is after inside quiet =
      let r = read_back (bytes_at text p) n file is in
      let kind : p.kind ≡ Marker = naming_kind text p (class k d lt) n file is in
      let last : namer text o ≡ Some p = last_here (names_file text o) (pieces_of text) None k d lt (names_there o n file r kind after inside) (later_silent o quiet) in
      let place : (line_at text o).file ≡ Some (p.start + r.place, length file) = file_is text o ∙ (ap (file_by text) last ∙ ap (place_from p.start) r.named) in
      let size : r.place + length file ≤ p.len = omega (arith, r.within, length-take p.len (drop p.start text)) in
      ap (bytes_of text) place ∙ ap Some (sym (part_bytes text p.start p.len r.place (length file) size) ∙ r.is)
