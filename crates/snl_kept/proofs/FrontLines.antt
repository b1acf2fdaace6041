-- An item that an edit keeps in front begins on the line that it began on.
use Rattle.std.proofs.Common.{◌≡◌, ◌==◌, ℕ, ◌+◌, ◌-◌, ◌^◌, ◌<◌, ◌≤◌, inl, inr, Bool, true, false, ◌&&◌, cond, List, [], ◌∷◌, ◌++◌, length, map, take, drop, filter, count_by, slice_get, nat_lt, is_some, Option, None, Some, refl, sym, ap, ap₂, ◌∙◌, subst, append-nil, append_assoc, length-drop, arith}
use Rattle.std.specs.Prelude.{IfSome, unwrap_or}
use Rattle.std.specs.List.{AllByRecursion, list_any}
use Rattle.std.proofs.lemmas.Bool.{cases_lt, le-leb, lt-leb}
use Rattle.std.proofs.lemmas.List.{take-append-drop, take-map, drop-map}
use Rattle.std.proofs.lemmas.List.Elements.{filter-append}
use Rattle.snl_facts.specs.Each.{each_append, each_filter, each_unmap, each_weaker}
use Rattle.snl_facts.specs.Lists.{part_agrees}
use Rattle.snl_cut.specs.Cut.{IsCut, IsEdit, Rises, Walks, ends_below, fresh, joined, last_end}
use Rattle.snl_cut.specs.CutLaws.{below_no, below_yes}
use Rattle.snl_lex.specs.declared.lines.Line.{Line}
use Rattle.snl_lex.specs.declared.piece.Piece.{Piece}
use Rattle.snl_lex.specs.declared.piece_list.PieceChange.{PieceChange}
use Rattle.snl_lex.specs.declared.shift.Shift.{Shift}
use Rattle.snl_lex.specs.Edit.{Edit, IsChange, made_pieces}
use Rattle.snl_lex.specs.Lines.{file_by, has_line_between, is_marker, last_or, last_that, line_at, lines_between, marker_file, marker_number, names_file, number_by, part_of, place_from, sets_line}
use Rattle.snl_lex.specs.Local.{piece_front}
use Rattle.snl_lex.specs.PieceList.{last_pieces, piece_ends}
use Rattle.snl_lex.specs.Pieces.{bytes_at, moved_piece, piece_end, piece_length, pieces_of, tokens_of}
use Rattle.snl_items.specs.Changes.{IsShiftOf, IsTokenChange, LeavesAround, made_in}
use Rattle.snl_items.specs.Items.{item_ends}
use Rattle.snl_items.specs.declared.tokens.TokenChange.{TokenChange}
use Rattle.snl_check.specs.ItemSpans.{span_of}
use Rattle.snl_kept.specs.declared.plan.Changes.{Changes}
use Rattle.snl_kept.specs.Planned.{IsChanged}
use Rattle.snl_kept.specs.Program.{ProgramItem, item_tokens, items_of, program_item}
use Rattle.snl_kept.proofs.MemberParts.{in_members, members_in_front, members_take, rises_take}
use Rattle.snl_kept.proofs.ShiftedText.{along}

-- ---- lists of pieces

filter_none : (test : Piece → Bool) (ps : List Piece) → AllByRecursion (λ p. test p ≡ false) ps → filter test ps ≡ []
filter_none test [] h = refl
filter_none test (p ∷ ps) h = ap (λ (b : Bool). cond b (p ∷ filter test ps) (filter test ps)) h.0 ∙ filter_none test ps h.1

filter_same : (f g : Piece → Bool) (ps : List Piece) → AllByRecursion (λ p. f p ≡ g p) ps → filter f ps ≡ filter g ps
filter_same f g [] h = refl
filter_same f g (p ∷ ps) h = ap₂ (λ (b : Bool) (l : List Piece). cond b (p ∷ l) l) h.0 (filter_same f g ps h.1)

-- the last that passes is among the first pieces, where no other one passes
last_front : (test : Piece → Bool) (all ps rs : List Piece) → all ≡ ps ++ rs → AllByRecursion (λ p. test p ≡ false) rs → last_that test all ≡ last_that test ps
last_front test all ps rs is none =
    ap (last_that test) is
    ∙ ap (last_or None) (filter-append test ps rs ∙ ap (λ (l : List Piece). filter test ps ++ l) (filter_none test rs none) ∙ append-nil (filter test ps))

last_keeps : (P : Piece → Type 0) (found : Option Piece) (ps : List Piece) → IfSome found P → AllByRecursion P ps → IfSome (last_or found ps) P
last_keeps P found [] h all = h
last_keeps P found (p ∷ ps) h all = last_keeps P (Some p) ps all.0 all.1

-- ---- two texts that begin alike

no_line : (text : List ℕ) (from to : ℕ) → to ≤ from → has_line_between text from to ≡ false
no_line text from to le =
    let none : to - from ≡ 0 = omega (arith, le) in
    ap (λ (n : ℕ). list_any (λ b. b == 10) (take n (drop from text))) none

and_false : (b c : Bool) → c ≡ false → (b && c) ≡ false
and_false true c h = h
and_false false c h = refl

-- a piece that ends at or after an offset doesn't count for it
sets_none : (text : List ℕ) (at : ℕ) (p : Piece) → at ≤ piece_end p → sets_line text at p ≡ false
unfolding sets_line
sets_none text at p late = and_false (is_marker p.kind && is_some (marker_number (bytes_at text p))) (has_line_between text (piece_end p) at) (no_line text (piece_end p) at late)

names_none : (text : List ℕ) (at : ℕ) (p : Piece) → at ≤ piece_end p → names_file text at p ≡ false
unfolding names_file
names_none text at p late = ap (λ (b : Bool). b && is_some (marker_file (bytes_at text p))) (sets_none text at p late)

abbrev line_with : ℕ → Option (ℕ × ℕ) → Line
line_with number file = record { number = number; file = file }

module _ (old text : List ℕ) (start : ℕ) (same : take start old ≡ take start text) where
  abbrev IsEarly : Piece → Type 0
  IsEarly p = piece_end p ≤ start

  same_bytes : (p : Piece) → IsEarly p → bytes_at text p ≡ bytes_at old p
  same_bytes p early = sym (part_agrees old text start p.start p.len same early)

  same_part : (from to : ℕ) → to ≤ start → part_of text from to ≡ part_of old from to
  same_part from to le =
      elim (cases_lt from to) [
        | inl less ↦ sym (part_agrees old text start from (to - from) same (omega (arith, le, less)))
        | inr more ↦
            let none : to - from ≡ 0 = omega (arith, more) in
            ap (λ (n : ℕ). take n (drop from text)) none ∙ sym (ap (λ (n : ℕ). take n (drop from old)) none)
      ]

  module _ (at : ℕ) (le : at ≤ start) where
    sets_same : (p : Piece) → IsEarly p → sets_line text at p ≡ sets_line old at p
    unfolding sets_line
    sets_same p early =
        ap₂ (λ (bytes part : List ℕ). is_marker p.kind && is_some (marker_number bytes) && list_any (λ b. b == 10) part) (same_bytes p early) (same_part (piece_end p) at le)

    names_same : (p : Piece) → IsEarly p → names_file text at p ≡ names_file old at p
    unfolding names_file
    names_same p early = ap₂ (λ (sets : Bool) (bytes : List ℕ). sets && is_some (marker_file bytes)) (sets_same p early) (same_bytes p early)

    number_same : (o : Option Piece) → IfSome o IsEarly → number_by text at o ≡ number_by old at o
    number_same None early = ap (λ (part : List ℕ). 1 + count_by (λ b. b == 10) part) (same_part 0 at le)
    number_same (Some p) early =
        ap₂ (λ (bytes part : List ℕ). (unwrap_or (marker_number bytes) 0 + count_by (λ b. b == 10) part) - 1) (same_bytes p early) (same_part (piece_end p) at le)

    file_same : (o : Option Piece) → IfSome o IsEarly → file_by text o ≡ file_by old o
    file_same None early = refl
    file_same (Some p) early = ap (λ (bytes : List ℕ). place_from p.start (marker_file bytes)) (same_bytes p early)

    module _ (ps qs rs : List Piece) (old_is : pieces_of old ≡ ps ++ qs) (text_is : pieces_of text ≡ ps ++ rs) (early : AllByRecursion IsEarly ps)
        (olds : AllByRecursion (λ p. at ≤ piece_end p) qs) (news : AllByRecursion (λ p. at ≤ piece_end p) rs) where
      -- the last piece that passes is one in both texts
      module _ (test : List ℕ → ℕ → Piece → Bool) (none : (bytes : List ℕ) (p : Piece) → at ≤ piece_end p → test bytes at p ≡ false)
          (alike : (p : Piece) → IsEarly p → test text at p ≡ test old at p) where
        last_same : last_that (test text at) (pieces_of text) ≡ last_that (test old at) (pieces_of old)
        last_same =
            last_front (test text at) (pieces_of text) ps rs text_is (each_weaker (λ p. at ≤ piece_end p) (λ p. test text at p ≡ false) (none text) rs news)
            ∙ ap (last_or None) (filter_same (test text at) (test old at) ps (each_weaker IsEarly (λ p. test text at p ≡ test old at p) alike ps early))
            ∙ sym (last_front (test old at) (pieces_of old) ps qs old_is (each_weaker (λ p. at ≤ piece_end p) (λ p. test old at p ≡ false) (none old) qs olds))

        last_early : IfSome (last_that (test old at) (pieces_of old)) IsEarly
        last_early =
            subst (λ (o : Option Piece). IfSome o IsEarly)
            (sym (last_front (test old at) (pieces_of old) ps qs old_is (each_weaker (λ p. at ≤ piece_end p) (λ p. test old at p ≡ false) (none old) qs olds)))
            (last_keeps IsEarly None (filter (test old at) ps) tt (each_filter IsEarly (test old at) ps early))

      numbers : number_by text at (last_that (sets_line text at) (pieces_of text)) ≡ number_by old at (last_that (sets_line old at) (pieces_of old))
      numbers =
          ap (number_by text at) (last_same sets_line (λ bytes p late. sets_none bytes at p late) sets_same)
          ∙ number_same (last_that (sets_line old at) (pieces_of old)) (last_early sets_line (λ bytes p late. sets_none bytes at p late) sets_same)

      files : file_by text (last_that (names_file text at) (pieces_of text)) ≡ file_by old (last_that (names_file old at) (pieces_of old))
      files =
          ap (file_by text) (last_same names_file (λ bytes p late. names_none bytes at p late) names_same)
          ∙ file_same (last_that (names_file old at) (pieces_of old)) (last_early names_file (λ bytes p late. names_none bytes at p late) names_same)

      line_same : line_at text at ≡ line_at old at
      unfolding line_at
      line_same = ap₂ line_with numbers files

-- Two texts begin with the same bytes up to `start`, and with the same pieces `ps`, which end there
-- or before. An offset up to which no other piece ends has the same line in both.
pub front_line : (old text : List ℕ) (ps qs rs : List Piece) (start at : ℕ)
    → pieces_of old ≡ ps ++ qs → pieces_of text ≡ ps ++ rs
    → take start old ≡ take start text
    → at ≤ start
    → AllByRecursion (λ p. piece_end p ≤ start) ps
    → AllByRecursion (λ p. at ≤ piece_end p) qs → AllByRecursion (λ p. at ≤ piece_end p) rs
    → line_at text at ≡ line_at old at
front_line old text ps qs rs start at old_is text_is same le early olds news = line_same old text start same at le ps qs rs old_is text_is early olds news

-- ---- ends at a place

-- the members of a cut have a unit at least, so their ends rise
walks_rise : (units : List ℕ) (from : ℕ) (ends : List ℕ) (to : ℕ) → Walks piece_length units from ends to → Rises from ends
walks_rise units from [] to w = tt
walks_rise units from (e ∷ es) to w =
    let some : 0 < length (drop from units) = omega (arith, w.0, length-drop from units) in
    (omega (arith, w.1, (piece_front (drop from units) some).0), walks_rise units e es to w.2)

rising_above : (from : ℕ) (ends : List ℕ) → Rises from ends → AllByRecursion (λ e. from ≤ e) ends
rising_above from [] r = tt
rising_above from (e ∷ es) r = (omega (arith, r.0), each_weaker (λ n. e ≤ n) (λ n. from ≤ n) (λ n le. omega (arith, le, r.0)) es (rising_above e es r.1))

taken_below : (place : ℕ) (ends : List ℕ) → AllByRecursion (λ e. e ≤ place) (take (ends_below place ends) ends)
taken_below place [] = tt
taken_below place (e ∷ es) =
    elim (cases_lt e place) [
      | inl less ↦ subst (λ (n : ℕ). AllByRecursion (λ e. e ≤ place) (take n (e ∷ es))) (sym (below_yes e place es less)) (omega (arith, less), taken_below place es)
      | inr more ↦ subst (λ (n : ℕ). AllByRecursion (λ e. e ≤ place) (take n (e ∷ es))) (sym (below_no e place es more)) tt
    ]

left_above : (place from : ℕ) (ends : List ℕ) → Rises from ends → AllByRecursion (λ e. place ≤ e) (drop (ends_below place ends) ends)
left_above place from [] r = tt
left_above place from (e ∷ es) r =
    elim (cases_lt e place) [
      | inl less ↦ subst (λ (n : ℕ). AllByRecursion (λ e. place ≤ e) (drop n (e ∷ es))) (sym (below_yes e place es less)) (left_above place e es r.1)
      | inr more ↦
          subst (λ (n : ℕ). AllByRecursion (λ e. place ≤ e) (drop n (e ∷ es))) (sym (below_no e place es more))
          (more, each_weaker (λ n. e ≤ n) (λ n. place ≤ n) (λ n le. omega (arith, le, more)) es (rising_above e es r.1))
    ]

-- fresh members end at or after the edit's start
fresh_above : (start meet from : ℕ) (ends : List ℕ) → AllByRecursion (λ e. start ≤ e) (fresh start meet from ends)
fresh_above start meet from [] = tt
fresh_above start meet from (e ∷ es) =
    elim (cases_lt e start) [
      | inl less ↦
          subst (λ (b : Bool). AllByRecursion (λ n. start ≤ n) (cond b (cond (nat_lt from meet) (e ∷ fresh start meet e es) (fresh start meet e es)) (fresh start meet e es))) (sym (lt-leb start e less))
          (fresh_above start meet e es)
      | inr more ↦
          subst (λ (b : Bool). AllByRecursion (λ n. start ≤ n) (cond b (cond (nat_lt from meet) (e ∷ fresh start meet e es) (fresh start meet e es)) (fresh start meet e es))) (sym (le-leb start e more))
          (elim (nat_lt from meet) as (λ b. AllByRecursion (λ n. start ≤ n) (cond b (e ∷ fresh start meet e es) (fresh start meet e es))) [
            | true ↦ (more, fresh_above start meet e es)
            | false ↦ fresh_above start meet e es
          ])
    ]

-- ---- an edit

module _ (e : Edit) (change : PieceChange) (is : IsChange e change) (edit : IsEdit e.old e.text e.start e.old_stop e.new_stop)
    (cut : (text : List ℕ) → IsCut piece_length text (map piece_end (pieces_of text))) where
  abbrev front : List Piece
  front = take change.kept_front (pieces_of e.old)

  abbrev later : List Piece
  later = drop change.kept_front (pieces_of e.old)

  abbrev last : List Piece
  last = map (moved_piece e.old_stop e.new_stop) (last_pieces e.old change.kept_back)

  abbrev IsLate : Piece → Type 0
  IsLate p = e.start ≤ piece_end p

  front_early : AllByRecursion (λ p. piece_end p ≤ e.start) front
  front_early =
      each_unmap (λ n. n ≤ e.start) piece_end front
      (subst (AllByRecursion (λ n. n ≤ e.start)) (take-map piece_end change.kept_front (pieces_of e.old))
      (subst (λ (n : ℕ). AllByRecursion (λ n. n ≤ e.start) (take n (piece_ends e.old))) (sym is.recut.kept) (taken_below e.start (piece_ends e.old))))

  later_late : AllByRecursion IsLate later
  later_late =
      each_unmap (λ n. e.start ≤ n) piece_end later
      (subst (AllByRecursion (λ n. e.start ≤ n)) (drop-map piece_end change.kept_front (pieces_of e.old))
      (subst (λ (n : ℕ). AllByRecursion (λ n. e.start ≤ n) (drop n (piece_ends e.old))) (sym is.recut.kept)
      (left_above e.start 0 (piece_ends e.old) (walks_rise e.old 0 (piece_ends e.old) (length e.old) (cut e.old)))))

  made_late : AllByRecursion IsLate (made_pieces change)
  made_late =
      let ends : List ℕ = joined (piece_ends e.old) e.old_stop e.new_stop change.kept_front (map piece_end (made_pieces change)) change.kept_back in
      each_unmap (λ n. e.start ≤ n) piece_end (made_pieces change)
      (subst (AllByRecursion (λ n. e.start ≤ n)) (sym is.recut.just_fresh) (fresh_above e.start is.recut.meet 0 ends))

  moved_late : (ps : List Piece) → AllByRecursion IsLate (map (moved_piece e.old_stop e.new_stop) ps)
  moved_late [] = tt
  moved_late (p ∷ ps) = (omega (arith, edit.new_order), moved_late ps)

  pieces_before : pieces_of e.old ≡ front ++ later
  pieces_before = sym (take-append-drop change.kept_front (pieces_of e.old))

  pieces_now : pieces_of e.text ≡ front ++ (made_pieces change ++ last)
  pieces_now = is.pieces ∙ append_assoc front (made_pieces change) last

  -- All up to the edit is on the line that it was on.
  pub early_line : (at : ℕ) → at ≤ e.start → line_at e.text at ≡ line_at e.old at
  early_line at le =
      let weaker : (p : Piece) → IsLate p → at ≤ piece_end p = λ p late. omega (arith, le, late) in
      front_line e.old e.text front later (made_pieces change ++ last) e.start at pieces_before pieces_now edit.before le front_early
      (each_weaker IsLate (λ p. at ≤ piece_end p) weaker later later_late)
      (each_weaker IsLate (λ p. at ≤ piece_end p) weaker (made_pieces change ++ last)
      (each_append IsLate (made_pieces change) last made_late (moved_late (last_pieces e.old change.kept_back))))

module _ (e : Edit) (c : Changes) (changed : IsChanged e c) (edit : IsEdit e.old e.text e.start e.old_stop e.new_stop) (old_short : length e.old < 2 ^ 32) (short : length e.text < 2 ^ 32)
    -- the items in front end before the edit of the tokens
    (rises : Rises 0 (item_ends e.old))
    (before : last_end 0 (take c.items.kept_front (item_ends e.old)) ≤ c.tokens.edit.start)
    -- what the laws of the layers below say
    (cut : (text : List ℕ) → IsCut piece_length text (map piece_end (pieces_of text)))
    (around : (e : Edit) (pieces : PieceChange)
    → IsEdit e.old e.text e.start e.old_stop e.new_stop → length e.old < 2 ^ 32 → length e.text < 2 ^ 32
    → IsChange e pieces → (tokens : TokenChange) → IsTokenChange e tokens
    → (s : Shift) → IsShiftOf e s → LeavesAround s (tokens_of e.old) (tokens_of e.text) (made_in e tokens.edit) tokens.edit) where
  abbrev k : ℕ
  k = c.items.kept_front

  abbrev IsEarlyToken : Piece → Type 0
  IsEarlyToken p = piece_end p ≤ e.start

  abbrev shift : Shift
  shift = record {
    start = e.start;
    old_stop = e.old_stop;
    new_stop = e.new_stop;
    old_lines = lines_between e.old e.start e.old_stop;
    new_lines = lines_between e.text e.start e.new_stop;
  }

  is_shift : IsShiftOf e shift
  is_shift = record { start_is = refl; old_stop_is = refl; new_stop_is = refl; old_lines_are = refl; new_lines_are = refl }

  early_members : AllByRecursion (AllByRecursion IsEarlyToken) (take k (item_tokens e.old))
  unfolding item_tokens
  early_members =
      let tokens : List Piece = tokens_of e.old in
      let ends : List ℕ = item_ends e.old in
      subst (AllByRecursion (AllByRecursion IsEarlyToken))
      (members_in_front tokens c.tokens.edit.start 0 (take k ends) (rises_take 0 k ends rises) before ∙ sym (members_take tokens 0 k ends))
      (in_members IsEarlyToken (take c.tokens.edit.start tokens) (around e c.pieces edit old_short short changed.pieces c.tokens changed.tokens shift is_shift).in_front 0 (take k ends))

  abbrev KeepsLine : ProgramItem → Type 0
  KeepsLine x = line_at e.text (span_of (slice_get x.tokens 0)).start ≡ line_at e.old (span_of (slice_get x.tokens 0)).start

  keeps_line : (m : List Piece) → AllByRecursion IsEarlyToken m → KeepsLine (program_item e.old m)
  keeps_line [] h = early_line e c.pieces changed.pieces edit cut 0 (omega arith)
  keeps_line (p ∷ ps) h = early_line e c.pieces changed.pieces edit cut p.start (omega (arith, h.0))

  pub front_lines : AllByRecursion (λ (x : ProgramItem). line_at e.text (span_of (slice_get x.tokens 0)).start ≡ line_at e.old (span_of (slice_get x.tokens 0)).start) (take c.items.kept_front (items_of e.old))
  front_lines =
      subst (AllByRecursion KeepsLine) (sym (take-map (program_item e.old) k (item_tokens e.old)))
      (along e.old KeepsLine (take k (item_tokens e.old))
      (each_weaker (AllByRecursion IsEarlyToken) (λ m. KeepsLine (program_item e.old m)) keeps_line (take k (item_tokens e.old)) early_members))
