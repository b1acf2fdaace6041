-- A line by the last marker that counts for it, and what an edit leaves of the lines that are
-- counted.
use Rattle.std.proofs.Common.{◌≡◌, ◌==◌, ℕ, ◌+◌, ◌-◌, ◌^◌, ◌<◌, ◌≤◌, inl, inr, Bool, true, false, ◌&&◌, ◌||◌, cond, nat_lt, List, [], ◌∷◌, length, take, drop, map, min, count_by, get_or, drop-cons, suc, filter, Option, None, Some, refl, sym, ap, ap₂, ◌∙◌, arith, length-drop}
use Rattle.std.specs.Prelude.{IfSome, if◌then◌else◌, nat_le, slice_index, unwrap_or}
use Rattle.std.specs.List.{AllByRecursion}
use Rattle.std.proofs.lemmas.List.{drop-take, length-take-le, take-take}
use Rattle.std.proofs.lemmas.List.Sums.{count_by-le-length}
use Rattle.snl_cut.specs.Cut.{IsEdit}
use Rattle.snl_lex.specs.declared.marker_list.Marker.{Marker}
use Rattle.snl_lex.specs.declared.lines.Line.{Line}
use Rattle.snl_lex.specs.declared.piece.Piece.{Piece}
use Rattle.snl_lex.specs.declared.shift.Shift.{Shift}
use Rattle.snl_lex.specs.Alphabet.{is_white}
use Rattle.snl_lex.specs.LineList.{ends_before, last_before, line_begin, line_ends, marker_of, naming_markers, number_after, setting_markers}
use Rattle.snl_lex.specs.Lines.{digit_count, has_line_between, last_of, last_or, line_at, lines_between, marker_number, number_stop, part_of, written_number}
use Rattle.snl_lex.specs.Pieces.{bytes_at}
use Rattle.snl_lex.specs.LineShift.{CountsAfter}
use Rattle.snl_lex.specs.Shift.{most}
use Rattle.snl_lex.proofs.LineBy.{begin_told, file_in, line_told, line_with}
use Rattle.snl_lex.proofs.LineEnds.{below_is, between_is}
use Rattle.std.proofs.lemmas.Bool.{cases_lt, lt-ltb, leb-true}
use Rattle.snl_facts.specs.Counts.{count_yes, any_counted}
use Rattle.snl_lex.specs.LineLaws.{count_split}

-- ---- a line by the last marker that counts

-- The last marker that counts for an offset.
abbrev pub last_for : List ℕ → ℕ → List Marker → Option Marker
last_for text offset ms = last_of (filter (λ m. has_line_between text m.end offset) ms)

-- The number of the offset's line by that marker.
abbrev pub number_from : List ℕ → ℕ → Option Marker → ℕ
number_from text offset None = 1 + lines_between text 0 offset
number_from text offset (Some m) = (m.number + lines_between text m.end offset) - 1

pub filter_same : (p q : Marker → Bool) → (ms : List Marker) → AllByRecursion (λ m. p m ≡ q m) ms → filter p ms ≡ filter q ms
filter_same p q [] h = refl
filter_same p q (m ∷ ms) h = ap₂ (λ (b : Bool) (l : List Marker). cond b (m ∷ l) l) h.0 (filter_same p q ms h.1)

pub each : (P : Marker → Type 0) → ((m : Marker) → P m) → (ms : List Marker) → AllByRecursion P ms
each P h [] = tt
each P h (m ∷ ms) = (h m, each P h ms)

last_is : (text : List ℕ) (offset : ℕ) (ms : List Marker) → last_before (line_begin (line_ends text) (ends_before (line_ends text) offset)) ms ≡ last_for text offset ms
last_is text offset ms =
    let begin : ℕ = line_begin (line_ends text) (ends_before (line_ends text) offset) in
    ap last_of (filter_same (λ m. nat_lt m.end begin) (λ m. has_line_between text m.end offset) ms
    (each (λ m. nat_lt m.end begin ≡ has_line_between text m.end offset) (λ m. sym (begin_told text m.end offset (ends_before (line_ends text) offset) refl)) ms))

number_is : (text : List ℕ) (offset : ℕ) (o : Option Marker) → number_after (line_ends text) (ends_before (line_ends text) offset) o ≡ number_from text offset o
number_is text offset None = ap (λ (n : ℕ). 1 + n) (below_is text offset)
number_is text offset (Some m) = ap (λ (n : ℕ). (m.number + n) - 1) (sym (between_is text m.end offset))

-- The line of an offset, by the markers of its text.
abbrev pub line_by : List ℕ → ℕ → List Marker → List Marker → Line
line_by text offset setting naming = line_with (number_from text offset (last_for text offset setting)) (file_in (last_for text offset naming))

pub line_is : (text : List ℕ) (offset : ℕ) → line_at text offset ≡ line_by text offset (setting_markers text) (naming_markers text)
line_is text offset =
    let es : List ℕ = line_ends text in
    let n : ℕ = ends_before es offset in
    let from : ℕ = line_begin es n in
    let setter : Option Marker = last_before from (setting_markers text) in
    let namer : Option Marker = last_before from (naming_markers text) in
    sym (line_told text offset es es es (setting_markers text) (naming_markers text) n from (number_after es n setter) setter namer refl refl refl refl refl refl refl refl refl refl)
    ∙ ap₂ line_with (number_is text offset setter ∙ ap (number_from text offset) (last_is text offset (setting_markers text))) (ap file_in (last_is text offset (naming_markers text)))

-- ---- numbers of markers are small

abbrev small : ℕ
small = 2147483647

picked : (a b c d : Bool) (w : ℕ) → (c ≡ true → w ≤ small) → unwrap_or (if a && b && c && d then Some w else None) 0 ≤ small
picked true true true true w h = h refl
picked true true true false w h = omega arith
picked true true false d w h = omega arith
picked true false c d w h = omega arith
picked false b c d w h = omega arith

number_small : (bytes : List ℕ) → unwrap_or (marker_number bytes) 0 ≤ small
unfolding marker_number
number_small bytes =
    picked (nat_lt 0 (digit_count bytes)) (nat_le (digit_count bytes) 10) (nat_le (written_number bytes) small)
    (nat_le (length bytes) (number_stop bytes) || is_white (slice_index bytes (number_stop bytes))) (written_number bytes) (leb-true (written_number bytes) small)

marker_small : (text : List ℕ) (p : Piece) → (marker_of text p).number ≤ small
marker_small text p = number_small (bytes_at text p)

-- ---- what the last of some markers keeps

pub last_keeps : (P : Marker → Type 0) (found : Option Marker) (ms : List Marker) → IfSome found P → AllByRecursion P ms → IfSome (last_or found ms) P
last_keeps P found [] h all = h
last_keeps P found (m ∷ ms) h all = last_keeps P (Some m) ms all.0 all.1

pub filter_keeps : (P : Marker → Type 0) (p : Marker → Bool) (ms : List Marker) → AllByRecursion P ms → AllByRecursion P (filter p ms)
filter_keeps P p [] all = tt
filter_keeps P p (m ∷ ms) all =
    elim (p m) as (λ b. AllByRecursion P (cond b (m ∷ filter p ms) (filter p ms))) [ true ↦ (all.0, filter_keeps P p ms all.1) | false ↦ filter_keeps P p ms all.1 ]

abbrev pub IsSmall : Marker → Type 0
IsSmall m = m.number ≤ small

pub all_small : (text : List ℕ) (ps : List Piece) → AllByRecursion IsSmall (map (marker_of text) ps)
all_small text [] = tt
all_small text (p ∷ ps) = (marker_small text p, all_small text ps)

-- ---- what an edit leaves

pub none_between : (text : List ℕ) (a b : ℕ) → b - a ≡ 0 → lines_between text a b ≡ 0
none_between text a b h = ap (λ (n : ℕ). count_by (λ x. x == 10) (take n (drop a text))) h

-- The byte at a place before another ends a line.
pub line_here : (text : List ℕ) (a place : ℕ) → a < place → place ≤ length text → get_or text a 0 ≡ 10 → 0 < lines_between text a place
line_here text a place order inside h =
    let next : place - a ≡ suc (place - suc a) = omega arith in
    let some : part_of text a place ≡ get_or text a 0 ∷ take (place - suc a) (drop (suc a) text) =
    ap (λ (n : ℕ). take n (drop a text)) next ∙ ap (take (suc (place - suc a))) (drop-cons text a 0 (omega (arith, order, inside))) in
    let rest : List ℕ = take (place - suc a) (drop (suc a) text) in
    let whole : lines_between text a place ≡ suc (count_by (λ x. x == 10) rest) =
    ap (count_by (λ x. x == 10)) (some ∙ ap (λ (x : ℕ). x ∷ rest) h) ∙ count_yes (λ x. x == 10) 10 rest refl in
    omega (arith, whole)

pub few_lines : (text : List ℕ) (a b : ℕ) → b ≤ length text → lines_between text a b ≤ b - a
few_lines text a b inside =
    elim (cases_lt b a) [
      | inl less ↦ omega (arith, none_between text a b (omega arith))
      | inr more ↦
          let size : length (part_of text a b) ≡ b - a = length-take-le (b - a) (drop a text) (omega (arith, length-drop a text)) in
          omega (arith, size, count_by-le-length (λ x. x == 10) (part_of text a b))
    ]

-- An edit, with how many line ends it takes out and puts in.
pub record IsCounted (old text : List ℕ) (s : Shift) : Type 0 where
  pub edit : IsEdit old text s.start s.old_stop s.new_stop
  pub old_lines : s.old_lines ≡ lines_between old s.start s.old_stop
  pub new_lines : s.new_lines ≡ lines_between text s.start s.new_stop
  pub old_short : length old < 2 ^ 32
  pub short : length text < 2 ^ 32

module _ (old text : List ℕ) (s : Shift) (is : IsCounted old text s) where
  -- Before the edit both texts have the same bytes.
  pub same_part : (a offset : ℕ) → offset ≤ s.start → part_of text a offset ≡ part_of old a offset
  same_part a offset h =
      elim (cases_lt offset a) [
        | inl less ↦
            let none : offset - a ≡ 0 = omega arith in
            ap (λ (n : ℕ). take n (drop a text)) none ∙ sym (ap (λ (n : ℕ). take n (drop a old)) none)
        | inr more ↦
            let whole : a + (offset - a) ≡ offset = omega arith in
            let front : take offset text ≡ take offset old = sym (take-take offset s.start text h) ∙ (ap (take offset) (sym is.edit.before) ∙ take-take offset s.start old h) in
            sym (drop-take a (offset - a) text) ∙ ap (λ (n : ℕ). drop a (take n text)) whole ∙ ap (drop a) front
            ∙ sym (ap (λ (n : ℕ). drop a (take n old)) whole) ∙ drop-take a (offset - a) old
      ]

  pub same_count : (a offset : ℕ) → offset ≤ s.start → lines_between text a offset ≡ lines_between old a offset
  same_count a offset h = ap (count_by (λ x. x == 10)) (same_part a offset h)

  pub same_back : (offset : ℕ) → s.old_stop ≤ offset → lines_between text s.new_stop ((offset - s.old_stop) + s.new_stop) ≡ lines_between old s.old_stop offset
  same_back offset h =
      let way : ((offset - s.old_stop) + s.new_stop) - s.new_stop ≡ offset - s.old_stop = omega arith in
      ap₂ (λ (n : ℕ) (l : List ℕ). count_by (λ x. x == 10) (take n l)) way (sym is.edit.after)

  -- What is counted from a place before the edit up to an offset after it.
  counted : (a offset : ℕ) → a ≤ s.start → s.old_stop ≤ offset → lines_between text a ((offset - s.old_stop) + s.new_stop) + s.old_lines ≡ lines_between old a offset + s.new_lines
  counted a offset low h =
      let b = s.old_stop in
      let c = s.new_stop in
      let to : ℕ = (offset - b) + c in
      omega (
        arith,
        is.old_lines,
        is.new_lines,
        same_count a s.start (omega arith),
        same_back offset h,
        count_split old a s.start offset low (omega (arith, h, is.edit.old_order)),
        count_split old s.start b offset is.edit.old_order h,
        count_split text a s.start to low (omega (arith, is.edit.new_order)),
        count_split text s.start c to is.edit.new_order (omega arith),
      )

  -- ---- the last marker that counts

  -- A marker with a line's end before the edit is before the edit.
  pub ends_early : (m : Marker) → CountsAfter old s.start m → m.end ≤ s.start
  ends_early m h = omega (arith, h, few_lines old m.end s.start (omega (arith, is.edit.old_order, is.edit.old_inside)))

  pub counts_in_both : (offset : ℕ) → s.old_stop ≤ offset → (m : Marker) → CountsAfter old s.start m
      → has_line_between text m.end ((offset - s.old_stop) + s.new_stop) ≡ has_line_between old m.end offset
  counts_in_both offset h m counts =
      let to : ℕ = (offset - s.old_stop) + s.new_stop in
      let early = ends_early m counts in
      let some_old : 0 < lines_between old m.end offset = omega (arith, counts, count_split old m.end s.start offset early (omega (arith, h, is.edit.old_order))) in
      let some : 0 < lines_between text m.end to =
      omega (arith, counts, same_count m.end s.start (omega arith), count_split text m.end s.start to early (omega (arith, is.edit.new_order))) in
      any_counted (λ b. b == 10) (part_of text m.end to) ∙ lt-ltb 0 (lines_between text m.end to) some
      ∙ sym (any_counted (λ b. b == 10) (part_of old m.end offset) ∙ lt-ltb 0 (lines_between old m.end offset) some_old)

  abbrev pub Good : Marker → Type 0
  Good m = CountsAfter old s.start m × IsSmall m

  pub number_in_back : (offset : ℕ) → s.old_stop ≤ offset → offset ≤ length old → (o : Option Marker) → IfSome o Good
      → number_from text ((offset - s.old_stop) + s.new_stop) o ≡ min (number_from old offset o + s.new_lines) most - s.old_lines
  number_in_back offset h inside None good =
      omega (
        arith,
        counted 0 offset (omega arith) h,
        few_lines old 0 offset inside,
        few_lines text s.start s.new_stop is.edit.new_inside,
        inside,
        is.new_lines,
        is.short,
        is.old_short,
        is.edit.new_inside,
      )
  number_in_back offset h inside (Some m) good =
      let early = ends_early m good.0 in
      omega (
        arith,
        counted m.end offset early h,
        good.0,
        good.1,
        is.old_lines,
        count_split old m.end s.start offset early (omega (arith, h, is.edit.old_order)),
        count_split old s.start s.old_stop offset is.edit.old_order h,
        few_lines old m.end offset inside,
        few_lines text s.start s.new_stop is.edit.new_inside,
        inside,
        is.new_lines,
        is.short,
        is.old_short,
        is.edit.new_inside,
      )
