-- Lines that an edit before line markers shifts.
use Rattle.std.proofs.Common.{◌≡◌, ◌==◌, ℕ, zero, suc, ◌+◌, ◌-◌, ◌<◌, ◌≤◌, inl, inr, Bool, true, false, ◌||◌, cond, nat_lt, List, [], ◌∷◌, ◌++◌, length, take, drop, map, min, get_or, slice_get, filter, Option, None, Some, refl, sym, ap, ap₂, ◌∙◌, subst, arith}
use Rattle.std.specs.Prelude.{IfSome, if◌then◌else◌, nat_le, option_map}
use Rattle.std.specs.List.{AllByRecursion}
use Rattle.std.proofs.lemmas.Bool.{cases_lt, lt-ltb, le-ltb, le-leb, lt-leb, both_ways}
use Rattle.std.proofs.lemmas.List.{take-append-drop}
use Rattle.std.proofs.lemmas.List.Elements.{recursion_from_All}
use Rattle.snl_cut.specs.Cut.{IsEdit}
use Rattle.snl_lex.specs.declared.marker_list.Marker.{Marker}
use Rattle.snl_lex.specs.declared.line_shift.LineShift.{LineShift}
use Rattle.snl_lex.specs.declared.shift.Shift.{Shift}
use Rattle.snl_lex.specs.LineList.{naming_markers, numbers, setting_markers}
use Rattle.snl_lex.specs.LineShift.{CountsAfter, IsApart, IsLineShift, NumbersFrom, moved_line, shifted_file, shifted_marker}
use Rattle.snl_lex.specs.Lines.{has_line_between, last_of, last_or, line_at, lines_between, part_of}
use Rattle.snl_lex.specs.Pieces.{pieces_of}
use Rattle.snl_lex.specs.Shift.{IsOutside, most, shifted_offset}
use Rattle.snl_lex.proofs.Changes.{edit_lengths}
use Rattle.snl_lex.proofs.LineBy.{file_in, line_with}
use Rattle.snl_lex.proofs.CountedLines.{Good, IsCounted, IsSmall, all_small, counts_in_both, filter_keeps, last_for, last_keeps, line_by, line_here, line_is, none_between, number_from, number_in_back, same_count, same_back}
use Rattle.snl_facts.specs.Counts.{any_counted}
use Rattle.snl_lex.specs.LineLaws.{count_split}

-- ---- lists of markers

pub filter_moved : (f : Marker → Marker) (p q : Marker → Bool) (ms : List Marker) → AllByRecursion (λ m. q (f m) ≡ p m) ms → filter q (map f ms) ≡ map f (filter p ms)
filter_moved f p q [] h = refl
filter_moved f p q (m ∷ ms) h = ap₂ (λ (b : Bool) (l : List Marker). cond b (f m ∷ l) l) h.0 (filter_moved f p q ms h.1) ∙ by (p m)
  where
    by : (b : Bool) → cond b (f m ∷ map f (filter p ms)) (map f (filter p ms)) ≡ map f (cond b (m ∷ filter p ms) (filter p ms))
    by true = refl
    by false = refl

last_moved : (f : Marker → Marker) (found : Option Marker) (ms : List Marker) → last_or (option_map f found) (map f ms) ≡ option_map f (last_or found ms)
last_moved f found [] = refl
last_moved f found (m ∷ ms) = last_moved f (Some m) ms

-- What holds of each that passes.
passing : (P : Marker → Type 0) (m : Marker) (rest : List Marker) (b : Bool) → (b ≡ true → P m) → AllByRecursion P rest → AllByRecursion P (cond b (m ∷ rest) rest)
passing P m rest true here h = (here refl, h)
passing P m rest false here h = h

filter_gives : (P : Marker → Type 0) (p : Marker → Bool) (ms : List Marker) → AllByRecursion (λ m. p m ≡ true → P m) ms → AllByRecursion P (filter p ms)
filter_gives P p [] h = tt
filter_gives P p (m ∷ ms) h = passing P m (filter p ms) (p m) h.0 (filter_gives P p ms h.1)

joined : (P : Marker → Type 0) (ms ns : List Marker) → AllByRecursion P ms → AllByRecursion P ns → AllByRecursion P (ms ++ ns)
joined P [] ns h g = g
joined P (m ∷ ms) ns h g = (h.0, joined P ms ns h.1 g)

weaker : (P Q : Marker → Type 0) → ((m : Marker) → P m → Q m) → (ms : List Marker) → AllByRecursion P ms → AllByRecursion Q ms
weaker P Q f [] h = tt
weaker P Q f (m ∷ ms) h = (f m h.0, weaker P Q f ms h.1)

both : (P Q : Marker → Type 0) (ms : List Marker) → AllByRecursion P ms → AllByRecursion Q ms → AllByRecursion (λ m. P m × Q m) ms
both P Q [] h g = tt
both P Q (m ∷ ms) h g = ((h.0, g.0), both P Q ms h.1 g.1)

-- There is one, and this holds of it.
abbrev IsThat : (Marker → Type 0) → Option Marker → Type 0
IsThat P None = ⊥
IsThat P (Some m) = P m

last_stays : (P : Marker → Type 0) (found : Option Marker) (ms : List Marker) → IsThat P found → AllByRecursion P ms → IsThat P (last_or found ms)
last_stays P found [] h all = h
last_stays P found (m ∷ ms) h all = last_stays P (Some m) ms all.0 all.1

-- The last that passes is from a place on, where the one at that place does.
last_from : (P : Marker → Type 0) (p : Marker → Bool) (found : Option Marker) (ms : List Marker) (n : ℕ) (first : Marker)
    → slice_get ms n ≡ Some first → p first ≡ true → AllByRecursion P (drop n ms) → IsThat P (last_or found (filter p ms))
last_from P p found [] n first there h all = absurd cc
last_from P p found (m ∷ ms) zero first there h all =
    let same : m ≡ first = cc in
    let passes : p m ≡ true = ap p same ∙ h in
    subst (λ (b : Bool). IsThat P (last_or found (cond b (m ∷ filter p ms) (filter p ms)))) (sym passes) (last_stays P (Some m) (filter p ms) all.0 (filter_keeps P p ms all.1))
last_from P p found (m ∷ ms) (suc n) first there h all =
    elim (p m) as (λ b. IsThat P (last_or found (cond b (m ∷ filter p ms) (filter p ms)))) [
      | true ↦ last_from P p (Some m) ms n first there h all
      | false ↦ last_from P p found ms n first there h all
    ]

file_moved : (s : Shift) (o : Option Marker) → file_in (option_map (shifted_marker s) o) ≡ shifted_file s (file_in o)
file_moved s None = refl
file_moved s (Some m) = refl

either : (a b c d : Bool) → a ≡ c → b ≡ d → (a || b) ≡ (c || d)
either a b c d e f = ap₂ (λ (x y : Bool). x || y) e f

-- ---- an edit by its places

-- What is counted between the places of an edit is counted between those of its shift.
pub same_between : (bytes : List ℕ) (count a b from to : ℕ) → a ≡ from → b ≡ to → count ≡ lines_between bytes from to → count ≡ lines_between bytes a b
same_between bytes count a b from to from_is to_is h = h ∙ sym (ap₂ (lines_between bytes) from_is to_is)

pub same_edit : (old text : List ℕ) (start b c : ℕ) (s : Shift) → s.start ≡ start → s.old_stop ≡ b → s.new_stop ≡ c → IsEdit old text start b c → IsEdit old text s.start s.old_stop s.new_stop
same_edit old text start b c s start_is old_is new_is is =
    subst (λ (n : ℕ). IsEdit old text n s.old_stop s.new_stop) (sym start_is)
    (subst (λ (n : ℕ). IsEdit old text start n s.new_stop) (sym old_is) (subst (λ (n : ℕ). IsEdit old text start b n) (sym new_is) is))

-- ---- an edit that leaves the markers

module _ (old text : List ℕ) (t : LineShift) (is : IsLineShift old text t) where
  abbrev s : Shift
  s = t.by

  abbrev moved : Marker → Marker
  moved = shifted_marker t.by

  abbrev setting : List Marker
  setting = setting_markers old

  abbrev naming : List Marker
  naming = naming_markers old

  counts : IsCounted old text s
  counts = record { edit = is.edit; old_lines = is.old_lines; new_lines = is.new_lines; old_short = is.old_short; short = is.short }

  -- Where an offset is that the edit leaves.
  early_offset : (o : ℕ) → o < s.start → shifted_offset s o ≡ o
  early_offset o h = ap (λ (b : Bool). if b then o else min ((o - s.old_stop) + s.new_stop) most) (lt-ltb o s.start h)

  late_offset : (o : ℕ) → s.old_stop ≤ o → shifted_offset s o ≡ min ((o - s.old_stop) + s.new_stop) most
  late_offset o h = ap (λ (b : Bool). if b then o else min ((o - s.old_stop) + s.new_stop) most) (le-ltb o s.start (omega (arith, h, is.edit.old_order)))

  fits : (o : ℕ) → s.old_stop ≤ o → o ≤ length old → shifted_offset s o ≡ (o - s.old_stop) + s.new_stop
  fits o h inside =
      let small : min ((o - s.old_stop) + s.new_stop) most ≡ (o - s.old_stop) + s.new_stop = omega (arith, inside, h, is.short, edit_lengths old text s.start s.old_stop s.new_stop is.edit) in
      late_offset o h ∙ small

  any_told : (text : List ℕ) (a b : ℕ) → has_line_between text a b ≡ nat_lt 0 (lines_between text a b)
  any_told text a b = any_counted (λ x. x == 10) (part_of text a b)

  none_any : (text : List ℕ) (a b : ℕ) → b - a ≡ 0 → has_line_between text a b ≡ false
  none_any text a b h = any_told text a b ∙ ap (nat_lt 0) (none_between text a b h)

  -- A marker that counts for all after the edit is before it.
  stays_before : (m : Marker) → CountsAfter old s.start m → m.end < s.start
  stays_before m h =
      elim (cases_lt m.end s.start) [
        | inl less ↦ less
        | inr more ↦ absurd (omega (arith, h, none_between old m.end s.start (omega (arith, more))))
      ]

  -- What is counted from a place after the edit.
  count_beyond : (a offset : ℕ) → s.old_stop ≤ a → s.old_stop ≤ offset → offset ≤ length old
      → lines_between text (shifted_offset s a) ((offset - s.old_stop) + s.new_stop) ≡ lines_between old a offset
  count_beyond a offset late h inside =
      let to : ℕ = (offset - s.old_stop) + s.new_stop in
      elim (cases_lt a offset) [
        | inl less ↦
            let from : ℕ = (a - s.old_stop) + s.new_stop in
            let whole = count_split old s.old_stop a offset late (omega (arith, less)) in
            let whole_now = count_split text s.new_stop from to (omega arith) (omega (arith, less, late)) in
            ap (λ (n : ℕ). lines_between text n to) (fits a late (omega (arith, less, inside)))
            ∙ omega (arith, whole, whole_now, same_back old text s counts a late, same_back old text s counts offset h)
        | inr more ↦
            let further : offset - a ≡ 0 = omega (arith, more) in
            let small : to ≤ most = omega (arith, fits offset h inside, late_offset offset h) in
            let none : to - shifted_offset s a ≡ 0 = omega (arith, late_offset a late, more, small) in
            none_between text (shifted_offset s a) to none ∙ sym (none_between old a offset further)
      ]

  -- ---- which markers count

  abbrev Counted : ℕ → ℕ → Marker → Type 0
  Counted offset to m = has_line_between text (moved m).end to ≡ has_line_between old m.end offset

  apart_in_front : (offset : ℕ) → offset < s.start → (m : Marker) → IsApart old s m → lines_between text (moved m).end offset ≡ lines_between old m.end offset
  apart_in_front offset h m (inl early) =
      ap (λ (n : ℕ). lines_between text n offset) (early_offset m.end (stays_before m early)) ∙ same_count old text s counts m.end offset (omega (arith, h))
  apart_in_front offset h m (inr late) =
      let none : offset - shifted_offset s m.end ≡ 0 = omega (arith, late_offset m.end late, h, is.edit.new_order, is.edit.new_inside, is.short) in
      let before : offset - m.end ≡ 0 = omega (arith, late, h, is.edit.old_order) in
      none_between text (shifted_offset s m.end) offset none ∙ sym (none_between old m.end offset before)

  counted_in_front : (offset : ℕ) → offset < s.start → (m : Marker) → IsApart old s m → Counted offset offset m
  counted_in_front offset h m apart =
      any_told text (moved m).end offset ∙ ap (nat_lt 0) (apart_in_front offset h m apart) ∙ sym (any_told old m.end offset)

  counted_at_back : (offset : ℕ) → s.old_stop ≤ offset → offset ≤ length old → (m : Marker) → IsApart old s m → Counted offset ((offset - s.old_stop) + s.new_stop) m
  counted_at_back offset h inside m (inl early) =
      ap (λ (n : ℕ). has_line_between text n ((offset - s.old_stop) + s.new_stop)) (early_offset m.end (stays_before m early)) ∙ counts_in_both old text s counts offset h m early
  counted_at_back offset h inside m (inr late) =
      any_told text (moved m).end ((offset - s.old_stop) + s.new_stop) ∙ ap (nat_lt 0) (count_beyond m.end offset late h inside) ∙ sym (any_told old m.end offset)

  last_is_moved : (offset to : ℕ) → ((m : Marker) → IsApart old s m → Counted offset to m) → (ms : List Marker) → AllByRecursion (IsApart old s) ms
      → last_for text to (map moved ms) ≡ option_map moved (last_for old offset ms)
  last_is_moved offset to each ms apart =
      ap last_of (filter_moved moved (λ m. has_line_between old m.end offset) (λ m. has_line_between text m.end to) ms (weaker (IsApart old s) (Counted offset to) each ms apart))
      ∙ last_moved moved None (filter (λ m. has_line_between old m.end offset) ms)

  -- ---- the markers that set a line

  abbrev IsLate : Marker → Type 0
  IsLate m = t.until ≤ m.end + 1

  befores : AllByRecursion (CountsAfter old s.start) (take is.early setting)
  befores = recursion_from_All (CountsAfter old s.start) (take is.early setting) is.setting_before

  afters : AllByRecursion IsLate (drop is.early setting)
  afters = recursion_from_All IsLate (drop is.early setting) is.setting_after

  each_setting : (P : Marker → Type 0) → AllByRecursion P (take is.early setting) → AllByRecursion P (drop is.early setting) → AllByRecursion P setting
  each_setting P h g = subst (AllByRecursion P) (take-append-drop is.early setting) (joined P (take is.early setting) (drop is.early setting) h g)

  late_apart : (m : Marker) → IsLate m → IsApart old s m
  late_apart m h = inr (omega (arith, h, is.until_after))

  setting_apart : AllByRecursion (IsApart old s) setting
  setting_apart =
      each_setting (IsApart old s) (weaker (CountsAfter old s.start) (IsApart old s) (λ m h. inl h) (take is.early setting) befores)
      (weaker IsLate (IsApart old s) late_apart (drop is.early setting) afters)

  naming_apart : AllByRecursion (IsApart old s) naming
  naming_apart = recursion_from_All (IsApart old s) naming is.naming_apart

  smalls : AllByRecursion IsSmall setting
  smalls = all_small old (filter (numbers old) (pieces_of old))

  -- Before the line that a marker after the edit numbers, the last that counts is before the edit.
  last_before : (offset : ℕ) → offset < t.until → IfSome (last_for old offset setting) (Good old text s counts)
  last_before offset h =
      let p : Marker → Bool = λ m. has_line_between old m.end offset in
      let of_late : (m : Marker) → IsLate m → p m ≡ true → CountsAfter old s.start m =
      λ m late passes. absurd (both_ways (p m) (none_any old m.end offset (omega (arith, late, h))) passes) in
      let each : AllByRecursion (λ m. p m ≡ true → CountsAfter old s.start m) setting =
      each_setting (λ m. p m ≡ true → CountsAfter old s.start m)
      (weaker (CountsAfter old s.start) (λ m. p m ≡ true → CountsAfter old s.start m) (λ m early passes. early) (take is.early setting) befores)
      (weaker IsLate (λ m. p m ≡ true → CountsAfter old s.start m) of_late (drop is.early setting) afters) in
      last_keeps (Good old text s counts) None (filter p setting) tt
      (both (CountsAfter old s.start) IsSmall (filter p setting) (filter_gives (CountsAfter old s.start) p setting each) (filter_keeps IsSmall p setting smalls))

  -- From that line on, it is after it.
  last_after : (offset : ℕ) → t.until ≤ offset → offset ≤ length old → IsThat IsLate (last_for old offset setting)
  last_after offset h inside = by (slice_get setting is.early) refl is.until_marker
    where
      by : (o : Option Marker) → slice_get setting is.early ≡ o → NumbersFrom old t.until o → IsThat IsLate (last_for old offset setting)
      by None there first = absurd (omega (arith, first, h, inside))
      by (Some m) there first =
          let within : m.end < length old = omega (arith, first.0, h, inside) in
          let byte : get_or old m.end 0 ≡ 10 = first.1 within in
          let some = line_here old m.end offset (omega (arith, first.0, h)) inside byte in
          last_from IsLate (λ m. has_line_between old m.end offset) None setting is.early m there (any_told old m.end offset ∙ lt-ltb 0 (lines_between old m.end offset) some) afters

  -- ---- numbers

  number_in_front : (offset : ℕ) → offset < s.start → (o : Option Marker) → IfSome o (IsApart old s) → number_from text offset (option_map moved o) ≡ number_from old offset o
  number_in_front offset h None apart = ap (λ (n : ℕ). 1 + n) (same_count old text s counts 0 offset (omega (arith, h)))
  number_in_front offset h (Some m) apart = ap (λ (n : ℕ). (m.number + n) - 1) (apart_in_front offset h m apart)

  of_early : (to : ℕ) (o : Option Marker) → IfSome o (Good old text s counts) → number_from text to (option_map moved o) ≡ number_from text to o
  of_early to None good = refl
  of_early to (Some m) good = ap (λ (n : ℕ). (m.number + lines_between text n to) - 1) (early_offset m.end (stays_before m good.0))

  number_after_marker : (offset : ℕ) → s.old_stop ≤ offset → offset ≤ length old → (o : Option Marker) → IsThat IsLate o
      → number_from text ((offset - s.old_stop) + s.new_stop) (option_map moved o) ≡ number_from old offset o
  number_after_marker offset h inside None late = absurd late
  number_after_marker offset h inside (Some m) late = ap (λ (n : ℕ). (m.number + n) - 1) (count_beyond m.end offset (omega (arith, late, is.until_after)) h inside)

  -- ---- the line

  abbrev numbered : Bool → ℕ → ℕ
  numbered stays n = if stays then n else min (n + s.new_lines) most - s.old_lines

  line_moved : (offset to number : ℕ) → ((m : Marker) → IsApart old s m → Counted offset to m) → number_from text to (option_map moved (last_for old offset setting)) ≡ number
      → line_at text to ≡ line_with number (shifted_file s (file_in (last_for old offset naming)))
  line_moved offset to number each is_number =
      line_is text to
      ∙ ap₂ (line_by text to) is.setting is.naming
      ∙ ap₂ line_with (ap (number_from text to) (last_is_moved offset to each setting setting_apart) ∙ is_number)
      (ap file_in (last_is_moved offset to each naming naming_apart) ∙ file_moved s (last_for old offset naming))

  told : (offset : ℕ) (stays : Bool) → (nat_lt offset s.start || nat_le t.until offset) ≡ stays
      → moved_line t offset (line_at old offset) ≡ line_with (numbered stays (number_from old offset (last_for old offset setting))) (shifted_file s (file_in (last_for old offset naming)))
  told offset stays h =
      ap (moved_line t offset) (line_is old offset)
      ∙ ap (λ (b : Bool). line_with (numbered b (number_from old offset (last_for old offset setting))) (shifted_file s (file_in (last_for old offset naming)))) h

  in_front : (offset : ℕ) → offset < s.start → line_at text (shifted_offset s offset) ≡ moved_line t offset (line_at old offset)
  in_front offset h =
      let last : Option Marker = last_for old offset setting in
      let apart : IfSome last (IsApart old s) = last_keeps (IsApart old s) None (filter (λ m. has_line_between old m.end offset) setting) tt (filter_keeps (IsApart old s) (λ m. has_line_between old m.end offset) setting setting_apart) in
      ap (line_at text) (early_offset offset h)
      ∙ line_moved offset offset (number_from old offset last) (counted_in_front offset h) (number_in_front offset h last apart)
      ∙ sym (told offset true (ap (λ (b : Bool). b || nat_le t.until offset) (lt-ltb offset s.start h)))

  at_back : (offset : ℕ) → s.old_stop ≤ offset → offset ≤ length old → line_at text (shifted_offset s offset) ≡ moved_line t offset (line_at old offset)
  at_back offset h inside =
      let to : ℕ = (offset - s.old_stop) + s.new_stop in
      let last : Option Marker = last_for old offset setting in
      let late : nat_lt offset s.start ≡ false = le-ltb offset s.start (omega (arith, h, is.edit.old_order)) in
      ap (line_at text) (fits offset h inside)
      ∙ elim (cases_lt offset t.until) [
        | inl less ↦
            let good = last_before offset less in
            line_moved offset to (min (number_from old offset last + s.new_lines) most - s.old_lines) (counted_at_back offset h inside)
            (of_early to last good ∙ number_in_back old text s counts offset h inside last good)
            ∙ sym (told offset false (either (nat_lt offset s.start) (nat_le t.until offset) false false late (lt-leb t.until offset less)))
        | inr more ↦
            line_moved offset to (number_from old offset last) (counted_at_back offset h inside) (number_after_marker offset h inside last (last_after offset more inside))
            ∙ sym (told offset true (either (nat_lt offset s.start) (nat_le t.until offset) false true late (le-leb t.until offset more)))
      ]

  pub lines_moved : (offset : ℕ) → IsOutside old s offset → line_at text (shifted_offset s offset) ≡ moved_line t offset (line_at old offset)
  lines_moved offset h = elim h [ inl less ↦ in_front offset less | inr more ↦ at_back offset more.0 more.1 ]
