-- What is found after an edit inside one item.
use Rattle.std.proofs.Common.{◌≡◌, ℕ, zero, suc, ◌+◌, ◌<◌, ◌≤◌, Bool, true, All, List, [], ◌∷◌, ◌++◌, length, map, slice_get, is_some, Option, Some, None, option_map, refl, sym, ap, ap₂, ◌∙◌, arith}
use Rattle.std.specs.List.{AllByRecursion, cons_option, enumerate_from, filter_map, flat_map}
use Rattle.std.proofs.lemmas.List.{length-map}
use Rattle.std.proofs.lemmas.List.Elements.{recursion_from_All}
use Rattle.std.proofs.lemmas.Option.{slice_get-map}
use Rattle.snl_lex.specs.declared.piece.Piece.{Piece}
use Rattle.snl_lex.specs.declared.shift.Shift.{Shift}
use Rattle.snl_lex.specs.PieceList.{spelled}
use Rattle.snl_lex.specs.Shift.{most, shifted_piece}
use Rattle.snl_grammar.specs.declared.tree.item.Item.{Item}
use Rattle.snl_grammar.specs.declared.tree.item.Item.TheVariants as items
use Rattle.snl_grammar.specs.Outcome.{parsed_by, parsed_in}
use Rattle.snl_scope.specs.declared.facts.LinkFault.{LinkFault}
use Rattle.snl_summary.specs.declared.summary.Outline.{Outline}
use Rattle.snl_scope.specs.Linked as links
use Rattle.snl_summary.specs.Summaries.{kind_of}
use Rattle.snl_summary.specs.Summaries.Tokens.{token_bytes}
use Rattle.snl_moved.specs.Shifted.{shifted_item, shifted_tokens}
use Rattle.snl_moved.specs.ShiftedAround.{is_plain}
use Rattle.snl_kept.specs.declared.found.findings.Finding.{Finding}
use Rattle.snl_item_check.specs.declared.findings.Checked.{Checked}
use Rattle.snl_item_check.specs.Options.{warning_setting}
use Rattle.snl_item_check.specs.View.{is_in_set}
use Rattle.snl_kept.specs.Checked.{at_own_token, checked_faults, faults_kept, found_in_item}
use Rattle.snl_kept.specs.Checks.{check_of_item, checked_by, links_in, outlines_in}
use Rattle.snl_kept.specs.Diagnostics.{found, shown, shown_if}
use Rattle.snl_kept.specs.Faults.{fault_at, fault_in, faults_of}
use Rattle.snl_kept.specs.Linked.{finding_at, linked_faults, linked_finding, token_of}
use Rattle.snl_kept.specs.ReplacedItem.{ReplacesInside, SparesInside, own_findings, own_shown}
use Rattle.snl_kept.specs.ReplacedItem as one
use Rattle.snl_kept.specs.Order.{in_order}
use Rattle.snl_kept.specs.OwnFindings.{WalksAround, found_around, without}
use Rattle.snl_kept.specs.Program.{ProgramItem, items_of}
use Rattle.snl_kept.specs.Shifted.{shifted_finding}
use Rattle.snl_kept.specs.Tables.{tables_in, walked_faults, walked_in}
use Rattle.snl_kept.specs.Warnings.{last_or, setting_in, setting_of_item, shows_warnings, warns_in}
use Rattle.snl_kept.proofs.OwnElements.{total_append, total_filter_map, total_flat_map, total_map, total_option}
use Rattle.snl_kept.proofs.OwnOrder.{seen, total_shown, total_without}
use Rattle.snl_kept.proofs.Ranks.{one_order, total_in_order}
use Rattle.snl_kept.proofs.ShiftedFindings.{IsInside, StaysItem, checked_shift, fault_shifts, finding_shifts, setting_stays, settings_stay, token_shifts}
use Rattle.snl_kept.proofs.Sorting.{total}

total_four : (f : Finding → ℕ) (a b c d : List Finding) → total f (a ++ b ++ c ++ d) ≡ total f a + (total f b + (total f c + total f d))
total_four f a b c d = omega (arith, total_append f (a ++ b ++ c) d, total_append f (a ++ b) c, total_append f a b)

total_pairs : (f : Finding → ℕ) (a b c d e g : List Finding) → total f ((a ++ b) ++ c ++ (d ++ e) ++ g) ≡ (total f a + total f b) + (total f c + ((total f d + total f e) + total f g))
total_pairs f a b c d e g = omega (arith, total_four f (a ++ b) c (d ++ e) g, total_append f a b, total_append f d e)

-- a state says nothing of warnings, and neither does a faulty item
says_nothing : (text : List ℕ) (ss : List Outline) (i : ℕ) (x : ProgramItem) → is_plain (kind_of x.tree) ≡ true → setting_of_item text ss (i, x) ≡ None
says_nothing text ss i x h = by x.tree h
  where
    by : (tree : Option Item) → is_plain (kind_of tree) ≡ true → setting_in text ss i x.tokens tree ≡ None
    by None h = refl
    by (Some (items.OptionLine line)) h = absurd cc
    by (Some tree) h = refl

-- an element of the first of two lists, and one after the element between two lists
got_in_front : {X : Type 0} (xs ys : List X) (i : ℕ) (z : X) → slice_get xs i ≡ Some z → (i < length xs) × (slice_get (xs ++ ys) i ≡ Some z)
got_in_front [] ys i z got = absurd cc
got_in_front (x ∷ xs) ys zero z got = (omega arith, got)
got_in_front (x ∷ xs) ys (suc i) z got = let there = got_in_front xs ys i z got in (omega (arith, there.0), there.1)

got_at_back : {X : Type 0} (xs : List X) (y : X) (ys : List X) (i n : ℕ) → n ≡ length xs + 1 + i → slice_get (xs ++ (y ∷ ys)) n ≡ slice_get ys i
got_at_back [] y ys i zero at = absurd (omega (arith, at))
got_at_back [] y ys i (suc n) at = ap (slice_get ys) (omega (arith, at))
got_at_back (x ∷ xs) y ys i zero at = absurd (omega (arith, at))
got_at_back (x ∷ xs) y ys i (suc n) at = got_at_back xs y ys i n (omega (arith, at))

module _ (old text : List ℕ) (s : Shift) (head : ℕ) (front back : List ProgramItem) (x y : ProgramItem) (is : ReplacesInside old text s head front x y back)
    -- what the laws of the layers below say
    (by_spelling : (text : List ℕ) (tokens : List Piece) → parsed_in text tokens ≡ parsed_by (spelled text tokens))
    (bytes_same : (text moved : List ℕ) (tokens shifted : List Piece) → spelled text tokens ≡ spelled moved shifted → token_bytes text tokens ≡ token_bytes moved shifted)
    (each_inside : (ss : List Outline) (i : ℕ) (bytes : ℕ → List ℕ) (tree : Item) → All (IsInside s is.shift.some_before bytes) (checked_by ss i bytes tree).faults) where
  abbrev sh : Finding → Finding
  sh = shifted_finding s

  abbrev si : ProgramItem → ProgramItem
  si = shifted_item s

  abbrev ss : List Outline
  ss = outlines_in old

  abbrev n : ℕ
  n = length front

  order : s.start ≤ s.old_stop
  order = is.shift.edit.old_order

  fits : length old + s.new_stop ≤ most
  fits = omega (arith, is.shift.edit.new_inside, is.shift.old_short, is.shift.short)

  -- each of the others is checked as it was, and is in the state set in which it was
  in_set : (i : ℕ) → is_in_set (outlines_in text) i ≡ is_in_set ss i
  unfolding is_in_set
  in_set i = ap is_some (is.places i)

  found_same : (from : ℕ) (zs : List ProgramItem)
      → ((i m : ℕ) (z : ProgramItem) → i ≡ from + m → slice_get zs m ≡ Some z → check_of_item text (outlines_in text) (i, z) ≡ check_of_item text ss (i, z))
      → flat_map (found_in_item text (outlines_in text)) (enumerate_from from zs) ≡ flat_map (found_in_item text ss) (enumerate_from from zs)
  found_same from [] same = refl
  found_same from (z ∷ zs) same =
      ap₂ (λ (a b : List Finding). a ++ b)
      (ap (λ (c : Option Checked). map (at_own_token z.tokens) (faults_kept c)) (same from 0 z (omega arith) refl))
      (found_same (from + 1) zs (λ i m w at got. same i (suc m) w (omega (arith, at)) got))

  front_count : length (map si front) ≡ n
  front_count = length-map front si

  found_in_front : flat_map (found_in_item text (outlines_in text)) (enumerate_from 0 (map si front)) ≡ flat_map (found_in_item text ss) (enumerate_from 0 (map si front))
  found_in_front =
      found_same 0 (map si front)
      (λ i m z at got.
      let there = got_in_front (map si front) (y ∷ map si back) m z got in
      let here : i ≡ m = omega (arith, at) in
      is.checked i z (λ e. omega (arith, e, here, there.0, front_count))
      (ap (slice_get (items_of text)) here ∙ ap (λ (zs : List ProgramItem). slice_get zs m) is.items_are ∙ there.1))

  found_at_back : flat_map (found_in_item text (outlines_in text)) (enumerate_from (n + 1) (map si back)) ≡ flat_map (found_in_item text ss) (enumerate_from (n + 1) (map si back))
  found_at_back =
      found_same (n + 1) (map si back)
      (λ i m z at got.
      let here : i ≡ length (map si front) + 1 + m = omega (arith, at, front_count) in
      is.checked i z (λ e. omega (arith, e, at))
      (ap (λ (zs : List ProgramItem). slice_get zs i) is.items_are ∙ got_at_back (map si front) y (map si back) m i here ∙ got))

  abbrev Stays : ProgramItem → Type 0
  Stays z = StaysItem s is.shift.some_before old order fits text each_inside z

  stay : (xs : List ProgramItem) → AllByRecursion (one.StaysItem old text s) xs → AllByRecursion Stays xs
  stay [] h = tt
  stay (z ∷ zs) h = ((bytes_same text old (shifted_tokens s z.tokens) z.tokens h.0.spelled_same, h.0.left), stay zs h.1)

  -- at faulty items
  one_fault : (z : ProgramItem) → spelled text (shifted_tokens s z.tokens) ≡ spelled old z.tokens → fault_in text (si z) ≡ option_map sh (fault_in old z)
  one_fault z same =
      ap (fault_at (shifted_tokens s z.tokens)) (by_spelling text (shifted_tokens s z.tokens) ∙ ap parsed_by same ∙ sym (by_spelling old z.tokens)) ∙ fault_shifts s z.tokens (parsed_in old z.tokens)

  faults_shift : (xs : List ProgramItem) → AllByRecursion (one.StaysItem old text s) xs → filter_map (fault_in text) (map si xs) ≡ map sh (filter_map (fault_in old) xs)
  faults_shift [] h = refl
  faults_shift (z ∷ zs) h =
      ap₂ (λ (o : Option Finding) (l : List Finding). cons_option o l) (one_fault z h.0.spelled_same) (faults_shift zs h.1) ∙ by (fault_in old z)
    where
      by : (o : Option Finding) → cons_option (option_map sh o) (map sh (filter_map (fault_in old) zs)) ≡ map sh (cons_option o (filter_map (fault_in old) zs))
      by None = refl
      by (Some z) = refl

  -- by the links
  token_around : (ps : List ProgramItem) (i k : ℕ) → (i ≡ length ps → k < head) → token_of (map si ps ++ (y ∷ map si back)) i k ≡ option_map (shifted_piece s) (token_of (ps ++ (x ∷ back)) i k)
  token_around [] zero k low = is.stays k (low refl)
  token_around [] (suc i) k low = token_shifts s is.shift.some_before back i k
  token_around (a ∷ ps) zero k low = slice_get-map (shifted_piece s) a.tokens k
  token_around (a ∷ ps) (suc i) k low = token_around ps i k (λ e. low (ap suc e))

  placed_around : (faults : List LinkFault) → AllByRecursion (λ (f : LinkFault). f.item ≡ n → f.token < head) faults
      → map (linked_finding (map si front ++ (y ∷ map si back))) faults ≡ map sh (map (linked_finding (front ++ (x ∷ back))) faults)
  placed_around [] h = refl
  placed_around (f ∷ fs) h =
      ap₂ (λ (z : Finding) (l : List Finding). z ∷ l)
      (ap (finding_at f.code) (token_around front f.item f.token h.0) ∙ finding_shifts s is.shift.some_before f.code (token_of (front ++ (x ∷ back)) f.item f.token))
      (placed_around fs h.1)

  linked_around : SparesInside head n (links.faults_of (links_in old)) → links.faults_of (links_in text) ≡ links.faults_of (links_in old)
      → linked_faults text (items_of text) ≡ map sh (linked_faults old (items_of old))
  linked_around spares same =
      let faults : List LinkFault = links.faults_of (links_in old) in
      ap₂ (λ (zs : List ProgramItem) (fs : List LinkFault). map (linked_finding zs) fs) is.items_are same
      ∙ placed_around faults (recursion_from_All (λ (f : LinkFault). f.item ≡ n → f.token < head) faults spares)
      ∙ ap (λ (zs : List ProgramItem). map sh (map (linked_finding zs) faults)) (sym is.items_were)

  -- what is found, but for that at the state itself
  abbrev faults_before : List Finding
  faults_before = filter_map (fault_in old) front

  abbrev faults_after : List Finding
  faults_after = filter_map (fault_in old) back

  abbrev checks_before : List Finding
  checks_before = flat_map (found_in_item old ss) (enumerate_from 0 front)

  abbrev checks_after : List Finding
  checks_after = flat_map (found_in_item old ss) (enumerate_from (n + 1) back)

  here : n ≡ 0 + n
  here = omega arith

  faults_were : (f : Finding → ℕ) → total f (faults_of old (items_of old)) ≡ total f faults_before + (total f (cons_option (fault_in old x) []) + total f faults_after)
  faults_were f = ap (λ (zs : List ProgramItem). total f (filter_map (fault_in old) zs)) is.items_were ∙ total_filter_map f (fault_in old) front x back

  checks_were : (f : Finding → ℕ) → total f (checked_faults old (items_of old)) ≡ total f checks_before + (total f (found_in_item old ss (n, x)) + total f checks_after)
  checks_were f =
      ap (λ (zs : List ProgramItem). total f (flat_map (found_in_item old ss) (enumerate_from 0 zs))) is.items_were
      ∙ total_flat_map f (found_in_item old ss) 0 front x back n here

  abbrev was : List Finding
  was = own_findings old ss n x

  abbrev now : List Finding
  now = own_findings text (outlines_in text) n y

  shifts : (f : Finding → ℕ) (xs ys : List Finding) → xs ≡ map sh ys → total f xs ≡ total (λ z. f (sh z)) ys
  shifts f xs ys e = ap (total f) e ∙ total_map f sh ys

  faults_are : (f : Finding → ℕ) → total f (faults_of text (items_of text)) ≡ total (λ z. f (sh z)) faults_before + (total f (cons_option (fault_in text y) []) + total (λ z. f (sh z)) faults_after)
  faults_are f =
      let all = ap (λ (zs : List ProgramItem). total f (filter_map (fault_in text) zs)) is.items_are ∙ total_filter_map f (fault_in text) (map si front) y (map si back) in
      let before = shifts f (filter_map (fault_in text) (map si front)) faults_before (faults_shift front is.front_stays) in
      let after = shifts f (filter_map (fault_in text) (map si back)) faults_after (faults_shift back is.back_stays) in
      omega (arith, all, before, after)

  checks_are : (f : Finding → ℕ) → total f (checked_faults text (items_of text))
      ≡ total (λ z. f (sh z)) checks_before + (total f (found_in_item text (outlines_in text) (n, y)) + total (λ z. f (sh z)) checks_after)
  checks_are f =
      let all =
      ap (λ (zs : List ProgramItem). total f (flat_map (found_in_item text (outlines_in text)) (enumerate_from 0 zs))) is.items_are
      ∙ total_flat_map f (found_in_item text (outlines_in text)) 0 (map si front) y (map si back) n (here ∙ ap (λ (k : ℕ). 0 + k) (sym (length-map front si))) in
      let before = shifts f (flat_map (found_in_item text (outlines_in text)) (enumerate_from 0 (map si front))) checks_before (found_in_front ∙ checked_shift s is.shift.some_before old order fits text each_inside ss 0 front (stay front is.front_stays)) in
      let after = shifts f (flat_map (found_in_item text (outlines_in text)) (enumerate_from (n + 1) (map si back))) checks_after (found_at_back ∙ checked_shift s is.shift.some_before old order fits text each_inside ss (n + 1) back (stay back is.back_stays)) in
      omega (arith, all, before, after)

  -- what has gone and what has come by the walks, in one state set
  module _ (spares : SparesInside head n (links.faults_of (links_in old))) (same : links.faults_of (links_in text) ≡ links.faults_of (links_in old))
      (gone come : List Finding) (walks : WalksAround s gone come (walked_in (tables_in old)) (walked_in (tables_in text))) where
    abbrev others : List Finding
    others = (faults_before ++ faults_after) ++ linked_faults old (items_of old) ++ (checks_before ++ checks_after) ++ (walks.front ++ walks.back)

    total_around : (f : Finding → ℕ) (a b c : List Finding) → total f (a ++ (b ++ c)) ≡ total f a + (total f b + total f c)
    total_around f a b c = omega (arith, total_append f a (b ++ c), total_append f b c)

    walks_were : (f : Finding → ℕ) → total f (walked_faults old (items_of old)) ≡ total f walks.front + (total f gone + total f walks.back)
    unfolding tables_in
    walks_were f = ap (total f) walks.were ∙ total_around f walks.front gone walks.back

    walks_are : (f : Finding → ℕ) → total f (walked_faults text (items_of text)) ≡ total (λ z. f (sh z)) walks.front + (total f come + total (λ z. f (sh z)) walks.back)
    unfolding tables_in
    walks_are f =
        let all : total f (walked_in (tables_in text)) ≡ total f (map sh walks.front) + (total f come + total f (map sh walks.back)) =
        ap (total f) walks.are ∙ total_around f (map sh walks.front) come (map sh walks.back) in
        all ∙ ap₂ (λ (m k : ℕ). m + (total f come + k)) (total_map f sh walks.front) (total_map f sh walks.back)

    were : (f : Finding → ℕ) → total f (found old) ≡ (total f was + total f gone) + total f others
    unfolding found
    were f =
        let whole = total_four f (faults_of old (items_of old)) (linked_faults old (items_of old)) (checked_faults old (items_of old)) (walked_faults old (items_of old)) in
        let rest = total_pairs f faults_before faults_after (linked_faults old (items_of old)) checks_before checks_after (walks.front ++ walks.back) in
        let own = total_option f (fault_in old x) (found_in_item old ss (n, x)) in
        omega (arith, whole, rest, own, faults_were f, checks_were f, walks_were f, total_append f walks.front walks.back)

    are : (f : Finding → ℕ) → total f (found text) ≡ total (λ z. f (sh z)) others + (total f now + total f come)
    unfolding found
    are f =
        let whole = total_four f (faults_of text (items_of text)) (linked_faults text (items_of text)) (checked_faults text (items_of text)) (walked_faults text (items_of text)) in
        let rest = total_pairs (λ z. f (sh z)) faults_before faults_after (linked_faults old (items_of old)) checks_before checks_after (walks.front ++ walks.back) in
        let own = total_option f (fault_in text y) (found_in_item text (outlines_in text) (n, y)) in
        let linked = shifts f (linked_faults text (items_of text)) (linked_faults old (items_of old)) (linked_around spares same) in
        omega (arith, whole, rest, own, linked, faults_are f, checks_are f, walks_are f, total_append (λ z. f (sh z)) walks.front walks.back)

  -- what items say of warnings
  module _ (was_plain : is_plain (kind_of x.tree) ≡ true) (is_state : is_plain (kind_of y.tree) ≡ true) where
    settings_around : (k : ℕ) (ps : List ProgramItem) → AllByRecursion Stays ps
        → filter_map (setting_of_item text ss) (enumerate_from k (map si ps ++ (y ∷ map si back))) ≡ filter_map (setting_of_item old ss) (enumerate_from k (ps ++ (x ∷ back)))
    settings_around k [] h =
        ap₂ (λ (o : Option Bool) (l : List Bool). cons_option o l) (says_nothing text ss k y is_state ∙ sym (says_nothing old ss k x was_plain))
        (settings_stay s is.shift.some_before old order fits text each_inside ss (k + 1) back (stay back is.back_stays))
    settings_around k (p ∷ ps) h =
        ap₂ (λ (o : Option Bool) (l : List Bool). cons_option o l) (setting_stays s is.shift.some_before old order fits text each_inside ss k p.tokens p.tree h.0.0) (settings_around (k + 1) ps h.1)

    settings_same : (k : ℕ) (zs : List ProgramItem) → filter_map (setting_of_item text (outlines_in text)) (enumerate_from k zs) ≡ filter_map (setting_of_item text ss) (enumerate_from k zs)
    settings_same k [] = refl
    settings_same k (z ∷ zs) = ap₂ (λ (o : Option Bool) (l : List Bool). cons_option o l) (by z.tree) (settings_same (k + 1) zs)
      where
        by : (o : Option Item) → setting_in text (outlines_in text) k z.tokens o ≡ setting_in text ss k z.tokens o
        by None = refl
        by (Some tree) = ap (λ (b : Bool). warning_setting (token_bytes text z.tokens) b tree) (in_set k)

    pub warnings_stay : shows_warnings text (items_of text) ≡ shows_warnings old (items_of old)
    warnings_stay =
        ap (last_or true)
        (settings_same 0 (items_of text)
        ∙ ap (λ (zs : List ProgramItem). filter_map (setting_of_item text ss) (enumerate_from 0 zs)) is.items_are
        ∙ settings_around 0 front (stay front is.front_stays)
        ∙ ap (λ (zs : List ProgramItem). filter_map (setting_of_item old ss) (enumerate_from 0 zs)) (sym is.items_were))

    module _ (spares : SparesInside head n (links.faults_of (links_in old))) (same : links.faults_of (links_in text) ≡ links.faults_of (links_in old))
        (gone come : List Finding) (walks : WalksAround s gone come (walked_in (tables_in old)) (walked_in (tables_in text))) where
      abbrev b : Bool
      b = shows_warnings old (items_of old)

      abbrev rest : List Finding
      rest = shown_if b (others spares same gone come walks)

      abbrev all_gone : List Finding
      all_gone = own_shown old (items_of old) n x ++ shown_if (warns_in old) gone

      abbrev all_come : List Finding
      all_come = own_shown text (items_of text) n y ++ shown_if (warns_in text) come

      abbrev left : List Finding
      left = without all_gone (in_order (shown old))

      gone_are : (f : Finding → ℕ) → total f all_gone ≡ total (seen b f) was + total (seen b f) gone
      gone_are f = total_append f (shown_if b was) (shown_if b gone) ∙ ap₂ (λ (m k : ℕ). m + k) (total_shown b f was) (total_shown b f gone)

      come_are : (f : Finding → ℕ) → total f all_come ≡ total (seen b f) now + total (seen b f) come
      come_are f =
          ap (λ (v : Bool). total f (shown_if v now ++ shown_if v come)) warnings_stay
          ∙ total_append f (shown_if b now) (shown_if b come) ∙ ap₂ (λ (m k : ℕ). m + k) (total_shown b f now) (total_shown b f come)

      split : (f : Finding → ℕ) → total f (shown old) ≡ total f all_gone + total f rest
      unfolding shown
      split f = omega (arith, total_shown b f (found old), gone_are f, total_shown b f (others spares same gone come walks), were spares same gone come walks (seen b f))

      left_are : (f : Finding → ℕ) → total f left ≡ total f rest
      left_are = total_without all_gone (in_order (shown old)) rest (λ f. total_in_order f (shown old) ∙ split f)

      joined : (f : Finding → ℕ) → total f (shown text) ≡ total (λ z. f (sh z)) rest + total f all_come
      unfolding shown
      joined f =
          let all = ap (λ (v : Bool). total f (shown_if v (found text))) warnings_stay ∙ total_shown b f (found text) in
          omega (arith, all, come_are f, are spares same gone come walks (seen b f), total_shown b (λ z. f (sh z)) (others spares same gone come walks))

      sums : (f : Finding → ℕ) → total f (map sh left ++ all_come) ≡ total f (shown text)
      sums f = omega (arith, total_append f (map sh left) all_come, total_map f sh left, left_are (λ z. f (sh z)), joined f)

      pub found_is : found_around s all_gone all_come (in_order (shown old)) ≡ in_order (shown text)
      found_is = one_order (map sh left ++ all_come) (shown text) sums
