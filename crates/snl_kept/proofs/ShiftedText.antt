-- What a text says after an edit that shifts all of it.
use Rattle.std.proofs.Common.{◌≡◌, ◌↔◌, ℕ, inl, inr, ◌+◌, ◌-◌, ◌<◌, ◌≤◌, ◌&&◌, ◌||◌, Bool, true, false, not, cond, if◌then◌else◌, nat_lt, All, IsTrue, List, [], ◌∷◌, ◌++◌, length, map, filter, count_by, is_some, option_map, Option, Some, None, refl, sym, ap, ap₂, ◌∙◌, arith}
use Rattle.std.specs.List.{AllByRecursion, cons_option, enumerate_from, filter_map, flat_map}
use Rattle.std.proofs.lemmas.List.{map-append}
use Rattle.std.proofs.lemmas.List.Elements.{All-filter}
use Rattle.snl_cut.specs.Cut.{ends_below}
use Rattle.snl_lex.specs.declared.piece.Class.{Class}
use Rattle.snl_lex.specs.declared.piece.Piece.{Piece}
use Rattle.snl_lex.specs.declared.line_shift.LineShift.{LineShift}
use Rattle.snl_lex.specs.declared.lines.Line.{Line}
use Rattle.snl_lex.specs.declared.shift.Shift.{Shift}
use Rattle.snl_lex.specs.Lines.{line_at}
use Rattle.snl_lex.specs.PieceList.{spelled}
use Rattle.snl_lex.specs.Edit.{Edit}
use Rattle.snl_lex.specs.Pieces.{LiesIn, is_token, pieces_of, tokens_of}
use Rattle.snl_lex.specs.LineShift.{IsLineShift, moved_line}
use Rattle.snl_lex.specs.Shift.{IsOutside, most, shifted_offset}
use Rattle.snl_grammar.specs.Outcome.{parsed_by, parsed_in, sound_tree}
use Rattle.snl_grammar.specs.declared.tree.item.Item.{Item}
use Rattle.snl_items.specs.Fresh.{token_edit_of}
use Rattle.snl_items.specs.Items.{item_ends, spelled_items}
use Rattle.snl_codes.specs.Codes.{is_error}
use Rattle.snl_scope.specs.Linked as links
use Rattle.snl_scope.specs.LinkedItems.{LinkedItems}
use Rattle.snl_summary.specs.SpelledTokens.{summary_by}
use Rattle.snl_summary.specs.Summaries.{summary_in}
use Rattle.snl_summary.specs.Summaries.Tokens.{token_bytes}
use Rattle.snl_scope.specs.View.{view}
use Rattle.snl_summary.specs.declared.summary.Outline.{Outline}
use Rattle.snl_summary.specs.declared.summary.Summary.{Summary}
use Rattle.snl_views.specs.SameView.{same_view}
use Rattle.snl_tables.specs.Moved.{moved_tables}
use Rattle.snl_moved.specs.Moved.{KeepsItems}
use Rattle.snl_moved.specs.Shifted.{shifted_item, shifted_tokens}
use Rattle.snl_moved.specs.Spans.{AreRead}
use Rattle.snl_check.specs.Tables.{tables_of}
use Rattle.snl_kept.specs.declared.entries.Entry.{Entry}
use Rattle.snl_kept.specs.declared.found.findings.Finding.{Finding}
use Rattle.snl_kept.specs.Checked.{checked_faults, found_in_item}
use Rattle.snl_kept.specs.Checks.{checked_by, checks_from, links_in, outlines_in}
use Rattle.snl_kept.specs.Diagnostics.{diagnostic, diagnostics_of, found, shown}
use Rattle.snl_kept.specs.Entries.{entries_of, entry_by}
use Rattle.snl_kept.specs.Faults.{fault_at, fault_in, faults_of}
use Rattle.snl_kept.specs.Linked.{linked_faults, linked_finding}
use Rattle.snl_kept.specs.Order.{in_order}
use Rattle.snl_kept.specs.Program.{ProgramItem, item_tokens, items_of, program_item, tree_in}
use Rattle.snl_kept.specs.Shifted.{IsShifted, ShiftsAll, shifted_diagnostic, shifted_finding}
use Rattle.snl_kept.specs.Stirred.{is_stirred, old_number, stirred_of}
use Rattle.snl_kept.specs.Tables.{tables_in, walked_faults, walked_in}
use Rattle.snl_kept.specs.Warnings.{last_or, setting_of_item, shows_warnings}
use Rattle.snl_kept.proofs.MemberParts.{got, in_members}
use Rattle.snl_kept.proofs.ShiftedFindings.{IsInside, IsLeft, StaysItem, checked_shift, fault_shifts, placed_shift, settings_stay, walked_shift}
use Rattle.snl_kept.proofs.ShiftedItems.{each_alike, each_left, items_shift, links_stay, outlines_stay, spelled_stay}
use Rattle.snl_kept.proofs.ShiftedLines.{KeepsLine, lines_kept}
use Rattle.snl_kept.proofs.ShiftedOrder.{told_shift}
use Rattle.snl_kept.proofs.TextSpans.{items_are_read}
use Rattle.snl_facts.specs.Counts.{no_counted}

same_number : (before n i : ℕ) → old_number before n n i ≡ i
same_number before n i = by (nat_lt i before)
  where
    by : (b : Bool) → (if b then i else (i + n) - n) ≡ i
    by true = refl
    by false = omega arith

errors_shift : (s : Shift) (xs : List Finding) → filter (λ (x : Finding). is_error x.code) (map (shifted_finding s) xs) ≡ map (shifted_finding s) (filter (λ (x : Finding). is_error x.code) xs)
errors_shift s [] = refl
errors_shift s (x ∷ xs) = by (errors_shift s xs) (is_error x.code)
  where
    by : filter (λ (y : Finding). is_error y.code) (map (shifted_finding s) xs) ≡ map (shifted_finding s) (filter (λ (y : Finding). is_error y.code) xs)
        → (b : Bool) → cond b (shifted_finding s x ∷ filter (λ (y : Finding). is_error y.code) (map (shifted_finding s) xs)) (filter (λ (y : Finding). is_error y.code) (map (shifted_finding s) xs))
        ≡ map (shifted_finding s) (cond b (x ∷ filter (λ (y : Finding). is_error y.code) xs) (filter (λ (y : Finding). is_error y.code) xs))
    by rest true = ap (λ (l : List Finding). shifted_finding s x ∷ l) rest
    by rest false = rest

four_shift : (f : Finding → Finding) (a b c d : List Finding) → map f a ++ map f b ++ map f c ++ map f d ≡ map f (a ++ b ++ c ++ d)
four_shift f a b c d =
    ap (λ (l : List Finding). l ++ map f c ++ map f d) (sym (map-append f a b)) ∙ ap (λ (l : List Finding). l ++ map f d) (sym (map-append f (a ++ b) c)) ∙ sym (map-append f (a ++ b ++ c) d)

both : {X : Type 0} (P Q : X → Type 0) (xs : List X) → AllByRecursion P xs → AllByRecursion Q xs → AllByRecursion (λ x. P x × Q x) xs
both P Q [] h g = tt
both P Q (x ∷ xs) h g = ((h.0, g.0), both P Q xs h.1 g.1)

pub along : (text : List ℕ) (P : ProgramItem → Type 0) (ms : List (List Piece)) → AllByRecursion (λ m. P (program_item text m)) ms → AllByRecursion P (map (program_item text) ms)
along text P [] h = tt
along text P (m ∷ ms) h = (h.0, along text P ms h.1)

module _ (edit : Edit) (t : LineShift) (is : ShiftsAll edit t)
    -- what the laws of the layers below say
    (inside : (text : List ℕ) → All (LiesIn text) (pieces_of text))
    (tree_told : (text : List ℕ) (tokens : List Piece) → sound_tree (parsed_in text tokens) ≡ tree_in text tokens)
    (by_spelling : (text : List ℕ) (tokens : List Piece) → parsed_in text tokens ≡ parsed_by (spelled text tokens))
    (summary_told : (text : List ℕ) (tokens : List Piece) (tree : Option Item) → summary_in text tokens tree ≡ summary_by (spelled text tokens) tree)
    (bytes_same : (text moved : List ℕ) (tokens shifted : List Piece) → spelled text tokens ≡ spelled moved shifted → token_bytes text tokens ≡ token_bytes moved shifted)
    (each_inside : (ss : List Outline) (i : ℕ) (bytes : ℕ → List ℕ) (tree : Item) → All (IsInside t.by is.lines.lines.some_before bytes) (checked_by ss i bytes tree).faults)
    (views : (ss : List Outline) (i : ℕ) (ts : List Outline) (j : ℕ) (s : Summary) → IsTrue (same_view ss i ts j s) ↔ (view ss i s ≡ view ts j s))
    (lines : (old text : List ℕ) (t : LineShift) (o : ℕ) → IsLineShift old text t → IsOutside old t.by o → line_at text (shifted_offset t.by o) ≡ moved_line t o (line_at old o))
    (tables : (old text : List ℕ) (s : Shift) (line : ℕ → Line → Line) (xs : List ProgramItem) → 0 < s.start → AreRead old xs → KeepsItems old text s line xs
    → tables_of text (map (shifted_item s) xs) ≡ moved_tables s line (tables_of old xs)) where
  abbrev old : List ℕ
  old = edit.old

  abbrev text : List ℕ
  text = edit.text

  abbrev s : Shift
  s = t.by

  abbrev xs : List ProgramItem
  xs = items_of old

  order : s.start ≤ s.old_stop
  order = is.lines.lines.edit.old_order

  fits : length old + s.new_stop ≤ most
  fits = omega (arith, is.lines.lines.edit.new_inside, is.lines.lines.old_short, is.lines.lines.short)

  line_of : (o : ℕ) → IsOutside old s o → line_at text (shifted_offset s o) ≡ moved_line t o (line_at old o)
  line_of o h = lines old text t o is.lines.lines h

  items_are : items_of text ≡ map (shifted_item s) xs
  items_are = items_shift old text s is.tokens.spelled is.tokens.items is.tokens.left.made_are tree_told by_spelling summary_told

  outlines_are : outlines_in text ≡ outlines_in old
  outlines_are = outlines_stay old text s is.tokens.spelled is.tokens.items is.tokens.left.made_are tree_told by_spelling summary_told

  links_are : links_in text ≡ links_in old
  links_are = links_stay old text s is.tokens.spelled is.tokens.items is.tokens.left.made_are tree_told by_spelling summary_told

  alike : AllByRecursion (λ m. spelled text (shifted_tokens s m) ≡ spelled old m) (item_tokens old)
  alike = each_alike old text s is.tokens.spelled is.tokens.items is.tokens.left.made_are

  spelled_are : spelled_items text ≡ spelled_items old
  spelled_are = spelled_stay old text s is.tokens.spelled is.tokens.items is.tokens.left.made_are

  -- each item stays as it is
  tokens_lie : All (LiesIn old) (tokens_of old)
  tokens_lie = All-filter is_token (LiesIn old) (pieces_of old) (inside old)

  tokens_left : All (IsLeft s is.lines.lines.some_before old order fits) (tokens_of old)
  tokens_left = λ k d lt. (each_left s (tokens_of old) (tokens_of text) is.before is.tokens.left k d lt, tokens_lie k d lt)

  members_left : AllByRecursion (AllByRecursion (IsLeft s is.lines.lines.some_before old order fits)) (item_tokens old)
  unfolding item_tokens
  members_left = in_members (IsLeft s is.lines.lines.some_before old order fits) (tokens_of old) tokens_left 0 (item_ends old)

  same_bytes : (ms : List (List Piece)) → AllByRecursion (λ m. spelled text (shifted_tokens s m) ≡ spelled old m) ms → AllByRecursion (λ m. token_bytes text (shifted_tokens s m) ≡ token_bytes old m) ms
  same_bytes [] h = tt
  same_bytes (m ∷ ms) h = (bytes_same text old (shifted_tokens s m) m h.0, same_bytes ms h.1)

  abbrev Stays : ProgramItem → Type 0
  Stays x = StaysItem s is.lines.lines.some_before old order fits text each_inside x

  items_stay : AllByRecursion Stays xs
  items_stay =
      along old Stays (item_tokens old)
      (both (λ m. token_bytes text (shifted_tokens s m) ≡ token_bytes old m) (AllByRecursion (IsLeft s is.lines.lines.some_before old order fits)) (item_tokens old) (same_bytes (item_tokens old) alike) members_left)

  -- where the edit leaves it
  outside : (p : Piece) → IsLeft s is.lines.lines.some_before old order fits p → IsOutside old s p.start
  outside p (inl early, lies) = inl (omega (arith, early, lies.0))
  outside p (inr late, lies) = inr (late, omega (arith, lies.1))

  all_outside : (ps : List Piece) → AllByRecursion (IsLeft s is.lines.lines.some_before old order fits) ps → AllByRecursion (λ p. IsOutside old s p.start) ps
  all_outside [] h = tt
  all_outside (p ∷ ps) h = (outside p h.0, all_outside ps h.1)

  members_outside : (ms : List (List Piece)) → AllByRecursion (AllByRecursion (IsLeft s is.lines.lines.some_before old order fits)) ms → AllByRecursion (AllByRecursion (λ p. IsOutside old s p.start)) ms
  members_outside [] h = tt
  members_outside (m ∷ ms) h = (all_outside m h.0, members_outside ms h.1)

  lines_stay : AllByRecursion (λ (x : ProgramItem). KeepsLine old text t order line_of x.tokens) xs
  lines_stay =
      along old (λ (x : ProgramItem). KeepsLine old text t order line_of x.tokens) (item_tokens old)
      (lines_kept old text t order line_of (item_tokens old) (members_outside (item_tokens old) members_left) is.items is.lines.numbered)

  keeps : KeepsItems old text s (moved_line t) xs
  keeps i x there = record {
    bytes = λ n. ap (λ (f : ℕ → List ℕ). f n) (got Stays xs i x items_stay there).0;
    lined = λ named. got (λ (y : ProgramItem). KeepsLine old text t order line_of y.tokens) xs i x lines_stay there;
  }

  tables_are : tables_in text ≡ moved_tables s (moved_line t) (tables_in old)
  unfolding tables_in
  tables_are = ap (tables_of text) items_are ∙ tables old text s (moved_line t) xs is.lines.lines.some_before (items_are_read old (inside old)) keeps

  -- what is found
  one_fault : (m : List Piece) → spelled text (shifted_tokens s m) ≡ spelled old m → fault_in text (shifted_item s (program_item old m)) ≡ option_map (shifted_finding s) (fault_in old (program_item old m))
  one_fault m same =
      ap (fault_at (shifted_tokens s m)) (by_spelling text (shifted_tokens s m) ∙ ap parsed_by same ∙ sym (by_spelling old m)) ∙ fault_shifts s m (parsed_in old m)

  faults_shift : (ms : List (List Piece)) → AllByRecursion (λ m. spelled text (shifted_tokens s m) ≡ spelled old m) ms
      → faults_of text (map (shifted_item s) (map (program_item old) ms)) ≡ map (shifted_finding s) (faults_of old (map (program_item old) ms))
  faults_shift [] h = refl
  faults_shift (m ∷ ms) h =
      ap₂ (λ (o : Option Finding) (l : List Finding). cons_option o l) (one_fault m h.0) (faults_shift ms h.1) ∙ by (fault_in old (program_item old m))
    where
      by : (o : Option Finding) → cons_option (option_map (shifted_finding s) o) (map (shifted_finding s) (faults_of old (map (program_item old) ms)))
          ≡ map (shifted_finding s) (cons_option o (faults_of old (map (program_item old) ms)))
      by None = refl
      by (Some x) = refl

  linked_shift : linked_faults text (items_of text) ≡ map (shifted_finding s) (linked_faults old xs)
  linked_shift =
      ap₂ (λ (ys : List ProgramItem) (l : LinkedItems). map (linked_finding ys) (links.faults_of l)) items_are links_are
      ∙ placed_shift s is.lines.lines.some_before xs (links.faults_of (links_in old))

  checks_shift : checked_faults text (items_of text) ≡ map (shifted_finding s) (checked_faults old xs)
  checks_shift =
      ap₂ (λ (ss : List Outline) (ys : List ProgramItem). flat_map (found_in_item text ss) (enumerate_from 0 ys)) outlines_are items_are
      ∙ checked_shift s is.lines.lines.some_before old order fits text each_inside (outlines_in old) 0 xs items_stay

  walks_shift : walked_faults text (items_of text) ≡ map (shifted_finding s) (walked_faults old xs)
  unfolding tables_in
  walks_shift = ap walked_in tables_are ∙ walked_shift s (moved_line t) (tables_of old xs)

  found_shifts : found text ≡ map (shifted_finding s) (found old)
  unfolding found
  found_shifts =
      ap₂ (λ (l m : List Finding). l ++ m ++ checked_faults text (items_of text) ++ walked_faults text (items_of text)) (ap (faults_of text) items_are ∙ faults_shift (item_tokens old) alike) linked_shift
      ∙ ap₂ (λ (l m : List Finding). map (shifted_finding s) (faults_of old xs) ++ map (shifted_finding s) (linked_faults old xs) ++ l ++ m) checks_shift walks_shift
      ∙ four_shift (shifted_finding s) (faults_of old xs) (linked_faults old xs) (checked_faults old xs) (walked_faults old xs)

  warnings_stay : shows_warnings text (items_of text) ≡ shows_warnings old xs
  warnings_stay =
      ap (last_or true)
      (ap₂ (λ (ss : List Outline) (ys : List ProgramItem). filter_map (setting_of_item text ss) (enumerate_from 0 ys)) outlines_are items_are
      ∙ settings_stay s is.lines.lines.some_before old order fits text each_inside (outlines_in old) 0 xs items_stay)

  shown_by : (b : Bool) (l : List Finding) → (if b then map (shifted_finding s) l else filter (λ (x : Finding). is_error x.code) (map (shifted_finding s) l))
      ≡ map (shifted_finding s) (if b then l else filter (λ (x : Finding). is_error x.code) l)
  shown_by true l = refl
  shown_by false l = errors_shift s l

  shown_shifts : shown text ≡ map (shifted_finding s) (shown old)
  unfolding shown
  shown_shifts =
      ap₂ (λ (b : Bool) (l : List Finding). if b then l else filter (λ (x : Finding). is_error x.code) l) warnings_stay found_shifts ∙ shown_by (shows_warnings old xs) (found old)

  diagnostics_shift : diagnostics_of text ≡ map (shifted_diagnostic t) (diagnostics_of old)
  unfolding diagnostics_of
  diagnostics_shift =
      ap (λ (l : List Finding). map (diagnostic text) (in_order l)) shown_shifts ∙ told_shift old s order is.lines.lines.edit.new_order fits text t.until line_of (shown old) is.found

  -- no item is to be checked
  sees : (ss : List Outline) (i : ℕ) (y : Summary) → same_view ss i ss i y ≡ true
  sees ss i y = (views ss i ss i y).1 refl

  not_stirred : (e : ℕ × Entry) (before : ℕ) → is_stirred old text before [] e ≡ false
  not_stirred (i, e) before =
      ap₂ (λ (n : ℕ) (ss : List Outline). is_some (sound_tree e.parsed) && (false || not (same_view (outlines_in old) n ss i e.summary)))
      (ap (λ (n : ℕ). old_number before (length (item_ends old)) n i) (ap length is.tokens.items) ∙ same_number before (length (item_ends old)) i) outlines_are
      ∙ ap (λ (v : Bool). is_some (sound_tree e.parsed) && (false || not v)) (sees (outlines_in old) i e.summary)
      ∙ none (is_some (sound_tree e.parsed))
    where
      none : (v : Bool) → v && false ≡ false
      none true = refl
      none false = refl

  all_not : (before : ℕ) (es : List (ℕ × Entry)) → AllByRecursion (λ e. is_stirred old text before [] e ≡ false) es
  all_not before [] = tt
  all_not before (e ∷ es) = (not_stirred e before, all_not before es)

  none_stirs : stirred_of edit ≡ 0
  unfolding stirred_of
  none_stirs =
      let before : ℕ = ends_below (token_edit_of edit).start (item_ends old) in
      ap (λ (fresh : List ℕ). count_by (is_stirred old text before fresh) (enumerate_from 0 (entries_of text))) is.tokens.none_fresh
      ∙ no_counted (is_stirred old text before []) (enumerate_from 0 (entries_of text)) (all_not before (enumerate_from 0 (entries_of text)))

  pub all_shifts : IsShifted edit t
  all_shifts = record {
    entries = ap (map entry_by) spelled_are;
    links = links_are;
    warns = warnings_stay;
    checks = ap₂ (λ (ss : List Outline) (ms : List (List (Class × List ℕ))). checks_from ss 0 ms) outlines_are spelled_are;
    found = diagnostics_shift;
    tables = tables_are;
    none_stirred = none_stirs;
  }
