-- What a text says after an edit inside one item, after which the others see what they saw.
use Rattle.std.proofs.Common.{◌≡◌, ◌≢◌, ◌↔◌, ℕ, zero, suc, ◌+◌, ◌<◌, ◌≤◌, inl, inr, All, true, IsTrue, List, [], ◌∷◌, ◌++◌, length, map, take, drop, get_or, slice_get, Option, None, Some, option_map, refl, sym, ap, ap₂, ◌∙◌, subst, append_assoc, arith, length-append}
use Rattle.std.specs.List.{AllByRecursion, slice_set}
use Rattle.std.proofs.lemmas.List.{drop_at, length-map, map-append, take_at}
use Rattle.std.proofs.lemmas.List.Elements.{All-drop, All-filter, All-take, recursion_from_All}
use Rattle.snl_cut.specs.Cut.{Rises, ends_below, last_end}
use Rattle.snl_lex.specs.declared.line_shift.LineShift.{LineShift}
use Rattle.snl_lex.specs.declared.piece.Piece.{Piece}
use Rattle.snl_lex.specs.declared.shift.Shift.{Shift}
use Rattle.snl_lex.specs.Lines.{line_at}
use Rattle.snl_lex.specs.PieceList.{spelled}
use Rattle.snl_lex.specs.Edit.{Edit}
use Rattle.snl_lex.specs.Pieces.{LiesIn, is_token, pieces_of, tokens_of}
use Rattle.snl_lex.specs.LineShift.{IsLineShift, moved_line}
use Rattle.snl_lex.specs.Shift.{IsOutside, shifted_offset, shifted_piece}
use Rattle.snl_grammar.specs.Outcome.{parsed_by, parsed_in, sound_tree}
use Rattle.snl_grammar.specs.declared.tree.item.Item.{Item}
use Rattle.snl_items.specs.Changes.{LeavesAround, made_in}
use Rattle.snl_items.specs.Items.{item_ends, spelled_items}
use Rattle.snl_scope.specs.Names.{has_own_scope}
use Rattle.snl_summary.specs.SpelledTokens.{bytes_by, summary_by}
use Rattle.snl_summary.specs.Summaries.{kind_of, summary_in}
use Rattle.snl_summary.specs.Summaries.Tokens.{token_bytes}
use Rattle.snl_scope.specs.View.{view}
use Rattle.snl_summary.specs.declared.summary.ItemKind.{ItemKind}
use Rattle.snl_summary.specs.declared.summary.Outline.{Outline}
use Rattle.snl_summary.specs.declared.summary.Summary.{Summary}
use Rattle.snl_views.specs.SameView.{same_view}
use Rattle.snl_tables.specs.declared.rows.Span.{Span}
use Rattle.snl_tables.specs.Shifted.{shifted_span}
use Rattle.snl_check.specs.ItemSpans.{span_of}
use Rattle.snl_moved.specs.Moved.{KeepsItem, ReplacesItem, ReplacesOne}
use Rattle.snl_moved.specs.Shifted.{shifted_item, shifted_tokens}
use Rattle.snl_moved.specs.ShiftedAround.{IsFlagPlaced, IsPlacedAt, is_plain}
use Rattle.snl_check.specs.Tables.{tables_by, tables_of}
use Rattle.snl_kept.specs.declared.entries.Entry.{Entry}
use Rattle.snl_kept.specs.declared.plan.Changes.{Changes}
use Rattle.snl_kept.specs.declared.plan.NewCheck.{NewCheck}
use Rattle.snl_kept.specs.Checks.{check_by, check_of_item, links_in, outlines_in}
use Rattle.snl_kept.specs.Entries.{entries_of, entry_by}
use Rattle.snl_kept.specs.Linked.{outlines_of}
use Rattle.snl_kept.specs.ReplacedItem.{FlagsInHead, IsInside, IsLeft, IsOneReplaced, ReplacesInside, StaysItem, own_check, own_head, own_tokens}
use Rattle.snl_kept.specs.Program.{ProgramItem, item_tokens, items_of, program_item, tree_in}
use Rattle.snl_kept.specs.NewChecks.{AreChecksMade, kept_of, made_at, made_checks, nones}
use Rattle.snl_kept.specs.Shifted.{IsOnOneSide}
use Rattle.snl_kept.specs.Stirred.{stirred_of}
use Rattle.snl_kept.proofs.MadeChecks.{checks_made, made_are_stirred, stirred_told}
use Rattle.snl_kept.proofs.MemberParts.{element_at, got, got_other, others_mapped, taken_to_last}
use Rattle.snl_kept.proofs.Rechecks.{Spelled}
use Rattle.snl_kept.proofs.ShiftedItems.{all_items, all_kinds}
use Rattle.snl_kept.proofs.ShiftedLines.{IsAfter, IsInFront, KeepsLine, all_after, all_in_front}
use Rattle.snl_kept.proofs.ShiftedText.{along}
use Rattle.snl_kept.proofs.InsideChecks.{one_check}
use Rattle.snl_kept.proofs.InsideTold.{check_is}
use Rattle.snl_kept.proofs.Members.{one_entry_made}
use Rattle.snl_kept.proofs.Replaced.{replaced_other}
use Rattle.snl_kept.proofs.SpelledItems.{spelled_text}
use Rattle.snl_kept.proofs.InsideParts.{IsPastHead, are_parts, back_alike, back_each, entry_is, entry_was, front_alike, front_each, front_olds_count, fronts_count, head_before, head_shifts, own_now, spelled_parts, stops_after, were_parts}
use Rattle.std.proofs.lemmas.Option.{slice_get-map, same_Some}
use Rattle.snl_lex.specs.ShiftLaws.{early_offset}

-- two facts of each
both : {X : Type 0} (P Q R : X → Type 0) → ((x : X) → P x → Q x → R x) → (xs : List X) → AllByRecursion P xs → AllByRecursion Q xs → AllByRecursion R xs
both P Q R f [] h g = tt
both P Q R f (x ∷ xs) h g = (f x h.0 g.0, both P Q R f xs h.1 g.1)

each_taken : {X : Type 0} (P : X → Type 0) (n : ℕ) (xs : List X) → AllByRecursion P xs → AllByRecursion P (take n xs)
each_taken P zero xs h = tt
each_taken P (suc n) [] h = tt
each_taken P (suc n) (x ∷ xs) h = (h.0, each_taken P n xs h.1)

each_dropped : {X : Type 0} (P : X → Type 0) (n : ℕ) (xs : List X) → AllByRecursion P xs → AllByRecursion P (drop n xs)
each_dropped P zero xs h = h
each_dropped P (suc n) [] h = tt
each_dropped P (suc n) (x ∷ xs) h = each_dropped P n xs h.1

-- another element in the place of one
replaced_at : {X : Type 0} (front : List X) (x y : X) (back : List X) (n : ℕ) → length front ≡ n → take n (front ++ (x ∷ back)) ++ (y ∷ drop (n + 1) (front ++ (x ∷ back))) ≡ front ++ (y ∷ back)
replaced_at {X = X} front x y back n many =
    let past : length (front ++ (x ∷ [])) ≡ n + 1 = omega (arith, length-append front (x ∷ []), many) in
    ap₂ (λ (a b : List X). a ++ (y ∷ b)) (take_at front (x ∷ back) n many)
    (ap (drop (n + 1)) (sym (append_assoc front (x ∷ []) back)) ∙ drop_at (front ++ (x ∷ [])) back (n + 1) past)

module _ (edit : Edit) (c : Changes) (t : LineShift) (x e : Entry) (is : IsInside edit c t x e)
    -- what the laws of the layers below say
    (inside : (text : List ℕ) → All (LiesIn text) (pieces_of text))
    (tree_told : (text : List ℕ) (tokens : List Piece) → sound_tree (parsed_in text tokens) ≡ tree_in text tokens)
    (by_spelling : (text : List ℕ) (tokens : List Piece) → parsed_in text tokens ≡ parsed_by (spelled text tokens))
    (summary_told : (text : List ℕ) (tokens : List Piece) (tree : Option Item) → summary_in text tokens tree ≡ summary_by (spelled text tokens) tree)
    (bytes_same : (text moved : List ℕ) (tokens shifted : List Piece) → spelled text tokens ≡ spelled moved shifted → token_bytes text tokens ≡ token_bytes moved shifted)
    (views : (ss : List Outline) (i : ℕ) (ts : List Outline) (j : ℕ) (s : Summary) → IsTrue (same_view ss i ts j s) ↔ (view ss i s ≡ view ts j s))
    (lines : (old text : List ℕ) (t : LineShift) (o : ℕ) → IsLineShift old text t → IsOutside old t.by o → line_at text (shifted_offset t.by o) ≡ moved_line t o (line_at old o))
    (checks_stay : (ss ts : List Outline) (j i : ℕ) (x : Spelled) → same_view ss j ts i (entry_by x).summary ≡ true → check_by ss j x ≡ check_by ts i x)
    (bytes_told : (text : List ℕ) (tokens : List Piece) → token_bytes text tokens ≡ bytes_by (spelled text tokens))
    (rises : (text : List ℕ) → Rises 0 (item_ends text))
    (lasts : (text : List ℕ) → last_end 0 (item_ends text) ≡ length (tokens_of text))
    (around : LeavesAround t.by (tokens_of edit.old) (tokens_of edit.text) (made_in edit c.tokens.edit) c.tokens.edit) where
  abbrev old : List ℕ
  old = edit.old

  abbrev text : List ℕ
  text = edit.text

  abbrev s : Shift
  s = t.by

  abbrev k : ℕ
  k = c.items.kept_front

  past : IsPastHead edit c s
  past = record {
    tokens = is.changed.tokens;
    items = is.changed.items;
    one_made = is.one_made;
    one_gone = is.one_gone;
    around = around;
    head = is.head;
    rises = rises old;
  }

  tokens_lie : All (LiesIn old) (tokens_of old)
  tokens_lie = All-filter is_token (LiesIn old) (pieces_of old) (inside old)

  abbrev before : List Piece
  before = take c.tokens.edit.start (tokens_of old)

  abbrev after : List Piece
  after = drop c.tokens.edit.old_stop (tokens_of old)

  -- ---- the items

  abbrev front_tokens : List (List Piece)
  front_tokens = take k (item_tokens old)

  abbrev back_tokens : List (List Piece)
  back_tokens = drop (suc k) (item_tokens old)

  abbrev was_own : List Piece
  was_own = own_tokens old k

  abbrev is_own : List Piece
  is_own = own_tokens text k

  abbrev front : List ProgramItem
  front = map (program_item old) front_tokens

  abbrev back : List ProgramItem
  back = map (program_item old) back_tokens

  number : length front ≡ k
  number = length-map front_tokens (program_item old) ∙ fronts_count edit c s past

  items_were : items_of old ≡ front ++ (program_item old was_own ∷ back)
  items_were = ap (map (program_item old)) (were_parts edit c s past) ∙ map-append (program_item old) front_tokens (was_own ∷ back_tokens)

  alike_in_front : AllByRecursion (λ m. spelled text (shifted_tokens s m) ≡ spelled old m) front_tokens
  alike_in_front = front_alike edit c s past

  alike_at_back : AllByRecursion (λ m. spelled text (shifted_tokens s m) ≡ spelled old m) back_tokens
  alike_at_back = back_alike edit c s past

  items_are : items_of text ≡ map (shifted_item s) front ++ (program_item text is_own ∷ map (shifted_item s) back)
  items_are =
      ap (map (program_item text)) (are_parts edit c s past)
      ∙ map-append (program_item text) (map (shifted_tokens s) front_tokens) (is_own ∷ map (shifted_tokens s) back_tokens)
      ∙ ap₂ (λ (a b : List ProgramItem). a ++ (program_item text is_own ∷ b)) (all_items old text s tree_told by_spelling summary_told front_tokens alike_in_front)
      (all_items old text s tree_told by_spelling summary_told back_tokens alike_at_back)

  -- ---- the item that is replaced

  was_spelled : x ≡ entry_by (spelled old was_own)
  was_spelled = entry_was edit c s past x is.was

  spelled_so : e ≡ entry_by (spelled text is_own)
  spelled_so = entry_is edit c s past e is.made

  own_summary : (text : List ℕ) (m : List Piece) → summary_in text m (tree_in text m) ≡ (entry_by (spelled text m)).summary
  own_summary text m =
      ap (summary_in text m) (sym (tree_told text m) ∙ ap sound_tree (by_spelling text m)) ∙ summary_told text m (sound_tree (parsed_by (spelled text m)))

  summary_was : summary_in old was_own (tree_in old was_own) ≡ x.summary
  summary_was = own_summary old was_own ∙ ap (λ (y : Entry). y.summary) (sym was_spelled)

  summary_is : summary_in text is_own (tree_in text is_own) ≡ e.summary
  summary_is = own_summary text is_own ∙ ap (λ (y : Entry). y.summary) (sym spelled_so)

  outline_was : (summary_in old was_own (tree_in old was_own)).outline ≡ x.summary.outline
  outline_was = ap (λ (y : Summary). y.outline) summary_was

  outline_is : (summary_in text is_own (tree_in text is_own)).outline ≡ e.summary.outline
  outline_is = ap (λ (y : Summary). y.outline) summary_is

  kind_is : kind_of (tree_in text is_own) ≡ e.summary.kind
  kind_is = ap (λ (y : Summary). y.kind) summary_is

  -- ---- of which kinds they are

  abbrev kinds_of : List ProgramItem → List ItemKind
  kinds_of xs = map (λ (y : ProgramItem). kind_of y.tree) xs

  abbrev kinds_in_front : List ItemKind
  kinds_in_front = kinds_of front

  abbrev kinds_at_back : List ItemKind
  kinds_at_back = kinds_of back

  kinds_were : kinds_of (items_of old) ≡ kinds_in_front ++ (kind_of (tree_in old was_own) ∷ kinds_at_back)
  kinds_were = ap kinds_of items_were ∙ map-append (λ (y : ProgramItem). kind_of y.tree) front (program_item old was_own ∷ back)

  kinds_now : kinds_of (items_of text) ≡ kinds_in_front ++ (e.summary.kind ∷ kinds_at_back)
  kinds_now =
      ap kinds_of items_are
      ∙ map-append (λ (y : ProgramItem). kind_of y.tree) (map (shifted_item s) front) (program_item text is_own ∷ map (shifted_item s) back)
      ∙ ap₂ (λ (a b : List ItemKind). a ++ b) (all_kinds old text s tree_told by_spelling summary_told front)
      (ap₂ (λ (o : ItemKind) (l : List ItemKind). o ∷ l) kind_is (all_kinds old text s tree_told by_spelling summary_told back))

  kinds_are : (links_in text).kinds ≡ take k (links_in old).kinds ++ (e.summary.kind ∷ drop (k + 1) (links_in old).kinds)
  kinds_are =
      kinds_now
      ∙ sym (replaced_at kinds_in_front (kind_of (tree_in old was_own)) e.summary.kind kinds_at_back k (length-map front (λ (y : ProgramItem). kind_of y.tree) ∙ number))
      ∙ ap (λ (ks : List ItemKind). take k ks ++ (e.summary.kind ∷ drop (k + 1) ks)) (sym kinds_were)

  -- ---- the tokens that the edit leaves

  left_before : All (IsLeft old s) before
  left_before = λ n d lt. (inl (around.in_front n d lt), All-take (LiesIn old) c.tokens.edit.start (tokens_of old) tokens_lie n d lt)

  left_after : All (IsLeft old s) after
  left_after = λ n d lt. (inr (around.after n d lt), All-drop (LiesIn old) c.tokens.edit.old_stop (tokens_of old) tokens_lie n d lt)

  abbrev order : s.start ≤ s.old_stop
  order = is.lines.lines.edit.old_order

  line_of : (o : ℕ) → IsOutside old s o → line_at text (shifted_offset s o) ≡ moved_line t o (line_at old o)
  line_of o h = lines old text t o is.lines.lines h

  starts_before : All (IsInFront old text t order line_of) before
  starts_before = λ n d lt.
      let lies = All-take (LiesIn old) c.tokens.edit.start (tokens_of old) tokens_lie n d lt in
      omega (arith, around.in_front n d lt, lies.0)

  starts_after : All (IsAfter old text t order line_of) after
  starts_after = λ n d lt.
      let lies = All-drop (LiesIn old) c.tokens.edit.old_stop (tokens_of old) tokens_lie n d lt in
      (around.after n d lt, omega (arith, lies.1))

  stays_one : (m : List Piece) → spelled text (shifted_tokens s m) ≡ spelled old m → AllByRecursion (IsLeft old s) m → StaysItem old text s (program_item old m)
  stays_one m same left = record { spelled_same = same; left = left }

  front_stays : AllByRecursion (StaysItem old text s) front
  front_stays =
      along old (StaysItem old text s) front_tokens
      (both (λ m. spelled text (shifted_tokens s m) ≡ spelled old m) (AllByRecursion (IsLeft old s)) (λ m. StaysItem old text s (program_item old m)) stays_one front_tokens alike_in_front
      (front_each edit c s past (IsLeft old s) left_before))

  back_stays : AllByRecursion (StaysItem old text s) back
  back_stays =
      along old (StaysItem old text s) back_tokens
      (both (λ m. spelled text (shifted_tokens s m) ≡ spelled old m) (AllByRecursion (IsLeft old s)) (λ m. StaysItem old text s (program_item old m)) stays_one back_tokens alike_at_back
      (back_each edit c s past (IsLeft old s) left_after))

  -- ---- each of the others keeps its bytes and its line

  keeps_one : (m : List Piece) → spelled text (shifted_tokens s m) ≡ spelled old m → KeepsLine old text t order line_of m → KeepsItem old text s (moved_line t) (program_item old m)
  keeps_one m same line = record {
    bytes = λ n. ap (λ (f : ℕ → List ℕ). f n) (bytes_same text old (shifted_tokens s m) m same);
    lined = λ named. line;
  }

  front_keeps : AllByRecursion (KeepsItem old text s (moved_line t)) front
  front_keeps =
      along old (KeepsItem old text s (moved_line t)) front_tokens
      (both (λ m. spelled text (shifted_tokens s m) ≡ spelled old m) (λ m. AllByRecursion (IsInFront old text t order line_of) m × IsOnOneSide t.until m) (λ m. KeepsItem old text s (moved_line t) (program_item old m))
      (λ m same there. keeps_one m same (all_in_front old text t order line_of m there.0 there.1)) front_tokens alike_in_front
      (both (AllByRecursion (IsInFront old text t order line_of)) (IsOnOneSide t.until) (λ m. AllByRecursion (IsInFront old text t order line_of) m × IsOnOneSide t.until m) (λ m in_front side. (in_front, side)) front_tokens
      (front_each edit c s past (IsInFront old text t order line_of) starts_before) (each_taken (IsOnOneSide t.until) k (item_tokens old) is.lines.numbered)))

  back_keeps : AllByRecursion (KeepsItem old text s (moved_line t)) back
  back_keeps =
      along old (KeepsItem old text s (moved_line t)) back_tokens
      (both (λ m. spelled text (shifted_tokens s m) ≡ spelled old m) (λ m. AllByRecursion (IsAfter old text t order line_of) m × IsOnOneSide t.until m) (λ m. KeepsItem old text s (moved_line t) (program_item old m))
      (λ m same there. keeps_one m same (all_after old text t order line_of m there.0 there.1)) back_tokens alike_at_back
      (both (AllByRecursion (IsAfter old text t order line_of)) (IsOnOneSide t.until) (λ m. AllByRecursion (IsAfter old text t order line_of) m × IsOnOneSide t.until m) (λ m after side. (after, side)) back_tokens
      (back_each edit c s past (IsAfter old text t order line_of) starts_after) (each_dropped (IsOnOneSide t.until) (suc k) (item_tokens old) is.lines.numbered)))

  -- ---- the tokens before the edit of the one that is replaced

  abbrev many : ℕ
  many = own_head old c

  head : (n : ℕ) → n < many → slice_get is_own n ≡ option_map (shifted_piece s) (slice_get was_own n)
  head = head_shifts edit c s past

  of_head : (P : Piece → Type 0) → All P before → (n : ℕ) (p : Piece) → n < many → slice_get was_own n ≡ Some p → P p
  of_head P h n p lt there =
      got P before (last_end 0 (take k (item_ends old)) + n) p (recursion_from_All P before h) (head_before edit c s past n p lt there)

  name_at : (o : Option Piece) → span_of (option_map (shifted_piece s) o) ≡ shifted_span s (span_of o)
  name_at None = let at : ℕ → Span = λ n. record { start = n; len = 0 } in ap at (sym (early_offset s 0 is.lines.lines.some_before))
  name_at (Some p) = refl

  placed : (n : ℕ) → n < many → IsPlacedAt s (program_item old was_own) (program_item text is_own) n
  placed n lt = ap span_of (head n lt) ∙ name_at (slice_get was_own n)

  flags_placed : AllByRecursion (IsFlagPlaced s (program_item old was_own) (program_item text is_own) (has_own_scope (summary_in old was_own (tree_in old was_own)).outline.role)) (summary_in old was_own (tree_in old was_own)).outline.declares
  flags_placed =
      recursion_from_All (IsFlagPlaced s (program_item old was_own) (program_item text is_own) (has_own_scope (summary_in old was_own (tree_in old was_own)).outline.role)) (summary_in old was_own (tree_in old was_own)).outline.declares
      (λ n d lt flag.
      let there = subst (FlagsInHead many) (sym outline_was) is.place.flags n d lt flag in
      (placed (get_or (summary_in old was_own (tree_in old was_own)).outline.declares n d).token there.0, λ own. placed 1 (there.1 own)))

  replaces : ReplacesItem old text s (program_item old was_own) (program_item text is_own)
  replaces = record {
    was_plain = ap is_plain (ap (λ (y : Summary). y.kind) summary_was) ∙ is.place.plain;
    is_plain_now = ap is_plain kind_is ∙ is.place.plain_now;
    flags = flags_placed;
    no_clause = ap (λ (o : Outline). o.clauses) outline_was ∙ is.place.no_clause;
    no_clause_now = ap (λ (o : Outline). o.clauses) outline_is ∙ is.place.no_clause_now;
  }

  -- ---- what the others see

  entries_are : entries_of text ≡ slice_set (entries_of old) k e
  entries_are = one_entry_made old text k c.items.kept_back e is.one_gone is.made

  -- another item is spelled as it was, and sees what it saw
  view_stays : (i : ℕ) (y : Spelled) → i ≢ k → slice_get (spelled_items text) i ≡ Some y → view (outlines_in old) i (entry_by y).summary ≡ view (outlines_in text) i (entry_by y).summary
  view_stays i y apart got =
      is.seen.views i (entry_by y) apart
      (sym (replaced_other (entries_of old) k e i apart)
      ∙ ap (λ (l : List Entry). slice_get l i) (sym entries_are)
      ∙ slice_get-map entry_by (spelled_items text) i
      ∙ ap (option_map entry_by) got)

  check_stays : (i : ℕ) (y : Spelled) → i ≢ k → slice_get (spelled_items text) i ≡ Some y → check_by (outlines_in old) i y ≡ check_by (outlines_in text) i y
  check_stays i y apart got =
      checks_stay (outlines_in old) (outlines_in text) i i y ((views (outlines_in old) i (outlines_in text) i (entry_by y).summary).1 (view_stays i y apart got))

  checked : (i : ℕ) (z : ProgramItem) → i ≢ length front → slice_get (items_of text) i ≡ Some z → check_of_item text (outlines_in text) (i, z) ≡ check_of_item text (outlines_in old) (i, z)
  checked i z apart got = by (slice_get (item_tokens text) i) refl (sym (slice_get-map (program_item text) (item_tokens text) i) ∙ got)
    where
      as_spelled : (ss : List Outline) (m : List Piece) → check_by ss i (spelled text m) ≡ check_of_item text ss (i, program_item text m)
      as_spelled ss m = check_is tree_told by_spelling summary_told bytes_told ss i text m

      by : (o : Option (List Piece)) → slice_get (item_tokens text) i ≡ o → option_map (program_item text) o ≡ Some z → check_of_item text (outlines_in text) (i, z) ≡ check_of_item text (outlines_in old) (i, z)
      by None there is_z = absurd cc
      by (Some m) there is_z =
          let spelled_so : slice_get (spelled_items text) i ≡ Some (spelled text m) =
          ap (λ (l : List Spelled). slice_get l i) (sym (spelled_text text)) ∙ slice_get-map (spelled text) (item_tokens text) i ∙ ap (option_map (spelled text)) there in
          let same : check_by (outlines_in old) i (spelled text m) ≡ check_by (outlines_in text) i (spelled text m) = check_stays i (spelled text m) (λ e. apart (e ∙ sym number)) spelled_so in
          subst (λ (z : ProgramItem). check_of_item text (outlines_in text) (i, z) ≡ check_of_item text (outlines_in old) (i, z)) (same_Some (program_item text m) z is_z)
          (sym (as_spelled (outlines_in text) m) ∙ sym same ∙ as_spelled (outlines_in old) m)

  replaces_inside : ReplacesInside old text s many front (program_item old was_own) (program_item text is_own) back
  replaces_inside = record {
    until = t.until;
    shift = is.lines.lines;
    items_were = items_were;
    items_are = items_are;
    checked = checked;
    places = is.seen.places;
    front_stays = front_stays;
    back_stays = back_stays;
    stays = head;
    left = λ n p lt there. of_head (IsLeft old s) left_before n p lt there;
  }

  -- ---- the items as the tables see them

  abbrev px : ProgramItem
  px = program_item old was_own

  abbrev py : ProgramItem
  py = program_item text is_own

  this : {X : Type 0} (P : X → Type 0) (a b : X) (o : Option X) → o ≡ Some a → o ≡ Some b → P a → P b
  this P a b o h g there = let same : a ≡ b = cc in subst P same there

  tables_told : tables_of text (map (shifted_item s) front ++ (py ∷ map (shifted_item s) back)) ≡ tables_by text (map (shifted_item s) front ++ (py ∷ map (shifted_item s) back)) (outlines_of old (front ++ (px ∷ back)))
  tables_told =
      let ys : List ProgramItem = map (shifted_item s) front ++ (py ∷ map (shifted_item s) back) in
      subst (λ (xs : List ProgramItem). tables_of text ys ≡ tables_by text ys (outlines_of old xs)) items_were
      (subst (λ (zs : List ProgramItem). tables_of text zs ≡ tables_by text zs (outlines_in old)) items_are is.seen.tables)

  one_in_parts : ReplacesOne old text s (moved_line t) (front ++ (px ∷ back)) (map (shifted_item s) front ++ (py ∷ map (shifted_item s) back)) k
  one_in_parts =
      let many : length (map (shifted_item s) front) ≡ k = length-map front (shifted_item s) ∙ number in
      record {
        count = omega (
          arith,
          length-append (map (shifted_item s) front) (py ∷ map (shifted_item s) back),
          length-append front (px ∷ back),
          length-map front (shifted_item s),
          length-map back (shifted_item s),
        );
        there = omega (arith, length-append front (px ∷ back), number);
        others = λ i ne. others_mapped (shifted_item s) front px py back i (λ q. ne (q ∙ number));
        kept = λ i z ne there. got_other (KeepsItem old text s (moved_line t)) front px back i z front_keeps back_keeps (λ q. ne (q ∙ number)) there;
        replaced = λ a b was_a is_b.
            this (λ (z : ProgramItem). ReplacesItem old text s z b) px a (slice_get (front ++ (px ∷ back)) k) (element_at front px back k number) was_a
            (this (λ (z : ProgramItem). ReplacesItem old text s px z) py b (slice_get (map (shifted_item s) front ++ (py ∷ map (shifted_item s) back)) k)
            (element_at (map (shifted_item s) front) py (map (shifted_item s) back) k many) is_b replaces);
        tables = tables_told;
      }

  replaces_one : ReplacesOne old text s (moved_line t) (items_of old) (items_of text) k
  replaces_one =
      subst (λ (ys : List ProgramItem). ReplacesOne old text s (moved_line t) (items_of old) ys k) (sym items_are)
      (subst (λ (xs : List ProgramItem). ReplacesOne old text s (moved_line t) xs (map (shifted_item s) front ++ (py ∷ map (shifted_item s) back)) k) (sym items_were) one_in_parts)

  -- ---- the checks

  abbrev made : List ℕ
  made = c.items.made.items

  abbrev count : ℕ
  count = length (item_ends old)

  made_is : made_checks (outlines_in old) (outlines_in text) (kept_of count k made c.items.kept_back) (spelled_items text) ≡ made_at k (own_check text k)
  made_is =
      let all : List Spelled = take k (spelled_items old) ++ (spelled text is_own ∷ drop (suc k) (spelled_items old)) in
      let kept = kept_of count k made c.items.kept_back in
      ap (made_checks (outlines_in old) (outlines_in text) kept) (spelled_parts edit c s past)
      ∙ one_check views (outlines_in old) (outlines_in text) count k made c.items.kept_back is.one_made is.one_gone (take k (spelled_items old)) (spelled text is_own) (drop (suc k) (spelled_items old))
      (subst (λ (l : List Spelled). (i : ℕ) (y : Spelled) → i ≢ k → slice_get l i ≡ Some y → view (outlines_in old) i (entry_by y).summary ≡ view (outlines_in text) i (entry_by y).summary) (spelled_parts edit c s past) view_stays)
      (front_olds_count edit c s past)

  checks_are : AreChecksMade old text k (nones made) c.items.kept_back (made_at k (own_check text k))
  checks_are =
      subst (λ (m : List NewCheck). AreChecksMade old text k (nones made) c.items.kept_back m) made_is
      (checks_made old text c.tokens.edit.old_stop c.tokens.edit.new_stop k (last_end 0 (take k (item_ends old))) made c.items.kept_back (ends_below c.tokens.edit.start (item_ends old))
      is.changed.items.order is.changed.items.ends (rises text) is.changed.items.before is.changed.items.items (checks_stay (outlines_in old) (outlines_in text)))

  stirred_are : stirred_of edit ≡ length (made_at k (own_check text k))
  stirred_are =
      sym (made_are_stirred old text c.tokens.edit.old_stop c.tokens.edit.new_stop k (last_end 0 (take k (item_ends old))) made c.items.kept_back (ends_below c.tokens.edit.start (item_ends old))
      is.changed.items.order is.changed.items.ends (rises text) is.changed.items.before is.changed.items.items (checks_stay (outlines_in old) (outlines_in text))
      ∙ stirred_told edit c.tokens.edit made is.changed.tokens.edit_is is.changed.items.fresh)
      ∙ ap length made_is

  pub one_replaced : IsOneReplaced edit c t x e
  one_replaced = record {
    front = front;
    back = back;
    number = number;
    inside = replaces_inside;
    one = replaces_one;
    first = omega (arith, is.head);
    stop = stops_after edit c s past;
    within = omega (arith, lasts old, taken_to_last 0 (k + 1) (item_ends old) (rises old));
    own_now = own_now edit c s past;
    outline_was = outline_was;
    kinds = kinds_are;
    was_spelled = was_spelled;
    spelled_so = spelled_so;
    checks = checks_are;
    stirred = stirred_are;
  }
