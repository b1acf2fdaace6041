-- The tables of a text after an edit that keeps all tokens. `line` says what becomes of the line of
-- an offset.
use Rattle.std.proofs.Common.{◌≡◌, ℕ, suc, ◌<◌, ◌&&◌, true, List, [], ◌∷◌, length, map, slice_get, Some, ap, ap₂, ◌∙◌, refl}
use Rattle.std.proofs.lemmas.List.{length-map}
use Rattle.std.proofs.lemmas.Option.{slice_get-map}
use Rattle.std.specs.Option.{option_map}
use Rattle.snl_scope.specs.BelowLaws.{each_passing}
use Rattle.snl_facts.specs.Booleans.{and_first}
use Rattle.snl_lex.specs.declared.lines.Line.{Line}
use Rattle.snl_lex.specs.declared.shift.Shift.{Shift}
use Rattle.snl_scope.specs.declared.facts.Declaration.{Declaration}
use Rattle.snl_summary.specs.declared.summary.Outline.{Outline}
use Rattle.snl_scope.specs.Below.{all_below}
use Rattle.snl_scope.specs.Flags.{flags_of}
use Rattle.snl_scope.specs.Linked.{declaration_at}
use Rattle.snl_scope.specs.Order.{is_named_state}
use Rattle.snl_scope.specs.Places.{is_set_begin, stands_in}
use Rattle.snl_tables.specs.Moved.{moved_set, moved_tables}
use Rattle.snl_tables.specs.Shifted.{shifted_flag}
use Rattle.snl_check.specs.Channels.{assigned_channels}
use Rattle.snl_check.specs.Clauses.{item_clauses_if, resolved_clauses}
use Rattle.snl_item_check.specs.Items.{ProgramItem, outlines_of}
use Rattle.snl_check.specs.Members.{states_in, target_numbers}
use Rattle.snl_moved.specs.Moved.{KeepsItems}
use Rattle.snl_moved.specs.Shifted.{shifted_item}
use Rattle.snl_moved.specs.Spans.{AreRead}
use Rattle.snl_check.specs.States.{set_row, set_rows}
use Rattle.snl_check.specs.Tables.{flag_row_at, tables_by, tables_of}
use Rattle.snl_moved.proofs.ShiftLists.{map_shift}
use Rattle.snl_moved.proofs.ShiftedItems.{IsKept, faulty_stays, header_at_shifts, span_at_shifts, tree_stays}
use Rattle.snl_moved.proofs.ShiftedClauses.{HasBytes, IsChannelKept, IsScopeShifted, flag_shifts, scope_shifts, setting_stays, variable_scope_shifts}
use Rattle.snl_moved.proofs.ShiftedStates.{has_faulty_stays, targets_stay}
use Rattle.snl_moved.proofs.ShiftedTables.{IsRowKept, MarksStay, RestStays, SpellingLaws, item_kept, outline_stays, same_channels, set_line, set_named, set_shifts, state_line, tables_but_sets}
use Rattle.snl_moved.proofs.SpanLaws.{each_all}

module _ (old text : List ℕ) (s : Shift) (line : ℕ → Line → Line) (xs : List ProgramItem) (keeps : KeepsItems old text s line xs) where
  abbrev ys : List ProgramItem
  ys = map (shifted_item s) xs

  at : (i : ℕ) → slice_get ys i ≡ option_map (shifted_item s) (slice_get xs i)
  at i = slice_get-map (shifted_item s) xs i

  kept : (i : ℕ) → IsKept old text s xs ys i
  kept i = item_kept old text s line xs ys i (at i) (keeps i)

  module _ (ss : List Outline) (before : 0 < s.start) where
    rest_stays : RestStays old text s xs ys ss
    rest_stays = record {
      count = length-map xs (shifted_item s);
      headers = λ i. header_at_shifts old text s xs ys i before (kept i);
      settings = λ i l. setting_stays old text s xs ys ss i (kept i);
      flags = each_all (λ number. flag_row_at ys ss number ≡ option_map (shifted_flag s) (flag_row_at xs ss number)) (flags_of ss)
          (λ number. flag_shifts s xs ys ss number (scopes number) (λ d e. span_at_shifts old text s xs ys d.item (kept d.item) before d.token));
      clauses = λ i. ap (item_clauses_if i) (tree_stays old text s xs ys i (kept i));
      bytes = each_all (HasBytes old text xs ys) (resolved_clauses xs ss) (λ p. (kept p.0.item).bytes);
      channels = each_all (IsChannelKept old text s xs ys ss) (assigned_channels old xs ss) (λ c. record { item = kept c.item; scope = variable_scope_shifts s xs ys ss c.variable (scopes c.variable) });
    }
      where
        scopes : (number : ℕ) (d : Declaration) → declaration_at ss number ≡ Some d → IsScopeShifted s xs ys ss d.scope
        scopes number d e = scope_shifts s xs ys ss (λ i. span_at_shifts old text s xs ys i (kept i) before 1) d.scope

    marks_stay : (k : ℕ) → MarksStay old text xs ys ss k
    marks_stay k = record {
      some_faulty = has_faulty_stays old text s xs ys ss k (λ i. ap (λ b. b && stands_in ss k i) (faulty_stays old text s xs ys i (kept i)));
      targets = each_all (λ j. target_numbers text ys ss (states_in ss k) j ≡ target_numbers old xs ss (states_in ss k) j) (states_in ss k)
          (λ j. targets_stay old text s xs ys ss j (kept j) before (states_in ss k));
    }

outlines_stay : SpellingLaws → (old text : List ℕ) (s : Shift) (line : ℕ → Line → Line) (xs : List ProgramItem) → KeepsItems old text s line xs → outlines_of text (map (shifted_item s) xs) ≡ outlines_of old xs
outlines_stay laws old text s line [] keeps = refl
outlines_stay laws old text s line (x ∷ xs) keeps =
    ap₂ (λ (o : Outline) (os : List Outline). o ∷ os) (outline_stays laws old text s line x (keeps 0 x refl)) (outlines_stay laws old text s line xs (λ i. keeps (suc i)))

module _ (laws : SpellingLaws) (old text : List ℕ) (s : Shift) (line : ℕ → Line → Line) (xs : List ProgramItem) (before : 0 < s.start) (read : AreRead old xs) (keeps : KeepsItems old text s line xs) where
  abbrev ss : List Outline
  ss = outlines_of old xs

  abbrev shifted : List ProgramItem
  shifted = map (shifted_item s) xs

  same : assigned_channels text shifted ss ≡ assigned_channels old xs ss
  same = same_channels old text s xs shifted ss before (rest_stays old text s line xs keeps ss before)

  row_kept : (j : ℕ) → is_named_state ss j ≡ true → IsRowKept old text s line xs shifted j
  row_kept j is = record { item = kept old text s line xs keeps j; lined = state_line old text s line xs shifted j (at old text s line xs keeps j) (keeps j) is }

  set_shift : (k : ℕ) → is_set_begin ss k ≡ true → set_row text shifted ss k ≡ moved_set s line (set_row old xs ss k)
  set_shift k is =
      set_shifts old text s xs shifted ss before same k (marks_stay old text s line xs keeps ss before k) line
      (span_at_shifts old text s xs shifted k (kept old text s line xs keeps k) before 1)
      (set_line old text s line xs shifted k (at old text s line xs keeps k) (keeps k) (set_named laws old xs read k is) is)
      (each_passing (IsRowKept old text s line xs shifted) (λ j. is_named_state ss j && stands_in ss k j) (length ss) (λ j is. row_kept j (and_first (is_named_state ss j) (stands_in ss k j) is)))

  sets_shift : set_rows text shifted ss ≡ map (moved_set s line) (set_rows old xs ss)
  sets_shift =
      map_shift (moved_set s line) (set_row old xs ss) (set_row text shifted ss) (all_below (is_set_begin ss) (length ss))
      (each_passing (λ k. set_row text shifted ss k ≡ moved_set s line (set_row old xs ss k)) (is_set_begin ss) (length ss) set_shift)

  pub tables_kept : tables_of text (map (shifted_item s) xs) ≡ moved_tables s line (tables_of old xs)
  tables_kept =
      ap (tables_by text shifted) (outlines_stay laws old text s line xs keeps)
      ∙ tables_but_sets old text s xs shifted ss before (rest_stays old text s line xs keeps ss before) line (map (moved_set s line) (set_rows old xs ss)) sets_shift
