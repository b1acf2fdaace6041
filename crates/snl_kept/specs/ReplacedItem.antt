-- What a text says after an edit inside one item, after which the others see what they saw.
use Rattle.std.specs.Prelude.{◌≡◌, ◌≢◌, ℕ, ◌+◌, ◌-◌, ◌<◌, ◌≤◌, ◌⊎◌, All, true, List, [], ◌∷◌, ◌++◌, length, map, take, drop, slice_get, Option, Some, option_map}
use Rattle.std.specs.List.{AllByRecursion, cons_option}
use Rattle.snl_cut.specs.Cut.{IsEdit, last_end}
use Rattle.snl_lex.specs.declared.piece.Piece.{Piece}
use Rattle.snl_lex.specs.declared.line_shift.LineShift.{LineShift}
use Rattle.snl_lex.specs.declared.shift.Shift.{Shift}
use Rattle.snl_lex.specs.PieceList.{spelled}
use Rattle.snl_lex.specs.Edit.{Edit}
use Rattle.snl_lex.specs.Pieces.{LiesIn, piece_end, tokens_of}
use Rattle.snl_lex.specs.LineShift.{IsLineShift, moved_line}
use Rattle.snl_lex.specs.Shift.{shifted_piece}
use Rattle.snl_items.specs.Changes.{IsShiftOf}
use Rattle.snl_items.specs.Items.{item_ends}
use Rattle.snl_scope.specs.declared.facts.LinkFault.{LinkFault}
use Rattle.snl_summary.specs.declared.summary.Outline.{Outline}
use Rattle.snl_scope.specs.Clauses.{is_event_flag}
use Rattle.snl_scope.specs.Names.{has_own_scope}
use Rattle.snl_scope.specs.Places.{enclosing_set}
use Rattle.snl_scope.specs.View.{view}
use Rattle.snl_item_check.specs.declared.findings.Checked.{Checked}
use Rattle.snl_item_check.specs.Items.{outline_of_item}
use Rattle.snl_moved.specs.Shifted.{shifted_item, shifted_tokens}
use Rattle.snl_moved.specs.Moved.{ReplacesOne}
use Rattle.snl_moved.specs.ShiftedAround.{is_plain}
use Rattle.snl_check.specs.Tables.{tables_by, tables_of}
use Rattle.snl_kept.specs.declared.entries.Entry.{Entry}
use Rattle.snl_kept.specs.declared.found.findings.Finding.{Finding}
use Rattle.snl_kept.specs.declared.plan.Changes.{Changes}
use Rattle.snl_kept.specs.Checked.{found_in_item}
use Rattle.snl_kept.specs.Checks.{check_by, check_of_item, links_in, outlines_in}
use Rattle.snl_kept.specs.Diagnostics.{shown_of}
use Rattle.snl_kept.specs.Entries.{entries_of, entry_by}
use Rattle.snl_kept.specs.Faults.{fault_in}
use Rattle.snl_kept.specs.Planned.{AreEntriesMade, IsChanged}
use Rattle.snl_kept.specs.Parts.{tokens_between}
use Rattle.snl_kept.specs.Program.{ProgramItem, items_of, program_item}
use Rattle.snl_kept.specs.NewChecks.{AreChecksMade, made_at, nones}
use Rattle.snl_kept.specs.Shifted.{ShiftsLines}
use Rattle.snl_kept.specs.Stirred.{stirred_of}

-- The edit leaves a token of the old text: it is before the edit or after it.
abbrev pub IsLeft : List ℕ → Shift → Piece → Type 0
IsLeft old s p = ((piece_end p ≤ s.start) ⊎ (s.old_stop ≤ p.start)) × LiesIn old p

-- An item is spelled as it was, and the edit leaves its tokens.
pub record StaysItem (old text : List ℕ) (s : Shift) (x : ProgramItem) : Type 0 where
  pub spelled_same : spelled text (shifted_tokens s x.tokens) ≡ spelled old x.tokens
  pub left : AllByRecursion (IsLeft old s) x.tokens

-- The items of a text before and after an edit inside one of them, which is between `front` and
-- `back`: the others are shifted, and so are the first `head` tokens of that one.
pub record ReplacesInside (old text : List ℕ) (s : Shift) (head : ℕ) (front : List ProgramItem) (x y : ProgramItem) (back : List ProgramItem) : Type 0 where
  pub until : ℕ
  pub shift : IsLineShift old text (record { by = s; until = until })
  pub items_were : items_of old ≡ front ++ (x ∷ back)
  pub items_are : items_of text ≡ map (shifted_item s) front ++ (y ∷ map (shifted_item s) back)
  -- each of the others is checked as it was, and is in the state set in which it was
  pub checked : (i : ℕ) (z : ProgramItem) → i ≢ length front → slice_get (items_of text) i ≡ Some z → check_of_item text (outlines_in text) (i, z) ≡ check_of_item text (outlines_in old) (i, z)
  pub places : (i : ℕ) → enclosing_set (outlines_in text) i ≡ enclosing_set (outlines_in old) i
  pub front_stays : AllByRecursion (StaysItem old text s) front
  pub back_stays : AllByRecursion (StaysItem old text s) back
  pub stays : (n : ℕ) → n < head → slice_get y.tokens n ≡ option_map (shifted_piece s) (slice_get x.tokens n)
  pub left : (n : ℕ) (p : Piece) → n < head → slice_get x.tokens n ≡ Some p → IsLeft old s p

-- What is found at an item itself: where it is faulty, and by its check.
abbrev pub own_findings : List ℕ → List Outline → ℕ → ProgramItem → List Finding
own_findings text ss i x = cons_option (fault_in text x) (found_in_item text ss (i, x))

-- What of it is shown.
abbrev pub own_shown : List ℕ → List ProgramItem → ℕ → ProgramItem → List Finding
own_shown text xs i x = shown_of text xs (own_findings text (outlines_in text) i x)

-- The links find nothing in an item past its first `head` tokens.
abbrev pub SparesInside : ℕ → ℕ → List LinkFault → Type 0
SparesInside head item faults = All (λ f. f.item ≡ item → f.token < head) faults

-- The number of the first token of the item with a number; the one after that item begins where it
-- ends.
abbrev pub own_start : List ℕ → ℕ → ℕ
own_start text i = last_end 0 (take i (item_ends text))

-- How many tokens of the item in the place of which an edit makes another are before those that the
-- edit replaces.
abbrev pub own_head : List ℕ → Changes → ℕ
own_head old c = c.tokens.edit.start - own_start old c.items.kept_front

-- All event flags that an item declares are among its first `head` tokens, and so is its name, if it
-- has a scope of its own.
abbrev pub FlagsInHead : ℕ → Outline → Type 0
FlagsInHead head o = All (λ d. is_event_flag d.variable.symbol_kind ≡ true → (d.token < head) × (has_own_scope o.role ≡ true → 1 < head)) o.declares

-- A plain item in the place of another, neither with clauses: the event flags that it declares are
-- among its first `head` tokens.
pub record TakesPlace (head : ℕ) (x e : Entry) : Type 0 where
  pub plain : is_plain x.summary.kind ≡ true
  pub plain_now : is_plain e.summary.kind ≡ true
  pub flags : FlagsInHead head x.summary.outline
  pub no_clause : x.summary.outline.clauses ≡ []
  pub no_clause_now : e.summary.outline.clauses ≡ []

-- After an edit each item but the one with a number sees of the others what it saw, all are in the
-- state sets in which they were, and rows are told by what the items said to each other as by what
-- they say.
pub record SeesAlike (old text : List ℕ) (k : ℕ) : Type 0 where
  pub places : (i : ℕ) → enclosing_set (outlines_in text) i ≡ enclosing_set (outlines_in old) i
  pub views : (i : ℕ) (e : Entry) → i ≢ k → slice_get (entries_of old) i ≡ Some e → view (outlines_in old) i e.summary ≡ view (outlines_in text) i e.summary
  pub tables : tables_of text (items_of text) ≡ tables_by text (items_of text) (outlines_in old)

-- What is known, by tests, of an edit inside one item: `x` is what was kept of the item, `e` what
-- is made of it.
pub record IsInside (edit : Edit) (c : Changes) (t : LineShift) (x e : Entry) : Type 0 where
  pub changed : IsChanged edit c
  pub edit_is : IsEdit edit.old edit.text edit.start edit.old_stop edit.new_stop
  pub by : IsShiftOf edit t.by
  pub lines : ShiftsLines edit.old edit.text t
  -- one item is made in the place of one
  pub one_made : length c.items.made.items ≡ 1
  pub one_gone : c.items.kept_front + 1 + c.items.kept_back ≡ length (item_ends edit.old)
  pub head : last_end 0 (take c.items.kept_front (item_ends edit.old)) ≤ c.tokens.edit.start
  pub was : slice_get (entries_of edit.old) c.items.kept_front ≡ Some x
  pub made : AreEntriesMade edit.old edit.text c.items.kept_front (e ∷ []) c.items.kept_back
  pub place : TakesPlace (own_head edit.old c) x e
  pub seen : SeesAlike edit.old edit.text c.items.kept_front

-- The tokens of the item with a number.
abbrev pub own_tokens : List ℕ → ℕ → List Piece
own_tokens text i = tokens_between (tokens_of text) (own_start text i) (own_start text (i + 1))

-- The check of the item that is made, if it is sound.
abbrev pub own_check : List ℕ → ℕ → Option Checked
own_check text i = check_by (outlines_in text) i (spelled text (own_tokens text i))

-- What such an edit does: one item is replaced, and no other is to be checked.
pub record IsOneReplaced (edit : Edit) (c : Changes) (t : LineShift) (x e : Entry) : Type 0 where
  pub front : List ProgramItem
  pub back : List ProgramItem
  pub number : length front ≡ c.items.kept_front
  pub inside : ReplacesInside edit.old edit.text t.by (own_head edit.old c) front (program_item edit.old (own_tokens edit.old c.items.kept_front)) (program_item edit.text (own_tokens edit.text c.items.kept_front)) back
  pub one : ReplacesOne edit.old edit.text t.by (moved_line t) (items_of edit.old) (items_of edit.text) c.items.kept_front
  -- the edit of the tokens is among its own
  pub first : own_start edit.old c.items.kept_front ≤ c.tokens.edit.start
  pub stop : c.tokens.edit.old_stop ≤ own_start edit.old (c.items.kept_front + 1)
  pub within : own_start edit.old (c.items.kept_front + 1) ≤ length (tokens_of edit.old)
  pub own_now : own_tokens edit.text c.items.kept_front
      ≡ tokens_between (tokens_of edit.text) (own_start edit.old c.items.kept_front) ((own_start edit.old (c.items.kept_front + 1) - c.tokens.edit.old_stop) + c.tokens.edit.new_stop)
  pub outline_was : outline_of_item edit.old (program_item edit.old (own_tokens edit.old c.items.kept_front)) ≡ x.summary.outline
  -- its kind may be another
  pub kinds : (links_in edit.text).kinds ≡ take c.items.kept_front (links_in edit.old).kinds ++ (e.summary.kind ∷ drop (c.items.kept_front + 1) (links_in edit.old).kinds)
  pub was_spelled : x ≡ entry_by (spelled edit.old (own_tokens edit.old c.items.kept_front))
  pub spelled_so : e ≡ entry_by (spelled edit.text (own_tokens edit.text c.items.kept_front))
  pub checks : AreChecksMade edit.old edit.text c.items.kept_front (nones c.items.made.items) c.items.kept_back (made_at c.items.kept_front (own_check edit.text c.items.kept_front))
  pub stirred : stirred_of edit ≡ length (made_at c.items.kept_front (own_check edit.text c.items.kept_front))
