-- What is made of an edit inside one item, after which the others see what they saw.
use Rattle.std.specs.Prelude.{◌≡◌, ℕ, ◌+◌, ◌≤◌, ◌⊎◌, Bool, true, false, List, [], ◌++◌, length, map, take, slice_get, Option, Some, None, is_some}
use Rattle.snl_cut.specs.Cut.{last_end}
use Rattle.snl_lex.specs.declared.piece.Piece.{Piece}
use Rattle.snl_lex.specs.declared.line_shift.LineShift.{LineShift}
use Rattle.snl_lex.specs.declared.shift.Shift.{Shift}
use Rattle.snl_lex.specs.LineShift.{moved_line}
use Rattle.snl_items.specs.Items.{item_ends}
use Rattle.snl_grammar.specs.Outcome.{sound_tree}
use Rattle.snl_scope.specs.Linked.{faults_of}
use Rattle.snl_scope.specs.Order.{state_name}
use Rattle.snl_scope.specs.Places.{enclosing_set}
use Rattle.snl_summary.specs.Summaries.Tokens.{token_bytes}
use Rattle.snl_summary.specs.declared.summary.ItemKind.{ItemKind}
use Rattle.snl_summary.specs.declared.summary.Outline.{Outline}
use Rattle.snl_tables.specs.declared.rows.Tables.{Tables}
use Rattle.snl_tables.specs.Moved.{moved_tables}
use Rattle.snl_item_check.specs.declared.findings.Checked.{Checked}
use Rattle.snl_item_check.specs.Told.{used_by, wakes_of}
use Rattle.snl_kept.specs.declared.entries.Entry.{Entry}
use Rattle.snl_kept.specs.declared.found.findings.Diagnostic.{Diagnostic}
use Rattle.snl_kept.specs.declared.found.findings.Finding.{Finding}
use Rattle.snl_kept.specs.declared.ways.one_item.item_plan.OwnPlan.{OwnPlan}
use Rattle.snl_kept.specs.declared.ways.one_item.own_parts.OwnParts.{OwnParts}
use Rattle.snl_kept.specs.declared.ways.one_item.replaced.OldItem.{OldItem}
use Rattle.snl_kept.specs.declared.ways.one_item.replaced.OwnTokens.{OwnTokens}
use Rattle.snl_kept.specs.declared.plan.Changes.{Changes}
use Rattle.snl_kept.specs.declared.plan.NewLinks.{NewLinks}
use Rattle.snl_kept.specs.declared.plan.RowChange.{RowChange}
use Rattle.snl_kept.specs.declared.ways.one_item.touched_rows.TouchedRows.{TouchedRows}
use Rattle.snl_kept.specs.declared.ways.one_item.touched_rows.TouchedRows.TheVariants as touched
use Rattle.snl_kept.specs.Checks.{checks_of, links_in, outlines_in}
use Rattle.snl_kept.specs.Diagnostics.{diagnostic, diagnostics_of, shown, shown_if}
use Rattle.snl_lex.specs.Edit.{Edit}
use Rattle.snl_kept.specs.Entries.{entries_of}
use Rattle.snl_kept.specs.ReplacedItem.{SparesInside, TakesPlace, own_findings, own_shown, own_tokens}
use Rattle.snl_kept.specs.Order.{in_order}
use Rattle.snl_kept.specs.OwnFindings.{found_around}
use Rattle.snl_kept.specs.OwnRows.{come_of, gone_of, with_row}
use Rattle.snl_kept.specs.Program.{ProgramItem, items_of, program_item}
use Rattle.snl_kept.specs.NewChecks.{AreChecksMade}
use Rattle.snl_kept.specs.NewLinks.{AreLinks}
use Rattle.snl_kept.specs.Shifted.{finding_of}
use Rattle.snl_kept.specs.Stirred.{stirred_of}
use Rattle.snl_kept.specs.Tables.{tables_in}
use Rattle.snl_kept.specs.Warnings.{warns_in}

-- What the items say to each other, as it is kept.
abbrev pub outlines_kept : List Entry → List Outline
outlines_kept entries = map (λ e. e.summary.outline) entries

-- An edit makes one item in the place of one, which begins where that one did.
pub record IsOneItem (old : List ℕ) (c : Changes) : Type 0 where
  pub one_made : length c.items.made.items ≡ 1
  pub one_gone : c.items.kept_front + 1 + c.items.kept_back ≡ length (item_ends old)
  pub head : last_end 0 (take c.items.kept_front (item_ends old)) ≤ c.tokens.edit.start

-- What the conditions of an item say, use by use, as its check told it.
abbrev pub wakes_told : (ℕ → List ℕ) → Option Checked → List (List ℕ × Option ℕ)
wakes_told bytes None = []
wakes_told bytes (Some c) = map (used_by bytes) c.wake_uses

-- It is of the same kind, leads to states of the same names, and says in its conditions what that
-- one said, of which this is the check.
pub record AreAlike (old text : List ℕ) (was is : List Piece) (x e : Entry) (check : Option Checked) : Type 0 where
  pub kind : e.summary.kind ≡ x.summary.kind
  pub targets : map (λ m. m.name) e.summary.targets ≡ map (λ m. m.name) x.summary.targets
  pub wakes : wakes_of text (record { tokens = is; tree = sound_tree e.parsed }) ≡ wakes_told (token_bytes old was) check

-- The item with a number.
abbrev pub own_item : List ℕ → ℕ → ProgramItem
own_item text i = program_item text (own_tokens text i)

-- The items of a text by their kinds, as they are kept.
abbrev pub kinds_kept : List Entry → List ItemKind
kinds_kept entries = map (λ e. e.summary.kind) entries

-- What a text says after an edit inside item i: what it said, shifted, but for what is found at the
-- item itself, this change of the rows, and what is found in the states by that.
pub record IsAfterInside (old text : List ℕ) (t : LineShift) (i : ℕ) (change : RowChange) : Type 0 where
  pub faults : faults_of (links_in text) ≡ faults_of (links_in old)
  pub warns : warns_in text ≡ warns_in old
  pub found : found_around t.by
      (own_shown old (items_of old) i (own_item old i) ++ shown_if (warns_in old) (gone_of (tables_in old) change))
      (own_shown text (items_of text) i (own_item text i) ++ shown_if (warns_in text) (come_of t.by (tables_in old) change))
      (map finding_of (diagnostics_of old))
      ≡ in_order (shown text)
  pub tables : tables_in text ≡ with_row (moved_tables t.by (moved_line t) (tables_in old)) change

-- What is made of the item, besides what is kept of it and the links: its check, the diagnostics of
-- the new text, and the rows.
pub record AreOwnParts (edit : Edit) (c : Changes) (p : OwnParts) : Type 0 where
  pub warns : warns_in edit.text ≡ warns_in edit.old
  pub checks : AreChecksMade edit.old edit.text c.items.kept_front p.checks.vacant.items c.items.kept_back p.checks.made.items
  pub stirred : stirred_of edit ≡ length p.checks.made.items
  pub diagnostics : p.diagnostics.items ≡ diagnostics_of edit.text
  pub tables : tables_in edit.text ≡ with_row (moved_tables p.shift.by (moved_line p.shift) (tables_in edit.old)) p.change

-- The same with what becomes of the links.
pub record IsOwnPlan (edit : Edit) (c : Changes) (links : NewLinks) (p : OwnParts) : Type 0 where
  pub are_links : AreLinks edit.old edit.text links
  pub parts : AreOwnParts edit c p

-- How many checks such a plan makes; none, where there is no plan.
abbrev pub checks_made : Option OwnPlan → ℕ
checks_made None = 0
checks_made (Some p) = length p.parts.checks.made.items

-- The item that an edit replaces, by its number.
pub record IsWas (old : List ℕ) (item : ℕ) (w : OldItem) : Type 0 where
  pub entry : slice_get (entries_of old) item ≡ Some w.entry.now
  pub check : slice_get (checks_of old) item ≡ Some w.check.now

-- The item in its place says to the others what that one said; what rows tell of it, and what the
-- links find in it, is among its first `head` tokens.
pub record SaysWhatItSaid (old : List ℕ) (head item : ℕ) (w : OldItem) (e : Entry) : Type 0 where
  pub outline : e.summary.outline ≡ w.entry.now.summary.outline
  pub place : TakesPlace head w.entry.now e
  pub spared : SparesInside head item (faults_of (links_in old))

-- A state with a name, in this set.
pub record IsNamedIn (old : List ℕ) (item : ℕ) (w : OldItem) (set : ℕ) : Type 0 where
  pub named : is_some (state_name w.entry.now.summary.outline) ≡ true
  pub placed : enclosing_set (outlines_in old) item ≡ Some set

-- An item that is no state with a name, in this set.
pub record IsUnnamedIn (old : List ℕ) (item : ℕ) (w : OldItem) (set : ℕ) : Type 0 where
  pub unnamed : is_some (state_name w.entry.now.summary.outline) ≡ false
  pub placed : enclosing_set (outlines_in old) item ≡ Some set

-- An item that is no state with a name, in the place of one of its kind.
pub record IsUnnamedAlike (w : OldItem) (e : Entry) : Type 0 where
  pub unnamed : is_some (state_name w.entry.now.summary.outline) ≡ false
  pub kind : e.summary.kind ≡ w.entry.now.summary.kind

-- A state with a name, in this set, leads where the one before it led, and says in its conditions
-- what that one said.
pub record IsStateAlike (old text : List ℕ) (item : ℕ) (own : OwnTokens) (w : OldItem) (e : Entry) (set : ℕ) : Type 0 where
  pub state : IsNamedIn old item w set
  pub alike : AreAlike old text own.was.items own.is.items w.entry.now e w.check.now

-- The item changes no more than these rows.
abbrev pub FitsRows : (old text : List ℕ) (item : ℕ) → OwnTokens → OldItem → Entry → TouchedRows → Type 0
FitsRows old text item own w e touched.Nothing = (enclosing_set (outlines_in old) item ≡ None) ⊎ IsUnnamedAlike w e
FitsRows old text item own w e (touched.Body set) = IsStateAlike old text item own w e set
FitsRows old text item own w e (touched.State set) = IsNamedIn old item w set
FitsRows old text item own w e (touched.Marks set) = IsUnnamedIn old item w set

-- These are the tokens of an item before and after an edit.
pub record AreOwnTokens (old text : List ℕ) (item : ℕ) (own : OwnTokens) : Type 0 where
  pub was : own.was.items ≡ own_tokens old item
  pub is : own.is.items ≡ own_tokens text item

-- What was shown of the item, and of the states that get other marks, by the tables before the
-- edit.
abbrev pub gone_by : (old : List ℕ) → List Outline → Bool → ℕ → List Piece → Tables → RowChange → List Finding
gone_by old ss warns item own tables change = shown_if warns (own_findings old ss item (program_item old own)) ++ shown_if warns (gone_of tables change)

-- What is shown of them after it.
abbrev pub come_by : (text : List ℕ) → List Outline → Bool → Shift → ℕ → List Piece → Tables → RowChange → List Finding
come_by text ss warns s item own tables change = shown_if warns (own_findings text ss item (program_item text own)) ++ shown_if warns (come_of s tables change)

-- The diagnostics of the new text, where the items said this to each other and say that: what is
-- gone is taken out, what has come is put in, the others are shifted.
abbrev pub diagnostics_by : (old text : List ℕ) → (ss ts : List Outline) → Bool → Shift → ℕ → OwnTokens → Tables → RowChange → List Finding → List Diagnostic
diagnostics_by old text ss ts warns s item own tables change found =
    map (diagnostic text) (found_around s (gone_by old ss warns item own.was.items tables change) (come_by text ts warns s item own.is.items tables change) found)
