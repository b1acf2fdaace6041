-- What the code has collected of a text, as what it is in the text.
use Rattle.std.specs.Prelude.{◌≡◌, ℕ, List, map, length, option_copied}
use Rattle.snl_lex.specs.LineList.{IsLineList}
use Rattle.snl_scope.specs.declared.facts.ClauseLink.{ClauseLink}
use Rattle.snl_summary.specs.declared.summary.Outline.{Outline}
use Rattle.snl_check.specs.declared.rows.channels.AssignedChannel.{AssignedChannel}
use Rattle.snl_check.specs.declared.rows.item_clauses.PlacedClause.{PlacedClause}
use Rattle.snl_check.specs.declared.rows.item_clauses.ResolvedClause.{ResolvedClause}
use Rattle.snl_check.specs.declared.rows.row_source.RowSource.{RowSource}
use Rattle.snl_check.specs.declared.rows.state_source.StateSource.{StateSource}
use Rattle.snl_check.specs.declared.rows.text_items.TextItems.{TextItems}
use Rattle.snl_summary.specs.Summaries.{kind_of}
use Rattle.snl_check.specs.Channels as channels
use Rattle.snl_check.specs.Clauses.{ItemClause, resolved_clauses}
use Rattle.snl_item_check.specs.Items.{IsCutUp, ProgramItem, program_items, outlines_of}
use Rattle.snl_check.specs.Numbered.{Numbered}
use Rattle.snl_item_check.specs.Told.{told_in_item, told_seen}

abbrev pub items_in : TextItems → List ProgramItem
items_in p = program_items p.tokens.now p.ends.now (map option_copied p.trees.now)

-- The items are the tokens between the ends, with the trees, and these are what they are.
pub record AreTextItems (p : TextItems) : Type 0 where
  pub cut : IsCutUp p.text.now p.tokens.now p.ends.now (length p.trees.now)
  pub kinds : p.kinds.now ≡ map kind_of (map option_copied p.trees.now)

-- What a definition gives over the text, its items and their outlines that rows are made from.
abbrev pub over : {A : Type 0} → RowSource → (List ℕ → List ProgramItem → List Outline → A) → A
over r f = f r.program.text.now (items_in r.program) r.links.now.outlines

abbrev pub placed : PlacedClause → ItemClause
placed p = record { item = p.item; clause = p.clause.now }

abbrev pub resolved : ResolvedClause → ItemClause × ClauseLink
resolved t = (record { item = t.item; clause = t.clause.now }, t.link.now)

-- The clauses are those of the program's items, with what links say of each.
pub record IsRowSource (l : RowSource) : Type 0 where
  pub program : AreTextItems l.program
  pub clauses : map resolved l.clauses.now ≡ resolved_clauses (items_in l.program) l.links.now.outlines

-- The links are those of the items.
pub record IsLinked (l : RowSource) : Type 0 where
  pub row_source : IsRowSource l
  pub outlines : l.links.now.outlines ≡ outlines_of l.program.text.now (items_in l.program)

abbrev pub assigned : AssignedChannel → channels.AssignedChannel
assigned c = record { item = c.item; token = c.token; variable = c.variable; element = c.element; strings = c.strings.now }

-- What the rows of states are made from.
pub record IsStateSource (s : StateSource) : Type 0 where
  pub linked : IsLinked s.row_source
  pub lines : IsLineList s.row_source.program.text.now s.lines.now
  pub checked : map told_seen s.checked.now ≡ map (told_in_item s.row_source.program.text.now) (items_in s.row_source.program)
  pub numbered : Numbered s.numbers.now (over s.row_source channels.assigned_channels)
