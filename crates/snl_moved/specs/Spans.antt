-- The spans in the rows of tables: they lie in the text, and each has a byte.
use Rattle.std.specs.Prelude.{◌≡◌, ℕ, ◌+◌, ◌≤◌, List, All, length, Some, IfSome}
use Rattle.std.specs.List.{AllByRecursion}
use Rattle.snl_grammar.specs.declared.tree.item.Item.{Item}
use Rattle.snl_grammar.specs.Parsing.{kinds_in}
use Rattle.snl_grammar.specs.Reading.Items.{item_of}
use Rattle.snl_tables.specs.declared.rows.ChannelRow.{ChannelRow}
use Rattle.snl_tables.specs.declared.rows.Destination.{Destination}
use Rattle.snl_tables.specs.declared.rows.Destination.TheVariants as destinations
use Rattle.snl_tables.specs.declared.rows.FlagRow.{FlagRow}
use Rattle.snl_tables.specs.declared.rows.NamedState.{NamedState}
use Rattle.snl_tables.specs.declared.rows.ScopeName.{ScopeName}
use Rattle.snl_tables.specs.declared.rows.ScopeName.TheVariants as named
use Rattle.snl_tables.specs.declared.rows.SetRow.{SetRow}
use Rattle.snl_tables.specs.declared.rows.Span.{Span}
use Rattle.snl_tables.specs.declared.rows.StateRow.{StateRow}
use Rattle.snl_tables.specs.declared.rows.Tables.{Tables}
use Rattle.snl_item_check.specs.Items.{ProgramItem, tokens_in, tree_in}

-- What holds of each span in a row.
abbrev pub InScope : (Span → Type 0) → ScopeName → Type 0
InScope P named.Program = Unit {0}
InScope P (named.StateSet set) = P set
InScope P (named.State set state) = IfSome set P × P state

abbrev pub InFlag : (Span → Type 0) → FlagRow → Type 0
InFlag P row = P row.name × InScope P row.scope

abbrev pub InChannel : (Span → Type 0) → ChannelRow → Type 0
InChannel P row = P row.variable × InScope P row.scope

abbrev pub InDestination : (Span → Type 0) → Destination → Type 0
InDestination P (destinations.State named) = P named.name
InDestination P destinations.Exit = Unit {0}

abbrev pub InNamed : (Span → Type 0) → NamedState → Type 0
InNamed P named = P named.name

pub record InState (P : Span → Type 0) (row : StateRow) : Type 0 where
  pub name : P row.name
  pub transitions : AllByRecursion (InDestination P) row.transitions
  pub gotos : AllByRecursion (InNamed P) row.gotos

pub record InSet (P : Span → Type 0) (row : SetRow) : Type 0 where
  pub name : P row.name
  pub states : AllByRecursion (InState P) row.states

pub record InTables (P : Span → Type 0) (t : Tables) : Type 0 where
  pub program : IfSome t.program P
  pub flags : AllByRecursion (InFlag P) t.flags
  pub channels : AllByRecursion (InChannel P) t.channels
  pub sets : AllByRecursion (InSet P) t.sets

-- The span lies in the text.
abbrev pub SpanLiesIn : List ℕ → Span → Type 0
SpanLiesIn text s = s.start + s.len ≤ length text

-- It has a byte.
abbrev pub HasByte : Span → Type 0
HasByte s = 1 ≤ s.len

abbrev pub TablesLieIn : List ℕ → Tables → Type 0
TablesLieIn text t = InTables (SpanLiesIn text) t

abbrev pub TablesHaveBytes : Tables → Type 0
TablesHaveBytes t = InTables HasByte t

-- The tokens of each item have a byte, and a tree is the one that is read of its item's tokens.
pub record AreRead (text : List ℕ) (xs : List ProgramItem) : Type 0 where
  pub bytes : (item : ℕ) → All (λ p. 1 ≤ p.len) (tokens_in xs item)
  pub trees : (item : ℕ) (t : Item) → tree_in xs item ≡ Some t → item_of (kinds_in text (tokens_in xs item)) ≡ Some t
