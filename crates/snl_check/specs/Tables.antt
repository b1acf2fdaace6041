-- The rows of the tables of a text, from its bytes and its items.
use Rattle.std.specs.Prelude.{ℕ, List, map, length, slice_get, Option, None, Some, option_and_then, option_map, unwrap_or}
use Rattle.std.specs.List.{filter_map}
use Rattle.std.specs.Option.{option_map_or}
use Rattle.snl_lex.specs.declared.piece.Piece.{Piece}
use Rattle.snl_grammar.specs.declared.tree.clause.Clause.{Clause}
use Rattle.snl_grammar.specs.declared.tree.clause.Clause.TheVariants as clauses
use Rattle.snl_scope.specs.declared.facts.ClauseLink.{ClauseLink}
use Rattle.snl_scope.specs.declared.facts.Declaration.{Declaration}
use Rattle.snl_scope.specs.declared.facts.Scope.{Scope}
use Rattle.snl_scope.specs.declared.facts.Scope.TheVariants as scope
use Rattle.snl_summary.specs.declared.summary.Outline.{Outline}
use Rattle.snl_scope.specs.Channels.{is_monitored, sync_number}
use Rattle.snl_scope.specs.Flags.{flag_number, flags_of}
use Rattle.snl_scope.specs.Linked.{declaration_at}
use Rattle.snl_scope.specs.Names.{entries}
use Rattle.snl_scope.specs.Places.{enclosing_set}
use Rattle.snl_walk.specs.Tokens.{value_at}
use Rattle.snl_tables.specs.declared.rows.ChannelRow.{ChannelRow}
use Rattle.snl_tables.specs.declared.rows.FlagRow.{FlagRow}
use Rattle.snl_tables.specs.declared.rows.Queue.{Queue}
use Rattle.snl_tables.specs.declared.rows.Queue.TheVariants as queue
use Rattle.snl_tables.specs.declared.rows.ScopeName.{ScopeName}
use Rattle.snl_tables.specs.declared.rows.ScopeName.TheVariants as named
use Rattle.snl_tables.specs.declared.rows.Synced.{Synced}
use Rattle.snl_tables.specs.declared.rows.Tables.{Tables}
use Rattle.snl_check.specs.Channels.{AssignedChannel, assigned_channels, joined, variables_before}
use Rattle.snl_check.specs.Clauses.{ItemClause, resolved_clauses}
use Rattle.snl_item_check.specs.Items.{ProgramItem, outlines_of, tokens_in}
use Rattle.snl_check.specs.ItemSpans.{item_name, program_name, span_at}
use Rattle.snl_check.specs.Settings.{program_options}
use Rattle.snl_check.specs.States.{set_rows}

-- A scope by its names.
abbrev pub scope_name : List ProgramItem → List Outline → Scope → ScopeName
scope_name xs ss scope.Program = named.Program
scope_name xs ss (scope.StateSet set) = named.StateSet (item_name xs set)
scope_name xs ss (scope.State state) = named.State (option_map (item_name xs) (enclosing_set ss state)) (item_name xs state)

abbrev pub flag_row : List ProgramItem → List Outline → Declaration → FlagRow
flag_row xs ss d = record { name = span_at xs d.item d.token; scope = scope_name xs ss d.scope }

-- The row of the flag that is the declaration with a number.
abbrev pub flag_row_at : List ProgramItem → List Outline → ℕ → Option FlagRow
flag_row_at xs ss number = option_map (flag_row xs ss) (declaration_at ss number)

-- The event flags in the order of the text.
abbrev pub flag_rows : List ProgramItem → List Outline → List FlagRow
flag_rows xs ss = filter_map (flag_row_at xs ss) (flags_of ss)

-- The scope that declares a variable.
abbrev pub scope_of_variable : List ProgramItem → List Outline → ℕ → ScopeName
scope_of_variable xs ss number = option_map_or (λ d. scope_name xs ss d.scope) (declaration_at ss number) named.Program

-- The queue of a `syncq`: of the length that is written, if one is.
abbrev pub queue_of : List ℕ → List Piece → Option ℕ → Queue
queue_of text tokens None = queue.Default
queue_of text tokens (Some number) = queue.Length (unwrap_or (value_at text tokens number) 0)

-- How a clause syncs what it speaks of: with the number of its flag, and with its queue.
abbrev pub synced_by : List ℕ → List Piece → Option ℕ → Clause → Option Synced
synced_by text tokens flag (clauses.Sync name subscript named_flag) = Some (record { flag = flag; queue = queue.Unqueued })
synced_by text tokens flag (clauses.Syncq capital name subscript named_flag length) = Some (record { flag = flag; queue = queue_of text tokens length })
synced_by text tokens flag _ = None

abbrev pub synced : List ℕ → List ProgramItem → List Outline → ItemClause × ClauseLink → Option Synced
synced text xs ss (c, link) = synced_by text (tokens_in xs c.item) (option_and_then (flag_number ss) link.flag) c.clause

-- How a channel of a variable is synced: by the first sound clause that speaks of it.
abbrev pub sync_of : List ℕ → List ProgramItem → List Outline → ℕ → Option ℕ → Option Synced
sync_of text xs ss variable element = option_and_then (λ number. option_and_then (synced text xs ss) (slice_get (resolved_clauses xs ss) number)) (sync_number ss variable element)

abbrev pub channel_row : List ℕ → List ProgramItem → List Outline → AssignedChannel → ChannelRow
channel_row text xs ss c = record {
  variable = span_at xs c.item c.token;
  element = c.element;
  scope = scope_of_variable xs ss c.variable;
  pv = joined text (tokens_in xs c.item) c.strings;
  is_monitored = is_monitored ss c.variable c.element;
  sync = sync_of text xs ss c.variable c.element;
}

-- The channels in the order of the text.
abbrev pub channel_rows : List ℕ → List ProgramItem → List Outline → List ChannelRow
channel_rows text xs ss = map (channel_row text xs ss) (assigned_channels text xs ss)

-- The channels of each declaration.
abbrev pub variables_of : List ℕ → List ProgramItem → List Outline → List (List ℕ)
variables_of text xs ss = variables_before (assigned_channels text xs ss) (length (entries ss))

abbrev pub tables_by : List ℕ → List ProgramItem → List Outline → Tables
tables_by text xs ss = record {
  program = program_name xs;
  options = program_options text xs ss;
  flags = flag_rows xs ss;
  channels = channel_rows text xs ss;
  variables = variables_of text xs ss;
  sets = set_rows text xs ss;
}

-- The tables of a text that has these items.
abbrev pub tables_of : List ℕ → List ProgramItem → Tables
tables_of text xs = tables_by text xs (outlines_of text xs)
