-- The rows of state sets and of their states.
use Rattle.std.specs.Prelude.{ℕ, Bool, false, not, if◌then◌else◌, List, [], ◌∷◌, filter, map, length, slice_get, slice_index_or, Option, Some}
use Rattle.std.specs.List.{enumerate_from, flat_map}
use Rattle.snl_lex.specs.declared.lines.Line.{Line}
use Rattle.snl_lex.specs.declared.piece.Piece.{Piece}
use Rattle.snl_lex.specs.Lines.{line_at}
use Rattle.snl_grammar.specs.declared.tree.item.Item.{Item}
use Rattle.snl_grammar.specs.declared.tree.item.Item.TheVariants as items
use Rattle.snl_grammar.specs.declared.tree.state.StateMember.{StateMember}
use Rattle.snl_grammar.specs.declared.tree.state.StateMember.TheVariants as members
use Rattle.snl_grammar.specs.declared.tree.state.Target.{Target}
use Rattle.snl_grammar.specs.declared.tree.state.Target.TheVariants as target
use Rattle.snl_summary.specs.declared.summary.Outline.{Outline}
use Rattle.snl_scope.specs.Below.{all_below}
use Rattle.snl_scope.specs.Linked.{has_target, is_first_state}
use Rattle.snl_scope.specs.Places.{is_set_begin}
use Rattle.snl_walk.specs.declared.used.TargetUse.{TargetUse}
use Rattle.snl_walk.specs.Tokens.{token_bytes}
use Rattle.snl_tables.specs.declared.rows.Destination.{Destination}
use Rattle.snl_tables.specs.declared.rows.Destination.TheVariants as destinations
use Rattle.snl_tables.specs.declared.rows.NamedState.{NamedState}
use Rattle.snl_tables.specs.declared.rows.SetRow.{SetRow}
use Rattle.snl_tables.specs.declared.rows.StateBody.{StateBody}
use Rattle.snl_tables.specs.declared.rows.StateMark.{StateMark}
use Rattle.snl_tables.specs.declared.rows.StateMark.TheVariants as mark
use Rattle.snl_tables.specs.declared.rows.StateRow.{StateRow}
use Rattle.snl_tables.specs.declared.rows.WakeUp.{WakeUp}
use Rattle.snl_check.specs.declared.reachability.marks.SetMember.{SetMember}
use Rattle.snl_check.specs.Channels.{assigned_channels}
use Rattle.snl_check.specs.Conditions.{uses_in, wake_ups}
use Rattle.snl_item_check.specs.Items.{ProgramItem, tokens_in, tree_in}
use Rattle.snl_check.specs.ItemSpans.{item_name, item_start, span_of}
use Rattle.snl_check.specs.Members.{has_faulty, is_faulty_item, is_first_by_member, states_in, targets_among}
use Rattle.snl_check.specs.Reach.{is_reached}
use Rattle.snl_check.specs.Settings.{state_options}
use Rattle.snl_item_check.specs.Told.{told_in_item}

-- The members of a state. A faulty one has none.
abbrev pub members_in : Option Item → List StateMember
members_in (Some (items.StateBlock name ms)) = ms
members_in _ = []

-- A state that an item names at one of its tokens, with whether the state set of the item has one
-- of the name.
abbrev pub named_state : List ℕ → List Piece → List Outline → ℕ → ℕ → NamedState
named_state text tokens ss item token = record {
  name = span_of (slice_get tokens token);
  is_known = has_target ss item (token_bytes text tokens token);
}

-- Where a transition leads.
abbrev pub destination : List ℕ → List Piece → List Outline → ℕ → Target → Destination
destination text tokens ss item (target.State name) = destinations.State (named_state text tokens ss item name)
destination text tokens ss item target.Exit = destinations.Exit

abbrev pub destinations_in_member : List ℕ → List Piece → List Outline → ℕ → StateMember → List Destination
destinations_in_member text tokens ss item (members.When t) = destination text tokens ss item t.target ∷ []
destinations_in_member text tokens ss item _ = []

-- The states that statements `state NAME;` name.
abbrev pub by_statements : List TargetUse → List ℕ
by_statements us = map (λ u. u.token) (filter (λ u. u.by_statement) us)

-- The states that statements `state NAME;` in the blocks of transitions name.
abbrev pub gotos_in : List ℕ → ProgramItem → List ℕ
gotos_in text x = by_statements (told_in_item text x).target_uses

-- The body of the row of an item, which has this number: what goes by the item's own tokens and
-- tree, and by the states of its set.
abbrev pub state_body : List ℕ → List Outline → ℕ → ProgramItem → StateBody
state_body text ss item x = record {
  name = span_of (slice_get x.tokens 1);
  line = line_at text (span_of (slice_get x.tokens 0)).start;
  options = state_options (token_bytes text x.tokens) (members_in x.tree);
  transitions = flat_map (destinations_in_member text x.tokens ss item) (members_in x.tree);
  gotos = map (named_state text x.tokens ss item) (gotos_in text x);
}

-- The item with a number; one without tokens and tree, where there is no such item.
abbrev pub item_at : List ProgramItem → ℕ → ProgramItem
item_at xs item = record { tokens = tokens_in xs item; tree = tree_in xs item }

-- The line of an item is that of its first token.
abbrev pub line_of_item : List ℕ → List ProgramItem → ℕ → Line
line_of_item text xs item = line_at text (item_start xs item)

-- A state whose name an earlier state of its set has.
abbrev pub is_repeated : List Outline → ℕ → Bool
is_repeated ss j = not (is_first_state ss j)

-- A walk along targets leads to the state with a number from the first of the set that item k
-- begins.
abbrev pub is_reached_in : List ℕ → List ProgramItem → List Outline → ℕ → ℕ → Bool
is_reached_in text xs ss k number = is_reached (targets_among text xs ss (states_in ss k)) number

-- What is known of a state: the first that holds.
abbrev pub first_mark : (faulty repeated unknown reached : Bool) → StateMark
first_mark faulty repeated unknown reached =
    if faulty then mark.Faulty
    else if repeated then mark.Repeated
    else if unknown then mark.Unknown
    else if reached then mark.Reached
    else mark.Unreached

-- What is known of state j, which has this number in the set that item k begins.
abbrev pub mark_of : List ℕ → List ProgramItem → List Outline → ℕ → ℕ → ℕ → StateMark
mark_of text xs ss k number j = first_mark (is_faulty_item xs j) (is_repeated ss j) (has_faulty xs ss k) (is_reached_in text xs ss k number)

-- What is known of each state of the set that item k begins, in the order of the text.
abbrev pub marks_of : List ℕ → List ProgramItem → List Outline → ℕ → List StateMark
marks_of text xs ss k = map (λ p. mark_of text xs ss k p.0 p.1) (enumerate_from 0 (states_in ss k))

-- The same, by what is kept of the state and known of its set.
abbrev pub mark_by_member : List Outline → Bool → List Bool → ℕ → SetMember → StateMark
mark_by_member ss some_faulty reached number m = first_mark m.is_faulty (not (is_first_by_member ss m)) some_faulty (slice_index_or reached number false)

-- What wakes the state that an item is.
abbrev pub wake_of : List ℕ → List ProgramItem → List Outline → ℕ → List WakeUp
wake_of text xs ss item = wake_ups text xs ss (assigned_channels text xs ss) item (uses_in text xs item)

-- The row of a state.
abbrev pub state_row : List ℕ → List ProgramItem → List Outline → StateMark → ℕ → StateRow
state_row text xs ss m item = record {
  name = item_name xs item;
  line = line_of_item text xs item;
  mark = m;
  options = (state_body text ss item (item_at xs item)).options;
  transitions = (state_body text ss item (item_at xs item)).transitions;
  gotos = (state_body text ss item (item_at xs item)).gotos;
  wake = wake_of text xs ss item;
}

abbrev pub numbered_row : List ℕ → List ProgramItem → List Outline → ℕ → ℕ × ℕ → StateRow
numbered_row text xs ss k (number, item) = state_row text xs ss (mark_of text xs ss k number item) item

-- The states of the set that item k begins, in the order of the text.
abbrev pub state_rows : List ℕ → List ProgramItem → List Outline → ℕ → List StateRow
state_rows text xs ss k = map (numbered_row text xs ss k) (enumerate_from 0 (states_in ss k))

-- The row of an item that begins a state set.
abbrev pub set_row : List ℕ → List ProgramItem → List Outline → ℕ → SetRow
set_row text xs ss k = record { name = item_name xs k; line = line_of_item text xs k; states = state_rows text xs ss k }

-- The state sets in the order of the text.
abbrev pub set_rows : List ℕ → List ProgramItem → List Outline → List SetRow
set_rows text xs ss = map (set_row text xs ss) (all_below (is_set_begin ss) (length ss))
