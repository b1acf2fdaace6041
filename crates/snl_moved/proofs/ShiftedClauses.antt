-- Options, event flags, clauses and channels after an edit that shifts tokens: what goes by bytes
-- stays, what says where a token is shifts.
use Rattle.std.proofs.Common.{◌≡◌, ℕ, zero, suc, ◌<◌, Bool, List, [], ◌∷◌, ◌++◌, length, map, slice_get, Option, Some, None, IfSome, if◌then◌else◌, refl, ap, ap₂, ◌∙◌}
use Rattle.std.specs.List.{AllByRecursion, flat_map, zip}
use Rattle.std.specs.Option.{option_and_then, option_map, option_map_or, unwrap_or}
use Rattle.snl_facts.specs.Made.{filter_map_changed}
use Rattle.snl_lex.specs.declared.piece.Piece.{Piece}
use Rattle.snl_lex.specs.declared.shift.Shift.{Shift}
use Rattle.snl_lex.specs.Numbers.{int_value_of}
use Rattle.snl_grammar.specs.declared.tree.clause.Channel.{Channel}
use Rattle.snl_grammar.specs.declared.tree.clause.Channel.TheVariants as channels
use Rattle.snl_grammar.specs.declared.tree.clause.Clause.{Clause}
use Rattle.snl_grammar.specs.declared.tree.clause.Clause.TheVariants as clauses
use Rattle.snl_grammar.specs.declared.tree.item.Item.{Item}
use Rattle.snl_scope.specs.declared.facts.ClauseLink.{ClauseLink}
use Rattle.snl_scope.specs.declared.facts.Declaration.{Declaration}
use Rattle.snl_scope.specs.declared.facts.Scope.{Scope}
use Rattle.snl_scope.specs.declared.facts.Scope.TheVariants as scope
use Rattle.snl_summary.specs.declared.summary.Outline.{Outline}
use Rattle.snl_scope.specs.Channels.{is_monitored, sync_number}
use Rattle.snl_scope.specs.Clauses.{clause_links}
use Rattle.snl_scope.specs.Flags.{flag_number, flags_of}
use Rattle.snl_scope.specs.Linked.{declaration_at}
use Rattle.snl_scope.specs.Names.{entries}
use Rattle.snl_scope.specs.Places.{enclosing_set}
use Rattle.snl_walk.specs.Tokens.{token_bytes, value_at}
use Rattle.snl_tables.specs.declared.rows.ChannelRow.{ChannelRow}
use Rattle.snl_tables.specs.declared.rows.FlagRow.{FlagRow}
use Rattle.snl_tables.specs.declared.rows.Queue.{Queue}
use Rattle.snl_tables.specs.declared.rows.Queue.TheVariants as queue
use Rattle.snl_tables.specs.declared.rows.ScopeName.{ScopeName}
use Rattle.snl_tables.specs.declared.rows.ScopeName.TheVariants as named
use Rattle.snl_tables.specs.declared.rows.Span.{Span}
use Rattle.snl_tables.specs.declared.rows.Synced.{Synced}
use Rattle.snl_tables.specs.Shifted.{shifted_channel, shifted_flag, shifted_scope, shifted_span}
use Rattle.snl_check.specs.Channels.{AssignedChannel, NamedChannel, assigned_channel, assigned_channels, between_quotes, channels_in, channels_of_clause, channels_on, joined, variables_before}
use Rattle.snl_check.specs.Clauses.{ItemClause, item_clauses_before, item_clauses_if, resolved_clauses}
use Rattle.snl_item_check.specs.Items.{ProgramItem, tokens_in, tree_in}
use Rattle.snl_check.specs.Settings.{LetterSetting, gathered, letters_of_program, option_rows, program_options, setting_at, setting_in_tree}
use Rattle.snl_check.specs.ItemSpans.{item_name, span_at}
use Rattle.snl_item_check.specs.View.{is_in_set}
use Rattle.snl_check.specs.Tables.{channel_row, channel_rows, flag_row, flag_row_at, flag_rows, queue_of, scope_name, scope_of_variable, sync_of, synced, synced_by, variables_of}
use Rattle.snl_moved.proofs.ShiftLists.{flat_same, gathered_same, map_shift}
use Rattle.snl_moved.proofs.ShiftedItems.{IsKept, span_at_shifts, tree_stays}
use Rattle.snl_moved.proofs.SpanLaws.{each_got}

-- ---- options of the program

setting_by : Bool → (ℕ → List ℕ) → Option Item → Option LetterSetting
setting_by in_set bytes tree = if in_set then None else option_and_then (setting_in_tree bytes) tree

module _ (old text : List ℕ) (s : Shift) (xs ys : List ProgramItem) (ss : List Outline) where
  pub setting_stays : (i : ℕ) → IsKept old text s xs ys i → setting_at text ys ss i ≡ setting_at old xs ss i
  unfolding setting_by
  setting_stays i kept = ap₂ (setting_by (is_in_set ss i)) kept.bytes (tree_stays old text s xs ys i kept)

  pub options_stay : length ys ≡ length xs → ((i : ℕ) → i < length xs → setting_at text ys ss i ≡ setting_at old xs ss i) → program_options text ys ss ≡ program_options old xs ss
  options_stay count h =
      ap (option_rows letters_of_program)
      (ap (gathered (setting_at text ys ss)) count ∙ gathered_same (setting_at text ys ss) (setting_at old xs ss) (length xs) h)

-- ---- scopes and event flags

-- The names of a scope are where they were, shifted.
abbrev pub IsScopeShifted : Shift → (xs ys : List ProgramItem) → List Outline → Scope → Type 0
IsScopeShifted s xs ys ss c = scope_name ys ss c ≡ shifted_scope s (scope_name xs ss c)

pub scope_shifts : (s : Shift) (xs ys : List ProgramItem) (ss : List Outline) → ((i : ℕ) → item_name ys i ≡ shifted_span s (item_name xs i)) → (c : Scope) → IsScopeShifted s xs ys ss c
scope_shifts s xs ys ss names scope.Program = refl
scope_shifts s xs ys ss names (scope.StateSet set) = ap named.StateSet (names set)
scope_shifts s xs ys ss names (scope.State state) = ap₂ named.State (by (enclosing_set ss state)) (names state)
  where
    by : (o : Option ℕ) → option_map (item_name ys) o ≡ option_map (shifted_span s) (option_map (item_name xs) o)
    by None = refl
    by (Some k) = ap Some (names k)

module _ (s : Shift) (xs ys : List ProgramItem) (ss : List Outline) (number : ℕ) (scopes : (d : Declaration) → declaration_at ss number ≡ Some d → IsScopeShifted s xs ys ss d.scope) where
  pub variable_scope_shifts : scope_of_variable ys ss number ≡ shifted_scope s (scope_of_variable xs ss number)
  variable_scope_shifts = by (declaration_at ss number) scopes
    where
      by : (o : Option Declaration) → ((d : Declaration) → o ≡ Some d → IsScopeShifted s xs ys ss d.scope) →
          option_map_or (λ d. scope_name ys ss d.scope) o named.Program ≡ shifted_scope s (option_map_or (λ d. scope_name xs ss d.scope) o named.Program)
      by None shifted = refl
      by (Some d) shifted = shifted d refl

  flag : Span → ScopeName → Option FlagRow
  flag name scope = Some (record { name = name; scope = scope })

  pub flag_shifts : ((d : Declaration) → declaration_at ss number ≡ Some d → span_at ys d.item d.token ≡ shifted_span s (span_at xs d.item d.token)) →
      flag_row_at ys ss number ≡ option_map (shifted_flag s) (flag_row_at xs ss number)
  unfolding flag
  flag_shifts h = by (declaration_at ss number) h scopes
    where
      by : (o : Option Declaration) → ((d : Declaration) → o ≡ Some d → span_at ys d.item d.token ≡ shifted_span s (span_at xs d.item d.token)) →
          ((d : Declaration) → o ≡ Some d → IsScopeShifted s xs ys ss d.scope) →
          option_map (flag_row ys ss) o ≡ option_map (shifted_flag s) (option_map (flag_row xs ss) o)
      by None spans shifted = refl
      by (Some d) spans shifted = ap₂ flag (spans d refl) (shifted d refl)

pub flags_shift : (s : Shift) (xs ys : List ProgramItem) (ss : List Outline) → AllByRecursion (λ number. flag_row_at ys ss number ≡ option_map (shifted_flag s) (flag_row_at xs ss number)) (flags_of ss) →
    flag_rows ys ss ≡ map (shifted_flag s) (flag_rows xs ss)
flags_shift s xs ys ss each = filter_map_changed (shifted_flag s) (flag_row_at xs ss) (flag_row_at ys ss) (flags_of ss) each

-- ---- clauses

module _ (xs ys : List ProgramItem) (same : (i : ℕ) → item_clauses_if i (tree_in ys i) ≡ item_clauses_if i (tree_in xs i)) where
  clauses_before : (n : ℕ) → item_clauses_before ys n ≡ item_clauses_before xs n
  clauses_before zero = refl
  clauses_before (suc n) = ap₂ (λ (a b : List ItemClause). a ++ b) (clauses_before n) (same n)

  pub clauses_stay : length ys ≡ length xs → (ss : List Outline) → resolved_clauses ys ss ≡ resolved_clauses xs ss
  clauses_stay count ss = ap (λ (l : List ItemClause). zip l (clause_links ss)) (ap (item_clauses_before ys) count ∙ clauses_before (length xs))

-- ---- channels: what the clauses on them say goes by bytes

module _ (old text : List ℕ) (tokens shifted : List Piece) (bytes : token_bytes text shifted ≡ token_bytes old tokens) where
  value_stays : (n : ℕ) → value_at text shifted n ≡ value_at old tokens n
  value_stays n = ap (λ (b : ℕ → List ℕ). int_value_of (b n)) bytes

  channels_stay : (c : Channel) → channels_in text shifted c ≡ channels_in old tokens c
  channels_stay (channels.Element subscript to strings) =
      let element : Option ℕ → List NamedChannel = λ value. record { element = Some (unwrap_or value 0); strings = strings } ∷ [] in
      ap element (value_stays subscript)
  channels_stay channels.Anonymous = refl
  channels_stay (channels.Whole to strings) = refl
  channels_stay (channels.Elements to lists trailing) = refl

  queue_stays : (o : Option ℕ) → queue_of text shifted o ≡ queue_of old tokens o
  queue_stays None = refl
  queue_stays (Some n) = ap (λ v. queue.Length (unwrap_or v 0)) (value_stays n)

  synced_stays : (flag : Option ℕ) (c : Clause) → synced_by text shifted flag c ≡ synced_by old tokens flag c
  synced_stays flag (clauses.Syncq capital name subscript named_flag length) =
      let synced : Queue → Option Synced = λ q. Some (record { flag = flag; queue = q }) in
      ap synced (queue_stays length)
  synced_stays flag (clauses.Sync name subscript named_flag) = refl
  synced_stays flag (clauses.Assign name channel) = refl
  synced_stays flag (clauses.Monitor name subscript) = refl

  pub joined_stays : (numbers : List ℕ) → joined text shifted numbers ≡ joined old tokens numbers
  joined_stays numbers = ap (λ (b : ℕ → List ℕ). flat_map (λ n. between_quotes (b n)) numbers) bytes

-- The item of a clause has the bytes that it had.
abbrev pub HasBytes : (old text : List ℕ) (xs ys : List ProgramItem) → ItemClause × ClauseLink → Type 0
HasBytes old text xs ys p = token_bytes text (tokens_in ys p.0.item) ≡ token_bytes old (tokens_in xs p.0.item)

module _ (old text : List ℕ) (xs ys : List ProgramItem) (ss : List Outline) (same : resolved_clauses ys ss ≡ resolved_clauses xs ss)
    (each : AllByRecursion (HasBytes old text xs ys) (resolved_clauses xs ss)) where
  on_clause : (p : ItemClause × ClauseLink) → HasBytes old text xs ys p → channels_of_clause text ys p ≡ channels_of_clause old xs p
  on_clause p bytes = ap (λ l. if p.1.is_sound then l else []) (by p.1.variable p.0.clause)
    where
      by : (o : Option ℕ) (c : Clause) → channels_on text ys p.0.item o c ≡ channels_on old xs p.0.item o c
      by (Some variable) (clauses.Assign name channel) =
          ap (map (assigned_channel p.0.item name variable)) (channels_stay old text (tokens_in xs p.0.item) (tokens_in ys p.0.item) bytes channel)
      by _ _ = refl

  each_clause : (l : List (ItemClause × ClauseLink)) → AllByRecursion (HasBytes old text xs ys) l → AllByRecursion (λ p. channels_of_clause text ys p ≡ channels_of_clause old xs p) l
  each_clause [] h = tt
  each_clause (p ∷ l) h = (on_clause p h.0, each_clause l h.1)

  pub assigned_stay : assigned_channels text ys ss ≡ assigned_channels old xs ss
  assigned_stay =
      ap (flat_map (channels_of_clause text ys)) same
      ∙ flat_same (channels_of_clause text ys) (channels_of_clause old xs) (resolved_clauses xs ss) (each_clause (resolved_clauses xs ss) each)

  pub variables_stay : variables_of text ys ss ≡ variables_of old xs ss
  variables_stay = ap (λ (cs : List AssignedChannel). variables_before cs (length (entries ss))) assigned_stay

  synced_at : (n : ℕ) → option_and_then (synced text ys ss) (slice_get (resolved_clauses xs ss) n) ≡ option_and_then (synced old xs ss) (slice_get (resolved_clauses xs ss) n)
  synced_at n = by (slice_get (resolved_clauses xs ss) n) (each_got (HasBytes old text xs ys) (resolved_clauses xs ss) n each)
    where
      by : (o : Option (ItemClause × ClauseLink)) → IfSome o (HasBytes old text xs ys) → option_and_then (synced text ys ss) o ≡ option_and_then (synced old xs ss) o
      by None h = refl
      by (Some p) h = synced_stays old text (tokens_in xs p.0.item) (tokens_in ys p.0.item) h (option_and_then (flag_number ss) p.1.flag) p.0.clause

  pub sync_stays : (variable : ℕ) (element : Option ℕ) → sync_of text ys ss variable element ≡ sync_of old xs ss variable element
  sync_stays variable element = by (sync_number ss variable element)
    where
      by : (o : Option ℕ) → option_and_then (λ n. option_and_then (synced text ys ss) (slice_get (resolved_clauses ys ss) n)) o
          ≡ option_and_then (λ n. option_and_then (synced old xs ss) (slice_get (resolved_clauses xs ss) n)) o
      by None = refl
      by (Some n) = ap (λ (l : List (ItemClause × ClauseLink)). option_and_then (synced text ys ss) (slice_get l n)) same ∙ synced_at n

-- ---- the rows of channels

channel : Option ℕ → Bool → Span → ScopeName → List ℕ → Option Synced → ChannelRow
channel element is_monitored variable scope pv sync =
    record { variable = variable; element = element; scope = scope; pv = pv; is_monitored = is_monitored; sync = sync }

-- What goes by all items, as the row of a channel has it.
pub record ChannelsStay (old text : List ℕ) (s : Shift) (xs ys : List ProgramItem) (ss : List Outline) : Type 0 where
  pub assigned : assigned_channels text ys ss ≡ assigned_channels old xs ss
  pub syncs : (variable : ℕ) (element : Option ℕ) → sync_of text ys ss variable element ≡ sync_of old xs ss variable element

-- The item of a channel's clause is kept, and the names of its variable's scope are where they were,
-- shifted.
pub record IsChannelKept (old text : List ℕ) (s : Shift) (xs ys : List ProgramItem) (ss : List Outline) (c : AssignedChannel) : Type 0 where
  pub item : IsKept old text s xs ys c.item
  pub scope : scope_of_variable ys ss c.variable ≡ shifted_scope s (scope_of_variable xs ss c.variable)

module _ (old text : List ℕ) (s : Shift) (xs ys : List ProgramItem) (ss : List Outline) (stay : ChannelsStay old text s xs ys ss) (before : 0 < s.start) where
  pub channel_shifts : (c : AssignedChannel) → IsChannelKept old text s xs ys ss c → channel_row text ys ss c ≡ shifted_channel s (channel_row old xs ss c)
  unfolding channel
  channel_shifts c kept =
      let monitored : Bool = is_monitored ss c.variable c.element in
      let span = span_at_shifts old text s xs ys c.item kept.item before c.token in
      let pv = joined_stays old text (tokens_in xs c.item) (tokens_in ys c.item) kept.item.bytes c.strings in
      ap₂ (λ (variable : Span) (scope : ScopeName). channel c.element monitored variable scope (joined text (tokens_in ys c.item) c.strings) (sync_of text ys ss c.variable c.element)) span kept.scope
      ∙ ap₂ (channel c.element monitored (shifted_span s (span_at xs c.item c.token)) (shifted_scope s (scope_of_variable xs ss c.variable))) pv (stay.syncs c.variable c.element)

  pub channels_shift : AllByRecursion (IsChannelKept old text s xs ys ss) (assigned_channels old xs ss) → channel_rows text ys ss ≡ map (shifted_channel s) (channel_rows old xs ss)
  channels_shift each =
      ap (map (channel_row text ys ss)) stay.assigned
      ∙ map_shift (shifted_channel s) (channel_row old xs ss) (channel_row text ys ss) (assigned_channels old xs ss) (rows (assigned_channels old xs ss) each)
    where
      rows : (cs : List AssignedChannel) → AllByRecursion (IsChannelKept old text s xs ys ss) cs → AllByRecursion (λ c. channel_row text ys ss c ≡ shifted_channel s (channel_row old xs ss c)) cs
      rows [] h = tt
      rows (c ∷ cs) h = (channel_shifts c h.0, rows cs h.1)
