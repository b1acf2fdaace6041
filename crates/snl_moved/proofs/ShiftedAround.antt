-- The tables of a text after an edit inside one item: all other items keep their tokens. `line`
-- says what becomes of the line of an offset.
use Rattle.std.proofs.Common.{◌≡◌, ◌≢◌, ◌⊎◌, ℕ, zero, suc, ◌+◌, ◌<◌, ◌&&◌, ◌||◌, Bool, true, false, List, [], ◌∷◌, ◌++◌, length, map, slice_get, nat_eq, Option, Some, None, inl, inr, if◌then◌else◌, refl, sym, subst, ap, ap₂, ◌∙◌, arith, nat_lt, IfSome}
use Rattle.std.specs.List.{AllByRecursion, enumerate_from, filter_map, flat_map}
use Rattle.std.specs.Option.{is_none, option_and_then, option_map, option_map_or, option_to_list}
use Rattle.std.proofs.lemmas.Bool.{and_from, cases_eq, eq-eqb, eqb-true, false_from_ne_true, false≢true}
use Rattle.std.proofs.lemmas.List.{length-map}
use Rattle.snl_tables.specs.ShiftedLaws.{changed_twice}
use Rattle.snl_scope.specs.BelowLaws.{each_below, each_passing}
use Rattle.snl_facts.specs.Booleans.{and_first, and_second}
use Rattle.snl_facts.specs.Each.{each_append, each_both, each_map, each_weaker}
use Rattle.snl_lex.specs.declared.lines.Line.{Line}
use Rattle.snl_lex.specs.declared.piece.Piece.{Piece}
use Rattle.snl_lex.specs.declared.shift.Shift.{Shift}
use Rattle.snl_grammar.specs.declared.tree.clause.Clause.{Clause}
use Rattle.snl_grammar.specs.declared.tree.clause.Clause.TheVariants as clauses
use Rattle.snl_grammar.specs.declared.tree.item.Item.{Item}
use Rattle.snl_grammar.specs.declared.tree.item.Item.TheVariants as items
use Rattle.snl_grammar.specs.declared.tree.state.StateMember.{StateMember}
use Rattle.snl_grammar.specs.declared.tree.state.StateMember.TheVariants as members
use Rattle.snl_scope.specs.declared.facts.ClauseLink.{ClauseLink}
use Rattle.snl_scope.specs.declared.facts.Declaration.{Declaration}
use Rattle.snl_scope.specs.declared.facts.Scope.{Scope}
use Rattle.snl_scope.specs.declared.facts.Scope.TheVariants as scopes
use Rattle.snl_codes.specs.declared.code.Code.{Code}
use Rattle.snl_codes.specs.declared.code.Code.TheVariants.{E08, E09}
use Rattle.snl_scope.specs.declared.names.namespaces.Namespace.{Namespace}
use Rattle.snl_scope.specs.declared.names.namespaces.Namespace.TheVariants as namespace
use Rattle.snl_summary.specs.declared.summary.Declared.{Declared}
use Rattle.snl_summary.specs.declared.summary.ItemKind.{ItemKind}
use Rattle.snl_summary.specs.declared.summary.ItemKind.TheVariants as kinds
use Rattle.snl_summary.specs.declared.summary.NameRef.{NameRef}
use Rattle.snl_summary.specs.declared.summary.Outline.{Outline}
use Rattle.snl_summary.specs.declared.summary.Variable.{Variable}
use Rattle.snl_scope.specs.Below.{all_below}
use Rattle.snl_scope.specs.Clauses.{clause_links, is_event_flag, resolve_in}
use Rattle.snl_scope.specs.Flags.{declares_flag, is_first, is_flag}
use Rattle.snl_scope.specs.Linked.{declaration_at, entry_declaration, scope_in, state_of, variable_declaration}
use Rattle.snl_scope.specs.Names.{Entry, declared_entry, named_entry, entries, entries_before, entries_of, has_own_scope, scope_at, scope_of, set_entries, set_name, state_entries}
use Rattle.snl_scope.specs.Order.{is_named_state, state_name}
use Rattle.snl_scope.specs.Places.{begins_set, is_set_begin, enclosing_set, stands_in}
use Rattle.snl_summary.specs.Summaries.{kind_of, role_of}
use Rattle.snl_summary.specs.Summaries.Clauses as summary
use Rattle.snl_summary.specs.Summaries.Declares.{declared_in}
use Rattle.snl_walk.specs.Tokens.{token_bytes}
use Rattle.snl_tables.specs.declared.rows.ScopeName.TheVariants as scope_names
use Rattle.snl_tables.specs.declared.rows.SetRow.{SetRow}
use Rattle.snl_tables.specs.declared.rows.StateBody.{StateBody}
use Rattle.snl_tables.specs.declared.rows.StateMark.{StateMark}
use Rattle.snl_tables.specs.declared.rows.StateRow.{StateRow}
use Rattle.snl_tables.specs.declared.rows.WakeUp.{WakeUp}
use Rattle.snl_tables.specs.Moved.{moved_set, moved_state, moved_tables}
use Rattle.snl_tables.specs.Shifted.{changed_at, shifted_flag, shifted_span, marked, with_body, with_body_in, with_marks, with_marks_in, with_own_body, with_own_wake, with_wake, with_wake_in}
use Rattle.snl_check.specs.Channels.{AssignedChannel, assigned_channel, assigned_channels, channels_in, channels_of_clause, channels_on}
use Rattle.snl_check.specs.Clauses.{ItemClause, clause_in_member, clauses_in_tree, item_clause, item_clauses, item_clauses_before, item_clauses_if, resolved_clauses}
use Rattle.snl_check.specs.Conditions.{on_declaration, uses_in, wake_ups}
use Rattle.snl_item_check.specs.Items.{ProgramItem, outline_of_item, outlines_of, summary_of_item, tokens_in, tree_in}
use Rattle.snl_check.specs.ItemSpans.{header_name, named_by, span_of, item_name}
use Rattle.snl_check.specs.Members.{is_faulty_item, number_among, states_in, target_number, target_numbers}
use Rattle.snl_moved.specs.Moved.{ReplacesItem, ReplacesOne}
use Rattle.snl_item_check.specs.View.{is_in_set}
use Rattle.snl_check.specs.Settings.{LetterSetting, setting_at, setting_in_tree}
use Rattle.snl_item_check.specs.Told.{nothing, told_in_item, used_by, wakes_of}
use Rattle.snl_moved.specs.ShiftedAround.{IsFlagPlaced, IsPlacedAt, IsSoundAsItWas, SaysAlike, SaysAlikeAt, is_plain, set_number, state_number}
use Rattle.snl_moved.specs.Spans.{AreRead}
use Rattle.snl_check.specs.States.{item_at, mark_of, marks_of, numbered_row, set_row, set_rows, state_body, state_row, state_rows, wake_of}
use Rattle.snl_check.specs.Tables.{flag_row_at, tables_of}
use Rattle.snl_moved.proofs.ClauseScopes.{IsMeant, resolved_meant}
use Rattle.snl_moved.proofs.Outlines.{outline_at}
use Rattle.snl_moved.proofs.ShiftLists.{map_shift, numbered_shift}
use Rattle.snl_check.specs.SetsLaws.{get_here}
use Rattle.snl_moved.proofs.Outlines.{is_within}
use Rattle.snl_moved.proofs.ShiftedItems.{IsKept, faulty_stays, header_at, header_at_shifts, span_at_shifts, tree_stays}
use Rattle.snl_moved.proofs.ShiftedClauses.{HasBytes, IsChannelKept, IsScopeShifted, flag_shifts, setting_stays, variable_scope_shifts}
use Rattle.snl_moved.proofs.ShiftedStates.{has_faulty_stays, state_row_shifts, targets_stay}
use Rattle.snl_moved.proofs.ShiftedRows.{Parts, and_none, kept_map, map_twice, marked_rows, numbered_changed, parts_at, row_changed, same_either}
use Rattle.snl_moved.proofs.ShiftedTables.{IsLineKept, IsRowKept, MarksStay, RestStays, SpellingLaws, item_kept, same_channels, same_mark, set_line, set_named, set_shifts, state_line, state_shifts, tables_but_sets}
use Rattle.snl_moved.proofs.SpanLaws.{each_all, place_begins, each_beside, each_flat, each_got, tested, tokens_are}

-- ---- what a plain item is not

no_header : (x : ProgramItem) → is_plain (kind_of x.tree) ≡ true → header_name x ≡ None
no_header x h = by x.tree h
  where
    by : (o : Option Item) → is_plain (kind_of o) ≡ true → option_map (λ number. span_of (slice_get x.tokens number)) (named_by o) ≡ None
    by (Some (items.Header name parameters)) e = absurd (false≢true e)
    by o e = refl

no_setting : (bytes : ℕ → List ℕ) (o : Option Item) → is_plain (kind_of o) ≡ true → option_and_then (setting_in_tree bytes) o ≡ None
no_setting bytes (Some (items.OptionLine line)) e = absurd (false≢true e)
no_setting bytes o e = refl

no_set : (kind : ItemKind) (b : Bool) → is_plain kind ≡ true → begins_set (role_of kind b) ≡ true → ⊥
no_set kinds.SsBegin b e h = false≢true e
no_set kinds.State true e h = false≢true h
no_set kinds.State false e h = false≢true h
no_set kind b e h = false≢true h

module _ (text : List ℕ) (tokens : List Piece) where
  no_members : (ms : List StateMember) → flat_map (summary.clauses_of_member text tokens) ms ≡ [] → flat_map clause_in_member ms ≡ []
  no_members [] e = refl
  no_members (members.Clause c ∷ ms) e = absurd cc
  no_members (m ∷ ms) e = no_members ms e

  no_clauses : (i : ℕ) (o : Option Item) → is_plain (kind_of o) ≡ true → summary.clauses_in text tokens o ≡ [] → item_clauses_if i o ≡ []
  no_clauses i (Some (items.StateBlock name ms)) h e = ap (map (item_clause i)) (no_members ms e)
  no_clauses i (Some (items.Clause c)) h e = absurd (false≢true h)
  no_clauses i o h e = refl

-- ---- tests

-- the entry of an event flag declares one
flag_declared : (ss : List Outline) (number : ℕ) (d : Declaration) → is_flag (entries ss) number ≡ true → declaration_at ss number ≡ Some d → is_event_flag d.variable.symbol_kind ≡ true
flag_declared ss number d = by (slice_get (entries ss) number)
  where
    declares : (e : Entry) (v : Option Variable) (c : Option Scope) → declares_flag v ≡ true → option_and_then (λ v. option_map (λ c. variable_declaration e.item e.token c v) c) v ≡ Some d → is_event_flag d.variable.symbol_kind ≡ true
    declares e None c h at = absurd (false≢true h)
    declares e (Some v) None h at = absurd cc
    declares e (Some v) (Some c) h at = let same : variable_declaration e.item e.token c v ≡ d = cc in subst (λ (d : Declaration). is_event_flag d.variable.symbol_kind ≡ true) same h

    by : (o : Option Entry) → option_map_or (λ e. declares_flag e.variable && is_first (entries ss) number e) o false ≡ true → option_and_then entry_declaration o ≡ Some d → is_event_flag d.variable.symbol_kind ≡ true
    by None h at = absurd (false≢true h)
    by (Some e) h at = declares e e.variable (scope_in e.namespace) (and_first (declares_flag e.variable) (is_first (entries ss) number e) h) at

-- ---- the items but one are kept

module _ (laws : SpellingLaws) (old text : List ℕ) (s : Shift) (line : ℕ → Line → Line) (xs ys : List ProgramItem) (j : ℕ) (before : 0 < s.start) (read : AreRead old xs) (rep : ReplacesOne old text s line xs ys j) where
  abbrev pub ss : List Outline
  ss = outlines_of old xs

  was : (x : ProgramItem) × (slice_get xs j ≡ Some x)
  was = get_here xs j rep.there

  is : (y : ProgramItem) × (slice_get ys j ≡ Some y)
  is = get_here ys j (omega (arith, rep.there, rep.count))

  replaced : ReplacesItem old text s was.0 is.0
  replaced = rep.replaced was.0 is.0 was.1 is.1

  everywhere : (P : ℕ → Type 0) → P j → ((i : ℕ) → i ≢ j → P i) → (i : ℕ) → P i
  everywhere P here apart i = elim (cases_eq i j) [ inl same ↦ subst P (sym same) here | inr other ↦ apart i other ]

  kept : (i : ℕ) → i ≢ j → IsKept old text s xs ys i
  kept i apart = item_kept old text s line xs ys i (rep.others i apart) (λ x at. rep.kept i x apart at)

  tree_at : (zs : List ProgramItem) (z : ProgramItem) → slice_get zs j ≡ Some z → tree_in zs j ≡ z.tree
  tree_at zs z at = ap (λ (o : Option ProgramItem). option_and_then (λ (x : ProgramItem). x.tree) o) at

  headers : (i : ℕ) → header_at ys i ≡ option_map (shifted_span s) (header_at xs i)
  headers =
      everywhere (λ i. header_at ys i ≡ option_map (shifted_span s) (header_at xs i))
      (ap (option_and_then header_name) is.1 ∙ no_header is.0 replaced.is_plain_now
      ∙ sym (ap (option_map (shifted_span s)) (ap (option_and_then header_name) was.1 ∙ no_header was.0 replaced.was_plain)))
      (λ i apart. header_at_shifts old text s xs ys i before (kept i apart))

  sets_nothing : (bytes : List ℕ) (zs : List ProgramItem) (z : ProgramItem) → slice_get zs j ≡ Some z → is_plain (kind_of z.tree) ≡ true → setting_at bytes zs ss j ≡ None
  sets_nothing bytes zs z at state =
      ap (λ (o : Option LetterSetting). if is_in_set ss j then None else o)
      (ap (option_and_then (setting_in_tree (token_bytes bytes (tokens_in zs j)))) (tree_at zs z at) ∙ no_setting (token_bytes bytes (tokens_in zs j)) z.tree state)
      ∙ same_either (is_in_set ss j) None

  settings : (i : ℕ) → setting_at text ys ss i ≡ setting_at old xs ss i
  settings =
      everywhere (λ i. setting_at text ys ss i ≡ setting_at old xs ss i)
      (sets_nothing text ys is.0 is.1 replaced.is_plain_now ∙ sym (sets_nothing old xs was.0 was.1 replaced.was_plain))
      (λ i apart. setting_stays old text s xs ys ss i (kept i apart))

  -- ---- clauses and channels

  no_old_clause : item_clauses_if j (tree_in xs j) ≡ []
  no_old_clause = ap (item_clauses_if j) (tree_at xs was.0 was.1) ∙ no_clauses old was.0.tokens j was.0.tree replaced.was_plain replaced.no_clause

  no_new_clause : item_clauses_if j (tree_in ys j) ≡ []
  no_new_clause = ap (item_clauses_if j) (tree_at ys is.0 is.1) ∙ no_clauses text is.0.tokens j is.0.tree replaced.is_plain_now replaced.no_clause_now

  same_clauses : (i : ℕ) → item_clauses_if i (tree_in ys i) ≡ item_clauses_if i (tree_in xs i)
  same_clauses =
      everywhere (λ i. item_clauses_if i (tree_in ys i) ≡ item_clauses_if i (tree_in xs i)) (no_new_clause ∙ sym no_old_clause)
      (λ i apart. ap (item_clauses_if i) (tree_stays old text s xs ys i (kept i apart)))

  of_item : (i : ℕ) → i ≢ j → (o : Option Item) → AllByRecursion (λ (c : ItemClause). c.item ≢ j) (item_clauses_if i o)
  of_item i apart None = tt
  of_item i apart (Some tree) = each_map (λ (c : ItemClause). c.item ≢ j) (item_clause i) (clauses_in_tree tree) (each_all (λ (c : Clause). i ≢ j) (clauses_in_tree tree) (λ c. apart))

  clauses_apart : (n : ℕ) → AllByRecursion (λ (c : ItemClause). c.item ≢ j) (item_clauses_before xs n)
  clauses_apart zero = tt
  clauses_apart (suc n) =
      each_append (λ (c : ItemClause). c.item ≢ j) (item_clauses_before xs n) (item_clauses_if n (tree_in xs n)) (clauses_apart n)
      (everywhere (λ i. AllByRecursion (λ (c : ItemClause). c.item ≢ j) (item_clauses_if i (tree_in xs i)))
      (subst (λ cs. AllByRecursion (λ (c : ItemClause). c.item ≢ j) cs) (sym no_old_clause) tt) (λ i apart. of_item i apart (tree_in xs i)) n)

  resolved_apart : AllByRecursion (λ (p : ItemClause × ClauseLink). p.0.item ≢ j) (resolved_clauses xs ss)
  resolved_apart = each_beside (λ (c : ItemClause). c.item ≢ j) (item_clauses xs) (clause_links ss) (clauses_apart (length xs))

  -- ---- where names are

  -- a token of an item is where it was, shifted
  abbrev IsPlaced : ℕ → ℕ → Type 0
  IsPlaced item token = span_of (slice_get (tokens_in ys item) token) ≡ shifted_span s (span_of (slice_get (tokens_in xs item) token))

  placed_apart : (item : ℕ) → item ≢ j → (token : ℕ) → IsPlaced item token
  placed_apart item apart token = span_at_shifts old text s xs ys item (kept item apart) before token

  placed_here : (token : ℕ) → IsPlacedAt s was.0 is.0 token → IsPlaced j token
  placed_here token placed =
      ap (λ (ts : List Piece). span_of (slice_get ts token)) (tokens_are ys j is.0 is.1) ∙ placed
      ∙ sym (ap (λ (ts : List Piece). shifted_span s (span_of (slice_get ts token))) (tokens_are xs j was.0 was.1))

  outline_here : slice_get ss j ≡ Some (outline_of_item old was.0)
  outline_here = outline_at old xs j ∙ ap (option_map (outline_of_item old)) was.1

  set_apart : (k : ℕ) → is_set_begin ss k ≡ true → k ≢ j
  set_apart k is same =
      let found = tested old xs (λ s. begins_set s.role) k is in
      let here : Some found.0 ≡ Some was.0 = sym found.1 ∙ ap (slice_get xs) same ∙ was.1 in
      let item : found.0 ≡ was.0 = cc in
      let state : is_plain (kind_of found.0.tree) ≡ true = ap (λ (x : ProgramItem). is_plain (kind_of x.tree)) item ∙ replaced.was_plain in
      no_set (kind_of found.0.tree) (nat_lt 0 (length (declared_in old found.0.tokens found.0.tree)) || nat_lt 0 (length (summary.clauses_in old found.0.tokens found.0.tree))) state found.2

  set_placed : (k : ℕ) → is_set_begin ss k ≡ true → IsPlaced k 1
  set_placed k is = placed_apart k (set_apart k is) 1

  -- ---- declarations

  abbrev IsScopeKept : Scope → Type 0
  IsScopeKept c = IsScopeShifted s xs ys ss c

  -- an event flag that an item declares is where it was, shifted, and so is the item's name, if it
  -- has a scope of its own
  abbrev IsFlagKept : ℕ → (own_scope : Bool) → Declared → Type 0
  IsFlagKept item own_scope d = is_event_flag d.variable.symbol_kind ≡ true → IsPlaced item d.token × (own_scope ≡ true → IsPlaced item 1)

  -- an event flag is where it was, shifted, and so are the names of its scope
  abbrev IsDeclarationKept : Declaration → Type 0
  IsDeclarationKept d = is_event_flag d.variable.symbol_kind ≡ true → IsPlaced d.item d.token × IsScopeKept d.scope

  abbrev IsEntryKept : Entry → Type 0
  IsEntryKept e = IfSome (entry_declaration e) IsDeclarationKept

  -- the name of the set that an item is in
  around_kept : (i : ℕ) → option_map (item_name ys) (enclosing_set ss i) ≡ option_map (shifted_span s) (option_map (item_name xs) (enclosing_set ss i))
  around_kept i = by (enclosing_set ss i) refl
    where
      by : (o : Option ℕ) → enclosing_set ss i ≡ o → option_map (item_name ys) o ≡ option_map (shifted_span s) (option_map (item_name xs) o)
      by None e = refl
      by (Some k) e = ap Some (set_placed k (place_begins ss i k e))

  scope_kept : (i : ℕ) (o : Outline) → (has_own_scope o.role ≡ true → IsPlaced i 1) → IfSome (scope_in (scope_of ss i o)) IsScopeKept
  scope_kept i o placed = by (has_own_scope o.role) placed
    where
      around : (p : Option ℕ) → enclosing_set ss i ≡ p → IfSome (scope_in (scope_at p)) IsScopeKept
      around None e = refl
      around (Some k) e = ap scope_names.StateSet (set_placed k (place_begins ss i k e))

      by : (b : Bool) → (b ≡ true → IsPlaced i 1) → IfSome (scope_in (if b then namespace.State i else scope_at (enclosing_set ss i))) IsScopeKept
      by true placed = ap₂ scope_names.State (around_kept i) (placed refl)
      by false placed = around (enclosing_set ss i) refl

  flags_kept : (n : ℕ) (o : Outline) → slice_get ss n ≡ Some o → AllByRecursion (IsFlagKept n (has_own_scope o.role)) o.declares
  flags_kept =
      everywhere (λ n. (o : Outline) → slice_get ss n ≡ Some o → AllByRecursion (IsFlagKept n (has_own_scope o.role)) o.declares)
      (λ o at.
      let there : slice_get ss j ≡ Some (outline_of_item old was.0) = outline_here in
      let same : outline_of_item old was.0 ≡ o = cc in
      each_weaker (IsFlagPlaced s was.0 is.0 (has_own_scope o.role)) (IsFlagKept j (has_own_scope o.role)) (λ d placed flag. (placed_here d.token (placed flag).0, λ own. placed_here 1 ((placed flag).1 own))) o.declares
      (subst (λ (o : Outline). AllByRecursion (IsFlagPlaced s was.0 is.0 (has_own_scope o.role)) o.declares) same replaced.flags))
      (λ n apart o at. each_all (IsFlagKept n (has_own_scope o.role)) o.declares (λ d flag. (placed_apart n apart d.token, λ own. placed_apart n apart 1)))

  declares_kept : (n : ℕ) (o : Outline) → slice_get ss n ≡ Some o → AllByRecursion IsEntryKept (map (declared_entry (scope_of ss n o) n) o.declares)
  declares_kept n o at =
      each_map IsEntryKept (declared_entry (scope_of ss n o) n) o.declares
      (each_weaker (IsFlagKept n (has_own_scope o.role)) (λ (d : Declared). IsEntryKept (declared_entry (scope_of ss n o) n d)) (λ d placed. by d placed (scope_in (scope_of ss n o)) (scope_kept n o)) o.declares (flags_kept n o at))
    where
      by : (d : Declared) → IsFlagKept n (has_own_scope o.role) d → (c : Option Scope) → ((has_own_scope o.role ≡ true → IsPlaced n 1) → IfSome c IsScopeKept) → IfSome (option_map (λ c. variable_declaration n d.token c d.variable) c) IsDeclarationKept
      by d placed None scope = tt
      by d placed (Some c) scope = λ flag. ((placed flag).0, scope (placed flag).1)

  entries_kept : (n : ℕ) → AllByRecursion IsEntryKept (entries_before ss n)
  entries_kept zero = tt
  entries_kept (suc n) = each_append IsEntryKept (entries_before ss n) (option_map_or (entries_of ss n) (slice_get ss n) []) (entries_kept n) (by (slice_get ss n) refl)
    where
      named : (namespace : Namespace) (code : Option Code) (words : List (List ℕ)) → AllByRecursion IsEntryKept (map (named_entry namespace n code) words)
      named namespace code words = each_map IsEntryKept (named_entry namespace n code) words (each_all (λ name. IsEntryKept (named_entry namespace n code name)) words (λ name. tt))

      states : (p : Option ℕ) (o : Outline) → AllByRecursion IsEntryKept (state_entries p n o)
      states None o = tt
      states (Some k) o = named (namespace.States k) (Some E09) (option_to_list (state_name o))

      by : (o : Option Outline) → slice_get ss n ≡ o → AllByRecursion IsEntryKept (option_map_or (entries_of ss n) o [])
      by None e = tt
      by (Some o) e =
          each_append IsEntryKept (set_entries n o ++ state_entries (enclosing_set ss n) n o) (map (declared_entry (scope_of ss n o) n) o.declares)
          (each_append IsEntryKept (set_entries n o) (state_entries (enclosing_set ss n) n o) (named namespace.Sets (Some E08) (option_to_list (set_name o))) (states (enclosing_set ss n) o))
          (declares_kept n o e)

  declaration_kept : (number : ℕ) (d : Declaration) → declaration_at ss number ≡ Some d → IsDeclarationKept d
  declaration_kept number d h = by (slice_get (entries ss) number) (each_got IsEntryKept (entries ss) number (entries_kept (length ss))) h
    where
      by : (o : Option Entry) → IfSome o IsEntryKept → option_and_then entry_declaration o ≡ Some d → IsDeclarationKept d
      by None q e = absurd cc
      by (Some entry) q e = subst (λ o. IfSome o IsDeclarationKept) e q

  flag_kept : (number : ℕ) → is_flag (entries ss) number ≡ true → (d : Declaration) → declaration_at ss number ≡ Some d → IsPlaced d.item d.token × IsScopeKept d.scope
  flag_kept number is d at = declaration_kept number d at (flag_declared ss number d is at)

  -- the scopes that the clauses see
  set_scope : (k : ℕ) → is_set_begin ss k ≡ true → IsScopeKept (scopes.StateSet k)
  set_scope k is = ap scope_names.StateSet (set_placed k is)

  own_scope : (i : ℕ) (o : Outline) → slice_get ss i ≡ Some o → (o.clauses ≡ []) ⊎ IsScopeKept (scopes.State i)
  own_scope =
      everywhere (λ i. (o : Outline) → slice_get ss i ≡ Some o → (o.clauses ≡ []) ⊎ IsScopeKept (scopes.State i))
      (λ o at.
      let there : slice_get ss j ≡ Some (outline_of_item old was.0) = outline_here in
      let same : outline_of_item old was.0 ≡ o = cc in
      inl (subst (λ (o : Outline). o.clauses ≡ []) same replaced.no_clause))
      (λ i apart o at. inr (ap₂ scope_names.State (around_kept i) (placed_apart i apart 1)))

  -- a clause is of a kept item, and its variable in such a scope
  abbrev IsClauseKept : ItemClause × ClauseLink → Type 0
  IsClauseKept p = (p.0.item ≢ j) × IsMeant ss IsScopeKept refl set_scope p.1.variable

  clauses_kept : AllByRecursion IsClauseKept (resolved_clauses xs ss)
  clauses_kept =
      each_both (λ (p : ItemClause × ClauseLink). p.0.item ≢ j) (λ (p : ItemClause × ClauseLink). IsMeant ss IsScopeKept refl set_scope p.1.variable) (resolved_clauses xs ss) resolved_apart
      (resolved_meant ss IsScopeKept refl set_scope own_scope xs)

  channels_kept : (p : ItemClause × ClauseLink) → IsClauseKept p → AllByRecursion (IsChannelKept old text s xs ys ss) (channels_of_clause old xs p)
  channels_kept p clause = by p.1.is_sound
    where
      on : (o : Option ℕ) → IsMeant ss IsScopeKept refl set_scope o → (c : Clause) → AllByRecursion (IsChannelKept old text s xs ys ss) (channels_on old xs p.0.item o c)
      on (Some v) meant (clauses.Assign name channel) =
          let named = channels_in old (tokens_in xs p.0.item) channel in
          each_map (IsChannelKept old text s xs ys ss) (assigned_channel p.0.item name v) named
          (each_all (λ n. IsChannelKept old text s xs ys ss (assigned_channel p.0.item name v n)) named (λ n. record { item = kept p.0.item clause.0; scope = variable_scope_shifts s xs ys ss v meant }))
      on _ meant _ = tt

      by : (b : Bool) → AllByRecursion (IsChannelKept old text s xs ys ss) (if b then channels_on old xs p.0.item p.1.variable p.0.clause else [])
      by true = on p.1.variable clause.1 p.0.clause
      by false = tt

  rest_stays : RestStays old text s xs ys ss
  rest_stays = record {
    count = rep.count;
    headers = headers;
    settings = λ i l. settings i;
    flags = each_passing (λ number. flag_row_at ys ss number ≡ option_map (shifted_flag s) (flag_row_at xs ss number)) (is_flag (entries ss)) (length (entries ss))
        (λ number is. flag_shifts s xs ys ss number (λ d at. (flag_kept number is d at).1) (λ d at. (flag_kept number is d at).0));
    clauses = same_clauses;
    bytes = each_weaker (λ (p : ItemClause × ClauseLink). p.0.item ≢ j) (HasBytes old text xs ys) (λ p apart. (kept p.0.item apart).bytes) (resolved_clauses xs ss) resolved_apart;
    channels = each_flat IsClauseKept (IsChannelKept old text s xs ys ss) (channels_of_clause old xs) (resolved_clauses xs ss) channels_kept clauses_kept;
  }

  -- ---- rows

  pub same : assigned_channels text ys ss ≡ assigned_channels old xs ss
  same = same_channels old text s xs ys ss before rest_stays

  row_kept : (i : ℕ) → i ≢ j → is_named_state ss i ≡ true → IsRowKept old text s line xs ys i
  row_kept i apart is = record { item = kept i apart; lined = state_line old text s line xs ys i (rep.others i apart) (λ x at. rep.kept i x apart at) is }

  line_of_set : (k : ℕ) → is_set_begin ss k ≡ true → IsLineKept old text line xs ys k
  line_of_set k is =
      set_line old text s line xs ys k (rep.others k (set_apart k is)) (λ x at. rep.kept k x (set_apart k is) at) (set_named laws old xs read k is) is

  abbrev is_state_in : ℕ → ℕ → Bool
  is_state_in k i = is_named_state ss i && stands_in ss k i

  targets_meant : (bytes : List ℕ) (zs : List ProgramItem) (z : ProgramItem) → slice_get zs j ≡ Some z → (states : List ℕ) →
      target_numbers bytes zs ss states j ≡ filter_map (λ name. number_among states (state_of ss j name)) (map (λ (m : NameRef). m.name) (summary_of_item bytes z).targets)
  targets_meant bytes zs z at states =
      ap (λ (o : Option ProgramItem). option_map_or (λ (x : ProgramItem). filter_map (target_number ss states j) (summary_of_item bytes x).targets) o []) at
      ∙ kept_map (λ (m : NameRef). m.name) (λ name. number_among states (state_of ss j name)) (summary_of_item bytes z).targets

  faulty_at : (zs : List ProgramItem) (z : ProgramItem) → slice_get zs j ≡ Some z → is_faulty_item zs j ≡ is_none z.tree
  faulty_at zs z at = ap (λ (o : Option ProgramItem). option_map_or (λ (x : ProgramItem). is_none x.tree) o false) at

  elsewhere : is_named_state ss j ≡ false → (i : ℕ) → is_named_state ss i ≡ true → i ≢ j
  elsewhere unnamed i named here = false≢true (sym unnamed ∙ subst (λ m. is_named_state ss m ≡ true) here named)

  -- ---- the rows of sets that the state isn't in

  states_apart : (k : ℕ) → (stands_in ss k j ≡ true → ⊥) → AllByRecursion (λ i. i ≢ j) (states_in ss k)
  states_apart k out =
      each_passing (λ i. i ≢ j) (is_state_in k) (length ss)
      (λ i in_set here. out (subst (λ m. stands_in ss k m ≡ true) here (and_second (is_named_state ss i) (stands_in ss k i) in_set)))

  marks_outside : (k : ℕ) → (stands_in ss k j ≡ true → ⊥) → MarksStay old text xs ys ss k
  marks_outside k out = record {
    some_faulty = has_faulty_stays old text s xs ys ss k
        (everywhere (λ i. (is_faulty_item ys i && stands_in ss k i) ≡ (is_faulty_item xs i && stands_in ss k i))
        (and_none (is_faulty_item ys j) (is_faulty_item xs j) (stands_in ss k j) (false_from_ne_true (stands_in ss k j) out))
        (λ i apart. ap (λ b. b && stands_in ss k i) (faulty_stays old text s xs ys i (kept i apart))));
    targets = each_weaker (λ i. i ≢ j) (λ i. target_numbers text ys ss (states_in ss k) i ≡ target_numbers old xs ss (states_in ss k) i)
        (λ i apart. targets_stay old text s xs ys ss i (kept i apart) before (states_in ss k)) (states_in ss k) (states_apart k out);
  }

  set_shift : (k : ℕ) → is_set_begin ss k ≡ true → (stands_in ss k j ≡ true → ⊥) → set_row text ys ss k ≡ moved_set s line (set_row old xs ss k)
  set_shift k is out =
      set_shifts old text s xs ys ss before same k (marks_outside k out) line (set_placed k is) (line_of_set k is)
      (each_passing (IsRowKept old text s line xs ys) (is_state_in k) (length ss)
      (λ i in_set. row_kept i (λ here. out (subst (λ m. stands_in ss k m ≡ true) here (and_second (is_named_state ss i) (stands_in ss k i) in_set))) (and_first (is_named_state ss i) (stands_in ss k i) in_set)))

  tables_if : (sets : List SetRow) → set_rows text ys ss ≡ sets → tables_of text ys ≡ record (moved_tables s line (tables_of old xs)) { sets = sets }
  tables_if sets is = rep.tables ∙ tables_but_sets old text s xs ys ss before rest_stays line sets is

  tables_of_sets : ((k : ℕ) → is_set_begin ss k ≡ true → set_row text ys ss k ≡ moved_set s line (set_row old xs ss k)) → tables_of text ys ≡ moved_tables s line (tables_of old xs)
  tables_of_sets each =
      tables_if (map (moved_set s line) (set_rows old xs ss))
      (map_shift (moved_set s line) (set_row old xs ss) (set_row text ys ss) (all_below (is_set_begin ss) (length ss))
      (each_passing (λ k. set_row text ys ss k ≡ moved_set s line (set_row old xs ss k)) (is_set_begin ss) (length ss) each))

  -- ---- where it is in no set

  pub tables_outside : enclosing_set ss j ≡ None → tables_of text ys ≡ moved_tables s line (tables_of old xs)
  tables_outside nowhere = tables_of_sets (λ k is. set_shift k is (λ there. false≢true (sym (ap (λ o. option_map_or (nat_eq k) o false) nowhere) ∙ there)))

  -- ---- the row of its set

  module _ (set : ℕ) (stands : enclosing_set ss j ≡ Some set) where
    stands_here : stands_in ss set j ≡ true
    stands_here = ap (λ o. option_map_or (nat_eq set) o false) stands ∙ eq-eqb set set refl

    other_set : (k : ℕ) → k ≢ set → stands_in ss k j ≡ true → ⊥
    other_set k apart h = apart (eqb-true k set (sym (ap (λ o. option_map_or (nat_eq k) o false) stands) ∙ h))

    set_begins : is_set_begin ss set ≡ true
    set_begins = place_begins ss j set stands

    set_around : (states : List StateRow) → state_rows text ys ss set ≡ states → set_row text ys ss set ≡ record (moved_set s line (set_row old xs ss set)) { states = states }
    unfolding IsLineKept
    set_around states is =
        let name = set_placed set set_begins in
        let lined = line_of_set set set_begins in
        cc

    set_inside : set < length ss
    set_inside = is_within (λ s. begins_set s.role) ss set set_begins

    set_parts : Parts (λ k. set_row text ys ss k ≡ moved_set s line (set_row old xs ss k)) (is_set_begin ss) (length ss) set
    set_parts =
        parts_at (λ k. set_row text ys ss k ≡ moved_set s line (set_row old xs ss k)) (is_set_begin ss) (length ss) set set_inside set_begins
        (λ k l m is. set_shift k is (other_set k (λ same. omega (arith, same, l))))

    sets_around : (c : SetRow → SetRow) → set_row text ys ss set ≡ c (moved_set s line (set_row old xs ss set)) → set_rows text ys ss ≡ changed_at c (set_number ss set) (map (moved_set s line) (set_rows old xs ss))
    sets_around c here =
        let front = all_below (is_set_begin ss) set in
        ap (map (set_row text ys ss)) set_parts.whole
        ∙ row_changed (set_row text ys ss) (λ k. moved_set s line (set_row old xs ss k)) c front set set_parts.after
        (each_below (λ k. set_row text ys ss k ≡ moved_set s line (set_row old xs ss k)) (is_set_begin ss) set (λ k l is. set_shift k is (other_set k (λ same. omega (arith, same, l)))))
        here set_parts.each
        ∙ ap (changed_at c (set_number ss set))
        (map_twice (moved_set s line) (set_row old xs ss) (front ++ (set ∷ set_parts.after))
        ∙ ap (λ (l : List ℕ). map (moved_set s line) (map (set_row old xs ss) l)) (sym set_parts.whole))

    -- ---- its states, with the marks that they had

    abbrev unmarked : ℕ × ℕ → StateRow
    unmarked (n, i) = state_row text ys ss (mark_of old xs ss set n i) i

    abbrev shifted_row : ℕ × ℕ → StateRow
    shifted_row p = moved_state s line (numbered_row old xs ss set p)

    abbrev marks : List StateMark
    marks = marks_of text ys ss set

    unmarked_shifts : (i : ℕ) → IsRowKept old text s line xs ys i → (n : ℕ) → unmarked (n, i) ≡ shifted_row (n, i)
    unfolding IsLineKept
    unmarked_shifts i kept n = state_row_shifts old text s xs ys ss i kept.item before line (mark_of old xs ss set n i) same kept.lined

    states_marked : (states : List StateRow) → map unmarked (enumerate_from 0 (states_in ss set)) ≡ states → state_rows text ys ss set ≡ marked marks states
    states_marked states is =
        marked_rows (mark_of text ys ss set) (numbered_row text ys ss set) unmarked (λ n i. refl) 0 (states_in ss set)
        ∙ ap (marked marks) is

    -- ---- where it is no state with a name

    module _ (unnamed_here : is_named_state ss j ≡ false) where
      other_states : AllByRecursion (λ i. (n : ℕ) → unmarked (n, i) ≡ shifted_row (n, i)) (states_in ss set)
      other_states =
          each_passing (λ i. (n : ℕ) → unmarked (n, i) ≡ shifted_row (n, i)) (is_state_in set) (length ss)
          (λ i in_set.
          let named : is_named_state ss i ≡ true = and_first (is_named_state ss i) (stands_in ss set i) in_set in
          unmarked_shifts i (row_kept i (elsewhere unnamed_here i named) named))

      pub tables_in_set : tables_of text ys ≡ with_marks (moved_tables s line (tables_of old xs)) (set_number ss set) marks
      tables_in_set =
          let states = map (moved_state s line) (state_rows old xs ss set) in
          tables_if (changed_at (with_marks_in marks) (set_number ss set) (map (moved_set s line) (set_rows old xs ss)))
          (sets_around (with_marks_in marks)
          (set_around (marked marks states) (states_marked states (numbered_shift (moved_state s line) (numbered_row old xs ss set) unmarked 0 (states_in ss set) other_states))))

    -- ---- where it is one

    module _ (named_here : is_named_state ss j ≡ true) (y : ProgramItem) (here : slice_get ys j ≡ Some y) where
      abbrev number : ℕ
      number = state_number ss set j

      abbrev body : StateBody
      body = state_body text ss j y

      inside : j < length ss
      inside = let count = length-map xs (outline_of_item old) in omega (arith, count, rep.there)

      state_parts : Parts (λ i. IsRowKept old text s line xs ys i) (is_state_in set) (length ss) j
      state_parts =
          parts_at (λ i. IsRowKept old text s line xs ys i) (is_state_in set) (length ss) j inside (and_from (is_named_state ss j) (stands_in ss set j) named_here stands_here)
          (λ i l m is. row_kept i (λ same. omega (arith, same, l)) (and_first (is_named_state ss i) (stands_in ss set i) is))

      item_here : item_at ys j ≡ y
      item_here =
          let item : Option ProgramItem → ProgramItem = λ o. record { tokens = option_map_or (λ (x : ProgramItem). x.tokens) o []; tree = option_and_then (λ (x : ProgramItem). x.tree) o } in
          ap item here

      row_here : (m : StateMark) → state_row text ys ss m j ≡ with_own_wake (wake_of text ys ss j) (with_own_body body (moved_state s line (state_row old xs ss m j)))
      row_here m =
          let name = ap (λ (x : ProgramItem). (state_body text ss j x).name) item_here in
          let lined = ap (λ (x : ProgramItem). (state_body text ss j x).line) item_here in
          let options = ap (λ (x : ProgramItem). (state_body text ss j x).options) item_here in
          let transitions = ap (λ (x : ProgramItem). (state_body text ss j x).transitions) item_here in
          let gotos = ap (λ (x : ProgramItem). (state_body text ss j x).gotos) item_here in
          cc

      -- rows that are shifted but for its own
      rows_around : (row : ℕ × ℕ → StateRow) (c : StateRow → StateRow) → ((i : ℕ) → IsRowKept old text s line xs ys i → (n : ℕ) → row (n, i) ≡ shifted_row (n, i)) →
          row (number, j) ≡ c (shifted_row (number, j)) →
          map row (enumerate_from 0 (states_in ss set)) ≡ changed_at c number (map (moved_state s line) (state_rows old xs ss set))
      rows_around row c shifts own =
          let front = all_below (is_state_in set) j in
          let zero : number ≡ 0 + number = omega arith in
          let IsShifted : ℕ → Type 0 = λ i. (n : ℕ) → row (n, i) ≡ shifted_row (n, i) in
          ap (λ (l : List ℕ). map row (enumerate_from 0 l)) state_parts.whole
          ∙ numbered_changed row shifted_row c 0 front j state_parts.after
          (each_below IsShifted (is_state_in set) j (λ i l is. shifts i (row_kept i (λ same. omega (arith, same, l)) (and_first (is_named_state ss i) (stands_in ss set i) is))))
          (subst (λ n. row (n, j) ≡ c (shifted_row (n, j))) zero own)
          (each_weaker (IsRowKept old text s line xs ys) IsShifted shifts state_parts.after state_parts.each)
          ∙ ap (λ (l : List ℕ). changed_at c number (map shifted_row (enumerate_from 0 l))) (sym state_parts.whole)
          ∙ ap (changed_at c number) (map_twice (moved_state s line) (numbered_row old xs ss set) (enumerate_from 0 (states_in ss set)))

      abbrev wake : List WakeUp
      wake = wake_of text ys ss j

      pub tables_of_state : tables_of text ys ≡ with_marks (with_wake (with_body (moved_tables s line (tables_of old xs)) (set_number ss set) number body) (set_number ss set) number wake) (set_number ss set) marks
      tables_of_state =
          let k = set_number ss set in
          let sets = map (moved_set s line) (set_rows old xs ss) in
          let states = map (moved_state s line) (state_rows old xs ss set) in
          let new : StateRow → StateRow = λ row. with_own_wake wake (with_own_body body row) in
          let new_set : SetRow → SetRow = λ row. with_marks_in marks (with_wake_in number wake (with_body_in number body row)) in
          let twice : changed_at new number states ≡ changed_at (with_own_wake wake) number (changed_at (with_own_body body) number states) =
          sym (changed_twice (with_own_wake wake) (with_own_body body) number states) in
          tables_if (changed_at (with_marks_in marks) k (changed_at (with_wake_in number wake) k (changed_at (with_body_in number body) k sets)))
          (sets_around new_set
          (set_around (marked marks (changed_at (with_own_wake wake) number (changed_at (with_own_body body) number states)))
          (states_marked (changed_at (with_own_wake wake) number (changed_at (with_own_body body) number states))
          (rows_around unmarked new unmarked_shifts (row_here (mark_of old xs ss set number j)) ∙ twice)))
          ∙ sym (ap (changed_at (with_marks_in marks) k) (changed_twice (with_wake_in number wake) (with_body_in number body) k sets)
          ∙ changed_twice (with_marks_in marks) (λ row. with_wake_in number wake (with_body_in number body row)) k sets))

      -- ---- where it says what it said

      module _ (says : SaysAlikeAt old text xs ys j) where
        alike : SaysAlike old text was.0 y
        alike = says was.0 y was.1 here

        faulty : (i : ℕ) → is_faulty_item ys i ≡ is_faulty_item xs i
        faulty =
            everywhere (λ i. is_faulty_item ys i ≡ is_faulty_item xs i) (faulty_at ys y here ∙ alike.sound ∙ sym (faulty_at xs was.0 was.1))
            (λ i apart. faulty_stays old text s xs ys i (kept i apart))

        marks_stay : MarksStay old text xs ys ss set
        marks_stay =
            let name = λ (name : List ℕ). number_among (states_in ss set) (state_of ss j name) in
            record {
              some_faulty = has_faulty_stays old text s xs ys ss set (λ i. ap (λ b. b && stands_in ss set i) (faulty i));
              targets = each_all (λ i. target_numbers text ys ss (states_in ss set) i ≡ target_numbers old xs ss (states_in ss set) i) (states_in ss set)
                  (everywhere (λ i. target_numbers text ys ss (states_in ss set) i ≡ target_numbers old xs ss (states_in ss set) i)
                  (targets_meant text ys y here (states_in ss set) ∙ ap (filter_map name) alike.targets ∙ sym (targets_meant old xs was.0 was.1 (states_in ss set)))
                  (λ i apart. targets_stay old text s xs ys ss i (kept i apart) before (states_in ss set)));
            }

        -- what wakes it, by what its conditions say
        meant : List AssignedChannel → List ℕ × Option ℕ → Option WakeUp
        meant cs said = option_and_then (on_declaration ss cs said.1) (resolve_in ss j said.0)

        wakes_are : (bytes : List ℕ) (zs : List ProgramItem) (z : ProgramItem) → slice_get zs j ≡ Some z → (cs : List AssignedChannel) →
            wake_ups bytes zs ss cs j (uses_in bytes zs j) ≡ filter_map (meant cs) (wakes_of bytes z)
        unfolding meant
        wakes_are bytes zs z at cs =
            ap (λ (o : Option ProgramItem). filter_map (λ used. option_and_then (on_declaration ss cs used.subscript) (resolve_in ss j (token_bytes bytes (option_map_or (λ (x : ProgramItem). x.tokens) o []) used.token))) (option_map_or (told_in_item bytes) o nothing).wake_uses) at
            ∙ kept_map (used_by (token_bytes bytes z.tokens)) (meant cs) (told_in_item bytes z).wake_uses

        wakes_stay : wake_ups text ys ss (assigned_channels text ys ss) j (uses_in text ys j) ≡ wake_ups old xs ss (assigned_channels old xs ss) j (uses_in old xs j)
        wakes_stay =
            wakes_are text ys y here (assigned_channels text ys ss)
            ∙ ap₂ (λ (cs : List AssignedChannel) (uses : List (List ℕ × Option ℕ)). filter_map (meant cs) uses) same alike.wakes
            ∙ sym (wakes_are old xs was.0 was.1 (assigned_channels old xs ss))

        own_row : numbered_row text ys ss set (number, j) ≡ with_own_body body (shifted_row (number, j))
        own_row =
            let m = mark_of text ys ss set number j in
            let mark = same_mark old text s xs ys ss before same set marks_stay number j (faulty j) in
            let wake = wakes_stay in
            let row = row_here m in
            cc

        pub tables_inside : tables_of text ys ≡ with_body (moved_tables s line (tables_of old xs)) (set_number ss set) number body
        tables_inside =
            let states = changed_at (with_own_body body) number (map (moved_state s line) (state_rows old xs ss set)) in
            tables_if (changed_at (with_body_in number body) (set_number ss set) (map (moved_set s line) (set_rows old xs ss)))
            (sets_around (with_body_in number body)
            (set_around states (rows_around (numbered_row text ys ss set) (with_own_body body) (state_shifts old text s xs ys ss before same set marks_stay line) own_row)))

  -- ---- where the item is no state with a name

  module _ (unnamed : is_named_state ss j ≡ false) (sound : IsSoundAsItWas xs ys j) where
    still_faulty : (i : ℕ) → is_faulty_item ys i ≡ is_faulty_item xs i
    still_faulty =
        everywhere (λ i. is_faulty_item ys i ≡ is_faulty_item xs i) (faulty_at ys is.0 is.1 ∙ sound was.0 is.0 was.1 is.1 ∙ sym (faulty_at xs was.0 was.1))
        (λ i apart. faulty_stays old text s xs ys i (kept i apart))

    states_elsewhere : (k : ℕ) → AllByRecursion (λ i. i ≢ j) (states_in ss k)
    states_elsewhere k = each_passing (λ i. i ≢ j) (is_state_in k) (length ss) (λ i in_set. elsewhere unnamed i (and_first (is_named_state ss i) (stands_in ss k i) in_set))

    marks_all : (k : ℕ) → MarksStay old text xs ys ss k
    marks_all k = record {
      some_faulty = has_faulty_stays old text s xs ys ss k (λ i. ap (λ b. b && stands_in ss k i) (still_faulty i));
      targets = each_weaker (λ i. i ≢ j) (λ i. target_numbers text ys ss (states_in ss k) i ≡ target_numbers old xs ss (states_in ss k) i)
          (λ i apart. targets_stay old text s xs ys ss i (kept i apart) before (states_in ss k)) (states_in ss k) (states_elsewhere k);
    }

    set_stays : (k : ℕ) → is_set_begin ss k ≡ true → set_row text ys ss k ≡ moved_set s line (set_row old xs ss k)
    set_stays k begins =
        set_shifts old text s xs ys ss before same k (marks_all k) line (set_placed k begins) (line_of_set k begins)
        (each_passing (IsRowKept old text s line xs ys) (is_state_in k) (length ss)
        (λ i in_set. let named : is_named_state ss i ≡ true = and_first (is_named_state ss i) (stands_in ss k i) in_set in row_kept i (elsewhere unnamed i named) named))

    pub tables_around : tables_of text ys ≡ moved_tables s line (tables_of old xs)
    tables_around = tables_of_sets set_stays
