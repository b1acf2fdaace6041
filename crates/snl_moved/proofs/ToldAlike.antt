-- Where all means to the items of a text what it meant, but for names that none of them uses, and
-- names of states that none leads to, the rows are told by what the items said to each other as by
-- what they say: `ss` are the outlines that were, `ts` those that are.
use Rattle.std.proofs.Common.{◌≡◌, ℕ, suc, ◌&&◌, Bool, true, false, not, cond, List, [], ◌∷◌, ◌++◌, filter, length, map, slice_get, nat_eq, position, Option, Some, None, inl, inr, if◌then◌else◌, refl, sym, subst, ap, ap₂, ◌∙◌}
use Rattle.std.specs.List.{AllByRecursion, cons_option, enumerate_from, filter_map, flat_map, list_any, zip}
use Rattle.std.specs.Option.{is_some, option_and_then, option_map, option_map_or}
use Rattle.std.specs.Str.{bytes_eq}
use Rattle.std.proofs.lemmas.Bool.{false≢true, or_cases, or_parts}
use Rattle.std.proofs.lemmas.Slice.Eq.{bytes_eq-Decides}
use Rattle.snl_facts.specs.Each.{each_front, each_rear, each_unmap, each_weaker}
use Rattle.snl_lex.specs.declared.piece.Piece.{Piece}
use Rattle.snl_lex.specs.Lines.{line_at}
use Rattle.snl_grammar.specs.declared.tree.item.Item.{Item}
use Rattle.snl_grammar.specs.declared.tree.item.Item.TheVariants as items
use Rattle.snl_grammar.specs.declared.tree.state.StateMember.{StateMember}
use Rattle.snl_grammar.specs.declared.tree.state.StateMember.TheVariants as members
use Rattle.snl_grammar.specs.declared.tree.state.Target.{Target}
use Rattle.snl_grammar.specs.declared.tree.state.Target.TheVariants as target
use Rattle.snl_walk.specs.declared.occurrence.Manner.{Manner}
use Rattle.snl_walk.specs.declared.occurrence.Occurrence.{Occurrence}
use Rattle.snl_walk.specs.declared.occurrence.What.{What}
use Rattle.snl_walk.specs.declared.occurrence.What.TheVariants as what
use Rattle.snl_walk.specs.declared.used.WakeUse.{WakeUse}
use Rattle.snl_walk.specs.Declares.{declared_by_state}
use Rattle.snl_walk.specs.Expressions.{names_if}
use Rattle.snl_walk.specs.Items.{found_in_member, found_in_target, in_transition, occurrences}
use Rattle.snl_walk.specs.Once.{once_after, with_new}
use Rattle.snl_walk.specs.Scopes.{Names, seen, under_names}
use Rattle.snl_walk.specs.Statements.{found_in_block}
use Rattle.snl_walk.specs.Tokens.{token_bytes}
use Rattle.snl_walk.specs.Uses.{is_call, is_use, target_uses_after, targets, uses, wake_use, wake_uses, waking}
use Rattle.snl_scope.specs.declared.facts.ClauseLink.{ClauseLink}
use Rattle.snl_scope.specs.declared.facts.Declaration.{Declaration}
use Rattle.snl_scope.specs.declared.facts.Scope.{Scope}
use Rattle.snl_scope.specs.declared.facts.Scope.TheVariants as scope
use Rattle.snl_summary.specs.declared.summary.NameRef.{NameRef}
use Rattle.snl_summary.specs.declared.summary.Outline.{Outline}
use Rattle.snl_summary.specs.declared.summary.Summary.{Summary}
use Rattle.snl_scope.specs.Below.{all_below, any_below}
use Rattle.snl_scope.specs.BelowLaws.{all_below_same, any_below_same}
use Rattle.snl_scope.specs.Channels.{is_monitored, sync_number}
use Rattle.snl_scope.specs.Clauses.{resolve_in}
use Rattle.snl_scope.specs.Flags.{flag_number, flags_of}
use Rattle.snl_scope.specs.Linked.{declaration_at}
use Rattle.snl_scope.specs.Order.{is_named_state}
use Rattle.snl_scope.specs.Places.{is_set_begin, stands_in}
use Rattle.snl_scope.specs.Renamed.{ClausesAlike, MeanAlike}
use Rattle.snl_scope.specs.Spoken.{is_among, meets}
use Rattle.snl_summary.specs.Summaries.{occurrences_in}
use Rattle.snl_summary.specs.Summaries.Tokens.{name_ref_at}
use Rattle.snl_tables.specs.declared.rows.ChannelRow.{ChannelRow}
use Rattle.snl_tables.specs.declared.rows.Destination.{Destination}
use Rattle.snl_tables.specs.declared.rows.Destination.TheVariants as destinations
use Rattle.snl_tables.specs.declared.rows.FlagRow.{FlagRow}
use Rattle.snl_tables.specs.declared.rows.NamedState.{NamedState}
use Rattle.snl_tables.specs.declared.rows.OptionRow.{OptionRow}
use Rattle.snl_tables.specs.declared.rows.ScopeName.{ScopeName}
use Rattle.snl_tables.specs.declared.rows.ScopeName.TheVariants as named
use Rattle.snl_tables.specs.declared.rows.SetRow.{SetRow}
use Rattle.snl_tables.specs.declared.rows.StateBody.{StateBody}
use Rattle.snl_tables.specs.declared.rows.StateMark.{StateMark}
use Rattle.snl_tables.specs.declared.rows.StateRow.{StateRow}
use Rattle.snl_tables.specs.declared.rows.Synced.{Synced}
use Rattle.snl_tables.specs.declared.rows.Tables.{Tables}
use Rattle.snl_tables.specs.declared.rows.WakeUp.{WakeUp}
use Rattle.snl_check.specs.Channels.{AssignedChannel, assigned_channels, channels_of_clause, joined, variables_before}
use Rattle.snl_check.specs.Clauses.{ItemClause, item_clauses, resolved_clauses}
use Rattle.snl_check.specs.Conditions.{by_flag, on_declaration, on_variable, uses_in, wake_up, wake_ups}
use Rattle.snl_check.specs.ItemSpans.{item_name, program_name, span_at, span_of}
use Rattle.snl_check.specs.Members.{has_faulty, is_faulty_item, number_among, states_in, target_number, target_numbers, targets_among}
use Rattle.snl_check.specs.Reach.{is_reached}
use Rattle.snl_check.specs.Settings.{LetterSetting, letters_of_program, option_rows, program_options, setting_at, setting_in_tree, state_options}
use Rattle.snl_check.specs.States.{by_statements, destination, destinations_in_member, first_mark, gotos_in, is_reached_in, is_repeated, item_at, line_of_item, mark_of, members_in, named_state, numbered_row, set_row, set_rows, state_body, state_rows, wake_of}
use Rattle.snl_check.specs.Tables.{channel_row, channel_rows, flag_row, flag_row_at, flag_rows, scope_name, scope_of_variable, sync_of, synced, synced_by, tables_by, variables_of}
use Rattle.snl_item_check.specs.Items.{ProgramItem, summary_of_item, tokens_in, tree_in}
use Rattle.snl_item_check.specs.Told.{nothing, told_by, told_in_item}
use Rattle.snl_item_check.specs.View.{is_in_set}
use Rattle.snl_moved.proofs.ShiftLists.{gathered_same, kept_same, map_same}
use Rattle.snl_moved.proofs.SpanLaws.{each_all}
use Rattle.snl_moved.proofs.Targets.{each_by_statements, targets_in_back, targets_in_front}
use Rattle.snl_check.specs.TargetLaws.{uses_at_targets}

-- ---- what holds of each different name holds of each name

module _ (P : List ℕ → Type 0) where
  each_among : (name : List ℕ) (names : List (List ℕ)) → list_any (bytes_eq name) names ≡ true → AllByRecursion P names → P name
  each_among name [] is h = absurd (false≢true is)
  each_among name (n ∷ ns) is h =
      elim (or_cases (bytes_eq name n) (list_any (bytes_eq name) ns) is) [ inl e ↦ subst P (sym ((bytes_eq-Decides name n).0 e)) h.0 | inr e ↦ each_among name ns e h.1 ]

  taken : (name : List ℕ) (names : List (List ℕ)) (b : Bool) → list_any (bytes_eq name) names ≡ b → AllByRecursion P (cond b names (names ++ name ∷ [])) → AllByRecursion P names × P name
  taken name names true is h = (h, each_among name names is h)
  taken name names false is h = (each_front P names (name ∷ []) h, (each_rear P names (name ∷ []) h).0)

  each_once_after : (found names : List (List ℕ)) → AllByRecursion P (once_after found names) → AllByRecursion P found × AllByRecursion P names
  each_once_after found [] h = (h, tt)
  each_once_after found (n ∷ ns) h =
      let rest = each_once_after (with_new found n) ns h in
      let here = taken n found (list_any (bytes_eq n) found) refl rest.0 in
      (here.0, (here.1, rest.1))

-- ---- what an item uses or leads to is none of the names that it doesn't meet

none_passes : {X : Type 0} (test : X → Bool) (xs : List X) → list_any test xs ≡ false → AllByRecursion (λ x. test x ≡ false) xs
none_passes test [] h = tt
none_passes test (x ∷ xs) h =
    let parts = or_parts (test x) (list_any test xs) h in
    (parts.0, none_passes test xs parts.1)

unmet : (used led_to : List (List ℕ)) (s : Summary) → meets used led_to s ≡ false → AllByRecursion (λ name. is_among used name ≡ false) s.uses × AllByRecursion (λ (t : NameRef). is_among led_to t.name ≡ false) s.targets
unmet used led_to s h =
    let leads : NameRef → Bool = λ t. is_among led_to t.name in
    let parts = or_parts (list_any (is_among used) s.uses) (list_any leads s.targets) h in
    (none_passes (is_among used) s.uses parts.0, none_passes leads s.targets parts.1)

-- ---- what the conditions of an item use is among what the item uses

module _ (P : ℕ → Type 0) (bytes : ℕ → List ℕ) where
  abbrev EachWaking : List WakeUse → Type 0
  EachWaking us = AllByRecursion (λ (u : WakeUse). P u.token) us

  each_waking : (os : List Occurrence) → AllByRecursion P (uses os) → EachWaking (wake_uses bytes os)
  each_waking [] h = tt
  each_waking (o ∷ os) h = by o.what (each_waking os) h
    where
      used : (m : Manner) (in_condition called : Bool) → (AllByRecursion P (uses os) → EachWaking (wake_uses bytes os)) →
          AllByRecursion P (map (λ (k : Occurrence). k.token) (cond (not called) (o ∷ filter (λ k. is_use k.what) os) (filter (λ k. is_use k.what) os))) →
          EachWaking (cons_option (if in_condition && not called then Some (wake_use bytes o.token m) else None) (wake_uses bytes os))
      used m true true rest h = rest h
      used m true false rest h = (h.0, rest h.1)
      used m false true rest h = rest h
      used m false false rest h = rest h.1

      by : (w : What) → (AllByRecursion P (uses os) → EachWaking (wake_uses bytes os)) →
          AllByRecursion P (map (λ (k : Occurrence). k.token) (cond (is_use w) (o ∷ filter (λ k. is_use k.what) os) (filter (λ k. is_use k.what) os))) →
          EachWaking (cons_option (waking bytes o.token w) (wake_uses bytes os))
      by (what.Name m) rest h = used m m.in_condition (is_call m.follows) rest h
      by w rest h = rest h

module _ (text : List ℕ) (ys : List ProgramItem) (ss ts : List Outline) (used led_to : List (List ℕ)) (means : MeanAlike ss ts used led_to) (says : ClausesAlike ss ts)
    (silent : (i : ℕ) (y : ProgramItem) → slice_get ys i ≡ Some y → meets used led_to (summary_of_item text y) ≡ false) where
  -- ---- what the items use and lead to

  abbrev IsUnused : List ℕ → Type 0
  IsUnused name = is_among used name ≡ false

  abbrev IsOther : List ℕ → Type 0
  IsOther name = is_among led_to name ≡ false

  others : (i : ℕ) (y : ProgramItem) → slice_get ys i ≡ Some y → AllByRecursion IsUnused (summary_of_item text y).uses × AllByRecursion (λ (t : NameRef). IsOther t.name) (summary_of_item text y).targets
  others i y at = unmet used led_to (summary_of_item text y) (silent i y at)

  -- the bytes of item i's tokens
  abbrev bytes_in : ℕ → ℕ → List ℕ
  bytes_in i = token_bytes text (tokens_in ys i)

  abbrev IsUnusedAt : ℕ → ℕ → Type 0
  IsUnusedAt i n = IsUnused (bytes_in i n)

  abbrev IsOtherAt : ℕ → ℕ → Type 0
  IsOtherAt i n = IsOther (bytes_in i n)

  targets_other : (i : ℕ) → AllByRecursion (IsOtherAt i) (targets (occurrences_in (bytes_in i) (tree_in ys i)))
  targets_other i = by (slice_get ys i) refl
    where
      by : (o : Option ProgramItem) → slice_get ys i ≡ o →
          AllByRecursion (λ n. IsOther (token_bytes text (option_map_or (λ (x : ProgramItem). x.tokens) o []) n))
          (targets (occurrences_in (token_bytes text (option_map_or (λ (x : ProgramItem). x.tokens) o [])) (option_and_then (λ (x : ProgramItem). x.tree) o)))
      by None at = tt
      by (Some y) at = each_unmap (λ (t : NameRef). IsOther t.name) (name_ref_at text y.tokens) (targets (occurrences_in (token_bytes text y.tokens) y.tree)) (others i y at).1

  -- ---- options

  in_set : (i : ℕ) → is_in_set ts i ≡ is_in_set ss i
  unfolding is_in_set
  in_set i = ap (λ (o : Option ℕ). is_some o) (means.places i)

  setting_alike : (i : ℕ) → setting_at text ys ts i ≡ setting_at text ys ss i
  setting_alike i =
      let setting : Bool → Option LetterSetting = λ within. if within then None else option_and_then (setting_in_tree (token_bytes text (tokens_in ys i))) (tree_in ys i) in
      ap setting (in_set i)

  options_alike : program_options text ys ts ≡ program_options text ys ss
  options_alike = ap (option_rows letters_of_program) (gathered_same (setting_at text ys ts) (setting_at text ys ss) (length ys) (λ i l. setting_alike i))

  -- ---- scopes and event flags

  scope_alike : (c : Scope) → scope_name ys ts c ≡ scope_name ys ss c
  scope_alike scope.Program = refl
  scope_alike (scope.StateSet set) = refl
  scope_alike (scope.State state) = ap (λ (o : Option ℕ). named.State (option_map (item_name ys) o) (item_name ys state)) (means.places state)

  variable_scope_alike : (number : ℕ) → scope_of_variable ys ts number ≡ scope_of_variable ys ss number
  variable_scope_alike number = ap (λ (o : Option Declaration). option_map_or (λ (d : Declaration). scope_name ys ts d.scope) o named.Program) (means.declared number) ∙ by (declaration_at ss number)
    where
      by : (o : Option Declaration) → option_map_or (λ (d : Declaration). scope_name ys ts d.scope) o named.Program ≡ option_map_or (λ (d : Declaration). scope_name ys ss d.scope) o named.Program
      by None = refl
      by (Some d) = scope_alike d.scope

  flag_row_alike : (number : ℕ) → flag_row_at ys ts number ≡ flag_row_at ys ss number
  flag_row_alike number = ap (option_map (flag_row ys ts)) (means.declared number) ∙ by (declaration_at ss number)
    where
      by : (o : Option Declaration) → option_map (flag_row ys ts) o ≡ option_map (flag_row ys ss) o
      by None = refl
      by (Some d) =
          let row : ScopeName → Option FlagRow = λ c. Some (record { name = span_at ys d.item d.token; scope = c }) in
          ap row (scope_alike d.scope)

  flags_alike : flag_rows ys ts ≡ flag_rows ys ss
  flags_alike =
      ap (filter_map (flag_row_at ys ts)) says.flags
      ∙ kept_same (flag_row_at ys ts) (flag_row_at ys ss) (flags_of ss) (each_all (λ number. flag_row_at ys ts number ≡ flag_row_at ys ss number) (flags_of ss) flag_row_alike)

  flag_number_alike : (number : ℕ) → flag_number ts number ≡ flag_number ss number
  flag_number_alike number = ap (λ (l : List ℕ). option_map suc (position (nat_eq number) l)) says.flags

  -- ---- clauses and channels

  resolved_alike : resolved_clauses ys ts ≡ resolved_clauses ys ss
  resolved_alike = ap (λ (l : List ClauseLink). zip (item_clauses ys) l) says.clauses

  assigned_alike : assigned_channels text ys ts ≡ assigned_channels text ys ss
  assigned_alike = ap (flat_map (channels_of_clause text ys)) resolved_alike

  variables_alike : variables_of text ys ts ≡ variables_of text ys ss
  variables_alike = ap₂ variables_before assigned_alike means.numbers

  synced_alike : (p : ItemClause × ClauseLink) → synced text ys ts p ≡ synced text ys ss p
  synced_alike p = ap (λ (o : Option ℕ). synced_by text (tokens_in ys p.0.item) o p.0.clause) (by p.1.flag)
    where
      by : (o : Option ℕ) → option_and_then (flag_number ts) o ≡ option_and_then (flag_number ss) o
      by None = refl
      by (Some number) = flag_number_alike number

  abbrev synced_at : List Outline → ℕ → Option Synced
  synced_at os number = option_and_then (synced text ys os) (slice_get (resolved_clauses ys os) number)

  synced_at_alike : (number : ℕ) → synced_at ts number ≡ synced_at ss number
  synced_at_alike number = ap (λ (l : List (ItemClause × ClauseLink)). option_and_then (synced text ys ts) (slice_get l number)) resolved_alike ∙ by (slice_get (resolved_clauses ys ss) number)
    where
      by : (o : Option (ItemClause × ClauseLink)) → option_and_then (synced text ys ts) o ≡ option_and_then (synced text ys ss) o
      by None = refl
      by (Some p) = synced_alike p

  sync_alike : (variable : ℕ) (element : Option ℕ) → sync_of text ys ts variable element ≡ sync_of text ys ss variable element
  sync_alike variable element = ap (option_and_then (synced_at ts)) (says.syncs variable element) ∙ by (sync_number ss variable element)
    where
      by : (o : Option ℕ) → option_and_then (synced_at ts) o ≡ option_and_then (synced_at ss) o
      by None = refl
      by (Some number) = synced_at_alike number

  channel_alike : (c : AssignedChannel) → channel_row text ys ts c ≡ channel_row text ys ss c
  channel_alike c =
      let row : ScopeName → Bool → Option Synced → ChannelRow = λ scope is_monitored sync. record {
        variable = span_at ys c.item c.token;
        element = c.element;
        scope = scope;
        pv = joined text (tokens_in ys c.item) c.strings;
        is_monitored = is_monitored;
        sync = sync;
      } in
      ap₂ (λ (scope : ScopeName) (monitored : Bool). row scope monitored (sync_of text ys ts c.variable c.element)) (variable_scope_alike c.variable) (says.monitored c.variable c.element)
      ∙ ap (row (scope_of_variable ys ss c.variable) (is_monitored ss c.variable c.element)) (sync_alike c.variable c.element)

  channels_alike : channel_rows text ys ts ≡ channel_rows text ys ss
  channels_alike =
      ap (map (channel_row text ys ts)) assigned_alike
      ∙ map_same (channel_row text ys ts) (channel_row text ys ss) (assigned_channels text ys ss)
      (each_all (λ c. channel_row text ys ts c ≡ channel_row text ys ss c) (assigned_channels text ys ss) channel_alike)

  -- ---- marks

  stands_alike : (k i : ℕ) → stands_in ts k i ≡ stands_in ss k i
  stands_alike k i = ap (λ (o : Option ℕ). option_map_or (nat_eq k) o false) (means.places i)

  abbrev is_state_in : List Outline → ℕ → ℕ → Bool
  is_state_in os k i = is_named_state os i && stands_in os k i

  states_alike : (k : ℕ) → states_in ts k ≡ states_in ss k
  states_alike k =
      all_below_same (is_state_in ts k) (is_state_in ss k) (length ts) (λ i l. ap₂ (λ (a b : Bool). a && b) (means.named i) (stands_alike k i))
      ∙ ap (all_below (is_state_in ss k)) means.count

  some_faulty_alike : (k : ℕ) → has_faulty ys ts k ≡ has_faulty ys ss k
  some_faulty_alike k =
      any_below_same (λ i. is_faulty_item ys i && stands_in ts k i) (λ i. is_faulty_item ys i && stands_in ss k i) (length ts) (λ i l. ap (λ b. is_faulty_item ys i && b) (stands_alike k i))
      ∙ ap (any_below (λ i. is_faulty_item ys i && stands_in ss k i)) means.count

  targets_alike : (states : List ℕ) (j : ℕ) → target_numbers text ys ts states j ≡ target_numbers text ys ss states j
  targets_alike states j = by (slice_get ys j) refl
    where
      by : (o : Option ProgramItem) → slice_get ys j ≡ o → option_map_or (λ (x : ProgramItem). filter_map (target_number ts states j) (summary_of_item text x).targets) o []
          ≡ option_map_or (λ (x : ProgramItem). filter_map (target_number ss states j) (summary_of_item text x).targets) o []
      by None at = refl
      by (Some x) at =
          let leads = (summary_of_item text x).targets in
          kept_same (target_number ts states j) (target_number ss states j) leads
          (each_weaker (λ (t : NameRef). IsOther t.name) (λ t. target_number ts states j t ≡ target_number ss states j t) (λ t other. ap (number_among states) (means.states j t.name other)) leads (others j x at).1)

  reached_alike : (k number : ℕ) → is_reached_in text ys ts k number ≡ is_reached_in text ys ss k number
  reached_alike k number =
      let states = states_in ss k in
      ap (λ (l : List (List ℕ)). is_reached l number)
      (ap (targets_among text ys ts) (states_alike k)
      ∙ map_same (target_numbers text ys ts states) (target_numbers text ys ss states) states
      (each_all (λ j. target_numbers text ys ts states j ≡ target_numbers text ys ss states j) states (targets_alike states)))

  mark_alike : (k number j : ℕ) → mark_of text ys ts k number j ≡ mark_of text ys ss k number j
  mark_alike k number j =
      ap₂ (λ (first unknown : Bool). first_mark (is_faulty_item ys j) (not first) unknown (is_reached_in text ys ts k number)) (means.firsts j) (some_faulty_alike k)
      ∙ ap (first_mark (is_faulty_item ys j) (is_repeated ss j) (has_faulty ys ss k)) (reached_alike k number)

  -- ---- what wakes a state up

  conditions_unused : (item : ℕ) → AllByRecursion (λ (u : WakeUse). IsUnusedAt item u.token) (uses_in text ys item)
  conditions_unused item = by (slice_get ys item) refl
    where
      by_tree : (tokens : List Piece) (tree : Option Item) → AllByRecursion IsUnused (map (token_bytes text tokens) (uses (occurrences_in (token_bytes text tokens) tree))) →
          AllByRecursion (λ (u : WakeUse). IsUnused (token_bytes text tokens u.token)) (option_map_or (told_by (token_bytes text tokens)) tree nothing).wake_uses
      by_tree tokens None h = tt
      by_tree tokens (Some tree) h =
          let found = occurrences (token_bytes text tokens) tree in
          each_waking (λ n. IsUnused (token_bytes text tokens n)) (token_bytes text tokens) found (each_unmap IsUnused (token_bytes text tokens) (uses found) h)

      by : (o : Option ProgramItem) → slice_get ys item ≡ o →
          AllByRecursion (λ (u : WakeUse). IsUnused (token_bytes text (option_map_or (λ (x : ProgramItem). x.tokens) o []) u.token)) (option_map_or (told_in_item text) o nothing).wake_uses
      by None at = tt
      by (Some y) at =
          let spelled = map (token_bytes text y.tokens) (uses (occurrences_in (token_bytes text y.tokens) y.tree)) in
          by_tree y.tokens y.tree (each_once_after IsUnused [] spelled (others item y at).0).1

  meant_alike : (cs : List AssignedChannel) (item : ℕ) (u : WakeUse) → IsUnusedAt item u.token → wake_up text ys ts cs item u ≡ wake_up text ys ss cs item u
  meant_alike cs item u other =
      let name = bytes_in item u.token in
      ap (option_and_then (on_declaration ts cs u.subscript)) (means.resolved item name other) ∙ by (resolve_in ss item name)
    where
      by : (o : Option ℕ) → option_and_then (on_declaration ts cs u.subscript) o ≡ option_and_then (on_declaration ss cs u.subscript) o
      by None = refl
      by (Some number) = ap (λ (o : Option ℕ). by_flag o (on_variable cs u.subscript number)) (flag_number_alike number)

  wake_alike : (item : ℕ) → wake_of text ys ts item ≡ wake_of text ys ss item
  wake_alike item =
      let cs = assigned_channels text ys ss in
      let waking_uses = uses_in text ys item in
      ap (λ (cs : List AssignedChannel). wake_ups text ys ts cs item (uses_in text ys item)) assigned_alike
      ∙ kept_same (wake_up text ys ts cs item) (wake_up text ys ss cs item) waking_uses
      (each_weaker (λ (u : WakeUse). IsUnusedAt item u.token) (λ u. wake_up text ys ts cs item u ≡ wake_up text ys ss cs item u) (meant_alike cs item) waking_uses (conditions_unused item))

  -- ---- the rows of state sets

  module _ (item : ℕ) where
    abbrev named_by : List Outline → ℕ → NamedState
    named_by os = named_state text (tokens_in ys item) os item

    abbrev led_by : List Outline → StateMember → List Destination
    led_by os = destinations_in_member text (tokens_in ys item) os item

    named_alike : (n : ℕ) → IsOtherAt item n → named_by ts n ≡ named_by ss n
    named_alike n other =
        let state : Bool → NamedState = λ is_known. record { name = span_of (slice_get (tokens_in ys item) n); is_known = is_known } in
        ap state (means.targets item (bytes_in item n) other)

    destination_alike : (t : Target) → AllByRecursion (IsOtherAt item) (targets (found_in_target t)) → destination text (tokens_in ys item) ts item t ≡ destination text (tokens_in ys item) ss item t
    destination_alike (target.State name) h = ap destinations.State (named_alike name h.0)
    destination_alike target.Exit h = refl

    module _ (visible : Names) where
      member_alike : (m : StateMember) → AllByRecursion (IsOtherAt item) (targets (found_in_member (bytes_in item) visible m)) → led_by ts m ≡ led_by ss m
      member_alike (members.When t) h =
          let before = map (seen (bytes_in item) visible true) (names_if t.condition) ++ found_in_block (bytes_in item) t.block visible in_transition in
          ap (λ (d : Destination). d ∷ []) (destination_alike t.target (targets_in_back (IsOtherAt item) before (found_in_target t.target) h))
      member_alike m h = refl

      members_alike : (ms : List StateMember) → AllByRecursion (IsOtherAt item) (targets (flat_map (found_in_member (bytes_in item) visible) ms)) → flat_map (led_by ts) ms ≡ flat_map (led_by ss) ms
      members_alike [] h = refl
      members_alike (m ∷ ms) h =
          let found = found_in_member (bytes_in item) visible m in
          let rest = flat_map (found_in_member (bytes_in item) visible) ms in
          ap₂ (λ (first further : List Destination). first ++ further) (member_alike m (targets_in_front (IsOtherAt item) found rest h)) (members_alike ms (targets_in_back (IsOtherAt item) found rest h))

    transitions_alike : (tree : Option Item) → AllByRecursion (IsOtherAt item) (targets (occurrences_in (bytes_in item) tree)) → flat_map (led_by ts) (members_in tree) ≡ flat_map (led_by ss) (members_in tree)
    unfolding occurrences
    transitions_alike (Some (items.StateBlock name ms)) h = members_alike (under_names (bytes_in item) (declared_by_state (bytes_in item) ms)) ms h
    transitions_alike tree h = refl

    gotos_other : (tree : Option Item) → AllByRecursion (IsOtherAt item) (targets (occurrences_in (bytes_in item) tree)) →
        AllByRecursion (IsOtherAt item) (by_statements (option_map_or (told_by (bytes_in item)) tree nothing).target_uses)
    gotos_other None h = tt
    gotos_other (Some tree) h =
        let found = occurrences (bytes_in item) tree in
        each_by_statements (IsOtherAt item) (target_uses_after false found) (subst (AllByRecursion (IsOtherAt item)) (sym (uses_at_targets false found)) h)

    body_alike : state_body text ts item (item_at ys item) ≡ state_body text ss item (item_at ys item)
    body_alike =
        let tree = tree_in ys item in
        let stated = gotos_in text (item_at ys item) in
        let body : List Destination → List NamedState → StateBody = λ transitions gotos. record {
          name = span_of (slice_get (tokens_in ys item) 1);
          line = line_at text (span_of (slice_get (tokens_in ys item) 0)).start;
          options = state_options (bytes_in item) (members_in tree);
          transitions = transitions;
          gotos = gotos;
        } in
        ap₂ body (transitions_alike tree (targets_other item))
        (map_same (named_by ts) (named_by ss) stated (each_weaker (IsOtherAt item) (λ n. named_by ts n ≡ named_by ss n) named_alike stated (gotos_other tree (targets_other item))))

  row_alike : (k : ℕ) (p : ℕ × ℕ) → numbered_row text ys ts k p ≡ numbered_row text ys ss k p
  row_alike k p =
      let row : StateMark → StateBody → List WakeUp → StateRow = λ mark body wake. record {
        name = item_name ys p.1;
        line = line_of_item text ys p.1;
        mark = mark;
        options = body.options;
        transitions = body.transitions;
        gotos = body.gotos;
        wake = wake;
      } in
      ap₂ (λ (mark : StateMark) (body : StateBody). row mark body (wake_of text ys ts p.1)) (mark_alike k p.0 p.1) (body_alike p.1)
      ∙ ap (row (mark_of text ys ss k p.0 p.1) (state_body text ss p.1 (item_at ys p.1))) (wake_alike p.1)

  rows_alike : (k : ℕ) → state_rows text ys ts k ≡ state_rows text ys ss k
  rows_alike k =
      let counted = enumerate_from 0 (states_in ss k) in
      ap (λ (js : List ℕ). map (numbered_row text ys ts k) (enumerate_from 0 js)) (states_alike k)
      ∙ map_same (numbered_row text ys ts k) (numbered_row text ys ss k) counted (each_all (λ (p : ℕ × ℕ). numbered_row text ys ts k p ≡ numbered_row text ys ss k p) counted (row_alike k))

  set_alike : (k : ℕ) → set_row text ys ts k ≡ set_row text ys ss k
  set_alike k =
      let row : List StateRow → SetRow = λ states. record { name = item_name ys k; line = line_of_item text ys k; states = states } in
      ap row (rows_alike k)

  sets_alike : set_rows text ys ts ≡ set_rows text ys ss
  sets_alike =
      let begins = all_below (is_set_begin ss) (length ss) in
      ap (map (set_row text ys ts)) (all_below_same (is_set_begin ts) (is_set_begin ss) (length ts) (λ k l. means.begins k) ∙ ap (all_below (is_set_begin ss)) means.count)
      ∙ map_same (set_row text ys ts) (set_row text ys ss) begins (each_all (λ k. set_row text ys ts k ≡ set_row text ys ss k) begins set_alike)

  -- ---- all rows

  pub told_alike : tables_by text ys ts ≡ tables_by text ys ss
  told_alike =
      let tables : List OptionRow → List FlagRow → List ChannelRow → List (List ℕ) → List SetRow → Tables = λ options flags channels variables sets. record {
        program = program_name ys;
        options = options;
        flags = flags;
        channels = channels;
        variables = variables;
        sets = sets;
      } in
      ap₂ (λ (options : List OptionRow) (flags : List FlagRow). tables options flags (channel_rows text ys ts) (variables_of text ys ts) (set_rows text ys ts)) options_alike flags_alike
      ∙ ap₂ (λ (channels : List ChannelRow) (variables : List (List ℕ)). tables (program_options text ys ss) (flag_rows ys ss) channels variables (set_rows text ys ts)) channels_alike variables_alike
      ∙ ap (tables (program_options text ys ss) (flag_rows ys ss) (channel_rows text ys ss) (variables_of text ys ss)) sets_alike
