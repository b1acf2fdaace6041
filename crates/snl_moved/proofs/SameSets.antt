-- The row of a state set goes by what the items of the set are and by what names mean to them: where
-- these are the same in two texts, so is the row. `ss` and `ts` are what the items say to each other.
use Rattle.std.proofs.Common.{◌≡◌, ℕ, suc, Bool, not, List, [], ◌∷◌, map, slice_get, nat_eq, position, Option, None, Some, refl, sym, ap, ap₂, ◌∙◌}
use Rattle.std.specs.List.{AllByRecursion, enumerate_from, filter_map, flat_map}
use Rattle.std.specs.Option.{option_and_then, option_map}
use Rattle.snl_facts.specs.Each.{each_weaker}
use Rattle.snl_lex.specs.declared.piece.Piece.{Piece}
use Rattle.snl_grammar.specs.declared.tree.item.Item.{Item}
use Rattle.snl_grammar.specs.declared.tree.state.StateMember.{StateMember}
use Rattle.snl_grammar.specs.declared.tree.state.StateMember.TheVariants as members
use Rattle.snl_grammar.specs.declared.tree.state.Target.{Target}
use Rattle.snl_grammar.specs.declared.tree.state.Target.TheVariants as target
use Rattle.snl_summary.specs.declared.summary.NameRef.{NameRef}
use Rattle.snl_summary.specs.declared.summary.Outline.{Outline}
use Rattle.snl_scope.specs.Clauses.{resolve_in}
use Rattle.snl_scope.specs.Flags.{flag_number, flags_of}
use Rattle.snl_scope.specs.Linked.{has_target, is_first_state, state_of}
use Rattle.snl_walk.specs.declared.used.TargetUse.{TargetUse}
use Rattle.snl_walk.specs.declared.used.WakeUse.{WakeUse}
use Rattle.snl_walk.specs.Tokens.{token_bytes}
use Rattle.snl_tables.specs.declared.rows.Destination.TheVariants as destinations
use Rattle.snl_tables.specs.declared.rows.NamedState.{NamedState}
use Rattle.snl_tables.specs.declared.rows.Span.{Span}
use Rattle.snl_tables.specs.declared.rows.StateMark.{StateMark}
use Rattle.snl_check.specs.Channels.{AssignedChannel, assigned_channels}
use Rattle.snl_check.specs.Conditions.{by_flag, on_declaration, on_variable, uses_in, wake_up, wake_ups}
use Rattle.snl_check.specs.ItemSpans.{item_name, span_of}
use Rattle.snl_check.specs.Members.{has_faulty, is_faulty_item, number_among, states_in, target_number, target_numbers, targets_among}
use Rattle.snl_check.specs.Reach.{is_reached}
use Rattle.snl_check.specs.Settings.{state_options}
use Rattle.snl_check.specs.States.{by_statements, destination, destinations_in_member, first_mark, gotos_in, is_reached_in, item_at, line_of_item, mark_of, members_in, named_state, numbered_row, set_row, state_row, state_rows, wake_of}
use Rattle.snl_item_check.specs.Items.{ProgramItem, tokens_in, tree_in}
use Rattle.snl_item_check.specs.Told.{Told, told_in, told_in_item}
use Rattle.snl_check.specs.TargetLaws.{targets_at}
use Rattle.snl_moved.proofs.ShiftLists.{flat_same, kept_same, map_same, numbered_same}
use Rattle.snl_moved.proofs.ShiftedStates.{told_at, told_of_item, told_of_own}
use Rattle.snl_moved.proofs.SpanLaws.{each_all}

module _ (old text : List ℕ) (xs ys : List ProgramItem) (ss ts : List Outline) where
  -- ---- a state

  -- An item is what it was, and names mean to it what they meant.
  pub record IsSameState (i : ℕ) : Type 0 where
    pub tokens : tokens_in ys i ≡ tokens_in xs i
    pub tree : tree_in ys i ≡ tree_in xs i
    pub faulty : is_faulty_item ys i ≡ is_faulty_item xs i
    pub bytes : token_bytes text (tokens_in ys i) ≡ token_bytes old (tokens_in xs i)
    pub line : line_of_item text ys i ≡ line_of_item old xs i
    pub resolves : (name : List ℕ) → resolve_in ts i name ≡ resolve_in ss i name
    pub known : (name : List ℕ) → has_target ts i name ≡ has_target ss i name
    pub leads : (name : List ℕ) → state_of ts i name ≡ state_of ss i name
    pub first : is_first_state ts i ≡ is_first_state ss i

  module _ (i : ℕ) (same : IsSameState i) where
    name_same : item_name ys i ≡ item_name xs i
    name_same = ap (λ (l : List Piece). span_of (slice_get l 1)) same.tokens

    named_same : (token : ℕ) → named_state text (tokens_in ys i) ts i token ≡ named_state old (tokens_in xs i) ss i token
    named_same token =
        let state : Span → Bool → NamedState = λ name is_known. record { name = name; is_known = is_known } in
        ap₂ state (ap (λ (l : List Piece). span_of (slice_get l token)) same.tokens)
        (same.known (token_bytes text (tokens_in ys i) token) ∙ ap (λ (b : ℕ → List ℕ). has_target ss i (b token)) same.bytes)

    destination_same : (t : Target) → destination text (tokens_in ys i) ts i t ≡ destination old (tokens_in xs i) ss i t
    destination_same (target.State name) = ap destinations.State (named_same name)
    destination_same target.Exit = refl

    member_same : (m : StateMember) → destinations_in_member text (tokens_in ys i) ts i m ≡ destinations_in_member old (tokens_in xs i) ss i m
    member_same (members.When t) = ap (λ d. d ∷ []) (destination_same t.target)
    member_same _ = refl

    options_same : state_options (token_bytes text (tokens_in ys i)) (members_in (tree_in ys i)) ≡ state_options (token_bytes old (tokens_in xs i)) (members_in (tree_in xs i))
    options_same = ap₂ (λ (b : ℕ → List ℕ) (t : Option Item). state_options b (members_in t)) same.bytes same.tree

    transitions_same : flat_map (destinations_in_member text (tokens_in ys i) ts i) (members_in (tree_in ys i)) ≡ flat_map (destinations_in_member old (tokens_in xs i) ss i) (members_in (tree_in xs i))
    transitions_same =
        let ms = members_in (tree_in xs i) in
        ap (λ (t : Option Item). flat_map (destinations_in_member text (tokens_in ys i) ts i) (members_in t)) same.tree
        ∙ flat_same (destinations_in_member text (tokens_in ys i) ts i) (destinations_in_member old (tokens_in xs i) ss i) ms
        (each_all (λ m. destinations_in_member text (tokens_in ys i) ts i m ≡ destinations_in_member old (tokens_in xs i) ss i m) ms member_same)

    told_same : told_in text ys i ≡ told_in old xs i
    told_same = told_at text ys i ∙ ap₂ told_of_item same.bytes same.tree ∙ sym (told_at old xs i)

    own_told_same : told_in_item text (item_at ys i) ≡ told_in_item old (item_at xs i)
    own_told_same = told_of_own text ys i ∙ ap₂ told_of_item same.bytes same.tree ∙ sym (told_of_own old xs i)

    gotos_same : map (named_state text (tokens_in ys i) ts i) (gotos_in text (item_at ys i)) ≡ map (named_state old (tokens_in xs i) ss i) (gotos_in old (item_at xs i))
    gotos_same =
        let named = gotos_in old (item_at xs i) in
        ap (λ (t : Told). map (named_state text (tokens_in ys i) ts i) (by_statements t.target_uses)) own_told_same
        ∙ map_same (named_state text (tokens_in ys i) ts i) (named_state old (tokens_in xs i) ss i) named
        (each_all (λ n. named_state text (tokens_in ys i) ts i n ≡ named_state old (tokens_in xs i) ss i n) named named_same)

    -- what wakes it up
    module _ (flags : flags_of ts ≡ flags_of ss) where
      meant_same : (cs : List AssignedChannel) (u : WakeUse) → wake_up text ys ts cs i u ≡ wake_up old xs ss cs i u
      meant_same cs u =
          let name = token_bytes old (tokens_in xs i) u.token in
          ap (λ (b : ℕ → List ℕ). option_and_then (on_declaration ts cs u.subscript) (resolve_in ts i (b u.token))) same.bytes
          ∙ ap (option_and_then (on_declaration ts cs u.subscript)) (same.resolves name)
          ∙ by (resolve_in ss i name)
        where
          number_same : (number : ℕ) → flag_number ts number ≡ flag_number ss number
          number_same number = ap (λ (l : List ℕ). option_map suc (position (nat_eq number) l)) flags

          by : (o : Option ℕ) → option_and_then (on_declaration ts cs u.subscript) o ≡ option_and_then (on_declaration ss cs u.subscript) o
          by None = refl
          by (Some number) = ap (λ (o : Option ℕ). by_flag o (on_variable cs u.subscript number)) (number_same number)

      wake_same : assigned_channels text ys ts ≡ assigned_channels old xs ss → wake_of text ys ts i ≡ wake_of old xs ss i
      wake_same channels =
          let cs = assigned_channels old xs ss in
          let waking = uses_in old xs i in
          ap₂ (λ (cs : List AssignedChannel) (t : Told). wake_ups text ys ts cs i t.wake_uses) channels told_same
          ∙ kept_same (wake_up text ys ts cs i) (wake_up old xs ss cs i) waking (each_all (λ u. wake_up text ys ts cs i u ≡ wake_up old xs ss cs i u) waking (meant_same cs))

      row_same : assigned_channels text ys ts ≡ assigned_channels old xs ss → (m : StateMark) → state_row text ys ts m i ≡ state_row old xs ss m i
      row_same channels m = λ j. record {
        name = name_same j;
        line = same.line j;
        mark = m;
        options = options_same j;
        transitions = transitions_same j;
        gotos = gotos_same j;
        wake = wake_same channels j;
      }

    -- its targets
    targets_same : (states : List ℕ) → target_numbers text ys ts states i ≡ target_numbers old xs ss states i
    targets_same states =
        let refs : (ℕ → List ℕ) → Told → List NameRef = λ b t. map (λ n. record { name = b n; token = n }) (map (λ (u : TargetUse). u.token) t.target_uses) in
        let these = refs (token_bytes old (tokens_in xs i)) (told_in old xs i) in
        targets_at text ys ts states i
        ∙ ap₂ (λ (b : ℕ → List ℕ) (t : Told). filter_map (target_number ts states i) (refs b t)) same.bytes told_same
        ∙ kept_same (target_number ts states i) (target_number ss states i) these
        (each_all (λ t. target_number ts states i t ≡ target_number ss states i t) these (λ t. ap (number_among states) (same.leads t.name)))
        ∙ sym (targets_at old xs ss states i)

  -- ---- a state set

  -- The set that an item begins is what it was.
  pub record IsSameSet (k : ℕ) : Type 0 where
    pub name : item_name ys k ≡ item_name xs k
    pub line : line_of_item text ys k ≡ line_of_item old xs k
    pub states : states_in ts k ≡ states_in ss k
    pub faulty : has_faulty ys ts k ≡ has_faulty xs ss k
    pub flags : flags_of ts ≡ flags_of ss
    pub channels : assigned_channels text ys ts ≡ assigned_channels old xs ss
    pub each : AllByRecursion IsSameState (states_in ss k)

  module _ (k : ℕ) (set : IsSameSet k) where
    reached_same : (number : ℕ) → is_reached_in text ys ts k number ≡ is_reached_in old xs ss k number
    reached_same number =
        let states = states_in ss k in
        ap (λ (l : List (List ℕ)). is_reached l number)
        (ap (targets_among text ys ts) set.states
        ∙ map_same (target_numbers text ys ts states) (target_numbers old xs ss states) states
        (each_weaker IsSameState (λ i. target_numbers text ys ts states i ≡ target_numbers old xs ss states i) (λ i same. targets_same i same states) states set.each))

    mark_same : (number i : ℕ) → IsSameState i → mark_of text ys ts k number i ≡ mark_of old xs ss k number i
    mark_same number i same =
        ap₂ (λ (faulty first : Bool). first_mark faulty (not first) (has_faulty ys ts k) (is_reached_in text ys ts k number)) same.faulty same.first
        ∙ ap₂ (first_mark (is_faulty_item xs i) (not (is_first_state ss i))) set.faulty (reached_same number)

    numbered_row_same : (i : ℕ) → IsSameState i → (number : ℕ) → numbered_row text ys ts k (number, i) ≡ numbered_row old xs ss k (number, i)
    numbered_row_same i same number =
        row_same i same set.flags set.channels (mark_of text ys ts k number i) ∙ ap (λ (m : StateMark). state_row old xs ss m i) (mark_same number i same)

    rows_same : state_rows text ys ts k ≡ state_rows old xs ss k
    rows_same =
        let states = states_in ss k in
        ap (λ (js : List ℕ). map (numbered_row text ys ts k) (enumerate_from 0 js)) set.states
        ∙ numbered_same (numbered_row text ys ts k) (numbered_row old xs ss k) 0 states
        (each_weaker IsSameState (λ i. (number : ℕ) → numbered_row text ys ts k (number, i) ≡ numbered_row old xs ss k (number, i)) numbered_row_same states set.each)

    pub set_same : set_row text ys ts k ≡ set_row old xs ss k
    set_same = λ j. record { name = set.name j; line = set.line j; states = rows_same j }
