-- The rows of states and of state sets after an edit that shifts tokens. `line` says what becomes
-- of the line of an offset.
use Rattle.std.proofs.Common.{◌≡◌, ℕ, ◌<◌, ◌&&◌, Bool, List, [], ◌∷◌, length, map, slice_get, Option, Some, None, if◌then◌else◌, refl, sym, ap, ap₂, ◌∙◌}
use Rattle.std.specs.List.{AllByRecursion, filter_map, flat_map}
use Rattle.std.specs.Option.{option_and_then, option_map_or}
use Rattle.snl_scope.specs.BelowLaws.{any_below_same}
use Rattle.snl_facts.specs.Made.{flat_map_changed}
use Rattle.snl_lex.specs.declared.lines.Line.{Line}
use Rattle.snl_lex.specs.declared.shift.Shift.{Shift}
use Rattle.snl_grammar.specs.declared.tree.item.Item.{Item}
use Rattle.snl_grammar.specs.declared.tree.state.StateMember.{StateMember}
use Rattle.snl_grammar.specs.declared.tree.state.StateMember.TheVariants as members
use Rattle.snl_grammar.specs.declared.tree.state.Target.{Target}
use Rattle.snl_grammar.specs.declared.tree.state.Target.TheVariants as target
use Rattle.snl_summary.specs.declared.summary.Outline.{Outline}
use Rattle.snl_scope.specs.Clauses.{resolve_in}
use Rattle.snl_scope.specs.Linked.{has_target}
use Rattle.snl_scope.specs.Places.{stands_in}
use Rattle.snl_walk.specs.declared.used.TargetUse.{TargetUse}
use Rattle.snl_walk.specs.declared.used.WakeUse.{WakeUse}
use Rattle.snl_walk.specs.Tokens.{token_bytes}
use Rattle.snl_tables.specs.declared.rows.Destination.TheVariants as destinations
use Rattle.snl_tables.specs.declared.rows.NamedState.{NamedState}
use Rattle.snl_tables.specs.declared.rows.Span.{Span}
use Rattle.snl_tables.specs.declared.rows.StateMark.{StateMark}
use Rattle.snl_tables.specs.declared.rows.StateMark.TheVariants as mark
use Rattle.snl_tables.specs.declared.rows.WakeUp.{WakeUp}
use Rattle.snl_tables.specs.Moved.{moved_set, moved_state}
use Rattle.snl_tables.specs.Shifted.{shifted_destination, shifted_named, shifted_span}
use Rattle.snl_check.specs.Channels.{AssignedChannel, assigned_channels}
use Rattle.snl_check.specs.Conditions.{on_declaration, uses_in, wake_ups}
use Rattle.snl_item_check.specs.Items.{ProgramItem, tokens_in, tree_in}
use Rattle.snl_check.specs.ItemSpans.{item_name}
use Rattle.snl_check.specs.Members.{has_faulty, is_faulty_item, states_in, target_number, target_numbers}
use Rattle.snl_check.specs.Reach.{is_reached}
use Rattle.snl_check.specs.Settings.{state_options}
use Rattle.snl_check.specs.States.{by_statements, destination, destinations_in_member, gotos_in, is_reached_in, is_repeated, item_at, line_of_item, mark_of, members_in, named_state, numbered_row, set_row, state_row, state_rows}
use Rattle.snl_item_check.specs.Told.{Told, nothing, told_by, told_in, told_in_item}
use Rattle.snl_check.specs.TargetLaws.{targets_at}
use Rattle.snl_moved.proofs.ShiftLists.{map_same, map_shift, numbered_shift}
use Rattle.snl_moved.proofs.ShiftedItems.{IsKept, span_at_shifts, tree_stays}
use Rattle.snl_moved.proofs.SpanLaws.{each_all}

-- ---- what an item says, by the bytes of its tokens and its tree

pub told_of_item : (ℕ → List ℕ) → Option Item → Told
told_of_item bytes tree = option_map_or (told_by bytes) tree nothing

pub told_at : (text : List ℕ) (xs : List ProgramItem) (i : ℕ) → told_in text xs i ≡ told_of_item (token_bytes text (tokens_in xs i)) (tree_in xs i)
unfolding told_of_item
told_at text xs i = by (slice_get xs i)
  where
    by : (o : Option ProgramItem) → option_map_or (told_in_item text) o nothing
        ≡ option_map_or (told_by (token_bytes text (option_map_or (λ (x : ProgramItem). x.tokens) o []))) (option_and_then (λ (x : ProgramItem). x.tree) o) nothing
    by None = refl
    by (Some x) = refl

pub told_of_own : (text : List ℕ) (xs : List ProgramItem) (i : ℕ) → told_in_item text (item_at xs i) ≡ told_of_item (token_bytes text (tokens_in xs i)) (tree_in xs i)
unfolding told_of_item
told_of_own text xs i = refl

targets_by : List Outline → List ℕ → ℕ → (ℕ → List ℕ) → Told → List ℕ
targets_by ss states i bytes t = filter_map (target_number ss states i) (map (λ n. record { name = bytes n; token = n }) (map (λ (u : TargetUse). u.token) t.target_uses))

wakes_by : List Outline → List AssignedChannel → ℕ → (ℕ → List ℕ) → List WakeUse → List WakeUp
wakes_by ss cs i bytes uses = filter_map (λ used. option_and_then (on_declaration ss cs used.subscript) (resolve_in ss i (bytes used.token))) uses

module _ (old text : List ℕ) (s : Shift) (xs ys : List ProgramItem) (ss : List Outline) where
  -- ---- the row of a state that is kept

  module _ (i : ℕ) (kept : IsKept old text s xs ys i) (before : 0 < s.start) where
    named_shifts : (token : ℕ) → named_state text (tokens_in ys i) ss i token ≡ shifted_named s (named_state old (tokens_in xs i) ss i token)
    named_shifts token =
        let state : Span → List ℕ → NamedState = λ name bytes. record { name = name; is_known = has_target ss i bytes } in
        ap₂ state (span_at_shifts old text s xs ys i kept before token) (ap (λ (b : ℕ → List ℕ). b token) kept.bytes)

    destination_shifts : (t : Target) → destination text (tokens_in ys i) ss i t ≡ shifted_destination s (destination old (tokens_in xs i) ss i t)
    destination_shifts (target.State name) = ap destinations.State (named_shifts name)
    destination_shifts target.Exit = refl

    member_shifts : (m : StateMember) → destinations_in_member text (tokens_in ys i) ss i m ≡ map (shifted_destination s) (destinations_in_member old (tokens_in xs i) ss i m)
    member_shifts (members.When t) = ap (λ d. d ∷ []) (destination_shifts t.target)
    member_shifts _ = refl

    options_stay : state_options (token_bytes text (tokens_in ys i)) (members_in (tree_in ys i)) ≡ state_options (token_bytes old (tokens_in xs i)) (members_in (tree_in xs i))
    options_stay = ap₂ (λ (b : ℕ → List ℕ) (t : Option Item). state_options b (members_in t)) kept.bytes (tree_stays old text s xs ys i kept)

    transitions_shift : flat_map (destinations_in_member text (tokens_in ys i) ss i) (members_in (tree_in ys i)) ≡ map (shifted_destination s) (flat_map (destinations_in_member old (tokens_in xs i) ss i) (members_in (tree_in xs i)))
    transitions_shift =
        let ms = members_in (tree_in xs i) in
        ap (λ (t : Option Item). flat_map (destinations_in_member text (tokens_in ys i) ss i) (members_in t)) (tree_stays old text s xs ys i kept)
        ∙ flat_map_changed (shifted_destination s) (destinations_in_member old (tokens_in xs i) ss i) (destinations_in_member text (tokens_in ys i) ss i) ms
        (each_all (λ m. destinations_in_member text (tokens_in ys i) ss i m ≡ map (shifted_destination s) (destinations_in_member old (tokens_in xs i) ss i m)) ms member_shifts)

    own_told_stays : told_in_item text (item_at ys i) ≡ told_in_item old (item_at xs i)
    unfolding told_of_item
    own_told_stays = ap₂ told_of_item kept.bytes (tree_stays old text s xs ys i kept)

    told_stays : told_in text ys i ≡ told_in old xs i
    told_stays = told_at text ys i ∙ ap₂ told_of_item kept.bytes (tree_stays old text s xs ys i kept) ∙ sym (told_at old xs i)

    gotos_shift : map (named_state text (tokens_in ys i) ss i) (gotos_in text (item_at ys i)) ≡ map (shifted_named s) (map (named_state old (tokens_in xs i) ss i) (gotos_in old (item_at xs i)))
    gotos_shift =
        let named = gotos_in old (item_at xs i) in
        ap (λ (t : Told). map (named_state text (tokens_in ys i) ss i) (by_statements t.target_uses)) own_told_stays
        ∙ map_shift (shifted_named s) (named_state old (tokens_in xs i) ss i) (named_state text (tokens_in ys i) ss i) named
        (each_all (λ n. named_state text (tokens_in ys i) ss i n ≡ shifted_named s (named_state old (tokens_in xs i) ss i n)) named named_shifts)

    uses_stay : uses_in text ys i ≡ uses_in old xs i
    uses_stay = ap (λ (t : Told). t.wake_uses) told_stays

    wakes_stay : assigned_channels text ys ss ≡ assigned_channels old xs ss →
        wake_ups text ys ss (assigned_channels text ys ss) i (uses_in text ys i) ≡ wake_ups old xs ss (assigned_channels old xs ss) i (uses_in old xs i)
    unfolding wakes_by
    wakes_stay assigned =
        ap₂ (λ (cs : List AssignedChannel) (us : List WakeUse). wakes_by ss cs i (token_bytes text (tokens_in ys i)) us) assigned uses_stay
        ∙ ap (λ (b : ℕ → List ℕ). wakes_by ss (assigned_channels old xs ss) i b (uses_in old xs i)) kept.bytes

    pub state_row_shifts : (line : ℕ → Line → Line) (m : StateMark) → assigned_channels text ys ss ≡ assigned_channels old xs ss →
        line_of_item text ys i ≡ line (item_name xs i).start (line_of_item old xs i) →
        state_row text ys ss m i ≡ moved_state s line (state_row old xs ss m i)
    state_row_shifts line m assigned lined =
        let name = span_at_shifts old text s xs ys i kept before 1 in
        let options = options_stay in
        let transitions = transitions_shift in
        let gotos = gotos_shift in
        let wake = wakes_stay assigned in
        cc

    -- its targets
    pub targets_stay : (states : List ℕ) → target_numbers text ys ss states i ≡ target_numbers old xs ss states i
    unfolding targets_by
    targets_stay states =
        targets_at text ys ss states i ∙ ap₂ (targets_by ss states i) kept.bytes told_stays ∙ sym (targets_at old xs ss states i)

  -- ---- marks

  marked : Bool → Bool → Bool → Bool → StateMark
  marked faulty repeated unknown reached =
      if faulty then mark.Faulty else if repeated then mark.Repeated else if unknown then mark.Unknown else if reached then mark.Reached else mark.Unreached

  pub has_faulty_stays : (k : ℕ) → ((i : ℕ) → (is_faulty_item ys i && stands_in ss k i) ≡ (is_faulty_item xs i && stands_in ss k i)) → has_faulty ys ss k ≡ has_faulty xs ss k
  has_faulty_stays k same = any_below_same (λ i. is_faulty_item ys i && stands_in ss k i) (λ i. is_faulty_item xs i && stands_in ss k i) (length ss) (λ i l. same i)

  reached_stays : (k number : ℕ) → AllByRecursion (λ j. target_numbers text ys ss (states_in ss k) j ≡ target_numbers old xs ss (states_in ss k) j) (states_in ss k) →
      is_reached_in text ys ss k number ≡ is_reached_in old xs ss k number
  reached_stays k number targets =
      ap (λ (ts : List (List ℕ)). is_reached ts number)
      (map_same (target_numbers text ys ss (states_in ss k)) (target_numbers old xs ss (states_in ss k)) (states_in ss k) targets)

  pub mark_stays : (k : ℕ) → has_faulty ys ss k ≡ has_faulty xs ss k →
      AllByRecursion (λ j. target_numbers text ys ss (states_in ss k) j ≡ target_numbers old xs ss (states_in ss k) j) (states_in ss k) →
      (number j : ℕ) → is_faulty_item ys j ≡ is_faulty_item xs j → mark_of text ys ss k number j ≡ mark_of old xs ss k number j
  unfolding marked
  mark_stays k some targets number j faulty =
      ap₂ (λ (f u : Bool). marked f (is_repeated ss j) u (is_reached_in text ys ss k number)) faulty some
      ∙ ap (marked (is_faulty_item xs j) (is_repeated ss j) (has_faulty xs ss k)) (reached_stays k number targets)

  -- ---- the row of a state set

  pub state_rows_shift : (line : ℕ → Line → Line) (k : ℕ) → AllByRecursion (λ j. (number : ℕ) → numbered_row text ys ss k (number, j) ≡ moved_state s line (numbered_row old xs ss k (number, j))) (states_in ss k) →
      state_rows text ys ss k ≡ map (moved_state s line) (state_rows old xs ss k)
  state_rows_shift line k each = numbered_shift (moved_state s line) (numbered_row old xs ss k) (numbered_row text ys ss k) 0 (states_in ss k) each

  pub set_row_shifts : (line : ℕ → Line → Line) (k : ℕ) → item_name ys k ≡ shifted_span s (item_name xs k) →
      line_of_item text ys k ≡ line (item_name xs k).start (line_of_item old xs k) →
      state_rows text ys ss k ≡ map (moved_state s line) (state_rows old xs ss k) →
      set_row text ys ss k ≡ moved_set s line (set_row old xs ss k)
  set_row_shifts line k name lined states = cc
