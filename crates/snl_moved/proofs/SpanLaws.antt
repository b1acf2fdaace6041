-- What holds of each token that an item names holds of each span in rows; so these lie in the text,
-- and each has a byte.
use Rattle.std.proofs.Common.{◌≡◌, ℕ, zero, suc, ◌+◌, ◌<◌, ◌≤◌, ◌&&◌, ◌||◌, Bool, true, false, not, List, [], ◌∷◌, ◌++◌, length, map, nat_lt, slice_get, All, Option, Some, None, IfSome, is_some, if◌then◌else◌, refl, ap, sym, subst, ◌∙◌, arith}
use Rattle.std.specs.List.{AllByRecursion, cons_option, enumerate_from, filter_map, flat_map, zip}
use Rattle.std.specs.Option.{option_and_then, option_map, option_map_or, option_or, option_to_list}
use Rattle.std.proofs.lemmas.Bool.{false≢true}
use Rattle.std.proofs.lemmas.Option.{get_or_from_slice_get, slice_get_within}
use Rattle.snl_scope.specs.BelowLaws.{each_passing}
use Rattle.snl_facts.specs.Booleans.{and_first}
use Rattle.snl_facts.specs.Each.{each_append, each_map, each_unmap, each_weaker}
use Rattle.snl_lex.specs.declared.piece.Piece.{Piece}
use Rattle.snl_grammar.specs.declared.tree.clause.Clause.{Clause}
use Rattle.snl_grammar.specs.declared.tree.clause.Clause.TheVariants as clauses
use Rattle.snl_grammar.specs.declared.tree.item.Item.{Item}
use Rattle.snl_grammar.specs.declared.tree.item.Item.TheVariants as items
use Rattle.snl_grammar.specs.declared.tree.state.StateMember.{StateMember}
use Rattle.snl_grammar.specs.declared.tree.state.StateMember.TheVariants as members
use Rattle.snl_grammar.specs.declared.tree.state.Target.{Target}
use Rattle.snl_grammar.specs.declared.tree.state.Target.TheVariants as target
use Rattle.snl_grammar.specs.Parsing as parsing
use Rattle.snl_codes.specs.declared.code.Code.{Code}
use Rattle.snl_codes.specs.declared.code.Code.TheVariants.{E08, E09}
use Rattle.snl_scope.specs.declared.facts.ClauseLink.{ClauseLink}
use Rattle.snl_scope.specs.declared.facts.Declaration.{Declaration}
use Rattle.snl_scope.specs.declared.facts.Scope.{Scope}
use Rattle.snl_scope.specs.declared.names.namespaces.Namespace.{Namespace}
use Rattle.snl_scope.specs.declared.names.namespaces.Namespace.TheVariants as namespace
use Rattle.snl_summary.specs.declared.summary.Declared.{Declared}
use Rattle.snl_summary.specs.declared.summary.Outline.{Outline}
use Rattle.snl_scope.specs.Below.{all_below, last_below}
use Rattle.snl_scope.specs.Clauses.{clause_links}
use Rattle.snl_scope.specs.Flags.{flags_of}
use Rattle.snl_scope.specs.Linked.{declaration_at, entry_declaration, scope_in}
use Rattle.snl_summary.specs.NamedTokens.{NamesItsTokens, own_name}
use Rattle.snl_scope.specs.Names.{Entry, declared_entry, entries, entries_before, entries_of, named_entry, scope_at, has_own_scope, scope_of, set_entries, set_name, state_entries}
use Rattle.snl_scope.specs.Order.{is_named_state, is_state_word, state_name}
use Rattle.snl_scope.specs.Places.{begins_set, ends_between, is_set_begin, item_is, open_before, enclosing_set, stands_in}
use Rattle.snl_summary.specs.Summaries.{kind_of, name_if, opening_in, role_in, role_of, second_in}
use Rattle.snl_summary.specs.Summaries.Clauses as summary
use Rattle.snl_summary.specs.Summaries.Declares.{declared_in, declared_in_tree}
use Rattle.snl_walk.specs.Declares.{declared_by_state}
use Rattle.snl_walk.specs.Expressions.{names_if}
use Rattle.snl_walk.specs.Items.{found_in_member, found_in_target, in_transition, occurrences}
use Rattle.snl_walk.specs.Scopes.{Names, seen, under_names}
use Rattle.snl_walk.specs.Statements.{found_in_block}
use Rattle.snl_walk.specs.Tokens.{IsSource, token_bytes}
use Rattle.snl_walk.specs.Uses.{target_uses_after, targets}
use Rattle.snl_tables.specs.declared.rows.FlagRow.{FlagRow}
use Rattle.snl_tables.specs.declared.rows.ScopeName.TheVariants as named
use Rattle.snl_tables.specs.declared.rows.Span.{Span}
use Rattle.snl_check.specs.Channels.{AssignedChannel, assigned_channel, assigned_channels, channels_in, channels_of_clause, channels_on}
use Rattle.snl_check.specs.Clauses.{ItemClause, clauses_in_tree, item_clause, item_clauses, item_clauses_before, item_clauses_if, resolved_clauses}
use Rattle.snl_item_check.specs.Items.{ProgramItem, outline_of_item, outlines_of, tokens_in, tree_in}
use Rattle.snl_check.specs.ItemSpans.{header_name, item_name, named_by, program_name, span_at, span_of}
use Rattle.snl_check.specs.Members.{states_in}
use Rattle.snl_moved.specs.Spans.{AreRead, HasByte, InChannel, InDestination, InFlag, InNamed, InScope, InSet, InState, InTables, SpanLiesIn, TablesHaveBytes, TablesLieIn}
use Rattle.snl_check.specs.States.{by_statements, destination, destinations_in_member, gotos_in, item_at, members_in, named_state, numbered_row, set_row}
use Rattle.snl_check.specs.Tables.{channel_row, flag_row, flag_row_at, scope_name, tables_of}
use Rattle.snl_item_check.specs.Told.{nothing, told_by}
use Rattle.snl_moved.proofs.Outlines.{outline_at}
use Rattle.snl_moved.proofs.SameClauses.{tree_alike}
use Rattle.snl_check.specs.SetsLaws.{get_here}
use Rattle.snl_moved.proofs.Targets.{each_by_statements, targets_in_back, targets_in_front}
use Rattle.snl_check.specs.TargetLaws.{uses_at_targets}

-- ---- each element of a list that is made from another

pub each_all : {X : Type 0} (P : X → Type 0) (xs : List X) → ((x : X) → P x) → AllByRecursion P xs
each_all P [] h = tt
each_all P (x ∷ xs) h = (h x, each_all P xs h)

each_kept : {X Y : Type 0} (P : Y → Type 0) (f : X → Option Y) (xs : List X) → ((x : X) (y : Y) → f x ≡ Some y → P y) → AllByRecursion P (filter_map f xs)
each_kept P f [] h = tt
each_kept {Y = Y} P f (x ∷ xs) h = by (f x) refl (each_kept P f xs h)
  where
    by : (o : Option Y) → f x ≡ o → AllByRecursion P (filter_map f xs) → AllByRecursion P (cons_option o (filter_map f xs))
    by None e rest = rest
    by (Some y) e rest = (h x y e, rest)

pub each_flat : {X Y : Type 0} (P : X → Type 0) (Q : Y → Type 0) (f : X → List Y) (xs : List X) → ((x : X) → P x → AllByRecursion Q (f x)) → AllByRecursion P xs → AllByRecursion Q (flat_map f xs)
each_flat P Q f [] h each = tt
each_flat P Q f (x ∷ xs) h each = each_append Q (f x) (flat_map f xs) (h x each.0) (each_flat P Q f xs h each.1)

pub each_beside : {X Y : Type 0} (P : X → Type 0) (xs : List X) (ys : List Y) → AllByRecursion P xs → AllByRecursion (λ (p : X × Y). P p.0) (zip xs ys)
each_beside P [] ys h = tt
each_beside P (x ∷ xs) [] h = tt
each_beside P (x ∷ xs) (y ∷ ys) h = (h.0, each_beside P xs ys h.1)

each_counted : {Y : Type 0} (P : Y → Type 0) (f : ℕ × ℕ → Y) (n : ℕ) (js : List ℕ) → AllByRecursion (λ j. (i : ℕ) → P (f (i, j))) js → AllByRecursion P (map f (enumerate_from n js))
each_counted P f n [] h = tt
each_counted P f n (j ∷ js) h = (h.0 n, each_counted P f (n + 1) js h.1)

pub each_got : {X : Type 0} (P : X → Type 0) (xs : List X) (n : ℕ) → AllByRecursion P xs → IfSome (slice_get xs n) P
each_got P [] n h = tt
each_got P (x ∷ xs) zero h = h.0
each_got P (x ∷ xs) (suc n) h = each_got P xs n h.1

-- ---- tests

pub some_if : {X : Type 0} (b : Bool) (o : Option X) → is_some (if b then o else None) ≡ true → is_some o ≡ true
some_if true o h = h
some_if false o h = absurd (false≢true h)

last_passes : (test : ℕ → Bool) (n k : ℕ) → last_below test n ≡ Some k → test k ≡ true
last_passes test zero k h = absurd cc
last_passes test (suc n) k h = by (test n) refl (last_passes test n k) h
  where
    by : (b : Bool) → test n ≡ b → (last_below test n ≡ Some k → test k ≡ true) → (if b then Some n else last_below test n) ≡ Some k → test k ≡ true
    by true e before is = let same : n ≡ k = cc in subst (λ m. test m ≡ true) same e
    by false e before is = before is

pub place_begins : (ss : List Outline) (i k : ℕ) → enclosing_set ss i ≡ Some k → is_set_begin ss k ≡ true
place_begins ss i k = by (item_is (λ s. not (begins_set s.role)) ss i)
  where
    by : (b : Bool) → (if b then open_before ss i else None) ≡ Some k → is_set_begin ss k ≡ true
    by true e = and_first (is_set_begin ss k) (not (ends_between ss k i)) (last_passes (λ k. is_set_begin ss k && not (ends_between ss k i)) i k e)
    by false e = absurd cc

-- what a test of an item's outline says of the item
pub tested : (text : List ℕ) (xs : List ProgramItem) (test : Outline → Bool) (item : ℕ) → item_is test (outlines_of text xs) item ≡ true → (x : ProgramItem) × (slice_get xs item ≡ Some x) × (test (outline_of_item text x) ≡ true)
tested text xs test item h = by (slice_get xs item) refl (ap (λ (o : Option Outline). option_map_or test o false) (sym (outline_at text xs item)) ∙ h)
  where
    by : (o : Option ProgramItem) → slice_get xs item ≡ o → option_map_or test (option_map (outline_of_item text) o) false ≡ true → (x : ProgramItem) × (slice_get xs item ≡ Some x) × (test (outline_of_item text x) ≡ true)
    by None at e = absurd (false≢true e)
    by (Some x) at e = (x, at, e)

pub tokens_are : (xs : List ProgramItem) (item : ℕ) (x : ProgramItem) → slice_get xs item ≡ Some x → tokens_in xs item ≡ x.tokens
tokens_are xs item x at = ap (λ (o : Option ProgramItem). option_map_or (λ x. x.tokens) o []) at

-- ---- what holds of the tokens that items name

record NamesHold (P : Span → Type 0) (text : List ℕ) (xs : List ProgramItem) : Type 0 where
  own : (item : ℕ) (t : Item) → tree_in xs item ≡ Some t → AllByRecursion (λ n. P (span_at xs item n)) (own_name t)
  second : (item : ℕ) → is_some (second_in text (tokens_in xs item)) ≡ true → P (span_at xs item 1)
  declared : (item : ℕ) (t : Item) → tree_in xs item ≡ Some t → AllByRecursion (λ d. P (span_at xs item d.token)) (declared_in_tree text (tokens_in xs item) t)
  variables : (item : ℕ) (t : Item) → tree_in xs item ≡ Some t → AllByRecursion (λ c. P (span_at xs item c.variable.token)) (summary.clauses_in_tree text (tokens_in xs item) t)
  targets : (item : ℕ) (t : Item) → tree_in xs item ≡ Some t → AllByRecursion (λ n. P (span_at xs item n)) (targets (occurrences (token_bytes text (tokens_in xs item)) t))

-- the name of the program
module _ (P : Span → Type 0) where
  or_holds : (a b : Option Span) → IfSome a P → IfSome b P → IfSome (option_or a b) P
  or_holds None b f g = g
  or_holds (Some s) b f g = f

  header_holds : (x : ProgramItem) → ((t : Item) → x.tree ≡ Some t → AllByRecursion (λ n. P (span_of (slice_get x.tokens n))) (own_name t)) → IfSome (header_name x) P
  header_holds x h = by x.tree h
    where
      by : (o : Option Item) → ((t : Item) → o ≡ Some t → AllByRecursion (λ n. P (span_of (slice_get x.tokens n))) (own_name t)) → IfSome (option_map (λ number. span_of (slice_get x.tokens number)) (named_by o)) P
      by (Some (items.Header name parameters)) own = (own (items.Header name parameters) refl).0
      by o own = tt

  program_holds : (xs : List ProgramItem) → ((item : ℕ) (t : Item) → tree_in xs item ≡ Some t → AllByRecursion (λ n. P (span_at xs item n)) (own_name t)) → IfSome (program_name xs) P
  program_holds [] h = tt
  program_holds (x ∷ xs) h = or_holds (header_name x) (program_name xs) (header_holds x (h 0)) (program_holds xs (λ item. h (suc item)))

module _ (P : Span → Type 0) (text : List ℕ) (xs : List ProgramItem) (names : NamesHold P text xs) where
  abbrev ss : List Outline
  ss = outlines_of text xs

  tree_is : (item : ℕ) (x : ProgramItem) (t : Item) → slice_get xs item ≡ Some x → x.tree ≡ Some t → tree_in xs item ≡ Some t
  tree_is item x t at is = ap (option_and_then (λ (x : ProgramItem). x.tree)) at ∙ is

  -- an item has declarations or clauses
  abbrev has_some : ProgramItem → Bool
  has_some x = nat_lt 0 (length (declared_in text x.tokens x.tree)) || nat_lt 0 (length (summary.clauses_in text x.tokens x.tree))

  -- the name of a state set, and of a state
  set_holds : (k : ℕ) → is_set_begin ss k ≡ true → P (item_name xs k)
  set_holds k h = let found = tested text xs (λ s. begins_set s.role) k h in by found.0 found.1 found.0.tree refl (has_some found.0) found.2
    where
      by : (x : ProgramItem) → slice_get xs k ≡ Some x → (o : Option Item) → x.tree ≡ o → (b : Bool) → begins_set (role_of (kind_of o) b) ≡ true → P (item_name xs k)
      by x at (Some (items.SsBegin name)) is b e = (names.own k (items.SsBegin name) (tree_is k x (items.SsBegin name) at is)).0
      by x at (Some (items.StateBlock name ms)) is true e = absurd (false≢true e)
      by x at (Some (items.StateBlock name ms)) is false e = absurd (false≢true e)
      by x at o is b e = absurd (false≢true e)

  state_holds : (x : ProgramItem) (j : ℕ) → slice_get xs j ≡ Some x → has_own_scope (role_in text x.tokens x.tree) ≡ true → P (item_name xs j)
  state_holds x j at = by x.tree refl (has_some x)
    where
      by : (o : Option Item) → x.tree ≡ o → (b : Bool) → has_own_scope (role_of (kind_of o) b) ≡ true → P (item_name xs j)
      by (Some (items.StateBlock name ms)) is b e = (names.own j (items.StateBlock name ms) (tree_is j x (items.StateBlock name ms) at is)).0
      by o is b e = absurd (false≢true e)

  named_state_holds : (j : ℕ) → is_named_state ss j ≡ true → P (item_name xs j)
  named_state_holds j h =
      let found = tested text xs (λ s. is_some (state_name s)) j h in
      let x = found.0 in
      let second : is_some (second_in text x.tokens) ≡ true = some_if (is_state_word (opening_in text x.tokens)) (second_in text x.tokens) found.2 in
      names.second j (subst (λ tokens. is_some (second_in text tokens) ≡ true) (sym (tokens_are xs j x found.1)) second)

  place_holds : (i : ℕ) → IfSome (option_map (item_name xs) (enclosing_set ss i)) P
  place_holds i = by (enclosing_set ss i) refl
    where
      by : (o : Option ℕ) → enclosing_set ss i ≡ o → IfSome (option_map (item_name xs) o) P
      by None e = tt
      by (Some k) e = set_holds k (place_begins ss i k e)

  -- ---- declarations

  abbrev ScopeHolds : Scope → Type 0
  ScopeHolds s = InScope P (scope_name xs ss s)

  abbrev DeclarationHolds : Declaration → Type 0
  DeclarationHolds d = P (span_at xs d.item d.token) × ScopeHolds d.scope

  abbrev EntryHolds : Entry → Type 0
  EntryHolds e = IfSome (entry_declaration e) DeclarationHolds

  entry_holds : (s : Namespace) (i : ℕ) (d : Declared) → IfSome (scope_in s) ScopeHolds → P (span_at xs i d.token) → EntryHolds (declared_entry s i d)
  entry_holds namespace.Program i d h p = (p, h)
  entry_holds (namespace.StateSet k) i d h p = (p, h)
  entry_holds (namespace.State j) i d h p = (p, h)
  entry_holds namespace.Sets i d h p = tt
  entry_holds (namespace.States k) i d h p = tt

  scope_at_holds : (i : ℕ) → IfSome (scope_in (scope_at (enclosing_set ss i))) ScopeHolds
  scope_at_holds i = by (enclosing_set ss i) (place_holds i)
    where
      by : (o : Option ℕ) → IfSome (option_map (item_name xs) o) P → IfSome (scope_in (scope_at o)) ScopeHolds
      by None h = tt
      by (Some k) h = h

  scope_holds : (i : ℕ) (x : ProgramItem) → slice_get xs i ≡ Some x → IfSome (scope_in (scope_of ss i (outline_of_item text x))) ScopeHolds
  scope_holds i x at = by (has_own_scope (role_in text x.tokens x.tree)) refl
    where
      by : (b : Bool) → has_own_scope (role_in text x.tokens x.tree) ≡ b → IfSome (scope_in (if b then namespace.State i else scope_at (enclosing_set ss i))) ScopeHolds
      by true e = (place_holds i, state_holds x i at e)
      by false e = scope_at_holds i

  declared_hold : (i : ℕ) (tokens : List Piece) (tree : Option Item) → tokens_in xs i ≡ tokens → tree_in xs i ≡ tree → AllByRecursion (λ d. P (span_at xs i d.token)) (declared_in text tokens tree)
  declared_hold i tokens None at is = tt
  declared_hold i tokens (Some t) at is = subst (λ ts. AllByRecursion (λ d. P (span_at xs i d.token)) (declared_in_tree text ts t)) at (names.declared i t is)

  -- names of state sets and states are no declarations
  names_hold : (s : Namespace) (i : ℕ) (code : Option Code) (o : Option (List ℕ)) → AllByRecursion EntryHolds (map (named_entry s i code) (option_to_list o))
  names_hold s i code None = tt
  names_hold s i code (Some name) = (tt, tt)

  states_hold : (o : Option ℕ) (i : ℕ) (s : Outline) → AllByRecursion EntryHolds (state_entries o i s)
  states_hold None i s = tt
  states_hold (Some k) i s = names_hold (namespace.States k) i (Some E09) (state_name s)

  item_entries_hold : (i : ℕ) (x : ProgramItem) → slice_get xs i ≡ Some x → AllByRecursion EntryHolds (entries_of ss i (outline_of_item text x))
  item_entries_hold i x at =
      let s = outline_of_item text x in
      let declared = map (declared_entry (scope_of ss i s) i) s.declares in
      each_append EntryHolds (set_entries i s ++ state_entries (enclosing_set ss i) i s) declared
      (each_append EntryHolds (set_entries i s) (state_entries (enclosing_set ss i) i s) (names_hold namespace.Sets i (Some E08) (set_name s)) (states_hold (enclosing_set ss i) i s))
      (each_map EntryHolds (declared_entry (scope_of ss i s) i) s.declares
      (each_weaker (λ d. P (span_at xs i d.token)) (λ d. EntryHolds (declared_entry (scope_of ss i s) i d))
      (λ d p. entry_holds (scope_of ss i s) i d (scope_holds i x at) p) s.declares
      (declared_hold i x.tokens x.tree (tokens_are xs i x at) (ap (option_and_then (λ (x : ProgramItem). x.tree)) at))))

  entries_hold : (n : ℕ) → AllByRecursion EntryHolds (entries_before ss n)
  entries_hold zero = tt
  entries_hold (suc n) =
      each_append EntryHolds (entries_before ss n) (option_map_or (entries_of ss n) (slice_get ss n) []) (entries_hold n)
      (subst (λ o. AllByRecursion EntryHolds (option_map_or (entries_of ss n) o [])) (sym (outline_at text xs n)) (by (slice_get xs n) refl))
    where
      by : (o : Option ProgramItem) → slice_get xs n ≡ o → AllByRecursion EntryHolds (option_map_or (entries_of ss n) (option_map (outline_of_item text) o) [])
      by None at = tt
      by (Some x) at = item_entries_hold n x at

  declaration_holds : (number : ℕ) → IfSome (declaration_at ss number) DeclarationHolds
  declaration_holds number = by (slice_get (entries ss) number) (each_got EntryHolds (entries ss) number (entries_hold (length ss)))
    where
      by : (o : Option Entry) → IfSome o EntryHolds → IfSome (option_and_then entry_declaration o) DeclarationHolds
      by None h = tt
      by (Some e) h = h

  flag_holds : (number : ℕ) (row : FlagRow) → flag_row_at xs ss number ≡ Some row → InFlag P row
  flag_holds number row = by (declaration_at ss number) (declaration_holds number)
    where
      by : (o : Option Declaration) → IfSome o DeclarationHolds → option_map (flag_row xs ss) o ≡ Some row → InFlag P row
      by None h e = absurd cc
      by (Some d) h e = let same : flag_row xs ss d ≡ row = cc in subst (InFlag P) same h

  -- ---- channels

  abbrev ClauseHolds : ItemClause → Type 0
  ClauseHolds c = P (span_at xs c.item (summary.clause_of text (tokens_in xs c.item) c.clause).variable.token)

  abbrev ChannelHolds : AssignedChannel → Type 0
  ChannelHolds c = P (span_at xs c.item c.token)

  tree_clauses_hold : (n : ℕ) (o : Option Item) → tree_in xs n ≡ o → AllByRecursion ClauseHolds (item_clauses_if n o)
  tree_clauses_hold n None is = tt
  tree_clauses_hold n (Some t) is =
      let tokens = tokens_in xs n in
      each_map ClauseHolds (item_clause n) (clauses_in_tree t)
      (each_unmap (λ c. P (span_at xs n c.variable.token)) (summary.clause_of text tokens) (clauses_in_tree t)
      (subst (AllByRecursion (λ c. P (span_at xs n c.variable.token))) (sym (tree_alike text tokens t)) (names.variables n t is)))

  clauses_hold : (n : ℕ) → AllByRecursion ClauseHolds (item_clauses_before xs n)
  clauses_hold zero = tt
  clauses_hold (suc n) = each_append ClauseHolds (item_clauses_before xs n) (item_clauses_if n (tree_in xs n)) (clauses_hold n) (tree_clauses_hold n (tree_in xs n) refl)

  named_channels_hold : (item : ℕ) (variable : Option ℕ) (c : Clause) → ClauseHolds (item_clause item c) → AllByRecursion ChannelHolds (channels_on text xs item variable c)
  named_channels_hold item (Some variable) (clauses.Assign name channel) h =
      each_map ChannelHolds (assigned_channel item name variable) (channels_in text (tokens_in xs item) channel) (each_all (λ n. P (span_at xs item name)) (channels_in text (tokens_in xs item) channel) (λ n. h))
  named_channels_hold item variable c h = tt

  clause_channels_hold : (p : ItemClause × ClauseLink) → ClauseHolds p.0 → AllByRecursion ChannelHolds (channels_of_clause text xs p)
  clause_channels_hold p h = by p.1.is_sound
    where
      by : (b : Bool) → AllByRecursion ChannelHolds (if b then channels_on text xs p.0.item p.1.variable p.0.clause else [])
      by true = named_channels_hold p.0.item p.1.variable p.0.clause h
      by false = tt

  channels_hold : AllByRecursion ChannelHolds (assigned_channels text xs ss)
  channels_hold =
      each_flat (λ (p : ItemClause × ClauseLink). ClauseHolds p.0) ChannelHolds (channels_of_clause text xs) (resolved_clauses xs ss) clause_channels_hold
      (each_beside ClauseHolds (item_clauses xs) (clause_links ss) (clauses_hold (length xs)))

  channel_holds : (c : AssignedChannel) → ChannelHolds c → InChannel P (channel_row text xs ss c)
  channel_holds c h = (h, by (declaration_at ss c.variable) (declaration_holds c.variable))
    where
      by : (o : Option Declaration) → IfSome o DeclarationHolds → InScope P (option_map_or (λ d. scope_name xs ss d.scope) o named.Program)
      by None d = tt
      by (Some d) holds = holds.1

  -- ---- states

  module _ (item : ℕ) where
    abbrev TokenHolds : ℕ → Type 0
    TokenHolds n = P (span_at xs item n)

    abbrev bytes : ℕ → List ℕ
    bytes = token_bytes text (tokens_in xs item)

    destination_holds : (t : Target) → AllByRecursion TokenHolds (targets (found_in_target t)) → InDestination P (destination text (tokens_in xs item) ss item t)
    destination_holds (target.State name) h = h.0
    destination_holds target.Exit h = tt

    module _ (visible : Names) where
      destinations_hold : (m : StateMember) → AllByRecursion TokenHolds (targets (found_in_member bytes visible m)) → AllByRecursion (InDestination P) (destinations_in_member text (tokens_in xs item) ss item m)
      destinations_hold (members.When t) h =
          (destination_holds t.target (targets_in_back TokenHolds (map (seen bytes visible true) (names_if t.condition) ++ found_in_block bytes t.block visible in_transition) (found_in_target t.target) h), tt)
      destinations_hold m h = tt

      of_members : (ms : List StateMember) → AllByRecursion TokenHolds (targets (flat_map (found_in_member bytes visible) ms)) →
          AllByRecursion (InDestination P) (flat_map (destinations_in_member text (tokens_in xs item) ss item) ms)
      of_members [] h = tt
      of_members (m ∷ ms) h =
          let found = found_in_member bytes visible m in
          let rest = flat_map (found_in_member bytes visible) ms in
          each_append (InDestination P) (destinations_in_member text (tokens_in xs item) ss item m) (flat_map (destinations_in_member text (tokens_in xs item) ss item) ms)
          (destinations_hold m (targets_in_front TokenHolds found rest h)) (of_members ms (targets_in_back TokenHolds found rest h))

    tree_holds : (o : Option Item) → tree_in xs item ≡ o → AllByRecursion (InDestination P) (flat_map (destinations_in_member text (tokens_in xs item) ss item) (members_in o))
    unfolding occurrences
    tree_holds (Some (items.StateBlock name ms)) is = of_members (under_names bytes (declared_by_state bytes ms)) ms (names.targets item (items.StateBlock name ms) is)
    tree_holds o is = tt

    gotos_hold : AllByRecursion TokenHolds (gotos_in text (item_at xs item))
    gotos_hold = by (tree_in xs item) refl
      where
        by : (o : Option Item) → tree_in xs item ≡ o → AllByRecursion TokenHolds (by_statements (option_map_or (told_by bytes) o nothing).target_uses)
        by None is = tt
        by (Some t) is =
            let os = occurrences bytes t in
            each_by_statements TokenHolds (target_uses_after false os) (subst (AllByRecursion TokenHolds) (sym (uses_at_targets false os)) (names.targets item t is))

  state_row_holds : (k number j : ℕ) → P (item_name xs j) → InState P (numbered_row text xs ss k (number, j))
  state_row_holds k number j h = record {
    name = h;
    transitions = tree_holds j (tree_in xs j) refl;
    gotos = each_map (InNamed P) (named_state text (tokens_in xs j) ss j) (gotos_in text (item_at xs j)) (gotos_hold j);
  }

  set_row_holds : (k : ℕ) → is_set_begin ss k ≡ true → InSet P (set_row text xs ss k)
  set_row_holds k h = record {
    name = set_holds k h;
    states =
        each_counted (InState P) (numbered_row text xs ss k) 0 (states_in ss k)
        (each_passing (λ j. (i : ℕ) → InState P (numbered_row text xs ss k (i, j))) (λ j. is_named_state ss j && stands_in ss k j) (length ss)
        (λ j is i. state_row_holds k i j (named_state_holds j (and_first (is_named_state ss j) (stands_in ss k j) is))));
  }

  tables_hold : InTables P (tables_of text xs)
  tables_hold = record {
    program = program_holds P xs names.own;
    flags = each_kept (InFlag P) (flag_row_at xs ss) (flags_of ss) flag_holds;
    channels = each_map (InChannel P) (channel_row text xs ss) (assigned_channels text xs ss) (each_weaker ChannelHolds (λ c. InChannel P (channel_row text xs ss c)) channel_holds (assigned_channels text xs ss) channels_hold);
    sets = each_map (InSet P) (set_row text xs ss) (all_below (is_set_begin ss) (length ss)) (each_passing (λ k. InSet P (set_row text xs ss k)) (is_set_begin ss) (length ss) set_row_holds);
  }

-- ---- they lie in the text

token_lies : (text : List ℕ) (ts : List Piece) (n : ℕ) → IsSource text ts → SpanLiesIn text (span_of (slice_get ts n))
token_lies text ts n h = by (slice_get ts n) refl
  where
    by : (o : Option Piece) → slice_get ts n ≡ o → SpanLiesIn text (span_of o)
    by None e = omega arith
    by (Some p) e =
        let within = slice_get_within ts n p e in
        let lies : parsing.LiesIn text p = subst (parsing.LiesIn text) (get_or_from_slice_get ts n p p e) (h n p within) in
        omega (arith, lies)

pub tables_lie : (text : List ℕ) (xs : List ProgramItem) → ((item : ℕ) → IsSource text (tokens_in xs item)) → TablesLieIn text (tables_of text xs)
tables_lie text xs h = tables_hold (SpanLiesIn text) text xs (record {
  own = λ item t is. each_all (λ n. SpanLiesIn text (span_at xs item n)) (own_name t) (lies item);
  second = λ item is. lies item 1;
  declared = λ item t is. each_all (λ d. SpanLiesIn text (span_at xs item d.token)) (declared_in_tree text (tokens_in xs item) t) (λ d. lies item d.token);
  variables = λ item t is. each_all (λ c. SpanLiesIn text (span_at xs item c.variable.token)) (summary.clauses_in_tree text (tokens_in xs item) t) (λ c. lies item c.variable.token);
  targets = λ item t is. each_all (λ n. SpanLiesIn text (span_at xs item n)) (targets (occurrences (token_bytes text (tokens_in xs item)) t)) (lies item);
})
  where
    lies : (item number : ℕ) → SpanLiesIn text (span_at xs item number)
    lies item number = token_lies text (tokens_in xs item) number (h item)

-- ---- each has a byte

token_has_byte : (ts : List Piece) (n : ℕ) → All (λ p. 1 ≤ p.len) ts → n < length ts → HasByte (span_of (slice_get ts n))
token_has_byte ts n h within =
    let here = get_here ts n within in
    let p = here.0 in
    subst (λ o. HasByte (span_of o)) (sym here.1) (subst (λ (q : Piece). 1 ≤ q.len) (get_or_from_slice_get ts n p p here.1) (h n p within))

pub second_there : (text : List ℕ) (ts : List Piece) → is_some (second_in text ts) ≡ true → 1 < length ts
second_there text ts = by (slice_get ts 1) refl
  where
    by : (o : Option Piece) → slice_get ts 1 ≡ o → is_some (name_if text o) ≡ true → 1 < length ts
    by None e h = absurd (false≢true h)
    by (Some p) e h = slice_get_within ts 1 p e

pub have_bytes : (text : List ℕ) (xs : List ProgramItem) → AreRead text xs → ((item : ℕ) (t : Item) → tree_in xs item ≡ Some t → NamesItsTokens text (tokens_in xs item) t) → TablesHaveBytes (tables_of text xs)
have_bytes text xs read named = tables_hold HasByte text xs (record {
  own = λ item t is. each_weaker (λ n. n < length (tokens_in xs item)) (λ n. HasByte (span_at xs item n)) (has item) (own_name t) (named item t is).own;
  second = λ item is. has item 1 (second_there text (tokens_in xs item) is);
  declared = λ item t is. each_weaker (λ d. d.token < length (tokens_in xs item)) (λ d. HasByte (span_at xs item d.token)) (λ d. has item d.token) (declared_in_tree text (tokens_in xs item) t) (named item t is).declared;
  variables = λ item t is. each_weaker (λ c. c.variable.token < length (tokens_in xs item)) (λ c. HasByte (span_at xs item c.variable.token)) (λ c. has item c.variable.token) (summary.clauses_in_tree text (tokens_in xs item) t) (named item t is).variables;
  targets = λ item t is. each_weaker (λ n. n < length (tokens_in xs item)) (λ n. HasByte (span_at xs item n)) (has item) (targets (occurrences (token_bytes text (tokens_in xs item)) t)) (named item t is).targets;
})
  where
    has : (item number : ℕ) → number < length (tokens_in xs item) → HasByte (span_at xs item number)
    has item number within = token_has_byte (tokens_in xs item) number (read.bytes item) within
