-- The rows of channels of a text whose last items have no clauses and declare nothing that the items
-- before them can name: they go by the items in front alone, and by the bytes of these.
use Rattle.std.proofs.Common.{◌≡◌, ◌⊎◌, ℕ, zero, suc, ◌+◌, ◌<◌, ◌≤◌, ◌&&◌, not, Bool, true, false, List, [], ◌∷◌, ◌++◌, length, map, take, drop, slice_get, nat_eq, position, Option, Some, None, IfSome, is_some, if◌then◌else◌, inr, refl, sym, subst, ap, ap₂, ◌∙◌, arith, length-append}
use Rattle.std.specs.List.{AllByRecursion, flat_map, list_any, zip}
use Rattle.std.specs.Option.{option_and_then, option_map, option_map_or}
use Rattle.std.proofs.lemmas.Bool.{false≢true}
use Rattle.std.proofs.lemmas.List.{length-map, map-append, take-append-drop}
use Rattle.std.proofs.lemmas.Option.{slice_get_within}
use Rattle.snl_facts.specs.Booleans.{and_first}
use Rattle.snl_facts.specs.Each.{each_append, each_both, each_by, each_got, each_map, each_unmap, each_weaker}
use Rattle.snl_lex.specs.declared.piece.Class.{Class}
use Rattle.snl_lex.specs.declared.piece.Piece.{Piece}
use Rattle.snl_lex.specs.PieceList.{spelled}
use Rattle.snl_grammar.specs.declared.tree.clause.Clause.{Clause}
use Rattle.snl_grammar.specs.declared.tree.clause.Clause.TheVariants as clauses
use Rattle.snl_grammar.specs.declared.tree.item.Item.{Item}
use Rattle.snl_scope.specs.declared.facts.ClauseLink.{ClauseLink}
use Rattle.snl_scope.specs.declared.facts.Declaration.{Declaration}
use Rattle.snl_scope.specs.declared.facts.Scope.{Scope}
use Rattle.snl_scope.specs.declared.facts.Scope.TheVariants as scope
use Rattle.snl_summary.specs.declared.summary.Outline.{Outline}
use Rattle.snl_summary.specs.declared.summary.Summary.{Summary}
use Rattle.snl_summary.specs.declared.summary.VariableClause.{VariableClause}
use Rattle.snl_scope.specs.Channels.{is_monitored, sync_number}
use Rattle.snl_scope.specs.Clauses.{clause_links}
use Rattle.snl_scope.specs.Linked.{declaration_at, entry_declaration}
use Rattle.snl_scope.specs.Places.{begins_set, enclosing_set, is_set_begin}
use Rattle.snl_summary.specs.Summaries.{summary_in}
use Rattle.snl_summary.specs.Summaries.Clauses as summary
use Rattle.snl_walk.specs.Tokens.{token_bytes}
use Rattle.snl_tables.specs.declared.rows.ScopeName.TheVariants as named
use Rattle.snl_check.specs.Channels.{AssignedChannel, NamedChannel, assigned_channel, assigned_channels, channels_in, channels_of_clause, channels_on, joined}
use Rattle.snl_check.specs.Clauses.{ItemClause, clauses_in_tree, item_clause, item_clauses, item_clauses_before, item_clauses_if, resolved_clauses}
use Rattle.snl_check.specs.ItemSpans.{item_name, span_at, span_of}
use Rattle.snl_item_check.specs.Items.{ProgramItem, outline_of_item, outlines_of, tokens_in, tree_in}
use Rattle.snl_moved.specs.Quiet.{IsQuietAfter, are_quiet, is_flag_declared, is_hidden, is_later_after, is_nothing, is_quiet, quiet_along}
use Rattle.snl_check.specs.Tables.{channel_row, channel_rows, scope_name, scope_of_variable, sync_of, synced, synced_by, tables_of}
use Rattle.snl_moved.proofs.ClauseScopes.{each_second, resolved_meant}
use Rattle.snl_moved.proofs.FrontNames.{front_flags, front_got, front_place, front_resolves, got_in_front, resolved_there}
use Rattle.snl_moved.proofs.FrontClauses.{IsThere, KeepsFront, front_links, front_monitored, front_sync, grown_alike, grown_past, links_there}
use Rattle.snl_moved.proofs.SameClauses.{tree_alike}
use Rattle.snl_check.specs.SetsLaws.{SetsOpenInTurn}
use Rattle.snl_moved.proofs.ShiftLists.{flat_same, map_same}
use Rattle.snl_moved.proofs.ShiftedClauses.{HasBytes, assigned_stay, joined_stays, sync_stays}
use Rattle.snl_moved.proofs.SpanLaws.{each_beside, each_flat, each_got as got_each, place_begins, tested}

-- ---- lists

-- an element after the first of two lists
rear_got : {X : Type 0} (P : X → Type 0) (xs ys : List X) → AllByRecursion P ys → (i : ℕ) (x : X) → length xs ≤ i → slice_get (xs ++ ys) i ≡ Some x → P x
rear_got P [] ys h i x le e = each_got P ys i x h e
rear_got P (y ∷ xs) ys h zero x le e = absurd (omega (arith, le))
rear_got P (y ∷ xs) ys h (suc i) x le e = rear_got P xs ys h i x (omega (arith, le)) e

pub there : {X : Type 0} (xs : List X) (i : ℕ) → i < length xs → is_some (slice_get xs i) ≡ true
there [] i l = absurd (omega (arith, l))
there (x ∷ xs) zero l = refl
there (x ∷ xs) (suc i) l = there xs i (omega (arith, l))

-- what holds of each channel of a clause, by the variable of the clause
channels_each : (P : AssignedChannel → Type 0) (text : List ℕ) (xs : List ProgramItem) (p : ItemClause × ClauseLink) →
    ((variable token : ℕ) (ch : NamedChannel) → p.1.variable ≡ Some variable → P (assigned_channel p.0.item token variable ch)) → AllByRecursion P (channels_of_clause text xs p)
channels_each P text xs p h = by p.1.is_sound p.1.variable refl p.0.clause
  where
    by : (b : Bool) (v : Option ℕ) → p.1.variable ≡ v → (c : Clause) → AllByRecursion P (if b then channels_on text xs p.0.item v c else [])
    by true (Some variable) e (clauses.Assign name channel) =
        each_map P (assigned_channel p.0.item name variable) (channels_in text (tokens_in xs p.0.item) channel)
        (each_by (λ (ch : NamedChannel). P (assigned_channel p.0.item name variable ch)) (λ ch. h variable name ch e) (channels_in text (tokens_in xs p.0.item) channel))
    by _ _ e _ = tt

-- ---- items in front

module _ (fs rs : List ProgramItem) (got : (i : ℕ) → i < length fs → slice_get (fs ++ rs) i ≡ slice_get fs i) where
  pub front_tokens : (i : ℕ) → i < length fs → tokens_in (fs ++ rs) i ≡ tokens_in fs i
  front_tokens i l = ap (λ (x : Option ProgramItem). option_map_or (λ (x : ProgramItem). x.tokens) x []) (got i l)

  pub front_tree : (i : ℕ) → i < length fs → tree_in (fs ++ rs) i ≡ tree_in fs i
  front_tree i l = ap (option_and_then (λ (x : ProgramItem). x.tree)) (got i l)

  pub front_span : (i n : ℕ) → i < length fs → span_at (fs ++ rs) i n ≡ span_at fs i n
  front_span i n l = ap (λ (ts : List Piece). span_of (slice_get ts n)) (front_tokens i l)

  -- their clauses are all
  clauses_step : (xs : List ProgramItem) (n : ℕ) → item_clauses_before xs (suc n) ≡ item_clauses_before xs n ++ item_clauses_if n (tree_in xs n)
  clauses_step xs n = refl

  front_item_clauses : ((i : ℕ) → length fs ≤ i → item_clauses_if i (tree_in (fs ++ rs) i) ≡ []) → item_clauses (fs ++ rs) ≡ item_clauses fs
  front_item_clauses none =
      let many : length (fs ++ rs) ≡ length rs + length fs = omega (arith, length-append fs rs) in
      ap (item_clauses_before (fs ++ rs)) many
      ∙ grown_past (item_clauses_before fs) (item_clauses_before (fs ++ rs)) (length fs) (λ n. item_clauses_if n (tree_in (fs ++ rs) n)) (clauses_step (fs ++ rs)) none (length rs)
      ∙ grown_alike (item_clauses_before fs) (item_clauses_before (fs ++ rs)) (length fs) refl (λ n. item_clauses_if n (tree_in (fs ++ rs) n)) (λ n. item_clauses_if n (tree_in fs n))
      (clauses_step (fs ++ rs)) (clauses_step fs) (λ n l. ap (item_clauses_if n) (front_tree n l)) (length fs) (omega arith)

-- each is of one of the items
items_below : (xs : List ProgramItem) (n : ℕ) → AllByRecursion (λ (c : ItemClause). c.item < n) (item_clauses_before xs n)
items_below xs zero = tt
items_below xs (suc n) =
    each_append (λ (c : ItemClause). c.item < suc n) (item_clauses_before xs n) (item_clauses_if n (tree_in xs n))
    (each_weaker (λ (c : ItemClause). c.item < n) (λ (c : ItemClause). c.item < suc n) (λ c l. omega (arith, l)) (item_clauses_before xs n) (items_below xs n)) (by (tree_in xs n))
  where
    by : (t : Option Item) → AllByRecursion (λ (c : ItemClause). c.item < suc n) (item_clauses_if n t)
    by None = tt
    by (Some t) = each_map (λ (c : ItemClause). c.item < suc n) (item_clause n) (clauses_in_tree t) (each_by (λ (c : Clause). n < suc n) (λ c. omega arith) (clauses_in_tree t))

-- ---- a text in front of quiet items

module _ (text : List ℕ) (fs rs : List ProgramItem) where
  abbrev f : List Outline
  f = outlines_of text fs

  abbrev o : List Outline
  o = outlines_of text rs

  -- what is known of the items: those in front are there, those after them have no clause
  pub record IsFront : Type 0 where
    pub names : KeepsFront f o
    pub items : (i : ℕ) → i < length fs → slice_get (fs ++ rs) i ≡ slice_get fs i
    pub no_clause : (i : ℕ) → length fs ≤ i → item_clauses_if i (tree_in (fs ++ rs) i) ≡ []

  module _ (front : IsFront) where
    many : length f ≡ length fs
    many = length-map fs (outline_of_item text)

    resolved_same : resolved_clauses (fs ++ rs) (f ++ o) ≡ resolved_clauses fs f
    resolved_same = ap₂ (λ (cs : List ItemClause) (ls : List ClauseLink). zip cs ls) (front_item_clauses fs rs front.items front.no_clause) (front_links f o front.names)

    -- ---- scopes have the names that they have

    abbrev SameScope : Scope → Type 0
    SameScope c = scope_name (fs ++ rs) (f ++ o) c ≡ scope_name fs f c

    sets_same : (k : ℕ) → is_set_begin f k ≡ true → item_name (fs ++ rs) k ≡ item_name fs k
    sets_same k begins =
        let found = tested text fs (λ (s : Outline). begins_set s.role) k begins in
        front_span fs rs front.items k 1 (slice_get_within fs k found.0 found.1)

    state_same : (i : ℕ) → i < length fs → SameScope (scope.State i)
    state_same i l =
        ap (λ (k : Option ℕ). named.State (option_map (item_name (fs ++ rs)) k) (item_name (fs ++ rs) i)) (front.names.places i (omega (arith, l, many)))
        ∙ ap₂ named.State (by (enclosing_set f i) refl) (front_span fs rs front.items i 1 l)
      where
        by : (p : Option ℕ) → enclosing_set f i ≡ p → option_map (item_name (fs ++ rs)) p ≡ option_map (item_name fs) p
        by None e = refl
        by (Some k) e = ap Some (sets_same k (place_begins f i k e))

    -- ---- what is known of each clause

    abbrev IsMeantThere : Option ℕ → Type 0
    IsMeantThere v = IfSome v (λ (number : ℕ). (d : Declaration) → declaration_at f number ≡ Some d → SameScope d.scope)

    abbrev IsIn : ItemClause × ClauseLink → Type 0
    IsIn p = (p.0.item < length fs) × ((IsThere f o front.names p.1.variable) × (IsMeantThere p.1.variable))

    own : (i : ℕ) (s : Outline) → slice_get f i ≡ Some s → (s.clauses ≡ []) ⊎ SameScope (scope.State i)
    own i s at = inr (state_same i (omega (arith, slice_get_within f i s at, many)))

    each_in : AllByRecursion IsIn (resolved_clauses fs f)
    each_in =
        each_both (λ (p : ItemClause × ClauseLink). p.0.item < length fs) (λ (p : ItemClause × ClauseLink). (IsThere f o front.names p.1.variable) × (IsMeantThere p.1.variable)) (resolved_clauses fs f)
        (each_beside (λ (c : ItemClause). c.item < length fs) (item_clauses fs) (clause_links f) (items_below fs (length fs)))
        (each_both (λ (p : ItemClause × ClauseLink). IsThere f o front.names p.1.variable) (λ (p : ItemClause × ClauseLink). IsMeantThere p.1.variable) (resolved_clauses fs f)
        (each_second (λ (l : ClauseLink). IsThere f o front.names l.variable) (item_clauses fs) (clause_links f) (links_there f o front.names))
        (resolved_meant f SameScope refl (λ k begins. ap named.StateSet (sets_same k begins)) own fs))

    -- ---- channels and how they are synced

    on_clause : (p : ItemClause × ClauseLink) → IsIn p → channels_of_clause text (fs ++ rs) p ≡ channels_of_clause text fs p
    on_clause p h = ap (λ (l : List AssignedChannel). if p.1.is_sound then l else []) (by p.1.variable p.0.clause)
      where
        by : (v : Option ℕ) (c : Clause) → channels_on text (fs ++ rs) p.0.item v c ≡ channels_on text fs p.0.item v c
        by (Some variable) (clauses.Assign name channel) =
            ap (λ (ts : List Piece). map (assigned_channel p.0.item name variable) (channels_in text ts channel)) (front_tokens fs rs front.items p.0.item h.0)
        by _ _ = refl

    pub assigned_same : assigned_channels text (fs ++ rs) (f ++ o) ≡ assigned_channels text fs f
    assigned_same =
        ap (flat_map (channels_of_clause text (fs ++ rs))) resolved_same
        ∙ flat_same (channels_of_clause text (fs ++ rs)) (channels_of_clause text fs) (resolved_clauses fs f)
        (each_weaker IsIn (λ (p : ItemClause × ClauseLink). channels_of_clause text (fs ++ rs) p ≡ channels_of_clause text fs p) on_clause (resolved_clauses fs f) each_in)

    synced_same : (p : ItemClause × ClauseLink) → IsIn p → synced text (fs ++ rs) (f ++ o) p ≡ synced text fs f p
    synced_same p h =
        ap₂ (λ (ts : List Piece) (flag : Option ℕ). synced_by text ts flag p.0.clause) (front_tokens fs rs front.items p.0.item h.0)
        (ap (λ (ns : List ℕ). option_and_then (λ n. option_map suc (position (nat_eq n) ns)) p.1.flag) front.names.flags)

    synced_at : (n : ℕ) → option_and_then (synced text (fs ++ rs) (f ++ o)) (slice_get (resolved_clauses fs f) n) ≡ option_and_then (synced text fs f) (slice_get (resolved_clauses fs f) n)
    synced_at n = by (slice_get (resolved_clauses fs f) n) (got_each IsIn (resolved_clauses fs f) n each_in)
      where
        by : (p : Option (ItemClause × ClauseLink)) → IfSome p IsIn → option_and_then (synced text (fs ++ rs) (f ++ o)) p ≡ option_and_then (synced text fs f) p
        by None h = refl
        by (Some p) h = synced_same p h

    sync_same : (variable : ℕ) (element : Option ℕ) → sync_of text (fs ++ rs) (f ++ o) variable element ≡ sync_of text fs f variable element
    sync_same variable element =
        ap (option_and_then (λ n. option_and_then (synced text (fs ++ rs) (f ++ o)) (slice_get (resolved_clauses (fs ++ rs) (f ++ o)) n))) (front_sync f o front.names variable element)
        ∙ by (sync_number f variable element)
      where
        by : (s : Option ℕ) → option_and_then (λ n. option_and_then (synced text (fs ++ rs) (f ++ o)) (slice_get (resolved_clauses (fs ++ rs) (f ++ o)) n)) s
            ≡ option_and_then (λ n. option_and_then (synced text fs f) (slice_get (resolved_clauses fs f) n)) s
        by None = refl
        by (Some n) = ap (λ (l : List (ItemClause × ClauseLink)). option_and_then (synced text (fs ++ rs) (f ++ o)) (slice_get l n)) resolved_same ∙ synced_at n

    -- ---- the rows

    scope_same : (variable : ℕ) → IsThere f o front.names (Some variable) → IsMeantThere (Some variable) → scope_of_variable (fs ++ rs) (f ++ o) variable ≡ scope_of_variable fs f variable
    scope_same variable there meant =
        ap (λ (d : Option Declaration). option_map_or (λ (d : Declaration). scope_name (fs ++ rs) (f ++ o) d.scope) d named.Program) (ap (option_and_then entry_declaration) (front.names.got variable there))
        ∙ by (declaration_at f variable) meant
      where
        by : (d : Option Declaration) → ((e : Declaration) → d ≡ Some e → SameScope e.scope) →
            option_map_or (λ (d : Declaration). scope_name (fs ++ rs) (f ++ o) d.scope) d named.Program ≡ option_map_or (λ (d : Declaration). scope_name fs f d.scope) d named.Program
        by None h = refl
        by (Some d) h = h d refl

    abbrev SameRow : AssignedChannel → Type 0
    SameRow c = channel_row text (fs ++ rs) (f ++ o) c ≡ channel_row text fs f c

    row_same : (c : AssignedChannel) → c.item < length fs → IsThere f o front.names (Some c.variable) → IsMeantThere (Some c.variable) → SameRow c
    row_same c l there meant = λ j. record {
      variable = front_span fs rs front.items c.item c.token l j;
      element = c.element;
      scope = scope_same c.variable there meant j;
      pv = joined text (front_tokens fs rs front.items c.item l j) c.strings;
      is_monitored = front_monitored f o front.names c.variable c.element j;
      sync = sync_same c.variable c.element j;
    }

    rows_of : (p : ItemClause × ClauseLink) → IsIn p → AllByRecursion SameRow (channels_of_clause text fs p)
    rows_of p h = channels_each SameRow text fs p (λ variable token ch e.
        row_same (assigned_channel p.0.item token variable ch) h.0 (subst (IsThere f o front.names) e h.1.0) (subst IsMeantThere e h.1.1))

    pub front_rows : channel_rows text (fs ++ rs) (f ++ o) ≡ channel_rows text fs f
    front_rows =
        ap (map (channel_row text (fs ++ rs) (f ++ o))) assigned_same
        ∙ map_same (channel_row text (fs ++ rs) (f ++ o)) (channel_row text fs f) (assigned_channels text fs f) (each_flat IsIn SameRow (channels_of_clause text fs) (resolved_clauses fs f) rows_of each_in)

-- ---- the same items in another text

abbrev pub HasSameBytes : (old text : List ℕ) → ProgramItem → Type 0
HasSameBytes old text x = (m : ℕ) → token_bytes text x.tokens m ≡ token_bytes old x.tokens m

module _ (old text : List ℕ) (fs : List ProgramItem) (bytes : AllByRecursion (HasSameBytes old text) fs) where
  pub bytes_at : (i : ℕ) → i < length fs → token_bytes text (tokens_in fs i) ≡ token_bytes old (tokens_in fs i)
  bytes_at i l = by (slice_get fs i) (got_each (HasSameBytes old text) fs i bytes) (there fs i l)
    where
      by : (x : Option ProgramItem) → IfSome x (HasSameBytes old text) → is_some x ≡ true →
          token_bytes text (option_map_or (λ (x : ProgramItem). x.tokens) x []) ≡ token_bytes old (option_map_or (λ (x : ProgramItem). x.tokens) x [])
      by None h some = absurd (false≢true some)
      by (Some x) h some = λ j m. h m j

  pub each_bytes : (ss : List Outline) → AllByRecursion (HasBytes old text fs fs) (resolved_clauses fs ss)
  each_bytes ss =
      each_weaker (λ (p : ItemClause × ClauseLink). p.0.item < length fs) (HasBytes old text fs fs) (λ p l. bytes_at p.0.item l) (resolved_clauses fs ss)
      (each_beside (λ (c : ItemClause). c.item < length fs) (item_clauses fs) (clause_links ss) (items_below fs (length fs)))

  row_stays : (ss : List Outline) (c : AssignedChannel) → c.item < length fs → channel_row text fs ss c ≡ channel_row old fs ss c
  row_stays ss c l = λ j. record {
    variable = span_at fs c.item c.token;
    element = c.element;
    scope = scope_of_variable fs ss c.variable;
    pv = joined_stays old text (tokens_in fs c.item) (tokens_in fs c.item) (bytes_at c.item l) c.strings j;
    is_monitored = is_monitored ss c.variable c.element;
    sync = sync_stays old text fs fs ss refl (each_bytes ss) c.variable c.element j;
  }

  rows_stay : (ss : List Outline) → channel_rows text fs ss ≡ channel_rows old fs ss
  rows_stay ss =
      ap (map (channel_row text fs ss)) (assigned_stay old text fs fs ss refl (each_bytes ss))
      ∙ map_same (channel_row text fs ss) (channel_row old fs ss) (assigned_channels old fs ss)
      (each_flat (λ (p : ItemClause × ClauseLink). p.0.item < length fs) (λ (c : AssignedChannel). channel_row text fs ss c ≡ channel_row old fs ss c) (channels_of_clause old fs) (resolved_clauses fs ss)
      (λ p l. channels_each (λ (c : AssignedChannel). channel_row text fs ss c ≡ channel_row old fs ss c) old fs p (λ variable token ch e. row_stays ss (assigned_channel p.0.item token variable ch) l))
      (each_beside (λ (c : ItemClause). c.item < length fs) (item_clauses fs) (clause_links ss) (items_below fs (length fs))))

-- ---- both texts

-- The law of the crate below that this rests on: tokens that are spelled alike give the same
-- summary.
abbrev pub SummariesAlike : Type 0
SummariesAlike = (text moved : List ℕ) (tokens shifted : List Piece) → spelled text tokens ≡ spelled moved shifted → (tree : Option Item) → summary_in text tokens tree ≡ summary_in moved shifted tree

spelled_same : (old text : List ℕ) (tokens : List Piece) → ((m : ℕ) → token_bytes text tokens m ≡ token_bytes old tokens m) → spelled text tokens ≡ spelled old tokens
unfolding token_bytes
spelled_same old text [] h = refl
spelled_same old text (p ∷ ps) h = ap₂ (λ (b : List ℕ) (l : List (Class × List ℕ)). (p.kind, b) ∷ l) (h 0) (spelled_same old text ps (λ m. h (suc m)))

pub outlines_same : SummariesAlike → (old text : List ℕ) (fs : List ProgramItem) → AllByRecursion (HasSameBytes old text) fs → outlines_of text fs ≡ outlines_of old fs
outlines_same law old text [] h = refl
outlines_same law old text (x ∷ fs) h =
    ap₂ (λ (s : Outline) (ss : List Outline). s ∷ ss) (ap (λ (m : Summary). m.outline) (law text old x.tokens x.tokens (spelled_same old text x.tokens h.0) x.tree)) (outlines_same law old text fs h.1)

-- the items after those in front have no clauses
quiet_clauses : (in_later_set : Bool) (o : List Outline) → is_some (quiet_along in_later_set o) ≡ true → AllByRecursion (λ (s : Outline). s.clauses ≡ []) o
quiet_clauses in_later_set [] h = tt
quiet_clauses in_later_set (s ∷ o) h = by (is_quiet in_later_set s) refl (quiet_clauses (is_later_after in_later_set s) o) h
  where
    nothing : (l : List VariableClause) → is_nothing l ≡ true → l ≡ []
    nothing [] e = refl
    nothing (x ∷ l) e = absurd (false≢true e)

    by : (q : Bool) → is_quiet in_later_set s ≡ q → (is_some (quiet_along (is_later_after in_later_set s) o) ≡ true → AllByRecursion (λ (s : Outline). s.clauses ≡ []) o) →
        is_some (option_and_then (λ next. quiet_along next o) (if q then Some (is_later_after in_later_set s) else None)) ≡ true → AllByRecursion (λ (s : Outline). s.clauses ≡ []) (s ∷ o)
    by true e rest h =
        let silent = and_first (is_nothing s.clauses && not (list_any is_flag_declared s.declares)) (is_hidden in_later_set s) e in
        (nothing s.clauses (and_first (is_nothing s.clauses) (not (list_any is_flag_declared s.declares)) silent), rest h)
    by false e rest h = absurd (false≢true h)

tree_clauses : (text : List ℕ) (tokens : List Piece) (i : ℕ) (t : Option Item) → summary.clauses_in text tokens t ≡ [] → item_clauses_if i t ≡ []
tree_clauses text tokens i None none = refl
tree_clauses text tokens i (Some t) none = ap (map (item_clause i)) (by (clauses_in_tree t) (tree_alike text tokens t ∙ none))
  where
    by : (l : List Clause) → map (summary.clause_of text tokens) l ≡ [] → l ≡ []
    by [] e = refl
    by (x ∷ l) e = absurd cc

module _ (turns : SetsOpenInTurn) (text : List ℕ) (xs : List ProgramItem) (n : ℕ) (quiet : are_quiet (outlines_of text (drop n xs)) ≡ true) where
  abbrev fs : List ProgramItem
  fs = take n xs

  abbrev rs : List ProgramItem
  rs = drop n xs

  none : AllByRecursion (λ (s : Outline). s.clauses ≡ []) (outlines_of text rs)
  none = quiet_clauses false (outlines_of text rs) quiet

  item_none : (i : ℕ) → length fs ≤ i → item_clauses_if i (tree_in (fs ++ rs) i) ≡ []
  item_none i le = by (slice_get (fs ++ rs) i) refl
    where
      by : (x : Option ProgramItem) → slice_get (fs ++ rs) i ≡ x → item_clauses_if i (option_and_then (λ (x : ProgramItem). x.tree) x) ≡ []
      by None e = refl
      by (Some x) e =
          tree_clauses text x.tokens i x.tree
          (rear_got (λ (x : ProgramItem). (outline_of_item text x).clauses ≡ []) fs rs (each_unmap (λ (s : Outline). s.clauses ≡ []) (outline_of_item text) rs none) i x le e)

  pub is_front : IsFront text fs rs
  is_front =
      let f = outlines_of text fs in
      let o = outlines_of text rs in
      record {
        names = record {
          resolves = front_resolves turns f o quiet;
          there = resolved_there f;
          got = front_got turns f o quiet;
          flags = front_flags turns f o quiet;
          places = front_place f o;
          outlines = got_in_front f o;
          no_clause = λ i s le e. rear_got (λ (s : Outline). s.clauses ≡ []) f o none i s le e;
        };
        items = got_in_front fs rs;
        no_clause = item_none;
      }

  rows_of_front : channel_rows text xs (outlines_of text xs) ≡ channel_rows text fs (outlines_of text fs)
  rows_of_front =
      ap (λ (l : List ProgramItem). channel_rows text l (outlines_of text l)) (sym (take-append-drop n xs))
      ∙ ap (channel_rows text (fs ++ rs)) (map-append (outline_of_item text) fs rs)
      ∙ front_rows text fs rs is_front

pub channels_kept : SummariesAlike → SetsOpenInTurn → (old text : List ℕ) (xs ys : List ProgramItem) (n : ℕ) → IsQuietAfter old text xs ys n → (tables_of text ys).channels ≡ (tables_of old xs).channels
channels_kept law turns old text xs ys n quiet =
    rows_of_front turns text ys n quiet.quiet_now
    ∙ ap (λ (l : List ProgramItem). channel_rows text l (outlines_of text l)) quiet.front
    ∙ ap (channel_rows text (take n xs)) (outlines_same law old text (take n xs) quiet.bytes)
    ∙ rows_stay old text (take n xs) quiet.bytes (outlines_of old (take n xs))
    ∙ sym (rows_of_front turns old xs n quiet.quiet_before)
