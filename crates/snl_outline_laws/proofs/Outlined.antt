-- The state sets, the states and the event flags of the tables are in the outline.
use Rattle.std.proofs.Common.{◌≡◌, ℕ, ◌+◌, ◌<◌, Bool, true, false, ◌&&◌, All, List, [], ◌∷◌, length, slice_get, Option, None, Some, is_some, refl, ap, sym, subst, ◌∙◌, arith}
use Rattle.std.specs.List.{AllByRecursion as Each, cons_option, enumerate_from, filter_map}
use Rattle.std.specs.Option.{option_and_then, option_map, option_map_or}
use Rattle.std.proofs.lemmas.List.{length-map}
use Rattle.std.proofs.lemmas.List.Elements.{All-from_recursion}
use Rattle.std.proofs.lemmas.Option.{slice_get-map, slice_get_within}
use Rattle.snl_facts.specs.Booleans.{and_first, and_second}
use Rattle.snl_facts.specs.Each.{each_got, each_map}
use Rattle.snl_lex.specs.declared.piece.Piece.{Piece}
use Rattle.snl_grammar.specs.Parsing.{kinds_in}
use Rattle.snl_grammar.specs.Reading.Items.{item_of}
use Rattle.snl_grammar.specs.declared.tree.item.Item.{Item}
use Rattle.snl_grammar.specs.declared.tree.item.Item.TheVariants as items
use Rattle.snl_summary.specs.declared.summary.Declared.{Declared}
use Rattle.snl_summary.specs.declared.summary.Opening.{Opening}
use Rattle.snl_summary.specs.declared.summary.Opening.TheVariants as opening
use Rattle.snl_summary.specs.declared.summary.Outline.{Outline}
use Rattle.snl_summary.specs.declared.summary.SymbolKind.{SymbolKind}
use Rattle.snl_summary.specs.declared.summary.SymbolKind.TheVariants as symbol_kind
use Rattle.snl_summary.specs.declared.summary.Variable.{Variable}
use Rattle.snl_summary.specs.NamedTokens.{NamesItsTokens}
use Rattle.snl_summary.specs.Summaries.{kind_of, name_if, role_of}
use Rattle.snl_summary.specs.Summaries.Declares.{declared_in}
use Rattle.snl_scope.specs.Below.{all_below}
use Rattle.snl_scope.specs.BelowLaws.{each_passing}
use Rattle.snl_scope.specs.Clauses.{is_event_flag}
use Rattle.snl_scope.specs.declared.facts.Scope.{Scope}
use Rattle.snl_scope.specs.Flags.{declares_flag, flags_of, is_first, is_flag}
use Rattle.snl_scope.specs.Linked.{entry_declaration, scope_in, variable_declaration}
use Rattle.snl_scope.specs.Names.{Entry, entries}
use Rattle.snl_scope.specs.Order.{is_named_state, is_state_word, state_name}
use Rattle.snl_scope.specs.Places.{begins_set, is_set_begin, item_is, stands_in}
use Rattle.snl_tables.specs.declared.rows.FlagRow.{FlagRow}
use Rattle.snl_tables.specs.declared.rows.SetRow.{SetRow}
use Rattle.snl_tables.specs.declared.rows.StateRow.{StateRow}
use Rattle.snl_item_check.specs.Items.{ProgramItem, outline_of_item, tokens_in}
use Rattle.snl_check.specs.ItemSpans.{item_name, span_at as span_in, span_of as span_of_token}
use Rattle.snl_check.specs.Members.{states_in}
use Rattle.snl_check.specs.States.{numbered_row, set_row, set_rows, state_rows}
use Rattle.snl_check.specs.Tables.{flag_row, flag_row_at, flag_rows}
use Rattle.snl_kept.specs.Checks.{outlines_in}
use Rattle.snl_kept.specs.Program.{item_tokens, items_of, program_item, tree_in}
use Rattle.snl_kept.specs.Tables.{tables_in}
use Rattle.snl_kept.specs.TokenLaws.{read_tree}
use Rattle.snl_questions.specs.Items.{span_at, span_of}
use Rattle.snl_questions.specs.ItemTokensLaws.{outline_at, outline_by}
use Rattle.snl_questions.specs.declared.document_symbols.symbol.DocumentSymbolKind.{DocumentSymbolKind}
use Rattle.snl_questions.specs.declared.document_symbols.symbol.DocumentSymbolKind.TheVariants as kinds
use Rattle.snl_questions.specs.Symbols.{declared_kind, kind_by_opening, own_kind, symbols_of}
use Rattle.snl_outline_laws.specs.Outlined.{HasSymbol}
use Rattle.snl_outline_laws.proofs.Lists.{get_here}
use Rattle.snl_outline_laws.proofs.Origins.{HasOrigin, all_originate, declares}
use Rattle.snl_outline_laws.proofs.Rows.{AreInARow}
use Rattle.snl_outline_laws.proofs.Symbols.{declared_outlined, own_outlined}

-- ---- what is known of an item by a test of it

pub record Passes (test : Outline → Bool) (ss : List Outline) (i : ℕ) : Type 0 where
  pub outline : Outline
  pub at : slice_get ss i ≡ Some outline
  pub passes : test outline ≡ true

pub passing : (test : Outline → Bool) (ss : List Outline) (i : ℕ) → item_is test ss i ≡ true →
    Passes test ss i
passing test ss i = by (slice_get ss i) refl
  where
    by : (o : Option Outline) → slice_get ss i ≡ o → option_map_or test o false ≡ true →
        Passes test ss i
    by None at h = absurd cc
    by (Some s) at h = record { outline = s; at = at; passes = h }

-- the tokens of an item of which this is the outline
pub record ItemAt (text : List ℕ) (i : ℕ) (s : Outline) : Type 0 where
  pub own : List Piece
  pub at : slice_get (item_tokens text) i ≡ Some own
  pub is : s ≡ outline_by text own

pub item_at : (text : List ℕ) (i : ℕ) (s : Outline) → slice_get (outlines_in text) i ≡ Some s →
    ItemAt text i s
item_at text i s there = by (slice_get (item_tokens text) i) refl (sym (outline_at text i) ∙ there)
  where
    by : (o : Option (List Piece)) → slice_get (item_tokens text) i ≡ o →
        option_map (outline_by text) o ≡ Some s → ItemAt text i s
    by None at h = absurd cc
    by (Some own) at h = record { own = own; at = at; is = cc }

-- ---- kinds

state_word : (o : Opening) → is_state_word o ≡ true → kind_by_opening o ≡ Some kinds.State
state_word opening.State h = refl
state_word opening.Program h = absurd cc
state_word opening.Ss h = absurd cc
state_word opening.Other h = absurd cc

-- the begin of a state set is no state of one
not_begin : (ss : List Outline) (k i : ℕ) (s : Outline) → slice_get ss i ≡ Some s →
    stands_in ss k i ≡ true → begins_set s.role ≡ false
not_begin ss k i s at h = by (begins_set s.role) refl
  where
    by : (b : Bool) → begins_set s.role ≡ b → begins_set s.role ≡ false
    by false e = e
    by true e = absurd (grind (arith, at, h, e))

state_kind : (s : Outline) → is_some (state_name s) ≡ true → begins_set s.role ≡ false →
    own_kind s ≡ Some kinds.State
state_kind s named out = grind (arith, named, out, state_word s.opening)

flag_kind : (k : SymbolKind) → is_event_flag k ≡ true → declared_kind k ≡ kinds.EventFlag
flag_kind symbol_kind.EventFlag h = refl
flag_kind symbol_kind.Foreign h = absurd cc
flag_kind symbol_kind.Function h = absurd cc
flag_kind symbol_kind.Assignable h = absurd cc
flag_kind symbol_kind.Unassignable h = absurd cc

-- the begin of a state set was read as one
pub record BeginsSet (t : Option Item) : Type 0 where
  pub name : ℕ
  pub is : t ≡ Some (items.SsBegin name)

set_read : (t : Option Item) (b : Bool) → begins_set (role_of (kind_of t) b) ≡ true → BeginsSet t
set_read (Some (items.SsBegin name)) b h = record { name = name; is = refl }
set_read (Some (items.StateBlock name ms)) true h = absurd cc
set_read (Some (items.StateBlock name ms)) false h = absurd cc
set_read None b h = absurd cc
set_read (Some (items.Header name parameters)) b h = absurd cc
set_read (Some (items.Definition d)) b h = absurd cc
set_read (Some (items.Foreign names)) b h = absurd cc
set_read (Some (items.Clause clause)) b h = absurd cc
set_read (Some (items.OptionLine line)) b h = absurd cc
set_read (Some (items.Entry block)) b h = absurd cc
set_read (Some (items.Exit block)) b h = absurd cc
set_read (Some items.SsEnd) b h = absurd cc
set_read (Some (items.Function f)) b h = absurd cc
set_read (Some (items.StructDef name ms)) b h = absurd cc
set_read (Some (items.CBlock n)) b h = absurd cc
set_read (Some items.Empty) b h = absurd cc

-- ---- lists

each_numbered : (P : ℕ × ℕ → Type 0) (from : ℕ) (js : List ℕ) →
    Each (λ j. (n : ℕ) → P (n, j)) js → Each P (enumerate_from from js)
each_numbered P from [] h = tt
each_numbered P from (j ∷ js) h = (h.0 from, each_numbered P (from + 1) js h.1)

each_kept : {X Y : Type 0} (P : Y → Type 0) (f : X → Option Y) (xs : List X) →
    Each (λ x. (y : Y) → f x ≡ Some y → P y) xs → Each P (filter_map f xs)
each_kept P f [] h = tt
each_kept {Y = Y} P f (x ∷ xs) h = by (f x) refl (each_kept P f xs h.1)
  where
    by : (o : Option Y) → f x ≡ o → Each P (filter_map f xs) →
        Each P (cons_option o (filter_map f xs))
    by None e rest = rest
    by (Some y) e rest = (h.0 y e, rest)

-- ---- the tables

module _ (text : List ℕ) (row : AreInARow text)
    (names : (own : List Piece) (t : Item) → item_of (kinds_in text own) ≡ Some t →
    NamesItsTokens text own t)
  where
    abbrev ss : List Outline
    ss = outlines_in text

    abbrev xs : List ProgramItem
    xs = items_of text

    count : length ss ≡ length (item_tokens text)
    count = length-map xs (outline_of_item text) ∙ length-map (item_tokens text) (program_item text)

    -- the span of a token in the rows is that in the outline
    span_told : (i n : ℕ) (own : List Piece) → slice_get (item_tokens text) i ≡ Some own →
        n < length own → span_at (item_tokens text) i n ≡ Some (span_in xs i n)
    span_told i n own at less =
        let token = get_here own n less in
        let listed : tokens_in xs i ≡ own =
        ap (λ (o : Option ProgramItem). option_map_or (λ x. x.tokens) o [])
        (slice_get-map (program_item text) (item_tokens text) i ∙ ap (option_map (program_item text)) at)
        in
        ap (λ (o : Option (List Piece)). option_and_then (λ x. option_map span_of (slice_get x n)) o)
        at
        ∙ ap (option_map span_of) token.1
        ∙ sym (ap (λ (x : List Piece). Some (span_of_token (slice_get x n))) listed
        ∙ ap (λ (o : Option Piece). Some (span_of_token o)) token.1)

    within : (i : ℕ) (own : List Piece) → slice_get (item_tokens text) i ≡ Some own →
        i < length (item_tokens text)
    within i own at = slice_get_within (item_tokens text) i own at

    -- ---- state sets

    set_outlined : (k : ℕ) → is_set_begin ss k ≡ true →
        HasSymbol (symbols_of text) kinds.StateSet (item_name xs k)
    set_outlined k h =
        let known = passing (λ s. begins_set s.role) ss k h in
        let item = item_at text k known.outline known.at in
        let tree : Option Item = tree_in text item.own in
        let set : BeginsSet tree =
        set_read tree _ (sym (ap (λ (s : Outline). begins_set s.role) item.is) ∙ known.passes) in
        let few = (names item.own (items.SsBegin set.name)
        (read_tree text item.own (items.SsBegin set.name) set.is)).own.0 in
        own_outlined text row count k known.outline kinds.StateSet (item_name xs k)
        (within k item.own item.at) known.at (rw known.passes refl)
        (span_told k 1 item.own item.at few)

    pub sets_outlined : All (λ (set : SetRow). HasSymbol (symbols_of text) kinds.StateSet set.name)
        (tables_in text).sets
    unfolding tables_in
    sets_outlined =
        let P : SetRow → Type 0 = λ set. HasSymbol (symbols_of text) kinds.StateSet set.name in
        All-from_recursion P (set_rows text xs ss)
        (each_map P (set_row text xs ss) (all_below (is_set_begin ss) (length ss))
        (each_passing (λ k. P (set_row text xs ss k)) (is_set_begin ss) (length ss) set_outlined))

    -- ---- states

    -- the second token is there, if it is a name
    second_there : (own : List Piece) → is_some (name_if text (slice_get own 1)) ≡ true →
        1 < length own
    second_there own h = by (slice_get own 1) refl h
      where
        by : (o : Option Piece) → slice_get own 1 ≡ o → is_some (name_if text o) ≡ true →
            1 < length own
        by None at some = absurd cc
        by (Some token) at some = slice_get_within own 1 token at

    second_some : (s : Outline) → is_some (state_name s) ≡ true → is_some s.second ≡ true
    second_some s h = grind (arith, h)

    state_outlined : (k j : ℕ) → (is_named_state ss j && stands_in ss k j) ≡ true →
        HasSymbol (symbols_of text) kinds.State (item_name xs j)
    state_outlined k j h =
        let known = passing (λ s. is_some (state_name s)) ss j
        (and_first (is_named_state ss j) (stands_in ss k j) h) in
        let item = item_at text j known.outline known.at in
        let out = not_begin ss k j known.outline known.at
        (and_second (is_named_state ss j) (stands_in ss k j) h) in
        let few : 1 < length item.own = second_there item.own
        (sym (ap (λ (s : Outline). is_some s.second) item.is)
        ∙ second_some known.outline known.passes) in
        own_outlined text row count j known.outline kinds.State (item_name xs j)
        (within j item.own item.at) known.at (state_kind known.outline known.passes out)
        (span_told j 1 item.own item.at few)

    abbrev StateOutlined : StateRow → Type 0
    StateOutlined state = HasSymbol (symbols_of text) kinds.State state.name

    in_set : (k : ℕ) → All StateOutlined (state_rows text xs ss k)
    in_set k =
        let among : ℕ → Bool = λ j. is_named_state ss j && stands_in ss k j in
        All-from_recursion StateOutlined (state_rows text xs ss k)
        (each_map StateOutlined (numbered_row text xs ss k) (enumerate_from 0 (states_in ss k))
        (each_numbered (λ p. StateOutlined (numbered_row text xs ss k p)) 0 (states_in ss k)
        (each_passing (λ j. (n : ℕ) → StateOutlined (numbered_row text xs ss k (n, j))) among
        (length ss) (λ j h. λ n. state_outlined k j h))))

    pub states_outlined : All (λ (set : SetRow). All StateOutlined set.states) (tables_in text).sets
    unfolding tables_in
    states_outlined =
        let P : SetRow → Type 0 = λ set. All StateOutlined set.states in
        All-from_recursion P (set_rows text xs ss)
        (each_map P (set_row text xs ss) (all_below (is_set_begin ss) (length ss))
        (each_passing (λ k. P (set_row text xs ss k)) (is_set_begin ss) (length ss)
        (λ k h. in_set k)))

    -- ---- event flags

    abbrev FlagOutlined : FlagRow → Type 0
    FlagOutlined flag = HasSymbol (symbols_of text) kinds.EventFlag flag.name

    -- what an item declares is at a token of it
    declared_few : (own : List Piece) (t : Option Item) (k : ℕ) (d : Declared) →
        tree_in text own ≡ t → slice_get (declared_in text own t) k ≡ Some d → d.token < length own
    declared_few own None k d read among = absurd cc
    declared_few own (Some t) k d read among =
        each_got (λ (x : Declared). x.token < length own) _ k d
        (names own t (read_tree text own t read)).declared among

    entry_outlined : (e : Entry) (v : Variable) → HasOrigin ss e → e.variable ≡ Some v →
        HasSymbol (symbols_of text) (declared_kind v.symbol_kind) (span_in xs e.item e.token)
    entry_outlined e v from says =
        let origin = declares ss e v from says in
        let item = item_at text e.item origin.outline origin.at in
        let d : Declared = origin.declared in
        let token : e.token ≡ d.token = ap (λ (x : Entry). x.token) origin.is in
        let kind : v ≡ d.variable =
        let same : Some v ≡ Some d.variable = sym says ∙ ap (λ (x : Entry). x.variable) origin.is in
        cc in
        let among : slice_get (declared_in text item.own (tree_in text item.own)) origin.place
        ≡ Some d =
        sym (ap (λ (s : Outline). slice_get s.declares origin.place) item.is) ∙ origin.among in
        let few : d.token < length item.own =
        declared_few item.own (tree_in text item.own) origin.place d refl among in
        let there = declared_outlined text row count e.item origin.outline origin.place d
        (span_in xs e.item d.token) (within e.item item.own item.at) origin.at origin.among
        (span_told e.item d.token item.own item.at few) in
        subst (λ (w : Variable). HasSymbol (symbols_of text) (declared_kind w.symbol_kind)
        (span_in xs e.item e.token)) (sym kind)
        (subst (λ (n : ℕ). HasSymbol (symbols_of text) (declared_kind d.variable.symbol_kind)
        (span_in xs e.item n)) (sym token) there)

    flag_outlined : (number : ℕ) → is_flag (entries ss) number ≡ true → (r : FlagRow) →
        flag_row_at xs ss number ≡ Some r → FlagOutlined r
    flag_outlined number h r made = by_entry (slice_get (entries ss) number) refl h made
      where
        made_of : (e : Entry) (v : Variable) (o : Option Scope) →
            is_event_flag v.symbol_kind ≡ true →
            HasSymbol (symbols_of text) (declared_kind v.symbol_kind) (span_in xs e.item e.token) →
            option_map (flag_row xs ss) (option_map (λ s. variable_declaration e.item e.token s v) o)
            ≡ Some r → FlagOutlined r
        made_of e v None is there m = absurd cc
        made_of e v (Some s) is there m =
            let made : FlagRow = flag_row xs ss (variable_declaration e.item e.token s v) in
            let same : made ≡ r = cc in
            let kind : declared_kind v.symbol_kind ≡ kinds.EventFlag = flag_kind v.symbol_kind is in
            subst FlagOutlined same
            (subst (λ (k : DocumentSymbolKind). HasSymbol (symbols_of text) k
            (span_in xs e.item e.token)) kind there)

        by_variable : (e : Entry) → slice_get (entries ss) number ≡ Some e → (o : Option Variable) →
            e.variable ≡ o → declares_flag o ≡ true →
            option_map (flag_row xs ss) (option_and_then
            (λ v. option_map (λ s. variable_declaration e.item e.token s v) (scope_in e.namespace)) o)
            ≡ Some r → FlagOutlined r
        by_variable e at None says flag m = absurd cc
        by_variable e at (Some v) says flag m =
            made_of e v (scope_in e.namespace) flag
            (entry_outlined e v (each_got (HasOrigin ss) (entries ss) number e (all_originate ss) at)
            says) m

        by_entry : (o : Option Entry) → slice_get (entries ss) number ≡ o →
            option_map_or (λ e. declares_flag e.variable && is_first (entries ss) number e) o false
            ≡ true →
            option_map (flag_row xs ss) (option_and_then entry_declaration o) ≡ Some r →
            FlagOutlined r
        by_entry None at flag m = absurd cc
        by_entry (Some e) at flag m =
            by_variable e at e.variable refl
            (and_first (declares_flag e.variable) (is_first (entries ss) number e) flag) m

    pub flags_outlined : All FlagOutlined (tables_in text).flags
    unfolding tables_in
    flags_outlined =
        All-from_recursion FlagOutlined (flag_rows xs ss)
        (each_kept FlagOutlined (flag_row_at xs ss) (flags_of ss)
        (each_passing (λ number. (r : FlagRow) → flag_row_at xs ss number ≡ Some r → FlagOutlined r)
        (is_flag (entries ss)) (length (entries ss)) flag_outlined))
