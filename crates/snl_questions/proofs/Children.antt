-- What belongs to a symbol lies within its extent.
use Rattle.std.proofs.Common.{◌≡◌, ◌||◌, ℕ, zero, suc, ◌+◌, ◌<◌, ◌≤◌, Bool, true, false, cond, nat_eq, nat_lt, List, [], ◌∷◌, ◌++◌, length, slice_get, Option, None, Some, inl, inr, is_some, refl, ap, ap₂, sym, subst, ◌∙◌, add-one, arith, append-nil, append_assoc}
use Rattle.std.specs.Prelude.{if◌then◌else◌, not}
use Rattle.std.specs.List.{AllByRecursion as Each, filter_map, take_while}
use Rattle.std.specs.Option.{option_and_then, option_map, option_map_or, option_to_list}
use Rattle.std.proofs.lemmas.Bool.{cases_lt, eq-eqb, false≢true, le-ltb, lt-ltb, ne_eqb}
use Rattle.std.proofs.lemmas.Option.{none-some, same_Some, slice_get_within}
use Rattle.std.proofs.lemmas.List.Elements.{All-from_recursion}
use Rattle.std.proofs.lemmas.List.Sums.{take_while-cons}
use Rattle.snl_facts.specs.Each.{each_append, each_weaker}
use Rattle.snl_lex.specs.declared.piece.Piece.{Piece}
use Rattle.snl_grammar.specs.declared.tree.item.Item.{Item}
use Rattle.snl_grammar.specs.declared.tree.item.Item.TheVariants as items
use Rattle.snl_grammar.specs.Parsing.{kinds_in}
use Rattle.snl_grammar.specs.Reading.Items.{item_of}
use Rattle.snl_summary.specs.declared.summary.Declared.{Declared}
use Rattle.snl_summary.specs.declared.summary.Outline.{Outline}
use Rattle.snl_summary.specs.NamedTokens.{NamesItsTokens}
use Rattle.snl_scope.specs.Places.{begins_set, enclosing_set, ends_set, item_is, open_before, stands_in}
use Rattle.snl_summary.specs.Summaries.{kind_of, role_of}
use Rattle.snl_summary.specs.Summaries.Clauses.{clauses_in}
use Rattle.snl_summary.specs.Summaries.Declares.{declared_in}
use Rattle.snl_tables.specs.declared.rows.Span.{Span}
use Rattle.snl_kept.specs.Checks.{outlines_in}
use Rattle.snl_kept.specs.Program.{item_tokens, tree_in}
use Rattle.snl_kept.specs.TokenLaws.{read_tree}
use Rattle.snl_questions.specs.Items.{span_at, span_of}
use Rattle.snl_questions.specs.ItemTokensLaws.{outline_at, outline_by}
use Rattle.snl_questions.specs.declared.document_symbols.symbol.DocumentSymbol.{DocumentSymbol}
use Rattle.snl_questions.specs.declared.document_symbols.symbol.DocumentSymbolKind.TheVariants as kinds
use Rattle.snl_questions.specs.Extents.{ChildrenLieWithin, LiesWithin, is_deeper}
use Rattle.snl_questions.specs.Symbols.{declared_symbol, depth_in, depth_of, extent_of, item_symbols, kind_by_opening, last_within, own_kind, own_symbol, symbol_with, symbols_at, symbols_before, symbols_of}
use Rattle.snl_questions.proofs.Kept.{outline_count}
use Rattle.snl_questions.proofs.Order.{AreInARow, get_here, span_there, span_within, spans_told, token_told, token_within}
use Rattle.snl_questions.proofs.Parts.{each_declared, each_symbol, inner_is, outer_is, own_is, shallow}
use Rattle.snl_questions.proofs.Within.{alone, last_inside, reaches}

-- ---- symbols that are deeper, up to the first that isn't

abbrev deeper : ℕ → DocumentSymbol → Bool
deeper d x = nat_lt d x.depth

abbrev StopsAt : ℕ → List DocumentSymbol → Type 0
StopsAt d rest = take_while (deeper d) rest ≡ []

stop_at : (d : ℕ) (x : DocumentSymbol) (rest : List DocumentSymbol) → x.depth ≤ d →
    StopsAt d (x ∷ rest)
stop_at d x rest le =
    take_while-cons (deeper d) x rest
    ∙ ap (λ b. cond b (x ∷ take_while (deeper d) rest) []) (le-ltb d x.depth le)

stop_all : (d : ℕ) (ys rest : List DocumentSymbol) → Each (λ y. y.depth ≤ d) ys →
    StopsAt d rest → StopsAt d (ys ++ rest)
stop_all d [] rest le stops = stops
stop_all d (y ∷ ys) rest le stops = stop_at d y (ys ++ rest) le.0

-- all of the first ones are deeper
pass_all : (d : ℕ) (ys rest : List DocumentSymbol) → Each (λ y. d < y.depth) ys →
    take_while (deeper d) (ys ++ rest) ≡ ys ++ take_while (deeper d) rest
pass_all d [] rest less = refl
pass_all d (y ∷ ys) rest less =
    take_while-cons (deeper d) y (ys ++ rest)
    ∙ ap (λ b. cond b (y ∷ take_while (deeper d) (ys ++ rest)) []) (lt-ltb d y.depth less.0)
    ∙ ap (λ (l : List DocumentSymbol). y ∷ l) (pass_all d ys rest less.1)

-- what is deeper lies within a span
abbrev LieIn : Span → ℕ → List DocumentSymbol → Type 0
LieIn outer d rest = Each (λ x. LiesWithin outer x.extent) (take_while (deeper d) rest)

none_lie : (outer : Span) (d : ℕ) (rest : List DocumentSymbol) → StopsAt d rest →
    LieIn outer d rest
none_lie outer d rest stops = subst (Each (λ x. LiesWithin outer x.extent)) (sym stops) tt

-- all of the first ones are deeper, and lie within it
more_lie : (outer : Span) (d : ℕ) (ys rest : List DocumentSymbol) →
    Each (λ y. (d < y.depth) × LiesWithin outer y.extent) ys → LieIn outer d rest →
    LieIn outer d (ys ++ rest)
more_lie outer d ys rest own lie =
    let deep : Each (λ y. d < y.depth) ys =
    each_weaker (λ y. (d < y.depth) × LiesWithin outer y.extent) (λ y. d < y.depth)
    (λ y h. h.0) ys own in
    let within : Each (λ y. LiesWithin outer y.extent) ys =
    each_weaker (λ y. (d < y.depth) × LiesWithin outer y.extent)
    (λ y. LiesWithin outer y.extent) (λ y h. h.1) ys own in
    subst (Each (λ y. LiesWithin outer y.extent)) (sym (pass_all d ys rest deep))
    (each_append (λ y. LiesWithin outer y.extent) ys (take_while (deeper d) rest) within lie)

-- what belongs to each symbol lies within its extent
abbrev Nested : List DocumentSymbol → Type 0
Nested [] = Unit {0}
Nested (s ∷ rest) = LieIn s.extent s.depth rest × Nested rest

from_nested : (ys : List DocumentSymbol) → Nested ys → ChildrenLieWithin ys
from_nested [] h = tt
from_nested (s ∷ rest) h = (
  All-from_recursion (λ x. LiesWithin s.extent x.extent) (take_while (is_deeper s) rest) h.0,
  from_nested rest h.1,
)

-- nothing belongs to symbols of one depth before what isn't deeper
nested_level : (d : ℕ) (ys rest : List DocumentSymbol) → Each (λ y. y.depth ≡ d) ys →
    StopsAt d rest → Nested rest → Nested (ys ++ rest)
nested_level d [] rest level stops nested = nested
nested_level d (y ∷ ys) rest level stops nested =
    let none : StopsAt d (ys ++ rest) = stop_all d ys rest
    (each_weaker (λ z. z.depth ≡ d) (λ z. z.depth ≤ d) (λ z h. omega (arith, h)) ys level.1)
    stops in
    let own : StopsAt y.depth (ys ++ rest) =
    subst (λ k. StopsAt k (ys ++ rest)) (sym level.0) none in
    (none_lie y.extent y.depth (ys ++ rest) own, nested_level d ys rest level.1 stops nested)

-- ---- the laws of items

-- the law of the state sets that items are in
pub record SetsOpenInTurn : Type 0 where
  pub opened : (ss : List Outline) (i : ℕ) (s : Outline) → slice_get ss i ≡ Some s →
      open_before ss (suc i) ≡ (if begins_set s.role then Some i
      else (if ends_set s.role then None else open_before ss i))
  pub placed : (ss : List Outline) (i : ℕ) (s : Outline) → slice_get ss i ≡ Some s →
      enclosing_set ss i ≡ (if begins_set s.role then None else open_before ss i)

pub record ItemLaws (text : List ℕ) : Type 0 where
  pub row : AreInARow text
  pub sets : SetsOpenInTurn
  pub names : (own : List Piece) (t : Item) → item_of (kinds_in text own) ≡ Some t →
      NamesItsTokens text own t

module _ (text : List ℕ) (laws : ItemLaws text) where
  abbrev xs : List (List Piece)
  xs = item_tokens text

  abbrev ss : List Outline
  ss = outlines_in text

  -- ---- state sets

  -- an item that begins a state set has a second token
  has_second : (own : List Piece) → begins_set (outline_by text own).role ≡ true → 1 < length own
  has_second own = by (tree_in text own) refl
      (nat_lt 0 (length (declared_in text own (tree_in text own)))
      || nat_lt 0 (length (clauses_in text own (tree_in text own))))
    where
      by : (o : Option Item) → tree_in text own ≡ o → (b : Bool) →
          begins_set (role_of (kind_of o) b) ≡ true → 1 < length own
      by (Some (items.SsBegin name)) is b h =
          (laws.names own (items.SsBegin name) (read_tree text own (items.SsBegin name) is)).own.0
      by (Some (items.StateBlock name ms)) is true h = absurd (false≢true h)
      by (Some (items.StateBlock name ms)) is false h = absurd (false≢true h)
      by o is b h = absurd (false≢true h)

  tokens_there : (i : ℕ) (s : Outline) → slice_get ss i ≡ Some s →
      (own : List Piece) × (slice_get xs i ≡ Some own) × (s ≡ outline_by text own)
  tokens_there i s at = by (slice_get xs i) refl (sym (outline_at text i) ∙ at)
    where
      by : (o : Option (List Piece)) → slice_get xs i ≡ o →
          option_map (outline_by text) o ≡ Some s →
          (own : List Piece) × (slice_get xs i ≡ Some own) × (s ≡ outline_by text own)
      by None here h = absurd cc
      by (Some own) here h = (own, here, sym (same_Some (outline_by text own) s h))

  -- it is a symbol
  set_there : (i : ℕ) (s : Outline) → slice_get ss i ≡ Some s → begins_set s.role ≡ true →
      (x : DocumentSymbol) × (own_symbol xs ss i s ≡ Some x)
  set_there i s at begins =
      let found = tokens_there i s at in
      let own = found.0 in
      let second = get_here own 1 (has_second own
      (ap (λ (o : Outline). begins_set o.role) (sym found.2) ∙ begins)) in
      let inside : i < length ss = slice_get_within ss i s at in
      let count = outline_count text in
      let extent = span_there text laws.row i (last_within ss i) (omega (arith, inside, count))
      (omega (arith, last_inside ss i inside, count)) in
      let kind : own_kind s ≡ Some kinds.StateSet =
      ap (λ b. if b then Some kinds.StateSet
      else (if is_some s.second then kind_by_opening s.opening else None)) begins in
      let name : span_at xs i 1 ≡ Some (span_of second.0) =
      ap (option_and_then (λ (l : List Piece). option_map span_of (slice_get l 1))) found.1
      ∙ ap (option_map span_of) second.1 in
      let made : DocumentSymbol = record {
        kind = kinds.StateSet;
        name = span_of second.0;
        extent = extent.0;
        depth = depth_of ss i;
      } in (
        made,
        ap (option_and_then (λ kind. symbol_with kind (depth_of ss i) (span_at xs i 1)
            (extent_of xs ss i))) kind
            ∙ ap₂ (symbol_with kinds.StateSet (depth_of ss i)) name extent.1,
      )

  -- it is in no set
  begins_outside : (i : ℕ) (s : Outline) → slice_get ss i ≡ Some s → begins_set s.role ≡ true →
      depth_of ss i ≡ 0
  begins_outside i s at begins =
      ap depth_in (laws.sets.placed ss i s at
      ∙ ap (λ b. if b then None else open_before ss i) begins)

  -- any other is in the set that is open before it
  encloses : (i : ℕ) (s : Outline) → slice_get ss i ≡ Some s → begins_set s.role ≡ false →
      enclosing_set ss i ≡ open_before ss i
  encloses i s at other =
      laws.sets.placed ss i s at ∙ ap (λ b. if b then None else open_before ss i) other

  -- and leaves that open, or none
  opens : (i : ℕ) (s : Outline) → slice_get ss i ≡ Some s → begins_set s.role ≡ false →
      open_before ss (suc i) ≡ (if ends_set s.role then None else open_before ss i)
  opens i s at other =
      laws.sets.opened ss i s at
      ∙ ap (λ b. if b then Some i else (if ends_set s.role then None else open_before ss i)) other

  stays_closed : (i : ℕ) (s : Outline) → slice_get ss i ≡ Some s → begins_set s.role ≡ false →
      open_before ss i ≡ None → open_before ss (suc i) ≡ None
  stays_closed i s at other closed = opens i s at other ∙ by (ends_set s.role)
    where
      by : (b : Bool) → (if b then None else open_before ss i) ≡ None
      by true = refl
      by false = closed

  -- ---- the symbols from an item on

  abbrev after : ℕ → ℕ → List DocumentSymbol
  after i zero = []
  after i (suc c) = symbols_at xs ss i ++ after (suc i) c

  -- an item, where some are left
  item_here : (i c : ℕ) → i + suc c ≡ length ss → (s : Outline) × (slice_get ss i ≡ Some s)
  item_here i c all = get_here ss i (omega (arith, all))

  -- the first symbol of an item stops those that are deeper than the item
  stop_with : (d : ℕ) (o : Option DocumentSymbol) (ys rest : List DocumentSymbol) →
      ((x : DocumentSymbol) → o ≡ Some x → x.depth ≤ d) →
      (o ≡ None → Each (λ y. y.depth ≤ d) ys) → (o ≡ None → StopsAt d rest) →
      StopsAt d ((option_to_list o ++ ys) ++ rest)
  stop_with d None ys rest own declared stops = stop_all d ys rest (declared refl) (stops refl)
  stop_with d (Some x) ys rest own declared stops = stop_at d x (ys ++ rest) (own x refl)

  stop_item : (d i : ℕ) (s : Outline) (rest : List DocumentSymbol) → depth_of ss i ≤ d →
      (own_symbol xs ss i s ≡ None → StopsAt d rest) → StopsAt d (item_symbols xs ss i s ++ rest)
  stop_item d i s rest le stops =
      stop_with d (own_symbol xs ss i s)
      (filter_map (declared_symbol xs ss i (is_some (own_symbol xs ss i s))) s.declares) rest
      (λ x h. omega (arith, le, (own_is xs ss i s x h).depth))
      (λ none. each_declared xs ss i (λ y. y.depth ≤ d) (is_some (own_symbol xs ss i s)) s
      (λ e y h.
      let outer : declared_symbol xs ss i false e ≡ Some y =
      ap (λ (o : Option DocumentSymbol). declared_symbol xs ss i (is_some o) e) (sym none) ∙ h in
      omega (arith, le, (outer_is xs ss i e y outer).depth)))
      stops

  -- no item has what is deeper than the items of a state set before its own symbol
  stops_shallow : (d i c : ℕ) → 1 ≤ d → StopsAt d (after i c)
  stops_shallow d i zero le = refl
  stops_shallow d i (suc c) le = by (slice_get ss i) (stops_shallow d (suc i) c le)
    where
      by : (o : Option Outline) → StopsAt d (after (suc i) c) →
          StopsAt d (option_map_or (item_symbols xs ss i) o [] ++ after (suc i) c)
      by None rest = rest
      by (Some s) rest = stop_item d i s (after (suc i) c)
          (omega (arith, le, shallow xs ss i)) (λ none. rest)

  -- where no state set is open, the next symbol is in none
  closed_item : (i c : ℕ) (s : Outline) → slice_get ss i ≡ Some s → open_before ss i ≡ None →
      (open_before ss (suc i) ≡ None → StopsAt 0 (after (suc i) c)) →
      StopsAt 0 (item_symbols xs ss i s ++ after (suc i) c)
  closed_item i c s at closed rest = by (begins_set s.role) refl
    where
      by : (b : Bool) → begins_set s.role ≡ b →
          StopsAt 0 (item_symbols xs ss i s ++ after (suc i) c)
      by true begins =
          let set = set_there i s at begins in
          stop_item 0 i s (after (suc i) c) (omega (arith, begins_outside i s at begins))
          (λ none. absurd (none-some set.0 (sym none ∙ set.1)))
      by false other =
          let outside : depth_of ss i ≡ 0 = ap depth_in (encloses i s at other ∙ closed) in
          stop_item 0 i s (after (suc i) c) (omega (arith, outside))
          (λ none. rest (stays_closed i s at other closed))

  stops_closed : (i c : ℕ) → i + c ≡ length ss → open_before ss i ≡ None → StopsAt 0 (after i c)
  stops_closed i zero all closed = refl
  stops_closed i (suc c) all closed =
      let here = item_here i c all in
      subst (λ (o : Option Outline).
      StopsAt 0 (option_map_or (item_symbols xs ss i) o [] ++ after (suc i) c)) (sym here.1)
      (closed_item i c here.0 here.1 closed
      (λ next. stops_closed (suc i) c (omega (arith, all)) next))

  -- ---- what is in a state set

  module _ (k : ℕ) (outer : Span) (is : extent_of xs ss k ≡ Some outer) where
    -- a symbol belongs to the set
    abbrev Belongs : DocumentSymbol → Type 0
    Belongs x = (0 < x.depth) × LiesWithin outer x.extent

    -- the items after the one that begins the set, before item j, are in it
    abbrev AreIn : ℕ → Type 0
    AreIn j = (m : ℕ) → k < m → m < j → stands_in ss k m ≡ true

    stands : (j : ℕ) → enclosing_set ss j ≡ Some k → stands_in ss k j ≡ true
    stands j in_k = ap (λ (o : Option ℕ). option_map_or (nat_eq k) o false) in_k
        ∙ eq-eqb k k refl

    are_in : (j : ℕ) → AreIn j → enclosing_set ss j ≡ Some k → AreIn (suc j)
    are_in j before in_k m after_k m_before =
        elim (cases_lt m j) [
          | inl less ↦ before m after_k less
          | inr more ↦
              let same : j ≡ m = omega (arith, m_before, more) in
              subst (λ n. stands_in ss k n ≡ true) same (stands j in_k)
        ]

    -- none is in a set that such an item begins
    last_own : (j : ℕ) (s : Outline) → slice_get ss j ≡ Some s → k < j →
        begins_set s.role ≡ false → open_before ss j ≡ Some k → last_within ss j ≡ j
    last_own j s at after_k other in_k =
        alone ss j (ap (stands_in ss j) (add-one j)
        ∙ by (item_is (λ o. not (begins_set o.role)) ss (suc j)) (ends_set s.role)
        (opens j s at other ∙ ap (λ o. if ends_set s.role then None else o) in_k))
      where
        apart : nat_eq j k ≡ false
        apart = ne_eqb j k (λ same. omega (arith, same, after_k))

        in_none : (b : Bool) (o : Option ℕ) → option_map_or (nat_eq j) o false ≡ false →
            option_map_or (nat_eq j) (if b then o else None) false ≡ false
        in_none true o h = h
        in_none false o h = refl

        left : (b : Bool) →
            option_map_or (nat_eq j) (if b then None else Some k) false ≡ false
        left true = refl
        left false = apart

        by : (b e : Bool) → open_before ss (suc j) ≡ (if e then None else Some k) →
            option_map_or (nat_eq j) (if b then open_before ss (suc j) else None) false ≡ false
        by b e left_open =
            in_none b (open_before ss (suc j))
            (ap (λ (o : Option ℕ). option_map_or (nat_eq j) o false) left_open ∙ left e)

    -- the symbols of an item of the set belong to it
    item_belongs : (j : ℕ) (s : Outline) → slice_get ss j ≡ Some s → k < j → j < length ss →
        begins_set s.role ≡ false → open_before ss j ≡ Some k → AreIn j →
        Each Belongs (item_symbols xs ss j s)
    item_belongs j s at after_k inside other in_k before =
        each_symbol xs ss j Belongs s own declared
      where
        enclosed : enclosing_set ss j ≡ Some k
        enclosed = encloses j s at other ∙ in_k

        deep : depth_of ss j ≡ 1
        deep = ap depth_in enclosed

        reached : j ≤ last_within ss k
        reached = reaches ss k j after_k inside
            (λ m low high. are_in j before enclosed m low (omega (arith, high)))

        with_item : (x : DocumentSymbol) → extent_of xs ss j ≡ Some x.extent →
            LiesWithin outer x.extent
        with_item x extent =
            let own = last_own j s at after_k other in_k in
            span_within text laws.row k j (last_within ss j) (last_within ss k) outer x.extent
            (spans_told xs k (last_within ss k) outer is)
            (spans_told xs j (last_within ss j) x.extent extent)
            (omega (arith, after_k)) (omega (arith, own)) (omega (arith, own, reached))

        with_name : (n : ℕ) (x : DocumentSymbol) → span_at xs j n ≡ Some x.extent →
            LiesWithin outer x.extent
        with_name n x extent =
            token_within text laws.row k j n (last_within ss k) outer x.extent
            (spans_told xs k (last_within ss k) outer is) (token_told xs j n x.extent extent)
            (omega (arith, after_k)) reached

        own : (x : DocumentSymbol) → own_symbol xs ss j s ≡ Some x → Belongs x
        own x h =
            let made = own_is xs ss j s x h in
            (omega (arith, deep, made.depth), with_item x made.extent)

        declared : (is_symbol : Bool) (d : Declared) (x : DocumentSymbol) →
            declared_symbol xs ss j is_symbol d ≡ Some x → Belongs x
        declared true d x h =
            let made = inner_is xs ss j d x h in
            (omega (arith, deep, made.depth), with_name d.token x made.extent)
        declared false d x h =
            let made = outer_is xs ss j d x h in
            (omega (arith, deep, made.depth), with_item x made.extent)

    item_in_set : (j c : ℕ) (s : Outline) → slice_get ss j ≡ Some s → j + suc c ≡ length ss →
        k < j → open_before ss j ≡ Some k → AreIn j →
        (open_before ss (suc j) ≡ Some k → AreIn (suc j) → LieIn outer 0 (after (suc j) c)) →
        LieIn outer 0 (item_symbols xs ss j s ++ after (suc j) c)
    item_in_set j c s at all after_k in_k before rest = by (begins_set s.role) refl
      where
        left : begins_set s.role ≡ false → (b : Bool) → ends_set s.role ≡ b →
            LieIn outer 0 (after (suc j) c)
        left other true ends =
            none_lie outer 0 (after (suc j) c) (stops_closed (suc j) c (omega (arith, all))
            (opens j s at other ∙ ap (λ b. if b then None else open_before ss j) ends))
        left other false ends =
            rest (opens j s at other ∙ ap (λ b. if b then None else open_before ss j) ends ∙ in_k)
            (are_in j before (encloses j s at other ∙ in_k))

        by : (b : Bool) → begins_set s.role ≡ b →
            LieIn outer 0 (item_symbols xs ss j s ++ after (suc j) c)
        by true begins =
            let set = set_there j s at begins in
            none_lie outer 0 (item_symbols xs ss j s ++ after (suc j) c)
            (stop_item 0 j s (after (suc j) c) (omega (arith, begins_outside j s at begins))
            (λ none. absurd (none-some set.0 (sym none ∙ set.1))))
        by false other =
            more_lie outer 0 (item_symbols xs ss j s) (after (suc j) c)
            (item_belongs j s at after_k (omega (arith, all)) other in_k before)
            (left other (ends_set s.role) refl)

    lies_in_set : (j c : ℕ) → j + c ≡ length ss → k < j → open_before ss j ≡ Some k → AreIn j →
        LieIn outer 0 (after j c)
    lies_in_set j zero all after_k in_k before = tt
    lies_in_set j (suc c) all after_k in_k before =
        let here = item_here j c all in
        subst (λ (o : Option Outline).
        LieIn outer 0 (option_map_or (item_symbols xs ss j) o [] ++ after (suc j) c)) (sym here.1)
        (item_in_set j c here.0 here.1 all after_k in_k before
        (λ next more.
        lies_in_set (suc j) c (omega (arith, all)) (omega (arith, after_k)) next more))

  -- ---- the symbols of an item, before the others

  -- nothing after an item without a symbol of its own belongs to what it declares
  stops_after : (i c : ℕ) (s : Outline) → slice_get ss i ≡ Some s → i + suc c ≡ length ss →
      own_symbol xs ss i s ≡ None → StopsAt (depth_of ss i) (after (suc i) c)
  stops_after i c s at all none = by (begins_set s.role) refl
    where
      in_place : begins_set s.role ≡ false → (o : Option ℕ) → enclosing_set ss i ≡ o →
          StopsAt (depth_in o) (after (suc i) c)
      in_place other (Some set) place = stops_shallow 1 (suc i) c (omega arith)
      in_place other None place =
          stops_closed (suc i) c (omega (arith, all))
          (stays_closed i s at other (sym (encloses i s at other) ∙ place))

      by : (b : Bool) → begins_set s.role ≡ b → StopsAt (depth_of ss i) (after (suc i) c)
      by true begins =
          let set = set_there i s at begins in absurd (none-some set.0 (sym none ∙ set.1))
      by false other = in_place other (enclosing_set ss i) refl

  -- what belongs to an item's own symbol after the item lies within its extent
  lies_after : (i c : ℕ) (s : Outline) (x : DocumentSymbol) → slice_get ss i ≡ Some s →
      i + suc c ≡ length ss → own_symbol xs ss i s ≡ Some x →
      LieIn x.extent (depth_of ss i) (after (suc i) c)
  lies_after i c s x at all own = by (begins_set s.role) refl
    where
      in_place : begins_set s.role ≡ false → (o : Option ℕ) → enclosing_set ss i ≡ o →
          LieIn x.extent (depth_in o) (after (suc i) c)
      in_place other (Some set) place =
          none_lie x.extent 1 (after (suc i) c) (stops_shallow 1 (suc i) c (omega arith))
      in_place other None place =
          none_lie x.extent 0 (after (suc i) c) (stops_closed (suc i) c (omega (arith, all))
          (stays_closed i s at other (sym (encloses i s at other) ∙ place)))

      by : (b : Bool) → begins_set s.role ≡ b →
          LieIn x.extent (depth_of ss i) (after (suc i) c)
      by true begins =
          let opened : open_before ss (suc i) ≡ Some i =
          laws.sets.opened ss i s at
          ∙ ap (λ b. if b then Some i
          else (if ends_set s.role then None else open_before ss i)) begins in
          subst (λ d. LieIn x.extent d (after (suc i) c)) (sym (begins_outside i s at begins))
          (lies_in_set i x.extent (own_is xs ss i s x own).extent (suc i) c (omega (arith, all))
          (omega arith) opened (λ m low high. absurd (omega (arith, low, high))))
      by false other = in_place other (enclosing_set ss i) refl

  nested_item : (i c : ℕ) (s : Outline) → slice_get ss i ≡ Some s → i + suc c ≡ length ss →
      Nested (after (suc i) c) → Nested (item_symbols xs ss i s ++ after (suc i) c)
  nested_item i c s at all nested = by (own_symbol xs ss i s) refl
    where
      by : (o : Option DocumentSymbol) → own_symbol xs ss i s ≡ o → Nested
          ((option_to_list o ++ filter_map (declared_symbol xs ss i (is_some o)) s.declares)
          ++ after (suc i) c)
      by None none =
          nested_level (depth_of ss i) (filter_map (declared_symbol xs ss i false) s.declares)
          (after (suc i) c)
          (each_declared xs ss i (λ y. y.depth ≡ depth_of ss i) false s
          (λ d y h. (outer_is xs ss i d y h).depth))
          (stops_after i c s at all none) nested
      by (Some x) own =
          let ys : List DocumentSymbol = filter_map (declared_symbol xs ss i true) s.declares in
          let made = own_is xs ss i s x own in
          let spans = spans_told xs i (last_within ss i) x.extent made.extent in
          let inner : Each (λ y. (depth_of ss i < y.depth) × LiesWithin x.extent y.extent) ys =
          each_declared xs ss i (λ y. (depth_of ss i < y.depth) × LiesWithin x.extent y.extent)
          true s (λ d y h.
          let is = inner_is xs ss i d y h in (
            omega (arith, is.depth),
            token_within text laws.row i i d.token (last_within ss i) x.extent y.extent spans
                (token_told xs i d.token y.extent is.extent) (omega arith) (omega arith),
          )) in
          let level : Each (λ y. y.depth ≡ depth_of ss i + 1) ys =
          each_declared xs ss i (λ y. y.depth ≡ depth_of ss i + 1) true s
          (λ d y h. (inner_is xs ss i d y h).depth) in (
            subst (λ d. LieIn x.extent d (ys ++ after (suc i) c)) (sym made.depth)
                (more_lie x.extent (depth_of ss i) ys (after (suc i) c) inner
                (lies_after i c s x at all own)),
            nested_level (depth_of ss i + 1) ys (after (suc i) c) level
                (stops_shallow (depth_of ss i + 1) (suc i) c (omega arith)) nested,
          )

  nested_after : (i c : ℕ) → i + c ≡ length ss → Nested (after i c)
  nested_after i zero all = tt
  nested_after i (suc c) all =
      let here = item_here i c all in
      subst (λ (o : Option Outline).
      Nested (option_map_or (item_symbols xs ss i) o [] ++ after (suc i) c)) (sym here.1)
      (nested_item i c here.0 here.1 all (nested_after (suc i) c (omega (arith, all))))

  -- ---- all symbols

  all_after : (i c : ℕ) → symbols_before xs ss i ++ after i c ≡ symbols_before xs ss (i + c)
  all_after i zero =
      let same : i ≡ i + 0 = omega arith in
      append-nil (symbols_before xs ss i) ∙ ap (symbols_before xs ss) same
  all_after i (suc c) =
      let same : suc i + c ≡ i + suc c = omega arith in
      sym (append_assoc (symbols_before xs ss i) (symbols_at xs ss i) (after (suc i) c))
      ∙ all_after (suc i) c
      ∙ ap (symbols_before xs ss) same

  pub children_within : ChildrenLieWithin (symbols_of text)
  unfolding symbols_of
  children_within =
      let n : ℕ = length xs in
      let whole : 0 + n ≡ n = omega arith in
      let all : after 0 n ≡ symbols_before xs ss n =
      all_after 0 n ∙ ap (symbols_before xs ss) whole in
      subst ChildrenLieWithin all
      (from_nested (after 0 n) (nested_after 0 n (omega (arith, outline_count text))))
