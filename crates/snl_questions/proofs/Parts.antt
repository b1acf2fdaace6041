-- The symbols of an item: where the name of each is, its extent and its depth.
use Rattle.std.proofs.Common.{◌≡◌, ℕ, ◌+◌, ◌≤◌, Bool, true, false, List, [], ◌∷◌, slice_get, Option, None, Some, is_some, refl, ap, sym, arith}
use Rattle.std.specs.List.{AllByRecursion as Each, cons_option, filter_map}
use Rattle.std.specs.Option.{option_and_then, option_map_or, option_to_list}
use Rattle.std.proofs.lemmas.Option.{same_Some}
use Rattle.snl_facts.specs.Each.{each_append}
use Rattle.snl_lex.specs.declared.piece.Piece.{Piece}
use Rattle.snl_summary.specs.declared.summary.Declared.{Declared}
use Rattle.snl_summary.specs.declared.summary.Outline.{Outline}
use Rattle.snl_scope.specs.Places.{enclosing_set}
use Rattle.snl_tables.specs.declared.rows.Span.{Span}
use Rattle.snl_questions.specs.Items.{span_at}
use Rattle.snl_questions.specs.declared.document_symbols.symbol.DocumentSymbol.{DocumentSymbol}
use Rattle.snl_questions.specs.declared.document_symbols.symbol.DocumentSymbolKind.{DocumentSymbolKind}
use Rattle.snl_questions.specs.Symbols.{declared_kind, declared_symbol, depth_in, depth_of, extent_of, item_symbols, own_kind, own_symbol, symbol_with, symbols_at}

-- ---- lists of what there is

each_option : {X : Type 0} (P : X → Type 0) (o : Option X) → ((x : X) → o ≡ Some x → P x) →
    Each P (option_to_list o)
each_option P None h = tt
each_option P (Some x) h = (h x refl, tt)

each_kept : {X Y : Type 0} (P : Y → Type 0) (f : X → Option Y) (xs : List X) →
    ((x : X) (y : Y) → f x ≡ Some y → P y) → Each P (filter_map f xs)
each_kept P f [] h = tt
each_kept {Y = Y} P f (x ∷ xs) h = by (f x) refl (each_kept P f xs h)
  where
    by : (o : Option Y) → f x ≡ o → Each P (filter_map f xs) →
        Each P (cons_option o (filter_map f xs))
    by None e rest = rest
    by (Some y) e rest = (h x y e, rest)

-- ---- one symbol

-- a symbol has this depth, this name and this extent
pub record IsWith (d : ℕ) (n e : Option Span) (x : DocumentSymbol) : Type 0 where
  pub depth : x.depth ≡ d
  pub name : n ≡ Some x.name
  pub extent : e ≡ Some x.extent

is_with : (kind : DocumentSymbolKind) (depth : ℕ) (name extent : Option Span)
    (x : DocumentSymbol) → symbol_with kind depth name extent ≡ Some x →
    IsWith depth name extent x
is_with kind depth None extent x h = absurd cc
is_with kind depth (Some name) None x h = absurd cc
is_with kind depth (Some name) (Some extent) x h =
    let made : DocumentSymbol =
    record { kind = kind; name = name; extent = extent; depth = depth } in
    let same : made ≡ x = same_Some made x h in
    record {
      depth = sym (ap (λ (s : DocumentSymbol). s.depth) same);
      name = ap (λ (s : DocumentSymbol). Some s.name) same;
      extent = ap (λ (s : DocumentSymbol). Some s.extent) same;
    }

-- ---- the symbols of an item

module _ (xs : List (List Piece)) (ss : List Outline) (i : ℕ) where
  pub own_is : (s : Outline) (x : DocumentSymbol) → own_symbol xs ss i s ≡ Some x →
      IsWith (depth_of ss i) (span_at xs i 1) (extent_of xs ss i) x
  own_is s x = by (own_kind s)
    where
      by : (o : Option DocumentSymbolKind) → option_and_then
          (λ kind. symbol_with kind (depth_of ss i) (span_at xs i 1) (extent_of xs ss i)) o ≡
          Some x → IsWith (depth_of ss i) (span_at xs i 1) (extent_of xs ss i) x
      by None h = absurd cc
      by (Some kind) h =
          is_with kind (depth_of ss i) (span_at xs i 1) (extent_of xs ss i) x h

  pub inner_is : (d : Declared) (x : DocumentSymbol) → declared_symbol xs ss i true d ≡ Some x →
      IsWith (depth_of ss i + 1) (span_at xs i d.token) (span_at xs i d.token) x
  inner_is d x h = is_with (declared_kind d.variable.symbol_kind) (depth_of ss i + 1)
      (span_at xs i d.token) (span_at xs i d.token) x h

  pub outer_is : (d : Declared) (x : DocumentSymbol) → declared_symbol xs ss i false d ≡ Some x →
      IsWith (depth_of ss i) (span_at xs i d.token) (extent_of xs ss i) x
  outer_is d x h = is_with (declared_kind d.variable.symbol_kind) (depth_of ss i)
      (span_at xs i d.token) (extent_of xs ss i) x h

  -- what holds of what it declares
  pub each_declared : (P : DocumentSymbol → Type 0) (is_symbol : Bool) (s : Outline) →
      ((d : Declared) (x : DocumentSymbol) → declared_symbol xs ss i is_symbol d ≡ Some x → P x) →
      Each P (filter_map (declared_symbol xs ss i is_symbol) s.declares)
  each_declared P is_symbol s h = each_kept P (declared_symbol xs ss i is_symbol) s.declares h

  -- what holds of all of its symbols
  pub each_symbol : (P : DocumentSymbol → Type 0) (s : Outline) →
      ((x : DocumentSymbol) → own_symbol xs ss i s ≡ Some x → P x) →
      ((is_symbol : Bool) (d : Declared) (x : DocumentSymbol) →
      declared_symbol xs ss i is_symbol d ≡ Some x → P x) →
      Each P (item_symbols xs ss i s)
  each_symbol P s own declared =
      let is_symbol : Bool = is_some (own_symbol xs ss i s) in
      each_append P (option_to_list (own_symbol xs ss i s))
      (filter_map (declared_symbol xs ss i is_symbol) s.declares)
      (each_option P (own_symbol xs ss i s) own)
      (each_declared P is_symbol s (declared is_symbol))

  pub each_at : (P : DocumentSymbol → Type 0) →
      ((s : Outline) → slice_get ss i ≡ Some s → Each P (item_symbols xs ss i s)) →
      Each P (symbols_at xs ss i)
  each_at P h = by (slice_get ss i) refl
    where
      by : (o : Option Outline) → slice_get ss i ≡ o →
          Each P (option_map_or (item_symbols xs ss i) o [])
      by None at = tt
      by (Some s) at = h s at

  -- at most one state set is around an item
  pub shallow : depth_of ss i ≤ 1
  shallow = by (enclosing_set ss i)
    where
      by : (o : Option ℕ) → depth_in o ≤ 1
      by None = omega arith
      by (Some set) = omega arith
