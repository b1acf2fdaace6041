-- The symbols of an item are among those of its text.
use Rattle.std.proofs.Common.{◌≡◌, ℕ, zero, suc, ◌+◌, ◌-◌, ◌<◌, Bool, true, false, List, [], length, slice_get, Option, Some, is_some, inl, inr, refl, ap, ap₂, sym, subst, ◌∙◌, arith}
use Rattle.std.specs.List.{Contains, filter_map, range_with_len}
use Rattle.std.specs.Option.{option_and_then, option_map_or, option_to_list}
use Rattle.std.proofs.lemmas.Bool.{cases_lt}
use Rattle.std.proofs.lemmas.List.Elements.{Contains-append_left, Contains-append_right}
use Rattle.std.proofs.lemmas.List.FromFn.{length-range_with_len}
use Rattle.std.proofs.lemmas.List.Sums.{prefix_len-le-length}
use Rattle.snl_lex.specs.declared.piece.Piece.{Piece}
use Rattle.snl_summary.specs.declared.summary.Declared.{Declared}
use Rattle.snl_summary.specs.declared.summary.Outline.{Outline}
use Rattle.snl_scope.specs.Places.{stands_in}
use Rattle.snl_tables.specs.declared.rows.Span.{Span}
use Rattle.snl_kept.specs.Checks.{outlines_in}
use Rattle.snl_kept.specs.Program.{item_tokens}
use Rattle.snl_questions.specs.Items.{span_at}
use Rattle.snl_questions.specs.declared.document_symbols.symbol.DocumentSymbol.{DocumentSymbol}
use Rattle.snl_questions.specs.declared.document_symbols.symbol.DocumentSymbolKind.{DocumentSymbolKind}
use Rattle.snl_questions.specs.Symbols.{declared_kind, declared_symbol, depth_of, extent_of, item_symbols, last_within, own_kind, own_symbol, symbol_with, symbols_at, symbols_before, symbols_of}
use Rattle.snl_outline_laws.specs.Outlined.{HasSymbol}
use Rattle.snl_outline_laws.proofs.Lists.{contains_first, contains_made}
use Rattle.snl_outline_laws.proofs.Rows.{AreInARow, span_there}

-- the last item of a state set is an item
last_inside : (ss : List Outline) (i : ℕ) → i < length ss → last_within ss i < length ss
last_inside ss i there =
    let later : List ℕ = range_with_len (i + 1) (length ss - (i + 1)) in
    omega (
      arith,
      there,
      prefix_len-le-length (stands_in ss i) later,
      length-range_with_len (i + 1) (length ss - (i + 1)),
    )

-- ---- lists of symbols

module _ (xs : List (List Piece)) (ss : List Outline) where
  before_there : (n i : ℕ) (x : DocumentSymbol) → i < n → Contains (symbols_at xs ss i) x →
      Contains (symbols_before xs ss n) x
  before_there zero i x less there = absurd (omega (arith, less))
  before_there (suc n) i x less there =
      elim (cases_lt i n) [
        | inl earlier ↦
            Contains-append_left (symbols_before xs ss n) (symbols_at xs ss n) x
            (before_there n i x earlier there)
        | inr last ↦
            let place : i ≡ n = omega (arith, less, last) in
            Contains-append_right (symbols_before xs ss n) (symbols_at xs ss n) x
            (subst (λ (j : ℕ). Contains (symbols_at xs ss j) x) place there)
      ]

  at_there : (i : ℕ) (s : Outline) (x : DocumentSymbol) → slice_get ss i ≡ Some s →
      Contains (item_symbols xs ss i s) x → Contains (symbols_at xs ss i) x
  at_there i s x at there =
      subst (λ (o : Option Outline). Contains (option_map_or (item_symbols xs ss i) o []) x)
      (sym at) there

  own_there : (i : ℕ) (s : Outline) (x : DocumentSymbol) → own_symbol xs ss i s ≡ Some x →
      Contains (item_symbols xs ss i s) x
  own_there i s x is =
      let rest : List DocumentSymbol =
      filter_map (declared_symbol xs ss i (is_some (own_symbol xs ss i s))) s.declares in
      Contains-append_left (option_to_list (own_symbol xs ss i s)) rest x
      (subst (λ (o : Option DocumentSymbol). Contains (option_to_list o) x) (sym is)
      (contains_first x []))

  declared_there : (i : ℕ) (s : Outline) (k : ℕ) (d : Declared) (x : DocumentSymbol) →
      slice_get s.declares k ≡ Some d →
      declared_symbol xs ss i (is_some (own_symbol xs ss i s)) d ≡ Some x →
      Contains (item_symbols xs ss i s) x
  declared_there i s k d x at is =
      let make = declared_symbol xs ss i (is_some (own_symbol xs ss i s)) in
      Contains-append_right (option_to_list (own_symbol xs ss i s)) (filter_map make s.declares) x
      (contains_made make s.declares k d x at is)

-- ---- the symbols of a text

module _ (text : List ℕ) (row : AreInARow text)
    (count : length (outlines_in text) ≡ length (item_tokens text))
  where
    abbrev xs : List (List Piece)
    xs = item_tokens text

    abbrev ss : List Outline
    ss = outlines_in text

    in_text : (i : ℕ) (s : Outline) (x : DocumentSymbol) → i < length xs → slice_get ss i ≡ Some s →
        Contains (item_symbols xs ss i s) x → Contains (symbols_of text) x
    unfolding symbols_of
    in_text i s x less at there =
        before_there xs ss (length xs) i x less (at_there xs ss i s x at there)

    extent_there : (i : ℕ) → i < length xs → (e : Span) × (extent_of xs ss i ≡ Some e)
    extent_there i less =
        span_there text row i (last_within ss i) less
        (omega (arith, count, last_inside ss i (omega (arith, count, less))))

    -- what an item itself is, if it is a symbol and has a name
    pub own_outlined : (i : ℕ) (s : Outline) (kind : DocumentSymbolKind) (name : Span) →
        i < length xs → slice_get ss i ≡ Some s → own_kind s ≡ Some kind →
        span_at xs i 1 ≡ Some name → HasSymbol (symbols_of text) kind name
    own_outlined i s kind name less at is named =
        let extent = extent_there i less in
        let x : DocumentSymbol =
        record { kind = kind; name = name; extent = extent.0; depth = depth_of ss i } in
        let made : own_symbol xs ss i s ≡ Some x =
        ap (λ (o : Option DocumentSymbolKind). option_and_then
        (λ k. symbol_with k (depth_of ss i) (span_at xs i 1) (extent_of xs ss i)) o) is
        ∙ ap₂ (symbol_with kind (depth_of ss i)) named extent.1 in
        (x, in_text i s x less at (own_there xs ss i s x made), refl, refl)

    -- what it declares
    pub declared_outlined : (i : ℕ) (s : Outline) (k : ℕ) (d : Declared) (name : Span) →
        i < length xs → slice_get ss i ≡ Some s → slice_get s.declares k ≡ Some d →
        span_at xs i d.token ≡ Some name →
        HasSymbol (symbols_of text) (declared_kind d.variable.symbol_kind) name
    declared_outlined i s k d name less at among named =
        let extent = extent_there i less in by extent.0 extent.1 (is_some (own_symbol xs ss i s)) refl
      where
        kind : DocumentSymbolKind
        kind = declared_kind d.variable.symbol_kind

        by : (extent : Span) → extent_of xs ss i ≡ Some extent → (b : Bool) →
            is_some (own_symbol xs ss i s) ≡ b → HasSymbol (symbols_of text) kind name
        by extent there true is =
            let x : DocumentSymbol =
            record { kind = kind; name = name; extent = name; depth = depth_of ss i + 1 } in
            let made : declared_symbol xs ss i (is_some (own_symbol xs ss i s)) d ≡ Some x =
            ap (λ (b : Bool). declared_symbol xs ss i b d) is
            ∙ ap₂ (symbol_with kind (depth_of ss i + 1)) named named in
            (x, in_text i s x less at (declared_there xs ss i s k d x among made), refl, refl)
        by extent there false is =
            let x : DocumentSymbol =
            record { kind = kind; name = name; extent = extent; depth = depth_of ss i } in
            let made : declared_symbol xs ss i (is_some (own_symbol xs ss i s)) d ≡ Some x =
            ap (λ (b : Bool). declared_symbol xs ss i b d) is
            ∙ ap₂ (symbol_with kind (depth_of ss i)) named there in
            (x, in_text i s x less at (declared_there xs ss i s k d x among made), refl, refl)
