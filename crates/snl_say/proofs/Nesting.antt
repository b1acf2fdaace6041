-- A forest has all symbols of its list, in their order, each in the last one that is less deep.
use Rattle.std.proofs.Common.{◌≡◌, ◌∙◌, ℕ, suc, ◌≤◌, true, false, cond, List, [], ◌∷◌, ◌++◌, refl, ap, append_assoc, arith, nat_lt}
use Rattle.std.proofs.lemmas.Bool.{ltb-false, ltb-true}
use Rattle.snl_say.specs.Symbols.{BeginsWithin, IsNested, Forest, no_symbols, symbol, SymbolFound, after_deeper, deeper, in_order, forest_of}

-- ---- none is lost

in_both : (depth : ℕ) (o : Forest) →
    in_order (deeper depth o) ++ in_order (after_deeper depth o) ≡ in_order o
in_both depth no_symbols = refl
in_both depth (symbol s children rest) =
    elim (nat_lt depth s.depth) as (λ b.
    in_order (cond b (symbol s children (deeper depth rest)) no_symbols)
    ++ in_order (cond b (after_deeper depth rest) (symbol s children rest))
    ≡ in_order (symbol s children rest)) [
      | true ↦
          ap (λ (l : List SymbolFound). s ∷ l)
          (append_assoc (in_order children) (in_order (deeper depth rest))
          (in_order (after_deeper depth rest))
          ∙ ap (λ (l : List SymbolFound). in_order children ++ l) (in_both depth rest))
      | false ↦ refl
    ]

pub all_kept : (symbols : List SymbolFound) → in_order (forest_of symbols) ≡ symbols
all_kept [] = refl
all_kept (s ∷ ss) =
    ap (λ (l : List SymbolFound). s ∷ l) (in_both s.depth (forest_of ss) ∙ all_kept ss)

-- ---- each is in the last one that is less deep

begins_deeper : (most depth : ℕ) (o : Forest) → BeginsWithin most o →
    BeginsWithin most (deeper depth o)
begins_deeper most depth no_symbols h = tt
begins_deeper most depth (symbol s children rest) h =
    elim (nat_lt depth s.depth) as (λ b.
    BeginsWithin most (cond b (symbol s children (deeper depth rest)) no_symbols))
    [ true ↦ h | false ↦ tt ]

begins_after : (depth : ℕ) (o : Forest) → BeginsWithin depth (after_deeper depth o)
begins_after depth no_symbols = tt
begins_after depth (symbol s children rest) =
    elim (nat_lt depth s.depth) as (λ b. nat_lt depth s.depth ≡ b →
    BeginsWithin depth (cond b (after_deeper depth rest) (symbol s children rest)))
    [ true ↦ λ e. begins_after depth rest | false ↦ λ e. ltb-false depth s.depth e ] refl

nested_deeper : (least depth : ℕ) (o : Forest) → IsNested least o →
    IsNested (suc depth) (deeper depth o)
nested_deeper least depth no_symbols h = tt
nested_deeper least depth (symbol s children rest) h =
    elim (nat_lt depth s.depth) as (λ b. nat_lt depth s.depth ≡ b →
    IsNested (suc depth) (cond b (symbol s children (deeper depth rest)) no_symbols)) [
      | true ↦ λ e.
          let below : suc depth ≤ s.depth = omega (arith, ltb-true depth s.depth e) in
          (below, h.1, begins_deeper s.depth depth rest h.2, nested_deeper least depth rest h.3)
      | false ↦ λ e. tt
    ] refl

nested_after : (least depth : ℕ) (o : Forest) → IsNested least o →
    IsNested least (after_deeper depth o)
nested_after least depth no_symbols h = tt
nested_after least depth (symbol s children rest) h =
    elim (nat_lt depth s.depth) as (λ b.
    IsNested least (cond b (after_deeper depth rest) (symbol s children rest)))
    [ true ↦ nested_after least depth rest h.3 | false ↦ h ]

pub all_nested : (symbols : List SymbolFound) → IsNested 0 (forest_of symbols)
all_nested [] = tt
all_nested (s ∷ ss) = (
  omega arith,
  nested_deeper 0 s.depth (forest_of ss) (all_nested ss),
  begins_after s.depth (forest_of ss),
  nested_after 0 s.depth (forest_of ss) (all_nested ss),
)
