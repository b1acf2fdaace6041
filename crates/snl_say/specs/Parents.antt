-- Symbols whose children are being written, the innermost first: the parents of what comes next.
-- Only private clauses cite this.
use Rattle.std.specs.Prelude.{◌≡◌, ◌<◌, ◌≤◌, ℕ, List, [], ◌∷◌, ◌++◌, map, reverse, Bool, true, false, nat_lt, if◌then◌else◌, codes, ⊤}
use denote.Ref.{Bor}
use Rattle.snl_say.specs.Symbols.{SymbolFound, symbol_end, symbol_of}
use Rattle.snl_say.specs.declared.symbols.ShownSymbol.{ShownSymbol}

-- The code has the innermost last.
abbrev pub innermost_first : List (Bor ShownSymbol) → List SymbolFound
innermost_first parents = map (λ (s : Bor ShownSymbol). symbol_of s.now) (reverse parents)

-- What ends those that a symbol of this depth isn't in.
abbrev pub ends_before : (depth : ℕ) → (parents : List SymbolFound) → List ℕ
ends_before depth [] = []
ends_before depth (s ∷ parents) =
    if nat_lt s.depth depth then [] else codes "]" ++ (symbol_end s ++ ends_before depth parents)

-- Those that it is in.
abbrev pub parents_at : (depth : ℕ) → (parents : List SymbolFound) → List SymbolFound
parents_at depth [] = []
parents_at depth (s ∷ parents) =
    if nat_lt s.depth depth then s ∷ parents else parents_at depth parents

-- Whether it isn't in one of them.
abbrev pub one_ends : (depth : ℕ) → (parents : List SymbolFound) → Bool
one_ends depth [] = false
one_ends depth (s ∷ parents) = if nat_lt s.depth depth then false else true

-- It is in all of them, by the innermost one.
abbrev pub NoneEnds : (depth : ℕ) → (parents : List SymbolFound) → Type 0
NoneEnds depth [] = ⊤
NoneEnds depth (s ∷ parents) = s.depth < depth

-- It isn't in the innermost one, without which the others are left.
pub record InnermostEnds (depth : ℕ) (s : SymbolFound) (before after : List SymbolFound) :
    Type 0 where
  pub as_deep : depth ≤ s.depth
  pub others : before ≡ s ∷ after
