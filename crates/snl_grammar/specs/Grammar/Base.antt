-- What the productions of the grammar are made of. Each word takes the tokens from its first on,
-- and those after its last.
use Rattle.std.specs.Prelude.{◌≡◌, ℕ, zero, suc, ◌≤◌, List, [], ◌∷◌, Option, Some, None}
use Rattle.snl_lex.specs.declared.kind.Kind.{Kind}
use Rattle.snl_grammar.specs.Tokens.{NumberedKind}

-- one after the other
abbrev pub Each : {A : Type 0} → (A → List NumberedKind → List NumberedKind → Type 0) → List A → List NumberedKind → List NumberedKind → Type 0
Each R [] k rest = k ≡ rest
Each R (x ∷ xs) k rest = (mid : List NumberedKind) × R x k mid × Each R xs mid rest

-- a token of this kind comes first
abbrev pub First : Kind → List NumberedKind → List NumberedKind → Type 0
First x k rest = (n : ℕ) × (k ≡ ((x, n) ∷ rest))

-- the token with this number comes first, and is of this kind
abbrev pub Leaf : Kind → ℕ → List NumberedKind → List NumberedKind → Type 0
Leaf x n k rest = k ≡ ((x, n) ∷ rest)

-- these tokens
abbrev pub Fixed : List Kind → List NumberedKind → List NumberedKind → Type 0
Fixed = Each First

-- x, or nothing
abbrev pub Perhaps : {A : Type 0} → (A → List NumberedKind → List NumberedKind → Type 0) → Option A → List NumberedKind → List NumberedKind → Type 0
Perhaps R None k rest = k ≡ rest
Perhaps R (Some x) k rest = R x k rest

-- The tokens from here on are free of the levels that are left: each is the `free`th of an item,
-- counted from 1, or is after it. With 0 none is free.
abbrev pub AreFree : ℕ → List NumberedKind → Type 0
AreFree zero k = ⊥
AreFree (suc n) [] = Unit {0}
AreFree (suc n) (s ∷ k) = (n ≤ s.1) × AreFree (suc n) k

-- What lies inside a level, where so many levels are left; tokens from the `free`th on may use
-- `extra` more.
abbrev pub Within : {A : Type 0} → ℕ → ℕ → ℕ → (A → List NumberedKind → List NumberedKind → Type 0) → A → List NumberedKind → List NumberedKind → Type 0
Within free extra (suc depth) R x k rest = R x k rest
Within free (suc extra) zero R x k rest = AreFree free k × R x k rest
Within free zero zero R x k rest = ⊥
