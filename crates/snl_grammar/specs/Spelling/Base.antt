-- The tokens that a tree spells, and what they are made of. Each word here is a list of tokens in
-- the order in which they are.
use Rattle.std.specs.Prelude.{◌≡◌, ℕ, Bool, true, false, List, [], ◌∷◌, ◌++◌, Option, Some, None, IfSome}
use Rattle.snl_lex.specs.declared.kind.Kind.{Kind}
use Rattle.snl_lex.specs.declared.kind.Kind.TheVariants as kind
use Rattle.snl_grammar.specs.Tokens.{NumberedKind}

-- a token's kind and, where the token is a leaf of the tree, its number
abbrev pub Spelled : Type 0
Spelled = Kind × Option ℕ

-- a word or a punctuator
abbrev pub word : Kind → List Spelled
word x = (x, None) ∷ []

-- the token with this number, of this kind
abbrev pub leaf : Kind → ℕ → List Spelled
leaf x n = (x, Some n) ∷ []

-- the word, where it is written
abbrev pub written : Kind → Bool → List Spelled
written x true = word x
written x false = []

-- x, or nothing
abbrev pub perhaps : {A : Type 0} → (A → List Spelled) → Option A → List Spelled
perhaps spell None = []
perhaps spell (Some x) = spell x

-- one after the other
abbrev pub joined : List (List Spelled) → List Spelled
joined [] = []
joined (part ∷ parts) = part ++ joined parts

-- the word before each
abbrev pub after : Kind → List (List Spelled) → List Spelled
after x [] = []
after x (part ∷ parts) = word x ++ part ++ after x parts

-- one after the other, with the word between each two
abbrev pub between : Kind → List (List Spelled) → List Spelled
between x [] = []
between x (part ∷ parts) = part ++ after x parts

abbrev pub commas : List (List Spelled) → List Spelled
commas = between kind.Comma

abbrev pub in_parens : List Spelled → List Spelled
in_parens part = word kind.OpenParen ++ part ++ word kind.CloseParen

abbrev pub in_brackets : List Spelled → List Spelled
in_brackets part = word kind.OpenBracket ++ part ++ word kind.CloseBracket

abbrev pub in_braces : List Spelled → List Spelled
in_braces part = word kind.OpenBrace ++ part ++ word kind.CloseBrace

-- the token has the kind that is spelled, and a leaf's number is the token's
abbrev pub IsToken : Spelled → NumberedKind → Type 0
IsToken spelled s = (spelled.0 ≡ s.0) × IfSome spelled.1 (λ n. n ≡ s.1)

-- The tokens are those that are spelled: as many, and each in its place.
abbrev pub Matches : List Spelled → List NumberedKind → Type 0
Matches [] [] = Unit {0}
Matches (x ∷ xs) (s ∷ k) = IsToken x s × Matches xs k
Matches _ _ = ⊥
