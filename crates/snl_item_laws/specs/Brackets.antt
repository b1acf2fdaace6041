-- How many brackets are open around the tokens of a list.
use Rattle.std.specs.Prelude.{ℕ, suc, Bool, true, false, ◌+◌, ◌≤◌, List, take}
use Rattle.std.specs.List.{count_by}
use Rattle.snl_lex.specs.declared.kind.Kind.{Kind}
use Rattle.snl_lex.specs.declared.kind.Kind.TheVariants as kind

abbrev pub opens : Kind → Bool
opens kind.OpenParen = true
opens kind.OpenBracket = true
opens kind.OpenBrace = true
opens _ = false

abbrev pub closes : Kind → Bool
closes kind.CloseParen = true
closes kind.CloseBracket = true
closes kind.CloseBrace = true
closes _ = false

-- Around the token with this number at most so many brackets are open: of those that open before
-- it, all others close before it or by it.
abbrev pub IsWithin : ℕ → List Kind → ℕ → Type 0
IsWithin most kinds n = count_by opens (take n kinds) ≤ count_by closes (take (suc n) kinds) + most
