-- With which tokens an item can begin, and which token is at fault where none consists of a list of
-- tokens.
use Rattle.std.specs.Prelude.{◌≡◌, ℕ, suc, ◌<◌, ◌≤◌, ◌⊎◌, List, [], ◌++◌, length, take}
use Rattle.snl_lex.specs.declared.kind.Kind.{Kind}
use Rattle.snl_grammar.specs.declared.tree.item.Item.{Item}
use Rattle.snl_grammar.specs.Tokens.{ahead}
use Rattle.snl_grammar.specs.Grammar.Items.{IsItemWithin}

-- An item can begin with the first n tokens: with tokens to come they make one. The first n are
-- held to the levels of an item. Tokens from the `free`th on, which are all to come, may use
-- `extra` levels more, as many as they need.
pub record IsViable (kinds : List Kind) (n : ℕ) : Type 0 where
  pub to_come : List Kind
  pub tree : Item
  pub free : ℕ
  pub extra : ℕ
  pub held : n < free
  pub item : IsItemWithin free extra 99 tree (ahead (take n kinds ++ to_come) 0) []

-- The tokens up to and with this one begin no item.
abbrev pub BeginNoItem : List Kind → ℕ → Type 0
BeginNoItem kinds n = IsViable kinds (suc n) → ⊥

-- This is the last token, and an item can begin with all of them: something is missing after it.
pub record AreCutShort (kinds : List Kind) (n : ℕ) : Type 0 where
  pub last : suc n ≡ length kinds
  pub viable : IsViable kinds (suc n)

-- The token with this number is at fault: an item can begin with the tokens before it, and with
-- this one too it can't; or it can begin with all tokens, and this is the last one.
pub record IsFaultAt (kinds : List Kind) (n : ℕ) : Type 0 where
  pub inside : n < length kinds
  pub before : (m : ℕ) → m ≤ n → IsViable kinds m
  pub here : BeginNoItem kinds n ⊎ AreCutShort kinds n
