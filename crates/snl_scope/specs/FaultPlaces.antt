-- Where the findings of links are.
use Rattle.std.specs.Prelude.{◌≡◌, ℕ, ◌<◌, ◌⊎◌, Bool, true, false, List, length, slice_get, Option, None, Some, is_some}
use Rattle.std.specs.List.{AllByRecursion, Contains}
use Rattle.snl_codes.specs.declared.code.Code.TheVariants.{E05, E06, E07}
use Rattle.snl_codes.specs.Codes.{is_link_code}
use Rattle.snl_scope.specs.declared.facts.LinkFault.{LinkFault}
use Rattle.snl_summary.specs.declared.summary.Outline.{Outline}
use Rattle.snl_scope.specs.Names.{has_own_scope}
use Rattle.snl_summary.specs.RisingTokens.{declared_tokens, flag_tokens, variable_tokens}
use Rattle.snl_scope.specs.Order.{is_program_word, is_ss_word}
use Rattle.snl_scope.specs.Places.{begins_set}

-- All that an outline speaks of is at the first so many tokens. An item that begins a state set
-- begins with `ss`.
pub record SpeaksOfTokens (count : ℕ) (s : Outline) : Type 0 where
  pub first : 0 < count
  pub second : is_some s.second ≡ true → 1 < count
  pub declared : AllByRecursion (λ n. n < count) (declared_tokens s)
  pub variables : AllByRecursion (λ n. n < count) (variable_tokens s)
  pub flags : AllByRecursion (λ n. n < count) (flag_tokens s)
  pub set : begins_set s.role ≡ true → is_ss_word s.opening ≡ true

-- The item declares a name at the token, in a scope that isn't its own.
pub record DeclaresOutside (token : ℕ) (s : Outline) : Type 0 where
  pub outside : has_own_scope s.role ≡ false
  pub declared : Contains (declared_tokens s) token

-- A finding at one of the tokens of an item, with a code of the links: E05 at one that begins with
-- `program`, E06 at one that begins with `ss`, and E07 at a name that it declares in a scope that
-- isn't its own.
pub record IsAtItem (count : ℕ) (s : Outline) (f : LinkFault) : Type 0 where
  pub token : f.token < count
  pub code : is_link_code f.code ≡ true
  pub program : f.code ≡ E05 → is_program_word s.opening ≡ true
  pub set : f.code ≡ E06 → is_ss_word s.opening ≡ true
  pub declared : f.code ≡ E07 → DeclaresOutside f.token s

-- No item begins so.
abbrev pub NoneIs : (Outline → Bool) → List Outline → Type 0
NoneIs test ss = (i : ℕ) (s : Outline) → slice_get ss i ≡ Some s → test s ≡ false

-- A finding of what is missing altogether: E05 where no item begins with `program`, E06 where none
-- begins with `ss`.
pub record IsMissing (ss : List Outline) (f : LinkFault) : Type 0 where
  pub item : f.item ≡ length ss
  pub token : f.token ≡ 0
  pub code : ((f.code ≡ E05) × NoneIs (λ s. is_program_word s.opening) ss) ⊎ ((f.code ≡ E06) × NoneIs (λ s. is_ss_word s.opening) ss)

-- A finding is at an item, which has so many tokens, or at none: then it is of what is missing.
abbrev pub IsPlacedBy : (ℕ → ℕ) → List Outline → LinkFault → Option Outline → Type 0
IsPlacedBy counts ss f None = IsMissing ss f
IsPlacedBy counts ss f (Some s) = IsAtItem (counts f.item) s f

abbrev pub IsPlaced : (ℕ → ℕ) → List Outline → LinkFault → Type 0
IsPlaced counts ss f = IsPlacedBy counts ss f (slice_get ss f.item)
