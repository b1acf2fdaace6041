-- The elements of a variable, and what `assign` clauses and channels have of them.
use Rattle.std.specs.Prelude.{◌≡◌, ℕ, ◌<◌, Option, Some}
use Rattle.snl_summary.specs.declared.summary.ClauseKind.TheVariants.{Assign}
use Rattle.snl_summary.specs.declared.summary.Coverage.{Coverage}
use Rattle.snl_summary.specs.declared.summary.Coverage.TheVariants.{Whole, Element, Front}
use Rattle.snl_scope.specs.Clauses.{LinkedClause}
use Rattle.snl_check.specs.Channels.{AssignedChannel}

-- An element that a clause covers: any, its one, or one of so many from the first on.
abbrev pub HasElement : Coverage → ℕ → Type 0
HasElement Whole k = Unit {0}
HasElement (Element e) k = e ≡ k
HasElement (Front n) k = k < n

-- The clause assigns the declaration with this number.
pub record Assigns (number : ℕ) (c : LinkedClause) : Type 0 where
  pub kind : c.clause.kind ≡ Assign
  pub variable : c.variable ≡ Some number

-- No element is covered by both, and neither covers the whole.
pub record AreApart (a b : Coverage) : Type 0 where
  pub elements : (k : ℕ) → HasElement a k → HasElement b k → ⊥
  pub first : a ≡ Whole → ⊥
  pub second : b ≡ Whole → ⊥

-- If both assign one declaration, they are apart.
abbrev pub AssignApart : LinkedClause → LinkedClause → Type 0
AssignApart c d = (number : ℕ) → Assigns number c → Assigns number d → AreApart c.clause.coverage d.clause.coverage

-- Each is the channel of one element, and not of the same.
abbrev pub AreOfTwoElements : Option ℕ → Option ℕ → Type 0
AreOfTwoElements (Some a) (Some b) = a ≡ b → ⊥
AreOfTwoElements _ _ = ⊥

-- If both are channels of one variable, they are of two elements of it.
abbrev pub ChannelsApart : AssignedChannel → AssignedChannel → Type 0
ChannelsApart c d = c.variable ≡ d.variable → AreOfTwoElements c.element d.element
