-- Types that the definitions of the walk speak of, and that it keeps for itself: named here by
-- functions that take or give them.
use Rattle.std.proofs.Common.{List, [], None}
use Rattle.snl_walk.specs.Expressions.{before, names_in_tails}
use Rattle.snl_walk.specs.Statements.{in_loop}

abbrev taken_by : {A B : Type 0} → (A → B) → Type 0
taken_by {A} f = A

abbrev listed_by : {A B : Type 0} → (B → List A) → Type 0
listed_by {A} f = A

-- how an operand occurs
abbrev pub Setting : Type 0
Setting = taken_by (before [])

-- a name in an expression
abbrev pub ExpressionName : Type 0
ExpressionName = listed_by (names_in_tails None)

-- where a statement is
abbrev pub Context : Type 0
Context = taken_by in_loop
