-- How the clauses that the code has resolved, and the table of what is assigned, follow the clauses
-- of a text.
use Rattle.std.specs.Prelude.{◌≡◌, ℕ, if◌then◌else◌, List, [], ◌∷◌, Option, None, Some}
use Rattle.snl_scope.specs.declared.facts.Assigned.{Assigned}
use Rattle.snl_scope.specs.declared.clauses.resolved.Resolved.{Resolved}
use Rattle.snl_scope.specs.ByNumber.{at_number}
use Rattle.snl_scope.specs.OutlineList.{clause_by}
use Rattle.snl_scope.specs.Clauses.{LinkedClause, assigned_as, assigns}

-- A clause that is resolved.
abbrev pub linked : Resolved → LinkedClause
linked r = record { item = r.item; clause = clause_by r.outlines.now.names r.clause; variable = r.variable; flag = r.flag }

-- What the first clause that assigns a declaration says of it.
abbrev pub first_assign : List LinkedClause → ℕ → Option Assigned
first_assign [] number = None
first_assign (c ∷ cs) number = if assigns (Some number) c then Some (assigned_as c.clause.coverage) else first_assign cs number

-- The table tells, by number, to what each declaration is assigned that is.
pub record Assigns (held : List (Option Assigned)) (cs : List LinkedClause) : Type 0 where
  pub each : (number : ℕ) → at_number held number ≡ first_assign cs number
