-- What `sync` and `monitor` clauses have of the elements of a variable.
use Rattle.std.specs.Prelude.{◌≡◌, ◌⊎◌, ℕ, List, Some, slice_get, take}
use Rattle.std.specs.List.{Contains}
use Rattle.snl_codes.specs.declared.code.Code.TheVariants.{W05}
use Rattle.snl_scope.specs.declared.facts.LinkFault.{LinkFault}
use Rattle.snl_scope.specs.Clauses.{LinkedClause, at_name_ref, clause_faults, clauses_of, sound_clauses}
use Rattle.snl_summary.specs.declared.summary.ClauseKind.TheVariants.{Monitor, Sync, Syncq}
use Rattle.snl_summary.specs.declared.summary.Outline.{Outline}
use Rattle.snl_table_laws.specs.Channels.{AreApart}

-- The clause is a `sync` or a `syncq` of the declaration with this number.
pub record Syncs (number : ℕ) (c : LinkedClause) : Type 0 where
  pub kind : (c.clause.kind ≡ Sync) ⊎ (c.clause.kind ≡ Syncq)
  pub variable : c.variable ≡ Some number

-- If both sync one declaration, they are apart.
abbrev pub SyncApart : LinkedClause → LinkedClause → Type 0
SyncApart c d = (number : ℕ) → Syncs number c → Syncs number d → AreApart c.clause.coverage d.clause.coverage

-- The clause monitors the declaration with this number.
pub record Monitors (number : ℕ) (c : LinkedClause) : Type 0 where
  pub kind : c.clause.kind ≡ Monitor
  pub variable : c.variable ≡ Some number

-- W05 at the clause's variable.
abbrev pub repetition : LinkedClause → LinkFault
repetition c = at_name_ref c.item c.clause.variable W05

-- If both monitor one declaration, they are apart, or W05 is found at the second one.
abbrev pub MonitorApart : List Outline → LinkedClause → LinkedClause → Type 0
MonitorApart ss c d = (number : ℕ) → Monitors number c → Monitors number d → AreApart c.clause.coverage d.clause.coverage ⊎ Contains (clause_faults ss) (repetition d)

-- What is found is W05 at a clause that monitors a declaration, after a sound one that does so too
-- and that it is not apart from.
pub record IsRepetition (ss : List Outline) (f : LinkFault) : Type 0 where
  pub first : LinkedClause
  pub second : LinkedClause
  pub place : ℕ
  pub number : ℕ
  pub there : slice_get (clauses_of ss) place ≡ Some second
  pub before : Contains (take place (clauses_of ss)) first
  pub sound : Contains (sound_clauses ss) first
  pub monitors : Monitors number first
  pub again : Monitors number second
  pub meets : AreApart first.clause.coverage second.clause.coverage → ⊥
  pub found : f ≡ repetition second
