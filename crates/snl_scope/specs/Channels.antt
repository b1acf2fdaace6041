-- What the sound clauses of a text say of the channels of a variable: which of them are monitored,
-- and which `sync` or `syncq` speaks of each. A channel is that of one element, or of the whole
-- variable.
use Rattle.std.specs.Prelude.{ℕ, Bool, true, false, ◌&&◌, List, nat_eq, nat_lt, Option, None, Some, position}
use Rattle.std.specs.List.{list_any, zip}
use Rattle.snl_summary.specs.declared.summary.ClauseKind.{ClauseKind}
use Rattle.snl_summary.specs.declared.summary.ClauseKind.TheVariants as kind
use Rattle.snl_summary.specs.declared.summary.Coverage.{Coverage}
use Rattle.snl_summary.specs.declared.summary.Coverage.TheVariants as coverage
use Rattle.snl_summary.specs.declared.summary.Outline.{Outline}
use Rattle.snl_scope.specs.Clauses.{LinkedClause, clauses_of, same_number, sound_clauses, soundness}

-- The clause speaks of the channel: any clause of that of the whole variable, of that of an element
-- one that covers it.
abbrev pub speaks_of : Coverage → Option ℕ → Bool
speaks_of _ None = true
speaks_of coverage.Whole (Some e) = true
speaks_of (coverage.Element k) (Some e) = nat_eq k e
speaks_of (coverage.Front n) (Some e) = nat_lt e n

abbrev pub is_monitor : ClauseKind → Bool
is_monitor kind.Monitor = true
is_monitor _ = false

abbrev pub is_sync : ClauseKind → Bool
is_sync kind.Sync = true
is_sync kind.Syncq = true
is_sync _ = false

-- The clause is one on the declaration with this number, and speaks of its channel.
abbrev pub speaks_on : ℕ → Option ℕ → LinkedClause → Bool
speaks_on variable element c = same_number (Some variable) c.variable && speaks_of c.clause.coverage element

-- A sound `monitor` speaks of the channel.
abbrev pub is_monitored : List Outline → ℕ → Option ℕ → Bool
is_monitored ss variable element = list_any (λ c. is_monitor c.clause.kind && speaks_on variable element c) (sound_clauses ss)

-- The number, among all clauses, of the first sound `sync` or `syncq` that speaks of the channel.
abbrev pub sync_number : List Outline → ℕ → Option ℕ → Option ℕ
sync_number ss variable element =
    position (λ p. p.1 && is_sync p.0.clause.kind && speaks_on variable element p.0) (zip (clauses_of ss) (soundness ss))
