use Rattle.std.proofs.Common.{◌≡◌, ◌<◌, ℕ, false, get_or, map, take}
use Rattle.snl_summary.specs.declared.summary.Declared.{Declared}
use Rattle.snl_scope.specs.Clauses.{is_event_flag}
use Rattle.snl_scope.specs.Renamed.{unnamed}
use Rattle.snl_scope.proofs.renamed.are_declared_anew.Given as goal

-- the declarations so far are of the same, and of no event flag
abbrev pub invariant-loop-number : goal.invariant-loop-number
invariant-loop-number l = record {
  same : map unnamed (take l.number l.is) ≡ map unnamed (take l.number l.was);
  no_flag : (i : ℕ) (d : Declared) → i < l.number → is_event_flag (get_or l.was i d).variable.symbol_kind ≡ false;
}
