-- Which channels are monitored, and which clause speaks of each, is told by the links of the clauses
-- alone.
use Rattle.std.proofs.Common.{◌≡◌, ℕ, Bool, ◌&&◌, List, [], Option, Some, is_some, sym, ap, ◌∙◌}
use Rattle.std.specs.List.{list_any, position, zip}
use Rattle.snl_facts.specs.Positions.{position_map}
use Rattle.snl_scope.specs.declared.facts.ClauseLink.{ClauseLink}
use Rattle.snl_summary.specs.declared.summary.Outline.{Outline}
use Rattle.snl_scope.specs.Channels.{is_monitor, is_monitored, is_sync, speaks_of, speaks_on, sync_number}
use Rattle.snl_scope.specs.Clauses.{LinkedClause, clause_link, clause_links, clauses_of, same_number, soundness}
use Rattle.snl_scope.specs.Flags.{flags_of}
use Rattle.snl_scope.specs.Names.{entries}
use Rattle.snl_scope.specs.Renamed.{ClausesAlike}
use Rattle.snl_scope.proofs.FirstClaims.{any-among}
use Rattle.snl_scope.proofs.Judging.{sound-judged}

module _ (variable : ℕ) (element : Option ℕ) where
  -- The clause of a link speaks of the channel; and it is a sound `monitor`, or a sound `sync` or
  -- `syncq`.
  abbrev link_speaks : ClauseLink → Bool
  link_speaks l = same_number (Some variable) l.variable && speaks_of l.coverage element

  abbrev link_monitors : ClauseLink → Bool
  link_monitors l = l.is_sound && (is_monitor l.kind && link_speaks l)

  abbrev link_syncs : ClauseLink → Bool
  link_syncs l = l.is_sound && is_sync l.kind && link_speaks l

  monitored_by_links : (ss : List Outline) → is_monitored ss variable element ≡ is_some (position link_monitors (clause_links ss))
  monitored_by_links ss =
      let judged : List (LinkedClause × Bool) = zip (clauses_of ss) (soundness ss) in
      let monitors : LinkedClause → Bool = λ c. is_monitor c.clause.kind && speaks_on variable element c in
      ap (list_any monitors) (sym (sound-judged (entries ss) (clauses_of ss) [] (clauses_of ss)))
      ∙ sym (any-among monitors judged)
      ∙ ap is_some (position_map link_monitors (λ (p : LinkedClause × Bool). clause_link p.0 p.1) judged)

  synced_by_links : (ss : List Outline) → sync_number ss variable element ≡ position link_syncs (clause_links ss)
  synced_by_links ss = position_map link_syncs (λ (p : LinkedClause × Bool). clause_link p.0 p.1) (zip (clauses_of ss) (soundness ss))

pub are_alike : (ss ts : List Outline) → clause_links ts ≡ clause_links ss → flags_of ts ≡ flags_of ss → ClausesAlike ss ts
are_alike ss ts clauses flags = record {
  clauses = clauses;
  flags = flags;
  monitored = λ v e. monitored_by_links v e ts ∙ ap (λ (l : List ClauseLink). is_some (position (link_monitors v e) l)) clauses ∙ sym (monitored_by_links v e ss);
  syncs = λ v e. synced_by_links v e ts ∙ ap (position (link_syncs v e)) clauses ∙ sym (synced_by_links v e ss);
}
