-- What holds of each target of some occurrences holds of those of a part of them, and of the targets
-- that statements lead to.
use Rattle.std.proofs.Common.{◌≡◌, ℕ, Bool, true, false, cond, filter, List, [], ◌∷◌, ◌++◌, map, refl, ap, subst}
use Rattle.std.specs.List.{AllByRecursion as Each}
use Rattle.snl_facts.specs.Each.{each_front, each_rear}
use Rattle.snl_walk.specs.declared.occurrence.Occurrence.{Occurrence}
use Rattle.snl_walk.specs.declared.used.TargetUse.{TargetUse}
use Rattle.snl_walk.specs.Uses.{is_target, targets}
use Rattle.snl_check.specs.States.{by_statements}

pub targets-append : (os ps : List Occurrence) → targets (os ++ ps) ≡ targets os ++ targets ps
targets-append [] ps = refl
targets-append (o ∷ os) ps = by (is_target o.what) (targets-append os ps)
  where
    by : (b : Bool) → targets (os ++ ps) ≡ targets os ++ targets ps →
        map (λ (k : Occurrence). k.token) (cond b (o ∷ filter (λ k. is_target k.what) (os ++ ps)) (filter (λ k. is_target k.what) (os ++ ps)))
        ≡ map (λ (k : Occurrence). k.token) (cond b (o ∷ filter (λ k. is_target k.what) os) (filter (λ k. is_target k.what) os)) ++ targets ps
    by true rest = ap (λ l. o.token ∷ l) rest
    by false rest = rest

module _ (P : ℕ → Type 0) where
  pub targets_in_front : (os ps : List Occurrence) → Each P (targets (os ++ ps)) → Each P (targets os)
  targets_in_front os ps h = each_front P (targets os) (targets ps) (subst (Each P) (targets-append os ps) h)

  pub targets_in_back : (os ps : List Occurrence) → Each P (targets (os ++ ps)) → Each P (targets ps)
  targets_in_back os ps h = each_rear P (targets os) (targets ps) (subst (Each P) (targets-append os ps) h)

  pub each_by_statements : (us : List TargetUse) → Each P (map (λ u. u.token) us) → Each P (by_statements us)
  each_by_statements [] h = tt
  each_by_statements (u ∷ us) h = by u.by_statement (each_by_statements us h.1)
    where
      by : (b : Bool) → Each P (by_statements us) → Each P (map (λ (v : TargetUse). v.token) (cond b (u ∷ filter (λ v. v.by_statement) us) (filter (λ v. v.by_statement) us)))
      by true rest = (h.0, rest)
      by false rest = rest
