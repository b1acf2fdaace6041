-- One step of a loop over occurrences: what it gave, with what the rest gives, is what all of them
-- give.
use Rattle.std.proofs.Common.{◌≡◌, ℕ, ◌+◌, ◌<◌, Bool, true, false, cond, List, [], ◌∷◌, ◌++◌, length, map, get_or, drop, Option, ap, sym, ◌∙◌}
use Rattle.std.specs.List.{flat_map, list_any}
use Rattle.std.specs.Str.{bytes_eq}
use Rattle.snl_walk.specs.declared.occurrence.Occurrence.{Occurrence}
use Rattle.snl_walk.specs.declared.other_items.Outer.{Outer}
use Rattle.snl_walk.specs.declared.rules.Finding.{Finding}
use Rattle.snl_walk.specs.declared.used.TargetUse.{TargetUse}
use Rattle.snl_walk.specs.Once.{with_new}
use Rattle.snl_walk.specs.Rules.{finding, found_wrong, rules_at}
use Rattle.snl_walk.specs.Undeclared.{firsts_after, is_undeclared}
use Rattle.snl_walk.specs.Uses.{is_target, leads_on, target_use, target_uses_after, tokens_where}
use Rattle.std.proofs.lemmas.List.{drop_more}
use Rattle.snl_walk.proofs.Loops.{kept_later, kept_next, taken}

module _ (found : List Occurrence) (i : ℕ) (d : Occurrence) (within : i < length found) where
  abbrev here : Occurrence
  here = get_or found i d

  abbrev rest : List Occurrence
  rest = drop (i + 1) found

  pub target_there : (led : Bool) (ys zs all : List TargetUse) → is_target here.what ≡ true → ys ++ target_uses_after led (drop i found) ≡ all →
      zs ≡ ys ++ target_use here.token led ∷ [] → zs ++ target_uses_after (leads_on here.what) rest ≡ all
  target_there led ys zs all is was now =
      taken ys zs (target_use here.token led ∷ []) (target_uses_after led (drop i found)) (target_uses_after (leads_on here.what) rest) all was
      (ap (target_uses_after led) (drop_more found i d within) ∙ ap (λ b. cond b (target_use here.token led ∷ []) [] ++ target_uses_after (leads_on here.what) rest) is) now

  pub no_target_there : (led : Bool) (ys zs all : List TargetUse) → is_target here.what ≡ false → ys ++ target_uses_after led (drop i found) ≡ all →
      zs ≡ ys → zs ++ target_uses_after (leads_on here.what) rest ≡ all
  no_target_there led ys zs all is was same =
      ap (λ l. l ++ target_uses_after (leads_on here.what) rest) same
      ∙ ap (λ l. ys ++ l) (sym (ap (target_uses_after led) (drop_more found i d within) ∙ ap (λ b. cond b (target_use here.token led ∷ []) [] ++ target_uses_after (leads_on here.what) rest) is))
      ∙ was

  module _ (bytes : ℕ → List ℕ) (outer : List ℕ → Option Outer) (name : List ℕ) (same_name : name ≡ bytes here.token) where
    pub wrong_there : (misses : List ℕ → Bool) (ys zs all : List Finding) → ys ++ flat_map (found_wrong bytes outer misses) (drop i found) ≡ all →
        zs ≡ ys ++ map (finding here.token) (rules_at outer misses name here here.what) → zs ++ flat_map (found_wrong bytes outer misses) rest ≡ all
    wrong_there misses ys zs all was now =
        taken ys zs (found_wrong bytes outer misses here) (flat_map (found_wrong bytes outer misses) (drop i found)) (flat_map (found_wrong bytes outer misses) rest) all was
        (ap (flat_map (found_wrong bytes outer misses)) (drop_more found i d within)) (now ∙ ap (λ n. ys ++ map (finding here.token) (rules_at outer misses n here here.what)) same_name)

    abbrev undeclared_at : Occurrence → Bool
    undeclared_at o = is_undeclared outer (bytes o.token) o

    abbrev token_at : Occurrence → ℕ
    token_at o = o.token

    module _ (before : List (List ℕ)) (ys zs all : List ℕ) where
      pub undeclared_there : (names : List (List ℕ)) → is_undeclared outer name here ≡ true → ys ++ firsts_after bytes before (tokens_where undeclared_at (drop i found)) ≡ all →
          names ≡ with_new before name → zs ≡ ys ++ cond (list_any (bytes_eq name) before) [] (here.token ∷ []) →
          zs ++ firsts_after bytes names (tokens_where undeclared_at rest) ≡ all
      undeclared_there names is was then now =
          let keeps : undeclared_at here ≡ true = ap (λ n. is_undeclared outer n here) (sym same_name) ∙ is in
          taken ys zs (cond (list_any (bytes_eq (bytes here.token)) before) [] (here.token ∷ [])) (firsts_after bytes before (tokens_where undeclared_at (drop i found))) (firsts_after bytes names (tokens_where undeclared_at rest)) all was
          (ap (firsts_after bytes before) (kept_next undeclared_at token_at found i d within keeps)
          ∙ ap (λ ns. cond (list_any (bytes_eq (bytes here.token)) before) [] (here.token ∷ []) ++ firsts_after bytes ns (tokens_where undeclared_at rest)) (sym (then ∙ ap (with_new before) same_name)))
          (now ∙ ap (λ n. ys ++ cond (list_any (bytes_eq n) before) [] (here.token ∷ [])) same_name)

      pub declared_there : (names : List (List ℕ)) → is_undeclared outer name here ≡ false → ys ++ firsts_after bytes before (tokens_where undeclared_at (drop i found)) ≡ all →
          names ≡ before → zs ≡ ys → zs ++ firsts_after bytes names (tokens_where undeclared_at rest) ≡ all
      declared_there names is was then now =
          let keeps : undeclared_at here ≡ false = ap (λ n. is_undeclared outer n here) (sym same_name) ∙ is in
          ap (λ l. l ++ firsts_after bytes names (tokens_where undeclared_at rest)) now ∙ ap (λ ns. ys ++ firsts_after bytes ns (tokens_where undeclared_at rest)) then
          ∙ ap (λ l. ys ++ firsts_after bytes before l) (sym (kept_later undeclared_at token_at found i d within keeps)) ∙ was
