-- No rule is told twice at one token: the tokens of occurrences rise, at one of them no rule is
-- told twice, and what is told of undeclared names is told of nothing else.
use Rattle.std.proofs.Common.{◌≡◌, ◌≢◌, ℕ, ◌<◌, Bool, true, false, cond, List, [], ◌∷◌, ◌++◌, map, filter, Option, refl, sym, ap, ◌∙◌, arith}
use Rattle.std.specs.List.{AllByRecursion as Each, AllPairs, flat_map, list_any}
use Rattle.std.specs.Str.{bytes_eq}
use Rattle.std.proofs.lemmas.Bool.{false≢true}
use Rattle.snl_codes.specs.declared.code.Code.{Code}
use Rattle.snl_codes.specs.declared.code.Code.TheVariants.{E07, E10, E17, E18, E19, E20, E21, W01, W03}
use Rattle.snl_walk.specs.declared.occurrence.Occurrence.{Occurrence}
use Rattle.snl_walk.specs.declared.occurrence.What.{What}
use Rattle.snl_walk.specs.declared.occurrence.What.TheVariants as what
use Rattle.snl_walk.specs.declared.other_items.Outer.{Outer}
use Rattle.snl_walk.specs.declared.rules.Finding.{Finding}
use Rattle.snl_walk.specs.Items.{tokens_of}
use Rattle.snl_walk.specs.Once.{with_new}
use Rattle.snl_codes.specs.Codes.{is_occurrence_code}
use Rattle.snl_walk.specs.Rules.{finding, findings, found_wrong, is_repeated, rules_at, rules_at_call, rules_at_use, when}
use Rattle.snl_walk.specs.Passing.{passes}
use Rattle.snl_walk.specs.Undeclared.{firsts_after, is_undeclared, undeclared}
use Rattle.snl_walk.specs.Uses.{is_call, tokens_where}
use Rattle.snl_walk.proofs.RulesHold.{wrong_hold}
use Rattle.snl_facts.specs.Each.{EachTwo, across, each_append, each_by, each_filter, each_map, each_unmap, each_weaker, pairs_from_two, two_across, two_filter, two_map, two_unmap, two_weaker}

abbrev Differ : {A : Type 0} → A → A → Type 0
Differ a b = a ≢ b

-- ---- at one occurrence

two_rules : (a b : Bool) → EachTwo Differ (when a E07 ++ when b E17)
two_rules true true = (((λ e. cc), tt), (tt, tt))
two_rules true false = (tt, tt)
two_rules false true = (tt, tt)
two_rules false false = tt

one_rule : (b : Bool) (r : Code) → EachTwo Differ (when b r)
one_rule true r = (tt, tt)
one_rule false r = tt

use_rules : (a b : Bool) → EachTwo Differ (when a E20 ++ when b E21)
use_rules true true = (((λ e. cc), tt), (tt, tt))
use_rules true false = (tt, tt)
use_rules false true = (tt, tt)
use_rules false false = tt

module _ (outer : List ℕ → Option Outer) (misses : List ℕ → Bool) (name : List ℕ) (o : Occurrence) where
  rules_apart : (w : What) → EachTwo Differ (rules_at outer misses name o w)
  rules_apart (what.Declaration is_wrong) = two_rules _ is_wrong
  rules_apart (what.Change in_transition) = one_rule _ E18
  rules_apart (what.Jump in_loop) = one_rule _ E19
  rules_apart what.Target = one_rule _ E10
  rules_apart (what.Name m) = by (is_call m.follows)
    where
      by : (b : Bool) → EachTwo Differ (cond b (rules_at_call name m) (rules_at_use (passes outer name o.means) m))
      by true = one_rule _ W03
      by false = use_rules _ _

-- ---- in all

abbrev Later : Occurrence → Occurrence → Type 0
Later a b = a.token < b.token

module _ (bytes : ℕ → List ℕ) (outer : List ℕ → Option Outer) (misses : List ℕ → Bool) where
  abbrev wrong_at : Occurrence → List Finding
  wrong_at o = found_wrong bytes outer misses o

  abbrev rules_of : Occurrence → List Code
  rules_of o = rules_at outer misses (bytes o.token) o o.what

  at_token : (o : Occurrence) → Each (λ f. f.token ≡ o.token) (wrong_at o)
  at_token o = each_map (λ f. f.token ≡ o.token) (finding o.token) (rules_of o) (each_by (λ r. o.token ≡ o.token) (λ r. refl) (rules_of o))

  apart_at : (o : Occurrence) → EachTwo Differ (wrong_at o)
  apart_at o =
      two_map Differ (finding o.token) (rules_of o)
      (two_weaker Differ (λ r s. finding o.token r ≢ finding o.token s) (λ r s ne e. ne (ap (λ (f : Finding). f.code) e)) (rules_of o) (rules_apart outer misses (bytes o.token) o o.what))

  after : (n : ℕ) (os : List Occurrence) → Each (λ o. n < o.token) os → Each (λ f. n < f.token) (flat_map wrong_at os)
  after n [] h = tt
  after n (o ∷ os) h =
      each_append (λ f. n < f.token) (wrong_at o) (flat_map wrong_at os)
      (each_weaker (λ f. f.token ≡ o.token) (λ f. n < f.token) (λ f is. omega (arith, is, h.0)) (wrong_at o) (at_token o)) (after n os h.1)

  wrong_apart : (os : List Occurrence) → EachTwo Later os → EachTwo Differ (flat_map wrong_at os)
  wrong_apart [] h = tt
  wrong_apart (o ∷ os) h =
      two_across Differ (wrong_at o) (flat_map wrong_at os) (apart_at o) (wrong_apart os h.1)
      (across Differ (λ f. f.token ≡ o.token) (λ f. o.token < f.token) (λ f g at later e. let same : f.token ≡ g.token = ap (λ (k : Finding). k.token) e in omega (arith, at, later, same)) (wrong_at o) (flat_map wrong_at os) (at_token o) (after o.token os h.0))

  abbrev OtherFinding : Finding → Type 0
  OtherFinding f = f.code ≢ W01

  wrong_other : (os : List Occurrence) → Each OtherFinding (flat_map wrong_at os)
  wrong_other os =
      wrong_hold bytes outer misses OtherFinding (λ n c is same. false≢true (sym (ap is_occurrence_code same) ∙ is)) os
      (each_by (λ o. is_repeated o.token o.means ≡ true → OtherFinding (finding o.token E07)) (λ o again same. cc) os)

  -- the first use of each name is one of the uses, in their order
  each_first : (P : ℕ → Type 0) (names : List (List ℕ)) (ns : List ℕ) → Each P ns → Each P (firsts_after bytes names ns)
  each_first P names [] h = tt
  each_first P names (n ∷ ns) h = by (each_first P (with_new names (bytes n)) ns h.1) (list_any (bytes_eq (bytes n)) names)
    where
      by : Each P (firsts_after bytes (with_new names (bytes n)) ns) → (b : Bool) → Each P (cond b [] (n ∷ []) ++ firsts_after bytes (with_new names (bytes n)) ns)
      by rest true = rest
      by rest false = (h.0, rest)

  firsts_rise : (names : List (List ℕ)) (ns : List ℕ) → EachTwo (λ a b. a < b) ns → EachTwo (λ a b. a < b) (firsts_after bytes names ns)
  firsts_rise names [] h = tt
  firsts_rise names (n ∷ ns) h = by (firsts_rise (with_new names (bytes n)) ns h.1) (list_any (bytes_eq (bytes n)) names)
    where
      by : EachTwo (λ x y. x < y) (firsts_after bytes (with_new names (bytes n)) ns) → (b : Bool) → EachTwo (λ x y. x < y) (cond b [] (n ∷ []) ++ firsts_after bytes (with_new names (bytes n)) ns)
      by rest true = rest
      by rest false = (each_first (λ x. n < x) (with_new names (bytes n)) ns h.0, rest)

  abbrev told_undeclared : ℕ → Finding
  told_undeclared n = finding n W01

  undeclared_apart : (os : List Occurrence) → EachTwo Later os → EachTwo Differ (map told_undeclared (undeclared bytes outer os))
  undeclared_apart os h =
      let test : Occurrence → Bool = λ o. is_undeclared outer (bytes o.token) o in
      let rise : EachTwo (λ a b. a < b) (tokens_where test os) = two_map (λ a b. a < b) (λ (o : Occurrence). o.token) _ (two_filter Later test os h) in
      two_map Differ told_undeclared (undeclared bytes outer os)
      (two_weaker (λ a b. a < b) (λ a b. told_undeclared a ≢ told_undeclared b) (λ a b less e. let same : a ≡ b = ap (λ (k : Finding). k.token) e in omega (arith, less, same)) (undeclared bytes outer os) (firsts_rise [] (tokens_where test os) rise))

  -- each finding is at an occurrence
  wrong_stand : (P : ℕ → Type 0) (os : List Occurrence) → Each P (tokens_of os) → Each (λ f. P f.token) (flat_map wrong_at os)
  wrong_stand P [] h = tt
  wrong_stand P (o ∷ os) h =
      each_append (λ f. P f.token) (wrong_at o) (flat_map wrong_at os) (each_map (λ f. P f.token) (finding o.token) (rules_of o) (each_by (λ r. P o.token) (λ r. h.0) (rules_of o))) (wrong_stand P os h.1)

  each_where : (P : ℕ → Type 0) (test : Occurrence → Bool) (os : List Occurrence) → Each P (tokens_of os) → Each P (tokens_where test os)
  each_where P test os h = each_map P (λ (o : Occurrence). o.token) (filter test os) (each_filter (λ (o : Occurrence). P o.token) test os (each_unmap P (λ (o : Occurrence). o.token) os h))

  pub findings_stand : (P : ℕ → Type 0) (os : List Occurrence) → Each P (tokens_of os) → Each (λ f. P f.token) (findings bytes outer misses os)
  unfolding findings
  findings_stand P os h =
      let us : List ℕ = undeclared bytes outer os in
      each_append (λ f. P f.token) (flat_map wrong_at os) (map told_undeclared us) (wrong_stand P os h)
      (each_map (λ f. P f.token) told_undeclared us (each_first P [] (tokens_where (λ o. is_undeclared outer (bytes o.token) o) os) (each_where P (λ o. is_undeclared outer (bytes o.token) o) os h)))

  pub findings_apart : (os : List Occurrence) → EachTwo (λ a b. a < b) (tokens_of os) → AllPairs (λ a b. a ≢ b) (findings bytes outer misses os)
  unfolding findings
  findings_apart os rise =
      let later : EachTwo Later os = two_unmap (λ a b. a < b) (λ (o : Occurrence). o.token) os rise in
      let us : List ℕ = undeclared bytes outer os in
      pairs_from_two Differ (flat_map wrong_at os ++ map told_undeclared us)
      (two_across Differ (flat_map wrong_at os) (map told_undeclared us) (wrong_apart os later) (undeclared_apart os later)
      (across Differ OtherFinding (λ f. f.code ≡ W01) (λ f g other is e. other (ap (λ (k : Finding). k.code) e ∙ is)) (flat_map wrong_at os) (map told_undeclared us) (wrong_other os)
      (each_map (λ (f : Finding). f.code ≡ W01) told_undeclared us (each_by (λ n. W01 ≡ W01) (λ n. refl) us))))
