-- Items see the same where names mean the same; and what is seen of numbers of names is so of names.
use Rattle.std.proofs.Common.{◌≡◌, ℕ, zero, suc, ◌<◌, Bool, true, false, cond, nat_lt, List, [], ◌∷◌, length, take, get_or, slice_get, Option, None, Some, refl, sym, ap, ap₂, subst, ◌∙◌, arith, inl, inr, true≢false, is_some, map}
use Rattle.std.specs.Prelude.{bytes_eq, if◌then◌else◌, option_map}
use Rattle.std.specs.List.{AllByRecursion as Each, position}
use Rattle.std.specs.Map.{lookup}
use Rattle.std.specs.Option.{option_and_then, option_map_or, option_or}
use Rattle.std.proofs.lemmas.Bool.{cases_lt, le-ltb, lt-ltb}
use Rattle.std.proofs.lemmas.List.Quantifiers.{position-Some}
use Rattle.std.proofs.lemmas.Map.Entries.{place_from_lookup}
use Rattle.std.proofs.lemmas.Option.{slice_get-map}
use Rattle.snl_facts.specs.Each.{each_got}
use Rattle.snl_facts.specs.Positions.{position_cons}
use Rattle.snl_scope.specs.Compared.{ByNames}
use Rattle.snl_scope.specs.KeyLaws.{key_true}
use Rattle.snl_scope.specs.Linked.{fact_at, fact_of}
use Rattle.snl_scope.specs.Names.{entries, number_in, resolve}
use Rattle.snl_scope.specs.NameTables.{is_program, name_head, number_by, number_under, same_key}
use Rattle.snl_scope.specs.Places.{enclosing_set}
use Rattle.snl_scope.specs.View.{view}
use Rattle.snl_scope.specs.declared.facts.Fact.{Fact}
use Rattle.snl_scope.specs.declared.names.first_numbers.FirstNumbers.{FirstNumbers}
use Rattle.snl_scope.specs.declared.names.namespaces.Namespace.{Namespace}
use Rattle.snl_scope.specs.declared.names.namespaces.Namespace.TheVariants as namespace
use Rattle.snl_scope.specs.declared.names.namespaces.QualifiedName.{QualifiedName}
use Rattle.snl_scope.specs.declared.compared.Compared.{Compared}
use Rattle.snl_summary.specs.declared.summary.Outline.{Outline}
use Rattle.snl_summary.specs.declared.summary.Summary.{Summary}
use Rattle.snl_views.specs.SameMeanings.{IsPaired, MeansTheSame, SamePlace, Unmarks, number_after, number_before, pair_of, same_meaning, same_under, set_in, with_set}
use Rattle.snl_views.specs.declared.same_views.Moved.{Moved}
use Rattle.snl_views.specs.declared.same_views.Side.{Side}
use Rattle.snl_views.specs.declared.same_views.Side.TheVariants as side
use Rattle.snl_views.proofs.Views.{known_equal}

-- ---- items

module _ (F G : ℕ → Option Fact) where
  fact_alike : (a b : Option ℕ) → same_meaning (option_map F a) (option_map G b) ≡ true → option_and_then F a ≡ option_and_then G b
  fact_alike None None h = refl
  fact_alike (Some m) (Some n) h = known_equal (F m) (G n) h
  fact_alike None (Some n) h = absurd (true≢false (sym h))
  fact_alike (Some m) None h = absurd (true≢false (sym h))

  there_alike : (a b : Option ℕ) → same_meaning (option_map F a) (option_map G b) ≡ true → is_some a ≡ is_some b
  there_alike None None h = refl
  there_alike (Some m) (Some n) h = refl
  there_alike None (Some n) h = absurd (true≢false (sym h))
  there_alike (Some m) None h = absurd (true≢false (sym h))

  nearest_alike : (a b c d : Option ℕ) → same_meaning (option_map F a) (option_map G b) ≡ true → same_meaning (option_map F c) (option_map G d) ≡ true
      → option_and_then F (option_or a c) ≡ option_and_then G (option_or b d)
  nearest_alike None None c d h k = fact_alike c d k
  nearest_alike (Some m) (Some n) c d h k = known_equal (F m) (G n) h
  nearest_alike None (Some n) c d h k = absurd (true≢false (sym h))
  nearest_alike (Some m) None c d h k = absurd (true≢false (sym h))

module _ (ss ts : List Outline) (program : MeansTheSame ss namespace.Program ts namespace.Program) where
  resolved : (p q : Option ℕ) → SamePlace ss p ts q → (name : List ℕ)
      → option_and_then (fact_at ss) (resolve (entries ss) p name) ≡ option_and_then (fact_at ts) (resolve (entries ts) q name)
  resolved None None same name = fact_alike (fact_at ss) (fact_at ts) (number_in (entries ss) namespace.Program name) (number_in (entries ts) namespace.Program name) (program name)
  resolved (Some k) (Some t) same name =
      nearest_alike (fact_at ss) (fact_at ts)
      (number_in (entries ss) (namespace.StateSet k) name) (number_in (entries ts) (namespace.StateSet t) name)
      (number_in (entries ss) namespace.Program name) (number_in (entries ts) namespace.Program name)
      (same.declared name) (program name)
  resolved None (Some t) same name = absurd same
  resolved (Some k) None same name = absurd same

  led : (p q : Option ℕ) → SamePlace ss p ts q → (name : List ℕ)
      → option_map_or (λ k. is_some (number_in (entries ss) (namespace.States k) name)) p false ≡ option_map_or (λ k. is_some (number_in (entries ts) (namespace.States k) name)) q false
  led None None same name = refl
  led (Some k) (Some t) same name = there_alike (fact_at ss) (fact_at ts) (number_in (entries ss) (namespace.States k) name) (number_in (entries ts) (namespace.States t) name) (same.states name)
  led None (Some t) same name = absurd same
  led (Some k) None same name = absurd same

  placed : (p q : Option ℕ) → SamePlace ss p ts q → is_some p ≡ is_some q
  placed None None same = refl
  placed (Some k) (Some t) same = refl
  placed None (Some t) same = absurd same
  placed (Some k) None same = absurd same

  module _ (i j : ℕ) (inside : i < length ss) (inside-2 : j < length ts) (same : SamePlace ss (enclosing_set ss i) ts (enclosing_set ts j)) where
    fact_same : (name : List ℕ) → fact_of ss i name ≡ fact_of ts j name
    fact_same name =
        ap (λ (b : Bool). if b then option_and_then (fact_at ss) (resolve (entries ss) (enclosing_set ss i) name) else None) (lt-ltb i (length ss) inside)
        ∙ resolved (enclosing_set ss i) (enclosing_set ts j) same name
        ∙ sym (ap (λ (b : Bool). if b then option_and_then (fact_at ts) (resolve (entries ts) (enclosing_set ts j) name) else None) (lt-ltb j (length ts) inside-2))

    pub views_alike : (s : Summary) → view ss i s ≡ view ts j s
    views_alike s =
        λ d. record {
          in_set = placed (enclosing_set ss i) (enclosing_set ts j) same d;
          facts = map (λ name. fact_same name d) s.uses;
          leads = map (λ t. led (enclosing_set ss i) (enclosing_set ts j) same t.name d) s.targets;
        }

-- ---- names and their numbers

abbrev below : ℕ → ℕ → Option ℕ
below k n = if nat_lt n k then Some n else None

below_suc : (k n : ℕ) → option_map suc (below k n) ≡ below (suc k) (suc n)
below_suc k n =
    elim (cases_lt n k) [
      | inl less ↦
          ap (λ (b : Bool). option_map suc (if b then Some n else None)) (lt-ltb n k less)
          ∙ sym (ap (λ (b : Bool). if b then Some (suc n) else None) (lt-ltb (suc n) (suc k) (omega (arith, less))))
      | inr more ↦
          ap (λ (b : Bool). option_map suc (if b then Some n else None)) (le-ltb n k more)
          ∙ sym (ap (λ (b : Bool). if b then Some (suc n) else None) (le-ltb (suc n) (suc k) (omega (arith, more))))
    ]

-- What is first in a list is so at its front, if it is there.
position_taken : {A : Type 0} (p : A → Bool) (k : ℕ) (xs : List A) → position p (take k xs) ≡ option_and_then (below k) (position p xs)
position_taken p zero xs = by (position p xs)
  where
    by : (o : Option ℕ) → None ≡ option_and_then (below 0) o
    by None = refl
    by (Some n) = sym (ap (λ (b : Bool). if b then Some n else None) (le-ltb n 0 (omega arith)))
position_taken p (suc k) [] = refl
position_taken p (suc k) (x ∷ xs) =
    position_cons p x (take k xs)
    ∙ ap (λ o. cond (p x) (Some 0) (option_map suc o)) (position_taken p k xs)
    ∙ by (p x) (position p xs)
    ∙ ap (option_and_then (below (suc k))) (sym (position_cons p x xs))
  where
    by : (b : Bool) (o : Option ℕ) → cond b (Some 0) (option_map suc (option_and_then (below k) o)) ≡ option_and_then (below (suc k)) (cond b (Some 0) (option_map suc o))
    by true o = sym (ap (λ (c : Bool). if c then Some 0 else None) (lt-ltb 0 (suc k) (omega arith)))
    by false None = refl
    by false (Some n) = below_suc k n

if_some : (F : ℕ → Option Fact) (U : ℕ → Option ℕ) (c : Bool) (n : ℕ) → option_map F (option_and_then U (if c then Some n else None)) ≡ (if c then option_map F (U n) else None)
if_some F U true n = refl
if_some F U false n = refl

-- What is so of the numbers of names is so of names. The names before are the first of those after.
module _ (both : Compared) (s t : Namespace) (b a : List (List ℕ)) (count : both.before.names ≡ length b) (count-2 : both.after.names ≡ length a) (first : take (length b) a ≡ b)
    (same : (n : ℕ) → n < both.after.names → same_under both s t n ≡ true) (name : List ℕ) where
  abbrev F : ℕ → Option Fact
  F = fact_at both.before.links.now.outlines

  abbrev G : ℕ → Option Fact
  G = fact_at both.after.links.now.outlines

  abbrev U : ℕ → Option ℕ
  U = number_under both.before.first.now s

  abbrev V : ℕ → Option ℕ
  V = number_under both.after.first.now t

  at : (o : Option ℕ) → position (bytes_eq name) a ≡ o → same_meaning (option_map F (option_and_then U (option_and_then (below (length b)) o))) (option_map G (option_and_then V o)) ≡ true
  at None h = refl
  at (Some n) h =
      let inside : n < length a = (position-Some (bytes_eq name) a n [] h).0 in
      let inside-2 : n < both.after.names = omega (arith, inside, count-2) in
      ap₂ same_meaning
      (if_some F U (nat_lt n (length b)) n ∙ ap (λ (k : ℕ). if nat_lt n k then option_map F (U n) else None) (sym count))
      (sym (ap (λ (c : Bool). if c then option_map G (V n) else None) (lt-ltb n both.after.names inside-2)))
      ∙ same n inside-2

  pub names_alike : same_meaning (option_map F (number_by b both.before.first.now s name)) (option_map G (number_by a both.after.first.now t name)) ≡ true
  names_alike =
      ap (λ (o : Option ℕ). same_meaning (option_map F (option_and_then U o)) (option_map G (number_by a both.after.first.now t name)))
      (ap (position (bytes_eq name)) (sym first) ∙ position_taken (bytes_eq name) (length b) a)
      ∙ at (position (bytes_eq name) a) refl

-- ---- state sets

-- What is so of each key is so of one that something is under.
at_key : (P : QualifiedName → Type 0) (first : FirstNumbers) (s : Namespace) (n m : ℕ) → is_program s ≡ false → number_under first s n ≡ Some m
    → Each P (map (λ e. e.0) first.elsewhere) → P (record { namespace = s; name = n })
at_key P first s n m elsewhere h each =
    let es : List (QualifiedName × ℕ) = first.elsewhere in
    let q : QualifiedName = record { namespace = s; name = n } in
    let seen : lookup (same_key q) es ≡ Some m = sym (ap (λ (c : Bool). if c then (name_head first.heads.items n).in_program else lookup (same_key q) es) elsewhere) ∙ h in
    let at = place_from_lookup (same_key q) es m seen in
    let got : slice_get (map (λ e. e.0) es) at.0 ≡ Some at.1 = slice_get-map (λ (e : QualifiedName × ℕ). e.0) es at.0 ∙ ap (option_map (λ (e : QualifiedName × ℕ). e.0)) at.2 in
    let same : q ≡ at.1 = λ e. record { namespace = (key_true q at.1 at.3).0 e; name = (key_true q at.1 at.3).1 e } in
    subst P (sym same) (each_got P (map (λ e. e.0) es) at.0 at.1 each got)

-- The namespaces of one kind of state sets that are marked.
module _ (S : ℕ → Namespace) (of_set : (k : ℕ) → set_in (S k) ≡ Some k) (other : (k n : ℕ) → with_set (S k) n ≡ S n) (elsewhere : (k : ℕ) → is_program (S k) ≡ false)
    (both : Compared) (moved : Moved) (marks : List Bool) (k : ℕ) (back : number_before moved (number_after moved k) ≡ k) (marked : get_or marks (number_after moved k) false ≡ true)
    (old : Each (IsPaired both moved side.Before marks) (map (λ e. e.0) both.before.first.now.elsewhere))
    (new : Each (IsPaired both moved side.After marks) (map (λ e. e.0) both.after.first.now.elsewhere))
    (n : ℕ) where
  abbrev t : ℕ
  t = number_after moved k

  by_old : (m : ℕ) → number_under both.before.first.now (S k) n ≡ Some m → same_under both (S k) (S t) n ≡ true
  by_old m h =
      let q : QualifiedName = record { namespace = S k; name = n } in
      let is : IsPaired both moved side.Before marks q = at_key (IsPaired both moved side.Before marks) both.before.first.now (S k) n m (elsewhere k) h old in
      ap (λ (x : Namespace). same_under both (S k) x n) (sym (other k t))
      ∙ is (pair_of moved side.Before (S k) k) (ap (option_map (pair_of moved side.Before (S k))) (of_set k)) marked

  by_new : (m : ℕ) → number_under both.after.first.now (S t) n ≡ Some m → same_under both (S k) (S t) n ≡ true
  by_new m h =
      let q : QualifiedName = record { namespace = S t; name = n } in
      let is : IsPaired both moved side.After marks q = at_key (IsPaired both moved side.After marks) both.after.first.now (S t) n m (elsewhere t) h new in
      ap (λ (x : Namespace). same_under both x (S t) n) (sym (other t (number_before moved t) ∙ ap S back))
      ∙ is (pair_of moved side.After (S t) t) (ap (option_map (pair_of moved side.After (S t))) (of_set t)) marked

  nothing : (f : ℕ → Option Fact) (c : Bool) → (if c then option_map f None else None) ≡ None
  nothing f true = refl
  nothing f false = refl

  pub set_alike : same_under both (S k) (S t) n ≡ true
  set_alike = by (number_under both.before.first.now (S k) n) refl (number_under both.after.first.now (S t) n) refl
    where
      by : (o : Option ℕ) → number_under both.before.first.now (S k) n ≡ o → (p : Option ℕ) → number_under both.after.first.now (S t) n ≡ p → same_under both (S k) (S t) n ≡ true
      by (Some m) h p g = by_old m h
      by None h (Some m) g = by_new m g
      by None h None g =
          ap₂ same_meaning
          (ap (λ (o : Option ℕ). if nat_lt n both.before.names then option_map (fact_at both.before.links.now.outlines) o else None) h ∙ nothing (fact_at both.before.links.now.outlines) (nat_lt n both.before.names))
          (ap (λ (o : Option ℕ). if nat_lt n both.after.names then option_map (fact_at both.after.links.now.outlines) o else None) g ∙ nothing (fact_at both.after.links.now.outlines) (nat_lt n both.after.names))

-- What is so of a key stays where fewer sets are marked.
pub still_paired : (both : Compared) (moved : Moved) (v : Side) (old new : List Bool) → Unmarks old new → (q : QualifiedName) → IsPaired both moved v old q → IsPaired both moved v new q
still_paired both moved v old new fewer q is p pair marked = is p pair (fewer p.set marked)

-- ---- all of it

module _ (both : Compared) (b a : List (List ℕ)) (by_names : ByNames both b a) (s t : Namespace) where
  pub means_the_same : ((n : ℕ) → n < both.after.names → same_under both s t n ≡ true) → MeansTheSame both.before.links.now.outlines s both.after.links.now.outlines t
  means_the_same same name =
      ap₂ (λ (o p : Option ℕ). same_meaning (option_map (fact_at both.before.links.now.outlines) o) (option_map (fact_at both.after.links.now.outlines) p))
      (sym (by_names.found s name)) (sym (by_names.found_after t name))
      ∙ names_alike both s t b a by_names.count by_names.count_after by_names.first same name
