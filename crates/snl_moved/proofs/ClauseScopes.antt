-- In which scopes the variables of clauses are: a clause means what the scopes around its item
-- declare, and what that item declares in its own. So no clause of another item speaks of what a
-- state declares.
use Rattle.std.proofs.Common.{◌≡◌, ◌⊎◌, ℕ, zero, suc, Bool, true, false, cond, List, [], ◌∷◌, map, length, slice_get, position, Option, Some, None, IfSome, inl, inr, refl, sym, subst, ap, ◌∙◌}
use Rattle.std.specs.List.{AllByRecursion, zip}
use Rattle.std.specs.Option.{option_and_then, option_map, option_map_or, option_or}
use Rattle.std.proofs.lemmas.Bool.{eqb-true, false≢true}
use Rattle.snl_facts.specs.Booleans.{and_first}
use Rattle.snl_facts.specs.Each.{each_append, each_by, each_map, each_weaker}
use Rattle.snl_facts.specs.Positions.{position_cons}
use Rattle.snl_scope.specs.declared.facts.ClauseLink.{ClauseLink}
use Rattle.snl_scope.specs.declared.facts.Declaration.{Declaration}
use Rattle.snl_scope.specs.declared.facts.Scope.{Scope}
use Rattle.snl_scope.specs.declared.facts.Scope.TheVariants as scope
use Rattle.snl_scope.specs.declared.names.namespaces.Namespace.{Namespace}
use Rattle.snl_scope.specs.declared.names.namespaces.Namespace.TheVariants as namespace
use Rattle.snl_summary.specs.declared.summary.Outline.{Outline}
use Rattle.snl_summary.specs.declared.summary.Variable.{Variable}
use Rattle.snl_summary.specs.declared.summary.VariableClause.{VariableClause}
use Rattle.snl_scope.specs.Clauses.{LinkedClause, clause_link, clause_links, clauses_before, clauses_of, linked_clause, soundness}
use Rattle.snl_scope.specs.Linked.{declaration_at, entry_declaration, scope_in, variable_declaration}
use Rattle.snl_scope.specs.Names.{Entry, entries, has_name, number_in, resolve, same_namespace}
use Rattle.snl_scope.specs.Places.{enclosing_set, is_set_begin}
use Rattle.snl_check.specs.Clauses.{ItemClause, item_clauses, resolved_clauses}
use Rattle.snl_item_check.specs.Items.{ProgramItem}
use Rattle.snl_moved.proofs.SpanLaws.{each_beside, place_begins}

-- ---- what a search finds passes

found_passes : {X : Type 0} (p : X → Bool) (xs : List X) (n : ℕ) → position p xs ≡ Some n → IfSome (slice_get xs n) (λ x. p x ≡ true)
found_passes p [] n h = tt
found_passes p (x ∷ xs) n h = by (p x) refl n (found_passes p xs) (sym (position_cons p x xs) ∙ h)
  where
    Rest : Type 0
    Rest = (m : ℕ) → position p xs ≡ Some m → IfSome (slice_get xs m) (λ y. p y ≡ true)

    later : (o : Option ℕ) → position p xs ≡ o → Rest → (n : ℕ) → option_map suc o ≡ Some n → IfSome (slice_get (x ∷ xs) n) (λ y. p y ≡ true)
    later None e rest n h = absurd cc
    later (Some k) e rest zero h = absurd cc
    later (Some k) e rest (suc n) h = let same : k ≡ n = cc in rest n (e ∙ ap Some same)

    by : (b : Bool) → p x ≡ b → (n : ℕ) → Rest → cond b (Some 0) (option_map suc (position p xs)) ≡ Some n → IfSome (slice_get (x ∷ xs) n) (λ y. p y ≡ true)
    by true e zero rest h = e
    by true e (suc n) rest h = absurd cc
    by false e n rest h = later (position p xs) refl rest n h

pub each_second : {X Y : Type 0} (P : Y → Type 0) (xs : List X) (ys : List Y) → AllByRecursion P ys → AllByRecursion (λ (p : X × Y). P p.1) (zip xs ys)
each_second P [] ys h = tt
each_second P (x ∷ xs) [] h = tt
each_second P (x ∷ xs) (y ∷ ys) h = (h.0, each_second P xs ys h.1)

-- ---- what holds of the scopes that an item sees

module _ (ss : List Outline) (P : Scope → Type 0) (program : P scope.Program) (sets : (k : ℕ) → is_set_begin ss k ≡ true → P (scope.StateSet k)) where
  -- holds of the scope of the declaration with a number, if there is one
  abbrev pub IsMeant : Option ℕ → Type 0
  IsMeant o = IfSome o (λ number. (d : Declaration) → declaration_at ss number ≡ Some d → P d.scope)

  same_scope : (a b : Namespace) → same_namespace a b ≡ true → IfSome (scope_in a) P → IfSome (scope_in b) P
  same_scope namespace.Program namespace.Program e h = h
  same_scope (namespace.StateSet a) (namespace.StateSet b) e h = subst (λ (n : ℕ). P (scope.StateSet n)) (eqb-true a b e) h
  same_scope (namespace.State a) (namespace.State b) e h = subst (λ (n : ℕ). P (scope.State n)) (eqb-true a b e) h
  same_scope namespace.Sets namespace.Sets e h = tt
  same_scope (namespace.States a) (namespace.States b) e h = tt
  same_scope a b e h = absurd (false≢true e)

  entry_in : (e : Entry) → IfSome (scope_in e.namespace) P → (d : Declaration) → entry_declaration e ≡ Some d → P d.scope
  entry_in e h d at = by e.variable (scope_in e.namespace) h at
    where
      by : (v : Option Variable) (c : Option Scope) → IfSome c P → option_and_then (λ v. option_map (λ c. variable_declaration e.item e.token c v) c) v ≡ Some d → P d.scope
      by None c h at = absurd cc
      by (Some v) None h at = absurd cc
      by (Some v) (Some c) h at = let same : variable_declaration e.item e.token c v ≡ d = cc in subst (λ (d : Declaration). P d.scope) same h

  named_in : (s : Namespace) → IfSome (scope_in s) P → (name : List ℕ) → IsMeant (number_in (entries ss) s name)
  named_in s h name = by (number_in (entries ss) s name) refl
    where
      there : (o : Option Entry) → IfSome o (λ e. has_name s name e ≡ true) → (d : Declaration) → option_and_then entry_declaration o ≡ Some d → P d.scope
      there None passes d at = absurd cc
      there (Some e) passes d at = entry_in e (same_scope s e.namespace (and_first (same_namespace s e.namespace) _ passes) h) d at

      by : (o : Option ℕ) → number_in (entries ss) s name ≡ o → IsMeant o
      by None e = tt
      by (Some n) e = there (slice_get (entries ss) n) (found_passes (has_name s name) (entries ss) n e)

  either_meant : (a b : Option ℕ) → IsMeant a → IsMeant b → IsMeant (option_or a b)
  either_meant None b ha hb = hb
  either_meant (Some n) b ha hb = ha

  resolved_around : (i : ℕ) (name : List ℕ) → IsMeant (resolve (entries ss) (enclosing_set ss i) name)
  resolved_around i name = by (enclosing_set ss i) refl
    where
      by : (p : Option ℕ) → enclosing_set ss i ≡ p → IsMeant (resolve (entries ss) p name)
      by None e = named_in namespace.Program program name
      by (Some k) e =
          either_meant (number_in (entries ss) (namespace.StateSet k) name) (number_in (entries ss) namespace.Program name)
          (named_in (namespace.StateSet k) (sets k (place_begins ss i k e)) name) (named_in namespace.Program program name)

  -- an item that has clauses may have a scope of its own
  module _ (own : (i : ℕ) (o : Outline) → slice_get ss i ≡ Some o → (o.clauses ≡ []) ⊎ P (scope.State i)) where
    clause_meant : (i : ℕ) → P (scope.State i) → (c : VariableClause) → IsMeant (linked_clause ss i c).variable
    clause_meant i h c =
        either_meant (number_in (entries ss) (namespace.State i) c.variable.name) (resolve (entries ss) (enclosing_set ss i) c.variable.name)
        (named_in (namespace.State i) h c.variable.name) (resolved_around i c.variable.name)

    clauses_meant : (n : ℕ) → AllByRecursion (λ (c : LinkedClause). IsMeant c.variable) (clauses_before ss n)
    clauses_meant zero = tt
    clauses_meant (suc n) =
        each_append (λ (c : LinkedClause). IsMeant c.variable) (clauses_before ss n) (option_map_or (λ s. map (linked_clause ss n) s.clauses) (slice_get ss n) []) (clauses_meant n) (by (slice_get ss n) refl)
      where
        by : (o : Option Outline) → slice_get ss n ≡ o → AllByRecursion (λ (c : LinkedClause). IsMeant c.variable) (option_map_or (λ s. map (linked_clause ss n) s.clauses) o [])
        by None e = tt
        by (Some s) e = elim (own n s e) [
          | inl none ↦ subst (λ (cs : List VariableClause). AllByRecursion (λ (c : LinkedClause). IsMeant c.variable) (map (linked_clause ss n) cs)) (sym none) tt
          | inr h ↦
              each_map (λ (c : LinkedClause). IsMeant c.variable) (linked_clause ss n) s.clauses
              (each_by (λ (c : VariableClause). IsMeant (linked_clause ss n c).variable) (clause_meant n h) s.clauses)
        ]

    links_meant : AllByRecursion (λ (l : ClauseLink). IsMeant l.variable) (clause_links ss)
    links_meant =
        each_map (λ (l : ClauseLink). IsMeant l.variable) (λ (p : LinkedClause × Bool). clause_link p.0 p.1) (zip (clauses_of ss) (soundness ss))
        (each_weaker (λ (p : LinkedClause × Bool). IsMeant p.0.variable) (λ (p : LinkedClause × Bool). IsMeant (clause_link p.0 p.1).variable) (λ p h. h) (zip (clauses_of ss) (soundness ss))
        (each_beside (λ (c : LinkedClause). IsMeant c.variable) (clauses_of ss) (soundness ss) (clauses_meant (length ss))))

    pub resolved_meant : (xs : List ProgramItem) → AllByRecursion (λ (p : ItemClause × ClauseLink). IsMeant p.1.variable) (resolved_clauses xs ss)
    resolved_meant xs = each_second (λ (l : ClauseLink). IsMeant l.variable) (item_clauses xs) (clause_links ss) links_meant
