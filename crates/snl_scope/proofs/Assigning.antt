-- Lemmas on what declarations are assigned to: what one more clause is to the table that follows
-- them.
use Rattle.std.proofs.Common.{◌≡◌, ℕ, Bool, true, false, ◌&&◌, ◌||◌, cond, List, [], ◌∷◌, ◌++◌, nat_eq, Option, None, Some, is_none, is_some, refl, sym, ap, ◌∙◌, true≢false, if◌then◌else◌}
use Rattle.std.proofs.lemmas.Bool.Decides.{Decides-eqb}
use Rattle.std.specs.List.{list_any}
use Rattle.std.specs.Option.{option_or, unwrap_or}
use Rattle.std.proofs.lemmas.Bool.{and_parts}
use Rattle.snl_scope.specs.declared.facts.Assigned.{Assigned}
use Rattle.snl_scope.specs.declared.facts.Assigned.TheVariants.{Unassigned}
use Rattle.snl_scope.specs.ByNumber.{at_number}
use Rattle.snl_scope.specs.Clauses.{LinkedClause, assigned_as, assigned_by, assigns, is_assign, same_number}
use Rattle.snl_scope.specs.Resolved.{Assigns, first_assign}

abbrev assigned_if : Bool → LinkedClause → Option Assigned
assigned_if b c = if b then Some (assigned_as c.clause.coverage) else None

first_assign-push : (cs : List LinkedClause) (c : LinkedClause) (n : ℕ) → first_assign (cs ++ c ∷ []) n ≡ option_or (first_assign cs n) (assigned_if (assigns (Some n) c) c)
first_assign-push [] c n = refl
first_assign-push (d ∷ ds) c n = by (assigns (Some n) d) (first_assign-push ds c n)
  where
    by : (b : Bool) → first_assign (ds ++ c ∷ []) n ≡ option_or (first_assign ds n) (assigned_if (assigns (Some n) c) c)
        → (if b then Some (assigned_as d.clause.coverage) else first_assign (ds ++ c ∷ []) n)
        ≡ option_or (if b then Some (assigned_as d.clause.coverage) else first_assign ds n) (assigned_if (assigns (Some n) c) c)
    by true h = refl
    by false h = h

-- what the table tells of a declaration
pub assigned-first : (cs : List LinkedClause) (n : ℕ) → unwrap_or (first_assign cs n) Unassigned ≡ assigned_by cs n
assigned-first [] n = refl
assigned-first (c ∷ cs) n = by (assigns (Some n) c) (assigned-first cs n)
  where
    by : (b : Bool) → unwrap_or (first_assign cs n) Unassigned ≡ assigned_by cs n
        → unwrap_or (if b then Some (assigned_as c.clause.coverage) else first_assign cs n) Unassigned ≡ (if b then assigned_as c.clause.coverage else assigned_by cs n)
    by true h = refl
    by false h = h

pub assigns-first : (cs : List LinkedClause) (n : ℕ) → is_some (first_assign cs n) ≡ list_any (assigns (Some n)) cs
assigns-first [] n = refl
assigns-first (c ∷ cs) n = by (assigns (Some n) c) (assigns-first cs n)
  where
    by : (b : Bool) → is_some (first_assign cs n) ≡ list_any (assigns (Some n)) cs
        → is_some (if b then Some (assigned_as c.clause.coverage) else first_assign cs n) ≡ (b || list_any (assigns (Some n)) cs)
    by true h = refl
    by false h = h

assigns-kind : (c : LinkedClause) (q : ℕ) → assigns (Some q) c ≡ true → is_assign c.clause.kind ≡ true
assigns-kind c q h = (and_parts (is_assign c.clause.kind) (same_number (Some q) c.variable) h).0

numbers : (a b : Option ℕ) (q v : ℕ) → a ≡ Some q → b ≡ Some v → same_number a b ≡ true → q ≡ v
numbers a b q v g h s = (Decides-eqb q v).0 (ap (λ x. same_number x (Some v)) (sym g) ∙ ap (λ y. same_number a y) (sym h) ∙ s)

assigns-number : (c : LinkedClause) (q v : ℕ) → c.variable ≡ Some v → assigns (Some q) c ≡ true → q ≡ v
assigns-number c q v is h = numbers (Some q) c.variable q v refl is (and_parts (is_assign c.clause.kind) (same_number (Some q) c.variable) h).1

-- the table stays where each declaration that the clause assigns is in it
stays : (held : List (Option Assigned)) (cs : List LinkedClause) (c : LinkedClause) → Assigns held cs
    → ((q : ℕ) → assigns (Some q) c ≡ true → is_some (first_assign cs q) ≡ true) → Assigns held (cs ++ c ∷ [])
stays held cs c f known = record { each = λ q. f.each q ∙ sym (first_assign-push cs c q ∙ by q (assigns (Some q) c) (first_assign cs q) (known q)) }
  where
    by : (q : ℕ) (b : Bool) (o : Option Assigned) → (b ≡ true → is_some o ≡ true) → option_or o (assigned_if b c) ≡ o
    by q b (Some x) h = refl
    by q true None h = absurd (true≢false (sym (h refl)))
    by q false None h = refl

pub no_variable : (held : List (Option Assigned)) (cs : List LinkedClause) (c : LinkedClause) → Assigns held cs → c.variable ≡ None → Assigns held (cs ++ c ∷ [])
no_variable held cs c f h =
    stays held cs c f (λ q t.
    absurd (true≢false (sym (and_parts (is_assign c.clause.kind) (same_number (Some q) c.variable) t).1 ∙ ap (λ o. same_number (Some q) o) h)))

-- the clause assigns nothing, or something that the table tells of
pub not_first : (held : List (Option Assigned)) (cs : List LinkedClause) (c : LinkedClause) (v : ℕ) → Assigns held cs → c.variable ≡ Some v
    → (is_assign c.clause.kind && is_none (at_number held v)) ≡ false → Assigns held (cs ++ c ∷ [])
not_first held cs c v f is h =
    stays held cs c f (λ q t.
    there (is_assign c.clause.kind) (at_number held v) (assigns-kind c q t) h (f.each v ∙ ap (first_assign cs) (sym (assigns-number c q v is t))))
  where
    there : (b : Bool) (o : Option Assigned) {p : Option Assigned} → b ≡ true → (b && is_none o) ≡ false → o ≡ p → is_some p ≡ true
    there true (Some x) g n e = ap is_some (sym e)
    there true None g n e = absurd (true≢false n)
    there false o g n e = absurd (true≢false (sym g))

-- the clause is the first that assigns its variable
pub assigned_now : (held held' : List (Option Assigned)) (cs : List LinkedClause) (c : LinkedClause) (v : ℕ) → Assigns held cs → c.variable ≡ Some v
    → (is_assign c.clause.kind && is_none (at_number held v)) ≡ true
    → ((q : ℕ) → at_number held' q ≡ cond (nat_eq v q) (Some (assigned_as c.clause.coverage)) (at_number held q)) → Assigns held' (cs ++ c ∷ [])
assigned_now held held' cs c v f is first put = record { each = λ q. put q ∙ by q (nat_eq v q) refl ∙ sym (first_assign-push cs c q) }
  where
    kind : is_assign c.clause.kind ≡ true
    kind = (and_parts (is_assign c.clause.kind) (is_none (at_number held v)) first).0

    missing : (o : Option Assigned) → is_none o ≡ true → is_some o ≡ false
    missing None h = refl
    missing (Some x) h = absurd (true≢false (sym h))

    absent : is_some (at_number held v) ≡ false
    absent = missing (at_number held v) (and_parts (is_assign c.clause.kind) (is_none (at_number held v)) first).1

    test : (q : ℕ) → assigns (Some q) c ≡ nat_eq q v
    test q = ap (λ b. b && same_number (Some q) c.variable) kind ∙ ap (λ o. same_number (Some q) o) is

    none : (o : Option Assigned) (p : Option Assigned) → is_some o ≡ false → option_or o p ≡ p
    none None p h = refl
    none (Some x) p h = absurd (true≢false h)

    or-nothing : (o : Option Assigned) → option_or o None ≡ o
    or-nothing None = refl
    or-nothing (Some x) = refl

    other : (q : ℕ) (b : Bool) → nat_eq q v ≡ b → nat_eq v q ≡ false → at_number held q ≡ option_or (first_assign cs q) (assigned_if b c)
    other q true g h = absurd (true≢false (sym ((Decides-eqb v q).1 (sym ((Decides-eqb q v).0 g))) ∙ h))
    other q false g h = f.each q ∙ sym (or-nothing (first_assign cs q))

    by : (q : ℕ) (b : Bool) → nat_eq v q ≡ b → cond (nat_eq v q) (Some (assigned_as c.clause.coverage)) (at_number held q) ≡ option_or (first_assign cs q) (assigned_if (assigns (Some q) c) c)
    by q true h =
        let same : v ≡ q = (Decides-eqb v q).0 h in
        let gone : is_some (first_assign cs q) ≡ false = ap (λ n. is_some (first_assign cs n)) (sym same) ∙ ap is_some (sym (f.each v)) ∙ absent in
        ap (λ b. cond b (Some (assigned_as c.clause.coverage)) (at_number held q)) h
        ∙ sym (none (first_assign cs q) (assigned_if (assigns (Some q) c) c) gone ∙ ap (λ b. assigned_if b c) (test q ∙ (Decides-eqb q v).1 (sym same)))
    by q false h =
        ap (λ b. cond b (Some (assigned_as c.clause.coverage)) (at_number held q)) h
        ∙ other q (nat_eq q v) refl h ∙ ap (λ b. option_or (first_assign cs q) (assigned_if b c)) (sym (test q))
