-- What the first declaration of a name in its scope is to its own item.
use Rattle.std.proofs.Common.{◌≡◌, ℕ, zero, suc, ◌<◌, ◌≤◌, Bool, true, false, ◌&&◌, cond, List, [], ◌∷◌, ◌++◌, length, map, get_or, slice_get, Option, None, Some, option_map, inl, inr, refl, ap, sym, ◌∙◌, arith}
use Rattle.std.specs.Prelude.{if◌then◌else◌}
use Rattle.std.specs.List.{find, position}
use Rattle.std.specs.Option.{option_map_or, option_or, option_to_list}
use Rattle.std.specs.Str.{bytes_eq}
use Rattle.std.proofs.lemmas.Bool.{cases_lt, eqb-true, ne_eqb}
use Rattle.std.proofs.lemmas.List.Folds.{find-append}
use Rattle.std.proofs.lemmas.List.Quantifiers.{position-Some}
use Rattle.std.proofs.lemmas.Option.{same_Some, slice_get-get_or}
use Rattle.snl_facts.specs.Booleans.{and_first}
use Rattle.snl_facts.specs.Each.{each_got}
use Rattle.snl_facts.specs.Positions.{position_cons}
use Rattle.snl_codes.specs.declared.code.Code.TheVariants.{E08, E09}
use Rattle.snl_summary.specs.declared.summary.Declared.{Declared}
use Rattle.snl_summary.specs.declared.summary.Outline.{Outline}
use Rattle.snl_scope.specs.declared.names.namespaces.Namespace.{Namespace}
use Rattle.snl_scope.specs.declared.names.namespaces.Namespace.TheVariants as namespace
use Rattle.snl_scope.specs.Clauses.{resolve_in}
use Rattle.snl_scope.specs.Names.{Entry, declared_entry, entries, entries_before, entries_of, has_name, has_own_scope, named_entry, number_in, resolve, same_namespace, scope_at, scope_of, set_entries, set_name, state_entries}
use Rattle.snl_scope.specs.Order.{state_name}
use Rattle.snl_scope.specs.Places.{enclosing_set}
use Rattle.snl_outline_laws.proofs.Origins.{HasOrigin, Origin, all_originate}

-- ---- searches

pub found_by_place : {X : Type 0} (p : X → Bool) (xs : List X) (k : ℕ) (x : X) →
    position p xs ≡ Some k → slice_get xs k ≡ Some x → find p xs ≡ Some x
found_by_place p [] k x h at = absurd cc
found_by_place {X} p (y ∷ ys) k x h at =
    by (p y) (λ (m : ℕ). found_by_place p ys m x) k (sym (position_cons p y ys) ∙ h) at
  where
    Rest : Type 0
    Rest = (m : ℕ) → position p ys ≡ Some m → slice_get ys m ≡ Some x → find p ys ≡ Some x

    later : (o : Option ℕ) → position p ys ≡ o → Rest → (k : ℕ) → option_map suc o ≡ Some k →
        slice_get (y ∷ ys) k ≡ Some x → find p ys ≡ Some x
    later None e rest k h at = absurd cc
    later (Some m) e rest zero h at = absurd cc
    later (Some m) e rest (suc k) h at =
        let same : m ≡ k = cc in rest k (e ∙ ap (λ (n : ℕ). Some n) same) at

    by : (b : Bool) → Rest → (k : ℕ) →
        cond b (Some 0) (option_map suc (position p ys)) ≡ Some k →
        slice_get (y ∷ ys) k ≡ Some x → cond b (Some y) (find p ys) ≡ Some x
    by true rest zero h at = at
    by true rest (suc k) h at = absurd cc
    by false rest k h at = later (position p ys) refl rest k h at

none_found : {X : Type 0} (p : X → Bool) (f : List ℕ → X) (xs : List (List ℕ)) →
    ((x : List ℕ) → p (f x) ≡ false) → find p (map f xs) ≡ None
none_found p f [] h = refl
none_found {X} p f (x ∷ xs) h =
    ap (λ (b : Bool). cond b (Some (f x)) (find p (map f xs))) (h x) ∙ none_found p f xs h

-- ---- the scope of an item

module _ (ss : List Outline) where
  -- what is in a scope of a state's own is of that state
  own_state : (i : ℕ) (e : Entry) → HasOrigin ss e →
      same_namespace (namespace.State i) e.namespace ≡ true →
      (s : Outline) → slice_get ss i ≡ Some s → has_own_scope s.role ≡ true
  own_state i e (inl name) same s at = absurd (grind (arith, name.apart i, same))
  own_state i e (inr origin) same s at =
      by (has_own_scope origin.outline.role) refl (sym (ap (λ (x : Entry).
      same_namespace (namespace.State i) x.namespace) origin.is) ∙ same)
    where
      around : (set : Option ℕ) →
          same_namespace (namespace.State i) (scope_at set) ≡ true → ⊥
      around None h = cc
      around (Some k) h = cc

      by : (b : Bool) → has_own_scope origin.outline.role ≡ b →
          same_namespace (namespace.State i)
          (if b then namespace.State e.item else scope_at (enclosing_set ss e.item)) ≡ true →
          has_own_scope s.role ≡ true
      by false own h = absurd (around (enclosing_set ss e.item) h)
      by true own h =
          let place : i ≡ e.item = eqb-true i e.item h in
          let same : origin.outline ≡ s =
          same_Some origin.outline s (sym origin.at ∙ sym (ap (slice_get ss) place) ∙ at) in
          ap (λ (x : Outline). has_own_scope x.role) (sym same) ∙ own

  none_of_state : (i : ℕ) (name : List ℕ) (s : Outline) → slice_get ss i ≡ Some s →
      has_own_scope s.role ≡ false → number_in (entries ss) (namespace.State i) name ≡ None
  none_of_state i name s at out = by (number_in (entries ss) (namespace.State i) name) refl
    where
      P : Entry → Bool
      P = has_name (namespace.State i) name

      by : (o : Option ℕ) → number_in (entries ss) (namespace.State i) name ≡ o →
          number_in (entries ss) (namespace.State i) name ≡ None
      by None e = e
      by (Some k) e = absurd (hit e)
        where
          hit : number_in (entries ss) (namespace.State i) name ≡ Some k → ⊥
          hit e =
              let none : Entry = record {
                namespace = namespace.Program;
                name = [];
                item = 0;
                token = 0;
                code = None;
                variable = None;
              } in
              let found = position-Some P (entries ss) k none e in
              let x : Entry = get_or (entries ss) k none in
              let there : slice_get (entries ss) k ≡ Some x =
              slice_get-get_or (entries ss) k none found.0 in
              let own = own_state i x (each_got (HasOrigin ss) (entries ss) k x (all_originate ss) there)
              (and_first (same_namespace (namespace.State i) x.namespace) (bytes_eq name x.name)
              found.1) s at in
              grind (arith, own, out)

  -- its name means it, outside the blocks of its item
  pub first_resolves : (number : ℕ) (e : Entry) → Origin ss e →
      number_in (entries ss) e.namespace e.name ≡ Some number →
      resolve_in ss e.item e.name ≡ Some number
  first_resolves number e origin first =
      by (has_own_scope origin.outline.role) refl
      (ap (λ (x : Entry). x.namespace) origin.is)
    where
      outside : Option ℕ
      outside = resolve (entries ss) (enclosing_set ss e.item) e.name

      around : (set : Option ℕ) → e.namespace ≡ scope_at set →
          resolve (entries ss) set e.name ≡ Some number
      around None is =
          sym (ap (λ (ns : Namespace). number_in (entries ss) ns e.name) is) ∙ first
      around (Some k) is =
          ap (λ (o : Option ℕ). option_or o (number_in (entries ss) namespace.Program e.name))
          (sym (ap (λ (ns : Namespace). number_in (entries ss) ns e.name) is) ∙ first)

      by : (b : Bool) → has_own_scope origin.outline.role ≡ b →
          e.namespace ≡ (if b then namespace.State e.item else scope_at (enclosing_set ss e.item)) →
          resolve_in ss e.item e.name ≡ Some number
      by true own is =
          ap (λ (o : Option ℕ). option_or o outside)
          (sym (ap (λ (ns : Namespace). number_in (entries ss) ns e.name) is) ∙ first)
      by false own is =
          ap (λ (o : Option ℕ). option_or o outside)
          (none_of_state e.item e.name origin.outline origin.at own)
          ∙ around (enclosing_set ss e.item) is

  -- ---- the first of a name in a state

  module _ (i : ℕ) (name : List ℕ) where
    abbrev P : Entry → Bool
    P = has_name (namespace.State i) name

    states_missed : (set : Option ℕ) (j : ℕ) (s : Outline) →
        find P (state_entries set j s) ≡ None
    states_missed None j s = refl
    states_missed (Some k) j s =
        none_found P (named_entry (namespace.States k) j (Some E09)) (option_to_list (state_name s))
        (λ x. refl)

    named_missed : (j : ℕ) (s : Outline) →
        find P (set_entries j s ++ state_entries (enclosing_set ss j) j s) ≡ None
    named_missed j s =
        find-append P (set_entries j s) (state_entries (enclosing_set ss j) j s)
        ∙ ap (λ (o : Option Entry). option_or o (find P (state_entries (enclosing_set ss j) j s)))
        (none_found P (named_entry namespace.Sets j (Some E08)) (option_to_list (set_name s))
        (λ x. refl))
        ∙ states_missed (enclosing_set ss j) j s

    -- among the entries of an item
    in_item : (j : ℕ) (s : Outline) →
        find P (entries_of ss j s) ≡ find P (map (declared_entry (scope_of ss j s) j) s.declares)
    in_item j s =
        find-append P (set_entries j s ++ state_entries (enclosing_set ss j) j s)
        (map (declared_entry (scope_of ss j s) j) s.declares)
        ∙ ap (λ (o : Option Entry).
        option_or o (find P (map (declared_entry (scope_of ss j s) j) s.declares)))
        (named_missed j s)

    declared_missed : (ns : Namespace) → same_namespace (namespace.State i) ns ≡ false →
        (j : ℕ) (ds : List Declared) → find P (map (declared_entry ns j) ds) ≡ None
    declared_missed ns out j [] = refl
    declared_missed ns out j (d ∷ ds) =
        ap (λ (b : Bool). cond (b && bytes_eq name d.name) (Some (declared_entry ns j d))
        (find P (map (declared_entry ns j) ds))) out
        ∙ declared_missed ns out j ds

    other_scope : (j : ℕ) (s : Outline) → (i ≡ j → ⊥) →
        same_namespace (namespace.State i) (scope_of ss j s) ≡ false
    other_scope j s other = by (has_own_scope s.role) (enclosing_set ss j)
      where
        by : (b : Bool) (set : Option ℕ) → same_namespace (namespace.State i)
            (if b then namespace.State j else scope_at set) ≡ false
        by true set = ne_eqb i j other
        by false None = refl
        by false (Some k) = refl

    abbrev at_item : ℕ → List Entry
    at_item j = option_map_or (entries_of ss j) (slice_get ss j) []

    other_missed : (j : ℕ) → (i ≡ j → ⊥) → find P (at_item j) ≡ None
    other_missed j other = by (slice_get ss j)
      where
        by : (o : Option Outline) → find P (option_map_or (entries_of ss j) o []) ≡ None
        by None = refl
        by (Some s) =
            in_item j s ∙ declared_missed (scope_of ss j s) (other_scope j s other) j s.declares

    missed_before : (m : ℕ) → m ≤ i → find P (entries_before ss m) ≡ None
    missed_before zero few = refl
    missed_before (suc m) few =
        find-append P (entries_before ss m) (at_item m)
        ∙ ap (λ (o : Option Entry). option_or o (find P (at_item m)))
        (missed_before m (omega (arith, few)))
        ∙ other_missed m (λ same. omega (arith, few, same))

    found_after : (m : ℕ) → i < m → find P (entries_before ss m) ≡ find P (at_item i)
    found_after zero less = absurd (omega (arith, less))
    found_after (suc m) less =
        find-append P (entries_before ss m) (at_item m)
        ∙ elim (cases_lt i m) [
          | inl earlier ↦
              ap (λ (o : Option Entry). option_or o (find P (at_item m))) (found_after m earlier)
              ∙ ap (option_or (find P (at_item i)))
              (other_missed m (λ same. omega (arith, earlier, same)))
              ∙ no_other (find P (at_item i))
          | inr last ↦
              let place : m ≡ i = omega (arith, less, last) in
              ap (λ (o : Option Entry). option_or o (find P (at_item m)))
              (missed_before m (omega (arith, place)))
              ∙ ap (λ (j : ℕ). find P (at_item j)) place
        ]
      where
        no_other : (o : Option Entry) → option_or o None ≡ o
        no_other None = refl
        no_other (Some x) = refl

    -- the first in the scope of a state is the first that the state declares
    pub found_in_state : (s : Outline) → i < length ss → slice_get ss i ≡ Some s →
        has_own_scope s.role ≡ true →
        find P (entries ss) ≡ find P (map (declared_entry (namespace.State i) i) s.declares)
    found_in_state s less at own =
        found_after (length ss) less
        ∙ ap (λ (o : Option Outline). find P (option_map_or (entries_of ss i) o [])) at
        ∙ in_item i s
        ∙ ap (λ (b : Bool). find P (map (declared_entry
        (if b then namespace.State i else scope_at (enclosing_set ss i)) i) s.declares)) own
