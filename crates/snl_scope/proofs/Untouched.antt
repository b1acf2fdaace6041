-- What a name means is the same where other items take the place of some that speak as little of
-- it, and bound the same state sets.
use Rattle.std.proofs.Common.{◌≡◌, ℕ, zero, suc, Bool, true, false, ◌&&◌, ◌||◌, not, cond, if◌then◌else◌, List, [], ◌∷◌, ◌++◌, length, map, nat_eq, nat_lt, Option, None, Some, is_some, slice_get, ◌⊎◌, inl, inr, refl, sym, ap, ap₂, subst, ◌∙◌, true≢false}
use Rattle.std.specs.List.{list_any}
use Rattle.std.specs.Option.{option_and_then, option_map, option_map_or, option_or, option_to_list, unwrap_or}
use Rattle.std.specs.Str.{bytes_eq}
use Rattle.std.proofs.lemmas.Bool.Decides.{Decides-eqb}
use Rattle.std.proofs.lemmas.List.{map-append}
use Rattle.std.proofs.lemmas.List.Elements.{filter-append}
use Rattle.std.proofs.lemmas.List.Folds.{list_any-append}
use Rattle.std.proofs.lemmas.Option.{slice_get-map}
use Rattle.std.proofs.lemmas.Slice.Eq.{bytes_eq-Decides}
use Rattle.snl_codes.specs.declared.code.Code.TheVariants.{E08, E09}
use Rattle.snl_scope.specs.declared.facts.Assigned.{Assigned}
use Rattle.snl_scope.specs.declared.facts.Assigned.TheVariants.{Unassigned}
use Rattle.snl_scope.specs.declared.facts.Fact.{Fact}
use Rattle.snl_scope.specs.declared.names.namespaces.Namespace.{Namespace}
use Rattle.snl_scope.specs.declared.names.namespaces.Namespace.TheVariants as namespace
use Rattle.snl_summary.specs.declared.summary.NameRef.{NameRef}
use Rattle.snl_summary.specs.declared.summary.Outline.{Outline}
use Rattle.snl_summary.specs.declared.summary.Role.{Role}
use Rattle.snl_summary.specs.declared.summary.Role.TheVariants as role
use Rattle.snl_summary.specs.declared.summary.Summary.{Summary}
use Rattle.snl_summary.specs.declared.summary.VariableClause.{VariableClause}
use Rattle.snl_scope.specs.Below.{any_below, last_below}
use Rattle.snl_scope.specs.Clauses.{LinkedClause, assigned_as, assigned_by, clauses_before, clauses_of, is_assign, linked_clause, resolve_in, same_number}
use Rattle.snl_scope.specs.KeyLaws.{namespace_true}
use Rattle.snl_scope.specs.Linked.{entry_fact, fact_at, fact_of, has_target}
use Rattle.snl_scope.specs.Names.{Entry, declared_entry, entries, entries_before, entries_of, has_name, has_own_scope, named_entry, number_in, resolve, same_namespace, scope_at, set_entries, state_entries}
use Rattle.snl_scope.specs.Order.{is_state_word}
use Rattle.snl_scope.specs.Places.{begins_set, enclosing_set, ends_set, is_set_begin, is_set_end, item_is}
use Rattle.snl_scope.specs.Resolved.{first_assign}
use Rattle.snl_scope.specs.Spoken.{AreEditedNames, KeepsViews, bound, bounds, is_among, spoken, spoken_by, touches}
use Rattle.snl_scope.specs.View.{view}
use Rattle.snl_scope.proofs.Assigning.{assigned-first}
use Rattle.snl_scope.proofs.Equality.{name_true, namespace_same}
use Rattle.snl_scope.proofs.FirstNamed.{Absent, Located, Present, first, first-of_name, locate, of_name}

neither : (a b : Bool) → (a || b) ≡ false → (a ≡ false) × (b ≡ false)
neither true b h = absurd (true≢false h)
neither false b h = (refl, h)

-- An item that takes the place of another: neither speaks of the name.
pub record Swapped (name : List ℕ) (o p : Option Outline) : Type 0 where
  pub was : Outline
  pub now : Outline
  pub was_is : o ≡ Some was
  pub now_is : p ≡ Some now
  pub was_silent : is_among (spoken was) name ≡ false
  pub now_silent : is_among (spoken now) name ≡ false

abbrev pub Paired : List ℕ → Option Outline → Option Outline → Type 0
Paired name o p = (o ≡ p) ⊎ Swapped name o p

rest_same : {A : Type 0} (a b : A) (xs ys : List A) → (a ∷ xs) ≡ (b ∷ ys) → xs ≡ ys
rest_same a b xs ys h = cc

module _ (name : List ℕ) (after : List Outline) where
  paired_from : (old new : List Outline) → bounds old ≡ bounds new → is_among (spoken_by old) name ≡ false → is_among (spoken_by new) name ≡ false
      → (i : ℕ) → Paired name (slice_get (old ++ after) i) (slice_get (new ++ after) i)
  paired_from [] [] h was now i = inl refl
  paired_from [] (t ∷ ts) h was now i = absurd cc
  paired_from (s ∷ ss) [] h was now i = absurd cc
  paired_from (s ∷ ss) (t ∷ ts) h was now zero = inr (record {
    was = s;
    now = t;
    was_is = refl;
    now_is = refl;
    was_silent = (neither (is_among (spoken s) name) (is_among (spoken_by ss) name) (sym (list_any-append (bytes_eq name) (spoken s) (spoken_by ss)) ∙ was)).0;
    now_silent = (neither (is_among (spoken t) name) (is_among (spoken_by ts) name) (sym (list_any-append (bytes_eq name) (spoken t) (spoken_by ts)) ∙ now)).0;
  })
  paired_from (s ∷ ss) (t ∷ ts) h was now (suc i) =
      paired_from ss ts (rest_same (bound s.role) (bound t.role) (bounds ss) (bounds ts) h)
      (neither (is_among (spoken s) name) (is_among (spoken_by ss) name) (sym (list_any-append (bytes_eq name) (spoken s) (spoken_by ss)) ∙ was)).1
      (neither (is_among (spoken t) name) (is_among (spoken_by ts) name) (sym (list_any-append (bytes_eq name) (spoken t) (spoken_by ts)) ∙ now)).1
      i

  paired : (before old new : List Outline) → bounds old ≡ bounds new → is_among (spoken_by old) name ≡ false → is_among (spoken_by new) name ≡ false
      → (i : ℕ) → Paired name (slice_get (before ++ (old ++ after)) i) (slice_get (before ++ (new ++ after)) i)
  paired [] old new h was now i = paired_from old new h was now i
  paired (s ∷ ss) old new h was now zero = inl refl
  paired (s ∷ ss) old new h was now (suc i) = paired ss old new h was now i

-- entries by the place of their item
abbrev pub entries_at : Option ℕ → ℕ → Outline → List Entry
entries_at p i s = set_entries i s ++ state_entries p i s ++ map (declared_entry (if has_own_scope s.role then namespace.State i else scope_at p) i) s.declares

module _ (name : List ℕ) where
  -- what has other names has none of the name
  none_named : {A : Type 0} (make : A → Entry) (named : A → List ℕ) (xs : List A) → ((x : A) → (make x).name ≡ named x) → list_any (bytes_eq name) (map named xs) ≡ false → of_name name (map make xs) ≡ []
  none_named make named [] has h = refl
  none_named make named (x ∷ xs) has h =
      let parts = neither (bytes_eq name (named x)) (list_any (bytes_eq name) (map named xs)) h in
      ap (λ (b : Bool). cond b (make x ∷ of_name name (map make xs)) (of_name name (map make xs))) (ap (bytes_eq name) (has x) ∙ parts.0)
      ∙ none_named make named xs has parts.1

  -- of a name that may be there
  none_second : (make : List ℕ → Entry) (b : Bool) (o : Option (List ℕ)) → ((n : List ℕ) → (make n).name ≡ n) → is_among (option_to_list o) name ≡ false → of_name name (map make (option_to_list (if b then o else None))) ≡ []
  none_second make false o has h = refl
  none_second make true None has h = refl
  none_second make true (Some n) has h = none_named make (λ m. m) (n ∷ []) has h

  pub silent_parts : (s : Outline) → is_among (spoken s) name ≡ false
      → (is_among (map (λ d. d.name) s.declares) name ≡ false) × (is_among (map (λ c. c.variable.name) s.clauses) name ≡ false) × (is_among (option_to_list s.second) name ≡ false)
  silent_parts s h =
      let declared = map (λ d. d.name) s.declares in
      let clauses = map (λ c. c.variable.name) s.clauses in
      let outer = neither (is_among (declared ++ clauses) name) (is_among (option_to_list s.second) name) (sym (list_any-append (bytes_eq name) (declared ++ clauses) (option_to_list s.second)) ∙ h) in
      let inner = neither (is_among declared name) (is_among clauses name) (sym (list_any-append (bytes_eq name) declared clauses) ∙ outer.0) in
      (inner.0, inner.1, outer.1)

  none_state : (p : Option ℕ) (i : ℕ) (s : Outline) → is_among (option_to_list s.second) name ≡ false → of_name name (state_entries p i s) ≡ []
  none_state None i s h = refl
  none_state (Some k) i s h = none_second (named_entry (namespace.States k) i (Some E09)) (is_state_word s.opening) s.second (λ n. refl) h

  silent_entries : (p : Option ℕ) (i : ℕ) (s : Outline) → is_among (spoken s) name ≡ false → of_name name (entries_at p i s) ≡ []
  silent_entries p i s h =
      let parts = silent_parts s h in
      let test = λ (e : Entry). bytes_eq name e.name in
      let scope = if has_own_scope s.role then namespace.State i else scope_at p in
      filter-append test (set_entries i s ++ state_entries p i s) (map (declared_entry scope i) s.declares)
      ∙ ap₂ (λ (a b : List Entry). a ++ b)
      (filter-append test (set_entries i s) (state_entries p i s)
      ∙ ap₂ (λ (a b : List Entry). a ++ b) (none_second (named_entry namespace.Sets i (Some E08)) (begins_set s.role) s.second (λ n. refl) parts.2) (none_state p i s parts.2))
      (none_named (declared_entry scope i) (λ d. d.name) s.declares (λ d. refl) parts.0)

-- What numbers mean: an entry that is the first of its name in a namespace is told by these.
module _ (es : List Entry) (name : List ℕ) (s : Namespace) (a : ℕ) (found : number_in es s name ≡ Some a) where
  one_number : (m n : ℕ) → Some m ≡ Some n → m ≡ n
  one_number m n h = cc

  one_entry : (d e : Entry) → Some d ≡ Some e → d ≡ e
  one_entry d e h = cc

  number_is : (k : ℕ) → number_in es s name ≡ Some k → k ≡ a
  number_is k h = one_number k a (sym h ∙ found)

  -- the numbers of what has another name or is in another namespace are others
  same_key : (t : Namespace) (other : List ℕ) (k : ℕ) (x y : Entry) → Present (has_name s name) es a x → Present (has_name t other) es k y → a ≡ k → (s ≡ t) × (name ≡ other)
  same_key t other k x y here there e =
      let one : x ≡ y = one_entry x y (sym here.there ∙ ap (slice_get es) e ∙ there.there) in
      let p = name_true s name x here.passes in
      let q = name_true t other y there.passes in
      (p.0 ∙ ap (λ (d : Entry). d.namespace) one ∙ sym q.0, p.1 ∙ ap (λ (d : Entry). d.name) one ∙ sym q.1)

  present : (x : Entry) (k : ℕ) → Present (has_name s name) es k x → Present (has_name s name) es a x
  present x k w = subst (λ (n : ℕ). Present (has_name s name) es n x) (number_is k w.number) w

  no_other : (P : Type 0) → Absent (has_name s name) es → P
  no_other P w = let clash : None ≡ Some a = sym w.number ∙ found in absurd cc

  not_same : (m n : ℕ) → (m ≡ n → ⊥) → nat_eq m n ≡ false
  not_same m n h = by (nat_eq m n) refl
    where
      by : (b : Bool) → nat_eq m n ≡ b → nat_eq m n ≡ false
      by true e = absurd (h ((Decides-eqb m n).0 e))
      by false e = e

  -- another name has no such number
  apart : (t : Namespace) (other : List ℕ) → bytes_eq name other ≡ false → same_number (Some a) (number_in es t other) ≡ false
  apart t other differs = by (locate (has_name s name) es) (locate (has_name t other) es)
    where
      by : Located (has_name s name) es → Located (has_name t other) es → same_number (Some a) (number_in es t other) ≡ false
      by (inl w) o = no_other (same_number (Some a) (number_in es t other) ≡ false) w
      by (inr w) (inl o) = ap (same_number (Some a)) o.number
      by (inr w) (inr o) =
          ap (same_number (Some a)) o.2.number
          ∙ not_same a o.0 (λ e. true≢false (sym ((bytes_eq-Decides name other).1 (same_key t other o.0 w.1 o.1 (present w.1 w.0 w.2) o.2 e).1) ∙ differs))

  -- in a namespace where the name is, its number is this one where the namespace is
  tells : (t : Namespace) → same_number (Some a) (number_in es t name) ≡ (is_some (number_in es t name) && same_namespace s t)
  tells t = by (locate (has_name s name) es) (locate (has_name t name) es)
    where
      by : Located (has_name s name) es → Located (has_name t name) es → same_number (Some a) (number_in es t name) ≡ (is_some (number_in es t name) && same_namespace s t)
      by (inl w) o = no_other (same_number (Some a) (number_in es t name) ≡ (is_some (number_in es t name) && same_namespace s t)) w
      by (inr w) (inl o) = ap (same_number (Some a)) o.number ∙ sym (ap (λ (n : Option ℕ). is_some n && same_namespace s t) o.number)
      by (inr w) (inr o) = ap (same_number (Some a)) o.2.number ∙ compared (same_namespace s t) refl ∙ sym (ap (λ (n : Option ℕ). is_some n && same_namespace s t) o.2.number)
        where
          compared : (b : Bool) → same_namespace s t ≡ b → nat_eq a o.0 ≡ same_namespace s t
          compared true h = (Decides-eqb a o.0).1 (sym (number_is o.0 (ap (λ (n : Namespace). number_in es n name) (namespace_true s t h) ∙ o.2.number))) ∙ sym h
          compared false h =
              not_same a o.0 (λ e. true≢false (sym (namespace_same s) ∙ ap (same_namespace s) (same_key t name o.0 w.1 o.1 (present w.1 w.0 w.2) o.2 e).0 ∙ h))
              ∙ sym h

-- Whether a name that is in these namespaces means the one in a namespace, from an item with a
-- place.
abbrev means_in : (Namespace → Bool) → Namespace → Option ℕ → Bool
means_in known s None = known namespace.Program && same_namespace s namespace.Program
means_in known s (Some k) = if known (namespace.StateSet k) then same_namespace s (namespace.StateSet k) else known namespace.Program && same_namespace s namespace.Program

abbrev means : (Namespace → Bool) → Namespace → ℕ → Option ℕ → Bool
means known s m p = if known (namespace.State m) then same_namespace s (namespace.State m) else means_in known s p

module _ (es : List Entry) (name : List ℕ) (s : Namespace) (a : ℕ) (found : number_in es s name ≡ Some a) where
  abbrev known : Namespace → Bool
  known t = is_some (number_in es t name)

  either : (o p : Option ℕ) → same_number (Some a) (option_or o p) ≡ (if is_some o then same_number (Some a) o else same_number (Some a) p)
  either None p = refl
  either (Some k) p = refl

  when_known : (b c d : Bool) → (if b then (b && c) else d) ≡ (if b then c else d)
  when_known true c d = refl
  when_known false c d = refl

  chosen : (t : Namespace) (p : Option ℕ) (rest : Bool) → same_number (Some a) p ≡ rest → same_number (Some a) (option_or (number_in es t name) p) ≡ (if known t then same_namespace s t else rest)
  chosen t p rest h =
      either (number_in es t name) p
      ∙ ap₂ (λ (b c : Bool). if known t then b else c) (tells es name s a found t) h
      ∙ when_known (known t) (same_namespace s t) rest

  means_where : (p : Option ℕ) → same_number (Some a) (resolve es p name) ≡ means_in known s p
  means_where None = tells es name s a found namespace.Program
  means_where (Some k) = chosen (namespace.StateSet k) (number_in es namespace.Program name) (known namespace.Program && same_namespace s namespace.Program) (tells es name s a found namespace.Program)

  means_there : (m : ℕ) (p : Option ℕ) → same_number (Some a) (option_or (number_in es (namespace.State m) name) (resolve es p name)) ≡ means known s m p
  means_there m p = chosen (namespace.State m) (resolve es p name) (means_in known s p) (means_where p)

  -- another name means another entry
  no_number : (o p : Option ℕ) → same_number (Some a) o ≡ false → same_number (Some a) p ≡ false → same_number (Some a) (option_or o p) ≡ false
  no_number None p h g = g
  no_number (Some k) p h g = h

  others : (other : List ℕ) → bytes_eq name other ≡ false → (m : ℕ) (p : Option ℕ) → same_number (Some a) (option_or (number_in es (namespace.State m) other) (resolve es p other)) ≡ false
  others other h m None = no_number (number_in es (namespace.State m) other) (number_in es namespace.Program other) (apart es name s a found (namespace.State m) other h) (apart es name s a found namespace.Program other h)
  others other h m (Some k) =
      no_number (number_in es (namespace.State m) other) (resolve es (Some k) other) (apart es name s a found (namespace.State m) other h)
      (no_number (number_in es (namespace.StateSet k) other) (number_in es namespace.Program other) (apart es name s a found (namespace.StateSet k) other h) (apart es name s a found namespace.Program other h))

-- Items that bound the same state sets, one by one.
module _ (ss ts : List Outline) (places : bounds ss ≡ bounds ts) where
  bound_at : (test : Role → Bool) → ((r : Role) → test (bound r) ≡ test r) → (o : Option Outline) → option_map_or (λ s. test s.role) o false ≡ option_map_or test (option_map (λ s. bound s.role) o) false
  bound_at test is None = refl
  bound_at test is (Some s) = sym (is s.role)

  item_same : (test : Role → Bool) → ((r : Role) → test (bound r) ≡ test r) → (i : ℕ) → item_is (λ s. test s.role) ss i ≡ item_is (λ s. test s.role) ts i
  item_same test is i =
      let role_at = λ (s : Outline). bound s.role in
      bound_at test is (slice_get ss i)
      ∙ ap (λ (o : Option Role). option_map_or test o false) (sym (slice_get-map role_at ss i) ∙ ap (λ (l : List Role). slice_get l i) places ∙ slice_get-map role_at ts i)
      ∙ sym (bound_at test is (slice_get ts i))

  begins_bound : (r : Role) → begins_set (bound r) ≡ begins_set r
  begins_bound role.SetBegin = refl
  begins_bound role.SetEnd = refl
  begins_bound role.State = refl
  begins_bound role.Other = refl

  ends_bound : (r : Role) → ends_set (bound r) ≡ ends_set r
  ends_bound role.SetBegin = refl
  ends_bound role.SetEnd = refl
  ends_bound role.State = refl
  ends_bound role.Other = refl

  -- each item is in the state set that it was in
  pub place_same : (i : ℕ) → enclosing_set ss i ≡ enclosing_set ts i
  place_same i =
      let begins : (k : ℕ) → is_set_begin ss k ≡ is_set_begin ts k = item_same begins_set begins_bound in
      let ends : (k : ℕ) → is_set_end ss k ≡ is_set_end ts k = item_same ends_set ends_bound in
      let here : item_is (λ s. not (begins_set s.role)) ss i ≡ item_is (λ s. not (begins_set s.role)) ts i = item_same (λ r. not (begins_set r)) (λ r. ap not (begins_bound r)) i in
      λ d. if here d then last_below (λ k. begins k d && not (any_below (λ j. nat_lt k j && ends j d) i)) i else None

  bounds_count : (os : List Outline) → length (bounds os) ≡ length os
  bounds_count [] = refl
  bounds_count (o ∷ os) = ap suc (bounds_count os)

  as_many : length ss ≡ length ts
  as_many = sym (bounds_count ss) ∙ ap length places ∙ bounds_count ts

-- All that a name means, among items that are paired one by one.
module _ (name : List ℕ) (ss ts : List Outline) (places : bounds ss ≡ bounds ts) (pair : (i : ℕ) → Paired name (slice_get ss i) (slice_get ts i)) where
  -- the entries of the name are those that were
  item_entries : (i : ℕ) → of_name name (option_map_or (entries_of ss i) (slice_get ss i) []) ≡ of_name name (option_map_or (entries_of ts i) (slice_get ts i) [])
  item_entries i = by (pair i)
    where
      by : Paired name (slice_get ss i) (slice_get ts i) → of_name name (option_map_or (entries_of ss i) (slice_get ss i) []) ≡ of_name name (option_map_or (entries_of ts i) (slice_get ts i) [])
      by (inl e) =
          ap (λ (p : Option ℕ). of_name name (option_map_or (entries_at p i) (slice_get ss i) [])) (place_same ss ts places i)
          ∙ ap (λ (o : Option Outline). of_name name (option_map_or (entries_at (enclosing_set ts i) i) o [])) e
      by (inr w) =
          ap (λ (o : Option Outline). of_name name (option_map_or (entries_of ss i) o [])) w.was_is
          ∙ silent_entries name (enclosing_set ss i) i w.was w.was_silent
          ∙ sym (silent_entries name (enclosing_set ts i) i w.now w.now_silent)
          ∙ sym (ap (λ (o : Option Outline). of_name name (option_map_or (entries_of ts i) o [])) w.now_is)

  entries_same : (n : ℕ) → of_name name (entries_before ss n) ≡ of_name name (entries_before ts n)
  entries_same zero = refl
  entries_same (suc n) =
      let test = λ (e : Entry). bytes_eq name e.name in
      filter-append test (entries_before ss n) (option_map_or (entries_of ss n) (slice_get ss n) [])
      ∙ ap₂ (λ (a b : List Entry). a ++ b) (entries_same n) (item_entries n)
      ∙ sym (filter-append test (entries_before ts n) (option_map_or (entries_of ts n) (slice_get ts n) []))

  first_entry : (s : Namespace) → first (has_name s name) (entries ss) ≡ first (has_name s name) (entries ts)
  first_entry s =
      first-of_name s name (entries ss)
      ∙ ap (first (λ e. same_namespace s e.namespace)) (entries_same (length ss) ∙ ap (λ (n : ℕ). of_name name (entries_before ts n)) (as_many ss ts places))
      ∙ sym (first-of_name s name (entries ts))

  -- the first entry of the name in a namespace, where there is one, is the same, whatever number it
  -- has
  record Matched (s : Namespace) : Type 0 where
    before : ℕ
    now : ℕ
    entry : Entry
    before_is : number_in (entries ss) s name ≡ Some before
    now_is : number_in (entries ts) s name ≡ Some now
    entry_before : slice_get (entries ss) before ≡ Some entry
    entry_now : slice_get (entries ts) now ≡ Some entry

  record Unmatched (s : Namespace) : Type 0 where
    before_is : number_in (entries ss) s name ≡ None
    now_is : number_in (entries ts) s name ≡ None

  one_of : (d e : Entry) → Some d ≡ Some e → d ≡ e
  one_of d e h = cc

  match_in : (s : Namespace) → Unmatched s ⊎ Matched s
  match_in s = by (locate (has_name s name) (entries ss)) (locate (has_name s name) (entries ts))
    where
      by : Located (has_name s name) (entries ss) → Located (has_name s name) (entries ts) → Unmatched s ⊎ Matched s
      by (inl a) (inl b) = inl (record { before_is = a.number; now_is = b.number })
      by (inl a) (inr w) = let clash : None ≡ Some w.1 = sym a.none ∙ first_entry s ∙ w.2.one in absurd cc
      by (inr w) (inl b) = let clash : None ≡ Some w.1 = sym b.none ∙ sym (first_entry s) ∙ w.2.one in absurd cc
      by (inr v) (inr w) = inr (record {
        before = v.0;
        now = w.0;
        entry = v.1;
        before_is = v.2.number;
        now_is = w.2.number;
        entry_before = v.2.there;
        entry_now = w.2.there ∙ ap Some (one_of w.1 v.1 (sym w.2.one ∙ sym (first_entry s) ∙ v.2.one));
      })

  known_same : (s : Namespace) → is_some (number_in (entries ss) s name) ≡ is_some (number_in (entries ts) s name)
  known_same s = by (match_in s)
    where
      by : Unmatched s ⊎ Matched s → is_some (number_in (entries ss) s name) ≡ is_some (number_in (entries ts) s name)
      by (inl w) = ap is_some w.before_is ∙ sym (ap is_some w.now_is)
      by (inr w) = ap is_some w.before_is ∙ sym (ap is_some w.now_is)

  -- what the entry is assigned to
  module _ (s : Namespace) (a b : ℕ) (was : number_in (entries ss) s name ≡ Some a) (now : number_in (entries ts) s name ≡ Some b) where
    variable_same : (m : ℕ) (other : List ℕ) → same_number (Some a) (resolve_in ss m other) ≡ same_number (Some b) (resolve_in ts m other)
    variable_same m other = by (bytes_eq name other) refl
      where
        by : (c : Bool) → bytes_eq name other ≡ c → same_number (Some a) (resolve_in ss m other) ≡ same_number (Some b) (resolve_in ts m other)
        by false h = others (entries ss) name s a was other h m (enclosing_set ss m) ∙ sym (others (entries ts) name s b now other h m (enclosing_set ts m))
        by true h =
            let same : name ≡ other = (bytes_eq-Decides name other).0 h in
            let known : (λ t. is_some (number_in (entries ss) t name)) ≡ (λ t. is_some (number_in (entries ts) t name)) = λ d t. known_same t d in
            ap (λ (n : List ℕ). same_number (Some a) (resolve_in ss m n)) (sym same)
            ∙ means_there (entries ss) name s a was m (enclosing_set ss m)
            ∙ ap₂ (λ (f : Namespace → Bool) (p : Option ℕ). means f s m p) known (place_same ss ts places m)
            ∙ sym (means_there (entries ts) name s b now m (enclosing_set ts m))
            ∙ ap (λ (n : List ℕ). same_number (Some b) (resolve_in ts m n)) same

    assign_same : (m : ℕ) (cs : List VariableClause) → first_assign (map (linked_clause ss m) cs) a ≡ first_assign (map (linked_clause ts m) cs) b
    assign_same m [] = refl
    assign_same m (c ∷ cs) =
        ap₂ (λ (v : Bool) (rest : Option Assigned). if (is_assign c.kind && v) then Some (assigned_as c.coverage) else rest) (variable_same m c.variable.name) (assign_same m cs)

    and_false : (v w : Bool) → w ≡ false → (v && w) ≡ false
    and_false true w h = h
    and_false false w h = refl

    silent_before : (m : ℕ) (cs : List VariableClause) → list_any (bytes_eq name) (map (λ c. c.variable.name) cs) ≡ false → first_assign (map (linked_clause ss m) cs) a ≡ None
    silent_before m [] h = refl
    silent_before m (c ∷ cs) h =
        let parts = neither (bytes_eq name c.variable.name) (list_any (bytes_eq name) (map (λ c. c.variable.name) cs)) h in
        ap (λ (v : Bool). if v then Some (assigned_as c.coverage) else first_assign (map (linked_clause ss m) cs) a)
        (and_false (is_assign c.kind) (same_number (Some a) (resolve_in ss m c.variable.name)) (others (entries ss) name s a was c.variable.name parts.0 m (enclosing_set ss m)))
        ∙ silent_before m cs parts.1

    silent_now : (m : ℕ) (cs : List VariableClause) → list_any (bytes_eq name) (map (λ c. c.variable.name) cs) ≡ false → first_assign (map (linked_clause ts m) cs) b ≡ None
    silent_now m [] h = refl
    silent_now m (c ∷ cs) h =
        let parts = neither (bytes_eq name c.variable.name) (list_any (bytes_eq name) (map (λ c. c.variable.name) cs)) h in
        ap (λ (v : Bool). if v then Some (assigned_as c.coverage) else first_assign (map (linked_clause ts m) cs) b)
        (and_false (is_assign c.kind) (same_number (Some b) (resolve_in ts m c.variable.name)) (others (entries ts) name s b now c.variable.name parts.0 m (enclosing_set ts m)))
        ∙ silent_now m cs parts.1

    abbrev clauses_at : List Outline → ℕ → List LinkedClause
    clauses_at os m = option_map_or (λ o. map (linked_clause os m) o.clauses) (slice_get os m) []

    item_assign : (m : ℕ) → first_assign (clauses_at ss m) a ≡ first_assign (clauses_at ts m) b
    item_assign m = by (pair m)
      where
        here : (o : Option Outline) → first_assign (option_map_or (λ o. map (linked_clause ss m) o.clauses) o []) a ≡ first_assign (option_map_or (λ o. map (linked_clause ts m) o.clauses) o []) b
        here None = refl
        here (Some o) = assign_same m o.clauses

        by : Paired name (slice_get ss m) (slice_get ts m) → first_assign (clauses_at ss m) a ≡ first_assign (clauses_at ts m) b
        by (inl e) = here (slice_get ss m) ∙ ap (λ (o : Option Outline). first_assign (option_map_or (λ o. map (linked_clause ts m) o.clauses) o []) b) e
        by (inr w) =
            ap (λ (o : Option Outline). first_assign (option_map_or (λ o. map (linked_clause ss m) o.clauses) o []) a) w.was_is
            ∙ silent_before m w.was.clauses (silent_parts name w.was w.was_silent).1
            ∙ sym (silent_now m w.now.clauses (silent_parts name w.now w.now_silent).1)
            ∙ sym (ap (λ (o : Option Outline). first_assign (option_map_or (λ o. map (linked_clause ts m) o.clauses) o []) b) w.now_is)

    assign_append : (cs ds : List LinkedClause) (n : ℕ) → first_assign (cs ++ ds) n ≡ option_or (first_assign cs n) (first_assign ds n)
    assign_append [] ds n = refl
    assign_append (c ∷ cs) ds n = by (is_assign c.clause.kind && same_number (Some n) c.variable) (assign_append cs ds n)
      where
        by : (v : Bool) → first_assign (cs ++ ds) n ≡ option_or (first_assign cs n) (first_assign ds n) → (if v then Some (assigned_as c.clause.coverage) else first_assign (cs ++ ds) n) ≡ option_or (if v then Some (assigned_as c.clause.coverage) else first_assign cs n) (first_assign ds n)
        by true rest = refl
        by false rest = rest

    assigns_before : (n : ℕ) → first_assign (clauses_before ss n) a ≡ first_assign (clauses_before ts n) b
    assigns_before zero = refl
    assigns_before (suc n) =
        assign_append (clauses_before ss n) (clauses_at ss n) a
        ∙ ap₂ option_or (assigns_before n) (item_assign n)
        ∙ sym (assign_append (clauses_before ts n) (clauses_at ts n) b)

    assigned_same : assigned_by (clauses_of ss) a ≡ assigned_by (clauses_of ts) b
    assigned_same =
        sym (assigned-first (clauses_of ss) a)
        ∙ ap (λ (o : Option Assigned). unwrap_or o Unassigned) (assigns_before (length ss) ∙ ap (λ (n : ℕ). first_assign (clauses_before ts n) b) (as_many ss ts places))
        ∙ assigned-first (clauses_of ts) b

  -- what is known of the first entry of the name in a namespace
  fact_in : (s : Namespace) → option_and_then (fact_at ss) (number_in (entries ss) s name) ≡ option_and_then (fact_at ts) (number_in (entries ts) s name)
  fact_in s = by (match_in s)
    where
      by : Unmatched s ⊎ Matched s → option_and_then (fact_at ss) (number_in (entries ss) s name) ≡ option_and_then (fact_at ts) (number_in (entries ts) s name)
      by (inl w) = ap (option_and_then (fact_at ss)) w.before_is ∙ sym (ap (option_and_then (fact_at ts)) w.now_is)
      by (inr w) =
          ap (option_and_then (fact_at ss)) w.before_is
          ∙ ap (option_and_then (entry_fact (assigned_by (clauses_of ss) w.before))) w.entry_before
          ∙ ap (λ (g : Assigned). entry_fact g w.entry) (assigned_same s w.before w.now w.before_is w.now_is)
          ∙ sym (ap (option_and_then (entry_fact (assigned_by (clauses_of ts) w.now))) w.entry_now)
          ∙ sym (ap (option_and_then (fact_at ts)) w.now_is)

  fact_or : (f : ℕ → Option Fact) (o p : Option ℕ) → option_and_then f (option_or o p) ≡ (if is_some o then option_and_then f o else option_and_then f p)
  fact_or f None p = refl
  fact_or f (Some k) p = refl

  fact_from : (p : Option ℕ) → option_and_then (fact_at ss) (resolve (entries ss) p name) ≡ option_and_then (fact_at ts) (resolve (entries ts) p name)
  fact_from None = fact_in namespace.Program
  fact_from (Some k) =
      fact_or (fact_at ss) (number_in (entries ss) (namespace.StateSet k) name) (number_in (entries ss) namespace.Program name)
      ∙ ap (λ (b : Bool). if b then option_and_then (fact_at ss) (number_in (entries ss) (namespace.StateSet k) name) else option_and_then (fact_at ss) (number_in (entries ss) namespace.Program name)) (known_same (namespace.StateSet k))
      ∙ ap₂ (λ (f g : Option Fact). if is_some (number_in (entries ts) (namespace.StateSet k) name) then f else g) (fact_in (namespace.StateSet k)) (fact_in namespace.Program)
      ∙ sym (fact_or (fact_at ts) (number_in (entries ts) (namespace.StateSet k) name) (number_in (entries ts) namespace.Program name))

  pub fact_same : (i : ℕ) → fact_of ss i name ≡ fact_of ts i name
  fact_same i =
      ap (λ (p : Option ℕ). if nat_lt i (length ss) then option_and_then (fact_at ss) (resolve (entries ss) p name) else None) (place_same ss ts places i)
      ∙ ap (λ (f : Option Fact). if nat_lt i (length ss) then f else None) (fact_from (enclosing_set ts i))
      ∙ ap (λ (n : ℕ). if nat_lt i n then option_and_then (fact_at ts) (resolve (entries ts) (enclosing_set ts i) name) else None) (as_many ss ts places)

  pub target_same : (i : ℕ) → has_target ss i name ≡ has_target ts i name
  target_same i =
      ap (λ (p : Option ℕ). option_map_or (λ k. is_some (number_in (entries ss) (namespace.States k) name)) p false) (place_same ss ts places i)
      ∙ there (enclosing_set ts i)
    where
      there : (p : Option ℕ) → option_map_or (λ k. is_some (number_in (entries ss) (namespace.States k) name)) p false ≡ option_map_or (λ k. is_some (number_in (entries ts) (namespace.States k) name)) p false
      there None = refl
      there (Some k) = known_same (namespace.States k)

-- A summary that touches none of the names sees the same.
module _ (before old new after : List Outline) (places : bounds old ≡ bounds new) where
  abbrev names : List (List ℕ)
  names = spoken_by old ++ spoken_by new

  same_bounds : bounds (before ++ (old ++ after)) ≡ bounds (before ++ (new ++ after))
  same_bounds =
      let role_at = λ (s : Outline). bound s.role in
      map-append role_at before (old ++ after)
      ∙ ap (λ (l : List Role). bounds before ++ l) (map-append role_at old after ∙ ap (λ (l : List Role). l ++ bounds after) places ∙ sym (map-append role_at new after))
      ∙ sym (map-append role_at before (new ++ after))

  silent : (name : List ℕ) → is_among names name ≡ false → (is_among (spoken_by old) name ≡ false) × (is_among (spoken_by new) name ≡ false)
  silent name h = neither (is_among (spoken_by old) name) (is_among (spoken_by new) name) (sym (list_any-append (bytes_eq name) (spoken_by old) (spoken_by new)) ∙ h)

  pub fact_stays : (name : List ℕ) → is_among names name ≡ false → (i : ℕ) → fact_of (before ++ (old ++ after)) i name ≡ fact_of (before ++ (new ++ after)) i name
  fact_stays name h =
      fact_same name (before ++ (old ++ after)) (before ++ (new ++ after)) same_bounds
      (paired name after before old new places (silent name h).0 (silent name h).1)

  pub target_stays : (name : List ℕ) → is_among names name ≡ false → (i : ℕ) → has_target (before ++ (old ++ after)) i name ≡ has_target (before ++ (new ++ after)) i name
  target_stays name h =
      target_same name (before ++ (old ++ after)) (before ++ (new ++ after)) same_bounds
      (paired name after before old new places (silent name h).0 (silent name h).1)

  knows : (uses : List (List ℕ)) → list_any (is_among names) uses ≡ false → (i : ℕ)
      → map (λ name. fact_of (before ++ (old ++ after)) i name) uses ≡ map (λ name. fact_of (before ++ (new ++ after)) i name) uses
  knows [] h i = refl
  knows (x ∷ xs) h i =
      let parts = neither (is_among names x) (list_any (is_among names) xs) h in
      ap₂ (λ (f : Option Fact) (rest : List (Option Fact)). f ∷ rest) (fact_stays x parts.0 i) (knows xs parts.1 i)

  leads : (targets : List NameRef) → list_any (λ t. is_among names t.name) targets ≡ false → (i : ℕ)
      → map (λ t. has_target (before ++ (old ++ after)) i t.name) targets ≡ map (λ t. has_target (before ++ (new ++ after)) i t.name) targets
  leads [] h i = refl
  leads (t ∷ rest) h i =
      let parts = neither (is_among names t.name) (list_any (λ t. is_among names t.name) rest) h in
      ap₂ (λ (b : Bool) (others : List Bool). b ∷ others) (target_stays t.name parts.0 i) (leads rest parts.1 i)

  pub view_stays : (s : Summary) → touches names s ≡ false → (i : ℕ) → view (before ++ (old ++ after)) i s ≡ view (before ++ (new ++ after)) i s
  view_stays s h i =
      let parts = neither (list_any (is_among names) s.uses) (list_any (λ t. is_among names t.name) s.targets) h in
      let place_is : enclosing_set (before ++ (old ++ after)) i ≡ enclosing_set (before ++ (new ++ after)) i = place_same (before ++ (old ++ after)) (before ++ (new ++ after)) same_bounds i in
      let facts_are = knows s.uses parts.0 i in
      let leads_are = leads s.targets parts.1 i in
      λ d. record { in_set = is_some (place_is d); facts = facts_are d; leads = leads_are d }

  pub place_stays : (i : ℕ) → enclosing_set (before ++ (old ++ after)) i ≡ enclosing_set (before ++ (new ++ after)) i
  place_stays = place_same (before ++ (old ++ after)) (before ++ (new ++ after)) same_bounds

pub views_stay : (before old new after : List Outline) (names : List (List ℕ)) → AreEditedNames old new names → KeepsViews (before ++ (old ++ after)) (before ++ (new ++ after)) names
views_stay before old new after said e i s h = view_stays before old new after e.places s (ap (λ (l : List (List ℕ)). touches l s) (sym e.spoken) ∙ h) i
