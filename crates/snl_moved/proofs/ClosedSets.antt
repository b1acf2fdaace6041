-- A state set after which another one begins: what is in it stays as it is, whatever items are
-- added after the last.
use Rattle.std.proofs.Common.{◌≡◌, ℕ, zero, suc, ◌+◌, ◌-◌, ◌<◌, ◌≤◌, ◌&&◌, Bool, true, false, not, List, [], ◌∷◌, ◌++◌, length, map, take, nat_eq, slice_get, Option, Some, None, IfSome, is_none, is_some, option_map, if◌then◌else◌, inl, inr, refl, ap, ap₂, sym, subst, ◌∙◌, arith, append-nil, length-append}
use Rattle.std.specs.List.{AllByRecursion}
use Rattle.std.specs.Option.{option_and_then, option_map_or, option_to_list}
use Rattle.std.specs.Str.{bytes_eq}
use Rattle.std.proofs.lemmas.Bool.{and_left, cases_lt, eqb-true, false≢true}
use Rattle.snl_facts.specs.Booleans.{and_second}
use Rattle.snl_facts.specs.Each.{each_append, each_by, each_map, each_weaker}
use Rattle.snl_codes.specs.declared.code.Code.TheVariants.{E08, E09}
use Rattle.snl_scope.specs.declared.names.namespaces.Namespace.{Namespace}
use Rattle.snl_scope.specs.declared.names.namespaces.Namespace.TheVariants as namespace
use Rattle.snl_summary.specs.declared.summary.Declared.{Declared}
use Rattle.snl_summary.specs.declared.summary.Outline.{Outline}
use Rattle.snl_scope.specs.Below.{all_below, any_below}
use Rattle.snl_scope.specs.BelowLaws.{all_below_same, any_below_same, each_below}
use Rattle.snl_scope.specs.Linked.{has_target, is_first_state, name_of_state, state_in, state_of}
use Rattle.snl_scope.specs.Names.{Entry, declared_entry, entries, entries_before, entries_of, has_name, has_own_scope, named_entry, number_in, same_namespace, scope_at, scope_of, set_entries, set_name, state_entries}
use Rattle.snl_scope.specs.Order.{is_named_state, state_name}
use Rattle.snl_scope.specs.Places.{begins_set, enclosing_set, is_set_begin, open_before, stands_in}
use Rattle.snl_item_check.specs.Items.{ProgramItem}
use Rattle.snl_check.specs.Members.{has_faulty, is_faulty_item, states_in}
use Rattle.snl_moved.proofs.FrontNames.{entries_in_front, front_place, got_in_front, number_there, position_in_front}
use Rattle.snl_check.specs.SetsLaws.{SetsOpenInTurn, all_past, any_past, none_after}

-- Another state set begins after k, before item n.
abbrev pub IsClosed : List Outline → ℕ → ℕ → Type 0
IsClosed ss n k = (next : ℕ) × (k < next) × (next < n) × (is_set_begin ss next ≡ true)

-- ---- numbers that pass a test

take_front : {A : Type 0} (xs ys : List A) → take (length xs) (xs ++ ys) ≡ xs
take_front [] ys = refl
take_front (x ∷ xs) ys = ap (λ l. x ∷ l) (take_front xs ys)

all_but_last : {A : Type 0} (xs : List A) (y : A) → take (length (xs ++ y ∷ []) - 1) (xs ++ y ∷ []) ≡ xs
all_but_last xs y =
    let count : length (xs ++ y ∷ []) - 1 ≡ length xs = omega (arith, length-append xs (y ∷ [])) in
    ap (λ m. take m (xs ++ y ∷ [])) count ∙ take_front xs (y ∷ [])

-- Another number after k, below n, passes the test.
abbrev HasNext : (ℕ → Bool) → ℕ → ℕ → Type 0
HasNext p n k = (next : ℕ) × (k < next) × (next < n) × (p next ≡ true)

-- of the numbers below n that pass a test, each but the last has another one after it
pub each_but_last : (p : ℕ → Bool) (n : ℕ) → AllByRecursion (λ k. (next : ℕ) × (k < next) × (next < n) × (p next ≡ true)) (take (length (all_below p n) - 1) (all_below p n))
each_but_last p zero = tt
each_but_last p (suc n) = by (p n) refl (each_but_last p n)
  where
    by : (b : Bool) → p n ≡ b → AllByRecursion (HasNext p n) (take (length (all_below p n) - 1) (all_below p n))
        → AllByRecursion (HasNext p (suc n)) (take (length (all_below p n ++ (if b then n ∷ [] else [])) - 1) (all_below p n ++ (if b then n ∷ [] else [])))
    by true e before =
        subst (AllByRecursion (HasNext p (suc n))) (sym (all_but_last (all_below p n) n))
        (each_below (HasNext p (suc n)) p n (λ k l is. (n, l, omega arith, e)))
    by false e before =
        subst (λ l. AllByRecursion (HasNext p (suc n)) (take (length l - 1) l)) (sym (append-nil (all_below p n)))
        (each_weaker (HasNext p n) (HasNext p (suc n)) (λ k h. (h.0, h.1, omega (arith, h.2), h.3)) (take (length (all_below p n) - 1) (all_below p n)) before)

-- each of them is below n, and passes
pub each_passes : (p : ℕ → Bool) (n : ℕ) → AllByRecursion (λ k. (k < n) × (p k ≡ true)) (all_below p n)
each_passes p n = each_below (λ k. (k < n) × (p k ≡ true)) p n (λ k l is. (l, is))

-- ---- the items of a set

set_stands_in : (ss : List Outline) (k i : ℕ) → stands_in ss k i ≡ true → enclosing_set ss i ≡ Some k
set_stands_in ss k i = by (enclosing_set ss i)
  where
    by : (p : Option ℕ) → option_map_or (nat_eq k) p false ≡ true → p ≡ Some k
    by None h = absurd (false≢true h)
    by (Some m) h = ap Some (sym (eqb-true k m h))

-- the states of a set are among its items
pub states_within : (ss : List Outline) (k : ℕ) → AllByRecursion (λ i. (i < length ss) × (enclosing_set ss i ≡ Some k)) (states_in ss k)
states_within ss k =
    each_below (λ i. (i < length ss) × (enclosing_set ss i ≡ Some k)) (λ j. is_named_state ss j && stands_in ss k j) (length ss)
    (λ i l is. (l, set_stands_in ss k i (and_second (is_named_state ss i) (stands_in ss k i) is)))

-- an item that begins a set is in none
begin_out : (ss : List Outline) (k i : ℕ) → is_set_begin ss i ≡ true → stands_in ss k i ≡ false
begin_out ss k i = by (slice_get ss i)
  where
    begun : (b : Bool) → b ≡ true → option_map_or (nat_eq k) (if not b then open_before ss i else None) false ≡ false
    begun true h = refl
    begun false h = absurd (false≢true h)

    by : (s : Option Outline) → option_map_or (λ s. begins_set s.role) s false ≡ true
        → option_map_or (nat_eq k) (if option_map_or (λ s. not (begins_set s.role)) s false then open_before ss i else None) false ≡ false
    by None h = refl
    by (Some s) h = begun (begins_set s.role) h

-- nor is one that there is not
past_out : (ss : List Outline) (k i : ℕ) → length ss ≤ i → stands_in ss k i ≡ false
past_out ss k i le = ap (λ (s : Option Outline). option_map_or (nat_eq k) (if option_map_or (λ s. not (begins_set s.role)) s false then open_before ss i else None) false) (got_past ss i le)
  where
    got_past : (xs : List Outline) (j : ℕ) → length xs ≤ j → slice_get xs j ≡ None
    got_past [] j l = refl
    got_past (x ∷ xs) zero l = absurd (omega (arith, l))
    got_past (x ∷ xs) (suc j) l = got_past xs j (omega (arith, l))

-- ---- the names that items outside a set bring

-- An entry of another name, or not of a state of the set.
abbrev IsOther : ℕ → List ℕ → Entry → Type 0
IsOther k name e = has_name (namespace.States k) name e ≡ false

module _ (k : ℕ) (name : List ℕ) where
  sets_other : (i : ℕ) (s : Outline) → AllByRecursion (IsOther k name) (set_entries i s)
  sets_other i s =
      each_map (IsOther k name) (named_entry namespace.Sets i (Some E08)) (option_to_list (set_name s))
      (each_by (λ x. IsOther k name (named_entry namespace.Sets i (Some E08) x)) (λ x. refl) (option_to_list (set_name s)))

  states_other : (p : Option ℕ) (i : ℕ) (s : Outline) → option_map_or (nat_eq k) p false ≡ false → AllByRecursion (IsOther k name) (state_entries p i s)
  states_other None i s h = tt
  states_other (Some m) i s h =
      each_map (IsOther k name) (named_entry (namespace.States m) i (Some E09)) (option_to_list (state_name s))
      (each_by (λ x. IsOther k name (named_entry (namespace.States m) i (Some E09) x)) (λ x. and_left (nat_eq k m) (bytes_eq name x) h) (option_to_list (state_name s)))

  scope_other : (own : Bool) (p : Option ℕ) (i : ℕ) → same_namespace (namespace.States k) (if own then namespace.State i else scope_at p) ≡ false
  scope_other true p i = refl
  scope_other false None i = refl
  scope_other false (Some m) i = refl

  declared_other : (scope : Namespace) (i : ℕ) (ds : List Declared) → same_namespace (namespace.States k) scope ≡ false → AllByRecursion (IsOther k name) (map (declared_entry scope i) ds)
  declared_other scope i ds h =
      each_map (IsOther k name) (declared_entry scope i) ds
      (each_by (λ d. IsOther k name (declared_entry scope i d)) (λ d. and_left (same_namespace (namespace.States k) scope) (bytes_eq name d.name) h) ds)

  module _ (ss : List Outline) where
    entries_other : (i : ℕ) → stands_in ss k i ≡ false → AllByRecursion (IsOther k name) (option_map_or (entries_of ss i) (slice_get ss i) [])
    entries_other i out = by (slice_get ss i)
      where
        by : (s : Option Outline) → AllByRecursion (IsOther k name) (option_map_or (entries_of ss i) s [])
        by None = tt
        by (Some s) =
            each_append (IsOther k name) (set_entries i s ++ state_entries (enclosing_set ss i) i s) (map (declared_entry (scope_of ss i s) i) s.declares)
            (each_append (IsOther k name) (set_entries i s) (state_entries (enclosing_set ss i) i s) (sets_other i s) (states_other (enclosing_set ss i) i s out))
            (declared_other (scope_of ss i s) i s.declares (scope_other (has_own_scope s.role) (enclosing_set ss i) i))

    -- items outside the set name no state of it
    number_past : (n d : ℕ) → ((j : ℕ) → n ≤ j → stands_in ss k j ≡ false)
        → number_in (entries_before ss (n + d)) (namespace.States k) name ≡ number_in (entries_before ss n) (namespace.States k) name
    number_past n zero out = let same : n + 0 ≡ n = omega arith in ap (λ m. number_in (entries_before ss m) (namespace.States k) name) same
    number_past n (suc d) out =
        let next : n + suc d ≡ suc (n + d) = omega arith in
        ap (λ m. number_in (entries_before ss m) (namespace.States k) name) next
        ∙ position_in_front (has_name (namespace.States k) name) (entries_before ss (n + d)) (option_map_or (entries_of ss (n + d)) (slice_get ss (n + d)) []) (entries_other (n + d) (out (n + d) (omega arith)))
        ∙ number_past n d out

-- ---- a set that is closed before the items that are added

module _ (law : SetsOpenInTurn) (f o : List Outline) (k : ℕ) (closed : IsClosed f (length f) k) where
  -- none of the items after f is in the set that item k of f begins
  pub closed_none : (j : ℕ) → length f ≤ j → stands_in (f ++ o) k j ≡ false
  closed_none j le = elim (cases_lt j (length (f ++ o))) [
    | inl within ↦ none_after law (f ++ o) k closed.0 closed.1 (inr (begin_out (f ++ o) k closed.0 begun)) j (omega (arith, le, before)) within
    | inr past ↦ past_out (f ++ o) k j past
  ]
    where
      before : closed.0 < length f
      before = closed.2

      begun : is_set_begin (f ++ o) closed.0 ≡ true
      begun = ap (λ (s : Option Outline). option_map_or (λ s. begins_set s.role) s false) (got_in_front f o closed.0 before) ∙ closed.3

  stands_in_front : (j : ℕ) → j < length f → stands_in (f ++ o) k j ≡ stands_in f k j
  stands_in_front j l = ap (λ p. option_map_or (nat_eq k) p false) (front_place f o j l)

  and_out : (b : Bool) (j : ℕ) → length f ≤ j → (b && stands_in (f ++ o) k j) ≡ false
  and_out b j le = ap (λ c. b && c) (closed_none j le) ∙ by b
    where
      by : (c : Bool) → (c && false) ≡ false
      by true = refl
      by false = refl

  pub closed_states : states_in (f ++ o) k ≡ states_in f k
  closed_states =
      ap (all_below (λ j. is_named_state (f ++ o) j && stands_in (f ++ o) k j)) (length-append f o)
      ∙ all_past (λ j. is_named_state (f ++ o) j && stands_in (f ++ o) k j) (length f) (length o) (λ j le m. and_out (is_named_state (f ++ o) j) j le)
      ∙ all_below_same (λ j. is_named_state (f ++ o) j && stands_in (f ++ o) k j) (λ j. is_named_state f j && stands_in f k j) (length f) (λ j l.
      ap₂ (λ (a b : Bool). a && b) (ap (λ (s : Option Outline). option_map_or (λ s. is_some (state_name s)) s false) (got_in_front f o j l)) (stands_in_front j l))

  -- the names of its states
  pub closed_number : (name : List ℕ) → number_in (entries (f ++ o)) (namespace.States k) name ≡ number_in (entries f) (namespace.States k) name
  closed_number name =
      ap (λ m. number_in (entries_before (f ++ o) m) (namespace.States k) name) (length-append f o)
      ∙ number_past k name (f ++ o) (length f) (length o) closed_none
      ∙ ap (λ (es : List Entry). number_in es (namespace.States k) name) (entries_in_front f o (length f) (omega arith))

  -- what names of states mean to its items
  module _ (got : (number : ℕ) → number < length (entries f) → slice_get (entries (f ++ o)) number ≡ slice_get (entries f) number) where
    pub closed_known : (i : ℕ) → i < length f → enclosing_set f i ≡ Some k → (name : List ℕ) → has_target (f ++ o) i name ≡ has_target f i name
    closed_known i l place name =
        ap (λ p. option_map_or (λ m. is_some (number_in (entries (f ++ o)) (namespace.States m) name)) p false) (front_place f o i l ∙ place)
        ∙ ap (λ (n : Option ℕ). is_some n) (closed_number name)
        ∙ sym (ap (λ p. option_map_or (λ m. is_some (number_in (entries f) (namespace.States m) name)) p false) place)

    closed_in : (name : List ℕ) → state_in (f ++ o) k name ≡ state_in f k name
    closed_in name =
        ap (option_and_then (λ number. option_map (λ e. e.item) (slice_get (entries (f ++ o)) number))) (closed_number name)
        ∙ by (number_in (entries f) (namespace.States k) name) (number_there (entries f) (namespace.States k) name)
      where
        by : (n : Option ℕ) → IfSome n (λ number. number < length (entries f))
            → option_and_then (λ number. option_map (λ e. e.item) (slice_get (entries (f ++ o)) number)) n ≡ option_and_then (λ number. option_map (λ e. e.item) (slice_get (entries f) number)) n
        by None h = refl
        by (Some number) h = ap (option_map (λ (e : Entry). e.item)) (got number h)

    pub closed_leads : (i : ℕ) → i < length f → enclosing_set f i ≡ Some k → (name : List ℕ) → state_of (f ++ o) i name ≡ state_of f i name
    closed_leads i l place name =
        ap (option_and_then (λ m. state_in (f ++ o) m name)) (front_place f o i l ∙ place)
        ∙ closed_in name
        ∙ sym (ap (option_and_then (λ m. state_in f m name)) place)

    pub closed_first : (i : ℕ) → i < length f → enclosing_set f i ≡ Some k → is_first_state (f ++ o) i ≡ is_first_state f i
    closed_first i l place =
        ap (λ (s : Option Outline). option_map_or (λ name. option_map_or (nat_eq i) (state_of (f ++ o) i name) false) (option_and_then state_name s) false) (got_in_front f o i l)
        ∙ by (name_of_state f i)
      where
        by : (n : Option (List ℕ)) → option_map_or (λ name. option_map_or (nat_eq i) (state_of (f ++ o) i name) false) n false ≡ option_map_or (λ name. option_map_or (nat_eq i) (state_of f i name) false) n false
        by None = refl
        by (Some name) = ap (λ (p : Option ℕ). option_map_or (nat_eq i) p false) (closed_leads i l place name)

  -- whether an item of it is faulty
  module _ (fs rs : List ProgramItem) (count : length f ≡ length fs) where
    pub closed_faulty : has_faulty (fs ++ rs) (f ++ o) k ≡ has_faulty fs f k
    closed_faulty =
        ap (any_below (λ j. is_faulty_item (fs ++ rs) j && stands_in (f ++ o) k j)) (length-append f o)
        ∙ any_past (λ j. is_faulty_item (fs ++ rs) j && stands_in (f ++ o) k j) (length f) (length o) (λ j le m. and_out (is_faulty_item (fs ++ rs) j) j le)
        ∙ any_below_same (λ j. is_faulty_item (fs ++ rs) j && stands_in (f ++ o) k j) (λ j. is_faulty_item fs j && stands_in f k j) (length f) (λ j l.
        ap₂ (λ (a b : Bool). a && b) (ap (λ (x : Option ProgramItem). option_map_or (λ x. is_none x.tree) x false) (got_in_front fs rs j (omega (arith, l, count)))) (stands_in_front j l))
