-- One item in the place of another: what the entries of both tell alike, all entries tell alike. So
-- all means what it meant, but for the names of which this isn't so.
use Rattle.std.proofs.Common.{◌≡◌, ℕ, zero, suc, Bool, false, if◌then◌else◌, List, [], ◌∷◌, ◌++◌, length, map, nat_eq, Option, None, Some, is_some, slice_get, ◌⊎◌, inl, inr, refl, sym, ap, ap₂, ◌∙◌}
use Rattle.std.specs.List.{position}
use Rattle.std.specs.Option.{option_and_then, option_map, option_map_or, option_or, option_to_list}
use Rattle.std.specs.Str.{bytes_eq}
use Rattle.std.proofs.lemmas.Bool.{or_parts}
use Rattle.std.proofs.lemmas.List.{length-map, map-append}
use Rattle.std.proofs.lemmas.List.Folds.{list_any-append}
use Rattle.std.proofs.lemmas.Option.{slice_get-map}
use Rattle.snl_codes.specs.declared.code.Code.TheVariants.{E08}
use Rattle.snl_facts.specs.Positions.{position_map}
use Rattle.snl_scope.specs.declared.names.namespaces.Namespace.{Namespace}
use Rattle.snl_scope.specs.declared.names.namespaces.Namespace.TheVariants as namespace
use Rattle.snl_summary.specs.declared.summary.Outline.{Outline}
use Rattle.snl_summary.specs.declared.summary.Role.{Role}
use Rattle.snl_summary.specs.declared.summary.Role.TheVariants as role
use Rattle.snl_scope.specs.Clauses.{resolve_in}
use Rattle.snl_scope.specs.Linked.{declaration_at, entry_declaration, has_target, is_first_state, name_of_state, state_in, state_of}
use Rattle.snl_scope.specs.Names.{Entry, entries, entries_before, entries_of, has_name, named_entry, number_in, resolve, set_entries}
use Rattle.snl_scope.specs.Order.{state_name}
use Rattle.snl_scope.specs.Places.{begins_set, enclosing_set}
use Rattle.snl_scope.specs.Renamed.{MeanAlike}
use Rattle.snl_scope.specs.Spoken.{bound, is_among, spoken, spoken_by}
use Rattle.snl_scope.proofs.Untouched.{entries_at, place_stays}

-- ---- one item

-- An item that begins no state set brings in no name of one.
pub no_set : (o : Outline) → o.role ≡ role.Other → (i : ℕ) → set_entries i o ≡ []
no_set o other i = ap (λ (r : Role). map (named_entry namespace.Sets i (Some E08)) (option_to_list (if begins_set r then o.second else None))) other

-- ---- names of two items

abbrev pub both_spoken : Outline → Outline → List (List ℕ)
both_spoken old new = spoken_by (old ∷ []) ++ spoken_by (new ∷ [])

-- A name of which neither item speaks.
pub both_silent : (old new : Outline) (name : List ℕ) → is_among (both_spoken old new) name ≡ false
    → (is_among (spoken old) name ≡ false) × (is_among (spoken new) name ≡ false)
both_silent old new name h =
    let parts =
    or_parts (is_among (spoken_by (old ∷ [])) name) (is_among (spoken_by (new ∷ [])) name)
    (sym (list_any-append (bytes_eq name) (spoken_by (old ∷ [])) (spoken_by (new ∷ []))) ∙ h) in
    (silent old parts.0, silent new parts.1)
  where
    silent : (o : Outline) → is_among (spoken_by (o ∷ [])) name ≡ false → is_among (spoken o) name ≡ false
    silent o g = (or_parts (is_among (spoken o) name) false (sym (list_any-append (bytes_eq name) (spoken o) []) ∙ g)).0

-- ---- one item among all

-- The item with number j, where another one takes its place.
pub record Replaced (j : ℕ) (old new : Outline) (i : ℕ) (o p : Option Outline) : Type 0 where
  pub here : i ≡ j
  pub was : o ≡ Some old
  pub is : p ≡ Some new

module _ (old new : Outline) (after : List Outline) where
  as_many : (before : List Outline) → length (before ++ (new ∷ after)) ≡ length (before ++ (old ∷ after))
  as_many [] = refl
  as_many (s ∷ before) = ap suc (as_many before)

  pub one_replaced : (before : List Outline) (i : ℕ)
      → (slice_get (before ++ (new ∷ after)) i ≡ slice_get (before ++ (old ∷ after)) i)
      ⊎ Replaced (length before) old new i (slice_get (before ++ (old ∷ after)) i) (slice_get (before ++ (new ∷ after)) i)
  one_replaced [] zero = inr (record { here = refl; was = refl; is = refl })
  one_replaced [] (suc i) = inl refl
  one_replaced (s ∷ before) zero = inl refl
  one_replaced (s ∷ before) (suc i) = further (one_replaced before i)
    where
      further : (slice_get (before ++ (new ∷ after)) i ≡ slice_get (before ++ (old ∷ after)) i) ⊎ Replaced (length before) old new i (slice_get (before ++ (old ∷ after)) i) (slice_get (before ++ (new ∷ after)) i)
          → (slice_get (before ++ (new ∷ after)) i ≡ slice_get (before ++ (old ∷ after)) i) ⊎ Replaced (suc (length before)) old new (suc i) (slice_get (before ++ (old ∷ after)) i) (slice_get (before ++ (new ∷ after)) i)
      further (inl e) = inl e
      further (inr w) = inr (record { here = ap suc w.here; was = w.was; is = w.is })

-- The names in a namespace by which two items differ: some of states, some of all else.
abbrev pub names_in : (used led_to : List (List ℕ)) → Namespace → List (List ℕ)
names_in used led_to (namespace.States k) = led_to
names_in used led_to _ = used

-- What two items say alike, wherever they are: their entries differ by such names at most.
pub record SayAlike (old new : Outline) (used led_to : List (List ℕ)) : Type 0 where
  pub role : new.role ≡ old.role
  pub named : is_some (state_name new) ≡ is_some (state_name old)
  pub items : (p : Option ℕ) (i : ℕ) → map (λ e. e.item) (entries_at p i new) ≡ map (λ e. e.item) (entries_at p i old)
  pub declarations : (p : Option ℕ) (i : ℕ) → map entry_declaration (entries_at p i new) ≡ map entry_declaration (entries_at p i old)
  pub variables : (p : Option ℕ) (i : ℕ) → map (λ e. e.variable) (entries_at p i new) ≡ map (λ e. e.variable) (entries_at p i old)
  pub others : (s : Namespace) (name : List ℕ) → is_among (names_in used led_to s) name ≡ false → (p : Option ℕ) (i : ℕ) → map (has_name s name) (entries_at p i new) ≡ map (has_name s name) (entries_at p i old)

module _ (before : List Outline) (old new : Outline) (after : List Outline) (used led_to : List (List ℕ)) (alike : SayAlike old new used led_to) where
  abbrev ss : List Outline
  ss = before ++ (old ∷ after)

  abbrev ts : List Outline
  ts = before ++ (new ∷ after)

  -- what is the same of both items is so at each place
  pub at_each : {A : Type 0} (f : Option Outline → A) (i : ℕ) → (i ≡ length before → f (Some new) ≡ f (Some old)) → f (slice_get ts i) ≡ f (slice_get ss i)
  at_each f i same = by (one_replaced old new after before i)
    where
      by : (slice_get ts i ≡ slice_get ss i) ⊎ Replaced (length before) old new i (slice_get ss i) (slice_get ts i) → f (slice_get ts i) ≡ f (slice_get ss i)
      by (inl e) = ap f e
      by (inr w) = ap f w.is ∙ same w.here ∙ sym (ap f w.was)

  pub place : (i : ℕ) → enclosing_set ts i ≡ enclosing_set ss i
  place i = sym (place_stays before (old ∷ []) (new ∷ []) after (ap (λ (r : Role). bound r ∷ []) (sym alike.role)) i)

  -- ---- entries of all items

  -- what the entries of both items tell alike, where they are
  abbrev pub TellAlike : {A : Type 0} → (Entry → A) → Type 0
  TellAlike f = (i : ℕ) → i ≡ length before → map f (entries_at (enclosing_set ss i) i new) ≡ map f (entries_at (enclosing_set ss i) i old)

  module _ {A : Type 0} (f : Entry → A) (same : TellAlike f) where
    entries_at_each : (i : ℕ) → map f (option_map_or (entries_of ts i) (slice_get ts i) []) ≡ map f (option_map_or (entries_of ss i) (slice_get ss i) [])
    entries_at_each i =
        ap (λ (p : Option ℕ). map f (option_map_or (entries_at p i) (slice_get ts i) [])) (place i)
        ∙ at_each (λ (o : Option Outline). map f (option_map_or (entries_at (enclosing_set ss i) i) o [])) i (same i)

    first_alike : (n : ℕ) → map f (entries_before ts n) ≡ map f (entries_before ss n)
    first_alike zero = refl
    first_alike (suc n) =
        map-append f (entries_before ts n) (option_map_or (entries_of ts n) (slice_get ts n) [])
        ∙ ap₂ (λ (a b : List A). a ++ b) (first_alike n) (entries_at_each n)
        ∙ sym (map-append f (entries_before ss n) (option_map_or (entries_of ss n) (slice_get ss n) []))

    all_alike : map f (entries ts) ≡ map f (entries ss)
    all_alike = first_alike (length ts) ∙ ap (λ (n : ℕ). map f (entries_before ss n)) (as_many old new after before)

    -- what an entry is, by its number
    pub at_number : (n : ℕ) → option_map f (slice_get (entries ts) n) ≡ option_map f (slice_get (entries ss) n)
    at_number n = sym (slice_get-map f (entries ts) n) ∙ ap (λ l. slice_get l n) all_alike ∙ slice_get-map f (entries ss) n

  -- and what may be told of it
  pub then_at_number : {A : Type 0} (f : Entry → Option A) → TellAlike f → (n : ℕ) → option_and_then f (slice_get (entries ts) n) ≡ option_and_then f (slice_get (entries ss) n)
  then_at_number {A = A} f same n =
      mapped_first (slice_get (entries ts) n)
      ∙ ap (option_and_then (λ (x : Option A). x)) (at_number f same n)
      ∙ sym (mapped_first (slice_get (entries ss) n))
    where
      mapped_first : (o : Option Entry) → option_and_then f o ≡ option_and_then (λ (x : Option A). x) (option_map f o)
      mapped_first None = refl
      mapped_first (Some e) = refl

  same_items : TellAlike (λ e. e.item)
  same_items i here = alike.items (enclosing_set ss i) i

  as_many_entries : length (entries ts) ≡ length (entries ss)
  as_many_entries =
      let item = λ (e : Entry). e.item in
      sym (length-map (entries ts) item) ∙ ap length (all_alike item same_items) ∙ length-map (entries ss) item

  same_declaration : (n : ℕ) → declaration_at ts n ≡ declaration_at ss n
  same_declaration n = then_at_number entry_declaration (λ i here. alike.declarations (enclosing_set ss i) i) n

  -- ---- names

  -- the first that has a name has the number that it had, where that is told of both items
  same_number : (s : Namespace) (name : List ℕ) → TellAlike (has_name s name) → number_in (entries ts) s name ≡ number_in (entries ss) s name
  same_number s name same =
      position_map (λ (b : Bool). b) (has_name s name) (entries ts)
      ∙ ap (position (λ (b : Bool). b)) (all_alike (has_name s name) same)
      ∙ sym (position_map (λ (b : Bool). b) (has_name s name) (entries ss))

  same_state : (k : ℕ) (name : List ℕ) → TellAlike (has_name (namespace.States k) name) → state_in ts k name ≡ state_in ss k name
  same_state k name same =
      ap (option_and_then (λ n. option_map (λ e. e.item) (slice_get (entries ts) n))) (same_number (namespace.States k) name same)
      ∙ there (number_in (entries ss) (namespace.States k) name)
    where
      there : (o : Option ℕ) → option_and_then (λ n. option_map (λ e. e.item) (slice_get (entries ts) n)) o ≡ option_and_then (λ n. option_map (λ e. e.item) (slice_get (entries ss) n)) o
      there None = refl
      there (Some n) = at_number (λ e. e.item) same_items n

  -- the name leads to the same in the set in which an item is, if both tell so of that set
  pub state_stays : (i : ℕ) (name : List ℕ) → ((k : ℕ) → enclosing_set ss i ≡ Some k → TellAlike (has_name (namespace.States k) name)) → state_of ts i name ≡ state_of ss i name
  state_stays i name same = ap (option_and_then (λ k. state_in ts k name)) (place i) ∙ there (enclosing_set ss i) refl
    where
      there : (p : Option ℕ) → enclosing_set ss i ≡ p → option_and_then (λ k. state_in ts k name) p ≡ option_and_then (λ k. state_in ss k name) p
      there None h = refl
      there (Some k) h = same_state k name (same k h)

  -- a state with the name that it had is the first of that name if it was
  pub first_stays : (i : ℕ) → name_of_state ts i ≡ name_of_state ss i → ((name : List ℕ) → name_of_state ss i ≡ Some name → state_of ts i name ≡ state_of ss i name)
      → is_first_state ts i ≡ is_first_state ss i
  first_stays i named same =
      ap (λ (o : Option (List ℕ)). option_map_or (λ name. option_map_or (nat_eq i) (state_of ts i name) false) o false) named
      ∙ there (name_of_state ss i) refl
    where
      there : (o : Option (List ℕ)) → name_of_state ss i ≡ o
          → option_map_or (λ name. option_map_or (nat_eq i) (state_of ts i name) false) o false ≡ option_map_or (λ name. option_map_or (nat_eq i) (state_of ss i name) false) o false
      there None h = refl
      there (Some name) h = ap (λ (o : Option ℕ). option_map_or (nat_eq i) o false) (same name h)

  other_stays : (s : Namespace) (name : List ℕ) → is_among (names_in used led_to s) name ≡ false → TellAlike (has_name s name)
  other_stays s name silent i here = alike.others s name silent (enclosing_set ss i) i

  number_stays : (s : Namespace) (name : List ℕ) → is_among (names_in used led_to s) name ≡ false → number_in (entries ts) s name ≡ number_in (entries ss) s name
  number_stays s name silent = same_number s name (other_stays s name silent)

  -- a name of a state that isn't among those by which the items differ
  same_target : (i : ℕ) (name : List ℕ) → is_among led_to name ≡ false → has_target ts i name ≡ has_target ss i name
  same_target i name silent = ap (λ (p : Option ℕ). option_map_or (λ k. is_some (number_in (entries ts) (namespace.States k) name)) p false) (place i) ∙ there (enclosing_set ss i)
    where
      there : (p : Option ℕ) → option_map_or (λ k. is_some (number_in (entries ts) (namespace.States k) name)) p false ≡ option_map_or (λ k. is_some (number_in (entries ss) (namespace.States k) name)) p false
      there None = refl
      there (Some k) = ap is_some (number_stays (namespace.States k) name silent)

  -- any other name that isn't
  module _ (name : List ℕ) (silent : is_among used name ≡ false) where
    same_resolved : (p : Option ℕ) → resolve (entries ts) p name ≡ resolve (entries ss) p name
    same_resolved None = number_stays namespace.Program name silent
    same_resolved (Some k) = ap₂ option_or (number_stays (namespace.StateSet k) name silent) (number_stays namespace.Program name silent)

    pub around_alike : (i : ℕ) → resolve (entries ts) (enclosing_set ts i) name ≡ resolve (entries ss) (enclosing_set ss i) name
    around_alike i = ap (λ (p : Option ℕ). resolve (entries ts) p name) (place i) ∙ same_resolved (enclosing_set ss i)

    resolves_alike : (i : ℕ) → resolve_in ts i name ≡ resolve_in ss i name
    resolves_alike i = ap₂ option_or (number_stays (namespace.State i) name silent) (around_alike i)

  pub mean_alike : ((i : ℕ) → is_first_state ts i ≡ is_first_state ss i) → MeanAlike ss ts used led_to
  mean_alike firsts = record {
    count = as_many old new after before;
    begins = λ i. at_each (λ (o : Option Outline). option_map_or (λ s. begins_set s.role) o false) i (λ here. ap begins_set alike.role);
    named = λ i. at_each (λ (o : Option Outline). option_map_or (λ s. is_some (state_name s)) o false) i (λ here. alike.named);
    places = place;
    numbers = as_many_entries;
    declared = same_declaration;
    resolved = λ i name silent. resolves_alike name silent i;
    states = λ i name silent. state_stays i name (λ k h. other_stays (namespace.States k) name silent);
    targets = same_target;
    firsts = firsts;
  }
