-- A state by another name means to the others what it meant, but for both names: the entry that has
-- another name is in the namespace of its state set, where no other state has either name.
use Rattle.std.proofs.Common.{◌≡◌, ℕ, zero, suc, ◌<◌, Bool, true, false, ◌&&◌, ◌||◌, if◌then◌else◌, List, [], ◌∷◌, ◌++◌, length, map, nat_eq, Option, None, Some, is_some, slice_get, ◌⊎◌, inl, inr, refl, sym, ap, ap₂, subst, ◌∙◌, arith, true≢false}
use Rattle.std.specs.List.{list_any}
use Rattle.std.specs.Option.{option_and_then, option_map, option_map_or, option_to_list}
use Rattle.std.specs.Str.{bytes_eq}
use Rattle.std.proofs.lemmas.Bool.{and_parts, and_right, or_parts}
use Rattle.std.proofs.lemmas.Bool.Decides.{Decides-eqb}
use Rattle.std.proofs.lemmas.List.{map-append}
use Rattle.std.proofs.lemmas.List.Folds.{list_any-append}
use Rattle.std.proofs.lemmas.Option.{option_and_then_some, slice_get_within}
use Rattle.std.proofs.lemmas.Slice.Eq.{bytes_eq-Decides}
use Rattle.snl_codes.specs.declared.code.Code.TheVariants.{E08, E09}
use Rattle.snl_facts.specs.Positions.{any_position}
use Rattle.snl_scope.specs.declared.names.namespaces.Namespace.{Namespace}
use Rattle.snl_scope.specs.declared.names.namespaces.Namespace.TheVariants as namespace
use Rattle.snl_summary.specs.declared.summary.Declared.{Declared}
use Rattle.snl_summary.specs.declared.summary.Outline.{Outline}
use Rattle.snl_summary.specs.declared.summary.Role.{Role}
use Rattle.snl_summary.specs.declared.summary.Role.TheVariants as role
use Rattle.snl_scope.specs.Linked.{entry_declaration, is_first_state, name_of_state, state_in, state_of}
use Rattle.snl_scope.specs.Names.{Entry, declared_entry, entries, entries_before, entries_of, has_name, has_own_scope, named_entry, same_namespace, scope_at, set_entries, state_entries}
use Rattle.snl_scope.specs.Order.{is_state_word, state_name}
use Rattle.snl_scope.specs.Places.{begins_set, enclosing_set}
use Rattle.snl_scope.specs.Renamed.{MeanAlike, NamesAnew, RenamesState, state_names}
use Rattle.snl_scope.specs.Spoken.{bound, is_among}
use Rattle.snl_scope.proofs.Equality.{name_same}
use Rattle.snl_scope.proofs.FirstNamed.{Located, locate}
use Rattle.snl_scope.proofs.OneReplaced.{Replaced, SayAlike, first_stays, mean_alike, names_in, one_replaced, place, state_stays}
use Rattle.snl_scope.proofs.Untouched.{entries_at}

not_true : (b : Bool) → (b ≡ true → ⊥) → b ≡ false
not_true true h = absurd (h refl)
not_true false h = refl

settled : (b : Bool) → (b || true) ≡ true
settled true = refl
settled false = refl

-- ---- a state is found by its name

module _ (os : List Outline) (i k : ℕ) (name : List ℕ) (o : Outline) (there : slice_get os i ≡ Some o) (named : state_name o ≡ Some name) (placed : enclosing_set os i ≡ Some k) where
  abbrev has : Entry → Bool
  has = has_name (namespace.States k) name

  any_in_item : list_any has (entries_of os i o) ≡ true
  any_in_item =
      let scope = if has_own_scope o.role then namespace.State i else scope_at (enclosing_set os i) in
      let declared : List Entry = map (declared_entry scope i) o.declares in
      list_any-append has (set_entries i o ++ state_entries (enclosing_set os i) i o) declared
      ∙ ap (λ (b : Bool). b || list_any has declared)
      (list_any-append has (set_entries i o) (state_entries (enclosing_set os i) i o)
      ∙ ap (λ (b : Bool). list_any has (set_entries i o) || b) found ∙ settled (list_any has (set_entries i o)))
    where
      found : list_any has (state_entries (enclosing_set os i) i o) ≡ true
      found =
          ap (λ (p : Option ℕ). list_any has (state_entries p i o)) placed
          ∙ ap (λ (n : Option (List ℕ)). list_any has (map (named_entry (namespace.States k) i (Some E09)) (option_to_list n))) named
          ∙ ap (λ (b : Bool). b || false) (name_same (named_entry (namespace.States k) i (Some E09) name))

  any_before : (n : ℕ) → i < n → list_any has (entries_before os n) ≡ true
  any_before zero l = absurd (omega (arith, l))
  any_before (suc n) l =
      list_any-append has (entries_before os n) (option_map_or (entries_of os n) (slice_get os n) [])
      ∙ by (any_before n) (nat_eq i n) refl
    where
      by : (i < n → list_any has (entries_before os n) ≡ true) → (b : Bool) → nat_eq i n ≡ b → (list_any has (entries_before os n) || list_any has (option_map_or (entries_of os n) (slice_get os n) [])) ≡ true
      by rest true h =
          let here : i ≡ n = (Decides-eqb i n).0 h in
          ap (λ (m : ℕ). list_any has (entries_before os n) || list_any has (option_map_or (entries_of os m) (slice_get os m) [])) (sym here)
          ∙ ap (λ (p : Option Outline). list_any has (entries_before os n) || list_any has (option_map_or (entries_of os i) p [])) there
          ∙ ap (λ (b : Bool). list_any has (entries_before os n) || b) any_in_item
          ∙ settled (list_any has (entries_before os n))
      by rest false h =
          let apart : i ≡ n → ⊥ = λ e. true≢false (sym ((Decides-eqb i n).1 e) ∙ h) in
          let below : i < n = omega (arith, l, apart) in
          ap (λ (b : Bool). b || list_any has (option_map_or (entries_of os n) (slice_get os n) [])) (rest below)

  leads_there : state_in os k name ≡ None → ⊥
  leads_there none = by (locate has (entries os))
    where
      by : Located has (entries os) → ⊥
      by (inl a) = true≢false (sym (any_before (length os) (slice_get_within os i o there)) ∙ any_position has (entries os) ∙ ap is_some a.number)
      by (inr w) =
          let found : state_in os k name ≡ Some w.1.item =
          ap (option_and_then (λ number. option_map (λ (e : Entry). e.item) (slice_get (entries os) number))) w.2.number
          ∙ ap (option_map (λ (e : Entry). e.item)) w.2.there in
          absurd (cc)

-- In a set in which no state of a name is found, no item is a state of that name.
unnamed_there : (os : List Outline) (i k : ℕ) (name : List ℕ) → enclosing_set os i ≡ Some k → state_in os k name ≡ None → name_of_state os i ≡ Some name → ⊥
unnamed_there os i k name placed none named =
    option_and_then_some state_name (slice_get os i) name named (λ o there is. leads_there os i k name o there is placed none)

-- So an item that has a name is in another set, or the name is another one.
elsewhere : (os : List Outline) (i k set : ℕ) (name other : List ℕ) → enclosing_set os i ≡ Some k → name_of_state os i ≡ Some name → state_in os set other ≡ None → (nat_eq k set && bytes_eq name other) ≡ false
elsewhere os i k set name other placed named none = not_true (nat_eq k set && bytes_eq name other) (λ yes.
    let parts = and_parts (nat_eq k set) (bytes_eq name other) yes in
    let here : k ≡ set = (Decides-eqb k set).0 parts.0 in
    let same : name ≡ other = (bytes_eq-Decides name other).0 parts.1 in
    unnamed_there os i set other (placed ∙ ap Some here) none (named ∙ ap Some same))

-- A state to which its own name leads is the first of that name.
first_of_own : (os : List Outline) (i : ℕ) (name : List ℕ) (o : Outline) → slice_get os i ≡ Some o → state_name o ≡ Some name → state_of os i name ≡ Some i → is_first_state os i ≡ true
first_of_own os i name o there named leads =
    ap (λ (p : Option (List ℕ)). option_map_or (λ n. option_map_or (nat_eq i) (state_of os i n) false) p false) (ap (option_and_then state_name) there ∙ named)
    ∙ ap (λ (p : Option ℕ). option_map_or (nat_eq i) p false) leads
    ∙ (Decides-eqb i i).1 refl

-- ---- entries of one item

-- the name of a state in its state set
abbrev pub state_entry : ℕ → List ℕ → ℕ → Entry
state_entry i name k = named_entry (namespace.States k) i (Some E09) name

-- what a state declares
abbrev own_entries : Option ℕ → ℕ → Role → List Declared → List Entry
own_entries p i r ds = map (declared_entry (if has_own_scope r then namespace.State i else scope_at p) i) ds

begins_none : (r : Role) → bound r ≡ role.Other → begins_set r ≡ false
begins_none role.State e = refl
begins_none role.Other e = refl
begins_none role.SetBegin e = absurd cc
begins_none role.SetEnd e = refl

module _ (o : Outline) (bounds : bound o.role ≡ role.Other) (word : is_state_word o.opening ≡ true) (name : List ℕ) (second : o.second ≡ Some name) where
  own_name : state_name o ≡ Some name
  own_name = ap (λ (b : Bool). if b then o.second else None) word ∙ second

  begins_nothing : (i : ℕ) → set_entries i o ≡ []
  begins_nothing i = ap (λ (b : Bool). map (named_entry namespace.Sets i (Some E08)) (option_to_list (if b then o.second else None))) (begins_none o.role bounds)

  one_state : (p : Option ℕ) (i : ℕ) → state_entries p i o ≡ map (state_entry i name) (option_to_list p)
  one_state None i = refl
  one_state (Some k) i = ap (λ (n : Option (List ℕ)). map (named_entry (namespace.States k) i (Some E09)) (option_to_list n)) own_name

  state_brings : (p : Option ℕ) (i : ℕ) → entries_at p i o ≡ map (state_entry i name) (option_to_list p) ++ own_entries p i o.role o.declares
  state_brings p i = ap₂ (λ (a b : List Entry). a ++ b ++ own_entries p i o.role o.declares) (begins_nothing i) (one_state p i)

  -- a name that isn't its own
  other_name : (other : List ℕ) → is_among (option_to_list o.second) other ≡ false → bytes_eq other name ≡ false
  other_name other silent = (or_parts (bytes_eq other name) false (sym (ap (λ (n : Option (List ℕ)). is_among (option_to_list n) other) second) ∙ silent)).0

-- ---- entries of both items

module _ (old new : Outline) (renames : RenamesState old new) (a b : List ℕ) (was : old.second ≡ Some a) (is : new.second ≡ Some b) where
  bounds_now : bound new.role ≡ role.Other
  bounds_now = ap bound renames.role ∙ renames.bounds

  name_was : state_name old ≡ Some a
  name_was = own_name old renames.bounds renames.was_word a was

  name_is : state_name new ≡ Some b
  name_is = own_name new bounds_now renames.is_word b is

  pub by_entry : {A : Type 0} (f : Entry → A) (p : Option ℕ) (i : ℕ) → ((k : ℕ) → p ≡ Some k → f (state_entry i b k) ≡ f (state_entry i a k)) → map f (entries_at p i new) ≡ map f (entries_at p i old)
  by_entry {A} f p i same =
      ap (map f) (state_brings new bounds_now renames.is_word b is p i)
      ∙ map-append f (map (state_entry i b) (option_to_list p)) (own_entries p i new.role new.declares)
      ∙ ap₂ (λ (x y : List A). x ++ y) (each p same) (ap₂ (λ (r : Role) (ds : List Declared). map f (own_entries p i r ds)) renames.role renames.declares)
      ∙ sym (map-append f (map (state_entry i a) (option_to_list p)) (own_entries p i old.role old.declares))
      ∙ sym (ap (map f) (state_brings old renames.bounds renames.was_word a was p i))
    where
      each : (q : Option ℕ) → ((k : ℕ) → q ≡ Some k → f (state_entry i b k) ≡ f (state_entry i a k)) → map f (map (state_entry i b) (option_to_list q)) ≡ map f (map (state_entry i a) (option_to_list q))
      each None told = refl
      each (Some k) told = ap (λ (x : A). x ∷ []) (told k refl)

  -- names of states are in namespaces of their own, so nothing else is another one
  elsewhere_same : (s : Namespace) → ((k : ℕ) → same_namespace s (namespace.States k) ≡ false) → (name : List ℕ) (p : Option ℕ) (i : ℕ)
      → map (has_name s name) (entries_at p i new) ≡ map (has_name s name) (entries_at p i old)
  elsewhere_same s apart name p i =
      by_entry (has_name s name) p i (λ k h.
      ap (λ (x : Bool). x && bytes_eq name b) (apart k) ∙ sym (ap (λ (x : Bool). x && bytes_eq name a) (apart k)))

  others : (s : Namespace) (name : List ℕ) → is_among (names_in [] (state_names old new) s) name ≡ false → (p : Option ℕ) (i : ℕ) → map (has_name s name) (entries_at p i new) ≡ map (has_name s name) (entries_at p i old)
  others namespace.Program name silent = elsewhere_same namespace.Program (λ k. refl) name
  others (namespace.StateSet m) name silent = elsewhere_same (namespace.StateSet m) (λ k. refl) name
  others (namespace.State m) name silent = elsewhere_same (namespace.State m) (λ k. refl) name
  others namespace.Sets name silent = elsewhere_same namespace.Sets (λ k. refl) name
  others (namespace.States m) name silent = λ p i.
      let both =
      or_parts (is_among (option_to_list old.second) name) (is_among (option_to_list new.second) name)
      (sym (list_any-append (bytes_eq name) (option_to_list old.second) (option_to_list new.second)) ∙ silent) in
      by_entry (has_name (namespace.States m) name) p i (λ k h.
      and_right (nat_eq m k) (bytes_eq name b) (other_name new bounds_now renames.is_word b is name both.1)
      ∙ sym (and_right (nat_eq m k) (bytes_eq name a) (other_name old renames.bounds renames.was_word a was name both.0)))

  pub say_alike : SayAlike old new [] (state_names old new)
  say_alike = record {
    role = renames.role;
    named = ap is_some name_is ∙ sym (ap is_some name_was);
    items = λ p i. by_entry (λ e. e.item) p i (λ k h. refl);
    declarations = λ p i. by_entry entry_declaration p i (λ k h. refl);
    variables = λ p i. by_entry (λ e. e.variable) p i (λ k h. refl);
    others = others;
  }

-- ---- all items

module _ (before : List Outline) (old new : Outline) (after : List Outline) where
  abbrev ss : List Outline
  ss = before ++ (old ∷ after)

  abbrev ts : List Outline
  ts = before ++ (new ∷ after)

  module _ (anew : NamesAnew ss ts (length before) old new) (a b : List ℕ) (was : old.second ≡ Some a) (is : new.second ≡ Some b)
      (was_own : state_of ss (length before) a ≡ Some (length before)) (is_own : state_of ts (length before) b ≡ Some (length before))
      (set : ℕ) (in_set : enclosing_set ss (length before) ≡ Some set) where
    alike : SayAlike old new [] (state_names old new)
    alike = say_alike old new anew.renames a b was is

    stays : (i : ℕ) → enclosing_set ts i ≡ enclosing_set ss i
    stays = place before old new after [] (state_names old new) alike

    -- each name is free on one side
    no_old : state_in ts set a ≡ None
    no_old =
        sym (ap (option_and_then (λ k. state_in ts k a)) (stays (length before) ∙ in_set))
        ∙ sym (ap (option_and_then (state_of ts (length before))) was) ∙ anew.was_free

    no_new : state_in ss set b ≡ None
    no_new =
        sym (ap (option_and_then (λ k. state_in ss k b)) in_set)
        ∙ sym (ap (option_and_then (state_of ss (length before))) is) ∙ anew.is_free

    -- so another state that keeps its name has neither of them, or is in another set
    module _ (i : ℕ) (kept : name_of_state ts i ≡ name_of_state ss i) (k : ℕ) (placed : enclosing_set ss i ≡ Some k) (name : List ℕ) (named : name_of_state ss i ≡ Some name) where
      not_old : (nat_eq k set && bytes_eq name a) ≡ false
      not_old = elsewhere ts i k set name a (stays i ∙ placed) (kept ∙ named) no_old

      not_new : (nat_eq k set && bytes_eq name b) ≡ false
      not_new = elsewhere ss i k set name b placed named no_new

      unlike : (j : ℕ) → j ≡ length before → map (has_name (namespace.States k) name) (entries_at (enclosing_set ss j) j new) ≡ map (has_name (namespace.States k) name) (entries_at (enclosing_set ss j) j old)
      unlike j here =
          by_entry old new anew.renames a b was is (has_name (namespace.States k) name) (enclosing_set ss j) j
          (λ m at. let one : m ≡ set = the_set m at in
          ap (λ (n : ℕ). nat_eq k n && bytes_eq name b) one ∙ not_new
          ∙ sym (ap (λ (n : ℕ). nat_eq k n && bytes_eq name a) one ∙ not_old))
        where
          the_set : (m : ℕ) → enclosing_set ss j ≡ Some m → m ≡ set
          the_set m at = let found : Some m ≡ Some set = sym at ∙ ap (enclosing_set ss) here ∙ in_set in cc

    firsts : (i : ℕ) → is_first_state ts i ≡ is_first_state ss i
    firsts i = by (one_replaced old new after before i)
      where
        by : (slice_get ts i ≡ slice_get ss i) ⊎ Replaced (length before) old new i (slice_get ss i) (slice_get ts i) → is_first_state ts i ≡ is_first_state ss i
        by (inl e) =
            let kept : name_of_state ts i ≡ name_of_state ss i = ap (option_and_then state_name) e in
            first_stays before old new after [] (state_names old new) alike i kept
            (λ name named. state_stays before old new after [] (state_names old new) alike i name
            (λ k placed. unlike i kept k placed name named))
        by (inr w) =
            first_of_own ts i b new w.is (name_is old new anew.renames a b was is) (subst (λ (m : ℕ). state_of ts m b ≡ Some m) (sym w.here) is_own)
            ∙ sym (first_of_own ss i a old w.was (name_was old new anew.renames a b was is) (subst (λ (m : ℕ). state_of ss m a ≡ Some m) (sym w.here) was_own))

    means_alike : MeanAlike ss ts [] (state_names old new)
    means_alike = mean_alike before old new after [] (state_names old new) alike firsts

  pub renamed_alike : NamesAnew ss ts (length before) old new → MeanAlike ss ts [] (state_names old new)
  renamed_alike anew =
      option_and_then_some (state_of ss (length before)) old.second (length before) anew.was_own (λ a was was_own.
      option_and_then_some (state_of ts (length before)) new.second (length before) anew.is_own (λ b is is_own.
      option_and_then_some (λ k. state_in ss k a) (enclosing_set ss (length before)) (length before) was_own (λ set in_set own.
      means_alike anew a b was is was_own is_own set in_set)))
