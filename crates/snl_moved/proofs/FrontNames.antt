-- The names of a text whose last items are quiet: those that the items in front bring keep their
-- numbers, a name in front resolves as without the items after, and the event flags are the same.
use Rattle.std.proofs.Common.{◌≡◌, ◌⊎◌, ℕ, zero, suc, ◌+◌, ◌-◌, ◌<◌, ◌≤◌, ◌&&◌, ◌||◌, Bool, true, false, not, cond, List, [], ◌∷◌, ◌++◌, length, map, nat_eq, nat_lt, slice_get, position, Option, Some, None, IfSome, is_some, option_map, if◌then◌else◌, inl, inr, refl, ap, ap₂, sym, subst, ◌∙◌, arith, append-nil, append_assoc, length-append}
use Rattle.std.specs.List.{AllByRecursion, list_any, position_or_len}
use Rattle.std.specs.Option.{option_and_then, option_map_or, option_or, option_to_list}
use Rattle.std.specs.Str.{bytes_eq}
use Rattle.std.proofs.lemmas.Bool.{and_left, false≢true, ltb-true, ne_eqb, not-true, or_parts}
use Rattle.snl_facts.specs.Booleans.{and_first, and_second}
use Rattle.snl_facts.specs.Each.{each_append, each_by, each_map, each_weaker}
use Rattle.snl_facts.specs.Positions.{position_cons}
use Rattle.snl_codes.specs.declared.code.Code.TheVariants.{E08, E09}
use Rattle.snl_scope.specs.declared.names.namespaces.Namespace.{Namespace}
use Rattle.snl_scope.specs.declared.names.namespaces.Namespace.TheVariants as namespace
use Rattle.snl_summary.specs.declared.summary.Declared.{Declared}
use Rattle.snl_summary.specs.declared.summary.Outline.{Outline}
use Rattle.snl_scope.specs.Below.{all_below, last_below}
use Rattle.snl_scope.specs.BelowLaws.{all_below_same, any_below_same}
use Rattle.snl_scope.specs.Clauses.{resolve_in}
use Rattle.snl_scope.specs.Flags.{declares_flag, flags_of, is_first, is_flag}
use Rattle.snl_scope.specs.Names.{Entry, declared_entry, entries, entries_before, entries_of, has_name, has_own_scope, named_entry, number_in, resolve, same_namespace, scope_at, scope_of, set_entries, set_name, state_entries}
use Rattle.snl_scope.specs.Order.{state_name}
use Rattle.snl_scope.specs.Places.{begins_set, enclosing_set, ends_between, ends_set, is_set_begin, is_set_end, item_is, open_before}
use Rattle.snl_moved.specs.Quiet.{are_quiet, is_flag_declared, is_hidden, is_later_after, is_nothing, is_quiet, quiet_along}
use Rattle.snl_check.specs.SetsLaws.{SetsOpenInTurn}
use Rattle.snl_moved.proofs.SpanLaws.{each_got}

-- ---- two lists, one after another

pub got_in_front : {A : Type 0} (xs ys : List A) (i : ℕ) → i < length xs → slice_get (xs ++ ys) i ≡ slice_get xs i
got_in_front [] ys i l = absurd (omega (arith, l))
got_in_front (x ∷ xs) ys zero l = refl
got_in_front (x ∷ xs) ys (suc i) l = got_in_front xs ys i (omega (arith, l))

got_after : {A : Type 0} (xs ys : List A) (i : ℕ) → slice_get ys i ≡ slice_get (xs ++ ys) (length xs + i)
got_after [] ys i = let same : i ≡ 0 + i = omega arith in ap (slice_get ys) same
got_after (x ∷ xs) ys i = let next : suc (length xs + i) ≡ suc (length xs) + i = omega arith in got_after xs ys i ∙ ap (slice_get (x ∷ (xs ++ ys))) next

-- where a test passes first
position_append : {A : Type 0} (p : A → Bool) (xs ys : List A) → position p (xs ++ ys) ≡ option_or (position p xs) (option_map (λ n. length xs + n) (position p ys))
position_append p [] ys = by (position p ys)
  where
    by : (o : Option ℕ) → o ≡ option_or None (option_map (λ n. 0 + n) o)
    by None = refl
    by (Some n) = let same : n ≡ 0 + n = omega arith in ap Some same
position_append p (x ∷ xs) ys =
    position_cons p x (xs ++ ys)
    ∙ ap (λ o. cond (p x) (Some 0) (option_map suc o)) (position_append p xs ys)
    ∙ by (p x) (position p xs) (position p ys)
    ∙ ap (λ o. option_or o (option_map (λ n. suc (length xs) + n) (position p ys))) (sym (position_cons p x xs))
  where
    by : (b : Bool) (o q : Option ℕ)
        → cond b (Some 0) (option_map suc (option_or o (option_map (λ n. length xs + n) q))) ≡ option_or (cond b (Some 0) (option_map suc o)) (option_map (λ n. suc (length xs) + n) q)
    by true o q = refl
    by false (Some k) q = refl
    by false None None = refl
    by false None (Some n) = let next : suc (length xs + n) ≡ suc (length xs) + n = omega arith in ap Some next

position_none : {A : Type 0} (p : A → Bool) (xs : List A) → AllByRecursion (λ x. p x ≡ false) xs → position p xs ≡ None
position_none p [] h = refl
position_none p (x ∷ xs) h = position_cons p x xs ∙ ap (λ b. cond b (Some 0) (option_map suc (position p xs))) h.0 ∙ ap (option_map suc) (position_none p xs h.1)

pub position_in_front : {A : Type 0} (p : A → Bool) (xs ys : List A) → AllByRecursion (λ x. p x ≡ false) ys → position p (xs ++ ys) ≡ position p xs
position_in_front p xs ys h = position_append p xs ys ∙ ap (λ o. option_or (position p xs) (option_map (λ n. length xs + n) o)) (position_none p ys h) ∙ by (position p xs)
  where
    by : (o : Option ℕ) → option_or o None ≡ o
    by None = refl
    by (Some n) = refl

position_within : {A : Type 0} (p : A → Bool) (xs : List A) → IfSome (position p xs) (λ n. n < length xs)
position_within p xs = by (nat_lt (position_or_len p xs) (length xs)) refl
  where
    by : (b : Bool) → nat_lt (position_or_len p xs) (length xs) ≡ b → IfSome (cond b (Some (position_or_len p xs)) None) (λ n. n < length xs)
    by true e = ltb-true (position_or_len p xs) (length xs) e
    by false e = tt

-- ---- numbers below one

last_below_same : (p q : ℕ → Bool) (n : ℕ) → ((k : ℕ) → k < n → p k ≡ q k) → last_below p n ≡ last_below q n
last_below_same p q zero h = refl
last_below_same p q (suc n) h = ap (λ b. if b then Some n else last_below p n) (h n (omega arith)) ∙ ap (λ o. if q n then Some n else o) (last_below_same p q n (λ k l. h k (omega (arith, l))))

-- none from a number on passes
all_below_front : (p : ℕ → Bool) (a b : ℕ) → ((k : ℕ) → a ≤ k → p k ≡ false) → all_below p (a + b) ≡ all_below p a
all_below_front p a zero h = let same : a + 0 ≡ a = omega arith in ap (all_below p) same
all_below_front p a (suc b) h =
    let next : a + suc b ≡ suc (a + b) = omega arith in
    ap (all_below p) next ∙ ap (λ c. all_below p (a + b) ++ (if c then (a + b) ∷ [] else [])) (h (a + b) (omega arith)) ∙ append-nil (all_below p (a + b)) ∙ all_below_front p a b h

-- ---- the places of the items in front

module _ (f o : List Outline) where
  pub item_in_front : (test : Outline → Bool) (i : ℕ) → i < length f → item_is test (f ++ o) i ≡ item_is test f i
  item_in_front test i l = ap (λ s. option_map_or test s false) (got_in_front f o i l)

  ends_in_front : (k i : ℕ) → i ≤ length f → ends_between (f ++ o) k i ≡ ends_between f k i
  ends_in_front k i l =
      any_below_same (λ j. nat_lt k j && is_set_end (f ++ o) j) (λ j. nat_lt k j && is_set_end f j) i (λ j m.
      ap (λ b. nat_lt k j && b) (item_in_front (λ s. ends_set s.role) j (omega (arith, l, m))))

  open_in_front : (i : ℕ) → i ≤ length f → open_before (f ++ o) i ≡ open_before f i
  open_in_front i l =
      last_below_same (λ k. is_set_begin (f ++ o) k && not (ends_between (f ++ o) k i)) (λ k. is_set_begin f k && not (ends_between f k i)) i (λ k m.
      ap₂ (λ (a b : Bool). a && not b) (item_in_front (λ s. begins_set s.role) k (omega (arith, l, m))) (ends_in_front k i l))

  pub front_place : (i : ℕ) → i < length f → enclosing_set (f ++ o) i ≡ enclosing_set f i
  front_place i l =
      ap₂ (λ (b : Bool) (p : Option ℕ). if b then p else None) (item_in_front (λ s. not (begins_set s.role)) i l) (open_in_front i (omega (arith, l)))

  -- ---- and the names that they bring

  same_entries : (n : ℕ) → n < length f → (s : Option Outline) → option_map_or (entries_of (f ++ o) n) s [] ≡ option_map_or (entries_of f n) s []
  same_entries n l None = refl
  same_entries n l (Some s) =
      ap (λ p. set_entries n s ++ state_entries p n s ++ map (declared_entry (if has_own_scope s.role then namespace.State n else scope_at p) n) s.declares) (front_place n l)

  pub entries_in_front : (n : ℕ) → n ≤ length f → entries_before (f ++ o) n ≡ entries_before f n
  entries_in_front zero l = refl
  entries_in_front (suc n) l =
      ap₂ (λ (a b : List Entry). a ++ b) (entries_in_front n (omega (arith, l)))
      (ap (λ s. option_map_or (entries_of (f ++ o) n) s []) (got_in_front f o n l) ∙ same_entries n l (slice_get f n))

-- ---- the names that quiet items bring after them

-- Names of a namespace that only items from number n on are in, or that no name resolves in.
abbrev pub IsHiddenFrom : ℕ → Namespace → Type 0
IsHiddenFrom n namespace.Program = ⊥
IsHiddenFrom n (namespace.StateSet k) = n ≤ k
IsHiddenFrom n (namespace.State i) = n ≤ i
IsHiddenFrom n namespace.Sets = Unit {0}
IsHiddenFrom n (namespace.States k) = Unit {0}

-- What an item after n others brings: a name that those can't name, of no event flag.
pub record IsAfterFront (n : ℕ) (e : Entry) : Type 0 where
  pub hidden : IsHiddenFrom n e.namespace
  pub no_flag : declares_flag e.variable ≡ false

-- If items are in a later set, the set that is open begins there or after.
abbrev IsOpenFrom : ℕ → Bool → Option ℕ → Type 0
IsOpenFrom least later p = later ≡ true → (k : ℕ) × (least ≤ k) × (p ≡ Some k)

module _ (least n : ℕ) (after : least ≤ n) where
  open_next : (begins ends later : Bool) (p : Option ℕ) → IsOpenFrom least later p → IsOpenFrom least (if begins then true else (later && not ends)) (if begins then Some n else (if ends then None else p))
  open_next true ends later p h e = (n, after, refl)
  open_next false false true p h e = h refl
  open_next false true true p h e = absurd (false≢true e)
  open_next false ends false p h e = absurd (false≢true e)

  scope_hidden : (nothing own begins later : Bool) (p : Option ℕ) → IsOpenFrom least later p → (nothing || own || (later && not begins)) ≡ true
      → (nothing ≡ true) ⊎ IsHiddenFrom least (if own then namespace.State n else scope_at (if begins then None else p))
  scope_hidden true own begins later p h e = inl refl
  scope_hidden false true begins later p h e = inr after
  scope_hidden false false false true p h e = let set = h refl in inr (subst (λ (q : Option ℕ). IsHiddenFrom least (scope_at q)) (sym set.2) set.1)
  scope_hidden false false true true p h e = absurd (false≢true e)
  scope_hidden false false begins false p h e = absurd (false≢true e)

  sets_after : (s : Outline) → AllByRecursion (IsAfterFront least) (set_entries n s)
  sets_after s =
      each_map (IsAfterFront least) (named_entry namespace.Sets n (Some E08)) (option_to_list (set_name s))
      (each_by (λ name. IsAfterFront least (named_entry namespace.Sets n (Some E08) name)) (λ name. record { hidden = tt; no_flag = refl }) (option_to_list (set_name s)))

  states_after : (p : Option ℕ) (s : Outline) → AllByRecursion (IsAfterFront least) (state_entries p n s)
  states_after None s = tt
  states_after (Some k) s =
      each_map (IsAfterFront least) (named_entry (namespace.States k) n (Some E09)) (option_to_list (state_name s))
      (each_by (λ name. IsAfterFront least (named_entry (namespace.States k) n (Some E09) name)) (λ name. record { hidden = tt; no_flag = refl }) (option_to_list (state_name s)))

  declared_after : (scope : Namespace) (ds : List Declared) → list_any is_flag_declared ds ≡ false → (is_nothing ds ≡ true) ⊎ IsHiddenFrom least scope → AllByRecursion (IsAfterFront least) (map (declared_entry scope n) ds)
  declared_after scope [] none h = tt
  declared_after scope (d ∷ ds) none (inl h) = absurd (false≢true h)
  declared_after scope (d ∷ ds) none (inr h) =
      let parts = or_parts (is_flag_declared d) (list_any is_flag_declared ds) none in
      (record { hidden = h; no_flag = parts.0 }, declared_after scope ds parts.1 (inr h))

module _ (law : SetsOpenInTurn) where
  module _ (ss : List Outline) (least : ℕ) where
    module _ (n : ℕ) (s : Outline) (after : least ≤ n) (here : slice_get ss n ≡ Some s) (later : Bool) (within : IsOpenFrom least later (open_before ss n)) where
      next_within : IsOpenFrom least (is_later_after later s) (open_before ss (suc n))
      next_within = subst (IsOpenFrom least (is_later_after later s)) (sym (law.opened ss n s here)) (open_next least n after (begins_set s.role) (ends_set s.role) later (open_before ss n) within)

      scope_after : is_hidden later s ≡ true → (is_nothing s.declares ≡ true) ⊎ IsHiddenFrom least (scope_of ss n s)
      scope_after hidden =
          subst (λ (p : Option ℕ). (is_nothing s.declares ≡ true) ⊎ IsHiddenFrom least (if has_own_scope s.role then namespace.State n else scope_at p)) (sym (law.placed ss n s here))
          (scope_hidden least n after (is_nothing s.declares) (has_own_scope s.role) (begins_set s.role) later (open_before ss n) within hidden)

      entries_after : is_quiet later s ≡ true → AllByRecursion (IsAfterFront least) (entries_of ss n s)
      entries_after quiet =
          let silent = and_first (is_nothing s.clauses && not (list_any is_flag_declared s.declares)) (is_hidden later s) quiet in
          let hidden = and_second (is_nothing s.clauses && not (list_any is_flag_declared s.declares)) (is_hidden later s) quiet in
          let no_flag = not-true (list_any is_flag_declared s.declares) (and_second (is_nothing s.clauses) (not (list_any is_flag_declared s.declares)) silent) in
          each_append (IsAfterFront least) (set_entries n s ++ state_entries (enclosing_set ss n) n s) (map (declared_entry (scope_of ss n s) n) s.declares)
          (each_append (IsAfterFront least) (set_entries n s) (state_entries (enclosing_set ss n) n s) (sets_after least n after s) (states_after least n after (enclosing_set ss n) s))
          (declared_after least n after (scope_of ss n s) s.declares no_flag (scope_after hidden))

    -- what the items from number n on bring is added to what those before bring
    AddsHidden : ℕ → ℕ → Type 0
    AddsHidden n count = (t : List Entry) × (entries_before ss (n + count) ≡ entries_before ss n ++ t) × AllByRecursion (IsAfterFront least) t

    adds_more : (n count : ℕ) (s : Outline) → slice_get ss n ≡ Some s → AllByRecursion (IsAfterFront least) (entries_of ss n s) → AddsHidden (suc n) count → AddsHidden n (suc count)
    unfolding AddsHidden
    adds_more n count s here own rest =
        let next : n + suc count ≡ suc n + count = omega arith in (
          entries_of ss n s ++ rest.0,
          ap (entries_before ss) next ∙ rest.1 ∙ ap (λ (e : Option Outline). (entries_before ss n ++ option_map_or (entries_of ss n) e []) ++ rest.0) here ∙ append_assoc (entries_before ss n) (entries_of ss n s) rest.0,
          each_append (IsAfterFront least) (entries_of ss n s) rest.0 own rest.2,
        )

    all_after : (os : List Outline) (n : ℕ) (later : Bool) → least ≤ n → ((i : ℕ) → slice_get os i ≡ slice_get ss (n + i)) → IsOpenFrom least later (open_before ss n) → is_some (quiet_along later os) ≡ true → AddsHidden n (length os)
    unfolding AddsHidden
    all_after [] n later after at within quiet =
        let same : n + 0 ≡ n = omega arith in
        ([], ap (entries_before ss) same ∙ sym (append-nil (entries_before ss n)), tt)
    all_after (s ∷ os) n later after at within quiet =
        let same : n + 0 ≡ n = omega arith in
        let here : slice_get ss n ≡ Some s = sym (at 0 ∙ ap (slice_get ss) same) in
        by here (is_quiet later s) refl (all_after os (suc n) (is_later_after later s) (omega (arith, after)) next_at (next_within n s after here later within)) quiet
      where
        next_at : (i : ℕ) → slice_get os i ≡ slice_get ss (suc n + i)
        next_at i = let next : n + suc i ≡ suc n + i = omega arith in at (suc i) ∙ ap (slice_get ss) next

        by : slice_get ss n ≡ Some s → (b : Bool) → is_quiet later s ≡ b → (is_some (quiet_along (is_later_after later s) os) ≡ true → AddsHidden (suc n) (length os))
            → is_some (option_and_then (λ next. quiet_along next os) (if b then Some (is_later_after later s) else None)) ≡ true → AddsHidden n (suc (length os))
        by here true e rest q = adds_more n (length os) s here (entries_after n s after here later within e) (rest q)
        by here false e rest q = absurd (false≢true q)

  module _ (f o : List Outline) (quiet : are_quiet o ≡ true) where
    -- the entries of the items in front come first, and none after them can be named in front
    pub front_entries : (t : List Entry) × (entries (f ++ o) ≡ entries f ++ t) × AllByRecursion (IsAfterFront (length f)) t
    unfolding AddsHidden
    front_entries =
        let more = all_after (f ++ o) (length f) o (length f) false (omega arith) (got_after f o) (λ e. absurd (false≢true e)) quiet in (
          more.0,
          ap (entries_before (f ++ o)) (length-append f o) ∙ more.1 ∙ ap (λ (l : List Entry). l ++ more.0) (entries_in_front f o (length f) (omega arith)),
          more.2,
        )

-- ---- what is seen in front

-- A namespace that an item before number n sees.
abbrev pub IsSeenBelow : ℕ → Namespace → Type 0
IsSeenBelow n namespace.Program = Unit {0}
IsSeenBelow n (namespace.StateSet k) = k < n
IsSeenBelow n (namespace.State i) = i < n
IsSeenBelow n namespace.Sets = ⊥
IsSeenBelow n (namespace.States k) = ⊥

seen_apart : (n : ℕ) (s t : Namespace) → IsSeenBelow n s → IsHiddenFrom n t → same_namespace s t ≡ false
seen_apart n namespace.Sets t seen hidden = absurd seen
seen_apart n (namespace.States k) t seen hidden = absurd seen
seen_apart n namespace.Program namespace.Program seen hidden = absurd hidden
seen_apart n (namespace.StateSet a) (namespace.StateSet b) seen hidden = ne_eqb a b (λ same. omega (arith, seen, hidden, same))
seen_apart n (namespace.State a) (namespace.State b) seen hidden = ne_eqb a b (λ same. omega (arith, seen, hidden, same))
seen_apart n s t seen hidden = refl

none_named : (n : ℕ) (s : Namespace) (name : List ℕ) → IsSeenBelow n s → (t : List Entry) → AllByRecursion (IsAfterFront n) t → AllByRecursion (λ e. has_name s name e ≡ false) t
none_named n s name seen = each_weaker (IsAfterFront n) (λ e. has_name s name e ≡ false) (λ e h. and_left (same_namespace s e.namespace) (bytes_eq name e.name) (seen_apart n s e.namespace seen h.hidden))

module _ (law : SetsOpenInTurn) (f o : List Outline) (quiet : are_quiet o ≡ true) where
  pub front_number : (s : Namespace) → IsSeenBelow (length f) s → (name : List ℕ) → number_in (entries (f ++ o)) s name ≡ number_in (entries f) s name
  front_number s seen name =
      let more = front_entries law f o quiet in
      ap (λ (l : List Entry). number_in l s name) more.1 ∙ position_in_front (has_name s name) (entries f) more.0 (none_named (length f) s name seen more.0 more.2)

  place_resolves : (p : Option ℕ) → IfSome p (λ k. k < length f) → (name : List ℕ) → resolve (entries (f ++ o)) p name ≡ resolve (entries f) p name
  place_resolves None l name = front_number namespace.Program tt name
  place_resolves (Some k) l name = ap₂ option_or (front_number (namespace.StateSet k) l name) (front_number namespace.Program tt name)

  pub front_resolves : (i : ℕ) → i < length f → (name : List ℕ) → resolve_in (f ++ o) i name ≡ resolve_in f i name
  front_resolves i l name =
      ap₂ option_or (front_number (namespace.State i) l name)
      (ap (λ p. resolve (entries (f ++ o)) p name) (front_place f o i l) ∙ place_resolves (enclosing_set f i) (by (enclosing_set f i) refl) name)
    where
      by : (p : Option ℕ) → enclosing_set f i ≡ p → IfSome p (λ k. k < length f)
      by None e = tt
      by (Some k) e = let before = law.within f i k e in omega (arith, l, before)

  pub front_got : (number : ℕ) → number < length (entries f) → slice_get (entries (f ++ o)) number ≡ slice_get (entries f) number
  front_got number l =
      let more = front_entries law f o quiet in
      ap (λ (es : List Entry). slice_get es number) more.1 ∙ got_in_front (entries f) more.0 number l

-- ---- what a name resolves to is there

either_within : (n : ℕ) (a b : Option ℕ) → IfSome a (λ k. k < n) → IfSome b (λ k. k < n) → IfSome (option_or a b) (λ k. k < n)
either_within n None b h g = g
either_within n (Some k) b h g = h

pub number_there : (es : List Entry) (s : Namespace) (name : List ℕ) → IfSome (number_in es s name) (λ n. n < length es)
number_there es s name = position_within (has_name s name) es

resolved_around : (es : List Entry) (p : Option ℕ) (name : List ℕ) → IfSome (resolve es p name) (λ n. n < length es)
resolved_around es None name = number_there es namespace.Program name
resolved_around es (Some k) name =
    either_within (length es) (number_in es (namespace.StateSet k) name) (number_in es namespace.Program name) (number_there es (namespace.StateSet k) name) (number_there es namespace.Program name)

pub resolved_there : (ss : List Outline) (i : ℕ) (name : List ℕ) → IfSome (resolve_in ss i name) (λ n. n < length (entries ss))
resolved_there ss i name =
    either_within (length (entries ss)) (number_in (entries ss) (namespace.State i) name) (resolve (entries ss) (enclosing_set ss i) name)
    (number_there (entries ss) (namespace.State i) name) (resolved_around (entries ss) (enclosing_set ss i) name)

-- ---- event flags

module _ (es t : List Entry) where
  first_in_front : (k : ℕ) → k < length es → (e : Entry) → is_first (es ++ t) k e ≡ is_first es k e
  first_in_front k l e =
      ap (λ o. option_map_or (nat_eq k) o false) (position_append (has_name e.namespace e.name) es t)
      ∙ by (number_in es e.namespace e.name) (number_in t e.namespace e.name)
    where
      by : (o q : Option ℕ) → option_map_or (nat_eq k) (option_or o (option_map (λ n. length es + n) q)) false ≡ option_map_or (nat_eq k) o false
      by (Some n) q = refl
      by None None = refl
      by None (Some n) = ne_eqb k (length es + n) (λ same. omega (arith, l, same))

  flag_in_front : (k : ℕ) → k < length es → is_flag (es ++ t) k ≡ is_flag es k
  flag_in_front k l = ap (λ o. option_map_or (λ e. declares_flag e.variable && is_first (es ++ t) k e) o false) (got_in_front es t k l) ∙ by (slice_get es k)
    where
      by : (o : Option Entry) → option_map_or (λ e. declares_flag e.variable && is_first (es ++ t) k e) o false ≡ option_map_or (λ e. declares_flag e.variable && is_first es k e) o false
      by None = refl
      by (Some e) = ap (λ b. declares_flag e.variable && b) (first_in_front k l e)

  module _ (n : ℕ) (hidden : AllByRecursion (IsAfterFront n) t) where
    no_flag_after : (k : ℕ) → length es ≤ k → is_flag (es ++ t) k ≡ false
    no_flag_after k l =
        let place : length es + (k - length es) ≡ k = omega (arith, l) in
        ap (λ o. option_map_or (λ e. declares_flag e.variable && is_first (es ++ t) k e) o false) (sym (got_after es t (k - length es) ∙ ap (slice_get (es ++ t)) place))
        ∙ by (slice_get t (k - length es)) (each_got (IsAfterFront n) t (k - length es) hidden)
      where
        by : (o : Option Entry) → IfSome o (IsAfterFront n) → option_map_or (λ e. declares_flag e.variable && is_first (es ++ t) k e) o false ≡ false
        by None h = refl
        by (Some e) h = and_left (declares_flag e.variable) (is_first (es ++ t) k e) h.no_flag

    flags_in_front : all_below (is_flag (es ++ t)) (length (es ++ t)) ≡ all_below (is_flag es) (length es)
    flags_in_front =
        ap (all_below (is_flag (es ++ t))) (length-append es t) ∙ all_below_front (is_flag (es ++ t)) (length es) (length t) no_flag_after
        ∙ all_below_same (is_flag (es ++ t)) (is_flag es) (length es) flag_in_front

pub front_flags : SetsOpenInTurn → (f o : List Outline) → are_quiet o ≡ true → flags_of (f ++ o) ≡ flags_of f
front_flags law f o quiet =
    let more = front_entries law f o quiet in
    ap (λ (l : List Entry). all_below (is_flag l) (length l)) more.1 ∙ flags_in_front (entries f) more.0 (length f) more.2
