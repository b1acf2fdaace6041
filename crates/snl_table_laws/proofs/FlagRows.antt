-- The rows of event flags, by the numbers of the flags.
use Rattle.std.proofs.Common.{◌≡◌, ℕ, zero, suc, ◌<◌, ◌≤◌, Bool, true, false, ◌&&◌, nat_eq, nat_lt, cond, List, [], ◌∷◌, ◌++◌, length, map, get_or, slice_get, Option, Some, None, is_some, option_map, option_and_then, option_to_list, refl, ap, ◌∙◌, sym, subst, arith}
use Rattle.std.specs.Prelude.{if◌then◌else◌}
use Rattle.std.specs.List.{All, AllByRecursion as Each, AllPairs, cons_option, filter_map, position, position_or_len}
use Rattle.std.specs.Option.{option_map_or}
use Rattle.std.proofs.lemmas.Bool.{and_parts, eq-eqb, eqb-true, lt-ltb, ne_eqb}
use Rattle.std.proofs.lemmas.List.Elements.{All-append, All-from_recursion, All-get_or, All-map, All-nil, All-weaker, recursion_from_All}
use Rattle.std.proofs.lemmas.List.Quantifiers.{position-Some}
use Rattle.std.proofs.lemmas.List.Sums.{position_or_len_is}
use Rattle.std.proofs.lemmas.Option.{get_or_from_slice_get, none-some, same_Some, slice_get-get_or, slice_get_within}
use Rattle.std.proofs.lemmas.List.Kept.{AllPairs-from_increasing}
use Rattle.snl_scope.specs.BelowLaws.{all_below_rises, each_below, each_passing}
use Rattle.snl_codes.specs.declared.code.Code.TheVariants.{E08, E09}
use Rattle.snl_scope.specs.declared.facts.Declaration.{Declaration}
use Rattle.snl_scope.specs.declared.facts.Scope.{Scope}
use Rattle.snl_scope.specs.declared.facts.Scope.TheVariants as scope
use Rattle.snl_scope.specs.declared.names.namespaces.Namespace.TheVariants as namespace
use Rattle.snl_summary.specs.declared.summary.Outline.{Outline}
use Rattle.snl_summary.specs.declared.summary.Variable.{Variable}
use Rattle.snl_scope.specs.Below.{all_below}
use Rattle.snl_scope.specs.Flags.{declares_flag, flag_number, flags_of, is_first, is_flag}
use Rattle.snl_scope.specs.Linked.{declaration_at, entry_declaration, scope_in, variable_declaration}
use Rattle.snl_scope.specs.Names.{Entry, declared_entry, entries, entries_before, entries_of, has_own_scope, named_entry, scope_at, scope_of, set_entries, set_name, state_entries}
use Rattle.snl_scope.specs.Order.{state_name}
use Rattle.snl_scope.specs.Places.{enclosing_set}
use Rattle.snl_item_check.specs.Items.{ProgramItem, outlines_of}
use Rattle.snl_check.specs.Tables.{flag_row, flag_row_at, flag_rows, tables_of}
use Rattle.snl_table_laws.specs.Flags.{IsRowOf, row_numbered}

-- ---- an entry that declares something is in a scope

pub record Declares (e : Entry) (v : Variable) : Type 0 where
  pub scope : Scope
  pub is : scope_in e.namespace ≡ Some scope

abbrev HasScope : Entry → Type 0
HasScope e = (v : Variable) → e.variable ≡ Some v → Declares e v

option_each : {X : Type 0} (P : X → Type 0) (o : Option X) → ((x : X) → P x) → All P (option_to_list o)
option_each P None h = λ k d lt. absurd (omega (arith, lt))
option_each P (Some x) h = All-from_recursion P (x ∷ []) (h x, tt)

place_scope : (set : Option ℕ) (e : Entry) → e.namespace ≡ scope_at set → HasScope e
place_scope None e at = λ v h. record { scope = scope.Program; is = ap scope_in at }
place_scope (Some k) e at = λ v h. record { scope = scope.StateSet k; is = ap scope_in at }

own_scope : (ss : List Outline) (i : ℕ) (s : Outline) (e : Entry) → e.namespace ≡ scope_of ss i s → HasScope e
own_scope ss i s e =
    elim (has_own_scope s.role) as (λ (b : Bool). e.namespace ≡ (if b then namespace.State i else scope_at (enclosing_set ss i)) → HasScope e)
    [ true ↦ λ at. λ v h. record { scope = scope.State i; is = ap scope_in at } | false ↦ λ at. place_scope (enclosing_set ss i) e at ]

no_variable : (e : Entry) → e.variable ≡ None → HasScope e
no_variable e none = λ v h. absurd (none-some v (sym none ∙ h))

names_scoped : (f : List ℕ → Entry) → ((name : List ℕ) → (f name).variable ≡ None) → (names : List (List ℕ)) → All HasScope (map f names)
names_scoped f none names = All-map HasScope f names (λ k d lt. no_variable (f (get_or names k d)) (none (get_or names k d)))

states_scoped : (set : Option ℕ) (i : ℕ) (s : Outline) → All HasScope (state_entries set i s)
states_scoped None i s = All-nil HasScope
states_scoped (Some k) i s = names_scoped (named_entry (namespace.States k) i (Some E09)) (λ name. refl) (option_to_list (state_name s))

item_scoped : (ss : List Outline) (i : ℕ) (s : Outline) → All HasScope (entries_of ss i s)
item_scoped ss i s =
    All-append HasScope (set_entries i s ++ state_entries (enclosing_set ss i) i s) (map (declared_entry (scope_of ss i s) i) s.declares)
    (All-append HasScope (set_entries i s) (state_entries (enclosing_set ss i) i s)
    (names_scoped (named_entry namespace.Sets i (Some E08)) (λ name. refl) (option_to_list (set_name s))) (states_scoped (enclosing_set ss i) i s))
    (All-map HasScope (declared_entry (scope_of ss i s) i) s.declares (λ k d lt. own_scope ss i s (declared_entry (scope_of ss i s) i (get_or s.declares k d)) refl))

entries_scoped : (ss : List Outline) (n : ℕ) → All HasScope (entries_before ss n)
entries_scoped ss zero = All-nil HasScope
entries_scoped ss (suc n) =
    All-append HasScope (entries_before ss n) (option_map_or (entries_of ss n) (slice_get ss n) []) (entries_scoped ss n)
    (elim (slice_get ss n) as (λ (o : Option Outline). All HasScope (option_map_or (entries_of ss n) o [])) [ None ↦ All-nil HasScope | Some s ↦ item_scoped ss n s ])

-- ---- event flags are declarations

pub record IsDeclared (ss : List Outline) (number : ℕ) : Type 0 where
  pub declaration : Declaration
  pub declared : declaration_at ss number ≡ Some declaration

entry_declared : (ss : List Outline) (number : ℕ) (e : Entry) (v : Variable) → slice_get (entries ss) number ≡ Some e → e.variable ≡ Some v → IsDeclared ss number
entry_declared ss number e v at says =
    let here : get_or (entries ss) number e ≡ e = get_or_from_slice_get (entries ss) number e e at in
    let scoped : HasScope e =
    subst HasScope here (All-get_or HasScope (entries ss) number e (slice_get_within (entries ss) number e at) (entries_scoped ss (length ss))) in
    let place = scoped v says in
    record {
      declaration = variable_declaration e.item e.token place.scope v;
      declared = ap (option_and_then entry_declaration) at
          ∙ ap (option_and_then (λ w. option_map (λ s. variable_declaration e.item e.token s w) (scope_in e.namespace))) says
          ∙ ap (option_map (λ s. variable_declaration e.item e.token s v)) place.is;
    }

flag_declared : (ss : List Outline) (number : ℕ) → is_flag (entries ss) number ≡ true → IsDeclared ss number
flag_declared ss number h = by_entry (slice_get (entries ss) number) refl h
  where
    by_variable : (e : Entry) → slice_get (entries ss) number ≡ Some e → (o : Option Variable) → e.variable ≡ o → declares_flag o ≡ true → IsDeclared ss number
    by_variable e at None says flag = absurd cc
    by_variable e at (Some v) says flag = entry_declared ss number e v at says

    by_entry : (o : Option Entry) → slice_get (entries ss) number ≡ o → option_map_or (λ e. declares_flag e.variable && is_first (entries ss) number e) o false ≡ true → IsDeclared ss number
    by_entry None at flag = absurd cc
    by_entry (Some e) at flag = by_variable e at e.variable refl (and_parts (declares_flag e.variable) (is_first (entries ss) number e) flag).0

-- ---- lists of numbers that pass

all_pass : (test : ℕ → Bool) (n : ℕ) → All (λ k. test k ≡ true) (all_below test n)
all_pass test n = All-from_recursion (λ k. test k ≡ true) (all_below test n) (each_passing (λ k. test k ≡ true) test n (λ k is. is))

all_under : (test : ℕ → Bool) (n : ℕ) → All (λ k. k < n) (all_below test n)
all_under test n = All-from_recursion (λ k. k < n) (all_below test n) (each_below (λ k. k < n) test n (λ k l is. l))

abbrev Rise : List ℕ → Type 0
Rise numbers = AllPairs (λ a b. a < b) numbers

all_rise : (test : ℕ → Bool) (n : ℕ) → Rise (all_below test n)
all_rise test n = AllPairs-from_increasing (all_below test n) (all_below_rises test n)

-- ---- numbers by places

number_found : (number : ℕ) (flags : List ℕ) (k : ℕ) → position (nat_eq number) flags ≡ Some k → slice_get flags k ≡ Some number
number_found number flags k h =
    let is = position-Some (nat_eq number) flags k 0 h in
    slice_get-get_or flags k 0 is.0 ∙ ap Some (sym (eqb-true number (get_or flags k 0) is.1))

place_found : (flags : List ℕ) (k : ℕ) → Rise flags → k < length flags → position (nat_eq (get_or flags k 0)) flags ≡ Some k
place_found flags k rise h =
    let test : ℕ → Bool = nat_eq (get_or flags k 0) in
    let place : position_or_len test flags ≡ k =
    position_or_len_is test flags k 0 (omega (arith, h))
    (λ j lt. let less = rise j k 0 lt h in ne_eqb (get_or flags k 0) (get_or flags j 0) (λ e. omega (arith, less, e)))
    (λ lt. eq-eqb (get_or flags k 0) (get_or flags k 0) refl) in
    ap (λ n. cond (nat_lt n (length flags)) (Some n) None) place ∙ ap (λ b. cond b (Some k) None) (lt-ltb k (length flags) h)

-- ---- rows by places

rows_kept : {X Y : Type 0} (f : X → Option Y) (xs : List X) → Each (λ x. is_some (f x) ≡ true) xs → (k : ℕ) → slice_get (filter_map f xs) k ≡ option_and_then f (slice_get xs k)
rows_kept f [] h k = refl
rows_kept {Y = Y} f (x ∷ xs) h k = by (f x) refl h.0 k (rows_kept f xs h.1)
  where
    by : (o : Option Y) → f x ≡ o → is_some o ≡ true → (k : ℕ) → ((n : ℕ) → slice_get (filter_map f xs) n ≡ option_and_then f (slice_get xs n))
        → slice_get (cons_option o (filter_map f xs)) k ≡ option_and_then f (slice_get (x ∷ xs) k)
    by None e some k rest = absurd cc
    by (Some y) e some zero rest = sym e
    by (Some y) e some (suc k) rest = rest k

rows_count : {X Y : Type 0} (f : X → Option Y) (xs : List X) → Each (λ x. is_some (f x) ≡ true) xs → length (filter_map f xs) ≡ length xs
rows_count f [] h = refl
rows_count {Y = Y} f (x ∷ xs) h = by (f x) h.0 (rows_count f xs h.1)
  where
    by : (o : Option Y) → is_some o ≡ true → length (filter_map f xs) ≡ length xs → length (cons_option o (filter_map f xs)) ≡ length (x ∷ xs)
    by None some rest = absurd cc
    by (Some y) some rest = ap suc rest

-- each flag has a row
flags_given : (xs : List ProgramItem) (ss : List Outline) → Each (λ number. is_some (flag_row_at xs ss number) ≡ true) (flags_of ss)
flags_given xs ss =
    recursion_from_All (λ number. is_some (flag_row_at xs ss number) ≡ true) (flags_of ss)
    (All-weaker (λ number. is_flag (entries ss) number ≡ true) (λ number. is_some (flag_row_at xs ss number) ≡ true)
    (λ number h. ap (λ o. is_some (option_map (flag_row xs ss) o)) (flag_declared ss number h).declared)
    (flags_of ss) (all_pass (is_flag (entries ss)) (length (entries ss))))

-- The flag with a number is at the place before it among the flags.
pub record IsAtPlace (ss : List Outline) (number n : ℕ) : Type 0 where
  pub place : ℕ
  pub number_is : n ≡ suc place
  pub at : slice_get (flags_of ss) place ≡ Some number

at_place : (ss : List Outline) (number n : ℕ) → flag_number ss number ≡ Some n → IsAtPlace ss number n
at_place ss number n h = by (position (nat_eq number) (flags_of ss)) refl h
  where
    by : (o : Option ℕ) → position (nat_eq number) (flags_of ss) ≡ o → option_map suc o ≡ Some n → IsAtPlace ss number n
    by None e f = absurd cc
    by (Some k) e f = record { place = k; number_is = sym (same_Some (suc k) n f); at = number_found number (flags_of ss) k e }

pub flag_has_row : (text : List ℕ) (xs : List ProgramItem) (number n : ℕ) → flag_number (outlines_of text xs) number ≡ Some n → IsRowOf text xs number n
flag_has_row text xs number n h =
    let ss : List Outline = outlines_of text xs in
    let is = at_place ss number n h in
    let is_one : is_flag (entries ss) number ≡ true =
    subst (λ m. is_flag (entries ss) m ≡ true) (get_or_from_slice_get (flags_of ss) is.place number number is.at)
    (All-get_or (λ m. is_flag (entries ss) m ≡ true) (flags_of ss) is.place number (slice_get_within (flags_of ss) is.place number is.at) (all_pass (is_flag (entries ss)) (length (entries ss)))) in
    let says = flag_declared ss number is_one in
    record {
      declaration = says.declaration;
      declared = says.declared;
      row = ap (row_numbered (flag_rows xs ss)) is.number_is ∙ rows_kept (flag_row_at xs ss) (flags_of ss) (flags_given xs ss) is.place
          ∙ ap (option_and_then (flag_row_at xs ss)) is.at ∙ ap (option_map (flag_row xs ss)) says.declared;
    }

pub row_has_flag : (text : List ℕ) (xs : List ProgramItem) (n : ℕ) → 1 ≤ n → n ≤ length (tables_of text xs).flags → (number : ℕ) × (flag_number (outlines_of text xs) number ≡ Some n)
row_has_flag text xs zero some few = absurd (omega (arith, some))
row_has_flag text xs (suc k) some few =
    let ss : List Outline = outlines_of text xs in
    let count : length (flag_rows xs ss) ≡ length (flags_of ss) = rows_count (flag_row_at xs ss) (flags_of ss) (flags_given xs ss) in
    let within : k < length (flags_of ss) = omega (arith, few, count) in
    (get_or (flags_of ss) k 0, ap (option_map suc) (place_found (flags_of ss) k (all_rise (is_flag (entries ss)) (length (entries ss))) within))

pub one_flag : (ss : List Outline) (one other n : ℕ) → flag_number ss one ≡ Some n → flag_number ss other ≡ Some n → one ≡ other
one_flag ss one other n h k =
    let a = at_place ss one n h in
    let b = at_place ss other n k in
    let same : a.place ≡ b.place = omega (arith, a.number_is, b.number_is) in
    same_Some one other (sym a.at ∙ ap (slice_get (flags_of ss)) same ∙ b.at)
