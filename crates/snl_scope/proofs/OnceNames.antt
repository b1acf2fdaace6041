-- No finding at a name that comes again comes twice.
use Rattle.std.proofs.Common.{◌≡◌, ℕ, zero, suc, ◌<◌, ◌≤◌, Bool, true, false, List, [], ◌∷◌, ◌++◌, filter, length, map, Option, None, Some, IfSome, is_some, slice_get, arith, refl, subst, sym, if◌then◌else◌}
use Rattle.std.specs.List.{AllByRecursion as Each}
use Rattle.std.specs.Option.{option_map_or, option_to_list}
use Rattle.snl_facts.specs.Each.{EachTwo, each_append, each_by, each_map, each_weaker, two_append, two_map, two_unmap, two_weaker}
use Rattle.snl_codes.specs.declared.code.Code.{Code}
use Rattle.snl_codes.specs.declared.code.Code.TheVariants.{E08, E09}
use Rattle.snl_scope.specs.declared.facts.LinkFault.{LinkFault}
use Rattle.snl_scope.specs.declared.names.namespaces.Namespace.{Namespace}
use Rattle.snl_scope.specs.declared.names.namespaces.Namespace.TheVariants as namespace
use Rattle.snl_summary.specs.declared.summary.Outline.{Outline}
use Rattle.snl_scope.specs.LinkedItems.{LinkedItems}
use Rattle.snl_scope.specs.Names.{Entry, declared_entry, entries, entries_before, entries_of, name_faults, named_entry, number_in, repetition, repetition_at, repetitions, scope_code, scope_of, set_entries, set_name, state_entries, told_by}
use Rattle.snl_summary.specs.RisingTokens.{TokensRise, declared_tokens}
use Rattle.snl_scope.specs.Order.{state_name}
use Rattle.snl_scope.specs.Places.{enclosing_set}
use Rattle.snl_scope.proofs.Families.{Differ, differ_by_item, differ_by_rank, differ_by_token, rank}
use Rattle.snl_scope.proofs.Pairs.{each_at, two_from_rising}

-- What an entry gives: its item, its token and its code.
pub record Gives (e : Entry) (f : LinkFault) : Type 0 where
  pub item : f.item ≡ e.item
  pub token : f.token ≡ e.token
  pub code : e.code ≡ Some f.code

-- Two entries do not give the same.
abbrev GiveApart : Entry → Entry → Type 0
GiveApart d e = (f g : LinkFault) → Gives d f → Gives e g → Differ f g

given_by : (e : Entry) (code : Option Code) → e.code ≡ code → Each (Gives e) (map (λ c. record { item = e.item; token = e.token; code = c }) (option_to_list code)) × EachTwo Differ (map (λ c. record { item = e.item; token = e.token; code = c }) (option_to_list code))
given_by e None h = (tt, tt)
given_by e (Some c) h = ((record { item = refl; token = refl; code = h }, tt), (tt, tt))

given_if : (b : Bool) (e : Entry) → Each (Gives e) (if b then repetition_at e else []) × EachTwo Differ (if b then repetition_at e else [])
given_if true e = given_by e e.code refl
given_if false e = (tt, tt)

given : (earlier : List Entry) (e : Entry) → Each (Gives e) (repetition earlier e) × EachTwo Differ (repetition earlier e)
given earlier e = given_if (is_some (number_in earlier e.namespace e.name)) e

-- what holds of all that the entries give
pub repeated_each : (P : LinkFault → Type 0) (earlier es : List Entry) → Each (λ e. (f : LinkFault) → Gives e f → P f) es → Each P (repetitions earlier es)
repeated_each P earlier [] h = tt
repeated_each P earlier (e ∷ es) h =
    each_append P (repetition earlier e) (repetitions (earlier ++ e ∷ []) es) (each_weaker (Gives e) P h.0 (repetition earlier e) (given earlier e).0) (repeated_each P (earlier ++ e ∷ []) es h.1)

repeated_once : (earlier es : List Entry) → EachTwo GiveApart es → EachTwo Differ (repetitions earlier es)
repeated_once earlier [] h = tt
repeated_once earlier (e ∷ es) h =
    two_append Differ (Gives e) (λ g. (f : LinkFault) → Gives e f → Differ f g) (λ f g p q. q f p) (repetition earlier e) (repetitions (earlier ++ e ∷ []) es)
    (given earlier e).0 (given earlier e).1
    (repeated_each (λ g. (f : LinkFault) → Gives e f → Differ f g) (earlier ++ e ∷ []) es (each_weaker (GiveApart e) (λ d. (g : LinkFault) → Gives d g → (f : LinkFault) → Gives e f → Differ f g) (λ d apart g q f p. apart f g p q) es h.0))
    (repeated_once (earlier ++ e ∷ []) es h.1)

-- An entry of one item, whose code, if it has one, is among those from one rank to another.
record IsOf (i low high : ℕ) (e : Entry) : Type 0 where
  item : e.item ≡ i
  code : IfSome e.code (λ c. (low ≤ rank c) × (rank c < high))

given_rank : (low high : ℕ) (e : Entry) (f : LinkFault) → IfSome e.code (λ c. (low ≤ rank c) × (rank c < high)) → Gives e f → (low ≤ rank f.code) × (rank f.code < high)
given_rank low high e f h p = subst (λ o. IfSome o (λ c. (low ≤ rank c) × (rank c < high))) p.code h

wider : (i low high low' high' : ℕ) → low' ≤ low → high ≤ high' → (e : Entry) → IsOf i low high e → IsOf i low' high' e
wider i low high low' high' l h e is = record { item = is.item; code = by e.code is.code }
  where
    by : (o : Option Code) → IfSome o (λ c. (low ≤ rank c) × (rank c < high)) → IfSome o (λ c. (low' ≤ rank c) × (rank c < high'))
    by None p = tt
    by (Some c) p = (omega (arith, l, p.0), omega (arith, h, p.1))

apart_by_rank : (i low n m high : ℕ) → n ≤ m → (d e : Entry) → IsOf i low n d → IsOf i m high e → GiveApart d e
apart_by_rank i low n m high h d e a b f g p q =
    differ_by_rank f g (λ r. omega (arith, h, r, (given_rank low n d f a.code p).1, (given_rank m high e g b.code q).0))

apart_by_token : (d e : Entry) → d.token < e.token → GiveApart d e
apart_by_token d e h f g p q = differ_by_token f g (λ r. omega (arith, h, r, p.token, q.token))

apart_by_item : (d e : Entry) → d.item < e.item → GiveApart d e
apart_by_item d e h f g p q = differ_by_item f g (λ r. omega (arith, h, r, p.item, q.item))

-- the entries of one item
module _ (ss : List Outline) (i : ℕ) (s : Outline) where
  named_once : (names : Namespace) (code : Option Code) (a : ℕ) → IfSome code (λ c. (a ≤ rank c) × (rank c < suc a)) → (o : Option (List ℕ))
      → Each (IsOf i a (suc a)) (map (named_entry names i code) (option_to_list o)) × EachTwo GiveApart (map (named_entry names i code) (option_to_list o))
  named_once names code a h None = (tt, tt)
  named_once names code a h (Some name) = ((record { item = refl; code = h }, tt), (tt, tt))

  set_once : Each (IsOf i 8 9) (set_entries i s) × EachTwo GiveApart (set_entries i s)
  set_once = named_once namespace.Sets (Some E08) 8 (omega arith, omega arith) (set_name s)

  state_once : (p : Option ℕ) → Each (IsOf i 9 10) (state_entries p i s) × EachTwo GiveApart (state_entries p i s)
  state_once None = (tt, tt)
  state_once (Some k) = named_once (namespace.States k) (Some E09) 9 (omega arith, omega arith) (state_name s)

  by_scope : (scope : Namespace) → IfSome (scope_code scope) (λ c. (7 ≤ rank c) × (rank c < 8))
  by_scope (namespace.State k) = tt
  by_scope scope = (omega arith, omega arith)

  declared_once : (scope : Namespace) → TokensRise s → Each (IsOf i 7 8) (map (declared_entry scope i) s.declares) × EachTwo GiveApart (map (declared_entry scope i) s.declares)
  declared_once scope rise = (
    each_map (IsOf i 7 8) (declared_entry scope i) s.declares (each_by (λ d. IsOf i 7 8 (declared_entry scope i d)) (λ d. record { item = refl; code = by_scope scope }) s.declares),
    two_map GiveApart (declared_entry scope i) s.declares
        (two_weaker (λ a b. a.token < b.token) (λ a b. GiveApart (declared_entry scope i a) (declared_entry scope i b)) (λ a b. apart_by_token (declared_entry scope i a) (declared_entry scope i b)) s.declares
        (two_unmap (λ a b. a < b) (λ d. d.token) s.declares (two_from_rising (declared_tokens s) rise.declared))),
  )

  named_before : Each (IsOf i 8 10) (set_entries i s ++ state_entries (enclosing_set ss i) i s)
  named_before =
      each_append (IsOf i 8 10) (set_entries i s) (state_entries (enclosing_set ss i) i s)
      (each_weaker (IsOf i 8 9) (IsOf i 8 10) (wider i 8 9 8 10 (omega arith) (omega arith)) (set_entries i s) set_once.0)
      (each_weaker (IsOf i 9 10) (IsOf i 8 10) (wider i 9 10 8 10 (omega arith) (omega arith)) (state_entries (enclosing_set ss i) i s) (state_once (enclosing_set ss i)).0)

  named_apart : EachTwo GiveApart (set_entries i s ++ state_entries (enclosing_set ss i) i s)
  named_apart =
      two_append GiveApart (IsOf i 8 9) (IsOf i 9 10) (λ d e a b. apart_by_rank i 8 9 9 10 (omega arith) d e a b) (set_entries i s) (state_entries (enclosing_set ss i) i s)
      set_once.0 set_once.1 (state_once (enclosing_set ss i)).0 (state_once (enclosing_set ss i)).1

  -- apart_by_rank wants the lower ranks first
  apart_from_declared : (d e : Entry) → IsOf i 8 10 d → IsOf i 7 8 e → GiveApart d e
  apart_from_declared d e a b f g p q = λ r. apart_by_rank i 7 8 8 10 (omega arith) e d b a g f q p (sym r)

  item_entries : TokensRise s → Each (IsOf i 7 10) (entries_of ss i s) × EachTwo GiveApart (entries_of ss i s)
  item_entries rise =
      let declared : Each (IsOf i 7 8) (map (declared_entry (scope_of ss i s) i) s.declares) × EachTwo GiveApart (map (declared_entry (scope_of ss i s) i) s.declares) = declared_once (scope_of ss i s) rise in (
        each_append (IsOf i 7 10) (set_entries i s ++ state_entries (enclosing_set ss i) i s) (map (declared_entry (scope_of ss i s) i) s.declares)
            (each_weaker (IsOf i 8 10) (IsOf i 7 10) (wider i 8 10 7 10 (omega arith) (omega arith)) (set_entries i s ++ state_entries (enclosing_set ss i) i s) named_before)
            (each_weaker (IsOf i 7 8) (IsOf i 7 10) (wider i 7 8 7 10 (omega arith) (omega arith)) (map (declared_entry (scope_of ss i s) i) s.declares) declared.0),
        two_append GiveApart (IsOf i 8 10) (IsOf i 7 8) apart_from_declared (set_entries i s ++ state_entries (enclosing_set ss i) i s) (map (declared_entry (scope_of ss i s) i) s.declares)
            named_before named_apart declared.0 declared.1,
      )

-- An entry of one of the first n items.
record IsBefore (n : ℕ) (e : Entry) : Type 0 where
  item : e.item < n
  code : IfSome e.code (λ c. (7 ≤ rank c) × (rank c < 10))

-- what holds of all, holds of those that pass a test
module _ (p : LinkFault → Bool) where
  pub each-filter : (P : LinkFault → Type 0) (xs : List LinkFault) → Each P xs → Each P (filter p xs)
  each-filter P [] h = tt
  each-filter P (x ∷ xs) h = by (p x) h.0 (each-filter P xs h.1)
    where
      by : (b : Bool) → P x → Each P (filter p xs) → Each P (if b then x ∷ filter p xs else filter p xs)
      by true here rest = (here, rest)
      by false here rest = rest

  two-filter : (R : LinkFault → LinkFault → Type 0) (xs : List LinkFault) → EachTwo R xs → EachTwo R (filter p xs)
  two-filter R [] h = tt
  two-filter R (x ∷ xs) h = by (p x) (each-filter (R x) xs h.0) (two-filter R xs h.1)
    where
      by : (b : Bool) → Each (R x) (filter p xs) → EachTwo R (filter p xs) → EachTwo R (if b then x ∷ filter p xs else filter p xs)
      by true here rest = (here, rest)
      by false here rest = rest

module _ (ss : List Outline) (rise : Each TokensRise ss) where
  entries_if : (n : ℕ) (o : Option Outline) → IfSome o TokensRise → Each (IsOf n 7 10) (option_map_or (entries_of ss n) o []) × EachTwo GiveApart (option_map_or (entries_of ss n) o [])
  entries_if n None h = (tt, tt)
  entries_if n (Some s) h = item_entries ss n s h

  entries_once : (n : ℕ) → Each (IsBefore n) (entries_before ss n) × EachTwo GiveApart (entries_before ss n)
  entries_once zero = (tt, tt)
  entries_once (suc n) =
      let before : Each (IsBefore n) (entries_before ss n) × EachTwo GiveApart (entries_before ss n) = entries_once n in
      let last : List Entry = option_map_or (entries_of ss n) (slice_get ss n) [] in
      let here : Each (IsOf n 7 10) last × EachTwo GiveApart last = entries_if n (slice_get ss n) (each_at TokensRise ss n rise) in (
        each_append (IsBefore (suc n)) (entries_before ss n) last
            (each_weaker (IsBefore n) (IsBefore (suc n)) (λ e h. record { item = omega (arith, h.item); code = h.code }) (entries_before ss n) before.0)
            (each_weaker (IsOf n 7 10) (IsBefore (suc n)) (λ e h. record { item = omega (arith, h.item); code = h.code }) last here.0),
        two_append GiveApart (IsBefore n) (IsOf n 7 10) (λ d e p q. apart_by_item d e (omega (arith, p.item, q.item))) (entries_before ss n) last before.0 before.1 here.0 here.1,
      )

  repetitions_once : EachTwo Differ (repetitions [] (entries ss))
  repetitions_once = repeated_once [] (entries ss) (entries_once (length ss)).1

  repetitions_ranks : Each (λ f. (7 ≤ rank f.code) × (rank f.code < 10)) (repetitions [] (entries ss))
  repetitions_ranks =
      repeated_each (λ f. (7 ≤ rank f.code) × (rank f.code < 10)) [] (entries ss)
      (each_weaker (IsBefore (length ss)) (λ e. (f : LinkFault) → Gives e f → (7 ≤ rank f.code) × (rank f.code < 10)) (λ e h f p. given_rank 7 10 e f h.code p) (entries ss) (entries_once (length ss)).0)

module _ (l : LinkedItems) (rise : Each TokensRise l.outlines) where
  pub names_once : EachTwo Differ (name_faults l)
  names_once = two-filter (told_by l.kinds) Differ (repetitions [] (entries l.outlines)) (repetitions_once l.outlines rise)

  pub names_ranks : Each (λ f. (7 ≤ rank f.code) × (rank f.code < 10)) (name_faults l)
  names_ranks = each-filter (told_by l.kinds) (λ f. (7 ≤ rank f.code) × (rank f.code < 10)) (repetitions [] (entries l.outlines)) (repetitions_ranks l.outlines rise)
