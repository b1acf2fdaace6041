-- What is kept of the items of a set is what the items of the text say.
use Rattle.std.proofs.Common.{◌≡◌, ℕ, zero, suc, ◌+◌, ◌<◌, ◌&&◌, ◌||◌, Bool, true, false, not, cond, filter, List, [], ◌∷◌, length, map, slice_get, slice_index_or, nat_eq, Option, Some, None, is_some, if◌then◌else◌, refl, sym, ap, ap₂, ◌∙◌, subst, arith}
use Rattle.std.specs.List.{AllByRecursion, AllPairs, enumerate_from, filter_map, list_any}
use Rattle.std.specs.List.Sorted.{IsStrictlyIncreasing}
use Rattle.std.specs.Option.{option_and_then, option_map_or}
use Rattle.std.proofs.lemmas.List.{get_or-map, length-map}
use Rattle.std.proofs.lemmas.List.Folds.{list_any-append}
use Rattle.std.proofs.lemmas.List.Kept.{AllPairs-filter, AllPairs-from_increasing}
use Rattle.snl_scope.specs.BelowLaws.{all_below_rises, filter_below}
use Rattle.snl_summary.specs.declared.summary.Outline.{Outline}
use Rattle.snl_scope.specs.Below.{all_below, any_below}
use Rattle.snl_scope.specs.Linked.{state_of}
use Rattle.snl_scope.specs.Order.{is_named_state, state_name}
use Rattle.snl_scope.specs.Places.{stands_in}
use Rattle.snl_tables.specs.declared.rows.StateMark.{StateMark}
use Rattle.snl_check.specs.declared.reachability.marks.SetMember.{SetMember}
use Rattle.snl_item_check.specs.Items.{ProgramItem, summary_of_item}
use Rattle.snl_check.specs.Members.{AreSetMembers, IsSetMember, has_faulty, has_name, is_faulty_item, is_first_by_member, numbers_by_member, states_in, target_number, target_numbers, targets_among}
use Rattle.snl_check.specs.States.{first_mark, is_reached_in, is_repeated, mark_of, mark_by_member, marks_of}
use Rattle.snl_check.proofs.Marks.{marks_alike}
use Rattle.snl_check.proofs.Sets.{copied_some}
use Rattle.snl_check.specs.SetsLaws.{get_here}

-- ---- numbers below another that pass two tests

pub any_of_below : (p q : ℕ → Bool) (n : ℕ) → list_any p (all_below q n) ≡ any_below (λ j. p j && q j) n
any_of_below p q zero = refl
any_of_below p q (suc n) =
    list_any-append p (all_below q n) (if q n then n ∷ [] else []) ∙ ap (λ b. b || list_any p (if q n then n ∷ [] else [])) (any_of_below p q n)
    ∙ by (any_below (λ j. p j && q j) n) (q n) (p n) refl
  where
    by : (a b c : Bool) → p n ≡ c → (a || list_any p (if b then n ∷ [] else [])) ≡ ((p n && b) || a)
    by true true true e = sym (ap (λ d. (d && true) || true) e)
    by true true false e = sym (ap (λ d. (d && true) || true) e)
    by true false true e = sym (ap (λ d. (d && false) || true) e)
    by true false false e = sym (ap (λ d. (d && false) || true) e)
    by false true true e = ap (λ d. d || false) e ∙ sym (ap (λ d. (d && true) || false) e)
    by false true false e = ap (λ d. d || false) e ∙ sym (ap (λ d. (d && true) || false) e)
    by false false true e = sym (ap (λ d. (d && false) || false) e)
    by false false false e = sym (ap (λ d. (d && false) || false) e)

each_filtered : {X : Type 0} (P : X → Type 0) (p : X → Bool) (xs : List X) → AllByRecursion P xs → AllByRecursion P (filter p xs)
each_filtered P p [] h = tt
each_filtered P p (x ∷ xs) h = by (p x) (each_filtered P p xs h.1)
  where
    by : (b : Bool) → AllByRecursion P (filter p xs) → AllByRecursion P (cond b (x ∷ filter p xs) (filter p xs))
    by true rest = (h.0, rest)
    by false rest = rest

-- ---- the states of a set

abbrev pub items_of : List SetMember → List ℕ
items_of ms = map (λ (m : SetMember). m.item) ms

-- the items of a set rise, and so do those of them that pass a test
pairs_of : (ms : List SetMember) → IsStrictlyIncreasing (items_of ms) → AllPairs (λ a b. a.item < b.item) ms
pairs_of ms rises =
    λ i j d l m.
    let item : SetMember → ℕ = λ (a : SetMember). a.item in
    let pair = AllPairs-from_increasing (items_of ms) rises i j 0 l (omega (arith, m, length-map ms item)) in
    omega (arith, pair, get_or-map item ms i d 0 (omega (arith, l, m)), get_or-map item ms j d 0 m)

rises_by : (ms : List SetMember) → AllPairs (λ a b. a.item < b.item) ms → IsStrictlyIncreasing (items_of ms)
rises_by ms pairs =
    λ k l.
    let item : SetMember → ℕ = λ (a : SetMember). a.item in
    let next : k + 1 < length ms = omega (arith, l, length-map ms item) in
    let d = (get_here ms (k + 1) next).0 in
    let pair = pairs k (k + 1) d (omega arith) next in
    omega (arith, pair, get_or-map item ms k d 0 (omega (arith, next)), get_or-map item ms (k + 1) d 0 next)

pub named_rise : (ss : List Outline) (k : ℕ) (ms : List SetMember) → items_of ms ≡ all_below (stands_in ss k) (length ss) → IsStrictlyIncreasing (items_of (filter has_name ms))
named_rise ss k ms is =
    rises_by (filter has_name ms)
    (AllPairs-filter (λ a b. a.item < b.item) has_name ms (pairs_of ms (subst IsStrictlyIncreasing (sym is) (all_below_rises (stands_in ss k) (length ss)))))

module _ (text : List ℕ) (xs : List ProgramItem) (ss : List Outline) (k : ℕ) (ms : List SetMember) (are : AreSetMembers text xs ss k ms) where
  abbrev named : List SetMember
  named = filter has_name ms

  abbrev IsMember : SetMember → Type 0
  IsMember = IsSetMember text xs ss

  each_named : AllByRecursion IsMember named
  each_named = each_filtered IsMember has_name ms are.each

  named_is : (m : SetMember) → IsMember m → has_name m ≡ is_named_state ss m.item
  named_is m is = sym (copied_some m.name) ∙ ap is_some is.name ∙ by (slice_get ss m.item)
    where
      by : (o : Option Outline) → is_some (option_and_then state_name o) ≡ option_map_or (λ s. is_some (state_name s)) o false
      by None = refl
      by (Some s) = refl

  named_items : (ms : List SetMember) → AllByRecursion IsMember ms → items_of (filter has_name ms) ≡ filter (is_named_state ss) (items_of ms)
  named_items [] h = refl
  named_items (m ∷ ms) h = by (has_name m) (named_items ms h.1) ∙ ap (λ b. cond b (m.item ∷ filter (is_named_state ss) (items_of ms)) (filter (is_named_state ss) (items_of ms))) (named_is m h.0)
    where
      by : (b : Bool) → items_of (filter has_name ms) ≡ filter (is_named_state ss) (items_of ms)
          → items_of (cond b (m ∷ filter has_name ms) (filter has_name ms)) ≡ cond b (m.item ∷ filter (is_named_state ss) (items_of ms)) (filter (is_named_state ss) (items_of ms))
      by true rest = ap (λ l. m.item ∷ l) rest
      by false rest = rest

  pub states_are : items_of named ≡ states_in ss k
  states_are = named_items ms are.each ∙ ap (filter (is_named_state ss)) are.items ∙ filter_below (is_named_state ss) (stands_in ss k) (length ss)

  -- ---- whether an item is faulty

  some_items : (ms : List SetMember) → AllByRecursion IsMember ms → list_any (λ (m : SetMember). m.is_faulty) ms ≡ list_any (is_faulty_item xs) (items_of ms)
  some_items [] h = refl
  some_items (m ∷ ms) h = ap₂ (λ a b. a || b) h.0.faulty (some_items ms h.1)

  pub faulty_is : list_any (λ (m : SetMember). m.is_faulty) ms ≡ has_faulty xs ss k
  faulty_is = some_items ms are.each ∙ ap (list_any (is_faulty_item xs)) are.items ∙ any_of_below (is_faulty_item xs) (stands_in ss k) (length ss)

  -- ---- targets

  numbers_are : (states : List ℕ) (m : SetMember) → IsMember m → numbers_by_member ss states m ≡ target_numbers text xs ss states m.item
  numbers_are states m is = ap (filter_map (target_number ss states m.item)) is.targets ∙ by (slice_get xs m.item)
    where
      by : (o : Option ProgramItem) → filter_map (target_number ss states m.item) (option_map_or (λ (x : ProgramItem). (summary_of_item text x).targets) o [])
          ≡ option_map_or (λ (x : ProgramItem). filter_map (target_number ss states m.item) (summary_of_item text x).targets) o []
      by None = refl
      by (Some x) = refl

  numbers_all : (states : List ℕ) (ns : List SetMember) → AllByRecursion IsMember ns → map (numbers_by_member ss states) ns ≡ map (target_numbers text xs ss states) (items_of ns)
  numbers_all states [] h = refl
  numbers_all states (m ∷ ns) h = ap₂ (λ (l : List ℕ) (ls : List (List ℕ)). l ∷ ls) (numbers_are states m h.0) (numbers_all states ns h.1)

  pub targets_are : map (numbers_by_member ss (items_of named)) named ≡ targets_among text xs ss (states_in ss k)
  targets_are = numbers_all (items_of named) named each_named ∙ ap (λ states. map (target_numbers text xs ss states) states) states_are

  -- ---- marks

  module _ (reached : List Bool)
      (found : has_faulty xs ss k ≡ false → (number : ℕ) → number < length named → slice_index_or reached number false ≡ is_reached_in text xs ss k number) where
    mark_is : (number : ℕ) → number < length named → (m : SetMember) → IsMember m →
        mark_by_member ss (list_any (λ (m : SetMember). m.is_faulty) ms) reached number m ≡ mark_of text xs ss k number m.item
    mark_is number within m is =
        let first : (not (is_first_by_member ss m)) ≡ is_repeated ss m.item =
        ap (λ (o : Option (List ℕ)). not (option_map_or (λ name. option_map_or (nat_eq m.item) (state_of ss m.item name) false) o false)) is.name in
        let there = faulty_is in
        ap₂ (λ (f p : Bool). first_mark f p (list_any (λ (m : SetMember). m.is_faulty) ms) (slice_index_or reached number false)) is.faulty first
        ∙ marks_alike (is_faulty_item xs m.item) (is_repeated ss m.item) (list_any (λ (m : SetMember). m.is_faulty) ms) (has_faulty xs ss k)
        (slice_index_or reached number false) (is_reached_in text xs ss k number) there (λ clear. found (sym there ∙ clear) number within)

    marks_from : (number : ℕ) (ns : List SetMember) → number + length ns ≡ length named → AllByRecursion IsMember ns →
        map (λ p. mark_by_member ss (list_any (λ (m : SetMember). m.is_faulty) ms) reached p.0 p.1) (enumerate_from number ns) ≡ map (λ p. mark_of text xs ss k p.0 p.1) (enumerate_from number (items_of ns))
    marks_from number [] count h = refl
    marks_from number (m ∷ ns) count h =
        ap₂ (λ (one : StateMark) (rest : List StateMark). one ∷ rest) (mark_is number (omega (arith, count)) m h.0)
        (marks_from (number + 1) ns (omega (arith, count)) h.1)

    pub marks_are : map (λ p. mark_by_member ss (list_any (λ (m : SetMember). m.is_faulty) ms) reached p.0 p.1) (enumerate_from 0 named) ≡ marks_of text xs ss k
    marks_are =
        marks_from 0 named (omega arith) each_named
        ∙ ap (λ (l : List ℕ). map (λ p. mark_of text xs ss k p.0 p.1) (enumerate_from 0 l)) states_are
