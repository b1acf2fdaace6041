-- The place of a name among keys, and what keys lead to.
use Rattle.std.proofs.Common.{◌≡◌, ◌≢◌, ℕ, ◌+◌, ◌<◌, ◌≤◌, true, false, List, [], length, get_or, sym, ap, ◌∙◌, arith, inl, inr, true≢false}
use Rattle.std.specs.Prelude.{All, bytes_eq}
use Rattle.std.specs.List.{AllWithin}
use Rattle.std.specs.List.Sorted.{IsNonDecreasingBy}
use Rattle.std.proofs.lemmas.Bool.{cases_lt}
use Rattle.std.proofs.lemmas.List.{get_or-map, get_or_default, length-map}
use Rattle.std.proofs.lemmas.Slice.Eq.{bytes_eq-Decides}
use Rattle.snl_names.specs.Keys.{AreKeys, InOrder, comes_before, print_in, spelled}
use Rattle.snl_names.specs.Prints.{print_of}
use Rattle.snl_names.specs.declared.keys.Key.{Key}
use Rattle.snl_names.proofs.Order.{chain, earlier, not_itself, prints_follow, same_name}

pub spelled_at : (names : List (List ℕ)) (keys : List Key) (k : ℕ) (d : List ℕ) (e : Key) → k < length keys → get_or (spelled names keys) k d ≡ get_or names (get_or keys k e).number []
spelled_at names keys k d e lt = get_or-map (λ (key : Key). get_or names key.number []) keys k e d lt

pub length_spelled : (names : List (List ℕ)) (keys : List Key) → length (spelled names keys) ≡ length keys
length_spelled names keys = length-map keys (λ (key : Key). get_or names key.number [])

-- ---- what is known of one name is known of those on one side of it

pub before_to : (names : List (List ℕ)) (name : List ℕ) (from middle : ℕ) → InOrder names → middle < length names → comes_before (get_or names middle []) name ≡ true
    → AllWithin (λ n. comes_before n name ≡ true) names from (middle + 1)
before_to names name from middle order lt h k d low high =
    ap (λ (n : List ℕ). comes_before n name) (get_or_default names k d [] (omega (arith, lt, high)))
    ∙ earlier (get_or names k []) (get_or names middle []) name (order k middle (omega (arith, high)) lt) h

pub rest_from : (names : List (List ℕ)) (name : List ℕ) (middle to : ℕ) → InOrder names → to ≤ length names → comes_before (get_or names middle []) name ≡ false
    → AllWithin (λ n. comes_before n name ≡ false) names middle to
rest_from names name middle to order le h k d low high =
    ap (λ (n : List ℕ). comes_before n name) (get_or_default names k d [] (omega (arith, le, high)))
    ∙ chain (get_or names k []) (get_or names middle []) name (order middle k low (omega (arith, le, high))) h

-- ---- prints

pub key_print : (names : List (List ℕ)) (keys : List Key) (k : ℕ) (d : Key) → AreKeys names keys → k < length keys → (get_or keys k d).print ≡ print_of (get_or (spelled names keys) k [])
key_print names keys k d are lt = (are.each k d lt).print ∙ ap print_of (sym (spelled_at names keys k [] d lt))

pub prints_rise : (names : List (List ℕ)) (keys : List Key) → AreKeys names keys → IsNonDecreasingBy print_in keys
prints_rise names keys are i j d le lt =
    let in_order = are.order i j le (omega (arith, lt, length_spelled names keys)) in
    omega (arith, key_print names keys i d are (omega (arith, le, lt)), key_print names keys j d are lt, prints_follow (get_or (spelled names keys) i []) (get_or (spelled names keys) j []) in_order)

-- A key with another print leads to another name.
other_print : (names : List (List ℕ)) (keys : List Key) (name d : List ℕ) (e : Key) (k : ℕ) → AreKeys names keys → k < length keys → (get_or keys k e).print ≢ print_of name → get_or (spelled names keys) k d ≢ name
other_print names keys name d e k are lt other same =
    other (key_print names keys k e are lt ∙ ap print_of (get_or_default (spelled names keys) k [] d (omega (arith, lt, length_spelled names keys)) ∙ same))

pub other_prints : (names : List (List ℕ)) (keys : List Key) (name : List ℕ) (e : Key) → AreKeys names keys → ((k : ℕ) → k < length keys → (get_or keys k e).print ≢ print_of name) → All (λ n. n ≢ name) (spelled names keys)
other_prints names keys name e are other k d lt =
    let there : k < length keys = omega (arith, lt, length_spelled names keys) in
    other_print names keys name d e k are there (other k there)

-- ---- a name that isn't where it would be

pub not_there : (names : List (List ℕ)) (keys : List Key) (name : List ℕ) (print from at : ℕ) → AreKeys names keys → print ≡ print_of name
    → AllWithin (λ k. k.print < print) keys 0 from
    → AllWithin (λ n. comes_before n name ≡ true) (spelled names keys) from at
    → AllWithin (λ n. comes_before n name ≡ false) (spelled names keys) at (length keys)
    → (at < length keys → get_or (spelled names keys) at [] ≢ name)
    → All (λ n. n ≢ name) (spelled names keys)
not_there names keys name print from at are is_print less before rest other k d lt same =
    let all : List (List ℕ) = spelled names keys in
    let none : Key = record { print = 0; number = 0 } in
    let there : k < length keys = omega (arith, lt, length_spelled names keys) in
    let here : get_or all k [] ≡ name = get_or_default all k [] d lt ∙ same in
    elim (cases_lt k from) [
      | inl low ↦ other_print names keys name d none k are there (λ e. omega (arith, less k none (omega arith) low, e, is_print)) same
      | inr past ↦
          elim (cases_lt k at) [
            | inl middle ↦
                absurd (true≢false (sym (before k [] past middle) ∙ ap (λ (n : List ℕ). comes_before n name) here ∙ not_itself name))
            | inr high ↦
                let first : comes_before (get_or all at []) name ≡ false = rest at [] (omega arith) (omega (arith, high, there)) in
                let last : comes_before name (get_or all at []) ≡ false =
                ap (λ (n : List ℕ). comes_before n (get_or all at [])) (sym here) ∙ are.order at k high lt in
                other (omega (arith, high, there)) (same_name (get_or all at []) name first last)
          ]
    ]

pub other_bytes : (a b : List ℕ) → bytes_eq a b ≡ false → a ≢ b
other_bytes a b h same = true≢false (sym ((bytes_eq-Decides a b).1 same) ∙ h)

-- what is known of one print is known of those on one side of it
pub less_to : (keys : List Key) (print middle : ℕ) (none : Key) → IsNonDecreasingBy print_in keys → middle < length keys → (get_or keys middle none).print < print → AllWithin (λ k. k.print < print) keys 0 (middle + 1)
less_to keys print middle none rises lt less k d low high =
    let up = rises k middle d (omega (arith, high)) lt in
    let same = ap print_in (get_or_default keys middle d none lt) in
    omega (arith, up, same, less)

pub none_from : (keys : List Key) (print middle : ℕ) (none : Key) → IsNonDecreasingBy print_in keys → middle < length keys → print ≤ (get_or keys middle none).print → AllWithin (λ k. print ≤ k.print) keys middle (length keys)
none_from keys print middle none rises lt least k d low high =
    let up = rises middle k d low high in
    let same = ap print_in (get_or_default keys middle d none lt) in
    omega (arith, up, same, least)
