-- A book of names: what its keys find, and one more name.
use Rattle.std.proofs.Common.{◌≡◌, ◌≢◌, ℕ, suc, ◌<◌, ◌≤◌, ◌⊎◌, Bool, true, false, ◌||◌, cond, nat_eq, nat_lt, List, [], ◌∷◌, ◌++◌, length, take, drop, get_or, slice_get, Option, None, Some, Result, Ok, Err, refl, sym, ap, ap₂, subst, ◌∙◌, arith, inl, inr, true≢false, append_assoc, length-append}
use Rattle.std.specs.Prelude.{All, IfOk, MatchOption, OnOk, bytes_eq, insert}
use Rattle.std.specs.List.{AllWithin, position, position_or_len}
use Rattle.std.specs.Option.{option_or}
use Rattle.std.proofs.lemmas.Bool.{cases_Bool, cases_lt, eq-eqb, eqb-true, le-ltb}
use Rattle.std.proofs.lemmas.List.{get_or-take, get_or_append_left, length-take-le, same_lists, take-append-drop}
use Rattle.std.proofs.Math.Seq.{get_or-append_seam}
use Rattle.std.proofs.lemmas.List.Folds.{list_any-append}
use Rattle.std.proofs.lemmas.List.Sums.{position_or_len_is}
use Rattle.std.proofs.lemmas.Option.{get_or_from_slice_get, slice_get_within}
use Rattle.std.proofs.lemmas.Slice.Eq.{bytes_eq-Decides}
use Rattle.snl_facts.specs.Lists.{length_more}
use Rattle.snl_facts.specs.Positions.{position_push}
use Rattle.snl_names.specs.Keys.{AreKeys, InOrder, IsKey, comes_before, has_number, spelled}
use Rattle.snl_names.specs.NameBook.{AllDiffer, IsBook}
use Rattle.snl_names.specs.Prints.{print_of}
use Rattle.snl_names.specs.declared.keys.Key.{Key}
use Rattle.snl_names.proofs.Order.{one_way}
use Rattle.snl_names.proofs.Places.{length_spelled, spelled_at}
use Rattle.snl_names.proofs.Merges.{Precede, keys_append, keys_drop, keys_one, keys_take, no_later, precede_append, precede_one, precede_rest, precede_this, spelled-append, spelled-drop, spelled-take}

-- ---- what is found

pub found : (names : List (List ℕ)) (name : List ℕ) (n : ℕ) → AllDiffer names → slice_get names n ≡ Some name → position (bytes_eq name) names ≡ Some n
found names name n differ got =
    ap (λ (x : List ℕ). position (bytes_eq x) names) (sym (get_or_from_slice_get names n name [] got))
    ∙ differ n (slice_get_within names n name got)

-- One of the keys has a number that is known to be there.
pub record HasAt (n : ℕ) (keys : List Key) : Type 0 where
  pub place : ℕ
  pub within : place < length keys
  pub number : (d : Key) → (get_or keys place d).number ≡ n

one_further : (n : ℕ) (k : Key) (ks : List Key) → HasAt n ks → HasAt n (k ∷ ks)
one_further n k ks is = record { place = suc is.place; within = omega (arith, is.within); number = is.number }

or_later : (b c : Bool) → b ≡ false → (b || c) ≡ true → c ≡ true
or_later true c h k = absurd (true≢false h)
or_later false c h k = k

pub has_at : (n : ℕ) (keys : List Key) → has_number n keys ≡ true → HasAt n keys
has_at n [] h = absurd (true≢false (sym h))
has_at n (k ∷ ks) h =
    elim (cases_Bool (nat_eq k.number n)) [
      | inl this ↦ record { place = 0; within = omega arith; number = λ d. eqb-true k.number n this }
      | inr other ↦ one_further n k ks (has_at n ks (or_later (nat_eq k.number n) (has_number n ks) other h))
    ]

-- A number of another name has no key among those that lead to no such name.
not_among : (names : List (List ℕ)) (keys : List Key) (name : List ℕ) (n : ℕ) → All (λ x. x ≢ name) (spelled names keys) → has_number n keys ≡ true → get_or names n [] ≢ name
not_among names keys name n none h same =
    let is : HasAt n keys = has_at n keys h in
    none is.place [] (omega (arith, is.within, length_spelled names keys))
    (spelled_at names keys is.place [] (record { print = 0; number = 0 }) is.within ∙ ap (λ (k : ℕ). get_or names k []) (is.number (record { print = 0; number = 0 })) ∙ same)

either : (a b : Bool) → (a || b) ≡ true → (a ≡ true) ⊎ (b ≡ true)
either true b h = inl refl
either false b h = inr h

nowhere : (names : List (List ℕ)) (name : List ℕ) → ((n : ℕ) → n < length names → get_or names n [] ≢ name) → position (bytes_eq name) names ≡ None
nowhere names name h =
    let apart : (n : ℕ) → n < length names → bytes_eq name (get_or names n []) ≡ false =
    λ n lt. elim (cases_Bool (bytes_eq name (get_or names n []))) [
      | inl same ↦ absurd (h n lt (sym ((bytes_eq-Decides name (get_or names n [])).0 same)))
      | inr other ↦ other
    ] in
    let all : position_or_len (bytes_eq name) names ≡ length names =
    position_or_len_is (bytes_eq name) names (length names) [] (omega arith) apart (λ l. absurd (omega (arith, l))) in
    ap (λ n. cond (nat_lt n (length names)) (Some n) None) all
    ∙ ap (λ b. cond b (Some (length names)) None) (le-ltb (length names) (length names) (omega arith))

pub not_found : (names : List (List ℕ)) (sorted recent : List Key) (name : List ℕ) → IsBook names sorted recent
    → All (λ n. n ≢ name) (spelled names sorted) → All (λ n. n ≢ name) (spelled names recent) → position (bytes_eq name) names ≡ None
not_found names sorted recent name book first second =
    nowhere names name (λ n lt. elim (either (has_number n sorted) (has_number n recent) (book.keyed n lt)) [
      | inl in_sorted ↦ not_among names sorted name n first in_sorted
      | inr in_recent ↦ not_among names recent name n second in_recent
    ])

pub found_or_not : (names : List (List ℕ)) (sorted recent : List Key) (name : List ℕ) (o : Option ℕ) → IsBook names sorted recent → All (λ n. n ≢ name) (spelled names sorted)
    → MatchOption o (All (λ n. n ≢ name) (spelled names recent)) (λ n. slice_get names n ≡ Some name) → o ≡ position (bytes_eq name) names
found_or_not names sorted recent name None book first h = sym (not_found names sorted recent name book first h)
found_or_not names sorted recent name (Some n) book first h = sym (found names name n book.different h)

-- ---- one more name

name_eq : (name : List ℕ) → bytes_eq name name ≡ true
name_eq name = (bytes_eq-Decides name name).1 refl

pub new_is_last : (names : List (List ℕ)) (name : List ℕ) → position (bytes_eq name) names ≡ None → position (bytes_eq name) (names ++ name ∷ []) ≡ Some (length names)
new_is_last names name new =
    position_push (bytes_eq name) names name
    ∙ ap₂ (λ (o : Option ℕ) (b : Bool). option_or o (cond b (Some (length names)) None)) new (name_eq name)

stays_first : (names : List (List ℕ)) (name x : List ℕ) (n : ℕ) → position (bytes_eq x) names ≡ Some n → position (bytes_eq x) (names ++ name ∷ []) ≡ Some n
stays_first names name x n h =
    position_push (bytes_eq x) names name
    ∙ ap (λ (o : Option ℕ). option_or o (cond (bytes_eq x name) (Some (length names)) None)) h

below_or_last : (n m : ℕ) → n < suc m → (n < m) ⊎ (n ≡ m)
below_or_last n m h = elim (cases_lt n m) [ inl less ↦ inl less | inr more ↦ inr (omega (arith, h, more)) ]

differ_more : (names : List (List ℕ)) (name : List ℕ) → AllDiffer names → position (bytes_eq name) names ≡ None → AllDiffer (names ++ name ∷ [])
differ_more names name differ new n lt =
    let all : List (List ℕ) = names ++ name ∷ [] in
    elim (below_or_last n (length names) (omega (arith, lt, length_more names name))) [
      | inl less ↦
          ap (λ (x : List ℕ). position (bytes_eq x) all) (get_or_append_left names (name ∷ []) [] n less)
          ∙ stays_first names name (get_or names n []) n (differ n less)
      | inr last ↦
          ap (λ (x : List ℕ). position (bytes_eq x) all) (ap (λ (m : ℕ). get_or all m []) last ∙ get_or-append_seam names name [] [])
          ∙ new_is_last names name new
          ∙ ap Some (sym last)
    ]

key_stays : (names more : List (List ℕ)) (key : Key) → IsKey names key → IsKey (names ++ more) key
key_stays names more key is = record {
  inside = omega (arith, is.inside, length-append names more);
  print = is.print ∙ ap print_of (sym (get_or_append_left names more [] key.number is.inside));
}

spelled_longer : (names more : List (List ℕ)) (keys : List Key) → AreKeys names keys → spelled (names ++ more) keys ≡ spelled names keys
spelled_longer names more keys are =
    let none : Key = record { print = 0; number = 0 } in
    same_lists (spelled (names ++ more) keys) (spelled names keys) (length_spelled (names ++ more) keys ∙ sym (length_spelled names keys))
    (λ k d lt.
    let there : k < length keys = omega (arith, lt, length_spelled (names ++ more) keys) in
    spelled_at (names ++ more) keys k d none there
    ∙ get_or_append_left names more [] (get_or keys k none).number ((are.each k none there).inside)
    ∙ sym (spelled_at names keys k d none there))

pub keys_stay : (names more : List (List ℕ)) (keys : List Key) → AreKeys names keys → AreKeys (names ++ more) keys
keys_stay names more keys are = record {
  each = λ k d lt. key_stays names more (get_or keys k d) (are.each k d lt);
  order = subst InOrder (sym (spelled_longer names more keys are)) are.order;
}

-- ---- a key that is put in its place

pub inserted_keys : (names : List (List ℕ)) (keys : List Key) (key : Key) (name : List ℕ) (at : ℕ)
    → AreKeys names keys → IsKey names key → name ≡ get_or names key.number [] → at ≤ length keys
    → AllWithin (λ n. comes_before n name ≡ true) (spelled names keys) 0 at
    → AllWithin (λ n. comes_before n name ≡ false) (spelled names keys) at (length keys)
    → AreKeys names (insert keys at key)
inserted_keys names keys key name at are is named within before rest =
    let S : List (List ℕ) = spelled names keys in
    let size : length S ≡ length keys = length_spelled names keys in
    let front : List Key = take at keys in
    let front_spelled : spelled names front ≡ take at S = spelled-take names at keys in
    let front_size : length (take at S) ≡ at = length-take-le at S (omega (arith, within, size)) in
    let front_then_key : Precede (spelled names front) (spelled names (key ∷ [])) 0 =
    subst (λ (ns : List (List ℕ)). Precede ns (spelled names (key ∷ [])) 0) (sym front_spelled)
    (precede_this (take at S) (get_or names key.number []) (λ i lt.
    no_later (get_or names key.number []) (get_or (take at S) i []) name (get_or S i []) (sym named) (get_or-take at S i [] (omega (arith, lt, front_size)))
    (one_way (get_or S i []) name (before i [] (omega arith) (omega (arith, lt, front_size)))))) in
    let both : AreKeys names (front ++ key ∷ []) = keys_append names front (key ∷ []) (keys_take names at keys within are) (keys_one names key is) front_then_key in
    let both_spelled : spelled names (front ++ key ∷ []) ≡ take at S ++ name ∷ [] =
    spelled-append names front (key ∷ []) ∙ ap₂ (λ (ns : List (List ℕ)) (n : List ℕ). ns ++ n ∷ []) front_spelled (sym named) in
    let front_then_rest : Precede (take at S) S at =
    λ i j lt low high. no_later (get_or S j []) (get_or (take at S) i []) (get_or S j []) (get_or S i []) refl (get_or-take at S i [] (omega (arith, lt, front_size)))
    (are.order i j (omega (arith, lt, front_size, low)) high) in
    let key_then_rest : Precede (name ∷ []) S at = precede_one name S at (λ j low high. rest j [] low (omega (arith, high, size))) in
    let whole : Precede (spelled names (front ++ key ∷ [])) (spelled names (drop at keys)) 0 =
    subst (λ (ns : List (List ℕ)). Precede ns (spelled names (drop at keys)) 0) (sym both_spelled)
    (subst (λ (ns : List (List ℕ)). Precede (take at S ++ name ∷ []) ns 0) (sym (spelled-drop names at keys))
    (precede_rest (take at S ++ name ∷ []) S at (precede_append (take at S) (name ∷ []) S at front_then_rest key_then_rest))) in
    subst (AreKeys names) (append_assoc front (key ∷ []) (drop at keys))
    (keys_append names (front ++ key ∷ []) (drop at keys) both (keys_drop names at keys are) whole)

aside : (t e d : Bool) → (t || (e || d)) ≡ (e || (t || d))
aside true true d = refl
aside true false d = refl
aside false true d = refl
aside false false d = refl

has_inserted : (n at : ℕ) (keys : List Key) (key : Key) → has_number n (insert keys at key) ≡ (nat_eq key.number n || has_number n keys)
has_inserted n at keys key =
    let has : Key → Bool = λ (k : Key). nat_eq k.number n in
    list_any-append has (take at keys) (key ∷ drop at keys)
    ∙ aside (has_number n (take at keys)) (nat_eq key.number n) (has_number n (drop at keys))
    ∙ ap (λ (b : Bool). nat_eq key.number n || b) (sym (list_any-append has (take at keys) (drop at keys)) ∙ ap (has_number n) (take-append-drop at keys))

still : (s e r : Bool) → (s || r) ≡ true → (s || (e || r)) ≡ true
still true e r h = refl
still false true r h = refl
still false false r h = h

now_there : (s e r : Bool) → e ≡ true → (s || (e || r)) ≡ true
now_there true e r h = refl
now_there false true r h = refl
now_there false false r h = absurd (true≢false (sym h))

pub book_more : (names : List (List ℕ)) (sorted recent : List Key) (name : List ℕ) (at : ℕ) (key : Key)
    → IsBook names sorted recent → position (bytes_eq name) names ≡ None
    → key.print ≡ print_of name → key.number ≡ length names → at ≤ length recent
    → AllWithin (λ n. comes_before n name ≡ true) (spelled names recent) 0 at
    → AllWithin (λ n. comes_before n name ≡ false) (spelled names recent) at (length recent)
    → IsBook (names ++ name ∷ []) sorted (insert recent at key)
book_more names sorted recent name at key book new print number within before rest =
    let all : List (List ℕ) = names ++ name ∷ [] in
    let named : get_or all key.number [] ≡ name = ap (λ (n : ℕ). get_or all n []) number ∙ get_or-append_seam names name [] [] in
    let is : IsKey all key = record { inside = omega (arith, number, length_more names name); print = print ∙ ap print_of (sym named) } in
    let same : spelled all recent ≡ spelled names recent = spelled_longer names (name ∷ []) recent book.recent_keys in
    record {
      different = differ_more names name book.different new;
      sorted_keys = keys_stay names (name ∷ []) sorted book.sorted_keys;
      recent_keys = inserted_keys all recent key name at (keys_stay names (name ∷ []) recent book.recent_keys) is (sym named) within
          (subst (λ (ns : List (List ℕ)). AllWithin (λ n. comes_before n name ≡ true) ns 0 at) (sym same) before)
          (subst (λ (ns : List (List ℕ)). AllWithin (λ n. comes_before n name ≡ false) ns at (length recent)) (sym same) rest);
      keyed = λ n lt.
          ap (λ (b : Bool). has_number n sorted || b) (has_inserted n at recent key)
          ∙ elim (below_or_last n (length names) (omega (arith, lt, length_more names name))) [
            | inl less ↦ still (has_number n sorted) (nat_eq key.number n) (has_number n recent) (book.keyed n less)
            | inr last ↦ now_there (has_number n sorted) (nat_eq key.number n) (has_number n recent) (eq-eqb key.number n (number ∙ sym last))
          ];
    }

pub added : {E : Type 0} (r : Result ℕ E) (old new : List (List ℕ)) (name : List ℕ) → position (bytes_eq name) old ≡ None → OnOk r (new ≡ old ++ name ∷ []) → IfOk r (λ n. n ≡ length old) → IfOk r (λ n. position (bytes_eq name) new ≡ Some n)
added (Ok n) old new name none more number = ap (position (bytes_eq name)) more ∙ new_is_last old name none ∙ ap Some (sym number)
added (Err e) old new name none more number = tt
