-- Two lists of keys, of which the front parts are merged.
use Rattle.std.proofs.Common.{◌≡◌, ℕ, ◌+◌, ◌-◌, ◌≤◌, ◌<◌, Bool, true, false, ◌||◌, List, [], ◌∷◌, ◌++◌, length, take, drop, get_or, nat_eq, refl, sym, ap, ap₂, subst, ◌∙◌, arith, inl, inr, length-append, length-drop}
use Rattle.std.specs.List.{AllWithin}
use Rattle.std.proofs.lemmas.Bool.{cases_lt}
use Rattle.std.proofs.lemmas.List.{drop-map, drop-take, get_or-append_right, get_or-drop, get_or-take, get_or_append_left, length-take-le, map-append, take-append-drop, take-map, take-take, take_all, take_more}
use Rattle.std.proofs.lemmas.List.Elements.{All-append, All-cons, All-drop, All-nil, All-take}
use Rattle.std.proofs.lemmas.List.Folds.{list_any-append}
use Rattle.snl_names.specs.Keys.{AreKeys, InOrder, IsKey, comes_before, has_number, spelled}
use Rattle.snl_names.specs.declared.keys.Key.{Key}
use Rattle.snl_names.proofs.Order.{chain, not_itself, one_way}
use Rattle.snl_names.proofs.Places.{length_spelled, spelled_at}

-- No name of the second list, from a place on, comes before one of the first.
abbrev pub Precede : List (List ℕ) → List (List ℕ) → ℕ → Type 0
Precede xs ys from = (i j : ℕ) → i < length xs → from ≤ j → j < length ys → comes_before (get_or ys j []) (get_or xs i []) ≡ false

pub record IsMerging (names : List (List ℕ)) (sorted recent all : List Key) (from count : ℕ) : Type 0 where
  pub within : from ≤ length sorted
  pub keys : AreKeys names all
  pub sorted_follow : Precede (spelled names all) (spelled names sorted) from
  pub recent_follow : Precede (spelled names all) (spelled names recent) count
  pub numbers : (n : ℕ) → has_number n all ≡ (has_number n (take from sorted) || has_number n (take count recent))

-- ---- names in order

pub no_later : (a b c d : List ℕ) → a ≡ c → b ≡ d → comes_before c d ≡ false → comes_before a b ≡ false
no_later a b c d e f h = ap₂ comes_before e f ∙ h

in_order_append : (xs ys : List (List ℕ)) → InOrder xs → InOrder ys → Precede xs ys 0 → InOrder (xs ++ ys)
in_order_append xs ys first second across i j le lt =
    let size : length (xs ++ ys) ≡ length xs + length ys = length-append xs ys in
    elim (cases_lt j (length xs)) [
      | inl left ↦
          no_later (get_or (xs ++ ys) j []) (get_or (xs ++ ys) i []) (get_or xs j []) (get_or xs i [])
          (get_or_append_left xs ys [] j left)
          (get_or_append_left xs ys [] i (omega (arith, le, left)))
          (first i j le left)
      | inr right ↦
          elim (cases_lt i (length xs)) [
            | inl left ↦
                no_later (get_or (xs ++ ys) j []) (get_or (xs ++ ys) i []) (get_or ys (j - length xs) []) (get_or xs i [])
                (get_or-append_right xs ys (length xs) j [] refl right)
                (get_or_append_left xs ys [] i left)
                (across i (j - length xs) left (omega arith) (omega (arith, lt, size, right)))
            | inr both ↦
                no_later (get_or (xs ++ ys) j []) (get_or (xs ++ ys) i []) (get_or ys (j - length xs) []) (get_or ys (i - length xs) [])
                (get_or-append_right xs ys (length xs) j [] refl right)
                (get_or-append_right xs ys (length xs) i [] refl both)
                (second (i - length xs) (j - length xs) (omega (arith, le, both)) (omega (arith, lt, size, right)))
          ]
    ]

in_order_drop : (n : ℕ) (xs : List (List ℕ)) → InOrder xs → InOrder (drop n xs)
in_order_drop n xs order i j le lt =
    no_later (get_or (drop n xs) j []) (get_or (drop n xs) i []) (get_or xs (n + j) []) (get_or xs (n + i) []) (get_or-drop n xs j []) (get_or-drop n xs i [])
    (order (n + i) (n + j) (omega (arith, le)) (omega (arith, lt, length-drop n xs)))

in_order_take : (n : ℕ) (xs : List (List ℕ)) → n ≤ length xs → InOrder xs → InOrder (take n xs)
in_order_take n xs inside order i j le lt =
    let low : j < n = omega (arith, lt, length-take-le n xs inside) in
    no_later (get_or (take n xs) j []) (get_or (take n xs) i []) (get_or xs j []) (get_or xs i []) (get_or-take n xs j [] low) (get_or-take n xs i [] (omega (arith, le, low)))
    (order i j le (omega (arith, low, inside)))

-- ---- names that precede others

pub precede_append : (xs zs ys : List (List ℕ)) (from : ℕ) → Precede xs ys from → Precede zs ys from → Precede (xs ++ zs) ys from
precede_append xs zs ys from first second i j lt low high =
    elim (cases_lt i (length xs)) [
      | inl left ↦
          no_later (get_or ys j []) (get_or (xs ++ zs) i []) (get_or ys j []) (get_or xs i []) refl (get_or_append_left xs zs [] i left) (first i j left low high)
      | inr right ↦
          no_later (get_or ys j []) (get_or (xs ++ zs) i []) (get_or ys j []) (get_or zs (i - length xs) []) refl (get_or-append_right xs zs (length xs) i [] refl right)
          (second (i - length xs) j (omega (arith, lt, right, length-append xs zs)) low high)
    ]

pub precede_one : (x : List ℕ) (ys : List (List ℕ)) (from : ℕ) → ((j : ℕ) → from ≤ j → j < length ys → comes_before (get_or ys j []) x ≡ false) → Precede (x ∷ []) ys from
precede_one x ys from h i j lt low high =
    let first : i ≡ 0 = omega (arith, lt) in
    no_later (get_or ys j []) (get_or (x ∷ []) i []) (get_or ys j []) x refl (ap (λ (k : ℕ). get_or (x ∷ []) k []) first) (h j low high)

pub precede_this : (xs : List (List ℕ)) (y : List ℕ) → ((i : ℕ) → i < length xs → comes_before y (get_or xs i []) ≡ false) → Precede xs (y ∷ []) 0
precede_this xs y h i j lt low high =
    let first : j ≡ 0 = omega (arith, high) in
    no_later (get_or (y ∷ []) j []) (get_or xs i []) y (get_or xs i []) (ap (λ (k : ℕ). get_or (y ∷ []) k []) first) refl (h i lt)

pub precede_rest : (xs ys : List (List ℕ)) (from : ℕ) → Precede xs ys from → Precede xs (drop from ys) 0
precede_rest xs ys from h i j lt low high =
    no_later (get_or (drop from ys) j []) (get_or xs i []) (get_or ys (from + j) []) (get_or xs i []) (get_or-drop from ys j []) refl
    (h i (from + j) lt (omega arith) (omega (arith, high, length-drop from ys)))

-- A part of a list, from one place up to another.
part_at : (xs : List (List ℕ)) (from n i : ℕ) → i < n → get_or (take n (drop from xs)) i [] ≡ get_or xs (from + i) []
part_at xs from n i lt = get_or-take n (drop from xs) i [] lt ∙ get_or-drop from xs i []

part_size : {X : Type 0} (xs : List X) (from to : ℕ) → from ≤ to → to ≤ length xs → length (take (to - from) (drop from xs)) ≡ to - from
part_size xs from to le within = length-take-le (to - from) (drop from xs) (omega (arith, le, within, length-drop from xs))

precede_part : (xs ys : List (List ℕ)) (from to : ℕ) → from ≤ to → to ≤ length ys → Precede xs ys from → Precede xs (take (to - from) (drop from ys)) 0
precede_part xs ys from to le within h i j lt low high =
    let size : length (take (to - from) (drop from ys)) ≡ to - from = part_size ys from to le within in
    no_later (get_or (take (to - from) (drop from ys)) j []) (get_or xs i []) (get_or ys (from + j) []) (get_or xs i []) (part_at ys from (to - from) j (omega (arith, high, size))) refl
    (h i (from + j) lt (omega arith) (omega (arith, high, size, le, within)))

part_precedes : (xs ys : List (List ℕ)) (from to place : ℕ) → from ≤ to → to ≤ length xs → ((i j : ℕ) → from ≤ i → i < to → place ≤ j → j < length ys → comes_before (get_or ys j []) (get_or xs i []) ≡ false) → Precede (take (to - from) (drop from xs)) ys place
part_precedes xs ys from to place le within h i j lt low high =
    let size : length (take (to - from) (drop from xs)) ≡ to - from = part_size xs from to le within in
    no_later (get_or ys j []) (get_or (take (to - from) (drop from xs)) i []) (get_or ys j []) (get_or xs (from + i) []) refl (part_at xs from (to - from) i (omega (arith, lt, size)))
    (h (from + i) j (omega arith) (omega (arith, lt, size, le)) low high)

-- ---- keys

pub spelled-append : (names : List (List ℕ)) (xs ys : List Key) → spelled names (xs ++ ys) ≡ spelled names xs ++ spelled names ys
spelled-append names xs ys = map-append (λ (k : Key). get_or names k.number []) xs ys

pub spelled-drop : (names : List (List ℕ)) (n : ℕ) (xs : List Key) → spelled names (drop n xs) ≡ drop n (spelled names xs)
spelled-drop names n xs = sym (drop-map (λ (k : Key). get_or names k.number []) n xs)

pub spelled-take : (names : List (List ℕ)) (n : ℕ) (xs : List Key) → spelled names (take n xs) ≡ take n (spelled names xs)
spelled-take names n xs = sym (take-map (λ (k : Key). get_or names k.number []) n xs)

pub keys_append : (names : List (List ℕ)) (xs ys : List Key) → AreKeys names xs → AreKeys names ys → Precede (spelled names xs) (spelled names ys) 0 → AreKeys names (xs ++ ys)
keys_append names xs ys first second across = record {
  each = All-append (IsKey names) xs ys first.each second.each;
  order = subst InOrder (sym (spelled-append names xs ys)) (in_order_append (spelled names xs) (spelled names ys) first.order second.order across);
}

pub keys_none : (names : List (List ℕ)) → AreKeys names []
keys_none names = record { each = All-nil (IsKey names); order = λ i j le lt. absurd (omega (arith, lt)) }

pub keys_one : (names : List (List ℕ)) (k : Key) → IsKey names k → AreKeys names (k ∷ [])
keys_one names k is = record {
  each = All-cons (IsKey names) k [] is (All-nil (IsKey names));
  order = λ i j le lt.
      let first : i ≡ 0 = omega (arith, le, lt) in
      let last : j ≡ 0 = omega (arith, lt) in
      no_later (get_or (spelled names (k ∷ [])) j []) (get_or (spelled names (k ∷ [])) i []) (get_or names k.number []) (get_or names k.number [])
      (ap (λ (n : ℕ). get_or (spelled names (k ∷ [])) n []) last)
      (ap (λ (n : ℕ). get_or (spelled names (k ∷ [])) n []) first)
      (not_itself (get_or names k.number []));
}

pub keys_drop : (names : List (List ℕ)) (n : ℕ) (xs : List Key) → AreKeys names xs → AreKeys names (drop n xs)
keys_drop names n xs are = record {
  each = All-drop (IsKey names) n xs are.each;
  order = subst InOrder (sym (spelled-drop names n xs)) (in_order_drop n (spelled names xs) are.order);
}

pub keys_take : (names : List (List ℕ)) (n : ℕ) (xs : List Key) → n ≤ length xs → AreKeys names xs → AreKeys names (take n xs)
keys_take names n xs inside are = record {
  each = All-take (IsKey names) n xs are.each;
  order = subst InOrder (sym (spelled-take names n xs)) (in_order_take n (spelled names xs) (omega (arith, inside, length_spelled names xs)) are.order);
}

-- ---- a step: a run of the first list, and a key of the second

run_before : (S R : List (List ℕ)) (x : List ℕ) (i j count : ℕ) → InOrder R → comes_before (get_or S i []) x ≡ true → x ≡ get_or R count [] → count ≤ j → j < length R → comes_before (get_or R j []) (get_or S i []) ≡ false
run_before S R x i j count order before is le lt =
    let later : comes_before (get_or R j []) x ≡ false = no_later (get_or R j []) x (get_or R j []) (get_or R count []) refl is (order count j le lt) in
    chain (get_or R j []) x (get_or S i []) later (one_way (get_or S i []) x before)

take_further : {X : Type 0} (xs : List X) (from to : ℕ) → from ≤ to → take to xs ≡ take from xs ++ take (to - from) (drop from xs)
take_further {X} xs from to le =
    let whole : to ≡ from + (to - from) = omega (arith, le) in
    sym (take-append-drop from (take to xs))
    ∙ ap₂ (λ (a b : List X). a ++ b) (take-take from to xs le) (ap (λ (n : ℕ). drop from (take n xs)) whole ∙ drop-take from (to - from) xs)

four : (s r u k : Bool) → (((s || r) || u) || k) ≡ ((s || u) || (r || k))
four true r u k = refl
four false true true k = refl
four false true false k = refl
four false false true k = refl
four false false false k = refl

more_numbers : (n from to count : ℕ) (sorted recent all : List Key) (key : Key) → from ≤ to → count < length recent → key ≡ get_or recent count key
    → has_number n all ≡ (has_number n (take from sorted) || has_number n (take count recent))
    → has_number n ((all ++ take (to - from) (drop from sorted)) ++ key ∷ []) ≡ (has_number n (take to sorted) || has_number n (take (count + 1) recent))
more_numbers n from to count sorted recent all key le lt is h =
    let has : Key → Bool = λ (k : Key). nat_eq k.number n in
    let run : List Key = take (to - from) (drop from sorted) in
    list_any-append has (all ++ run) (key ∷ [])
    ∙ ap (λ (b : Bool). b || has_number n (key ∷ [])) (list_any-append has all run ∙ ap (λ (b : Bool). b || has_number n run) h)
    ∙ four (has_number n (take from sorted)) (has_number n (take count recent)) (has_number n run) (has_number n (key ∷ []))
    ∙ ap₂ (λ (a b : Bool). a || b)
    (sym (list_any-append has (take from sorted) run) ∙ ap (has_number n) (sym (take_further sorted from to le)))
    (sym (list_any-append has (take count recent) (key ∷ [])) ∙ ap (λ (k : Key). has_number n (take count recent ++ k ∷ [])) is ∙ ap (has_number n) (sym (take_more recent count key lt)))

pub merging_more : (names : List (List ℕ)) (sorted recent all : List Key) (from count to : ℕ) (key : Key) (name : List ℕ)
    → AreKeys names sorted → AreKeys names recent → IsMerging names sorted recent all from count
    → count < length recent → key ≡ get_or recent count key → name ≡ get_or names key.number []
    → from ≤ to → to ≤ length sorted
    → AllWithin (λ n. comes_before n name ≡ true) (spelled names sorted) from to
    → AllWithin (λ n. comes_before n name ≡ false) (spelled names sorted) to (length sorted)
    → IsMerging names sorted recent ((all ++ take (to - from) (drop from sorted)) ++ key ∷ []) to (count + 1)
merging_more names sorted recent all from count to key name are others so lt is named le within before rest =
    let S : List (List ℕ) = spelled names sorted in
    let R : List (List ℕ) = spelled names recent in
    let A : List (List ℕ) = spelled names all in
    let run : List Key = take (to - from) (drop from sorted) in
    let run_names : List (List ℕ) = take (to - from) (drop from S) in
    let S_size : length S ≡ length sorted = length_spelled names sorted in
    let R_size : length R ≡ length recent = length_spelled names recent in
    let in_recent : name ≡ get_or R count [] = named ∙ ap (λ (k : Key). get_or names k.number []) is ∙ sym (spelled_at names recent count [] key lt) in
    let run_spelled : spelled names run ≡ run_names = spelled-take names (to - from) (drop from sorted) ∙ ap (take (to - from)) (spelled-drop names from sorted) in
    let key_is : IsKey names key = subst (IsKey names) (sym is) (others.each count key lt) in
    let run_keys : AreKeys names run = keys_take names (to - from) (drop from sorted) (omega (arith, le, within, length-drop from sorted)) (keys_drop names from sorted are) in
    let front_keys : AreKeys names (all ++ run) =
    keys_append names all run so.keys run_keys (subst (λ (ns : List (List ℕ)). Precede A ns 0) (sym run_spelled) (precede_part A S from to le (omega (arith, within, S_size)) so.sorted_follow)) in
    let front_spelled : spelled names (all ++ run) ≡ A ++ run_names = spelled-append names all run ∙ ap (λ (ns : List (List ℕ)). A ++ ns) run_spelled in
    let whole_spelled : spelled names ((all ++ run) ++ key ∷ []) ≡ (A ++ run_names) ++ name ∷ [] =
    spelled-append names (all ++ run) (key ∷ []) ∙ ap₂ (λ (ns : List (List ℕ)) (n : List ℕ). ns ++ n ∷ []) front_spelled (sym named) in
    let run_then_recent : (place : ℕ) → count ≤ place → Precede run_names R place =
    λ place past. part_precedes S R from to place le (omega (arith, within, S_size)) (λ i j low high after inside. run_before S R name i j count others.order (before i [] low high) in_recent (omega (arith, past, after)) inside) in
    let front_then_recent : (place : ℕ) → count ≤ place → Precede (A ++ run_names) R place =
    λ place past. precede_append A run_names R place (λ i j a b d. so.recent_follow i j a (omega (arith, past, b)) d) (run_then_recent place past) in
    let front_then_key : Precede (spelled names (all ++ run)) (spelled names (key ∷ [])) 0 =
    subst (λ (ns : List (List ℕ)). Precede ns (spelled names (key ∷ [])) 0) (sym front_spelled)
    (precede_this (A ++ run_names) (get_or names key.number []) (λ i inside. ap (λ (n : List ℕ). comes_before n (get_or (A ++ run_names) i [])) (sym named ∙ in_recent) ∙ front_then_recent count (omega arith) i count inside (omega arith) (omega (arith, lt, R_size)))) in
    record {
      within = within;
      keys = keys_append names (all ++ run) (key ∷ []) front_keys (keys_one names key key_is) front_then_key;
      sorted_follow = subst (λ (ns : List (List ℕ)). Precede ns S to) (sym whole_spelled)
          (precede_append (A ++ run_names) (name ∷ []) S to
          (precede_append A run_names S to (λ i j a b d. so.sorted_follow i j a (omega (arith, le, b)) d)
          (part_precedes S S from to to le (omega (arith, within, S_size)) (λ i j low high after inside. are.order i j (omega (arith, high, after)) inside)))
          (precede_one name S to (λ j low high. rest j [] low (omega (arith, high, S_size)))));
      recent_follow = subst (λ (ns : List (List ℕ)). Precede ns R (count + 1)) (sym whole_spelled)
          (precede_append (A ++ run_names) (name ∷ []) R (count + 1)
          (front_then_recent (count + 1) (omega arith))
          (precede_one name R (count + 1) (λ j low high. ap (comes_before (get_or R j [])) in_recent ∙ others.order count j (omega (arith, low)) high)));
      numbers = λ n. more_numbers n from to count sorted recent all key le lt is (so.numbers n);
    }

-- ---- the end: what is left of the first list

pub merged_keys : (names : List (List ℕ)) (sorted recent all : List Key) (from count : ℕ) → AreKeys names sorted → IsMerging names sorted recent all from count → AreKeys names (all ++ drop from sorted)
merged_keys names sorted recent all from count are so =
    keys_append names all (drop from sorted) so.keys (keys_drop names from sorted are)
    (subst (λ (ns : List (List ℕ)). Precede (spelled names all) ns 0) (sym (spelled-drop names from sorted)) (precede_rest (spelled names all) (spelled names sorted) from so.sorted_follow))

three : (s r u : Bool) → ((s || r) || u) ≡ ((s || u) || r)
three true r u = refl
three false true true = refl
three false true false = refl
three false false true = refl
three false false false = refl

pub merged_numbers : (names : List (List ℕ)) (sorted recent all : List Key) (from count n : ℕ) → length recent ≤ count → IsMerging names sorted recent all from count → has_number n (all ++ drop from sorted) ≡ (has_number n sorted || has_number n recent)
merged_numbers names sorted recent all from count n past so =
    let has : Key → Bool = λ (k : Key). nat_eq k.number n in
    list_any-append has all (drop from sorted)
    ∙ ap (λ (b : Bool). b || has_number n (drop from sorted)) (so.numbers n ∙ ap (λ (ks : List Key). has_number n (take from sorted) || has_number n ks) (take_all count recent past))
    ∙ three (has_number n (take from sorted)) (has_number n recent) (has_number n (drop from sorted))
    ∙ ap (λ (b : Bool). b || has_number n recent) (sym (list_any-append has (take from sorted) (drop from sorted)) ∙ ap (has_number n) (take-append-drop from sorted))
