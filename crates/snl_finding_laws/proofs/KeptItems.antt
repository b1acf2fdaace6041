-- Items that an edit keeps are spelled as they were.
use Rattle.std.proofs.Common.{◌≡◌, ◌⊎◌, ℕ, zero, suc, ◌+◌, ◌-◌, ◌<◌, ◌≤◌, Bool, true, false, nat_eq, nat_lt, List, [], ◌∷◌, ◌++◌, length, take, drop, get_or, slice_get, inl, inr, refl, sym, ap, ◌∙◌, arith}
use Rattle.std.specs.Prelude.{if◌then◌else◌}
use Rattle.std.proofs.lemmas.Bool.{cases_lt, eq-eqb, le-ltb, lt-ltb, true≢false}
use Rattle.std.proofs.lemmas.List.{get_or-append-add, get_or_append_left, length-append, length-drop, length-map, length-take-le}
use Rattle.std.proofs.lemmas.List.Folds.{list_any_at}
use Rattle.snl_cut.specs.Cut.{ends_below, joined, last_end, members, moved}
use Rattle.snl_lex.specs.declared.piece.Class.{Class}
use Rattle.snl_lex.specs.Edit.{Edit}
use Rattle.snl_items.specs.declared.item_list.ItemChange.{ItemChange}
use Rattle.snl_items.specs.declared.tokens.TokenEdit.{TokenEdit}
use Rattle.snl_items.specs.Changes.{IsItemChange}
use Rattle.snl_items.specs.Fresh.{fresh_items_of}
use Rattle.snl_items.specs.Items.{item_ends, spelled_items, spellings}
use Rattle.snl_kept.specs.Stirred.{is_fresh, old_number}
use Rattle.snl_cut.specs.CutLaws.{length_members}

-- ---- elements by their places

get_left : {A : Type 0} (xs ys : List A) (i : ℕ) → i < length xs → slice_get (xs ++ ys) i ≡ slice_get xs i
get_left [] ys i h = absurd (omega (arith, h))
get_left (x ∷ xs) ys zero h = refl
get_left (x ∷ xs) ys (suc i) h = get_left xs ys i (omega (arith, h))

get_right : {A : Type 0} (xs ys : List A) (i : ℕ) → slice_get (xs ++ ys) (length xs + i) ≡ slice_get ys i
get_right [] ys i = let same : 0 + i ≡ i = omega arith in ap (slice_get ys) same
get_right (x ∷ xs) ys i = let next : length (x ∷ xs) + i ≡ suc (length xs + i) = omega arith in ap (slice_get (x ∷ xs ++ ys)) next ∙ get_right xs ys i

get_taken : {A : Type 0} (n : ℕ) (xs : List A) (i : ℕ) → i < n → slice_get (take n xs) i ≡ slice_get xs i
get_taken zero xs i h = absurd (omega (arith, h))
get_taken (suc n) [] i h = refl
get_taken (suc n) (x ∷ xs) zero h = refl
get_taken (suc n) (x ∷ xs) (suc i) h = get_taken n xs i (omega (arith, h))

get_dropped : {A : Type 0} (n : ℕ) (xs : List A) (i : ℕ) → slice_get (drop n xs) i ≡ slice_get xs (n + i)
get_dropped zero xs i = let same : i ≡ 0 + i = omega arith in ap (slice_get xs) same
get_dropped (suc n) [] i = refl
get_dropped (suc n) (x ∷ xs) i = let next : suc (n + i) ≡ suc n + i = omega arith in get_dropped n xs i ∙ ap (slice_get (x ∷ xs)) next

-- ---- the ends after an edit

module _ (old_ends : List ℕ) (old_stop new_stop front : ℕ) (made : List ℕ) (back : ℕ) (order : front + back ≤ length old_ends) where
  abbrev ends : List ℕ
  ends = joined old_ends old_stop new_stop front made back

  front_count : length (take front old_ends) ≡ front
  front_count = length-take-le front old_ends (omega (arith, order))

  ends_count : length ends ≡ front + length made + back
  ends_count =
      omega (
        arith,
        order,
        front_count,
        length-append (take front old_ends ++ made) (moved old_stop new_stop (drop (length old_ends - back) old_ends)),
        length-append (take front old_ends) made,
        length-map (drop (length old_ends - back) old_ends) (λ e. (e - old_stop) + new_stop),
        length-drop (length old_ends - back) old_ends,
      )

  -- an item between the kept ones is fresh
  made_is_fresh : (k : ℕ) → k < length made → is_fresh ends made (front + k) ≡ true
  made_is_fresh k h =
      let within : length (take front old_ends) + k < length (take front old_ends ++ made) = omega (arith, h, length-append (take front old_ends) made) in
      let place : front + k ≡ length (take front old_ends) + k = omega (arith, front_count) in
      let end : get_or ends (front + k) 0 ≡ get_or made k 0 =
      ap (λ n. get_or ends n 0) place
      ∙ get_or_append_left (take front old_ends ++ made) (moved old_stop new_stop (drop (length old_ends - back) old_ends)) 0 (length (take front old_ends) + k) within
      ∙ get_or-append-add (take front old_ends) made k 0 in
      list_any_at (nat_eq (get_or ends (front + k) 0)) made k 0 h (eq-eqb (get_or ends (front + k) 0) (get_or made k 0) end)

  -- ---- the number that an item had
  module _ (before : ℕ) (kept : (front ≡ before) ⊎ ((front ≡ length old_ends) × (made ≡ []))) where
    front_number : (i : ℕ) → i < front → old_number before (length old_ends) (length ends) i ≡ i
    front_number i h =
        elim kept [
          | inl same ↦ ap (λ b. if b then i else (i + length old_ends) - length ends) (lt-ltb i before (omega (arith, h, same)))
          | inr all ↦
              let none : length made ≡ 0 = ap length all.1 in
              let stays : (i + length old_ends) - length ends ≡ i = omega (arith, ends_count, order, all.0, none) in
              elim (nat_lt i before) as (λ (b : Bool). (if b then i else (i + length old_ends) - length ends) ≡ i) [ true ↦ refl | false ↦ stays ]
        ]

    back_number : (k : ℕ) → k < back → old_number before (length old_ends) (length ends) (front + length made + k) ≡ (length old_ends - back) + k
    back_number k h =
        elim kept [
          | inl same ↦
              let later : before ≤ front + length made + k = omega (arith, same) in
              ap (λ b. if b then front + length made + k else (front + length made + k + length old_ends) - length ends) (le-ltb (front + length made + k) before later)
              ∙ omega (arith, ends_count, order, h)
          | inr all ↦ absurd (omega (arith, order, all.0, h))
        ]

-- ---- the items after an edit

pub kept_alike : (e : Edit) (edit : TokenEdit) (change : ItemChange) → IsItemChange e edit change
    → (i : ℕ) → i < length (item_ends e.text) → is_fresh (item_ends e.text) (fresh_items_of e) i ≡ false
    → slice_get (spelled_items e.text) i ≡ slice_get (spelled_items e.old) (old_number (ends_below edit.start (item_ends e.old)) (length (item_ends e.old)) (length (item_ends e.text)) i)
kept_alike e edit change is i within kept =
    elim (cases_lt i change.kept_front) [
      | inl lt ↦
          let here : i < length (take change.kept_front (spelled_items e.old)) = omega (arith, lt, taken) in
          ap (λ (l : List (List (Class × List ℕ))). slice_get l i) is.items ∙ get_left (take change.kept_front (spelled_items e.old)) (between ++ last) i here ∙ get_taken change.kept_front (spelled_items e.old) i lt
          ∙ ap (slice_get (spelled_items e.old)) (sym (number_is i i (front_number (item_ends e.old) edit.old_stop edit.new_stop change.kept_front change.made.items change.kept_back is.order (ends_below edit.start (item_ends e.old)) is.before i lt)))
      | inr ge ↦
          elim (cases_lt (i - change.kept_front) (length change.made.items)) [
            | inl lt ↦
                let place : change.kept_front + (i - change.kept_front) ≡ i = omega (arith, ge) in
                let fresh : is_fresh (item_ends e.text) (fresh_items_of e) i ≡ true =
                ap (λ (es : List ℕ). is_fresh es (fresh_items_of e) i) is.ends
                ∙ ap (λ (m : List ℕ). is_fresh all m i) (sym is.fresh)
                ∙ ap (is_fresh all change.made.items) (sym place)
                ∙ made_is_fresh (item_ends e.old) edit.old_stop edit.new_stop change.kept_front change.made.items change.kept_back is.order (i - change.kept_front) lt in
                absurd (true≢false (sym fresh ∙ kept))
            | inr past ↦
                let k : ℕ = i - change.kept_front - length change.made.items in
                let place : i ≡ length (take change.kept_front (spelled_items e.old)) + (length between + k) = omega (arith, ge, past, taken, middle) in
                let same : i ≡ change.kept_front + length change.made.items + k = omega (arith, ge, past) in
                let few : k < change.kept_back = omega (arith, within, same, ap length is.ends, ends_count (item_ends e.old) edit.old_stop edit.new_stop change.kept_front change.made.items change.kept_back is.order) in
                ap (λ (l : List (List (Class × List ℕ))). slice_get l i) is.items ∙ ap (slice_get (take change.kept_front (spelled_items e.old) ++ (between ++ last))) place
                ∙ get_right (take change.kept_front (spelled_items e.old)) (between ++ last) (length between + k) ∙ get_right between last k
                ∙ get_dropped (length (item_ends e.old) - change.kept_back) (spelled_items e.old) k
                ∙ ap (slice_get (spelled_items e.old))
                (sym (number_is i ((length (item_ends e.old) - change.kept_back) + k)
                (ap (old_number (ends_below edit.start (item_ends e.old)) (length (item_ends e.old)) (length all)) same
                ∙ back_number (item_ends e.old) edit.old_stop edit.new_stop change.kept_front change.made.items change.kept_back is.order (ends_below edit.start (item_ends e.old)) is.before k few)))
          ]
    ]
  where
    all : List ℕ
    all = joined (item_ends e.old) edit.old_stop edit.new_stop change.kept_front change.made.items change.kept_back

    between : List (List (Class × List ℕ))
    between = members (spellings e.text) (last_end 0 (take change.kept_front (item_ends e.old))) change.made.items

    last : List (List (Class × List ℕ))
    last = drop (length (item_ends e.old) - change.kept_back) (spelled_items e.old)

    taken : length (take change.kept_front (spelled_items e.old)) ≡ change.kept_front
    taken = length-take-le change.kept_front (spelled_items e.old) (omega (arith, is.order, length_members (spellings e.old) 0 (item_ends e.old)))

    middle : length between ≡ length change.made.items
    middle = length_members (spellings e.text) (last_end 0 (take change.kept_front (item_ends e.old))) change.made.items

    number_is : (j number : ℕ) → old_number (ends_below edit.start (item_ends e.old)) (length (item_ends e.old)) (length all) j ≡ number
        → old_number (ends_below edit.start (item_ends e.old)) (length (item_ends e.old)) (length (item_ends e.text)) j ≡ number
    number_is j number h = ap (λ (es : List ℕ). old_number (ends_below edit.start (item_ends e.old)) (length (item_ends e.old)) (length es) j) is.ends ∙ h
