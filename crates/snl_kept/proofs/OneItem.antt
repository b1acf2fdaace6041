-- The tokens of an item, and where the items of a text end after an edit that makes one in the
-- place of one.
use Rattle.std.proofs.Common.{◌≡◌, ℕ, zero, suc, ◌+◌, ◌-◌, ◌<◌, ◌≤◌, All, List, [], ◌∷◌, ◌++◌, length, map, take, drop, get_or, sym, ap, ap₂, ◌∙◌, subst, append_assoc, arith, length-append, add-one}
use Rattle.std.proofs.lemmas.List.{length-drop, length-take-le, take_at}
use Rattle.std.proofs.lemmas.List.Elements.{All-drop, All-filter, All-take}
use Rattle.snl_cut.specs.Cut.{last_end, members, moved}
use Rattle.snl_lex.specs.declared.piece.Class.{Class}
use Rattle.snl_lex.specs.Edit.{Edit}
use Rattle.snl_lex.specs.PieceList.{spelled}
use Rattle.snl_lex.specs.Pieces.{LiesIn, is_token, pieces_of, tokens_of}
use Rattle.snl_items.specs.declared.tokens.TokenEdit.{TokenEdit}
use Rattle.snl_items.specs.declared.item_list.ItemChange.{ItemChange}
use Rattle.snl_items.specs.Changes.{IsItemChange}
use Rattle.snl_items.specs.Items.{item_ends, spellings}
use Rattle.snl_kept.specs.declared.entries.Entry.{Entry}
use Rattle.snl_kept.specs.Entries.{entry_by}
use Rattle.snl_kept.specs.ReplacedItem.{own_tokens}
use Rattle.snl_kept.specs.Parts.{EndsWithin, tokens_between}
use Rattle.snl_kept.proofs.Members.{spelled_between}
use Rattle.snl_kept.proofs.MemberParts.{last_of_more, one_end}

-- the tokens of an item lie in the text
pub own_lie : (text : List ℕ) (i : ℕ) → All (LiesIn text) (pieces_of text) → All (LiesIn text) (own_tokens text i)
own_lie text i inside =
    let first : ℕ = last_end 0 (take i (item_ends text)) in
    All-take (LiesIn text) (last_end 0 (take (i + 1) (item_ends text)) - first) (drop first (tokens_of text))
    (All-drop (LiesIn text) first (tokens_of text) (All-filter is_token (LiesIn text) (pieces_of text) inside))

-- and each item has some
pub end_within : (from k : ℕ) (ends : List ℕ) (to : ℕ) → from ≤ to → EndsWithin from ends to → last_end from (take k ends) ≤ to
end_within from zero ends to le h = le
end_within from (suc k) [] to le h = le
end_within from (suc k) (e ∷ es) to le h = end_within e k es to h.1 h.2

pub ends_rise : (from k : ℕ) (ends : List ℕ) (to : ℕ) → k < length ends → EndsWithin from ends to → last_end from (take k ends) < last_end from (take (suc k) ends)
ends_rise from k [] to lt h = absurd (omega (arith, lt))
ends_rise from zero (e ∷ es) to lt h = h.0
ends_rise from (suc k) (e ∷ es) to lt h = ends_rise e k es to (omega (arith, lt)) h.2

pub own_some : (text : List ℕ) (i : ℕ) → i < length (item_ends text) → EndsWithin 0 (item_ends text) (length (tokens_of text)) → 0 < length (own_tokens text i)
own_some text i lt h =
    let ends : List ℕ = item_ends text in
    let first : ℕ = last_end 0 (take i ends) in
    let stop : ℕ = last_end 0 (take (i + 1) ends) in
    let stop_is : stop ≡ last_end 0 (take (suc i) ends) = ap (λ (n : ℕ). last_end 0 (take n ends)) (add-one i) in
    let many : length (drop first (tokens_of text)) ≡ length (tokens_of text) - first = length-drop first (tokens_of text) in
    omega (
      arith,
      stop_is,
      many,
      ends_rise 0 i ends (length (tokens_of text)) lt h,
      end_within 0 (suc i) ends (length (tokens_of text)) (omega arith) h,
      length-take-le (stop - first) (drop first (tokens_of text)) (omega (arith, stop_is, many, end_within 0 (suc i) ends (length (tokens_of text)) (omega arith) h)),
    )

module _ (e : Edit) (edit : TokenEdit) (items : ItemChange) (is : IsItemChange e edit items) (one_made : length items.made.items ≡ 1)
    (one_gone : items.kept_front + 1 + items.kept_back ≡ length (item_ends e.old)) where
  abbrev old : List ℕ
  old = e.old

  abbrev text : List ℕ
  text = e.text

  abbrev k : ℕ
  k = items.kept_front

  abbrev made : List ℕ
  made = items.made.items

  abbrev back : ℕ
  back = items.kept_back

  abbrev was_end : ℕ
  was_end = last_end 0 (take (suc k) (item_ends old))

  pub kept_from : length (item_ends old) - back ≡ suc k
  kept_from = omega (arith, one_gone)

  pub made_is : made ≡ get_or made 0 0 ∷ []
  made_is = one_end made one_made

  pub ends_after : edit.old_stop ≤ was_end
  ends_after = subst (λ (n : ℕ). edit.old_stop ≤ last_end 0 (take n (item_ends old))) kept_from is.after

  pub end_moves : get_or made 0 0 ≡ (was_end - edit.old_stop) + edit.new_stop
  end_moves =
      sym (last_of_more 0 (take k (item_ends old)) (get_or made 0 0))
      ∙ ap (λ (l : List ℕ). last_end 0 (take k (item_ends old) ++ l)) (sym made_is)
      ∙ is.led
      ∙ ap (λ (n : ℕ). (last_end 0 (take n (item_ends old)) - edit.old_stop) + edit.new_stop) kept_from

  abbrev later_ends : List ℕ
  later_ends = moved edit.old_stop edit.new_stop (drop (suc k) (item_ends old))

  pub ends_are : item_ends text ≡ (take k (item_ends old) ++ (get_or made 0 0 ∷ [])) ++ later_ends
  ends_are =
      is.ends ∙ ap₂ (λ (l : List ℕ) (n : ℕ). (take k (item_ends old) ++ l) ++ moved edit.old_stop edit.new_stop (drop n (item_ends old))) made_is kept_from

  count_before : length (take k (item_ends old)) ≡ k
  count_before = length-take-le k (item_ends old) (omega (arith, one_gone))

  -- where the item begins and ends
  pub begins : last_end 0 (take k (item_ends text)) ≡ last_end 0 (take k (item_ends old))
  begins =
      ap (last_end 0)
      (ap (take k) (ends_are ∙ append_assoc (take k (item_ends old)) (get_or made 0 0 ∷ []) later_ends) ∙ take_at (take k (item_ends old)) ((get_or made 0 0 ∷ []) ++ later_ends) k count_before)

  pub ends : last_end 0 (take (k + 1) (item_ends text)) ≡ get_or made 0 0
  ends =
      ap (last_end 0)
      (ap (take (k + 1)) ends_are ∙ take_at (take k (item_ends old) ++ (get_or made 0 0 ∷ [])) later_ends (k + 1) (omega (arith, length-append (take k (item_ends old)) (get_or made 0 0 ∷ []), count_before)))
      ∙ last_of_more 0 (take k (item_ends old)) (get_or made 0 0)

  pub made_there : k < length (item_ends text)
  made_there =
      omega (
        arith,
        ap (λ (l : List ℕ). length l) ends_are,
        length-append (take k (item_ends old) ++ (get_or made 0 0 ∷ [])) later_ends,
        length-append (take k (item_ends old)) (get_or made 0 0 ∷ []),
        count_before,
      )

  -- what is kept of it is what its tokens say
  pub one_member : map entry_by (members (spellings text) (last_end 0 (take k (item_ends old))) made) ≡ entry_by (spelled text (own_tokens text k)) ∷ []
  one_member =
      let first : ℕ = last_end 0 (take k (item_ends old)) in
      let stop : ℕ = get_or made 0 0 in
      let own : own_tokens text k ≡ tokens_between (tokens_of text) first stop = ap₂ (λ (x y : ℕ). tokens_between (tokens_of text) x y) begins ends in
      ap (λ (l : List ℕ). map entry_by (members (spellings text) first l)) made_is
      ∙ ap (λ (t : List (Class × List ℕ)). let one : List Entry = entry_by t ∷ [] in one) (spelled_between text (tokens_of text) first stop ∙ ap (spelled text) (sym own))
