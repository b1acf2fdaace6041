-- The tokens of the items of a text after an edit inside one of them: that one has other tokens,
-- those of the others are shifted.
use Rattle.std.proofs.Common.{◌≡◌, ℕ, suc, ◌+◌, ◌-◌, ◌<◌, ◌≤◌, All, List, [], ◌∷◌, ◌++◌, length, map, take, drop, get_or, slice_get, Some, option_map, sym, ap, ap₂, ◌∙◌, subst, append_assoc, add-one, arith, length-append}
use Rattle.std.specs.List.{AllByRecursion}
use Rattle.std.proofs.lemmas.List.{drop-map, drop_at, length-map, length-take-le, map-append, take-map, take_at}
use Rattle.std.proofs.lemmas.Option.{slice_get-map, same_Some}
use Rattle.std.proofs.lemmas.Simd.{map-map}
use Rattle.snl_cut.specs.Cut.{Rises, last_end, members, moved}
use Rattle.snl_lex.specs.declared.piece.Class.{Class}
use Rattle.snl_lex.specs.declared.piece.Piece.{Piece}
use Rattle.snl_lex.specs.declared.shift.Shift.{Shift}
use Rattle.snl_lex.specs.Edit.{Edit}
use Rattle.snl_lex.specs.PieceList.{spelled, spelling}
use Rattle.snl_lex.specs.Pieces.{tokens_of}
use Rattle.snl_lex.specs.Shift.{shifted_piece}
use Rattle.snl_items.specs.declared.tokens.TokenEdit.{TokenEdit}
use Rattle.snl_items.specs.Changes.{IsItemChange, IsTokenChange, LeavesAround, made_in}
use Rattle.snl_items.specs.Items.{item_ends, spelled_items, spellings}
use Rattle.snl_moved.specs.Shifted.{shifted_tokens}
use Rattle.snl_kept.specs.declared.entries.Entry.{Entry}
use Rattle.snl_kept.specs.declared.plan.Changes.{Changes}
use Rattle.snl_kept.specs.Entries.{entries_of, entry_by}
use Rattle.snl_kept.specs.ReplacedItem.{own_tokens}
use Rattle.snl_kept.specs.Planned.{AreEntriesMade}
use Rattle.snl_kept.specs.Program.{item_tokens}
use Rattle.snl_kept.proofs.KeptChecks.{agreed}
use Rattle.snl_kept.proofs.MemberParts.{element_at, get_dropped, get_taken, in_last_members, in_members, last_of_more, members_at_back, members_drop, members_in_front, members_map, members_parts, members_take, rises_drop, rises_take, same_parts}
use Rattle.snl_kept.proofs.Members.{entries_count}
use Rattle.snl_kept.proofs.OneItem as one_item
use Rattle.snl_kept.proofs.SpelledItems.{spelled_text}
use Rattle.snl_cut.specs.CutLaws.{members_joined, length_members}

-- An edit makes one item in the place of one, and is past the first two tokens of that one.
pub record IsPastHead (e : Edit) (c : Changes) (s : Shift) : Type 0 where
  pub tokens : IsTokenChange e c.tokens
  pub items : IsItemChange e c.tokens.edit c.items
  pub one_made : length c.items.made.items ≡ 1
  pub one_gone : c.items.kept_front + 1 + c.items.kept_back ≡ length (item_ends e.old)
  pub around : LeavesAround s (tokens_of e.old) (tokens_of e.text) (made_in e c.tokens.edit) c.tokens.edit
  pub head : last_end 0 (take c.items.kept_front (item_ends e.old)) ≤ c.tokens.edit.start
  pub rises : Rises 0 (item_ends e.old)

module _ (e : Edit) (c : Changes) (s : Shift) (is : IsPastHead e c s) where
  abbrev old : List ℕ
  old = e.old

  abbrev text : List ℕ
  text = e.text

  abbrev edit : TokenEdit
  edit = c.tokens.edit

  abbrev made_tokens : List Piece
  made_tokens = made_in e c.tokens.edit

  abbrev k : ℕ
  k = c.items.kept_front

  abbrev made : List ℕ
  made = c.items.made.items

  abbrev back : ℕ
  back = c.items.kept_back

  abbrev before : List Piece
  before = take edit.start (tokens_of old)

  abbrev after : List Piece
  after = drop edit.old_stop (tokens_of old)

  -- where the item begins, and where it ended and ends
  abbrev first : ℕ
  first = last_end 0 (take k (item_ends old))

  abbrev was_end : ℕ
  was_end = last_end 0 (take (suc k) (item_ends old))

  abbrev is_end : ℕ
  is_end = get_or made 0 0

  abbrev later_ends : List ℕ
  later_ends = moved edit.old_stop edit.new_stop (drop (suc k) (item_ends old))

  kept_from : length (item_ends old) - back ≡ suc k
  kept_from = one_item.kept_from e edit c.items is.items is.one_made is.one_gone

  made_is : made ≡ is_end ∷ []
  made_is = one_item.made_is e edit c.items is.items is.one_made is.one_gone

  ends_after : edit.old_stop ≤ was_end
  ends_after = one_item.ends_after e edit c.items is.items is.one_made is.one_gone

  end_moves : is_end ≡ (was_end - edit.old_stop) + edit.new_stop
  end_moves = one_item.end_moves e edit c.items is.items is.one_made is.one_gone

  ends_are : item_ends text ≡ (take k (item_ends old) ++ (is_end ∷ [])) ++ later_ends
  ends_are = one_item.ends_are e edit c.items is.items is.one_made is.one_gone

  -- ---- the tokens before the edit and after it

  within : edit.start ≤ length (tokens_of old)
  within = omega (arith, is.tokens.of_spellings.old_order, is.tokens.of_spellings.old_inside, length-map (tokens_of old) (spelling old))

  pub before_count : length before ≡ edit.start
  before_count = length-take-le edit.start (tokens_of old) within

  front_count : length (map (shifted_piece s) before) ≡ edit.start
  front_count = length-map before (shifted_piece s) ∙ before_count

  units_before : take edit.start (tokens_of text) ≡ map (shifted_piece s) before
  units_before = ap (take edit.start) is.around.tokens ∙ take_at (map (shifted_piece s) before) (made_tokens ++ map (shifted_piece s) after) edit.start front_count

  units_after : drop edit.new_stop (tokens_of text) ≡ map (shifted_piece s) after
  units_after =
      ap (drop edit.new_stop) (is.around.tokens ∙ sym (append_assoc (map (shifted_piece s) before) made_tokens (map (shifted_piece s) after)))
      ∙ drop_at (map (shifted_piece s) before ++ made_tokens) (map (shifted_piece s) after) edit.new_stop
      (omega (arith, length-append (map (shifted_piece s) before) made_tokens, front_count, is.tokens.count))

  -- ---- the items

  few : k < length (item_ends old)
  few = omega (arith, is.one_gone)

  was_own : own_tokens old k ≡ take (was_end - first) (drop first (tokens_of old))
  was_own = ap (λ (n : ℕ). take (last_end 0 (take n (item_ends old)) - first) (drop first (tokens_of old))) (add-one k)

  pub were_parts : item_tokens old ≡ take k (item_tokens old) ++ (own_tokens old k ∷ drop (suc k) (item_tokens old))
  unfolding item_tokens
  were_parts =
      members_parts (tokens_of old) 0 k (item_ends old) few
      ∙ ap (λ (m : List Piece). take k (members (tokens_of old) 0 (item_ends old)) ++ (m ∷ drop (suc k) (members (tokens_of old) 0 (item_ends old)))) (sym was_own)

  front_ends : Rises 0 (take k (item_ends old))
  front_ends = rises_take 0 k (item_ends old) is.rises

  back_ends : Rises was_end (drop (suc k) (item_ends old))
  back_ends = rises_drop 0 (suc k) (item_ends old) is.rises

  up : first ≤ edit.start
  up = omega (arith, is.head)

  front_members : members (tokens_of text) 0 (take k (item_ends old)) ≡ map (shifted_tokens s) (take k (members (tokens_of old) 0 (item_ends old)))
  front_members =
      sym (members_in_front (tokens_of text) edit.start 0 (take k (item_ends old)) front_ends up)
      ∙ ap (λ (l : List Piece). members l 0 (take k (item_ends old))) units_before
      ∙ members_map (shifted_piece s) before 0 (take k (item_ends old))
      ∙ ap (map (shifted_tokens s))
      (members_in_front (tokens_of old) edit.start 0 (take k (item_ends old)) front_ends up ∙ sym (members_take (tokens_of old) 0 k (item_ends old)))

  back_members : members (tokens_of text) is_end later_ends ≡ map (shifted_tokens s) (drop (suc k) (members (tokens_of old) 0 (item_ends old)))
  back_members =
      ap (λ (n : ℕ). members (tokens_of text) n later_ends) end_moves
      ∙ members_at_back (shifted_piece s) (tokens_of old) (tokens_of text) edit.old_stop edit.new_stop units_after was_end (drop (suc k) (item_ends old)) back_ends ends_after
      ∙ ap (map (shifted_tokens s)) (sym (members_drop (tokens_of old) 0 (suc k) (item_ends old)))

  abbrev own : List Piece
  own = take (is_end - first) (drop first (tokens_of text))

  all_members : members (tokens_of text) 0 (item_ends text)
      ≡ map (shifted_tokens s) (take k (members (tokens_of old) 0 (item_ends old))) ++ (own ∷ map (shifted_tokens s) (drop (suc k) (members (tokens_of old) 0 (item_ends old))))
  all_members =
      ap (members (tokens_of text) 0) ends_are
      ∙ members_joined (tokens_of text) 0 (take k (item_ends old) ++ (is_end ∷ [])) later_ends
      ∙ ap₂ (λ (x y : List (List Piece)). x ++ y) (members_joined (tokens_of text) 0 (take k (item_ends old)) (is_end ∷ []))
      (ap (λ (n : ℕ). members (tokens_of text) n later_ends) (last_of_more 0 (take k (item_ends old)) is_end))
      ∙ append_assoc (members (tokens_of text) 0 (take k (item_ends old))) (own ∷ []) (members (tokens_of text) is_end later_ends)
      ∙ ap₂ (λ (x y : List (List Piece)). x ++ (own ∷ y)) front_members back_members

  begins : last_end 0 (take k (item_ends text)) ≡ first
  begins = one_item.begins e edit c.items is.items is.one_made is.one_gone

  ends : last_end 0 (take (k + 1) (item_ends text)) ≡ is_end
  ends = one_item.ends e edit c.items is.items is.one_made is.one_gone

  is_own : own_tokens text k ≡ own
  is_own = ap₂ (λ (x y : ℕ). take (y - x) (drop x (tokens_of text))) begins ends

  pub stops_after : edit.old_stop ≤ last_end 0 (take (k + 1) (item_ends old))
  stops_after = subst (λ (n : ℕ). edit.old_stop ≤ last_end 0 (take n (item_ends old))) (sym (add-one k)) ends_after

  pub own_now : own_tokens text k ≡ take (((last_end 0 (take (k + 1) (item_ends old)) - edit.old_stop) + edit.new_stop) - first) (drop first (tokens_of text))
  own_now =
      is_own
      ∙ ap (λ (n : ℕ). take (n - first) (drop first (tokens_of text)))
      (end_moves ∙ ap (λ (n : ℕ). (last_end 0 (take n (item_ends old)) - edit.old_stop) + edit.new_stop) (sym (add-one k)))

  pub are_parts : item_tokens text ≡ map (shifted_tokens s) (take k (item_tokens old)) ++ (own_tokens text k ∷ map (shifted_tokens s) (drop (suc k) (item_tokens old)))
  unfolding item_tokens
  are_parts =
      all_members
      ∙ ap (λ (m : List Piece). map (shifted_tokens s) (take k (members (tokens_of old) 0 (item_ends old))) ++ (m ∷ map (shifted_tokens s) (drop (suc k) (members (tokens_of old) 0 (item_ends old))))) (sym is_own)

  -- ---- its tokens before the edit

  was_head : (n : ℕ) → n < edit.start - first → slice_get (own_tokens old k) n ≡ slice_get before (first + n)
  was_head n lt =
      ap (λ (l : List Piece). slice_get l n) was_own
      ∙ get_taken (was_end - first) n (drop first (tokens_of old)) (omega (arith, is.head, ends_after, is.tokens.of_spellings.old_order))
      ∙ get_dropped first n (tokens_of old)
      ∙ sym (get_taken edit.start (first + n) (tokens_of old) (omega (arith, is.head)))

  is_head : (n : ℕ) → n < edit.start - first → slice_get (own_tokens text k) n ≡ slice_get (take edit.start (tokens_of text)) (first + n)
  is_head n lt =
      ap (λ (l : List Piece). slice_get l n) is_own
      ∙ get_taken (is_end - first) n (drop first (tokens_of text)) (omega (arith, is.head, end_moves, is.tokens.of_spellings.new_order))
      ∙ get_dropped first n (tokens_of text)
      ∙ sym (get_taken edit.start (first + n) (tokens_of text) (omega (arith, is.head)))

  pub head_shifts : (n : ℕ) → n < edit.start - first → slice_get (own_tokens text k) n ≡ option_map (shifted_piece s) (slice_get (own_tokens old k) n)
  head_shifts n lt =
      is_head n lt ∙ ap (λ (l : List Piece). slice_get l (first + n)) units_before ∙ slice_get-map (shifted_piece s) before (first + n) ∙ ap (option_map (shifted_piece s)) (sym (was_head n lt))

  pub head_before : (n : ℕ) (p : Piece) → n < edit.start - first → slice_get (own_tokens old k) n ≡ Some p → slice_get before (first + n) ≡ Some p
  head_before n p lt there = sym (was_head n lt) ∙ there

  -- ---- what holds of each token before the edit and after it

  pub front_each : (P : Piece → Type 0) → All P before → AllByRecursion (AllByRecursion P) (take k (item_tokens old))
  unfolding item_tokens
  front_each P h =
      subst (AllByRecursion (AllByRecursion P))
      (members_in_front (tokens_of old) edit.start 0 (take k (item_ends old)) front_ends up ∙ sym (members_take (tokens_of old) 0 k (item_ends old)))
      (in_members P before h 0 (take k (item_ends old)))

  pub back_each : (P : Piece → Type 0) → All P after → AllByRecursion (AllByRecursion P) (drop (suc k) (item_tokens old))
  unfolding item_tokens
  back_each P h =
      subst (AllByRecursion (AllByRecursion P)) (sym (members_drop (tokens_of old) 0 (suc k) (item_ends old)))
      (in_last_members P (tokens_of old) edit.old_stop h was_end (drop (suc k) (item_ends old)) back_ends ends_after)

  -- ---- how they are spelled

  abbrev olds : List (List (Class × List ℕ))
  olds = spelled_items old

  were_spelled : olds ≡ map (spelled old) (take k (item_tokens old)) ++ (spelled old (own_tokens old k) ∷ map (spelled old) (drop (suc k) (item_tokens old)))
  were_spelled =
      sym (spelled_text old) ∙ ap (map (spelled old)) were_parts ∙ map-append (spelled old) (take k (item_tokens old)) (own_tokens old k ∷ drop (suc k) (item_tokens old))

  are_spelled : spelled_items text
      ≡ map (spelled text) (map (shifted_tokens s) (take k (item_tokens old))) ++ (spelled text (own_tokens text k) ∷ map (spelled text) (map (shifted_tokens s) (drop (suc k) (item_tokens old))))
  are_spelled =
      sym (spelled_text text) ∙ ap (map (spelled text)) are_parts
      ∙ map-append (spelled text) (map (shifted_tokens s) (take k (item_tokens old))) (own_tokens text k ∷ map (shifted_tokens s) (drop (suc k) (item_tokens old)))

  made_spelled : spelled_items text ≡ take k olds ++ (take (is_end - first) (drop first (spellings text)) ∷ drop (suc k) olds)
  made_spelled =
      is.items.items ∙ ap₂ (λ (l : List ℕ) (n : ℕ). take k olds ++ (members (spellings text) first l ++ drop n olds)) made_is kept_from

  olds_count : length olds ≡ length (item_ends old)
  olds_count = length_members (spellings old) 0 (item_ends old)

  pub fronts_count : length (take k (item_tokens old)) ≡ k
  fronts_count =
      length-take-le k (item_tokens old)
      (omega (arith, is.one_gone, olds_count, ap length (sym (spelled_text old)), length-map (item_tokens old) (spelled old)))

  front_olds : take k olds ≡ map (spelled old) (take k (item_tokens old))
  front_olds = ap (take k) (sym (spelled_text old)) ∙ take-map (spelled old) k (item_tokens old)

  back_olds : drop (suc k) olds ≡ map (spelled old) (drop (suc k) (item_tokens old))
  back_olds = ap (drop (suc k)) (sym (spelled_text old)) ∙ drop-map (spelled old) (suc k) (item_tokens old)

  abbrev front_news : List (List (Class × List ℕ))
  front_news = map (spelled text) (map (shifted_tokens s) (take k (item_tokens old)))

  parts_same : (front_news ≡ take k olds) × (spelled text (own_tokens text k) ≡ take (is_end - first) (drop first (spellings text)))
      × (map (spelled text) (map (shifted_tokens s) (drop (suc k) (item_tokens old))) ≡ drop (suc k) olds)
  parts_same =
      same_parts front_news (take k olds) (spelled text (own_tokens text k)) (take (is_end - first) (drop first (spellings text)))
      (map (spelled text) (map (shifted_tokens s) (drop (suc k) (item_tokens old)))) (drop (suc k) olds)
      (omega (
        arith,
        length-map (map (shifted_tokens s) (take k (item_tokens old))) (spelled text),
        length-map (take k (item_tokens old)) (shifted_tokens s),
        fronts_count,
        length-take-le k olds (omega (arith, olds_count, is.one_gone)),
      ))
      (sym are_spelled ∙ made_spelled)

  pub front_alike : AllByRecursion (λ m. spelled text (shifted_tokens s m) ≡ spelled old m) (take k (item_tokens old))
  front_alike =
      agreed (λ (m : List Piece). spelled text (shifted_tokens s m)) (spelled old) (take k (item_tokens old))
      (sym (map-map (spelled text) (shifted_tokens s) (take k (item_tokens old))) ∙ parts_same.0 ∙ front_olds)

  pub back_alike : AllByRecursion (λ m. spelled text (shifted_tokens s m) ≡ spelled old m) (drop (suc k) (item_tokens old))
  back_alike =
      agreed (λ (m : List Piece). spelled text (shifted_tokens s m)) (spelled old) (drop (suc k) (item_tokens old))
      (sym (map-map (spelled text) (shifted_tokens s) (drop (suc k) (item_tokens old))) ∙ parts_same.2 ∙ back_olds)

  pub spelled_parts : spelled_items text ≡ take k olds ++ (spelled text (own_tokens text k) ∷ drop (suc k) olds)
  spelled_parts = made_spelled ∙ ap (λ (m : List (Class × List ℕ)). take k olds ++ (m ∷ drop (suc k) olds)) (sym parts_same.1)

  pub front_olds_count : length (take k olds) ≡ k
  front_olds_count = length-take-le k olds (omega (arith, olds_count, is.one_gone))

  -- ---- what was kept of the item, and what is made of it

  pub entry_was : (x : Entry) → slice_get (entries_of old) k ≡ Some x → x ≡ entry_by (spelled old (own_tokens old k))
  entry_was x there =
      same_Some x (entry_by (spelled old (own_tokens old k)))
      (sym there ∙ slice_get-map entry_by olds k
      ∙ ap (λ (l : List (List (Class × List ℕ))). option_map entry_by (slice_get l k)) were_spelled
      ∙ ap (option_map entry_by)
      (element_at (map (spelled old) (take k (item_tokens old))) (spelled old (own_tokens old k)) (map (spelled old) (drop (suc k) (item_tokens old))) k
      (length-map (take k (item_tokens old)) (spelled old) ∙ fronts_count)))

  pub entry_is : (e : Entry) → AreEntriesMade old text k (e ∷ []) back → e ≡ entry_by (spelled text (own_tokens text k))
  entry_is e made_so =
      let count : length (take k (entries_of old)) ≡ k = length-take-le k (entries_of old) (omega (arith, entries_count old, is.one_gone)) in
      same_Some e (entry_by (spelled text (own_tokens text k)))
      (sym (element_at (take k (entries_of old)) e (drop (length (entries_of old) - back) (entries_of old)) k count)
      ∙ ap (λ (l : List Entry). slice_get l k) (sym made_so)
      ∙ slice_get-map entry_by (spelled_items text) k
      ∙ ap (λ (l : List (List (Class × List ℕ))). option_map entry_by (slice_get l k)) spelled_parts
      ∙ ap (option_map entry_by) (element_at (take k olds) (spelled text (own_tokens text k)) (drop (suc k) olds) k front_olds_count))
