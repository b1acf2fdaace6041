-- What an edit of a text makes of its items.
use Rattle.std.proofs.Common.{◌≡◌, ℕ, suc, ◌+◌, ◌-◌, ◌≤◌, Bool, true, false, List, [], ◌++◌, length, map, take, drop, if◌then◌else◌, inl, inr, sym, ap, ap₂, ◌∙◌, subst, arith, length-drop}
use Rattle.std.proofs.lemmas.List.{append-nil, drop_all, length-take-le, take_all}
use Rattle.snl_cut.specs.Cut.{IsRecut, ends_of, fresh_ends, joined, last_end, members, moved}
use Rattle.snl_lex.specs.declared.piece.Class.{Class}
use Rattle.snl_lex.specs.Edit.{Edit}
use Rattle.snl_lex.specs.Pieces.{tokens_of}
use Rattle.snl_grammar.specs.declared.marks.Mark.{Mark}
use Rattle.snl_grammar.specs.Items.{item}
use Rattle.snl_items.specs.declared.item_list.ItemChange.{ItemChange}
use Rattle.snl_items.specs.declared.tokens.TokenChange.{TokenChange}
use Rattle.snl_items.specs.declared.tokens.TokenEdit.{TokenEdit}
use Rattle.snl_items.specs.Items.{item_ends, marks_of, spelled_items, spellings}
use Rattle.snl_items.specs.Fresh.{fresh_items_of, replaced_alike, token_edit_of}
use Rattle.snl_items.specs.Changes.{IsItemChange, IsTokenChange}
use Rattle.snl_items.proofs.Alike.{alike_Decides}
use Rattle.snl_items.proofs.Parts.{in_parts}
use Rattle.snl_items.proofs.TokenParts.{mark_by, marks_by}
use Rattle.snl_cut.specs.CutLaws.{below_more, length_members}

-- Which items are fresh, by whether the replaced tokens are spelled as before.
fresh_by : (e : Edit) (tokens : TokenEdit) (t : Bool) → tokens ≡ token_edit_of e → t ≡ replaced_alike e tokens
    → (if t then [] else fresh_ends item (marks_of e.old) (marks_of e.text) tokens.start tokens.old_stop tokens.new_stop) ≡ fresh_items_of e
unfolding fresh_items_of
fresh_by e tokens t is_edit is_same =
    ap (λ (u : Bool). let l : List ℕ = if u then [] else fresh_ends item (marks_of e.old) (marks_of e.text) tokens.start tokens.old_stop tokens.new_stop in l) is_same
    ∙ ap (λ (d : TokenEdit). let l : List ℕ = if replaced_alike e d then [] else fresh_ends item (marks_of e.old) (marks_of e.text) d.start d.old_stop d.new_stop in l) is_edit

-- A recut of the same lists.
pub recut_of : (olds news : List Mark) (ends : List ℕ) (a b c front : ℕ) (made : List ℕ) (back : ℕ) (olds2 news2 : List Mark) (ends2 : List ℕ) → olds ≡ olds2 → news ≡ news2 → ends ≡ ends2
    → IsRecut item olds ends news a b c front made back → IsRecut item olds2 ends2 news2 a b c front made back
recut_of olds news ends a b c front made back olds2 news2 ends2 h i j is =
    subst (λ (l : List Mark). IsRecut item l ends2 news2 a b c front made back) h
    (subst (λ (l : List Mark). IsRecut item olds ends2 l a b c front made back) i
    (subst (λ (l : List ℕ). IsRecut item olds l news a b c front made back) j is))

module _ (e : Edit) (tokens : TokenChange) (is : IsTokenChange e tokens) where
  -- Where the tokens are spelled as before, the items are the e.old ones.
  module _ (alike : tokens.same ≡ true) where
    middle : take (tokens.edit.old_stop - tokens.edit.start) (drop tokens.edit.start (spellings e.old)) ≡ take (tokens.edit.new_stop - tokens.edit.start) (drop tokens.edit.start (spellings e.text))
    middle =
        (alike_Decides (take (tokens.edit.old_stop - tokens.edit.start) (drop tokens.edit.start (spellings e.old))) (take (tokens.edit.new_stop - tokens.edit.start) (drop tokens.edit.start (spellings e.text)))).0 (sym is.same_is ∙ alike)

    -- as many as before
    as_many : tokens.edit.old_stop ≡ tokens.edit.new_stop
    as_many =
        omega (
          arith,
          is.of_spellings.old_order,
          is.of_spellings.new_order,
          is.of_spellings.old_inside,
          is.of_spellings.new_inside,
          ap length middle,
          length-take-le (tokens.edit.old_stop - tokens.edit.start) (drop tokens.edit.start (spellings e.old)) (omega (arith, is.of_spellings.old_inside, length-drop tokens.edit.start (spellings e.old))),
          length-take-le (tokens.edit.new_stop - tokens.edit.start) (drop tokens.edit.start (spellings e.text)) (omega (arith, is.of_spellings.new_inside, length-drop tokens.edit.start (spellings e.text))),
        )

    pub same_spellings : spellings e.text ≡ spellings e.old
    same_spellings =
        in_parts (spellings e.text) tokens.edit.start tokens.edit.new_stop is.of_spellings.new_order
        ∙ ap₂ (λ (x y : List (Class × List ℕ)). x ++ y) (sym is.of_spellings.before) (ap₂ (λ (x y : List (Class × List ℕ)). x ++ y) (sym middle) (sym is.of_spellings.after))
        ∙ sym (in_parts (spellings e.old) tokens.edit.start tokens.edit.old_stop is.of_spellings.old_order)

    -- so no item is fresh
    pub none_fresh : fresh_items_of e ≡ []
    none_fresh =
        sym (ap (λ (u : Bool). let l : List ℕ = if u then [] else fresh_ends item (marks_of e.old) (marks_of e.text) tokens.edit.start tokens.edit.old_stop tokens.edit.new_stop in l) (sym alike) ∙ fresh_by e tokens.edit tokens.same is.edit_is is.same_is)

    same_marks : marks_of e.text ≡ marks_of e.old
    same_marks = marks_by e.text (tokens_of e.text) ∙ ap (map mark_by) same_spellings ∙ sym (marks_by e.old (tokens_of e.old))

    pub same_ends : item_ends e.text ≡ item_ends e.old
    same_ends = ap (ends_of item) same_marks

    none_moved : (ends : List ℕ) (n : ℕ) → length ends ≤ n → moved tokens.edit.old_stop tokens.edit.new_stop (drop (n - 0) ends) ≡ []
    none_moved ends n le = ap (moved tokens.edit.old_stop tokens.edit.new_stop) (drop_all (n - 0) ends (omega arith))

    pub same_change : (items : ItemChange) → items.kept_front ≡ length (item_ends e.old) → items.made.items ≡ [] → items.kept_back ≡ 0 → last_end 0 (item_ends e.old) ≡ length (marks_of e.old) → IsItemChange e tokens.edit items
    same_change items many none_made none_back last =
        let ends : List ℕ = item_ends e.old in
        let olds : List (List (Class × List ℕ)) = spelled_items e.old in
        let long : length olds ≡ length ends = length_members (spellings e.old) 0 ends in
        let n : ℕ = items.kept_front in
        let whole : take (length ends - items.kept_back) ends ≡ ends = take_all (length ends - items.kept_back) ends (omega (arith, none_back)) in
        let as_ends : List ℕ → ℕ → List ℕ = λ (made : List ℕ) (back : ℕ). joined ends tokens.edit.old_stop tokens.edit.new_stop n made back in
        let as_items : List ℕ → ℕ → List (List (Class × List ℕ)) = λ (made : List ℕ) (back : ℕ). take n olds ++ (members (spellings e.text) (last_end 0 (take n ends)) made ++ drop (length ends - back) olds) in
        record {
          order = omega (arith, many, none_back);
          before = inr (many, none_made);
          fresh = none_made ∙ sym none_fresh;
          ends = same_ends ∙ sym (ap₂ (λ (x y : List ℕ). (x ++ []) ++ y) (take_all n ends (omega (arith, many))) (none_moved ends (length ends) (omega arith)) ∙ append-nil (ends ++ []) ∙ append-nil ends)
              ∙ sym (ap₂ as_ends none_made none_back);
          items = ap₂ (λ (s : List (Class × List ℕ)) (es : List ℕ). members s 0 es) same_spellings same_ends
              ∙ sym (ap₂ (λ (x y : List (List (Class × List ℕ))). x ++ y) (take_all n olds (omega (arith, many, long))) (drop_all (length ends - 0) olds (omega (arith, long))) ∙ append-nil olds)
              ∙ sym (ap₂ as_items none_made none_back);
          after = omega (arith, ap (last_end 0) whole, last, is.of_marks.old_inside);
          led =
              let first : last_end 0 (take n ends ++ items.made.items) ≡ last_end 0 ends = ap (λ (made : List ℕ). last_end 0 (take n ends ++ made)) none_made ∙ ap (last_end 0) (append-nil (take n ends) ∙ take_all n ends (omega (arith, many))) in
              omega (arith, first, ap (last_end 0) whole, last, is.of_marks.old_inside, as_many);
        }

  -- Else they are cut again.
  module _ (other : tokens.same ≡ false) where
    pub cut_again : (items : ItemChange)
        → (recut : IsRecut item (marks_of e.old) (item_ends e.old) (marks_of e.text) tokens.edit.start tokens.edit.old_stop tokens.edit.new_stop items.kept_front items.made.items items.kept_back)
        → items.made.items ≡ fresh_ends item (marks_of e.old) (marks_of e.text) tokens.edit.start tokens.edit.old_stop tokens.edit.new_stop
        → joined (item_ends e.old) tokens.edit.old_stop tokens.edit.new_stop items.kept_front items.made.items items.kept_back ≡ item_ends e.text
        → spelled_items e.text ≡ take items.kept_front (spelled_items e.old) ++ (members (spellings e.text) (last_end 0 (take items.kept_front (item_ends e.old))) items.made.items ++ drop (length (item_ends e.old) - items.kept_back) (spelled_items e.old))
        → IsItemChange e tokens.edit items
    cut_again items recut made_is joined_is items_are =
        let place : ℕ = (recut.meet - tokens.edit.new_stop) + tokens.edit.old_stop in
        record {
          order = omega (arith, recut.kept, recut.kept_back, below_more tokens.edit.start (suc place) (item_ends e.old) (omega (arith, is.of_marks.old_order)));
          before = inl recut.kept;
          fresh = made_is
              ∙ ap (λ (u : Bool). let l : List ℕ = if u then [] else fresh_ends item (marks_of e.old) (marks_of e.text) tokens.edit.start tokens.edit.old_stop tokens.edit.new_stop in l) (sym other)
              ∙ fresh_by e tokens.edit tokens.same is.edit_is is.same_is;
          ends = sym joined_is;
          items = items_are;
          after = omega (arith, recut.from);
          led = omega (arith, recut.led, recut.from, recut.meets.after);
        }
