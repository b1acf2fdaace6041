-- The items of a text that an edit puts into the empty one are those that the edit makes.
use Rattle.std.proofs.Common.{◌≡◌, ℕ, ◌-◌, List, [], ◌++◌, filter, length, take, drop, map, refl, sym, ap, ap₂, ◌∙◌}
use Rattle.std.proofs.Math.Seq.{drop-nil, take-nil}
use Rattle.std.proofs.lemmas.List.{append-nil}
use Rattle.snl_cut.specs.Cut.{ends_of, joined, moved}
use Rattle.snl_grammar.specs.Items.{item}
use Rattle.snl_lex.specs.declared.piece.Piece.{Piece}
use Rattle.snl_lex.specs.Edit.{Edit}
use Rattle.snl_lex.specs.Pieces.{is_token, pieces_of}
use Rattle.snl_items.specs.declared.item_list.ItemChange.{ItemChange}
use Rattle.snl_items.specs.declared.tokens.TokenChange.{TokenChange}
use Rattle.snl_items.specs.declared.tokens.TokenEdit.{TokenEdit}
use Rattle.snl_items.specs.Changes.{IsItemChange, IsTokenChange}
use Rattle.snl_items.specs.Items.{item_ends, mark_in, marks_of}

no_pieces : pieces_of [] ≡ []
unfolding pieces_of
no_pieces = refl

no_marks : marks_of [] ≡ []
no_marks = ap (λ (ps : List Piece). map (mark_in []) (filter is_token ps)) no_pieces

no_ends : item_ends [] ≡ []
no_ends = ap (ends_of item) no_marks

put_in_none : {X : Type 0} (old : List X) (i j : ℕ) (made : List X) → old ≡ [] → take i old ++ (made ++ drop j old) ≡ made
put_in_none old i j made none =
    ap (λ l. take i l ++ (made ++ drop j l)) none
    ∙ ap₂ (λ front back. front ++ (made ++ back)) (take-nil i) (drop-nil j)
    ∙ append-nil made

joined_to_none : (old : List ℕ) (a b f : ℕ) (made : List ℕ) (k : ℕ) → old ≡ [] → joined old a b f made k ≡ made
joined_to_none old a b f made k none =
    ap (λ l. joined l a b f made k) none
    ∙ ap₂ (λ front back. (front ++ made) ++ moved a b back) (take-nil f) (drop-nil (length {A = ℕ} [] - k))
    ∙ append-nil made

pub opened_marks : (e : Edit) (c : TokenChange) → e.old ≡ [] → IsTokenChange e c → c.marks.items ≡ marks_of e.text
opened_marks e c nothing change =
    sym (change.marks ∙ put_in_none (marks_of e.old) c.edit.start c.edit.old_stop c.marks.items (ap marks_of nothing ∙ no_marks))

pub opened_ends : (e : Edit) (t : TokenEdit) (c : ItemChange) → e.old ≡ [] → IsItemChange e t c → c.made.items ≡ item_ends e.text
opened_ends e t c nothing change =
    sym (change.ends ∙ joined_to_none (item_ends e.old) t.old_stop t.new_stop c.kept_front c.made.items c.kept_back (ap item_ends nothing ∙ no_ends))
