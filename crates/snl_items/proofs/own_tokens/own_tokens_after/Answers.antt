use Rattle.std.proofs.Common.{ℕ, ◌-◌, ◌^◌, ◌<◌, All, List, ◌++◌, map, take, drop, sym, ap, ◌∙◌, subst, arith}
use Rattle.std.proofs.lemmas.List.Elements.{All-drop, All-filter, All-take, All-weaker}
use Rattle.snl_lex.specs.declared.piece.Piece.{Piece}
use Rattle.snl_lex.specs.Pieces.{LiesIn, is_token, moved_piece, pieces_of, tokens_of}
use Rattle.snl_lex.specs.Edit.{edit_of}
use Rattle.snl_items.specs.Changes.{made_in}
use Rattle.snl_items.proofs.OwnParts.{own_edited}
use Rattle.snl_items.proofs.own_tokens.own_tokens_after.Goals as goal

pub add_moved-requires-clause-short : goal.add_moved-requires-clause-short
add_moved-requires-clause-short c =
    let edit = c.args.edit.now in
    let old = edit.old.now in
    let own = c.args.own.now in
    let lie : All (LiesIn old) (tokens_of old) = All-filter is_token (LiesIn old) (pieces_of old) (c.text_in_pieces.ensures.inside old) in
    let short : All (λ p. p.start < 2 ^ 32) (tokens_of old) = All-weaker (LiesIn old) (λ p. p.start < 2 ^ 32) (λ p h. omega (arith, h.1, edit.short.0)) (tokens_of old) lie in
    let first : ℕ = c.args.first in
    let n : ℕ = c.args.tokens.now.edit.old_stop - first in
    let of_own : All (λ p. p.start < 2 ^ 32) own =
    subst (All (λ p. p.start < 2 ^ 32)) (sym c.requires.own)
    (All-take (λ p. p.start < 2 ^ 32) (c.args.stop - first) (drop first (tokens_of old)) (All-drop (λ p. p.start < 2 ^ 32) first (tokens_of old) short)) in
    All-take (λ p. p.start < 2 ^ 32) ((c.args.stop - first) - n) (drop n own) (All-drop (λ p. p.start < 2 ^ 32) n own of_own)

pub returns : goal.returns
returns c =
    let edit = c.args.edit.now in
    let tokens = c.args.tokens.now in
    let own = c.args.own.now in
    let first : ℕ = c.args.first in
    let stop : ℕ = c.args.stop in
    let is = c.requires.tokens in
    let after : List Piece = map (moved_piece edit.old_stop edit.new_stop) (take ((stop - first) - (tokens.edit.old_stop - first)) (drop (tokens.edit.old_stop - first) own)) in
    c.in_ok-add_moved.ensures
    ∙ ap (λ (l : List Piece). l ++ after)
    (c.in_ok-extend_from_slice-2.ensures.items
    ∙ ap (λ (l : List Piece). l ++ c.deref.result.now) (c.in_ok-extend_from_slice.ensures.items ∙ ap (λ (l : List Piece). l ++ take (tokens.edit.start - first) own) c.new-now.ensures.items)
    ∙ ap (λ (l : List Piece). take (tokens.edit.start - first) own ++ l) (c.deref.ensures.value ∙ c.in_ok-made.ensures ∙ c.made_are_tokens.ensures (edit_of edit) c.args.change.now c.requires.change tokens is))
    ∙ own_edited (tokens_of edit.old.now) (tokens_of edit.text.now) (made_in (edit_of edit) tokens.edit) own (moved_piece edit.old_stop edit.new_stop) tokens.edit.start tokens.edit.old_stop tokens.edit.new_stop first stop
    c.requires.first is.of_marks.old_order c.requires.stop c.requires.inside is.count is.tokens c.requires.own
