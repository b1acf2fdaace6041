use Rattle.std.proofs.Common.{◌≡◌, ℕ, ◌-◌, List, ◌++◌, length, take, drop, ap, ap₂, ◌∙◌, arith, length-drop}
use Rattle.std.proofs.lemmas.List.{take_all}
use Rattle.snl_lex.specs.Edit.{edit_of}
use Rattle.snl_lex.specs.declared.piece.Class.{Class}
use Rattle.snl_items.proofs.NewPieces.{new_kinds}
use Rattle.snl_items.proofs.new_pieces.kinds_after.Goals as goal

pub returns : goal.returns
returns c =
    let kinds : List Class = c.args.kinds.now in
    let change = c.args.change.now in
    let from : ℕ = length kinds - change.kept_back in
    let rest : take (length kinds - from) (drop from kinds) ≡ drop from kinds = take_all (length kinds - from) (drop from kinds) (omega (arith, length-drop from kinds)) in
    c.in_ok-extend_from_slice.ensures.items
    ∙ ap₂ (λ (x y : List Class). x ++ y) (c.in_ok-list.ensures.items ∙ ap (λ (l : List Class). take change.kept_front kinds ++ l) c.deref.ensures.value) rest
    ∙ ap (λ (l : List Class). (take change.kept_front l ++ change.list.kinds.items) ++ drop (length l - change.kept_back) l) c.requires.kinds
    ∙ new_kinds (edit_of c.args.edit.now) change c.requires.change
