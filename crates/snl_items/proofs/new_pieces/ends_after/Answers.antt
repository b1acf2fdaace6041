use Rattle.std.proofs.Common.{◌≡◌, ℕ, ◌-◌, ◌<◌, ◌≤◌, List, ◌++◌, length, take, drop, get_or, ap, ap₂, sym, subst, ◌∙◌, arith, length-drop}
use Rattle.std.proofs.lemmas.List.{take_all}
use Rattle.snl_cut.specs.Cut.{Rises, ends_of, moved}
use Rattle.snl_lex.specs.Edit.{edit_of}
use Rattle.snl_lex.specs.PieceList.{piece_ends}
use Rattle.snl_lex.specs.Pieces.{piece_length}
use Rattle.snl_items.proofs.NewPieces.{back_above, back_under, new_ends}
use Rattle.snl_items.proofs.new_pieces.ends_after.Goals as goal

whole : (xs : List ℕ) (from : ℕ) → take (length xs - from) (drop from xs) ≡ drop from xs
whole xs from = take_all (length xs - from) (drop from xs) (omega (arith, length-drop from xs))

pub with_moved-requires-clause-after : goal.with_moved-requires-clause-after
with_moved-requires-clause-after c =
    let old : List ℕ = c.args.edit.now.old.now in
    let change = c.args.change.now in
    let cut : piece_ends old ≡ ends_of piece_length old = c.one_cut.ensures.only old (piece_ends old) (c.text_in_pieces.ensures.cut old) in
    let rises = subst (Rises 0) (sym cut) (c.ends_in_order.ensures.rise old) in
    rw (whole c.args.ends.now (length c.args.ends.now - change.kept_back), c.requires.ends) (back_above (edit_of c.args.edit.now) change c.requires.change rises)

pub with_moved-requires-clause-fits : goal.with_moved-requires-clause-fits
with_moved-requires-clause-fits c =
    let e = c.args.edit.now in
    let old : List ℕ = e.old.now in
    let change = c.args.change.now in
    let cut : piece_ends old ≡ ends_of piece_length old = c.one_cut.ensures.only old (piece_ends old) (c.text_in_pieces.ensures.cut old) in
    let within = subst (λ (l : List ℕ). (j : ℕ) → j < length l → get_or l j 0 ≤ length old) (sym cut) (c.ends_in_order.ensures.within old) in
    rw (whole c.args.ends.now (length c.args.ends.now - change.kept_back), c.requires.ends) (back_under (edit_of e) change c.requires.change e.edit e.short.1 within)

pub returns : goal.returns
returns c =
    let e = c.args.edit.now in
    let ends : List ℕ = c.args.ends.now in
    let change = c.args.change.now in
    c.with_moved.ensures
    ∙ ap₂ (λ (x y : List ℕ). x ++ moved e.old_stop e.new_stop y) (c.in_ok-list.ensures.items ∙ ap (λ (l : List ℕ). take change.kept_front ends ++ l) c.deref.ensures.value) (whole ends (length ends - change.kept_back))
    ∙ ap (λ (l : List ℕ). (take change.kept_front l ++ change.list.ends.items) ++ moved e.old_stop e.new_stop (drop (length l - change.kept_back) l)) c.requires.ends
    ∙ new_ends (edit_of e) change c.requires.change (c.one_cut.ensures.only e.text.now) (c.text_in_pieces.ensures.cut e.text.now)
