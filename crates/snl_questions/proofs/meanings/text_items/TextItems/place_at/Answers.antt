use Rattle.std.proofs.Common.{◌≡◌, List, [], drop, slice_get, length, option_copied, Some, None, arith, ap, sym, ◌∙◌}
use Rattle.std.proofs.lemmas.List.{drop_all}
use Rattle.snl_cut.specs.CutLaws.{length_members}
use Rattle.snl_lex.specs.declared.piece.Piece.{Piece}
use Rattle.snl_kept.specs.Program.{item_tokens}
use Rattle.snl_questions.specs.Meanings.{place_from}
use Rattle.snl_questions.proofs.Places.{found_here, found_later, found_nowhere, none_left}
use Rattle.snl_questions.proofs.meanings.text_items.TextItems.place_at.Goals as goal

pub returns-in_err-tokens : goal.returns-in_err-tokens
returns-in_err-tokens c =
    let xs = item_tokens c.args.self.now.text.now in
    let i = c.loop-item.item in
    let none : slice_get xs i ≡ None = sym c.tokens_of.ensures
    ∙ ap (option_copied {T = List Piece}) c.in_err-tokens.was in
    let nowhere : place_from c.args.offset 0 xs ≡ None =
    sym c.loop-item.invariant ∙ found_nowhere c.args.offset i xs (none_left xs i none) in
    c.from_residual.ensures ∙ sym nowhere

pub returns-in-Some : goal.returns-in-Some
returns-in-Some c =
    let xs = item_tokens c.args.self.now.text.now in
    let i = c.loop-item.item in
    let tokens = c.in_ok-tokens.tokens.now in
    let at : slice_get xs i ≡ Some tokens = sym c.tokens_of.ensures
    ∙ ap (option_copied {T = List Piece}) c.in_ok-tokens.was in
    sym (found_here c.args.offset i c.in-Some.token xs tokens at (sym c.in-Some.ensures))
    ∙ c.loop-item.invariant

pub loop-item-preserved : goal.loop-item-preserved
loop-item-preserved c =
    let xs = item_tokens c.args.self.now.text.now in
    let i = c.loop-item.item in
    let tokens = c.in_ok-tokens.tokens.now in
    let at : slice_get xs i ≡ Some tokens = sym c.tokens_of.ensures
    ∙ ap (option_copied {T = List Piece}) c.in_ok-tokens.was in
    sym (found_later c.args.offset i xs tokens at (sym c.in_default.ensures))
    ∙ c.loop-item.invariant

pub returns : goal.returns
returns c =
    let cut = c.args.self.now in
    let xs = item_tokens cut.text.now in
    let i = c.loop-item.item in
    let count : length xs ≡ length cut.items.ends.now =
    ap (λ (l : List (List Piece)). length l) (sym cut.items_are)
    ∙ length_members cut.items.tokens.now 0 cut.items.ends.now in
    let none : drop i xs ≡ [] = drop_all i xs (omega (arith, count)) in
    sym (found_nowhere c.args.offset i xs none) ∙ c.loop-item.invariant
