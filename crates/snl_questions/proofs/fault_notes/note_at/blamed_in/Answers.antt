use Rattle.std.proofs.Common.{◌≡◌, List, slice_get, Some, None, option_map, ap, sym, ◌∙◌}
use Rattle.snl_lex.specs.declared.piece.Piece.{Piece}
use Rattle.snl_lex.specs.PieceList.{spelled}
use Rattle.snl_kept.specs.declared.entries.Entry.{Entry}
use Rattle.snl_kept.specs.Entries.{entry_by}
use Rattle.snl_questions.specs.FaultNotes.{blamed_by}
use Rattle.snl_questions.proofs.Meant.{entry_at, entry_is}
use Rattle.snl_questions.proofs.fault_notes.note_at.blamed_in.Goals as goal

pub returns-in_default : goal.returns-in_default
returns-in_default c =
    let text = c.args.items.now.text.now in
    let i = c.args.number in
    let got : slice_get c.args.lists.now.entries.values i ≡ None = sym c.in_default.ensures in
    let none : None ≡ Some (entry_by (spelled text c.args.tokens.now)) =
    sym got ∙ ap (λ (es : List Entry). slice_get es i) c.requires.listed.entries ∙ entry_at text i
    ∙ ap (option_map (λ (x : List Piece). entry_by (spelled text x))) c.requires.tokens in
    absurd cc

pub returns : goal.returns
returns c =
    let text = c.args.items.now.text.now in
    let own = c.args.tokens.now in
    let is = c.get-2.ensures ∙ entry_is text c.args.number own c.args.lists.now.entries.values
    c.in-Some.entry.now c.requires.listed.entries c.requires.tokens (sym c.in-Some.ensures) in
    c.blamed_by.ensures
    ∙ ap (λ (e : Entry). blamed_by e.parsed) is
    ∙ ap blamed_by (sym (c.same_spelling_same_tree.ensures.by_spelling text own))
