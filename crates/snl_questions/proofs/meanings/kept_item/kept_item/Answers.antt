use Rattle.std.proofs.Common.{◌≡◌, List, slice_get, Some, None, option_map, refl, ap, sym, ◌∙◌}
use Rattle.snl_lex.specs.declared.piece.Piece.{Piece}
use Rattle.snl_lex.specs.PieceList.{spelled}
use Rattle.snl_scope.specs.LinkedItems.{LinkedItems}
use Rattle.snl_kept.specs.declared.entries.Entry.{Entry}
use Rattle.snl_kept.specs.Entries.{entry_by}
use Rattle.snl_kept.specs.Program.{item_tokens}
use Rattle.snl_questions.proofs.Meant.{entry_at, entry_is, items_lie, outline_is, tree_is}
use Rattle.snl_questions.proofs.meanings.kept_item.kept_item.Goals as goal

pub returns-in_default-get : goal.returns-in_default-get
returns-in_default-get c =
    let text = c.args.items.now.text.now in
    let i = c.args.number in
    let own = c.in-Some.tokens.now in
    let got : slice_get c.args.lists.now.entries.values i ≡ None = sym c.in_default-get.ensures in
    let none : None ≡ Some (entry_by (spelled text own)) =
    sym got ∙ ap (λ (es : List Entry). slice_get es i) c.requires.entries ∙ entry_at text i
    ∙ ap (option_map (λ (x : List Piece). entry_by (spelled text x))) (sym c.in-Some.ensures) in
    absurd cc

pub returns : goal.returns
returns c =
    let text = c.args.items.now.text.now in
    let i = c.args.number in
    let own = c.in-Some.tokens.now in
    let at : slice_get (item_tokens text) i ≡ Some own = sym c.in-Some.ensures in
    let is = c.get-entry.ensures ∙ entry_is text i own c.args.lists.now.entries.values
    c.in-Some-get.entry.now c.requires.entries at (sym c.in-Some-get.ensures) in
    let parsed = c.same_spelling_same_tree.ensures.by_spelling text own in
    let law = c.outcome_told.ensures.tree text own in
    let summary = c.same_spelling_same_summary.ensures.summary_by_spelling text own in
    let lie = items_lie text i own (c.text_in_pieces.ensures.inside text) at in
    record {
      in_text = refl;
      tokens = at;
      inside = λ k d below. (lie k d below).1;
      item = refl;
      outlines = ap (λ (l : LinkedItems). l.outlines) c.requires.links;
      tree = c.tree-tree.ensures
          ∙ tree_is text own c.get-entry.result.now is parsed law summary;
      outline = outline_is text own c.get-entry.result.now is parsed law summary;
    }
