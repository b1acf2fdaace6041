use Rattle.std.proofs.Common.{sym, subst}
use Rattle.snl_items.specs.declared.item_list.ItemChange.{ItemChange}
use Rattle.snl_items.specs.declared.tokens.TokenChange.{TokenChange}
use Rattle.snl_items.specs.Changes.{IsItemChange, IsTokenChange}
use Rattle.snl_lex.specs.declared.piece_list.PieceChange.{PieceChange}
use Rattle.snl_lex.specs.declared.line_list.LineList.{LineList}
use Rattle.snl_lex.specs.Edit.{IsChange}
use Rattle.snl_lex.specs.LineList.{IsLineList}
use Rattle.snl_kept.proofs.lists.Lists.take_places.Goals as goal

pub returns-clause-places : goal.returns-clause-places
returns-clause-places c = λ e nothing changes lines.
    let pieces = subst (λ (p : PieceChange). IsChange e p) (sym c.parts-pieces.ensures.pieces) changes.pieces in
    let tokens = subst (λ (t : TokenChange). IsTokenChange e t) (sym c.parts-pieces.ensures.tokens) changes.tokens in
    let items = subst (λ (i : ItemChange). IsItemChange e c.args.changes.tokens.edit i) (sym c.parts-pieces.ensures.items) changes.items in
    record {
      ends = c.into_list.ensures.ends e nothing pieces;
      kinds = c.into_list.ensures.kinds e nothing pieces;
      markers = c.into_list.ensures.markers e nothing pieces;
      lines = subst (λ (l : LineList). IsLineList e.text l) (sym c.renew_lines.ensures) lines;
      marks = c.of_made.ensures.marks e nothing tokens;
      items = c.of_made.ensures.ends e c.args.changes.tokens.edit nothing items;
    }
