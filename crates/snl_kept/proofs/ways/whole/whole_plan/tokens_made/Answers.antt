use Rattle.std.proofs.Common.{filter, length, ap, ◌∙◌, arith}
use Rattle.std.proofs.lemmas.List.{length-map}
use Rattle.snl_lex.specs.Edit.{made_pieces}
use Rattle.snl_lex.specs.Pieces.{is_token, piece_end, pieces_of}
use Rattle.snl_kept.proofs.ways.whole.whole_plan.tokens_made.Goals as goal

pub among-requires-clause-same : goal.among-requires-clause-same
among-requires-clause-same c =
    let change = c.args.editing.now.changes.now.pieces in
    let is = c.requires.editing.changes.pieces in
    omega (arith, change.list.ends.ok, change.list.kinds.ok, ap length is.ends, ap length is.kinds, length-map (made_pieces change) piece_end, length-map (made_pieces change) (λ p. p.kind))

pub among-requires-clause-few : goal.among-requires-clause-few
among-requires-clause-few c =
    let edit = c.args.editing.now.edit.now in
    let change = c.args.editing.now.changes.now.pieces in
    let is = c.requires.editing.changes.pieces in
    omega (
      arith,
      change.list.kinds.ok,
      ap length is.kinds,
      length-map (made_pieces change) (λ p. p.kind),
      ap length c.requires.all,
      length-map (pieces_of edit.text.now) (λ p. p.kind),
      c.few_pieces.ensures edit.text.now,
      edit.short,
    )

pub returns : goal.returns
returns c = c.give_back_room.ensures ∙ c.in_ok-tokens.ensures ∙ ap (filter is_token) c.requires.all
