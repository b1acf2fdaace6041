use Rattle.std.proofs.Common.{ℕ, ◌<◌, List, length, slice_get, Some, sym, ap, ◌∙◌, arith}
use Rattle.std.proofs.lemmas.List.{get_or_read}
use Rattle.snl_lex.specs.declared.piece.Piece.{Piece}
use Rattle.snl_items.specs.Places.{piece_with}
use Rattle.snl_items.proofs.Places.{piece_read, pieces_counted}
use Rattle.snl_items.proofs.numbered_tokens.NumberedTokens.at.Goals as goal

pub index-requires : goal.index-requires
index-requires c =
    let l = c.self.inside in
    omega (arith, c.requires, ap length c.self.view_is, pieces_counted l.begin l.ends.now l.kinds.now l.places.items, l.places.ok)

pub piece_at-requires-clause-ends : goal.piece_at-requires-clause-ends
piece_at-requires-clause-ends c =
    let l = c.self.inside in
    let inside : c.args.number < length l.places.items = omega (arith, c.requires, ap length c.self.view_is, pieces_counted l.begin l.ends.now l.kinds.now l.places.items) in
    omega (arith, c.index.ensures, c.self.invariant.0, c.self.invariant.1 c.args.number c.index.result.now inside)

pub piece_at-requires-clause-kinds : goal.piece_at-requires-clause-kinds
piece_at-requires-clause-kinds c =
    let l = c.self.inside in
    let inside : c.args.number < length l.places.items = omega (arith, c.requires, ap length c.self.view_is, pieces_counted l.begin l.ends.now l.kinds.now l.places.items) in
    omega (arith, c.index.ensures, c.self.invariant.1 c.args.number c.index.result.now inside)

pub returns : goal.returns
returns c =
    let l = c.self.inside in
    let n : ℕ = c.args.number in
    let place : ℕ = c.index.result.now in
    let inside : n < length l.places.items = omega (arith, c.requires, ap length c.self.view_is, pieces_counted l.begin l.ends.now l.kinds.now l.places.items) in
    ap (λ (ts : List Piece). slice_get ts n) (sym c.self.view_is)
    ∙ piece_read l.begin l.ends.now l.kinds.now l.places.items n inside
    ∙ ap (λ (p : ℕ). Some (piece_with l.begin l.ends.now l.kinds.now p)) (sym (get_or_read l.places.items n place inside c.index.ensures 0))
    ∙ ap Some (sym c.piece_at.ensures)
