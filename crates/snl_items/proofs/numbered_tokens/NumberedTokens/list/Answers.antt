use Rattle.std.proofs.Common.{ℕ, ◌-◌, ◌<◌, List, length, take, drop, sym, subst, ap, ◌∙◌, arith}
use Rattle.snl_lex.specs.declared.piece.Piece.{Piece}
use Rattle.snl_items.specs.OwnTokens.{tokens_between}
use Rattle.snl_items.specs.Places.{AreAmong, pieces_at}
use Rattle.std.proofs.lemmas.List.Elements.{All-drop, All-take}
use Rattle.snl_items.proofs.Places.{pieces_among, pieces_counted}
use Rattle.snl_items.proofs.numbered_tokens.NumberedTokens.list.Goals as goal

pub part-places-requires-clause-inside : goal.part-places-requires-clause-inside
part-places-requires-clause-inside c =
    let l = c.self.inside in
    omega (arith, c.requires.inside, ap length c.self.view_is, pieces_counted l.begin l.ends.now l.kinds.now l.places.items, ap length c.deref.ensures.value)

pub with_pieces-requires-clause-kinds : goal.with_pieces-requires-clause-kinds
with_pieces-requires-clause-kinds c =
    let l = c.self.inside in
    let start : ℕ = c.args.start in
    let n : ℕ = c.args.stop - start in
    let few = λ (k : ℕ). k < length l.kinds.now in
    subst (AreAmong (length l.kinds.now)) (sym (c.part-places.ensures ∙ ap (λ (ps : List ℕ). take n (drop start ps)) c.deref.ensures.value))
    (All-take few n (drop start l.places.items) (All-drop few start l.places.items c.self.invariant.1))

pub with_pieces-requires-clause-ends : goal.with_pieces-requires-clause-ends
with_pieces-requires-clause-ends c =
    let l = c.self.inside in
    subst (λ (n : ℕ). AreAmong n c.part-places.result.now) (sym c.self.invariant.0) (with_pieces-requires-clause-kinds c)

pub returns : goal.returns
returns c =
    let l = c.self.inside in
    let start : ℕ = c.args.start in
    let stop : ℕ = c.args.stop in
    c.with_pieces.ensures
    ∙ ap (pieces_at l.begin l.ends.now l.kinds.now) (c.part-places.ensures ∙ ap (λ (ps : List ℕ). take (stop - start) (drop start ps)) c.deref.ensures.value)
    ∙ pieces_among l.begin l.ends.now l.kinds.now l.places.items start stop
    ∙ ap (λ (ts : List Piece). tokens_between ts start stop) c.self.view_is
