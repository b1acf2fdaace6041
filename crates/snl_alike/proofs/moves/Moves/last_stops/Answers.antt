use Rattle.std.proofs.Common.{◌≡◌, ℕ, suc, ◌-◌, ◌<◌, List, length, slice_index_or, ap, sym, ◌∙◌, arith}
use Rattle.snl_alike.specs.Edits.{edits_of, last_stops}
use Rattle.snl_alike.proofs.Stops.{last_at, length_stops}
use Rattle.snl_alike.proofs.moves.Moves.last_stops.Goals as goal

pub bounds-self-count-else-count-eq0 : goal.bounds-self-count-else-count-eq0
bounds-self-count-else-count-eq0 c =
    let m = c.args.self.now in
    let count : length m.stops.now ≡ length m.replacements.now =
    ap (λ (l : List ℕ). length l) m.stops_are ∙ length_stops 0 0 m.replacements.now in
    omega (arith, count, c.requires, c.if-count-eq0.false)

pub returns-else-count-eq0 : goal.returns-else-count-eq0
returns-else-count-eq0 c =
    let m = c.args.self.now in
    let inside : c.args.count - 1 < length m.replacements.now =
    omega (arith, c.requires, c.if-count-eq0.false) in
    let whole : suc (c.args.count - 1) ≡ c.args.count = omega (arith, c.if-count-eq0.false) in
    ap (λ (l : List ℕ). (
      (slice_index_or m.replacements.now (c.args.count - 1) _).stop,
      slice_index_or l (c.args.count - 1) 0,
    )) m.stops_are
    ∙ sym (last_at 0 0 m.replacements.now (c.args.count - 1) _ 0 inside)
    ∙ ap (last_stops 0 0 (edits_of m.replacements.now)) whole
