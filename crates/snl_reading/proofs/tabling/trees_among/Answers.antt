use Rattle.std.proofs.Common.{arith, ◌≡◌, length, map, take, ap, sym, ◌∙◌}
use Rattle.std.proofs.Math.Seq.{take-length}
use Rattle.std.proofs.lemmas.Simd.{map-map}
use Rattle.snl_reading.specs.ItemsRead.{item_read, tree_read}
use Rattle.snl_reading.proofs.tabling.trees_among.Goals as goal

pub returns : goal.returns
returns c =
    let items = c.args.items.now in
    let all : c.loop-item.item-index ≡ length items = omega (arith, c.loop-item-test.false, c.loop-item.auto.item-index-end) in
    c.loop-item.invariant ∙ ap (map tree_read) (ap (λ n. take n items) all ∙ take-length items) ∙ sym (map-map (λ x. x.tree) item_read items)
