use Rattle.std.proofs.Common.{◌≡◌, ◌+◌, ◌<◌, ◌++◌, [], List, None, Some, add-one, ap, arith, get_or, length, slice_get, subst, sym, ◌∙◌}
use Rattle.std.specs.Option.{option_map_or}
use Rattle.snl_scope.specs.Names.{Entry, entries_before, entries_of}
use Rattle.snl_scope.specs.Places.{enclosing_set}
use Rattle.snl_scope.specs.NameTables.{Follows}
use Rattle.snl_scope.specs.OutlineList.{outline_of}
use Rattle.snl_scope.proofs.Searches.{get-or}
use Rattle.snl_scope.proofs.names.name_tables.tables_of.Goals as goal

pub loop-item-init : goal.loop-item-init
loop-item-init c = record {
  follows = c.in_ok-tables.ensures c.args.outlines.now.names;
  at = c.first-at.ensures.at c.args.outlines.now.outlines;
  here = c.first-at.ensures.item;
  within = omega arith;
}

pub loop-item-preserved : goal.loop-item-preserved
loop-item-preserved c =
    let ss = c.args.outlines.now.outlines in
    let names = c.args.outlines.now.names in
    let i = c.loop-item.item in
    let t = c.told.result in
    let s = outline_of names t in
    let below : i < length ss = omega (arith, c.loop-item-test.true, c.count-item-end.ensures) in
    let at : slice_get ss i ≡ Some s = ap (slice_get ss) (sym c.loop-item.invariant.here) ∙ c.told.ensures.outline in
    let here : get_or c.args.places.now i None ≡ enclosing_set ss i = get-or c.args.places.now i None (enclosing_set ss i) (c.requires.each i below) in
    let new = c.add_item.new.self in
    let Q : List Entry → Type 0 = λ l. Follows names new.first new.symbols.items new.faults.items l in
    record {
      follows = subst Q (ap (λ o. entries_before ss i ++ option_map_or (entries_of ss i) o []) (sym at) ∙ ap (entries_before ss) (sym (add-one i)))
          (c.in_ok-add_item.ensures names ss (entries_before ss i) c.differ.ensures c.told.ensures.numbered here c.loop-item.invariant.follows);
      at = c.next-at.ensures.at;
      here = c.next-at.ensures.item ∙ ap (λ n. n + 1) c.loop-item.invariant.here;
      within = omega (arith, below);
    }

pub returns : goal.returns
returns c =
    let ss = c.args.outlines.now.outlines in
    let t = c.loop-item.tables in
    let Q : List Entry → Type 0 = λ l. Follows c.args.outlines.now.names t.first t.symbols.items t.faults.items l in
    let all : c.loop-item.item ≡ length ss = omega (arith, c.count-item-end.ensures, c.loop-item.invariant.within, c.loop-item-test.false) in
    subst Q (ap (entries_before ss) all) c.loop-item.invariant.follows
