use Rattle.std.proofs.Common.{◌≡◌, ℕ, ◌-◌, List, length, drop, take, sym, ◌∙◌, arith, rules, length-drop}
use Rattle.std.proofs.lemmas.List.{take_all}
use Rattle.snl_tests.proofs.cuts.edit.Goals as goal

-- A slice up to a list's end is the list from there on.
rest_same : (xs ys : List ℕ) (a b : ℕ) → take (length xs - a) (drop a xs) ≡ take (length ys - b) (drop b ys) → drop a xs ≡ drop b ys
rest_same xs ys a b h =
    sym (take_all (length xs - a) (drop a xs) (omega (arith, length-drop a xs))) ∙ h ∙ take_all (length ys - b) (drop b ys) (omega (arith, length-drop b ys))

pub again_by-requires : goal.again_by-requires
again_by-requires c = record {
  old_order = omega arith;
  new_order = omega arith;
  old_inside = omega arith;
  new_inside = omega arith;
  before = c.alike-before.ensures (search rules);
  after = rest_same c.args.old.now c.args.new.now (length c.args.old.now - c.args.after) (length c.args.new.now - c.args.after) (c.alike-after.ensures (search rules));
}
