use Rattle.std.proofs.Common.{◌≡◌, ℕ, ◌+◌, ◌-◌, ◌/◌, ◌<◌, ◌∙◌, [], List, true, false, ap, arith, get_or, length, sym}
use Rattle.snl_names.specs.Keys.{comes_before, spelled}
use Rattle.snl_names.proofs.Places.{before_to, length_spelled, rest_from, spelled_at}
use Rattle.snl_names.proofs.keys.place.Goals as goal

pub loop-low-init : goal.loop-low-init
loop-low-init c = record {
  from = omega arith;
  within = c.requires.range;
  all = c.requires.within;
  before = λ k d low high. absurd (omega (arith, low, high));
  rest = c.requires.rest;
}

pub is_before-requires-clause-key : goal.is_before-requires-clause-key
is_before-requires-clause-key c =
    c.requires.keys.each (c.loop-low.low + (c.loop-low.high - c.loop-low.low) / 2) (record { print = 0; number = 0 }) (omega (arith, c.loop-low.invariant.all, c.loop-low-test.true))

pub loop-low-preserved-then-is_before : goal.loop-low-preserved-then-is_before
loop-low-preserved-then-is_before c =
    let middle : ℕ = c.loop-low.low + (c.loop-low.high - c.loop-low.low) / 2 in
    let all : List (List ℕ) = spelled c.args.names.now c.args.keys.now in
    let there : middle < length c.args.keys.now = omega (arith, c.loop-low.invariant.all, c.loop-low-test.true) in
    let here : comes_before (get_or all middle []) c.args.name.now ≡ true =
    ap (λ (n : List ℕ). comes_before n c.args.name.now) (spelled_at c.args.names.now c.args.keys.now middle [] (record { print = 0; number = 0 }) there) ∙ sym c.is_before.ensures ∙ c.if-is_before.true in
    record {
      from = omega (arith, c.loop-low.invariant.from);
      within = omega (arith, c.loop-low-test.true);
      all = c.loop-low.invariant.all;
      before = before_to all c.args.name.now c.args.from middle c.requires.keys.order (omega (arith, there, length_spelled c.args.names.now c.args.keys.now)) here;
      rest = c.loop-low.invariant.rest;
    }

pub loop-low-preserved : goal.loop-low-preserved
loop-low-preserved c =
    let middle : ℕ = c.loop-low.low + (c.loop-low.high - c.loop-low.low) / 2 in
    let all : List (List ℕ) = spelled c.args.names.now c.args.keys.now in
    let there : middle < length c.args.keys.now = omega (arith, c.loop-low.invariant.all, c.loop-low-test.true) in
    let here : comes_before (get_or all middle []) c.args.name.now ≡ false =
    ap (λ (n : List ℕ). comes_before n c.args.name.now) (spelled_at c.args.names.now c.args.keys.now middle [] (record { print = 0; number = 0 }) there) ∙ sym c.is_before.ensures ∙ c.if-is_before.false in
    record {
      from = c.loop-low.invariant.from;
      within = omega arith;
      all = omega (arith, there);
      before = c.loop-low.invariant.before;
      rest = rest_from all c.args.name.now middle (length c.args.keys.now) c.requires.keys.order (omega (arith, length_spelled c.args.names.now c.args.keys.now)) here;
    }

pub returns-clause-rest : goal.returns-clause-rest
returns-clause-rest c = λ k d low high. c.loop-low.invariant.rest k d (omega (arith, c.loop-low-test.false, low)) high
