use Rattle.std.proofs.Common.{◌≡◌, ℕ, ◌+◌, ◌*◌, ◌^◌, ◌≤◌, arith, rules, get_or, List}
use Rattle.std.proofs.lemmas.Grind.{pow_more}
use Rattle.std.proofs.lemmas.Int.Digits.{digits_value_more}
use Rattle.std.proofs.lemmas.List.{at_drop_more}
use Rattle.std.specs.Char.{is_ascii_digit}
use Rattle.std.specs.List.{list_all}
use Rattle.snl_reporter.proofs.heading.number_in.Goals as goal
use Rattle.snl_facts.specs.Digits.{power_of_ten, value_of_digit}

pub overflow_mul-value : goal.overflow_mul-value
overflow_mul-value c =
    let bound : 10 ^ c.loop-byte.byte-index ≤ 1000000000000000000 = power_of_ten c.loop-byte.byte-index (omega arith) in
    omega arith

pub overflow_add-value : goal.overflow_add-value
overflow_add-value c =
    let bound : 10 ^ c.loop-byte.byte-index ≤ 1000000000000000000 = power_of_ten c.loop-byte.byte-index (omega arith) in
    let d = value_of_digit (get_or c.args.word.now c.loop-byte.byte-index 0) (search rules) in
    omega arith

pub loop-byte-preserved : goal.loop-byte-preserved
loop-byte-preserved c =
    let more : 10 ^ (c.loop-byte.byte-index + 1) ≡ 10 ^ c.loop-byte.byte-index * 10 = pow_more 10 c.loop-byte.byte-index in
    let d = value_of_digit (get_or c.args.word.now c.loop-byte.byte-index 0) (search rules) in
    let v = digits_value_more 10 c.args.word.now c.loop-byte.byte-index c.loop-byte-test.true in
    let rest = at_drop_more (λ (l : List ℕ). list_all is_ascii_digit l) c.args.word.now c.loop-byte.byte-index 0 c.loop-byte-test.true in
    record {
      value_is = omega arith;
      small = omega arith;
      digits = search rules;
    }
