use Rattle.std.proofs.Common.{ℕ, ◌<◌, ◌≤◌, arith, get_or, inl, inr, length}
use Rattle.std.proofs.lemmas.Bool.{cases_lt}
use Rattle.snl_names.specs.declared.keys.Key.{Key}
use Rattle.snl_names.proofs.Places.{other_prints, prints_rise}
use Rattle.snl_names.proofs.keys.number_among.Goals as goal

pub first_of_print-first-requires : goal.first_of_print-first-requires
first_of_print-first-requires c = prints_rise c.args.names.now c.args.keys.now c.requires.keys

pub returns-then-first-keys : goal.returns-then-first-keys
returns-then-first-keys c =
    other_prints c.args.names.now c.args.keys.now c.args.name.now (record { print = 0; number = 0 }) c.requires.keys
    (λ k lt same. omega (arith, c.first_of_print-first.ensures.before k (record { print = 0; number = 0 }) (omega arith) (omega arith), same, c.requires.print))

pub returns-then-key-print : goal.returns-then-key-print
returns-then-key-print c =
    let none : Key = record { print = 0; number = 0 } in
    let first : ℕ = c.first_of_print-first.result in
    let there : first < length c.args.keys.now = omega (arith, c.first_of_print-first.ensures.within, c.if-first-keys.false) in
    let least : c.args.print ≤ (get_or c.args.keys.now first none).print = c.first_of_print-first.ensures.rest first none (omega arith) there in
    let greater : c.args.print < (get_or c.args.keys.now first none).print = omega (arith, least, c.if-key-print.true) in
    other_prints c.args.names.now c.args.keys.now c.args.name.now none c.requires.keys
    (λ k lt same.
    elim (cases_lt k first) [
      | inl low ↦ omega (arith, c.first_of_print-first.ensures.before k none (omega arith) low, same, c.requires.print)
      | inr high ↦ omega (arith, prints_rise c.args.names.now c.args.keys.now c.requires.keys first k none high lt, greater, same, c.requires.print)
    ])
