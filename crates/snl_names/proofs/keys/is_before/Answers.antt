use Rattle.std.proofs.Common.{◌≡◌, ℕ, ◌∙◌, ap, get_or, nat_eq, nat_lt, sym, List, [], false}
use Rattle.std.proofs.lemmas.Bool.{ne_eqb}
use Rattle.std.proofs.lemmas.Option.{get_or_from_slice_get}
use Rattle.std.specs.Cmp.Lexicographic.{slice_cmp}
use Rattle.std.specs.Ordering.{is_lt, nat_cmp}
use Rattle.snl_names.proofs.Order.{by_bytes, by_prints}
use Rattle.snl_names.specs.Prints.{print_of}
use Rattle.snl_names.proofs.keys.is_before.Goals as goal

pub returns-then-key-print : goal.returns-then-key-print
returns-then-key-print c =
    let held : List ℕ = get_or c.args.names.now c.args.key.number [] in
    let got : held ≡ c.get.result.now = get_or_from_slice_get c.args.names.now c.args.key.number c.get.result.now [] c.get.ensures in
    let same : print_of held ≡ print_of c.args.name.now = sym c.requires.key.print ∙ c.if-key-print.true ∙ c.requires.print in
    c.is_lt.ensures
    ∙ ap is_lt c.cmp.ensures
    ∙ ap (λ (n : List ℕ). is_lt (slice_cmp nat_cmp n c.args.name.now)) (sym got)
    ∙ sym (by_bytes held c.args.name.now same)

pub returns-else-key-print : goal.returns-else-key-print
returns-else-key-print c =
    let held : List ℕ = get_or c.args.names.now c.args.key.number [] in
    let other : nat_eq (print_of held) (print_of c.args.name.now) ≡ false =
    ne_eqb (print_of held) (print_of c.args.name.now) (λ same. c.if-key-print.false (c.requires.key.print ∙ same ∙ sym c.requires.print)) in
    sym (by_prints held c.args.name.now other ∙ ap (λ (p : ℕ). nat_lt p (print_of c.args.name.now)) (sym c.requires.key.print) ∙ ap (nat_lt c.args.key.print) (sym c.requires.print))
