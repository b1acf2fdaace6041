use Rattle.std.proofs.Common.{◌≡◌, ◌≢◌, ℕ, ◌∙◌, [], arith, get_or, sym}
use Rattle.std.proofs.lemmas.Option.{get_or_from_slice_get}
use Rattle.snl_names.specs.declared.keys.Key.{Key}
use Rattle.snl_names.proofs.Places.{not_there, other_bytes, spelled_at}
use Rattle.snl_names.proofs.keys.number_of_shared_print.Goals as goal

pub returns-then-at-keys : goal.returns-then-at-keys
returns-then-at-keys c =
    not_there c.args.names.now c.args.keys.now c.args.name.now c.args.print c.args.from c.place-at.result c.requires.keys c.requires.print c.requires.before c.place-at.ensures.before c.place-at.ensures.rest
    (λ h same. omega arith)

pub returns-else-eq : goal.returns-else-eq
returns-else-eq c =
    let none : Key = record { print = 0; number = 0 } in
    let number : ℕ = (get_or c.args.keys.now c.place-at.result none).number in
    let got : get_or c.args.names.now number [] ≡ c.get.result.now = get_or_from_slice_get c.args.names.now number c.get.result.now [] c.get.ensures in
    let other : c.get.result.now ≢ c.args.name.now = other_bytes c.get.result.now c.args.name.now (sym c.eq.ensures ∙ c.if-eq.false) in
    not_there c.args.names.now c.args.keys.now c.args.name.now c.args.print c.args.from c.place-at.result c.requires.keys c.requires.print c.requires.before c.place-at.ensures.before c.place-at.ensures.rest
    (λ h same. other (sym got ∙ sym (spelled_at c.args.names.now c.args.keys.now c.place-at.result [] none h) ∙ same))
