use Rattle.std.proofs.Common.{◌∙◌, ap, is_some, refl, sym}
use Rattle.std.specs.Map.{lookup}
use Rattle.snl_numbers.proofs.Lookups.{found_after, found_first}
use Rattle.snl_numbers.proofs.numbers_by_key.NumbersByKey.get.Goals as goal

pub returns-then-is_some : goal.returns-then-is_some
returns-then-is_some g c =
    let test = g.K.PartialEq.eq c.args.key.now in
    let found = c.copied-found.ensures ∙ c.get.ensures.value in
    found
    ∙ sym (found_first test c.self.inside.few.entries c.self.inside.more.entries (ap is_some (sym found) ∙ sym c.is_some.ensures ∙ c.if-is_some.true))
    ∙ ap (lookup test) c.self.view_is

pub returns : goal.returns
returns g c =
    let test = g.K.PartialEq.eq c.args.key.now in
    let found = c.copied-found.ensures ∙ c.get.ensures.value in
    c.number_among.ensures
    ∙ sym (found_after test test (λ k. refl) c.self.inside.few.entries c.self.inside.more.entries
    (ap is_some (sym found) ∙ sym c.is_some.ensures ∙ c.if-is_some.false))
    ∙ ap (lookup test) c.self.view_is
