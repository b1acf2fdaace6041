use Rattle.std.proofs.Common.{◌∙◌, ◌++◌, ap, is_some, subst, sym}
use Rattle.std.specs.Map.{lookup}
use Rattle.snl_numbers.proofs.Lookups.{Puts, put_after}
use Rattle.snl_numbers.proofs.numbers_by_key.NumbersByKey.add_first.Goals as goal

pub returns-clause-put : goal.returns-clause-put
returns-clause-put g c = λ _.
    let eq = g.K.PartialEq.eq in
    let key = c.args.key in
    let few = c.self.inside.few.entries in
    let after = c.insert.new.self.entries in
    let absent = ap (λ es. is_some (lookup (eq key) es)) c.self.view_is ∙ ap is_some (sym c.get.ensures) ∙ sym c.is_some.ensures ∙ c.if-is_some.false in
    subst (λ es. Puts eq es (few ++ after) key c.args.number) c.self.view_is
    (put_after eq g.met.K.Eq.laws g.K.Ord.cmp g.met.K.Ord.matches_eq few c.self.inside.more.entries after key c.args.number absent c.in_ok-insert.ensures.updates.0)
