use Rattle.std.proofs.Common.{◌∙◌, ap, sym}
use Rattle.indexmap.specs.IndexMap.{insert_entry}
use Rattle.snl_numbers.proofs.Lookups.{put_back}
use Rattle.snl_numbers.proofs.numbers_by_key.add_to_few.Goals as goal

pub returns-in_ok-insert-in-Some-clause-stays : goal.returns-in_ok-insert-in-Some-clause-stays
returns-in_ok-insert-in-Some-clause-stays g c = λ _.
    c.in_ok-insert-in-Some.ensures.entries
    ∙ ap (λ es. insert_entry g.K.PartialEq.eq es c.args.key c.in-Some.earlier) c.in_ok-insert.ensures.entries
    ∙ put_back g.K.PartialEq.eq c.args.key c.args.number c.in-Some.earlier c.args.few.now.entries (sym c.in_ok-insert.ensures.old ∙ c.in-Some.is)
