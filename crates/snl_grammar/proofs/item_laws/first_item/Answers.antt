use Rattle.std.proofs.Common.{ℕ, sym, subst}
use Rattle.snl_grammar.specs.Items.{ends_after}
use Rattle.snl_grammar.specs.ItemLaws.{IsLeast, item_found, item_front}
use Rattle.snl_grammar.proofs.item_laws.first_item.Goals as goal

pub returns-clause-within : goal.returns-clause-within
returns-clause-within c = λ tokens some. (item_front tokens some).1

pub returns-clause-least : goal.returns-clause-least
returns-clause-least c = λ tokens some.
    let found = item_found tokens some in
    subst (λ (n : ℕ). IsLeast (ends_after tokens) 1 n) (sym found.2) found.3
