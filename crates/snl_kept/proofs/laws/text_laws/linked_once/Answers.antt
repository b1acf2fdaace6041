use Rattle.std.proofs.lemmas.List.Elements.{All-from_recursion}
use Rattle.snl_summary.specs.RisingTokens.{TokensRise}
use Rattle.snl_kept.specs.Linked.{linked_of}
use Rattle.snl_kept.specs.Program.{item_tokens, items_of}
use Rattle.snl_kept.proofs.Rising.{all_rise}
use Rattle.snl_kept.proofs.laws.text_laws.linked_once.Goals as goal

pub returns : goal.returns
returns c = λ text.
    let l = linked_of text (items_of text) in
    let known = c.tokens_declared_once.ensures in
    c.each_fault_once.ensures l (All-from_recursion TokensRise l.outlines (all_rise text (known.tree text) (known.faulty text) (item_tokens text)))
