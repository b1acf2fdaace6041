use Rattle.std.proofs.Common.{length, subst}
use Rattle.std.proofs.lemmas.List.{length-map}
use Rattle.snl_lex.specs.Pieces.{tokens_of}
use Rattle.snl_grammar.specs.Items.{item}
use Rattle.snl_grammar.specs.ItemLaws.{item_front}
use Rattle.snl_items.specs.Items.{item_ends, mark_in, marks_of}
use Rattle.snl_kept.specs.Parts.{EndsWithin}
use Rattle.snl_kept.proofs.Ends.{ends_within}
use Rattle.snl_kept.proofs.found.program.items_end_in_order.Goals as goal

pub returns : goal.returns
returns c = λ text.
    subst (EndsWithin 0 (item_ends text)) (length-map (tokens_of text) (mark_in text))
    (ends_within item item_front (marks_of text) 0 (item_ends text) (length (marks_of text)) (c.one_cut.ensures.is_cut (marks_of text)))
