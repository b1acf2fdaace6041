use Rattle.snl_kept.specs.Diagnostics.{found}
use Rattle.snl_kept.specs.OnceFound.{DifferInPlace}
use Rattle.snl_kept.specs.Program.{items_of}
use Rattle.snl_kept.proofs.OnceAll.{all_once}
use Rattle.snl_kept.proofs.OnceItems.{CheckLaws}
use Rattle.snl_kept.proofs.OnceLinks.{LinkLaws}
use Rattle.snl_kept.proofs.OnceSorted.{diagnostics_rise}
use Rattle.snl_kept.proofs.OnceTokens.{items_apart}
use Rattle.snl_kept.proofs.laws.once_laws.found_once.Goals as goal
use Rattle.snl_facts.specs.Each.{pairs_from_two}

pub returns-clause-found : goal.returns-clause-found
unfolding found
returns-clause-found c = λ text.
    let apart = items_apart text (c.pieces_as_listed.ensures text) (c.text_in_pieces.ensures.inside text) (c.items_end_in_order.ensures text) in
    let checks : CheckLaws text = record {
      once = c.each_item_finding_once.ensures;
      own = c.faults_stand_at_tokens.ensures;
      inside = c.faults_stand_in_tokens.ensures;
      codes = c.faults_have_item_codes.ensures;
      left = c.outer_names_left_to_links.ensures;
    } in
    let links : LinkLaws = record { tree = c.outlines_speak_of_tokens.ensures.tree; faulty = c.outlines_speak_of_tokens.ensures.faulty; places = c.faults_have_places.ensures } in
    pairs_from_two DifferInPlace (found text) (all_once text (items_of text) checks links apart (c.linked_once.ensures text))

pub returns-clause-rising : goal.returns-clause-rising
unfolding found
returns-clause-rising c = λ text.
    let apart = items_apart text (c.pieces_as_listed.ensures text) (c.text_in_pieces.ensures.inside text) (c.items_end_in_order.ensures text) in
    let checks : CheckLaws text = record {
      once = c.each_item_finding_once.ensures;
      own = c.faults_stand_at_tokens.ensures;
      inside = c.faults_stand_in_tokens.ensures;
      codes = c.faults_have_item_codes.ensures;
      left = c.outer_names_left_to_links.ensures;
    } in
    let links : LinkLaws = record { tree = c.outlines_speak_of_tokens.ensures.tree; faulty = c.outlines_speak_of_tokens.ensures.faulty; places = c.faults_have_places.ensures } in
    diagnostics_rise text (all_once text (items_of text) checks links apart (c.linked_once.ensures text))
