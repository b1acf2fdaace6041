use Rattle.std.proofs.Common.{◌≡◌, All, arith, subst, sym}
use Rattle.std.proofs.lemmas.Grind.{common_steps}
use Rattle.snl_walk.specs.Tokens.{token_bytes}
use Rattle.snl_item_check.specs.ItemFaults.{StandsIn, faults_in}
use Rattle.snl_item_check.specs.View.{is_in_set, known_of, leads_to}
use Rattle.snl_item_check.proofs.Within.{faults_within}
use Rattle.snl_item_check.proofs.check.checked_by.Goals as goal

pub returns-clause-within : goal.returns-clause-within
returns-clause-within c =
    let source = c.args.source.now in
    let view = c.args.view.now in
    let bytes = token_bytes source.text.now source.tokens.now in
    let in_set = is_in_set view.links.now.outlines view.item in
    let fact = known_of view.links.now.outlines view.item in
    let target = leads_to view.links.now.outlines view.item in
    let same : c.from_vec-faults.result ≡ faults_in bytes c.args.tree.now in_set fact target = grind (arith, common_steps) in
    subst (All (StandsIn bytes)) (sym same) (faults_within bytes c.args.tree.now in_set fact target)
