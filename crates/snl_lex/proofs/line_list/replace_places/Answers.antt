use Rattle.std.proofs.Common.{ℕ, List, ◌∙◌, append_assoc, arith, drop, take}
use Rattle.snl_lists.specs.Moves.{moved}
use Rattle.snl_lex.proofs.MarkerLists.{split_there}
use Rattle.snl_lex.proofs.line_list.replace_places.Goals as goal

pub returns : goal.returns
returns c =
    let xs : List ℕ = c.args.places.now.items in
    let made : List ℕ = c.args.made.now in
    let parts = split_there xs made c.args.start c.args.stop (omega (arith, c.args.places.now.ok)) in
    let shifted = rw (c.replace.ensures, parts.0, parts.1) at c.move_places_from.ensures in
    shifted ∙ append_assoc (take c.args.start xs) made (moved c.args.old_stop c.args.new_stop (drop c.args.stop xs))
