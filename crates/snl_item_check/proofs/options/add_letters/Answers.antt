use Rattle.std.proofs.Common.{ℕ, List, ◌++◌, ◌∙◌, ap, refl}
use Rattle.std.specs.List.{enumerate_from, flat_map}
use Rattle.snl_facts.specs.Lists.{at_end}
use Rattle.snl_item_check.specs.Options.{found_at_letter}
use Rattle.snl_item_check.proofs.options.add_letters.Goals as goal

pub returns : goal.returns
returns c =
    let found = flat_map (found_at_letter c.args.known.now c.args.line.letters) in
    at_end (λ (ls : List ℕ). found (enumerate_from c.loop-byte.byte ls)) refl c.bytes-letters.result.now c.loop-byte.byte c.loop-byte.faults.items _ c.loop-byte-test.false c.loop-byte.invariant
    ∙ ap (λ ls. c.args.faults.now.items ++ found (enumerate_from 0 ls)) c.bytes-letters.ensures
