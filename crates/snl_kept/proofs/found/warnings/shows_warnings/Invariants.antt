use Rattle.std.proofs.Common.{◌≡◌, drop, map}
use Rattle.std.specs.List.{enumerate_from, filter_map}
use Rattle.snl_kept.specs.Parts.{item_of_part}
use Rattle.snl_kept.specs.Warnings.{last_or, setting_of_item, shows_warnings}
use Rattle.snl_kept.proofs.found.warnings.shows_warnings.Given as goal

-- what is shown by the settings so far, and by those of the rest
abbrev pub invariant-loop-item : goal.invariant-loop-item
invariant-loop-item l =
    let xs = map (item_of_part l.tokens) l.parts in
    last_or l.shown (filter_map (setting_of_item l.text l.links.outlines) (enumerate_from l.item (drop l.item xs))) ≡ shows_warnings l.text xs
