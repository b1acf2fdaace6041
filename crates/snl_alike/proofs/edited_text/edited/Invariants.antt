use Rattle.std.proofs.Common.{◌≡◌, ◌++◌, drop, length, vec_len}
use Rattle.snl_alike.specs.Edits.{Rise, edited_from, edits_of, new_stops, with_edits}
use Rattle.snl_alike.proofs.edited_text.edited.Given as goal

-- what is made so far, with what comes of the rest, is all
abbrev pub invariant-loop-replacement : goal.invariant-loop-replacement
invariant-loop-replacement l =
    let all = edits_of l.replacements in
    let rest = edits_of (drop l.replacement-index l.replacements) in
    record {
      rise : Rise l.base (length l.old) rest;
      text : l.text.items ++ edited_from l.old l.base rest ≡ with_edits l.old all;
      stops : l.stops.items ++ new_stops l.base (vec_len l.text) rest ≡ new_stops 0 0 all;
    }
