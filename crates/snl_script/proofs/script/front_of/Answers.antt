use Rattle.std.proofs.Common.{ℕ, ◌+◌, ◌-◌, ◌≤◌, List, length, drop, sym, arith, rules, length-drop, subst}
use Rattle.std.proofs.lemmas.List.{take_all}
use Rattle.snl_script.specs.Front.{IsFrontAfter}
use Rattle.snl_script.proofs.ScriptLemmas.{IsFront-after, next_of-long}
use Rattle.snl_script.proofs.script.front_of.Goals as goal

pub returns-in-Some : goal.returns-in-Some
returns-in-Some c =
    let bytes : List ℕ = c.args.bytes.now in
    let end : ℕ = c.in-Some.end in
    let whole : length (drop (end + 1) bytes) ≤ length bytes - (end + 1) = omega (arith, length-drop (end + 1) bytes) in
    let after : IsFrontAfter c.heading_in.result (end + 1) (drop (end + 1) bytes) c.front_after.result =
    subst (λ (l : List ℕ). IsFrontAfter c.heading_in.result (end + 1) l c.front_after.result) (take_all (length bytes - (end + 1)) (drop (end + 1) bytes) whole) c.front_after.ensures in
    IsFront-after c.min.result bytes end c.heading_in.result c.front_after.result (omega arith) (sym c.in-Some.ensures) c.heading_in.ensures after

pub returns-in-None : goal.returns-in-None
returns-in-None c = λ more. next_of-long c.min.result c.args.bytes.now more (search rules) (sym c.in-None.ensures) (omega arith)
