use Rattle.std.proofs.Common.{arith, ◌≡◌, ℕ, ◌+◌, ◌-◌, length, take, drop}
use Rattle.std.proofs.lemmas.List.{length-take-le, take_all, length-drop}
use Rattle.snl_lists.proofs.Parts.{insert_after, remove_after}
use Rattle.snl_lists.proofs.in_place.replace.Goals as goal

pub returns-then-shared-made : goal.returns-then-shared-made
returns-then-shared-made g c =
    let made = c.args.made.now in
    let start : ℕ = c.args.start in
    let stop : ℕ = c.args.stop in
    let shared : c.min-shared.result ≡ stop - start = omega (arith, c.min-shared.ensures) in
    let short : start + length (take c.min-shared.result made) ≡ stop = omega (arith, length-take-le c.min-shared.result made (omega arith)) in
    let rest : take (length made - c.min-shared.result) (drop c.min-shared.result made) ≡ drop c.min-shared.result made =
    take_all (length made - c.min-shared.result) (drop c.min-shared.result made) (omega (arith, length-drop c.min-shared.result made)) in
    let o = rw short at c.overwrite.ensures.items in
    rw (c.insert.ensures.items, o, rest, shared) (insert_after c.args.list.now.items made start stop (omega arith) (omega arith) (omega arith))

pub returns-else-shared-made : goal.returns-else-shared-made
returns-else-shared-made g c =
    let made = c.args.made.now in
    let start : ℕ = c.args.start in
    let stop : ℕ = c.args.stop in
    let shared : c.min-shared.result ≡ length made = omega (arith, c.min-shared.ensures) in
    let whole : take c.min-shared.result made ≡ made = take_all c.min-shared.result made (omega arith) in
    let o = rw whole at c.overwrite.ensures.items in
    rw (c.remove.ensures.items, o, shared) (remove_after c.args.list.now.items made start stop (omega arith) (omega arith) (omega arith))
