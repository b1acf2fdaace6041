use Rattle.std.proofs.Common.{◌≡◌, ℕ, ◌-◌, ◌++◌, take, drop, length, arith, ap, ◌∙◌, sym}
use Rattle.std.proofs.lemmas.List.{drop-drop, length-take-le}
use Rattle.snl_lists.proofs.Keys.{take_front, drop_front}
use Rattle.snl_lists.proofs.order.turn.Goals as goal

pub returns : goal.returns
returns c =
    let xs = c.args.keys.now.items in
    let start : ℕ = c.args.start in
    let stop : ℕ = c.args.stop in
    let count : ℕ = c.args.after - stop in
    let long : start ≡ length (take start xs) = sym (length-take-le start xs (omega arith)) in
    let before : take start (take start xs ++ drop stop xs) ≡ take start xs = take_front (take start xs) (drop stop xs) start long in
    let after : drop start (take start xs ++ drop stop xs) ≡ drop stop xs = drop_front (take start xs) (drop stop xs) start long in
    let there : drop count (drop stop xs) ≡ drop c.args.after xs = drop-drop count stop xs ∙ ap (λ n. drop n xs) (omega arith) in
    rw (c.put_after.ensures, c.remove.ensures.items, before, after, there)
