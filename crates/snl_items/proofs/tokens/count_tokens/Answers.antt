use Rattle.std.proofs.Common.{arith, ◌≡◌, ℕ, ◌+◌, ◌-◌, ◌≤◌, List, ◌++◌, cond, length, take, drop, count_by, sym, ap, ◌∙◌}
use Rattle.std.proofs.lemmas.List.{drop-take, length-take, length-drop, take-append-drop, take-take}
use Rattle.std.proofs.lemmas.List.Sums.{count_by-le-length, sum_by-append}
use Rattle.snl_lex.specs.declared.piece.Class.{Class}
use Rattle.snl_lex.specs.PieceList.{is_token_class}
use Rattle.snl_items.proofs.tokens.count_tokens.Goals as goal

-- a part of a list and the part after it
take_on : (a b : ℕ) (kinds : List Class) → a ≤ b → take b kinds ≡ take a kinds ++ take (b - a) (drop a kinds)
take_on a b kinds le =
    let whole : b ≡ a + (b - a) = omega (arith, le) in
    sym (take-append-drop a (take b kinds))
    ∙ (ap (λ (l : List Class). l ++ drop a (take b kinds)) (take-take a b kinds le)
    ∙ ap (λ (l : List Class). take a kinds ++ l) (ap (λ (n : ℕ). drop a (take n kinds)) whole ∙ drop-take a (b - a) kinds))

counted_on : (a b : ℕ) (kinds : List Class) → a ≤ b → count_by is_token_class (take b kinds) ≡ count_by is_token_class (take a kinds) + count_by is_token_class (take (b - a) (drop a kinds))
counted_on a b kinds le = ap (count_by is_token_class) (take_on a b kinds le) ∙ sum_by-append (λ k. cond (is_token_class k) 1 0) (take a kinds) (take (b - a) (drop a kinds))

-- src/tokens.rt:63:5
pub loop-start-preserved : goal.loop-start-preserved
loop-start-preserved c =
    let kinds = c.args.kinds.now in
    let start = c.loop-start.start in
    let stop = c.min-stop.result in
    let before : start ≤ stop = omega (arith, c.loop-start-test.true, c.min-stop.ensures) in
    let inside : stop ≤ length kinds = omega (arith, c.loop-start-test.true, c.min-stop.ensures) in
    let part = take (stop - start) (drop start kinds) in
    let few : count_by is_token_class part ≤ stop - start = omega (arith, count_by-le-length is_token_class part, length-take (stop - start) (drop start kinds), length-drop start kinds) in
    let counted : c.loop-start.count + c.count_few.result ≡ count_by is_token_class (take stop kinds) = omega (arith, c.loop-start.invariant.counted, c.count_few.ensures, counted_on start stop kinds before) in
    record {
      counted = counted;
      few = omega (arith, c.loop-start.invariant.few, c.count_few.ensures, few, before);
      inside = inside;
    }
