use Rattle.std.proofs.Common.{◌≡◌, ℕ, ◌+◌, ◌-◌, List, drop, get_or, false, ◌&&◌, eqb, length-drop, sym, ap, ◌∙◌, arith}
use Rattle.snl_lex.specs.Runs.{close_of}
use Rattle.snl_lex.proofs.Turns.{shifted, shift_more, close_on, close_end, first_differs, second_differs}
use Rattle.snl_lex.proofs.scan.close_count.Goals as goal
use Rattle.snl_lex.proofs.scan.close_count.Goals.{else-bytes-end-via-then-bytes-end+else-bytes-end-2, else-bytes-end-via-else-bytes-end}

pub loop-end-preserved : goal.loop-end-preserved
loop-end-preserved c =
    let bytes : List ℕ = c.args.bytes.now in
    let end : ℕ = c.loop-end.end in
    let a : ℕ = c.args.a in
    let b : ℕ = c.args.b in
    let open_ : (eqb (get_or bytes end 0) a && eqb (get_or bytes (end + 1) 0) b) ≡ false =
    elim c.else-bytes-end.branch [
      | else-bytes-end-via-then-bytes-end+else-bytes-end-2 w ↦ second_differs (get_or bytes end 0) a (get_or bytes (end + 1) 0) b w.if-bytes-end-2.false
      | else-bytes-end-via-else-bytes-end w ↦ first_differs (get_or bytes end 0) a (get_or bytes (end + 1) 0) b w.if-bytes-end.false
    ]
    in
    let rest = close_of a b (drop (end + 1) bytes) in
    let count : (end - c.args.from) + 1 ≡ (end + 1) - c.args.from = omega arith in
    record {
      counted = c.loop-end.invariant.counted ∙ (ap (shifted (end - c.args.from)) (close_on a b bytes end c.loop-end-test.true open_) ∙ (shift_more (end - c.args.from) rest ∙ ap (λ (n : ℕ). shifted n rest) count));
      inside = omega arith;
      after = omega arith;
    }

pub returns-clause-count : goal.returns-clause-count
returns-clause-count c =
    let bytes : List ℕ = c.args.bytes.now in
    let end : ℕ = c.loop-end.end in
    sym (c.loop-end.invariant.counted ∙ ap (shifted (end - c.args.from)) (close_end c.args.a c.args.b bytes end (omega (arith, length-drop end bytes))))
