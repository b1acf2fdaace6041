use Rattle.std.proofs.Common.{◌≡◌, ◌==◌, ℕ, ◌+◌, Bool, true, List, [], ◌∷◌, ◌&&◌, ◌||◌, drop, get_or, sym, ap, ◌∙◌, arith}
use Rattle.snl_lex.specs.Alphabet.{is_plain, is_word_byte}
use Rattle.snl_lex.specs.Numbers.{awaits_sign, is_power, is_sign, number_joins}
use Rattle.snl_lex.specs.Runs.{run_by}
use Rattle.snl_lex.proofs.Turns.{by_on, by_stop, take_one, and_true}
use Rattle.snl_lex.proofs.numbers.number_end.Goals as goal

pub loop-end-init : goal.loop-end-init
unfolding awaits_sign
loop-end-init c =
    let bytes : List ℕ = c.args.bytes.now in
    record {
      before = get_or bytes 0 0 ∷ [];
      counted = ap (λ (l : List ℕ). 1 + run_by number_joins l (drop 1 bytes)) (take_one bytes c.requires);
      inside = omega arith;
      plain = c.is_plain-plain.ensures ∙ and_true (is_plain (get_or bytes 0 0));
      awaits = c.is_power-awaits_sign.ensures ∙ and_true (is_power (get_or bytes 0 0));
    }

pub loop-end-preserved : goal.loop-end-preserved
unfolding number_joins awaits_sign
loop-end-preserved c =
    let bytes : List ℕ = c.args.bytes.now in
    let end : ℕ = c.loop-end.end in
    let before : List ℕ = c.loop-end.invariant.before in
    let b : ℕ = get_or bytes end 0 in
    let joined : number_joins before b ≡ true =
    ap (λ (w : Bool). is_word_byte b || b == 46 || (is_sign b && w)) (sym c.loop-end.invariant.awaits) ∙ sym c.if-joins.ensures in
    let step = by_on number_joins before bytes end c.loop-end-test.true joined in
    record {
      before = b ∷ before;
      counted = omega (arith, c.loop-end.invariant.counted, step);
      inside = omega arith;
      plain = cc (c.is_plain-plain-in-loop-end.ensures, c.loop-end.invariant.plain);
      awaits = cc (c.is_power.ensures, c.loop-end.invariant.plain);
    }

pub returns-else-joins-clause-end : goal.returns-else-joins-clause-end
unfolding number_joins
returns-else-joins-clause-end c =
    let bytes : List ℕ = c.args.bytes.now in
    let end : ℕ = c.loop-end.end in
    let before : List ℕ = c.loop-end.invariant.before in
    let b : ℕ = get_or bytes end 0 in
    let stopped = ap (λ (w : Bool). is_word_byte b || b == 46 || (is_sign b && w)) (sym c.loop-end.invariant.awaits) ∙ sym c.if-joins.ensures in
    omega (arith, c.loop-end.invariant.counted, by_stop number_joins before bytes end c.loop-end-test.true stopped)
