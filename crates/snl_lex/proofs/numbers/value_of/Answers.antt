use Rattle.std.proofs.Common.{◌≡◌, ℕ, ◌+◌, ◌*◌, List, drop, get_or, sym, ap, ◌∙◌, arith}
use Rattle.std.proofs.lemmas.List.{drop_all}
use Rattle.snl_lex.specs.Numbers.{checked_value, digit_value, radix, value_after}
use Rattle.snl_lex.proofs.Values.{after_more, value_grows, too_large}
use Rattle.snl_lex.proofs.numbers.value_of.Goals as goal
use Rattle.snl_lex.specs.PieceLaws.{small_enough}

pub returns-in_err-checked_mul : goal.returns-in_err-checked_mul
returns-in_err-checked_mul c =
    let base = c.args.base in
    let digits : List ℕ = c.args.digits.now in
    let i : ℕ = c.loop-digit.digit-index in
    let v : ℕ = c.loop-digit.value in
    let digit : ℕ = digit_value (get_or digits i 0) in
    let product : v * c.radix.result ≡ v * radix base = ap (λ (r : ℕ). v * r) c.radix.ensures in
    let large = c.in_err-checked_mul.ensures in
    let step = after_more base v digits i c.loop-digit-test.true in
    let grows = value_grows base (v * radix base + digit) (drop (i + 1) digits) in
    c.from_residual.ensures ∙ sym (too_large (value_after base 0 digits) (omega (arith, c.loop-digit.invariant.counted, step, grows, product, large)))

pub returns-in_err-value : goal.returns-in_err-value
returns-in_err-value c =
    let base = c.args.base in
    let digits : List ℕ = c.args.digits.now in
    let i : ℕ = c.loop-digit.digit-index in
    let v : ℕ = c.loop-digit.value in
    let digit : ℕ = digit_value (get_or digits i 0) in
    let product : v * c.radix.result ≡ v * radix base = ap (λ (r : ℕ). v * r) c.radix.ensures in
    let large = c.in_err-value.ensures in
    let known = c.in_ok-checked_mul.ensures in
    let step = after_more base v digits i c.loop-digit-test.true in
    let grows = value_grows base (v * radix base + digit) (drop (i + 1) digits) in
    c.from_residual-in_err-value.ensures
    ∙ sym (too_large (value_after base 0 digits) (omega (arith, c.loop-digit.invariant.counted, step, grows, product, large, known.1, c.digit_value.ensures.value)))

pub returns : goal.returns
returns c =
    let base = c.args.base in
    let digits : List ℕ = c.args.digits.now in
    let v : ℕ = c.loop-digit.value in
    let whole : value_after base 0 digits ≡ v = c.loop-digit.invariant.counted ∙ ap (value_after base v) (drop_all c.loop-digit.digit-index digits c.loop-digit-test.false) in
    sym (ap checked_value whole ∙ small_enough v c.loop-digit.invariant.fits)
