use Rattle.std.proofs.Common.{◌≡◌, ◌==◌, get_or, drop, true, false, sym, ap, ◌∙◌, arith, take_all, length-drop}
use Rattle.fast_float.specs.Text.{scan}
use Rattle.serde_json.specs.Read.{number_from, number_of}
use Rattle.snl_hear.proofs.NumberTexts.{with_minus, with_no_minus}
use Rattle.snl_hear.proofs.numbers.parts_of.Goals as goal

pub returns-then-has_minus : goal.returns-then-has_minus
returns-then-has_minus c =
    let s = c.as_bytes-bytes.result.now in
    let signed : (get_or s 0 0 == 45) ≡ true = sym c.if-has_minus.ensures in
    let parts : c.scan.result ≡ scan (drop 1 s) = c.scan.ensures.parts ∙ ap scan (take_all _ (drop 1 s) (omega (arith, length-drop 1 s))) in
    ap number_of (sym c.as_bytes-bytes.ensures.value) ∙ with_minus s signed ∙ ap (number_from true) (sym parts)

pub returns-else-has_minus : goal.returns-else-has_minus
returns-else-has_minus c =
    let s = c.as_bytes-bytes.result.now in
    let unsigned : (get_or s 0 0 == 45) ≡ false = sym c.if-has_minus.ensures in
    ap number_of (sym c.as_bytes-bytes.ensures.value) ∙ with_no_minus s unsigned ∙ ap (number_from false) (sym c.scan-else-has_minus.ensures.parts)
