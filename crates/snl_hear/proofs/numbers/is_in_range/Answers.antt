use Rattle.std.proofs.Common.{◌≡◌, None, is_some, option_and_then, sym, ap, ◌∙◌, arith}
use Rattle.std.specs.Float.{float_is_finite}
use Rattle.serde_json.specs.Find.{as_u64}
use Rattle.serde_json.specs.Read.{number_of}
use Rattle.snl_hear.specs.Values.{as_negative}
use Rattle.snl_hear.proofs.NumberTexts.{by_float}
use Rattle.snl_hear.proofs.numbers.is_in_range.Goals as goal

pub returns : goal.returns
returns c =
    let is = c.parts_of-has_minus.ensures in
    let unsigned : option_and_then as_u64 (number_of c.args.text.now) ≡ None = grind arith in
    let negative : option_and_then as_negative (number_of c.args.text.now) ≡ None = grind arith in
    c.is_finite.ensures.value
    ∙ ap float_is_finite c.to_float.ensures
    ∙ by_float _ _ (ap (option_and_then as_u64) (sym is) ∙ unsigned)
    (ap (option_and_then as_negative) (sym is) ∙ negative)
    ∙ ap is_some (sym is)
