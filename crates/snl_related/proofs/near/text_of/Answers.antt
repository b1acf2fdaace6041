use Rattle.std.proofs.Common.{◌≡◌, Bool, true, false, refl}
use Rattle.std.specs.Str.{is_utf8}
use Rattle.std.proofs.lemmas.Str.{IsUtf8-from_is_utf8, is_utf8-from_IsUtf8}
use Rattle.snl_related.proofs.near.text_of.Goals as goal

pub returns-in-Ok : goal.returns-in-Ok
returns-in-Ok c =
    let is = c.in-Ok.ensures.cases in (is.0, is_utf8-from_IsUtf8 c.args.bytes.now is.1)

pub returns-in-Err : goal.returns-in-Err
returns-in-Err c = by (is_utf8 c.args.bytes.now) refl
  where
    by : (b : Bool) → is_utf8 c.args.bytes.now ≡ b → b ≡ false
    by true e = absurd (c.in-Err.ensures.cases.0 (IsUtf8-from_is_utf8 c.args.bytes.now e))
    by false e = refl
