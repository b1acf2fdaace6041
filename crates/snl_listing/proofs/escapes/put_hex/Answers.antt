use Rattle.std.proofs.Common.{refl, ◌∷◌, [], ◌%◌, ap, ℕ}
use Rattle.std.specs.Char.{digit_char}
use Rattle.snl_listing.proofs.Putting.{put_broken, put_broken_on, put_on}
use Rattle.snl_listing.proofs.escapes.put_hex.Goals as goal

pub returns-in_err-put : goal.returns-in_err-put
returns-in_err-put g c = put_broken g.met.S.Sink.goes_on c.from_residual.result _ _ (92 ∷ 120 ∷ []) _ _ refl c.from_residual.ensures.0 c.in_err-put.ensures

pub returns-in_err-put_char : goal.returns-in_err-put_char
returns-in_err-put_char g c =
    put_broken_on g.met.S.Sink.goes_on c.from_residual-in_err-put_char.result _ _ _ _ _ (digit_char (c.args.byte % 16) ∷ []) _ (ap (λ (d : ℕ). 92 ∷ 120 ∷ d ∷ digit_char (c.args.byte % 16) ∷ []) c.hex_digit.ensures) c.from_residual-in_err-put_char.ensures.0 c.in_ok-put.ensures c.in_err-put_char.ensures

pub returns : goal.returns
returns g c =
    put_on g.met.S.Sink.goes_on c.put_char-2.result _ _ _ _ _ _ (rw (c.hex_digit.ensures, c.hex_digit-2.ensures) refl) (g.met.S.Sink.goes_on.more _ _ _ _ _ c.in_ok-put.ensures c.in_ok-put_char.ensures) c.put_char-2.ensures
