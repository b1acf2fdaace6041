-- The mark of a state goes by what is known of its set.
use Rattle.std.proofs.Common.{◌≡◌, Bool, true, false, refl, ap, ◌∙◌}
use Rattle.snl_check.specs.States.{first_mark}

pub marks_alike : (faulty repeated unknown there reached same : Bool) → unknown ≡ there → (unknown ≡ false → reached ≡ same) →
    first_mark faulty repeated unknown reached ≡ first_mark faulty repeated there same
marks_alike faulty repeated true there reached same h r = settled faulty repeated there h
  where
    settled : (f p t : Bool) → true ≡ t → first_mark f p true reached ≡ first_mark f p t same
    settled true p t e = refl
    settled false true t e = refl
    settled false false true e = refl
    settled false false false e = absurd cc
marks_alike faulty repeated false there reached same h r = ap (λ b. first_mark faulty repeated false b) (r refl) ∙ ap (λ b. first_mark faulty repeated b same) h
