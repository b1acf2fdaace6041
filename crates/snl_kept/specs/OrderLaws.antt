-- What holds of each finding holds of each where they are put in order.
use Rattle.std.proofs.Common.{Bool, true, false, if◌then◌else◌, List, [], ◌∷◌}
use Rattle.std.specs.List.{AllByRecursion as Each}
use Rattle.snl_kept.specs.declared.found.findings.Finding.{Finding}
use Rattle.snl_kept.specs.Order.{goes_before, in_order, put_in_order}

pub each_put : (P : Finding → Type 0) (x : Finding) (ys : List Finding) → P x → Each P ys → Each P (put_in_order x ys)
each_put P x [] p ps = (p, tt)
each_put P x (y ∷ ys) p ps = by (goes_before y x) (each_put P x ys p ps.1)
  where
    by : (b : Bool) → Each P (put_in_order x ys) → Each P (if b then y ∷ put_in_order x ys else x ∷ y ∷ ys)
    by true rest = (ps.0, rest)
    by false rest = (p, ps)

pub each_in_order : (P : Finding → Type 0) (xs : List Finding) → Each P xs → Each P (in_order xs)
each_in_order P [] ps = tt
each_in_order P (x ∷ xs) ps = each_put P x (in_order xs) ps.0 (each_in_order P xs ps.1)
