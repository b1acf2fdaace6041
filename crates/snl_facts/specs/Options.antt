-- The first of two options that has a value.
use Rattle.std.proofs.Common.{◌≡◌, false, Option, None, Some, is_some, refl}
use Rattle.std.specs.Option.{option_or}

pub or_none : {A : Type 0} (o : Option A) → option_or o None ≡ o
or_none None = refl
or_none (Some x) = refl

pub none_or : {A : Type 0} (o p : Option A) → is_some o ≡ false → option_or o p ≡ p
none_or None p h = refl
none_or (Some x) p h = absurd cc
