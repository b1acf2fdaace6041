use Rattle.std.proofs.Common.{◌≡◌, ℕ, ◌&&◌, Bool, true, false, not, [], Option, None, Some, is_some, if◌then◌else◌, option_map, refl}
use Rattle.snl_item_check.specs.declared.findings.Checked.{Checked}
use Rattle.snl_kept.specs.NewChecks.{made_at}

-- no check is made of a faulty item, nor of one that sees what it saw; else the check that there is
made_none : (i : ℕ) {A : Type 0} (f : A → Checked) (o : Option A) (sees : Bool) → None ≡ o → [] ≡ (if is_some o && not sees then made_at i (option_map f o) else [])
made_none i f None sees is = refl
made_none i f (Some a) sees is = absurd cc

made_seen : (i : ℕ) {A : Type 0} (f : A → Checked) (o : Option A) (sees : Bool) → sees ≡ true → [] ≡ (if is_some o && not sees then made_at i (option_map f o) else [])
made_seen i f None sees is = refl
made_seen i f (Some a) true is = refl
made_seen i f (Some a) false is = absurd cc
