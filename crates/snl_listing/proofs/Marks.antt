-- States that are not faulty.
use Rattle.std.proofs.Common.{◌≡◌, ℕ, List, refl}
use Rattle.snl_tables.specs.declared.rows.StateMark.{StateMark}
use Rattle.snl_tables.specs.declared.rows.StateMark.TheVariants.{Faulty, Repeated, Unknown, Reached, Unreached}
use Rattle.snl_listing.specs.Listing.{unless_faulty}

pub unless_is : (mark : StateMark) (lines : List ℕ) → (mark ≡ Faulty → ⊥) → unless_faulty mark lines ≡ lines
unless_is Faulty lines h = absurd (h refl)
unless_is Repeated lines h = refl
unless_is Unknown lines h = refl
unless_is Reached lines h = refl
unless_is Unreached lines h = refl
