-- There is one cut, however it was come by.
use Rattle.std.proofs.Common.{◌≡◌, ℕ, List}
use Rattle.snl_cut.specs.Cut.{IsFront, IsCut, IsRecut, joined, ends_of, members, in_a_row, EachFirst}
use Rattle.snl_cut.proofs.Only.{cut_only, cut_made}
use Rattle.snl_cut.proofs.Members.{row_from, each_from}

pub cut_is : {X : Type 0} (first : List X → ℕ) → IsFront first → (units : List X) (ends : List ℕ) → IsCut first units ends → ends ≡ ends_of first units
cut_is first front units ends cut = cut_only first units ends (ends_of first units) cut (cut_made first front units)

pub row_is : {X : Type 0} (first : List X → ℕ) → IsFront first → (units : List X) → in_a_row (members units 0 (ends_of first units)) ≡ units
row_is first front units = row_from first front units 0 (ends_of first units) (cut_made first front units)

pub each_is : {X : Type 0} (first : List X → ℕ) → IsFront first → (units : List X) → EachFirst first (members units 0 (ends_of first units))
each_is first front units = each_from first front units 0 (ends_of first units) (cut_made first front units)

pub again_is : {X : Type 0} (first : List X → ℕ) → IsFront first → (old units : List X) (ends : List ℕ) (start b c front_kept : ℕ) (made : List ℕ) (back : ℕ)
    → IsRecut first old ends units start b c front_kept made back → joined ends b c front_kept made back ≡ ends_of first units
again_is first front old units ends start b c kept made back is = cut_is first front units (joined ends b c kept made back) is.whole
