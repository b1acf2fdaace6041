-- Lists of one length are the same, if as many elements are.
use Rattle.std.proofs.Common.{◌≡◌, ◌≤◌, ℕ, true, List, length, take, sym, ◌∙◌, arith}
use Rattle.std.specs.Str.{bytes_eq}
use Rattle.std.proofs.lemmas.List.{take_all}
use Rattle.std.proofs.lemmas.Slice.Eq.{bytes_eq-Decides}

pub equal : (xs ys : List ℕ) (n : ℕ) → length xs ≡ length ys → length ys ≤ n → take n xs ≡ take n ys → true ≡ bytes_eq xs ys
equal xs ys n many whole same =
    sym ((bytes_eq-Decides xs ys).1 (sym (take_all n xs (omega arith)) ∙ same ∙ take_all n ys (omega arith)))
