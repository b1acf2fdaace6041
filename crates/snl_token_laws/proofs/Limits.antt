-- A value is at most 2^64 - 1, and an integer has one.
use Rattle.std.proofs.Common.{◌≡◌, ℕ, ◌^◌, ◌<◌, Bool, true, false, ◌&&◌, cond, nat_lt, List, drop, take, Option, Some, None, is_some, refl, ap}
use Rattle.std.specs.Prelude.{IfSome, IsSomeAnd}
use Rattle.std.proofs.lemmas.Bool.{ltb-true}
use Rattle.snl_lex.specs.declared.alphabet.NumberBase.{NumberBase}
use Rattle.snl_lex.specs.declared.piece.Class.TheVariants.{Int, Float, Bad}
use Rattle.snl_lex.specs.Numbers.{base_of, from_digits, int_value_of, is_float, is_int_suffix, number_class, value_after, value_in}
use Rattle.snl_lex.specs.Alphabet.{is_digit_in}
use Rattle.snl_lex.specs.Runs.{run_of}

abbrev pub IsSmall : ℕ → Type 0
IsSmall v = v < 2 ^ 64

small_if : (a b : Bool) (v : ℕ) → (b ≡ true → IsSmall v) → IfSome (cond a (cond b (Some v) None) None) IsSmall
small_if true true v h = h refl
small_if true false v h = tt
small_if false b v h = tt

small_in : (base : NumberBase) (bytes : List ℕ) → IfSome (value_in base bytes) IsSmall
unfolding value_in
small_in base bytes =
    let count : ℕ = run_of (is_digit_in base) bytes in
    let v : ℕ = value_after base 0 (take count bytes) in
    small_if (nat_lt 0 count && is_int_suffix (drop count bytes)) (nat_lt v 18446744073709551616) v (ltb-true v 18446744073709551616)

pub small_value : (bytes : List ℕ) → IfSome (int_value_of bytes) IsSmall
unfolding int_value_of
small_value bytes = small_in (base_of bytes) (from_digits (base_of bytes) bytes)

int_told : (i f : Bool) → cond i Int (cond f Float Bad) ≡ Int → i ≡ true
int_told true f e = refl
int_told false true e = cc
int_told false false e = cc

some_value : (bytes : List ℕ) → number_class bytes ≡ Int → is_some (int_value_of bytes) ≡ true
unfolding number_class
some_value bytes e = int_told (is_some (int_value_of bytes)) (is_float bytes) e

valued_at : (o : Option ℕ) → is_some o ≡ true → IfSome o IsSmall → IsSomeAnd o IsSmall
valued_at None e h = cc
valued_at (Some v) e h = h

pub valued : (bytes : List ℕ) → number_class bytes ≡ Int → IsSomeAnd (int_value_of bytes) IsSmall
valued bytes e = valued_at (int_value_of bytes) (some_value bytes e) (small_value bytes)

int_if : (i f : Bool) → i ≡ true → cond i Int (cond f Float Bad) ≡ Int
int_if true f e = refl
int_if false f e = cc

-- Bytes with a value are an integer.
pub int_class : (bytes : List ℕ) (v : ℕ) → int_value_of bytes ≡ Some v → number_class bytes ≡ Int
unfolding number_class
int_class bytes v e = int_if (is_some (int_value_of bytes)) (is_float bytes) (ap is_some e)
