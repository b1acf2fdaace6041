-- The print of a name.
use Rattle.std.specs.Prelude.{ℕ, ◌+◌, ◌*◌, ◌%◌, ◌^◌, List}
use Rattle.std.specs.List.{fold}

abbrev pub with_byte : ℕ → ℕ → ℕ
with_byte print byte = ((print * 1099511628211) % 2 ^ 64 + byte) % 2 ^ 64

unfoldable pub print_of : List ℕ → ℕ
print_of name = fold with_byte 0 name
