-- Sets of numbers as bits: a number's bit is at its place in a list, and its being set marks it.
use Rattle.std.specs.Prelude.{◌≡◌, ℕ, ◌/◌, ◌<◌, ◌≤◌, Bool, true, false, List, length, filter}
use Rattle.std.specs.List.{range_with_len, slice_index_or}

abbrev pub is_marked : List Bool → ℕ → Bool
is_marked marks n = slice_index_or marks n false

-- The marked numbers, rising.
unfoldable pub marked : List Bool → List ℕ
marked marks = filter (is_marked marks) (range_with_len 0 (length marks))

-- Of each block of 256 numbers that has a marked one, it is noted that it has; and no number before
-- a place is marked.
pub record AreKept (marks blocks : List Bool) (from : ℕ) : Type 0 where
  pub inside : (n : ℕ) → n < length marks → n / 256 < length blocks
  pub noted : (n : ℕ) → is_marked blocks (n / 256) ≡ false → is_marked marks n ≡ false
  pub after : (n : ℕ) → n < from → is_marked marks n ≡ false

-- No number from one place up to another is marked.
abbrev pub NoneMarked : (marks : List Bool) (from to : ℕ) → Type 0
NoneMarked marks from to = (n : ℕ) → from ≤ n → n < to → is_marked marks n ≡ false

-- The first marked number from a place on.
pub record IsFirstMarked (marks : List Bool) (from n : ℕ) : Type 0 where
  pub from_on : from ≤ n
  pub within : n < length marks
  pub is : is_marked marks n ≡ true
  pub none_before : NoneMarked marks from n

-- A place after a number: the block's numbers from that number on, as far as there are any, are
-- before it.
pub record EndsBlock (limit number end : ℕ) : Type 0 where
  pub after : number < end
  pub within : end ≤ limit
  pub whole : (n : ℕ) → number ≤ n → n < limit → n / 256 ≡ number / 256 → n < end
  pub same : (n : ℕ) → number ≤ n → n < end → n / 256 ≡ number / 256
