-- A value of JSON that was read of bytes.
use Rattle.std.specs.Prelude.{◌≡◌, ℕ, ◌^◌, ◌<◌, negsuc, IsUtf8, ⊤}
use Rattle.serde_json.specs.Data.{Num, unsigned, negative, float, Data, null, boolean, number, string, array, object, Items, no_items, item, Members, no_members, member}

-- Integers are of 64 bits.
abbrev pub IsReadNumber : Num → Type 0
IsReadNumber (unsigned n) = n < 2 ^ 64
IsReadNumber (negative z) = (n : ℕ) × (n < 2 ^ 63) × (z ≡ negsuc n)
IsReadNumber (float x) = ⊤

-- Its strings are UTF-8, and its integers of 64 bits.
abbrev mutual
  pub IsRead : Data → Type 0
  IsRead null = ⊤
  IsRead (boolean b) = ⊤
  IsRead (number n) = IsReadNumber n
  IsRead (string s) = IsUtf8 s
  IsRead (array ds) = AreRead ds
  IsRead (object ms) = AreReadMembers ms

  pub AreRead : Items → Type 0
  AreRead no_items = ⊤
  AreRead (item d ds) = IsRead d × AreRead ds

  pub AreReadMembers : Members → Type 0
  AreReadMembers no_members = ⊤
  AreReadMembers (member k d ms) = IsRead d × AreReadMembers ms
