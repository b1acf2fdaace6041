-- Values of JSON that a text can have, and with them what is written in them.
use Rattle.std.specs.Prelude.{◌≡◌, ℕ, ◌^◌, ◌<◌, ◌≤◌, negsuc, List, [], ◌∷◌, Option, IfSome, IsUtf8, ⊤}
use Rattle.std.specs.Cmp.Lexicographic.{slice_cmp}
use Rattle.std.specs.Ordering.{nat_cmp}
use Rattle.std.specs.declared.cmp.Ordering.TheVariants.{Greater}
use Rattle.serde_json.specs.Data.{Num, unsigned, negative, float, Data, null, boolean, number, string, array, object, Items, no_items, item, Members, no_members, member}
use Rattle.snl_place.specs.declared.places.Place.{Place}
use Rattle.snl_say.specs.Answered.{Answered, Nothing, Location, Hover, Symbols, Locations, Ranges}
use Rattle.snl_say.specs.Publish.{Found}
use Rattle.snl_say.specs.Symbols.{SymbolFound}

-- An integer of 64 bits: of floats nothing is said.
abbrev pub IsSoundNumber : Num → Type 0
IsSoundNumber (unsigned n) = n < 2 ^ 64
IsSoundNumber (negative z) = (n : ℕ) × (n < 2 ^ 63) × (z ≡ negsuc n)
IsSoundNumber (float x) = ⊥

-- The name is before those of these members.
abbrev pub IsBefore : List ℕ → Members → Type 0
IsBefore k no_members = ⊤
IsBefore k (member l d ms) = (slice_cmp nat_cmp l k ≡ Greater) × IsBefore k ms

-- Strings are UTF-8, numbers are integers of 64 bits, and the names of an object rise.
abbrev mutual
  pub IsSound : Data → Type 0
  IsSound null = ⊤
  IsSound (boolean b) = ⊤
  IsSound (number n) = IsSoundNumber n
  IsSound (string s) = IsUtf8 s
  IsSound (array ds) = AreSound ds
  IsSound (object ms) = AreSoundMembers ms

  pub AreSound : Items → Type 0
  AreSound no_items = ⊤
  AreSound (item d ds) = IsSound d × AreSound ds

  pub AreSoundMembers : Members → Type 0
  AreSoundMembers no_members = ⊤
  AreSoundMembers (member k d ms) = IsUtf8 k × IsSound d × IsBefore k ms × AreSoundMembers ms

abbrev pub IsSoundPlace : Place → Type 0
IsSoundPlace p = (p.line < 2 ^ 64) × (p.character < 2 ^ 64)

-- ---- what is published

abbrev pub IsSoundFound : Found → Type 0
IsSoundFound f = IsSoundPlace f.start × IsSoundPlace f.stop × IsUtf8 f.code × IsUtf8 f.message

abbrev pub AreSoundFound : List Found → Type 0
AreSoundFound [] = ⊤
AreSoundFound (f ∷ fs) = IsSoundFound f × AreSoundFound fs

abbrev pub IsSoundVersion : Option ℕ → Type 0
IsSoundVersion version = IfSome version (λ n. n < 2 ^ 64)

-- ---- what is answered

-- A symbol that is in another one nests two levels deeper than that. So where no depth is greater
-- than this, the answer nests 127 levels at most.
abbrev pub greatest_depth : ℕ
greatest_depth = 61

pub record IsSoundSymbol (s : SymbolFound) : Type 0 where
  pub name : IsUtf8 s.name
  pub start : IsSoundPlace s.start
  pub stop : IsSoundPlace s.stop
  pub name_start : IsSoundPlace s.name_start
  pub name_stop : IsSoundPlace s.name_stop
  pub depth : s.depth ≤ greatest_depth

abbrev pub AreSoundSymbols : List SymbolFound → Type 0
AreSoundSymbols [] = ⊤
AreSoundSymbols (s ∷ ss) = IsSoundSymbol s × AreSoundSymbols ss

abbrev pub AreSoundParts : List (Place × Place) → Type 0
AreSoundParts [] = ⊤
AreSoundParts (part ∷ parts) = IsSoundPlace part.0 × IsSoundPlace part.1 × AreSoundParts parts

abbrev pub IsSoundAnswer : Answered → Type 0
IsSoundAnswer Nothing = ⊤
IsSoundAnswer (Location start stop) = IsSoundPlace start × IsSoundPlace stop
IsSoundAnswer (Hover contents start stop) =
    IsUtf8 contents × IsSoundPlace start × IsSoundPlace stop
IsSoundAnswer (Symbols symbols) = AreSoundSymbols symbols
IsSoundAnswer (Locations parts) = AreSoundParts parts
IsSoundAnswer (Ranges parts) = AreSoundParts parts
