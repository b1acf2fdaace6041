-- A value of JSON that is written out is one that a text can have, if evaluation says so.
use Rattle.std.proofs.Common.{◌≡◌, ℕ, ◌^◌, List, Bool, true, false, ◌&&◌, nat_lt, Ordering, Less, Equal, Greater, refl, arith}
use Rattle.std.specs.Cmp.Lexicographic.{slice_cmp}
use Rattle.std.specs.Ordering.{nat_cmp}
use Rattle.std.proofs.lemmas.Bool.Decides.{nat_tests}
use Rattle.json.proofs.Printed.Utf8.{IsUtf8-are_ascii, are_ascii}
use Rattle.serde_json.specs.Data.{Num, unsigned, negative, float, Data, null, boolean, number, string, array, object, Items, no_items, item, Members, no_members, member}
use Rattle.snl_hear.specs.Sound.{AreSound, AreSoundMembers, IsBefore, IsSound, IsSoundNumber}

-- ---- the same as a test: strings are ASCII, and integers no less than 0

abbrev is_small : Num → Bool
is_small (unsigned n) = nat_lt n (2 ^ 64)
is_small (negative z) = false
is_small (float x) = false

abbrev is_greater : Ordering → Bool
is_greater Less = false
is_greater Equal = false
is_greater Greater = true

abbrev is_before : List ℕ → Members → Bool
is_before k no_members = true
is_before k (member l d ms) = is_greater (slice_cmp nat_cmp l k) && is_before k ms

abbrev mutual
  is_sound : Data → Bool
  is_sound null = true
  is_sound (boolean b) = true
  is_sound (number n) = is_small n
  is_sound (string s) = are_ascii s
  is_sound (array ds) = are_sound ds
  is_sound (object ms) = are_sound_members ms

  are_sound : Items → Bool
  are_sound no_items = true
  are_sound (item d ds) = is_sound d && are_sound ds

  are_sound_members : Members → Bool
  are_sound_members no_members = true
  are_sound_members (member k d ms) =
      are_ascii k && (is_sound d && (is_before k ms && are_sound_members ms))

-- ---- what passes it

first : (a b : Bool) → a && b ≡ true → a ≡ true
first true b h = refl
first false b h = absurd cc

second : (a b : Bool) → a && b ≡ true → b ≡ true
second true b h = h
second false b h = absurd cc

number_passes : (n : Num) → is_small n ≡ true → IsSoundNumber n
number_passes (unsigned n) h = grind (arith, nat_tests, h)
number_passes (negative z) h = absurd cc
number_passes (float x) h = absurd cc

greater_passes : (o : Ordering) → is_greater o ≡ true → o ≡ Greater
greater_passes Less h = absurd cc
greater_passes Equal h = absurd cc
greater_passes Greater h = refl

before_passes : (k : List ℕ) (ms : Members) → is_before k ms ≡ true → IsBefore k ms
before_passes k no_members h = tt
before_passes k (member l d ms) h =
    let greater = is_greater (slice_cmp nat_cmp l k) in (
      greater_passes (slice_cmp nat_cmp l k) (first greater (is_before k ms) h),
      before_passes k ms (second greater (is_before k ms) h),
    )

mutual
  pub sound_by_evaluation : (d : Data) → is_sound d ≡ true → IsSound d
  sound_by_evaluation null h = tt
  sound_by_evaluation (boolean b) h = tt
  sound_by_evaluation (number n) h = number_passes n h
  sound_by_evaluation (string s) h = IsUtf8-are_ascii s h
  sound_by_evaluation (array ds) h = items_pass ds h
  sound_by_evaluation (object ms) h = members_pass ms h

  items_pass : (ds : Items) → are_sound ds ≡ true → AreSound ds
  items_pass no_items h = tt
  items_pass (item d ds) h = (
    sound_by_evaluation d (first (is_sound d) (are_sound ds) h),
    items_pass ds (second (is_sound d) (are_sound ds) h),
  )

  members_pass : (ms : Members) → are_sound_members ms ≡ true → AreSoundMembers ms
  members_pass no_members h = tt
  members_pass (member k d ms) h =
      let after = is_before k ms && are_sound_members ms in
      let rest : is_sound d && after ≡ true = second (are_ascii k) (is_sound d && after) h in
      let last : after ≡ true = second (is_sound d) after rest in (
        IsUtf8-are_ascii k (first (are_ascii k) (is_sound d && after) h),
        sound_by_evaluation d (first (is_sound d) after rest),
        before_passes k ms (first (is_before k ms) (are_sound_members ms) last),
        members_pass ms (second (is_before k ms) (are_sound_members ms) last),
      )
