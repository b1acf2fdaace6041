-- What the bytes of characters count.
use Rattle.std.proofs.Common.{◌≡◌, ◌≢◌, ℕ, suc, ◌+◌, ◌/◌, ◌%◌, ◌<◌, ◌≤◌, ◌==◌}
use Rattle.std.proofs.Common.{inl, inr, Bool, not, cond, ◌&&◌, All, sum_by}
use Rattle.std.proofs.Common.{List, [], ◌∷◌, length, refl, sym, ap, ap₂, ◌∙◌, arith}
use Rattle.std.proofs.Common.{length-append}
use Rattle.std.proofs.lemmas.Bool.Decides.{nat_tests}
use Rattle.std.proofs.lemmas.List.Sums.{sum_by-append}
use Rattle.std.specs.Char.Escape.{encode_utf16}
use Rattle.std.specs.List.{flat_map}
use Rattle.std.specs.Str.{encode_utf8_all}
use lib.Utf8.{encode}
use Rattle.snl_place.specs.declared.places.Encoding.{Encoding}
use Rattle.snl_place.specs.declared.places.Encoding.TheVariants.{Utf8, Utf16}
use Rattle.snl_place.specs.declared.places.Place.{Place}
use Rattle.snl_place.specs.Places.{IsOneLine, onto, place_in, units}
use Rattle.snl_place.proofs.LineEnds.{bit, feeds}
use Rattle.snl_place.proofs.Walks.{none_fed, one_line, same}
use Rattle.std.proofs.lemmas.Bool.{cases_lt, lt-ltb, le-ltb}

-- ---- ASCII

ascii_units : (b : ℕ) → b < 128 → units Utf8 b ≡ units Utf16 b
ascii_units b h = grind (arith, nat_tests)

pub ascii_alike : (bytes : List ℕ) → All (λ b. b < 128) bytes
    → place_in Utf8 bytes ≡ place_in Utf16 bytes
ascii_alike [] h = refl
ascii_alike (b ∷ bytes) h =
    let p : Place = place_in Utf16 bytes in
    let rest : place_in Utf8 bytes ≡ p =
    ascii_alike bytes (λ k d lt. h (suc k) d (omega (arith, lt))) in
    let first : b < 128 = h 0 b (omega arith) in
    let t : Bool = (p.line == 0) && not (b == 10) in
    let last : onto Utf8 b p ≡ onto Utf16 b p =
    same _ _ _ _ refl
    (ap (λ (u : ℕ). cond t (u + p.character) p.character) (ascii_units b first)) in
    ap (onto Utf8 b) rest ∙ last

-- ---- the bytes of one character

-- Bytes that go on with a character count nothing, and are no LF.
on_units : (encoding : Encoding) (x : ℕ) → units encoding (128 + x % 64) ≡ 0
on_units Utf8 x = let less : x % 64 < 64 = omega arith in grind (arith, nat_tests)
on_units Utf16 x = let less : x % 64 < 64 = omega arith in grind (arith, nat_tests)

-- What a first byte counts, by how many bytes there are.
one_unit : (encoding : Encoding) (b : ℕ) → b < 128 → units encoding b ≡ 1
one_unit Utf8 b h = grind (arith, nat_tests)
one_unit Utf16 b h = grind (arith, nat_tests)

two_units : (b : ℕ) → 192 ≤ b → b < 224 → (units Utf8 b ≡ 2) × (units Utf16 b ≡ 1)
two_units b h k = (grind (arith, nat_tests), grind (arith, nat_tests))

three_units : (b : ℕ) → 224 ≤ b → b < 240 → (units Utf8 b ≡ 3) × (units Utf16 b ≡ 1)
three_units b h k = (grind (arith, nat_tests), grind (arith, nat_tests))

four_units : (b : ℕ) → 240 ≤ b → (units Utf8 b ≡ 4) × (units Utf16 b ≡ 2)
four_units b h = (grind (arith, nat_tests), grind (arith, nat_tests))

-- What a character's bytes count in both encodings, beside how many code units it has.
pub record Counts (c : ℕ) (bytes : List ℕ) : Type 0 where
  pub utf8 : sum_by (units Utf8) bytes ≡ length bytes
  pub utf16 : sum_by (units Utf16) bytes ≡ length (encode_utf16 c)
  pub line : c ≢ 10 → feeds bytes ≡ 0

sixteen_one : (c : ℕ) → c < 65536 → length (encode_utf16 c) ≡ 1
sixteen_one c h = rw (lt-ltb c 65536 h) refl

sixteen_two : (c : ℕ) → 65536 ≤ c → length (encode_utf16 c) ≡ 2
sixteen_two c h = rw (le-ltb c 65536 h) refl

sum_one : (a n : ℕ) → a ≡ n → 0 + a ≡ n
sum_one a n e = omega (arith, e)

sum_two : (a b n : ℕ) → a ≡ n → b ≡ 0 → 0 + a + b ≡ n
sum_two a b n e f = omega (arith, e, f)

sum_three : (a b c n : ℕ) → a ≡ n → b ≡ 0 → c ≡ 0 → 0 + a + b + c ≡ n
sum_three a b c n e f g = omega (arith, e, f, g)

sum_four : (a b c d n : ℕ) → a ≡ n → b ≡ 0 → c ≡ 0 → d ≡ 0 → 0 + a + b + c + d ≡ n
sum_four a b c d n e f g h = omega (arith, e, f, g, h)

on_feeds : (x : ℕ) → bit (128 + x % 64 == 10) ≡ 0
on_feeds x = none_fed (128 + x % 64) (λ e. omega (arith, e))

high_feeds : (b : ℕ) → 128 ≤ b → bit (b == 10) ≡ 0
high_feeds b h = none_fed b (λ e. omega (arith, e, h))

one_byte : (c : ℕ) → c < 128 → Counts c (c ∷ [])
one_byte c h = record {
  utf8 = sum_one _ 1 (one_unit Utf8 c h);
  utf16 = sum_one _ 1 (one_unit Utf16 c h) ∙ sym (sixteen_one c (omega (arith, h)));
  line = λ other. sum_one _ 0 (none_fed c other);
}

two_bytes : (b x c : ℕ) → 192 ≤ b → b < 224 → c < 65536 → Counts c (b ∷ (128 + x % 64) ∷ [])
two_bytes b x c h k small =
    let u = two_units b h k in
    record {
      utf8 = sum_two _ _ 2 u.0 (on_units Utf8 x);
      utf16 = sum_two _ _ 1 u.1 (on_units Utf16 x) ∙ sym (sixteen_one c small);
      line = λ other. sum_two _ _ 0 (high_feeds b (omega (arith, h))) (on_feeds x);
    }

three_bytes : (b x y c : ℕ) → 224 ≤ b → b < 240 → c < 65536
    → Counts c (b ∷ (128 + x % 64) ∷ (128 + y % 64) ∷ [])
three_bytes b x y c h k small =
    let u = three_units b h k in
    record {
      utf8 = sum_three _ _ _ 3 u.0 (on_units Utf8 x) (on_units Utf8 y);
      utf16 = sum_three _ _ _ 1 u.1 (on_units Utf16 x) (on_units Utf16 y)
          ∙ sym (sixteen_one c small);
      line = λ other. sum_three _ _ _ 0 (high_feeds b (omega (arith, h))) (on_feeds x) (on_feeds y);
    }

four_bytes : (b x y z c : ℕ) → 240 ≤ b → 65536 ≤ c
    → Counts c (b ∷ (128 + x % 64) ∷ (128 + y % 64) ∷ (128 + z % 64) ∷ [])
four_bytes b x y z c h large =
    let u = four_units b h in
    record {
      utf8 = sum_four _ _ _ _ 4 u.0 (on_units Utf8 x) (on_units Utf8 y) (on_units Utf8 z);
      utf16 = sum_four _ _ _ _ 2 u.1 (on_units Utf16 x) (on_units Utf16 y) (on_units Utf16 z)
          ∙ sym (sixteen_two c large);
      line = λ other.
          let first = high_feeds b (omega (arith, h)) in
          sum_four _ _ _ _ 0 first (on_feeds x) (on_feeds y) (on_feeds z);
    }

character : (c : ℕ) → Counts c (encode c)
unfolding encode
character c =
    elim (cases_lt c 128) [
      | inl one ↦ rw (lt-ltb c 128 one) (one_byte c one)
      | inr over_one ↦
          elim (cases_lt c 2048) [
            | inl two ↦
                let few : 192 + c / 64 < 224 = omega (arith, two) in
                rw (le-ltb c 128 over_one, lt-ltb c 2048 two)
                (two_bytes (192 + c / 64) c c (omega arith) few (omega (arith, two)))
            | inr over_two ↦
                elim (cases_lt c 65536) [
                  | inl three ↦
                      let few : 224 + c / 4096 < 240 = omega (arith, three) in
                      rw (le-ltb c 128 over_one, le-ltb c 2048 over_two, lt-ltb c 65536 three)
                      (three_bytes (224 + c / 4096) (c / 64) c c (omega arith) few three)
                  | inr four ↦
                      rw (le-ltb c 128 over_one, le-ltb c 2048 over_two, le-ltb c 65536 four)
                      (four_bytes (240 + c / 262144) (c / 4096) (c / 64) c c (omega arith) four)
                ]
          ]
    ]

-- ---- all characters of a line

pub record CountsAll (cs : List ℕ) : Type 0 where
  pub utf8 : sum_by (units Utf8) (encode_utf8_all cs) ≡ length (encode_utf8_all cs)
  pub utf16 : sum_by (units Utf16) (encode_utf8_all cs) ≡ length (flat_map encode_utf16 cs)
  pub line : feeds (encode_utf8_all cs) ≡ 0

all_counted : (cs : List ℕ) → IsOneLine cs → CountsAll cs
all_counted [] h = record { utf8 = refl; utf16 = refl; line = refl }
all_counted (c ∷ cs) h =
    let one = character c in
    let rest = all_counted cs (λ k d lt. h (suc k) d (omega (arith, lt))) in
    let bytes : List ℕ = encode c in
    let more : List ℕ = encode_utf8_all cs in
    record {
      utf8 = sum_by-append (units Utf8) bytes more
          ∙ ap₂ (λ (x y : ℕ). x + y) one.utf8 rest.utf8 ∙ sym (length-append bytes more);
      utf16 = sum_by-append (units Utf16) bytes more
          ∙ ap₂ (λ (x y : ℕ). x + y) one.utf16 rest.utf16
          ∙ sym (length-append (encode_utf16 c) (flat_map encode_utf16 cs));
      line = sum_by-append (λ (x : ℕ). cond (x == 10) 1 0) bytes more
          ∙ ap₂ (λ (x y : ℕ). x + y) (one.line (h 0 c (omega arith))) rest.line;
    }

pub utf8_line : (cs : List ℕ) → IsOneLine cs
    → place_in Utf8 (encode_utf8_all cs)
    ≡ record { line = 0; character = length (encode_utf8_all cs) }
utf8_line cs h =
    let all = all_counted cs h in
    one_line Utf8 (encode_utf8_all cs) all.line ∙ same 0 0 _ _ refl all.utf8

pub utf16_line : (cs : List ℕ) → IsOneLine cs
    → place_in Utf16 (encode_utf8_all cs)
    ≡ record { line = 0; character = length (flat_map encode_utf16 cs) }
utf16_line cs h =
    let all = all_counted cs h in
    one_line Utf16 (encode_utf8_all cs) all.line ∙ same 0 0 _ _ refl all.utf16
