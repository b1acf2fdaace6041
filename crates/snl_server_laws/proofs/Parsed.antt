-- A value that is read of bytes in UTF-8 has strings in UTF-8 and integers of 64 bits.
use Rattle.std.proofs.Common.{◌≡◌, ◌==◌, ℕ, zero, suc, ◌^◌, ◌&&◌, Bool, true, false, nat_le, nat_lt, List, [], ◌∷◌, drop, length, Option, None, Some, IsUtf8, refl, arith, Ordering, Less, Equal, Greater}
use Rattle.std.specs.Prelude.{⊤, if◌then◌else◌, slice_index}
use Rattle.std.specs.Float.{binary64, float_is_finite}
use Rattle.std.specs.List.{AllByRecursion as Each}
use Rattle.std.specs.Option.{option_and_then, option_map}
use Rattle.std.specs.Ordering.{match_ordering}
use Rattle.std.proofs.lemmas.Bool.{and_parts}
use Rattle.std.proofs.lemmas.Bool.Decides.{nat_tests}
use Rattle.fast_float.specs.Text.{Parts, digits_of, minus, nearest, scan, with_sign}
use Rattle.json.specs.Json as json
use Rattle.json.specs.Json.{after_end_array, if_last, items, items_step, members, members_step, parse_map, read_key, value, value_with}
use Rattle.json.specs.Lex.{tokens}
use Rattle.json.specs.Token as token
use Rattle.json.specs.Token.{Token}
use Rattle.serde_json.specs.Data.{Num, unsigned, negative, float, Data, Members, no_members, item, member, number, array, object, put}
use Rattle.serde_json.specs.Read.{float_of, is_integer, max_depth, number_from, number_of, of_items, of_json, of_members, read}
use Rattle.snl_server_laws.specs.Read.{AreRead, AreReadMembers, IsRead, IsReadNumber}
use Rattle.snl_server_laws.proofs.Lexed.{IsTextToken, tokens_text}

-- ---- trees

abbrev mutual
  IsTextJson : json.Json → Type 0
  IsTextJson json.null = ⊤
  IsTextJson (json.boolean b) = ⊤
  IsTextJson (json.number s) = ⊤
  IsTextJson (json.string s) = IsUtf8 s
  IsTextJson (json.array js) = AreTextItems js
  IsTextJson (json.object ms) = AreTextMembers ms

  AreTextItems : json.Items → Type 0
  AreTextItems json.no_items = ⊤
  AreTextItems (json.item j js) = IsTextJson j × AreTextItems js

  AreTextMembers : json.Members → Type 0
  AreTextMembers json.no_members = ⊤
  AreTextMembers (json.member k j ms) = IsTextJson j × AreTextMembers ms

abbrev AreTextTokens : List Token → Type 0
AreTextTokens ts = Each IsTextToken ts

-- it holds of what was read, where something was
abbrev IfRead : {A : Type 0} → (A → Type 0) → Option (A × List Token) → Type 0
IfRead P None = ⊤
IfRead P (Some r) = P r.0 × AreTextTokens r.1

read_map : {A B : Type 0} (P : A → Type 0) (Q : B → Type 0) (f : A → B) →
    ((a : A) → P a → Q (f a)) → (o : Option (A × List Token)) → IfRead P o →
    IfRead Q (parse_map f o)
read_map P Q f h None is = tt
read_map P Q f h (Some r) is = (h r.0 is.0, is.1)

read_then : {A B : Type 0} (P : A → Type 0) (Q : B → Type 0)
    (f : A × List Token → Option (B × List Token)) →
    ((r : A × List Token) → P r.0 → AreTextTokens r.1 → IfRead Q (f r)) →
    (o : Option (A × List Token)) → IfRead P o → IfRead Q (option_and_then f o)
read_then P Q f h None is = tt
read_then P Q f h (Some r) is = h r is.0 is.1

abbrev Texts : {A : Type 0} → (A → Type 0) → (List Token → Option (A × List Token)) → Type 0
Texts P parse = (ts : List Token) → AreTextTokens ts → IfRead P (parse ts)

-- the rest after the end of an array
abbrev IfRest : Option (List Token) → Type 0
IfRest None = ⊤
IfRest (Some rest) = AreTextTokens rest

end_text : (ts : List Token) → AreTextTokens ts → IfRest (after_end_array ts)
end_text [] h = tt
end_text (token.begin_object ∷ ts) h = tt
end_text (token.end_object ∷ ts) h = tt
end_text (token.begin_array ∷ ts) h = tt
end_text (token.end_array ∷ ts) h = h.1
end_text (token.key s ∷ ts) h = tt
end_text (token.string s ∷ ts) h = tt
end_text (token.number s ∷ ts) h = tt
end_text (token.boolean b ∷ ts) h = tt
end_text (token.null ∷ ts) h = tt
end_text (token.bad ∷ ts) h = tt

key_text : (ts : List Token) → AreTextTokens ts → IfRead (λ k. ⊤) (read_key ts)
key_text [] h = tt
key_text (token.begin_object ∷ ts) h = tt
key_text (token.end_object ∷ ts) h = (tt, h.1)
key_text (token.begin_array ∷ ts) h = tt
key_text (token.end_array ∷ ts) h = tt
key_text (token.key s ∷ ts) h = (tt, h.1)
key_text (token.string s ∷ ts) h = tt
key_text (token.number s ∷ ts) h = tt
key_text (token.boolean b ∷ ts) h = tt
key_text (token.null ∷ ts) h = tt
key_text (token.bad ∷ ts) h = tt

module _ (one : json.Parse json.Json) (is : Texts IsTextJson one) where
  items_text : (n : ℕ) → Texts AreTextItems (items one n)
  unfolding items
  items_text zero ts h = tt
  items_text (suc n) ts h = by (items_text n) (after_end_array ts) (end_text ts h)
    where
      by : Texts AreTextItems (items one n) → (o : Option (List Token)) → IfRest o →
          IfRead AreTextItems (items_step one (items one n) ts o)
      by more (Some rest) k = (tt, k)
      by more None k =
          read_then IsTextJson AreTextItems _
          (λ r j later. read_map AreTextItems AreTextItems (json.item r.0) (λ js l. (j, l))
          (items one n r.1) (more r.1 later)) (one ts) (is ts h)

  members_text : (n : ℕ) → Texts AreTextMembers (members one n)
  unfolding members
  members_text zero ts h = tt
  members_text (suc n) ts h =
      read_then (λ k. ⊤) AreTextMembers _ (λ r k left. by (members_text n) r.0 r.1 left)
      (read_key ts) (key_text ts h)
    where
      by : Texts AreTextMembers (members one n) → (k : Option (List ℕ)) (rest : List Token) →
          AreTextTokens rest → IfRead AreTextMembers (members_step one (members one n) k rest)
      by more None rest left = (tt, left)
      by more (Some k) rest left =
          read_then IsTextJson AreTextMembers _
          (λ r j later. read_map AreTextMembers AreTextMembers (json.member k r.0)
          (λ ms l. (j, l)) (members one n r.1) (more r.1 later)) (one rest) (is rest left)

value_text : (a : json.Parse json.Items) (o : json.Parse json.Members) → Texts AreTextItems a →
    Texts AreTextMembers o → Texts IsTextJson (value_with a o)
value_text a o ha ho [] h = tt
value_text a o ha ho (token.begin_object ∷ ts) h =
    read_map AreTextMembers IsTextJson json.object (λ ms k. k) (o ts) (ho ts h.1)
value_text a o ha ho (token.end_object ∷ ts) h = tt
value_text a o ha ho (token.begin_array ∷ ts) h =
    read_map AreTextItems IsTextJson json.array (λ js k. k) (a ts) (ha ts h.1)
value_text a o ha ho (token.end_array ∷ ts) h = tt
value_text a o ha ho (token.key s ∷ ts) h = tt
value_text a o ha ho (token.string s ∷ ts) h = (h.0, h.1)
value_text a o ha ho (token.number s ∷ ts) h = (tt, h.1)
value_text a o ha ho (token.boolean b ∷ ts) h = (tt, h.1)
value_text a o ha ho (token.null ∷ ts) h = (tt, h.1)
value_text a o ha ho (token.bad ∷ ts) h = tt

none : ⊤
none = tt

tree_text : (depth : ℕ) → Texts IsTextJson (value depth)
unfolding value
tree_text zero ts h =
    value_text (λ rest. None) (λ rest. None) (λ rest k. none) (λ rest k. none) ts h
tree_text (suc depth) ts h =
    value_text _ _ (λ rest k. items_text (value depth) (tree_text depth) (length rest) rest k)
    (λ rest k. members_text (value depth) (tree_text depth) (length rest) rest k) ts h

-- ---- numbers

abbrev IfNumber : Option Num → Type 0
IfNumber None = ⊤
IfNumber (Some n) = IsReadNumber n

float_read : (sign : Bool) (p : Parts) → IfNumber (float_of sign p)
float_read sign p = by (float_is_finite (nearest binary64 sign p))
  where
    by : (b : Bool) → IfNumber (if b then Some (float (nearest binary64 sign p)) else None)
    by true = tt
    by false = tt

number_read : (sign : Bool) (p : Parts) → IfNumber (number_from sign p)
number_read false p = by (is_integer p && nat_lt (digits_of p) (2 ^ 64)) refl
  where
    by : (b : Bool) → (is_integer p && nat_lt (digits_of p) (2 ^ 64)) ≡ b →
        IfNumber (if b then Some (unsigned (digits_of p)) else float_of false p)
    by true e =
        let parts = and_parts (is_integer p) (nat_lt (digits_of p) (2 ^ 64)) e in
        grind (arith, nat_tests, parts.1)
    by false e = float_read false p
number_read true p =
    by (is_integer p && nat_lt 0 (digits_of p) && nat_le (digits_of p) (2 ^ 63)) refl
  where
    signed : (n : ℕ) → nat_lt 0 n ≡ true → nat_le n (2 ^ 63) ≡ true →
        IsReadNumber (negative (with_sign true n))
    signed zero some few = absurd cc
    signed (suc n) some few = (n, grind (arith, nat_tests, few), refl)

    by : (b : Bool) →
        (is_integer p && nat_lt 0 (digits_of p) && nat_le (digits_of p) (2 ^ 63)) ≡ b →
        IfNumber (if b then Some (negative (with_sign true (digits_of p))) else float_of true p)
    by true e =
        let few = and_parts (is_integer p && nat_lt 0 (digits_of p)) _ e in
        let some = and_parts (is_integer p) (nat_lt 0 (digits_of p)) few.0 in
        signed (digits_of p) some.1 few.1
    by false e = float_read true p

number_of_read : (s : List ℕ) → IfNumber (number_of s)
unfolding number_of
number_of_read s = by (slice_index s 0 == minus)
  where
    by : (b : Bool) → IfNumber (if b then number_from true (scan (drop 1 s))
        else number_from false (scan s))
    by true = number_read true (scan (drop 1 s))
    by false = number_read false (scan s)

-- ---- values

abbrev pub IfSomeHas : {A : Type 0} → (A → Type 0) → Option A → Type 0
IfSomeHas P None = ⊤
IfSomeHas P (Some a) = P a

pub has_map : {A B : Type 0} (P : A → Type 0) (Q : B → Type 0) (f : A → B) →
    ((a : A) → P a → Q (f a)) → (o : Option A) → IfSomeHas P o → IfSomeHas Q (option_map f o)
has_map P Q f h None is = tt
has_map P Q f h (Some a) is = h a is

pub has_then : {A B : Type 0} (P : A → Type 0) (Q : B → Type 0) (f : A → Option B) →
    ((a : A) → P a → IfSomeHas Q (f a)) → (o : Option A) → IfSomeHas P o →
    IfSomeHas Q (option_and_then f o)
has_then P Q f h None is = tt
has_then P Q f h (Some a) is = h a is

put_read : (k : List ℕ) (d : Data) (ms : Members) → IsRead d → AreReadMembers ms →
    AreReadMembers (put k d ms)
put_read k d no_members h is = (h, tt)
put_read k d (member l e ms) h is =
    by _ (h, (is.0, is.1)) (h, is.1) (is.0, put_read k d ms h is.1)
  where
    by : (o : Ordering) → AreReadMembers (member k d (member l e ms)) →
        AreReadMembers (member l d ms) → AreReadMembers (member l e (put k d ms)) →
        AreReadMembers (match_ordering o (member k d (member l e ms)) (member l d ms)
        (member l e (put k d ms)))
    by Less a b c = a
    by Equal a b c = b
    by Greater a b c = c

if_number : (o : Option Num) → IfNumber o → IfSomeHas IsRead (option_map number o)
if_number None h = tt
if_number (Some n) h = h

mutual
  json_read : (j : json.Json) → IsTextJson j → IfSomeHas IsRead (of_json j)
  json_read json.null h = tt
  json_read (json.boolean b) h = tt
  json_read (json.number s) h = if_number (number_of s) (number_of_read s)
  json_read (json.string s) h = h
  json_read (json.array js) h =
      has_map AreRead IsRead array (λ ds k. k) (of_items js) (items_read js h)
  json_read (json.object ms) h =
      has_map AreReadMembers IsRead object (λ ds k. k) (of_members ms no_members)
      (members_read ms no_members h tt)

  items_read : (js : json.Items) → AreTextItems js → IfSomeHas AreRead (of_items js)
  items_read json.no_items h = tt
  items_read (json.item j js) h =
      has_then IsRead AreRead _
      (λ d k. has_map AreRead AreRead (item d) (λ ds l. (k, l)) (of_items js) (items_read js h.1))
      (of_json j) (json_read j h.0)

  members_read : (ms : json.Members) (found : Members) → AreTextMembers ms →
      AreReadMembers found → IfSomeHas AreReadMembers (of_members ms found)
  members_read json.no_members found h is = is
  members_read (json.member k j ms) found h is =
      has_then IsRead AreReadMembers _
      (λ d l. members_read ms (put k d found) h.1 (put_read k d found l is)) (of_json j)
      (json_read j h.0)

last_text : (o : Option (json.Json × List Token)) → IfRead IsTextJson o →
    IfSomeHas IsTextJson (option_and_then (λ p. if_last p.0 p.1) o)
last_text None h = tt
last_text (Some (j, [])) h = h.0
last_text (Some (j, t ∷ ts)) h = tt

pub bytes_read : (bytes : List ℕ) → IsUtf8 bytes → IfSomeHas IsRead (read bytes)
bytes_read bytes utf8 =
    has_then IsTextJson IsRead of_json (λ j h. json_read j h) _
    (last_text (value max_depth (tokens bytes))
    (tree_text max_depth (tokens bytes) (tokens_text bytes utf8)))
