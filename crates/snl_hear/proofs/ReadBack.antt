-- What is written for a value reads back.
use Rattle.std.proofs.Common.{◌≡◌, ℕ, negsuc, ◌≤◌, max, List, [], ◌∷◌, Bool, true, false, Option, Some, codes, option_map, option_and_then, IsUtf8, refl, ap, ap₂, sym, ◌∙◌, arith, append-nil}
use Rattle.std.proofs.lemmas.Str.{IsUtf8-append, IsUtf8-from_ascii, IsUtf8-nil, is_utf8-from_IsUtf8}
use Rattle.std.proofs.lemmas.Fmt.{IsAscii-decimal, IsAscii-signed}
use Rattle.std.specs.Ordering.{match_ordering}
use Rattle.json.specs.Json as json
use Rattle.json.specs.Lex.{tokens}
use Rattle.json.specs.Print.{quoted}
use Rattle.json.specs.Token.{Token}
use Rattle.json.specs.Tree as tree
use Rattle.json.proofs.OnLiterals.{json_on_literals}
use Rattle.json.proofs.Printed.Decimals.{IsNumber-decimal, IsNumber-signed_decimal}
use Rattle.json.proofs.Printed.Tokens.{tokens-print}
use Rattle.json.proofs.Printed.Trees.{ArePrintable-json_tokens, value-json_tokens}
use Rattle.json.proofs.Printed.Utf8.{IsUtf8-are_ascii, IsUtf8-boolean, IsUtf8-quoted}
use Rattle.serde_json.proofs.Numbers.{number_of-decimal, number_of-negative}
use Rattle.serde_json.proofs.Texts.{print-outline}
use Rattle.serde_json.specs.Data.{Num, unsigned, negative, float, Data, null, boolean, number, string, array, object, Items, no_items, item, Members, no_members, member, put, depth, items_depth, members_depth}
use Rattle.serde_json.specs.Read.{max_depth, of_json, of_items, of_members, number_of, read}
use Rattle.serde_json.specs.Written.{comma_if, compact_text, items_outline, items_text, members_outline, members_text, number_text, outline}
use Rattle.snl_hear.specs.Json.{json_in}
use Rattle.snl_hear.specs.Sound.{AreSound, AreSoundMembers, IsBefore, IsSound, IsSoundNumber}

-- ---- numbers

number_is_one : (n : Num) → IsSoundNumber n → tree.HasNumbers (json.number (number_text n))
number_is_one (unsigned n) h = IsNumber-decimal n h
number_is_one (negative z) h = rw h.2 (IsNumber-signed_decimal (negsuc h.0) h.1)
number_is_one (float x) h = absurd h

of_number : (n : Num) → IsSoundNumber n → number_of (number_text n) ≡ Some n
of_number (unsigned n) h = number_of-decimal n h
of_number (negative z) h = rw h.2 (number_of-negative h.0 h.1)
of_number (float x) h = absurd h

utf8_number : (n : Num) → IsSoundNumber n → IsUtf8 (number_text n)
utf8_number (unsigned n) h = IsUtf8-from_ascii _ (IsAscii-decimal n h)
utf8_number (negative z) h = rw h.2 (IsUtf8-from_ascii _ (IsAscii-signed (negsuc h.0) h.1))
utf8_number (float x) h = absurd h

mutual
  numbers : (d : Data) → IsSound d → tree.HasNumbers (outline d)
  numbers null h = tt
  numbers (boolean b) h = tt
  numbers (number n) h = number_is_one n h
  numbers (string s) h = tt
  numbers (array ds) h = numbers_of_items ds h
  numbers (object ms) h = numbers_of_members ms h

  numbers_of_items : (ds : Items) → AreSound ds → tree.ItemsHaveNumbers (items_outline ds)
  numbers_of_items no_items h = tt
  numbers_of_items (item d ds) h = (numbers d h.0, numbers_of_items ds h.1)

  numbers_of_members : (ms : Members) → AreSoundMembers ms →
      tree.MembersHaveNumbers (members_outline ms)
  numbers_of_members no_members h = tt
  numbers_of_members (member k d ms) h = (numbers d h.1, numbers_of_members ms h.3)

-- ---- levels

mutual
  same_depth : (d : Data) → tree.depth (outline d) ≡ depth d
  same_depth null = refl
  same_depth (boolean b) = refl
  same_depth (number n) = refl
  same_depth (string s) = refl
  same_depth (array ds) = omega (arith, same_items_depth ds)
  same_depth (object ms) = omega (arith, same_members_depth ms)

  same_items_depth : (ds : Items) → tree.items_depth (items_outline ds) ≡ items_depth ds
  same_items_depth no_items = refl
  same_items_depth (item d ds) = ap₂ max (same_depth d) (same_items_depth ds)

  same_members_depth : (ms : Members) → tree.members_depth (members_outline ms) ≡ members_depth ms
  same_members_depth no_members = refl
  same_members_depth (member k d ms) = ap₂ max (same_depth d) (same_members_depth ms)

-- ---- UTF-8

utf8_comma : (later : Bool) → IsUtf8 (comma_if later)
utf8_comma true = IsUtf8-are_ascii (44 ∷ []) refl
utf8_comma false = IsUtf8-nil

mutual
  unfolding json_on_literals

  utf8 : (d : Data) → IsSound d → IsUtf8 (compact_text d)
  utf8 null h = IsUtf8-are_ascii (codes "null") refl
  utf8 (boolean b) h = IsUtf8-boolean b
  utf8 (number n) h = utf8_number n h
  utf8 (string s) h = IsUtf8-quoted s h
  utf8 (array ds) h =
      IsUtf8-append (91 ∷ []) _ (IsUtf8-are_ascii (91 ∷ []) refl) (utf8_items false ds h)
  utf8 (object ms) h =
      IsUtf8-append (123 ∷ []) _ (IsUtf8-are_ascii (123 ∷ []) refl) (utf8_members false ms h)

  utf8_items : (later : Bool) (ds : Items) → AreSound ds → IsUtf8 (items_text later ds)
  utf8_items later no_items h = IsUtf8-are_ascii (93 ∷ []) refl
  utf8_items later (item d ds) h =
      IsUtf8-append (comma_if later) _ (utf8_comma later)
      (IsUtf8-append (compact_text d) _ (utf8 d h.0) (utf8_items true ds h.1))

  utf8_members : (later : Bool) (ms : Members) → AreSoundMembers ms → IsUtf8 (members_text later ms)
  utf8_members later no_members h = IsUtf8-are_ascii (125 ∷ []) refl
  utf8_members later (member k d ms) h =
      IsUtf8-append (comma_if later) _ (utf8_comma later)
      (IsUtf8-append (quoted k) _ (IsUtf8-quoted k h.0)
      (IsUtf8-append (58 ∷ []) _ (IsUtf8-are_ascii (58 ∷ []) refl)
      (IsUtf8-append (compact_text d) _ (utf8 d h.1) (utf8_members true ms h.3))))

-- ---- members go in one after another

abbrev joined : Members → Members → Members
joined no_members ms = ms
joined (member k d found) ms = member k d (joined found ms)

joined-none : (found : Members) → joined found no_members ≡ found
joined-none no_members = refl
joined-none (member k d found) = ap (member k d) (joined-none found)

joined-one : (found : Members) (k : List ℕ) (d : Data) (ms : Members) →
    joined (joined found (member k d no_members)) ms ≡ joined found (member k d ms)
joined-one no_members k d ms = refl
joined-one (member l e found) k d ms = ap (member l e) (joined-one found k d ms)

-- the names of the first ones are before those of the second ones
abbrev AreBefore : Members → Members → Type 0
AreBefore no_members ms = Unit {0}
AreBefore (member k d found) ms = IsBefore k ms × AreBefore found ms

put_last : (found : Members) (k : List ℕ) (d : Data) (ms : Members) →
    AreBefore found (member k d ms) → put k d found ≡ joined found (member k d no_members)
put_last no_members k d ms h = refl
put_last (member l e found) k d ms h =
    ap (λ o. match_ordering o (member k d (member l e found)) (member l d found)
    (member l e (put k d found))) h.0.0
    ∙ ap (member l e) (put_last found k d ms h.1)

one_more : (found : Members) (k : List ℕ) (d : Data) (ms : Members) →
    AreBefore found (member k d ms) → IsBefore k ms →
    AreBefore (joined found (member k d no_members)) ms
one_more no_members k d ms h before = (before, tt)
one_more (member l e found) k d ms h before = (h.0.1, one_more found k d ms h.1 before)

mutual
  of_value : (d : Data) → IsSound d → of_json (outline d) ≡ Some d
  of_value null h = refl
  of_value (boolean b) h = refl
  of_value (number n) h = ap (option_map number) (of_number n h)
  of_value (string s) h = refl
  of_value (array ds) h = ap (option_map array) (of_each ds h)
  of_value (object ms) h = ap (option_map object) (of_rest no_members ms h tt)

  of_each : (ds : Items) → AreSound ds → of_items (items_outline ds) ≡ Some ds
  of_each no_items h = refl
  of_each (item d ds) h =
      ap (option_and_then (λ x. option_map (item x) (of_items (items_outline ds)))) (of_value d h.0)
      ∙ ap (option_map (item d)) (of_each ds h.1)

  of_rest : (found ms : Members) → AreSoundMembers ms → AreBefore found ms →
      of_members (members_outline ms) found ≡ Some (joined found ms)
  of_rest found no_members h before = ap Some (sym (joined-none found))
  of_rest found (member k d ms) h before =
      ap (option_and_then (λ x. of_members (members_outline ms) (put k x found))) (of_value d h.1)
      ∙ ap (of_members (members_outline ms)) (put_last found k d ms before)
      ∙ of_rest (joined found (member k d no_members)) ms h.3 (one_more found k d ms before h.2)
      ∙ ap Some (joined-one found k d ms)

-- ---- the whole

pub reads_back : (d : Data) → IsSound d → depth d ≤ max_depth → json_in (compact_text d) ≡ Some d
reads_back d h shallow =
    let whole : Option (json.Json × List Token) → Option Data =
    λ o. option_and_then of_json (option_and_then (λ p. json.if_last p.0 p.1) o) in
    let words = tree.json_tokens (outline d) in
    let same : tokens (compact_text d) ≡ words =
    ap tokens (sym (print-outline d))
    ∙ tokens-print words (ArePrintable-json_tokens (outline d) (numbers d h)) in
    let found : read (compact_text d) ≡ Some d =
    ap whole (ap (json.value max_depth) (same ∙ sym (append-nil words))
    ∙ value-json_tokens (outline d) max_depth [] (omega (arith, shallow, same_depth d)))
    ∙ of_value d h in
    rw (is_utf8-from_IsUtf8 (compact_text d) (utf8 d h)) found
