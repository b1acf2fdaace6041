-- What the reader of JSON says of bytes is what they are as JSON.
use Rattle.std.proofs.Common.{◌≡◌, ℕ, List, [], ◌∷◌, Option, Some, None, true, false, cond, option_and_then, IsUtf8, refl, sym, ap, ◌∙◌}
use Rattle.std.proofs.lemmas.Str.{IsUtf8-from_is_utf8, is_utf8-from_IsUtf8}
use Rattle.std.specs.Str.{is_utf8}
use Rattle.json.specs.Token.{Token}
use Rattle.json.specs.Lex.{tokens}
use Rattle.json.specs.Json as json
use Rattle.serde_json.specs.Data.{Data}
use Rattle.serde_json.specs.Read.{max_depth, of_json, read}
use Rattle.snl_hear.specs.Json.{json_in}
use Rattle.snl_hear.specs.Values.{are_in_range, data_of}
use Rattle.snl_hear.proofs.Seen.{converts, refuses}

-- what a text is, by the value at its front and the tokens after that
abbrev read_by : Option (json.Json × List Token) → Option Data
read_by front = option_and_then of_json (option_and_then (λ p. json.if_last p.0 p.1) front)

pub read_alone : (text : List ℕ) (j : json.Json) →
    json.value max_depth (tokens text) ≡ Some (j, []) → are_in_range j ≡ true →
    Some (data_of j) ≡ read text
read_alone text j is fits = sym (ap read_by is ∙ converts j fits)

pub read_out_of_range : (text : List ℕ) (j : json.Json) (rest : List Token) →
    json.value max_depth (tokens text) ≡ Some (j, rest) → are_in_range j ≡ false →
    None ≡ read text
read_out_of_range text j [] is out = sym (ap read_by is ∙ refuses j out)
read_out_of_range text j (t ∷ ts) is out = sym (ap read_by is)

pub read_with_more : (text : List ℕ) (j : json.Json) (rest : List Token) →
    json.value max_depth (tokens text) ≡ Some (j, rest) → (rest ≡ [] → ⊥) → None ≡ read text
read_with_more text j [] is more = absurd (more refl)
read_with_more text j (t ∷ ts) is more = sym (ap read_by is)

pub json_of_text : (bytes : List ℕ) → IsUtf8 bytes → read bytes ≡ json_in bytes
json_of_text bytes utf8 = rw (is_utf8-from_IsUtf8 bytes utf8)

pub no_json : (bytes : List ℕ) → (IsUtf8 bytes → ⊥) → None ≡ json_in bytes
no_json bytes other =
    elim (is_utf8 bytes) as (λ b. is_utf8 bytes ≡ b → None ≡ cond b (read bytes) None)
    [ true ↦ λ e. absurd (other (IsUtf8-from_is_utf8 bytes e)) | false ↦ λ e. refl ] refl
