-- The bytes of what is published, and of a message that is shown, are the text of the value.
use Rattle.std.specs.Prelude.{codes, decimal}
use Rattle.std.proofs.Common.{◌≡◌, ℕ, true, false, List, [], ◌∷◌, ◌++◌, Option, Some, None, refl, sym, ap, ap₂, ◌∙◌, append_assoc}
use Rattle.std.specs.Fmt.{digits}
use Rattle.std.specs.List.{flat_map}
use Rattle.json.proofs.OnLiterals.{json_on_literals}
use Rattle.json.specs.Print.{quoted}
use Rattle.serde_json.specs.Written.{compact_text, items_text as items_written, members_text as members_written}
use Rattle.snl_place.specs.declared.places.Place.{Place}
use Rattle.snl_say.specs.declared.severity.Severity.{Severity}
use Rattle.snl_say.specs.declared.severity.Severity.TheVariants.{Error, Warning}
use Rattle.snl_say.specs.Notices.{message_data, message_head, message_text}
use Rattle.snl_say.specs.Places.{place_text, range_text}
use Rattle.snl_say.specs.Publish.{Found, after_comma, item_data, item_text, items_after, items_data, items_text, publish_data, publish_head, publish_text, version_data, version_text}

-- an item by its parts, so that its severity is a case
abbrev item_of : (start stop : Place) (code message : List ℕ) (severity : Severity) → Found
item_of start stop code message severity = record {
  start = start;
  stop = stop;
  severity = severity;
  code = code;
  message = message;
}

item_parts : (start stop : Place) (code message : List ℕ) (severity : Severity) →
    compact_text (item_data (item_of start stop code message severity))
    ≡ item_text (item_of start stop code message severity)
unfolding json_on_literals digits place_text range_text item_text
item_parts start stop code message Error = refl
item_parts start stop code message Warning = refl

item_same : (f : Found) → compact_text (item_data f) ≡ item_text f
item_same f = item_parts f.start f.stop f.code f.message f.severity

after_same : (fs : List Found) → items_written true (items_data fs) ≡ items_after fs
after_same [] = refl
after_same (f ∷ fs) =
    ap₂ (λ (x y : List ℕ). 44 ∷ (x ++ y)) (item_same f) (after_same fs)
    ∙ ap (λ (l : List ℕ). 44 ∷ l)
    (sym (append_assoc (item_text f) (flat_map after_comma fs) (codes "]")))

all_same : (fs : List Found) → items_written false (items_data fs) ≡ items_text fs
unfolding items_text
all_same [] = refl
all_same (f ∷ fs) = ap₂ (λ (x y : List ℕ). x ++ y) (item_same f) (after_same fs)

-- the version, and the brackets that close
version_same : (v : Option ℕ) → members_written true (version_data v) ++ 125 ∷ [] ≡ version_text v
unfolding json_on_literals
version_same None = refl
version_same (Some n) =
    ap (λ (l : List ℕ). codes ",\"version\":" ++ l) (append_assoc (decimal n) (125 ∷ []) (125 ∷ []))

-- what is after the items: the bracket that closes the outer object joins it
pub closed : (items uri version : List ℕ) →
    (items ++ (codes ",\"uri\":" ++ (quoted uri ++ version))) ++ 125 ∷ []
    ≡ items ++ (codes ",\"uri\":" ++ (quoted uri ++ (version ++ 125 ∷ [])))
closed items uri version =
    append_assoc items (codes ",\"uri\":" ++ (quoted uri ++ version)) (125 ∷ [])
    ∙ ap (λ (l : List ℕ). items ++ (codes ",\"uri\":" ++ l))
    (append_assoc (quoted uri) version (125 ∷ []))

pub publish_same : (fs : List Found) (uri : List ℕ) (version : Option ℕ) →
    compact_text (publish_data fs uri version) ≡ publish_text fs uri version
unfolding json_on_literals publish_head
publish_same fs uri version =
    ap (λ (l : List ℕ). publish_head ++ l)
    (closed (items_written false (items_data fs)) uri
    (members_written true (version_data version)))
    ∙ ap₂ (λ (x y : List ℕ). publish_head ++ (x ++ (codes ",\"uri\":" ++ (quoted uri ++ y))))
    (all_same fs) (version_same version)

-- ---- items as they are written

-- the items and the bracket that closes them
pub items_none : items_text [] ≡ codes "]"
unfolding items_text
items_none = refl

pub items_first : (f : Found) (fs : List Found) →
    items_text (f ∷ fs) ≡ item_text f ++ (flat_map after_comma fs ++ codes "]")
unfolding items_text
items_first f fs = refl

-- ---- messages

-- the two brackets that close come after the message
ended : (head message : List ℕ) (a : List ℕ) →
    (head ++ (message ++ a)) ++ 125 ∷ [] ≡ head ++ (message ++ (a ++ 125 ∷ []))
ended head message a =
    append_assoc head (message ++ a) (125 ∷ [])
    ∙ ap (λ (l : List ℕ). head ++ l) (append_assoc message a (125 ∷ []))

pub message_same : (severity : Severity) (message : List ℕ) →
    compact_text (message_data severity message) ≡ message_text severity message
unfolding json_on_literals digits message_head
message_same Error message = ended message_head (quoted message) (codes ",\"type\":1}")
message_same Warning message = ended message_head (quoted message) (codes ",\"type\":2}")
