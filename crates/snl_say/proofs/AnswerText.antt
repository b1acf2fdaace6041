-- The bytes of an answer are the text of the value.
use Rattle.std.specs.Prelude.{codes}
use Rattle.std.proofs.Common.{◌≡◌, ◌∙◌, ℕ, List, [], ◌∷◌, ◌++◌, refl, ap, append_assoc}
use Rattle.std.specs.Fmt.{digits}
use Rattle.json.proofs.OnLiterals.{json_on_literals}
use Rattle.json.specs.Print.{quoted}
use Rattle.serde_json.specs.Data.{Data}
use Rattle.serde_json.specs.Written.{compact_text}
use Rattle.snl_say.specs.declared.answers.ErrorCode.{ErrorCode}
use Rattle.snl_say.specs.declared.answers.ErrorCode.TheVariants.{ParseError, InvalidRequest, MethodNotFound, InvalidParams, ServerNotInitialized}
use Rattle.snl_place.specs.declared.places.Encoding.{Encoding}
use Rattle.snl_place.specs.declared.places.Encoding.TheVariants.{Utf8, Utf16}
use Rattle.snl_place.specs.declared.places.Place.{Place}
use Rattle.snl_say.specs.Answers.{error_data, error_text, hover_data, hover_head, hover_text, initialize_data, initialize_head, initialize_text, later_providers_text, location_data, location_text, location_with, null_data, null_text, providers_text, server_text, sync_text}
use Rattle.snl_say.specs.Places.{range_text}
use Rattle.snl_say.proofs.PlaceText.{range_same}
use Rattle.snl_say.proofs.PublishText.{closed}

pub null_same : (id : Data) → compact_text (null_data id) ≡ null_text id
unfolding json_on_literals null_text
null_same id = refl

pub initialize_same : (id : Data) (encoding : Encoding) →
    compact_text (initialize_data id encoding) ≡ initialize_text id encoding
unfolding json_on_literals digits initialize_head providers_text later_providers_text sync_text
    server_text initialize_text
initialize_same id Utf8 = refl
initialize_same id Utf16 = refl

pub error_same : (id : Data) (code : ErrorCode) →
    compact_text (error_data id code) ≡ error_text id code
unfolding json_on_literals digits error_text
error_same id ParseError = refl
error_same id InvalidRequest = refl
error_same id MethodNotFound = refl
error_same id InvalidParams = refl
error_same id ServerNotInitialized = refl

pub location_same : (id : Data) (uri : List ℕ) (start stop : Place) →
    compact_text (location_data id uri start stop) ≡ location_text id uri start stop
unfolding json_on_literals location_with
location_same id uri start stop =
    let head : List ℕ → List ℕ =
    λ l. codes "{\"id\":" ++ (compact_text id
    ++ (codes ",\"jsonrpc\":\"2.0\",\"result\":{\"range\":" ++ l)) in
    ap (λ (r : List ℕ). head ((r ++ (codes ",\"uri\":" ++ (quoted uri ++ 125 ∷ []))) ++ 125 ∷ []))
    (range_same start stop)
    ∙ ap head (closed (range_text start stop) uri (125 ∷ []))

-- the brackets that close come after the range
hover_closed : (contents range : List ℕ) →
    ((contents ++ 125 ∷ []) ++ (codes ",\"range\":" ++ (range ++ 125 ∷ []))) ++ 125 ∷ []
    ≡ contents ++ (codes "},\"range\":" ++ (range ++ codes "}}"))
hover_closed contents range =
    append_assoc (contents ++ 125 ∷ []) (codes ",\"range\":" ++ (range ++ 125 ∷ [])) (125 ∷ [])
    ∙ append_assoc contents (125 ∷ []) (codes ",\"range\":" ++ ((range ++ 125 ∷ []) ++ 125 ∷ []))
    ∙ ap (λ (l : List ℕ). contents ++ (codes "},\"range\":" ++ l))
    (append_assoc range (125 ∷ []) (125 ∷ []))

pub hover_same : (id : Data) (contents : List ℕ) (start stop : Place) →
    compact_text (hover_data id contents start stop) ≡ hover_text id contents start stop
unfolding json_on_literals hover_head hover_text
hover_same id contents start stop =
    let head : List ℕ → List ℕ =
    λ l. codes "{\"id\":" ++ (compact_text id ++ (hover_head ++ l)) in
    ap (λ (r : List ℕ). head (((quoted contents ++ 125 ∷ [])
    ++ (codes ",\"range\":" ++ (r ++ 125 ∷ []))) ++ 125 ∷ []))
    (range_same start stop)
    ∙ ap head (hover_closed (quoted contents) (range_text start stop))
