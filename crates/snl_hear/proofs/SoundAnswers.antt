-- Answers are values that a text can have, so that they read back.
use Rattle.std.proofs.Common.{◌≡◌, ◌≤◌, ℕ, List, true, Some, codes, IsUtf8, refl, arith}
use Rattle.serde_json.specs.Data.{negative, Data, null, boolean, number, string, array, object, depth}
use Rattle.serde_json.specs.Written.{compact_text}
use Rattle.snl_place.specs.declared.places.Encoding.{Encoding}
use Rattle.snl_place.specs.declared.places.Encoding.TheVariants.{Utf8, Utf16}
use Rattle.snl_place.specs.declared.places.Place.{Place}
use Rattle.snl_say.specs.Answers.{answer_data, error_data, error_message, error_number, hover_data, hovered_data, initialize_data, initialized_data, located_data, location_data, null_data}
use Rattle.snl_say.specs.declared.answers.ErrorCode.{ErrorCode}
use Rattle.snl_say.specs.declared.answers.ErrorCode.TheVariants.{ParseError, InvalidRequest, MethodNotFound, InvalidParams, ServerNotInitialized}
use Rattle.snl_hear.specs.Ids.{IsSoundId, is_id}
use Rattle.snl_hear.specs.Json.{json_in}
use Rattle.snl_hear.specs.Sound.{IsSound, IsSoundNumber, IsSoundPlace}
use Rattle.snl_hear.proofs.Evaluated.{sound_by_evaluation}
use Rattle.snl_hear.proofs.ReadBack.{reads_back}
use Rattle.snl_hear.proofs.SoundPlaces.{ascii, range_sound}

-- an id is no array and no object
id_shallow : (id : Data) → is_id id ≡ true → depth id ≡ 0
id_shallow null h = refl
id_shallow (boolean b) h = refl
id_shallow (number n) h = refl
id_shallow (string s) h = refl
id_shallow (array ds) h = absurd (grind arith)
id_shallow (object ms) h = absurd (grind arith)

-- ---- an answer, by what is answered

answer_sound : (id result : Data) → IsSound id → IsSound result → IsSound (answer_data id result)
answer_sound id result h k = (
  ascii (codes "id") refl,
  h,
  (refl, (refl, tt)),
  (
    ascii (codes "jsonrpc") refl,
    ascii (codes "2.0") refl,
    (refl, tt),
    (ascii (codes "result") refl, k, tt, tt),
  ),
)

-- an answer nests one level deeper than what is answered
pub answer_back : (id result : Data) → IsSoundId id → IsSound result → depth result ≤ 126 →
    json_in (compact_text (answer_data id result)) ≡ Some (answer_data id result)
answer_back id result h k shallow =
    reads_back (answer_data id result) (answer_sound id result h.1 k)
    (omega (arith, id_shallow id h.0, shallow))

pub null_answer : (id : Data) → IsSoundId id →
    json_in (compact_text (null_data id)) ≡ Some (null_data id)
null_answer id h = answer_back id null h tt (omega arith)

-- ---- the answer to `initialize`

initialized_sound : (encoding : Encoding) → IsSound (initialized_data encoding)
initialized_sound Utf8 = sound_by_evaluation (initialized_data Utf8) refl
initialized_sound Utf16 = sound_by_evaluation (initialized_data Utf16) refl

initialized_shallow : (encoding : Encoding) → depth (initialized_data encoding) ≤ 126
initialized_shallow encoding = omega arith

pub initialize_answer : (id : Data) (encoding : Encoding) → IsSoundId id →
    json_in (compact_text (initialize_data id encoding)) ≡ Some (initialize_data id encoding)
initialize_answer id encoding h =
    answer_back id (initialized_data encoding) h (initialized_sound encoding)
    (initialized_shallow encoding)

-- ---- a part of a document, and what is told of it

pub located_sound : (uri : List ℕ) (start stop : Place) → IsUtf8 uri → IsSoundPlace start →
    IsSoundPlace stop → IsSound (located_data uri start stop)
located_sound uri start stop u h k = (
  ascii (codes "range") refl,
  range_sound start stop h k,
  (refl, tt),
  (ascii (codes "uri") refl, u, tt, tt),
)

pub location_answer : (id : Data) (uri : List ℕ) (start stop : Place) → IsSoundId id →
    IsUtf8 uri → IsSoundPlace start → IsSoundPlace stop →
    json_in (compact_text (location_data id uri start stop))
    ≡ Some (location_data id uri start stop)
location_answer id uri start stop h u a b =
    answer_back id (located_data uri start stop) h (located_sound uri start stop u a b)
    (omega arith)

hovered_sound : (contents : List ℕ) (start stop : Place) → IsUtf8 contents → IsSoundPlace start →
    IsSoundPlace stop → IsSound (hovered_data contents start stop)
hovered_sound contents start stop u h k = (
  ascii (codes "contents") refl,
  (
    ascii (codes "kind") refl,
    ascii (codes "plaintext") refl,
    (refl, tt),
    (ascii (codes "value") refl, u, tt, tt),
  ),
  (refl, tt),
  (ascii (codes "range") refl, range_sound start stop h k, tt, tt),
)

pub hover_answer : (id : Data) (contents : List ℕ) (start stop : Place) → IsSoundId id →
    IsUtf8 contents → IsSoundPlace start → IsSoundPlace stop →
    json_in (compact_text (hover_data id contents start stop))
    ≡ Some (hover_data id contents start stop)
hover_answer id contents start stop h u a b =
    answer_back id (hovered_data contents start stop) h (hovered_sound contents start stop u a b)
    (omega arith)

-- ---- an error

number_sound : (code : ErrorCode) → IsSoundNumber (negative (error_number code))
number_sound ParseError = (32699, omega arith, refl)
number_sound InvalidRequest = (32599, omega arith, refl)
number_sound MethodNotFound = (32600, omega arith, refl)
number_sound InvalidParams = (32601, omega arith, refl)
number_sound ServerNotInitialized = (32001, omega arith, refl)

reason_sound : (code : ErrorCode) → IsUtf8 (error_message code)
reason_sound ParseError = ascii (codes "parse error") refl
reason_sound InvalidRequest = ascii (codes "invalid request") refl
reason_sound MethodNotFound = ascii (codes "method not found") refl
reason_sound InvalidParams = ascii (codes "invalid params") refl
reason_sound ServerNotInitialized = ascii (codes "server not initialized") refl

error_sound : (id : Data) (code : ErrorCode) → IsSound id → IsSound (error_data id code)
error_sound id code h = (
  ascii (codes "error") refl,
  (
    ascii (codes "code") refl,
    number_sound code,
    (refl, tt),
    (ascii (codes "message") refl, reason_sound code, tt, tt),
  ),
  (refl, (refl, tt)),
  (
    ascii (codes "id") refl,
    h,
    (refl, tt),
    (ascii (codes "jsonrpc") refl, ascii (codes "2.0") refl, tt, tt),
  ),
)

pub error_answer : (id : Data) (code : ErrorCode) → IsSoundId id →
    json_in (compact_text (error_data id code)) ≡ Some (error_data id code)
error_answer id code h =
    reads_back (error_data id code) (error_sound id code h.1) (omega (arith, id_shallow id h.0))

pub error_alone : (code : ErrorCode) →
    json_in (compact_text (error_data null code)) ≡ Some (error_data null code)
error_alone code = reads_back (error_data null code) (error_sound null code tt) (omega arith)
