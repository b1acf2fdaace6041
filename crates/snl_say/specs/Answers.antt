-- The answers to requests, as JSON and as bytes.
use Rattle.std.specs.Prelude.{ℕ, ℤ, negsuc, List, [], ◌∷◌, Option, Some, None, true, codes}
use Rattle.std.specs.List.{concat}
use Rattle.json.specs.Print.{quoted}
use Rattle.serde_json.specs.Data.{Data, boolean, null, object, string, number, unsigned, negative, member, no_members}
use Rattle.serde_json.specs.Written.{compact_text}
use Rattle.snl_say.specs.declared.answers.ErrorCode.{ErrorCode}
use Rattle.snl_say.specs.declared.answers.ErrorCode.TheVariants.{ParseError, InvalidRequest, MethodNotFound, InvalidParams, ServerNotInitialized}
use Rattle.snl_say.specs.declared.answers.Id.{Id}
use Rattle.snl_say.specs.declared.answers.Id.TheVariants.{Unsigned, Negative, Text}
use Rattle.snl_place.specs.declared.places.Encoding.{Encoding}
use Rattle.snl_place.specs.declared.places.Encoding.TheVariants.{Utf8, Utf16}
use Rattle.snl_place.specs.declared.places.Place.{Place}
use Rattle.snl_say.specs.Places.{range_data, range_text}

-- The id of a request, as JSON.
abbrev pub id_data : Id → Data
id_data (Unsigned n) = number (unsigned n)
id_data (Negative z) = number (negative z)
id_data (Text bytes) = string bytes.now

-- The same, or `null` where no id is known.
abbrev pub some_id_data : Option Id → Data
some_id_data None = null
some_id_data (Some id) = id_data id

-- ---- as JSON: the members of an object are in the order of their names

abbrev pub answer_data : (id result : Data) → Data
answer_data id result =
    object (member (codes "id") id
    (member (codes "jsonrpc") (string (codes "2.0"))
    (member (codes "result") result no_members)))

abbrev pub null_data : (id : Data) → Data
null_data id = answer_data id null

-- The names of the protocol.
abbrev pub encoding_name : Encoding → List ℕ
encoding_name Utf8 = codes "utf-8"
encoding_name Utf16 = codes "utf-16"

-- Documents are changed by ranges, of which the protocol's number is 2.
abbrev pub sync_data : Data
sync_data =
    object (member (codes "change") (number (unsigned 2))
    (member (codes "openClose") (boolean true) no_members))

abbrev pub capabilities_data : Encoding → Data
capabilities_data encoding =
    object (member (codes "definitionProvider") (boolean true)
    (member (codes "documentHighlightProvider") (boolean true)
    (member (codes "documentSymbolProvider") (boolean true)
    (member (codes "hoverProvider") (boolean true)
    (member (codes "positionEncoding") (string (encoding_name encoding))
    (member (codes "referencesProvider") (boolean true)
    (member (codes "textDocumentSync") sync_data no_members)))))))

abbrev pub server_data : Data
server_data = object (member (codes "name") (string (codes "snl_lsp")) no_members)

abbrev pub initialized_data : Encoding → Data
initialized_data encoding =
    object (member (codes "capabilities") (capabilities_data encoding)
    (member (codes "serverInfo") server_data no_members))

abbrev pub initialize_data : (id : Data) → Encoding → Data
initialize_data id encoding = answer_data id (initialized_data encoding)

-- A part of a document.
abbrev pub located_data : (uri : List ℕ) → (start stop : Place) → Data
located_data uri start stop =
    object (member (codes "range") (range_data start stop)
    (member (codes "uri") (string uri) no_members))

abbrev pub location_data : (id : Data) → (uri : List ℕ) → (start stop : Place) → Data
location_data id uri start stop = answer_data id (located_data uri start stop)

abbrev pub contents_data : (contents : List ℕ) → Data
contents_data contents =
    object (member (codes "kind") (string (codes "plaintext"))
    (member (codes "value") (string contents) no_members))

abbrev pub hovered_data : (contents : List ℕ) → (start stop : Place) → Data
hovered_data contents start stop =
    object (member (codes "contents") (contents_data contents)
    (member (codes "range") (range_data start stop) no_members))

abbrev pub hover_data : (id : Data) → (contents : List ℕ) → (start stop : Place) → Data
hover_data id contents start stop = answer_data id (hovered_data contents start stop)

-- The numbers of the protocol: `negsuc n` is one below -n.
abbrev pub error_number : ErrorCode → ℤ
error_number ParseError = negsuc 32699
error_number InvalidRequest = negsuc 32599
error_number MethodNotFound = negsuc 32600
error_number InvalidParams = negsuc 32601
error_number ServerNotInitialized = negsuc 32001

abbrev pub error_message : ErrorCode → List ℕ
error_message ParseError = codes "parse error"
error_message InvalidRequest = codes "invalid request"
error_message MethodNotFound = codes "method not found"
error_message InvalidParams = codes "invalid params"
error_message ServerNotInitialized = codes "server not initialized"

abbrev pub failure_data : ErrorCode → Data
failure_data code =
    object (member (codes "code") (number (negative (error_number code)))
    (member (codes "message") (string (error_message code)) no_members))

abbrev pub error_data : (id : Data) → ErrorCode → Data
error_data id code =
    object (member (codes "error") (failure_data code)
    (member (codes "id") id
    (member (codes "jsonrpc") (string (codes "2.0")) no_members)))

-- ---- as bytes

unfoldable pub null_text : (id : Data) → List ℕ
null_text id =
    concat (codes "{\"id\":" ∷ compact_text id
    ∷ codes ",\"jsonrpc\":\"2.0\",\"result\":null}" ∷ [])

-- What is between the id and the capabilities.
unfoldable pub initialize_head : List ℕ
initialize_head = codes ",\"jsonrpc\":\"2.0\",\"result\":{\"capabilities\":{"

-- The requests on a document that are answered, up to the encoding.
unfoldable pub providers_text : List ℕ
providers_text =
    concat (codes "\"definitionProvider\":true,\"documentHighlightProvider\":true,"
    ∷ codes "\"documentSymbolProvider\":true,\"hoverProvider\":true" ∷ [])

abbrev pub encoding_text : Encoding → List ℕ
encoding_text Utf8 = codes ",\"positionEncoding\":\"utf-8\""
encoding_text Utf16 = codes ",\"positionEncoding\":\"utf-16\""

-- Those after the encoding.
unfoldable pub later_providers_text : List ℕ
later_providers_text = codes ",\"referencesProvider\":true"

unfoldable pub sync_text : List ℕ
sync_text = codes ",\"textDocumentSync\":{\"change\":2,\"openClose\":true}}"

unfoldable pub server_text : List ℕ
server_text = codes ",\"serverInfo\":{\"name\":\"snl_lsp\"}}}"

unfoldable pub initialize_text : (id : Data) → Encoding → List ℕ
initialize_text id encoding =
    concat (codes "{\"id\":" ∷ compact_text id ∷ initialize_head ∷ providers_text
    ∷ encoding_text encoding ∷ later_providers_text ∷ sync_text ∷ server_text ∷ [])

-- By the URI as a string of JSON, quotes included.
unfoldable pub location_with : (id : Data) → (quoted_uri : List ℕ) → (start stop : Place) → List ℕ
location_with id quoted_uri start stop =
    concat (codes "{\"id\":" ∷ compact_text id
    ∷ codes ",\"jsonrpc\":\"2.0\",\"result\":{\"range\":" ∷ range_text start stop
    ∷ codes ",\"uri\":" ∷ quoted_uri ∷ codes "}}" ∷ [])

abbrev pub location_text : (id : Data) → (uri : List ℕ) → (start stop : Place) → List ℕ
location_text id uri start stop = location_with id (quoted uri) start stop

-- What is between the id and what is told.
unfoldable pub hover_head : List ℕ
hover_head =
    codes ",\"jsonrpc\":\"2.0\",\"result\":{\"contents\":{\"kind\":\"plaintext\",\"value\":"

unfoldable pub hover_text : (id : Data) → (contents : List ℕ) → (start stop : Place) → List ℕ
hover_text id contents start stop =
    concat (codes "{\"id\":" ∷ compact_text id ∷ hover_head ∷ quoted contents
    ∷ codes "},\"range\":" ∷ range_text start stop ∷ codes "}}" ∷ [])

-- The number of an error and its message.
abbrev pub failure_text : ErrorCode → List ℕ
failure_text ParseError = codes "-32700,\"message\":\"parse error\""
failure_text InvalidRequest = codes "-32600,\"message\":\"invalid request\""
failure_text MethodNotFound = codes "-32601,\"message\":\"method not found\""
failure_text InvalidParams = codes "-32602,\"message\":\"invalid params\""
failure_text ServerNotInitialized = codes "-32002,\"message\":\"server not initialized\""

unfoldable pub error_text : (id : Data) → ErrorCode → List ℕ
error_text id code =
    concat (codes "{\"error\":{\"code\":" ∷ failure_text code ∷ codes "},\"id\":" ∷ compact_text id
    ∷ codes ",\"jsonrpc\":\"2.0\"}" ∷ [])
