-- What a request asks, by its method and its parameters.
use Rattle.std.specs.Prelude.{ℕ, List, Bool, false, ◌||◌, Option, Some, None, codes, if◌then◌else◌, option_and_then, option_map}
use Rattle.std.specs.Str.{bytes_eq}
use Rattle.std.specs.Option.{option_map_or}
use Rattle.serde_json.specs.Data.{Data, Items, no_items, item}
use Rattle.serde_json.specs.Find.{as_array, as_str, get}
use Rattle.snl_place.specs.declared.places.Encoding.{Encoding}
use Rattle.snl_place.specs.declared.places.Encoding.TheVariants.{Utf8, Utf16}
use Rattle.snl_place.specs.declared.places.Place.{Place}
use Rattle.snl_hear.specs.declared.requests.DocumentMethod.{DocumentMethod}
use Rattle.snl_hear.specs.declared.requests.DocumentMethod.TheVariants as document
use Rattle.snl_hear.specs.declared.requests.Question.{Question}
use Rattle.snl_hear.specs.declared.requests.Question.TheVariants as question
use Rattle.snl_hear.specs.declared.requests.Request.{Request}
use Rattle.snl_hear.specs.declared.requests.Request.TheVariants as request
use Rattle.snl_hear.specs.declared.requests.RequestMethod.{RequestMethod}
use Rattle.snl_hear.specs.declared.requests.RequestMethod.TheVariants as method
use Rattle.snl_hear.specs.Documents.{includes_declaration_in, position_in, uri_in}

-- What is asked of a document.
pub data Query : Type 0 where
  Symbols : Query
  Definition : Place → Query
  Hover : Place → Query
  References : Place → (includes_declaration : Bool) → Query
  Highlights : Place → Query

abbrev pub query_of : Question → Query
query_of question.Symbols = Symbols
query_of (question.Definition place) = Definition place
query_of (question.Hover place) = Hover place
query_of (question.References place includes_declaration) = References place includes_declaration
query_of (question.Highlights place) = Highlights place

-- What a request asks, with the bytes of its strings.
pub data Asked : Type 0 where
  Initialize : Encoding → Asked
  Shutdown : Asked
  OfDocument : (uri : List ℕ) → Query → Asked
  InvalidParams : Asked
  MethodNotFound : Asked

abbrev pub asked_of : Request → Asked
asked_of (request.Initialize encoding) = Initialize encoding
asked_of request.Shutdown = Shutdown
asked_of (request.OfDocument uri question) = OfDocument uri.now (query_of question)
asked_of request.InvalidParams = InvalidParams
asked_of request.MethodNotFound = MethodNotFound

abbrev pub method_named : List ℕ → RequestMethod
method_named name =
    if bytes_eq name (codes "initialize") then method.Initialize
    else if bytes_eq name (codes "shutdown") then method.Shutdown
    else if bytes_eq name (codes "textDocument/documentSymbol")
    then method.OfDocument document.Symbols
    else if bytes_eq name (codes "textDocument/definition")
    then method.OfDocument document.Definition
    else if bytes_eq name (codes "textDocument/hover") then method.OfDocument document.Hover
    else if bytes_eq name (codes "textDocument/references")
    then method.OfDocument document.References
    else if bytes_eq name (codes "textDocument/documentHighlight")
    then method.OfDocument document.Highlights
    else method.Other

-- `{"capabilities": {"general": {"positionEncodings": [ENCODING, ..]}}}`
abbrev pub offered_in : Option Data → Option Items
offered_in params =
    option_and_then as_array (option_and_then (get (codes "positionEncodings"))
    (option_and_then (get (codes "general")) (option_and_then (get (codes "capabilities")) params)))

abbrev pub says_utf_8 : Data → Bool
says_utf_8 d = option_map_or (λ name. bytes_eq name (codes "utf-8")) (as_str d) false

abbrev pub offers_utf_8 : Items → Bool
offers_utf_8 no_items = false
offers_utf_8 (item d ds) = says_utf_8 d || offers_utf_8 ds

-- UTF-8, where it is offered. Else UTF-16, the protocol's default.
abbrev pub encoding_in : Option Data → Encoding
encoding_in params = if option_map_or offers_utf_8 (offered_in params) false then Utf8 else Utf16

-- `{"position": PLACE, "context": {"includeDeclaration": BOOLEAN}}`
abbrev pub references_in : (params : Option Data) → Option Query
references_in params =
    option_and_then (λ place. option_map (References place) (includes_declaration_in params))
    (position_in params)

-- The question of a method, by its parameters.
abbrev pub query_by : DocumentMethod → (params : Option Data) → Option Query
query_by document.Symbols params = Some Symbols
query_by document.Definition params = option_map Definition (position_in params)
query_by document.Hover params = option_map Hover (position_in params)
query_by document.References params = references_in params
query_by document.Highlights params = option_map Highlights (position_in params)

-- What is asked of the document that the parameters name.
abbrev pub asked_of_document : DocumentMethod → (params : Option Data) → Option Asked
asked_of_document method params =
    option_and_then (λ uri. option_map (OfDocument uri) (query_by method params)) (uri_in params)

-- What is asked, if the parameters fit.
abbrev pub fitting : Option Asked → Asked
fitting None = InvalidParams
fitting (Some asked) = asked

abbrev pub asked_by : RequestMethod → (params : Option Data) → Asked
asked_by method.Initialize params = Initialize (encoding_in params)
asked_by method.Shutdown params = Shutdown
asked_by (method.OfDocument asked) params = fitting (asked_of_document asked params)
asked_by method.Other params = MethodNotFound

abbrev pub asked_in : (method : List ℕ) → (params : Option Data) → Asked
asked_in name params = asked_by (method_named name) params
