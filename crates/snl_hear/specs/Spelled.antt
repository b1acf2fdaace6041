-- How a client writes what it says, as JSON. The members of an object are in the order of their
-- names.
use Rattle.std.specs.Prelude.{ℕ, Bool, List, [], ◌∷◌, Option, codes}
use Rattle.serde_json.specs.Data.{Data, null, boolean, object, string, array, Items, no_items, item, no_members, member}
use Rattle.snl_place.specs.declared.places.Encoding.{Encoding}
use Rattle.snl_place.specs.declared.places.Encoding.TheVariants.{Utf8, Utf16}
use Rattle.snl_place.specs.declared.places.Place.{Place}
use Rattle.snl_say.specs.Places.{place_data, range_data}
use Rattle.snl_say.specs.Publish.{version_data}
use Rattle.snl_hear.specs.Changes.{Changed, Whole, Part}
use Rattle.snl_hear.specs.Notifications.{Noted, Initialized, Exit, DidOpen, DidChange, DidClose}
use Rattle.snl_hear.specs.Requests.{Asked, Initialize, Shutdown, OfDocument, Symbols, Definition, Hover, References, Highlights}

-- ---- parameters

abbrev pub encodings_data : Encoding → Items
encodings_data Utf8 = item (string (codes "utf-16")) (item (string (codes "utf-8")) no_items)
encodings_data Utf16 = item (string (codes "utf-16")) no_items

-- A client that offers UTF-8 offers UTF-16 too, since each has to know that.
abbrev pub capabilities_data : Encoding → Data
capabilities_data encoding =
    object (member (codes "capabilities")
    (object (member (codes "general")
    (object (member (codes "positionEncodings") (array (encodings_data encoding)) no_members))
    no_members)) no_members)

-- The document of this URI, which is all that its parameters say.
abbrev pub document_data : (uri : List ℕ) → Data
document_data uri =
    object (member (codes "textDocument") (object (member (codes "uri") (string uri) no_members))
    no_members)

abbrev pub located_data : (uri : List ℕ) → Place → Data
located_data uri place =
    object (member (codes "position") (place_data place)
    (member (codes "textDocument") (object (member (codes "uri") (string uri) no_members))
    no_members))

abbrev pub references_data : (uri : List ℕ) → Place → (includes_declaration : Bool) → Data
references_data uri place includes_declaration =
    object (member (codes "context")
    (object (member (codes "includeDeclaration") (boolean includes_declaration) no_members))
    (member (codes "position") (place_data place)
    (member (codes "textDocument") (object (member (codes "uri") (string uri) no_members))
    no_members)))

abbrev pub opened_data : (uri : List ℕ) → (version : Option ℕ) → (text : List ℕ) → Data
opened_data uri version text =
    object (member (codes "textDocument")
    (object (member (codes "text") (string text)
    (member (codes "uri") (string uri) (version_data version))))
    no_members)

abbrev pub change_data : Changed → Data
change_data (Whole text) = object (member (codes "text") (string text) no_members)
change_data (Part start stop text) =
    object (member (codes "range") (range_data start stop)
    (member (codes "text") (string text) no_members))

abbrev pub changes_data : List Changed → Items
changes_data [] = no_items
changes_data (change ∷ changes) = item (change_data change) (changes_data changes)

abbrev pub changed_data : (uri : List ℕ) → (version : Option ℕ) → List Changed → Data
changed_data uri version changes =
    object (member (codes "contentChanges") (array (changes_data changes))
    (member (codes "textDocument")
    (object (member (codes "uri") (string uri) (version_data version)))
    no_members))

-- ---- messages

abbrev pub request_data : (id : Data) → (method : List ℕ) → (params : Data) → Data
request_data id method params =
    object (member (codes "id") id
    (member (codes "jsonrpc") (string (codes "2.0"))
    (member (codes "method") (string method)
    (member (codes "params") params no_members))))

abbrev pub notification_data : (method : List ℕ) → (params : Data) → Data
notification_data method params =
    object (member (codes "jsonrpc") (string (codes "2.0"))
    (member (codes "method") (string method)
    (member (codes "params") params no_members)))

-- A message of this method has these parameters, and asks that.
pub data IsAsked : (method : List ℕ) → (params : Data) → Asked → Type 0 where
  initialize : (encoding : Encoding) →
      IsAsked (codes "initialize") (capabilities_data encoding) (Initialize encoding)
  shutdown : IsAsked (codes "shutdown") null Shutdown
  symbols : (uri : List ℕ) →
      IsAsked (codes "textDocument/documentSymbol") (document_data uri) (OfDocument uri Symbols)
  definition : (uri : List ℕ) (place : Place) →
      IsAsked (codes "textDocument/definition") (located_data uri place)
      (OfDocument uri (Definition place))
  hover : (uri : List ℕ) (place : Place) →
      IsAsked (codes "textDocument/hover") (located_data uri place) (OfDocument uri (Hover place))
  references : (uri : List ℕ) (place : Place) (includes_declaration : Bool) →
      IsAsked (codes "textDocument/references") (references_data uri place includes_declaration)
      (OfDocument uri (References place includes_declaration))
  highlights : (uri : List ℕ) (place : Place) →
      IsAsked (codes "textDocument/documentHighlight") (located_data uri place)
      (OfDocument uri (Highlights place))

pub data IsTold : (method : List ℕ) → (params : Data) → Noted → Type 0 where
  initialized : IsTold (codes "initialized") (object no_members) Initialized
  exit : IsTold (codes "exit") null Exit
  opened : (uri : List ℕ) (version : Option ℕ) (text : List ℕ) →
      IsTold (codes "textDocument/didOpen") (opened_data uri version text)
      (DidOpen uri version text)
  changed : (uri : List ℕ) (version : Option ℕ) (changes : List Changed) →
      IsTold (codes "textDocument/didChange") (changed_data uri version changes)
      (DidChange uri version changes)
  closed : (uri : List ℕ) →
      IsTold (codes "textDocument/didClose") (document_data uri) (DidClose uri)
