-- What is heard in a body is text.
use Rattle.std.proofs.Common.{◌≡◌, ℕ, ◌^◌, ◌<◌, Bool, true, false, List, ◌∷◌, Option, None, Some, IsUtf8, codes, refl, subst, Ordering, Less, Equal, Greater}
use Rattle.std.specs.Prelude.{IfSome, if◌then◌else◌}
use Rattle.std.specs.List.{AllByRecursion as Each}
use Rattle.std.specs.Option.{option_and_then, option_map}
use Rattle.std.specs.Ordering.{match_ordering, nat_cmp}
use Rattle.std.specs.Cmp.Lexicographic.{slice_cmp}
use Rattle.std.specs.Str.{bytes_eq, is_utf8}
use Rattle.std.proofs.lemmas.List.Elements.{All-from_recursion}
use Rattle.std.proofs.lemmas.Str.{IsUtf8-from_is_utf8}
use Rattle.serde_json.specs.Data.{Num, unsigned, negative, float, Data, null, boolean, number, string, array, object, Items, no_items, item, Members, no_members, member}
use Rattle.serde_json.specs.Find.{as_array, as_number, as_str, as_u64, get, get_member}
use Rattle.serde_json.specs.Read.{read}
use Rattle.snl_place.specs.declared.places.Place.{Place}
use Rattle.snl_hear.specs.Changes.{Changed, Part, all_changes_in, change_by, change_in, changes_in, range_in}
use Rattle.snl_hear.specs.Documents.{document_in, number_at, string_at, text_in, uri_in, version_in}
use Rattle.snl_hear.specs.Heard.{NoMessage, Response, by_method, heard_in, is_response, request_by, with_method}
use Rattle.snl_hear.specs.Ids.{id_in, is_id, is_whole}
use Rattle.snl_hear.specs.Json.{json_in}
use Rattle.snl_hear.specs.Notifications.{changed_by, closed_by, noted_in, opened_by}
use Rattle.snl_hear.specs.RequestLaws.{document_named}
use Rattle.snl_hear.specs.Requests.{Asked, Initialize, Shutdown, OfDocument, InvalidParams, MethodNotFound, asked_in}
use Rattle.snl_hear.specs.Sound.{IsSound}
use Rattle.snl_turns.specs.Turns.{Turn, HeaderAlone, Body, heard_at}
use Rattle.snl_server_laws.specs.Read.{AreRead, AreReadMembers, IsRead, IsReadNumber}
use Rattle.snl_server_laws.specs.Texts.{IsTextAsked, IsTextChange, IsTextHeard, IsTextNoted}
use Rattle.snl_server_laws.proofs.Parsed.{IfSomeHas, bytes_read, has_map, has_then}

-- ---- members of values

member_read : (k : List ℕ) (ms : Members) → AreReadMembers ms →
    IfSomeHas IsRead (get_member k ms)
member_read k no_members h = tt
member_read k (member l e ms) h = by (slice_cmp nat_cmp k l) (member_read k ms h.1)
  where
    by : (o : Ordering) → IfSomeHas IsRead (get_member k ms) →
        IfSomeHas IsRead (match_ordering o (get_member k ms) (Some e) (get_member k ms))
    by Less rest = rest
    by Equal rest = h.0
    by Greater rest = rest

got_read : (k : List ℕ) (d : Data) → IsRead d → IfSomeHas IsRead (get k d)
got_read k null h = tt
got_read k (boolean b) h = tt
got_read k (number n) h = tt
got_read k (string s) h = tt
got_read k (array ds) h = tt
got_read k (object ms) h = member_read k ms h

got_in : (k : List ℕ) (d : Option Data) → IfSomeHas IsRead d →
    IfSomeHas IsRead (option_and_then (get k) d)
got_in k d h = has_then IsRead IsRead (get k) (got_read k) d h

str_read : (d : Data) → IsRead d → IfSomeHas IsUtf8 (as_str d)
str_read null h = tt
str_read (boolean b) h = tt
str_read (number n) h = tt
str_read (string s) h = h
str_read (array ds) h = tt
str_read (object ms) h = tt

array_read : (d : Data) → IsRead d → IfSomeHas AreRead (as_array d)
array_read null h = tt
array_read (boolean b) h = tt
array_read (number n) h = tt
array_read (string s) h = tt
array_read (array ds) h = h
array_read (object ms) h = tt

number_read : (d : Data) → IsRead d → IfSomeHas IsReadNumber (as_number d)
number_read null h = tt
number_read (boolean b) h = tt
number_read (number n) h = h
number_read (string s) h = tt
number_read (array ds) h = tt
number_read (object ms) h = tt

abbrev IsSmall : ℕ → Type 0
IsSmall n = n < 2 ^ 64

whole_read : (n : Num) → IsReadNumber n → IfSomeHas IsSmall (as_u64 n)
whole_read (unsigned n) h = h
whole_read (negative z) h = tt
whole_read (float x) h = tt

string_read : (k : List ℕ) (d : Data) → IsRead d → IfSomeHas IsUtf8 (string_at k d)
string_read k d h = has_then IsRead IsUtf8 as_str str_read (get k d) (got_read k d h)

small_read : (k : List ℕ) (d : Data) → IsRead d → IfSomeHas IsSmall (number_at k d)
small_read k d h =
    has_then IsReadNumber IsSmall as_u64 whole_read (option_and_then as_number (get k d))
    (has_then IsRead IsReadNumber as_number number_read (get k d) (got_read k d h))

module _ (params : Option Data) (h : IfSomeHas IsRead params) where
  document_read : IfSomeHas IsRead (document_in params)
  document_read = got_in (codes "textDocument") params h

  uri_read : IfSomeHas IsUtf8 (uri_in params)
  uri_read =
      has_then IsRead IsUtf8 (string_at (codes "uri")) (string_read (codes "uri"))
      (document_in params) document_read

  version_read : IfSomeHas IsSmall (version_in params)
  version_read =
      has_then IsRead IsSmall (number_at (codes "version")) (small_read (codes "version"))
      (document_in params) document_read

  text_read : IfSomeHas IsUtf8 (text_in params)
  text_read =
      has_then IsRead IsUtf8 (string_at (codes "text")) (string_read (codes "text"))
      (document_in params) document_read

  -- ---- changes

  change_read : (text : List ℕ) → IsUtf8 text → (range : Option Data) →
      IfSomeHas IsTextChange (change_by text range)
  change_read text utf8 None = utf8
  change_read text utf8 (Some range) = by (range_in range)
    where
      by : (o : Option (Place × Place)) →
          IfSomeHas IsTextChange (option_map (λ r. Part r.0 r.1 text) o)
      by None = tt
      by (Some r) = utf8

  one_read : (d : Data) → IsRead d → IfSomeHas IsTextChange (change_in d)
  one_read d k =
      has_then IsUtf8 IsTextChange _ (λ text utf8. change_read text utf8 (get (codes "range") d))
      (string_at (codes "text") d) (string_read (codes "text") d k)

  all_read : (ds : Items) → AreRead ds → IfSomeHas (Each IsTextChange) (changes_in ds)
  all_read no_items k = tt
  all_read (item d ds) k =
      has_then IsTextChange (Each IsTextChange) _
      (λ c utf8. has_map (Each IsTextChange) (Each IsTextChange) (λ cs. c ∷ cs)
      (λ cs rest. (utf8, rest)) (changes_in ds) (all_read ds k.1)) (change_in d) (one_read d k.0)

  changes_read : IfSomeHas (Each IsTextChange) (all_changes_in params)
  changes_read =
      has_then AreRead (Each IsTextChange) changes_in all_read
      (option_and_then as_array (option_and_then (get (codes "contentChanges")) params))
      (has_then IsRead AreRead as_array array_read
      (option_and_then (get (codes "contentChanges")) params)
      (got_in (codes "contentChanges") params h))

  -- ---- notifications

  if_some : {A : Type 0} (P : A → Type 0) (o : Option A) → IfSomeHas P o → IfSome o P
  if_some P None k = tt
  if_some P (Some a) k = k

  opened_text : (uri : Option (List ℕ)) (version : Option ℕ) (text : Option (List ℕ)) →
      IfSomeHas IsUtf8 uri → IfSomeHas IsSmall version → IfSomeHas IsUtf8 text →
      IsTextNoted (opened_by uri version text)
  opened_text None version text u v t = tt
  opened_text (Some uri) version None u v t = u
  opened_text (Some uri) version (Some text) u v t = (u, if_some IsSmall version v, t)

  changed_text : (uri : Option (List ℕ)) (version : Option ℕ) (changes : Option (List Changed)) →
      IfSomeHas IsUtf8 uri → IfSomeHas IsSmall version →
      IfSomeHas (Each IsTextChange) changes → IsTextNoted (changed_by uri version changes)
  changed_text None version changes u v c = tt
  changed_text (Some uri) version None u v c = u
  changed_text (Some uri) version (Some changes) u v c =
      (u, if_some IsSmall version v, All-from_recursion IsTextChange changes c)

  closed_text : (uri : Option (List ℕ)) → IfSomeHas IsUtf8 uri → IsTextNoted (closed_by uri)
  closed_text None u = tt
  closed_text (Some uri) u = u

  noted_text : (name : List ℕ) → IsTextNoted (noted_in name params)
  noted_text name =
      by (bytes_eq name (codes "initialized")) refl (bytes_eq name (codes "exit")) refl
      (bytes_eq name (codes "textDocument/didOpen")) refl
      (bytes_eq name (codes "textDocument/didChange")) refl
      (bytes_eq name (codes "textDocument/didClose")) refl
    where
      by : (a : Bool) → bytes_eq name (codes "initialized") ≡ a →
          (b : Bool) → bytes_eq name (codes "exit") ≡ b →
          (c : Bool) → bytes_eq name (codes "textDocument/didOpen") ≡ c →
          (d : Bool) → bytes_eq name (codes "textDocument/didChange") ≡ d →
          (e : Bool) → bytes_eq name (codes "textDocument/didClose") ≡ e →
          IsTextNoted (noted_in name params)
      by true is b eb c ec d ed e ee = rw is tt
      by false ea true is c ec d ed e ee = rw (ea, is) tt
      by false ea false eb true is d ed e ee =
          rw (ea, eb, is)
          (opened_text (uri_in params) (version_in params) (text_in params) uri_read version_read
          text_read)
      by false ea false eb false ec true is e ee =
          rw (ea, eb, ec, is)
          (changed_text (uri_in params) (version_in params) (all_changes_in params) uri_read
          version_read changes_read)
      by false ea false eb false ec false ed true is =
          rw (ea, eb, ec, ed, is) (closed_text (uri_in params) uri_read)
      by false ea false eb false ec false ed false ee = rw (ea, eb, ec, ed, ee) tt

  -- ---- requests

  asked_text : (name : List ℕ) → IsTextAsked (asked_in name params)
  asked_text name = by (asked_in name params) refl
    where
      by : (asked : Asked) → asked_in name params ≡ asked → IsTextAsked asked
      by (Initialize encoding) is = tt
      by Shutdown is = tt
      by (OfDocument uri query) is =
          subst (IfSomeHas IsUtf8) (document_named name params uri query is) uri_read
      by InvalidParams is = tt
      by MethodNotFound is = tt

-- ---- messages

sound_number : (n : Num) → is_whole n ≡ true → IsReadNumber n → IsSound (number n)
sound_number (unsigned n) is h = h
sound_number (negative z) is h = h
sound_number (float x) is h = absurd cc

sound_id : (d : Data) → is_id d ≡ true → IsRead d → IsSound d
sound_id null is h = absurd cc
sound_id (boolean b) is h = absurd cc
sound_id (number n) is h = sound_number n is h
sound_id (string s) is h = h
sound_id (array ds) is h = absurd cc
sound_id (object ms) is h = absurd cc

request_text : (id : Data) (asked : Asked) → IsRead id → IsTextAsked asked →
    IsTextHeard (request_by (id_in id) asked)
request_text id asked h k = by (is_id id) refl
  where
    by : (b : Bool) → is_id id ≡ b →
        IsTextHeard (request_by (if b then Some id else None) asked)
    by true is = ((is, sound_id id is h), k)
    by false is = tt

method_text : (id : Option Data) (m : List ℕ) (params : Option Data) → IfSomeHas IsRead id →
    IfSomeHas IsRead params → IsTextHeard (with_method id m params)
method_text None m params h k = noted_text params k m
method_text (Some id) m params h k =
    request_text id (asked_in m params) h (asked_text params k m)

by_text : (m : Option (List ℕ)) (d : Data) → IsRead d → IsTextHeard (by_method m d)
by_text None d h = by (is_response d)
  where
    by : (b : Bool) → IsTextHeard (if b then Response else NoMessage)
    by true = tt
    by false = tt
by_text (Some m) d h =
    method_text (get (codes "id") d) m (get (codes "params") d) (got_read (codes "id") d h)
    (got_read (codes "params") d h)

in_text : (o : Option Data) → IfSomeHas IsRead o → IsTextHeard (heard_in o)
in_text None h = tt
in_text (Some d) h = by_text (string_at (codes "method") d) d h

body_read : (bytes : List ℕ) → IfSomeHas IsRead (json_in bytes)
body_read bytes = by (is_utf8 bytes) refl
  where
    by : (b : Bool) → is_utf8 bytes ≡ b → IfSomeHas IsRead (if b then read bytes else None)
    by true e = bytes_read bytes (IsUtf8-from_is_utf8 bytes e)
    by false e = tt

pub heard_text : (turn : Turn) → IsTextHeard (heard_at turn)
heard_text HeaderAlone = tt
heard_text (Body bytes) = in_text (json_in bytes) (body_read bytes)
