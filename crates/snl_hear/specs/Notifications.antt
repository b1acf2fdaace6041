-- What a notification tells, by its method and its parameters.
use Rattle.std.specs.Prelude.{ℕ, List, map, Option, Some, None, codes, if◌then◌else◌, option_map}
use Rattle.std.specs.Str.{bytes_eq}
use Rattle.serde_json.specs.Data.{Data}
use Rattle.snl_hear.specs.declared.notifications.Notification.{Notification}
use Rattle.snl_hear.specs.declared.notifications.Notification.TheVariants as notification
use Rattle.snl_hear.specs.declared.notifications.NotificationMethod.{NotificationMethod}
use Rattle.snl_hear.specs.declared.notifications.NotificationMethod.TheVariants as method
use Rattle.snl_hear.specs.Changes.{Changed, all_changes_in, changed_of}
use Rattle.snl_hear.specs.Documents.{text_in, uri_in, version_in}

-- What a notification tells, with the bytes of its strings.
pub data Noted : Type 0 where
  Initialized : Noted
  Exit : Noted
  DidOpen : (uri : List ℕ) → (version : Option ℕ) → (text : List ℕ) → Noted
  DidChange : (uri : List ℕ) → (version : Option ℕ) → (changes : List Changed) → Noted
  DidClose : (uri : List ℕ) → Noted
  InvalidParams : (uri : Option (List ℕ)) → Noted
  Other : Noted

abbrev pub noted_of : Notification → Noted
noted_of notification.Initialized = Initialized
noted_of notification.Exit = Exit
noted_of (notification.DidOpen uri version text) = DidOpen uri.now version text.now
noted_of (notification.DidChange uri version changes) =
    DidChange uri.now version (map changed_of changes.items)
noted_of (notification.DidClose uri) = DidClose uri.now
noted_of (notification.InvalidParams uri) = InvalidParams (option_map (λ u. u.now) uri)
noted_of notification.Other = Other

abbrev pub notification_named : List ℕ → NotificationMethod
notification_named name =
    if bytes_eq name (codes "initialized") then method.Initialized
    else if bytes_eq name (codes "exit") then method.Exit
    else if bytes_eq name (codes "textDocument/didOpen") then method.DidOpen
    else if bytes_eq name (codes "textDocument/didChange") then method.DidChange
    else if bytes_eq name (codes "textDocument/didClose") then method.DidClose
    else method.Other

-- Where the text is not told, it isn't known any more; where no URI is, neither is whose.
abbrev pub opened_by : (uri : Option (List ℕ)) → (version : Option ℕ) →
    (text : Option (List ℕ)) → Noted
opened_by None version text = InvalidParams None
opened_by (Some uri) version None = InvalidParams (Some uri)
opened_by (Some uri) version (Some text) = DidOpen uri version text

abbrev pub changed_by : (uri : Option (List ℕ)) → (version : Option ℕ) →
    (changes : Option (List Changed)) → Noted
changed_by None version changes = InvalidParams None
changed_by (Some uri) version None = InvalidParams (Some uri)
changed_by (Some uri) version (Some changes) = DidChange uri version changes

abbrev pub closed_by : (uri : Option (List ℕ)) → Noted
closed_by None = Other
closed_by (Some uri) = DidClose uri

abbrev pub noted_by : NotificationMethod → (params : Option Data) → Noted
noted_by method.Initialized params = Initialized
noted_by method.Exit params = Exit
noted_by method.DidOpen params = opened_by (uri_in params) (version_in params) (text_in params)
noted_by method.DidChange params =
    changed_by (uri_in params) (version_in params) (all_changes_in params)
noted_by method.DidClose params = closed_by (uri_in params)
noted_by method.Other params = Other

abbrev pub noted_in : (method : List ℕ) → (params : Option Data) → Noted
noted_in name params = noted_by (notification_named name) params
