-- What is published and what is shown are values that a text can have, so that they read back.
use Rattle.std.proofs.Common.{◌≡◌, ℕ, ◌<◌, ◌≤◌, List, [], ◌∷◌, Option, Some, None, codes, IsUtf8, refl, arith}
use Rattle.serde_json.specs.Data.{string, member, depth, items_depth}
use Rattle.serde_json.specs.Read.{max_depth}
use Rattle.serde_json.specs.Written.{compact_text}
use Rattle.snl_say.specs.Notices.{message_data}
use Rattle.snl_say.specs.Publish.{Found, item_data, items_data, params_data, publish_data, severity_number, version_data}
use Rattle.snl_say.specs.declared.severity.Severity.{Severity}
use Rattle.snl_say.specs.declared.severity.Severity.TheVariants.{Error, Warning}
use Rattle.snl_hear.specs.Json.{json_in}
use Rattle.snl_hear.specs.Sound.{AreSound, AreSoundFound, AreSoundMembers, IsBefore, IsSound, IsSoundFound, IsSoundVersion}
use Rattle.snl_hear.proofs.ReadBack.{reads_back}
use Rattle.snl_hear.proofs.SoundPlaces.{ascii, range_sound}

severity_sound : (severity : Severity) → severity_number severity < 18446744073709551616
severity_sound Error = omega arith
severity_sound Warning = omega arith

item_sound : (f : Found) → IsSoundFound f → IsSound (item_data f)
item_sound f h = (
  ascii (codes "code") refl,
  h.2,
  (refl, (refl, (refl, (refl, tt)))),
  (
    ascii (codes "message") refl,
    h.3,
    (refl, (refl, (refl, tt))),
    (
      ascii (codes "range") refl,
      range_sound f.start f.stop h.0 h.1,
      (refl, (refl, tt)),
      (
        ascii (codes "severity") refl,
        severity_sound f.severity,
        (refl, tt),
        (ascii (codes "source") refl, ascii (codes "snl") refl, tt, tt),
      ),
    ),
  ),
)

items_sound : (fs : List Found) → AreSoundFound fs → AreSound (items_data fs)
items_sound [] h = tt
items_sound (f ∷ fs) h = (item_sound f h.0, items_sound fs h.1)

items_shallow : (fs : List Found) → items_depth (items_data fs) ≤ 3
items_shallow [] = omega arith
items_shallow (f ∷ fs) = omega (arith, items_shallow fs)

version_sound : (version : Option ℕ) → IsSoundVersion version →
    AreSoundMembers (version_data version)
version_sound None h = tt
version_sound (Some n) h = (ascii (codes "version") refl, h, tt, tt)

version_after : (version : Option ℕ) → IsBefore (codes "uri") (version_data version)
version_after None = tt
version_after (Some n) = (refl, tt)

diagnostics_before : (uri : List ℕ) (version : Option ℕ) →
    IsBefore (codes "diagnostics") (member (codes "uri") (string uri) (version_data version))
diagnostics_before uri None = (refl, tt)
diagnostics_before uri (Some n) = (refl, (refl, tt))

params_sound : (fs : List Found) (uri : List ℕ) (version : Option ℕ) →
    AreSoundFound fs → IsUtf8 uri → IsSoundVersion version → IsSound (params_data fs uri version)
params_sound fs uri version h u v = (
  ascii (codes "diagnostics") refl,
  items_sound fs h,
  diagnostics_before uri version,
  (ascii (codes "uri") refl, u, version_after version, version_sound version v),
)

publish_sound : (fs : List Found) (uri : List ℕ) (version : Option ℕ) →
    AreSoundFound fs → IsUtf8 uri → IsSoundVersion version → IsSound (publish_data fs uri version)
publish_sound fs uri version h u v = (
  ascii (codes "jsonrpc") refl,
  ascii (codes "2.0") refl,
  (refl, (refl, tt)),
  (
    ascii (codes "method") refl,
    ascii (codes "textDocument/publishDiagnostics") refl,
    (refl, tt),
    (ascii (codes "params") refl, params_sound fs uri version h u v, tt, tt),
  ),
)

publish_shallow : (fs : List Found) (uri : List ℕ) (version : Option ℕ) →
    depth (publish_data fs uri version) ≤ max_depth
publish_shallow fs uri None = omega (arith, items_shallow fs)
publish_shallow fs uri (Some n) = omega (arith, items_shallow fs)

pub publish : (fs : List Found) (uri : List ℕ) (version : Option ℕ) →
    AreSoundFound fs → IsUtf8 uri → IsSoundVersion version →
    json_in (compact_text (publish_data fs uri version)) ≡ Some (publish_data fs uri version)
publish fs uri version h u v =
    reads_back (publish_data fs uri version) (publish_sound fs uri version h u v)
    (publish_shallow fs uri version)

message_sound : (severity : Severity) (message : List ℕ) → IsUtf8 message →
    IsSound (message_data severity message)
message_sound severity message h = (
  ascii (codes "jsonrpc") refl,
  ascii (codes "2.0") refl,
  (refl, (refl, tt)),
  (
    ascii (codes "method") refl,
    ascii (codes "window/showMessage") refl,
    (refl, tt),
    (
      ascii (codes "params") refl,
      (
        ascii (codes "message") refl,
        h,
        (refl, tt),
        (ascii (codes "type") refl, severity_sound severity, tt, tt),
      ),
      tt,
      tt,
    ),
  ),
)

pub message : (severity : Severity) (text : List ℕ) → IsUtf8 text →
    json_in (compact_text (message_data severity text)) ≡ Some (message_data severity text)
message severity text h =
    reads_back (message_data severity text) (message_sound severity text h) (omega arith)
