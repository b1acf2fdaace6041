-- What a client writes is heard.
use Rattle.std.proofs.Common.{◌≡◌, ℕ, List, [], ◌∷◌, Some, None, true, cond, option_map, option_and_then, refl, ap, ◌∙◌}
use Rattle.serde_json.specs.Data.{Data}
use Rattle.snl_place.specs.declared.places.Encoding.TheVariants.{Utf8, Utf16}
use Rattle.snl_hear.specs.Changes.{Changed, Whole, Part, change_in, changes_in}
use Rattle.snl_hear.specs.Heard.{Request, Notification, heard_in, request_by}
use Rattle.snl_hear.specs.Ids.{is_id}
use Rattle.snl_hear.specs.Notifications.{Noted, changed_by}
use Rattle.snl_hear.specs.Requests.{Asked}
use Rattle.snl_hear.specs.Spelled.{IsAsked, initialize, shutdown, symbols, definition, hover, references, highlights, IsTold, initialized, exit, opened, changed, closed, change_data, changes_data, request_data, notification_data}

-- by whether the value is an id
with_id : (id : Data) (asked : Asked) → is_id id ≡ true →
    request_by (cond (is_id id) (Some id) None) asked ≡ Request id asked
with_id id asked is = ap (λ b. request_by (cond b (Some id) None) asked) is

pub request_heard : (id : Data) (method : List ℕ) (params : Data) (asked : Asked) →
    is_id id ≡ true → IsAsked method params asked →
    heard_in (Some (request_data id method params)) ≡ Request id asked
request_heard id method params asked is (initialize Utf8) = with_id id asked is
request_heard id method params asked is (initialize Utf16) = with_id id asked is
request_heard id method params asked is shutdown = with_id id asked is
request_heard id method params asked is (symbols uri) = with_id id asked is
request_heard id method params asked is (definition uri place) = with_id id asked is
request_heard id method params asked is (hover uri place) = with_id id asked is
request_heard id method params asked is (references uri place includes_declaration) =
    with_id id asked is
request_heard id method params asked is (highlights uri place) = with_id id asked is

change_heard : (c : Changed) → change_in (change_data c) ≡ Some c
change_heard (Whole text) = refl
change_heard (Part start stop text) = refl

changes_heard : (cs : List Changed) → changes_in (changes_data cs) ≡ Some cs
changes_heard [] = refl
changes_heard (c ∷ cs) =
    ap (λ o. option_and_then (λ x. option_map (λ xs. x ∷ xs) (changes_in (changes_data cs))) o)
    (change_heard c)
    ∙ ap (λ o. option_map (λ xs. c ∷ xs) o) (changes_heard cs)

pub notification_heard : (method : List ℕ) (params : Data) (noted : Noted) →
    IsTold method params noted →
    heard_in (Some (notification_data method params)) ≡ Notification noted
notification_heard method params noted initialized = refl
notification_heard method params noted exit = refl
notification_heard method params noted (opened uri None text) = refl
notification_heard method params noted (opened uri (Some version) text) = refl
notification_heard method params noted (changed uri None changes) =
    ap (λ o. Notification (changed_by (Some uri) None o)) (changes_heard changes)
notification_heard method params noted (changed uri (Some version) changes) =
    ap (λ o. Notification (changed_by (Some uri) (Some version) o)) (changes_heard changes)
notification_heard method params noted (closed uri) = refl
