-- What is asked of a document is answered by the text that is kept for its URI.
use Rattle.std.proofs.Common.{◌≡◌, ℕ, List, [], ◌∷◌, Option, None, Some, refl, sym, ap, ◌∙◌}
use Rattle.std.specs.Option.{option_and_then, option_map, option_map_or}
use Rattle.serde_json.specs.Data.{Data}
use Rattle.snl_place.specs.declared.places.Encoding.{Encoding}
use Rattle.snl_say.specs.Answered.{Nothing}
use Rattle.snl_hear.specs.Heard.{Request}
use Rattle.snl_hear.specs.Requests.{Asked, Initialize, Shutdown, OfDocument, MethodNotFound, Query}
use Rattle.snl_hear.specs.Requests as asked
use Rattle.snl_docs.specs.declared.phase.Phase.{Phase}
use Rattle.snl_docs.specs.declared.phase.Phase.TheVariants.{New, Ready, Shut, Gone}
use Rattle.snl_docs.specs.Asked.{answer_on}
use Rattle.snl_document.specs.Says.{Says}
use Rattle.snl_document.specs.Documents.{Doc, document_of}
use Rattle.snl_docs.specs.Known.{IsAskedOf, checked_text, kept_for}
use Rattle.snl_replies.specs.Replies.{Reply, Answer}
use Rattle.snl_docs.specs.Served.{Served, answer_in_phase, replied, replies_to}
use Rattle.snl_document.specs.Texts.{checked}
use Rattle.snl_turns.specs.Turns.{Turn, heard_at}
use Rattle.snl_docs.proofs.Asked.{answer_kept, on_by_kept}

-- ---- a text that is checked

kept_checked : (says : Says) (encoding : Encoding) (docs : List Doc) (id : Data) (uri : List ℕ)
    (query : Query) (text : List ℕ) → checked_text uri docs ≡ Some text →
    answer_on says encoding docs id uri query
    ≡ Answer id uri (says.answer_in encoding text query)
kept_checked says encoding docs id uri query text known =
    on_by_kept says encoding docs id uri query ∙ by (document_of uri docs) known
  where
    by : (o : Option Doc) → checked (option_and_then (λ (d : Doc). d.text) o) ≡ Some text →
        answer_kept says encoding id uri query (option_map (λ (d : Doc). d.text) o)
        ≡ Answer id uri (says.answer_in encoding text query)
    by None h = cc
    by (Some d) h = ap (λ (o : Option (List ℕ)).
        Answer id uri (option_map_or (λ t. says.answer_in encoding t query) o Nothing)) h

-- What is answered when `initialize` came, and `shutdown` not yet.
answered_ready : (says : Says) (s : Served) (turn : Turn) (id : Data) (asked : Asked)
    (reply : Reply) →
    s.phase ≡ Ready → heard_at turn ≡ Request id asked →
    answer_in_phase says Ready s.encoding s.docs id asked ≡ reply → replied says s turn ≡ reply ∷ []
answered_ready says s turn id asked reply ready heard is =
    ap (replies_to says s) heard
    ∙ ap (λ (phase : Phase). answer_in_phase says phase s.encoding s.docs id asked ∷ []) ready
    ∙ ap (λ (r : Reply). r ∷ []) is

pub question_by_text : (says : Says) (s : Served) (turn : Turn) (id : Data) (uri text : List ℕ)
    (query : Query) →
    s.phase ≡ Ready → heard_at turn ≡ Request id (OfDocument uri query) →
    checked_text uri s.docs ≡ Some text →
    replied says s turn ≡ Answer id uri (says.answer_in s.encoding text query) ∷ []
question_by_text says s turn id uri text query ready heard known =
    answered_ready says s turn id (OfDocument uri query) _ ready heard
    (kept_checked says s.encoding s.docs id uri query text known)

-- ---- nothing else is looked at

same_on : (says : Says) (encoding : Encoding) (docs others : List Doc) (id : Data)
    (asked_uri uri : List ℕ) (query : Query) → asked_uri ≡ uri →
    kept_for uri docs ≡ kept_for uri others →
    answer_on says encoding docs id asked_uri query
    ≡ answer_on says encoding others id asked_uri query
same_on says encoding docs others id asked_uri uri query is same =
    on_by_kept says encoding docs id asked_uri query
    ∙ ap (answer_kept says encoding id asked_uri query)
    (ap (λ (u : List ℕ). kept_for u docs) is ∙ same
    ∙ sym (ap (λ (u : List ℕ). kept_for u others) is))
    ∙ sym (on_by_kept says encoding others id asked_uri query)

same_in : (says : Says) (phase : Phase) (encoding : Encoding) (docs others : List Doc) (id : Data)
    (asked : Asked) (uri : List ℕ) → IsAskedOf uri asked →
    kept_for uri docs ≡ kept_for uri others →
    answer_in_phase says phase encoding docs id asked ≡ answer_in_phase says phase encoding others id asked
same_in says New encoding docs others id asked uri of same = refl
same_in says Ready encoding docs others id (Initialize other) uri of same = refl
same_in says Ready encoding docs others id Shutdown uri of same = refl
same_in says Ready encoding docs others id (OfDocument u query) uri of same =
    same_on says encoding docs others id u uri query of same
same_in says Ready encoding docs others id asked.InvalidParams uri of same = refl
same_in says Ready encoding docs others id MethodNotFound uri of same = refl
same_in says Shut encoding docs others id asked uri of same = refl
same_in says (Gone clean) encoding docs others id asked uri of same = refl

pub answered_alone : (says : Says) (s other : Served) (turn : Turn) (id : Data) (asked : Asked)
    (uri : List ℕ) → heard_at turn ≡ Request id asked → IsAskedOf uri asked →
    s.phase ≡ other.phase → s.encoding ≡ other.encoding →
    kept_for uri s.docs ≡ kept_for uri other.docs → replied says s turn ≡ replied says other turn
answered_alone says s other turn id asked uri heard of phases encodings same =
    ap (replies_to says s) heard
    ∙ ap (λ (phase : Phase). answer_in_phase says phase s.encoding s.docs id asked ∷ []) phases
    ∙ ap (λ (encoding : Encoding). answer_in_phase says other.phase encoding s.docs id asked ∷ [])
    encodings
    ∙ ap (λ (r : Reply). r ∷ [])
    (same_in says other.phase other.encoding s.docs other.docs id asked uri of same)
    ∙ sym (ap (replies_to says other) heard)
