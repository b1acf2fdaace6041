-- The ids of replies.
use Rattle.std.proofs.Common.{◌≡◌, ℕ, List, [], ◌∷◌, ◌++◌, Option, None, Some, Bool, true, false, refl, sym, subst, ap, ◌∙◌, All, cond}
use Rattle.std.specs.List.{cons_option}
use Rattle.std.specs.Option.{option_map_or, option_to_list}
use Rattle.std.proofs.lemmas.List.Elements.{All-append, All-cons, All-head, All-nil, All-tail, filter_map-append}
use Rattle.serde_json.specs.Data.{Data, null}
use Rattle.snl_place.specs.declared.places.Encoding.{Encoding}
use Rattle.snl_say.specs.Answered.{Answered, Nothing, Location, Hover, Symbols, Locations, Ranges}
use Rattle.snl_say.specs.declared.answers.ErrorCode.TheVariants as error
use Rattle.snl_hear.specs.Heard.{Heard, NoJson, NoMessage, Response, Request, Notification}
use Rattle.snl_hear.specs.Notifications.{Noted, Initialized, Exit, DidOpen, DidChange, DidClose, InvalidParams, Other}
use Rattle.snl_hear.specs.Requests.{Asked, Initialize, Shutdown, OfDocument, MethodNotFound, Query}
use Rattle.snl_hear.specs.Requests as asked
use Rattle.snl_docs.specs.declared.phase.Phase.{Phase}
use Rattle.snl_docs.specs.declared.phase.Phase.TheVariants.{New, Ready, Shut, Gone}
use Rattle.snl_docs.specs.Asked.{answer_by, answer_of, answer_on}
use Rattle.snl_docs.specs.Served.{Served, after, answer_first, answer_in_phase, answer_ready, is_ready, replied, replies_to, told_by, told_note, told_of_lost}
use Rattle.snl_document.specs.declared.standing.Standing.{Standing}
use Rattle.snl_document.specs.declared.standing.Standing.TheVariants.{Checked, Large, Lost}
use Rattle.snl_document.specs.Documents.{Doc, after_changes, document_of, lost, opened}
use Rattle.snl_document.specs.Says.{Says}
use Rattle.snl_document.specs.Texts.{standing}
use Rattle.snl_document.specs.Told.{notices, stays, told, told_after, told_of, told_of_all, told_of_named}
use Rattle.snl_replies.specs.Replies.{Reply, Answer, AnswerError}
use Rattle.snl_turns.specs.Turns.{Turn, heard_at}
use Rattle.snl_server_laws.specs.Answered.{answered_ids, asked_id, asked_ids, id_of, replied_to_all}

-- ---- the answer to a request

answered_id : (id : Data) (uri : List ℕ) (answered : Answered) →
    id_of (Answer id uri answered) ≡ Some id
answered_id id uri Nothing = refl
answered_id id uri (Location start stop) = refl
answered_id id uri (Hover contents start stop) = refl
answered_id id uri (Symbols symbols) = refl
answered_id id uri (Locations parts) = refl
answered_id id uri (Ranges parts) = refl

of_id : (says : Says) (encoding : Encoding) (id : Data) (query : Query) (doc : Doc) →
    id_of (answer_of says encoding id query doc) ≡ Some id
unfolding answer_of
of_id says encoding id query doc =
    answered_id id doc.uri (answer_by says encoding query doc.text)

on_id : (says : Says) (encoding : Encoding) (docs : List Doc) (id : Data) (uri : List ℕ)
    (query : Query) → id_of (answer_on says encoding docs id uri query) ≡ Some id
unfolding answer_on
on_id says encoding docs id uri query = by (document_of uri docs)
  where
    by : (doc : Option Doc) →
        id_of (option_map_or (answer_of says encoding id query) doc
        (AnswerError id error.InvalidParams))
        ≡ Some id
    by None = refl
    by (Some doc) = of_id says encoding id query doc

first_id : (id : Data) (asked : Asked) → id_of (answer_first id asked) ≡ Some id
first_id id (Initialize encoding) = refl
first_id id Shutdown = refl
first_id id (OfDocument uri query) = refl
first_id id asked.InvalidParams = refl
first_id id MethodNotFound = refl

ready_id : (says : Says) (encoding : Encoding) (docs : List Doc) (id : Data) (asked : Asked) →
    id_of (answer_ready says encoding docs id asked) ≡ Some id
ready_id says encoding docs id (Initialize other) = refl
ready_id says encoding docs id Shutdown = refl
ready_id says encoding docs id (OfDocument uri query) = on_id says encoding docs id uri query
ready_id says encoding docs id asked.InvalidParams = refl
ready_id says encoding docs id MethodNotFound = refl

pub answer_id : (says : Says) (phase : Phase) (encoding : Encoding) (docs : List Doc) (id : Data)
    (asked : Asked) → id_of (answer_in_phase says phase encoding docs id asked) ≡ Some id
answer_id says New encoding docs id asked = first_id id asked
answer_id says Ready encoding docs id asked = ready_id says encoding docs id asked
answer_id says Shut encoding docs id asked = refl
answer_id says (Gone clean) encoding docs id asked = refl

pub answered_once : (says : Says) (s : Served) (turn : Turn) (id : Data) (asked : Asked) →
    heard_at turn ≡ Request id asked →
    (reply : Reply) × (replied says s turn ≡ reply ∷ []) × (id_of reply ≡ Some id)
answered_once says s turn id asked heard = (
  answer_in_phase says s.phase s.encoding s.docs id asked,
  ap (replies_to says s) heard,
  answer_id says s.phase s.encoding s.docs id asked,
)

-- ---- what is told of documents

-- Nothing among these is an answer.
abbrev pub AnswerNothing : List Reply → Type 0
AnswerNothing replies = All (λ reply. id_of reply ≡ None) replies

abbrev HasNone : Reply → Type 0
HasNone reply = id_of reply ≡ None

notices_none : (uri : List ℕ) (now : Standing) → AnswerNothing (notices uri now)
notices_none uri Checked = All-nil HasNone
notices_none uri Large = All-cons HasNone _ [] refl (All-nil HasNone)
notices_none uri Lost = All-cons HasNone _ [] refl (All-nil HasNone)

told_none : (says : Says) (encoding : Encoding) (d : Doc) → AnswerNothing (told says encoding d)
told_none says encoding d = All-cons HasNone _ _ refl (notices_none d.uri (standing d.text))

after_none : (says : Says) (encoding : Encoding) (before : Standing) (d : Doc) →
    AnswerNothing (told_after says encoding before d)
after_none says encoding before d = by (stays before (standing d.text))
  where
    by : (b : Bool) → AnswerNothing (cond b [] (told says encoding d))
    by true = All-nil HasNone
    by false = told_none says encoding d

named_none : (says : Says) (encoding : Encoding) (uri : List ℕ) (change : Doc → Doc)
    (docs : List Doc) → AnswerNothing (told_of_named says encoding uri change docs)
named_none says encoding uri change docs = by (document_of uri docs)
  where
    by : (o : Option Doc) → AnswerNothing (option_map_or (told_of says encoding change) o [])
    by None = All-nil HasNone
    by (Some d) = after_none says encoding (standing d.text) (change d)

all_none : (says : Says) (encoding : Encoding) (docs : List Doc) →
    AnswerNothing (told_of_all says encoding docs)
all_none says encoding [] = All-nil HasNone
all_none says encoding (d ∷ docs) =
    All-append HasNone (told_of says encoding lost d) (told_of_all says encoding docs)
    (after_none says encoding (standing d.text) (lost d)) (all_none says encoding docs)

lost_none : (says : Says) (encoding : Encoding) (uri : Option (List ℕ)) (docs : List Doc) →
    AnswerNothing (told_of_lost says encoding uri docs)
lost_none says encoding None docs = all_none says encoding docs
lost_none says encoding (Some uri) docs = named_none says encoding uri lost docs

by_none : (says : Says) (encoding : Encoding) (docs : List Doc) (noted : Noted) →
    AnswerNothing (told_by says encoding docs noted)
by_none says encoding docs Initialized = All-nil HasNone
by_none says encoding docs Exit = All-nil HasNone
by_none says encoding docs (DidOpen uri version text) =
    told_none says encoding (opened uri version text)
by_none says encoding docs (DidChange uri version changes) =
    named_none says encoding uri (after_changes encoding version changes) docs
by_none says encoding docs (DidClose uri) = All-cons HasNone _ [] refl (All-nil HasNone)
by_none says encoding docs (InvalidParams uri) = lost_none says encoding uri docs
by_none says encoding docs Other = All-nil HasNone

note_none : (says : Says) (s : Served) (noted : Noted) → AnswerNothing (told_note says s noted)
note_none says s noted = by (is_ready s.phase)
  where
    by : (b : Bool) → AnswerNothing (cond b (told_by says s.encoding s.docs noted) [])
    by true = by_none says s.encoding s.docs noted
    by false = All-nil HasNone

pub never_answered : (says : Says) (s : Served) (turn : Turn) (noted : Noted) →
    heard_at turn ≡ Notification noted → AnswerNothing (replied says s turn)
never_answered says s turn noted heard =
    subst AnswerNothing (sym (ap (replies_to says s) heard)) (note_none says s noted)

-- ---- in a talk

none_answered : (replies : List Reply) → AnswerNothing replies → answered_ids replies ≡ []
none_answered [] none = refl
none_answered (reply ∷ replies) none =
    ap (λ (id : Option Data). cons_option id (answered_ids replies))
    (All-head HasNone reply replies none)
    ∙ none_answered replies (All-tail HasNone reply replies none)

heard_answered : (says : Says) (s : Served) (heard : Heard) →
    answered_ids (replies_to says s heard) ≡ option_to_list (asked_id heard)
heard_answered says s NoJson = ap (λ (ids : List Data). null ∷ ids)
    (none_answered (told_of_all says s.encoding s.docs) (all_none says s.encoding s.docs))
heard_answered says s NoMessage = refl
heard_answered says s Response = refl
heard_answered says s (Request id asked) =
    rw (answer_id says s.phase s.encoding s.docs id asked) refl
heard_answered says s (Notification noted) =
    none_answered (told_note says s noted) (note_none says s noted)

asked_more : (turn : Turn) (turns : List Turn) →
    asked_ids (turn ∷ turns) ≡ option_to_list (asked_id (heard_at turn)) ++ asked_ids turns
asked_more turn turns = by (asked_id (heard_at turn))
  where
    by : (id : Option Data) →
        cons_option id (asked_ids turns) ≡ option_to_list id ++ asked_ids turns
    by None = refl
    by (Some id) = refl

pub talk_answered : (says : Says) (s : Served) (turns : List Turn) →
    answered_ids (replied_to_all says s turns) ≡ asked_ids turns
talk_answered says s [] = refl
talk_answered says s (turn ∷ turns) =
    filter_map-append id_of (replied says s turn) (replied_to_all says (after s turn) turns)
    ∙ ap (λ (ids : List Data). ids ++ answered_ids (replied_to_all says (after s turn) turns))
    (heard_answered says s (heard_at turn))
    ∙ ap (λ (ids : List Data). option_to_list (asked_id (heard_at turn)) ++ ids)
    (talk_answered says (after s turn) turns)
    ∙ sym (asked_more turn turns)
