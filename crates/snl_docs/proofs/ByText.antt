-- What is published is found in the text that is kept.
use Rattle.std.proofs.Common.{◌≡◌, ℕ, Bool, true, false, cond, List, [], ◌∷◌, map, Option, None, Some, refl, sym, ap, ◌∙◌, All}
use Rattle.std.specs.Option.{option_and_then, option_map_or}
use Rattle.std.proofs.lemmas.List.Elements.{All-append, All-cons, All-nil}
use Rattle.serde_json.specs.Data.{Data}
use Rattle.snl_place.specs.declared.places.Encoding.{Encoding}
use Rattle.snl_hear.specs.Heard.{Heard, NoJson, NoMessage, Response, Request, Notification}
use Rattle.snl_hear.specs.Notifications.{Noted, Initialized, Exit, DidOpen, DidChange, DidClose, InvalidParams, Other}
use Rattle.snl_hear.specs.Requests.{Asked, Initialize, Shutdown, OfDocument, MethodNotFound}
use Rattle.snl_hear.specs.Requests as asked
use Rattle.snl_docs.specs.declared.phase.Phase.{Phase}
use Rattle.snl_docs.specs.declared.phase.Phase.TheVariants.{New, Ready, Shut, Gone}
use Rattle.snl_document.specs.declared.standing.Standing.{Standing}
use Rattle.snl_document.specs.declared.standing.Standing.TheVariants.{Checked, Large, Lost}
use Rattle.snl_document.specs.Documents.{Doc, after_changes, document_of, lost, opened, put, updated, without}
use Rattle.snl_docs.specs.Known.{IsByText, text_of}
use Rattle.snl_replies.specs.Replies.{Reply, Publish}
use Rattle.snl_docs.specs.Served.{Served, after, after_heard, after_note, answer_in_phase, is_ready, replied, replies_to, told_note, with_docs}
use Rattle.snl_document.specs.Told.{told_of, told_of_all, told_of_named}
use Rattle.snl_document.specs.Texts.{standing}
use Rattle.snl_document.specs.Told.{found_of_text, notices, stays, told, told_after}
use Rattle.snl_turns.specs.Turns.{Turn, heard_at}
use Rattle.snl_docs.proofs.Asked.{on_by_text}
use Rattle.snl_docs.proofs.Known.{lost_there, named_so, not_there, put_there, updated_there}
use Rattle.snl_document.specs.Says.{Says}

notices_by_text : (says : Says) (s : Served) (uri : List ℕ) (now : Standing) →
    All (IsByText says s) (notices uri now)
notices_by_text says s uri Checked = All-nil (IsByText says s)
notices_by_text says s uri Large = All-cons (IsByText says s) _ [] tt (All-nil (IsByText says s))
notices_by_text says s uri Lost = All-cons (IsByText says s) _ [] tt (All-nil (IsByText says s))

-- A document as it is kept.
pub told_by_text : (says : Says) (s : Served) (d : Doc) → text_of d.uri s.docs ≡ d.text →
    All (IsByText says s) (told says s.encoding d)
told_by_text says s d kept =
    All-cons (IsByText says s) _ _ (ap (found_of_text says s.encoding) (sym kept))
    (notices_by_text says s d.uri (standing d.text))

pub told_after_by_text : (says : Says) (s : Served) (before : Standing) (d : Doc) →
    text_of d.uri s.docs ≡ d.text → All (IsByText says s) (told_after says s.encoding before d)
told_after_by_text says s before d kept = by (stays before (standing d.text))
  where
    by : (b : Bool) → All (IsByText says s) (cond b [] (told says s.encoding d))
    by true = All-nil (IsByText says s)
    by false = told_by_text says s d kept

-- The document of a URI after a change of it.
pub named_by_text : (says : Says) (s : Served) (uri : List ℕ) (change : Doc → Doc) →
    ((d : Doc) → (change d).uri ≡ d.uri) →
    All (IsByText says (with_docs s (updated uri change s.docs)))
    (told_of_named says s.encoding uri change s.docs)
named_by_text says s uri change name = by (document_of uri s.docs) refl
  where
    by : (o : Option Doc) → document_of uri s.docs ≡ o →
        All (IsByText says (with_docs s (updated uri change s.docs)))
        (option_map_or (told_of says s.encoding change) o [])
    by None e = All-nil (IsByText says (with_docs s (updated uri change s.docs)))
    by (Some d) e =
        told_after_by_text says (with_docs s (updated uri change s.docs)) (standing d.text)
        (change d)
        (ap (λ (u : List ℕ). text_of u (updated uri change s.docs))
        (name d ∙ named_so uri s.docs d e)
        ∙ ap (option_and_then (λ (doc : Doc). doc.text))
        (updated_there uri change s.docs d e (name d)))

-- All of them, where each is lost.
pub all_by_text : (says : Says) (s : Served) (docs : List Doc) →
    ((uri : List ℕ) → text_of uri s.docs ≡ None) →
    All (IsByText says s) (told_of_all says s.encoding docs)
all_by_text says s [] none = All-nil (IsByText says s)
all_by_text says s (d ∷ docs) none =
    All-append (IsByText says s) (told_of says s.encoding lost d) (told_of_all says s.encoding docs)
    (told_after_by_text says s (standing d.text) (lost d) (none d.uri))
    (all_by_text says s docs none)

-- ---- by the message

ready_or_not : (says : Says) (s : Served) (docs : List Doc) (replies : List Reply) →
    All (IsByText says (with_docs s docs)) replies → (ready : Bool) →
    All (IsByText says (cond ready (with_docs s docs) s)) (cond ready replies [])
ready_or_not says s docs replies all true = all
ready_or_not says s docs replies all false = All-nil (IsByText says s)

nothing_told : (P : Reply → Type 0) (ready : Bool) → All P (cond ready [] [])
nothing_told P true = All-nil P
nothing_told P false = All-nil P

note_by_text : (says : Says) (s : Served) (noted : Noted) →
    All (IsByText says (after_note s noted)) (told_note says s noted)
note_by_text says s Initialized =
    ready_or_not says s s.docs [] (All-nil (IsByText says (with_docs s s.docs))) (is_ready s.phase)
note_by_text says s Exit = nothing_told (IsByText says (after_note s Exit)) (is_ready s.phase)
note_by_text says s (DidOpen uri version text) =
    let doc : Doc = opened uri version text in
    ready_or_not says s (put doc s.docs) (told says s.encoding doc)
    (told_by_text says (with_docs s (put doc s.docs)) doc
    (ap (option_and_then (λ (d : Doc). d.text)) (put_there doc s.docs)))
    (is_ready s.phase)
note_by_text says s (DidChange uri version changes) =
    let change : Doc → Doc = after_changes s.encoding version changes in
    ready_or_not says s (updated uri change s.docs)
    (told_of_named says s.encoding uri change s.docs)
    (named_by_text says s uri change (λ d. refl)) (is_ready s.phase)
note_by_text says s (DidClose uri) =
    let now : Served = with_docs s (without uri s.docs) in
    ready_or_not says s (without uri s.docs) (Publish [] uri None ∷ [])
    (All-cons (IsByText says now) (Publish [] uri None) []
    (ap (λ (o : Option Doc).
    found_of_text says s.encoding (option_and_then (λ (d : Doc). d.text) o))
    (sym (not_there uri s.docs)))
    (All-nil (IsByText says now)))
    (is_ready s.phase)
note_by_text says s (InvalidParams None) =
    ready_or_not says s (map lost s.docs) (told_of_all says s.encoding s.docs)
    (all_by_text says (with_docs s (map lost s.docs)) s.docs (λ uri. lost_there uri s.docs))
    (is_ready s.phase)
note_by_text says s (InvalidParams (Some uri)) =
    ready_or_not says s (updated uri lost s.docs) (told_of_named says s.encoding uri lost s.docs)
    (named_by_text says s uri lost (λ d. refl)) (is_ready s.phase)
note_by_text says s Other =
    ready_or_not says s s.docs [] (All-nil (IsByText says (with_docs s s.docs))) (is_ready s.phase)

-- An answer to a request publishes nothing.
answer_by_text : (says : Says) (s : Served) (phase : Phase) (encoding : Encoding) (docs : List Doc)
    (id : Data) (asked : Asked) → IsByText says s (answer_in_phase says phase encoding docs id asked)
answer_by_text says s New encoding docs id (Initialize other) = tt
answer_by_text says s New encoding docs id Shutdown = tt
answer_by_text says s New encoding docs id (OfDocument uri query) = tt
answer_by_text says s New encoding docs id asked.InvalidParams = tt
answer_by_text says s New encoding docs id MethodNotFound = tt
answer_by_text says s Ready encoding docs id (Initialize other) = tt
answer_by_text says s Ready encoding docs id Shutdown = tt
answer_by_text says s Ready encoding docs id (OfDocument uri query) =
    on_by_text says s encoding docs id uri query
answer_by_text says s Ready encoding docs id asked.InvalidParams = tt
answer_by_text says s Ready encoding docs id MethodNotFound = tt
answer_by_text says s Shut encoding docs id asked = tt
answer_by_text says s (Gone clean) encoding docs id asked = tt

heard_by_text : (says : Says) (s : Served) (heard : Heard) →
    All (IsByText says (after_heard s heard)) (replies_to says s heard)
heard_by_text says s NoJson =
    let now : Served = with_docs s (map lost s.docs) in
    All-cons (IsByText says now) _ _ tt (all_by_text says now s.docs (λ uri. lost_there uri s.docs))
heard_by_text says s NoMessage = All-cons (IsByText says s) _ [] tt (All-nil (IsByText says s))
heard_by_text says s Response = All-nil (IsByText says s)
heard_by_text says s (Request id asked) =
    let now : Served = after_heard s (Request id asked) in
    All-cons (IsByText says now) (answer_in_phase says s.phase s.encoding s.docs id asked) []
    (answer_by_text says now s.phase s.encoding s.docs id asked) (All-nil (IsByText says now))
heard_by_text says s (Notification noted) = note_by_text says s noted

pub replied_by_text : (says : Says) (s : Served) (turn : Turn) →
    All (IsByText says (after s turn)) (replied says s turn)
unfolding after
replied_by_text says s turn = heard_by_text says s (heard_at turn)
