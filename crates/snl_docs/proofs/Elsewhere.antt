-- A message about one document leaves the others as they were.
use Rattle.std.proofs.Common.{◌≡◌, ℕ, Bool, true, false, cond, List, None, Some, refl}
use Rattle.snl_hear.specs.Heard.{Heard, NoJson, NoMessage, Response, Request, Notification}
use Rattle.snl_hear.specs.Notifications.{Noted, Initialized, Exit, DidOpen, DidChange, DidClose, InvalidParams, Other}
use Rattle.snl_hear.specs.Requests.{Asked, Initialize, Shutdown, OfDocument, MethodNotFound}
use Rattle.snl_hear.specs.Requests as asked
use Rattle.snl_docs.specs.declared.phase.Phase.{Phase}
use Rattle.snl_docs.specs.declared.phase.Phase.TheVariants.{New, Ready, Shut, Gone}
use Rattle.snl_document.specs.Documents.{Doc, after_changes, document_of, lost, opened}
use Rattle.snl_docs.specs.Known.{IsElsewhere, IsNotedElsewhere}
use Rattle.snl_docs.specs.Served.{Served, after, after_heard, after_note, after_request, docs_after, is_ready, with_docs}
use Rattle.snl_turns.specs.Turns.{Turn, heard_at}
use Rattle.snl_docs.proofs.Known.{gone_elsewhere, put_elsewhere, updated_elsewhere}

-- No request changes a document.
asked_elsewhere : (s : Served) (phase : Phase) (asked : Asked) →
    (after_request phase s asked).docs ≡ s.docs
asked_elsewhere s New (Initialize encoding) = refl
asked_elsewhere s New Shutdown = refl
asked_elsewhere s New (OfDocument uri query) = refl
asked_elsewhere s New asked.InvalidParams = refl
asked_elsewhere s New MethodNotFound = refl
asked_elsewhere s Ready (Initialize encoding) = refl
asked_elsewhere s Ready Shutdown = refl
asked_elsewhere s Ready (OfDocument uri query) = refl
asked_elsewhere s Ready asked.InvalidParams = refl
asked_elsewhere s Ready MethodNotFound = refl
asked_elsewhere s Shut asked = refl
asked_elsewhere s (Gone clean) asked = refl

ready_or_not : (s : Served) (docs : List Doc) (uri : List ℕ) →
    document_of uri docs ≡ document_of uri s.docs → (ready : Bool) →
    document_of uri (cond ready (with_docs s docs) s).docs ≡ document_of uri s.docs
ready_or_not s docs uri same true = same
ready_or_not s docs uri same false = refl

note_elsewhere : (s : Served) (noted : Noted) (uri : List ℕ) → IsNotedElsewhere uri noted →
    document_of uri (after_note s noted).docs ≡ document_of uri s.docs
note_elsewhere s Initialized uri other = ready_or_not s s.docs uri refl (is_ready s.phase)
note_elsewhere s Exit uri other = refl
note_elsewhere s (DidOpen u version text) uri other =
    ready_or_not s (docs_after s.encoding s.docs (DidOpen u version text)) uri
    (put_elsewhere (opened u version text) s.docs uri other) (is_ready s.phase)
note_elsewhere s (DidChange u version changes) uri other =
    ready_or_not s (docs_after s.encoding s.docs (DidChange u version changes)) uri
    (updated_elsewhere u (after_changes s.encoding version changes) s.docs uri other (λ d. refl))
    (is_ready s.phase)
note_elsewhere s (DidClose u) uri other =
    ready_or_not s (docs_after s.encoding s.docs (DidClose u)) uri
    (gone_elsewhere u s.docs uri other) (is_ready s.phase)
note_elsewhere s (InvalidParams None) uri other = absurd other
note_elsewhere s (InvalidParams (Some u)) uri other =
    ready_or_not s (docs_after s.encoding s.docs (InvalidParams (Some u))) uri
    (updated_elsewhere u lost s.docs uri other (λ d. refl)) (is_ready s.phase)
note_elsewhere s Other uri other = ready_or_not s s.docs uri refl (is_ready s.phase)

heard_elsewhere : (s : Served) (heard : Heard) (uri : List ℕ) → IsElsewhere uri heard →
    document_of uri (after_heard s heard).docs ≡ document_of uri s.docs
heard_elsewhere s NoJson uri other = absurd other
heard_elsewhere s NoMessage uri other = refl
heard_elsewhere s Response uri other = refl
heard_elsewhere s (Request id asked) uri other = rw (asked_elsewhere s s.phase asked) refl
heard_elsewhere s (Notification noted) uri other = note_elsewhere s noted uri other

pub kept_elsewhere : (s : Served) (turn : Turn) (uri : List ℕ) → IsElsewhere uri (heard_at turn) →
    document_of uri (after s turn).docs ≡ document_of uri s.docs
unfolding after
kept_elsewhere s turn uri other = heard_elsewhere s (heard_at turn) uri other
