-- What is said to a message about one document, and what is kept of it.
use Rattle.std.proofs.Common.{◌≡◌, ℕ, ◌≤◌, List, [], ◌∷◌, Option, None, Some, true, false, length, refl, ap, ◌∙◌, arith, nat_le, cond}
use Rattle.std.specs.Option.{option_map_or}
use Rattle.std.proofs.lemmas.Bool.{le-leb}
use Rattle.snl_place.specs.declared.places.Encoding.{Encoding}
use Rattle.snl_hear.specs.Changes.{Changed}
use Rattle.snl_hear.specs.Heard.{Notification}
use Rattle.snl_hear.specs.Notifications.{Noted, DidChange, DidClose, DidOpen}
use Rattle.snl_docs.specs.declared.phase.Phase.{Phase}
use Rattle.snl_docs.specs.declared.phase.Phase.TheVariants.{Ready}
use Rattle.snl_docs.specs.Served.{Served, after, after_heard, after_note, docs_after, is_ready, replied, replies_to, told_by, with_docs}
use Rattle.snl_document.specs.declared.standing.Standing.{Standing}
use Rattle.snl_document.specs.declared.standing.Standing.TheVariants.{Checked, Large, Lost}
use Rattle.snl_document.specs.Documents.{Doc, after_changes, document_of, opened}
use Rattle.snl_document.specs.Says.{Says}
use Rattle.snl_document.specs.Texts.{changed_by_all, followed, limit, longest, standing}
use Rattle.snl_document.specs.Told.{stays, told, told_after, told_of}
use Rattle.snl_replies.specs.Replies.{Publish}
use Rattle.snl_turns.specs.Turns.{Turn, heard_at}
use Rattle.snl_server_laws.proofs.Kept.{named_so, not_there, put_there, updated_there}

-- ---- a text that is checked

within_limit : (text : List ℕ) → length text ≤ limit → nat_le (length text) limit ≡ true
within_limit text few = le-leb (length text) limit few

pub is_followed : (text : List ℕ) → length text ≤ limit → followed (Some text) ≡ Some text
is_followed text few =
    let test : nat_le (length text) longest ≡ true =
    le-leb (length text) longest (omega (arith, few)) in
    rw test refl

stays_unchecked : (before : Standing) → stays before Checked ≡ false
stays_unchecked Checked = refl
stays_unchecked Large = refl
stays_unchecked Lost = refl

-- What is told of a document with such a text.
pub told_checked : (says : Says) (encoding : Encoding) (uri : List ℕ) (version : Option ℕ)
    (text : List ℕ) → length text ≤ limit →
    told says encoding (record { uri = uri; version = version; text = Some text })
    ≡ Publish (says.found_in encoding text) uri version ∷ []
told_checked says encoding uri version text few = rw (within_limit text few) refl

pub told_after_checked : (says : Says) (encoding : Encoding) (before : Standing) (uri : List ℕ)
    (version : Option ℕ) (text : List ℕ) → length text ≤ limit →
    told_after says encoding before (record { uri = uri; version = version; text = Some text })
    ≡ Publish (says.found_in encoding text) uri version ∷ []
told_after_checked says encoding before uri version text few =
    rw (within_limit text few, stays_unchecked before) refl

-- ---- the document after a message

-- That which was changed.
pub changed_to : (encoding : Encoding) (uri : List ℕ) (version : Option ℕ) (changes : List Changed)
    (docs : List Doc) (doc : Doc) (text : List ℕ) → document_of uri docs ≡ Some doc →
    changed_by_all encoding doc.text changes ≡ Some text → length text ≤ limit →
    after_changes encoding version changes doc
    ≡ record { uri = uri; version = version; text = Some text }
changed_to encoding uri version changes docs doc text there is few =
    ap (λ (u : List ℕ). after_changes encoding version changes
    (record { uri = u; version = doc.version; text = doc.text })) (named_so uri docs doc there)
    ∙ ap (λ (t : Option (List ℕ)). record { uri = uri; version = version; text = t })
    (ap followed is ∙ is_followed text few)

-- ---- by the message

-- Between `initialize` and `shutdown`.
replied_ready : (says : Says) (s : Served) (turn : Turn) (noted : Noted) → s.phase ≡ Ready →
    heard_at turn ≡ Notification noted →
    replied says s turn ≡ told_by says s.encoding s.docs noted
replied_ready says s turn noted ready heard =
    ap (replies_to says s) heard
    ∙ ap (λ (phase : Phase). cond (is_ready phase) (told_by says s.encoding s.docs noted) []) ready

pub change_published : (says : Says) (s : Served) (turn : Turn) (uri : List ℕ)
    (version : Option ℕ) (changes : List Changed) (doc : Doc) (text : List ℕ) →
    s.phase ≡ Ready → heard_at turn ≡ Notification (DidChange uri version changes) →
    document_of uri s.docs ≡ Some doc →
    changed_by_all s.encoding doc.text changes ≡ Some text → length text ≤ limit →
    replied says s turn ≡ Publish (says.found_in s.encoding text) uri version ∷ []
change_published says s turn uri version changes doc text ready heard there is few =
    replied_ready says s turn (DidChange uri version changes) ready heard
    ∙ ap (λ (o : Option Doc). option_map_or
    (told_of says s.encoding (after_changes s.encoding version changes)) o []) there
    ∙ ap (told_after says s.encoding (standing doc.text))
    (changed_to s.encoding uri version changes s.docs doc text there is few)
    ∙ told_after_checked says s.encoding (standing doc.text) uri version text few

pub opening_published : (says : Says) (s : Served) (turn : Turn) (uri : List ℕ)
    (version : Option ℕ) (text : List ℕ) →
    s.phase ≡ Ready → heard_at turn ≡ Notification (DidOpen uri version text) →
    length text ≤ limit →
    replied says s turn ≡ Publish (says.found_in s.encoding text) uri version ∷ []
opening_published says s turn uri version text ready heard few =
    replied_ready says s turn (DidOpen uri version text) ready heard
    ∙ ap (λ (t : Option (List ℕ)). told says s.encoding
    (record { uri = uri; version = version; text = t })) (is_followed text few)
    ∙ told_checked says s.encoding uri version text few

pub closing_published : (says : Says) (s : Served) (turn : Turn) (uri : List ℕ) →
    s.phase ≡ Ready → heard_at turn ≡ Notification (DidClose uri) →
    replied says s turn ≡ Publish [] uri None ∷ []
closing_published says s turn uri ready heard = replied_ready says s turn (DidClose uri) ready heard

-- ---- what is kept

kept_ready : (s : Served) (turn : Turn) (noted : Noted) → s.phase ≡ Ready →
    heard_at turn ≡ Notification noted →
    after_note s noted ≡ cond (is_ready s.phase) (with_docs s (docs_after s.encoding s.docs noted)) s →
    (after s turn).docs ≡ docs_after s.encoding s.docs noted
unfolding after
kept_ready s turn noted ready heard by_phase =
    ap (λ (s' : Served). s'.docs) (ap (after_heard s) heard ∙ by_phase)
    ∙ ap (λ (phase : Phase). (cond (is_ready phase)
    (with_docs s (docs_after s.encoding s.docs noted)) s).docs) ready

pub change_kept : (s : Served) (turn : Turn) (uri : List ℕ) (version : Option ℕ)
    (changes : List Changed) (doc : Doc) (text : List ℕ) →
    s.phase ≡ Ready → heard_at turn ≡ Notification (DidChange uri version changes) →
    document_of uri s.docs ≡ Some doc →
    changed_by_all s.encoding doc.text changes ≡ Some text → length text ≤ limit →
    document_of uri (after s turn).docs
    ≡ Some (record { uri = uri; version = version; text = Some text })
change_kept s turn uri version changes doc text ready heard there is few =
    let change : Doc → Doc = after_changes s.encoding version changes in
    ap (document_of uri) (kept_ready s turn (DidChange uri version changes) ready heard refl)
    ∙ updated_there uri change s.docs doc there refl
    ∙ ap (λ (d : Doc). Some d) (changed_to s.encoding uri version changes s.docs doc text there is few)

pub opening_kept : (s : Served) (turn : Turn) (uri : List ℕ) (version : Option ℕ)
    (text : List ℕ) →
    s.phase ≡ Ready → heard_at turn ≡ Notification (DidOpen uri version text) →
    length text ≤ limit →
    document_of uri (after s turn).docs
    ≡ Some (record { uri = uri; version = version; text = Some text })
opening_kept s turn uri version text ready heard few =
    ap (document_of uri) (kept_ready s turn (DidOpen uri version text) ready heard refl)
    ∙ put_there (opened uri version text) s.docs
    ∙ ap (λ (t : Option (List ℕ)). Some (record { uri = uri; version = version; text = t }))
    (is_followed text few)

pub closing_kept : (s : Served) (turn : Turn) (uri : List ℕ) →
    s.phase ≡ Ready → heard_at turn ≡ Notification (DidClose uri) →
    document_of uri (after s turn).docs ≡ None
closing_kept s turn uri ready heard =
    ap (document_of uri) (kept_ready s turn (DidClose uri) ready heard refl)
    ∙ not_there uri s.docs
