-- What is said can be written as JSON, and reads back.
use Rattle.std.proofs.Common.{◌≡◌, ℕ, ◌≤◌, Bool, true, false, All, List, [], ◌∷◌, length, Option, None, Some, IsUtf8, cond, nat_le, inl, inr, ◌⊎◌, refl, sym, subst, arith}
use Rattle.std.specs.Prelude.{IfSome, if◌then◌else◌}
use Rattle.std.specs.List.{AllByRecursion as Each}
use Rattle.std.specs.Option.{option_map_or}
use Rattle.std.proofs.lemmas.Bool.Decides.{nat_tests}
use Rattle.std.proofs.lemmas.List.Elements.{All-from_recursion, recursion_from_All}
use Rattle.std.proofs.lemmas.Str.{IsUtf8-append}
use Rattle.json.proofs.Printed.Utf8.{IsUtf8-are_ascii}
use Rattle.serde_json.specs.Data.{Data, null}
use Rattle.snl_facts.specs.Each.{each_append, each_weaker}
use Rattle.snl_place.specs.declared.places.Encoding.{Encoding}
use Rattle.snl_say.specs.Answered.{Answered, Nothing, answered_data, answered_text}
use Rattle.snl_say.specs.Answers.{error_data, error_text, initialize_data, initialize_text, null_data, null_text}
use Rattle.snl_say.specs.declared.answers.ErrorCode.{ErrorCode}
use Rattle.snl_say.specs.declared.answers.ErrorCode.TheVariants as error
use Rattle.snl_say.specs.declared.severity.Severity.{Severity}
use Rattle.snl_say.specs.Notices.{message_data, message_text}
use Rattle.snl_say.specs.Publish.{Found, publish_data, publish_text}
use Rattle.snl_hear.specs.Heard.{Heard, NoJson, NoMessage, Response, Request, Notification}
use Rattle.snl_hear.specs.Ids.{IsSoundId}
use Rattle.snl_hear.specs.Json.{json_in}
use Rattle.snl_hear.specs.Notifications.{Noted, Initialized, Exit, DidOpen, DidChange, DidClose, InvalidParams, Other}
use Rattle.snl_hear.specs.Requests.{Asked, Initialize, Shutdown, OfDocument, MethodNotFound, Query}
use Rattle.snl_hear.specs.Requests as asked
use Rattle.snl_hear.specs.Sound.{AreSoundFound, IsSoundAnswer, IsSoundVersion}
use Rattle.snl_docs.specs.declared.phase.Phase.{Phase}
use Rattle.snl_docs.specs.declared.phase.Phase.TheVariants.{New, Ready, Shut, Gone}
use Rattle.snl_docs.specs.Asked.{answer_by, answer_of, answer_on}
use Rattle.snl_docs.specs.Served.{Served, answer_first, answer_in_phase, answer_ready, is_ready, replied, replies_to, told_by, told_note}
use Rattle.snl_document.specs.declared.standing.Standing.{Standing}
use Rattle.snl_document.specs.declared.standing.Standing.TheVariants.{Checked, Large, Lost}
use Rattle.snl_document.specs.Documents.{Doc, after_changes, document_of, is_named, lost, opened}
use Rattle.snl_document.specs.Notices.{large_notice, lost_notice}
use Rattle.snl_document.specs.Says.{Says}
use Rattle.snl_document.specs.Texts.{checked, changed_by_all, limit, standing}
use Rattle.snl_document.specs.Told.{found_of_text, notices, stays, told, told_after, told_of, told_of_all, told_of_named}
use Rattle.snl_replies.specs.Replies.{Reply, Publish, Notice, AnswerNull, AnswerInitialize, Answer, AnswerError, body_of}
use Rattle.snl_turns.specs.Turns.{Turn, heard_at}
use Rattle.snl_server_laws.specs.Answered.{data_of}
use Rattle.snl_server_laws.specs.Texts.{AreTextDocs, IsTextChange, IsTextDoc, IsTextHeard, IsTextNoted, SaysText}
use Rattle.snl_server_laws.proofs.TextDocs.{KeepsText, all_changed, followed_text, lost_text}

-- ---- what can be written

abbrev IsSoundReply : Reply → Type 0
IsSoundReply (Publish found uri version) =
    AreSoundFound found × IsUtf8 uri × IsSoundVersion version
IsSoundReply (Notice severity message) = IsUtf8 message
IsSoundReply (AnswerNull id) = IsSoundId id
IsSoundReply (AnswerInitialize id encoding) = IsSoundId id
IsSoundReply (Answer id uri answered) = IsSoundId id × IsUtf8 uri × IsSoundAnswer answered
IsSoundReply (AnswerError id code) = IsSoundId id ⊎ (id ≡ null)

-- the laws that what can be written reads back
pub record ReadsBack : Type 0 where
  pub publish : (found : List Found) (uri : List ℕ) (version : Option ℕ) → AreSoundFound found →
      IsUtf8 uri → IsSoundVersion version →
      json_in (publish_text found uri version) ≡ Some (publish_data found uri version)
  pub notice : (severity : Severity) (message : List ℕ) → IsUtf8 message →
      json_in (message_text severity message) ≡ Some (message_data severity message)
  pub null_answer : (id : Data) → IsSoundId id → json_in (null_text id) ≡ Some (null_data id)
  pub initialize : (id : Data) (encoding : Encoding) → IsSoundId id →
      json_in (initialize_text id encoding) ≡ Some (initialize_data id encoding)
  pub answer : (id : Data) (uri : List ℕ) (answered : Answered) → IsSoundId id → IsUtf8 uri →
      IsSoundAnswer answered →
      json_in (answered_text id uri answered) ≡ Some (answered_data id uri answered)
  pub failure : (id : Data) (code : ErrorCode) → IsSoundId id →
      json_in (error_text id code) ≡ Some (error_data id code)
  pub failure_alone : (code : ErrorCode) →
      json_in (error_text null code) ≡ Some (error_data null code)

abbrev pub IsReadBack : Reply → Type 0
IsReadBack reply = json_in (body_of reply) ≡ Some (data_of reply)

read_back : ReadsBack → (reply : Reply) → IsSoundReply reply → IsReadBack reply
read_back laws (Publish found uri version) h = laws.publish found uri version h.0 h.1 h.2
read_back laws (Notice severity message) h = laws.notice severity message h
read_back laws (AnswerNull id) h = laws.null_answer id h
read_back laws (AnswerInitialize id encoding) h = laws.initialize id encoding h
read_back laws (Answer id uri answered) h = laws.answer id uri answered h.0 h.1 h.2
read_back laws (AnswerError id code) (inl h) = laws.failure id code h
read_back laws (AnswerError id code) (inr none) =
    subst (λ (d : Data). json_in (error_text d code) ≡ Some (error_data d code)) (sym none)
    (laws.failure_alone code)

-- ---- notices

large_utf8 : IsUtf8 large_notice
unfolding large_notice
large_utf8 = IsUtf8-are_ascii _ refl

lost_utf8 : IsUtf8 lost_notice
unfolding lost_notice
lost_utf8 = IsUtf8-are_ascii _ refl

notices_sound : (uri : List ℕ) (now : Standing) → IsUtf8 uri →
    Each IsSoundReply (notices uri now)
notices_sound uri Checked h = tt
notices_sound uri Large h = (IsUtf8-append uri large_notice h large_utf8, tt)
notices_sound uri Lost h = (IsUtf8-append uri lost_notice h lost_utf8, tt)

-- ---- what is said of a text

module _ (says : Says) (text_says : SaysText says) (encoding : Encoding) where
  -- a text that is checked isn't too long
  pub checked_few : (text : Option (List ℕ)) → IfSome text IsUtf8 →
      IfSome (checked text) (λ t. IsUtf8 t × (length t ≤ limit))
  checked_few None h = tt
  checked_few (Some text) h = by (nat_le (length text) limit) refl
    where
      by : (b : Bool) → nat_le (length text) limit ≡ b →
          IfSome (if b then Some text else None) (λ t. IsUtf8 t × (length t ≤ limit))
      by true e = (h, grind (arith, nat_tests, e))
      by false e = tt

  found_sound : (text : Option (List ℕ)) → IfSome text IsUtf8 →
      AreSoundFound (found_of_text says encoding text)
  found_sound text h = by (checked text) (checked_few text h)
    where
      by : (o : Option (List ℕ)) → IfSome o (λ t. IsUtf8 t × (length t ≤ limit)) →
          AreSoundFound (option_map_or (says.found_in encoding) o [])
      by None k = tt
      by (Some t) k = text_says.found encoding t k.0 k.1

  told_sound : (d : Doc) → IsTextDoc d → Each IsSoundReply (told says encoding d)
  told_sound d h =
      ((found_sound d.text h.text, h.uri, h.version), notices_sound d.uri (standing d.text) h.uri)

  after_sound : (before : Standing) (d : Doc) → IsTextDoc d →
      Each IsSoundReply (told_after says encoding before d)
  after_sound before d h = by (stays before (standing d.text))
    where
      by : (b : Bool) → Each IsSoundReply (cond b [] (told says encoding d))
      by true = tt
      by false = told_sound d h

  named_sound : (uri : List ℕ) (change : Doc → Doc) (docs : List Doc) →
      ((d : Doc) → IsTextDoc d → IsTextDoc (change d)) → Each IsTextDoc docs →
      Each IsSoundReply (told_of_named says encoding uri change docs)
  named_sound uri change [] h k = tt
  named_sound uri change (x ∷ docs) h k =
      by (is_named uri x) (named_sound uri change docs h k.1)
    where
      by : (b : Bool) → Each IsSoundReply (told_of_named says encoding uri change docs) →
          Each IsSoundReply (option_map_or (told_of says encoding change)
          (if b then Some x else document_of uri docs) [])
      by true rest = after_sound (standing x.text) (change x) (h x k.0)
      by false rest = rest

  module _ (keep : KeepsText) where
    lost_sound : (d : Doc) → IsTextDoc d → IsTextDoc (lost d)
    lost_sound d h = lost_text keep encoding d h

    all_sound : (docs : List Doc) → Each IsTextDoc docs →
        Each IsSoundReply (told_of_all says encoding docs)
    all_sound [] h = tt
    all_sound (d ∷ docs) h =
        each_append IsSoundReply (told_of says encoding lost d) (told_of_all says encoding docs)
        (after_sound (standing d.text) (lost d) (lost_sound d h.0)) (all_sound docs h.1)

    by_sound : (docs : List Doc) (noted : Noted) → IsTextNoted noted → Each IsTextDoc docs →
        Each IsSoundReply (told_by says encoding docs noted)
    by_sound docs Initialized h k = tt
    by_sound docs Exit h k = tt
    by_sound docs (DidOpen uri version text) h k =
        told_sound (opened uri version text)
        (record { uri = h.0; version = h.1; text = followed_text (Some text) h.2 })
    by_sound docs (DidChange uri version changes) h k =
        named_sound uri (after_changes encoding version changes) docs
        (λ d l. record {
          uri = l.uri;
          version = h.1;
          text = followed_text (changed_by_all encoding d.text changes)
              (all_changed keep encoding d.text changes l.text
              (recursion_from_All IsTextChange changes h.2));
        }) k
    by_sound docs (DidClose uri) h k = ((tt, h, tt), tt)
    by_sound docs (InvalidParams None) h k = all_sound docs k
    by_sound docs (InvalidParams (Some uri)) h k = named_sound uri lost docs lost_sound k
    by_sound docs Other h k = tt

  -- ---- answers

  answered_sound : (query : Query) (text : Option (List ℕ)) → IfSome text IsUtf8 →
      IsSoundAnswer (answer_by says encoding query text)
  answered_sound query text h = by (checked text) (checked_few text h)
    where
      by : (o : Option (List ℕ)) → IfSome o (λ t. IsUtf8 t × (length t ≤ limit)) →
          IsSoundAnswer (option_map_or (λ t. says.answer_in encoding t query) o Nothing)
      by None k = tt
      by (Some t) k = text_says.answers encoding t query k.0 k.1

  of_sound : (id : Data) (query : Query) (d : Doc) → IsSoundId id → IsTextDoc d →
      IsSoundReply (answer_of says encoding id query d)
  unfolding answer_of
  of_sound id query d h k = (h, k.uri, answered_sound query d.text k.text)

  on_sound : (docs : List Doc) (id : Data) (uri : List ℕ) (query : Query) → IsSoundId id →
      Each IsTextDoc docs → IsSoundReply (answer_on says encoding docs id uri query)
  unfolding answer_on
  on_sound [] id uri query h k = inl h
  on_sound (x ∷ docs) id uri query h k = by (is_named uri x) (on_sound docs id uri query h k.1)
    where
      by : (b : Bool) → IsSoundReply (answer_on says encoding docs id uri query) →
          IsSoundReply (option_map_or (answer_of says encoding id query)
          (if b then Some x else document_of uri docs) (AnswerError id error.InvalidParams))
      by true rest = of_sound id query x h k.0
      by false rest = rest

  first_sound : (id : Data) (asked : Asked) → IsSoundId id →
      IsSoundReply (answer_first id asked)
  first_sound id (Initialize other) h = h
  first_sound id Shutdown h = inl h
  first_sound id (OfDocument uri query) h = inl h
  first_sound id asked.InvalidParams h = inl h
  first_sound id MethodNotFound h = inl h

  ready_sound : (docs : List Doc) (id : Data) (asked : Asked) → IsSoundId id →
      Each IsTextDoc docs → IsSoundReply (answer_ready says encoding docs id asked)
  ready_sound docs id (Initialize other) h k = inl h
  ready_sound docs id Shutdown h k = h
  ready_sound docs id (OfDocument uri query) h k = on_sound docs id uri query h k
  ready_sound docs id asked.InvalidParams h k = inl h
  ready_sound docs id MethodNotFound h k = inl h

  in_sound : (phase : Phase) (docs : List Doc) (id : Data) (asked : Asked) → IsSoundId id →
      Each IsTextDoc docs → IsSoundReply (answer_in_phase says phase encoding docs id asked)
  in_sound New docs id asked h k = first_sound id asked h
  in_sound Ready docs id asked h k = ready_sound docs id asked h k
  in_sound Shut docs id asked h k = inl h
  in_sound (Gone clean) docs id asked h k = inl h

-- ---- messages

module _ (says : Says) (text_says : SaysText says) (keep : KeepsText) where
  note_sound : (s : Served) (noted : Noted) → IsTextNoted noted → Each IsTextDoc s.docs →
      Each IsSoundReply (told_note says s noted)
  note_sound s noted h k = by (is_ready s.phase)
    where
      by : (b : Bool) → Each IsSoundReply (cond b (told_by says s.encoding s.docs noted) [])
      by true = by_sound says text_says s.encoding keep s.docs noted h k
      by false = tt

  heard_sound : (s : Served) (heard : Heard) → IsTextHeard heard → Each IsTextDoc s.docs →
      Each IsSoundReply (replies_to says s heard)
  heard_sound s NoJson h k = (inr refl, all_sound says text_says s.encoding keep s.docs k)
  heard_sound s NoMessage h k = (inr refl, tt)
  heard_sound s Response h k = tt
  heard_sound s (Request id asked) h k =
      (in_sound says text_says s.encoding s.phase s.docs id asked h.0 k, tt)
  heard_sound s (Notification noted) h k = note_sound s noted h k

  pub replies_back : ReadsBack → (s : Served) (turn : Turn) → IsTextHeard (heard_at turn) →
      AreTextDocs s.docs → All IsReadBack (replied says s turn)
  replies_back laws s turn h k =
      All-from_recursion IsReadBack (replied says s turn)
      (each_weaker IsSoundReply IsReadBack (read_back laws) (replied says s turn)
      (heard_sound s (heard_at turn) h (recursion_from_All IsTextDoc s.docs k)))
