-- What is kept of documents is text.
use Rattle.std.proofs.Common.{ℕ, Bool, true, false, List, [], ◌∷◌, map, take, drop, Option, None, Some, IsUtf8, nat_le, nat_lt, sym, subst, append_assoc}
use Rattle.std.specs.Prelude.{IfSome, if◌then◌else◌}
use Rattle.std.specs.List.{AllByRecursion as Each}
use Rattle.std.proofs.lemmas.List.Elements.{All-from_recursion, recursion_from_All}
use Rattle.snl_facts.specs.Each.{each_filter}
use Rattle.snl_place.specs.declared.places.Encoding.{Encoding}
use Rattle.snl_place.specs.declared.places.Place.{Place}
use Rattle.snl_place.specs.Places.{offset_in}
use Rattle.snl_lists.specs.Moves.{replaced}
use Rattle.snl_lex.specs.Edit.{spliced}
use Rattle.snl_hear.specs.Changes.{Changed, Part, Whole}
use Rattle.snl_hear.specs.Heard.{Heard, NoJson, NoMessage, Response, Request, Notification}
use Rattle.snl_hear.specs.Notifications.{Noted, Initialized, Exit, DidOpen, DidChange, DidClose, InvalidParams, Other}
use Rattle.snl_hear.specs.Requests.{Asked, Initialize, Shutdown, OfDocument, MethodNotFound}
use Rattle.snl_hear.specs.Requests as asked
use Rattle.snl_docs.specs.declared.phase.Phase.{Phase}
use Rattle.snl_docs.specs.declared.phase.Phase.TheVariants.{New, Ready, Shut, Gone}
use Rattle.snl_docs.specs.Served.{Served, after, after_heard, after_note, after_request, docs_after, is_ready, start, with_docs}
use Rattle.snl_document.specs.Documents.{Doc, after_changes, is_named, lost, opened, put, updated}
use Rattle.snl_document.specs.Texts.{changed, changed_by_all, followed, longest}
use Rattle.snl_turns.specs.Turns.{Turn, heard_at}
use Rattle.snl_server_laws.specs.Answered.{kept_after}
use Rattle.snl_server_laws.specs.Texts.{AreTextDocs, IsTextChange, IsTextDoc, IsTextHeard, IsTextNoted}

-- a text stays one where text comes in the place of what is between two places
abbrev pub KeepsText : Type 0
KeepsText = (encoding : Encoding) (text new : List ℕ) (start stop : Place) → IsUtf8 text →
    IsUtf8 new → IsUtf8 (replaced text (offset_in encoding start.line start.character text)
    (offset_in encoding stop.line stop.character text) new)

-- ---- one text

pub followed_text : (text : Option (List ℕ)) → IfSome text IsUtf8 → IfSome (followed text) IsUtf8
followed_text None h = tt
followed_text (Some text) h = by (nat_le _ longest)
  where
    by : (b : Bool) → IfSome (if b then Some text else None) IsUtf8
    by true = h
    by false = tt

module _ (keep : KeepsText) (encoding : Encoding) where
  changed_text : (text : Option (List ℕ)) (c : Changed) → IfSome text IsUtf8 → IsTextChange c →
      IfSome (changed encoding text c) IsUtf8
  changed_text text (Whole new) h k = k
  changed_text None (Part start stop new) h k = tt
  changed_text (Some text) (Part start stop new) h k = by (nat_lt to from)
    where
      from : ℕ
      from = offset_in encoding start.line start.character text

      to : ℕ
      to = offset_in encoding stop.line stop.character text

      by : (b : Bool) → IfSome (if b then None else Some (spliced text from to new)) IsUtf8
      by true = tt
      by false =
          subst IsUtf8 (sym (append_assoc (take from text) new (drop to text)))
          (keep encoding text new start stop h k)

  pub all_changed : (text : Option (List ℕ)) (cs : List Changed) → IfSome text IsUtf8 →
      Each IsTextChange cs → IfSome (changed_by_all encoding text cs) IsUtf8
  all_changed text [] h k = h
  all_changed text (c ∷ cs) h k =
      all_changed (changed encoding text c) cs (changed_text text c h k.0) k.1

  -- ---- documents

  pub lost_text : (d : Doc) → IsTextDoc d → IsTextDoc (lost d)
  lost_text d h = record { uri = h.uri; version = tt; text = tt }

  put_text : (d : Doc) (docs : List Doc) → IsTextDoc d → Each IsTextDoc docs →
      Each IsTextDoc (put d docs)
  put_text d [] h k = (h, tt)
  put_text d (x ∷ docs) h k = by (is_named d.uri x) (put_text d docs h k.1)
    where
      by : (b : Bool) → Each IsTextDoc (put d docs) →
          Each IsTextDoc (if b then d ∷ docs else x ∷ put d docs)
      by true rest = (h, k.1)
      by false rest = (k.0, rest)

  updated_text : (uri : List ℕ) (change : Doc → Doc) (docs : List Doc) →
      ((d : Doc) → IsTextDoc d → IsTextDoc (change d)) → Each IsTextDoc docs →
      Each IsTextDoc (updated uri change docs)
  updated_text uri change [] h k = tt
  updated_text uri change (x ∷ docs) h k =
      by (is_named uri x) (updated_text uri change docs h k.1)
    where
      by : (b : Bool) → Each IsTextDoc (updated uri change docs) →
          Each IsTextDoc (if b then change x ∷ docs else x ∷ updated uri change docs)
      by true rest = (h x k.0, k.1)
      by false rest = (k.0, rest)

  all_lost : (docs : List Doc) → Each IsTextDoc docs → Each IsTextDoc (map lost docs)
  all_lost [] h = tt
  all_lost (d ∷ docs) h = (lost_text d h.0, all_lost docs h.1)

  note_text : (docs : List Doc) (noted : Noted) → IsTextNoted noted → Each IsTextDoc docs →
      Each IsTextDoc (docs_after encoding docs noted)
  note_text docs Initialized h k = k
  note_text docs Exit h k = k
  note_text docs (DidOpen uri version text) h k =
      put_text (opened uri version text) docs (record {
        uri = h.0;
        version = h.1;
        text = followed_text (Some text) h.2;
      }) k
  note_text docs (DidChange uri version changes) h k =
      updated_text uri (after_changes encoding version changes) docs
      (λ d l. record {
        uri = l.uri;
        version = h.1;
        text = followed_text (changed_by_all encoding d.text changes)
            (all_changed d.text changes l.text (recursion_from_All IsTextChange changes h.2));
      }) k
  note_text docs (DidClose uri) h k = each_filter IsTextDoc _ docs k
  note_text docs (InvalidParams None) h k = all_lost docs k
  note_text docs (InvalidParams (Some uri)) h k = updated_text uri lost docs lost_text k
  note_text docs Other h k = k

-- ---- messages

request_text : (s : Served) (phase : Phase) (asked : Asked) → Each IsTextDoc s.docs →
    Each IsTextDoc (after_request phase s asked).docs
request_text s New (Initialize encoding) h = h
request_text s New Shutdown h = h
request_text s New (OfDocument uri query) h = h
request_text s New asked.InvalidParams h = h
request_text s New MethodNotFound h = h
request_text s Ready (Initialize encoding) h = h
request_text s Ready Shutdown h = h
request_text s Ready (OfDocument uri query) h = h
request_text s Ready asked.InvalidParams h = h
request_text s Ready MethodNotFound h = h
request_text s Shut asked h = h
request_text s (Gone clean) asked h = h

module _ (keep : KeepsText) where
  ready_text : (s : Served) (noted : Noted) (ready : Bool) → IsTextNoted noted →
      Each IsTextDoc s.docs → Each IsTextDoc (if ready
      then with_docs s (docs_after s.encoding s.docs noted) else s).docs
  ready_text s noted true h k = note_text keep s.encoding s.docs noted h k
  ready_text s noted false h k = k

  noted_text : (s : Served) (noted : Noted) → IsTextNoted noted → Each IsTextDoc s.docs →
      Each IsTextDoc (after_note s noted).docs
  noted_text s Exit h k = k
  noted_text s Initialized h k = ready_text s Initialized (is_ready s.phase) h k
  noted_text s (DidOpen uri version text) h k =
      ready_text s (DidOpen uri version text) (is_ready s.phase) h k
  noted_text s (DidChange uri version changes) h k =
      ready_text s (DidChange uri version changes) (is_ready s.phase) h k
  noted_text s (DidClose uri) h k = ready_text s (DidClose uri) (is_ready s.phase) h k
  noted_text s (InvalidParams uri) h k = ready_text s (InvalidParams uri) (is_ready s.phase) h k
  noted_text s Other h k = ready_text s Other (is_ready s.phase) h k

  after_text : (s : Served) (heard : Heard) → IsTextHeard heard → Each IsTextDoc s.docs →
      Each IsTextDoc (after_heard s heard).docs
  after_text s NoJson h k = all_lost keep s.encoding s.docs k
  after_text s NoMessage h k = k
  after_text s Response h k = k
  after_text s (Request id asked) h k = request_text s s.phase asked k
  after_text s (Notification noted) h k = noted_text s noted h k

  kept_text : (s : Served) (turns : List Turn) →
      ((turn : Turn) → IsTextHeard (heard_at turn)) → Each IsTextDoc s.docs →
      Each IsTextDoc (kept_after s turns).docs
  unfolding after
  kept_text s [] heard h = h
  kept_text s (turn ∷ turns) heard h =
      kept_text (after s turn) turns heard (after_text s (heard_at turn) (heard turn) h)

  pub documents_text : (turns : List Turn) → ((turn : Turn) → IsTextHeard (heard_at turn)) →
      AreTextDocs (kept_after start turns).docs
  unfolding start
  documents_text turns heard =
      All-from_recursion IsTextDoc (kept_after start turns).docs
      (kept_text start turns heard none)
    where
      none : Each IsTextDoc []
      none = tt
