-- The bytes of replies.
use Rattle.std.specs.Prelude.{◌≡◌, ℕ, List, [], ◌∷◌, ◌++◌, map, flat_map, Option}
use Rattle.std.proofs.Common.{refl, ap, sym}
use Rattle.std.proofs.lemmas.Grind.{flat_map-append}
use Rattle.std.proofs.lemmas.List.{append-nil}
use Rattle.json.specs.Print.{quoted}
use Rattle.serde_json.specs.Data.{Data}
use Rattle.snl_frame.specs.Framed.{framed}
use Rattle.snl_say.specs.Answered.{Answered}
use Rattle.snl_say.specs.Publish.{Found}
use Rattle.snl_replies.specs.Replies.{Reply, Answer, Publish, body_of, framed_answer, framed_publish, framed_reply, said_of}

pub publish_framed : (found : List Found) (uri quoted_uri : List ℕ) (version : Option ℕ) →
    quoted_uri ≡ quoted uri →
    framed_publish found quoted_uri version ≡ framed_reply (Publish found uri version)
unfolding framed_publish framed_reply
publish_framed found uri quoted_uri version is = rw is refl

pub answer_framed : (id : Data) (uri quoted_uri : List ℕ) (answered : Answered) →
    quoted_uri ≡ quoted uri →
    framed_answer id quoted_uri answered ≡ framed_reply (Answer id uri answered)
unfolding framed_answer framed_reply
answer_framed id uri quoted_uri answered is = rw is refl

-- As bodies, each in its frame.
pub said_framed : (replies : List Reply) → flat_map framed (map body_of replies) ≡ said_of replies
unfolding framed_reply said_of
said_framed [] = refl
said_framed (reply ∷ replies) =
    ap (λ (l : List ℕ). framed (body_of reply) ++ l) (said_framed replies)

pub said_append : (first rest : List Reply) →
    said_of (first ++ rest) ≡ said_of first ++ said_of rest
unfolding said_of
said_append first rest = flat_map-append framed_reply first rest

pub said_none : (old : List ℕ) (replies : List Reply) → replies ≡ [] → old ≡ old ++ said_of replies
unfolding said_of
said_none old replies none = rw none (sym (append-nil old))
