-- What is written for the messages of a client.
use Rattle.std.specs.Prelude.{◌≡◌, ℕ, List, [], ◌∷◌, ◌++◌, flat_map, None, ⊤}
use Rattle.snl_turns.specs.Turns.{Turn}
use Rattle.snl_frame.specs.Framed.{framed}
use Rattle.snl_talk.specs.Talks.{Talk, after, ended_of, replies}

-- The server goes on: `exit` did not come yet.
abbrev pub GoesOn : {S : Type 0} → Talk S → S → Type 0
GoesOn talk served = ended_of talk served ≡ None

-- The server went on up to the last of these messages.
abbrev pub AreHeard : {S : Type 0} → Talk S → S → List Turn → Type 0
AreHeard talk served [] = ⊤
AreHeard talk served (t ∷ ts) = GoesOn talk served × AreHeard talk (after talk served t) ts

-- What is written for a message: each answer in its frame.
abbrev pub reply : {S : Type 0} → Talk S → S → Turn → List ℕ
reply talk served turn = flat_map framed (replies talk served turn)

-- What is written for messages, in order.
abbrev pub transcript : {S : Type 0} → Talk S → S → List Turn → List ℕ
transcript talk served [] = []
transcript talk served (t ∷ ts) = reply talk served t ++ transcript talk (after talk served t) ts

-- What is served after messages.
abbrev pub served_after : {S : Type 0} → Talk S → S → List Turn → S
served_after talk served [] = served
served_after talk served (t ∷ ts) = served_after talk (after talk served t) ts
