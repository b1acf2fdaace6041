-- An item is written by its pieces.
use Rattle.std.specs.Prelude.{codes}
use Rattle.std.proofs.Common.{◌≡◌, ◌∙◌, ◌<◌, ℕ, Bool, List, [], ◌∷◌, ◌++◌, length}
use Rattle.std.proofs.Common.{ap, arith, sym, append-nil, append_assoc}
use Rattle.std.proofs.lemmas.List.Concat.{flat_map-append}
use Rattle.json.specs.Print.{escape, escape_byte}
use Rattle.serde_json.specs.Written.{comma_if}
use Rattle.snl_script.specs.Parts.{quoted as in_quotes}
use Rattle.snl_say.specs.Items.{item_end, item_front}
use Rattle.snl_say.specs.Places.{range_text}
use Rattle.snl_say.specs.Publish.{found_of, item_text, severity_text}
use Rattle.snl_say.specs.declared.diagnostics.Shown.{Shown}

-- the quotes of a string are written with what is round it
string_then : (bytes after : List ℕ) →
    (34 ∷ (bytes ++ 34 ∷ [])) ++ after ≡ 34 ∷ (bytes ++ 34 ∷ after)
string_then bytes after = ap (λ (l : List ℕ). 34 ∷ l) (append_assoc bytes (34 ∷ []) after)

-- what a message quotes is written after it
message_then : (message quotes after : List ℕ) →
    (34 ∷ (escape (message ++ quotes) ++ 34 ∷ [])) ++ after
    ≡ 34 ∷ (escape message ++ (escape quotes ++ 34 ∷ after))
message_then message quotes after =
    string_then (escape (message ++ quotes)) after
    ∙ ap (λ (l : List ℕ). 34 ∷ (l ++ 34 ∷ after)) (flat_map-append escape_byte message quotes)
    ∙ ap (λ (l : List ℕ). 34 ∷ l)
    (append_assoc (escape message) (escape quotes) (34 ∷ after))

item_pieces : (begin : List ℕ) (s : Shown) →
    begin ++ item_text (found_of s)
    ≡ (begin ++ codes "{\"code\":\"") ++ (escape s.code.now ++ (codes "\",\"message\":\""
    ++ (escape s.message.now ++ (escape (in_quotes s.quoted.now) ++ item_end (found_of s)))))
unfolding item_text
item_pieces begin s =
    let code = escape s.code.now in
    let quotes = in_quotes s.quoted.now in
    let range : List ℕ = range_text s.start s.stop in
    let severity : List ℕ = severity_text s.severity in
    let after : List ℕ = codes ",\"range\":" ++ (range ++ (severity ++ [])) in
    let end : List ℕ = codes "\",\"range\":" ++ (range ++ severity) in
    ap (λ (l : List ℕ). begin ++ (codes "{\"code\":" ++ l))
    (string_then code (codes ",\"message\":"
    ++ ((34 ∷ (escape (s.message.now ++ quotes) ++ 34 ∷ [])) ++ after))
    ∙ ap (λ (l : List ℕ). 34 ∷ (code ++ (codes "\",\"message\":" ++ l)))
    (message_then s.message.now quotes after
    ∙ ap (λ (l : List ℕ). 34 ∷ (escape s.message.now ++ (escape quotes
    ++ (codes "\",\"range\":" ++ (range ++ l)))))
    (append-nil severity)))
    ∙ sym (append_assoc begin (codes "{\"code\":\"") (code ++ (codes "\",\"message\":\""
    ++ (escape s.message.now ++ (escape quotes ++ end)))))

-- what is quoted is written between its marks
pub quotation_then : (bytes after : List ℕ) → 0 < length bytes →
    escape (in_quotes bytes) ++ after ≡ codes " '" ++ (escape bytes ++ (codes "'" ++ after))
unfolding escape_byte
quotation_then [] after some = absurd (omega (arith, some))
quotation_then (b ∷ bytes) after some =
    let marked : List ℕ = escape ((b ∷ bytes) ++ (codes "'" ++ [])) in
    let split : marked ≡ escape (b ∷ bytes) ++ codes "'" =
    flat_map-append escape_byte (b ∷ bytes) (codes "'" ++ []) in
    ap (λ (l : List ℕ). codes " '" ++ (l ++ after)) split
    ∙ ap (λ (l : List ℕ). codes " '" ++ l) (append_assoc (escape (b ∷ bytes)) (codes "'") after)

pub item_put : (later : Bool) (s : Shown) (out o1 o2 new : List ℕ) →
    o1 ≡ out ++ item_front later s.code.now → o2 ≡ o1 ++ escape s.message.now →
    new ≡ o2 ++ (escape (in_quotes s.quoted.now) ++ item_end (found_of s)) →
    new ≡ out ++ (comma_if later ++ item_text (found_of s))
item_put later s out o1 o2 new e1 e2 en =
    en ∙ rw (e2, e1, item_pieces (comma_if later) s) (simp append_assoc)
