-- How headers and messages are written.
use Rattle.std.specs.Prelude.{◌≡◌, ℕ, ◌≤◌, ◌<◌, ◌==◌, true, not, List, [], ◌∷◌, ◌++◌, length, Option, codes, decimal, ⊤}
use Rattle.std.specs.List.{concat, list_all}
use Rattle.snl_frame.specs.Frame.{length_after, longest_line}

-- A field of a header: some bytes, with a CR no more than a line has, and none of them an LF.
pub record IsField (field : List ℕ) : Type 0 where
  pub some : 1 ≤ length field
  pub few : length field < longest_line
  pub clean : list_all (λ b. not (b == 10)) field ≡ true

abbrev pub AreFields : List (List ℕ) → Type 0
AreFields [] = ⊤
AreFields (field ∷ fields) = IsField field × AreFields fields

-- A header: each field in a line, and an empty line.
abbrev pub header_text : (fields : List (List ℕ)) → List ℕ
header_text [] = codes "\r\n"
header_text (field ∷ fields) = field ++ (codes "\r\n" ++ header_text fields)

-- The length that is known after some fields, by the one that was known before them.
abbrev pub given_by : (before : Option ℕ) → (fields : List (List ℕ)) → Option ℕ
given_by before [] = before
given_by before (field ∷ fields) = given_by (length_after before field) fields

-- A body in its frame: a header of one field, and the body.
abbrev pub framed : (body : List ℕ) → List ℕ
framed body =
    concat (codes "Content-Length: " ∷ decimal (length body) ∷ codes "\r\n\r\n" ∷ body ∷ [])
