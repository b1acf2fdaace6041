-- The text of an open document: what changes make of it, and whether it is checked. There is none
-- where the client's text isn't known any more.
use Rattle.std.specs.Prelude.{ℕ, List, [], ◌∷◌, length, Option, Some, None, option_and_then, if◌then◌else◌, nat_le, nat_lt}
use Rattle.snl_place.specs.declared.places.Encoding.{Encoding}
use Rattle.snl_place.specs.Places.{offset_in}
use Rattle.snl_hear.specs.Changes.{Changed, Whole, Part}
use Rattle.snl_lex.specs.Edit.{spliced}
use Rattle.snl_document.specs.declared.standing.Standing.{Standing}
use Rattle.snl_document.specs.declared.standing.Standing.TheVariants.{Checked, Large, Lost}

-- A text of at most so many bytes is checked.
abbrev pub limit : ℕ
limit = 1048576

-- A text has at most so many bytes, or it is not followed.
abbrev pub longest : ℕ
longest = 67108864

abbrev pub followed : Option (List ℕ) → Option (List ℕ)
followed None = None
followed (Some text) = if nat_le (length text) longest then Some text else None

-- A range that ends before it begins is none.
abbrev pub spliced_between : (text : List ℕ) (start stop : ℕ) (new : List ℕ) → Option (List ℕ)
spliced_between text start stop new =
    if nat_lt stop start then None else Some (spliced text start stop new)

-- A known text after a change of a part.
abbrev pub changed_part : Encoding → Changed → (text : List ℕ) → Option (List ℕ)
changed_part encoding (Whole new) text = Some new
changed_part encoding (Part start stop new) text =
    spliced_between text (offset_in encoding start.line start.character text)
    (offset_in encoding stop.line stop.character text) new

-- The text after a change. A new text is known, whatever was before it.
abbrev pub changed : Encoding → Option (List ℕ) → Changed → Option (List ℕ)
changed encoding text (Whole new) = Some new
changed encoding text (Part start stop new) =
    option_and_then (changed_part encoding (Part start stop new)) text

-- The text after changes, each of which is one of the text after those before it.
abbrev pub changed_by_all : Encoding → Option (List ℕ) → List Changed → Option (List ℕ)
changed_by_all encoding text [] = text
changed_by_all encoding text (change ∷ changes) =
    changed_by_all encoding (changed encoding text change) changes

-- How a text is served. One of more bytes is followed, but not checked.
abbrev pub standing : Option (List ℕ) → Standing
standing None = Lost
standing (Some text) = if nat_le (length text) limit then Checked else Large

-- The text, where it is checked.
abbrev pub checked : Option (List ℕ) → Option (List ℕ)
checked None = None
checked (Some text) = if nat_le (length text) limit then Some text else None
