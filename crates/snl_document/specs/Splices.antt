-- The splice that a change of a text is.
use Rattle.std.specs.Prelude.{◌≡◌, ℕ, ◌≤◌, List, Some, length}
use Rattle.snl_place.specs.declared.places.Encoding.{Encoding}
use Rattle.snl_place.specs.declared.trim.Splice.{Splice}
use Rattle.snl_hear.specs.Changes.{Changed}
use Rattle.snl_lex.specs.Edit.{spliced}
use Rattle.snl_document.specs.Texts.{changed_part, limit}

-- Its range is one of the text, and it gives the text after the change.
pub record IsSpliceOf (encoding : Encoding) (text : List ℕ) (change : Changed) (s : Splice) :
    Type 0 where
  pub order : s.start ≤ s.stop
  pub inside : s.stop ≤ length text
  pub same : changed_part encoding change text ≡ Some (spliced text s.start s.stop s.new.now)

-- The same, and the text after it is one to check.
pub record Fits (encoding : Encoding) (text : List ℕ) (change : Changed) (s : Splice) :
    Type 0 where
  pub splice : IsSpliceOf encoding text change s
  pub fits : length (spliced text s.start s.stop s.new.now) ≤ limit
