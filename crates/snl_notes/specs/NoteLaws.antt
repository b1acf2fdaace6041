-- What notes promise, in the words of the grammar.
use Rattle.std.specs.Prelude.{◌≡◌, ℕ, ◌≤◌, List, Some, Contains}
use Rattle.snl_lex.specs.declared.kind.Kind.{Kind}
use Rattle.snl_expected.specs.DescriptionLaws.{IsDescribed}
use Rattle.snl_expected.specs.Expected.{MayCome}
use Rattle.snl_notes.specs.Near.{distance, few, word_of}
use Rattle.snl_notes.specs.Notes.{description_after}

-- What is named is exactly what may come: a token of a kind that is named makes with those before
-- it the beginning of an item, and each kind that does is named.
pub record IsExact (before : List Kind) (next : Kind) : Type 0 where
  pub only : IsDescribed (description_after before) next → MayCome before next
  pub all : MayCome before next → IsDescribed (description_after before) next

-- A reserved word that a name is nearly spelled as, and none of these is nearer.
pub record IsNearWord (name : List ℕ) (kinds : List Kind) (word : Kind) : Type 0 where
  pub among : Contains kinds word
  pub bytes : List ℕ
  pub spelled : word_of word ≡ Some bytes
  pub near : distance name bytes ≤ few name
  pub nearest : (other : Kind) (spelled : List ℕ) → Contains kinds other →
      word_of other ≡ Some spelled → distance name bytes ≤ distance name spelled
