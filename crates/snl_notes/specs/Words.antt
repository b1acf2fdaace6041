-- What may come at a place, as a sentence.
use Rattle.std.specs.Prelude.{ℕ, ◌+◌, ◌++◌, ◌==◌, List, [], ◌∷◌, Option, Some, None, codes, if◌then◌else◌, length, map}
use Rattle.snl_lex.specs.declared.kind.Kind.{Kind}
use Rattle.snl_expected.specs.Groups.{Described, group_phrase}
use Rattle.snl_expected.specs.Kinds.{phrase_of}

-- What may come, phrase by phrase: first what is named one by one, then groups.
abbrev pub phrases_of : Described → List (List ℕ)
phrases_of d = map phrase_of d.kinds ++ map group_phrase d.groups

-- What is put before the phrase with a number, of so many.
abbrev pub separator : (index count : ℕ) → List ℕ
separator index count =
    if index == 0 then [] else if index + 1 == count then codes " or " else codes ", "

-- Phrases of a list of so many, the first of which has a number.
abbrev pub listed_from : (index count : ℕ) → List (List ℕ) → List ℕ
listed_from index count [] = []
listed_from index count (p ∷ ps) =
    separator index count ++ p ++ listed_from (index + 1) count ps

-- `A`, `A or B`, `A, B or C`.
abbrev pub listed : List (List ℕ) → List ℕ
listed ps = listed_from 0 (length ps) ps

-- Where nothing may come, that is so within the levels that an item may have.
abbrev pub expectation : List (List ℕ) → List ℕ
expectation [] = codes "nothing may come here within 100 levels"
expectation (p ∷ ps) = codes "expected " ++ listed (p ∷ ps)

-- The word that may have been meant.
abbrev pub suggestion : Option Kind → List ℕ
suggestion None = []
suggestion (Some word) = codes "; did you mean " ++ (phrase_of word ++ codes "?")

abbrev pub sentence : Described → Option Kind → List ℕ
sentence d meant = expectation (phrases_of d) ++ suggestion meant
