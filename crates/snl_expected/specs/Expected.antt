-- Which tokens may come after some, by the grammar of items.
use Rattle.std.specs.Prelude.{ℕ, suc, Bool, true, List, [], ◌∷◌, ◌++◌, filter, length, nat_lt, not}
use Rattle.snl_lex.specs.declared.kind.Kind.{Kind}
use Rattle.snl_lex.specs.declared.kind.Kind.TheVariants as kind
use Rattle.snl_grammar.specs.Viability.{IsViable}
use Rattle.snl_syntax.specs.declared.recognizer.Recognition.{Recognition}
use Rattle.snl_syntax.specs.declared.recognizer.Recognition.TheVariants as recognition
use Rattle.snl_syntax.specs.Recognized.{recognition_of}
use Rattle.snl_expected.specs.Kinds.{all_kinds}

-- A token of this kind may come after these: with it an item can begin.
abbrev pub MayCome : List Kind → Kind → Type 0
MayCome before next = IsViable (before ++ next ∷ []) (suc (length before))

-- What the reader is asked: the tokens with the one in question, and one more. So where only the
-- end is missing, that one is blamed. Which one it is doesn't matter.
abbrev pub asked : List Kind → Kind → List Kind
asked before next = before ++ next ∷ kind.Semicolon ∷ []

-- The reader goes past so many tokens and one more.
abbrev pub goes_past : ℕ → Recognition → Bool
goes_past count recognition.Item = true
goes_past count (recognition.NoItem at) = nat_lt count at

-- The same as `MayCome`, as a value.
abbrev pub comes : List Kind → Kind → Bool
comes before next = goes_past (length before) (recognition_of (asked before next))

-- The kinds of all tokens that may come after these, and all others.
abbrev pub expected_of : List Kind → List Kind
expected_of before = filter (comes before) all_kinds

abbrev pub may_not : List Kind → Kind → Bool
may_not before next = not (comes before next)

abbrev pub others_of : List Kind → List Kind
others_of before = filter (may_not before) all_kinds

-- The answer is whether the fact holds.
abbrev pub IsWhether : Bool → Type 0 → Type 0
IsWhether true A = A
IsWhether _ A = A → ⊥
