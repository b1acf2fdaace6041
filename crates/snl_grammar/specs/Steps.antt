-- The steps that readers are made of. A reader takes tokens from the left; it answers what it read
-- and what is left, or the tokens from the first one on that it can't take.
use Rattle.std.specs.Prelude.{◌≡◌, ℕ, zero, suc, Bool, true, false, if◌then◌else◌, List, [], ◌∷◌, ◌++◌, length, Option, Some, None, option_to_list, Result, Ok, Err}
use Rattle.snl_lex.specs.declared.kind.Kind.{Kind}
use Rattle.snl_grammar.specs.declared.step.Step.{Step}
use Rattle.snl_grammar.specs.declared.step.Step.TheVariants as steps
use Rattle.snl_grammar.specs.Tokens.{NumberedKind, same}

abbrev pub Outcome : Type 0 → Type 0
Outcome A = Result (A × List NumberedKind) (List NumberedKind)

abbrev pub Reader : Type 0 → Type 0
Reader A = List NumberedKind → Outcome A

unfoldable pub and_then : {A B : Type 0} → Outcome A → (A → Reader B) → Outcome B
and_then (Ok p) f = f p.0 p.1
and_then (Err j) f = Err j

infixl 10 ◌>>=◌
abbrev pub ◌>>=◌ : {A B : Type 0} → Reader A → (A → Reader B) → Reader B
p >>= f = λ k. and_then (p k) f

infixl 10 ◌>>◌
abbrev pub ◌>>◌ : {A B : Type 0} → Reader A → Reader B → Reader B
p >> q = p >>= (λ _. q)

abbrev pub pure : {A : Type 0} → A → Reader A
pure a = λ k. Ok (a, k)

-- the next token is blamed
abbrev pub refuse : {A : Type 0} → Reader A
refuse = λ k. Err k

-- ---- tokens

unfoldable pub kind_at : List NumberedKind → Option Kind
kind_at [] = None
kind_at (s ∷ k) = Some s.0

-- the number of the next token, which is of this kind
unfoldable pub expect : Kind → Reader ℕ
expect x [] = Err []
expect x (s ∷ k) = if same s.0 x then Ok (s.1, k) else Err (s ∷ k)

-- whether the next token is of this kind; it is taken then
unfoldable pub accept : Kind → Reader Bool
accept x [] = Ok (false, [])
accept x (s ∷ k) = if same s.0 x then Ok (true, k) else Ok (false, s ∷ k)

-- a token that means a value
abbrev pub word : {A : Type 0} → Kind → A → Reader A
word x a = expect x >> pure a

-- ---- lists: element after element, until one answers that there is none

abbrev pub more_or : {A : Type 0} → List A → (List A → Reader (List A)) → Option A → Reader (List A)
more_or found go None = pure found
more_or found go (Some x) = go (found ++ x ∷ [])

unfoldable pub many_within : {A : Type 0} → Reader (Option A) → ℕ → List A → Reader (List A)
many_within next zero found = pure found
many_within next (suc n) found = next >>= more_or found (many_within next n)

-- as many elements as there are, after those that were found: never more than tokens
unfoldable pub many : {A : Type 0} → Reader (Option A) → List A → Reader (List A)
many next found = λ k. many_within next (suc (length k)) found k

-- ---- lists that something else ends, which may bring a last element

abbrev pub again_or : {A B : Type 0} → List A → (List A → Reader (List A × B)) → Step A B → Reader (List A × B)
again_or found go (steps.More x) = go (found ++ x ∷ [])
again_or found go (steps.Last x y) = pure (found ++ option_to_list x, y)

unfoldable pub until_within : {A B : Type 0} → Reader (Step A B) → ℕ → List A → Reader (List A × B)
until_within step zero found = refuse
until_within step (suc n) found = step >>= again_or found (until_within step n)

unfoldable pub until : {A B : Type 0} → Reader (Step A B) → List A → Reader (List A × B)
until step found = λ k. until_within step (suc (length k)) found k

-- ---- what is in brackets, where so many levels are left: with none its first token is blamed

unfoldable pub within : {A : Type 0} → ℕ → Reader A → Reader A
within zero p = refuse
within (suc n) p = p
