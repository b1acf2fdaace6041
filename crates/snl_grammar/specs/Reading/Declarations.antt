-- Declarations. How each choice is made, by one token alone:
--   After `[` a `]` means that no length is written; any other token begins a length.
-- `{` begins values in braces, and any other token a value. After the opening brace a `}` means
-- that there are none. After a value in braces `,` is taken first; then `}` ends the list, and any
-- other token begins a further value. A declaration and a function begin alike, with a type, stars
-- and a name. So what follows these is read by `declaration_from`, and what follows the type by
-- `declaration_of`.
use Rattle.std.specs.Prelude.{◌-◌, ℕ, zero, suc, Bool, true, false, List, [], ◌∷◌, Option, Some, None}
use Rattle.snl_lex.specs.declared.kind.Kind.{Kind}
use Rattle.snl_lex.specs.declared.kind.Kind.TheVariants as kind
use Rattle.snl_grammar.specs.declared.step.Step.{Step}
use Rattle.snl_grammar.specs.declared.step.Step.TheVariants as steps
use Rattle.snl_grammar.specs.declared.tree.types.QualifiedType.{QualifiedType}
use Rattle.snl_grammar.specs.declared.tree.types.Pointer.{Pointer}
use Rattle.snl_grammar.specs.declared.tree.expression.Expr.{Expr}
use Rattle.snl_grammar.specs.declared.tree.declaration.Init.{Init}
use Rattle.snl_grammar.specs.declared.tree.declaration.Init.TheVariants as inits
use Rattle.snl_grammar.specs.declared.tree.declaration.Declarator.{Declarator}
use Rattle.snl_grammar.specs.declared.tree.declaration.Declaration.{Declaration}
use Rattle.snl_grammar.specs.Steps.{Reader, ◌>>=◌, ◌>>◌, pure, refuse, kind_at, expect, word, many, until}
use Rattle.snl_grammar.specs.Reading.Types.{type_of, stars}
use Rattle.snl_grammar.specs.Reading.Expressions.{assignx, sequence, next_comma}

-- ---- lengths, of the reader of expressions without commas in the brackets

unfoldable pub some_length : Reader Expr → Reader (Option (Option Expr))
some_length inner = do
  x ← sequence inner
  expect kind.CloseBracket
  pure (Some (Some x))

abbrev pub length_by : Reader Expr → Option Kind → Reader (Option (Option Expr))
length_by inner (Some kind.CloseBracket) = word kind.CloseBracket (Some None)
length_by inner _ = some_length inner

-- a length in brackets, which may be missing
unfoldable pub bracketed_length : Reader Expr → Reader (Option (Option Expr))
bracketed_length inner = expect kind.OpenBracket >> (λ k. length_by inner (kind_at k) k)

abbrev pub next_length_by : Reader Expr → Option Kind → Reader (Option (Option Expr))
next_length_by inner (Some kind.OpenBracket) = bracketed_length inner
next_length_by inner _ = pure None

unfoldable pub next_length : Reader Expr → Reader (Option (Option Expr))
next_length inner = λ k. next_length_by inner (kind_at k) k

abbrev pub lengths : Reader Expr → Reader (List (Option Expr))
lengths inner = many (next_length inner) []

-- ---- values; `value` reads one without braces at this level, `inner` a value within the braces

abbrev pub after_comma_by : Reader Init → Option Kind → Reader (Step Init Bool)
after_comma_by inner (Some kind.CloseBrace) = pure (steps.Last None true)
after_comma_by inner _ = do
  x ← inner
  pure (steps.More x)

-- after a value and its comma
unfoldable pub after_comma : Reader Init → Reader (Step Init Bool)
after_comma inner = expect kind.Comma >> (λ k. after_comma_by inner (kind_at k) k)

abbrev pub value_step_by : Reader Init → Option Kind → Reader (Step Init Bool)
value_step_by inner (Some kind.Comma) = after_comma inner
value_step_by inner _ = pure (steps.Last None false)

unfoldable pub value_step : Reader Init → Reader (Step Init Bool)
value_step inner = λ k. value_step_by inner (kind_at k) k

unfoldable pub some_values : Reader Init → Reader Init
some_values inner = do
  first ← inner
  r ← until (value_step inner) (first ∷ [])
  expect kind.CloseBrace
  pure (inits.List r.0 r.1)

abbrev pub values_by : Reader Init → Option Kind → Reader Init
values_by inner (Some kind.CloseBrace) = word kind.CloseBrace (inits.List [] false)
values_by inner _ = some_values inner

-- values in braces
unfoldable pub values : Reader Init → Reader Init
values inner = expect kind.OpenBrace >> (λ k. values_by inner (kind_at k) k)

unfoldable pub plain_value : Reader Expr → Reader Init
plain_value value = do
  x ← value
  pure (inits.Value x)

abbrev pub init_by : Reader Expr → Reader Init → Option Kind → Reader Init
init_by value inner (Some kind.OpenBrace) = values inner
init_by value inner _ = plain_value value

unfoldable pub init_of : Reader Expr → Reader Init → Reader Init
init_of value inner = λ k. init_by value inner (kind_at k) k

-- what a declarator begins with, in so many levels with the one that it is in
unfoldable pub init : ℕ → Reader Init
init zero = refuse
init (suc depth) = init_of (assignx (suc depth)) (init depth)

-- ---- declarators and declarations; `inner` reads an expression without commas one level deeper,
-- `value` what comes after `=`

unfoldable pub some_init : Reader Init → Reader (Option Init)
some_init value = do
  expect kind.Equal
  x ← value
  pure (Some x)

abbrev pub init_part_by : Reader Init → Option Kind → Reader (Option Init)
init_part_by value (Some kind.Equal) = some_init value
init_part_by value _ = pure None

-- `=` and a value, if it is there
unfoldable pub init_part : Reader Init → Reader (Option Init)
init_part value = λ k. init_part_by value (kind_at k) k

module _ (inner : Reader Expr) (value : Reader Init) where
  -- a declarator after its name
  unfoldable pub declarator_from : List Pointer → ℕ → Reader Declarator
  declarator_from ps n = do
    ls ← lengths inner
    x ← init_part value
    pure (record { pointers = ps; name = n; lengths = ls; init = x })

  unfoldable pub declarator : Reader Declarator
  declarator = do
    ps ← stars
    n ← expect kind.Name
    declarator_from ps n

  unfoldable pub more_declarators : QualifiedType → Declarator → Reader Declaration
  more_declarators t first = do
    all ← many (next_comma declarator) (first ∷ [])
    expect kind.Semicolon
    pure (record { of = t; declarators = all })

  -- a declaration after its first name
  unfoldable pub declaration_from : QualifiedType → List Pointer → ℕ → Reader Declaration
  declaration_from t ps n = do
    first ← declarator_from ps n
    more_declarators t first

  -- a declaration after its type
  unfoldable pub declaration_of : QualifiedType → Reader Declaration
  declaration_of t = do
    first ← declarator
    more_declarators t first

  unfoldable pub declaration_in : Reader Declaration
  declaration_in = do
    t ← type_of
    declaration_of t

-- a declaration, in so many levels with the one that it is in
unfoldable pub declaration : ℕ → Reader Declaration
declaration zero = refuse
declaration (suc depth) = declaration_in (assignx depth) (init (suc depth))

-- a rule of declarations, in so many levels with the one that it is in
abbrev pub in_levels : {A : Type 0} → ℕ → (Reader Expr → Reader Init → A) → A
in_levels depth rule = rule (assignx (depth - 1)) (init depth)
