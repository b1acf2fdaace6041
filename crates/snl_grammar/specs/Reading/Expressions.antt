-- Expressions. How each choice is made, by one token alone:
-- `sizeof` is taken first, then a `(` after it; then a token that begins a type makes `sizeof
-- (type)`, and any other an operand in brackets. A `(` is taken first; then a token that begins a
-- type makes a cast, and any other an operand in brackets. What may be assigned to is an operand
-- with what comes before and after it alone; so this is read first, and then an operator that
-- assigns makes it one, and any other token lets the tiers of binary operators go on from it.
use Rattle.std.specs.Prelude.{ℕ, zero, suc, ◌==◌, Bool, true, false, List, [], ◌∷◌, Option, Some, None, if◌then◌else◌}
use Rattle.snl_lex.specs.declared.kind.Kind.{Kind}
use Rattle.snl_lex.specs.declared.kind.Kind.TheVariants as kind
use Rattle.snl_grammar.specs.declared.operator.Binary.{Binary}
use Rattle.snl_grammar.specs.declared.operator.Assignment.{Assignment}
use Rattle.snl_grammar.specs.declared.operator.Sign.{Sign}
use Rattle.snl_grammar.specs.declared.operator.Sign.TheVariants as signs
use Rattle.snl_grammar.specs.declared.step.Step.{Step}
use Rattle.snl_grammar.specs.declared.step.Step.TheVariants as steps
use Rattle.snl_grammar.specs.declared.tree.types.TypeName.{TypeName}
use Rattle.snl_grammar.specs.declared.tree.expression.Prefix.{Prefix}
use Rattle.snl_grammar.specs.declared.tree.expression.Prefix.TheVariants as prefixes
use Rattle.snl_grammar.specs.declared.tree.expression.Suffix.{Suffix}
use Rattle.snl_grammar.specs.declared.tree.expression.Suffix.TheVariants as suffixes
use Rattle.snl_grammar.specs.declared.tree.expression.Expr.{Expr}
use Rattle.snl_grammar.specs.declared.tree.expression.Expr.TheVariants as tree
use Rattle.snl_grammar.specs.Operators.{tier, binary_of, binary_kind, assignment_of, assignment_kind, sign_kind}
use Rattle.snl_grammar.specs.Steps.{Reader, ◌>>=◌, ◌>>◌, pure, refuse, kind_at, expect, word, many, until, within}
use Rattle.snl_grammar.specs.Reading.Types.{type_name, begins_type}

-- ---- lists with commas

abbrev pub comma_by : {A : Type 0} → Reader A → Option Kind → Reader (Option A)
comma_by p (Some kind.Comma) = do
  expect kind.Comma
  x ← p
  pure (Some x)
comma_by p _ = pure None

-- the next element after a comma
unfoldable pub next_comma : {A : Type 0} → Reader A → Reader (Option A)
next_comma p = λ k. comma_by p (kind_at k) k

-- one element or more
unfoldable pub commas : {A : Type 0} → Reader A → Reader (List A)
commas p = do
  first ← p
  many (next_comma p) (first ∷ [])

-- ---- leaves

abbrev pub text_by : Option Kind → Reader (Option ℕ)
text_by (Some kind.Text) = do
  n ← expect kind.Text
  pure (Some n)
text_by _ = pure None

unfoldable pub next_text : Reader (Option ℕ)
next_text = λ k. text_by (kind_at k) k

-- all strings that are side by side
unfoldable pub texts : Reader (List ℕ)
texts = do
  first ← expect kind.Text
  many next_text (first ∷ [])

unfoldable pub leaf : Kind → (ℕ → Expr) → Reader Expr
leaf x make = do
  n ← expect x
  pure (make n)

unfoldable pub text : Reader Expr
text = do
  ns ← texts
  pure (tree.Text ns)

unfoldable pub atom_by : Option Kind → Reader Expr
atom_by (Some kind.Name) = leaf kind.Name tree.Name
atom_by (Some kind.Integer) = leaf kind.Integer tree.Integer
atom_by (Some kind.Floating) = leaf kind.Floating tree.Floating
atom_by (Some kind.Character) = leaf kind.Character tree.Character
atom_by (Some kind.Text) = text
atom_by _ = refuse

-- an operand of one token, or of joined strings
unfoldable pub atom : Reader Expr
atom = λ k. atom_by (kind_at k) k

-- ---- trees from what was read

abbrev pub suffixed : Expr → List Suffix → Expr
suffixed x [] = x
suffixed x (s ∷ ss) = tree.Postfix x (s ∷ ss)

abbrev pub prefixed : List Prefix → Expr → Expr
prefixed [] x = x
prefixed (op ∷ ops) x = tree.Prefixed (op ∷ ops) x

abbrev pub chained : Expr → List (Binary × Expr) → Expr
chained x [] = x
chained x (link ∷ links) = tree.Chain x (link ∷ links)

abbrev pub conditional : Expr → List (Expr × Expr) → Expr
conditional x [] = x
conditional x (arm ∷ arms) = tree.Conditional x (arm ∷ arms)

abbrev pub assigned : List (Expr × Assignment) → Expr → Expr
assigned [] x = x
assigned (target ∷ targets) x = tree.Assigned (target ∷ targets) x

abbrev pub sequenced : Expr → List Expr → Expr
sequenced x [] = x
sequenced x (y ∷ ys) = tree.Sequence x (y ∷ ys)

-- ---- operators

abbrev pub in_tier : ℕ → Option Binary → Option Binary
in_tier n None = None
in_tier n (Some op) = if tier op == n then Some op else None

abbrev pub binary_in : ℕ → Option Kind → Option Binary
binary_in n None = None
binary_in n (Some d) = in_tier n (binary_of d)

abbrev pub assignment_in : Option Kind → Option Assignment
assignment_in None = None
assignment_in (Some d) = assignment_of d

abbrev pub link_by : Reader Expr → Option Binary → Reader (Option (Binary × Expr))
link_by operand None = pure None
link_by operand (Some op) = do
  expect (binary_kind op)
  x ← operand
  pure (Some (op, x))

-- an operator of a tier, and an operand
unfoldable pub next_link : ℕ → Reader Expr → Reader (Option (Binary × Expr))
next_link n operand = λ k. link_by operand (binary_in n (kind_at k)) k

unfoldable pub signed : Sign → Reader (Step Prefix Expr)
signed op = do
  expect (sign_kind op)
  pure (steps.More (prefixes.Sign op))

unfoldable pub member : Kind → (ℕ → Suffix) → Reader (Option Suffix)
member x make = do
  expect x
  n ← expect kind.Name
  pure (Some (make n))

-- ---- expressions with commas, of the reader of those without

unfoldable pub sequence : Reader Expr → Reader Expr
sequence inner = do
  first ← inner
  rest ← many (next_comma inner) []
  pure (sequenced first rest)

-- inner reads an expression without commas one level deeper, and names the name of a type there
module _ (inner : Reader Expr) (names : Reader TypeName) where
  unfoldable pub some_arguments : Reader (List Expr)
  some_arguments = do
    xs ← commas inner
    expect kind.CloseParen
    pure xs

  abbrev pub arguments_by : Option Kind → Reader (List Expr)
  arguments_by (Some kind.CloseParen) = word kind.CloseParen []
  arguments_by _ = some_arguments

  -- after the opening bracket
  unfoldable pub arguments : Reader (List Expr)
  arguments = λ k. arguments_by (kind_at k) k

  unfoldable pub subscript : Reader (Option Suffix)
  subscript = do
    expect kind.OpenBracket
    x ← sequence inner
    expect kind.CloseBracket
    pure (Some (suffixes.Subscript x))

  unfoldable pub call : Reader (Option Suffix)
  call = do
    expect kind.OpenParen
    xs ← arguments
    pure (Some (suffixes.Call xs))

  unfoldable pub suffix_by : Option Kind → Reader (Option Suffix)
  suffix_by (Some kind.OpenBracket) = subscript
  suffix_by (Some kind.OpenParen) = call
  suffix_by (Some kind.Dot) = member kind.Dot suffixes.Member
  suffix_by (Some kind.Arrow) = member kind.Arrow suffixes.Arrow
  suffix_by (Some kind.PlusPlus) = word kind.PlusPlus (Some suffixes.Increment)
  suffix_by (Some kind.MinusMinus) = word kind.MinusMinus (Some suffixes.Decrement)
  suffix_by _ = pure None

  unfoldable pub next_suffix : Reader (Option Suffix)
  next_suffix = λ k. suffix_by (kind_at k) k

  -- an operand in brackets, after the opening one
  unfoldable pub group : Option Prefix → Reader (Step Prefix Expr)
  group before = do
    x ← sequence inner
    expect kind.CloseParen
    pure (steps.Last before (tree.Group x))

  unfoldable pub sizeof_type : Reader (Step Prefix Expr)
  sizeof_type = do
    t ← names
    expect kind.CloseParen
    pure (steps.Last None (tree.SizeofType t))

  unfoldable pub cast : Reader (Step Prefix Expr)
  cast = do
    t ← names
    expect kind.CloseParen
    pure (steps.More (prefixes.Cast t))

  abbrev pub sized : Bool → Reader (Step Prefix Expr)
  sized true = sizeof_type
  sized false = group (Some prefixes.Sizeof)

  -- after `sizeof (`
  unfoldable pub sizeof_bracket : Reader (Step Prefix Expr)
  sizeof_bracket = expect kind.OpenParen >> (λ k. sized (begins_type (kind_at k)) k)

  abbrev pub sizeof_by : Option Kind → Reader (Step Prefix Expr)
  sizeof_by (Some kind.OpenParen) = sizeof_bracket
  sizeof_by _ = pure (steps.More prefixes.Sizeof)

  unfoldable pub sizeof : Reader (Step Prefix Expr)
  sizeof = expect kind.Sizeof >> (λ k. sizeof_by (kind_at k) k)

  abbrev pub bracketed : Bool → Reader (Step Prefix Expr)
  bracketed true = cast
  bracketed false = group None

  unfoldable pub bracket : Reader (Step Prefix Expr)
  bracket = expect kind.OpenParen >> (λ k. bracketed (begins_type (kind_at k)) k)

  unfoldable pub plain : Reader (Step Prefix Expr)
  plain = do
    x ← atom
    pure (steps.Last None x)

  unfoldable pub prefix_by : Option Kind → Reader (Step Prefix Expr)
  prefix_by (Some kind.Plus) = signed signs.Plus
  prefix_by (Some kind.Minus) = signed signs.Minus
  prefix_by (Some kind.Exclamation) = signed signs.Not
  prefix_by (Some kind.Tilde) = signed signs.Complement
  prefix_by (Some kind.Star) = signed signs.Dereference
  prefix_by (Some kind.Ampersand) = signed signs.Address
  prefix_by (Some kind.PlusPlus) = signed signs.Increment
  prefix_by (Some kind.MinusMinus) = signed signs.Decrement
  prefix_by (Some kind.Sizeof) = sizeof
  prefix_by (Some kind.OpenParen) = bracket
  prefix_by _ = plain

  -- one operator before an operand, or the operand itself
  unfoldable pub prefix_step : Reader (Step Prefix Expr)
  prefix_step = λ k. prefix_by (kind_at k) k

  unfoldable pub prefix : Reader Expr
  prefix = do
    r ← until prefix_step []
    ss ← many next_suffix []
    pure (prefixed r.0 (suffixed r.1 ss))

  -- the tiers of binary operators up to one, from a first operand on
  unfoldable pub tiers_from : ℕ → Expr → Reader Expr
  tiers_from zero x = pure x
  tiers_from (suc n) x = do
    first ← tiers_from n x
    links ← many (next_link (suc n) (prefix >>= tiers_from n)) []
    pure (chained first links)

  abbrev pub operand : ℕ → Reader Expr
  operand n = prefix >>= tiers_from n

  abbrev pub arm_by : Option Kind → Reader (Option (Expr × Expr))
  arm_by (Some kind.Question) = do
    expect kind.Question
    x ← sequence inner
    expect kind.Colon
    y ← operand 10
    pure (Some (x, y))
  arm_by _ = pure None

  unfoldable pub next_arm : Reader (Option (Expr × Expr))
  next_arm = λ k. arm_by (kind_at k) k

  unfoldable pub conditional_from : Expr → Reader Expr
  conditional_from x = do
    first ← tiers_from 10 x
    arms ← many next_arm []
    pure (conditional first arms)

  abbrev pub target_by : Expr → Option Assignment → Reader (Step (Expr × Assignment) Expr)
  target_by x (Some op) = do
    expect (assignment_kind op)
    pure (steps.More (x, op))
  target_by x None = do
    y ← conditional_from x
    pure (steps.Last None y)

  -- something to assign to with its operator, or the value
  unfoldable pub target_step : Reader (Step (Expr × Assignment) Expr)
  target_step = do
    x ← prefix
    λ k. target_by x (assignment_in (kind_at k)) k

  unfoldable pub single : Reader Expr
  single = do
    r ← until target_step []
    pure (assigned r.0 r.1)

-- the name of a type in brackets, in so many levels
abbrev pub type_within : ℕ → Reader TypeName
type_within depth = within depth type_name

-- an expression without commas, in so many levels
unfoldable pub assignx : ℕ → Reader Expr
assignx zero = refuse
assignx (suc depth) = single (assignx depth) (type_within depth)

-- an expression, in so many levels
abbrev pub expr : ℕ → Reader Expr
expr depth = sequence (assignx depth)

-- a rule of expressions, where so many levels are left inside
abbrev pub inside : {A : Type 0} → ℕ → (Reader Expr → Reader TypeName → A) → A
inside depth rule = rule (assignx depth) (type_within depth)
