-- One step of an operand can be completed where a reader fails, and after `sizeof` no bracket is
-- met.
use Rattle.std.proofs.Common.{◌≡◌, ℕ, Bool, true, false, List, [], ◌∷◌, ◌++◌, Option, Some, None, Ok, Err, refl, sym, ap, ◌∙◌}
use Rattle.snl_lex.specs.declared.kind.Kind.{Kind}
use Rattle.snl_lex.specs.declared.kind.Kind.TheVariants as kind
use Rattle.snl_grammar.specs.declared.operator.Sign.{Sign}
use Rattle.snl_grammar.specs.declared.operator.Sign.TheVariants as signs
use Rattle.snl_grammar.specs.declared.step.Step.{Step}
use Rattle.snl_grammar.specs.declared.step.Step.TheVariants as steps
use Rattle.snl_grammar.specs.declared.tree.types.TypeName.{TypeName}
use Rattle.snl_grammar.specs.declared.tree.expression.Prefix.{Prefix}
use Rattle.snl_grammar.specs.declared.tree.expression.Prefix.TheVariants as prefixes
use Rattle.snl_grammar.specs.declared.tree.expression.Expr.{Expr}
use Rattle.snl_grammar.specs.declared.tree.expression.Expr.TheVariants as tree
use Rattle.snl_grammar.specs.Operators.{sign_kind}
use Rattle.snl_grammar.specs.Tokens.{NumberedKind}
use Rattle.snl_grammar.specs.Steps.{Outcome, Reader, refuse, kind_at, expect}
use Rattle.snl_grammar.specs.Grammar.Expressions.{is_sizeof}
use Rattle.snl_grammar.specs.Reading.Types.{begins_type}
use Rattle.snl_grammar.specs.Reading.Expressions.{atom, signed, sequence, group, sizeof_type, cast, sized, sizeof_bracket, sizeof_by, sizeof, bracketed, bracket, plain, prefix_by, prefix_step}
use Rattle.snl_grammar.proofs.Local.{bind_ok, ok_is}
use Rattle.snl_grammar.proofs.Viable.{Free, Viable, Completable, numbered_kinds, choice_viable, refuse_viable}
use Rattle.snl_grammar.proofs.CommasViable.{Int}
use Rattle.snl_grammar.proofs.AtomViable.{IsStep, Operation, step_makes, signed_viable, plain_viable}
use Rattle.snl_grammar.proofs.BracketViable.{bracket_viable, sizeof_viable}

-- where a step after `sizeof` or not may be
abbrev pub Ready : Bool → List NumberedKind → Type 0
Ready b k = b ≡ true → kind_at k ≡ Some kind.OpenParen → ⊥

module _ (free extra : ℕ) (Inner : Expr → List NumberedKind → List NumberedKind → Type 0) (Names : TypeName → List NumberedKind → List NumberedKind → Type 0) (inner : Reader Expr) (names : Reader TypeName) (fi : Completable free extra inner Inner Int) (fn : Completable free extra names Names (kind.Int ∷ [])) where
  -- directly after `sizeof` no bracket is met
  abbrev closed_by : Option Kind → Reader (Step Prefix Expr)
  closed_by (Some kind.OpenParen) = refuse
  closed_by o = prefix_by inner names o

  prefix_by_viable : (o : Option Kind) → Viable free extra (prefix_by inner names o) (IsStep Inner Names false) (Operation Inner Names false)
  unfolding prefix_by
  prefix_by_viable (Some kind.Plus) = signed_viable free extra Inner Names false signs.Plus
  prefix_by_viable (Some kind.Minus) = signed_viable free extra Inner Names false signs.Minus
  prefix_by_viable (Some kind.Exclamation) = signed_viable free extra Inner Names false signs.Not
  prefix_by_viable (Some kind.Tilde) = signed_viable free extra Inner Names false signs.Complement
  prefix_by_viable (Some kind.Star) = signed_viable free extra Inner Names false signs.Dereference
  prefix_by_viable (Some kind.Ampersand) = signed_viable free extra Inner Names false signs.Address
  prefix_by_viable (Some kind.PlusPlus) = signed_viable free extra Inner Names false signs.Increment
  prefix_by_viable (Some kind.MinusMinus) = signed_viable free extra Inner Names false signs.Decrement
  prefix_by_viable (Some kind.Sizeof) = sizeof_viable free extra Inner Names inner names fi fn false
  prefix_by_viable (Some kind.OpenParen) = bracket_viable free extra Inner Names inner names fi fn
  prefix_by_viable _ = plain_viable free extra Inner Names inner names false

  closed_by_viable : (o : Option Kind) → Viable free extra (closed_by o) (IsStep Inner Names true) (Operation Inner Names true)
  unfolding prefix_by
  closed_by_viable (Some kind.Plus) = signed_viable free extra Inner Names true signs.Plus
  closed_by_viable (Some kind.Minus) = signed_viable free extra Inner Names true signs.Minus
  closed_by_viable (Some kind.Exclamation) = signed_viable free extra Inner Names true signs.Not
  closed_by_viable (Some kind.Tilde) = signed_viable free extra Inner Names true signs.Complement
  closed_by_viable (Some kind.Star) = signed_viable free extra Inner Names true signs.Dereference
  closed_by_viable (Some kind.Ampersand) = signed_viable free extra Inner Names true signs.Address
  closed_by_viable (Some kind.PlusPlus) = signed_viable free extra Inner Names true signs.Increment
  closed_by_viable (Some kind.MinusMinus) = signed_viable free extra Inner Names true signs.Decrement
  closed_by_viable (Some kind.Sizeof) = sizeof_viable free extra Inner Names inner names fi fn true
  closed_by_viable (Some kind.OpenParen) = refuse_viable free extra (IsStep Inner Names true) (Operation Inner Names true) Int (step_makes free extra Inner Names true)
  closed_by_viable _ = plain_viable free extra Inner Names inner names true

  closed_same : (o : Option Kind) → (o ≡ Some kind.OpenParen → ⊥) → prefix_by inner names o ≡ closed_by o
  closed_same (Some kind.OpenParen) h = absurd (h refl)
  closed_same _ h = refl

  closed_viable : Viable free extra (λ k. closed_by (kind_at k) k) (IsStep Inner Names true) (Operation Inner Names true)
  closed_viable = choice_viable free extra closed_by (IsStep Inner Names true) (Operation Inner Names true) closed_by_viable

  open_viable : Viable free extra (prefix_step inner names) (IsStep Inner Names false) (Operation Inner Names false)
  unfolding prefix_step
  open_viable = choice_viable free extra (prefix_by inner names) (IsStep Inner Names false) (Operation Inner Names false) prefix_by_viable

  same_step : (k : List NumberedKind) → Ready true k → closed_by (kind_at k) k ≡ prefix_step inner names k
  unfolding prefix_step
  same_step k ready = ap (λ p. p k) (sym (closed_same (kind_at k) (ready refl)))

  pub step_takes : (b : Bool) (k : List NumberedKind) (s : Step Prefix Expr) (m : List NumberedKind) → Ready b k → prefix_step inner names k ≡ Ok (s, m) → (front : List NumberedKind) × (k ≡ front ++ m) × ((after : List NumberedKind) → IsStep Inner Names b s (front ++ after) after)
  step_takes true k s m ready e = closed_viable.takes k s m (same_step k ready ∙ e)
  step_takes false k s m ready e = open_viable.takes k s m e

  pub step_stuck : (b : Bool) (k j : List NumberedKind) → Ready b k → prefix_step inner names k ≡ Err j → (front : List NumberedKind) × (more : List Kind) × (k ≡ front ++ j) × ((n : ℕ) (rest : List NumberedKind) → Free free extra (numbered_kinds n more ++ rest) → Operation Inner Names b (front ++ (numbered_kinds n more ++ rest)) rest)
  step_stuck true k j ready e = closed_viable.stuck k j (same_step k ready ∙ e)
  step_stuck false k j ready e = open_viable.stuck k j e

-- ---- what follows an operator

module _ (inner : Reader Expr) (names : Reader TypeName) where
  more_is : (s : Step Prefix Expr) (op : Prefix) (k l : List NumberedKind) → (let p : Outcome (Step Prefix Expr) = Ok (s, k) in p ≡ Ok (steps.More op, l)) → (s ≡ steps.More op) × (k ≡ l)
  more_is s op k l e = ok_is s (steps.More op) k l e

  no_size : (a op : Prefix) → is_sizeof a ≡ false → (let s : Step Prefix Expr = steps.More a in s ≡ steps.More op) → is_sizeof op ≡ true → ⊥
  no_size a op f e h = let g : a ≡ op = cc in let i : is_sizeof a ≡ is_sizeof op = ap is_sizeof g in absurd cc

  no_more : (o : Option Prefix) (y : Expr) (op : Prefix) → (let s : Step Prefix Expr = steps.Last o y in s ≡ steps.More op) → ⊥
  no_more o y op e = absurd cc

  signed_ready : (a : Sign) (k : List NumberedKind) (op : Prefix) (m : List NumberedKind) → signed a k ≡ Ok (steps.More op, m) → Ready (is_sizeof op) m
  unfolding signed
  signed_ready a k op m e h q = bind_ok (expect (sign_kind a) k) _ (steps.More op, m) e (λ x m' e1 e2. no_size (prefixes.Sign a) op refl (more_is (steps.More (prefixes.Sign a)) op m' m e2).0 h)

  plain_ready : (k : List NumberedKind) (op : Prefix) (m : List NumberedKind) → plain inner names k ≡ Ok (steps.More op, m) → Ready (is_sizeof op) m
  unfolding plain
  plain_ready k op m e h q = bind_ok (atom k) _ (steps.More op, m) e (λ x m' e1 e2. no_more None x op (more_is (steps.Last None x) op m' m e2).0)

  group_never : (before : Option Prefix) (k : List NumberedKind) (op : Prefix) (m : List NumberedKind) → group inner names before k ≡ Ok (steps.More op, m) → ⊥
  unfolding group
  group_never before k op m e = bind_ok (sequence inner k) _ (steps.More op, m) e (λ x m' e1 e2. bind_ok (expect kind.CloseParen m') _ (steps.More op, m) e2 (λ i m2 e3 e4. no_more before (tree.Group x) op (more_is (steps.Last before (tree.Group x)) op m2 m e4).0))

  sized_never : (b : Bool) (k : List NumberedKind) (op : Prefix) (m : List NumberedKind) → sized inner names b k ≡ Ok (steps.More op, m) → ⊥
  unfolding sizeof_type
  sized_never true k op m e = bind_ok (names k) _ (steps.More op, m) e (λ x m' e1 e2. bind_ok (expect kind.CloseParen m') _ (steps.More op, m) e2 (λ i m2 e3 e4. no_more None (tree.SizeofType x) op (more_is (steps.Last None (tree.SizeofType x)) op m2 m e4).0))
  sized_never false k op m e = group_never (Some prefixes.Sizeof) k op m e

  cast_ready : (k : List NumberedKind) (op : Prefix) (m : List NumberedKind) → cast inner names k ≡ Ok (steps.More op, m) → Ready (is_sizeof op) m
  unfolding cast
  cast_ready k op m e h q = bind_ok (names k) _ (steps.More op, m) e (λ x m' e1 e2. bind_ok (expect kind.CloseParen m') _ (steps.More op, m) e2 (λ i m2 e3 e4. no_size (prefixes.Cast x) op refl (more_is (steps.More (prefixes.Cast x)) op m2 m e4).0 h))

  bracketed_ready : (b : Bool) (k : List NumberedKind) (op : Prefix) (m : List NumberedKind) → bracketed inner names b k ≡ Ok (steps.More op, m) → Ready (is_sizeof op) m
  bracketed_ready true k op m e = cast_ready k op m e
  bracketed_ready false k op m e = absurd (group_never None k op m e)

  bracket_ready : (k : List NumberedKind) (op : Prefix) (m : List NumberedKind) → bracket inner names k ≡ Ok (steps.More op, m) → Ready (is_sizeof op) m
  unfolding bracket
  bracket_ready k op m e h q = bind_ok (expect kind.OpenParen k) _ (steps.More op, m) e (λ x m' e1 e2. bracketed_ready (begins_type (kind_at m')) m' op m e2 h q)

  size_bracket_never : (k : List NumberedKind) (op : Prefix) (m : List NumberedKind) → sizeof_bracket inner names k ≡ Ok (steps.More op, m) → ⊥
  unfolding sizeof_bracket
  size_bracket_never k op m e = bind_ok (expect kind.OpenParen k) _ (steps.More op, m) e (λ x m' e1 e2. sized_never (begins_type (kind_at m')) m' op m e2)

  same_place : (op : Prefix) (k m : List NumberedKind) → (let p : Outcome (Step Prefix Expr) = Ok (steps.More prefixes.Sizeof, k) in p ≡ Ok (steps.More op, m)) → k ≡ m
  same_place op k m e = (more_is (steps.More prefixes.Sizeof) op k m e).1

  sizeof_by_ready : (o : Option Kind) (k : List NumberedKind) (op : Prefix) (m : List NumberedKind) → kind_at k ≡ o → sizeof_by inner names o k ≡ Ok (steps.More op, m) → kind_at m ≡ Some kind.OpenParen → ⊥
  sizeof_by_ready (Some kind.OpenParen) k op m o e q = size_bracket_never k op m e
  sizeof_by_ready _ k op m o e q = let p = ap kind_at (same_place op k m e) in let c = sym o ∙ p ∙ q in absurd cc

  sizeof_ready : (k : List NumberedKind) (op : Prefix) (m : List NumberedKind) → sizeof inner names k ≡ Ok (steps.More op, m) → Ready (is_sizeof op) m
  unfolding sizeof
  sizeof_ready k op m e h q = bind_ok (expect kind.Sizeof k) _ (steps.More op, m) e (λ x m' e1 e2. sizeof_by_ready (kind_at m') m' op m refl e2 q)

  prefix_by_ready : (o : Option Kind) (k : List NumberedKind) (op : Prefix) (m : List NumberedKind) → prefix_by inner names o k ≡ Ok (steps.More op, m) → Ready (is_sizeof op) m
  unfolding prefix_by
  prefix_by_ready (Some kind.Plus) k op m e = signed_ready signs.Plus k op m e
  prefix_by_ready (Some kind.Minus) k op m e = signed_ready signs.Minus k op m e
  prefix_by_ready (Some kind.Exclamation) k op m e = signed_ready signs.Not k op m e
  prefix_by_ready (Some kind.Tilde) k op m e = signed_ready signs.Complement k op m e
  prefix_by_ready (Some kind.Star) k op m e = signed_ready signs.Dereference k op m e
  prefix_by_ready (Some kind.Ampersand) k op m e = signed_ready signs.Address k op m e
  prefix_by_ready (Some kind.PlusPlus) k op m e = signed_ready signs.Increment k op m e
  prefix_by_ready (Some kind.MinusMinus) k op m e = signed_ready signs.Decrement k op m e
  prefix_by_ready (Some kind.Sizeof) k op m e = sizeof_ready k op m e
  prefix_by_ready (Some kind.OpenParen) k op m e = bracket_ready k op m e
  prefix_by_ready _ k op m e = plain_ready k op m e

  pub step_ready : (k : List NumberedKind) (op : Prefix) (m : List NumberedKind) → prefix_step inner names k ≡ Ok (steps.More op, m) → Ready (is_sizeof op) m
  unfolding prefix_step
  step_ready k op m e = prefix_by_ready (kind_at k) k op m e
