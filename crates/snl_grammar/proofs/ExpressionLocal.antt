-- Readers of expressions look no further than one token ahead.
use Rattle.std.proofs.Common.{◌≡◌, arith, ℕ, zero, suc, Bool, true, false, List, [], ◌∷◌, Option, Some, None, Ok}
use Rattle.snl_lex.specs.declared.kind.Kind.{Kind}
use Rattle.snl_lex.specs.declared.kind.Kind.TheVariants as kind
use Rattle.snl_grammar.specs.declared.operator.Binary.{Binary}
use Rattle.snl_grammar.specs.declared.operator.Assignment.{Assignment}
use Rattle.snl_grammar.specs.declared.operator.Sign.{Sign}
use Rattle.snl_grammar.specs.declared.operator.Sign.TheVariants as signs
use Rattle.snl_grammar.specs.declared.step.Step.TheVariants as steps
use Rattle.snl_grammar.specs.declared.tree.types.TypeName.{TypeName}
use Rattle.snl_grammar.specs.declared.tree.expression.Prefix.{Prefix}
use Rattle.snl_grammar.specs.declared.tree.expression.Prefix.TheVariants as prefixes
use Rattle.snl_grammar.specs.declared.tree.expression.Suffix.{Suffix}
use Rattle.snl_grammar.specs.declared.tree.expression.Suffix.TheVariants as suffixes
use Rattle.snl_grammar.specs.declared.tree.expression.Expr.{Expr}
use Rattle.snl_grammar.specs.declared.tree.expression.Expr.TheVariants as tree
use Rattle.snl_grammar.specs.Operators.{binary_kind, assignment_kind, sign_kind}
use Rattle.snl_grammar.specs.Tokens.{NumberedKind}
use Rattle.snl_grammar.specs.Steps.{Reader, and_then, pure, kind_at, expect, word, many, until}
use Rattle.snl_grammar.specs.Reading.Types.{type_name, begins_type}
use Rattle.snl_grammar.specs.Reading.Expressions.{comma_by, next_comma, commas, text_by, next_text, texts, leaf, text, atom_by, atom, suffixed, prefixed, chained, conditional, assigned, sequenced, binary_in, assignment_in, link_by, next_link, signed, member, sequence, some_arguments, arguments_by, arguments, subscript, call, suffix_by, next_suffix, group, sizeof_type, cast, sized, sizeof_bracket, sizeof_by, sizeof, bracketed, bracket, plain, prefix_by, prefix_step, prefix, tiers_from, operand, arm_by, next_arm, conditional_from, target_by, target_step, single, type_within, assignx, expr}
use Rattle.snl_grammar.proofs.Local.{Local, Eats, EatsSome, EatsMore, bind_local, choice_local, pure_local, refuse_local, expect_local, many_local, until_local, level_local, bind_eats, expect_eats, eats_some, eats_more, none_eats, ok_is, bind_ok, took_shorter}
use Rattle.snl_grammar.proofs.TypeLaws.{word_local, type_name_local}

-- ---- lists with commas, and strings

comma_by_local : {A : Type 0} (p : Reader A) → Local p → (o : Option Kind) → Local (comma_by p o)
comma_by_local p local (Some kind.Comma) = bind_local (expect kind.Comma) _ (expect_local kind.Comma) (λ _. bind_local p _ local (λ x. pure_local (Some x)))
comma_by_local p local _ = pure_local None

pub comma_local : {A : Type 0} (p : Reader A) → Local p → Local (next_comma p)
unfolding next_comma
comma_local p local = choice_local (comma_by p) (comma_by_local p local)

comma_by_eats : {A : Type 0} (p : Reader A) → Local p → (o : Option Kind) → EatsSome (comma_by p o)
comma_by_eats p local (Some kind.Comma) = eats_some (comma_by p (Some kind.Comma)) (bind_eats (expect kind.Comma) (λ _. λ k. and_then (p k) (λ x. pure (Some x))) (expect_eats kind.Comma) (λ _. bind_local p _ local (λ x. pure_local (Some x))))
comma_by_eats p local _ = none_eats

pub comma_eats : {A : Type 0} (p : Reader A) → Local p → EatsSome (next_comma p)
unfolding next_comma
comma_eats p local k x m e = comma_by_eats p local (kind_at k) k x m e

pub commas_local : {A : Type 0} (p : Reader A) → Local p → Local (commas p)
unfolding commas
commas_local p local = bind_local p _ local (λ first. many_local (next_comma p) (comma_eats p local) (comma_local p local) (first ∷ []))

text_by_local : (o : Option Kind) → Local (text_by o)
text_by_local (Some kind.Text) = bind_local (expect kind.Text) _ (expect_local kind.Text) (λ n. pure_local (Some n))
text_by_local _ = pure_local None

next_text_local : Local next_text
unfolding next_text
next_text_local = choice_local text_by text_by_local

text_by_eats : (o : Option Kind) → EatsSome (text_by o)
text_by_eats (Some kind.Text) = eats_some (text_by (Some kind.Text)) (bind_eats (expect kind.Text) (λ n. pure (Some n)) (expect_eats kind.Text) (λ n. pure_local (Some n)))
text_by_eats _ = none_eats

pub text_eats : EatsSome next_text
unfolding next_text
text_eats k x m e = text_by_eats (kind_at k) k x m e

pub texts_local : Local texts
unfolding texts
texts_local = bind_local (expect kind.Text) _ (expect_local kind.Text) (λ first. many_local next_text text_eats next_text_local (first ∷ []))

leaf_local : (x : Kind) (make : ℕ → Expr) → Local (leaf x make)
unfolding leaf
leaf_local x make = bind_local (expect x) _ (expect_local x) (λ n. pure_local (make n))

text_local : Local text
unfolding text
text_local = bind_local texts _ texts_local (λ ns. pure_local (tree.Text ns))

atom_by_local : (o : Option Kind) → Local (atom_by o)
unfolding atom_by
atom_by_local (Some kind.Name) = leaf_local kind.Name tree.Name
atom_by_local (Some kind.Integer) = leaf_local kind.Integer tree.Integer
atom_by_local (Some kind.Floating) = leaf_local kind.Floating tree.Floating
atom_by_local (Some kind.Character) = leaf_local kind.Character tree.Character
atom_by_local (Some kind.Text) = text_local
atom_by_local _ = refuse_local

atom_local : Local atom
unfolding atom
atom_local = choice_local atom_by atom_by_local

-- ---- operators

link_by_local : (operand : Reader Expr) → Local operand → (o : Option Binary) → Local (link_by operand o)
link_by_local operand local None = pure_local None
link_by_local operand local (Some op) = bind_local (expect (binary_kind op)) _ (expect_local (binary_kind op)) (λ _. bind_local operand _ local (λ x. pure_local (Some (op, x))))

link_local : (n : ℕ) (operand : Reader Expr) → Local operand → Local (next_link n operand)
unfolding next_link
link_local n operand local = choice_local (λ o. link_by operand (binary_in n o)) (λ o. link_by_local operand local (binary_in n o))

link_by_eats : (operand : Reader Expr) → Local operand → (o : Option Binary) → EatsSome (link_by operand o)
link_by_eats operand local None = none_eats
link_by_eats operand local (Some op) = eats_some (link_by operand (Some op)) (bind_eats (expect (binary_kind op)) (λ _. λ k. and_then (operand k) (λ x. pure (Some (op, x)))) (expect_eats (binary_kind op)) (λ _. bind_local operand _ local (λ x. pure_local (Some (op, x)))))

pub link_eats : (n : ℕ) (operand : Reader Expr) → Local operand → EatsSome (next_link n operand)
unfolding next_link
link_eats n operand local k x m e = link_by_eats operand local (binary_in n (kind_at k)) k x m e

signed_local : (op : Sign) → Local (signed op)
unfolding signed
signed_local op = bind_local (expect (sign_kind op)) _ (expect_local (sign_kind op)) (λ _. pure_local (steps.More (prefixes.Sign op)))

member_local : (x : Kind) (make : ℕ → Suffix) → Local (member x make)
unfolding member
member_local x make = bind_local (expect x) _ (expect_local x) (λ _. bind_local (expect kind.Name) _ (expect_local kind.Name) (λ n. pure_local (Some (make n))))

member_eats : (x : Kind) (make : ℕ → Suffix) → Eats (member x make)
unfolding member
member_eats x make = bind_eats (expect x) _ (expect_eats x) (λ _. bind_local (expect kind.Name) _ (expect_local kind.Name) (λ n. pure_local (Some (make n))))

word_eats : {A : Type 0} (x : Kind) (a : A) → Eats (word x a)
word_eats x a = bind_eats (expect x) (λ _. pure a) (expect_eats x) (λ _. pure_local a)

abbrev an_arm : Expr → Expr → Option (Expr × Expr)
an_arm x y = Some (x, y)

module _ (inner : Reader Expr) (names : Reader TypeName) (local : Local inner) (named : Local names) where
  pub sequence_local : Local (sequence inner)
  unfolding sequence
  sequence_local = bind_local inner _ local (λ first. bind_local (many (next_comma inner) []) _ (many_local (next_comma inner) (comma_eats inner local) (comma_local inner local) []) (λ rest. pure_local (sequenced first rest)))

  some_arguments_local : Local (some_arguments inner names)
  unfolding some_arguments
  some_arguments_local = bind_local (commas inner) _ (commas_local inner local) (λ xs. bind_local (expect kind.CloseParen) _ (expect_local kind.CloseParen) (λ _. pure_local xs))

  arguments_by_local : (o : Option Kind) → Local (arguments_by inner names o)
  arguments_by_local (Some kind.CloseParen) = word_local kind.CloseParen []
  arguments_by_local _ = some_arguments_local

  arguments_local : Local (arguments inner names)
  unfolding arguments
  arguments_local = choice_local (arguments_by inner names) arguments_by_local

  subscript_rest_local : Local (λ k. and_then (sequence inner k) (λ x k1. and_then (expect kind.CloseBracket k1) (λ _. pure (Some (suffixes.Subscript x)))))
  subscript_rest_local = bind_local (sequence inner) _ sequence_local (λ x. bind_local (expect kind.CloseBracket) _ (expect_local kind.CloseBracket) (λ _. pure_local (Some (suffixes.Subscript x))))

  call_rest_local : Local (λ k. and_then (arguments inner names k) (λ xs. pure (Some (suffixes.Call xs))))
  call_rest_local = bind_local (arguments inner names) _ arguments_local (λ xs. pure_local (Some (suffixes.Call xs)))

  suffix_by_local : (o : Option Kind) → Local (suffix_by inner names o)
  unfolding suffix_by subscript call
  suffix_by_local (Some kind.OpenBracket) = bind_local (expect kind.OpenBracket) _ (expect_local kind.OpenBracket) (λ _. subscript_rest_local)
  suffix_by_local (Some kind.OpenParen) = bind_local (expect kind.OpenParen) _ (expect_local kind.OpenParen) (λ _. call_rest_local)
  suffix_by_local (Some kind.Dot) = member_local kind.Dot suffixes.Member
  suffix_by_local (Some kind.Arrow) = member_local kind.Arrow suffixes.Arrow
  suffix_by_local (Some kind.PlusPlus) = word_local kind.PlusPlus (Some suffixes.Increment)
  suffix_by_local (Some kind.MinusMinus) = word_local kind.MinusMinus (Some suffixes.Decrement)
  suffix_by_local _ = pure_local None

  suffix_local : Local (next_suffix inner names)
  unfolding next_suffix
  suffix_local = choice_local (suffix_by inner names) suffix_by_local

  suffix_by_eats : (o : Option Kind) → EatsSome (suffix_by inner names o)
  unfolding suffix_by subscript call
  suffix_by_eats (Some kind.OpenBracket) = eats_some _ (bind_eats (expect kind.OpenBracket) (λ _. λ k. and_then (sequence inner k) (λ x k1. and_then (expect kind.CloseBracket k1) (λ _. pure (Some (suffixes.Subscript x))))) (expect_eats kind.OpenBracket) (λ _. subscript_rest_local))
  suffix_by_eats (Some kind.OpenParen) = eats_some _ (bind_eats (expect kind.OpenParen) (λ _. λ k. and_then (arguments inner names k) (λ xs. pure (Some (suffixes.Call xs)))) (expect_eats kind.OpenParen) (λ _. call_rest_local))
  suffix_by_eats (Some kind.Dot) = eats_some _ (member_eats kind.Dot suffixes.Member)
  suffix_by_eats (Some kind.Arrow) = eats_some _ (member_eats kind.Arrow suffixes.Arrow)
  suffix_by_eats (Some kind.PlusPlus) = eats_some _ (word_eats kind.PlusPlus (Some suffixes.Increment))
  suffix_by_eats (Some kind.MinusMinus) = eats_some _ (word_eats kind.MinusMinus (Some suffixes.Decrement))
  suffix_by_eats _ = none_eats

  pub suffix_eats : EatsSome (next_suffix inner names)
  unfolding next_suffix
  suffix_eats k x m e = suffix_by_eats (kind_at k) k x m e

  group_local : (before : Option Prefix) → Local (group inner names before)
  unfolding group
  group_local before = bind_local (sequence inner) _ sequence_local (λ x. bind_local (expect kind.CloseParen) _ (expect_local kind.CloseParen) (λ _. pure_local (steps.Last before (tree.Group x))))

  sizeof_type_local : Local (sizeof_type inner names)
  unfolding sizeof_type
  sizeof_type_local = bind_local names _ named (λ t. bind_local (expect kind.CloseParen) _ (expect_local kind.CloseParen) (λ _. pure_local (steps.Last None (tree.SizeofType t))))

  cast_local : Local (cast inner names)
  unfolding cast
  cast_local = bind_local names _ named (λ t. bind_local (expect kind.CloseParen) _ (expect_local kind.CloseParen) (λ _. pure_local (steps.More (prefixes.Cast t))))

  sized_local : (b : Bool) → Local (sized inner names b)
  sized_local true = sizeof_type_local
  sized_local false = group_local (Some prefixes.Sizeof)

  bracketed_local : (b : Bool) → Local (bracketed inner names b)
  bracketed_local true = cast_local
  bracketed_local false = group_local None

  sizeof_bracket_local : Local (sizeof_bracket inner names)
  unfolding sizeof_bracket
  sizeof_bracket_local = bind_local (expect kind.OpenParen) _ (expect_local kind.OpenParen) (λ _. choice_local (λ o. sized inner names (begins_type o)) (λ o. sized_local (begins_type o)))

  sizeof_by_local : (o : Option Kind) → Local (sizeof_by inner names o)
  sizeof_by_local (Some kind.OpenParen) = sizeof_bracket_local
  sizeof_by_local _ = pure_local (steps.More prefixes.Sizeof)

  sizeof_local : Local (sizeof inner names)
  unfolding sizeof
  sizeof_local = bind_local (expect kind.Sizeof) _ (expect_local kind.Sizeof) (λ _. choice_local (sizeof_by inner names) sizeof_by_local)

  bracket_local : Local (bracket inner names)
  unfolding bracket
  bracket_local = bind_local (expect kind.OpenParen) _ (expect_local kind.OpenParen) (λ _. choice_local (λ o. bracketed inner names (begins_type o)) (λ o. bracketed_local (begins_type o)))

  plain_local : Local (plain inner names)
  unfolding plain
  plain_local = bind_local atom _ atom_local (λ x. pure_local (steps.Last None x))

  prefix_by_local : (o : Option Kind) → Local (prefix_by inner names o)
  unfolding prefix_by
  prefix_by_local (Some kind.Plus) = signed_local signs.Plus
  prefix_by_local (Some kind.Minus) = signed_local signs.Minus
  prefix_by_local (Some kind.Exclamation) = signed_local signs.Not
  prefix_by_local (Some kind.Tilde) = signed_local signs.Complement
  prefix_by_local (Some kind.Star) = signed_local signs.Dereference
  prefix_by_local (Some kind.Ampersand) = signed_local signs.Address
  prefix_by_local (Some kind.PlusPlus) = signed_local signs.Increment
  prefix_by_local (Some kind.MinusMinus) = signed_local signs.Decrement
  prefix_by_local (Some kind.Sizeof) = sizeof_local
  prefix_by_local (Some kind.OpenParen) = bracket_local
  prefix_by_local _ = plain_local

  step_local : Local (prefix_step inner names)
  unfolding prefix_step
  step_local = choice_local (prefix_by inner names) prefix_by_local

  signed_eats : (op : Sign) → Eats (signed op)
  unfolding signed
  signed_eats op = bind_eats (expect (sign_kind op)) (λ _. pure (steps.More (prefixes.Sign op))) (expect_eats (sign_kind op)) (λ _. pure_local (steps.More (prefixes.Sign op)))

  sizeof_eats : Eats (sizeof inner names)
  unfolding sizeof
  sizeof_eats = bind_eats (expect kind.Sizeof) (λ _. λ k. sizeof_by inner names (kind_at k) k) (expect_eats kind.Sizeof) (λ _. choice_local (sizeof_by inner names) sizeof_by_local)

  bracket_eats : Eats (bracket inner names)
  unfolding bracket
  bracket_eats = bind_eats (expect kind.OpenParen) (λ _. λ k. bracketed inner names (begins_type (kind_at k)) k) (expect_eats kind.OpenParen) (λ _. choice_local (λ o. bracketed inner names (begins_type o)) (λ o. bracketed_local (begins_type o)))

  plain_never : (k : List NumberedKind) (x : Prefix) (m : List NumberedKind) → plain inner names k ≡ Ok (steps.More x, m) → ⊥
  unfolding plain
  plain_never k x m e = bind_ok (atom k) _ (steps.More x, m) e (λ y m' e1 e2. let v = ok_is (steps.Last None y) (steps.More x) m' m e2 in let h : steps.Last None y ≡ steps.More x = v.0 in absurd cc)

  plain_eats : EatsMore (plain inner names)
  plain_eats k x m e = absurd (plain_never k x m e)

  prefix_by_eats : (o : Option Kind) → EatsMore (prefix_by inner names o)
  unfolding prefix_by
  prefix_by_eats (Some kind.Plus) = eats_more _ (signed_eats signs.Plus)
  prefix_by_eats (Some kind.Minus) = eats_more _ (signed_eats signs.Minus)
  prefix_by_eats (Some kind.Exclamation) = eats_more _ (signed_eats signs.Not)
  prefix_by_eats (Some kind.Tilde) = eats_more _ (signed_eats signs.Complement)
  prefix_by_eats (Some kind.Star) = eats_more _ (signed_eats signs.Dereference)
  prefix_by_eats (Some kind.Ampersand) = eats_more _ (signed_eats signs.Address)
  prefix_by_eats (Some kind.PlusPlus) = eats_more _ (signed_eats signs.Increment)
  prefix_by_eats (Some kind.MinusMinus) = eats_more _ (signed_eats signs.Decrement)
  prefix_by_eats (Some kind.Sizeof) = eats_more _ sizeof_eats
  prefix_by_eats (Some kind.OpenParen) = eats_more _ bracket_eats
  prefix_by_eats _ = plain_eats

  pub step_eats : EatsMore (prefix_step inner names)
  unfolding prefix_step
  step_eats k x m e = prefix_by_eats (kind_at k) k x m e

  suffixes_local : Local (many (next_suffix inner names) [])
  suffixes_local = many_local (next_suffix inner names) suffix_eats suffix_local []

  pub prefix_local : Local (prefix inner names)
  unfolding prefix
  prefix_local = bind_local (until (prefix_step inner names) []) _ (until_local (prefix_step inner names) step_eats step_local []) (λ r. bind_local (many (next_suffix inner names) []) _ suffixes_local (λ ss. pure_local (prefixed r.0 (suffixed r.1 ss))))

  pub tiers_local : (n : ℕ) (x : Expr) → Local (tiers_from inner names n x)
  unfolding tiers_from
  tiers_local zero x = pure_local x
  tiers_local (suc n) x =
      let tighter = bind_local (prefix inner names) (tiers_from inner names n) prefix_local (tiers_local n) in
      bind_local (tiers_from inner names n x) _ (tiers_local n x) (λ first. bind_local (many (next_link (suc n) (operand inner names n)) []) _ (many_local (next_link (suc n) (operand inner names n)) (link_eats (suc n) (operand inner names n) tighter) (link_local (suc n) (operand inner names n) tighter) []) (λ links. pure_local (chained first links)))

  pub operand_local : (n : ℕ) → Local (operand inner names n)
  operand_local n = bind_local (prefix inner names) (tiers_from inner names n) prefix_local (tiers_local n)

  arm_rest_local : Local (λ k. and_then (sequence inner k) (λ x k1. and_then (expect kind.Colon k1) (λ _ k2. and_then (operand inner names 10 k2) (λ y. pure (an_arm x y)))))
  arm_rest_local = bind_local (sequence inner) _ sequence_local (λ x. bind_local (expect kind.Colon) _ (expect_local kind.Colon) (λ _. bind_local (operand inner names 10) _ (operand_local 10) (λ y. pure_local (an_arm x y))))

  arm_by_local : (o : Option Kind) → Local (arm_by inner names o)
  arm_by_local (Some kind.Question) = bind_local (expect kind.Question) _ (expect_local kind.Question) (λ _. arm_rest_local)
  arm_by_local _ = pure_local None

  arm_local : Local (next_arm inner names)
  unfolding next_arm
  arm_local = choice_local (arm_by inner names) arm_by_local

  arm_by_eats : (o : Option Kind) → EatsSome (arm_by inner names o)
  arm_by_eats (Some kind.Question) = eats_some (arm_by inner names (Some kind.Question)) (bind_eats (expect kind.Question) (λ _. λ k. and_then (sequence inner k) (λ x k1. and_then (expect kind.Colon k1) (λ _ k2. and_then (operand inner names 10 k2) (λ y. pure (an_arm x y))))) (expect_eats kind.Question) (λ _. arm_rest_local))
  arm_by_eats _ = none_eats

  pub arm_eats : EatsSome (next_arm inner names)
  unfolding next_arm
  arm_eats k x m e = arm_by_eats (kind_at k) k x m e

  conditional_local : (x : Expr) → Local (conditional_from inner names x)
  unfolding conditional_from
  conditional_local x = bind_local (tiers_from inner names 10 x) _ (tiers_local 10 x) (λ first. bind_local (many (next_arm inner names) []) _ (many_local (next_arm inner names) arm_eats arm_local []) (λ arms. pure_local (conditional first arms)))

  target_by_local : (x : Expr) (o : Option Assignment) → Local (target_by inner names x o)
  target_by_local x (Some op) = bind_local (expect (assignment_kind op)) _ (expect_local (assignment_kind op)) (λ _. pure_local (steps.More (x, op)))
  target_by_local x None = bind_local (conditional_from inner names x) _ (conditional_local x) (λ y. pure_local (steps.Last None y))

  target_rest_local : (x : Expr) → Local (λ k. target_by inner names x (assignment_in (kind_at k)) k)
  target_rest_local x = choice_local (λ o. target_by inner names x (assignment_in o)) (λ o. target_by_local x (assignment_in o))

  target_local : Local (target_step inner names)
  unfolding target_step
  target_local = bind_local (prefix inner names) _ prefix_local target_rest_local

  value_eats : (x : Expr) → EatsMore (target_by inner names x None)
  value_eats x k y m e = bind_ok (conditional_from inner names x k) _ (steps.More y, m) e (λ z m' e1 e2. let v = ok_is (steps.Last None z) (steps.More y) m' m e2 in let h : steps.Last None z ≡ steps.More y = v.0 in absurd cc)

  target_by_eats : (x : Expr) (o : Option Assignment) → EatsMore (target_by inner names x o)
  target_by_eats x (Some op) = eats_more (target_by inner names x (Some op)) (bind_eats (expect (assignment_kind op)) (λ _. pure (steps.More (x, op))) (expect_eats (assignment_kind op)) (λ _. pure_local (steps.More (x, op))))
  target_by_eats x None = value_eats x

  pub target_eats : EatsMore (target_step inner names)
  unfolding target_step
  target_eats k y m e = bind_ok (prefix inner names k) _ (steps.More y, m) e (λ x m' e1 e2. let a = took_shorter (prefix inner names) prefix_local k x m' e1 in let b = target_by_eats x (assignment_in (kind_at m')) m' y m e2 in omega arith)

  pub single_local : Local (single inner names)
  unfolding single
  single_local = bind_local (until (target_step inner names) []) _ (until_local (target_step inner names) target_eats target_local []) (λ r. pure_local (assigned r.0 r.1))

pub within_local : (depth : ℕ) → Local (type_within depth)
within_local depth = level_local depth type_name type_name_local

pub assignx_local : (depth : ℕ) → Local (assignx depth)
unfolding assignx
assignx_local zero = refuse_local
assignx_local (suc depth) = single_local (assignx depth) (type_within depth) (assignx_local depth) (within_local depth)

pub expr_local : (depth : ℕ) → Local (expr depth)
expr_local depth = sequence_local (assignx depth) (type_within depth) (assignx_local depth) (within_local depth)
