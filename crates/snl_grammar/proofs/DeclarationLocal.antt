-- Readers of declarations look no further than one token ahead.
use Rattle.std.proofs.Common.{◌≡◌, ℕ, zero, suc, true, false, List, [], ◌∷◌, Option, Some, None}
use Rattle.snl_lex.specs.declared.kind.Kind.{Kind}
use Rattle.snl_lex.specs.declared.kind.Kind.TheVariants as kind
use Rattle.snl_grammar.specs.declared.step.Step.{Step}
use Rattle.snl_grammar.specs.declared.step.Step.TheVariants as steps
use Rattle.snl_grammar.specs.declared.tree.types.QualifiedType.{QualifiedType}
use Rattle.snl_grammar.specs.declared.tree.types.Pointer.{Pointer}
use Rattle.snl_grammar.specs.declared.tree.expression.Expr.{Expr}
use Rattle.snl_grammar.specs.declared.tree.declaration.Init.{Init}
use Rattle.snl_grammar.specs.declared.tree.declaration.Init.TheVariants as inits
use Rattle.snl_grammar.specs.declared.tree.declaration.Declarator.{Declarator}
use Rattle.snl_grammar.specs.Steps.{Reader, pure, refuse, kind_at, expect, many, until}
use Rattle.snl_grammar.specs.Reading.Types.{type_of, type_name, stars}
use Rattle.snl_grammar.specs.Reading.Expressions.{assignx, sequence, next_comma}
use Rattle.snl_grammar.specs.Reading.Declarations.{some_length, length_by, bracketed_length, next_length_by, next_length, lengths, after_comma_by, after_comma, value_step_by, value_step, some_values, values_by, values, plain_value, init_by, init_of, init, some_init, init_part_by, init_part, declarator_from, declarator, more_declarators, declaration_from, declaration_of, declaration_in, declaration}
use Rattle.snl_grammar.proofs.Local.{Local, Eats, EatsSome, EatsMore, bind_local, choice_local, pure_local, refuse_local, expect_local, many_local, until_local, bind_eats, eats_after, expect_eats, eats_some, eats_more, none_eats, ok_is}
use Rattle.snl_grammar.proofs.TypeLaws.{word_local, type_local, stars_local, type_name_local}
use Rattle.snl_grammar.proofs.ExpressionLocal.{comma_local, comma_eats, sequence_local, assignx_local}

pub last_eats : {A B : Type 0} (o : Option A) (y : B) → EatsMore (pure (steps.Last o y))
last_eats {A} {B} o y k x m e =
    let s : Step A B = steps.Last o y in
    let v = ok_is s (steps.More x) k m e in
    let h : s ≡ steps.More x = v.0 in
    absurd cc

-- ---- lengths

module _ (inner : Reader Expr) (local : Local inner) where
  some_length_local : Local (some_length inner)
  unfolding some_length
  some_length_local = bind_local (sequence inner) _ (sequence_local inner type_name local type_name_local) (λ x. bind_local (expect kind.CloseBracket) _ (expect_local kind.CloseBracket) (λ _. pure_local (Some (Some x))))

  length_by_local : (o : Option Kind) → Local (length_by inner o)
  length_by_local (Some kind.CloseBracket) = word_local kind.CloseBracket (Some None)
  length_by_local _ = some_length_local

  bracketed_local : Local (bracketed_length inner)
  unfolding bracketed_length
  bracketed_local = bind_local (expect kind.OpenBracket) _ (expect_local kind.OpenBracket) (λ _. choice_local (length_by inner) length_by_local)

  bracketed_eats : Eats (bracketed_length inner)
  unfolding bracketed_length
  bracketed_eats = bind_eats (expect kind.OpenBracket) (λ _. λ k. length_by inner (kind_at k) k) (expect_eats kind.OpenBracket) (λ _. choice_local (length_by inner) length_by_local)

  next_length_by_local : (o : Option Kind) → Local (next_length_by inner o)
  next_length_by_local (Some kind.OpenBracket) = bracketed_local
  next_length_by_local _ = pure_local None

  next_length_local : Local (next_length inner)
  unfolding next_length
  next_length_local = choice_local (next_length_by inner) next_length_by_local

  next_length_by_eats : (o : Option Kind) → EatsSome (next_length_by inner o)
  next_length_by_eats (Some kind.OpenBracket) = eats_some (bracketed_length inner) bracketed_eats
  next_length_by_eats _ = none_eats

  pub next_length_eats : EatsSome (next_length inner)
  unfolding next_length
  next_length_eats k x m e = next_length_by_eats (kind_at k) k x m e

  pub lengths_local : Local (lengths inner)
  lengths_local = many_local (next_length inner) next_length_eats next_length_local []

-- ---- values

module _ (inner : Reader Init) (local : Local inner) where
  after_comma_by_local : (o : Option Kind) → Local (after_comma_by inner o)
  after_comma_by_local (Some kind.CloseBrace) = pure_local (steps.Last None true)
  after_comma_by_local _ = bind_local inner _ local (λ x. pure_local (steps.More x))

  after_comma_local : Local (after_comma inner)
  unfolding after_comma
  after_comma_local = bind_local (expect kind.Comma) _ (expect_local kind.Comma) (λ _. choice_local (after_comma_by inner) after_comma_by_local)

  after_comma_eats : Eats (after_comma inner)
  unfolding after_comma
  after_comma_eats = bind_eats (expect kind.Comma) (λ _. λ k. after_comma_by inner (kind_at k) k) (expect_eats kind.Comma) (λ _. choice_local (after_comma_by inner) after_comma_by_local)

  value_step_by_local : (o : Option Kind) → Local (value_step_by inner o)
  value_step_by_local (Some kind.Comma) = after_comma_local
  value_step_by_local _ = pure_local (steps.Last None false)

  value_step_local : Local (value_step inner)
  unfolding value_step
  value_step_local = choice_local (value_step_by inner) value_step_by_local

  value_step_by_eats : (o : Option Kind) → EatsMore (value_step_by inner o)
  value_step_by_eats (Some kind.Comma) = eats_more (after_comma inner) after_comma_eats
  value_step_by_eats _ = last_eats None false

  pub value_step_eats : EatsMore (value_step inner)
  unfolding value_step
  value_step_eats k x m e = value_step_by_eats (kind_at k) k x m e

  some_values_local : Local (some_values inner)
  unfolding some_values
  some_values_local =
      bind_local inner _ local (λ first. bind_local (until (value_step inner) (first ∷ [])) _ (until_local (value_step inner) value_step_eats value_step_local (first ∷ [])) (λ r. bind_local (expect kind.CloseBrace) _ (expect_local kind.CloseBrace) (λ _. pure_local (inits.List r.0 r.1))))

  values_by_local : (o : Option Kind) → Local (values_by inner o)
  values_by_local (Some kind.CloseBrace) = word_local kind.CloseBrace (inits.List [] false)
  values_by_local _ = some_values_local

  values_local : Local (values inner)
  unfolding values
  values_local = bind_local (expect kind.OpenBrace) _ (expect_local kind.OpenBrace) (λ _. choice_local (values_by inner) values_by_local)

plain_local : (value : Reader Expr) → Local value → Local (plain_value value)
unfolding plain_value
plain_local value local = bind_local value _ local (λ x. pure_local (inits.Value x))

init_by_local : (value : Reader Expr) (inner : Reader Init) → Local value → Local inner → (o : Option Kind) → Local (init_by value inner o)
init_by_local value inner lv li (Some kind.OpenBrace) = values_local inner li
init_by_local value inner lv li _ = plain_local value lv

init_of_local : (value : Reader Expr) (inner : Reader Init) → Local value → Local inner → Local (init_of value inner)
unfolding init_of
init_of_local value inner lv li = choice_local (init_by value inner) (init_by_local value inner lv li)

pub init_local : (depth : ℕ) → Local (init depth)
unfolding init
init_local zero = refuse_local
init_local (suc depth) = init_of_local (assignx (suc depth)) (init depth) (assignx_local (suc depth)) (init_local depth)

-- ---- declarators and declarations

module _ (value : Reader Init) (local : Local value) where
  some_init_local : Local (some_init value)
  unfolding some_init
  some_init_local = bind_local (expect kind.Equal) _ (expect_local kind.Equal) (λ _. bind_local value _ local (λ x. pure_local (Some x)))

  init_part_by_local : (o : Option Kind) → Local (init_part_by value o)
  init_part_by_local (Some kind.Equal) = some_init_local
  init_part_by_local _ = pure_local None

  init_part_local : Local (init_part value)
  unfolding init_part
  init_part_local = choice_local (init_part_by value) init_part_by_local

module _ (inner : Reader Expr) (value : Reader Init) (li : Local inner) (lv : Local value) where
  declarator_from_local : (ps : List Pointer) (n : ℕ) → Local (declarator_from inner value ps n)
  unfolding declarator_from
  declarator_from_local ps n = bind_local (lengths inner) _ (lengths_local inner li) (λ ls. bind_local (init_part value) _ (init_part_local value lv) (λ x. pure_local (record { pointers = ps; name = n; lengths = ls; init = x })))

  pub declarator_local : Local (declarator inner value)
  unfolding declarator
  declarator_local = bind_local stars _ stars_local (λ ps. bind_local (expect kind.Name) _ (expect_local kind.Name) (λ n. declarator_from_local ps n))

  more_local : (t : QualifiedType) (first : Declarator) → Local (more_declarators inner value t first)
  unfolding more_declarators
  more_local t first =
      bind_local (many (next_comma (declarator inner value)) (first ∷ [])) _ (many_local (next_comma (declarator inner value)) (comma_eats (declarator inner value) declarator_local) (comma_local (declarator inner value) declarator_local) (first ∷ [])) (λ all. bind_local (expect kind.Semicolon) _ (expect_local kind.Semicolon) (λ _. pure_local (record { of = t; declarators = all })))

  more_eats : (t : QualifiedType) (first : Declarator) → Eats (more_declarators inner value t first)
  unfolding more_declarators
  more_eats t first =
      eats_after (many (next_comma (declarator inner value)) (first ∷ [])) _ (many_local (next_comma (declarator inner value)) (comma_eats (declarator inner value) declarator_local) (comma_local (declarator inner value) declarator_local) (first ∷ [])) (λ all. bind_eats (expect kind.Semicolon) _ (expect_eats kind.Semicolon) (λ _. pure_local (record { of = t; declarators = all })))

  pub declaration_from_local : (t : QualifiedType) (ps : List Pointer) (n : ℕ) → Local (declaration_from inner value t ps n)
  unfolding declaration_from
  declaration_from_local t ps n = bind_local (declarator_from inner value ps n) _ (declarator_from_local ps n) (λ first. more_local t first)

  declaration_of_local : (t : QualifiedType) → Local (declaration_of inner value t)
  unfolding declaration_of
  declaration_of_local t = bind_local (declarator inner value) _ declarator_local (λ first. more_local t first)

  declaration_in_local : Local (declaration_in inner value)
  unfolding declaration_in
  declaration_in_local = bind_local type_of _ type_local (λ t. declaration_of_local t)

  declaration_of_eats : (t : QualifiedType) → Eats (declaration_of inner value t)
  unfolding declaration_of
  declaration_of_eats t = eats_after (declarator inner value) _ declarator_local (λ first. more_eats t first)

  declaration_in_eats : Eats (declaration_in inner value)
  unfolding declaration_in
  declaration_in_eats = eats_after type_of _ type_local (λ t. declaration_of_eats t)

pub declaration_local : (depth : ℕ) → Local (declaration depth)
unfolding declaration
declaration_local zero = refuse_local
declaration_local (suc depth) = declaration_in_local (assignx depth) (init (suc depth)) (assignx_local depth) (init_local (suc depth))

refuse_eats : {A : Type 0} → Eats {A = A} refuse
refuse_eats k x m e = absurd cc

-- a declaration takes a token at least
pub declaration_eats : (depth : ℕ) → Eats (declaration depth)
unfolding declaration
declaration_eats zero = refuse_eats
declaration_eats (suc depth) = declaration_in_eats (assignx depth) (init (suc depth)) (assignx_local depth) (init_local (suc depth))
