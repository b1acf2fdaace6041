-- Readers of functions and structs look no further than one token ahead, where the reader of blocks
-- doesn't.
use Rattle.std.proofs.Common.{◌-◌, ℕ, zero, suc, Bool, false, List, [], Option, Some, None}
use Rattle.snl_lex.specs.declared.kind.Kind.{Kind}
use Rattle.snl_lex.specs.declared.kind.Kind.TheVariants as kind
use Rattle.snl_grammar.specs.declared.tree.types.Base.{Base}
use Rattle.snl_grammar.specs.declared.tree.types.Base.TheVariants as bases
use Rattle.snl_grammar.specs.declared.tree.types.QualifiedType.{QualifiedType}
use Rattle.snl_grammar.specs.declared.tree.types.Pointer.{Pointer}
use Rattle.snl_grammar.specs.declared.tree.expression.Expr.{Expr}
use Rattle.snl_grammar.specs.declared.tree.declaration.Declaration.{Declaration}
use Rattle.snl_grammar.specs.declared.tree.declaration.Parameter.{Parameter}
use Rattle.snl_grammar.specs.declared.tree.statement.Member.{Member}
use Rattle.snl_grammar.specs.declared.tree.item.StructMember.TheVariants as members
use Rattle.snl_grammar.specs.declared.tree.item.Item.TheVariants as items
use Rattle.snl_grammar.specs.Steps.{Reader, kind_at, expect, accept, many}
use Rattle.snl_grammar.specs.Reading.Types.{type_of, stars}
use Rattle.snl_grammar.specs.Reading.Expressions.{assignx, commas}
use Rattle.snl_grammar.specs.Reading.Declarations.{lengths, init, declaration, declaration_from}
use Rattle.snl_grammar.specs.Reading.Functions.{some_name, name_by, name_part, parameter_in, parameter, some_parameters, parameters_by, parameters, some_body, body_by, body, function_from, declared_member, c_member, member_by, next_member, struct_members, type_from, declaration_item, struct_definition, function_item, named_by, named_item, item_of, struct_type, struct_by, struct_from, struct_item, type_item, typed_by, typed_item}
use Rattle.snl_grammar.proofs.Local.{Local, Eats, EatsSome, bind_local, choice_local, pure_local, refuse_local, expect_local, accept_local, many_local, bind_eats, expect_eats, eats_some, none_eats}
use Rattle.snl_grammar.proofs.TypeLaws.{word_local, type_local, stars_local}
use Rattle.snl_grammar.proofs.ExpressionLocal.{commas_local, assignx_local}
use Rattle.snl_grammar.proofs.DeclarationLocal.{lengths_local, init_local, declaration_local, declaration_eats, declaration_from_local}

-- ---- parameters

some_name_local : Local some_name
unfolding some_name
some_name_local = bind_local (expect kind.Name) _ (expect_local kind.Name) (λ n. pure_local (Some n))

name_by_local : (o : Option Kind) → Local (name_by o)
name_by_local (Some kind.Name) = some_name_local
name_by_local _ = pure_local None

name_part_local : Local name_part
unfolding name_part
name_part_local = choice_local name_by name_by_local

parameter_in_local : (inner : Reader Expr) → Local inner → Local (parameter_in inner)
unfolding parameter_in
parameter_in_local inner local =
    bind_local type_of _ type_local (λ t. bind_local stars _ stars_local (λ ps. bind_local name_part _ name_part_local (λ n. bind_local (lengths inner) _ (lengths_local inner local) (λ ls. pure_local (record { of = t; pointers = ps; name = n; lengths = ls })))))

pub parameter_local : (depth : ℕ) → Local (parameter depth)
unfolding parameter
parameter_local zero = refuse_local
parameter_local (suc depth) = parameter_in_local (assignx depth) (assignx_local depth)

module _ (p : Reader Parameter) (local : Local p) where
  some_parameters_local : Local (some_parameters p)
  unfolding some_parameters
  some_parameters_local = bind_local (commas p) _ (commas_local p local) (λ xs. bind_local (expect kind.CloseParen) _ (expect_local kind.CloseParen) (λ _. pure_local xs))

  parameters_by_local : (o : Option Kind) → Local (parameters_by p o)
  parameters_by_local (Some kind.CloseParen) = word_local kind.CloseParen []
  parameters_by_local _ = some_parameters_local

  pub parameters_local : Local (parameters p)
  unfolding parameters
  parameters_local = bind_local (expect kind.OpenParen) _ (expect_local kind.OpenParen) (λ _. choice_local (parameters_by p) parameters_by_local)

-- ---- functions

module _ (block : Reader (List Member)) (local : Local block) where
  some_body_local : Local (some_body block)
  unfolding some_body
  some_body_local = bind_local block _ local (λ b. pure_local (Some b))

  body_by_local : (o : Option Kind) → Local (body_by block o)
  body_by_local (Some kind.Semicolon) = word_local kind.Semicolon None
  body_by_local _ = some_body_local

  body_local : Local (body block)
  unfolding body
  body_local = choice_local (body_by block) body_by_local

  function_from_local : (p : Reader Parameter) → Local p → (t : QualifiedType) (ps : List Pointer) (n : ℕ) → Local (function_from p block t ps n)
  unfolding function_from
  function_from_local p lp t ps n = bind_local (parameters p) _ (parameters_local p lp) (λ xs. bind_local (body block) _ body_local (λ b. pure_local (record { of = t; pointers = ps; name = n; parameters = xs; body = b })))

-- ---- structs

module _ (inner : Reader Declaration) (local : Local inner) (eats : Eats inner) where
  declared_local : Local (declared_member inner)
  unfolding declared_member
  declared_local = bind_local inner _ local (λ d. pure_local (Some (members.Declaration d)))

  declared_eats : Eats (declared_member inner)
  unfolding declared_member
  declared_eats = bind_eats inner _ eats (λ d. pure_local (Some (members.Declaration d)))

  c_local : Local c_member
  unfolding c_member
  c_local = bind_local (expect kind.CCode) _ (expect_local kind.CCode) (λ n. pure_local (Some (members.CBlock n)))

  c_eats : Eats c_member
  unfolding c_member
  c_eats = bind_eats (expect kind.CCode) _ (expect_eats kind.CCode) (λ n. pure_local (Some (members.CBlock n)))

  member_by_local : (o : Option Kind) → Local (member_by inner o)
  member_by_local (Some kind.CloseBrace) = pure_local None
  member_by_local (Some kind.CCode) = c_local
  member_by_local _ = declared_local

  next_member_local : Local (next_member inner)
  unfolding next_member
  next_member_local = choice_local (member_by inner) member_by_local

  member_by_eats : (o : Option Kind) → EatsSome (member_by inner o)
  member_by_eats (Some kind.CloseBrace) = none_eats
  member_by_eats (Some kind.CCode) = eats_some c_member c_eats
  member_by_eats _ = eats_some (declared_member inner) declared_eats

  pub next_member_eats : EatsSome (next_member inner)
  unfolding next_member
  next_member_eats k x m e = member_by_eats (kind_at k) k x m e

  pub struct_members_local : Local (struct_members inner)
  unfolding struct_members
  struct_members_local =
      bind_local (expect kind.OpenBrace) _ (expect_local kind.OpenBrace) (λ _. bind_local (many (next_member inner) []) _ (many_local (next_member inner) next_member_eats next_member_local []) (λ xs. bind_local (expect kind.CloseBrace) _ (expect_local kind.CloseBrace) (λ _. bind_local (expect kind.Semicolon) _ (expect_local kind.Semicolon) (λ _. pure_local xs))))

type_from_local : (before : Bool) (b : Base) → Local (type_from before b)
unfolding type_from
type_from_local before b = bind_local (accept kind.Const) _ (accept_local kind.Const) (λ after. pure_local (record { leading_const = before; base = b; trailing_const = after }))

-- ---- items that begin with a type

declaration_item_local : (depth : ℕ) (t : QualifiedType) (ps : List Pointer) (n : ℕ) → Local (declaration_item depth t ps n)
unfolding declaration_item
declaration_item_local depth t ps n = bind_local (declaration_from (assignx (depth - 1)) (init depth) t ps n) _ (declaration_from_local (assignx (depth - 1)) (init depth) (assignx_local (depth - 1)) (init_local depth) t ps n) (λ d. pure_local (items.Definition d))

struct_definition_local : (depth n : ℕ) → Local (struct_definition depth n)
unfolding struct_definition
struct_definition_local depth n = bind_local (struct_members (declaration (depth - 1))) _ (struct_members_local (declaration (depth - 1)) (declaration_local (depth - 1)) (declaration_eats (depth - 1))) (λ xs. pure_local (items.StructDef n xs))

module _ (depth : ℕ) (block : Reader (List Member)) (local : Local block) where
  function_item_local : (t : QualifiedType) (ps : List Pointer) (n : ℕ) → Local (function_item depth block t ps n)
  unfolding function_item
  function_item_local t ps n = bind_local (function_from (parameter (depth - 1)) block t ps n) _ (function_from_local block local (parameter (depth - 1)) (parameter_local (depth - 1)) t ps n) (λ f. pure_local (items.Function f))

  named_by_local : (t : QualifiedType) (ps : List Pointer) (n : ℕ) (o : Option Kind) → Local (named_by depth block t ps n o)
  named_by_local t ps n (Some kind.OpenParen) = function_item_local t ps n
  named_by_local t ps n _ = declaration_item_local depth t ps n

  named_item_local : (t : QualifiedType) (ps : List Pointer) (n : ℕ) → Local (named_item depth block t ps n)
  unfolding named_item
  named_item_local t ps n = choice_local (named_by depth block t ps n) (named_by_local t ps n)

  item_of_local : (t : QualifiedType) → Local (item_of depth block t)
  unfolding item_of
  item_of_local t = bind_local stars _ stars_local (λ ps. bind_local (expect kind.Name) _ (expect_local kind.Name) (λ n. named_item_local t ps n))

  struct_type_local : (n : ℕ) → Local (struct_type depth block n)
  unfolding struct_type
  struct_type_local n = bind_local (type_from false (bases.Struct n)) _ (type_from_local false (bases.Struct n)) (λ t. item_of_local t)

  struct_by_local : (n : ℕ) (o : Option Kind) → Local (struct_by depth block n o)
  struct_by_local n (Some kind.OpenBrace) = struct_definition_local depth n
  struct_by_local n _ = struct_type_local n

  struct_from_local : (n : ℕ) → Local (struct_from depth block n)
  unfolding struct_from
  struct_from_local n = choice_local (struct_by depth block n) (struct_by_local n)

  struct_item_local : Local (struct_item depth block)
  unfolding struct_item
  struct_item_local = bind_local (expect kind.Struct) _ (expect_local kind.Struct) (λ _. bind_local (expect kind.Name) _ (expect_local kind.Name) (λ n. struct_from_local n))

  type_item_local : Local (type_item depth block)
  unfolding type_item
  type_item_local = bind_local type_of _ type_local (λ t. item_of_local t)

  typed_by_local : (o : Option Kind) → Local (typed_by depth block o)
  typed_by_local (Some kind.Struct) = struct_item_local
  typed_by_local _ = type_item_local

  pub typed_item_local : Local (typed_item depth block)
  unfolding typed_item
  typed_item_local = choice_local (typed_by depth block) typed_by_local
