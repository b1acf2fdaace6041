-- Functions, structs, and what else an item that begins with a type can be. How each choice is
-- made, by one token alone: After a parameter's stars a name may be.
--   After a function's `(` a `)` means that it has no parameters; any other token begins one.
--   After its `)` a `;` makes a prototype; any other token begins the body.
-- A function and a declaration begin alike, with a type, stars and a name: then `(` makes a
-- function, any other token a declaration. An item's `struct` and a name are taken first: then `{`
-- begins the struct's members, any other token makes them a type. Among a struct's members `}` ends
-- them, CCODE is one, and any other token begins a declaration.
use Rattle.std.specs.Prelude.{ℕ, zero, suc, ◌-◌, Bool, false, List, [], Option, Some, None}
use Rattle.snl_lex.specs.declared.kind.Kind.{Kind}
use Rattle.snl_lex.specs.declared.kind.Kind.TheVariants as kind
use Rattle.snl_grammar.specs.declared.tree.types.Base.{Base}
use Rattle.snl_grammar.specs.declared.tree.types.Base.TheVariants as bases
use Rattle.snl_grammar.specs.declared.tree.types.QualifiedType.{QualifiedType}
use Rattle.snl_grammar.specs.declared.tree.types.Pointer.{Pointer}
use Rattle.snl_grammar.specs.declared.tree.expression.Expr.{Expr}
use Rattle.snl_grammar.specs.declared.tree.declaration.Declaration.{Declaration}
use Rattle.snl_grammar.specs.declared.tree.declaration.Parameter.{Parameter}
use Rattle.snl_grammar.specs.declared.tree.statement.Member.{Member}
use Rattle.snl_grammar.specs.declared.tree.item.Function.{Function}
use Rattle.snl_grammar.specs.declared.tree.item.StructMember.{StructMember}
use Rattle.snl_grammar.specs.declared.tree.item.StructMember.TheVariants as members
use Rattle.snl_grammar.specs.declared.tree.item.Item.{Item}
use Rattle.snl_grammar.specs.declared.tree.item.Item.TheVariants as items
use Rattle.snl_grammar.specs.Steps.{Reader, ◌>>=◌, ◌>>◌, pure, refuse, kind_at, expect, accept, word, many}
use Rattle.snl_grammar.specs.Reading.Types.{type_of, stars}
use Rattle.snl_grammar.specs.Reading.Expressions.{assignx, commas}
use Rattle.snl_grammar.specs.Reading.Declarations.{lengths, init, declaration, declaration_from}

-- ---- parameters

unfoldable pub some_name : Reader (Option ℕ)
some_name = do
  n ← expect kind.Name
  pure (Some n)

abbrev pub name_by : Option Kind → Reader (Option ℕ)
name_by (Some kind.Name) = some_name
name_by _ = pure None

unfoldable pub name_part : Reader (Option ℕ)
name_part = λ k. name_by (kind_at k) k

-- a parameter, of the reader of expressions without commas one level deeper
unfoldable pub parameter_in : Reader Expr → Reader Parameter
parameter_in inner = do
  t ← type_of
  ps ← stars
  n ← name_part
  ls ← lengths inner
  pure (record { of = t; pointers = ps; name = n; lengths = ls })

-- a parameter, in so many levels with the one that it is in
unfoldable pub parameter : ℕ → Reader Parameter
parameter zero = refuse
parameter (suc depth) = parameter_in (assignx depth)

unfoldable pub some_parameters : Reader Parameter → Reader (List Parameter)
some_parameters p = do
  xs ← commas p
  expect kind.CloseParen
  pure xs

abbrev pub parameters_by : Reader Parameter → Option Kind → Reader (List Parameter)
parameters_by p (Some kind.CloseParen) = word kind.CloseParen []
parameters_by p _ = some_parameters p

-- parameters in brackets
unfoldable pub parameters : Reader Parameter → Reader (List Parameter)
parameters p = expect kind.OpenParen >> (λ k. parameters_by p (kind_at k) k)

-- ---- functions

unfoldable pub some_body : Reader (List Member) → Reader (Option (List Member))
some_body block = do
  b ← block
  pure (Some b)

abbrev pub body_by : Reader (List Member) → Option Kind → Reader (Option (List Member))
body_by block (Some kind.Semicolon) = word kind.Semicolon None
body_by block _ = some_body block

-- a block, or the `;` of a prototype
unfoldable pub body : Reader (List Member) → Reader (Option (List Member))
body block = λ k. body_by block (kind_at k) k

-- a function after its name
unfoldable pub function_from : Reader Parameter → Reader (List Member) → QualifiedType → List Pointer → ℕ → Reader Function
function_from p block t ps n = do
  xs ← parameters p
  b ← body block
  pure (record { of = t; pointers = ps; name = n; parameters = xs; body = b })

-- ---- structs; `inner` reads a declaration within the braces

unfoldable pub declared_member : Reader Declaration → Reader (Option StructMember)
declared_member inner = do
  d ← inner
  pure (Some (members.Declaration d))

unfoldable pub c_member : Reader (Option StructMember)
c_member = do
  n ← expect kind.CCode
  pure (Some (members.CBlock n))

abbrev pub member_by : Reader Declaration → Option Kind → Reader (Option StructMember)
member_by inner (Some kind.CloseBrace) = pure None
member_by inner (Some kind.CCode) = c_member
member_by inner _ = declared_member inner

unfoldable pub next_member : Reader Declaration → Reader (Option StructMember)
next_member inner = λ k. member_by inner (kind_at k) k

-- what comes after `struct NAME`
unfoldable pub struct_members : Reader Declaration → Reader (List StructMember)
struct_members inner = do
  expect kind.OpenBrace
  xs ← many (next_member inner) []
  expect kind.CloseBrace
  expect kind.Semicolon
  pure xs

-- a type after its base
unfoldable pub type_from : Bool → Base → Reader QualifiedType
type_from before b = do
  after ← accept kind.Const
  pure (record { leading_const = before; base = b; trailing_const = after })

-- ---- items that begin with a type, in so many levels with the one that they are in; `block` reads
-- a function's body

unfoldable pub declaration_item : ℕ → QualifiedType → List Pointer → ℕ → Reader Item
declaration_item depth t ps n = do
  d ← declaration_from (assignx (depth - 1)) (init depth) t ps n
  pure (items.Definition d)

unfoldable pub struct_definition : ℕ → ℕ → Reader Item
struct_definition depth n = do
  xs ← struct_members (declaration (depth - 1))
  pure (items.StructDef n xs)

module _ (depth : ℕ) (block : Reader (List Member)) where
  unfoldable pub function_item : QualifiedType → List Pointer → ℕ → Reader Item
  function_item t ps n = do
    f ← function_from (parameter (depth - 1)) block t ps n
    pure (items.Function f)

  abbrev pub named_by : QualifiedType → List Pointer → ℕ → Option Kind → Reader Item
  named_by t ps n (Some kind.OpenParen) = function_item t ps n
  named_by t ps n _ = declaration_item depth t ps n

  unfoldable pub named_item : QualifiedType → List Pointer → ℕ → Reader Item
  named_item t ps n = λ k. named_by t ps n (kind_at k) k

  -- after the type
  unfoldable pub item_of : QualifiedType → Reader Item
  item_of t = do
    ps ← stars
    n ← expect kind.Name
    named_item t ps n

  unfoldable pub struct_type : ℕ → Reader Item
  struct_type n = do
    t ← type_from false (bases.Struct n)
    item_of t

  abbrev pub struct_by : ℕ → Option Kind → Reader Item
  struct_by n (Some kind.OpenBrace) = struct_definition depth n
  struct_by n _ = struct_type n

  unfoldable pub struct_from : ℕ → Reader Item
  struct_from n = λ k. struct_by n (kind_at k) k

  unfoldable pub struct_item : Reader Item
  struct_item = do
    expect kind.Struct
    n ← expect kind.Name
    struct_from n

  unfoldable pub type_item : Reader Item
  type_item = do
    t ← type_of
    item_of t

  abbrev pub typed_by : Option Kind → Reader Item
  typed_by (Some kind.Struct) = struct_item
  typed_by _ = type_item

  unfoldable pub typed_item : Reader Item
  typed_item = λ k. typed_by (kind_at k) k
