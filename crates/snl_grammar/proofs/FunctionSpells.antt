-- Functions, structs, and the items that begin with a type spell their tokens.
use Rattle.std.proofs.Common.{ℕ, zero, suc, List, [], ◌∷◌, map, Some, None, refl}
use Rattle.snl_lex.specs.declared.kind.Kind.TheVariants as kind
use Rattle.snl_grammar.specs.declared.tree.expression.Expr.{Expr}
use Rattle.snl_grammar.specs.declared.tree.declaration.Declaration.{Declaration}
use Rattle.snl_grammar.specs.declared.tree.declaration.Parameter.{Parameter}
use Rattle.snl_grammar.specs.declared.tree.statement.Member.{Member}
use Rattle.snl_grammar.specs.declared.tree.item.StructMember.{StructMember}
use Rattle.snl_grammar.specs.Tokens.{NumberedKind}
use Rattle.snl_grammar.specs.Grammar.Base.{First, Leaf}
use Rattle.snl_grammar.specs.Grammar.Expressions.{IsAssignx}
use Rattle.snl_grammar.specs.Grammar.Declarations.{IsLength}
use Rattle.snl_grammar.specs.Grammar.Functions.{IsParameterOf, IsParameter, AreParameters, IsBody, IsFunction, IsStructMember, declaration, c_block, IsStruct, IsTypedItem, definition, function, struct_definition}
use Rattle.snl_grammar.specs.Spelling.Base.{leaf, commas}
use Rattle.snl_grammar.specs.Spelling.Expressions.{spell_expr}
use Rattle.snl_grammar.specs.Spelling.Declarations.{spell_length, spell_declaration}
use Rattle.snl_grammar.specs.Spelling.Statements.{spell_block}
use Rattle.snl_grammar.specs.Spelling.Functions.{spell_parameter, spell_body, spell_function, spell_struct_member, spell_struct}
use Rattle.snl_grammar.specs.Spelling.Items.{spell_item}
use Rattle.snl_grammar.proofs.Covers.{Covers, Spells, nothing_covers, word_covers, leaf_covers, ◌and◌, covers_as, perhaps_spells, each_spells, commas_spell}
use Rattle.snl_grammar.proofs.TypeSpells.{type_spells, stars_spell}
use Rattle.snl_grammar.proofs.ExpressionSpells.{assignx_spells}
use Rattle.snl_grammar.proofs.DeclarationSpells.{length_spells}

-- ---- parameters

name_spells : Spells (Leaf kind.Name) (leaf kind.Name)
name_spells n k rest e = leaf_covers e

parameter_of_spells : (Inner : Expr → List NumberedKind → List NumberedKind → Type 0) → Spells Inner spell_expr → Spells (IsParameterOf Inner) spell_parameter
parameter_of_spells Inner inner_spells t k rest is =
    type_spells t.of k is.m1 is.of_type
    and stars_spell t.pointers is.m1 is.m2 is.stars
    and perhaps_spells (Leaf kind.Name) (leaf kind.Name) name_spells t.name is.m2 is.m3 is.name
    and each_spells (IsLength Inner) spell_length (length_spells Inner inner_spells) t.lengths is.m3 rest is.lengths

pub parameter_spells : (free extra depth : ℕ) → Spells (IsParameter free extra depth) spell_parameter
parameter_spells free extra (suc depth) t k rest is = parameter_of_spells (IsAssignx free extra depth) (assignx_spells free extra depth) t k rest is
parameter_spells free (suc extra) zero t k rest is = parameter_of_spells (IsAssignx free extra zero) (assignx_spells free extra zero) t k rest is.1
parameter_spells free zero zero t k rest is = absurd is

-- the parameters, and the bracket after them
parameters_spell : (Inner : Parameter → List NumberedKind → List NumberedKind → Type 0) → Spells Inner spell_parameter → (xs : List Parameter) (k rest : List NumberedKind) → AreParameters Inner xs k rest → (mid : List NumberedKind) × Covers (commas (map spell_parameter xs)) k mid × First kind.CloseParen mid rest
parameters_spell Inner inner_spells [] k rest closing = (k, nothing_covers refl, closing)
parameters_spell Inner inner_spells (x ∷ xs) k rest are = (are.0, commas_spell Inner spell_parameter inner_spells (x ∷ xs) k are.0 are.1, are.2)

-- ---- functions

body_spells : (Block : List Member → List NumberedKind → List NumberedKind → Type 0) → Spells Block spell_block → Spells (IsBody Block) spell_body
body_spells Block block_spells None k rest mark = word_covers mark
body_spells Block block_spells (Some members) k rest is = block_spells members k rest is

function_spells : (Inner : Parameter → List NumberedKind → List NumberedKind → Type 0) → Spells Inner spell_parameter → (Block : List Member → List NumberedKind → List NumberedKind → Type 0) → Spells Block spell_block → Spells (IsFunction Inner Block) spell_function
function_spells Inner inner_spells Block block_spells t k rest is =
    let inside = parameters_spell Inner inner_spells t.parameters is.m4 is.m5 is.parameters in
    type_spells t.of k is.m1 is.of_type
    and stars_spell t.pointers is.m1 is.m2 is.stars
    and leaf_covers is.name
    and (word_covers is.opening and inside.1 and word_covers inside.2)
    and body_spells Block block_spells t.body is.m5 rest is.body

-- ---- structs

struct_member_spells : (Inner : Declaration → List NumberedKind → List NumberedKind → Type 0) → Spells Inner spell_declaration → Spells (IsStructMember Inner) spell_struct_member
struct_member_spells Inner inner_spells t k rest (declaration d is inside) = covers_as spell_struct_member is refl (inner_spells d k rest inside)
struct_member_spells Inner inner_spells t k rest (c_block n is at) = covers_as spell_struct_member is refl (leaf_covers at)

struct_spells : (Inner : Declaration → List NumberedKind → List NumberedKind → Type 0) → Spells Inner spell_declaration → (n : ℕ) (xs : List StructMember) (k rest : List NumberedKind) → IsStruct Inner n xs k rest → Covers (spell_struct n xs) k rest
struct_spells Inner inner_spells n xs k rest is =
    word_covers is.word
    and leaf_covers is.name
    and (word_covers is.opening and each_spells (IsStructMember Inner) spell_struct_member (struct_member_spells Inner inner_spells) xs is.m3 is.m4 is.members and word_covers is.closing)
    and word_covers is.semicolon

-- ---- items that begin with a type

module _ (Here : Declaration → List NumberedKind → List NumberedKind → Type 0) (here_spells : Spells Here spell_declaration) (Inner : Declaration → List NumberedKind → List NumberedKind → Type 0) (inner_spells : Spells Inner spell_declaration) (Param : Parameter → List NumberedKind → List NumberedKind → Type 0) (param_spells : Spells Param spell_parameter) (Block : List Member → List NumberedKind → List NumberedKind → Type 0) (block_spells : Spells Block spell_block) where
  pub typed_spells : Spells (IsTypedItem Here Inner Param Block) spell_item
  typed_spells t k rest (definition d is inside) = covers_as spell_item is refl (here_spells d k rest inside)
  typed_spells t k rest (function f is inside) = covers_as spell_item is refl (function_spells Param param_spells Block block_spells f k rest inside)
  typed_spells t k rest (struct_definition n xs is inside) = covers_as spell_item is refl (struct_spells Inner inner_spells n xs k rest inside)
