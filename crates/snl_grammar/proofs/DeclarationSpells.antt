-- Declarations and initialisers spell their tokens.
use Rattle.std.proofs.Common.{◌≡◌, ℕ, zero, suc, Bool, List, [], ◌∷◌, ◌++◌, map, refl, sym, subst}
use Rattle.snl_lex.specs.declared.kind.Kind.TheVariants as kind
use Rattle.snl_grammar.specs.declared.tree.expression.Expr.{Expr}
use Rattle.snl_grammar.specs.declared.tree.declaration.Init.{Init}
use Rattle.snl_grammar.specs.declared.tree.declaration.Init.TheOpen.{Init-F}
use Rattle.snl_grammar.specs.declared.tree.declaration.Init.TheViews.{roll-Init}
use Rattle.snl_grammar.specs.declared.tree.declaration.Init.TheFolds.{map-Init, fold-roll-Init}
use denote.Hole.Carrier.{roll}
use Rattle.snl_grammar.specs.Tokens.{NumberedKind}
use Rattle.snl_grammar.specs.Grammar.Base.{First}
use Rattle.snl_grammar.specs.Grammar.Expressions.{IsSequence, IsAssignx}
use Rattle.snl_grammar.specs.Grammar.Declarations.{IsLength, AreBraced, IsInitOf, value, list, IsInit, IsAfterEqual, IsDeclarator, IsDeclarationOf, IsDeclaration}
use Rattle.snl_grammar.specs.Spelling.Base.{Spelled, written, commas}
use Rattle.snl_grammar.specs.Spelling.Expressions.{spell_expr}
use Rattle.snl_grammar.specs.Spelling.Declarations.{spell_length, spell_init_step, spell_init, spell_value, spell_declarator, spell_declaration}
use Rattle.snl_grammar.proofs.Covers.{Covers, Spells, nothing_covers, word_covers, leaf_covers, ◌and◌, covers_as, written_spells, perhaps_spells, each_spells, commas_spell}
use Rattle.snl_grammar.proofs.TypeSpells.{type_spells, stars_spell}
use Rattle.snl_grammar.proofs.ExpressionSpells.{sequence_spells, assignx_spells}

-- elements in braces with a comma after them or not, and the closing brace
pub braced_spell : {A : Type 0} (R : A → List NumberedKind → List NumberedKind → Type 0) (spell : A → List Spelled) → Spells R spell → (xs : List A) (trailing : Bool) (k rest : List NumberedKind) → AreBraced R xs trailing k rest
    → (mid : List NumberedKind) × Covers (commas (map spell xs) ++ written kind.Comma trailing) k mid × First kind.CloseBrace mid rest
braced_spell R spell spells [] trailing k rest are = (k, subst (λ b. Covers (written kind.Comma b) k k) (sym are.0) (nothing_covers refl), are.1)
braced_spell R spell spells (x ∷ xs) trailing k rest are = (are.m2, commas_spell R spell spells (x ∷ xs) k are.m1 are.elements and written_spells kind.Comma trailing are.m1 are.m2 are.comma, are.closing)

-- ---- initialisers

init_covers : {t : Init} {k rest : List NumberedKind} (level : Init-F Init) → t ≡ roll-Init level → Covers (spell_init_step (map-Init Init (List Spelled) spell_init level)) k rest → Covers (spell_init t) k rest
init_covers level is c = covers_as spell_init is (fold-roll-Init (List Spelled) spell_init_step level) c

init_of_spells : (Here : Expr → List NumberedKind → List NumberedKind → Type 0) → Spells Here spell_expr → (Inner : Init → List NumberedKind → List NumberedKind → Type 0) → Spells Inner spell_init → Spells (IsInitOf Here Inner) spell_init
unfolding roll-Init roll
init_of_spells Here here_spells Inner inner_spells t k rest (value x is inside) = init_covers (Init-F.Value x) is (here_spells x k rest inside)
init_of_spells Here here_spells Inner inner_spells t k rest (list xs trailing mid is opening are) =
    let inside = braced_spell Inner spell_init inner_spells xs trailing mid rest are in
    init_covers (Init-F.List xs trailing) is (word_covers opening and inside.1 and word_covers inside.2)

init_spells : (free extra depth : ℕ) → Spells (IsInit free extra depth) spell_init
init_spells free extra (suc depth) t k rest is = init_of_spells (IsAssignx free extra (suc depth)) (assignx_spells free extra (suc depth)) (IsInit free extra depth) (init_spells free extra depth) t k rest is
init_spells free (suc extra) zero t k rest is = init_of_spells (IsAssignx free (suc extra) zero) (assignx_spells free (suc extra) zero) (IsInit free extra zero) (init_spells free extra zero) t k rest is.1
init_spells free zero zero t k rest is = absurd is

-- ---- declarations

module _ (Inner : Expr → List NumberedKind → List NumberedKind → Type 0) (inner_spells : Spells Inner spell_expr) where
  pub length_spells : Spells (IsLength Inner) spell_length
  length_spells t k rest is = word_covers is.opening and perhaps_spells (IsSequence Inner) spell_expr (sequence_spells Inner inner_spells) t is.m1 is.m2 is.size and word_covers is.closing

module _ (Inner : Expr → List NumberedKind → List NumberedKind → Type 0) (inner_spells : Spells Inner spell_expr) (Value : Init → List NumberedKind → List NumberedKind → Type 0) (value_spells : Spells Value spell_init) where
  after_equal_spells : Spells (IsAfterEqual Value) spell_value
  after_equal_spells t k rest is = word_covers is.equal and value_spells t is.mid rest is.value

  declarator_spells : Spells (IsDeclarator Inner Value) spell_declarator
  declarator_spells t k rest is =
      stars_spell t.pointers k is.m1 is.stars
      and leaf_covers is.name
      and each_spells (IsLength Inner) spell_length (length_spells Inner inner_spells) t.lengths is.m2 is.m3 is.lengths
      and perhaps_spells (IsAfterEqual Value) spell_value after_equal_spells t.init is.m3 rest is.init

  declaration_of_spells : Spells (IsDeclarationOf Inner Value) spell_declaration
  declaration_of_spells t k rest is =
      type_spells t.of k is.m1 is.of_type
      and commas_spell (IsDeclarator Inner Value) spell_declarator declarator_spells t.declarators is.m1 is.m2 is.declarators
      and word_covers is.semicolon

pub declaration_spells : (free extra depth : ℕ) → Spells (IsDeclaration free extra depth) spell_declaration
declaration_spells free extra (suc depth) t k rest is = declaration_of_spells (IsAssignx free extra depth) (assignx_spells free extra depth) (IsInit free extra (suc depth)) (init_spells free extra (suc depth)) t k rest is
declaration_spells free (suc extra) zero t k rest is = declaration_of_spells (IsAssignx free extra zero) (assignx_spells free extra zero) (IsInit free (suc extra) zero) (init_spells free (suc extra) zero) t k rest is.1
declaration_spells free zero zero t k rest is = absurd is
