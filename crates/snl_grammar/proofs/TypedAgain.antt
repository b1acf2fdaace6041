-- Items that begin with a type are read again.
use Rattle.std.proofs.Common.{◌≡◌, ℕ, zero, suc, ◌-◌, Bool, true, false, List, [], ◌∷◌, Some, refl, sym, ap, subst, ◌∙◌, arith}
use Rattle.snl_lex.specs.declared.kind.Kind.{Kind}
use Rattle.snl_lex.specs.declared.kind.Kind.TheVariants as kind
use Rattle.snl_grammar.specs.declared.tree.types.Integer.TheVariants as integers
use Rattle.snl_grammar.specs.declared.tree.types.Base.{Base}
use Rattle.snl_grammar.specs.declared.tree.types.Base.TheVariants as bases
use Rattle.snl_grammar.specs.declared.tree.types.QualifiedType.{QualifiedType}
use Rattle.snl_grammar.specs.declared.tree.types.Pointer.{Pointer}
use Rattle.snl_grammar.specs.declared.tree.expression.Expr.{Expr}
use Rattle.snl_grammar.specs.declared.tree.declaration.Init.{Init}
use Rattle.snl_grammar.specs.declared.tree.declaration.Declarator.{Declarator}
use Rattle.snl_grammar.specs.declared.tree.declaration.Declaration.{Declaration}
use Rattle.snl_grammar.specs.declared.tree.declaration.Parameter.{Parameter}
use Rattle.snl_grammar.specs.declared.tree.statement.Member.{Member}
use Rattle.snl_grammar.specs.declared.tree.item.Function.{Function}
use Rattle.snl_grammar.specs.declared.tree.item.StructMember.{StructMember}
use Rattle.snl_grammar.specs.declared.tree.item.Item.{Item}
use Rattle.snl_grammar.specs.declared.tree.item.Item.TheVariants as items
use Rattle.snl_grammar.specs.Tokens.{NumberedKind, same}
use Rattle.snl_grammar.specs.Steps.{Reader, kind_at, expect, accept}
use Rattle.snl_grammar.specs.Grammar.Base.{Each, First, Leaf}
use Rattle.snl_grammar.specs.Grammar.Types.{Written, IsBase, IsType, IsPointer}
use Rattle.snl_grammar.specs.Grammar.Expressions.{IsAfterComma, AreCommas, IsAssignx}
use Rattle.snl_grammar.specs.Grammar.Declarations.{IsInit, IsDeclarator, IsDeclaration}
use Rattle.snl_grammar.specs.Grammar.Statements.{IsBlockWithin}
use Rattle.snl_grammar.specs.Grammar.Functions.{IsParameter, IsFunction, IsStruct, IsTypedItem, definition as is_definition, function as is_function, struct_definition as is_struct}
use Rattle.snl_grammar.specs.Reading.Types.{type_of, stars, begins_type}
use Rattle.snl_grammar.specs.Reading.Expressions.{assignx}
use Rattle.snl_grammar.specs.Reading.Declarations.{init, declaration, declaration_from}
use Rattle.snl_grammar.specs.Reading.Statements.{block}
use Rattle.snl_grammar.specs.Reading.Functions.{parameter, function_from, struct_members, type_from, declaration_item, struct_definition, function_item, named_by, named_item, item_of, struct_type, struct_by, struct_from, struct_item, type_item, typed_by, typed_item}
use Rattle.snl_grammar.proofs.Again.{ReadsBack, reads_back_at, reads_back_as, bind_reads_back, pure_reads_back, expect_reads_back, first_reads_back, kind_first, Lacks, first_lacks, written_reads_back}
use Rattle.snl_grammar.proofs.TypeLaws.{type_begins, type_reads_back, stars_reads_back, TypeStops, first_type_stops}
use Rattle.snl_grammar.proofs.ExpressionLocal.{assignx_local}
use Rattle.snl_grammar.proofs.SingleAgain.{assignx_begins, assignx_again}
use Rattle.snl_grammar.proofs.DeclarationLocal.{init_local, declaration_local, declaration_eats}
use Rattle.snl_grammar.proofs.DeclarationAgain.{init_again, pointer_first, stars_stop, declaration_from_reads_back, declaration_again, declaration_begins}
use Rattle.snl_grammar.proofs.StatementAgain.{block_within_again}
use Rattle.snl_grammar.proofs.FunctionLocal.{parameter_local}
use Rattle.snl_grammar.proofs.FunctionAgain.{parameter_again, parameter_begins, function_from_reads_back, struct_members_reads_back}

-- ---- what a type begins with

-- `struct` and a name, or a token that isn't `struct`
data BaseStart (t : Base) (k rest : List NumberedKind) : Type 0 where
  struct_name : (n : ℕ) (mid : List NumberedKind) → t ≡ bases.Struct n → First kind.Struct k mid → Leaf kind.Name n mid rest → BaseStart t k rest
  another : (x : Kind) (mid : List NumberedKind) → First x k mid → same x kind.Struct ≡ false → BaseStart t k rest

base_start : (t : Base) (k rest : List NumberedKind) → IsBase t k rest → BaseStart t k rest
base_start bases.Void k rest is = another kind.Void rest is refl
base_start bases.Int8 k rest is = another kind.Int8 rest is refl
base_start bases.Uint8 k rest is = another kind.Uint8 rest is refl
base_start bases.Int16 k rest is = another kind.Int16 rest is refl
base_start bases.Uint16 k rest is = another kind.Uint16 rest is refl
base_start bases.Int32 k rest is = another kind.Int32 rest is refl
base_start bases.Uint32 k rest is = another kind.Uint32 rest is refl
base_start bases.Float k rest is = another kind.Float rest is refl
base_start bases.Double k rest is = another kind.Double rest is refl
base_start bases.String k rest is = another kind.String rest is refl
base_start bases.Evflag k rest is = another kind.Evflag rest is refl
base_start (bases.Integer integers.Char) k rest is = another kind.Char is.0 is.1 refl
base_start (bases.Integer integers.Short) k rest is = another kind.Short is.0 is.1 refl
base_start (bases.Integer integers.ShortInt) k rest is = another kind.Short is.0 is.1 refl
base_start (bases.Integer integers.Int) k rest is = another kind.Int is.0 is.1 refl
base_start (bases.Integer integers.Long) k rest is = another kind.Long is.0 is.1 refl
base_start (bases.Integer integers.LongInt) k rest is = another kind.Long is.0 is.1 refl
base_start bases.Unsigned k rest is = another kind.Unsigned rest is refl
base_start (bases.UnsignedInteger i) k rest is = another kind.Unsigned is.0 is.1 refl
base_start (bases.Enum n) k rest is = another kind.Enum is.0 is.1 refl
base_start (bases.Struct n) k rest is = struct_name n is.0 refl is.1 is.2
base_start (bases.Union n) k rest is = another kind.Union is.0 is.1 refl
base_start (bases.Typename n) k rest is = another kind.Typename is.0 is.1 refl

-- ---- an item after its type

abbrev qualified : Bool → Base → Bool → QualifiedType
qualified before b after = record { leading_const = before; base = b; trailing_const = after }

stars_lack : (x : Kind) → same kind.Star x ≡ false → (ps : List Pointer) (k rest : List NumberedKind) → Each IsPointer ps k rest → Lacks x rest → Lacks x k
stars_lack x e [] k rest each h = subst (Lacks x) (sym each) h
stars_lack x e (p ∷ ps) k rest each h = let f = pointer_first p k each.0 each.1 in first_lacks kind.Star x k f.0 e f.1

-- what comes after an item's type: it goes on with no type, and begins no members of a struct
abbrev TypeEnds : List NumberedKind → Type 0
TypeEnds k = TypeStops k × Lacks kind.OpenBrace k

stars_end : (ps : List Pointer) (n : ℕ) (k mid rest : List NumberedKind) → Each IsPointer ps k mid → Leaf kind.Name n mid rest → TypeEnds k
stars_end ps n k mid rest each e = (
  stars_stop ps k mid each (first_type_stops kind.Name mid rest refl refl (n, e)),
  stars_lack kind.OpenBrace refl ps k mid each (first_lacks kind.Name kind.OpenBrace mid rest refl (n, e)),
)

const_lacks : (b : Bool) (k rest : List NumberedKind) → Written kind.Const b k rest → Lacks kind.OpenBrace rest → Lacks kind.OpenBrace k
const_lacks true k rest f h = first_lacks kind.Const kind.OpenBrace k rest refl f
const_lacks false k rest e h = subst (Lacks kind.OpenBrace) (sym e) h

module _ (free depth : ℕ) (block : Reader (List Member)) where
  by_another : (x : Kind) → same x kind.Struct ≡ false → typed_by depth block (Some x) ≡ type_item depth block
  by_another kind.Struct e = absurd cc
  by_another _ e = refl

  by_struct_type : (n : ℕ) (x : Kind) → same x kind.OpenBrace ≡ false → struct_by depth block n (Some x) ≡ struct_type depth block n
  by_struct_type n kind.OpenBrace e = absurd cc
  by_struct_type n _ e = refl

  struct_type_at : (n : ℕ) (k : List NumberedKind) → Lacks kind.OpenBrace k → struct_from depth block n k ≡ struct_type depth block n k
  unfolding struct_from kind_at
  struct_type_at n [] h = refl
  struct_type_at n (s ∷ k) h = ap (λ (q : Reader Item). q (s ∷ k)) (by_struct_type n s.0 h)

  after_another : (x : Kind) (t : QualifiedType) (k m1 mid : List NumberedKind) (y : Item) (rest : List NumberedKind) → First x k m1 → same x kind.Struct ≡ false → IsType t k mid → TypeEnds mid → ReadsBack free (item_of depth block t mid) y rest → ReadsBack free (typed_item depth block k) y rest
  unfolding typed_item type_item
  after_another x t k m1 mid y rest f e is h c =
      reads_back_at free (typed_item depth block k) (type_item depth block k) y rest (ap (λ o. typed_by depth block o k) (kind_first x k m1 f) ∙ ap (λ (q : Reader Item). q k) (by_another x e))
      (bind_reads_back free (type_of k) _ t mid y rest (type_reads_back free t k mid is h.0) c)

  after_struct : (n : ℕ) (after : Bool) (k m1 m2 mid : List NumberedKind) (y : Item) (rest : List NumberedKind) → First kind.Struct k m1 → Leaf kind.Name n m1 m2 → Written kind.Const after m2 mid → TypeEnds mid → ReadsBack free (item_of depth block (qualified false (bases.Struct n) after) mid) y rest → ReadsBack free (typed_item depth block k) y rest
  unfolding typed_item struct_item struct_type type_from
  after_struct n after k m1 m2 mid y rest f e w h c =
      let t : QualifiedType = qualified false (bases.Struct n) after in
      reads_back_at free (typed_item depth block k) (struct_item depth block k) y rest (ap (λ o. typed_by depth block o k) (kind_first kind.Struct k m1 f))
      (bind_reads_back free (expect kind.Struct k) _ f.0 m1 y rest (first_reads_back free kind.Struct k m1 f)
      (bind_reads_back free (expect kind.Name m1) _ n m2 y rest (expect_reads_back free kind.Name n m1 m2 e)
      (reads_back_at free (struct_from depth block n m2) (struct_type depth block n m2) y rest (struct_type_at n m2 (const_lacks after m2 mid w h.1))
      (bind_reads_back free (type_from false (bases.Struct n) m2) _ t mid y rest
      (bind_reads_back free (accept kind.Const m2) _ after mid t mid (written_reads_back free kind.Const after m2 mid w h.0.1) (pure_reads_back free t mid)) c))))

  by_start : (before : Bool) (b : Base) (after : Bool) (k m1 m2 mid : List NumberedKind) (y : Item) (rest : List NumberedKind) → Written kind.Const before k m1 → BaseStart b m1 m2 → Written kind.Const after m2 mid → IsType (qualified before b after) k mid → TypeEnds mid → ReadsBack free (item_of depth block (qualified before b after) mid) y rest → ReadsBack free (typed_item depth block k) y rest
  by_start true b after k m1 m2 mid y rest f start w is h c = after_another kind.Const (qualified true b after) k m1 mid y rest f refl is h c
  by_start false b after k m1 m2 mid y rest f (another x m g e) w is h c = after_another x (qualified false b after) k m mid y rest (subst (λ l. First x l m) (sym f) g) e is h c
  by_start false b after k m1 m2 mid y rest f (struct_name n m e g l) w is h c =
      after_struct n after k m m2 mid y rest (subst (λ q. First kind.Struct q m) (sym f) g) l w h
      (subst (λ z. ReadsBack free (item_of depth block (qualified false z after) mid) y rest) e c)

  -- an item is read that begins with a type, if what comes after it is
  after_type : (t : QualifiedType) (k mid : List NumberedKind) (y : Item) (rest : List NumberedKind) → IsType t k mid → TypeEnds mid → ReadsBack free (item_of depth block t mid) y rest → ReadsBack free (typed_item depth block k) y rest
  after_type t k mid y rest is h c = by_start t.leading_const t.base t.trailing_const k is.m1 is.m2 mid y rest is.before (base_start t.base is.m1 is.m2 is.base) is.after is h c

  -- an item is read that begins with a type, stars and a name, if what comes after the name is
  after_name : (t : QualifiedType) (ps : List Pointer) (n : ℕ) (k m1 m2 mid : List NumberedKind) (y : Item) (rest : List NumberedKind) → IsType t k m1 → Each IsPointer ps m1 m2 → Leaf kind.Name n m2 mid → ReadsBack free (named_item depth block t ps n mid) y rest → ReadsBack free (typed_item depth block k) y rest
  unfolding item_of
  after_name t ps n k m1 m2 mid y rest is each e c =
      after_type t k m1 y rest is (stars_end ps n m1 m2 mid each e)
      (bind_reads_back free (stars m1) _ ps m2 y rest (stars_reads_back free ps m1 m2 each (first_lacks kind.Name kind.Const m2 mid refl (n, e)) (first_lacks kind.Name kind.Star m2 mid refl (n, e)))
      (bind_reads_back free (expect kind.Name m2) _ n mid y rest (expect_reads_back free kind.Name n m2 mid e) c))

  by_declarator : (t : QualifiedType) (ps : List Pointer) (n : ℕ) (x : Kind) → same x kind.OpenParen ≡ false → named_by depth block t ps n (Some x) ≡ declaration_item depth t ps n
  by_declarator t ps n kind.OpenParen e = absurd cc
  by_declarator t ps n _ e = refl

  -- no bracket is after the name of a declarator
  declaration_item_at : (t : QualifiedType) (ps : List Pointer) (n : ℕ) (k : List NumberedKind) → Lacks kind.OpenParen k → named_item depth block t ps n k ≡ declaration_item depth t ps n k
  unfolding named_item kind_at
  declaration_item_at t ps n [] h = refl
  declaration_item_at t ps n (s ∷ k) h = ap (λ (q : Reader Item). q (s ∷ k)) (by_declarator t ps n s.0 h)

  -- what a definition, a function and a struct are made of
  definition_of : (t : QualifiedType) (ps : List Pointer) (n : ℕ) (d : Declaration) (k rest : List NumberedKind) → ReadsBack free (declaration_from (assignx (depth - 1)) (init depth) t ps n k) d rest → ReadsBack free (declaration_item depth t ps n k) (items.Definition d) rest
  unfolding declaration_item
  definition_of t ps n d k rest c = bind_reads_back free (declaration_from (assignx (depth - 1)) (init depth) t ps n k) _ d rest (items.Definition d) rest c (pure_reads_back free (items.Definition d) rest)

  function_of : (t : QualifiedType) (ps : List Pointer) (n : ℕ) (f : Function) (k rest : List NumberedKind) → ReadsBack free (function_from (parameter (depth - 1)) block t ps n k) f rest → ReadsBack free (function_item depth block t ps n k) (items.Function f) rest
  unfolding function_item
  function_of t ps n f k rest c = bind_reads_back free (function_from (parameter (depth - 1)) block t ps n k) _ f rest (items.Function f) rest c (pure_reads_back free (items.Function f) rest)

  struct_of : (n : ℕ) (xs : List StructMember) (k rest : List NumberedKind) → ReadsBack free (struct_members (declaration (depth - 1)) k) xs rest → ReadsBack free (struct_definition depth n k) (items.StructDef n xs) rest
  unfolding struct_definition
  struct_of n xs k rest c = bind_reads_back free (struct_members (declaration (depth - 1)) k) _ xs rest (items.StructDef n xs) rest c (pure_reads_back free (items.StructDef n xs) rest)

one_less : (n : ℕ) → n ≡ suc n - 1
one_less n = omega arith

-- ---- definitions, functions and structs, in so many levels with the one that they are in

module _ (free extra depth : ℕ) (Block : List Member → List NumberedKind → List NumberedKind → Type 0) (block : Reader (List Member)) (opens : (b : List Member) (k rest : List NumberedKind) → Block b k rest → (mid : List NumberedKind) × First kind.OpenBrace k mid) (block_again : (b : List Member) (k rest : List NumberedKind) → Block b k rest → ReadsBack free (block k) b rest) where
  abbrev Inside : Expr → List NumberedKind → List NumberedKind → Type 0
  Inside = IsAssignx free extra depth

  abbrev Value : Init → List NumberedKind → List NumberedKind → Type 0
  Value = IsInit free extra (suc depth)

  declared_reads_back : (t : QualifiedType) (x : Declarator) (xs : List Declarator) (k mid rest m1 : List NumberedKind) (is : IsDeclarator Inside Value x k m1) → Each (IsAfterComma (IsDeclarator Inside Value)) xs m1 mid → First kind.Semicolon mid rest → ReadsBack free (named_item (suc depth) block t x.pointers x.name is.m2) (items.Definition (record { of = t; declarators = x ∷ xs })) rest
  declared_reads_back t x xs k mid rest m1 is more f =
      let d : Declaration = record { of = t; declarators = x ∷ xs } in
      let c = declaration_from_reads_back free Inside Value (assignx depth) (init (suc depth)) (assignx_local depth) (init_local (suc depth)) (assignx_again free extra depth) (assignx_begins free extra depth) (init_again free extra (suc depth)) t x xs is.m2 is.m3 m1 mid rest is.lengths is.init more f in
      reads_back_at free (named_item (suc depth) block t x.pointers x.name is.m2) (declaration_item (suc depth) t x.pointers x.name is.m2) (items.Definition d) rest (declaration_item_at free (suc depth) block t x.pointers x.name is.m2 c.0)
      (definition_of free (suc depth) block t x.pointers x.name d is.m2 rest (subst (λ i. ReadsBack free (declaration_from (assignx i) (init (suc depth)) t x.pointers x.name is.m2) d rest) (one_less depth) c.1))

  declarators_reads_back : (t : QualifiedType) (ds : List Declarator) (k m1 m2 rest : List NumberedKind) → IsType t k m1 → AreCommas (IsDeclarator Inside Value) ds m1 m2 → First kind.Semicolon m2 rest → ReadsBack free (typed_item (suc depth) block k) (items.Definition (record { of = t; declarators = ds })) rest
  declarators_reads_back t [] k m1 m2 rest is are f = absurd are
  declarators_reads_back t (x ∷ xs) k m1 m2 rest is are f =
      let d = are.1 in
      after_name free (suc depth) block t x.pointers x.name k m1 d.m1 d.m2 (items.Definition (record { of = t; declarators = x ∷ xs })) rest is d.stars d.name (declared_reads_back t x xs m1 m2 rest are.0 d are.2 f)

  function_reads_back : (t : Function) (k rest : List NumberedKind) → IsFunction (IsParameter free extra depth) Block t k rest → ReadsBack free (typed_item (suc depth) block k) (items.Function t) rest
  unfolding named_item
  function_reads_back t k rest is =
      after_name free (suc depth) block t.of t.pointers t.name k is.m1 is.m2 is.m3 (items.Function t) rest is.of_type is.stars is.name
      (reads_back_at free (named_item (suc depth) block t.of t.pointers t.name is.m3) (function_item (suc depth) block t.of t.pointers t.name is.m3) (items.Function t) rest (ap (λ o. named_by (suc depth) block t.of t.pointers t.name o is.m3) (kind_first kind.OpenParen is.m3 is.m4 is.opening))
      (function_of free (suc depth) block t.of t.pointers t.name t is.m3 rest (subst (λ i. ReadsBack free (function_from (parameter i) block t.of t.pointers t.name is.m3) t rest) (one_less depth)
      (function_from_reads_back free (IsParameter free extra depth) (parameter depth) (parameter_local depth) (parameter_begins free extra depth) (parameter_again free extra depth) Block block opens block_again t is.m3 is.m4 is.m5 rest is.opening is.parameters is.body))))

  struct_reads_back : (n : ℕ) (xs : List StructMember) (k rest : List NumberedKind) → IsStruct (IsDeclaration free extra depth) n xs k rest → ReadsBack free (typed_item (suc depth) block k) (items.StructDef n xs) rest
  unfolding typed_item struct_item struct_from
  struct_reads_back n xs k rest is =
      let t : Item = items.StructDef n xs in
      reads_back_at free (typed_item (suc depth) block k) (struct_item (suc depth) block k) t rest (ap (λ o. typed_by (suc depth) block o k) (kind_first kind.Struct k is.m1 is.word))
      (bind_reads_back free (expect kind.Struct k) _ is.word.0 is.m1 t rest (first_reads_back free kind.Struct k is.m1 is.word)
      (bind_reads_back free (expect kind.Name is.m1) _ n is.m2 t rest (expect_reads_back free kind.Name n is.m1 is.m2 is.name)
      (reads_back_at free (struct_from (suc depth) block n is.m2) (struct_definition (suc depth) n is.m2) t rest (ap (λ o. struct_by (suc depth) block n o is.m2) (kind_first kind.OpenBrace is.m2 is.m3 is.opening))
      (struct_of free (suc depth) block n xs is.m2 rest (subst (λ i. ReadsBack free (struct_members (declaration i) is.m2) xs rest) (one_less depth)
      (struct_members_reads_back free (IsDeclaration free extra depth) (declaration depth) (declaration_local depth) (declaration_eats depth) (declaration_begins free extra depth) (declaration_again free extra depth) xs is.m2 is.m3 is.m4 is.m5 rest is.opening is.members is.closing is.semicolon))))))

  pub typed_reads_back : (t : Item) (k rest : List NumberedKind) → IsTypedItem (IsDeclaration free extra (suc depth)) (IsDeclaration free extra depth) (IsParameter free extra depth) Block t k rest → ReadsBack free (typed_item (suc depth) block k) t rest
  typed_reads_back t k rest (is_definition d e is) = reads_back_as free (typed_item (suc depth) block k) (items.Definition d) t rest (sym e) (declarators_reads_back d.of d.declarators k is.m1 is.m2 rest is.of_type is.declarators is.semicolon)
  typed_reads_back t k rest (is_function f e is) = reads_back_as free (typed_item (suc depth) block k) (items.Function f) t rest (sym e) (function_reads_back f k rest is)
  typed_reads_back t k rest (is_struct n xs e is) = reads_back_as free (typed_item (suc depth) block k) (items.StructDef n xs) t rest (sym e) (struct_reads_back n xs k rest is)

-- ---- with the blocks of the grammar

block_opens : (free extra depth : ℕ) (b : List Member) (k rest : List NumberedKind) → IsBlockWithin free extra depth b k rest → (mid : List NumberedKind) × First kind.OpenBrace k mid
block_opens free extra (suc depth) b k rest is = (is.m1, is.opening)
block_opens free (suc extra) zero b k rest is = (is.1.m1, is.1.opening)
block_opens free zero zero b k rest is = absurd is

-- An item that begins with a type is read again, whatever is after it, where the blocks of
-- functions are.
pub typed_item_reads_back : (free extra depth levels : ℕ) (block : Reader (List Member)) → ((b : List Member) (k rest : List NumberedKind) → IsBlockWithin free extra levels b k rest → ReadsBack free (block k) b rest) → (t : Item) (k rest : List NumberedKind) → IsTypedItem (IsDeclaration free extra (suc depth)) (IsDeclaration free extra depth) (IsParameter free extra depth) (IsBlockWithin free extra levels) t k rest → ReadsBack free (typed_item (suc depth) block k) t rest
typed_item_reads_back free extra depth levels block again t k rest is = typed_reads_back free extra depth (IsBlockWithin free extra levels) block (block_opens free extra levels) again t k rest is

pub typed_item_again : (free extra depth : ℕ) (t : Item) (k rest : List NumberedKind) → IsTypedItem (IsDeclaration free extra (suc depth)) (IsDeclaration free extra depth) (IsParameter free extra depth) (IsBlockWithin free extra (suc depth)) t k rest → ReadsBack free (typed_item (suc depth) (block (suc depth)) k) t rest
typed_item_again free extra depth t k rest is = typed_item_reads_back free extra depth (suc depth) (block (suc depth)) (block_within_again free extra (suc depth)) t k rest is

-- such an item begins as a type does
pub typed_item_begins : (free extra depth : ℕ) (Inner : Declaration → List NumberedKind → List NumberedKind → Type 0) (Param : Parameter → List NumberedKind → List NumberedKind → Type 0) (Block : List Member → List NumberedKind → List NumberedKind → Type 0) (t : Item) (k rest : List NumberedKind) → IsTypedItem (IsDeclaration free extra depth) Inner Param Block t k rest → begins_type (kind_at k) ≡ true
typed_item_begins free extra depth Inner Param Block t k rest (is_definition d e is) = declaration_begins free extra depth d k rest is
typed_item_begins free extra depth Inner Param Block t k rest (is_function f e is) = type_begins f.of k is.m1 is.of_type
typed_item_begins free extra depth Inner Param Block t k rest (is_struct n xs e is) = ap begins_type (kind_first kind.Struct k is.m1 is.word)
