-- The laws of types and of their names: no look ahead, completion, reading again.
use Rattle.std.proofs.Common.{◌≡◌, ℕ, Bool, true, false, List, [], ◌∷◌, Option, Some, None, Ok, refl, sym, ap, subst, ◌∙◌}
use Rattle.std.proofs.lemmas.Bool.{false_from_ne_true}
use Rattle.snl_lex.specs.declared.kind.Kind.{Kind}
use Rattle.snl_lex.specs.declared.kind.Kind.TheVariants as kind
use Rattle.snl_grammar.specs.declared.tree.types.Integer.{Integer}
use Rattle.snl_grammar.specs.declared.tree.types.Integer.TheVariants as integers
use Rattle.snl_grammar.specs.declared.tree.types.Base.{Base}
use Rattle.snl_grammar.specs.declared.tree.types.Base.TheVariants as bases
use Rattle.snl_grammar.specs.declared.tree.types.QualifiedType.{QualifiedType}
use Rattle.snl_grammar.specs.declared.tree.types.Pointer.{Pointer}
use Rattle.snl_grammar.specs.declared.tree.types.Pointer.TheVariants as pointers
use Rattle.snl_grammar.specs.declared.tree.types.TypeName.{TypeName}
use Rattle.snl_grammar.specs.Tokens.{NumberedKind, same}
use Rattle.snl_grammar.specs.Steps.{and_then, pure, kind_at, expect, accept, word}
use Rattle.snl_grammar.specs.Reading.Types.{short, long, short_integer, long_integer, integer_by, integer, begins_integer, plain_integer, unsigned_by, unsigned_rest, unsigned, named, base_by, base, type_of, pointer_of, pointer_by, next_pointer, stars, type_name, begins_type}
use Rattle.snl_grammar.specs.Grammar.Base.{Each, First, Leaf, Fixed}
use Rattle.snl_grammar.specs.Grammar.Types.{Written, integer_words, IsInteger, IsBase, IsType, IsPointer, IsTypeName}
use Rattle.snl_grammar.proofs.Same.{same_true}
use Rattle.snl_grammar.proofs.Local.{Local, EatsSome, bind_local, choice_local, pure_local, refuse_local, expect_local, accept_local, many_local, bind_eats, expect_eats, eats_some, none_eats}
use Rattle.snl_grammar.proofs.Viable.{Makes, Viable, Completable, Exists, Both, both, Next, Lists, IsNothing, bind_completable, into_completable, choice_viable, refuse_viable, expect_completable, accept_completable, pure_completable, many_completable}
use Rattle.snl_grammar.proofs.Again.{ReadsBack, reads_back_at, bind_reads_back, pure_reads_back, expect_reads_back, first_reads_back, kind_first, Lacks, first_lacks, written_reads_back, many_reads_back, read}

-- ---- no look ahead

pub word_local : {A : Type 0} (x : Kind) (a : A) → Local (word x a)
word_local x a = bind_local (expect x) _ (expect_local x) (λ _. pure_local a)

short_local : Local short_integer
unfolding short_integer
short_local = bind_local (expect kind.Short) _ (expect_local kind.Short) (λ _. bind_local (accept kind.Int) _ (accept_local kind.Int) (λ b. pure_local (short b)))

long_local : Local long_integer
unfolding long_integer
long_local = bind_local (expect kind.Long) _ (expect_local kind.Long) (λ _. bind_local (accept kind.Int) _ (accept_local kind.Int) (λ b. pure_local (long b)))

integer_by_local : (o : Option Kind) → Local (integer_by o)
unfolding integer_by
integer_by_local (Some kind.Char) = word_local kind.Char integers.Char
integer_by_local (Some kind.Short) = short_local
integer_by_local (Some kind.Int) = word_local kind.Int integers.Int
integer_by_local (Some kind.Long) = long_local
integer_by_local _ = refuse_local

integer_local : Local integer
unfolding integer
integer_local = choice_local integer_by integer_by_local

plain_local : Local plain_integer
unfolding plain_integer
plain_local = bind_local integer _ integer_local (λ i. pure_local (bases.Integer i))

unsigned_by_local : (b : Bool) → Local (unsigned_by b)
unsigned_by_local true = bind_local integer _ integer_local (λ i. pure_local (bases.UnsignedInteger i))
unsigned_by_local false = pure_local bases.Unsigned

unsigned_local : Local unsigned
unfolding unsigned unsigned_rest
unsigned_local = bind_local (expect kind.Unsigned) _ (expect_local kind.Unsigned) (λ _. choice_local (λ o. unsigned_by (begins_integer o)) (λ o. unsigned_by_local (begins_integer o)))

named_local : (x : Kind) (make : ℕ → Base) → Local (named x make)
unfolding named
named_local x make = bind_local (expect x) _ (expect_local x) (λ _. bind_local (expect kind.Name) _ (expect_local kind.Name) (λ n. pure_local (make n)))

base_by_local : (o : Option Kind) → Local (base_by o)
unfolding base_by
base_by_local (Some kind.Void) = word_local kind.Void bases.Void
base_by_local (Some kind.Int8) = word_local kind.Int8 bases.Int8
base_by_local (Some kind.Uint8) = word_local kind.Uint8 bases.Uint8
base_by_local (Some kind.Int16) = word_local kind.Int16 bases.Int16
base_by_local (Some kind.Uint16) = word_local kind.Uint16 bases.Uint16
base_by_local (Some kind.Int32) = word_local kind.Int32 bases.Int32
base_by_local (Some kind.Uint32) = word_local kind.Uint32 bases.Uint32
base_by_local (Some kind.Float) = word_local kind.Float bases.Float
base_by_local (Some kind.Double) = word_local kind.Double bases.Double
base_by_local (Some kind.String) = word_local kind.String bases.String
base_by_local (Some kind.Evflag) = word_local kind.Evflag bases.Evflag
base_by_local (Some kind.Char) = plain_local
base_by_local (Some kind.Short) = plain_local
base_by_local (Some kind.Int) = plain_local
base_by_local (Some kind.Long) = plain_local
base_by_local (Some kind.Unsigned) = unsigned_local
base_by_local (Some kind.Enum) = named_local kind.Enum bases.Enum
base_by_local (Some kind.Struct) = named_local kind.Struct bases.Struct
base_by_local (Some kind.Union) = named_local kind.Union bases.Union
base_by_local (Some kind.Typename) = named_local kind.Typename bases.Typename
base_by_local _ = refuse_local

base_local : Local base
unfolding base
base_local = choice_local base_by base_by_local

pub type_local : Local type_of
unfolding type_of
type_local = bind_local (accept kind.Const) _ (accept_local kind.Const) (λ before. bind_local base _ base_local (λ b. bind_local (accept kind.Const) _ (accept_local kind.Const) (λ after. pure_local (record { leading_const = before; base = b; trailing_const = after }))))

pointer_by_local : (o : Option Kind) → Local (pointer_by o)
pointer_by_local (Some kind.Star) = bind_local (expect kind.Star) _ (expect_local kind.Star) (λ _. bind_local (accept kind.Const) _ (accept_local kind.Const) (λ b. pure_local (Some (pointer_of b))))
pointer_by_local _ = pure_local None

pointer_local : Local next_pointer
unfolding next_pointer
pointer_local = choice_local pointer_by pointer_by_local

pointer_by_eats : (o : Option Kind) → EatsSome (pointer_by o)
pointer_by_eats (Some kind.Star) = eats_some _ (bind_eats (expect kind.Star) (λ _. λ k. and_then (accept kind.Const k) (λ b. pure (Some (pointer_of b)))) (expect_eats kind.Star) (λ _. bind_local (accept kind.Const) _ (accept_local kind.Const) (λ b. pure_local (Some (pointer_of b)))))
pointer_by_eats _ = none_eats

pointer_eats : EatsSome next_pointer
unfolding next_pointer
pointer_eats k x m e = pointer_by_eats (kind_at k) k x m e

pub stars_local : Local stars
stars_local = many_local next_pointer pointer_eats pointer_local []

pub type_name_local : Local type_name
unfolding type_name
type_name_local = bind_local type_of _ type_local (λ t. bind_local stars _ stars_local (λ ps. pure_local (record { of = t; pointers = ps })))

-- ---- completion

-- the elements of a whole list
pub lists_each : {A : Type 0} (E : A → List NumberedKind → List NumberedKind → Type 0) (xs : List A) (k rest : List NumberedKind) → Lists E [] xs k rest → Each E xs k rest
lists_each E xs k rest h = subst (λ ys. Each E ys k rest) (sym h.1) h.2

-- the end of a list
pub none_next : {A : Type 0} (E : A → List NumberedKind → List NumberedKind → Type 0) (y : Option A) (k rest : List NumberedKind) → IsNothing None y k rest → Next E y k rest
none_next E y k rest h = subst (λ z. Next E z k rest) h.0 h.1

-- a token, and then the end
pub first_then : (x : Kind) (n : ℕ) (k m rest : List NumberedKind) → Leaf x n k m → m ≡ rest → First x k rest
first_then x n k m rest e h = (n, e ∙ ap (λ (l : List NumberedKind). (x, n) ∷ l) h)

module _ (free extra : ℕ) where
  into_word : {A : Type 0} (x : Kind) (a : A) (R : A → List NumberedKind → List NumberedKind → Type 0) → ((k rest : List NumberedKind) → First x k rest → R a k rest) → (y : A) (k rest : List NumberedKind) → Both (Leaf x) (λ _. IsNothing a) y k rest → R y k rest
  into_word x a R is y k rest (both n m e h) = subst (λ z. R z k rest) h.0 (is k rest (first_then x n k m rest e h.1))

  pub word_completable : {A : Type 0} (x : Kind) (a : A) (R : A → List NumberedKind → List NumberedKind → Type 0) → ((k rest : List NumberedKind) → First x k rest → R a k rest) → Completable free extra (word x a) R (x ∷ [])
  word_completable x a R is = into_completable free extra (word x a) (Both (Leaf x) (λ _. IsNothing a)) R (x ∷ []) (into_word x a R is) (bind_completable free extra (expect x) (λ _. pure a) (Leaf x) (λ _. IsNothing a) (x ∷ []) [] (expect_completable free extra x) (λ _. pure_completable free extra a))

  into_short : (y : Integer) (k rest : List NumberedKind) → Both (Leaf kind.Short) (λ _. Both (Written kind.Int) (λ b. IsNothing (short b))) y k rest → IsInteger y k rest
  into_short y k rest (both n m e (both true m2 f h)) = subst (λ z. IsInteger z k rest) h.0 (m, (n, e), (m2, f, h.1))
  into_short y k rest (both n m e (both false m2 f h)) = subst (λ z. IsInteger z k rest) h.0 (m, (n, e), f ∙ h.1)

  into_long : (y : Integer) (k rest : List NumberedKind) → Both (Leaf kind.Long) (λ _. Both (Written kind.Int) (λ b. IsNothing (long b))) y k rest → IsInteger y k rest
  into_long y k rest (both n m e (both true m2 f h)) = subst (λ z. IsInteger z k rest) h.0 (m, (n, e), (m2, f, h.1))
  into_long y k rest (both n m e (both false m2 f h)) = subst (λ z. IsInteger z k rest) h.0 (m, (n, e), f ∙ h.1)

  short_viable : Viable free extra short_integer IsInteger (Exists IsInteger)
  unfolding short_integer
  short_viable = (into_completable free extra short_integer _ IsInteger _ into_short (bind_completable free extra (expect kind.Short) _ (Leaf kind.Short) (λ _. Both (Written kind.Int) (λ b. IsNothing (short b))) (kind.Short ∷ []) [] (expect_completable free extra kind.Short) (λ _. bind_completable free extra (accept kind.Int) _ (Written kind.Int) (λ b. IsNothing (short b)) [] [] (accept_completable free extra kind.Int) (λ b. pure_completable free extra (short b))))).viable

  long_viable : Viable free extra long_integer IsInteger (Exists IsInteger)
  unfolding long_integer
  long_viable = (into_completable free extra long_integer _ IsInteger _ into_long (bind_completable free extra (expect kind.Long) _ (Leaf kind.Long) (λ _. Both (Written kind.Int) (λ b. IsNothing (long b))) (kind.Long ∷ []) [] (expect_completable free extra kind.Long) (λ _. bind_completable free extra (accept kind.Int) _ (Written kind.Int) (λ b. IsNothing (long b)) [] [] (accept_completable free extra kind.Int) (λ b. pure_completable free extra (long b))))).viable

  is_word : (i : Integer) (x : Kind) → integer_words i ≡ x ∷ [] → (k rest : List NumberedKind) → First x k rest → IsInteger i k rest
  is_word i x e k rest f = subst (λ ws. Fixed ws k rest) (sym e) (rest, f, refl)

  integer_makes : Makes free extra (Exists IsInteger) (kind.Int ∷ [])
  integer_makes n rest room = (integers.Int, (rest, (n, refl), refl))

  integer_by_viable : (o : Option Kind) → Viable free extra (integer_by o) IsInteger (Exists IsInteger)
  unfolding integer_by
  integer_by_viable (Some kind.Char) = (word_completable kind.Char integers.Char IsInteger (is_word integers.Char kind.Char refl)).viable
  integer_by_viable (Some kind.Short) = short_viable
  integer_by_viable (Some kind.Int) = (word_completable kind.Int integers.Int IsInteger (is_word integers.Int kind.Int refl)).viable
  integer_by_viable (Some kind.Long) = long_viable
  integer_by_viable _ = refuse_viable free extra IsInteger (Exists IsInteger) (kind.Int ∷ []) integer_makes

  integer_completable : Completable free extra integer IsInteger (kind.Int ∷ [])
  unfolding integer
  integer_completable = record { viable = choice_viable free extra integer_by IsInteger (Exists IsInteger) integer_by_viable; makes = integer_makes }

  into_plain : (y : Base) (k rest : List NumberedKind) → Both IsInteger (λ i. IsNothing (bases.Integer i)) y k rest → IsBase y k rest
  into_plain y k rest (both i m e h) = subst (λ z. IsBase z k rest) h.0 (subst (λ l. IsInteger i k l) h.1 e)

  plain_completable : Completable free extra plain_integer IsBase (kind.Int ∷ [])
  unfolding plain_integer
  plain_completable = into_completable free extra plain_integer _ IsBase (kind.Int ∷ []) into_plain (bind_completable free extra integer _ IsInteger (λ i. IsNothing (bases.Integer i)) (kind.Int ∷ []) [] integer_completable (λ i. pure_completable free extra (bases.Integer i)))

  -- what may come after `unsigned`
  abbrev AfterUnsigned : Base → List NumberedKind → List NumberedKind → Type 0
  AfterUnsigned y k rest = (n : ℕ) → IsBase y ((kind.Unsigned, n) ∷ k) rest

  into_some : (y : Base) (k rest : List NumberedKind) → Both IsInteger (λ i. IsNothing (bases.UnsignedInteger i)) y k rest → AfterUnsigned y k rest
  into_some y k rest (both i m e h) n = subst (λ z. IsBase z ((kind.Unsigned, n) ∷ k) rest) h.0 (k, (n, refl), subst (λ l. IsInteger i k l) h.1 e)

  into_none : (y : Base) (k rest : List NumberedKind) → IsNothing bases.Unsigned y k rest → AfterUnsigned y k rest
  into_none y k rest h n = subst (λ z. IsBase z ((kind.Unsigned, n) ∷ k) rest) h.0 (n, ap (λ (l : List NumberedKind). (kind.Unsigned, n) ∷ l) h.1)

  after_makes : Makes free extra (Exists AfterUnsigned) []
  after_makes n rest room = (bases.Unsigned, into_none bases.Unsigned rest rest (refl, refl))

  unsigned_by_viable : (b : Bool) → Viable free extra (unsigned_by b) AfterUnsigned (Exists AfterUnsigned)
  unsigned_by_viable true = (into_completable free extra (unsigned_by true) _ AfterUnsigned (kind.Int ∷ []) into_some (bind_completable free extra integer _ IsInteger (λ i. IsNothing (bases.UnsignedInteger i)) (kind.Int ∷ []) [] integer_completable (λ i. pure_completable free extra (bases.UnsignedInteger i)))).viable
  unsigned_by_viable false = (into_completable free extra (unsigned_by false) (IsNothing bases.Unsigned) AfterUnsigned [] into_none (pure_completable free extra bases.Unsigned)).viable

  rest_completable : Completable free extra unsigned_rest AfterUnsigned []
  unfolding unsigned_rest
  rest_completable = record { viable = choice_viable free extra (λ o. unsigned_by (begins_integer o)) AfterUnsigned (Exists AfterUnsigned) (λ o. unsigned_by_viable (begins_integer o)); makes = after_makes }

  into_unsigned : (y : Base) (k rest : List NumberedKind) → Both (Leaf kind.Unsigned) (λ _. AfterUnsigned) y k rest → IsBase y k rest
  into_unsigned y k rest (both n m e h) = subst (λ l. IsBase y l rest) (sym e) (h n)

  unsigned_completable : Completable free extra unsigned IsBase (kind.Unsigned ∷ [])
  unfolding unsigned
  unsigned_completable = into_completable free extra unsigned _ IsBase (kind.Unsigned ∷ []) into_unsigned (bind_completable free extra (expect kind.Unsigned) _ (Leaf kind.Unsigned) (λ _. AfterUnsigned) (kind.Unsigned ∷ []) [] (expect_completable free extra kind.Unsigned) (λ _. rest_completable))

  into_named : (x : Kind) (make : ℕ → Base) → ((n : ℕ) (k mid rest : List NumberedKind) → First x k mid → Leaf kind.Name n mid rest → IsBase (make n) k rest) → (y : Base) (k rest : List NumberedKind) → Both (Leaf x) (λ _. Both (Leaf kind.Name) (λ n. IsNothing (make n))) y k rest → IsBase y k rest
  into_named x make is y k rest (both i m e (both n m2 f h)) = subst (λ z. IsBase z k rest) h.0 (is n k m rest (i, e) (f ∙ ap (λ (l : List NumberedKind). (kind.Name, n) ∷ l) h.1))

  named_viable : (x : Kind) (make : ℕ → Base) → ((n : ℕ) (k mid rest : List NumberedKind) → First x k mid → Leaf kind.Name n mid rest → IsBase (make n) k rest) → Viable free extra (named x make) IsBase (Exists IsBase)
  unfolding named
  named_viable x make is = (into_completable free extra (named x make) _ IsBase (x ∷ kind.Name ∷ []) (into_named x make is) (bind_completable free extra (expect x) _ (Leaf x) (λ _. Both (Leaf kind.Name) (λ n. IsNothing (make n))) (x ∷ []) (kind.Name ∷ []) (expect_completable free extra x) (λ _. bind_completable free extra (expect kind.Name) _ (Leaf kind.Name) (λ n. IsNothing (make n)) (kind.Name ∷ []) [] (expect_completable free extra kind.Name) (λ n. pure_completable free extra (make n))))).viable

  base_makes : Makes free extra (Exists IsBase) (kind.Int ∷ [])
  base_makes n rest room = (bases.Integer integers.Int, (rest, (n, refl), refl))

  base_by_viable : (o : Option Kind) → Viable free extra (base_by o) IsBase (Exists IsBase)
  unfolding base_by
  base_by_viable (Some kind.Void) = (word_completable kind.Void bases.Void IsBase (λ k rest f. f)).viable
  base_by_viable (Some kind.Int8) = (word_completable kind.Int8 bases.Int8 IsBase (λ k rest f. f)).viable
  base_by_viable (Some kind.Uint8) = (word_completable kind.Uint8 bases.Uint8 IsBase (λ k rest f. f)).viable
  base_by_viable (Some kind.Int16) = (word_completable kind.Int16 bases.Int16 IsBase (λ k rest f. f)).viable
  base_by_viable (Some kind.Uint16) = (word_completable kind.Uint16 bases.Uint16 IsBase (λ k rest f. f)).viable
  base_by_viable (Some kind.Int32) = (word_completable kind.Int32 bases.Int32 IsBase (λ k rest f. f)).viable
  base_by_viable (Some kind.Uint32) = (word_completable kind.Uint32 bases.Uint32 IsBase (λ k rest f. f)).viable
  base_by_viable (Some kind.Float) = (word_completable kind.Float bases.Float IsBase (λ k rest f. f)).viable
  base_by_viable (Some kind.Double) = (word_completable kind.Double bases.Double IsBase (λ k rest f. f)).viable
  base_by_viable (Some kind.String) = (word_completable kind.String bases.String IsBase (λ k rest f. f)).viable
  base_by_viable (Some kind.Evflag) = (word_completable kind.Evflag bases.Evflag IsBase (λ k rest f. f)).viable
  base_by_viable (Some kind.Char) = plain_completable.viable
  base_by_viable (Some kind.Short) = plain_completable.viable
  base_by_viable (Some kind.Int) = plain_completable.viable
  base_by_viable (Some kind.Long) = plain_completable.viable
  base_by_viable (Some kind.Unsigned) = unsigned_completable.viable
  base_by_viable (Some kind.Enum) = named_viable kind.Enum bases.Enum (λ n k mid rest f g. (mid, f, g))
  base_by_viable (Some kind.Struct) = named_viable kind.Struct bases.Struct (λ n k mid rest f g. (mid, f, g))
  base_by_viable (Some kind.Union) = named_viable kind.Union bases.Union (λ n k mid rest f g. (mid, f, g))
  base_by_viable (Some kind.Typename) = named_viable kind.Typename bases.Typename (λ n k mid rest f g. (mid, f, g))
  base_by_viable _ = refuse_viable free extra IsBase (Exists IsBase) (kind.Int ∷ []) base_makes

  base_completable : Completable free extra base IsBase (kind.Int ∷ [])
  unfolding base
  base_completable = record { viable = choice_viable free extra base_by IsBase (Exists IsBase) base_by_viable; makes = base_makes }

  abbrev make_type : Bool → Base → Bool → QualifiedType
  make_type before b after = record { leading_const = before; base = b; trailing_const = after }

  into_type : (y : QualifiedType) (k rest : List NumberedKind) → Both (Written kind.Const) (λ before. Both IsBase (λ b. Both (Written kind.Const) (λ after. IsNothing (make_type before b after)))) y k rest → IsType y k rest
  into_type y k rest (both before m1 w1 (both b m2 w2 (both after m3 w3 h))) =
      subst (λ z. IsType z k rest) h.0 (record { m1 = m1; m2 = m2; before = w1; base = w2; after = subst (λ l. Written kind.Const after m2 l) h.1 w3 })

  pub type_completable : Completable free extra type_of IsType (kind.Int ∷ [])
  unfolding type_of
  type_completable = into_completable free extra type_of _ IsType (kind.Int ∷ []) into_type
      (bind_completable free extra (accept kind.Const) _ (Written kind.Const) (λ before. Both IsBase (λ b. Both (Written kind.Const) (λ after. IsNothing (make_type before b after)))) [] (kind.Int ∷ []) (accept_completable free extra kind.Const) (λ before.
      bind_completable free extra base _ IsBase (λ b. Both (Written kind.Const) (λ after. IsNothing (make_type before b after))) (kind.Int ∷ []) [] base_completable (λ b.
      bind_completable free extra (accept kind.Const) _ (Written kind.Const) (λ after. IsNothing (make_type before b after)) [] [] (accept_completable free extra kind.Const) (λ after. pure_completable free extra (make_type before b after)))))

  into_pointer : (y : Option Pointer) (k rest : List NumberedKind) → Both (Leaf kind.Star) (λ _. Both (Written kind.Const) (λ b. IsNothing (Some (pointer_of b)))) y k rest → Next IsPointer y k rest
  into_pointer y k rest (both n m e (both true m2 f h)) = subst (λ z. Next IsPointer z k rest) h.0 (m, (n, e), subst (λ l. First kind.Const m l) h.1 f)
  into_pointer y k rest (both n m e (both false m2 f h)) = subst (λ z. Next IsPointer z k rest) h.0 (first_then kind.Star n k m rest e (f ∙ h.1))

  pointer_by_viable : (o : Option Kind) → Viable free extra (pointer_by o) (Next IsPointer) (Exists (Next IsPointer))
  pointer_by_viable (Some kind.Star) = (into_completable free extra (pointer_by (Some kind.Star)) _ (Next IsPointer) (kind.Star ∷ []) into_pointer (bind_completable free extra (expect kind.Star) _ (Leaf kind.Star) (λ _. Both (Written kind.Const) (λ b. IsNothing (Some (pointer_of b)))) (kind.Star ∷ []) [] (expect_completable free extra kind.Star) (λ _. bind_completable free extra (accept kind.Const) _ (Written kind.Const) (λ b. IsNothing (Some (pointer_of b))) [] [] (accept_completable free extra kind.Const) (λ b. pure_completable free extra (Some (pointer_of b)))))).viable
  pointer_by_viable _ = (into_completable free extra (pure None) (IsNothing None) (Next IsPointer) [] (none_next IsPointer) (pure_completable free extra None)).viable

  pointer_viable : Viable free extra next_pointer (Next IsPointer) (Exists (Next IsPointer))
  unfolding next_pointer
  pointer_viable = choice_viable free extra pointer_by (Next IsPointer) (Exists (Next IsPointer)) pointer_by_viable

  pub stars_completable : Completable free extra stars (Each IsPointer) []
  stars_completable = into_completable free extra stars (Lists IsPointer []) (Each IsPointer) [] (lists_each IsPointer) (many_completable free extra IsPointer next_pointer pointer_viable [])

  abbrev make_name : QualifiedType → List Pointer → TypeName
  make_name t ps = record { of = t; pointers = ps }

  into_name : (y : TypeName) (k rest : List NumberedKind) → Both IsType (λ t. Both (Each IsPointer) (λ ps. IsNothing (make_name t ps))) y k rest → IsTypeName y k rest
  into_name y k rest (both t m1 w1 (both ps m2 w2 h)) = subst (λ z. IsTypeName z k rest) h.0 (record { mid = m1; of_type = w1; stars = subst (λ l. Each IsPointer ps m1 l) h.1 w2 })

  pub type_name_completable : Completable free extra type_name IsTypeName (kind.Int ∷ [])
  unfolding type_name
  type_name_completable = into_completable free extra type_name _ IsTypeName (kind.Int ∷ []) into_name
      (bind_completable free extra type_of _ IsType (λ t. Both (Each IsPointer) (λ ps. IsNothing (make_name t ps))) (kind.Int ∷ []) [] type_completable (λ t.
      bind_completable free extra stars _ (Each IsPointer) (λ ps. IsNothing (make_name t ps)) [] [] stars_completable (λ ps. pure_completable free extra (make_name t ps))))

-- ---- reading again

-- the words that go on with a base
abbrev pub goes_on : Kind → Bool
goes_on kind.Char = true
goes_on kind.Short = true
goes_on kind.Int = true
goes_on kind.Long = true
goes_on _ = false

-- the next token doesn't go on with a base
abbrev pub BaseStops : List NumberedKind → Type 0
BaseStops [] = Unit {0}
BaseStops (s ∷ k) = goes_on s.0 ≡ false

pub first_base_stops : (x : Kind) (k rest : List NumberedKind) → goes_on x ≡ false → First x k rest → BaseStops k
first_base_stops x k rest h f = subst BaseStops (sym f.1) h

stops_lack : (x : Kind) (k : List NumberedKind) → goes_on x ≡ true → BaseStops k → Lacks x k
stops_lack x [] t h = tt
stops_lack x (s ∷ k) t h = false_from_ne_true (same s.0 x) (λ e. let g : goes_on s.0 ≡ goes_on x = ap goes_on (same_true s.0 x e) in let f : goes_on s.0 ≡ false = h in absurd cc)

no_integer_kind : (d : Kind) → goes_on d ≡ false → begins_integer (Some d) ≡ false
no_integer_kind kind.Char e = absurd cc
no_integer_kind kind.Short e = absurd cc
no_integer_kind kind.Int e = absurd cc
no_integer_kind kind.Long e = absurd cc
no_integer_kind _ e = refl

no_integer : (k : List NumberedKind) → BaseStops k → begins_integer (kind_at k) ≡ false
unfolding kind_at
no_integer [] h = refl
no_integer (s ∷ k) h = no_integer_kind s.0 h

module _ (free : ℕ) where
  pub word_reads_back : {A : Type 0} (x : Kind) (a : A) (k rest : List NumberedKind) → First x k rest → ReadsBack free (word x a k) a rest
  word_reads_back x a k rest f = bind_reads_back free (expect x k) (λ _. pure a) f.0 rest a rest (first_reads_back free x k rest f) (pure_reads_back free a rest)

  by_integer : (x : Kind) (t : Integer) (k mid rest : List NumberedKind) → First x k mid → ReadsBack free (integer_by (Some x) k) t rest → ReadsBack free (integer k) t rest
  unfolding integer
  by_integer x t k mid rest f c = reads_back_at free (integer k) (integer_by (Some x) k) t rest (ap (λ o. integer_by o k) (kind_first x k mid f)) c

  short_reads_back : (b : Bool) (k mid rest : List NumberedKind) → First kind.Short k mid → Written kind.Int b mid rest → Lacks kind.Int rest → ReadsBack free (integer k) (short b) rest
  unfolding integer_by short_integer
  short_reads_back b k mid rest f w h = by_integer kind.Short (short b) k mid rest f (bind_reads_back free (expect kind.Short k) _ f.0 mid (short b) rest (first_reads_back free kind.Short k mid f) (bind_reads_back free (accept kind.Int mid) _ b rest (short b) rest (written_reads_back free kind.Int b mid rest w h) (pure_reads_back free (short b) rest)))

  long_reads_back : (b : Bool) (k mid rest : List NumberedKind) → First kind.Long k mid → Written kind.Int b mid rest → Lacks kind.Int rest → ReadsBack free (integer k) (long b) rest
  unfolding integer_by long_integer
  long_reads_back b k mid rest f w h = by_integer kind.Long (long b) k mid rest f (bind_reads_back free (expect kind.Long k) _ f.0 mid (long b) rest (first_reads_back free kind.Long k mid f) (bind_reads_back free (accept kind.Int mid) _ b rest (long b) rest (written_reads_back free kind.Int b mid rest w h) (pure_reads_back free (long b) rest)))

  one_word : (x : Kind) (k rest : List NumberedKind) → Fixed (x ∷ []) k rest → First x k rest
  one_word x k rest f = subst (λ l. First x k l) f.2 f.1

  integer_reads_back : (t : Integer) (k rest : List NumberedKind) → IsInteger t k rest → BaseStops rest → ReadsBack free (integer k) t rest
  unfolding integer_by
  integer_reads_back integers.Char k rest is h = by_integer kind.Char integers.Char k rest rest (one_word kind.Char k rest is) (word_reads_back kind.Char integers.Char k rest (one_word kind.Char k rest is))
  integer_reads_back integers.Int k rest is h = by_integer kind.Int integers.Int k rest rest (one_word kind.Int k rest is) (word_reads_back kind.Int integers.Int k rest (one_word kind.Int k rest is))
  integer_reads_back integers.Short k rest is h = short_reads_back false k is.0 rest is.1 is.2 (stops_lack kind.Int rest refl h)
  integer_reads_back integers.ShortInt k rest is h = short_reads_back true k is.0 rest is.1 (one_word kind.Int is.0 rest is.2) (stops_lack kind.Int rest refl h)
  integer_reads_back integers.Long k rest is h = long_reads_back false k is.0 rest is.1 is.2 (stops_lack kind.Int rest refl h)
  integer_reads_back integers.LongInt k rest is h = long_reads_back true k is.0 rest is.1 (one_word kind.Int is.0 rest is.2) (stops_lack kind.Int rest refl h)

  -- the word that an integer base begins with
  integer_first : (t : Integer) (k rest : List NumberedKind) → IsInteger t k rest → (x : Kind) × (mid : List NumberedKind) × First x k mid × (begins_integer (Some x) ≡ true) × (begins_type (Some x) ≡ true) × (base_by (Some x) ≡ plain_integer)
  unfolding base_by
  integer_first integers.Char k rest is = (kind.Char, is.0, is.1, refl, refl, refl)
  integer_first integers.Short k rest is = (kind.Short, is.0, is.1, refl, refl, refl)
  integer_first integers.ShortInt k rest is = (kind.Short, is.0, is.1, refl, refl, refl)
  integer_first integers.Int k rest is = (kind.Int, is.0, is.1, refl, refl, refl)
  integer_first integers.Long k rest is = (kind.Long, is.0, is.1, refl, refl, refl)
  integer_first integers.LongInt k rest is = (kind.Long, is.0, is.1, refl, refl, refl)

  by_base : (x : Kind) (t : Base) (k mid rest : List NumberedKind) → First x k mid → ReadsBack free (base_by (Some x) k) t rest → ReadsBack free (base k) t rest
  unfolding base
  by_base x t k mid rest f c = reads_back_at free (base k) (base_by (Some x) k) t rest (ap (λ o. base_by o k) (kind_first x k mid f)) c

  plain_reads_back : (i : Integer) (k rest : List NumberedKind) → IsInteger i k rest → BaseStops rest → ReadsBack free (base k) (bases.Integer i) rest
  unfolding plain_integer
  plain_reads_back i k rest is h =
      let f = integer_first i k rest is in
      by_base f.0 (bases.Integer i) k f.1 rest f.2 (reads_back_at free (base_by (Some f.0) k) (plain_integer k) (bases.Integer i) rest (ap (λ p. p k) f.5) (bind_reads_back free (integer k) _ i rest (bases.Integer i) rest (integer_reads_back i k rest is h) (pure_reads_back free (bases.Integer i) rest)))

  bare_reads_back : (k : List NumberedKind) → BaseStops k → ReadsBack free (unsigned_rest k) bases.Unsigned k
  unfolding unsigned_rest
  bare_reads_back k h = reads_back_at free (unsigned_rest k) (unsigned_by false k) bases.Unsigned k (ap (λ b. unsigned_by b k) (no_integer k h)) (pure_reads_back free bases.Unsigned k)

  some_reads_back : (i : Integer) (k rest : List NumberedKind) → IsInteger i k rest → BaseStops rest → ReadsBack free (unsigned_rest k) (bases.UnsignedInteger i) rest
  unfolding unsigned_rest
  some_reads_back i k rest is h =
      let f = integer_first i k rest is in
      let e = ap begins_integer (kind_first f.0 k f.1 f.2) ∙ f.3 in
      reads_back_at free (unsigned_rest k) (unsigned_by true k) (bases.UnsignedInteger i) rest (ap (λ b. unsigned_by b k) e) (bind_reads_back free (integer k) _ i rest (bases.UnsignedInteger i) rest (integer_reads_back i k rest is h) (pure_reads_back free (bases.UnsignedInteger i) rest))

  unsigned_reads_back : (t : Base) (k mid rest : List NumberedKind) → First kind.Unsigned k mid → ReadsBack free (unsigned_rest mid) t rest → ReadsBack free (base k) t rest
  unfolding base_by unsigned
  unsigned_reads_back t k mid rest f c = by_base kind.Unsigned t k mid rest f (bind_reads_back free (expect kind.Unsigned k) _ f.0 mid t rest (first_reads_back free kind.Unsigned k mid f) c)

  named_reads_back : (x : Kind) (make : ℕ → Base) (n : ℕ) (k mid rest : List NumberedKind) → First x k mid → Leaf kind.Name n mid rest → ReadsBack free (named x make k) (make n) rest
  unfolding named
  named_reads_back x make n k mid rest f e = bind_reads_back free (expect x k) _ f.0 mid (make n) rest (first_reads_back free x k mid f) (bind_reads_back free (expect kind.Name mid) _ n rest (make n) rest (expect_reads_back free kind.Name n mid rest e) (pure_reads_back free (make n) rest))

  base_reads_back : (t : Base) (k rest : List NumberedKind) → IsBase t k rest → BaseStops rest → ReadsBack free (base k) t rest
  unfolding base_by
  base_reads_back bases.Void k rest is h = by_base kind.Void bases.Void k rest rest is (word_reads_back kind.Void bases.Void k rest is)
  base_reads_back bases.Int8 k rest is h = by_base kind.Int8 bases.Int8 k rest rest is (word_reads_back kind.Int8 bases.Int8 k rest is)
  base_reads_back bases.Uint8 k rest is h = by_base kind.Uint8 bases.Uint8 k rest rest is (word_reads_back kind.Uint8 bases.Uint8 k rest is)
  base_reads_back bases.Int16 k rest is h = by_base kind.Int16 bases.Int16 k rest rest is (word_reads_back kind.Int16 bases.Int16 k rest is)
  base_reads_back bases.Uint16 k rest is h = by_base kind.Uint16 bases.Uint16 k rest rest is (word_reads_back kind.Uint16 bases.Uint16 k rest is)
  base_reads_back bases.Int32 k rest is h = by_base kind.Int32 bases.Int32 k rest rest is (word_reads_back kind.Int32 bases.Int32 k rest is)
  base_reads_back bases.Uint32 k rest is h = by_base kind.Uint32 bases.Uint32 k rest rest is (word_reads_back kind.Uint32 bases.Uint32 k rest is)
  base_reads_back bases.Float k rest is h = by_base kind.Float bases.Float k rest rest is (word_reads_back kind.Float bases.Float k rest is)
  base_reads_back bases.Double k rest is h = by_base kind.Double bases.Double k rest rest is (word_reads_back kind.Double bases.Double k rest is)
  base_reads_back bases.String k rest is h = by_base kind.String bases.String k rest rest is (word_reads_back kind.String bases.String k rest is)
  base_reads_back bases.Evflag k rest is h = by_base kind.Evflag bases.Evflag k rest rest is (word_reads_back kind.Evflag bases.Evflag k rest is)
  base_reads_back (bases.Integer i) k rest is h = plain_reads_back i k rest is h
  base_reads_back bases.Unsigned k rest is h = unsigned_reads_back bases.Unsigned k rest rest is (bare_reads_back rest h)
  base_reads_back (bases.UnsignedInteger i) k rest is h = unsigned_reads_back (bases.UnsignedInteger i) k is.0 rest is.1 (some_reads_back i is.0 rest is.2 h)
  base_reads_back (bases.Enum n) k rest is h = by_base kind.Enum (bases.Enum n) k is.0 rest is.1 (named_reads_back kind.Enum bases.Enum n k is.0 rest is.1 is.2)
  base_reads_back (bases.Struct n) k rest is h = by_base kind.Struct (bases.Struct n) k is.0 rest is.1 (named_reads_back kind.Struct bases.Struct n k is.0 rest is.1 is.2)
  base_reads_back (bases.Union n) k rest is h = by_base kind.Union (bases.Union n) k is.0 rest is.1 (named_reads_back kind.Union bases.Union n k is.0 rest is.1 is.2)
  base_reads_back (bases.Typename n) k rest is h = by_base kind.Typename (bases.Typename n) k is.0 rest is.1 (named_reads_back kind.Typename bases.Typename n k is.0 rest is.1 is.2)

-- a type begins with one of its words
abbrev pub TypeFirst : List NumberedKind → Type 0
TypeFirst k = (x : Kind) × (mid : List NumberedKind) × First x k mid × (begins_type (Some x) ≡ true) × (same x kind.Const ≡ false)

base_first : (t : Base) (k rest : List NumberedKind) → IsBase t k rest → TypeFirst k
base_first bases.Void k rest is = (kind.Void, rest, is, refl, refl)
base_first bases.Int8 k rest is = (kind.Int8, rest, is, refl, refl)
base_first bases.Uint8 k rest is = (kind.Uint8, rest, is, refl, refl)
base_first bases.Int16 k rest is = (kind.Int16, rest, is, refl, refl)
base_first bases.Uint16 k rest is = (kind.Uint16, rest, is, refl, refl)
base_first bases.Int32 k rest is = (kind.Int32, rest, is, refl, refl)
base_first bases.Uint32 k rest is = (kind.Uint32, rest, is, refl, refl)
base_first bases.Float k rest is = (kind.Float, rest, is, refl, refl)
base_first bases.Double k rest is = (kind.Double, rest, is, refl, refl)
base_first bases.String k rest is = (kind.String, rest, is, refl, refl)
base_first bases.Evflag k rest is = (kind.Evflag, rest, is, refl, refl)
base_first (bases.Integer integers.Char) k rest is = (kind.Char, is.0, is.1, refl, refl)
base_first (bases.Integer integers.Short) k rest is = (kind.Short, is.0, is.1, refl, refl)
base_first (bases.Integer integers.ShortInt) k rest is = (kind.Short, is.0, is.1, refl, refl)
base_first (bases.Integer integers.Int) k rest is = (kind.Int, is.0, is.1, refl, refl)
base_first (bases.Integer integers.Long) k rest is = (kind.Long, is.0, is.1, refl, refl)
base_first (bases.Integer integers.LongInt) k rest is = (kind.Long, is.0, is.1, refl, refl)
base_first bases.Unsigned k rest is = (kind.Unsigned, rest, is, refl, refl)
base_first (bases.UnsignedInteger i) k rest is = (kind.Unsigned, is.0, is.1, refl, refl)
base_first (bases.Enum n) k rest is = (kind.Enum, is.0, is.1, refl, refl)
base_first (bases.Struct n) k rest is = (kind.Struct, is.0, is.1, refl, refl)
base_first (bases.Union n) k rest is = (kind.Union, is.0, is.1, refl, refl)
base_first (bases.Typename n) k rest is = (kind.Typename, is.0, is.1, refl, refl)

written_begins : (b : Bool) (k mid : List NumberedKind) → Written kind.Const b k mid → TypeFirst mid → begins_type (kind_at k) ≡ true
written_begins true k mid f t = ap begins_type (kind_first kind.Const k mid f)
written_begins false k mid e t = ap (λ l. begins_type (kind_at l)) e ∙ ap begins_type (kind_first t.0 mid t.1 t.2) ∙ t.3

pub type_begins : (t : QualifiedType) (k rest : List NumberedKind) → IsType t k rest → begins_type (kind_at k) ≡ true
type_begins t k rest is = written_begins t.leading_const k is.m1 is.before (base_first t.base is.m1 is.m2 is.base)

-- the next token doesn't go on with a type
abbrev pub TypeStops : List NumberedKind → Type 0
TypeStops k = BaseStops k × Lacks kind.Const k

pub first_type_stops : (x : Kind) (k rest : List NumberedKind) → goes_on x ≡ false → same x kind.Const ≡ false → First x k rest → TypeStops k
first_type_stops x k rest h c f = (first_base_stops x k rest h f, first_lacks x kind.Const k rest c f)

written_stops : (b : Bool) (k rest : List NumberedKind) → Written kind.Const b k rest → BaseStops rest → BaseStops k
written_stops true k rest f h = first_base_stops kind.Const k rest refl f
written_stops false k rest e h = subst BaseStops (sym e) h

-- where no word is, the base's first one is no `const`
written_free : (free : ℕ) (b : Bool) (k mid : List NumberedKind) → Written kind.Const b k mid → TypeFirst mid → ReadsBack free (accept kind.Const k) b mid
written_free free b k mid w t = written_reads_back free kind.Const b k mid w (first_lacks t.0 kind.Const mid t.1 t.4 t.2)

pub type_reads_back : (free : ℕ) (t : QualifiedType) (k rest : List NumberedKind) → IsType t k rest → TypeStops rest → ReadsBack free (type_of k) t rest
unfolding type_of
type_reads_back free t k rest is h =
    bind_reads_back free (accept kind.Const k) _ t.leading_const is.m1 t rest (written_free free t.leading_const k is.m1 is.before (base_first t.base is.m1 is.m2 is.base))
    (bind_reads_back free (base is.m1) _ t.base is.m2 t rest (base_reads_back free t.base is.m1 is.m2 is.base (written_stops t.trailing_const is.m2 rest is.after h.0))
    (bind_reads_back free (accept kind.Const is.m2) _ t.trailing_const rest t rest (written_reads_back free kind.Const t.trailing_const is.m2 rest is.after h.1) (pure_reads_back free t rest)))

-- ---- stars

by_star : (free : ℕ) (b : Bool) (k mid rest : List NumberedKind) → First kind.Star k mid → Written kind.Const b mid rest → Lacks kind.Const rest → ReadsBack free (next_pointer k) (Some (pointer_of b)) rest
unfolding next_pointer
by_star free b k mid rest f w h =
    reads_back_at free (next_pointer k) (pointer_by (Some kind.Star) k) (Some (pointer_of b)) rest (ap (λ o. pointer_by o k) (kind_first kind.Star k mid f))
    (bind_reads_back free (expect kind.Star k) _ f.0 mid (Some (pointer_of b)) rest (first_reads_back free kind.Star k mid f) (bind_reads_back free (accept kind.Const mid) _ b rest (Some (pointer_of b)) rest (written_reads_back free kind.Const b mid rest w h) (pure_reads_back free (Some (pointer_of b)) rest)))

pointer_reads_back : (free : ℕ) (x : Pointer) (k m : List NumberedKind) → IsPointer x k m → Lacks kind.Const m → ReadsBack free (next_pointer k) (Some x) m
pointer_reads_back free pointers.Plain k m is h = by_star free false k m m is refl h
pointer_reads_back free pointers.Const k m is h = by_star free true k is.0 m is.1 is.2 h

pointer_first : (x : Pointer) (k m : List NumberedKind) → IsPointer x k m → (mid : List NumberedKind) × First kind.Star k mid
pointer_first pointers.Plain k m is = (m, is)
pointer_first pointers.Const k m is = (is.0, is.1)

pointer_begins : (x : Pointer) (k m : List NumberedKind) → IsPointer x k m → Lacks kind.Const k
pointer_begins x k m is = let f = pointer_first x k m is in first_lacks kind.Star kind.Const k f.0 refl f.1

no_star : (d : Kind) (k : List NumberedKind) → same d kind.Star ≡ false → pointer_by (Some d) k ≡ Ok (None, k)
no_star kind.Star k e = absurd cc
no_star _ k e = refl

no_pointer : (free : ℕ) (k : List NumberedKind) → Lacks kind.Star k → ReadsBack free (next_pointer k) None k
unfolding next_pointer kind_at
no_pointer free [] h = read refl
no_pointer free (s ∷ k) h = read (no_star s.0 (s ∷ k) h)

pub stars_reads_back : (free : ℕ) (xs : List Pointer) (k rest : List NumberedKind) → Each IsPointer xs k rest → Lacks kind.Const rest → Lacks kind.Star rest → ReadsBack free (stars k) xs rest
stars_reads_back free xs k rest each c h = many_reads_back free next_pointer pointer_eats IsPointer (Lacks kind.Const) pointer_begins (pointer_reads_back free) [] xs k rest each c (no_pointer free rest h)

stars_stop : (xs : List Pointer) (k rest : List NumberedKind) → Each IsPointer xs k rest → TypeStops rest → TypeStops k
stars_stop [] k rest e h = subst TypeStops (sym e) h
stars_stop (x ∷ xs) k rest e h = let f = pointer_first x k e.0 e.1 in first_type_stops kind.Star k f.0 refl refl f.1

pub type_name_reads_back : (free : ℕ) (t : TypeName) (k rest : List NumberedKind) → IsTypeName t k rest → TypeStops rest → Lacks kind.Star rest → ReadsBack free (type_name k) t rest
unfolding type_name
type_name_reads_back free t k rest is h star =
    bind_reads_back free (type_of k) _ t.of is.mid t rest (type_reads_back free t.of k is.mid is.of_type (stars_stop t.pointers is.mid rest is.stars h))
    (bind_reads_back free (stars is.mid) _ t.pointers rest t rest (stars_reads_back free t.pointers is.mid rest is.stars h.1 star) (pure_reads_back free t rest))
