-- Operands with what comes before and after them are read again.
use Rattle.std.proofs.Common.{◌≡◌, ℕ, Bool, true, false, List, [], ◌∷◌, ◌++◌, Option, Some, None, Ok, refl, sym, ap, subst, ◌∙◌, append_assoc, arith}
use Rattle.snl_lex.specs.declared.kind.Kind.{Kind}
use Rattle.snl_lex.specs.declared.kind.Kind.TheVariants as kind
use Rattle.snl_grammar.specs.declared.operator.Sign.{Sign}
use Rattle.snl_grammar.specs.declared.operator.Sign.TheVariants as signs
use Rattle.snl_grammar.specs.declared.step.Step.{Step}
use Rattle.snl_grammar.specs.declared.step.Step.TheVariants as steps
use Rattle.snl_grammar.specs.declared.tree.types.TypeName.{TypeName}
use Rattle.snl_grammar.specs.declared.tree.expression.Prefix.{Prefix}
use Rattle.snl_grammar.specs.declared.tree.expression.Prefix.TheVariants as prefixes
use Rattle.snl_grammar.specs.declared.tree.expression.Suffix.{Suffix}
use Rattle.snl_grammar.specs.declared.tree.expression.Expr.{Expr}
use Rattle.snl_grammar.specs.declared.tree.expression.Expr.TheVariants as tree
use Rattle.snl_grammar.specs.Operators.{sign_kind}
use Rattle.snl_grammar.specs.Tokens.{NumberedKind, same}
use Rattle.snl_grammar.specs.Steps.{Reader, kind_at, expect, many, until}
use Rattle.snl_grammar.specs.Grammar.Base.{Each, First, Leaf}
use Rattle.snl_grammar.specs.Grammar.Expressions.{AreTexts, IsSequence, one, several, IsSuffix, subscript, call, member, arrow, increment, decrement, IsPrimary, name, integer, floating, character, texts as is_texts, group as is_group, sizeof_type as is_sizeof_type, IsPostfix, bare as bare_postfix, suffixed as is_suffixed, IsOperator, sign, sizeof as is_size, cast as is_cast, is_sizeof, AreOperators, IsPrefix, bare as bare_prefix, prefixed as is_prefixed}
use Rattle.snl_grammar.specs.Reading.Types.{begins_type}
use Rattle.snl_grammar.specs.Reading.Expressions.{texts, leaf, text, atom_by, atom, signed, sequence, next_suffix, group, sizeof_type, cast, sized, sizeof_bracket, sizeof_by, sizeof, bracketed, bracket, plain, prefix_by, prefix_step, prefix, prefixed, suffixed}
use Rattle.snl_grammar.proofs.Local.{Local}
use Rattle.snl_grammar.proofs.ExpressionLocal.{step_eats}
use Rattle.snl_grammar.proofs.Again.{ReadsBack, read, reads_back_at, reads_back_as, bind_reads_back, pure_reads_back, expect_reads_back, first_reads_back, kind_first, Heads, Lacks, first_lacks, until_more_reads_back, until_last_reads_back}
use Rattle.snl_grammar.proofs.Follow.{Stops, first_stops, stops_lacks}
use Rattle.snl_grammar.proofs.ExpressionAgain.{begins_expr, sequence_again, suffixes_again, texts_reads_back}

no_type_kind : (d : Kind) → begins_expr d ≡ true → begins_type (Some d) ≡ false
no_type_kind kind.Const e = absurd cc
no_type_kind kind.Void e = absurd cc
no_type_kind kind.Char e = absurd cc
no_type_kind kind.Short e = absurd cc
no_type_kind kind.Int e = absurd cc
no_type_kind kind.Long e = absurd cc
no_type_kind kind.Unsigned e = absurd cc
no_type_kind kind.Int8 e = absurd cc
no_type_kind kind.Uint8 e = absurd cc
no_type_kind kind.Int16 e = absurd cc
no_type_kind kind.Uint16 e = absurd cc
no_type_kind kind.Int32 e = absurd cc
no_type_kind kind.Uint32 e = absurd cc
no_type_kind kind.Float e = absurd cc
no_type_kind kind.Double e = absurd cc
no_type_kind kind.String e = absurd cc
no_type_kind kind.Evflag e = absurd cc
no_type_kind kind.Enum e = absurd cc
no_type_kind kind.Struct e = absurd cc
no_type_kind kind.Union e = absurd cc
no_type_kind kind.Typename e = absurd cc
no_type_kind _ e = refl

no_type : (k : List NumberedKind) → Heads begins_expr k → begins_type (kind_at k) ≡ false
unfolding kind_at
no_type [] h = absurd h
no_type (s ∷ k) h = no_type_kind s.0 h

signs_open : (op : Sign) → same (sign_kind op) kind.OpenParen ≡ false
signs_open signs.Plus = refl
signs_open signs.Minus = refl
signs_open signs.Not = refl
signs_open signs.Complement = refl
signs_open signs.Dereference = refl
signs_open signs.Address = refl
signs_open signs.Increment = refl
signs_open signs.Decrement = refl

-- a token that is no "(" comes first
abbrev Opens : List NumberedKind → Type 0
Opens k = (d : Kind) × (rest : List NumberedKind) × First d k rest × (same d kind.OpenParen ≡ false)

module _ (free : ℕ) (Inner : Expr → List NumberedKind → List NumberedKind → Type 0) (Names : TypeName → List NumberedKind → List NumberedKind → Type 0) (inner : Reader Expr) (names : Reader TypeName) (local : Local inner) (named : Local names) (again : (x : Expr) (k rest : List NumberedKind) → Inner x k rest → Stops 12 rest → ReadsBack free (inner k) x rest) (begins : (x : Expr) (k rest : List NumberedKind) → Inner x k rest → Heads begins_expr k) (name_again : (x : TypeName) (k mid rest : List NumberedKind) → Names x k mid → First kind.CloseParen mid rest → ReadsBack free (names k) x mid) (name_begins : (x : TypeName) (k rest : List NumberedKind) → Names x k rest → begins_type (kind_at k) ≡ true) where
  sequence_begins : (t : Expr) (k rest : List NumberedKind) → IsSequence Inner t k rest → Heads begins_expr k
  sequence_begins t k rest (one r) = begins t k rest r
  sequence_begins t k rest (several x y ys mid is r each) = begins x k mid r

  by_prefix : (x : Kind) (s : Step Prefix Expr) (k mid rest : List NumberedKind) → First x k mid → ReadsBack free (prefix_by inner names (Some x) k) s rest → ReadsBack free (prefix_step inner names k) s rest
  unfolding prefix_step
  by_prefix x s k mid rest f c = reads_back_at free (prefix_step inner names k) (prefix_by inner names (Some x) k) s rest (ap (λ o. prefix_by inner names o k) (kind_first x k mid f)) c

  group_reads_back : (before : Option Prefix) (x : Expr) (k mid rest : List NumberedKind) → IsSequence Inner x k mid → First kind.CloseParen mid rest → ReadsBack free (group inner names before k) (steps.Last before (tree.Group x)) rest
  unfolding group
  group_reads_back before x k mid rest r f =
      bind_reads_back free (sequence inner k) _ x mid _ rest (sequence_again free Inner inner names local named again begins x k mid r (first_stops kind.CloseParen 13 mid rest (omega arith) f))
      (bind_reads_back free (expect kind.CloseParen mid) _ f.0 rest _ rest (first_reads_back free kind.CloseParen mid rest f) (pure_reads_back free (steps.Last before (tree.Group x)) rest))

  -- "(" and an operand
  bracket_reads_back : (x : Expr) (k m1 mid rest : List NumberedKind) → First kind.OpenParen k m1 → IsSequence Inner x m1 mid → First kind.CloseParen mid rest → ReadsBack free (prefix_step inner names k) (steps.Last None (tree.Group x)) rest
  unfolding prefix_by bracket
  bracket_reads_back x k m1 mid rest o r f =
      by_prefix kind.OpenParen _ k m1 rest o (bind_reads_back free (expect kind.OpenParen k) _ o.0 m1 _ rest (first_reads_back free kind.OpenParen k m1 o)
      (reads_back_at free _ (group inner names None m1) _ rest (ap (λ b. bracketed inner names b m1) (no_type m1 (sequence_begins x m1 mid r))) (group_reads_back None x m1 mid rest r f)))

  cast_reads_back : (x : TypeName) (k m1 mid rest : List NumberedKind) → First kind.OpenParen k m1 → Names x m1 mid → First kind.CloseParen mid rest → ReadsBack free (prefix_step inner names k) (steps.More (prefixes.Cast x)) rest
  unfolding prefix_by bracket cast
  cast_reads_back x k m1 mid rest o r f =
      by_prefix kind.OpenParen _ k m1 rest o (bind_reads_back free (expect kind.OpenParen k) _ o.0 m1 _ rest (first_reads_back free kind.OpenParen k m1 o)
      (reads_back_at free _ (cast inner names m1) _ rest (ap (λ b. bracketed inner names b m1) (name_begins x m1 mid r))
      (bind_reads_back free (names m1) _ x mid _ rest (name_again x m1 mid rest r f) (bind_reads_back free (expect kind.CloseParen mid) _ f.0 rest _ rest (first_reads_back free kind.CloseParen mid rest f) (pure_reads_back free (steps.More (prefixes.Cast x)) rest)))))

  -- `sizeof` and "("
  size_bracket : (s : Step Prefix Expr) (b : Bool) (k m1 m2 rest : List NumberedKind) → First kind.Sizeof k m1 → First kind.OpenParen m1 m2 → begins_type (kind_at m2) ≡ b → ReadsBack free (sized inner names b m2) s rest → ReadsBack free (prefix_step inner names k) s rest
  unfolding prefix_by sizeof sizeof_bracket
  size_bracket s b k m1 m2 rest f o e c =
      by_prefix kind.Sizeof s k m1 rest f (bind_reads_back free (expect kind.Sizeof k) _ f.0 m1 s rest (first_reads_back free kind.Sizeof k m1 f)
      (reads_back_at free _ (sizeof_bracket inner names m1) s rest (ap (λ q. sizeof_by inner names q m1) (kind_first kind.OpenParen m1 m2 o))
      (bind_reads_back free (expect kind.OpenParen m1) _ o.0 m2 s rest (first_reads_back free kind.OpenParen m1 m2 o)
      (reads_back_at free _ (sized inner names b m2) s rest (ap (λ q. sized inner names q m2) e) c))))

  sized_reads_back : (x : TypeName) (k m1 m2 m3 rest : List NumberedKind) → First kind.Sizeof k m1 → First kind.OpenParen m1 m2 → Names x m2 m3 → First kind.CloseParen m3 rest → ReadsBack free (prefix_step inner names k) (steps.Last None (tree.SizeofType x)) rest
  unfolding sizeof_type
  sized_reads_back x k m1 m2 m3 rest f o r g =
      size_bracket _ true k m1 m2 rest f o (name_begins x m2 m3 r)
      (bind_reads_back free (names m2) _ x m3 _ rest (name_again x m2 m3 rest r g) (bind_reads_back free (expect kind.CloseParen m3) _ g.0 rest _ rest (first_reads_back free kind.CloseParen m3 rest g) (pure_reads_back free (steps.Last None (tree.SizeofType x)) rest)))

  bare_by : (d : Kind) (m : List NumberedKind) → same d kind.OpenParen ≡ false → sizeof_by inner names (Some d) m ≡ Ok (steps.More prefixes.Sizeof, m)
  bare_by kind.OpenParen m e = absurd cc
  bare_by _ m e = refl

  size_reads_back : (k m : List NumberedKind) → First kind.Sizeof k m → Opens m → ReadsBack free (prefix_step inner names k) (steps.More prefixes.Sizeof) m
  unfolding prefix_by sizeof
  size_reads_back k m f o =
      by_prefix kind.Sizeof _ k m m f (bind_reads_back free (expect kind.Sizeof k) _ f.0 m _ m (first_reads_back free kind.Sizeof k m f)
      (read (ap (λ q. sizeof_by inner names q m) (kind_first o.0 m o.1 o.2) ∙ bare_by o.0 m o.3)))

  signed_reads_back : (op : Sign) (k m : List NumberedKind) → First (sign_kind op) k m → ReadsBack free (signed op k) (steps.More (prefixes.Sign op)) m
  unfolding signed
  signed_reads_back op k m f = bind_reads_back free (expect (sign_kind op) k) _ f.0 m _ m (first_reads_back free (sign_kind op) k m f) (pure_reads_back free (steps.More (prefixes.Sign op)) m)

  sign_reads_back : (op : Sign) (k m : List NumberedKind) → First (sign_kind op) k m → ReadsBack free (prefix_step inner names k) (steps.More (prefixes.Sign op)) m
  unfolding prefix_by
  sign_reads_back signs.Plus k m f = by_prefix kind.Plus _ k m m f (signed_reads_back signs.Plus k m f)
  sign_reads_back signs.Minus k m f = by_prefix kind.Minus _ k m m f (signed_reads_back signs.Minus k m f)
  sign_reads_back signs.Not k m f = by_prefix kind.Exclamation _ k m m f (signed_reads_back signs.Not k m f)
  sign_reads_back signs.Complement k m f = by_prefix kind.Tilde _ k m m f (signed_reads_back signs.Complement k m f)
  sign_reads_back signs.Dereference k m f = by_prefix kind.Star _ k m m f (signed_reads_back signs.Dereference k m f)
  sign_reads_back signs.Address k m f = by_prefix kind.Ampersand _ k m m f (signed_reads_back signs.Address k m f)
  sign_reads_back signs.Increment k m f = by_prefix kind.PlusPlus _ k m m f (signed_reads_back signs.Increment k m f)
  sign_reads_back signs.Decrement k m f = by_prefix kind.MinusMinus _ k m m f (signed_reads_back signs.Decrement k m f)

  plain_reads_back : (t : Expr) (k rest : List NumberedKind) → ReadsBack free (atom k) t rest → ReadsBack free (plain inner names k) (steps.Last None t) rest
  unfolding plain
  plain_reads_back t k rest c = bind_reads_back free (atom k) _ t rest _ rest c (pure_reads_back free (steps.Last None t) rest)

  by_atom : (x : Kind) (t : Expr) (k mid rest : List NumberedKind) → First x k mid → ReadsBack free (atom_by (Some x) k) t rest → ReadsBack free (atom k) t rest
  unfolding atom
  by_atom x t k mid rest f c = reads_back_at free (atom k) (atom_by (Some x) k) t rest (ap (λ o. atom_by o k) (kind_first x k mid f)) c

  leaf_reads_back : (x : Kind) (make : ℕ → Expr) (n : ℕ) (k rest : List NumberedKind) → Leaf x n k rest → ReadsBack free (leaf x make k) (make n) rest
  unfolding leaf
  leaf_reads_back x make n k rest e = bind_reads_back free (expect x k) _ n rest (make n) rest (expect_reads_back free x n k rest e) (pure_reads_back free (make n) rest)

  text_leaf : (ns : List ℕ) (k rest : List NumberedKind) → AreTexts ns k rest → (mid : List NumberedKind) × First kind.Text k mid
  text_leaf [] k rest a = absurd a
  text_leaf (n ∷ ns) k rest a = (a.0, (n, a.1))

  text_reads_back : (ns : List ℕ) (k rest : List NumberedKind) → AreTexts ns k rest → Lacks kind.Text rest → ReadsBack free (text k) (tree.Text ns) rest
  unfolding text
  text_reads_back ns k rest a h = bind_reads_back free (texts k) _ ns rest _ rest (texts_reads_back free ns k rest a h) (pure_reads_back free (tree.Text ns) rest)

  as_last : (u t : Expr) (k rest : List NumberedKind) → t ≡ u → ReadsBack free (prefix_step inner names k) (steps.Last None u) rest → ReadsBack free (prefix_step inner names k) (steps.Last None t) rest
  as_last u t k rest e c = subst (λ z. ReadsBack free (prefix_step inner names k) (steps.Last None z) rest) (sym e) c

  primary_reads_back : (t : Expr) (k rest : List NumberedKind) → IsPrimary Inner Names t k rest → Lacks kind.Text rest → ReadsBack free (prefix_step inner names k) (steps.Last None t) rest
  unfolding prefix_by atom_by
  primary_reads_back t k rest (name n is e) h = as_last (tree.Name n) t k rest is (by_prefix kind.Name _ k rest rest (n, e) (plain_reads_back (tree.Name n) k rest (by_atom kind.Name _ k rest rest (n, e) (leaf_reads_back kind.Name tree.Name n k rest e))))
  primary_reads_back t k rest (integer n is e) h = as_last (tree.Integer n) t k rest is (by_prefix kind.Integer _ k rest rest (n, e) (plain_reads_back (tree.Integer n) k rest (by_atom kind.Integer _ k rest rest (n, e) (leaf_reads_back kind.Integer tree.Integer n k rest e))))
  primary_reads_back t k rest (floating n is e) h = as_last (tree.Floating n) t k rest is (by_prefix kind.Floating _ k rest rest (n, e) (plain_reads_back (tree.Floating n) k rest (by_atom kind.Floating _ k rest rest (n, e) (leaf_reads_back kind.Floating tree.Floating n k rest e))))
  primary_reads_back t k rest (character n is e) h = as_last (tree.Character n) t k rest is (by_prefix kind.Character _ k rest rest (n, e) (plain_reads_back (tree.Character n) k rest (by_atom kind.Character _ k rest rest (n, e) (leaf_reads_back kind.Character tree.Character n k rest e))))
  primary_reads_back t k rest (is_texts ns is a) h = let f = text_leaf ns k rest a in as_last (tree.Text ns) t k rest is (by_prefix kind.Text _ k f.0 rest f.1 (plain_reads_back (tree.Text ns) k rest (by_atom kind.Text _ k f.0 rest f.1 (text_reads_back ns k rest a h))))
  primary_reads_back t k rest (is_group x m1 m2 is o r f) h = as_last (tree.Group x) t k rest is (bracket_reads_back x k m1 m2 rest o r f)
  primary_reads_back t k rest (is_sizeof_type x m1 m2 m3 is f o r g) h = as_last (tree.SizeofType x) t k rest is (sized_reads_back x k m1 m2 m3 rest f o r g)

  -- ---- the operators before an operand

  abbrev Read : List Prefix → List Prefix → Expr → List NumberedKind → List NumberedKind → Type 0
  Read found ops x k rest = ReadsBack free (until (prefix_step inner names) found k) (found ++ ops, x) rest

  with_more : (found : List Prefix) (op : Prefix) (ops : List Prefix) (x : Expr) (k m rest : List NumberedKind) → ReadsBack free (prefix_step inner names k) (steps.More op) m → Read (found ++ op ∷ []) ops x m rest → Read found (op ∷ ops) x k rest
  with_more found op ops x k m rest c h = reads_back_as free _ ((found ++ op ∷ []) ++ ops, x) (found ++ op ∷ ops, x) rest (ap (λ (l : List Prefix). (l, x)) (append_assoc found (op ∷ []) ops)) (until_more_reads_back free (prefix_step inner names) (step_eats inner names local named) found k op m ((found ++ op ∷ []) ++ ops, x) rest c h)

  no_more : (found : List Prefix) (x : Expr) (k rest : List NumberedKind) → IsPrimary Inner Names x k rest → Lacks kind.Text rest → Read found [] x k rest
  no_more found x k rest p h = until_last_reads_back free (prefix_step inner names) (step_eats inner names local named) found k None x rest (primary_reads_back x k rest p h)

  as_more : (op t : Prefix) (k m : List NumberedKind) → t ≡ op → ReadsBack free (prefix_step inner names k) (steps.More op) m → ReadsBack free (prefix_step inner names k) (steps.More t) m
  as_more op t k m e c = subst (λ z. ReadsBack free (prefix_step inner names k) (steps.More z) m) (sym e) c

  size_group : (found : List Prefix) (t x : Expr) (k m m1 m2 rest : List NumberedKind) → t ≡ tree.Group x → First kind.Sizeof k m → First kind.OpenParen m m1 → IsSequence Inner x m1 m2 → First kind.CloseParen m2 rest → Read found (prefixes.Sizeof ∷ []) t k rest
  size_group found t x k m m1 m2 rest is f o r g = subst (λ z. Read found (prefixes.Sizeof ∷ []) z k rest) (sym is) (until_last_reads_back free (prefix_step inner names) (step_eats inner names local named) found k (Some prefixes.Sizeof) (tree.Group x) rest (size_bracket _ false k m m1 rest f o (no_type m1 (sequence_begins x m1 m2 r)) (group_reads_back (Some prefixes.Sizeof) x m1 m2 rest r g)))

  -- directly before the operand
  size_last : (found : List Prefix) (t : Expr) (k m rest : List NumberedKind) → First kind.Sizeof k m → IsPrimary Inner Names t m rest → Lacks kind.Text rest → Read found (prefixes.Sizeof ∷ []) t k rest
  size_last found t k m rest f (is_group x m1 m2 is o r g) h = size_group found t x k m m1 m2 rest is f o r g
  size_last found t k m rest f (name n is e) h = with_more found prefixes.Sizeof [] t k m rest (size_reads_back k m f (kind.Name, rest, (n, e), refl)) (no_more (found ++ prefixes.Sizeof ∷ []) t m rest (name n is e) h)
  size_last found t k m rest f (integer n is e) h = with_more found prefixes.Sizeof [] t k m rest (size_reads_back k m f (kind.Integer, rest, (n, e), refl)) (no_more (found ++ prefixes.Sizeof ∷ []) t m rest (integer n is e) h)
  size_last found t k m rest f (floating n is e) h = with_more found prefixes.Sizeof [] t k m rest (size_reads_back k m f (kind.Floating, rest, (n, e), refl)) (no_more (found ++ prefixes.Sizeof ∷ []) t m rest (floating n is e) h)
  size_last found t k m rest f (character n is e) h = with_more found prefixes.Sizeof [] t k m rest (size_reads_back k m f (kind.Character, rest, (n, e), refl)) (no_more (found ++ prefixes.Sizeof ∷ []) t m rest (character n is e) h)
  size_last found t k m rest f (is_texts ns is a) h = let g = text_leaf ns m rest a in with_more found prefixes.Sizeof [] t k m rest (size_reads_back k m f (kind.Text, g.0, g.1, refl)) (no_more (found ++ prefixes.Sizeof ∷ []) t m rest (is_texts ns is a) h)
  size_last found t k m rest f (is_sizeof_type x m1 m2 m3 is g o r q) h = with_more found prefixes.Sizeof [] t k m rest (size_reads_back k m f (kind.Sizeof, m1, g, refl)) (no_more (found ++ prefixes.Sizeof ∷ []) t m rest (is_sizeof_type x m1 m2 m3 is g o r q) h)

  no_cast_opens : (op : Prefix) (k m : List NumberedKind) → IsOperator Names true op k m → Opens k
  no_cast_opens op k m (sign s is f) = (sign_kind s, m, f, signs_open s)
  no_cast_opens op k m (is_size is f) = (kind.Sizeof, m, f, refl)
  no_cast_opens op k m (is_cast x m1 m2 b is o r g) = absurd cc

  -- `sizeof`, and what goes along after it
  size_again : (found ops : List Prefix) (x : Expr) (k m mid rest : List NumberedKind) → First kind.Sizeof k m → AreOperators Names true ops m mid → IsPrimary Inner Names x mid rest → Lacks kind.Text rest → ((l : List Prefix) → Read l ops x m rest) → Read found (prefixes.Sizeof ∷ ops) x k rest
  size_again found [] x k m mid rest f e p h go = size_last found x k m rest f (subst (λ l. IsPrimary Inner Names x l rest) (sym e) p) h
  size_again found (op ∷ ops) x k m mid rest f e p h go = with_more found prefixes.Sizeof (op ∷ ops) x k m rest (size_reads_back k m f (no_cast_opens op m e.0 e.1)) (go (found ++ prefixes.Sizeof ∷ []))

  one_again : (b : Bool) (found : List Prefix) (op : Prefix) (ops : List Prefix) (x : Expr) (k m mid rest : List NumberedKind) → IsOperator Names b op k m → AreOperators Names (is_sizeof op) ops m mid → IsPrimary Inner Names x mid rest → Lacks kind.Text rest → ((l : List Prefix) → Read l ops x m rest) → Read found (op ∷ ops) x k rest
  one_again b found op ops x k m mid rest (sign s is f) e p h go = with_more found op ops x k m rest (as_more (prefixes.Sign s) op k m is (sign_reads_back s k m f)) (go (found ++ op ∷ []))
  one_again b found op ops x k m mid rest (is_cast y m1 m2 c is o r g) e p h go = with_more found op ops x k m rest (as_more (prefixes.Cast y) op k m is (cast_reads_back y k m1 m2 m o r g)) (go (found ++ op ∷ []))
  one_again b found op ops x k m mid rest (is_size is f) e p h go = subst (λ z. Read found (z ∷ ops) x k rest) (sym is) (size_again found ops x k m mid rest f (subst (λ z. AreOperators Names (is_sizeof z) ops m mid) is e) p h go)

  operators_again : (b : Bool) (found ops : List Prefix) (x : Expr) (k mid rest : List NumberedKind) → AreOperators Names b ops k mid → IsPrimary Inner Names x mid rest → Lacks kind.Text rest → Read found ops x k rest
  operators_again b found [] x k mid rest e p h = no_more found x k rest (subst (λ l. IsPrimary Inner Names x l rest) (sym e) p) h
  operators_again b found (op ∷ ops) x k mid rest e p h = one_again b found op ops x k e.0 mid rest e.1 e.2 p h (λ l. operators_again (is_sizeof op) l ops x e.0 mid rest e.2 p h)

  suffix_first : (s : Suffix) (k m : List NumberedKind) → IsSuffix Inner s k m → Lacks kind.Text k
  suffix_first s k m (subscript x m1 m2 is f r g) = first_lacks kind.OpenBracket kind.Text k m1 refl f
  suffix_first s k m (call xs mid is f a) = first_lacks kind.OpenParen kind.Text k mid refl f
  suffix_first s k m (member n mid is f g) = first_lacks kind.Dot kind.Text k mid refl f
  suffix_first s k m (arrow n mid is f g) = first_lacks kind.Arrow kind.Text k mid refl f
  suffix_first s k m (increment is f) = first_lacks kind.PlusPlus kind.Text k m refl f
  suffix_first s k m (decrement is f) = first_lacks kind.MinusMinus kind.Text k m refl f

  no_text_after : (ss : List Suffix) (k rest : List NumberedKind) → Each (IsSuffix Inner) ss k rest → Stops 0 rest → Lacks kind.Text k
  no_text_after [] k rest e h = subst (Lacks kind.Text) (sym e) (stops_lacks 0 rest kind.Text h (omega arith))
  no_text_after (s ∷ ss) k rest e h = suffix_first s k e.0 e.1

  parts_again : (ops : List Prefix) (x : Expr) (ss : List Suffix) (k m1 m2 rest : List NumberedKind) → AreOperators Names false ops k m1 → IsPrimary Inner Names x m1 m2 → Each (IsSuffix Inner) ss m2 rest → Stops 0 rest → ReadsBack free (prefix inner names k) (prefixed ops (suffixed x ss)) rest
  unfolding prefix
  parts_again ops x ss k m1 m2 rest a p e h =
      bind_reads_back free (until (prefix_step inner names) [] k) _ (ops, x) m2 _ rest (operators_again false [] ops x k m1 m2 a p (no_text_after ss m2 rest e h))
      (bind_reads_back free (many (next_suffix inner names) [] m2) _ ss rest _ rest (suffixes_again free Inner inner names local named again begins ss m2 rest e h) (pure_reads_back free (prefixed ops (suffixed x ss)) rest))

  postfix_again : (ops : List Prefix) (t : Expr) (k m rest : List NumberedKind) → AreOperators Names false ops k m → IsPostfix Inner Names t m rest → Stops 0 rest → ReadsBack free (prefix inner names k) (prefixed ops t) rest
  postfix_again ops t k m rest a (bare_postfix p) h = parts_again ops t [] k m rest rest a p refl h
  postfix_again ops t k m rest a (is_suffixed x s ss mid is p e) h = reads_back_as free _ (prefixed ops (suffixed x (s ∷ ss))) (prefixed ops t) rest (ap (λ (z : Expr). prefixed ops z) (sym is)) (parts_again ops x (s ∷ ss) k m mid rest a p e h)

  pub prefix_again : (t : Expr) (k rest : List NumberedKind) → IsPrefix Inner Names t k rest → Stops 0 rest → ReadsBack free (prefix inner names k) t rest
  prefix_again t k rest (bare_prefix p) h = postfix_again [] t k k rest refl p h
  prefix_again t k rest (is_prefixed op ops x mid is a p) h = reads_back_as free _ (prefixed (op ∷ ops) x) t rest (sym is) (postfix_again (op ∷ ops) x k mid rest a p h)
