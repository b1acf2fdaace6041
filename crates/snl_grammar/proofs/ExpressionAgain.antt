-- Expressions of the grammar are read again, where what follows doesn't continue them.
use Rattle.std.proofs.Common.{◌≡◌, ◌<◌, ℕ, Bool, true, false, List, [], ◌∷◌, ◌++◌, Some, None, Ok, refl, sym, ap, subst, arith}
use Rattle.snl_lex.specs.declared.kind.Kind.{Kind}
use Rattle.snl_lex.specs.declared.kind.Kind.TheVariants as kind
use Rattle.snl_grammar.specs.declared.tree.types.TypeName.{TypeName}
use Rattle.snl_grammar.specs.declared.tree.expression.Suffix.{Suffix}
use Rattle.snl_grammar.specs.declared.tree.expression.Suffix.TheVariants as suffixes
use Rattle.snl_grammar.specs.declared.tree.expression.Expr.{Expr}
use Rattle.snl_grammar.specs.declared.tree.expression.Expr.TheVariants as tree
use Rattle.snl_grammar.specs.Tokens.{NumberedKind, same}
use Rattle.snl_grammar.specs.Steps.{Reader, kind_at, expect, many}
use Rattle.snl_grammar.specs.Grammar.Base.{Each, First, Leaf}
use Rattle.snl_grammar.specs.Grammar.Expressions.{IsAfterComma, AreCommas, AreTexts, IsSequence, one, several, AreArguments, IsSuffix, subscript as is_subscript, call as is_call, member as is_member, arrow, increment, decrement}
use Rattle.snl_grammar.specs.Reading.Expressions.{comma_by, next_comma, commas, text_by, next_text, texts, member, sequence, some_arguments, arguments_by, arguments, subscript, call, suffix_by, next_suffix}
use Rattle.snl_grammar.proofs.Local.{Local}
use Rattle.snl_grammar.proofs.ExpressionLocal.{comma_eats, text_eats, suffix_eats}
use Rattle.snl_grammar.proofs.Again.{ReadsBack, read, reads_back_at, reads_back_as, bind_reads_back, pure_reads_back, expect_reads_back, first_reads_back, kind_first, Heads, Lacks, many_reads_back}
use Rattle.snl_grammar.proofs.Follow.{binds, Stops, stops_less, first_stops, stops_lacks}
use Rattle.snl_grammar.proofs.TypeLaws.{word_reads_back}

-- ---- lists with commas, and strings

no_comma_by : {A : Type 0} (p : Reader A) (d : Kind) (k : List NumberedKind) → same d kind.Comma ≡ false → comma_by p (Some d) k ≡ Ok (None, k)
no_comma_by p kind.Comma k e = absurd cc
no_comma_by p _ k e = refl

pub no_comma : (free : ℕ) {A : Type 0} (p : Reader A) (k : List NumberedKind) → Lacks kind.Comma k → ReadsBack free (next_comma p k) None k
unfolding next_comma kind_at
no_comma free p [] h = read refl
no_comma free p (s ∷ k) h = read (no_comma_by p s.0 (s ∷ k) h)

pub comma_reads_back : (free : ℕ) {A : Type 0} (R : A → List NumberedKind → List NumberedKind → Type 0) (p : Reader A) (x : A) (k m : List NumberedKind) (is : IsAfterComma R x k m) → ReadsBack free (p is.mid) x m → ReadsBack free (next_comma p k) (Some x) m
unfolding next_comma
comma_reads_back free R p x k m is c =
    reads_back_at free (next_comma p k) (comma_by p (Some kind.Comma) k) (Some x) m (ap (λ o. comma_by p o k) (kind_first kind.Comma k is.mid is.comma))
    (bind_reads_back free (expect kind.Comma k) _ is.comma.0 is.mid (Some x) m (first_reads_back free kind.Comma k is.mid is.comma) (bind_reads_back free (p is.mid) _ x m (Some x) m c (pure_reads_back free (Some x) m)))

no_text_by : (d : Kind) (k : List NumberedKind) → same d kind.Text ≡ false → text_by (Some d) k ≡ Ok (None, k)
no_text_by kind.Text k e = absurd cc
no_text_by _ k e = refl

no_text : (free : ℕ) (k : List NumberedKind) → Lacks kind.Text k → ReadsBack free (next_text k) None k
unfolding next_text kind_at
no_text free [] h = read refl
no_text free (s ∷ k) h = read (no_text_by s.0 (s ∷ k) h)

text_reads_back : (free : ℕ) (n : ℕ) (k m : List NumberedKind) → Leaf kind.Text n k m → Unit {0} → ReadsBack free (next_text k) (Some n) m
unfolding next_text
text_reads_back free n k m is u =
    reads_back_at free (next_text k) (text_by (Some kind.Text) k) (Some n) m (ap (λ o. text_by o k) (kind_first kind.Text k m (n, is)))
    (bind_reads_back free (expect kind.Text k) _ n m (Some n) m (expect_reads_back free kind.Text n k m is) (pure_reads_back free (Some n) m))

pub texts_reads_back : (free : ℕ) (ns : List ℕ) (k rest : List NumberedKind) → AreTexts ns k rest → Lacks kind.Text rest → ReadsBack free (texts k) ns rest
unfolding texts
texts_reads_back free [] k rest is h = absurd is
texts_reads_back free (n ∷ ns) k rest is h =
    bind_reads_back free (expect kind.Text k) _ n is.0 (n ∷ ns) rest (expect_reads_back free kind.Text n k is.0 is.1)
    (many_reads_back free next_text text_eats (Leaf kind.Text) (λ _. Unit {0}) (λ _ _ _ _. tt) (text_reads_back free) (n ∷ []) ns is.0 rest is.2 tt (no_text free rest h))

-- ---- what an expression begins with

abbrev pub begins_expr : Kind → Bool
begins_expr kind.Name = true
begins_expr kind.Integer = true
begins_expr kind.Floating = true
begins_expr kind.Character = true
begins_expr kind.Text = true
begins_expr kind.OpenParen = true
begins_expr kind.Sizeof = true
begins_expr kind.Plus = true
begins_expr kind.Minus = true
begins_expr kind.Exclamation = true
begins_expr kind.Tilde = true
begins_expr kind.Star = true
begins_expr kind.Ampersand = true
begins_expr kind.PlusPlus = true
begins_expr kind.MinusMinus = true
begins_expr _ = false

module _ (free : ℕ) (Inner : Expr → List NumberedKind → List NumberedKind → Type 0) (inner : Reader Expr) (names : Reader TypeName) (local : Local inner) (named : Local names) (again : (x : Expr) (k rest : List NumberedKind) → Inner x k rest → Stops 12 rest → ReadsBack free (inner k) x rest) (begins : (x : Expr) (k rest : List NumberedKind) → Inner x k rest → Heads begins_expr k) where
  comma_begins : (x : Expr) (k m : List NumberedKind) → IsAfterComma Inner x k m → Stops 12 k
  comma_begins x k m is = first_stops kind.Comma 12 k is.mid (omega arith) is.comma

  comma_again : (x : Expr) (k m : List NumberedKind) → IsAfterComma Inner x k m → Stops 12 m → ReadsBack free (next_comma inner k) (Some x) m
  comma_again x k m is h = comma_reads_back free Inner inner x k m is (again x is.mid m is.element h)

  more_again : (found xs : List Expr) (k rest : List NumberedKind) → Each (IsAfterComma Inner) xs k rest → Stops 13 rest → ReadsBack free (many (next_comma inner) found k) (found ++ xs) rest
  more_again found xs k rest each h = many_reads_back free (next_comma inner) (comma_eats inner local) (IsAfterComma Inner) (Stops 12) comma_begins comma_again found xs k rest each (stops_less 12 13 rest (omega arith) h) (no_comma free inner rest (stops_lacks 13 rest kind.Comma h (omega arith)))

  follow_more : (xs : List Expr) (k rest : List NumberedKind) → Each (IsAfterComma Inner) xs k rest → Stops 13 rest → Stops 12 k
  follow_more [] k rest e h = subst (Stops 12) (sym e) (stops_less 12 13 rest (omega arith) h)
  follow_more (x ∷ xs) k rest e h = comma_begins x k e.0 e.1

  pub sequence_again : (t : Expr) (k rest : List NumberedKind) → IsSequence Inner t k rest → Stops 13 rest → ReadsBack free (sequence inner k) t rest
  unfolding sequence
  sequence_again t k rest (one r) h =
      bind_reads_back free (inner k) _ t rest t rest (again t k rest r (stops_less 12 13 rest (omega arith) h)) (bind_reads_back free (many (next_comma inner) [] rest) _ [] rest t rest (more_again [] [] rest rest refl h) (pure_reads_back free t rest))
  sequence_again t k rest (several x y ys mid is r each) h =
      bind_reads_back free (inner k) _ x mid t rest (again x k mid r (follow_more (y ∷ ys) mid rest each h)) (bind_reads_back free (many (next_comma inner) [] mid) _ (y ∷ ys) rest t rest (more_again [] (y ∷ ys) mid rest each h) (reads_back_as free _ (tree.Sequence x (y ∷ ys)) t rest (sym is) (pure_reads_back free (tree.Sequence x (y ∷ ys)) rest)))

  pub commas_again : (xs : List Expr) (k rest : List NumberedKind) → AreCommas Inner xs k rest → Stops 13 rest → ReadsBack free (commas inner k) xs rest
  unfolding commas
  commas_again [] k rest is h = absurd is
  commas_again (x ∷ xs) k rest is h = bind_reads_back free (inner k) _ x is.0 (x ∷ xs) rest (again x k is.0 is.1 (follow_more xs is.0 rest is.2 h)) (more_again (x ∷ []) xs is.0 rest is.2 h)

  some_by : (d : Kind) → begins_expr d ≡ true → arguments_by inner names (Some d) ≡ some_arguments inner names
  some_by kind.CloseParen e = absurd cc
  some_by _ e = refl

  some_at : (k : List NumberedKind) → Heads begins_expr k → arguments inner names k ≡ some_arguments inner names k
  unfolding arguments kind_at
  some_at [] h = absurd h
  some_at (s ∷ k) h = ap (λ p. p (s ∷ k)) (some_by s.0 h)

  arguments_again : (xs : List Expr) (k rest : List NumberedKind) → AreArguments Inner xs k rest → ReadsBack free (arguments inner names k) xs rest
  unfolding arguments some_arguments
  arguments_again [] k rest f = reads_back_at free (arguments inner names k) (arguments_by inner names (Some kind.CloseParen) k) [] rest (ap (λ o. arguments_by inner names o k) (kind_first kind.CloseParen k rest f)) (word_reads_back free kind.CloseParen [] k rest f)
  arguments_again (x ∷ xs) k rest is =
      reads_back_at free (arguments inner names k) (some_arguments inner names k) (x ∷ xs) rest (some_at k (begins x k is.1.0 is.1.1))
      (bind_reads_back free (commas inner k) _ (x ∷ xs) is.0 (x ∷ xs) rest (commas_again (x ∷ xs) k is.0 is.1 (first_stops kind.CloseParen 13 is.0 rest (omega arith) is.2)) (bind_reads_back free (expect kind.CloseParen is.0) _ is.2.0 rest (x ∷ xs) rest (first_reads_back free kind.CloseParen is.0 rest is.2) (pure_reads_back free (x ∷ xs) rest)))

  by_suffix : (x : Kind) (s : Suffix) (k mid rest : List NumberedKind) → First x k mid → ReadsBack free (suffix_by inner names (Some x) k) (Some s) rest → ReadsBack free (next_suffix inner names k) (Some s) rest
  unfolding next_suffix
  by_suffix x s k mid rest f c = reads_back_at free (next_suffix inner names k) (suffix_by inner names (Some x) k) (Some s) rest (ap (λ o. suffix_by inner names o k) (kind_first x k mid f)) c

  member_reads_back : (x : Kind) (make : ℕ → Suffix) (n : ℕ) (k mid rest : List NumberedKind) → First x k mid → Leaf kind.Name n mid rest → ReadsBack free (member x make k) (Some (make n)) rest
  unfolding member
  member_reads_back x make n k mid rest f e = bind_reads_back free (expect x k) _ f.0 mid (Some (make n)) rest (first_reads_back free x k mid f) (bind_reads_back free (expect kind.Name mid) _ n rest (Some (make n)) rest (expect_reads_back free kind.Name n mid rest e) (pure_reads_back free (Some (make n)) rest))

  some_suffix : (s t : Suffix) (k rest : List NumberedKind) → s ≡ t → ReadsBack free (next_suffix inner names k) (Some s) rest → ReadsBack free (next_suffix inner names k) (Some t) rest
  some_suffix s t k rest e c = reads_back_as free _ (Some s) (Some t) rest (ap (λ (z : Suffix). Some z) e) c

  suffix_again : (s : Suffix) (k m : List NumberedKind) → IsSuffix Inner s k m → Unit {0} → ReadsBack free (next_suffix inner names k) (Some s) m
  unfolding suffix_by subscript call
  suffix_again s k m (is_subscript x m1 m2 is f r g) u =
      some_suffix (suffixes.Subscript x) s k m (sym is) (by_suffix kind.OpenBracket (suffixes.Subscript x) k m1 m f
      (bind_reads_back free (expect kind.OpenBracket k) _ f.0 m1 (Some (suffixes.Subscript x)) m (first_reads_back free kind.OpenBracket k m1 f)
      (bind_reads_back free (sequence inner m1) _ x m2 (Some (suffixes.Subscript x)) m (sequence_again x m1 m2 r (first_stops kind.CloseBracket 13 m2 m (omega arith) g))
      (bind_reads_back free (expect kind.CloseBracket m2) _ g.0 m (Some (suffixes.Subscript x)) m (first_reads_back free kind.CloseBracket m2 m g) (pure_reads_back free (Some (suffixes.Subscript x)) m)))))
  suffix_again s k m (is_call xs mid is f a) u =
      some_suffix (suffixes.Call xs) s k m (sym is) (by_suffix kind.OpenParen (suffixes.Call xs) k mid m f
      (bind_reads_back free (expect kind.OpenParen k) _ f.0 mid (Some (suffixes.Call xs)) m (first_reads_back free kind.OpenParen k mid f)
      (bind_reads_back free (arguments inner names mid) _ xs m (Some (suffixes.Call xs)) m (arguments_again xs mid m a) (pure_reads_back free (Some (suffixes.Call xs)) m))))
  suffix_again s k m (is_member n mid is f g) u = some_suffix (suffixes.Member n) s k m (sym is) (by_suffix kind.Dot (suffixes.Member n) k mid m f (member_reads_back kind.Dot suffixes.Member n k mid m f g))
  suffix_again s k m (arrow n mid is f g) u = some_suffix (suffixes.Arrow n) s k m (sym is) (by_suffix kind.Arrow (suffixes.Arrow n) k mid m f (member_reads_back kind.Arrow suffixes.Arrow n k mid m f g))
  suffix_again s k m (increment is f) u = some_suffix suffixes.Increment s k m (sym is) (by_suffix kind.PlusPlus suffixes.Increment k m m f (word_reads_back free kind.PlusPlus (Some suffixes.Increment) k m f))
  suffix_again s k m (decrement is f) u = some_suffix suffixes.Decrement s k m (sym is) (by_suffix kind.MinusMinus suffixes.Decrement k m m f (word_reads_back free kind.MinusMinus (Some suffixes.Decrement) k m f))

  no_suffix_by : (d : Kind) (k : List NumberedKind) → 0 < binds d → suffix_by inner names (Some d) k ≡ Ok (None, k)
  unfolding suffix_by
  no_suffix_by kind.OpenBracket k h = absurd (omega (arith, h))
  no_suffix_by kind.OpenParen k h = absurd (omega (arith, h))
  no_suffix_by kind.Dot k h = absurd (omega (arith, h))
  no_suffix_by kind.Arrow k h = absurd (omega (arith, h))
  no_suffix_by kind.PlusPlus k h = absurd (omega (arith, h))
  no_suffix_by kind.MinusMinus k h = absurd (omega (arith, h))
  no_suffix_by _ k h = refl

  no_suffix : (k : List NumberedKind) → Stops 0 k → ReadsBack free (next_suffix inner names k) None k
  unfolding next_suffix kind_at suffix_by
  no_suffix [] h = read refl
  no_suffix (s ∷ k) h = read (no_suffix_by s.0 (s ∷ k) h)

  pub suffixes_again : (ss : List Suffix) (k rest : List NumberedKind) → Each (IsSuffix Inner) ss k rest → Stops 0 rest → ReadsBack free (many (next_suffix inner names) [] k) ss rest
  suffixes_again ss k rest each h = many_reads_back free (next_suffix inner names) (suffix_eats inner names local named) (IsSuffix Inner) (λ _. Unit {0}) (λ _ _ _ _. tt) suffix_again [] ss k rest each tt (no_suffix rest h)
