-- Declarations are read again.
use Rattle.std.proofs.Common.{◌≡◌, ◌<◌, ℕ, zero, suc, Bool, true, false, List, [], ◌∷◌, Option, Some, None, Ok, refl, sym, ap, subst, ◌∙◌, arith}
use Rattle.snl_lex.specs.declared.kind.Kind.{Kind}
use Rattle.snl_lex.specs.declared.kind.Kind.TheVariants as kind
use Rattle.snl_grammar.specs.declared.step.Step.{Step}
use Rattle.snl_grammar.specs.declared.step.Step.TheVariants as steps
use Rattle.snl_grammar.specs.declared.tree.types.QualifiedType.{QualifiedType}
use Rattle.snl_grammar.specs.declared.tree.types.Pointer.{Pointer}
use Rattle.snl_grammar.specs.declared.tree.types.Pointer.TheVariants as pointers
use Rattle.snl_grammar.specs.declared.tree.expression.Expr.{Expr}
use Rattle.snl_grammar.specs.declared.tree.declaration.Init.{Init}
use Rattle.snl_grammar.specs.declared.tree.declaration.Init.TheVariants as inits
use Rattle.snl_grammar.specs.declared.tree.declaration.Declarator.{Declarator}
use Rattle.snl_grammar.specs.declared.tree.declaration.Declaration.{Declaration}
use Rattle.snl_grammar.specs.Tokens.{NumberedKind, same}
use Rattle.snl_grammar.specs.Steps.{Reader, and_then, pure, kind_at, expect, many, until}
use Rattle.snl_grammar.specs.Grammar.Base.{Each, First, Perhaps}
use Rattle.snl_grammar.specs.Grammar.Types.{IsPointer}
use Rattle.snl_grammar.specs.Grammar.Expressions.{IsAfterComma, AreCommas, IsSequence, one, several, IsAssignx}
use Rattle.snl_grammar.specs.Grammar.Declarations.{IsLength, AreBraced, IsInitOf, value as is_value, list as is_list, IsInit, IsAfterEqual, IsDeclarator, IsDeclarationOf, IsDeclaration}
use Rattle.snl_grammar.specs.Reading.Types.{type_of, type_name, stars, begins_type}
use Rattle.snl_grammar.specs.Reading.Expressions.{assignx, sequence, next_comma}
use Rattle.snl_grammar.specs.Reading.Declarations.{some_length, length_by, bracketed_length, next_length_by, next_length, lengths, after_comma_by, after_comma, value_step_by, value_step, some_values, values_by, values, plain_value, init_by, init_of, init, some_init, init_part_by, init_part, declarator_from, declarator, more_declarators, declaration_from, declaration_of, declaration_in, declaration}
use Rattle.snl_grammar.proofs.Local.{Local}
use Rattle.snl_grammar.proofs.Again.{ReadsBack, read, late, reads_back_at, reads_back_as, reads_back_from, bind_reads_back, pure_reads_back, expect_reads_back, first_reads_back, kind_first, Heads, first_heads, Lacks, first_lacks, differ, many_reads_back}
use Rattle.snl_grammar.proofs.TypeLaws.{word_reads_back, type_name_local, type_reads_back, type_begins, stars_reads_back, TypeStops, first_type_stops}
use Rattle.snl_grammar.proofs.Follow.{Stops, binds, first_stops}
use Rattle.snl_grammar.proofs.ExpressionLocal.{comma_eats, assignx_local}
use Rattle.snl_grammar.proofs.ExpressionAgain.{begins_expr, no_comma, comma_reads_back, sequence_again}
use Rattle.snl_grammar.proofs.SingleAgain.{assignx_begins, assignx_again}
use Rattle.snl_grammar.proofs.DeclarationLocal.{next_length_eats, value_step_eats, init_local, declarator_local}
use Rattle.snl_grammar.proofs.BracedAgain.{goes_on, after_value, values_reads_back}

pub heads_lack : (x : Kind) (p : Kind → Bool) (k : List NumberedKind) → p x ≡ false → Heads p k → Lacks x k
heads_lack x p [] f h = absurd h
heads_lack x p (s ∷ k) f h = differ p s.0 x h f

kind_stops : (d : Kind) → goes_on d ≡ true → 12 < binds d
kind_stops kind.Comma h = omega arith
kind_stops kind.CloseBrace h = omega arith
kind_stops _ h = absurd cc

-- a comma or a closing brace is after a value
value_stops : (k : List NumberedKind) → Heads goes_on k → Stops 12 k
value_stops [] h = tt
value_stops (s ∷ k) h = kind_stops s.0 h

-- ---- lengths

module _ (free : ℕ) (Inner : Expr → List NumberedKind → List NumberedKind → Type 0) (inner : Reader Expr) (local : Local inner) (again : (x : Expr) (k rest : List NumberedKind) → Inner x k rest → Stops 12 rest → ReadsBack free (inner k) x rest) (begins : (x : Expr) (k rest : List NumberedKind) → Inner x k rest → Heads begins_expr k) where
  sequence_begins : (t : Expr) (k rest : List NumberedKind) → IsSequence Inner t k rest → Heads begins_expr k
  sequence_begins t k rest (one r) = begins t k rest r
  sequence_begins t k rest (several x y ys mid e r each) = begins x k mid r

  some_by : (d : Kind) → begins_expr d ≡ true → length_by inner (Some d) ≡ some_length inner
  some_by kind.CloseBracket e = absurd cc
  some_by _ e = refl

  some_at : (k : List NumberedKind) → Heads begins_expr k → length_by inner (kind_at k) k ≡ some_length inner k
  unfolding kind_at
  some_at [] h = absurd h
  some_at (s ∷ k) h = ap (λ p. p (s ∷ k)) (some_by s.0 h)

  in_length_reads_back : (t : Option Expr) (k mid rest : List NumberedKind) → Perhaps (IsSequence Inner) t k mid → First kind.CloseBracket mid rest → ReadsBack free (length_by inner (kind_at k) k) (Some t) rest
  unfolding some_length
  in_length_reads_back None k mid rest is f =
      let here : First kind.CloseBracket k rest = subst (λ l. First kind.CloseBracket l rest) (sym is) f in
      reads_back_at free (length_by inner (kind_at k) k) (length_by inner (Some kind.CloseBracket) k) (Some None) rest (ap (λ o. length_by inner o k) (kind_first kind.CloseBracket k rest here)) (word_reads_back free kind.CloseBracket (Some None) k rest here)
  in_length_reads_back (Some x) k mid rest is f =
      reads_back_at free (length_by inner (kind_at k) k) (some_length inner k) (Some (Some x)) rest (some_at k (sequence_begins x k mid is))
      (bind_reads_back free (sequence inner k) _ (x) mid (Some (Some x)) rest (sequence_again free Inner inner type_name local type_name_local again begins x k mid is (first_stops kind.CloseBracket 13 mid rest (omega arith) f)) (bind_reads_back free (expect kind.CloseBracket mid) _ (f.0) rest (Some (Some x)) rest (first_reads_back free kind.CloseBracket mid rest f) (pure_reads_back free (Some (Some x)) rest)))

  length_reads_back : (t : Option Expr) (k m : List NumberedKind) → IsLength Inner t k m → Unit {0} → ReadsBack free (next_length inner k) (Some t) m
  unfolding next_length bracketed_length
  length_reads_back t k m is u =
      reads_back_at free (next_length inner k) (next_length_by inner (Some kind.OpenBracket) k) (Some t) m (ap (λ o. next_length_by inner o k) (kind_first kind.OpenBracket k is.m1 is.opening))
      (bind_reads_back free (expect kind.OpenBracket k) _ is.opening.0 is.m1 (Some t) m (first_reads_back free kind.OpenBracket k is.m1 is.opening) (in_length_reads_back t is.m1 is.m2 m is.size is.closing))

  no_length_by : (d : Kind) (k : List NumberedKind) → same d kind.OpenBracket ≡ false → next_length_by inner (Some d) k ≡ Ok (None, k)
  no_length_by kind.OpenBracket k e = absurd cc
  no_length_by _ k e = refl

  no_length : (k : List NumberedKind) → Lacks kind.OpenBracket k → ReadsBack free (next_length inner k) None k
  unfolding next_length kind_at
  no_length [] h = read refl
  no_length (s ∷ k) h = read (no_length_by s.0 (s ∷ k) h)

  pub lengths_reads_back : (ls : List (Option Expr)) (k rest : List NumberedKind) → Each (IsLength Inner) ls k rest → Lacks kind.OpenBracket rest → ReadsBack free (lengths inner k) ls rest
  lengths_reads_back ls k rest each h = many_reads_back free (next_length inner) (next_length_eats inner local) (IsLength Inner) (λ _. Unit {0}) (λ _ _ _ _. tt) length_reads_back [] ls k rest each tt (no_length rest h)

-- ---- values

-- the kinds that begin a value
abbrev pub begins_init : Kind → Bool
begins_init kind.OpenBrace = true
begins_init d = begins_expr d

module _ (free : ℕ) (Inner : Init → List NumberedKind → List NumberedKind → Type 0) (inner : Reader Init) (local : Local inner) (again : (x : Init) (k rest : List NumberedKind) → Inner x k rest → Stops 12 rest → ReadsBack free (inner k) x rest) (begins : (x : Init) (k rest : List NumberedKind) → Inner x k rest → Heads begins_init k) where
  by_step : (x : Kind) (y : Step Init Bool) (k mid rest : List NumberedKind) → First x k mid → ReadsBack free (value_step_by inner (Some x) k) y rest → ReadsBack free (value_step inner k) y rest
  unfolding value_step
  by_step x y k mid rest f c = reads_back_at free (value_step inner k) (value_step_by inner (Some x) k) y rest (ap (λ o. value_step_by inner o k) (kind_first x k mid f)) c

  more_by : (d : Kind) (k : List NumberedKind) → begins_init d ≡ true → after_comma_by inner (Some d) k ≡ and_then (inner k) (λ x. pure (steps.More x))
  more_by kind.CloseBrace k e = absurd cc
  more_by _ k e = refl

  more_at : (k : List NumberedKind) → Heads begins_init k → after_comma_by inner (kind_at k) k ≡ and_then (inner k) (λ x. pure (steps.More x))
  unfolding kind_at
  more_at [] h = absurd h
  more_at (s ∷ k) h = more_by s.0 (s ∷ k) h

  value_more : (x : Init) (k m : List NumberedKind) → IsAfterComma Inner x k m → Heads goes_on m → ReadsBack free (value_step inner k) (steps.More x) m
  unfolding after_comma
  value_more x k m is h =
      by_step kind.Comma (steps.More x) k is.mid m is.comma
      (bind_reads_back free (expect kind.Comma k) _ is.comma.0 is.mid (steps.More x) m (first_reads_back free kind.Comma k is.mid is.comma)
      (reads_back_at free (after_comma_by inner (kind_at is.mid) is.mid) (and_then (inner is.mid) (λ z. pure (steps.More z))) (steps.More x) m (more_at is.mid (begins x is.mid m is.element)) (bind_reads_back free (inner is.mid) _ (x) m (steps.More x) m (again x is.mid m is.element (value_stops m h)) (pure_reads_back free (steps.More x) m))))

  value_trailing : (k m rest : List NumberedKind) → First kind.Comma k m → First kind.CloseBrace m rest → ReadsBack free (value_step inner k) (steps.Last None true) m
  unfolding after_comma
  value_trailing k m rest f c =
      by_step kind.Comma (steps.Last None true) k m m f
      (bind_reads_back free (expect kind.Comma k) _ f.0 m (steps.Last None true) m (first_reads_back free kind.Comma k m f)
      (reads_back_at free (after_comma_by inner (kind_at m) m) (after_comma_by inner (Some kind.CloseBrace) m) (steps.Last None true) m (ap (λ o. after_comma_by inner o m) (kind_first kind.CloseBrace m rest c)) (pure_reads_back free (steps.Last None true) m)))

  value_ends : (k rest : List NumberedKind) → First kind.CloseBrace k rest → ReadsBack free (value_step inner k) (steps.Last None false) k
  value_ends k rest c = by_step kind.CloseBrace (steps.Last None false) k rest k c (pure_reads_back free (steps.Last None false) k)

  some_value_by : (d : Kind) → begins_init d ≡ true → values_by inner (Some d) ≡ some_values inner
  some_value_by kind.CloseBrace e = absurd cc
  some_value_by _ e = refl

  some_value_at : (k : List NumberedKind) → Heads begins_init k → values_by inner (kind_at k) k ≡ some_values inner k
  unfolding kind_at
  some_value_at [] h = absurd h
  some_value_at (s ∷ k) h = ap (λ p. p (s ∷ k)) (some_value_by s.0 h)

  in_braces_reads_back : (xs : List Init) (trailing : Bool) (k rest : List NumberedKind) → AreBraced Inner xs trailing k rest → ReadsBack free (values_by inner (kind_at k) k) (inits.List xs trailing) rest
  unfolding some_values
  in_braces_reads_back [] trailing k rest is =
      reads_back_as free (values_by inner (kind_at k) k) (inits.List [] false) (inits.List [] trailing) rest (ap (inits.List []) (sym is.0))
      (reads_back_at free (values_by inner (kind_at k) k) (values_by inner (Some kind.CloseBrace) k) (inits.List [] false) rest (ap (λ o. values_by inner o k) (kind_first kind.CloseBrace k rest is.1)) (word_reads_back free kind.CloseBrace (inits.List [] false) k rest is.1))
  in_braces_reads_back (x ∷ xs) trailing k rest is =
      let e = is.elements in
      let h = after_value free Inner (value_step inner) (value_step_eats inner local) value_more value_trailing value_ends xs trailing e.0 is.m1 is.m2 rest e.2 is.comma is.closing in
      reads_back_at free (values_by inner (kind_at k) k) (some_values inner k) (inits.List (x ∷ xs) trailing) rest (some_value_at k (begins x k e.0 e.1))
      (bind_reads_back free (inner k) _ (x) e.0 (inits.List (x ∷ xs) trailing) rest (again x k e.0 e.1 (value_stops e.0 h)) (bind_reads_back free (until (value_step inner) (x ∷ []) e.0) _ ((x ∷ xs, trailing)) is.m2 (inits.List (x ∷ xs) trailing) rest (values_reads_back free Inner (value_step inner) (value_step_eats inner local) value_more value_trailing value_ends (x ∷ []) xs trailing e.0 is.m1 is.m2 rest e.2 is.comma is.closing) (bind_reads_back free (expect kind.CloseBrace is.m2) _ (is.closing.0) rest (inits.List (x ∷ xs) trailing) rest (first_reads_back free kind.CloseBrace is.m2 rest is.closing) (pure_reads_back free (inits.List (x ∷ xs) trailing) rest))))

  module _ (Here : Expr → List NumberedKind → List NumberedKind → Type 0) (value : Reader Expr) (here : (x : Expr) (k rest : List NumberedKind) → Here x k rest → Stops 12 rest → ReadsBack free (value k) x rest) (starts : (x : Expr) (k rest : List NumberedKind) → Here x k rest → Heads begins_expr k) where
    plain_by : (d : Kind) → begins_expr d ≡ true → init_by value inner (Some d) ≡ plain_value value
    plain_by kind.OpenBrace e = absurd cc
    plain_by _ e = refl

    plain_at : (k : List NumberedKind) → Heads begins_expr k → init_of value inner k ≡ plain_value value k
    unfolding init_of kind_at
    plain_at [] h = absurd h
    plain_at (s ∷ k) h = ap (λ p. p (s ∷ k)) (plain_by s.0 h)

    pub init_of_reads_back : (t : Init) (k rest : List NumberedKind) → IsInitOf Here Inner t k rest → Stops 12 rest → ReadsBack free (init_of value inner k) t rest
    unfolding init_of values plain_value
    init_of_reads_back t k rest (is_value x e is) h =
        reads_back_as free (init_of value inner k) (inits.Value x) t rest (sym e) (reads_back_at free (init_of value inner k) (plain_value value k) (inits.Value x) rest (plain_at k (starts x k rest is))
        (bind_reads_back free (value k) _ (x) rest (inits.Value x) rest (here x k rest is h) (pure_reads_back free (inits.Value x) rest)))
    init_of_reads_back t k rest (is_list xs trailing mid e f is) h =
        reads_back_as free (init_of value inner k) (inits.List xs trailing) t rest (sym e) (reads_back_at free (init_of value inner k) (init_by value inner (Some kind.OpenBrace) k) (inits.List xs trailing) rest (ap (λ o. init_by value inner o k) (kind_first kind.OpenBrace k mid f))
        (bind_reads_back free (expect kind.OpenBrace k) _ f.0 mid (inits.List xs trailing) rest (first_reads_back free kind.OpenBrace k mid f) (in_braces_reads_back xs trailing mid rest is)))

kind_init : (d : Kind) → begins_expr d ≡ true → begins_init d ≡ true
kind_init kind.OpenBrace e = refl
kind_init _ e = e

heads_init : (k : List NumberedKind) → Heads begins_expr k → Heads begins_init k
heads_init [] h = h
heads_init (s ∷ k) h = kind_init s.0 h

init_of_begins : (Here : Expr → List NumberedKind → List NumberedKind → Type 0) (Inner : Init → List NumberedKind → List NumberedKind → Type 0) → ((x : Expr) (k rest : List NumberedKind) → Here x k rest → Heads begins_expr k) → (t : Init) (k rest : List NumberedKind) → IsInitOf Here Inner t k rest → Heads begins_init k
init_of_begins Here Inner starts t k rest (is_value x e is) = heads_init k (starts x k rest is)
init_of_begins Here Inner starts t k rest (is_list xs trailing mid e f is) = first_heads kind.OpenBrace begins_init k mid refl f

init_begins : (free extra depth : ℕ) (t : Init) (k rest : List NumberedKind) → IsInit free extra depth t k rest → Heads begins_init k
init_begins free extra (suc depth) t k rest is = init_of_begins (IsAssignx free extra (suc depth)) (IsInit free extra depth) (assignx_begins free extra (suc depth)) t k rest is
init_begins free (suc extra) zero t k rest is = init_of_begins (IsAssignx free (suc extra) zero) (IsInit free extra zero) (assignx_begins free (suc extra) zero) t k rest is.1
init_begins free zero zero t k rest is = absurd is

pub init_again : (free extra depth : ℕ) (t : Init) (k rest : List NumberedKind) → IsInit free extra depth t k rest → Stops 12 rest → ReadsBack free (init depth k) t rest
unfolding init
init_again free extra (suc depth) t k rest is h = init_of_reads_back free (IsInit free extra depth) (init depth) (init_local depth) (init_again free extra depth) (init_begins free extra depth) (IsAssignx free extra (suc depth)) (assignx (suc depth)) (assignx_again free extra (suc depth)) (assignx_begins free extra (suc depth)) t k rest is h
init_again free (suc extra) zero t k rest is h = late k refl is.0
init_again free zero zero t k rest is h = absurd is

-- ---- declarators and declarations

-- a comma or a semicolon is after a declarator
abbrev pub goes_after : Kind → Bool
goes_after kind.Comma = true
goes_after kind.Semicolon = true
goes_after _ = false

after_kind : (d : Kind) → goes_after d ≡ true → 12 < binds d
after_kind kind.Comma h = omega arith
after_kind kind.Semicolon h = omega arith
after_kind _ h = absurd cc

after_stops : (k : List NumberedKind) → Heads goes_after k → Stops 12 k
after_stops [] h = tt
after_stops (s ∷ k) h = after_kind s.0 h

pub pointer_first : (x : Pointer) (k m : List NumberedKind) → IsPointer x k m → (mid : List NumberedKind) × First kind.Star k mid
pointer_first pointers.Plain k m is = (m, is)
pointer_first pointers.Const k m is = (is.0, is.1)

pub stars_stop : (xs : List Pointer) (k rest : List NumberedKind) → Each IsPointer xs k rest → TypeStops rest → TypeStops k
stars_stop [] k rest e h = subst TypeStops (sym e) h
stars_stop (x ∷ xs) k rest e h = let f = pointer_first x k e.0 e.1 in first_type_stops kind.Star k f.0 refl refl f.1

no_init_by : (value : Reader Init) (d : Kind) (k : List NumberedKind) → same d kind.Equal ≡ false → init_part_by value (Some d) k ≡ Ok (None, k)
no_init_by value kind.Equal k e = absurd cc
no_init_by value _ k e = refl

module _ (free : ℕ) (Inner : Expr → List NumberedKind → List NumberedKind → Type 0) (Value : Init → List NumberedKind → List NumberedKind → Type 0) (inner : Reader Expr) (value : Reader Init) (li : Local inner) (lv : Local value) (again : (x : Expr) (k rest : List NumberedKind) → Inner x k rest → Stops 12 rest → ReadsBack free (inner k) x rest) (begins : (x : Expr) (k rest : List NumberedKind) → Inner x k rest → Heads begins_expr k) (value_again : (x : Init) (k rest : List NumberedKind) → Value x k rest → Stops 12 rest → ReadsBack free (value k) x rest) where
  no_init : (k : List NumberedKind) → Lacks kind.Equal k → ReadsBack free (init_part value k) None k
  unfolding init_part kind_at
  no_init [] h = read refl
  no_init (s ∷ k) h = read (no_init_by value s.0 (s ∷ k) h)

  init_part_reads_back : (t : Option Init) (k rest : List NumberedKind) → Perhaps (IsAfterEqual Value) t k rest → Heads goes_after rest → ReadsBack free (init_part value k) t rest
  unfolding init_part some_init
  init_part_reads_back None k rest is h = reads_back_from free (init_part value) k rest None rest is (no_init rest (heads_lack kind.Equal goes_after rest refl h))
  init_part_reads_back (Some x) k rest is h =
      reads_back_at free (init_part value k) (init_part_by value (Some kind.Equal) k) (Some x) rest (ap (λ o. init_part_by value o k) (kind_first kind.Equal k is.mid is.equal))
      (bind_reads_back free (expect kind.Equal k) _ (is.equal.0) is.mid (Some x) rest (first_reads_back free kind.Equal k is.mid is.equal) (bind_reads_back free (value is.mid) _ (x) rest (Some x) rest (value_again x is.mid rest is.value (after_stops rest h)) (pure_reads_back free (Some x) rest)))

  init_lacks : (t : Option Init) (k rest : List NumberedKind) → Perhaps (IsAfterEqual Value) t k rest → Heads goes_after rest → Lacks kind.OpenBracket k
  init_lacks None k rest is h = subst (Lacks kind.OpenBracket) (sym is) (heads_lack kind.OpenBracket goes_after rest refl h)
  init_lacks (Some x) k rest is h = first_lacks kind.Equal kind.OpenBracket k is.mid refl is.equal

  -- what comes after a declarator's name
  name_lacks : (x : Kind) → same kind.OpenBracket x ≡ false → same kind.Equal x ≡ false → goes_after x ≡ false → (ls : List (Option Expr)) (t : Option Init) (k mid rest : List NumberedKind) → Each (IsLength Inner) ls k mid → Perhaps (IsAfterEqual Value) t mid rest → Heads goes_after rest → Lacks x k
  name_lacks x b e g (l ∷ ls) t k mid rest each is h = first_lacks kind.OpenBracket x k each.1.m1 b each.1.opening
  name_lacks x b e g [] (Some v) k mid rest each is h = subst (Lacks x) (sym each) (first_lacks kind.Equal x mid is.mid e is.equal)
  name_lacks x b e g [] None k mid rest each is h = subst (Lacks x) (sym (each ∙ is)) (heads_lack x goes_after rest g h)

  declarator_from_reads_back : (t : Declarator) (k mid rest : List NumberedKind) → Each (IsLength Inner) t.lengths k mid → Perhaps (IsAfterEqual Value) t.init mid rest → Heads goes_after rest → ReadsBack free (declarator_from inner value t.pointers t.name k) t rest
  unfolding declarator_from
  declarator_from_reads_back t k mid rest each is h =
      bind_reads_back free (lengths inner k) _ t.lengths mid t rest (lengths_reads_back free Inner inner li again begins t.lengths k mid each (init_lacks t.init mid rest is h))
      (bind_reads_back free (init_part value mid) _ t.init rest t rest (init_part_reads_back t.init mid rest is h) (pure_reads_back free t rest))

  declarator_reads_back : (t : Declarator) (k rest : List NumberedKind) → IsDeclarator Inner Value t k rest → Heads goes_after rest → ReadsBack free (declarator inner value k) t rest
  unfolding declarator
  declarator_reads_back t k rest is h =
      bind_reads_back free (stars k) _ t.pointers is.m1 t rest (stars_reads_back free t.pointers k is.m1 is.stars (first_lacks kind.Name kind.Const is.m1 is.m2 refl (t.name, is.name)) (first_lacks kind.Name kind.Star is.m1 is.m2 refl (t.name, is.name)))
      (bind_reads_back free (expect kind.Name is.m1) _ t.name is.m2 t rest (expect_reads_back free kind.Name t.name is.m1 is.m2 is.name) (declarator_from_reads_back t is.m2 is.m3 rest is.lengths is.init h))

  comma_after : (x : Declarator) (k m : List NumberedKind) → IsAfterComma (IsDeclarator Inner Value) x k m → Heads goes_after k
  comma_after x k m is = first_heads kind.Comma goes_after k is.mid refl is.comma

  next_declarator : (x : Declarator) (k m : List NumberedKind) → IsAfterComma (IsDeclarator Inner Value) x k m → Heads goes_after m → ReadsBack free (next_comma (declarator inner value) k) (Some x) m
  next_declarator x k m is h = comma_reads_back free (IsDeclarator Inner Value) (declarator inner value) x k m is (declarator_reads_back x is.mid m is.element h)

  follow_more : (xs : List Declarator) (k mid rest : List NumberedKind) → Each (IsAfterComma (IsDeclarator Inner Value)) xs k mid → First kind.Semicolon mid rest → Heads goes_after k
  follow_more [] k mid rest e f = subst (Heads goes_after) (sym e) (first_heads kind.Semicolon goes_after mid rest refl f)
  follow_more (x ∷ xs) k mid rest e f = comma_after x k e.0 e.1

  more_reads_back : (t : QualifiedType) (first : Declarator) (xs : List Declarator) (k mid rest : List NumberedKind) → Each (IsAfterComma (IsDeclarator Inner Value)) xs k mid → First kind.Semicolon mid rest → ReadsBack free (more_declarators inner value t first k) (record { of = t; declarators = first ∷ xs }) rest
  unfolding more_declarators
  more_reads_back t first xs k mid rest each f =
      bind_reads_back free (many (next_comma (declarator inner value)) (first ∷ []) k) _ (first ∷ xs) mid _ rest
      (many_reads_back free (next_comma (declarator inner value)) (comma_eats (declarator inner value) (declarator_local inner value li lv)) (IsAfterComma (IsDeclarator Inner Value)) (Heads goes_after) comma_after next_declarator (first ∷ []) xs k mid each (first_heads kind.Semicolon goes_after mid rest refl f) (no_comma free (declarator inner value) mid (first_lacks kind.Semicolon kind.Comma mid rest refl f)))
      (bind_reads_back free (expect kind.Semicolon mid) _ f.0 rest _ rest (first_reads_back free kind.Semicolon mid rest f) (pure_reads_back free _ rest))

  -- a declaration after its first name, where no bracket is
  pub declaration_from_reads_back : (t : QualifiedType) (x : Declarator) (xs : List Declarator) (k m1 m2 mid rest : List NumberedKind) → Each (IsLength Inner) x.lengths k m1 → Perhaps (IsAfterEqual Value) x.init m1 m2 → Each (IsAfterComma (IsDeclarator Inner Value)) xs m2 mid → First kind.Semicolon mid rest → Lacks kind.OpenParen k × ReadsBack free (declaration_from inner value t x.pointers x.name k) (record { of = t; declarators = x ∷ xs }) rest
  unfolding declaration_from
  declaration_from_reads_back t x xs k m1 m2 mid rest each is more f =
      let h = follow_more xs m2 mid rest more f in (
        name_lacks kind.OpenParen refl refl refl x.lengths x.init k m1 m2 each is h,
        bind_reads_back free (declarator_from inner value x.pointers x.name k) _ x m2 _ rest (declarator_from_reads_back x k m1 m2 each is h) (more_reads_back t x xs m2 mid rest more f),
      )

  declarator_stops : (t : Declarator) (k rest : List NumberedKind) → IsDeclarator Inner Value t k rest → TypeStops k
  declarator_stops t k rest is = stars_stop t.pointers k is.m1 is.stars (first_type_stops kind.Name is.m1 is.m2 refl refl (t.name, is.name))

  after_type : (t : QualifiedType) (ds : List Declarator) (k mid rest : List NumberedKind) → AreCommas (IsDeclarator Inner Value) ds k mid → First kind.Semicolon mid rest → TypeStops k × ReadsBack free (declaration_of inner value t k) (record { of = t; declarators = ds }) rest
  unfolding declaration_of
  after_type t [] k mid rest is f = absurd is
  after_type t (x ∷ xs) k mid rest is f = (
    declarator_stops x k is.0 is.1,
    bind_reads_back free (declarator inner value k) _ x is.0 _ rest (declarator_reads_back x k is.0 is.1 (follow_more xs is.0 mid rest is.2 f)) (more_reads_back t x xs is.0 mid rest is.2 f),
  )

  pub declaration_in_reads_back : (t : Declaration) (k rest : List NumberedKind) → IsDeclarationOf Inner Value t k rest → ReadsBack free (declaration_in inner value k) t rest
  unfolding declaration_in
  declaration_in_reads_back t k rest is =
      let b = after_type t.of t.declarators is.m1 is.m2 rest is.declarators is.semicolon in
      bind_reads_back free (type_of k) _ t.of is.m1 t rest (type_reads_back free t.of k is.m1 is.of_type b.0) b.1

-- what the grammar gives is read, unless a token lies too deep that is free of the levels
pub declaration_again : (free extra depth : ℕ) (t : Declaration) (k rest : List NumberedKind) → IsDeclaration free extra depth t k rest → ReadsBack free (declaration depth k) t rest
unfolding declaration
declaration_again free extra (suc depth) t k rest is = declaration_in_reads_back free (IsAssignx free extra depth) (IsInit free extra (suc depth)) (assignx depth) (init (suc depth)) (assignx_local depth) (init_local (suc depth)) (assignx_again free extra depth) (assignx_begins free extra depth) (init_again free extra (suc depth)) t k rest is
declaration_again free (suc extra) zero t k rest is = late k refl is.0
declaration_again free zero zero t k rest is = absurd is

pub declaration_begins : (free extra depth : ℕ) (t : Declaration) (k rest : List NumberedKind) → IsDeclaration free extra depth t k rest → begins_type (kind_at k) ≡ true
declaration_begins free extra (suc depth) t k rest is = type_begins t.of k is.m1 is.of_type
declaration_begins free (suc extra) zero t k rest is = type_begins t.of k is.1.m1 is.1.of_type
declaration_begins free zero zero t k rest is = absurd is
