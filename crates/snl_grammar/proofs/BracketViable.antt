-- Groups, casts and `sizeof` can be completed where a reader fails, and what it took is in the
-- grammar.
use Rattle.std.proofs.Common.{◌≡◌, ℕ, suc, Bool, true, false, List, [], ◌∷◌, ◌++◌, Option, Some, None, refl, sym, ap, subst}
use Rattle.snl_lex.specs.declared.kind.Kind.{Kind}
use Rattle.snl_lex.specs.declared.kind.Kind.TheVariants as kind
use Rattle.snl_grammar.specs.declared.step.Step.{Step}
use Rattle.snl_grammar.specs.declared.step.Step.TheVariants as steps
use Rattle.snl_grammar.specs.declared.tree.types.TypeName.{TypeName}
use Rattle.snl_grammar.specs.declared.tree.expression.Prefix.{Prefix}
use Rattle.snl_grammar.specs.declared.tree.expression.Prefix.TheVariants as prefixes
use Rattle.snl_grammar.specs.declared.tree.expression.Expr.{Expr}
use Rattle.snl_grammar.specs.declared.tree.expression.Expr.TheVariants as tree
use Rattle.snl_grammar.specs.Tokens.{NumberedKind}
use Rattle.snl_grammar.specs.Steps.{Reader, and_then, pure, expect}
use Rattle.snl_grammar.specs.Grammar.Base.{First, Leaf}
use Rattle.snl_grammar.specs.Grammar.Expressions.{IsSequence, integer, group as is_group, sizeof_type as is_sizeof_type, sizeof as is_size, cast as is_cast}
use Rattle.snl_grammar.specs.Reading.Types.{begins_type}
use Rattle.snl_grammar.specs.Reading.Expressions.{sequence, group, sizeof_type, cast, sized, sizeof_bracket, sizeof_by, sizeof, bracketed, bracket}
use Rattle.snl_grammar.proofs.Viable.{pure_never, Makes, Viable, Completable, Exists, Both, both, Joint, IsNothing, numbered_kinds, bind_viable, bind_completable, into_completable, lighter, choice_viable, expect_completable, pure_completable, free_after}
use Rattle.snl_grammar.proofs.TypeLaws.{first_then}
use Rattle.snl_grammar.proofs.CommasViable.{Int}
use Rattle.snl_grammar.proofs.SuffixViable.{sequence_completable}
use Rattle.snl_grammar.proofs.AtomViable.{IsStep, Operation, last_step, step_makes}

abbrev a_cast : TypeName → Step Prefix Expr
a_cast x = steps.More (prefixes.Cast x)

module _ (free extra : ℕ) (Inner : Expr → List NumberedKind → List NumberedKind → Type 0) (Names : TypeName → List NumberedKind → List NumberedKind → Type 0) (inner : Reader Expr) (names : Reader TypeName) (fi : Completable free extra inner Inner Int) (fn : Completable free extra names Names (kind.Int ∷ [])) where
  -- after "("
  abbrev Grouped : Option Prefix → Step Prefix Expr → List NumberedKind → List NumberedKind → Type 0
  Grouped before s k rest = (x : Expr) × (mid : List NumberedKind) × (s ≡ steps.Last before (tree.Group x)) × IsSequence Inner x k mid × First kind.CloseParen mid rest

  into_group : (before : Option Prefix) (s : Step Prefix Expr) (k rest : List NumberedKind) → Both (IsSequence Inner) (λ x. Both (Leaf kind.CloseParen) (λ _. IsNothing (steps.Last before (tree.Group x)))) s k rest → Grouped before s k rest
  into_group before s k rest (both x m e (both n m2 f h)) = (x, m, sym h.0, e, first_then kind.CloseParen n m m2 rest f h.1)

  group_completable : (before : Option Prefix) → Completable free extra (group inner names before) (Grouped before) (kind.Integer ∷ kind.CloseParen ∷ [])
  unfolding group
  group_completable before = into_completable free extra (group inner names before) _ (Grouped before) (kind.Integer ∷ kind.CloseParen ∷ []) (into_group before) (bind_completable free extra (sequence inner) _ (IsSequence Inner) (λ x. Both (Leaf kind.CloseParen) (λ _. IsNothing (steps.Last before (tree.Group x)))) Int (kind.CloseParen ∷ []) (sequence_completable free extra Inner inner fi) (λ x. bind_completable free extra (expect kind.CloseParen) _ (Leaf kind.CloseParen) (λ _. IsNothing (steps.Last before (tree.Group x))) (kind.CloseParen ∷ []) [] (expect_completable free extra kind.CloseParen) (λ _. pure_completable free extra (steps.Last before (tree.Group x)))))

  abbrev Cast : Step Prefix Expr → List NumberedKind → List NumberedKind → Type 0
  Cast s k rest = (x : TypeName) × (mid : List NumberedKind) × (s ≡ steps.More (prefixes.Cast x)) × Names x k mid × First kind.CloseParen mid rest

  into_cast : (s : Step Prefix Expr) (k rest : List NumberedKind) → Both Names (λ x. Both (Leaf kind.CloseParen) (λ _. IsNothing (steps.More (prefixes.Cast x)))) s k rest → Cast s k rest
  into_cast s k rest (both x m e (both n m2 f h)) = (x, m, sym h.0, e, first_then kind.CloseParen n m m2 rest f h.1)

  abbrev Sized : Step Prefix Expr → List NumberedKind → List NumberedKind → Type 0
  Sized s k rest = (x : TypeName) × (mid : List NumberedKind) × (s ≡ steps.Last None (tree.SizeofType x)) × Names x k mid × First kind.CloseParen mid rest

  into_sized : (s : Step Prefix Expr) (k rest : List NumberedKind) → Both Names (λ x. Both (Leaf kind.CloseParen) (λ _. IsNothing (steps.Last None (tree.SizeofType x)))) s k rest → Sized s k rest
  into_sized s k rest (both x m e (both n m2 f h)) = (x, m, sym h.0, e, first_then kind.CloseParen n m m2 rest f h.1)

  sized_completable : Completable free extra (sizeof_type inner names) Sized (kind.Int ∷ kind.CloseParen ∷ [])
  unfolding sizeof_type
  sized_completable = into_completable free extra (sizeof_type inner names) _ Sized (kind.Int ∷ kind.CloseParen ∷ []) into_sized (bind_completable free extra names _ Names (λ x. Both (Leaf kind.CloseParen) (λ _. IsNothing (steps.Last None (tree.SizeofType x)))) (kind.Int ∷ []) (kind.CloseParen ∷ []) fn (λ x. bind_completable free extra (expect kind.CloseParen) _ (Leaf kind.CloseParen) (λ _. IsNothing (steps.Last None (tree.SizeofType x))) (kind.CloseParen ∷ []) [] (expect_completable free extra kind.CloseParen) (λ _. pure_completable free extra (steps.Last None (tree.SizeofType x)))))

  -- what comes after "(", with the bracket before
  abbrev InBracket : Step Prefix Expr → List NumberedKind → List NumberedKind → Type 0
  InBracket s k rest = (n : ℕ) → IsStep Inner Names false s ((kind.OpenParen, n) ∷ k) rest

  abbrev BracketAim : List NumberedKind → List NumberedKind → Type 0
  BracketAim k rest = (n : ℕ) → Operation Inner Names false ((kind.OpenParen, n) ∷ k) rest

  group_step : (s : Step Prefix Expr) (k rest : List NumberedKind) → Grouped None s k rest → InBracket s k rest
  group_step s k rest h n = subst (λ z. IsStep Inner Names false z ((kind.OpenParen, n) ∷ k) rest) (sym h.2) (is_group h.0 k h.1 refl (n, refl) h.3 h.4)

  group_aim : (k rest : List NumberedKind) → Exists (Grouped None) k rest → BracketAim k rest
  group_aim k rest h n = last_step Inner Names false ((kind.OpenParen, n) ∷ k) rest (tree.Group h.1.0, is_group h.1.0 k h.1.1 refl (n, refl) h.1.3 h.1.4)

  cast_step : (s : Step Prefix Expr) (k rest : List NumberedKind) → Cast s k rest → InBracket s k rest
  cast_step s k rest h n = subst (λ z. IsStep Inner Names false z ((kind.OpenParen, n) ∷ k) rest) (sym h.2) (is_cast h.0 k h.1 refl refl (n, refl) h.3 h.4)

  cast_end_makes : Makes free extra (Joint (Leaf kind.CloseParen) (λ _. Operation Inner Names false)) (kind.CloseParen ∷ kind.Integer ∷ [])
  cast_end_makes n rest room = (n, numbered_kinds (suc n) Int ++ rest, refl, step_makes free extra Inner Names false (suc n) rest (free_after free extra ((kind.CloseParen, n) ∷ []) (numbered_kinds (suc n) Int ++ rest) room))

  cast_end_viable : (x : TypeName) → Viable free extra (λ k. and_then (expect kind.CloseParen k) (λ _. pure (a_cast x))) (Both (Leaf kind.CloseParen) (λ _. IsNothing (steps.More (prefixes.Cast x)))) (Joint (Leaf kind.CloseParen) (λ _. Operation Inner Names false))
  cast_end_viable x = bind_viable free extra (expect kind.CloseParen) (λ _. pure (steps.More (prefixes.Cast x))) (Leaf kind.CloseParen) (λ _. IsNothing (steps.More (prefixes.Cast x))) (λ _. Operation Inner Names false) Int (expect_completable free extra kind.CloseParen).viable (λ _. pure_never free extra (steps.More (prefixes.Cast x)) (Operation Inner Names false)) (λ _. step_makes free extra Inner Names false)

  cast_aim : (k rest : List NumberedKind) → Joint Names (λ _. Joint (Leaf kind.CloseParen) (λ _. Operation Inner Names false)) k rest → BracketAim k rest
  cast_aim k rest h n =
      let q = h.3 in
      (prefixes.Cast h.0 ∷ q.3.0, q.3.1, q.3.2, q.3.3, (q.1, is_cast h.0 k h.1 refl refl (n, refl) h.2 (q.0, q.2), q.3.4), q.3.5)

  cast_viable : Viable free extra (cast inner names) InBracket BracketAim
  unfolding cast
  cast_viable = lighter free extra (cast inner names) _ InBracket _ BracketAim (λ s k rest h. cast_step s k rest (into_cast s k rest h)) cast_aim (bind_viable free extra names _ Names (λ x. Both (Leaf kind.CloseParen) (λ _. IsNothing (steps.More (prefixes.Cast x)))) (λ _. Joint (Leaf kind.CloseParen) (λ _. Operation Inner Names false)) (kind.CloseParen ∷ kind.Integer ∷ []) fn.viable cast_end_viable (λ _. cast_end_makes))

  bracketed_viable : (b : Bool) → Viable free extra (bracketed inner names b) InBracket BracketAim
  bracketed_viable true = cast_viable
  bracketed_viable false = lighter free extra (group inner names None) (Grouped None) InBracket (Exists (Grouped None)) BracketAim group_step group_aim (group_completable None).viable

  bracket_makes : Makes free extra BracketAim (kind.Integer ∷ kind.CloseParen ∷ [])
  bracket_makes n rest room = group_aim (numbered_kinds n (kind.Integer ∷ kind.CloseParen ∷ []) ++ rest) rest ((group_completable None).makes n rest room)

  into_bracket : (s : Step Prefix Expr) (k rest : List NumberedKind) → Both (Leaf kind.OpenParen) (λ _. InBracket) s k rest → IsStep Inner Names false s k rest
  into_bracket s k rest (both n m e h) = subst (λ l. IsStep Inner Names false s l rest) (sym e) (h n)

  bracket_aim : (k rest : List NumberedKind) → Joint (Leaf kind.OpenParen) (λ _. BracketAim) k rest → Operation Inner Names false k rest
  bracket_aim k rest h = subst (λ l. Operation Inner Names false l rest) (sym h.2) (h.3 h.0)

  pub bracket_viable : Viable free extra (bracket inner names) (IsStep Inner Names false) (Operation Inner Names false)
  unfolding bracket
  bracket_viable = lighter free extra (bracket inner names) _ (IsStep Inner Names false) _ (Operation Inner Names false) into_bracket bracket_aim (bind_viable free extra (expect kind.OpenParen) _ (Leaf kind.OpenParen) (λ _. InBracket) (λ _. BracketAim) (kind.Integer ∷ kind.CloseParen ∷ []) (expect_completable free extra kind.OpenParen).viable (λ _. choice_viable free extra (λ o. bracketed inner names (begins_type o)) InBracket BracketAim (λ o. bracketed_viable (begins_type o))) (λ _. bracket_makes))

  -- what comes after "sizeof" "(", and after "sizeof"
  abbrev InSizeof : Bool → Step Prefix Expr → List NumberedKind → List NumberedKind → Type 0
  InSizeof b s k rest = (n i : ℕ) → IsStep Inner Names b s ((kind.Sizeof, n) ∷ (kind.OpenParen, i) ∷ k) rest

  abbrev InSizeofAim : Bool → List NumberedKind → List NumberedKind → Type 0
  InSizeofAim b k rest = (n i : ℕ) → Operation Inner Names b ((kind.Sizeof, n) ∷ (kind.OpenParen, i) ∷ k) rest

  sized_step : (b : Bool) (s : Step Prefix Expr) (k rest : List NumberedKind) → Sized s k rest → InSizeof b s k rest
  sized_step b s k rest h n i = subst (λ z. IsStep Inner Names b z ((kind.Sizeof, n) ∷ (kind.OpenParen, i) ∷ k) rest) (sym h.2) (is_sizeof_type h.0 ((kind.OpenParen, i) ∷ k) k h.1 refl (n, refl) (i, refl) h.3 h.4)

  sized_aim : (b : Bool) (k rest : List NumberedKind) → Exists Sized k rest → InSizeofAim b k rest
  sized_aim b k rest h n i = last_step Inner Names b ((kind.Sizeof, n) ∷ (kind.OpenParen, i) ∷ k) rest (tree.SizeofType h.1.0, is_sizeof_type h.1.0 ((kind.OpenParen, i) ∷ k) k h.1.1 refl (n, refl) (i, refl) h.1.3 h.1.4)

  size_group_step : (b : Bool) (s : Step Prefix Expr) (k rest : List NumberedKind) → Grouped (Some prefixes.Sizeof) s k rest → InSizeof b s k rest
  size_group_step b s k rest h n i = subst (λ z. IsStep Inner Names b z ((kind.Sizeof, n) ∷ (kind.OpenParen, i) ∷ k) rest) (sym h.2) ((kind.OpenParen, i) ∷ k, refl, (n, refl), is_group h.0 k h.1 refl (i, refl) h.3 h.4)

  size_group_aim : (b : Bool) (k rest : List NumberedKind) → Exists (Grouped (Some prefixes.Sizeof)) k rest → InSizeofAim b k rest
  size_group_aim b k rest h n i = ([], Some prefixes.Sizeof, tree.Group h.1.0, (kind.Sizeof, n) ∷ (kind.OpenParen, i) ∷ k, refl, ((kind.OpenParen, i) ∷ k, refl, (n, refl), is_group h.1.0 k h.1.1 refl (i, refl) h.1.3 h.1.4))

  sized_viable : (b c : Bool) → Viable free extra (sized inner names c) (InSizeof b) (InSizeofAim b)
  sized_viable b true = lighter free extra (sizeof_type inner names) Sized (InSizeof b) (Exists Sized) (InSizeofAim b) (sized_step b) (sized_aim b) sized_completable.viable
  sized_viable b false = lighter free extra (group inner names (Some prefixes.Sizeof)) (Grouped (Some prefixes.Sizeof)) (InSizeof b) (Exists (Grouped (Some prefixes.Sizeof))) (InSizeofAim b) (size_group_step b) (size_group_aim b) (group_completable (Some prefixes.Sizeof)).viable

  size_makes : (b : Bool) → Makes free extra (InSizeofAim b) (kind.Integer ∷ kind.CloseParen ∷ [])
  size_makes b n rest room = size_group_aim b (numbered_kinds n (kind.Integer ∷ kind.CloseParen ∷ []) ++ rest) rest ((group_completable (Some prefixes.Sizeof)).makes n rest room)

  abbrev AfterSizeof : Bool → Step Prefix Expr → List NumberedKind → List NumberedKind → Type 0
  AfterSizeof b s k rest = (n : ℕ) → IsStep Inner Names b s ((kind.Sizeof, n) ∷ k) rest

  abbrev AfterAim : Bool → List NumberedKind → List NumberedKind → Type 0
  AfterAim b k rest = (n : ℕ) → Operation Inner Names b ((kind.Sizeof, n) ∷ k) rest

  into_size_bracket : (b : Bool) (s : Step Prefix Expr) (k rest : List NumberedKind) → Both (Leaf kind.OpenParen) (λ _. InSizeof b) s k rest → AfterSizeof b s k rest
  into_size_bracket b s k rest (both i m e h) n = subst (λ l. IsStep Inner Names b s ((kind.Sizeof, n) ∷ l) rest) (sym e) (h n i)

  size_bracket_aim : (b : Bool) (k rest : List NumberedKind) → Joint (Leaf kind.OpenParen) (λ _. InSizeofAim b) k rest → AfterAim b k rest
  size_bracket_aim b k rest h n = subst (λ l. Operation Inner Names b ((kind.Sizeof, n) ∷ l) rest) (sym h.2) (h.3 n h.0)

  size_bracket_viable : (b : Bool) → Viable free extra (sizeof_bracket inner names) (AfterSizeof b) (AfterAim b)
  unfolding sizeof_bracket
  size_bracket_viable b = lighter free extra (sizeof_bracket inner names) _ (AfterSizeof b) _ (AfterAim b) (into_size_bracket b) (size_bracket_aim b) (bind_viable free extra (expect kind.OpenParen) _ (Leaf kind.OpenParen) (λ _. InSizeof b) (λ _. InSizeofAim b) (kind.Integer ∷ kind.CloseParen ∷ []) (expect_completable free extra kind.OpenParen).viable (λ _. choice_viable free extra (λ o. sized inner names (begins_type o)) (InSizeof b) (InSizeofAim b) (λ o. sized_viable b (begins_type o))) (λ _. size_makes b))

  into_bare : (b : Bool) (s : Step Prefix Expr) (k rest : List NumberedKind) → IsNothing (steps.More prefixes.Sizeof) s k rest → AfterSizeof b s k rest
  into_bare b s k rest h n = subst (λ z. IsStep Inner Names b z ((kind.Sizeof, n) ∷ k) rest) h.0 (is_size refl (n, ap (λ (l : List NumberedKind). (kind.Sizeof, n) ∷ l) h.1))

  sizeof_by_viable : (b : Bool) (o : Option Kind) → Viable free extra (sizeof_by inner names o) (AfterSizeof b) (AfterAim b)
  sizeof_by_viable b (Some kind.OpenParen) = size_bracket_viable b
  sizeof_by_viable b _ = lighter free extra (pure (steps.More prefixes.Sizeof)) (IsNothing (steps.More prefixes.Sizeof)) (AfterSizeof b) (AfterAim b) (AfterAim b) (into_bare b) (λ k rest h. h) (pure_never free extra (steps.More prefixes.Sizeof) (AfterAim b))

  after_makes : (b : Bool) → Makes free extra (AfterAim b) Int
  after_makes b n rest room i = (prefixes.Sizeof ∷ [], None, tree.Integer n, numbered_kinds n Int ++ rest, (numbered_kinds n Int ++ rest, is_size refl (i, refl), refl), integer n refl refl)

  into_size : (b : Bool) (s : Step Prefix Expr) (k rest : List NumberedKind) → Both (Leaf kind.Sizeof) (λ _. AfterSizeof b) s k rest → IsStep Inner Names b s k rest
  into_size b s k rest (both n m e h) = subst (λ l. IsStep Inner Names b s l rest) (sym e) (h n)

  size_aim : (b : Bool) (k rest : List NumberedKind) → Joint (Leaf kind.Sizeof) (λ _. AfterAim b) k rest → Operation Inner Names b k rest
  size_aim b k rest h = subst (λ l. Operation Inner Names b l rest) (sym h.2) (h.3 h.0)

  pub sizeof_viable : (b : Bool) → Viable free extra (sizeof inner names) (IsStep Inner Names b) (Operation Inner Names b)
  unfolding sizeof
  sizeof_viable b = lighter free extra (sizeof inner names) _ (IsStep Inner Names b) _ (Operation Inner Names b) (into_size b) (size_aim b) (bind_viable free extra (expect kind.Sizeof) _ (Leaf kind.Sizeof) (λ _. AfterSizeof b) (λ _. AfterAim b) Int (expect_completable free extra kind.Sizeof).viable (λ _. choice_viable free extra (sizeof_by inner names) (AfterSizeof b) (AfterAim b) (sizeof_by_viable b)) (λ _. after_makes b))
