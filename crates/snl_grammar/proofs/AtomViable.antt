-- Atoms and signs can be completed where a reader fails, and what it took is a step of an operand.
use Rattle.std.proofs.Common.{◌≡◌, ℕ, Bool, false, List, [], ◌∷◌, ◌++◌, Option, Some, None, refl, ap, subst, ◌∙◌}
use Rattle.snl_lex.specs.declared.kind.Kind.{Kind}
use Rattle.snl_lex.specs.declared.kind.Kind.TheVariants as kind
use Rattle.snl_grammar.specs.declared.operator.Sign.{Sign}
use Rattle.snl_grammar.specs.declared.step.Step.{Step}
use Rattle.snl_grammar.specs.declared.step.Step.TheVariants as steps
use Rattle.snl_grammar.specs.declared.tree.types.TypeName.{TypeName}
use Rattle.snl_grammar.specs.declared.tree.expression.Prefix.{Prefix}
use Rattle.snl_grammar.specs.declared.tree.expression.Prefix.TheVariants as prefixes
use Rattle.snl_grammar.specs.declared.tree.expression.Expr.{Expr}
use Rattle.snl_grammar.specs.declared.tree.expression.Expr.TheVariants as tree
use Rattle.snl_grammar.specs.Operators.{sign_kind}
use Rattle.snl_grammar.specs.Tokens.{NumberedKind}
use Rattle.snl_grammar.specs.Steps.{Reader, pure, expect}
use Rattle.snl_grammar.specs.Grammar.Base.{First, Leaf}
use Rattle.snl_grammar.specs.Grammar.Expressions.{AreTexts, IsPrimary, name, integer, floating, character, texts as is_texts, IsOperator, sign, AreOperators}
use Rattle.snl_grammar.specs.Reading.Expressions.{texts, leaf, text, atom_by, atom, signed, plain}
use Rattle.snl_grammar.proofs.Viable.{pure_never, Makes, Viable, Completable, Exists, Both, both, Joint, IsNothing, numbered_kinds, bind_viable, bind_completable, into_completable, lighter, choice_viable, refuse_viable, expect_completable, pure_completable}
use Rattle.snl_grammar.proofs.TypeLaws.{first_then}
use Rattle.snl_grammar.proofs.CommasViable.{Int, texts_completable}

module _ (Inner : Expr → List NumberedKind → List NumberedKind → Type 0) (Names : TypeName → List NumberedKind → List NumberedKind → Type 0) where
  -- an operand, or `sizeof` and an operand in brackets
  abbrev pub Operand : Option Prefix → Expr → List NumberedKind → List NumberedKind → Type 0
  Operand None y k rest = IsPrimary Inner Names y k rest
  Operand (Some op) y k rest = (mid : List NumberedKind) × (op ≡ prefixes.Sizeof) × First kind.Sizeof k mid × IsPrimary Inner Names y mid rest

  -- one step, after `sizeof` or not
  abbrev pub IsStep : Bool → Step Prefix Expr → List NumberedKind → List NumberedKind → Type 0
  IsStep b (steps.More op) k rest = IsOperator Names b op k rest
  IsStep b (steps.Last o y) k rest = Operand o y k rest

  -- operators and the operand that ends them
  abbrev pub Operation : Bool → List NumberedKind → List NumberedKind → Type 0
  Operation b k rest = (xs : List Prefix) × (o : Option Prefix) × (y : Expr) × (mid : List NumberedKind) × AreOperators Names b xs k mid × Operand o y mid rest

  pub last_step : (b : Bool) (k rest : List NumberedKind) → Exists (IsPrimary Inner Names) k rest → Operation b k rest
  last_step b k rest h = ([], None, h.0, k, refl, h.1)

module _ (free extra : ℕ) (Inner : Expr → List NumberedKind → List NumberedKind → Type 0) (Names : TypeName → List NumberedKind → List NumberedKind → Type 0) where
  into_leaf : (x : Kind) (make : ℕ → Expr) → ((n : ℕ) (k rest : List NumberedKind) → Leaf x n k rest → IsPrimary Inner Names (make n) k rest) → (y : Expr) (k rest : List NumberedKind) → Both (Leaf x) (λ n. IsNothing (make n)) y k rest → IsPrimary Inner Names y k rest
  into_leaf x make is y k rest (both n m e h) = subst (λ z. IsPrimary Inner Names z k rest) h.0 (is n k rest (e ∙ ap (λ (l : List NumberedKind). (x, n) ∷ l) h.1))

  leaf_viable : (x : Kind) (make : ℕ → Expr) → ((n : ℕ) (k rest : List NumberedKind) → Leaf x n k rest → IsPrimary Inner Names (make n) k rest) → Viable free extra (leaf x make) (IsPrimary Inner Names) (Exists (IsPrimary Inner Names))
  unfolding leaf
  leaf_viable x make is = (into_completable free extra (leaf x make) _ (IsPrimary Inner Names) (x ∷ []) (into_leaf x make is) (bind_completable free extra (expect x) _ (Leaf x) (λ n. IsNothing (make n)) (x ∷ []) [] (expect_completable free extra x) (λ n. pure_completable free extra (make n)))).viable

  into_text : (y : Expr) (k rest : List NumberedKind) → Both AreTexts (λ ns. IsNothing (tree.Text ns)) y k rest → IsPrimary Inner Names y k rest
  into_text y k rest (both ns m e h) = subst (λ z. IsPrimary Inner Names z k rest) h.0 (is_texts ns refl (subst (λ l. AreTexts ns k l) h.1 e))

  text_viable : Viable free extra text (IsPrimary Inner Names) (Exists (IsPrimary Inner Names))
  unfolding text
  text_viable = (into_completable free extra text _ (IsPrimary Inner Names) (kind.Text ∷ []) into_text (bind_completable free extra texts _ AreTexts (λ ns. IsNothing (tree.Text ns)) (kind.Text ∷ []) [] (texts_completable free extra) (λ ns. pure_completable free extra (tree.Text ns)))).viable

  atom_makes : Makes free extra (Exists (IsPrimary Inner Names)) Int
  atom_makes n rest room = (tree.Integer n, integer n refl refl)

  atom_by_viable : (o : Option Kind) → Viable free extra (atom_by o) (IsPrimary Inner Names) (Exists (IsPrimary Inner Names))
  unfolding atom_by
  atom_by_viable (Some kind.Name) = leaf_viable kind.Name tree.Name (λ n k rest e. name n refl e)
  atom_by_viable (Some kind.Integer) = leaf_viable kind.Integer tree.Integer (λ n k rest e. integer n refl e)
  atom_by_viable (Some kind.Floating) = leaf_viable kind.Floating tree.Floating (λ n k rest e. floating n refl e)
  atom_by_viable (Some kind.Character) = leaf_viable kind.Character tree.Character (λ n k rest e. character n refl e)
  atom_by_viable (Some kind.Text) = text_viable
  atom_by_viable _ = refuse_viable free extra (IsPrimary Inner Names) (Exists (IsPrimary Inner Names)) Int atom_makes

  atom_completable : Completable free extra atom (IsPrimary Inner Names) Int
  unfolding atom
  atom_completable = record { viable = choice_viable free extra atom_by (IsPrimary Inner Names) (Exists (IsPrimary Inner Names)) atom_by_viable; makes = atom_makes }

  pub step_makes : (b : Bool) → Makes free extra (Operation Inner Names b) Int
  step_makes b n rest room = last_step Inner Names b (numbered_kinds n Int ++ rest) rest (atom_makes n rest room)

  -- an operator, and the shortest operand after it
  into_signed : (b : Bool) (op : Sign) (y : Step Prefix Expr) (k rest : List NumberedKind) → Both (Leaf (sign_kind op)) (λ _. IsNothing (steps.More (prefixes.Sign op))) y k rest → IsStep Inner Names b y k rest
  into_signed b op y k rest (both n m e h) = subst (λ z. IsStep Inner Names b z k rest) h.0 (sign op refl (first_then (sign_kind op) n k m rest e h.1))

  aim_signed : (b : Bool) (op : Sign) (k rest : List NumberedKind) → Joint (Leaf (sign_kind op)) (λ _. Operation Inner Names false) k rest → Operation Inner Names b k rest
  aim_signed b op k rest h = (prefixes.Sign op ∷ h.3.0, h.3.1, h.3.2, h.3.3, (h.1, sign op refl (h.0, h.2), h.3.4), h.3.5)

  pub signed_viable : (b : Bool) (op : Sign) → Viable free extra (signed op) (IsStep Inner Names b) (Operation Inner Names b)
  unfolding signed
  signed_viable b op = lighter free extra (signed op) _ (IsStep Inner Names b) _ (Operation Inner Names b) (into_signed b op) (aim_signed b op) (bind_viable free extra (expect (sign_kind op)) (λ _. pure (steps.More (prefixes.Sign op))) (Leaf (sign_kind op)) (λ _. IsNothing (steps.More (prefixes.Sign op))) (λ _. Operation Inner Names false) Int (expect_completable free extra (sign_kind op)).viable (λ _. pure_never free extra (steps.More (prefixes.Sign op)) (Operation Inner Names false)) (λ _. step_makes false))

module _ (free extra : ℕ) (Inner : Expr → List NumberedKind → List NumberedKind → Type 0) (Names : TypeName → List NumberedKind → List NumberedKind → Type 0) (inner : Reader Expr) (names : Reader TypeName) where
  into_plain : (b : Bool) (y : Step Prefix Expr) (k rest : List NumberedKind) → Both (IsPrimary Inner Names) (λ x. IsNothing (steps.Last None x)) y k rest → IsStep Inner Names b y k rest
  into_plain b y k rest (both x m e h) = subst (λ z. IsStep Inner Names b z k rest) h.0 (subst (λ l. IsPrimary Inner Names x k l) h.1 e)

  aim_plain : (b : Bool) (y : Step Prefix Expr) (k rest : List NumberedKind) → Both (IsPrimary Inner Names) (λ x. IsNothing (steps.Last None x)) y k rest → Operation Inner Names b k rest
  aim_plain b y k rest (both x m e h) = last_step Inner Names b k rest (x, subst (λ l. IsPrimary Inner Names x k l) h.1 e)

  pub plain_viable : (b : Bool) → Viable free extra (plain inner names) (IsStep Inner Names b) (Operation Inner Names b)
  unfolding plain
  plain_viable b = lighter free extra (plain inner names) _ (IsStep Inner Names b) _ (Operation Inner Names b) (into_plain b) (λ k rest h. aim_plain b h.0 k rest h.1) (bind_completable free extra atom _ (IsPrimary Inner Names) (λ x. IsNothing (steps.Last None x)) Int [] (atom_completable free extra Inner Names) (λ x. pure_completable free extra (steps.Last None x))).viable
