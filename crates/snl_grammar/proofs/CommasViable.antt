-- Lists with commas, strings and links of a tier can be completed where a reader fails, and what it
-- took is in the grammar.
use Rattle.std.proofs.Common.{◌≡◌, ℕ, eqb, Bool, true, false, cond, List, [], ◌∷◌, ◌++◌, Option, Some, None, refl, sym, ap, subst, ◌∙◌}
use Rattle.std.proofs.lemmas.Bool.{eqb-true}
use Rattle.snl_lex.specs.declared.kind.Kind.{Kind}
use Rattle.snl_lex.specs.declared.kind.Kind.TheVariants as kind
use Rattle.snl_grammar.specs.declared.operator.Binary.{Binary}
use Rattle.snl_grammar.specs.declared.tree.expression.Expr.{Expr}
use Rattle.snl_grammar.specs.Operators.{tier, binary_of, binary_kind}
use Rattle.snl_grammar.specs.Tokens.{NumberedKind}
use Rattle.snl_grammar.specs.Steps.{Reader, pure, expect, many}
use Rattle.snl_grammar.specs.Grammar.Base.{Each, Leaf}
use Rattle.snl_grammar.specs.Grammar.Expressions.{IsAfterComma, AreCommas, AreTexts, IsLink}
use Rattle.snl_grammar.specs.Reading.Expressions.{comma_by, next_comma, commas, text_by, next_text, texts, in_tier, binary_in, link_by, next_link}
use Rattle.snl_grammar.proofs.Viable.{Viable, Completable, Exists, Both, both, Next, Lists, IsNothing, bind_completable, into_completable, choice_viable, expect_completable, pure_completable, many_completable}
use Rattle.snl_grammar.proofs.TypeLaws.{lists_each, none_next}

abbrev pub Int : List Kind
Int = kind.Integer ∷ []

-- ---- lists with commas, and strings

module _ (free extra : ℕ) {A : Type 0} (R : A → List NumberedKind → List NumberedKind → Type 0) (p : Reader A) (some : List Kind) (f : Completable free extra p R some) where
  into_comma : (y : Option A) (k rest : List NumberedKind) → Both (Leaf kind.Comma) (λ _. Both R (λ x. IsNothing (Some x))) y k rest → Next (IsAfterComma R) y k rest
  into_comma y k rest (both n m e (both x m2 r h)) = subst (λ z. Next (IsAfterComma R) z k rest) h.0 (record { mid = m; comma = (n, e); element = subst (λ l. R x m l) h.1 r })

  comma_by_viable : (o : Option Kind) → Viable free extra (comma_by p o) (Next (IsAfterComma R)) (Exists (Next (IsAfterComma R)))
  comma_by_viable (Some kind.Comma) = (into_completable free extra (comma_by p (Some kind.Comma)) _ (Next (IsAfterComma R)) (kind.Comma ∷ (some ++ [])) into_comma (bind_completable free extra (expect kind.Comma) _ (Leaf kind.Comma) (λ _. Both R (λ x. IsNothing (Some x))) (kind.Comma ∷ []) (some ++ []) (expect_completable free extra kind.Comma) (λ _. bind_completable free extra p _ R (λ x. IsNothing (Some x)) some [] f (λ x. pure_completable free extra (Some x))))).viable
  comma_by_viable _ = (into_completable free extra (pure None) (IsNothing None) (Next (IsAfterComma R)) [] (none_next (IsAfterComma R)) (pure_completable free extra None)).viable

  comma_viable : Viable free extra (next_comma p) (Next (IsAfterComma R)) (Exists (Next (IsAfterComma R)))
  unfolding next_comma
  comma_viable = choice_viable free extra (comma_by p) (Next (IsAfterComma R)) (Exists (Next (IsAfterComma R))) comma_by_viable

  pub more_commas : (found : List A) → Completable free extra (many (next_comma p) found) (Lists (IsAfterComma R) found) []
  more_commas found = many_completable free extra (IsAfterComma R) (next_comma p) comma_viable found

  into_commas : (y : List A) (k rest : List NumberedKind) → Both R (λ x. Lists (IsAfterComma R) (x ∷ [])) y k rest → AreCommas R y k rest
  into_commas y k rest (both x m r h) = subst (λ z. AreCommas R z k rest) (sym h.1) (m, r, h.2)

  pub commas_completable : Completable free extra (commas p) (AreCommas R) (some ++ [])
  unfolding commas
  commas_completable = into_completable free extra (commas p) _ (AreCommas R) (some ++ []) into_commas (bind_completable free extra p _ R (λ x. Lists (IsAfterComma R) (x ∷ [])) some [] f (λ x. more_commas (x ∷ [])))

module _ (free extra : ℕ) where
  into_next_text : (y : Option ℕ) (k rest : List NumberedKind) → Both (Leaf kind.Text) (λ n. IsNothing (Some n)) y k rest → Next (Leaf kind.Text) y k rest
  into_next_text y k rest (both n m e h) = subst (λ z. Next (Leaf kind.Text) z k rest) h.0 (e ∙ ap (λ (l : List NumberedKind). (kind.Text, n) ∷ l) h.1)

  text_by_viable : (o : Option Kind) → Viable free extra (text_by o) (Next (Leaf kind.Text)) (Exists (Next (Leaf kind.Text)))
  text_by_viable (Some kind.Text) = (into_completable free extra (text_by (Some kind.Text)) _ (Next (Leaf kind.Text)) (kind.Text ∷ []) into_next_text (bind_completable free extra (expect kind.Text) _ (Leaf kind.Text) (λ n. IsNothing (Some n)) (kind.Text ∷ []) [] (expect_completable free extra kind.Text) (λ n. pure_completable free extra (Some n)))).viable
  text_by_viable _ = (into_completable free extra (pure None) (IsNothing None) (Next (Leaf kind.Text)) [] (none_next (Leaf kind.Text)) (pure_completable free extra None)).viable

  next_text_viable : Viable free extra next_text (Next (Leaf kind.Text)) (Exists (Next (Leaf kind.Text)))
  unfolding next_text
  next_text_viable = choice_viable free extra text_by (Next (Leaf kind.Text)) (Exists (Next (Leaf kind.Text))) text_by_viable

  into_texts : (y : List ℕ) (k rest : List NumberedKind) → Both (Leaf kind.Text) (λ n. Lists (Leaf kind.Text) (n ∷ [])) y k rest → AreTexts y k rest
  into_texts y k rest (both n m e h) = subst (λ z. AreTexts z k rest) (sym h.1) (m, e, h.2)

  pub texts_completable : Completable free extra texts AreTexts (kind.Text ∷ [])
  unfolding texts
  texts_completable = into_completable free extra texts _ AreTexts (kind.Text ∷ []) into_texts (bind_completable free extra (expect kind.Text) _ (Leaf kind.Text) (λ n. Lists (Leaf kind.Text) (n ∷ [])) (kind.Text ∷ []) [] (expect_completable free extra kind.Text) (λ n. many_completable free extra (Leaf kind.Text) next_text next_text_viable (n ∷ [])))

-- ---- operators, by their tokens
module _ (free extra : ℕ) (n : ℕ) (R : Expr → List NumberedKind → List NumberedKind → Type 0) (p : Reader Expr) (f : Completable free extra p R Int) where
  into_link : (op : Binary) → tier op ≡ n → (y : Option (Binary × Expr)) (k rest : List NumberedKind) → Both (Leaf (binary_kind op)) (λ _. Both R (λ x. IsNothing (Some (op, x)))) y k rest → Next (IsLink n R) y k rest
  into_link op t y k rest (both i m e (both x m2 r h)) = subst (λ z. Next (IsLink n R) z k rest) h.0 (record { mid = m; operator = (i, e); of_tier = t; operand = subst (λ l. R x m l) h.1 r })

  link_viable : (op : Binary) → tier op ≡ n → Viable free extra (link_by p (Some op)) (Next (IsLink n R)) (Exists (Next (IsLink n R)))
  link_viable op t = (into_completable free extra (link_by p (Some op)) _ (Next (IsLink n R)) (binary_kind op ∷ Int) (into_link op t) (bind_completable free extra (expect (binary_kind op)) _ (Leaf (binary_kind op)) (λ _. Both R (λ x. IsNothing (Some (op, x)))) (binary_kind op ∷ []) Int (expect_completable free extra (binary_kind op)) (λ _. bind_completable free extra p _ R (λ x. IsNothing (Some (op, x))) Int [] f (λ x. pure_completable free extra (Some (op, x)))))).viable

  no_link_viable : Viable free extra (link_by p None) (Next (IsLink n R)) (Exists (Next (IsLink n R)))
  no_link_viable = (into_completable free extra (pure None) (IsNothing None) (Next (IsLink n R)) [] (none_next (IsLink n R)) (pure_completable free extra None)).viable

  by_test : (op : Binary) (b : Bool) → eqb (tier op) n ≡ b → Viable free extra (link_by p (cond b (Some op) None)) (Next (IsLink n R)) (Exists (Next (IsLink n R)))
  by_test op true e = link_viable op (eqb-true (tier op) n e)
  by_test op false e = no_link_viable

  in_tier_viable : (o : Option Binary) → Viable free extra (link_by p (in_tier n o)) (Next (IsLink n R)) (Exists (Next (IsLink n R)))
  in_tier_viable None = no_link_viable
  in_tier_viable (Some op) = by_test op (eqb (tier op) n) refl

  by_kind_viable : (o : Option Kind) → Viable free extra (link_by p (binary_in n o)) (Next (IsLink n R)) (Exists (Next (IsLink n R)))
  by_kind_viable None = no_link_viable
  by_kind_viable (Some d) = in_tier_viable (binary_of d)

  next_link_viable : Viable free extra (next_link n p) (Next (IsLink n R)) (Exists (Next (IsLink n R)))
  unfolding next_link
  next_link_viable = choice_viable free extra (λ o. link_by p (binary_in n o)) (Next (IsLink n R)) (Exists (Next (IsLink n R))) by_kind_viable

  pub links_completable : Completable free extra (many (next_link n p) []) (Each (IsLink n R)) []
  links_completable = into_completable free extra (many (next_link n p) []) (Lists (IsLink n R) []) (Each (IsLink n R)) [] (lists_each (IsLink n R)) (many_completable free extra (IsLink n R) (next_link n p) next_link_viable [])
