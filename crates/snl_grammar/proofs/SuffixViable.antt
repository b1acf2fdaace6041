-- Sequences, arguments and suffixes can be completed where a reader fails, and what it took is in
-- the grammar.
use Rattle.std.proofs.Common.{ℕ, List, [], ◌∷◌, Option, Some, None, refl, ap, subst, ◌∙◌}
use Rattle.snl_lex.specs.declared.kind.Kind.{Kind}
use Rattle.snl_lex.specs.declared.kind.Kind.TheVariants as kind
use Rattle.snl_grammar.specs.declared.tree.types.TypeName.{TypeName}
use Rattle.snl_grammar.specs.declared.tree.expression.Suffix.{Suffix}
use Rattle.snl_grammar.specs.declared.tree.expression.Suffix.TheVariants as suffixes
use Rattle.snl_grammar.specs.declared.tree.expression.Expr.{Expr}
use Rattle.snl_grammar.specs.Tokens.{NumberedKind}
use Rattle.snl_grammar.specs.Steps.{Reader, pure, expect, many}
use Rattle.snl_grammar.specs.Grammar.Base.{Each, First, Leaf}
use Rattle.snl_grammar.specs.Grammar.Expressions.{IsAfterComma, AreCommas, IsSequence, one, several, AreArguments, IsSuffix, subscript as is_subscript, call as is_call, member as is_member, arrow, increment, decrement}
use Rattle.snl_grammar.specs.Reading.Expressions.{next_comma, commas, sequenced, member, sequence, some_arguments, arguments_by, arguments, subscript, call, suffix_by, next_suffix}
use Rattle.snl_grammar.proofs.Viable.{Viable, Completable, Exists, Both, both, Next, Lists, IsNothing, bind_completable, into_completable, choice_viable, expect_completable, pure_completable, many_completable}
use Rattle.snl_grammar.proofs.TypeLaws.{word_completable, lists_each, none_next, first_then}
use Rattle.snl_grammar.proofs.CommasViable.{Int, more_commas, commas_completable}

module _ (free extra : ℕ) (Inner : Expr → List NumberedKind → List NumberedKind → Type 0) (inner : Reader Expr) (fi : Completable free extra inner Inner Int) where
  make_sequence : (x : Expr) (ys : List Expr) (k m rest : List NumberedKind) → Inner x k m → Each (IsAfterComma Inner) ys m rest → IsSequence Inner (sequenced x ys) k rest
  make_sequence x [] k m rest r e = one (subst (λ l. Inner x k l) e r)
  make_sequence x (y ∷ ys) k m rest r e = several x y ys m refl r e

  into_sequence : (y : Expr) (k rest : List NumberedKind) → Both Inner (λ x. Both (Lists (IsAfterComma Inner) []) (λ ys. IsNothing (sequenced x ys))) y k rest → IsSequence Inner y k rest
  into_sequence y k rest (both x m r (both ys m2 l h)) = subst (λ z. IsSequence Inner z k rest) h.0 (make_sequence x ys k m rest r (subst (λ q. Each (IsAfterComma Inner) ys m q) h.1 (lists_each (IsAfterComma Inner) ys m m2 l)))

  pub sequence_completable : Completable free extra (sequence inner) (IsSequence Inner) Int
  unfolding sequence
  sequence_completable = into_completable free extra (sequence inner) _ (IsSequence Inner) Int into_sequence (bind_completable free extra inner _ Inner (λ x. Both (Lists (IsAfterComma Inner) []) (λ ys. IsNothing (sequenced x ys))) Int [] fi (λ x. bind_completable free extra (many (next_comma inner) []) _ (Lists (IsAfterComma Inner) []) (λ ys. IsNothing (sequenced x ys)) [] [] (more_commas free extra Inner inner Int fi []) (λ ys. pure_completable free extra (sequenced x ys))))

module _ (free extra : ℕ) (Inner : Expr → List NumberedKind → List NumberedKind → Type 0) (inner : Reader Expr) (names : Reader TypeName) (fi : Completable free extra inner Inner Int) where
  -- after the opening bracket
  into_arguments : (ys : List Expr) (k mid rest : List NumberedKind) → AreCommas Inner ys k mid → First kind.CloseParen mid rest → AreArguments Inner ys k rest
  into_arguments [] k mid rest a f = absurd a
  into_arguments (y ∷ ys) k mid rest a f = (mid, a, f)

  into_some : (y : List Expr) (k rest : List NumberedKind) → Both (AreCommas Inner) (λ xs. Both (Leaf kind.CloseParen) (λ _. IsNothing xs)) y k rest → AreArguments Inner y k rest
  into_some y k rest (both xs m a (both n m2 e h)) = subst (λ z. AreArguments Inner z k rest) h.0 (into_arguments xs k m rest a (first_then kind.CloseParen n m m2 rest e h.1))

  some_viable : Viable free extra (some_arguments inner names) (AreArguments Inner) (Exists (AreArguments Inner))
  unfolding some_arguments
  some_viable = (into_completable free extra (some_arguments inner names) _ (AreArguments Inner) (kind.Integer ∷ kind.CloseParen ∷ []) into_some (bind_completable free extra (commas inner) _ (AreCommas Inner) (λ xs. Both (Leaf kind.CloseParen) (λ _. IsNothing xs)) Int (kind.CloseParen ∷ []) (commas_completable free extra Inner inner Int fi) (λ xs. bind_completable free extra (expect kind.CloseParen) _ (Leaf kind.CloseParen) (λ _. IsNothing xs) (kind.CloseParen ∷ []) [] (expect_completable free extra kind.CloseParen) (λ _. pure_completable free extra xs)))).viable

  arguments_by_viable : (o : Option Kind) → Viable free extra (arguments_by inner names o) (AreArguments Inner) (Exists (AreArguments Inner))
  arguments_by_viable (Some kind.CloseParen) = (word_completable free extra kind.CloseParen [] (AreArguments Inner) (λ k rest f. f)).viable
  arguments_by_viable _ = some_viable

  arguments_completable : Completable free extra (arguments inner names) (AreArguments Inner) (kind.CloseParen ∷ [])
  unfolding arguments
  arguments_completable = record { viable = choice_viable free extra (arguments_by inner names) (AreArguments Inner) (Exists (AreArguments Inner)) arguments_by_viable; makes = λ n rest room. ([], (n, refl)) }

  into_subscript : (y : Option Suffix) (k rest : List NumberedKind) → Both (Leaf kind.OpenBracket) (λ _. Both (IsSequence Inner) (λ x. Both (Leaf kind.CloseBracket) (λ _. IsNothing (Some (suffixes.Subscript x))))) y k rest → Next (IsSuffix Inner) y k rest
  into_subscript y k rest (both n m e (both x m2 s (both i m3 e2 h))) = subst (λ z. Next (IsSuffix Inner) z k rest) h.0 (is_subscript x m m2 refl (n, e) s (first_then kind.CloseBracket i m2 m3 rest e2 h.1))

  subscript_viable : Viable free extra (subscript inner names) (Next (IsSuffix Inner)) (Exists (Next (IsSuffix Inner)))
  unfolding subscript
  subscript_viable = (into_completable free extra (subscript inner names) _ (Next (IsSuffix Inner)) (kind.OpenBracket ∷ kind.Integer ∷ kind.CloseBracket ∷ []) into_subscript (bind_completable free extra (expect kind.OpenBracket) _ (Leaf kind.OpenBracket) (λ _. Both (IsSequence Inner) (λ x. Both (Leaf kind.CloseBracket) (λ _. IsNothing (Some (suffixes.Subscript x))))) (kind.OpenBracket ∷ []) (kind.Integer ∷ kind.CloseBracket ∷ []) (expect_completable free extra kind.OpenBracket) (λ _. bind_completable free extra (sequence inner) _ (IsSequence Inner) (λ x. Both (Leaf kind.CloseBracket) (λ _. IsNothing (Some (suffixes.Subscript x)))) Int (kind.CloseBracket ∷ []) (sequence_completable free extra Inner inner fi) (λ x. bind_completable free extra (expect kind.CloseBracket) _ (Leaf kind.CloseBracket) (λ _. IsNothing (Some (suffixes.Subscript x))) (kind.CloseBracket ∷ []) [] (expect_completable free extra kind.CloseBracket) (λ _. pure_completable free extra (Some (suffixes.Subscript x))))))).viable

  into_call : (y : Option Suffix) (k rest : List NumberedKind) → Both (Leaf kind.OpenParen) (λ _. Both (AreArguments Inner) (λ xs. IsNothing (Some (suffixes.Call xs)))) y k rest → Next (IsSuffix Inner) y k rest
  into_call y k rest (both n m e (both xs m2 a h)) = subst (λ z. Next (IsSuffix Inner) z k rest) h.0 (is_call xs m refl (n, e) (subst (λ l. AreArguments Inner xs m l) h.1 a))

  call_viable : Viable free extra (call inner names) (Next (IsSuffix Inner)) (Exists (Next (IsSuffix Inner)))
  unfolding call
  call_viable = (into_completable free extra (call inner names) _ (Next (IsSuffix Inner)) (kind.OpenParen ∷ kind.CloseParen ∷ []) into_call (bind_completable free extra (expect kind.OpenParen) _ (Leaf kind.OpenParen) (λ _. Both (AreArguments Inner) (λ xs. IsNothing (Some (suffixes.Call xs)))) (kind.OpenParen ∷ []) (kind.CloseParen ∷ []) (expect_completable free extra kind.OpenParen) (λ _. bind_completable free extra (arguments inner names) _ (AreArguments Inner) (λ xs. IsNothing (Some (suffixes.Call xs))) (kind.CloseParen ∷ []) [] arguments_completable (λ xs. pure_completable free extra (Some (suffixes.Call xs)))))).viable

  into_member : (x : Kind) (make : ℕ → Suffix) → ((n : ℕ) (k mid rest : List NumberedKind) → First x k mid → Leaf kind.Name n mid rest → IsSuffix Inner (make n) k rest) → (y : Option Suffix) (k rest : List NumberedKind) → Both (Leaf x) (λ _. Both (Leaf kind.Name) (λ n. IsNothing (Some (make n)))) y k rest → Next (IsSuffix Inner) y k rest
  into_member x make is y k rest (both i m e (both n m2 f h)) = subst (λ z. Next (IsSuffix Inner) z k rest) h.0 (is n k m rest (i, e) (f ∙ ap (λ (l : List NumberedKind). (kind.Name, n) ∷ l) h.1))

  member_viable : (x : Kind) (make : ℕ → Suffix) → ((n : ℕ) (k mid rest : List NumberedKind) → First x k mid → Leaf kind.Name n mid rest → IsSuffix Inner (make n) k rest) → Viable free extra (member x make) (Next (IsSuffix Inner)) (Exists (Next (IsSuffix Inner)))
  unfolding member
  member_viable x make is = (into_completable free extra (member x make) _ (Next (IsSuffix Inner)) (x ∷ kind.Name ∷ []) (into_member x make is) (bind_completable free extra (expect x) _ (Leaf x) (λ _. Both (Leaf kind.Name) (λ n. IsNothing (Some (make n)))) (x ∷ []) (kind.Name ∷ []) (expect_completable free extra x) (λ _. bind_completable free extra (expect kind.Name) _ (Leaf kind.Name) (λ n. IsNothing (Some (make n))) (kind.Name ∷ []) [] (expect_completable free extra kind.Name) (λ n. pure_completable free extra (Some (make n)))))).viable

  suffix_by_viable : (o : Option Kind) → Viable free extra (suffix_by inner names o) (Next (IsSuffix Inner)) (Exists (Next (IsSuffix Inner)))
  unfolding suffix_by
  suffix_by_viable (Some kind.OpenBracket) = subscript_viable
  suffix_by_viable (Some kind.OpenParen) = call_viable
  suffix_by_viable (Some kind.Dot) = member_viable kind.Dot suffixes.Member (λ n k mid rest f g. is_member n mid refl f g)
  suffix_by_viable (Some kind.Arrow) = member_viable kind.Arrow suffixes.Arrow (λ n k mid rest f g. arrow n mid refl f g)
  suffix_by_viable (Some kind.PlusPlus) = (word_completable free extra kind.PlusPlus (Some suffixes.Increment) (Next (IsSuffix Inner)) (λ k rest f. increment refl f)).viable
  suffix_by_viable (Some kind.MinusMinus) = (word_completable free extra kind.MinusMinus (Some suffixes.Decrement) (Next (IsSuffix Inner)) (λ k rest f. decrement refl f)).viable
  suffix_by_viable _ = (into_completable free extra (pure None) (IsNothing None) (Next (IsSuffix Inner)) [] (none_next (IsSuffix Inner)) (pure_completable free extra None)).viable

  next_suffix_viable : Viable free extra (next_suffix inner names) (Next (IsSuffix Inner)) (Exists (Next (IsSuffix Inner)))
  unfolding next_suffix
  next_suffix_viable = choice_viable free extra (suffix_by inner names) (Next (IsSuffix Inner)) (Exists (Next (IsSuffix Inner))) suffix_by_viable

  pub suffixes_completable : Completable free extra (many (next_suffix inner names) []) (Each (IsSuffix Inner)) []
  suffixes_completable = into_completable free extra (many (next_suffix inner names) []) (Lists (IsSuffix Inner) []) (Each (IsSuffix Inner)) [] (lists_each (IsSuffix Inner)) (many_completable free extra (IsSuffix Inner) (next_suffix inner names) next_suffix_viable [])
