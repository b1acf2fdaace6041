-- Operators and their operand can be completed where a reader fails, and what it took is in the
-- grammar.
use Rattle.std.proofs.Common.{◌≡◌, ℕ, zero, suc, Bool, false, List, [], ◌∷◌, ◌++◌, length, Option, Some, None, Ok, Err, refl, sym, ap, subst, ◌∙◌, append_assoc}
use Rattle.std.specs.Prelude.{option_to_list}
use Rattle.std.proofs.lemmas.List.{append-nil}
use Rattle.snl_lex.specs.declared.kind.Kind.{Kind}
use Rattle.snl_lex.specs.declared.kind.Kind.TheVariants as kind
use Rattle.snl_grammar.specs.declared.step.Step.{Step}
use Rattle.snl_grammar.specs.declared.step.Step.TheVariants as steps
use Rattle.snl_grammar.specs.declared.tree.types.TypeName.{TypeName}
use Rattle.snl_grammar.specs.declared.tree.expression.Prefix.{Prefix}
use Rattle.snl_grammar.specs.declared.tree.expression.Prefix.TheVariants as prefixes
use Rattle.snl_grammar.specs.declared.tree.expression.Suffix.{Suffix}
use Rattle.snl_grammar.specs.declared.tree.expression.Expr.{Expr}
use Rattle.snl_grammar.specs.Tokens.{NumberedKind}
use Rattle.snl_grammar.specs.Steps.{Reader, until_within, again_or, many, until}
use Rattle.snl_grammar.specs.Grammar.Base.{Each, First}
use Rattle.snl_grammar.specs.Grammar.Expressions.{IsPrimary, IsSuffix, IsPostfix, bare as bare_postfix, suffixed as is_suffixed, sizeof as is_size, is_sizeof, AreOperators, IsPrefix, bare as bare_prefix, prefixed as is_prefixed}
use Rattle.snl_grammar.specs.Reading.Expressions.{suffixed, prefixed, next_suffix, prefix_step, prefix}
use Rattle.snl_grammar.proofs.Local.{bind_ok, bind_err, ok_is, err_is}
use Rattle.snl_grammar.proofs.Viable.{Free, Completable, Exists, Both, both, IsNothing, numbered_kinds, bind_completable, into_completable, pure_completable}
use Rattle.snl_grammar.proofs.CommasViable.{Int}
use Rattle.snl_grammar.proofs.SuffixViable.{suffixes_completable}
use Rattle.snl_grammar.proofs.AtomViable.{Operand, Operation, step_makes}
use Rattle.snl_grammar.proofs.StepViable.{Ready, step_takes, step_stuck, step_ready}

module _ (free extra : ℕ) (Inner : Expr → List NumberedKind → List NumberedKind → Type 0) (Names : TypeName → List NumberedKind → List NumberedKind → Type 0) (inner : Reader Expr) (names : Reader TypeName) (fi : Completable free extra inner Inner Int) (fn : Completable free extra names Names (kind.Int ∷ [])) where
  abbrev Operated : Bool → List Prefix → List Prefix × Expr → List NumberedKind → List NumberedKind → Type 0
  Operated b found r k rest = (xs : List Prefix) × (o : Option Prefix) × (mid : List NumberedKind) × (r.0 ≡ found ++ (xs ++ option_to_list o)) × AreOperators Names b xs k mid × Operand Inner Names o r.1 mid rest

  after_takes : (n : ℕ) (b : Bool) → ((c : Bool) (l : List Prefix) (k : List NumberedKind) (r : List Prefix × Expr) (m : List NumberedKind) → Ready c k → until_within (prefix_step inner names) n l k ≡ Ok (r, m) → (front : List NumberedKind) × (k ≡ front ++ m) × ((after : List NumberedKind) → Operated c l r (front ++ after) after)) → (found : List Prefix) (s : Step Prefix Expr) (k m' : List NumberedKind) (r : List Prefix × Expr) (m : List NumberedKind) → Ready b k → prefix_step inner names k ≡ Ok (s, m') → again_or found (until_within (prefix_step inner names) n) s m' ≡ Ok (r, m) → (front : List NumberedKind) × (k ≡ front ++ m) × ((after : List NumberedKind) → Operated b found r (front ++ after) after)
  after_takes n b go found (steps.More x) k m' r m ready e1 e2 =
      let u = step_takes free extra Inner Names inner names fi fn b k (steps.More x) m' ready e1 in
      let w = go (is_sizeof x) (found ++ x ∷ []) m' r m (step_ready inner names k x m' e1) e2 in (
        u.0 ++ w.0,
        u.1 ∙ ap (λ (l : List NumberedKind). u.0 ++ l) w.1 ∙ sym (append_assoc u.0 w.0 m),
        λ after.
            let a = w.2 after in
            let h : Operated b found r (u.0 ++ (w.0 ++ after)) after = (x ∷ a.0, a.1, a.2, a.3 ∙ append_assoc found (x ∷ []) (a.0 ++ option_to_list a.1), (w.0 ++ after, u.2 (w.0 ++ after), a.4), a.5) in
            subst (λ (l : List NumberedKind). Operated b found r l after) (sym (append_assoc u.0 w.0 after)) h,
      )
  after_takes n b go found (steps.Last o y) k m' r m ready e1 e2 =
      let u = step_takes free extra Inner Names inner names fi fn b k (steps.Last o y) m' ready e1 in
      let w = ok_is (found ++ option_to_list o, y) r m' m e2 in
      (u.0, u.1 ∙ ap (λ (l : List NumberedKind). u.0 ++ l) w.1, λ after. ([], o, u.0 ++ after, sym (ap (λ (q : List Prefix × Expr). q.0) w.0), refl, subst (λ (q : List Prefix × Expr). Operand Inner Names o q.1 (u.0 ++ after) after) w.0 (u.2 after)))

  after_stuck : (n : ℕ) (b : Bool) → ((c : Bool) (l : List Prefix) (k j : List NumberedKind) → Ready c k → until_within (prefix_step inner names) n l k ≡ Err j → (front : List NumberedKind) × (more : List Kind) × (k ≡ front ++ j) × ((i : ℕ) (rest : List NumberedKind) → Free free extra (numbered_kinds i more ++ rest) → Operation Inner Names c (front ++ (numbered_kinds i more ++ rest)) rest)) → (found : List Prefix) (s : Step Prefix Expr) (k m j : List NumberedKind) → Ready b k → prefix_step inner names k ≡ Ok (s, m) → again_or found (until_within (prefix_step inner names) n) s m ≡ Err j → (front : List NumberedKind) × (more : List Kind) × (k ≡ front ++ j) × ((i : ℕ) (rest : List NumberedKind) → Free free extra (numbered_kinds i more ++ rest) → Operation Inner Names b (front ++ (numbered_kinds i more ++ rest)) rest)
  after_stuck n b go found (steps.More x) k m j ready e1 e2 =
      let u = step_takes free extra Inner Names inner names fi fn b k (steps.More x) m ready e1 in
      let w = go (is_sizeof x) (found ++ x ∷ []) m j (step_ready inner names k x m e1) e2 in (
        u.0 ++ w.0,
        w.1,
        u.1 ∙ ap (λ (l : List NumberedKind). u.0 ++ l) w.2 ∙ sym (append_assoc u.0 w.0 j),
        λ i rest room.
            let after : List NumberedKind = w.0 ++ (numbered_kinds i w.1 ++ rest) in
            let a = w.3 i rest room in
            let h : Operation Inner Names b (u.0 ++ after) rest = (x ∷ a.0, a.1, a.2, a.3, (after, u.2 after, a.4), a.5) in
            subst (λ (l : List NumberedKind). Operation Inner Names b l rest) (sym (append_assoc u.0 w.0 (numbered_kinds i w.1 ++ rest))) h,
      )
  after_stuck n b go found (steps.Last o y) k m j ready e1 e2 = absurd cc

  operators_take : (n : ℕ) (b : Bool) (found : List Prefix) (k : List NumberedKind) (r : List Prefix × Expr) (m : List NumberedKind) → Ready b k → until_within (prefix_step inner names) n found k ≡ Ok (r, m) → (front : List NumberedKind) × (k ≡ front ++ m) × ((after : List NumberedKind) → Operated b found r (front ++ after) after)
  unfolding until_within
  operators_take zero b found k r m ready e = absurd cc
  operators_take (suc n) b found k r m ready e = bind_ok (prefix_step inner names k) (again_or found (until_within (prefix_step inner names) n)) (r, m) e (λ s m' e1 e2. after_takes n b (λ c l. operators_take n c l) found s k m' r m ready e1 e2)

  operators_stuck : (n : ℕ) (b : Bool) (found : List Prefix) (k j : List NumberedKind) → Ready b k → until_within (prefix_step inner names) n found k ≡ Err j → (front : List NumberedKind) × (more : List Kind) × (k ≡ front ++ j) × ((i : ℕ) (rest : List NumberedKind) → Free free extra (numbered_kinds i more ++ rest) → Operation Inner Names b (front ++ (numbered_kinds i more ++ rest)) rest)
  unfolding until_within
  operators_stuck zero b found k j ready e = ([], Int, err_is k j e, λ i rest room. step_makes free extra Inner Names b i rest room)
  operators_stuck (suc n) b found k j ready e = bind_err (prefix_step inner names k) (again_or found (until_within (prefix_step inner names) n)) j e (λ e1. step_stuck free extra Inner Names inner names fi fn b k j ready e1) (λ s m e1 e2. after_stuck n b (λ c l. operators_stuck n c l) found s k m j ready e1 e2)

  -- operators and the primary that ends them
  abbrev Operators : List Prefix × Expr → List NumberedKind → List NumberedKind → Type 0
  Operators r k rest = (mid : List NumberedKind) × AreOperators Names false r.0 k mid × IsPrimary Inner Names r.1 mid rest

  one_more : (b : Bool) (xs : List Prefix) (k mid m2 : List NumberedKind) → AreOperators Names b xs k mid → First kind.Sizeof mid m2 → AreOperators Names b (xs ++ prefixes.Sizeof ∷ []) k m2
  one_more b [] k mid m2 e f = (m2, is_size refl (subst (λ l. First kind.Sizeof l m2) (sym e) f), refl)
  one_more b (x ∷ xs) k mid m2 e f = (e.0, e.1, one_more (is_sizeof x) xs e.0 mid m2 e.2 f)

  with_last : (xs : List Prefix) (o : Option Prefix) (y : Expr) (k mid rest : List NumberedKind) → AreOperators Names false xs k mid → Operand Inner Names o y mid rest → Operators (xs ++ option_to_list o, y) k rest
  with_last xs None y k mid rest a h = (mid, subst (λ l. AreOperators Names false l k mid) (sym (append-nil xs)) a, h)
  with_last xs (Some op) y k mid rest a h = (h.0, subst (λ p. AreOperators Names false (xs ++ p ∷ []) k h.0) (sym h.1) (one_more false xs k mid h.0 a h.2), h.3)

  into_operators : (r : List Prefix × Expr) (k rest : List NumberedKind) → Operated false [] r k rest → Operators r k rest
  into_operators r k rest h = subst (λ l. Operators (l, r.1) k rest) (sym h.3) (with_last h.0 h.1 r.1 k h.2 rest h.4 h.5)

  aim_operators : (k rest : List NumberedKind) → Operation Inner Names false k rest → Exists Operators k rest
  aim_operators k rest h = ((h.0 ++ option_to_list h.1, h.2), with_last h.0 h.1 h.2 k h.3 rest h.4 h.5)

  unready : (k : List NumberedKind) → Ready false k
  unready k h q = absurd cc

  operators_completable : Completable free extra (until (prefix_step inner names) []) Operators Int
  unfolding until
  operators_completable = record {
    viable = record {
      takes = λ k r m e. let t = operators_take (suc (length k)) false [] k r m (unready k) e in (t.0, t.1, λ after. into_operators r (t.0 ++ after) after (t.2 after));
      stuck = λ k j e. let t = operators_stuck (suc (length k)) false [] k j (unready k) e in (t.0, t.1, t.2, λ n rest room. aim_operators (t.0 ++ (numbered_kinds n t.1 ++ rest)) rest (t.3 n rest room));
    };
    makes = λ n rest room. aim_operators (numbered_kinds n Int ++ rest) rest (step_makes free extra Inner Names false n rest room);
  }

  make_postfix : (x : Expr) (ss : List Suffix) (k mid rest : List NumberedKind) → IsPrimary Inner Names x k mid → Each (IsSuffix Inner) ss mid rest → IsPostfix Inner Names (suffixed x ss) k rest
  make_postfix x [] k mid rest p e = bare_postfix (subst (λ l. IsPrimary Inner Names x k l) e p)
  make_postfix x (s ∷ ss) k mid rest p e = is_suffixed x s ss mid refl p e

  make_prefix : (ops : List Prefix) (x : Expr) (k mid rest : List NumberedKind) → AreOperators Names false ops k mid → IsPostfix Inner Names x mid rest → IsPrefix Inner Names (prefixed ops x) k rest
  make_prefix [] x k mid rest e p = bare_prefix (subst (λ l. IsPostfix Inner Names x l rest) (sym e) p)
  make_prefix (op ∷ ops) x k mid rest e p = is_prefixed op ops x mid refl e p

  into_prefix : (y : Expr) (k rest : List NumberedKind) → Both Operators (λ r. Both (Each (IsSuffix Inner)) (λ ss. IsNothing (prefixed r.0 (suffixed r.1 ss)))) y k rest → IsPrefix Inner Names y k rest
  into_prefix y k rest (both r m h (both ss m2 e q)) = subst (λ z. IsPrefix Inner Names z k rest) q.0 (make_prefix r.0 (suffixed r.1 ss) k h.0 rest h.1 (make_postfix r.1 ss h.0 m rest h.2 (subst (λ l. Each (IsSuffix Inner) ss m l) q.1 e)))

  pub prefix_completable : Completable free extra (prefix inner names) (IsPrefix Inner Names) Int
  unfolding prefix
  prefix_completable = into_completable free extra (prefix inner names) _ (IsPrefix Inner Names) Int into_prefix (bind_completable free extra (until (prefix_step inner names) []) _ Operators (λ r. Both (Each (IsSuffix Inner)) (λ ss. IsNothing (prefixed r.0 (suffixed r.1 ss)))) Int [] operators_completable (λ r. bind_completable free extra (many (next_suffix inner names) []) _ (Each (IsSuffix Inner)) (λ ss. IsNothing (prefixed r.0 (suffixed r.1 ss))) [] [] (suffixes_completable free extra Inner inner names fi) (λ ss. pure_completable free extra (prefixed r.0 (suffixed r.1 ss)))))
