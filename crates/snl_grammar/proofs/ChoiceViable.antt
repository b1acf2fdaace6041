-- Chains of `if` can be completed where a reader fails, and are closed where an `else` comes next.
use Rattle.std.proofs.Common.{◌≡◌, ℕ, zero, suc, Bool, true, false, List, [], ◌∷◌, ◌++◌, length, Option, Some, None, Ok, Err, refl, sym, ap, subst, ◌∙◌, append_assoc, inl, inr, ◌⊎◌}
use Rattle.std.specs.Prelude.{option_to_list}
use Rattle.snl_lex.specs.declared.kind.Kind.{Kind}
use Rattle.snl_lex.specs.declared.kind.Kind.TheVariants as kind
use Rattle.snl_grammar.specs.declared.step.Step.TheVariants as steps
use Rattle.snl_grammar.specs.declared.tree.expression.Expr.{Expr}
use Rattle.snl_grammar.specs.declared.tree.statement.Stmt.{Stmt}
use Rattle.snl_grammar.specs.declared.tree.statement.Stmt.TheVariants as tree
use Rattle.snl_grammar.specs.Tokens.{NumberedKind}
use Rattle.snl_grammar.specs.Steps.{Outcome, Reader, pure, kind_at, again_or, until_within, until}
use Rattle.snl_grammar.specs.Grammar.Base.{Each}
use Rattle.snl_grammar.specs.Grammar.Expressions.{IsExpr}
use Rattle.snl_grammar.specs.Grammar.Declarations.{IsDeclaration}
use Rattle.snl_grammar.specs.Grammar.Statements.{Place, may_be_choice, IsBody, IsArm, IsPassed, IsLast, choice as is_choice}
use Rattle.snl_grammar.specs.Reading.Declarations.{declaration}
use Rattle.snl_grammar.specs.Reading.Statements.{after_else, else_by, arm, arm_step, choice}
use Rattle.snl_grammar.proofs.Local.{bind_ok, bind_err, ok_is}
use Rattle.snl_grammar.proofs.Viable.{Free, Makes, Viable, Completable, Exists, Both, both, IsNothing, StepOf, Ends, Whole, numbered_kinds, bind_completable, into_completable, lighter, pure_completable, until_viable}
use Rattle.snl_grammar.proofs.TypeLaws.{first_then}
use Rattle.snl_grammar.proofs.BeforeViable.{Semi}
use Rattle.snl_grammar.proofs.Shuts.{Shut, into_shut, map_shut}
use Rattle.snl_grammar.proofs.SimpleViable.{S}
use Rattle.snl_grammar.proofs.LoopViable.{allowed, Round}
use Rattle.snl_grammar.proofs.BranchViable.{Stepping, ends_alone, After, Aim, arm_completable, arm_shut, after_viable, after_shut}

module _ (free extra depth : ℕ) (Inner : Place → Bool → Stmt → List NumberedKind → List NumberedKind → Type 0) (D : List Kind) (declares : Completable free extra (declaration depth) (IsDeclaration free extra depth) D) (inner : Reader Stmt) (at : Place → Reader Stmt) (same : (p : Place) (k : List NumberedKind) → allowed p (kind_at k) ≡ true → inner k ≡ at p k) (full : (p : Place) → Completable free extra (at p) (Inner p false) Semi) (shut : (p : Place) → Shut (at p) (Inner p true)) where
  abbrev B : Place → Bool → Stmt → List NumberedKind → List NumberedKind → Type 0
  B = IsBody (IsDeclaration free extra depth) Inner

  abbrev A : Bool → Expr × Stmt → List NumberedKind → List NumberedKind → Type 0
  A = IsArm (IsExpr free extra depth) (IsDeclaration free extra depth) Inner

  abbrev T : Place → Bool → Stmt → List NumberedKind → List NumberedKind → Type 0
  T = S free extra depth Inner

  abbrev P : Expr × Stmt → List NumberedKind → List NumberedKind → Type 0
  P = IsPassed (IsExpr free extra depth) (IsDeclaration free extra depth) Inner

  abbrev LastOf : Bool → Option (Expr × Stmt) → Option Stmt → List NumberedKind → List NumberedKind → Type 0
  LastOf closed None t k rest = ⊥
  LastOf closed (Some a) t k rest = IsLast (IsExpr free extra depth) (IsDeclaration free extra depth) Inner closed a t k rest

  abbrev W : List NumberedKind → List NumberedKind → Type 0
  W = Whole P (LastOf false)

  joins : (closed : Bool) (a : Expr × Stmt) (y : Stepping) (k m rest : List NumberedKind) → A true a k m → After free extra depth Inner closed a y m rest → StepOf P (LastOf closed) y k rest
  joins closed a (steps.More b) k m rest r (both n m2 e h) = subst (λ z. P z k rest) h.0 (record { mid = m; front = r; word = first_then kind.Else n m m2 rest e h.1 })
  joins closed a (steps.Last o None) k m rest r (both n m2 e h) = absurd h
  joins closed a (steps.Last o (Some s)) k m rest r (both n m2 e h) = subst (λ z. LastOf closed z (Some s) k rest) h.0 (m, r, record { mid = m2; word = (n, e); body = h.1 })

  abbrev Took : {X : Type 0} → (X → List NumberedKind → List NumberedKind → Type 0) → X → List NumberedKind → List NumberedKind → Type 0
  Took Rel x k m = (front : List NumberedKind) × (k ≡ front ++ m) × ((after : List NumberedKind) → Rel x (front ++ after) after)

  combine : (closed : Bool) (a : Expr × Stmt) (y : Stepping) (k m' m : List NumberedKind) → Took (A true) a k m' → Took (After free extra depth Inner closed a) y m' m → Took (StepOf P (LastOf closed)) y k m
  combine closed a y k m' m u v = (
    u.0 ++ v.0,
    u.1 ∙ ap (λ (l : List NumberedKind). u.0 ++ l) v.1 ∙ sym (append_assoc u.0 v.0 m),
    λ after.
        subst (λ (l : List NumberedKind). StepOf P (LastOf closed) y l after) (sym (append_assoc u.0 v.0 after)) (joins closed a y (u.0 ++ (v.0 ++ after)) (v.0 ++ after) after (u.2 (v.0 ++ after)) (v.2 after)),
  )

  abbrev sees_else : Option Kind → Bool
  sees_else (Some kind.Else) = true
  sees_else _ = false

  is_else : (a : Expr × Stmt) (o : Option Kind) → (o ≡ Some kind.Else) ⊎ ((sees_else o ≡ false) × (else_by depth inner a o ≡ pure (ends_alone a)))
  is_else a (Some kind.Else) = inl refl
  is_else a _ = inr (refl, refl)

  else_is : (a : Expr × Stmt) (m : List NumberedKind) (r : Outcome Stepping) → kind_at m ≡ Some kind.Else → else_by depth inner a (kind_at m) m ≡ r → after_else depth inner a m ≡ r
  else_is a m r h e = sym (ap (λ o. else_by depth inner a o m) h) ∙ e

  alone_is : (a : Expr × Stmt) (m : List NumberedKind) (r : Outcome Stepping) → else_by depth inner a (kind_at m) ≡ pure (ends_alone a) → else_by depth inner a (kind_at m) m ≡ r → pure (ends_alone a) m ≡ r
  alone_is a m r h e = sym (ap (λ (p : Reader Stepping). p m) h) ∙ e

  step_takes : (k : List NumberedKind) (y : Stepping) (m : List NumberedKind) → arm_step depth inner k ≡ Ok (y, m) → Took (StepOf P (LastOf false)) y k m
  unfolding arm_step
  step_takes k y m e = bind_ok (arm depth inner k) _ (y, m) e (λ a m' e1 e2.
      elim (is_else a (kind_at m')) [
        | inl h ↦ combine false a y k m' m ((arm_shut free extra depth Inner D declares inner at same full shut).shuts k a m' e1 h) ((after_viable free extra depth Inner D declares inner at same full shut a).takes m' y m (else_is a m' (Ok (y, m)) h e2))
        | inr h ↦
            let v = ok_is (ends_alone a) y m' m (alone_is a m' (Ok (y, m)) h.1 e2) in
            let t = (arm_completable free extra depth Inner D declares inner at same full shut).viable.takes k a m' e1 in
            (t.0, t.1 ∙ ap (λ (l : List NumberedKind). t.0 ++ l) v.1, λ after. subst (λ z. StepOf P (LastOf false) z (t.0 ++ after) after) v.0 (refl, t.2 after))
      ])

  step_shuts : (k : List NumberedKind) (y : Stepping) (m : List NumberedKind) → arm_step depth inner k ≡ Ok (y, m) → kind_at m ≡ Some kind.Else → Took (StepOf P (LastOf true)) y k m
  unfolding arm_step
  step_shuts k y m e w = bind_ok (arm depth inner k) _ (y, m) e (λ a m' e1 e2.
      elim (is_else a (kind_at m')) [
        | inl h ↦ combine true a y k m' m ((arm_shut free extra depth Inner D declares inner at same full shut).shuts k a m' e1 h) ((after_shut free extra depth Inner D declares inner at same full shut a).shuts m' y m (else_is a m' (Ok (y, m)) h e2) w)
        | inr h ↦
            let v = ok_is (ends_alone a) y m' m (alone_is a m' (Ok (y, m)) h.1 e2) in
            let seen : sees_else (kind_at m') ≡ true = ap (λ (l : List NumberedKind). sees_else (kind_at l)) v.1 ∙ ap sees_else w in
            let no : true ≡ false = sym seen ∙ h.0 in
            absurd cc
      ])

  alone_whole : (a : Expr × Stmt) (k rest : List NumberedKind) → A false a k rest → W k rest
  alone_whole a k rest r = ([], Some a, None, k, refl, (refl, r))

  else_whole : (a : Expr × Stmt) (k m rest : List NumberedKind) → A true a k m → Aim free extra depth Inner m rest → W k rest
  else_whole a k m rest r j = ([], Some a, Some j.3.0, k, refl, (m, r, record { mid = j.1; word = (j.0, j.2); body = j.3.1 }))

  step_stuck : (k j : List NumberedKind) → arm_step depth inner k ≡ Err j → (front : List NumberedKind) × (more : List Kind) × (k ≡ front ++ j) × ((n : ℕ) (rest : List NumberedKind) → Free free extra (numbered_kinds n more ++ rest) → W (front ++ (numbered_kinds n more ++ rest)) rest)
  unfolding arm_step
  step_stuck k j e = bind_err (arm depth inner k) _ j e
      (λ e1.
      let u = (arm_completable free extra depth Inner D declares inner at same full shut).viable.stuck k j e1 in
      (u.0, u.1, u.2, λ n rest room. let x = u.3 n rest room in alone_whole x.0 (u.0 ++ (numbered_kinds n u.1 ++ rest)) rest x.1))
      (λ a m e1 e2.
      elim (is_else a (kind_at m)) [
        | inl h ↦
            let u = (arm_shut free extra depth Inner D declares inner at same full shut).shuts k a m e1 h in
            let v = (after_viable free extra depth Inner D declares inner at same full shut a).stuck m j (else_is a m (Err j) h e2) in (
              u.0 ++ v.0,
              v.1,
              u.1 ∙ ap (λ (l : List NumberedKind). u.0 ++ l) v.2 ∙ sym (append_assoc u.0 v.0 j),
              λ n rest room.
                  let after : List NumberedKind = v.0 ++ (numbered_kinds n v.1 ++ rest) in
                  subst (λ (l : List NumberedKind). W l rest) (sym (append_assoc u.0 v.0 (numbered_kinds n v.1 ++ rest))) (else_whole a (u.0 ++ after) after rest (u.2 after) (v.3 n rest room)),
            )
        | inr h ↦ let no = alone_is a m (Err j) h.1 e2 in absurd cc
      ])

  step_viable : Viable free extra (arm_step depth inner) (StepOf P (LastOf false)) W
  step_viable = record { takes = step_takes; stuck = step_stuck }

  abbrev If : List Kind
  If = kind.If ∷ (Round ++ Semi)

  step_makes : Makes free extra W If
  step_makes n rest room = let t = (arm_completable free extra depth Inner D declares inner at same full shut).makes n rest room in alone_whole t.0 (numbered_kinds n If ++ rest) rest t.1

  whole_ends : (k rest : List NumberedKind) → W k rest → Exists (Ends P (LastOf false) []) k rest
  whole_ends k rest h = ((h.0 ++ option_to_list h.1, h.2), (h.0, h.1, h.3, refl, h.4, h.5))

  arms_completable : Completable free extra (until (arm_step depth inner) []) (Ends P (LastOf false) []) If
  arms_completable = record {
    viable = lighter free extra (until (arm_step depth inner) []) (Ends P (LastOf false) []) (Ends P (LastOf false) []) W (Exists (Ends P (LastOf false) [])) (λ x k rest h. h) whole_ends (until_viable free extra P (LastOf false) (arm_step depth inner) If step_viable step_makes []);
    makes = λ n rest room. whole_ends (numbered_kinds n If ++ rest) rest (step_makes n rest room);
  }

  abbrev All : Type 0
  All = List (Expr × Stmt) × Option Stmt

  last_ends : (found : List (Expr × Stmt)) (o : Option (Expr × Stmt)) (y : Option Stmt) (r : All) (k rest : List NumberedKind) → LastOf true o y k rest → (found ++ option_to_list o, y) ≡ r → Ends P (LastOf true) found r k rest
  last_ends found o y r k rest l e = ([], o, k, sym (ap (λ (q : All). q.0) e), refl, subst (λ (q : All). LastOf true o q.1 k rest) e l)

  more_ends : (found : List (Expr × Stmt)) (x : Expr × Stmt) (r : All) (k m rest : List NumberedKind) → P x k m → Ends P (LastOf true) (found ++ x ∷ []) r m rest → Ends P (LastOf true) found r k rest
  more_ends found x r k m rest h a = (x ∷ a.0, a.1, a.2, a.3 ∙ append_assoc found (x ∷ []) (a.0 ++ option_to_list a.1), (m, h, a.4), a.5)

  next_shuts : (n : ℕ) → ((found : List (Expr × Stmt)) (k : List NumberedKind) (r : All) (m : List NumberedKind) → until_within (arm_step depth inner) n found k ≡ Ok (r, m) → kind_at m ≡ Some kind.Else → Took (Ends P (LastOf true) found) r k m) → (found : List (Expr × Stmt)) (s : Stepping) (k m' : List NumberedKind) (r : All) (m : List NumberedKind) → arm_step depth inner k ≡ Ok (s, m') → again_or found (until_within (arm_step depth inner) n) s m' ≡ Ok (r, m) → kind_at m ≡ Some kind.Else → Took (Ends P (LastOf true) found) r k m
  next_shuts n go found (steps.More x) k m' r m e1 e2 h =
      let u = step_takes k (steps.More x) m' e1 in
      let w = go (found ++ x ∷ []) m' r m e2 h in (
        u.0 ++ w.0,
        u.1 ∙ ap (λ (l : List NumberedKind). u.0 ++ l) w.1 ∙ sym (append_assoc u.0 w.0 m),
        λ after.
            subst (λ (l : List NumberedKind). Ends P (LastOf true) found r l after) (sym (append_assoc u.0 w.0 after)) (more_ends found x r (u.0 ++ (w.0 ++ after)) (w.0 ++ after) after (u.2 (w.0 ++ after)) (w.2 after)),
      )
  next_shuts n go found (steps.Last o y) k m' r m e1 e2 h =
      let w = ok_is (found ++ option_to_list o, y) r m' m e2 in
      let u = step_shuts k (steps.Last o y) m' e1 (ap kind_at w.1 ∙ h) in
      (u.0, u.1 ∙ ap (λ (l : List NumberedKind). u.0 ++ l) w.1, λ after. last_ends found o y r (u.0 ++ after) after (u.2 after) w.0)

  arms_within : (n : ℕ) (found : List (Expr × Stmt)) (k : List NumberedKind) (r : All) (m : List NumberedKind) → until_within (arm_step depth inner) n found k ≡ Ok (r, m) → kind_at m ≡ Some kind.Else → Took (Ends P (LastOf true) found) r k m
  unfolding until_within
  arms_within zero found k r m e h = absurd cc
  arms_within (suc n) found k r m e h = bind_ok (arm_step depth inner k) _ (r, m) e (λ s m' e1 e2. next_shuts n (arms_within n) found s k m' r m e1 e2 h)

  arms_shut : Shut (until (arm_step depth inner) []) (Ends P (LastOf true) [])
  unfolding until
  arms_shut = record { shuts = λ k r m e h. arms_within (suc (length k)) [] k r m e h }

  module _ (place : Place) where
    choice_of : (closed : Bool) → may_be_choice place ≡ true → (arms : List (Expr × Stmt)) (branch : Option Stmt) (xs : List (Expr × Stmt)) (o : Option (Expr × Stmt)) (k mid rest : List NumberedKind) → arms ≡ xs ++ option_to_list o → Each P xs k mid → LastOf closed o branch mid rest → T place closed (tree.If arms branch) k rest
    choice_of closed may arms branch xs None k mid rest e each l = absurd l
    choice_of closed may arms branch xs (Some a) k mid rest e each l = is_choice xs a branch mid may (ap (λ (q : List (Expr × Stmt)). tree.If q branch) e) each l

    into_choice : (closed : Bool) → may_be_choice place ≡ true → (y : Stmt) (k rest : List NumberedKind) → Both (Ends P (LastOf closed) []) (λ r. IsNothing (tree.If r.0 r.1)) y k rest → T place closed y k rest
    into_choice closed may y k rest (both r m a h) = subst (λ z. T place closed z k rest) h.0 (choice_of closed may r.0 r.1 a.0 a.1 k a.2 rest a.3 a.4 (subst (λ q. LastOf closed a.1 r.1 a.2 q) h.1 a.5))

    pub choice_completable : may_be_choice place ≡ true → Completable free extra (choice depth inner) (T place false) If
    unfolding choice
    choice_completable may = into_completable free extra (choice depth inner) (Both (Ends P (LastOf false) []) (λ r. IsNothing (tree.If r.0 r.1))) (T place false) If (into_choice false may) (bind_completable free extra (until (arm_step depth inner) []) _ (Ends P (LastOf false) []) (λ r. IsNothing (tree.If r.0 r.1)) If [] arms_completable (λ r. pure_completable free extra (tree.If r.0 r.1)))

    pub choice_is_shut : may_be_choice place ≡ true → Shut (choice depth inner) (T place true)
    unfolding choice
    choice_is_shut may = into_shut (choice depth inner) (Both (Ends P (LastOf true) []) (λ r. IsNothing (tree.If r.0 r.1))) (T place true) (into_choice true may) (map_shut (until (arm_step depth inner) []) (λ r. tree.If r.0 r.1) (Ends P (LastOf true) []) arms_shut)
