-- Lists in braces are read again, and what may be there.
use Rattle.std.proofs.Common.{ℕ, Bool, true, false, List, [], ◌∷◌, ◌++◌, None, refl, sym, ap, subst, ◌∙◌, append_assoc}
use Rattle.snl_lex.specs.declared.kind.Kind.{Kind}
use Rattle.snl_lex.specs.declared.kind.Kind.TheVariants as kind
use Rattle.snl_grammar.specs.declared.step.Step.{Step}
use Rattle.snl_grammar.specs.declared.step.Step.TheVariants as steps
use Rattle.snl_grammar.specs.Tokens.{NumberedKind}
use Rattle.snl_grammar.specs.Steps.{Reader, until}
use Rattle.snl_grammar.specs.Grammar.Base.{Each, First}
use Rattle.snl_grammar.specs.Grammar.Types.{Written}
use Rattle.snl_grammar.specs.Grammar.Expressions.{IsAfterComma}
use Rattle.snl_grammar.proofs.Local.{EatsMore}
use Rattle.snl_grammar.proofs.Again.{ReadsBack, reads_back_as, until_more_reads_back, until_last_reads_back, first_heads, Heads}

-- a comma or a closing brace
abbrev pub goes_on : Kind → Bool
goes_on kind.Comma = true
goes_on kind.CloseBrace = true
goes_on _ = false

module _ (free : ℕ) {A : Type 0} (R : A → List NumberedKind → List NumberedKind → Type 0) (step : Reader (Step A Bool)) (eats : EatsMore step)
    (more : (x : A) (k m : List NumberedKind) → IsAfterComma R x k m → Heads goes_on m → ReadsBack free (step k) (steps.More x) m)
    (trailing : (k m rest : List NumberedKind) → First kind.Comma k m → First kind.CloseBrace m rest → ReadsBack free (step k) (steps.Last None true) m)
    (ends : (k rest : List NumberedKind) → First kind.CloseBrace k rest → ReadsBack free (step k) (steps.Last None false) k) where
  -- what comes after an element
  pub after_value : (xs : List A) (b : Bool) (k mid m2 rest : List NumberedKind) → Each (IsAfterComma R) xs k mid → Written kind.Comma b mid m2 → First kind.CloseBrace m2 rest → Heads goes_on k
  after_value (x ∷ xs) b k mid m2 rest each w c = first_heads kind.Comma goes_on k each.1.mid refl each.1.comma
  after_value [] true k mid m2 rest each w c = first_heads kind.Comma goes_on k m2 refl (subst (λ l. First kind.Comma l m2) (sym each) w)
  after_value [] false k mid m2 rest each w c = first_heads kind.CloseBrace goes_on k rest refl (subst (λ l. First kind.CloseBrace l rest) (sym (each ∙ w)) c)

  pub values_reads_back : (found xs : List A) (b : Bool) (k mid m2 rest : List NumberedKind) → Each (IsAfterComma R) xs k mid → Written kind.Comma b mid m2 → First kind.CloseBrace m2 rest → ReadsBack free (until step found k) (found ++ xs, b) m2
  values_reads_back found [] false k mid m2 rest each w c =
      let here : First kind.CloseBrace k rest = subst (λ l. First kind.CloseBrace l rest) (sym (each ∙ w)) c in
      subst (λ l. ReadsBack free (until step found k) (found ++ [], false) l) (each ∙ w) (until_last_reads_back free step eats found k None false k (ends k rest here))
  values_reads_back found [] true k mid m2 rest each w c =
      until_last_reads_back free step eats found k None true m2 (trailing k m2 rest (subst (λ l. First kind.Comma l m2) (sym each) w) c)
  values_reads_back found (x ∷ xs) b k mid m2 rest each w c =
      let h = values_reads_back (found ++ x ∷ []) xs b each.0 mid m2 rest each.2 w c in
      until_more_reads_back free step eats found k x each.0 (found ++ x ∷ xs, b) m2 (more x k each.0 each.1 (after_value xs b each.0 mid m2 rest each.2 w c))
      (reads_back_as free (until step (found ++ x ∷ []) each.0) ((found ++ x ∷ []) ++ xs, b) (found ++ x ∷ xs, b) m2 (ap (λ (l : List A). (l, b)) (append_assoc found (x ∷ []) xs)) h)
