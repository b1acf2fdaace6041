-- A test of the clauses of outlines, in flat lists.
use Rattle.std.proofs.Common.{◌≡◌, ℕ, ◌||◌, Bool, List, [], ◌∷◌, length, map, take, drop, refl, sym, ap, ap₂, ◌∙◌, arith}
use Rattle.std.specs.List.{list_any}
use Rattle.std.proofs.lemmas.List.{length-drop, take-append-drop}
use Rattle.std.proofs.lemmas.List.Folds.{list_any-append}
use Rattle.snl_scope.specs.declared.outlines.flat.FlatClause.{FlatClause}
use Rattle.snl_scope.specs.declared.outlines.flat.FlatDeclared.{FlatDeclared}
use Rattle.snl_scope.specs.declared.outlines.flat.FlatOutline.{FlatOutline}
use Rattle.snl_summary.specs.declared.summary.VariableClause.{VariableClause}
use Rattle.snl_scope.specs.OutlineList.{clause_by, clauses_in, outlines_by}

any_mapped : {X Y : Type 0} (p : Y → Bool) (f : X → Y) (xs : List X) → list_any p (map f xs) ≡ list_any (λ x. p (f x)) xs
any_mapped p f [] = refl
any_mapped p f (x ∷ xs) = ap (λ (b : Bool). p (f x) || b) (any_mapped p f xs)

module _ (names : List (List ℕ)) (p : VariableClause → Bool) where
  abbrev told : FlatClause → Bool
  told c = p (clause_by names c)

  pub any_in_flat : (hs : List FlatOutline) (ds : List FlatDeclared) (cs : List FlatClause) → clauses_in hs ≡ length cs
      → list_any (λ s. list_any p s.clauses) (outlines_by names hs ds cs) ≡ list_any told cs
  any_in_flat [] ds [] h = refl
  any_in_flat [] ds (c ∷ cs) h = absurd (omega (arith, h))
  any_in_flat (o ∷ hs) ds cs h =
      ap₂ (λ (a b : Bool). a || b) (any_mapped p (clause_by names) (take o.clauses cs))
      (any_in_flat hs (drop o.declares ds) (drop o.clauses cs) (omega (arith, h, length-drop o.clauses cs)))
      ∙ sym (list_any-append told (take o.clauses cs) (drop o.clauses cs))
      ∙ ap (list_any told) (take-append-drop o.clauses cs)
