-- How brackets lie in declarations and parameters.
use Rattle.std.proofs.Common.{ℕ, zero, suc, Bool, true, List, [], ◌∷◌, Option, refl}
use Rattle.snl_lex.specs.declared.kind.Kind.TheVariants as kind
use Rattle.snl_grammar.specs.declared.tree.declaration.Declaration.{Declaration}
use Rattle.snl_grammar.specs.declared.tree.declaration.Declarator.{Declarator}
use Rattle.snl_grammar.specs.declared.tree.declaration.Init.{Init}
use Rattle.snl_grammar.specs.declared.tree.declaration.Parameter.{Parameter}
use Rattle.snl_grammar.specs.declared.tree.expression.Expr.{Expr}
use Rattle.snl_grammar.specs.Tokens.{NumberedKind}
use Rattle.snl_grammar.specs.Grammar.Base.{First, Leaf}
use Rattle.snl_grammar.specs.Grammar.Declarations.{AreBraced, IsAfterEqual, IsDeclaration, IsDeclarator, IsInit, IsInitOf, IsLength, list, value}
use Rattle.snl_grammar.specs.Grammar.Expressions.{IsAssignx, IsSequence}
use Rattle.snl_grammar.specs.Grammar.Functions.{IsParameter, IsParameterOf}
use Rattle.snl_item_laws.proofs.Lies.{Holds, Lies, braces, each_lie, group, leaf_lies, lies_then, loose, nothing, perhaps_lies, squares, token, written_lies}
use Rattle.snl_item_laws.proofs.LiesExpressions.{assignx_held, commas_lie, sequence_held}
use Rattle.snl_item_laws.proofs.LiesTypes.{stars_lie, type_lies}

-- the values in braces, up to the one that closes them
pub braced_lie : {A : Type 0} (inside : Bool) (R : A → List NumberedKind → List NumberedKind → Type 0) (d : ℕ) → ((x : A) (k rest : List NumberedKind) → R x k rest → Holds inside d k rest) →
    (xs : List A) (trailing : Bool) (k rest : List NumberedKind) → AreBraced R xs trailing k rest → (m : List NumberedKind) × Lies inside d k m × First kind.CloseBrace m rest
braced_lie inside R d fits [] trailing k rest h = (k, nothing refl, h.1)
braced_lie inside R zero fits (x ∷ xs) trailing k rest h = absurd (fits x k h.elements.0 h.elements.1)
braced_lie inside R (suc d) fits (x ∷ xs) trailing k rest h =
    (h.m2, lies_then (commas_lie inside R d fits (x ∷ xs) k h.m1 h.elements) (written_lies inside d kind.Comma trailing h.m1 h.m2 refl h.comma), h.closing)

-- an initialiser inside braces
init_held : (d : ℕ) (t : Init) (k rest : List NumberedKind) → IsInit 0 0 d t k rest → Holds true d k rest
init_held zero t k rest h = absurd h
init_held (suc d) t k rest (value x is h) = assignx_held true (suc d) x k rest h
init_held (suc d) t k rest (list xs trailing mid is o h) =
    let b = braced_lie true (IsInit 0 0 d) d (init_held d) xs trailing mid rest h in braces o b.1 b.2 (nothing refl)

module _ (inside : Bool) (d : ℕ) where
  -- an initialiser with the mark before it
  value_lies : (t : Init) (k rest : List NumberedKind) → IsAfterEqual (IsInit 0 0 (suc d)) t k rest → Lies inside (suc d) k rest
  value_lies t k rest h = by h.value
    where
      by : IsInitOf (IsAssignx 0 0 (suc d)) (IsInit 0 0 d) t h.mid rest → Lies inside (suc d) k rest
      by (value x is v) = token kind.Equal refl h.equal (assignx_held inside (suc d) x h.mid rest v)
      by (list xs trailing mid is o v) =
          let b = braced_lie true (IsInit 0 0 d) d (init_held d) xs trailing mid rest v in group kind.Equal refl h.equal o b.1 b.2 (nothing refl)

  length_lies : (t : Option Expr) (k rest : List NumberedKind) → IsLength (IsAssignx 0 0 d) t k rest → Lies inside (suc d) k rest
  length_lies t k rest h =
      squares h.opening (perhaps_lies inside (IsSequence (IsAssignx 0 0 d)) d (sequence_held inside (IsAssignx 0 0 d) d (assignx_held inside d)) t h.m1 h.m2 h.size) h.closing (nothing refl)

  declarator_lies : (t : Declarator) (k rest : List NumberedKind) → IsDeclarator (IsAssignx 0 0 d) (IsInit 0 0 (suc d)) t k rest → Lies inside (suc d) k rest
  declarator_lies t k rest h =
      lies_then (stars_lie inside d t.pointers k h.m1 h.stars)
      (lies_then (leaf_lies inside d kind.Name t.name h.m1 h.m2 refl h.name)
      (lies_then (each_lie inside (IsLength (IsAssignx 0 0 d)) (suc d) length_lies t.lengths h.m2 h.m3 h.lengths)
      (perhaps_lies inside (IsAfterEqual (IsInit 0 0 (suc d))) (suc d) value_lies t.init h.m3 rest h.init)))

  -- a declaration up to its semicolon
  pub declaration_front : (t : Declaration) (k rest : List NumberedKind) → IsDeclaration 0 0 (suc d) t k rest → (m : List NumberedKind) × Lies inside (suc d) k m × First kind.Semicolon m rest
  declaration_front t k rest h = (
    h.m2,
    lies_then (type_lies inside d t.of k h.m1 h.of_type) (commas_lie inside (IsDeclarator (IsAssignx 0 0 d) (IsInit 0 0 (suc d))) d declarator_lies t.declarators h.m1 h.m2 h.declarators),
    h.semicolon,
  )

  parameter_lies : (t : Parameter) (k rest : List NumberedKind) → IsParameterOf (IsAssignx 0 0 d) t k rest → Lies inside (suc d) k rest
  parameter_lies t k rest h =
      lies_then (type_lies inside d t.of k h.m1 h.of_type)
      (lies_then (stars_lie inside d t.pointers h.m1 h.m2 h.stars)
      (lies_then (perhaps_lies inside (Leaf kind.Name) (suc d) (λ n j end l. leaf_lies inside d kind.Name n j end refl l) t.name h.m2 h.m3 h.name)
      (each_lie inside (IsLength (IsAssignx 0 0 d)) (suc d) length_lies t.lengths h.m3 rest h.lengths)))

pub parameter_held : (inside : Bool) (d : ℕ) (t : Parameter) (k rest : List NumberedKind) → IsParameter 0 0 d t k rest → Holds inside d k rest
parameter_held inside zero t k rest h = absurd h
parameter_held inside (suc d) t k rest h = parameter_lies inside d t k rest h

-- a declaration inside braces
pub declaration_held : (d : ℕ) (t : Declaration) (k rest : List NumberedKind) → IsDeclaration 0 0 d t k rest → Holds true d k rest
declaration_held zero t k rest h = absurd h
declaration_held (suc d) t k rest h = let f = declaration_front true d t k rest h in lies_then f.1 (loose kind.Semicolon refl f.2 (nothing refl))
