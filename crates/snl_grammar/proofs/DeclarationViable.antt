-- Declarations: what was read is in the grammar, and what was read before a blamed token can be
-- completed.
use Rattle.std.proofs.Common.{◌≡◌, ℕ, zero, suc, ◌<◌, Bool, false, List, [], ◌∷◌, ◌++◌, Option, Some, None, refl, sym, ap, subst, arith}
use Rattle.snl_lex.specs.declared.kind.Kind.{Kind}
use Rattle.snl_lex.specs.declared.kind.Kind.TheVariants as kind
use Rattle.snl_grammar.specs.declared.tree.types.QualifiedType.{QualifiedType}
use Rattle.snl_grammar.specs.declared.tree.types.Pointer.{Pointer}
use Rattle.snl_grammar.specs.declared.tree.expression.Expr.{Expr}
use Rattle.snl_grammar.specs.declared.tree.declaration.Init.{Init}
use Rattle.snl_grammar.specs.declared.tree.declaration.Init.TheVariants as inits
use Rattle.snl_grammar.specs.declared.tree.declaration.Declarator.{Declarator}
use Rattle.snl_grammar.specs.declared.tree.declaration.Declaration.{Declaration}
use Rattle.snl_grammar.specs.Tokens.{NumberedKind}
use Rattle.snl_grammar.specs.Steps.{Reader, pure, kind_at, expect, many, until}
use Rattle.snl_grammar.specs.Grammar.Base.{Each, First, Leaf, Perhaps}
use Rattle.snl_grammar.specs.Grammar.Types.{IsType, IsPointer}
use Rattle.snl_grammar.specs.Grammar.Expressions.{IsAfterComma, IsSequence, IsAssignx}
use Rattle.snl_grammar.specs.Grammar.Declarations.{IsLength, AreBraced, IsInitOf, value as is_value, list as is_list, IsInit, IsAfterEqual, IsDeclarator, IsDeclarationOf, IsDeclaration}
use Rattle.snl_grammar.specs.Reading.Types.{type_of, stars}
use Rattle.snl_grammar.specs.Reading.Expressions.{assignx, sequence, next_comma}
use Rattle.snl_grammar.specs.Reading.Declarations.{some_length, length_by, bracketed_length, next_length_by, next_length, lengths, after_comma_by, after_comma, value_step_by, value_step, some_values, values_by, values, plain_value, init_by, init_of, init, some_init, init_part_by, init_part, declarator_from, declarator, more_declarators, declaration_from, declaration_of, declaration_in, declaration}
use Rattle.snl_grammar.proofs.Viable.{Free, Makes, Viable, Completable, Exists, Both, both, Next, Lists, IsNothing, Ends, numbered_kinds, bind_completable, into_completable, choice_viable, refuse_viable, expect_completable, pure_completable, many_completable}
use Rattle.snl_grammar.proofs.TypeLaws.{word_completable, lists_each, none_next, first_then, type_completable, stars_completable}
use Rattle.snl_grammar.proofs.CommasViable.{more_commas}
use Rattle.snl_grammar.proofs.SuffixViable.{sequence_completable}
use Rattle.snl_grammar.proofs.ExpressionViable.{assignx_completable}
use Rattle.snl_grammar.proofs.Braced.{none_perhaps, perhaps_completable, IsLast, IsValueStep, AllValues, After, AfterAim, close_viable, more_viable, comma_step, last_step, values_completable, braced_values}

abbrev pub make_declarator : List Pointer → ℕ → List (Option Expr) → Option Init → Declarator
make_declarator ps n ls x = record { pointers = ps; name = n; lengths = ls; init = x }

abbrev pub make_declaration : QualifiedType → List Declarator → Declaration
make_declaration t ds = record { of = t; declarators = ds }

-- ---- lengths

module _ (free extra : ℕ) (Inner : Expr → List NumberedKind → List NumberedKind → Type 0) (inner : Reader Expr) (fi : Completable free extra inner Inner (kind.Integer ∷ [])) where
  -- what comes after "["
  abbrev InLength : Option (Option Expr) → List NumberedKind → List NumberedKind → Type 0
  InLength y k rest = (t : Option Expr) × (mid : List NumberedKind) × (y ≡ Some t) × Perhaps (IsSequence Inner) t k mid × First kind.CloseBracket mid rest

  into_some_length : (y : Option (Option Expr)) (k rest : List NumberedKind) → Both (IsSequence Inner) (λ x. Both (Leaf kind.CloseBracket) (λ _. IsNothing (Some (Some x)))) y k rest → (InLength) y k rest
  into_some_length y k rest (both v0 m1 w0 (both v1 m2 w1 h)) = subst (λ z. (InLength) z k rest) h.0 ((Some v0, m1, refl, w0, first_then kind.CloseBracket v1 m1 m2 rest w1 h.1))

  some_length_completable : Completable free extra (some_length inner) (InLength) (kind.Integer ∷ kind.CloseBracket ∷ [])
  unfolding some_length
  some_length_completable = into_completable free extra (some_length inner) _ (InLength) (kind.Integer ∷ kind.CloseBracket ∷ []) (into_some_length) (bind_completable free extra (sequence inner) _ (IsSequence Inner) (λ x. Both (Leaf kind.CloseBracket) (λ _. IsNothing (Some (Some x)))) (kind.Integer ∷ []) (kind.CloseBracket ∷ []) (sequence_completable free extra Inner inner fi) (λ x. bind_completable free extra (expect kind.CloseBracket) _ (Leaf kind.CloseBracket) (λ _. IsNothing (Some (Some x))) (kind.CloseBracket ∷ []) [] (expect_completable free extra kind.CloseBracket) (λ _. pure_completable free extra (Some (Some x)))))

  length_by_viable : (o : Option Kind) → Viable free extra (length_by inner o) InLength (Exists InLength)
  length_by_viable (Some kind.CloseBracket) = (word_completable free extra kind.CloseBracket (Some None) InLength (λ k rest f. (None, k, refl, refl, f))).viable
  length_by_viable _ = some_length_completable.viable

  in_length_completable : Completable free extra (λ k. length_by inner (kind_at k) k) InLength (kind.CloseBracket ∷ [])
  in_length_completable = record { viable = choice_viable free extra (length_by inner) InLength (Exists InLength) length_by_viable; makes = λ n rest room. (Some None, (None, numbered_kinds n (kind.CloseBracket ∷ []) ++ rest, refl, refl, (n, refl))) }

  into_length : (y : Option (Option Expr)) (k rest : List NumberedKind) → Both (Leaf kind.OpenBracket) (λ _. InLength) y k rest → Next (IsLength Inner) y k rest
  into_length y k rest (both n m e h) = subst (λ z. Next (IsLength Inner) z k rest) (sym h.2) (record { m1 = m; m2 = h.1; opening = (n, e); size = h.3; closing = h.4 })

  bracketed_viable : Viable free extra (bracketed_length inner) (Next (IsLength Inner)) (Exists (Next (IsLength Inner)))
  unfolding bracketed_length
  bracketed_viable = (into_completable free extra (bracketed_length inner) (Both (Leaf kind.OpenBracket) (λ _. InLength)) (Next (IsLength Inner)) (kind.OpenBracket ∷ kind.CloseBracket ∷ []) into_length (bind_completable free extra (expect kind.OpenBracket) _ (Leaf kind.OpenBracket) (λ _. InLength) (kind.OpenBracket ∷ []) (kind.CloseBracket ∷ []) (expect_completable free extra kind.OpenBracket) (λ _. in_length_completable))).viable

  next_length_by_viable : (o : Option Kind) → Viable free extra (next_length_by inner o) (Next (IsLength Inner)) (Exists (Next (IsLength Inner)))
  next_length_by_viable (Some kind.OpenBracket) = bracketed_viable
  next_length_by_viable _ = (into_completable free extra (pure None) (IsNothing None) (Next (IsLength Inner)) [] (none_next (IsLength Inner)) (pure_completable free extra None)).viable

  next_length_viable : Viable free extra (next_length inner) (Next (IsLength Inner)) (Exists (Next (IsLength Inner)))
  unfolding next_length
  next_length_viable = choice_viable free extra (next_length_by inner) (Next (IsLength Inner)) (Exists (Next (IsLength Inner))) next_length_by_viable

  pub lengths_completable : Completable free extra (lengths inner) (Each (IsLength Inner)) []
  lengths_completable = into_completable free extra (lengths inner) (Lists (IsLength Inner) []) (Each (IsLength Inner)) [] (lists_each (IsLength Inner)) (many_completable free extra (IsLength Inner) (next_length inner) next_length_viable [])

-- ---- values

module _ (free extra : ℕ) (Inner : Init → List NumberedKind → List NumberedKind → Type 0) (inner : Reader Init) (fi : Completable free extra inner Inner (kind.Integer ∷ [])) where
  after_comma_by_viable : (o : Option Kind) → Viable free extra (after_comma_by inner o) (After free extra Inner inner (kind.Integer ∷ []) fi) (AfterAim free extra Inner inner (kind.Integer ∷ []) fi)
  after_comma_by_viable (Some kind.CloseBrace) = close_viable free extra Inner inner (kind.Integer ∷ []) fi
  after_comma_by_viable _ = more_viable free extra Inner inner (kind.Integer ∷ []) fi

  after_comma_viable : Viable free extra (after_comma inner) (IsValueStep free extra Inner inner (kind.Integer ∷ []) fi) (AllValues free extra Inner inner (kind.Integer ∷ []) fi)
  unfolding after_comma
  after_comma_viable = comma_step free extra Inner inner (kind.Integer ∷ []) fi (after_comma_by inner) after_comma_by_viable

  value_step_by_viable : (o : Option Kind) → Viable free extra (value_step_by inner o) (IsValueStep free extra Inner inner (kind.Integer ∷ []) fi) (AllValues free extra Inner inner (kind.Integer ∷ []) fi)
  value_step_by_viable (Some kind.Comma) = after_comma_viable
  value_step_by_viable _ = last_step free extra Inner inner (kind.Integer ∷ []) fi

  value_step_viable : Viable free extra (value_step inner) (IsValueStep free extra Inner inner (kind.Integer ∷ []) fi) (AllValues free extra Inner inner (kind.Integer ∷ []) fi)
  unfolding value_step
  value_step_viable = choice_viable free extra (value_step_by inner) (IsValueStep free extra Inner inner (kind.Integer ∷ []) fi) (AllValues free extra Inner inner (kind.Integer ∷ []) fi) value_step_by_viable

  -- what comes after "{"
  abbrev InBraces : Init → List NumberedKind → List NumberedKind → Type 0
  InBraces t k rest = (xs : List Init) × (trailing : Bool) × (t ≡ inits.List xs trailing) × AreBraced Inner xs trailing k rest

  into_some_values : (y : Init) (k rest : List NumberedKind) → Both (Inner) (λ first. Both (Ends (IsAfterComma Inner) (IsLast free extra Inner inner (kind.Integer ∷ []) fi) (first ∷ [])) (λ r. Both (Leaf kind.CloseBrace) (λ _. IsNothing (inits.List r.0 r.1)))) y k rest → (InBraces) y k rest
  into_some_values y k rest (both v0 m1 w0 (both v1 m2 w1 (both v2 m3 w2 h))) = subst (λ z. (InBraces) z k rest) h.0 ((v1.0, v1.1, refl, braced_values free extra Inner inner (kind.Integer ∷ []) fi v0 v1 k m1 m2 rest w0 w1 (first_then kind.CloseBrace v2 m2 m3 rest w2 h.1)))

  some_values_completable : Completable free extra (some_values inner) (InBraces) (kind.Integer ∷ kind.CloseBrace ∷ [])
  unfolding some_values
  some_values_completable = into_completable free extra (some_values inner) _ (InBraces) (kind.Integer ∷ kind.CloseBrace ∷ []) (into_some_values) (bind_completable free extra (inner) _ (Inner) (λ first. Both (Ends (IsAfterComma Inner) (IsLast free extra Inner inner (kind.Integer ∷ []) fi) (first ∷ [])) (λ r. Both (Leaf kind.CloseBrace) (λ _. IsNothing (inits.List r.0 r.1)))) (kind.Integer ∷ []) (kind.CloseBrace ∷ []) (fi) (λ first. bind_completable free extra (until (value_step inner) (first ∷ [])) _ (Ends (IsAfterComma Inner) (IsLast free extra Inner inner (kind.Integer ∷ []) fi) (first ∷ [])) (λ r. Both (Leaf kind.CloseBrace) (λ _. IsNothing (inits.List r.0 r.1))) [] (kind.CloseBrace ∷ []) (values_completable free extra Inner inner (kind.Integer ∷ []) fi (value_step inner) value_step_viable (first ∷ [])) (λ r. bind_completable free extra (expect kind.CloseBrace) _ (Leaf kind.CloseBrace) (λ _. IsNothing (inits.List r.0 r.1)) (kind.CloseBrace ∷ []) [] (expect_completable free extra kind.CloseBrace) (λ _. pure_completable free extra (inits.List r.0 r.1)))))

  values_by_viable : (o : Option Kind) → Viable free extra (values_by inner o) InBraces (Exists InBraces)
  values_by_viable (Some kind.CloseBrace) = (word_completable free extra kind.CloseBrace (inits.List [] false) InBraces (λ k rest f. ([], false, refl, (refl, f)))).viable
  values_by_viable _ = some_values_completable.viable

  in_values_completable : Completable free extra (λ k. values_by inner (kind_at k) k) InBraces (kind.CloseBrace ∷ [])
  in_values_completable = record { viable = choice_viable free extra (values_by inner) InBraces (Exists InBraces) values_by_viable; makes = λ n rest room. (inits.List [] false, ([], false, refl, (refl, (n, refl)))) }

  module _ (Here : Expr → List NumberedKind → List NumberedKind → Type 0) (value : Reader Expr) (fv : Completable free extra value Here (kind.Integer ∷ [])) where
    into_values : (y : Init) (k rest : List NumberedKind) → Both (Leaf kind.OpenBrace) (λ _. InBraces) y k rest → IsInitOf Here Inner y k rest
    into_values y k rest (both n m e h) = is_list h.0 h.1 m h.2 (n, e) h.3

    values_viable : Viable free extra (values inner) (IsInitOf Here Inner) (Exists (IsInitOf Here Inner))
    unfolding values
    values_viable = (into_completable free extra (values inner) (Both (Leaf kind.OpenBrace) (λ _. InBraces)) (IsInitOf Here Inner) (kind.OpenBrace ∷ kind.CloseBrace ∷ []) into_values (bind_completable free extra (expect kind.OpenBrace) _ (Leaf kind.OpenBrace) (λ _. InBraces) (kind.OpenBrace ∷ []) (kind.CloseBrace ∷ []) (expect_completable free extra kind.OpenBrace) (λ _. in_values_completable))).viable

    into_plain : (y : Init) (k rest : List NumberedKind) → Both Here (λ x. IsNothing (inits.Value x)) y k rest → IsInitOf Here Inner y k rest
    into_plain y k rest (both x m r h) = subst (λ z. IsInitOf Here Inner z k rest) h.0 (is_value x refl (subst (λ l. Here x k l) h.1 r))

    plain_completable : Completable free extra (plain_value value) (IsInitOf Here Inner) (kind.Integer ∷ [])
    unfolding plain_value
    plain_completable = into_completable free extra (plain_value value) _ (IsInitOf Here Inner) (kind.Integer ∷ []) into_plain (bind_completable free extra value _ Here (λ x. IsNothing (inits.Value x)) (kind.Integer ∷ []) [] fv (λ x. pure_completable free extra (inits.Value x)))

    init_by_viable : (o : Option Kind) → Viable free extra (init_by value inner o) (IsInitOf Here Inner) (Exists (IsInitOf Here Inner))
    init_by_viable (Some kind.OpenBrace) = values_viable
    init_by_viable _ = plain_completable.viable

    pub init_of_completable : Completable free extra (init_of value inner) (IsInitOf Here Inner) (kind.Integer ∷ [])
    unfolding init_of
    init_of_completable = record { viable = choice_viable free extra (init_by value inner) (IsInitOf Here Inner) (Exists (IsInitOf Here Inner)) init_by_viable; makes = plain_completable.makes }

nothing_below : 0 < 0 → ⊥
nothing_below h = omega (arith, h)

pub init_completable : (free extra depth : ℕ) → Completable free extra (init depth) (IsInit free extra depth) (kind.Integer ∷ [])
unfolding init
init_completable free extra (suc depth) = init_of_completable free extra (IsInit free extra depth) (init depth) (init_completable free extra depth) (IsAssignx free extra (suc depth)) (assignx (suc depth)) (assignx_completable free extra (suc depth))
init_completable free zero zero = record { viable = refuse_viable free 0 (IsInit free 0 0) (Exists (IsInit free 0 0)) (kind.Integer ∷ []) (λ n rest room. absurd (nothing_below room.0)); makes = λ n rest room. absurd (nothing_below room.0) }
init_completable free (suc extra) zero =
    let makes : Makes free (suc extra) (Exists (IsInit free (suc extra) 0)) (kind.Integer ∷ []) = λ n rest room.
    let t = (assignx_completable free (suc extra) 0).makes n rest room in
    (inits.Value t.0, (room.1, is_value t.0 refl t.1)) in
    record { viable = refuse_viable free (suc extra) (IsInit free (suc extra) 0) (Exists (IsInit free (suc extra) 0)) (kind.Integer ∷ []) makes; makes = makes }

-- ---- declarators and declarations

module _ (free extra : ℕ) (Value : Init → List NumberedKind → List NumberedKind → Type 0) (value : Reader Init) (fv : Completable free extra value Value (kind.Integer ∷ [])) where
  into_some_init : (y : Option Init) (k rest : List NumberedKind) → Both (Leaf kind.Equal) (λ _. Both (Value) (λ x. IsNothing (Some x))) y k rest → (Perhaps (IsAfterEqual Value)) y k rest
  into_some_init y k rest (both v0 m1 w0 (both v1 m2 w1 h)) = subst (λ z. (Perhaps (IsAfterEqual Value)) z k rest) h.0 (record { mid = m1; equal = (v0, w0); value = subst (λ l. Value v1 m1 l) h.1 w1 })

  some_init_completable : Completable free extra (some_init value) (Perhaps (IsAfterEqual Value)) (kind.Equal ∷ kind.Integer ∷ [])
  unfolding some_init
  some_init_completable = into_completable free extra (some_init value) _ (Perhaps (IsAfterEqual Value)) (kind.Equal ∷ kind.Integer ∷ []) (into_some_init) (bind_completable free extra (expect kind.Equal) _ (Leaf kind.Equal) (λ _. Both (Value) (λ x. IsNothing (Some x))) (kind.Equal ∷ []) (kind.Integer ∷ []) (expect_completable free extra kind.Equal) (λ _. bind_completable free extra (value) _ (Value) (λ x. IsNothing (Some x)) (kind.Integer ∷ []) [] (fv) (λ x. pure_completable free extra (Some x))))

  init_part_by_viable : (o : Option Kind) → Viable free extra (init_part_by value o) (Perhaps (IsAfterEqual Value)) (Exists (Perhaps (IsAfterEqual Value)))
  init_part_by_viable (Some kind.Equal) = some_init_completable.viable
  init_part_by_viable _ = none_perhaps free extra (IsAfterEqual Value)

  pub init_part_completable : Completable free extra (init_part value) (Perhaps (IsAfterEqual Value)) []
  unfolding init_part
  init_part_completable = perhaps_completable free extra (IsAfterEqual Value) (init_part_by value) init_part_by_viable

-- what comes after a declarator's name
pub record IsDeclaratorFrom (Inner : Expr → List NumberedKind → List NumberedKind → Type 0) (Value : Init → List NumberedKind → List NumberedKind → Type 0) (ps : List Pointer) (n : ℕ) (t : Declarator) (k rest : List NumberedKind) : Type 0 where
  pub ls : List (Option Expr)
  pub x : Option Init
  pub mid : List NumberedKind
  pub made : make_declarator ps n ls x ≡ t
  pub lengths : Each (IsLength Inner) ls k mid
  pub init : Perhaps (IsAfterEqual Value) x mid rest

-- what comes after a declaration's first declarator
pub record AreMore (Inner : Expr → List NumberedKind → List NumberedKind → Type 0) (Value : Init → List NumberedKind → List NumberedKind → Type 0) (of : QualifiedType) (first : Declarator) (t : Declaration) (k rest : List NumberedKind) : Type 0 where
  pub ds : List Declarator
  pub mid : List NumberedKind
  pub made : make_declaration of (first ∷ ds) ≡ t
  pub more : Each (IsAfterComma (IsDeclarator Inner Value)) ds k mid
  pub semicolon : First kind.Semicolon mid rest

-- what comes after a declaration's first name
abbrev pub IsDeclarationFrom : (Expr → List NumberedKind → List NumberedKind → Type 0) → (Init → List NumberedKind → List NumberedKind → Type 0) → QualifiedType → List Pointer → ℕ → Declaration → List NumberedKind → List NumberedKind → Type 0
IsDeclarationFrom Inner Value t ps n d k rest = (first : Declarator) × (mid : List NumberedKind) × IsDeclaratorFrom Inner Value ps n first k mid × AreMore Inner Value t first d mid rest

module _ (free extra : ℕ) (Inner : Expr → List NumberedKind → List NumberedKind → Type 0) (Value : Init → List NumberedKind → List NumberedKind → Type 0) (inner : Reader Expr) (value : Reader Init) (fi : Completable free extra inner Inner (kind.Integer ∷ [])) (fv : Completable free extra value Value (kind.Integer ∷ [])) where
  into_declarator_from : (ps : List Pointer) (n : ℕ) → (y : Declarator) (k rest : List NumberedKind) → Both (Each (IsLength Inner)) (λ ls. Both (Perhaps (IsAfterEqual Value)) (λ x. IsNothing (make_declarator ps n ls x))) y k rest → (IsDeclaratorFrom Inner Value ps n) y k rest
  into_declarator_from ps n y k rest (both v0 m1 w0 (both v1 m2 w1 h)) = subst (λ z. (IsDeclaratorFrom Inner Value ps n) z k rest) h.0 (record { ls = v0; x = v1; mid = m1; made = refl; lengths = w0; init = subst (λ l. Perhaps (IsAfterEqual Value) v1 m1 l) h.1 w1 })

  pub declarator_from_completable : (ps : List Pointer) (n : ℕ) → Completable free extra (declarator_from inner value ps n) (IsDeclaratorFrom Inner Value ps n) []
  unfolding declarator_from
  declarator_from_completable ps n = into_completable free extra (declarator_from inner value ps n) _ (IsDeclaratorFrom Inner Value ps n) [] (into_declarator_from ps n) (bind_completable free extra (lengths inner) _ (Each (IsLength Inner)) (λ ls. Both (Perhaps (IsAfterEqual Value)) (λ x. IsNothing (make_declarator ps n ls x))) [] [] (lengths_completable free extra Inner inner fi) (λ ls. bind_completable free extra (init_part value) _ (Perhaps (IsAfterEqual Value)) (λ x. IsNothing (make_declarator ps n ls x)) [] [] (init_part_completable free extra Value value fv) (λ x. pure_completable free extra (make_declarator ps n ls x))))

  into_declarator : (y : Declarator) (k rest : List NumberedKind) → Both (Each IsPointer) (λ ps. Both (Leaf kind.Name) (λ n. IsDeclaratorFrom Inner Value ps n)) y k rest → IsDeclarator Inner Value y k rest
  into_declarator y k rest (both ps m1 w1 (both n m2 w2 d)) = subst (λ z. IsDeclarator Inner Value z k rest) d.made (record { m1 = m1; m2 = m2; m3 = d.mid; stars = w1; name = w2; lengths = d.lengths; init = d.init })

  pub declarator_completable : Completable free extra (declarator inner value) (IsDeclarator Inner Value) (kind.Name ∷ [])
  unfolding declarator
  declarator_completable = into_completable free extra (declarator inner value) _ (IsDeclarator Inner Value) (kind.Name ∷ []) into_declarator
      (bind_completable free extra stars _ (Each IsPointer) (λ ps. Both (Leaf kind.Name) (λ n. IsDeclaratorFrom Inner Value ps n)) [] (kind.Name ∷ []) (stars_completable free extra) (λ ps.
      bind_completable free extra (expect kind.Name) _ (Leaf kind.Name) (λ n. IsDeclaratorFrom Inner Value ps n) (kind.Name ∷ []) [] (expect_completable free extra kind.Name) (λ n. declarator_from_completable ps n)))

  into_more : (t : QualifiedType) (first : Declarator) → (y : Declaration) (k rest : List NumberedKind) → Both (Lists (IsAfterComma (IsDeclarator Inner Value)) (first ∷ [])) (λ all. Both (Leaf kind.Semicolon) (λ _. IsNothing (make_declaration t all))) y k rest → (AreMore Inner Value t first) y k rest
  into_more t first y k rest (both v0 m1 w0 (both v1 m2 w1 h)) = subst (λ z. (AreMore Inner Value t first) z k rest) h.0 (record { ds = w0.0; mid = m1; made = ap (make_declaration t) (sym w0.1); more = w0.2; semicolon = first_then kind.Semicolon v1 m1 m2 rest w1 h.1 })

  more_completable : (t : QualifiedType) (first : Declarator) → Completable free extra (more_declarators inner value t first) (AreMore Inner Value t first) (kind.Semicolon ∷ [])
  unfolding more_declarators
  more_completable t first = into_completable free extra (more_declarators inner value t first) _ (AreMore Inner Value t first) (kind.Semicolon ∷ []) (into_more t first) (bind_completable free extra (many (next_comma (declarator inner value)) (first ∷ [])) _ (Lists (IsAfterComma (IsDeclarator Inner Value)) (first ∷ [])) (λ all. Both (Leaf kind.Semicolon) (λ _. IsNothing (make_declaration t all))) [] (kind.Semicolon ∷ []) (more_commas free extra (IsDeclarator Inner Value) (declarator inner value) (kind.Name ∷ []) declarator_completable (first ∷ [])) (λ all. bind_completable free extra (expect kind.Semicolon) _ (Leaf kind.Semicolon) (λ _. IsNothing (make_declaration t all)) (kind.Semicolon ∷ []) [] (expect_completable free extra kind.Semicolon) (λ _. pure_completable free extra (make_declaration t all))))

  into_from : (t : QualifiedType) (ps : List Pointer) (n : ℕ) (y : Declaration) (k rest : List NumberedKind) → Both (IsDeclaratorFrom Inner Value ps n) (λ first. AreMore Inner Value t first) y k rest → IsDeclarationFrom Inner Value t ps n y k rest
  into_from t ps n y k rest (both first m w a) = (first, m, w, a)

  pub declaration_from_completable : (t : QualifiedType) (ps : List Pointer) (n : ℕ) → Completable free extra (declaration_from inner value t ps n) (IsDeclarationFrom Inner Value t ps n) (kind.Semicolon ∷ [])
  unfolding declaration_from
  declaration_from_completable t ps n = into_completable free extra (declaration_from inner value t ps n) _ (IsDeclarationFrom Inner Value t ps n) (kind.Semicolon ∷ []) (into_from t ps n) (bind_completable free extra (declarator_from inner value ps n) _ (IsDeclaratorFrom Inner Value ps n) (λ first. AreMore Inner Value t first) [] (kind.Semicolon ∷ []) (declarator_from_completable ps n) (λ first. more_completable t first))

  into_declaration : (y : Declaration) (k rest : List NumberedKind) → Both IsType (λ t. Both (IsDeclarator Inner Value) (λ first. AreMore Inner Value t first)) y k rest → IsDeclarationOf Inner Value y k rest
  into_declaration y k rest (both t m1 w1 (both first m2 w2 a)) = subst (λ z. IsDeclarationOf Inner Value z k rest) a.made (record { m1 = m1; m2 = a.mid; of_type = w1; declarators = (m2, w2, a.more); semicolon = a.semicolon })

  declaration_of_completable : (t : QualifiedType) → Completable free extra (declaration_of inner value t) (Both (IsDeclarator Inner Value) (λ first. AreMore Inner Value t first)) (kind.Name ∷ kind.Semicolon ∷ [])
  unfolding declaration_of
  declaration_of_completable t = bind_completable free extra (declarator inner value) _ (IsDeclarator Inner Value) (λ first. AreMore Inner Value t first) (kind.Name ∷ []) (kind.Semicolon ∷ []) declarator_completable (λ first. more_completable t first)

  pub declaration_in_completable : Completable free extra (declaration_in inner value) (IsDeclarationOf Inner Value) (kind.Int ∷ kind.Name ∷ kind.Semicolon ∷ [])
  unfolding declaration_in
  declaration_in_completable = into_completable free extra (declaration_in inner value) _ (IsDeclarationOf Inner Value) (kind.Int ∷ kind.Name ∷ kind.Semicolon ∷ []) into_declaration (bind_completable free extra type_of _ IsType (λ t. Both (IsDeclarator Inner Value) (λ first. AreMore Inner Value t first)) (kind.Int ∷ []) (kind.Name ∷ kind.Semicolon ∷ []) (type_completable free extra) declaration_of_completable)

-- the shortest one, whatever is inside
shortest : (free extra : ℕ) (Inner : Expr → List NumberedKind → List NumberedKind → Type 0) (Value : Init → List NumberedKind → List NumberedKind → Type 0) (n : ℕ) (rest : List NumberedKind) → Free free extra (numbered_kinds n (kind.Int ∷ kind.Name ∷ kind.Semicolon ∷ []) ++ rest) → Exists (IsDeclarationOf Inner Value) (numbered_kinds n (kind.Int ∷ kind.Name ∷ kind.Semicolon ∷ []) ++ rest) rest
shortest free extra Inner Value n rest room =
    let t = (type_completable free extra).makes n ((kind.Name, suc n) ∷ (kind.Semicolon, suc (suc n)) ∷ rest) room in
    let d = make_declarator [] (suc n) [] None in
    (make_declaration t.0 (d ∷ []), record { m1 = (kind.Name, suc n) ∷ (kind.Semicolon, suc (suc n)) ∷ rest; m2 = (kind.Semicolon, suc (suc n)) ∷ rest; of_type = t.1; declarators = ((kind.Semicolon, suc (suc n)) ∷ rest, record { m1 = (kind.Name, suc n) ∷ (kind.Semicolon, suc (suc n)) ∷ rest; m2 = (kind.Semicolon, suc (suc n)) ∷ rest; m3 = (kind.Semicolon, suc (suc n)) ∷ rest; stars = refl; name = refl; lengths = refl; init = refl }, refl); semicolon = (suc (suc n), refl) })

pub declaration_completable : (free extra depth : ℕ) → Completable free extra (declaration depth) (IsDeclaration free extra depth) (kind.Int ∷ kind.Name ∷ kind.Semicolon ∷ [])
unfolding declaration
declaration_completable free extra (suc depth) = declaration_in_completable free extra (IsAssignx free extra depth) (IsInit free extra (suc depth)) (assignx depth) (init (suc depth)) (assignx_completable free extra depth) (init_completable free extra (suc depth))
declaration_completable free zero zero = record { viable = refuse_viable free 0 (IsDeclaration free 0 0) (Exists (IsDeclaration free 0 0)) (kind.Int ∷ kind.Name ∷ kind.Semicolon ∷ []) (λ n rest room. absurd (nothing_below room.0)); makes = λ n rest room. absurd (nothing_below room.0) }
declaration_completable free (suc extra) zero =
    let makes : Makes free (suc extra) (Exists (IsDeclaration free (suc extra) 0)) (kind.Int ∷ kind.Name ∷ kind.Semicolon ∷ []) = λ n rest room.
    let t = shortest free (suc extra) (IsAssignx free extra 0) (IsInit free (suc extra) 0) n rest room in
    (t.0, (room.1, t.1)) in
    record { viable = refuse_viable free (suc extra) (IsDeclaration free (suc extra) 0) (Exists (IsDeclaration free (suc extra) 0)) (kind.Int ∷ kind.Name ∷ kind.Semicolon ∷ []) makes; makes = makes }
