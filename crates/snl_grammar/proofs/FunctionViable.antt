-- Functions, structs and items that begin with a type: what was read is in the grammar, and what
-- was read before a blamed token can be completed.
use Rattle.std.proofs.Common.{◌≡◌, ℕ, zero, suc, ◌-◌, ◌<◌, Bool, false, List, [], ◌∷◌, ◌++◌, Option, Some, None, refl, ap, subst, ◌∙◌, arith}
use Rattle.snl_lex.specs.declared.kind.Kind.{Kind}
use Rattle.snl_lex.specs.declared.kind.Kind.TheVariants as kind
use Rattle.snl_grammar.specs.declared.tree.types.Base.{Base}
use Rattle.snl_grammar.specs.declared.tree.types.Base.TheVariants as bases
use Rattle.snl_grammar.specs.declared.tree.types.QualifiedType.{QualifiedType}
use Rattle.snl_grammar.specs.declared.tree.types.Pointer.{Pointer}
use Rattle.snl_grammar.specs.declared.tree.expression.Expr.{Expr}
use Rattle.snl_grammar.specs.declared.tree.declaration.Declaration.{Declaration}
use Rattle.snl_grammar.specs.declared.tree.declaration.Parameter.{Parameter}
use Rattle.snl_grammar.specs.declared.tree.statement.Member.{Member}
use Rattle.snl_grammar.specs.declared.tree.item.Function.{Function}
use Rattle.snl_grammar.specs.declared.tree.item.StructMember.{StructMember}
use Rattle.snl_grammar.specs.declared.tree.item.StructMember.TheVariants as members
use Rattle.snl_grammar.specs.declared.tree.item.Item.{Item}
use Rattle.snl_grammar.specs.declared.tree.item.Item.TheVariants as items
use Rattle.snl_grammar.specs.Tokens.{NumberedKind}
use Rattle.snl_grammar.specs.Steps.{Reader, pure, kind_at, expect, accept, many}
use Rattle.snl_grammar.specs.Grammar.Base.{Each, First, Leaf, Perhaps}
use Rattle.snl_grammar.specs.Grammar.Types.{Written, IsType, IsPointer}
use Rattle.snl_grammar.specs.Grammar.Expressions.{AreCommas, IsAssignx}
use Rattle.snl_grammar.specs.Grammar.Declarations.{IsLength, IsInit, IsDeclarator, IsDeclarationOf, IsDeclaration}
use Rattle.snl_grammar.specs.Grammar.Functions.{IsParameterOf, IsParameter, AreParameters, IsBody, IsFunction, IsStructMember, declaration as is_declaration, c_block as is_c_block, IsStruct, IsTypedItem, definition as is_definition, function as is_function, struct_definition as is_struct}
use Rattle.snl_grammar.specs.Reading.Types.{type_of, stars}
use Rattle.snl_grammar.specs.Reading.Expressions.{assignx, commas}
use Rattle.snl_grammar.specs.Reading.Declarations.{lengths, init, declaration, declaration_from}
use Rattle.snl_grammar.specs.Reading.Functions.{some_name, name_by, name_part, parameter_in, parameter, some_parameters, parameters_by, parameters, some_body, body_by, body, function_from, declared_member, c_member, member_by, next_member, struct_members, type_from, declaration_item, struct_definition, function_item, named_by, named_item, item_of, struct_type, struct_by, struct_from, struct_item, type_item, typed_by, typed_item}
use Rattle.snl_grammar.proofs.Viable.{Free, Makes, Viable, Completable, Exists, Both, both, Next, Lists, IsNothing, numbered_kinds, bind_completable, into_completable, choice_viable, refuse_viable, expect_completable, accept_completable, pure_completable, many_completable}
use Rattle.snl_grammar.proofs.TypeLaws.{word_completable, lists_each, none_next, first_then, type_completable, stars_completable}
use Rattle.snl_grammar.proofs.CommasViable.{commas_completable}
use Rattle.snl_grammar.proofs.ExpressionViable.{assignx_completable}
use Rattle.snl_grammar.proofs.Braced.{none_perhaps, some_perhaps, perhaps_completable}
use Rattle.snl_grammar.proofs.DeclarationViable.{make_declaration, IsDeclarationFrom, lengths_completable, init_completable, declaration_completable, declaration_from_completable}

abbrev make_parameter : QualifiedType → List Pointer → Option ℕ → List (Option Expr) → Parameter
make_parameter t ps n ls = record { of = t; pointers = ps; name = n; lengths = ls }

abbrev make_function : QualifiedType → List Pointer → ℕ → List Parameter → Option (List Member) → Function
make_function t ps n xs b = record { of = t; pointers = ps; name = n; parameters = xs; body = b }

abbrev make_type : Bool → Base → Bool → QualifiedType
make_type before b after = record { leading_const = before; base = b; trailing_const = after }

-- ---- parameters

module _ (free extra : ℕ) where
  some_name_viable : Viable free extra some_name (Perhaps (Leaf kind.Name)) (Exists (Perhaps (Leaf kind.Name)))
  unfolding some_name
  some_name_viable = some_perhaps free extra (Leaf kind.Name) (expect kind.Name) (kind.Name ∷ []) (expect_completable free extra kind.Name)

  name_by_viable : (o : Option Kind) → Viable free extra (name_by o) (Perhaps (Leaf kind.Name)) (Exists (Perhaps (Leaf kind.Name)))
  name_by_viable (Some kind.Name) = some_name_viable
  name_by_viable _ = none_perhaps free extra (Leaf kind.Name)

  name_part_completable : Completable free extra name_part (Perhaps (Leaf kind.Name)) []
  unfolding name_part
  name_part_completable = perhaps_completable free extra (Leaf kind.Name) name_by name_by_viable

module _ (free extra : ℕ) (Inner : Expr → List NumberedKind → List NumberedKind → Type 0) (inner : Reader Expr) (fi : Completable free extra inner Inner (kind.Integer ∷ [])) where
  into_parameter_in : (y : Parameter) (k rest : List NumberedKind) → Both (IsType) (λ t. Both (Each IsPointer) (λ ps. Both (Perhaps (Leaf kind.Name)) (λ n. Both (Each (IsLength Inner)) (λ ls. IsNothing (make_parameter t ps n ls))))) y k rest → (IsParameterOf Inner) y k rest
  into_parameter_in y k rest (both v0 m1 w0 (both v1 m2 w1 (both v2 m3 w2 (both v3 m4 w3 h)))) = subst (λ z. (IsParameterOf Inner) z k rest) h.0 (record { m1 = m1; m2 = m2; m3 = m3; of_type = w0; stars = w1; name = w2; lengths = subst (λ l. Each (IsLength Inner) v3 m3 l) h.1 w3 })

  parameter_in_completable : Completable free extra (parameter_in inner) (IsParameterOf Inner) (kind.Int ∷ [])
  unfolding parameter_in
  parameter_in_completable = into_completable free extra (parameter_in inner) _ (IsParameterOf Inner) (kind.Int ∷ []) (into_parameter_in) (bind_completable free extra (type_of) _ (IsType) (λ t. Both (Each IsPointer) (λ ps. Both (Perhaps (Leaf kind.Name)) (λ n. Both (Each (IsLength Inner)) (λ ls. IsNothing (make_parameter t ps n ls))))) (kind.Int ∷ []) [] (type_completable free extra) (λ t. bind_completable free extra (stars) _ (Each IsPointer) (λ ps. Both (Perhaps (Leaf kind.Name)) (λ n. Both (Each (IsLength Inner)) (λ ls. IsNothing (make_parameter t ps n ls)))) [] [] (stars_completable free extra) (λ ps. bind_completable free extra (name_part) _ (Perhaps (Leaf kind.Name)) (λ n. Both (Each (IsLength Inner)) (λ ls. IsNothing (make_parameter t ps n ls))) [] [] (name_part_completable free extra) (λ n. bind_completable free extra (lengths inner) _ (Each (IsLength Inner)) (λ ls. IsNothing (make_parameter t ps n ls)) [] [] (lengths_completable free extra Inner inner fi) (λ ls. pure_completable free extra (make_parameter t ps n ls))))))

nothing_below : 0 < 0 → ⊥
nothing_below h = omega (arith, h)

shortest : (free extra : ℕ) (Inner : Expr → List NumberedKind → List NumberedKind → Type 0) (n : ℕ) (rest : List NumberedKind) → Free free extra (numbered_kinds n (kind.Int ∷ []) ++ rest) → Exists (IsParameterOf Inner) (numbered_kinds n (kind.Int ∷ []) ++ rest) rest
shortest free extra Inner n rest room =
    let t = (type_completable free extra).makes n rest room in
    (make_parameter t.0 [] None [], record { m1 = rest; m2 = rest; m3 = rest; of_type = t.1; stars = refl; name = refl; lengths = refl })

pub parameter_completable : (free extra depth : ℕ) → Completable free extra (parameter depth) (IsParameter free extra depth) (kind.Int ∷ [])
unfolding parameter
parameter_completable free extra (suc depth) = parameter_in_completable free extra (IsAssignx free extra depth) (assignx depth) (assignx_completable free extra depth)
parameter_completable free zero zero = record { viable = refuse_viable free 0 (IsParameter free 0 0) (Exists (IsParameter free 0 0)) (kind.Int ∷ []) (λ n rest room. absurd (nothing_below room.0)); makes = λ n rest room. absurd (nothing_below room.0) }
parameter_completable free (suc extra) zero =
    let makes : Makes free (suc extra) (Exists (IsParameter free (suc extra) 0)) (kind.Int ∷ []) = λ n rest room.
    let t = shortest free (suc extra) (IsAssignx free extra 0) n rest room in
    (t.0, (room.1, t.1)) in
    record { viable = refuse_viable free (suc extra) (IsParameter free (suc extra) 0) (Exists (IsParameter free (suc extra) 0)) (kind.Int ∷ []) makes; makes = makes }

module _ (free extra : ℕ) (R : Parameter → List NumberedKind → List NumberedKind → Type 0) (p : Reader Parameter) (fp : Completable free extra p R (kind.Int ∷ [])) where
  some_of : (xs : List Parameter) (k mid rest : List NumberedKind) → AreCommas R xs k mid → First kind.CloseParen mid rest → AreParameters R xs k rest
  some_of [] k mid rest a f = absurd a
  some_of (x ∷ xs) k mid rest a f = (mid, a, f)

  into_some_parameters : (y : List Parameter) (k rest : List NumberedKind) → Both (AreCommas R) (λ xs. Both (Leaf kind.CloseParen) (λ _. IsNothing (xs))) y k rest → (AreParameters R) y k rest
  into_some_parameters y k rest (both v0 m1 w0 (both v1 m2 w1 h)) = subst (λ z. (AreParameters R) z k rest) h.0 (some_of v0 k m1 rest w0 (first_then kind.CloseParen v1 m1 m2 rest w1 h.1))

  some_parameters_completable : Completable free extra (some_parameters p) (AreParameters R) (kind.Int ∷ kind.CloseParen ∷ [])
  unfolding some_parameters
  some_parameters_completable = into_completable free extra (some_parameters p) _ (AreParameters R) (kind.Int ∷ kind.CloseParen ∷ []) (into_some_parameters) (bind_completable free extra (commas p) _ (AreCommas R) (λ xs. Both (Leaf kind.CloseParen) (λ _. IsNothing (xs))) (kind.Int ∷ []) (kind.CloseParen ∷ []) (commas_completable free extra R p (kind.Int ∷ []) fp) (λ xs. bind_completable free extra (expect kind.CloseParen) _ (Leaf kind.CloseParen) (λ _. IsNothing (xs)) (kind.CloseParen ∷ []) [] (expect_completable free extra kind.CloseParen) (λ _. pure_completable free extra (xs))))

  parameters_by_viable : (o : Option Kind) → Viable free extra (parameters_by p o) (AreParameters R) (Exists (AreParameters R))
  parameters_by_viable (Some kind.CloseParen) = (word_completable free extra kind.CloseParen [] (AreParameters R) (λ k rest f. f)).viable
  parameters_by_viable _ = some_parameters_completable.viable

  in_parameters_completable : Completable free extra (λ k. parameters_by p (kind_at k) k) (AreParameters R) (kind.CloseParen ∷ [])
  in_parameters_completable = record { viable = choice_viable free extra (parameters_by p) (AreParameters R) (Exists (AreParameters R)) parameters_by_viable; makes = λ n rest room. ([], (n, refl)) }

  pub parameters_completable : Completable free extra (parameters p) (Both (Leaf kind.OpenParen) (λ _. AreParameters R)) (kind.OpenParen ∷ kind.CloseParen ∷ [])
  unfolding parameters
  parameters_completable = bind_completable free extra (expect kind.OpenParen) _ (Leaf kind.OpenParen) (λ _. AreParameters R) (kind.OpenParen ∷ []) (kind.CloseParen ∷ []) (expect_completable free extra kind.OpenParen) (λ _. in_parameters_completable)

-- ---- functions; `start` are the shortest kinds of a block

module _ (free extra : ℕ) (Block : List Member → List NumberedKind → List NumberedKind → Type 0) (block : Reader (List Member)) (start : List Kind) (fb : Completable free extra block Block start) where
  into_body : (y : Option (List Member)) (k rest : List NumberedKind) → Both Block (λ b. IsNothing (Some b)) y k rest → IsBody Block y k rest
  into_body y k rest (both b m r h) = subst (λ z. IsBody Block z k rest) h.0 (subst (λ l. Block b k l) h.1 r)

  some_body_viable : Viable free extra (some_body block) (IsBody Block) (Exists (IsBody Block))
  unfolding some_body
  some_body_viable = (into_completable free extra (some_body block) (Both Block (λ b. IsNothing (Some b))) (IsBody Block) (start ++ []) into_body (bind_completable free extra block _ Block (λ b. IsNothing (Some b)) start [] fb (λ b. pure_completable free extra (Some b)))).viable

  body_by_viable : (o : Option Kind) → Viable free extra (body_by block o) (IsBody Block) (Exists (IsBody Block))
  body_by_viable (Some kind.Semicolon) = (word_completable free extra kind.Semicolon None (IsBody Block) (λ k rest f. f)).viable
  body_by_viable _ = some_body_viable

  body_completable : Completable free extra (body block) (IsBody Block) (kind.Semicolon ∷ [])
  unfolding body
  body_completable = record { viable = choice_viable free extra (body_by block) (IsBody Block) (Exists (IsBody Block)) body_by_viable; makes = λ n rest room. (None, (n, refl)) }

-- what comes after a function's name
pub record IsFunctionFrom (Param : Parameter → List NumberedKind → List NumberedKind → Type 0) (Block : List Member → List NumberedKind → List NumberedKind → Type 0) (t : QualifiedType) (ps : List Pointer) (n : ℕ) (f : Function) (k rest : List NumberedKind) : Type 0 where
  pub xs : List Parameter
  pub b : Option (List Member)
  pub m1 : List NumberedKind
  pub m2 : List NumberedKind
  pub made : make_function t ps n xs b ≡ f
  pub opening : First kind.OpenParen k m1
  pub parameters : AreParameters Param xs m1 m2
  pub body : IsBody Block b m2 rest

module _ (free extra : ℕ) (Param : Parameter → List NumberedKind → List NumberedKind → Type 0) (p : Reader Parameter) (fp : Completable free extra p Param (kind.Int ∷ [])) (Block : List Member → List NumberedKind → List NumberedKind → Type 0) (block : Reader (List Member)) (start : List Kind) (fb : Completable free extra block Block start) where
  into_function : (t : QualifiedType) (ps : List Pointer) (n : ℕ) (y : Function) (k rest : List NumberedKind) → Both (Both (Leaf kind.OpenParen) (λ _. AreParameters Param)) (λ xs. Both (IsBody Block) (λ b. IsNothing (make_function t ps n xs b))) y k rest → IsFunctionFrom Param Block t ps n y k rest
  into_function t ps n y k rest (both xs m2 (both i m1 w0 w1) (both b m3 w2 h)) = record { xs = xs; b = b; m1 = m1; m2 = m2; made = h.0; opening = (i, w0); parameters = w1; body = subst (λ l. IsBody Block b m2 l) h.1 w2 }

  pub function_from_completable : (t : QualifiedType) (ps : List Pointer) (n : ℕ) → Completable free extra (function_from p block t ps n) (IsFunctionFrom Param Block t ps n) (kind.OpenParen ∷ kind.CloseParen ∷ kind.Semicolon ∷ [])
  unfolding function_from
  function_from_completable t ps n = into_completable free extra (function_from p block t ps n) _ (IsFunctionFrom Param Block t ps n) (kind.OpenParen ∷ kind.CloseParen ∷ kind.Semicolon ∷ []) (into_function t ps n)
      (bind_completable free extra (parameters p) _ (Both (Leaf kind.OpenParen) (λ _. AreParameters Param)) (λ xs. Both (IsBody Block) (λ b. IsNothing (make_function t ps n xs b))) (kind.OpenParen ∷ kind.CloseParen ∷ []) (kind.Semicolon ∷ []) (parameters_completable free extra Param p fp) (λ xs.
      bind_completable free extra (body block) _ (IsBody Block) (λ b. IsNothing (make_function t ps n xs b)) (kind.Semicolon ∷ []) [] (body_completable free extra Block block start fb) (λ b. pure_completable free extra (make_function t ps n xs b))))

-- ---- structs

module _ (free extra : ℕ) (Inner : Declaration → List NumberedKind → List NumberedKind → Type 0) (inner : Reader Declaration) (start : List Kind) (fi : Completable free extra inner Inner start) where
  into_declared : (y : Option StructMember) (k rest : List NumberedKind) → Both Inner (λ d. IsNothing (Some (members.Declaration d))) y k rest → Next (IsStructMember Inner) y k rest
  into_declared y k rest (both d m r h) = subst (λ z. Next (IsStructMember Inner) z k rest) h.0 (is_declaration d refl (subst (λ l. Inner d k l) h.1 r))

  declared_viable : Viable free extra (declared_member inner) (Next (IsStructMember Inner)) (Exists (Next (IsStructMember Inner)))
  unfolding declared_member
  declared_viable = (into_completable free extra (declared_member inner) _ (Next (IsStructMember Inner)) (start ++ []) into_declared (bind_completable free extra inner _ Inner (λ d. IsNothing (Some (members.Declaration d))) start [] fi (λ d. pure_completable free extra (Some (members.Declaration d))))).viable

  into_c : (y : Option StructMember) (k rest : List NumberedKind) → Both (Leaf kind.CCode) (λ n. IsNothing (Some (members.CBlock n))) y k rest → Next (IsStructMember Inner) y k rest
  into_c y k rest (both n m e h) = subst (λ z. Next (IsStructMember Inner) z k rest) h.0 (is_c_block n refl (e ∙ ap (λ (l : List NumberedKind). (kind.CCode, n) ∷ l) h.1))

  c_viable : Viable free extra c_member (Next (IsStructMember Inner)) (Exists (Next (IsStructMember Inner)))
  unfolding c_member
  c_viable = (into_completable free extra c_member _ (Next (IsStructMember Inner)) (kind.CCode ∷ []) into_c (bind_completable free extra (expect kind.CCode) _ (Leaf kind.CCode) (λ n. IsNothing (Some (members.CBlock n))) (kind.CCode ∷ []) [] (expect_completable free extra kind.CCode) (λ n. pure_completable free extra (Some (members.CBlock n))))).viable

  member_by_viable : (o : Option Kind) → Viable free extra (member_by inner o) (Next (IsStructMember Inner)) (Exists (Next (IsStructMember Inner)))
  member_by_viable (Some kind.CloseBrace) = (into_completable free extra (pure None) (IsNothing None) (Next (IsStructMember Inner)) [] (none_next (IsStructMember Inner)) (pure_completable free extra None)).viable
  member_by_viable (Some kind.CCode) = c_viable
  member_by_viable _ = declared_viable

  next_member_viable : Viable free extra (next_member inner) (Next (IsStructMember Inner)) (Exists (Next (IsStructMember Inner)))
  unfolding next_member
  next_member_viable = choice_viable free extra (member_by inner) (Next (IsStructMember Inner)) (Exists (Next (IsStructMember Inner))) member_by_viable

  members_completable : Completable free extra (many (next_member inner) []) (Each (IsStructMember Inner)) []
  members_completable = into_completable free extra (many (next_member inner) []) (Lists (IsStructMember Inner) []) (Each (IsStructMember Inner)) [] (lists_each (IsStructMember Inner)) (many_completable free extra (IsStructMember Inner) (next_member inner) next_member_viable [])

  -- what comes after `struct NAME`
  abbrev pub AreMembers : List StructMember → List NumberedKind → List NumberedKind → Type 0
  AreMembers xs k rest = (n : ℕ) (k1 k2 : List NumberedKind) → First kind.Struct k1 k2 → Leaf kind.Name n k2 k → IsStruct Inner n xs k1 rest

  into_struct_members : (y : List StructMember) (k rest : List NumberedKind) → Both (Leaf kind.OpenBrace) (λ _. Both (Each (IsStructMember Inner)) (λ xs. Both (Leaf kind.CloseBrace) (λ _. Both (Leaf kind.Semicolon) (λ _. IsNothing (xs))))) y k rest → (AreMembers) y k rest
  into_struct_members y k rest (both v0 m1 w0 (both v1 m2 w1 (both v2 m3 w2 (both v3 m4 w3 h)))) = subst (λ z. (AreMembers) z k rest) h.0 (λ n k1 k2 word name. record { m1 = k2; m2 = k; m3 = m1; m4 = m2; m5 = m3; word = word; name = name; opening = (v0, w0); members = w1; closing = (v2, w2); semicolon = first_then kind.Semicolon v3 m3 m4 rest w3 h.1 })

  pub struct_members_completable : Completable free extra (struct_members inner) (AreMembers) (kind.OpenBrace ∷ kind.CloseBrace ∷ kind.Semicolon ∷ [])
  unfolding struct_members
  struct_members_completable = into_completable free extra (struct_members inner) _ (AreMembers) (kind.OpenBrace ∷ kind.CloseBrace ∷ kind.Semicolon ∷ []) (into_struct_members) (bind_completable free extra (expect kind.OpenBrace) _ (Leaf kind.OpenBrace) (λ _. Both (Each (IsStructMember Inner)) (λ xs. Both (Leaf kind.CloseBrace) (λ _. Both (Leaf kind.Semicolon) (λ _. IsNothing (xs))))) (kind.OpenBrace ∷ []) (kind.CloseBrace ∷ kind.Semicolon ∷ []) (expect_completable free extra kind.OpenBrace) (λ _. bind_completable free extra (many (next_member inner) []) _ (Each (IsStructMember Inner)) (λ xs. Both (Leaf kind.CloseBrace) (λ _. Both (Leaf kind.Semicolon) (λ _. IsNothing (xs)))) [] (kind.CloseBrace ∷ kind.Semicolon ∷ []) (members_completable) (λ xs. bind_completable free extra (expect kind.CloseBrace) _ (Leaf kind.CloseBrace) (λ _. Both (Leaf kind.Semicolon) (λ _. IsNothing (xs))) (kind.CloseBrace ∷ []) (kind.Semicolon ∷ []) (expect_completable free extra kind.CloseBrace) (λ _. bind_completable free extra (expect kind.Semicolon) _ (Leaf kind.Semicolon) (λ _. IsNothing (xs)) (kind.Semicolon ∷ []) [] (expect_completable free extra kind.Semicolon) (λ _. pure_completable free extra (xs))))))

-- ---- items that begin with a type, in so many levels with the one that they are in

module _ (free extra depth : ℕ) (Block : List Member → List NumberedKind → List NumberedKind → Type 0) (block : Reader (List Member)) (start : List Kind) (fb : Completable free extra block Block start) where
  abbrev pub IsTyped : Item → List NumberedKind → List NumberedKind → Type 0
  IsTyped = IsTypedItem (IsDeclarationOf (IsAssignx free extra (depth - 1)) (IsInit free extra depth)) (IsDeclaration free extra (depth - 1)) (IsParameter free extra (depth - 1)) Block

  -- what comes after a type, stars and a name
  abbrev AfterName : QualifiedType → List Pointer → ℕ → Item → List NumberedKind → List NumberedKind → Type 0
  AfterName t ps n y k rest = (k1 k2 k3 : List NumberedKind) → IsType t k1 k2 → Each IsPointer ps k2 k3 → Leaf kind.Name n k3 k → IsTyped y k1 rest

  into_definition : (t : QualifiedType) (ps : List Pointer) (n : ℕ) (y : Item) (k rest : List NumberedKind) → Both (IsDeclarationFrom (IsAssignx free extra (depth - 1)) (IsInit free extra depth) t ps n) (λ d. IsNothing (items.Definition d)) y k rest → AfterName t ps n y k rest
  into_definition t ps n y k rest (both d m r h) k1 k2 k3 of_type pointers name =
      let first = r.2 in
      let more = r.3 in
      let is : IsDeclarationOf (IsAssignx free extra (depth - 1)) (IsInit free extra depth) (make_declaration t (r.0 ∷ more.ds)) k1 rest = record { m1 = k2; m2 = more.mid; of_type = of_type; declarators = (r.1, subst (λ z. IsDeclarator (IsAssignx free extra (depth - 1)) (IsInit free extra depth) z k2 r.1) first.made (record { m1 = k3; m2 = k; m3 = first.mid; stars = pointers; name = name; lengths = first.lengths; init = first.init }), more.more); semicolon = subst (λ l. First kind.Semicolon more.mid l) h.1 more.semicolon } in
      subst (λ z. IsTyped z k1 rest) h.0 (is_definition d refl (subst (λ z. IsDeclarationOf (IsAssignx free extra (depth - 1)) (IsInit free extra depth) z k1 rest) more.made is))

  declaration_item_completable : (t : QualifiedType) (ps : List Pointer) (n : ℕ) → Completable free extra (declaration_item depth t ps n) (AfterName t ps n) (kind.Semicolon ∷ [])
  unfolding declaration_item
  declaration_item_completable t ps n = into_completable free extra (declaration_item depth t ps n) _ (AfterName t ps n) (kind.Semicolon ∷ []) (into_definition t ps n) (bind_completable free extra (declaration_from (assignx (depth - 1)) (init depth) t ps n) _ (IsDeclarationFrom (IsAssignx free extra (depth - 1)) (IsInit free extra depth) t ps n) (λ d. IsNothing (items.Definition d)) (kind.Semicolon ∷ []) [] (declaration_from_completable free extra (IsAssignx free extra (depth - 1)) (IsInit free extra depth) (assignx (depth - 1)) (init depth) (assignx_completable free extra (depth - 1)) (init_completable free extra depth) t ps n) (λ d. pure_completable free extra (items.Definition d)))

  into_function_item : (t : QualifiedType) (ps : List Pointer) (n : ℕ) (y : Item) (k rest : List NumberedKind) → Both (IsFunctionFrom (IsParameter free extra (depth - 1)) Block t ps n) (λ f. IsNothing (items.Function f)) y k rest → AfterName t ps n y k rest
  into_function_item t ps n y k rest (both f m r h) k1 k2 k3 of_type pointers name =
      let is : IsFunction (IsParameter free extra (depth - 1)) Block (make_function t ps n r.xs r.b) k1 rest = record { m1 = k2; m2 = k3; m3 = k; m4 = r.m1; m5 = r.m2; of_type = of_type; stars = pointers; name = name; opening = r.opening; parameters = r.parameters; body = subst (λ l. IsBody Block r.b r.m2 l) h.1 r.body } in
      subst (λ z. IsTyped z k1 rest) h.0 (is_function f refl (subst (λ z. IsFunction (IsParameter free extra (depth - 1)) Block z k1 rest) r.made is))

  function_item_viable : (t : QualifiedType) (ps : List Pointer) (n : ℕ) → Viable free extra (function_item depth block t ps n) (AfterName t ps n) (Exists (AfterName t ps n))
  unfolding function_item
  function_item_viable t ps n = (into_completable free extra (function_item depth block t ps n) _ (AfterName t ps n) (kind.OpenParen ∷ kind.CloseParen ∷ kind.Semicolon ∷ []) (into_function_item t ps n) (bind_completable free extra (function_from (parameter (depth - 1)) block t ps n) _ (IsFunctionFrom (IsParameter free extra (depth - 1)) Block t ps n) (λ f. IsNothing (items.Function f)) (kind.OpenParen ∷ kind.CloseParen ∷ kind.Semicolon ∷ []) [] (function_from_completable free extra (IsParameter free extra (depth - 1)) (parameter (depth - 1)) (parameter_completable free extra (depth - 1)) Block block start fb t ps n) (λ f. pure_completable free extra (items.Function f)))).viable

  named_by_viable : (t : QualifiedType) (ps : List Pointer) (n : ℕ) (o : Option Kind) → Viable free extra (named_by depth block t ps n o) (AfterName t ps n) (Exists (AfterName t ps n))
  named_by_viable t ps n (Some kind.OpenParen) = function_item_viable t ps n
  named_by_viable t ps n _ = (declaration_item_completable t ps n).viable

  named_item_completable : (t : QualifiedType) (ps : List Pointer) (n : ℕ) → Completable free extra (named_item depth block t ps n) (AfterName t ps n) (kind.Semicolon ∷ [])
  unfolding named_item
  named_item_completable t ps n = record { viable = choice_viable free extra (named_by depth block t ps n) (AfterName t ps n) (Exists (AfterName t ps n)) (named_by_viable t ps n); makes = (declaration_item_completable t ps n).makes }

  -- what comes after a type
  abbrev AfterType : QualifiedType → Item → List NumberedKind → List NumberedKind → Type 0
  AfterType t y k rest = (k1 : List NumberedKind) → IsType t k1 k → IsTyped y k1 rest

  into_of : (t : QualifiedType) (y : Item) (k rest : List NumberedKind) → Both (Each IsPointer) (λ ps. Both (Leaf kind.Name) (λ n. AfterName t ps n)) y k rest → AfterType t y k rest
  into_of t y k rest (both ps m1 w1 (both n m2 w2 b)) k1 of_type = b k1 k m1 of_type w1 w2

  item_of_completable : (t : QualifiedType) → Completable free extra (item_of depth block t) (AfterType t) (kind.Name ∷ kind.Semicolon ∷ [])
  unfolding item_of
  item_of_completable t = into_completable free extra (item_of depth block t) _ (AfterType t) (kind.Name ∷ kind.Semicolon ∷ []) (into_of t) (bind_completable free extra stars _ (Each IsPointer) (λ ps. Both (Leaf kind.Name) (λ n. AfterName t ps n)) [] (kind.Name ∷ kind.Semicolon ∷ []) (stars_completable free extra) (λ ps. bind_completable free extra (expect kind.Name) _ (Leaf kind.Name) (λ n. AfterName t ps n) (kind.Name ∷ []) (kind.Semicolon ∷ []) (expect_completable free extra kind.Name) (λ n. named_item_completable t ps n)))

  -- what comes after `struct NAME`
  abbrev AfterStruct : ℕ → Item → List NumberedKind → List NumberedKind → Type 0
  AfterStruct n y k rest = (k1 k2 : List NumberedKind) → First kind.Struct k1 k2 → Leaf kind.Name n k2 k → IsTyped y k1 rest

  into_struct : (n : ℕ) (y : Item) (k rest : List NumberedKind) → Both (AreMembers free extra (IsDeclaration free extra (depth - 1)) (declaration (depth - 1)) (kind.Int ∷ kind.Name ∷ kind.Semicolon ∷ []) (declaration_completable free extra (depth - 1))) (λ xs. IsNothing (items.StructDef n xs)) y k rest → AfterStruct n y k rest
  into_struct n y k rest (both xs m r h) k1 k2 w e = subst (λ z. IsTyped z k1 rest) h.0 (is_struct n xs refl (subst (λ l. IsStruct (IsDeclaration free extra (depth - 1)) n xs k1 l) h.1 (r n k1 k2 w e)))

  struct_definition_viable : (n : ℕ) → Viable free extra (struct_definition depth n) (AfterStruct n) (Exists (AfterStruct n))
  unfolding struct_definition
  struct_definition_viable n = (into_completable free extra (struct_definition depth n) _ (AfterStruct n) (kind.OpenBrace ∷ kind.CloseBrace ∷ kind.Semicolon ∷ []) (into_struct n) (bind_completable free extra (struct_members (declaration (depth - 1))) _ (AreMembers free extra (IsDeclaration free extra (depth - 1)) (declaration (depth - 1)) (kind.Int ∷ kind.Name ∷ kind.Semicolon ∷ []) (declaration_completable free extra (depth - 1))) (λ xs. IsNothing (items.StructDef n xs)) (kind.OpenBrace ∷ kind.CloseBrace ∷ kind.Semicolon ∷ []) [] (struct_members_completable free extra (IsDeclaration free extra (depth - 1)) (declaration (depth - 1)) (kind.Int ∷ kind.Name ∷ kind.Semicolon ∷ []) (declaration_completable free extra (depth - 1))) (λ xs. pure_completable free extra (items.StructDef n xs)))).viable

  type_from_completable : (n : ℕ) → Completable free extra (type_from false (bases.Struct n)) (Both (Written kind.Const) (λ after. IsNothing (make_type false (bases.Struct n) after))) []
  unfolding type_from
  type_from_completable n = bind_completable free extra (accept kind.Const) _ (Written kind.Const) (λ after. IsNothing (make_type false (bases.Struct n) after)) [] [] (accept_completable free extra kind.Const) (λ after. pure_completable free extra (make_type false (bases.Struct n) after))

  into_type : (n : ℕ) (y : Item) (k rest : List NumberedKind) → Both (Both (Written kind.Const) (λ after. IsNothing (make_type false (bases.Struct n) after))) AfterType y k rest → AfterStruct n y k rest
  into_type n y k rest (both t m (both after m1 w h) b) k1 k2 f e =
      b k1 (subst (λ z. IsType z k1 m) h.0 (record { m1 = k1; m2 = k; before = refl; base = (k2, f, e); after = subst (λ l. Written kind.Const after k l) h.1 w }))

  struct_type_completable : (n : ℕ) → Completable free extra (struct_type depth block n) (AfterStruct n) (kind.Name ∷ kind.Semicolon ∷ [])
  unfolding struct_type
  struct_type_completable n = into_completable free extra (struct_type depth block n) _ (AfterStruct n) (kind.Name ∷ kind.Semicolon ∷ []) (into_type n) (bind_completable free extra (type_from false (bases.Struct n)) _ (Both (Written kind.Const) (λ after. IsNothing (make_type false (bases.Struct n) after))) AfterType [] (kind.Name ∷ kind.Semicolon ∷ []) (type_from_completable n) item_of_completable)

  struct_by_viable : (n : ℕ) (o : Option Kind) → Viable free extra (struct_by depth block n o) (AfterStruct n) (Exists (AfterStruct n))
  struct_by_viable n (Some kind.OpenBrace) = struct_definition_viable n
  struct_by_viable n _ = (struct_type_completable n).viable

  struct_from_completable : (n : ℕ) → Completable free extra (struct_from depth block n) (AfterStruct n) (kind.Name ∷ kind.Semicolon ∷ [])
  unfolding struct_from
  struct_from_completable n = record { viable = choice_viable free extra (struct_by depth block n) (AfterStruct n) (Exists (AfterStruct n)) (struct_by_viable n); makes = (struct_type_completable n).makes }

  into_struct_item : (y : Item) (k rest : List NumberedKind) → Both (Leaf kind.Struct) (λ _. Both (Leaf kind.Name) AfterStruct) y k rest → IsTyped y k rest
  into_struct_item y k rest (both i m1 w1 (both n m2 w2 b)) = b k m1 (i, w1) w2

  struct_item_viable : Viable free extra (struct_item depth block) IsTyped (Exists IsTyped)
  unfolding struct_item
  struct_item_viable = (into_completable free extra (struct_item depth block) _ IsTyped (kind.Struct ∷ kind.Name ∷ kind.Name ∷ kind.Semicolon ∷ []) into_struct_item (bind_completable free extra (expect kind.Struct) _ (Leaf kind.Struct) (λ _. Both (Leaf kind.Name) AfterStruct) (kind.Struct ∷ []) (kind.Name ∷ kind.Name ∷ kind.Semicolon ∷ []) (expect_completable free extra kind.Struct) (λ _. bind_completable free extra (expect kind.Name) _ (Leaf kind.Name) AfterStruct (kind.Name ∷ []) (kind.Name ∷ kind.Semicolon ∷ []) (expect_completable free extra kind.Name) struct_from_completable))).viable

  into_type_item : (y : Item) (k rest : List NumberedKind) → Both IsType AfterType y k rest → IsTyped y k rest
  into_type_item y k rest (both t m w b) = b k w

  type_item_completable : Completable free extra (type_item depth block) IsTyped (kind.Int ∷ kind.Name ∷ kind.Semicolon ∷ [])
  unfolding type_item
  type_item_completable = into_completable free extra (type_item depth block) _ IsTyped (kind.Int ∷ kind.Name ∷ kind.Semicolon ∷ []) into_type_item (bind_completable free extra type_of _ IsType AfterType (kind.Int ∷ []) (kind.Name ∷ kind.Semicolon ∷ []) (type_completable free extra) item_of_completable)

  typed_by_viable : (o : Option Kind) → Viable free extra (typed_by depth block o) IsTyped (Exists IsTyped)
  typed_by_viable (Some kind.Struct) = struct_item_viable
  typed_by_viable _ = type_item_completable.viable

  pub typed_item_completable : Completable free extra (typed_item depth block) IsTyped (kind.Int ∷ kind.Name ∷ kind.Semicolon ∷ [])
  unfolding typed_item
  typed_item_completable = record { viable = choice_viable free extra (typed_by depth block) IsTyped (Exists IsTyped) typed_by_viable; makes = type_item_completable.makes }
