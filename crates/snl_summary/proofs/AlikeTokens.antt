-- Tokens with the same bytes declare the same, and have the same clauses.
use Rattle.std.proofs.Common.{◌≡◌, ℕ, Bool, ◌==◌, List, [], ◌∷◌, length, map, Option, Some, None, refl, ap, ap₂, ◌∙◌}
use Rattle.std.proofs.Math.Path.{fun_ext}
use Rattle.std.specs.Prelude.{option_map, slice_get, unwrap_or}
use Rattle.std.specs.List.{flat_map}
use Rattle.snl_lex.specs.declared.piece.Piece.{Piece}
use Rattle.snl_lex.specs.Numbers.{int_value_of}
use Rattle.snl_grammar.specs.declared.tree.clause.Channel.{Channel}
use Rattle.snl_grammar.specs.declared.tree.clause.Channel.TheVariants as channels
use Rattle.snl_grammar.specs.declared.tree.clause.Clause.{Clause}
use Rattle.snl_grammar.specs.declared.tree.clause.Clause.TheVariants as clauses
use Rattle.snl_grammar.specs.declared.tree.clause.Flag.{Flag}
use Rattle.snl_grammar.specs.declared.tree.declaration.Declaration.{Declaration}
use Rattle.snl_grammar.specs.declared.tree.declaration.Declarator.{Declarator}
use Rattle.snl_grammar.specs.declared.tree.expression.Expr.{Expr}
use Rattle.snl_grammar.specs.declared.tree.item.Function.{Function}
use Rattle.snl_grammar.specs.declared.tree.item.Item.{Item}
use Rattle.snl_grammar.specs.declared.tree.item.Item.TheVariants as items
use Rattle.snl_grammar.specs.declared.tree.state.StateMember.{StateMember}
use Rattle.snl_grammar.specs.declared.tree.state.StateMember.TheVariants as members
use Rattle.snl_summary.specs.declared.summary.ClauseKind.{ClauseKind}
use Rattle.snl_summary.specs.declared.summary.ClauseKind.TheVariants as kinds
use Rattle.snl_summary.specs.declared.summary.Coverage.{Coverage}
use Rattle.snl_summary.specs.declared.summary.Coverage.TheVariants as coverage
use Rattle.snl_summary.specs.declared.summary.Declared.{Declared}
use Rattle.snl_summary.specs.declared.summary.NameRef.{NameRef}
use Rattle.snl_summary.specs.declared.summary.SymbolKind.{SymbolKind}
use Rattle.snl_summary.specs.declared.summary.Variable.{Variable}
use Rattle.snl_summary.specs.declared.summary.VariableClause.{VariableClause}
use Rattle.snl_summary.specs.Summaries.Clauses.{clause_of, clause_on, clauses_in, clauses_in_tree, clauses_of_member, covered_by_channel, covered_by_subscript, element, flag_at}
use Rattle.snl_summary.specs.Summaries.Declares.{declared_at, declared_by_declaration, declared_by_declarator, declared_by_foreign, declared_by_function, declared_by_member, declared_if_body, declared_in, declared_in_tree, dims_by, dims_by_integer, dims_of, foreign_name, function_name, known_value, lone_integer, symbol_kind_of, variable_of}
use Rattle.snl_summary.specs.Summaries.Tokens.{name_ref_at}
use Rattle.snl_walk.specs.Tokens.{token_bytes, value_at}

module _ (text moved : List ℕ) (tokens shifted : List Piece) (same : (n : ℕ) → token_bytes text tokens n ≡ token_bytes moved shifted n) where
  same_value : (n : ℕ) → value_at text tokens n ≡ value_at moved shifted n
  same_value n = ap int_value_of (same n)

  pub same_name_ref : (n : ℕ) → name_ref_at text tokens n ≡ name_ref_at moved shifted n
  same_name_ref n =
      let name_ref : List ℕ → NameRef = λ name. record { name = name; token = n } in
      ap name_ref (same n)

  -- ---- clauses

  same_element : (n : ℕ) → element text tokens n ≡ element moved shifted n
  same_element n = ap (λ v. coverage.Element (unwrap_or v 0)) (same_value n)

  same_subscript : (o : Option ℕ) → covered_by_subscript text tokens o ≡ covered_by_subscript moved shifted o
  same_subscript None = refl
  same_subscript (Some n) = same_element n

  same_channel : (c : Channel) → covered_by_channel text tokens c ≡ covered_by_channel moved shifted c
  same_channel (channels.Element subscript to pv) = same_element subscript
  same_channel _ = refl

  same_flag : (o : Option Flag) → option_map (flag_at text tokens) o ≡ option_map (flag_at moved shifted) o
  same_flag None = refl
  same_flag (Some flag) = ap Some (same_name_ref flag.name)

  same_clause_on : (kind : ClauseKind) (n : ℕ) (a b : Coverage) (o : Option Flag) → a ≡ b → clause_on text tokens kind n a o ≡ clause_on moved shifted kind n b o
  same_clause_on kind n a b o e =
      let clause : NameRef → Coverage → Option NameRef → VariableClause = λ variable covered flag. record { variable = variable; flag = flag; coverage = covered; kind = kind } in
      ap (λ variable. clause variable a (option_map (flag_at text tokens) o)) (same_name_ref n)
      ∙ ap₂ (clause (name_ref_at moved shifted n)) e (same_flag o)

  same_clause : (c : Clause) → clause_of text tokens c ≡ clause_of moved shifted c
  same_clause (clauses.Assign name channel) = same_clause_on kinds.Assign name _ _ None (same_channel channel)
  same_clause (clauses.Monitor name subscript) = same_clause_on kinds.Monitor name _ _ None (same_subscript subscript)
  same_clause (clauses.Sync name subscript flag) = same_clause_on kinds.Sync name _ _ (Some flag) (same_subscript subscript)
  same_clause (clauses.Syncq capital name subscript flag queue) = same_clause_on kinds.Syncq name _ _ flag (same_subscript subscript)

  same_member_clauses : (m : StateMember) → clauses_of_member text tokens m ≡ clauses_of_member moved shifted m
  same_member_clauses (members.Clause clause) = ap (λ c. c ∷ []) (same_clause clause)
  same_member_clauses _ = refl

  same_tree_clauses : (t : Item) → clauses_in_tree text tokens t ≡ clauses_in_tree moved shifted t
  same_tree_clauses (items.Clause clause) = ap (λ c. c ∷ []) (same_clause clause)
  same_tree_clauses (items.StateBlock name ms) = ap (λ (f : StateMember → List VariableClause). flat_map f ms) (fun_ext same_member_clauses)
  same_tree_clauses _ = refl

  pub same_clauses : (tree : Option Item) → clauses_in text tokens tree ≡ clauses_in moved shifted tree
  same_clauses None = refl
  same_clauses (Some t) = same_tree_clauses t

  -- ---- declarations

  same_integer : (o : Option ℕ) → dims_by_integer text tokens o ≡ dims_by_integer moved shifted o
  same_integer None = refl
  same_integer (Some n) = ap known_value (same_value n)

  same_dims_by : (no_pointer : Bool) (o : Option (Option Expr)) → dims_by text tokens no_pointer o ≡ dims_by moved shifted no_pointer o
  same_dims_by no_pointer None = refl
  same_dims_by no_pointer (Some None) = refl
  same_dims_by no_pointer (Some (Some e)) = same_integer (lone_integer e)

  same_dims : (d : Declarator) → dims_of text tokens d ≡ dims_of moved shifted d
  same_dims d = same_dims_by (length d.pointers == 0) (slice_get d.lengths 0)

  same_declared : (v w : Variable) (n : ℕ) → v ≡ w → declared_at text tokens v n ≡ declared_at moved shifted w n
  same_declared v w n e =
      let declared : List ℕ → Variable → Declared = λ name variable. record { name = name; token = n; variable = variable } in
      ap₂ declared (same n) e

  same_declarator : (symbol_kind : SymbolKind) (d : Declarator) → declared_by_declarator text tokens symbol_kind d ≡ declared_by_declarator moved shifted symbol_kind d
  same_declarator symbol_kind d = same_declared _ _ d.name (ap (λ dims. variable_of dims symbol_kind) (same_dims d))

  same_declaration : (d : Declaration) → declared_by_declaration text tokens d ≡ declared_by_declaration moved shifted d
  same_declaration d = ap (λ (f : Declarator → Declared). map f d.declarators) (fun_ext (same_declarator (symbol_kind_of d.of.base)))

  same_foreign : (names : List ℕ) → declared_by_foreign text tokens names ≡ declared_by_foreign moved shifted names
  same_foreign names = ap (λ (f : ℕ → Declared). map f names) (fun_ext (λ n. same_declared foreign_name foreign_name n refl))

  same_function : (f : Function) → declared_by_function text tokens f ≡ declared_by_function moved shifted f
  same_function f = ap (λ declared. declared_if_body declared f.body) (same_declared function_name function_name f.name refl)

  same_member : (m : StateMember) → declared_by_member text tokens m ≡ declared_by_member moved shifted m
  same_member (members.Declaration d) = same_declaration d
  same_member (members.Foreign names) = same_foreign names
  same_member _ = refl

  same_tree : (t : Item) → declared_in_tree text tokens t ≡ declared_in_tree moved shifted t
  same_tree (items.Definition d) = same_declaration d
  same_tree (items.Foreign names) = same_foreign names
  same_tree (items.Function f) = same_function f
  same_tree (items.StateBlock name ms) = ap (λ (f : StateMember → List Declared). flat_map f ms) (fun_ext same_member)
  same_tree _ = refl

  pub same_declares : (tree : Option Item) → declared_in text tokens tree ≡ declared_in moved shifted tree
  same_declares None = refl
  same_declares (Some t) = same_tree t
