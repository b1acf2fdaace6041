-- The names that an item declares, and those of its clauses, are leaves of what its tree spells, in
-- their order.
use Rattle.std.proofs.Common.{◌≡◌, ℕ, List, [], ◌∷◌, ◌++◌, map, Option, None, Some, refl, sym, subst}
use Rattle.std.proofs.lemmas.Grind.{flat_map-append}
use Rattle.std.proofs.lemmas.List.{append-nil, map-append}
use Rattle.std.proofs.lemmas.List.Concat.{flat_map_single}
use Rattle.std.specs.List.{flat_map}
use Rattle.std.specs.List.Sorted.{IsStrictlyIncreasing}
use Rattle.snl_facts.specs.Each.{rising_from_two}
use Rattle.snl_lex.specs.declared.piece.Piece.{Piece}
use Rattle.snl_lex.specs.declared.kind.Kind.{Kind}
use Rattle.snl_lex.specs.declared.kind.Kind.TheVariants as kind
use Rattle.snl_grammar.specs.declared.tree.clause.Clause.{Clause}
use Rattle.snl_grammar.specs.declared.tree.clause.Clause.TheVariants as clauses
use Rattle.snl_grammar.specs.declared.tree.clause.Flag.{Flag}
use Rattle.snl_grammar.specs.declared.tree.declaration.Declaration.{Declaration}
use Rattle.snl_grammar.specs.declared.tree.declaration.Declarator.{Declarator}
use Rattle.snl_grammar.specs.declared.tree.item.Function.{Function}
use Rattle.snl_grammar.specs.declared.tree.item.Item.{Item}
use Rattle.snl_grammar.specs.declared.tree.item.Item.TheVariants as items
use Rattle.snl_grammar.specs.declared.tree.state.StateMember.{StateMember}
use Rattle.snl_grammar.specs.declared.tree.state.StateMember.TheVariants as members
use Rattle.snl_grammar.specs.declared.tree.statement.Member.{Member}
use Rattle.snl_grammar.specs.Spelling.Base.{Matches, Spelled, commas, in_parens, joined, leaf, perhaps, word, written}
use Rattle.snl_grammar.specs.Spelling.Clauses.{spell_channel, spell_clause, spell_flag, spell_foreign, spell_subscript, spell_syncq}
use Rattle.snl_grammar.specs.Spelling.Declarations.{spell_declaration, spell_declarator, spell_length, spell_value}
use Rattle.snl_grammar.specs.Spelling.Functions.{spell_body, spell_function, spell_parameter}
use Rattle.snl_grammar.specs.Spelling.Items.{spell_item}
use Rattle.snl_grammar.specs.Spelling.States.{spell_state, spell_state_member}
use Rattle.snl_grammar.specs.Spelling.Types.{spell_stars, spell_type}
use Rattle.snl_grammar.specs.Tokens.{ahead}
use Rattle.snl_summary.specs.declared.summary.Declared.{Declared}
use Rattle.snl_summary.specs.declared.summary.VariableClause.{VariableClause}
use Rattle.snl_summary.specs.RisingTokens.{TokensRise, declared_tokens, flag_tokens, tokens_of_flag, variable_tokens}
use Rattle.snl_summary.specs.Summaries.{outline_in}
use Rattle.snl_summary.specs.Summaries.Clauses.{clause_of, clauses_in_tree, clauses_of_member}
use Rattle.snl_summary.specs.Summaries.Declares.{declared_at, declared_by_declaration, declared_by_declarator, declared_by_foreign, declared_by_function, declared_by_member, declared_if_body, declared_in_tree, foreign_name, function_name, symbol_kind_of}
use Rattle.snl_summary.specs.LeafLaws.{AreLeaves, leaves_after, leaves_before, leaves_between, leaves_joined, leaves_rise, no_leaves, one_leaf}

abbrev tokens_declared : List Declared → List ℕ
tokens_declared = map (λ d. d.token)

-- what a function spells before its body
abbrev before_body : Function → List Spelled
before_body f = spell_type f.of ++ spell_stars f.pointers ++ leaf kind.Name f.name ++ in_parens (commas (map spell_parameter f.parameters))

-- the leaves of a state's members are leaves of the state
in_state : (name : ℕ) (ms : List StateMember) {ns : List ℕ} → AreLeaves ns (joined (map spell_state_member ms)) → AreLeaves ns (spell_state name ms)
in_state name ms l = leaves_after (word kind.State ++ leaf kind.Name name) (leaves_before (word kind.CloseBrace) (leaves_after (word kind.OpenBrace) l))

module _ (text : List ℕ) (tokens : List Piece) where
  by_commas : {A : Type 0} (f : A → Declared) (spell : A → List Spelled) → ((a : A) → AreLeaves ((f a).token ∷ []) (spell a)) → (xs : List A) → AreLeaves (tokens_declared (map f xs)) (commas (map spell xs))
  by_commas f spell each xs =
      subst (λ ds. AreLeaves (tokens_declared ds) (commas (map spell xs))) (flat_map_single f xs) (leaves_between tokens_declared refl (map-append (λ d. d.token)) (λ a. f a ∷ []) spell each kind.Comma xs)

  declarator_leaf : (d : Declarator) → AreLeaves (d.name ∷ []) (spell_declarator d)
  declarator_leaf d = leaves_before (perhaps spell_value d.init) (leaves_before (joined (map spell_length d.lengths)) (leaves_after (spell_stars d.pointers) (one_leaf kind.Name d.name)))

  declaration_leaves : (d : Declaration) → AreLeaves (tokens_declared (declared_by_declaration text tokens d)) (spell_declaration d)
  declaration_leaves d =
      leaves_before (word kind.Semicolon) (leaves_after (spell_type d.of) (by_commas (declared_by_declarator text tokens (symbol_kind_of d.of.base)) spell_declarator declarator_leaf d.declarators))

  foreign_leaves : (ns : List ℕ) → AreLeaves (tokens_declared (declared_by_foreign text tokens ns)) (spell_foreign ns)
  foreign_leaves ns = leaves_before (word kind.Semicolon) (leaves_after (word kind.Foreign) (by_commas (declared_at text tokens foreign_name) (leaf kind.Name) (one_leaf kind.Name) ns))

  function_leaves : (f : Function) → AreLeaves (tokens_declared (declared_by_function text tokens f)) (spell_function f)
  function_leaves f = by f.body
    where
      by : (body : Option (List Member)) → AreLeaves (tokens_declared (declared_if_body (declared_at text tokens function_name f.name) body)) (before_body f ++ spell_body body)
      by None = no_leaves (before_body f ++ word kind.Semicolon)
      by (Some block) = leaves_before (spell_body (Some block)) (leaves_before (in_parens (commas (map spell_parameter f.parameters))) (leaves_after (spell_type f.of ++ spell_stars f.pointers) (one_leaf kind.Name f.name)))

  declared_member_leaves : (m : StateMember) → AreLeaves (tokens_declared (declared_by_member text tokens m)) (spell_state_member m)
  declared_member_leaves (members.Declaration d) = declaration_leaves d
  declared_member_leaves (members.Foreign ns) = foreign_leaves ns
  declared_member_leaves m = no_leaves (spell_state_member m)

  pub declared_leaves : (t : Item) → AreLeaves (tokens_declared (declared_in_tree text tokens t)) (spell_item t)
  declared_leaves (items.Definition d) = declaration_leaves d
  declared_leaves (items.Foreign ns) = foreign_leaves ns
  declared_leaves (items.Function f) = function_leaves f
  declared_leaves (items.StateBlock name ms) =
      in_state name ms (leaves_joined tokens_declared refl (map-append (λ d. d.token)) (declared_by_member text tokens) spell_state_member declared_member_leaves ms)
  declared_leaves t = no_leaves (spell_item t)

  variable_leaf : (c : Clause) → AreLeaves ((clause_of text tokens c).variable.token ∷ []) (spell_clause c)
  variable_leaf (clauses.Assign name channel) = leaves_before (word kind.Semicolon) (leaves_before (spell_channel channel) (leaves_after (word kind.Assign) (one_leaf kind.Name name)))
  variable_leaf (clauses.Monitor name subscript) =
      leaves_before (word kind.Semicolon) (leaves_before (perhaps spell_subscript subscript) (leaves_after (word kind.Monitor) (one_leaf kind.Name name)))
  variable_leaf (clauses.Sync name subscript flag) =
      leaves_before (word kind.Semicolon) (leaves_before (spell_flag flag) (leaves_before (perhaps spell_subscript subscript) (leaves_after (word kind.Sync) (one_leaf kind.Name name))))
  variable_leaf (clauses.Syncq capital name subscript flag queue) =
      leaves_before (word kind.Semicolon) (leaves_before (perhaps (leaf kind.Integer) queue) (leaves_before (perhaps spell_flag flag) (leaves_before (perhaps spell_subscript subscript) (leaves_after (spell_syncq capital) (one_leaf kind.Name name)))))

  flag_leaf : (flag : Flag) → AreLeaves (flag.name ∷ []) (spell_flag flag)
  flag_leaf flag = leaves_after (written kind.To flag.to) (one_leaf kind.Name flag.name)

  flag_leaves : (c : Clause) → AreLeaves (tokens_of_flag (clause_of text tokens c)) (spell_clause c)
  flag_leaves (clauses.Assign name channel) = no_leaves (spell_clause (clauses.Assign name channel))
  flag_leaves (clauses.Monitor name subscript) = no_leaves (spell_clause (clauses.Monitor name subscript))
  flag_leaves (clauses.Sync name subscript flag) =
      leaves_before (word kind.Semicolon) (leaves_after (word kind.Sync ++ leaf kind.Name name ++ perhaps spell_subscript subscript) (flag_leaf flag))
  flag_leaves (clauses.Syncq capital name subscript None queue) = no_leaves (spell_clause (clauses.Syncq capital name subscript None queue))
  flag_leaves (clauses.Syncq capital name subscript (Some flag) queue) =
      leaves_before (word kind.Semicolon) (leaves_before (perhaps (leaf kind.Integer) queue) (leaves_after (spell_syncq capital ++ leaf kind.Name name ++ perhaps spell_subscript subscript) (flag_leaf flag)))

  -- of what is told of each clause
  module _ (found : List VariableClause → List ℕ) (none_found : found [] ≡ []) (found-append : (cs ds : List VariableClause) → found (cs ++ ds) ≡ found cs ++ found ds)
      (one : (c : Clause) → AreLeaves (found (clause_of text tokens c ∷ [])) (spell_clause c)) where
    nothing_found : (xs : List Spelled) → AreLeaves (found []) xs
    nothing_found xs = subst (λ ns. AreLeaves ns xs) (sym none_found) (no_leaves xs)

    member_leaves : (m : StateMember) → AreLeaves (found (clauses_of_member text tokens m)) (spell_state_member m)
    member_leaves (members.Clause c) = one c
    member_leaves m = nothing_found (spell_state_member m)

    clause_leaves : (t : Item) → AreLeaves (found (clauses_in_tree text tokens t)) (spell_item t)
    clause_leaves (items.Clause c) = one c
    clause_leaves (items.StateBlock name ms) =
        in_state name ms (leaves_joined found none_found found-append (clauses_of_member text tokens) spell_state_member member_leaves ms)
    clause_leaves t = nothing_found (spell_item t)

  pub variable_leaves : (t : Item) → AreLeaves (map (λ c. c.variable.token) (clauses_in_tree text tokens t)) (spell_item t)
  variable_leaves = clause_leaves (map (λ c. c.variable.token)) refl (map-append (λ c. c.variable.token)) variable_leaf

  pub flags_leaves : (t : Item) → AreLeaves (flat_map tokens_of_flag (clauses_in_tree text tokens t)) (spell_item t)
  flags_leaves = clause_leaves (flat_map tokens_of_flag) refl (flat_map-append tokens_of_flag) (λ c. subst (λ ns. AreLeaves ns (spell_clause c)) (sym (append-nil (tokens_of_flag (clause_of text tokens c)))) (flag_leaves c))

  -- so the tokens of each sort rise
  pub rises_in : (t : Item) (kinds : List Kind) → Matches (spell_item t) (ahead kinds 0) → TokensRise (outline_in text tokens (Some t))
  rises_in t kinds h = record {
    declared = rising (declared_tokens (outline_in text tokens (Some t))) (declared_leaves t);
    variables = rising (variable_tokens (outline_in text tokens (Some t))) (variable_leaves t);
    flags = rising (flag_tokens (outline_in text tokens (Some t))) (flags_leaves t);
  }
    where
      rising : (ns : List ℕ) → AreLeaves ns (spell_item t) → IsStrictlyIncreasing ns
      rising ns l = rising_from_two ns (leaves_rise ns (spell_item t) kinds l h)
