-- How brackets lie in an item, and what it begins and ends with.
use Rattle.std.proofs.Common.{◌≡◌, ℕ, suc, Bool, true, false, List, [], ◌∷◌, Option, Some, None, ap, refl, ◌∙◌}
use Rattle.snl_lex.specs.declared.kind.Kind.{Kind}
use Rattle.snl_lex.specs.declared.kind.Kind.TheVariants as kind
use Rattle.snl_grammar.specs.declared.tree.clause.Channel.{Channel}
use Rattle.snl_grammar.specs.declared.tree.clause.Clause.{Clause}
use Rattle.snl_grammar.specs.declared.tree.clause.Flag.{Flag}
use Rattle.snl_grammar.specs.declared.tree.clause.OptionLine.{OptionLine}
use Rattle.snl_grammar.specs.declared.tree.clause.OptionSign.{OptionSign}
use Rattle.snl_grammar.specs.declared.tree.clause.OptionSign.TheVariants as signs
use Rattle.snl_grammar.specs.declared.tree.declaration.Parameter.{Parameter}
use Rattle.snl_grammar.specs.declared.tree.item.Function.{Function}
use Rattle.snl_grammar.specs.declared.tree.item.Item.{Item}
use Rattle.snl_grammar.specs.declared.tree.item.Item.TheVariants as items
use Rattle.snl_grammar.specs.declared.tree.item.StructMember.{StructMember}
use Rattle.snl_grammar.specs.declared.tree.state.StateMember.{StateMember}
use Rattle.snl_grammar.specs.declared.tree.state.Target.{Target}
use Rattle.snl_grammar.specs.declared.tree.state.Transition.{Transition}
use Rattle.snl_grammar.specs.declared.tree.statement.Member.{Member}
use Rattle.snl_grammar.specs.Tokens.{NumberedKind}
use Rattle.snl_grammar.specs.Grammar.Base.{Each, First, Leaf}
use Rattle.snl_grammar.specs.Grammar.Clauses.{AreForeign, IsChannel, IsClause, IsFlag, IsOptionLine, IsSubscript, anonymous, assign, element, elements, monitor, option_kind, sync, syncq, syncq_word, whole}
use Rattle.snl_grammar.specs.Grammar.Declarations.{IsDeclaration}
use Rattle.snl_grammar.specs.Grammar.Expressions.{AreTexts, IsExpr}
use Rattle.snl_grammar.specs.Grammar.Functions.{AreParameters, IsBody, IsFunction, IsParameter, IsStruct, IsStructMember, c_block as struct_c_block, declaration as struct_declaration, definition, function, struct_definition}
use Rattle.snl_grammar.specs.Grammar.Items.{IsItemWithin, c_block, clause as clause_item, empty, entry, exit, foreign, header, option_line, set_begin, set_end, state, typed}
use Rattle.snl_grammar.specs.Grammar.States.{IsBlockAfter, IsStateMember, IsTarget, IsTransition, c_block as state_c_block, clause as state_clause, declaration as state_declaration, empty as state_empty, entry as state_entry, exit as state_exit, foreign as state_foreign, leave, next, option_line as state_option_line, transition}
use Rattle.snl_grammar.specs.Grammar.Statements.{IsBlockWithin}
use Rattle.snl_item_laws.proofs.Lies.{Lies, each_lie, group, held, is_loose, leaf_lies, lies_then, loose, nothing, one, parens, perhaps_lies, raised, squares, token, written_lies}
use Rattle.snl_item_laws.proofs.LiesDeclarations.{braced_lie, declaration_front, declaration_held, parameter_held}
use Rattle.snl_item_laws.proofs.LiesExpressions.{commas_held, commas_lie, texts_lie}
use Rattle.snl_item_laws.proofs.LiesStatements.{IsBraced, before_mark, block_braced, block_held}
use Rattle.snl_item_laws.proofs.LiesTypes.{stars_lie, type_lies}

-- ---- clauses, up to the semicolon that ends them

-- the tokens up to the last one, a semicolon
pub record Ends (inside : Bool) (d : ℕ) (k rest : List NumberedKind) : Type 0 where
  pub mid : List NumberedKind
  pub front : Lies inside (suc d) k mid
  pub semicolon : First kind.Semicolon mid rest

module _ (inside : Bool) (d : ℕ) where
  foreign_ends : (ns : List ℕ) (k rest : List NumberedKind) → AreForeign ns k rest → Ends inside d k rest
  foreign_ends ns k rest h = record {
    mid = h.m2;
    front = token kind.Foreign refl h.word (commas_lie inside (Leaf kind.Name) d (λ n j end l. leaf_lies inside d kind.Name n j end refl l) ns h.m1 h.m2 h.names);
    semicolon = h.semicolon;
  }

  sign_lies : (sign : OptionSign) (k rest : List NumberedKind) → First (option_kind sign) k rest → Lies inside (suc d) k rest
  sign_lies signs.Plus k rest w = one kind.Plus refl w
  sign_lies signs.Minus k rest w = one kind.Minus refl w

  option_ends : (line : OptionLine) (k rest : List NumberedKind) → IsOptionLine line k rest → Ends inside d k rest
  option_ends line k rest h = record {
    mid = h.m3;
    front = token kind.Option refl h.word (lies_then (sign_lies line.sign h.m1 h.m2 h.sign) (leaf_lies inside d kind.Name line.letters h.m2 h.m3 refl h.letters));
    semicolon = h.semicolon;
  }

  -- what is in these brackets is an integer, so there is a level for it
  subscript_lies : (n : ℕ) (k rest : List NumberedKind) → IsSubscript n k rest → Lies inside (suc (suc d)) k rest
  subscript_lies n k rest h = squares h.opening (leaf_lies inside d kind.Integer n h.m1 h.m2 refl h.number) h.closing (nothing refl)

  flag_lies : (flag : Flag) (k rest : List NumberedKind) → IsFlag flag k rest → Lies inside (suc d) k rest
  flag_lies flag k rest h = lies_then (written_lies inside d kind.To flag.to k h.mid refl h.to) (leaf_lies inside d kind.Name flag.name h.mid rest refl h.name)

  -- after the name, whose token is given too
  channel_lies : (channel : Channel) (k m rest : List NumberedKind) → First kind.Name k m → IsChannel channel m rest → Lies inside (suc (suc d)) k rest
  channel_lies channel k m rest name (anonymous is e) = token kind.Name refl name (nothing e)
  channel_lies channel k m rest name (whole to ns mid is w h) = token kind.Name refl name (lies_then (written_lies inside (suc d) kind.To to m mid refl w) (texts_lie inside (suc d) ns mid rest h))
  channel_lies channel k m rest name (element n to ns m1 m2 is s w h) =
      token kind.Name refl name (lies_then (subscript_lies n m m1 s) (lies_then (written_lies inside (suc d) kind.To to m1 m2 refl w) (texts_lie inside (suc d) ns m2 rest h)))
  channel_lies channel k m rest name (elements true xs trailing m1 m2 is w o h) =
      let b = braced_lie true AreTexts (suc d) (texts_lie true d) xs trailing m2 rest h in
      token kind.Name refl name (group kind.To refl w o b.1 b.2 (nothing refl))
  channel_lies channel k m rest name (elements false xs trailing m1 m2 is w (n, o) h) =
      let b = braced_lie true AreTexts (suc d) (texts_lie true d) xs trailing m2 rest h in
      group kind.Name refl name (n, w ∙ o) b.1 b.2 (nothing refl)

  clause_ends : (clause : Clause) (k rest : List NumberedKind) → IsClause clause k rest → Ends inside (suc d) k rest
  clause_ends clause k rest (assign n x is h) = record {
    mid = h.m3;
    front = token kind.Assign refl h.word (channel_lies x h.m1 h.m2 h.m3 (n, h.name) h.channel);
    semicolon = h.semicolon;
  }
  clause_ends clause k rest (monitor n s is h) = record {
    mid = h.m3;
    front = token kind.Monitor refl h.word (token kind.Name refl (n, h.name) (perhaps_lies inside IsSubscript (suc (suc d)) subscript_lies s h.m2 h.m3 h.subscript));
    semicolon = h.semicolon;
  }
  clause_ends clause k rest (sync n s f is h) = record {
    mid = h.m4;
    front = token kind.Sync refl h.word (token kind.Name refl (n, h.name) (lies_then (perhaps_lies inside IsSubscript (suc (suc d)) subscript_lies s h.m2 h.m3 h.subscript) (raised (flag_lies f h.m3 h.m4 h.flag))));
    semicolon = h.semicolon;
  }
  clause_ends clause k rest (syncq capital n s f q is h) = record {
    mid = h.m5;
    front = lies_then (word_lies capital k h.m1 h.word)
        (token kind.Name refl (n, h.name)
        (lies_then (perhaps_lies inside IsSubscript (suc (suc d)) subscript_lies s h.m2 h.m3 h.subscript)
        (lies_then (raised (perhaps_lies inside IsFlag (suc d) flag_lies f h.m3 h.m4 h.flag))
        (perhaps_lies inside (Leaf kind.Integer) (suc (suc d)) (λ m j end l. leaf_lies inside (suc d) kind.Integer m j end refl l) q h.m4 h.m5 h.queue))));
    semicolon = h.semicolon;
  }
    where
      word_lies : (capital : Bool) (k rest : List NumberedKind) → First (syncq_word capital) k rest → Lies inside (suc (suc d)) k rest
      word_lies true k rest w = one kind.SyncqCapital refl w
      word_lies false k rest w = one kind.Syncq refl w

ends_lie : (d : ℕ) (k rest : List NumberedKind) → Ends true d k rest → Lies true (suc d) k rest
ends_lie d k rest h = lies_then h.front (loose kind.Semicolon refl h.semicolon (nothing refl))

-- ---- states

module _ (d : ℕ) where
  block_after_lies : (word : Kind) (b : List Member) (k rest : List NumberedKind) → is_loose word ≡ true → IsBlockAfter word (IsBlockWithin 0 0 (suc (suc d))) b k rest → Lies true (suc (suc d)) k rest
  block_after_lies word b k rest is h = loose word is h.first (block_held (suc (suc d)) b h.mid rest h.block)

  target_lies : (t : Target) (k rest : List NumberedKind) → IsTarget t k rest → Lies true (suc (suc d)) k rest
  target_lies t k rest (next n mid is w e) = loose kind.State refl w (token kind.Name refl (n, e) (nothing refl))
  target_lies t k rest (leave is w) = loose kind.Exit refl w (nothing refl)

  transition_lies : (t : Transition) (k rest : List NumberedKind) → IsTransition (IsExpr 0 0 (suc d)) (IsBlockWithin 0 0 (suc (suc d))) t k rest → Lies true (suc (suc d)) k rest
  transition_lies t k rest h =
      let c = before_mark true (suc d) kind.CloseParen t.condition h.m2 h.m3 h.condition in
      token kind.When refl h.word (parens h.opening c.1 c.2 (lies_then (block_held (suc (suc d)) t.block h.m3 h.m4 h.block) (target_lies t.target h.m4 rest h.target)))

  state_member_lies : (t : StateMember) (k rest : List NumberedKind) → IsStateMember (IsExpr 0 0 (suc d)) (IsDeclaration 0 0 (suc (suc d))) (IsBlockWithin 0 0 (suc (suc d))) t k rest → Lies true (suc (suc d)) k rest
  state_member_lies t k rest (state_declaration x is h) = declaration_held (suc (suc d)) x k rest h
  state_member_lies t k rest (state_foreign ns is h) = ends_lie (suc d) k rest (foreign_ends true (suc d) ns k rest h)
  state_member_lies t k rest (state_clause c is h) = ends_lie (suc d) k rest (clause_ends true d c k rest h)
  state_member_lies t k rest (state_option_line o is h) = ends_lie (suc d) k rest (option_ends true (suc d) o k rest h)
  state_member_lies t k rest (state_empty is w) = loose kind.Semicolon refl w (nothing refl)
  state_member_lies t k rest (state_c_block n is e) = loose kind.CCode refl (n, e) (nothing refl)
  state_member_lies t k rest (state_entry b is h) = block_after_lies kind.Entry b k rest refl h
  state_member_lies t k rest (state_exit b is h) = block_after_lies kind.Exit b k rest refl h
  state_member_lies t k rest (transition x is h) = transition_lies x k rest h

  struct_member_lies : (t : StructMember) (k rest : List NumberedKind) → IsStructMember (IsDeclaration 0 0 (suc (suc d))) t k rest → Lies true (suc (suc d)) k rest
  struct_member_lies t k rest (struct_declaration x is h) = declaration_held (suc (suc d)) x k rest h
  struct_member_lies t k rest (struct_c_block n is e) = loose kind.CCode refl (n, e) (nothing refl)

-- ---- items

abbrev pub ends_alone : Kind → Bool
ends_alone kind.CloseBrace = true
ends_alone kind.Semicolon = true
ends_alone kind.CCode = true
ends_alone _ = false

abbrev pub is_body_word : Kind → Bool
is_body_word kind.State = true
is_body_word kind.Entry = true
is_body_word kind.Exit = true
is_body_word _ = false

-- a header without texts
abbrev pub IsBare : Item → Type 0
IsBare t = (n : ℕ) × (t ≡ items.Header n None)

-- The form of an item, as far as brackets and its ends go. `bare` holds of a header without texts.
pub data IsShaped (bare : Type 0) (d : ℕ) (k rest : List NumberedKind) : Type 0 where
  single : (x : Kind) → ends_alone x ≡ true → First x k rest → IsShaped bare d k rest
  header_alone : (m : List NumberedKind) → bare → First kind.Program k m → First kind.Name m rest → IsShaped bare d k rest
  header_with : (n : ℕ) (ns : List ℕ) (m1 m2 m3 m4 m5 : List NumberedKind) → First kind.Program k m1 → First kind.Name m1 m2 → First kind.OpenParen m2 m3 → Leaf kind.Text n m3 m4 → Each (Leaf kind.Text) ns m4 m5 → First kind.CloseParen m5 rest → IsShaped bare d k rest
  set_begun : (m1 m2 : List NumberedKind) → First kind.Ss k m1 → First kind.Name m1 m2 → First kind.OpenBrace m2 rest → IsShaped bare d k rest
  ended : Ends false (suc d) k rest → IsShaped bare d k rest
  block : (word : Kind) (m : List NumberedKind) → is_body_word word ≡ true → First word k m → IsBraced (suc d) m rest → IsShaped bare d k rest
  named_block : (word : Kind) (m1 m2 : List NumberedKind) → is_body_word word ≡ true → First word k m1 → First kind.Name m1 m2 → IsBraced (suc d) m2 rest → IsShaped bare d k rest
  function_body : (m1 m2 m3 m4 : List NumberedKind) → Lies false (suc (suc d)) k m1 → First kind.OpenParen m1 m2 → Lies false (suc d) m2 m3 → First kind.CloseParen m3 m4 → IsBraced (suc d) m4 rest → IsShaped bare d k rest

parameters_lie : (d : ℕ) (ps : List Parameter) (k rest : List NumberedKind) → AreParameters (IsParameter 0 0 d) ps k rest → (m : List NumberedKind) × Lies false d k m × First kind.CloseParen m rest
parameters_lie d [] k rest w = (k, nothing refl, w)
parameters_lie d (p ∷ ps) k rest h = (h.0, held false d k h.0 (commas_held false (IsParameter 0 0 d) d (parameter_held false d) (p ∷ ps) k h.0 h.1), h.2)

module _ (d : ℕ) where
  function_shape : (bare : Type 0) (f : Function) (k rest : List NumberedKind) → IsFunction (IsParameter 0 0 (suc (suc d))) (IsBlockWithin 0 0 (suc (suc (suc d)))) f k rest → IsShaped bare (suc d) k rest
  function_shape bare f k rest h = by f.body h.body
    where
      front : Lies false (suc (suc (suc d))) k h.m3
      front =
          lies_then (type_lies false (suc (suc d)) f.of k h.m1 h.of_type)
          (lies_then (stars_lie false (suc (suc d)) f.pointers h.m1 h.m2 h.stars) (leaf_lies false (suc (suc d)) kind.Name f.name h.m2 h.m3 refl h.name))

      inner : (m : List NumberedKind) × Lies false (suc (suc d)) h.m4 m × First kind.CloseParen m h.m5
      inner = parameters_lie (suc (suc d)) f.parameters h.m4 h.m5 h.parameters

      by : (body : Option (List Member)) → IsBody (IsBlockWithin 0 0 (suc (suc (suc d)))) body h.m5 rest → IsShaped bare (suc d) k rest
      by None w = ended (record { mid = h.m5; front = lies_then front (parens h.opening inner.1 inner.2 (nothing refl)); semicolon = w })
      by (Some ts) b = function_body h.m3 h.m4 inner.0 h.m5 front h.opening inner.1 inner.2 (block_braced (suc (suc d)) ts h.m5 rest b)

  struct_shape : (bare : Type 0) (n : ℕ) (ms : List StructMember) (k rest : List NumberedKind) → IsStruct (IsDeclaration 0 0 (suc (suc d))) n ms k rest → IsShaped bare (suc d) k rest
  struct_shape bare n ms k rest h =
      ended (record {
        mid = h.m5;
        front = token kind.Struct refl h.word (group kind.Name refl (n, h.name) h.opening (each_lie true (IsStructMember (IsDeclaration 0 0 (suc (suc d)))) (suc (suc d)) (struct_member_lies d) ms h.m3 h.m4 h.members) h.closing (nothing refl));
        semicolon = h.semicolon;
      })

  pub item_shape : (t : Item) (k rest : List NumberedKind) → IsItemWithin 0 0 (suc d) t k rest → IsShaped (IsBare t) (suc d) k rest
  item_shape t k rest (header n None is h) = header_alone h.m1 (n, is) h.word (n, h.name ∙ ap (λ z. (kind.Name, n) ∷ z) h.parameters)
  item_shape t k rest (header n (Some []) is h) = absurd h.parameters.strings
  item_shape t k rest (header n (Some (a ∷ ns)) is h) =
      let b = h.parameters in header_with a ns h.m1 h.m2 b.m1 b.strings.0 b.m2 h.word (n, h.name) b.opening b.strings.1 b.strings.2 b.closing
  item_shape t k rest (set_begin n is h) = set_begun h.m1 h.m2 h.word (n, h.name) h.opening
  item_shape t k rest (set_end is w) = single kind.CloseBrace refl w
  item_shape t k rest (empty is w) = single kind.Semicolon refl w
  item_shape t k rest (c_block n is e) = single kind.CCode refl (n, e)
  item_shape t k rest (foreign ns is h) = ended (foreign_ends false (suc (suc d)) ns k rest h)
  item_shape t k rest (clause_item c is h) = ended (clause_ends false (suc d) c k rest h)
  item_shape t k rest (option_line o is h) = ended (option_ends false (suc (suc d)) o k rest h)
  item_shape t k rest (entry b is h) = block kind.Entry h.mid refl h.first (block_braced (suc (suc d)) b h.mid rest h.block)
  item_shape t k rest (exit b is h) = block kind.Exit h.mid refl h.first (block_braced (suc (suc d)) b h.mid rest h.block)
  item_shape t k rest (state n ms is h) = named_block kind.State h.m1 h.m2 refl h.word (n, h.name) (record {
    m1 = h.m3;
    m2 = h.m4;
    opening = h.opening;
    members = each_lie true (IsStateMember (IsExpr 0 0 (suc d)) (IsDeclaration 0 0 (suc (suc d))) (IsBlockWithin 0 0 (suc (suc d)))) (suc (suc d)) (state_member_lies d) ms h.m3 h.m4 h.members;
    closing = h.closing;
  })
  item_shape t k rest (typed (definition x is h)) = let f = declaration_front false (suc (suc d)) x k rest h in ended (record { mid = f.0; front = f.1; semicolon = f.2 })
  item_shape t k rest (typed (function f is h)) = function_shape (IsBare t) f k rest h
  item_shape t k rest (typed (struct_definition n ms is h)) = struct_shape (IsBare t) n ms k rest h
