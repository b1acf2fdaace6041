-- The occurrences of an item are at leaves of what its tree spells, in their order: so their tokens
-- are tokens of the item, and rise.
use Rattle.std.proofs.Common.{◌≡◌, ℕ, ◌+◌, ◌<◌, false, true, List, [], ◌∷◌, ◌++◌, length, map, slice_get, All, Option, None, Some, subst, refl}
use Rattle.std.proofs.lemmas.List.{length-map}
use Rattle.std.proofs.lemmas.List.Elements.{All-from_recursion}
use Rattle.std.specs.List.{AllByRecursion as Each, flat_map}
use Rattle.std.specs.List.Sorted.{IsStrictlyIncreasing}
use Rattle.snl_lex.specs.declared.piece.Piece.{Piece}
use Rattle.snl_lex.specs.declared.kind.Kind.TheVariants as kind
use Rattle.snl_grammar.specs.declared.tree.declaration.Parameter.{Parameter}
use Rattle.snl_grammar.specs.declared.tree.item.Function.{Function}
use Rattle.snl_grammar.specs.declared.tree.item.Item.{Item}
use Rattle.snl_grammar.specs.declared.tree.item.Item.TheVariants as items
use Rattle.snl_grammar.specs.declared.tree.item.StructMember.{StructMember}
use Rattle.snl_grammar.specs.declared.tree.item.StructMember.TheVariants as struct_members
use Rattle.snl_grammar.specs.declared.tree.state.StateMember.{StateMember}
use Rattle.snl_grammar.specs.declared.tree.state.StateMember.TheVariants as members
use Rattle.snl_grammar.specs.declared.tree.state.Target.{Target}
use Rattle.snl_grammar.specs.declared.tree.state.Target.TheVariants as target
use Rattle.snl_grammar.specs.declared.tree.state.Transition.{Transition}
use Rattle.snl_grammar.specs.declared.tree.statement.Member.{Member}
use Rattle.snl_grammar.specs.Parsing.{kind_in, kinds_in}
use Rattle.snl_grammar.specs.Spelling.Base.{Matches, Spelled, after, commas, in_parens, leaf, perhaps, word}
use Rattle.snl_grammar.specs.Spelling.Clauses.{spell_foreign}
use Rattle.snl_grammar.specs.Spelling.Functions.{spell_body, spell_function, spell_parameter, spell_struct_member}
use Rattle.snl_grammar.specs.Spelling.Items.{spell_item}
use Rattle.snl_grammar.specs.Spelling.States.{spell_state_member, spell_target, spell_transition}
use Rattle.snl_grammar.specs.Spelling.Types.{spell_stars, spell_type}
use Rattle.snl_grammar.specs.Tokens.{ahead}
use Rattle.snl_walk.specs.declared.occurrence.Occurrence.{Occurrence}
use Rattle.snl_walk.specs.declared.occurrence.What.TheVariants as what
use Rattle.snl_walk.specs.Declares.{declared_by_parameter, declared_by_state}
use Rattle.snl_walk.specs.Items.{found_at_name, found_in_function, found_in_member, found_in_named, found_in_parameter, found_in_struct_member, found_in_target, found_in_transition, in_transition, occurrences, outside, tokens_of}
use Rattle.snl_walk.specs.Scopes.{Names, under_names}
use Rattle.snl_walk.specs.Statements.{declaration_at}
use Rattle.snl_walk.specs.Uses.{is_indexed}
use Rattle.snl_walk.proofs.ExpressionLeaves.{FoundLeaves, found_at, found_indexed, seen_if, seen_in_lengths}
use Rattle.snl_walk.proofs.Leaves.{none, leaves-append, leaves_before, leaves_after, leaves_below, leaves_between, leaves_in_parens, leaves_joined, leaves_rise, no_leaves, one_leaf, second_tokens}
use Rattle.snl_facts.specs.Each.{EachTwo, rising_from_two}
use Rattle.snl_walk.proofs.StatementLeaves.{block_leaves, declaration_leaves}

module _ (bytes : ℕ → List ℕ) where
  -- ---- states

  module _ (visible : Names) where
    abbrev foreign_at : ℕ → Occurrence
    foreign_at n = declaration_at bytes visible false n

    more_foreign : (ns : List ℕ) → FoundLeaves (map foreign_at ns) (after kind.Comma (map (leaf kind.Name) ns))
    more_foreign [] = none
    more_foreign (n ∷ ns) = leaves_after (word kind.Comma) (leaves-append (one_leaf kind.Name (foreign_at n) refl) (more_foreign ns))

    foreign_names : (ns : List ℕ) → FoundLeaves (map foreign_at ns) (commas (map (leaf kind.Name) ns))
    foreign_names [] = none
    foreign_names (n ∷ ns) = leaves-append (one_leaf kind.Name (foreign_at n) refl) (more_foreign ns)

    foreign_leaves : (ns : List ℕ) → FoundLeaves (map foreign_at ns) (spell_foreign ns)
    foreign_leaves ns = leaves_before (word kind.Semicolon) (leaves_after (word kind.Foreign) (foreign_names ns))

    target_leaves : (t : Target) → FoundLeaves (found_in_target t) (spell_target t)
    target_leaves (target.State name) = leaves_after (word kind.State) (one_leaf kind.Name (record { token = name; what = what.Target; means = None }) refl)
    target_leaves target.Exit = no_leaves (word kind.Exit)

    transition_leaves : (t : Transition) → FoundLeaves (found_in_transition bytes visible t) (spell_transition t)
    transition_leaves t =
        leaves-append (leaves-append (leaves_after (word kind.When) (leaves_in_parens (seen_if bytes visible true t.condition))) (block_leaves bytes t.block visible in_transition)) (target_leaves t.target)

    member_leaves : (m : StateMember) → FoundLeaves (found_in_member bytes visible m) (spell_state_member m)
    member_leaves (members.Declaration d) = declaration_leaves bytes visible false d
    member_leaves (members.Foreign ns) = foreign_leaves ns
    member_leaves (members.Entry block) = leaves_after (word kind.Entry) (block_leaves bytes block visible outside)
    member_leaves (members.Exit block) = leaves_after (word kind.Exit) (block_leaves bytes block visible outside)
    member_leaves (members.When t) = transition_leaves t
    member_leaves m = no_leaves (spell_state_member m)

    -- ---- functions

    parameter_leaves : (p : Parameter) → FoundLeaves (found_in_parameter bytes visible p) (spell_parameter p)
    parameter_leaves p = leaves_after (spell_type p.of ++ spell_stars p.pointers ++ perhaps (leaf kind.Name) p.name) (seen_in_lengths bytes visible false p.lengths)

    name_leaves : (name : Option ℕ) → FoundLeaves (found_at_name bytes visible name) (perhaps (leaf kind.Name) name)
    name_leaves None = none
    name_leaves (Some n) = one_leaf kind.Name (foreign_at n) refl

    named_leaves : (p : Parameter) → FoundLeaves (found_in_named bytes visible p) (spell_parameter p)
    named_leaves p = leaves-append (leaves_after (spell_type p.of ++ spell_stars p.pointers) (name_leaves p.name)) (seen_in_lengths bytes visible false p.lengths)

  abbrev before_parameters : Function → List Spelled
  before_parameters f = spell_type f.of ++ spell_stars f.pointers ++ leaf kind.Name f.name

  function_leaves : (f : Function) → FoundLeaves (found_in_function bytes f.parameters f.body) (spell_function f)
  function_leaves f = by f.body
    where
      by : (body : Option (List Member)) → FoundLeaves (found_in_function bytes f.parameters body) (before_parameters f ++ in_parens (commas (map spell_parameter f.parameters)) ++ spell_body body)
      by None =
          leaves_before (word kind.Semicolon) (leaves_after (before_parameters f) (leaves_in_parens (leaves_between (found_in_parameter bytes []) spell_parameter (parameter_leaves []) kind.Comma f.parameters)))
      by (Some block) =
          leaves-append
          (leaves_after (before_parameters f) (leaves_in_parens (leaves_between (found_in_named bytes (under_names bytes (flat_map declared_by_parameter f.parameters))) spell_parameter (named_leaves (under_names bytes (flat_map declared_by_parameter f.parameters))) kind.Comma f.parameters)))
          (block_leaves bytes block (under_names bytes (flat_map declared_by_parameter f.parameters)) outside)

  -- the name of a function is a leaf before them
  named_function_leaves : (f : Function) → FoundLeaves (foreign_at [] f.name ∷ found_in_function bytes f.parameters f.body) (spell_function f)
  named_function_leaves f = by f.body
    where
      named : FoundLeaves (foreign_at [] f.name ∷ []) (before_parameters f)
      named = leaves_after (spell_type f.of ++ spell_stars f.pointers) (one_leaf kind.Name (foreign_at [] f.name) refl)

      by : (body : Option (List Member)) → FoundLeaves (foreign_at [] f.name ∷ found_in_function bytes f.parameters body) (before_parameters f ++ in_parens (commas (map spell_parameter f.parameters)) ++ spell_body body)
      by None =
          leaves_before (word kind.Semicolon) (leaves-append named (leaves_in_parens (leaves_between (found_in_parameter bytes []) spell_parameter (parameter_leaves []) kind.Comma f.parameters)))
      by (Some block) =
          leaves-append
          (leaves-append named (leaves_in_parens (leaves_between (found_in_named bytes (under_names bytes (flat_map declared_by_parameter f.parameters))) spell_parameter (named_leaves (under_names bytes (flat_map declared_by_parameter f.parameters))) kind.Comma f.parameters)))
          (block_leaves bytes block (under_names bytes (flat_map declared_by_parameter f.parameters)) outside)

  pub after_name : (text : List ℕ) (tokens : List Piece) (f : Function) → Matches (spell_function f) (ahead (kinds_in text tokens) 0) → All (λ n. f.name < n) (tokens_of (occurrences bytes (items.Function f)))
  unfolding occurrences
  after_name text tokens f spelled =
      All-from_recursion (λ n. f.name < n) (tokens_of (found_in_function bytes f.parameters f.body))
      (leaves_rise found_at found_indexed (foreign_at [] f.name ∷ found_in_function bytes f.parameters f.body) (spell_function f) (kinds_in text tokens) (named_function_leaves f) spelled).0

  -- ---- items

  struct_leaves : (m : StructMember) → FoundLeaves (found_in_struct_member bytes m) (spell_struct_member m)
  struct_leaves (struct_members.Declaration d) = declaration_leaves bytes [] false d
  struct_leaves (struct_members.CBlock n) = no_leaves (leaf kind.CCode n)

  item_leaves : (t : Item) → FoundLeaves (occurrences bytes t) (spell_item t)
  unfolding occurrences
  item_leaves (items.Definition d) = declaration_leaves bytes [] false d
  item_leaves (items.Entry block) = leaves_after (word kind.Entry) (block_leaves bytes block [] outside)
  item_leaves (items.Exit block) = leaves_after (word kind.Exit) (block_leaves bytes block [] outside)
  item_leaves (items.StateBlock name ms) =
      leaves_after (word kind.State ++ leaf kind.Name name)
      (leaves_after (word kind.OpenBrace) (leaves_before (word kind.CloseBrace) (leaves_joined (found_in_member bytes (under_names bytes (declared_by_state bytes ms))) spell_state_member (member_leaves (under_names bytes (declared_by_state bytes ms))) ms)))
  item_leaves (items.Function f) = function_leaves f
  item_leaves (items.StructDef name ms) =
      leaves_before (word kind.Semicolon)
      (leaves_after (word kind.Struct ++ leaf kind.Name name) (leaves_after (word kind.OpenBrace) (leaves_before (word kind.CloseBrace) (leaves_joined (found_in_struct_member bytes) spell_struct_member struct_leaves ms))))
  item_leaves t = no_leaves (spell_item t)

  module _ (text : List ℕ) (tokens : List Piece) (t : Item) (spelled : Matches (spell_item t) (ahead (kinds_in text tokens) 0)) where
    pub two_in : EachTwo (λ a b. a < b) (tokens_of (occurrences bytes t))
    two_in = leaves_rise found_at found_indexed (occurrences bytes t) (spell_item t) (kinds_in text tokens) (item_leaves t) spelled

    pub rise_in : IsStrictlyIncreasing (tokens_of (occurrences bytes t))
    rise_in = rising_from_two (tokens_of (occurrences bytes t)) two_in

    pub stand_in : All (λ n. n < length tokens) (tokens_of (occurrences bytes t))
    stand_in =
        All-from_recursion (λ n. n < length tokens) (tokens_of (occurrences bytes t))
        (subst (λ count. Each (λ n. n < count) (tokens_of (occurrences bytes t))) (length-map tokens (kind_in text)) (leaves_below found_at found_indexed (occurrences bytes t) (spell_item t) (kinds_in text tokens) (item_leaves t) spelled))

    pub seconds_in : All (λ o. is_indexed o.what ≡ true → slice_get (kinds_in text tokens) (o.token + 2) ≡ Some kind.Integer) (occurrences bytes t)
    seconds_in =
        All-from_recursion (λ o. is_indexed o.what ≡ true → slice_get (kinds_in text tokens) (o.token + 2) ≡ Some kind.Integer) (occurrences bytes t)
        (second_tokens found_at found_indexed (occurrences bytes t) (spell_item t) (kinds_in text tokens) (item_leaves t) spelled)
