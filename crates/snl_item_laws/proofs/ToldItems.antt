-- What is found in an item is told by what it spells.
use Rattle.std.proofs.Common.{ℕ, Bool, true, false, List, [], ◌∷◌, ◌++◌, map, Option, None, Some, refl}
use Rattle.std.specs.List.{flat_map}
use Rattle.snl_lex.specs.declared.kind.Kind.TheVariants as kind
use Rattle.snl_grammar.specs.declared.tree.clause.Channel.{Channel}
use Rattle.snl_grammar.specs.declared.tree.clause.Channel.TheVariants as channels
use Rattle.snl_grammar.specs.declared.tree.clause.Clause.{Clause}
use Rattle.snl_grammar.specs.declared.tree.clause.Clause.TheVariants as clauses
use Rattle.snl_grammar.specs.declared.tree.clause.Flag.{Flag}
use Rattle.snl_grammar.specs.declared.tree.clause.OptionLine.{OptionLine}
use Rattle.snl_grammar.specs.declared.tree.clause.OptionSign.{OptionSign}
use Rattle.snl_grammar.specs.declared.tree.clause.OptionSign.TheVariants as signs
use Rattle.snl_grammar.specs.declared.tree.declaration.Parameter.{Parameter}
use Rattle.snl_grammar.specs.declared.tree.item.Function.{Function}
use Rattle.snl_grammar.specs.declared.tree.item.Item.{Item}
use Rattle.snl_grammar.specs.declared.tree.item.Item.TheVariants as items
use Rattle.snl_grammar.specs.declared.tree.item.StructMember.{StructMember}
use Rattle.snl_grammar.specs.declared.tree.item.StructMember.TheVariants as struct_members
use Rattle.snl_grammar.specs.declared.tree.state.StateMember.{StateMember}
use Rattle.snl_grammar.specs.declared.tree.state.StateMember.TheVariants as members
use Rattle.snl_grammar.specs.declared.tree.state.Target.{Target}
use Rattle.snl_grammar.specs.declared.tree.state.Target.TheVariants as target
use Rattle.snl_grammar.specs.declared.tree.state.Transition.{Transition}
use Rattle.snl_grammar.specs.declared.tree.statement.Member.{Member}
use Rattle.snl_grammar.specs.Spelling.Base.{Spelled, after, commas, in_parens, leaf, perhaps}
use Rattle.snl_grammar.specs.Spelling.Clauses.{spell_channel, spell_clause, spell_flag, spell_foreign, spell_option_line, spell_sign, spell_subscript, spell_syncq}
use Rattle.snl_grammar.specs.Spelling.Expressions.{spell_texts}
use Rattle.snl_grammar.specs.Spelling.Functions.{spell_body, spell_function, spell_parameter, spell_struct_member}
use Rattle.snl_grammar.specs.Spelling.Items.{spell_header_text, spell_item}
use Rattle.snl_grammar.specs.Spelling.Statements.{spell_block}
use Rattle.snl_grammar.specs.Spelling.States.{spell_state_member, spell_target, spell_transition}
use Rattle.snl_grammar.specs.Spelling.Types.{spell_stars, spell_type}
use Rattle.snl_walk.specs.declared.occurrence.Occurrence.{Occurrence}
use Rattle.snl_walk.specs.declared.occurrence.What.TheVariants as what
use Rattle.snl_walk.specs.Declares.{declared_by_parameter, declared_by_state}
use Rattle.snl_walk.specs.Items.{found_at_name, found_in_function, found_in_member, found_in_named, found_in_parameter, found_in_struct_member, found_in_target, found_in_transition, in_transition, occurrences, outside}
use Rattle.snl_walk.specs.Scopes.{Names, under_names}
use Rattle.snl_walk.specs.Statements.{declaration_at, found_in_block}
use Rattle.snl_item_laws.specs.Mentions.{lengths_of, looked_up_in, looked_up_in_function, looked_up_in_member}
use Rattle.snl_item_laws.proofs.Told.{Case, hidden, leading, passing, staying, name_here, none, passed, quiet, silent_between, target_here, told-append, told_after, told_before, told_between, told_flat, told_in_braces, told_in_brackets, told_in_parens, told_joined, told_wider}
use Rattle.snl_item_laws.proofs.ToldExpressions.{FoundTold, seen_if, seen_in_lengths}
use Rattle.snl_item_laws.proofs.ToldStatements.{Leads, block_told, declaration_told}
use Rattle.snl_item_laws.proofs.ToldTypes.{silent_leaf, silent_stars, silent_texts, silent_type, silent_word, silent_written}

-- ---- where names may be passed over

module _ (has : Case → Type 0) (pass : has passing) where
  name_passed : {xs : List Spelled} {ys : List Occurrence} (n : ℕ) → FoundTold has ys xs → FoundTold has ys ((kind.Name, Some n) ∷ xs)
  name_passed n l = passed (kind.Name, Some n) pass refl l

  one_name_passed : (n : ℕ) → FoundTold has [] (leaf kind.Name n)
  one_name_passed n = name_passed n none

  if_passed : {X : Type 0} (spell : X → List Spelled) → ((x : X) → FoundTold has [] (spell x)) → (o : Option X) → FoundTold has [] (perhaps spell o)
  if_passed spell each None = none
  if_passed spell each (Some x) = each x

  names_passed : (ns : List ℕ) → FoundTold has [] (spell_foreign ns)
  names_passed ns = quiet kind.Foreign None refl (told_before kind.Semicolon refl (silent_between (leaf kind.Name) one_name_passed kind.Comma refl ns))

  option_passed : (line : OptionLine) → FoundTold has [] (spell_option_line line)
  option_passed line = told_before kind.Semicolon refl (told_after (quiet kind.Option None refl (sign_passed line.sign)) (one_name_passed line.letters))
    where
      sign_passed : (sign : OptionSign) → FoundTold has [] (spell_sign sign)
      sign_passed signs.Plus = silent_word kind.Plus refl
      sign_passed signs.Minus = silent_word kind.Minus refl

  subscript_passed : (n : ℕ) → FoundTold has [] (spell_subscript n)
  subscript_passed n = told_in_brackets (silent_leaf kind.Integer n refl)

  subscript_if : (subscript : Option ℕ) → FoundTold has [] (perhaps spell_subscript subscript)
  subscript_if = if_passed spell_subscript subscript_passed

  flag_passed : (flag : Flag) → FoundTold has [] (spell_flag flag)
  flag_passed flag = told_after (silent_written kind.To flag.to refl) (one_name_passed flag.name)

  channel_passed : (channel : Channel) → FoundTold has [] (spell_channel channel)
  channel_passed channels.Anonymous = none
  channel_passed (channels.Whole to text) = told_after (silent_written kind.To to refl) (silent_texts text)
  channel_passed (channels.Element subscript to text) = told_after (told_after (subscript_passed subscript) (silent_written kind.To to refl)) (silent_texts text)
  channel_passed (channels.Elements to texts trailing) =
      told_after (silent_written kind.To to refl)
      (told_in_braces (told_after (silent_between spell_texts silent_texts kind.Comma refl texts) (silent_written kind.Comma trailing refl)))

  clause_passed : (clause : Clause) → FoundTold has [] (spell_clause clause)
  clause_passed (clauses.Assign name channel) = told_before kind.Semicolon refl (quiet kind.Assign None refl (name_passed name (channel_passed channel)))
  clause_passed (clauses.Monitor name subscript) = told_before kind.Semicolon refl (quiet kind.Monitor None refl (name_passed name (subscript_if subscript)))
  clause_passed (clauses.Sync name subscript flag) =
      told_before kind.Semicolon refl (told_after (quiet kind.Sync None refl (name_passed name (subscript_if subscript))) (flag_passed flag))
  clause_passed (clauses.Syncq capital name subscript flag queue) =
      told_before kind.Semicolon refl
      (told_after
      (told_after (told_after (told_after (word_passed capital) (one_name_passed name)) (subscript_if subscript)) (if_passed spell_flag flag_passed flag))
      (if_passed (leaf kind.Integer) (λ n. silent_leaf kind.Integer n refl) queue))
    where
      word_passed : (capital : Bool) → FoundTold has [] (spell_syncq capital)
      word_passed true = silent_word kind.SyncqCapital refl
      word_passed false = silent_word kind.Syncq refl

-- ---- parts of items

module _ (bytes : ℕ → List ℕ) where
  target_told : (t : Target) → FoundTold (Leads true) (found_in_target t) (spell_target t)
  target_told (target.State name) = target_here (record { token = name; what = what.Target; means = None }) tt refl none
  target_told target.Exit = silent_word kind.Exit refl

  pub in_leads : (visible : Names) (t : Transition) → FoundTold (Leads true) (found_in_transition bytes visible t) (spell_transition t)
  in_leads visible t =
      told-append
      (told-append (quiet kind.When None refl (told_in_parens (seen_if (Leads true) bytes visible true t.condition))) (block_told bytes t.block visible in_transition))
      (target_told t.target)

  module _ (has : Case → Type 0) where
    module _ (visible : Names) where
      abbrev declared : ℕ → Occurrence
      declared n = declaration_at bytes visible false n

      more_foreign : (ns : List ℕ) → FoundTold has (map declared ns) (after kind.Comma (map (leaf kind.Name) ns))
      more_foreign [] = none
      more_foreign (n ∷ ns) = quiet kind.Comma None refl (name_here (declared n) refl (more_foreign ns))

      foreign_names : (ns : List ℕ) → FoundTold has (map declared ns) (commas (map (leaf kind.Name) ns))
      foreign_names [] = none
      foreign_names (n ∷ ns) = name_here (declared n) refl (more_foreign ns)

      pub foreign_told : (ns : List ℕ) → FoundTold has (map declared ns) (spell_foreign ns)
      foreign_told ns = told_before kind.Semicolon refl (quiet kind.Foreign None refl (foreign_names ns))

      lengths_told : (p : Parameter) → FoundTold has (found_in_parameter bytes visible p) (lengths_of p)
      lengths_told p = seen_in_lengths has bytes visible false p.lengths

      declared_told : (name : Option ℕ) → FoundTold has (found_at_name bytes visible name) (perhaps (leaf kind.Name) name)
      declared_told None = none
      declared_told (Some n) = name_here (declared n) refl none

      parameter_told : (p : Parameter) → FoundTold has (found_in_named bytes visible p) (spell_parameter p)
      parameter_told p = told-append (told_after (told_after (silent_type p.of) (silent_stars p.pointers)) (declared_told p.name)) (lengths_told p)

    in_parameters : (ps : List Parameter) → FoundTold has (flat_map (found_in_named bytes (under_names bytes (flat_map declared_by_parameter ps))) ps) (commas (map spell_parameter ps))
    in_parameters ps =
        let visible = under_names bytes (flat_map declared_by_parameter ps) in
        told_between (found_in_named bytes visible) spell_parameter (parameter_told visible) kind.Comma refl ps

    struct_member_told : (m : StructMember) → FoundTold has (found_in_struct_member bytes m) (spell_struct_member m)
    struct_member_told (struct_members.Declaration d) = declaration_told bytes has [] false d
    struct_member_told (struct_members.CBlock n) = silent_leaf kind.CCode n refl

    pub struct_told : (ms : List StructMember) → FoundTold has (flat_map (found_in_struct_member bytes) ms) (flat_map spell_struct_member ms)
    struct_told ms = told_flat (found_in_struct_member bytes) spell_struct_member struct_member_told ms

  module _ (has : Case → Type 0) (stay : has staying) where
    off_stays : (c : Case) → Leads false c → has c
    off_stays leading h = absurd h
    off_stays staying h = stay
    off_stays passing h = absurd h

    pub block_outside : (block : List Member) (visible : Names) → FoundTold has (found_in_block bytes block visible outside) (spell_block block)
    block_outside block visible = told_wider off_stays (block_told bytes block visible outside)

    pub function_told : (ps : List Parameter) (body : Option (List Member)) → FoundTold has (found_in_function bytes ps body) (looked_up_in_function ps body)
    function_told ps None = told_flat (found_in_parameter bytes []) lengths_of (lengths_told has []) ps
    function_told ps (Some block) = told-append (in_parameters has ps) (block_outside block (under_names bytes (flat_map declared_by_parameter ps)))

  module _ (has : Case → Type 0) (lead : has leading) (stay : has staying) where
    on_leads : (c : Case) → Leads true c → has c
    on_leads leading h = lead
    on_leads staying h = absurd h
    on_leads passing h = absurd h

    member_told : (visible : Names) (m : StateMember) → FoundTold has (found_in_member bytes visible m) (looked_up_in_member m)
    member_told visible (members.Declaration d) = declaration_told bytes has visible false d
    member_told visible (members.Foreign ns) = foreign_told has visible ns
    member_told visible (members.Clause clause) = none
    member_told visible (members.OptionLine line) = none
    member_told visible members.Empty = silent_word kind.Semicolon refl
    member_told visible (members.CBlock n) = silent_leaf kind.CCode n refl
    member_told visible (members.Entry block) = quiet kind.Entry None refl (block_outside has stay block visible)
    member_told visible (members.Exit block) = quiet kind.Exit None refl (block_outside has stay block visible)
    member_told visible (members.When t) = told_wider on_leads (in_leads visible t)

    pub looked_up_told : (t : Item) → FoundTold has (occurrences bytes t) (looked_up_in t)
    unfolding occurrences
    looked_up_told (items.Definition d) = declaration_told bytes has [] false d
    looked_up_told (items.Entry block) = block_outside has stay block []
    looked_up_told (items.Exit block) = block_outside has stay block []
    looked_up_told (items.StateBlock name ms) =
        let visible = under_names bytes (declared_by_state bytes ms) in
        told_flat (found_in_member bytes visible) looked_up_in_member (member_told visible) ms
    looked_up_told (items.Function f) = function_told has stay f.parameters f.body
    looked_up_told (items.StructDef name ms) = struct_told has ms
    looked_up_told t = none

    -- ---- all of an item

    module _ (pass : has passing) where
      member_spelled : (visible : Names) (m : StateMember) → FoundTold has (found_in_member bytes visible m) (spell_state_member m)
      member_spelled visible (members.Clause clause) = clause_passed has pass clause
      member_spelled visible (members.OptionLine line) = option_passed has pass line
      member_spelled visible m = member_told visible m

      name_if : (name : Option ℕ) → FoundTold has [] (perhaps (leaf kind.Name) name)
      name_if = if_passed has pass (leaf kind.Name) (one_name_passed has pass)

      unnamed_told : (p : Parameter) → FoundTold has (found_in_parameter bytes [] p) (spell_parameter p)
      unnamed_told p = told_after (told_after (told_after (silent_type p.of) (silent_stars p.pointers)) (name_if p.name)) (lengths_told has [] p)

      abbrev front : Function → List Spelled
      front f = spell_type f.of ++ spell_stars f.pointers ++ leaf kind.Name f.name

      function_spelled : (f : Function) → FoundTold has (found_in_function bytes f.parameters f.body) (spell_function f)
      function_spelled f = by f.body
        where
          front_passed : FoundTold has [] (front f)
          front_passed = told_after (told_after (silent_type f.of) (silent_stars f.pointers)) (one_name_passed has pass f.name)

          by : (body : Option (List Member)) → FoundTold has (found_in_function bytes f.parameters body) (front f ++ in_parens (commas (map spell_parameter f.parameters)) ++ spell_body body)
          by None = told_before kind.Semicolon refl (told_after front_passed (told_in_parens (told_between (found_in_parameter bytes []) spell_parameter unnamed_told kind.Comma refl f.parameters)))
          by (Some block) = told-append (told_after front_passed (told_in_parens (in_parameters has f.parameters))) (block_outside has stay block (under_names bytes (flat_map declared_by_parameter f.parameters)))

      pub spelled_told : (t : Item) → FoundTold has (occurrences bytes t) (spell_item t)
      unfolding occurrences
      spelled_told (items.Header name parameters) = quiet kind.Program None refl (name_passed has pass name (if_passed has pass spell_header_text (λ ts. told_in_parens (silent_texts ts)) parameters))
      spelled_told (items.SsBegin name) = quiet kind.Ss None refl (name_passed has pass name (silent_word kind.OpenBrace refl))
      spelled_told items.SsEnd = silent_word kind.CloseBrace refl
      spelled_told (items.CBlock n) = silent_leaf kind.CCode n refl
      spelled_told items.Empty = silent_word kind.Semicolon refl
      spelled_told (items.OptionLine line) = option_passed has pass line
      spelled_told (items.Foreign names) = names_passed has pass names
      spelled_told (items.Definition d) = declaration_told bytes has [] false d
      spelled_told (items.Clause clause) = clause_passed has pass clause
      spelled_told (items.Entry block) = quiet kind.Entry None refl (block_outside has stay block [])
      spelled_told (items.Exit block) = quiet kind.Exit None refl (block_outside has stay block [])
      spelled_told (items.StateBlock name ms) =
          let visible = under_names bytes (declared_by_state bytes ms) in
          passed (kind.State, None) pass refl (name_passed has pass name (told_in_braces (told_joined (found_in_member bytes visible) spell_state_member (member_spelled visible) ms)))
      spelled_told (items.Function f) = function_spelled f
      spelled_told (items.StructDef name ms) =
          told_before kind.Semicolon refl
          (hidden kind.Struct name refl refl refl refl (told_in_braces (told_joined (found_in_struct_member bytes) spell_struct_member (struct_member_told has) ms)))
