-- The declaration that a name means outside the blocks of its item, and the state, are of its like:
-- the token that is meant has the bytes of the name.
use Rattle.std.proofs.Common.{◌≡◌, ℕ, zero, suc, Bool, true, false, if◌then◌else◌, List, [], ◌∷◌, ◌++◌, length, map, slice_get, Option, None, Some, option_and_then, option_map, option_to_list, refl, sym, ap, subst, ◌∙◌}
use Rattle.std.proofs.lemmas.List.Quantifiers.{position-Some}
use Rattle.std.proofs.lemmas.Option.{get_or_from_slice_get}
use Rattle.std.proofs.lemmas.Slice.Eq.{bytes_eq-Decides}
use Rattle.std.specs.List.{AllByRecursion as Each, flat_map}
use Rattle.std.specs.Option.{option_map_or, option_or}
use Rattle.std.specs.Str.{bytes_eq}
use Rattle.snl_facts.specs.Booleans.{and_first, and_second}
use Rattle.snl_facts.specs.Each.{each_append, each_got}
use Rattle.snl_codes.specs.declared.code.Code.{Code}
use Rattle.snl_codes.specs.declared.code.Code.TheVariants.{E08, E09}
use Rattle.snl_lex.specs.declared.piece.Class.{Class}
use Rattle.snl_lex.specs.declared.piece.Class.TheVariants as class
use Rattle.snl_lex.specs.declared.piece.Piece.{Piece}
use Rattle.snl_grammar.specs.declared.tree.declaration.Declaration as tree
use Rattle.snl_grammar.specs.declared.tree.item.Item.{Item}
use Rattle.snl_grammar.specs.declared.tree.item.Item.TheVariants as items
use Rattle.snl_grammar.specs.declared.tree.state.StateMember.{StateMember}
use Rattle.snl_grammar.specs.declared.tree.state.StateMember.TheVariants as members
use Rattle.snl_grammar.specs.declared.tree.statement.Member.{Member}
use Rattle.snl_walk.specs.Tokens.{bytes_if, bytes_of, token_bytes}
use Rattle.snl_scope.specs.declared.facts.Scope.{Scope}
use Rattle.snl_scope.specs.declared.names.namespaces.Namespace.{Namespace}
use Rattle.snl_scope.specs.declared.names.namespaces.Namespace.TheVariants as namespace
use Rattle.snl_summary.specs.declared.summary.Declared.{Declared}
use Rattle.snl_summary.specs.declared.summary.Outline.{Outline}
use Rattle.snl_summary.specs.declared.summary.Variable.{Variable}
use Rattle.snl_scope.specs.Clauses.{resolve_in}
use Rattle.snl_scope.specs.Linked.{declaration_at, entry_declaration, scope_in, state_in, variable_declaration}
use Rattle.snl_scope.specs.Names.{Entry, declared_entry, entries, entries_before, entries_of, has_name, has_own_scope, named_entry, number_in, resolve, same_namespace, scope_at, scope_of, set_entries, set_name, state_entries}
use Rattle.snl_scope.specs.Order.{is_state_word, state_name}
use Rattle.snl_scope.specs.Places.{begins_set, enclosing_set}
use Rattle.snl_summary.specs.Summaries.{name_by, name_if, second_in}
use Rattle.snl_summary.specs.Summaries.Declares.{declared_at, declared_by_declaration, declared_by_declarator, declared_by_member, declared_if_body, declared_in, declared_in_tree, foreign_name, function_name, symbol_kind_of}
use Rattle.snl_kept.specs.Checks.{outlines_in}
use Rattle.snl_kept.specs.Program.{item_tokens, tree_in}
use Rattle.snl_questions.specs.ItemTokensLaws.{outline_at, outline_by}
use Rattle.snl_questions.specs.declared.meanings.items.TokenPlace.{TokenPlace}
use Rattle.snl_questions.specs.Meanings.{declaration_named, name_of_item, place_of, state_named}

-- the bytes of a token of an item
abbrev pub token_says : List ℕ → ℕ → ℕ → List ℕ
token_says text i n = option_map_or (λ (own : List Piece). token_bytes text own n)
    (slice_get (item_tokens text) i) []

chosen : {X : Type 0} (b : Bool) (o : Option X) (x : X) → (if b then o else None) ≡ Some x →
    o ≡ Some x
chosen true o x e = e
chosen false o x e = absurd cc

either : (P : Type 0) (a b : Option ℕ) (k : ℕ) → (a ≡ Some k → P) → (b ≡ Some k → P) →
    option_or a b ≡ Some k → P
either P None b k first second e = second e
either P (Some x) b k first second e = first e

-- a state's name in its set is at the second token of its item
abbrev TokenFits : Namespace → ℕ → Type 0
TokenFits (namespace.States k) n = n ≡ 1
TokenFits _ n = Unit {0}

pub token_is : (text : List ℕ) (own : List Piece) (n : ℕ) →
    token_bytes text own n ≡ bytes_if text (slice_get own n)
unfolding token_bytes
token_is text own n = refl

name_is_bytes : (k : Class) (b name : List ℕ) → name_by k b ≡ Some name → name ≡ b
name_is_bytes class.Name b name e = cc
name_is_bytes _ b name e = absurd cc

name_is_token : (text : List ℕ) (o : Option Piece) (name : List ℕ) → name_if text o ≡ Some name →
    name ≡ bytes_if text o
name_is_token text None name e = absurd cc
name_is_token text (Some piece) name e = name_is_bytes piece.kind (bytes_of text piece) name e

module _ (text : List ℕ) where
  abbrev ss : List Outline
  ss = outlines_in text

  abbrev IsNamed : Entry → Type 0
  IsNamed e = (e.name ≡ token_says text e.item e.token) × TokenFits e.namespace e.token

  -- ---- the entries of an item

  module _ (i : ℕ) (own : List Piece) (at : slice_get (item_tokens text) i ≡ Some own) where
    pub says : (n : ℕ) → token_bytes text own n ≡ token_says text i n
    says n = sym (ap (λ (o : Option (List Piece)). option_map_or
        (λ (x : List Piece). token_bytes text x n) o []) at)

    abbrev s : Outline
    s = outline_by text own

    second_is : (name : List ℕ) → second_in text own ≡ Some name → name ≡ token_says text i 1
    second_is name e = name_is_token text (slice_get own 1) name e ∙ sym (token_is text own 1)
        ∙ says 1

    second_named : (ns : Namespace) → TokenFits ns 1 → (code : Option Code) (o : Option (List ℕ)) →
        ((name : List ℕ) → o ≡ Some name → name ≡ token_says text i 1) →
        Each IsNamed (map (named_entry ns i code) (option_to_list o))
    second_named ns fits code None h = tt
    second_named ns fits code (Some name) h = ((h name refl, fits), tt)

    set_named : Each IsNamed (set_entries i s)
    set_named =
        second_named namespace.Sets tt (Some E08) (set_name s)
        (λ name e. second_is name (chosen (begins_set s.role) s.second name e))

    states_named : (set : Option ℕ) → Each IsNamed (state_entries set i s)
    states_named None = tt
    states_named (Some k) =
        second_named (namespace.States k) refl (Some E09) (state_name s)
        (λ name e. second_is name (chosen (is_state_word s.opening) s.second name e))

    -- what it declares

    abbrev IsSaid : Declared → Type 0
    IsSaid d = d.name ≡ token_bytes text own d.token

    said_all : {X : Type 0} (f : X → Declared) → ((x : X) → IsSaid (f x)) → (xs : List X) →
        Each IsSaid (map f xs)
    said_all f h [] = tt
    said_all f h (x ∷ xs) = (h x, said_all f h xs)

    said_by_declaration : (d : tree.Declaration) → Each IsSaid (declared_by_declaration text own d)
    said_by_declaration d = said_all (declared_by_declarator text own (symbol_kind_of d.of.base))
        (λ x. refl) d.declarators

    said_by_member : (m : StateMember) → Each IsSaid (declared_by_member text own m)
    said_by_member (members.Declaration d) = said_by_declaration d
    said_by_member (members.Foreign names) = said_all (declared_at text own foreign_name)
        (λ n. refl) names
    said_by_member _ = tt

    said_by_members : (ms : List StateMember) →
        Each IsSaid (flat_map (declared_by_member text own) ms)
    said_by_members [] = tt
    said_by_members (m ∷ ms) =
        each_append IsSaid (declared_by_member text own m)
        (flat_map (declared_by_member text own) ms) (said_by_member m) (said_by_members ms)

    said_if_body : (n : ℕ) (body : Option (List Member)) →
        Each IsSaid (declared_if_body (declared_at text own function_name n) body)
    said_if_body n None = tt
    said_if_body n (Some block) = (refl, tt)

    said_in_tree : (t : Item) → Each IsSaid (declared_in_tree text own t)
    said_in_tree (items.Definition d) = said_by_declaration d
    said_in_tree (items.Foreign names) = said_all (declared_at text own foreign_name)
        (λ n. refl) names
    said_in_tree (items.Function f) = said_if_body f.name f.body
    said_in_tree (items.StateBlock name ms) = said_by_members ms
    said_in_tree _ = tt

    said_in : (t : Option Item) → Each IsSaid (declared_in text own t)
    said_in None = tt
    said_in (Some t) = said_in_tree t

    scope_fits : (b : Bool) (set : Option ℕ) (n : ℕ) →
        TokenFits (if b then namespace.State i else scope_at set) n
    scope_fits true set n = tt
    scope_fits false None n = tt
    scope_fits false (Some k) n = tt

    declared_named : (ds : List Declared) → Each IsSaid ds →
        Each IsNamed (map (declared_entry (scope_of ss i s) i) ds)
    declared_named [] said = tt
    declared_named (d ∷ ds) said = (
      (said.0 ∙ says d.token, scope_fits (has_own_scope s.role) (enclosing_set ss i) d.token),
      declared_named ds said.1,
    )

    entries_named : Each IsNamed (entries_of ss i s)
    entries_named =
        let first = set_entries i s in
        let second = state_entries (enclosing_set ss i) i s in
        each_append IsNamed (first ++ second) (map (declared_entry (scope_of ss i s) i) s.declares)
        (each_append IsNamed first second set_named (states_named (enclosing_set ss i)))
        (declared_named s.declares (said_in (tree_in text own)))

  -- ---- all entries

  named_at : (n : ℕ) → Each IsNamed (option_map_or (entries_of ss n) (slice_get ss n) [])
  named_at n =
      subst (λ (o : Option Outline). Each IsNamed (option_map_or (entries_of ss n) o []))
      (sym (outline_at text n))
      (by (slice_get (item_tokens text) n) refl)
    where
      by : (o : Option (List Piece)) → slice_get (item_tokens text) n ≡ o →
          Each IsNamed (option_map_or (entries_of ss n) (option_map (outline_by text) o) [])
      by None e = tt
      by (Some own) e = entries_named n own e

  named_before : (n : ℕ) → Each IsNamed (entries_before ss n)
  named_before zero = tt
  named_before (suc n) =
      each_append IsNamed (entries_before ss n)
      (option_map_or (entries_of ss n) (slice_get ss n) []) (named_before n) (named_at n)

  all_named : Each IsNamed (entries ss)
  all_named = named_before (length ss)

  -- ---- what a name means to item i

  module _ (i : ℕ) (name : List ℕ) where
    number_has : (ns : Namespace) (k : ℕ) → number_in (entries ss) ns name ≡ Some k → (e : Entry) →
        slice_get (entries ss) k ≡ Some e → has_name ns name e ≡ true
    number_has ns k found e at =
        sym (ap (has_name ns name) (get_or_from_slice_get (entries ss) k e e at))
        ∙ (position-Some (has_name ns name) (entries ss) k e found).1

    number_named : (ns : Namespace) (k : ℕ) (e : Entry) → slice_get (entries ss) k ≡ Some e →
        number_in (entries ss) ns name ≡ Some k → name ≡ e.name
    number_named ns k e at found =
        (bytes_eq-Decides name e.name).0 (and_second (same_namespace ns e.namespace)
        (bytes_eq name e.name) (number_has ns k found e at))

    resolved : (k : ℕ) (e : Entry) → slice_get (entries ss) k ≡ Some e →
        resolve_in ss i name ≡ Some k → name ≡ e.name
    resolved k e at =
        either (name ≡ e.name) (number_in (entries ss) (namespace.State i) name)
        (resolve (entries ss) (enclosing_set ss i) name) k
        (number_named (namespace.State i) k e at) (outside (enclosing_set ss i))
      where
        outside : (set : Option ℕ) → resolve (entries ss) set name ≡ Some k → name ≡ e.name
        outside None h = number_named namespace.Program k e at h
        outside (Some set) h =
            either (name ≡ e.name) (number_in (entries ss) (namespace.StateSet set) name)
            (number_in (entries ss) namespace.Program name) k
            (number_named (namespace.StateSet set) k e at) (number_named namespace.Program k e at) h

    placed : (e : Entry) (q : TokenPlace) (v : Option Variable) (sc : Option Scope) →
        option_map place_of (option_and_then (λ (x : Variable). option_map
        (λ (y : Scope). variable_declaration e.item e.token y x) sc) v) ≡ Some q →
        q ≡ record { item = e.item; token = e.token }
    placed e q None sc h = absurd cc
    placed e q (Some v) None h = absurd cc
    placed e q (Some v) (Some sc) h = cc

    pub declaration_like : (q : TokenPlace) → declaration_named ss i name ≡ Some q →
        token_says text q.item q.token ≡ name
    declaration_like q = by (resolve_in ss i name) refl
      where
        at_entry : (k : ℕ) → resolve_in ss i name ≡ Some k → (o : Option Entry) →
            slice_get (entries ss) k ≡ o →
            option_map place_of (option_and_then entry_declaration o) ≡ Some q →
            token_says text q.item q.token ≡ name
        at_entry k found None at h = absurd cc
        at_entry k found (Some e) at h =
            ap (λ (p : TokenPlace). token_says text p.item p.token)
            (placed e q e.variable (scope_in e.namespace) h)
            ∙ sym (each_got IsNamed (entries ss) k e all_named at).0
            ∙ sym (resolved k e at found)

        by : (r : Option ℕ) → resolve_in ss i name ≡ r →
            option_map place_of (option_and_then (declaration_at ss) r) ≡ Some q →
            token_says text q.item q.token ≡ name
        by None found h = absurd cc
        by (Some k) found h = at_entry k found (slice_get (entries ss) k) refl h

    token_one : (set : ℕ) (ns : Namespace) (n : ℕ) →
        same_namespace (namespace.States set) ns ≡ true → TokenFits ns n → n ≡ 1
    token_one set (namespace.States k) n same fits = fits
    token_one set namespace.Program n same fits = absurd cc
    token_one set (namespace.StateSet k) n same fits = absurd cc
    token_one set (namespace.State k) n same fits = absurd cc
    token_one set namespace.Sets n same fits = absurd cc

    pub state_like : (q : TokenPlace) → state_named ss i name ≡ Some q →
        token_says text q.item q.token ≡ name
    state_like q = by (enclosing_set ss i)
      where
        at_entry : (set k : ℕ) → number_in (entries ss) (namespace.States set) name ≡ Some k →
            (o : Option Entry) → slice_get (entries ss) k ≡ o →
            option_map name_of_item (option_map (λ (e : Entry). e.item) o) ≡ Some q →
            token_says text q.item q.token ≡ name
        at_entry set k found None at h = absurd cc
        at_entry set k found (Some e) at h =
            let has = number_has (namespace.States set) k found e at in
            let named = each_got IsNamed (entries ss) k e all_named at in
            let one : e.token ≡ 1 = token_one set e.namespace e.token
            (and_first (same_namespace (namespace.States set) e.namespace)
            (bytes_eq name e.name) has) named.1 in
            let is : q ≡ name_of_item e.item = cc in
            ap (λ (p : TokenPlace). token_says text p.item p.token) is
            ∙ ap (token_says text e.item) (sym one)
            ∙ sym named.0
            ∙ sym (number_named (namespace.States set) k e at found)

        in_set : (set : ℕ) (r : Option ℕ) → number_in (entries ss) (namespace.States set) name ≡ r →
            option_map name_of_item (option_and_then
            (λ (k : ℕ). option_map (λ (e : Entry). e.item) (slice_get (entries ss) k)) r) ≡ Some
            q →
            token_says text q.item q.token ≡ name
        in_set set None found h = absurd cc
        in_set set (Some k) found h = at_entry set k found (slice_get (entries ss) k) refl h

        by : (set : Option ℕ) → option_map name_of_item
            (option_and_then (λ (k : ℕ). state_in ss k name) set) ≡ Some q →
            token_says text q.item q.token ≡ name
        by None h = absurd cc
        by (Some set) h = in_set set (number_in (entries ss) (namespace.States set) name) refl h
