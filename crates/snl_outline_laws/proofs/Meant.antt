-- The first declaration of a name in its scope means itself.
use Rattle.std.proofs.Common.{◌≡◌, ℕ, zero, suc, ◌+◌, ◌<◌, ◌==◌, Bool, true, false, ◌&&◌, ◌||◌, cond, nat_eq, nat_lt, All, List, [], ◌∷◌, ◌++◌, length, map, slice_get, Option, None, Some, inl, inr, ◌⊎◌, refl, ap, ap₂, sym, subst, ◌∙◌, arith}
use Rattle.std.specs.Prelude.{if◌then◌else◌, IsSomeAnd}
use Rattle.std.specs.List.{AllByRecursion as Each, find, flat_map, list_any}
use Rattle.std.specs.List.Sorted.{IsStrictlyIncreasing}
use Rattle.std.specs.Option.{option_and_then, option_map, option_map_or, option_or}
use Rattle.std.proofs.lemmas.Bool.{eq-eqb, eqb-true, lt-ltb, ne_eqb}
use Rattle.std.proofs.lemmas.List.Elements.{recursion_from_All}
use Rattle.std.proofs.lemmas.Option.{same_Some, slice_get_within}
use Rattle.snl_facts.specs.Each.{each_append, each_by, each_got, each_map}
use Rattle.snl_lex.specs.declared.piece.Piece.{Piece}
use Rattle.snl_grammar.specs.Parsing.{kinds_in}
use Rattle.snl_grammar.specs.Reading.Items.{item_of}
use Rattle.snl_grammar.specs.declared.tree.declaration.Declaration as tree
use Rattle.snl_grammar.specs.declared.tree.declaration.Declarator.{Declarator}
use Rattle.snl_grammar.specs.declared.tree.item.Function.{Function}
use Rattle.snl_grammar.specs.declared.tree.item.Item.{Item}
use Rattle.snl_grammar.specs.declared.tree.item.Item.TheVariants as items
use Rattle.snl_grammar.specs.declared.tree.state.StateMember.{StateMember}
use Rattle.snl_grammar.specs.declared.tree.statement.Member.{Member}
use Rattle.snl_walk.specs.declared.occurrence.Local.{Local}
use Rattle.snl_walk.specs.declared.occurrence.Occurrence.{Occurrence}
use Rattle.snl_walk.specs.Declares.{declared_by_state, is_event_flag}
use Rattle.snl_walk.specs.Expressions.{names_if, names_in_value}
use Rattle.snl_walk.specs.Items.{found_in_member, occurrences, tokens_of}
use Rattle.snl_walk.specs.Scopes.{Names, look_up, resolve, seen, under_names}
use Rattle.snl_walk.specs.Statements.{found_in_declaration, found_in_declarator}
use Rattle.snl_walk.specs.Tokens.{bytes_if, token_bytes}
use Rattle.snl_summary.specs.declared.summary.Declared.{Declared}
use Rattle.snl_summary.specs.declared.summary.Outline.{Outline}
use Rattle.snl_summary.specs.declared.summary.Variable.{Variable}
use Rattle.snl_summary.specs.Summaries.{kind_of, occurrences_in, role_of}
use Rattle.snl_summary.specs.Summaries.Clauses.{clauses_in}
use Rattle.snl_summary.specs.Summaries.Declares.{declared_at, declared_by_declarator, declared_by_member, declared_if_body, declared_in, foreign_name, function_name, symbol_kind_of}
use Rattle.snl_scope.specs.declared.facts.Declaration.{Declaration}
use Rattle.snl_scope.specs.declared.facts.Scope.{Scope}
use Rattle.snl_scope.specs.declared.names.namespaces.Namespace.{Namespace}
use Rattle.snl_scope.specs.declared.names.namespaces.Namespace.TheVariants as namespace
use Rattle.snl_scope.specs.Clauses.{resolve_in}
use Rattle.snl_scope.specs.Flags.{is_first, is_first_at}
use Rattle.snl_scope.specs.Linked.{declaration_at as declaration_numbered, entry_declaration, scope_in, variable_declaration}
use Rattle.snl_scope.specs.Names.{Entry, declared_entry, entries, has_name, has_own_scope, number_in, scope_at}
use Rattle.snl_scope.specs.Order.{is_named_state}
use Rattle.snl_scope.specs.Places.{enclosing_set, is_set_begin}
use Rattle.snl_kept.specs.Checks.{outlines_in}
use Rattle.snl_kept.specs.Program.{item_tokens, tree_in}
use Rattle.snl_kept.specs.TokenLaws.{read_tree}
use Rattle.snl_questions.specs.Tokens.{has_byte}
use Rattle.snl_questions.specs.Items.{span_at, span_of}
use Rattle.snl_questions.specs.ItemTokensLaws.{outline_by}
use Rattle.snl_questions.specs.declared.meanings.items.TokenPlace.{TokenPlace}
use Rattle.snl_questions.specs.declared.meanings.near.Meaning.{Meaning}
use Rattle.snl_questions.specs.Meanings.{clauses_name, declaration_named, declares_at, is_name_of, meaning_between, meaning_by, meaning_from, meaning_of, meant_as_own_name, meant_at, meant_by_local, meant_by_occurrence, meant_by_outline, meant_by_tokens, meant_inside, number_at, number_if_at, occurrence_at, place_of, span_bytes}
use Rattle.snl_outline_laws.specs.Meant.{HasTokenAt}
use Rattle.snl_outline_laws.proofs.Firsts.{first_resolves, found_by_place, found_in_state}
use Rattle.snl_outline_laws.proofs.InState.{Occurs, by_members, found_alone, means_first, said_by_members}
use Rattle.snl_outline_laws.proofs.Origins.{HasOrigin, Origin, all_originate, declares}
use Rattle.snl_outline_laws.proofs.Outlined.{ItemAt, item_at}
use Rattle.snl_outline_laws.proofs.Places.{place_found}
use Rattle.snl_outline_laws.proofs.Rows.{AreInARow}

-- ---- choices

-- it is nothing, or this
abbrev NothingBut : TokenPlace → Option TokenPlace → Type 0
NothingBut q o = (o ≡ None) ⊎ (o ≡ Some q)

chosen : (own inside outline : Option TokenPlace) (q : TokenPlace) → NothingBut q own →
    NothingBut q inside → outline ≡ Some q → option_or own (option_or inside outline) ≡ Some q
chosen own inside outline q (inr is) other last =
    ap (λ (o : Option TokenPlace). option_or o (option_or inside outline)) is
chosen own inside outline q (inl none) (inr is) last =
    ap₂ (λ (a b : Option TokenPlace). option_or a (option_or b outline)) none is
chosen own inside outline q (inl none) (inl gone) last =
    ap₂ (λ (a b : Option TokenPlace). option_or a (option_or b outline)) none gone ∙ last

-- ---- what is found in a definition at program level or in a state set

module _ (ss : List Outline) (i : ℕ) (bytes : ℕ → List ℕ) where
  -- it means nothing, or what its name means outside blocks
  abbrev MeansOutside : Occurrence → Type 0
  MeansOutside o = (name : List ℕ) → (meant_by_occurrence ss i name o ≡ None)
      ⊎ (meant_by_occurrence ss i name o ≡ declaration_named ss i name)

  declarators_outside : (flag : Bool) (ds : List Declarator) →
      Each MeansOutside (flat_map (found_in_declarator bytes [] flag false) ds)
  declarators_outside flag [] = tt
  declarators_outside flag (d ∷ ds) =
      let lengths = map (seen bytes [] false) (flat_map names_if d.lengths) in
      let values = map (seen bytes [] false) (names_in_value d.init) in (
        λ name. inl refl,
        each_append MeansOutside (lengths ++ values)
            (flat_map (found_in_declarator bytes [] flag false) ds)
            (each_append MeansOutside lengths values
            (each_map MeansOutside (seen bytes [] false) (flat_map names_if d.lengths)
            (each_by (λ n. MeansOutside (seen bytes [] false n)) (λ n. λ name. inr refl)
            (flat_map names_if d.lengths)))
            (each_map MeansOutside (seen bytes [] false) (names_in_value d.init)
            (each_by (λ n. MeansOutside (seen bytes [] false n)) (λ n. λ name. inr refl)
            (names_in_value d.init)))) (declarators_outside flag ds),
      )

  found_each : (P : Occurrence → Type 0) (test : Occurrence → Bool) (found : List Occurrence)
      (o : Occurrence) → Each P found → find test found ≡ Some o → P o
  found_each P test [] o all h = absurd cc
  found_each P test (x ∷ xs) o all h = by (test x) (found_each P test xs o all.1) h
    where
      by : (b : Bool) → (find test xs ≡ Some o → P o) →
          cond b (Some x) (find test xs) ≡ Some o → P o
      by true rest e = let same : x ≡ o = cc in subst P same all.0
      by false rest e = rest e

  outside_found : (found : List Occurrence) (n : ℕ) (q : TokenPlace) → Each MeansOutside found →
      declaration_named ss i (bytes n) ≡ Some q →
      NothingBut q (meant_inside ss i (bytes n) found n)
  outside_found found n q all is = by (occurrence_at found n) refl
    where
      by : (o : Option Occurrence) → occurrence_at found n ≡ o →
          NothingBut q (option_and_then (meant_by_occurrence ss i (bytes n)) o)
      by None e = inl refl
      by (Some o) e =
          elim (found_each MeansOutside (λ x. x.token == n) found o all e (bytes n)) [
            | inl none ↦ inl none
            | inr named ↦ inr (named ∙ is)
          ]

  -- where all are later nothing is found
  later_missed : (found : List Occurrence) (n : ℕ) → Each (λ m. n < m) (tokens_of found) →
      occurrence_at found n ≡ None
  later_missed [] n h = refl
  later_missed (o ∷ found) n h =
      let less : n < o.token = h.0 in
      ap (λ (b : Bool). cond b (Some o) (occurrence_at found n))
      (ne_eqb o.token n (λ same. omega (arith, less, same)))
      ∙ later_missed found n h.1

-- ---- what an item declares

module _ (text : List ℕ) (own : List Piece) where
  abbrev IsSaid : Declared → Type 0
  IsSaid d = d.name ≡ token_bytes text own d.token

  said_all : {X : Type 0} (f : X → Declared) → ((x : X) → IsSaid (f x)) → (xs : List X) →
      Each IsSaid (map f xs)
  said_all f h [] = tt
  said_all f h (x ∷ xs) = (h x, said_all f h xs)

  said_if_body : (n : ℕ) (body : Option (List Member)) →
      Each IsSaid (declared_if_body (declared_at text own function_name n) body)
  said_if_body n None = tt
  said_if_body n (Some block) = (refl, tt)

  said_in : (t : Option Item) → Each IsSaid (declared_in text own t)
  said_in None = tt
  said_in (Some (items.Definition d)) =
      said_all (declared_by_declarator text own (symbol_kind_of d.of.base)) (λ x. refl)
      d.declarators
  said_in (Some (items.Foreign names)) =
      said_all (declared_at text own foreign_name) (λ n. refl) names
  said_in (Some (items.Function f)) = said_if_body f.name f.body
  said_in (Some (items.StateBlock name ms)) = said_by_members text own ms
  said_in (Some _) = tt

any_got : (ds : List Declared) (k : ℕ) (d : Declared) (n : ℕ) → slice_get ds k ≡ Some d →
    d.token ≡ n → list_any (λ x. x.token == n) ds ≡ true
any_got [] k d n at is = absurd cc
any_got (x ∷ ds) zero d n at is =
    let same : x ≡ d = cc in
    ap (λ (b : Bool). b || list_any (λ y. y.token == n) ds)
    (eq-eqb x.token n (ap (λ (y : Declared). y.token) same ∙ is))
any_got (x ∷ ds) (suc k) d n at is = by (x.token == n) (any_got ds k d n at is)
  where
    by : (b : Bool) → list_any (λ y. y.token == n) ds ≡ true →
        (b || list_any (λ y. y.token == n) ds) ≡ true
    by true rest = refl
    by false rest = rest

-- ---- the meaning at a token

module _ (text : List ℕ) where
  -- at a byte of a token
  meaning_at : (offset i n : ℕ) (own : List Piece) (token : Piece) → AreInARow text →
      slice_get (item_tokens text) i ≡ Some own → slice_get own n ≡ Some token →
      has_byte offset token ≡ true →
      meaning_of text offset ≡ meaning_from text (record { item = i; token = n })
  unfolding meaning_of
  meaning_at offset i n own token row at there byte =
      let zero_and : 0 + i ≡ i = omega arith in
      ap (option_and_then (meaning_from text))
      (place_found offset token byte text 0 (item_tokens text) i n own row.apart row.rows at there)
      ∙ ap (λ (k : ℕ). meaning_from text (record { item = k; token = n })) zero_and

  span_is : (i n : ℕ) (own : List Piece) (token : Piece) →
      slice_get (item_tokens text) i ≡ Some own → slice_get own n ≡ Some token →
      span_at (item_tokens text) i n ≡ Some (span_of token)
  span_is i n own token at there =
      ap (option_and_then (λ (x : List Piece). option_map span_of (slice_get x n))) at
      ∙ ap (option_map span_of) there

  -- of a token that means itself
  own_meaning : (i n : ℕ) (own : List Piece) (token : Piece) →
      slice_get (item_tokens text) i ≡ Some own → slice_get own n ≡ Some token →
      meaning_between text (record { item = i; token = n }) (record { item = i; token = n })
      ≡ Some (record {
        name = span_of token;
        declared = span_of token;
        number = number_at (outlines_in text) i n (span_bytes text (span_of token));
      })
  own_meaning i n own token at there =
      ap₂ (meaning_by text (record { item = i; token = n })) (span_is i n own token at there)
      (span_is i n own token at there)

  span_says : (own : List Piece) (n : ℕ) (token : Piece) → slice_get own n ≡ Some token →
      span_bytes text (span_of token) ≡ token_bytes text own n
  unfolding token_bytes
  span_says own n token there = sym (ap (bytes_if text) there)

-- ---- a declaration

module _ (text : List ℕ)
    (rise : (bytes : ℕ → List ℕ) (own : List Piece) (t : Item) →
    item_of (kinds_in text own) ≡ Some t → IsStrictlyIncreasing (tokens_of (occurrences bytes t)))
    (named_first : (bytes : ℕ → List ℕ) (own : List Piece) (f : Function) →
    item_of (kinds_in text own) ≡ Some (items.Function f) →
    All (λ n. f.name < n) (tokens_of (occurrences bytes (items.Function f))))
  where
    abbrev ss : List Outline
    ss = outlines_in text

    abbrev xs : List (List Piece)
    xs = item_tokens text

    -- the first declaration of its name in its scope, by its entry
    pub record IsFirst (number : ℕ) (d : Declaration) : Type 0 where
      pub entry : Entry
      pub at : slice_get (entries ss) number ≡ Some entry
      pub declared : entry_declaration entry ≡ Some d
      pub first : number_in (entries ss) entry.namespace entry.name ≡ Some number

    pub is_first_one : (number : ℕ) (d : Declaration) → declaration_numbered ss number ≡ Some d →
        is_first_at (entries ss) number ≡ true → IsFirst number d
    is_first_one number d h first = by (slice_get (entries ss) number) refl h first
      where
        by_number : (e : Entry) (o : Option ℕ) →
            number_in (entries ss) e.namespace e.name ≡ o → option_map_or (nat_eq number) o false
            ≡ true → number_in (entries ss) e.namespace e.name ≡ Some number
        by_number e None is test = absurd cc
        by_number e (Some k) is test =
            let same : number ≡ k = eqb-true number k test in is ∙ ap Some (sym same)

        by : (o : Option Entry) → slice_get (entries ss) number ≡ o →
            option_and_then entry_declaration o ≡ Some d →
            option_map_or (is_first (entries ss) number) o false ≡ true → IsFirst number d
        by None at h first = absurd cc
        by (Some e) at h first = record {
          entry = e;
          at = at;
          declared = h;
          first = by_number e (number_in (entries ss) e.namespace e.name) refl first;
        }

    -- what it says of itself
    record Says (e : Entry) (d : Declaration) : Type 0 where
      variable : Variable
      says : e.variable ≡ Some variable
      item : d.item ≡ e.item
      token : d.token ≡ e.token

    says_of : (e : Entry) (d : Declaration) → entry_declaration e ≡ Some d → Says e d
    says_of e d = by e.variable refl
      where
        placed : (v : Variable) → e.variable ≡ Some v → (o : Option Scope) →
            option_map (λ s. variable_declaration e.item e.token s v) o ≡ Some d → Says e d
        placed v says None h = absurd cc
        placed v says (Some s) h =
            let made : Declaration = variable_declaration e.item e.token s v in
            let same : made ≡ d = same_Some made d h in
            record {
              variable = v;
              says = says;
              item = sym (ap (λ (x : Declaration). x.item) same);
              token = sym (ap (λ (x : Declaration). x.token) same);
            }

        by : (o : Option Variable) → e.variable ≡ o →
            option_and_then (λ v. option_map (λ s. variable_declaration e.item e.token s v)
            (scope_in e.namespace)) o ≡ Some d → Says e d
        by None says h = absurd cc
        by (Some v) says h = placed v says (scope_in e.namespace) h

    module _ (number : ℕ) (d : Declaration) (is : IsFirst number d) where
      abbrev e : Entry
      e = is.entry

      abbrev told : Says e d
      told = says_of e d is.declared

      abbrev origin : Origin ss e
      origin =
          declares ss e told.variable
          (each_got (HasOrigin ss) (entries ss) number e (all_originate ss) is.at) told.says

      abbrev item : ItemAt text e.item origin.outline
      item = item_at text e.item origin.outline origin.at

      abbrev own : List Piece
      own = item.own

      abbrev bytes : ℕ → List ℕ
      bytes = token_bytes text own

      abbrev place : TokenPlace
      place = record { item = e.item; token = e.token }

      resolves : resolve_in ss e.item e.name ≡ Some number
      resolves = first_resolves ss number e origin is.first

      named : declaration_named ss e.item e.name ≡ Some place
      named =
          ap (λ (o : Option ℕ). option_map place_of (option_and_then (declaration_numbered ss) o))
          resolves
          ∙ ap (λ (o : Option Entry). option_map place_of (option_and_then entry_declaration o)) is.at
          ∙ ap (option_map place_of) is.declared
          ∙ ap₂ (λ (i n : ℕ). Some (record { item = i; token = n })) told.item told.token

      among : slice_get (declared_in text own (tree_in text own)) origin.place
          ≡ Some origin.declared
      among =
          sym (ap (λ (s : Outline). slice_get s.declares origin.place) item.is) ∙ origin.among

      token_is : e.token ≡ origin.declared.token
      token_is = ap (λ (x : Entry). x.token) origin.is

      name_is : e.name ≡ origin.declared.name
      name_is = ap (λ (x : Entry). x.name) origin.is

      -- the name is what its token says
      named_bytes : bytes e.token ≡ e.name
      named_bytes =
          ap bytes token_is
          ∙ sym (name_is ∙ each_got (IsSaid text own) (declared_in text own (tree_in text own))
          origin.place origin.declared (said_in text own (tree_in text own)) among)

      -- what the outline of its item says of it
      by_outline : meant_by_outline ss e.item (bytes e.token) (outline_by text own) e.token
          ≡ Some place
      by_outline =
          let declares : declares_at (outline_by text own) e.token ≡ true =
          any_got (declared_in text own (tree_in text own)) origin.place origin.declared e.token among
          (sym token_is) in
          ap (λ (b : Bool). if (b || clauses_name (outline_by text own) e.token)
          then declaration_named ss e.item (bytes e.token) else None) declares
          ∙ ap (declaration_named ss e.item) named_bytes
          ∙ named

      by_own : NothingBut place (meant_as_own_name ss e.item e.token)
      by_own = by (is_name_of ss e.item e.token)
        where
          by : (b : Bool) → NothingBut place (if b then Some place else None)
          by true = inr refl
          by false = inl refl

      -- ---- what occurs at it

      abbrev Inside : Option Item → Type 0
      Inside t = NothingBut place
          (meant_inside ss e.item (bytes e.token) (occurrences_in bytes t) e.token)

      in_definition : (x : tree.Declaration) → Inside (Some (items.Definition x))
      unfolding occurrences
      in_definition x =
          outside_found ss e.item bytes (found_in_declaration bytes [] false x) e.token place
          (declarators_outside ss e.item bytes (is_event_flag x.of.base) x.declarators)
          (ap (declaration_named ss e.item) named_bytes ∙ named)

      in_function : (f : Function) → tree_in text own ≡ Some (items.Function f) →
          e.token ≡ f.name → Inside (Some (items.Function f))
      in_function f read at =
          let found : List Occurrence = occurrences bytes (items.Function f) in
          let later : Each (λ m. f.name < m) (tokens_of found) =
          recursion_from_All (λ m. f.name < m) (tokens_of found)
          (named_first bytes own f (read_tree text own (items.Function f) read)) in
          let none : occurrence_at found e.token ≡ None =
          later_missed ss e.item bytes found e.token
          (subst (λ (n : ℕ). Each (λ m. n < m) (tokens_of found)) (sym at) later) in
          inl (ap (option_and_then (meant_by_occurrence ss e.item (bytes e.token))) none)

      -- in a state

      own_scope : (name : ℕ) (ms : List StateMember) →
          tree_in text own ≡ Some (items.StateBlock name ms) →
          has_own_scope origin.outline.role ≡ true
      own_scope name ms read =
          let some : nat_lt 0 (length (declared_in text own (tree_in text own))) ≡ true =
          lt-ltb 0 (length (declared_in text own (tree_in text own))) (omega (
            arith,
            slice_get_within (declared_in text own (tree_in text own)) origin.place origin.declared
                among,
          )) in
          ap (λ (s : Outline). has_own_scope s.role) item.is
          ∙ ap (λ (b : Bool). has_own_scope (role_of (kind_of (tree_in text own))
          (b || nat_lt 0 (length (clauses_in text own (tree_in text own)))))) some
          ∙ ap (λ (t : Option Item). has_own_scope (role_of (kind_of t) true)) read

      first_in_state : (name : ℕ) (ms : List StateMember) →
          tree_in text own ≡ Some (items.StateBlock name ms) →
          find (has_name (namespace.State e.item) e.name)
          (map (declared_entry (namespace.State e.item) e.item)
          (flat_map (declared_by_member text own) ms)) ≡ Some e
      first_in_state name ms read =
          let scope : e.namespace ≡ namespace.State e.item =
          ap (λ (x : Entry). x.namespace) origin.is
          ∙ ap (λ (b : Bool). if b then namespace.State e.item
          else scope_at (enclosing_set ss e.item)) (own_scope name ms read) in
          let first : find (has_name (namespace.State e.item) e.name) (entries ss) ≡ Some e =
          found_by_place (has_name (namespace.State e.item) e.name) (entries ss) number e
          (sym (ap (λ (ns : Namespace). number_in (entries ss) ns e.name) scope) ∙ is.first) is.at in
          let list : origin.outline.declares ≡ flat_map (declared_by_member text own) ms =
          ap (λ (s : Outline). s.declares) item.is ∙ ap (declared_in text own) read in
          sym (ap (λ (ds : List Declared). find (has_name (namespace.State e.item) e.name)
          (map (declared_entry (namespace.State e.item) e.item) ds)) list)
          ∙ sym (found_in_state ss e.item e.name origin.outline
          (slice_get_within ss e.item origin.outline origin.at) origin.at (own_scope name ms read))
          ∙ first

      in_state : (name : ℕ) (ms : List StateMember) →
          tree_in text own ≡ Some (items.StateBlock name ms) →
          Inside (Some (items.StateBlock name ms))
      unfolding occurrences
      in_state name ms read =
          let visible : Names = under_names bytes (declared_by_state bytes ms) in
          let found : List Occurrence = flat_map (found_in_member bytes visible) ms in
          let there : Occurs found origin.declared.token
          (resolve bytes visible origin.declared.token) =
          each_got (λ (x : Declared). Occurs found x.token (resolve bytes visible x.token))
          (flat_map (declared_by_member text own) ms) origin.place origin.declared
          (by_members text own visible ms)
          (sym (ap (λ (t : Option Item). slice_get (declared_in text own t) origin.place) read)
          ∙ among) in
          let alone : occurrence_at found origin.declared.token ≡ Some there.occurrence =
          found_alone found origin.declared.token _
          (rise bytes own (items.StateBlock name ms)
          (read_tree text own (items.StateBlock name ms) read)) there in
          let at : occurrence_at found e.token ≡ Some there.occurrence =
          ap (occurrence_at found) token_is ∙ alone in
          let means : there.occurrence.means ≡ look_up e.name visible =
          there.means_it ∙ ap (resolve bytes visible) (sym token_is)
          ∙ ap (λ (l : List ℕ). look_up l visible) named_bytes in
          let first = means_first text own e.item e.name ms e (first_in_state name ms read) in
          by there.occurrence at (look_up e.name visible) means first
        where
          by : (o : Occurrence) →
              occurrence_at (flat_map (found_in_member bytes
              (under_names bytes (declared_by_state bytes ms))) ms) e.token ≡ Some o →
              (m : Option Local) → o.means ≡ m →
              option_map (λ (x : Local). x.token) m ≡ Some e.token →
              NothingBut place (meant_inside ss e.item (bytes e.token)
              (flat_map (found_in_member bytes (under_names bytes (declared_by_state bytes ms))) ms)
              e.token)
          by o at None means first = absurd cc
          by o at (Some local) means first =
              let same : local.token ≡ e.token = same_Some local.token e.token first in
              inr (ap (option_and_then (meant_by_occurrence ss e.item (bytes e.token))) at
              ∙ ap (meant_by_local ss e.item (bytes e.token) o.what) means
              ∙ ap (λ (n : ℕ). Some (record { item = e.item; token = n })) same)

      at_name : (f : Function) (body : Option (List Member)) (k : ℕ) →
          slice_get (declared_if_body (declared_at text own function_name f.name) body) k
          ≡ Some origin.declared → e.token ≡ f.name
      at_name f None k at = absurd cc
      at_name f (Some block) zero at =
          let same : declared_at text own function_name f.name ≡ origin.declared =
          same_Some _ origin.declared at in
          token_is ∙ sym (ap (λ (x : Declared). x.token) same)
      at_name f (Some block) (suc k) at = absurd cc

      inside : (t : Option Item) → tree_in text own ≡ t →
          slice_get (declared_in text own t) origin.place ≡ Some origin.declared → Inside t
      unfolding occurrences
      inside None read at = absurd cc
      inside (Some (items.Definition x)) read at = in_definition x
      inside (Some (items.Foreign names)) read at = inl refl
      inside (Some (items.Function f)) read at =
          in_function f read (at_name f f.body origin.place at)
      inside (Some (items.StateBlock name ms)) read at = in_state name ms read
      inside (Some (items.Header name parameters)) read at = absurd cc
      inside (Some (items.Clause clause)) read at = absurd cc
      inside (Some (items.OptionLine line)) read at = absurd cc
      inside (Some (items.Entry block)) read at = absurd cc
      inside (Some (items.Exit block)) read at = absurd cc
      inside (Some (items.SsBegin name)) read at = absurd cc
      inside (Some items.SsEnd) read at = absurd cc
      inside (Some (items.StructDef name ms)) read at = absurd cc
      inside (Some (items.CBlock n)) read at = absurd cc
      inside (Some items.Empty) read at = absurd cc

      meant : meant_at text place ≡ Some place
      meant =
          ap (option_and_then (meant_by_tokens text e.item e.token)) item.at
          ∙ chosen (meant_as_own_name ss e.item e.token)
          (meant_inside ss e.item (bytes e.token) (occurrences_in bytes (tree_in text own)) e.token)
          (meant_by_outline ss e.item (bytes e.token) (outline_by text own) e.token) place by_own
          (inside (tree_in text own) refl among) by_outline

      numbered : number_at ss e.item e.token e.name ≡ Some number
      numbered =
          ap (option_and_then (λ (k : ℕ). option_and_then (number_if_at e.item e.token k)
          (declaration_numbered ss k))) resolves
          ∙ ap (λ (o : Option Entry). option_and_then (number_if_at e.item e.token number)
          (option_and_then entry_declaration o)) is.at
          ∙ ap (option_and_then (number_if_at e.item e.token number)) is.declared
          ∙ ap₂ (λ (b c : Bool). if (b && c) then Some number else None)
          (eq-eqb d.item e.item told.item) (eq-eqb d.token e.token told.token)

      pub means_itself : (offset : ℕ) (token : Piece) → AreInARow text →
          HasTokenAt text d.item d.token offset token →
          meaning_of text offset ≡ Some (record {
            name = span_of token;
            declared = span_of token;
            number = Some number;
          })
      unfolding meaning_of
      means_itself offset token row at =
          let there : slice_get own e.token ≡ Some token =
          sym (ap (λ (o : Option (List Piece)). option_and_then (λ x. slice_get x e.token) o) item.at)
          ∙ sym (ap₂ (λ (i n : ℕ). option_and_then (λ x. slice_get x n) (slice_get xs i))
          told.item told.token)
          ∙ at.there in
          meaning_at text offset e.item e.token own token row item.at there at.byte
          ∙ ap (option_and_then (meaning_between text place)) meant
          ∙ own_meaning text e.item e.token own token item.at there
          ∙ ap (λ (o : Option ℕ). Some (record {
            name = span_of token;
            declared = span_of token;
            number = o;
          })) (ap (number_at ss e.item e.token) (span_says text own e.token token there ∙ named_bytes)
          ∙ numbered)

-- ---- a state set or a state

pub item_means_itself : (text : List ℕ) (offset i : ℕ) (token : Piece) → AreInARow text →
    (is_set_begin (outlines_in text) i || is_named_state (outlines_in text) i) ≡ true →
    HasTokenAt text i 1 offset token →
    IsSomeAnd (meaning_of text offset)
    (λ m. (m.name ≡ span_of token) × (m.declared ≡ span_of token))
item_means_itself text offset i token row is at = by (slice_get (item_tokens text) i) refl at.there
  where
    place : TokenPlace
    place = record { item = i; token = 1 }

    in_own : (own : List Piece) → slice_get (item_tokens text) i ≡ Some own →
        slice_get own 1 ≡ Some token →
        IsSomeAnd (meaning_of text offset)
        (λ m. (m.name ≡ span_of token) × (m.declared ≡ span_of token))
    in_own own own_at there =
        let meant : meant_at text place ≡ Some place =
        ap (option_and_then (meant_by_tokens text i 1)) own_at
        ∙ ap (λ (b : Bool). option_or (if b then Some place else None)
        (option_or (meant_inside (outlines_in text) i (token_bytes text own 1)
        (occurrences_in (token_bytes text own) (tree_in text own)) 1)
        (meant_by_outline (outlines_in text) i (token_bytes text own 1) (outline_by text own) 1)))
        is in
        let told = meaning_at text offset i 1 own token row own_at there at.byte
        ∙ ap (option_and_then (meaning_between text place)) meant
        ∙ own_meaning text i 1 own token own_at there in
        subst (λ (o : Option Meaning). IsSomeAnd o
        (λ m. (m.name ≡ span_of token) × (m.declared ≡ span_of token))) (sym told) (refl, refl)

    by : (o : Option (List Piece)) → slice_get (item_tokens text) i ≡ o →
        option_and_then (λ own. slice_get own 1) o ≡ Some token →
        IsSomeAnd (meaning_of text offset)
        (λ m. (m.name ≡ span_of token) × (m.declared ≡ span_of token))
    by None e h = absurd cc
    by (Some own) e h = in_own own e h
