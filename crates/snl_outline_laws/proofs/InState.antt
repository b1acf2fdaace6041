-- What is found at the name of a declaration of a state.
use Rattle.std.proofs.Common.{◌≡◌, ℕ, zero, suc, ◌<◌, ◌==◌, Bool, true, false, ◌&&◌, cond, nat_eq, List, [], ◌∷◌, ◌++◌, map, slice_get, Option, Some, option_map, refl, ap, ap₂, sym, ◌∙◌, arith}
use Rattle.std.specs.List.{AllByRecursion as Each, Contains, find, flat_map, list_any}
use Rattle.std.specs.List.Sorted.{IsStrictlyIncreasing}
use Rattle.std.specs.Str.{bytes_eq}
use Rattle.std.proofs.lemmas.Bool.{eq-eqb, ne_eqb}
use Rattle.std.proofs.lemmas.List.Elements.{Contains-append_left, Contains-append_right}
use Rattle.std.proofs.lemmas.List.{map-append}
use Rattle.std.proofs.lemmas.List.Kept.{AllPairs-from_increasing}
use Rattle.std.proofs.lemmas.Option.{slice_get-get_or}
use Rattle.snl_facts.specs.Each.{EachTwo, each_append, each_got, each_weaker, two_from_pairs, two_unmap}
use Rattle.snl_lex.specs.declared.piece.Piece.{Piece}
use Rattle.snl_grammar.specs.declared.tree.declaration.Declaration.{Declaration}
use Rattle.snl_grammar.specs.declared.tree.declaration.Declarator.{Declarator}
use Rattle.snl_grammar.specs.declared.tree.state.StateMember.{StateMember}
use Rattle.snl_grammar.specs.declared.tree.state.StateMember.TheVariants as members
use Rattle.snl_walk.specs.declared.occurrence.Local.{Local}
use Rattle.snl_walk.specs.declared.occurrence.Occurrence.{Occurrence}
use Rattle.snl_walk.specs.Declares.{assigned_in_state, declare, declared_by_member as locals_by_member, declared_by_state, declared_in_state, is_event_flag}
use Rattle.snl_walk.specs.Items.{found_in_member, tokens_of}
use Rattle.snl_walk.specs.Scopes.{Names, look_up, resolve, under_names}
use Rattle.snl_walk.specs.Statements.{declaration_at, found_in_declarator}
use Rattle.snl_walk.specs.Tokens.{token_bytes}
use Rattle.snl_summary.specs.declared.summary.Declared.{Declared}
use Rattle.snl_summary.specs.declared.summary.SymbolKind.{SymbolKind}
use Rattle.snl_summary.specs.Summaries.Declares.{declared_at, declared_by_declarator, declared_by_member, foreign_name, symbol_kind_of}
use Rattle.snl_scope.specs.declared.names.namespaces.Namespace.TheVariants as namespace
use Rattle.snl_scope.specs.Names.{Entry, declared_entry, has_name}
use Rattle.snl_outline_laws.proofs.Lists.{contains_first}

-- ---- an occurrence at a token

-- one is there, and it means this
pub record Occurs (found : List Occurrence) (n : ℕ) (means : Option Local) : Type 0 where
  pub occurrence : Occurrence
  pub there : Contains found occurrence
  pub token : occurrence.token ≡ n
  pub means_it : occurrence.means ≡ means

occurs_left : (xs ys : List Occurrence) (n : ℕ) (m : Option Local) → Occurs xs n m →
    Occurs (xs ++ ys) n m
occurs_left xs ys n m o = record {
  occurrence = o.occurrence;
  there = Contains-append_left xs ys o.occurrence o.there;
  token = o.token;
  means_it = o.means_it;
}

occurs_right : (xs ys : List Occurrence) (n : ℕ) (m : Option Local) → Occurs ys n m →
    Occurs (xs ++ ys) n m
occurs_right xs ys n m o = record {
  occurrence = o.occurrence;
  there = Contains-append_right xs ys o.occurrence o.there;
  token = o.token;
  means_it = o.means_it;
}

-- the only one at its token, where they rise
alone : (xs : List Occurrence) (k : ℕ) (o : Occurrence) (n : ℕ) →
    EachTwo (λ a b. a.token < b.token) xs → slice_get xs k ≡ Some o → o.token ≡ n →
    find (λ x. x.token == n) xs ≡ Some o
alone [] k o n two at is = absurd cc
alone (x ∷ xs) zero o n two at is =
    let same : x ≡ o = cc in
    ap (λ (b : Bool). cond b (Some x) (find (λ y. y.token == n) xs))
    (eq-eqb x.token n (ap (λ (y : Occurrence). y.token) same ∙ is)) ∙ at
alone (x ∷ xs) (suc k) o n two at is =
    let less : x.token < o.token = each_got (λ (b : Occurrence). x.token < b.token) xs k o two.0 at
    in
    ap (λ (b : Bool). cond b (Some x) (find (λ y. y.token == n) xs))
    (ne_eqb x.token n (λ same. omega (arith, less, is, same)))
    ∙ alone xs k o n two.1 at is

pub found_alone : (found : List Occurrence) (n : ℕ) (m : Option Local) →
    IsStrictlyIncreasing (tokens_of found) → (o : Occurs found n m) →
    find (λ x. x.token == n) found ≡ Some o.occurrence
found_alone found n m rises o =
    alone found o.there.0 o.occurrence n
    (two_unmap (λ (a b : ℕ). a < b) (λ (x : Occurrence). x.token) found
    (two_from_pairs (λ (a b : ℕ). a < b) (tokens_of found)
    (AllPairs-from_increasing (tokens_of found) rises)))
    (slice_get-get_or found o.there.0 o.occurrence o.there.1 ∙ ap Some o.there.2) o.token

-- ---- what a state declares occurs in it

module _ (text : List ℕ) (own : List Piece) where
  abbrev bytes : ℕ → List ℕ
  bytes = token_bytes text own

  module _ (visible : Names) where
    abbrev OccursIn : List Occurrence → Declared → Type 0
    OccursIn found d = Occurs found d.token (resolve bytes visible d.token)

    here : (wrong : Bool) (n : ℕ) (rest : List Occurrence) →
        Occurs (declaration_at bytes visible wrong n ∷ rest) n (resolve bytes visible n)
    here wrong n rest = record {
      occurrence = declaration_at bytes visible wrong n;
      there = contains_first (declaration_at bytes visible wrong n) rest;
      token = refl;
      means_it = refl;
    }

    by_declarators : (kind : SymbolKind) (flag : Bool) (ds : List Declarator) →
        Each (OccursIn (flat_map (found_in_declarator bytes visible flag false) ds))
        (map (declared_by_declarator text own kind) ds)
    by_declarators kind flag [] = tt
    by_declarators kind flag (d ∷ ds) =
        let first = found_in_declarator bytes visible flag false d in
        let rest = flat_map (found_in_declarator bytes visible flag false) ds in (
          occurs_left first rest d.name _ (here _ d.name _),
          each_weaker (OccursIn rest) (OccursIn (first ++ rest))
              (λ x o. occurs_right first rest x.token _ o)
              (map (declared_by_declarator text own kind) ds) (by_declarators kind flag ds),
        )

    by_foreign : (ns : List ℕ) →
        Each (OccursIn (map (declaration_at bytes visible false) ns))
        (map (declared_at text own foreign_name) ns)
    by_foreign [] = tt
    by_foreign (n ∷ ns) =
        let first = declaration_at bytes visible false n ∷ [] in
        let rest = map (declaration_at bytes visible false) ns in (
          here false n rest,
          each_weaker (OccursIn rest) (OccursIn (first ++ rest))
              (λ x o. occurs_right first rest x.token _ o)
              (map (declared_at text own foreign_name) ns) (by_foreign ns),
        )

    by_member : (m : StateMember) →
        Each (OccursIn (found_in_member bytes visible m)) (declared_by_member text own m)
    by_member (members.Declaration d) =
        by_declarators (symbol_kind_of d.of.base) (is_event_flag d.of.base) d.declarators
    by_member (members.Foreign names) = by_foreign names
    by_member _ = tt

    pub by_members : (ms : List StateMember) →
        Each (OccursIn (flat_map (found_in_member bytes visible) ms))
        (flat_map (declared_by_member text own) ms)
    by_members [] = tt
    by_members (m ∷ ms) =
        let first = found_in_member bytes visible m in
        let rest = flat_map (found_in_member bytes visible) ms in
        each_append (OccursIn (first ++ rest)) (declared_by_member text own m)
        (flat_map (declared_by_member text own) ms)
        (each_weaker (OccursIn first) (OccursIn (first ++ rest))
        (λ x o. occurs_left first rest x.token _ o) (declared_by_member text own m) (by_member m))
        (each_weaker (OccursIn rest) (OccursIn (first ++ rest))
        (λ x o. occurs_right first rest x.token _ o)
        (flat_map (declared_by_member text own) ms) (by_members ms))

  -- ---- which declaration it means

  abbrev locals : List Local → List ℕ
  locals ds = map (λ d. d.token) ds

  abbrev tokens : List Declared → List ℕ
  tokens ds = map (λ d. d.token) ds

  joined : (xs ys : List Local) (vs ws : List Declared) → locals xs ≡ tokens vs →
      locals ys ≡ tokens ws → locals (xs ++ ys) ≡ tokens (vs ++ ws)
  joined xs ys vs ws h k =
      map-append (λ (d : Local). d.token) xs ys
      ∙ ap₂ (λ (a b : List ℕ). a ++ b) h k
      ∙ sym (map-append (λ (d : Declared). d.token) vs ws)

  alike_declarators : (assigned : List (List ℕ)) (d : Declaration) →
      locals (declared_in_state bytes assigned d)
      ≡ tokens (map (declared_by_declarator text own (symbol_kind_of d.of.base)) d.declarators)
  alike_declarators assigned d = by d.declarators
    where
      by : (ds : List Declarator) →
          locals (map (λ declarator. declare declarator.name (is_event_flag d.of.base)
          (list_any (bytes_eq (bytes declarator.name)) assigned)) ds)
          ≡ tokens (map (declared_by_declarator text own (symbol_kind_of d.of.base)) ds)
      by [] = refl
      by (x ∷ xs) = ap (λ (ns : List ℕ). x.name ∷ ns) (by xs)

  alike_foreign : (ns : List ℕ) → locals (map (λ n. declare n true true) ns)
      ≡ tokens (map (declared_at text own foreign_name) ns)
  alike_foreign [] = refl
  alike_foreign (n ∷ ns) = ap (λ (rest : List ℕ). n ∷ rest) (alike_foreign ns)

  alike_member : (assigned : List (List ℕ)) (m : StateMember) →
      locals (locals_by_member bytes assigned m) ≡ tokens (declared_by_member text own m)
  alike_member assigned (members.Declaration d) = alike_declarators assigned d
  alike_member assigned (members.Foreign names) = alike_foreign names
  alike_member assigned _ = refl

  alike_members : (assigned : List (List ℕ)) (ms : List StateMember) →
      locals (flat_map (locals_by_member bytes assigned) ms)
      ≡ tokens (flat_map (declared_by_member text own) ms)
  alike_members assigned [] = refl
  alike_members assigned (m ∷ ms) =
      joined (locals_by_member bytes assigned m) (flat_map (locals_by_member bytes assigned) ms)
      (declared_by_member text own m) (flat_map (declared_by_member text own) ms)
      (alike_member assigned m) (alike_members assigned ms)

  alike : (ms : List StateMember) → locals (declared_by_state bytes ms)
      ≡ tokens (flat_map (declared_by_member text own) ms)
  unfolding declared_by_state
  alike ms = alike_members (assigned_in_state bytes ms) ms

  -- the first of these tokens that has a name
  abbrev first_named : (name : List ℕ) → List ℕ → Option ℕ
  first_named name ns = find (λ n. bytes_eq name (bytes n)) ns

  local_first : (name : List ℕ) (ds : List Local) →
      option_map (λ d. d.token) (look_up name (under_names bytes ds))
      ≡ first_named name (locals ds)
  local_first name [] = refl
  local_first name (d ∷ ds) = by (bytes_eq name (bytes d.token)) (local_first name ds)
    where
      by : (b : Bool) → option_map (λ d. d.token) (look_up name (under_names bytes ds))
          ≡ first_named name (locals ds) →
          option_map (λ d. d.token) (cond b (Some d) (look_up name (under_names bytes ds)))
          ≡ cond b (Some d.token) (first_named name (locals ds))
      by true h = refl
      by false h = h

  abbrev IsSaid : Declared → Type 0
  IsSaid d = d.name ≡ bytes d.token

  entry_first : (i : ℕ) (name : List ℕ) (ds : List Declared) → Each IsSaid ds →
      option_map (λ e. e.token) (find (has_name (namespace.State i) name)
      (map (declared_entry (namespace.State i) i) ds))
      ≡ first_named name (tokens ds)
  entry_first i name [] said = refl
  entry_first i name (d ∷ ds) said =
      by (has_name (namespace.State i) name (declared_entry (namespace.State i) i d))
      (bytes_eq name (bytes d.token)) test (entry_first i name ds said.1)
    where
      test : (nat_eq i i && bytes_eq name d.name) ≡ bytes_eq name (bytes d.token)
      test = ap₂ (λ (b : Bool) (l : List ℕ). b && bytes_eq name l) (eq-eqb i i refl) said.0

      rest : List Entry
      rest = map (declared_entry (namespace.State i) i) ds

      by : (b c : Bool) → b ≡ c →
          option_map (λ e. e.token) (find (has_name (namespace.State i) name) rest)
          ≡ first_named name (tokens ds) →
          option_map (λ e. e.token) (cond b (Some (declared_entry (namespace.State i) i d))
          (find (has_name (namespace.State i) name) rest))
          ≡ cond c (Some d.token) (first_named name (tokens ds))
      by true true same h = refl
      by false false same h = h
      by true false same h = absurd cc
      by false true same h = absurd cc

  said_all : {X : Type 0} (f : X → Declared) → ((x : X) → IsSaid (f x)) → (xs : List X) →
      Each IsSaid (map f xs)
  said_all f h [] = tt
  said_all f h (x ∷ xs) = (h x, said_all f h xs)

  said_by_member : (m : StateMember) → Each IsSaid (declared_by_member text own m)
  said_by_member (members.Declaration d) =
      said_all (declared_by_declarator text own (symbol_kind_of d.of.base)) (λ x. refl)
      d.declarators
  said_by_member (members.Foreign names) =
      said_all (declared_at text own foreign_name) (λ n. refl) names
  said_by_member _ = tt

  pub said_by_members : (ms : List StateMember) →
      Each IsSaid (flat_map (declared_by_member text own) ms)
  said_by_members [] = tt
  said_by_members (m ∷ ms) =
      each_append IsSaid (declared_by_member text own m) (flat_map (declared_by_member text own) ms)
      (said_by_member m) (said_by_members ms)

  -- a name that the state declares means the first entry of that name in its scope
  pub means_first : (i : ℕ) (name : List ℕ) (ms : List StateMember) (e : Entry) →
      find (has_name (namespace.State i) name) (map (declared_entry (namespace.State i) i)
      (flat_map (declared_by_member text own) ms)) ≡ Some e →
      option_map (λ (d : Local). d.token)
      (look_up name (under_names bytes (declared_by_state bytes ms))) ≡ Some e.token
  means_first i name ms e found =
      let ds : List Declared = flat_map (declared_by_member text own) ms in
      local_first name (declared_by_state bytes ms)
      ∙ ap (first_named name) (alike ms)
      ∙ sym (entry_first i name ds (said_by_members ms))
      ∙ ap (option_map (λ (x : Entry). x.token)) found
