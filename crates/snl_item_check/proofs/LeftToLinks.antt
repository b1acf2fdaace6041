-- What is found in an item has codes of its own, but for E07: and this is at no name that the item
-- declares in a scope that isn't its own, since such names are resolved in no scope of the item, or
-- come before all that is found in it.
use Rattle.std.proofs.Common.{◌≡◌, ◌⊎◌, ℕ, ◌<◌, Bool, true, false, ◌||◌, nat_lt, All, List, [], ◌∷◌, ◌++◌, length, map, inl, inr, Option, None, Some, refl, sym, ap, subst, ◌∙◌, arith}
use Rattle.std.specs.List.{AllByRecursion as Each, Contains, flat_map}
use Rattle.std.proofs.lemmas.Bool.{false≢true}
use Rattle.std.proofs.lemmas.List.Elements.{All-contains, All-from_recursion, All-nil, recursion_from_All}
use Rattle.snl_facts.specs.Numbers.{zero_lt}
use Rattle.snl_facts.specs.Each.{each_append, each_by, each_map, each_unmap, each_weaker}
use Rattle.snl_lex.specs.declared.piece.Piece.{Piece}
use Rattle.snl_grammar.specs.declared.tree.declaration.Declaration.{Declaration}
use Rattle.snl_grammar.specs.declared.tree.declaration.Declarator.{Declarator}
use Rattle.snl_grammar.specs.declared.tree.item.Function.{Function}
use Rattle.snl_grammar.specs.declared.tree.item.Item.{Item}
use Rattle.snl_grammar.specs.declared.tree.item.Item.TheVariants as items
use Rattle.snl_grammar.specs.declared.tree.statement.Member.{Member}
use Rattle.snl_walk.specs.declared.occurrence.Occurrence.{Occurrence}
use Rattle.snl_walk.specs.declared.other_items.Outer.{Outer}
use Rattle.snl_walk.specs.declared.rules.Finding.{Finding}
use Rattle.snl_walk.specs.Declares.{is_event_flag}
use Rattle.snl_walk.specs.Expressions.{names_if, names_in_value}
use Rattle.snl_walk.specs.Items.{occurrences, tokens_of}
use Rattle.snl_walk.specs.Options.{letters_in}
use Rattle.snl_walk.specs.Rules.{findings}
use Rattle.snl_walk.specs.Scopes.{seen}
use Rattle.snl_walk.specs.Statements.{found_in_declaration, found_in_declarator}
use Rattle.snl_codes.specs.declared.code.Code.TheVariants.{E07, W04}
use Rattle.snl_summary.specs.declared.summary.Outline.{Outline}
use Rattle.snl_summary.specs.declared.summary.Declared.{Declared}
use Rattle.snl_scope.specs.Names.{has_own_scope}
use Rattle.snl_summary.specs.RisingTokens.{declared_tokens}
use Rattle.snl_summary.specs.Summaries.{outline_in, role_of}
use Rattle.snl_summary.specs.Summaries.Clauses.{clauses_in}
use Rattle.snl_summary.specs.Summaries.Declares.{declared_at, declared_if_body, declared_in, function_name}
use Rattle.snl_summary.specs.declared.summary.ItemKind.TheVariants as kinds
use Rattle.snl_item_check.specs.declared.findings.ItemFault.{ItemFault}
use Rattle.snl_codes.specs.Codes.{Finder, finder_of, finds_by_rules, finds_in_items, is_item_code, is_rule_code, links_or_rules, rules, undeclared_names}
use Rattle.snl_walk.specs.Repeated.{IsApartFrom, IsNoRepetitionAt}
use Rattle.snl_item_check.specs.FaultCodes.{LeavesToLinks}
use Rattle.snl_item_check.specs.ItemFaults.{fault_of}
use Rattle.snl_item_check.specs.Options.{unknown_options}
use Rattle.snl_item_check.proofs.FaultsOnce.{IsLetter, every, options_stand}

each_flat : {X Y : Type 0} (P : Y → Type 0) (f : X → List Y) → ((x : X) → Each P (f x)) → (xs : List X) → Each P (flat_map f xs)
each_flat P f h [] = tt
each_flat P f h (x ∷ xs) = each_append P (f x) (flat_map f xs) (h x) (each_flat P f h xs)

-- ---- codes

by_items : (f : Finder) → finds_by_rules f ≡ true → finds_in_items f ≡ true
by_items links_or_rules h = refl
by_items rules h = refl
by_items undeclared_names h = refl
by_items _ h = absurd (false≢true h)

abbrev HasItemCode : ItemFault → Type 0
HasItemCode f = is_item_code f.code ≡ true

pub item_codes : (bytes : ℕ → List ℕ) (in_set : Bool) (t : Item) (fs : List Finding) → All (λ f. is_rule_code f.code ≡ true) fs → All HasItemCode (map fault_of fs ++ unknown_options bytes in_set t)
item_codes bytes in_set t fs told =
    let os = unknown_options bytes in_set t in
    All-from_recursion HasItemCode (map fault_of fs ++ os)
    (each_append HasItemCode (map fault_of fs) os
    (each_map HasItemCode fault_of fs
    (each_weaker (λ (f : Finding). is_rule_code f.code ≡ true) (λ (f : Finding). is_item_code f.code ≡ true) (λ f h. by_items (finder_of f.code) h) fs (recursion_from_All (λ (f : Finding). is_rule_code f.code ≡ true) fs told)))
    (each_weaker (IsLetter bytes (λ n. Unit {0})) HasItemCode (λ f h. ap is_item_code h.1) os (options_stand bytes (λ n. Unit {0}) in_set t (every bytes (letters_in t)))))

-- ---- by the tree

module _ (bytes : ℕ → List ℕ) where
  abbrev MeansNothing : Occurrence → Type 0
  MeansNothing o = o.means ≡ None

  each_nothing : {X : Type 0} (f : X → Occurrence) → ((x : X) → MeansNothing (f x)) → (xs : List X) → Each MeansNothing (map f xs)
  each_nothing f h [] = tt
  each_nothing f h (x ∷ xs) = (h x, each_nothing f h xs)

  in_declarator : (is_flag : Bool) (d : Declarator) → Each MeansNothing (found_in_declarator bytes [] is_flag false d)
  in_declarator is_flag d =
      (refl, each_append MeansNothing (map (seen bytes [] false) (flat_map names_if d.lengths)) (map (seen bytes [] false) (names_in_value d.init)) (each_nothing (seen bytes [] false) (λ n. refl) (flat_map names_if d.lengths)) (each_nothing (seen bytes [] false) (λ n. refl) (names_in_value d.init)))

  in_definition : (d : Declaration) → Each MeansNothing (found_in_declaration bytes [] false d)
  in_definition d = each_flat MeansNothing (found_in_declarator bytes [] (is_event_flag d.of.base) false) (in_declarator (is_event_flag d.of.base)) d.declarators

no_member : {X : Type 0} (x : X) → Contains [] x → ⊥
no_member x h = All-contains (λ y. ⊥) [] x (All-nil (λ y. ⊥)) h

only_member : (a n : ℕ) → Contains (a ∷ []) n → n ≡ a
only_member a n h = All-contains (λ y. y ≡ a) (a ∷ []) n (All-from_recursion (λ y. y ≡ a) (a ∷ []) (refl, tt)) h

-- a state that isn't a scope of its own declares nothing
state_declares : (ds : List Declared) (b : Bool) → has_own_scope (role_of kinds.State (nat_lt 0 (length ds) || b)) ≡ false → ds ≡ []
state_declares [] b h = refl
state_declares (d ∷ ds) b h = absurd (false≢true (sym h ∙ ap (λ c. has_own_scope (role_of kinds.State (c || b))) (zero_lt (length ds))))

module _ (bytes : ℕ → List ℕ) (text : List ℕ) (tokens : List Piece) where
  abbrev DeclaredBy : Item → ℕ → Type 0
  DeclaredBy t n = Contains (declared_tokens (outline_in text tokens (Some t))) n

  abbrev IsFreeOf : Item → Occurrence → Type 0
  IsFreeOf t o = (o.means ≡ None) ⊎ (DeclaredBy t o.token → ⊥)

  all_free : (t : Item) → ((n : ℕ) → DeclaredBy t n → ⊥) → Each (IsFreeOf t) (occurrences bytes t)
  all_free t none = each_by (IsFreeOf t) (λ o. inr (none o.token)) (occurrences bytes t)

  in_function : (f : Function) → All (λ n. f.name < n) (tokens_of (occurrences bytes (items.Function f))) → (body : Option (List Member)) → f.body ≡ body → Each (IsFreeOf (items.Function f)) (occurrences bytes (items.Function f))
  in_function f after None is =
      all_free (items.Function f) (λ n h. no_member n (subst (λ b. Contains (map (λ d. d.token) (declared_if_body (declared_at text tokens function_name f.name) b)) n) is h))
  in_function f after (Some block) is =
      each_weaker (λ o. f.name < o.token) (IsFreeOf (items.Function f))
      (λ o l. inr (λ h. let same = only_member f.name o.token (subst (λ b. Contains (map (λ d. d.token) (declared_if_body (declared_at text tokens function_name f.name) b)) o.token) is h) in omega (arith, l, same)))
      (occurrences bytes (items.Function f))
      (each_unmap (λ n. f.name < n) (λ o. o.token) (occurrences bytes (items.Function f)) (recursion_from_All (λ n. f.name < n) (tokens_of (occurrences bytes (items.Function f))) after))

  free_in : (t : Item) → ((f : Function) → t ≡ items.Function f → All (λ n. f.name < n) (tokens_of (occurrences bytes (items.Function f)))) → has_own_scope (outline_in text tokens (Some t)).role ≡ false → Each (IsFreeOf t) (occurrences bytes t)
  unfolding occurrences
  free_in (items.Definition d) after own = each_weaker (MeansNothing bytes) (IsFreeOf (items.Definition d)) (λ o h. inl h) (found_in_declaration bytes [] false d) (in_definition bytes d)
  free_in (items.Foreign names) after own = tt
  free_in (items.Function f) after own = in_function f (after f refl) f.body refl
  free_in (items.StateBlock name ms) after own =
      let none : declared_in text tokens (Some (items.StateBlock name ms)) ≡ [] = state_declares (declared_in text tokens (Some (items.StateBlock name ms))) (nat_lt 0 (length (clauses_in text tokens (Some (items.StateBlock name ms))))) own in
      all_free (items.StateBlock name ms) (λ n h. no_member n (subst (λ (ds : List Declared). Contains (map (λ d. d.token) ds) n) none h))
  free_in t after own = all_free t (λ n h. no_member n h)

  abbrev pub own_tokens : Item → List ℕ
  own_tokens t = declared_tokens (outline_in text tokens (Some t))

  module _ (outer : List ℕ → Option Outer) (misses : List ℕ → Bool) (in_set : Bool) (t : Item)
      (resolve : All (IsApartFrom (own_tokens t)) (occurrences bytes t) → All (IsNoRepetitionAt (own_tokens t)) (findings bytes outer misses (occurrences bytes t)))
      (after : (f : Function) → t ≡ items.Function f → All (λ n. f.name < n) (tokens_of (occurrences bytes (items.Function f)))) where
    abbrev s : Outline
    s = outline_in text tokens (Some t)

    abbrev fs : List Finding
    fs = findings bytes outer misses (occurrences bytes t)

    abbrev IsLeft : Finding → Type 0
    IsLeft f = LeavesToLinks s (fault_of f)

    left_if : (b : Bool) → has_own_scope s.role ≡ b → Each IsLeft fs
    left_if true own = each_by IsLeft (λ f e inner h. absurd (false≢true (sym inner ∙ own))) fs
    left_if false own =
        each_weaker (IsNoRepetitionAt (own_tokens t)) IsLeft (λ f right e inner h. right e h) fs
        (recursion_from_All (IsNoRepetitionAt (own_tokens t)) fs
        (resolve (All-from_recursion (IsApartFrom (own_tokens t)) (occurrences bytes t) (free_in t after own))))

    pub left_to_links : All (LeavesToLinks s) (map fault_of fs ++ unknown_options bytes in_set t)
    left_to_links =
        let os = unknown_options bytes in_set t in
        All-from_recursion (LeavesToLinks s) (map fault_of fs ++ os)
        (each_append (LeavesToLinks s) (map fault_of fs) os
        (each_map (LeavesToLinks s) fault_of fs (left_if (has_own_scope s.role) refl))
        (each_weaker (IsLetter bytes (λ n. Unit {0})) (LeavesToLinks s) (λ f letter e inner h. let other : W04 ≡ E07 = sym letter.1 ∙ e in cc) os
        (options_stand bytes (λ n. Unit {0}) in_set t (every bytes (letters_in t)))))
