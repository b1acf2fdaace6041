-- Each finding of links is at a token of an item, but for what is missing altogether.
use Rattle.std.proofs.Common.{◌≡◌, ◌⊎◌, ℕ, zero, suc, ◌<◌, Bool, true, false, not, ◌||◌, All, List, [], ◌∷◌, ◌++◌, length, map, Option, None, Some, IfSome, is_some, slice_get, inl, inr, refl, sym, ap, subst, ◌∙◌, arith, if◌then◌else◌}
use Rattle.std.specs.List.{AllByRecursion as Each, Contains}
use Rattle.std.specs.Option.{option_map_or, option_to_list}
use Rattle.std.proofs.lemmas.Bool.{cases_lt, false≢true}
use Rattle.std.proofs.lemmas.List.Elements.{All-contains_itself, All-from_recursion, recursion_from_All}
use Rattle.snl_scope.specs.BelowLaws.{each_below}
use Rattle.snl_facts.specs.Booleans.{and_first, and_second}
use Rattle.snl_facts.specs.Each.{each_append, each_both, each_map, each_unmap, each_weaker}
use Rattle.snl_codes.specs.declared.code.Code.{Code}
use Rattle.snl_codes.specs.declared.code.Code.TheVariants.{E03, E04, E05, E06, E07, E08, E09}
use Rattle.snl_scope.specs.declared.facts.LinkFault.{LinkFault}
use Rattle.snl_scope.specs.declared.names.namespaces.Namespace.{Namespace}
use Rattle.snl_scope.specs.declared.names.namespaces.Namespace.TheVariants as namespace
use Rattle.snl_summary.specs.declared.summary.NameRef.{NameRef}
use Rattle.snl_summary.specs.declared.summary.Outline.{Outline}
use Rattle.snl_summary.specs.declared.summary.VariableClause.{VariableClause}
use Rattle.snl_scope.specs.Below.{all_below, any_below}
use Rattle.snl_scope.specs.Clauses.{LinkedClause, clause_faults, clauses_before, clauses_of, linked_clause}
use Rattle.snl_codes.specs.Codes.{is_link_code}
use Rattle.snl_scope.specs.FaultPlaces.{DeclaresOutside, IsPlaced, IsPlacedBy, NoneIs, SpeaksOfTokens}
use Rattle.snl_scope.specs.Linked.{faults_of}
use Rattle.snl_scope.specs.LinkedItems.{LinkedItems}
use Rattle.snl_scope.specs.Names.{Entry, declared_entry, entries, entries_before, entries_of, has_own_scope, name_faults, named_entry, repetitions, scope_at, scope_code, scope_of, set_entries, set_name, state_entries, told_by}
use Rattle.snl_summary.specs.RisingTokens.{declared_tokens}
use Rattle.snl_scope.specs.Order.{at_item, at_items_where, found_if, header_faults, if_missing, is_misplaced, is_program_item, is_program_word, is_repeated_header, is_ss_item, is_ss_word, is_state_word, is_stateless, is_unmatched, misplaced_items, missing_states, order_faults, state_name, unmatched_braces}
use Rattle.snl_scope.specs.Places.{begins_set, is_set_begin, item_is, enclosing_set}
use Rattle.snl_scope.proofs.Families.{rank}
use Rattle.snl_scope.proofs.OnceClauses.{AtClause, after_each, each_flags}
use Rattle.snl_scope.proofs.OnceNames.{Gives, each-filter, repeated_each}

-- ---- searches among the numbers below one

either_false : (a b : Bool) → (a || b) ≡ false → (a ≡ false) × (b ≡ false)
either_false true b h = absurd (false≢true (sym h))
either_false false b h = (refl, h)

none_passes : (p : ℕ → Bool) (n : ℕ) → any_below p n ≡ false → (i : ℕ) → i < n → p i ≡ false
none_passes p zero h i l = absurd (omega (arith, l))
none_passes p (suc n) h i l =
    let parts = either_false (p n) (any_below p n) h in
    elim (cases_lt i n) [
      | inl less ↦ none_passes p n parts.1 i less
      | inr more ↦ let same : i ≡ n = omega (arith, l, more) in ap p same ∙ parts.0
    ]

-- an element that is read
inside : {A : Type 0} (xs : List A) (i : ℕ) (x : A) → slice_get xs i ≡ Some x → i < length xs
inside [] i x h = absurd cc
inside (y ∷ ys) zero x h = omega arith
inside (y ∷ ys) (suc i) x h = let l = inside ys i x h in omega (arith, l)

outside : {A : Type 0} (xs : List A) → slice_get xs (length xs) ≡ None
outside [] = refl
outside (x ∷ xs) = outside xs

read_some : {A : Type 0} (xs : List A) (i : ℕ) → i < length xs → is_some (slice_get xs i) ≡ true
read_some [] i l = absurd (omega (arith, l))
read_some (x ∷ xs) zero l = refl
read_some (x ∷ xs) (suc i) l = read_some xs i (omega (arith, l))

none_is : (test : Outline → Bool) (ss : List Outline) → any_below (item_is test ss) (length ss) ≡ false → NoneIs test ss
none_is test ss h i s at = ap (λ o. option_map_or test o false) (sym at) ∙ none_passes (item_is test ss) (length ss) h i (inside ss i s at)

-- ---- codes

link_code : (c : Code) → rank c < 12 → is_link_code c ≡ true
link_code E03 h = refl
link_code _ h = grind arith

not_true : (b : Bool) → not b ≡ true → b ≡ false
not_true true h = absurd (false≢true h)
not_true false h = refl

some_if : (b : Bool) (o : Option (List ℕ)) → is_some (if b then o else None) ≡ true → is_some o ≡ true
some_if true o h = h
some_if false o h = absurd (false≢true h)

module _ (counts : ℕ → ℕ) (ss : List Outline) (speaks : (i : ℕ) → IfSome (slice_get ss i) (SpeaksOfTokens (counts i))) where
  abbrev Placed : LinkFault → Type 0
  Placed = IsPlaced counts ss

  -- ---- the order of items

  at_first : (code : Code) (i : ℕ) → i < length ss → is_link_code code ≡ true → (code ≡ E05 → is_program_item ss i ≡ true)
      → (code ≡ E06 → is_set_begin ss i ≡ true) → (code ≡ E07 → ⊥) → Placed (at_item code i)
  at_first code i l known program set other = by (slice_get ss i) (speaks i) (read_some ss i l) program set
    where
      by : (o : Option Outline) → IfSome o (SpeaksOfTokens (counts i)) → is_some o ≡ true → (code ≡ E05 → option_map_or (λ s. is_program_word s.opening) o false ≡ true)
          → (code ≡ E06 → option_map_or (λ s. begins_set s.role) o false ≡ true) → IsPlacedBy counts ss (at_item code i) o
      by None h is p q = absurd (false≢true is)
      by (Some s) h is p q = record { token = h.first; code = known; program = p; set = λ e. h.set (q e); declared = λ e. absurd (other e) }

  at_firsts : (code : Code) (test : ℕ → Bool) → is_link_code code ≡ true → ((i : ℕ) → test i ≡ true → code ≡ E05 → is_program_item ss i ≡ true)
      → ((i : ℕ) → test i ≡ true → code ≡ E06 → is_set_begin ss i ≡ true) → (code ≡ E07 → ⊥) → Each Placed (at_items_where code test (length ss))
  at_firsts code test known program set other =
      each_map Placed (at_item code) (all_below test (length ss))
      (each_below (λ i. Placed (at_item code i)) test (length ss) (λ i l is. at_first code i l known (program i is) (set i is) other))

  missing : (code : Code) (b : Bool) → (b ≡ true → ((code ≡ E05) × NoneIs (λ s. is_program_word s.opening) ss) ⊎ ((code ≡ E06) × NoneIs (λ s. is_ss_word s.opening) ss)) → Each Placed (found_if b code (length ss))
  missing code true h = (subst (IsPlacedBy counts ss (at_item code (length ss))) (sym (outside ss)) (record { item = refl; token = refl; code = h refl }), tt)
  missing code false h = tt

  -- ---- names

  -- a finding at a token of an item
  at_token : (i : ℕ) (s : Outline) → slice_get ss i ≡ Some s → (f : LinkFault) → f.item ≡ i → f.token < counts i → 6 < rank f.code → rank f.code < 12
      → (f.code ≡ E07 → DeclaresOutside f.token s) → Placed f
  at_token i s at f item token low high outside =
      let here : slice_get ss f.item ≡ Some s = ap (slice_get ss) item ∙ at in
      let count : counts f.item ≡ counts i = ap counts item in
      subst (IsPlacedBy counts ss f) (sym here) (record {
        token = omega (arith, token, count);
        code = link_code f.code high;
        program = λ e. absurd (omega (arith, low, ap rank e));
        set = λ e. absurd (omega (arith, low, ap rank e));
        declared = outside;
      })

  abbrev EntryPlaced : Entry → Type 0
  EntryPlaced e = (f : LinkFault) → Gives e f → Placed f

  abbrev HasRank : Option Code → Type 0
  HasRank o = IfSome o (λ c. (6 < rank c) × (rank c < 12))

  entry_placed : (i : ℕ) (s : Outline) → slice_get ss i ≡ Some s → (e : Entry) → e.item ≡ i → e.token < counts i → HasRank e.code
      → (e.code ≡ Some E07 → DeclaresOutside e.token s) → EntryPlaced e
  entry_placed i s at e item token code outside f p =
      let ranks = subst HasRank p.code code in
      at_token i s at f (p.item ∙ item) (omega (arith, token, p.token)) ranks.0 ranks.1
      (λ is. subst (λ n. DeclaresOutside n s) (sym p.token) (outside (p.code ∙ ap Some is)))

  module _ (i : ℕ) (s : Outline) (at : slice_get ss i ≡ Some s) (says : SpeaksOfTokens (counts i) s) where
    named : (names : Namespace) (code : Code) → 6 < rank code → rank code < 12 → (code ≡ E07 → ⊥) → (o : Option (List ℕ)) → (is_some o ≡ true → is_some s.second ≡ true)
        → Each EntryPlaced (map (named_entry names i (Some code)) (option_to_list o))
    named names code low high other None some = tt
    named names code low high other (Some name) some =
        (entry_placed i s at (named_entry names i (Some code) name) refl (says.second (some refl)) (low, high) (λ e. absurd (other cc)), tt)

    state_placed : (p : Option ℕ) → Each EntryPlaced (state_entries p i s)
    state_placed None = tt
    state_placed (Some k) = named (namespace.States k) E09 (omega arith) (omega arith) (λ e. cc) (state_name s) (some_if (is_state_word s.opening) s.second)

    scope_ranks : (scope : Namespace) → HasRank (scope_code scope)
    scope_ranks (namespace.State k) = tt
    scope_ranks scope = (omega arith, omega arith)

    not_own : scope_code (scope_of ss i s) ≡ Some E07 → has_own_scope s.role ≡ false
    not_own = by (has_own_scope s.role)
      where
        by : (b : Bool) → scope_code (if b then namespace.State i else scope_at (enclosing_set ss i)) ≡ Some E07 → b ≡ false
        by true e = absurd cc
        by false e = refl

    declared_placed : Each EntryPlaced (map (declared_entry (scope_of ss i s) i) s.declares)
    declared_placed =
        each_map EntryPlaced (declared_entry (scope_of ss i s) i) s.declares
        (each_weaker (λ d. (d.token < counts i) × Contains (declared_tokens s) d.token) (λ d. EntryPlaced (declared_entry (scope_of ss i s) i d))
        (λ d h. entry_placed i s at (declared_entry (scope_of ss i s) i d) refl h.0 (scope_ranks (scope_of ss i s)) (λ e. record { outside = not_own e; declared = h.1 }))
        s.declares
        (each_both (λ d. d.token < counts i) (λ d. Contains (declared_tokens s) d.token) s.declares
        (each_unmap (λ n. n < counts i) (λ d. d.token) s.declares says.declared)
        (each_unmap (Contains (declared_tokens s)) (λ d. d.token) s.declares (recursion_from_All (Contains (declared_tokens s)) (declared_tokens s) (All-contains_itself (declared_tokens s))))))

    entries_placed : Each EntryPlaced (entries_of ss i s)
    entries_placed =
        each_append EntryPlaced (set_entries i s ++ state_entries (enclosing_set ss i) i s) (map (declared_entry (scope_of ss i s) i) s.declares)
        (each_append EntryPlaced (set_entries i s) (state_entries (enclosing_set ss i) i s)
        (named namespace.Sets E08 (omega arith) (omega arith) (λ e. cc) (set_name s) (some_if (begins_set s.role) s.second)) (state_placed (enclosing_set ss i)))
        declared_placed

  entries_if : (i : ℕ) (o : Option Outline) → slice_get ss i ≡ o → IfSome o (SpeaksOfTokens (counts i)) → Each EntryPlaced (option_map_or (entries_of ss i) o [])
  entries_if i None at says = tt
  entries_if i (Some s) at says = entries_placed i s at says

  before_placed : (n : ℕ) → Each EntryPlaced (entries_before ss n)
  before_placed zero = tt
  before_placed (suc n) =
      each_append EntryPlaced (entries_before ss n) (option_map_or (entries_of ss n) (slice_get ss n) []) (before_placed n) (entries_if n (slice_get ss n) refl (speaks n))

  -- ---- clauses

  abbrev ClausePlaced : LinkedClause → Type 0
  ClausePlaced c = (f : LinkFault) → AtClause c f → Placed f

  clause_placed : (i : ℕ) (s : Outline) → slice_get ss i ≡ Some s → (c : VariableClause) → c.variable.token < counts i
      → ((m : NameRef) → c.flag ≡ Some m → m.token < counts i) → ClausePlaced (linked_clause ss i c)
  clause_placed i s at c token flags f (inl p) =
      at_token i s at f p.item (omega (arith, token, p.token)) (omega (arith, p.code)) (omega (arith, p.code)) (λ e. absurd (omega (arith, p.code, ap rank e)))
  clause_placed i s at c token flags f (inr p) =
      at_token i s at f p.item (omega (arith, flags p.flag p.named, p.token)) (omega (arith, p.code)) (omega (arith, p.code)) (λ e. absurd (omega (arith, p.code, ap rank e)))

  abbrev BothBelow : ℕ → VariableClause → Type 0
  BothBelow count c = (c.variable.token < count) × ((m : NameRef) → c.flag ≡ Some m → m.token < count)

  clauses_if : (i : ℕ) (o : Option Outline) → slice_get ss i ≡ o → IfSome o (SpeaksOfTokens (counts i)) → Each ClausePlaced (option_map_or (λ s. map (linked_clause ss i) s.clauses) o [])
  clauses_if i None at says = tt
  clauses_if i (Some s) at says =
      each_map ClausePlaced (linked_clause ss i) s.clauses
      (each_weaker (BothBelow (counts i)) (λ c. ClausePlaced (linked_clause ss i c)) (λ c h. clause_placed i s at c h.0 h.1) s.clauses
      (each_both (λ c. c.variable.token < counts i) (λ c. (m : NameRef) → c.flag ≡ Some m → m.token < counts i) s.clauses
      (each_unmap (λ n. n < counts i) (λ c. c.variable.token) s.clauses says.variables)
      (each_flags (λ n. n < counts i) s.clauses says.flags)))

  clauses_placed : (n : ℕ) → Each ClausePlaced (clauses_before ss n)
  clauses_placed zero = tt
  clauses_placed (suc n) =
      each_append ClausePlaced (clauses_before ss n) (option_map_or (λ s. map (linked_clause ss n) s.clauses) (slice_get ss n) []) (clauses_placed n) (clauses_if n (slice_get ss n) refl (speaks n))

-- ---- all of them

module _ (l : LinkedItems) (counts : ℕ → ℕ) (speaks : (i : ℕ) → IfSome (slice_get l.outlines i) (SpeaksOfTokens (counts i))) where
  abbrev IsPlacedThere : LinkFault → Type 0
  IsPlacedThere = IsPlaced counts l.outlines

  headers_placed : Each IsPlacedThere (header_faults l)
  headers_placed =
      each_append IsPlacedThere (at_items_where E05 (is_repeated_header l) (length l.outlines)) (if_missing E05 (is_program_item l.outlines) (length l.outlines))
      (at_firsts counts l.outlines speaks E05 (is_repeated_header l) refl (λ i h e. and_first _ _ (and_second _ _ h)) (λ i h e. absurd cc) (λ e. cc))
      (missing counts l.outlines speaks E05 (not (any_below (is_program_item l.outlines) (length l.outlines)))
      (λ h. inl (refl, none_is (λ s. is_program_word s.opening) l.outlines (not_true (any_below (is_program_item l.outlines) (length l.outlines)) h))))

  states_placed : Each IsPlacedThere (missing_states l.outlines)
  states_placed =
      each_append IsPlacedThere (at_items_where E06 (is_stateless l.outlines) (length l.outlines)) (if_missing E06 (is_ss_item l.outlines) (length l.outlines))
      (at_firsts counts l.outlines speaks E06 (is_stateless l.outlines) refl (λ i h e. absurd cc) (λ i h e. and_first _ _ h) (λ e. cc))
      (missing counts l.outlines speaks E06 (not (any_below (is_ss_item l.outlines) (length l.outlines)))
      (λ h. inr (refl, none_is (λ s. is_ss_word s.opening) l.outlines (not_true (any_below (is_ss_item l.outlines) (length l.outlines)) h))))

  order_placed : Each IsPlacedThere (order_faults l)
  order_placed =
      each_append IsPlacedThere (misplaced_items l ++ unmatched_braces l.outlines ++ header_faults l) (missing_states l.outlines)
      (each_append IsPlacedThere (misplaced_items l ++ unmatched_braces l.outlines) (header_faults l)
      (each_append IsPlacedThere (misplaced_items l) (unmatched_braces l.outlines)
      (at_firsts counts l.outlines speaks E03 (is_misplaced l) refl (λ i h e. absurd cc) (λ i h e. absurd cc) (λ e. cc))
      (at_firsts counts l.outlines speaks E04 (is_unmatched l.outlines) refl (λ i h e. absurd cc) (λ i h e. absurd cc) (λ e. cc)))
      headers_placed)
      states_placed

  pub faults_placed : All IsPlacedThere (faults_of l)
  faults_placed =
      All-from_recursion IsPlacedThere (faults_of l)
      (each_append IsPlacedThere (order_faults l ++ name_faults l) (clause_faults l.outlines)
      (each_append IsPlacedThere (order_faults l) (name_faults l) order_placed
      (each-filter (told_by l.kinds) IsPlacedThere (repetitions [] (entries l.outlines)) (repeated_each IsPlacedThere [] (entries l.outlines) (before_placed counts l.outlines speaks (length l.outlines)))))
      (after_each (entries l.outlines) (clauses_of l.outlines) IsPlacedThere [] (clauses_of l.outlines) (clauses_placed counts l.outlines speaks (length l.outlines))))
