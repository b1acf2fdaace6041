-- An item that declares other names means to the others what the one before it meant, but for these
-- names: each entry is as it was, or it is one of this item and has another name alone.
use Rattle.std.proofs.Common.{◌≡◌, ℕ, Bool, false, ◌&&◌, if◌then◌else◌, List, [], ◌∷◌, ◌++◌, map, Option, None, Some, is_some, refl, sym, ap, ap₂, ◌∙◌}
use Rattle.std.specs.List.{list_any}
use Rattle.std.specs.Option.{option_and_then, option_map, option_to_list}
use Rattle.std.specs.Str.{bytes_eq}
use Rattle.std.proofs.lemmas.Bool.{and_right, or_parts}
use Rattle.snl_codes.specs.declared.code.Code.TheVariants.{E09}
use Rattle.snl_scope.specs.declared.names.namespaces.Namespace.{Namespace}
use Rattle.snl_scope.specs.declared.names.namespaces.Namespace.TheVariants as namespace
use Rattle.snl_summary.specs.declared.summary.Declared.{Declared}
use Rattle.snl_summary.specs.declared.summary.Outline.{Outline}
use Rattle.snl_summary.specs.declared.summary.Role.{Role}
use Rattle.snl_scope.specs.Linked.{entry_declaration, is_first_state, name_of_state, scope_in, variable_declaration}
use Rattle.snl_scope.specs.Names.{Entry, declared_entry, has_name, has_own_scope, named_entry, same_namespace, scope_at, state_entries}
use Rattle.snl_scope.specs.Order.{state_name}
use Rattle.snl_scope.specs.Places.{enclosing_set}
use Rattle.snl_scope.specs.Renamed.{DeclaresAnew, IsPlain, MeanAlike, Unnamed, unnamed}
use Rattle.snl_scope.specs.Spoken.{is_among}
use Rattle.snl_scope.proofs.OneReplaced.{SayAlike, at_each, both_silent, both_spoken, first_stays, mean_alike, names_in, no_set, state_stays}
use Rattle.snl_scope.proofs.Untouched.{entries_at, silent_parts}

-- ---- entries of one item

-- A plain item is no state, and brings in what it declares alone.
module _ (o : Outline) (plain : IsPlain o) where
  no_state_name : state_name o ≡ None
  no_state_name = ap (λ (b : Bool). if b then o.second else None) plain.word

  no_state : (p : Option ℕ) (i : ℕ) → state_entries p i o ≡ []
  no_state None i = refl
  no_state (Some k) i = ap (λ (n : Option (List ℕ)). map (named_entry (namespace.States k) i (Some E09)) (option_to_list n)) no_state_name

  plain_entries : (p : Option ℕ) (i : ℕ) → entries_at p i o ≡ map (declared_entry (scope_at p) i) o.declares
  plain_entries p i =
      ap₂ (λ (a b : List Entry). a ++ b ++ map (declared_entry (if has_own_scope o.role then namespace.State i else scope_at p) i) o.declares) (no_set o plain.role i) (no_state p i)
      ∙ ap (λ (r : Role). map (declared_entry (if has_own_scope r then namespace.State i else scope_at p) i) o.declares) plain.role

-- What doesn't go by the names is told by what is declared without them.
module _ {A : Type 0} (f : Entry → A) (g : Unnamed → A) (scope : Namespace) (i : ℕ) (told : (d : Declared) → f (declared_entry scope i d) ≡ g (unnamed d)) where
  told_unnamed : (ds : List Declared) → map f (map (declared_entry scope i) ds) ≡ map g (map unnamed ds)
  told_unnamed [] = refl
  told_unnamed (d ∷ ds) = ap₂ (λ (a : A) (rest : List A). a ∷ rest) (told d) (told_unnamed ds)

-- Of a name that isn't declared there is no entry.
none_has : (s scope : Namespace) (i : ℕ) (name : List ℕ) (ds : List Declared) → list_any (bytes_eq name) (map (λ d. d.name) ds) ≡ false
    → map (has_name s name) (map (declared_entry scope i) ds) ≡ map (λ (u : Unnamed). false) (map unnamed ds)
none_has s scope i name [] h = refl
none_has s scope i name (d ∷ ds) h =
    let parts = or_parts (bytes_eq name d.name) (list_any (bytes_eq name) (map (λ d. d.name) ds)) h in
    ap₂ (λ (a : Bool) (rest : List Bool). a ∷ rest) (and_right (same_namespace s scope) (bytes_eq name d.name) parts.0) (none_has s scope i name ds parts.1)

-- The names of states are in namespaces of their own.
apart : (k : ℕ) (p : Option ℕ) → same_namespace (namespace.States k) (scope_at p) ≡ false
apart k None = refl
apart k (Some n) = refl

-- ---- entries of both items

module _ (old new : Outline) (anew : DeclaresAnew old new) where
  no_names : state_name new ≡ state_name old
  no_names = no_state_name new anew.is ∙ sym (no_state_name old anew.was)

  module _ {A : Type 0} (f : Entry → A) (p : Option ℕ) (i : ℕ) where
    by_declared : map f (map (declared_entry (scope_at p) i) new.declares) ≡ map f (map (declared_entry (scope_at p) i) old.declares)
        → map f (entries_at p i new) ≡ map f (entries_at p i old)
    by_declared same = ap (map f) (plain_entries new anew.is p i) ∙ same ∙ sym (ap (map f) (plain_entries old anew.was p i))

    by_unnamed : (g : Unnamed → A) → ((d : Declared) → f (declared_entry (scope_at p) i d) ≡ g (unnamed d)) → map f (entries_at p i new) ≡ map f (entries_at p i old)
    by_unnamed g told =
        by_declared
        (told_unnamed f g (scope_at p) i told new.declares
        ∙ ap (map g) anew.declares
        ∙ sym (told_unnamed f g (scope_at p) i told old.declares))

  -- neither is a state
  no_state_named : (k : ℕ) (name : List ℕ) (p : Option ℕ) (i : ℕ) → map (has_name (namespace.States k) name) (entries_at p i new) ≡ map (has_name (namespace.States k) name) (entries_at p i old)
  no_state_named k name p i = by_unnamed (has_name (namespace.States k) name) p i (λ u. false) (λ d. ap (λ (b : Bool). b && bytes_eq name d.name) (apart k p))

  undeclared : (s : Namespace) (name : List ℕ) → is_among (both_spoken old new) name ≡ false → (p : Option ℕ) (i : ℕ) → map (has_name s name) (entries_at p i new) ≡ map (has_name s name) (entries_at p i old)
  undeclared s name silent p i =
      let both = both_silent old new name silent in
      by_declared (has_name s name) p i
      (none_has s (scope_at p) i name new.declares (silent_parts name new both.1).0
      ∙ ap (map (λ (u : Unnamed). false)) anew.declares
      ∙ sym (none_has s (scope_at p) i name old.declares (silent_parts name old both.0).0))

  -- names of states stay, and so do all others but theirs
  others : (s : Namespace) (name : List ℕ) → is_among (names_in (both_spoken old new) [] s) name ≡ false → (p : Option ℕ) (i : ℕ) → map (has_name s name) (entries_at p i new) ≡ map (has_name s name) (entries_at p i old)
  others namespace.Program name silent = undeclared namespace.Program name silent
  others (namespace.StateSet k) name silent = undeclared (namespace.StateSet k) name silent
  others (namespace.State i) name silent = undeclared (namespace.State i) name silent
  others namespace.Sets name silent = undeclared namespace.Sets name silent
  others (namespace.States k) name silent = no_state_named k name

  pub say_alike : SayAlike old new (both_spoken old new) []
  say_alike = record {
    role = anew.is.role ∙ sym anew.was.role;
    named = ap is_some no_names;
    items = λ p i. by_unnamed (λ e. e.item) p i (λ u. i) (λ d. refl);
    declarations = λ p i. by_unnamed entry_declaration p i (λ u. option_map (λ s. variable_declaration i u.token s u.variable) (scope_in (scope_at p))) (λ d. refl);
    variables = λ p i. by_unnamed (λ e. e.variable) p i (λ u. Some u.variable) (λ d. refl);
    others = others;
  }

  pub same_state_names : (before after : List Outline) (i : ℕ) → name_of_state (before ++ (new ∷ after)) i ≡ name_of_state (before ++ (old ∷ after)) i
  same_state_names before after i = at_each before old new after (both_spoken old new) [] say_alike (option_and_then state_name) i (λ here. no_names)

  pub declares_alike : (before after : List Outline) → MeanAlike (before ++ (old ∷ after)) (before ++ (new ∷ after)) (both_spoken old new) []
  declares_alike before after =
      let means : ((i : ℕ) → is_first_state (before ++ (new ∷ after)) i ≡ is_first_state (before ++ (old ∷ after)) i) → MeanAlike (before ++ (old ∷ after)) (before ++ (new ∷ after)) (both_spoken old new) [] =
      mean_alike before old new after (both_spoken old new) [] say_alike in
      means (λ i.
      first_stays before old new after (both_spoken old new) [] say_alike i (same_state_names before after i)
      (λ name h. state_stays before old new after (both_spoken old new) [] say_alike i name
      (λ k in_set j here. no_state_named k name (enclosing_set (before ++ (old ∷ after)) j) j)))
