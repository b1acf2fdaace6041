-- An entry is a declaration of its item, or it is the name of a state set or of a state.
use Rattle.std.proofs.Common.{◌≡◌, ℕ, zero, suc, List, [], ◌∷◌, ◌++◌, length, map, slice_get, Option, None, Some, false, inl, inr, ◌⊎◌, refl, sym, ◌∙◌}
use Rattle.std.specs.List.{AllByRecursion as Each}
use Rattle.std.specs.Option.{option_map_or, option_to_list}
use Rattle.std.proofs.lemmas.Option.{none-some}
use Rattle.snl_facts.specs.Each.{each_append}
use Rattle.snl_codes.specs.declared.code.Code.{Code}
use Rattle.snl_codes.specs.declared.code.Code.TheVariants.{E08, E09}
use Rattle.snl_summary.specs.declared.summary.Declared.{Declared}
use Rattle.snl_summary.specs.declared.summary.Outline.{Outline}
use Rattle.snl_summary.specs.declared.summary.Variable.{Variable}
use Rattle.snl_scope.specs.declared.names.namespaces.Namespace.{Namespace}
use Rattle.snl_scope.specs.declared.names.namespaces.Namespace.TheVariants as namespace
use Rattle.snl_scope.specs.Names.{Entry, declared_entry, entries, entries_before, entries_of, named_entry, same_namespace, scope_of, set_entries, set_name, state_entries}
use Rattle.snl_scope.specs.Order.{state_name}
use Rattle.snl_scope.specs.Places.{enclosing_set}
use Rattle.snl_outline_laws.proofs.Lists.{each_made}

-- the declaration that an entry is, by its place in its item's outline
pub record Origin (ss : List Outline) (e : Entry) : Type 0 where
  pub outline : Outline
  pub at : slice_get ss e.item ≡ Some outline
  pub place : ℕ
  pub declared : Declared
  pub among : slice_get outline.declares place ≡ Some declared
  pub is : e ≡ declared_entry (scope_of ss e.item outline) e.item declared

-- an entry that declares nothing, and is in the scope of no state
pub record IsNameAlone (e : Entry) : Type 0 where
  pub nothing : e.variable ≡ None
  pub apart : (i : ℕ) → same_namespace (namespace.State i) e.namespace ≡ false

module _ (ss : List Outline) where
  abbrev pub HasOrigin : Entry → Type 0
  HasOrigin e = IsNameAlone e ⊎ Origin ss e

  pub declares : (e : Entry) (v : Variable) → HasOrigin e → e.variable ≡ Some v → Origin ss e
  declares e v (inl name) says = absurd (none-some v (sym name.nothing ∙ says))
  declares e v (inr origin) says = origin

  named_none : (ns : Namespace) → ((i : ℕ) → same_namespace (namespace.State i) ns ≡ false) →
      (i : ℕ) (code : Option Code) (names : List (List ℕ)) →
      Each HasOrigin (map (named_entry ns i code) names)
  named_none ns out i code [] = tt
  named_none ns out i code (name ∷ names) =
      (inl (record { nothing = refl; apart = out }), named_none ns out i code names)

  states_none : (set : Option ℕ) (i : ℕ) (s : Outline) → Each HasOrigin (state_entries set i s)
  states_none None i s = tt
  states_none (Some k) i s =
      named_none (namespace.States k) (λ n. refl) i (Some E09) (option_to_list (state_name s))

  item_originates : (i : ℕ) (s : Outline) → slice_get ss i ≡ Some s →
      Each HasOrigin (entries_of ss i s)
  item_originates i s at =
      let first = set_entries i s in
      let second = state_entries (enclosing_set ss i) i s in
      each_append HasOrigin (first ++ second) (map (declared_entry (scope_of ss i s) i) s.declares)
      (each_append HasOrigin first second
      (named_none namespace.Sets (λ n. refl) i (Some E08) (option_to_list (set_name s)))
      (states_none (enclosing_set ss i) i s))
      (each_made HasOrigin (declared_entry (scope_of ss i s) i) s.declares
      (λ k d among. inr (record {
        outline = s;
        at = at;
        place = k;
        declared = d;
        among = among;
        is = refl;
      })))

  originate_at : (n : ℕ) →
      Each HasOrigin (option_map_or (entries_of ss n) (slice_get ss n) [])
  originate_at n = by (slice_get ss n) refl
    where
      by : (o : Option Outline) → slice_get ss n ≡ o →
          Each HasOrigin (option_map_or (entries_of ss n) o [])
      by None at = tt
      by (Some s) at = item_originates n s at

  originate_before : (n : ℕ) → Each HasOrigin (entries_before ss n)
  originate_before zero = tt
  originate_before (suc n) =
      each_append HasOrigin (entries_before ss n)
      (option_map_or (entries_of ss n) (slice_get ss n) []) (originate_before n) (originate_at n)

  pub all_originate : Each HasOrigin (entries ss)
  all_originate = originate_before (length ss)
