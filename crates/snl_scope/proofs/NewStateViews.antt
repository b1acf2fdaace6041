-- What the others see of a state by another name: no name of a declaration means something else, so
-- all clauses say what they said, and an item that leads to neither name sees what it saw.
use Rattle.std.proofs.Common.{◌≡◌, ℕ, Bool, false, if◌then◌else◌, List, [], ◌∷◌, ◌++◌, length, map, nat_lt, Option, None, Some, is_some, slice_get, refl, sym, ap, ap₂, ◌∙◌}
use Rattle.std.specs.List.{list_any}
use Rattle.std.specs.Option.{option_and_then}
use Rattle.std.proofs.lemmas.Bool.{or_parts}
use Rattle.std.proofs.lemmas.Option.{option_and_then_some}
use Rattle.snl_scope.specs.declared.facts.Fact.{Fact}
use Rattle.snl_summary.specs.declared.summary.NameRef.{NameRef}
use Rattle.snl_summary.specs.declared.summary.Outline.{Outline}
use Rattle.snl_scope.specs.Clauses.{LinkedClause, assigned_by, clauses_of}
use Rattle.snl_scope.specs.Linked.{entry_fact, fact_at, fact_of, has_target, state_of}
use Rattle.snl_scope.specs.Names.{Entry, entries, resolve}
use Rattle.snl_scope.specs.Places.{enclosing_set}
use Rattle.snl_scope.specs.Renamed.{MeanAlike, NamesAnew, RenamesState, state_names}
use Rattle.snl_scope.specs.Spoken.{KeepsViewsBut, is_among}
use Rattle.snl_scope.specs.View.{View}
use Rattle.snl_scope.proofs.NewStateNames.{by_entry, renamed_alike, say_alike}
use Rattle.snl_scope.proofs.OneReplaced.{SayAlike, around_alike, then_at_number}
use Rattle.snl_scope.proofs.StayingClauses.{clauses_stay, none_is_on}

mapped : {X Y : Type 0} (f g : X → Y) → ((x : X) → f x ≡ g x) → (xs : List X) → map f xs ≡ map g xs
mapped f g same [] = refl
mapped {Y = Y} f g same (x ∷ xs) = ap₂ (λ (y : Y) (ys : List Y). y ∷ ys) (same x) (mapped f g same xs)

then_same : {X Y : Type 0} (f g : X → Option Y) → ((x : X) → f x ≡ g x) → (o : Option X) → option_and_then f o ≡ option_and_then g o
then_same f g same None = refl
then_same f g same (Some x) = same x

module _ (before : List Outline) (old new : Outline) (after : List Outline) (renames : RenamesState old new) (a b : List ℕ) (was : old.second ≡ Some a) (is : new.second ≡ Some b) where
  abbrev ss : List Outline
  ss = before ++ (old ∷ after)

  abbrev ts : List Outline
  ts = before ++ (new ∷ after)

  abbrev names : List (List ℕ)
  names = state_names old new

  alike : SayAlike old new [] names
  alike = say_alike old new renames a b was is

  module _ (means : MeanAlike ss ts [] names) where
    clauses_same : clauses_of ts ≡ clauses_of ss
    clauses_same = clauses_stay before old new after [] names alike renames.was_clauses renames.is_clauses means (none_is_on ss)

    -- ---- what is known of a name

    fact_at_same : (n : ℕ) → fact_at ts n ≡ fact_at ss n
    fact_at_same n =
        let told : Entry → Option Fact = entry_fact (assigned_by (clauses_of ss) n) in
        ap (λ (cs : List LinkedClause). option_and_then (entry_fact (assigned_by cs n)) (slice_get (entries ts) n)) clauses_same
        ∙ then_at_number before old new after [] names alike told (λ i here. by_entry old new renames a b was is told (enclosing_set ss i) i (λ k h. refl)) n

    fact_same : (i : ℕ) (name : List ℕ) → fact_of ts i name ≡ fact_of ss i name
    fact_same i name =
        let chosen : Bool → Option Fact → Option Fact = λ inside fact. if inside then fact else None in
        ap₂ chosen (ap (nat_lt i) means.count)
        (ap (option_and_then (fact_at ts)) (around_alike before old new after [] names alike name refl i) ∙ then_same (fact_at ts) (fact_at ss) fact_at_same (resolve (entries ss) (enclosing_set ss i) name))

    leads_same : (i : ℕ) (targets : List NameRef) → list_any (λ t. is_among names t.name) targets ≡ false → map (λ (t : NameRef). has_target ts i t.name) targets ≡ map (λ (t : NameRef). has_target ss i t.name) targets
    leads_same i [] h = refl
    leads_same i (t ∷ targets) h =
        let parts = or_parts (is_among names t.name) (list_any (λ t. is_among names t.name) targets) h in
        ap₂ (λ (x : Bool) (xs : List Bool). x ∷ xs) (means.targets i t.name parts.0) (leads_same i targets parts.1)

    views_same : KeepsViewsBut ss ts [] names
    views_same i s silent =
        let targets = or_parts (list_any (is_among []) s.uses) (list_any (λ t. is_among names t.name) s.targets) silent in
        let seen : Bool → List (Option Fact) → List Bool → View = λ in_set facts leads. record { in_set = in_set; facts = facts; leads = leads } in
        sym (ap₂ (λ (x : Bool) (fs : List (Option Fact)). seen x fs (map (λ (t : NameRef). has_target ts i t.name) s.targets)) (ap is_some (means.places i)) (mapped (λ name. fact_of ts i name) (λ name. fact_of ss i name) (fact_same i) s.uses)
        ∙ ap (seen (is_some (enclosing_set ss i)) (map (λ name. fact_of ss i name) s.uses)) (leads_same i s.targets targets.1))

pub renamed_views : (before : List Outline) (old new : Outline) (after : List Outline) → NamesAnew (before ++ (old ∷ after)) (before ++ (new ∷ after)) (length before) old new
    → KeepsViewsBut (before ++ (old ∷ after)) (before ++ (new ∷ after)) [] (state_names old new)
renamed_views before old new after anew =
    option_and_then_some (state_of (before ++ (old ∷ after)) (length before)) old.second (length before) anew.was_own (λ a was was_own.
    option_and_then_some (state_of (before ++ (new ∷ after)) (length before)) new.second (length before) anew.is_own (λ b is is_own.
    views_same before old new after anew.renames a b was is (renamed_alike before old new after anew)))
