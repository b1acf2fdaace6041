-- Clauses where one item takes the place of another and neither has any: they say of the same
-- declarations what they said if none is on a name by which both differ, and as much is found.
use Rattle.std.proofs.Common.{◌≡◌, ℕ, zero, suc, Bool, false, not, ◌&&◌, ◌||◌, if◌then◌else◌, List, [], ◌∷◌, ◌++◌, length, map, Option, None, Some, is_some, slice_get, refl, sym, ap, ap₂, ◌∙◌}
use Rattle.std.specs.List.{list_any}
use Rattle.std.specs.Option.{option_and_then, option_map_or, option_to_list}
use Rattle.std.proofs.lemmas.Bool.{or_parts}
use Rattle.std.proofs.lemmas.Option.{same_Some}
use Rattle.snl_codes.specs.declared.code.Code.{Code}
use Rattle.snl_codes.specs.declared.code.Code.TheVariants.{E11, E14}
use Rattle.snl_codes.specs.Codes.{is_error}
use Rattle.snl_scope.specs.declared.facts.LinkFault.{LinkFault}
use Rattle.snl_summary.specs.declared.summary.NameRef.{NameRef}
use Rattle.snl_summary.specs.declared.summary.Outline.{Outline}
use Rattle.snl_summary.specs.declared.summary.Variable.{Variable}
use Rattle.snl_summary.specs.declared.summary.VariableClause.{VariableClause}
use Rattle.snl_scope.specs.Clauses.{LinkedClause, at_name_ref, clause_faults, clauses_before, clauses_of, code_on, found_after, found_at, has_wrong_flag, is_event_flag, is_sound, linked_clause, resolve_in, soundness, soundness_after, variable_at, variable_code, with_clause}
use Rattle.snl_scope.specs.Names.{Entry, entries}
use Rattle.snl_scope.specs.Places.{enclosing_set}
use Rattle.snl_scope.specs.Renamed.{MeanAlike, is_on, some_is_on}
use Rattle.snl_scope.specs.Spoken.{is_among}
use Rattle.snl_scope.proofs.OneReplaced.{SayAlike, at_each, then_at_number}

-- ---- entries that declare the same, one by one

module _ (es fs : List Entry) (same : (o : Option ℕ) → variable_at fs o ≡ variable_at es o) (cs : List LinkedClause) where
  same_code : (sound : List LinkedClause) (c : LinkedClause) → variable_code fs cs sound c ≡ variable_code es cs sound c
  same_code sound c = ap (λ (v : Option Variable). option_map_or (code_on cs sound c) v (Some E11)) (same c.variable)

  same_flag : (c : LinkedClause) → has_wrong_flag fs c ≡ has_wrong_flag es c
  same_flag c = ap (λ (o : Option Variable). is_some c.clause.flag && not (option_map_or (λ v. is_event_flag v.symbol_kind) o false)) (same c.flag)

  same_soundness : (sound : List LinkedClause) (c : LinkedClause) → is_sound fs cs sound c ≡ is_sound es cs sound c
  same_soundness sound c = ap₂ (λ (code : Option Code) (wrong : Bool). not (option_map_or is_error code false) && not wrong) (same_code sound c) (same_flag c)

  same_sound : (sound : List LinkedClause) (c : LinkedClause) → with_clause fs cs sound c ≡ with_clause es cs sound c
  same_sound sound c = ap (λ (b : Bool). if b then sound ++ c ∷ [] else sound) (same_soundness sound c)

  soundness_stays : (sound ds : List LinkedClause) → soundness_after fs cs sound ds ≡ soundness_after es cs sound ds
  soundness_stays sound [] = refl
  soundness_stays sound (d ∷ ds) =
      ap₂ (λ (b : Bool) (bs : List Bool). b ∷ bs) (same_soundness sound d)
      (ap (λ (s : List LinkedClause). soundness_after fs cs s ds) (same_sound sound d) ∙ soundness_stays (with_clause es cs sound d) ds)

  same_found : (sound : List LinkedClause) (c : LinkedClause) → found_at fs cs sound c ≡ found_at es cs sound c
  same_found sound c = λ j. found_at_both (same_code sound c j) (same_flag c j)
    where
      found_at_both : Option Code → Bool → List LinkFault
      found_at_both code wrong = map (at_name_ref c.item c.clause.variable) (option_to_list code) ++ (if wrong then map (λ m. at_name_ref c.item m E14) (option_to_list c.clause.flag) else [])

  found_stays : (sound ds : List LinkedClause) → found_after fs cs sound ds ≡ found_after es cs sound ds
  found_stays sound [] = refl
  found_stays sound (d ∷ ds) =
      ap₂ (λ (xs ys : List LinkFault). xs ++ ys) (same_found sound d)
      (ap (λ (s : List LinkedClause). found_after fs cs s ds) (same_sound sound d) ∙ found_stays (with_clause es cs sound d) ds)

-- ---- one item in the place of another

none_at : {X : Type 0} (p : X → Bool) (xs : List X) (i : ℕ) (x : X) → list_any p xs ≡ false → slice_get xs i ≡ Some x → p x ≡ false
none_at p [] i x none got = absurd cc
none_at p (y ∷ ys) zero x none got = let same : y ≡ x = same_Some y x got in ap p (sym same) ∙ (or_parts (p y) (list_any p ys) none).0
none_at p (y ∷ ys) (suc i) x none got = none_at p ys i x (or_parts (p y) (list_any p ys) none).1 got

-- No clause is on one of no names.
pub none_is_on : (ss : List Outline) → some_is_on [] ss ≡ false
none_is_on [] = refl
none_is_on (s ∷ ss) = ap₂ (λ (a b : Bool). a || b) (none_of s.clauses) (none_is_on ss)
  where
    no_flag : (o : Option NameRef) → option_map_or (λ (m : NameRef). is_among [] m.name) o false ≡ false
    no_flag None = refl
    no_flag (Some m) = refl

    none_of : (cs : List VariableClause) → list_any (is_on []) cs ≡ false
    none_of [] = refl
    none_of (c ∷ cs) = ap₂ (λ (a b : Bool). a || b) (no_flag c.flag) (none_of cs)

module _ (before : List Outline) (old new : Outline) (after : List Outline) (used led_to : List (List ℕ)) (alike : SayAlike old new used led_to)
    (was_clauses : old.clauses ≡ []) (is_clauses : new.clauses ≡ []) where
  abbrev ss : List Outline
  ss = before ++ (old ∷ after)

  abbrev ts : List Outline
  ts = before ++ (new ∷ after)

  module _ (means : MeanAlike ss ts used led_to) (free : some_is_on used ss ≡ false) where
    flag_stays : (n : ℕ) (o : Option NameRef) → option_map_or (λ m. is_among used m.name) o false ≡ false → option_and_then (λ m. resolve_in ts n m.name) o ≡ option_and_then (λ m. resolve_in ss n m.name) o
    flag_stays n None h = refl
    flag_stays n (Some m) h = means.resolved n m.name h

    link_stays : (n : ℕ) (c : VariableClause) → is_on used c ≡ false → linked_clause ts n c ≡ linked_clause ss n c
    link_stays n c h =
        let parts = or_parts (is_among used c.variable.name) (option_map_or (λ m. is_among used m.name) c.flag false) h in
        let linked : Option ℕ → Option ℕ → LinkedClause = λ variable flag. record { item = n; clause = c; variable = variable; flag = flag } in
        ap₂ linked (means.resolved n c.variable.name parts.0) (flag_stays n c.flag parts.1)

    links_stay : (n : ℕ) (cs : List VariableClause) → list_any (is_on used) cs ≡ false → map (linked_clause ts n) cs ≡ map (linked_clause ss n) cs
    links_stay n [] h = refl
    links_stay n (c ∷ cs) h =
        let parts = or_parts (is_on used c) (list_any (is_on used) cs) h in
        ap₂ (λ (l : LinkedClause) (ls : List LinkedClause). l ∷ ls) (link_stays n c parts.0) (links_stay n cs parts.1)

    stay_at : (n : ℕ) → option_map_or (λ s. map (linked_clause ts n) s.clauses) (slice_get ts n) [] ≡ option_map_or (λ s. map (linked_clause ss n) s.clauses) (slice_get ss n) []
    stay_at n =
        at_each before old new after used led_to alike (λ (o : Option Outline). option_map_or (λ s. map (linked_clause ts n) s.clauses) o []) n
        (λ here. ap (map (linked_clause ts n)) (is_clauses ∙ sym was_clauses))
        ∙ by (slice_get ss n) refl
      where
        by : (o : Option Outline) → slice_get ss n ≡ o → option_map_or (λ s. map (linked_clause ts n) s.clauses) o [] ≡ option_map_or (λ s. map (linked_clause ss n) s.clauses) o []
        by None got = refl
        by (Some s) got = links_stay n s.clauses (none_at (λ (s : Outline). list_any (is_on used) s.clauses) ss n s free got)

    stay_before : (n : ℕ) → clauses_before ts n ≡ clauses_before ss n
    stay_before zero = refl
    stay_before (suc n) = ap₂ (λ (x y : List LinkedClause). x ++ y) (stay_before n) (stay_at n)

    pub clauses_stay : clauses_of ts ≡ clauses_of ss
    clauses_stay = stay_before (length ts) ∙ ap (clauses_before ss) means.count

    variables_stay : (o : Option ℕ) → variable_at (entries ts) o ≡ variable_at (entries ss) o
    variables_stay None = refl
    variables_stay (Some n) =
        then_at_number before old new after used led_to alike (λ (e : Entry). e.variable) (λ i here. alike.variables (enclosing_set ss i) i) n

    pub soundness_same : soundness ts ≡ soundness ss
    soundness_same =
        ap (λ (cs : List LinkedClause). soundness_after (entries ts) cs [] cs) clauses_stay
        ∙ soundness_stays (entries ss) (entries ts) variables_stay (clauses_of ss) [] (clauses_of ss)

    pub clause_faults_same : clause_faults ts ≡ clause_faults ss
    clause_faults_same =
        ap (λ (cs : List LinkedClause). found_after (entries ts) cs [] cs) clauses_stay
        ∙ found_stays (entries ss) (entries ts) variables_stay (clauses_of ss) [] (clauses_of ss)
