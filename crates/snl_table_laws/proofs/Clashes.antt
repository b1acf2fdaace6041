-- Sound `sync`s of one declaration are apart, and so are `monitor`s where no W05 is found.
use Rattle.std.proofs.Common.{◌≡◌, ◌⊎◌, inl, inr, ℕ, Bool, true, false, not, ◌&&◌, List, [], ◌∷◌, ◌++◌, get_or, map, Option, Some, None, refl, ap, ◌∙◌, sym, subst, arith}
use Rattle.std.specs.Prelude.{if◌then◌else◌, option_to_list}
use Rattle.std.specs.List.{AllPairs, Contains, list_any}
use Rattle.std.specs.Option.{option_map_or}
use Rattle.std.proofs.lemmas.Bool.{and_parts, cases_Bool, eq-eqb, false_from_ne_true, not-true, true≢false}
use Rattle.std.proofs.lemmas.List.Elements.{Contains-append_left, Contains-append_right, Contains-get_or}
use Rattle.std.proofs.lemmas.List.Folds.{list_any_at}
use Rattle.std.proofs.lemmas.List.Quantifiers.{all_pairs_push}
use Rattle.snl_codes.specs.declared.code.Code.{Code}
use Rattle.snl_codes.specs.declared.code.Code.TheVariants.{E11, E13, E15, E16, W05}
use Rattle.snl_codes.specs.Codes.{is_error}
use Rattle.snl_scope.specs.declared.facts.LinkFault.{LinkFault}
use Rattle.snl_summary.specs.declared.summary.ClauseKind.{ClauseKind}
use Rattle.snl_summary.specs.declared.summary.ClauseKind.TheVariants as kind
use Rattle.snl_summary.specs.declared.summary.Outline.{Outline}
use Rattle.snl_summary.specs.declared.summary.Variable.{Variable}
use Rattle.snl_scope.specs.Clauses.{LinkedClause, assigns, at_name_ref, clash, clause_faults, clauses_of, code_on, found_after, found_at, found_at_flag, found_at_variable, has_wrong_flag, is_assign, is_assignable, is_sound, misfits, overlaps, repetition_code, same_kind, same_number, sound_after, sound_clauses, variable_at, variable_code, with_clause}
use Rattle.snl_scope.specs.Names.{Entry, entries}
use Rattle.snl_table_laws.specs.Channels.{AreApart}
use Rattle.snl_table_laws.specs.Clauses.{MonitorApart, Monitors, SyncApart, Syncs, repetition}
use Rattle.snl_table_laws.proofs.Assigns.{apart_where_none_overlaps, gives_error}

-- ---- the code of a clause that assigns nothing

-- What such a clause gives: by whether it fits, is assigned, and clashes.
abbrev other_code : Bool → Bool → Bool → ClauseKind → Option Code
other_code misfit unassigned has_clash k = if misfit then Some E16 else if unassigned then Some E13 else if has_clash then Some (repetition_code k) else None

code_is : (cs sound : List LinkedClause) (c : LinkedClause) (v : Variable) → is_assign c.clause.kind ≡ false
    → code_on cs sound c v ≡ other_code (misfits v.dims c.clause.coverage) (not (list_any (assigns c.variable) cs)) (list_any (clash c) sound) c.clause.kind
code_is cs sound c v other =
    ap (λ b.
    if b && not (is_assignable v.symbol_kind) then Some E15
    else if misfits v.dims c.clause.coverage then Some E16
    else if not b && not (list_any (assigns c.variable) cs) then Some E13
    else if list_any (clash c) sound then Some (repetition_code c.clause.kind)
    else None) other

-- ---- syncs

clash_is_error : (misfit unassigned has_clash : Bool) (k : ClauseKind) → is_error (repetition_code k) ≡ true → has_clash ≡ true → gives_error (other_code misfit unassigned has_clash k) ≡ true
unfolding is_error
clash_is_error true unassigned has_clash k e h = refl
clash_is_error false true has_clash k e h = refl
clash_is_error false false true k e h = e
clash_is_error false false false k e h = absurd cc

sync_code : (c : LinkedClause) (number : ℕ) → Syncs number c → (is_assign c.clause.kind ≡ false) × (is_error (repetition_code c.clause.kind) ≡ true)
unfolding is_error
sync_code c number h =
    elim h.kind [
      | inl e ↦ (ap is_assign e, ap (λ k. is_error (repetition_code k)) e)
      | inr e ↦ (ap is_assign e, ap (λ k. is_error (repetition_code k)) e)
    ]

error_at : (es : List Entry) (cs sound : List LinkedClause) (c : LinkedClause) (number : ℕ) → Syncs number c → list_any (clash c) sound ≡ true → gives_error (variable_code es cs sound c) ≡ true
unfolding is_error
error_at es cs sound c number is h =
    let told = sync_code c number is in
    elim (variable_at es c.variable) as (λ (o : Option Variable). gives_error (option_map_or (code_on cs sound c) o (Some E11)) ≡ true) [
      | None ↦ refl
      | Some v ↦
          ap gives_error (code_is cs sound c v told.0)
          ∙ clash_is_error (misfits v.dims c.clause.coverage) (not (list_any (assigns c.variable) cs)) (list_any (clash c) sound) c.clause.kind told.1 h
    ]

fine : (es : List Entry) (cs sound : List LinkedClause) (c : LinkedClause) → is_sound es cs sound c ≡ true → gives_error (variable_code es cs sound c) ≡ false
fine es cs sound c h =
    not-true (gives_error (variable_code es cs sound c)) (and_parts (not (gives_error (variable_code es cs sound c))) (not (has_wrong_flag es c)) h).0

no_clash : (es : List Entry) (cs sound : List LinkedClause) (c : LinkedClause) (number : ℕ) → is_sound es cs sound c ≡ true → Syncs number c → list_any (clash c) sound ≡ false
no_clash es cs sound c number h is =
    false_from_ne_true (list_any (clash c) sound) (λ e. true≢false (sym (error_at es cs sound c number is e) ∙ fine es cs sound c h))

one_number : (c d : LinkedClause) (number : ℕ) → same_kind c.clause.kind d.clause.kind ≡ true → c.variable ≡ Some number → d.variable ≡ Some number → clash c d ≡ overlaps c.clause.coverage d.clause.coverage
one_number c d number kinds p q =
    ap (λ b. b && same_number c.variable d.variable && overlaps c.clause.coverage d.clause.coverage) kinds
    ∙ ap (λ o. same_number o d.variable && overlaps c.clause.coverage d.clause.coverage) p
    ∙ ap (λ o. same_number (Some number) o && overlaps c.clause.coverage d.clause.coverage) q
    ∙ ap (λ b. b && overlaps c.clause.coverage d.clause.coverage) (eq-eqb number number refl)

kinds_sync : (j k : ClauseKind) → (j ≡ kind.Sync) ⊎ (j ≡ kind.Syncq) → (k ≡ kind.Sync) ⊎ (k ≡ kind.Syncq) → same_kind j k ≡ true
kinds_sync j k h i =
    elim h [
      | inl p ↦ elim i [ inl q ↦ ap (λ a. same_kind a k) p ∙ ap (same_kind kind.Sync) q | inr q ↦ ap (λ a. same_kind a k) p ∙ ap (same_kind kind.Sync) q ]
      | inr p ↦ elim i [ inl q ↦ ap (λ a. same_kind a k) p ∙ ap (same_kind kind.Syncq) q | inr q ↦ ap (λ a. same_kind a k) p ∙ ap (same_kind kind.Syncq) q ]
    ]

sync_from_sound : (es : List Entry) (cs sound : List LinkedClause) (d s : LinkedClause) → is_sound es cs sound d ≡ true → Contains sound s → SyncApart s d
sync_from_sound es cs sound d s h among = λ number p q.
    let none : list_any (clash d) sound ≡ false = no_clash es cs sound d number h q in
    let here : clash d s ≡ false =
    false_from_ne_true (clash d s) (λ e. true≢false (sym (list_any_at (clash d) sound among.0 s among.1 (ap (clash d) among.2 ∙ e)) ∙ none)) in
    apart_where_none_overlaps d.clause.coverage s.clause.coverage (sym (one_number d s number (kinds_sync d.clause.kind s.clause.kind q.kind p.kind) q.variable p.variable) ∙ here)

syncs_after : (es : List Entry) (cs sound ds : List LinkedClause) → AllPairs SyncApart sound → AllPairs SyncApart (sound_after es cs sound ds)
syncs_after es cs sound [] h = h
syncs_after es cs sound (d ∷ ds) h = syncs_after es cs (with_clause es cs sound d) ds (one_more (is_sound es cs sound d) refl)
  where
    one_more : (b : Bool) → is_sound es cs sound d ≡ b → AllPairs SyncApart (if b then sound ++ d ∷ [] else sound)
    one_more true e = all_pairs_push SyncApart sound d h (λ k x lt. sync_from_sound es cs sound d (get_or sound k x) e (Contains-get_or sound k x lt))
    one_more false e = h

pub syncs_apart : (ss : List Outline) → AllPairs SyncApart (sound_clauses ss)
syncs_apart ss = syncs_after (entries ss) (clauses_of ss) [] (clauses_of ss) (λ i j d lt within. absurd (omega (arith, within)))

-- ---- monitors

clash_is_warned : (misfit unassigned has_clash : Bool) → has_clash ≡ true → gives_error (other_code misfit unassigned has_clash kind.Monitor) ≡ false → other_code misfit unassigned has_clash kind.Monitor ≡ Some W05
unfolding is_error
clash_is_warned true unassigned has_clash h f = absurd cc
clash_is_warned false true has_clash h f = absurd cc
clash_is_warned false false true h f = refl
clash_is_warned false false false h f = absurd cc

monitor_code : (cs sound : List LinkedClause) (c : LinkedClause) (v : Variable) → c.clause.kind ≡ kind.Monitor
    → code_on cs sound c v ≡ other_code (misfits v.dims c.clause.coverage) (not (list_any (assigns c.variable) cs)) (list_any (clash c) sound) kind.Monitor
monitor_code cs sound c v k =
    code_is cs sound c v (ap is_assign k)
    ∙ ap (other_code (misfits v.dims c.clause.coverage) (not (list_any (assigns c.variable) cs)) (list_any (clash c) sound)) k

warned_at : (es : List Entry) (cs sound : List LinkedClause) (c : LinkedClause) → c.clause.kind ≡ kind.Monitor → list_any (clash c) sound ≡ true → (o : Option Variable)
    → gives_error (option_map_or (code_on cs sound c) o (Some E11)) ≡ false → option_map_or (code_on cs sound c) o (Some E11) ≡ Some W05
unfolding is_error
warned_at es cs sound c k h None f = absurd cc
warned_at es cs sound c k h (Some v) f =
    let code = monitor_code cs sound c v k in
    code ∙ clash_is_warned (misfits v.dims c.clause.coverage) (not (list_any (assigns c.variable) cs)) (list_any (clash c) sound) h (sym (ap gives_error code) ∙ f)

one_there : (xs : List LinkFault) (f : LinkFault) → xs ≡ f ∷ [] → Contains xs f
one_there xs f e = subst (λ (l : List LinkFault). Contains l f) (sym e) (0, omega arith, refl)

warning_found : (es : List Entry) (cs sound : List LinkedClause) (c : LinkedClause) → variable_code es cs sound c ≡ Some W05 → Contains (found_at es cs sound c) (repetition c)
warning_found es cs sound c e =
    Contains-append_left (found_at_variable es cs sound c) (found_at_flag es c) (repetition c)
    (one_there (found_at_variable es cs sound c) (repetition c) (ap (λ (o : Option Code). map (at_name_ref c.item c.clause.variable) (option_to_list o)) e))

module _ (es : List Entry) (cs : List LinkedClause) (F : List LinkFault) where
  -- Two monitors of one declaration are apart, or one of the findings is W05 at the second.
  abbrev ApartOr : LinkedClause → LinkedClause → Type 0
  ApartOr c d = (number : ℕ) → Monitors number c → Monitors number d → AreApart c.clause.coverage d.clause.coverage ⊎ Contains F (repetition d)

  monitor_from_sound : (sound : List LinkedClause) (d s : LinkedClause) → is_sound es cs sound d ≡ true → Contains sound s → ((f : LinkFault) → Contains (found_at es cs sound d) f → Contains F f) → ApartOr s d
  monitor_from_sound sound d s h among told = λ number p q.
      let same : clash d s ≡ overlaps d.clause.coverage s.clause.coverage =
      one_number d s number (ap (λ a. same_kind a s.clause.kind) q.kind ∙ ap (same_kind kind.Monitor) p.kind) q.variable p.variable in
      elim (cases_Bool (overlaps d.clause.coverage s.clause.coverage)) [
        | inl meets ↦
            let any : list_any (clash d) sound ≡ true = list_any_at (clash d) sound among.0 s among.1 (ap (clash d) among.2 ∙ (same ∙ meets)) in
            inr (told (repetition d) (warning_found es cs sound d (warned_at es cs sound d q.kind any (variable_at es d.variable) (fine es cs sound d h))))
        | inr not ↦ inl (apart_where_none_overlaps d.clause.coverage s.clause.coverage not)
      ]

  monitors_after : (sound ds : List LinkedClause) → ((f : LinkFault) → Contains (found_after es cs sound ds) f → Contains F f) → AllPairs ApartOr sound → AllPairs ApartOr (sound_after es cs sound ds)
  monitors_after sound [] told h = h
  monitors_after sound (d ∷ ds) told h =
      monitors_after (with_clause es cs sound d) ds (λ f there. told f (Contains-append_right (found_at es cs sound d) (found_after es cs (with_clause es cs sound d) ds) f there))
      (one_more (is_sound es cs sound d) refl)
    where
      here : (f : LinkFault) → Contains (found_at es cs sound d) f → Contains F f
      here f there = told f (Contains-append_left (found_at es cs sound d) (found_after es cs (with_clause es cs sound d) ds) f there)

      one_more : (b : Bool) → is_sound es cs sound d ≡ b → AllPairs ApartOr (if b then sound ++ d ∷ [] else sound)
      one_more true e = all_pairs_push ApartOr sound d h (λ k x lt. monitor_from_sound sound d (get_or sound k x) e (Contains-get_or sound k x lt) here)
      one_more false e = h

pub monitors_apart : (ss : List Outline) → AllPairs (MonitorApart ss) (sound_clauses ss)
monitors_apart ss =
    monitors_after (entries ss) (clauses_of ss) (clause_faults ss) [] (clauses_of ss) (λ f there. there) (λ i j d lt within. absurd (omega (arith, within)))
