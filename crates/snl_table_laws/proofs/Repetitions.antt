-- W05 is found only where a monitor meets an earlier one.
use Rattle.std.proofs.Common.{◌≡◌, ◌⊎◌, inl, inr, ℕ, zero, suc, Bool, true, false, not, ◌&&◌, nat_lt, List, [], ◌∷◌, ◌++◌, length, map, take, Option, Some, None, refl, ap, ◌∙◌, sym, subst, arith, append_assoc, eqb-true}
use Rattle.std.specs.Prelude.{if◌then◌else◌, option_to_list, slice_get}
use Rattle.std.specs.List.{Any, Contains, list_any}
use Rattle.std.specs.Option.{option_map_or}
use Rattle.std.proofs.lemmas.Bool.{and_parts, ltb-true}
use Rattle.std.proofs.lemmas.List.Elements.{Contains-append_cases, Contains-append_left, Contains-append_right}
use Rattle.std.proofs.lemmas.List.Folds.{Any-from_list_any}
use Rattle.std.proofs.Math.Seq.{take-append_seam}
use Rattle.snl_codes.specs.declared.code.Code.{Code}
use Rattle.snl_codes.specs.declared.code.Code.TheVariants.{E11, E13, E14, E15, E16, W05}
use Rattle.snl_scope.specs.declared.facts.LinkFault.{LinkFault}
use Rattle.snl_summary.specs.declared.summary.ClauseKind.{ClauseKind}
use Rattle.snl_summary.specs.declared.summary.ClauseKind.TheVariants as kind
use Rattle.snl_summary.specs.declared.summary.Coverage.{Coverage}
use Rattle.snl_summary.specs.declared.summary.Coverage.TheVariants.{Whole, Element, Front}
use Rattle.snl_summary.specs.declared.summary.NameRef.{NameRef}
use Rattle.snl_summary.specs.declared.summary.Outline.{Outline}
use Rattle.snl_summary.specs.declared.summary.Variable.{Variable}
use Rattle.snl_scope.specs.Clauses.{LinkedClause, assigns, at_name_ref, clash, clause_faults, clauses_of, code_on, found_after, found_at, found_at_flag, found_at_variable, has_wrong_flag, is_assign, is_assignable, is_sound, misfits, overlaps, repetition_code, same_kind, same_number, sound_after, sound_clauses, variable_at, variable_code, with_clause}
use Rattle.snl_scope.specs.Names.{Entry, entries}
use Rattle.snl_table_laws.specs.Channels.{AreApart}
use Rattle.snl_table_laws.specs.Clauses.{IsRepetition, Monitors, repetition}

-- ---- what overlaps is not apart

meets : (a b : Coverage) → overlaps a b ≡ true → AreApart b a → ⊥
meets Whole b h is = is.second refl
meets (Element e) Whole h is = is.first refl
meets (Front n) Whole h is = is.first refl
meets (Element e) (Element f) h is = is.elements e (sym (eqb-true e f h)) refl
meets (Element e) (Front n) h is = is.elements e (ltb-true e n h) refl
meets (Front n) (Element f) h is = is.elements f refl (ltb-true f n h)
meets (Front n) (Front m) h is =
    let parts = and_parts (nat_lt 0 n) (nat_lt 0 m) h in
    is.elements 0 (ltb-true 0 m parts.1) (ltb-true 0 n parts.0)

-- ---- a clause that gives W05

-- It is a monitor that clashes with a sound one.
record Warns (sound : List LinkedClause) (c : LinkedClause) : Type 0 where
  kind : c.clause.kind ≡ kind.Monitor
  clashes : list_any (clash c) sound ≡ true

only_monitor : (k : ClauseKind) → repetition_code k ≡ W05 → k ≡ kind.Monitor
only_monitor kind.Assign h = absurd cc
only_monitor kind.Monitor h = refl
only_monitor kind.Sync h = absurd cc
only_monitor kind.Syncq h = absurd cc

warned_if : (unassignable misfit unassigned has_clash : Bool) (k : ClauseKind)
    → (if unassignable then Some E15 else if misfit then Some E16 else if unassigned then Some E13 else if has_clash then Some (repetition_code k) else None) ≡ Some W05
    → (k ≡ kind.Monitor) × (has_clash ≡ true)
warned_if true misfit unassigned has_clash k h = absurd cc
warned_if false true unassigned has_clash k h = absurd cc
warned_if false false true has_clash k h = absurd cc
warned_if false false false true k h = (only_monitor k cc, refl)
warned_if false false false false k h = absurd cc

warns_at : (cs sound : List LinkedClause) (c : LinkedClause) (o : Option Variable) → option_map_or (code_on cs sound c) o (Some E11) ≡ Some W05 → Warns sound c
warns_at cs sound c None h = absurd cc
warns_at cs sound c (Some v) h =
    let told = warned_if (is_assign c.clause.kind && not (is_assignable v.symbol_kind)) (misfits v.dims c.clause.coverage) (not (is_assign c.clause.kind) && not (list_any (assigns c.variable) cs)) (list_any (clash c) sound) c.clause.kind h in
    record { kind = told.0; clashes = told.1 }

first_only : (g f : LinkFault) → Contains (g ∷ []) f → g ≡ f
first_only g f (zero, lt, is) = is
first_only g f (suc k, lt, is) = absurd (omega (arith, lt))

-- What is found at its variable has the code that it gives.
at_variable : (c : LinkedClause) (m : NameRef) (o : Option Code) (f : LinkFault) → Contains (map (at_name_ref c.item m) (option_to_list o)) f → f.code ≡ W05 → (o ≡ Some W05) × (f ≡ at_name_ref c.item m W05)
at_variable c m None f among e = absurd (omega (arith, among.1))
at_variable c m (Some code) f among e =
    let is : at_name_ref c.item m code ≡ f = first_only (at_name_ref c.item m code) f among in
    let same : code ≡ W05 = ap (λ (g : LinkFault). g.code) is ∙ e in
    (ap Some same, sym is ∙ ap (at_name_ref c.item m) same)

at_flag : (b : Bool) (c : LinkedClause) (o : Option NameRef) (f : LinkFault) → Contains (if b then map (λ m. at_name_ref c.item m E14) (option_to_list o) else []) f → f.code ≡ W05 → ⊥
at_flag false c o f among e = omega (arith, among.1)
at_flag true c None f among e = omega (arith, among.1)
at_flag true c (Some m) f among e =
    let is : at_name_ref c.item m E14 ≡ f = first_only (at_name_ref c.item m E14) f among in
    let same : E14 ≡ W05 = ap (λ (g : LinkFault). g.code) is ∙ e in
    absurd cc

found_warns : (es : List Entry) (cs sound : List LinkedClause) (c : LinkedClause) (f : LinkFault) → Contains (found_at es cs sound c) f → f.code ≡ W05 → Warns sound c × (f ≡ repetition c)
found_warns es cs sound c f among e =
    elim (Contains-append_cases (found_at_variable es cs sound c) (found_at_flag es c) f among) [
      | inl here ↦
          let told = at_variable c c.clause.variable (variable_code es cs sound c) f here e in
          (warns_at cs sound c (variable_at es c.variable) told.0, told.1)
      | inr flag ↦ absurd (at_flag (has_wrong_flag es c) c c.clause.flag f flag e)
    ]

-- ---- the sound clause that it meets

record IsMet (c s : LinkedClause) : Type 0 where
  number : ℕ
  first : Monitors number s
  again : Monitors number c
  not_apart : AreApart s.clause.coverage c.clause.coverage → ⊥

both_monitor : (k : ClauseKind) → same_kind kind.Monitor k ≡ true → k ≡ kind.Monitor
both_monitor kind.Assign h = absurd cc
both_monitor kind.Monitor h = refl
both_monitor kind.Sync h = absurd cc
both_monitor kind.Syncq h = absurd cc

both_number : (a b : Option ℕ) → same_number a b ≡ true → (n : ℕ) × ((a ≡ Some n) × (b ≡ Some n))
both_number None b h = absurd cc
both_number (Some a) None h = absurd cc
both_number (Some a) (Some b) h = (a, (refl, ap Some (sym (eqb-true a b h))))

met : (c s : LinkedClause) → c.clause.kind ≡ kind.Monitor → clash c s ≡ true → IsMet c s
met c s k h =
    let parts = and_parts (same_kind c.clause.kind s.clause.kind && same_number c.variable s.variable) (overlaps c.clause.coverage s.clause.coverage) h in
    let same = and_parts (same_kind c.clause.kind s.clause.kind) (same_number c.variable s.variable) parts.0 in
    let number = both_number c.variable s.variable same.1 in
    let kind_of : s.clause.kind ≡ kind.Monitor = both_monitor s.clause.kind (sym (ap (λ j. same_kind j s.clause.kind) k) ∙ same.0) in
    record {
      number = number.0;
      first = record { kind = kind_of; variable = number.1.1 };
      again = record { kind = k; variable = number.1.0 };
      not_apart = meets c.clause.coverage s.clause.coverage parts.1;
    }

-- ---- all of the clauses

sound_stays : (es : List Entry) (cs sound ds : List LinkedClause) (s : LinkedClause) → Contains sound s → Contains (sound_after es cs sound ds) s
sound_stays es cs sound [] s h = h
sound_stays es cs sound (d ∷ ds) s h = sound_stays es cs (with_clause es cs sound d) ds s (still (is_sound es cs sound d))
  where
    still : (b : Bool) → Contains (if b then sound ++ d ∷ [] else sound) s
    still true = Contains-append_left sound (d ∷ []) s h
    still false = h

there_at : (done ds : List LinkedClause) (d : LinkedClause) → slice_get (done ++ d ∷ ds) (length done) ≡ Some d
there_at [] ds d = refl
there_at (x ∷ xs) ds d = there_at xs ds d

module _ (ss : List Outline) where
  abbrev es : List Entry
  es = entries ss

  abbrev cs : List LinkedClause
  cs = clauses_of ss

  one_repetition : (done sound ds : List LinkedClause) (d : LinkedClause) (f : LinkFault) → cs ≡ done ++ d ∷ ds → ((s : LinkedClause) → Contains sound s → Contains done s)
      → ((s : LinkedClause) → Contains sound s → Contains (sound_clauses ss) s) → Warns sound d → f ≡ repetition d → IsRepetition ss f
  one_repetition done sound ds d f whole before kept warns is =
      let any : Any (λ s. clash d s ≡ true) sound = Any-from_list_any (clash d) sound warns.clashes in
      let among : Contains sound any.1 = (any.0, any.2, any.3) in
      let m = met d any.1 warns.kind any.4 in
      record {
        first = any.1;
        second = d;
        place = length done;
        number = m.number;
        there = ap (λ (l : List LinkedClause). slice_get l (length done)) whole ∙ there_at done ds d;
        before = subst (λ (l : List LinkedClause). Contains l any.1) (sym (ap (take (length done)) whole ∙ take-append_seam done (d ∷ ds))) (before any.1 among);
        sound = kept any.1 among;
        monitors = m.first;
        again = m.again;
        meets = m.not_apart;
        found = is;
      }

  repetitions_after : (done sound ds : List LinkedClause) (f : LinkFault) → cs ≡ done ++ ds → ((s : LinkedClause) → Contains sound s → Contains done s)
      → ((s : LinkedClause) → Contains (sound_after es cs sound ds) s → Contains (sound_clauses ss) s) → Contains (found_after es cs sound ds) f → f.code ≡ W05 → IsRepetition ss f
  repetitions_after done sound [] f whole before kept among e = absurd (omega (arith, among.1))
  repetitions_after done sound (d ∷ ds) f whole before kept among e =
      elim (Contains-append_cases (found_at es cs sound d) (found_after es cs (with_clause es cs sound d) ds) f among) [
        | inl here ↦
            let told = found_warns es cs sound d f here e in
            one_repetition done sound ds d f whole before (λ s h. kept s (sound_stays es cs sound (d ∷ ds) s h)) told.0 told.1
        | inr later ↦
            repetitions_after (done ++ d ∷ []) (with_clause es cs sound d) ds f (whole ∙ sym (append_assoc done (d ∷ []) ds)) (wider (is_sound es cs sound d)) kept later e
      ]
    where
      either : (s : LinkedClause) → Contains sound s ⊎ Contains (d ∷ []) s → Contains (done ++ d ∷ []) s
      either s h = elim h [ inl old ↦ Contains-append_left done (d ∷ []) s (before s old) | inr new ↦ Contains-append_right done (d ∷ []) s new ]

      wider : (b : Bool) (s : LinkedClause) → Contains (if b then sound ++ d ∷ [] else sound) s → Contains (done ++ d ∷ []) s
      wider true s h = either s (Contains-append_cases sound (d ∷ []) s h)
      wider false s h = either s (inl h)

pub repetitions : (ss : List Outline) (f : LinkFault) → Contains (clause_faults ss) f → f.code ≡ W05 → IsRepetition ss f
repetitions ss f among e =
    repetitions_after ss [] [] (clauses_of ss) f refl (λ s h. absurd (omega (arith, h.1))) (λ s h. h) among e
