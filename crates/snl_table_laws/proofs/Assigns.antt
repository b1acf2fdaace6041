-- Sound `assign`s of one declaration are apart.
use Rattle.std.proofs.Common.{◌≡◌, ℕ, Bool, true, false, not, ◌&&◌, List, [], ◌∷◌, ◌++◌, get_or, Option, Some, None, refl, ap, ◌∙◌, sym, arith}
use Rattle.std.specs.Prelude.{if◌then◌else◌}
use Rattle.std.specs.List.{AllPairs, Contains, list_any}
use Rattle.std.specs.Option.{option_map_or}
use Rattle.std.proofs.lemmas.Bool.{and_parts, eq-eqb, false_from_ne_true, lt-ltb, not-true, true≢false}
use Rattle.std.proofs.lemmas.List.Elements.{Contains-get_or}
use Rattle.std.proofs.lemmas.List.Folds.{list_any_at}
use Rattle.std.proofs.lemmas.List.Quantifiers.{all_pairs_push}
use Rattle.snl_codes.specs.declared.code.Code.{Code}
use Rattle.snl_codes.specs.declared.code.Code.TheVariants.{E11, E12, E13, E15, E16}
use Rattle.snl_codes.specs.Codes.{is_error}
use Rattle.snl_summary.specs.declared.summary.ClauseKind.TheVariants as kind
use Rattle.snl_summary.specs.declared.summary.Coverage.{Coverage}
use Rattle.snl_summary.specs.declared.summary.Coverage.TheVariants.{Whole, Element, Front}
use Rattle.snl_summary.specs.declared.summary.Outline.{Outline}
use Rattle.snl_summary.specs.declared.summary.Variable.{Variable}
use Rattle.snl_scope.specs.Clauses.{LinkedClause, assigns, clash, clauses_of, code_on, has_wrong_flag, is_assign, is_assignable, is_sound, misfits, overlaps, repetition_code, same_kind, same_number, sound_after, sound_clauses, variable_at, variable_code, with_clause}
use Rattle.snl_scope.specs.Names.{Entry, entries}
use Rattle.snl_table_laws.specs.Channels.{AreApart, AssignApart, Assigns}

-- ---- what doesn't overlap is apart

pub apart_where_none_overlaps : (a b : Coverage) → overlaps a b ≡ false → AreApart b a
apart_where_none_overlaps Whole b h = absurd cc
apart_where_none_overlaps (Element e) Whole h = absurd cc
apart_where_none_overlaps (Front n) Whole h = absurd cc
apart_where_none_overlaps (Element e) (Element f) h = record {
  elements = λ k p q. true≢false (sym (eq-eqb e f (omega (arith, p, q))) ∙ h);
  first = λ e. cc;
  second = λ e. cc;
}
apart_where_none_overlaps (Element e) (Front n) h = record {
  elements = λ k p q. true≢false (sym (lt-ltb e n (omega (arith, p, q))) ∙ h);
  first = λ e. cc;
  second = λ e. cc;
}
apart_where_none_overlaps (Front n) (Element f) h = record {
  elements = λ k p q. true≢false (sym (lt-ltb f n (omega (arith, p, q))) ∙ h);
  first = λ e. cc;
  second = λ e. cc;
}
apart_where_none_overlaps (Front n) (Front m) h = record {
  elements = λ k p q. true≢false (sym (rw (lt-ltb 0 n (omega (arith, q)), lt-ltb 0 m (omega (arith, p))) refl) ∙ h);
  first = λ e. cc;
  second = λ e. cc;
}

-- ---- a sound `assign` clashes with none before it

abbrev pub gives_error : Option Code → Bool
gives_error code = option_map_or is_error code false

-- Whatever else is wrong with it, an `assign` that clashes gives an error.
clash_is_error : (assignable misfit has_clash : Bool) → has_clash ≡ true
    → gives_error (if not assignable then Some E15 else if misfit then Some E16 else if has_clash then Some E12 else None) ≡ true
unfolding is_error
clash_is_error false misfit has_clash h = refl
clash_is_error true true has_clash h = refl
clash_is_error true false true h = refl
clash_is_error true false false h = absurd cc

error_on : (cs sound : List LinkedClause) (c : LinkedClause) (v : Variable) → c.clause.kind ≡ kind.Assign → list_any (clash c) sound ≡ true → gives_error (code_on cs sound c v) ≡ true
error_on cs sound c v assign h =
    ap (λ k. gives_error (
    if is_assign k && not (is_assignable v.symbol_kind) then Some E15
    else if misfits v.dims c.clause.coverage then Some E16
    else if not (is_assign k) && not (list_any (assigns c.variable) cs) then Some E13
    else if list_any (clash c) sound then Some (repetition_code k)
    else None)) assign
    ∙ clash_is_error (is_assignable v.symbol_kind) (misfits v.dims c.clause.coverage) (list_any (clash c) sound) h

error_at : (es : List Entry) (cs sound : List LinkedClause) (c : LinkedClause) → c.clause.kind ≡ kind.Assign → list_any (clash c) sound ≡ true → gives_error (variable_code es cs sound c) ≡ true
unfolding is_error
error_at es cs sound c assign h =
    elim (variable_at es c.variable) as (λ (o : Option Variable). gives_error (option_map_or (code_on cs sound c) o (Some E11)) ≡ true)
    [ None ↦ refl | Some v ↦ error_on cs sound c v assign h ]

no_clash : (es : List Entry) (cs sound : List LinkedClause) (c : LinkedClause) → is_sound es cs sound c ≡ true → c.clause.kind ≡ kind.Assign → list_any (clash c) sound ≡ false
no_clash es cs sound c h assign =
    let fine : gives_error (variable_code es cs sound c) ≡ false =
    not-true (gives_error (variable_code es cs sound c)) (and_parts (not (gives_error (variable_code es cs sound c))) (not (has_wrong_flag es c)) h).0 in
    false_from_ne_true (list_any (clash c) sound) (λ e. true≢false (sym (error_at es cs sound c assign e) ∙ fine))

same_assigns : (c d : LinkedClause) (number : ℕ) → Assigns number c → Assigns number d → clash c d ≡ overlaps c.clause.coverage d.clause.coverage
same_assigns c d number p q =
    ap (λ k. same_kind k d.clause.kind && same_number c.variable d.variable && overlaps c.clause.coverage d.clause.coverage) p.kind
    ∙ ap (λ k. same_kind kind.Assign k && same_number c.variable d.variable && overlaps c.clause.coverage d.clause.coverage) q.kind
    ∙ ap (λ o. same_number o d.variable && overlaps c.clause.coverage d.clause.coverage) p.variable
    ∙ ap (λ o. same_number (Some number) o && overlaps c.clause.coverage d.clause.coverage) q.variable
    ∙ ap (λ b. b && overlaps c.clause.coverage d.clause.coverage) (eq-eqb number number refl)

-- A sound clause is apart from the sound ones before it.
pub apart_from_sound : (es : List Entry) (cs sound : List LinkedClause) (d s : LinkedClause) → is_sound es cs sound d ≡ true → Contains sound s → AssignApart s d
apart_from_sound es cs sound d s h among = λ number p q.
    let none : list_any (clash d) sound ≡ false = no_clash es cs sound d h q.kind in
    let here : clash d s ≡ false =
    false_from_ne_true (clash d s) (λ e. true≢false (sym (list_any_at (clash d) sound among.0 s among.1 (ap (clash d) among.2 ∙ e)) ∙ none)) in
    apart_where_none_overlaps d.clause.coverage s.clause.coverage (sym (same_assigns d s number q p) ∙ here)

-- ---- all of them

pub apart_after : (es : List Entry) (cs sound ds : List LinkedClause) → AllPairs AssignApart sound → AllPairs AssignApart (sound_after es cs sound ds)
apart_after es cs sound [] h = h
apart_after es cs sound (d ∷ ds) h = apart_after es cs (with_clause es cs sound d) ds (one_more (is_sound es cs sound d) refl)
  where
    one_more : (b : Bool) → is_sound es cs sound d ≡ b → AllPairs AssignApart (if b then sound ++ d ∷ [] else sound)
    one_more true e = all_pairs_push AssignApart sound d h (λ k x lt. apart_from_sound es cs sound d (get_or sound k x) e (Contains-get_or sound k x lt))
    one_more false e = h

pub sound_apart : (ss : List Outline) → AllPairs AssignApart (sound_clauses ss)
sound_apart ss = apart_after (entries ss) (clauses_of ss) [] (clauses_of ss) (λ i j d lt within. absurd (omega (arith, within)))
