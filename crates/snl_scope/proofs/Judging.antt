-- Lemmas on the soundness of clauses: what one clause more is to a walk over them.
use Rattle.std.proofs.Common.{◌≡◌, Bool, true, false, not, ◌&&◌, List, [], ◌∷◌, ◌++◌, map, Option, None, Some, refl, sym, ap, ◌∙◌, append_assoc, if◌then◌else◌}
use Rattle.std.proofs.lemmas.List.{append-nil, map-append}
use Rattle.std.specs.List.{zip}
use Rattle.snl_codes.specs.declared.code.Code.{Code}
use Rattle.snl_codes.specs.declared.code.Code.TheVariants.{E13, E15, E16}
use Rattle.snl_scope.specs.declared.facts.ClauseLink.{ClauseLink}
use Rattle.snl_summary.specs.declared.summary.Variable.{Variable}
use Rattle.snl_scope.specs.Claims.{sound_among}
use Rattle.snl_scope.specs.Clauses.{LinkedClause, clause_link, found_after, found_at, is_assign, is_assignable, is_sound, misfits, repetition_code, sound_after, soundness_after, with_clause}
use Rattle.snl_scope.specs.Names.{Entry}

-- what a clause gives at its variable, where it is known whether that is assigned and whether the
-- clause overlaps one
abbrev pub code_by : LinkedClause → Variable → Bool → Bool → Option Code
code_by c v is_assigned is_repeated =
    if is_assign c.clause.kind && not (is_assignable v.symbol_kind) then Some E15
    else if misfits v.dims c.clause.coverage then Some E16
    else if not (is_assign c.clause.kind) && not is_assigned then Some E13
    else if is_repeated then Some (repetition_code c.clause.kind)
    else None

module _ (es : List Entry) (cs : List LinkedClause) where
  pub found-push : (sound ds : List LinkedClause) (d : LinkedClause)
      → found_after es cs sound (ds ++ d ∷ []) ≡ found_after es cs sound ds ++ found_at es cs (sound_after es cs sound ds) d
  found-push sound [] d = append-nil (found_at es cs sound d)
  found-push sound (c ∷ ds) d =
      ap (λ l. found_at es cs sound c ++ l) (found-push (with_clause es cs sound c) ds d)
      ∙ sym (append_assoc (found_at es cs sound c) (found_after es cs (with_clause es cs sound c) ds) (found_at es cs (sound_after es cs (with_clause es cs sound c) ds) d))

  -- clauses with their soundness, after the sound ones before them
  abbrev pub judged_after : List LinkedClause → List LinkedClause → List (LinkedClause × Bool)
  judged_after sound ds = zip ds (soundness_after es cs sound ds)

  pub judged-push : (sound ds : List LinkedClause) (d : LinkedClause)
      → judged_after sound (ds ++ d ∷ []) ≡ judged_after sound ds ++ (d, is_sound es cs (sound_after es cs sound ds) d) ∷ []
  judged-push sound [] d = refl
  judged-push sound (c ∷ ds) d = ap (λ l. (c, is_sound es cs sound c) ∷ l) (judged-push (with_clause es cs sound c) ds d)

  -- the sound ones among them
  pub sound-judged : (sound ds : List LinkedClause) → sound ++ sound_among (judged_after sound ds) ≡ sound_after es cs sound ds
  sound-judged sound [] = append-nil sound
  sound-judged sound (c ∷ ds) = by (is_sound es cs sound c) (judged_after (with_clause es cs sound c) ds) ∙ sound-judged (with_clause es cs sound c) ds
    where
      by : (b : Bool) (ps : List (LinkedClause × Bool)) → sound ++ sound_among ((c, b) ∷ ps) ≡ (if b then sound ++ c ∷ [] else sound) ++ sound_among ps
      by true ps = sym (append_assoc sound (c ∷ []) (sound_among ps))
      by false ps = refl

  -- the links of clauses, after the sound ones before them
  abbrev pub links_after : List LinkedClause → List LinkedClause → List ClauseLink
  links_after sound ds = map (λ p. clause_link p.0 p.1) (judged_after sound ds)

  pub links-push : (sound ds : List LinkedClause) (d : LinkedClause)
      → links_after sound (ds ++ d ∷ []) ≡ links_after sound ds ++ clause_link d (is_sound es cs (sound_after es cs sound ds) d) ∷ []
  links-push sound ds d =
      ap (map (λ p. clause_link p.0 p.1)) (judged-push sound ds d)
      ∙ map-append (λ p. clause_link p.0 p.1) (judged_after sound ds) ((d, is_sound es cs (sound_after es cs sound ds) d) ∷ [])
