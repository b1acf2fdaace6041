use Rattle.std.proofs.Common.{◌≡◌, ℕ, suc, ◌+◌, ◌<◌, ◌++◌, [], ◌∷◌, All, List, length, map}
use Rattle.std.proofs.Common.{ap, ap₂, sym, ◌∙◌, subst, arith, append_assoc}
use Rattle.memchr.specs.Find.{Passes, is_byte, places}
use Rattle.memchr.proofs.lemmas.CallerLemmas.{All-places}
use Rattle.snl_place.proofs.draft.line_ends_from.Goals as goal
use Rattle.snl_lex.specs.LineLaws.{ends_are_places}

pub loop-place-init : goal.loop-place-init
loop-place-init c =
    let bs : List ℕ = c.args.bytes.now in
    let from : ℕ = c.args.from in
    let is : c.into_iter-place-iterator.result ≡ places (is_byte 10) bs =
    c.into_iter-place-iterator.ensures.into_iter_gives ∙ c.memchr_iter-place-items.ensures.value in
    let P : List ℕ → Type 0 =
    λ (ps : List ℕ). All (λ p. (p < length bs) × Passes (is_byte 10) bs p) ps in
    let inside = subst P (sym is) (All-places (is_byte 10) bs) in
    record {
      can_next = tt;
      is_finite = tt;
      inside = λ k d lt. (inside k d lt).0;
      ends = ends_are_places from bs
          ∙ sym (ap₂ (λ (l ps : List ℕ). l ++ map (λ p. from + p) ps) c.new-ends.ensures.items is);
    }

pub loop-place-preserved : goal.loop-place-preserved
loop-place-preserved c =
    let from : ℕ = c.args.from in
    let found : List ℕ = c.loop-place.ends.items in
    let next : ℕ = c.in-Some.place in
    let later : List ℕ = c.next.new.self in
    let step : c.loop-place.place-iterator ≡ next ∷ later = c.in-Some.ensures.steps in
    let P : List ℕ → Type 0 = λ (ps : List ℕ). All (λ p. p < length c.args.bytes.now) ps in
    let inside = subst P step c.loop-place.invariant.inside in
    record {
      can_next = tt;
      is_finite = tt;
      inside = λ k d lt. inside (suc k) d (omega (arith, lt));
      ends = c.loop-place.invariant.ends
          ∙ ap (λ (ps : List ℕ). found ++ map (λ p. from + p) ps) step
          ∙ sym (append_assoc found ((from + next) ∷ []) (map (λ p. from + p) later))
          ∙ ap (λ (l : List ℕ). l ++ map (λ p. from + p) later) (sym c.in_ok-push.ensures.items);
    }
