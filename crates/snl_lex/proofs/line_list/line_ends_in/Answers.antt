use Rattle.std.proofs.Common.{◌≡◌, ℕ, suc, ◌+◌, ◌-◌, ◌<◌, ◌++◌, [], ◌∷◌, All, List, arith, ap, ap₂, sym, ◌∙◌, subst, drop, length, map, take, append_assoc, length-drop}
use Rattle.std.proofs.lemmas.List.{length-take-le}
use Rattle.memchr.specs.Find.{Passes, is_byte, places}
use Rattle.memchr.proofs.lemmas.CallerLemmas.{All-places}
use Rattle.snl_lex.proofs.line_list.line_ends_in.Goals as goal
use Rattle.snl_lex.specs.LineLaws.{ends_are_places}

pub loop-place-init : goal.loop-place-init
loop-place-init c =
    let bs : List ℕ = take (c.args.to - c.args.from) (drop c.args.from c.args.text.now) in
    let size : length bs ≡ c.args.to - c.args.from = length-take-le (c.args.to - c.args.from) (drop c.args.from c.args.text.now) (omega (arith, length-drop c.args.from c.args.text.now, c.requires.inside)) in
    let is : c.into_iter-place-iterator.result ≡ places (is_byte 10) bs = c.into_iter-place-iterator.ensures.into_iter_gives ∙ c.memchr_iter-place-items.ensures.value in
    let inside = subst (λ (ps : List ℕ). All (λ p. (p < length bs) × Passes (is_byte 10) bs p) ps) (sym is) (All-places (is_byte 10) bs) in
    record {
      can_next = tt;
      is_finite = tt;
      inside = λ k d lt. omega (arith, (inside k d lt).0, size);
      ends = ends_are_places c.args.from bs ∙ sym (ap₂ (λ (l ps : List ℕ). l ++ map (λ p. c.args.from + p) ps) c.new-ends.ensures.items is);
    }

pub loop-place-preserved : goal.loop-place-preserved
loop-place-preserved c =
    let step : c.loop-place.place-iterator ≡ c.in-Some.place ∷ c.next.new.self = c.in-Some.ensures.steps in
    let inside = subst (λ (ps : List ℕ). All (λ p. p < c.args.to - c.args.from) ps) step c.loop-place.invariant.inside in
    record {
      can_next = tt;
      is_finite = tt;
      inside = λ k d lt. inside (suc k) d (omega (arith, lt));
      ends = c.loop-place.invariant.ends
          ∙ ap (λ (ps : List ℕ). c.loop-place.ends.items ++ map (λ p. c.args.from + p) ps) step
          ∙ sym (append_assoc c.loop-place.ends.items ((c.args.from + c.in-Some.place) ∷ []) (map (λ p. c.args.from + p) c.next.new.self))
          ∙ ap (λ (l : List ℕ). l ++ map (λ p. c.args.from + p) c.next.new.self) (sym c.in_ok-push.ensures.items);
    }
