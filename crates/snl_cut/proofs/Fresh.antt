-- Just the fresh members are made, and all together are the new cut.
use Rattle.std.proofs.Common.{◌≡◌, ℕ, suc, ◌+◌, ◌-◌, ◌<◌, ◌≤◌, inl, inr, List, [], ◌∷◌, ◌++◌, length, drop, take, refl, sym, ap, ◌∙◌, subst, arith, append_assoc, get_or}
use Rattle.std.proofs.lemmas.List.{append-nil}
use Rattle.std.proofs.lemmas.Bool.Decides.{nat_tests}
use Rattle.snl_cut.specs.Cut.{IsFront, IsLocal, Walks, IsCut, Rises, ends_below, last_end, moved, fresh, IsEdit, IsRecut}
use Rattle.snl_cut.proofs.Steps.{walks_on}
use Rattle.snl_cut.proofs.Below.{below_last, below_count}
use Rattle.snl_cut.proofs.Agreeing.{walks_last, walks_rise, walks_front, front_walk, made_late, shift, Unmet}
use Rattle.std.proofs.lemmas.Bool.{cases_lt}
use Rattle.snl_facts.specs.Lists.{some_left}
use Rattle.snl_cut.specs.CutLaws.{rises_last, walks_le, walks_back, fresh_here, fresh_back, same_length}

fresh_early : (start meet from e : ℕ) (es : List ℕ) → e < start → fresh start meet from (e ∷ es) ≡ fresh start meet e es
fresh_early start meet from e es h = grind (arith, nat_tests)

-- None of the members that end before the edit is fresh.
pub fresh_front : (start meet from : ℕ) (xs ys : List ℕ) → Rises from xs → last_end from xs < start
    → fresh start meet from (xs ++ ys) ≡ fresh start meet (last_end from xs) ys
fresh_front start meet from [] ys r h = refl
fresh_front start meet from (e ∷ es) ys r h =
    fresh_early start meet from e (es ++ ys) (omega (arith, rises_last e es r.1)) ∙ fresh_front start meet e es ys r.1 h

-- Each of the members from the first that ends at or after the edit's start up to the meeting point
-- is.
pub fresh_made : {X : Type 0} (first : List X → ℕ) → IsFront first → (units : List X) (start meet from : ℕ) (xs ys : List ℕ)
    → Walks first units from xs meet → (from < length units → start ≤ from + first (drop from units))
    → fresh start meet from (xs ++ ys) ≡ xs ++ fresh start meet meet ys
fresh_made {X} first front units start meet from [] ys w late = ap (λ n. fresh start meet n ys) w
fresh_made first front units start meet from (e ∷ es) ys w late =
    let e_le : e ≤ meet = walks_le first units e es meet w.2 in
    let some = front (drop from units) (some_left units from w.0) in
    let start_le : start ≤ e = omega (arith, w.1, late w.0) in
    let later : e < length units → start ≤ e + first (drop e units) = λ h. omega arith in
    fresh_here start meet from e (es ++ ys) start_le (omega (arith, w.1, some.0)) ∙ ap (λ (l : List ℕ). e ∷ l) (fresh_made first front units start meet e es ys w.2 later)

-- The kept front ends at or before the edit's start.
pub early : (ends : List ℕ) (start kept p : ℕ) → kept ≡ ends_below start ends → p ≡ last_end 0 (take kept ends) → p ≤ start
early ends start kept p is e =
    let there : p ≡ last_end 0 (take (ends_below start ends) ends) = e ∙ ap (λ n. last_end 0 (take n ends)) is in
    elim (below_last start 0 ends) [
      | inl none ↦ let zero_there : p ≡ 0 = there ∙ ap (λ n. last_end 0 (take n ends)) none in omega arith
      | inr some ↦ omega arith
    ]

pub head_walk : {X : Type 0} (first : List X → ℕ) → IsFront first → IsLocal first → (old units : List X) (ends : List ℕ) (start b c : ℕ)
    → IsEdit old units start b c → IsCut first old ends → (kept : ℕ) → kept ≡ ends_below start ends
    → Walks first units 0 (take kept ends) (last_end 0 (take kept ends))
head_walk {X} first front local old units ends start b c edit cut kept is =
    subst (λ (n : ℕ). Walks first units 0 (take n ends) (last_end 0 (take n ends))) (sym is) (front_walk first front local old units ends start b c edit cut)

-- The units that are cut are no more than fit an end.
pub last_fits : (from limit : ℕ) (ends : List ℕ) → from < limit → ((i : ℕ) → get_or ends i 0 < limit) → last_end from ends < limit
last_fits from limit [] lt fits = lt
last_fits from limit (e ∷ es) lt fits = last_fits e limit es (fits 0) (λ i. fits (suc i))

back_drop : (ends : List ℕ) (count : ℕ) → count ≤ length ends → drop (length ends - (length ends - count)) ends ≡ drop count ends
back_drop ends count h = let e : length ends - (length ends - count) ≡ count = omega arith in ap (λ n. drop n ends) e

front_part : (start meet : ℕ) (ends ys : List ℕ) → Rises 0 (take (ends_below start ends) ends)
    → fresh start meet 0 (take (ends_below start ends) ends ++ ys) ≡ fresh start meet (last_end 0 (take (ends_below start ends) ends)) ys
front_part start meet ends ys r =
    elim (below_last start 0 ends) [
      | inl none ↦ subst (λ (n : ℕ). fresh start meet 0 (take n ends ++ ys) ≡ fresh start meet (last_end 0 (take n ends)) ys) (sym none) refl
      | inr some ↦ fresh_front start meet 0 (take (ends_below start ends) ends) ys r some
    ]

pub all_together : {X : Type 0} (first : List X → ℕ) → IsFront first → IsLocal first → (old units : List X) (ends : List ℕ) (start b c : ℕ)
    → IsEdit old units start b c → IsCut first old ends
    → (kept : ℕ) → kept ≡ ends_below start ends
    → (made : List ℕ) (at : ℕ) → Walks first units (last_end 0 (take kept ends)) made at → at ≤ length units → Unmet first old units b c at
    → (count : ℕ) → c ≤ at → count ≤ length ends → last_end 0 (take count ends) ≡ (at - c) + b
    → IsRecut first old ends units start b c kept made (length ends - count)
all_together {X} first front local old units ends start b c edit cut kept is made at walk inside unmet count after count_le there =
    let whole_old = same_length old units start b c edit in
    let head : List ℕ = take kept ends in
    let p : ℕ = last_end 0 head in
    let kept_walk : Walks first units 0 head p = head_walk first front local old units ends start b c edit cut kept is in
    let back_old : Walks first old (last_end 0 (take count ends)) (drop count ends) (length old) = walks_back first old 0 ends (length old) count cut in
    let place : last_end 0 (take count ends) ≡ b + (at - c) = omega arith in
    let from_there : Walks first old (b + (at - c)) (drop count ends) (length old) = subst (λ (n : ℕ). Walks first old n (drop count ends) (length old)) place back_old in
    let shifted : Walks first units (c + (at - c)) (moved b c (drop count ends)) ((length old - b) + c) = shift first old units b c (at - c) (drop count ends) (length old) edit.after edit.new_inside from_there in
    let at_is : c + (at - c) ≡ at = omega arith in
    let end_is : (length old - b) + c ≡ length units = omega (arith, edit.old_inside, edit.new_inside) in
    let tail_at : Walks first units at (moved b c (drop count ends)) ((length old - b) + c) = subst (λ (n : ℕ). Walks first units n (moved b c (drop count ends)) ((length old - b) + c)) at_is shifted in
    let tail : Walks first units at (moved b c (drop count ends)) (length units) = subst (λ (n : ℕ). Walks first units at (moved b c (drop count ends)) n) end_is tail_at in
    let upto : Walks first units 0 (head ++ made) at = walks_on first units 0 head p made at kept_walk walk in
    let all : Walks first units 0 ((head ++ made) ++ moved b c (drop count ends)) (length units) = walks_on first units 0 (head ++ made) at (moved b c (drop count ends)) (length units) upto tail in
    let back_is : drop (length ends - (length ends - count)) ends ≡ drop count ends = back_drop ends count count_le in
    let late : p < length units → start ≤ p + first (drop p units) =
    made_late first front local old units ends start b c edit cut p (ap (λ n. last_end 0 (take n ends)) is) in
    let made_is : fresh start at p (made ++ moved b c (drop count ends)) ≡ made ++ fresh start at at (moved b c (drop count ends)) = fresh_made first front units start at p made (moved b c (drop count ends)) walk late in
    let tail_is : fresh start at at (moved b c (drop count ends)) ≡ [] = fresh_back start at at (moved b c (drop count ends)) (walks_rise first front units at (moved b c (drop count ends)) (length units) tail) (omega arith) in
    let head_rises : Rises 0 head = walks_rise first front units 0 head p kept_walk in
    let head_is : fresh start at 0 (head ++ (made ++ moved b c (drop count ends))) ≡ fresh start at p (made ++ moved b c (drop count ends)) =
    subst (λ (n : ℕ). Rises 0 (take n ends) → fresh start at 0 (take n ends ++ (made ++ moved b c (drop count ends))) ≡ fresh start at (last_end 0 (take n ends)) (made ++ moved b c (drop count ends))) (sym is)
    (front_part start at ends (made ++ moved b c (drop count ends))) head_rises in
    let made_fresh : fresh start at 0 ((head ++ made) ++ moved b c (drop count ends)) ≡ made =
    rw append_assoc (head_is ∙ (made_is ∙ (ap (λ (l : List ℕ). made ++ l) tail_is ∙ append-nil made))) in
    record {
      meet = at;
      meets = record {
        after = after;
        in_new = (head ++ made, upto);
        in_old = (take count ends, subst (λ (n : ℕ). Walks first old 0 (take count ends) n) there (walks_front first old 0 ends (length old) count cut));
        least = λ place after in_new in_old. elim (cases_lt place at) [ inl less ↦ absurd (unmet place less after in_new in_old) | inr more ↦ more ];
      };
      kept = is;
      back_inside = omega arith;
      kept_back = omega (arith, below_count ((at - c) + b) 0 ends count (walks_rise first front old 0 ends (length old) cut) count_le there);
      led = walks_last first units 0 (head ++ made) at upto;
      from = ap (λ n. last_end 0 (take n ends)) (omega arith) ∙ there;
      whole = subst (λ (l : List ℕ). Walks first units 0 ((head ++ made) ++ moved b c l) (length units)) (sym back_is) all;
      just_fresh = sym (ap (λ (l : List ℕ). fresh start at 0 ((head ++ made) ++ moved b c l)) back_is ∙ made_fresh);
    }
