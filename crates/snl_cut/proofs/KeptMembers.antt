-- What is kept of a cut is kept as it was: the members themselves, and not only their ends.
use Rattle.std.proofs.Common.{◌≡◌, ℕ, zero, suc, ◌+◌, ◌-◌, ◌≤◌, List, [], ◌∷◌, ◌++◌, length, take, drop, refl, sym, ap, ap₂, ◌∙◌, subst, append_assoc, arith}
use Rattle.std.proofs.lemmas.List.{drop-drop}
use Rattle.snl_cut.specs.Cut.{IsFront, IsCut, IsEdit, IsRecut, Rises, last_end, moved, members, members_kept, joined}
use Rattle.snl_cut.proofs.Below.{rises_take}
use Rattle.snl_cut.proofs.Agreeing.{walks_rise}
use Rattle.snl_cut.proofs.Fresh.{early}
use Rattle.snl_facts.specs.Lists.{part_agrees}
use Rattle.snl_cut.specs.CutLaws.{rises_last, members_joined}

members_taken : {X : Type 0} (units : List X) (from : ℕ) (es : List ℕ) (k : ℕ) → members units from (take k es) ≡ take k (members units from es)
members_taken units from es zero = refl
members_taken units from [] (suc k) = refl
members_taken {X} units from (e ∷ es) (suc k) = ap (λ (l : List (List X)). take (e - from) (drop from units) ∷ l) (members_taken units e es k)

members_dropped : {X : Type 0} (units : List X) (from : ℕ) (es : List ℕ) (k : ℕ)
    → members units (last_end from (take k es)) (drop k es) ≡ drop k (members units from es)
members_dropped units from es zero = refl
members_dropped units from [] (suc k) = refl
members_dropped units from (e ∷ es) (suc k) = members_dropped units e es k

-- Members that end before a place are the same where the lists agree before it.
members_before : {X : Type 0} (old units : List X) (a from : ℕ) (es : List ℕ) → take a old ≡ take a units → Rises from es → last_end from es ≤ a
    → members units from es ≡ members old from es
members_before old units a from [] h r le = refl
members_before {X} old units a from (e ∷ es) h r le =
    let e_le : e ≤ a = omega (arith, rises_last e es r.1, le) in
    ap₂ (λ (m : List X) (ms : List (List X)). m ∷ ms) (sym (part_agrees old units a from (e - from) h (omega (arith, r.0)))) (members_before old units a e es h r.1 le)

-- Members after a place are the same, moved, where the lists agree after it.
members_after : {X : Type 0} (old units : List X) (b c m : ℕ) (es : List ℕ) → drop b old ≡ drop c units → Rises (b + m) es
    → members units (c + m) (moved b c es) ≡ members old (b + m) es
members_after old units b c m [] h r = refl
members_after {X} old units b c m (e ∷ es) h r =
    let rest : drop (c + m) units ≡ drop (b + m) old = sym (drop-drop m c units) ∙ (ap (drop m) (sym h) ∙ drop-drop m b old) in
    let size : ((e - b) + c) - (c + m) ≡ e - (b + m) = omega (arith, r.0) in
    let there : b + (e - b) ≡ e = omega (arith, r.0) in
    let on : members units (c + (e - b)) (moved b c es) ≡ members old (b + (e - b)) es = members_after old units b c (e - b) es h (subst (λ n. Rises n es) (sym there) r.1) in
    let place : c + (e - b) ≡ (e - b) + c = omega arith in
    ap₂ (λ (m : List X) (ms : List (List X)). m ∷ ms) (ap₂ (λ (n : ℕ) (l : List X). take n l) size rest)
    (subst (λ (n : ℕ). members units n (moved b c es) ≡ members old e es) place (subst (λ (n : ℕ). members units (c + (e - b)) (moved b c es) ≡ members old n es) there on))

rises_after : (from : ℕ) (es : List ℕ) (k : ℕ) → Rises from es → Rises (last_end from (take k es)) (drop k es)
rises_after from es zero r = r
rises_after from [] (suc k) r = tt
rises_after from (e ∷ es) (suc k) r = rises_after e es k r.1

-- The lists beside the units are edited as these are, and cut by their ends.
pub kept_members : {X Y : Type 0} (first : List X → ℕ) → IsFront first → (old units : List X) (ends : List ℕ) (beside beside_new : List Y) (start b c front : ℕ) (made : List ℕ) (back : ℕ)
    → IsEdit beside beside_new start b c → IsCut first old ends → IsRecut first old ends units start b c front made back
    → members beside_new 0 (joined ends b c front made back) ≡ members_kept beside ends beside_new front made back
kept_members {X} {Y} first within old units ends beside beside_new start b c front made back edit cut is =
    let head : List ℕ = take front ends in
    let count : ℕ = length ends - back in
    let tail : List ℕ = drop count ends in
    let rises : Rises 0 ends = walks_rise first within old 0 ends (length old) cut in
    let head_same : members beside_new 0 head ≡ take front (members beside 0 ends) =
    members_before beside beside_new start 0 head edit.before (rises_take 0 ends front rises) (early ends start front (last_end 0 head) is.kept refl) ∙ members_taken beside 0 ends front in
    let meet_new : c + (is.meet - c) ≡ is.meet = omega (arith, is.meets.after) in
    let meet_old : b + (is.meet - c) ≡ last_end 0 (take count ends) = omega (arith, is.from) in
    let tail_rises : Rises (b + (is.meet - c)) tail = subst (λ (n : ℕ). Rises n tail) (sym meet_old) (rises_after 0 ends count rises) in
    let tail_moved : members beside_new (c + (is.meet - c)) (moved b c tail) ≡ members beside (b + (is.meet - c)) tail = members_after beside beside_new b c (is.meet - c) tail edit.after tail_rises in
    let tail_same : members beside_new (last_end 0 (head ++ made)) (moved b c tail) ≡ drop count (members beside 0 ends) =
    ap (λ (n : ℕ). members beside_new n (moved b c tail)) (is.led ∙ sym meet_new) ∙ tail_moved ∙ ap (λ (n : ℕ). members beside n tail) meet_old ∙ members_dropped beside 0 ends count in
    members_joined beside_new 0 (head ++ made) (moved b c tail)
    ∙ ap₂ (λ (x y : List (List Y)). x ++ y) (members_joined beside_new 0 head made) tail_same
    ∙ append_assoc (members beside_new 0 head) (members beside_new (last_end 0 head) made) (drop count (members beside 0 ends))
    ∙ ap (λ (x : List (List Y)). x ++ (members beside_new (last_end 0 head) made ++ drop count (members beside 0 ends))) head_same
