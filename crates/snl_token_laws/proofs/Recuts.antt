-- What an edit keeps of a cut and makes anew is the cut of the new list.
use Rattle.std.proofs.Common.{◌≡◌, ℕ, zero, suc, ◌+◌, ◌-◌, ◌<◌, ◌≤◌, inl, inr, cond, nat_le, nat_lt, List, [], ◌∷◌, ◌++◌, length, drop, take, min, refl, sym, ap, ap₂, ◌∙◌, subst, arith, length-drop}
use Rattle.std.proofs.lemmas.Bool.{cases_lt, cond-false, cond-true, le-leb, le-ltb, lt-leb, lt-ltb}
use Rattle.std.proofs.lemmas.List.{drop-drop, drop-take, length-take, take-append-drop, take-take}
use Rattle.snl_cut.specs.Cut.{IsCut, IsEdit, IsFront, IsLocal, IsMeet, IsRecut, Rises, Walks, ends_below, ends_of, fresh, fresh_ends, joined, last_end, meet_of, moved}
use Rattle.snl_token_laws.specs.Recuts.{back_of}
use Rattle.snl_token_laws.proofs.Meeting.{IsAmong, among_above, among_rest, led_among}
use Rattle.snl_cut.specs.CutLaws.{below_inside, below_more, walks_le, walks_back, fresh_back, same_length}
use Rattle.snl_facts.specs.Lists.{part_agrees, also_inside}

-- ---- ends below a place

below_yes : (place e : ℕ) (es : List ℕ) → e < place → ends_below place (e ∷ es) ≡ suc (ends_below place es)
below_yes place e es h = cond-true (nat_lt e place) (suc (ends_below place es)) 0 (lt-ltb e place h)

below_no : (place e : ℕ) (es : List ℕ) → place ≤ e → ends_below place (e ∷ es) ≡ 0
below_no place e es h = cond-false (nat_lt e place) (suc (ends_below place es)) 0 (le-ltb e place h)

-- None of the ends above a place is below it.
below_none : (place from : ℕ) (es : List ℕ) → Rises from es → place ≤ from → ends_below place es ≡ 0
below_none place from [] r h = refl
below_none place from (e ∷ es) r h = below_no place e es (omega (arith, r.0))

-- The ends up to one of them lead to it.
upto_last : (from : ℕ) (es : List ℕ) (place : ℕ) → Rises from es → IsAmong from es place → last_end from (take (ends_below (suc place) es) es) ≡ place
upto_last from [] place r h = elim h [ inl here ↦ sym here | inr later ↦ cc ]
upto_last from (e ∷ es) place r h =
    let G : ℕ → Type 0 = λ (n : ℕ). last_end from (take n (e ∷ es)) ≡ place in
    elim h [
      | inl here ↦ subst G (sym (below_no (suc place) e es (omega (arith, r.0)))) (sym here)
      | inr later ↦
          let rest = among_rest from e es place later in
          subst G (sym (below_yes (suc place) e es (omega (arith, among_above e es place r.1 rest)))) (upto_last e es place r.1 rest)
    ]

-- ---- before the edit

-- A member of one list that ends before the edit is one of the other.
early_same : {X : Type 0} (first : List X → ℕ) → IsLocal first → (old units : List X) (start from : ℕ) → take start old ≡ take start units → from < length old → from + first (drop from old) < start
    → first (drop from units) ≡ first (drop from old)
early_same {X} first local old units start from e inside early =
    local (drop from old) (drop from units) (omega (arith, length-drop from old)) (part_agrees old units start from (first (drop from old) + 1) e (omega arith))

early_ends : {X : Type 0} (first : List X → ℕ) → IsLocal first → (old units : List X) (start : ℕ) → take start old ≡ take start units → (from : ℕ) (xs ys : List ℕ)
    → Walks first old from xs (length old) → Walks first units from ys (length units) → take (ends_below start xs) xs ≡ take (ends_below start ys) ys
early_ends first local old units start e from [] [] v w = refl
early_ends {X} first local old units start e from [] (y ∷ ys) v w =
    elim (cases_lt y start) [
      | inl less ↦ absurd (omega (arith, v, w.1, also_inside units old start from (sym e) (omega (arith, w.1)) w.0))
      | inr more ↦ sym (ap (λ (n : ℕ). take n (y ∷ ys)) (below_no start y ys more))
    ]
early_ends {X} first local old units start e from (x ∷ xs) [] v w =
    elim (cases_lt x start) [
      | inl less ↦ absurd (omega (arith, w, v.1, also_inside old units start from e (omega (arith, v.1)) v.0))
      | inr more ↦ ap (λ (n : ℕ). take n (x ∷ xs)) (below_no start x xs more)
    ]
early_ends {X} first local old units start e from (x ∷ xs) (y ∷ ys) v w =
    elim (cases_lt x start) [
      | inl less ↦
          let same : y ≡ x = w.1 ∙ (ap (λ (n : ℕ). from + n) (early_same first local old units start from e v.0 (omega (arith, v.1))) ∙ sym v.1) in
          let rest : take (ends_below start xs) xs ≡ take (ends_below start ys) ys = early_ends first local old units start e x xs ys v.2 (subst (λ (n : ℕ). Walks first units n ys (length units)) same w.2) in
          ap (λ (n : ℕ). take n (x ∷ xs)) (below_yes start x xs less)
          ∙ (ap₂ (λ (n : ℕ) (l : List ℕ). n ∷ l) (sym same) rest ∙ sym (ap (λ (n : ℕ). take n (y ∷ ys)) (below_yes start y ys (omega arith))))
      | inr more ↦
          let late : start ≤ y =
          elim (cases_lt y start) [
            | inl less ↦
                let same : first (drop from old) ≡ first (drop from units) = early_same first local units old start from (sym e) w.0 (omega (arith, w.1)) in
                absurd (omega (arith, v.1, w.1))
            | inr late ↦ late
          ] in
          ap (λ (n : ℕ). take n (x ∷ xs)) (below_no start x xs more) ∙ sym (ap (λ (n : ℕ). take n (y ∷ ys)) (below_no start y ys late))
    ]

-- ---- after the meeting point

late_ends : {X : Type 0} (first : List X → ℕ) (old units : List X) (b c at : ℕ) (from : ℕ) (xs ys : List ℕ) → drop at old ≡ drop from units → b ≤ at → from ≡ (at - b) + c
    → at ≤ length old → from ≤ length units → Walks first old at xs (length old) → Walks first units from ys (length units) → ys ≡ moved b c xs
late_ends first old units b c at from [] [] e le is lo lu v w = refl
late_ends {X} first old units b c at from [] (y ∷ ys) e le is lo lu v w = absurd (omega (arith, v, w.0, ap length e, length-drop at old, length-drop from units))
late_ends {X} first old units b c at from (x ∷ xs) [] e le is lo lu v w = absurd (omega (arith, v.0, w, ap length e, length-drop at old, length-drop from units))
late_ends {X} first old units b c at from (x ∷ xs) (y ∷ ys) e le is lo lu v w =
    let n : ℕ = first (drop at old) in
    let same : first (drop from units) ≡ n = ap first (sym e) in
    let x_is : x ≡ at + n = v.1 in
    let y_is : y ≡ from + n = w.1 ∙ ap (λ (k : ℕ). from + k) same in
    let here : y ≡ (x - b) + c = omega arith in
    let next : drop x old ≡ drop y units =
    ap (λ (k : ℕ). drop k old) x_is ∙ (sym (drop-drop n at old) ∙ (ap (drop n) e ∙ (drop-drop n from units ∙ sym (ap (λ (k : ℕ). drop k units) y_is)))) in
    let rest : ys ≡ moved b c xs = late_ends first old units b c x y xs ys next (omega arith) here (walks_le first old x xs (length old) v.2) (walks_le first units y ys (length units) w.2) v.2 w.2 in
    ap₂ (λ (k : ℕ) (l : List ℕ). k ∷ l) here rest

drop_none : (n : ℕ) → drop {A = ℕ} n [] ≡ []
drop_none zero = refl
drop_none (suc n) = refl

-- ---- fresh members

-- The fresh ends are those up to the meeting point that are not below the edit.
fresh_is : (start meet from : ℕ) (es : List ℕ) → Rises from es → start ≤ meet → IsAmong from es meet → fresh start meet from es ≡ drop (ends_below start es) (take (ends_below (suc meet) es) es)
fresh_is start meet from [] r le among = refl
fresh_is start meet from (e ∷ es) r le among =
    let rest : List ℕ = fresh start meet e es in
    elim among [
      | inl here ↦
          let none : ends_below (suc meet) (e ∷ es) ≡ 0 = below_no (suc meet) e es (omega (arith, r.0)) in
          let nothing : drop (ends_below start (e ∷ es)) (take (ends_below (suc meet) (e ∷ es)) (e ∷ es)) ≡ [] = ap (λ (k : ℕ). drop (ends_below start (e ∷ es)) (take k (e ∷ es))) none ∙ drop_none (ends_below start (e ∷ es)) in
          fresh_back start meet from (e ∷ es) r (omega arith) ∙ sym nothing
      | inr later ↦
          let there = among_rest from e es meet later in
          let low : e ≤ meet = among_above e es meet r.1 there in
          let again : rest ≡ drop (ends_below start es) (take (ends_below (suc meet) es) es) = fresh_is start meet e es r.1 le there in
          let counted : ends_below (suc meet) (e ∷ es) ≡ suc (ends_below (suc meet) es) = below_yes (suc meet) e es (omega arith) in
          elim (cases_lt e start) [
            | inl less ↦
                let skipped : fresh start meet from (e ∷ es) ≡ rest = cond-false (nat_le start e) (cond (nat_lt from meet) (e ∷ rest) rest) rest (lt-leb start e less) in
                skipped ∙ (again ∙ sym (ap₂ (λ (i k : ℕ). drop i (take k (e ∷ es))) (below_yes start e es less) counted))
            | inr more ↦
                let taken : fresh start meet from (e ∷ es) ≡ e ∷ rest =
                cond-true (nat_le start e) (cond (nat_lt from meet) (e ∷ rest) rest) rest (le-leb start e more) ∙ cond-true (nat_lt from meet) (e ∷ rest) rest (lt-ltb from meet (omega (arith, r.0))) in
                let none : ends_below start es ≡ 0 = below_none start e es r.1 more in
                let again_all : rest ≡ take (ends_below (suc meet) es) es = again ∙ ap (λ (i : ℕ). drop i (take (ends_below (suc meet) es) es)) none in
                taken ∙ (ap (λ (l : List ℕ). e ∷ l) again_all ∙ sym (ap₂ (λ (i k : ℕ). drop i (take k (e ∷ es))) (below_no start e es more) counted))
          ]
    ]

-- ---- the recut

front_and_fresh : (i k : ℕ) (es : List ℕ) → i ≤ k → take i es ++ drop i (take k es) ≡ take k es
front_and_fresh i k es le = ap (λ (l : List ℕ). l ++ drop i (take k es)) (sym (take-take i k es le)) ∙ take-append-drop i (take k es)

pub edit_recut : {X : Type 0} (first : List X → ℕ) → IsFront first → IsLocal first → ((units : List X) → IsCut first units (ends_of first units)) → ((units : List X) → Rises 0 (ends_of first units))
    → (old units : List X) (start b c : ℕ) → IsEdit old units start b c → IsMeet first old units b c (meet_of first old units b c)
    → IsRecut first old (ends_of first old) units start b c (ends_below start (ends_of first old)) (fresh_ends first old units start b c) (back_of first old units b c)
edit_recut {X} first front local cut rises old units start b c edit is =
    let olds : List ℕ = ends_of first old in
    let news : List ℕ = ends_of first units in
    let m : ℕ = meet_of first old units b c in
    let at : ℕ = (m - c) + b in
    let made : List ℕ = fresh_ends first old units start b c in
    let low : ℕ = ends_below start olds in
    let k : ℕ = ends_below (suc m) news in
    let count : ℕ = ends_below (suc at) olds in
    let in_new = led_among first units 0 news is.in_new.0 m (cut units) is.in_new.1 in
    let in_old = led_among first old 0 olds is.in_old.0 at (cut old) is.in_old.1 in
    let new_last : last_end 0 (take k news) ≡ m = upto_last 0 news m (rises units) in_new in
    let old_last : last_end 0 (take count olds) ≡ at = upto_last 0 olds at (rises old) in_old in
    let count_inside : count ≤ length olds = below_inside (suc at) olds in
    let back_is : length olds - back_of first old units b c ≡ count = omega arith in
    let fronts : take low olds ≡ take (ends_below start news) news = early_ends first local old units start edit.before 0 olds news (cut old) (cut units) in
    let made_is : made ≡ drop (ends_below start news) (take k news) = fresh_is start m 0 news (rises units) (omega (arith, edit.new_order, is.after)) in_new in
    let upto : take low olds ++ made ≡ take k news =
    ap₂ (λ (x y : List ℕ). x ++ y) fronts made_is ∙ front_and_fresh (ends_below start news) k news (below_more start (suc m) news (omega (arith, edit.new_order, is.after))) in
    let rest_old : Walks first old at (drop count olds) (length old) = subst (λ (n : ℕ). Walks first old n (drop count olds) (length old)) old_last (walks_back first old 0 olds (length old) count (cut old)) in
    let rest_new : Walks first units m (drop k news) (length units) = subst (λ (n : ℕ). Walks first units n (drop k news) (length units)) new_last (walks_back first units 0 news (length units) k (cut units)) in
    let inside : m ≤ length units = walks_le first units m (drop k news) (length units) rest_new in
    let whole_old = same_length old units start b c edit in
    let same_rest : drop at old ≡ drop m units =
    ap (λ (n : ℕ). drop n old) (omega arith) ∙ (sym (drop-drop (m - c) b old) ∙ (ap (drop (m - c)) edit.after ∙ (drop-drop (m - c) c units ∙ ap (λ (n : ℕ). drop n units) (omega (arith, is.after))))) in
    let backs : drop k news ≡ moved b c (drop count olds) =
    late_ends first old units b c at m (drop count olds) (drop k news) same_rest (omega arith) (omega (arith, is.after)) (omega (arith, is.after, inside)) inside rest_old rest_new in
    let all : joined olds b c low made (back_of first old units b c) ≡ news =
    ap₂ (λ (l : List ℕ) (n : ℕ). l ++ moved b c (drop n olds)) upto back_is ∙ (ap (λ (l : List ℕ). take k news ++ l) (sym backs) ∙ take-append-drop k news) in
    record {
      meet = m;
      meets = is;
      kept = refl;
      back_inside = omega arith;
      kept_back = omega arith;
      led = ap (last_end 0) upto ∙ new_last;
      from = ap (λ (n : ℕ). last_end 0 (take n olds)) back_is ∙ old_last;
      whole = subst (IsCut first units) (sym all) (cut units);
      just_fresh = sym (ap (fresh start m 0) all);
    }
