-- Line ends, counted, and parts of them.
use Rattle.std.proofs.Common.{◌≡◌, ◌==◌, ℕ, suc, ◌+◌, ◌-◌, ◌<◌, ◌≤◌, inl, inr, Bool, true, false, cond, nat_lt, List, [], ◌∷◌, ◌++◌, length, take, drop, get_or, count_by, sym, ap, ap₂, ◌∙◌, subst, arith, append_assoc, length-drop}
use Rattle.std.specs.Prelude.{slice_index}
use Rattle.std.proofs.Math.Seq.{take-append_seam, drop-append_seam, take-nil}
use Rattle.std.proofs.lemmas.List.{length-take-le}
use Rattle.std.proofs.lemmas.List.Sums.{count_by-le-length}
use Rattle.snl_cut.specs.Cut.{IsEdit}
use Rattle.snl_lists.specs.Moves.{moved, replaced_and_moved}
use Rattle.snl_lex.specs.Lines.{has_line_between, lines_between, part_of}
use Rattle.snl_lex.specs.LineList.{line_ends, line_ends_from, line_ends_in}
use Rattle.std.proofs.lemmas.Bool.{cases_lt, lt-ltb, le-ltb}
use Rattle.snl_facts.specs.Counts.{count_cons, count_yes, count_parts, any_counted}
use Rattle.snl_lex.specs.LineLaws.{take_split, count_split, below, climbs_get, below_none, below_at, below_after, below_more, ends_climb, ends_under, ends_append, two_parts, all_below, ends_moved}

-- ---- line ends and counts of them

ends_count : (at place : ℕ) (bs : List ℕ) → below place (line_ends_from at bs) ≡ count_by (λ b. b == 10) (take (place - at) bs)
ends_count at place [] = sym (ap (count_by (λ b. b == 10)) (take-nil (place - at)))
ends_count at place (b ∷ bs) =
    elim (cases_lt at place) [
      | inl less ↦
          let next : place - at ≡ suc (place - suc at) = omega arith in
          let rest : ℕ = count_by (λ x. x == 10) (take (place - suc at) bs) in
          let l : List ℕ = line_ends_from (suc at) bs in
          let again = ends_count (suc at) place bs in
          let P : Bool → Type 0 = λ (t : Bool). below place (cond t (at ∷ l) l) ≡ cond t 1 0 + rest in
          let here : below place (line_ends_from at (b ∷ bs)) ≡ cond (b == 10) 1 0 + rest =
          elim (b == 10) as P [
            | true ↦ count_yes (λ x. nat_lt x place) at l (lt-ltb at place less) ∙ omega (arith, again)
            | false ↦ omega (arith, again)
          ] in
          here ∙ sym (count_cons (λ x. x == 10) b (take (place - suc at) bs)) ∙ ap (λ (n : ℕ). count_by (λ x. x == 10) (take n (b ∷ bs))) (sym next)
      | inr more ↦
          let none : place - at ≡ 0 = omega arith in
          below_none at place (line_ends_from at (b ∷ bs)) (ends_climb at (b ∷ bs)) more ∙ ap (λ (n : ℕ). count_by (λ x. x == 10) (take n (b ∷ bs))) (sym none)
    ]

pub below_is : (text : List ℕ) (place : ℕ) → below place (line_ends text) ≡ lines_between text 0 place
below_is text place = ends_count 0 place text

-- The line ends between two places.
pub between_is : (text : List ℕ) (a place : ℕ) → lines_between text a place ≡ below place (line_ends text) - below a (line_ends text)
between_is text a place =
    elim (cases_lt place a) [
      | inl less ↦
          let none : place - a ≡ 0 = omega arith in
          ap (λ (n : ℕ). count_by (λ x. x == 10) (take n (drop a text))) none ∙ omega (arith, below_more place a (line_ends text) (omega arith))
      | inr more ↦ omega (arith, below_is text a, below_is text place, count_split text 0 a place (omega arith) more)
    ]

pub any_none : (text : List ℕ) (a place : ℕ) → below place (line_ends text) ≡ 0 → has_line_between text a place ≡ false
any_none text a place h =
    any_counted (λ b. b == 10) (part_of text a place) ∙ le-ltb 0 (lines_between text a place) (omega (arith, between_is text a place, h))

-- A line ends at or after `a` and before the place, if the last line end before the place isn't
-- before `a`.
pub any_some : (text : List ℕ) (a place k : ℕ) → below place (line_ends text) ≡ suc k → has_line_between text a place ≡ nat_lt a (suc (get_or (line_ends text) k 0))
any_some text a place k h =
    let es : List ℕ = line_ends text in
    let e : ℕ = get_or es k 0 in
    let climb = ends_climb 0 text in
    let lt : k < length es = omega (arith, h, count_by-le-length (λ x. nat_lt x place) es) in
    any_counted (λ b. b == 10) (part_of text a place)
    ∙ elim (cases_lt e a) [
      | inl less ↦
          le-ltb 0 (lines_between text a place) (omega (arith, between_is text a place, h, below_after 0 es k climb lt, below_more (suc e) a es (omega (arith, less))))
          ∙ sym (le-ltb a (suc e) (omega (arith, less)))
      | inr more ↦
          lt-ltb 0 (lines_between text a place) (omega (arith, between_is text a place, h, below_at 0 es k climb lt, below_more a e es more))
          ∙ sym (lt-ltb a (suc e) (omega (arith, more)))
    ]

-- ---- an edit of the line ends

place_parts : (text : List ℕ) (place : ℕ) → place ≤ length text
    → (take (below place (line_ends text)) (line_ends text) ≡ line_ends_from 0 (take place text)) × (drop (below place (line_ends text)) (line_ends text) ≡ line_ends_from place (drop place text))
place_parts text place le =
    let a : List ℕ = line_ends_from 0 (take place text) in
    let b : List ℕ = line_ends_from place (drop place text) in
    let two : line_ends text ≡ a ++ b = two_parts text place le in
    let count : below place (line_ends text) ≡ length a =
    ap (below place) two ∙ count_parts (λ e. nat_lt e place) a b (all_below place 0 (take place text) (omega (arith, length-take-le place text le))) (below_none place place b (ends_climb place (drop place text)) (omega arith)) in (
      ap₂ (λ (n : ℕ) (l : List ℕ). take n l) count two ∙ take-append_seam a b,
      ap₂ (λ (n : ℕ) (l : List ℕ). drop n l) count two ∙ drop-append_seam a b,
    )

pub after_above : (text : List ℕ) (b : ℕ) → b ≤ length text → (i : ℕ) → i < length (drop (below b (line_ends text)) (line_ends text)) → b ≤ slice_index (drop (below b (line_ends text)) (line_ends text)) i
after_above text b le i lt =
    let e = (place_parts text b le).1 in
    let there : i < length (line_ends_from b (drop b text)) = omega (arith, lt, ap length e) in
    subst (λ (l : List ℕ). b ≤ slice_index l i) (sym e) (climbs_get b (line_ends_from b (drop b text)) i 0 (ends_climb b (drop b text)) there)

pub after_under : (text : List ℕ) (b : ℕ) → b ≤ length text → (i : ℕ) → i < length (drop (below b (line_ends text)) (line_ends text)) → slice_index (drop (below b (line_ends text)) (line_ends text)) i < length text
after_under text b le i lt =
    let e = (place_parts text b le).1 in
    let there : i < length (line_ends_from b (drop b text)) = omega (arith, lt, ap length e) in
    let under : slice_index (line_ends_from b (drop b text)) i < length text = omega (arith, ends_under b (drop b text) i 0 there, length-drop b text, le) in
    subst (λ (l : List ℕ). slice_index l i < length text) (sym e) under

pub edited_ends : (old text : List ℕ) (start b c : ℕ) → IsEdit old text start b c
    → replaced_and_moved (line_ends old) (below start (line_ends old)) (below b (line_ends old)) (line_ends_in text start c) b c ≡ line_ends text
edited_ends old text start b c e =
    let head : take (below start (line_ends old)) (line_ends old) ≡ line_ends_from 0 (take start text) =
    (place_parts old start (omega (arith, e.old_order, e.old_inside))).0 ∙ ap (line_ends_from 0) e.before in
    let zero_b : b + 0 ≡ b = omega arith in
    let zero_c : c + 0 ≡ c = omega arith in
    let moves : moved b c (line_ends_from b (drop b old)) ≡ line_ends_from c (drop c text) =
    sym (ap (λ (n : ℕ). line_ends_from n (drop c text)) (sym zero_c) ∙ ends_moved b c 0 (drop c text) ∙ ap₂ (λ (n : ℕ) (l : List ℕ). moved b c (line_ends_from n l)) zero_b (sym e.after)) in
    let tail : moved b c (drop (below b (line_ends old)) (line_ends old)) ≡ line_ends_from c (drop c text) = ap (moved b c) (place_parts old b e.old_inside).1 ∙ moves in
    let order : start + (c - start) ≡ c = omega (arith, e.new_order) in
    let size : 0 + length (take start text) ≡ start = omega (arith, length-take-le start text (omega (arith, e.new_order, e.new_inside))) in
    let front : line_ends_from 0 (take c text) ≡ line_ends_from 0 (take start text) ++ line_ends_in text start c =
    ap (λ (n : ℕ). line_ends_from 0 (take n text)) (sym order) ∙ ap (line_ends_from 0) (take_split start (c - start) text)
    ∙ ends_append 0 (take start text) (part_of text start c) ∙ ap (λ (n : ℕ). line_ends_from 0 (take start text) ++ line_ends_from n (part_of text start c)) size in
    ap₂ (λ (x y : List ℕ). x ++ (line_ends_in text start c ++ y)) head tail
    ∙ sym (two_parts text c e.new_inside ∙ ap (λ (l : List ℕ). l ++ line_ends_from c (drop c text)) front ∙ append_assoc (line_ends_from 0 (take start text)) (line_ends_in text start c) (line_ends_from c (drop c text)))
