-- What follows from the definitions of lines: of parts of a text, of line ends and of how many are
-- before a place.
use Rattle.std.proofs.Common.{◌≡◌, ◌==◌, ℕ, zero, suc, ◌+◌, ◌-◌, ◌<◌, ◌≤◌, Bool, true, false, ◌&&◌, cond, nat_lt, List, [], ◌∷◌, ◌++◌, length, take, drop, get_or, count_by, map, refl, sym, ap, ap₂, ◌∙◌, arith}
use Rattle.std.specs.Prelude.{slice_index}
use Rattle.std.specs.List.Sorted.{IsNonDecreasing}
use Rattle.std.proofs.lemmas.Bool.{le-ltb, lt-ltb}
use Rattle.std.proofs.lemmas.List.{drop-drop, drop-take, length-take-le, take-append-drop, take-take, take_all}
use Rattle.memchr.specs.Find.{is_byte, places, places_from}
use Rattle.snl_facts.specs.Counts.{count_append, count_cons, count_no, count_yes}
use Rattle.snl_facts.specs.Lists.{take_drop}
use Rattle.snl_facts.specs.Numbers.{bit_more}
use Rattle.snl_lists.specs.Moves.{moved}
use Rattle.snl_lex.specs.declared.piece.Piece.{Piece}
use Rattle.snl_lex.specs.Lines.{has_line_between, lines_between, part_of, sets_line}
use Rattle.snl_lex.specs.LineList.{line_ends, line_ends_from, numbers}
use Rattle.snl_lex.specs.Pieces.{piece_end}

-- ---- parts of a text

pub take_split : {X : Type 0} (m n : ℕ) (u : List X) → take (m + n) u ≡ take m u ++ take n (drop m u)
take_split {X} m n u =
    sym (take-append-drop m (take (m + n) u))
    ∙ (ap (λ (l : List X). l ++ drop m (take (m + n) u)) (take-take m (m + n) u (omega arith)) ∙ ap (λ (l : List X). take m u ++ l) (drop-take m n u))

pub part_split : (text : List ℕ) (a c b : ℕ) → a ≤ c → c ≤ b → part_of text a b ≡ part_of text a c ++ part_of text c b
part_split text a c b ac cb =
    let whole : b - a ≡ (c - a) + (b - c) = omega arith in
    let there : a + (c - a) ≡ c = omega arith in
    ap (λ (n : ℕ). take n (drop a text)) whole
    ∙ (take_split (c - a) (b - c) (drop a text)
    ∙ ap (λ (l : List ℕ). part_of text a c ++ take (b - c) l) (drop-drop (c - a) a text ∙ ap (λ (n : ℕ). drop n text) there))

pub count_split : (text : List ℕ) (a c b : ℕ) → a ≤ c → c ≤ b → lines_between text a b ≡ lines_between text a c + lines_between text c b
count_split text a c b ac cb = ap (count_by (λ x. x == 10)) (part_split text a c b ac cb) ∙ count_append (λ x. x == 10) (part_of text a c) (part_of text c b)

pub sets_is : (text : List ℕ) (o : ℕ) (p : Piece) → sets_line text o p ≡ (numbers text p && has_line_between text (piece_end p) o)
unfolding sets_line
sets_is text o p = refl

-- ---- places that climb, and how many are before one

-- Each is at or after `at`, and after the one before it.
abbrev pub Climbs : ℕ → List ℕ → Type 0
Climbs at [] = Unit {0}
Climbs at (e ∷ es) = (at ≤ e) × Climbs (suc e) es

-- How many are before a place.
abbrev pub below : ℕ → List ℕ → ℕ
below place es = count_by (λ e. nat_lt e place) es

pub climbs_less : (at : ℕ) (es : List ℕ) → Climbs (suc at) es → Climbs at es
climbs_less at [] h = tt
climbs_less at (e ∷ es) h = (omega (arith, h.0), h.1)

pub climbs_get : (at : ℕ) (es : List ℕ) (k d : ℕ) → Climbs at es → k < length es → at ≤ get_or es k d
climbs_get at [] k d h lt = absurd (omega arith)
climbs_get at (e ∷ es) zero d h lt = h.0
climbs_get at (e ∷ es) (suc k) d h lt = omega (arith, h.0, climbs_get (suc e) es k d h.1 (omega arith))

pub climbs_order : (at : ℕ) (es : List ℕ) → Climbs at es → (i j d : ℕ) → i ≤ j → j < length es → get_or es i d ≤ get_or es j d
climbs_order at [] h i j d le lt = absurd (omega (arith, lt))
climbs_order at (e ∷ es) h zero zero d le lt = omega arith
climbs_order at (e ∷ es) h zero (suc j) d le lt = omega (arith, climbs_get (suc e) es j d h.1 (omega (arith, lt)))
climbs_order at (e ∷ es) h (suc i) zero d le lt = absurd (omega (arith, le))
climbs_order at (e ∷ es) h (suc i) (suc j) d le lt = climbs_order (suc e) es h.1 i j d (omega (arith, le)) (omega (arith, lt))

pub below_none : (at place : ℕ) (es : List ℕ) → Climbs at es → place ≤ at → below place es ≡ 0
below_none at place [] h le = refl
below_none at place (e ∷ es) h le = count_no (λ x. nat_lt x place) e es (le-ltb e place (omega (arith, h.0))) ∙ below_none (suc e) place es h.1 (omega (arith, h.0))

-- So many are before the one with a number, and one more before the place after it.
pub below_at : (at : ℕ) (es : List ℕ) (k : ℕ) → Climbs at es → k < length es → below (get_or es k 0) es ≡ k
below_at at [] k h lt = absurd (omega arith)
below_at at (e ∷ es) zero h lt = count_no (λ x. nat_lt x e) e es (le-ltb e e (omega arith)) ∙ below_none (suc e) e es h.1 (omega arith)
below_at at (e ∷ es) (suc k) h lt =
    count_yes (λ x. nat_lt x (get_or es k 0)) e es (lt-ltb e (get_or es k 0) (omega (arith, climbs_get (suc e) es k 0 h.1 (omega arith)))) ∙ ap suc (below_at (suc e) es k h.1 (omega arith))

pub below_after : (at : ℕ) (es : List ℕ) (k : ℕ) → Climbs at es → k < length es → below (suc (get_or es k 0)) es ≡ suc k
below_after at [] k h lt = absurd (omega arith)
below_after at (e ∷ es) zero h lt = count_yes (λ x. nat_lt x (suc e)) e es (lt-ltb e (suc e) (omega arith)) ∙ ap suc (below_none (suc e) (suc e) es h.1 (omega arith))
below_after at (e ∷ es) (suc k) h lt =
    count_yes (λ x. nat_lt x (suc (get_or es k 0))) e es (lt-ltb e (suc (get_or es k 0)) (omega (arith, climbs_get (suc e) es k 0 h.1 (omega arith)))) ∙ ap suc (below_after (suc e) es k h.1 (omega arith))

pub below_more : (a b : ℕ) (es : List ℕ) → a ≤ b → below a es ≤ below b es
below_more a b [] le = omega arith
below_more a b (e ∷ es) le = omega (arith, bit_more a b e le, below_more a b es le, count_cons (λ x. nat_lt x a) e es, count_cons (λ x. nat_lt x b) e es)

-- ---- line ends

pub ends_climb : (at : ℕ) (bs : List ℕ) → Climbs at (line_ends_from at bs)
ends_climb at [] = tt
ends_climb at (b ∷ bs) =
    let rest = ends_climb (suc at) bs in
    let l : List ℕ = line_ends_from (suc at) bs in
    elim (b == 10) as (λ t. Climbs at (cond t (at ∷ l) l)) [ true ↦ (omega arith, rest) | false ↦ climbs_less at l rest ]

pub ends_order : (text : List ℕ) → IsNonDecreasing (line_ends text)
ends_order text = λ i j d le lt. climbs_order 0 (line_ends text) (ends_climb 0 text) i j d le lt

pub under_one : (at : ℕ) (bs : List ℕ) (k d : ℕ) → ((j e : ℕ) → j < length (line_ends_from (suc at) bs) → get_or (line_ends_from (suc at) bs) j e < suc at + length bs)
    → k < length (at ∷ line_ends_from (suc at) bs) → get_or (at ∷ line_ends_from (suc at) bs) k d < at + suc (length bs)
under_one at bs zero d again lt = omega arith
under_one at bs (suc k) d again lt = omega (arith, again k d (omega (arith, lt)))

pub ends_under : (at : ℕ) (bs : List ℕ) (k d : ℕ) → k < length (line_ends_from at bs) → get_or (line_ends_from at bs) k d < at + length bs
ends_under at [] k d = λ lt. absurd (omega (arith, lt))
ends_under at (b ∷ bs) k d =
    let l : List ℕ = line_ends_from (suc at) bs in
    elim (b == 10) as (λ t. k < length (cond t (at ∷ l) l) → get_or (cond t (at ∷ l) l) k d < at + suc (length bs)) [
      | true ↦ under_one at bs k d (ends_under (suc at) bs)
      | false ↦ λ lt. omega (arith, ends_under (suc at) bs k d lt)
    ]

pub ends_append : (at : ℕ) (xs ys : List ℕ) → line_ends_from at (xs ++ ys) ≡ line_ends_from at xs ++ line_ends_from (at + length xs) ys
ends_append at [] ys = ap (λ (n : ℕ). line_ends_from n ys) (omega arith)
ends_append at (x ∷ xs) ys =
    let more : suc at + length xs ≡ at + suc (length xs) = omega arith in
    let rest : line_ends_from (suc at) (xs ++ ys) ≡ line_ends_from (suc at) xs ++ line_ends_from (at + suc (length xs)) ys =
    ends_append (suc at) xs ys ∙ ap (λ (n : ℕ). line_ends_from (suc at) xs ++ line_ends_from n ys) more in
    let P : Bool → Type 0 = λ (t : Bool). cond t (at ∷ line_ends_from (suc at) (xs ++ ys)) (line_ends_from (suc at) (xs ++ ys)) ≡ cond t (at ∷ line_ends_from (suc at) xs) (line_ends_from (suc at) xs) ++ line_ends_from (at + suc (length xs)) ys in
    elim (x == 10) as P [ true ↦ ap (λ (l : List ℕ). at ∷ l) rest | false ↦ rest ]

-- The two parts of the line ends at a place of the text.
pub two_parts : (text : List ℕ) (place : ℕ) → place ≤ length text → line_ends text ≡ line_ends_from 0 (take place text) ++ line_ends_from place (drop place text)
two_parts text place le =
    ap (line_ends_from 0) (sym (take-append-drop place text)) ∙ ends_append 0 (take place text) (drop place text)
    ∙ ap (λ (n : ℕ). line_ends_from 0 (take place text) ++ line_ends_from n (drop place text)) (omega (arith, length-take-le place text le))

pub all_below : (place at : ℕ) (bs : List ℕ) → at + length bs ≤ place → below place (line_ends_from at bs) ≡ length (line_ends_from at bs)
all_below place at [] h = refl
all_below place at (b ∷ bs) h =
    let l : List ℕ = line_ends_from (suc at) bs in
    let rest = all_below place (suc at) bs (omega (arith, h)) in
    elim (b == 10) as (λ t. below place (cond t (at ∷ l) l) ≡ length (cond t (at ∷ l) l)) [
      | true ↦ count_yes (λ x. nat_lt x place) at l (lt-ltb at place (omega (arith, h))) ∙ ap suc rest
      | false ↦ rest
    ]

pub ends_moved : (b c m : ℕ) (bs : List ℕ) → line_ends_from (c + m) bs ≡ moved b c (line_ends_from (b + m) bs)
ends_moved b c m [] = refl
ends_moved b c m (x ∷ bs) =
    let rest : line_ends_from (suc (c + m)) bs ≡ moved b c (line_ends_from (suc (b + m)) bs) =
    ap (λ (n : ℕ). line_ends_from n bs) (omega arith) ∙ ends_moved b c (suc m) bs ∙ ap (λ (n : ℕ). moved b c (line_ends_from n bs)) (omega arith) in
    let place : c + m ≡ ((b + m) - b) + c = omega arith in
    let P : Bool → Type 0 = λ (t : Bool). cond t ((c + m) ∷ line_ends_from (suc (c + m)) bs) (line_ends_from (suc (c + m)) bs) ≡ moved b c (cond t ((b + m) ∷ line_ends_from (suc (b + m)) bs) (line_ends_from (suc (b + m)) bs)) in
    elim (x == 10) as P [ true ↦ ap₂ (λ (n : ℕ) (l : List ℕ). n ∷ l) place rest | false ↦ rest ]

pub places_are : (at i n : ℕ) (bs : List ℕ) → i + n ≤ length bs → line_ends_from (at + i) (take n (drop i bs)) ≡ map (λ p. at + p) (places_from (is_byte 10) bs i n)
unfolding places_from
places_are at i zero bs le = refl
places_are at i (suc n) bs le =
    let l : List ℕ = line_ends_from (suc (at + i)) (take n (drop (suc i) bs)) in
    let later : List ℕ = places_from (is_byte 10) bs (i + 1) n in
    let next : suc i ≡ i + 1 = omega arith in
    let place : suc (at + i) ≡ at + (i + 1) = omega arith in
    let rest : l ≡ map (λ p. at + p) later =
    ap₂ (λ (m k : ℕ). line_ends_from m (take n (drop k bs))) place next ∙ places_are at (i + 1) n bs (omega (arith, le)) in
    ap (line_ends_from (at + i)) (take_drop i n bs (omega (arith, le)))
    ∙ elim (slice_index bs i == 10) as (λ t. cond t ((at + i) ∷ l) l ≡ map (λ p. at + p) (cond t (i ∷ later) later)) [
      | true ↦ ap (λ (r : List ℕ). (at + i) ∷ r) rest
      | false ↦ rest
    ]

pub ends_are_places : (at : ℕ) (bs : List ℕ) → line_ends_from at bs ≡ map (λ p. at + p) (places (is_byte 10) bs)
ends_are_places at bs =
    let here : at ≡ at + 0 = omega arith in
    let size : length bs ≡ length bs - 0 = omega arith in
    ap₂ (λ (n : ℕ) (r : List ℕ). line_ends_from n r) here (sym (take_all (length bs) bs (omega arith)))
    ∙ places_are at 0 (length bs) bs (omega arith)
    ∙ ap (λ (n : ℕ). map (λ p. at + p) (places_from (is_byte 10) bs 0 n)) size
