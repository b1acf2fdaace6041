-- Offsets rise with places, and cut no line's end.
use Rattle.std.proofs.Common.{◌≡◌, ◌≢◌, ℕ, zero, suc, ◌+◌, ◌-◌, ◌<◌, ◌≤◌, ◌==◌, inl, inr, ◌⊎◌}
use Rattle.std.proofs.Common.{Bool, true, false, cond, ltb, ◌&&◌, ◌||◌, List, [], ◌∷◌}
use Rattle.std.proofs.Common.{drop, sum_by, take}
use Rattle.std.proofs.Common.{Option, Some, None, refl, sym, ap, ◌∙◌, arith}
use Rattle.std.proofs.lemmas.Bool.Decides.{nat_tests}
use Rattle.std.specs.List.{slice_get}
use Rattle.snl_place.specs.declared.places.Encoding.{Encoding}
use Rattle.snl_place.specs.declared.places.Place.{Place}
use Rattle.snl_place.specs.Places.{CutsNoLineEnd, IsNotAfter, ends_line, offset_in, place_in}
use Rattle.snl_place.specs.Places.{stops, units}
use Rattle.snl_place.proofs.LineEnds.{feeds, two_takes}
use Rattle.snl_place.proofs.Walks.{in_line, lines_counted}
use Rattle.std.proofs.lemmas.Bool.{cases_lt}
use Rattle.snl_facts.specs.Counts.{count_append}
use Rattle.std.proofs.Math.Bool.{or-true}

-- ---- an earlier offset has no later place

pub places_in_order : (encoding : Encoding) (text : List ℕ) (from to : ℕ) → from ≤ to
    → IsNotAfter (place_in encoding (take from text)) (place_in encoding (take to text))
places_in_order encoding text from to le =
    let part : List ℕ = take (to - from) (drop from text) in
    let p : Place = place_in encoding (take from text) in
    let q : Place = place_in encoding (take to text) in
    let two = two_takes text from to le in
    let parts : feeds (take to text) ≡ feeds (take from text) + feeds part =
    ap feeds two ∙ count_append (λ b. b == 10) (take from text) part in
    let l : p.line ≡ feeds (take from text) = lines_counted encoding (take from text) in
    let m : q.line ≡ feeds (take to text) = lines_counted encoding (take to text) in
    elim (cases_lt 0 (feeds part)) [
      | inl some ↦ inl (omega (arith, l, m, parts, some))
      | inr few ↦
          let none : feeds part ≡ 0 = omega (arith, few) in
          let s : ℕ = sum_by (units encoding) part in
          let joined : q ≡ record { line = p.line; character = p.character + s } =
          ap (place_in encoding) two ∙ in_line encoding (take from text) part none in
          let counted : q.character ≡ p.character + s = ap (λ (r : Place). r.character) joined in
          inr (sym (ap (λ (r : Place). r.line) joined), omega (arith, counted))
    ]

-- ---- later places have no earlier offsets

-- So many lines and units are not after so many others.
abbrev pub IsInOrder : (l c m d : ℕ) → Type 0
IsInOrder l c m d = (l < m) ⊎ ((l ≡ m) × (c ≤ d))

-- Where more units end at a byte, fewer do too.
more_stops : (c d u : ℕ) (ends : Bool) → c ≤ d → (ltb d u || ends) ≡ true → (ltb c u || ends) ≡ true
more_stops c d u true le h = or-true (ltb c u)
more_stops c d u false le h = grind (arith, nat_tests)

-- At an LF any units end.
feed_stops : (encoding : Encoding) (c b : ℕ) (next : Option ℕ) → (b == 10) ≡ true
    → stops encoding c b next ≡ true
feed_stops encoding c b None e = ap (λ t. ltb c (units encoding b) || t) e ∙ or-true _
feed_stops encoding c b (Some x) e =
    ap (λ t. ltb c (units encoding b) || (t || ((b == 13) && (x == 10)))) e ∙ or-true _

both_stop : (s t : Bool) (x y : ℕ) → (t ≡ true → s ≡ true) → x ≤ y
    → cond s 0 (1 + x) ≤ cond t 0 (1 + y)
both_stop true t x y h le = omega arith
both_stop false false x y h le = omega (arith, le)
both_stop false true x y h le = absurd (let no : false ≡ true = h refl in cc)

one_stops : (s : Bool) (x y : ℕ) → x ≤ y → cond s 0 (1 + x) ≤ 1 + y
one_stops true x y le = omega arith
one_stops false x y le = omega (arith, le)

later_line : (encoding : Encoding) (b : ℕ) (next : Option ℕ) (c d m : ℕ) (O : ℕ → ℕ → ℕ)
    (feed : Bool) → (b == 10) ≡ feed → O 0 (c - units encoding b) ≤ O (suc m) d
    → cond (stops encoding c b next) 0 (1 + O 0 (c - units encoding b))
    ≤ 1 + O (cond feed (suc m - 1) (suc m)) d
later_line encoding b next c d m O true e le = rw (feed_stops encoding c b next e) (omega arith)
later_line encoding b next c d m O false e le = one_stops (stops encoding c b next) _ _ le

fewer_lines : (feed : Bool) (l c m d : ℕ) → IsInOrder (suc l) c (suc m) d
    → IsInOrder (cond feed (suc l - 1) (suc l)) c (cond feed (suc m - 1) (suc m)) d
fewer_lines true l c m d (inl h) = inl (omega (arith, h))
fewer_lines true l c m d (inr h) = inr (omega (arith, h.0), h.1)
fewer_lines false l c m d h = h

first_line : (c d : ℕ) → IsInOrder 0 c 0 d → c ≤ d
first_line c d (inl h) = absurd (omega (arith, h))
first_line c d (inr h) = h.1

no_order : (l c d : ℕ) → IsInOrder (suc l) c 0 d → ⊥
no_order l c d (inl h) = omega (arith, h)
no_order l c d (inr h) = omega (arith, h.0)

one_more : (x y : ℕ) → x ≤ y → 1 + x ≤ 1 + y
one_more x y le = omega (arith, le)

pub rising : (encoding : Encoding) (bytes : List ℕ) (l c m d : ℕ) → IsInOrder l c m d
    → offset_in encoding l c bytes ≤ offset_in encoding m d bytes
rising encoding [] l c m d order = omega arith
rising encoding (b ∷ bytes) zero c zero d order =
    let u : ℕ = units encoding b in
    let next : Option ℕ = slice_get bytes 0 in
    let le : c ≤ d = first_line c d order in
    let less : c - u ≤ d - u = omega (arith, le) in
    both_stop (stops encoding c b next) (stops encoding d b next) _ _
    (more_stops c d u (ends_line b next) le)
    (rising encoding bytes 0 (c - u) 0 (d - u) (inr (refl, less)))
rising encoding (b ∷ bytes) zero c (suc m) d order =
    let test : (suc m == 0) ≡ false = grind (arith, nat_tests) in
    let later : 0 < suc m = omega arith in
    rw test
    (later_line encoding b (slice_get bytes 0) c d m (λ x y. offset_in encoding x y bytes)
    (b == 10) refl (rising encoding bytes 0 (c - units encoding b) (suc m) d (inl later)))
rising encoding (b ∷ bytes) (suc l) c zero d order = absurd (no_order l c d order)
rising encoding (b ∷ bytes) (suc l) c (suc m) d order =
    let one : (suc l == 0) ≡ false = grind (arith, nat_tests) in
    let other : (suc m == 0) ≡ false = grind (arith, nat_tests) in
    let feed : Bool = b == 10 in
    rw (one, other)
    (one_more _ _
    (rising encoding bytes (cond feed (suc l - 1) (suc l)) c (cond feed (suc m - 1) (suc m)) d
    (fewer_lines feed l c m d order)))

-- ---- no offset is between a CR and its LF

-- What `CutsNoLineEnd` says of an offset one further on.
cut_on : (b : ℕ) (bytes : List ℕ) (o : ℕ) → (o ≡ 0 → b ≡ 13 → slice_get bytes 0 ≢ Some 10)
    → CutsNoLineEnd bytes o → CutsNoLineEnd (b ∷ bytes) (suc o)
cut_on b bytes zero first rest zero e f g = first refl (let is : Some b ≡ Some 13 = f in cc) g
cut_on b bytes zero first rest (suc i) e f g = absurd (omega (arith, e))
cut_on b bytes (suc o) first rest zero e f g = absurd (omega (arith, e))
cut_on b bytes (suc o) first rest (suc i) e f g = rest i (omega (arith, e)) f g

one_cut : (b : ℕ) (bytes : List ℕ) (o : ℕ) → (o ≡ 0 → b ≡ 13 → slice_get bytes 0 ≢ Some 10)
    → CutsNoLineEnd bytes o → CutsNoLineEnd (b ∷ bytes) (1 + o)
one_cut b bytes o first rest =
    let next : 1 + o ≡ suc o = omega arith in
    rw next (cut_on b bytes o first rest)

cut_first : (bytes : List ℕ) → CutsNoLineEnd bytes 0
cut_first bytes i e f g = absurd (omega (arith, e))

-- A CR with an LF after it ends its line.
return_ends : (b : ℕ) (bytes : List ℕ) → b ≡ 13 → slice_get bytes 0 ≡ Some 10
    → ends_line b (slice_get bytes 0) ≡ true
return_ends b [] is h = absurd (let no : None ≡ Some 10 = h in cc)
return_ends b (x ∷ bytes) is h =
    let feed : x ≡ 10 = (let e : Some x ≡ Some 10 = h in cc) in
    grind (arith, nat_tests)

no_feed : (b : ℕ) → b ≡ 13 → (b == 10) ≡ false
no_feed b is = grind (arith, nat_tests)

-- An LF is before what is in a later line.
after_feed : (encoding : Encoding) (l c : ℕ) (bytes : List ℕ) → slice_get bytes 0 ≡ Some 10
    → offset_in encoding (suc l) c bytes ≢ 0
after_feed encoding l c [] h e = absurd (let no : None ≡ Some 10 = h in cc)
after_feed encoding l c (x ∷ bytes) h e =
    let test : (suc l == 0) ≡ false = grind (arith, nat_tests) in
    let some : 1 + offset_in encoding (cond (x == 10) (suc l - 1) (suc l)) c bytes ≡ 0 =
    rw test at e in
    absurd (omega (arith, some))

-- An offset in the first line.
cut_line : (encoding : Encoding) (b c o : ℕ) (bytes : List ℕ) (stop : Bool)
    → stops encoding c b (slice_get bytes 0) ≡ stop → CutsNoLineEnd bytes o
    → CutsNoLineEnd (b ∷ bytes) (cond stop 0 (1 + o))
cut_line encoding b c o bytes true e rest = cut_first (b ∷ bytes)
cut_line encoding b c o bytes false e rest =
    let t : Bool = ltb c (units encoding b) in
    let first : o ≡ 0 → b ≡ 13 → slice_get bytes 0 ≢ Some 10 = λ none is feed.
    let ends : stops encoding c b (slice_get bytes 0) ≡ true =
    ap (λ x. t || x) (return_ends b bytes is feed) ∙ or-true t in
    let no : true ≡ false = sym ends ∙ e in
    cc in
    one_cut b bytes o first rest

pub no_cut : (encoding : Encoding) (bytes : List ℕ) (l c : ℕ)
    → CutsNoLineEnd bytes (offset_in encoding l c bytes)
no_cut encoding [] l c = cut_first []
no_cut encoding (b ∷ bytes) zero c =
    cut_line encoding b c (offset_in encoding 0 (c - units encoding b) bytes) bytes
    (stops encoding c b (slice_get bytes 0)) refl (no_cut encoding bytes 0 (c - units encoding b))
no_cut encoding (b ∷ bytes) (suc l) c =
    let test : (suc l == 0) ≡ false = grind (arith, nat_tests) in
    let m : ℕ = cond (b == 10) (suc l - 1) (suc l) in
    let first : offset_in encoding m c bytes ≡ 0 → b ≡ 13 → slice_get bytes 0 ≢ Some 10 =
    λ none is feed.
    let other : (b == 10) ≡ false = no_feed b is in
    after_feed encoding l c bytes feed (rw other at none) in
    rw test (one_cut b bytes (offset_in encoding m c bytes) first (no_cut encoding bytes m c))
