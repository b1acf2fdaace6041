-- Places and offsets, byte by byte.
use Rattle.std.proofs.Common.{◌≡◌, ◌≢◌, ℕ, zero, suc, ◌+◌, ◌-◌, ◌*◌, ◌<◌, ◌≤◌, ◌==◌}
use Rattle.std.proofs.Common.{List, [], ◌∷◌, ◌++◌, length, take, get_or, sum_by}
use Rattle.std.proofs.Common.{Bool, true, false, not, cond, ltb, ◌&&◌, ◌||◌}
use Rattle.std.proofs.Common.{Option, Some, None, refl, sym, ap, ◌∙◌, arith, append_assoc}
use Rattle.std.proofs.lemmas.Bool.Decides.{nat_tests}
use Rattle.std.proofs.lemmas.List.Sums.{sum_by-cons}
use Rattle.std.specs.List.{slice_get}
use Rattle.std.specs.Str.{IsCharBoundary}
use Rattle.snl_place.specs.declared.places.Encoding.{Encoding}
use Rattle.snl_place.specs.declared.places.Encoding.TheVariants.{Utf8, Utf16}
use Rattle.snl_place.specs.declared.places.Place.{Place}
use Rattle.snl_place.specs.Places.{CutsNoLineEnd, IsOneLine, ends_line, offset_in, onto}
use Rattle.snl_place.specs.Places.{place_in, stops, units}
use Rattle.snl_place.proofs.LineEnds.{bit, feeds}
use Rattle.snl_facts.specs.Counts.{count_append}

-- Places with the same parts are the same.
pub same : (a b c d : ℕ) → a ≡ b → c ≡ d
    → (let p : Place = record { line = a; character = c } in p) ≡ record { line = b; character = d }
same a b c d e f =
    ap (λ (n : ℕ). let p : Place = record { line = n; character = c } in p) e
    ∙ ap (λ (n : ℕ). let p : Place = record { line = b; character = n } in p) f

-- ---- how much a place counts

-- No byte counts more than 4.
pub few_units : (encoding : Encoding) (b : ℕ) → units encoding b ≤ 4
few_units Utf8 b = grind (arith, nat_tests)
few_units Utf16 b = grind (arith, nat_tests)

-- A place counts at most four units a byte.
pub few_characters : (encoding : Encoding) (bytes : List ℕ)
    → (place_in encoding bytes).character ≤ 4 * length bytes
few_characters encoding [] = omega arith
few_characters encoding (b ∷ bytes) =
    let p : Place = place_in encoding bytes in
    few ((p.line == 0) && not (b == 10)) (units encoding b) p.character (length bytes)
    (few_units encoding b) (few_characters encoding bytes)
  where
    few : (t : Bool) (u c n : ℕ) → u ≤ 4 → c ≤ 4 * n → cond t (u + c) c ≤ 4 * suc n
    few true u c n h k = omega arith
    few false u c n h k = omega arith

-- ---- the LFs among bytes

feeds_cons : (b : ℕ) (bytes : List ℕ) → feeds (b ∷ bytes) ≡ cond (b == 10) 1 0 + feeds bytes
feeds_cons b bytes = sum_by-cons (λ (x : ℕ). cond (x == 10) 1 0) b bytes

-- A byte that is no LF counts none.
pub none_fed : (b : ℕ) → b ≢ 10 → bit (b == 10) ≡ 0
none_fed b h = grind (arith, nat_tests)

no_feed : (t : Bool) (n : ℕ) → cond t 1 0 + n ≡ 0 → (t ≡ false) × (n ≡ 0)
no_feed true n h = absurd (omega (arith, h))
no_feed false n h = (refl, omega (arith, h))

-- The line of a place is the number of the LFs before it.
pub lines_counted : (encoding : Encoding) (bytes : List ℕ)
    → (place_in encoding bytes).line ≡ feeds bytes
lines_counted encoding [] = refl
lines_counted encoding (b ∷ bytes) =
    count (b == 10) (place_in encoding bytes).line (feeds bytes) (lines_counted encoding bytes)
    ∙ sym (feeds_cons b bytes)
  where
    count : (t : Bool) (l n : ℕ) → l ≡ n → cond t (l + 1) l ≡ cond t 1 0 + n
    count true l n h = omega (arith, h)
    count false l n h = omega (arith, h)

-- ---- bytes of one line

-- The place after bytes of one line counts their units.
pub one_line : (encoding : Encoding) (bytes : List ℕ) → feeds bytes ≡ 0
    → place_in encoding bytes ≡ record { line = 0; character = sum_by (units encoding) bytes }
one_line encoding [] none = refl
one_line encoding (b ∷ bytes) none =
    let parts = no_feed (b == 10) (feeds bytes) (sym (feeds_cons b bytes) ∙ none) in
    let test : (b == 10) ≡ false = parts.0 in
    let s : ℕ = sum_by (units encoding) bytes in
    let more : units encoding b + s ≡ sum_by (units encoding) (b ∷ bytes) =
    sym (sum_by-cons (units encoding) b bytes) in
    let last : onto encoding b (record { line = 0; character = s })
    ≡ record { line = 0; character = sum_by (units encoding) (b ∷ bytes) } =
    same _ _ _ _ (rw test refl) (rw test more) in
    ap (onto encoding b) (one_line encoding bytes parts.1) ∙ last

add_units : (t : Bool) (u c s : ℕ) → cond t (u + (c + s)) (c + s) ≡ cond t (u + c) c + s
add_units true u c s = omega arith
add_units false u c s = refl

-- The place after more bytes of the same line counts their units too.
pub in_line : (encoding : Encoding) (before bytes : List ℕ) → feeds bytes ≡ 0
    → place_in encoding (before ++ bytes) ≡ record {
      line = (place_in encoding before).line;
      character = (place_in encoding before).character + sum_by (units encoding) bytes;
    }
in_line encoding [] bytes none =
    let s : ℕ = sum_by (units encoding) bytes in
    let more : s ≡ 0 + s = omega arith in
    one_line encoding bytes none ∙ same 0 0 s (0 + s) refl more
in_line encoding (x ∷ before) bytes none =
    let p : Place = place_in encoding before in
    let s : ℕ = sum_by (units encoding) bytes in
    let last : onto encoding x (record { line = p.line; character = p.character + s }) ≡ record {
      line = (onto encoding x p).line;
      character = (onto encoding x p).character + s;
    } =
    same _ _ _ _ refl
    (add_units ((p.line == 0) && not (x == 10)) (units encoding x) p.character s) in
    ap (onto encoding x) (in_line encoding before bytes none) ∙ last

-- ---- a line after others

-- A place after an LF counts no units.
after_feed : (encoding : Encoding) (before : List ℕ)
    → (place_in encoding (before ++ 10 ∷ [])).character ≡ 0
after_feed encoding [] = refl
after_feed encoding (x ∷ before) =
    let q : Place = place_in encoding (before ++ 10 ∷ []) in
    let counted : q.line ≡ feeds before + 1 =
    lines_counted encoding (before ++ 10 ∷ []) ∙ count_append (λ b. b == 10) before (10 ∷ []) in
    let some : (q.line == 0) ≡ false = grind (arith, nat_tests) in
    let rest : q.character ≡ 0 = after_feed encoding before in
    rw (some, rest) refl

-- No LF is among bytes of one line.
no_feeds_in : (bytes : List ℕ) → IsOneLine bytes → feeds bytes ≡ 0
no_feeds_in [] h = refl
no_feeds_in (b ∷ bytes) h =
    let other : b ≢ 10 = h 0 b (omega arith) in
    let here : bit (b == 10) ≡ 0 = none_fed b other in
    let rest : feeds bytes ≡ 0 = no_feeds_in bytes (λ k d lt. h (suc k) d (omega (arith, lt))) in
    omega (arith, feeds_cons b bytes, here, rest)

-- A line is counted anew after those before it.
pub new_line : (encoding : Encoding) (before bytes : List ℕ) → IsOneLine bytes
    → place_in encoding (before ++ 10 ∷ bytes) ≡ record {
      line = feeds before + 1;
      character = (place_in encoding bytes).character;
    }
new_line encoding before bytes h =
    let front : List ℕ = before ++ 10 ∷ [] in
    let p : Place = place_in encoding front in
    let s : ℕ = sum_by (units encoding) bytes in
    let none : feeds bytes ≡ 0 = no_feeds_in bytes h in
    let lines : p.line ≡ feeds before + 1 =
    lines_counted encoding front ∙ count_append (λ b. b == 10) before (10 ∷ []) in
    let inner : (place_in encoding bytes).character ≡ s =
    ap (λ (r : Place). r.character) (one_line encoding bytes none) in
    let counted : p.character + s ≡ (place_in encoding bytes).character =
    omega (arith, after_feed encoding before, inner) in
    ap (place_in encoding) (sym (append_assoc before (10 ∷ []) bytes))
    ∙ in_line encoding front bytes none
    ∙ same p.line (feeds before + 1) (p.character + s) (place_in encoding bytes).character
    lines counted

-- ---- a place, and back to its offset

-- The first byte of a character counts.
some_units : (encoding : Encoding) (b : ℕ) → (128 ≤ b → 192 ≤ b) → 0 < units encoding b
some_units Utf8 b h = grind (arith, nat_tests)
some_units Utf16 b h = grind (arith, nat_tests)

-- A place is before the first byte of a character.
stop_whole : (encoding : Encoding) (character b : ℕ) (o : Option ℕ)
    → stops encoding character b o ≡ true → 128 ≤ b → 192 ≤ b
stop_whole Utf8 character b None h = grind (arith, nat_tests)
stop_whole Utf8 character b (Some x) h = grind (arith, nat_tests)
stop_whole Utf16 character b None h = grind (arith, nat_tests)
stop_whole Utf16 character b (Some x) h = grind (arith, nat_tests)

-- An LF counts a line.
first_feed : (encoding : Encoding) (k : ℕ) (bytes : List ℕ) → 0 < k
    → slice_get bytes 0 ≡ Some 10 → 0 < (place_in encoding (take k bytes)).line
first_feed encoding zero bytes h e = absurd (omega arith)
first_feed encoding (suc k) [] h e = absurd (let no : None ≡ Some 10 = e in cc)
first_feed encoding (suc k) (b ∷ bytes) h e = let is : b ≡ 10 = cc in grind (arith, nat_tests)

-- One step back.
step : (l c u k : ℕ) (feed ends : Bool) (O : ℕ → ℕ → ℕ) → O l c ≡ k
    → (l ≡ 0 → feed ≡ false → ends ≡ false)
    → cond
    (cond feed (l + 1) l == 0)
    (cond
    (ltb (cond ((l == 0) && not feed) (u + c) c) u || ends)
    0
    (1 + O 0 (cond ((l == 0) && not feed) (u + c) c - u)))
    (1 + O
    (cond feed (cond feed (l + 1) l - 1) (cond feed (l + 1) l))
    (cond ((l == 0) && not feed) (u + c) c))
    ≡ suc k
step zero c u k false ends O is un =
    let e : ends ≡ false = un refl refl in
    let f : ltb (u + c) u ≡ false = grind (arith, nat_tests) in
    let g : u + c - u ≡ c = omega arith in
    rw (f, e, g, is) (omega arith)
step (suc l) c u k false ends O is un =
    let f : (suc l == 0) ≡ false = grind (arith, nat_tests) in
    rw (f, is) (omega arith)
step zero c u k true ends O is un = rw is (omega arith)
step (suc l) c u k true ends O is un =
    let f : (suc l + 1 == 0) ≡ false = grind (arith, nat_tests) in
    let h : (suc l == 0) ≡ false = grind (arith, nat_tests) in
    let g : suc l + 1 - 1 ≡ suc l = omega arith in
    rw (f, h, g, is) (omega arith)

-- Where no line's end is cut and no line has ended before, none ends here.
ends_none : (encoding : Encoding) (b : ℕ) (bytes : List ℕ) (o : ℕ)
    → CutsNoLineEnd (b ∷ bytes) (suc o) → (place_in encoding (take o bytes)).line ≡ 0
    → (b == 10) ≡ false → ends_line b (slice_get bytes 0) ≡ false
ends_none encoding b [] o between l f = f
ends_none encoding b (x ∷ bytes) zero between l f =
    let other : b ≡ 13 → x ≢ 10 = λ e g. between 0 refl (ap Some e) (ap Some g) in
    grind (arith, nat_tests)
ends_none encoding b (x ∷ bytes) (suc o) between l f =
    let feed : x ≡ 10 → 0 < (place_in encoding (take (suc o) (x ∷ bytes))).line =
    λ e. first_feed encoding (suc o) (x ∷ bytes) (omega arith) (ap Some e) in
    let other : x ≢ 10 = λ e. absurd (let some = feed e in omega (arith, some, l)) in
    grind (arith, nat_tests)

pub back : (encoding : Encoding) (bytes : List ℕ) (o : ℕ) → o ≤ length bytes
    → (o < length bytes → 128 ≤ get_or bytes o 0 → 192 ≤ get_or bytes o 0)
    → CutsNoLineEnd bytes o
    → offset_in encoding (place_in encoding (take o bytes)).line
    (place_in encoding (take o bytes)).character bytes ≡ o
back encoding [] zero within whole between = refl
back encoding [] (suc o) within whole between = absurd (omega arith)
back encoding (b ∷ bytes) zero within whole between =
    let some : 0 < units encoding b = some_units encoding b (whole (omega arith)) in
    let first : ltb 0 (units encoding b) ≡ true = grind (arith, nat_tests) in
    rw first refl
back encoding (b ∷ bytes) (suc o) within whole between =
    let p : Place = place_in encoding (take o bytes) in
    let before : offset_in encoding p.line p.character bytes ≡ o =
    back encoding bytes o (omega arith) (λ h. whole (omega arith))
    (λ i e f. between (suc i) (omega arith) f) in
    step p.line p.character (units encoding b) o (b == 10) (ends_line b (slice_get bytes 0))
    (λ x y. offset_in encoding x y bytes) before (ends_none encoding b bytes o between)

-- ---- an offset is where a character begins, or the text ends

one_on : (b : ℕ) (bytes : List ℕ) (n : ℕ) → IsCharBoundary bytes n
    → IsCharBoundary (b ∷ bytes) (1 + n)
one_on b bytes n h =
    let e : 1 + n ≡ suc n = omega arith in
    let within : n ≤ length bytes = h.0 in
    rw e (omega arith, λ k. h.1 (omega (arith, k)))

pub place_whole : (encoding : Encoding) (line character : ℕ) (bytes : List ℕ)
    → IsCharBoundary bytes (offset_in encoding line character bytes)
place_whole encoding line character [] = (omega arith, λ h. absurd (omega (arith, h)))
place_whole encoding line character (b ∷ bytes) =
    at (place_whole encoding 0 (character - units encoding b) bytes)
    (place_whole encoding (cond (b == 10) (line - 1) line) character bytes)
    (line == 0) (stops encoding character b (slice_get bytes 0)) refl
  where
    at : IsCharBoundary bytes (offset_in encoding 0 (character - units encoding b) bytes)
        → IsCharBoundary bytes (offset_in encoding (cond (b == 10) (line - 1) line) character bytes)
        → (zeroth stop : Bool) → stops encoding character b (slice_get bytes 0) ≡ stop
        → IsCharBoundary (b ∷ bytes) (cond
        zeroth
        (cond stop 0 (1 + offset_in encoding 0 (character - units encoding b) bytes))
        (1 + offset_in encoding (cond (b == 10) (line - 1) line) character bytes))
    at p q true true e = (omega arith, λ k. stop_whole encoding character b (slice_get bytes 0) e)
    at p q true false e = one_on b bytes _ p
    at p q false stop e = one_on b bytes _ q
