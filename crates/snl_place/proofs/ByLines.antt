-- Places and offsets by line ends.
use Rattle.std.proofs.Common.{◌≡◌, ◌==◌, ℕ, zero, suc, ◌+◌, ◌-◌, ◌<◌, ◌≤◌, inl, inr}
use Rattle.std.proofs.Common.{Bool, true, false, cond, nat_lt, sum_by}
use Rattle.std.proofs.Common.{List, [], ◌∷◌, length, take, drop, get_or}
use Rattle.std.proofs.Common.{refl, sym, ap, ap₂, ◌∙◌, arith}
use Rattle.std.proofs.lemmas.Bool.Decides.{nat_tests}
use Rattle.snl_lex.specs.LineList.{line_begin, line_ends, line_ends_from}
use Rattle.snl_place.specs.declared.places.Encoding.{Encoding}
use Rattle.snl_place.specs.declared.places.Encoding.TheVariants.{Utf8}
use Rattle.snl_place.specs.declared.places.Place.{Place}
use Rattle.snl_place.specs.Places.{offset_in, onto, place_in, units}
use Rattle.snl_place.proofs.LineEnds.{begin_below, begin_from, begin_is, below_is}
use Rattle.snl_place.proofs.LineEnds.{no_feeds}
use Rattle.snl_place.proofs.LineEnds.{IsEnded, not_ended, two_takes}
use Rattle.snl_place.proofs.Walks.{in_line, lines_counted, one_line, same}
use Rattle.std.proofs.Math.Seq.{take-nil}
use Rattle.snl_lex.specs.LineLaws.{below, below_none, ends_climb}
use Rattle.std.proofs.lemmas.Bool.{cases_lt, lt-ltb}
use Rattle.snl_facts.specs.Counts.{count_yes}

-- ---- the place of an offset is in the line that begins before it

-- The place after the bytes from one offset up to another; the first byte's offset is `at`.
abbrev pub part_place : Encoding → (at begin o : ℕ) → List ℕ → Place
part_place encoding at begin o bs = place_in encoding (take (o - begin) (drop (begin - at) bs))

pub record IsBy (encoding : Encoding) (at : ℕ) (bs es : List ℕ) (o count : ℕ) (p : Place)
    : Type 0 where
  pub line : p.line ≡ count
  pub character : p.character ≡ (part_place encoding at (begin_from at es count) o bs).character
  pub order : begin_from at es count ≤ o
  pub from : at ≤ begin_from at es count

by_step : (encoding : Encoding) (b at o : ℕ) (bs es : List ℕ) (count : ℕ) (feed : Bool)
    → suc at ≤ o → (b == 10) ≡ feed
    → IsBy encoding (suc at) bs es o count (place_in encoding (take (o - suc at) bs))
    → IsBy encoding at (b ∷ bs) (cond feed (at ∷ es) es) o (cond feed (suc count) count)
    (onto encoding b (place_in encoding (take (o - suc at) bs)))
by_step encoding b at o bs es zero true le e h =
    let p : Place = place_in encoding (take (o - suc at) bs) in
    let l : p.line ≡ 0 = h.line in
    let n : suc at - at ≡ 1 = omega arith in
    record {
      line = rw e (omega (arith, l));
      character = rw (l, e, n) refl;
      order = omega (arith, le);
      from = omega arith;
    }
by_step encoding b at o bs es (suc k) true le e h =
    let p : Place = place_in encoding (take (o - suc at) bs) in
    let l : p.line ≡ suc k = h.line in
    let some : (suc k == 0) ≡ false = grind (arith, nat_tests) in
    let n : suc (get_or es k 0) - at ≡ suc (suc (get_or es k 0) - suc at) =
    omega (arith, h.from) in
    record {
      line = rw e (omega (arith, l));
      character = rw (l, some, n) h.character;
      order = h.order;
      from = omega (arith, h.from);
    }
by_step encoding b at o bs es zero false le e h =
    let p : Place = place_in encoding (take (o - suc at) bs) in
    let l : p.line ≡ 0 = h.line in
    let n : at - at ≡ 0 = omega arith in
    let m : o - at ≡ suc (o - suc at) = omega (arith, le) in
    record {
      line = rw e (omega (arith, l));
      character = rw (n, m) refl;
      order = omega (arith, le);
      from = omega arith;
    }
by_step encoding b at o bs es (suc k) false le e h =
    let p : Place = place_in encoding (take (o - suc at) bs) in
    let l : p.line ≡ suc k = h.line in
    let some : (suc k == 0) ≡ false = grind (arith, nat_tests) in
    let n : suc (get_or es k 0) - at ≡ suc (suc (get_or es k 0) - suc at) =
    omega (arith, h.from) in
    record {
      line = rw e (omega (arith, l));
      character = rw (l, some, n) h.character;
      order = h.order;
      from = omega (arith, h.from);
    }

count_step : (at o : ℕ) (es : List ℕ) (feed : Bool) → at < o
    → below o (cond feed (at ∷ es) es) ≡ cond feed (suc (below o es)) (below o es)
count_step at o es true lt = count_yes (λ e. nat_lt e o) at es (lt-ltb at o lt)
count_step at o es false lt = refl

by_zero : (encoding : Encoding) (at o : ℕ) (bs es : List ℕ) → at ≤ o
    → (place_in encoding (take (o - at) bs)).line ≡ 0
    → IsBy encoding at bs es o 0 (place_in encoding (take (o - at) bs))
by_zero encoding at o bs es le l =
    let n : at - at ≡ 0 = omega arith in
    record { line = l; character = rw n refl; order = le; from = omega arith }

by_ends : (encoding : Encoding) (at : ℕ) (bs : List ℕ) (o : ℕ) → at ≤ o
    → IsBy encoding at bs (line_ends_from at bs) o (below o (line_ends_from at bs))
    (place_in encoding (take (o - at) bs))
by_ends encoding at [] o le = by_zero encoding at o [] [] le (rw (take-nil (o - at)) refl)
by_ends encoding at (b ∷ bs) o le =
    elim (cases_lt at o) [
      | inl less ↦
          let es : List ℕ = line_ends_from (suc at) bs in
          let m : o - at ≡ suc (o - suc at) = omega (arith, less) in
          let here = by_step encoding b at o bs es (below o es) (b == 10) (omega (arith, less)) refl
          (by_ends encoding (suc at) bs o (omega (arith, less))) in
          rw (m, count_step at o es (b == 10) less) here
      | inr more ↦
          let es : List ℕ = line_ends_from at (b ∷ bs) in
          let none : below o es ≡ 0 = below_none at o es (ends_climb at (b ∷ bs)) more in
          let m : o - at ≡ 0 = omega (arith, more) in
          rw none (by_zero encoding at o (b ∷ bs) es le (rw m refl))
    ]

-- A line begins before what is in it.
pub by_begins : (text : List ℕ) (offset : ℕ)
    → begin_from 0 (line_ends text) (below offset (line_ends text)) ≤ offset
by_begins text offset = (by_ends Utf8 0 text offset (omega arith)).order

-- The place of an offset is in the last line that begins before it, and counts units from there.
pub placed : (encoding : Encoding) (text : List ℕ) (offset line begin character : ℕ)
    → line ≡ below offset (line_ends text) → begin ≡ line_begin (line_ends text) line
    → character ≡ sum_by (units encoding) (take (offset - begin) (drop begin text))
    → (let r : Place = record { line = line; character = character } in r)
    ≡ place_in encoding (take offset text)
placed encoding text offset line begin character count from is =
    let es : List ℕ = line_ends text in
    let h = by_ends encoding 0 text offset (omega arith) in
    let B : ℕ = begin_from 0 es (below offset es) in
    let begins : begin ≡ B = from ∙ ap (line_begin es) count ∙ begin_is es (below offset es) in
    let whole : offset - 0 ≡ offset = omega arith in
    let none : B - 0 ≡ B = omega arith in
    let part : List ℕ = take (offset - B) (drop B text) in
    let order : B ≤ offset = by_begins text offset in
    let as_many : below B es ≡ below offset es = begin_below text offset in
    let few : below offset es ≤ below B es = omega (arith, as_many) in
    let one = one_line encoding part (no_feeds text B offset order few) in
    let counted : character ≡ (place_in encoding part).character =
    is ∙ ap (λ (n : ℕ). sum_by (units encoding) (take (offset - n) (drop n text))) begins
    ∙ sym (ap (λ (p : Place). p.character) one) in
    let all : Place = place_in encoding (take offset text) in
    let told : (place_in encoding part).character ≡ all.character =
    ap (λ (n : ℕ). (place_in encoding (take (offset - B) (drop n text))).character) (sym none)
    ∙ sym h.character
    ∙ ap (λ (n : ℕ). (place_in encoding (take n text)).character) whole in
    let lines : line ≡ all.line =
    count ∙ sym h.line ∙ ap (λ (n : ℕ). (place_in encoding (take n text)).line) whole in
    same line all.line character all.character lines (counted ∙ told)

-- ---- a place from an earlier one in its line

-- Where its line has not ended before an offset, the place of that counts the units up to there.
pub went_on : (encoding : Encoding) (text : List ℕ) (from to : ℕ) (earlier : Place) (more : ℕ)
    → from ≤ to → earlier ≡ place_in encoding (take from text)
    → (IsEnded (line_ends text) earlier.line to → ⊥)
    → more ≡ sum_by (units encoding) (take (to - from) (drop from text))
    → (let r : Place = record { line = earlier.line; character = earlier.character + more } in r)
    ≡ place_in encoding (take to text)
went_on encoding text from to earlier more le is none counts =
    let es : List ℕ = line_ends text in
    let part : List ℕ = take (to - from) (drop from text) in
    let p : Place = place_in encoding (take from text) in
    let line : earlier.line ≡ p.line = ap (λ (q : Place). q.line) is in
    let character : earlier.character ≡ p.character = ap (λ (q : Place). q.character) is in
    let ended : p.line ≡ below from es =
    lines_counted encoding (take from text) ∙ sym (below_is text from) in
    let few : below to es ≤ below from es =
    omega (arith, not_ended text earlier.line to none, line, ended) in
    let joined : place_in encoding (take to text)
    ≡ record { line = p.line; character = p.character + sum_by (units encoding) part } =
    ap (place_in encoding) (two_takes text from to le)
    ∙ in_line encoding (take from text) part (no_feeds text from to le few) in
    same earlier.line p.line (earlier.character + more)
    (p.character + sum_by (units encoding) part) line
    (ap₂ (λ (x y : ℕ). x + y) character counts)
    ∙ sym joined

-- ---- offsets

-- The offset among the bytes from an offset on; the first byte's offset is `at`.
abbrev pub part_offset : Encoding → (at begin character : ℕ) → List ℕ → ℕ
part_offset encoding at begin character bs = offset_in encoding 0 character (drop (begin - at) bs)

pub record IsAtLine (encoding : Encoding) (at : ℕ) (bs es : List ℕ) (line character : ℕ)
    : Type 0 where
  pub offset : offset_in encoding line character bs
      ≡ (begin_from at es line - at) + part_offset encoding at (begin_from at es line) character bs
  pub from : at ≤ begin_from at es line

at_first : (encoding : Encoding) (at : ℕ) (bs es : List ℕ) (character : ℕ)
    → IsAtLine encoding at bs es 0 character
at_first encoding at bs es character =
    let n : at - at ≡ 0 = omega arith in
    record { offset = rw n (omega arith); from = omega arith }

begin_after : (at : ℕ) (es : List ℕ) (l : ℕ)
    → begin_from at (at ∷ es) (suc l) ≡ begin_from (suc at) es l
begin_after at es zero = refl
begin_after at es (suc k) = refl

at_step : (encoding : Encoding) (b at : ℕ) (bs es : List ℕ) (l character : ℕ) (feed : Bool)
    → (b == 10) ≡ feed → IsAtLine encoding (suc at) bs es (cond feed l (suc l)) character
    → IsAtLine encoding at (b ∷ bs) (cond feed (at ∷ es) es) (suc l) character
at_step encoding b at bs es l character true e h =
    let some : (suc l == 0) ≡ false = grind (arith, nat_tests) in
    let less : suc l - 1 ≡ l = omega arith in
    let n : begin_from (suc at) es l - at ≡ suc (begin_from (suc at) es l - suc at) =
    omega (arith, h.from) in
    let is = begin_after at es l in
    record {
      offset = rw (some, e, less, is, n) (omega (arith, h.offset));
      from = rw is (omega (arith, h.from));
    }
at_step encoding b at bs es l character false e h =
    let some : (suc l == 0) ≡ false = grind (arith, nat_tests) in
    let n : suc (get_or es l 0) - at ≡ suc (suc (get_or es l 0) - suc at) =
    omega (arith, h.from) in
    record {
      offset = rw (some, e, n) (omega (arith, h.offset));
      from = omega (arith, h.from);
    }

rest_counts : (at : ℕ) (es : List ℕ) (l : ℕ) (feed : Bool)
    → suc l ≤ length (cond feed (at ∷ es) es) → cond feed l (suc l) ≤ length es
rest_counts at es l true h = omega (arith, h)
rest_counts at es l false h = h

by_line : (encoding : Encoding) (at : ℕ) (bs : List ℕ) (line character : ℕ)
    → line ≤ length (line_ends_from at bs)
    → IsAtLine encoding at bs (line_ends_from at bs) line character
by_line encoding at bs zero character le = at_first encoding at bs (line_ends_from at bs) character
by_line encoding at [] (suc l) character le = absurd (omega (arith, le))
by_line encoding at (b ∷ bs) (suc l) character le =
    let es : List ℕ = line_ends_from (suc at) bs in
    at_step encoding b at bs es l character (b == 10) refl
    (by_line encoding (suc at) bs (cond (b == 10) l (suc l)) character
    (rest_counts at es l (b == 10) le))

-- The offset of a place, by that in its line.
pub found_at : (encoding : Encoding) (text : List ℕ) (line character begin inner : ℕ)
    → line ≤ length (line_ends text) → begin ≡ line_begin (line_ends text) line
    → inner ≡ offset_in encoding 0 character (drop begin text)
    → begin + inner ≡ offset_in encoding line character text
found_at encoding text line character begin inner le from is =
    let es : List ℕ = line_ends text in
    let B : ℕ = begin_from 0 es line in
    let h = by_line encoding 0 text line character le in
    let b : begin ≡ B = from ∙ begin_is es line in
    let none : B - 0 ≡ B = omega arith in
    let there : offset_in encoding 0 character (drop (B - 0) text) ≡ inner =
    ap (λ (n : ℕ). offset_in encoding 0 character (drop n text)) (none ∙ sym b) ∙ sym is in
    sym (h.offset ∙ ap₂ (λ (x y : ℕ). x + y) (none ∙ sym b) there)

rest_passes : (at : ℕ) (es : List ℕ) (l : ℕ) (feed : Bool)
    → length (cond feed (at ∷ es) es) < suc l → length es < cond feed l (suc l)
rest_passes at es l true h = omega (arith, h)
rest_passes at es l false h = h

past_step : (encoding : Encoding) (b : ℕ) (bs : List ℕ) (l character : ℕ) (feed : Bool)
    → (b == 10) ≡ feed → offset_in encoding (cond feed l (suc l)) character bs ≡ length bs
    → offset_in encoding (suc l) character (b ∷ bs) ≡ suc (length bs)
past_step encoding b bs l character true e h =
    let some : (suc l == 0) ≡ false = grind (arith, nat_tests) in
    let less : suc l - 1 ≡ l = omega arith in
    rw (some, e, less) (omega (arith, h))
past_step encoding b bs l character false e h =
    let some : (suc l == 0) ≡ false = grind (arith, nat_tests) in
    rw (some, e) (omega (arith, h))

-- A line that isn't there is at the end.
pub past_lines : (encoding : Encoding) (at : ℕ) (bs : List ℕ) (line character : ℕ)
    → length (line_ends_from at bs) < line → offset_in encoding line character bs ≡ length bs
past_lines encoding at [] line character h = refl
past_lines encoding at (b ∷ bs) zero character h = absurd (omega (arith, h))
past_lines encoding at (b ∷ bs) (suc l) character h =
    let es : List ℕ = line_ends_from (suc at) bs in
    past_step encoding b bs l character (b == 10) refl
    (past_lines encoding (suc at) bs (cond (b == 10) l (suc l)) character
    (rest_passes at es l (b == 10) h))
