-- Steps along bytes that are shown, and bytes put again and again.
use Rattle.std.proofs.Common.{◌≡◌, ℕ, zero, suc, ◌+◌, ◌-◌, ◌<◌, List, [], ◌∷◌, ◌++◌, length, drop, Option, refl, sym, ap, ◌∙◌, append_assoc, arith, get_or, add-zero}
use Rattle.std.specs.Prelude.{encode_utf8_all, replicate}
use Rattle.std.proofs.Math.Seq.{drop-cons}
use Rattle.std.proofs.lemmas.List.{replicate-append-replicate}
use Rattle.std.proofs.lemmas.List.Sums.{sum_by-append}
use Rattle.std.proofs.lemmas.Str.{encodes-append}
use Rattle.snl_excerpt.specs.declared.glyph.Pen.{Pen}
use Rattle.bstr.specs.Utf8.{decoded}
use Rattle.snl_excerpt.specs.Glyphs.{glyph_of, text_width, width_of}
use Rattle.snl_excerpt.specs.Lines.{pen_after, pen_as, pen_by, put_at, put_by, shown, tail_of}

-- ---- a byte that is put so many times

pub one_time_more : (out old new : List ℕ) (count byte : ℕ) → old ≡ out ++ replicate count byte → new ≡ old ++ byte ∷ [] → new ≡ out ++ replicate (count + 1) byte
one_time_more out old new count byte h e =
    e ∙ ap (λ (l : List ℕ). l ++ byte ∷ []) h ∙ append_assoc out (replicate count byte) (byte ∷ [])
    ∙ ap (λ (l : List ℕ). out ++ l) (replicate-append-replicate count 1 byte)

-- ---- bytes that are shown

-- the first of some bytes, and those after it
step : (count rest : ℕ) (pen : Pen) (bytes more : List ℕ) (b : ℕ) → count ≡ suc rest → bytes ≡ b ∷ more → shown count pen bytes ≡ put_at pen bytes ++ shown rest (pen_after pen bytes) more
step count rest pen bytes more b c h = rw (c, h) refl

pub shown_step : (count at : ℕ) (pen : Pen) (bytes : List ℕ) → at < count → at < length bytes → shown (count - at) pen (drop at bytes) ≡ put_at pen (drop at bytes) ++ shown (count - (at + 1)) (pen_after pen (drop at bytes)) (drop (at + 1) bytes)
shown_step count at pen bytes more inside =
    let next : drop at bytes ≡ get_or bytes at 0 ∷ drop (suc at) bytes = drop-cons bytes at 0 inside in
    let one : suc at ≡ at + 1 = omega arith in
    let same : drop (suc at) bytes ≡ drop (at + 1) bytes = ap (λ (n : ℕ). drop n bytes) one in
    step (count - at) (count - (at + 1)) pen (drop at bytes) (drop (at + 1) bytes) (get_or bytes at 0) (omega arith) (next ∙ ap (λ (l : List ℕ). get_or bytes at 0 ∷ l) same)

-- one byte more was shown
pub shown_more : (old new all bytes rest : List ℕ) (count at : ℕ) (pen after : Pen) → at < count → at < length bytes → rest ≡ drop at bytes → new ≡ old ++ encode_utf8_all (put_at pen rest) → after ≡ pen_after pen rest → old ++ encode_utf8_all (shown (count - at) pen (drop at bytes)) ≡ all → new ++ encode_utf8_all (shown (count - (at + 1)) after (drop (at + 1) bytes)) ≡ all
shown_more old new all bytes rest count at pen after more inside here_is put pen_is h =
    let left : List ℕ = shown (count - (at + 1)) (pen_after pen (drop at bytes)) (drop (at + 1) bytes) in
    let here : List ℕ = put_at pen (drop at bytes) in
    let both : encode_utf8_all (shown (count - at) pen (drop at bytes)) ≡ encode_utf8_all here ++ encode_utf8_all left = ap encode_utf8_all (shown_step count at pen bytes more inside) ∙ encodes-append here left in
    ap (λ (p : Pen). new ++ encode_utf8_all (shown (count - (at + 1)) p (drop (at + 1) bytes))) (pen_is ∙ ap (pen_after pen) here_is)
    ∙ ap (λ (l : List ℕ). l ++ encode_utf8_all left) (put ∙ ap (λ (l : List ℕ). old ++ encode_utf8_all (put_at pen l)) here_is)
    ∙ append_assoc old (encode_utf8_all here) (encode_utf8_all left)
    ∙ ap (λ (l : List ℕ). old ++ l) (sym both) ∙ h

-- ---- where a byte belongs to a character that is shown already, and where not

pub put_inside : (pen : Pen) (bytes : List ℕ) → 0 < pen.inside → put_at pen bytes ≡ []
unfolding put_at
put_inside pen bytes h = by_count pen.inside h
  where
    by_count : (n : ℕ) → 0 < n → put_by n pen bytes ≡ []
    by_count zero h = absurd (omega arith)
    by_count (suc n) h = refl

pub pen_inside : (pen : Pen) (bytes : List ℕ) → 0 < pen.inside → pen_after pen bytes ≡ record { inside = pen.inside - 1; column = pen.column }
unfolding pen_after
pen_inside pen bytes h = by_count pen.inside h
  where
    by_count : (n : ℕ) → 0 < n → pen_by n pen bytes ≡ record { inside = n - 1; column = pen.column }
    by_count zero h = absurd (omega arith)
    by_count (suc n) h =
        let one : n ≡ suc n - 1 = omega arith in
        let P : ℕ → Pen = λ k. record { inside = k; column = pen.column } in
        ap P one

pub put_outside : (pen : Pen) (bytes : List ℕ) → pen.inside ≡ 0 → put_at pen bytes ≡ glyph_of pen.column (decoded bytes).char bytes
unfolding put_at
put_outside pen bytes h = ap (λ (n : ℕ). put_by n pen bytes) h

pub pen_outside : (pen : Pen) (bytes : List ℕ) → pen.inside ≡ 0 → pen_after pen bytes ≡ pen_as (decoded bytes) pen bytes
unfolding pen_after
pen_outside pen bytes h = ap (λ (n : ℕ). pen_by n pen bytes) h

-- what was put at a byte, by how it was read
pub put_made : (pen : Pen) (bytes out new : List ℕ) (char : Option ℕ) → pen.inside ≡ 0 → char ≡ (decoded bytes).char → new ≡ out ++ encode_utf8_all (glyph_of pen.column char bytes) → new ≡ out ++ encode_utf8_all (put_at pen bytes)
put_made pen bytes out new char none c n = n ∙ ap (λ (l : List ℕ). out ++ encode_utf8_all l) (ap (λ (o : Option ℕ). glyph_of pen.column o bytes) c ∙ sym (put_outside pen bytes none))

pub pen_made : (pen : Pen) (bytes : List ℕ) (char : Option ℕ) (size inside column : ℕ) → pen.inside ≡ 0 → char ≡ (decoded bytes).char → size ≡ (decoded bytes).size → inside ≡ tail_of char size → column ≡ pen.column + text_width (glyph_of pen.column char bytes) → record { inside = inside; column = column } ≡ pen_after pen bytes
pen_made pen bytes char size inside column none c s i w = rw (w, i, c, s) (sym (pen_outside pen bytes none))

-- ---- parts of a line

pub put_two : (out xs ys : List ℕ) → (out ++ encode_utf8_all xs) ++ encode_utf8_all ys ≡ out ++ encode_utf8_all (xs ++ ys)
put_two out xs ys = append_assoc out (encode_utf8_all xs) (encode_utf8_all ys) ∙ ap (λ (l : List ℕ). out ++ l) (sym (encodes-append xs ys))

pub put_three : (out xs ys zs : List ℕ) → ((out ++ encode_utf8_all xs) ++ encode_utf8_all ys) ++ encode_utf8_all zs ≡ out ++ encode_utf8_all (xs ++ (ys ++ zs))
put_three out xs ys zs = put_two (out ++ encode_utf8_all xs) ys zs ∙ put_two out xs (ys ++ zs)

pub width_two : (xs ys : List ℕ) → text_width xs + text_width ys ≡ text_width (xs ++ ys)
width_two xs ys = sym (sum_by-append width_of xs ys)

-- ---- the columns that a byte takes

pen_column : (pen : Pen) (bytes : List ℕ) → (pen_after pen bytes).column ≡ pen.column + text_width (put_at pen bytes)
unfolding pen_after put_at
pen_column pen bytes = by_inside pen.inside
  where
    by_inside : (inside : ℕ) → (pen_by inside pen bytes).column ≡ pen.column + text_width (put_by inside pen bytes)
    by_inside zero = refl
    by_inside (suc inside) = sym (add-zero pen.column)

pub columns_more : (all count at : ℕ) (bytes rest : List ℕ) (pen after : Pen) → at < count → at < length bytes → rest ≡ drop at bytes → after ≡ pen_after pen rest → pen.column + text_width (shown (count - at) pen (drop at bytes)) ≡ all → after.column + text_width (shown (count - (at + 1)) after (drop (at + 1) bytes)) ≡ all
columns_more all count at bytes rest pen after more inside here_is pen_is h =
    let left : List ℕ = shown (count - (at + 1)) (pen_after pen (drop at bytes)) (drop (at + 1) bytes) in
    let here : List ℕ = put_at pen (drop at bytes) in
    let both : text_width (shown (count - at) pen (drop at bytes)) ≡ text_width here + text_width left = ap text_width (shown_step count at pen bytes more inside) ∙ sum_by-append width_of here left in
    let column : (pen_after pen (drop at bytes)).column ≡ pen.column + text_width here = pen_column pen (drop at bytes) in
    let same : after.column + text_width (shown (count - (at + 1)) after (drop (at + 1) bytes)) ≡ (pen_after pen (drop at bytes)).column + text_width left = ap (λ (p : Pen). p.column + text_width (shown (count - (at + 1)) p (drop (at + 1) bytes))) (pen_is ∙ ap (pen_after pen) here_is) in
    omega (arith, same, both, column, h)
