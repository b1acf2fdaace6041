-- The file of a marker is the one that is written in it, and that of the lines after it.
use Rattle.std.proofs.Common.{◌≡◌, ◌==◌, inr, ℕ, suc, ◌+◌, ◌<◌, ◌≤◌, Bool, true, false, not, ◌&&◌, ◌||◌, cond, List, [], ◌∷◌, ◌++◌, length, drop, take, get_or, Option, Some, None, refl, sym, ap, ◌∙◌, arith, append_assoc, drop-drop, length-append}
use Rattle.std.specs.Prelude.{codes, if◌then◌else◌, slice_index}
use Rattle.std.specs.List.{list_all}
use Rattle.std.specs.Str.{bytes_eq}
use Rattle.std.specs.Str.Parse.{IsNumeral, digits_value}
use Rattle.std.proofs.lemmas.Bool.{and_parts, eq-eqb, ne_eqb, or_left, or_right}
use Rattle.std.proofs.lemmas.Bool.Decides.{nat_tests}
use Rattle.std.proofs.lemmas.List.{get_or-drop}
use Rattle.std.proofs.Math.Seq.{drop-append_seam, get_or-append_seam, take-append_seam}
use Rattle.snl_lex.specs.declared.alphabet.NumberBase.TheVariants.{Decimal}
use Rattle.snl_lex.specs.Alphabet.{is_digit, is_gap, is_white}
use Rattle.snl_lex.specs.Lines.{digit_count, gap_end, marker_file, marker_number, number_place, number_stop}
use Rattle.snl_lex.specs.Pieces.{is_taken, string_joins}
use Rattle.snl_lex.specs.Runs.{run_by, run_of}
use Rattle.snl_token_laws.specs.Markers.{IsMarkerHead, IsNaming, IsQuoted, bytes_of}
use Rattle.snl_token_laws.specs.Markers.IsMarkerHead.{plain, with_word}
use Rattle.snl_token_laws.specs.Markers.IsNaming.{marker}
use Rattle.snl_token_laws.specs.Markers.IsQuoted.{byte, none, taken}
use Rattle.snl_token_laws.specs.Written.{EndsNumber}
use Rattle.snl_token_laws.proofs.MarkerNumbers.{digit_no_gap, end_no_digit, digit_no_letter_l, no_word, number_told, run_end}
use Rattle.snl_token_laws.proofs.Values.{all_digits, decimal_digit_is, same_value}

-- ---- where the number begins

digit_at_place : (d : ℕ) (ds : List ℕ) (place : ℕ) (m : List ℕ) → is_digit d ≡ true → gap_end m 1 ≡ place → drop place m ≡ d ∷ ds → number_place m ≡ place
unfolding number_place
digit_at_place d ds place m digit at there =
    let G : ℕ → List ℕ → ℕ = λ (k : ℕ) (l : List ℕ). cond (bytes_eq (take 4 l) (codes "line") && is_gap (slice_index m (k + 4))) (gap_end m (k + 4)) k in
    ap (λ (k : ℕ). G k (drop k m)) at ∙ ap (G place) there
    ∙ no_word (d == 108) (bytes_eq (take 3 ds) (codes "ine")) (is_gap (slice_index m (place + 4))) (gap_end m (place + 4)) place (digit_no_letter_l d digit)

word_at_place : (after : ℕ) (us : List ℕ) (place stop : ℕ) (m : List ℕ) → is_gap after ≡ true → gap_end m 1 ≡ place → drop place m ≡ codes "line" ++ (after ∷ us) → gap_end m (place + 4) ≡ stop → number_place m ≡ stop
unfolding number_place
word_at_place after us place stop m gap at there end =
    let G : ℕ → List ℕ → ℕ = λ (k : ℕ) (l : List ℕ). cond (bytes_eq (take 4 l) (codes "line") && is_gap (slice_index m (k + 4))) (gap_end m (k + 4)) k in
    let next : slice_index m (place + 4) ≡ after = sym (get_or-drop place m 4 0) ∙ ap (λ (l : List ℕ). get_or l 4 0) there in
    ap (λ (k : ℕ). G k (drop k m)) at ∙ ap (G place) there
    ∙ ap (λ (b : Bool). cond b (gap_end m (place + 4)) place) (ap is_gap next ∙ gap) ∙ end

gap_no_word : is_gap 108 ≡ false
unfolding is_gap
gap_no_word = refl

plain_place_at : (gap : List ℕ) (d : ℕ) (ds : List ℕ) → list_all is_gap gap ≡ true → is_digit d ≡ true → number_place (35 ∷ gap ++ (d ∷ ds)) ≡ suc (length gap)
plain_place_at gap d ds all digit =
    let m : List ℕ = 35 ∷ gap ++ (d ∷ ds) in
    let end : gap_end m 1 ≡ suc (length gap) = ap (λ (n : ℕ). 1 + n) (run_end is_gap gap (d ∷ ds) all (digit_no_gap d digit)) ∙ omega arith in
    digit_at_place d ds (suc (length gap)) m digit end (drop-append_seam gap (d ∷ ds))

word_place_at : (gap : List ℕ) (a : ℕ) (more us : List ℕ) (d : ℕ) (ds : List ℕ) → list_all is_gap gap ≡ true → list_all is_gap (a ∷ more) ≡ true → is_digit d ≡ true
    → us ≡ (a ∷ more) ++ (d ∷ ds) → number_place (35 ∷ gap ++ (codes "line" ++ us)) ≡ suc (length gap) + 4 + length (a ∷ more)
word_place_at gap a more us d ds all after digit is =
    let m : List ℕ = 35 ∷ gap ++ (codes "line" ++ us) in
    let place : ℕ = suc (length gap) in
    let begin : gap_end m 1 ≡ place = ap (λ (n : ℕ). 1 + n) (run_end is_gap gap (codes "line" ++ us) all gap_no_word) ∙ omega arith in
    let word : drop place m ≡ codes "line" ++ us = drop-append_seam gap (codes "line" ++ us) in
    let there : drop (place + 4) m ≡ us = sym (drop-drop 4 place m) ∙ ap (drop 4) word in
    let end : gap_end m (place + 4) ≡ place + 4 + length (a ∷ more) =
    ap (λ (l : List ℕ). place + 4 + run_of is_gap l) (there ∙ is) ∙ ap (λ (n : ℕ). place + 4 + n) (run_end is_gap (a ∷ more) (d ∷ ds) after (digit_no_gap d digit)) in
    let first : is_gap a ≡ true = (and_parts (is_gap a) (list_all is_gap more) after).0 in
    word_at_place a (more ++ (d ∷ ds)) place (place + 4 + length (a ∷ more)) m first begin (word ∙ ap (λ (l : List ℕ). codes "line" ++ l) is) end

head_place : (head : List ℕ) (d : ℕ) (ds : List ℕ) → IsMarkerHead head → is_digit d ≡ true → number_place (head ++ (d ∷ ds)) ≡ length head
head_place head d ds (plain gap all) digit = plain_place_at gap d ds all digit
head_place head d ds (with_word gap [] all after some) digit = absurd (omega arith)
head_place head d ds (with_word gap (a ∷ more) all after some) digit =
    let us : List ℕ = (a ∷ more) ++ (d ∷ ds) in
    let order : (35 ∷ gap ++ (codes "line" ++ (a ∷ more))) ++ (d ∷ ds) ≡ 35 ∷ gap ++ (codes "line" ++ us) = ap (λ (l : List ℕ). 35 ∷ l) (append_assoc gap (codes "line" ++ (a ∷ more)) (d ∷ ds)) in
    ap number_place order ∙ word_place_at gap a more us d ds all after digit refl ∙ omega (arith, length-append gap (codes "line" ++ (a ∷ more)))

-- ---- the name between quotes

plain_joins : (before : List ℕ) (b : ℕ) → (b ≡ 34 → ⊥) → (b ≡ 10 → ⊥) → string_joins 34 before b ≡ true
plain_joins before b quote line =
    or_right (is_taken before) (not (b == 34 || b == 10)) (ap not (ap (λ (t : Bool). t || b == 10) (ne_eqb b 34 quote) ∙ ne_eqb b 10 line))

taken_joins : (before : List ℕ) (b : ℕ) → is_taken before ≡ true → string_joins 34 before b ≡ true
taken_joins before b h = or_left (is_taken before) (not (b == 34 || b == 10)) h

taken_free : (a b : Bool) → b ≡ true → cond a (not b) false ≡ false
taken_free true b h = ap not h
taken_free false b h = refl

quote_run : (file rest before : List ℕ) → IsQuoted file → is_taken before ≡ false → run_by (string_joins 34) before (file ++ (34 ∷ rest)) ≡ length file
quote_run file rest before none h = ap (λ (t : Bool). cond (t || false) (suc (run_by (string_joins 34) (34 ∷ before) rest)) 0) h
quote_run file rest before (byte b bs quote slash line is) h =
    let free : is_taken (b ∷ before) ≡ false = ap (λ (t : Bool). cond t (not (is_taken before)) false) (ne_eqb b 92 slash) in
    ap (λ (t : Bool). cond t (suc (run_by (string_joins 34) (b ∷ before) (bs ++ (34 ∷ rest)))) 0) (plain_joins before b quote line)
    ∙ ap suc (quote_run bs rest (b ∷ before) is free)
quote_run file rest before (taken b bs line is) h =
    let held : is_taken (92 ∷ before) ≡ true = ap not h in
    let free : is_taken (b ∷ 92 ∷ before) ≡ false = taken_free (b == 92) (is_taken (92 ∷ before)) held in
    ap (λ (t : Bool). cond t (suc (run_by (string_joins 34) (92 ∷ before) (b ∷ bs ++ (34 ∷ rest)))) 0) (or_right (is_taken before) true refl)
    ∙ ap suc (ap (λ (t : Bool). cond t (suc (run_by (string_joins 34) (b ∷ 92 ∷ before) (bs ++ (34 ∷ rest)))) 0) (taken_joins (92 ∷ before) b held)
    ∙ ap suc (quote_run bs rest (b ∷ 92 ∷ before) is free))

file_if : (a b : Bool) (f : ℕ × ℕ) → a ≡ true → b ≡ true → (if a && b then Some f else None) ≡ Some f
file_if true true f h k = refl
file_if true false f h k = cc
file_if false b f h k = cc

gap_no_quote : is_gap 34 ≡ false
unfolding is_gap
gap_no_quote = refl

add_nothing : (n : ℕ) → n ≡ n + 0
add_nothing n = omega arith

next_place : (q n : ℕ) → q + 1 + n ≡ q + suc n
next_place q n = omega arith

file_told : (m : List ℕ) (stop : ℕ) (gap file rest : List ℕ) → number_stop m ≡ stop → drop stop m ≡ gap ++ (34 ∷ file ++ (34 ∷ rest)) → list_all is_gap gap ≡ true → IsQuoted file
    → marker_file m ≡ Some (stop + length gap + 1, length file)
unfolding marker_file
file_told m stop gap file rest at there all is =
    let named : List ℕ = 34 ∷ file ++ (34 ∷ rest) in
    let quote : ℕ = stop + length gap in
    let begin : gap_end m stop ≡ quote = ap (λ (l : List ℕ). stop + run_of is_gap l) there ∙ ap (λ (n : ℕ). stop + n) (run_end is_gap gap named all gap_no_quote) in
    let from_quote : drop quote m ≡ named = sym (drop-drop (length gap) stop m) ∙ (ap (drop (length gap)) there ∙ drop-append_seam gap named) in
    let count : run_by (string_joins 34) [] (drop 1 (drop quote m)) ≡ length file = ap (λ (l : List ℕ). run_by (string_joins 34) [] (drop 1 l)) from_quote ∙ quote_run file rest [] is refl in
    let opens : slice_index m quote ≡ 34 =
    ap (slice_index m) (add_nothing quote) ∙ (sym (get_or-drop quote m 0 0) ∙ ap (λ (l : List ℕ). get_or l 0 0) from_quote) in
    let closes : slice_index m (quote + 1 + length file) ≡ 34 =
    ap (slice_index m) (next_place quote (length file))
    ∙ (sym (get_or-drop quote m (suc (length file)) 0) ∙ (ap (λ (l : List ℕ). get_or l (suc (length file)) 0) from_quote ∙ get_or-append_seam file 34 rest 0)) in
    let G : ℕ → ℕ → Option (ℕ × ℕ) = λ (q n : ℕ). if slice_index m q == 34 && slice_index m (q + 1 + n) == 34 then Some (q + 1, n) else None in
    ap (λ (k : ℕ). G (gap_end m k) (run_by (string_joins 34) [] (drop 1 (drop (gap_end m k) m)))) at
    ∙ ap (λ (q : ℕ). G q (run_by (string_joins 34) [] (drop 1 (drop q m)))) begin
    ∙ ap (G quote) count
    ∙ file_if (slice_index m quote == 34) (slice_index m (quote + 1 + length file) == 34) (quote + 1, length file) (eq-eqb (slice_index m quote) 34 opens) (eq-eqb (slice_index m (quote + 1 + length file)) 34 closes)

-- ---- the number and the file of a marker that is written so

-- What is known of such a marker: its number, and where its file is.
pub record IsRead (bytes : List ℕ) (n : ℕ) (file : List ℕ) : Type 0 where
  pub place : ℕ
  pub number : marker_number bytes ≡ Some n
  pub named : marker_file bytes ≡ Some (place, length file)
  pub within : place + length file ≤ length bytes
  pub is : take (length file) (drop place bytes) ≡ file

gap_white : (b : ℕ) → is_gap b ≡ true → is_white b ≡ true
unfolding is_gap is_white
gap_white b h = grind (arith, nat_tests)

gap_ends : (gap us : List ℕ) → list_all is_gap gap ≡ true → 0 < length gap → EndsNumber (gap ++ us)
gap_ends [] us all some = absurd (omega arith)
gap_ends (g ∷ gs) us all some = inr (gap_white g (and_parts (is_gap g) (list_all is_gap gs) all).0)

gap_no_digit : (gap us : List ℕ) → list_all is_gap gap ≡ true → 0 < length gap → is_digit (slice_index (gap ++ us) 0) ≡ false
gap_no_digit gap us all some = end_no_digit (gap ++ us) (gap_ends gap us all some)

read_at : (head ds gap file rest : List ℕ) → IsMarkerHead head → IsNumeral 10 ds → length ds ≤ 10 → digits_value 10 ds ≤ 2147483647 → list_all is_gap gap ≡ true → 0 < length gap → IsQuoted file
    → IsRead (head ++ (ds ++ (gap ++ (34 ∷ file ++ (34 ∷ rest))))) (digits_value 10 ds) file
read_at head [] gap file rest begins is few small all some quoted = absurd (omega (arith, is.0))
read_at head (d ∷ ds) gap file rest begins is few small all some quoted =
    let named : List ℕ = 34 ∷ file ++ (34 ∷ rest) in
    let after : List ℕ = gap ++ named in
    let digits : List ℕ = d ∷ ds in
    let m : List ℕ = head ++ (digits ++ after) in
    let stop : ℕ = length head + length digits in
    let at : number_place m ≡ length head = head_place head d (ds ++ after) begins (decimal_digit_is d is.1.0) in
    let there : drop (length head) m ≡ digits ++ after = drop-append_seam head (digits ++ after) in
    let pass : list_all is_digit digits ≡ true = all_digits is_digit 10 digits decimal_digit_is is.1 in
    let count : digit_count m ≡ length digits = ap (λ (k : ℕ). run_of is_digit (drop k m)) at ∙ (ap (run_of is_digit) there ∙ run_end is_digit digits after pass (gap_no_digit gap named all some)) in
    let ends : number_stop m ≡ stop = omega arith in
    let from_stop : drop stop m ≡ after = sym (drop-drop (length digits) (length head) m) ∙ (ap (drop (length digits)) there ∙ drop-append_seam digits after) in
    let quote : ℕ = stop + length gap in
    let from_quote : drop quote m ≡ named = sym (drop-drop (length gap) stop m) ∙ (ap (drop (length gap)) from_stop ∙ drop-append_seam gap named) in
    let from_name : drop (quote + 1) m ≡ file ++ (34 ∷ rest) = sym (drop-drop 1 quote m) ∙ ap (drop 1) from_quote in
    let size : length m ≡ quote + length named = omega (arith, length-append head (digits ++ after), length-append digits after, length-append gap named) in
    record {
      place = quote + 1;
      number = number_told m (length head) digits after (digits_value 10 digits) at there (length-append head (digits ++ after)) pass is.0 few (same_value Decimal 0 digits is.1) small (gap_ends gap named all some);
      named = file_told m stop gap file rest ends from_stop all quoted;
      within = omega (arith, length-append file (34 ∷ rest));
      is = ap (take (length file)) from_name ∙ take-append_seam file (34 ∷ rest);
    }

pub read_back : (bytes : List ℕ) (n : ℕ) (file : List ℕ) → IsNaming n file bytes → IsRead bytes n file
read_back bytes n file (marker head digits gap name rest begins is few small all some quoted) = read_at head digits gap name rest begins is few small all some quoted

pub name_read : (bytes : List ℕ) (n : ℕ) (file : List ℕ) → IsRead bytes n file → bytes_of bytes (marker_file bytes) ≡ Some file
name_read bytes n file r = ap (bytes_of bytes) r.named ∙ ap Some r.is
