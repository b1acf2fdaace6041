-- The markers of a text as a list: its order, its parts, and what an edit makes of it.
use Rattle.std.proofs.Common.{◌≡◌, ℕ, zero, suc, is_some, ◌+◌, ◌-◌, ◌^◌, ◌<◌, ◌≤◌, inl, inr, ◌⊎◌, Bool, true, false, ◌&&◌, cond, nat_lt, List, [], ◌∷◌, ◌++◌, length, take, drop, map, get_or, count_by, filter, Option, Some, None, refl, sym, ap, ap₂, ◌∙◌, subst, arith, append_assoc, length-append, length-take}
use Rattle.std.specs.Prelude.{All, IfSome, slice_index, unwrap_or}
use Rattle.std.specs.Option.{option_map}
use Rattle.std.specs.List.{AllByRecursion}
use Rattle.std.specs.List.Sorted.{IsNonDecreasingBy}
use Rattle.std.proofs.lemmas.List.{get_or_past, length-map, length-take-le, map-append, take-append-drop}
use Rattle.std.proofs.lemmas.List.Elements.{filter-append}
use Rattle.std.proofs.Math.Seq.{take-append_seam, drop-append_seam}
use Rattle.snl_cut.specs.Cut.{IsEdit, ends_below, last_end}
use Rattle.snl_lex.specs.declared.marker_list.Marker.{Marker}
use Rattle.snl_lex.specs.declared.piece.Class.{Class}
use Rattle.snl_lex.specs.declared.piece.Piece.{Piece}
use Rattle.snl_lex.specs.Lines.{gap_end, is_marker, last_or, marker_file, marker_number, number_stop, place_from}
use Rattle.snl_lex.specs.LineList.{IsShort, marked, marker_of, moved_marker, names, numbers}
use Rattle.snl_lex.specs.declared.piece_list.PieceChange.{PieceChange}
use Rattle.snl_lex.specs.Edit.{Edit, IsChange, made_pieces}
use Rattle.snl_lex.specs.PieceList.{last_pieces, piece_ends}
use Rattle.snl_lex.specs.Pieces.{bytes_at, moved_piece, piece_end, piece_length, pieces_of, string_joins}
use Rattle.snl_lex.specs.Runs.{run_by}
use Rattle.snl_lex.proofs.Alike.{leads_back, start_at}
use Rattle.snl_lex.proofs.Changes.{rest_walk}
use Rattle.snl_lex.proofs.Halving.{all_counted}
use Rattle.snl_lex.proofs.Kept.{back_bytes, front_bytes}
use Rattle.snl_lex.proofs.Markers.{closed, file_is, file_with, no_close, no_quote}
use Rattle.snl_lex.proofs.Members.{Leads, end_at, pieces_lead, some_piece, walk_le}
use Rattle.snl_cut.specs.CutLaws.{below_yes, below_no}
use Rattle.std.proofs.lemmas.Bool.{cases_lt, lt-ltb, le-ltb}
use Rattle.snl_facts.specs.Counts.{no_counted, count_parts}

-- ---- where pieces end

pub piece_at_end : (text : List ℕ) (from : ℕ) (p : Piece) (ps : List Piece) (to : ℕ) → Leads text from (p ∷ ps) to → (from < piece_end p) × (piece_end p ≤ length text) × Leads text (piece_end p) ps to
piece_at_end text from p ps to h =
    let e : piece_end p ≡ from + piece_length (drop from text) = ap piece_end h.1 ∙ end_at text from in
    let some = some_piece text from h.0 in
    (omega (arith, e, some.0), omega (arith, e, some.1), subst (λ (n : ℕ). Leads text n ps to) (sym e) h.2)

all_above : (text : List ℕ) (from low : ℕ) (ps : List Piece) (to : ℕ) → Leads text from ps to → low ≤ from → AllByRecursion (λ p. suc low ≤ piece_end p) ps
all_above text from low [] to h le = tt
all_above text from low (p ∷ ps) to h le =
    let k = piece_at_end text from p ps to h in
    (omega (arith, k.0, le), all_above text (piece_end p) low ps to k.2 (omega (arith, k.0, le)))

weaker : (a b : ℕ) (ps : List Piece) → a ≤ b → AllByRecursion (λ p. b ≤ piece_end p) ps → AllByRecursion (λ p. a ≤ piece_end p) ps
weaker a b [] le h = tt
weaker a b (p ∷ ps) le h = (omega (arith, le, h.0), weaker a b ps le h.1)

-- Pieces from a place on end at it or after it.
pub ends_above : (text : List ℕ) (from low : ℕ) (ps : List Piece) (to : ℕ) → Leads text from ps to → low ≤ from → AllByRecursion (λ p. low ≤ piece_end p) ps
ends_above text from low ps to h le = weaker low (suc low) ps (omega arith) (all_above text from low ps to h le)

-- Those that end before a place are the first ones.
front_below : (place : ℕ) (ps : List Piece) → AllByRecursion (λ p. piece_end p < place) (take (ends_below place (map piece_end ps)) ps)
front_below place [] = tt
front_below place (p ∷ ps) =
    let P : ℕ → Type 0 = λ (n : ℕ). AllByRecursion (λ q. piece_end q < place) (take n (p ∷ ps)) in
    elim (cases_lt (piece_end p) place) [
      | inl less ↦ subst P (sym (below_yes (piece_end p) place (map piece_end ps) less)) (less, front_below place ps)
      | inr more ↦ subst P (sym (below_no (piece_end p) place (map piece_end ps) more)) tt
    ]

rest_above : (text : List ℕ) (place from : ℕ) (ps : List Piece) (to : ℕ) → Leads text from ps to → AllByRecursion (λ p. place ≤ piece_end p) (drop (ends_below place (map piece_end ps)) ps)
rest_above text place from [] to h = tt
rest_above text place from (p ∷ ps) to h =
    let k = piece_at_end text from p ps to h in
    let P : ℕ → Type 0 = λ (n : ℕ). AllByRecursion (λ q. place ≤ piece_end q) (drop n (p ∷ ps)) in
    elim (cases_lt (piece_end p) place) [
      | inl less ↦ subst P (sym (below_yes (piece_end p) place (map piece_end ps) less)) (rest_above text place (piece_end p) ps to k.2)
      | inr more ↦
          subst P (sym (below_no (piece_end p) place (map piece_end ps) more))
          (more, weaker place (suc (piece_end p)) ps (omega (arith, more)) (all_above text (piece_end p) (piece_end p) ps to k.2 (omega arith)))
    ]

last_above : (text : List ℕ) (from k : ℕ) (ps : List Piece) (to : ℕ) → Leads text from ps to → from ≤ last_end from (take k (map piece_end ps))
last_above text from zero ps to h = omega arith
last_above text from (suc k) [] to h = omega arith
last_above text from (suc k) (p ∷ ps) to h =
    let e = piece_at_end text from p ps to h in
    omega (arith, e.0, last_above text (piece_end p) k ps to e.2)

taken_under : (text : List ℕ) (from k : ℕ) (ps : List Piece) (to : ℕ) → Leads text from ps to → AllByRecursion (λ p. piece_end p < suc (last_end from (take k (map piece_end ps)))) (take k ps)
taken_under text from zero ps to h = tt
taken_under text from (suc k) [] to h = tt
taken_under text from (suc k) (p ∷ ps) to h =
    let e = piece_at_end text from p ps to h in
    (omega (arith, last_above text (piece_end p) k ps to e.2), taken_under text (piece_end p) k ps to e.2)

pub starts_above : (text : List ℕ) (from low : ℕ) (ps : List Piece) (to : ℕ) → Leads text from ps to → low ≤ from → AllByRecursion (λ p. low ≤ p.start) ps
starts_above text from low [] to h le = tt
starts_above text from low (p ∷ ps) to h le =
    let e = piece_at_end text from p ps to h in
    let starts : p.start ≡ from = ap (λ q. q.start) h.1 ∙ start_at text from in
    (omega (arith, starts, le), starts_above text (piece_end p) low ps to e.2 (omega (arith, e.0, le)))

-- ---- markers of pieces

pub marked_append : (passes : Piece → Bool) (text : List ℕ) (xs ys : List Piece) → marked passes text (xs ++ ys) ≡ marked passes text xs ++ marked passes text ys
marked_append passes text xs ys = ap (map (marker_of text)) (filter-append passes xs ys) ∙ map-append (marker_of text) (filter passes xs) (filter passes ys)

-- One piece more among the markers.
pub marked_more : (passes : Piece → Bool) (text : List ℕ) (before now : List Marker) (ps all : List Piece) (p : Piece) → now ≡ before ++ marked passes text ps → all ≡ ps ++ p ∷ []
    → now ++ marked passes text (p ∷ []) ≡ before ++ marked passes text all
marked_more passes text before now ps all p is more =
    ap (λ (l : List Marker). l ++ marked passes text (p ∷ [])) is
    ∙ append_assoc before (marked passes text ps) (marked passes text (p ∷ []))
    ∙ ap (λ (l : List Marker). before ++ l) (sym (ap (marked passes text) more ∙ marked_append passes text ps (p ∷ [])))

-- A piece of another class sets no line.
pub no_number : (text : List ℕ) (p : Piece) → is_marker p.kind ≡ false → marked (numbers text) text (p ∷ []) ≡ []
no_number text p e = ap (λ (b : Bool). map (marker_of text) (cond (b && is_some (marker_number (bytes_at text p))) (p ∷ []) [])) e

pub no_name : (text : List ℕ) (p : Piece) → is_marker p.kind ≡ false → marked (names text) text (p ∷ []) ≡ []
no_name text p e = ap (λ (b : Bool). map (marker_of text) (cond ((b && is_some (marker_number (bytes_at text p))) && is_some (marker_file (bytes_at text p))) (p ∷ []) [])) e

marked_cons : (passes : Piece → Bool) (text : List ℕ) (p : Piece) (ps : List Piece) → marked passes text (p ∷ ps) ≡ cond (passes p) (marker_of text p ∷ marked passes text ps) (marked passes text ps)
marked_cons passes text p ps =
    elim (passes p) as (λ b. map (marker_of text) (cond b (p ∷ filter passes ps) (filter passes ps)) ≡ cond b (marker_of text p ∷ marked passes text ps) (marked passes text ps)) [ true ↦ refl | false ↦ refl ]

marked_before : (passes : Piece → Bool) (text : List ℕ) (place : ℕ) (ps : List Piece) → AllByRecursion (λ p. piece_end p < place) ps → AllByRecursion (λ m. nat_lt m.end place ≡ true) (marked passes text ps)
marked_before passes text place [] h = tt
marked_before passes text place (p ∷ ps) h =
    let rest = marked_before passes text place ps h.1 in
    elim (passes p) as (λ b. AllByRecursion (λ m. nat_lt m.end place ≡ true) (map (marker_of text) (cond b (p ∷ filter passes ps) (filter passes ps)))) [
      | true ↦ (lt-ltb (piece_end p) place h.0, rest)
      | false ↦ rest
    ]

marked_after : (passes : Piece → Bool) (text : List ℕ) (place : ℕ) (ps : List Piece) → AllByRecursion (λ p. place ≤ piece_end p) ps → AllByRecursion (λ m. nat_lt m.end place ≡ false) (marked passes text ps)
marked_after passes text place [] h = tt
marked_after passes text place (p ∷ ps) h =
    let rest = marked_after passes text place ps h.1 in
    elim (passes p) as (λ b. AllByRecursion (λ m. nat_lt m.end place ≡ false) (map (marker_of text) (cond b (p ∷ filter passes ps) (filter passes ps)))) [
      | true ↦ (le-ltb (piece_end p) place h.0, rest)
      | false ↦ rest
    ]

-- The markers that end before a place, and the others.
pub marked_parts : (passes : Piece → Bool) (text : List ℕ) (place : ℕ) (xs ys : List Piece) → AllByRecursion (λ p. piece_end p < place) xs → AllByRecursion (λ p. place ≤ piece_end p) ys → (ms : List Marker) → ms ≡ marked passes text (xs ++ ys)
    → (take (count_by (λ m. nat_lt m.end place) ms) ms ≡ marked passes text xs) × (drop (count_by (λ m. nat_lt m.end place) ms) ms ≡ marked passes text ys)
marked_parts passes text place xs ys before after ms is =
    let a : List Marker = marked passes text xs in
    let b : List Marker = marked passes text ys in
    let test : Marker → Bool = λ (m : Marker). nat_lt m.end place in
    let two : ms ≡ a ++ b = is ∙ marked_append passes text xs ys in
    let count : count_by test ms ≡ length a = ap (count_by test) two ∙ count_parts test a b (all_counted test a (marked_before passes text place xs before)) (no_counted test b (marked_after passes text place ys after)) in (
      ap₂ (λ (n : ℕ) (l : List Marker). take n l) count two ∙ take-append_seam a b,
      ap₂ (λ (n : ℕ) (l : List Marker). drop n l) count two ∙ drop-append_seam a b,
    )

-- ---- order and size

abbrev EndsRise : ℕ → List Marker → Type 0
EndsRise at [] = Unit {0}
EndsRise at (m ∷ ms) = (at ≤ m.end) × EndsRise m.end ms

rises_lower : (a b : ℕ) (ms : List Marker) → a ≤ b → EndsRise b ms → EndsRise a ms
rises_lower a b [] le h = tt
rises_lower a b (m ∷ ms) le h = (omega (arith, le, h.0), h.1)

marked_rise : (passes : Piece → Bool) (text : List ℕ) (from : ℕ) (ps : List Piece) (to : ℕ) → Leads text from ps to → EndsRise from (marked passes text ps)
marked_rise passes text from [] to h = tt
marked_rise passes text from (p ∷ ps) to h =
    let e = piece_at_end text from p ps to h in
    let rest = marked_rise passes text (piece_end p) ps to e.2 in
    elim (passes p) as (λ b. EndsRise from (map (marker_of text) (cond b (p ∷ filter passes ps) (filter passes ps)))) [
      | true ↦ (omega (arith, e.0), rest)
      | false ↦ rises_lower from (piece_end p) (marked passes text ps) (omega (arith, e.0)) rest
    ]

rise_get : (at : ℕ) (ms : List Marker) (k : ℕ) (d : Marker) → EndsRise at ms → k < length ms → at ≤ (get_or ms k d).end
rise_get at [] k d h lt = absurd (omega arith)
rise_get at (m ∷ ms) zero d h lt = h.0
rise_get at (m ∷ ms) (suc k) d h lt = omega (arith, h.0, rise_get m.end ms k d h.1 (omega arith))

rise_order : (at : ℕ) (ms : List Marker) → EndsRise at ms → IsNonDecreasingBy (λ (m : Marker). m.end) ms
rise_order at [] h i j d le lt = absurd (omega (arith, lt))
rise_order at (m ∷ ms) h zero zero d le lt = omega arith
rise_order at (m ∷ ms) h zero (suc j) d le lt = rise_get m.end ms j d h.1 (omega (arith, lt))
rise_order at (m ∷ ms) h (suc i) zero d le lt = absurd (omega (arith, le))
rise_order at (m ∷ ms) h (suc i) (suc j) d le lt = rise_order m.end ms h.1 i j d (omega (arith, le)) (omega (arith, lt))

pub markers_order : (passes : Piece → Bool) (text : List ℕ) → IsNonDecreasingBy (λ (m : Marker). m.end) (marked passes text (pieces_of text))
markers_order passes text = rise_order 0 (marked passes text (pieces_of text)) (marked_rise passes text 0 (pieces_of text) (length text) (pieces_lead text))

-- A marker's file lies in the marker.
quote_in : (s : List ℕ) (n : ℕ) → slice_index s n ≡ 34 → n < length s
quote_in s n h = elim (cases_lt n (length s)) [ inl less ↦ less | inr more ↦ absurd (omega (arith, get_or_past s n 0 more, h)) ]

is_quote : (a : ℕ) → (a ≡ 34) ⊎ (a ≡ 34 → ⊥)
is_quote a =
    elim (cases_lt a 34) [
      | inl less ↦ inr (λ e. absurd (omega (arith, less, e)))
      | inr more ↦ elim (cases_lt 34 a) [ inl above ↦ inr (λ e. absurd (omega (arith, above, e))) | inr same ↦ inl (omega (arith, more, same)) ]
    ]

no_file : (place : ℕ × ℕ) (n : ℕ) → None ≡ Some place → place.0 < n
no_file place n h = cc

file_there : (s : List ℕ) (quote count : ℕ) (place : ℕ × ℕ) → file_with s quote count ≡ Some place → place.0 < length s
file_there s quote count place h =
    elim (is_quote (slice_index s quote)) [
      | inl opens ↦
          elim (is_quote (slice_index s (quote + 1 + count))) [
            | inl close ↦
                let e : Some (quote + 1, count) ≡ Some place = sym (closed s quote count opens close) ∙ h in
                let first : quote + 1 ≡ place.0 = ap (λ (o : Option (ℕ × ℕ)). (unwrap_or o (0, 0)).0) e in
                omega (arith, first, quote_in s (quote + 1 + count) close)
            | inr other ↦ no_file place (length s) (sym (no_close s quote count other) ∙ h)
          ]
      | inr other ↦ no_file place (length s) (sym (no_quote s quote count other) ∙ h)
    ]

pub file_inside : (s : List ℕ) (place : ℕ × ℕ) → marker_file s ≡ Some place → place.0 < length s
file_inside s place h =
    let quote : ℕ = gap_end s (number_stop s) in
    file_there s quote (run_by (string_joins 34) [] (drop 1 (drop quote s))) place (sym (file_is s quote refl) ∙ h)

short_file : (text : List ℕ) (p : Piece) (o : Option (ℕ × ℕ)) → ((place : ℕ × ℕ) → o ≡ Some place → place.0 < p.len) → piece_end p ≤ length text → length text < 2 ^ 32 → IfSome (place_from p.start o) (λ f. f.0 < 2 ^ 32)
short_file text p None inside le short = tt
short_file text p (Some place) inside le short = omega (arith, inside place refl, le, short)

short_marker : (text : List ℕ) (p : Piece) → piece_end p ≤ length text → length text < 2 ^ 32 → IsShort (marker_of text p)
short_marker text p le short =
    let bytes : List ℕ = bytes_at text p in
    let most : length bytes ≤ p.len = omega (arith, length-take p.len (drop p.start text)) in
    (omega (arith, le, short), short_file text p (marker_file bytes) (λ place h. omega (arith, most, file_inside bytes place h)) le short)

marked_short : (passes : Piece → Bool) (text : List ℕ) (from : ℕ) (ps : List Piece) (to : ℕ) → Leads text from ps to → length text < 2 ^ 32 → AllByRecursion IsShort (marked passes text ps)
marked_short passes text from [] to h short = tt
marked_short passes text from (p ∷ ps) to h short =
    let e = piece_at_end text from p ps to h in
    let rest = marked_short passes text (piece_end p) ps to e.2 short in
    elim (passes p) as (λ b. AllByRecursion IsShort (map (marker_of text) (cond b (p ∷ filter passes ps) (filter passes ps)))) [ true ↦ (short_marker text p e.1 short, rest) | false ↦ rest ]

by_index : (ms : List Marker) → AllByRecursion IsShort ms → All IsShort ms
by_index [] h k d lt = absurd (omega (arith, lt))
by_index (m ∷ ms) h zero d lt = h.0
by_index (m ∷ ms) h (suc k) d lt = by_index ms h.1 k d (omega (arith, lt))

pub markers_short : (passes : Piece → Bool) (text : List ℕ) → length text < 2 ^ 32 → All IsShort (marked passes text (pieces_of text))
markers_short passes text short = by_index (marked passes text (pieces_of text)) (marked_short passes text 0 (pieces_of text) (length text) (pieces_lead text) short)

-- ---- kept markers

abbrev pub passing : (Class → List ℕ → Bool) → List ℕ → Piece → Bool
passing test text p = test p.kind (bytes_at text p)

-- A piece as a marker, by its bytes.
abbrev marker_by : Piece → List ℕ → Marker
marker_by p s = record { end = piece_end p; number = unwrap_or (marker_number s) 0; file = place_from p.start (marker_file s) }

pub front_marked : (test : Class → List ℕ → Bool) (old text : List ℕ) (ps : List Piece) → AllByRecursion (λ p. bytes_at text p ≡ bytes_at old p) ps → marked (passing test text) text ps ≡ marked (passing test old) old ps
front_marked test old text [] h = refl
front_marked test old text (p ∷ ps) h =
    let rest = front_marked test old text ps h.1 in
    let F : List ℕ → List Marker → List Marker = λ (s : List ℕ) (l : List Marker). cond (test p.kind s) (marker_by p s ∷ l) l in
    marked_cons (passing test text) text p ps ∙ ap₂ F h.0 rest ∙ sym (marked_cons (passing test old) old p ps)

place_moved : (b c start : ℕ) (o : Option (ℕ × ℕ)) → b ≤ start → place_from ((start - b) + c) o ≡ option_map (λ f. ((f.0 - b) + c, f.1)) (place_from start o)
place_moved b c start None le = refl
place_moved b c start (Some place) le =
    let e : ((start - b) + c) + place.0 ≡ ((start + place.0) - b) + c = omega (arith, le) in
    ap (λ (n : ℕ). Some (n, place.1)) e

marker_moved : (b c : ℕ) (p : Piece) (s : List ℕ) → b ≤ p.start → marker_by (moved_piece b c p) s ≡ moved_marker b c (marker_by p s)
marker_moved b c p s le =
    let n : ℕ = unwrap_or (marker_number s) 0 in
    let e : ((p.start - b) + c) + p.len ≡ ((p.start + p.len) - b) + c = omega (arith, le) in
    let M : ℕ → Option (ℕ × ℕ) → Marker = λ (end : ℕ) (file : Option (ℕ × ℕ)). record { end = end; number = n; file = file } in
    ap₂ M e (place_moved b c p.start (marker_file s) le)

pub back_marked : (test : Class → List ℕ → Bool) (old text : List ℕ) (b c : ℕ) (ps : List Piece) → AllByRecursion (λ p. bytes_at text (moved_piece b c p) ≡ bytes_at old p) ps → AllByRecursion (λ p. b ≤ p.start) ps
    → marked (passing test text) text (map (moved_piece b c) ps) ≡ map (moved_marker b c) (marked (passing test old) old ps)
back_marked test old text b c [] h g = refl
back_marked test old text b c (p ∷ ps) h g =
    let rest = back_marked test old text b c ps h.1 g.1 in
    let l : List Marker = marked (passing test old) old ps in
    let s : List ℕ = bytes_at old p in
    let F : List ℕ → List Marker → List Marker = λ (u : List ℕ) (r : List Marker). cond (test p.kind u) (marker_by (moved_piece b c p) u ∷ r) r in
    let inner : cond (test p.kind s) (marker_by (moved_piece b c p) s ∷ map (moved_marker b c) l) (map (moved_marker b c) l) ≡ map (moved_marker b c) (cond (test p.kind s) (marker_by p s ∷ l) l) =
    elim (test p.kind s) as (λ t. cond t (marker_by (moved_piece b c p) s ∷ map (moved_marker b c) l) (map (moved_marker b c) l) ≡ map (moved_marker b c) (cond t (marker_by p s ∷ l) l)) [
      | true ↦ ap (λ (m : Marker). m ∷ map (moved_marker b c) l) (marker_moved b c p s g.0)
      | false ↦ refl
    ] in
    marked_cons (passing test text) text (moved_piece b c p) (map (moved_piece b c) ps) ∙ ap₂ F h.0 rest ∙ inner ∙ ap (map (moved_marker b c)) (sym (marked_cons (passing test old) old p ps))

-- ---- what a change makes of the markers

module _ (e : Edit) (change : PieceChange) (edit : IsEdit e.old e.text e.start e.old_stop e.new_stop) (is : IsChange e change) where
  from_is : change.kept_from ≡ last_end 0 (take (length (pieces_of e.old) - change.kept_back) (piece_ends e.old))
  from_is = is.from ∙ ap (λ (n : ℕ). last_end 0 (take (n - change.kept_back) (piece_ends e.old))) (length-map (pieces_of e.old) piece_end)

  pub from_order : e.old_stop ≤ change.kept_from
  from_order = omega (arith, is.from, is.recut.from)

  pub from_inside : change.kept_from ≤ length e.old
  from_inside =
      let k : ℕ = length (piece_ends e.old) - change.kept_back in
      omega (arith, is.from, walk_le e.old (last_end 0 (take k (piece_ends e.old))) (drop k (piece_ends e.old)) (length e.old) (rest_walk e.old k))

  back_leads : Leads e.old change.kept_from (last_pieces e.old change.kept_back) (length e.old)
  back_leads =
      subst (λ (n : ℕ). Leads e.old n (last_pieces e.old change.kept_back) (length e.old)) (sym from_is) (leads_back e.old 0 (pieces_of e.old) (length e.old) (length (pieces_of e.old) - change.kept_back) (pieces_lead e.old))

  pub new_markers : (test : Class → List ℕ → Bool) (ms made_ms : List Marker) → ms ≡ marked (passing test e.old) e.old (pieces_of e.old) → made_ms ≡ marked (passing test e.text) e.text (made_pieces change)
      → take (count_by (λ m. nat_lt m.end e.start) ms) ms ++ (made_ms ++ map (moved_marker e.old_stop e.new_stop) (drop (count_by (λ m. nat_lt m.end (change.kept_from + 1)) ms) ms)) ≡ marked (passing test e.text) e.text (pieces_of e.text)
  new_markers test ms made_ms whole part =
      let ps : List Piece = pieces_of e.old in
      let k : ℕ = length ps - change.kept_back in
      let T : Piece → Bool = passing test e.old in
      let N : Piece → Bool = passing test e.text in
      let f_is : change.kept_front ≡ ends_below e.start (piece_ends e.old) = is.recut.kept in
      let before_front : AllByRecursion (λ p. piece_end p < e.start) (take change.kept_front ps) = subst (λ (n : ℕ). AllByRecursion (λ p. piece_end p < e.start) (take n ps)) (sym f_is) (front_below e.start ps) in
      let after_front : AllByRecursion (λ p. e.start ≤ piece_end p) (drop change.kept_front ps) =
      subst (λ (n : ℕ). AllByRecursion (λ p. e.start ≤ piece_end p) (drop n ps)) (sym f_is) (rest_above e.old e.start 0 ps (length e.old) (pieces_lead e.old)) in
      let more : suc (last_end 0 (take k (piece_ends e.old))) ≡ change.kept_from + 1 = omega (arith, from_is) in
      let before_back : AllByRecursion (λ p. piece_end p < change.kept_from + 1) (take k ps) =
      subst (λ (n : ℕ). AllByRecursion (λ p. piece_end p < n) (take k ps)) more (taken_under e.old 0 k ps (length e.old) (pieces_lead e.old)) in
      let after_back : AllByRecursion (λ p. change.kept_from + 1 ≤ piece_end p) (drop k ps) =
      let one : suc change.kept_from ≡ change.kept_from + 1 = omega arith in
      subst (λ (n : ℕ). AllByRecursion (λ p. n ≤ piece_end p) (drop k ps)) one (all_above e.old change.kept_from change.kept_from (drop k ps) (length e.old) back_leads (omega arith)) in
      let at_front = (marked_parts T e.old e.start (take change.kept_front ps) (drop change.kept_front ps) before_front after_front ms (whole ∙ ap (marked T e.old) (sym (take-append-drop change.kept_front ps)))).0 in
      let at_back = (marked_parts T e.old (change.kept_from + 1) (take k ps) (drop k ps) before_back after_back ms (whole ∙ ap (marked T e.old) (sym (take-append-drop k ps)))).1 in
      let head : marked N e.text (take change.kept_front ps) ≡ marked T e.old (take change.kept_front ps) = front_marked test e.old e.text (take change.kept_front ps) (front_bytes e.old e.text e.start e.old_stop e.new_stop change.kept_front (map piece_end (made_pieces change)) change.kept_back edit is.recut) in
      let tail : marked N e.text (map (moved_piece e.old_stop e.new_stop) (drop k ps)) ≡ map (moved_marker e.old_stop e.new_stop) (marked T e.old (drop k ps)) =
      back_marked test e.old e.text e.old_stop e.new_stop (drop k ps) (back_bytes e.old e.text e.start e.old_stop e.new_stop change.kept_front (map piece_end (made_pieces change)) change.kept_back edit is.recut) (starts_above e.old change.kept_from e.old_stop (drop k ps) (length e.old) back_leads from_order) in
      let new : marked N e.text (pieces_of e.text) ≡ marked T e.old (take change.kept_front ps) ++ (marked N e.text (made_pieces change) ++ map (moved_marker e.old_stop e.new_stop) (marked T e.old (drop k ps))) =
      ap (marked N e.text) is.pieces
      ∙ marked_append N e.text (take change.kept_front ps ++ made_pieces change) (map (moved_piece e.old_stop e.new_stop) (drop k ps))
      ∙ ap₂ (λ (x y : List Marker). x ++ y) (marked_append N e.text (take change.kept_front ps) (made_pieces change) ∙ ap (λ (x : List Marker). x ++ marked N e.text (made_pieces change)) head) tail
      ∙ append_assoc (marked T e.old (take change.kept_front ps)) (marked N e.text (made_pieces change)) (map (moved_marker e.old_stop e.new_stop) (marked T e.old (drop k ps))) in
      ap₂ (λ (x y : List Marker). x ++ (made_ms ++ map (moved_marker e.old_stop e.new_stop) y)) at_front at_back
      ∙ ap (λ (x : List Marker). marked T e.old (take change.kept_front ps) ++ (x ++ map (moved_marker e.old_stop e.new_stop) (marked T e.old (drop k ps)))) part
      ∙ sym new

-- ---- the last marker before a place

pub last_told : {X : Type 0} (t s : X → Bool) (f : X → Marker) (q : Marker → Bool) (found : Option X) (ps : List X) → ((p : X) → s p ≡ (t p && q (f p))) → last_or (option_map f found) (filter q (map f (filter t ps))) ≡ option_map f (last_or found (filter s ps))
last_told t s f q found [] h = refl
last_told {X} t s f q found (p ∷ ps) h =
    let R : List Marker = filter q (map f (filter t ps)) in
    let S : List X = filter s ps in
    let on : (o : Option X) → last_or (option_map f o) R ≡ option_map f (last_or o S) = λ o. last_told t s f q o ps h in
    let P : Bool → Type 0 = λ (a : Bool). last_or (option_map f found) (filter q (map f (cond a (p ∷ filter t ps) (filter t ps)))) ≡ option_map f (last_or found (cond (a && q (f p)) (p ∷ S) S)) in
    let Q : Bool → Type 0 = λ (b : Bool). last_or (option_map f found) (cond b (f p ∷ R) R) ≡ option_map f (last_or found (cond b (p ∷ S) S)) in
    let here : P (t p) = elim (t p) as P [ true ↦ elim (q (f p)) as Q [ true ↦ on (Some p) | false ↦ on found ] | false ↦ on found ] in
    here ∙ ap (λ (b : Bool). option_map f (last_or found (cond b (p ∷ S) S))) (sym (h p))

-- ---- a list with other members in a place

pub split_there : {X : Type 0} (xs made : List X) (start stop : ℕ) → start ≤ length xs
    → (take (start + length made) (take start xs ++ (made ++ drop stop xs)) ≡ take start xs ++ made) × (drop (start + length made) (take start xs ++ (made ++ drop stop xs)) ≡ drop stop xs)
split_there {X} xs made start stop h =
    let front : List X = take start xs ++ made in
    let long : start + length made ≡ length front = omega (arith, length-append (take start xs) made, length-take-le start xs h) in
    let two : take start xs ++ (made ++ drop stop xs) ≡ front ++ drop stop xs = sym (append_assoc (take start xs) made (drop stop xs)) in (
      ap₂ (λ (n : ℕ) (l : List X). take n l) long two ∙ take-append_seam front (drop stop xs),
      ap₂ (λ (n : ℕ) (l : List X). drop n l) long two ∙ drop-append_seam front (drop stop xs),
    )

pub short_after : (ms : List Marker) (k : ℕ) → All IsShort ms → All IsShort (drop k ms)
short_after ms zero h = h
short_after [] (suc k) h = λ j d lt. absurd (omega (arith, lt))
short_after (m ∷ ms) (suc k) h = short_after ms k (λ j d lt. h (suc j) d (omega (arith, lt)))
