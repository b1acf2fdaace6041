-- The markers that an edit leaves. Those before it are the same in both texts. From the end of
-- a marker after it that both texts have on, both are cut alike, so all after that one are moved.
use Rattle.std.proofs.Common.{◌≡◌, ℕ, zero, suc, ◌+◌, ◌-◌, ◌^◌, ◌<◌, ◌≤◌, inl, inr, Bool, true, false, ◌&&◌, cond, is_some, nat_lt, List, [], ◌∷◌, ◌++◌, length, take, drop, map, get_or, slice_get, count_by, filter, Option, Some, None, refl, sym, ap, ap₂, ◌∙◌, subst, arith, length-drop, length-take}
use Rattle.std.specs.Prelude.{All, IfSome, option_map, unwrap_or}
use Rattle.std.specs.List.{AllByRecursion}
use Rattle.std.specs.List.Sorted.{IsNonDecreasingBy}
use Rattle.std.proofs.lemmas.List.{get_or-drop, map-append, take-append-drop, length-take-le}
use Rattle.std.proofs.lemmas.List.Elements.{All-append, All-filter}
use Rattle.std.proofs.lemmas.List.Sums.{count_by-le-length}
use Rattle.std.proofs.lemmas.Option.{get_or_from_slice_get, slice_get_within}
use Rattle.snl_cut.specs.Cut.{IsEdit}
use Rattle.snl_lex.specs.declared.marker_list.Marker.{Marker}
use Rattle.snl_lex.specs.declared.line_shift.LineShift.{LineShift}
use Rattle.snl_lex.specs.declared.piece.Class.{Class}
use Rattle.snl_lex.specs.declared.piece.Piece.{Piece}
use Rattle.snl_lex.specs.declared.shift.Shift.{Shift}
use Rattle.snl_lex.specs.LineList.{marked, marker_of, moved_marker, names, naming_markers, numbers, setting_markers}
use Rattle.snl_lex.specs.LineShift.{CountsAfter, IsApart, IsLineShift, NumbersFrom, shifted_file, shifted_marker}
use Rattle.snl_lex.specs.Lines.{is_marker, lines_between, marker_file, marker_number, place_from}
use Rattle.snl_lex.specs.Local.{first_same}
use Rattle.snl_lex.specs.Pieces.{bytes_at, first_piece, moved_piece, piece_at, piece_end, piece_length, pieces_of}
use Rattle.snl_lex.specs.Shift.{most}
use Rattle.snl_lex.proofs.Alike.{alike_after, part_agrees, start_at}
use Rattle.snl_lex.proofs.Changes.{edit_lengths}
use Rattle.snl_lex.proofs.CountedLines.{each, few_lines}
use Rattle.snl_lex.proofs.MarkerLists.{back_marked, ends_above, file_inside, front_marked, marked_parts, markers_order, piece_at_end, starts_above}
use Rattle.snl_lex.proofs.Meeting.{part_same, same_rest}
use Rattle.snl_lex.proofs.MovedLines.{filter_moved}
use Rattle.snl_lex.proofs.Members.{Leads, end_at, pieces_lead}
use Rattle.std.proofs.lemmas.Bool.{cases_lt}
use Rattle.snl_facts.specs.Lists.{drop_got}
use Rattle.snl_lex.specs.ShiftLaws.{early_offset, late_offset}
use Rattle.snl_lex.specs.LineLaws.{count_split}

-- ---- markers in order

-- The last of some markers that rise counts for all that comes after a place: so do all.
pub all_after : (text : List ℕ) (place : ℕ) (ms : List Marker) (last : Marker) → place ≤ length text → IsNonDecreasingBy (λ (m : Marker). m.end) ms
    → slice_get ms (length ms - 1) ≡ Some last → CountsAfter text place last → All (CountsAfter text place) ms
all_after text place ms last inside rise there counts k d lt =
    let least : (get_or ms k d).end ≤ (get_or ms (length ms - 1) d).end = rise k (length ms - 1) d (omega (arith, lt)) (omega (arith, lt)) in
    let at_last : (get_or ms (length ms - 1) d).end ≡ last.end = ap (λ (m : Marker). m.end) (get_or_from_slice_get ms (length ms - 1) last d there) in
    let early : last.end ≤ place = omega (arith, counts, few_lines text last.end place inside) in
    omega (arith, counts, count_split text (get_or ms k d).end last.end place (omega (arith, least, at_last)) early)

-- ---- pieces before an edit

-- The pieces of two texts: those that end before a place, which are the same, and the others.
record Parts (start : ℕ) (ps qs : List Piece) : Type 0 where
  pub front : List Piece
  pub back : List Piece
  pub new_back : List Piece
  pub old_is : ps ≡ front ++ back
  pub new_is : qs ≡ front ++ new_back
  pub before : AllByRecursion (λ p. piece_end p < start) front
  pub after : AllByRecursion (λ p. start ≤ piece_end p) back
  pub new_after : AllByRecursion (λ p. start ≤ piece_end p) new_back

same_first : (old text : List ℕ) (start from : ℕ) → take start old ≡ take start text → from < length old → from + piece_length (drop from old) < start
    → first_piece (drop from text) ≡ first_piece (drop from old)
same_first old text start from same inside before =
    first_same (drop from old) (drop from text) (omega (arith, length-drop from old, inside)) (part_same old text start from (piece_length (drop from old) + 1) same (omega (arith, before)))

same_piece : (old text : List ℕ) (from : ℕ) → first_piece (drop from text) ≡ first_piece (drop from old) → piece_at text from ≡ piece_at old from
unfolding piece_at
same_piece old text from same =
    let P : Class × ℕ → Piece = λ (p : Class × ℕ). record { kind = p.0; start = from; len = p.1 } in
    ap P same

late_parts : (old text : List ℕ) (start from : ℕ) (ps qs : List Piece) → start ≤ from → Leads old from ps (length old) → Leads text from qs (length text) → Parts start ps qs
late_parts old text start from ps qs late h g = record {
  front = [];
  back = ps;
  new_back = qs;
  old_is = refl;
  new_is = refl;
  before = tt;
  after = ends_above old from start ps (length old) h late;
  new_after = ends_above text from start qs (length text) g late;
}

one_more : (start : ℕ) (p q : Piece) (ps qs : List Piece) → q ≡ p → piece_end p < start → Parts start ps qs → Parts start (p ∷ ps) (q ∷ qs)
one_more start p q ps qs same before parts = record {
  front = p ∷ parts.front;
  back = parts.back;
  new_back = parts.new_back;
  old_is = ap (λ (l : List Piece). p ∷ l) parts.old_is;
  new_is = ap₂ (λ (x : Piece) (l : List Piece). x ∷ l) same parts.new_is;
  before = (before, parts.before);
  after = parts.after;
  new_after = parts.new_after;
}

here_parts : (old text : List ℕ) (start : ℕ) (p q : Piece) (ps qs : List Piece) → start ≤ piece_end p → start ≤ piece_end q → Leads old (piece_end p) ps (length old) → Leads text (piece_end q) qs (length text)
    → Parts start (p ∷ ps) (q ∷ qs)
here_parts old text start p q ps qs late new_late h g = record {
  front = [];
  back = p ∷ ps;
  new_back = q ∷ qs;
  old_is = refl;
  new_is = refl;
  before = tt;
  after = (late, ends_above old (piece_end p) start ps (length old) h late);
  new_after = (new_late, ends_above text (piece_end q) start qs (length text) g new_late);
}

parts : (old text : List ℕ) (start from : ℕ) (ps qs : List Piece) → take start old ≡ take start text → start ≤ length old → start ≤ length text → Leads old from ps (length old) → Leads text from qs (length text)
    → Parts start ps qs
parts old text start from [] qs same inside new_inside h g = late_parts old text start from [] qs (omega (arith, h, inside)) h g
parts old text start from (p ∷ ps) [] same inside new_inside h g = late_parts old text start from (p ∷ ps) [] (omega (arith, g, new_inside)) h g
parts old text start from (p ∷ ps) (q ∷ qs) same inside new_inside h g =
    let e = piece_at_end old from p ps (length old) h in
    let f = piece_at_end text from q qs (length text) g in
    let p_end : piece_end p ≡ from + piece_length (drop from old) = ap piece_end h.1 ∙ end_at old from in
    let q_end : piece_end q ≡ from + piece_length (drop from text) = ap piece_end g.1 ∙ end_at text from in
    elim (cases_lt (piece_end p) start) [
      | inl less ↦
          let first : first_piece (drop from text) ≡ first_piece (drop from old) = same_first old text start from same h.0 (omega (arith, p_end, less)) in
          let is : q ≡ p = g.1 ∙ same_piece old text from first ∙ sym h.1 in
          let there : Leads text (piece_end p) qs (length text) = subst (λ (x : Piece). Leads text (piece_end x) qs (length text)) is f.2 in
          one_more start p q ps qs is less (parts old text start (piece_end p) ps qs same inside new_inside e.2 there)
      | inr more ↦
          elim (cases_lt (piece_end q) start) [
            | inl less ↦
                let first : first_piece (drop from old) ≡ first_piece (drop from text) = same_first text old start from (sym same) g.0 (omega (arith, q_end, less)) in
                absurd (omega (arith, p_end, q_end, ap (λ (x : Class × ℕ). x.1) first, less, more))
            | inr late ↦ here_parts old text start p q ps qs more late e.2 f.2
          ]
    ]

-- ---- pieces after a boundary of both texts

moved_on : (old text : List ℕ) (start b c : ℕ) → IsEdit old text start b c → (p q : ℕ) (ps qs : List Piece) → b ≤ p → q ≡ (p - b) + c → Leads old p ps (length old) → Leads text q qs (length text)
    → qs ≡ map (moved_piece b c) ps
unfolding piece_at
moved_on old text start b c edit p q [] [] late is h g = refl
moved_on old text start b c edit p q [] (y ∷ ys) late is h g = absurd (omega (arith, h, g.0, is, late, edit_lengths old text start b c edit))
moved_on old text start b c edit p q (x ∷ xs) [] late is h g = absurd (omega (arith, h.0, g, is, late, edit_lengths old text start b c edit))
moved_on old text start b c edit p q (x ∷ xs) (y ∷ ys) late is h g =
    let place : (q - c) + b ≡ p = omega (arith, is, late) in
    let same : drop q text ≡ drop p old = sym (same_rest old text start b c q edit (omega (arith, is))) ∙ ap (λ (n : ℕ). drop n old) place in
    let F : ℕ → List ℕ → Piece = λ (n : ℕ) (u : List ℕ). record { kind = (first_piece u).0; start = n; len = (first_piece u).1 } in
    let head : F q (drop q text) ≡ F ((p - b) + c) (drop p old) = ap₂ F is same in
    let first : y ≡ moved_piece b c x = g.1 ∙ head ∙ sym (ap (moved_piece b c) h.1) in
    let size : piece_length (drop q text) ≡ piece_length (drop p old) = ap piece_length same in
    let next : q + piece_length (drop q text) ≡ ((p + piece_length (drop p old)) - b) + c = omega (arith, size, is, late) in
    ap₂ (λ (z : Piece) (l : List Piece). z ∷ l) first
    (moved_on old text start b c edit (p + piece_length (drop p old)) (q + piece_length (drop q text)) xs ys (omega (arith, late)) next h.2 g.2)

-- ---- markers after a marker

-- The pieces after the marker of this number, and the markers among them.
record After (passes : Piece → Bool) (text : List ℕ) (to : ℕ) (ms : List Marker) (number : ℕ) (m : Marker) : Type 0 where
  pub pieces : List Piece
  pub led : Leads text m.end pieces to
  pub rest : drop (suc number) ms ≡ marked passes text pieces

after_one : (passes : Piece → Bool) (text : List ℕ) (to : ℕ) (p : Piece) (ps : List Piece) → Leads text (piece_end p) ps to
    → ((k : ℕ) (m : Marker) → slice_get (marked passes text ps) k ≡ Some m → After passes text to (marked passes text ps) k m)
    → (b : Bool) (k : ℕ) (m : Marker) → slice_get (map (marker_of text) (cond b (p ∷ filter passes ps) (filter passes ps))) k ≡ Some m
    → After passes text to (map (marker_of text) (cond b (p ∷ filter passes ps) (filter passes ps))) k m
after_one passes text to p ps led further true zero m there =
    let same : marker_of text p ≡ m = cc in
    record { pieces = ps; led = subst (λ (x : Marker). Leads text x.end ps to) same led; rest = refl }
after_one passes text to p ps led further true (suc k) m there =
    let on = further k m there in
    record { pieces = on.pieces; led = on.led; rest = on.rest }
after_one passes text to p ps led further false k m there = further k m there

after_marker : (passes : Piece → Bool) (text : List ℕ) (from : ℕ) (ps : List Piece) (to : ℕ) → Leads text from ps to
    → (k : ℕ) (m : Marker) → slice_get (marked passes text ps) k ≡ Some m → After passes text to (marked passes text ps) k m
after_marker passes text from [] to h k m there = absurd cc
after_marker passes text from (p ∷ ps) to h k m there =
    let e = piece_at_end text from p ps to h in
    after_one passes text to p ps e.2 (after_marker passes text (piece_end p) ps to e.2) (passes p) k m there

-- ---- shifted markers

-- Where a marker's file begins is before the marker's end.
file_before : (text : List ℕ) (p : Piece) (place : ℕ × ℕ) → marker_file (bytes_at text p) ≡ Some place → place.0 < p.len
file_before text p place h = omega (arith, file_inside (bytes_at text p) place h, length-take p.len (drop p.start text))

file_stays : (s : Shift) (start : ℕ) (o : Option (ℕ × ℕ)) → ((place : ℕ × ℕ) → o ≡ Some place → start + place.0 < s.start) → shifted_file s (place_from start o) ≡ place_from start o
file_stays s start None before = refl
file_stays s start (Some place) before = ap (λ (n : ℕ). Some (n, place.1)) (early_offset s (start + place.0) (before place refl))

file_moves : (s : Shift) (start : ℕ) (o : Option (ℕ × ℕ)) → ((place : ℕ × ℕ) → o ≡ Some place → (s.start ≤ start + place.0) × (((start + place.0) - s.old_stop) + s.new_stop ≤ most))
    → shifted_file s (place_from start o) ≡ option_map (λ f. ((f.0 - s.old_stop) + s.new_stop, f.1)) (place_from start o)
file_moves s start None late = refl
file_moves s start (Some place) late =
    let at = late place refl in
    ap (λ (n : ℕ). Some (n, place.1)) (late_offset s (start + place.0) at.0 at.1)

abbrev marker_with : ℕ → ℕ → Option (ℕ × ℕ) → Marker
marker_with number end file = record { end = end; number = number; file = file }

marker_stays : (s : Shift) (text : List ℕ) (p : Piece) → piece_end p < s.start → shifted_marker s (marker_of text p) ≡ marker_of text p
marker_stays s text p before =
    ap₂ (marker_with (unwrap_or (marker_number (bytes_at text p)) 0)) (early_offset s (piece_end p) before)
    (file_stays s p.start (marker_file (bytes_at text p)) (λ place h. omega (arith, file_before text p place h, before)))

marker_moves : (s : Shift) (text : List ℕ) (p : Piece) → s.start ≤ s.old_stop → s.old_stop ≤ p.start → (piece_end p - s.old_stop) + s.new_stop ≤ most
    → shifted_marker s (marker_of text p) ≡ moved_marker s.old_stop s.new_stop (marker_of text p)
marker_moves s text p order late small =
    ap₂ (marker_with (unwrap_or (marker_number (bytes_at text p)) 0)) (late_offset s (piece_end p) (omega (arith, order, late)) small)
    (file_moves s p.start (marker_file (bytes_at text p))
    (λ place h. (omega (arith, order, late), omega (arith, file_before text p place h, late, small))))

-- Markers of pieces before the edit stay, and those of pieces after it are moved.
stay : (s : Shift) (passes : Piece → Bool) (text : List ℕ) (ps : List Piece) → AllByRecursion (λ p. piece_end p < s.start) ps → map (shifted_marker s) (marked passes text ps) ≡ marked passes text ps
stay s passes text [] before = refl
stay s passes text (p ∷ ps) before =
    let rest = stay s passes text ps before.1 in
    elim (passes p) as (λ b. map (shifted_marker s) (map (marker_of text) (cond b (p ∷ filter passes ps) (filter passes ps))) ≡ map (marker_of text) (cond b (p ∷ filter passes ps) (filter passes ps))) [
      | true ↦ ap₂ (λ (m : Marker) (ms : List Marker). m ∷ ms) (marker_stays s text p before.0) rest
      | false ↦ rest
    ]

move : (s : Shift) (passes : Piece → Bool) (text : List ℕ) (from : ℕ) (ps : List Piece) (to : ℕ) → Leads text from ps to → s.start ≤ s.old_stop → s.old_stop ≤ from → (length text - s.old_stop) + s.new_stop ≤ most
    → map (shifted_marker s) (marked passes text ps) ≡ map (moved_marker s.old_stop s.new_stop) (marked passes text ps)
move s passes text from [] to h order late small = refl
move s passes text from (p ∷ ps) to h order late small =
    let e = piece_at_end text from p ps to h in
    let starts : p.start ≡ from = ap (λ q. q.start) h.1 ∙ start_at text from in
    let rest = move s passes text (piece_end p) ps to e.2 order (omega (arith, e.0, late)) small in
    elim (passes p) as (λ b. map (shifted_marker s) (map (marker_of text) (cond b (p ∷ filter passes ps) (filter passes ps)))
    ≡ map (moved_marker s.old_stop s.new_stop) (map (marker_of text) (cond b (p ∷ filter passes ps) (filter passes ps)))) [
      | true ↦ ap₂ (λ (m : Marker) (ms : List Marker). m ∷ ms) (marker_moves s text p order (omega (arith, starts, late)) (omega (arith, e.1, small))) rest
      | false ↦ rest
    ]

-- ---- markers that name a file

abbrev has_file : Marker → Bool
has_file m = is_some m.file

place_some : (start : ℕ) (o : Option (ℕ × ℕ)) → is_some (place_from start o) ≡ is_some o
place_some start None = refl
place_some start (Some place) = refl

-- They are those of the markers that set a line that have a file.
names_told : (text : List ℕ) (ps : List Piece) → marked (names text) text ps ≡ filter has_file (marked (numbers text) text ps)
names_told text [] = refl
names_told text (p ∷ ps) =
    let rest = names_told text ps in
    let M : List Piece → List Marker = map (marker_of text) in
    let N : List Piece = filter (names text) ps in
    let S : List Piece = filter (numbers text) ps in
    let file : Bool = is_some (marker_file (bytes_at text p)) in
    let here : cond file (marker_of text p ∷ M N) (M N) ≡ cond (has_file (marker_of text p)) (marker_of text p ∷ filter has_file (M S)) (filter has_file (M S)) =
    ap₂ (λ (b : Bool) (l : List Marker). cond b (marker_of text p ∷ l) l) (sym (place_some p.start (marker_file (bytes_at text p)))) rest in
    let inner : M (cond file (p ∷ N) N) ≡ cond file (marker_of text p ∷ M N) (M N) =
    elim file as (λ b. M (cond b (p ∷ N) N) ≡ cond b (marker_of text p ∷ M N) (M N)) [ true ↦ refl | false ↦ refl ] in
    elim (numbers text p) as (λ b. M (cond (b && file) (p ∷ N) N) ≡ filter has_file (M (cond b (p ∷ S) S))) [
      | true ↦ inner ∙ here
      | false ↦ rest
    ]

file_kept : (s : Shift) (m : Marker) → has_file (shifted_marker s m) ≡ has_file m
file_kept s m = by m.file
  where
    by : (o : Option (ℕ × ℕ)) → is_some (shifted_file s o) ≡ is_some o
    by None = refl
    by (Some place) = refl

-- ---- lists from a number on

none_left : {X : Type 0} (xs : List X) (k : ℕ) → slice_get xs k ≡ None → drop k xs ≡ []
none_left [] zero h = refl
none_left [] (suc k) h = refl
none_left (x ∷ xs) zero h = absurd cc
none_left (x ∷ xs) (suc k) h = none_left xs k h

leads_le : (text : List ℕ) (from : ℕ) (ps : List Piece) (to : ℕ) → Leads text from ps to → from ≤ to
leads_le text from [] to h = omega (arith, h)
leads_le text from (p ∷ ps) to h =
    let e = piece_at_end text from p ps to h in
    omega (arith, e.0, leads_le text (piece_end p) ps to e.2)

abbrev sets : Class → List ℕ → Bool
sets kind bytes = is_marker kind && is_some (marker_number bytes)

-- ---- an edit that leaves the next marker

module _ (old text : List ℕ) (s : Shift) (edit : IsEdit old text s.start s.old_stop s.new_stop) (short : length text < 2 ^ 32) where
  abbrev early_in : List Marker → ℕ
  early_in ms = count_by (λ m. nat_lt m.end s.start) ms

  abbrev moved_all : List Marker → List Marker
  moved_all ms = map (shifted_marker s) ms

  small : (length old - s.old_stop) + s.new_stop ≤ most
  small = omega (arith, short, edit_lengths old text s.start s.old_stop s.new_stop edit, edit.old_inside)

  both_parts : Parts s.start (pieces_of old) (pieces_of text)
  both_parts =
      parts old text s.start 0 (pieces_of old) (pieces_of text) edit.before (omega (arith, edit.old_order, edit.old_inside)) (omega (arith, edit.new_order, edit.new_inside)) (pieces_lead old) (pieces_lead text)

  bytes_kept : (ps : List Piece) → AllByRecursion (λ p. piece_end p < s.start) ps → AllByRecursion (λ p. bytes_at text p ≡ bytes_at old p) ps
  bytes_kept [] before = tt
  bytes_kept (p ∷ ps) before = (part_agrees old text s.start p.start p.len edit.before (omega (arith, before.0)), bytes_kept ps before.1)

  front_markers : marked (numbers text) text both_parts.front ≡ marked (numbers old) old both_parts.front
  front_markers = front_marked sets old text both_parts.front (bytes_kept both_parts.front both_parts.before)

  old_front : take (early_in (setting_markers old)) (setting_markers old) ≡ marked (numbers old) old both_parts.front
  old_front =
      (marked_parts (numbers old) old s.start both_parts.front both_parts.back both_parts.before both_parts.after (setting_markers old) (ap (marked (numbers old) old) both_parts.old_is)).0

  new_front : take (early_in (setting_markers text)) (setting_markers text) ≡ marked (numbers old) old both_parts.front
  new_front =
      (marked_parts (numbers text) text s.start both_parts.front both_parts.new_back both_parts.before both_parts.new_after (setting_markers text) (ap (marked (numbers text) text) both_parts.new_is)).0
      ∙ front_markers

  front_length : (ms : List Marker) → length (take (early_in ms) ms) ≡ early_in ms
  front_length ms = length-take-le (early_in ms) ms (count_by-le-length (λ m. nat_lt m.end s.start) ms)

  same_early : early_in (setting_markers text) ≡ early_in (setting_markers old)
  same_early = sym (front_length (setting_markers text)) ∙ ap length (new_front ∙ sym old_front) ∙ front_length (setting_markers old)

  front_stays : take (early_in (setting_markers old)) (setting_markers text) ≡ moved_all (take (early_in (setting_markers old)) (setting_markers old))
  front_stays =
      ap (λ (n : ℕ). take n (setting_markers text)) (sym same_early) ∙ new_front
      ∙ sym (ap moved_all old_front ∙ stay s (numbers old) old both_parts.front both_parts.before)

  -- The markers after one after the edit that both texts have.
  after_next : (k : ℕ) (m : Marker) → slice_get (setting_markers old) k ≡ Some m → slice_get (setting_markers text) k ≡ Some (shifted_marker s m) → s.old_stop ≤ m.end
      → drop (suc k) (setting_markers text) ≡ moved_all (drop (suc k) (setting_markers old))
  after_next k m there new_there late =
      let a = after_marker (numbers old) old 0 (pieces_of old) (length old) (pieces_lead old) k m there in
      let b = after_marker (numbers text) text 0 (pieces_of text) (length text) (pieces_lead text) k (shifted_marker s m) new_there in
      let inside : m.end ≤ length old = leads_le old m.end a.pieces (length old) a.led in
      let place : (shifted_marker s m).end ≡ (m.end - s.old_stop) + s.new_stop = late_offset s m.end (omega (arith, edit.old_order, late)) (omega (arith, small, inside, late)) in
      let pieces : b.pieces ≡ map (moved_piece s.old_stop s.new_stop) a.pieces =
      moved_on old text s.start s.old_stop s.new_stop edit m.end (shifted_marker s m).end a.pieces b.pieces late place a.led b.led in
      let bytes = alike_after old text s.old_stop s.new_stop m.end a.pieces (length old) edit.after late a.led in
      b.rest
      ∙ ap (marked (numbers text) text) pieces
      ∙ back_marked sets old text s.old_stop s.new_stop a.pieces bytes (starts_above old m.end s.old_stop a.pieces (length old) a.led late)
      ∙ sym (ap moved_all a.rest ∙ move s (numbers old) old m.end a.pieces (length old) a.led edit.old_order late small)

  -- The next marker is the same, shifted, or there is none in either text: so are all from it on.
  rest_shifted : (k : ℕ) (next : Option Marker) → slice_get (setting_markers old) k ≡ next → slice_get (setting_markers text) k ≡ option_map (shifted_marker s) next → IfSome next (λ m. s.old_stop ≤ m.end)
      → drop k (setting_markers text) ≡ moved_all (drop k (setting_markers old))
  rest_shifted k None there new_there late = none_left (setting_markers text) k new_there ∙ sym (ap moved_all (none_left (setting_markers old) k there))
  rest_shifted k (Some m) there new_there late =
      drop_got (setting_markers text) k (shifted_marker s m) new_there
      ∙ ap (λ (ms : List Marker). shifted_marker s m ∷ ms) (after_next k m there new_there late)
      ∙ sym (ap moved_all (drop_got (setting_markers old) k m there))

  setting_shifted : (k : ℕ) → k ≡ early_in (setting_markers old) → (next : Option Marker) → slice_get (setting_markers old) k ≡ next → slice_get (setting_markers text) k ≡ option_map (shifted_marker s) next
      → IfSome next (λ m. s.old_stop ≤ m.end) → setting_markers text ≡ moved_all (setting_markers old)
  setting_shifted k is next there new_there late =
      let ms : List Marker = setting_markers old in
      let front : take k (setting_markers text) ≡ moved_all (take k ms) = subst (λ (n : ℕ). take n (setting_markers text) ≡ moved_all (take n ms)) (sym is) front_stays in
      sym (take-append-drop k (setting_markers text))
      ∙ ap₂ (λ (xs ys : List Marker). xs ++ ys) front (rest_shifted k next there new_there late)
      ∙ sym (map-append (shifted_marker s) (take k ms) (drop k ms))
      ∙ ap moved_all (take-append-drop k ms)

  naming_shifted : setting_markers text ≡ moved_all (setting_markers old) → naming_markers text ≡ moved_all (naming_markers old)
  naming_shifted shifted =
      let ms : List Marker = setting_markers old in
      names_told text (pieces_of text) ∙ ap (filter has_file) shifted
      ∙ filter_moved (shifted_marker s) has_file has_file ms (each (λ m. has_file (shifted_marker s m) ≡ has_file m) (file_kept s) ms)
      ∙ sym (ap moved_all (names_told old (pieces_of old)))

-- ---- the shift of lines

-- What holds of the next marker and of all after it.
late_all : (until : ℕ) (old : List ℕ) (ms : List Marker) (k : ℕ) → IsNonDecreasingBy (λ (m : Marker). m.end) ms → (next : Option Marker) → slice_get ms k ≡ next → NumbersFrom old until next
    → All (λ m. until ≤ m.end + 1) (drop k ms)
late_all until old ms k rise None there first i d lt = absurd (omega (arith, lt, ap length (none_left ms k there)))
late_all until old ms k rise (Some m) there first i d lt =
    let some : k < length ms = slice_get_within ms k m there in
    let far : k + i < length ms = omega (arith, lt, length-drop k ms, some) in
    let at_next : (get_or ms k d).end ≡ m.end = ap (λ (x : Marker). x.end) (get_or_from_slice_get ms k m d there) in
    let here : (get_or (drop k ms) i d).end ≡ (get_or ms (k + i) d).end = ap (λ (x : Marker). x.end) (get_or-drop k ms i d) in
    omega (arith, first.0, at_next, here, rise k (k + i) d (omega arith) far)

next_late : (old : List ℕ) (until stop : ℕ) (next : Option Marker) → NumbersFrom old until next → stop < until → IfSome next (λ m. stop ≤ m.end)
next_late old until stop None first late = tt
next_late old until stop (Some m) first late = omega (arith, first.0, late)

apart_all : (old : List ℕ) (t : LineShift) (k : ℕ) (ms : List Marker) → All (CountsAfter old t.by.start) (take k ms) → All (λ m. t.until ≤ m.end + 1) (drop k ms) → t.by.old_stop < t.until → All (IsApart old t.by) ms
apart_all old t k ms before after late =
    let P : Marker → Type 0 = IsApart old t.by in
    subst (All P) (take-append-drop k ms)
    (All-append P (take k ms) (drop k ms) (λ i d lt. inl (before i d lt)) (λ i d lt. inr (omega (arith, after i d lt, late))))

-- An edit whose next marker both texts have, and no other between, leaves all markers.
pub leaves_markers : (old text : List ℕ) (t : LineShift) → IsEdit old text t.by.start t.by.old_stop t.by.new_stop → 0 < t.by.start
    → t.by.old_lines ≡ lines_between old t.by.start t.by.old_stop → t.by.new_lines ≡ lines_between text t.by.start t.by.new_stop → length old < 2 ^ 32 → length text < 2 ^ 32
    → (k : ℕ) → k ≡ count_by (λ m. nat_lt m.end t.by.start) (setting_markers old) → All (CountsAfter old t.by.start) (take k (setting_markers old)) → t.by.old_stop < t.until
    → NumbersFrom old t.until (slice_get (setting_markers old) k) → slice_get (setting_markers text) k ≡ option_map (shifted_marker t.by) (slice_get (setting_markers old) k)
    → IsLineShift old text t
leaves_markers old text t edit some_before old_lines new_lines old_short short k is before late first shifted =
    let ms : List Marker = setting_markers old in
    let next : Option Marker = slice_get ms k in
    let setting = setting_shifted old text t.by edit short k is next refl shifted (next_late old t.until t.by.old_stop next first late) in
    let after = late_all t.until old ms k (markers_order (numbers old) old) next refl first in
    record {
      edit = edit;
      some_before = some_before;
      old_lines = old_lines;
      new_lines = new_lines;
      setting = setting;
      naming = naming_shifted old text t.by edit short setting;
      early = k;
      setting_before = before;
      setting_after = after;
      until_after = late;
      until_marker = first;
      naming_apart = subst (All (IsApart old t.by)) (sym (names_told old (pieces_of old))) (All-filter has_file (IsApart old t.by) ms (apart_all old t k ms before after late));
      old_short = old_short;
      short = short;
    }
