-- The pieces before and after an edit have the bytes that they had.
use Rattle.std.proofs.Common.{◌≡◌, ℕ, zero, suc, ◌+◌, ◌-◌, ◌≤◌, inl, inr, List, [], ◌∷◌, map, take, drop, refl, sym, ap, ◌∙◌, subst, arith}
use Rattle.std.specs.List.{AllByRecursion}
use Rattle.std.proofs.lemmas.List.{drop-drop, take-take, drop-take}
use Rattle.snl_cut.specs.Cut.{ends_below, last_end}
use Rattle.snl_lex.specs.declared.piece.Piece.{Piece}
use Rattle.snl_lex.specs.Pieces.{bytes_at, moved_piece, piece_at, piece_end, piece_length}
use Rattle.snl_lex.proofs.Members.{Leads, end_at}
use Rattle.snl_cut.specs.CutLaws.{below_yes, below_no}
use Rattle.std.proofs.lemmas.Bool.{cases_lt}

-- Two texts that agree before a place agree on any part that lies before it.
pub part_agrees : (old text : List ℕ) (a from m : ℕ) → take a old ≡ take a text → from + m ≤ a → take m (drop from text) ≡ take m (drop from old)
part_agrees old text a from m h le =
    let one : take (from + m) text ≡ take (from + m) old = sym (take-take (from + m) a text le) ∙ (ap (take (from + m)) (sym h) ∙ take-take (from + m) a old le) in
    sym (drop-take from m text) ∙ (ap (drop from) one ∙ drop-take from m old)

pub alike_before : (old text : List ℕ) (start : ℕ) (ps : List Piece) → take start old ≡ take start text
    → AllByRecursion (λ p. bytes_at text p ≡ bytes_at old p) (take (ends_below start (map piece_end ps)) ps)
alike_before old text start [] h = tt
alike_before old text start (p ∷ ps) h =
    elim (cases_lt (piece_end p) start) [
      | inl less ↦
          subst (λ (n : ℕ). AllByRecursion (λ q. bytes_at text q ≡ bytes_at old q) (take n (p ∷ ps))) (sym (below_yes (piece_end p) start (map piece_end ps) less))
          (part_agrees old text start p.start p.len h (omega arith), alike_before old text start ps h)
      | inr more ↦ subst (λ (n : ℕ). AllByRecursion (λ q. bytes_at text q ≡ bytes_at old q) (take n (p ∷ ps))) (sym (below_no (piece_end p) start (map piece_end ps) more)) tt
    ]

pub start_at : (text : List ℕ) (at : ℕ) → (piece_at text at).start ≡ at
unfolding piece_at
start_at text at = refl

pub leads_back : (text : List ℕ) (from : ℕ) (ps : List Piece) (to k : ℕ) → Leads text from ps to → Leads text (last_end from (take k (map piece_end ps))) (drop k ps) to
leads_back text from ps to zero h = h
leads_back text from [] to (suc k) h = h
leads_back text from (p ∷ ps) to (suc k) h =
    let e : piece_end p ≡ from + piece_length (drop from text) = ap piece_end h.1 ∙ end_at text from in
    leads_back text (piece_end p) ps to k (subst (λ (n : ℕ). Leads text n ps to) (sym e) h.2)

pub alike_after : (old text : List ℕ) (b c from : ℕ) (ps : List Piece) (to : ℕ) → drop b old ≡ drop c text → b ≤ from → Leads old from ps to
    → AllByRecursion (λ p. bytes_at text (moved_piece b c p) ≡ bytes_at old p) ps
alike_after old text b c from [] to h le l = tt
alike_after old text b c from (p ∷ ps) to h le l =
    let starts : p.start ≡ from = ap (λ q. q.start) l.1 ∙ start_at old from in
    let place : c + (p.start - b) ≡ (p.start - b) + c = omega arith in
    let there : b + (p.start - b) ≡ p.start = omega arith in
    let rest : drop ((p.start - b) + c) text ≡ drop p.start old =
    ap (λ n. drop n text) (sym place) ∙ sym (drop-drop (p.start - b) c text) ∙ ap (drop (p.start - b)) (sym h) ∙ drop-drop (p.start - b) b old ∙ ap (λ n. drop n old) there in
    (ap (take p.len) rest, alike_after old text b c (from + piece_length (drop from old)) ps to h (omega arith) l.2)
