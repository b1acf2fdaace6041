-- The token that has a byte, by the ends of the pieces.
use Rattle.std.proofs.Common.{◌≡◌, ℕ, zero, suc, ◌+◌, ◌-◌, ◌<◌, ◌≤◌, ◌&&◌, List, [], ◌∷◌, length, get_or, filter, find, All, Contains, Option, Some, None, Bool, true, false, cond, nat_le, nat_lt, refl, sym, ap, ◌∙◌, arith, le-leb, leb-true, leb-false, lt-ltb}
use Rattle.std.proofs.lemmas.Bool.Decides.{nat_tests}
use Rattle.std.proofs.lemmas.List.{length-map}
use Rattle.std.proofs.lemmas.List.Elements.{All-contains, All-cons, All-filter, All-head, All-nil, All-tail, All-weaker}
use Rattle.std.specs.List.Sorted.{IsNonDecreasing}
use Rattle.snl_cut.specs.Cut.{Rises}
use Rattle.snl_lex.specs.PieceList.{listed_pieces, piece_ends, piece_kinds}
use Rattle.snl_lex.specs.Pieces.{LiesIn, is_token, piece_end, pieces_of, tokens_of}
use Rattle.snl_lex.specs.declared.piece.Class.{Class}
use Rattle.snl_lex.specs.declared.piece.Piece.{Piece}
use Rattle.snl_questions.specs.Tokens.{IsCount, has_byte, token_at, token_numbered}

-- ---- the ends of pieces rise

abbrev pub HasByte : Piece → Type 0
HasByte p = 1 ≤ p.len

abbrev piece : Class → (from end : ℕ) → Piece
piece k from end = record { kind = k; start = from; len = end - from }

-- each piece has a byte, so the ends rise
pub ends_rise : (from : ℕ) (ends : List ℕ) (kinds : List Class) → length ends ≡ length kinds →
    All HasByte (listed_pieces from ends kinds) → Rises from ends
ends_rise from [] kinds same some = tt
ends_rise from (e ∷ ends) [] same some = absurd (omega arith)
ends_rise from (e ∷ ends) (k ∷ kinds) same some =
    let rest = listed_pieces e ends kinds in
    let here : 1 ≤ e - from = All-head HasByte (piece k from e) rest some in
    (omega (arith, here), ends_rise e ends kinds (omega arith) (All-tail HasByte (piece k from e) rest some))

above : (from : ℕ) (ends : List ℕ) (i : ℕ) (d : ℕ) → Rises from ends → i < length ends → from < get_or ends i d
above from [] i d h within = absurd (omega arith)
above from (e ∷ ends) zero d h within = h.0
above from (e ∷ ends) (suc i) d h within = omega (arith, h.0, above e ends i d h.1 (omega arith))

pub rising : (from : ℕ) (ends : List ℕ) → Rises from ends → IsNonDecreasing ends
rising from [] h i j d le within = absurd (omega arith)
rising from (e ∷ ends) h zero zero d le within = omega arith
rising from (e ∷ ends) h zero (suc j) d le within = omega (arith, above e ends j d h.1 (omega arith))
rising from (e ∷ ends) h (suc i) zero d le within = absurd (omega arith)
rising from (e ∷ ends) h (suc i) (suc j) d le within = rising e ends h.1 i j d (omega arith) (omega arith)

-- ---- which piece has a byte

before_byte : (from e offset : ℕ) → offset < from →
    (nat_le from offset && nat_lt offset (from + (e - from))) ≡ false
before_byte from e offset h = grind (arith, nat_tests)

after_byte : (from stop offset : ℕ) → stop ≤ offset → (nat_le from offset && nat_lt offset stop) ≡ false
after_byte from stop offset past = grind (arith, nat_tests)

at_byte : (from stop offset : ℕ) → from ≤ offset → offset < stop →
    (nat_le from offset && nat_lt offset stop) ≡ true
at_byte from stop offset h under = rw (le-leb from offset h, lt-ltb offset stop under) refl

-- ---- the first token that has it

-- what is found, by whether the first piece is a token and has the byte
abbrev first_or : (token has : Bool) → Piece → Option Piece → Option Piece
first_or token has p rest = cond token (cond has (Some p) rest) rest

find_first : (offset : ℕ) (p : Piece) (ps : List Piece) (token has : Bool) →
    is_token p ≡ token → has_byte offset p ≡ has →
    find (has_byte offset) (filter is_token (p ∷ ps)) ≡
    first_or token has p (find (has_byte offset) (filter is_token ps))
find_first offset p ps true has t h =
    ap (λ b. find (has_byte offset) (cond b (p ∷ filter is_token ps) (filter is_token ps))) t
    ∙ ap (λ b. cond b (Some p) (find (has_byte offset) (filter is_token ps))) h
find_first offset p ps false has t h =
    ap (λ b. find (has_byte offset) (cond b (p ∷ filter is_token ps) (filter is_token ps))) t

not_both : (token : Bool) (p : Piece) (rest : Option Piece) → first_or token false p rest ≡ rest
not_both true p rest = refl
not_both false p rest = refl

passed : (offset : ℕ) (p : Piece) (ps : List Piece) → has_byte offset p ≡ false →
    find (has_byte offset) (filter is_token (p ∷ ps)) ≡ find (has_byte offset) (filter is_token ps)
passed offset p ps h = find_first offset p ps (is_token p) false refl h ∙ not_both (is_token p) p _

-- no piece that begins later has it
none_later : (offset from : ℕ) (ends : List ℕ) (kinds : List Class) → offset < from → Rises from ends →
    find (has_byte offset) (filter is_token (listed_pieces from ends kinds)) ≡ None
none_later offset from [] kinds h rise = refl
none_later offset from (e ∷ ends) [] h rise = refl
none_later offset from (e ∷ ends) (k ∷ kinds) h rise =
    passed offset (piece k from e) (listed_pieces e ends kinds) (before_byte from e offset h)
    ∙ none_later offset e ends kinds (omega (arith, rise.0)) rise.1

only_first : (p : Piece) (rest : Option Piece) → rest ≡ None → (token : Bool) →
    first_or token true p rest ≡ cond token (Some p) None
only_first p rest none true = refl
only_first p rest none false = none

token_found : (offset from : ℕ) (ends : List ℕ) (kinds : List Class) (number : ℕ) →
    from ≤ offset → Rises from ends → length ends ≡ length kinds → IsCount offset ends number →
    token_numbered from ends kinds number ≡
    find (has_byte offset) (filter is_token (listed_pieces from ends kinds))
token_found offset from [] kinds number h rise same parted = refl
token_found offset from (e ∷ ends) [] number h rise same parted = absurd (omega arith)
token_found offset from (e ∷ ends) (k ∷ kinds) zero h rise same parted =
    let p = piece k from e in
    let under : offset < e = leb-false e offset (parted.1 0 e (omega arith) (omega arith)) in
    let has : has_byte offset p ≡ true = at_byte from (from + (e - from)) offset h (omega (arith, rise.0)) in
    sym (
    find_first offset p (listed_pieces e ends kinds) (is_token p) true refl has
    ∙ only_first p _ (none_later offset e ends kinds under rise.1) (is_token p)
    )
token_found offset from (e ∷ ends) (k ∷ kinds) (suc number) h rise same parted =
    let past : e ≤ offset = leb-true e offset (parted.0 0 e (omega arith) (omega arith)) in
    token_found offset e ends kinds number past rise.1 (omega arith) (
      (λ i d low high. parted.0 (suc i) d (omega arith) (omega (arith, high))),
      (λ i d low high. parted.1 (suc i) d (omega (arith, low)) (omega (arith, high))),
    )
    ∙ sym (passed offset (piece k from e) (listed_pieces e ends kinds)
    (after_byte from (from + (e - from)) offset (omega (arith, rise.0))))

-- ---- of a text

-- the lists are those of the text: its pieces, with a byte each
pub record AreOf (text : List ℕ) (ends : List ℕ) (kinds : List Class) : Type 0 where
  pub same : length ends ≡ length kinds
  pub pieces : listed_pieces 0 ends kinds ≡ pieces_of text
  pub rise : Rises 0 ends

pub are_of : (text : List ℕ) (ends : List ℕ) (kinds : List Class) →
    listed_pieces 0 (piece_ends text) (piece_kinds text) ≡ pieces_of text →
    All (LiesIn text) (pieces_of text) → length ends ≡ length kinds →
    ends ≡ piece_ends text → kinds ≡ piece_kinds text → AreOf text ends kinds
are_of text ends kinds listed inside same e k =
    let pieces : listed_pieces 0 ends kinds ≡ pieces_of text = rw (e, k) listed in
    let some : All HasByte (pieces_of text) = All-weaker (LiesIn text) HasByte (λ p h. h.0) _ inside in
    record {
      same = same;
      pieces = pieces;
      rise = ends_rise 0 ends kinds same (rw pieces some);
    }

pub found : (text : List ℕ) (ends : List ℕ) (kinds : List Class) (offset number : ℕ) →
    AreOf text ends kinds → IsCount offset ends number →
    token_numbered 0 ends kinds number ≡ token_at text offset
found text ends kinds offset number h parted =
    token_found offset 0 ends kinds number (omega arith) h.rise h.same parted
    ∙ ap (λ ps. find (has_byte offset) (filter is_token ps)) h.pieces

-- ---- each byte of a token

-- each ends before those after it begin
abbrev AreApart : List Piece → Type 0
AreApart [] = Unit {0}
AreApart (q ∷ qs) = All (λ p. piece_end q ≤ p.start) qs × AreApart qs

found_own : (offset : ℕ) (ts : List Piece) (p : Piece) (k : ℕ) → AreApart ts → k < length ts → get_or ts k p ≡ p →
    p.start ≤ offset → offset < piece_end p → find (has_byte offset) ts ≡ Some p
found_own offset [] p k apart within is from under = absurd (omega arith)
found_own offset (q ∷ qs) p zero apart within is from under =
    rw is (ap (λ b. cond b (Some p) (find (has_byte offset) qs)) (at_byte p.start (piece_end p) offset from under))
found_own offset (q ∷ qs) p (suc k) apart within is from under =
    let later : piece_end q ≤ p.start =
    All-contains (λ r. piece_end q ≤ r.start) qs p apart.0 (k, omega (arith, within), is) in
    ap (λ b. cond b (Some q) (find (has_byte offset) qs))
    (after_byte q.start (piece_end q) offset (omega (arith, later)))
    ∙ found_own offset qs p k apart.1 (omega arith) is from under

later_begin : (place from : ℕ) (ends : List ℕ) (kinds : List Class) → place ≤ from → Rises from ends →
    All (λ p. place ≤ p.start) (listed_pieces from ends kinds)
later_begin place from [] kinds h rise = All-nil (λ p. place ≤ p.start)
later_begin place from (e ∷ ends) [] h rise = All-nil (λ p. place ≤ p.start)
later_begin place from (e ∷ ends) (k ∷ kinds) h rise =
    All-cons (λ p. place ≤ p.start) (piece k from e) (listed_pieces e ends kinds) h
    (later_begin place e ends kinds (omega (arith, rise.0)) rise.1)

apart_if : (token : Bool) (q : Piece) (qs : List Piece) → All (λ p. piece_end q ≤ p.start) qs → AreApart qs →
    AreApart (cond token (q ∷ qs) qs)
apart_if true q qs later apart = (later, apart)
apart_if false q qs later apart = apart

are_apart : (from : ℕ) (ends : List ℕ) (kinds : List Class) → Rises from ends →
    AreApart (filter is_token (listed_pieces from ends kinds))
are_apart from [] kinds rise = tt
are_apart from (e ∷ ends) [] rise = tt
are_apart from (e ∷ ends) (k ∷ kinds) rise =
    let q = piece k from e in
    let rest = listed_pieces e ends kinds in
    apart_if (is_token q) q (filter is_token rest)
    (All-filter is_token (λ p. piece_end q ≤ p.start) rest
    (later_begin (piece_end q) e ends kinds (omega (arith, rise.0)) rise.1))
    (are_apart e ends kinds rise.1)

pub own_byte : (text : List ℕ) (token : Piece) (offset : ℕ) →
    listed_pieces 0 (piece_ends text) (piece_kinds text) ≡ pieces_of text →
    All (LiesIn text) (pieces_of text) → Contains (tokens_of text) token →
    token.start ≤ offset → offset < piece_end token → token_at text offset ≡ Some token
own_byte text token offset listed inside held from under =
    let ps = pieces_of text in
    let same : length (piece_ends text) ≡ length (piece_kinds text) =
    omega (arith, length-map ps piece_end, length-map ps (λ (p : Piece). p.kind)) in
    let h = are_of text (piece_ends text) (piece_kinds text) listed inside same refl refl in
    let apart : AreApart (tokens_of text) =
    rw (sym h.pieces) (are_apart 0 (piece_ends text) (piece_kinds text) h.rise) in
    found_own offset (tokens_of text) token held.0 apart held.1 held.2 from under
