-- A token begins and ends where places lead back.
use Rattle.std.proofs.Common.{◌≡◌, ◌==◌, ℕ, ◌+◌, ◌<◌, Bool, true, false, cond, All, List, [], ◌∷◌, drop, filter, length, slice_get, Option, Some, inl, inr, ◌⊎◌, refl, ap, sym, subst, ◌∙◌, true≢false, arith}
use Rattle.std.specs.Prelude.{if◌then◌else◌, slice_index}
use Rattle.std.specs.List.{AllByRecursion as Each, find}
use Rattle.std.specs.Option.{option_map_or}
use Rattle.std.specs.Str.{IsCharBoundary}
use Rattle.std.proofs.lemmas.Bool.Decides.{nat_tests}
use Rattle.std.proofs.lemmas.List.{get_or-drop, length-drop}
use Rattle.std.proofs.lemmas.List.Elements.{recursion_from_All}
use Rattle.std.proofs.lemmas.Option.{get_or_from_slice_get, slice_get_within}
use Rattle.snl_facts.specs.Each.{each_both, each_filter}
use Rattle.snl_lex.specs.declared.piece.Class.TheVariants.{White}
use Rattle.snl_lex.specs.declared.piece.Piece.{Piece}
use Rattle.snl_lex.specs.Alphabet.{is_white}
use Rattle.snl_lex.specs.Classes.{HasItsClass}
use Rattle.snl_lex.specs.PieceList.{is_token_class}
use Rattle.snl_lex.specs.Pieces.{first_piece, is_token, piece_end, pieces_of}
use Rattle.snl_questions.specs.Tokens.{has_byte, token_at}
use Rattle.snl_kept.specs.declared.found.findings.Diagnostic.{Diagnostic}
use Rattle.snl_place.specs.Places.{CutsNoLineEnd}
use Rattle.snl_shown.specs.Found.{extent}

-- ---- what is known of a token

abbrev pub HoldsCharacters : List ℕ → Piece → Type 0
HoldsCharacters text p = IsCharBoundary text p.start × IsCharBoundary text (piece_end p)

-- a piece that begins with an LF is white space
abbrev WhiteAtLf : List ℕ → Piece → Type 0
WhiteAtLf text p = slice_get text p.start ≡ Some 10 → p.kind ≡ White

pub record TokenLaws (text : List ℕ) : Type 0 where
  pub characters : All (HoldsCharacters text) (pieces_of text)
  pub class : All (HasItsClass text) (pieces_of text)
  pub white : (u : List ℕ) → 0 < length u → is_white (slice_index u 0) ≡ true →
      (first_piece u).0 ≡ White

found_has : {X : Type 0} (P : X → Type 0) (test : X → Bool) (xs : List X) (x : X) → Each P xs →
    find test xs ≡ Some x → P x
found_has P test [] x all h = absurd cc
found_has P test (y ∷ ys) x all h = by (test y) (found_has P test ys x all.1) h
  where
    by : (b : Bool) → (find test ys ≡ Some x → P x) → cond b (Some y) (find test ys) ≡ Some x → P x
    by true rest e = let same : y ≡ x = cc in subst P same all.0
    by false rest e = rest e

pub filter_passes : (p : Piece → Bool) (xs : List Piece) → Each (λ x. p x ≡ true) (filter p xs)
filter_passes p [] = tt
filter_passes p (x ∷ xs) = by (p x) refl (filter_passes p xs)
  where
    by : (b : Bool) → p x ≡ b → Each (λ y. p y ≡ true) (filter p xs) →
        Each (λ y. p y ≡ true) (cond b (x ∷ filter p xs) (filter p xs))
    by true e rest = (e, rest)
    by false e rest = rest

-- a token that is found is a piece, and a token
token_has : (P : Piece → Type 0) (test : Piece → Bool) (ps : List Piece) (token : Piece) →
    Each P ps → find test (filter is_token ps) ≡ Some token → P token × (is_token token ≡ true)
token_has P test ps token all at = (
  found_has P test (filter is_token ps) token (each_filter P is_token ps all) at,
  found_has (λ p. is_token p ≡ true) test (filter is_token ps) token (filter_passes is_token ps) at,
)

pub no_white : (p : Piece) → is_token p ≡ true → p.kind ≡ White → ⊥
no_white p token white =
    let other : is_token_class p.kind ≡ false = ap is_token_class white in
    true≢false (sym token ∙ other)

is_white_lf : (b : ℕ) → b ≡ 10 → is_white b ≡ true
unfolding is_white
is_white_lf b is = ap is_white is

module _ (text : List ℕ) (laws : TokenLaws text) where
  pub white_at : (p : Piece) → HasItsClass text p → WhiteAtLf text p
  white_at p class at =
      let inside : p.start < length text = slice_get_within text p.start 10 at in
      let same : p.start + 0 ≡ p.start = omega arith in
      let first : slice_index (drop p.start text) 0 ≡ 10 =
      get_or-drop p.start text 0 0 ∙ ap (slice_index text) same
      ∙ get_or_from_slice_get text p.start 10 0 at in
      let some : 0 < length (drop p.start text) = omega (arith, inside, length-drop p.start text) in
      class.kind ∙ laws.white (drop p.start text) some
      (is_white_lf (slice_index (drop p.start text) 0) first)

  abbrev pub IsKnown : Piece → Type 0
  IsKnown p = HoldsCharacters text p × HasItsClass text p

  token_known : (offset : ℕ) (token : Piece) → token_at text offset ≡ Some token →
      IsKnown token × (is_token token ≡ true)
  token_known offset token at =
      token_has IsKnown (has_byte offset) (pieces_of text) token
      (each_both (HoldsCharacters text) (HasItsClass text) (pieces_of text)
      (recursion_from_All (HoldsCharacters text) (pieces_of text) laws.characters)
      (recursion_from_All (HasItsClass text) (pieces_of text) laws.class)) at

  pub begins_character : (offset : ℕ) (token : Piece) → token_at text offset ≡ Some token →
      IsCharBoundary text token.start
  begins_character offset token at = (token_known offset token at).0.0.0

  pub ends_character : (offset : ℕ) (token : Piece) → token_at text offset ≡ Some token →
      IsCharBoundary text (piece_end token)
  ends_character offset token at = (token_known offset token at).0.0.1

  pub cuts_nothing : (offset : ℕ) (token : Piece) → token_at text offset ≡ Some token →
      CutsNoLineEnd text token.start
  cuts_nothing offset token at i next before here =
      let known = token_known offset token at in
      no_white token known.1 (white_at token known.0.1 here)

-- a diagnostic that quotes its token, or nothing, is about the token
pub extent_is : (text : List ℕ) (d : Diagnostic) (token : Piece) →
    token_at text d.offset ≡ Some token → (d.subject ≡ 0) ⊎ (d.subject ≡ token.len) →
    extent text d ≡ token.len
extent_is text d token at quotes = by (d.subject == 0) refl quotes
  where
    told : option_map_or (λ p. p.len) (token_at text d.offset) 0 ≡ token.len
    told = ap (λ (o : Option Piece). option_map_or (λ p. p.len) o 0) at

    by : (b : Bool) → (d.subject == 0) ≡ b → (d.subject ≡ 0) ⊎ (d.subject ≡ token.len) →
        (if b then option_map_or (λ p. p.len) (token_at text d.offset) 0 else d.subject)
        ≡ token.len
    by true e q = told
    by false e (inl none) = absurd (grind (arith, nat_tests, e, none))
    by false e (inr all) = all
