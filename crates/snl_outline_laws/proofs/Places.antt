-- A byte of a token leads to that token and to no other.
use Rattle.std.proofs.Common.{◌≡◌, ℕ, zero, suc, ◌+◌, Bool, true, false, cond, List, [], ◌∷◌, slice_get, Option, None, Some, option_map, refl, ap, ◌∙◌, arith}
use Rattle.std.specs.List.{AllByRecursion as Each, position}
use Rattle.std.proofs.lemmas.Bool.Decides.{nat_tests}
use Rattle.snl_facts.specs.Each.{EachTwo, each_got}
use Rattle.snl_facts.specs.Positions.{position_cons}
use Rattle.snl_lex.specs.declared.piece.Piece.{Piece}
use Rattle.snl_kept.specs.TokenLaws.{AllBefore, Before, InARow}
use Rattle.snl_questions.specs.Tokens.{has_byte}
use Rattle.snl_questions.specs.Meanings.{place_by, place_from}

module _ (offset : ℕ) (token : Piece) (byte : has_byte offset token ≡ true) where
  -- a token before it hasn't
  missed : (p : Piece) → Before p token → has_byte offset p ≡ false
  missed p before = grind (arith, nat_tests, before, byte)

  nowhere_before : (own : List Piece) → Each (λ p. Before p token) own →
      position (has_byte offset) own ≡ None
  nowhere_before [] h = refl
  nowhere_before (p ∷ own) h =
      position_cons (has_byte offset) p own
      ∙ ap (λ (b : Bool). cond b (Some 0) (option_map suc (position (has_byte offset) own)))
      (missed p h.0)
      ∙ ap (option_map suc) (nowhere_before own h.1)

  in_own : (own : List Piece) (n : ℕ) → EachTwo Before own → slice_get own n ≡ Some token →
      position (has_byte offset) own ≡ Some n
  in_own [] n two at = absurd cc
  in_own (p ∷ own) zero two at =
      let same : p ≡ token = cc in
      position_cons (has_byte offset) p own
      ∙ ap (λ (b : Bool). cond b (Some 0) (option_map suc (position (has_byte offset) own)))
      (ap (has_byte offset) same ∙ byte)
  in_own (p ∷ own) (suc n) two at =
      position_cons (has_byte offset) p own
      ∙ ap (λ (b : Bool). cond b (Some 0) (option_map suc (position (has_byte offset) own)))
      (missed p (each_got (Before p) own n token two.0 at))
      ∙ ap (option_map suc) (in_own own n two.1 at)

  pub place_found : (text : List ℕ) (base : ℕ) (xs : List (List Piece)) (i n : ℕ)
      (own : List Piece) → EachTwo AllBefore xs → Each (InARow text) xs →
      slice_get xs i ≡ Some own → slice_get own n ≡ Some token →
      place_from offset base xs ≡ Some (record { item = base + i; token = n })
  place_found text base [] i n own apart rows at there = absurd cc
  place_found text base (x ∷ xs) zero n own apart rows at there =
      let same : x ≡ own = cc in
      let here : position (has_byte offset) x ≡ Some n =
      in_own x n rows.0.apart (ap (λ (l : List Piece). slice_get l n) same ∙ there) in
      let first : base ≡ base + 0 = omega arith in
      ap (λ (o : Option ℕ). place_by base o (place_from offset (base + 1) xs)) here
      ∙ ap (λ (k : ℕ). Some (record { item = k; token = n })) first
  place_found text base (x ∷ xs) (suc i) n own apart rows at there =
      let later : Each (λ (p : Piece). Before p token) x =
      each_got (λ (q : Piece). Each (λ (p : Piece). Before p q) x) own n token
      (each_got (AllBefore x) xs i own apart.0 at) there in
      let sum : base + 1 + i ≡ base + suc i = omega arith in
      ap (λ (o : Option ℕ). place_by base o (place_from offset (base + 1) xs))
      (nowhere_before x later)
      ∙ place_found text (base + 1) xs i n own apart.1 rows.1 at there
      ∙ ap (λ (k : ℕ). Some (record { item = k; token = n })) sum
