-- Items whose first two tokens are on one side of a place.
use Rattle.std.proofs.Common.{◌≡◌, ◌≢◌, ℕ, zero, suc, ◌+◌, ◌-◌, ◌<◌, ◌≤◌, ◌⊎◌, inl, inr, nat_eq, true, All, List, [], ◌∷◌, length, take, drop, get_or, refl, sym, ◌∙◌, subst, arith}
use Rattle.std.specs.List.{AllByRecursion, list_any}
use Rattle.std.proofs.lemmas.Bool.{cases_eq, eqb-true, false≢true, or_cases, le-leb, lt-leb}
use Rattle.std.proofs.lemmas.List.{length-take}
use Rattle.std.proofs.lemmas.List.Elements.{All-filter, All-take, recursion_from_All}
use Rattle.snl_cut.specs.Cut.{Rises, members}
use Rattle.snl_lex.specs.declared.piece.Piece.{Piece}
use Rattle.snl_lex.specs.declared.shift.Shift.{Shift}
use Rattle.snl_lex.specs.Pieces.{LiesIn, is_token, pieces_of, tokens_of}
use Rattle.snl_items.specs.Changes.{AreLeft}
use Rattle.snl_items.specs.Items.{item_ends}
use Rattle.snl_kept.specs.Program.{item_tokens}
use Rattle.snl_kept.specs.Shifted.{AreOnOneSide, IsOnOneSide, PartsNoItem}
use Rattle.snl_kept.proofs.MemberParts.{in_members}

-- The tokens that an edit leaves begin before it, or at its start or after it.
pub left_in_front : (old : List ℕ) (s : Shift) (made : List Piece) (before : ℕ) → All (LiesIn old) (pieces_of old) → AreLeft s (tokens_of old) made before → All (λ p. p.start < s.start) (take before (tokens_of old))
left_in_front old s made before inside left = λ k d lt.
    let lies : LiesIn old (get_or (take before (tokens_of old)) k d) = All-take (LiesIn old) before (tokens_of old) (All-filter is_token (LiesIn old) (pieces_of old) inside) k d lt in
    omega (arith, left.in_front k d lt, lies.0)

pub left_after : (old : List ℕ) (s : Shift) (made : List Piece) (before : ℕ) → s.start ≤ s.old_stop → AreLeft s (tokens_of old) made before → All (λ p. s.start ≤ p.start) (drop before (tokens_of old))
left_after old s made before order left = λ k d lt. omega (arith, left.after k d lt, order)

module _ (P Q : Piece → Type 0) where
  -- What holds of the first tokens and what holds of the others, from one token on.
  pub parted : (from before : ℕ) (ts : List Piece) → AllByRecursion P (take before ts) → AllByRecursion Q (drop before ts)
      → AllByRecursion P (take (before - from) (drop from ts)) × AllByRecursion Q (drop (before - from) (drop from ts))
  parted zero before ts h g =
      let same : before - 0 ≡ before = omega arith in
      (subst (λ (n : ℕ). AllByRecursion P (take n ts)) (sym same) h, subst (λ (n : ℕ). AllByRecursion Q (drop n ts)) (sym same) g)
  parted (suc from) before [] h g = none (before - suc from)
    where
      none : (n : ℕ) → AllByRecursion P (take n []) × AllByRecursion Q (drop n [])
      none zero = (tt, tt)
      none (suc n) = (tt, tt)
  parted (suc from) zero (t ∷ ts) h g =
      let rest = parted from zero ts tt g.1 in
      let same : 0 - suc from ≡ 0 - from = omega arith in
      (subst (λ (n : ℕ). AllByRecursion P (take n (drop from ts))) (sym same) rest.0, subst (λ (n : ℕ). AllByRecursion Q (drop n (drop from ts))) (sym same) rest.1)
  parted (suc from) (suc before) (t ∷ ts) h g =
      let rest = parted from before ts h.1 g in
      let same : suc before - suc from ≡ before - from = omega arith in
      (subst (λ (n : ℕ). AllByRecursion P (take n (drop from ts))) (sym same) rest.0, subst (λ (n : ℕ). AllByRecursion Q (drop n (drop from ts))) (sym same) rest.1)

-- What is found among ends that rise is above the first place.
above : (from : ℕ) (ends : List ℕ) → Rises from ends → {before : ℕ} → list_any (λ e. nat_eq e before) ends ≡ true → from ≤ before
above from [] r any = absurd (false≢true any)
above from (e ∷ es) r {before} any =
    elim (or_cases (nat_eq e before) (list_any (λ e. nat_eq e before) es) any) [
      | inl is ↦ omega (arith, eqb-true e before is, r.0)
      | inr later ↦ omega (arith, above e es r.1 later, r.0)
    ]

length-take-bound : {X : Type 0} (k : ℕ) (xs : List X) → length (take k xs) ≤ k
length-take-bound k xs = omega (arith, length-take k xs)

module _ (place : ℕ) where
  abbrev IsBefore : Piece → Type 0
  IsBefore p = p.start < place

  abbrev IsFrom : Piece → Type 0
  IsFrom p = place ≤ p.start

  one_alone : (k : ℕ) (ps : List Piece) → k ≤ 1 → IsOnOneSide place (take k ps)
  one_alone k ps few some = absurd (omega (arith, few, some, length-take-bound k ps))

  first_side : (k n : ℕ) (ps : List Piece) → n ≢ 1 → AllByRecursion IsBefore (take n ps) → AllByRecursion IsFrom (drop n ps) → IsOnOneSide place (take k ps)
  first_side zero n ps other h g some = absurd (omega arith)
  first_side (suc k) n [] other h g some = absurd (omega arith)
  first_side (suc zero) n (p ∷ ps) other h g some = absurd (omega arith)
  first_side (suc (suc k)) n (p ∷ []) other h g some = absurd (omega arith)
  first_side (suc (suc k)) zero (p ∷ q ∷ ps) other h g some = le-leb place p.start g.0 ∙ sym (le-leb place q.start g.1.0)
  first_side (suc (suc k)) (suc zero) (p ∷ q ∷ ps) other h g some = absurd (other refl)
  first_side (suc (suc k)) (suc (suc n)) (p ∷ q ∷ ps) other h g some = lt-leb place p.start h.0 ∙ sym (lt-leb place q.start h.1.0)

  module _ (before : ℕ) (ts : List Piece) (h : AllByRecursion IsBefore (take before ts)) (g : AllByRecursion IsFrom (drop before ts)) where
    sides : (from : ℕ) (ends : List ℕ) → before ≢ from + 1 → AllByRecursion (λ e. before ≢ e + 1) ends → AllByRecursion (IsOnOneSide place) (members ts from ends)
    sides from [] other others = tt
    sides from (e ∷ es) other others =
        let parts = parted IsBefore IsFrom from before ts h g in
        let there : before - from ≢ 1 = omega arith in
        (first_side (e - from) (before - from) (drop from ts) there parts.0 parts.1, sides e es others.0 others.1)

  -- where an item ends at the place, or before it already
  module _ (before : ℕ) (ts : List Piece) (h : AllByRecursion IsBefore (take before ts)) (g : AllByRecursion IsFrom (drop before ts)) where
    here : (from e : ℕ) → (before ≤ from) ⊎ (e ≤ before) → from < e → IsOnOneSide place (take (e - from) (drop from ts))
    here from e at order =
        let parts = parted IsBefore IsFrom from before ts h g in
        elim (cases_eq (before - from) 1) [
          | inl one ↦ one_alone (e - from) (drop from ts) (elim at [ inl past ↦ absurd (omega (arith, one, past)) | inr later ↦ omega (arith, one, later, order) ])
          | inr other ↦ first_side (e - from) (before - from) (drop from ts) other parts.0 parts.1
        ]

    past_sides : (from : ℕ) (ends : List ℕ) → Rises from ends → before ≤ from → AllByRecursion (IsOnOneSide place) (members ts from ends)
    past_sides from [] r past = tt
    past_sides from (e ∷ es) r past = (here from e (inl past) r.0, past_sides e es r.1 (omega (arith, past, r.0)))

    end_sides : (from : ℕ) (ends : List ℕ) → Rises from ends → list_any (λ e. nat_eq e before) ends ≡ true → AllByRecursion (IsOnOneSide place) (members ts from ends)
    end_sides from [] r any = tt
    end_sides from (e ∷ es) r any =
        elim (or_cases (nat_eq e before) (list_any (λ e. nat_eq e before) es) any) [
          | inl is ↦ let same = eqb-true e before is in (here from e (inr (omega (arith, same))) r.0, past_sides e es r.1 (omega (arith, same)))
          | inr later ↦ (here from e (inr (above e es r.1 later)) r.0, end_sides e es r.1 later)
        ]

  all_before : (m : List Piece) → AllByRecursion IsBefore m → IsOnOneSide place m
  all_before [] h some = absurd (omega arith)
  all_before (p ∷ []) h some = absurd (omega arith)
  all_before (p ∷ q ∷ ps) h some = lt-leb place p.start h.0 ∙ sym (lt-leb place q.start h.1.0)

  each_before : (ms : List (List Piece)) → AllByRecursion (AllByRecursion IsBefore) ms → AllByRecursion (IsOnOneSide place) ms
  each_before [] h = tt
  each_before (m ∷ ms) h = (all_before m h.0, each_before ms h.1)

  -- No item begins after a text.
  pub none_after : (text : List ℕ) → All (LiesIn text) (pieces_of text) → length text < place → AreOnOneSide place text
  unfolding item_tokens
  none_after text inside past =
      let lie : All (LiesIn text) (tokens_of text) = All-filter is_token (LiesIn text) (pieces_of text) inside in
      let early : All IsBefore (tokens_of text) = λ k d lt. omega (arith, (lie k d lt).0, (lie k d lt).1, past) in
      each_before (item_tokens text) (in_members IsBefore (tokens_of text) early 0 (item_ends text))

  -- So many tokens begin before the place, and an item ends at the last of them.
  pub ends_there : (text : List ℕ) (before : ℕ) → All IsBefore (take before (tokens_of text)) → All IsFrom (drop before (tokens_of text)) → Rises 0 (item_ends text)
      → list_any (λ e. nat_eq e before) (item_ends text) ≡ true → AreOnOneSide place text
  unfolding item_tokens
  ends_there text before h g rises any =
      end_sides before (tokens_of text) (recursion_from_All IsBefore (take before (tokens_of text)) h) (recursion_from_All IsFrom (drop before (tokens_of text)) g) 0 (item_ends text) rises any

  -- So many tokens begin before the place, and no item has its first token alone among them.
  pub on_one_side : (text : List ℕ) (before : ℕ) → All IsBefore (take before (tokens_of text)) → All IsFrom (drop before (tokens_of text)) → PartsNoItem before (item_ends text) → AreOnOneSide place text
  unfolding item_tokens
  on_one_side text before h g parts =
      sides before (tokens_of text) (recursion_from_All IsBefore (take before (tokens_of text)) h) (recursion_from_All IsFrom (drop before (tokens_of text)) g) 0 (item_ends text)
      (omega (arith, parts.0)) (recursion_from_All (λ e. before ≢ e + 1) (item_ends text) parts.1)
