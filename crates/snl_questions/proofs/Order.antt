-- The tokens of a text are one after another, item by item: so a span from one item to a later one
-- covers what is between them.
use Rattle.std.proofs.Common.{◌≡◌, ℕ, zero, suc, ◌+◌, ◌-◌, ◌<◌, ◌≤◌, List, [], ◌∷◌, length, slice_get, Option, None, Some, inl, inr, refl, ap, ap₂, sym, subst, ◌∙◌, arith}
use Rattle.std.specs.List.{AllByRecursion as Each}
use Rattle.std.specs.Option.{option_and_then, option_map}
use Rattle.std.proofs.lemmas.Bool.{cases_lt}
use Rattle.std.proofs.lemmas.Option.{same_Some, slice_get_within}
use Rattle.snl_facts.specs.Each.{EachTwo, each_got}
use Rattle.snl_lex.specs.declared.piece.Piece.{Piece}
use Rattle.snl_lex.specs.Pieces.{piece_end}
use Rattle.snl_tables.specs.declared.rows.Span.{Span}
use Rattle.snl_kept.specs.Program.{item_tokens}
use Rattle.snl_kept.specs.TokenLaws.{AllBefore, Before, InARow}
use Rattle.snl_questions.specs.Items.{span_at, span_of, start_of, stop_of}
use Rattle.snl_questions.specs.Extents.{LiesWithin}
use Rattle.snl_questions.specs.Symbols.{span_between}

-- ---- lists

pub get_here : {X : Type 0} (xs : List X) (j : ℕ) → j < length xs →
    (x : X) × (slice_get xs j ≡ Some x)
get_here [] j l = absurd (omega (arith, l))
get_here (x ∷ xs) zero l = (x, refl)
get_here (x ∷ xs) (suc j) l = get_here xs j (omega (arith, l))

-- what holds of each element and each later one
two_got : {X : Type 0} (R : X → X → Type 0) (xs : List X) (i j : ℕ) (x y : X) → EachTwo R xs →
    i < j → slice_get xs i ≡ Some x → slice_get xs j ≡ Some y → R x y
two_got R [] i j x y two less at_x at_y = absurd cc
two_got R (z ∷ zs) i zero x y two less at_x at_y = absurd (omega (arith, less))
two_got R (z ∷ zs) zero (suc j) x y two less at_x at_y =
    let same : z ≡ x = same_Some z x at_x in
    subst (λ w. R w y) same (each_got (R z) zs j y two.0 at_y)
two_got R (z ∷ zs) (suc i) (suc j) x y two less at_x at_y =
    two_got R zs i j x y two.1 (omega (arith, less)) at_x at_y

-- ---- tokens

-- a token neither begins nor ends after another
pub record NotAfter (p q : Piece) : Type 0 where
  pub start : p.start ≤ q.start
  pub stop : p.start + p.len ≤ q.start + q.len

ordered : (p q : Piece) → Before p q → NotAfter p q
ordered p q before = record { start = omega (arith, before); stop = omega (arith, before) }

one_token : (p q : Piece) → p ≡ q → NotAfter p q
one_token p q same =
    subst (NotAfter p) same (record { start = omega arith; stop = omega arith })

in_item : (own : List Piece) (n m : ℕ) (p q : Piece) → EachTwo Before own → n ≤ m →
    slice_get own n ≡ Some p → slice_get own m ≡ Some q → NotAfter p q
in_item own n m p q two le at_p at_q =
    elim (cases_lt n m) [
      | inl less ↦ ordered p q (two_got Before own n m p q two less at_p at_q)
      | inr more ↦
          let place : n ≡ m = omega (arith, le, more) in
          one_token p q (same_Some p q (sym at_p ∙ ap (slice_get own) place ∙ at_q))
    ]

-- ---- a token, and the bytes from one item to another

-- token n of item i has the span
pub record IsToken (xs : List (List Piece)) (i n : ℕ) (s : Span) : Type 0 where
  pub own : List Piece
  pub token : Piece
  pub own_at : slice_get xs i ≡ Some own
  pub token_at : slice_get own n ≡ Some token
  pub is : s ≡ span_of token

-- from the first byte of a token to the last one of another
abbrev pub span_from : Piece → Piece → Span
span_from first last = record { start = first.start; len = piece_end last - first.start }

-- the span goes from the first token of item i to the last one of item m
pub record Spans (xs : List (List Piece)) (i m : ℕ) (s : Span) : Type 0 where
  pub own : List Piece
  pub later : List Piece
  pub first : Piece
  pub last : Piece
  pub own_at : slice_get xs i ≡ Some own
  pub later_at : slice_get xs m ≡ Some later
  pub first_at : slice_get own 0 ≡ Some first
  pub last_at : slice_get later (length later - 1) ≡ Some last
  pub is : s ≡ span_from first last

abbrev pub first_start : List Piece → Option ℕ
first_start own = option_map (λ (token : Piece). token.start) (slice_get own 0)

abbrev pub last_stop : List Piece → Option ℕ
last_stop own = option_map piece_end (slice_get own (length own - 1))

abbrev span_in : ℕ → List Piece → Option Span
span_in n own = option_map span_of (slice_get own n)

pub token_told : (xs : List (List Piece)) (i n : ℕ) (s : Span) → span_at xs i n ≡ Some s →
    IsToken xs i n s
token_told xs i n s = by (slice_get xs i) refl
  where
    in_own : (own : List Piece) → slice_get xs i ≡ Some own → (o : Option Piece) →
        slice_get own n ≡ o → option_map span_of o ≡ Some s → IsToken xs i n s
    in_own own at None none h = absurd cc
    in_own own at (Some token) there h = record {
      own = own;
      token = token;
      own_at = at;
      token_at = there;
      is = sym (same_Some (span_of token) s h);
    }

    by : (o : Option (List Piece)) → slice_get xs i ≡ o →
        option_and_then (span_in n) o ≡ Some s → IsToken xs i n s
    by None at h = absurd cc
    by (Some own) at h = in_own own at (slice_get own n) refl h

pub spans_told : (xs : List (List Piece)) (i m : ℕ) (s : Span) →
    span_between (start_of xs i) (stop_of xs m) ≡ Some s → Spans xs i m s
spans_told xs i m s = by (slice_get xs i) refl
  where
    ends : (own later : List Piece) (first : Piece) → slice_get xs i ≡ Some own →
        slice_get xs m ≡ Some later → slice_get own 0 ≡ Some first → (o : Option Piece) →
        slice_get later (length later - 1) ≡ o →
        span_between (Some first.start) (option_map piece_end o) ≡ Some s → Spans xs i m s
    ends own later first own_at later_at first_at None none h = absurd cc
    ends own later first own_at later_at first_at (Some last) there h = record {
      own = own;
      later = later;
      first = first;
      last = last;
      own_at = own_at;
      later_at = later_at;
      first_at = first_at;
      last_at = there;
      is = sym (same_Some (span_from first last) s h);
    }

    goes_on : (own : List Piece) (first : Piece) → slice_get xs i ≡ Some own →
        slice_get own 0 ≡ Some first → (o : Option (List Piece)) → slice_get xs m ≡ o →
        span_between (Some first.start) (option_and_then last_stop o) ≡ Some s → Spans xs i m s
    goes_on own first own_at first_at None none h = absurd cc
    goes_on own first own_at first_at (Some later) later_at h =
        ends own later first own_at later_at first_at (slice_get later (length later - 1)) refl h

    begins : (own : List Piece) → slice_get xs i ≡ Some own → (o : Option Piece) →
        slice_get own 0 ≡ o →
        span_between (option_map (λ (token : Piece). token.start) o) (stop_of xs m) ≡ Some s →
        Spans xs i m s
    begins own own_at None none h = absurd cc
    begins own own_at (Some first) there h = goes_on own first own_at there (slice_get xs m) refl h

    by : (o : Option (List Piece)) → slice_get xs i ≡ o →
        span_between (option_and_then first_start o) (stop_of xs m) ≡ Some s → Spans xs i m s
    by None at h = absurd cc
    by (Some own) at h = begins own at (slice_get own 0) refl h

-- ---- items

-- items that are one after another, and their tokens
pub record AreInARow (text : List ℕ) : Type 0 where
  pub apart : EachTwo AllBefore (item_tokens text)
  pub rows : Each (InARow text) (item_tokens text)

module _ (text : List ℕ) (row : AreInARow text) where
  abbrev xs : List (List Piece)
  xs = item_tokens text

  in_items : (i j n m : ℕ) (x y : List Piece) (p q : Piece) → i < j →
      slice_get xs i ≡ Some x → slice_get xs j ≡ Some y →
      slice_get x n ≡ Some p → slice_get y m ≡ Some q → NotAfter p q
  in_items i j n m x y p q less at_x at_y at_p at_q =
      let all : AllBefore x y = two_got AllBefore xs i j x y row.apart less at_x at_y in
      let here : Each (λ (r : Piece). Before r q) x =
      each_got (λ (s : Piece). Each (λ (r : Piece). Before r s) x) y m q all at_q in
      ordered p q (each_got (λ (r : Piece). Before r q) x n p here at_p)

  pub row_of : (i : ℕ) (x : List Piece) → slice_get xs i ≡ Some x → InARow text x
  row_of i x at = each_got (InARow text) xs i x row.rows at

  -- one place is not after another
  along : (i j n m : ℕ) (x y : List Piece) (p q : Piece) → i ≤ j → (x ≡ y → n ≤ m) →
      slice_get xs i ≡ Some x → slice_get xs j ≡ Some y →
      slice_get x n ≡ Some p → slice_get y m ≡ Some q → NotAfter p q
  along i j n m x y p q le inside at_x at_y at_p at_q =
      elim (cases_lt i j) [
        | inl less ↦ in_items i j n m x y p q less at_x at_y at_p at_q
        | inr more ↦
            let place : i ≡ j = omega (arith, le, more) in
            let same : x ≡ y = same_Some x y (sym at_x ∙ ap (slice_get xs) place ∙ at_y) in
            in_item x n m p q (row_of i x at_x).apart (inside same) at_p
            (ap (λ (l : List Piece). slice_get l m) same ∙ at_q)
      ]

  -- there is a span from one item to another
  pub span_there : (i m : ℕ) → i < length xs → m < length xs →
      (s : Span) × (span_between (start_of xs i) (stop_of xs m) ≡ Some s)
  span_there i m in_i in_m =
      let own = get_here xs i in_i in
      let later = get_here xs m in_m in
      let first = get_here own.0 0 (row_of i own.0 own.1).some in
      let some : 0 < length later.0 = (row_of m later.0 later.1).some in
      let last = get_here later.0 (length later.0 - 1) (omega (arith, some)) in
      let starts : start_of xs i ≡ Some first.0.start =
      ap (option_and_then first_start) own.1
      ∙ ap (option_map (λ (token : Piece). token.start)) first.1 in
      let stops : stop_of xs m ≡ Some (piece_end last.0) =
      ap (option_and_then last_stop) later.1 ∙ ap (option_map piece_end) last.1 in
      (span_from first.0 last.0, ap₂ span_between starts stops)

  -- ---- what lies within it

  -- a token of an item from the first to the last
  pub token_within : (i j n m : ℕ) (outer s : Span) → Spans xs i m outer → IsToken xs j n s →
      i ≤ j → j ≤ m → LiesWithin outer s
  token_within i j n m outer s spans token after before =
      let starts = along i j 0 n spans.own token.own spans.first token.token after
      (λ same. omega arith) spans.own_at token.own_at spans.first_at token.token_at in
      let few = slice_get_within token.own n token.token token.token_at in
      let stops = along j m n (length spans.later - 1) token.own spans.later token.token spans.last
      before (λ same. omega (arith, few, ap (λ (l : List Piece). length l) same))
      token.own_at spans.later_at token.token_at spans.last_at in
      let all : Span = span_from spans.first spans.last in
      let within : LiesWithin all (span_of token.token) = record {
        start = starts.start;
        stop = omega (arith, starts.start, stops.stop);
      } in
      subst (λ (o : Span). LiesWithin o s) (sym spans.is)
      (subst (λ (o : Span). LiesWithin all o) (sym token.is) within)

  -- the bytes from one such item to another
  pub span_within : (i j k m : ℕ) (outer s : Span) → Spans xs i m outer → Spans xs j k s →
      i ≤ j → j ≤ k → k ≤ m → LiesWithin outer s
  span_within i j k m outer s spans inner after order before =
      let starts = along i j 0 0 spans.own inner.own spans.first inner.first after
      (λ same. omega arith) spans.own_at inner.own_at spans.first_at inner.first_at in
      let own = along j k 0 (length inner.later - 1) inner.own inner.later inner.first inner.last
      order (λ same. omega arith) inner.own_at inner.later_at inner.first_at inner.last_at in
      let stops = along k m (length inner.later - 1) (length spans.later - 1) inner.later
      spans.later inner.last spans.last before
      (λ same. omega (arith, ap (λ (l : List Piece). length l) same))
      inner.later_at spans.later_at inner.last_at spans.last_at in
      let all : Span = span_from spans.first spans.last in
      let within : LiesWithin all (span_from inner.first inner.last) = record {
        start = starts.start;
        stop = omega (arith, starts.start, own.start, stops.stop);
      } in
      subst (λ (o : Span). LiesWithin o s) (sym spans.is)
      (subst (λ (o : Span). LiesWithin all o) (sym inner.is) within)
