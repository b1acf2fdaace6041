-- References by their tokens: where two names have one in common, they mean the same; and each of
-- them leads to all.
use Rattle.std.proofs.Common.{◌≡◌, ℕ, ◌+◌, ◌<◌, ◌≤◌, ◌&&◌, nat_le, nat_lt, true, List, [], Contains, slice_get, Option, None, Some, option_map, refl, ap, sym, subst, ◌∙◌, arith, le-leb, lt-ltb}
use Rattle.std.proofs.lemmas.List.Elements.{All-contains, All-from_recursion}
use Rattle.std.proofs.lemmas.Option.{same_Some}
use Rattle.std.specs.List.{AllByRecursion as Each}
use Rattle.std.specs.Option.{option_and_then, option_map_or, option_or}
use Rattle.snl_facts.specs.Each.{each_got}
use Rattle.snl_lex.specs.declared.piece.Piece.{Piece}
use Rattle.snl_lex.specs.Pieces.{LiesIn, piece_end}
use Rattle.snl_tables.specs.declared.rows.Span.{Span}
use Rattle.snl_kept.specs.Program.{item_tokens}
use Rattle.snl_kept.specs.TokenLaws.{InARow}
use Rattle.snl_questions.specs.declared.meanings.items.TokenPlace.{TokenPlace}
use Rattle.snl_questions.specs.declared.mentions.mention.Mention.{Mention}
use Rattle.snl_questions.specs.declared.mentions.mention.Reference.{Reference}
use Rattle.snl_questions.specs.Items.{span_at, span_of}
use Rattle.snl_questions.specs.Meanings.{place_from}
use Rattle.snl_questions.specs.MentionLaws.{each_reference}
use Rattle.snl_questions.specs.Mentions.{mentioned_at, mentioned_before, mentioned_near, mentioned_of, mentions_in, references_near, references_of}
use Rattle.snl_questions.specs.Tokens.{has_byte}
use Rattle.snl_outline_laws.proofs.Places.{place_found}
use Rattle.snl_outline_laws.proofs.Rows.{AreInARow}

at_byte : (from stop offset : ℕ) → from ≤ offset → offset < stop →
    (nat_le from offset && nat_lt offset stop) ≡ true
at_byte from stop offset h under = rw (le-leb from offset h, lt-ltb offset stop under) refl

module _ (text : List ℕ) (row : AreInARow text)
    (exact : Each (λ (m : Mention). mentioned_at text m.at ≡ Some m.means) (mentions_in text))
  where
    abbrev xs : List (List Piece)
    xs = item_tokens text

    -- the token that has a span is found at its first byte
    token_place : (at : TokenPlace) (s : Span) → span_at xs at.item at.token ≡ Some s →
        place_from s.start 0 xs ≡ Some at
    token_place at s = by (slice_get xs at.item) refl
      where
        in_own : (own : List Piece) → slice_get xs at.item ≡ Some own → (o : Option Piece) →
            slice_get own at.token ≡ o → option_map span_of o ≡ Some s →
            place_from s.start 0 xs ≡ Some at
        in_own own own_at None there h = absurd cc
        in_own own own_at (Some token) there h =
            let is : span_of token ≡ s = same_Some (span_of token) s h in
            let lies = each_got (LiesIn text) own at.token token
            (each_got (InARow text) xs at.item own row.rows own_at).lie there in
            let long : 1 ≤ token.len = lies.0 in
            let byte : has_byte token.start token ≡ true =
            at_byte token.start (piece_end token) token.start (omega arith)
            (omega (arith, long)) in
            let first : 0 + at.item ≡ at.item = omega arith in
            subst (λ (t : Span). place_from t.start 0 xs ≡ Some at) is
            (place_found token.start token byte text 0 xs at.item at.token own row.apart row.rows
            own_at there
            ∙ ap (λ (k : ℕ). Some (record { item = k; token = at.token })) first)

        by : (o : Option (List Piece)) → slice_get xs at.item ≡ o →
            option_and_then (λ (x : List Piece). option_map span_of (slice_get x at.token)) o
            ≡ Some s → place_from s.start 0 xs ≡ Some at
        by None own_at h = absurd cc
        by (Some own) own_at h = in_own own own_at (slice_get own at.token) refl h

    -- a token that has the span, and mentions what is at a place
    record IsOf (q : TokenPlace) (r : Reference) : Type 0 where
      at : TokenPlace
      token : span_at xs at.item at.token ≡ Some r.span
      means : mentioned_at text at ≡ Some q

    all_of : (q : TokenPlace) → Each (IsOf q) (references_of text q)
    all_of q =
        each_reference text q (λ (m : Mention). mentioned_at text m.at ≡ Some m.means) (IsOf q)
        (λ m s is means at. record { at = m.at; token = at; means = is ∙ ap Some means }) exact

    one_of : (q : TokenPlace) (r : Reference) → Contains (references_of text q) r → IsOf q r
    one_of q r there =
        All-contains (IsOf q) (references_of text q) r
        (All-from_recursion (IsOf q) (references_of text q) (all_of q)) there

    one_place : (q p : TokenPlace) (r s : Reference) → IsOf q r → IsOf p s → r.span ≡ s.span →
        q ≡ p
    one_place q p r s one other same =
        let places : Some one.at ≡ Some other.at =
        sym (token_place one.at r.span one.token)
        ∙ ap (λ (t : Span). place_from t.start 0 xs) same
        ∙ token_place other.at s.span other.token in
        same_Some q p (sym one.means
        ∙ ap (mentioned_at text) (same_Some one.at other.at places) ∙ other.means)

    pub apart : (offset other : ℕ) (r s : Reference) → Contains (references_near text offset) r →
        Contains (references_near text other) s → r.span ≡ s.span →
        references_near text offset ≡ references_near text other
    unfolding references_near
    apart offset other r s one two same =
        by (mentioned_near text offset) (mentioned_near text other) one two
      where
        by : (a b : Option TokenPlace) → Contains (option_map_or (references_of text) a []) r →
            Contains (option_map_or (references_of text) b []) s →
            option_map_or (references_of text) a [] ≡ option_map_or (references_of text) b []
        by None b one two = absurd (omega (arith, one.1))
        by (Some q) None one two = absurd (omega (arith, two.1))
        by (Some q) (Some p) one two =
            ap (references_of text)
            (one_place q p r s (one_of q r one) (one_of p s two) same)

    pub lead_to_all : (offset : ℕ) (r : Reference) → Contains (references_near text offset) r →
        references_near text r.span.start ≡ references_near text offset
    unfolding references_near mentioned_near mentioned_of
    lead_to_all offset r there = by (mentioned_near text offset) there
      where
        by : (o : Option TokenPlace) → Contains (option_map_or (references_of text) o []) r →
            references_near text r.span.start ≡ option_map_or (references_of text) o []
        by None there = absurd (omega (arith, there.1))
        by (Some q) there =
            let one = one_of q r there in
            let here : option_and_then (mentioned_at text) (place_from r.span.start 0 xs) ≡ Some q =
            ap (option_and_then (mentioned_at text)) (token_place one.at r.span one.token)
            ∙ one.means in
            ap (λ (o : Option TokenPlace). option_map_or (references_of text)
            (option_or o (mentioned_before text r.span.start)) []) here
