-- A name that means something is among its references.
use Rattle.std.proofs.Common.{◌≡◌, ℕ, zero, suc, ◌&&◌, Bool, true, cond, List, [], ◌∷◌, Contains, slice_get, Option, None, Some, IfSome, option_and_then, option_map, refl, ap, ap₂, sym, subst, ◌∙◌, arith}
use Rattle.std.proofs.lemmas.Bool.{eq-eqb}
use Rattle.std.proofs.lemmas.Option.{slice_get_within}
use Rattle.std.specs.List.{cons_option, filter_map}
use Rattle.std.specs.Option.{option_map_or, option_or}
use Rattle.snl_lex.specs.declared.piece.Piece.{Piece}
use Rattle.snl_tables.specs.declared.rows.Span.{Span}
use Rattle.snl_kept.specs.Checks.{outlines_in}
use Rattle.snl_kept.specs.Program.{item_tokens, tree_in}
use Rattle.snl_walk.specs.Tokens.{token_bytes}
use Rattle.snl_questions.specs.declared.meanings.items.TokenPlace.{TokenPlace}
use Rattle.snl_questions.specs.declared.meanings.near.Meaning.{Meaning}
use Rattle.snl_questions.specs.declared.mentions.mention.Mention.{Mention}
use Rattle.snl_questions.specs.declared.mentions.mention.Reference.{Reference}
use Rattle.snl_questions.specs.Items.{span_at}
use Rattle.snl_questions.specs.Meanings.{meaning_between, meaning_by, meaning_from, meaning_of, meant_at, meant_by_tokens, place_from}
use Rattle.snl_questions.specs.Mentions.{meant_by_prototype, mentioned_at, mentioned_before, mentioned_by_tokens, mentioned_in, mentioned_near, mentioned_of, mentions_in, prototype_of, reference_at, reference_by, reference_to, references_near, references_of, same_place}
use Rattle.snl_questions.proofs.ExactMentions.{whole}
use Rattle.snl_questions.proofs.Order.{token_told}

-- what is made of an element is among all that is made
still_there : {Y : Type 0} (o : Option Y) (ys : List Y) (y : Y) → Contains ys y →
    Contains (cons_option o ys) y
still_there None ys y there = there
still_there (Some z) ys y there = (suc there.0, omega (arith, there.1), there.2)

made_there : {X Y : Type 0} (h : X → Option Y) (xs : List X) (x : X) (y : Y) → Contains xs x →
    h x ≡ Some y → Contains (filter_map h xs) y
made_there h [] x y there made = absurd (omega (arith, there.1))
made_there {Y = Y} h (z ∷ zs) x y (zero, below, is) made =
    subst (λ (o : Option Y). Contains (cons_option o (filter_map h zs)) y)
    (sym (ap h is ∙ made)) (0, omega arith, refl)
made_there h (z ∷ zs) x y (suc k, below, is) made =
    still_there (h z) (filter_map h zs) y
    (made_there h zs x y (k, omega (arith, below), is) made)

module _ (text : List ℕ) where
  abbrev xs : List (List Piece)
  xs = item_tokens text

  -- the span is that of a reference of what is at a place
  abbrev HasSpan : List Reference → Span → Type 0
  HasSpan rs s = (b : Bool) × Contains rs (record { span = s; is_declaration = b })

  itself : (q : TokenPlace) → same_place q q ≡ true
  itself q = ap₂ (λ (a b : Bool). a && b) (eq-eqb q.item q.item refl) (eq-eqb q.token q.token refl)

  referred : (p q : TokenPlace) (s : Span) → mentioned_at text p ≡ Some q →
      span_at xs p.item p.token ≡ Some s → HasSpan (references_of text q) s
  referred p q s means at =
      let m : Mention = record { at = p; means = q } in
      let t = token_told xs p.item p.token s at in
      let below = slice_get_within t.own p.token t.token t.token_at in
      let made : reference_to xs q m ≡ Some (reference_by m s) =
      ap (λ (b : Bool). cond b (reference_at xs m) None) (itself q)
      ∙ ap (option_map (reference_by m)) at in (
        same_place p q,
        made_there (reference_to xs q) (mentions_in text) m (reference_by m s)
            (whole text p q t.own t.own_at below means) made,
      )

  mentioned : (p q : TokenPlace) → meant_at text p ≡ Some q → mentioned_at text p ≡ Some q
  unfolding mentioned_in
  mentioned p q = by (slice_get xs p.item)
    where
      by : (o : Option (List Piece)) →
          option_and_then (meant_by_tokens text p.item p.token) o ≡ Some q →
          option_and_then (λ (x : List Piece). mentioned_by_tokens text p.item x p.token) o
          ≡ Some q
      by None e = absurd cc
      by (Some own) e =
          ap (λ (o : Option TokenPlace). option_or o (meant_by_prototype (outlines_in text) p.item
          (token_bytes text own p.token) (prototype_of (tree_in text own)) p.token)) e

  own_at : (offset : ℕ) (p q : TokenPlace) (s : Span) → place_from offset 0 xs ≡ Some p →
      mentioned_at text p ≡ Some q → span_at xs p.item p.token ≡ Some s →
      HasSpan (references_near text offset) s
  unfolding references_near mentioned_near mentioned_of
  own_at offset p q s place means at =
      let here : option_and_then (mentioned_at text) (place_from offset 0 xs) ≡ Some q =
      ap (option_and_then (mentioned_at text)) place ∙ means in
      let all : references_near text offset ≡ references_of text q =
      ap (λ (o : Option TokenPlace). option_map_or (references_of text)
      (option_or o (mentioned_before text offset)) []) here in
      subst (λ (rs : List Reference). HasSpan rs s) (sym all) (referred p q s means at)

  abbrev IsReferred : ℕ → Meaning → Type 0
  IsReferred offset m = HasSpan (references_near text offset) m.name

  by_spans : (offset : ℕ) (p q : TokenPlace) → place_from offset 0 xs ≡ Some p →
      meant_at text p ≡ Some q → (a b : Option Span) → span_at xs p.item p.token ≡ a →
      IfSome (meaning_by text q a b) (IsReferred offset)
  by_spans offset p q place means None b at = tt
  by_spans offset p q place means (Some s) None at = tt
  by_spans offset p q place means (Some s) (Some t) at =
      own_at offset p q s place (mentioned p q means) at

  by_meant : (offset : ℕ) (p : TokenPlace) → place_from offset 0 xs ≡ Some p →
      (o : Option TokenPlace) → meant_at text p ≡ o →
      IfSome (option_and_then (meaning_between text p) o) (IsReferred offset)
  by_meant offset p place None means = tt
  by_meant offset p place (Some q) means =
      by_spans offset p q place means (span_at xs p.item p.token) (span_at xs q.item q.token) refl

  by_place : (offset : ℕ) (o : Option TokenPlace) → place_from offset 0 xs ≡ o →
      IfSome (option_and_then (meaning_from text) o) (IsReferred offset)
  by_place offset None place = tt
  by_place offset (Some p) place = by_meant offset p place (meant_at text p) refl

  pub name_referred : (offset : ℕ) → IfSome (meaning_of text offset) (IsReferred offset)
  unfolding meaning_of
  name_referred offset = by_place offset (place_from offset 0 xs) refl
