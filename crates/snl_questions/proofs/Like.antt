-- What a name means is spelled like it.
use Rattle.std.proofs.Common.{◌≡◌, ℕ, ◌-◌, Bool, true, false, cond, ◌==◌, List, [], ◌∷◌, find, slice_get, Option, None, Some, IfSome, option_and_then, option_map, refl, sym, ap, subst, ◌∙◌, arith}
use Rattle.std.proofs.lemmas.Bool.Decides.{nat_tests}
use Rattle.std.specs.List.{AllByRecursion as Each}
use Rattle.std.specs.Option.{option_map_or, option_or}
use Rattle.snl_lex.specs.declared.piece.Piece.{Piece}
use Rattle.snl_grammar.specs.declared.tree.item.Item.{Item}
use Rattle.snl_walk.specs.declared.occurrence.Local.{Local}
use Rattle.snl_walk.specs.declared.occurrence.Occurrence.{Occurrence}
use Rattle.snl_walk.specs.declared.occurrence.What.{What}
use Rattle.snl_walk.specs.declared.occurrence.What.TheVariants as what
use Rattle.snl_walk.specs.Tokens.{bytes_if, token_bytes}
use Rattle.snl_summary.specs.declared.summary.Outline.{Outline}
use Rattle.snl_summary.specs.Summaries.{occurrences_in, outline_in}
use Rattle.snl_tables.specs.declared.rows.Span.{Span}
use Rattle.snl_kept.specs.Checks.{outlines_in}
use Rattle.snl_kept.specs.Program.{item_tokens, tree_in}
use Rattle.snl_questions.specs.Items.{span_at, span_of}
use Rattle.snl_questions.specs.declared.meanings.items.TokenPlace.{TokenPlace}
use Rattle.snl_questions.specs.declared.meanings.near.Meaning.{Meaning}
use Rattle.snl_questions.specs.Meanings.{declaration_named, is_name_of, meaning_before, meaning_between, meaning_by, meaning_from, meaning_near, meaning_of, meant_as_own_name, meant_at, meant_by_local, meant_by_occurrence, meant_by_outline, meant_by_tokens, meant_inside, occurrence_at, outline_names, place_from, span_bytes}
use Rattle.snl_questions.proofs.Locals.{IsLike, IsLikeAt, like_occurrences}
use Rattle.snl_questions.proofs.Outer.{declaration_like, says, state_like, token_is, token_says}

-- the first of two, if it is there
pub either_place : (P : Type 0) (a b : Option TokenPlace) (q : TokenPlace) → (a ≡ Some q → P) →
    (b ≡ Some q → P) → option_or a b ≡ Some q → P
either_place P None b q first second e = second e
either_place P (Some x) b q first second e = first e

place_if : (b : Bool) (p q : TokenPlace) → cond b (Some p) None ≡ Some q → q ≡ p
place_if true p q e = cc
place_if false p q e = absurd cc

same_token : (a b : ℕ) → (a == b) ≡ true → a ≡ b
same_token a b e = grind (arith, nat_tests)

-- what is found passes the test
found_one : {X : Type 0} (P : X → Type 0) (test : X → Bool) (xs : List X) (x : X) → Each P xs →
    find test xs ≡ Some x → P x × (test x ≡ true)
found_one P test [] x each e = absurd cc
found_one {X} P test (y ∷ ys) x each e = by (test y) refl (found_one P test ys x each.1) e
  where
    by : (b : Bool) → test y ≡ b → (find test ys ≡ Some x → P x × (test x ≡ true)) →
        cond b (Some y) (find test ys) ≡ Some x → P x × (test x ≡ true)
    by true passes rest e = let same : y ≡ x =
        cc in (subst P same each.0, ap test (sym same) ∙ passes)
    by false passes rest e = rest e

module _ (text : List ℕ) where
  abbrev pub Like : ℕ → ℕ → TokenPlace → Type 0
  Like i n q = token_says text q.item q.token ≡ token_says text i n

  -- ---- what token n of item i means

  module _ (i n : ℕ) (own : List Piece) (at : slice_get (item_tokens text) i ≡ Some own)
      (q : TokenPlace) where
    abbrev pub bytes : ℕ → List ℕ
    bytes = token_bytes text own

    pub by_name : token_says text q.item q.token ≡ bytes n → Like i n q
    by_name is = is ∙ says text i own at n

    like_own : meant_as_own_name (outlines_in text) i n ≡ Some q → Like i n q
    like_own e =
        ap (λ (p : TokenPlace). token_says text p.item p.token)
        (place_if (is_name_of (outlines_in text) i n) (record { item = i; token = n }) q e)

    like_local : (w : What) (m : Option Local) → IsLikeAt bytes n m →
        meant_by_local (outlines_in text) i (bytes n) w m ≡ Some q → Like i n q
    like_local w (Some local) like e =
        let is : q ≡ record { item = i; token = local.token } = cc in
        ap (λ (p : TokenPlace). token_says text p.item p.token) is
        ∙ sym (says text i own at local.token) ∙ by_bytes like
      where
        by_bytes : bytes local.token ≡ bytes n → bytes local.token ≡ token_says text i n
        by_bytes same = same ∙ says text i own at n
    like_local what.Target None like e = by_name (state_like text i (bytes n) q e)
    like_local (what.Name manner) None like e = by_name (declaration_like text i (bytes n) q e)
    like_local (what.Declaration is_wrong) None like e = absurd cc
    like_local (what.Jump in_loop) None like e = absurd cc
    like_local (what.Change in_transition) None like e = absurd cc

    like_found : (found : List Occurrence) → Each (IsLike bytes) found →
        meant_inside (outlines_in text) i (bytes n) found n ≡ Some q → Like i n q
    like_found found each = by (occurrence_at found n) refl
      where
        by : (o : Option Occurrence) → occurrence_at found n ≡ o →
            option_and_then (meant_by_occurrence (outlines_in text) i (bytes n)) o ≡ Some q →
            Like i n q
        by None is e = absurd cc
        by (Some o) is e =
            let one = found_one (IsLike bytes) (λ (x : Occurrence). x.token == n) found o each is in
            like_local o.what o.means (subst (λ k. IsLikeAt bytes k o.means)
            (same_token o.token n one.1) one.0) e

    like_tree : (t : Option Item) → Each (IsLike bytes) (occurrences_in bytes t)
    like_tree None = tt
    like_tree (Some t) = like_occurrences bytes t

    like_outline : (s : Outline) → meant_by_outline (outlines_in text) i (bytes n) s n ≡ Some q →
        Like i n q
    like_outline s = by (outline_names s n)
      where
        by : (b : Bool) → cond b (declaration_named (outlines_in text) i (bytes n)) None ≡ Some q →
            Like i n q
        by true e = by_name (declaration_like text i (bytes n) q e)
        by false e = absurd cc

    pub like_in_item : meant_by_tokens text i n own ≡ Some q → Like i n q
    like_in_item e =
        let tree = tree_in text own in
        let s = outline_in text own tree in
        let inside = meant_inside (outlines_in text) i (bytes n) (occurrences_in bytes tree) n in
        let outline = meant_by_outline (outlines_in text) i (bytes n) s n in
        either_place (Like i n q) (meant_as_own_name (outlines_in text) i n)
        (option_or inside outline) q like_own
        (λ f. either_place (Like i n q) inside outline q
        (like_found (occurrences_in bytes tree) (like_tree tree)) (like_outline s) f) e

  like_at : (p q : TokenPlace) → meant_at text p ≡ Some q → Like p.item p.token q
  like_at p q = by (slice_get (item_tokens text) p.item) refl
    where
      by : (o : Option (List Piece)) → slice_get (item_tokens text) p.item ≡ o →
          option_and_then (meant_by_tokens text p.item p.token) o ≡ Some q → Like p.item p.token q
      by None at e = absurd cc
      by (Some own) at e = like_in_item p.item p.token own at q e

  -- ---- spans

  pub span_says : (p : TokenPlace) (s : Span) → span_at (item_tokens text) p.item p.token ≡ Some s →
      span_bytes text s ≡ token_says text p.item p.token
  span_says p s = by (slice_get (item_tokens text) p.item)
    where
      at : (o : Option Piece) → option_map span_of o ≡ Some s → span_bytes text s ≡ bytes_if text o
      at None e = absurd cc
      at (Some piece) e = let is : s ≡ span_of piece = cc in ap (span_bytes text) is

      by : (o : Option (List Piece)) → option_and_then
          (λ (x : List Piece). option_map span_of (slice_get x p.token)) o ≡ Some s →
          span_bytes text s ≡ option_map_or (λ (own : List Piece). token_bytes text own p.token) o
          []
      by None e = absurd cc
      by (Some own) e = at (slice_get own p.token) e ∙ sym (token_is text own p.token)

  abbrev IsLikeMeaning : Meaning → Type 0
  IsLikeMeaning m = span_bytes text m.declared ≡ span_bytes text m.name

  like_between : (p q : TokenPlace) → meant_at text p ≡ Some q →
      IfSome (meaning_between text p q) IsLikeMeaning
  like_between p q meant = by (span_at (item_tokens text) p.item p.token)
      (span_at (item_tokens text) q.item q.token) refl refl
    where
      by : (a b : Option Span) → span_at (item_tokens text) p.item p.token ≡ a →
          span_at (item_tokens text) q.item q.token ≡ b → IfSome (meaning_by text q a b) IsLikeMeaning
      by None b name declared = tt
      by (Some s) None name declared = tt
      by (Some s) (Some t) name declared = span_says q t declared ∙ like_at p q meant
          ∙ sym (span_says p s name)

  like_from : (p : TokenPlace) → IfSome (meaning_from text p) IsLikeMeaning
  like_from p = by (meant_at text p) refl
    where
      by : (o : Option TokenPlace) → meant_at text p ≡ o →
          IfSome (option_and_then (meaning_between text p) o) IsLikeMeaning
      by None meant = tt
      by (Some q) meant = like_between p q meant

  like_by_place : (o : Option TokenPlace) → IfSome
      (option_and_then (meaning_from text) o) IsLikeMeaning
  like_by_place None = tt
  like_by_place (Some p) = like_from p

  pub like_meaning : (offset : ℕ) → IfSome (meaning_of text offset) IsLikeMeaning
  unfolding meaning_of
  like_meaning offset = like_by_place (place_from offset 0 (item_tokens text))

  -- ---- near an offset

  like_either : (a b : Option Meaning) → IfSome a IsLikeMeaning → IfSome b IsLikeMeaning →
      IfSome (option_or a b) IsLikeMeaning
  like_either None b first second = second
  like_either (Some m) b first second = first

  like_unless : (b : Bool) (offset : ℕ) → IfSome (cond b None (meaning_of text offset))
      IsLikeMeaning
  like_unless true offset = tt
  like_unless false offset = like_meaning offset

  pub like_near : (offset : ℕ) → IfSome (meaning_near text offset) IsLikeMeaning
  unfolding meaning_near
  like_near offset =
      like_either (meaning_of text offset) (meaning_before text offset) (like_meaning offset)
      (like_unless (offset == 0) (offset - 1))
