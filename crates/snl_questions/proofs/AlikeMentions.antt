-- What is mentioned is spelled like its mention: so all references of a name are spelled alike.
use Rattle.std.proofs.Common.{◌≡◌, ℕ, Bool, true, false, ◌==◌, cond, List, [], All, slice_get, Option, None, Some, option_and_then, option_map, refl, ap, sym, ◌∙◌}
use Rattle.std.proofs.lemmas.List.Elements.{All-from_recursion}
use Rattle.std.specs.List.{AllByRecursion as Each}
use Rattle.std.specs.Option.{option_map_or}
use Rattle.snl_facts.specs.Each.{each_weaker}
use Rattle.snl_lex.specs.declared.piece.Piece.{Piece}
use Rattle.snl_scope.specs.declared.facts.Declaration.{Declaration}
use Rattle.snl_walk.specs.Tokens.{token_bytes}
use Rattle.snl_summary.specs.declared.summary.Outline.{Outline}
use Rattle.snl_scope.specs.Clauses.{resolve_in}
use Rattle.snl_scope.specs.Linked.{declaration_at}
use Rattle.snl_kept.specs.Checks.{outlines_in}
use Rattle.snl_kept.specs.Program.{item_tokens, tree_in}
use Rattle.snl_questions.specs.declared.meanings.items.TokenPlace.{TokenPlace}
use Rattle.snl_questions.specs.declared.mentions.mention.Mention.{Mention}
use Rattle.snl_questions.specs.declared.mentions.mention.Reference.{Reference}
use Rattle.snl_questions.specs.Meanings.{declaration_named, meant_by_tokens, place_of, span_bytes}
use Rattle.snl_questions.specs.Mentions.{function_named, is_function, meant_by_prototype, mentioned_by_tokens, mentioned_in, mentioned_near, mentions_in, place_of_function, prototype_of, references_near, references_of}
use Rattle.snl_questions.specs.MentionLaws.{each_reference}
use Rattle.snl_questions.proofs.ExactMentions.{IsExact, all_exact}
use Rattle.snl_questions.proofs.Like.{Like, by_name, either_place, like_in_item, span_says}
use Rattle.snl_questions.proofs.Outer.{declaration_like, token_says}

chosen : {X : Type 0} (b : Bool) (o : Option X) (x : X) → cond b o None ≡ Some x → o ≡ Some x
chosen true o x e = e
chosen false o x e = absurd cc

module _ (text : List ℕ) where
  abbrev ss : List Outline
  ss = outlines_in text

  function_declared : (i : ℕ) (name : List ℕ) (q : TokenPlace) →
      function_named ss i name ≡ Some q → declaration_named ss i name ≡ Some q
  function_declared i name q = by (option_and_then (declaration_at ss) (resolve_in ss i name))
    where
      by : (o : Option Declaration) → option_and_then place_of_function o ≡ Some q →
          option_map place_of o ≡ Some q
      by None e = absurd cc
      by (Some d) e = chosen (is_function d.variable.symbol_kind) (Some (place_of d)) q e

  prototype_declared : (i n : ℕ) (name : List ℕ) (prototype : Option ℕ) (q : TokenPlace) →
      meant_by_prototype ss i name prototype n ≡ Some q → declaration_named ss i name ≡ Some q
  prototype_declared i n name None q e = absurd cc
  prototype_declared i n name (Some at) q e =
      function_declared i name q (chosen (at == n) (function_named ss i name) q e)

  like_mentioned : (i n : ℕ) (own : List Piece) → slice_get (item_tokens text) i ≡ Some own →
      (q : TokenPlace) → mentioned_by_tokens text i own n ≡ Some q → Like text i n q
  unfolding mentioned_in
  like_mentioned i n own at q e =
      let name = token_bytes text own n in
      let prototype = prototype_of (tree_in text own) in
      either_place (Like text i n q) (meant_by_tokens text i n own)
      (meant_by_prototype ss i name prototype n) q
      (like_in_item text i n own at q)
      (λ f. by_name text i n own at q
      (declaration_like text i name q (prototype_declared i n name prototype q f))) e

  -- a mention is spelled like what it mentions
  abbrev IsAlike : Mention → Type 0
  IsAlike m = Like text m.at.item m.at.token m.means

  alike_one : (m : Mention) → IsExact text m → IsAlike m
  alike_one m = by (slice_get (item_tokens text) m.at.item) refl
    where
      by : (o : Option (List Piece)) → slice_get (item_tokens text) m.at.item ≡ o →
          option_and_then (λ (x : List Piece). mentioned_by_tokens text m.at.item x m.at.token) o
          ≡ Some m.means → IsAlike m
      by None at e = absurd cc
      by (Some own) at e = like_mentioned m.at.item m.at.token own at m.means e

  all_alike : Each IsAlike (mentions_in text)
  all_alike = each_weaker (IsExact text) IsAlike alike_one (mentions_in text) (all_exact text)

  -- ---- references

  abbrev IsSpelled : TokenPlace → Reference → Type 0
  IsSpelled q r = span_bytes text r.span ≡ token_says text q.item q.token

  all_spelled : (q : TokenPlace) → Each (IsSpelled q) (references_of text q)
  all_spelled q =
      each_reference text q IsAlike (IsSpelled q)
      (λ m s like means at. span_says text m.at s at ∙ sym like
      ∙ ap (λ (p : TokenPlace). token_says text p.item p.token) means) all_alike

  abbrev AreAlike : List Reference → Type 0
  AreAlike rs = All (λ (r : Reference). All
      (λ (s : Reference). span_bytes text s.span ≡ span_bytes text r.span) rs) rs

  spelled_alike : (rs : List Reference) (word : List ℕ) →
      Each (λ (r : Reference). span_bytes text r.span ≡ word) rs → AreAlike rs
  spelled_alike rs word all =
      All-from_recursion (λ (r : Reference). All
      (λ (s : Reference). span_bytes text s.span ≡ span_bytes text r.span) rs) rs
      (each_weaker (λ (r : Reference). span_bytes text r.span ≡ word) (λ (r : Reference). All
      (λ (s : Reference). span_bytes text s.span ≡ span_bytes text r.span) rs)
      (λ r is. All-from_recursion
      (λ (s : Reference). span_bytes text s.span ≡ span_bytes text r.span) rs
      (each_weaker (λ (s : Reference). span_bytes text s.span ≡ word)
      (λ (s : Reference). span_bytes text s.span ≡ span_bytes text r.span)
      (λ s at. at ∙ sym is) rs all)) rs all)

  pub references_alike : (offset : ℕ) → AreAlike (references_near text offset)
  unfolding references_near
  references_alike offset = by (mentioned_near text offset)
    where
      by : (o : Option TokenPlace) → AreAlike (option_map_or (references_of text) o [])
      by None = spelled_alike [] [] tt
      by (Some q) = spelled_alike (references_of text q) (token_says text q.item q.token)
          (all_spelled q)
