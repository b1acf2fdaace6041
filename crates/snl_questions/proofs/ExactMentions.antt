-- The mentions of a text are the tokens that mention something.
use Rattle.std.proofs.Common.{◌≡◌, ℕ, zero, suc, ◌<◌, List, [], ◌∷◌, length, slice_get, Contains, Option, None, Some, option_and_then, option_map, option_to_list, inl, inr, refl, ap, subst, sym, ◌∙◌, arith}
use Rattle.std.proofs.lemmas.Bool.{cases_lt}
use Rattle.std.proofs.lemmas.List.Elements.{Contains-append_left, Contains-append_right, Contains-push}
use Rattle.std.specs.List.{AllByRecursion as Each}
use Rattle.std.specs.Option.{option_map_or}
use Rattle.snl_facts.specs.Each.{each_append}
use Rattle.snl_lex.specs.declared.piece.Piece.{Piece}
use Rattle.snl_kept.specs.Program.{item_tokens}
use Rattle.snl_questions.specs.declared.meanings.items.TokenPlace.{TokenPlace}
use Rattle.snl_questions.specs.declared.mentions.mention.Mention.{Mention}
use Rattle.snl_questions.specs.Mentions.{mention_by, mentioned_at, mentioned_by_tokens, mentions_among, mentions_at, mentions_before, mentions_by_tokens, mentions_in}

module _ (text : List ℕ) where
  abbrev xs : List (List Piece)
  xs = item_tokens text

  -- ---- each of them does

  abbrev pub IsExact : Mention → Type 0
  IsExact m = mentioned_at text m.at ≡ Some m.means

  exact_token : (i n : ℕ) (own : List Piece) → slice_get xs i ≡ Some own → (o : Option TokenPlace) →
      mentioned_by_tokens text i own n ≡ o →
      Each IsExact (option_to_list (option_map (mention_by i n) o))
  exact_token i n own at None is = tt
  exact_token i n own at (Some q) is =
      (ap (option_and_then (λ (x : List Piece). mentioned_by_tokens text i x n)) at ∙ is, tt)

  exact_before : (i : ℕ) (own : List Piece) → slice_get xs i ≡ Some own → (n : ℕ) →
      Each IsExact (mentions_before i (mentioned_by_tokens text i own) n)
  exact_before i own at zero = tt
  exact_before i own at (suc n) =
      each_append IsExact (mentions_before i (mentioned_by_tokens text i own) n)
      (option_to_list (option_map (mention_by i n) (mentioned_by_tokens text i own n)))
      (exact_before i own at n)
      (exact_token i n own at (mentioned_by_tokens text i own n) refl)

  exact_at : (i : ℕ) → Each IsExact (mentions_at text i)
  exact_at i = by (slice_get xs i) refl
    where
      by : (o : Option (List Piece)) → slice_get xs i ≡ o →
          Each IsExact (option_map_or (mentions_by_tokens text i) o [])
      by None at = tt
      by (Some own) at = exact_before i own at (length own)

  exact_among : (k : ℕ) → Each IsExact (mentions_among text k)
  exact_among zero = tt
  exact_among (suc k) =
      each_append IsExact (mentions_among text k) (mentions_at text k) (exact_among k) (exact_at k)

  pub all_exact : Each IsExact (mentions_in text)
  unfolding mentions_in
  all_exact = exact_among (length xs)

  -- ---- each that does is one of them

  listed_before : (i n count : ℕ) (own : List Piece) (q : TokenPlace) → n < count →
      mentioned_by_tokens text i own n ≡ Some q →
      Contains (mentions_before i (mentioned_by_tokens text i own) count) (mention_by i n q)
  listed_before i n zero own q below is = absurd (omega (arith, below))
  listed_before i n (suc count) own q below is =
      elim (cases_lt n count) [
        | inl less ↦
            Contains-append_left before last (mention_by i n q)
            (listed_before i n count own q less is)
        | inr more ↦
            let same : n ≡ count = omega (arith, below, more) in
            let here : last ≡ mention_by i n q ∷ [] =
            ap (λ (k : ℕ). option_to_list (option_map (mention_by i k)
            (mentioned_by_tokens text i own k))) (sym same)
            ∙ ap (λ (o : Option TokenPlace). option_to_list (option_map (mention_by i n) o)) is in
            Contains-append_right before last (mention_by i n q)
            (subst (λ (ms : List Mention). Contains ms (mention_by i n q)) (sym here)
            (Contains-push [] (mention_by i n q)))
      ]
    where
      before : List Mention
      before = mentions_before i (mentioned_by_tokens text i own) count

      last : List Mention
      last = option_to_list (option_map (mention_by i count) (mentioned_by_tokens text i own count))

  listed_among : (i k : ℕ) (m : Mention) → i < k → Contains (mentions_at text i) m →
      Contains (mentions_among text k) m
  listed_among i zero m below there = absurd (omega (arith, below))
  listed_among i (suc k) m below there =
      elim (cases_lt i k) [
        | inl less ↦
            Contains-append_left (mentions_among text k) (mentions_at text k) m
            (listed_among i k m less there)
        | inr more ↦
            let same : i ≡ k = omega (arith, below, more) in
            Contains-append_right (mentions_among text k) (mentions_at text k) m
            (subst (λ (j : ℕ). Contains (mentions_at text j) m) same there)
      ]

  within_items : (i : ℕ) (own : List Piece) (items : List (List Piece)) →
      slice_get items i ≡ Some own → i < length items
  within_items i own [] at = absurd cc
  within_items zero own (x ∷ items) at = omega arith
  within_items (suc i) own (x ∷ items) at =
      let rest = within_items i own items at in omega (arith, rest)

  pub whole : (p q : TokenPlace) (own : List Piece) → slice_get xs p.item ≡ Some own →
      p.token < length own → mentioned_at text p ≡ Some q →
      Contains (mentions_in text) (record { at = p; means = q })
  unfolding mentions_in
  whole p q own at below is =
      let means : mentioned_by_tokens text p.item own p.token ≡ Some q =
      sym (ap (option_and_then (λ (x : List Piece). mentioned_by_tokens text p.item x p.token)) at)
      ∙ is in
      let here : mentions_at text p.item ≡ mentions_by_tokens text p.item own =
      ap (λ (o : Option (List Piece)). option_map_or (mentions_by_tokens text p.item) o []) at in
      listed_among p.item (length xs) (record { at = p; means = q })
      (within_items p.item own xs at)
      (subst (λ (ms : List Mention). Contains ms (record { at = p; means = q })) (sym here)
      (listed_before p.item p.token (length own) own q below means))
