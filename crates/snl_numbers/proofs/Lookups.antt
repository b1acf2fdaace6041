-- Look-ups in a list of pairs, and in two of them, one after the other.
use Rattle.std.proofs.Common.{◌≡◌, ℕ, Bool, true, false, cond, List, [], ◌∷◌, ◌++◌, Option, None, Some, is_some, refl, sym, ap, ◌∙◌, true≢false, if◌then◌else◌}
use Rattle.std.specs.BTreeMap.{is_at}
use Rattle.std.specs.Cmp.{IsEquivalence}
use Rattle.std.specs.Map.{lookup}
use Rattle.std.specs.Option.{option_or}
use Rattle.std.specs.Ordering.{is_eq}
use Rattle.std.specs.declared.cmp.Ordering.{Ordering}
use Rattle.indexmap.specs.IndexMap.{insert_entry}

none_or : (o p : Option ℕ) → is_some o ≡ false → option_or o p ≡ p
none_or None p h = refl
none_or (Some n) p h = absurd (true≢false h)

some_or : (o p : Option ℕ) → is_some o ≡ true → option_or o p ≡ o
some_or None p h = absurd (true≢false (sym h))
some_or (Some n) p h = refl

module _ {K : Type 0} where
  -- a list that follows another one is asked after it
  pub lookup_append : (test : K → Bool) (few more : List (K × ℕ)) → lookup test (few ++ more) ≡ option_or (lookup test few) (lookup test more)
  lookup_append test [] more = refl
  lookup_append test (e ∷ es) more = ap (cond (test e.0) (Some e.1)) (lookup_append test es more) ∙ by (test e.0)
    where
      by : (b : Bool) → cond b (Some e.1) (option_or (lookup test es) (lookup test more)) ≡ option_or (cond b (Some e.1) (lookup test es)) (lookup test more)
      by true = refl
      by false = refl

  -- by tests that tell the same of each key
  pub lookup_alike : (p q : K → Bool) → ((k : K) → p k ≡ q k) → (es : List (K × ℕ)) → lookup p es ≡ lookup q es
  lookup_alike p q h [] = refl
  lookup_alike p q h (e ∷ es) = ap (λ b. cond b (Some e.1) (lookup p es)) (h e.0) ∙ ap (cond (q e.0) (Some e.1)) (lookup_alike p q h es)

  -- ---- what a look-up in both finds

  pub found_first : (test : K → Bool) (few more : List (K × ℕ)) → is_some (lookup test few) ≡ true → lookup test (few ++ more) ≡ lookup test few
  found_first test few more h = lookup_append test few more ∙ some_or (lookup test few) (lookup test more) h

  pub found_after : (test same : K → Bool) → ((k : K) → test k ≡ same k) → (few more : List (K × ℕ)) → is_some (lookup test few) ≡ false
      → lookup test (few ++ more) ≡ lookup same more
  found_after test same h few more absent =
      lookup_append test few more ∙ none_or (lookup test few) (lookup test more) absent ∙ lookup_alike test same h more

  -- ---- a number that is put

  -- in the place of another one and back, it leaves the entries as they were
  pub put_back : (eq : K → K → Bool) (k : K) (v w : ℕ) (es : List (K × ℕ)) → lookup (eq k) es ≡ Some w → insert_entry eq (insert_entry eq es k v) k w ≡ es
  put_back eq k v w [] h = absurd (cc)
  put_back eq k v w (e ∷ es) h = by (λ f. put_back eq k v w es f) (eq k e.0) refl h
    where
      by : (lookup (eq k) es ≡ Some w → insert_entry eq (insert_entry eq es k v) k w ≡ es) → (b : Bool) → eq k e.0 ≡ b → cond b (Some e.1) (lookup (eq k) es) ≡ Some w
          → insert_entry eq (if b then (e.0, v) ∷ es else e ∷ insert_entry eq es k v) k w ≡ e ∷ es
      by rest true g f = let same : w ≡ e.1 = cc in ap (λ b. if b then (e.0, w) ∷ es else (e.0, v) ∷ insert_entry eq es k w) g ∙ ap (λ x. (e.0, x) ∷ es) same
      by rest false g f = ap (λ b. if b then (e.0, w) ∷ insert_entry eq es k v else e ∷ insert_entry eq (insert_entry eq es k v) k w) g ∙ ap (λ l. e ∷ l) (rest f)

  -- What a new key is to a list.
  abbrev pub Puts : (K → K → Bool) → List (K × ℕ) → List (K × ℕ) → K → ℕ → Type 0
  Puts eq before after key number = (q : K) → lookup (eq q) after ≡ cond (eq key q) (Some number) (lookup (eq q) before)

  -- by an order whose keys are the same where the test says so
  put_ordered : (eq : K → K → Bool) (cmp : K → K → Ordering) → ((x y : K) → eq x y ≡ is_eq (cmp x y)) → (before after : List (K × ℕ)) (key : K) (number : ℕ)
      → ((q : K) → lookup (is_at (cmp q)) after ≡ cond (is_at (cmp key) q) (Some number) (lookup (is_at (cmp q)) before)) → Puts eq before after key number
  put_ordered eq cmp ties before after key number put q =
      lookup_alike (eq q) (is_at (cmp q)) (ties q) after ∙ put q
      ∙ ap (λ b. cond b (Some number) (lookup (is_at (cmp q)) before)) (sym (ties key q))
      ∙ ap (cond (eq key q) (Some number)) (sym (lookup_alike (eq q) (is_at (cmp q)) (ties q) before))

  -- put in the second of two lists, it is put in both, if neither has it
  pub put_after : (eq : K → K → Bool) → IsEquivalence eq → (cmp : K → K → Ordering) → ((x y : K) → eq x y ≡ is_eq (cmp x y))
      → (few more after : List (K × ℕ)) (key : K) (number : ℕ) → is_some (lookup (eq key) (few ++ more)) ≡ false
      → ((q : K) → lookup (is_at (cmp q)) after ≡ cond (is_at (cmp key) q) (Some number) (lookup (is_at (cmp q)) more))
      → Puts eq (few ++ more) (few ++ after) key number
  put_after eq laws cmp ties few more after key number absent put q =
      lookup_append (eq q) few after ∙ ap (option_or (lookup (eq q) few)) (put_ordered eq cmp ties more after key number put q) ∙ by (eq key q) refl
      ∙ ap (cond (eq key q) (Some number)) (sym (lookup_append (eq q) few more))
    where
      nowhere : (o p : Option ℕ) → is_some (option_or o p) ≡ false → o ≡ None
      nowhere None p h = refl
      nowhere (Some n) p h = absurd (true≢false h)

      by : (b : Bool) → eq key q ≡ b
          → option_or (lookup (eq q) few) (cond b (Some number) (lookup (eq q) more)) ≡ cond b (Some number) (option_or (lookup (eq q) few) (lookup (eq q) more))
      by true e =
          ap (λ o. option_or o (Some number))
          (sym (lookup_alike (eq key) (eq q) (λ k. laws.congr key q k e) few)
          ∙ nowhere (lookup (eq key) few) (lookup (eq key) more) (ap is_some (sym (lookup_append (eq key) few more)) ∙ absent))
      by false e = refl
