-- Warnings are shown unless the last option with the letter `w` has a minus.
use Rattle.std.proofs.Common.{◌≡◌, ◌⊎◌, inl, inr, ℕ, zero, suc, ◌+◌, ◌<◌, Bool, true, false, List, [], ◌∷◌, get_or, Option, Some, None, is_some, refl, sym, ap, ◌∙◌, subst, arith}
use Rattle.std.specs.Prelude.{if◌then◌else◌, nat_eq, slice_get}
use Rattle.std.specs.List.{Any, Contains, cons_option, enumerate_from, filter_map}
use Rattle.std.proofs.lemmas.Bool.{cases_order, eqb-true, false_from_ne_true, eq-eqb, true≢false}
use Rattle.std.proofs.lemmas.List.Folds.{Any-from_list_any, list_any_at}
use Rattle.snl_grammar.specs.declared.tree.clause.OptionLine.{OptionLine}
use Rattle.snl_grammar.specs.declared.tree.clause.OptionSign.{OptionSign}
use Rattle.snl_grammar.specs.declared.tree.clause.OptionSign.TheVariants.{Minus, Plus}
use Rattle.snl_grammar.specs.declared.tree.item.Item.{Item}
use Rattle.snl_grammar.specs.declared.tree.item.Item.TheVariants as items
use Rattle.snl_scope.specs.Places.{enclosing_set}
use Rattle.snl_summary.specs.Summaries.Tokens.{token_bytes}
use Rattle.snl_summary.specs.declared.summary.Outline.{Outline}
use Rattle.snl_item_check.specs.Items.{ProgramItem, outlines_of}
use Rattle.snl_item_check.specs.Options.{has_letter, is_on, warning_setting, warnings_letter}
use Rattle.snl_item_check.specs.View.{is_in_set}
use Rattle.snl_kept.specs.Warnings.{last_or, setting_in, setting_of_item, shows_warnings}
use Rattle.snl_finding_laws.specs.Settings.{AreWarningsOff, SetsWarnings}

-- ---- the last of what a list says

module _ {X : Type 0} (f : ℕ × X → Option Bool) where
  -- The last element that says something says this.
  record LastSays (n : ℕ) (xs : List X) (b : Bool) : Type 0 where
    place : ℕ
    value : X
    there : slice_get xs place ≡ Some value
    says : f (n + place, value) ≡ Some b
    last : (j : ℕ) (y : X) → place < j → slice_get xs j ≡ Some y → f (n + j, y) ≡ None

  -- No element says anything.
  abbrev NoneSays : ℕ → List X → Type 0
  NoneSays n xs = (j : ℕ) (y : X) → slice_get xs j ≡ Some y → f (n + j, y) ≡ None

  silent_more : (n : ℕ) (x : X) (xs : List X) → f (n, x) ≡ None → NoneSays (n + 1) xs → NoneSays n (x ∷ xs)
  silent_more n x xs h rest zero y e =
      let here : n ≡ n + 0 = omega arith in
      let same : x ≡ y = cc in
      sym (ap (λ (k : ℕ). f (k, y)) here) ∙ (sym (ap (λ (z : X). f (n, z)) same) ∙ h)
  silent_more n x xs h rest (suc j) y e =
      let there : n + 1 + j ≡ n + suc j = omega arith in
      sym (ap (λ (k : ℕ). f (k, y)) there) ∙ rest j y e

  one_on : (n j : ℕ) → n + 1 + j ≡ n + suc j
  one_on n j = omega arith

  later : (n : ℕ) (x : X) (xs : List X) (place : ℕ) → ((j : ℕ) (y : X) → place < j → slice_get xs j ≡ Some y → f (n + 1 + j, y) ≡ None)
      → (j : ℕ) (y : X) → suc place < j → slice_get (x ∷ xs) j ≡ Some y → f (n + j, y) ≡ None
  later n x xs place h zero y lt e = absurd (omega arith)
  later n x xs place h (suc j) y lt e = sym (ap (λ (k : ℕ). f (k, y)) (one_on n j)) ∙ h j y (omega arith) e

  after_first : (n : ℕ) (x : X) (xs : List X) → NoneSays (n + 1) xs → (j : ℕ) (y : X) → 0 < j → slice_get (x ∷ xs) j ≡ Some y → f (n + j, y) ≡ None
  after_first n x xs h zero y lt e = absurd (omega arith)
  after_first n x xs h (suc j) y lt e = sym (ap (λ (k : ℕ). f (k, y)) (one_on n j)) ∙ h j y e

  nothing_there : (j : ℕ) (y : X) → slice_get [] j ≡ Some y → ⊥
  nothing_there j y e = cc

  later_says : (n : ℕ) (x : X) (xs : List X) (b : Bool) → LastSays (n + 1) xs b → LastSays n (x ∷ xs) b
  later_says n x xs b l = record {
    place = suc l.place;
    value = l.value;
    there = l.there;
    says = sym (ap (λ (k : ℕ). f (k, l.value)) (one_on n l.place)) ∙ l.says;
    last = later n x xs l.place l.last;
  }

  first_says : (n : ℕ) (x : X) (xs : List X) (s b : Bool) → f (n, x) ≡ Some s → s ≡ b → NoneSays (n + 1) xs → LastSays n (x ∷ xs) b
  first_says n x xs s b is same rest =
      let here : n ≡ n + 0 = omega arith in
      record {
        place = 0;
        value = x;
        there = refl;
        says = sym (ap (λ (k : ℕ). f (k, x)) here) ∙ (is ∙ ap Some same);
        last = after_first n x xs rest;
      }

  abbrev Outcome : ℕ → List X → Bool → Bool → Type 0
  Outcome n xs default b = LastSays n xs b ⊎ ((default ≡ b) × NoneSays n xs)

  by_first : (n : ℕ) (x : X) (xs : List X) (default b : Bool) (o : Option Bool) → f (n, x) ≡ o
      → ((d : Bool) → last_or d (filter_map f (enumerate_from (n + 1) xs)) ≡ b → Outcome (n + 1) xs d b)
      → last_or default (cons_option o (filter_map f (enumerate_from (n + 1) xs))) ≡ b → Outcome n (x ∷ xs) default b
  by_first n x xs default b None is again e =
      elim (again default e) [
        | inl later ↦ inl (later_says n x xs b later)
        | inr none ↦ inr (none.0, silent_more n x xs is none.1)
      ]
  by_first n x xs default b (Some s) is again e =
      elim (again s e) [
        | inl later ↦ inl (later_says n x xs b later)
        | inr none ↦ inl (first_says n x xs s b is none.0 none.1)
      ]

  last_says : (n : ℕ) (xs : List X) (default b : Bool) → last_or default (filter_map f (enumerate_from n xs)) ≡ b → Outcome n xs default b
  last_says n [] default b h = inr (h, (λ j y e. absurd (nothing_there j y e)))
  last_says n (x ∷ xs) default b h = by_first n x xs default b (f (n, x)) refl (λ d. last_says (n + 1) xs d b) h

-- ---- what an item says of warnings

sign_at : (s : OptionSign) (b : Bool) → is_on s ≡ b → s ≡ (if b then Plus else Minus)
sign_at Plus true h = refl
sign_at Plus false h = absurd cc
sign_at Minus true h = absurd cc
sign_at Minus false h = refl

outside_is : (o : Option ℕ) → is_some o ≡ false → o ≡ None
outside_is None h = refl
outside_is (Some k) h = absurd cc

letter_there : (letters : List ℕ) → has_letter letters warnings_letter ≡ true → Contains letters 119
letter_there letters h =
    let any : Any (λ k. nat_eq k 119 ≡ true) letters = Any-from_list_any (λ k. nat_eq k 119) letters h in
    subst (λ (k : ℕ). Contains letters k) (eqb-true any.1 119 any.4) (any.0, any.2, any.3)

letter_has : (letters : List ℕ) → Contains letters 119 → has_letter letters warnings_letter ≡ true
letter_has letters h = list_any_at (λ k. nat_eq k 119) letters h.0 119 h.1 (eq-eqb (get_or letters h.0 119) 119 h.2)

-- An option that has a setting has the letter, and is not in a state set.
record OptionSays (bytes : ℕ → List ℕ) (in_set : Bool) (line : OptionLine) (b : Bool) : Type 0 where
  outside : in_set ≡ false
  letter : has_letter (bytes line.letters) warnings_letter ≡ true
  sign : is_on line.sign ≡ b

option_says : (bytes : ℕ → List ℕ) (in_set has : Bool) (line : OptionLine) (b : Bool) → has_letter (bytes line.letters) warnings_letter ≡ has
    → (if in_set then None else (if has then Some (is_on line.sign) else None)) ≡ Some b → OptionSays bytes in_set line b
option_says bytes true has line b is h = absurd cc
option_says bytes false false line b is h = absurd cc
option_says bytes false true line b is h = record { outside = refl; letter = is; sign = cc }

tree_says : (bytes : ℕ → List ℕ) (in_set : Bool) (tree : Item) (b : Bool) → warning_setting bytes in_set tree ≡ Some b → (line : OptionLine) × ((tree ≡ items.OptionLine line) × OptionSays bytes in_set line b)
tree_says bytes in_set (items.OptionLine line) b h = (line, (refl, option_says bytes in_set (has_letter (bytes line.letters) warnings_letter) line b refl h))
tree_says bytes in_set _ b h = absurd cc

plus_none : (k : ℕ) → k ≡ 0 + k
plus_none k = omega arith

none_some : (b : Bool) → None ≡ Some b → ⊥
none_some b e = cc

two_signs : Some false ≡ Some true → ⊥
two_signs e = absurd cc

same_value : {X : Type 0} (x y : X) → Some x ≡ Some y → x ≡ y
same_value x y e = cc

module _ (text : List ℕ) (xs : List ProgramItem) where
  abbrev ss : List Outline
  ss = outlines_of text xs

  set_by : (i : ℕ) (x : ProgramItem) (b : Bool) (o : Option Item) → slice_get xs i ≡ Some x → x.tree ≡ o → setting_in text ss i x.tokens o ≡ Some b → SetsWarnings text xs i (if b then Plus else Minus)
  unfolding is_in_set
  set_by i x b None there is h = absurd cc
  set_by i x b (Some tree) there is h =
      let told = tree_says (token_bytes text x.tokens) (is_in_set ss i) tree b h in
      record {
        item = x;
        line = told.0;
        there = there;
        is = is ∙ ap Some told.1.0;
        outside = outside_is (enclosing_set ss i) told.1.1.outside;
        letter = letter_there (token_bytes text x.tokens told.0.letters) told.1.1.letter;
        says = sign_at told.0.sign b told.1.1.sign;
      }

  sets : (i : ℕ) (x : ProgramItem) (b : Bool) → slice_get xs i ≡ Some x → setting_of_item text ss (i, x) ≡ Some b → SetsWarnings text xs i (if b then Plus else Minus)
  sets i x b there h = set_by i x b x.tree there refl h

  told_by : (i : ℕ) (sign : OptionSign) (s : SetsWarnings text xs i sign) → setting_of_item text ss (i, s.item) ≡ Some (is_on sign)
  unfolding is_in_set
  told_by i sign s =
      let bytes : ℕ → List ℕ = token_bytes text s.item.tokens in
      ap (setting_in text ss i s.item.tokens) s.is
      ∙ (ap (λ o. if is_some o then None else (if has_letter (bytes s.line.letters) warnings_letter then Some (is_on s.line.sign) else None)) s.outside
      ∙ (ap (λ h. if h then Some (is_on s.line.sign) else None) (letter_has (bytes s.line.letters) s.letter) ∙ ap (λ g. Some (is_on g)) s.says))

  abbrev f : ℕ × ProgramItem → Option Bool
  f = setting_of_item text ss

  -- One item says one thing.
  one_item : (i : ℕ) (x : ProgramItem) (sign : OptionSign) (s : SetsWarnings text xs i sign) → slice_get xs i ≡ Some x → f (0 + i, x) ≡ Some (is_on sign)
  one_item i x sign s there =
      let same : s.item ≡ x = same_value s.item x (sym s.there ∙ there) in
      ap (λ (k : ℕ). f (k, x)) (sym (plus_none i)) ∙ subst (λ (z : ProgramItem). f (i, z) ≡ Some (is_on sign)) same (told_by i sign s)

  shown_not : AreWarningsOff text xs → shows_warnings text xs ≡ true → ⊥
  shown_not off h =
      elim (last_says f 0 xs true true h) [
        | inl l ↦
            let plus : SetsWarnings text xs l.place Plus = sets l.place l.value true l.there (ap (λ (k : ℕ). f (k, l.value)) (plus_none l.place) ∙ l.says) in
            elim (cases_order l.place off.place) [
              | inl same ↦
                  let there : slice_get xs l.place ≡ Some off.off.item = ap (slice_get xs) same ∙ off.off.there in
                  let minus : f (0 + off.place, off.off.item) ≡ Some false = one_item off.place off.off.item Minus off.off off.off.there in
                  let yes : f (0 + l.place, off.off.item) ≡ Some true = one_item l.place off.off.item Plus plus there in
                  absurd (two_signs (sym minus ∙ (ap (λ (k : ℕ). f (0 + k, off.off.item)) (sym same) ∙ yes)))
              | inr apart ↦ elim apart [
                | inl less ↦ none_some false (sym (l.last off.place off.off.item less off.off.there) ∙ one_item off.place off.off.item Minus off.off off.off.there)
                | inr more ↦ off.last l.place Plus more plus
              ]
            ]
        | inr none ↦ none_some false (sym (none.1 off.place off.off.item off.off.there) ∙ one_item off.place off.off.item Minus off.off off.off.there)
      ]

  -- Where the last that says something says that they are off, they are off, and the other way
  -- round.
  pub off_is : shows_warnings text xs ≡ false → AreWarningsOff text xs
  off_is h =
      elim (last_says f 0 xs true false h) [
        | inl l ↦ record {
          place = l.place;
          off = sets l.place l.value false l.there (ap (λ (k : ℕ). f (k, l.value)) (plus_none l.place) ∙ l.says);
          last = λ i sign lt s. none_some (is_on sign) (sym (l.last i s.item lt s.there) ∙ (ap (λ (k : ℕ). f (k, s.item)) (sym (plus_none i)) ∙ told_by i sign s));
        }
        | inr none ↦ absurd (true≢false none.0)
      ]

  pub off_told : AreWarningsOff text xs → shows_warnings text xs ≡ false
  off_told off = false_from_ne_true (shows_warnings text xs) (λ h. shown_not off h)
