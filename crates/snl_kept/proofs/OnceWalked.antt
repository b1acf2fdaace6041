-- States that are not reached are found at different offsets: each is named in an item of its own.
use Rattle.std.proofs.Common.{◌≡◌, ℕ, ◌<◌, Bool, true, false, ◌&&◌, nat_eq, List, [], ◌∷◌, ◌++◌, length, map, slice_get, Option, None, Some, is_some, option_map, refl, sym, ap, subst, ◌∙◌, arith, if◌then◌else◌}
use Rattle.std.specs.List.{AllByRecursion as Each, enumerate_from, flat_map}
use Rattle.std.specs.Option.{option_map_or}
use Rattle.std.proofs.lemmas.Bool.{eqb-true, false≢true}
use Rattle.snl_scope.specs.BelowLaws.{each_passing, two_below}
use Rattle.snl_lex.specs.declared.piece.Piece.{Piece}
use Rattle.snl_lex.specs.Pieces.{LiesIn}
use Rattle.snl_codes.specs.declared.code.Code.TheVariants.{W02}
use Rattle.snl_summary.specs.declared.summary.Outline.{Outline}
use Rattle.snl_scope.specs.Below.{all_below}
use Rattle.snl_scope.specs.Order.{is_named_state, is_state_word, state_name}
use Rattle.snl_scope.specs.Places.{is_set_begin, enclosing_set, stands_in}
use Rattle.snl_summary.specs.Summaries.{second_in}
use Rattle.snl_tables.specs.declared.rows.StateRow.{StateRow}
use Rattle.snl_item_check.specs.Items.{outline_of_item}
use Rattle.snl_check.specs.ItemSpans.{item_name, span_of}
use Rattle.snl_check.specs.Members.{states_in}
use Rattle.snl_check.specs.States.{numbered_row, set_row}
use Rattle.snl_kept.specs.declared.found.findings.Finding.{Finding}
use Rattle.snl_kept.specs.Linked.{outlines_of}
use Rattle.snl_kept.specs.OnceFound.{DifferInPlace}
use Rattle.snl_kept.specs.Program.{ProgramItem}
use Rattle.snl_kept.specs.Tables.{at_name, found_at_state, found_in_set, is_unreached, walked_faults}
use Rattle.snl_kept.proofs.OnceTokens.{AreApart, IsIn, one_item}
use Rattle.snl_kept.proofs.OnceTwo.{two_flat, two_numbered, two_with}
use Rattle.snl_facts.specs.Booleans.{and_second, and_first}
use Rattle.std.proofs.lemmas.Option.{slice_get-map}
use Rattle.snl_facts.specs.Each.{each_weaker, each_got, each_flat, each_numbered, EachTwo}
use Rattle.snl_kept.specs.TokenLaws.{InARow}

flat_of_map : {A B C : Type 0} (F : B → List C) (g : A → B) (xs : List A) → flat_map F (map g xs) ≡ flat_map (λ x. F (g x)) xs
flat_of_map F g [] = refl
flat_of_map F g (x ∷ xs) = ap (λ l. F (g x) ++ l) (flat_of_map F g xs)

in_one_set : (ss : List Outline) (k m j : ℕ) → stands_in ss k j ≡ true → stands_in ss m j ≡ true → k ≡ m
in_one_set ss k m j = by (enclosing_set ss j)
  where
    by : (o : Option ℕ) → option_map_or (nat_eq k) o false ≡ true → option_map_or (nat_eq m) o false ≡ true → k ≡ m
    by None h g = absurd (false≢true h)
    by (Some n) h g = eqb-true k n h ∙ sym (eqb-true m n g)

module _ (text : List ℕ) (xs : List ProgramItem) (apart : AreApart text xs) where
  abbrev ss : List Outline
  ss = outlines_of text xs

  -- the name of a state is a token of its item
  name_is_in : (j : ℕ) → is_named_state ss j ≡ true → IsIn xs j 1 (item_name xs j).start
  name_is_in j named = by (slice_get xs j) refl (subst (λ o. option_map_or (λ s. is_some (state_name s)) o false ≡ true) (slice_get-map (outline_of_item text) xs j) named)
    where
      second : (b : Bool) (tokens : List Piece) → is_some (if b then second_in text tokens else None) ≡ true → (p : Piece) × (slice_get tokens 1 ≡ Some p)
      second false tokens h = absurd (false≢true h)
      second true [] h = absurd (false≢true h)
      second true (p ∷ []) h = absurd (false≢true h)
      second true (p ∷ q ∷ ps) h = (q, refl)

      by : (o : Option ProgramItem) → slice_get xs j ≡ o → option_map_or (λ s. is_some (state_name s)) (option_map (outline_of_item text) o) false ≡ true → IsIn xs j 1 (item_name xs j).start
      by None at h = absurd (false≢true h)
      by (Some x) at h =
          let name = second (is_state_word (outline_of_item text x).opening) x.tokens h in
          let row = each_got (λ x. InARow text x.tokens) xs j x apart.each at in
          let some = (each_got (LiesIn text) x.tokens 1 name.0 row.lie name.1).0 in
          let start : (item_name xs j).start ≡ name.0.start =
          ap (λ o. (span_of (slice_get (option_map_or (λ (y : ProgramItem). y.tokens) o []) 1)).start) at ∙ ap (λ o. (span_of o).start) name.1 in
          record { x = x; p = name.0; item = at; token = name.1; low = omega (arith, start); high = omega (arith, start, some) }

  -- A finding at the name of a state of the set that item k begins.
  record AtState (k : ℕ) (f : Finding) : Type 0 where
    j : ℕ
    named : is_named_state ss j ≡ true
    set : stands_in ss k j ≡ true
    offset : f.offset ≡ (item_name xs j).start
    code : f.code ≡ W02

  apart_by_item : (i j : ℕ) → is_named_state ss i ≡ true → is_named_state ss j ≡ true → (i ≡ j → ⊥) → (f g : Finding) → f.offset ≡ (item_name xs i).start → g.offset ≡ (item_name xs j).start → DifferInPlace f g
  apart_by_item i j a b other f g of og offset code =
      let start : (item_name xs j).start ≡ (item_name xs i).start = sym og ∙ sym offset ∙ of in
      other (one_item text xs apart i j 1 1 (item_name xs i).start (name_is_in i a) (subst (IsIn xs j 1) start (name_is_in j b)))

  abbrev IsMember : ℕ → ℕ → Type 0
  IsMember k j = (is_named_state ss j ≡ true) × (stands_in ss k j ≡ true)

  members : (k : ℕ) → Each (IsMember k) (states_in ss k)
  members k =
      each_passing (IsMember k) (λ j. is_named_state ss j && stands_in ss k j) (length ss)
      (λ j is. (and_first (is_named_state ss j) (stands_in ss k j) is, and_second (is_named_state ss j) (stands_in ss k j) is))

  abbrev row_of : ℕ → ℕ × ℕ → StateRow
  row_of k p = numbered_row text xs ss k p

  at_row : (k : ℕ) (p : ℕ × ℕ) → IsMember k p.1 → Each (λ f. (f.offset ≡ (item_name xs p.1).start) × (f.code ≡ W02)) (found_at_state (row_of k p)) × EachTwo DifferInPlace (found_at_state (row_of k p))
  at_row k p m = by (is_unreached (row_of k p).mark)
    where
      by : (b : Bool) → Each (λ f. (f.offset ≡ (item_name xs p.1).start) × (f.code ≡ W02)) (if b then at_name (row_of k p).name ∷ [] else []) × EachTwo DifferInPlace (if b then at_name (row_of k p).name ∷ [] else [])
      by true = (((refl, refl), tt), (tt, tt))
      by false = (tt, tt)

  abbrev found_by : ℕ → ℕ × ℕ → List Finding
  found_by k p = found_at_state (row_of k p)

  in_set : (k : ℕ) → Each (AtState k) (found_in_set (set_row text xs ss k)) × EachTwo DifferInPlace (found_in_set (set_row text xs ss k))
  in_set k =
      let ns : List (ℕ × ℕ) = enumerate_from 0 (states_in ss k) in
      let own : Each (λ p. IsMember k p.1) ns = each_numbered (IsMember k) 0 (states_in ss k) (members k) in
      let rise : EachTwo (λ p q. p.1 < q.1) ns = two_numbered (λ a b. a < b) 0 (states_in ss k) (two_below (λ j. is_named_state ss j && stands_in ss k j) (length ss)) in
      let both : EachTwo (λ p q. IsMember k p.1 × IsMember k q.1 × (p.1 < q.1)) ns =
      two_with (λ p q. p.1 < q.1) (λ p. IsMember k p.1) (λ p q. IsMember k p.1 × IsMember k q.1 × (p.1 < q.1)) (λ p q m n l. (m, n, l)) ns own rise in
      let same = sym (flat_of_map found_at_state (row_of k) ns) in (
        subst (Each (AtState k)) same
            (each_flat (found_by k) (AtState k) (λ p. IsMember k p.1)
            (λ p m. each_weaker (λ f. (f.offset ≡ (item_name xs p.1).start) × (f.code ≡ W02)) (AtState k) (λ f h. record { j = p.1; named = m.0; set = m.1; offset = h.0; code = h.1 }) (found_by k p) (at_row k p m).0) ns own),
        subst (EachTwo DifferInPlace) same
            (two_flat (found_by k) DifferInPlace (λ p q. IsMember k p.1 × IsMember k q.1 × (p.1 < q.1)) (λ p f. (f.offset ≡ (item_name xs p.1).start) × (f.code ≡ W02))
            (λ p q m f g a b. apart_by_item p.1 q.1 m.0.0 m.1.0 (λ e. omega (arith, m.2, e)) f g a.0 b.0) ns both
            (each_weaker (λ p. IsMember k p.1) (λ p. Each (λ f. (f.offset ≡ (item_name xs p.1).start) × (f.code ≡ W02)) (found_by k p) × EachTwo DifferInPlace (found_by k p)) (λ p m. at_row k p m) ns own)),
      )

  between_sets : (k m : ℕ) → k < m → (f g : Finding) → AtState k f → AtState m g → DifferInPlace f g
  between_sets k m l f g a b =
      apart_by_item a.j b.j a.named b.named
      (λ e. let one = in_one_set ss k m b.j (subst (λ n. stands_in ss k n ≡ true) e a.set) b.set in omega (arith, one, l)) f g a.offset b.offset

  abbrev sets : List ℕ
  sets = all_below (is_set_begin ss) (length ss)

  every_set : (ks : List ℕ) → Each (λ k. Each (AtState k) (found_in_set (set_row text xs ss k)) × EachTwo DifferInPlace (found_in_set (set_row text xs ss k))) ks
  every_set [] = tt
  every_set (k ∷ ks) = (in_set k, every_set ks)

  pub walked_once : EachTwo DifferInPlace (walked_faults text xs)
  walked_once =
      subst (EachTwo DifferInPlace) (sym (flat_of_map found_in_set (set_row text xs ss) sets))
      (two_flat (λ k. found_in_set (set_row text xs ss k)) DifferInPlace (λ k m. k < m) AtState between_sets sets (two_below (is_set_begin ss) (length ss)) (every_set sets))

  pub walked_coded : Each (λ f. f.code ≡ W02) (walked_faults text xs)
  walked_coded =
      subst (Each (λ f. f.code ≡ W02)) (sym (flat_of_map found_in_set (set_row text xs ss) sets))
      (each_flat (λ k. found_in_set (set_row text xs ss k)) (λ f. f.code ≡ W02) (λ k. Each (AtState k) (found_in_set (set_row text xs ss k)) × EachTwo DifferInPlace (found_in_set (set_row text xs ss k)))
      (λ k h. each_weaker (AtState k) (λ f. f.code ≡ W02) (λ f a. a.code) (found_in_set (set_row text xs ss k)) h.0) sets (every_set sets))
