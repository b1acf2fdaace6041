-- In the span of a faulty item is what the parser finds there, and what the text lacks altogether.
use Rattle.std.proofs.Common.{◌≡◌, ℕ, zero, suc, ◌+◌, ◌<◌, ◌≤◌, Bool, true, false, All, List, [], ◌∷◌, ◌++◌, length, map, slice_get, Option, None, Some, is_none, option_map, inl, inr, refl, sym, ap, subst, ◌∙◌, arith}
use Rattle.std.specs.Prelude.{if◌then◌else◌, option_and_then}
use Rattle.std.specs.Option.{option_map_or}
use Rattle.std.specs.List.{AllByRecursion as Each, cons_option, enumerate_from, filter_map}
use Rattle.std.proofs.lemmas.Bool.{cases_order, true≢false}
use Rattle.std.proofs.lemmas.List.Elements.{All-from_recursion, recursion_from_All}
use Rattle.std.proofs.lemmas.Option.{same_Some, slice_get-map}
use Rattle.snl_lex.specs.declared.piece.Piece.{Piece}
use Rattle.snl_lex.specs.Pieces.{LiesIn, piece_end}
use Rattle.snl_grammar.specs.declared.outcome.Parsed.{Parsed}
use Rattle.snl_grammar.specs.declared.outcome.Parsed.TheVariants as parsed
use Rattle.snl_grammar.specs.declared.tree.item.Item.{Item}
use Rattle.snl_grammar.specs.Outcome.{parsed_in}
use Rattle.snl_codes.specs.declared.code.Code.{Code}
use Rattle.snl_codes.specs.declared.code.Code.TheVariants.{E01, E02, W02}
use Rattle.snl_walk.specs.Tokens.{token_bytes}
use Rattle.snl_scope.specs.declared.facts.LinkFault.{LinkFault}
use Rattle.snl_summary.specs.declared.summary.Outline.{Outline}
use Rattle.snl_scope.specs.Below.{all_below}
use Rattle.snl_scope.specs.FaultPlaces.{IsMissing, IsPlaced, IsPlacedBy}
use Rattle.snl_scope.specs.Linked as links
use Rattle.snl_scope.specs.Places.{is_set_begin}
use Rattle.snl_item_check.specs.declared.findings.ItemFault.{ItemFault}
use Rattle.snl_item_check.specs.ItemFaults.{faults_in}
use Rattle.snl_item_check.specs.Items.{outline_of_item, tokens_in}
use Rattle.snl_check.specs.ItemSpans.{item_name, span_of}
use Rattle.snl_check.specs.Members.{has_faulty, is_faulty_item, states_in}
use Rattle.snl_moved.specs.Spans.{HasByte, InSet, InState, TablesHaveBytes}
use Rattle.snl_check.specs.States.{first_mark, is_reached_in, is_repeated, mark_of, numbered_row, set_row, state_rows}
use Rattle.snl_check.specs.Tables.{tables_of}
use Rattle.snl_item_check.specs.View.{is_in_set, known_of, leads_to}
use Rattle.snl_kept.specs.declared.found.findings.Diagnostic.{Diagnostic}
use Rattle.snl_kept.specs.declared.found.findings.Finding.{Finding}
use Rattle.snl_kept.specs.Checked.{at_own_token, checked_faults, found_in_item, moved}
use Rattle.snl_kept.specs.Diagnostics.{diagnostic, diagnostics_of, found}
use Rattle.snl_kept.specs.Faults.{at_number, at_token, fault_at, fault_in, faults_of}
use Rattle.snl_kept.specs.Linked.{finding_at, linked_faults, linked_finding, linked_of, outlines_of}
use Rattle.snl_kept.specs.Program.{ProgramItem, items_of}
use Rattle.snl_kept.specs.Tables.{found_at_state, found_in_set, is_unreached, tables_in, walked_faults}
use Rattle.snl_finding_laws.specs.OwnFaults.{IsAtFaulty, is_in_span, is_of_parser}
use Rattle.snl_finding_laws.proofs.FaultyLinks.{AtSound, links_at_sound}
use Rattle.snl_finding_laws.proofs.OneFault.{FindingLaws, all_read}
use Rattle.snl_finding_laws.proofs.OtherCodes.{IsRead, all_speak}
use Rattle.snl_finding_laws.proofs.OwnFaults.{after_span, before_span, turned}
use Rattle.snl_finding_laws.proofs.Places.{IsPlace, ItemLaws, bytes_few, places_in}
use Rattle.snl_finding_laws.proofs.Shown.{each_diagnostic}
use Rattle.snl_finding_laws.proofs.Tokens.{AreInARow, items_in_a_row, items_within, missing}
use Rattle.snl_facts.specs.Each.{each_append, each_weaker, each_both, each_got, each_map, each_flat, EachTwo, numbered}
use Rattle.snl_kept.specs.TokenLaws.{Before, AllBefore, InARow}

-- ---- elements by their numbers

two_got : {A : Type 0} (R : A → A → Type 0) (xs : List A) (i j : ℕ) (x y : A) → EachTwo R xs → i < j → slice_get xs i ≡ Some x → slice_get xs j ≡ Some y → R x y
two_got R [] i j x y h l e f = absurd cc
two_got R (z ∷ zs) zero zero x y h l e f = absurd (omega (arith, l))
two_got R (z ∷ zs) zero (suc j) x y h l e f = let same : z ≡ x = cc in each_got (R x) zs j y (subst (λ w. Each (R w) zs) same h.0) f
two_got R (z ∷ zs) (suc i) zero x y h l e f = absurd (omega (arith, l))
two_got R (z ∷ zs) (suc i) (suc j) x y h l e f = two_got R zs i j x y h.1 (omega (arith, l)) e f

module _ (text : List ℕ) (xs : List ProgramItem) (row : AreInARow text xs) (i : ℕ) (x : ProgramItem) (at : slice_get xs i ≡ Some x) (faulty : x.tree ≡ None) where
  own_row : InARow text x.tokens
  own_row = each_got (λ z. InARow text z.tokens) xs i x row.each at

  abbrev Only : Diagnostic → Type 0
  Only d = is_in_span x d.offset ≡ true → IsAtFaulty d

  abbrev Told : Finding → Type 0
  Told f = Only (diagnostic text f)

  -- No byte of a sound item's token is in the span.
  elsewhere : (j : ℕ) (y : ProgramItem) (n : ℕ) (p : Piece) → slice_get xs j ≡ Some y → is_none y.tree ≡ false → slice_get y.tokens n ≡ Some p
      → (offset : ℕ) → p.start ≤ offset → offset < piece_end p → is_in_span x offset ≡ false
  elsewhere j y n p there sound token offset from within =
      elim (cases_order i j) [
        | inl same ↦
            let one : x ≡ y = same_Some x y (sym at ∙ ap (slice_get xs) same ∙ there) in
            absurd (true≢false (sym (ap is_none faulty) ∙ ap (λ z. is_none z.tree) one ∙ sound))
        | inr apart ↦ elim apart [
          | inl less ↦ after_span x p (each_got (λ q. Each (λ r. Before r q) x.tokens) y.tokens n p (two_got (λ a b. AllBefore a.tokens b.tokens) xs i j x y row.items less at there) token) offset from
          | inr more ↦
              before_span text x p own_row
              (each_got (λ q. Each (Before q) x.tokens) y.tokens n p (turned y.tokens x.tokens (two_got (λ a b. AllBefore a.tokens b.tokens) xs j i y x row.items more there at)) token) offset within
        ]
      ]

  never : (f : Finding) → is_in_span x f.offset ≡ false → Told f
  never f out = λ inside. absurd (true≢false (sym inside ∙ out))

  -- ---- what the parser finds

  number_told : (code : Code) → is_of_parser code ≡ true → (tokens : List Piece) (n : ℕ) (rest : List Finding) → Each Told rest → Each Told (cons_option (at_number code tokens n) rest)
  number_told code is tokens n rest h = by (slice_get tokens n)
    where
      by : (o : Option Piece) → Each Told (cons_option (option_map (at_token code) o) rest)
      by None = h
      by (Some p) = (λ inside. inl is, h)

  fault_told : (tokens : List Piece) (o : Parsed) (rest : List Finding) → Each Told rest → Each Told (cons_option (fault_at tokens o) rest)
  fault_told tokens (parsed.Sound tree) rest h = h
  fault_told tokens (parsed.BadToken n) rest h = number_told E01 refl tokens n rest h
  fault_told tokens (parsed.NoItem n) rest h = number_told E02 refl tokens n rest h

  faults_told : (ys : List ProgramItem) → Each Told (filter_map (fault_in text) ys)
  faults_told [] = tt
  faults_told (y ∷ ys) = fault_told y.tokens (parsed_in text y.tokens) (filter_map (fault_in text) ys) (faults_told ys)

  -- ---- what the links find

  missing_told : (f : LinkFault) → IsMissing (outlines_of text xs) f → Told (finding_at f.code None)
  missing_told f h = λ inside. inr (refl, elim h.code [ inl e ↦ inl e.0 | inr e ↦ inr e.0 ])

  piece_told : (j : ℕ) (y : ProgramItem) (n : ℕ) (code : Code) → slice_get xs j ≡ Some y → is_none y.tree ≡ false → n < length y.tokens → Told (finding_at code (slice_get y.tokens n))
  piece_told j y n code there sound own = by (slice_get y.tokens n) refl
    where
      by : (o : Option Piece) → slice_get y.tokens n ≡ o → Told (finding_at code o)
      by None e = absurd (missing y.tokens n own e)
      by (Some p) e =
          let lies : LiesIn text p = each_got (LiesIn text) y.tokens n p (each_got (λ z. InARow text z.tokens) xs j y row.each there).lie e in
          never (finding_at code (Some p)) (elsewhere j y n p there sound e p.start (omega arith) (omega (arith, lies.0)))

  link_told : (f : LinkFault) → IsPlaced (λ j. length (tokens_in xs j)) (outlines_of text xs) f → AtSound text xs f → Told (linked_finding xs f)
  link_told f placed sound =
      let P : Option Outline → Type 0 = λ o. IsPlacedBy (λ j. length (tokens_in xs j)) (outlines_of text xs) f o in
      by (slice_get xs f.item) refl (subst P (slice_get-map (outline_of_item text) xs f.item) placed)
    where
      by : (o : Option ProgramItem) → slice_get xs f.item ≡ o → IsPlacedBy (λ j. length (tokens_in xs j)) (outlines_of text xs) f (option_map (outline_of_item text) o)
          → Told (finding_at f.code (option_and_then (λ y. slice_get y.tokens f.token) o))
      by None e h = missing_told f h
      by (Some y) e h =
          let count : length (tokens_in xs f.item) ≡ length y.tokens = ap (λ o. length (option_map_or (λ z. z.tokens) o [])) e in
          piece_told f.item y f.token f.code e (sound y e) (omega (arith, h.token, count))

  links_told : Each (IsPlaced (λ j. length (tokens_in xs j)) (outlines_of text xs)) (links.faults_of (linked_of text xs)) → Each Told (linked_faults text xs)
  links_told placed =
      let faults : List LinkFault = links.faults_of (linked_of text xs) in
      each_map Told (linked_finding xs) faults
      (each_weaker (λ f. IsPlaced (λ j. length (tokens_in xs j)) (outlines_of text xs) f × AtSound text xs f) (λ f. Told (linked_finding xs f)) (λ f h. link_told f h.0 h.1) faults
      (each_both (IsPlaced (λ j. length (tokens_in xs j)) (outlines_of text xs)) (AtSound text xs) faults placed (links_at_sound text xs)))

  -- ---- what is found in items

  byte_within : (f : ItemFault) (tokens : List Piece) (p : Piece) → LiesIn text p → slice_get tokens f.token ≡ Some p → IsPlace text tokens f → f.byte < p.len
  byte_within f tokens p lies e is =
      elim is.inside [ inl first ↦ omega (arith, first, lies.0) | inr within ↦ omega (arith, within, bytes_few text tokens f.token p e) ]

  place_told : (j : ℕ) (y : ProgramItem) → slice_get xs j ≡ Some y → is_none y.tree ≡ false → (f : ItemFault) → IsPlace text y.tokens f → Told (at_own_token y.tokens f)
  place_told j y there sound f is = by (slice_get y.tokens f.token) refl
    where
      by : (o : Option Piece) → slice_get y.tokens f.token ≡ o → Told (moved f.byte (finding_at f.code o))
      by None e = absurd (missing y.tokens f.token is.own e)
      by (Some p) e =
          let lies : LiesIn text p = each_got (LiesIn text) y.tokens f.token p (each_got (λ z. InARow text z.tokens) xs j y row.each there).lie e in
          let within : f.byte < p.len = byte_within f y.tokens p lies e is in
          never (moved f.byte (finding_at f.code (Some p))) (elsewhere j y f.token p there sound e (p.start + f.byte) (omega arith) (omega (arith, within)))

  item_told : ItemLaws → Each (IsRead text) xs → (j : ℕ) (y : ProgramItem) → slice_get xs j ≡ Some y → Each Told (found_in_item text (outlines_of text xs) (j, y))
  item_told laws read j y there = by y.tree refl
    where
      by : (o : Option Item) → y.tree ≡ o → Each Told (found_in_item text (outlines_of text xs) (j, record { tokens = y.tokens; tree = o }))
      by None e = tt
      by (Some t) e =
          let faults : List ItemFault = faults_in (token_bytes text y.tokens) t (is_in_set (outlines_of text xs) j) (known_of (outlines_of text xs) j) (leads_to (outlines_of text xs) j) in
          each_map Told (at_own_token y.tokens) faults
          (each_weaker (IsPlace text y.tokens) (λ f. Told (at_own_token y.tokens f)) (place_told j y there (ap is_none e)) faults
          (places_in laws text (outlines_of text xs) j y.tokens t (each_got (IsRead text) xs j y read there t e)))

  checked_told : ItemLaws → Each (IsRead text) xs → Each Told (checked_faults text xs)
  checked_told laws read =
      each_flat (found_in_item text (outlines_of text xs)) Told (λ p. slice_get xs p.0 ≡ Some p.1) (λ p there. item_told laws read p.0 p.1 there)
      (enumerate_from 0 xs) (numbered xs xs 0 (λ k. let same : k ≡ 0 + k = omega arith in ap (slice_get xs) same))

  -- ---- what the walks find

  unreached_sound : (is_faulty repeated unknown reached : Bool) → is_unreached (first_mark is_faulty repeated unknown reached) ≡ true → is_faulty ≡ false
  unreached_sound true repeated unknown reached h = absurd cc
  unreached_sound false repeated unknown reached h = refl

  name_told : (item : ℕ) → is_faulty_item xs item ≡ false → HasByte (item_name xs item) → Told (record { offset = (item_name xs item).start; code = W02; subject = (item_name xs item).len })
  name_told item = by_item (slice_get xs item) refl
    where
      by_token : (y : ProgramItem) → slice_get xs item ≡ Some y → is_none y.tree ≡ false → (o : Option Piece) → slice_get y.tokens 1 ≡ o → HasByte (span_of o)
          → Told (record { offset = (span_of o).start; code = W02; subject = (span_of o).len })
      by_token y there sound None e has = absurd (omega (arith, has))
      by_token y there sound (Some p) e has =
          never (record { offset = p.start; code = W02; subject = p.len }) (elsewhere item y 1 p there sound e p.start (omega arith) (omega (arith, has)))

      by_item : (o : Option ProgramItem) → slice_get xs item ≡ o → option_map_or (λ z. is_none z.tree) o false ≡ false → HasByte (span_of (slice_get (option_map_or (λ z. z.tokens) o []) 1))
          → Told (record { offset = (span_of (slice_get (option_map_or (λ z. z.tokens) o []) 1)).start; code = W02; subject = (span_of (slice_get (option_map_or (λ z. z.tokens) o []) 1)).len })
      by_item None e sound has = absurd (omega (arith, has))
      by_item (Some y) e sound has = by_token y e sound (slice_get y.tokens 1) refl has

  state_told : (k number item : ℕ) → InState HasByte (numbered_row text xs (outlines_of text xs) k (number, item)) → Each Told (found_at_state (numbered_row text xs (outlines_of text xs) k (number, item)))
  state_told k number item has = by (is_unreached (mark_of text xs (outlines_of text xs) k number item)) refl
    where
      by : (b : Bool) → is_unreached (mark_of text xs (outlines_of text xs) k number item) ≡ b
          → Each Told (if b then record { offset = (item_name xs item).start; code = W02; subject = (item_name xs item).len } ∷ [] else [])
      by true e = (
        name_told item
            (unreached_sound (is_faulty_item xs item) (is_repeated (outlines_of text xs) item) (has_faulty xs (outlines_of text xs) k) (is_reached_in text xs (outlines_of text xs) k number) e)
            has.name,
        tt,
      )
      by false e = tt

  unmapped : {A B : Type 0} (P : B → Type 0) (f : A → B) (ys : List A) → Each P (map f ys) → Each (λ y. P (f y)) ys
  unmapped P f [] h = tt
  unmapped P f (y ∷ ys) h = (h.0, unmapped P f ys h.1)

  set_told : (k : ℕ) → InSet HasByte (set_row text xs (outlines_of text xs) k) → Each Told (found_in_set (set_row text xs (outlines_of text xs) k))
  set_told k has =
      let states : List (ℕ × ℕ) = enumerate_from 0 (states_in (outlines_of text xs) k) in
      each_flat found_at_state Told (λ s. Each Told (found_at_state s)) (λ s h. h) (state_rows text xs (outlines_of text xs) k)
      (each_map (λ s. Each Told (found_at_state s)) (numbered_row text xs (outlines_of text xs) k) states
      (each_weaker (λ p. InState HasByte (numbered_row text xs (outlines_of text xs) k p)) (λ p. Each Told (found_at_state (numbered_row text xs (outlines_of text xs) k p)))
      (λ p h. state_told k p.0 p.1 h) states (unmapped (InState HasByte) (numbered_row text xs (outlines_of text xs) k) states has.states)))

  walked_told : TablesHaveBytes (tables_of text xs) → Each Told (walked_faults text xs)
  walked_told has =
      let ss : List Outline = outlines_of text xs in
      let sets : List ℕ = all_below (is_set_begin ss) (length ss) in
      each_flat found_in_set Told (λ s. Each Told (found_in_set s)) (λ s h. h) (tables_of text xs).sets
      (each_map (λ s. Each Told (found_in_set s)) (set_row text xs ss) sets
      (each_weaker (λ k. InSet HasByte (set_row text xs ss k)) (λ k. Each Told (found_in_set (set_row text xs ss k))) set_told sets (unmapped (InSet HasByte) (set_row text xs ss) sets has.sets)))

-- ---- all that is found

pub only_own : (text : List ℕ) → FindingLaws text → ItemLaws → TablesHaveBytes (tables_in text) → (i : ℕ) (x : ProgramItem) → slice_get (items_of text) i ≡ Some x → x.tree ≡ None
    → All (λ d. is_in_span x d.offset ≡ true → IsAtFaulty d) (diagnostics_of text)
unfolding found tables_in
only_own text laws items has i x at faulty =
    let xs : List ProgramItem = items_of text in
    let row : AreInARow text xs = items_in_a_row text laws.listed laws.inside (items_within text laws.rise laws.last) in
    let placed : Each (IsPlaced (λ j. length (tokens_in xs j)) (outlines_of text xs)) (links.faults_of (linked_of text xs)) =
    recursion_from_All (IsPlaced (λ j. length (tokens_in xs j)) (outlines_of text xs)) (links.faults_of (linked_of text xs))
    (laws.links.places (linked_of text xs) (λ j. length (tokens_in xs j)) (all_speak laws.links text xs row (all_read text))) in
    let P : Diagnostic → Type 0 = λ d. is_in_span x d.offset ≡ true → IsAtFaulty d in
    let Q : Finding → Type 0 = λ f. P (diagnostic text f) in
    All-from_recursion P (diagnostics_of text)
    (each_diagnostic text P
    (each_append Q (faults_of text xs ++ linked_faults text xs ++ checked_faults text xs) (walked_faults text xs)
    (each_append Q (faults_of text xs ++ linked_faults text xs) (checked_faults text xs)
    (each_append Q (faults_of text xs) (linked_faults text xs) (faults_told text xs row i x at faulty xs) (links_told text xs row i x at faulty placed))
    (checked_told text xs row i x at faulty items (all_read text)))
    (walked_told text xs row i x at faulty has)))
