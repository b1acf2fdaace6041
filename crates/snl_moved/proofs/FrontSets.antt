-- The rows of the state sets that begin among the first items of a text, but for the last of them:
-- where the items after those are quiet, they go by the first items alone, and by the bytes and the
-- lines of these.
use Rattle.std.proofs.Common.{◌≡◌, ℕ, ◌-◌, ◌<◌, ◌≤◌, true, false, List, [], ◌++◌, length, map, take, drop, slice_get, Option, Some, None, IfSome, is_some, is_none, refl, sym, subst, ap, ap₂, ◌∙◌, arith, length-append}
use Rattle.std.specs.List.{AllByRecursion}
use Rattle.std.specs.Option.{option_map_or}
use Rattle.std.proofs.lemmas.Bool.{false≢true}
use Rattle.std.proofs.lemmas.List.{length-map, length-take-le, map-append, take-append-drop, take-append-le, take-map}
use Rattle.snl_facts.specs.Each.{each_both, each_front, each_weaker}
use Rattle.snl_lex.specs.declared.piece.Piece.{Piece}
use Rattle.snl_lex.specs.Lines.{line_at}
use Rattle.snl_summary.specs.declared.summary.Outline.{Outline}
use Rattle.snl_scope.specs.Below.{all_below}
use Rattle.snl_scope.specs.BelowLaws.{all_below_same}
use Rattle.snl_scope.specs.Places.{begins_set, enclosing_set, is_set_begin}
use Rattle.snl_walk.specs.Tokens.{token_bytes}
use Rattle.snl_check.specs.ItemSpans.{span_of}
use Rattle.snl_check.specs.Members.{states_in}
use Rattle.snl_moved.specs.Quiet.{HasSameLine, IsQuietAfter, are_quiet, sets_before}
use Rattle.snl_check.specs.States.{line_of_item, set_row, set_rows}
use Rattle.snl_check.specs.Tables.{tables_of}
use Rattle.snl_item_check.specs.Items.{ProgramItem, outline_of_item, outlines_of}
use Rattle.snl_moved.proofs.ClosedSets.{IsClosed, closed_faulty, closed_first, closed_known, closed_leads, closed_states, each_but_last, each_passes, states_within}
use Rattle.snl_moved.proofs.FrontNames.{item_in_front}
use Rattle.snl_moved.proofs.FrontRows.{HasSameBytes, IsFront, SummariesAlike, assigned_same, bytes_at, each_bytes, front_span, front_tokens, front_tree, is_front, outlines_same, there}
use Rattle.snl_moved.proofs.SameSets.{IsSameSet, IsSameState, set_same}
use Rattle.snl_check.specs.SetsLaws.{SetsOpenInTurn, numbers_first}
use Rattle.snl_moved.proofs.ShiftedClauses.{assigned_stay}
use Rattle.snl_moved.proofs.ShiftLists.{map_same}
use Rattle.snl_moved.proofs.SpanLaws.{each_got as got_each}

-- ---- lists

each_taken : {A : Type 0} (P : A → Type 0) (c : ℕ) (xs : List A) → AllByRecursion P xs → AllByRecursion P (take c xs)
each_taken P c xs h = each_front P (take c xs) (drop c xs) (subst (AllByRecursion P) (sym (take-append-drop c xs)) h)

-- ---- the first items of a text

module _ (turns : SetsOpenInTurn) (text : List ℕ) (fs rs : List ProgramItem) (front : IsFront text fs rs) where
  abbrev f : List Outline
  f = outlines_of text fs

  abbrev o : List Outline
  o = outlines_of text rs

  many : length f ≡ length fs
  many = length-map fs (outline_of_item text)

  module _ (k : ℕ) (within : k < length f) (closed : IsClosed f (length f) k) where
    abbrev IsState : ℕ → Type 0
    IsState i = (i < length f) × (enclosing_set f i ≡ Some k)

    state_stays : (i : ℕ) → IsState i → IsSameState text text fs (fs ++ rs) f (f ++ o) i
    state_stays i h =
        let l : i < length fs = omega (arith, h.0, many) in
        let tokens = front_tokens fs rs front.items i l in
        record {
          tokens = tokens;
          tree = front_tree fs rs front.items i l;
          faulty = ap (λ (x : Option ProgramItem). option_map_or (λ (x : ProgramItem). is_none x.tree) x false) (front.items i l);
          bytes = ap (token_bytes text) tokens;
          line = ap (λ (ts : List Piece). line_at text (span_of (slice_get ts 0)).start) tokens;
          resolves = front.names.resolves i h.0;
          known = closed_known turns f o k closed front.names.got i h.0 h.1;
          leads = closed_leads turns f o k closed front.names.got i h.0 h.1;
          first = closed_first turns f o k closed front.names.got i h.0 h.1;
        }

    set_stays : IsSameSet text text fs (fs ++ rs) f (f ++ o) k
    set_stays =
        let l : k < length fs = omega (arith, within, many) in
        record {
          name = front_span fs rs front.items k 1 l;
          line = ap (λ (ts : List Piece). line_at text (span_of (slice_get ts 0)).start) (front_tokens fs rs front.items k l);
          states = closed_states turns f o k closed;
          faulty = closed_faulty turns f o k closed fs rs many;
          flags = front.names.flags;
          channels = assigned_same text fs rs front;
          each = each_weaker IsState (IsSameState text text fs (fs ++ rs) f (f ++ o)) state_stays (states_in f k) (states_within f k);
        }

    row_stays : set_row text (fs ++ rs) (f ++ o) k ≡ set_row text fs f k
    row_stays = set_same text text fs (fs ++ rs) f (f ++ o) k set_stays

  -- the items that begin a set
  abbrev begun : List ℕ
  begun = all_below (is_set_begin f) (length f)

  abbrev count : ℕ
  count = length begun - 1

  begun_first : all_below (is_set_begin (f ++ o)) (length f) ≡ begun
  begun_first = all_below_same (is_set_begin (f ++ o)) (is_set_begin f) (length f) (item_in_front f o (λ (s : Outline). begins_set s.role))

  first_begun : take count (all_below (is_set_begin (f ++ o)) (length (f ++ o))) ≡ take count begun
  first_begun =
      let more = numbers_first (is_set_begin (f ++ o)) (length f) (length o) in
      let few : count ≤ length begun = omega arith in
      ap (λ n. take count (all_below (is_set_begin (f ++ o)) n)) (length-append f o)
      ∙ ap (take count) (more.1 ∙ ap (λ (l : List ℕ). l ++ more.0) begun_first)
      ∙ take-append-le count begun more.0 few

  abbrev IsFirstSet : ℕ → Type 0
  IsFirstSet k = ((k < length f) × (is_set_begin f k ≡ true)) × IsClosed f (length f) k

  each_first : AllByRecursion IsFirstSet (take count begun)
  each_first =
      each_both (λ k. (k < length f) × (is_set_begin f k ≡ true)) (IsClosed f (length f)) (take count begun)
      (each_taken (λ k. (k < length f) × (is_set_begin f k ≡ true)) count begun (each_passes (is_set_begin f) (length f)))
      (each_but_last (is_set_begin f) (length f))

  first_rows : take count (set_rows text (fs ++ rs) (f ++ o)) ≡ map (set_row text fs f) (take count begun)
  first_rows =
      take-map (set_row text (fs ++ rs) (f ++ o)) count (all_below (is_set_begin (f ++ o)) (length (f ++ o)))
      ∙ ap (map (set_row text (fs ++ rs) (f ++ o))) first_begun
      ∙ map_same (set_row text (fs ++ rs) (f ++ o)) (set_row text fs f) (take count begun)
      (each_weaker IsFirstSet (λ k. set_row text (fs ++ rs) (f ++ o) k ≡ set_row text fs f k) (λ k h. row_stays k h.0.0 h.1) (take count begun) each_first)

-- ---- the same items in another text

module _ (old text : List ℕ) (fs : List ProgramItem) (bytes : AllByRecursion (HasSameBytes old text) fs) (lines : AllByRecursion (HasSameLine old text) fs) (ss : List Outline) (many : length ss ≡ length fs) where
  line_stays : (i : ℕ) → i < length fs → line_of_item text fs i ≡ line_of_item old fs i
  line_stays i l = by (slice_get fs i) (got_each (HasSameLine old text) fs i lines) (there fs i l)
    where
      by : (x : Option ProgramItem) → IfSome x (HasSameLine old text) → is_some x ≡ true →
          line_at text (span_of (slice_get (option_map_or (λ (x : ProgramItem). x.tokens) x []) 0)).start ≡ line_at old (span_of (slice_get (option_map_or (λ (x : ProgramItem). x.tokens) x []) 0)).start
      by None h some = absurd (false≢true some)
      by (Some x) h some = h

  state_moves : (i : ℕ) → i < length fs → IsSameState old text fs fs ss ss i
  state_moves i l = record {
    tokens = refl;
    tree = refl;
    faulty = refl;
    bytes = bytes_at old text fs bytes i l;
    line = line_stays i l;
    resolves = λ name. refl;
    known = λ name. refl;
    leads = λ name. refl;
    first = refl;
  }

  row_moves : (k : ℕ) → k < length ss → set_row text fs ss k ≡ set_row old fs ss k
  row_moves k l = set_same old text fs fs ss ss k (record {
    name = refl;
    line = line_stays k (omega (arith, l, many));
    states = refl;
    faulty = refl;
    flags = refl;
    channels = assigned_stay old text fs fs ss refl (each_bytes old text fs bytes ss);
    each = each_weaker (λ i. (i < length ss) × (enclosing_set ss i ≡ Some k)) (IsSameState old text fs fs ss ss) (λ i h. state_moves i (omega (arith, h.0, many))) (states_in ss k) (states_within ss k);
  })

-- ---- both texts

module _ (law : SummariesAlike) (turns : SetsOpenInTurn) where
  module _ (text : List ℕ) (xs : List ProgramItem) (n : ℕ) (quiet : are_quiet (outlines_of text (drop n xs)) ≡ true) where
    abbrev first_items : List ProgramItem
    first_items = take n xs

    abbrev first_outlines : List Outline
    first_outlines = outlines_of text first_items

    rows_of_first :
        take (sets_before first_outlines (length first_outlines)) (set_rows text xs (outlines_of text xs))
        ≡ map (set_row text first_items first_outlines) (take (sets_before first_outlines (length first_outlines)) (all_below (is_set_begin first_outlines) (length first_outlines)))
    rows_of_first =
        let c = sets_before first_outlines (length first_outlines) in
        ap (λ (l : List ProgramItem). take c (set_rows text l (outlines_of text l))) (sym (take-append-drop n xs))
        ∙ ap (λ (ss : List Outline). take c (set_rows text (first_items ++ drop n xs) ss)) (map-append (outline_of_item text) first_items (drop n xs))
        ∙ first_rows turns text first_items (drop n xs) (is_front turns text xs n quiet)

    -- they are as many as begin before the item with number n
    begun_before : n ≤ length xs → sets_before (outlines_of text xs) n ≡ sets_before first_outlines (length first_outlines)
    begun_before le =
        let whole : outlines_of text xs ≡ first_outlines ++ outlines_of text (drop n xs) =
        ap (outlines_of text) (sym (take-append-drop n xs)) ∙ map-append (outline_of_item text) first_items (drop n xs) in
        let count : n ≡ length first_outlines = sym (length-map first_items (outline_of_item text) ∙ length-take-le n xs le) in
        ap₂ sets_before whole count
        ∙ ap (λ (l : List ℕ). length l - 1) (begun_first turns text first_items (drop n xs) (is_front turns text xs n quiet))

  pub sets_kept : (old text : List ℕ) (xs ys : List ProgramItem) (n : ℕ) → n ≤ length xs → IsQuietAfter old text xs ys n → AllByRecursion (HasSameLine old text) (take n xs) →
      take (sets_before (outlines_of old xs) n) (tables_of text ys).sets ≡ take (sets_before (outlines_of old xs) n) (tables_of old xs).sets
  sets_kept old text xs ys n le quiet lines =
      let fs = take n xs in
      let f = outlines_of old fs in
      let c = sets_before f (length f) in
      let begun = all_below (is_set_begin f) (length f) in
      let RowsOfFirst : List ProgramItem → List Outline → Type 0 = λ fs f. take (sets_before f (length f)) (set_rows text ys (outlines_of text ys)) ≡ map (set_row text fs f) (take (sets_before f (length f)) (all_below (is_set_begin f) (length f))) in
      let now : take c (set_rows text ys (outlines_of text ys)) ≡ map (set_row text fs f) (take c begun) =
      subst (RowsOfFirst fs) (outlines_same law old text fs quiet.bytes)
      (subst (λ (l : List ProgramItem). RowsOfFirst l (outlines_of text l)) quiet.front (rows_of_first text ys n quiet.quiet_now)) in
      let each : AllByRecursion (λ k. (k < length f) × (is_set_begin f k ≡ true)) (take c begun) =
      each_taken (λ k. (k < length f) × (is_set_begin f k ≡ true)) c begun (each_passes (is_set_begin f) (length f)) in
      ap (λ m. take m (tables_of text ys).sets) (begun_before old xs n quiet.quiet_before le)
      ∙ now
      ∙ map_same (set_row text fs f) (set_row old fs f) (take c begun)
      (each_weaker (λ k. (k < length f) × (is_set_begin f k ≡ true)) (λ k. set_row text fs f k ≡ set_row old fs f k)
      (λ k h. row_moves old text fs quiet.bytes lines f (length-map fs (outline_of_item old)) k h.0) (take c begun) each)
      ∙ sym (rows_of_first old xs n quiet.quiet_before)
      ∙ sym (ap (λ m. take m (tables_of old xs).sets) (begun_before old xs n quiet.quiet_before le))
