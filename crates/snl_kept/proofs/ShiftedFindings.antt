-- What is found in a text after an edit that shifts its tokens.
use Rattle.std.proofs.Common.{◌≡◌, ℕ, zero, suc, ◌+◌, ◌<◌, ◌≤◌, ◌⊎◌, inl, inr, Bool, true, false, if◌then◌else◌, All, IfSome, List, [], ◌∷◌, ◌++◌, length, map, slice_get, drop, Option, Some, None, option_map, refl, sym, ap, ap₂, ◌∙◌, arith}
use Rattle.std.specs.List.{AllByRecursion, cons_option, enumerate_from, filter_map, flat_map}
use Rattle.std.specs.Option.{option_and_then}
use Rattle.std.proofs.lemmas.List.{length-take, map-append}
use Rattle.std.proofs.lemmas.List.Elements.{recursion_from_All}
use Rattle.std.proofs.lemmas.Option.{slice_get-map}
use Rattle.snl_lex.specs.declared.lines.Line.{Line}
use Rattle.snl_lex.specs.declared.piece.Piece.{Piece}
use Rattle.snl_lex.specs.declared.shift.Shift.{Shift}
use Rattle.snl_lex.specs.Pieces.{LiesIn, piece_end}
use Rattle.snl_lex.specs.Shift.{most, shifted_offset, shifted_piece}
use Rattle.snl_grammar.specs.declared.outcome.Parsed.{Parsed}
use Rattle.snl_grammar.specs.declared.outcome.Parsed.TheVariants as parsed
use Rattle.snl_grammar.specs.declared.tree.item.Item.{Item}
use Rattle.snl_codes.specs.declared.code.Code.{Code}
use Rattle.snl_scope.specs.declared.facts.LinkFault.{LinkFault}
use Rattle.snl_summary.specs.Summaries.Tokens.{token_bytes, bytes_if}
use Rattle.snl_summary.specs.declared.summary.Outline.{Outline}
use Rattle.snl_tables.specs.declared.rows.SetRow.{SetRow}
use Rattle.snl_tables.specs.declared.rows.StateRow.{StateRow}
use Rattle.snl_tables.specs.declared.rows.Tables.{Tables}
use Rattle.snl_tables.specs.Moved.{moved_set, moved_state, moved_tables}
use Rattle.snl_item_check.specs.declared.findings.ItemFault.{ItemFault}
use Rattle.snl_item_check.specs.Options.{warning_setting}
use Rattle.snl_item_check.specs.View.{is_in_set}
use Rattle.snl_moved.specs.Shifted.{shifted_item, shifted_tokens}
use Rattle.snl_kept.specs.declared.found.findings.Finding.{Finding}
use Rattle.snl_kept.specs.Checked.{at_own_token, faults_kept, found_in_item, moved}
use Rattle.snl_kept.specs.Checks.{checked_by}
use Rattle.snl_kept.specs.Faults.{at_number, at_token, fault_at}
use Rattle.snl_kept.specs.Linked.{finding_at, linked_finding, token_of}
use Rattle.snl_kept.specs.Program.{ProgramItem}
use Rattle.snl_kept.specs.Shifted.{shifted_finding}
use Rattle.snl_kept.specs.Tables.{at_name, found_at_state, found_in_set, is_unreached, walked_in}
use Rattle.snl_kept.specs.Warnings.{setting_in, setting_of_item}
use Rattle.snl_lex.specs.ShiftLaws.{early_offset, late_offset}

module _ (s : Shift) where
  -- at a faulty item
  number_shifts : (code : Code) (ts : List Piece) (n : ℕ) → at_number code (shifted_tokens s ts) n ≡ option_map (shifted_finding s) (at_number code ts n)
  number_shifts code ts n = ap (option_map (at_token code)) (slice_get-map (shifted_piece s) ts n) ∙ by (slice_get ts n)
    where
      by : (o : Option Piece) → option_map (at_token code) (option_map (shifted_piece s) o) ≡ option_map (shifted_finding s) (option_map (at_token code) o)
      by None = refl
      by (Some p) = refl

  pub fault_shifts : (ts : List Piece) (p : Parsed) → fault_at (shifted_tokens s ts) p ≡ option_map (shifted_finding s) (fault_at ts p)
  fault_shifts ts (parsed.Sound tree) = refl
  fault_shifts ts (parsed.BadToken at) = number_shifts _ ts at
  fault_shifts ts (parsed.NoItem at) = number_shifts _ ts at

  -- by the walks of state sets, whatever becomes of lines
  module _ (line : ℕ → Line → Line) where
    pub state_shifts : (row : StateRow) → found_at_state (moved_state s line row) ≡ map (shifted_finding s) (found_at_state row)
    state_shifts row = by (is_unreached row.mark)
      where
        by : (b : Bool) → (if b then at_name (moved_state s line row).name ∷ [] else []) ≡ map (shifted_finding s) (if b then at_name row.name ∷ [] else [])
        by true = refl
        by false = refl

    pub states_shift : (rows : List StateRow) → flat_map found_at_state (map (moved_state s line) rows) ≡ map (shifted_finding s) (flat_map found_at_state rows)
    states_shift [] = refl
    states_shift (row ∷ rows) =
        ap₂ (λ (x y : List Finding). x ++ y) (state_shifts row) (states_shift rows) ∙ sym (map-append (shifted_finding s) (found_at_state row) (flat_map found_at_state rows))

    sets_shift : (rows : List SetRow) → flat_map found_in_set (map (moved_set s line) rows) ≡ map (shifted_finding s) (flat_map found_in_set rows)
    sets_shift [] = refl
    sets_shift (row ∷ rows) =
        ap₂ (λ (x y : List Finding). x ++ y) (states_shift row.states) (sets_shift rows) ∙ sym (map-append (shifted_finding s) (found_in_set row) (flat_map found_in_set rows))

    pub walked_shift : (t : Tables) → walked_in (moved_tables s line t) ≡ map (shifted_finding s) (walked_in t)
    walked_shift t = sets_shift t.sets

  -- by the links: what has no token is at the beginning, which stays
  module _ (before : 0 < s.start) where
    pub finding_shifts : (code : Code) (o : Option Piece) → finding_at code (option_map (shifted_piece s) o) ≡ shifted_finding s (finding_at code o)
    finding_shifts code None = let x : ℕ → Finding = λ n. record { offset = n; code = code; subject = 0 } in ap x (sym (early_offset s 0 before))
    finding_shifts code (Some p) = refl

    pub token_shifts : (xs : List ProgramItem) (i n : ℕ) → token_of (map (shifted_item s) xs) i n ≡ option_map (shifted_piece s) (token_of xs i n)
    token_shifts xs i n = ap (option_and_then (λ (x : ProgramItem). slice_get x.tokens n)) (slice_get-map (shifted_item s) xs i) ∙ by (slice_get xs i)
      where
        by : (o : Option ProgramItem) → option_and_then (λ (x : ProgramItem). slice_get x.tokens n) (option_map (shifted_item s) o) ≡ option_map (shifted_piece s) (option_and_then (λ (x : ProgramItem). slice_get x.tokens n) o)
        by None = refl
        by (Some x) = slice_get-map (shifted_piece s) x.tokens n

    pub placed_shift : (xs : List ProgramItem) (faults : List LinkFault) → map (linked_finding (map (shifted_item s) xs)) faults ≡ map (shifted_finding s) (map (linked_finding xs) faults)
    placed_shift xs [] = refl
    placed_shift xs (f ∷ fs) =
        ap₂ (λ (x : Finding) (l : List Finding). x ∷ l)
        (ap (finding_at f.code) (token_shifts xs f.item f.token) ∙ finding_shifts f.code (token_of xs f.item f.token)) (placed_shift xs fs)

    -- in an item by itself: inside a token, which the edit leaves
    abbrev pub IsInside : (ℕ → List ℕ) → ItemFault → Type 0
    IsInside bytes fault = (fault.byte ≡ 0) ⊎ (fault.byte < length (bytes fault.token))

    module _ (old : List ℕ) (order : s.start ≤ s.old_stop) (fits : length old + s.new_stop ≤ most) where
      further : (p : Piece) (byte : ℕ) → (piece_end p ≤ s.start) ⊎ (s.old_stop ≤ p.start) → piece_end p ≤ length old → byte < p.len → shifted_offset s p.start + byte ≡ shifted_offset s (p.start + byte)
      further p byte (inl h) lies less = ap (λ (n : ℕ). n + byte) (early_offset s p.start (omega arith)) ∙ sym (early_offset s (p.start + byte) (omega arith))
      further p byte (inr h) lies less =
          let one = late_offset s p.start (omega arith) (omega arith) in
          let two = late_offset s (p.start + byte) (omega arith) (omega arith) in
          omega (arith, one, two)

      at_byte : (code : Code) (byte : ℕ) (o : Option Piece) → (byte ≡ 0) ⊎ (byte < length (bytes_if old o)) → IfSome o (λ p. ((piece_end p ≤ s.start) ⊎ (s.old_stop ≤ p.start)) × LiesIn old p)
          → shifted_offset s (finding_at code o).offset + byte ≡ shifted_offset s ((finding_at code o).offset + byte)
      at_byte code byte o (inl h) left =
          let none : (finding_at code o).offset + byte ≡ (finding_at code o).offset = omega (arith, h) in
          omega (arith, h, ap (shifted_offset s) none)
      at_byte code byte None (inr h) left = absurd (omega (arith, h))
      at_byte code byte (Some p) (inr h) left = further p byte left.0 left.1.1 (omega (arith, h, length-take p.len (drop p.start old)))

      got : (P : Piece → Type 0) (ts : List Piece) (n : ℕ) → AllByRecursion P ts → IfSome (slice_get ts n) P
      got P [] n h = tt
      got P (t ∷ ts) zero h = h.0
      got P (t ∷ ts) (suc n) h = got P ts n h.1

      -- The token of the edit's old text is left by the edit.
      abbrev pub IsLeft : Piece → Type 0
      IsLeft p = ((piece_end p ≤ s.start) ⊎ (s.old_stop ≤ p.start)) × LiesIn old p

      own_shifts : (ts : List Piece) (f : ItemFault) → AllByRecursion IsLeft ts → IsInside (token_bytes old ts) f → at_own_token (shifted_tokens s ts) f ≡ shifted_finding s (at_own_token ts f)
      unfolding token_bytes
      own_shifts ts f left inside =
          ap (λ (o : Option Piece). moved f.byte (finding_at f.code o)) (slice_get-map (shifted_piece s) ts f.token)
          ∙ ap (moved f.byte) (finding_shifts f.code (slice_get ts f.token))
          ∙ ap (λ (n : ℕ). let x : Finding = record { offset = n; code = (finding_at f.code (slice_get ts f.token)).code; subject = (finding_at f.code (slice_get ts f.token)).subject } in x)
          (at_byte f.code f.byte (slice_get ts f.token) inside (got IsLeft ts f.token left))

      all_own_shift : (ts : List Piece) (fs : List ItemFault) → AllByRecursion IsLeft ts → AllByRecursion (IsInside (token_bytes old ts)) fs
          → map (at_own_token (shifted_tokens s ts)) fs ≡ map (shifted_finding s) (map (at_own_token ts) fs)
      all_own_shift ts [] left inside = refl
      all_own_shift ts (f ∷ fs) left inside = ap₂ (λ (x : Finding) (l : List Finding). x ∷ l) (own_shifts ts f left inside.0) (all_own_shift ts fs left inside.1)

      module _ (text : List ℕ) (each_inside : (ss : List Outline) (i : ℕ) (bytes : ℕ → List ℕ) (tree : Item) → All (IsInside bytes) (checked_by ss i bytes tree).faults) where
        -- An item has the bytes that it had, and the edit leaves its tokens.
        abbrev pub StaysItem : ProgramItem → Type 0
        StaysItem x = (token_bytes text (shifted_tokens s x.tokens) ≡ token_bytes old x.tokens) × AllByRecursion IsLeft x.tokens

        by_tree : (ss : List Outline) (i : ℕ) (ts : List Piece) (tree : Option Item) → AllByRecursion IsLeft ts
            → map (at_own_token (shifted_tokens s ts)) (faults_kept (option_map (checked_by ss i (token_bytes old ts)) tree))
            ≡ map (shifted_finding s) (map (at_own_token ts) (faults_kept (option_map (checked_by ss i (token_bytes old ts)) tree)))
        by_tree ss i ts None left = refl
        by_tree ss i ts (Some tree) left =
            all_own_shift ts (checked_by ss i (token_bytes old ts) tree).faults left
            (recursion_from_All (IsInside (token_bytes old ts)) (checked_by ss i (token_bytes old ts) tree).faults (each_inside ss i (token_bytes old ts) tree))

        item_shifts : (ss : List Outline) (i : ℕ) (x : ProgramItem) → StaysItem x → found_in_item text ss (i, shifted_item s x) ≡ map (shifted_finding s) (found_in_item old ss (i, x))
        item_shifts ss i x stays =
            ap (λ (b : ℕ → List ℕ). map (at_own_token (shifted_tokens s x.tokens)) (faults_kept (option_map (checked_by ss i b) x.tree))) stays.0
            ∙ by_tree ss i x.tokens x.tree stays.1

        pub checked_shift : (ss : List Outline) (n : ℕ) (xs : List ProgramItem) → AllByRecursion StaysItem xs
            → flat_map (found_in_item text ss) (enumerate_from n (map (shifted_item s) xs)) ≡ map (shifted_finding s) (flat_map (found_in_item old ss) (enumerate_from n xs))
        checked_shift ss n [] stay = refl
        checked_shift ss n (x ∷ xs) stay =
            ap₂ (λ (a b : List Finding). a ++ b) (item_shifts ss n x stay.0) (checked_shift ss (n + 1) xs stay.1)
            ∙ sym (map-append (shifted_finding s) (found_in_item old ss (n, x)) (flat_map (found_in_item old ss) (enumerate_from (n + 1) xs)))

        -- what items say of warnings
        pub setting_stays : (ss : List Outline) (i : ℕ) (ts : List Piece) (tree : Option Item) → token_bytes text (shifted_tokens s ts) ≡ token_bytes old ts → setting_in text ss i (shifted_tokens s ts) tree ≡ setting_in old ss i ts tree
        setting_stays ss i ts None same = refl
        setting_stays ss i ts (Some tree) same = ap (λ (b : ℕ → List ℕ). warning_setting b (is_in_set ss i) tree) same

        pub settings_stay : (ss : List Outline) (n : ℕ) (xs : List ProgramItem) → AllByRecursion StaysItem xs
            → filter_map (setting_of_item text ss) (enumerate_from n (map (shifted_item s) xs)) ≡ filter_map (setting_of_item old ss) (enumerate_from n xs)
        settings_stay ss n [] stay = refl
        settings_stay ss n (x ∷ xs) stay =
            ap₂ (λ (o : Option Bool) (l : List Bool). cons_option o l) (setting_stays ss n x.tokens x.tree stay.0.0) (settings_stay ss (n + 1) xs stay.1)
