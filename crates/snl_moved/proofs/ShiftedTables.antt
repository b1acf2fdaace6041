-- The tables of a text after an edit that shifts tokens. `line` says what becomes of the line of an
-- offset.
use Rattle.std.proofs.Common.{◌≡◌, ℕ, suc, ◌<◌, ◌||◌, nat_lt, Bool, true, false, List, [], ◌∷◌, length, slice_get, Option, Some, None, refl, sym, subst, ap, ap₂, ◌∙◌}
use Rattle.std.proofs.Math.Path.{fun_ext}
use Rattle.std.proofs.lemmas.Bool.{false≢true}
use Rattle.std.specs.List.{AllByRecursion}
use Rattle.std.specs.Option.{option_and_then, option_map, option_map_or, is_some}
use Rattle.snl_facts.specs.Each.{each_weaker}
use Rattle.snl_lex.specs.declared.lines.Line.{Line}
use Rattle.snl_lex.specs.declared.piece.Class.{Class}
use Rattle.snl_lex.specs.declared.piece.Piece.{Piece}
use Rattle.snl_lex.specs.declared.shift.Shift.{Shift}
use Rattle.snl_lex.specs.Lines.{line_at}
use Rattle.snl_lex.specs.PieceList.{spelled}
use Rattle.snl_grammar.specs.declared.tree.item.Item.{Item}
use Rattle.snl_grammar.specs.declared.tree.item.Item.TheVariants as items
use Rattle.snl_grammar.specs.Parsing.{kinds_in}
use Rattle.snl_grammar.specs.Reading.Items.{item_of}
use Rattle.snl_summary.specs.declared.summary.Outline.{Outline}
use Rattle.snl_summary.specs.declared.summary.Summary.{Summary}
use Rattle.snl_scope.specs.Flags.{flags_of}
use Rattle.snl_summary.specs.NamedTokens.{NamesItsTokens, own_name}
use Rattle.snl_scope.specs.Order.{is_named_state, is_state_word, state_name}
use Rattle.snl_scope.specs.Places.{begins_set, is_set_begin}
use Rattle.snl_summary.specs.Summaries.{kind_of, opening_in, role_of, second_in, summary_in}
use Rattle.snl_summary.specs.Summaries.Clauses.{clauses_in}
use Rattle.snl_summary.specs.Summaries.Declares.{declared_in}
use Rattle.snl_walk.specs.Tokens.{token_bytes}
use Rattle.snl_tables.specs.declared.rows.SetRow.{SetRow}
use Rattle.snl_tables.specs.Moved.{moved_set, moved_state, moved_tables}
use Rattle.snl_tables.specs.Shifted.{shifted_flag, shifted_span}
use Rattle.snl_check.specs.Channels.{assigned_channels}
use Rattle.snl_check.specs.Clauses.{item_clauses_if, resolved_clauses}
use Rattle.snl_item_check.specs.Items.{ProgramItem, outline_of_item, outlines_of, tokens_in, tree_in}
use Rattle.snl_check.specs.ItemSpans.{item_name}
use Rattle.snl_check.specs.Members.{has_faulty, is_faulty_item, states_in, target_numbers}
use Rattle.snl_moved.specs.Moved.{KeepsItem}
use Rattle.snl_check.specs.Settings.{setting_at}
use Rattle.snl_moved.specs.Shifted.{has_line, shifted_item, start_at, shifted_tokens}
use Rattle.snl_moved.specs.Spans.{AreRead}
use Rattle.snl_check.specs.States.{line_of_item, mark_of, numbered_row, set_row, set_rows, state_row}
use Rattle.snl_check.specs.Tables.{flag_row_at, tables_by}
use Rattle.snl_moved.proofs.ShiftedItems.{IsKept, faulty_stays, header_at, program_shifts, tokens_shift}
use Rattle.snl_moved.proofs.ShiftedClauses.{ChannelsStay, HasBytes, IsChannelKept, assigned_stay, channels_shift, clauses_stay, flags_shift, options_stay, sync_stays, variables_stay}
use Rattle.snl_moved.proofs.ShiftedStates.{mark_stays, set_row_shifts, state_row_shifts, state_rows_shift}
use Rattle.snl_moved.proofs.SpanLaws.{second_there, some_if, tested, tokens_are}

-- ---- all rows but those of state sets

-- What the items after the edit say, where all that goes into these rows is kept.
pub record RestStays (old text : List ℕ) (s : Shift) (xs ys : List ProgramItem) (ss : List Outline) : Type 0 where
  pub count : length ys ≡ length xs
  pub headers : (i : ℕ) → header_at ys i ≡ option_map (shifted_span s) (header_at xs i)
  pub settings : (i : ℕ) → i < length xs → setting_at text ys ss i ≡ setting_at old xs ss i
  pub flags : AllByRecursion (λ number. flag_row_at ys ss number ≡ option_map (shifted_flag s) (flag_row_at xs ss number)) (flags_of ss)
  pub clauses : (i : ℕ) → item_clauses_if i (tree_in ys i) ≡ item_clauses_if i (tree_in xs i)
  pub bytes : AllByRecursion (HasBytes old text xs ys) (resolved_clauses xs ss)
  pub channels : AllByRecursion (IsChannelKept old text s xs ys ss) (assigned_channels old xs ss)

module _ (old text : List ℕ) (s : Shift) (xs ys : List ProgramItem) (ss : List Outline) (before : 0 < s.start) (stays : RestStays old text s xs ys ss) where
  pub same_clauses : resolved_clauses ys ss ≡ resolved_clauses xs ss
  same_clauses = clauses_stay xs ys stays.clauses stays.count ss

  pub same_channels : assigned_channels text ys ss ≡ assigned_channels old xs ss
  same_channels = assigned_stay old text xs ys ss same_clauses stays.bytes

  rows_of_channels : ChannelsStay old text s xs ys ss
  rows_of_channels = record {
    assigned = same_channels;
    syncs = sync_stays old text xs ys ss same_clauses stays.bytes;
  }

  pub tables_but_sets : (line : ℕ → Line → Line) (sets : List SetRow) → set_rows text ys ss ≡ sets → tables_by text ys ss ≡ record (moved_tables s line (tables_by old xs ss)) { sets = sets }
  tables_but_sets line sets is =
      let program = program_shifts s xs ys stays.headers in
      let options = options_stay old text s xs ys ss stays.count stays.settings in
      let flags = flags_shift s xs ys ss stays.flags in
      let channels = channels_shift old text s xs ys ss rows_of_channels before stays.channels in
      let variables = variables_stay old text xs ys ss same_clauses stays.bytes in
      cc

-- ---- the rows of state sets

-- An item's line moves as that of its name.
unfoldable pub IsLineKept : (old text : List ℕ) → (ℕ → Line → Line) → (xs ys : List ProgramItem) → ℕ → Type 0
IsLineKept old text line xs ys i = line_of_item text ys i ≡ line (item_name xs i).start (line_of_item old xs i)

-- An item is kept, and so is its line.
pub record IsRowKept (old text : List ℕ) (s : Shift) (line : ℕ → Line → Line) (xs ys : List ProgramItem) (i : ℕ) : Type 0 where
  pub item : IsKept old text s xs ys i
  pub lined : IsLineKept old text line xs ys i

-- What the marks of a set's states go by.
pub record MarksStay (old text : List ℕ) (xs ys : List ProgramItem) (ss : List Outline) (k : ℕ) : Type 0 where
  pub some_faulty : has_faulty ys ss k ≡ has_faulty xs ss k
  pub targets : AllByRecursion (λ j. target_numbers text ys ss (states_in ss k) j ≡ target_numbers old xs ss (states_in ss k) j) (states_in ss k)

module _ (old text : List ℕ) (s : Shift) (xs ys : List ProgramItem) (ss : List Outline) (before : 0 < s.start)
    (assigned : assigned_channels text ys ss ≡ assigned_channels old xs ss) (k : ℕ) (marks : MarksStay old text xs ys ss k) where
  pub same_mark : (number j : ℕ) → is_faulty_item ys j ≡ is_faulty_item xs j → mark_of text ys ss k number j ≡ mark_of old xs ss k number j
  same_mark = mark_stays old text s xs ys ss k marks.some_faulty marks.targets

  pub state_shifts : (line : ℕ → Line → Line) (j : ℕ) → IsRowKept old text s line xs ys j → (number : ℕ) → numbered_row text ys ss k (number, j) ≡ moved_state s line (numbered_row old xs ss k (number, j))
  unfolding IsLineKept
  state_shifts line j kept number =
      ap (λ m. state_row text ys ss m j) (same_mark number j (faulty_stays old text s xs ys j kept.item))
      ∙ state_row_shifts old text s xs ys ss j kept.item before line (mark_of old xs ss k number j) assigned kept.lined

  pub set_shifts : (line : ℕ → Line → Line) → item_name ys k ≡ shifted_span s (item_name xs k) → IsLineKept old text line xs ys k → AllByRecursion (IsRowKept old text s line xs ys) (states_in ss k) →
      set_row text ys ss k ≡ moved_set s line (set_row old xs ss k)
  unfolding IsLineKept
  set_shifts line name lined states =
      set_row_shifts old text s xs ys ss line k name lined
      (state_rows_shift old text s xs ys ss line k
      (each_weaker (IsRowKept old text s line xs ys) (λ j. (number : ℕ) → numbered_row text ys ss k (number, j) ≡ moved_state s line (numbered_row old xs ss k (number, j))) (state_shifts line) (states_in ss k) states))

-- ---- items that have a name

named_has_second : (text : List ℕ) (xs : List ProgramItem) (j : ℕ) → is_named_state (outlines_of text xs) j ≡ true → 1 < length (tokens_in xs j)
named_has_second text xs j h =
    let found = tested text xs (λ s. is_some (state_name s)) j h in
    let x = found.0 in
    let second : is_some (second_in text x.tokens) ≡ true = some_if (is_state_word (opening_in text x.tokens)) (second_in text x.tokens) found.2 in
    subst (λ (ts : List Piece). 1 < length ts) (sym (tokens_are xs j x found.1)) (second_there text x.tokens second)

set_has_second : (text : List ℕ) (xs : List ProgramItem) (k : ℕ) → ((t : Item) → tree_in xs k ≡ Some t → AllByRecursion (λ n. n < length (tokens_in xs k)) (own_name t)) →
    is_set_begin (outlines_of text xs) k ≡ true → 1 < length (tokens_in xs k)
set_has_second text xs k own h =
    let found = tested text xs (λ s. begins_set s.role) k h in
    let x = found.0 in
    by x found.1 x.tree refl (nat_lt 0 (length (declared_in text x.tokens x.tree)) || nat_lt 0 (length (clauses_in text x.tokens x.tree))) found.2
  where
    by : (x : ProgramItem) → slice_get xs k ≡ Some x → (o : Option Item) → x.tree ≡ o → (b : Bool) → begins_set (role_of (kind_of o) b) ≡ true → 1 < length (tokens_in xs k)
    by x at (Some (items.SsBegin name)) is b e = (own (items.SsBegin name) (ap (option_and_then (λ (x : ProgramItem). x.tree)) at ∙ is)).0
    by x at (Some (items.StateBlock name ms)) is true e = absurd (false≢true e)
    by x at (Some (items.StateBlock name ms)) is false e = absurd (false≢true e)
    by x at o is b e = absurd (false≢true e)

-- ---- an item that keeps its tokens is kept, and so is its line

module _ (old text : List ℕ) (s : Shift) (line : ℕ → Line → Line) (xs ys : List ProgramItem) (i : ℕ) (item : slice_get ys i ≡ option_map (shifted_item s) (slice_get xs i))
    (keeps : (x : ProgramItem) → slice_get xs i ≡ Some x → KeepsItem old text s line x) where
  bytes_kept : token_bytes text (tokens_in ys i) ≡ token_bytes old (tokens_in xs i)
  unfolding token_bytes
  bytes_kept = ap (λ (o : Option ProgramItem). token_bytes text (option_map_or (λ (x : ProgramItem). x.tokens) o [])) item ∙ by (slice_get xs i) refl
    where
      by : (o : Option ProgramItem) → slice_get xs i ≡ o →
          token_bytes text (option_map_or (λ (x : ProgramItem). x.tokens) (option_map (shifted_item s) o) []) ≡ token_bytes old (option_map_or (λ (x : ProgramItem). x.tokens) o [])
      by None e = fun_ext (λ n. refl)
      by (Some x) e = fun_ext (keeps x e).bytes

  pub item_kept : IsKept old text s xs ys i
  item_kept = record { item = item; bytes = bytes_kept }

  line_kept : (x : ProgramItem) → slice_get xs i ≡ Some x → has_line (outline_of_item old x) ≡ true → 1 < length (tokens_in xs i) → IsLineKept old text line xs ys i
  unfolding IsLineKept
  line_kept x at is many =
      let same = tokens_are xs i x at in
      ap (λ (ts : List Piece). line_at text (start_at ts 0)) (tokens_shift old text s xs ys i item_kept ∙ ap (shifted_tokens s) same)
      ∙ (keeps x at).lined is (subst (λ (ts : List Piece). 1 < length ts) same many)
      ∙ sym (ap (λ (ts : List Piece). line (start_at ts 1) (line_at old (start_at ts 0))) same)

  pub set_line : 1 < length (tokens_in xs i) → is_set_begin (outlines_of old xs) i ≡ true → IsLineKept old text line xs ys i
  set_line many h =
      let found = tested old xs (λ s. begins_set s.role) i h in
      line_kept found.0 found.1 (ap (λ b. b || is_some (state_name (outline_of_item old found.0))) found.2) many

  pub state_line : is_named_state (outlines_of old xs) i ≡ true → IsLineKept old text line xs ys i
  state_line h =
      let found = tested old xs (λ s. is_some (state_name s)) i h in
      line_kept found.0 found.1 (by (begins_set (outline_of_item old found.0).role) (is_some (state_name (outline_of_item old found.0))) found.2) (named_has_second old xs i h)
    where
      by : (a b : Bool) → b ≡ true → (a || b) ≡ true
      by true b e = refl
      by false b e = e

-- ---- the same tokens say the same to others

alike : (old text : List ℕ) (s : Shift) (tokens : List Piece) → ((n : ℕ) → token_bytes text (shifted_tokens s tokens) n ≡ token_bytes old tokens n) → spelled text (shifted_tokens s tokens) ≡ spelled old tokens
unfolding token_bytes
alike old text s [] h = refl
alike old text s (p ∷ ps) h = ap₂ (λ (b : List ℕ) (l : List (Class × List ℕ)). (p.kind, b) ∷ l) (h 0) (alike old text s ps (λ n. h (suc n)))

-- The laws of the crate below that this rests on: a tree names tokens of its item, and tokens that
-- are spelled alike give the same summary.
pub record SpellingLaws : Type 0 where
  pub named : (text : List ℕ) (tokens : List Piece) (t : Item) → item_of (kinds_in text tokens) ≡ Some t → NamesItsTokens text tokens t
  pub summaries : (text moved : List ℕ) (tokens shifted : List Piece) → spelled text tokens ≡ spelled moved shifted → (tree : Option Item) → summary_in text tokens tree ≡ summary_in moved shifted tree

pub outline_stays : SpellingLaws → (old text : List ℕ) (s : Shift) (line : ℕ → Line → Line) (x : ProgramItem) → KeepsItem old text s line x → outline_of_item text (shifted_item s x) ≡ outline_of_item old x
outline_stays laws old text s line x keeps =
    ap (λ (m : Summary). m.outline) (laws.summaries text old (shifted_tokens s x.tokens) x.tokens (alike old text s x.tokens keeps.bytes) x.tree)

pub set_named : SpellingLaws → (text : List ℕ) (xs : List ProgramItem) → AreRead text xs → (k : ℕ) → is_set_begin (outlines_of text xs) k ≡ true → 1 < length (tokens_in xs k)
set_named laws text xs read k = set_has_second text xs k (λ t is. (laws.named text (tokens_in xs k) t (read.trees k t is)).own)
