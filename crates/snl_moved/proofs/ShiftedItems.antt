-- What items say of their tokens after an edit that shifts these. Each lemma asks only of the items
-- that it speaks of that they are kept: `xs` are the items before the edit, `ys` those after it.
use Rattle.std.proofs.Common.{◌≡◌, ℕ, suc, ◌+◌, ◌-◌, ◌<◌, Bool, false, List, [], ◌∷◌, min, slice_get, Option, Some, None, if◌then◌else◌, refl, sym, ap, ap₂, ◌∙◌}
use Rattle.std.specs.Option.{is_none, option_and_then, option_map, option_map_or, option_or}
use Rattle.std.proofs.lemmas.Option.{slice_get-map}
use borrow.Author.Tests.{lt-ltb}
use Rattle.snl_lex.specs.declared.piece.Piece.{Piece}
use Rattle.snl_lex.specs.declared.shift.Shift.{Shift}
use Rattle.snl_lex.specs.Shift.{most, shifted_offset, shifted_piece}
use Rattle.snl_walk.specs.Tokens.{token_bytes}
use Rattle.snl_tables.specs.declared.rows.Span.{Span}
use Rattle.snl_tables.specs.Shifted.{shifted_span}
use Rattle.snl_item_check.specs.Items.{ProgramItem, tokens_in, tree_in}
use Rattle.snl_check.specs.ItemSpans.{header_name, named_by, program_name, span_at, span_of}
use Rattle.snl_check.specs.Members.{is_faulty_item}
use Rattle.snl_moved.specs.Shifted.{shifted_item, shifted_tokens}

-- The item with this number is the one that it was, shifted, and its tokens have the bytes that
-- they had.
pub record IsKept (old text : List ℕ) (s : Shift) (xs ys : List ProgramItem) (i : ℕ) : Type 0 where
  pub item : slice_get ys i ≡ option_map (shifted_item s) (slice_get xs i)
  pub bytes : token_bytes text (tokens_in ys i) ≡ token_bytes old (tokens_in xs i)

-- ---- where tokens are

module _ (s : Shift) (before : 0 < s.start) where
  start_stays : shifted_offset s 0 ≡ 0
  start_stays = ap (λ (b : Bool). if b then 0 else min ((0 - s.old_stop) + s.new_stop) most) (lt-ltb 0 s.start before)

  span_shifts : (o : Option Piece) → span_of (option_map (shifted_piece s) o) ≡ shifted_span s (span_of o)
  span_shifts None = let span : ℕ → Span = λ n. record { start = n; len = 0 } in ap span (sym start_stays)
  span_shifts (Some p) = refl

  pub token_shifts : (tokens : List Piece) (n : ℕ) → span_of (slice_get (shifted_tokens s tokens) n) ≡ shifted_span s (span_of (slice_get tokens n))
  token_shifts tokens n = ap span_of (slice_get-map (shifted_piece s) tokens n) ∙ span_shifts (slice_get tokens n)

  pub header_shifts : (x : ProgramItem) → header_name (shifted_item s x) ≡ option_map (shifted_span s) (header_name x)
  header_shifts x = by (named_by x.tree)
    where
      by : (o : Option ℕ) → option_map (λ number. span_of (slice_get (shifted_tokens s x.tokens) number)) o
          ≡ option_map (shifted_span s) (option_map (λ number. span_of (slice_get x.tokens number)) o)
      by None = refl
      by (Some n) = ap Some (token_shifts x.tokens n)

-- ---- an item that is kept

module _ (old text : List ℕ) (s : Shift) (xs ys : List ProgramItem) (i : ℕ) (kept : IsKept old text s xs ys i) where
  pub tokens_shift : tokens_in ys i ≡ shifted_tokens s (tokens_in xs i)
  tokens_shift = ap (λ (o : Option ProgramItem). option_map_or (λ (x : ProgramItem). x.tokens) o []) kept.item ∙ by (slice_get xs i)
    where
      by : (o : Option ProgramItem) → option_map_or (λ (x : ProgramItem). x.tokens) (option_map (shifted_item s) o) []
          ≡ shifted_tokens s (option_map_or (λ (x : ProgramItem). x.tokens) o [])
      by None = refl
      by (Some x) = refl

  pub tree_stays : tree_in ys i ≡ tree_in xs i
  tree_stays = ap (λ (o : Option ProgramItem). option_and_then (λ (x : ProgramItem). x.tree) o) kept.item ∙ by (slice_get xs i)
    where
      by : (o : Option ProgramItem) → option_and_then (λ (x : ProgramItem). x.tree) (option_map (shifted_item s) o) ≡ option_and_then (λ (x : ProgramItem). x.tree) o
      by None = refl
      by (Some x) = refl

  pub faulty_stays : is_faulty_item ys i ≡ is_faulty_item xs i
  faulty_stays = ap (λ (o : Option ProgramItem). option_map_or (λ (x : ProgramItem). is_none x.tree) o false) kept.item ∙ by (slice_get xs i)
    where
      by : (o : Option ProgramItem) → option_map_or (λ (x : ProgramItem). is_none x.tree) (option_map (shifted_item s) o) false ≡ option_map_or (λ (x : ProgramItem). is_none x.tree) o false
      by None = refl
      by (Some x) = refl

  pub span_at_shifts : 0 < s.start → (n : ℕ) → span_at ys i n ≡ shifted_span s (span_at xs i n)
  span_at_shifts before n = ap (λ (ts : List Piece). span_of (slice_get ts n)) tokens_shift ∙ token_shifts s before (tokens_in xs i) n

-- ---- the name of the program

-- The name of the program, as the item with a number has it.
abbrev pub header_at : List ProgramItem → ℕ → Option Span
header_at xs i = option_and_then header_name (slice_get xs i)

pub header_at_shifts : (old text : List ℕ) (s : Shift) (xs ys : List ProgramItem) (i : ℕ) → 0 < s.start → IsKept old text s xs ys i →
    header_at ys i ≡ option_map (shifted_span s) (header_at xs i)
header_at_shifts old text s xs ys i before kept = ap (option_and_then header_name) kept.item ∙ by (slice_get xs i)
  where
    by : (o : Option ProgramItem) → option_and_then header_name (option_map (shifted_item s) o) ≡ option_map (shifted_span s) (option_and_then header_name o)
    by None = refl
    by (Some x) = header_shifts s before x

module _ (s : Shift) where
  or_shifts : (a b c d : Option Span) → a ≡ option_map (shifted_span s) c → b ≡ option_map (shifted_span s) d → option_or a b ≡ option_map (shifted_span s) (option_or c d)
  or_shifts a b c d e f = ap₂ option_or e f ∙ by c
    where
      by : (c : Option Span) → option_or (option_map (shifted_span s) c) (option_map (shifted_span s) d) ≡ option_map (shifted_span s) (option_or c d)
      by None = refl
      by (Some c) = refl

  pub program_shifts : (xs ys : List ProgramItem) → ((i : ℕ) → header_at ys i ≡ option_map (shifted_span s) (header_at xs i)) →
      program_name ys ≡ option_map (shifted_span s) (program_name xs)
  program_shifts [] [] h = refl
  program_shifts [] (y ∷ ys) h = or_shifts (header_name y) (program_name ys) None None (h 0) (program_shifts [] ys (λ i. h (suc i)))
  program_shifts (x ∷ xs) [] h = or_shifts None None (header_name x) (program_name xs) (h 0) (program_shifts xs [] (λ i. h (suc i)))
  program_shifts (x ∷ xs) (y ∷ ys) h = or_shifts (header_name y) (program_name ys) (header_name x) (program_name xs) (h 0) (program_shifts xs ys (λ i. h (suc i)))
