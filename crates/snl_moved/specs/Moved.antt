-- The items of a text after an edit that shifts their tokens, by what becomes of lines: `line` says
-- it of the line of an offset.
use Rattle.std.specs.Prelude.{◌≡◌, ◌≢◌, ℕ, ◌<◌, true, List, [], length, slice_get, Some, option_map}
use Rattle.std.specs.List.{AllByRecursion}
use Rattle.snl_lex.specs.declared.lines.Line.{Line}
use Rattle.snl_lex.specs.declared.shift.Shift.{Shift}
use Rattle.snl_lex.specs.Lines.{line_at}
use Rattle.snl_scope.specs.Names.{has_own_scope}
use Rattle.snl_summary.specs.Summaries.{kind_of}
use Rattle.snl_walk.specs.Tokens.{token_bytes}
use Rattle.snl_item_check.specs.Items.{ProgramItem, outline_of_item, outlines_of}
use Rattle.snl_moved.specs.Shifted.{has_line, shifted_item, shifted_tokens, start_at}
use Rattle.snl_moved.specs.ShiftedAround.{IsFlagPlaced, is_plain}
use Rattle.snl_check.specs.Tables.{tables_by, tables_of}

-- The shifted tokens of an item have in the new text the bytes that the tokens had in the old one.
-- Where a row has the item's line, the line moves as that of the second token, which is the item's
-- name.
pub record KeepsItem (old text : List ℕ) (s : Shift) (line : ℕ → Line → Line) (x : ProgramItem) : Type 0 where
  pub bytes : (n : ℕ) → token_bytes text (shifted_tokens s x.tokens) n ≡ token_bytes old x.tokens n
  pub lined : has_line (outline_of_item old x) ≡ true → 1 < length x.tokens → line_at text (start_at (shifted_tokens s x.tokens) 0) ≡ line (start_at x.tokens 1) (line_at old (start_at x.tokens 0))

-- It is so for each of the items.
abbrev pub KeepsItems : (old text : List ℕ) → Shift → (ℕ → Line → Line) → List ProgramItem → Type 0
KeepsItems old text s line xs = (i : ℕ) (x : ProgramItem) → slice_get xs i ≡ Some x → KeepsItem old text s line x

-- An item in the place of another, each of them plain and without clauses. Where it declares event
-- flags, these are where they were, shifted, and so is the item's own name, if it has a scope of its
-- own. What else it declares it may declare by other names, and a state may have another name.
pub record ReplacesItem (old text : List ℕ) (s : Shift) (x y : ProgramItem) : Type 0 where
  pub was_plain : is_plain (kind_of x.tree) ≡ true
  pub is_plain_now : is_plain (kind_of y.tree) ≡ true
  pub flags : AllByRecursion (IsFlagPlaced s x y (has_own_scope (outline_of_item old x).role)) (outline_of_item old x).declares
  pub no_clause : (outline_of_item old x).clauses ≡ []
  pub no_clause_now : (outline_of_item text y).clauses ≡ []

-- The items after an edit, `ys`, are those before it, shifted, but for item j, which is in the
-- place of another. The rows of the new text are told by what the old items said to each other as
-- by what the new ones say.
pub record ReplacesOne (old text : List ℕ) (s : Shift) (line : ℕ → Line → Line) (xs ys : List ProgramItem) (j : ℕ) : Type 0 where
  pub count : length ys ≡ length xs
  pub there : j < length xs
  pub others : (i : ℕ) → i ≢ j → slice_get ys i ≡ option_map (shifted_item s) (slice_get xs i)
  pub kept : (i : ℕ) (x : ProgramItem) → i ≢ j → slice_get xs i ≡ Some x → KeepsItem old text s line x
  pub replaced : (x y : ProgramItem) → slice_get xs j ≡ Some x → slice_get ys j ≡ Some y → ReplacesItem old text s x y
  pub tables : tables_of text ys ≡ tables_by text ys (outlines_of old xs)
