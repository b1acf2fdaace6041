-- What the options of a program say of warnings.
use Rattle.std.specs.Prelude.{◌≡◌, ℕ, ◌<◌, List, None, Some, slice_get}
use Rattle.std.specs.List.{Contains}
use Rattle.snl_grammar.specs.declared.tree.clause.OptionLine.{OptionLine}
use Rattle.snl_grammar.specs.declared.tree.clause.OptionSign.{OptionSign}
use Rattle.snl_grammar.specs.declared.tree.clause.OptionSign.TheVariants.{Minus}
use Rattle.snl_grammar.specs.declared.tree.item.Item.TheVariants as items
use Rattle.snl_scope.specs.Places.{enclosing_set}
use Rattle.snl_summary.specs.Summaries.Tokens.{token_bytes}
use Rattle.snl_item_check.specs.Items.{ProgramItem, outlines_of}

-- The item with this number is an option at program level with the letter `w`: with a plus it turns
-- warnings on, with a minus off.
pub record SetsWarnings (text : List ℕ) (xs : List ProgramItem) (i : ℕ) (sign : OptionSign) : Type 0 where
  pub item : ProgramItem
  pub line : OptionLine
  pub there : slice_get xs i ≡ Some item
  pub is : item.tree ≡ Some (items.OptionLine line)
  pub outside : enclosing_set (outlines_of text xs) i ≡ None
  pub letter : Contains (token_bytes text item.tokens line.letters) 119
  pub says : line.sign ≡ sign

-- The last of these options has a minus.
pub record AreWarningsOff (text : List ℕ) (xs : List ProgramItem) : Type 0 where
  pub place : ℕ
  pub off : SetsWarnings text xs place Minus
  pub last : (i : ℕ) (sign : OptionSign) → place < i → SetsWarnings text xs i sign → ⊥
