use Rattle.std.proofs.Common.{◌≡◌, ℕ, List, ◌++◌, All, drop, length}
use Rattle.snl_item_check.specs.Items.{EndsWithin, program_items}
use Rattle.snl_lex.specs.Pieces.{LiesIn}
use Rattle.snl_reading.specs.ItemsRead.{ReadFrom, items_read}
use Rattle.snl_reading.proofs.Along.{items_from}
use Rattle.snl_reading.proofs.items.items_of.Given as goal

-- what was made and what is left is all
abbrev pub invariant-loop-number : goal.invariant-loop-number
invariant-loop-number l = record {
  ends : EndsWithin l.start (drop l.number l.ends) (length l.tokens);
  along : items_read l.items.items ++ items_from l.tokens l.start (drop l.number l.ends) (drop l.number l.trees) ≡ program_items l.tokens l.ends l.trees;
  inside : (text : List ℕ) → All (LiesIn text) l.tokens → All (ReadFrom text) l.items.items;
}
