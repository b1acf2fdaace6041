-- What the check of each item of a text gives: a session keeps it, since it goes by the spelling of
-- the item's tokens and by what the item sees of the others alone.
use Rattle.std.specs.Prelude.{ℕ, List, map, Option, option_map}
use Rattle.std.specs.List.{enumerate_from}
use Rattle.snl_lex.specs.declared.piece.Class.{Class}
use Rattle.snl_grammar.specs.Outcome.{parsed_by, sound_tree}
use Rattle.snl_grammar.specs.declared.tree.item.Item.{Item}
use Rattle.snl_items.specs.Items.{spelled_items}
use Rattle.snl_scope.specs.LinkedItems.{LinkedItems}
use Rattle.snl_summary.specs.SpelledTokens.{bytes_by}
use Rattle.snl_summary.specs.declared.summary.Outline.{Outline}
use Rattle.snl_summary.specs.Summaries.Tokens.{token_bytes}
use Rattle.snl_item_check.specs.declared.findings.Checked.{Checked}
use Rattle.snl_item_check.specs.ItemFaults.{faults_in}
use Rattle.snl_item_check.specs.View.{is_in_set, known_of, leads_to}
use Rattle.snl_item_check.specs.Told.{target_uses, wake_uses}
use Rattle.snl_kept.specs.Linked.{linked_of, outlines_of}
use Rattle.snl_kept.specs.Program.{ProgramItem, items_of}

-- What the links of a text are of, and what its items say to each other.
abbrev pub links_in : List ℕ → LinkedItems
links_in text = linked_of text (items_of text)

abbrev pub outlines_in : List ℕ → List Outline
outlines_in text = outlines_of text (items_of text)

-- What the check of item i gives, of which `bytes` says what is at each token.
abbrev pub checked_by : List Outline → ℕ → (ℕ → List ℕ) → Item → Checked
checked_by ss i bytes tree = record {
  faults = faults_in bytes tree (is_in_set ss i) (known_of ss i) (leads_to ss i);
  wake_uses = wake_uses bytes tree;
  target_uses = target_uses bytes tree;
}

-- The check of item i with tokens that are spelled so. A faulty item has none.
abbrev pub check_by : List Outline → ℕ → List (Class × List ℕ) → Option Checked
check_by ss i tokens = option_map (checked_by ss i (bytes_by tokens)) (sound_tree (parsed_by tokens))

-- The checks of items that are spelled so, the first of which has a number.
abbrev pub checks_from : List Outline → ℕ → List (List (Class × List ℕ)) → List (Option Checked)
checks_from ss from items = map (λ x. check_by ss x.0 x.1) (enumerate_from from items)

-- The checks of the items of a text.
abbrev pub checks_of : List ℕ → List (Option Checked)
checks_of text = checks_from (outlines_in text) 0 (spelled_items text)

-- The same of items that are given by their tokens and trees.
abbrev pub check_of_item : List ℕ → List Outline → ℕ × ProgramItem → Option Checked
check_of_item text ss (i, x) = option_map (checked_by ss i (token_bytes text x.tokens)) x.tree

abbrev pub checks_over : List ℕ → List ProgramItem → List (Option Checked)
checks_over text xs = map (check_of_item text (outlines_of text xs)) (enumerate_from 0 xs)
