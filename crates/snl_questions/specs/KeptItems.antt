-- An item of a text with what is kept of it.
use Rattle.std.specs.Prelude.{◌≡◌, ℕ, List, Option, slice_get, Some, option_copied}
use Rattle.snl_walk.specs.Tokens.{IsSource, bytes_in}
use Rattle.snl_summary.specs.Summaries.{occurrences_in, outline_in}
use Rattle.snl_kept.specs.Checks.{outlines_in}
use Rattle.snl_kept.specs.Program.{item_tokens, tree_in}
use Rattle.snl_questions.specs.declared.meanings.items.TokenPlace.{TokenPlace}
use Rattle.snl_questions.specs.declared.meanings.kept_item.KeptItem.{KeptItem}
use Rattle.snl_questions.specs.Meanings.{meant_in, meant_inside}
use Rattle.snl_questions.specs.Mentions.{mentioned_in}

-- All that is kept is of item i of the text, and what names mean is what they mean among its items.
pub record IsItem (text : List ℕ) (i : ℕ) (x : KeptItem) : Type 0 where
  pub in_text : x.source.text.now ≡ text
  pub tokens : slice_get (item_tokens text) i ≡ Some x.source.tokens.now
  pub inside : IsSource x.source.text.now x.source.tokens.now
  pub item : x.linked.item ≡ i
  pub outlines : x.linked.links.now.outlines ≡ outlines_in text
  pub tree : option_copied x.tree ≡ tree_in text x.source.tokens.now
  pub outline : x.outline.now ≡
      outline_in text x.source.tokens.now (tree_in text x.source.tokens.now)

-- What token n of it means by what occurs in it, what it means, and what it mentions.
abbrev pub meant_inside_item : KeptItem → ℕ → Option TokenPlace
meant_inside_item x n = meant_inside x.linked.links.now.outlines x.linked.item (bytes_in x.source n)
    (occurrences_in (bytes_in x.source) (option_copied x.tree)) n

abbrev pub meant_in_item : KeptItem → ℕ → Option TokenPlace
meant_in_item x n = meant_in x.linked.links.now.outlines x.linked.item (bytes_in x.source)
    (option_copied x.tree) x.outline.now n

abbrev pub mentioned_in_item : KeptItem → ℕ → Option TokenPlace
mentioned_in_item x n = mentioned_in x.linked.links.now.outlines x.linked.item (bytes_in x.source)
    (option_copied x.tree) x.outline.now n
