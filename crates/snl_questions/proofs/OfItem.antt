-- What goes by what is kept of an item of a text goes by the item's tokens.
use Rattle.std.proofs.Common.{◌≡◌, ℕ, List, Option, option_copied, ap, ◌∙◌}
use Rattle.snl_grammar.specs.declared.tree.item.Item.{Item}
use Rattle.snl_walk.specs.Tokens.{bytes_in, token_bytes}
use Rattle.snl_summary.specs.declared.summary.Outline.{Outline}
use Rattle.snl_summary.specs.Summaries.{outline_in}
use Rattle.snl_kept.specs.Checks.{outlines_in}
use Rattle.snl_kept.specs.Program.{tree_in}
use Rattle.snl_questions.specs.declared.meanings.kept_item.KeptItem.{KeptItem}
use Rattle.snl_questions.specs.KeptItems.{IsItem}

pub by_item : {X : Type 0} (f : List Outline → ℕ → (ℕ → List ℕ) → Option Item → Outline → X)
    (text : List ℕ) (i : ℕ) (x : KeptItem) → IsItem text i x →
    f x.linked.links.now.outlines x.linked.item (bytes_in x.source) (option_copied x.tree)
    x.outline.now ≡
    f (outlines_in text) i (token_bytes text x.source.tokens.now)
    (tree_in text x.source.tokens.now)
    (outline_in text x.source.tokens.now (tree_in text x.source.tokens.now))
by_item f text i x is =
    ap (λ (ss : List Outline). f ss x.linked.item (bytes_in x.source) (option_copied x.tree)
    x.outline.now) is.outlines
    ∙ ap (λ (k : ℕ). f (outlines_in text) k (bytes_in x.source) (option_copied x.tree)
    x.outline.now) is.item
    ∙ ap (λ (t : List ℕ). f (outlines_in text) i (token_bytes t x.source.tokens.now)
    (option_copied x.tree) x.outline.now) is.in_text
    ∙ ap (λ (t : Option Item). f (outlines_in text) i (token_bytes text x.source.tokens.now) t
    x.outline.now) is.tree
    ∙ ap (f (outlines_in text) i (token_bytes text x.source.tokens.now)
    (tree_in text x.source.tokens.now)) is.outline
