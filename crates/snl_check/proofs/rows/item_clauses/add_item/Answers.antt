use Rattle.std.proofs.Common.{◌≡◌, ◌++◌, ℕ, List, [], false, map, Option, None, Some, refl, ap, sym, ◌∙◌}
use Rattle.std.proofs.lemmas.List.{append-nil}
use Rattle.std.specs.Option.{option_copied}
use Rattle.snl_grammar.specs.declared.tree.item.Item.{Item}
use Rattle.snl_grammar.specs.declared.tree.item.Item.TheVariants as items
use Rattle.snl_summary.specs.Summaries.{kind_of}
use Rattle.snl_check.specs.Clauses.{ItemClause, has_clauses, item_clauses_if}
use Rattle.snl_check.specs.Collected.{placed}
use Rattle.snl_check.proofs.rows.item_clauses.add_item.Goals as goal

-- no other item has clauses
no_clauses : (item : ℕ) (tree : Option Item) → has_clauses (kind_of tree) ≡ false → item_clauses_if item tree ≡ []
no_clauses item None h = refl
no_clauses item (Some (items.Clause clause)) h = absurd cc
no_clauses item (Some (items.StateBlock name members)) h = absurd cc
no_clauses item (Some tree) h = refl

pub returns-else-has_clauses : goal.returns-else-has_clauses
returns-else-has_clauses c =
    let before : List ItemClause = map placed c.args.clauses.now.items in
    let none = no_clauses c.args.item (option_copied c.args.tree) (ap has_clauses (sym c.requires) ∙ sym c.has_clauses.ensures ∙ c.if-has_clauses.false) in
    sym (ap (λ (l : List ItemClause). before ++ l) none ∙ append-nil before)
