use Rattle.std.proofs.Common.{arith, ◌≡◌, ℕ, Bool, List, Option, None, Some, true, false, if◌then◌else◌, option_and_then, refl, sym}
use Rattle.snl_grammar.specs.declared.tree.item.Item.{Item}
use Rattle.snl_grammar.specs.declared.tree.item.Item.TheVariants as items
use Rattle.snl_item_check.specs.Items.{tokens_in, tree_in}
use Rattle.snl_item_check.specs.View.{is_in_set}
use Rattle.snl_summary.specs.Summaries.{is_option, kind_of}
use Rattle.snl_walk.specs.Tokens.{token_bytes}
use Rattle.snl_check.specs.Collected.{items_in}
use Rattle.snl_check.specs.Settings.{LetterSetting, setting_in_tree}
use Rattle.snl_check.proofs.rows.option_rows.setting_at.Goals as goal

-- no other item sets anything
no_option : (bytes : ℕ → List ℕ) (tree : Option Item) → is_option (kind_of tree) ≡ false → option_and_then (setting_in_tree bytes) tree ≡ None
no_option bytes None h = refl
no_option bytes (Some (items.OptionLine line)) h = absurd cc
no_option bytes (Some tree) h = refl

sets_nothing : (b : Bool) (o : Option LetterSetting) → o ≡ None → None ≡ (if b then None else o)
sets_nothing true o h = refl
sets_nothing false o h = sym h

pub returns-then-not-is_option : goal.returns-then-not-is_option
returns-then-not-is_option c =
    let p = c.args.row_source.now.program in
    let xs = items_in p in
    let bytes = token_bytes p.text.now (tokens_in xs c.args.item) in
    let other : is_option (kind_of (tree_in xs c.args.item)) ≡ false = grind (arith, c.is_option.ensures, c.kind.ensures, c.if-not-is_option.true) in
    sets_nothing (is_in_set c.args.row_source.now.links.now.outlines c.args.item) _ (no_option bytes (tree_in xs c.args.item) other)
