-- Which items have a tree, by their kinds.
use Rattle.std.proofs.Common.{◌≡◌, true, false, Option, None, Some, is_some, refl, sym, true≢false, ◌∙◌}
use Rattle.snl_grammar.specs.declared.tree.item.Item.{Item}
use Rattle.snl_grammar.specs.declared.tree.item.Item.TheVariants as items
use Rattle.snl_scope.specs.Order.{is_faulty}
use Rattle.snl_summary.specs.Summaries.{kind_of, kind_of_tree}

never_faulty : (t : Item) → is_faulty (kind_of_tree t) ≡ false
never_faulty (items.Header name parameters) = refl
never_faulty (items.Definition d) = refl
never_faulty (items.Foreign names) = refl
never_faulty (items.Clause clause) = refl
never_faulty (items.OptionLine line) = refl
never_faulty (items.Entry block) = refl
never_faulty (items.Exit block) = refl
never_faulty (items.SsBegin name) = refl
never_faulty items.SsEnd = refl
never_faulty (items.StateBlock name ms) = refl
never_faulty (items.Function f) = refl
never_faulty (items.StructDef name ms) = refl
never_faulty (items.CBlock n) = refl
never_faulty items.Empty = refl

pub tree_where_sound : (t : Option Item) → is_faulty (kind_of t) ≡ false → is_some t ≡ true
tree_where_sound None h = sym h
tree_where_sound (Some t) h = refl

pub no_tree_where_faulty : (t : Option Item) → is_faulty (kind_of t) ≡ true → None ≡ t
no_tree_where_faulty None h = refl
no_tree_where_faulty (Some t) h = absurd (true≢false (sym h ∙ never_faulty t))
