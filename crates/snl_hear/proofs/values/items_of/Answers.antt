use Rattle.std.proofs.Common.{◌≡◌, None, Some, option_map, ap, sym, ◌∙◌, rules}
use Rattle.json.specs.Find as tree
use Rattle.json.specs.Value.{value_view}
use Rattle.json.specs.declared.value.Value.{the_lemmas}
use Rattle.serde_json.specs.Find.{as_array}
use Rattle.snl_hear.specs.Values.{items_of, seen, seen_all}
use Rattle.snl_hear.proofs.Seen.{array_seen, items_seen}
use Rattle.snl_hear.proofs.values.items_of.Goals as goal

pub returns-in-Array : goal.returns-in-Array
returns-in-Array c =
    ap (λ vs. Some (seen_all vs)) c.as_slice.ensures.value
    ∙ items_seen c.in-Array.items
    ∙ ap (λ v. as_array (seen v)) (sym c.in-Array.is)

pub returns-in_default : goal.returns-in_default
returns-in_default c =
    let none : tree.as_array (value_view c.args.value.now) ≡ None = search (rules, the_lemmas) in
    ap (option_map items_of) (sym none) ∙ array_seen c.args.value.now
