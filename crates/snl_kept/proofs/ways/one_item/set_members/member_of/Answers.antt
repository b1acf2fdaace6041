use Rattle.std.proofs.Common.{◌≡◌, Bool, true, false, Option, Some, None, is_none, is_some, not, refl, ap, ◌∙◌, Bor}
use Rattle.std.specs.Option.{option_copied}
use Rattle.snl_grammar.specs.declared.tree.item.Item.{Item}
use Rattle.snl_kept.proofs.SetMembers.{member_told}
use Rattle.snl_kept.proofs.ways.one_item.set_members.member_of.Goals as goal

none_told : {X : Type 0} (o : Option (Bor X)) (none : Bool) → is_some o ≡ not none → none ≡ is_none (option_copied o)
none_told None true told = refl
none_told None false told = absurd cc
none_told (Some x) true told = absurd cc
none_told (Some x) false told = refl

pub returns-clause-member : goal.returns-clause-member
returns-clause-member c =
    member_told c.outcome_told.ensures.tree c.same_spelling_same_tree.ensures.by_spelling c.same_spelling_same_summary.ensures.summary_by_spelling c.same_spelling_same_summary.ensures.bytes_by_spelling
    c.args.text.now c.args.item c.args.entry.now _ c.requires refl (none_told c.tree.result c.is_none.result c.is_none.ensures ∙ ap (λ (o : Option Item). is_none o) c.tree.ensures) c.name_of.ensures c.as_slice.ensures
