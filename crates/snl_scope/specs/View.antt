-- What an item sees of the others: its check goes by nothing else of them.
use Rattle.std.specs.Prelude.{ℕ, Bool, List, map, Option, is_some}
use Rattle.snl_scope.specs.declared.facts.Fact.{Fact}
use Rattle.snl_summary.specs.declared.summary.Outline.{Outline}
use Rattle.snl_summary.specs.declared.summary.Summary.{Summary}
use Rattle.snl_scope.specs.Linked.{fact_of, has_target}
use Rattle.snl_scope.specs.Places.{enclosing_set}

-- Whether it is in a state set, what is known of each name that it uses, and of each of its targets
-- whether that is a state of its set.
pub record View : Type 0 where
  pub in_set : Bool
  pub facts : List (Option Fact)
  pub leads : List Bool

-- By the outlines of all items, its number among them, and its summary.
abbrev pub view : List Outline → ℕ → Summary → View
view ss i s = record {
  in_set = is_some (enclosing_set ss i);
  facts = map (λ name. fact_of ss i name) s.uses;
  leads = map (λ t. has_target ss i t.name) s.targets;
}
