-- The items of a state set, as the marks of its states go by them.
use Rattle.std.specs.Prelude.{◌≡◌, ℕ, List, map}
use Rattle.std.specs.List.{AllByRecursion}
use Rattle.snl_summary.specs.declared.summary.Outline.{Outline}
use Rattle.snl_scope.specs.Below.{all_below}
use Rattle.snl_scope.specs.Places.{stands_in}
use Rattle.snl_check.specs.declared.reachability.marks.SetMember.{SetMember}
use Rattle.snl_check.specs.Members.{IsSetMember}
use Rattle.snl_kept.specs.Program.{items_of}

-- These are the items below a number of the set that item k begins.
pub record AreMembersBelow (text : List ℕ) (ss : List Outline) (k n : ℕ) (members : List SetMember) : Type 0 where
  pub items : map (λ m. m.item) members ≡ all_below (stands_in ss k) n
  pub each : AllByRecursion (IsSetMember text (items_of text) ss) members
