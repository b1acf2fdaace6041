-- States that are not reached.
use Rattle.std.specs.Prelude.{◌≡◌, ℕ, true, false, List}
use Rattle.snl_summary.specs.declared.summary.Outline.{Outline}
use Rattle.snl_item_check.specs.Items.{ProgramItem}
use Rattle.snl_scope.specs.Linked.{is_first_state}
use Rattle.snl_check.specs.Members.{has_faulty, is_faulty_item, states_in, targets_among}
use Rattle.snl_check.specs.Reach.{IsReached}

-- State j, which has this number in the set that item k begins, isn't reached: it is sound and the
-- first of its name, no item of the set is faulty, and no walk along targets leads to it from the
-- first state of the set.
pub record IsUnreached (text : List ℕ) (xs : List ProgramItem) (ss : List Outline) (k number j : ℕ) : Type 0 where
  pub sound : is_faulty_item xs j ≡ false
  pub first : is_first_state ss j ≡ true
  pub known : has_faulty xs ss k ≡ false
  pub no_walk : IsReached (targets_among text xs ss (states_in ss k)) number → ⊥
