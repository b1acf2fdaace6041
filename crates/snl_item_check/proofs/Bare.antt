-- Items with nothing in them: nothing is found in such a one, and it tells the tables nothing.
use Rattle.std.proofs.Common.{◌≡◌, ◌⊎◌, ℕ, Bool, List, [], Option, inl, inr, refl, sym, subst}
use Rattle.snl_grammar.specs.declared.tree.item.Item.{Item}
use Rattle.snl_grammar.specs.declared.tree.item.Item.TheVariants as items
use Rattle.snl_walk.specs.Items.{occurrences}
use Rattle.snl_walk.specs.Rules.{findings}
use Rattle.snl_scope.specs.declared.facts.Fact.{Fact}
use Rattle.snl_item_check.specs.ItemFaults.{faults_in}
use Rattle.snl_item_check.specs.Told.{target_uses, wake_uses}

abbrev IsBare : Item → Type 0
IsBare tree = (tree ≡ items.Empty) ⊎ (tree ≡ items.SsEnd)

of_bare : (P : Item → Type 0) → P items.Empty → P items.SsEnd → (tree : Item) → IsBare tree → P tree
of_bare P empty end tree (inl is) = subst P (sym is) empty
of_bare P empty end tree (inr is) = subst P (sym is) end

pub no_faults : (bytes : ℕ → List ℕ) → (in_set : Bool) → (fact : List ℕ → Option Fact) → (target : List ℕ → Bool) → (tree : Item) → IsBare tree → [] ≡ faults_in bytes tree in_set fact target
unfolding findings occurrences
no_faults bytes in_set fact target = of_bare (λ tree. [] ≡ faults_in bytes tree in_set fact target) refl refl

pub no_wake_uses : (bytes : ℕ → List ℕ) → (tree : Item) → IsBare tree → [] ≡ wake_uses bytes tree
unfolding occurrences
no_wake_uses bytes = of_bare (λ tree. [] ≡ wake_uses bytes tree) refl refl

pub no_target_uses : (bytes : ℕ → List ℕ) → (tree : Item) → IsBare tree → [] ≡ target_uses bytes tree
unfolding occurrences
no_target_uses bytes = of_bare (λ tree. [] ≡ target_uses bytes tree) refl refl
