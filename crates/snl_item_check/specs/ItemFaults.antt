-- What is found in an item, from its tokens, its tree and what it sees of the others.
use Rattle.std.specs.Prelude.{◌≡◌, ℕ, ◌<◌, ◌⊎◌, Bool, List, ◌++◌, map, length, Option}
use Rattle.snl_grammar.specs.declared.tree.item.Item.{Item}
use Rattle.snl_walk.specs.declared.rules.Finding.{Finding}
use Rattle.snl_walk.specs.Items.{occurrences}
use Rattle.snl_walk.specs.Rules.{findings}
use Rattle.snl_scope.specs.declared.facts.Fact.{Fact}
use Rattle.snl_item_check.specs.declared.findings.ItemFault.{ItemFault}
use Rattle.snl_item_check.specs.Options.{unknown_options}
use Rattle.snl_item_check.specs.View.{misses_by, outer_by}

-- A finding of a rule is at the first byte of its token.
abbrev pub fault_of : Finding → ItemFault
fault_of f = record { token = f.token; byte = 0; code = f.code }

-- A finding is where its token begins, or at a byte of it.
abbrev pub StandsIn : (ℕ → List ℕ) → ItemFault → Type 0
StandsIn bytes fault = (fault.byte ≡ 0) ⊎ (fault.byte < length (bytes fault.token))

-- What the rules find at the occurrences of an item.
abbrev pub faults_of_rules : (ℕ → List ℕ) → Item → Bool → (List ℕ → Option Fact) → (List ℕ → Bool) → List ItemFault
faults_of_rules bytes tree in_set fact target = map fault_of (findings bytes (outer_by fact) (misses_by in_set target) (occurrences bytes tree))

-- The findings of an item. `bytes` says what is at each token, `in_set` that the item is in a state
-- set, `fact` what is known of each name by the scopes outside it, and `target` which states its
-- state set has.
abbrev pub faults_in : (ℕ → List ℕ) → Item → Bool → (List ℕ → Option Fact) → (List ℕ → Bool) → List ItemFault
faults_in bytes tree in_set fact target = faults_of_rules bytes tree in_set fact target ++ unknown_options bytes in_set tree
