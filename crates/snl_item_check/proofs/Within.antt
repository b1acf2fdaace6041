-- Each finding of an item is in its token.
use Rattle.std.proofs.Common.{ℕ, ◌+◌, ◌<◌, ◌≤◌, inl, inr, refl, Bool, true, false, cond, List, [], ◌∷◌, length, map, Option, arith}
use Rattle.std.specs.List.{All, AllByRecursion, enumerate_from, flat_map}
use Rattle.std.proofs.lemmas.List.Elements.{All-from_recursion}
use Rattle.snl_facts.specs.Each.{each_append}
use Rattle.snl_grammar.specs.declared.tree.clause.OptionLine.{OptionLine}
use Rattle.snl_grammar.specs.declared.tree.item.Item.{Item}
use Rattle.snl_grammar.specs.declared.tree.item.Item.TheVariants as items
use Rattle.snl_grammar.specs.declared.tree.state.StateMember.{StateMember}
use Rattle.snl_grammar.specs.declared.tree.state.StateMember.TheVariants as members
use Rattle.snl_walk.specs.declared.rules.Finding.{Finding}
use Rattle.snl_walk.specs.Items.{occurrences}
use Rattle.snl_walk.specs.Rules.{findings}
use Rattle.snl_scope.specs.declared.facts.Fact.{Fact}
use Rattle.snl_item_check.specs.declared.findings.ItemFault.{ItemFault}
use Rattle.snl_item_check.specs.ItemFaults.{StandsIn, fault_of, faults_in, faults_of_rules}
use Rattle.snl_item_check.specs.Options.{found_at_letter, is_known, letter_fault, program_letters, state_letters, unknown_in_member, unknown_letters, unknown_options}
use Rattle.snl_item_check.specs.View.{misses_by, outer_by}

abbrev Within : (ℕ → List ℕ) → List ItemFault → Type 0
Within bytes faults = AllByRecursion (StandsIn bytes) faults

-- those of rules, each at its token's first byte
at_tokens : (bytes : ℕ → List ℕ) (fs : List Finding) → Within bytes (map fault_of fs)
at_tokens bytes [] = tt
at_tokens bytes (f ∷ fs) = (inl refl, at_tokens bytes fs)

at_letter : (bytes : ℕ → List ℕ) (known : List ℕ) (token n letter : ℕ) → n < length (bytes token) → Within bytes (found_at_letter known token (n, letter))
at_letter bytes known token n letter h =
    elim (is_known known letter) as (λ b. Within bytes (cond b [] (letter_fault token n ∷ []))) [ true ↦ tt | false ↦ (inr h, tt) ]

at_letters : (bytes : ℕ → List ℕ) (known : List ℕ) (token n : ℕ) (letters : List ℕ) → n + length letters ≤ length (bytes token) →
    Within bytes (flat_map (found_at_letter known token) (enumerate_from n letters))
at_letters bytes known token n [] h = tt
at_letters bytes known token n (x ∷ xs) h =
    each_append (StandsIn bytes) (found_at_letter known token (n, x)) (flat_map (found_at_letter known token) (enumerate_from (n + 1) xs))
    (at_letter bytes known token n x (omega arith)) (at_letters bytes known token (n + 1) xs (omega arith))

in_option : (bytes : ℕ → List ℕ) (known : List ℕ) (line : OptionLine) → Within bytes (unknown_letters bytes known line)
in_option bytes known line = at_letters bytes known line.letters 0 (bytes line.letters) (omega arith)

in_member : (bytes : ℕ → List ℕ) (m : StateMember) → Within bytes (unknown_in_member bytes m)
in_member bytes (members.OptionLine line) = in_option bytes state_letters line
in_member bytes (members.Declaration d) = tt
in_member bytes (members.Foreign names) = tt
in_member bytes (members.Clause clause) = tt
in_member bytes members.Empty = tt
in_member bytes (members.CBlock n) = tt
in_member bytes (members.Entry block) = tt
in_member bytes (members.Exit block) = tt
in_member bytes (members.When t) = tt

in_members : (bytes : ℕ → List ℕ) (ms : List StateMember) → Within bytes (flat_map (unknown_in_member bytes) ms)
in_members bytes [] = tt
in_members bytes (m ∷ ms) = each_append (StandsIn bytes) (unknown_in_member bytes m) (flat_map (unknown_in_member bytes) ms) (in_member bytes m) (in_members bytes ms)

in_options : (bytes : ℕ → List ℕ) (in_set : Bool) (tree : Item) → Within bytes (unknown_options bytes in_set tree)
in_options bytes true (items.OptionLine line) = tt
in_options bytes false (items.OptionLine line) = in_option bytes program_letters line
in_options bytes in_set (items.StateBlock name ms) = in_members bytes ms
in_options bytes in_set (items.Header name parameters) = tt
in_options bytes in_set (items.Definition d) = tt
in_options bytes in_set (items.Foreign names) = tt
in_options bytes in_set (items.Clause clause) = tt
in_options bytes in_set (items.Entry block) = tt
in_options bytes in_set (items.Exit block) = tt
in_options bytes in_set (items.SsBegin name) = tt
in_options bytes in_set items.SsEnd = tt
in_options bytes in_set (items.Function f) = tt
in_options bytes in_set (items.StructDef name ms) = tt
in_options bytes in_set (items.CBlock n) = tt
in_options bytes in_set items.Empty = tt

pub faults_within : (bytes : ℕ → List ℕ) (tree : Item) (in_set : Bool) (fact : List ℕ → Option Fact) (target : List ℕ → Bool) → All (StandsIn bytes) (faults_in bytes tree in_set fact target)
faults_within bytes tree in_set fact target =
    All-from_recursion (StandsIn bytes) (faults_in bytes tree in_set fact target)
    (each_append (StandsIn bytes) (faults_of_rules bytes tree in_set fact target) (unknown_options bytes in_set tree)
    (at_tokens bytes (findings bytes (outer_by fact) (misses_by in_set target) (occurrences bytes tree))) (in_options bytes in_set tree))
