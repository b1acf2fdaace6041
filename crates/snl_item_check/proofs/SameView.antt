-- Equal views give equal findings.
use Rattle.std.proofs.Common.{◌≡◌, ℕ, Bool, not, ◌&&◌, ◌++◌, All, List, map, Option, option_map, ap, ◌∙◌}
use Rattle.std.proofs.Math.Path.{fun_ext}
use Rattle.std.proofs.lemmas.List.Elements.{All-from_recursion, All-weaker, recursion_from_All}
use Rattle.snl_item_check.proofs.EachName.{each_once}
use Rattle.snl_facts.specs.Each.{each_unmap}
use Rattle.snl_lex.specs.declared.piece.Piece.{Piece}
use Rattle.snl_grammar.specs.declared.tree.item.Item.{Item}
use Rattle.snl_walk.specs.declared.occurrence.Occurrence.{Occurrence}
use Rattle.snl_walk.specs.declared.other_items.Outer.{Outer}
use Rattle.snl_walk.specs.Items.{occurrences}
use Rattle.snl_walk.specs.Rules.{findings}
use Rattle.snl_walk.specs.Tokens.{token_bytes}
use Rattle.snl_walk.specs.Uses.{targets, uses}
use Rattle.snl_scope.specs.declared.facts.Fact.{Fact}
use Rattle.snl_summary.specs.declared.summary.NameRef.{NameRef}
use Rattle.snl_summary.specs.Summaries.Tokens.{name_ref_at}
use Rattle.snl_item_check.specs.SeenNames.{Agree, SameTokens, target_names, used_names}
use Rattle.snl_item_check.specs.ItemFaults.{fault_of, faults_in}
use Rattle.snl_item_check.specs.Options.{unknown_options}
use Rattle.snl_item_check.specs.View.{misses_by, outer_by, outer_of}

-- the same is found wrong where the same is answered of uses and targets
abbrev pub AnswersTell : Type 0
AnswersTell = (bytes : ℕ → List ℕ) (outer other : List ℕ → Option Outer) (misses missed : List ℕ → Bool) (found : List Occurrence)
    → All (λ n. outer (bytes n) ≡ other (bytes n)) (uses found) → All (λ n. misses (bytes n) ≡ missed (bytes n)) (targets found)
    → findings bytes outer misses found ≡ findings bytes other missed found

-- tokens that are spelled alike
pub same_bytes : (text moved : List ℕ) (tokens shifted : List Piece) → SameTokens text tokens moved shifted → token_bytes text tokens ≡ token_bytes moved shifted
same_bytes text moved tokens shifted same = fun_ext same

module _ (tell : AnswersTell) (text : List ℕ) (tokens : List Piece) (tree : Item) (in_set : Bool) (fact other : List ℕ → Option Fact) (target another : List ℕ → Bool) where
  abbrev bytes : ℕ → List ℕ
  bytes = token_bytes text tokens

  abbrev found : List Occurrence
  found = occurrences bytes tree

  uses_agree : Agree fact other (used_names text tokens tree) → All (λ n. outer_by fact (bytes n) ≡ outer_by other (bytes n)) (uses found)
  uses_agree agree =
      All-weaker (λ n. fact (bytes n) ≡ other (bytes n)) (λ n. outer_by fact (bytes n) ≡ outer_by other (bytes n)) (λ n h. ap (option_map outer_of) h) (uses found)
      (All-from_recursion (λ n. fact (bytes n) ≡ other (bytes n)) (uses found)
      (each_unmap (λ name. fact name ≡ other name) bytes (uses found)
      (each_once (λ name. fact name ≡ other name) (map bytes (uses found)) (recursion_from_All (λ name. fact name ≡ other name) (used_names text tokens tree) agree))))

  targets_agree : Agree target another (target_names text tokens tree) → All (λ n. misses_by in_set target (bytes n) ≡ misses_by in_set another (bytes n)) (targets found)
  targets_agree agree =
      All-weaker (λ n. target (bytes n) ≡ another (bytes n)) (λ n. misses_by in_set target (bytes n) ≡ misses_by in_set another (bytes n)) (λ n h. ap (λ b. in_set && not b) h) (targets found)
      (All-from_recursion (λ n. target (bytes n) ≡ another (bytes n)) (targets found)
      (each_unmap (λ (m : NameRef). target m.name ≡ another m.name) (name_ref_at text tokens) (targets found)
      (each_unmap (λ name. target name ≡ another name) (λ (m : NameRef). m.name) (map (name_ref_at text tokens) (targets found))
      (recursion_from_All (λ name. target name ≡ another name) (target_names text tokens tree) agree))))

  pub faults_agree : Agree fact other (used_names text tokens tree) → Agree target another (target_names text tokens tree) →
      faults_in bytes tree in_set fact target ≡ faults_in bytes tree in_set other another
  faults_agree agree lead =
      ap (λ fs. map fault_of fs ++ unknown_options bytes in_set tree)
      (tell bytes (outer_by fact) (outer_by other) (misses_by in_set target) (misses_by in_set another) found (uses_agree agree) (targets_agree lead))

pub faults_alike : AnswersTell → (text moved : List ℕ) (tokens shifted : List Piece) (tree : Item) (in_set : Bool) (fact other : List ℕ → Option Fact) (target another : List ℕ → Bool) →
    SameTokens text tokens moved shifted → Agree fact other (used_names text tokens tree) → Agree target another (target_names text tokens tree) →
    faults_in (token_bytes text tokens) tree in_set fact target ≡ faults_in (token_bytes moved shifted) tree in_set other another
faults_alike tell text moved tokens shifted tree in_set fact other target another same agree lead =
    faults_agree tell text tokens tree in_set fact other target another agree lead
    ∙ ap (λ b. faults_in b tree in_set other another) (same_bytes text moved tokens shifted same)
