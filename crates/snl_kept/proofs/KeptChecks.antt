-- An item that sees of the others what it saw has the check that it had.
use Rattle.std.proofs.Common.{◌≡◌, ◌↔◌, ℕ, Bool, true, List, [], ◌∷◌, map, Option, None, Some, option_map, IsTrue, refl, sym, ap, ◌∙◌}
use Rattle.std.specs.List.{AllByRecursion}
use Rattle.std.proofs.lemmas.List.Elements.{All-from_recursion, All-map}
use Rattle.snl_lex.specs.declared.piece.Class.{Class}
use Rattle.snl_lex.specs.declared.piece.Piece.{Piece}
use Rattle.snl_lex.specs.PieceList.{spelled}
use Rattle.snl_grammar.specs.Outcome.{parsed_by, sound_tree}
use Rattle.snl_grammar.specs.declared.tree.item.Item.{Item}
use Rattle.snl_scope.specs.declared.facts.Fact.{Fact}
use Rattle.snl_summary.specs.declared.summary.NameRef.{NameRef}
use Rattle.snl_summary.specs.declared.summary.Outline.{Outline}
use Rattle.snl_summary.specs.declared.summary.Summary.{Summary}
use Rattle.snl_scope.specs.Linked.{fact_of, has_target}
use Rattle.snl_summary.specs.SpelledTokens.{bytes_by, pieces_from, summary_by, text_of}
use Rattle.snl_summary.specs.Summaries.Tokens.{token_bytes}
use Rattle.snl_scope.specs.View.{view}
use Rattle.snl_views.specs.SameView.{same_view}
use Rattle.snl_item_check.specs.declared.findings.Checked.{Checked}
use Rattle.snl_item_check.specs.declared.findings.ItemFault.{ItemFault}
use Rattle.snl_item_check.specs.SeenNames.{Agree, SameTokens, target_names, used_names}
use Rattle.snl_item_check.specs.ItemFaults.{faults_in}
use Rattle.snl_item_check.specs.View.{is_in_set, known_of, leads_to}
use Rattle.snl_item_check.specs.Told.{target_uses, wake_uses}
use Rattle.snl_kept.specs.Checks.{check_by, checked_by}
use Rattle.snl_kept.specs.Entries.{entry_by}
use Rattle.snl_kept.proofs.Rechecks.{Spelled}

-- two accounts that say the same of each in a list
pub agreed : {X A : Type 0} (f g : X → A) (xs : List X) → map f xs ≡ map g xs → AllByRecursion (λ x. f x ≡ g x) xs
agreed f g [] h = tt
agreed f g (x ∷ xs) h = (cc, agreed f g xs cc)

module _
    (told : (ss : List Outline) (j : ℕ) (ts : List Outline) (i : ℕ) (s : Summary) → IsTrue (same_view ss j ts i s) ↔ (view ss j s ≡ view ts i s))
    (equal : (text moved : List ℕ) (tokens shifted : List Piece) (tree : Item) (in_set : Bool) (fact other : List ℕ → Option Fact) (target another : List ℕ → Bool)
    → SameTokens text tokens moved shifted → Agree fact other (used_names text tokens tree) → Agree target another (target_names text tokens tree)
    → faults_in (token_bytes text tokens) tree in_set fact target ≡ faults_in (token_bytes moved shifted) tree in_set other another)
    (by_spelling : (text : List ℕ) (tokens : List Piece) → token_bytes text tokens ≡ bytes_by (spelled text tokens))
    (alone : (tokens : List (Class × List ℕ)) → spelled (text_of tokens) (pieces_from 0 tokens) ≡ tokens) where
  own_bytes : (x : Spelled) → token_bytes (text_of x) (pieces_from 0 x) ≡ bytes_by x
  own_bytes x = by_spelling (text_of x) (pieces_from 0 x) ∙ ap bytes_by (alone x)

  module _ (ss ts : List Outline) (j i : ℕ) (x : Spelled) (tree : Item) (same : view ss j (summary_by x (Some tree)) ≡ view ts i (summary_by x (Some tree))) where
    abbrev summary : Summary
    summary = summary_by x (Some tree)

    in_set_same : is_in_set ss j ≡ is_in_set ts i
    unfolding is_in_set
    in_set_same = ap (λ v. v.in_set) same

    facts_same : Agree (known_of ss j) (known_of ts i) (used_names (text_of x) (pieces_from 0 x) tree)
    unfolding known_of
    facts_same = All-from_recursion (λ name. fact_of ss j name ≡ fact_of ts i name) summary.uses (agreed (fact_of ss j) (fact_of ts i) summary.uses (ap (λ v. v.facts) same))

    leads_same : Agree (leads_to ss j) (leads_to ts i) (target_names (text_of x) (pieces_from 0 x) tree)
    unfolding leads_to
    leads_same =
        All-map (λ name. has_target ss j name ≡ has_target ts i name) (λ (t : NameRef). t.name) summary.targets
        (All-from_recursion (λ (t : NameRef). has_target ss j t.name ≡ has_target ts i t.name) summary.targets
        (agreed (λ (t : NameRef). has_target ss j t.name) (λ (t : NameRef). has_target ts i t.name) summary.targets (ap (λ v. v.leads) same)))

    faults_same : faults_in (bytes_by x) tree (is_in_set ss j) (known_of ss j) (leads_to ss j) ≡ faults_in (bytes_by x) tree (is_in_set ts i) (known_of ts i) (leads_to ts i)
    faults_same =
        ap (λ (b : ℕ → List ℕ). faults_in b tree (is_in_set ss j) (known_of ss j) (leads_to ss j)) (sym (own_bytes x))
        ∙ ap (λ (s : Bool). faults_in (token_bytes (text_of x) (pieces_from 0 x)) tree s (known_of ss j) (leads_to ss j)) in_set_same
        ∙ equal (text_of x) (text_of x) (pieces_from 0 x) (pieces_from 0 x) tree (is_in_set ts i) (known_of ss j) (known_of ts i) (leads_to ss j) (leads_to ts i) (λ n. refl) facts_same leads_same
        ∙ ap (λ (b : ℕ → List ℕ). faults_in b tree (is_in_set ts i) (known_of ts i) (leads_to ts i)) (own_bytes x)

    checked_same : checked_by ss j (bytes_by x) tree ≡ checked_by ts i (bytes_by x) tree
    checked_same = ap (λ (f : List ItemFault). let c : Checked = record { faults = f; wake_uses = wake_uses (bytes_by x) tree; target_uses = target_uses (bytes_by x) tree } in c) faults_same

  by_tree : (ss ts : List Outline) (j i : ℕ) (x : Spelled) (o : Option Item) → view ss j (summary_by x o) ≡ view ts i (summary_by x o) → option_map (checked_by ss j (bytes_by x)) o ≡ option_map (checked_by ts i (bytes_by x)) o
  by_tree ss ts j i x None same = refl
  by_tree ss ts j i x (Some tree) same = ap Some (checked_same ss ts j i x tree same)

  pub check_stays : (ss ts : List Outline) (j i : ℕ) (x : Spelled) → same_view ss j ts i (entry_by x).summary ≡ true → check_by ss j x ≡ check_by ts i x
  check_stays ss ts j i x same = by_tree ss ts j i x (sound_tree (parsed_by x)) ((told ss j ts i (entry_by x).summary).0 same)
