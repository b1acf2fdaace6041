use Rattle.snl_item_check.specs.View.{is_in_set, known_of, leads_to}
use Rattle.snl_kept.proofs.OwnFound.{found_is, warnings_stay}
use Rattle.snl_kept.proofs.laws.finding_laws.findings_around_an_item.Goals as goal

pub returns-clause-found : goal.returns-clause-found
returns-clause-found c = λ old text s head front back x y gone come is spares was_plain is_plain same walks.
    found_is old text s head front back x y is
    c.same_spelling_same_tree.ensures.by_spelling
    c.same_spelling_same_summary.ensures.bytes
    (λ ss i bytes tree. c.faults_stand_in_tokens.ensures bytes tree (is_in_set ss i) (known_of ss i) (leads_to ss i))
    was_plain is_plain spares same gone come walks

pub returns-clause-warnings : goal.returns-clause-warnings
returns-clause-warnings c = λ old text s head front back x y is was_plain is_plain.
    warnings_stay old text s head front back x y is
    c.same_spelling_same_tree.ensures.by_spelling
    c.same_spelling_same_summary.ensures.bytes
    (λ ss i bytes tree. c.faults_stand_in_tokens.ensures bytes tree (is_in_set ss i) (known_of ss i) (leads_to ss i))
    was_plain is_plain
