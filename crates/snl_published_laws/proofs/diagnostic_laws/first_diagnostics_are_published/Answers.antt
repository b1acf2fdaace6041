use Rattle.snl_shown.specs.Shown.{says_of_text}
use Rattle.snl_published_laws.proofs.diagnostic_laws.first_diagnostics_are_published.Goals as goal

pub returns-clause-change : goal.returns-clause-change
returns-clause-change c = λ s turn uri version changes doc text ready heard there is few.
    c.changes_are_published.ensures.published says_of_text s turn uri version changes doc text
    ready heard there is few

pub returns-clause-opening : goal.returns-clause-opening
returns-clause-opening c = λ s turn uri version text ready heard few.
    c.openings_are_published.ensures.published says_of_text s turn uri version text ready heard few

pub returns-clause-closing : goal.returns-clause-closing
returns-clause-closing c = λ s turn uri ready heard.
    c.closings_are_published.ensures.published says_of_text s turn uri ready heard
