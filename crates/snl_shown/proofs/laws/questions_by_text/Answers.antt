use Rattle.snl_hear.specs.Requests.{Definition, Highlights, Hover, References, Symbols}
use Rattle.snl_shown.specs.Shown.{says_of_text}
use Rattle.snl_shown.proofs.laws.questions_by_text.Goals as goal

pub returns-clause-question : goal.returns-clause-question
returns-clause-question c =
    λ s turn id uri text query.
    c.answered_by_text.ensures.question says_of_text s turn id uri text query

pub returns-clause-symbols : goal.returns-clause-symbols
returns-clause-symbols c =
    λ s turn id uri text.
    c.answered_by_text.ensures.question says_of_text s turn id uri text Symbols

pub returns-clause-definition : goal.returns-clause-definition
returns-clause-definition c =
    λ s turn id uri text place.
    c.answered_by_text.ensures.question says_of_text s turn id uri text (Definition place)

pub returns-clause-hover : goal.returns-clause-hover
returns-clause-hover c =
    λ s turn id uri text place.
    c.answered_by_text.ensures.question says_of_text s turn id uri text (Hover place)

pub returns-clause-references : goal.returns-clause-references
returns-clause-references c =
    λ s turn id uri text place includes_declaration.
    c.answered_by_text.ensures.question says_of_text s turn id uri text
    (References place includes_declaration)

pub returns-clause-highlights : goal.returns-clause-highlights
returns-clause-highlights c =
    λ s turn id uri text place.
    c.answered_by_text.ensures.question says_of_text s turn id uri text (Highlights place)
