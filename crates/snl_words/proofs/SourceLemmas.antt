-- The command, as clap's definitions see it.
use Rattle.std.proofs.Common.{◌≡◌, ◌∙◌, ap, refl, true, List, codes}
use Rattle.clap.specs.declared.parser.matches.ArgMatches.{ArgMatches}
use Rattle.clap.specs.Words.{App, HasMatchesOf, Row, Text, first_of, first_value, found_of, is_simple, matches_of, new_app, takes, with_rule}
use Rattle.clap.proofs.OnLiterals.{clap_on_literals}
use Rattle.clap.proofs.WalkLemmas.{first_value-rows}
use Rattle.snl_words.specs.Source.{source_app, source_rule, source_in, takes_words}

pub source_app-made : with_rule (new_app (codes "snl_cli")) source_rule ≡ source_app
unfolding source_app
source_app-made = refl

pub source_app-is_simple : is_simple source_app ≡ true
unfolding source_app clap_on_literals
source_app-is_simple = refl

source_in-is : (words : List Text) → first_of (codes "source") (matches_of source_app words) ≡ source_in words
unfolding source_in
source_in-is words = refl

-- the matches of the command have the value of the definition
pub value-is : (app : App) (words : List Text) (matches : ArgMatches) → app ≡ source_app → HasMatchesOf app words matches → first_value (found_of matches) (codes "source") ≡ source_in words
value-is app words matches is has =
    let rows = (has (ap is_simple is ∙ source_app-is_simple)).0 ∙ ap (λ (a : App). matches_of a words) is in
    first_value-rows (found_of matches) (codes "source") ∙ ap (λ (r : List Row). first_of (codes "source") r) rows ∙ source_in-is words

pub takes_words-is : (app : App) (words : List Text) → app ≡ source_app → takes app words ≡ takes_words words
unfolding takes_words
takes_words-is app words is = ap (λ (a : App). takes a words) is
