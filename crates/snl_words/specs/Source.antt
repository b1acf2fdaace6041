-- The command line: what clap's definitions make of its words.
use Rattle.std.specs.Prelude.{Bool, List, Option, Some, codes}
use Rattle.clap.specs.Words.{App, Rule, Text, first_of, matches_of, new_app, new_rule, takes, with_rule}

-- `--source FILE`
abbrev pub source_rule : Rule
source_rule = record (new_rule (codes "source")) { long = Some (codes "source") }

-- The command, which has this one option.
unfoldable pub source_app : App
source_app = with_rule (new_app (codes "snl_cli")) source_rule

-- The value of `source` in the matches of these words.
unfoldable pub source_in : List Text → Option Text
source_in words = first_of (codes "source") (matches_of source_app words)

-- The command takes these words.
unfoldable pub takes_words : List Text → Bool
takes_words words = takes source_app words
