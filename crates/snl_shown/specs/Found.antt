-- What is found in a text, as it is published.
use Rattle.std.specs.Prelude.{ℕ, ◌+◌, ◌==◌, List, ◌++◌, map, take, Bool, if◌then◌else◌}
use Rattle.std.specs.Option.{option_map_or}
use Rattle.snl_questions.specs.Tokens.{token_at}
use Rattle.snl_kept.specs.declared.found.findings.Diagnostic.{Diagnostic}
use Rattle.snl_kept.specs.Diagnostics.{diagnostics_of, is_error, message_of, name_of}
use Rattle.snl_place.specs.declared.places.Encoding.{Encoding}
use Rattle.snl_place.specs.declared.places.Place.{Place}
use Rattle.snl_place.specs.Places.{place_in}
use Rattle.snl_say.specs.declared.severity.Severity.{Severity}
use Rattle.snl_say.specs.declared.severity.Severity.TheVariants.{Error, Warning}
use Rattle.snl_say.specs.Publish.{Found}
use Rattle.snl_script.specs.Parts.{quoted, slice_of}

-- At most so many are published, the first ones.
abbrev pub most_published : ℕ
most_published = 1000

-- How many bytes a diagnostic is about: those that it quotes, or else the token at its offset.
abbrev pub extent : List ℕ → Diagnostic → ℕ
extent text d =
    if d.subject == 0 then option_map_or (λ p. p.len) (token_at text d.offset) 0 else d.subject

abbrev pub severity_of : Bool → Severity
severity_of is_error = if is_error then Error else Warning

-- A diagnostic between two places, with the message that `check` prints.
abbrev pub found_between : (start stop : Place) → List ℕ → Diagnostic → Found
found_between start stop text d = record {
  start = start;
  stop = stop;
  severity = severity_of (is_error d.code);
  code = name_of d.code;
  message = message_of d.code ++ quoted (slice_of text d.offset d.subject);
}

abbrev pub found_at : Encoding → List ℕ → Diagnostic → Found
found_at encoding text d =
    found_between (place_in encoding (take d.offset text))
    (place_in encoding (take (d.offset + extent text d) text)) text d

abbrev pub found_in : Encoding → List ℕ → List Found
found_in encoding text =
    map (found_at encoding text) (take most_published (diagnostics_of text))
