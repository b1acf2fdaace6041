-- The parts of a report make the report.
use Rattle.std.proofs.Common.{◌≡◌, ℕ, List, [], ◌++◌, drop, length, take, ap, ◌∙◌, append_assoc}
use Rattle.std.specs.Prelude.{flat_map, min}
use Rattle.std.proofs.lemmas.List.{drop_min, take_min}
use Rattle.snl_kept.specs.declared.found.findings.Diagnostic.{Diagnostic}
use Rattle.snl_kept.specs.Diagnostics.{diagnostics_of, errors_of, warnings_of}
use Rattle.snl_report.specs.declared.form.Style.{Style}
use Rattle.snl_report.specs.Reports.{blocks, most_noted, name_line, plain_block, noted_block, report_of, sum_line}
use Rattle.snl_script.specs.Parts.{sum_text}

-- the name of the text, and how much was found in it
pub sum_made : (page said room name : List ℕ) (errors warnings : ℕ) → said ≡ room → room ≡ name_line name → (page ++ said) ++ sum_text errors warnings ≡ page ++ sum_line name errors warnings
sum_made page said room name errors warnings s r = rw (s, r) (append_assoc page (name_line name) (sum_text errors warnings))

-- the blocks, and then the sum
pub report_made : (style : Style) (page name text session : List ℕ) (errors warnings : ℕ) → text ≡ session →
    errors ≡ errors_of session → warnings ≡ warnings_of session →
    (page ++ blocks style name text (diagnostics_of session)) ++ sum_line name errors warnings
    ≡ page ++ report_of style name session
unfolding report_of
report_made style page name text session errors warnings t e w = rw (t, e, w)
    (append_assoc page (blocks style name session (diagnostics_of session))
    (sum_line name (errors_of session) (warnings_of session)))

-- the blocks of the first diagnostics, and those of the others
pub blocks_made : (style : Style) (page name text : List ℕ) (count : ℕ) (first others all found : List Diagnostic) →
    count ≡ min most_noted (length all) → first ≡ take count all → others ≡ drop count all →
    all ≡ found →
    (page ++ flat_map (noted_block style name text) first) ++ flat_map (plain_block style name text) others
    ≡ page ++ blocks style name text found
blocks_made style page name text count first others all found c f o is =
    let front : first ≡ take most_noted all =
    f ∙ ap (λ (n : ℕ). take n all) c ∙ take_min most_noted all in
    let back : others ≡ drop most_noted all =
    o ∙ ap (λ (n : ℕ). drop n all) c ∙ drop_min most_noted all in
    rw (front, back)
    (append_assoc page (flat_map (noted_block style name text) (take most_noted all))
    (flat_map (plain_block style name text) (drop most_noted all)))
    ∙ ap (λ (ds : List Diagnostic). page ++ blocks style name text ds) is

-- on an empty page
pub page_made : (page bytes : List ℕ) → page ≡ [] → page ++ bytes ≡ bytes
page_made page bytes p = ap (λ (l : List ℕ). l ++ bytes) p
