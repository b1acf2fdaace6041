use Rattle.std.proofs.Common.{◌≡◌, ℕ, ◌+◌, ◌-◌, List, [], drop, sym, ap, ◌∙◌, arith}
use Rattle.std.specs.Prelude.{slice_index}
use Rattle.std.proofs.lemmas.List.{take_rest, get_or_past}
use Rattle.snl_lex.specs.Runs.{run_by}
use Rattle.snl_lex.specs.Pieces.{string_joins}
use Rattle.snl_lex.proofs.Markers.{file_with, quote_is, file_is, no_quote, no_close, closed}
use Rattle.snl_lex.proofs.lines.marker_file.Goals as goal
use Rattle.snl_lex.proofs.lines.marker_file.Goals.{then-quote-marker-via-then-quote-marker, then-quote-marker-via-else-quote-marker+then-marker-quote-ne34}

pub returns-then-quote-marker-clause-file : goal.returns-then-quote-marker-clause-file
returns-then-quote-marker-clause-file c =
    let marker : List ℕ = c.args.marker.now in
    let quote : ℕ = c.run_end-quote.result in
    let there = quote_is marker c.number_place.result c.run_end-stop.result quote c.number_place.ensures.place c.run_end-stop.ensures.end c.run_end-quote.ensures.end in
    let other : slice_index marker quote ≡ 34 → ⊥ = λ e.
    elim c.then-quote-marker.branch [
      | then-quote-marker-via-then-quote-marker w ↦ absurd (omega (arith, get_or_past marker quote 0 (omega (arith, w.if-quote-marker.true)), e))
      | then-quote-marker-via-else-quote-marker+then-marker-quote-ne34 w ↦ w.if-marker-quote-ne34.true e
    ]
    in
    sym (file_is marker quote there ∙ no_quote marker quote (run_by (string_joins 34) [] (drop 1 (drop quote marker))) other)

pub returns-then-byte_at-eq34-clause-file : goal.returns-then-byte_at-eq34-clause-file
returns-then-byte_at-eq34-clause-file c =
    let marker : List ℕ = c.args.marker.now in
    let quote : ℕ = c.run_end-quote.result in
    let there = quote_is marker c.number_place.result c.run_end-stop.result quote c.number_place.ensures.place c.run_end-stop.ensures.end c.run_end-quote.ensures.end in
    let run : c.string_end-count.result ≡ 1 + run_by (string_joins 34) [] (drop 1 (drop quote marker)) =
    c.string_end-count.ensures.end ∙ ap (λ (l : List ℕ). 1 + run_by (string_joins 34) [] (drop 1 l)) (take_rest marker quote) in
    let count : run_by (string_joins 34) [] (drop 1 (drop quote marker)) ≡ c.string_end-count.result - 1 = omega (arith, run) in
    sym (file_is marker quote there ∙ (ap (file_with marker quote) count ∙ closed marker quote (c.string_end-count.result - 1) c.if-marker-quote-ne34.false (sym c.byte_at.ensures ∙ c.if-byte_at-eq34.true)))

pub returns-else-byte_at-eq34-clause-file : goal.returns-else-byte_at-eq34-clause-file
returns-else-byte_at-eq34-clause-file c =
    let marker : List ℕ = c.args.marker.now in
    let quote : ℕ = c.run_end-quote.result in
    let there = quote_is marker c.number_place.result c.run_end-stop.result quote c.number_place.ensures.place c.run_end-stop.ensures.end c.run_end-quote.ensures.end in
    let run : c.string_end-count.result ≡ 1 + run_by (string_joins 34) [] (drop 1 (drop quote marker)) =
    c.string_end-count.ensures.end ∙ ap (λ (l : List ℕ). 1 + run_by (string_joins 34) [] (drop 1 l)) (take_rest marker quote) in
    let count : run_by (string_joins 34) [] (drop 1 (drop quote marker)) ≡ c.string_end-count.result - 1 = omega (arith, run) in
    sym (file_is marker quote there ∙ (ap (file_with marker quote) count ∙ no_close marker quote (c.string_end-count.result - 1) (λ e. c.if-byte_at-eq34.false (c.byte_at.ensures ∙ e))))
