use Rattle.std.proofs.Common.{◌≤◌, ℕ, List, length, ap, arith, subst}
use Rattle.snl_lex.specs.LineList.{line_begin, line_ends}
use Rattle.snl_place.specs.Lines.{line_stop}
use Rattle.snl_place.proofs.LineEnds.{begin_before_stop, stop_inside}
use Rattle.snl_place.proofs.line_places.line_around.Goals as goal

pub slice_bounds-result-count : goal.slice_bounds-result-count
slice_bounds-result-count c =
    let text : List ℕ = c.args.text.now in
    let line : ℕ = c.count_before-line.result in
    let in_text : line ≤ length (line_ends text) =
    subst (λ (es : List ℕ). line ≤ length es) c.requires c.count_before-line.ensures.inside in
    let begin = ap (λ (es : List ℕ). line_begin es line) c.requires in
    let stop = ap (λ (es : List ℕ). line_stop text es line) c.requires in
    omega (
      arith,
      begin_before_stop text line in_text,
      c.line_begin-begin.ensures,
      c.line_stop-stop.ensures,
      begin,
      stop,
    )

pub slice_bounds-result-start : goal.slice_bounds-result-start
slice_bounds-result-start c = slice_bounds-result-count c

pub slice_bounds-result-end : goal.slice_bounds-result-end
slice_bounds-result-end c =
    let text : List ℕ = c.args.text.now in
    let line : ℕ = c.count_before-line.result in
    let stop = ap (λ (es : List ℕ). line_stop text es line) c.requires in
    omega (arith, stop_inside text line, c.line_stop-stop.ensures, stop)
