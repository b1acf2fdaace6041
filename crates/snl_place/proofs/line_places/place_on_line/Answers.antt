use Rattle.std.proofs.Common.{◌≡◌, ◌≤◌, ℕ, List, ap, sym, subst, ◌∙◌}
use Rattle.snl_lex.specs.LineList.{line_begin, line_ends}
use Rattle.snl_place.proofs.ByLines.{placed}
use Rattle.snl_place.proofs.line_places.place_on_line.Goals as goal
use Rattle.snl_lex.specs.LineLaws.{below}

pub slice_bounds-units_in-count : goal.slice_bounds-units_in-count
slice_bounds-units_in-count c =
    let text : List ℕ = c.args.text.now in
    let offset : ℕ = c.args.offset in
    let line : ℕ = c.args.line in
    let count : line ≡ below offset (line_ends text) =
    c.requires.on_line ∙ ap (below offset) c.requires.lines in
    let begin : c.line_begin-begin.result
    ≡ line_begin (line_ends text) (below offset (line_ends text)) =
    c.line_begin-begin.ensures ∙ ap (λ (es : List ℕ). line_begin es line) c.requires.lines
    ∙ ap (line_begin (line_ends text)) count in
    subst (λ (n : ℕ). n ≤ offset) (sym begin) (c.lines_begin.ensures.offset text offset)

pub slice_bounds-units_in-start : goal.slice_bounds-units_in-start
slice_bounds-units_in-start c = slice_bounds-units_in-count c

pub returns : goal.returns
returns c =
    let text : List ℕ = c.args.text.now in
    let offset : ℕ = c.args.offset in
    let line : ℕ = c.args.line in
    let count : line ≡ below offset (line_ends text) =
    c.requires.on_line ∙ ap (below offset) c.requires.lines in
    let begin : c.line_begin-begin.result ≡ line_begin (line_ends text) line =
    c.line_begin-begin.ensures ∙ ap (λ (es : List ℕ). line_begin es line) c.requires.lines in
    placed c.args.encoding text offset line c.line_begin-begin.result c.units_in-character.result
    count begin c.units_in-character.ensures
