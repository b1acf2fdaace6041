use Rattle.std.proofs.Common.{◌≡◌, ◌<◌, ◌≤◌, ℕ, List, length, ap, sym, subst, ◌∙◌}
use Rattle.std.proofs.lemmas.List.{take_rest}
use Rattle.std.specs.Str.{IsCharBoundary}
use Rattle.snl_lex.specs.LineList.{line_begin, line_ends}
use Rattle.snl_place.specs.Places.{offset_in}
use Rattle.snl_place.proofs.ByLines.{found_at, past_lines}
use Rattle.snl_place.proofs.Walks.{place_whole}
use Rattle.snl_place.proofs.line_places.offset_by.Goals as goal

pub returns-then-place-ends-clause-offset : goal.returns-then-place-ends-clause-offset
returns-then-place-ends-clause-offset c =
    let line : ℕ = c.args.place.line in
    let past : length (line_ends c.args.text.now) < line =
    subst (λ (es : List ℕ). length es < line) c.requires c.if-place-ends.true in
    sym (past_lines c.args.encoding 0 c.args.text.now line c.args.place.character past)

pub returns : goal.returns
returns c =
    let text : List ℕ = c.args.text.now in
    let e = c.args.encoding in
    let line : ℕ = c.args.place.line in
    let character : ℕ = c.args.place.character in
    let start : ℕ = c.line_begin-begin.result in
    let le : line ≤ length (line_ends text) =
    subst (λ (es : List ℕ). line ≤ length es) c.requires c.if-place-ends.false in
    let begin : start ≡ line_begin (line_ends text) line =
    c.line_begin-begin.ensures ∙ ap (λ (es : List ℕ). line_begin es line) c.requires in
    let inner = c.offset_in_line.ensures.offset
    ∙ ap (λ (l : List ℕ). offset_in e 0 character l) (take_rest text start) in
    let found = found_at e text line character start c.offset_in_line.result le begin inner in
    record {
      offset = found;
      boundary = subst (IsCharBoundary text) (sym found) (place_whole e line character text);
    }
