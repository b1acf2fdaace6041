use Rattle.std.proofs.Common.{◌≡◌, [], Some, sym, ap, ◌∙◌, arith}
use Rattle.json.specs.Json as json
use Rattle.json.specs.Lex.{tokens}
use Rattle.json.specs.Value.{value_view}
use Rattle.serde_json.specs.Read.{max_depth}
use Rattle.snl_hear.specs.Values.{seen}
use Rattle.snl_hear.proofs.Bodies.{read_alone, read_out_of_range, read_with_more}
use Rattle.snl_hear.proofs.body.value_in.Goals.{else-is_alone-via-then-is_alone+else-are_in_range, else-is_alone-via-else-is_alone}
use Rattle.snl_hear.proofs.body.value_in.Goals as goal

pub returns-then-are_in_range : goal.returns-then-are_in_range
unfolding seen
returns-then-are_in_range c =
    let text = c.args.text.now in
    let j = value_view c.in-Ok.value in
    let rest : c.read.new.reader ≡ [] = grind arith in
    let front : json.value max_depth (tokens text) ≡ Some (j, []) =
    ap (json.value max_depth) (sym c.in_ok-reader.ensures.ok) ∙ c.in-Ok.ensures.ok
    ∙ ap (λ ts. Some (j, ts)) rest in
    read_alone text j front (sym c.if-are_in_range.ensures)

pub returns : goal.returns
returns c =
    let text = c.args.text.now in
    let j = value_view c.in-Ok.value in
    let front : json.value max_depth (tokens text) ≡ Some (j, c.read.new.reader) =
    ap (json.value max_depth) (sym c.in_ok-reader.ensures.ok) ∙ c.in-Ok.ensures.ok in
    elim c.else-is_alone.branch [
      | else-is_alone-via-then-is_alone+else-are_in_range w ↦
          read_out_of_range text j _ front (sym w.if-are_in_range.ensures)
      | else-is_alone-via-else-is_alone w ↦
          let more : c.read.new.reader ≡ [] → ⊥ = λ e. grind arith in
          read_with_more text j _ front more
    ]
