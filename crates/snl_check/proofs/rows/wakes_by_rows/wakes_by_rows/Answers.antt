use Rattle.std.proofs.Common.{ℕ, List, length, ap₂, subst, ◌∙◌}
use Rattle.std.specs.List.{filter_map}
use Rattle.snl_lex.specs.declared.piece.Piece.{Piece}
use Rattle.snl_scope.specs.Names.{entries}
use Rattle.snl_check.specs.Numbered.{HoldsBelow, wake_by}
use Rattle.snl_check.proofs.WakesByTable.{numbered_by_rows, wakes_same}
use Rattle.snl_check.proofs.rows.wakes_by_rows.wakes_by_rows.Goals as goal

pub returns : goal.returns
returns c =
    let rows = c.args.tables.now.channels in
    let ss = c.args.links.now.outlines in
    let held = c.in_ok-numbers.numbers in
    λ xs cs own elements lists.
    c.in_ok-wake.ensures
    ∙ ap₂ (λ (t : List ℕ) (ts : List Piece). filter_map (wake_by t ts ss held c.args.item) c.args.uses.now) c.of-source.ensures.text (c.of-source.ensures.tokens ∙ c.listed-tokens.ensures ∙ own)
    ∙ wakes_same c.args.text.now xs ss cs held c.args.item c.args.uses.now
    (λ some. numbered_by_rows rows cs elements held (length (entries ss)) (subst (λ (ls : List (List ℕ)). HoldsBelow held rows ls (length ls)) lists (c.in_ok-numbers.ensures some)))
