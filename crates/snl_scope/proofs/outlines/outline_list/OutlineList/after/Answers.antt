use Rattle.std.proofs.Common.{◌++◌, List, append_assoc, ap, drop, map, take, ◌∙◌}
use Rattle.snl_summary.specs.declared.summary.Outline.{Outline}
use Rattle.snl_scope.proofs.outlines.outline_list.OutlineList.after.Goals as goal

pub finished-requires : goal.finished-requires
finished-requires c =
    let ss : List Outline = c.args.self.now.outlines in
    let made : List Outline = map (λ s. s.now.outline) c.args.summaries.now in
    let all = c.in_ok-add_back.ensures (take c.args.front ss ++ made) (c.in_ok-add_outlines.ensures.told (take c.args.front ss) c.in_ok-add_front.ensures.told) in
    all.flat

pub returns : goal.returns
returns c =
    let ss : List Outline = c.args.self.now.outlines in
    let made : List Outline = map (λ s. s.now.outline) c.args.summaries.now in
    let all = c.in_ok-add_back.ensures (take c.args.front ss ++ made) (c.in_ok-add_outlines.ensures.told (take c.args.front ss) c.in_ok-add_front.ensures.told) in
    ap (λ v. v.outlines) c.finished.ensures ∙ all.outlines ∙ append_assoc (take c.args.front ss) made (drop c.args.back ss)
