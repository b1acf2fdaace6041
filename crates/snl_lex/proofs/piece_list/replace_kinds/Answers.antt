use Rattle.std.proofs.Common.{◌-◌, List, count_by, take, drop, ap, ◌∙◌, arith}
use Rattle.snl_lex.specs.Lines.{is_marker}
use Rattle.snl_lex.specs.declared.piece.Class.{Class}
use Rattle.snl_lex.proofs.Counts.{count_parted, count_replaced}
use Rattle.snl_lex.proofs.piece_list.replace_kinds.Goals as goal

pub overflow_sub-result : goal.overflow_sub-result
overflow_sub-result c =
    let gone = c.count_markers-gone.ensures ∙ ap (λ (l : List Class). count_by is_marker (take (c.args.stop - c.args.start) (drop c.args.start l))) c.deref.ensures.value in
    omega (arith, c.requires.markers, gone, count_parted is_marker c.args.kinds.now.items c.args.start c.args.stop c.requires.range)

pub returns-clause-markers : goal.returns-clause-markers
returns-clause-markers c =
    let gone = c.count_markers-gone.ensures ∙ ap (λ (l : List Class). count_by is_marker (take (c.args.stop - c.args.start) (drop c.args.start l))) c.deref.ensures.value in
    let now = ap (count_by is_marker) c.replace.ensures ∙ count_replaced is_marker c.args.kinds.now.items c.args.start c.args.stop c.args.made.now in
    omega (arith, c.requires.markers, c.count_markers.ensures, gone, now, count_parted is_marker c.args.kinds.now.items c.args.start c.args.stop c.requires.range)
