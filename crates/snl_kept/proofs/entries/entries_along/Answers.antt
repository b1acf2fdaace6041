use Rattle.std.proofs.Common.{ℕ, List, ◌+◌, ◌++◌, ◌∷◌, [], length, map, drop, get_or, ap, ap₂, sym, subst, ◌∙◌, append_assoc, add-one}
use Rattle.snl_cut.specs.Cut.{after_ticks, members, ticked}
use Rattle.snl_lex.specs.PieceList.{spelled}
use Rattle.snl_lex.specs.declared.piece.Piece.{Piece}
use Rattle.snl_kept.specs.Entries.{entry_by}
use Rattle.snl_kept.specs.Parts.{EndsWithin}
use Rattle.snl_kept.proofs.Members.{spelled_between}
use Rattle.snl_kept.proofs.entries.entries_along.Goals as goal
use Rattle.std.proofs.lemmas.List.{drop_more}

pub loop-end-preserved : goal.loop-end-preserved
loop-end-preserved c =
    let text = c.args.text.now in
    let tokens = c.args.tokens.now in
    let ends = c.args.ends.now in
    let i = c.loop-end.end-index in
    let start = c.loop-end.start in
    let stop = get_or ends i 0 in
    let done = c.loop-end.entries.items in
    let rest = map entry_by (members (spelled text tokens) stop (drop (i + 1) ends)) in
    let here = drop_more ends i 0 c.loop-end-test.true in
    let left : EndsWithin start (stop ∷ drop (i + 1) ends) (length tokens) = subst (λ l. EndsWithin start l (length tokens)) here c.loop-end.invariant.ends in
    let same = c.loop-end.invariant.common in
    let first = c.in_ok-entry.ensures.entry ∙ ap₂ (λ (t : List ℕ) (ts : List Piece). entry_by (spelled t ts)) same c.in_ok-list.ensures ∙ ap entry_by (sym (spelled_between text tokens start stop)) in
    record {
      common = c.in_ok-entry.ensures.common ∙ same;
      ends = left.2;
      entries =
          ap (λ l. l ++ rest) c.in_ok-push.ensures.items
          ∙ append_assoc done (c.in_ok-entry.entry ∷ []) rest
          ∙ ap (λ e. done ++ e ∷ rest) first
          ∙ sym (ap (λ l. done ++ map entry_by (members (spelled text tokens) start l)) here)
          ∙ c.loop-end.invariant.entries;
      ticks = c.in_ok-entry.ensures.ticks ∙ ap ticked c.loop-end.invariant.ticks ∙ sym (ap (after_ticks c.args.work.now) (add-one i));
    }
