use Rattle.std.proofs.Common.{◌++◌, length, suc, take, ℕ, arith, sym, ap, ◌∙◌, refl}
use Rattle.snl_cut.specs.Cut.{ticked, last_end}
use Rattle.snl_cut.proofs.Steps.{walks_on, walks_push, notes_push, length_push}
use Rattle.snl_cut.proofs.Agreeing.{walks_rise, walks_last, still_unmet, not_at_end}
use Rattle.snl_cut.proofs.Fresh.{early, head_walk, all_together}
use Rattle.snl_cut.proofs.narrow.recut_narrow.Goals as goal
use Rattle.snl_cut.specs.CutLaws.{same_length}

pub count_below-kept_front-requires : goal.count_below-kept_front-requires
count_below-kept_front-requires g c =
    walks_rise g.F.Front.first_of g.met.F.Front.within c.args.old_units.now 0 (g.E.Ends.listed c.args.old_ends.now) (length c.args.old_units.now) c.requires.old_cut

pub loop-kept-init : goal.loop-kept-init
loop-kept-init g c =
    let low = early (g.E.Ends.listed c.args.old_ends.now) c.args.start c.count_below-kept_front.result c.end_of-at.result c.count_below-kept_front.ensures.count c.end_of-at.ensures in
    record {
      walked = rw c.new-made.ensures.items (sym c.end_of-at.ensures);
      noted = rw (c.new-made.ensures.items, c.new-notes.ensures.items) refl;
      inside = omega (arith, low, c.requires.edit.new_order, c.requires.edit.new_inside);
      unmet = λ place lt after in_new in_old. omega (arith, low, c.requires.edit.new_order);
      ticked = rw c.new-made.ensures.items refl;
    }

pub meeting-requires-clause-rising : goal.meeting-requires-clause-rising
meeting-requires-clause-rising g c =
    walks_rise g.F.Front.first_of g.met.F.Front.within c.args.old_units.now 0 (g.E.Ends.listed c.args.old_ends.now) (length c.args.old_units.now) c.requires.old_cut

pub meeting-requires-clause-fits : goal.meeting-requires-clause-fits
meeting-requires-clause-fits g c =
    let last = walks_last g.F.Front.first_of c.args.old_units.now 0 (g.E.Ends.listed c.args.old_ends.now) (length c.args.old_units.now) c.requires.old_cut in
    let same = same_length c.args.old_units.now c.args.units.now c.args.start c.args.old_stop c.args.new_stop c.requires.edit in
    omega (arith, last, same, c.loop-kept.invariant.inside, c.end_of-last.ensures, c.count-count.ensures)

pub returns-in-Some-clause-recut : goal.returns-in-Some-clause-recut
returns-in-Some-clause-recut g c =
    rw c.count-count.ensures (all_together g.F.Front.first_of g.met.F.Front.within g.met.F.Front.local c.args.old_units.now c.args.units.now (g.E.Ends.listed c.args.old_ends.now) c.args.start c.args.old_stop c.args.new_stop
    c.requires.edit c.requires.old_cut c.count_below-kept_front.result c.count_below-kept_front.ensures.count c.loop-kept.made.items c.loop-kept.at
    c.loop-kept.invariant.walked c.loop-kept.invariant.inside c.loop-kept.invariant.unmet c.in-Some.kept c.in-Some.ensures.0 c.in-Some.ensures.1 c.in-Some.ensures.2)

pub next_noted-end-requires : goal.next_noted-end-requires
next_noted-end-requires g c =
    not_at_end g.F.Front.first_of c.args.old_units.now c.args.units.now (g.E.Ends.listed c.args.old_ends.now) c.args.start c.args.old_stop c.args.new_stop c.loop-kept.at
    c.requires.edit c.requires.old_cut c.loop-kept.invariant.inside c.in_default.ensures

pub loop-kept-preserved : goal.loop-kept-preserved
loop-kept-preserved g c =
    let inside = not_at_end g.F.Front.first_of c.args.old_units.now c.args.units.now (g.E.Ends.listed c.args.old_ends.now) c.args.start c.args.old_stop c.args.new_stop c.loop-kept.at
    c.requires.edit c.requires.old_cut c.loop-kept.invariant.inside c.in_default.ensures in
    let kept : ℕ = c.count_below-kept_front.result in
    let head = head_walk g.F.Front.first_of g.met.F.Front.within g.met.F.Front.local c.args.old_units.now c.args.units.now (g.E.Ends.listed c.args.old_ends.now) c.args.start c.args.old_stop c.args.new_stop
    c.requires.edit c.requires.old_cut kept c.count_below-kept_front.ensures.count in
    let upto = walks_on g.F.Front.first_of c.args.units.now 0 (take kept (g.E.Ends.listed c.args.old_ends.now)) (last_end 0 (take kept (g.E.Ends.listed c.args.old_ends.now))) c.loop-kept.made.items c.loop-kept.at head c.loop-kept.invariant.walked in
    record {
      walked = rw c.in_ok-push.ensures.items (walks_push g.F.Front.first_of c.args.units.now (last_end 0 (take kept (g.E.Ends.listed c.args.old_ends.now))) c.loop-kept.made.items c.loop-kept.at c.next_noted-end.result.0 c.loop-kept.invariant.walked inside c.next_noted-end.ensures.end);
      noted = rw (c.in_ok-push.ensures.items, c.in_ok-push-2.ensures.items)
          (notes_push g.F.Front.first_of g.F.Noting.note_of c.args.units.now (last_end 0 (take kept (g.E.Ends.listed c.args.old_ends.now))) c.loop-kept.made.items c.loop-kept.at c.next_noted-end.result.0 c.loop-kept.notes.items c.next_noted-end.result.1
          c.loop-kept.invariant.walked c.loop-kept.invariant.noted c.next_noted-end.ensures.note);
      inside = c.next_noted-end.ensures.inside;
      unmet = still_unmet g.F.Front.first_of c.args.old_units.now c.args.units.now (g.E.Ends.listed c.args.old_ends.now) c.args.old_stop c.args.new_stop (take kept (g.E.Ends.listed c.args.old_ends.now) ++ c.loop-kept.made.items) c.loop-kept.at c.next_noted-end.result.0
          c.requires.old_cut upto c.loop-kept.invariant.unmet c.in_default.ensures c.next_noted-end.ensures.end;
      ticked = rw c.in_ok-push.ensures.items (rw (length_push c.loop-kept.made.items c.next_noted-end.result.0) (c.next_noted-end.ensures.ticks ∙ ap ticked c.loop-kept.invariant.ticked));
    }

pub returns-in_err-push-clause-counted : goal.returns-in_err-push-clause-counted
returns-in_err-push-clause-counted g c =
    record { calls = suc (length c.loop-kept.made.items); ticks = c.next_noted-end.ensures.ticks ∙ ap ticked c.loop-kept.invariant.ticked }

pub returns-in_err-push-2-clause-counted : goal.returns-in_err-push-2-clause-counted
returns-in_err-push-2-clause-counted g c =
    record { calls = suc (length c.loop-kept.made.items); ticks = c.next_noted-end.ensures.ticks ∙ ap ticked c.loop-kept.invariant.ticked }
