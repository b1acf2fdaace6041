use Rattle.std.proofs.Common.{◌≡◌, All, IfSome, List, ℕ, None, Option, Some, arith, subst, sym}
use Rattle.snl_lex.specs.declared.line_shift.LineShift.{LineShift}
use Rattle.snl_lex.specs.declared.shift.Shift.{Shift}
use Rattle.snl_lex.specs.Edit.{Edit}
use Rattle.snl_lex.specs.Pieces.{tokens_of}
use Rattle.snl_lex.specs.Shift.{IsOutside}
use Rattle.snl_items.specs.Changes.{AreShifted}
use Rattle.snl_items.specs.declared.shifted.Shifted.{Shifted}
use Rattle.snl_kept.specs.declared.found.findings.Diagnostic.{Diagnostic}
use Rattle.snl_kept.specs.Diagnostics.{diagnostics_of}
use Rattle.snl_kept.specs.Editing.{edit_in}
use Rattle.snl_kept.specs.Shifted.{AreOnOneSide, ShiftsAll, ShiftsLines}
use Rattle.snl_kept.proofs.Sides.{left_after, left_in_front}
use Rattle.snl_kept.proofs.ways.shift.shift_of.Goals as goal

-- what is known of a shift, if there is one, is known of this one
told : (e : Edit) (o : Option Shifted) (u : Shifted) → o ≡ Some u → IfSome o (λ v. AreShifted e v.by v.before) → AreShifted e u.by u.before
told e o u is known = subst (λ (o : Option Shifted). IfSome o (λ v. AreShifted e v.by v.before)) is known

pub returns-then-leaves_all : goal.returns-then-leaves_all
returns-then-leaves_all c = by c.lines_of.result c.lines_of.ensures.by c.lines_of.ensures.lines
  where
    by : (o : Option LineShift) → IfSome o (λ t. t.by ≡ c.in_ok-shifted.shifted.by) → IfSome o (ShiftsLines c.args.editing.now.edit.now.old.now c.args.editing.now.edit.now.text.now)
        → IfSome o (ShiftsAll (edit_in c.args.editing.now))
    by None same lines = tt
    by (Some t) same lines =
        let edit = c.args.editing.now.edit.now in
        let old : List ℕ = edit.old.now in
        let text : List ℕ = edit.text.now in
        let u : Shifted = c.in_ok-shifted.shifted in
        let tokens = told (edit_in c.args.editing.now) c.args.editing.now.changes.now.tokens.shifted u c.in_ok-shifted.was c.requires.editing.changes.shifted in
        let found : All (λ (d : Diagnostic). IsOutside old u.by d.offset) (diagnostics_of old) =
        subst (All (λ (d : Diagnostic). IsOutside old u.by d.offset)) c.requires.editing.found (c.leaves_all.ensures c.if-leaves_all.true) in
        record {
          lines = lines;
          before = u.before;
          tokens = subst (λ (s : Shift). AreShifted (edit_in c.args.editing.now) s u.before) (sym same) tokens;
          items = subst (λ (s : Shift). AreOnOneSide s.start old) (sym same) (c.parts_none.ensures c.if-parts_none.true);
          found = subst (λ (s : Shift). All (λ (d : Diagnostic). IsOutside old s d.offset) (diagnostics_of old)) (sym same) found;
        }

pub parts_none-requires-clause-front : goal.parts_none-requires-clause-front
parts_none-requires-clause-front c =
    let edit = c.args.editing.now.edit.now in
    let u : Shifted = c.in_ok-shifted.shifted in
    let tokens = told (edit_in c.args.editing.now) c.args.editing.now.changes.now.tokens.shifted u c.in_ok-shifted.was c.requires.editing.changes.shifted in
    left_in_front edit.old.now u.by (tokens_of edit.text.now) u.before (c.text_in_pieces.ensures.inside edit.old.now) tokens.left

pub parts_none-requires-clause-back : goal.parts_none-requires-clause-back
parts_none-requires-clause-back c =
    let edit = c.args.editing.now.edit.now in
    let u : Shifted = c.in_ok-shifted.shifted in
    let tokens = told (edit_in c.args.editing.now) c.args.editing.now.changes.now.tokens.shifted u c.in_ok-shifted.was c.requires.editing.changes.shifted in
    left_after edit.old.now u.by (tokens_of edit.text.now) u.before (omega (arith, tokens.by.start_is, tokens.by.old_stop_is, edit.edit.old_order)) tokens.left
