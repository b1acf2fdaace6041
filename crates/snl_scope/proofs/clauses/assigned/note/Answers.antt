use Rattle.std.proofs.Common.{◌&&◌, List, Option, ap, cond, is_none, nat_eq, sym, ◌∙◌, Some}
use Rattle.snl_scope.specs.declared.facts.Assigned.{Assigned}
use Rattle.snl_scope.specs.ByNumber.{at_number}
use Rattle.snl_scope.specs.Clauses.{is_assign}
use Rattle.snl_scope.specs.Resolved.{linked}
use Rattle.snl_scope.proofs.Assigning.{assigned_now, no_variable, not_first}
use Rattle.snl_scope.proofs.Numbered.{put_told}
use Rattle.snl_scope.proofs.clauses.assigned.note.Goals as goal

pub returns-in_ok-put_at : goal.returns-in_ok-put_at
returns-in_ok-put_at c = λ cs f.
    let held = c.args.assigned.now.items in
    let after = c.put_at.new.list.items in
    let v = c.in-Some.variable in
    assigned_now held after cs (linked c.args.clause) v f c.in-Some.is
    (sym (c.is_first.ensures ∙ ap (λ (l : List (Option Assigned)). is_assign c.args.clause.clause.kind && is_none (at_number l v)) c.deref.ensures.value) ∙ c.if-is_first.true)
    (λ q. put_told held after v c.assigned_as.result c.in_ok-put_at.ensures q ∙ ap (λ a. cond (nat_eq v q) (Some a) (at_number held q)) c.assigned_as.ensures)

pub returns-else-is_first : goal.returns-else-is_first
returns-else-is_first c = λ cs f.
    let v = c.in-Some.variable in
    not_first c.args.assigned.now.items cs (linked c.args.clause) v f c.in-Some.is
    (sym (c.is_first.ensures ∙ ap (λ (l : List (Option Assigned)). is_assign c.args.clause.clause.kind && is_none (at_number l v)) c.deref.ensures.value) ∙ c.if-is_first.false)

pub returns-in_default : goal.returns-in_default
returns-in_default c = λ cs f. no_variable c.args.assigned.now.items cs (linked c.args.clause) f c.in_default.is
