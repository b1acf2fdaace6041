use Rattle.std.proofs.Common.{◌≡◌, ap, length, option_map, refl, subst, ◌∙◌}
use Rattle.snl_scope.specs.declared.outlines.flat.FlatOutline.{FlatOutline}
use Rattle.snl_scope.specs.OutlineList.{AddsClauses, AddsDeclared, Extends, name_at}
use Rattle.snl_scope.proofs.AddedOutlines.{declared_extended, extends_more, one_told}
use Rattle.snl_scope.proofs.JoinedOutlines.{lists_told, tells_same, told_joined, told_stays}
use Rattle.snl_scope.proofs.OutlineLists.{second_same, second_stays}
use Rattle.snl_scope.proofs.outlines.making.add_outline.Goals as goal

pub returns-clause-told : goal.returns-clause-told
returns-clause-told c = λ ss t.
    let old = c.args.making.now in
    let s = c.args.outline.now in
    let one = c.flat_second.new.names in
    let two = c.add_declared.new.names in
    let three = c.add_clauses.new.names in
    let x : Extends one three = extends_more one two three c.in_ok-add_declared.ensures.names c.in_ok-add_clauses.ensures.names in
    let all : Extends old.names three = extends_more old.names one three c.in_ok-second.ensures.names x in
    let h : FlatOutline = record { second = c.in_ok-second.second; declares = length c.as_slice-declares.result.now; clauses = length c.as_slice-clauses.result.now; role = s.role; opening = s.opening } in
    let ds' = c.add_declared.new.flat.items in
    let cs' = c.add_clauses.new.flat.items in
    let declares : AddsDeclared three old.declares.items ds' s.declares =
    subst (AddsDeclared three old.declares.items ds') c.as_slice-declares.ensures
    (declared_extended two three c.in_ok-add_clauses.ensures.names old.declares.items ds' c.as_slice-declares.result.now c.in_ok-add_declared.ensures.flat) in
    let clauses : AddsClauses three old.clauses.items cs' s.clauses = subst (AddsClauses three old.clauses.items cs') c.as_slice-clauses.ensures c.in_ok-add_clauses.ensures.flat in
    let second : option_map (name_at three) h.second ≡ s.second = second_same one three x h.second c.in_ok-second.ensures.numbered ∙ c.in_ok-second.ensures.told in
    let numbered = second_stays one three x h.second c.in_ok-second.ensures.numbered in
    let many : h.declares ≡ length s.declares = ap length c.as_slice-declares.ensures in
    let many-2 : h.clauses ≡ length s.clauses = ap length c.as_slice-clauses.ensures in
    tells_same refl c.in_ok-push.ensures.items declares.list clauses.list
    (told_joined (told_stays (lists_told t) all) (one_told h s declares clauses second numbered many many-2 refl refl))
