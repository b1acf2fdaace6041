use Rattle.std.proofs.Common.{◌≡◌, ◌++◌, List, [], ◌∷◌, map, Option, Some, None, OnOk, slice_get, ap, refl, subst, ◌∙◌}
use Rattle.std.specs.List.{flat_map}
use Rattle.std.specs.Option.{option_map_or}
use Rattle.snl_lex.specs.declared.shift.Shift.{Shift}
use Rattle.snl_tables.specs.declared.rows.SetRow.{SetRow}
use Rattle.snl_tables.specs.declared.rows.StateMark.{StateMark}
use Rattle.snl_tables.specs.declared.rows.StateRow.{StateRow}
use Rattle.snl_tables.specs.Shifted.{marked, shifted_state}
use Rattle.snl_kept.specs.declared.found.findings.Finding.{Finding}
use Rattle.snl_kept.specs.declared.ways.one_item.set_findings.NewName.{NewName}
use Rattle.snl_kept.specs.OwnRows.{named}
use Rattle.snl_kept.specs.Tables.{found_at_state}
use Rattle.snl_kept.proofs.ways.one_item.set_findings.add_by_marks.Goals as goal

none_marked : (own : Option NewName) (marks : List StateMark) → flat_map found_at_state (marked marks (named own [])) ≡ []
none_marked None [] = refl
none_marked None (m ∷ marks) = refl
none_marked (Some own) [] = refl
none_marked (Some own) (m ∷ marks) = refl

-- what is found in the states of a set, if there is one
of_set : (s : Shift) (own : Option NewName) (marks : List StateMark) (row : Option SetRow) →
    flat_map found_at_state (marked marks (named own (map (shifted_state s) (option_map_or (λ (r : SetRow). r.states) row []))))
    ≡ option_map_or (λ (r : SetRow). flat_map found_at_state (marked marks (named own (map (shifted_state s) r.states)))) row []
of_set s own marks None = none_marked own marks
of_set s own marks (Some row) = refl

pub returns : goal.returns
returns c =
    let same = ap (λ (l : List StateRow). flat_map found_at_state (marked c.args.marks.now (named c.args.own (map (shifted_state c.args.shift) l)))) c.states_of.ensures ∙ of_set c.args.shift c.args.own c.args.marks.now (slice_get c.args.tables.now.sets c.args.set) in
    subst (λ (l : List Finding). OnOk c.add_marked.result (c.add_marked.new.found.items ≡ c.args.found.now.items ++ l)) same c.add_marked.ensures
