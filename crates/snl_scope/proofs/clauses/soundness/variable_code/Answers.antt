use Rattle.std.proofs.Common.{◌≡◌, ap, sym, ◌∙◌, is_some, Some}
use Rattle.std.specs.List.{list_any}
use Rattle.std.specs.Option.{option_map_or}
use Rattle.snl_codes.specs.declared.code.Code.TheVariants.{E11}
use Rattle.snl_scope.specs.Claims.{overlaps_claims, sound_among}
use Rattle.snl_scope.specs.Clauses.{assigns, clash, code_on, variable_at}
use Rattle.snl_scope.specs.Names.{entries}
use Rattle.snl_scope.specs.Resolved.{linked}
use Rattle.snl_scope.proofs.Assigning.{assigns-first}
use Rattle.snl_scope.proofs.Judging.{code_by}
use Rattle.snl_scope.proofs.Overlaps.{overlap_clash}
use Rattle.snl_scope.proofs.clauses.soundness.variable_code.Goals as goal

pub returns-in-Some-variable_at : goal.returns-in-Some-variable_at
returns-in-Some-variable_at c = λ cs judged f g.
    let d = linked c.args.clause in
    let number = c.in-Some.number in
    let v = c.in-Some-variable_at.variable in
    let is_assigned : c.is_some-is_assigned.result ≡ list_any (assigns d.variable) cs =
    c.is_some-is_assigned.ensures ∙ ap is_some c.at_number.ensures ∙ ap is_some (f.each number) ∙ assigns-first cs number ∙ ap (λ o. list_any (assigns o) cs) (sym c.in-Some.is) in
    let is_repeated : c.overlap-is_repeated.result ≡ list_any (clash d) (sound_among judged) =
    c.overlap-is_repeated.ensures ∙ ap (λ p. overlaps_claims c.args.claims.now p number d.clause.coverage) c.purpose_of-purpose.ensures
    ∙ overlap_clash c.args.claims.now judged d number g c.in-Some.is in
    c.code_on.ensures ∙ ap (λ b. code_by d v b c.overlap-is_repeated.result) is_assigned ∙ ap (code_by d v (list_any (assigns d.variable) cs)) is_repeated
    ∙ ap (λ o. option_map_or (code_on cs (sound_among judged) d) o (Some E11)) (c.in-Some-variable_at.ensures ∙ ap (variable_at (entries c.args.scopes.now)) (sym c.in-Some.is))
