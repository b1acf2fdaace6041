use Rattle.std.proofs.Common.{arith, rules, take, ◌≡◌, ◌++◌, ◌+◌, ◌∷◌, [], ap, ◌∙◌, append_assoc, drop, List, ℕ}
use Rattle.std.proofs.lemmas.List.{take_all}
use Rattle.std.specs.List.{flat_map}
use Rattle.snl_script.specs.Parts.{escaped}
use Rattle.snl_script.proofs.SaidLemmas.{AppendsPart-on, Said-on, Said-part, Says-on, Says-same, after_last, pieces-all, pieces-more}
use Rattle.snl_script.proofs.parts.put_name.Goals as goal

pub loop-byte-preserved : goal.loop-byte-preserved
loop-byte-preserved g c =
    let more = pieces-more escaped c.args.page.now c.args.name.now c.loop-byte.byte-index 0 c.loop-byte-test.true in
    record {
      said = Says-same _ _ _ _ _ more (Says-on _ _ _ _ _ _ _ c.loop-byte.invariant.said c.in_ok-put_escaped.ensures.said);
      failed = search rules;
    }

pub returns-in_err-put_escaped-clause-said : goal.returns-in_err-put_escaped-clause-said
returns-in_err-put_escaped-clause-said g c =
    let name : List ℕ = c.args.name.now in
    let all = pieces-all escaped c.args.page.now name c.loop-byte.byte-index 0 c.loop-byte-test.true in
    let part = AppendsPart-on _ _ _ _ _ _ c.loop-byte.invariant.said c.in_err-put_escaped.ensures.said in
    Said-part c.from_residual.result _ _ _ _ (flat_map escaped (drop (c.loop-byte.byte-index + 1) name) ++ 58 ∷ []) _ c.from_residual.ensures.0 (after_last _ _ _ _ (58 ∷ []) all) part

pub returns-clause-said : goal.returns-clause-said
returns-clause-said g c =
    let name : List ℕ = c.args.name.now in
    let page : List ℕ = c.args.page.now in
    let every : take c.loop-byte.byte-index name ≡ name = take_all c.loop-byte.byte-index name (omega arith) in
    let all = ap (λ (l : List ℕ). (page ++ flat_map escaped l) ++ 58 ∷ []) every ∙ append_assoc page (flat_map escaped name) (58 ∷ []) in
    Said-on c.put.result _ _ _ _ _ _ _ _ all c.loop-byte.invariant.said c.put.ensures.said
