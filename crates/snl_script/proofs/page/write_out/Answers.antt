use Rattle.std.proofs.Common.{arith, rules, ◌≡◌, ◌+◌, ◌-◌, ◌≤◌, ◌++◌, length, take, drop, sym, ap, ◌∙◌, length-drop, ℕ, List}
use Rattle.std.proofs.Math.Seq.{take-add}
use Rattle.std.proofs.lemmas.List.{take_all}
use Rattle.snl_script.proofs.SaidLemmas.{Appends-keeps, Appends-nothing, Appends-on, Appends-same, AppendsPart-take, failed-same}
use Rattle.snl_script.proofs.page.write_out.Goals as goal

pub loop-at-preserved : goal.loop-at-preserved
loop-at-preserved g c =
    let at : ℕ = c.loop-at.at in
    let bytes : List ℕ = c.args.bytes.now in
    let short : length (drop at bytes) ≤ length bytes - at = omega (arith, length-drop at bytes) in
    let joined : take at bytes ++ take c.in-Ok.n (take (length bytes - at) (drop at bytes)) ≡ take (at + c.in-Ok.n) bytes = ap (λ (l : List ℕ). take at bytes ++ take c.in-Ok.n l) (take_all (length bytes - at) (drop at bytes) short) ∙ sym (take-add at c.in-Ok.n bytes) in
    record {
      within = omega (arith, c.in-Ok.ensures.bound, length-drop at bytes);
      written = Appends-same _ _ _ _ joined (Appends-on _ _ _ _ _ c.loop-at.invariant.written c.in-Ok.ensures.bytes);
      failed = failed-same _ _ c.in-Ok.n _ c.in-Ok.n-test.1 c.in-Ok.ensures.failed ∙ c.loop-at.invariant.failed;
    }

pub returns-in-Ok-eq0-clause-written : goal.returns-in-Ok-eq0-clause-written
returns-in-Ok-eq0-clause-written g c =
    let none : c.in-Ok-eq0.field-0 ≡ 0 = search rules in
    AppendsPart-take _ _ c.loop-at.at c.args.bytes.now (Appends-nothing _ _ _ _ _ (ap (λ k. take k (take (length c.args.bytes.now - c.loop-at.at) (drop c.loop-at.at c.args.bytes.now))) none) c.loop-at.invariant.written c.in-Ok-eq0.ensures.bytes)

pub returns-in-Err-clause-written : goal.returns-in-Err-clause-written
returns-in-Err-clause-written g c = AppendsPart-take _ _ c.loop-at.at c.args.bytes.now (Appends-keeps _ _ _ _ c.loop-at.invariant.written c.in-Err.ensures.bytes)
