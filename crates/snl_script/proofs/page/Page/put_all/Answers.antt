use Rattle.std.proofs.Common.{rules, ℕ, List, [], Bor}
use Rattle.snl_script.proofs.SaidLemmas.{AppendsPart-front, AppendsPart-on, AppendsPart-same, Said-err, Says-on, Says-same, pieces-all, pieces-more}
use Rattle.snl_script.proofs.page.Page.put_all.Goals as goal

pub loop-piece-preserved : goal.loop-piece-preserved
loop-piece-preserved g c =
    let more = pieces-more (λ (piece : Bor (List ℕ)). piece.now) c.args.self.now c.args.pieces.now c.loop-piece.piece-index (record { ref_ptr = (0, 0); now = [] }) c.loop-piece-test.true in
    record {
      said = Says-same _ _ _ _ _ more (Says-on _ _ _ _ _ _ _ c.loop-piece.invariant.said c.in_ok-put.ensures.said);
      failed = search rules;
    }

pub returns-in_err-put-clause-said : goal.returns-in_err-put-clause-said
returns-in_err-put-clause-said g c =
    let all = pieces-all (λ (piece : Bor (List ℕ)). piece.now) c.args.self.now c.args.pieces.now c.loop-piece.piece-index (record { ref_ptr = (0, 0); now = [] }) c.loop-piece-test.true in
    let part = AppendsPart-on _ _ _ _ _ _ c.loop-piece.invariant.said c.in_err-put.ensures.said in
    Said-err c.from_residual.result _ _ _ _ c.from_residual.ensures.0 (AppendsPart-same _ _ _ _ all (AppendsPart-front _ _ _ _ part))
