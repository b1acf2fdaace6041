use Rattle.std.proofs.Common.{◌≡◌, ℕ, suc, ◌+◌, ◌≤◌, List, [], ◌∷◌, ◌++◌, length, sym, ap, ◌∙◌, subst, arith}
use Rattle.snl_cut.specs.Cut.{ticked}
use Rattle.snl_lex.specs.declared.piece.Piece.{Piece}
use Rattle.snl_lex.specs.Pieces.{piece_at}
use Rattle.snl_lex.proofs.Members.{Leads, leads_on, leads_pieces, leads_inside, leads_walk}
use Rattle.snl_lex.proofs.Own.{leads_joined, leads_own}
use Rattle.snl_lex.proofs.cut.lex.Goals as goal
use Rattle.snl_facts.specs.Lists.{length_more}

pub loop-at-preserved : goal.loop-at-preserved
unfolding piece_at
loop-at-preserved c =
    let text : List ℕ = c.args.text.now in
    let at : ℕ = c.loop-at.at in
    let items : List Piece = c.loop-at.pieces.items in
    let led : Leads text 0 (items ++ c.piece_at-piece.result ∷ []) (at + c.piece_at-piece.result.len) =
    subst (λ (q : Piece). Leads text 0 (items ++ q ∷ []) (at + q.len)) (sym c.piece_at-piece.ensures.piece) (leads_on text 0 items at c.loop-at.invariant.leads c.loop-at-test.true) in
    record {
      leads = rw c.in_ok-push.ensures.items led;
      inside = c.piece_at-piece.ensures.inside;
      ticked = rw c.in_ok-push.ensures.items (rw (length_more items c.piece_at-piece.result) (c.tick.ensures ∙ ap ticked c.loop-at.invariant.ticked));
    }

-- The pieces lead through the whole text.
all_led : (text : List ℕ) (items : List Piece) (at : ℕ) → Leads text 0 items at → at ≤ length text → length text ≤ at → Leads text 0 items (length text)
all_led text items at h low high = let done : at ≡ length text = omega arith in subst (λ (n : ℕ). Leads text 0 items n) done h

pub returns-clause-joined : goal.returns-clause-joined
returns-clause-joined c = leads_joined c.args.text.now 0 c.loop-at.pieces.items (all_led c.args.text.now c.loop-at.pieces.items c.loop-at.at c.loop-at.invariant.leads c.loop-at.invariant.inside c.loop-at-test.false)

pub returns-clause-inside : goal.returns-clause-inside
returns-clause-inside c = leads_inside c.args.text.now 0 c.loop-at.pieces.items c.loop-at.at c.loop-at.invariant.leads

pub returns-clause-own_bytes : goal.returns-clause-own_bytes
returns-clause-own_bytes c = leads_own c.args.text.now 0 c.loop-at.pieces.items c.loop-at.at c.loop-at.invariant.leads

pub returns-clause-cut : goal.returns-clause-cut
returns-clause-cut c =
    leads_walk c.args.text.now 0 c.loop-at.pieces.items (length c.args.text.now)
    (all_led c.args.text.now c.loop-at.pieces.items c.loop-at.at c.loop-at.invariant.leads c.loop-at.invariant.inside c.loop-at-test.false)

pub returns-clause-pieces : goal.returns-clause-pieces
returns-clause-pieces c =
    leads_pieces c.args.text.now c.loop-at.pieces.items
    (all_led c.args.text.now c.loop-at.pieces.items c.loop-at.at c.loop-at.invariant.leads c.loop-at.invariant.inside c.loop-at-test.false)

pub returns-in_err-push-clause-counted : goal.returns-in_err-push-clause-counted
returns-in_err-push-clause-counted c =
    record { calls = suc (length c.loop-at.pieces.items); ticks = c.tick.ensures ∙ ap ticked c.loop-at.invariant.ticked }
