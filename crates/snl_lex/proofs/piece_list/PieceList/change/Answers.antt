use Rattle.std.proofs.Common.{◌≡◌, ℕ, ◌-◌, List, length, take, ap, ap₂, ◌∙◌, arith}
use Rattle.snl_cut.specs.Cut.{last_end}
use Rattle.snl_lex.specs.Edit.{edit_of}
use Rattle.snl_lex.specs.PieceList.{piece_ends}
use Rattle.snl_lex.proofs.Changes.{front_ends, relexed_change}
use Rattle.snl_lex.proofs.piece_list.PieceList.change.Goals as goal

pub overflow_cast-made_from : goal.overflow_cast-made_from
overflow_cast-made_from c =
    let e = c.args.edit.now in
    let front : ℕ = c.in_ok-relexed.relexed.kept_front in
    let is : c.end_by-made_from.result ≡ last_end 0 (take front (piece_ends e.old.now)) =
    c.end_by-made_from.ensures ∙ ap (λ (l : List ℕ). last_end 0 (take front l)) (c.deref.ensures.value ∙ c.requires) in
    omega (arith, is, front_ends e.old.now front, e.short.0)

pub returns-clause-change : goal.returns-clause-change
returns-clause-change c =
    let e = c.args.edit.now in
    let old : List ℕ = e.old.now in
    let front : ℕ = c.in_ok-relexed.relexed.kept_front in
    let back : ℕ = c.in_ok-relexed.relexed.kept_back in
    let listed : c.deref.result.now ≡ piece_ends old = c.deref.ensures.value ∙ c.requires in
    let many : c.len.result ≡ length (piece_ends old) = omega (arith, c.len.ensures, c.args.self.now.ends.ok, ap length c.requires) in
    let from : c.end_by-made_from.result ≡ last_end 0 (take front (piece_ends old)) = c.end_by-made_from.ensures ∙ ap (λ (l : List ℕ). last_end 0 (take front l)) listed in
    let kept_from : c.end_by-kept_from.result ≡ last_end 0 (take (length (piece_ends old) - back) (piece_ends old)) =
    c.end_by-kept_from.ensures ∙ ap₂ (λ (n : ℕ) (l : List ℕ). last_end 0 (take (n - back) l)) many listed in
    relexed_change (edit_of e) _ c.in_ok-relexed.ensures.relexed from kept_from
