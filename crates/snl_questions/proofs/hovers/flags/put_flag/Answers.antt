use Rattle.std.proofs.Common.{◌+◌, ◌++◌, ◌∙◌, ℕ, List, codes, decimal, ap, sym, append_assoc}
use Rattle.snl_questions.proofs.Lines.{flag_said}
use Rattle.snl_questions.proofs.hovers.flags.put_flag.Goals as goal

pub returns-in_ok-put_number : goal.returns-in_ok-put_number
returns-in_ok-put_number c =
    let place : ℕ = c.in-Some.place in
    let out : List ℕ = c.args.out.now.items in
    let number : List ℕ = decimal (place + 1) in
    c.in_ok-put_number.ensures
    ∙ ap (λ (l : List ℕ). l ++ number) c.in_ok-extend_from_slice.ensures.items
    ∙ append_assoc out (codes "\nevent flag ") number
    ∙ ap (λ (l : List ℕ). out ++ l)
    (sym (flag_said c.args.flags.now c.args.declared place (sym c.in-Some.ensures)))
