use Rattle.std.proofs.Common.{◌≡◌, ℕ, List, ap, ap₂, length, sym, take, ◌∙◌}
use Rattle.snl_cut.specs.Cut.{members}
use Rattle.snl_cut.specs.CutLaws.{length_members}
use Rattle.snl_names.proofs.Ends.{first_members}
use Rattle.snl_names.proofs.spellings.Spellings.begin_with.Goals as goal

pub returns-then-ends_begin_with : goal.returns-then-ends_begin_with
returns-then-ends_begin_with c = λ yes.
    let bytes : List ℕ = c.self.inside.bytes.items in
    let ends : List ℕ = c.self.inside.ends.items in
    let b : List ℕ = c.first.inside.bytes.items in
    let es : List ℕ = c.first.inside.ends.items in
    let first_ends : take (length es) ends ≡ es =
    sym (ap₂ (λ (x y : List ℕ). take (length y) x) c.deref.ensures.value c.deref-2.ensures.value) ∙ c.ends_begin_with.ensures c.if-ends_begin_with.true ∙ c.deref-2.ensures.value in
    let first_bytes : take (length b) bytes ≡ b =
    sym (ap₂ (λ (x y : List ℕ). take (length y) x) c.deref-then-ends_begin_with.ensures.value c.deref-then-ends_begin_with-2.ensures.value) ∙ c.bytes_begin_with.ensures yes ∙ c.deref-then-ends_begin_with-2.ensures.value in
    ap₂ (λ (x y : List (List ℕ)). take (length y) x) (sym c.self.view_is) (sym c.first.view_is)
    ∙ ap (λ (n : ℕ). take n (members bytes 0 ends)) (length_members b 0 es)
    ∙ first_members bytes ends b es c.first.invariant first_ends first_bytes
    ∙ c.first.view_is
