-- Bytes put in the place of others are an edit.
use Rattle.std.proofs.Common.{◌≡◌, ℕ, ◌+◌, ◌≤◌, List, ◌++◌, length, take, drop, sym, ap, ◌∙◌, arith, length-append}
use Rattle.std.proofs.lemmas.List.{take_at, drop_at, length-take-le, append_assoc}
use Rattle.snl_cut.specs.Cut.{IsEdit}

pub edited_edit : (text new now : List ℕ) (start stop : ℕ) → start ≤ stop → stop ≤ length text → now ≡ (take start text ++ new) ++ drop stop text → IsEdit text now start stop (start + length new)
edited_edit text new now start stop order inside e =
    let front : List ℕ = take start text in
    let back : List ℕ = drop stop text in
    let size : length front ≡ start = length-take-le start text (omega arith) in
    let more : length (front ++ new) ≡ start + length new = length-append front new ∙ ap (λ (n : ℕ). n + length new) size in
    record {
      old_order = order;
      new_order = omega arith;
      old_inside = inside;
      new_inside = omega (arith, ap length e, length-append (front ++ new) back, more);
      before = sym (ap (take start) (e ∙ append_assoc front new back) ∙ take_at front (new ++ back) start size);
      after = sym (ap (drop (start + length new)) e ∙ drop_at (front ++ new) back (start + length new) more);
    }
