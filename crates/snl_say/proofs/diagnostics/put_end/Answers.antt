use Rattle.std.proofs.Common.{◌≡◌, ◌++◌, ◌<◌, ℕ, List, OnOk, arith, length, subst, sym}
use Rattle.snl_say.specs.Items.{item_end}
use Rattle.snl_say.specs.Publish.{found_of}
use Rattle.snl_say.specs.declared.diagnostics.Shown.{Shown}
use Rattle.snl_say.proofs.ItemText.{quotation_then}
use Rattle.snl_say.proofs.diagnostics.put_end.Goals as goal

pub returns-then-not-is_empty : goal.returns-then-not-is_empty
returns-then-not-is_empty c =
    let shown : Shown = c.args.shown.now in
    let out : List ℕ = c.args.out.now.items in
    let new : List ℕ = c.put_quotation.new.out.items in
    let some : 0 < length shown.quoted.now =
    grind (arith, c.is_empty.ensures, c.if-not-is_empty.true) in
    let same = quotation_then shown.quoted.now (item_end (found_of shown)) some in
    subst (λ (l : List ℕ). OnOk c.put_quotation.result (new ≡ out ++ l)) (sym same)
    c.put_quotation.ensures
