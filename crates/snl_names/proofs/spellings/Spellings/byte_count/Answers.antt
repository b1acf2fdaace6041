use Rattle.std.proofs.Common.{◌≡◌, ◌∙◌, ap, arith, length, sym}
use Rattle.std.specs.Prelude.{sum_by}
use Rattle.snl_names.proofs.Ends.{total_bytes}
use Rattle.snl_names.proofs.spellings.Spellings.byte_count.Goals as goal

pub returns : goal.returns
returns c =
    let all : c.len.result ≡ length c.self.inside.bytes.items = omega (arith, c.len.ensures, c.self.inside.bytes.ok) in
    all ∙ sym (total_bytes c.self.inside.bytes.items c.self.inside.ends.items c.self.invariant) ∙ ap (sum_by length) c.self.view_is
