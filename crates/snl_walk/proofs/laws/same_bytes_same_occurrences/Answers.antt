use Rattle.std.proofs.Common.{ap}
use Rattle.std.proofs.Math.Path.{fun_ext}
use Rattle.snl_walk.specs.Items.{occurrences}
use Rattle.snl_walk.proofs.laws.same_bytes_same_occurrences.Goals as goal

pub returns : goal.returns
returns c = λ bytes moved tree same. ap (λ b. occurrences b tree) (fun_ext same)
