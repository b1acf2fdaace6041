use Rattle.std.proofs.Common.{List, ℕ, None}
use Rattle.snl_frame.proofs.Waiting.{in_header-few}
use Rattle.snl_frame.proofs.laws.unfinished_are_bounded.Goals as goal

pub returns : goal.returns
returns c = λ (bytes : List ℕ). in_header-few 8 None bytes
