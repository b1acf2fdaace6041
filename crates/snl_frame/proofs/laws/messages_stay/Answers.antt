use Rattle.std.proofs.Common.{List, ℕ, None}
use Rattle.snl_frame.proofs.Growing.{in_header-grows}
use Rattle.snl_frame.proofs.laws.messages_stay.Goals as goal

pub returns : goal.returns
returns c = λ (bytes more : List ℕ). in_header-grows 8 None bytes more
