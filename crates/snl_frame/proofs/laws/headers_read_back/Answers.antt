use Rattle.std.proofs.Common.{List, ℕ, None, arith}
use Rattle.snl_frame.proofs.ReadBack.{header_read}
use Rattle.snl_frame.proofs.laws.headers_read_back.Goals as goal

pub returns : goal.returns
returns c =
    λ (fields : List (List ℕ)) (rest : List ℕ) few are.
    header_read fields 8 None rest (omega arith) are
