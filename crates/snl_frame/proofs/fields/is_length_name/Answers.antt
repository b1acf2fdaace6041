use Rattle.std.proofs.Common.{List, ℕ, codes}
use Rattle.std.proofs.lemmas.Bool.Decides.{same_from_decides}
use Rattle.std.proofs.lemmas.Slice.Eq.{bytes_eq-Decides}
use Rattle.std.specs.Str.{bytes_eq, str_to_ascii_lowercase}
use Rattle.snl_frame.proofs.fields.is_length_name.Goals as goal

pub returns : goal.returns
returns c =
    let xs : List ℕ = str_to_ascii_lowercase c.args.name.now in
    let ys : List ℕ = str_to_ascii_lowercase (codes "content-length: ") in
    same_from_decides c.eq_ignore_ascii_case.result (bytes_eq xs ys)
    c.eq_ignore_ascii_case.ensures.test (bytes_eq-Decides xs ys)
