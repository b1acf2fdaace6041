-- What a session holds: a text that isn't too long, and what is kept of it.
use Rattle.std.specs.Prelude.{ℕ, ◌≤◌, List, length}
use Rattle.snl_kept.specs.declared.kept.Kept.{Kept}
use Rattle.snl_kept.specs.Kept.{IsKept}
use Rattle.snl_session.specs.Edit.{limit}

pub record IsHeld (text : List ℕ) (k : Kept) : Type 0 where
  pub short : length text ≤ limit
  pub kept : IsKept text k
