-- What an edit of a list keeps at the back.
use Rattle.std.specs.Prelude.{ℕ, suc, ◌+◌, ◌-◌, List, length}
use Rattle.snl_cut.specs.Cut.{ends_below, ends_of, meet_of}

-- How many old members begin at the meeting point or after it.
abbrev pub back_of : {X : Type 0} → (List X → ℕ) → List X → List X → ℕ → ℕ → ℕ
back_of first old units old_stop new_stop =
    length (ends_of first old) - ends_below (suc ((meet_of first old units old_stop new_stop - new_stop) + old_stop)) (ends_of first old)
