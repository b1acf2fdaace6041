-- What a contract sees of a `Watched`.
use Rattle.std.specs.Prelude.{ℕ, ◌==◌, ◌&&◌, Bool, true, not, Result, Ok, Err}
use Rattle.snl_script.specs.declared.watched.Watched.{Watched}

-- the reader or the writer
abbrev pub inner_of : {T : Type 0} → Watched T → T
inner_of w = w.inner

-- how many calls of `read` or `write` there were
abbrev pub calls_of : {T : Type 0} → Watched T → ℕ
calls_of w = w.calls

-- whether one failed
abbrev pub failed_of : {T : Type 0} → Watched T → Bool
failed_of w = w.failed

-- a write of so many bytes answered an error, or took none of some
abbrev pub write_failed : {E : Type 0} → Result ℕ E → ℕ → Bool
write_failed (Ok n) len = n == 0 && not (len == 0)
write_failed (Err e) len = true
