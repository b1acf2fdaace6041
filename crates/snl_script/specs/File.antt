-- What is known of a source that is read from a file.
use Rattle.std.specs.Prelude.{ℕ, ◌≤◌, List, length, Bool, true, false, Option, Result, Ok, Err}
use Rattle.std.specs.Io.KnownBytes.{Consumes}
use Rattle.snl_script.specs.declared.file.SourceFault.{SourceFault}
use Rattle.snl_script.specs.declared.file.SourceFault.TheVariants.{Unreadable, TooLarge, Memory}

-- The reader gave at most so many bytes.
pub record GivesAtMost (before after : Option (List ℕ)) (most : ℕ) : Type 0 where
  pub bytes : List ℕ
  pub few : length bytes ≤ most
  pub given : Consumes before after bytes

-- The file can't be read.
abbrev pub is_unreadable : {T : Type 0} → Result T SourceFault → Bool
is_unreadable (Err Unreadable) = true
is_unreadable (Err TooLarge) = false
is_unreadable (Err Memory) = false
is_unreadable (Ok x) = false
