-- What is known of bytes that are read ahead.
use Rattle.std.specs.Prelude.{◌≡◌, ℕ, List, ◌++◌, Bool, true, false, Option, Result, Ok, Err}
use Rattle.std.specs.Io.KnownBytes.{Consumes}
use Rattle.snl_script.specs.declared.ahead.ReadFault.{ReadFault}
use Rattle.snl_script.specs.declared.ahead.ReadFault.TheVariants.{Read, Memory, TooManyTurns}

-- The bytes that a reader gave are after those that were there.
pub record Gains (old new : List ℕ) (before after : Option (List ℕ)) : Type 0 where
  pub gained : List ℕ
  pub there : new ≡ old ++ gained
  pub given : Consumes before after gained

-- The reader failed.
abbrev pub is_failed_read : {T : Type 0} → Result T ReadFault → Bool
is_failed_read (Ok x) = false
is_failed_read (Err Read) = true
is_failed_read (Err Memory) = false
is_failed_read (Err TooManyTurns) = false
