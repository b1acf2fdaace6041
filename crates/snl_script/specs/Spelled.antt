-- How the commands of a script are spelled.
use Rattle.std.specs.Prelude.{◌≡◌, ℕ, ◌^◌, ◌<◌, ◌≤◌, List, [], ◌∷◌, ◌++◌, length, codes, decimal, replicate}
use Rattle.std.specs.List.{concat}
use Rattle.snl_script.specs.Script.{Request, Checks, Lists, Works, Edits}

-- A number below 10^19 in at most 19 decimal digits, with any leading zeros.
pub record IsNumeral (number : ℕ) (word : List ℕ) : Type 0 where
  pub zeros : ℕ
  pub digits : word ≡ replicate zeros 48 ++ decimal number
  pub few : length word ≤ 19
  pub small : number < 10 ^ 19

-- `edit START END LEN`, LF, then LEN bytes and an LF. LEN is at most 2,097,152.
pub record IsEdit (start stop : ℕ) (new bytes : List ℕ) : Type 0 where
  pub start_word : List ℕ
  pub stop_word : List ℕ
  pub len_word : List ℕ
  pub start_is : IsNumeral start start_word
  pub stop_is : IsNumeral stop stop_word
  pub len_is : IsNumeral (length new) len_word
  pub few : length new ≤ 2097152
  pub spelled : bytes ≡ concat (codes "edit " ∷ start_word ∷ codes " " ∷ stop_word ∷ codes " " ∷ len_word ∷ codes "\n" ∷ new ∷ codes "\n" ∷ [])

-- The command is spelled by these bytes.
abbrev pub IsSpelled : Request → (bytes : List ℕ) → Type 0
IsSpelled Checks bytes = bytes ≡ codes "check\n"
IsSpelled Lists bytes = bytes ≡ codes "list\n"
IsSpelled Works bytes = bytes ≡ codes "work\n"
IsSpelled (Edits start stop new) bytes = IsEdit start stop new bytes
