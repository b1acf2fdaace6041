-- Letters of options that are not known where the option is, and what an option says of warnings.
use Rattle.std.specs.Prelude.{ℕ, Bool, true, false, List, [], ◌∷◌, codes, nat_eq, if◌then◌else◌, Option, None, Some}
use Rattle.std.specs.List.{enumerate_from, flat_map, list_any}
use Rattle.snl_grammar.specs.declared.tree.clause.OptionLine.{OptionLine}
use Rattle.snl_grammar.specs.declared.tree.clause.OptionSign.{OptionSign}
use Rattle.snl_grammar.specs.declared.tree.clause.OptionSign.TheVariants.{Plus, Minus}
use Rattle.snl_grammar.specs.declared.tree.item.Item.{Item}
use Rattle.snl_grammar.specs.declared.tree.item.Item.TheVariants as items
use Rattle.snl_grammar.specs.declared.tree.state.StateMember.{StateMember}
use Rattle.snl_grammar.specs.declared.tree.state.StateMember.TheVariants as members
use Rattle.snl_codes.specs.declared.code.Code.TheVariants.{W04}
use Rattle.snl_item_check.specs.declared.findings.ItemFault.{ItemFault}

-- The options of a program, and those of a state.
abbrev pub program_letters : List ℕ
program_letters = codes "acdeilmrswW"

abbrev pub state_letters : List ℕ
state_letters = codes "tex"

abbrev pub is_known : List ℕ → ℕ → Bool
is_known known letter = list_any (λ k. nat_eq k letter) known

abbrev pub letter_fault : ℕ → ℕ → ItemFault
letter_fault token byte = record { token = token; byte = byte; code = W04 }

-- What is found at a letter with its number in the token.
abbrev pub found_at_letter : List ℕ → ℕ → ℕ × ℕ → List ItemFault
found_at_letter known token (byte, letter) = if is_known known letter then [] else letter_fault token byte ∷ []

-- The letters of an option that are not among the known ones.
abbrev pub unknown_letters : (ℕ → List ℕ) → List ℕ → OptionLine → List ItemFault
unknown_letters bytes known line = flat_map (found_at_letter known line.letters) (enumerate_from 0 (bytes line.letters))

abbrev pub unknown_in_member : (ℕ → List ℕ) → StateMember → List ItemFault
unknown_in_member bytes (members.OptionLine line) = unknown_letters bytes state_letters line
unknown_in_member bytes _ = []

-- The unknown letters of an item. An option of the program that is in a state set sets nothing, and
-- none is looked for.
abbrev pub unknown_options : (ℕ → List ℕ) → Bool → Item → List ItemFault
unknown_options bytes in_set (items.OptionLine line) = if in_set then [] else unknown_letters bytes program_letters line
unknown_options bytes in_set (items.StateBlock name ms) = flat_map (unknown_in_member bytes) ms
unknown_options bytes in_set _ = []

-- The letter of warnings, `w`.
abbrev pub warnings_letter : ℕ
warnings_letter = 119

abbrev pub has_letter : List ℕ → ℕ → Bool
has_letter letters letter = list_any (λ k. nat_eq k letter) letters

abbrev pub is_on : OptionSign → Bool
is_on Plus = true
is_on Minus = false

-- What an item says of warnings: they are on or off. Only an option says something that has the
-- letter and is at program level.
abbrev pub warning_setting : (ℕ → List ℕ) → Bool → Item → Option Bool
warning_setting bytes in_set (items.OptionLine line) =
    if in_set then None else (if has_letter (bytes line.letters) warnings_letter then Some (is_on line.sign) else None)
warning_setting bytes in_set _ = None
