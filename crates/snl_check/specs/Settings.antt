-- The options of a program and of a state: what the last setting of each letter says.
use Rattle.std.specs.Prelude.{ℕ, zero, suc, Bool, List, [], ◌∷◌, ◌++◌, codes, if◌then◌else◌, length, Option, None, Some, option_and_then, option_map, option_to_list}
use Rattle.std.specs.List.{filter_map, flat_map}
use Rattle.std.specs.Option.{option_or}
use Rattle.snl_grammar.specs.declared.tree.clause.OptionLine.{OptionLine}
use Rattle.snl_grammar.specs.declared.tree.item.Item.{Item}
use Rattle.snl_grammar.specs.declared.tree.item.Item.TheVariants as items
use Rattle.snl_grammar.specs.declared.tree.state.StateMember.{StateMember}
use Rattle.snl_grammar.specs.declared.tree.state.StateMember.TheVariants as members
use Rattle.snl_summary.specs.declared.summary.Outline.{Outline}
use Rattle.snl_walk.specs.Tokens.{token_bytes}
use Rattle.snl_tables.specs.declared.rows.OptionRow.{OptionRow}
use Rattle.snl_item_check.specs.Options.{has_letter, is_on}
use Rattle.snl_item_check.specs.View.{is_in_set}
use Rattle.snl_item_check.specs.Items.{ProgramItem, tokens_in, tree_in}

-- The letters of a program's options and those of a state's, by rising bytes.
abbrev pub letters_of_program : List ℕ
letters_of_program = codes "Wacdeilmrsw"

abbrev pub letters_of_state : List ℕ
letters_of_state = codes "etx"

-- An option sets or unsets its letters.
pub record LetterSetting : Type 0 where
  pub letters : List ℕ
  pub is_set : Bool

abbrev pub setting_of : (ℕ → List ℕ) → OptionLine → LetterSetting
setting_of bytes line = record { letters = bytes line.letters; is_set = is_on line.sign }

-- What a setting says of a letter, if it speaks of it.
abbrev pub said_of : ℕ → LetterSetting → Option Bool
said_of letter s = if has_letter s.letters letter then Some s.is_set else None

-- The last setting of a letter wins.
abbrev pub last_setting : ℕ → List LetterSetting → Option Bool
last_setting letter [] = None
last_setting letter (s ∷ rest) = option_or (last_setting letter rest) (said_of letter s)

abbrev pub option_row : ℕ → Bool → OptionRow
option_row letter is_set = record { letter = letter; is_set = is_set }

abbrev pub option_row_of : List LetterSetting → ℕ → Option OptionRow
option_row_of settings letter = option_map (option_row letter) (last_setting letter settings)

-- A row for each of the letters that is set or unset.
abbrev pub option_rows : List ℕ → List LetterSetting → List OptionRow
option_rows letters settings = filter_map (option_row_of settings) letters

abbrev pub setting_in_tree : (ℕ → List ℕ) → Item → Option LetterSetting
setting_in_tree bytes (items.OptionLine line) = Some (setting_of bytes line)
setting_in_tree bytes _ = None

-- What an item sets for the program. An option in a state set sets nothing, nor does a faulty one.
abbrev pub setting_at : List ℕ → List ProgramItem → List Outline → ℕ → Option LetterSetting
setting_at text xs ss item =
    if is_in_set ss item then None else option_and_then (setting_in_tree (token_bytes text (tokens_in xs item))) (tree_in xs item)

-- What the numbers below n give, in order.
abbrev pub gathered : {X : Type 0} → (ℕ → Option X) → ℕ → List X
gathered f zero = []
gathered f (suc n) = gathered f n ++ option_to_list (f n)

-- What the items set for the program, in the order of the text.
abbrev pub program_settings : List ℕ → List ProgramItem → List Outline → List LetterSetting
program_settings text xs ss = gathered (setting_at text xs ss) (length xs)

abbrev pub program_options : List ℕ → List ProgramItem → List Outline → List OptionRow
program_options text xs ss = option_rows letters_of_program (program_settings text xs ss)

-- What the options of a state set, in the order of the text.
abbrev pub settings_in_member : (ℕ → List ℕ) → StateMember → List LetterSetting
settings_in_member bytes (members.OptionLine line) = setting_of bytes line ∷ []
settings_in_member bytes _ = []

abbrev pub state_options : (ℕ → List ℕ) → List StateMember → List OptionRow
state_options bytes ms = option_rows letters_of_state (flat_map (settings_in_member bytes) ms)
