-- What the conditions of a state mean: the event flags and channels on a change of which it wakes
-- up.
use Rattle.std.specs.Prelude.{ℕ, if◌then◌else◌, List, Option, None, Some, option_and_then, option_map}
use Rattle.std.specs.List.{filter_map}
use Rattle.snl_summary.specs.declared.summary.Outline.{Outline}
use Rattle.snl_scope.specs.Clauses.{resolve_in}
use Rattle.snl_scope.specs.Flags.{flag_number}
use Rattle.snl_walk.specs.Tokens.{token_bytes}
use Rattle.snl_tables.specs.declared.rows.WakeUp.{WakeUp}
use Rattle.snl_tables.specs.declared.rows.WakeUp.TheVariants as wake
use Rattle.snl_walk.specs.declared.used.WakeUse.{WakeUse}
use Rattle.snl_check.specs.Channels.{AssignedChannel, covers_elements, element_number}
use Rattle.snl_item_check.specs.Items.{ProgramItem, tokens_in}
use Rattle.snl_item_check.specs.Told.{told_in}

-- The uses of names in the conditions of an item.
abbrev pub uses_in : List ℕ → List ProgramItem → ℕ → List WakeUse
uses_in text xs item = (told_in text xs item).wake_uses

-- A variable with a subscript means the channel of that element, where elements are assigned; any
-- other mention means all its channels.
abbrev pub on_variable : List AssignedChannel → Option ℕ → ℕ → Option WakeUp
on_variable cs None variable = Some (wake.Variable variable)
on_variable cs (Some e) variable =
    if covers_elements cs variable then option_map wake.Channel (element_number cs variable (Some e)) else Some (wake.Variable variable)

-- An event flag means itself.
abbrev pub by_flag : Option ℕ → Option WakeUp → Option WakeUp
by_flag (Some flag) other = Some (wake.Flag flag)
by_flag None other = other

abbrev pub on_declaration : List Outline → List AssignedChannel → Option ℕ → ℕ → Option WakeUp
on_declaration ss cs subscript number = by_flag (flag_number ss number) (on_variable cs subscript number)

-- What a use of a name in an item means. A name that resolves to nothing means nothing.
abbrev pub wake_up : List ℕ → List ProgramItem → List Outline → List AssignedChannel → ℕ → WakeUse → Option WakeUp
wake_up text xs ss cs item used =
    option_and_then (on_declaration ss cs used.subscript) (resolve_in ss item (token_bytes text (tokens_in xs item) used.token))

-- What the uses in the conditions of an item mean, in the order of the text.
abbrev pub wake_ups : List ℕ → List ProgramItem → List Outline → List AssignedChannel → ℕ → List WakeUse → List WakeUp
wake_ups text xs ss cs item uses = filter_map (wake_up text xs ss cs item) uses
