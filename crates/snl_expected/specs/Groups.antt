-- Sets of kinds that the language's description has one word for, and what is expected, named by
-- them.
use Rattle.std.specs.Prelude.{ℕ, Bool, true, false, List, [], ◌∷◌, ◌++◌, ◌&&◌, ◌||◌, codes, filter, if◌then◌else◌, not}
use Rattle.std.specs.List.{fold, list_any}
use Rattle.snl_lex.specs.declared.kind.Kind.{Kind}
use Rattle.snl_lex.specs.declared.kind.Kind.TheVariants as kind
use Rattle.snl_expected.specs.declared.groups.Group.{Group}
use Rattle.snl_expected.specs.declared.groups.Group.TheVariants as group
use Rattle.snl_expected.specs.declared.description.Description.{Description}

-- A type begins with it.
abbrev pub is_type : Kind → Bool
is_type kind.Const = true
is_type kind.Void = true
is_type kind.Char = true
is_type kind.Short = true
is_type kind.Int = true
is_type kind.Long = true
is_type kind.Unsigned = true
is_type kind.Int8 = true
is_type kind.Uint8 = true
is_type kind.Int16 = true
is_type kind.Uint16 = true
is_type kind.Int32 = true
is_type kind.Uint32 = true
is_type kind.Float = true
is_type kind.Double = true
is_type kind.String = true
is_type kind.Evflag = true
is_type kind.Enum = true
is_type kind.Struct = true
is_type kind.Union = true
is_type kind.Typename = true
is_type _ = false

-- A clause begins with it.
abbrev pub is_clause : Kind → Bool
is_clause kind.Assign = true
is_clause kind.Monitor = true
is_clause kind.Sync = true
is_clause kind.Syncq = true
is_clause kind.SyncqCapital = true
is_clause _ = false

-- An expression begins with it.
abbrev pub is_operand : Kind → Bool
is_operand kind.Name = true
is_operand kind.Integer = true
is_operand kind.Floating = true
is_operand kind.Text = true
is_operand kind.Character = true
is_operand kind.OpenParen = true
is_operand kind.PlusPlus = true
is_operand kind.MinusMinus = true
is_operand kind.Exclamation = true
is_operand kind.Tilde = true
is_operand kind.Plus = true
is_operand kind.Minus = true
is_operand kind.Star = true
is_operand kind.Ampersand = true
is_operand kind.Sizeof = true
is_operand _ = false

-- It assigns.
abbrev pub is_assignment : Kind → Bool
is_assignment kind.Equal = true
is_assignment kind.PlusEqual = true
is_assignment kind.MinusEqual = true
is_assignment kind.StarEqual = true
is_assignment kind.SlashEqual = true
is_assignment kind.PercentEqual = true
is_assignment kind.AmpersandEqual = true
is_assignment kind.BarEqual = true
is_assignment kind.CaretEqual = true
is_assignment kind.LessLessEqual = true
is_assignment kind.GreaterGreaterEqual = true
is_assignment _ = false

-- It follows an operand, and assigns nothing.
abbrev pub is_operator : Kind → Bool
is_operator kind.OpenBracket = true
is_operator kind.OpenParen = true
is_operator kind.Dot = true
is_operator kind.Arrow = true
is_operator kind.PlusPlus = true
is_operator kind.MinusMinus = true
is_operator kind.Plus = true
is_operator kind.Minus = true
is_operator kind.Star = true
is_operator kind.Slash = true
is_operator kind.Percent = true
is_operator kind.Ampersand = true
is_operator kind.Bar = true
is_operator kind.Caret = true
is_operator kind.AmpersandAmpersand = true
is_operator kind.BarBar = true
is_operator kind.LessLess = true
is_operator kind.GreaterGreater = true
is_operator kind.Less = true
is_operator kind.Greater = true
is_operator kind.LessEqual = true
is_operator kind.GreaterEqual = true
is_operator kind.EqualEqual = true
is_operator kind.NotEqual = true
is_operator kind.Question = true
is_operator _ = false

-- An item begins with it that begins with no type and is no clause.
abbrev pub begins_item_alone : Kind → Bool
begins_item_alone kind.Program = true
begins_item_alone kind.Ss = true
begins_item_alone kind.CloseBrace = true
begins_item_alone kind.Semicolon = true
begins_item_alone kind.CCode = true
begins_item_alone kind.Foreign = true
begins_item_alone kind.Option = true
begins_item_alone kind.Entry = true
begins_item_alone kind.Exit = true
begins_item_alone kind.State = true
begins_item_alone _ = false

-- A member of a state begins with it that begins with no type and is no clause.
abbrev pub begins_member_alone : Kind → Bool
begins_member_alone kind.Foreign = true
begins_member_alone kind.Option = true
begins_member_alone kind.Entry = true
begins_member_alone kind.Exit = true
begins_member_alone kind.When = true
begins_member_alone kind.CCode = true
begins_member_alone kind.Semicolon = true
begins_member_alone _ = false

-- A statement begins with it that is neither a declaration nor an expression.
abbrev pub begins_statement_alone : Kind → Bool
begins_statement_alone kind.OpenBrace = true
begins_statement_alone kind.Semicolon = true
begins_statement_alone kind.If = true
begins_statement_alone kind.While = true
begins_statement_alone kind.For = true
begins_statement_alone kind.Break = true
begins_statement_alone kind.Continue = true
begins_statement_alone kind.Return = true
begins_statement_alone kind.State = true
begins_statement_alone kind.CCode = true
begins_statement_alone _ = false

-- A group stands for a kind.
abbrev pub has : Group → Kind → Bool
has group.Statement k = begins_statement_alone k || is_type k || is_operand k
has group.Item k = begins_item_alone k || is_type k || is_clause k
has group.Operator k = is_operator k || is_assignment k
has group.Member k = begins_member_alone k || is_type k || is_clause k
has group.OperatorAlone k = is_operator k
has group.Type k = is_type k
has group.Operand k = is_operand k
has group.Clause k = is_clause k

-- The name of a group.
abbrev pub group_phrase : Group → List ℕ
group_phrase group.Statement = codes "a statement"
group_phrase group.Item = codes "an item"
group_phrase group.Operator = codes "an operator"
group_phrase group.Member = codes "a member of a state"
group_phrase group.OperatorAlone = codes "an operator"
group_phrase group.Type = codes "a type"
group_phrase group.Operand = codes "an operand"
group_phrase group.Clause = codes "a clause"

-- All groups, from the widest to the narrowest.
abbrev pub all_groups : List Group
all_groups = group.Statement ∷ group.Item ∷ group.Operator ∷ group.Member ∷ group.OperatorAlone ∷ group.Type ∷ group.Operand ∷ group.Clause ∷ []

-- One of the groups stands for the kind.
abbrev pub is_covered : List Group → Kind → Bool
is_covered gs k = list_any (λ g. has g k) gs

-- It stands for a kind for which none of the groups before it stands.
abbrev pub is_new : List Group → Group → Kind → Bool
is_new before g k = has g k && not (is_covered before k)

-- A group is named where it stands for none of the kinds that may not come, and for one that may
-- come and for which no group before it stands.
abbrev pub is_group_named : List Kind → List Kind → List Group → Group → Bool
is_group_named expected others before g = not (list_any (has g) others) && list_any (is_new before g) expected

-- The groups that are named after some, with one group more that is looked at.
abbrev pub with_group : List Kind → List Kind → List Group → Group → List Group
with_group expected others named g = if is_group_named expected others named g then named ++ g ∷ [] else named

-- The groups that are named.
abbrev pub groups_named : List Kind → List Kind → List Group
groups_named expected others = fold (with_group expected others) [] all_groups

-- The kinds that are named one by one: no group that is named stands for them.
abbrev pub is_single : List Group → Kind → Bool
is_single gs k = not (is_covered gs k)

abbrev pub kinds_named : List Group → List Kind → List Kind
kinds_named gs expected = filter (is_single gs) expected

-- What is expected, in few words: groups, and kinds for which none of these stands.
pub record Described : Type 0 where
  pub groups : List Group
  pub kinds : List Kind

abbrev pub described : Description → Described
described d = record { groups = d.groups.items; kinds = d.kinds.items }

abbrev pub described_by : List Group → List Kind → Described
described_by gs expected = record { groups = gs; kinds = kinds_named gs expected }

-- The description where tokens of some kinds may come, and of others may not.
abbrev pub description_of : List Kind → List Kind → Described
description_of expected others = described_by (groups_named expected others) expected
