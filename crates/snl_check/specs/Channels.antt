-- The channels of a text: what its sound `assign` clauses name, in the order of the text, so that
-- each has a number, from 0 on.
use Rattle.std.specs.Prelude.{ℕ, zero, suc, ◌+◌, ◌-◌, Bool, false, ◌&&◌, if◌then◌else◌, List, [], ◌∷◌, ◌++◌, map, length, take, drop, nat_eq, position, slice_get, is_some, Option, None, Some, unwrap_or}
use Rattle.std.specs.List.{flat_map, list_any}
use Rattle.std.specs.Option.{option_map_or}
use Rattle.snl_lex.specs.declared.piece.Piece.{Piece}
use Rattle.snl_grammar.specs.declared.tree.clause.Channel.{Channel}
use Rattle.snl_grammar.specs.declared.tree.clause.Channel.TheVariants as channels
use Rattle.snl_grammar.specs.declared.tree.clause.Clause.{Clause}
use Rattle.snl_grammar.specs.declared.tree.clause.Clause.TheVariants as clauses
use Rattle.snl_scope.specs.declared.facts.ClauseLink.{ClauseLink}
use Rattle.snl_summary.specs.declared.summary.Outline.{Outline}
use Rattle.snl_scope.specs.Below.{all_below}
use Rattle.snl_walk.specs.Tokens.{token_bytes, value_at}
use Rattle.snl_check.specs.Clauses.{ItemClause, resolved_clauses}
use Rattle.snl_item_check.specs.Items.{ProgramItem, tokens_in}

-- The bytes between the quotes of a string.
abbrev pub between_quotes : List ℕ → List ℕ
between_quotes bytes = take (length bytes - 2) (drop 1 bytes)

-- A channel's name: what is between the quotes of its strings, joined.
abbrev pub joined : List ℕ → List Piece → List ℕ → List ℕ
joined text tokens numbers = flat_map (λ n. between_quotes (token_bytes text tokens n)) numbers

-- A channel that an `assign` names: its element, if it is that of one, and the strings of its name.
pub record NamedChannel : Type 0 where
  pub element : Option ℕ
  pub strings : List ℕ

-- A list of channels covers the elements from the first on.
abbrev pub by_element : ℕ → List (List ℕ) → List NamedChannel
by_element element [] = []
by_element element (strings ∷ rest) = record { element = Some element; strings = strings } ∷ by_element (element + 1) rest

-- The channels of an `assign`; `assign v;` names one with an empty name.
abbrev pub channels_in : List ℕ → List Piece → Channel → List NamedChannel
channels_in text tokens channels.Anonymous = record { element = None; strings = [] } ∷ []
channels_in text tokens (channels.Whole to strings) = record { element = None; strings = strings } ∷ []
channels_in text tokens (channels.Element subscript to strings) = record { element = Some (unwrap_or (value_at text tokens subscript) 0); strings = strings } ∷ []
channels_in text tokens (channels.Elements to lists trailing) = by_element 0 lists

-- A channel of a text: the item of its clause, the token that names the variable there, the number
-- of the variable's declaration, the element, if it is that of one, and the strings of its name.
pub record AssignedChannel : Type 0 where
  pub item : ℕ
  pub token : ℕ
  pub variable : ℕ
  pub element : Option ℕ
  pub strings : List ℕ

abbrev pub assigned_channel : ℕ → ℕ → ℕ → NamedChannel → AssignedChannel
assigned_channel item token variable named = record { item = item; token = token; variable = variable; element = named.element; strings = named.strings }

-- The channels of a clause on the variable with a number: an `assign` has them.
abbrev pub channels_on : List ℕ → List ProgramItem → ℕ → Option ℕ → Clause → List AssignedChannel
channels_on text xs item (Some variable) (clauses.Assign name channel) = map (assigned_channel item name variable) (channels_in text (tokens_in xs item) channel)
channels_on text xs item _ _ = []

-- A clause that isn't sound has none.
abbrev pub channels_of_clause : List ℕ → List ProgramItem → ItemClause × ClauseLink → List AssignedChannel
channels_of_clause text xs (c, link) = if link.is_sound then channels_on text xs c.item link.variable c.clause else []

-- The channels in the order of the text.
abbrev pub assigned_channels : List ℕ → List ProgramItem → List Outline → List AssignedChannel
assigned_channels text xs ss = flat_map (channels_of_clause text xs) (resolved_clauses xs ss)

-- The channel is one of the variable.
abbrev pub is_on : ℕ → AssignedChannel → Bool
is_on variable c = nat_eq c.variable variable

-- The channel is that of an element of the variable: of any, or of the one that is given.
abbrev pub is_element : Option ℕ → Option ℕ → Bool
is_element None element = is_some element
is_element (Some e) element = option_map_or (λ k. nat_eq k e) element false

abbrev pub is_element_of : ℕ → Option ℕ → AssignedChannel → Bool
is_element_of variable which c = is_on variable c && is_element which c.element

-- The number of the first such channel. Of an element a variable has one channel at most.
abbrev pub element_number : List AssignedChannel → ℕ → Option ℕ → Option ℕ
element_number cs variable which = position (is_element_of variable which) cs

-- The `assign` clauses of the variable cover elements.
abbrev pub covers_elements : List AssignedChannel → ℕ → Bool
covers_elements cs variable = list_any (is_element_of variable None) cs

-- The channel with a number is one of the variable.
abbrev pub is_channel_of : List AssignedChannel → ℕ → ℕ → Bool
is_channel_of cs variable number = option_map_or (is_on variable) (slice_get cs number) false

-- The channels of a variable, by their numbers, rising.
abbrev pub channels_of : List AssignedChannel → ℕ → List ℕ
channels_of cs variable = all_below (is_channel_of cs variable) (length cs)

-- The channels of each of the first n declarations.
abbrev pub variables_before : List AssignedChannel → ℕ → List (List ℕ)
variables_before cs zero = []
variables_before cs (suc n) = variables_before cs n ++ channels_of cs n ∷ []
