-- The value that a tree of JSON is: of members of one name the last one counts.
use Rattle.std.specs.Prelude.{ℤ, List, [], ◌∷◌, Bool, true, ◌&&◌, Option, Some, None, is_some}
use Rattle.std.specs.Global.{Global}
use Rattle.std.specs.Option.{option_map_or}
use Rattle.json.specs.Json as json
use Rattle.json.specs.Value.{value_view}
use Rattle.json.specs.declared.value.Value.{Value}
use Rattle.serde_json.specs.Data.{Num, unsigned, negative, float, Data, null, boolean, number, string, array, object, Items, no_items, item, Members, no_members, put}
use Rattle.serde_json.specs.Read.{number_of}

-- A number that is in no range is as `null`: no body that is JSON has one.
abbrev mutual
  pub data_of : json.Json → Data
  data_of json.null = null
  data_of (json.boolean b) = boolean b
  data_of (json.number s) = option_map_or number (number_of s) null
  data_of (json.string s) = string s
  data_of (json.array js) = array (items_of js)
  data_of (json.object ms) = object (members_of ms no_members)

  pub items_of : json.Items → Items
  items_of json.no_items = no_items
  items_of (json.item j js) = item (data_of j) (items_of js)

  pub members_of : json.Members → Members → Members
  members_of json.no_members found = found
  members_of (json.member k j ms) found = members_of ms (put k (data_of j) found)

-- Whether each number is in range.
abbrev mutual
  pub are_in_range : json.Json → Bool
  are_in_range json.null = true
  are_in_range (json.boolean b) = true
  are_in_range (json.number s) = is_some (number_of s)
  are_in_range (json.string s) = true
  are_in_range (json.array js) = items_in_range js
  are_in_range (json.object ms) = members_in_range ms

  pub items_in_range : json.Items → Bool
  items_in_range json.no_items = true
  items_in_range (json.item j js) = are_in_range j && items_in_range js

  pub members_in_range : json.Members → Bool
  members_in_range json.no_members = true
  members_in_range (json.member k j ms) = are_in_range j && members_in_range ms

-- The value of a tree, and those of some.
unfoldable pub seen : Value Global → Data
seen value = data_of (value_view value)

abbrev pub seen_all : List (Value Global) → Items
seen_all [] = no_items
seen_all (value ∷ values) = item (seen value) (seen_all values)

-- An integer below 0.
abbrev pub as_negative : Num → Option ℤ
as_negative (unsigned n) = None
as_negative (negative z) = Some z
as_negative (float x) = None
