-- What a tree of JSON is as a value, and what is found in it.
use Rattle.std.proofs.Common.{◌≡◌, ℕ, List, [], ◌∷◌, Bool, true, false, cond, bytes_eq, ◌&&◌, is_some, Option, Some, None, option_map, option_and_then, Bor, Vec, Global, refl, sym, ap, ◌∙◌, true≢false}
use Rattle.std.specs.Option.{option_map_or}
use Rattle.std.proofs.lemmas.Slice.Eq.{bytes_eq-Decides}
use Rattle.json.specs.Json as json
use Rattle.json.specs.Find as tree
use Rattle.json.specs.Value.{items_view, value_view}
use Rattle.json.specs.declared.value.Value.{Value, Array}
use Rattle.json.proofs.Trees.{view-Array}
use Rattle.serde_json.specs.Data.{Num, Data, number, null, array, object, item, Members, no_members, put}
use Rattle.serde_json.specs.Find.{as_array, as_bool, as_number, as_str, get, get_member}
use Rattle.serde_json.specs.Read.{number_of, of_items, of_json, of_members}
use Rattle.serde_json.proofs.Views.{get_member-put, get_member-put_other}
use Rattle.snl_hear.specs.Values.{are_in_range, data_of, items_in_range, items_of, members_in_range, members_of, seen, seen_all}

-- ---- the whole value

both : (a b : Bool) → (a && b) ≡ true → (a ≡ true) × (b ≡ true)
both true b h = (refl, h)
both false b h = absurd (true≢false (sym h))

known : (o : Option Num) → is_some o ≡ true → option_map number o ≡ Some (option_map_or number o null)
known None h = absurd (true≢false (sym h))
known (Some n) h = refl

unknown : (o : Option Num) → is_some o ≡ false → option_map number o ≡ None
unknown None h = refl
unknown (Some n) h = absurd (true≢false h)

-- one in which all numbers are in range is read as that value
mutual
  pub converts : (j : json.Json) → are_in_range j ≡ true → of_json j ≡ Some (data_of j)
  converts json.null h = refl
  converts (json.boolean b) h = refl
  converts (json.number s) h = known (number_of s) h
  converts (json.string s) h = refl
  converts (json.array js) h = ap (option_map array) (converts_items js h)
  converts (json.object ms) h = ap (option_map object) (converts_members ms no_members h)

  converts_items : (js : json.Items) → items_in_range js ≡ true →
      of_items js ≡ Some (items_of js)
  converts_items json.no_items h = refl
  converts_items (json.item j js) h =
      let parts = both (are_in_range j) (items_in_range js) h in
      ap (option_and_then (λ d. option_map (item d) (of_items js))) (converts j parts.0)
      ∙ ap (option_map (item (data_of j))) (converts_items js parts.1)

  converts_members : (ms : json.Members) (found : Members) → members_in_range ms ≡ true →
      of_members ms found ≡ Some (members_of ms found)
  converts_members json.no_members found h = refl
  converts_members (json.member k j ms) found h =
      let parts = both (are_in_range j) (members_in_range ms) h in
      ap (option_and_then (λ d. of_members ms (put k d found))) (converts j parts.0)
      ∙ converts_members ms (put k (data_of j) found) parts.1

-- and another one is no value
mutual
  pub refuses : (j : json.Json) → are_in_range j ≡ false → of_json j ≡ None
  refuses json.null h = absurd (true≢false h)
  refuses (json.boolean b) h = absurd (true≢false h)
  refuses (json.number s) h = unknown (number_of s) h
  refuses (json.string s) h = absurd (true≢false h)
  refuses (json.array js) h = ap (option_map array) (refuses_items js h)
  refuses (json.object ms) h = ap (option_map object) (refuses_members ms no_members h)

  refuses_items : (js : json.Items) → items_in_range js ≡ false → of_items js ≡ None
  refuses_items json.no_items h = absurd (true≢false h)
  refuses_items (json.item j js) h =
      elim (are_in_range j) as (λ b. are_in_range j ≡ b → (b && items_in_range js) ≡ false →
      option_and_then (λ d. option_map (item d) (of_items js)) (of_json j) ≡ None) [
        | true ↦ λ is rest.
            ap (option_and_then (λ d. option_map (item d) (of_items js))) (converts j is)
            ∙ ap (option_map (item (data_of j))) (refuses_items js rest)
        | false ↦ λ is rest.
            ap (option_and_then (λ d. option_map (item d) (of_items js))) (refuses j is)
      ] refl h

  refuses_members : (ms : json.Members) (found : Members) → members_in_range ms ≡ false →
      of_members ms found ≡ None
  refuses_members json.no_members found h = absurd (true≢false h)
  refuses_members (json.member k j ms) found h =
      elim (are_in_range j) as (λ b. are_in_range j ≡ b → (b && members_in_range ms) ≡ false →
      option_and_then (λ d. of_members ms (put k d found)) (of_json j) ≡ None) [
        | true ↦ λ is rest.
            ap (option_and_then (λ d. of_members ms (put k d found))) (converts j is)
            ∙ refuses_members ms (put k (data_of j) found) rest
        | false ↦ λ is rest. ap (option_and_then (λ d. of_members ms (put k d found))) (refuses j is)
      ] refl h

-- ---- what is found in it

-- what comes later counts
abbrev or_else : Option Data → Option Data → Option Data
or_else None earlier = earlier
or_else (Some d) earlier = Some d

alone : (o : Option Data) → or_else o None ≡ o
alone None = refl
alone (Some d) = refl

found_last : (o : Option json.Json) (k l : List ℕ) (j : json.Json) (found : Members) →
    or_else (option_map data_of o) (get_member k (put l (data_of j) found)) ≡
    or_else (option_map data_of (tree.later_or o (cond (bytes_eq l k) (Some j) None)))
    (get_member k found)
found_last (Some last) k l j found = refl
found_last None k l j found =
    elim (bytes_eq l k) as (λ b. bytes_eq l k ≡ b → get_member k (put l (data_of j) found) ≡
    or_else (option_map data_of (cond b (Some j) None)) (get_member k found)) [
      | true ↦ λ is.
          let same : l ≡ k = (bytes_eq-Decides l k).0 is in
          ap (λ name. get_member k (put name (data_of j) found)) same
          ∙ get_member-put k (data_of j) found
      | false ↦ λ is.
          get_member-put_other k l (data_of j) found
          (λ e. true≢false (sym ((bytes_eq-Decides l k).1 (sym e)) ∙ is))
    ] refl

found_in : (k : List ℕ) (ms : json.Members) (found : Members) →
    get_member k (members_of ms found) ≡
    or_else (option_map data_of (tree.get_member k ms)) (get_member k found)
found_in k json.no_members found = refl
found_in k (json.member l j ms) found =
    found_in k ms (put l (data_of j) found) ∙ found_last (tree.get_member k ms) k l j found

found_at : (k : List ℕ) (j : json.Json) → option_map data_of (tree.get k j) ≡ get k (data_of j)
found_at k json.null = refl
found_at k (json.boolean b) = refl
found_at k (json.number s) =
    elim (number_of s) as (λ o. None ≡ get k (option_map_or number o null))
    [ None ↦ refl | Some n ↦ refl ]
found_at k (json.string s) = refl
found_at k (json.array js) = refl
found_at k (json.object ms) =
    sym (found_in k ms no_members ∙ alone (option_map data_of (tree.get_member k ms)))

pub seen_refs : (found : Option (Bor (Value Global))) →
    option_map (λ v. seen v.now) found ≡ option_map data_of (option_map (λ v. value_view v.now) found)
unfolding seen
seen_refs None = refl
seen_refs (Some v) = refl

pub member_seen : (k : List ℕ) (value : Value Global) →
    option_map data_of (tree.get k (value_view value)) ≡ get k (seen value)
unfolding seen
member_seen k value = found_at k (value_view value)

string_at : (j : json.Json) → tree.as_str j ≡ as_str (data_of j)
string_at json.null = refl
string_at (json.boolean b) = refl
string_at (json.number s) =
    elim (number_of s) as (λ o. None ≡ as_str (option_map_or number o null))
    [ None ↦ refl | Some n ↦ refl ]
string_at (json.string s) = refl
string_at (json.array js) = refl
string_at (json.object ms) = refl

pub string_seen : (value : Value Global) → tree.as_str (value_view value) ≡ as_str (seen value)
unfolding seen
string_seen value = string_at (value_view value)

boolean_at : (j : json.Json) → tree.as_bool j ≡ as_bool (data_of j)
boolean_at json.null = refl
boolean_at (json.boolean b) = refl
boolean_at (json.number s) =
    elim (number_of s) as (λ o. None ≡ as_bool (option_map_or number o null))
    [ None ↦ refl | Some n ↦ refl ]
boolean_at (json.string s) = refl
boolean_at (json.array js) = refl
boolean_at (json.object ms) = refl

pub boolean_seen : (value : Value Global) → tree.as_bool (value_view value) ≡ as_bool (seen value)
unfolding seen
boolean_seen value = boolean_at (value_view value)

number_at : (j : json.Json) →
    option_and_then number_of (tree.as_number j) ≡ as_number (data_of j)
number_at json.null = refl
number_at (json.boolean b) = refl
number_at (json.number s) =
    elim (number_of s) as (λ o. o ≡ as_number (option_map_or number o null))
    [ None ↦ refl | Some n ↦ refl ]
number_at (json.string s) = refl
number_at (json.array js) = refl
number_at (json.object ms) = refl

pub number_seen : (value : Value Global) →
    option_and_then number_of (tree.as_number (value_view value)) ≡ as_number (seen value)
unfolding seen
number_seen value = number_at (value_view value)

array_at : (j : json.Json) → option_map items_of (tree.as_array j) ≡ as_array (data_of j)
array_at json.null = refl
array_at (json.boolean b) = refl
array_at (json.number s) =
    elim (number_of s) as (λ o. None ≡ as_array (option_map_or number o null))
    [ None ↦ refl | Some n ↦ refl ]
array_at (json.string s) = refl
array_at (json.array js) = refl
array_at (json.object ms) = refl

pub array_seen : (value : Value Global) →
    option_map items_of (tree.as_array (value_view value)) ≡ as_array (seen value)
unfolding seen
array_seen value = array_at (value_view value)

all_seen : (values : List (Value Global)) → seen_all values ≡ items_of (items_view values)
unfolding seen
all_seen [] = refl
all_seen (value ∷ values) = ap (item (seen value)) (all_seen values)

pub items_seen : (values : Vec (Value Global) Global) →
    Some (seen_all values.items) ≡ as_array (seen (Array values))
unfolding seen
items_seen values =
    ap Some (all_seen values.items) ∙ ap (λ j. as_array (data_of j)) (sym (view-Array values))
