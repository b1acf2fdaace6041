-- What the name at a place of a text means: the token that it names.
use Rattle.std.specs.Prelude.{ℕ, ◌+◌, ◌-◌, ◌==◌, ◌&&◌, ◌||◌, Bool, false, List, [], ◌∷◌, take, drop, Option, Some, None, find, position, slice_get, option_and_then, option_map, if◌then◌else◌}
use Rattle.std.specs.List.{list_any}
use Rattle.std.specs.Option.{option_or}
use Rattle.snl_lex.specs.declared.piece.Piece.{Piece}
use Rattle.snl_grammar.specs.declared.tree.item.Item.{Item}
use Rattle.snl_walk.specs.declared.occurrence.Local.{Local}
use Rattle.snl_walk.specs.declared.occurrence.Occurrence.{Occurrence}
use Rattle.snl_walk.specs.declared.occurrence.What.{What}
use Rattle.snl_walk.specs.declared.occurrence.What.TheVariants as what
use Rattle.snl_walk.specs.Tokens.{token_bytes}
use Rattle.snl_scope.specs.declared.facts.Declaration.{Declaration}
use Rattle.snl_summary.specs.declared.summary.NameRef.{NameRef}
use Rattle.snl_summary.specs.declared.summary.Outline.{Outline}
use Rattle.snl_summary.specs.declared.summary.VariableClause.{VariableClause}
use Rattle.snl_scope.specs.Clauses.{resolve_in}
use Rattle.snl_scope.specs.Linked.{declaration_at, state_of}
use Rattle.snl_scope.specs.Order.{is_named_state}
use Rattle.snl_scope.specs.Places.{is_set_begin}
use Rattle.snl_summary.specs.Summaries.{occurrences_in, outline_in}
use Rattle.snl_tables.specs.declared.rows.Span.{Span}
use Rattle.snl_kept.specs.Checks.{outlines_in}
use Rattle.snl_kept.specs.Program.{item_tokens, tree_in}
use Rattle.snl_questions.specs.Tokens.{has_byte}
use Rattle.snl_questions.specs.Items.{span_at}
use Rattle.snl_questions.specs.declared.meanings.items.TokenPlace.{TokenPlace}
use Rattle.snl_questions.specs.declared.meanings.near.Meaning.{Meaning}

-- A place that is known by the number of its token, in an item with a number.
abbrev pub place_by : ℕ → Option ℕ → Option TokenPlace → Option TokenPlace
place_by i (Some n) rest = Some (record { item = i; token = n })
place_by i None rest = rest

-- The first item, and its first token, that has the byte at an offset. The items are given by their
-- tokens, and the first one has a number.
abbrev pub place_from : ℕ → ℕ → List (List Piece) → Option TokenPlace
place_from offset i [] = None
place_from offset i (x ∷ xs) = place_by i (position (has_byte offset) x)
    (place_from offset (i + 1) xs)

-- The name of a state set and of a state is the second token of its item.
abbrev pub name_of_item : ℕ → TokenPlace
name_of_item i = record { item = i; token = 1 }

abbrev pub place_of : Declaration → TokenPlace
place_of d = record { item = d.item; token = d.token }

-- The first state with a name in the state set in which item i is.
abbrev pub state_named : List Outline → ℕ → List ℕ → Option TokenPlace
state_named ss i name = option_map name_of_item (state_of ss i name)

-- The declaration that a name outside the blocks of item i means.
abbrev pub declaration_named : List Outline → ℕ → List ℕ → Option TokenPlace
declaration_named ss i name = option_map place_of
    (option_and_then (declaration_at ss) (resolve_in ss i name))

-- The token is the name of the item: it means itself.
abbrev pub is_name_of : List Outline → ℕ → ℕ → Bool
is_name_of ss i n = if n == 1 then is_set_begin ss i || is_named_state ss i else false

abbrev pub meant_as_own_name : List Outline → ℕ → ℕ → Option TokenPlace
meant_as_own_name ss i n = if is_name_of ss i n then Some (record { item = i; token = n }) else None

-- What a name means that is no local one, by what is at its token. What an item declares for the
-- others is in its outline; the name of a struct's member is in no scope.
abbrev pub meant_outside : List Outline → ℕ → List ℕ → What → Option TokenPlace
meant_outside ss i name what.Target = state_named ss i name
meant_outside ss i name (what.Name manner) = declaration_named ss i name
meant_outside ss i name (what.Declaration is_wrong) = None
meant_outside ss i name (what.Jump in_loop) = None
meant_outside ss i name (what.Change in_transition) = None

-- What a name means, by the declaration of the item itself that it resolves to.
abbrev pub meant_by_local : List Outline → ℕ → List ℕ → What → Option Local → Option TokenPlace
meant_by_local ss i name at (Some local) = Some (record { item = i; token = local.token })
meant_by_local ss i name at None = meant_outside ss i name at

-- What an occurrence means of which these are the bytes.
abbrev pub meant_by_occurrence : List Outline → ℕ → List ℕ → Occurrence → Option TokenPlace
meant_by_occurrence ss i name o = meant_by_local ss i name o.what o.means

-- The occurrence at a token, and what it means.
abbrev pub occurrence_at : List Occurrence → ℕ → Option Occurrence
occurrence_at found n = find (λ o. o.token == n) found

abbrev pub meant_inside : List Outline → ℕ → List ℕ → List Occurrence → ℕ → Option TokenPlace
meant_inside ss i name found n = option_and_then (meant_by_occurrence ss i name)
    (occurrence_at found n)

-- A clause has the name of its variable or of its flag at a token.
abbrev pub is_flag_at : ℕ → Option NameRef → Bool
is_flag_at n None = false
is_flag_at n (Some flag) = flag.token == n

abbrev pub clause_names : ℕ → VariableClause → Bool
clause_names n c = c.variable.token == n || is_flag_at n c.flag

-- An item declares a name at a token, or a clause of it has a name there.
abbrev pub declares_at : Outline → ℕ → Bool
declares_at s n = list_any (λ d. d.token == n) s.declares

abbrev pub clauses_name : Outline → ℕ → Bool
clauses_name s n = list_any (clause_names n) s.clauses

abbrev pub outline_names : Outline → ℕ → Bool
outline_names s n = declares_at s n || clauses_name s n

abbrev pub meant_by_outline : List Outline → ℕ → List ℕ → Outline → ℕ → Option TokenPlace
meant_by_outline ss i name s n = if outline_names s n then declaration_named ss i name else None

-- What token n of item i means, of which these are the bytes of the tokens, the tree and the
-- outline: the first that there is. In an item without a tree nothing occurs.
abbrev pub meant_in : List Outline → ℕ → (ℕ → List ℕ) → Option Item → Outline → ℕ →
    Option TokenPlace
meant_in ss i bytes tree s n =
    option_or (meant_as_own_name ss i n)
    (option_or (meant_inside ss i (bytes n) (occurrences_in bytes tree) n)
    (meant_by_outline ss i (bytes n) s n))

-- The same of an item that consists of these tokens of a text.
abbrev pub meant_by_tokens : List ℕ → ℕ → ℕ → List Piece → Option TokenPlace
meant_by_tokens text i n x = meant_in (outlines_in text) i (token_bytes text x) (tree_in text x)
    (outline_in text x (tree_in text x)) n

-- What a token of a text means.
abbrev pub meant_at : List ℕ → TokenPlace → Option TokenPlace
meant_at text p = option_and_then (meant_by_tokens text p.item p.token)
    (slice_get (item_tokens text) p.item)

-- The bytes of a span.
abbrev pub span_bytes : List ℕ → Span → List ℕ
span_bytes text s = take s.len (drop s.start text)

-- The number of the declaration whose name is token n of item i and has these bytes. What a block
-- declares has none, nor has the name of a state set or of a state.
abbrev pub is_declared_at : ℕ → ℕ → Declaration → Bool
is_declared_at i n d = d.item == i && d.token == n

abbrev pub number_if_at : ℕ → ℕ → (number : ℕ) → Declaration → Option ℕ
number_if_at i n number d = if is_declared_at i n d then Some number else None

abbrev pub number_at : List Outline → ℕ → ℕ → List ℕ → Option ℕ
number_at ss i n name = option_and_then
    (λ number. option_and_then (number_if_at i n number) (declaration_at ss number))
    (resolve_in ss i name)

-- A name and the one that it means, which is at place q, both by their spans; and the number of the
-- declaration there.
abbrev pub meaning_by : List ℕ → (q : TokenPlace) → Option Span → Option Span → Option Meaning
meaning_by text q (Some name) (Some declared) = Some (record {
  name = name;
  declared = declared;
  number = number_at (outlines_in text) q.item q.token (span_bytes text declared);
})
meaning_by text q _ _ = None

abbrev pub meaning_between : List ℕ → TokenPlace → TokenPlace → Option Meaning
meaning_between text p q = meaning_by text q (span_at (item_tokens text) p.item p.token)
    (span_at (item_tokens text) q.item q.token)

abbrev pub meaning_from : List ℕ → TokenPlace → Option Meaning
meaning_from text p = option_and_then (meaning_between text p) (meant_at text p)

-- What the name means that has the byte at an offset of a text, if there is one and it means
-- something.
unfoldable pub meaning_of : List ℕ → ℕ → Option Meaning
meaning_of text offset = option_and_then (meaning_from text)
    (place_from offset 0 (item_tokens text))

-- The same of the byte before an offset.
abbrev pub meaning_before : List ℕ → ℕ → Option Meaning
meaning_before text offset = if offset == 0 then None else meaning_of text (offset - 1)

-- The cursor's rule: a cursor right after the last letter of a word is on that word, unless what is
-- at the cursor means something.
unfoldable pub meaning_near : List ℕ → ℕ → Option Meaning
meaning_near text offset = option_or (meaning_of text offset) (meaning_before text offset)
