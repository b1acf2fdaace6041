-- The mentions of a text: all its tokens that mean something, each with the place of what it means;
-- and the references of a name, which are the mentions of what it means. A place is an item and a
-- token of it, so no offset is in it.
use Rattle.std.specs.Prelude.{ℕ, zero, suc, ◌-◌, ◌==◌, ◌&&◌, Bool, true, false, List, [], ◌++◌, length, Option, Some, None, slice_get, option_and_then, option_map, option_to_list, if◌then◌else◌}
use Rattle.std.specs.List.{filter_map}
use Rattle.std.specs.Option.{option_map_or, option_or}
use Rattle.snl_lex.specs.declared.piece.Piece.{Piece}
use Rattle.snl_grammar.specs.declared.tree.item.Item.{Item}
use Rattle.snl_grammar.specs.declared.tree.item.Item.TheVariants as items
use Rattle.snl_grammar.specs.declared.tree.statement.Member.{Member}
use Rattle.snl_walk.specs.Tokens.{token_bytes}
use Rattle.snl_summary.specs.declared.summary.Outline.{Outline}
use Rattle.snl_summary.specs.declared.summary.SymbolKind.{SymbolKind}
use Rattle.snl_summary.specs.declared.summary.SymbolKind.TheVariants as symbol_kind
use Rattle.snl_summary.specs.Summaries.{outline_in}
use Rattle.snl_scope.specs.declared.facts.Declaration.{Declaration}
use Rattle.snl_scope.specs.Clauses.{resolve_in}
use Rattle.snl_scope.specs.Linked.{declaration_at}
use Rattle.snl_tables.specs.declared.rows.Span.{Span}
use Rattle.snl_kept.specs.Checks.{outlines_in}
use Rattle.snl_kept.specs.Program.{item_tokens, tree_in}
use Rattle.snl_questions.specs.declared.meanings.items.TokenPlace.{TokenPlace}
use Rattle.snl_questions.specs.declared.mentions.mention.Mention.{Mention}
use Rattle.snl_questions.specs.declared.mentions.mention.Reference.{Reference}
use Rattle.snl_questions.specs.Items.{span_at}
use Rattle.snl_questions.specs.Meanings.{meant_in, place_from, place_of}

-- ---- prototypes

-- The token of a function's name, where the function has no body.
abbrev pub name_without_body : ℕ → Option (List Member) → Option ℕ
name_without_body name None = Some name
name_without_body name (Some block) = None

abbrev pub prototype_in : Item → Option ℕ
prototype_in (items.Function f) = name_without_body f.name f.body
prototype_in _ = None

-- The token of a prototype's name, where the item is a prototype.
abbrev pub prototype_of : Option Item → Option ℕ
prototype_of tree = option_and_then prototype_in tree

abbrev pub is_function : SymbolKind → Bool
is_function symbol_kind.Function = true
is_function _ = false

abbrev pub place_of_function : Declaration → Option TokenPlace
place_of_function d = if is_function d.variable.symbol_kind then Some (place_of d) else None

-- The function with a body that a name outside the blocks of item i means.
abbrev pub function_named : List Outline → ℕ → List ℕ → Option TokenPlace
function_named ss i name = option_and_then place_of_function
    (option_and_then (declaration_at ss) (resolve_in ss i name))

-- A prototype declares nothing. Its name, which has these bytes, means that function.
abbrev pub meant_by_prototype : List Outline → ℕ → List ℕ → Option ℕ → ℕ → Option TokenPlace
meant_by_prototype ss i name prototype n = option_and_then
    (λ at. if at == n then function_named ss i name else None) prototype

-- ---- mentions

-- What token n of item i mentions, of which these are the bytes of the tokens, the tree and the
-- outline.
unfoldable pub mentioned_in : List Outline → ℕ → (ℕ → List ℕ) → Option Item → Outline → ℕ →
    Option TokenPlace
mentioned_in ss i bytes tree s n = option_or (meant_in ss i bytes tree s n)
    (meant_by_prototype ss i (bytes n) (prototype_of tree) n)

-- The same of an item that consists of these tokens of a text.
abbrev pub mentioned_by_tokens : List ℕ → ℕ → List Piece → ℕ → Option TokenPlace
mentioned_by_tokens text i x n = mentioned_in (outlines_in text) i (token_bytes text x)
    (tree_in text x) (outline_in text x (tree_in text x)) n

-- What a token of a text mentions.
abbrev pub mentioned_at : List ℕ → TokenPlace → Option TokenPlace
mentioned_at text p = option_and_then (λ x. mentioned_by_tokens text p.item x p.token)
    (slice_get (item_tokens text) p.item)

abbrev pub mention_by : ℕ → ℕ → TokenPlace → Mention
mention_by i n q = record { at = record { item = i; token = n }; means = q }

-- The mentions at the first so many tokens of item i, by what each token mentions.
abbrev pub mentions_before : ℕ → (ℕ → Option TokenPlace) → ℕ → List Mention
mentions_before i means zero = []
mentions_before i means (suc n) = mentions_before i means n
    ++ option_to_list (option_map (mention_by i n) (means n))

abbrev pub mentions_by_tokens : List ℕ → ℕ → List Piece → List Mention
mentions_by_tokens text i x = mentions_before i (mentioned_by_tokens text i x) (length x)

abbrev pub mentions_at : List ℕ → ℕ → List Mention
mentions_at text i = option_map_or (mentions_by_tokens text i) (slice_get (item_tokens text) i) []

-- The mentions in the first so many items.
abbrev pub mentions_among : List ℕ → ℕ → List Mention
mentions_among text zero = []
mentions_among text (suc i) = mentions_among text i ++ mentions_at text i

-- The mentions of a text, in its order.
unfoldable pub mentions_in : List ℕ → List Mention
mentions_in text = mentions_among text (length (item_tokens text))

-- ---- references

-- What the name mentions that has the byte at an offset.
unfoldable pub mentioned_of : List ℕ → ℕ → Option TokenPlace
mentioned_of text offset = option_and_then (mentioned_at text)
    (place_from offset 0 (item_tokens text))

-- The same of the byte before an offset.
abbrev pub mentioned_before : List ℕ → ℕ → Option TokenPlace
mentioned_before text offset = if offset == 0 then None else mentioned_of text (offset - 1)

-- The cursor's rule, as for what a name means: a cursor right after the last letter of a word is on
-- that word, unless what is at the cursor mentions something.
unfoldable pub mentioned_near : List ℕ → ℕ → Option TokenPlace
mentioned_near text offset = option_or (mentioned_of text offset) (mentioned_before text offset)

abbrev pub same_place : TokenPlace → TokenPlace → Bool
same_place p q = p.item == q.item && p.token == q.token

abbrev pub reference_by : Mention → Span → Reference
reference_by m s = record { span = s; is_declaration = same_place m.at m.means }

-- A mention, by its span among tokens item by item.
abbrev pub reference_at : List (List Piece) → Mention → Option Reference
reference_at xs m = option_map (reference_by m) (span_at xs m.at.item m.at.token)

-- The same, where it means what is at place q.
abbrev pub reference_to : List (List Piece) → TokenPlace → Mention → Option Reference
reference_to xs q m = if same_place m.means q then reference_at xs m else None

-- The references of what is at a place: the mentions that mean it.
abbrev pub references_of : List ℕ → TokenPlace → List Reference
references_of text q = filter_map (reference_to (item_tokens text) q) (mentions_in text)

-- The references of the name near an offset, in the order of the text.
unfoldable pub references_near : List ℕ → ℕ → List Reference
references_near text offset = option_map_or (references_of text) (mentioned_near text offset) []
