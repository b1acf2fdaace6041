-- The place that a diagnostic of a text is related to.
use Rattle.std.specs.Prelude.{ℕ, zero, suc, ◌==◌, ◌&&◌, Bool, true, false, List, bytes_eq, codes, find, length, slice_get, Option, None, Some, option_and_then, option_map, if◌then◌else◌}
use Rattle.std.specs.Option.{option_map_or, option_or}
use Rattle.snl_codes.specs.declared.code.Code.{Code}
use Rattle.snl_codes.specs.declared.code.Code.TheVariants.{E04, E07, E08, E09, E10, E11, E12, E13, E14, E15, E16, E20, E21, E22, W01, W05}
use Rattle.snl_summary.specs.declared.summary.ItemKind.{ItemKind}
use Rattle.snl_summary.specs.declared.summary.ItemKind.TheVariants.{SsEnd}
use Rattle.snl_summary.specs.declared.summary.Outline.{Outline}
use Rattle.snl_scope.specs.declared.facts.ClauseLink.{ClauseLink}
use Rattle.snl_scope.specs.Clauses.{clause_links, overlaps, same_kind, same_number}
use Rattle.snl_scope.specs.Linked.{state_of}
use Rattle.snl_scope.specs.LinkedItems.{LinkedItems}
use Rattle.snl_scope.specs.Places.{is_set_begin}
use Rattle.snl_tables.specs.declared.rows.Span.{Span}
use Rattle.snl_kept.specs.declared.found.findings.Diagnostic.{Diagnostic}
use Rattle.snl_kept.specs.Checks.{links_in}
use Rattle.snl_kept.specs.Program.{item_tokens}
use Rattle.snl_questions.specs.declared.meanings.items.TokenPlace.{TokenPlace}
use Rattle.snl_questions.specs.Items.{span_at}
use Rattle.snl_questions.specs.Meanings.{meaning_of, place_from, span_bytes}
use Rattle.snl_related.specs.declared.nearest.Nearest.{Nearest}
use Rattle.snl_related.specs.declared.nearest.Wanted.{Wanted}
use Rattle.snl_related.specs.declared.nearest.Wanted.TheVariants as wanted
use Rattle.snl_related.specs.declared.related.Related.{Related}
use Rattle.snl_related.specs.declared.related.RelatedKind.{RelatedKind}
use Rattle.snl_related.specs.declared.related.RelatedKind.TheVariants.{FirstDeclared, FirstNamed, Declared, Assigned, Monitored, Synced, SetEnded, Near}
use Rattle.snl_related.specs.Near.{is_measured, nearest_declaration, nearest_state}

-- What is said of the place to a user.
abbrev pub words_of : RelatedKind → List ℕ
words_of FirstDeclared = codes "first declared here"
words_of FirstNamed = codes "the first one is here"
words_of Declared = codes "declared here"
words_of Assigned = codes "assigned here"
words_of Monitored = codes "monitored here"
words_of Synced = codes "synced here"
words_of SetEnded = codes "the state set ended here"
words_of Near = codes "a near name"

abbrev pub related : RelatedKind → Span → Related
related kind span = record { kind = kind; span = span }

-- The place of a token of a text.
abbrev pub related_at : List ℕ → RelatedKind → TokenPlace → Option Related
related_at text kind p = option_map (related kind) (span_at (item_tokens text) p.item p.token)

-- ---- declarations

-- Where the name at an offset is declared.
abbrev pub declaration_related : List ℕ → RelatedKind → (offset : ℕ) → Option Related
declaration_related text kind offset = option_map (λ m. related kind m.declared) (meaning_of text offset)

-- ---- state sets and states

abbrev pub is_called : List ℕ → List ℕ → Option Span → Bool
is_called text name None = false
is_called text name (Some span) = bytes_eq (span_bytes text span) name

-- Item j, where it begins a state set of the name.
abbrev pub set_called : List ℕ → List Outline → List ℕ → (j : ℕ) → Option ℕ
set_called text ss name j =
    if is_set_begin ss j && is_called text name (span_at (item_tokens text) j 1) then Some j else None

-- The first of them among the first so many items.
abbrev pub first_set : List ℕ → List Outline → List ℕ → ℕ → Option ℕ
first_set text ss name zero = None
first_set text ss name (suc n) = option_or (first_set text ss name n) (set_called text ss name n)

abbrev pub name_of : ℕ → TokenPlace
name_of j = record { item = j; token = 1 }

abbrev pub set_related : List ℕ → List Outline → List ℕ → Option Related
set_related text ss name = option_and_then (λ j. related_at text FirstNamed (name_of j))
    (first_set text ss name (length ss))

abbrev pub state_related : List ℕ → List Outline → (i : ℕ) → List ℕ → Option Related
state_related text ss i name = option_and_then (λ j. related_at text FirstNamed (name_of j))
    (state_of ss i name)

-- ---- the braces of state sets

abbrev pub is_end : ItemKind → Bool
is_end SsEnd = true
is_end _ = false

abbrev pub ends_at : List ItemKind → (j : ℕ) → Bool
ends_at ks j = option_map_or is_end (slice_get ks j) false

abbrev pub end_at : List ItemKind → (j : ℕ) → Option ℕ
end_at ks j = if ends_at ks j then Some j else None

-- The last `}` item among the first so many.
abbrev pub last_end : List ItemKind → ℕ → Option ℕ
last_end ks zero = None
last_end ks (suc n) = option_or (end_at ks n) (last_end ks n)

abbrev pub first_of : ℕ → TokenPlace
first_of j = record { item = j; token = 0 }

-- Of a `}` that closes no state set: where the last one was closed.
abbrev pub end_related : List ℕ → List ItemKind → (i : ℕ) → Option Related
end_related text ks i =
    if ends_at ks i
    then option_and_then (λ j. related_at text SetEnded (first_of j)) (last_end ks i)
    else None

-- ---- clauses

abbrev pub is_clause_at : TokenPlace → ClauseLink → Bool
is_clause_at p c = (c.item == p.item) && (c.token == p.token)

-- A sound clause speaks of the same as another one.
abbrev pub clashes : ClauseLink → ClauseLink → Bool
clashes c d =
    d.is_sound
    && (same_kind c.kind d.kind && (same_number c.variable d.variable && overlaps c.coverage d.coverage))

abbrev pub earlier_clause : List ClauseLink → TokenPlace → Option ClauseLink
earlier_clause cs p = option_and_then (λ c. find (clashes c) cs) (find (is_clause_at p) cs)

abbrev pub place_of_clause : ClauseLink → TokenPlace
place_of_clause c = record { item = c.item; token = c.token }

abbrev pub clause_related : List ℕ → List Outline → RelatedKind → TokenPlace → Option Related
clause_related text ss kind p = option_and_then (λ c. related_at text kind (place_of_clause c))
    (earlier_clause (clause_links ss) p)

-- ---- near names

abbrev pub near_related : Option Nearest → Option Related
near_related found = option_map (λ best. related Near best.span) found

abbrev pub near_state_related : List ℕ → List Outline → (i : ℕ) → List ℕ → Option Related
near_state_related text ss i name =
    if is_measured name then near_related (nearest_state text ss i name) else None

abbrev pub near_name_related : List ℕ → List Outline → (i : ℕ) → Wanted → List ℕ → Option Related
near_name_related text ss i wanted name =
    if is_measured name then near_related (nearest_declaration text ss i wanted name) else None

-- ---- all

-- The bytes that a diagnostic quotes.
abbrev pub quoted_of : List ℕ → Diagnostic → List ℕ
quoted_of text d = span_bytes text (record { start = d.offset; len = d.subject })

-- What no event flag is: where it is declared, or else the nearest flag.
abbrev pub flag_related : List ℕ → List Outline → Diagnostic → (i : ℕ) → Option Related
flag_related text ss d i = option_or (declaration_related text Declared d.offset)
    (near_name_related text ss i wanted.EventFlag (quoted_of text d))

-- The place that a diagnostic at a token is related to.
abbrev pub related_by_code : Code → List ℕ → LinkedItems → Diagnostic → TokenPlace → Option Related
related_by_code E04 text l d p = end_related text l.kinds p.item
related_by_code E07 text l d p = declaration_related text FirstDeclared d.offset
related_by_code E08 text l d p = set_related text l.outlines (quoted_of text d)
related_by_code E09 text l d p = state_related text l.outlines p.item (quoted_of text d)
related_by_code E10 text l d p = near_state_related text l.outlines p.item (quoted_of text d)
related_by_code E11 text l d p = near_name_related text l.outlines p.item wanted.Any (quoted_of text d)
related_by_code E12 text l d p = clause_related text l.outlines Assigned p
related_by_code E13 text l d p = declaration_related text Declared d.offset
related_by_code E14 text l d p = flag_related text l.outlines d p.item
related_by_code E15 text l d p = declaration_related text Declared d.offset
related_by_code E16 text l d p = declaration_related text Declared d.offset
related_by_code E20 text l d p = flag_related text l.outlines d p.item
related_by_code E21 text l d p = declaration_related text Declared d.offset
related_by_code E22 text l d p = clause_related text l.outlines Synced p
related_by_code W01 text l d p = near_name_related text l.outlines p.item wanted.Any (quoted_of text d)
related_by_code W05 text l d p = clause_related text l.outlines Monitored p
related_by_code _ text l d p = None

-- No diagnostic is related to its own place.
abbrev pub elsewhere : (offset : ℕ) → Related → Option Related
elsewhere offset related = if related.span.start == offset then None else Some related

-- The place that a diagnostic of a text is related to, if there is one.
unfoldable pub related_to : List ℕ → Diagnostic → Option Related
related_to text d = option_and_then (elsewhere d.offset)
    (option_and_then (related_by_code d.code text (links_in text) d)
    (place_from d.offset 0 (item_tokens text)))
