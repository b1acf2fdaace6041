-- The clauses of items as trees are those that the summaries of the items have.
use Rattle.std.proofs.Common.{◌≡◌, ℕ, zero, suc, List, [], ◌∷◌, ◌++◌, length, map, slice_get, Option, Some, None, option_and_then, option_map, refl, ap, sym, ◌∙◌}
use Rattle.std.specs.List.{flat_map}
use Rattle.std.specs.Option.{option_map_or}
use Rattle.std.proofs.lemmas.List.{length-map, map-append}
use Rattle.std.proofs.lemmas.Option.{slice_get-map}
use Rattle.std.proofs.lemmas.Simd.{map-map}
use Rattle.snl_lex.specs.declared.piece.Piece.{Piece}
use Rattle.snl_grammar.specs.declared.tree.item.Item.{Item}
use Rattle.snl_grammar.specs.declared.tree.item.Item.TheVariants as items
use Rattle.snl_grammar.specs.declared.tree.state.StateMember.{StateMember}
use Rattle.snl_grammar.specs.declared.tree.state.StateMember.TheVariants as members
use Rattle.snl_summary.specs.declared.summary.Outline.{Outline}
use Rattle.snl_summary.specs.declared.summary.VariableClause.{VariableClause}
use Rattle.snl_scope.specs.Clauses.{LinkedClause, clauses_before, clauses_of, linked_clause}
use Rattle.snl_summary.specs.Summaries.{outline_in}
use Rattle.snl_summary.specs.Summaries.Clauses as summary
use Rattle.snl_check.specs.Clauses.{clause_in_member, clauses_in_tree, item_clause, item_clauses, item_clauses_before, item_clauses_if, summarized}
use Rattle.snl_item_check.specs.Items.{ProgramItem, outlines_of, tokens_in, tree_in}

members_alike : (text : List ℕ) (tokens : List Piece) (ms : List StateMember) →
    map (summary.clause_of text tokens) (flat_map clause_in_member ms) ≡ flat_map (summary.clauses_of_member text tokens) ms
members_alike text tokens [] = refl
members_alike text tokens (members.Declaration d ∷ ms) = members_alike text tokens ms
members_alike text tokens (members.Foreign names ∷ ms) = members_alike text tokens ms
members_alike text tokens (members.Clause clause ∷ ms) = ap (λ l. summary.clause_of text tokens clause ∷ l) (members_alike text tokens ms)
members_alike text tokens (members.OptionLine line ∷ ms) = members_alike text tokens ms
members_alike text tokens (members.Empty ∷ ms) = members_alike text tokens ms
members_alike text tokens (members.CBlock n ∷ ms) = members_alike text tokens ms
members_alike text tokens (members.Entry block ∷ ms) = members_alike text tokens ms
members_alike text tokens (members.Exit block ∷ ms) = members_alike text tokens ms
members_alike text tokens (members.When t ∷ ms) = members_alike text tokens ms

pub tree_alike : (text : List ℕ) (tokens : List Piece) (tree : Item) → map (summary.clause_of text tokens) (clauses_in_tree tree) ≡ summary.clauses_in_tree text tokens tree
tree_alike text tokens (items.Header name parameters) = refl
tree_alike text tokens (items.Definition d) = refl
tree_alike text tokens (items.Foreign names) = refl
tree_alike text tokens (items.Clause clause) = refl
tree_alike text tokens (items.OptionLine line) = refl
tree_alike text tokens (items.Entry block) = refl
tree_alike text tokens (items.Exit block) = refl
tree_alike text tokens (items.SsBegin name) = refl
tree_alike text tokens items.SsEnd = refl
tree_alike text tokens (items.StateBlock name ms) = members_alike text tokens ms
tree_alike text tokens (items.Function f) = refl
tree_alike text tokens (items.StructDef name ms) = refl
tree_alike text tokens (items.CBlock n) = refl
tree_alike text tokens items.Empty = refl

abbrev placed_at : ℕ → VariableClause → ℕ × VariableClause
placed_at n c = (n, c)

abbrev numbered : LinkedClause → ℕ × VariableClause
numbered c = (c.item, c.clause)

-- the clauses of one tree
tree_same : (text : List ℕ) (tokens : List Piece) (n : ℕ) (tree : Item) →
    map (λ c. (n, summary.clause_of text tokens c)) (clauses_in_tree tree) ≡ map (placed_at n) (summary.clauses_in_tree text tokens tree)
tree_same text tokens n tree = sym (map-map (placed_at n) (summary.clause_of text tokens) (clauses_in_tree tree)) ∙ ap (map (placed_at n)) (tree_alike text tokens tree)

some_same : (text : List ℕ) (xs : List ProgramItem) (ss : List Outline) (n : ℕ) (tokens : List Piece) (tree : Option Item) → tokens_in xs n ≡ tokens →
    map (summarized text xs) (item_clauses_if n tree) ≡ map numbered (map (linked_clause ss n) (summary.clauses_in text tokens tree))
some_same text xs ss n tokens None is = refl
some_same text xs ss n tokens (Some tree) is =
    map-map (summarized text xs) (item_clause n) (clauses_in_tree tree) ∙ ap (λ ts. map (λ c. (n, summary.clause_of text ts c)) (clauses_in_tree tree)) is
    ∙ tree_same text tokens n tree ∙ sym (map-map numbered (linked_clause ss n) (summary.clauses_in_tree text tokens tree))

-- the clauses of the item with a number
item_same : (text : List ℕ) (xs : List ProgramItem) (ss : List Outline) (n : ℕ) (o : Option ProgramItem) → slice_get xs n ≡ o →
    map (summarized text xs) (item_clauses_if n (option_and_then (λ x. x.tree) o))
    ≡ map numbered (option_map_or (λ (s : Outline). map (linked_clause ss n) s.clauses) (option_map (λ (x : ProgramItem). outline_in text x.tokens x.tree) o) [])
item_same text xs ss n None is = refl
item_same text xs ss n (Some x) is = some_same text xs ss n x.tokens x.tree (ap (λ (o : Option ProgramItem). option_map_or (λ y. y.tokens) o []) is)

before_same : (text : List ℕ) (xs : List ProgramItem) (n : ℕ) →
    map (summarized text xs) (item_clauses_before xs n) ≡ map numbered (clauses_before (outlines_of text xs) n)
before_same text xs zero = refl
before_same text xs (suc n) =
    let ss = outlines_of text xs in
    let own = item_clauses_if n (tree_in xs n) in
    let linked : Option Outline → List LinkedClause = λ o. option_map_or (λ (s : Outline). map (linked_clause ss n) s.clauses) o [] in
    map-append (summarized text xs) (item_clauses_before xs n) own ∙ ap (λ l. l ++ map (summarized text xs) own) (before_same text xs n)
    ∙ ap (λ l. map numbered (clauses_before ss n) ++ l)
    (item_same text xs ss n (slice_get xs n) refl ∙ ap (λ o. map numbered (linked o)) (sym (slice_get-map (λ (x : ProgramItem). outline_in text x.tokens x.tree) xs n)))
    ∙ sym (map-append numbered (clauses_before ss n) (linked (slice_get ss n)))

pub clauses_same : (text : List ℕ) (xs : List ProgramItem) → map (summarized text xs) (item_clauses xs) ≡ map numbered (clauses_of (outlines_of text xs))
clauses_same text xs =
    before_same text xs (length xs) ∙ ap (λ n. map numbered (clauses_before (outlines_of text xs) n)) (sym (length-map xs (λ (x : ProgramItem). outline_in text x.tokens x.tree)))
