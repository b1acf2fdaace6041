-- The items of a text, by their numbers: the tokens of each, and its tree.
use Rattle.std.proofs.Common.{◌≡◌, ℕ, zero, suc, ◌+◌, ◌-◌, ◌<◌, ◌≤◌, List, [], ◌∷◌, length, take, drop, map, get_or, slice_get, Option, Some, None, option_and_then, option_map, is_some, true, false, refl, ap, sym, ◌∙◌, arith}
use Rattle.std.specs.List.{zip}
use Rattle.std.specs.Option.{option_or}
use Rattle.snl_facts.specs.Options.{none_or}
use Rattle.snl_cut.specs.Cut.{members}
use Rattle.snl_lex.specs.declared.piece.Piece.{Piece}
use Rattle.snl_grammar.specs.declared.tree.item.Item.{Item}
use Rattle.std.specs.Option.{option_copied}
use Rattle.std.proofs.lemmas.List.{drop_all, length-map}
use Rattle.std.proofs.lemmas.Option.{slice_get-get_or, slice_get-map, slice_get_past, slice_get_read}
use Rattle.snl_summary.specs.declared.summary.ItemKind.{ItemKind}
use Rattle.snl_summary.specs.declared.summary.ItemKind.TheVariants as kinds
use Rattle.snl_summary.specs.Summaries.{kind_of}
use Rattle.snl_check.specs.declared.rows.text_items.TextItems.{TextItems}
use denote.Bor.{Bor}
use Rattle.snl_check.specs.Collected.{AreTextItems, items_in}
use Rattle.snl_item_check.specs.Items.{EndsWithin, ProgramItem, start_of, tokens_in, tree_in}
use Rattle.snl_check.specs.ItemSpans.{header_name, program_name}

abbrev items_from : List Piece → ℕ → List ℕ → List (Option Item) → List ProgramItem
items_from tokens from ends trees = map (λ p. record { tokens = p.0; tree = p.1 }) (zip (members tokens from ends) trees)

start_moves : (from e : ℕ) (ends : List ℕ) (i : ℕ) → start_of from (e ∷ ends) (suc i) ≡ start_of e ends i
start_moves from e ends zero = refl
start_moves from e ends (suc i) = refl

tokens_from : (tokens : List Piece) (from : ℕ) (ends : List ℕ) (trees : List (Option Item)) (i : ℕ) → length trees ≡ length ends → i < length ends →
    tokens_in (items_from tokens from ends trees) i ≡ take (get_or ends i 0 - start_of from ends i) (drop (start_of from ends i) tokens)
tokens_from tokens from [] trees i same lt = absurd (omega arith)
tokens_from tokens from (e ∷ ends) [] i same lt = absurd (omega arith)
tokens_from tokens from (e ∷ ends) (t ∷ trees) zero same lt = refl
tokens_from tokens from (e ∷ ends) (t ∷ trees) (suc i) same lt =
    tokens_from tokens e ends trees i (omega arith) (omega arith) ∙ ap (λ s. take (get_or ends i 0 - s) (drop s tokens)) (sym (start_moves from e ends i))

tokens_past : (tokens : List Piece) (from : ℕ) (ends : List ℕ) (trees : List (Option Item)) (i : ℕ) → length ends ≤ i → tokens_in (items_from tokens from ends trees) i ≡ []
tokens_past tokens from [] trees i past = refl
tokens_past tokens from (e ∷ ends) [] i past = refl
tokens_past tokens from (e ∷ ends) (t ∷ trees) zero past = absurd (omega arith)
tokens_past tokens from (e ∷ ends) (t ∷ trees) (suc i) past = tokens_past tokens e ends trees i (omega arith)

tree_at : (tokens : List Piece) (from : ℕ) (ends : List ℕ) (trees : List (Option Item)) (i : ℕ) → length trees ≡ length ends →
    tree_in (items_from tokens from ends trees) i ≡ option_and_then (λ t. t) (slice_get trees i)
tree_at tokens from [] [] i same = refl
tree_at tokens from [] (t ∷ trees) i same = absurd (omega arith)
tree_at tokens from (e ∷ ends) [] i same = refl
tree_at tokens from (e ∷ ends) (t ∷ trees) zero same = refl
tree_at tokens from (e ∷ ends) (t ∷ trees) (suc i) same = tree_at tokens e ends trees i (omega arith)

count_items : (tokens : List Piece) (from : ℕ) (ends : List ℕ) (trees : List (Option Item)) → length trees ≡ length ends → length (items_from tokens from ends trees) ≡ length trees
count_items tokens from [] [] same = refl
count_items tokens from [] (t ∷ trees) same = absurd (omega arith)
count_items tokens from (e ∷ ends) [] same = refl
count_items tokens from (e ∷ ends) (t ∷ trees) same = ap suc (count_items tokens e ends trees (omega arith))

-- there are as many trees as ends
trees_count : (p : TextItems) → AreTextItems p → length (map option_copied p.trees.now) ≡ length p.ends.now
trees_count p h = simp length-map h.cut.each

-- the tokens of an item are those between its ends, and there are none after the last one
pub own_at : (p : TextItems) (i : ℕ) → AreTextItems p → i < length p.ends.now →
    take (get_or p.ends.now i 0 - start_of 0 p.ends.now i) (drop (start_of 0 p.ends.now i) p.tokens.now) ≡ tokens_in (items_in p) i
own_at p i h lt = sym (tokens_from p.tokens.now 0 p.ends.now (map option_copied p.trees.now) i (trees_count p h) lt)

pub own_past : (p : TextItems) (i : ℕ) → length p.ends.now ≤ i → [] ≡ tokens_in (items_in p) i
own_past p i past = sym (tokens_past p.tokens.now 0 p.ends.now (map option_copied p.trees.now) i past)

pub tree_here : (p : TextItems) (i : ℕ) (t : Option (Bor Item)) → AreTextItems p → i < length p.trees.now → t ≡ get_or p.trees.now i t → option_copied t ≡ tree_in (items_in p) i
tree_here p i t h lt is =
    let trees = p.trees.now in
    sym (tree_at p.tokens.now 0 p.ends.now (map option_copied trees) i (trees_count p h) ∙ ap (option_and_then (λ t. t)) (slice_get-map option_copied trees i ∙ ap (option_map option_copied) (slice_get_read trees (length trees) i t refl lt is)))

pub tree_past : (p : TextItems) (i : ℕ) → AreTextItems p → length p.trees.now ≤ i → None ≡ tree_in (items_in p) i
tree_past p i h past =
    let trees = p.trees.now in
    sym (tree_at p.tokens.now 0 p.ends.now (map option_copied trees) i (trees_count p h) ∙ ap (option_and_then (λ t. t)) (slice_get-map option_copied trees i ∙ ap (option_map option_copied) (slice_get_past trees i past)))

-- what an item is, by its number
by_kind : (o : Option (Option Item)) (kind : ItemKind) → option_map kind_of o ≡ Some kind → kind ≡ kind_of (option_and_then (λ t. t) o)
by_kind None kind h = absurd cc
by_kind (Some tree) kind h = cc

pub kind_here : (p : TextItems) (i : ℕ) → AreTextItems p → i < length p.kinds.now → get_or p.kinds.now i kinds.Faulty ≡ kind_of (tree_in (items_in p) i)
kind_here p i h lt =
    let trees = map option_copied p.trees.now in
    by_kind (slice_get trees i) (get_or p.kinds.now i kinds.Faulty) (sym (slice_get-map kind_of trees i) ∙ ap (λ l. slice_get l i) (sym h.kinds) ∙ slice_get-get_or p.kinds.now i kinds.Faulty lt)
    ∙ ap kind_of (sym (tree_at p.tokens.now 0 p.ends.now trees i (trees_count p h)))

pub kind_past : (p : TextItems) (i : ℕ) → AreTextItems p → length p.kinds.now ≤ i → kinds.Faulty ≡ kind_of (tree_in (items_in p) i)
kind_past p i h past =
    let count : length p.kinds.now ≡ length p.trees.now = ap length h.kinds ∙ simp length-map refl in
    ap kind_of (tree_past p i h (omega (arith, count, past)))

pub count_in : (p : TextItems) → AreTextItems p → length (items_in p) ≡ length p.trees.now
count_in p h = count_items p.tokens.now 0 p.ends.now (map option_copied p.trees.now) (trees_count p h) ∙ simp length-map refl

-- an item begins before it ends, and ends among the tokens
pub ends_at : (from : ℕ) (ends : List ℕ) (to i : ℕ) → EndsWithin from ends to → i < length ends → (start_of from ends i < get_or ends i 0) × (get_or ends i 0 ≤ to)
ends_at from [] to i h lt = absurd (omega arith)
ends_at from (e ∷ ends) to zero h lt = (h.0, h.1)
ends_at from (e ∷ ends) to (suc i) h lt =
    let rest = ends_at e ends to i h.2 (omega arith) in
    (omega (arith, rest.0, start_moves from e ends i), rest.1)

-- the end before an item is before its own
start_is : (ends : List ℕ) (i : ℕ) → 0 < i → start_of 0 ends i ≡ get_or ends (i - 1) 0
start_is ends zero some = absurd (omega arith)
start_is ends (suc i) some =
    let same : i ≡ suc i - 1 = omega arith in
    ap (λ n. get_or ends n 0) same

pub end_before : (p : TextItems) (i : ℕ) → AreTextItems p → 0 < i → i < length p.ends.now → get_or p.ends.now (i - 1) 0 ≤ get_or p.ends.now i 0
end_before p i h some lt = omega (arith, start_is p.ends.now i some, (ends_at 0 p.ends.now (length p.tokens.now) i h.cut.within lt).0)

pub end_within : (p : TextItems) (i : ℕ) → AreTextItems p → i < length p.ends.now → get_or p.ends.now i 0 ≤ length p.tokens.now
end_within p i h lt = (ends_at 0 p.ends.now (length p.tokens.now) i h.cut.within lt).1

-- the first name among the rest of the items
rest_of : (xs : List ProgramItem) (i : ℕ) → i < length xs → program_name (drop i xs) ≡ option_or (option_and_then header_name (slice_get xs i)) (program_name (drop (i + 1) xs))
rest_of [] i lt = absurd (omega arith)
rest_of (x ∷ xs) zero lt = refl
rest_of (x ∷ xs) (suc i) lt =
    let same : suc (i + 1) ≡ suc i + 1 = omega arith in
    rest_of xs i (omega arith) ∙ ap (λ n. option_or (option_and_then header_name (slice_get xs i)) (program_name (drop n (x ∷ xs)))) same

some_first : {X : Type 0} (a b : Option X) → is_some a ≡ true → a ≡ option_or a b
some_first None b h = absurd cc
some_first (Some x) b h = refl

-- a header names the program, if no item before it does
pub name_at : (xs : List ProgramItem) (i : ℕ) → i < length xs → is_some (option_and_then header_name (slice_get xs i)) ≡ true →
    option_and_then header_name (slice_get xs i) ≡ program_name (drop i xs)
name_at xs i lt h = some_first (option_and_then header_name (slice_get xs i)) (program_name (drop (i + 1) xs)) h ∙ sym (rest_of xs i lt)

-- any other item does not
pub name_step : (xs : List ProgramItem) (i : ℕ) → i < length xs → is_some (option_and_then header_name (slice_get xs i)) ≡ false →
    program_name (drop i xs) ≡ program_name (drop (i + 1) xs)
name_step xs i lt h = rest_of xs i lt ∙ none_or (option_and_then header_name (slice_get xs i)) (program_name (drop (i + 1) xs)) h

pub no_name : (xs : List ProgramItem) (i : ℕ) → length xs ≤ i → program_name (drop i xs) ≡ None
no_name xs i past = ap program_name (drop_all i xs past)
