-- Items along the ends of their tokens, each with its tree.
use Rattle.std.proofs.Common.{arith, ◌≡◌, ℕ, suc, ◌+◌, ◌-◌, ◌<◌, List, [], ◌∷◌, ◌++◌, All, length, take, drop, get_or, map, Option, refl, ap, sym, subst, ◌∙◌, append_assoc, length-drop, add-one, drop-cons}
use Rattle.std.specs.List.{zip}
use Rattle.std.proofs.lemmas.List.{map-append, drop_more}
use Rattle.std.proofs.lemmas.List.Elements.{All-filter}
use Rattle.snl_cut.specs.Cut.{IsFront, Walks, members}
use Rattle.snl_lex.specs.declared.piece.Piece.{Piece}
use Rattle.snl_lex.specs.Pieces.{LiesIn, is_token, pieces_of, tokens_of}
use Rattle.snl_grammar.specs.declared.tree.item.Item.{Item}
use Rattle.snl_item_check.specs.Items.{EndsWithin, ProgramItem, program_items}
use Rattle.snl_reading.specs.declared.items.ReadItem.{ReadItem}
use Rattle.snl_reading.specs.ItemsRead.{AreItems, item_read, items_read, trees_of_items}
use Rattle.snl_facts.specs.Lists.{some_left}

-- an item of tokens from one number up to another
abbrev pub item_between : List Piece → ℕ → ℕ → Option Item → ProgramItem
item_between tokens start stop tree = record { tokens = take (stop - start) (drop start tokens); tree = tree }

-- the items from a token on
abbrev pub items_from : List Piece → ℕ → List ℕ → List (Option Item) → List ProgramItem
items_from tokens from ends trees = map (λ p. record { tokens = p.0; tree = p.1 }) (zip (members tokens from ends) trees)

-- one more item
pub one_more : (tokens : List Piece) (start stop : ℕ) (es : List ℕ) (t : Option Item) (ts : List (Option Item)) (done now : List ReadItem) (item : ReadItem) (all : List ProgramItem)
    → now ≡ done ++ item ∷ [] → item_read item ≡ item_between tokens start stop t
    → items_read done ++ items_from tokens start (stop ∷ es) (t ∷ ts) ≡ all
    → items_read now ++ items_from tokens stop es ts ≡ all
one_more tokens start stop es t ts done now item all more is before =
    let rest = items_from tokens stop es ts in
    ap (λ l. items_read l ++ rest) more
    ∙ ap (λ l. l ++ rest) (map-append item_read done (item ∷ []))
    ∙ append_assoc (items_read done) (item_read item ∷ []) rest
    ∙ ap (λ x. items_read done ++ x ∷ rest) is
    ∙ before

-- there are as many items as ends
count_along : (tokens : List Piece) (from : ℕ) (ends : List ℕ) (trees : List (Option Item)) → length trees ≡ length ends → length (items_from tokens from ends trees) ≡ length ends
count_along tokens from [] trees same = refl
count_along tokens from (e ∷ es) [] same = absurd (omega arith)
count_along tokens from (e ∷ es) (t ∷ ts) same = ap suc (count_along tokens e es ts (omega arith))

-- each has its tree
trees_along : (tokens : List Piece) (from : ℕ) (ends : List ℕ) (trees : List (Option Item)) → length trees ≡ length ends → trees_of_items (items_from tokens from ends trees) ≡ trees
trees_along tokens from [] [] same = refl
trees_along tokens from [] (t ∷ ts) same = absurd (omega arith)
trees_along tokens from (e ∷ es) [] same = absurd (omega arith)
trees_along tokens from (e ∷ es) (t ∷ ts) same = ap (λ l. t ∷ l) (trees_along tokens e es ts (omega arith))

-- they are those of the text that has these tokens
pub are_items : (text : List ℕ) (tokens : List Piece) (ends : List ℕ) (trees : List (Option Item)) (xs : List ProgramItem)
    → All (LiesIn text) (pieces_of text) → tokens ≡ tokens_of text → EndsWithin 0 ends (length tokens) → length trees ≡ length ends
    → xs ≡ program_items tokens ends trees → AreItems text ends xs
are_items text tokens ends trees xs inside is within each along = record {
  cut = record {
    source = λ k d below. (All-filter is_token (LiesIn text) (pieces_of text) inside k d below).1;
    within = subst (λ ts. EndsWithin 0 ends (length ts)) is within;
    each = ap length along ∙ count_along tokens 0 ends trees each;
  };
  along =
      ap (λ ts. program_items ts ends (trees_of_items xs)) (sym is)
      ∙ ap (program_items tokens ends) (ap trees_of_items along ∙ trees_along tokens 0 ends trees each)
      ∙ sym along;
}

pub ends_within : {X : Type 0} (first : List X → ℕ) → IsFront first → (units : List X) (from : ℕ) (ends : List ℕ) (to : ℕ) → Walks first units from ends to → EndsWithin from ends (length units)
ends_within first front units from [] to walks = tt
ends_within first front units from (e ∷ es) to walks =
    let bounds = front (drop from units) (some_left units from walks.0) in
    let long : length (drop from units) ≡ length units - from = length-drop from units in
    let within : from < length units = walks.0 in
    let is : e ≡ from + first (drop from units) = walks.1 in
    (omega (arith, bounds.0), omega (arith, bounds.1), ends_within first front units e es to walks.2)
