-- What the parser makes of an item goes by its tokens as they are spelled.
use Rattle.std.proofs.Common.{◌≡◌, ℕ, ◌<◌, Bool, cond, List, [], ◌∷◌, length, map, position, Option, Some, None, is_some, refl, sym, ap, ap₂, subst, ◌∙◌}
use Rattle.std.specs.List.{list_any}
use Rattle.std.proofs.lemmas.List.{length-map}
use Rattle.std.proofs.lemmas.List.Quantifiers.{position-Some}
use Rattle.snl_facts.specs.Positions.{any_position, position_map}
use Rattle.snl_lex.specs.declared.piece.Piece.{Piece}
use Rattle.snl_lex.specs.PieceList.{spelled, spelling}
use Rattle.snl_lex.specs.declared.kind.Kind.{Kind}
use Rattle.snl_grammar.specs.declared.tree.item.Item.{Item}
use Rattle.snl_grammar.specs.Outcome.{BlamesWithin, is_bad_by, kind_by, outcome_by_tree, outcome_of, parsed_by, parsed_in, sound_tree}
use Rattle.snl_grammar.specs.Parsing.{is_bad, kinds_in}
use Rattle.snl_grammar.specs.Reading.Items.{fault_of, item_of}
use Rattle.snl_grammar.proofs.Faults.{fault_at}
use Rattle.snl_grammar.specs.KindLaws.{some_kinds}

-- ---- by the spelling

pub kinds_spelled : (text : List ℕ) (tokens : List Piece) → kinds_in text tokens ≡ map kind_by (spelled text tokens)
kinds_spelled text [] = refl
kinds_spelled text (p ∷ ps) = ap (λ (l : List Kind). kind_by (spelling text p) ∷ l) (kinds_spelled text ps)

pub bad_spelled : (text : List ℕ) (tokens : List Piece) → position is_bad tokens ≡ position is_bad_by (spelled text tokens)
bad_spelled text tokens = position_map is_bad_by (spelling text) tokens

pub parsed_spelled : (text : List ℕ) (tokens : List Piece) → parsed_in text tokens ≡ parsed_by (spelled text tokens)
parsed_spelled text tokens = ap₂ outcome_of (bad_spelled text tokens) (kinds_spelled text tokens)

module _ (text moved : List ℕ) (tokens shifted : List Piece) (same : spelled text tokens ≡ spelled moved shifted) where
  pub same_kinds : kinds_in text tokens ≡ kinds_in moved shifted
  same_kinds = kinds_spelled text tokens ∙ ap (map kind_by) same ∙ sym (kinds_spelled moved shifted)

  pub same_bad : position is_bad tokens ≡ position is_bad shifted
  same_bad = bad_spelled text tokens ∙ ap (position is_bad_by) same ∙ sym (bad_spelled moved shifted)

  pub same_parsed : parsed_in text tokens ≡ parsed_in moved shifted
  same_parsed = ap₂ outcome_of same_bad same_kinds

-- ---- the tree, and where a fault is

tree_by_tree : (o : Option Item) (blamed : ℕ) → sound_tree (outcome_by_tree o blamed) ≡ o
tree_by_tree (Some tree) blamed = refl
tree_by_tree None blamed = refl

tree_by_bad : (bad : Option ℕ) (kinds : List Kind) → sound_tree (outcome_of bad kinds) ≡ cond (is_some bad) None (item_of kinds)
tree_by_bad (Some n) kinds = refl
tree_by_bad None kinds = tree_by_tree (item_of kinds) (fault_of kinds)

pub tree_told : (text : List ℕ) (tokens : List Piece) → sound_tree (parsed_in text tokens) ≡ cond (list_any is_bad tokens) None (item_of (kinds_in text tokens))
tree_told text tokens =
    tree_by_bad (position is_bad tokens) (kinds_in text tokens)
    ∙ ap (λ b. cond b None (item_of (kinds_in text tokens))) (sym (any_position is_bad tokens))

within_tree : (count blamed : ℕ) (o : Option Item) → (o ≡ None → blamed < count) → BlamesWithin count (outcome_by_tree o blamed)
within_tree count blamed (Some tree) h = tt
within_tree count blamed None h = h refl

within_bad : (count : ℕ) (kinds : List Kind) (bad : Option ℕ) → ((n : ℕ) → bad ≡ Some n → n < count) → (item_of kinds ≡ None → fault_of kinds < count)
    → BlamesWithin count (outcome_of bad kinds)
within_bad count kinds (Some n) b h = b n refl
within_bad count kinds None b h = within_tree count (fault_of kinds) (item_of kinds) h

position_within : {X : Type 0} (p : X → Bool) (xs : List X) (n : ℕ) → position p xs ≡ Some n → n < length xs
position_within p [] n h = absurd (cc)
position_within p (x ∷ xs) n h = (position-Some p (x ∷ xs) n x h).0

pub blames_within : (text : List ℕ) (tokens : List Piece) → 0 < length tokens → BlamesWithin (length tokens) (parsed_in text tokens)
blames_within text tokens some =
    within_bad (length tokens) (kinds_in text tokens) (position is_bad tokens) (position_within is_bad tokens)
    (λ none. subst (λ n. fault_of (kinds_in text tokens) < n) (length-map tokens _) (fault_at (kinds_in text tokens) (some_kinds text tokens some) none).inside)
