-- What is kept of items, along the ends of their tokens.
use Rattle.std.proofs.Common.{◌≡◌, ℕ, ◌+◌, ◌-◌, ◌<◌, List, [], ◌∷◌, ◌++◌, length, take, drop, map, Option, ap, ap₂, sym, ◌∙◌, arith}
use Rattle.std.specs.List.{slice_set}
use Rattle.std.proofs.lemmas.List.{drop-map, length-map, map-append, take-map}
use Rattle.snl_cut.specs.Cut.{last_end, members}
use Rattle.snl_lex.specs.declared.piece.Class.{Class}
use Rattle.snl_lex.specs.declared.piece.Piece.{Piece}
use Rattle.snl_lex.specs.PieceList.{spelled, spelling}
use Rattle.snl_grammar.specs.Outcome.{parsed_by, parsed_in, sound_tree}
use Rattle.snl_grammar.specs.declared.tree.item.Item.{Item}
use Rattle.snl_summary.specs.SpelledTokens.{summary_by}
use Rattle.snl_summary.specs.Summaries.{summary_in}
use Rattle.snl_kept.specs.declared.entries.Entry.{Entry}
use Rattle.snl_items.specs.Items.{item_ends, spelled_items, spellings}
use Rattle.snl_kept.specs.Entries.{entries_of, entry_by}
use Rattle.snl_kept.specs.Parts.{EndsWithin, tokens_between}
use Rattle.snl_kept.specs.Planned.{AreEntriesMade}
use Rattle.snl_cut.specs.CutLaws.{length_members}
use Rattle.snl_kept.proofs.Replaced.{replaced_parts}

-- tokens from one number up to another, as they are spelled
pub spelled_between : (text : List ℕ) (tokens : List Piece) (start stop : ℕ) → take (stop - start) (drop start (spelled text tokens)) ≡ spelled text (tokens_between tokens start stop)
spelled_between text tokens start stop =
    ap (take (stop - start)) (drop-map (spelling text) start tokens) ∙ take-map (spelling text) (stop - start) (drop start tokens)

-- an entry is that of its tokens
module _ (text : List ℕ) (own : List Piece) (e : Entry) (is : e ≡ entry_by (spelled text own)) where
  pub entry_parsed : parsed_in text own ≡ parsed_by (spelled text own) → e.parsed ≡ parsed_in text own
  entry_parsed law = ap (λ (x : Entry). x.parsed) is ∙ sym law

  pub entry_summary : ((tree : Option Item) → summary_in text own tree ≡ summary_by (spelled text own) tree) → e.summary ≡ summary_in text own (sound_tree e.parsed)
  entry_summary law =
      ap (λ (x : Entry). x.summary) is
      ∙ sym (law (sound_tree (parsed_by (spelled text own))))
      ∙ ap (λ (x : Entry). summary_in text own (sound_tree x.parsed)) (sym is)

-- the ends in the middle of a list of ends
pub middle_within : (from : ℕ) (xs ys zs : List ℕ) (to : ℕ) → EndsWithin from ((xs ++ ys) ++ zs) to → EndsWithin (last_end from xs) ys to
middle_within from [] [] zs to h = tt
middle_within from [] (y ∷ ys) zs to h = (h.0, h.1, middle_within y [] ys zs to h.2)
middle_within from (x ∷ xs) ys zs to h = middle_within x xs ys zs to h.2

-- as many entries as items
pub entries_count : (text : List ℕ) → length (entries_of text) ≡ length (item_ends text)
entries_count text = length-map (spelled_items text) entry_by ∙ length_members (spellings text) 0 (item_ends text)

-- what is kept of the items follows them
pub entries_made : (old text : List ℕ) (front from : ℕ) (made : List ℕ) (back : ℕ)
    → spelled_items text ≡ take front (spelled_items old) ++ (members (spellings text) from made ++ drop (length (item_ends old) - back) (spelled_items old))
    → AreEntriesMade old text front (map entry_by (members (spellings text) from made)) back
entries_made old text front from made back is =
    let olds : List (List (Class × List ℕ)) = spelled_items old in
    let news : List (List (Class × List ℕ)) = members (spellings text) from made in
    let after : ℕ = length (item_ends old) - back in
    ap (map entry_by) is
    ∙ map-append entry_by (take front olds) (news ++ drop after olds)
    ∙ ap (λ (l : List Entry). map entry_by (take front olds) ++ l) (map-append entry_by news (drop after olds))
    ∙ ap₂ (λ (x y : List Entry). x ++ (map entry_by news ++ y)) (sym (take-map entry_by front olds))
    (sym (drop-map entry_by after olds) ∙ ap (λ (n : ℕ). drop (n - back) (entries_of old)) (sym (entries_count old)))

-- one item is made in the place of one
pub one_entry_made : (old text : List ℕ) (k back : ℕ) (e : Entry) → k + 1 + back ≡ length (item_ends old) → AreEntriesMade old text k (e ∷ []) back → entries_of text ≡ slice_set (entries_of old) k e
one_entry_made old text k back e one made =
    let olds : List Entry = entries_of old in
    let there : k < length olds = omega (arith, one, entries_count old) in
    let after : length olds - back ≡ k + 1 = omega (arith, one, entries_count old) in
    made ∙ ap (λ (n : ℕ). take k olds ++ (e ∷ drop n olds)) after ∙ sym (replaced_parts olds k e there)
