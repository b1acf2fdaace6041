-- Items one after another, each with what is kept of it.
use Rattle.std.proofs.Common.{arith, ◌≡◌, ℕ, ◌<◌, ◌≤◌, List, ◌∷◌, length, drop, map, Option, ap, ◌∙◌, length-drop}
use Rattle.std.proofs.lemmas.List.{length-map}
use Rattle.snl_lex.specs.declared.piece.Piece.{Piece}
use Rattle.snl_lex.specs.PieceList.{spelled}
use Rattle.snl_grammar.specs.Outcome.{parsed_by, parsed_in, sound_tree}
use Rattle.snl_grammar.specs.declared.tree.item.Item.{Item}
use Rattle.snl_summary.specs.SpelledTokens.{summary_by}
use Rattle.snl_summary.specs.Summaries.{summary_in}
use Rattle.snl_kept.specs.declared.found.program.Part.{Part}
use Rattle.snl_kept.specs.Entries.{entry_by}
use Rattle.snl_kept.specs.Parts.{IsPart, item_of_part, tokens_of_part}
use Rattle.snl_kept.specs.Program.{ProgramItem, program_item, tree_in}
use Rattle.snl_kept.proofs.Members.{entry_parsed, entry_summary}

-- two lists that are equal begin alike
pub same_first : {X : Type 0} (x y : X) (xs ys : List X) → x ∷ xs ≡ y ∷ ys → (x ≡ y) × (xs ≡ ys)
same_first x y xs ys e = (cc, cc)

-- there is an element where images of some are left
pub some_left : {X Y : Type 0} (f : X → Y) (xs : List X) (i : ℕ) (y : Y) (ys : List Y) → map f (drop i xs) ≡ y ∷ ys → i < length xs
some_left f xs i y ys e = omega (arith, ap length e, length-map (drop i xs) f, length-drop i xs)

module _ (text : List ℕ) (tokens : List Piece) (part : Part) (some : part.start < part.stop) (inside : part.stop ≤ length tokens)
    (is : part.entry.now ≡ entry_by (spelled text (tokens_of_part tokens part)))
    (by_spelling : parsed_in text (tokens_of_part tokens part) ≡ parsed_by (spelled text (tokens_of_part tokens part)))
    (summary : (tree : Option Item) → summary_in text (tokens_of_part tokens part) tree ≡ summary_by (spelled text (tokens_of_part tokens part)) tree) where
  pub is_part : IsPart text tokens part
  is_part = record {
    some = some;
    inside = inside;
    entry = is;
    parsed = entry_parsed text (tokens_of_part tokens part) part.entry.now is by_spelling;
    summary = entry_summary text (tokens_of_part tokens part) part.entry.now is summary;
  }

  pub part_item : sound_tree (parsed_in text (tokens_of_part tokens part)) ≡ tree_in text (tokens_of_part tokens part) → item_of_part tokens part ≡ program_item text (tokens_of_part tokens part)
  part_item law =
      ap (λ (tree : Option Item). let x : ProgramItem = record { tokens = tokens_of_part tokens part; tree = tree } in x)
      (ap sound_tree (entry_parsed text (tokens_of_part tokens part) part.entry.now is by_spelling) ∙ law)
