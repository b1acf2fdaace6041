-- The items of a text as they are read, and as their tokens are spelled.
use Rattle.std.proofs.Common.{◌≡◌, ℕ, ◌+◌, List, [], ◌∷◌, length, map, Option, option_map, refl, sym, ap, ap₂, ◌∙◌}
use Rattle.std.specs.List.{enumerate_from}
use Rattle.std.proofs.lemmas.List.{length-map}
use Rattle.std.proofs.lemmas.Simd.{map-map}
use Rattle.snl_cut.specs.Cut.{members}
use Rattle.snl_lex.specs.declared.piece.Class.{Class}
use Rattle.snl_lex.specs.declared.piece.Piece.{Piece}
use Rattle.snl_lex.specs.PieceList.{spelled}
use Rattle.snl_lex.specs.Pieces.{tokens_of}
use Rattle.snl_grammar.specs.Outcome.{parsed_by, parsed_in, sound_tree}
use Rattle.snl_grammar.specs.declared.tree.item.Item.{Item}
use Rattle.snl_items.specs.Items.{item_ends, spelled_items, spellings}
use Rattle.snl_summary.specs.SpelledTokens.{bytes_by}
use Rattle.snl_summary.specs.declared.summary.Outline.{Outline}
use Rattle.snl_summary.specs.Summaries.Tokens.{token_bytes}
use Rattle.snl_item_check.specs.declared.findings.Checked.{Checked}
use Rattle.snl_kept.specs.declared.found.program.Part.{Part}
use Rattle.snl_kept.specs.Checks.{check_by, check_of_item, checked_by, checks_from, checks_of, checks_over, outlines_in}
use Rattle.snl_kept.specs.Parts.{item_of_part, spelled_part}
use Rattle.snl_kept.specs.Program.{ProgramItem, item_tokens, items_of, program_item, tree_in}
use Rattle.snl_kept.proofs.Members.{spelled_between}
use Rattle.snl_cut.specs.CutLaws.{length_members}

spelled_members : (text : List ℕ) (tokens : List Piece) (from : ℕ) (ends : List ℕ) → members (spelled text tokens) from ends ≡ map (spelled text) (members tokens from ends)
spelled_members text tokens from [] = refl
spelled_members text tokens from (e ∷ es) =
    ap₂ (λ (m : List (Class × List ℕ)) (ms : List (List (Class × List ℕ))). m ∷ ms) (spelled_between text tokens from e) (spelled_members text tokens e es)

pub spelled_text : (text : List ℕ) → map (spelled text) (item_tokens text) ≡ spelled_items text
unfolding item_tokens
spelled_text text = sym (spelled_members text (tokens_of text) 0 (item_ends text))

-- parts that are the items of a text
pub spelled_parts : (text : List ℕ) (tokens : List Piece) (parts : List Part) → map (item_of_part tokens) parts ≡ items_of text → map (spelled_part text tokens) parts ≡ spelled_items text
spelled_parts text tokens parts same =
    sym (map-map (λ (x : ProgramItem). spelled text x.tokens) (item_of_part tokens) parts)
    ∙ ap (map (λ (x : ProgramItem). spelled text x.tokens)) same
    ∙ map-map (λ (x : ProgramItem). spelled text x.tokens) (program_item text) (item_tokens text)
    ∙ spelled_text text

-- the checks of the items go by their spelling
module _ (text : List ℕ)
    (tree_told : (tokens : List Piece) → sound_tree (parsed_in text tokens) ≡ tree_in text tokens)
    (by_spelling : (tokens : List Piece) → parsed_in text tokens ≡ parsed_by (spelled text tokens))
    (bytes_told : (tokens : List Piece) → token_bytes text tokens ≡ bytes_by (spelled text tokens)) where
  check_one : (ss : List Outline) (i : ℕ) (m : List Piece) → check_of_item text ss (i, program_item text m) ≡ check_by ss i (spelled text m)
  check_one ss i m = ap₂ (λ (b : ℕ → List ℕ) (o : Option Item). option_map (checked_by ss i b) o) (bytes_told m) (sym (tree_told m) ∙ ap sound_tree (by_spelling m))

  check_all : (ss : List Outline) (n : ℕ) (ms : List (List Piece)) → map (check_of_item text ss) (enumerate_from n (map (program_item text) ms)) ≡ checks_from ss n (map (spelled text) ms)
  check_all ss n [] = refl
  check_all ss n (m ∷ ms) = ap₂ (λ (c : Option Checked) (cs : List (Option Checked)). c ∷ cs) (check_one ss n m) (check_all ss (n + 1) ms)

  pub checks_told : checks_over text (items_of text) ≡ checks_of text
  checks_told = check_all (outlines_in text) 0 (item_tokens text) ∙ ap (checks_from (outlines_in text) 0) (spelled_text text)

pub parts_count : (text : List ℕ) (tokens : List Piece) (parts : List Part) → map (item_of_part tokens) parts ≡ items_of text → length parts ≡ length (item_ends text)
parts_count text tokens parts same =
    sym (length-map parts (spelled_part text tokens)) ∙ ap length (spelled_parts text tokens parts same) ∙ length_members (spellings text) 0 (item_ends text)
