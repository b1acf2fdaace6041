-- What is kept of a state and of its check is what its tokens say.
use Rattle.std.proofs.Common.{◌≡◌, ℕ, false, List, map, Option, None, Some, is_none, option_map, refl, sym, ap, ap₂, ◌∙◌}
use Rattle.snl_lex.specs.declared.piece.Piece.{Piece}
use Rattle.snl_lex.specs.PieceList.{spelled}
use Rattle.snl_grammar.specs.Outcome.{parsed_by, parsed_in, sound_tree}
use Rattle.snl_grammar.specs.declared.tree.item.Item.{Item}
use Rattle.snl_grammar.specs.declared.tree.item.Item.TheVariants as items
use Rattle.snl_scope.specs.Order.{is_faulty}
use Rattle.snl_summary.specs.SpelledTokens.{bytes_by, summary_by}
use Rattle.snl_summary.specs.Summaries.{kind_of, kind_of_tree, summary_in}
use Rattle.snl_summary.specs.Summaries.Tokens.{token_bytes}
use Rattle.snl_summary.specs.declared.summary.Outline.{Outline}
use Rattle.snl_item_check.specs.declared.findings.Checked.{Checked}
use Rattle.snl_item_check.specs.Items.{summary_of_item}
use Rattle.snl_item_check.specs.Told.{Told, told_in_item, told_kept, used_by, wakes_of}
use Rattle.snl_kept.specs.declared.entries.Entry.{Entry}
use Rattle.snl_kept.specs.Checks.{check_by, check_of_item, checked_by}
use Rattle.snl_kept.specs.Entries.{entry_by}
use Rattle.snl_kept.specs.ItemPlan.{wakes_told}
use Rattle.snl_kept.specs.Program.{ProgramItem, program_item, tree_in}

-- a sound item isn't of the kind of faulty ones
never_faulty : (t : Item) → is_faulty (kind_of_tree t) ≡ false
never_faulty (items.Header name parameters) = refl
never_faulty (items.Definition d) = refl
never_faulty (items.Foreign names) = refl
never_faulty (items.Clause clause) = refl
never_faulty (items.OptionLine line) = refl
never_faulty (items.Entry block) = refl
never_faulty (items.Exit block) = refl
never_faulty (items.SsBegin name) = refl
never_faulty items.SsEnd = refl
never_faulty (items.StateBlock name ms) = refl
never_faulty (items.Function f) = refl
never_faulty (items.StructDef name ms) = refl
never_faulty (items.CBlock n) = refl
never_faulty items.Empty = refl

faulty_told : (o : Option Item) → is_none o ≡ is_faulty (kind_of o)
faulty_told None = refl
faulty_told (Some t) = sym (never_faulty t)

pub same_sound : (x y : Option Item) → kind_of y ≡ kind_of x → is_none y ≡ is_none x
same_sound x y same = faulty_told y ∙ ap is_faulty same ∙ sym (faulty_told x)

wakes_kept : (bytes : ℕ → List ℕ) (c : Option Checked) → wakes_told bytes c ≡ map (used_by bytes) (told_kept c).wake_uses
wakes_kept bytes None = refl
wakes_kept bytes (Some c) = refl

by_tree : (text : List ℕ) (ss : List Outline) (n : ℕ) (tokens : List Piece) (tree : Option Item) → let x : ProgramItem = record { tokens = tokens; tree = tree } in told_kept (check_of_item text ss (n, x)) ≡ told_in_item text x
by_tree text ss n tokens None = refl
by_tree text ss n tokens (Some tree) = refl

module _ (tree_told : (text : List ℕ) (tokens : List Piece) → sound_tree (parsed_in text tokens) ≡ tree_in text tokens)
    (by_spelling : (text : List ℕ) (tokens : List Piece) → parsed_in text tokens ≡ parsed_by (spelled text tokens))
    (summary_told : (text : List ℕ) (tokens : List Piece) (tree : Option Item) → summary_in text tokens tree ≡ summary_by (spelled text tokens) tree)
    (bytes_told : (text : List ℕ) (tokens : List Piece) → token_bytes text tokens ≡ bytes_by (spelled text tokens)) where
  pub tree_is : (text : List ℕ) (own : List Piece) → sound_tree (parsed_by (spelled text own)) ≡ tree_in text own
  tree_is text own = ap sound_tree (sym (by_spelling text own)) ∙ tree_told text own

  pub summary_is : (text : List ℕ) (own : List Piece) (e : Entry) → e ≡ entry_by (spelled text own) → e.summary ≡ summary_of_item text (program_item text own)
  summary_is text own e is =
      ap (λ (x : Entry). x.summary) is ∙ sym (summary_told text own (sound_tree (parsed_by (spelled text own)))) ∙ ap (summary_in text own) (tree_is text own)

  pub check_is : (ss : List Outline) (i : ℕ) (text : List ℕ) (own : List Piece) → check_by ss i (spelled text own) ≡ check_of_item text ss (i, program_item text own)
  check_is ss i text own = ap₂ (λ (b : ℕ → List ℕ) (t : Option Item). option_map (checked_by ss i b) t) (sym (bytes_told text own)) (tree_is text own)

  pub told_is : (ss : List Outline) (i : ℕ) (text : List ℕ) (own : List Piece) → told_kept (check_by ss i (spelled text own)) ≡ told_in_item text (program_item text own)
  told_is ss i text own = ap told_kept (check_is ss i text own) ∙ by_tree text ss i own (tree_in text own)

  pub wakes_are : (ss : List Outline) (i : ℕ) (text : List ℕ) (own : List Piece) → wakes_told (token_bytes text own) (check_by ss i (spelled text own)) ≡ wakes_of text (program_item text own)
  wakes_are ss i text own =
      wakes_kept (token_bytes text own) (check_by ss i (spelled text own)) ∙ ap (λ (t : Told). map (used_by (token_bytes text own)) t.wake_uses) (told_is ss i text own)
