-- The items of a state set, one by one, by what is kept of them.
use Rattle.std.proofs.Common.{◌≡◌, ℕ, ◌<◌, false, List, [], ◌∷◌, ◌++◌, length, slice_get, Option, Some, is_none, option_map, sym, ap, ◌∙◌, arith}
use Rattle.std.specs.List.{AllByRecursion}
use Rattle.std.specs.Option.{option_and_then, option_copied, option_map_or}
use Rattle.std.proofs.lemmas.Option.{slice_get-map, slice_get_within}
use Rattle.snl_lex.specs.declared.piece.Piece.{Piece}
use Rattle.snl_lex.specs.PieceList.{spelled}
use Rattle.snl_items.specs.Items.{item_ends}
use Rattle.snl_grammar.specs.Outcome.{parsed_by, parsed_in, sound_tree}
use Rattle.snl_grammar.specs.declared.tree.item.Item.{Item}
use Rattle.snl_scope.specs.Below.{all_below}
use Rattle.snl_scope.specs.Order.{state_name}
use Rattle.snl_scope.specs.Places.{stands_in}
use Rattle.snl_summary.specs.SpelledTokens.{bytes_by, summary_by}
use Rattle.snl_summary.specs.Summaries.{summary_in}
use Rattle.snl_summary.specs.Summaries.Tokens.{token_bytes}
use Rattle.snl_summary.specs.declared.summary.Outline.{Outline}
use Rattle.snl_summary.specs.declared.summary.Summary.{Summary}
use Rattle.snl_check.specs.declared.reachability.marks.SetMember.{SetMember}
use Rattle.snl_item_check.specs.Items.{ProgramItem, summary_of_item}
use Rattle.snl_scope.specs.Linked.{name_of_state}
use Rattle.snl_check.specs.Members.{AreSetMembers, IsSetMember, is_faulty_item, targets_of_item}
use Rattle.snl_kept.specs.declared.entries.Entry.{Entry}
use Rattle.snl_kept.specs.Checks.{outlines_in}
use Rattle.snl_kept.specs.Entries.{entries_of, entry_by}
use Rattle.snl_kept.specs.ItemPlan.{own_item}
use Rattle.snl_kept.specs.Program.{item_tokens, items_of, program_item, tree_in}
use Rattle.snl_kept.specs.ReplacedItem.{own_tokens}
use Rattle.snl_kept.specs.SetMembers.{AreMembersBelow}
use Rattle.snl_kept.proofs.InsideMade.{entry_got, kept_outlines, own_got}
use Rattle.snl_kept.proofs.InsideTold.{summary_is, tree_is}
use Rattle.snl_kept.proofs.Members.{entries_count}

-- ---- one more number

each_added : {X : Type 0} (P : X → Type 0) (xs : List X) (x : X) → AllByRecursion P xs → P x → AllByRecursion P (xs ++ (x ∷ []))
each_added P [] x each here = (here, tt)
each_added P (y ∷ ys) x each here = (each.0, each_added P ys x each.1 here)

pub all_members : (text : List ℕ) (ss : List Outline) (k n : ℕ) (members : List SetMember) → n ≡ length ss → AreMembersBelow text ss k n members → AreSetMembers text (items_of text) ss k members
all_members text ss k n members all so_far = record {
  items = so_far.items ∙ ap (all_below (stands_in ss k)) all;
  each = so_far.each;
}

-- ---- an item by what is kept of it

there_is : (text : List ℕ) (i : ℕ) (e : Entry) → slice_get (entries_of text) i ≡ Some e → i < length (item_ends text)
there_is text i e got = let within : i < length (entries_of text) = slice_get_within (entries_of text) i e got in omega (arith, within, entries_count text)

pub item_got : (text : List ℕ) (i : ℕ) → i < length (item_ends text) → slice_get (items_of text) i ≡ Some (own_item text i)
item_got text i there = slice_get-map (program_item text) (item_tokens text) i ∙ ap (option_map (program_item text)) (own_got text i there)

module _ (tree_told : (text : List ℕ) (tokens : List Piece) → sound_tree (parsed_in text tokens) ≡ tree_in text tokens)
    (by_spelling : (text : List ℕ) (tokens : List Piece) → parsed_in text tokens ≡ parsed_by (spelled text tokens))
    (summary_told : (text : List ℕ) (tokens : List Piece) (tree : Option Item) → summary_in text tokens tree ≡ summary_by (spelled text tokens) tree)
    (bytes_told : (text : List ℕ) (tokens : List Piece) → token_bytes text tokens ≡ bytes_by (spelled text tokens)) where
  pub member_told : (text : List ℕ) (i : ℕ) (e : Entry) (m : SetMember) → slice_get (entries_of text) i ≡ Some e → m.item ≡ i → m.is_faulty ≡ is_none (sound_tree e.parsed)
      → option_copied m.name ≡ state_name e.summary.outline → m.targets.now ≡ e.summary.targets → IsSetMember text (items_of text) (outlines_in text) m
  member_told text i e m got item faulty name targets =
      let there = there_is text i e got in
      let is : e ≡ entry_by (spelled text (own_tokens text i)) = entry_got text i e there got in
      let at : slice_get (items_of text) i ≡ Some (own_item text i) = item_got text i there in
      let tree : sound_tree e.parsed ≡ (own_item text i).tree = ap (λ (x : Entry). sound_tree x.parsed) is ∙ tree_is tree_told by_spelling summary_told bytes_told text (own_tokens text i) in
      let summary : e.summary ≡ summary_of_item text (own_item text i) = summary_is tree_told by_spelling summary_told bytes_told text (own_tokens text i) e is in
      let outline : slice_get (outlines_in text) i ≡ Some e.summary.outline =
      ap (λ (l : List Outline). slice_get l i) (sym (kept_outlines tree_told by_spelling summary_told bytes_told text))
      ∙ slice_get-map (λ (x : Entry). x.summary.outline) (entries_of text) i
      ∙ ap (option_map (λ (x : Entry). x.summary.outline)) got in
      record {
        faulty = faulty
            ∙ ap (λ (t : Option Item). is_none t) tree
            ∙ ap (λ (o : Option ProgramItem). option_map_or (λ (x : ProgramItem). is_none x.tree) o false) (sym at)
            ∙ ap (is_faulty_item (items_of text)) (sym item);
        name = name
            ∙ ap (λ (o : Option Outline). option_and_then state_name o) (sym outline)
            ∙ ap (name_of_state (outlines_in text)) (sym item);
        targets = targets
            ∙ ap (λ (y : Summary). y.targets) summary
            ∙ ap (λ (o : Option ProgramItem). option_map_or (λ (x : ProgramItem). (summary_of_item text x).targets) o []) (sym at)
            ∙ ap (targets_of_item text (items_of text)) (sym item);
      }
