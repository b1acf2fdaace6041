-- What links know of an item, by the item itself.
use Rattle.std.proofs.Common.{◌≡◌, ℕ, ◌<◌, Bool, true, false, not, List, length, map, slice_get, Option, Some, None, refl, ap, ◌∙◌, sym, Bor}
use Rattle.std.specs.Option.{is_none, option_and_then, option_map, option_map_or, unwrap_or}
use Rattle.std.proofs.lemmas.Option.{slice_get-map}
use Rattle.snl_summary.specs.declared.summary.Outline.{Outline}
use Rattle.snl_item_check.specs.declared.findings.Checked.{Checked}
use Rattle.snl_check.specs.declared.rows.text_items.TextItems.{TextItems}
use Rattle.snl_check.specs.Collected.{AreTextItems, items_in}
use Rattle.snl_item_check.specs.Items.{ProgramItem, outlines_of, outline_of_item, tree_in}
use Rattle.snl_check.specs.Members.{is_faulty_item}
use Rattle.snl_item_check.specs.Told.{Told, nothing, told_in, told_in_item, told_seen}
use Rattle.snl_check.proofs.Items.{count_in}
use Rattle.std.proofs.lemmas.List.{length-map}
use Rattle.snl_check.specs.SetsLaws.{get_here}

-- an item is faulty that has no tree
pub faulty_is : (xs : List ProgramItem) (i : ℕ) → i < length xs → is_faulty_item xs i ≡ is_none (tree_in xs i)
faulty_is xs i lt =
    let here = get_here xs i lt in
    ap (λ o. option_map_or (λ (x : ProgramItem). is_none x.tree) o false) here.1
    ∙ sym (ap (λ o. is_none (option_and_then (λ (x : ProgramItem). x.tree) o)) here.1)

pub turned : (a b : Bool) → a ≡ not b → b ≡ not a
turned true true h = absurd cc
turned true false h = refl
turned false true h = refl
turned false false h = absurd cc

-- there are as many outlines as items
pub counted : (p : TextItems) (ss : List Outline) → AreTextItems p → ss ≡ outlines_of p.text.now (items_in p) → length p.trees.now ≡ length ss
counted p ss is linked = sym (ap length linked ∙ length-map (items_in p) (outline_of_item p.text.now) ∙ count_in p is)

-- what the check of an item has told
pub told_at : (text : List ℕ) (xs : List ProgramItem) (checked : List (Option (Bor Checked))) (i : ℕ) → map told_seen checked ≡ map (told_in_item text) xs →
    option_map_or told_seen (slice_get checked i) nothing ≡ told_in text xs i
told_at text xs checked i same =
    or_by told_seen (slice_get checked i) ∙ ap (λ o. unwrap_or o nothing) (sym (slice_get-map told_seen checked i) ∙ ap (λ l. slice_get l i) same ∙ slice_get-map (told_in_item text) xs i)
    ∙ sym (or_by (told_in_item text) (slice_get xs i))
  where
    or_by : {X : Type 0} (f : X → Told) (o : Option X) → option_map_or f o nothing ≡ unwrap_or (option_map f o) nothing
    or_by f None = refl
    or_by f (Some x) = refl
