-- The targets of an item among its occurrences, and those that its check tells.
use Rattle.std.proofs.Common.{◌≡◌, ℕ, Bool, true, false, cond, filter, List, [], ◌∷◌, ◌++◌, map, refl, ap, slice_get, Option, Some, None, sym}
use Rattle.std.specs.List.{filter_map}
use Rattle.snl_walk.specs.declared.occurrence.Occurrence.{Occurrence}
use Rattle.snl_walk.specs.declared.used.TargetUse.{TargetUse}
use Rattle.snl_walk.specs.Uses.{is_target, leads_on, target_use, target_uses_after, targets}
use Rattle.std.specs.Option.{option_map_or}
use Rattle.snl_lex.specs.declared.piece.Piece.{Piece}
use Rattle.snl_grammar.specs.declared.tree.item.Item.{Item}
use Rattle.snl_summary.specs.declared.summary.Outline.{Outline}
use Rattle.snl_summary.specs.Summaries.{occurrences_in}
use Rattle.snl_summary.specs.Summaries.Tokens.{name_ref_at}
use Rattle.snl_walk.specs.Items.{occurrences}
use Rattle.snl_walk.specs.Tokens.{token_bytes}
use Rattle.snl_item_check.specs.Items.{ProgramItem, summary_of_item, tokens_in}
use Rattle.snl_check.specs.Members.{target_number, target_numbers}
use Rattle.snl_item_check.specs.Told.{nothing, told_by, told_in, told_in_item}

-- the uses are at the targets
pub uses_at_targets : (led : Bool) (os : List Occurrence) → map (λ u. u.token) (target_uses_after led os) ≡ targets os
uses_at_targets led [] = refl
uses_at_targets led (o ∷ os) = by (is_target o.what) (uses_at_targets (leads_on o.what) os)
  where
    by : (b : Bool) → map (λ (u : TargetUse). u.token) (target_uses_after (leads_on o.what) os) ≡ targets os →
        map (λ (u : TargetUse). u.token) ((cond b (target_use o.token led ∷ []) []) ++ target_uses_after (leads_on o.what) os) ≡ map (λ (k : Occurrence). k.token) (cond b (o ∷ filter (λ k. is_target k.what) os) (filter (λ k. is_target k.what) os))
    by true rest = ap (λ l. o.token ∷ l) rest
    by false rest = rest

-- the targets of an item
pub targets_at : (text : List ℕ) (xs : List ProgramItem) (ss : List Outline) (states : List ℕ) (i : ℕ) →
    target_numbers text xs ss states i ≡ filter_map (target_number ss states i) (map (name_ref_at text (tokens_in xs i)) (map (λ (u : TargetUse). u.token) (told_in text xs i).target_uses))
targets_at text xs ss states i = by (slice_get xs i)
  where
    by_tree : (tokens : List Piece) (t : Option Item) → filter_map (target_number ss states i) (map (name_ref_at text tokens) (targets (occurrences_in (token_bytes text tokens) t)))
        ≡ filter_map (target_number ss states i) (map (name_ref_at text tokens) (map (λ (u : TargetUse). u.token) (option_map_or (told_by (token_bytes text tokens)) t nothing).target_uses))
    by_tree tokens None = refl
    by_tree tokens (Some t) = ap (λ l. filter_map (target_number ss states i) (map (name_ref_at text tokens) l)) (sym (uses_at_targets false (occurrences (token_bytes text tokens) t)))

    by : (o : Option ProgramItem) → option_map_or (λ (x : ProgramItem). filter_map (target_number ss states i) (summary_of_item text x).targets) o []
        ≡ filter_map (target_number ss states i) (map (name_ref_at text (option_map_or (λ (x : ProgramItem). x.tokens) o [])) (map (λ (u : TargetUse). u.token) (option_map_or (told_in_item text) o nothing).target_uses))
    by None = refl
    by (Some x) = by_tree x.tokens x.tree
