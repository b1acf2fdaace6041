use Rattle.std.proofs.Common.{arith, List, ◌≡◌, ℕ, ◌+◌, ◌^◌, ◌<◌, ◌++◌, ◌∷◌, [], drop, get_or, length, map, Option, Some, None, Bor, ap, sym, subst, ◌∙◌}
use Rattle.std.specs.List.{All, enumerate_from, flat_map}
use Rattle.std.proofs.lemmas.Grind.{flat_map-append}
use Rattle.std.proofs.lemmas.List.{append-nil, get_or-map, length-map}
use Rattle.std.proofs.lemmas.List.Elements.{All-drop, All-nil, All-take}
use Rattle.std.proofs.lemmas.List.FromFn.{get_or-enumerate_from, length-enumerate_from}
use Rattle.snl_lex.specs.declared.piece.Piece.{Piece}
use Rattle.snl_lex.specs.Pieces.{LiesIn}
use Rattle.snl_grammar.specs.declared.tree.item.Item.{Item}
use Rattle.snl_summary.specs.declared.summary.Outline.{Outline}
use Rattle.snl_summary.specs.Summaries.Tokens.{token_bytes}
use Rattle.snl_item_check.specs.declared.findings.Checked.{Checked}
use Rattle.snl_item_check.specs.ItemFaults.{StandsIn, faults_in}
use Rattle.snl_item_check.specs.View.{is_in_set, known_of, leads_to}
use Rattle.snl_kept.specs.declared.found.findings.Finding.{Finding}
use Rattle.snl_kept.specs.Checked.{HasOffset, at_own_token, faults_kept, found_in_item}
use Rattle.snl_kept.specs.Checks.{check_of_item, checks_over}
use Rattle.snl_kept.specs.Linked.{outlines_of}
use Rattle.snl_kept.specs.Parts.{item_of_part, tokens_of_part}
use Rattle.snl_kept.specs.Program.{ProgramItem}
use Rattle.snl_kept.proofs.Offsets.{have_offsets}
use Rattle.snl_kept.proofs.Steps.{added, drop_image}
use Rattle.snl_kept.proofs.found.checks.add_checked_faults.Goals as goal

-- as many checks as items, and the check with a number
module _ (text : List ℕ) (xs : List ProgramItem) (checks : List (Bor (Option Checked))) (are : map (λ (c : Bor (Option Checked)). c.now) checks ≡ checks_over text xs) where
  as_many : length checks ≡ length xs
  as_many =
      sym (length-map checks (λ (c : Bor (Option Checked)). c.now)) ∙ ap length are
      ∙ length-map (enumerate_from 0 xs) (check_of_item text (outlines_of text xs)) ∙ length-enumerate_from 0 xs

  check_at : (i : ℕ) (c : Bor (Option Checked)) (x : ProgramItem) → i < length xs → c ≡ get_or checks i c → x ≡ get_or xs i x → c.now ≡ check_of_item text (outlines_of text xs) (i, x)
  check_at i c x lt is here =
      let one : c.now ≡ get_or (map (λ (d : Bor (Option Checked)). d.now) checks) i c.now =
      ap (λ (d : Bor (Option Checked)). d.now) is ∙ sym (get_or-map (λ (d : Bor (Option Checked)). d.now) checks i c c.now (omega (arith, lt, as_many))) in
      one
      ∙ ap (λ (l : List (Option Checked)). get_or l i c.now) are
      ∙ get_or-map (check_of_item text (outlines_of text xs)) (enumerate_from 0 xs) i (i, x) c.now (omega (arith, lt, length-enumerate_from 0 xs))
      ∙ ap (check_of_item text (outlines_of text xs)) (get_or-enumerate_from 0 xs i (i, x) lt ∙ same i (get_or xs i x) x (sym here))
    where
      plus : (i : ℕ) → 0 + i ≡ i
      plus i = omega arith

      same : (i : ℕ) (y x : ProgramItem) → y ≡ x → let p : ℕ × ProgramItem = (0 + i, y) in let q : ℕ × ProgramItem = (i, x) in p ≡ q
      same i y x e = λ d. (plus i d, e d)

-- each finding has an offset
offsets_by : (text : List ℕ) (ss : List Outline) (i : ℕ) (tokens : List Piece) (tree : Option Item) → length text < 2 ^ 64 → All (LiesIn text) tokens
    → ((bytes : ℕ → List ℕ) (tree : Item) → All (StandsIn bytes) (faults_in bytes tree (is_in_set ss i) (known_of ss i) (leads_to ss i)))
    → let x : ProgramItem = record { tokens = tokens; tree = tree } in All (HasOffset tokens) (faults_kept (check_of_item text ss (i, x)))
offsets_by text ss i tokens None small lie stand = All-nil (HasOffset tokens)
offsets_by text ss i tokens (Some tree) small lie stand =
    have_offsets text tokens (faults_in (token_bytes text tokens) tree (is_in_set ss i) (known_of ss i) (leads_to ss i)) small lie (stand (token_bytes text tokens) tree)

pub bounds-checks-item : goal.bounds-checks-item
bounds-checks-item c =
    let parts = c.args.parts.now in
    let item = item_of_part c.args.tokens.now in
    omega (arith, c.loop-item-test.true, as_many c.args.text.now (map item parts) c.args.checks.now c.requires.checks, length-map parts item)

pub add_found-requires-clause-offsets : goal.add_found-requires-clause-offsets
add_found-requires-clause-offsets c =
    let text = c.args.text.now in
    let tokens = c.args.tokens.now in
    let parts = c.args.parts.now in
    let i = c.loop-item.item in
    let item = item_of_part tokens in
    let xs = map item parts in
    let ss = outlines_of text xs in
    let first = c.index-parts-item.result in
    let own = tokens_of_part tokens first in
    let small : length text < 2 ^ 64 = omega arith in
    let lie : All (LiesIn text) own = All-take (LiesIn text) _ _ (All-drop (LiesIn text) first.start tokens c.requires.tokens) in
    let here = check_at text xs c.args.checks.now c.requires.checks i c.index-checks-item.result (item first) (omega (arith, c.loop-item-test.true, length-map parts item)) c.index-checks-item.is
    (ap item c.index-parts-item.is ∙ sym (get_or-map item parts i first (item first) c.loop-item-test.true)) in
    subst (λ (o : Option Checked). All (HasOffset own) (faults_kept o)) (sym (c.get-check.ensures ∙ here))
    (offsets_by text ss i own (item first).tree small lie (λ bytes tree. c.faults_stand_in_tokens.ensures bytes tree (is_in_set ss i) (known_of ss i) (leads_to ss i)))

pub loop-item-preserved : goal.loop-item-preserved
loop-item-preserved c =
    let text = c.args.text.now in
    let tokens = c.args.tokens.now in
    let parts = c.args.parts.now in
    let i = c.loop-item.item in
    let item = item_of_part tokens in
    let xs = map item parts in
    let ss = outlines_of text xs in
    let first = c.index-parts-item.result in
    let own = tokens_of_part tokens first in
    let found = found_in_item text ss in
    let here : drop i xs ≡ item first ∷ drop (i + 1) xs = drop_image item parts i first c.loop-item-test.true c.index-parts-item.is in
    let check = check_at text xs c.args.checks.now c.requires.checks i c.index-checks-item.result (item first) (omega (arith, c.loop-item-test.true, length-map parts item)) c.index-checks-item.is
    (ap item c.index-parts-item.is ∙ sym (get_or-map item parts i first (item first) c.loop-item-test.true)) in
    added (flat_map found) (flat_map-append found)
    (enumerate_from i (drop i xs))
    ((i, item first) ∷ [])
    (enumerate_from (i + 1) (drop (i + 1) xs))
    _ _ _
    (ap (enumerate_from i) here)
    (c.in_ok-add_found.ensures
    ∙ ap (λ (o : Option Checked). c.loop-item.found.items ++ map (at_own_token own) (faults_kept o)) (c.get-check.ensures ∙ check)
    ∙ ap (λ (l : List Finding). c.loop-item.found.items ++ l) (sym (append-nil (found (i, item first)))))
    c.loop-item.invariant
