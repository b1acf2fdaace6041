use Rattle.std.proofs.Common.{◌≡◌, ℕ, ◌+◌, List, [], ◌∷◌, map, IfSome, Option, None, Some, Bor, option_copied, refl, ap, ap₂, subst, sym, ◌∙◌}
use Rattle.std.specs.List.{enumerate_from}
use Rattle.snl_lex.specs.declared.piece.Piece.{Piece}
use Rattle.snl_grammar.specs.declared.tree.item.Item.{Item}
use Rattle.snl_summary.specs.declared.summary.ItemKind.{ItemKind}
use Rattle.snl_summary.specs.declared.summary.Outline.{Outline}
use Rattle.snl_summary.specs.Summaries.{kind_of}
use Rattle.snl_check.specs.KnownRows.{AreKnown}
use Rattle.snl_check.specs.Tables.{tables_of}
use Rattle.snl_item_check.specs.Items.{program_items}
use Rattle.snl_item_check.specs.Told.{Told, told_in_item, told_kept, told_seen}
use Rattle.snl_kept.specs.declared.found.program.Part.{Part}
use Rattle.snl_kept.specs.Checks.{check_of_item}
use Rattle.snl_kept.specs.Linked.{outlines_of}
use Rattle.snl_kept.specs.Parts.{item_of_part, kind_of_part, tree_of_part}
use Rattle.snl_kept.specs.Program.{ProgramItem}
use Rattle.snl_kept.proofs.found.tables.tables_of.Goals as goal

-- what a check has told is what is told of its item
by_tree : (text : List ℕ) (ss : List Outline) (n : ℕ) (tokens : List Piece) (tree : Option Item) → let x : ProgramItem = record { tokens = tokens; tree = tree } in told_kept (check_of_item text ss (n, x)) ≡ told_in_item text x
by_tree text ss n tokens None = refl
by_tree text ss n tokens (Some tree) = refl

told_from : (text : List ℕ) (ss : List Outline) (n : ℕ) (xs : List ProgramItem) → map told_kept (map (check_of_item text ss) (enumerate_from n xs)) ≡ map (told_in_item text) xs
told_from text ss n [] = refl
told_from text ss n (x ∷ xs) = ap₂ (λ (t : Told) (ts : List Told). t ∷ ts) (by_tree text ss n x.tokens x.tree) (told_from text ss (n + 1) xs)

-- what each part is, by its tree
by_trees : (parts : List Part) → map kind_of_part parts ≡ map kind_of (map tree_of_part parts)
by_trees [] = refl
by_trees (part ∷ parts) = ap (λ (ks : List ItemKind). kind_of_part part ∷ ks) (by_trees parts)

pub tables_by_tokens-requires-clause-kinds : goal.tables_by_tokens-requires-clause-kinds
tables_by_tokens-requires-clause-kinds c =
    c.requires.seen.kinds
    ∙ by_trees c.args.parts.now
    ∙ ap (map kind_of) (sym (ap (map (λ (o : Option (Bor Item)). option_copied o)) c.deref-2.ensures.value ∙ c.requires.seen.trees))

pub tables_by_tokens-requires-clause-checked : goal.tables_by_tokens-requires-clause-checked
tables_by_tokens-requires-clause-checked c =
    let text = c.args.text.now in
    let tokens = c.args.tokens.now in
    let xs = map (item_of_part tokens) c.args.parts.now in
    let items : program_items tokens c.deref.result.now (map option_copied c.deref-2.result.now) ≡ xs =
    ap₂ (λ (es : List ℕ) (ts : List (Option Item)). program_items tokens es ts) (c.deref.ensures.value ∙ c.in_ok-ends.ensures) (ap (map (λ (o : Option (Bor Item)). option_copied o)) c.deref-2.ensures.value ∙ c.requires.seen.trees) ∙ c.requires.items in
    ap (map told_seen) c.deref-3.ensures.value
    ∙ c.in_ok-told.ensures
    ∙ ap (map told_kept) c.requires.checks
    ∙ told_from text (outlines_of text xs) 0 xs
    ∙ ap (map (told_in_item text)) (sym items)

pub tables_by_tokens-requires-clause-known : goal.tables_by_tokens-requires-clause-known
tables_by_tokens-requires-clause-known c =
    let text = c.args.text.now in
    let tokens = c.args.tokens.now in
    let xs = map (item_of_part tokens) c.args.parts.now in
    let items : program_items tokens c.deref.result.now (map option_copied c.deref-2.result.now) ≡ xs =
    ap₂ (λ (es : List ℕ) (ts : List (Option Item)). program_items tokens es ts) (c.deref.ensures.value ∙ c.in_ok-ends.ensures) (ap (map (λ (o : Option (Bor Item)). option_copied o)) c.deref-2.ensures.value ∙ c.requires.seen.trees) ∙ c.requires.items in
    subst (λ (l : List ProgramItem). IfSome c.args.known (λ k. AreKnown k (tables_of text l))) (sym items) c.requires.known
