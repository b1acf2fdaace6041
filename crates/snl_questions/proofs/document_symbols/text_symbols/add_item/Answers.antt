use Rattle.std.proofs.Common.{◌≡◌, ◌++◌, List, [], Option, Some, None, slice_get, append-nil, ap, sym, subst, ◌∙◌}
use Rattle.std.specs.Prelude.{OnOk}
use Rattle.std.specs.Option.{option_map_or}
use Rattle.snl_summary.specs.declared.summary.Outline.{Outline}
use Rattle.snl_kept.specs.declared.entries.Entry.{Entry}
use Rattle.snl_questions.specs.declared.document_symbols.symbol.DocumentSymbol.{DocumentSymbol}
use Rattle.snl_questions.specs.Items.{tokens_by_item}
use Rattle.snl_questions.specs.Symbols.{item_symbols, symbols_at}
use Rattle.snl_questions.proofs.Kept.{made_at, outline_kept}
use Rattle.snl_questions.proofs.document_symbols.text_symbols.add_item.Goals as goal

pub returns-in_default : goal.returns-in_default
returns-in_default c =
    let ss = c.args.lists.now.links.outlines in
    let i = c.args.item in
    let none : slice_get ss i ≡ None =
    made_at outline_kept c.args.lists.now.entries.values ss i None c.requires.outlines
    (sym c.in_default.ensures) in
    let nothing : symbols_at (tokens_by_item c.args.items.now) ss i ≡ [] =
    ap (λ (o : Option Outline).
    option_map_or (item_symbols (tokens_by_item c.args.items.now) ss i) o []) none in
    let old : List DocumentSymbol = c.args.symbols.now.items in
    sym (ap (λ (l : List DocumentSymbol). old ++ l) nothing ∙ append-nil old)

pub returns : goal.returns
returns c =
    let ss = c.args.lists.now.links.outlines in
    let i = c.args.item in
    let at : slice_get ss i ≡ Some (outline_kept c.get-entry.result.now) =
    made_at outline_kept c.args.lists.now.entries.values ss i (Some c.in-Some.entry.now)
    c.requires.outlines (sym c.in-Some.ensures)
    ∙ ap (λ (e : Entry). Some (outline_kept e)) (sym c.get-entry.ensures) in
    let told : item_symbols (tokens_by_item c.args.items.now) ss i
    (outline_kept c.get-entry.result.now) ≡ symbols_at (tokens_by_item c.args.items.now) ss i =
    sym (ap (λ (o : Option Outline).
    option_map_or (item_symbols (tokens_by_item c.args.items.now) ss i) o []) at) in
    subst (λ (v : List DocumentSymbol). OnOk c.add_symbols.result
    (c.add_symbols.new.symbols.items ≡ c.args.symbols.now.items ++ v)) told c.add_symbols.ensures
