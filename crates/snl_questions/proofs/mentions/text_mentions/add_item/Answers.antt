use Rattle.std.proofs.Common.{◌≡◌, ◌++◌, ℕ, List, [], length, append-nil, Option, ap, sym, subst, ◌∙◌}
use Rattle.std.specs.Prelude.{OnOk}
use Rattle.std.specs.Option.{option_map_or}
use Rattle.snl_lex.specs.declared.piece.Piece.{Piece}
use Rattle.snl_grammar.specs.declared.tree.item.Item.{Item}
use Rattle.snl_summary.specs.declared.summary.Outline.{Outline}
use Rattle.snl_questions.specs.declared.mentions.mention.Mention.{Mention}
use Rattle.snl_questions.specs.Mentions.{mentioned_in, mentions_at, mentions_before, mentions_by_tokens}
use Rattle.snl_questions.proofs.OfItem.{by_item}
use Rattle.snl_questions.proofs.mentions.text_mentions.add_item.Goals as goal

pub returns-in_default : goal.returns-in_default
returns-in_default c =
    let text = c.args.items.now.text.now in
    let i = c.args.number in
    let nothing : mentions_at text i ≡ [] =
    ap (λ (o : Option (List Piece)). option_map_or (mentions_by_tokens text i) o [])
    c.in_default.ensures in
    let old : List Mention = c.args.mentions.now.items in
    sym (ap (λ (l : List Mention). old ++ l) nothing ∙ append-nil old)

pub returns : goal.returns
returns c =
    let text = c.args.items.now.text.now in
    let i = c.args.number in
    let is = c.in-Some.ensures in
    let count = length c.in-Some.item.source.tokens.now in
    let told = by_item (λ (ss : List Outline) (k : ℕ) (bytes : ℕ → List ℕ) (tree : Option Item)
    (s : Outline). mentions_before k (mentioned_in ss k bytes tree s) count) text i
    c.in-Some.item is
    ∙ sym (ap (λ (o : Option (List Piece)). option_map_or (mentions_by_tokens text i) o [])
    is.tokens) in
    subst (λ (v : List Mention). OnOk c.add_mentions.result
    (c.add_mentions.new.mentions.items ≡ c.args.mentions.now.items ++ v)) told
    c.add_mentions.ensures
