use Rattle.std.proofs.Common.{◌≡◌, ℕ, List, IfOk, Option, option_and_then, ap, sym, subst, ◌∙◌}
use Rattle.snl_lex.specs.declared.piece.Piece.{Piece}
use Rattle.snl_grammar.specs.declared.tree.item.Item.{Item}
use Rattle.snl_summary.specs.declared.summary.Outline.{Outline}
use Rattle.snl_questions.specs.declared.meanings.items.TokenPlace.{TokenPlace}
use Rattle.snl_questions.specs.Mentions.{mentioned_by_tokens, mentioned_in}
use Rattle.snl_questions.proofs.OfItem.{by_item}
use Rattle.snl_questions.proofs.mentions.references.mentioned_at.Goals as goal

pub returns-in_default : goal.returns-in_default
returns-in_default c =
    let text = c.args.items.now.text.now in
    let p = c.args.place in
    sym (ap (option_and_then (λ (x : List Piece). mentioned_by_tokens text p.item x p.token))
    c.in_default.ensures)

pub returns : goal.returns
returns c =
    let text = c.args.items.now.text.now in
    let p = c.args.place in
    let is = c.in-Some.ensures in
    let told = by_item (λ (ss : List Outline) (i : ℕ) (bytes : ℕ → List ℕ) (tree : Option Item)
    (s : Outline). mentioned_in ss i bytes tree s p.token) text p.item c.in-Some.item is
    ∙ sym (ap (option_and_then (λ (x : List Piece). mentioned_by_tokens text p.item x p.token))
    is.tokens) in
    subst (λ (v : Option TokenPlace). IfOk c.mentioned_in.result (λ m. m ≡ v)) told
    c.mentioned_in.ensures
