use Rattle.std.proofs.Common.{◌≡◌, ℕ, ◌-◌, min, List, Err, sym, ap, ◌∙◌, subst}
use Rattle.std.proofs.lemmas.List.{length-map}
use Rattle.snl_lex.specs.declared.kind.Kind.{Kind}
use Rattle.snl_expression.specs.declared.stop.Stop.{Stop}
use Rattle.snl_expression.specs.declared.stop.Stop.TheVariants as stops
use Rattle.snl_grammar.specs.Tokens.{ahead}
use Rattle.snl_expression.specs.Reads.{Fails}
use Rattle.snl_grammar.specs.Parsing.{kind_in, kinds_in}
use Rattle.snl_grammar.specs.Reading.Items.{levels, whole_item}
use Rattle.snl_syntax.proofs.Blamed.{fault_at}
use Rattle.snl_syntax.proofs.parse.read_item.Goals as goal

pub returns-clause-blamed : goal.returns-clause-blamed
returns-clause-blamed c =
    let kinds : List Kind = kinds_in c.args.text.now c.args.tokens.now in
    let same : c.deref.result.now ≡ kinds = c.deref.ensures.value ∙ c.in_ok-kinds.ensures in
    let at : ℕ = c.in-Err-Here.at in
    let failed : Fails c.deref.result.now (stops.Here at) (whole_item levels (ahead c.deref.result.now 0)) = subst (λ (s : Stop). Fails c.deref.result.now s (whole_item levels (ahead c.deref.result.now 0))) c.in-Err-Here.field-0-is c.in-Err-Here.ensures in
    let blamed : whole_item levels (ahead kinds 0) ≡ Err (ahead kinds at) = subst (λ (l : List Kind). whole_item levels (ahead l 0) ≡ Err (ahead l at)) same failed in
    c.within.ensures ∙ sym (fault_at kinds at blamed ∙ ap (λ (n : ℕ). min at (n - 1)) (length-map c.args.tokens.now (kind_in c.args.text.now)))
