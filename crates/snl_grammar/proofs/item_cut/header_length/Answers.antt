use Rattle.std.proofs.Common.{sym, ◌∙◌, arith}
use Rattle.snl_grammar.specs.Items.{is_text}
use Rattle.snl_grammar.proofs.Headers.{header_end, header_shut, header_three, header_two, some_within}
use Rattle.snl_grammar.proofs.item_cut.header_length.Goals as goal

pub returns-then-not-is_open_paren_at : goal.returns-then-not-is_open_paren_at
returns-then-not-is_open_paren_at c =
    sym (header_two c.args.rest.now c.requires (sym c.is_name_at.ensures ∙ c.if-not-is_name_at.false) (sym c.is_open_paren_at.ensures ∙ c.if-not-is_open_paren_at.true))

pub returns-then-not-is_text_at : goal.returns-then-not-is_text_at
returns-then-not-is_text_at c =
    sym (header_three c.args.rest.now c.requires (sym c.is_name_at.ensures ∙ c.if-not-is_name_at.false) (sym c.is_open_paren_at.ensures ∙ c.if-not-is_open_paren_at.false) (sym c.is_text_at.ensures ∙ c.if-not-is_text_at.true))

pub texts_end-end-requires : goal.texts_end-end-requires
texts_end-end-requires c =
    let within = some_within is_text c.args.rest.now 3 (sym c.is_text_at.ensures ∙ c.if-not-is_text_at.false) in
    omega (arith, within)

pub returns-then-is_close_paren_at : goal.returns-then-is_close_paren_at
returns-then-is_close_paren_at c =
    sym (header_shut c.args.rest.now c.texts_end-end.result (record {
      program = c.requires;
      name = sym c.is_name_at.ensures ∙ c.if-not-is_name_at.false;
      paren = sym c.is_open_paren_at.ensures ∙ c.if-not-is_open_paren_at.false;
      text = sym c.is_text_at.ensures ∙ c.if-not-is_text_at.false;
    }) c.texts_end-end.ensures.low c.texts_end-end.ensures.texts c.texts_end-end.ensures.stop (sym c.is_close_paren_at.ensures ∙ c.if-is_close_paren_at.true))

pub returns-else-is_close_paren_at : goal.returns-else-is_close_paren_at
returns-else-is_close_paren_at c =
    sym (header_end c.args.rest.now c.texts_end-end.result (record {
      program = c.requires;
      name = sym c.is_name_at.ensures ∙ c.if-not-is_name_at.false;
      paren = sym c.is_open_paren_at.ensures ∙ c.if-not-is_open_paren_at.false;
      text = sym c.is_text_at.ensures ∙ c.if-not-is_text_at.false;
    }) c.texts_end-end.ensures.low c.texts_end-end.ensures.high c.texts_end-end.ensures.texts c.texts_end-end.ensures.stop (sym c.is_close_paren_at.ensures ∙ c.if-is_close_paren_at.false))
