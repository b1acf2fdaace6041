-- Clauses, options and foreign names: what was read is in the grammar, and what was read before a
-- blamed token can be completed.
use Rattle.std.proofs.Common.{◌≡◌, ℕ, Bool, true, false, List, [], ◌∷◌, Option, Some, refl, ap, subst, ◌∙◌}
use Rattle.snl_lex.specs.declared.kind.Kind.{Kind}
use Rattle.snl_lex.specs.declared.kind.Kind.TheVariants as kind
use Rattle.snl_grammar.specs.declared.tree.clause.Channel.{Channel}
use Rattle.snl_grammar.specs.declared.tree.clause.Channel.TheVariants as channels
use Rattle.snl_grammar.specs.declared.tree.clause.Flag.{Flag}
use Rattle.snl_grammar.specs.declared.tree.clause.Clause.{Clause}
use Rattle.snl_grammar.specs.declared.tree.clause.Clause.TheVariants as clauses
use Rattle.snl_grammar.specs.declared.tree.clause.OptionSign.{OptionSign}
use Rattle.snl_grammar.specs.declared.tree.clause.OptionSign.TheVariants as signs
use Rattle.snl_grammar.specs.declared.tree.clause.OptionLine.{OptionLine}
use Rattle.snl_grammar.specs.Tokens.{NumberedKind}
use Rattle.snl_grammar.specs.Steps.{pure, kind_at, expect, accept, until}
use Rattle.snl_grammar.specs.Grammar.Base.{First, Leaf, Perhaps}
use Rattle.snl_grammar.specs.Grammar.Types.{Written}
use Rattle.snl_grammar.specs.Grammar.Expressions.{IsAfterComma, AreCommas, AreTexts}
use Rattle.snl_grammar.specs.Grammar.Declarations.{AreBraced}
use Rattle.snl_grammar.specs.Grammar.Clauses.{AreForeign, option_kind, IsOptionLine, IsSubscript, IsFlag, IsChannel, anonymous, whole as is_whole, element as is_element, elements as are_elements, syncq_word, IsClause, assign as is_assign, monitor as is_monitor, sync as is_sync, syncq as is_syncq}
use Rattle.snl_grammar.specs.Reading.Expressions.{commas, texts}
use Rattle.snl_grammar.specs.Reading.Clauses.{foreign, sign_by, sign, option_line, subscript, some_subscript, subscript_by, subscript_part, flag, some_flag, flag_by, flag_part, some_queue, queue_by, queue_part, after_comma_by, after_comma, text_step_by, text_step, some_elements, elements_by, elements, whole, channel_to_by, channel_to, named_channel, element, channel_by, channel, assign, monitor, sync, syncq_rest, syncq, syncq_capital, clause_by, clause}
use Rattle.snl_grammar.proofs.Viable.{Makes, Viable, Completable, Exists, Both, both, IsNothing, Ends, bind_completable, into_completable, choice_viable, refuse_viable, expect_completable, accept_completable, pure_completable}
use Rattle.snl_grammar.proofs.TypeLaws.{word_completable, first_then}
use Rattle.snl_grammar.proofs.CommasViable.{commas_completable, texts_completable}
use Rattle.snl_grammar.proofs.Braced.{none_perhaps, some_perhaps, perhaps_completable, IsLast, IsValueStep, AllValues, After, AfterAim, close_viable, more_viable, comma_step, last_step, values_completable, braced_values}

abbrev make_option : OptionSign → ℕ → OptionLine
make_option s n = record { sign = s; letters = n }

abbrev make_flag : Bool → ℕ → Flag
make_flag b n = record { to = b; name = n }

abbrev IsSign : OptionSign → List NumberedKind → List NumberedKind → Type 0
IsSign s k rest = First (option_kind s) k rest

module _ (free extra : ℕ) where
  into_foreign : (y : List ℕ) (k rest : List NumberedKind) → Both (Leaf kind.Foreign) (λ _. Both (AreCommas (Leaf kind.Name)) (λ ns. Both (Leaf kind.Semicolon) (λ _. IsNothing (ns)))) y k rest → (AreForeign) y k rest
  into_foreign y k rest (both v0 m1 w0 (both v1 m2 w1 (both v2 m3 w2 h))) = subst (λ z. (AreForeign) z k rest) h.0 (record { m1 = m1; m2 = m2; word = (v0, w0); names = w1; semicolon = first_then kind.Semicolon v2 m2 m3 rest w2 h.1 })

  pub foreign_completable : Completable free extra (foreign) (AreForeign) (kind.Foreign ∷ kind.Name ∷ kind.Semicolon ∷ [])
  unfolding foreign
  foreign_completable = into_completable free extra (foreign) _ (AreForeign) (kind.Foreign ∷ kind.Name ∷ kind.Semicolon ∷ []) (into_foreign) (bind_completable free extra (expect kind.Foreign) _ (Leaf kind.Foreign) (λ _. Both (AreCommas (Leaf kind.Name)) (λ ns. Both (Leaf kind.Semicolon) (λ _. IsNothing (ns)))) (kind.Foreign ∷ []) (kind.Name ∷ kind.Semicolon ∷ []) (expect_completable free extra kind.Foreign) (λ _. bind_completable free extra (commas (expect kind.Name)) _ (AreCommas (Leaf kind.Name)) (λ ns. Both (Leaf kind.Semicolon) (λ _. IsNothing (ns))) (kind.Name ∷ []) (kind.Semicolon ∷ []) (commas_completable free extra (Leaf kind.Name) (expect kind.Name) (kind.Name ∷ []) (expect_completable free extra kind.Name)) (λ ns. bind_completable free extra (expect kind.Semicolon) _ (Leaf kind.Semicolon) (λ _. IsNothing (ns)) (kind.Semicolon ∷ []) [] (expect_completable free extra kind.Semicolon) (λ _. pure_completable free extra (ns)))))

  sign_by_viable : (o : Option Kind) → Viable free extra (sign_by o) IsSign (Exists IsSign)
  sign_by_viable (Some kind.Plus) = (word_completable free extra kind.Plus signs.Plus IsSign (λ k rest f. f)).viable
  sign_by_viable (Some kind.Minus) = (word_completable free extra kind.Minus signs.Minus IsSign (λ k rest f. f)).viable
  sign_by_viable _ = refuse_viable free extra IsSign (Exists IsSign) (kind.Plus ∷ []) (λ n rest room. (signs.Plus, (n, refl)))

  sign_completable : Completable free extra sign IsSign (kind.Plus ∷ [])
  unfolding sign
  sign_completable = record { viable = choice_viable free extra sign_by IsSign (Exists IsSign) sign_by_viable; makes = λ n rest room. (signs.Plus, (n, refl)) }

  into_option_line : (y : OptionLine) (k rest : List NumberedKind) → Both (Leaf kind.Option) (λ _. Both (IsSign) (λ s. Both (Leaf kind.Name) (λ n. Both (Leaf kind.Semicolon) (λ _. IsNothing (make_option s n))))) y k rest → (IsOptionLine) y k rest
  into_option_line y k rest (both v0 m1 w0 (both v1 m2 w1 (both v2 m3 w2 (both v3 m4 w3 h)))) = subst (λ z. (IsOptionLine) z k rest) h.0 (record { m1 = m1; m2 = m2; m3 = m3; word = (v0, w0); sign = w1; letters = w2; semicolon = first_then kind.Semicolon v3 m3 m4 rest w3 h.1 })

  pub option_line_completable : Completable free extra (option_line) (IsOptionLine) (kind.Option ∷ kind.Plus ∷ kind.Name ∷ kind.Semicolon ∷ [])
  unfolding option_line
  option_line_completable = into_completable free extra (option_line) _ (IsOptionLine) (kind.Option ∷ kind.Plus ∷ kind.Name ∷ kind.Semicolon ∷ []) (into_option_line) (bind_completable free extra (expect kind.Option) _ (Leaf kind.Option) (λ _. Both (IsSign) (λ s. Both (Leaf kind.Name) (λ n. Both (Leaf kind.Semicolon) (λ _. IsNothing (make_option s n))))) (kind.Option ∷ []) (kind.Plus ∷ kind.Name ∷ kind.Semicolon ∷ []) (expect_completable free extra kind.Option) (λ _. bind_completable free extra (sign) _ (IsSign) (λ s. Both (Leaf kind.Name) (λ n. Both (Leaf kind.Semicolon) (λ _. IsNothing (make_option s n)))) (kind.Plus ∷ []) (kind.Name ∷ kind.Semicolon ∷ []) (sign_completable) (λ s. bind_completable free extra (expect kind.Name) _ (Leaf kind.Name) (λ n. Both (Leaf kind.Semicolon) (λ _. IsNothing (make_option s n))) (kind.Name ∷ []) (kind.Semicolon ∷ []) (expect_completable free extra kind.Name) (λ n. bind_completable free extra (expect kind.Semicolon) _ (Leaf kind.Semicolon) (λ _. IsNothing (make_option s n)) (kind.Semicolon ∷ []) [] (expect_completable free extra kind.Semicolon) (λ _. pure_completable free extra (make_option s n))))))

  into_subscript : (y : ℕ) (k rest : List NumberedKind) → Both (Leaf kind.OpenBracket) (λ _. Both (Leaf kind.Integer) (λ n. Both (Leaf kind.CloseBracket) (λ _. IsNothing (n)))) y k rest → (IsSubscript) y k rest
  into_subscript y k rest (both v0 m1 w0 (both v1 m2 w1 (both v2 m3 w2 h))) = subst (λ z. (IsSubscript) z k rest) h.0 (record { m1 = m1; m2 = m2; opening = (v0, w0); number = w1; closing = first_then kind.CloseBracket v2 m2 m3 rest w2 h.1 })

  subscript_completable : Completable free extra (subscript) (IsSubscript) (kind.OpenBracket ∷ kind.Integer ∷ kind.CloseBracket ∷ [])
  unfolding subscript
  subscript_completable = into_completable free extra (subscript) _ (IsSubscript) (kind.OpenBracket ∷ kind.Integer ∷ kind.CloseBracket ∷ []) (into_subscript) (bind_completable free extra (expect kind.OpenBracket) _ (Leaf kind.OpenBracket) (λ _. Both (Leaf kind.Integer) (λ n. Both (Leaf kind.CloseBracket) (λ _. IsNothing (n)))) (kind.OpenBracket ∷ []) (kind.Integer ∷ kind.CloseBracket ∷ []) (expect_completable free extra kind.OpenBracket) (λ _. bind_completable free extra (expect kind.Integer) _ (Leaf kind.Integer) (λ n. Both (Leaf kind.CloseBracket) (λ _. IsNothing (n))) (kind.Integer ∷ []) (kind.CloseBracket ∷ []) (expect_completable free extra kind.Integer) (λ n. bind_completable free extra (expect kind.CloseBracket) _ (Leaf kind.CloseBracket) (λ _. IsNothing (n)) (kind.CloseBracket ∷ []) [] (expect_completable free extra kind.CloseBracket) (λ _. pure_completable free extra (n)))))

  some_subscript_viable : Viable free extra some_subscript (Perhaps (IsSubscript)) (Exists (Perhaps (IsSubscript)))
  unfolding some_subscript
  some_subscript_viable = some_perhaps free extra (IsSubscript) subscript (kind.OpenBracket ∷ kind.Integer ∷ kind.CloseBracket ∷ []) (subscript_completable)

  subscript_by_viable : (o : Option Kind) → Viable free extra (subscript_by o) (Perhaps (IsSubscript)) (Exists (Perhaps (IsSubscript)))
  subscript_by_viable (Some kind.OpenBracket) = some_subscript_viable
  subscript_by_viable _ = none_perhaps free extra (IsSubscript)

  subscript_part_completable : Completable free extra subscript_part (Perhaps (IsSubscript)) []
  unfolding subscript_part
  subscript_part_completable = perhaps_completable free extra (IsSubscript) subscript_by subscript_by_viable

  into_flag : (y : Flag) (k rest : List NumberedKind) → Both (Written kind.To) (λ b. Both (Leaf kind.Name) (λ n. IsNothing (make_flag b n))) y k rest → (IsFlag) y k rest
  into_flag y k rest (both v0 m1 w0 (both v1 m2 w1 h)) = subst (λ z. (IsFlag) z k rest) h.0 (record { mid = m1; to = w0; name = w1 ∙ ap (λ (l : List NumberedKind). (kind.Name, v1) ∷ l) h.1 })

  flag_completable : Completable free extra (flag) (IsFlag) (kind.Name ∷ [])
  unfolding flag
  flag_completable = into_completable free extra (flag) _ (IsFlag) (kind.Name ∷ []) (into_flag) (bind_completable free extra (accept kind.To) _ (Written kind.To) (λ b. Both (Leaf kind.Name) (λ n. IsNothing (make_flag b n))) [] (kind.Name ∷ []) (accept_completable free extra kind.To) (λ b. bind_completable free extra (expect kind.Name) _ (Leaf kind.Name) (λ n. IsNothing (make_flag b n)) (kind.Name ∷ []) [] (expect_completable free extra kind.Name) (λ n. pure_completable free extra (make_flag b n))))

  some_flag_viable : Viable free extra some_flag (Perhaps (IsFlag)) (Exists (Perhaps (IsFlag)))
  unfolding some_flag
  some_flag_viable = some_perhaps free extra (IsFlag) flag (kind.Name ∷ []) (flag_completable)

  flag_by_viable : (o : Option Kind) → Viable free extra (flag_by o) (Perhaps (IsFlag)) (Exists (Perhaps (IsFlag)))
  flag_by_viable (Some kind.To) = some_flag_viable
  flag_by_viable (Some kind.Name) = some_flag_viable
  flag_by_viable _ = none_perhaps free extra (IsFlag)

  flag_part_completable : Completable free extra flag_part (Perhaps (IsFlag)) []
  unfolding flag_part
  flag_part_completable = perhaps_completable free extra (IsFlag) flag_by flag_by_viable

  some_queue_viable : Viable free extra some_queue (Perhaps (Leaf kind.Integer)) (Exists (Perhaps (Leaf kind.Integer)))
  unfolding some_queue
  some_queue_viable = some_perhaps free extra (Leaf kind.Integer) (expect kind.Integer) (kind.Integer ∷ []) (expect_completable free extra kind.Integer)

  queue_by_viable : (o : Option Kind) → Viable free extra (queue_by o) (Perhaps (Leaf kind.Integer)) (Exists (Perhaps (Leaf kind.Integer)))
  queue_by_viable (Some kind.Integer) = some_queue_viable
  queue_by_viable _ = none_perhaps free extra (Leaf kind.Integer)

  queue_part_completable : Completable free extra queue_part (Perhaps (Leaf kind.Integer)) []
  unfolding queue_part
  queue_part_completable = perhaps_completable free extra (Leaf kind.Integer) queue_by queue_by_viable

  -- ---- channels

  after_comma_by_viable : (o : Option Kind) → Viable free extra (after_comma_by o) (After free extra AreTexts texts (kind.Text ∷ []) (texts_completable free extra)) (AfterAim free extra AreTexts texts (kind.Text ∷ []) (texts_completable free extra))
  after_comma_by_viable (Some kind.CloseBrace) = close_viable free extra AreTexts texts (kind.Text ∷ []) (texts_completable free extra)
  after_comma_by_viable _ = more_viable free extra AreTexts texts (kind.Text ∷ []) (texts_completable free extra)

  after_comma_viable : Viable free extra after_comma (IsValueStep free extra AreTexts texts (kind.Text ∷ []) (texts_completable free extra)) (AllValues free extra AreTexts texts (kind.Text ∷ []) (texts_completable free extra))
  unfolding after_comma
  after_comma_viable = comma_step free extra AreTexts texts (kind.Text ∷ []) (texts_completable free extra) after_comma_by after_comma_by_viable

  text_step_by_viable : (o : Option Kind) → Viable free extra (text_step_by o) (IsValueStep free extra AreTexts texts (kind.Text ∷ []) (texts_completable free extra)) (AllValues free extra AreTexts texts (kind.Text ∷ []) (texts_completable free extra))
  text_step_by_viable (Some kind.Comma) = after_comma_viable
  text_step_by_viable _ = last_step free extra AreTexts texts (kind.Text ∷ []) (texts_completable free extra)

  text_step_viable : Viable free extra text_step (IsValueStep free extra AreTexts texts (kind.Text ∷ []) (texts_completable free extra)) (AllValues free extra AreTexts texts (kind.Text ∷ []) (texts_completable free extra))
  unfolding text_step
  text_step_viable = choice_viable free extra text_step_by (IsValueStep free extra AreTexts texts (kind.Text ∷ []) (texts_completable free extra)) (AllValues free extra AreTexts texts (kind.Text ∷ []) (texts_completable free extra)) text_step_by_viable

  -- what comes after "{", where `to` is written or not
  abbrev InBraces : Bool → Channel → List NumberedKind → List NumberedKind → Type 0
  InBraces b t k rest = (xs : List (List ℕ)) × (trailing : Bool) × (t ≡ channels.Elements b xs trailing) × AreBraced AreTexts xs trailing k rest

  into_some_elements : (b : Bool) → (y : Channel) (k rest : List NumberedKind) → Both (AreTexts) (λ first. Both (Ends (IsAfterComma AreTexts) (IsLast free extra AreTexts texts (kind.Text ∷ []) (texts_completable free extra)) (first ∷ [])) (λ r. Both (Leaf kind.CloseBrace) (λ _. IsNothing (channels.Elements b r.0 r.1)))) y k rest → (InBraces b) y k rest
  into_some_elements b y k rest (both v0 m1 w0 (both v1 m2 w1 (both v2 m3 w2 h))) = subst (λ z. (InBraces b) z k rest) h.0 ((v1.0, v1.1, refl, braced_values free extra AreTexts texts (kind.Text ∷ []) (texts_completable free extra) v0 v1 k m1 m2 rest w0 w1 (first_then kind.CloseBrace v2 m2 m3 rest w2 h.1)))

  some_elements_completable : (b : Bool) → Completable free extra (some_elements b) (InBraces b) (kind.Text ∷ kind.CloseBrace ∷ [])
  unfolding some_elements
  some_elements_completable b = into_completable free extra (some_elements b) _ (InBraces b) (kind.Text ∷ kind.CloseBrace ∷ []) (into_some_elements b) (bind_completable free extra (texts) _ (AreTexts) (λ first. Both (Ends (IsAfterComma AreTexts) (IsLast free extra AreTexts texts (kind.Text ∷ []) (texts_completable free extra)) (first ∷ [])) (λ r. Both (Leaf kind.CloseBrace) (λ _. IsNothing (channels.Elements b r.0 r.1)))) (kind.Text ∷ []) (kind.CloseBrace ∷ []) (texts_completable free extra) (λ first. bind_completable free extra (until text_step (first ∷ [])) _ (Ends (IsAfterComma AreTexts) (IsLast free extra AreTexts texts (kind.Text ∷ []) (texts_completable free extra)) (first ∷ [])) (λ r. Both (Leaf kind.CloseBrace) (λ _. IsNothing (channels.Elements b r.0 r.1))) [] (kind.CloseBrace ∷ []) (values_completable free extra AreTexts texts (kind.Text ∷ []) (texts_completable free extra) text_step text_step_viable (first ∷ [])) (λ r. bind_completable free extra (expect kind.CloseBrace) _ (Leaf kind.CloseBrace) (λ _. IsNothing (channels.Elements b r.0 r.1)) (kind.CloseBrace ∷ []) [] (expect_completable free extra kind.CloseBrace) (λ _. pure_completable free extra (channels.Elements b r.0 r.1)))))

  elements_by_viable : (b : Bool) (o : Option Kind) → Viable free extra (elements_by b o) (InBraces b) (Exists (InBraces b))
  elements_by_viable b (Some kind.CloseBrace) = (word_completable free extra kind.CloseBrace (channels.Elements b [] false) (InBraces b) (λ k rest f. ([], false, refl, (refl, f)))).viable
  elements_by_viable b _ = (some_elements_completable b).viable

  elements_in_completable : (b : Bool) → Completable free extra (λ k. elements_by b (kind_at k) k) (InBraces b) (kind.CloseBrace ∷ [])
  elements_in_completable b = record { viable = choice_viable free extra (elements_by b) (InBraces b) (Exists (InBraces b)) (elements_by_viable b); makes = λ n rest room. (channels.Elements b [] false, ([], false, refl, (refl, (n, refl)))) }

  -- after `to`, which is written or not
  abbrev IsChannelTo : Bool → Channel → List NumberedKind → List NumberedKind → Type 0
  IsChannelTo b t mid rest = (k : List NumberedKind) → Written kind.To b k mid → IsChannel t k rest

  into_elements : (b : Bool) (y : Channel) (k rest : List NumberedKind) → Both (Leaf kind.OpenBrace) (λ _. InBraces b) y k rest → IsChannelTo b y k rest
  into_elements b y k rest (both n m e h) k0 w = are_elements b h.0 h.1 k m h.2 w (n, e) h.3

  elements_viable : (b : Bool) → Viable free extra (elements b) (IsChannelTo b) (Exists (IsChannelTo b))
  unfolding elements
  elements_viable b = (into_completable free extra (elements b) (Both (Leaf kind.OpenBrace) (λ _. InBraces b)) (IsChannelTo b) (kind.OpenBrace ∷ kind.CloseBrace ∷ []) (into_elements b) (bind_completable free extra (expect kind.OpenBrace) _ (Leaf kind.OpenBrace) (λ _. InBraces b) (kind.OpenBrace ∷ []) (kind.CloseBrace ∷ []) (expect_completable free extra kind.OpenBrace) (λ _. elements_in_completable b))).viable

  into_whole : (b : Bool) (y : Channel) (k rest : List NumberedKind) → Both AreTexts (λ x. IsNothing (channels.Whole b x)) y k rest → IsChannelTo b y k rest
  into_whole b y k rest (both ns m r h) k0 w = subst (λ z. IsChannel z k0 rest) h.0 (is_whole b ns k refl w (subst (λ l. AreTexts ns k l) h.1 r))

  whole_completable : (b : Bool) → Completable free extra (whole b) (IsChannelTo b) (kind.Text ∷ [])
  unfolding whole
  whole_completable b = into_completable free extra (whole b) _ (IsChannelTo b) (kind.Text ∷ []) (into_whole b) (bind_completable free extra texts _ AreTexts (λ x. IsNothing (channels.Whole b x)) (kind.Text ∷ []) [] (texts_completable free extra) (λ x. pure_completable free extra (channels.Whole b x)))

  channel_to_by_viable : (b : Bool) (o : Option Kind) → Viable free extra (channel_to_by b o) (IsChannelTo b) (Exists (IsChannelTo b))
  channel_to_by_viable b (Some kind.OpenBrace) = elements_viable b
  channel_to_by_viable b _ = (whole_completable b).viable

  channel_to_completable : (b : Bool) → Completable free extra (channel_to b) (IsChannelTo b) (kind.Text ∷ [])
  unfolding channel_to
  channel_to_completable b = record { viable = choice_viable free extra (channel_to_by b) (IsChannelTo b) (Exists (IsChannelTo b)) (channel_to_by_viable b); makes = (whole_completable b).makes }

  into_named : (y : Channel) (k rest : List NumberedKind) → Both (Written kind.To) IsChannelTo y k rest → IsChannel y k rest
  into_named y k rest (both b m w c) = c k w

  named_channel_viable : Viable free extra named_channel IsChannel (Exists IsChannel)
  unfolding named_channel
  named_channel_viable = (into_completable free extra named_channel (Both (Written kind.To) IsChannelTo) IsChannel (kind.Text ∷ []) into_named (bind_completable free extra (accept kind.To) channel_to (Written kind.To) IsChannelTo [] (kind.Text ∷ []) (accept_completable free extra kind.To) channel_to_completable)).viable

  into_element : (y : Channel) (k rest : List NumberedKind) → Both (IsSubscript) (λ n. Both (Written kind.To) (λ b. Both (AreTexts) (λ x. IsNothing (channels.Element n b x)))) y k rest → (IsChannel) y k rest
  into_element y k rest (both v0 m1 w0 (both v1 m2 w1 (both v2 m3 w2 h))) = subst (λ z. (IsChannel) z k rest) h.0 (is_element v0 v1 v2 m1 m2 refl w0 w1 (subst (λ l. AreTexts v2 m2 l) h.1 w2))

  element_completable : Completable free extra (element) (IsChannel) (kind.OpenBracket ∷ kind.Integer ∷ kind.CloseBracket ∷ kind.Text ∷ [])
  unfolding element
  element_completable = into_completable free extra (element) _ (IsChannel) (kind.OpenBracket ∷ kind.Integer ∷ kind.CloseBracket ∷ kind.Text ∷ []) (into_element) (bind_completable free extra (subscript) _ (IsSubscript) (λ n. Both (Written kind.To) (λ b. Both (AreTexts) (λ x. IsNothing (channels.Element n b x)))) (kind.OpenBracket ∷ kind.Integer ∷ kind.CloseBracket ∷ []) (kind.Text ∷ []) (subscript_completable) (λ n. bind_completable free extra (accept kind.To) _ (Written kind.To) (λ b. Both (AreTexts) (λ x. IsNothing (channels.Element n b x))) [] (kind.Text ∷ []) (accept_completable free extra kind.To) (λ b. bind_completable free extra (texts) _ (AreTexts) (λ x. IsNothing (channels.Element n b x)) (kind.Text ∷ []) [] (texts_completable free extra) (λ x. pure_completable free extra (channels.Element n b x)))))

  channel_by_viable : (o : Option Kind) → Viable free extra (channel_by o) IsChannel (Exists IsChannel)
  channel_by_viable (Some kind.Semicolon) = (into_completable free extra (pure channels.Anonymous) (IsNothing channels.Anonymous) IsChannel [] (λ y k rest h. subst (λ z. IsChannel z k rest) h.0 (anonymous refl h.1)) (pure_completable free extra channels.Anonymous)).viable
  channel_by_viable (Some kind.OpenBracket) = element_completable.viable
  channel_by_viable _ = named_channel_viable

  channel_completable : Completable free extra channel IsChannel []
  unfolding channel
  channel_completable = record { viable = choice_viable free extra channel_by IsChannel (Exists IsChannel) channel_by_viable; makes = λ n rest room. (channels.Anonymous, anonymous refl refl) }

  -- ---- clauses

  into_assign : (y : Clause) (k rest : List NumberedKind) → Both (Leaf kind.Assign) (λ _. Both (Leaf kind.Name) (λ n. Both (IsChannel) (λ x. Both (Leaf kind.Semicolon) (λ _. IsNothing (clauses.Assign n x))))) y k rest → (IsClause) y k rest
  into_assign y k rest (both v0 m1 w0 (both v1 m2 w1 (both v2 m3 w2 (both v3 m4 w3 h)))) = subst (λ z. (IsClause) z k rest) h.0 (is_assign v1 v2 refl (record { m1 = m1; m2 = m2; m3 = m3; word = (v0, w0); name = w1; channel = w2; semicolon = first_then kind.Semicolon v3 m3 m4 rest w3 h.1 }))

  assign_completable : Completable free extra (assign) (IsClause) (kind.Assign ∷ kind.Name ∷ kind.Semicolon ∷ [])
  unfolding assign
  assign_completable = into_completable free extra (assign) _ (IsClause) (kind.Assign ∷ kind.Name ∷ kind.Semicolon ∷ []) (into_assign) (bind_completable free extra (expect kind.Assign) _ (Leaf kind.Assign) (λ _. Both (Leaf kind.Name) (λ n. Both (IsChannel) (λ x. Both (Leaf kind.Semicolon) (λ _. IsNothing (clauses.Assign n x))))) (kind.Assign ∷ []) (kind.Name ∷ kind.Semicolon ∷ []) (expect_completable free extra kind.Assign) (λ _. bind_completable free extra (expect kind.Name) _ (Leaf kind.Name) (λ n. Both (IsChannel) (λ x. Both (Leaf kind.Semicolon) (λ _. IsNothing (clauses.Assign n x)))) (kind.Name ∷ []) (kind.Semicolon ∷ []) (expect_completable free extra kind.Name) (λ n. bind_completable free extra (channel) _ (IsChannel) (λ x. Both (Leaf kind.Semicolon) (λ _. IsNothing (clauses.Assign n x))) [] (kind.Semicolon ∷ []) (channel_completable) (λ x. bind_completable free extra (expect kind.Semicolon) _ (Leaf kind.Semicolon) (λ _. IsNothing (clauses.Assign n x)) (kind.Semicolon ∷ []) [] (expect_completable free extra kind.Semicolon) (λ _. pure_completable free extra (clauses.Assign n x))))))

  into_monitor : (y : Clause) (k rest : List NumberedKind) → Both (Leaf kind.Monitor) (λ _. Both (Leaf kind.Name) (λ n. Both (Perhaps IsSubscript) (λ s. Both (Leaf kind.Semicolon) (λ _. IsNothing (clauses.Monitor n s))))) y k rest → (IsClause) y k rest
  into_monitor y k rest (both v0 m1 w0 (both v1 m2 w1 (both v2 m3 w2 (both v3 m4 w3 h)))) = subst (λ z. (IsClause) z k rest) h.0 (is_monitor v1 v2 refl (record { m1 = m1; m2 = m2; m3 = m3; word = (v0, w0); name = w1; subscript = w2; semicolon = first_then kind.Semicolon v3 m3 m4 rest w3 h.1 }))

  monitor_completable : Completable free extra (monitor) (IsClause) (kind.Monitor ∷ kind.Name ∷ kind.Semicolon ∷ [])
  unfolding monitor
  monitor_completable = into_completable free extra (monitor) _ (IsClause) (kind.Monitor ∷ kind.Name ∷ kind.Semicolon ∷ []) (into_monitor) (bind_completable free extra (expect kind.Monitor) _ (Leaf kind.Monitor) (λ _. Both (Leaf kind.Name) (λ n. Both (Perhaps IsSubscript) (λ s. Both (Leaf kind.Semicolon) (λ _. IsNothing (clauses.Monitor n s))))) (kind.Monitor ∷ []) (kind.Name ∷ kind.Semicolon ∷ []) (expect_completable free extra kind.Monitor) (λ _. bind_completable free extra (expect kind.Name) _ (Leaf kind.Name) (λ n. Both (Perhaps IsSubscript) (λ s. Both (Leaf kind.Semicolon) (λ _. IsNothing (clauses.Monitor n s)))) (kind.Name ∷ []) (kind.Semicolon ∷ []) (expect_completable free extra kind.Name) (λ n. bind_completable free extra (subscript_part) _ (Perhaps IsSubscript) (λ s. Both (Leaf kind.Semicolon) (λ _. IsNothing (clauses.Monitor n s))) [] (kind.Semicolon ∷ []) (subscript_part_completable) (λ s. bind_completable free extra (expect kind.Semicolon) _ (Leaf kind.Semicolon) (λ _. IsNothing (clauses.Monitor n s)) (kind.Semicolon ∷ []) [] (expect_completable free extra kind.Semicolon) (λ _. pure_completable free extra (clauses.Monitor n s))))))

  into_sync : (y : Clause) (k rest : List NumberedKind) → Both (Leaf kind.Sync) (λ _. Both (Leaf kind.Name) (λ n. Both (Perhaps IsSubscript) (λ s. Both (IsFlag) (λ f. Both (Leaf kind.Semicolon) (λ _. IsNothing (clauses.Sync n s f)))))) y k rest → (IsClause) y k rest
  into_sync y k rest (both v0 m1 w0 (both v1 m2 w1 (both v2 m3 w2 (both v3 m4 w3 (both v4 m5 w4 h))))) = subst (λ z. (IsClause) z k rest) h.0 (is_sync v1 v2 v3 refl (record { m1 = m1; m2 = m2; m3 = m3; m4 = m4; word = (v0, w0); name = w1; subscript = w2; flag = w3; semicolon = first_then kind.Semicolon v4 m4 m5 rest w4 h.1 }))

  sync_completable : Completable free extra (sync) (IsClause) (kind.Sync ∷ kind.Name ∷ kind.Name ∷ kind.Semicolon ∷ [])
  unfolding sync
  sync_completable = into_completable free extra (sync) _ (IsClause) (kind.Sync ∷ kind.Name ∷ kind.Name ∷ kind.Semicolon ∷ []) (into_sync) (bind_completable free extra (expect kind.Sync) _ (Leaf kind.Sync) (λ _. Both (Leaf kind.Name) (λ n. Both (Perhaps IsSubscript) (λ s. Both (IsFlag) (λ f. Both (Leaf kind.Semicolon) (λ _. IsNothing (clauses.Sync n s f)))))) (kind.Sync ∷ []) (kind.Name ∷ kind.Name ∷ kind.Semicolon ∷ []) (expect_completable free extra kind.Sync) (λ _. bind_completable free extra (expect kind.Name) _ (Leaf kind.Name) (λ n. Both (Perhaps IsSubscript) (λ s. Both (IsFlag) (λ f. Both (Leaf kind.Semicolon) (λ _. IsNothing (clauses.Sync n s f))))) (kind.Name ∷ []) (kind.Name ∷ kind.Semicolon ∷ []) (expect_completable free extra kind.Name) (λ n. bind_completable free extra (subscript_part) _ (Perhaps IsSubscript) (λ s. Both (IsFlag) (λ f. Both (Leaf kind.Semicolon) (λ _. IsNothing (clauses.Sync n s f)))) [] (kind.Name ∷ kind.Semicolon ∷ []) (subscript_part_completable) (λ s. bind_completable free extra (flag) _ (IsFlag) (λ f. Both (Leaf kind.Semicolon) (λ _. IsNothing (clauses.Sync n s f))) (kind.Name ∷ []) (kind.Semicolon ∷ []) (flag_completable) (λ f. bind_completable free extra (expect kind.Semicolon) _ (Leaf kind.Semicolon) (λ _. IsNothing (clauses.Sync n s f)) (kind.Semicolon ∷ []) [] (expect_completable free extra kind.Semicolon) (λ _. pure_completable free extra (clauses.Sync n s f)))))))

  -- after the word of a syncq
  abbrev IsRest : Bool → Clause → List NumberedKind → List NumberedKind → Type 0
  IsRest capital t m1 rest = (k : List NumberedKind) → First (syncq_word capital) k m1 → IsClause t k rest

  into_rest : (capital : Bool) → (y : Clause) (k rest : List NumberedKind) → Both (Leaf kind.Name) (λ n. Both (Perhaps IsSubscript) (λ s. Both (Perhaps IsFlag) (λ f. Both (Perhaps (Leaf kind.Integer)) (λ q. Both (Leaf kind.Semicolon) (λ _. IsNothing (clauses.Syncq capital n s f q)))))) y k rest → (IsRest capital) y k rest
  into_rest capital y k rest (both v0 m1 w0 (both v1 m2 w1 (both v2 m3 w2 (both v3 m4 w3 (both v4 m5 w4 h))))) = subst (λ z. (IsRest capital) z k rest) h.0 (λ k0 word. is_syncq capital v0 v1 v2 v3 refl (record { m1 = k; m2 = m1; m3 = m2; m4 = m3; m5 = m4; word = word; name = w0; subscript = w1; flag = w2; queue = w3; semicolon = first_then kind.Semicolon v4 m4 m5 rest w4 h.1 }))

  rest_completable : (capital : Bool) → Completable free extra (syncq_rest capital) (IsRest capital) (kind.Name ∷ kind.Semicolon ∷ [])
  unfolding syncq_rest
  rest_completable capital = into_completable free extra (syncq_rest capital) _ (IsRest capital) (kind.Name ∷ kind.Semicolon ∷ []) (into_rest capital) (bind_completable free extra (expect kind.Name) _ (Leaf kind.Name) (λ n. Both (Perhaps IsSubscript) (λ s. Both (Perhaps IsFlag) (λ f. Both (Perhaps (Leaf kind.Integer)) (λ q. Both (Leaf kind.Semicolon) (λ _. IsNothing (clauses.Syncq capital n s f q)))))) (kind.Name ∷ []) (kind.Semicolon ∷ []) (expect_completable free extra kind.Name) (λ n. bind_completable free extra (subscript_part) _ (Perhaps IsSubscript) (λ s. Both (Perhaps IsFlag) (λ f. Both (Perhaps (Leaf kind.Integer)) (λ q. Both (Leaf kind.Semicolon) (λ _. IsNothing (clauses.Syncq capital n s f q))))) [] (kind.Semicolon ∷ []) (subscript_part_completable) (λ s. bind_completable free extra (flag_part) _ (Perhaps IsFlag) (λ f. Both (Perhaps (Leaf kind.Integer)) (λ q. Both (Leaf kind.Semicolon) (λ _. IsNothing (clauses.Syncq capital n s f q)))) [] (kind.Semicolon ∷ []) (flag_part_completable) (λ f. bind_completable free extra (queue_part) _ (Perhaps (Leaf kind.Integer)) (λ q. Both (Leaf kind.Semicolon) (λ _. IsNothing (clauses.Syncq capital n s f q))) [] (kind.Semicolon ∷ []) (queue_part_completable) (λ q. bind_completable free extra (expect kind.Semicolon) _ (Leaf kind.Semicolon) (λ _. IsNothing (clauses.Syncq capital n s f q)) (kind.Semicolon ∷ []) [] (expect_completable free extra kind.Semicolon) (λ _. pure_completable free extra (clauses.Syncq capital n s f q)))))))

  into_syncq : (y : Clause) (k rest : List NumberedKind) → Both (Leaf kind.Syncq) (λ _. IsRest false) y k rest → IsClause y k rest
  into_syncq y k rest (both n m e h) = h k (n, e)

  syncq_viable : Viable free extra syncq IsClause (Exists IsClause)
  syncq_viable = (into_completable free extra syncq (Both (Leaf kind.Syncq) (λ _. IsRest false)) IsClause (kind.Syncq ∷ kind.Name ∷ kind.Semicolon ∷ []) into_syncq (bind_completable free extra (expect kind.Syncq) (λ _. syncq_rest false) (Leaf kind.Syncq) (λ _. IsRest false) (kind.Syncq ∷ []) (kind.Name ∷ kind.Semicolon ∷ []) (expect_completable free extra kind.Syncq) (λ _. rest_completable false))).viable

  into_syncq_capital : (y : Clause) (k rest : List NumberedKind) → Both (Leaf kind.SyncqCapital) (λ _. IsRest true) y k rest → IsClause y k rest
  into_syncq_capital y k rest (both n m e h) = h k (n, e)

  syncq_capital_viable : Viable free extra syncq_capital IsClause (Exists IsClause)
  syncq_capital_viable = (into_completable free extra syncq_capital (Both (Leaf kind.SyncqCapital) (λ _. IsRest true)) IsClause (kind.SyncqCapital ∷ kind.Name ∷ kind.Semicolon ∷ []) into_syncq_capital (bind_completable free extra (expect kind.SyncqCapital) (λ _. syncq_rest true) (Leaf kind.SyncqCapital) (λ _. IsRest true) (kind.SyncqCapital ∷ []) (kind.Name ∷ kind.Semicolon ∷ []) (expect_completable free extra kind.SyncqCapital) (λ _. rest_completable true))).viable

  clause_makes : Makes free extra (Exists IsClause) (kind.Assign ∷ kind.Name ∷ kind.Semicolon ∷ [])
  clause_makes = assign_completable.makes

  clause_by_viable : (o : Option Kind) → Viable free extra (clause_by o) IsClause (Exists IsClause)
  clause_by_viable (Some kind.Assign) = assign_completable.viable
  clause_by_viable (Some kind.Monitor) = monitor_completable.viable
  clause_by_viable (Some kind.Sync) = sync_completable.viable
  clause_by_viable (Some kind.Syncq) = syncq_viable
  clause_by_viable (Some kind.SyncqCapital) = syncq_capital_viable
  clause_by_viable _ = refuse_viable free extra IsClause (Exists IsClause) (kind.Assign ∷ kind.Name ∷ kind.Semicolon ∷ []) clause_makes

  pub clause_completable : Completable free extra clause IsClause (kind.Assign ∷ kind.Name ∷ kind.Semicolon ∷ [])
  unfolding clause
  clause_completable = record { viable = choice_viable free extra clause_by IsClause (Exists IsClause) clause_by_viable; makes = clause_makes }
