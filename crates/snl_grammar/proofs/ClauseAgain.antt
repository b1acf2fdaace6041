-- Clauses, options and foreign names are read again.
use Rattle.std.proofs.Common.{◌≡◌, ℕ, Bool, true, false, List, [], ◌∷◌, Option, Some, None, Ok, refl, sym, ap, subst, ◌∙◌}
use Rattle.snl_lex.specs.declared.kind.Kind.{Kind}
use Rattle.snl_lex.specs.declared.kind.Kind.TheVariants as kind
use Rattle.snl_grammar.specs.declared.step.Step.{Step}
use Rattle.snl_grammar.specs.declared.step.Step.TheVariants as steps
use Rattle.snl_grammar.specs.declared.tree.clause.Channel.{Channel}
use Rattle.snl_grammar.specs.declared.tree.clause.Channel.TheVariants as channels
use Rattle.snl_grammar.specs.declared.tree.clause.Flag.{Flag}
use Rattle.snl_grammar.specs.declared.tree.clause.Clause.{Clause}
use Rattle.snl_grammar.specs.declared.tree.clause.Clause.TheVariants as clauses
use Rattle.snl_grammar.specs.declared.tree.clause.OptionSign.{OptionSign}
use Rattle.snl_grammar.specs.declared.tree.clause.OptionSign.TheVariants as signs
use Rattle.snl_grammar.specs.declared.tree.clause.OptionLine.{OptionLine}
use Rattle.snl_grammar.specs.Tokens.{NumberedKind, same}
use Rattle.snl_grammar.specs.Steps.{kind_at, expect, accept, until}
use Rattle.snl_grammar.specs.Grammar.Base.{First, Leaf, Perhaps}
use Rattle.snl_grammar.specs.Grammar.Types.{Written}
use Rattle.snl_grammar.specs.Grammar.Expressions.{IsAfterComma, AreCommas, AreTexts}
use Rattle.snl_grammar.specs.Grammar.Declarations.{AreBraced}
use Rattle.snl_grammar.specs.Grammar.Clauses.{AreForeign, option_kind, IsOptionLine, IsSubscript, IsFlag, IsChannel, anonymous, whole as is_whole, element as is_element, elements as are_elements, IsAssign, IsMonitor, IsSync, IsSyncq, IsClause, assign as is_assign, monitor as is_monitor, sync as is_sync, syncq as is_syncq}
use Rattle.snl_grammar.specs.Reading.Expressions.{next_comma, commas, texts}
use Rattle.snl_grammar.specs.Reading.Clauses.{foreign, sign_by, sign, option_line, subscript, some_subscript, subscript_by, subscript_part, flag, some_flag, flag_by, flag_part, some_queue, queue_by, queue_part, after_comma_by, after_comma, text_step_by, text_step, some_elements, elements_by, elements, whole, channel_to_by, channel_to, named_channel, element, channel_by, channel, assign, monitor, sync, syncq_rest, clause_by, clause}
use Rattle.snl_grammar.proofs.Local.{expect_local}
use Rattle.snl_grammar.proofs.Again.{ReadsBack, read, reads_back_at, reads_back_as, reads_back_from, bind_reads_back, pure_reads_back, expect_reads_back, first_reads_back, kind_first, Heads, Lacks, first_lacks, differ, written_reads_back, many_reads_back}
use Rattle.snl_grammar.proofs.TypeLaws.{word_reads_back}
use Rattle.snl_grammar.proofs.ExpressionLocal.{comma_eats}
use Rattle.snl_grammar.proofs.ExpressionAgain.{no_comma, comma_reads_back, texts_reads_back}
use Rattle.snl_grammar.proofs.ClauseLocal.{text_step_eats}
use Rattle.snl_grammar.proofs.BracedAgain.{goes_on, after_value, values_reads_back}

-- which parts may be missing
no_subscript_by : (d : Kind) (k : List NumberedKind) → same d kind.OpenBracket ≡ false → subscript_by (Some d) k ≡ Ok (None, k)
no_subscript_by kind.OpenBracket k e = absurd cc
no_subscript_by _ k e = refl

no_flag_by : (d : Kind) (k : List NumberedKind) → same d kind.To ≡ false → same d kind.Name ≡ false → flag_by (Some d) k ≡ Ok (None, k)
no_flag_by kind.To k e h = absurd cc
no_flag_by kind.Name k e h = absurd cc
no_flag_by _ k e h = refl

no_queue_by : (d : Kind) (k : List NumberedKind) → same d kind.Integer ≡ false → queue_by (Some d) k ≡ Ok (None, k)
no_queue_by kind.Integer k e = absurd cc
no_queue_by _ k e = refl

heads_lack : (x : Kind) (p : Kind → Bool) (k : List NumberedKind) → p x ≡ false → Heads p k → Lacks x k
heads_lack x p [] f h = absurd h
heads_lack x p (s ∷ k) f h = differ p s.0 x h f

module _ (free : ℕ) where
  no_subscript : (k : List NumberedKind) → Lacks kind.OpenBracket k → ReadsBack free (subscript_part k) None k
  unfolding subscript_part kind_at
  no_subscript [] h = read refl
  no_subscript (s ∷ k) h = read (no_subscript_by s.0 (s ∷ k) h)

  no_flag : (k : List NumberedKind) → Lacks kind.To k → Lacks kind.Name k → ReadsBack free (flag_part k) None k
  unfolding flag_part kind_at
  no_flag [] h i = read refl
  no_flag (s ∷ k) h i = read (no_flag_by s.0 (s ∷ k) h i)

  no_queue : (k : List NumberedKind) → Lacks kind.Integer k → ReadsBack free (queue_part k) None k
  unfolding queue_part kind_at
  no_queue [] h = read refl
  no_queue (s ∷ k) h = read (no_queue_by s.0 (s ∷ k) h)

  -- ---- foreign names and options

  names_reads_back : (ns : List ℕ) (k rest : List NumberedKind) → AreCommas (Leaf kind.Name) ns k rest → Lacks kind.Comma rest → ReadsBack free (commas (expect kind.Name) k) ns rest
  unfolding commas
  names_reads_back [] k rest is h = absurd is
  names_reads_back (n ∷ ns) k rest is h =
      bind_reads_back free (expect kind.Name k) _ n is.0 (n ∷ ns) rest (expect_reads_back free kind.Name n k is.0 is.1)
      (many_reads_back free (next_comma (expect kind.Name)) (comma_eats (expect kind.Name) (expect_local kind.Name)) (IsAfterComma (Leaf kind.Name)) (λ _. Unit {0}) (λ _ _ _ _. tt) (λ x k m is u. comma_reads_back free (Leaf kind.Name) (expect kind.Name) x k m is (expect_reads_back free kind.Name x is.mid m is.element)) (n ∷ []) ns is.0 rest is.2 tt (no_comma free (expect kind.Name) rest h))

  pub foreign_reads_back : (ns : List ℕ) (k rest : List NumberedKind) → AreForeign ns k rest → ReadsBack free (foreign k) ns rest
  unfolding foreign
  foreign_reads_back ns k rest is = bind_reads_back free (expect kind.Foreign k) _ (is.word.0) is.m1 (ns) rest (first_reads_back free kind.Foreign k is.m1 is.word) (bind_reads_back free (commas (expect kind.Name) is.m1) _ (ns) is.m2 (ns) rest (names_reads_back ns is.m1 is.m2 is.names (first_lacks kind.Semicolon kind.Comma is.m2 rest refl is.semicolon)) (bind_reads_back free (expect kind.Semicolon is.m2) _ (is.semicolon.0) rest (ns) rest (first_reads_back free kind.Semicolon is.m2 rest is.semicolon) (pure_reads_back free (ns) rest)))

  sign_reads_back : (s : OptionSign) (k rest : List NumberedKind) → First (option_kind s) k rest → ReadsBack free (sign k) s rest
  unfolding sign
  sign_reads_back signs.Plus k rest f = reads_back_at free (sign k) (sign_by (Some kind.Plus) k) signs.Plus rest (ap (λ o. sign_by o k) (kind_first kind.Plus k rest f)) (word_reads_back free kind.Plus signs.Plus k rest f)
  sign_reads_back signs.Minus k rest f = reads_back_at free (sign k) (sign_by (Some kind.Minus) k) signs.Minus rest (ap (λ o. sign_by o k) (kind_first kind.Minus k rest f)) (word_reads_back free kind.Minus signs.Minus k rest f)

  pub option_line_reads_back : (t : OptionLine) (k rest : List NumberedKind) → IsOptionLine t k rest → ReadsBack free (option_line k) t rest
  unfolding option_line
  option_line_reads_back t k rest is = bind_reads_back free (expect kind.Option k) _ (is.word.0) is.m1 (t) rest (first_reads_back free kind.Option k is.m1 is.word) (bind_reads_back free (sign is.m1) _ (t.sign) is.m2 (t) rest (sign_reads_back t.sign is.m1 is.m2 is.sign) (bind_reads_back free (expect kind.Name is.m2) _ (t.letters) is.m3 (t) rest (expect_reads_back free kind.Name t.letters is.m2 is.m3 is.letters) (bind_reads_back free (expect kind.Semicolon is.m3) _ (is.semicolon.0) rest (t) rest (first_reads_back free kind.Semicolon is.m3 rest is.semicolon) (pure_reads_back free (t) rest))))

  -- ---- subscripts and flags

  subscript_reads_back : (n : ℕ) (k rest : List NumberedKind) → IsSubscript n k rest → ReadsBack free (subscript k) n rest
  unfolding subscript
  subscript_reads_back n k rest is = bind_reads_back free (expect kind.OpenBracket k) _ (is.opening.0) is.m1 (n) rest (first_reads_back free kind.OpenBracket k is.m1 is.opening) (bind_reads_back free (expect kind.Integer is.m1) _ (n) is.m2 (n) rest (expect_reads_back free kind.Integer n is.m1 is.m2 is.number) (bind_reads_back free (expect kind.CloseBracket is.m2) _ (is.closing.0) rest (n) rest (first_reads_back free kind.CloseBracket is.m2 rest is.closing) (pure_reads_back free (n) rest)))

  subscript_part_reads_back : (t : Option ℕ) (k rest : List NumberedKind) → Perhaps IsSubscript t k rest → Lacks kind.OpenBracket rest → ReadsBack free (subscript_part k) t rest
  unfolding subscript_part some_subscript
  subscript_part_reads_back None k rest is h = reads_back_from free subscript_part k rest None rest is (no_subscript rest h)
  subscript_part_reads_back (Some n) k rest is h = reads_back_at free (subscript_part k) (subscript_by (Some kind.OpenBracket) k) (Some n) rest (ap (λ o. subscript_by o k) (kind_first kind.OpenBracket k is.m1 is.opening)) (bind_reads_back free (subscript k) _ (n) rest (Some n) rest (subscript_reads_back n k rest is) (pure_reads_back free (Some n) rest))

  flag_reads_back : (t : Flag) (k rest : List NumberedKind) → IsFlag t k rest → ReadsBack free (flag k) t rest
  unfolding flag
  flag_reads_back t k rest is = bind_reads_back free (accept kind.To k) _ (t.to) is.mid (t) rest (written_reads_back free kind.To t.to k is.mid is.to (first_lacks kind.Name kind.To is.mid rest refl (t.name, is.name))) (bind_reads_back free (expect kind.Name is.mid) _ (t.name) rest (t) rest (expect_reads_back free kind.Name t.name is.mid rest is.name) (pure_reads_back free (t) rest))

  -- a flag begins with `to` or its name
  flag_first : (b : Bool) (n : ℕ) (k mid rest : List NumberedKind) → Written kind.To b k mid → Leaf kind.Name n mid rest → (x : Kind) × (m : List NumberedKind) × First x k m × (flag_by (Some x) ≡ some_flag) × (same x kind.OpenBracket ≡ false) × (same x kind.Integer ≡ false)
  flag_first true n k mid rest w e = (kind.To, mid, w, refl, refl, refl)
  flag_first false n k mid rest w e = (kind.Name, rest, (n, w ∙ e), refl, refl, refl)

  flag_part_reads_back : (t : Option Flag) (k rest : List NumberedKind) → Perhaps IsFlag t k rest → Lacks kind.To rest → Lacks kind.Name rest → ReadsBack free (flag_part k) t rest
  unfolding flag_part some_flag
  flag_part_reads_back None k rest is h i = reads_back_from free flag_part k rest None rest is (no_flag rest h i)
  flag_part_reads_back (Some t) k rest is h i =
      let f = flag_first t.to t.name k is.mid rest is.to is.name in
      reads_back_at free (flag_part k) (some_flag k) (Some t) rest (ap (λ o. flag_by o k) (kind_first f.0 k f.1 f.2) ∙ ap (λ p. p k) f.3) (bind_reads_back free (flag k) _ (t) rest (Some t) rest (flag_reads_back t k rest is) (pure_reads_back free (Some t) rest))

  queue_part_reads_back : (t : Option ℕ) (k rest : List NumberedKind) → Perhaps (Leaf kind.Integer) t k rest → Lacks kind.Integer rest → ReadsBack free (queue_part k) t rest
  unfolding queue_part some_queue
  queue_part_reads_back None k rest is h = reads_back_from free queue_part k rest None rest is (no_queue rest h)
  queue_part_reads_back (Some n) k rest is h = reads_back_at free (queue_part k) (queue_by (Some kind.Integer) k) (Some n) rest (ap (λ o. queue_by o k) (kind_first kind.Integer k rest (n, is))) (bind_reads_back free (expect kind.Integer k) _ (n) rest (Some n) rest (expect_reads_back free kind.Integer n k rest is) (pure_reads_back free (Some n) rest))

  queue_lacks : (x : Kind) (t : Option ℕ) (k mid rest : List NumberedKind) → same kind.Integer x ≡ false → same kind.Semicolon x ≡ false → Perhaps (Leaf kind.Integer) t k mid → First kind.Semicolon mid rest → Lacks x k
  queue_lacks x None k mid rest a b is f = subst (Lacks x) (sym is) (first_lacks kind.Semicolon x mid rest b f)
  queue_lacks x (Some n) k mid rest a b is f = first_lacks kind.Integer x k mid a (n, is)

  flag_lacks : (t : Option Flag) (k mid : List NumberedKind) → Perhaps IsFlag t k mid → Lacks kind.OpenBracket mid → Lacks kind.OpenBracket k
  flag_lacks None k mid is h = subst (Lacks kind.OpenBracket) (sym is) h
  flag_lacks (Some t) k mid is h = let f = flag_first t.to t.name k is.mid mid is.to is.name in first_lacks f.0 kind.OpenBracket k f.1 f.4 f.2

  -- ---- channels

  by_step : (x : Kind) (y : Step (List ℕ) Bool) (k mid rest : List NumberedKind) → First x k mid → ReadsBack free (text_step_by (Some x) k) y rest → ReadsBack free (text_step k) y rest
  unfolding text_step
  by_step x y k mid rest f c = reads_back_at free (text_step k) (text_step_by (Some x) k) y rest (ap (λ o. text_step_by o k) (kind_first x k mid f)) c

  texts_first : (ns : List ℕ) (k rest : List NumberedKind) → AreTexts ns k rest → (mid : List NumberedKind) × First kind.Text k mid
  texts_first [] k rest is = absurd is
  texts_first (n ∷ ns) k rest is = (is.0, (n, is.1))

  text_more : (x : List ℕ) (k m : List NumberedKind) → IsAfterComma AreTexts x k m → Heads goes_on m → ReadsBack free (text_step k) (steps.More x) m
  unfolding after_comma
  text_more x k m is h =
      let f = texts_first x is.mid m is.element in
      by_step kind.Comma (steps.More x) k is.mid m is.comma
      (bind_reads_back free (expect kind.Comma k) _ is.comma.0 is.mid (steps.More x) m (first_reads_back free kind.Comma k is.mid is.comma)
      (reads_back_at free (after_comma_by (kind_at is.mid) is.mid) (after_comma_by (Some kind.Text) is.mid) (steps.More x) m (ap (λ o. after_comma_by o is.mid) (kind_first kind.Text is.mid f.0 f.1)) (bind_reads_back free (texts is.mid) _ (x) m (steps.More x) m (texts_reads_back free x is.mid m is.element (heads_lack kind.Text goes_on m refl h)) (pure_reads_back free (steps.More x) m))))

  text_trailing : (k m rest : List NumberedKind) → First kind.Comma k m → First kind.CloseBrace m rest → ReadsBack free (text_step k) (steps.Last None true) m
  unfolding after_comma
  text_trailing k m rest f c =
      by_step kind.Comma (steps.Last None true) k m m f
      (bind_reads_back free (expect kind.Comma k) _ f.0 m (steps.Last None true) m (first_reads_back free kind.Comma k m f)
      (reads_back_at free (after_comma_by (kind_at m) m) (after_comma_by (Some kind.CloseBrace) m) (steps.Last None true) m (ap (λ o. after_comma_by o m) (kind_first kind.CloseBrace m rest c)) (pure_reads_back free (steps.Last None true) m)))

  text_ends : (k rest : List NumberedKind) → First kind.CloseBrace k rest → ReadsBack free (text_step k) (steps.Last None false) k
  text_ends k rest c = by_step kind.CloseBrace (steps.Last None false) k rest k c (pure_reads_back free (steps.Last None false) k)

  in_braces_reads_back : (b : Bool) (xs : List (List ℕ)) (trailing : Bool) (k rest : List NumberedKind) → AreBraced AreTexts xs trailing k rest → ReadsBack free (elements_by b (kind_at k) k) (channels.Elements b xs trailing) rest
  unfolding some_elements
  in_braces_reads_back b [] trailing k rest is =
      reads_back_as free (elements_by b (kind_at k) k) (channels.Elements b [] false) (channels.Elements b [] trailing) rest (ap (channels.Elements b []) (sym is.0))
      (reads_back_at free (elements_by b (kind_at k) k) (elements_by b (Some kind.CloseBrace) k) (channels.Elements b [] false) rest (ap (λ o. elements_by b o k) (kind_first kind.CloseBrace k rest is.1)) (word_reads_back free kind.CloseBrace (channels.Elements b [] false) k rest is.1))
  in_braces_reads_back b (x ∷ xs) trailing k rest is =
      let e = is.elements in
      let f = texts_first x k e.0 e.1 in
      let h = after_value free AreTexts text_step text_step_eats text_more text_trailing text_ends xs trailing e.0 is.m1 is.m2 rest e.2 is.comma is.closing in
      reads_back_at free (elements_by b (kind_at k) k) (some_elements b k) (channels.Elements b (x ∷ xs) trailing) rest (ap (λ o. elements_by b o k) (kind_first kind.Text k f.0 f.1))
      (bind_reads_back free (texts k) _ (x) e.0 (channels.Elements b (x ∷ xs) trailing) rest (texts_reads_back free x k e.0 e.1 (heads_lack kind.Text goes_on e.0 refl h)) (bind_reads_back free (until text_step (x ∷ []) e.0) _ ((x ∷ xs, trailing)) is.m2 (channels.Elements b (x ∷ xs) trailing) rest (values_reads_back free AreTexts text_step text_step_eats text_more text_trailing text_ends (x ∷ []) xs trailing e.0 is.m1 is.m2 rest e.2 is.comma is.closing) (bind_reads_back free (expect kind.CloseBrace is.m2) _ (is.closing.0) rest (channels.Elements b (x ∷ xs) trailing) rest (first_reads_back free kind.CloseBrace is.m2 rest is.closing) (pure_reads_back free (channels.Elements b (x ∷ xs) trailing) rest))))

  by_channel_to : (b : Bool) (x : Kind) (t : Channel) (k mid rest : List NumberedKind) → First x k mid → ReadsBack free (channel_to_by b (Some x) k) t rest → ReadsBack free (channel_to b k) t rest
  unfolding channel_to
  by_channel_to b x t k mid rest f c = reads_back_at free (channel_to b k) (channel_to_by b (Some x) k) t rest (ap (λ o. channel_to_by b o k) (kind_first x k mid f)) c

  -- `to`, or what comes after it
  to_first : (b : Bool) (x : Kind) (k mid m : List NumberedKind) → Written kind.To b k mid → First x mid m → channel_by (Some x) ≡ named_channel → (y : Kind) × (i : List NumberedKind) × First y k i × (channel_by (Some y) ≡ named_channel)
  to_first true x k mid m w f e = (kind.To, mid, w, refl)
  to_first false x k mid m w f e = (x, m, subst (λ l. First x l m) (sym w) f, e)

  named_reads_back : (b : Bool) (x : Kind) (t : Channel) (k mid m rest : List NumberedKind) → Written kind.To b k mid → First x mid m → channel_by (Some x) ≡ named_channel → same x kind.To ≡ false → ReadsBack free (channel_to b mid) t rest → ReadsBack free (channel k) t rest
  unfolding channel named_channel
  named_reads_back b x t k mid m rest w f e other c =
      let y = to_first b x k mid m w f e in
      reads_back_at free (channel k) (named_channel k) t rest (ap (λ o. channel_by o k) (kind_first y.0 k y.1 y.2) ∙ ap (λ p. p k) y.3)
      (bind_reads_back free (accept kind.To k) channel_to b mid t rest (written_reads_back free kind.To b k mid w (first_lacks x kind.To mid m other f)) c)

  channel_reads_back : (t : Channel) (k rest after : List NumberedKind) → IsChannel t k rest → First kind.Semicolon rest after → ReadsBack free (channel k) t rest
  unfolding channel elements whole element
  channel_reads_back t k rest after (anonymous e h) f =
      reads_back_as free (channel k) channels.Anonymous t rest (sym e) (reads_back_from free channel k rest channels.Anonymous rest h
      (reads_back_at free (channel rest) (channel_by (Some kind.Semicolon) rest) channels.Anonymous rest (ap (λ o. channel_by o rest) (kind_first kind.Semicolon rest after f)) (pure_reads_back free channels.Anonymous rest)))
  channel_reads_back t k rest after (is_whole b ns mid e w is) f =
      let x = texts_first ns mid rest is in
      reads_back_as free (channel k) (channels.Whole b ns) t rest (sym e) (named_reads_back b kind.Text (channels.Whole b ns) k mid x.0 rest w x.1 refl refl (by_channel_to b kind.Text (channels.Whole b ns) mid x.0 rest x.1
      (bind_reads_back free (texts mid) _ (ns) rest (channels.Whole b ns) rest (texts_reads_back free ns mid rest is (first_lacks kind.Semicolon kind.Text rest after refl f)) (pure_reads_back free (channels.Whole b ns) rest))))
  channel_reads_back t k rest after (is_element n b ns m1 m2 e s w is) f =
      let x = texts_first ns m2 rest is in
      reads_back_as free (channel k) (channels.Element n b ns) t rest (sym e) (reads_back_at free (channel k) (channel_by (Some kind.OpenBracket) k) (channels.Element n b ns) rest (ap (λ o. channel_by o k) (kind_first kind.OpenBracket k s.m1 s.opening))
      (bind_reads_back free (subscript k) _ (n) m1 (channels.Element n b ns) rest (subscript_reads_back n k m1 s) (bind_reads_back free (accept kind.To m1) _ (b) m2 (channels.Element n b ns) rest (written_reads_back free kind.To b m1 m2 w (first_lacks kind.Text kind.To m2 x.0 refl x.1)) (bind_reads_back free (texts m2) _ (ns) rest (channels.Element n b ns) rest (texts_reads_back free ns m2 rest is (first_lacks kind.Semicolon kind.Text rest after refl f)) (pure_reads_back free (channels.Element n b ns) rest)))))
  channel_reads_back t k rest after (are_elements b xs trailing m1 m2 e w o is) f =
      reads_back_as free (channel k) (channels.Elements b xs trailing) t rest (sym e) (named_reads_back b kind.OpenBrace (channels.Elements b xs trailing) k m1 m2 rest w o refl refl (by_channel_to b kind.OpenBrace (channels.Elements b xs trailing) m1 m2 rest o
      (bind_reads_back free (expect kind.OpenBrace m1) _ o.0 m2 (channels.Elements b xs trailing) rest (first_reads_back free kind.OpenBrace m1 m2 o) (in_braces_reads_back b xs trailing m2 rest is))))

  -- ---- clauses

  by_clause : (x : Kind) (t : Clause) (k mid rest : List NumberedKind) → First x k mid → ReadsBack free (clause_by (Some x) k) t rest → ReadsBack free (clause k) t rest
  unfolding clause
  by_clause x t k mid rest f c = reads_back_at free (clause k) (clause_by (Some x) k) t rest (ap (λ o. clause_by o k) (kind_first x k mid f)) c

  assign_reads_back : (n : ℕ) (x : Channel) (k rest : List NumberedKind) → IsAssign n x k rest → ReadsBack free (clause k) (clauses.Assign n x) rest
  unfolding assign
  assign_reads_back n x k rest is = by_clause kind.Assign (clauses.Assign n x) k is.m1 rest is.word (bind_reads_back free (expect kind.Assign k) _ (is.word.0) is.m1 (clauses.Assign n x) rest (first_reads_back free kind.Assign k is.m1 is.word) (bind_reads_back free (expect kind.Name is.m1) _ (n) is.m2 (clauses.Assign n x) rest (expect_reads_back free kind.Name n is.m1 is.m2 is.name) (bind_reads_back free (channel is.m2) _ (x) is.m3 (clauses.Assign n x) rest (channel_reads_back x is.m2 is.m3 rest is.channel is.semicolon) (bind_reads_back free (expect kind.Semicolon is.m3) _ (is.semicolon.0) rest (clauses.Assign n x) rest (first_reads_back free kind.Semicolon is.m3 rest is.semicolon) (pure_reads_back free (clauses.Assign n x) rest)))))

  monitor_reads_back : (n : ℕ) (s : Option ℕ) (k rest : List NumberedKind) → IsMonitor n s k rest → ReadsBack free (clause k) (clauses.Monitor n s) rest
  unfolding monitor
  monitor_reads_back n s k rest is = by_clause kind.Monitor (clauses.Monitor n s) k is.m1 rest is.word (bind_reads_back free (expect kind.Monitor k) _ (is.word.0) is.m1 (clauses.Monitor n s) rest (first_reads_back free kind.Monitor k is.m1 is.word) (bind_reads_back free (expect kind.Name is.m1) _ (n) is.m2 (clauses.Monitor n s) rest (expect_reads_back free kind.Name n is.m1 is.m2 is.name) (bind_reads_back free (subscript_part is.m2) _ (s) is.m3 (clauses.Monitor n s) rest (subscript_part_reads_back s is.m2 is.m3 is.subscript (first_lacks kind.Semicolon kind.OpenBracket is.m3 rest refl is.semicolon)) (bind_reads_back free (expect kind.Semicolon is.m3) _ (is.semicolon.0) rest (clauses.Monitor n s) rest (first_reads_back free kind.Semicolon is.m3 rest is.semicolon) (pure_reads_back free (clauses.Monitor n s) rest)))))

  sync_reads_back : (n : ℕ) (s : Option ℕ) (f : Flag) (k rest : List NumberedKind) → IsSync n s f k rest → ReadsBack free (clause k) (clauses.Sync n s f) rest
  unfolding sync
  sync_reads_back n s f k rest is = by_clause kind.Sync (clauses.Sync n s f) k is.m1 rest is.word (bind_reads_back free (expect kind.Sync k) _ (is.word.0) is.m1 (clauses.Sync n s f) rest (first_reads_back free kind.Sync k is.m1 is.word) (bind_reads_back free (expect kind.Name is.m1) _ (n) is.m2 (clauses.Sync n s f) rest (expect_reads_back free kind.Name n is.m1 is.m2 is.name) (bind_reads_back free (subscript_part is.m2) _ (s) is.m3 (clauses.Sync n s f) rest (subscript_part_reads_back s is.m2 is.m3 is.subscript (flag_lacks (Some f) is.m3 is.m4 is.flag (first_lacks kind.Semicolon kind.OpenBracket is.m4 rest refl is.semicolon))) (bind_reads_back free (flag is.m3) _ (f) is.m4 (clauses.Sync n s f) rest (flag_reads_back f is.m3 is.m4 is.flag) (bind_reads_back free (expect kind.Semicolon is.m4) _ (is.semicolon.0) rest (clauses.Sync n s f) rest (first_reads_back free kind.Semicolon is.m4 rest is.semicolon) (pure_reads_back free (clauses.Sync n s f) rest))))))

  rest_reads_back : (capital : Bool) (n : ℕ) (s : Option ℕ) (f : Option Flag) (q : Option ℕ) (k rest : List NumberedKind) (is : IsSyncq capital n s f q k rest) → ReadsBack free (syncq_rest capital is.m1) (clauses.Syncq capital n s f q) rest
  unfolding syncq_rest
  rest_reads_back capital n s f q k rest is = bind_reads_back free (expect kind.Name is.m1) _ (n) is.m2 (clauses.Syncq capital n s f q) rest (expect_reads_back free kind.Name n is.m1 is.m2 is.name) (bind_reads_back free (subscript_part is.m2) _ (s) is.m3 (clauses.Syncq capital n s f q) rest (subscript_part_reads_back s is.m2 is.m3 is.subscript (flag_lacks f is.m3 is.m4 is.flag (queue_lacks kind.OpenBracket q is.m4 is.m5 rest refl refl is.queue is.semicolon))) (bind_reads_back free (flag_part is.m3) _ (f) is.m4 (clauses.Syncq capital n s f q) rest (flag_part_reads_back f is.m3 is.m4 is.flag (queue_lacks kind.To q is.m4 is.m5 rest refl refl is.queue is.semicolon) (queue_lacks kind.Name q is.m4 is.m5 rest refl refl is.queue is.semicolon)) (bind_reads_back free (queue_part is.m4) _ (q) is.m5 (clauses.Syncq capital n s f q) rest (queue_part_reads_back q is.m4 is.m5 is.queue (first_lacks kind.Semicolon kind.Integer is.m5 rest refl is.semicolon)) (bind_reads_back free (expect kind.Semicolon is.m5) _ (is.semicolon.0) rest (clauses.Syncq capital n s f q) rest (first_reads_back free kind.Semicolon is.m5 rest is.semicolon) (pure_reads_back free (clauses.Syncq capital n s f q) rest)))))

  syncq_reads_back : (capital : Bool) (n : ℕ) (s : Option ℕ) (f : Option Flag) (q : Option ℕ) (k rest : List NumberedKind) → IsSyncq capital n s f q k rest → ReadsBack free (clause k) (clauses.Syncq capital n s f q) rest
  syncq_reads_back false n s f q k rest is = by_clause kind.Syncq (clauses.Syncq false n s f q) k is.m1 rest is.word (bind_reads_back free (expect kind.Syncq k) _ is.word.0 is.m1 (clauses.Syncq false n s f q) rest (first_reads_back free kind.Syncq k is.m1 is.word) (rest_reads_back false n s f q k rest is))
  syncq_reads_back true n s f q k rest is = by_clause kind.SyncqCapital (clauses.Syncq true n s f q) k is.m1 rest is.word (bind_reads_back free (expect kind.SyncqCapital k) _ is.word.0 is.m1 (clauses.Syncq true n s f q) rest (first_reads_back free kind.SyncqCapital k is.m1 is.word) (rest_reads_back true n s f q k rest is))

  pub clause_reads_back : (t : Clause) (k rest : List NumberedKind) → IsClause t k rest → ReadsBack free (clause k) t rest
  clause_reads_back t k rest (is_assign n x e is) = reads_back_as free (clause k) (clauses.Assign n x) t rest (sym e) (assign_reads_back n x k rest is)
  clause_reads_back t k rest (is_monitor n s e is) = reads_back_as free (clause k) (clauses.Monitor n s) t rest (sym e) (monitor_reads_back n s k rest is)
  clause_reads_back t k rest (is_sync n s f e is) = reads_back_as free (clause k) (clauses.Sync n s f) t rest (sym e) (sync_reads_back n s f k rest is)
  clause_reads_back t k rest (is_syncq capital n s f q e is) = reads_back_as free (clause k) (clauses.Syncq capital n s f q) t rest (sym e) (syncq_reads_back capital n s f q k rest is)
