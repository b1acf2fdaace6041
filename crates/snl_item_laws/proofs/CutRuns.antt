-- Along the tokens of an item the cut finds no end before the last one.
use Rattle.std.proofs.Common.{◌≡◌, ℕ, suc, ◌+◌, Bool, true, false, ◌&&◌, ◌||◌, cond, List, [], ◌∷◌, ◌++◌, map, slice_get, Option, Some, None, refl, ap, sym, ◌∙◌, subst, arith}
use Rattle.std.proofs.lemmas.Bool.{eq-eqb, false≢true, ne_eqb}
use Rattle.std.specs.List.{count_by}
use Rattle.snl_lex.specs.declared.kind.Kind.{Kind}
use Rattle.snl_lex.specs.declared.kind.Kind.TheVariants as kind
use Rattle.snl_grammar.specs.declared.marks.Mark.{Mark}
use Rattle.snl_grammar.specs.declared.marks.Mark.TheVariants as mark
use Rattle.snl_grammar.specs.Items.{ends_before, ends_by, has_body, is_after, is_body, is_close, is_close_paren, is_head, is_open, is_plain, is_semicolon, last_of, level, opened_by_paren, plain_ends, raises}
use Rattle.snl_grammar.specs.Marks.{mark_of_kind}
use Rattle.snl_grammar.specs.Tokens.{NumberedKind}
use Rattle.snl_grammar.specs.Grammar.Base.{First}
use Rattle.snl_item_laws.proofs.Lies.{Lies, braces, group, is_calm, is_loose, loose, nothing, parens, squares, token}
use Rattle.snl_item_laws.proofs.Prefixes.{count_more, last_more, opened_before, opened_now}
use Rattle.std.proofs.Math.Bool.{and-false}

abbrev pub marks_ahead : List NumberedKind → List Mark
marks_ahead k = map (λ s. mark_of_kind s.0) k

-- An item that begins with the first tokens has so many tokens more, and then ends, where `rest`
-- follows.
abbrev pub GoesTo : List Mark → Mark → List Mark → List Mark → Type 0
GoesTo rest first tail [] = ends_before (first ∷ tail) (slice_get rest 0) ≡ true
GoesTo rest first tail (x ∷ xs) = (ends_by first tail x ≡ false) × GoesTo rest first (tail ++ x ∷ []) xs

-- What the cut knows of the tokens up to a place: so many braces are open, whether the last one
-- that raised the balance from 0 was directly after a parenthesis, and the last token.
pub record At (first : Mark) (tail : List Mark) (b : ℕ) (o : Bool) (last : Mark) : Type 0 where
  pub balance : count_by is_open (first ∷ tail) ≡ b + count_by is_close (first ∷ tail)
  pub opened : opened_by_paren (first ∷ tail) ≡ o
  pub last_is : last_of first tail ≡ last

abbrev one_if : Bool → ℕ
one_if b = cond b 1 0

plainly : (first : Mark) (tail : List Mark) (x : Mark) → is_plain first ≡ true → ends_by first tail x ≡ plain_ends (level (first ∷ tail)) (last_of first tail) (has_body first tail) x
plainly mark.Ss tail x p = absurd (false≢true p)
plainly mark.Program tail x p = absurd (false≢true p)
plainly mark.CloseBrace tail x p = absurd (false≢true p)
plainly mark.CCode tail x p = absurd (false≢true p)
plainly mark.Semicolon tail x p = absurd (false≢true p)
plainly _ tail x p = refl

module _ (first : Mark) where
  level_zero : (tail : List Mark) (o : Bool) (last : Mark) → At first tail 0 o last → level (first ∷ tail) ≡ true
  level_zero tail o last at = eq-eqb (count_by is_open (first ∷ tail)) (count_by is_close (first ∷ tail)) (omega (arith, at.balance))

  level_more : (tail : List Mark) (b : ℕ) (o : Bool) (last : Mark) → At first tail (suc b) o last → level (first ∷ tail) ≡ false
  level_more tail b o last at = ne_eqb (count_by is_open (first ∷ tail)) (count_by is_close (first ∷ tail)) (λ e. omega (arith, at.balance, e))

  pub begin : is_open first ≡ false → is_close first ≡ false → At first [] 0 false first
  begin o c = record { balance = balance; opened = ap (is_after is_close_paren (first ∷ [])) (by (raises (first ∷ []) 0) 0); last_is = refl }
    where
      by : (b : Bool) (n : ℕ) → cond b n n ≡ n
      by true n = refl
      by false n = refl

      balance : count_by is_open (first ∷ []) ≡ 0 + count_by is_close (first ∷ [])
      balance = ap (λ t. 0 + cond t 1 0) (o ∙ sym c) ∙ sums (cond (is_close first) 1 0)
        where
          sums : (n : ℕ) → 0 + n ≡ 0 + (0 + n)
          sums n = omega arith

  -- ---- one token more

  module _ (tail : List Mark) (last : Mark) where
    abbrev longer : Mark → List Mark
    longer x = tail ++ x ∷ []

    counted : (p : Mark → Bool) (x : Mark) → count_by p (first ∷ longer x) ≡ count_by p (first ∷ tail) + cond (p x) 1 0
    counted p x = count_more p (first ∷ tail) x

    next_same : (x : Mark) (b : ℕ) (o : Bool) → is_open x ≡ false → is_close x ≡ false → At first tail b o last → At first (longer x) b o x
    next_same x b o not_open not_close at =
        let zo : one_if (is_open x) ≡ 0 = ap one_if not_open in
        let zc : one_if (is_close x) ≡ 0 = ap one_if not_close in
        record {
          balance = omega (arith, counted is_open x, counted is_close x, at.balance, zo, zc);
          opened = opened_before first tail x (ap (λ t. level (first ∷ tail) && t) not_open ∙ and-false (level (first ∷ tail))) ∙ at.opened;
          last_is = last_more first tail x;
        }

    next_up : (o : Bool) → At first tail 0 o last → At first (longer mark.OpenBrace) 1 (is_close_paren last) mark.OpenBrace
    next_up o at = record {
      balance = omega (arith, counted is_open mark.OpenBrace, counted is_close mark.OpenBrace, at.balance);
      opened = opened_now first tail mark.OpenBrace (ap (λ t. t && true) (level_zero tail o last at)) ∙ ap is_close_paren at.last_is;
      last_is = last_more first tail mark.OpenBrace;
    }

    next_deeper : (b : ℕ) (o : Bool) → At first tail (suc b) o last → At first (longer mark.OpenBrace) (suc (suc b)) o mark.OpenBrace
    next_deeper b o at = record {
      balance = omega (arith, counted is_open mark.OpenBrace, counted is_close mark.OpenBrace, at.balance);
      opened = opened_before first tail mark.OpenBrace (ap (λ t. t && true) (level_more tail b o last at)) ∙ at.opened;
      last_is = last_more first tail mark.OpenBrace;
    }

    next_down : (b : ℕ) (o : Bool) → At first tail (suc b) o last → At first (longer mark.CloseBrace) b o mark.CloseBrace
    next_down b o at = record {
      balance = omega (arith, counted is_open mark.CloseBrace, counted is_close mark.CloseBrace, at.balance);
      opened = opened_before first tail mark.CloseBrace (ap (λ t. t && false) (level_more tail b o last at)) ∙ at.opened;
      last_is = last_more first tail mark.CloseBrace;
    }

  -- ---- no end here

  abbrev ends_with : Bool → Bool → Bool → Bool → Bool → Bool → Bool
  ends_with l s c body h cl = (l && s) || (l && c && body) || h || (l && cl)

  module _ (plain : is_plain first ≡ true) where
    -- inside braces
    on_inside : (tail : List Mark) (b : ℕ) (o : Bool) (last x : Mark) → At first tail (suc b) o last → is_head x ≡ false → ends_by first tail x ≡ false
    on_inside tail b o last x at h =
        plainly first tail x plain
        ∙ ap (λ l. ends_with l (is_semicolon (last_of first tail)) (is_close (last_of first tail)) (has_body first tail) (is_head x) (is_close x)) (level_more tail b o last at)
        ∙ ap (λ t. ends_with false (is_semicolon (last_of first tail)) (is_close (last_of first tail)) (has_body first tail) t (is_close x)) h

    -- outside braces
    on_outside : (tail : List Mark) (o : Bool) (last x : Mark) → At first tail 0 o last → is_semicolon last ≡ false → (is_close last && (is_body first || o)) ≡ false → is_head x ≡ false → is_close x ≡ false → ends_by first tail x ≡ false
    on_outside tail o last x at s body h c =
        plainly first tail x plain
        ∙ ap (λ l. ends_with l (is_semicolon (last_of first tail)) (is_close (last_of first tail)) (has_body first tail) (is_head x) (is_close x)) (level_zero tail o last at)
        ∙ ap (λ m. ends_with true (is_semicolon m) (is_close m) (has_body first tail) (is_head x) (is_close x)) at.last_is
        ∙ ap (λ t. ends_with true (is_semicolon last) (is_close last) (is_body first || t) (is_head x) (is_close x)) at.opened
        ∙ ap (λ t. ends_with true t (is_close last) (is_body first || o) (is_head x) (is_close x)) s
        ∙ ap (λ t. t || is_head x || (true && is_close x)) body
        ∙ ap (λ t. t || (true && is_close x)) h
        ∙ c

    -- ---- the end

    after_semicolon : (tail : List Mark) (o : Bool) (x : Mark) → At first tail 0 o mark.Semicolon → ends_by first tail x ≡ true
    after_semicolon tail o x at =
        plainly first tail x plain
        ∙ ap (λ l. ends_with l (is_semicolon (last_of first tail)) (is_close (last_of first tail)) (has_body first tail) (is_head x) (is_close x)) (level_zero tail o mark.Semicolon at)
        ∙ ap (λ m. ends_with true (is_semicolon m) (is_close m) (has_body first tail) (is_head x) (is_close x)) at.last_is

    pub after_body : (tail : List Mark) (o : Bool) (x : Mark) → (is_body first || o) ≡ true → At first tail 0 o mark.CloseBrace → ends_by first tail x ≡ true
    after_body tail o x body at =
        plainly first tail x plain
        ∙ ap (λ l. ends_with l (is_semicolon (last_of first tail)) (is_close (last_of first tail)) (has_body first tail) (is_head x) (is_close x)) (level_zero tail o mark.CloseBrace at)
        ∙ ap (λ m. ends_with true (is_semicolon m) (is_close m) (has_body first tail) (is_head x) (is_close x)) at.last_is
        ∙ ap (λ t. ends_with true false true (is_body first || t) (is_head x) (is_close x)) at.opened
        ∙ ap (λ t. ends_with true false true t (is_head x) (is_close x)) body

pub all_end : (first : Mark) (tail : List Mark) → ((x : Mark) → ends_by first tail x ≡ true) → (o : Option Mark) → ends_before (first ∷ tail) o ≡ true
all_end first tail each None = refl
all_end first tail each (Some x) = each x

-- ---- tokens

pub record IsCalm (x : Mark) : Type 0 where
  pub no_open : is_open x ≡ false
  pub no_close : is_close x ≡ false
  pub no_head : is_head x ≡ false
  pub no_semicolon : is_semicolon x ≡ false
  pub no_paren : is_close_paren x ≡ false
  pub begins_plain : is_plain x ≡ true
  pub no_body : is_body x ≡ false

pub calm_mark : (x : Kind) → is_calm x ≡ true → IsCalm (mark_of_kind x)
calm_mark kind.OpenParen c = absurd (false≢true c)
calm_mark kind.CloseParen c = absurd (false≢true c)
calm_mark kind.OpenBracket c = absurd (false≢true c)
calm_mark kind.CloseBracket c = absurd (false≢true c)
calm_mark kind.OpenBrace c = absurd (false≢true c)
calm_mark kind.CloseBrace c = absurd (false≢true c)
calm_mark kind.Semicolon c = absurd (false≢true c)
calm_mark kind.CCode c = absurd (false≢true c)
calm_mark kind.Program c = absurd (false≢true c)
calm_mark kind.Ss c = absurd (false≢true c)
calm_mark kind.State c = absurd (false≢true c)
calm_mark kind.Entry c = absurd (false≢true c)
calm_mark kind.Exit c = absurd (false≢true c)
calm_mark _ c = record { no_open = refl; no_close = refl; no_head = refl; no_semicolon = refl; no_paren = refl; begins_plain = refl; no_body = refl }

pub record IsInner (x : Mark) : Type 0 where
  pub no_open : is_open x ≡ false
  pub no_close : is_close x ≡ false
  pub no_head : is_head x ≡ false

loose_mark : (x : Kind) → is_loose x ≡ true → IsInner (mark_of_kind x)
loose_mark kind.Semicolon c = record { no_open = refl; no_close = refl; no_head = refl }
loose_mark kind.CCode c = record { no_open = refl; no_close = refl; no_head = refl }
loose_mark kind.State c = record { no_open = refl; no_close = refl; no_head = refl }
loose_mark kind.Entry c = record { no_open = refl; no_close = refl; no_head = refl }
loose_mark kind.Exit c = record { no_open = refl; no_close = refl; no_head = refl }
loose_mark _ c = absurd (false≢true c)

-- ---- runs

module _ (rest : List Mark) (first : Mark) (plain : is_plain first ≡ true) where
  goes : {k m : List NumberedKind} (tail : List Mark) (x : Kind) → First x k m → ends_by first tail (mark_of_kind x) ≡ false → GoesTo rest first (tail ++ mark_of_kind x ∷ []) (marks_ahead m) → GoesTo rest first tail (marks_ahead k)
  goes tail x f e h = subst (λ z. GoesTo rest first tail (marks_ahead z)) (sym f.1) (e, h)

  inside_same : {tail : List Mark} {b : ℕ} {o : Bool} {last : Mark} {k m : List NumberedKind} (x : Kind) → IsInner (mark_of_kind x) → First x k m → At first tail (suc b) o last →
      (At first (tail ++ mark_of_kind x ∷ []) (suc b) o (mark_of_kind x) → GoesTo rest first (tail ++ mark_of_kind x ∷ []) (marks_ahead m)) → GoesTo rest first tail (marks_ahead k)
  inside_same {tail} {b} {o} {last} x is f at go_on =
      goes tail x f (on_inside first plain tail b o last (mark_of_kind x) at is.no_head) (go_on (next_same first tail last (mark_of_kind x) (suc b) o is.no_open is.no_close at))

  inside_up : {tail : List Mark} {b : ℕ} {o : Bool} {last : Mark} {k m : List NumberedKind} → First kind.OpenBrace k m → At first tail (suc b) o last →
      (At first (tail ++ mark.OpenBrace ∷ []) (suc (suc b)) o mark.OpenBrace → GoesTo rest first (tail ++ mark.OpenBrace ∷ []) (marks_ahead m)) → GoesTo rest first tail (marks_ahead k)
  inside_up {tail} {b} {o} {last} f at go_on = goes tail kind.OpenBrace f (on_inside first plain tail b o last mark.OpenBrace at refl) (go_on (next_deeper first tail last b o at))

  pub inside_down : {tail : List Mark} {b : ℕ} {o : Bool} {last : Mark} {k m : List NumberedKind} → First kind.CloseBrace k m → At first tail (suc b) o last →
      (At first (tail ++ mark.CloseBrace ∷ []) b o mark.CloseBrace → GoesTo rest first (tail ++ mark.CloseBrace ∷ []) (marks_ahead m)) → GoesTo rest first tail (marks_ahead k)
  inside_down {tail} {b} {o} {last} f at go_on = goes tail kind.CloseBrace f (on_inside first plain tail b o last mark.CloseBrace at refl) (go_on (next_down first tail last b o at))

  paren_inner : IsInner mark.OpenParen
  paren_inner = record { no_open = refl; no_close = refl; no_head = refl }

  close_inner : IsInner mark.CloseParen
  close_inner = record { no_open = refl; no_close = refl; no_head = refl }

  other_inner : IsInner mark.Other
  other_inner = record { no_open = refl; no_close = refl; no_head = refl }

  calm_inner : (x : Kind) → is_calm x ≡ true → IsInner (mark_of_kind x)
  calm_inner x c = let is = calm_mark x c in record { no_open = is.no_open; no_close = is.no_close; no_head = is.no_head }

  pub inside_run : {d : ℕ} {k m : List NumberedKind} → Lies true d k m → {tail : List Mark} {b : ℕ} {o : Bool} {last : Mark} → At first tail (suc b) o last →
      ((tail2 : List Mark) (last2 : Mark) → At first tail2 (suc b) o last2 → GoesTo rest first tail2 (marks_ahead m)) → GoesTo rest first tail (marks_ahead k)
  inside_run (nothing e) {tail} {b} {o} {last} at go_on = subst (λ z. GoesTo rest first tail (marks_ahead z)) (sym e) (go_on tail last at)
  inside_run (token x c f l) at go_on = inside_same x (calm_inner x c) f at (λ a. inside_run l a go_on)
  inside_run (loose x c f l) at go_on = inside_same x (loose_mark x c) f at (λ a. inside_run l a go_on)
  inside_run (parens o i c l) at go_on = inside_same kind.OpenParen paren_inner o at (λ a. inside_run i a (λ tail2 last2 a2. inside_same kind.CloseParen close_inner c a2 (λ a3. inside_run l a3 go_on)))
  inside_run (squares o i c l) at go_on = inside_same kind.OpenBracket other_inner o at (λ a. inside_run i a (λ tail2 last2 a2. inside_same kind.CloseBracket other_inner c a2 (λ a3. inside_run l a3 go_on)))
  inside_run (group x q f o i c l) at go_on =
      inside_same x (calm_inner x q) f at (λ a. inside_up o a (λ a2. inside_run i a2 (λ tail2 last2 a3. inside_down c a3 (λ a4. inside_run l a4 go_on))))
  inside_run (braces o i c l) at go_on = inside_up o at (λ a. inside_run i a (λ tail2 last2 a2. inside_down c a2 (λ a3. inside_run l a3 go_on)))

  -- outside braces, before the body
  abbrev pub Outside : List Mark → Mark → Type 0
  Outside tail last = At first tail 0 false last × (is_semicolon last ≡ false) × ((is_close last && (is_body first || false)) ≡ false)

  pub outside_same : {tail : List Mark} {last : Mark} {k m : List NumberedKind} (x : Kind) → IsInner (mark_of_kind x) → is_semicolon (mark_of_kind x) ≡ false → First x k m → Outside tail last →
      (Outside (tail ++ mark_of_kind x ∷ []) (mark_of_kind x) → GoesTo rest first (tail ++ mark_of_kind x ∷ []) (marks_ahead m)) → GoesTo rest first tail (marks_ahead k)
  outside_same {tail} {last} x is s f at go_on =
      goes tail x f (on_outside first plain tail false last (mark_of_kind x) at.0 at.1 at.2 is.no_head is.no_close)
      (go_on (next_same first tail last (mark_of_kind x) 0 false is.no_open is.no_close at.0, s, ap (λ t. t && (is_body first || false)) is.no_close))

  -- a brace that raises the balance from 0
  pub outside_up : {tail : List Mark} {last : Mark} {k m : List NumberedKind} (o : Bool) → is_close_paren last ≡ o → First kind.OpenBrace k m → Outside tail last →
      (At first (tail ++ mark.OpenBrace ∷ []) 1 o mark.OpenBrace → GoesTo rest first (tail ++ mark.OpenBrace ∷ []) (marks_ahead m)) → GoesTo rest first tail (marks_ahead k)
  outside_up {tail} {last} o is f at go_on =
      goes tail kind.OpenBrace f (on_outside first plain tail false last mark.OpenBrace at.0 at.1 at.2 refl refl)
      (go_on (subst (λ t. At first (tail ++ mark.OpenBrace ∷ []) 1 t mark.OpenBrace) is (next_up first tail last false at.0)))

  pub outside_semicolon : {tail : List Mark} {last : Mark} {k : List NumberedKind} → First kind.Semicolon k [] → Outside tail last → GoesTo rest first tail (marks_ahead k)
  outside_semicolon {tail} {last} f at =
      goes tail kind.Semicolon f (on_outside first plain tail false last mark.Semicolon at.0 at.1 at.2 refl refl)
      (all_end first (tail ++ mark.Semicolon ∷ []) (λ x. after_semicolon first plain (tail ++ mark.Semicolon ∷ []) false x (next_same first tail last mark.Semicolon 0 false refl refl at.0)) (slice_get rest 0))

  -- where the item has no body yet
  module _ (no_body : is_body first ≡ false) where
    after_group : {tail : List Mark} → At first tail 0 false mark.CloseBrace → Outside tail mark.CloseBrace
    after_group at = (at, refl, ap (λ t. true && (t || false)) no_body)

    pub outside_run : {d : ℕ} {k m : List NumberedKind} → Lies false d k m → {tail : List Mark} {last : Mark} → Outside tail last →
        ((tail2 : List Mark) (last2 : Mark) → Outside tail2 last2 → GoesTo rest first tail2 (marks_ahead m)) → GoesTo rest first tail (marks_ahead k)
    outside_run (nothing e) {tail} {last} at go_on = subst (λ z. GoesTo rest first tail (marks_ahead z)) (sym e) (go_on tail last at)
    outside_run (token x c f l) at go_on = outside_same x (calm_inner x c) (calm_mark x c).no_semicolon f at (λ a. outside_run l a go_on)
    outside_run (parens o i c l) at go_on =
        outside_same kind.OpenParen paren_inner refl o at (λ a. outside_run i a (λ tail2 last2 a2. outside_same kind.CloseParen close_inner refl c a2 (λ a3. outside_run l a3 go_on)))
    outside_run (squares o i c l) at go_on =
        outside_same kind.OpenBracket other_inner refl o at (λ a. outside_run i a (λ tail2 last2 a2. outside_same kind.CloseBracket other_inner refl c a2 (λ a3. outside_run l a3 go_on)))
    outside_run (group x q f o i c l) at go_on =
        outside_same x (calm_inner x q) (calm_mark x q).no_semicolon f at (λ a.
        outside_up false (calm_mark x q).no_paren o a (λ a2. inside_run i a2 (λ tail2 last2 a3. inside_down c a3 (λ a4. outside_run l (after_group a4) go_on))))
