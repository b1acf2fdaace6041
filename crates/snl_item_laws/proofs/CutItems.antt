-- The cut takes an item of the grammar whole.
use Rattle.std.proofs.Common.{◌≡◌, ℕ, zero, suc, ◌+◌, ◌<◌, ◌≤◌, Bool, true, false, not, ◌&&◌, ◌||◌, List, [], ◌∷◌, ◌++◌, length, slice_get, None, inl, inr, refl, ap, sym, ◌∙◌, subst, arith, append_assoc}
use Rattle.std.proofs.lemmas.Bool.{cases_lt, false≢true, true≢false}
use Rattle.std.proofs.Math.Seq.{take-append_seam}
use Rattle.snl_lex.specs.declared.kind.Kind.{Kind}
use Rattle.snl_lex.specs.declared.kind.Kind.TheVariants as kind
use Rattle.snl_grammar.specs.declared.marks.Mark.{Mark}
use Rattle.snl_grammar.specs.declared.marks.Mark.TheVariants as mark
use Rattle.snl_grammar.specs.declared.tree.item.Item.{Item}
use Rattle.snl_grammar.specs.declared.tree.item.Item.TheVariants as items
use Rattle.snl_grammar.specs.ItemLaws.{IsLeast}
use Rattle.snl_grammar.specs.Items.{begins_texts, ends_after, ends_before, ends_by, is_body, is_close_paren, is_plain, item}
use Rattle.snl_grammar.specs.Marks.{mark_of_kind}
use Rattle.snl_grammar.specs.Spelling.Base.{Matches}
use Rattle.snl_grammar.specs.Spelling.Items.{spell_item}
use Rattle.snl_grammar.specs.Tokens.{NumberedKind, ahead, numbered}
use Rattle.snl_grammar.specs.Grammar.Base.{Each, First, Leaf}
use Rattle.snl_grammar.specs.Grammar.Items.{IsItem}
use Rattle.snl_item_laws.specs.Cuts.{begins_bracket, could_go_on, marks_of}
use Rattle.snl_item_laws.proofs.CutRuns.{GoesTo, Outside, after_body, all_end, begin, calm_mark, inside_down, inside_run, marks_ahead, outside_run, outside_same, outside_semicolon, outside_up}
use Rattle.snl_item_laws.proofs.Lies.{Lies, group, nothing, parens, squares, token}
use Rattle.snl_item_laws.proofs.LiesItems.{IsShaped, block, ended, ends_alone, function_body, header_alone, header_with, is_body_word, item_shape, named_block, set_begun, single}
use Rattle.snl_item_laws.proofs.LiesStatements.{IsBraced}
use Rattle.snl_item_laws.proofs.Prefixes.{get_seam, length_more}

-- the tokens are one item, where `rest` follows
abbrev IsWhole : List Mark → List Mark → Type 0
IsWhole rest [] = ⊥
IsWhole rest (x ∷ xs) = GoesTo rest x [] xs

module _ (rest : List Mark) where
  whole : {k m : List NumberedKind} (x : Kind) → First x k m → GoesTo rest (mark_of_kind x) [] (marks_ahead m) → IsWhole rest (marks_ahead k)
  whole x f h = subst (λ z. IsWhole rest (marks_ahead z)) (sym f.1) h

  -- one token after another, where the cut tells these apart
  next : {k m : List NumberedKind} (first : Mark) (tail : List Mark) (x : Kind) → First x k m → ends_by first tail (mark_of_kind x) ≡ false → GoesTo rest first (tail ++ mark_of_kind x ∷ []) (marks_ahead m) → GoesTo rest first tail (marks_ahead k)
  next first tail x f e h = subst (λ z. GoesTo rest first tail (marks_ahead z)) (sym f.1) (e, h)

  -- ---- items that end with a semicolon, and functions

  -- what goes on after a front goes on after its first token too
  front_goes : {d : ℕ} {k m : List NumberedKind} → Lies false d k m →
      ((first : Mark) (plain : is_plain first ≡ true) (no_body : is_body first ≡ false) (tail : List Mark) (last : Mark) → Outside rest first plain tail last → GoesTo rest first tail (marks_ahead m)) →
      IsWhole rest (marks_ahead m) → IsWhole rest (marks_ahead k)
  front_goes (nothing e) go_on alone = subst (λ z. IsWhole rest (marks_ahead z)) (sym e) alone
  front_goes (token x c f l) go_on alone =
      let is = calm_mark x c in
      whole x f (outside_run rest (mark_of_kind x) is.begins_plain is.no_body l (begin (mark_of_kind x) is.no_open is.no_close, is.no_semicolon, ap (λ t. t && (is_body (mark_of_kind x) || false)) is.no_close) (go_on (mark_of_kind x) is.begins_plain is.no_body))
  front_goes (parens o i c l) go_on alone =
      whole kind.OpenParen o (outside_run rest mark.OpenParen refl refl i (begin mark.OpenParen refl refl, refl, refl) (λ tail last a.
      outside_same rest mark.OpenParen refl kind.CloseParen (record { no_open = refl; no_close = refl; no_head = refl }) refl c a (λ a2. outside_run rest mark.OpenParen refl refl l a2 (go_on mark.OpenParen refl refl))))
  front_goes (squares o i c l) go_on alone =
      whole kind.OpenBracket o (outside_run rest mark.Other refl refl i (begin mark.Other refl refl, refl, refl) (λ tail last a.
      outside_same rest mark.Other refl kind.CloseBracket (record { no_open = refl; no_close = refl; no_head = refl }) refl c a (λ a2. outside_run rest mark.Other refl refl l a2 (go_on mark.Other refl refl))))
  front_goes (group x q f o i c l) go_on alone =
      let is = calm_mark x q in
      let first = mark_of_kind x in
      whole x f (outside_up rest first is.begins_plain false is.no_paren o (begin first is.no_open is.no_close, is.no_semicolon, ap (λ t. t && (is_body first || false)) is.no_close) (λ a.
      inside_run rest first is.begins_plain i a (λ tail last a2. inside_down rest first is.begins_plain c a2 (λ a3.
      outside_run rest first is.begins_plain is.no_body l (a3, refl, ap (λ t. true && (t || false)) is.no_body) (go_on first is.begins_plain is.no_body)))))

  alone_ends : (x : Mark) → ((y : Mark) → ends_by x [] y ≡ true) → ends_before (x ∷ []) (slice_get rest 0) ≡ true
  alone_ends x each = all_end x [] each (slice_get rest 0)

  -- a block, whose item then ends
  block_goes : {d : ℕ} {k : List NumberedKind} (first : Mark) (plain : is_plain first ≡ true) (o : Bool) → (is_body first || o) ≡ true → (tail : List Mark) (last : Mark) → is_close_paren last ≡ o → Outside rest first plain tail last → IsBraced d k [] →
      GoesTo rest first tail (marks_ahead k)
  block_goes first plain o body tail last is at h =
      outside_up rest first plain o is h.opening at (λ a. inside_run rest first plain h.members a (λ tail2 last2 a2. inside_down rest first plain h.closing a2 (λ a3.
      all_end first (tail2 ++ mark.CloseBrace ∷ []) (λ x. after_body first plain (tail2 ++ mark.CloseBrace ∷ []) o x body a3) (slice_get rest 0))))

  -- the parameters and the block of a function
  function_goes : {d : ℕ} {m2 m3 m4 : List NumberedKind} (first : Mark) (plain : is_plain first ≡ true) (no_body : is_body first ≡ false) → {tail : List Mark} {last : Mark} → Outside rest first plain tail last →
      Lies false d m2 m3 → First kind.CloseParen m3 m4 → IsBraced d m4 [] → GoesTo rest first tail (marks_ahead m2)
  function_goes first plain no_body at inner c b =
      outside_run rest first plain no_body inner at (λ tail2 last2 a.
      outside_same rest first plain kind.CloseParen (record { no_open = refl; no_close = refl; no_head = refl }) refl c a (λ a2.
      block_goes first plain true (ap (λ t. t || true) no_body) (tail2 ++ mark.CloseParen ∷ []) mark.CloseParen refl a2 b))

  -- ---- headers

  -- what comes after the opening parenthesis of a header, but for its first text
  abbrev AreTextMarks : List Mark → Type 0
  AreTextMarks [] = Unit {0}
  AreTextMarks (x ∷ xs) = (x ≡ mark.Text) × AreTextMarks xs

  one_more : (ts : List Mark) → AreTextMarks ts → AreTextMarks (ts ++ mark.Text ∷ [])
  one_more [] are = (refl, tt)
  one_more (t ∷ ts) are = (are.0, one_more ts are.1)

  begins_more : (ts : List Mark) → AreTextMarks ts → begins_texts (ts ++ mark.Text ∷ []) ≡ true
  begins_more [] are = refl
  begins_more (t ∷ ts) are = ap (λ z. begins_texts (z ∷ (ts ++ mark.Text ∷ []))) are.0 ∙ begins_more ts are.1

  begins_closed : (ts : List Mark) → AreTextMarks ts → begins_texts (ts ++ mark.CloseParen ∷ []) ≡ true
  begins_closed [] are = refl
  begins_closed (t ∷ ts) are = ap (λ z. begins_texts (z ∷ (ts ++ mark.CloseParen ∷ []))) are.0 ∙ begins_closed ts are.1

  begins_past : (ts : List Mark) (x : Mark) → AreTextMarks ts → begins_texts ((ts ++ mark.CloseParen ∷ []) ++ x ∷ []) ≡ false
  begins_past [] x are = refl
  begins_past (t ∷ ts) x are = ap (λ z. begins_texts (z ∷ ((ts ++ mark.CloseParen ∷ []) ++ x ∷ []))) are.0 ∙ begins_past ts x are.1

  abbrev header_front : List Mark → List Mark
  header_front ts = mark.Name ∷ mark.OpenParen ∷ mark.Text ∷ ts

  texts_go : (ns : List ℕ) (k m : List NumberedKind) → Each (Leaf kind.Text) ns k m → (ts : List Mark) → AreTextMarks ts →
      ((ts2 : List Mark) → AreTextMarks ts2 → GoesTo rest mark.Program (header_front ts2) (marks_ahead m)) → GoesTo rest mark.Program (header_front ts) (marks_ahead k)
  texts_go [] k m e ts are go_on = subst (λ z. GoesTo rest mark.Program (header_front ts) (marks_ahead z)) (sym e) (go_on ts are)
  texts_go (n ∷ ns) k m h ts are go_on = next mark.Program (header_front ts) kind.Text (n, h.1) (ap not (begins_more ts are)) (texts_go ns h.0 m h.2 (ts ++ mark.Text ∷ []) (one_more ts are) go_on)

  bare_ends : (r : List Mark) → begins_bracket r ≡ false → ends_before (mark.Program ∷ mark.Name ∷ []) (slice_get r 0) ≡ true
  bare_ends [] free = refl
  bare_ends (mark.OpenParen ∷ r) free = absurd (true≢false free)
  bare_ends (_ ∷ r) free = refl

  -- ---- all items

  single_ends : (x : Kind) → ends_alone x ≡ true → (y : Mark) → ends_by (mark_of_kind x) [] y ≡ true
  single_ends kind.CloseBrace alone y = refl
  single_ends kind.Semicolon alone y = refl
  single_ends kind.CCode alone y = refl
  single_ends _ alone y = absurd (false≢true alone)

  body_mark : (x : Kind) → is_body_word x ≡ true → mark_of_kind x ≡ mark.Body
  body_mark kind.State is = refl
  body_mark kind.Entry is = refl
  body_mark kind.Exit is = refl
  body_mark _ is = absurd (false≢true is)

  body_goes : {k m : List NumberedKind} (word : Kind) → is_body_word word ≡ true → First word k m → GoesTo rest mark.Body [] (marks_ahead m) → IsWhole rest (marks_ahead k)
  body_goes {k} {m} word is f h = whole word f (subst (λ z. GoesTo rest z [] (marks_ahead m)) (sym (body_mark word is)) h)

  shape_goes : {bare : Type 0} {d : ℕ} (k : List NumberedKind) → (bare → begins_bracket rest ≡ false) → IsShaped bare d k [] → IsWhole rest (marks_ahead k)
  shape_goes k free (single x alone f) = whole x f (alone_ends (mark_of_kind x) (single_ends x alone))
  shape_goes k free (header_alone m is p n) = whole kind.Program p (next mark.Program [] kind.Name n refl (bare_ends rest (free is)))
  shape_goes k free (header_with n ns m1 m2 m3 m4 m5 p name o t ts c) =
      whole kind.Program p
      (next mark.Program [] kind.Name name refl
      (next mark.Program (mark.Name ∷ []) kind.OpenParen o refl
      (next mark.Program (mark.Name ∷ mark.OpenParen ∷ []) kind.Text (n, t) refl
      (texts_go ns m4 m5 ts [] tt (λ ts2 are.
      next mark.Program (header_front ts2) kind.CloseParen c (ap not (begins_closed ts2 are))
      (all_end mark.Program (header_front ts2 ++ mark.CloseParen ∷ []) (λ x. ap not (begins_past ts2 x are)) (slice_get rest 0)))))))
  shape_goes k free (set_begun m1 m2 s n o) =
      whole kind.Ss s (next mark.Ss [] kind.Name n refl (next mark.Ss (mark.Name ∷ []) kind.OpenBrace o refl (all_end mark.Ss (mark.Name ∷ mark.OpenBrace ∷ []) (λ x. refl) (slice_get rest 0))))
  shape_goes k free (ended h) =
      front_goes h.front (λ first plain no_body tail last at. outside_semicolon rest first plain h.semicolon at) (whole kind.Semicolon h.semicolon (alone_ends mark.Semicolon (λ y. refl)))
  shape_goes k free (block word m is f b) = body_goes word is f (block_goes mark.Body refl false refl [] mark.Body refl (begin mark.Body refl refl, refl, refl) b)
  shape_goes k free (named_block word m1 m2 is f n b) =
      body_goes word is f
      (outside_same rest mark.Body refl kind.Name (record { no_open = refl; no_close = refl; no_head = refl }) refl n (begin mark.Body refl refl, refl, refl) (λ a.
      block_goes mark.Body refl false refl (mark.Name ∷ []) mark.Name refl a b))
  shape_goes k free (function_body m1 m2 m3 m4 front o inner c b) =
      front_goes front (λ first plain no_body tail last at.
      outside_same rest first plain kind.OpenParen (record { no_open = refl; no_close = refl; no_head = refl }) refl o at (λ a. function_goes first plain no_body a inner c b))
      (whole kind.OpenParen o (function_goes mark.OpenParen refl refl (begin mark.OpenParen refl refl, refl, refl) inner c b))

  -- ---- the length of the first item

  module _ (first : Mark) where
    here : (tail l : List Mark) → ends_after (first ∷ (tail ++ l)) (suc (length tail)) ≡ ends_before (first ∷ tail) (slice_get l 0)
    here tail l =
        ap (λ z. ends_before (first ∷ z) (slice_get (tail ++ l) (length tail))) (take-append_seam tail l)
        ∙ ap (ends_before (first ∷ tail)) (get_seam tail l)

    -- the same place, counted from one token on
    one_on : (tail : List Mark) (x : Mark) (l : List Mark) (m : ℕ) (b : Bool) → ends_after (first ∷ ((tail ++ x ∷ []) ++ l)) (suc (length (tail ++ x ∷ []) + m)) ≡ b →
        ends_after (first ∷ (tail ++ (x ∷ l))) (suc (length tail + suc m)) ≡ b
    one_on tail x l m b h =
        let longer : length (tail ++ x ∷ []) ≡ suc (length tail) = length_more tail x in
        let same : suc (length (tail ++ x ∷ []) + m) ≡ suc (length tail + suc m) = omega (arith, longer) in
        subst (λ n. ends_after (first ∷ (tail ++ (x ∷ l))) n ≡ b) same
        (subst (λ (z : List Mark). ends_after (first ∷ z) (suc (length (tail ++ x ∷ []) + m)) ≡ b) (append_assoc tail (x ∷ []) l) h)

    at_place : (tail l : List Mark) (b : Bool) → ends_before (first ∷ tail) (slice_get l 0) ≡ b → ends_after (first ∷ (tail ++ l)) (suc (length tail + 0)) ≡ b
    at_place tail l b e =
        let same : suc (length tail) ≡ suc (length tail + 0) = omega arith in
        subst (λ n. ends_after (first ∷ (tail ++ l)) n ≡ b) same (here tail l ∙ e)

    at_end : (q tail : List Mark) → GoesTo rest first tail q → ends_after (first ∷ (tail ++ (q ++ rest))) (suc (length tail + length q)) ≡ true
    at_end [] tail g = at_place tail rest true g
    at_end (x ∷ q) tail g = one_on tail x (q ++ rest) (length q) true (at_end q (tail ++ x ∷ []) g.1)

    before_end : (q tail : List Mark) → GoesTo rest first tail q → (m : ℕ) → m < length q → ends_after (first ∷ (tail ++ (q ++ rest))) (suc (length tail + m)) ≡ false
    before_end [] tail g m less = absurd (omega (arith, less))
    before_end (x ∷ q) tail g zero less = at_place tail (x ∷ (q ++ rest)) false g.0
    before_end (x ∷ q) tail g (suc m) less = one_on tail x (q ++ rest) m false (before_end q (tail ++ x ∷ []) g.1 m (omega (arith, less)))

    whole_least : (q : List Mark) → GoesTo rest first [] q → IsLeast (ends_after (first ∷ (q ++ rest))) 1 (suc (length q))
    whole_least q g = record {
      above = omega arith;
      passes = let same : suc (0 + length q) ≡ suc (length q) = omega arith in subst (λ n. ends_after (first ∷ (q ++ rest)) n ≡ true) same (at_end q [] g);
      none = earlier;
    }
      where
        earlier : (m : ℕ) → 1 ≤ m → m < suc (length q) → ends_after (first ∷ (q ++ rest)) m ≡ false
        earlier zero low less = absurd (omega (arith, low))
        earlier (suc m) low less = let same : suc (0 + m) ≡ suc m = omega arith in subst (λ n. ends_after (first ∷ (q ++ rest)) n ≡ false) same (before_end q [] g m (omega (arith, less)))

-- one least number
same_least : (p : ℕ → Bool) (low a b : ℕ) → IsLeast p low a → IsLeast p low b → a ≡ b
same_least p low a b is other =
    elim (cases_lt a b) [
      | inl less ↦ absurd (true≢false (sym is.passes ∙ other.none a is.above less))
      | inr more ↦
          elim (cases_lt b a) [
            | inl less ↦ absurd (true≢false (sym other.passes ∙ is.none b other.above less))
            | inr same ↦ omega (arith, more, same)
          ]
    ]

marks_numbered : (n : ℕ) (kinds : List Kind) → marks_ahead (numbered n kinds) ≡ marks_of kinds
marks_numbered n [] = refl
marks_numbered n (x ∷ xs) = ap (λ l. mark_of_kind x ∷ l) (marks_numbered (suc n) xs)

module _ (rest : List Mark) where
  whole_length : (q : List Mark) → IsWhole rest q → ((tokens : List Mark) → 0 < length tokens → IsLeast (ends_after tokens) 1 (item tokens)) → item (q ++ rest) ≡ length q
  whole_length [] w least = absurd w
  whole_length (x ∷ q) w least =
      let all : List Mark = x ∷ (q ++ rest) in
      same_least (ends_after all) 1 (item all) (suc (length q)) (least all (omega arith)) (whole_least rest x q w)

  length_marks : (kinds : List Kind) → length (marks_of kinds) ≡ length kinds
  length_marks [] = refl
  length_marks (x ∷ xs) = ap (λ n. suc n) (length_marks xs)

  pub cut_whole : (kinds : List Kind) (t : Item) → IsItem t kinds → could_go_on t rest ≡ false → ((tokens : List Mark) → 0 < length tokens → IsLeast (ends_after tokens) 1 (item tokens)) → item (marks_of kinds ++ rest) ≡ length kinds
  unfolding ahead
  cut_whole kinds t is free least =
      let bare_free : (n : ℕ) × (t ≡ items.Header n None) → begins_bracket rest ≡ false = λ bare. sym (ap (λ u. could_go_on u rest) bare.1) ∙ free in
      let goes : IsWhole rest (marks_of kinds) = subst (IsWhole rest) (marks_numbered 0 kinds) (shape_goes rest (ahead kinds 0) bare_free (item_shape 98 t (ahead kinds 0) [] is)) in
      whole_length (marks_of kinds) goes least ∙ length_marks kinds

-- ---- a header without texts, where a parenthesis follows

module _ (least : (tokens : List Mark) → 0 < length tokens → IsLeast (ends_after tokens) 1 (item tokens)) (r : List Mark) where
  past_two : 2 < item (mark.Program ∷ mark.Name ∷ mark.OpenParen ∷ r)
  past_two =
      let all : List Mark = mark.Program ∷ mark.Name ∷ mark.OpenParen ∷ r in by (item all) (least all (omega arith))
    where
      by : (j : ℕ) → IsLeast (ends_after (mark.Program ∷ mark.Name ∷ mark.OpenParen ∷ r)) 1 j → 2 < j
      by zero is = absurd (omega (arith, is.above))
      by (suc zero) is = absurd (false≢true is.passes)
      by (suc (suc zero)) is = absurd (false≢true is.passes)
      by (suc (suc (suc j))) is = omega arith

  header_past : (n : ℕ) (kinds : List Kind) → Matches (spell_item (items.Header n None)) (numbered 0 kinds) → length kinds < item (marks_of kinds ++ mark.OpenParen ∷ r)
  header_past n [] h = absurd h
  header_past n (a ∷ []) h = absurd h.1
  header_past n (a ∷ b ∷ []) h =
      subst (λ z. 2 < item (mark_of_kind z ∷ mark_of_kind b ∷ mark.OpenParen ∷ r)) h.0.0 (subst (λ z. 2 < item (mark.Program ∷ mark_of_kind z ∷ mark.OpenParen ∷ r)) h.1.0.0 past_two)
  header_past n (a ∷ b ∷ c ∷ kinds) h = absurd h.1.1

pub cut_goes_on : ((tokens : List Mark) → 0 < length tokens → IsLeast (ends_after tokens) 1 (item tokens)) → (kinds : List Kind) (t : Item) (rest : List Mark) → Matches (spell_item t) (ahead kinds 0) → could_go_on t rest ≡ true → length kinds < item (marks_of kinds ++ rest)
unfolding ahead
cut_goes_on least kinds (items.Header n None) (mark.OpenParen ∷ r) spelled goes = header_past least r n kinds spelled
cut_goes_on least kinds _ _ spelled goes = absurd (false≢true goes)
