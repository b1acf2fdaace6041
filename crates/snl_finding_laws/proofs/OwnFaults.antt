-- What the parser finds in the span of an item: what it finds at that item.
use Rattle.std.proofs.Common.{◌≡◌, ℕ, zero, suc, ◌+◌, ◌<◌, ◌≤◌, Bool, true, false, ◌&&◌, not, nat_le, nat_lt, ◌||◌, cond, List, [], ◌∷◌, length, slice_get, Option, None, Some, is_none, is_some, option_map, refl, sym, ap, subst, ◌∙◌, arith}
use Rattle.std.specs.Prelude.{if◌then◌else◌}
use Rattle.std.specs.List.{AllByRecursion as Each, cons_option, filter_map, list_any, position, position_or_len}
use Rattle.std.proofs.lemmas.Bool.{and_from, and_left, and_right, le-leb, le-ltb, lt-leb, lt-ltb}
use Rattle.std.proofs.lemmas.Bool.Decides.{nat_tests}
use Rattle.snl_lex.specs.declared.piece.Piece.{Piece}
use Rattle.snl_lex.specs.Pieces.{LiesIn, piece_end}
use Rattle.snl_grammar.specs.declared.outcome.Parsed.{Parsed}
use Rattle.snl_grammar.specs.declared.outcome.Parsed.TheVariants as parsed
use Rattle.snl_grammar.specs.declared.tree.item.Item.{Item}
use Rattle.snl_grammar.specs.Outcome.{BlamesWithin, outcome_by_tree, outcome_of, parsed_in}
use Rattle.snl_grammar.specs.Parsing.{is_bad, kinds_in}
use Rattle.snl_grammar.specs.Reading.Items.{fault_of, item_of}
use Rattle.snl_codes.specs.declared.code.Code.{Code}
use Rattle.snl_codes.specs.declared.code.Code.TheVariants.{E01, E02}
use Rattle.snl_kept.specs.declared.found.findings.Finding.{Finding}
use Rattle.snl_kept.specs.Faults.{at_number, at_token, fault_at, fault_in}
use Rattle.snl_kept.specs.Program.{ProgramItem, tree_in}
use Rattle.snl_finding_laws.specs.OwnFaults.{first_byte, is_bad_token, is_in_span, is_of_parser, is_syntax_error, stop_after}
use Rattle.snl_finding_laws.proofs.Counts.{count, one_if}
use Rattle.snl_finding_laws.proofs.Tokens.{AreInARow, missing}
use Rattle.snl_facts.specs.Each.{each_weaker, each_got, EachTwo}
use Rattle.std.proofs.Math.Bool.{and-true}
use Rattle.snl_facts.specs.Numbers.{lt_suc}
use Rattle.snl_kept.specs.TokenLaws.{Before, AllBefore, InARow}

-- ---- spans

stop_above : (text : List ℕ) (stop : ℕ) (qs : List Piece) → Each (λ q. stop ≤ q.start) qs → EachTwo Before qs → stop ≤ stop_after stop qs
stop_above text stop [] h two = omega arith
stop_above text stop (q ∷ qs) h two = let more = stop_above text (piece_end q) qs two.0 two.1 in omega (arith, h.0, more)

end_within : (text : List ℕ) (stop : ℕ) (ps : List Piece) (n : ℕ) (p : Piece) → EachTwo Before ps → slice_get ps n ≡ Some p → piece_end p ≤ stop_after stop ps
end_within text stop [] n p two e = absurd cc
end_within text stop (q ∷ qs) zero p two e =
    let same : q ≡ p = cc in
    subst (λ r. piece_end r ≤ stop_after (piece_end q) qs) same (stop_above text (piece_end q) qs two.0 two.1)
end_within text stop (q ∷ qs) (suc n) p two e = end_within text (piece_end q) qs n p two.1 e

first_within : (ps : List Piece) (n : ℕ) (p : Piece) → EachTwo Before ps → slice_get ps n ≡ Some p → first_byte ps ≤ p.start
first_within [] n p two e = absurd cc
first_within (q ∷ qs) zero p two e = let same : q ≡ p = cc in let starts : q.start ≡ p.start = ap (λ r. r.start) same in omega (arith, starts)
first_within (q ∷ qs) (suc n) p two e = let after : piece_end q ≤ p.start = each_got (Before q) qs n p two.0 e in omega (arith, after)

-- A token of the item begins in its span.
in_own_span : (text : List ℕ) (x : ProgramItem) (n : ℕ) (p : Piece) → InARow text x.tokens → slice_get x.tokens n ≡ Some p → is_in_span x p.start ≡ true
in_own_span text x n p row e =
    let first = first_within x.tokens n p row.apart e in
    let stop = end_within text 0 x.tokens n p row.apart e in
    let lies : LiesIn text p = each_got (LiesIn text) x.tokens n p row.lie e in
    and_from (nat_le (first_byte x.tokens) p.start) (nat_lt p.start (stop_after 0 x.tokens))
    (le-leb (first_byte x.tokens) p.start first) (lt-ltb p.start (stop_after 0 x.tokens) (omega (arith, stop, lies.0)))

-- No byte of a token that ends before the item begins is in it, nor of one that begins after the
-- item.
pub before_span : (text : List ℕ) (x : ProgramItem) (p : Piece) → InARow text x.tokens → Each (Before p) x.tokens → (offset : ℕ) → offset < piece_end p → is_in_span x offset ≡ false
before_span text x p row h offset within =
    and_left (nat_le (first_byte x.tokens) offset) (nat_lt offset (stop_after 0 x.tokens)) (lt-leb (first_byte x.tokens) offset (below x.tokens row.some h))
  where
    below : (qs : List Piece) → 0 < length qs → Each (Before p) qs → offset < first_byte qs
    below [] l h = absurd (omega (arith, l))
    below (q ∷ qs) l h = omega (arith, h.0, within)

stop_below : (bound stop : ℕ) (ps : List Piece) → stop ≤ bound → Each (λ p. piece_end p ≤ bound) ps → stop_after stop ps ≤ bound
stop_below bound stop [] l h = l
stop_below bound stop (p ∷ ps) l h = stop_below bound (piece_end p) ps h.0 h.1

pub after_span : (x : ProgramItem) (p : Piece) → Each (λ q. Before q p) x.tokens → (offset : ℕ) → p.start ≤ offset → is_in_span x offset ≡ false
after_span x p h offset from =
    let stop = stop_below p.start 0 x.tokens (omega arith) h in
    and_right (nat_le (first_byte x.tokens) offset) (nat_lt offset (stop_after 0 x.tokens)) (le-ltb offset (stop_after 0 x.tokens) (omega (arith, stop, from)))

-- ---- findings at items

abbrev at_item : (Code → Bool) → ProgramItem → Finding → Bool
at_item test x f = test f.code && is_in_span x f.offset

abbrev of_option : (Finding → Bool) → Option Finding → ℕ
of_option test None = 0
of_option test (Some f) = one_if (test f)

count_cons : (test : Finding → Bool) (o : Option Finding) (fs : List Finding) → count test (cons_option o fs) ≡ of_option test o + count test fs
count_cons test None fs = omega arith
count_cons test (Some f) fs = refl

-- At tokens that aren't in the span of an item nothing counts.
outside : (test : Code → Bool) (x : ProgramItem) (code : Code) (tokens : List Piece) (n : ℕ) → Each (λ p. is_in_span x p.start ≡ false) tokens → of_option (at_item test x) (at_number code tokens n) ≡ 0
outside test x code tokens n h = by (slice_get tokens n) refl
  where
    by : (o : Option Piece) → slice_get tokens n ≡ o → of_option (at_item test x) (option_map (at_token code) o) ≡ 0
    by None e = refl
    by (Some p) e = ap one_if (and_right (test code) (is_in_span x p.start) (each_got (λ q. is_in_span x q.start ≡ false) tokens n p h e))

none_at : (test : Code → Bool) (x : ProgramItem) (tokens : List Piece) (o : Parsed) → Each (λ p. is_in_span x p.start ≡ false) tokens → of_option (at_item test x) (fault_at tokens o) ≡ 0
none_at test x tokens (parsed.Sound tree) h = refl
none_at test x tokens (parsed.BadToken n) h = outside test x E01 tokens n h
none_at test x tokens (parsed.NoItem n) h = outside test x E02 tokens n h

none_among : (text : List ℕ) (test : Code → Bool) (x : ProgramItem) (ys : List ProgramItem) → Each (λ y. AllBefore x.tokens y.tokens) ys → count (at_item test x) (filter_map (fault_in text) ys) ≡ 0
none_among text test x [] h = refl
none_among text test x (y ∷ ys) h =
    let here : of_option (at_item test x) (fault_in text y) ≡ 0 =
    none_at test x y.tokens (parsed_in text y.tokens) (each_weaker (λ p. Each (λ q. Before q p) x.tokens) (λ p. is_in_span x p.start ≡ false) (λ p g. after_span x p g p.start (omega arith)) y.tokens h.0) in
    let rest = none_among text test x ys h.1 in
    count_cons (at_item test x) (fault_in text y) (filter_map (fault_in text) ys) ∙ omega (arith, here, rest)

-- ---- one item after another

pub turned : (ps qs : List Piece) → AllBefore ps qs → Each (λ p. Each (Before p) qs) ps
turned [] qs h = tt
turned (p ∷ ps) qs h = (
  each_weaker (λ q. Each (λ r. Before r q) (p ∷ ps)) (Before p) (λ q g. g.0) qs h,
  turned ps qs (each_weaker (λ q. Each (λ r. Before r q) (p ∷ ps)) (λ q. Each (λ r. Before r q) ps) (λ q g. g.1) qs h),
)

earlier_none : (text : List ℕ) (test : Code → Bool) (x y : ProgramItem) → InARow text x.tokens → InARow text y.tokens → AllBefore y.tokens x.tokens → of_option (at_item test x) (fault_in text y) ≡ 0
earlier_none text test x y row own h =
    none_at test x y.tokens (parsed_in text y.tokens) (both y.tokens (turned y.tokens x.tokens h) own.lie)
  where
    both : (ps : List Piece) → Each (λ p. Each (Before p) x.tokens) ps → Each (LiesIn text) ps → Each (λ p. is_in_span x p.start ≡ false) ps
    both [] g l = tt
    both (p ∷ ps) g l = (before_span text x p row g.0 p.start (omega (arith, l.0.0)), both ps g.1 l.1)

count_at_item : (text : List ℕ) (test : Code → Bool) (xs : List ProgramItem) (i : ℕ) (x : ProgramItem) → AreInARow text xs → slice_get xs i ≡ Some x
    → count (at_item test x) (filter_map (fault_in text) xs) ≡ of_option (at_item test x) (fault_in text x)
count_at_item text test [] i x row e = absurd cc
count_at_item text test (y ∷ ys) zero x row e =
    let same : y ≡ x = cc in
    let rest : count (at_item test x) (filter_map (fault_in text) ys) ≡ 0 = none_among text test x ys (subst (λ z. Each (λ w. AllBefore z.tokens w.tokens) ys) same row.items.0) in
    count_cons (at_item test x) (fault_in text y) (filter_map (fault_in text) ys)
    ∙ ap (λ z. of_option (at_item test x) (fault_in text z) + count (at_item test x) (filter_map (fault_in text) ys)) same ∙ omega (arith, rest)
count_at_item text test (y ∷ ys) (suc i) x row e =
    let later : AreInARow text ys = record { items = row.items.1; each = row.each.1 } in
    let own : InARow text x.tokens = each_got (λ z. InARow text z.tokens) ys i x row.each.1 e in
    let here : of_option (at_item test x) (fault_in text y) ≡ 0 = earlier_none text test x y own row.each.0 (each_got (λ z. AllBefore y.tokens z.tokens) ys i x row.items.0 e) in
    let rest = count_at_item text test ys i x later e in
    count_cons (at_item test x) (fault_in text y) (filter_map (fault_in text) ys) ∙ omega (arith, here, rest)

-- ---- the finding at an item

abbrev pub by_outcome : (Code → Bool) → Parsed → ℕ
by_outcome test (parsed.Sound tree) = 0
by_outcome test (parsed.BadToken n) = one_if (test E01)
by_outcome test (parsed.NoItem n) = one_if (test E02)

at_own_token : (text : List ℕ) (test : Code → Bool) (x : ProgramItem) (code : Code) (n : ℕ) → InARow text x.tokens → n < length x.tokens → of_option (at_item test x) (at_number code x.tokens n) ≡ one_if (test code)
at_own_token text test x code n row within = by (slice_get x.tokens n) refl
  where
    by : (o : Option Piece) → slice_get x.tokens n ≡ o → of_option (at_item test x) (option_map (at_token code) o) ≡ one_if (test code)
    by None e = absurd (missing x.tokens n within e)
    by (Some p) e = ap (λ b. one_if (test code && b)) (in_own_span text x n p row e) ∙ ap one_if (and-true (test code))

own_counted : (text : List ℕ) (test : Code → Bool) (x : ProgramItem) (o : Parsed) → InARow text x.tokens → BlamesWithin (length x.tokens) o → of_option (at_item test x) (fault_at x.tokens o) ≡ by_outcome test o
own_counted text test x (parsed.Sound tree) row h = refl
own_counted text test x (parsed.BadToken n) row h = at_own_token text test x E01 n row h
own_counted text test x (parsed.NoItem n) row h = at_own_token text test x E02 n row h

pub faults_counted : (text : List ℕ) (test : Code → Bool) (xs : List ProgramItem) (i : ℕ) (x : ProgramItem) → AreInARow text xs → slice_get xs i ≡ Some x
    → BlamesWithin (length x.tokens) (parsed_in text x.tokens) → count (at_item test x) (filter_map (fault_in text) xs) ≡ by_outcome test (parsed_in text x.tokens)
faults_counted text test xs i x row e within =
    count_at_item text test xs i x row e ∙ own_counted text test x (parsed_in text x.tokens) (each_got (λ z. InARow text z.tokens) xs i x row.each e) within

-- ---- what the outcome says of the item

any_found : {A : Type 0} (p : A → Bool) (xs : List A) → list_any p xs ≡ nat_lt (position_or_len p xs) (length xs)
any_found p [] = sym (le-ltb 0 0 (omega arith))
any_found p (x ∷ xs) = by (p x) (any_found p xs)
  where
    by : (b : Bool) → list_any p xs ≡ nat_lt (position_or_len p xs) (length xs) → (b || list_any p xs) ≡ nat_lt (cond (not b) (1 + position_or_len p xs) 0) (suc (length xs))
    by true h = sym (lt-ltb 0 (suc (length xs)) (omega arith))
    by false h = h ∙ sym (lt_suc (position_or_len p xs) (length xs))

found_if : {A : Type 0} (b : Bool) (x : A) → is_some (cond b (Some x) None) ≡ b
found_if true x = refl
found_if false x = refl

some_bad : (tokens : List Piece) → list_any is_bad tokens ≡ is_some (position is_bad tokens)
some_bad tokens = any_found is_bad tokens ∙ sym (found_if (nat_lt (position_or_len is_bad tokens) (length tokens)) (position_or_len is_bad tokens))

pub one_by_outcome : (text : List ℕ) (tokens : List Piece) → by_outcome is_of_parser (parsed_in text tokens) ≡ (if is_none (tree_in text tokens) then 1 else 0)
one_by_outcome text tokens =
    by_bad (position is_bad tokens) ∙ ap (λ b. one_if (is_none (if b then None else item_of (kinds_in text tokens)))) (sym (some_bad tokens))
  where
    by_tree : (o : Option Item) → by_outcome is_of_parser (outcome_by_tree o (fault_of (kinds_in text tokens))) ≡ one_if (is_none o)
    by_tree None = refl
    by_tree (Some tree) = refl

    by_bad : (o : Option ℕ) → by_outcome is_of_parser (outcome_of o (kinds_in text tokens)) ≡ one_if (is_none (if is_some o then None else item_of (kinds_in text tokens)))
    by_bad None = by_tree (item_of (kinds_in text tokens))
    by_bad (Some n) = refl

pub bad_by_outcome : (text : List ℕ) (tokens : List Piece) → by_outcome is_bad_token (parsed_in text tokens) ≡ (if list_any is_bad tokens then 1 else 0)
bad_by_outcome text tokens = by_bad (position is_bad tokens) ∙ ap one_if (sym (some_bad tokens))
  where
    by_tree : (o : Option Item) → by_outcome is_bad_token (outcome_by_tree o (fault_of (kinds_in text tokens))) ≡ 0
    by_tree None = refl
    by_tree (Some tree) = refl

    by_bad : (o : Option ℕ) → by_outcome is_bad_token (outcome_of o (kinds_in text tokens)) ≡ one_if (is_some o)
    by_bad None = by_tree (item_of (kinds_in text tokens))
    by_bad (Some n) = refl

pub syntax_by_outcome : (text : List ℕ) (tokens : List Piece)
    → by_outcome is_syntax_error (parsed_in text tokens) ≡ (if is_none (tree_in text tokens) && not (list_any is_bad tokens) then 1 else 0)
syntax_by_outcome text tokens =
    by_bad (position is_bad tokens) ∙ ap (λ b. one_if (is_none (if b then None else item_of (kinds_in text tokens)) && not b)) (sym (some_bad tokens))
  where
    by_tree : (o : Option Item) → by_outcome is_syntax_error (outcome_by_tree o (fault_of (kinds_in text tokens))) ≡ one_if (is_none o && true)
    by_tree None = refl
    by_tree (Some tree) = refl

    by_bad : (o : Option ℕ) → by_outcome is_syntax_error (outcome_of o (kinds_in text tokens)) ≡ one_if (is_none (if is_some o then None else item_of (kinds_in text tokens)) && not (is_some o))
    by_bad None = by_tree (item_of (kinds_in text tokens))
    by_bad (Some n) = refl
