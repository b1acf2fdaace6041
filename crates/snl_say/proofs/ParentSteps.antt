-- How a forest is written in one pass over its symbols.
use Rattle.std.specs.Prelude.{codes}
use Rattle.std.proofs.Common.{◌≡◌, ◌∙◌, ℕ, ◌+◌, ◌<◌, ◌≤◌, Bool, true, false, cond, nat_lt, List, [], ◌∷◌, ◌++◌, length, drop, get_or, map, Bor, refl, sym, ap, append-nil, append_assoc, arith}
use Rattle.std.proofs.lemmas.Bool.{le-ltb, lt-ltb}
use Rattle.std.proofs.lemmas.List.{drop_all, drop_more, reverse-append}
use Rattle.json.proofs.Printed.Room.{moved}
use Rattle.serde_json.specs.Written.{comma_if}
use Rattle.snl_say.specs.declared.symbols.ShownSymbol.{ShownSymbol}
use Rattle.snl_say.specs.Parents.{InnermostEnds, NoneEnds, ends_before, innermost_first, one_ends, parents_at}
use Rattle.snl_say.specs.Symbols.{Forest, no_symbols, symbol, SymbolFound, after_deeper, deeper, forest_of, forest_text, symbol_begin, symbol_end, symbol_of, with_first}

-- ---- parents that end

-- some of them have ended: what is left to write, which are left, and whether there was one
pub record HaveEnded (depth : ℕ) (start out : List ℕ) (before now : List SymbolFound)
    (later : Bool) : Type 0 where
  pub text : out ++ ends_before depth now ≡ start ++ ends_before depth before
  pub left : parents_at depth now ≡ parents_at depth before
  pub ended : cond later true (one_ends depth now) ≡ one_ends depth before

is_later : (later : Bool) → cond later true true ≡ true
is_later true = refl
is_later false = refl

same_later : (later : Bool) → cond later true false ≡ later
same_later true = refl
same_later false = refl

-- the innermost ends: the others, and that one ended
ends_first : (depth : ℕ) (s : SymbolFound) (parents : List SymbolFound) → depth ≤ s.depth →
    (ends_before depth (s ∷ parents) ≡ (codes "]" ++ symbol_end s) ++ ends_before depth parents)
    × (parents_at depth (s ∷ parents) ≡ parents_at depth parents)
    × (one_ends depth (s ∷ parents) ≡ true)
ends_first depth s parents deep =
    let test : nat_lt s.depth depth ≡ false = le-ltb s.depth depth deep in (
      ap (λ (b : Bool). cond b [] (codes "]" ++ (symbol_end s ++ ends_before depth parents))) test,
      ap (λ (b : Bool). cond b (s ∷ parents) (parents_at depth parents)) test,
      ap (λ (b : Bool). cond b false true) test,
    )

-- none does
none_ends : (depth : ℕ) (parents : List SymbolFound) → NoneEnds depth parents →
    (ends_before depth parents ≡ []) × (parents_at depth parents ≡ parents)
    × (one_ends depth parents ≡ false)
none_ends depth [] h = (refl, refl, refl)
none_ends depth (s ∷ parents) h =
    let test : nat_lt s.depth depth ≡ true = lt-ltb s.depth depth h in (
      ap (λ (b : Bool). cond b [] (codes "]" ++ (symbol_end s ++ ends_before depth parents))) test,
      ap (λ (b : Bool). cond b (s ∷ parents) (parents_at depth parents)) test,
      ap (λ (b : Bool). cond b false true) test,
    )

pub ended_more : (depth : ℕ) (start out new : List ℕ) (before now after : List SymbolFound)
    (later : Bool) (s : SymbolFound) → HaveEnded depth start out before now later →
    InnermostEnds depth s now after → new ≡ out ++ (codes "]" ++ symbol_end s) →
    HaveEnded depth start new before after true
ended_more depth start out new before now after later s h first wrote =
    let is = ends_first depth s after first.as_deep in
    let text = ap (ends_before depth) first.others ∙ is.0 in
    let left = ap (parents_at depth) first.others ∙ is.1 in
    let ended = ap (one_ends depth) first.others ∙ is.2 in
    record {
      text = moved out new _ _ _ _ wrote text h.text;
      left = sym left ∙ h.left;
      ended = sym (ap (λ (b : Bool). cond later true b) ended ∙ is_later later) ∙ h.ended;
    }

pub ended_text : (depth : ℕ) (start out : List ℕ) (before now : List SymbolFound) (later : Bool) →
    HaveEnded depth start out before now later → NoneEnds depth now →
    out ≡ start ++ ends_before depth before
ended_text depth start out before now later h none =
    sym (append-nil out)
    ∙ ap (λ (l : List ℕ). out ++ l) (sym (none_ends depth now none).0)
    ∙ h.text

pub ended_left : (depth : ℕ) (start out : List ℕ) (before now : List SymbolFound) (later : Bool) →
    HaveEnded depth start out before now later → NoneEnds depth now →
    now ≡ parents_at depth before
ended_left depth start out before now later h none =
    sym (none_ends depth now none).1 ∙ h.left

pub ended_later : (depth : ℕ) (start out : List ℕ) (before now : List SymbolFound)
    (later : Bool) → HaveEnded depth start out before now later → NoneEnds depth now →
    later ≡ one_ends depth before
ended_later depth start out before now later h none =
    sym (ap (λ (b : Bool). cond later true b) (none_ends depth now none).2 ∙ same_later later)
    ∙ h.ended

-- ---- the list of parents

one_inside : (parents : List (Bor ShownSymbol)) (s : Bor ShownSymbol) →
    innermost_first (parents ++ s ∷ []) ≡ symbol_of s.now ∷ innermost_first parents
one_inside parents s =
    ap (map (λ (x : Bor ShownSymbol). symbol_of x.now)) (reverse-append parents (s ∷ []))

-- ---- what is left to write

-- of a forest with its closing bracket, and of the parents that it is in
abbrev pub left_text : (later : Bool) (parents : List SymbolFound) → Forest → List ℕ
left_text later [] o = forest_text later o
left_text later (s ∷ parents) o =
    forest_text later (deeper s.depth o)
    ++ (symbol_end s ++ left_text true parents (after_deeper s.depth o))

-- from a symbol on, after the ends before it
abbrev next_text : (later : Bool) (now : List SymbolFound) (s : SymbolFound) → Forest → List ℕ
next_text later now s o = comma_if later ++ (symbol_begin ++ left_text false (s ∷ now) o)

regrouped : (comma within end after rest : List ℕ) →
    (comma ++ (symbol_begin ++ (within ++ (end ++ after)))) ++ rest
    ≡ comma ++ (symbol_begin ++ (within ++ (end ++ (after ++ rest))))
regrouped comma within end after rest =
    append_assoc comma (symbol_begin ++ (within ++ (end ++ after))) rest
    ∙ ap (λ (l : List ℕ). comma ++ (symbol_begin ++ l))
    (append_assoc within (end ++ after) rest
    ∙ ap (λ (l : List ℕ). within ++ l) (append_assoc end after rest))

-- by whether the symbol is in the innermost parent, given how it goes on with the others
by_test : (b later : Bool) (p s : SymbolFound) (parents : List SymbolFound) (o : Forest) →
    left_text true parents (with_first s o)
    ≡ ends_before s.depth parents ++ next_text true (parents_at s.depth parents) s o →
    forest_text later (cond b
    (symbol s (deeper s.depth o) (deeper p.depth (after_deeper s.depth o))) no_symbols)
    ++ (symbol_end p ++ left_text true parents
    (cond b (after_deeper p.depth (after_deeper s.depth o)) (with_first s o)))
    ≡ cond b [] (codes "]" ++ (symbol_end p ++ ends_before s.depth parents))
    ++ next_text (cond b later true) (cond b (p ∷ parents) (parents_at s.depth parents)) s o
unfolding forest_text
by_test true later p s parents o others =
    regrouped (comma_if later) (forest_text false (deeper s.depth o)) (symbol_end s)
    (forest_text true (deeper p.depth (after_deeper s.depth o)))
    (symbol_end p ++ left_text true parents (after_deeper p.depth (after_deeper s.depth o)))
by_test false later p s parents o others =
    ap (λ (l : List ℕ). codes "]" ++ (symbol_end p ++ l)) others
    ∙ ap (λ (l : List ℕ). codes "]" ++ l)
    (sym (append_assoc (symbol_end p) (ends_before s.depth parents)
    (next_text true (parents_at s.depth parents) s o)))

both_true : (b : Bool) → cond b true true ≡ true
both_true true = refl
both_true false = refl

-- where another symbol has just ended
after_one : (parents : List SymbolFound) (s : SymbolFound) (o : Forest) →
    left_text true parents (with_first s o)
    ≡ ends_before s.depth parents ++ next_text true (parents_at s.depth parents) s o
unfolding forest_text
after_one [] s o = refl
after_one (p ∷ parents) s o =
    by_test (nat_lt p.depth s.depth) true p s parents o (after_one parents s o)
    ∙ ap (λ (later : Bool). ends_before s.depth (p ∷ parents)
    ++ next_text later (parents_at s.depth (p ∷ parents)) s o)
    (both_true (nat_lt p.depth s.depth))

-- where the innermost parent has no child yet
after_none : (parents : List SymbolFound) (s : SymbolFound) (o : Forest) →
    left_text false parents (with_first s o)
    ≡ ends_before s.depth parents
    ++ next_text (one_ends s.depth parents) (parents_at s.depth parents) s o
unfolding forest_text
after_none [] s o = refl
after_none (p ∷ parents) s o =
    by_test (nat_lt p.depth s.depth) false p s parents o (after_one parents s o)

-- where no symbol comes
after_all : (later : Bool) (parents : List SymbolFound) →
    left_text later parents no_symbols ≡ ends_before 0 parents ++ codes "]"
unfolding forest_text
after_all later [] = refl
after_all later (p ∷ parents) =
    let test : nat_lt p.depth 0 ≡ false = le-ltb p.depth 0 (omega arith) in
    ap (λ (l : List ℕ). codes "]" ++ (symbol_end p ++ l)) (after_all true parents)
    ∙ ap (λ (l : List ℕ). codes "]" ++ l)
    (sym (append_assoc (symbol_end p) (ends_before 0 parents) (codes "]")))
    ∙ ap (λ (b : Bool). cond b [] (codes "]" ++ (symbol_end p ++ ends_before 0 parents))
    ++ codes "]")
    (sym test)

-- ---- the loop

-- one symbol more is begun
begun_more : (out mid new whole : List ℕ) (before now : List SymbolFound) (later : Bool)
    (s : SymbolFound) (ss : List SymbolFound) →
    out ++ left_text false before (forest_of (s ∷ ss)) ≡ whole →
    mid ≡ out ++ ends_before s.depth before → now ≡ parents_at s.depth before →
    later ≡ one_ends s.depth before → new ≡ mid ++ (comma_if later ++ symbol_begin) →
    new ++ left_text false (s ∷ now) (forest_of ss) ≡ whole
begun_more out mid new whole before now later s ss e wrote_ends left is_later wrote_begin =
    let o = forest_of ss in
    let next : mid ++ next_text later now s o ≡ whole =
    ap (λ (b : Bool). mid ++ next_text b now s o) is_later
    ∙ ap (λ (l : List SymbolFound). mid ++ next_text (one_ends s.depth before) l s o) left
    ∙ moved out mid _ _ _ whole wrote_ends (after_none before s o) e in
    moved mid new _ _ _ whole wrote_begin
    (sym (append_assoc (comma_if later) symbol_begin (left_text false (s ∷ now) o))) next

-- the next one of the list is
pub begun_next : (all : List ShownSymbol) (i : ℕ) (d : ShownSymbol) (s : Bor ShownSymbol)
    (out mid new begin whole : List ℕ) (before now pushed : List (Bor ShownSymbol))
    (later : Bool) → pushed ≡ now ++ s ∷ [] → i < length all → s.now ≡ get_or all i d →
    out ++ left_text false (innermost_first before) (forest_of (map symbol_of (drop i all)))
    ≡ whole →
    mid ≡ out ++ ends_before s.now.depth (innermost_first before) →
    innermost_first now ≡ parents_at s.now.depth (innermost_first before) →
    later ≡ one_ends s.now.depth (innermost_first before) → new ≡ mid ++ begin →
    begin ≡ comma_if later ++ symbol_begin →
    new ++ left_text false (innermost_first pushed) (forest_of (map symbol_of (drop (i + 1) all)))
    ≡ whole
begun_next all i d s out mid new begin whole before now pushed later is_pushed within here e
    wrote_ends left is_later wrote begin_is =
    let rest = map symbol_of (drop (i + 1) all) in
    let found : drop i all ≡ s.now ∷ drop (i + 1) all =
    drop_more all i d within ∙ ap (λ (x : ShownSymbol). x ∷ drop (i + 1) all) (sym here) in
    let inside : innermost_first pushed ≡ symbol_of s.now ∷ innermost_first now =
    ap innermost_first is_pushed ∙ one_inside now s in
    ap (λ (l : List SymbolFound). new ++ left_text false l (forest_of rest)) inside
    ∙ begun_more out mid new whole (innermost_first before) (innermost_first now) later
    (symbol_of s.now) rest
    (ap (λ (l : List ShownSymbol). out
    ++ left_text false (innermost_first before) (forest_of (map symbol_of l))) (sym found) ∙ e)
    wrote_ends left is_later (wrote ∙ ap (λ (l : List ℕ). mid ++ l) begin_is)

-- all are, the last ones are ended, and so is their list
pub begun_all : (all : List ShownSymbol) (i : ℕ) (out mid new whole : List ℕ)
    (before : List SymbolFound) → length all ≤ i →
    out ++ left_text false before (forest_of (map symbol_of (drop i all))) ≡ whole →
    mid ≡ out ++ ends_before 0 before → new ≡ mid ++ codes "]" → new ≡ whole
begun_all all i out mid new whole before none e wrote_ends wrote_bracket =
    wrote_bracket
    ∙ moved out mid _ _ _ whole wrote_ends (after_all false before)
    (ap (λ (l : List ShownSymbol). out ++ left_text false before (forest_of (map symbol_of l)))
    (sym (drop_all i all none)) ∙ e)
