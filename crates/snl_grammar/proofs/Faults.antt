-- The token that the reader of items blames is at fault.
use Rattle.std.proofs.Common.{◌≡◌, ℕ, zero, suc, ◌+◌, ◌-◌, ◌<◌, ◌≤◌, min, List, [], ◌∷◌, ◌++◌, length, take, drop, None, Ok, Err, refl, sym, ap, subst, ◌∙◌, append_assoc, inl, inr, arith}
use Rattle.std.proofs.lemmas.List.{append-nil, append_cancel_right, length-append, take-take, take-append-drop, take_all}
use Rattle.std.proofs.lemmas.Bool.{cases_lt}
use Rattle.snl_lex.specs.declared.kind.Kind.{Kind}
use Rattle.snl_grammar.specs.declared.tree.item.Item.{Item}
use Rattle.snl_grammar.specs.Tokens.{NumberedKind, numbered, ahead}
use Rattle.snl_grammar.specs.Steps.{Outcome}
use Rattle.snl_grammar.specs.Grammar.Base.{AreFree}
use Rattle.snl_grammar.specs.Grammar.Items.{IsItemWithin, IsItem}
use Rattle.snl_grammar.specs.Reading.Items.{item, ended, whole_item, levels, tree_of, item_of, blamed_in, fault_of}
use Rattle.snl_grammar.specs.Viability.{IsViable, BeginNoItem, IsFaultAt}
use Rattle.snl_grammar.specs.TokenLaws.{length-numbered}
use Rattle.snl_grammar.proofs.Local.{bind_err}
use Rattle.snl_grammar.proofs.Viable.{numbered_kinds}
use Rattle.snl_grammar.proofs.Again.{ReadsBack, read, late}
use Rattle.snl_grammar.proofs.ItemLocal.{whole_item_local}
use Rattle.snl_grammar.proofs.ItemViable.{item_completable}
use Rattle.snl_grammar.proofs.ItemAgain.{whole_item_reads_back}
use Rattle.snl_grammar.proofs.ItemEnds.{ended_blames}
use Rattle.snl_grammar.proofs.OneItem.{whole_takes, reads_all, item_read}

-- ---- numbers of tokens

none_before : (n : ℕ) → 0 + n ≡ n
none_before n = omega arith

numbered-append : (n : ℕ) (a b : List Kind) → numbered n (a ++ b) ≡ numbered n a ++ numbered (n + length a) b
numbered-append n [] b = let e : n ≡ n + 0 = omega arith in ap (λ i. numbered i b) e
numbered-append n (x ∷ a) b =
    let e : suc n + length a ≡ n + length (x ∷ a) = omega arith in
    ap (λ (l : List NumberedKind). (x, n) ∷ l) (numbered-append (suc n) a b ∙ ap (λ i. numbered (suc n) a ++ numbered i b) e)

numbered_kinds-numbered : (n : ℕ) (a : List Kind) → numbered_kinds n a ≡ numbered n a
numbered_kinds-numbered n [] = refl
numbered_kinds-numbered n (x ∷ a) = ap (λ (l : List NumberedKind). (x, n) ∷ l) (numbered_kinds-numbered (suc n) a)

-- the first tokens, and those after them
numbered_front : (n : ℕ) (kinds : List Kind) (front j : List NumberedKind) → numbered n kinds ≡ front ++ j → front ≡ numbered n (take (length front) kinds)
numbered_front n kinds [] j e = refl
numbered_front n [] (s ∷ front) j e = absurd cc
numbered_front n (x ∷ kinds) (s ∷ front) j e =
    let first : s ≡ (x, n) = cc in
    let rest : numbered (suc n) kinds ≡ front ++ j = cc in
    ap (λ (y : NumberedKind). y ∷ front) first ∙ ap (λ (l : List NumberedKind). (x, n) ∷ l) (numbered_front (suc n) kinds front j rest)

numbered_at : (n : ℕ) (kinds : List Kind) (front : List NumberedKind) (s : NumberedKind) (j : List NumberedKind) → numbered n kinds ≡ front ++ s ∷ j → s.1 ≡ n + length front
numbered_at n [] [] s j e = absurd cc
numbered_at n (x ∷ kinds) [] s j e = let first : s ≡ (x, n) = cc in let i : n ≡ n + 0 = omega arith in ap (λ (y : NumberedKind). y.1) first ∙ i
numbered_at n [] (r ∷ front) s j e = absurd cc
numbered_at n (x ∷ kinds) (r ∷ front) s j e =
    let rest : numbered (suc n) kinds ≡ front ++ s ∷ j = cc in
    let i : suc n + length front ≡ n + length (r ∷ front) = omega arith in
    numbered_at (suc n) kinds front s j rest ∙ i

module _ (kinds : List Kind) where
  abbrev k : List NumberedKind
  k = ahead kinds 0

  -- tokens to come after the first ones
  front_then : (front j : List NumberedKind) (more : List Kind) → k ≡ front ++ j → ahead (take (length front) kinds ++ more) 0 ≡ front ++ numbered (length front) more
  unfolding ahead
  front_then front j more e =
      let f : front ≡ numbered 0 (take (length front) kinds) = numbered_front 0 kinds front j e in
      let n : 0 + length (take (length front) kinds) ≡ length front = none_before (length (take (length front) kinds)) ∙ sym (ap length f ∙ length-numbered 0 (take (length front) kinds)) in
      numbered-append 0 (take (length front) kinds) more
      ∙ ap (λ (l : List NumberedKind). l ++ numbered (0 + length (take (length front) kinds)) more) (sym f)
      ∙ ap (λ i. front ++ numbered i more) n

  front_at : (front : List NumberedKind) (s : NumberedKind) (j : List NumberedKind) → k ≡ front ++ s ∷ j → s.1 ≡ length front
  unfolding ahead
  front_at front s j e = numbered_at 0 kinds front s j e ∙ none_before (length front)

  front_count : (front j : List NumberedKind) → k ≡ front ++ j → length kinds ≡ length front + length j
  unfolding ahead
  front_count front j e = sym (length-numbered 0 kinds) ∙ ap length e ∙ length-append front j

-- ---- which tokens are free

numbered_kinds_free : (n i : ℕ) (more : List Kind) → n ≤ i → AreFree (suc n) (numbered_kinds i more ++ [])
numbered_kinds_free n i [] le = tt
numbered_kinds_free n i (x ∷ more) le = (le, numbered_kinds_free n (suc i) more (omega arith))

free_first : (free : ℕ) (s : NumberedKind) (j : List NumberedKind) → AreFree free (s ∷ j) → free ≤ suc s.1
free_first zero s j h = absurd h
free_first (suc n) s j h = let le : n ≤ s.1 = h.0 in omega arith

-- ---- with the tokens before the blamed one an item can begin

module _ (kinds : List Kind) (front j : List NumberedKind) (split : ahead kinds 0 ≡ front ++ j) where
  abbrev n : ℕ
  n = length front

  completed : (more : List Kind) (t : Item) (front2 : List NumberedKind) → ahead kinds 0 ≡ front2 ++ j → IsItemWithin (suc n) 1 99 t (front2 ++ (numbered_kinds n more ++ [])) [] → IsViable kinds n
  completed more t front2 e is =
      let same : front2 ≡ front = append_cancel_right front2 front j (sym e ∙ split) in
      let place : front2 ++ (numbered_kinds n more ++ []) ≡ ahead (take n kinds ++ more) 0 = ap (λ (l : List NumberedKind). l ++ (numbered_kinds n more ++ [])) same ∙ ap (λ (l : List NumberedKind). front ++ l) (append-nil (numbered_kinds n more) ∙ numbered_kinds-numbered n more) ∙ sym (front_then kinds front j more split) in
      record { to_come = more; tree = t; free = suc n; extra = 1; held = omega arith; item = subst (λ l. IsItemWithin (suc n) 1 99 t l []) place is }

  item_stuck : item levels (ahead kinds 0) ≡ Err j → IsViable kinds n
  item_stuck e =
      let u = (item_completable (suc n) 1 99).viable.stuck (ahead kinds 0) j e in
      let is = u.3 n [] (omega arith, numbered_kinds_free n n u.1 (omega arith)) in
      completed u.1 is.0 u.0 u.2 is.1

  end_stuck : (x : Item) (m : List NumberedKind) → item levels (ahead kinds 0) ≡ Ok (x, m) → ended x m ≡ Err j → IsViable kinds n
  end_stuck x m e1 e2 =
      let u = (item_completable (suc n) 1 99).viable.takes (ahead kinds 0) x m e1 in
      completed [] x u.0 (u.1 ∙ ap (λ (l : List NumberedKind). u.0 ++ l) (ended_blames x m j e2)) (u.2 [])

  pub viable_before : whole_item levels (ahead kinds 0) ≡ Err j → IsViable kinds n
  unfolding whole_item
  viable_before e = bind_err (item levels (ahead kinds 0)) ended j e item_stuck end_stuck

-- ---- with the blamed token too no item begins

module _ (kinds : List Kind) (front : List NumberedKind) (s : NumberedKind) (j : List NumberedKind) (split : ahead kinds 0 ≡ front ++ s ∷ j) (e : whole_item levels (ahead kinds 0) ≡ Err (s ∷ j)) where
  abbrev upto : List NumberedKind
  upto = front ++ s ∷ []

  upto_count : length upto ≡ suc (length front)
  upto_count = length-append front (s ∷ []) ∙ (let i : length front + 1 ≡ suc (length front) = omega arith in i)

  begun : (more : List Kind) → ahead (take (suc (length front)) kinds ++ more) 0 ≡ front ++ s ∷ numbered (suc (length front)) more
  begun more =
      let all : ahead kinds 0 ≡ upto ++ j = split ∙ sym (append_assoc front (s ∷ []) j) in
      subst (λ i. ahead (take i kinds ++ more) 0 ≡ upto ++ numbered i more) upto_count (front_then kinds upto j more all) ∙ append_assoc front (s ∷ []) (numbered (suc (length front)) more)

  -- whatever is to come, the same token is blamed
  blamed_again : (more : List Kind) → whole_item levels (ahead (take (suc (length front)) kinds ++ more) 0) ≡ Err (s ∷ numbered (suc (length front)) more)
  blamed_again more = ap (whole_item levels) (begun more) ∙ (whole_item_local levels).fails front s j (numbered (suc (length front)) more) (sym (ap (whole_item levels) split) ∙ e)

  never_read : (free : ℕ) (o : Outcome Item) (t : Item) (i : List NumberedKind) → suc (length front) < free → o ≡ Err (s ∷ i) → ReadsBack free o t [] → ⊥
  never_read free o t i lt b (read r) = absurd cc
  never_read free o t i lt b (late l r h) =
      let same : l ≡ s ∷ i = cc in
      let le = free_first free s i (subst (AreFree free) same h) in
      let at = front_at kinds front s j split in
      omega arith

  pub begins_none : BeginNoItem kinds (length front)
  begins_none v = never_read v.free (whole_item levels (ahead (take (suc (length front)) kinds ++ v.to_come) 0)) v.tree (numbered (suc (length front)) v.to_come) v.held (blamed_again v.to_come) (whole_item_reads_back v.free v.extra 99 v.tree (ahead (take (suc (length front)) kinds ++ v.to_come) 0) v.item)

-- ---- the laws

pub viable_prefix : (kinds : List Kind) (n m : ℕ) → m ≤ n → IsViable kinds n → IsViable kinds m
viable_prefix kinds n m le v =
    let rest : List Kind = drop m (take n kinds) in
    let all : take n kinds ++ v.to_come ≡ take m kinds ++ (rest ++ v.to_come) = ap (λ (l : List Kind). l ++ v.to_come) (sym (take-append-drop m (take n kinds)) ∙ ap (λ (l : List Kind). l ++ rest) (take-take m n kinds le)) ∙ append_assoc (take m kinds) rest v.to_come in
    let lt = v.held in
    record { to_come = rest ++ v.to_come; tree = v.tree; free = v.free; extra = v.extra; held = omega arith; item = subst (λ (l : List Kind). IsItemWithin v.free v.extra 99 v.tree (ahead l 0) []) all v.item }

-- with all tokens of an item an item can begin
pub viable_item : (kinds : List Kind) (t : Item) → IsItem t kinds → IsViable kinds (length kinds)
viable_item kinds t is =
    let all : kinds ≡ take (length kinds) kinds ++ [] = sym (append-nil (take (length kinds) kinds) ∙ take_all (length kinds) kinds (omega arith)) in
    let held : IsItemWithin (suc (length kinds)) 0 99 t (ahead kinds 0) [] = whole_takes (suc (length kinds)) 0 99 (ahead kinds 0) t (reads_all kinds t (item_read kinds t is)) in
    record { to_come = []; tree = t; free = suc (length kinds); extra = 0; held = omega arith; item = subst (λ (l : List Kind). IsItemWithin (suc (length kinds)) 0 99 t (ahead l 0) []) all held }

module _ (kinds : List Kind) where
  fault_end : (front : List NumberedKind) → 0 < length kinds → ahead kinds 0 ≡ front ++ [] → whole_item levels (ahead kinds 0) ≡ Err [] → IsFaultAt kinds (min (length kinds - 0) (length kinds - 1))
  fault_end front some split e =
      let count : length kinds ≡ length front + 0 = front_count kinds front [] split in
      let is : min (length kinds - 0) (length kinds - 1) ≡ length kinds - 1 = omega arith in
      let last : suc (length kinds - 1) ≡ length kinds = omega arith in
      let all : IsViable kinds (length kinds) = subst (IsViable kinds) (let i : length front ≡ length kinds = omega arith in i) (viable_before kinds front [] split e) in
      subst (IsFaultAt kinds) (sym is) (record { inside = omega arith; before = λ m le. viable_prefix kinds (length kinds) m (omega arith) all; here = inr (record { last = last; viable = subst (IsViable kinds) (sym last) all }) })

  fault_inside : (front : List NumberedKind) (s : NumberedKind) (j : List NumberedKind) → ahead kinds 0 ≡ front ++ s ∷ j → whole_item levels (ahead kinds 0) ≡ Err (s ∷ j) → IsFaultAt kinds (min (length kinds - length (s ∷ j)) (length kinds - 1))
  fault_inside front s j split e =
      let count : length kinds ≡ length front + length (s ∷ j) = front_count kinds front (s ∷ j) split in
      let is : min (length kinds - length (s ∷ j)) (length kinds - 1) ≡ length front = omega arith in
      subst (IsFaultAt kinds) (sym is) (record { inside = omega arith; before = λ m le. viable_prefix kinds (length front) m le (viable_before kinds front (s ∷ j) split e); here = inl (begins_none kinds front s j split e) })

  fault_split : (front j : List NumberedKind) → 0 < length kinds → ahead kinds 0 ≡ front ++ j → whole_item levels (ahead kinds 0) ≡ Err j → IsFaultAt kinds (min (length kinds - length j) (length kinds - 1))
  fault_split front [] some split e = fault_end front some split e
  fault_split front (s ∷ j) some split e = fault_inside front s j split e

  fault_in : (o : Outcome Item) → 0 < length kinds → whole_item levels (ahead kinds 0) ≡ o → tree_of o ≡ None → IsFaultAt kinds (blamed_in (length kinds) o)
  fault_in (Ok p) some e none = absurd cc
  fault_in (Err j) some e none = let b = (whole_item_local levels).blamed (ahead kinds 0) j e in fault_split b.0 j some b.1 e

  pub fault_at : 0 < length kinds → item_of kinds ≡ None → IsFaultAt kinds (fault_of kinds)
  unfolding item_of fault_of
  fault_at some none = fault_in (whole_item levels (ahead kinds 0)) some refl none

-- one token at most is at fault
not_later : (kinds : List Kind) (n m : ℕ) → IsFaultAt kinds n → IsFaultAt kinds m → n < m → ⊥
not_later kinds n m a b lt = elim a.here [
  | inl none ↦ none (b.before (suc n) (omega arith))
  | inr short ↦ let last = short.last in let inside = b.inside in absurd (omega arith)
]

pub one_fault : (kinds : List Kind) (n m : ℕ) → IsFaultAt kinds n → IsFaultAt kinds m → n ≡ m
one_fault kinds n m a b = elim (cases_lt n m) [
  | inl lt ↦ absurd (not_later kinds n m a b lt)
  | inr ge ↦ elim (cases_lt m n) [
    | inl lt ↦ absurd (not_later kinds m n b a lt)
    | inr le ↦ omega arith
  ]
]
