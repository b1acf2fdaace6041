-- How many brackets are open around the tokens of an item.
use Rattle.std.proofs.Common.{◌≡◌, ℕ, zero, suc, ◌+◌, ◌-◌, ◌<◌, ◌≤◌, Bool, true, false, cond, List, [], ◌∷◌, length, map, take, refl, ap, sym, subst, arith}
use Rattle.std.proofs.lemmas.Bool.{false≢true}
use Rattle.std.proofs.lemmas.List.Sums.{sum_by-cons}
use Rattle.std.specs.List.{count_by}
use Rattle.snl_lex.specs.declared.kind.Kind.{Kind}
use Rattle.snl_lex.specs.declared.kind.Kind.TheVariants as kind
use Rattle.snl_grammar.specs.declared.tree.item.Item.{Item}
use Rattle.snl_grammar.specs.Tokens.{NumberedKind, ahead, numbered}
use Rattle.snl_grammar.specs.Grammar.Base.{First, Leaf}
use Rattle.snl_grammar.specs.Grammar.Items.{IsItem}
use Rattle.snl_item_laws.specs.Brackets.{IsWithin, closes, opens}
use Rattle.snl_item_laws.proofs.Lies.{Lies, braces, each_lie, group, is_calm, is_loose, leaf_lies, loose, nothing, parens, squares, token}
use Rattle.snl_item_laws.proofs.LiesItems.{IsShaped, block, ended, function_body, header_alone, header_with, is_body_word, item_shape, named_block, set_begun, single}
use Rattle.snl_item_laws.proofs.LiesStatements.{IsBraced}

abbrev number : Bool → ℕ
number b = cond b 1 0

-- Where so many are open before them, at most 100 are open around each of the tokens.
abbrev Held : ℕ → List Kind → Type 0
Held b [] = Unit {0}
Held b (x ∷ xs) = (b - number (closes x) ≤ 100) × Held (b + number (opens x) - number (closes x)) xs

abbrev kinds_of : List NumberedKind → List Kind
kinds_of k = map (λ s. s.0) k

bounded : (b : ℕ) (kinds : List Kind) → Held b kinds → (n : ℕ) → n < length kinds → b + count_by opens (take n kinds) ≤ count_by closes (take (suc n) kinds) + 100
bounded b [] h n below = absurd (omega (arith, below))
bounded b (x ∷ xs) h zero below =
    let c : count_by closes (x ∷ []) ≡ number (closes x) + count_by closes [] = sum_by-cons (λ y. number (closes y)) x [] in
    let none : count_by closes [] ≡ 0 = refl in
    omega (arith, h.0, c, none)
bounded b (x ∷ xs) h (suc n) below =
    let o : count_by opens (x ∷ take n xs) ≡ number (opens x) + count_by opens (take n xs) = sum_by-cons (λ y. number (opens y)) x (take n xs) in
    let c : count_by closes (x ∷ take (suc n) xs) ≡ number (closes x) + count_by closes (take (suc n) xs) = sum_by-cons (λ y. number (closes y)) x (take (suc n) xs) in
    let rest : b + number (opens x) - number (closes x) + count_by opens (take n xs) ≤ count_by closes (take (suc n) xs) + 100 = bounded (b + number (opens x) - number (closes x)) xs h.1 n (omega (arith, below)) in
    omega (arith, o, c, rest)

-- ---- one token

module _ (b : ℕ) (x : Kind) (k m : List NumberedKind) (first : First x k m) where
  step : b - number (closes x) ≤ 100 → Held (b + number (opens x) - number (closes x)) (kinds_of m) → Held b (kinds_of k)
  step le h = subst (λ z. Held b (kinds_of z)) (sym first.1) (le, h)

  -- no bracket
  passes : opens x ≡ false → closes x ≡ false → b ≤ 100 → Held b (kinds_of m) → Held b (kinds_of k)
  passes o c le h =
      let no : number (opens x) ≡ 0 = ap number o in
      let nc : number (closes x) ≡ 0 = ap number c in
      let same : b ≡ b + number (opens x) - number (closes x) = omega (arith, no, nc) in
      step (omega (arith, nc, le)) (subst (λ z. Held z (kinds_of m)) same h)

  raises : opens x ≡ true → closes x ≡ false → b ≤ 100 → Held (suc b) (kinds_of m) → Held b (kinds_of k)
  raises o c le h =
      let no : number (opens x) ≡ 1 = ap number o in
      let nc : number (closes x) ≡ 0 = ap number c in
      let same : suc b ≡ b + number (opens x) - number (closes x) = omega (arith, no, nc) in
      step (omega (arith, nc, le)) (subst (λ z. Held z (kinds_of m)) same h)

lowers : (b : ℕ) (x : Kind) (k m : List NumberedKind) → First x k m → opens x ≡ false → closes x ≡ true → b ≤ 100 → Held b (kinds_of m) → Held (suc b) (kinds_of k)
lowers b x k m first o c le h =
    let no : number (opens x) ≡ 0 = ap number o in
    let nc : number (closes x) ≡ 1 = ap number c in
    let same : b ≡ suc b + number (opens x) - number (closes x) = omega (arith, no, nc) in
    step (suc b) x k m first (omega (arith, nc, le)) (subst (λ z. Held z (kinds_of m)) same h)

calm_opens : (x : Kind) → is_calm x ≡ true → opens x ≡ false
calm_opens kind.OpenParen c = absurd (false≢true c)
calm_opens kind.OpenBracket c = absurd (false≢true c)
calm_opens kind.OpenBrace c = absurd (false≢true c)
calm_opens _ c = refl

calm_closes : (x : Kind) → is_calm x ≡ true → closes x ≡ false
calm_closes kind.CloseParen c = absurd (false≢true c)
calm_closes kind.CloseBracket c = absurd (false≢true c)
calm_closes kind.CloseBrace c = absurd (false≢true c)
calm_closes _ c = refl

loose_opens : (x : Kind) → is_loose x ≡ true → opens x ≡ false
loose_opens kind.OpenParen c = absurd (false≢true c)
loose_opens kind.OpenBracket c = absurd (false≢true c)
loose_opens kind.OpenBrace c = absurd (false≢true c)
loose_opens _ c = refl

loose_closes : (x : Kind) → is_loose x ≡ true → closes x ≡ false
loose_closes kind.CloseParen c = absurd (false≢true c)
loose_closes kind.CloseBracket c = absurd (false≢true c)
loose_closes kind.CloseBrace c = absurd (false≢true c)
loose_closes _ c = refl

-- ---- runs of tokens

held_before : {inside : Bool} {d : ℕ} {k rest : List NumberedKind} → Lies inside d k rest → (b : ℕ) → b + d ≤ 101 → Held b (kinds_of rest) → Held b (kinds_of k)
held_before (nothing e) b room h = subst (λ z. Held b (kinds_of z)) (sym e) h
held_before (token {inside} {d} {k} {m} {rest} x c f l) b room h = passes b x k m f (calm_opens x c) (calm_closes x c) (omega (arith, room)) (held_before l b room h)
held_before (loose {d} {k} {m} {rest} x c f l) b room h = passes b x k m f (loose_opens x c) (loose_closes x c) (omega (arith, room)) (held_before l b room h)
held_before (parens {inside} {d} {k} {m1} {m2} {m3} {rest} o i c l) b room h =
    let le : b ≤ 100 = omega (arith, room) in
    raises b kind.OpenParen k m1 o refl refl le (held_before i (suc b) (omega (arith, room)) (lowers b kind.CloseParen m2 m3 c refl refl le (held_before l b room h)))
held_before (squares {inside} {d} {k} {m1} {m2} {m3} {rest} o i c l) b room h =
    let le : b ≤ 100 = omega (arith, room) in
    raises b kind.OpenBracket k m1 o refl refl le (held_before i (suc b) (omega (arith, room)) (lowers b kind.CloseBracket m2 m3 c refl refl le (held_before l b room h)))
held_before (group {inside} {d} {k} {m0} {m1} {m2} {m3} {rest} x q f o i c l) b room h =
    let le : b ≤ 100 = omega (arith, room) in
    passes b x k m0 f (calm_opens x q) (calm_closes x q) le
    (raises b kind.OpenBrace m0 m1 o refl refl le (held_before i (suc b) (omega (arith, room)) (lowers b kind.CloseBrace m2 m3 c refl refl le (held_before l b room h))))
held_before (braces {d} {k} {m1} {m2} {m3} {rest} o i c l) b room h =
    let le : b ≤ 100 = omega (arith, room) in
    raises b kind.OpenBrace k m1 o refl refl le (held_before i (suc b) (omega (arith, room)) (lowers b kind.CloseBrace m2 m3 c refl refl le (held_before l b room h)))

-- ---- items

body_opens : (x : Kind) → is_body_word x ≡ true → opens x ≡ false
body_opens kind.OpenParen c = absurd (false≢true c)
body_opens kind.OpenBracket c = absurd (false≢true c)
body_opens kind.OpenBrace c = absurd (false≢true c)
body_opens _ c = refl

body_closes : (x : Kind) → is_body_word x ≡ true → closes x ≡ false
body_closes kind.CloseParen c = absurd (false≢true c)
body_closes kind.CloseBracket c = absurd (false≢true c)
body_closes kind.CloseBrace c = absurd (false≢true c)
body_closes _ c = refl

module _ (d : ℕ) (fits : d + 2 ≤ 101) where
  low : 0 ≤ 100
  low = omega arith

  held_braced : (k : List NumberedKind) → IsBraced (suc d) k [] → Held 0 (kinds_of k)
  held_braced k h =
      raises 0 kind.OpenBrace k h.m1 h.opening refl refl low (held_before h.members 1 (omega (arith, fits)) (lowers 0 kind.CloseBrace h.m2 [] h.closing refl refl low tt))

  held_shape : {bare : Type 0} (k : List NumberedKind) → IsShaped bare d k [] → Held 0 (kinds_of k)
  held_shape k (single x alone f) = step 0 x k [] f (omega arith) tt
  held_shape k (header_alone m is p n) = passes 0 kind.Program k m p refl refl low (passes 0 kind.Name m [] n refl refl low tt)
  held_shape k (header_with n ns m1 m2 m3 m4 m5 p name o t ts c) =
      passes 0 kind.Program k m1 p refl refl low
      (passes 0 kind.Name m1 m2 name refl refl low
      (raises 0 kind.OpenParen m2 m3 o refl refl low
      (passes 1 kind.Text m3 m4 (n, t) refl refl (omega arith)
      (held_before (each_lie false (Leaf kind.Text) 1 (λ m j end l. leaf_lies false 0 kind.Text m j end refl l) ns m4 m5 ts) 1 (omega arith)
      (lowers 0 kind.CloseParen m5 [] c refl refl low tt)))))
  held_shape k (set_begun m1 m2 s n o) = passes 0 kind.Ss k m1 s refl refl low (passes 0 kind.Name m1 m2 n refl refl low (raises 0 kind.OpenBrace m2 [] o refl refl low tt))
  held_shape k (ended h) = held_before h.front 0 (omega (arith, fits)) (passes 0 kind.Semicolon h.mid [] h.semicolon refl refl low tt)
  held_shape k (block word m is f b) = passes 0 word k m f (body_opens word is) (body_closes word is) low (held_braced m b)
  held_shape k (named_block word m1 m2 is f n b) = passes 0 word k m1 f (body_opens word is) (body_closes word is) low (passes 0 kind.Name m1 m2 n refl refl low (held_braced m2 b))
  held_shape k (function_body m1 m2 m3 m4 front o inner c b) =
      held_before front 0 (omega (arith, fits))
      (raises 0 kind.OpenParen m1 m2 o refl refl low (held_before inner 1 (omega (arith, fits)) (lowers 0 kind.CloseParen m3 m4 c refl refl low (held_braced m4 b))))

pub kinds_numbered : (n : ℕ) (kinds : List Kind) → kinds_of (numbered n kinds) ≡ kinds
kinds_numbered n [] = refl
kinds_numbered n (x ∷ xs) = ap (λ l. x ∷ l) (kinds_numbered (suc n) xs)

pub few_open : (kinds : List Kind) (t : Item) → IsItem t kinds → (n : ℕ) → n < length kinds → IsWithin 100 kinds n
unfolding ahead
few_open kinds t is n below =
    let h : Held 0 kinds = subst (Held 0) (kinds_numbered 0 kinds) (held_shape 99 (omega arith) (ahead kinds 0) (item_shape 98 t (ahead kinds 0) [] is)) in
    let bound : 0 + count_by opens (take n kinds) ≤ count_by closes (take (suc n) kinds) + 100 = bounded 0 kinds h n below in
    omega (arith, bound)
