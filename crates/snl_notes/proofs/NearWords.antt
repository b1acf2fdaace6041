-- The nearest of some words.
use Rattle.std.proofs.Common.{◌≡◌, ℕ, ◌+◌, ◌<◌, ◌≤◌, Bool, true, false, List, [], ◌∷◌, ◌++◌, Option, Some, None, length, if◌then◌else◌, is_some, nat_le, refl, sym, ap, subst, ◌∙◌, append_assoc, inl, inr, arith, true≢false}
use Rattle.std.specs.List.{All, Contains, fold}
use Rattle.std.specs.Option.{unwrap_or}
use Rattle.std.proofs.lemmas.Bool.{cases_lt, lt-ltb, le-ltb}
use Rattle.std.proofs.lemmas.List.{append-nil}
use Rattle.std.proofs.lemmas.List.Elements.{All-contains, All-nil, All-push, All-weaker, Contains-append_left, Contains-push}
use Rattle.snl_lex.specs.declared.kind.Kind.{Kind}
use Rattle.snl_notes.specs.declared.near.Nearest.{Nearest}
use Rattle.snl_notes.specs.Near.{distance, few, longest, near_word, nearer, nearer_by, nearest_of, none_yet, word_of}
use Rattle.snl_notes.specs.NoteLaws.{IsNearWord}

-- no word among the kinds is nearer than so many changes
abbrev IsNoNearer : List ℕ → ℕ → Kind → Type 0
IsNoNearer name bound k = (bytes : List ℕ) → word_of k ≡ Some bytes → bound ≤ distance name bytes

-- the word is one of the kinds, so many changes away, which are few
record IsFound (name : List ℕ) (kinds : List Kind) (bound : ℕ) (word : Kind) : Type 0 where
  among : Contains kinds word
  bytes : List ℕ
  spelled : word_of word ≡ Some bytes
  far : distance name bytes ≡ bound
  near : bound ≤ few name

-- the nearest one among the kinds that were looked at
record IsNearest (name : List ℕ) (kinds : List Kind) (n : Nearest) : Type 0 where
  bound : n.below ≤ few name + 1
  found : (word : Kind) → n.word ≡ Some word → IsFound name kinds n.below word
  least : All (IsNoNearer name n.below) kinds

some_same : {X : Type 0} (x y : X) → Some x ≡ Some y → x ≡ y
some_same x y e = ap (λ o. unwrap_or o x) e

no_some : {X : Type 0} (x : X) → None ≡ Some x → ⊥
no_some x e = true≢false (sym (ap is_some e))

found_more : (name : List ℕ) (kinds : List Kind) (k : Kind) (bound : ℕ) (word : Kind) → IsFound name kinds bound word → IsFound name (kinds ++ k ∷ []) bound word
found_more name kinds k bound word f = record {
  among = Contains-append_left kinds (k ∷ []) word f.among;
  bytes = f.bytes;
  spelled = f.spelled;
  far = f.far;
  near = f.near;
}

-- a kind that isn't nearer changes nothing
kept : (name : List ℕ) (kinds : List Kind) (k : Kind) (n : Nearest) → IsNearest name kinds n → IsNoNearer name n.below k → IsNearest name (kinds ++ k ∷ []) n
kept name kinds k n h far = record {
  bound = h.bound;
  found = λ word e. found_more name kinds k n.below word (h.found word e);
  least = All-push (IsNoNearer name n.below) kinds k h.least far;
}

-- a nearer one takes the place
taken : (name : List ℕ) (kinds : List Kind) (k : Kind) (n : Nearest) (bytes : List ℕ) → IsNearest name kinds n → word_of k ≡ Some bytes → distance name bytes < n.below
    → IsNearest name (kinds ++ k ∷ []) (record { word = Some k; below = distance name bytes })
taken name kinds k n bytes h e less = record {
  bound = omega (arith, h.bound, less);
  found = λ word same. subst (λ w. IsFound name (kinds ++ k ∷ []) (distance name bytes) w) (some_same k word same)
      (record { among = Contains-push kinds k; bytes = bytes; spelled = e; far = refl; near = omega (arith, h.bound, less) });
  least = All-push (IsNoNearer name (distance name bytes)) kinds k
      (All-weaker (IsNoNearer name n.below) (IsNoNearer name (distance name bytes)) (λ x far own is. omega (arith, far own is, less)) kinds h.least)
      (λ own is. let same = ap (distance name) (some_same bytes own (sym e ∙ is)) in omega (arith, same));
}

step : (name : List ℕ) (kinds : List Kind) (k : Kind) (n : Nearest) → IsNearest name kinds n → (w : Option (List ℕ)) → word_of k ≡ w → IsNearest name (kinds ++ k ∷ []) (nearer_by name n k w)
step name kinds k n h None e = kept name kinds k n h (λ own is. absurd (no_some own (sym e ∙ is)))
step name kinds k n h (Some bytes) e = elim (cases_lt (distance name bytes) n.below) [
  | inl less ↦ subst (λ (b : Bool). IsNearest name (kinds ++ k ∷ []) (if b then record { word = Some k; below = distance name bytes } else n))
      (sym (lt-ltb (distance name bytes) n.below less)) (taken name kinds k n bytes h e less)
  | inr more ↦ subst (λ (b : Bool). IsNearest name (kinds ++ k ∷ []) (if b then record { word = Some k; below = distance name bytes } else n))
      (sym (le-ltb (distance name bytes) n.below more))
      (kept name kinds k n h (λ own is. let same = ap (distance name) (some_same bytes own (sym e ∙ is)) in omega (arith, same, more)))
]

all : (name : List ℕ) (kinds : List Kind) (n : Nearest) → IsNearest name kinds n → (ks : List Kind) → IsNearest name (kinds ++ ks) (fold (nearer name) n ks)
all name kinds n h [] = subst (λ l. IsNearest name l n) (sym (append-nil kinds)) h
all name kinds n h (k ∷ ks) =
    subst (λ l. IsNearest name l (fold (nearer name) (nearer name n k) ks)) (append_assoc kinds (k ∷ []) ks)
    (all name (kinds ++ k ∷ []) (nearer name n k) (step name kinds k n h (word_of k) refl) ks)

none_nearest : (name : List ℕ) → IsNearest name [] (none_yet name)
none_nearest name = record {
  bound = let same : few name + 1 ≤ few name + 1 = omega arith in same;
  found = λ word e. absurd (no_some word e);
  least = All-nil (IsNoNearer name (few name + 1));
}

told : (name : List ℕ) (kinds : List Kind) (n : Nearest) (word : Kind) → IsNearest name kinds n → n.word ≡ Some word → IsNearWord name kinds word
told name kinds n word h e =
    let f = h.found word e in
    record {
      among = f.among;
      bytes = f.bytes;
      spelled = f.spelled;
      near = omega (arith, f.far, f.near);
      nearest = λ other spelled there is. omega (arith, f.far, All-contains (IsNoNearer name n.below) kinds other h.least there spelled is);
    }

pub near_told : (name : List ℕ) (kinds : List Kind) (word : Kind) → near_word name kinds ≡ Some word → IsNearWord name kinds word
unfolding near_word
near_told name kinds word e = by (nat_le (length name) longest) e
  where
    by : (b : Bool) → (if b then (nearest_of name kinds).word else None) ≡ Some word → IsNearWord name kinds word
    by true h = told name kinds (nearest_of name kinds) word (all name [] (none_yet name) (none_nearest name) kinds) h
    by false h = absurd (no_some word h)
