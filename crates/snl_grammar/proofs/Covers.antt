-- The tokens from one place to another are those that a tree spells.
use Rattle.std.proofs.Common.{◌≡◌, ℕ, zero, suc, true, false, List, [], ◌∷◌, ◌++◌, map, Some, None, refl, sym, ap, subst, ◌∙◌, append_assoc}
use Rattle.std.proofs.lemmas.List.{append-nil}
use Rattle.snl_lex.specs.declared.kind.Kind.{Kind}
use Rattle.snl_grammar.specs.Tokens.{NumberedKind}
use Rattle.snl_grammar.specs.Grammar.Base.{Each, First, Leaf, Perhaps, Within}
use Rattle.snl_grammar.specs.Grammar.Types.{Written}
use Rattle.snl_grammar.specs.Grammar.Expressions.{IsAfterComma, AreCommas}
use Rattle.snl_grammar.specs.Spelling.Base.{Spelled, word, leaf, written, perhaps, joined, after, commas, Matches}
use Rattle.snl_lex.specs.declared.kind.Kind.TheVariants as kind

pub record Covers (spelled : List Spelled) (k rest : List NumberedKind) : Type 0 where
  pub front : List NumberedKind
  pub divided : k ≡ front ++ rest
  pub matches : Matches spelled front

-- what is written as the grammar's part says spells its tokens
abbrev pub Spells : {A : Type 0} → (A → List NumberedKind → List NumberedKind → Type 0) → (A → List Spelled) → Type 0
Spells {A} R spell = (x : A) (k rest : List NumberedKind) → R x k rest → Covers (spell x) k rest

pub covers_all : (spelled : List Spelled) (k : List NumberedKind) → Covers spelled k [] → Matches spelled k
covers_all spelled k c = subst (Matches spelled) (sym (c.divided ∙ append-nil c.front)) c.matches

-- ---- tokens

pub nothing_covers : {k rest : List NumberedKind} → k ≡ rest → Covers [] k rest
nothing_covers e = record { front = []; divided = e; matches = tt }

pub word_covers : {x : Kind} {k rest : List NumberedKind} → First x k rest → Covers (word x) k rest
word_covers {x} f = record { front = (x, f.0) ∷ []; divided = f.1; matches = ((refl, tt), tt) }

pub leaf_covers : {x : Kind} {n : ℕ} {k rest : List NumberedKind} → Leaf x n k rest → Covers (leaf x n) k rest
leaf_covers {x} {n} e = record { front = (x, n) ∷ []; divided = e; matches = ((refl, refl), tt) }

-- ---- one after the other

Matches-append : (a b : List Spelled) (k m : List NumberedKind) → Matches a k → Matches b m → Matches (a ++ b) (k ++ m)
Matches-append [] b [] m p q = q
Matches-append [] b (s ∷ k) m p q = absurd p
Matches-append (x ∷ a) b [] m p q = absurd p
Matches-append (x ∷ a) b (s ∷ k) m p q = (p.0, Matches-append a b k m p.1 q)

infixl 10 ◌and◌
pub ◌and◌ : {a b : List Spelled} {k m rest : List NumberedKind} → Covers a k m → Covers b m rest → Covers (a ++ b) k rest
◌and◌ {a} {b} {k} {m} {rest} c d = record {
  front = c.front ++ d.front;
  divided = c.divided ∙ ap (λ (l : List NumberedKind). c.front ++ l) d.divided ∙ sym (append_assoc c.front d.front rest);
  matches = Matches-append a b c.front d.front c.matches d.matches;
}

-- the tree is this one, which spells that
pub covers_as : {A : Type 0} (spell : A → List Spelled) {t u : A} {spelled : List Spelled} {k rest : List NumberedKind} → t ≡ u → spell u ≡ spelled → Covers spelled k rest → Covers (spell t) k rest
covers_as spell {k = k} {rest = rest} is spells c = subst (λ (l : List Spelled). Covers l k rest) (sym (ap spell is ∙ spells)) c

-- ---- what may be missing

pub written_spells : (x : Kind) → Spells (Written x) (written x)
written_spells x true k rest f = word_covers f
written_spells x false k rest e = nothing_covers e

pub perhaps_spells : {A : Type 0} (R : A → List NumberedKind → List NumberedKind → Type 0) (spell : A → List Spelled) → Spells R spell → Spells (Perhaps R) (perhaps spell)
perhaps_spells R spell spells None k rest e = nothing_covers e
perhaps_spells R spell spells (Some x) k rest r = spells x k rest r

-- ---- lists

pub each_spells : {A : Type 0} (R : A → List NumberedKind → List NumberedKind → Type 0) (spell : A → List Spelled) → Spells R spell → Spells (Each R) (λ xs. joined (map spell xs))
each_spells R spell spells [] k rest e = nothing_covers e
each_spells R spell spells (x ∷ xs) k rest e = spells x k e.0 e.1 and each_spells R spell spells xs e.0 rest e.2

-- where the parts of each element stand for what they spell
pub parts_spell : {A B : Type 0} (R : A → List NumberedKind → List NumberedKind → Type 0) (part : A → B) (spell : B → List Spelled) → Spells R (λ x. spell (part x)) → Spells (Each R) (λ xs. joined (map spell (map part xs)))
parts_spell R part spell spells [] k rest e = nothing_covers e
parts_spell R part spell spells (x ∷ xs) k rest e = spells x k e.0 e.1 and parts_spell R part spell spells xs e.0 rest e.2

after_spells : {A : Type 0} (R : A → List NumberedKind → List NumberedKind → Type 0) (spell : A → List Spelled) → Spells R spell → Spells (Each (IsAfterComma R)) (λ xs. after kind.Comma (map spell xs))
after_spells R spell spells [] k rest e = nothing_covers e
after_spells R spell spells (x ∷ xs) k rest e = word_covers e.1.comma and spells x e.1.mid e.0 e.1.element and after_spells R spell spells xs e.0 rest e.2

-- one element, and those after commas
pub commas_cover : {A : Type 0} (R : A → List NumberedKind → List NumberedKind → Type 0) (spell : A → List Spelled) → Spells R spell → (x : A) (xs : List A) (k m rest : List NumberedKind) → R x k m → Each (IsAfterComma R) xs m rest → Covers (commas (map spell (x ∷ xs))) k rest
commas_cover R spell spells x xs k m rest r e = spells x k m r and after_spells R spell spells xs m rest e

pub commas_spell : {A : Type 0} (R : A → List NumberedKind → List NumberedKind → Type 0) (spell : A → List Spelled) → Spells R spell → Spells (AreCommas R) (λ xs. commas (map spell xs))
commas_spell R spell spells [] k rest e = absurd e
commas_spell R spell spells (x ∷ xs) k rest e = commas_cover R spell spells x xs k e.0 rest e.1 e.2

-- ---- levels

pub within_spells : {A : Type 0} (free extra depth : ℕ) (R : A → List NumberedKind → List NumberedKind → Type 0) (spell : A → List Spelled) → Spells R spell → Spells (Within free extra depth R) spell
within_spells free extra (suc depth) R spell spells x k rest r = spells x k rest r
within_spells free (suc extra) zero R spell spells x k rest r = spells x k rest r.1
within_spells free zero zero R spell spells x k rest r = absurd r
