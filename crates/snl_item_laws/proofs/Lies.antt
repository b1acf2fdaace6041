-- How brackets lie in the tokens that a production takes.
use Rattle.std.proofs.Common.{◌≡◌, ℕ, zero, suc, Bool, true, false, List, [], ◌∷◌, Option, Some, None, refl, ◌∙◌}
use Rattle.snl_lex.specs.declared.kind.Kind.{Kind}
use Rattle.snl_lex.specs.declared.kind.Kind.TheVariants as kind
use Rattle.snl_grammar.specs.Tokens.{NumberedKind}
use Rattle.snl_grammar.specs.Grammar.Base.{Each, First, Fixed, Leaf, Perhaps}
use Rattle.snl_grammar.specs.Grammar.Types.{Written}

-- tokens that neither nest, begin nor end anything
abbrev pub is_calm : Kind → Bool
is_calm kind.OpenParen = false
is_calm kind.CloseParen = false
is_calm kind.OpenBracket = false
is_calm kind.CloseBracket = false
is_calm kind.OpenBrace = false
is_calm kind.CloseBrace = false
is_calm kind.Semicolon = false
is_calm kind.CCode = false
is_calm kind.Program = false
is_calm kind.Ss = false
is_calm kind.State = false
is_calm kind.Entry = false
is_calm kind.Exit = false
is_calm _ = true

-- tokens that are no others only inside braces
abbrev pub is_loose : Kind → Bool
is_loose kind.Semicolon = true
is_loose kind.CCode = true
is_loose kind.State = true
is_loose kind.Entry = true
is_loose kind.Exit = true
is_loose _ = false

-- The tokens from k up to rest lie within fewer levels than so many, and their brackets match. The
-- flag says that they are inside braces: else no brace is directly after a closing parenthesis.
pub data Lies : Bool → ℕ → List NumberedKind → List NumberedKind → Type 0 where
  nothing : {inside : Bool} {d : ℕ} {k rest : List NumberedKind} → k ≡ rest → Lies inside d k rest
  token : {inside : Bool} {d : ℕ} {k m rest : List NumberedKind} (x : Kind) → is_calm x ≡ true → First x k m → Lies inside (suc d) m rest → Lies inside (suc d) k rest
  loose : {d : ℕ} {k m rest : List NumberedKind} (x : Kind) → is_loose x ≡ true → First x k m → Lies true (suc d) m rest → Lies true (suc d) k rest
  parens : {inside : Bool} {d : ℕ} {k m1 m2 m3 rest : List NumberedKind} → First kind.OpenParen k m1 → Lies inside d m1 m2 → First kind.CloseParen m2 m3 → Lies inside (suc d) m3 rest → Lies inside (suc d) k rest
  squares : {inside : Bool} {d : ℕ} {k m1 m2 m3 rest : List NumberedKind} → First kind.OpenBracket k m1 → Lies inside d m1 m2 → First kind.CloseBracket m2 m3 → Lies inside (suc d) m3 rest → Lies inside (suc d) k rest
  group : {inside : Bool} {d : ℕ} {k m0 m1 m2 m3 rest : List NumberedKind} (x : Kind) → is_calm x ≡ true → First x k m0 → First kind.OpenBrace m0 m1 → Lies true d m1 m2 → First kind.CloseBrace m2 m3 → Lies inside (suc d) m3 rest → Lies inside (suc d) k rest
  braces : {d : ℕ} {k m1 m2 m3 rest : List NumberedKind} → First kind.OpenBrace k m1 → Lies true d m1 m2 → First kind.CloseBrace m2 m3 → Lies true (suc d) m3 rest → Lies true (suc d) k rest

pub lies_then : {inside : Bool} {d : ℕ} {k m rest : List NumberedKind} → Lies inside d k m → Lies inside d m rest → Lies inside d k rest
lies_then (nothing e) l = from e l
  where
    from : {inside : Bool} {d : ℕ} {k m rest : List NumberedKind} → k ≡ m → Lies inside d m rest → Lies inside d k rest
    from e (nothing f) = nothing (e ∙ f)
    from e (token x c (n, f) l) = token x c (n, e ∙ f) l
    from e (loose x c (n, f) l) = loose x c (n, e ∙ f) l
    from e (parens (n, f) i c l) = parens (n, e ∙ f) i c l
    from e (squares (n, f) i c l) = squares (n, e ∙ f) i c l
    from e (group x q (n, f) o i c l) = group x q (n, e ∙ f) o i c l
    from e (braces (n, f) i c l) = braces (n, e ∙ f) i c l
lies_then (token x c f l) m = token x c f (lies_then l m)
lies_then (loose x c f l) m = loose x c f (lies_then l m)
lies_then (parens o i c l) m = parens o i c (lies_then l m)
lies_then (squares o i c l) m = squares o i c (lies_then l m)
lies_then (group x q f o i c l) m = group x q f o i c (lies_then l m)
lies_then (braces o i c l) m = braces o i c (lies_then l m)

-- one level less is fewer than so many too
pub raised : {inside : Bool} {d : ℕ} {k rest : List NumberedKind} → Lies inside d k rest → Lies inside (suc d) k rest
raised (nothing e) = nothing e
raised (token x c f l) = token x c f (raised l)
raised (loose x c f l) = loose x c f (raised l)
raised (parens o i c l) = parens o (raised i) c (raised l)
raised (squares o i c l) = squares o (raised i) c (raised l)
raised (group x q f o i c l) = group x q f o (raised i) c (raised l)
raised (braces o i c l) = braces o (raised i) c (raised l)

pub one : {inside : Bool} {d : ℕ} {k rest : List NumberedKind} (x : Kind) → is_calm x ≡ true → First x k rest → Lies inside (suc d) k rest
one x c f = token x c f (nothing refl)

-- where there is a token at least
abbrev pub Holds : Bool → ℕ → List NumberedKind → List NumberedKind → Type 0
Holds inside zero k rest = ⊥
Holds inside (suc d) k rest = Lies inside (suc d) k rest

pub held : (inside : Bool) (d : ℕ) (k rest : List NumberedKind) → Holds inside d k rest → Lies inside d k rest
held inside zero k rest h = absurd h
held inside (suc d) k rest h = h

-- what each of a kind takes lies so
abbrev pub Fits : {A : Type 0} → Bool → ℕ → (A → List NumberedKind → List NumberedKind → Type 0) → Type 0
Fits inside d R = (x : _) (k rest : List NumberedKind) → R x k rest → Holds inside d k rest

abbrev pub AreCalm : List Kind → Type 0
AreCalm [] = Unit {0}
AreCalm (x ∷ xs) = (is_calm x ≡ true) × AreCalm xs

module _ (inside : Bool) (d : ℕ) where
  pub fixed_lie : (xs : List Kind) (k rest : List NumberedKind) → AreCalm xs → Fixed xs k rest → Lies inside (suc d) k rest
  fixed_lie [] k rest c e = nothing e
  fixed_lie (x ∷ xs) k rest c h = token x c.0 h.1 (fixed_lie xs h.0 rest c.1 h.2)

  pub written_lies : (x : Kind) (b : Bool) (k rest : List NumberedKind) → is_calm x ≡ true → Written x b k rest → Lies inside (suc d) k rest
  written_lies x true k rest c f = one x c f
  written_lies x false k rest c e = nothing e

  pub leaf_lies : (x : Kind) (n : ℕ) (k rest : List NumberedKind) → is_calm x ≡ true → Leaf x n k rest → Lies inside (suc d) k rest
  leaf_lies x n k rest c e = one x c (n, e)

module _ {A : Type 0} (inside : Bool) (R : A → List NumberedKind → List NumberedKind → Type 0) where
  -- each lies in the level, if there is one
  pub each_lie : (d : ℕ) → ((x : A) (k rest : List NumberedKind) → R x k rest → Holds inside d k rest) → (xs : List A) (k rest : List NumberedKind) → Each R xs k rest → Lies inside d k rest
  each_lie d fits [] k rest e = nothing e
  each_lie d fits (x ∷ xs) k rest h = lies_then (held inside d k h.0 (fits x k h.0 h.1)) (each_lie d fits xs h.0 rest h.2)

  pub perhaps_lies : (d : ℕ) → ((x : A) (k rest : List NumberedKind) → R x k rest → Holds inside d k rest) → (x : Option A) (k rest : List NumberedKind) → Perhaps R x k rest → Lies inside d k rest
  perhaps_lies d fits None k rest e = nothing e
  perhaps_lies d fits (Some x) k rest h = held inside d k rest (fits x k rest h)
