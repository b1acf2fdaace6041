-- Tiers of binary operators are read again.
use Rattle.std.proofs.Common.{◌≡◌, ◌<◌, ℕ, zero, suc, List, [], ◌∷◌, Some, None, Ok, refl, sym, ap, subst, ◌∙◌, arith}
use Rattle.snl_grammar.specs.declared.operator.Binary.{Binary}
use Rattle.snl_grammar.specs.declared.tree.types.TypeName.{TypeName}
use Rattle.snl_grammar.specs.declared.tree.expression.Expr.{Expr}
use Rattle.snl_grammar.specs.Operators.{binary_kind}
use Rattle.snl_grammar.specs.Tokens.{NumberedKind}
use Rattle.snl_grammar.specs.Steps.{Reader, expect, many}
use Rattle.snl_grammar.specs.Grammar.Base.{Each}
use Rattle.snl_grammar.specs.Grammar.Expressions.{IsPrefix, IsLink, alone, chain, IsTier}
use Rattle.snl_grammar.specs.Reading.Expressions.{link_by, next_link, prefix, tiers_from, operand, chained}
use Rattle.snl_grammar.proofs.Local.{Local}
use Rattle.snl_grammar.proofs.ExpressionLocal.{link_eats, operand_local}
use Rattle.snl_grammar.proofs.Again.{ReadsBack, read, reads_back_at, reads_back_as, bind_reads_back, pure_reads_back, first_reads_back, many_reads_back}
use Rattle.snl_grammar.proofs.Follow.{binds, Stops, stops_less, first_stops, binds-mark, binary_none, binary_some}

module _ (free : ℕ) (Inner : Expr → List NumberedKind → List NumberedKind → Type 0) (Names : TypeName → List NumberedKind → List NumberedKind → Type 0) (inner : Reader Expr) (names : Reader TypeName) (local : Local inner) (named : Local names) (prefix_again : (t : Expr) (k rest : List NumberedKind) → IsPrefix Inner Names t k rest → Stops 0 rest → ReadsBack free (prefix inner names k) t rest) where
  -- t is x with what the tiers up to n have after it
  abbrev pub Goes : ℕ → Expr → Expr → List NumberedKind → List NumberedKind → Type 0
  Goes zero x t k rest = (x ≡ t) × (k ≡ rest)
  Goes (suc n) x t k rest = (y : Expr) × (links : List (Binary × Expr)) × (mid : List NumberedKind) × Goes n x y k mid × Each (IsLink (suc n) (IsTier Inner Names n)) links mid rest × (chained y links ≡ t)

  pub split : (n : ℕ) (t : Expr) (k rest : List NumberedKind) → IsTier Inner Names n t k rest → (x : Expr) × (m : List NumberedKind) × IsPrefix Inner Names x k m × Goes n x t m rest
  split zero t k rest p = (t, rest, p, (refl, refl))
  split (suc n) t k rest (alone l) = let s = split n t k rest l in (s.0, s.1, s.2, (t, [], rest, s.3, refl, refl))
  split (suc n) t k rest (chain x link links mid is l each) = let s = split n x k mid l in (s.0, s.1, s.2, (x, link ∷ links, mid, s.3, each, sym is))

  link_stops : (n : ℕ) (link : Binary × Expr) (k m : List NumberedKind) → IsLink (suc n) (IsTier Inner Names n) link k m → Stops n k
  link_stops n link k m is =
      let b = binds-mark link.0 in
      let r = is.of_tier in
      let lt : n < binds (binary_kind link.0) = omega arith in
      first_stops (binary_kind link.0) n k is.mid lt is.operator

  links_stop : (n : ℕ) (links : List (Binary × Expr)) (k rest : List NumberedKind) → Each (IsLink (suc n) (IsTier Inner Names n)) links k rest → Stops (suc n) rest → Stops n k
  links_stop n [] k rest e h = subst (Stops n) (sym e) (stops_less n (suc n) rest (omega arith) h)
  links_stop n (link ∷ links) k rest e h = link_stops n link k e.0 e.1

  pub goes_stop : (n : ℕ) (x t : Expr) (k rest : List NumberedKind) → Goes n x t k rest → Stops n rest → Stops 0 k
  goes_stop zero x t k rest g h = subst (Stops 0) (sym g.1) h
  goes_stop (suc n) x t k rest g h = goes_stop n x g.0 k g.2 g.3 (links_stop n g.1 g.2 rest g.4 h)

  operand_by : (n : ℕ) → ((x t : Expr) (k rest : List NumberedKind) → Goes n x t k rest → Stops n rest → ReadsBack free (tiers_from inner names n x k) t rest) → (t : Expr) (k rest : List NumberedKind) → IsTier Inner Names n t k rest → Stops n rest → ReadsBack free (operand inner names n k) t rest
  operand_by n go t k rest is h = let s = split n t k rest is in bind_reads_back free (prefix inner names k) (tiers_from inner names n) s.0 s.1 t rest (prefix_again s.0 k s.1 s.2 (goes_stop n s.0 t s.1 rest s.3 h)) (go s.0 t s.1 rest s.3 h)

  link_by_again : (n : ℕ) → ((t : Expr) (k rest : List NumberedKind) → IsTier Inner Names n t k rest → Stops n rest → ReadsBack free (operand inner names n k) t rest) → (link : Binary × Expr) (k m : List NumberedKind) → IsLink (suc n) (IsTier Inner Names n) link k m → Stops n m → ReadsBack free (next_link (suc n) (operand inner names n) k) (Some link) m
  unfolding next_link
  link_by_again n go link k m is h =
      reads_back_at free _ (link_by (operand inner names n) (Some link.0) k) (Some link) m (ap (λ o. link_by (operand inner names n) o k) (binary_some (suc n) link.0 k is.mid is.operator is.of_tier))
      (bind_reads_back free (expect (binary_kind link.0) k) _ is.operator.0 is.mid (Some link) m (first_reads_back free (binary_kind link.0) k is.mid is.operator)
      (bind_reads_back free (operand inner names n is.mid) _ link.1 m (Some link) m (go link.1 is.mid m is.operand h) (pure_reads_back free (Some link) m)))

  no_link : (n : ℕ) (k : List NumberedKind) → Stops (suc n) k → ReadsBack free (next_link (suc n) (operand inner names n) k) None k
  unfolding next_link
  no_link n k h = read (ap (λ o. link_by (operand inner names n) o k) (binary_none (suc n) k h))

  pub tiers_again : (n : ℕ) (x t : Expr) (k rest : List NumberedKind) → Goes n x t k rest → Stops n rest → ReadsBack free (tiers_from inner names n x k) t rest
  unfolding tiers_from
  tiers_again zero x t k rest g h = read (ap (λ (z : Expr). Ok (z, k)) g.0 ∙ ap (λ (l : List NumberedKind). Ok (t, l)) g.1)
  tiers_again (suc n) x t k rest g h =
      bind_reads_back free (tiers_from inner names n x k) _ g.0 g.2 t rest (tiers_again n x g.0 k g.2 g.3 (links_stop n g.1 g.2 rest g.4 h))
      (bind_reads_back free (many (next_link (suc n) (operand inner names n)) [] g.2) _ g.1 rest t rest
      (many_reads_back free (next_link (suc n) (operand inner names n)) (link_eats (suc n) (operand inner names n) (operand_local inner names local named n)) (IsLink (suc n) (IsTier Inner Names n)) (Stops n) (link_stops n) (link_by_again n (operand_by n (tiers_again n))) [] g.1 g.2 rest g.4 (stops_less n (suc n) rest (omega arith) h) (no_link n rest h))
      (reads_back_as free _ (chained g.0 g.1) t rest g.5 (pure_reads_back free (chained g.0 g.1) rest)))

  pub operand_again : (n : ℕ) (t : Expr) (k rest : List NumberedKind) → IsTier Inner Names n t k rest → Stops n rest → ReadsBack free (operand inner names n k) t rest
  operand_again n = operand_by n (tiers_again n)
