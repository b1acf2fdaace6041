-- The tiers of binary operators, beside the code that goes from one operator's tier to the next.
use Rattle.std.proofs.Common.{rules, ◌≡◌, ℕ, zero, suc, ◌+◌, ◌-◌, ◌<◌, ◌≤◌, List, [], length, Option, None, Some, Ok, Err, refl, sym, ap, ◌∙◌, arith}
use Rattle.std.specs.Prelude.{◌≢◌, option_map}
use Rattle.std.specs.Option.{option_map_or}
use Rattle.std.proofs.lemmas.Bool.{ne_eqb}
use Rattle.std.proofs.lemmas.Option.{none-some}
use Rattle.snl_lex.specs.declared.kind.Kind.{Kind}
use Rattle.snl_grammar.specs.declared.operator.Binary.{Binary}
use Rattle.snl_expression.specs.declared.stop.Stop.{Stop}
use Rattle.snl_expression.specs.declared.stop.Stop.TheVariants as stops
use Rattle.snl_grammar.specs.declared.tree.types.TypeName.{TypeName}
use Rattle.snl_grammar.specs.declared.tree.expression.Expr.{Expr}
use Rattle.snl_grammar.specs.Operators.{binary_of, tier}
use Rattle.snl_expression.specs.Tiers.{tier_between, tier_in}
use Rattle.snl_grammar.specs.Tokens.{NumberedKind}
use Rattle.snl_grammar.specs.Steps.{Outcome, Reader, and_then, kind_at, many, many_within, more_or, pure, ◌>>=◌}
use Rattle.snl_expression.specs.Reads.{Fails}
use Rattle.snl_grammar.specs.Reading.Expressions.{binary_in, in_tier, tiers_from, operand, next_link, link_by, chained}

-- no operator of another tier is next
in_other_tier : (n : ℕ) (op : Option Binary) → ((m : ℕ) → option_map tier op ≡ Some m → m ≢ n) → in_tier n op ≡ None
in_other_tier n None other = refl
in_other_tier n (Some op) other = rw (ne_eqb (tier op) n (other (tier op) refl)) refl

pub other_tier : (n : ℕ) (k : Option Kind) → ((m : ℕ) → tier_in k ≡ Some m → m ≢ n) → binary_in n k ≡ None
other_tier n None other = refl
other_tier n (Some d) other = in_other_tier n (binary_of d) other

-- what the next operator's tier tells, if it is above one and not above another
pub next_tier : (done most next : ℕ) (o : Option ℕ) → tier_between done most o ≡ Some next → (o ≡ Some next) × (done < next) × (next ≤ most)
next_tier done most next None is = absurd (none-some next is)
next_tier done most next (Some n) is = search rules

no_tier : (done most : ℕ) (o : Option ℕ) → tier_between done most o ≡ None → (n : ℕ) → done < n → n ≤ most → (m : ℕ) → o ≡ Some m → m ≢ n
no_tier done most o is n gt le m at same = search rules

others : (k : Option Kind) (next : ℕ) → tier_in k ≡ Some next → (n : ℕ) → next ≢ n → binary_in n k ≡ None
others k next is n ne = other_tier n k (λ m at same. ne (ap (λ o. option_map_or (λ n. n) o next) (sym is ∙ at) ∙ same))

module _ (inner : Reader Expr) (names : Reader TypeName) where
  -- one tier, after an operand of the tiers below it
  unfoldable pub on_tier : ℕ → Expr → Reader Expr
  on_tier n first = many (next_link (suc n) (operand inner names n)) [] >>= (λ links. pure (chained first links))

  -- so many tiers above one
  unfoldable pub tiers_above : ℕ → ℕ → Expr → Reader Expr
  tiers_above low zero x = pure x
  tiers_above low (suc count) x = tiers_above low count x >>= on_tier (low + count)

  pub all_tiers : (n : ℕ) (x : Expr) (k : List NumberedKind) → tiers_from inner names n x k ≡ tiers_above 0 n x k
  unfolding tiers_from tiers_above on_tier
  all_tiers zero x k = refl
  all_tiers (suc n) x k =
      let same : 0 + n ≡ n = omega arith in
      ap (λ (o : Outcome Expr). and_then o (on_tier n)) (all_tiers n x k) ∙ ap (λ m. and_then (tiers_above 0 n x k) (on_tier m)) (sym same)

  no_link : (n : ℕ) (x : Expr) (k : List NumberedKind) → binary_in (suc n) (kind_at k) ≡ None → on_tier n x k ≡ Ok (x, k)
  unfolding on_tier next_link many many_within and_then
  no_link n x k none = ap (λ (op : Option Binary). and_then (and_then (link_by (operand inner names n) op k) (more_or [] (many_within (next_link (suc n) (operand inner names n)) (length k)))) (λ links. pure (chained x links))) none

  -- tiers of which no operator is next leave an operand as it is
  pub quiet : (low count : ℕ) (x : Expr) (k : List NumberedKind) → ((n : ℕ) → low < n → n ≤ low + count → binary_in n (kind_at k) ≡ None) → tiers_above low count x k ≡ Ok (x, k)
  unfolding tiers_above and_then
  quiet low zero x k none = refl
  quiet low (suc count) x k none =
      ap (λ (o : Outcome Expr). and_then o (on_tier (low + count))) (quiet low count x k (λ n lt le. none n lt (omega (arith, le))))
      ∙ no_link (low + count) x k (none (suc (low + count)) (omega arith) (omega arith))

  and_then_pure : (o : Outcome Expr) → and_then o (λ x. pure x) ≡ o
  unfolding and_then
  and_then_pure (Ok p) = refl
  and_then_pure (Err j) = refl

  and_then_assoc : (o : Outcome Expr) (f g : Expr → Reader Expr) → and_then (and_then o f) g ≡ and_then o (λ x. f x >>= g)
  unfolding and_then
  and_then_assoc (Ok p) f g = refl
  and_then_assoc (Err j) f g = refl

  -- some tiers, and then more
  split : (low some more : ℕ) (x : Expr) (k : List NumberedKind) → tiers_above low (some + more) x k ≡ and_then (tiers_above low some x k) (tiers_above (low + some) more)
  unfolding tiers_above
  split low some zero x k =
      let same : some + 0 ≡ some = omega arith in
      ap (λ n. tiers_above low n x k) same ∙ sym (and_then_pure (tiers_above low some x k))
  split low some (suc more) x k =
      let same : low + (some + more) ≡ (low + some) + more = omega arith in
      let last : some + suc more ≡ suc (some + more) = omega arith in
      ap (λ n. tiers_above low n x k) last
      ∙ ap (λ (o : Outcome Expr). and_then o (on_tier (low + (some + more)))) (split low some more x k)
      ∙ and_then_assoc (tiers_above low some x k) (tiers_above (low + some) more) (on_tier (low + (some + more)))
      ∙ ap (λ n. and_then (tiers_above low some x k) (λ y. tiers_above (low + some) more y >>= on_tier n)) same

  -- one tier, and then more
  one_first : (low more : ℕ) (x : Expr) (k : List NumberedKind)
      → tiers_above low (suc more) x k ≡ and_then (many (next_link (suc low) (operand inner names low)) [] k) (λ links. tiers_above (low + 1) more (chained x links))
  unfolding tiers_above on_tier and_then
  one_first low more x k =
      let same : suc more ≡ 1 + more = omega arith in
      let at : low + 0 ≡ low = omega arith in
      ap (λ n. tiers_above low n x k) same
      ∙ split low 1 more x k
      ∙ ap (λ n. and_then (on_tier n x k) (tiers_above (low + 1) more)) at
      ∙ links_then (many (next_link (suc low) (operand inner names low)) [] k) x (tiers_above (low + 1) more)
    where
      links_then : (o : Outcome (List (Binary × Expr))) (x : Expr) (f : Expr → Reader Expr) → and_then (and_then o (λ links. pure (chained x links))) f ≡ and_then o (λ links. f (chained x links))
      links_then (Ok p) x f = refl
      links_then (Err j) x f = refl

  -- the tiers up to the one of the next operator are passed over
  to_next : (done top next : ℕ) (x : Expr) (k : List NumberedKind) → done < next → next ≤ top → ((n : ℕ) → next ≢ n → binary_in n (kind_at k) ≡ None)
      → tiers_above done (top - done) x k ≡ and_then (many (next_link next (operand inner names (next - 1))) [] k) (λ links. tiers_above next (top - next) (chained x links))
  unfolding and_then
  to_next done top next x k lt le other =
      let low = next - 1 in
      let some = low - done in
      let more = top - next in
      let parts : top - done ≡ some + suc more = omega arith in
      let begins : done + some ≡ low = omega arith in
      let is : suc low ≡ next = omega arith in
      let after : low + 1 ≡ next = omega arith in
      ap (λ n. tiers_above done n x k) parts
      ∙ split done some (suc more) x k
      ∙ ap (λ (o : Outcome Expr). and_then o (tiers_above (done + some) (suc more))) (quiet done some x k (λ n gt small. other n (λ same. absurd (omega arith))))
      ∙ ap (λ n. tiers_above n (suc more) x k) begins
      ∙ one_first low more x k
      ∙ ap (λ n. and_then (many (next_link n (operand inner names low)) [] k) (λ links. tiers_above (low + 1) more (chained x links))) is
      ∙ ap (λ n. and_then (many (next_link next (operand inner names low)) [] k) (λ links. tiers_above n more (chained x links))) after

  module _ (total : Outcome Expr) (done top next : ℕ) (x : Expr) (k : List NumberedKind) where
    passed : tier_between done top (tier_in (kind_at k)) ≡ Some next
        → tiers_above done (top - done) x k ≡ and_then (many (next_link next (operand inner names (next - 1))) [] k) (λ links. tiers_above next (top - next) (chained x links))
    passed is = let told = next_tier done top next (tier_in (kind_at k)) is in to_next done top next x k told.1 told.2 (others (kind_at k) next told.0)

    pub tiers_go_on : tier_between done top (tier_in (kind_at k)) ≡ Some next → tiers_above done (top - done) x k ≡ total → (links : List (Binary × Expr)) (l : List NumberedKind)
        → many (next_link next (operand inner names (next - 1))) [] k ≡ Ok (links, l) → tiers_above next (top - next) (chained x links) l ≡ total
    unfolding and_then
    tiers_go_on is h links l read = sym (passed is ∙ ap (λ (o : Outcome (List (Binary × Expr))). and_then o (λ links. tiers_above next (top - next) (chained x links))) read) ∙ h

    tiers_fail : tier_between done top (tier_in (kind_at k)) ≡ Some next → tiers_above done (top - done) x k ≡ total → (j : List NumberedKind)
        → many (next_link next (operand inner names (next - 1))) [] k ≡ Err j → total ≡ Err j
    unfolding and_then
    tiers_fail is h j read = sym h ∙ passed is ∙ ap (λ (o : Outcome (List (Binary × Expr))). and_then o (λ links. tiers_above next (top - next) (chained x links))) read

    pub tiers_err : tier_between done top (tier_in (kind_at k)) ≡ Some next → tiers_above done (top - done) x k ≡ total → (kinds : List Kind) (s : Stop)
        → Fails kinds s (many (next_link next (operand inner names (next - 1))) [] k) → Fails kinds s total
    tiers_err is h kinds stops.OutOfMemory read = tt
    tiers_err is h kinds (stops.Here at) read = tiers_fail is h _ read

  -- no operator of the tiers that are left is next
  pub tiers_end : (total : Outcome Expr) (done top : ℕ) (x : Expr) (k : List NumberedKind) → done ≤ top → tier_between done top (tier_in (kind_at k)) ≡ None → tiers_above done (top - done) x k ≡ total → total ≡ Ok (x, k)
  tiers_end total done top x k le none h = sym h ∙ quiet done (top - done) x k (λ n gt small. other_tier n (kind_at k) (no_tier done top (tier_in (kind_at k)) none n gt (omega (arith, small, le))))
