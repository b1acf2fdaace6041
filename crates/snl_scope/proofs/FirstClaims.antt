-- Lemmas on the first clause that makes a claim: what a further claim and a further clause are to
-- the table of them.
use Rattle.std.proofs.Common.{◌≡◌, ℕ, Bool, true, false, ◌&&◌, ◌||◌, cond, List, [], ◌∷◌, ◌++◌, length, filter, map, nat_eq, Option, None, Some, is_some, refl, sym, ap, subst, ◌∙◌, true≢false, if◌then◌else◌}
use Rattle.std.proofs.Math.Bool.{and_assoc}
use Rattle.std.proofs.lemmas.Bool.Decides.{Decides-eqb}
use Rattle.std.specs.List.{list_any, position}
use Rattle.std.specs.Map.{lookup}
use Rattle.std.specs.Option.{option_or}
use Rattle.snl_facts.specs.Options.{none_or, or_none}
use Rattle.snl_facts.specs.Positions.{any_position, position_push}
use Rattle.snl_scope.specs.declared.clauses.clause_index.Claim.{Claim}
use Rattle.snl_scope.specs.declared.clauses.clause_index.ClauseIndex.{ClauseIndex}
use Rattle.snl_scope.specs.declared.clauses.clause_index.Extent.{Extent}
use Rattle.snl_scope.specs.declared.clauses.clause_index.Extent.TheVariants as extent
use Rattle.snl_scope.specs.declared.clauses.clause_index.Purpose.{Purpose}
use Rattle.snl_scope.specs.declared.clauses.clause_index.Purpose.TheVariants as purpose
use Rattle.snl_scope.specs.contracts.clauses.clause_index.ClaimPartialEq.TheImpl as claim_eq
use Rattle.snl_scope.specs.contracts.clauses.clause_index.ExtentPartialEq.TheImpl as extent_eq
use Rattle.snl_scope.specs.contracts.clauses.clause_index.PurposePartialEq.TheImpl as purpose_eq
use Rattle.snl_scope.specs.Claims.{Adds, Claimed, claim_in, claims, makes, purpose_of, same_claim, same_extent, same_purpose, sound_among}
use Rattle.snl_scope.specs.Clauses.{LinkedClause, same_number}

-- the table of claims is read by the test that the code derives
purpose_is : (a b : Purpose) → purpose_eq.eq-value.it a b ≡ same_purpose a b
purpose_is purpose.Assign purpose.Assign = refl
purpose_is purpose.Assign purpose.Monitor = refl
purpose_is purpose.Assign purpose.Sync = refl
purpose_is purpose.Monitor purpose.Assign = refl
purpose_is purpose.Monitor purpose.Monitor = refl
purpose_is purpose.Monitor purpose.Sync = refl
purpose_is purpose.Sync purpose.Assign = refl
purpose_is purpose.Sync purpose.Monitor = refl
purpose_is purpose.Sync purpose.Sync = refl

extent_is : (a b : Extent) → extent_eq.eq-value.it a b ≡ same_extent a b
extent_is extent.Any extent.Any = refl
extent_is extent.Any extent.Whole = refl
extent_is extent.Any (extent.Element b) = refl
extent_is extent.Whole extent.Any = refl
extent_is extent.Whole extent.Whole = refl
extent_is extent.Whole (extent.Element b) = refl
extent_is (extent.Element a) extent.Any = refl
extent_is (extent.Element a) extent.Whole = refl
extent_is (extent.Element a) (extent.Element b) = refl

claim_is : (a b : Claim) → claim_eq.eq-value.it a b ≡ same_claim a b
claim_is a b =
    sym (and_assoc (purpose_eq.eq-value.it a.purpose b.purpose) (nat_eq a.variable b.variable) (extent_eq.eq-value.it a.extent b.extent))
    ∙ ap (λ p. p && nat_eq a.variable b.variable && extent_eq.eq-value.it a.extent b.extent) (purpose_is a.purpose b.purpose)
    ∙ ap (λ e. same_purpose a.purpose b.purpose && nat_eq a.variable b.variable && e) (extent_is a.extent b.extent)

pub purpose_true : (a b : Purpose) → same_purpose a b ≡ true → a ≡ b
purpose_true purpose.Assign purpose.Assign h = refl
purpose_true purpose.Assign purpose.Monitor h = absurd (true≢false (sym h))
purpose_true purpose.Assign purpose.Sync h = absurd (true≢false (sym h))
purpose_true purpose.Monitor purpose.Assign h = absurd (true≢false (sym h))
purpose_true purpose.Monitor purpose.Monitor h = refl
purpose_true purpose.Monitor purpose.Sync h = absurd (true≢false (sym h))
purpose_true purpose.Sync purpose.Assign h = absurd (true≢false (sym h))
purpose_true purpose.Sync purpose.Monitor h = absurd (true≢false (sym h))
purpose_true purpose.Sync purpose.Sync h = refl

extent_true : (a b : Extent) → same_extent a b ≡ true → a ≡ b
extent_true extent.Any extent.Any h = refl
extent_true extent.Any extent.Whole h = absurd (true≢false (sym h))
extent_true extent.Any (extent.Element b) h = absurd (true≢false (sym h))
extent_true extent.Whole extent.Any h = absurd (true≢false (sym h))
extent_true extent.Whole extent.Whole h = refl
extent_true extent.Whole (extent.Element b) h = absurd (true≢false (sym h))
extent_true (extent.Element a) extent.Any h = absurd (true≢false (sym h))
extent_true (extent.Element a) extent.Whole h = absurd (true≢false (sym h))
extent_true (extent.Element a) (extent.Element b) h = ap extent.Element ((Decides-eqb a b).0 h)

all-three : (b c d : Bool) → (b && c && d) ≡ true → (b ≡ true) × (c ≡ true) × (d ≡ true)
all-three true true true h = (refl, refl, refl)
all-three true true false h = absurd (true≢false (sym h))
all-three true false d h = absurd (true≢false (sym h))
all-three false c d h = absurd (true≢false (sym h))

claim_true : (a b : Claim) → same_claim a b ≡ true → a ≡ b
claim_true a b h =
    let t = all-three (same_purpose a.purpose b.purpose) (nat_eq a.variable b.variable) (same_extent a.extent b.extent) h in
    let by_purpose : a ≡ record a { purpose = b.purpose } = ap (λ p. record a { purpose = p }) (purpose_true a.purpose b.purpose t.0) in
    let by_variable : record a { purpose = b.purpose } ≡ record b { extent = a.extent } =
    ap (λ v. record b { variable = v; extent = a.extent }) ((Decides-eqb a.variable b.variable).0 t.1) in
    by_purpose ∙ by_variable ∙ ap (λ e. record b { extent = e }) (extent_true a.extent b.extent t.2)

pub lookup_is : (m : Claim) (held : List (Claim × ℕ)) → lookup (claim_eq.eq-value.it m) held ≡ lookup (same_claim m) held
lookup_is m [] = refl
lookup_is m (e ∷ es) =
    ap (λ b. cond b (Some e.1) (lookup (claim_eq.eq-value.it m) es)) (claim_is m e.0) ∙ ap (cond (same_claim m e.0) (Some e.1)) (lookup_is m es)

-- what is known of a claim is known of an equal one
known-same : (one q : Claim) (held : List (Claim × ℕ)) (b : Bool) → is_some (lookup (claim_eq.eq-value.it one) held) ≡ b → same_claim one q ≡ true
    → is_some (lookup (same_claim q) held) ≡ b
known-same one q held b h t = ap (λ c. is_some (lookup (same_claim c) held)) (sym (claim_true one q t)) ∙ ap is_some (sym (lookup_is one held)) ∙ h

-- What a claim more is to the table of those on elements.
abbrev PutsFirst : List (Claim × ℕ) → List (Claim × ℕ) → Claim → ℕ → Type 0
PutsFirst before after one number = (q : Claim) → lookup (same_claim q) after ≡ option_or (lookup (same_claim q) before) (if same_claim one q then Some number else None)

-- a claim that no clause has made yet
puts-new : (one : Claim) (number : ℕ) (before after : List (Claim × ℕ)) → is_some (lookup (claim_eq.eq-value.it one) before) ≡ false
    → ((q : Claim) → lookup (claim_eq.eq-value.it q) after ≡ cond (claim_eq.eq-value.it one q) (Some number) (lookup (claim_eq.eq-value.it q) before))
    → PutsFirst before after one number
puts-new one number before after absent put = λ q.
    sym (lookup_is q after) ∙ put q ∙ ap (λ b. cond b (Some number) (lookup (claim_eq.eq-value.it q) before)) (claim_is one q)
    ∙ ap (cond (same_claim one q) (Some number)) (lookup_is q before) ∙ by q (same_claim one q) (known-same one q before false absent)
  where
    by : (q : Claim) (b : Bool) → (b ≡ true → is_some (lookup (same_claim q) before) ≡ false)
        → cond b (Some number) (lookup (same_claim q) before) ≡ option_or (lookup (same_claim q) before) (if b then Some number else None)
    by q true h = sym (none_or (lookup (same_claim q) before) (Some number) (h refl))
    by q false h = sym (or_none (lookup (same_claim q) before))

-- a claim that an earlier clause has made
puts-known : (one : Claim) (number : ℕ) (held : List (Claim × ℕ)) → is_some (lookup (claim_eq.eq-value.it one) held) ≡ true → PutsFirst held held one number
puts-known one number held there = λ q. by (lookup (same_claim q) held) (same_claim one q) (known-same one q held true there)
  where
    by : (o : Option ℕ) (b : Bool) → (b ≡ true → is_some o ≡ true) → o ≡ option_or o (if b then Some number else None)
    by (Some n) b h = refl
    by None true h = absurd (true≢false (sym (h refl)))
    by None false h = refl

pub puts-first : (one : Claim) (number : ℕ) (before after : List (Claim × ℕ)) (seen : Bool) → seen ≡ is_some (lookup (claim_eq.eq-value.it one) before)
    → (seen ≡ true → after ≡ before)
    → (seen ≡ false → (q : Claim) → lookup (claim_eq.eq-value.it q) after ≡ cond (claim_eq.eq-value.it one q) (Some number) (lookup (claim_eq.eq-value.it q) before))
    → PutsFirst before after one number
puts-first one number before after true seen stays put = subst (λ held. PutsFirst before held one number) (sym (stays refl)) (puts-known one number before (sym seen))
puts-first one number before after false seen stays put = puts-new one number before after (sym seen) (put refl)

pub adds-same : (before after : ClauseIndex) (p q : Claim → Bool) (number : ℕ) → ((m : Claim) → p m ≡ q m) → Adds before after p number → Adds before after q number
adds-same before after p q number h a = record { each = λ m. a.each m ∙ ap (λ b. option_or (claim_in before m) (if b then Some number else None)) (h m) }

pub adds-then : (before between after : ClauseIndex) (p q : Claim → Bool) (number : ℕ) → Adds before between p number → Adds between after q number
    → Adds before after (λ m. q m || p m) number
adds-then before between after p q number a b =
    record {
      each = λ m.
          b.each m ∙ ap (λ o. option_or o (if q m then Some number else None)) (a.each m) ∙ by (claim_in before m) (p m) (q m);
    }
  where
    by : (o : Option ℕ) (x y : Bool)
        → option_or (option_or o (if x then Some number else None)) (if y then Some number else None) ≡ option_or o (if (y || x) then Some number else None)
    by (Some k) x y = refl
    by None true true = refl
    by None true false = refl
    by None false true = refl
    by None false false = refl

-- the claims with those of a further sound clause
pub claimed-sound : (judged : List (LinkedClause × Bool)) (c : LinkedClause) (before after : ClauseIndex) (v number : ℕ) → Claimed before judged
    → c.variable ≡ Some v → number ≡ length judged
    → Adds before after (λ m. same_purpose (purpose_of c.clause.kind) m.purpose && nat_eq v m.variable && claims c.clause.coverage m.extent) number
    → Claimed after (judged ++ (c, true) ∷ [])
claimed-sound judged c before after v number f is last a =
    record {
      each = λ m.
          a.each m ∙ ap (λ o. put m (made m o) number) (sym is) ∙ ap (put m (makes c m)) last
          ∙ ap (λ o. option_or o (if makes c m then Some (length judged) else None)) (f.each m) ∙ sym (position_push (λ p. p.1 && makes p.0 m) judged (c, true));
    }
  where
    made : Claim → Option ℕ → Bool
    made m o = same_purpose (purpose_of c.clause.kind) m.purpose && same_number o (Some m.variable) && claims c.clause.coverage m.extent

    put : Claim → Bool → ℕ → Option ℕ
    put m b n = option_or (claim_in before m) (if b then Some n else None)

-- some sound clause passes where the first that does has a number
pub any-among : (q : LinkedClause → Bool) (judged : List (LinkedClause × Bool)) → is_some (position (λ p. p.1 && q p.0) judged) ≡ list_any q (sound_among judged)
any-among q judged = sym (any_position (λ p. p.1 && q p.0) judged) ∙ among judged
  where
    among : (ps : List (LinkedClause × Bool)) → list_any (λ p. p.1 && q p.0) ps ≡ list_any q (sound_among ps)
    among [] = refl
    among (p ∷ ps) = by p.1 (among ps)
      where
        by : (b : Bool) → list_any (λ r. r.1 && q r.0) ps ≡ list_any q (sound_among ps)
            → ((b && q p.0) || list_any (λ r. r.1 && q r.0) ps) ≡ list_any q (map (λ r. r.0) (cond b (p ∷ filter (λ r. r.1) ps) (filter (λ r. r.1) ps)))
        by true h = ap (λ b. q p.0 || b) h
        by false h = h

-- a claim is known where a sound clause makes it
pub claimed-told : (held : ClauseIndex) (judged : List (LinkedClause × Bool)) → Claimed held judged → (m : Claim)
    → is_some (claim_in held m) ≡ list_any (λ c. makes c m) (sound_among judged)
claimed-told held judged f m = ap is_some (f.each m) ∙ any-among (λ c. makes c m) judged
