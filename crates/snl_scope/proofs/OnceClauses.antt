-- No finding at a clause comes twice.
use Rattle.std.proofs.Common.{◌≡◌, ℕ, zero, suc, ◌<◌, ◌≤◌, Bool, true, false, not, ◌&&◌, ◌⊎◌, inl, inr, List, [], ◌∷◌, length, map, Option, None, Some, IfSome, slice_get, arith, refl, subst, sym, ap, ◌∙◌, if◌then◌else◌}
use Rattle.std.specs.List.{AllByRecursion as Each, flat_map, list_any}
use Rattle.std.specs.Option.{option_map_or, option_to_list}
use Rattle.snl_facts.specs.Each.{EachTwo, each_append, each_by, each_front, each_map, each_rear, each_weaker, two_append, two_both, two_map, two_unmap, two_weaker}
use Rattle.snl_codes.specs.declared.code.Code.{Code}
use Rattle.snl_codes.specs.declared.code.Code.TheVariants.{E11, E13, E14, E15, E16}
use Rattle.snl_scope.specs.declared.facts.LinkFault.{LinkFault}
use Rattle.snl_summary.specs.declared.summary.ClauseKind.{ClauseKind}
use Rattle.snl_summary.specs.declared.summary.ClauseKind.TheVariants as kind
use Rattle.snl_summary.specs.declared.summary.NameRef.{NameRef}
use Rattle.snl_summary.specs.declared.summary.Outline.{Outline}
use Rattle.snl_summary.specs.declared.summary.Variable.{Variable}
use Rattle.snl_summary.specs.declared.summary.VariableClause.{VariableClause}
use Rattle.snl_scope.specs.Clauses.{LinkedClause, assigns, at_name_ref, clash, clause_faults, clauses_before, clauses_of, code_on, found_after, found_at, found_at_flag, found_at_variable, has_wrong_flag, is_assign, is_assignable, linked_clause, misfits, repetition_code, variable_at, variable_code, with_clause}
use Rattle.snl_scope.specs.Names.{Entry, entries}
use Rattle.snl_summary.specs.RisingTokens.{TokensRise, flag_tokens, tokens_of_flag, variable_tokens}
use Rattle.snl_scope.proofs.Families.{Differ, differ_by_rank, rank}
use Rattle.snl_scope.proofs.Pairs.{across_append, each_at, two_from_rising, two_rear}

-- What is found at the variable of a clause, and at its flag.
pub record AtVariable (c : LinkedClause) (f : LinkFault) : Type 0 where
  pub item : f.item ≡ c.item
  pub token : f.token ≡ c.clause.variable.token
  pub code : rank f.code ≡ 10

pub record AtFlag (c : LinkedClause) (f : LinkFault) : Type 0 where
  pub item : f.item ≡ c.item
  pub flag : NameRef
  pub token : f.token ≡ flag.token
  pub named : c.clause.flag ≡ Some flag
  pub code : rank f.code ≡ 11

abbrev pub AtClause : LinkedClause → LinkFault → Type 0
AtClause c f = AtVariable c f ⊎ AtFlag c f

-- Two clauses name their variables at different places, and their flags.
record StandApart (c d : LinkedClause) : Type 0 where
  variables : c.item ≡ d.item → c.clause.variable.token ≡ d.clause.variable.token → ⊥
  flags : c.item ≡ d.item → (m n : NameRef) → c.clause.flag ≡ Some m → d.clause.flag ≡ Some n → m.token ≡ n.token → ⊥

stand_apart : (c d : LinkedClause) → StandApart c d → (f g : LinkFault) → AtClause c f → AtClause d g → Differ f g
stand_apart c d apart f g (inl p) (inl q) = λ e. apart.variables (sym p.item ∙ ap (λ x. x.item) e ∙ q.item) (sym p.token ∙ ap (λ x. x.token) e ∙ q.token)
stand_apart c d apart f g (inl p) (inr q) = differ_by_rank f g (λ r. omega (arith, r, p.code, q.code))
stand_apart c d apart f g (inr p) (inl q) = differ_by_rank f g (λ r. omega (arith, r, p.code, q.code))
stand_apart c d apart f g (inr p) (inr q) =
    λ e. apart.flags (sym p.item ∙ ap (λ x. x.item) e ∙ q.item) p.flag q.flag p.named q.named (sym p.token ∙ ap (λ x. x.token) e ∙ q.token)

-- what a clause gives at its variable is no code of another family, nor that at its flag
abbrev IsAtVariable : Option Code → Type 0
IsAtVariable o = IfSome o (λ c. rank c ≡ 10)

either : (b : Bool) (x y : Option Code) → IsAtVariable x → IsAtVariable y → IsAtVariable (if b then x else y)
either true x y p q = p
either false x y p q = q

repetition_rank : (k : ClauseKind) → rank (repetition_code k) ≡ 10
repetition_rank kind.Assign = refl
repetition_rank kind.Monitor = refl
repetition_rank kind.Sync = refl
repetition_rank kind.Syncq = refl

module _ (es : List Entry) (cs : List LinkedClause) where
  code_rank : (sound : List LinkedClause) (c : LinkedClause) (v : Variable) → IsAtVariable (code_on cs sound c v)
  code_rank sound c v =
      let again : Option Code = (if list_any (clash c) sound then Some (repetition_code c.clause.kind) else None) in
      let unassigned : Option Code = (if not (is_assign c.clause.kind) && not (list_any (assigns c.variable) cs) then Some E13 else again) in
      let misfit : Option Code = (if misfits v.dims c.clause.coverage then Some E16 else unassigned) in
      either (is_assign c.clause.kind && not (is_assignable v.symbol_kind)) (Some E15) misfit refl
      (either (misfits v.dims c.clause.coverage) (Some E16) unassigned refl
      (either (not (is_assign c.clause.kind) && not (list_any (assigns c.variable) cs)) (Some E13) again refl
      (either (list_any (clash c) sound) (Some (repetition_code c.clause.kind)) None (repetition_rank c.clause.kind) tt)))

  variable_rank : (sound : List LinkedClause) (c : LinkedClause) → IsAtVariable (variable_code es cs sound c)
  variable_rank sound c = by (variable_at es c.variable)
    where
      by : (o : Option Variable) → IsAtVariable (option_map_or (code_on cs sound c) o (Some E11))
      by None = refl
      by (Some v) = code_rank sound c v

  module _ (c : LinkedClause) where
    coded : (o : Option Code) → IsAtVariable o → Each (AtVariable c) (map (at_name_ref c.item c.clause.variable) (option_to_list o)) × EachTwo Differ (map (at_name_ref c.item c.clause.variable) (option_to_list o))
    coded None h = (tt, tt)
    coded (Some code) h = ((record { item = refl; token = refl; code = h }, tt), (tt, tt))

    flagged : (b : Bool) (o : Option NameRef) → c.clause.flag ≡ o
        → Each (AtFlag c) (if b then map (λ m. at_name_ref c.item m E14) (option_to_list o) else []) × EachTwo Differ (if b then map (λ m. at_name_ref c.item m E14) (option_to_list o) else [])
    flagged false o h = (tt, tt)
    flagged true None h = (tt, tt)
    flagged true (Some m) h = ((record { item = refl; flag = m; token = refl; named = h; code = refl }, tt), (tt, tt))

    at_variable : (sound : List LinkedClause) → Each (AtVariable c) (found_at_variable es cs sound c) × EachTwo Differ (found_at_variable es cs sound c)
    at_variable sound = coded (variable_code es cs sound c) (variable_rank sound c)

    at_flag : Each (AtFlag c) (found_at_flag es c) × EachTwo Differ (found_at_flag es c)
    at_flag = flagged (has_wrong_flag es c) c.clause.flag refl

    found_each : (sound : List LinkedClause) → Each (AtClause c) (found_at es cs sound c)
    found_each sound =
        each_append (AtClause c) (found_at_variable es cs sound c) (found_at_flag es c)
        (each_weaker (AtVariable c) (AtClause c) (λ f p. inl p) (found_at_variable es cs sound c) (at_variable sound).0)
        (each_weaker (AtFlag c) (AtClause c) (λ f p. inr p) (found_at_flag es c) at_flag.0)

    found_once : (sound : List LinkedClause) → EachTwo Differ (found_at es cs sound c)
    found_once sound =
        two_append Differ (AtVariable c) (AtFlag c) (λ f g p q. differ_by_rank f g (λ r. omega (arith, r, p.code, q.code))) (found_at_variable es cs sound c) (found_at_flag es c)
        (at_variable sound).0 (at_variable sound).1 at_flag.0 at_flag.1

  -- what holds of all that is found at clauses
  pub after_each : (P : LinkFault → Type 0) (sound ds : List LinkedClause) → Each (λ c. (f : LinkFault) → AtClause c f → P f) ds → Each P (found_after es cs sound ds)
  after_each P sound [] h = tt
  after_each P sound (d ∷ ds) h =
      each_append P (found_at es cs sound d) (found_after es cs (with_clause es cs sound d) ds) (each_weaker (AtClause d) P h.0 (found_at es cs sound d) (found_each d sound)) (after_each P (with_clause es cs sound d) ds h.1)

  after_once : (sound ds : List LinkedClause) → EachTwo StandApart ds → EachTwo Differ (found_after es cs sound ds)
  after_once sound [] h = tt
  after_once sound (d ∷ ds) h =
      two_append Differ (AtClause d) (λ g. (f : LinkFault) → AtClause d f → Differ f g) (λ f g p q. q f p) (found_at es cs sound d) (found_after es cs (with_clause es cs sound d) ds)
      (found_each d sound) (found_once d sound)
      (after_each (λ g. (f : LinkFault) → AtClause d f → Differ f g) (with_clause es cs sound d) ds (each_weaker (StandApart d) (λ c. (g : LinkFault) → AtClause c g → (f : LinkFault) → AtClause d f → Differ f g) (λ c apart g q f p. stand_apart d c apart f g p q) ds h.0))
      (after_once (with_clause es cs sound d) ds h.1)

-- the flags of the clauses of one item
abbrev FlagsRise : VariableClause → VariableClause → Type 0
FlagsRise c d = (m n : NameRef) → c.flag ≡ Some m → d.flag ≡ Some n → m.token < n.token

each_flag : (P : ℕ → Type 0) (c : VariableClause) → Each P (tokens_of_flag c) → (n : NameRef) → c.flag ≡ Some n → P n.token
each_flag P c h n e = (subst (λ o. Each P (map (λ m. m.token) (option_to_list o))) e h).0

pub each_flags : (P : ℕ → Type 0) (cs : List VariableClause) → Each P (flat_map tokens_of_flag cs) → Each (λ c. (n : NameRef) → c.flag ≡ Some n → P n.token) cs
each_flags P [] h = tt
each_flags P (c ∷ cs) h =
    (each_flag P c (each_front P (tokens_of_flag c) (flat_map tokens_of_flag cs) h), each_flags P cs (each_rear P (tokens_of_flag c) (flat_map tokens_of_flag cs) h))

-- a token that is after each flag that one clause may have
abbrev IsAfter : VariableClause → ℕ → Type 0
IsAfter c b = (m : NameRef) → c.flag ≡ Some m → m.token < b

after_flag : (c : VariableClause) (ns : List ℕ) → Each (λ a. Each (λ b. a < b) ns) (tokens_of_flag c) → Each (IsAfter c) ns
after_flag c ns h = by c.flag refl
  where
    by : (o : Option NameRef) → c.flag ≡ o → Each (IsAfter c) ns
    by None e = each_by (IsAfter c) (λ b m i. absurd (cc)) ns
    by (Some k) e = each_weaker (λ b. k.token < b) (IsAfter c) (λ b l m i. let same : k ≡ m = cc in subst (λ x. x.token < b) same l) ns (each_flag (λ a. Each (λ b. a < b) ns) c h k e)

flags_rise : (cs : List VariableClause) → EachTwo (λ a b. a < b) (flat_map tokens_of_flag cs) → EachTwo FlagsRise cs
flags_rise [] h = tt
flags_rise (c ∷ cs) h = (
  each_weaker (λ d. (n : NameRef) → d.flag ≡ Some n → IsAfter c n.token) (FlagsRise c) (λ d l m n e i. l n i m e) cs
      (each_flags (IsAfter c) cs (after_flag c (flat_map tokens_of_flag cs) (across_append (λ a b. a < b) (tokens_of_flag c) (flat_map tokens_of_flag cs) h))),
  flags_rise cs (two_rear (λ a b. a < b) (tokens_of_flag c) (flat_map tokens_of_flag cs) h),
)

abbrev BothRise : VariableClause → VariableClause → Type 0
BothRise c d = (c.variable.token < d.variable.token) × FlagsRise c d

item_clauses : (s : Outline) → TokensRise s → EachTwo BothRise s.clauses
item_clauses s rise =
    two_both (λ c d. c.variable.token < d.variable.token) FlagsRise s.clauses
    (two_unmap (λ a b. a < b) (λ c. c.variable.token) s.clauses (two_from_rising (variable_tokens s) rise.variables))
    (flags_rise s.clauses (two_from_rising (flag_tokens s) rise.flags))

module _ (ss : List Outline) where
  linked_apart : (n : ℕ) (c d : VariableClause) → BothRise c d → StandApart (linked_clause ss n c) (linked_clause ss n d)
  linked_apart n c d h = record {
    variables = λ same e. omega (arith, h.0, e);
    flags = λ same m k i j e. omega (arith, h.1 m k i j, e);
  }

  apart_by_item : (c d : LinkedClause) → c.item < d.item → StandApart c d
  apart_by_item c d h = record { variables = λ e same. omega (arith, h, e); flags = λ e m n i j same. omega (arith, h, e) }

  clauses_if : (n : ℕ) (o : Option Outline) → IfSome o TokensRise
      → Each (λ c. c.item ≡ n) (option_map_or (λ s. map (linked_clause ss n) s.clauses) o []) × EachTwo StandApart (option_map_or (λ s. map (linked_clause ss n) s.clauses) o [])
  clauses_if n None h = (tt, tt)
  clauses_if n (Some s) h = (
    each_map (λ c. c.item ≡ n) (linked_clause ss n) s.clauses (each_by (λ c. n ≡ n) (λ c. refl) s.clauses),
    two_map StandApart (linked_clause ss n) s.clauses (two_weaker BothRise (λ c d. StandApart (linked_clause ss n c) (linked_clause ss n d)) (linked_apart n) s.clauses (item_clauses s h)),
  )

  clauses_apart : Each TokensRise ss → (n : ℕ) → Each (λ c. c.item < n) (clauses_before ss n) × EachTwo StandApart (clauses_before ss n)
  clauses_apart rise zero = (tt, tt)
  clauses_apart rise (suc n) =
      let before : Each (λ c. c.item < n) (clauses_before ss n) × EachTwo StandApart (clauses_before ss n) = clauses_apart rise n in
      let last : List LinkedClause = option_map_or (λ s. map (linked_clause ss n) s.clauses) (slice_get ss n) [] in
      let here : Each (λ c. c.item ≡ n) last × EachTwo StandApart last = clauses_if n (slice_get ss n) (each_at TokensRise ss n rise) in (
        each_append (λ c. c.item < suc n) (clauses_before ss n) last
            (each_weaker (λ c. c.item < n) (λ c. c.item < suc n) (λ c h. omega (arith, h)) (clauses_before ss n) before.0)
            (each_weaker (λ c. c.item ≡ n) (λ c. c.item < suc n) (λ c h. omega (arith, h)) last here.0),
        two_append StandApart (λ c. c.item < n) (λ c. c.item ≡ n) (λ c d p q. apart_by_item c d (omega (arith, p, q))) (clauses_before ss n) last before.0 before.1 here.0 here.1,
      )

  pub clauses_once : Each TokensRise ss → EachTwo Differ (clause_faults ss)
  clauses_once rise = after_once (entries ss) (clauses_of ss) [] (clauses_of ss) (clauses_apart rise (length ss)).1

  rank_by : (c : LinkedClause) (f : LinkFault) → AtClause c f → 10 ≤ rank f.code
  rank_by c f (inl p) = omega (arith, p.code)
  rank_by c f (inr p) = omega (arith, p.code)

  pub clause_ranks : Each (λ f. 10 ≤ rank f.code) (clause_faults ss)
  clause_ranks = after_each (entries ss) (clauses_of ss) (λ f. 10 ≤ rank f.code) [] (clauses_of ss) (each_by (λ c. (f : LinkFault) → AtClause c f → 10 ≤ rank f.code) rank_by (clauses_of ss))
