-- What clauses say in a text whose last items have none and declare nothing that the items before
-- them can name: what they say by the front alone. `f` is what the items in front say, `o` what those
-- after them do.
use Rattle.std.proofs.Common.{◌≡◌, ℕ, zero, suc, ◌+◌, ◌<◌, ◌≤◌, ◌&&◌, not, Bool, false, List, [], ◌∷◌, ◌++◌, length, map, slice_get, position, Option, Some, None, IfSome, is_some, if◌then◌else◌, refl, sym, ap, ap₂, ◌∙◌, arith, append-nil, length-append}
use Rattle.std.specs.List.{AllByRecursion, list_any, zip}
use Rattle.std.specs.Option.{option_and_then, option_map_or}
use Rattle.snl_facts.specs.Each.{each_append, each_by, each_map, each_weaker}
use Rattle.snl_scope.specs.declared.facts.ClauseLink.{ClauseLink}
use Rattle.snl_summary.specs.declared.summary.NameRef.{NameRef}
use Rattle.snl_summary.specs.declared.summary.Outline.{Outline}
use Rattle.snl_summary.specs.declared.summary.Variable.{Variable}
use Rattle.snl_summary.specs.declared.summary.VariableClause.{VariableClause}
use Rattle.snl_codes.specs.Codes.{is_error}
use Rattle.snl_scope.specs.Channels.{is_monitor, is_monitored, is_sync, speaks_on, sync_number}
use Rattle.snl_codes.specs.declared.code.Code.TheVariants.{E11}
use Rattle.snl_scope.specs.Clauses.{LinkedClause, clause_link, clause_links, clauses_before, clauses_of, code_on, is_event_flag, is_sound, linked_clause, resolve_in, sound_after, sound_clauses, soundness, soundness_after, variable_at}
use Rattle.snl_scope.specs.Flags.{flags_of}
use Rattle.snl_scope.specs.Names.{Entry, entries}
use Rattle.snl_scope.specs.Places.{enclosing_set}
use Rattle.snl_moved.proofs.SpanLaws.{each_beside}

-- ---- lists that grow by what each number adds

-- From the place on from which nothing is added, nothing comes.
module _ {Y : Type 0} (before after : ℕ → List Y) (place : ℕ) where
  pub grown_alike : (before 0 ≡ after 0) → (added kept : ℕ → List Y) → ((n : ℕ) → after (suc n) ≡ after n ++ added n) → ((n : ℕ) → before (suc n) ≡ before n ++ kept n) →
      ((n : ℕ) → n < place → added n ≡ kept n) → (n : ℕ) → n ≤ place → after n ≡ before n
  grown_alike first added kept more less same zero le = sym first
  grown_alike first added kept more less same (suc n) le =
      more n ∙ ap₂ (λ (a b : List Y). a ++ b) (grown_alike first added kept more less same n (omega (arith, le))) (same n (omega (arith, le))) ∙ sym (less n)

  pub grown_past : (added : ℕ → List Y) → ((n : ℕ) → after (suc n) ≡ after n ++ added n) → ((n : ℕ) → place ≤ n → added n ≡ []) →
      (more : ℕ) → after (more + place) ≡ after place
  grown_past added step none zero = let same : 0 + place ≡ place = omega arith in ap after same
  grown_past added step none (suc more) =
      let next : suc more + place ≡ suc (more + place) = omega arith in
      ap after next ∙ step (more + place) ∙ ap (λ (l : List Y). after (more + place) ++ l) (none (more + place) (omega arith)) ∙ append-nil (after (more + place)) ∙ grown_past added step none more

-- ---- what is known of the items in front

-- Names mean to the items in front what they mean without the items after them, and these have no
-- clause.
pub record KeepsFront (f o : List Outline) : Type 0 where
  pub resolves : (i : ℕ) → i < length f → (name : List ℕ) → resolve_in (f ++ o) i name ≡ resolve_in f i name
  pub there : (i : ℕ) (name : List ℕ) → IfSome (resolve_in f i name) (λ n. n < length (entries f))
  pub got : (number : ℕ) → number < length (entries f) → slice_get (entries (f ++ o)) number ≡ slice_get (entries f) number
  pub flags : flags_of (f ++ o) ≡ flags_of f
  pub places : (i : ℕ) → i < length f → enclosing_set (f ++ o) i ≡ enclosing_set f i
  pub outlines : (i : ℕ) → i < length f → slice_get (f ++ o) i ≡ slice_get f i
  pub no_clause : (i : ℕ) (s : Outline) → length f ≤ i → slice_get (f ++ o) i ≡ Some s → s.clauses ≡ []

module _ (f o : List Outline) (keeps : KeepsFront f o) where
  -- ---- the clauses

  linked_same : (i : ℕ) → i < length f → linked_clause (f ++ o) i ≡ linked_clause f i
  linked_same i l = λ j c. record {
    item = i;
    clause = c;
    variable = keeps.resolves i l c.variable.name j;
    flag = option_and_then (λ (m : NameRef). keeps.resolves i l m.name j) c.flag;
  }

  clauses_at : List Outline → ℕ → List LinkedClause
  clauses_at ss n = option_map_or (λ (s : Outline). map (linked_clause ss n) s.clauses) (slice_get ss n) []

  at_same : (n : ℕ) → n < length f → clauses_at (f ++ o) n ≡ clauses_at f n
  unfolding clauses_at
  at_same n l =
      ap (λ (g : VariableClause → LinkedClause). option_map_or (λ (s : Outline). map g s.clauses) (slice_get (f ++ o) n) []) (linked_same n l)
      ∙ ap (λ (s : Option Outline). option_map_or (λ (s : Outline). map (linked_clause f n) s.clauses) s []) (keeps.outlines n l)

  at_none : (n : ℕ) → length f ≤ n → clauses_at (f ++ o) n ≡ []
  unfolding clauses_at
  at_none n le = by (slice_get (f ++ o) n) refl
    where
      by : (s : Option Outline) → slice_get (f ++ o) n ≡ s → option_map_or (λ (s : Outline). map (linked_clause (f ++ o) n) s.clauses) s [] ≡ []
      by None e = refl
      by (Some s) e = ap (map (linked_clause (f ++ o) n)) (keeps.no_clause n s le e)

  step : (ss : List Outline) (n : ℕ) → clauses_before ss (suc n) ≡ clauses_before ss n ++ clauses_at ss n
  unfolding clauses_at
  step ss n = refl

  pub front_clauses : clauses_of (f ++ o) ≡ clauses_of f
  front_clauses =
      let many : length (f ++ o) ≡ length o + length f = omega (arith, length-append f o) in
      ap (clauses_before (f ++ o)) many
      ∙ grown_past (clauses_before f) (clauses_before (f ++ o)) (length f) (clauses_at (f ++ o)) (step (f ++ o)) at_none (length o)
      ∙ grown_alike (clauses_before f) (clauses_before (f ++ o)) (length f) refl (clauses_at (f ++ o)) (clauses_at f) (step (f ++ o)) (step f) at_same (length f) (omega arith)

  -- ---- what they name is among what the items in front declare

  abbrev pub IsThere : Option ℕ → Type 0
  IsThere n = IfSome n (λ (k : ℕ). k < length (entries f))

  abbrev AreThere : LinkedClause → Type 0
  AreThere c = IsThere c.variable × IsThere c.flag

  clause_there : (i : ℕ) (c : VariableClause) → AreThere (linked_clause f i c)
  clause_there i c = (keeps.there i c.variable.name, by c.flag)
    where
      by : (m : Option NameRef) → IsThere (option_and_then (λ (m : NameRef). resolve_in f i m.name) m)
      by None = tt
      by (Some m) = keeps.there i m.name

  clauses_there : (n : ℕ) → AllByRecursion AreThere (clauses_before f n)
  clauses_there zero = tt
  clauses_there (suc n) = each_append AreThere (clauses_before f n) (option_map_or (λ (s : Outline). map (linked_clause f n) s.clauses) (slice_get f n) []) (clauses_there n) (by (slice_get f n))
    where
      by : (s : Option Outline) → AllByRecursion AreThere (option_map_or (λ (s : Outline). map (linked_clause f n) s.clauses) s [])
      by None = tt
      by (Some s) = each_map AreThere (linked_clause f n) s.clauses (each_by (λ (c : VariableClause). AreThere (linked_clause f n c)) (clause_there n) s.clauses)

  -- ---- which of them are sound

  abbrev es : List Entry
  es = entries f

  abbrev es' : List Entry
  es' = entries (f ++ o)

  variable_same : (n : Option ℕ) → IsThere n → variable_at es' n ≡ variable_at es n
  variable_same None there = refl
  variable_same (Some number) there = ap (option_and_then (λ (e : Entry). e.variable)) (keeps.got number there)

  sound_by : List LinkedClause → List LinkedClause → LinkedClause → Option Variable → Option Variable → Bool
  sound_by cs sound c v w =
      not (option_map_or is_error (option_map_or (code_on cs sound c) v (Some E11)) false) && not (is_some c.clause.flag && not (option_map_or (λ (v : Variable). is_event_flag v.symbol_kind) w false))

  is_sound_same : (cs sound : List LinkedClause) (c : LinkedClause) → AreThere c → is_sound es' cs sound c ≡ is_sound es cs sound c
  unfolding sound_by
  is_sound_same cs sound c there = ap₂ (sound_by cs sound c) (variable_same c.variable there.0) (variable_same c.flag there.1)

  soundness_same : (cs sound ds : List LinkedClause) → AllByRecursion AreThere ds → soundness_after es' cs sound ds ≡ soundness_after es cs sound ds
  soundness_same cs sound [] h = refl
  soundness_same cs sound (d ∷ ds) h =
      ap (λ (b : Bool). b ∷ soundness_after es' cs (if b then sound ++ d ∷ [] else sound) ds) (is_sound_same cs sound d h.0)
      ∙ ap (λ (l : List Bool). is_sound es cs sound d ∷ l) (soundness_same cs (if is_sound es cs sound d then sound ++ d ∷ [] else sound) ds h.1)

  sound_same : (cs sound ds : List LinkedClause) → AllByRecursion AreThere ds → sound_after es' cs sound ds ≡ sound_after es cs sound ds
  sound_same cs sound [] h = refl
  sound_same cs sound (d ∷ ds) h =
      ap (λ (b : Bool). sound_after es' cs (if b then sound ++ d ∷ [] else sound) ds) (is_sound_same cs sound d h.0)
      ∙ sound_same cs (if is_sound es cs sound d then sound ++ d ∷ [] else sound) ds h.1

  front_soundness : soundness (f ++ o) ≡ soundness f
  front_soundness = ap (λ (cs : List LinkedClause). soundness_after es' cs [] cs) front_clauses ∙ soundness_same (clauses_of f) [] (clauses_of f) (clauses_there (length f))

  front_sound : sound_clauses (f ++ o) ≡ sound_clauses f
  front_sound = ap (λ (cs : List LinkedClause). sound_after es' cs [] cs) front_clauses ∙ sound_same (clauses_of f) [] (clauses_of f) (clauses_there (length f))

  -- ---- what links say of them

  pub front_links : clause_links (f ++ o) ≡ clause_links f
  front_links = ap₂ (λ (cs : List LinkedClause) (bs : List Bool). map (λ (p : LinkedClause × Bool). clause_link p.0 p.1) (zip cs bs)) front_clauses front_soundness

  pub front_monitored : (variable : ℕ) (element : Option ℕ) → is_monitored (f ++ o) variable element ≡ is_monitored f variable element
  front_monitored variable element = ap (list_any (λ (c : LinkedClause). is_monitor c.clause.kind && speaks_on variable element c)) front_sound

  pub front_sync : (variable : ℕ) (element : Option ℕ) → sync_number (f ++ o) variable element ≡ sync_number f variable element
  front_sync variable element =
      ap₂ (λ (cs : List LinkedClause) (bs : List Bool). position (λ (p : LinkedClause × Bool). p.1 && is_sync p.0.clause.kind && speaks_on variable element p.0) (zip cs bs)) front_clauses front_soundness

  pub links_there : AllByRecursion (λ (l : ClauseLink). IsThere l.variable) (clause_links f)
  links_there =
      each_map (λ (l : ClauseLink). IsThere l.variable) (λ (p : LinkedClause × Bool). clause_link p.0 p.1) (zip (clauses_of f) (soundness f))
      (each_weaker (λ (p : LinkedClause × Bool). AreThere p.0) (λ (p : LinkedClause × Bool). IsThere (clause_link p.0 p.1).variable) (λ p h. h.0) (zip (clauses_of f) (soundness f))
      (each_beside AreThere (clauses_of f) (soundness f) (clauses_there (length f))))
