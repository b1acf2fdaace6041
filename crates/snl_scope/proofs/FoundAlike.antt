-- Clauses are what they were, and as much is found, where an item says by other names what the one
-- before it said, and no clause is on such a name.
use Rattle.std.proofs.Common.{◌≡◌, ℕ, ◌+◌, Bool, true, false, List, [], ◌∷◌, ◌++◌, length, map, take, drop, Option, Some, slice_get, refl, sym, ap, ap₂, subst, ◌∙◌, arith}
use Rattle.std.specs.List.{zip}
use Rattle.std.specs.Option.{option_map_or}
use Rattle.std.proofs.lemmas.List.{length-take-le}
use Rattle.std.proofs.lemmas.Option.{option_and_then_some, slice_get_within}
use Rattle.snl_facts.specs.Lists.{put_back}
use Rattle.snl_scope.specs.declared.renamed.Renaming.{Renaming}
use Rattle.snl_scope.specs.declared.renamed.Renaming.TheVariants as renaming
use Rattle.snl_summary.specs.declared.summary.ItemKind.{ItemKind}
use Rattle.snl_summary.specs.declared.summary.Opening.{Opening}
use Rattle.snl_summary.specs.declared.summary.Opening.TheVariants as opening
use Rattle.snl_summary.specs.declared.summary.Outline.{Outline}
use Rattle.snl_scope.specs.Clauses.{LinkedClause, clause_link}
use Rattle.snl_scope.specs.Flags.{flags_of}
use Rattle.snl_scope.specs.Linked.{state_of}
use Rattle.snl_scope.specs.Order.{is_program_word, is_ss_word, is_state_word}
use Rattle.snl_scope.specs.Places.{ends_set}
use Rattle.snl_scope.specs.Renamed.{AreNames, AreOffClauses, ClausesAlike, DeclaresAnew, FindsAlike, IsRenamed, MeanAlike, NamesAnew, some_is_on, state_names}
use Rattle.snl_scope.proofs.AlikeClauses.{are_alike}
use Rattle.snl_scope.proofs.NewNames as declared
use Rattle.snl_scope.proofs.NewStateNames as state
use Rattle.snl_scope.proofs.OneReplaced.{SayAlike, at_each, both_spoken}
use Rattle.snl_scope.proofs.StayingClauses.{clause_faults_same, clauses_stay, none_is_on, soundness_same}
use Rattle.snl_scope.proofs.StayingOrder.{AreOrderedAlike, order_stays}

module _ (before : List Outline) (old new : Outline) (after : List Outline) (used led_to : List (List ℕ)) (alike : SayAlike old new used led_to)
    (was_clauses : old.clauses ≡ []) (is_clauses : new.clauses ≡ []) (word : new.opening ≡ old.opening) where
  abbrev ss : List Outline
  ss = before ++ (old ∷ after)

  abbrev ts : List Outline
  ts = before ++ (new ∷ after)

  module _ (means : MeanAlike ss ts used led_to) (free : some_is_on used ss ≡ false) where
    each : {A : Type 0} (f : Option Outline → A) (i : ℕ) → f (Some new) ≡ f (Some old) → f (slice_get ts i) ≡ f (slice_get ss i)
    each f i same = at_each before old new after used led_to alike f i (λ here. same)

    ordered : AreOrderedAlike ss ts
    ordered = record {
      count = means.count;
      places = means.places;
      begins = means.begins;
      ends = λ i. each (λ (o : Option Outline). option_map_or (λ s. ends_set s.role) o false) i (ap ends_set alike.role);
      programs = λ i. each (λ (o : Option Outline). option_map_or (λ s. is_program_word s.opening) o false) i (ap is_program_word word);
      sets = λ i. each (λ (o : Option Outline). option_map_or (λ s. is_ss_word s.opening) o false) i (ap is_ss_word word);
      states = means.named;
    }

    found_alike : FindsAlike ss ts
    found_alike = record {
      clauses = clauses_stay before old new after used led_to alike was_clauses is_clauses means free;
      sound = soundness_same before old new after used led_to alike was_clauses is_clauses means free;
      at_clauses = clause_faults_same before old new after used led_to alike was_clauses is_clauses means free;
      order = λ ks. order_stays ss ts ordered ks;
    }

is_state_opening : (o : Opening) → is_state_word o ≡ true → o ≡ opening.State
is_state_opening opening.State h = refl
is_state_opening opening.Program h = absurd cc
is_state_opening opening.Ss h = absurd cc
is_state_opening opening.Other h = absurd cc

pub declared_finds : (before : List Outline) (old new : Outline) (after : List Outline) → DeclaresAnew old new → new.opening ≡ old.opening
    → some_is_on (both_spoken old new) (before ++ (old ∷ after)) ≡ false → FindsAlike (before ++ (old ∷ after)) (before ++ (new ∷ after))
declared_finds before old new after anew word free =
    found_alike before old new after (both_spoken old new) [] (declared.say_alike old new anew) anew.was.no_clause anew.is.no_clause word
    (declared.declares_alike old new anew before after) free

pub state_finds : (before : List Outline) (old new : Outline) (after : List Outline) → NamesAnew (before ++ (old ∷ after)) (before ++ (new ∷ after)) (length before) old new
    → FindsAlike (before ++ (old ∷ after)) (before ++ (new ∷ after))
state_finds before old new after anew =
    option_and_then_some (state_of (before ++ (old ∷ after)) (length before)) old.second (length before) anew.was_own (λ a was was_own.
    option_and_then_some (state_of (before ++ (new ∷ after)) (length before)) new.second (length before) anew.is_own (λ b is is_own.
    found_alike before old new after [] (state_names old new) (state.say_alike old new anew.renames a b was is) anew.renames.was_clauses anew.renames.is_clauses
    (is_state_opening new.opening anew.renames.is_word ∙ sym (is_state_opening old.opening anew.renames.was_word))
    (state.renamed_alike before old new after anew) (none_is_on (before ++ (old ∷ after)))))

-- What links tell of clauses.
pub clauses_alike : (ss ts : List Outline) → FindsAlike ss ts → flags_of ts ≡ flags_of ss → ClausesAlike ss ts
clauses_alike ss ts found flags =
    are_alike ss ts (ap₂ (λ (cs : List LinkedClause) (bs : List Bool). map (λ (p : LinkedClause × Bool). clause_link p.0 p.1) (zip cs bs)) found.clauses found.sound) flags

-- ---- at a place

abbrev pub kinds_by : List ItemKind → ℕ → ItemKind → List ItemKind
kinds_by ks k kind = take k ks ++ (kind ∷ drop (k + 1) ks)

pub kept_kinds : (ks : List ItemKind) (k : ℕ) (kind : ItemKind) → slice_get ks k ≡ Some kind → kinds_by ks k kind ≡ ks
kept_kinds ks k kind at = sym (put_back ks k kind at)

module _ (ss ts : List Outline) (j : ℕ) (old new : Outline) (was : slice_get ss j ≡ Some old) (is : ts ≡ take j ss ++ (new ∷ drop (j + 1) ss)) (word : new.opening ≡ old.opening) where
  abbrev parts : Outline → List Outline
  parts o = take j ss ++ (o ∷ drop (j + 1) ss)

  were : ss ≡ parts old
  were = put_back ss j old was

  counted : length (take j ss) ≡ j
  counted = length-take-le j ss (omega (arith, slice_get_within ss j old was))

  in_place : FindsAlike (parts old) (parts new) → FindsAlike ss ts
  in_place found = subst (λ (os : List Outline). FindsAlike ss os) (sym is) (subst (λ (os : List Outline). FindsAlike os (parts new)) (sym were) found)

  pub finds_alike : (r : Renaming) (names : List (List ℕ)) → AreNames old new r names → AreOffClauses r names ss → IsRenamed ss ts j old new r → FindsAlike ss ts
  finds_alike renaming.Declared names edited free anew =
      in_place (declared_finds (take j ss) old new (drop (j + 1) ss) anew word
      (ap₂ (λ (ns : List (List ℕ)) (os : List Outline). some_is_on ns os) (sym edited.spoken) (sym were) ∙ free))
  finds_alike renaming.State names is_names free anew =
      in_place (state_finds (take j ss) old new (drop (j + 1) ss)
      (subst (λ (n : ℕ). NamesAnew (parts old) (parts new) n old new) (sym counted)
      (subst (λ (os : List Outline). NamesAnew (parts old) os j old new) is
      (subst (λ (os : List Outline). NamesAnew os ts j old new) were anew))))
