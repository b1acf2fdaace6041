use Rattle.std.proofs.Common.{◌≡◌, ◌<◌, ◌↔◌, ℕ, Bool, true, false, not, if◌then◌else◌, List, length, refl, sym, subst}
use Rattle.std.proofs.lemmas.List.{length-map}
use Rattle.snl_summary.specs.declared.summary.Outline.{Outline}
use Rattle.snl_item_check.specs.Items.{ProgramItem}
use Rattle.snl_scope.specs.Linked.{is_first_state}
use Rattle.snl_check.specs.Members.{has_faulty, is_faulty_item, states_in, target_numbers, targets_among}
use Rattle.snl_check.specs.Reach.{AreStates, IsReached, is_reached}
use Rattle.snl_check.specs.States.{is_reached_in, is_repeated, mark_of}
use Rattle.snl_moved.specs.Unreached.{IsUnreached}
use Rattle.snl_tables.specs.declared.rows.StateMark.{StateMark}
use Rattle.snl_tables.specs.declared.rows.StateMark.TheVariants.{Faulty, Repeated, Unknown, Reached, Unreached}
use Rattle.snl_check.specs.SetsLaws.{targets_are_states}
use Rattle.snl_moved.proofs.laws.unreached_without_a_walk.Goals as goal

-- The last of the marks is given where none of the tests holds.
abbrev pub last_mark : Bool → Bool → Bool → Bool → StateMark
last_mark faulty repeated unknown reached =
    if faulty then Faulty else if repeated then Repeated else if unknown then Unknown else if reached then Reached else Unreached

none_holds : (f r h w : Bool) → last_mark f r h w ≡ Unreached → (f ≡ false) × (r ≡ false) × (h ≡ false) × (w ≡ false)
none_holds true r h w e = cc
none_holds false true h w e = cc
none_holds false false true w e = cc
none_holds false false false true e = cc
none_holds false false false false e = (refl, refl, refl, refl)

last_where : (f r h w : Bool) → f ≡ false → r ≡ false → h ≡ false → w ≡ false → last_mark f r h w ≡ Unreached
last_where false false false false a b c d = refl
last_where true r h w a b c d = cc
last_where false true h w a b c d = cc
last_where false false true w a b c d = cc
last_where false false false true a b c d = cc

not_false : (b : Bool) → not b ≡ false → b ≡ true
not_false true e = refl
not_false false e = cc

not_true : (b : Bool) → b ≡ true → not b ≡ false
not_true true e = refl
not_true false e = cc

never : {b : Bool} → b ≡ true → b ≡ false → ⊥
never h e = cc

false_unless : (b : Bool) → (b ≡ true → ⊥) → b ≡ false
false_unless true h = absurd (h refl)
false_unless false h = refl

-- the law of walks of few steps
abbrev WalksAreShort : Type 0
WalksAreShort = (targets : List (List ℕ)) → AreStates targets → (s : ℕ) → s < length targets → (is_reached targets s ≡ true) ↔ IsReached targets s

module _ (law : WalksAreShort) (text : List ℕ) (xs : List ProgramItem) (ss : List Outline) (k number j : ℕ) (l : number < length (states_in ss k)) where
  walks : (is_reached_in text xs ss k number ≡ true) ↔ IsReached (targets_among text xs ss (states_in ss k)) number
  walks = law (targets_among text xs ss (states_in ss k)) (targets_are_states text xs ss (states_in ss k)) number
      (subst (λ n. number < n) (sym (length-map (states_in ss k) (target_numbers text xs ss (states_in ss k)))) l)

  without_walk : mark_of text xs ss k number j ≡ Unreached → IsUnreached text xs ss k number j
  without_walk e =
      let none = none_holds (is_faulty_item xs j) (is_repeated ss j) (has_faulty xs ss k) (is_reached_in text xs ss k number) e in
      record {
        sound = none.0;
        first = not_false (is_first_state ss j) none.1;
        known = none.2;
        no_walk = λ walk. never (walks.1 walk) none.3;
      }

  unreached : IsUnreached text xs ss k number j → mark_of text xs ss k number j ≡ Unreached
  unreached is =
      last_where (is_faulty_item xs j) (is_repeated ss j) (has_faulty xs ss k) (is_reached_in text xs ss k number)
      is.sound (not_true (is_first_state ss j) is.first) is.known (false_unless (is_reached_in text xs ss k number) (λ reached. is.no_walk (walks.0 reached)))

pub returns : goal.returns
returns c = λ text xs ss k number j l. (without_walk c.walks_of_few_steps.ensures text xs ss k number j l, unreached c.walks_of_few_steps.ensures text xs ss k number j l)
