-- What the occurrences of an item say to others: the names that it uses, the states that it leads
-- to, and what its conditions mean.
use Rattle.std.specs.Prelude.{ℕ, ◌+◌, Bool, true, false, not, ◌&&◌, filter, List, [], ◌∷◌, ◌++◌, map, Option, Some, None, if◌then◌else◌}
use Rattle.std.specs.List.{filter_map}
use Rattle.snl_lex.specs.Numbers.{int_value_of}
use Rattle.snl_walk.specs.declared.occurrence.Follows.{Follows}
use Rattle.snl_walk.specs.declared.occurrence.Follows.TheVariants as follows
use Rattle.snl_walk.specs.declared.occurrence.Manner.{Manner}
use Rattle.snl_walk.specs.declared.occurrence.Occurrence.{Occurrence}
use Rattle.snl_walk.specs.declared.occurrence.What.{What}
use Rattle.snl_walk.specs.declared.occurrence.What.TheVariants as what
use Rattle.snl_walk.specs.declared.used.TargetUse.{TargetUse}
use Rattle.snl_walk.specs.declared.used.WakeUse.{WakeUse}

-- Where occurrences are that pass a test.
abbrev pub tokens_where : (Occurrence → Bool) → List Occurrence → List ℕ
tokens_where test found = map (λ o. o.token) (filter test found)

abbrev pub is_call : Follows → Bool
is_call follows.Call = true
is_call _ = false

-- A subscript that is an integer alone follows.
abbrev pub is_index : Follows → Bool
is_index follows.Index = true
is_index _ = false

abbrev pub is_indexed : What → Bool
is_indexed (what.Name m) = is_index m.follows
is_indexed _ = false

-- A name is used where it is in an expression and isn't called.
abbrev pub is_use : What → Bool
is_use (what.Name m) = not (is_call m.follows)
is_use _ = false

-- The uses of names, whatever they resolve to.
abbrev pub uses : List Occurrence → List ℕ
uses found = tokens_where (λ o. is_use o.what) found

abbrev pub is_target : What → Bool
is_target what.Target = true
is_target _ = false

-- The names of the states that the item leads to.
abbrev pub targets : List Occurrence → List ℕ
targets found = tokens_where (λ o. is_target o.what) found

-- The word of `state NAME;` in the block of a transition: the name follows it.
abbrev pub leads_on : What → Bool
leads_on (what.Change in_transition) = in_transition
leads_on _ = false

abbrev pub target_use : ℕ → Bool → TargetUse
target_use token by_statement = record { token = token; by_statement = by_statement }

-- The targets among occurrences, where it is known of the one before whether it leads on.
abbrev pub target_uses_after : Bool → List Occurrence → List TargetUse
target_uses_after led [] = []
target_uses_after led (o ∷ os) = (if is_target o.what then target_use o.token led ∷ [] else []) ++ target_uses_after (leads_on o.what) os

-- The targets, each with whether a statement `state NAME;` names it, else a transition.
abbrev pub target_uses : List Occurrence → List TargetUse
target_uses found = target_uses_after false found

-- The subscript of a use, where it is an integer alone: this is the second token after the name.
abbrev pub subscript_at : (ℕ → List ℕ) → ℕ → Follows → Option ℕ
subscript_at bytes token follows.Index = int_value_of (bytes (token + 2))
subscript_at bytes token _ = None

abbrev pub wake_use : (ℕ → List ℕ) → ℕ → Manner → WakeUse
wake_use bytes token m = record { token = token; subscript = subscript_at bytes token m.follows }

-- A use in the condition of a transition, with its subscript.
abbrev pub waking : (ℕ → List ℕ) → ℕ → What → Option WakeUse
waking bytes token (what.Name m) = if m.in_condition && not (is_call m.follows) then Some (wake_use bytes token m) else None
waking bytes token _ = None

-- The uses in the conditions of a state: what can wake it.
abbrev pub wake_uses : (ℕ → List ℕ) → List Occurrence → List WakeUse
wake_uses bytes found = filter_map (λ o. waking bytes o.token o.what) found
