-- Whether an item sees of the others by some links what it sees by other ones.
use Rattle.std.specs.Prelude.{ℕ, Bool, true, false, ◌&&◌, List, nat_eq, Option, None, Some, is_some}
use Rattle.std.specs.List.{list_all}
use Rattle.snl_scope.specs.declared.facts.Assigned.{Assigned}
use Rattle.snl_scope.specs.declared.facts.Assigned.TheVariants as assigned
use Rattle.snl_scope.specs.declared.facts.NameKind.{NameKind}
use Rattle.snl_scope.specs.declared.facts.NameKind.TheVariants as name_kind
use Rattle.snl_scope.specs.declared.facts.Fact.{Fact}
use Rattle.snl_scope.specs.declared.facts.Level.{Level}
use Rattle.snl_scope.specs.declared.facts.Level.TheVariants as level
use Rattle.snl_summary.specs.declared.summary.Dims.{Dims}
use Rattle.snl_summary.specs.declared.summary.Dims.TheVariants as dims
use Rattle.snl_summary.specs.declared.summary.Outline.{Outline}
use Rattle.snl_summary.specs.declared.summary.Summary.{Summary}
use Rattle.snl_scope.specs.Linked.{fact_of, has_target}
use Rattle.snl_scope.specs.Places.{enclosing_set}

abbrev pub same_bool : Bool → Bool → Bool
same_bool true true = true
same_bool false false = true
same_bool _ _ = false

abbrev pub same_dims : Dims → Dims → Bool
same_dims dims.Plain dims.Plain = true
same_dims (dims.Known a) (dims.Known b) = nat_eq a b
same_dims dims.Unknown dims.Unknown = true
same_dims _ _ = false

abbrev pub same_level : Level → Level → Bool
same_level level.Program level.Program = true
same_level level.StateSet level.StateSet = true
same_level _ _ = false

abbrev pub same_name_kind : NameKind → NameKind → Bool
same_name_kind name_kind.EventFlag name_kind.EventFlag = true
same_name_kind name_kind.Foreign name_kind.Foreign = true
same_name_kind name_kind.Function name_kind.Function = true
same_name_kind name_kind.Other name_kind.Other = true
same_name_kind _ _ = false

abbrev pub same_assigned : Assigned → Assigned → Bool
same_assigned assigned.Unassigned assigned.Unassigned = true
same_assigned assigned.Whole assigned.Whole = true
same_assigned assigned.Elements assigned.Elements = true
same_assigned _ _ = false

abbrev pub same_facts : Fact → Fact → Bool
same_facts a b = same_dims a.dims b.dims && same_level a.level b.level && same_name_kind a.kind b.kind && same_assigned a.assigned b.assigned

-- The same is known of a name.
abbrev pub same_known : Option Fact → Option Fact → Bool
same_known None None = true
same_known (Some a) (Some b) = same_facts a b
same_known _ _ = false

-- Item i among some items sees what item j sees among others, both with this summary.
abbrev pub same_view : List Outline → ℕ → List Outline → ℕ → Summary → Bool
same_view ss i ts j s =
    same_bool (is_some (enclosing_set ss i)) (is_some (enclosing_set ts j))
    && list_all (λ name. same_known (fact_of ss i name) (fact_of ts j name)) s.uses
    && list_all (λ t. same_bool (has_target ss i t.name) (has_target ts j t.name)) s.targets
