-- Two views are equal exactly where they are told to be the same.
use Rattle.std.proofs.Common.{◌≡◌, ◌↔◌, ℕ, Bool, true, false, ◌&&◌, IsTrue, List, [], ◌∷◌, map, nat_eq, Option, None, Some, is_some, refl, sym, ap, ap₂, subst, ◌∙◌, true≢false}
use Rattle.std.specs.List.{list_all}
use Rattle.std.proofs.lemmas.Bool.Decides.{Decides-eqb}
use Rattle.std.proofs.lemmas.Bool.{and_parts}
use Rattle.snl_scope.specs.declared.facts.Assigned.{Assigned}
use Rattle.snl_scope.specs.declared.facts.Assigned.TheVariants as assigned
use Rattle.snl_scope.specs.declared.facts.NameKind.{NameKind}
use Rattle.snl_scope.specs.declared.facts.NameKind.TheVariants as name_kind
use Rattle.snl_scope.specs.declared.facts.Fact.{Fact}
use Rattle.snl_scope.specs.declared.facts.Level.{Level}
use Rattle.snl_scope.specs.declared.facts.Level.TheVariants as level
use Rattle.snl_summary.specs.declared.summary.Dims.{Dims}
use Rattle.snl_summary.specs.declared.summary.Dims.TheVariants as dims
use Rattle.snl_summary.specs.declared.summary.Outline.{Outline}
use Rattle.snl_summary.specs.declared.summary.Summary.{Summary}
use Rattle.snl_scope.specs.Linked.{fact_of, has_target}
use Rattle.snl_scope.specs.Places.{enclosing_set}
use Rattle.snl_scope.specs.View.{view}
use Rattle.snl_views.specs.SameView.{same_assigned, same_name_kind, same_bool, same_dims, same_facts, same_known, same_level, same_view}

nat_same : (a : ℕ) → nat_eq a a ≡ true
nat_same a = (Decides-eqb a a).1 refl

bool_equal : (a b : Bool) → same_bool a b ≡ true → a ≡ b
bool_equal true true h = refl
bool_equal false false h = refl
bool_equal true false h = absurd (true≢false (sym h))
bool_equal false true h = absurd (true≢false (sym h))

bool_same : (a : Bool) → same_bool a a ≡ true
bool_same true = refl
bool_same false = refl

dims_equal : (a b : Dims) → same_dims a b ≡ true → a ≡ b
dims_equal dims.Plain dims.Plain h = refl
dims_equal (dims.Known a) (dims.Known b) h = ap dims.Known ((Decides-eqb a b).0 h)
dims_equal dims.Unknown dims.Unknown h = refl
dims_equal _ _ h = absurd (true≢false (sym h))

dims_same : (a : Dims) → same_dims a a ≡ true
dims_same dims.Plain = refl
dims_same (dims.Known a) = nat_same a
dims_same dims.Unknown = refl

level_equal : (a b : Level) → same_level a b ≡ true → a ≡ b
level_equal level.Program level.Program h = refl
level_equal level.StateSet level.StateSet h = refl
level_equal _ _ h = absurd (true≢false (sym h))

level_same : (a : Level) → same_level a a ≡ true
level_same level.Program = refl
level_same level.StateSet = refl

name_kind_equal : (a b : NameKind) → same_name_kind a b ≡ true → a ≡ b
name_kind_equal name_kind.EventFlag name_kind.EventFlag h = refl
name_kind_equal name_kind.Foreign name_kind.Foreign h = refl
name_kind_equal name_kind.Function name_kind.Function h = refl
name_kind_equal name_kind.Other name_kind.Other h = refl
name_kind_equal _ _ h = absurd (true≢false (sym h))

name_kind_same : (a : NameKind) → same_name_kind a a ≡ true
name_kind_same name_kind.EventFlag = refl
name_kind_same name_kind.Foreign = refl
name_kind_same name_kind.Function = refl
name_kind_same name_kind.Other = refl

assigned_equal : (a b : Assigned) → same_assigned a b ≡ true → a ≡ b
assigned_equal assigned.Unassigned assigned.Unassigned h = refl
assigned_equal assigned.Whole assigned.Whole h = refl
assigned_equal assigned.Elements assigned.Elements h = refl
assigned_equal _ _ h = absurd (true≢false (sym h))

assigned_same : (a : Assigned) → same_assigned a a ≡ true
assigned_same assigned.Unassigned = refl
assigned_same assigned.Whole = refl
assigned_same assigned.Elements = refl

facts_equal : (a b : Fact) → same_facts a b ≡ true → a ≡ b
facts_equal a b h =
    let last = and_parts (same_dims a.dims b.dims && same_level a.level b.level && same_name_kind a.kind b.kind) (same_assigned a.assigned b.assigned) h in
    let third = and_parts (same_dims a.dims b.dims && same_level a.level b.level) (same_name_kind a.kind b.kind) last.0 in
    let first = and_parts (same_dims a.dims b.dims) (same_level a.level b.level) third.0 in
    λ j. record {
      dims = dims_equal a.dims b.dims first.0 j;
      level = level_equal a.level b.level first.1 j;
      kind = name_kind_equal a.kind b.kind third.1 j;
      assigned = assigned_equal a.assigned b.assigned last.1 j;
    }

facts_same : (a : Fact) → same_facts a a ≡ true
facts_same a =
    ap (λ b. b && same_level a.level a.level && same_name_kind a.kind a.kind && same_assigned a.assigned a.assigned) (dims_same a.dims)
    ∙ ap (λ b. b && same_name_kind a.kind a.kind && same_assigned a.assigned a.assigned) (level_same a.level)
    ∙ ap (λ b. b && same_assigned a.assigned a.assigned) (name_kind_same a.kind) ∙ assigned_same a.assigned

pub known_equal : (a b : Option Fact) → same_known a b ≡ true → a ≡ b
known_equal None None h = refl
known_equal (Some a) (Some b) h = ap Some (facts_equal a b h)
known_equal None (Some b) h = absurd (true≢false (sym h))
known_equal (Some a) None h = absurd (true≢false (sym h))

known_same : (a : Option Fact) → same_known a a ≡ true
known_same None = refl
known_same (Some a) = facts_same a

-- two accounts say the same of each in a list
module _ {X A : Type 0} (same : A → A → Bool) (equal : (a b : A) → same a b ≡ true → a ≡ b) (itself : (a : A) → same a a ≡ true) (f g : X → A) where
  all_equal : (xs : List X) → list_all (λ x. same (f x) (g x)) xs ≡ true → map f xs ≡ map g xs
  all_equal [] h = refl
  all_equal (x ∷ xs) h =
      let parts = and_parts (same (f x) (g x)) (list_all (λ x. same (f x) (g x)) xs) h in
      ap₂ (λ (a : A) (rest : List A). a ∷ rest) (equal (f x) (g x) parts.0) (all_equal xs parts.1)

  all_same : (xs : List X) → map f xs ≡ map g xs → list_all (λ x. same (f x) (g x)) xs ≡ true
  all_same [] h = refl
  all_same (x ∷ xs) h =
      let here : f x ≡ g x = cc in
      let rest : map f xs ≡ map g xs = cc in
      ap (λ b. b && list_all (λ x. same (f x) (g x)) xs) (subst (λ a. same (f x) a ≡ true) here (itself (f x))) ∙ all_same xs rest

module _ (ss : List Outline) (i : ℕ) (ts : List Outline) (j : ℕ) (s : Summary) where
  abbrev placed : Bool
  placed = same_bool (is_some (enclosing_set ss i)) (is_some (enclosing_set ts j))

  abbrev known : Bool
  known = list_all (λ name. same_known (fact_of ss i name) (fact_of ts j name)) s.uses

  abbrev led : Bool
  led = list_all (λ t. same_bool (has_target ss i t.name) (has_target ts j t.name)) s.targets

  view_from : same_view ss i ts j s ≡ true → view ss i s ≡ view ts j s
  view_from h =
      let last = and_parts (placed && known) led h in
      let first = and_parts placed known last.0 in
      let place_is : is_some (enclosing_set ss i) ≡ is_some (enclosing_set ts j) = bool_equal (is_some (enclosing_set ss i)) (is_some (enclosing_set ts j)) first.0 in
      let facts_are = all_equal same_known known_equal known_same (λ name. fact_of ss i name) (λ name. fact_of ts j name) s.uses first.1 in
      let leads_are = all_equal same_bool bool_equal bool_same (λ t. has_target ss i t.name) (λ t. has_target ts j t.name) s.targets last.1 in
      λ d. record { in_set = place_is d; facts = facts_are d; leads = leads_are d }

  view_to : view ss i s ≡ view ts j s → same_view ss i ts j s ≡ true
  view_to h =
      let place_is : placed ≡ true = subst (λ b. same_bool (is_some (enclosing_set ss i)) b ≡ true) (ap (λ v. v.in_set) h) (bool_same (is_some (enclosing_set ss i))) in
      let facts_are : known ≡ true = all_same same_known known_equal known_same (λ name. fact_of ss i name) (λ name. fact_of ts j name) s.uses (ap (λ v. v.facts) h) in
      let leads_are : led ≡ true = all_same same_bool bool_equal bool_same (λ t. has_target ss i t.name) (λ t. has_target ts j t.name) s.targets (ap (λ v. v.leads) h) in
      ap (λ b. b && known && led) place_is ∙ ap (λ b. b && led) facts_are ∙ leads_are

  pub view-equal : IsTrue (same_view ss i ts j s) ↔ (view ss i s ≡ view ts j s)
  view-equal = (view_from, view_to)
