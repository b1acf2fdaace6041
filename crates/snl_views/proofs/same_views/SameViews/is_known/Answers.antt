use Rattle.std.proofs.Common.{◌≡◌, ℕ, List, Option, arith, ap, length, subst, ◌∙◌}
use Rattle.snl_scope.specs.Places.{enclosing_set}
use Rattle.snl_scope.specs.declared.names.namespaces.Namespace.TheVariants as namespace
use Rattle.snl_summary.specs.declared.summary.Outline.{Outline}
use Rattle.snl_views.specs.SameMeanings.{MeansTheSame, SamePlace}
use Rattle.snl_views.proofs.SameMeanings.{views_alike}
use Rattle.snl_views.proofs.same_views.SameViews.is_known.Goals as goal

pub returns : goal.returns
returns c = λ yes s.
    let seen = c.self.view_is in
    let before : List Outline = c.args.self.now.before in
    let after : List Outline = c.args.self.now.after in
    let program : MeansTheSame before namespace.Program after namespace.Program =
    subst (λ v. MeansTheSame v.before namespace.Program v.after namespace.Program) seen (c.self.invariant.in_program c.if-not-self.false) in
    let old : c.enclosing_set.result ≡ enclosing_set before c.args.item_before = c.enclosing_set.ensures ∙ ap (λ v. enclosing_set v.before c.args.item_before) seen in
    let new : c.enclosing_set-2.result ≡ enclosing_set after c.args.item = c.enclosing_set-2.ensures ∙ ap (λ v. enclosing_set v.after c.args.item) seen in
    let place : SamePlace before (enclosing_set before c.args.item_before) after (enclosing_set after c.args.item) =
    subst (λ (p : Option ℕ). SamePlace before p after (enclosing_set after c.args.item)) old
    (subst (λ (q : Option ℕ). SamePlace before c.enclosing_set.result after q) new (c.is_known_place.ensures yes)) in
    let many = ap (λ v. length v.before) seen in
    let many-2 = ap (λ v. length v.after) seen in
    views_alike before after program c.args.item_before c.args.item
    (omega (arith, many, c.item_count.ensures, c.if-item_before-item_count.false))
    (omega (arith, many-2, c.item_count-else-item_before-item_count.ensures, c.if-item-item_count.false))
    place s
