use Rattle.std.proofs.Common.{◌≡◌, true, false, is_some, sym, ap, ◌∙◌}
use Rattle.std.specs.List.{list_any}
use Rattle.std.specs.Str.{bytes_eq}
use Rattle.snl_facts.specs.Positions.{any_position}
use Rattle.snl_walk.proofs.Kept.{among_first, among_rest, has_name}
use Rattle.snl_walk.proofs.name_set.NameSet.contains.Goals as goal

pub returns-then-is_among : goal.returns-then-is_among
returns-then-is_among c =
    let name = c.args.name.now in
    let few = c.self.inside.few.items in
    let here : list_any (has_name name) few ≡ true = sym (c.is_among.ensures ∙ ap (list_any (has_name name)) c.deref.ensures.value) ∙ c.if-is_among.true in
    c.if-is_among.true ∙ sym (among_first name few c.self.inside.more here) ∙ ap (λ l. list_any (bytes_eq name) l) c.self.view_is

pub returns-else-is_among : goal.returns-else-is_among
returns-else-is_among c =
    let name = c.args.name.now in
    let few = c.self.inside.few.items in
    let away : list_any (has_name name) few ≡ false = sym (c.is_among.ensures ∙ ap (list_any (has_name name)) c.deref.ensures.value) ∙ c.if-is_among.false in
    c.is_some.ensures
    ∙ ap is_some c.number.ensures
    ∙ sym (any_position (bytes_eq name) c.self.inside.more)
    ∙ sym (among_rest name few c.self.inside.more away)
    ∙ ap (λ l. list_any (bytes_eq name) l) c.self.view_is
