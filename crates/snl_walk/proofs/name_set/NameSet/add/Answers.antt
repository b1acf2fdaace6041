use Rattle.std.proofs.Common.{◌≡◌, [], true, false, not, List, ℕ, sym, ap, ◌∙◌, ◌++◌}
use Rattle.std.specs.List.{list_any}
use Rattle.std.specs.Str.{bytes_eq}
use Rattle.std.proofs.lemmas.List.{nil_from_length}
use Rattle.snl_walk.specs.Once.{with_new}
use Rattle.snl_walk.proofs.Kept.{among_first, among_rest, first_again, first_push, grows, has_name, names_of, rest_push}
use Rattle.snl_walk.proofs.name_set.NameSet.add.Goals as goal

pub returns-then-is_among-clause-names : goal.returns-then-is_among-clause-names
returns-then-is_among-clause-names c =
    let name = c.args.name.now in
    let few = c.self.inside.few.items in
    let here : list_any (has_name name) few ≡ true = sym (c.is_among.ensures ∙ ap (list_any (has_name name)) c.deref.ensures.value) ∙ c.if-is_among.true in
    sym c.self.view_is ∙ first_again few c.self.inside.more name here ∙ ap (λ l. with_new l name) c.self.view_is

pub returns-then-is_among-clause-added : goal.returns-then-is_among-clause-added
returns-then-is_among-clause-added c =
    let name = c.args.name.now in
    let few = c.self.inside.few.items in
    let here : list_any (has_name name) few ≡ true = sym (c.is_among.ensures ∙ ap (list_any (has_name name)) c.deref.ensures.value) ∙ c.if-is_among.true in
    sym (ap not (among_first name few c.self.inside.more here)) ∙ ap (λ l. not (list_any (bytes_eq name) l)) c.self.view_is

pub returns-then-known-eq0-clause-names : goal.returns-then-known-eq0-clause-names
returns-then-known-eq0-clause-names c =
    let name = c.args.name.now in
    let few = c.self.inside.few.items in
    let more = c.self.inside.more in
    let away : list_any (has_name name) few ≡ false = sym (c.is_among.ensures ∙ ap (list_any (has_name name)) c.deref.ensures.value) ∙ c.if-is_among.false in
    let none : more ≡ [] = nil_from_length more (sym c.count-known.ensures ∙ c.if-known-eq0.true) in
    ap (λ l. names_of l ++ more) c.in_ok-push.ensures.items
    ∙ first_push few more c.args.name away none
    ∙ ap (λ l. with_new l name) c.self.view_is

pub returns-then-known-eq0-clause-added : goal.returns-then-known-eq0-clause-added
returns-then-known-eq0-clause-added c =
    let name = c.args.name.now in
    let few = c.self.inside.few.items in
    let more = c.self.inside.more in
    let away : list_any (has_name name) few ≡ false = sym (c.is_among.ensures ∙ ap (list_any (has_name name)) c.deref.ensures.value) ∙ c.if-is_among.false in
    let none : more ≡ [] = nil_from_length more (sym c.count-known.ensures ∙ c.if-known-eq0.true) in
    sym (ap not (among_rest name few more away ∙ ap (list_any (bytes_eq name)) none)) ∙ ap (λ l. not (list_any (bytes_eq name) l)) c.self.view_is

pub returns-clause-names : goal.returns-clause-names
returns-clause-names c =
    let name = c.args.name.now in
    let few = c.self.inside.few.items in
    let away : list_any (has_name name) few ≡ false = sym (c.is_among.ensures ∙ ap (list_any (has_name name)) c.deref.ensures.value) ∙ c.if-is_among.false in
    ap (λ (l : List (List ℕ)). names_of few ++ l) c.in_ok-add.ensures.names
    ∙ rest_push few c.self.inside.more name away
    ∙ ap (λ l. with_new l name) c.self.view_is

pub returns-clause-added : goal.returns-clause-added
returns-clause-added c =
    let name = c.args.name.now in
    let few = c.self.inside.few.items in
    let more = c.self.inside.more in
    let away : list_any (has_name name) few ≡ false = sym (c.is_among.ensures ∙ ap (list_any (has_name name)) c.deref.ensures.value) ∙ c.if-is_among.false in
    rw (c.count-known.ensures, c.count.ensures, c.in_ok-add.ensures.names) (grows name more)
    ∙ sym (ap not (among_rest name few more away))
    ∙ ap (λ l. not (list_any (bytes_eq name) l)) c.self.view_is
