use Rattle.std.proofs.Common.{◌≡◌, ◌≢◌, ℕ, List, Some, ap, subst, sym, ◌∙◌}
use Rattle.std.specs.Prelude.{All, MatchOption, slice_get}
use Rattle.std.specs.List.{position}
use Rattle.std.specs.Str.{bytes_eq}
use Rattle.snl_names.specs.Keys.{spelled}
use Rattle.snl_names.specs.declared.keys.Key.{Key}
use Rattle.snl_names.proofs.Books.{found, found_or_not}
use Rattle.snl_names.proofs.name_book.NameBook.number_by_keys.Goals as goal

pub returns-in-Some : goal.returns-in-Some
returns-in-Some c =
    sym (found c.self.inside.names c.args.name.now c.in-Some.number c.self.invariant.different c.in-Some.ensures)
    ∙ ap (position (bytes_eq c.args.name.now)) c.self.view_is

pub returns-in-None : goal.returns-in-None
returns-in-None c =
    let name : List ℕ = c.args.name.now in
    let first = subst (λ (ks : List Key). All (λ n. n ≢ name) (spelled c.self.inside.names ks)) c.deref.ensures.value c.in-None.ensures in
    let second = subst (λ (ks : List Key). MatchOption c.number_among-in-None.result (All (λ n. n ≢ name) (spelled c.self.inside.names ks)) (λ n. slice_get c.self.inside.names n ≡ Some name)) c.deref-in-None.ensures.value c.number_among-in-None.ensures in
    found_or_not c.self.inside.names c.self.inside.sorted.items c.self.inside.recent.items name c.number_among-in-None.result c.self.invariant first second
    ∙ ap (position (bytes_eq name)) c.self.view_is
