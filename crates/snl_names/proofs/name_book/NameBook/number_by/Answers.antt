use Rattle.std.proofs.Common.{ap, sym, ◌∙◌}
use Rattle.std.specs.List.{position}
use Rattle.std.specs.Str.{bytes_eq}
use Rattle.snl_names.proofs.Books.{found}
use Rattle.snl_names.proofs.name_book.NameBook.number_by.Goals as goal

pub returns-in-Some : goal.returns-in-Some
returns-in-Some c =
    sym (found c.self.inside.names c.args.name.now c.in-Some.number c.self.invariant.different c.in-Some.ensures)
    ∙ ap (position (bytes_eq c.args.name.now)) c.self.view_is
