use Rattle.std.proofs.Common.{sym}
use Rattle.snl_names.proofs.Books.{added}
use Rattle.snl_names.proofs.name_book.NameBook.add.Goals as goal

pub returns-in-None-clause-number : goal.returns-in-None-clause-number
returns-in-None-clause-number c =
    added c.add_new.result c.args.self.now c.add_new.new.self c.args.name.now (sym c.in-None.ensures) c.add_new.ensures.names c.add_new.ensures.number
