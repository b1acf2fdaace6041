use Rattle.std.proofs.Common.{refl}
use Rattle.std.proofs.lemmas.Str.Ascii.{trim_ascii_is}
use Rattle.snl_questions.specs.Hover.{without_indent}
use Rattle.snl_questions.proofs.hovers.declarations.without_blanks.Goals as goal

pub returns : goal.returns
returns c =
    trim_ascii_is c.args.line.now _ (without_indent c.args.line.now) refl c.trim_ascii.ensures.value
