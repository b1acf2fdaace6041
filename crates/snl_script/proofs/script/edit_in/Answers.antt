use Rattle.std.proofs.Common.{rules}
use Rattle.snl_script.proofs.ScriptLemmas.{edit_of_more}
use Rattle.snl_script.proofs.script.edit_in.Goals as goal

pub returns-in_default-Some : goal.returns-in_default-Some
returns-in_default-Some c =
    let more = edit_of_more c.first_word.result.0.now c.first_word-2.result.0.now c.first_word-3.result.0.now c.in_default-Some.field-0-1.now in
    search (rules, edit_of_more)
