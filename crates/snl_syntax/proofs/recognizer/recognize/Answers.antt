use Rattle.std.proofs.Common.{◌≡◌, IfOk, sym, subst}
use Rattle.snl_expression.specs.Reads.{Fails}
use Rattle.snl_grammar.specs.Tokens.{ahead}
use Rattle.snl_grammar.specs.Reading.Items.{levels, whole_item}
use Rattle.snl_syntax.specs.Recognized.{recognition_of}
use Rattle.snl_syntax.proofs.Recognized.{fault_recognized, item_recognized}
use Rattle.snl_syntax.proofs.recognizer.recognize.Goals as goal
use Rattle.snl_syntax.proofs.recognizer.recognize.Goals.{in-Ok, in-Err-OutOfMemory, in-Err-Here}

pub returns : goal.returns
returns c = elim c.match-item_in.branch [
  | in-Ok w ↦
      subst (λ r. IfOk r (λ answer. answer ≡ recognition_of c.args.kinds.now)) (sym w.result-is)
      (item_recognized c.args.kinds.now w.in-Ok.field-0 w.in-Ok.ensures)
  | in-Err-OutOfMemory w ↦ subst (λ r. IfOk r (λ answer. answer ≡ recognition_of c.args.kinds.now)) (sym w.result-is) tt
  | in-Err-Here w ↦
      subst (λ r. IfOk r (λ answer. answer ≡ recognition_of c.args.kinds.now)) (sym w.result-is)
      (fault_recognized c.args.kinds.now w.in-Err-Here.at w.within.result
      (subst (λ s. Fails c.args.kinds.now s (whole_item levels (ahead c.args.kinds.now 0))) w.in-Err-Here.field-0-is w.in-Err-Here.ensures) w.within.ensures)
]
