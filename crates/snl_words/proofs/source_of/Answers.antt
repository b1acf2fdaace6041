use Rattle.std.proofs.Common.{◌≡◌, ◌∙◌, ap, map, Some}
use Rattle.clap.specs.Words.{kind_of}
use Rattle.clap.specs.declared.error.kind.ErrorKind.TheVariants.{OutOfMemory}
use Rattle.snl_words.proofs.SourceLemmas.{takes_words-is, value-is}
use Rattle.snl_words.proofs.TakenLemmas.{found-taken}
use Rattle.snl_words.proofs.source_of.Goals as goal
use Rattle.std.proofs.lemmas.Bool.{false_from_ne_true}

pub returns-in-Err-clause-usage : goal.returns-in-Err-clause-usage
returns-in-Err-clause-usage c =
    λ refused. false_from_ne_true _ (λ taken.
    let starved : kind_of c.in-Err.error ≡ OutOfMemory = c.in-Err.ensures.passes (takes_words-is _ (map (λ w. w.now) c.args.words.now) c.in_ok-command.ensures ∙ taken) in
    c.fault_of.ensures (cc) (c.kind.ensures ∙ starved))

pub returns-in-Some-clause-ok : goal.returns-in-Some-clause-ok
returns-in-Some-clause-ok c =
    ap Some c.in_ok-text-in-Some.ensures.ok ∙ c.in-Some.ensures ∙ value-is _ (map (λ w. w.now) c.args.words.now) c.in-Ok.matches c.in_ok-command.ensures c.in-Ok.ensures.matches

pub returns-in-Some-clause-taken : goal.returns-in-Some-clause-taken
returns-in-Some-clause-taken c = found-taken _ (map (λ w. w.now) c.args.words.now) c.in_ok-command.ensures c.in-Ok.ensures.kinds

pub returns-clause-ok : goal.returns-clause-ok
returns-clause-ok c = c.in-None.ensures ∙ value-is _ (map (λ w. w.now) c.args.words.now) c.in-Ok.matches c.in_ok-command.ensures c.in-Ok.ensures.matches

pub returns-clause-taken : goal.returns-clause-taken
returns-clause-taken c = found-taken _ (map (λ w. w.now) c.args.words.now) c.in_ok-command.ensures c.in-Ok.ensures.kinds
