use Rattle.std.proofs.Common.{◌∷◌, [], List, ℕ}
use Rattle.snl_run.specs.Answers.{finding_text}
use Rattle.snl_script.specs.Parts.{file_text, quoted, slice_of}
use Rattle.snl_run.proofs.SaidLemmas.{AppendsPart-on, Said-on, Said-part, Says-on, line-1, line-2, line-3}
use Rattle.snl_run.proofs.answers.put_line.Goals as goal

pub returns-in_err-put_file-clause-said : goal.returns-in_err-put_file-clause-said
returns-in_err-put_file-clause-said g c =
    let d = c.args.diagnostic.now in
    let text : List ℕ = c.args.text.now in
    let q : List ℕ = quoted (slice_of text d.offset d.subject) in
    Said-part c.from_residual.result _ _ _ _ _ _ c.from_residual.ensures.0 (line-1 c.args.page.now (file_text text d.file) (finding_text d) q (10 ∷ [])) c.in_err-put_file.ensures.said

pub returns-in_err-put_finding-clause-said : goal.returns-in_err-put_finding-clause-said
returns-in_err-put_finding-clause-said g c =
    let d = c.args.diagnostic.now in
    let text : List ℕ = c.args.text.now in
    let q : List ℕ = quoted (slice_of text d.offset d.subject) in
    let part = AppendsPart-on _ _ _ _ _ _ c.in_ok-put_file.ensures.said c.in_err-put_finding.ensures.said in
    Said-part c.from_residual-in_err-put_finding.result _ _ _ _ _ _ c.from_residual-in_err-put_finding.ensures.0 (line-2 c.args.page.now (file_text text d.file) (finding_text d) q (10 ∷ [])) part

pub returns-in_err-put_subject-clause-said : goal.returns-in_err-put_subject-clause-said
returns-in_err-put_subject-clause-said g c =
    let d = c.args.diagnostic.now in
    let text : List ℕ = c.args.text.now in
    let q : List ℕ = quoted (slice_of text d.offset d.subject) in
    let both = Says-on _ _ _ _ _ _ _ c.in_ok-put_file.ensures.said c.in_ok-put_finding.ensures.said in
    let part = AppendsPart-on _ _ _ _ _ _ both c.in_err-put_subject.ensures.said in
    Said-part c.from_residual-in_err-put_subject.result _ _ _ _ _ _ c.from_residual-in_err-put_subject.ensures.0 (line-3 c.args.page.now (file_text text d.file) (finding_text d) q (10 ∷ [])) part

pub returns-clause-said : goal.returns-clause-said
returns-clause-said g c =
    let d = c.args.diagnostic.now in
    let text : List ℕ = c.args.text.now in
    let q : List ℕ = quoted (slice_of text d.offset d.subject) in
    let both = Says-on _ _ _ _ _ _ _ c.in_ok-put_file.ensures.said c.in_ok-put_finding.ensures.said in
    let all = Says-on _ _ _ _ _ _ _ both c.in_ok-put_subject.ensures.said in
    Said-on c.put.result _ _ _ _ _ _ _ _ (line-3 c.args.page.now (file_text text d.file) (finding_text d) q (10 ∷ [])) all c.put.ensures.said
