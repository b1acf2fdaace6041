use Rattle.std.proofs.Common.{◌≡◌, ℕ, ◌<◌, ◌≤◌, ◌∙◌, List, length, true, false, Some, None, refl, ap, arith, nat_le}
use Rattle.std.specs.Prelude.{if◌then◌else◌}
use Rattle.std.proofs.lemmas.Bool.{le-leb, lt-leb}
use Rattle.snl_document.specs.Held.{text_of}
use Rattle.snl_document.specs.Texts.{longest}
use Rattle.snl_document.proofs.text.DocumentText.of.Goals as goal
use Rattle.snl_document.proofs.text.DocumentText.of.Goals.{then-text-le-LIMIT+in_ok-checked_from, else-text-le-LIMIT+then-text-le-LONGEST+in_ok-of, else-text-le-LIMIT+else-text-le-LONGEST}

followed_as : (text held : List ℕ) → held ≡ text → length text ≤ longest →
    Some held ≡ (if nat_le (length text) longest then Some text else None)
followed_as text held same few =
    let test : nat_le (length text) longest ≡ true = le-leb (length text) longest few in
    rw (test, same) refl

followed_no : (text : List ℕ) → longest < length text →
    None ≡ (if nat_le (length text) longest then Some text else None)
followed_no text many =
    let test : nat_le (length text) longest ≡ false = lt-leb (length text) longest many in
    rw test refl

pub returns : goal.returns
returns g c =
    elim c.if-text-le-LIMIT.branch [
      | then-text-le-LIMIT+in_ok-checked_from w ↦
          ap (text_of g.C.CheckedText.text_of) w.held-is ∙ followed_as c.args.text.now _
          w.in_ok-checked_from.ensures
          (omega (arith, w.if-text-le-LIMIT.true))
      | else-text-le-LIMIT+then-text-le-LONGEST+in_ok-of w ↦
          ap (text_of g.C.CheckedText.text_of) w.held-is ∙ followed_as c.args.text.now _
          w.in_ok-of.ensures
          w.if-text-le-LONGEST.true
      | else-text-le-LIMIT+else-text-le-LONGEST w ↦
          ap (text_of g.C.CheckedText.text_of) w.held-is ∙ followed_no c.args.text.now
          w.if-text-le-LONGEST.false
    ]
