use Rattle.std.specs.Prelude.{codes}
use Rattle.snl_codes.specs.Codes.{name_of}
use Rattle.snl_forms.specs.Forms.{level_of, rule_text}
use Rattle.snl_forms.proofs.Then.{and_then}
use Rattle.snl_forms.proofs.sarif.put_rule.Goals as goal

pub returns : goal.returns
unfolding rule_text
returns c =
    and_then c.args.out.now.items _ _
    (codes "{\"ruleId\": \"") _
    c.in_ok-put_bytes.ensures
    (and_then c.put_bytes.new.out.items _ _
    (name_of c.args.told.code) _
    c.in_ok-put_code.ensures
    (and_then c.put_code.new.out.items _ _
    (codes "\", \"level\": \"") _
    c.in_ok-put_bytes-2.ensures
    (and_then c.put_bytes-2.new.out.items _ _
    (level_of c.args.told.code) _
    c.in_ok-put_level.ensures
    (and_then c.put_level.new.out.items _ _
    (codes "\", ") _
    c.in_ok-put_bytes-3.ensures
    (c.in_ok-put_message.ensures)))))
