use Rattle.json.proofs.Printed.Plain.{escape_on_plain}
use Rattle.snl_say.proofs.plain.is_plain.Goals as goal

pub returns-then-length-ge16 : goal.returns-then-length-ge16
returns-then-length-ge16 c =
    escape_on_plain c.plain_many.result c.args.bytes.now c.plain_many.ensures

pub returns-then-length-ge8 : goal.returns-then-length-ge8
returns-then-length-ge8 c =
    escape_on_plain c.plain_some.result c.args.bytes.now c.plain_some.ensures

pub returns-else-length-ge8 : goal.returns-else-length-ge8
returns-else-length-ge8 c =
    escape_on_plain c.plain_few.result c.args.bytes.now c.plain_few.ensures
