use Rattle.std.proofs.Common.{ap, ◌∙◌}
use Rattle.serde_json.specs.Read.{read}
use Rattle.snl_hear.proofs.Bodies.{json_of_text, no_json}
use Rattle.snl_hear.proofs.body.Body.read.Goals as goal

pub returns-in_default : goal.returns-in_default
returns-in_default c = no_json c.args.bytes.now c.in_default.ensures

pub returns : goal.returns
returns c =
    c.in_ok-json.ensures ∙ ap read c.in-Ok.ensures.0 ∙ json_of_text c.args.bytes.now c.in-Ok.ensures.1
