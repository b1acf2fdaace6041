use Rattle.snl_server_laws.proofs.Heard.{heard_text}
use Rattle.snl_server_laws.proofs.text_laws.messages_are_text.Goals as goal

pub returns : goal.returns
returns c = heard_text
