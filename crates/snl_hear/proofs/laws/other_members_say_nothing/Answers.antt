use Rattle.snl_hear.proofs.Members.{other_member}
use Rattle.snl_hear.proofs.laws.other_members_say_nothing.Goals as goal

pub returns : goal.returns
returns c = other_member
