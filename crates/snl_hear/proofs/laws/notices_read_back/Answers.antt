use Rattle.std.proofs.Common.{◌≡◌, Some, subst}
use Rattle.snl_say.specs.Notices.{message_data}
use Rattle.snl_say.specs.Publish.{publish_data}
use Rattle.snl_hear.specs.Json.{json_in}
use Rattle.snl_hear.proofs.SoundNotices.{message, publish}
use Rattle.snl_hear.proofs.laws.notices_read_back.Goals as goal

pub returns : goal.returns
returns c = record {
  publish = λ found uri version h u v.
      subst (λ text. json_in text ≡ Some (publish_data found uri version))
      (c.publish_is_json.ensures found uri version) (publish found uri version h u v);
  message = λ severity text h.
      subst (λ t. json_in t ≡ Some (message_data severity text))
      (c.message_is_json.ensures severity text) (message severity text h);
}
