use Rattle.std.proofs.Common.{◌≡◌}
use Rattle.serde_json.specs.Written.{compact_text}
use Rattle.snl_replies.specs.Replies.{Publish, Notice, AnswerNull, AnswerInitialize, Answer, AnswerError, body_of}
use Rattle.snl_server_laws.specs.Answered.{data_of}
use Rattle.snl_server_laws.proofs.answer_laws.replies_are_json.Goals as goal

pub returns : goal.returns
returns c = λ reply. elim reply as (λ r. compact_text (data_of r) ≡ body_of r) [
  | Publish found uri version ↦ c.publish_is_json.ensures found uri version
  | Notice severity message ↦ c.message_is_json.ensures severity message
  | AnswerNull id ↦ c.null_is_json.ensures id
  | AnswerInitialize id encoding ↦ c.initialize_is_json.ensures id encoding
  | Answer id uri answered ↦ c.answers_are_json.ensures id uri answered
  | AnswerError id code ↦ c.error_is_json.ensures id code
]
