use Rattle.std.proofs.Common.{◌≡◌, Some, subst}
use Rattle.serde_json.specs.Data.{null}
use Rattle.snl_say.specs.Answered.{answered_data}
use Rattle.snl_say.specs.Answers.{error_data, hover_data, initialize_data, location_data, null_data}
use Rattle.snl_say.specs.Symbols.{symbols_data}
use Rattle.snl_hear.specs.Json.{json_in}
use Rattle.snl_hear.proofs.SoundAnswered.{answered_back}
use Rattle.snl_hear.proofs.SoundAnswers.{error_alone, error_answer, hover_answer, initialize_answer, location_answer, null_answer}
use Rattle.snl_hear.proofs.SoundSymbols.{symbols_answer}
use Rattle.snl_hear.proofs.laws.answers_read_back.Goals as goal

pub returns : goal.returns
returns c = record {
  null_answer = λ id h.
      subst (λ text. json_in text ≡ Some (null_data id)) (c.null_is_json.ensures id)
      (null_answer id h);
  initialize = λ id encoding h.
      subst (λ text. json_in text ≡ Some (initialize_data id encoding))
      (c.initialize_is_json.ensures id encoding) (initialize_answer id encoding h);
  symbols = λ id symbols h are.
      subst (λ text. json_in text ≡ Some (symbols_data id symbols))
      (c.symbols_are_json.ensures id symbols) (symbols_answer id symbols h are);
  location = λ id uri start stop h u a b.
      subst (λ text. json_in text ≡ Some (location_data id uri start stop))
      (c.location_is_json.ensures id uri start stop) (location_answer id uri start stop h u a b);
  hover = λ id contents start stop h u a b.
      subst (λ text. json_in text ≡ Some (hover_data id contents start stop))
      (c.hover_is_json.ensures id contents start stop)
      (hover_answer id contents start stop h u a b);
  answer = λ id uri answered h u k.
      subst (λ text. json_in text ≡ Some (answered_data id uri answered))
      (c.answers_are_json.ensures id uri answered) (answered_back id uri answered h u k);
  error = λ id code h.
      subst (λ text. json_in text ≡ Some (error_data id code)) (c.error_is_json.ensures id code)
      (error_answer id code h);
  error_alone = λ code.
      subst (λ text. json_in text ≡ Some (error_data null code)) (c.error_is_json.ensures null code)
      (error_alone code);
}
