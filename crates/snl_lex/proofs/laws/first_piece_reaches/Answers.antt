use Rattle.snl_lex.proofs.Longest.{code_first, comment_first, line_code_first, line_comment_first, marker_first, name_first, stray_first, white_first}
use Rattle.snl_lex.proofs.LongestPunctuator.{punctuator_first}
use Rattle.snl_lex.proofs.LongestNumber.{number_first}
use Rattle.snl_lex.proofs.LongestString.{character_first, text_first}
use Rattle.snl_lex.proofs.laws.first_piece_reaches.Goals as goal

pub returns-clause-white : goal.returns-clause-white
returns-clause-white c = white_first

pub returns-clause-name : goal.returns-clause-name
returns-clause-name c = name_first

pub returns-clause-marker : goal.returns-clause-marker
returns-clause-marker c = marker_first

pub returns-clause-line_comment : goal.returns-clause-line_comment
returns-clause-line_comment c = line_comment_first

pub returns-clause-line_code : goal.returns-clause-line_code
returns-clause-line_code c = line_code_first

pub returns-clause-comment : goal.returns-clause-comment
returns-clause-comment c = comment_first

pub returns-clause-code : goal.returns-clause-code
returns-clause-code c = code_first

pub returns-clause-stray : goal.returns-clause-stray
returns-clause-stray c = stray_first

pub returns-clause-punctuator : goal.returns-clause-punctuator
returns-clause-punctuator c = punctuator_first

pub returns-clause-number : goal.returns-clause-number
returns-clause-number c = number_first

pub returns-clause-string : goal.returns-clause-string
returns-clause-string c = text_first

pub returns-clause-character : goal.returns-clause-character
returns-clause-character c = character_first
