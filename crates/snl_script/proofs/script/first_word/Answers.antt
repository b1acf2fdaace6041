use Rattle.std.proofs.Common.{ℕ, ◌+◌, ◌-◌, ◌≤◌, List, ◌∷◌, length, take, drop, sym, ap, ◌∙◌, arith, length-drop}
use Rattle.std.proofs.lemmas.List.{take_all}
use Rattle.snl_script.specs.Script.{words_of}
use Rattle.snl_script.proofs.ScriptLemmas.{words_of-none, words_of-some}
use Rattle.snl_script.proofs.script.first_word.Goals as goal

pub returns-in-None : goal.returns-in-None
returns-in-None c = words_of-none c.args.words.now (sym c.in-None.ensures)

pub returns-in-Some : goal.returns-in-Some
returns-in-Some c =
    let line : List ℕ = c.args.words.now in
    let end : ℕ = c.in-Some.end in
    let whole : length (drop (end + 1) line) ≤ length line - (end + 1) = omega (arith, length-drop (end + 1) line) in
    words_of-some line end (sym c.in-Some.ensures) ∙ ap (λ (l : List ℕ). take end line ∷ words_of l) (sym (take_all (length line - (end + 1)) (drop (end + 1) line) whole))
