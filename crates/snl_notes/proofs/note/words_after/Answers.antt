use Rattle.std.proofs.Common.{◌∙◌, ap, option_copied}
use Rattle.snl_expected.specs.Expected.{expected_of}
use Rattle.snl_expected.specs.Groups.{description_of}
use Rattle.snl_notes.specs.Notes.{description_after, meant_word, words_after}
use Rattle.snl_notes.specs.Words.{sentence}
use Rattle.snl_notes.proofs.note.words_after.Goals as goal

pub returns : goal.returns
unfolding words_after
returns c =
    let before = c.args.before.now in
    let kinds = c.deref.ensures.value ∙ c.in_ok-expected.ensures.kinds in
    let others = c.deref-2.ensures.value ∙ c.in_ok-expected.ensures.others in
    let again = c.deref-3.ensures.value ∙ c.in_ok-expected.ensures.kinds in
    let described = c.in_ok-description.ensures ∙ ap (λ ks. description_of ks c.deref-2.result.now) kinds ∙ ap (description_of (expected_of before)) others in
    let meant = c.in_ok-meant.ensures ∙ ap (meant_word (option_copied c.args.name)) again in
    c.in_ok-words.ensures ∙ ap (λ d. sentence d c.in_ok-meant.meant) described ∙ ap (sentence (description_after before)) meant
