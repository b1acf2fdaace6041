use Rattle.std.proofs.lemmas.Str.{IsUtf8-append, IsUtf8-drop, IsUtf8-take}
use Rattle.snl_place.proofs.Walks.{place_whole}
use Rattle.snl_place.proofs.laws.edits_keep_text.Goals as goal

pub returns : goal.returns
returns c = λ encoding text new start stop whole added.
    IsUtf8-append _ _
    (IsUtf8-take text _ whole (place_whole encoding start.line start.character text))
    (IsUtf8-append _ _ added
    (IsUtf8-drop text _ whole (place_whole encoding stop.line stop.character text)))
