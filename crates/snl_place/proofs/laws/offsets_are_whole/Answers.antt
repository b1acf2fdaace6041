use Rattle.snl_place.proofs.Rising.{no_cut}
use Rattle.snl_place.proofs.Walks.{place_whole}
use Rattle.snl_place.proofs.laws.offsets_are_whole.Goals as goal

pub returns : goal.returns
returns c = record {
  boundary = λ encoding text place. place_whole encoding place.line place.character text;
  line_end = λ encoding text place. no_cut encoding text place.line place.character;
}
