use Rattle.snl_kept.proofs.ListedTexts.{listed}
use Rattle.snl_kept.proofs.lists.Lists.commit_whole.Goals as goal

pub returns : goal.returns
returns c = listed _ _ _ c.put_items.ensures.items c.commit_beside.ensures.places c.commit_beside.ensures.items
