-- Two texts are alike, where what is kept of them is.
use Rattle.std.proofs.Common.{◌≡◌, ℕ, IfNone, List, map, Option, None, Some, sym, ap, ◌∙◌}
use Rattle.snl_kept.specs.declared.kept.Kept.{Kept}
use Rattle.snl_kept.specs.Kept.{IsKept}
use Rattle.snl_questions.specs.Mentions.{mentions_in}
use Rattle.snl_alike.specs.declared.differences.Difference.{Difference}
use Rattle.snl_alike.specs.Edits.{Edit, moved_stop}
use Rattle.snl_alike.specs.Same.{AreAlike, SameBut}

pub record KeptAlike (es : List Edit) (k l : Kept) : Type 0 where
  pub kinds : l.lists.pieces.kinds.items ≡ k.lists.pieces.kinds.items
  pub ends : l.lists.pieces.ends.items ≡ map (moved_stop es) k.lists.pieces.ends.items
  pub items : l.lists.items.ends.items ≡ k.lists.items.ends.items

pub alike_by : (old new : List ℕ) (es : List Edit) (k l : Kept) → IsKept old k → IsKept new l →
    KeptAlike es k l → mentions_in new ≡ mentions_in old → (o : Option Difference) →
    IfNone o (SameBut old es new) → IfNone o (AreAlike old es new)
alike_by old new es k l was is alike meanings (Some d) same = tt
alike_by old new es k l was is alike meanings None same = record {
  kinds = sym is.lists.kinds ∙ alike.kinds ∙ was.lists.kinds;
  ends = sym is.lists.ends ∙ alike.ends ∙ ap (map (moved_stop es)) was.lists.ends;
  items = sym is.lists.items ∙ alike.items ∙ was.lists.items;
  meanings = meanings;
  same = same;
}
