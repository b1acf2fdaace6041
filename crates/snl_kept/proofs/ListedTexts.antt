-- The lists of a text, by its places and by what is kept of its items.
use Rattle.std.proofs.Common.{ℕ, List, ap, ◌∙◌}
use Rattle.snl_kept.specs.declared.lists.Lists.{Lists}
use Rattle.snl_kept.specs.Kept.{AreItems, ArePlaces, IsListed, SameItems}

pub listed : (text : List ℕ) (was now : Lists) → AreItems text was → ArePlaces text now → SameItems was now → IsListed text now
listed text was now made places same = record {
  ends = places.ends;
  kinds = places.kinds;
  markers = places.markers;
  lines = places.lines;
  marks = places.marks;
  items = places.items;
  entries = ap (λ l. l.values) same.entries ∙ made.entries;
  links = same.links ∙ made.links;
  checks = ap (λ l. l.values) same.checks ∙ made.checks;
  warns = same.warns ∙ made.warns;
}
