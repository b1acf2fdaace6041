use Rattle.std.proofs.Common.{◌≡◌, ◌≢◌, ◌<◌, ℕ, false, slice_get, Some}
use Rattle.snl_scope.specs.Spoken.{touches}
use Rattle.snl_kept.specs.declared.entries.Entry.{Entry}
use Rattle.snl_kept.proofs.ways.one_item.renamed_links.none_touches.Given as goal

-- none of the entries so far
abbrev pub invariant-loop-number : goal.invariant-loop-number
invariant-loop-number l = (i : ℕ) (e : Entry) → i < l.number → i ≢ l.item → slice_get l.entries.values i ≡ Some e → touches l.names e.summary ≡ false
