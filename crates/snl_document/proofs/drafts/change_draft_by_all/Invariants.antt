use Rattle.std.proofs.Common.{◌≡◌, drop, map}
use Rattle.snl_hear.specs.Changes.{changed_of}
use Rattle.snl_document.specs.Texts.{changed_by_all}
use Rattle.snl_document.proofs.drafts.change_draft_by_all.Given as goal

-- The changes that are left make of this draft what all make of the first one.
abbrev pub invariant-loop-change : goal.invariant-loop-change
invariant-loop-change l =
    changed_by_all l.encoding l.initial.draft (map changed_of l.changes)
    ≡ changed_by_all l.encoding l.draft (map changed_of (drop l.change-index l.changes))
