-- What is offered as another name for a name of a text.
use Rattle.std.specs.Prelude.{◌≡◌, ℕ, ◌+◌, List, map, ⊤}
use Rattle.snl_questions.specs.declared.mentions.mention.Reference.{Reference}
use Rattle.snl_questions.specs.Mentions.{references_near}
use Rattle.snl_alike.specs.Edits.{Edit, edits_of}
use Rattle.snl_alike.specs.Same.{SaysTheSame}
use Rattle.snl_rename.specs.declared.renaming.Renaming.{Renaming}
use Rattle.snl_rename.specs.declared.renaming.Renaming.TheVariants as renaming
use Rattle.snl_rename.specs.Names.{IsFreeName}

-- The name in the place of a reference.
abbrev pub edit_to : (name : List ℕ) → Reference → Edit
edit_to name r = record {
  start = r.span.start;
  stop = r.span.start + r.span.len;
  new = name;
}

-- The new name is free, the edits are those of all references of the name near the offset and no
-- others, and the text says after them what it said.
pub record IsRenaming (text : List ℕ) (offset : ℕ) (name : List ℕ) (es : List Edit) : Type 0 where
  pub free : IsFreeName name
  pub exactly : es ≡ map (edit_to name) (references_near text offset)
  pub says : SaysTheSame text es

-- It is so of the edits, if there are some.
abbrev pub MatchOffered : Renaming → (List Edit → Type 0) → Type 0
MatchOffered (renaming.Offered edits) P = P (edits_of edits.items)
MatchOffered (renaming.Refused refusal) P = ⊤
