-- The name near an offset that a rename would change: the reference that the offset is in, or right
-- after.
use Rattle.std.specs.Prelude.{ℕ, ◌-◌, ◌&&◌, Bool, nat_le, List, Option, option_and_then, option_map, position, slice_get}
use Rattle.snl_tables.specs.declared.rows.Span.{Span}
use Rattle.snl_questions.specs.declared.mentions.mention.Reference.{Reference}
use Rattle.snl_questions.specs.Mentions.{references_near}

abbrev pub touches : (offset : ℕ) → Reference → Bool
touches offset r = nat_le r.span.start offset && nat_le (offset - r.span.start) r.span.len

abbrev pub touched_in : List Reference → (offset : ℕ) → Option Span
touched_in rs offset = option_and_then (λ n. option_map (λ r. r.span) (slice_get rs n))
    (position (touches offset) rs)

abbrev pub name_near : (text : List ℕ) → (offset : ℕ) → Option Span
name_near text offset = touched_in (references_near text offset) offset
