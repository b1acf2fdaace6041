-- The items of a text as their links see them.
use Rattle.std.specs.Prelude.{ℕ, Bool, false, List, map, slice_get}
use Rattle.std.specs.Option.{option_map_or}
use Rattle.snl_summary.specs.declared.summary.ItemKind.{ItemKind}
use Rattle.snl_summary.specs.declared.summary.Outline.{Outline}
use Rattle.snl_summary.specs.declared.summary.Summary.{Summary}

-- What each item says to the others, and of what kind it is.
pub record LinkedItems : Type 0 where
  pub outlines : List Outline
  pub kinds : List ItemKind

-- The items that these summaries tell of.
abbrev pub linked_items : List Summary → LinkedItems
linked_items summaries = record { outlines = map (λ s. s.outline) summaries; kinds = map (λ s. s.kind) summaries }

-- There is an item i, and its kind passes the test.
abbrev pub kind_is : (ItemKind → Bool) → LinkedItems → ℕ → Bool
kind_is test l i = option_map_or test (slice_get l.kinds i) false
