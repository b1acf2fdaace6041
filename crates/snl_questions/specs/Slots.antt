-- What is kept for each token of an item while its mentions are listed.
use Rattle.std.specs.Prelude.{◌≡◌, ℕ, ◌<◌, ◌||◌, Bool, List, None, Option, length, option_copied}
use Rattle.std.specs.List.{slice_index_or}
use Rattle.snl_tables.specs.Marks.{is_marked}
use Rattle.snl_questions.specs.declared.meanings.items.TokenPlace.{TokenPlace}
use Rattle.snl_questions.specs.declared.meanings.kept_item.KeptItem.{KeptItem}
use Rattle.snl_questions.specs.declared.mentions.slots.Slots.{Slots}
use Rattle.snl_questions.specs.KeptItems.{meant_inside_item}
use Rattle.snl_questions.specs.Meanings.{outline_names}
use Rattle.snl_questions.specs.Mentions.{prototype_of}

-- A set of tokens gets those that pass a test as well.
pub record Gains (test : ℕ → Bool) (old new : List Bool) : Type 0 where
  pub count : length new ≡ length old
  pub each : (n : ℕ) → n < length old → is_marked new n ≡ (is_marked old n || test n)

-- For each of so many tokens there is what it means.
pub record HasMeanings (means : ℕ → Option TokenPlace) (count : ℕ)
    (slots : List (Option TokenPlace)) : Type 0 where
  pub as_many : length slots ≡ count
  pub each : (n : ℕ) → n < count → slice_index_or slots n None ≡ means n

-- The slots of an item: its tokens that the outline names, what its tokens mean by what occurs in
-- it, and the name of a prototype.
pub record AreSlotsOf (x : KeptItem) (s : Slots) : Type 0 where
  pub named : (n : ℕ) → n < length x.source.tokens.now →
      is_marked s.named n ≡ outline_names x.outline.now n
  pub inside : (n : ℕ) → n < length x.source.tokens.now →
      slice_index_or s.inside.items n None ≡ meant_inside_item x n
  pub prototype : s.prototype ≡ prototype_of (option_copied x.tree)
