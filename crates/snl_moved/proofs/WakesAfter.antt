-- What wakes a state up after an edit inside it goes by the channels that there were.
use Rattle.std.proofs.Common.{◌≡◌, ℕ, ◌<◌, List, length, map, sym, ap, ap₂, ◌∙◌}
use Rattle.snl_lex.specs.declared.lines.Line.{Line}
use Rattle.snl_lex.specs.declared.shift.Shift.{Shift}
use Rattle.snl_summary.specs.declared.summary.Outline.{Outline}
use Rattle.snl_scope.specs.Names.{entries}
use Rattle.snl_walk.specs.declared.used.WakeUse.{WakeUse}
use Rattle.snl_tables.specs.declared.rows.ChannelRow.{ChannelRow}
use Rattle.snl_tables.specs.declared.rows.Tables.{Tables}
use Rattle.snl_check.specs.Channels.{AssignedChannel, assigned_channels, variables_before}
use Rattle.snl_check.specs.Conditions.{uses_in, wake_ups}
use Rattle.snl_item_check.specs.Items.{ProgramItem, outlines_of}
use Rattle.snl_moved.specs.Moved.{ReplacesOne}
use Rattle.snl_moved.specs.Spans.{AreRead}
use Rattle.snl_check.specs.States.{wake_of}
use Rattle.snl_check.specs.Tables.{channel_row, tables_of}
use Rattle.snl_moved.proofs.ShiftedAround.{same}
use Rattle.snl_moved.proofs.ShiftedRows.{map_twice}
use Rattle.snl_moved.proofs.ShiftedTables.{SpellingLaws}

module _ (laws : SpellingLaws) (old text : List ℕ) (s : Shift) (line : ℕ → Line → Line) (xs ys : List ProgramItem) (item : ℕ) (before : 0 < s.start) (read : AreRead old xs) (rep : ReplacesOne old text s line xs ys item) where
  abbrev ss : List Outline
  ss = outlines_of old xs

  abbrev pub channels_now : List AssignedChannel
  channels_now = assigned_channels text ys ss

  channels_are : assigned_channels old xs ss ≡ channels_now
  channels_are = sym (same laws old text s line xs ys item before read rep)

  -- the rows are those of the channels that there are now
  pub elements_stay : (t : Tables) → t ≡ tables_of old xs → map (λ (r : ChannelRow). r.element) t.channels ≡ map (λ (c : AssignedChannel). c.element) channels_now
  elements_stay t is =
      ap (λ (u : Tables). map (λ (r : ChannelRow). r.element) u.channels) is
      ∙ sym (map_twice (λ (r : ChannelRow). r.element) (channel_row old xs ss) (assigned_channels old xs ss))
      ∙ ap (map (λ (c : AssignedChannel). c.element)) channels_are

  pub lists_stay : (t : Tables) (outlines : List Outline) → t ≡ tables_of old xs → outlines ≡ ss → t.variables ≡ variables_before channels_now (length (entries outlines))
  lists_stay t outlines is linked =
      ap (λ (u : Tables). u.variables) is
      ∙ ap₂ (λ (l : List AssignedChannel) (os : List Outline). variables_before l (length (entries os))) channels_are (sym linked)

  pub wakes_after : (outlines : List Outline) (uses : List WakeUse) → outlines ≡ ss → uses ≡ uses_in text ys item → wake_ups text ys outlines channels_now item uses ≡ wake_of text ys ss item
  wakes_after outlines uses linked same_uses = ap₂ (λ (os : List Outline) (us : List WakeUse). wake_ups text ys os channels_now item us) linked same_uses
