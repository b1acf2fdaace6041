-- The sections of a listing make the listing.
use Rattle.std.proofs.Common.{◌≡◌, ℕ, List, [], ◌++◌, refl}
use Rattle.std.proofs.lemmas.List.{append-nil}
use Rattle.std.specs.List.{flat_map}
use Rattle.snl_tables.specs.declared.rows.ChannelRow.{ChannelRow}
use Rattle.snl_tables.specs.declared.rows.FlagRow.{FlagRow}
use Rattle.snl_tables.specs.declared.rows.OptionRow.{OptionRow}
use Rattle.snl_tables.specs.declared.rows.SetRow.{SetRow}
use Rattle.snl_tables.specs.declared.rows.Tables.{Tables}
use Rattle.snl_listing.specs.Listing.{channel_line, flag_line, listing_of, numbered, option_line, program_line, set_text}

pub sections : (text : List ℕ) (tables : Tables) (options : List OptionRow) (flags : List FlagRow) (channels : List ChannelRow) (sets : List SetRow) → options ≡ tables.options → flags ≡ tables.flags → channels ≡ tables.channels → sets ≡ tables.sets →
    program_line text tables.program ++ (flat_map (option_line []) options ++ (numbered (flag_line text) 1 flags ++ (numbered (channel_line text) 0 channels ++ flat_map (set_text text tables) sets))) ≡ listing_of text tables
unfolding listing_of
sections text tables options flags channels sets o f c s = rw (o, f, c, s, append-nil (flat_map (set_text text tables) tables.sets)) refl
