-- The listing of a text, which the text alone defines.
use Rattle.std.specs.Prelude.{ℕ, List}
use Rattle.snl_listing.specs.Listing.{listing_of}
use Rattle.snl_kept.specs.Tables.{tables_in}

-- That of its tables.
abbrev pub listing_text : List ℕ → List ℕ
listing_text text = listing_of text (tables_in text)
