-- What is put for `list` is its answer.
use Rattle.std.proofs.Common.{◌≡◌, ℕ, List, [], ◌++◌, refl, ap}
use Rattle.snl_tables.specs.declared.rows.Tables.{Tables}
use Rattle.snl_listing.specs.Listing.{listing_of}
use Rattle.snl_session.specs.Listing.{listing_text}
use Rattle.snl_kept.specs.Tables.{tables_in}

pub page_listing : (page text said : List ℕ) (tables : Tables) (more : List ℕ) → page ≡ [] → said ≡ text → tables ≡ tables_in text → (page ++ listing_of said tables) ++ more ≡ listing_text text ++ more
page_listing page text said tables more p s t = ap (λ (l : List ℕ). l ++ more) (rw (p, s, t) refl)
