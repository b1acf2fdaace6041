-- The parts of which lines are made.
use Rattle.std.specs.Prelude.{ℕ, List, decimal}
use Rattle.snl_listing.specs.declared.words.Word.{Word}
use Rattle.snl_listing.specs.declared.words.Word.TheVariants as word
use Rattle.snl_listing.specs.declared.parts.Part.{Part}
use Rattle.snl_listing.specs.declared.parts.Part.TheVariants as part
use Rattle.snl_listing.specs.Escapes.{escaped, escaped_byte}
use Rattle.snl_listing.specs.Listing.{element_text, file_text, scope_text, sync_text}

abbrev pub word_text : Word → List ℕ
word_text (word.Plain text) = text.now
word_text (word.Escaped bytes) = escaped bytes.now
word_text (word.Number number) = decimal number

abbrev pub part_text : Part → List ℕ
part_text (part.Plain text) = text.now
part_text (part.Escaped bytes) = escaped bytes.now
part_text (part.Letter byte) = escaped_byte byte
part_text (part.Number number) = decimal number
part_text (part.Scope text scope) = scope_text text.now scope
part_text (part.File text file) = file_text text.now file
part_text (part.Element element) = element_text element
part_text (part.Sync sync) = sync_text sync
