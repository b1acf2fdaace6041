-- What is held of a document's text.
use Rattle.std.specs.Prelude.{⊤, ℕ, ◌<◌, ◌≤◌, List, length, Option, Some, None}
use Rattle.snl_document.specs.declared.text.Held.{Held}
use Rattle.snl_document.specs.declared.text.Held.TheVariants.{Checked, Large, Lost}
use Rattle.snl_document.specs.Texts.{limit, longest}

abbrev pub text_of : {C : Type 0} → (C → List ℕ) → Held C → Option (List ℕ)
text_of text (Checked checked) = Some (text checked)
text_of text (Large draft) = Some draft
text_of text Lost = None

-- What isn't too long is checked. What is too long for that is followed, up to a size.
abbrev pub IsHeld : {C : Type 0} → (C → List ℕ) → Held C → Type 0
IsHeld text (Checked checked) = length (text checked) ≤ limit
IsHeld text (Large draft) = (limit < length draft) × (length draft ≤ longest)
IsHeld text Lost = ⊤
