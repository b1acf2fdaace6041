-- Bytes that are shown as they are.
use Rattle.std.proofs.Common.{◌≡◌, ◌&&◌, ◌++◌, ℕ, List, [], ◌∷◌, Bool, true, false, refl, ap, sym, ◌∙◌}
use Rattle.std.specs.List.{list_all}
use Rattle.snl_listing.specs.Escapes.{escaped, escaped_byte, is_printable}

pub escaped_plain : (bytes : List ℕ) → list_all is_printable bytes ≡ true → bytes ≡ escaped bytes
escaped_plain [] h = refl
escaped_plain (b ∷ bytes) h = by_test (is_printable b) refl h (escaped_plain bytes)
  where
    by_test : (shown : Bool) → is_printable b ≡ shown → (shown && list_all is_printable bytes) ≡ true → (list_all is_printable bytes ≡ true → bytes ≡ escaped bytes) → b ∷ bytes ≡ escaped (b ∷ bytes)
    by_test true is all more = ap (λ (l : List ℕ). b ∷ l) (more all) ∙ sym (ap (λ (l : List ℕ). l ++ escaped bytes) (one is))
      where
        one : is_printable b ≡ true → escaped_byte b ≡ b ∷ []
        one e = rw e refl
    by_test false is all more = cc
