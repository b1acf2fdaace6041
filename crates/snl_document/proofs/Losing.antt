-- Documents that are lost one after another.
use Rattle.std.proofs.Common.{◌≡◌, ℕ, ◌+◌, ◌<◌, List, [], ◌∷◌, ◌++◌, length, map, take, drop, get_or, slice_set, sym, ap, ◌∙◌, arith, append_assoc}
use Rattle.std.specs.List.{flat_map}
use Rattle.std.proofs.lemmas.Grind.{common_steps, flat_map-append}
use Rattle.std.proofs.lemmas.List.{append-nil, take_more}
use Rattle.std.proofs.lemmas.List.Edits.{map_over_more}
use Rattle.snl_place.specs.declared.places.Encoding.{Encoding}
use Rattle.snl_document.specs.Documents.{Doc, lost}
use Rattle.snl_replies.specs.Replies.{Reply, said_of}
use Rattle.snl_document.specs.Says.{Says}
use Rattle.snl_document.specs.Told.{told_of, told_of_all}
use Rattle.snl_replies.specs.ReplyLaws.{said_append}

pub lost_more : (xs ys : List Doc) (i : ℕ) (x new : Doc) → i < length xs →
    ys ≡ map lost (take i xs) ++ drop i xs → x ≡ get_or ys i x → new ≡ lost (get_or ys i x) →
    slice_set ys i new ≡ map lost (take (i + 1) xs) ++ drop (i + 1) xs
lost_more xs ys i x new within are there made =
    ap (λ (doc : Doc). slice_set ys i doc) (made ∙ sym (ap lost there))
    ∙ map_over_more lost xs ys i x within are there

-- Those that were not come to are as they were.
pub left_as_it_was : (xs ys : List Doc) (i : ℕ) (x : Doc) → i < length xs →
    ys ≡ map lost (take i xs) ++ drop i xs → get_or ys i x ≡ get_or xs i x
left_as_it_was [] ys i x within are = grind arith
left_as_it_was (d ∷ docs) ys i x within are = grind (arith, common_steps)

pub told_more : (says : Says) (encoding : Encoding) (xs : List Doc) (i : ℕ) (x : Doc) →
    i < length xs →
    said_of (told_of_all says encoding (take (i + 1) xs))
    ≡ said_of (told_of_all says encoding (take i xs))
    ++ said_of (told_of says encoding lost (get_or xs i x))
told_more says encoding xs i x within =
    let step : Doc → List Reply = told_of says encoding lost in
    let front : List Doc = take i xs in
    ap (λ (docs : List Doc). said_of (flat_map step docs)) (take_more xs i x within)
    ∙ ap said_of (flat_map-append step front (get_or xs i x ∷ []))
    ∙ said_append (flat_map step front) (step (get_or xs i x) ++ [])
    ∙ ap (λ (rs : List Reply). said_of (flat_map step front) ++ said_of rs)
    (append-nil (step (get_or xs i x)))

pub said_more : (says : Says) (encoding : Encoding) (xs ys : List Doc) (i : ℕ) (x : Doc)
    (first before now : List ℕ) → i < length xs → ys ≡ map lost (take i xs) ++ drop i xs →
    before ≡ first ++ said_of (told_of_all says encoding (take i xs)) →
    now ≡ before ++ said_of (told_of says encoding lost (get_or ys i x)) →
    now ≡ first ++ said_of (told_of_all says encoding (take (i + 1) xs))
said_more says encoding xs ys i x first before now within are was is =
    let front : List ℕ = said_of (told_of_all says encoding (take i xs)) in
    is
    ∙ ap (λ (d : Doc). before ++ said_of (told_of says encoding lost d))
    (left_as_it_was xs ys i x within are)
    ∙ ap (λ (l : List ℕ). l ++ said_of (told_of says encoding lost (get_or xs i x))) was
    ∙ append_assoc first front (said_of (told_of says encoding lost (get_or xs i x)))
    ∙ ap (λ (l : List ℕ). first ++ l) (sym (told_more says encoding xs i x within))
