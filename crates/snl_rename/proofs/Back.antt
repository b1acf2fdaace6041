-- A rename back: its edits are those that undo the first one.
use Rattle.std.proofs.Common.{◌≡◌, ℕ, ◌+◌, ◌-◌, ◌<◌, ◌≤◌, Bool, true, false, cond, List, [], ◌∷◌, drop, length, map, take, Option, None, Some, option_map, slice_get, refl, sym, ap, ap₂, subst, ◌∙◌, arith}
use Rattle.std.specs.List.{AllByRecursion as Each, cons_option, filter_map}
use Rattle.std.specs.Option.{option_map_or}
use Rattle.std.specs.Prelude.{option_and_then}
use Rattle.std.proofs.lemmas.List.{length-take}
use Rattle.std.proofs.lemmas.Option.{slice_get-map}
use Rattle.snl_lex.specs.declared.piece.Piece.{Piece}
use Rattle.snl_lex.specs.Pieces.{pieces_of}
use Rattle.snl_tables.specs.declared.rows.Span.{Span}
use Rattle.snl_kept.specs.Program.{item_tokens}
use Rattle.snl_questions.specs.declared.meanings.items.TokenPlace.{TokenPlace}
use Rattle.snl_questions.specs.declared.mentions.mention.Mention.{Mention}
use Rattle.snl_questions.specs.declared.mentions.mention.Reference.{Reference}
use Rattle.snl_questions.specs.Items.{span_at, span_of}
use Rattle.snl_questions.specs.Meanings.{span_bytes}
use Rattle.snl_questions.specs.Mentions.{mentioned_near, mentions_in, reference_by, reference_to, references_near, references_of, same_place}
use Rattle.snl_alike.specs.Edits.{Edit, Rise, moved_stop, with_edits}
use Rattle.snl_alike.specs.Same.{AreAlike}
use Rattle.snl_alike.specs.Undone.{HasOldBytes, moved_token, undone, undone_at}
use Rattle.snl_rename.specs.Names.{IsFreeName}
use Rattle.snl_rename.specs.Renaming.{IsRenaming, edit_to}

-- ---- spans of tokens that have moved

abbrev moved_span : List Edit → Span → Span
moved_span es s = record {
  start = moved_stop es s.start;
  len = moved_stop es (s.start + s.len) - moved_stop es s.start;
}

of_token : (es : List Edit) (o : Option Piece) →
    option_map span_of (option_map (moved_token es) o) ≡
    option_map (moved_span es) (option_map span_of o)
of_token es None = refl
of_token es (Some p) = refl

span_moved : (es : List Edit) (xs : List (List Piece)) (i n : ℕ) →
    span_at (map (map (moved_token es)) xs) i n ≡ option_map (moved_span es) (span_at xs i n)
span_moved es xs i n =
    ap (λ (o : Option (List Piece)). option_and_then
    (λ own. option_map span_of (slice_get own n)) o)
    (slice_get-map (map (moved_token es)) xs i)
    ∙ by (slice_get xs i)
  where
    by : (o : Option (List Piece)) →
        option_and_then (λ own. option_map span_of (slice_get own n))
        (option_map (map (moved_token es)) o) ≡ option_map (moved_span es)
        (option_and_then (λ own. option_map span_of (slice_get own n)) o)
    by None = refl
    by (Some own) =
        ap (λ (o : Option Piece). option_map span_of o) (slice_get-map (moved_token es) own n)
        ∙ of_token es (slice_get own n)

-- ---- the edits of the rename back

abbrev edit_back : (old : List ℕ) → List Edit → Reference → Edit
edit_back old es r = edit_to old (record r { span = moved_span es r.span })

one_back : (old : List ℕ) (es : List Edit) (xs : List (List Piece)) (q : TokenPlace) (m : Mention) →
    option_map (edit_to old) (reference_to (map (map (moved_token es)) xs) q m) ≡
    option_map (edit_back old es) (reference_to xs q m)
one_back old es xs q m = by (same_place m.means q)
  where
    spanned : (o : Option Span) →
        option_map (edit_to old) (option_map (reference_by m) (option_map (moved_span es) o)) ≡
        option_map (edit_back old es) (option_map (reference_by m) o)
    spanned None = refl
    spanned (Some s) = refl

    by : (b : Bool) → option_map (edit_to old) (cond b (option_map (reference_by m)
        (span_at (map (map (moved_token es)) xs) m.at.item m.at.token)) None) ≡
        option_map (edit_back old es)
        (cond b (option_map (reference_by m) (span_at xs m.at.item m.at.token)) None)
    by true =
        ap (λ (o : Option Span). option_map (edit_to old) (option_map (reference_by m) o))
        (span_moved es xs m.at.item m.at.token)
        ∙ spanned (span_at xs m.at.item m.at.token)
    by false = refl

consed : {X Y Z : Type 0} (g : X → Z) (h : Y → Z) (a : Option X) (b : Option Y) (xs : List X)
    (ys : List Y) → option_map g a ≡ option_map h b → map g xs ≡ map h ys →
    map g (cons_option a xs) ≡ map h (cons_option b ys)
consed g h None None xs ys one rest = rest
consed g h None (Some y) xs ys one rest = absurd cc
consed g h (Some x) None xs ys one rest = absurd cc
consed {Z = Z} g h (Some x) (Some y) xs ys one rest =
    let same : g x ≡ h y = cc in ap₂ (λ (z : Z) (zs : List Z). z ∷ zs) same rest

all_back : (old : List ℕ) (es : List Edit) (xs : List (List Piece)) (q : TokenPlace)
    (ms : List Mention) →
    map (edit_to old) (filter_map (reference_to (map (map (moved_token es)) xs) q) ms) ≡
    map (edit_back old es) (filter_map (reference_to xs q) ms)
all_back old es xs q [] = refl
all_back old es xs q (m ∷ ms) =
    consed (edit_to old) (edit_back old es) (reference_to (map (map (moved_token es)) xs) q m)
    (reference_to xs q m) (filter_map (reference_to (map (map (moved_token es)) xs) q) ms)
    (filter_map (reference_to xs q) ms) (one_back old es xs q m) (all_back old es xs q ms)

near_back : (text new old : List ℕ) (offset back : ℕ) (es : List Edit) →
    item_tokens new ≡ map (map (moved_token es)) (item_tokens text) →
    mentions_in new ≡ mentions_in text → mentioned_near new back ≡ mentioned_near text offset →
    map (edit_to old) (references_near new back) ≡
    map (edit_back old es) (references_near text offset)
unfolding references_near
near_back text new old offset back es items mentions near =
    ap (λ (o : Option TokenPlace). map (edit_to old) (option_map_or (references_of new) o [])) near
    ∙ by (mentioned_near text offset)
  where
    by : (o : Option TokenPlace) →
        map (edit_to old) (option_map_or (references_of new) o []) ≡
        map (edit_back old es) (option_map_or (references_of text) o [])
    by None = refl
    by (Some q) =
        ap₂ (λ (xs : List (List Piece)) (ms : List Mention).
        map (edit_to old) (filter_map (reference_to xs q) ms)) items mentions
        ∙ all_back old es (item_tokens text) q (mentions_in text)

-- ---- they undo the first one

some_bytes : (name : List ℕ) → IsFreeName name → 0 < length name
unfolding pieces_of
some_bytes [] free = let no = free.one in absurd cc
some_bytes (b ∷ bs) free = omega arith

some_old : (text name old : List ℕ) (rs : List Reference) → 0 < length old →
    Each (λ r. span_bytes text r.span ≡ old) rs → Each HasOldBytes (map (edit_to name) rs)
some_old text name old [] some same = tt
some_old text name old (r ∷ rs) some same =
    let count : length (span_bytes text r.span) ≡ length old =
    ap (λ (l : List ℕ). length l) same.0 in (
      omega (arith, some, count, length-take r.span.len (drop r.span.start text)),
      some_old text name old rs some same.1,
    )

undoes : (text name old : List ℕ) (es : List Edit) (rs : List Reference) →
    ((one other : ℕ) → one ≤ other → moved_stop es one ≤ moved_stop es other) →
    Each (λ r. span_bytes text r.span ≡ old) rs →
    map (edit_back old es) rs ≡ map (undone_at text es) (map (edit_to name) rs)
undoes text name old es [] order same = refl
undoes text name old es (r ∷ rs) order same =
    let start = r.span.start in
    let stop = r.span.start + r.span.len in
    let f = moved_stop es in
    let edit : ℕ → List ℕ → Edit = λ n l. record { start = f start; stop = n; new = l } in
    let stops : f start + (f stop - f start) ≡ f stop =
    omega (arith, order start stop (omega arith)) in
    let len : stop - start ≡ r.span.len = omega arith in
    let bytes : old ≡ take (stop - start) (drop start text) =
    sym same.0 ∙ ap (λ (n : ℕ). take n (drop start text)) (sym len) in
    ap₂ (λ (x : Edit) (xs : List Edit). x ∷ xs) (ap₂ edit stops bytes)
    (undoes text name old es rs order same.1)

pub text_back : ((text : List ℕ) (es : List Edit) → Rise 0 (length text) es →
    with_edits (with_edits text es) (undone text es) ≡ text) →
    ((text : List ℕ) (es : List Edit) → Rise 0 (length text) es → Each HasOldBytes es →
    undone text es ≡ map (undone_at text es) es) →
    ((text : List ℕ) (es : List Edit) (one other : ℕ) → Rise 0 (length text) es → one ≤ other →
    moved_stop es one ≤ moved_stop es other) →
    ((text : List ℕ) (es : List Edit) (new : List ℕ) → AreAlike text es new →
    item_tokens new ≡ map (map (moved_token es)) (item_tokens text)) →
    (text name old : List ℕ) (offset back : ℕ) (there here : List Edit) →
    IsRenaming text offset name there → IsRenaming (with_edits text there) back old here →
    mentioned_near (with_edits text there) back ≡ mentioned_near text offset →
    Each (λ r. span_bytes text r.span ≡ old) (references_near text offset) →
    with_edits (with_edits text there) here ≡ text
text_back undoing moves order tokens text name old offset back there here one other near same =
    let new = with_edits text there in
    let rs = references_near text offset in
    let rise = one.says.apart in
    let alike = one.says.alike in
    let some : Each HasOldBytes there =
    subst (λ (es : List Edit). Each HasOldBytes es) (sym one.exactly)
    (some_old text name old rs (some_bytes old other.free) same) in
    let are : here ≡ undone text there =
    other.exactly
    ∙ near_back text new old offset back there (tokens text there new alike) alike.meanings near
    ∙ undoes text name old there rs (λ a b. order text there a b rise) same
    ∙ ap (map (undone_at text there)) (sym one.exactly)
    ∙ sym (moves text there rise some) in
    ap (with_edits new) are ∙ undoing text there rise
