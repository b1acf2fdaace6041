-- Bytes that print, and the parts of lines.
use Rattle.std.proofs.Common.{◌≡◌, ℕ, zero, suc, ◌<◌, ◌/◌, ◌%◌, Bool, true, false, List, [], ◌∷◌, ◌++◌, length, drop, Option, Some, None, refl, ◌∙◌, arith}
use Rattle.std.specs.Prelude.{◌==◌, ◌&&◌, nat_le, All, codes, decimal, if◌then◌else◌}
use Rattle.std.specs.Fmt.{digit_glyph, digits, digits_onto}
use Rattle.std.specs.List.{AllByRecursion, concat, flat_map, list_all}
use Rattle.std.proofs.lemmas.Bool.{agree_below_at, and_from, and_parts, leb-true}
use Rattle.std.proofs.lemmas.List.Elements.{All-drop, All-head, All-tail, All-take, All-weaker}
use Rattle.std.proofs.lemmas.List.Folds.{list_all-append}
use Rattle.std.proofs.lemmas.List.Sums.{AllPass-from_list_all}
use Rattle.snl_tables.specs.declared.rows.Destination.{Destination}
use Rattle.snl_tables.specs.declared.rows.Destination.TheVariants.{State, Exit}
use Rattle.snl_tables.specs.declared.rows.NamedState.{NamedState}
use Rattle.snl_tables.specs.declared.rows.Queue.{Queue}
use Rattle.snl_tables.specs.declared.rows.Queue.TheVariants.{Unqueued, Default, Length}
use Rattle.snl_tables.specs.declared.rows.ScopeName.{ScopeName}
use Rattle.snl_tables.specs.declared.rows.ScopeName.TheVariants as scope
use Rattle.snl_tables.specs.declared.rows.Span.{Span}
use Rattle.snl_tables.specs.declared.rows.StateMark.{StateMark}
use Rattle.snl_tables.specs.declared.rows.StateMark.TheVariants.{Faulty, Repeated, Unknown, Reached, Unreached}
use Rattle.snl_tables.specs.declared.rows.Synced.{Synced}
use Rattle.snl_listing.specs.Escapes.{escaped, escaped_byte}
use Rattle.snl_listing.specs.Listing.{bytes_of, destination_text, element_text, file_text, flag_text, mark_text, monitor_text, name_of, name_or_none, none_text, queue_text, scope_text, sync_text, target_text}
use Rattle.snl_table_laws.specs.Lines.{IsByte, IsPrinted}

abbrev pub prints : ℕ → Bool
prints b = nat_le 32 b && nat_le b 126

abbrev pub Prints : List ℕ → Type 0
Prints bytes = list_all prints bytes ≡ true

prints_byte : (b : ℕ) → prints b ≡ true → IsPrinted b
prints_byte b h = let p = and_parts (nat_le 32 b) (nat_le b 126) h in (leb-true 32 b p.0, leb-true b 126 p.1)

pub printed : (bytes : List ℕ) → Prints bytes → All IsPrinted bytes
printed bytes h = All-weaker (λ b. prints b ≡ true) IsPrinted prints_byte bytes (AllPass-from_list_all prints bytes h)

-- ---- parts one after another

pub prints-append : (xs ys : List ℕ) → Prints xs → Prints ys → Prints (xs ++ ys)
prints-append xs ys p q = list_all-append prints xs ys ∙ and_from (list_all prints xs) (list_all prints ys) p q

pub prints_joined : (parts : List (List ℕ)) → AllByRecursion Prints parts → Prints (concat parts)
prints_joined [] h = refl
prints_joined (part ∷ parts) h = prints-append part (concat parts) h.0 (prints_joined parts h.1)

pub prints_each : {X : Type 0} (f : X → List ℕ) → ((x : X) → Prints (f x)) → (xs : List X) → Prints (flat_map f xs)
prints_each f h [] = refl
prints_each f h (x ∷ xs) = prints-append (f x) (flat_map f xs) (h x) (prints_each f h xs)

-- ---- numbers

glyph_prints : (n : ℕ) → prints (digit_glyph false (n % 10)) ≡ true
glyph_prints n = let small : n % 10 < 10 = omega arith in agree_below_at (λ d. prints (digit_glyph false d)) (λ d. true) 10 (n % 10) refl small

digits_print : (k n : ℕ) (after : List ℕ) → Prints after → Prints (digits_onto k 10 false n after)
digits_print zero n after h = h
digits_print (suc k) n after h =
    let with_digit : Prints (digit_glyph false (n % 10) ∷ after) = and_from (prints (digit_glyph false (n % 10))) (list_all prints after) (glyph_prints n) h in
    elim (n / 10 == 0) as (λ (b : Bool). Prints (if b then digit_glyph false (n % 10) ∷ after else digits_onto k 10 false (n / 10) (digit_glyph false (n % 10) ∷ after)))
    [ true ↦ with_digit | false ↦ digits_print k (n / 10) (digit_glyph false (n % 10) ∷ after) with_digit ]

pub number_prints : (n : ℕ) → Prints (decimal n)
unfolding digits
number_prints n = digits_print 64 n [] refl

-- ---- bytes as they are shown

pub byte_prints : (b : ℕ) → IsByte b → Prints (escaped_byte b)
byte_prints b h = agree_below_at (λ n. list_all prints (escaped_byte n)) (λ n. true) 256 b refl h

pub bytes_print : (bytes : List ℕ) → All IsByte bytes → Prints (escaped bytes)
bytes_print [] h = refl
bytes_print (b ∷ bs) h =
    prints-append (escaped_byte b) (escaped bs) (byte_prints b (All-head IsByte b bs h)) (bytes_print bs (All-tail IsByte b bs h))

part_prints : (text : List ℕ) → All IsByte text → (start len : ℕ) → Prints (escaped (bytes_of text start len))
part_prints text h start len = bytes_print (bytes_of text start len) (All-take IsByte len (drop start text) (All-drop IsByte start text h))

pub name_prints : (text : List ℕ) → All IsByte text → (name : Span) → Prints (name_of text name)
name_prints text h name = part_prints text h name.start name.len

-- ---- parts of lines

pub name_or_none_prints : (text : List ℕ) → All IsByte text → (name : Option Span) → Prints (name_or_none text name)
name_or_none_prints text h None = refl
name_or_none_prints text h (Some name) = name_prints text h name

pub scope_prints : (text : List ℕ) → All IsByte text → (s : ScopeName) → Prints (scope_text text s)
scope_prints text h scope.Program = refl
scope_prints text h (scope.StateSet set) = name_prints text h set
scope_prints text h (scope.State set state) =
    prints_joined (name_or_none text set ∷ codes "." ∷ name_of text state ∷ []) (name_or_none_prints text h set, (refl, (name_prints text h state, tt)))

pub file_prints : (text : List ℕ) → All IsByte text → (file : Option (ℕ × ℕ)) → Prints (file_text text file)
file_prints text h None = refl
file_prints text h (Some file) =
    prints_joined (codes " in \"" ∷ escaped (bytes_of text file.0 file.1) ∷ codes "\"" ∷ []) (refl, (part_prints text h file.0 file.1, (refl, tt)))

pub element_prints : (element : Option ℕ) → Prints (element_text element)
element_prints None = refl
element_prints (Some element) = prints_joined (codes "[" ∷ decimal element ∷ codes "]" ∷ []) (refl, (number_prints element, (refl, tt)))

pub monitor_prints : (is_monitored : Bool) → Prints (monitor_text is_monitored)
monitor_prints true = refl
monitor_prints false = refl

pub flag_prints : (flag : Option ℕ) → Prints (flag_text flag)
flag_prints None = refl
flag_prints (Some flag) = number_prints flag

pub queue_prints : (flag : List ℕ) → Prints flag → (queue : Queue) → Prints (queue_text flag queue)
queue_prints flag h Unqueued = prints_joined (codes " sync " ∷ flag ∷ []) (refl, (h, tt))
queue_prints flag h Default = prints_joined (codes " syncq " ∷ flag ∷ codes " default" ∷ []) (refl, (h, (refl, tt)))
queue_prints flag h (Length slots) = prints_joined (codes " syncq " ∷ flag ∷ codes " " ∷ decimal slots ∷ []) (refl, (h, (refl, (number_prints slots, tt))))

pub sync_prints : (sync : Option Synced) → Prints (sync_text sync)
sync_prints None = refl
sync_prints (Some sync) = queue_prints (flag_text sync.flag) (flag_prints sync.flag) sync.queue

pub mark_prints : (mark : StateMark) → Prints (mark_text mark)
mark_prints Faulty = refl
mark_prints Repeated = refl
mark_prints Unknown = refl
mark_prints Reached = refl
mark_prints Unreached = refl

known_prints : (is_known : Bool) → Prints (if is_known then [] else codes " ?")
known_prints true = refl
known_prints false = refl

pub target_prints : (text : List ℕ) → All IsByte text → (target : NamedState) → Prints (target_text text target)
target_prints text h target =
    prints-append (name_of text target.name) (if target.is_known then [] else codes " ?") (name_prints text h target.name) (known_prints target.is_known)

pub destination_prints : (text : List ℕ) → All IsByte text → (destination : Destination) → Prints (destination_text text destination)
destination_prints text h (State target) = target_prints text h target
destination_prints text h Exit = refl

empty_prints : (is_empty : Bool) → Prints (if is_empty then codes " -" else [])
empty_prints true = refl
empty_prints false = refl

pub none_prints : (flags channels : List ℕ) → Prints (none_text flags channels)
none_prints flags channels = empty_prints (length flags == 0 && length channels == 0)
