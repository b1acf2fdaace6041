-- Each row is one line.
use Rattle.std.proofs.Common.{◌≡◌, ℕ, Bool, true, false, List, [], ◌∷◌, ◌++◌, Option, refl, ap, ◌∙◌, sym}
use Rattle.std.specs.Prelude.{All, codes, decimal, if◌then◌else◌}
use Rattle.std.specs.List.{AllByRecursion, concat, flat_map}
use Rattle.std.proofs.lemmas.List.{append-nil, append_assoc}
use Rattle.snl_tables.specs.declared.rows.ChannelRow.{ChannelRow}
use Rattle.snl_tables.specs.declared.rows.Destination.{Destination}
use Rattle.snl_tables.specs.declared.rows.FlagRow.{FlagRow}
use Rattle.snl_tables.specs.declared.rows.NamedState.{NamedState}
use Rattle.snl_tables.specs.declared.rows.OptionRow.{OptionRow}
use Rattle.snl_tables.specs.declared.rows.SetRow.{SetRow}
use Rattle.snl_tables.specs.declared.rows.Span.{Span}
use Rattle.snl_tables.specs.declared.rows.StateRow.{StateRow}
use Rattle.snl_listing.specs.Escapes.{escaped, escaped_byte}
use Rattle.snl_listing.specs.Listing.{channel_line, destination_text, element_text, file_text, flag_line, goto_line, mark_text, monitor_text, name_of, name_or_none, none_text, option_line, program_line, scope_text, set_line, state_line, sync_text, target_text, wake_line, when_line}
use Rattle.snl_table_laws.specs.Lines.{HasByteLetter, HasBytePv, IsByte, IsLine}
use Rattle.snl_table_laws.proofs.Printed.{Prints, byte_prints, bytes_print, destination_prints, element_prints, file_prints, mark_prints, monitor_prints, name_or_none_prints, name_prints, none_prints, number_prints, printed, prints-append, prints_each, prints_joined, scope_prints, sync_prints, target_prints}

joined-append : (parts : List (List ℕ)) (last : List ℕ) → concat (parts ++ (last ∷ [])) ≡ concat parts ++ last
joined-append [] last = append-nil last
joined-append (part ∷ parts) last = ap (λ (l : List ℕ). part ++ l) (joined-append parts last) ∙ sym (append_assoc part (concat parts) last)

-- Parts that print, and a line end after them.
line_of : (parts : List (List ℕ)) → AllByRecursion Prints parts → IsLine (concat (parts ++ (codes "\n" ∷ [])))
line_of parts h = record { shown = concat parts; prints = printed (concat parts) (prints_joined parts h); whole = joined-append parts (codes "\n") }

pub program_is_line : (text : List ℕ) → All IsByte text → (program : Option Span) → IsLine (program_line text program)
program_is_line text h program = line_of (codes "program " ∷ name_or_none text program ∷ []) (refl, (name_or_none_prints text h program, tt))

setting_prints : (is_set : Bool) → Prints (if is_set then codes "option +" else codes "option -")
setting_prints true = refl
setting_prints false = refl

pub option_is_line : (indent : List ℕ) → Prints indent → (row : OptionRow) → HasByteLetter row → IsLine (option_line indent row)
option_is_line indent space row h =
    line_of (indent ∷ (if row.is_set then codes "option +" else codes "option -") ∷ escaped_byte row.letter ∷ []) (space, (setting_prints row.is_set, (byte_prints row.letter h, tt)))

pub flag_is_line : (text : List ℕ) → All IsByte text → (n : ℕ) (row : FlagRow) → IsLine (flag_line text n row)
flag_is_line text h n row =
    line_of (codes "flag " ∷ decimal n ∷ codes " " ∷ name_of text row.name ∷ codes " " ∷ scope_text text row.scope ∷ [])
    (refl, (number_prints n, (refl, (name_prints text h row.name, (refl, (scope_prints text h row.scope, tt))))))

pub channel_is_line : (text : List ℕ) → All IsByte text → (n : ℕ) (row : ChannelRow) → HasBytePv row → IsLine (channel_line text n row)
channel_is_line text h n row pv =
    line_of (codes "channel " ∷ decimal n ∷ codes " " ∷ name_of text row.variable ∷ element_text row.element ∷ codes " " ∷ scope_text text row.scope
    ∷ codes " \"" ∷ escaped row.pv ∷ codes "\"" ∷ monitor_text row.is_monitored ∷ sync_text row.sync ∷ []) (
      refl,
      (
        number_prints n,
        (
          refl,
          (
            name_prints text h row.variable,
            (
              element_prints row.element,
              (
                refl,
                (
                  scope_prints text h row.scope,
                  (refl, (bytes_print row.pv pv, (refl, (monitor_prints row.is_monitored, (sync_prints row.sync, tt))))),
                ),
              ),
            ),
          ),
        ),
      ),
    )

pub set_is_line : (text : List ℕ) → All IsByte text → (row : SetRow) → IsLine (set_line text row)
set_is_line text h row =
    line_of (codes "ss " ∷ name_of text row.name ∷ codes " line " ∷ decimal row.line.number ∷ file_text text row.line.file ∷ [])
    (refl, (name_prints text h row.name, (refl, (number_prints row.line.number, (file_prints text h row.line.file, tt)))))

pub state_is_line : (text : List ℕ) → All IsByte text → (row : StateRow) → IsLine (state_line text row)
state_is_line text h row =
    line_of (codes "state " ∷ name_of text row.name ∷ codes " line " ∷ decimal row.line.number ∷ file_text text row.line.file ∷ codes " " ∷ mark_text row.mark ∷ [])
    (refl, (name_prints text h row.name, (refl, (number_prints row.line.number, (file_prints text h row.line.file, (refl, (mark_prints row.mark, tt)))))))

pub when_is_line : (text : List ℕ) → All IsByte text → (k : ℕ) (destination : Destination) → IsLine (when_line text k destination)
when_is_line text h k destination =
    line_of (codes "  when " ∷ decimal k ∷ codes " " ∷ destination_text text destination ∷ []) (refl, (number_prints k, (refl, (destination_prints text h destination, tt))))

pub goto_is_line : (text : List ℕ) → All IsByte text → (target : NamedState) → IsLine (goto_line text target)
goto_is_line text h target = line_of (codes "  goto " ∷ target_text text target ∷ []) (refl, (target_prints text h target, tt))

numbered_prints : (letter : List ℕ) → Prints letter → (numbers : List ℕ) → Prints (flat_map (λ n. letter ++ decimal n) numbers)
numbered_prints letter h numbers = prints_each (λ n. letter ++ decimal n) (λ n. prints-append letter (decimal n) h (number_prints n)) numbers

pub wake_is_line : (flags channels : List ℕ) → IsLine (wake_line flags channels)
wake_is_line flags channels =
    line_of (codes "  wake" ∷ flat_map (λ n. codes " f" ++ decimal n) flags ∷ flat_map (λ n. codes " c" ++ decimal n) channels ∷ none_text flags channels ∷ [])
    (refl, (numbered_prints (codes " f") refl flags, (numbered_prints (codes " c") refl channels, (none_prints flags channels, tt))))
