-- The bytes of a string are written by runs of those that are themselves.
use Rattle.std.proofs.Common.{◌≡◌, ◌∙◌, ℕ, ◌+◌, ◌-◌, ◌<◌, List, [], ◌++◌, length, take, drop, get_or, ap, sym, append-nil, arith}
use Rattle.std.proofs.lemmas.List.{drop_all, drop_more}
use Rattle.std.specs.List.{prefix_len}
use Rattle.json.proofs.Printed.Room.{moved}
use Rattle.json.proofs.Printed.Strings.{escape_to_stop}
use Rattle.json.specs.Print.{escape, escape_byte}
use Rattle.json.specs.Run.{is_plain}

-- from where a run begins up to where it ends
run : (bytes : List ℕ) (start end : ℕ) → end ≡ start + prefix_len is_plain (drop start bytes) →
    escape (drop start bytes) ≡ take (end - start) (drop start bytes) ++ escape (drop end bytes)
run bytes start end is =
    sym (append-nil (escape (drop start bytes)))
    ∙ escape_to_stop bytes start end [] is
    ∙ ap (λ (l : List ℕ). take (end - start) (drop start bytes) ++ l)
    (append-nil (escape (drop end bytes)))

-- a run and the byte after it
pub run_more : (bytes out mid new whole : List ℕ) (start end : ℕ) →
    end ≡ start + prefix_len is_plain (drop start bytes) → end < length bytes →
    mid ≡ out ++ take (end - start) (drop start bytes) →
    new ≡ mid ++ escape_byte (get_or bytes end 0) →
    out ++ escape (drop start bytes) ≡ whole → new ++ escape (drop (end + 1) bytes) ≡ whole
run_more bytes out mid new whole start end is within wrote wrote_byte e =
    moved mid new _ _ _ whole wrote_byte (ap escape (drop_more bytes end 0 within))
    (moved out mid _ _ _ whole wrote (run bytes start end is) e)

-- the run that no byte is after
pub run_last : (bytes out mid whole : List ℕ) (start end : ℕ) →
    end ≡ start + prefix_len is_plain (drop start bytes) → end ≡ length bytes →
    mid ≡ out ++ take (end - start) (drop start bytes) →
    out ++ escape (drop start bytes) ≡ whole → mid ≡ whole
run_last bytes out mid whole start end is at_end wrote e =
    sym (append-nil mid)
    ∙ ap (λ (l : List ℕ). mid ++ escape l) (sym (drop_all end bytes (omega arith)))
    ∙ moved out mid _ _ _ whole wrote (run bytes start end is) e
