use Rattle.std.proofs.Common.{◌≡◌, ◌++◌, drop, flat_map}
use Rattle.snl_forms.specs.Escapes.{uri_byte}
use Rattle.snl_forms.proofs.escape.put_uri.Given as goal

-- what was written, and what is still to be, is all
abbrev pub invariant-loop-byte : goal.invariant-loop-byte
invariant-loop-byte l =
    l.out.items ++ flat_map uri_byte (drop l.byte-index l.bytes)
    ≡ l.initial.out.items ++ flat_map uri_byte l.bytes
