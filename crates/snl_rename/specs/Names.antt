-- Names that are free: the language leaves them to programs.
use Rattle.std.specs.Prelude.{◌≡◌, ℕ, ◌==◌, ◌≤◌, Bool, false, true, ◌&&◌, ◌||◌, codes, nat_eq, List, [], ◌∷◌, length}
use Rattle.std.specs.List.{starts_with}
use Rattle.std.specs.Str.{bytes_eq}
use Rattle.snl_lex.specs.declared.piece.Class.{Class}
use Rattle.snl_lex.specs.declared.piece.Class.TheVariants.{Name}
use Rattle.snl_lex.specs.declared.piece.Piece.{Piece}
use Rattle.snl_lex.specs.Pieces.{pieces_of}

-- The constants.
abbrev pub is_constant : List ℕ → Bool
is_constant name = bytes_eq name (codes "TRUE")
    || bytes_eq name (codes "FALSE")
    || bytes_eq name (codes "SYNC")
    || bytes_eq name (codes "ASYNC")
    || bytes_eq name (codes "NOEVFLAG")

abbrev pub is_channel_constant : List ℕ → Bool
is_channel_constant name = starts_with nat_eq name (codes "pvStat")
    || starts_with nat_eq name (codes "pvSevr")

-- The functions that are built in: of event flags, of channels, of arrays of these, and others.
abbrev pub asks_for_flag : List ℕ → Bool
asks_for_flag name = bytes_eq name (codes "efSet")
    || bytes_eq name (codes "efTest")
    || bytes_eq name (codes "efClear")
    || bytes_eq name (codes "efTestAndClear")

abbrev pub acts_on_channel : List ℕ → Bool
acts_on_channel name = bytes_eq name (codes "pvGet")
    || bytes_eq name (codes "pvPut")
    || bytes_eq name (codes "pvMonitor")
    || bytes_eq name (codes "pvStopMonitor")
    || bytes_eq name (codes "pvAssign")
    || bytes_eq name (codes "pvAssignSubst")

abbrev pub tells_of_channel : List ℕ → Bool
tells_of_channel name = bytes_eq name (codes "pvConnected")
    || bytes_eq name (codes "pvAssigned")
    || bytes_eq name (codes "pvStatus")
    || bytes_eq name (codes "pvSeverity")
    || bytes_eq name (codes "pvTimeStamp")
    || bytes_eq name (codes "pvMessage")
    || bytes_eq name (codes "pvName")

abbrev pub counts_channels : List ℕ → Bool
counts_channels name = bytes_eq name (codes "pvCount")
    || bytes_eq name (codes "pvIndex")
    || bytes_eq name (codes "pvChannelCount")
    || bytes_eq name (codes "pvConnectCount")
    || bytes_eq name (codes "pvAssignCount")

abbrev pub acts_on_queue : List ℕ → Bool
acts_on_queue name = bytes_eq name (codes "pvGetQ")
    || bytes_eq name (codes "pvFreeQ")
    || bytes_eq name (codes "pvFlushQ")
    || bytes_eq name (codes "pvFlush")
    || bytes_eq name (codes "pvSync")

abbrev pub ends_request : List ℕ → Bool
ends_request name = bytes_eq name (codes "pvGetComplete")
    || bytes_eq name (codes "pvGetCancel")
    || bytes_eq name (codes "pvPutComplete")
    || bytes_eq name (codes "pvPutCancel")

abbrev pub asks_for_array : List ℕ → Bool
asks_for_array name = bytes_eq name (codes "pvArrayGetComplete")
    || bytes_eq name (codes "pvArrayGetCancel")
    || bytes_eq name (codes "pvArrayPutComplete")
    || bytes_eq name (codes "pvArrayPutCancel")
    || bytes_eq name (codes "pvArrayMonitor")
    || bytes_eq name (codes "pvArrayStopMonitor")
    || bytes_eq name (codes "pvArraySync")
    || bytes_eq name (codes "pvArrayConnected")

abbrev pub is_of_program : List ℕ → Bool
is_of_program name = bytes_eq name (codes "delay")
    || bytes_eq name (codes "optGet")
    || bytes_eq name (codes "macValueGet")

abbrev pub asks_for_channel : List ℕ → Bool
asks_for_channel name = acts_on_channel name
    || tells_of_channel name
    || counts_channels name
    || acts_on_queue name
    || ends_request name

abbrev pub is_built_in_function : List ℕ → Bool
is_built_in_function name = asks_for_flag name
    || asks_for_channel name
    || asks_for_array name
    || is_of_program name

-- Words of C that mean nothing here: what is made of the program is C.
abbrev pub is_c_statement : List ℕ → Bool
is_c_statement name = bytes_eq name (codes "case")
    || bytes_eq name (codes "default")
    || bytes_eq name (codes "do")
    || bytes_eq name (codes "goto")
    || bytes_eq name (codes "switch")

abbrev pub is_c_storage : List ℕ → Bool
is_c_storage name = bytes_eq name (codes "auto")
    || bytes_eq name (codes "extern")
    || bytes_eq name (codes "inline")
    || bytes_eq name (codes "register")
    || bytes_eq name (codes "signed")
    || bytes_eq name (codes "static")
    || bytes_eq name (codes "typedef")
    || bytes_eq name (codes "volatile")

abbrev pub is_c_word : List ℕ → Bool
is_c_word name = is_c_statement name
    || is_c_storage name

abbrev pub is_built_in : List ℕ → Bool
is_built_in name = is_constant name
    || is_channel_constant name
    || is_built_in_function name
    || is_c_word name

-- Pieces are one name of so many bytes.
abbrev pub is_name : Class → Bool
is_name Name = true
is_name _ = false

abbrev pub is_one_name : List Piece → (len : ℕ) → Bool
is_one_name (p ∷ []) len = is_name p.kind && p.start == 0 && p.len == len
is_one_name _ len = false

-- A name is free, where it is one name to the lexer and nothing that is built in.
pub record IsFreeName (name : List ℕ) : Type 0 where
  pub short : length name ≤ 200
  pub one : is_one_name (pieces_of name) (length name) ≡ true
  pub own : is_built_in name ≡ false
