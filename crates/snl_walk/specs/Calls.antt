-- What the built-in functions ask of their first argument. They are told by their names, whatever
-- declares these.
use Rattle.std.specs.Prelude.{ℕ, Bool, ◌||◌, codes, List, Option, Some, None, if◌then◌else◌}
use Rattle.std.specs.Str.{bytes_eq}
use Rattle.snl_walk.specs.declared.occurrence.ArgumentRole.{ArgumentRole}
use Rattle.snl_walk.specs.declared.occurrence.ArgumentRole.TheVariants as role

abbrev pub asks_for_flag : List ℕ → Bool
asks_for_flag name =
    bytes_eq name (codes "efSet") || bytes_eq name (codes "efTest") || bytes_eq name (codes "efClear") || bytes_eq name (codes "efTestAndClear")

-- Those that do something with a channel, and those that tell something of it.
abbrev pub acts_on_channel : List ℕ → Bool
acts_on_channel name =
    bytes_eq name (codes "pvGet") || bytes_eq name (codes "pvPut") || bytes_eq name (codes "pvMonitor") || bytes_eq name (codes "pvStopMonitor") || bytes_eq name (codes "pvAssign")

abbrev pub tells_of_channel : List ℕ → Bool
tells_of_channel name =
    bytes_eq name (codes "pvConnected") || bytes_eq name (codes "pvAssigned") || bytes_eq name (codes "pvStatus") || bytes_eq name (codes "pvSeverity") || bytes_eq name (codes "pvTimeStamp")

abbrev pub asks_for_channel : List ℕ → Bool
asks_for_channel name = acts_on_channel name || tells_of_channel name

abbrev pub role_by : List ℕ → ArgumentRole
role_by name = if asks_for_flag name then role.EventFlag else (if asks_for_channel name then role.Channel else role.Any)

-- The role of the first argument in the call of the name at this token, if it is one.
abbrev pub role_in : (ℕ → List ℕ) → Option ℕ → ArgumentRole
role_in bytes None = role.Any
role_in bytes (Some call) = role_by (bytes call)
