-- Why a document isn't checked, as the user is told it after its URI.
use Rattle.std.specs.Prelude.{ℕ, List, codes}

unfoldable pub large_notice : List ℕ
large_notice = codes ": more than 1048576 bytes: not checked"

unfoldable pub lost_notice : List ℕ
lost_notice = codes ": a change could not be followed: open the file again"
